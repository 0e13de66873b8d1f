-- `filter::method::Method::coefficients` meets its contract: in method 7, C by the sign of s.
use Rattle.std.proofs.Common.{rules, w32, ap, ◌∙◌}
use Rattle.std.proofs.lemmas.Int.{to_z-of_z}
use mir.Val.{SFits}
use Rattle.filter.specs.Private.{weights_of}
use Rattle.filter.proofs.MethodNumbers.{signed_row}
use Rattle.filter.proofs.method.Method.coefficients.Goals as goal

pub returns-in-JakemanHornberger : goal.returns-in-JakemanHornberger
returns-in-JakemanHornberger c =
    let f : SFits w32 c.args.setting.s = search rules in
    ap weights_of c.row-in-JakemanHornberger.ensures ∙ signed_row _ c.in-JakemanHornberger.is c.from-p.ensures c.from-q.ensures (simp to_z-of_z at c.signed.ensures)
