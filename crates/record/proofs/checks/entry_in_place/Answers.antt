-- `record::checks::entry_in_place` meets its contract: the exits at a byte that names no kind, and at an entry out of its
-- place.
use mathlib.Core.Path.{◌≡◌, sym, ◌∙◌, ap}
use mathlib.Core.List.{◌∷◌}
use mathlib.Core.Option.{some}
use borrow.Author.Rules.{rules}
use Rattle.std.proofs.lemmas.Result.{err_from_is_err_and}
use Rattle.series.specs.Causes.{refusal_number}
use Rattle.record.proofs.Fronts.{unknown, out_of_place}
use Rattle.record.proofs.checks.entry_in_place.Goals as goal
use Rattle.record.proofs.checks.entry_in_place.Goals.{In_ok-byte}

here : (c : In_ok-byte) → c.args.bytes.now ≡ c.in_ok-byte.byte.now ∷ c.in_ok-byte.body.now
here c = search rules

pub returns-in_err-kind : goal.returns-in_err-kind
returns-in_err-kind c =
    let p = err_from_is_err_and c.from_residual-in_err-kind.result c.from_residual-in_err-kind.ensures.1 in
    rw (p.1, p.2) (λ n room. unknown c.args.first n room (here (goal.at.returns-in_err-kind c).In_ok-byte) c.in_err-kind.ensures.0 ∙ ap (λ e. some (refusal_number e)) (sym c.in_err-kind.ensures.1))

pub returns-then-is_misplaced : goal.returns-then-is_misplaced
returns-then-is_misplaced c =
    λ n room. out_of_place c.args.first n room (here (goal.at.returns-then-is_misplaced c).In_ok-byte) c.in_ok-kind.ensures (sym c.is_misplaced.ensures ∙ c.if-is_misplaced.true)
