-- `minima::piece::Piece::value` meets its contract.
use Prim.Native.Nat.{◌+◌, ◌*◌, ◌-◌}
use mathlib.Core.Path.{◌∙◌, ap, ap₂}
use Rattle.numbers.specs.Near.{near}
use Rattle.minima.proofs.Pieces.{capped}
use Rattle.minima.proofs.piece.Piece.value.Goals as goal

pub returns : goal.returns
returns c =
    let p = c.args.self.now in
    let t = c.args.t in
    c.min.ensures
    ∙ capped p.flows.now p.left p.right t (ap (λ y. 1000 * y) c.from-top.ensures)
    (c.near_small-straight.ensures ∙ ap₂ (λ y z. near (1000 * (y * (p.right - t) + z * (t - p.left))) (p.right - p.left)) (c.from.ensures ∙ p.first_is) (c.from-2.ensures ∙ p.last_is))
