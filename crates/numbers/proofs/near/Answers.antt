-- `numbers::near` meets its contract: the remainder says on which side of the half a / b lies.
use mathlib.Core.Path.{sym, ap, ◌∙◌}
use native.Mathlib.Nat.{pos_of_ne-zero}
use Rattle.numbers.specs.Near.{near}
use Rattle.numbers.proofs.Rounding.{near_by_zero, near_down, near_up}
use Rattle.numbers.proofs.near.Goals as goal

pub returns-then-b-eq0 : goal.returns-then-b-eq0
returns-then-b-eq0 c = sym (ap (near c.args.a) c.if-b-eq0.true ∙ near_by_zero c.args.a)

pub returns-then-b-r : goal.returns-then-b-r
returns-then-b-r c = sym (near_up c.args.a c.args.b (pos_of_ne-zero c.if-b-eq0.false) c.if-b-r.true)

pub returns-else-b-r : goal.returns-else-b-r
returns-else-b-r c = sym (near_down c.args.a c.args.b (pos_of_ne-zero c.if-b-eq0.false) c.if-b-r.false)
