-- `numbers::divisor::Divisor::divide` meets its contract: the product is the quotient, or falls short of it by one.
use Rattle.std.proofs.Common.{arith}
use Rattle.numbers.proofs.Reciprocals.{parts, parts_above, not_above, short_by_one}
use Rattle.numbers.proofs.divisor.Divisor.divide.Goals as goal

pub overflow_sub-remainder : goal.overflow_sub-remainder
overflow_sub-remainder c = rw (c.from.ensures, c.from-2.ensures) (not_above c.args.h c.args.self.above_zero c.args.self.reciprocal_is)

pub returns-then-remainder-self : goal.returns-then-remainder-self
returns-then-remainder-self c =
    let d = c.args.self in
    parts _ (rw (c.from.ensures, c.from-2.ensures) (not_above c.args.h d.above_zero d.reciprocal_is)) c.if-remainder-self.true

pub returns-else-remainder-self : goal.returns-else-remainder-self
returns-else-remainder-self c =
    let d = c.args.self in
    parts_above _ (rw (c.from.ensures, c.from-2.ensures) (not_above c.args.h d.above_zero d.reciprocal_is))
    (rw (c.from.ensures, c.from-2.ensures) (short_by_one c.args.h d.above_zero d.reciprocal_is (omega arith)))
    c.if-remainder-self.false
