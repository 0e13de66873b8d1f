-- `filter::usable::Filter::present` meets its contract: a segment's first day, or one behind a yesterday.
use Rattle.std.proofs.Common.{arith}
use Rattle.filter.proofs.Days.{valid_yesterday, first_base, later_base}
use Rattle.filter.proofs.usable.Filter.present.Goals as goal

pub smoothed-requires : goal.smoothed-requires
smoothed-requires c = omega (arith, valid_yesterday c.in-Some.is c.requires.valid)

pub returns-in-None : goal.returns-in-None
returns-in-None c =
    let both = first_base _ _ c.args.self.usable c.in-None.is (rw c.from-flow.ensures at c.first_day.ensures) in
    record { value = both.0; below = both.1 }

pub returns-in-Some : goal.returns-in-Some
returns-in-Some c =
    let both = later_base c.args.self.setting _ c.in-Some.is (rw (c.from-flow.ensures, c.from.ensures) at c.smoothed.ensures) in
    record { value = both.0; below = both.1 }
