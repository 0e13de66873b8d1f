-- `series::any_invalid_day` meets its contract: the cause holds of the list where it was found so far, or holds of the days
-- that are left.
use mathlib.Core.Path.{refl}
use Rattle.series.proofs.Tests.{day_looked_at, days_looked_at}
use Rattle.series.proofs.any_invalid_day.Goals as goal

pub loop-day-preserved : goal.loop-day-preserved
loop-day-preserved c =
    day_looked_at c.args.days.now c.loop-day.day-index c.loop-day.invalid c.loop-day.invariant c.loop-day-test.true c.is_invalid_day-invalid.ensures refl

pub returns : goal.returns
returns c = days_looked_at c.args.days.now c.loop-day.day-index c.loop-day.invalid c.loop-day.invariant c.loop-day-test.false
