-- `series::any_invalid_day` meets its contract: the cause holds of the list where it was found so far, or holds of the days
-- that are left.
use mathlib.Core.Bool.{◌||◌}
use mathlib.Core.Path.{◌≡◌}
use lib.ListN.{drop}
use Rattle.series.specs.Lists.{any_invalid_day}
use Rattle.series.proofs.any_invalid_day.Given as goal

abbrev pub invariant-loop-day : goal.invariant-loop-day
invariant-loop-day l = any_invalid_day l.days ≡ (l.invalid || any_invalid_day (drop l.day-index l.days))
