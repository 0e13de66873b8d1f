-- `series::any_invalid_base` meets its contract: the cause holds of the lists where it was found so far, or holds of what
-- is left of them.
use mathlib.Core.Bool.{◌||◌}
use mathlib.Core.Path.{◌≡◌}
use Rattle.series.specs.Lists.{any_invalid_base}
use Rattle.series.proofs.any_invalid_base.Given as goal

abbrev pub invariant-loop-day : goal.invariant-loop-day
invariant-loop-day l = any_invalid_base l.days l.base ≡ (l.invalid || any_invalid_base l.day-iterator.a.rest.now l.day-iterator.b.rest.now)
