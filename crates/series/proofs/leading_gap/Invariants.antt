-- `series::leading_gap` meets its contract.
use Rattle.std.proofs.Common.{◌≡◌, ◌+◌, map, drop}
use Rattle.series.specs.Units.{day_of}
use Rattle.series.specs.Segments.{leading_gap}
use Rattle.series.proofs.leading_gap.Given as goal

abbrev pub invariant-loop-t : goal.invariant-loop-t
invariant-loop-t l = leading_gap (map day_of l.days) ≡ l.t + leading_gap (map day_of (drop l.t l.days))
