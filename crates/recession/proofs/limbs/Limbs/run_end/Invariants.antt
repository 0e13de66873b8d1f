-- `recession::run_end` meets its contract: at `end` the run's end is `end` and what is still to fall from there, and no day
-- before it is invalid; and the last flow is a number of the list.
use Rattle.std.proofs.Common.{◌≤◌}
use Rattle.series.specs.Units.{missing_mark}
use Rattle.recession.proofs.Walk.{Fallen}
use Rattle.recession.proofs.limbs.Limbs.run_end.Given as goal

abbrev pub invariant-loop-end : goal.invariant-loop-end
invariant-loop-end l = record { fallen : Fallen l.self.days.now l.self.base.now l.first l.end l.last; number : l.last ≤ missing_mark }
