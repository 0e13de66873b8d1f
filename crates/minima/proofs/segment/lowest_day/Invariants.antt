-- `minima::segment::lowest_day` meets its contract: low is the day of the lowest flow so far.
use mathlib.Core.Path.{◌≡◌}
use lib.ListN.{get_or}
use Rattle.minima.proofs.Minima.{LowSoFar}
use Rattle.minima.proofs.segment.lowest_day.Given as goal

abbrev pub invariant-loop-t : goal.invariant-loop-t
invariant-loop-t l = record { so_far : LowSoFar l.flows l.t l.low; flow : l.lowest ≡ get_or l.flows l.low 0 }
