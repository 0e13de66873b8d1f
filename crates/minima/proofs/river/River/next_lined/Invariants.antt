-- `minima::river::River::next_lined` meets its contract: no segment from the first day on to before day `from` has a line.
use Prim.Native.Nat.{◌-◌}
use lib.ListN.{length}
use Rattle.minima.proofs.AllSegments.{Seeking}
use Rattle.minima.proofs.river.River.next_lined.Given as goal

abbrev pub invariant-loop-from : goal.invariant-loop-from
invariant-loop-from l = Seeking l.self.blocks l.self.days.now l.initial.from l.from

abbrev pub decreases-loop-from : goal.decreases-loop-from
decreases-loop-from l = length l.self.days.now - l.from
