-- `minima::river::River::draw` meets its contract: before t the base list is done.
use Prim.Native.Nat.{◌-◌}
use lib.ListN.{length}
use Rattle.minima.proofs.AllSegments.{SoFar}
use Rattle.minima.proofs.river.River.draw.Given as goal

abbrev pub invariant-loop-next : goal.invariant-loop-next
invariant-loop-next l = SoFar l.self.blocks l.self.days.now l.base l.t l.next

abbrev pub decreases-loop-next : goal.decreases-loop-next
decreases-loop-next l = length l.self.days.now - l.t
