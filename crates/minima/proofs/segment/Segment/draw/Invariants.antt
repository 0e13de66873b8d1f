-- `minima::segment::Segment::draw` meets its contract: the days up to `left` are drawn, and `next` is the next turning point.
use Prim.Native.Nat.{◌-◌}
use lib.ListN.{length}
use Rattle.minima.proofs.SegmentLine.{Drawn}
use Rattle.minima.proofs.segment.Segment.draw.Given as goal

abbrev pub invariant-loop-next : goal.invariant-loop-next
invariant-loop-next l = Drawn l.self.blocks l.self.flows.now l.base l.left l.next

abbrev pub decreases-loop-next : goal.decreases-loop-next
decreases-loop-next l = length l.self.flows.now - l.left.day
