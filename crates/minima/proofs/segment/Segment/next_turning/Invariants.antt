-- `minima::segment::Segment::next_turning` meets its contract: the triples before block k have no turning point.
use Rattle.minima.proofs.Points.{Searched}
use Rattle.minima.proofs.segment.Segment.next_turning.Given as goal

abbrev pub invariant-loop-k : goal.invariant-loop-k
invariant-loop-k l = Searched l.self.blocks l.self.flows.now l.initial.left.block l.left l.k
