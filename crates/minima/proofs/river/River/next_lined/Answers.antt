-- `minima::river::River::next_lined` meets its contract: no segment from the first day on to before day `from` has a line.
use Rattle.minima.proofs.AllSegments.{seek_on, seek_found, seek_end}
use Rattle.minima.proofs.river.River.next_lined.Goals as goal

pub returns-in-Some : goal.returns-in-Some
returns-in-Some c =
    let s = c.new-segment.ensures in
    seek_found _ _ c.loop-from.invariant c.segment_end-end.ensures.end c.loop-from-test.true (rw (s.blocks_kept, s.flows_kept) at c.in-Some.ensures)

pub loop-from-preserved : goal.loop-from-preserved
loop-from-preserved c =
    let s = c.new-segment.ensures in
    seek_on _ _ c.loop-from.invariant c.segment_end-end.ensures.end c.loop-from-test.true (rw (s.blocks_kept, s.flows_kept) at c.in_default.ensures)

pub returns : goal.returns
returns c = seek_end _ _ c.loop-from.invariant c.loop-from-test.false
