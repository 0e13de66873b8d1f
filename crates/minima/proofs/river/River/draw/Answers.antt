-- `minima::river::River::draw` meets its contract: before t the base list is done.
use native.Mathlib.Omega.{arith}
use Rattle.std.proofs.Common.{rules}
use Rattle.minima.proofs.SegmentLine.{blank}
use Rattle.minima.proofs.AllSegments.{draw_next, all_drawn, apart_behind}
use Rattle.minima.proofs.river.River.draw.Goals as goal

pub next_lined-next-requires : goal.next_lined-next-requires
next_lined-next-requires c = let f = rw c.in-Some.is at c.loop-next.invariant in apart_behind _ _ f.next.lined

pub loop-next-preserved : goal.loop-next-preserved
loop-next-preserved c =
    let f = rw c.in-Some.is at c.loop-next.invariant in
    let s = c.new-segment.ensures in
    let b = blank _ _ _ _ f.next.onward (omega (arith, f.same_length, f.next.lined.inside)) (c.fill.ensures.after (search rules)) in
    draw_next _ _ _ f b (rw (s.blocks_kept, s.flows_kept) at c.draw.ensures) c.next_lined-next.ensures

pub returns : goal.returns
returns c =
    let f = rw c.in_default.is at c.loop-next.invariant in
    all_drawn _ f (blank _ _ _ _ (omega (arith, f.same_length, f.forward)) (omega arith) (c.fill-2.ensures.after (search rules)))
