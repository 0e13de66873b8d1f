-- `recession::tally_pairs` meets its contract: the pairs before the rest of the limb are counted. A ratio of a fall is at
-- most 10000, so that it has its cell.
use native.Mathlib.Omega.{arith}
use Rattle.recession.proofs.Counting.{pair_falls, counting_start, counting_done, counting_small, counting_room, counting_next}
use Rattle.recession.proofs.tally.tally_pairs.Goals as goal

pub loop-pair-init : goal.loop-pair-init
loop-pair-init c =
    let i = c.into_iter-pair-iterator.ensures.into_iter_gives in
    rw i (counting_start c.windows-pair-items.ensures.size c.windows-pair-items.ensures.rest c.requires.falling)

pub ratio-r-requires : goal.ratio-r-requires
ratio-r-requires c = let s = c.in-Some.ensures.steps.1 in pair_falls c.loop-pair.invariant s.0 s.1

pub offset_bounds-counts-r : goal.offset_bounds-counts-r
offset_bounds-counts-r c = let s = c.in-Some.ensures.steps.1 in omega (arith, counting_small c.loop-pair.invariant s.0 s.1 c.ratio-r.ensures)

pub bounds-counts-r : goal.bounds-counts-r
bounds-counts-r c = let s = c.in-Some.ensures.steps.1 in omega (arith, counting_small c.loop-pair.invariant s.0 s.1 c.ratio-r.ensures)

pub overflow_add-counts : goal.overflow_add-counts
overflow_add-counts c =
    let s = c.in-Some.ensures.steps.1 in record { fits = counting_room c.loop-pair.invariant s.0 s.1 c.ratio-r.ensures c.requires.by_index }

pub bounds-counts-r-in-loop-pair : goal.bounds-counts-r-in-loop-pair
bounds-counts-r-in-loop-pair c = let s = c.in-Some.ensures.steps.1 in omega (arith, counting_small c.loop-pair.invariant s.0 s.1 c.ratio-r.ensures)

pub loop-pair-preserved : goal.loop-pair-preserved
loop-pair-preserved c =
    let s = c.in-Some.ensures.steps in counting_next c.loop-pair.invariant s.1.0 s.1.1 c.ratio-r.ensures c.told-counts s.0 s.1.2

pub returns : goal.returns
returns c = counting_done c.loop-pair.invariant c.in-None.ensures.steps.1.0
