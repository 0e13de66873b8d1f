-- `minima::segment::Segment::draw` meets its contract: the days up to `left` are drawn, and `next` is the next turning point.
use Prim.Native.Nat.{◌*◌}
use mathlib.Core.Path.{ap}
use native.Mathlib.Omega.{arith}
use Rattle.std.proofs.Common.{rules}
use Rattle.minima.proofs.Pieces.{span}
use Rattle.minima.proofs.SegmentLine.{blank, blank_front, draw_start, draw_turn, draw_end}
use Rattle.minima.proofs.segment.Segment.draw.Goals as goal

pub loop-next-init : goal.loop-next-init
loop-next-init c =
    let p = c.requires.first_two in
    let inside = p.first.low.inside.0 in
    let room = c.requires.room.same_length in
    let b = blank_front _ _ _ (omega (arith, room, inside)) (c.fill.ensures.after (search rules)) in
    draw_start _ _ _ _ room p.first p.second b (omega (arith, b.same_length, room, inside)) (ap (λ y. 1000 * y) c.from.ensures)

pub new-requires : goal.new-requires
new-requires c = let v = rw c.in-Some.is at c.loop-next.invariant.in_hand in span _ _ v.low v.found c.requires.room.few

pub loop-next-preserved : goal.loop-next-preserved
loop-next-preserved c =
    let p = c.new.ensures in
    draw_turn _ _ (rw c.in-Some.is at c.loop-next.invariant) (rw (p.flows_kept, p.days_kept.0, p.days_kept.1) at c.fill-in-Some.ensures) c.next_turning-next.ensures

pub returns : goal.returns
returns c =
    let d = rw c.in_default.is at c.loop-next.invariant in
    draw_end _ _ d (blank _ _ _ _ (omega (arith, d.same_length, d.in_hand.low.inside)) (omega arith) (c.fill-2.ensures.after (search rules)))
