-- `minima::segment::Segment::next_turning` meets its contract: the triples before block k have no turning point.
use Prim.Native.Nat.{◌<◌}
use native.Mathlib.Omega.{arith}
use Rattle.minima.specs.Blocks.{block_count}
use Rattle.minima.proofs.Points.{search_found, search_on, search_end}
use Rattle.minima.proofs.segment.Segment.next_turning.Goals as goal
use Rattle.minima.proofs.segment.Segment.next_turning.Goals.{In-loop-k}

-- a turn's block is counted
counted : (c : In-loop-k) → c.loop-k.k < block_count c.args.self.now.blocks c.args.self.now.flows.now
counted c = omega (arith, c.loop-k-test.true, c.args.self.now.counted)

pub returns-then-turns : goal.returns-then-turns
returns-then-turns c =
    search_found _ _ c.loop-k.invariant (counted (goal.at.returns-then-turns c).In-loop-k) c.minimum_day.ensures.day c.minimum_day.ensures.inside c.turns-turns.ensures c.if-turns.true

pub loop-k-preserved : goal.loop-k-preserved
loop-k-preserved c = search_on _ _ c.loop-k.invariant (counted (goal.at.loop-k-preserved c).In-loop-k) c.minimum_day.ensures.day c.minimum_day.ensures.inside c.turns-turns.ensures c.if-turns.false

pub returns : goal.returns
returns c = search_end _ _ c.loop-k.invariant (omega (arith, c.loop-k-test.false, c.args.self.now.counted))
