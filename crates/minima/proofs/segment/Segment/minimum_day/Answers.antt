-- `minima::segment::Segment::minimum_day` meets its contract.
use Prim.Native.Nat.{◌+◌}
use mathlib.Core.Path.{◌∙◌, ap}
use native.Mathlib.Omega.{arith}
use Rattle.minima.specs.Blocks.{block_start, lowest, earliest, minimum_flow, minimum_day}
use Rattle.minima.proofs.Minima.{first, block_part}
use Rattle.minima.proofs.segment.Segment.minimum_day.Goals as goal

pub returns-clause-day : goal.returns-clause-day
unfolding block_start minimum_flow minimum_day
returns-clause-day c =
    let s = c.args.self.now in
    ap (λ d. first s.blocks s.flows.now c.args.k + d) (c.lowest_day.ensures.day ∙ ap (λ ys. earliest (lowest ys) ys) (block_part s.blocks s.flows.now c.args.k (omega (arith, s.counted, c.requires))))
