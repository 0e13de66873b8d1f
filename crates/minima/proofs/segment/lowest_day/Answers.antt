-- `minima::segment::lowest_day` meets its contract: low is the day of the lowest flow so far.
use mathlib.Core.Path.{◌≡◌, subst}
use lib.ListN.{length}
use native.Mathlib.Omega.{arith}
use Rattle.minima.proofs.Minima.{LowSoFar, low_found}
use Rattle.minima.proofs.segment.lowest_day.Goals as goal

pub returns-clause-day : goal.returns-clause-day
returns-clause-day c =
    let e : c.loop-t.t ≡ length c.args.flows.now = omega arith in
    low_found (subst (λ t. LowSoFar c.args.flows.now t c.loop-t.low) e c.loop-t.invariant.so_far)
