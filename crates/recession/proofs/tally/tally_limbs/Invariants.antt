-- `recession::tally_limbs` meets its contract: what is tallied, and what is left from `at` on, add up to the whole.
use Prim.Native.Nat.{◌-◌}
use lib.ListN.{length}
use Rattle.recession.proofs.Tallying.{Walked}
use Rattle.recession.proofs.tally.tally_limbs.Given as goal

abbrev pub invariant-loop-limb : goal.invariant-loop-limb
invariant-loop-limb l =
    Walked l.limbs.shortest l.limbs.days.now l.limbs.base.now l.at l.found l.initial.counts l.counts l.initial.lengths l.lengths l.firsts

abbrev pub decreases-loop-limb : goal.decreases-loop-limb
decreases-loop-limb l = length l.limbs.days.now - l.at
