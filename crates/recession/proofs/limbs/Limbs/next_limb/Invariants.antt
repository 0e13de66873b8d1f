-- `recession::next_limb` meets its contract: before `at` no limb stands, and no day is invalid.
use Prim.Native.Nat.{◌-◌}
use lib.ListN.{length}
use Rattle.recession.proofs.Walk.{Searched}
use Rattle.recession.proofs.limbs.Limbs.next_limb.Given as goal

abbrev pub invariant-loop-first : goal.invariant-loop-first
invariant-loop-first l = Searched l.self.shortest l.self.days.now l.self.base.now l.from l.at

abbrev pub decreases-loop-first : goal.decreases-loop-first
decreases-loop-first l = length l.self.days.now - l.at
