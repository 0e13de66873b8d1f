-- `recession::next_at_base` meets its contract: before `at` no fall starts, and no day is invalid.
use Rattle.recession.proofs.Walk.{Skipped}
use Rattle.recession.proofs.limbs.Limbs.next_at_base.Given as goal

abbrev pub invariant-loop-at : goal.invariant-loop-at
invariant-loop-at l = Skipped l.self.days.now l.self.base.now l.from l.at
