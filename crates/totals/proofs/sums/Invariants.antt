-- `totals::sums` meets its contract: what has been added and what is left make up the whole, and whether a base value so far
-- is invalid is known.
use Rattle.totals.proofs.Summing.{SumsSoFar}
use Rattle.totals.proofs.sums.Given as goal

abbrev pub invariant-loop-day : goal.invariant-loop-day
invariant-loop-day l = SumsSoFar l.days l.base l.day-iterator.a.rest.now l.day-iterator.b.rest.now l.invalid l.tally.0 l.tally.1.0 l.tally.1.1.0
