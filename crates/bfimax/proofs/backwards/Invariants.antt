-- `bfimax::backwards` meets its contract: on the days from the last one down the values are written.
use Rattle.bfimax.proofs.Spells.{Valued}
use Rattle.bfimax.proofs.backwards.Given as goal

abbrev pub invariant-loop-day : goal.invariant-loop-day
invariant-loop-day l = Valued l.p l.flows l.base l.day l.following l.sum
