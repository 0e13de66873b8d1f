-- `has_rank` of a day meets its contract: the counts so far, and the numbers that are left.
use lib.ListN.{length}
use Rattle.staggered.specs.Private.{numbers_of, values_of}
use Rattle.staggered.proofs.Choosing.{Ranking}
use Rattle.staggered.proofs.day.DayValues.has_rank.Given as goal

abbrev pub invariant-loop-number : goal.invariant-loop-number
invariant-loop-number l = Ranking l.v (length l.self.lines.now) (numbers_of l.number-iterator) (values_of l.self) l.smaller l.up_to
