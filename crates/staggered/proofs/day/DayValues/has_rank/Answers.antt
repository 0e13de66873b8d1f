-- `has_rank` of a day meets its contract: what it counts are values, and no mark.
use native.Mathlib.Omega.{arith}
use lib.ListN.{length}
use mathlib.Core.List.{List, ◌∷◌}
use Rattle.staggered.specs.Private.{numbers_of, values_of}
use Rattle.staggered.proofs.Choosing.{Ranking, ranking_start, ranking_turn, ranking_end, rank_tested, rank_refused}
use Rattle.staggered.proofs.Columns.{column_few}
use Rattle.staggered.proofs.day.DayValues.has_rank.Goals as goal
use Rattle.staggered.proofs.day.DayValues.has_rank.Goals.{In-Some}

pub loop-number-init : goal.loop-number-init
loop-number-init c = rw c.into_iter-number-iterator.ensures.into_iter_gives (ranking_start c.args.v c.requires (numbers_of c.args.self) (column_few _ _ _))

-- the number in hand, and those behind it
here : (c : In-Some) → Ranking c.args.v (length c.args.self.lines.now) (c.in-Some.number ∷ numbers_of c.next.new.self) (values_of c.args.self) c.loop-number.smaller c.loop-number.up_to
here c = rw c.in-Some.ensures.steps at c.loop-number.invariant

pub overflow_add-smaller : goal.overflow_add-smaller
overflow_add-smaller c = let r = ranking_turn (here (goal.at.overflow_add-smaller c).In-Some) in omega (arith, r.room, c.from-smaller.ensures, c.ranges.self)

pub overflow_add-up_to : goal.overflow_add-up_to
overflow_add-up_to c = let r = ranking_turn (here (goal.at.overflow_add-up_to c).In-Some) in omega (arith, r.room, c.from-up_to.ensures, c.ranges.self)

pub loop-number-preserved : goal.loop-number-preserved
loop-number-preserved c = rw (c.from-smaller.ensures, c.from-up_to.ensures) (ranking_turn (here (goal.at.loop-number-preserved c).In-Some))

pub returns-then-smaller-k : goal.returns-then-smaller-k
returns-then-smaller-k c = let e = ranking_end (rw c.in-None.ensures.steps.0 at c.loop-number.invariant) in rank_tested _ _ _ e.0 c.if-smaller-k.true e.1

pub returns-else-smaller-k : goal.returns-else-smaller-k
returns-else-smaller-k c = let e = ranking_end (rw c.in-None.ensures.steps.0 at c.loop-number.invariant) in rank_refused _ _ _ e.0 c.if-smaller-k.false
