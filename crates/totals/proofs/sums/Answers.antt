-- `totals::sums` meets its contract: what has been added and what is left make up the whole, and whether a base value so far
-- is invalid is known.
use mathlib.Core.List.{◌∷◌}
use mathlib.Core.Logic.{inl, inr}
use mathlib.Core.Path.{refl}
use Rattle.totals.proofs.Summing.{SumsSoFar, sums_turn, sums_end}
use Rattle.totals.proofs.sums.Goals as goal
use Rattle.totals.proofs.sums.Goals.{In-Some}

-- the day in hand, and those behind it
here : (c : In-Some) → SumsSoFar c.args.days.now c.args.base.now (c.in-Some.day.now ∷ c.next.new.self.a.rest.now) (c.in-Some.base.now ∷ c.next.new.self.b.rest.now) c.loop-day.invalid c.loop-day.tally.0 c.loop-day.tally.1.0 c.loop-day.tally.1.1.0
here c = rw (c.in-Some.ensures.steps.0, c.in-Some.ensures.steps.1) at c.loop-day.invariant

pub loop-day-preserved : goal.loop-day-preserved
loop-day-preserved c = rw (c.is_invalid_base-invalid.ensures) (sums_turn _ _ _ _ c.with_day-tally.result (here (goal.at.loop-day-preserved c).In-Some) c.with_day-tally.ensures)

pub returns : goal.returns
returns c = sums_end _ _ _ _ (elim c.in-None.ensures.steps [ inl h ↦ inl h.1.0 | inr h ↦ inr h.1.0 ]) c.loop-day.invariant (c.in_ok-refuse_if.ensures.ok.0 refl)
