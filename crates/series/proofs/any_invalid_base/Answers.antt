-- `series::any_invalid_base` meets its contract: the cause holds of the lists where it was found so far, or holds of what
-- is left of them.
use mathlib.Core.Logic.{inl, inr}
use Rattle.series.proofs.Tests.{base_looked_at, bases_looked_at}
use Rattle.series.proofs.any_invalid_base.Goals as goal

pub loop-day-preserved : goal.loop-day-preserved
loop-day-preserved c = base_looked_at _ _ c.loop-day.invalid _ _ c.loop-day.invariant c.in-Some.ensures.steps c.is_invalid_base-invalid.ensures

pub returns : goal.returns
returns c = bases_looked_at _ _ c.loop-day.invalid _ _ c.loop-day.invariant (elim c.in-None.ensures.steps [ inl a ↦ inl a.1.0 | inr b ↦ inr b.1.0 ])
