-- `recession::next_at_base` meets its contract: before `at` no fall starts, and no day is invalid.
use mathlib.Core.Path.{refl, sym, ◌∙◌}
use mathlib.Core.Logic.{inr}
use native.Mathlib.Omega.{arith}
use Rattle.recession.proofs.Days.{seen_by_test, invalid_by_test, unseen_by_test}
use Rattle.recession.proofs.Walk.{skipped_start, skipped_next, first_found, invalid_found, skipped_all}
use Rattle.recession.proofs.limbs.Limbs.next_at_base.Goals as goal

pub loop-at-init : goal.loop-at-init
loop-at-init c = skipped_start _ _ _

pub returns-then-value-from : goal.returns-then-value-from
returns-then-value-from c =
    first_found _ _ c.args.self.now.as_long c.loop-at.invariant c.loop-at-test.true (seen_by_test _ _ (omega arith) c.if-day.false)

pub returns-then-day : goal.returns-then-day
returns-then-day c =
    (refl, invalid_found _ _ c.args.self.now.as_long c.loop-at.invariant c.loop-at-test.true (invalid_by_test _ _ (omega arith) c.if-day.true))

pub returns-then-is_invalid_base : goal.returns-then-is_invalid_base
returns-then-is_invalid_base c =
    (refl, invalid_found _ _ c.args.self.now.as_long c.loop-at.invariant c.loop-at-test.true (sym c.is_invalid_base.ensures ∙ c.if-is_invalid_base.true))

pub loop-at-preserved : goal.loop-at-preserved
loop-at-preserved c =
    skipped_next _ _ c.args.self.now.as_long c.loop-at.invariant c.loop-at-test.true (unseen_by_test _ _ (inr (rw (← c.from.ensures) c.if-value-from.false))) (sym c.is_invalid_base.ensures ∙ c.if-is_invalid_base.false)

pub returns : goal.returns
returns c = skipped_all c.loop-at.invariant c.loop-at-test.false
