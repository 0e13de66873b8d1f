-- `recession::next_limb` meets its contract: before `at` no limb stands, and no day is invalid.
use native.Mathlib.Omega.{arith}
use Rattle.recession.proofs.Walk.{ends_behind, searched_start, searched_next, limb_found, none_found}
use Rattle.recession.proofs.limbs.Limbs.next_limb.Goals as goal

pub loop-first-init : goal.loop-first-init
loop-first-init c = searched_start _ _ _ _

pub overflow_sub-end : goal.overflow_sub-end
overflow_sub-end c = omega (arith, ends_behind c.args.self.now.as_long (rw c.in-Some.is at c.in_ok-first.ensures) c.run_end-end.ensures.0)

pub returns-then-self-end : goal.returns-then-self-end
returns-then-self-end c =
    limb_found c.loop-first.invariant c.args.self.now.as_long (rw c.in-Some.is at c.in_ok-first.ensures) c.run_end-end.ensures.0 c.run_end-end.ensures.1 c.if-self-end.true

pub loop-first-smaller : goal.loop-first-smaller
loop-first-smaller c = omega (arith, ends_behind c.args.self.now.as_long (rw c.in-Some.is at c.in_ok-first.ensures) c.run_end-end.ensures.0)

pub loop-first-preserved : goal.loop-first-preserved
loop-first-preserved c =
    searched_next c.loop-first.invariant c.args.self.now.as_long (rw c.in-Some.is at c.in_ok-first.ensures) c.run_end-end.ensures.0 c.run_end-end.ensures.1 c.if-self-end.false

pub returns : goal.returns
returns c = none_found c.loop-first.invariant (rw c.in_default.is at c.in_ok-first.ensures)
