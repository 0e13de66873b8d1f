-- `recession::at_rank` meets its contract: the counts from v on are reached, and leave the rank below them.
use native.Mathlib.Omega.{arith}
use Rattle.std.proofs.Common.{rules}
use Rattle.recession.proofs.Cumulative.{few_left_next, next_fits, reached_next, found, found_last}
use Rattle.recession.proofs.tally.at_rank.Goals as goal

pub overflow_add-reached : goal.overflow_add-reached
overflow_add-reached c = omega (arith, next_fits c.loop-v.invariant.2 _ _ c.in-Some.ensures.steps.1.1.1.0)

pub overflow_cast-result : goal.overflow_cast-result
overflow_cast-result c =
    let last = c.in-Some.ensures.steps.1.1.1 in omega (arith, few_left_next c.loop-v.invariant.2 _ _ last.0, c.loop-v.invariant.1, last.1)

pub returns-then-above-reached : goal.returns-then-above-reached
returns-then-above-reached c =
    let last = c.in-Some.ensures.steps.1.1.1 in found c.loop-v.invariant.2 _ _ last.0 (omega (arith, last.1, c.loop-v.invariant.1)) c.told-counts (omega arith)

pub loop-v-preserved : goal.loop-v-preserved
loop-v-preserved c =
    let next = reached_next c.loop-v.invariant.2 _ _ c.in-Some.ensures.steps.1.1.1.0 (omega (arith, c.in-Some.ensures.steps.1.0, c.loop-v.invariant.0)) (omega arith) in search rules

pub returns : goal.returns
returns c = found_last c.loop-v.invariant.2 (grind (arith, c.loop-v.invariant.0, c.in-None.ensures.steps.1)) c.requires.0
