-- `bfimax::bfimax` meets its contract, behind its checks: the values stand on the days of the spell, and none on others.
use Rattle.std.proofs.Common.{rules, arith, ◌≡◌, ◌+◌, ◌-◌, ◌<◌, ℕ, List, take, drop, ◌∙◌}
use native.Mathlib.Nat.{pos_of_ne-zero}
use borrow.Author.Tests.{eqb-false}
use Rattle.numbers.specs.Arithmetic.{rounded}
use Rattle.bfimax.specs.Rule.{flow_total, bfimax}
use Rattle.bfimax.specs.Private.{SpellFrom}
use Rattle.bfimax.proofs.Spells.{flows_total, answer_small, answer_found}
use Rattle.bfimax.proofs.Stretch.{spell_within}
use Rattle.bfimax.proofs.Calls.{Passed, passed_checks, slice_flows, same_sizes, put_spell, list_kept, found_answer, found_list}
use Rattle.bfimax.proofs.bfimax.Goals as goal
use Rattle.bfimax.proofs.bfimax.Goals.{In_ok-check, In_ok-start, In_ok-refuse_if, After-near_small}

ok : (c : In_ok-check) → Passed c.args.duration c.args.p c.args.days.now c.args.base.now
ok c = passed_checks c.check.ensures c.in_ok-check.was

from : (c : In_ok-start) → SpellFrom c.args.last_day c.args.duration c.args.days.now c.in_ok-start.start
from c = search rules

some_flow : (c : In_ok-refuse_if) → c.flow_total-total.result ≡ 0 → ⊥
some_flow c = eqb-false _ _ (c.refuse_if.ensures.ok.0 c.in_ok-refuse_if.was)

-- the flows of the spell, and the answer from them
abbrev flows : In_ok-start → List ℕ
flows c = take (c.in_ok-start.start + c.args.duration - c.in_ok-start.start) (drop c.in_ok-start.start c.args.days.now)

size_is : (c : In_ok-start) → c.in_ok-start.start + c.args.duration - c.in_ok-start.start ≡ c.args.duration
size_is c = omega arith

answer : (c : After-near_small) → c.near_small.result ≡ bfimax rounded c.args.p (take (c.in_ok-start.start + c.args.duration - c.in_ok-start.start) (drop c.in_ok-start.start c.args.days.now))
answer c = answer_found _ _ c.near_small.ensures c.backwards-sum.ensures.1 c.flow_total-total.ensures

pub returns-in_err-check-clause-base_list : goal.returns-in_err-check-clause-base_list
returns-in_err-check-clause-base_list c = list_kept _ _ _ _ _ c.check.ensures (λ e. absurd (cc c.in_err-check.was))

pub flow_total-total-requires : goal.flow_total-total-requires
flow_total-total-requires c = let s = goal.at.flow_total-total-requires c in slice_flows (from s.In_ok-start) (omega arith) (ok s.In_ok-check)

pub backwards-sum-requires-clause-flows_nonzero : goal.backwards-sum-requires-clause-flows_nonzero
backwards-sum-requires-clause-flows_nonzero c =
    let s = goal.at.backwards-sum-requires-clause-flows_nonzero c in
    let k = ok s.In_ok-check in
    let f = from s.In_ok-start in
    (same_sizes f (omega arith) k (c.fill.ensures.after (λ y e. e)), slice_flows f (omega arith) k)

pub near_small-requires : goal.near_small-requires
near_small-requires c =
    let s = goal.at.near_small-requires c in
    (pos_of_ne-zero (some_flow s.In_ok-refuse_if), omega (arith, c.backwards-sum.ensures.2, c.flow_total-total.ensures, flows_total (slice_flows (from s.In_ok-start) (size_is s.In_ok-start) (ok s.In_ok-check))))

pub overflow_cast-result : goal.overflow_cast-result
overflow_cast-result c =
    let s = goal.at.overflow_cast-result c in
    let above : 0 < flow_total (flows s.In_ok-start) = omega (arith, c.flow_total-total.ensures, pos_of_ne-zero (some_flow s.In_ok-refuse_if)) in
    omega (arith, answer s.After-near_small, answer_small c.args.p _ above)

pub returns : goal.returns
returns c =
    let s = goal.at.returns c in
    let k = ok s.In_ok-check in
    let f = from s.In_ok-start in
    let n : flow_total (flows s.In_ok-start) ≡ 0 → ⊥ = λ z. some_flow s.In_ok-refuse_if (c.flow_total-total.ensures ∙ z) in
    record {
      answer = found_answer f (omega arith) _ _ c.check.ensures c.in_ok-check.was n (answer s.After-near_small);
      base_list = found_list f (omega arith) _ _ c.check.ensures c.in_ok-check.was n (put_spell f (omega arith) k (c.fill.ensures.after (λ y e. e)) c.backwards-sum.ensures.0);
      error = spell_within c.args.p k.above _;
    }
