-- The two calls by their causes: what an accepted call has passed and leaves, and what a refusal hands back.
-- Assumes nothing.
use Prim.Native.Nat.{ℕ, ◌≤◌}
use mathlib.Core.Path.{◌≡◌, refl, sym, ◌∙◌}
use mathlib.Core.Bool.{false}
use mathlib.Core.List.{List, map}
use mathlib.Core.Option.{Option, none, some}
use lib.IntN.{pos}
use lib.ListN.{length}
use borrow.Author.Tests.{eq-eqb}
use Rattle.series.specs.Units.{is_invalid_day, day_of, base_of}
use Rattle.series.specs.Causes.{first_cause, accepted, refused}
use Rattle.series.specs.Lists.{too_long, any_invalid_day}
use Rattle.series.proofs.Views.{lies_within}
use Rattle.series.proofs.Tests.{same_length, not_different}
use Rattle.series.proofs.Refusing.{passed, outcome_refused, outcome_accepted, leaves_refused, leaves_accepted}
use Rattle.filter.specs.declared.Setting.{Setting}
use Rattle.filter.specs.declared.start.Start.{Start}
use Rattle.filter.specs.declared.start.Start.TheVariants.{Usual}
use Rattle.filter.specs.declared.DailyFilter.{DailyFilter}
use Rattle.filter.specs.Methods.{method_of, unknown_method, out_of_range, spans, in_range, invalid_passes, start_too_high, Usable}
use Rattle.filter.specs.Daily.{invalid_yesterday, base_on, state_after}
use Rattle.filter.proofs.Days.{Advance, value_shown}
use Rattle.filter.specs.Call.{filter_causes, filtered_list, filter_leaves, step_causes, step_rule}

-- method 1 by its range
pub method_1_usable : (s : Setting) → s.method ≡ 1 → 1 ≤ s.p → s.p ≤ 9999 → s.q ≡ 0 → s.s ≡ pos 0 → Usable s
unfolding unknown_method out_of_range in_range method_of spans
method_1_usable s m low high q z = record { known = rw m; in_range = rw (m, lies_within 1 9999 s.p low high, eq-eqb s.q 0 q, z) }

-- one pass is valid in every method
pub one_pass : (s : Setting) → invalid_passes s 1 ≡ false
unfolding invalid_passes
one_pass s = refl

-- the usual start is never too high
pub usual_start : (days : List (Option ℕ)) → start_too_high Usual days ≡ false
unfolding start_too_high
usual_start days = refl

-- the filter accepts exactly if
pub record FilterAccepts (s : Setting) (n : ℕ) (from : Start) (days base : List ℕ) : Type 0 where
  pub usable : Usable s
  pub passes : invalid_passes s n ≡ false
  pub few : too_long days ≡ false
  pub same_length : length days ≡ length base
  pub valid : any_invalid_day days ≡ false
  pub start : start_too_high from (map day_of days) ≡ false

module _ {s : Setting} {n : ℕ} {from : Start} {days base : List ℕ} where
  pub filter_accepts : FilterAccepts s n from days base → first_cause (filter_causes s n from days base) ≡ none
  unfolding filter_causes
  filter_accepts a = simp (a.usable.known, a.usable.in_range, a.passes, a.few, not_different days base a.same_length, a.valid, a.start)

module _ (s : Setting) (n : ℕ) (from : Start) (days base : List ℕ) where
  pub filter_accepted : first_cause (filter_causes s n from days base) ≡ none → FilterAccepts s n from days base
  unfolding filter_causes
  filter_accepted e =
      let p = passed (filter_causes s n from days base) e in
      record { usable = record { known = p 11; in_range = p 12 }; passes = p 13; few = p 9; same_length = same_length days base (p 14); valid = p 10; start = p 29 }

  -- what it leaves
  pub leaves_filtered : first_cause (filter_causes s n from days base) ≡ none → filter_leaves s n from days base ≡ filtered_list s n from days
  unfolding filter_leaves
  leaves_filtered e = leaves_accepted (filter_causes s n from days base) _ base e

  pub leaves_as_it_was : {k : ℕ} → first_cause (filter_causes s n from days base) ≡ some k → filter_leaves s n from days base ≡ base
  unfolding filter_leaves
  leaves_as_it_was e = leaves_refused (filter_causes s n from days base) _ base e

-- the step accepts exactly if
pub record StepAccepts (s : Setting) (st : DailyFilter) (day : ℕ) : Type 0 where
  pub usable : Usable s
  pub valid_state : invalid_yesterday st.yesterday ≡ false
  pub valid_day : is_invalid_day day ≡ false

module _ {s : Setting} {st : DailyFilter} {day : ℕ} where
  pub step_accepts : StepAccepts s st day → first_cause (step_causes s st day) ≡ none
  unfolding step_causes
  step_accepts a = simp (a.usable.known, a.usable.in_range, a.valid_state, a.valid_day)

module _ (s : Setting) (st : DailyFilter) (day : ℕ) where
  pub step_accepted : first_cause (step_causes s st day) ≡ none → StepAccepts s st day
  unfolding step_causes
  step_accepted e =
      let p = passed (step_causes s st day) e in
      record { usable = record { known = p 11; in_range = p 12 }; valid_state = p 15; valid_day = p 10 }

  -- what it hands out
  pub hands_back : {k : ℕ} → first_cause (step_causes s st day) ≡ some k → step_rule s st day ≡ record { outcome = refused k; state = st }
  unfolding step_rule
  hands_back e = λ i. record { outcome = outcome_refused (step_causes s st day) (base_on s st (day_of day)) e i; state = leaves_refused (step_causes s st day) (state_after s st (day_of day)) st e i }

  pub hands_on : first_cause (step_causes s st day) ≡ none → step_rule s st day ≡ record { outcome = accepted (base_on s st (day_of day)); state = state_after s st (day_of day) }
  unfolding step_rule
  hands_on e = λ i. record { outcome = outcome_accepted (step_causes s st day) (base_on s st (day_of day)) e i; state = leaves_accepted (step_causes s st day) (state_after s st (day_of day)) st e i }

  -- of a day that was advanced
  pub stepped : {st' : DailyFilter} {b : ℕ} → StepAccepts s st day → Advance s st day st' b → record { outcome = accepted (base_of b); state = st' } ≡ step_rule s st day
  stepped a r =
      (λ i. record { outcome = accepted (value_shown s st (day_of day) r.0.0 r.0.1 r.1.0 i); state = r.0.0 i }) ∙ sym (hands_on (step_accepts a))
