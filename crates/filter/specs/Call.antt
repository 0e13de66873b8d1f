-- The two calls, the filter over a day list and the daily step: their orders of refusals, what they answer, and the base
-- list and the state that they leave.
use Rattle.std.specs.Prelude.{ℕ, List, [], ◌∷◌, map, Result, Ok, Err}
use Rattle.std.proofs.Math.Option.{Option}
use Rattle.numbers.specs.Arithmetic.{rounded}
use Rattle.numbers.specs.Scan.{scan}
use Rattle.series.specs.Units.{is_invalid_day, day_of, base_of, base_mark}
use Rattle.series.specs.Causes.{refusal_number, Cause, cause, Outcome, accepted, refused, outcome, leaves}
use Rattle.series.specs.Lists.{too_long, lengths_differ, any_invalid_day}
use Rattle.filter.specs.declared.Setting.{Setting}
use Rattle.filter.specs.declared.start.Start.{Start}
use Rattle.filter.specs.declared.DailyFilter.{DailyFilter}
use Rattle.filter.specs.declared.Advanced.{Advanced}
use Rattle.filter.specs.declared.Refused.{Refused}
use Rattle.filter.specs.Methods.{unknown_method, out_of_range, invalid_passes, start_too_high}
use Rattle.filter.specs.Passes.{filtered}
use Rattle.filter.specs.Daily.{invalid_yesterday, base_on, state_after}

-- order: filter 11, 12, 13, 9, 14, 10, 29
unfoldable pub filter_causes : Setting → (passes : ℕ) → Start → (days base : List ℕ) → List Cause
filter_causes s n from days base =
    cause (unknown_method s) 11
    ∷ cause (out_of_range s) 12
    ∷ cause (invalid_passes s n) 13
    ∷ cause (too_long days) 9
    ∷ cause (lengths_differ days base) 14
    ∷ cause (any_invalid_day days) 10
    ∷ cause (start_too_high from (map day_of days)) 29
    ∷ []

-- the base list in memory after n accepted passes
unfoldable pub filtered_list : Setting → (passes : ℕ) → Start → (days : List ℕ) → List ℕ
filtered_list s n from days = map base_mark (filtered rounded s n from (map day_of days))

-- the base list at exit: filtered, or as it was after a refusal
unfoldable pub filter_leaves : Setting → (passes : ℕ) → Start → (days base : List ℕ) → List ℕ
filter_leaves s n from days base = leaves (filter_causes s n from days base) (filtered_list s n from days) base

-- order: step 11, 12, 15, 10
unfoldable pub step_causes : Setting → DailyFilter → ℕ → List Cause
step_causes s st day =
    cause (unknown_method s) 11 ∷ cause (out_of_range s) 12 ∷ cause (invalid_yesterday st.yesterday) 15 ∷ cause (is_invalid_day day) 10 ∷ []

-- what a step hands out: the value or the refusal, and the state
pub record StepOutcome : Type 0 where
  pub outcome : Outcome (Option ℕ)
  pub state : DailyFilter

-- a refusal hands back the state that was given
unfoldable pub step_rule : Setting → DailyFilter → ℕ → StepOutcome
step_rule s st day =
    record { outcome = outcome (step_causes s st day) (base_on s st (day_of day)); state = leaves (step_causes s st day) (state_after s st (day_of day)) st }

-- what steps over a day list hand out, one after the other, from a state
unfoldable pub steps_from : Setting → DailyFilter → List ℕ → List (Outcome (Option ℕ))
unfolding step_rule
steps_from s st days = scan (λ st d. (step_rule s st d).state) (λ st d. (step_rule s st d).outcome) st days

-- document 01's numbers and values for each answer of the step
abbrev pub outcome_of : Result Advanced Refused → StepOutcome
outcome_of (Ok next) = record { outcome = accepted (base_of next.base); state = next.state }
outcome_of (Err cause) = record { outcome = refused (refusal_number cause.refusal); state = cause.state }
