-- What the private functions promise each other. No promise of a public call cites these definitions.
use Rattle.std.specs.Prelude.{ℕ, ◌≡◌, true, cond, ◌||◌, List, [], ◌∷◌, length, eqb, Result, Ok, Err}
use Rattle.std.specs.Borrow.{Bor, MutBor}
use Rattle.std.proofs.Math.Option.{none, some}
use Rattle.series.specs.declared.Refusal.{Refusal}
use Rattle.series.specs.Causes.{refusal_number, refusal_of, Cause, cause, first_cause}
use Rattle.series.specs.Lists.{too_long, any_invalid_day}
use Rattle.series.proofs.AtTen.{comes_before_10}
use Rattle.presence.specs.Form.{days_of, is_invalid_form, is_invalid_flow}

-- why a form stands for no days
unfoldable pub form_causes : (flows words : List ℕ) → List Cause
form_causes flows words = cause (too_long flows) 9 ∷ cause (is_invalid_form flows words) 28 ∷ cause (is_invalid_flow flows words) 10 ∷ []

-- The days that a form stands for; or, where it stands for none, as many days, which no call accepts unless there are none.
pub record LaidOut (flows words days : List ℕ) (form : Result ℕ Refusal) : Type 0 where
  pub refusal : refusal_of form ≡ first_cause (form_causes flows words)
  pub as_many : length days ≡ length flows
  pub converted : first_cause (form_causes flows words) ≡ none → days ≡ days_of flows words
  pub spoiled : {n : ℕ} → first_cause (form_causes flows words) ≡ some n → (eqb (length days) 0 || (too_long days || any_invalid_day days)) ≡ true

-- the answer over a form by that over these days
abbrev pub over_answer : {A : Type 0} → (form : Result ℕ Refusal) → Result A Refusal → Result A Refusal
over_answer (Ok n) answer = answer
over_answer (Err r) (Ok a) = Err r
over_answer (Err r) (Err first) = cond (comes_before_10 (refusal_number first)) (Err first) (Err r)

-- What a call over a form answered and left: what the call over the days laid out did, but for the refusal of the form.
pub record Called {R L : Type 0} (post : Bor (List ℕ) → MutBor (List ℕ) → MutBor L → Result R Refusal → MutBor (List ℕ) → MutBor L → Type 0)
    (flows words base : List ℕ) (list : L) (result : Result R Refusal) (base_after : List ℕ) (list_after : L) : Type 0 where
  pub days : Bor (List ℕ)
  pub base_lent : MutBor (List ℕ)
  pub list_lent : MutBor L
  pub answer : Result R Refusal
  pub base_left : MutBor (List ℕ)
  pub list_left : MutBor L
  pub met : post days base_lent list_lent answer base_left list_left
  pub lent : (base_lent.now ≡ base) × (list_lent.now ≡ list)
  pub left : (base_left.now ≡ base_after) × (list_left.now ≡ list_after)
  pub form : Result ℕ Refusal
  pub laid : LaidOut flows words days.now form
  pub told : result ≡ over_answer form answer
