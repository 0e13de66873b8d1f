-- The days of a form as the code lays them out.
-- Assumes nothing.
use Prim.Native.Nat.{ℕ, ◌≤◌, min}
use mathlib.Core.Path.{◌≡◌, refl, sym, ◌∙◌, ap}
use mathlib.Core.Bool.{Bool, true, false, true≢false, false≢true, ◌||◌, or-true}
use mathlib.Core.List.{List, [], ◌∷◌}
use mathlib.Core.Option.{none, none-ne-some, some-ne-none}
use lib.ListN.{length, take, set}
use lib.Seq.{length-take-le}
use lib.Dec.{eqb}
use native.Mathlib.Omega.{arith}
use Rattle.std.specs.Prelude.{Result, Ok, Err}
use Rattle.series.specs.declared.Refusal.{Refusal}
use Rattle.series.specs.declared.Refusal.TheVariants.{DayListTooLong}
use Rattle.series.specs.Units.{day_limit, is_flow, is_missing, is_invalid_day}
use Rattle.series.specs.Causes.{Cause, refusal_of, outcome, outcome_of, first_cause}
use Rattle.series.specs.Lists.{too_long, any_invalid_day}
use Rattle.series.proofs.Tests.{few_days, not_different}
use Rattle.series.proofs.Refusing.{outcome_was_accepted, outcome_was_refused, leaves_accepted}
use Rattle.std.specs.Result.{is_ok}
use Rattle.presence.specs.Form.{days_of}
use Rattle.presence.proofs.Sentences.{length_of_days}
use Rattle.presence.specs.Call.{from_bits_causes, from_bits_outcome, days_left}
use Rattle.bits.specs.Private.{form_causes, LaidOut}

-- an answer tells the first cause
pub refusal_told : {A : Type 0} (cs : List Cause) (a : A) (answer : Result A Refusal) → outcome_of answer ≡ outcome cs a → refusal_of answer ≡ first_cause cs
refusal_told cs a (Ok b) o = sym (outcome_was_accepted cs a (sym o)).0
refusal_told cs a (Err r) o = sym (outcome_was_refused cs a (sym o))

pub spoiled_days : (days : List ℕ) → (eqb (length (set days 0 4294967294)) 0 || any_invalid_day (set days 0 4294967294)) ≡ true
unfolding any_invalid_day is_invalid_day is_flow is_missing
spoiled_days [] = refl
spoiled_days (d ∷ ds) = or-true _

pub room_for : (flows room : List ℕ) → too_long flows ≡ false → min (length flows) day_limit ≤ length room → length flows ≡ length (take (length flows) room)
room_for flows room e h = sym (length-take-le (length flows) room (omega (arith, few_days flows e)))

-- 9
pub long_form : (flows words : List ℕ) → too_long flows ≡ true → LaidOut flows words flows (Err DayListTooLong)
unfolding form_causes
long_form flows words e =
    record {
      refusal = rw e refl;
      as_many = refl;
      converted = λ h. absurd (some-ne-none 9 (rw e at h));
      spoiled = λ h. rw e (or-true _);
    }

wider : (a b c : Bool) → (a || c) ≡ true → (a || (b || c)) ≡ true
wider true b c e = refl
wider false true c e = refl
wider false false c e = e

-- and where there is room for the days
module _ (flows words days : List ℕ) (e : too_long flows ≡ false) (l : length flows ≡ length days) where
  same_causes : first_cause (from_bits_causes flows words days) ≡ first_cause (form_causes flows words)
  unfolding from_bits_causes form_causes
  same_causes = simp (not_different flows days l)

  number : (form : Result ℕ Refusal) → outcome_of form ≡ from_bits_outcome flows words days → refusal_of form ≡ first_cause (form_causes flows words)
  unfolding from_bits_outcome
  number form o = refusal_told (from_bits_causes flows words days) _ form o ∙ same_causes

  left_days : first_cause (form_causes flows words) ≡ none → days_left flows words days ≡ days_of flows words
  unfolding days_left
  left_days h = leaves_accepted (from_bits_causes flows words days) _ days (same_causes ∙ h)

  pub converted_form : (form : Result ℕ Refusal) {left : List ℕ} → outcome_of form ≡ from_bits_outcome flows words days → left ≡ days_left flows words days → is_ok form ≡ true → LaidOut flows words left form
  converted_form (Ok n) o d t =
      let h = number (Ok n) o in
      let same = d ∙ left_days (sym h) in
      record { refusal = h; as_many = ap length same ∙ length_of_days flows words; converted = λ g. same; spoiled = λ g. absurd (none-ne-some _ (h ∙ g)) }
  converted_form (Err r) o d t = absurd (false≢true t)

  pub spoiled_form : (form : Result ℕ Refusal) {left : List ℕ} → outcome_of form ≡ from_bits_outcome flows words days → length left ≡ length days → (eqb (length left) 0 || any_invalid_day left) ≡ true → is_ok form ≡ false → LaidOut flows words left form
  spoiled_form (Ok n) o k s t = absurd (true≢false t)
  spoiled_form (Err r) {left} o k s t =
      let h = number (Err r) o in
      record { refusal = h; as_many = k ∙ sym l; converted = λ g. absurd (some-ne-none _ (h ∙ g)); spoiled = λ g. wider _ (too_long left) _ s }
