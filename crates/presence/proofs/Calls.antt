-- The two calls by their causes: what an accepted call has passed, and what it answers and leaves.
-- Assumes nothing.
use Prim.Native.Nat.{ℕ, ◌≤◌}
use mathlib.Core.Path.{◌≡◌, sym, ◌∙◌, ap}
use mathlib.Core.Bool.{false}
use mathlib.Core.List.{List}
use lib.ListN.{length}
use borrow.Author.Tests.{eqb-true, not-false}
use Rattle.std.specs.Prelude.{Result, Ok, Err}
use Rattle.series.specs.declared.Refusal.{Refusal}
use Rattle.series.specs.Causes.{refusal_number, accepted, refused, Decides}
use Rattle.series.proofs.Refusing.{passed, decided_refused, decided_accepted, outcome_refused, outcome_accepted, leaves_refused, leaves_accepted}
use Rattle.series.proofs.Tests.{few_days, same_length}
use Rattle.series.proofs.Views.{neither_of}
use Rattle.presence.specs.Form.{word_count, wrong_count, days_of, flows_of, words_of, is_invalid_form}
use Rattle.presence.specs.Call.{ones_in, to_bits_causes, to_bits_outcome, flows_left, words_left, from_bits_causes, from_bits_outcome, days_left}

counted : (days : ℕ) (words : List ℕ) → wrong_count days words ≡ false → length words ≡ word_count days
counted days words e = eqb-true _ _ (not-false _ e)

-- to bits
pub record DaysPassed (days flows words : List ℕ) : Type 0 where
  pub few : length days ≤ 36525
  pub same : length days ≡ length flows
  pub count : length words ≡ word_count (length days)

module _ (days flows words : List ℕ) {v : Result Unit Refusal} (d : Decides (to_bits_causes days flows words) v) where
  pub days_passed : v ≡ Ok tt → DaysPassed days flows words
  unfolding to_bits_causes
  days_passed e =
      let q = passed (to_bits_causes days flows words) (decided_accepted d e) in
      record { few = few_days days (q 9); same = same_length days flows (q 14); count = counted (length days) words (q 28) }

  pub to_bits_refuses : (r : Refusal) → v ≡ Err r → refused (refusal_number r) ≡ to_bits_outcome days flows words
  unfolding to_bits_outcome
  to_bits_refuses r e = sym (outcome_refused (to_bits_causes days flows words) (ones_in (words_of days)) (decided_refused d e))

  pub flows_kept : {r : Refusal} → v ≡ Err r → flows ≡ flows_left days flows words
  unfolding flows_left
  flows_kept e = sym (leaves_refused _ _ _ (decided_refused d e))

  pub words_kept : {r : Refusal} → v ≡ Err r → words ≡ words_left days flows words
  unfolding words_left
  words_kept e = sym (leaves_refused _ _ _ (decided_refused d e))

  pub to_bits_answers : v ≡ Ok tt → (new : List ℕ) → new ≡ words_of days → accepted (ones_in new) ≡ to_bits_outcome days flows words
  unfolding to_bits_outcome
  to_bits_answers e new w = ap (λ l. accepted (ones_in l)) w ∙ sym (outcome_accepted (to_bits_causes days flows words) (ones_in (words_of days)) (decided_accepted d e))

  pub flows_put : v ≡ Ok tt → flows_of days ≡ flows_left days flows words
  unfolding flows_left
  flows_put e = sym (leaves_accepted _ _ _ (decided_accepted d e))

  pub words_put : v ≡ Ok tt → words_of days ≡ words_left days flows words
  unfolding words_left
  words_put e = sym (leaves_accepted _ _ _ (decided_accepted d e))

-- from bits
pub record FormPassed (flows words days : List ℕ) : Type 0 where
  pub few : length flows ≤ 36525
  pub same : length flows ≡ length days
  pub count : length words ≡ word_count (length flows)

module _ (flows words days : List ℕ) {v : Result Unit Refusal} (d : Decides (from_bits_causes flows words days) v) where
  pub form_passed : v ≡ Ok tt → FormPassed flows words days
  unfolding from_bits_causes is_invalid_form
  form_passed e =
      let q = passed (from_bits_causes flows words days) (decided_accepted d e) in
      record { few = few_days flows (q 9); same = same_length flows days (q 14); count = counted (length flows) words (neither_of _ _ (q 28)).0 }

  pub from_bits_refuses : (r : Refusal) → v ≡ Err r → refused (refusal_number r) ≡ from_bits_outcome flows words days
  unfolding from_bits_outcome
  from_bits_refuses r e = sym (outcome_refused (from_bits_causes flows words days) (ones_in words) (decided_refused d e))

  pub days_kept : {r : Refusal} → v ≡ Err r → days ≡ days_left flows words days
  unfolding days_left
  days_kept e = sym (leaves_refused _ _ _ (decided_refused d e))

  pub from_bits_answers : v ≡ Ok tt → accepted (ones_in words) ≡ from_bits_outcome flows words days
  unfolding from_bits_outcome
  from_bits_answers e = sym (outcome_accepted (from_bits_causes flows words days) (ones_in words) (decided_accepted d e))

  pub days_put : v ≡ Ok tt → days_of flows words ≡ days_left flows words days
  unfolding days_left
  days_put e = sym (leaves_accepted _ _ _ (decided_accepted d e))
