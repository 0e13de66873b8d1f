-- A call over a form, by the call over the days laid out for it: what it answers and what it leaves, of any call that asks 10
-- where `At10` says.
-- Assumes nothing.
use Prim.Native.Nat.{ℕ}
use mathlib.Core.Path.{◌≡◌, refl, sym, ◌∙◌, ap, subst}
use mathlib.Core.Bool.{Bool, true, false, false≢true, cond, not, or-false}
use mathlib.Core.List.{List, [], ◌∷◌, ◌++◌}
use mathlib.Core.Option.{Option, none, some, or_else, none-ne-some}
use lib.ListN.{length}
use lib.Dec.{eqb}
use borrow.Author.Tests.{ne_eqb, not-true, eqb-true}
use Rattle.std.proofs.lemmas.List.{nil_from_length}
use Rattle.std.specs.Prelude.{Result, Ok, Err, IfOk}
use Rattle.series.specs.declared.Refusal.{Refusal}
use Rattle.series.specs.Causes.{refusal_number, refusal_of, Cause, cause, first_cause, by_cause, accepted, outcome, outcome_of, leaves}
use Rattle.series.specs.Lists.{too_long, any_invalid_day}
use Rattle.series.proofs.Views.{both_of}
use Rattle.series.proofs.Refusing.{passed, first_append, outcome_was_accepted, outcome_accepted, outcome_refused, leaves_refused}
use Rattle.series.proofs.AtTen.{comes_before_10, all_numbers, number_of_first, At10, first_at_10, few_at_10, valid_at_10, length_at_10}
use Rattle.presence.specs.Form.{days_of, is_invalid_form, is_invalid_flow}
use Rattle.presence.proofs.Sentences.{length_of_days, valid_days}
use Rattle.bits.specs.Order.{with_28, over_form}
use Rattle.bits.proofs.Forms.{refusal_told}
use Rattle.bits.specs.Private.{form_causes, LaidOut, over_answer}

-- 28 stands behind what comes before 10
not_ten : (n : ℕ) → comes_before_10 n ≡ true → eqb n 10 ≡ false
not_ten n h = ne_eqb n 10 (λ e. false≢true (subst (λ k. comes_before_10 k ≡ true) e h))

behind : (form flow x : Bool) (before after : List Cause) → all_numbers comes_before_10 before ≡ true → with_28 form flow (before ++ cause x 10 ∷ after) ≡ before ++ cause form 28 ∷ cause flow 10 ∷ after
unfolding with_28
behind form flow x [] after h = refl
behind form flow x (c ∷ cs) after h =
    let b = both_of (comes_before_10 c.number) (all_numbers comes_before_10 cs) h in
    rw (not_ten c.number b.0) (ap (λ l. c ∷ l) (behind form flow x cs after b.1))

-- the number that a call over a form that stands for no days refuses with, by that of the call over the days laid out
abbrev pick : Option ℕ → (form : ℕ) → ℕ
pick none k = k
pick (some n) k = cond (comes_before_10 n) n k

pub both_empty : (b entry : List ℕ) → length b ≡ length entry → length entry ≡ 0 → b ≡ entry
both_empty b entry l z = nil_from_length b (l ∙ z) ∙ sym (nil_from_length entry z)

same_leaves : (cs ds : List Cause) (filled entry : List ℕ) → first_cause cs ≡ first_cause ds → leaves cs filled entry ≡ leaves ds filled entry
unfolding leaves
same_leaves cs ds filled entry e = ap (λ o. by_cause o (λ _. entry) filled) e

module _ {base : List ℕ} {causes : List ℕ → List Cause} (t : At10 base causes) (flows words : List ℕ) where
  abbrev form : Bool
  form = is_invalid_form flows words

  abbrev flow : Bool
  flow = is_invalid_flow flows words

  abbrev over : List Cause
  over = over_form flows words (causes (days_of flows words))

  abbrev first_before : Option ℕ
  first_before = first_cause (t.before (length flows))

  -- the order of the call over a form
  pub order : over ≡ t.before (length flows) ++ cause form 28 ∷ cause flow 10 ∷ t.after (days_of flows words)
  unfolding over_form
  order =
      ap (with_28 form flow) (t.in_order (days_of flows words))
      ∙ behind form flow _ _ _ (t.numbers_before (length (days_of flows words)))
      ∙ ap (λ n. t.before n ++ cause form 28 ∷ cause flow 10 ∷ t.after (days_of flows words)) (length_of_days flows words)

  first_over : first_cause over ≡ or_else first_before (cond form (some 28) (cond flow (some 10) (first_cause (t.after (days_of flows words)))))
  first_over = ap first_cause order ∙ first_append (t.before (length flows)) _

  first_call : (days : List ℕ) → length days ≡ length flows → first_cause (causes days) ≡ or_else first_before (cond (any_invalid_day days) (some 10) (first_cause (t.after days)))
  first_call days l = first_at_10 t days ∙ ap (λ n. or_else (first_cause (t.before n)) (cond (any_invalid_day days) (some 10) (first_cause (t.after days)))) l

  pub over_valid : form ≡ false → flow ≡ false → first_cause over ≡ first_cause (causes (days_of flows words))
  over_valid e f = first_over ∙ rw (e, f) (sym (first_call (days_of flows words) (length_of_days flows words) ∙ rw (valid_days flows words f) refl))

  module _ {days : List ℕ} {form' : Result ℕ Refusal} (laid : LaidOut flows words days form') where
    abbrev first_form : Option ℕ
    first_form = first_cause (form_causes flows words)

    same_first : first_form ≡ none → first_cause over ≡ first_cause (causes days)
    unfolding form_causes
    same_first h =
        let p = passed (form_causes flows words) h in
        over_valid (p 28) (p 10) ∙ ap (λ ds. first_cause (causes ds)) (sym (laid.converted h))

    -- nothing before 10 holds
    few : first_before ≡ none → too_long flows ≡ false
    unfolding too_long
    few h = sym (t.asks_9 (length flows)) ∙ passed (t.before (length flows)) h 9

    of_form : {k : ℕ} → first_form ≡ some k → first_before ≡ none → cond form (some 28) (cond flow (some 10) (first_cause (t.after (days_of flows words)))) ≡ some k
    unfolding form_causes
    of_form {k} e h = by_tests form flow (rw (few h) at e)
      where
        by_tests : (a b : Bool) → cond a (some 28) (cond b (some 10) none) ≡ some k → cond a (some 28) (cond b (some 10) (first_cause (t.after (days_of flows words)))) ≡ some k
        by_tests true b g = g
        by_tests false true g = g
        by_tests false false g = absurd (none-ne-some k g)

    picked : {k : ℕ} → first_form ≡ some k → first_cause over ≡ some (pick (first_cause (causes days)) k)
    unfolding or_else
    picked {k} e = by_before first_before refl
      where
        late : (o : Option ℕ) → first_cause (t.after days) ≡ o → pick (cond (any_invalid_day days) (some 10) o) k ≡ k
        late none g = by_test (any_invalid_day days)
          where
            by_test : (b : Bool) → pick (cond b (some 10) none) k ≡ k
            by_test true = refl
            by_test false = refl
        late (some n) g = by_test (any_invalid_day days) (number_of_first (λ n. not (comes_before_10 n)) (t.after days) (t.numbers_after days) g)
          where
            by_test : (b : Bool) → not (comes_before_10 n) ≡ true → pick (cond b (some 10) (some n)) k ≡ k
            by_test true h = refl
            by_test false h = rw (not-true _ h) refl

        by_before : (o : Option ℕ) → first_before ≡ o → first_cause over ≡ some (pick (first_cause (causes days)) k)
        by_before none h = first_over ∙ rw h (of_form e h ∙ ap some (sym (rw (first_call days laid.as_many, h) (late _ refl))))
        by_before (some n) h =
            let c = number_of_first comes_before_10 (t.before (length flows)) (t.numbers_before (length flows)) h in
            first_over ∙ rw h (sym (ap some (rw (first_call days laid.as_many, h, c) refl)))

    -- what a call over the form answers
    pub answered : {A : Type 0} {result : Result A Refusal} (answer : Result A Refusal) → result ≡ over_answer form' answer → refusal_of answer ≡ first_cause (causes days) → refusal_of result ≡ first_cause over
    answered {A} answer r e = ap refusal_of r ∙ by_form form' laid.refusal
      where
        by_form : (f : Result ℕ Refusal) → refusal_of f ≡ first_form → refusal_of (over_answer f answer) ≡ first_cause over
        by_form (Ok n) h = e ∙ sym (same_first (sym h))
        by_form (Err r) h = by_answer answer e ∙ sym (picked (sym h))
          where
            by_answer : (a : Result A Refusal) → refusal_of a ≡ first_cause (causes days) → refusal_of (over_answer (Err r) a) ≡ some (pick (first_cause (causes days)) (refusal_number r))
            by_answer (Ok v) g = ap (λ o. some (pick o (refusal_number r))) g
            by_answer (Err first) g = by_test (comes_before_10 (refusal_number first)) ∙ ap (λ o. some (pick o (refusal_number r))) g
              where
                by_test : (b : Bool) → refusal_of {A = A} (cond b (Err first) (Err r)) ≡ some (cond b (refusal_number first) (refusal_number r))
                by_test true = refl
                by_test false = refl

    -- what holds of the call over the days, unless it refuses, holds of the call over the form
    pub carried : {A : Type 0} {result : Result A Refusal} (P : Result A Refusal → List ℕ → Type 0) → ((r : Refusal) (ds : List ℕ) → P (Err r) ds) → (answer : Result A Refusal) → result ≡ over_answer form' answer → P answer days → P result (days_of flows words)
    carried {A} P refuse answer e p = subst (λ r. P r (days_of flows words)) (sym e) (by_form form' laid.refusal)
      where
        by_form : (f : Result ℕ Refusal) → refusal_of f ≡ first_form → P (over_answer f answer) (days_of flows words)
        by_form (Ok n) h = subst (P answer) (laid.converted (sym h)) p
        by_form (Err r) h = by_answer answer
          where
            by_answer : (a : Result A Refusal) → P (over_answer (Err r) a) (days_of flows words)
            by_answer (Ok v) = refuse r _
            by_answer (Err first) = by_test (comes_before_10 (refusal_number first))
              where
                by_test : (b : Bool) → P (cond b (Err first) (Err r)) (days_of flows words)
                by_test true = refuse first _
                by_test false = refuse r _

    pub outcome_over : {A : Type 0} {result : Result A Refusal} (value : List ℕ → A) (answer : Result A Refusal) → result ≡ over_answer form' answer → outcome_of answer ≡ outcome (causes days) (value days) → outcome_of result ≡ outcome over (value (days_of flows words))
    outcome_over {A} {result} value answer e o =
        by_result result (answered answer e (refusal_told (causes days) _ answer o)) (carried (λ r ds. IfOk r (λ v. v ≡ value ds)) (λ r ds. tt) answer e (by_answer answer o))
      where
        by_answer : (a : Result A Refusal) → outcome_of a ≡ outcome (causes days) (value days) → IfOk a (λ v. v ≡ value days)
        by_answer (Ok v) g = sym (outcome_was_accepted (causes days) _ (sym g)).1
        by_answer (Err r) g = tt

        by_result : (r : Result A Refusal) → refusal_of r ≡ first_cause over → IfOk r (λ v. v ≡ value (days_of flows words)) → outcome_of r ≡ outcome over (value (days_of flows words))
        by_result (Ok v) g s = ap accepted s ∙ sym (outcome_accepted over _ (sym g))
        by_result (Err r) g s = sym (outcome_refused over _ (sym g))

    -- what it leaves in a list that the call over the days fills: as there is nothing to fill where there are no days, only a
    -- call over days that convert fills it
    no_days : {k : ℕ} → first_form ≡ some k → first_cause (causes days) ≡ none → length days ≡ 0
    no_days h e = eqb-true (length days) 0 (sym (or-false _) ∙ rw (few_at_10 t days e, valid_at_10 t days e) at (laid.spoiled h))

    module _ {b entry : List ℕ} (empty : first_cause (causes days) ≡ none → length days ≡ 0 → b ≡ entry) (filled : List ℕ → List ℕ) (e : b ≡ leaves (causes days) (filled days) entry) where
      kept : {k : ℕ} → first_form ≡ some k → b ≡ entry
      kept h = by_first (first_cause (causes days)) refl
        where
          by_first : (o : Option ℕ) → first_cause (causes days) ≡ o → b ≡ entry
          by_first none g = empty g (no_days h g)
          by_first (some n) g = e ∙ leaves_refused (causes days) _ entry g

      pub left : b ≡ leaves over (filled (days_of flows words)) entry
      left = by_form first_form refl
        where
          by_form : (o : Option ℕ) → first_form ≡ o → b ≡ leaves over (filled (days_of flows words)) entry
          by_form none h = e ∙ same_leaves (causes days) over _ entry (sym (same_first h)) ∙ ap (λ ds. leaves over (filled ds) entry) (laid.converted h)
          by_form (some k) h = kept h ∙ sym (leaves_refused over _ entry (picked h))

    -- of a base list
    pub left_base : {b : List ℕ} → length b ≡ length base → (filled : List ℕ → List ℕ) → b ≡ leaves (causes days) (filled days) base → b ≡ leaves over (filled (days_of flows words)) base
    left_base {b} l = left (λ e z. both_empty b base l (sym (length_at_10 t days e) ∙ z))
