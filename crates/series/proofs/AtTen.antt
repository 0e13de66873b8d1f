-- Where a call over a day list asks 10. What it asks before hangs on the days by their number alone; so of two lists of one
-- length, a call that refuses the one with a number that comes before 10 refuses the other with it.
-- Assumes nothing.
use Prim.Native.Nat.{ℕ}
use mathlib.Core.Path.{◌≡◌, refl, sym, ◌∙◌, ap}
use mathlib.Core.Bool.{Bool, true, false, cond, not, ◌&&◌, ◌||◌}
use mathlib.Core.List.{List, [], ◌∷◌, ◌++◌}
use mathlib.Core.Option.{Option, none, some, or_else, some-ne-none}
use lib.ListN.{length}
use lib.Dec.{ltb, eqb}
use borrow.Author.Tests.{eqb-true, not-false}
use Rattle.series.specs.Units.{day_limit}
use Rattle.series.specs.Causes.{Cause, cause, first_cause}
use Rattle.series.specs.Lists.{too_long, any_invalid_day}
use Rattle.series.proofs.Views.{both_of}
use Rattle.series.proofs.Refusing.{holds_of, passed, AllNumbers, refusal_among, first_append}

-- the numbers that come before 10 in the orders of the calls, each wherever it stands
abbrev pub comes_before_10 : ℕ → Bool
comes_before_10 n =
    eqb n 9 || (eqb n 11 || (eqb n 12 || (eqb n 13 || (eqb n 14 || (eqb n 16 || (eqb n 18 || (eqb n 23 || eqb n 25)))))))

abbrev pub all_numbers : (ℕ → Bool) → List Cause → Bool
all_numbers test [] = true
all_numbers test (c ∷ cs) = test c.number && all_numbers test cs

pub number_of_first : (test : ℕ → Bool) (cs : List Cause) → all_numbers test cs ≡ true → {n : ℕ} → first_cause cs ≡ some n → test n ≡ true
number_of_first test cs h e = refusal_among (λ n. test n ≡ true) cs (each cs h) e
  where
    each : (cs : List Cause) → all_numbers test cs ≡ true → AllNumbers (λ n. test n ≡ true) cs
    each [] h = tt
    each (c ∷ cs) h = let b = both_of (test c.number) (all_numbers test cs) h in (b.0, each cs b.1)

-- a call's causes, by its days; base is its base list
pub record At10 (base : List ℕ) (causes : List ℕ → List Cause) : Type 0 where
  pub before : (days : ℕ) → List Cause
  pub after : (days : List ℕ) → List Cause
  pub in_order : (days : List ℕ) → causes days ≡ before (length days) ++ cause (any_invalid_day days) 10 ∷ after days
  pub numbers_before : (days : ℕ) → all_numbers comes_before_10 (before days) ≡ true
  pub numbers_after : (days : List ℕ) → all_numbers (λ n. not (comes_before_10 n)) (after days) ≡ true
  pub asks_9 : (days : ℕ) → holds_of 9 (before days) ≡ ltb day_limit days
  pub asks_14 : (days : ℕ) → holds_of 14 (before days) ≡ not (eqb days (length base))

module _ {base : List ℕ} {causes : List ℕ → List Cause} (t : At10 base causes) (days : List ℕ) where
  pub first_at_10 : first_cause (causes days) ≡ or_else (first_cause (t.before (length days))) (cond (any_invalid_day days) (some 10) (first_cause (t.after days)))
  first_at_10 = ap first_cause (t.in_order days) ∙ first_append (t.before (length days)) (cause (any_invalid_day days) 10 ∷ t.after days)

  -- a call that accepts
  module _ (e : first_cause (causes days) ≡ none) where
    pub none_before : first_cause (t.before (length days)) ≡ none
    unfolding or_else
    none_before = by_first (first_cause (t.before (length days))) _ (sym first_at_10 ∙ e)
      where
        by_first : (o p : Option ℕ) → or_else o p ≡ none → o ≡ none
        by_first none p h = refl
        by_first (some n) p h = h

    pub valid_at_10 : any_invalid_day days ≡ false
    unfolding or_else
    valid_at_10 = by_test (any_invalid_day days) (rw none_before at (sym first_at_10 ∙ e))
      where
        by_test : (b : Bool) → cond b (some 10) (first_cause (t.after days)) ≡ none → b ≡ false
        by_test true h = absurd (some-ne-none 10 h)
        by_test false h = refl

    pub few_at_10 : too_long days ≡ false
    unfolding too_long
    few_at_10 = sym (t.asks_9 (length days)) ∙ passed (t.before (length days)) none_before 9

    pub length_at_10 : length days ≡ length base
    length_at_10 = eqb-true _ _ (not-false _ (sym (t.asks_14 (length days)) ∙ passed (t.before (length days)) none_before 14))
