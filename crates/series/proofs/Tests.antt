-- The shared causes 9, 14, 10 and 20: what it means that one does not hold, list by list, and how loops find it. A cause
-- holds of a list if it holds of what is left after i days that do not show it.
-- Assumes nothing.
use Prim.Native.Nat.{ℕ, zero, suc, ◌+◌, ◌*◌, ◌≤◌, ◌<◌}
use mathlib.Core.Path.{◌≡◌, refl, sym, ◌∙◌, ap, ap₂}
use mathlib.Core.Bool.{Bool, false, true≢false, not, ◌||◌, ◌&&◌, or_assoc, or-false}
use mathlib.Core.List.{List, [], ◌∷◌, ◌++◌}
use mathlib.Core.Logic.{◌⊎◌, inl, inr}
use mathlib.Core.Option.{Option, none, some}
use Rattle.std.proofs.lemmas.List.{nil_from_length}
use native.Mathlib.Numerals.{add-one}
use native.Mathlib.Decide.{ℕ_discrete}
use lib.ListN.{length, get_or, drop, replicate, drop_of_length-le}
use lib.Dec.{ltb, eqb}
use lib.Seq.{drop-cons}
use borrow.Author.Tests.{ltb-false, le-ltb, eqb-true, eq-eqb, ne_eqb, not-false}
use Rattle.series.specs.Units.{day_limit, missing_mark, no_value_mark, is_invalid_day, day_of, base_of}
use Rattle.series.specs.Lists.{too_long, lengths_differ, any_invalid_day, is_invalid_base, any_invalid_base}
use Rattle.series.proofs.Views.{valid_missing, day_missing, day_present, base_none, base_value}

-- 9
pub few_days : (days : List ℕ) → too_long days ≡ false → length days ≤ day_limit
unfolding too_long
few_days days e = ltb-false day_limit (length days) e

pub day_count_tested : (days : List ℕ) → ltb day_limit (length days) ≡ too_long days
unfolding too_long
day_count_tested days = refl

pub not_too_long : (days : List ℕ) → length days ≤ day_limit → too_long days ≡ false
unfolding too_long
not_too_long days h = le-ltb day_limit (length days) h

-- 14
pub same_length : (days base : List ℕ) → lengths_differ days base ≡ false → length days ≡ length base
unfolding lengths_differ
same_length days base e = eqb-true (length days) (length base) (not-false _ e)

pub not_different : (days base : List ℕ) → length days ≡ length base → lengths_differ days base ≡ false
unfolding lengths_differ
not_different days base e = simp (eq-eqb (length days) (length base) e)

-- 10
pub no_invalid_day : any_invalid_day [] ≡ false
unfolding any_invalid_day
no_invalid_day = refl

pub any_day : (d : ℕ) (ds : List ℕ) → any_invalid_day (d ∷ ds) ≡ (is_invalid_day d || any_invalid_day ds)
unfolding any_invalid_day
any_day d ds = refl

pub any_append : (a b : List ℕ) → any_invalid_day (a ++ b) ≡ (any_invalid_day a || any_invalid_day b)
unfolding any_invalid_day
any_append [] b = refl
any_append (d ∷ ds) b = rw (any_append ds b) (sym (or_assoc (is_invalid_day d) (any_invalid_day ds) (any_invalid_day b)))

pub valid_gap : (n : ℕ) → any_invalid_day (replicate n missing_mark) ≡ false
unfolding any_invalid_day
valid_gap zero = refl
valid_gap (suc n) = simp (valid_missing, valid_gap n)

-- 20, of one day
pub no_base : (day : Option ℕ) → is_invalid_base day none ≡ false
unfolding is_invalid_base
no_base day = refl

pub base_tested : (d b x : ℕ) → x ≡ d → (not (eqb b no_value_mark) && (eqb d missing_mark || ltb (1000 * x) b)) ≡ is_invalid_base (day_of d) (base_of b)
unfolding is_invalid_base
base_tested d b x e =
    elim (ℕ_discrete b no_value_mark) [
      | yes m ↦ rw (base_none b m, eq-eqb b no_value_mark m) refl
      | no m ↦ elim (ℕ_discrete d missing_mark) [
        | yes n ↦ rw (base_value b m, day_missing d n, ne_eqb b no_value_mark m, eq-eqb d missing_mark n) refl
        | no n ↦ rw (base_value b m, day_present d n, ne_eqb b no_value_mark m, ne_eqb d missing_mark n, e) refl
      ]
    ]

pub none_on_missing : (b : ℕ) → is_invalid_base none (some b) ≡ false → ⊥
unfolding is_invalid_base
none_on_missing b e = true≢false e

pub at_flow : (y b : ℕ) → is_invalid_base (some y) (some b) ≡ false → b ≤ 1000 * y
unfolding is_invalid_base
at_flow y b e = ltb-false (1000 * y) b e

pub valid_base : (y b : ℕ) → b ≤ 1000 * y → is_invalid_base (some y) (some b) ≡ false
unfolding is_invalid_base
valid_base y b h = le-ltb (1000 * y) b h

-- 20, of two lists
pub no_invalid_base : (bs : List ℕ) → any_invalid_base [] bs ≡ false
unfolding any_invalid_base
no_invalid_base bs = refl

pub any_base : (d : ℕ) (ds : List ℕ) (b : ℕ) (bs : List ℕ) → any_invalid_base (d ∷ ds) (b ∷ bs) ≡ (is_invalid_base (day_of d) (base_of b) || any_invalid_base ds bs)
unfolding any_invalid_base
any_base d ds b bs = refl

no_bases : (ds : List ℕ) → any_invalid_base ds [] ≡ false
unfolding any_invalid_base
no_bases [] = refl
no_bases (d ∷ ds) = refl

-- a search: t says whether it has found anything, b is the next test, and more what comes behind it
one_more : (t b more : Bool) {whole rest t' b' : Bool} → whole ≡ (t || rest) → rest ≡ (b || more) → b' ≡ b → t' ≡ (t || b') → whole ≡ (t' || more)
one_more t b more e f g h = e ∙ ap (λ x. t || x) f ∙ sym (or_assoc t b more) ∙ ap (λ x. x || more) (sym (h ∙ ap (λ x. t || x) g))

module _ (days : List ℕ) (i : ℕ) (t : Bool) (left : any_invalid_day days ≡ (t || any_invalid_day (drop i days))) where
  next_day : i < length days → any_invalid_day (drop i days) ≡ (is_invalid_day (get_or days i 0) || any_invalid_day (drop (i + 1) days))
  unfolding any_invalid_day
  next_day h = rw (add-one, drop-cons days i 0)

  pub day_looked_at : {t' b : Bool} → i < length days → b ≡ is_invalid_day (get_or days i 0) → t' ≡ (t || b) → any_invalid_day days ≡ (t' || any_invalid_day (drop (i + 1) days))
  day_looked_at h e f = one_more t _ _ left (next_day h) e f

  pub days_looked_at : length days ≤ i → t ≡ any_invalid_day days
  unfolding any_invalid_day
  days_looked_at h = sym (or-false t) ∙ sym (rw (drop_of_length-le days h) at left)

module _ (days base : List ℕ) (t : Bool) (ds bs : List ℕ) (left : any_invalid_base days base ≡ (t || any_invalid_base ds bs)) where
  pub base_looked_at : {d b : ℕ} {ds' bs' : List ℕ} {t' : Bool} → (ds ≡ d ∷ ds') × (bs ≡ b ∷ bs') → t' ≡ is_invalid_base (day_of d) (base_of b) → any_invalid_base days base ≡ ((t || t') || any_invalid_base ds' bs')
  base_looked_at {d} {b} {ds'} {bs'} e f = one_more t _ _ left (ap₂ any_invalid_base e.0 e.1 ∙ any_base d ds' b bs') f refl

  pub bases_looked_at : (length ds ≡ 0) ⊎ (length bs ≡ 0) → t ≡ any_invalid_base days base
  bases_looked_at e = sym (left ∙ ap (λ x. t || x) (elim e [ inl h ↦ ap (λ l. any_invalid_base l bs) (nil_from_length ds h) ∙ no_invalid_base bs | inr h ↦ ap (any_invalid_base ds) (nil_from_length bs h) ∙ no_bases ds ]) ∙ or-false t)
