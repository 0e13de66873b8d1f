-- The views of a day and of a base value, by the marks.
-- Assumes nothing.
use Prim.Native.Nat.{ℕ, zero, suc, ◌≤◌, ◌<◌}
use mathlib.Core.Path.{◌≡◌, refl, sym, ◌∙◌, ap, subst}
use mathlib.Core.Bool.{Bool, true, false, true≢false, false≢true, not, ◌||◌, ◌&&◌}
use mathlib.Core.List.{List, [], ◌∷◌, map}
use mathlib.Core.Logic.{◌⊎◌, inl, inr, ⊎_elim}
use mathlib.Core.Option.{Option, none, some, none-ne-some, some-injective}
use native.Mathlib.Decide.{ℕ_discrete}
use native.Mathlib.Omega.{arith}
use lib.ListN.{length, get_or}
use borrow.Author.Tests.{eq-eqb, ne_eqb, leb-true, le-leb, eqb-true, eqb-false, not-false}
use Rattle.series.specs.Units.{flow_limit, missing_mark, no_value_mark, is_missing, is_invalid_day, day_of, base_of, base_mark, within}
use Rattle.series.specs.Lists.{any_invalid_day}

pub one_of : (a b : Bool) → (a || b) ≡ true → (a ≡ true) ⊎ (b ≡ true)
one_of true b e = inl refl
one_of false b e = inr e

pub neither_of : (a b : Bool) → (a || b) ≡ false → (a ≡ false) × (b ≡ false)
neither_of true b e = absurd (true≢false e)
neither_of false b e = (refl, e)

pub both_of : (a b : Bool) → (a && b) ≡ true → (a ≡ true) × (b ≡ true)
both_of true b e = (refl, e)
both_of false b e = absurd (false≢true e)

-- a number of a setting in its range
pub lies : (low high n : ℕ) → within low high n ≡ true → (low ≤ n) × (n ≤ high)
unfolding within
lies low high n e = let h = both_of _ _ e in (leb-true low n h.0, leb-true n high h.1)

pub lies_within : (low high n : ℕ) → low ≤ n → n ≤ high → within low high n ≡ true
unfolding within
lies_within low high n h k = simp (le-leb low n h, le-leb n high k)

-- a test of a range that did not refuse
pub not_outside : (low high n : ℕ) → not (within low high n) ≡ false → (low ≤ n) × (n ≤ high)
not_outside low high n e = lies low high n (not-false _ e)

pub day_missing : (d : ℕ) → d ≡ missing_mark → day_of d ≡ none
unfolding day_of
day_missing d e = simp (eq-eqb d missing_mark e)

pub day_present : (d : ℕ) → (d ≡ missing_mark → ⊥) → day_of d ≡ some d
unfolding day_of
day_present d e = simp (ne_eqb d missing_mark e)

-- a present day's number is its flow
pub day_flow : (d : ℕ) {y : ℕ} → day_of d ≡ some y → d ≡ y
day_flow d {y} e =
    elim (ℕ_discrete d missing_mark) [
      | yes m ↦ absurd (none-ne-some y (sym (day_missing d m) ∙ e))
      | no m ↦ some-injective d y (sym (day_present d m) ∙ e)
    ]

pub base_none : (b : ℕ) → b ≡ no_value_mark → base_of b ≡ none
unfolding base_of
base_none b e = simp (eq-eqb b no_value_mark e)

pub base_value : (b : ℕ) → (b ≡ no_value_mark → ⊥) → base_of b ≡ some b
unfolding base_of
base_value b e = simp (ne_eqb b no_value_mark e)

-- what is written for a value or none, and what is seen of it
pub mark_none : base_mark none ≡ no_value_mark
unfolding base_mark
mark_none = refl

pub mark_value : (b : ℕ) → base_mark (some b) ≡ b
unfolding base_mark
mark_value b = refl

pub seen_none : base_of (base_mark none) ≡ none
seen_none = base_none (base_mark none) mark_none

pub seen_value : (b : ℕ) → (b ≡ no_value_mark → ⊥) → base_of (base_mark (some b)) ≡ some b
unfolding base_mark
seen_value b e = base_value b e

-- a base value in memory is the mark of what is seen of it
pub mark_seen : (b : ℕ) → base_mark (base_of b) ≡ b
mark_seen b =
    elim (ℕ_discrete b no_value_mark) [
      | yes m ↦ ap base_mark (base_none b m) ∙ mark_none ∙ sym m
      | no m ↦ ap base_mark (base_value b m) ∙ mark_value b
    ]

-- a valid day is a flow or missing
pub valid_day : (d : ℕ) → is_invalid_day d ≡ false → (d ≤ flow_limit) ⊎ (d ≡ missing_mark)
unfolding is_invalid_day
valid_day d e = ⊎_elim (λ h. inl (leb-true d flow_limit h)) (λ h. inr (eqb-true d missing_mark h)) (one_of _ _ (not-false _ e))

pub valid_flow : (d : ℕ) → d ≤ flow_limit → is_invalid_day d ≡ false
unfolding is_invalid_day
valid_flow d h = simp (le-leb d flow_limit h)

pub valid_missing : is_invalid_day missing_mark ≡ false
unfolding is_invalid_day
valid_missing = refl

-- the mark of a missing day, as it is tested
pub mark_missing : (d : ℕ) → d ≡ missing_mark → is_missing d ≡ true
unfolding is_missing
mark_missing d e = eq-eqb d missing_mark e

pub not_mark_missing : (d : ℕ) → (d ≡ missing_mark → ⊥) → is_missing d ≡ false
unfolding is_missing
not_mark_missing d n = ne_eqb d missing_mark n

pub missing_is_mark : (d : ℕ) → is_missing d ≡ false → d ≡ missing_mark → ⊥
unfolding is_missing
missing_is_mark d e = eqb-false d missing_mark e

-- days whose flows are within their limit
abbrev pub Valid : List (Option ℕ) → Type 0
Valid [] = Unit {0}
Valid (none ∷ ds) = Valid ds
Valid (some y ∷ ds) = (y ≤ flow_limit) × Valid ds

pub valid_days : (days : List ℕ) → any_invalid_day days ≡ false → Valid (map day_of days)
unfolding any_invalid_day
valid_days [] e = tt
valid_days (d ∷ ds) e =
    let h = neither_of _ _ e in
    let rest = valid_days ds h.1 in
    ⊎_elim (λ l. subst (λ o. Valid (o ∷ map day_of ds)) (sym (day_present d (λ m. absurd (omega arith)))) (l, rest)) (λ m. subst (λ o. Valid (o ∷ map day_of ds)) (sym (day_missing d m)) rest) (valid_day d h.0)

pub valid_at : (days : List ℕ) (i : ℕ) → any_invalid_day days ≡ false → i < length days → is_invalid_day (get_or days i 0) ≡ false
unfolding any_invalid_day
valid_at [] i e h = absurd (omega arith)
valid_at (d ∷ ds) zero e h = (neither_of (is_invalid_day d) (any_invalid_day ds) e).0
valid_at (d ∷ ds) (suc i) e h = valid_at ds i (neither_of (is_invalid_day d) (any_invalid_day ds) e).1 (omega arith)
