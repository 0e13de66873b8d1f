-- The first present day of a list.
-- Assumes nothing.
use Prim.Native.Nat.{ℕ, suc, ◌+◌, ◌≤◌, ◌<◌}
use mathlib.Core.Path.{◌≡◌, refl, ◌∙◌, ap}
use mathlib.Core.List.{List, [], ◌∷◌, map}
use mathlib.Core.Option.{Option, none, some, none-ne-some, some-injective}
use native.Mathlib.Decide.{ℕ_discrete}
use native.Mathlib.Numerals.{add-one}
use native.Mathlib.Omega.{arith}
use lib.ListN.{length, get_or, drop, drop_of_length-le}
use lib.Seq.{drop-cons}
use Rattle.series.specs.Units.{flow_limit, missing_mark, day_of}
use Rattle.series.specs.Segments.{leading_gap, first_present}
use Rattle.series.proofs.Views.{Valid, day_missing, day_present}

-- the walk over a list: a missing day in front is one more ..
pub gap_turn : (days : List ℕ) (t : ℕ) → leading_gap (map day_of days) ≡ t + leading_gap (map day_of (drop t days)) → t < length days → get_or days t 0 ≡ missing_mark
    → leading_gap (map day_of days) ≡ (t + 1) + leading_gap (map day_of (drop (t + 1) days))
unfolding leading_gap
gap_turn days t e h m =
    e ∙ ap (λ l. t + leading_gap (map day_of l)) (drop-cons days t 0 h) ∙ ap (λ o. t + leading_gap (o ∷ map day_of (drop (suc t) days))) (day_missing _ m)
    ∙ rw add-one (omega arith)

-- .. and the first present day ends it
pub gap_ends : (days : List ℕ) (t : ℕ) → leading_gap (map day_of days) ≡ t + leading_gap (map day_of (drop t days)) → t < length days → (get_or days t 0 ≡ missing_mark → ⊥) → leading_gap (map day_of days) ≡ t
unfolding leading_gap
gap_ends days t e h p =
    e ∙ ap (λ l. t + leading_gap (map day_of l)) (drop-cons days t 0 h) ∙ ap (λ o. t + leading_gap (o ∷ map day_of (drop (suc t) days))) (day_present _ p) ∙ omega arith

pub gap_of_all : (days : List ℕ) (t : ℕ) → leading_gap (map day_of days) ≡ t + leading_gap (map day_of (drop t days)) → length days ≤ t → t ≤ length days → leading_gap (map day_of days) ≡ length days
unfolding leading_gap
gap_of_all days t e h l = e ∙ ap (λ x. t + leading_gap (map day_of x)) (drop_of_length-le days h) ∙ omega arith

-- the day behind the missing ones is the first that is present, if there is one
pub first_at : (n : ℕ) (days : List ℕ) → n ≡ leading_gap (map day_of days) → n < length days → first_present (map day_of days) ≡ some (get_or days n 0)
unfolding first_present leading_gap
first_at n [] e h = absurd (omega arith)
first_at n (d ∷ ds) e h =
    elim (ℕ_discrete d missing_mark) [
      | no p ↦
          let z : n ≡ 0 = e ∙ ap (λ o. leading_gap (o ∷ map day_of ds)) (day_present d p) in
          rw (z, day_present d p) refl
      | yes m ↦
          let k = leading_gap (map day_of ds) in
          let z : n ≡ suc k = e ∙ ap (λ o. leading_gap (o ∷ map day_of ds)) (day_missing d m) in
          rw (z, day_missing d m) (first_at k ds refl (omega arith))
    ]

pub valid_first : (days : List (Option ℕ)) {y : ℕ} → Valid days → first_present days ≡ some y → y ≤ flow_limit
unfolding first_present
valid_first [] {y} v e = absurd (none-ne-some y e)
valid_first (none ∷ ds) v e = valid_first ds v e
valid_first (some x ∷ ds) {y} v e = omega (arith, v.0, some-injective x y e)

pub none_first : (days : List ℕ) → length days ≤ leading_gap (map day_of days) → first_present (map day_of days) ≡ none
unfolding first_present leading_gap
none_first [] h = refl
none_first (d ∷ ds) h =
    elim (ℕ_discrete d missing_mark) [
      | no p ↦ let z : leading_gap (day_of d ∷ map day_of ds) ≡ 0 = ap (λ o. leading_gap (o ∷ map day_of ds)) (day_present d p) in absurd (omega arith)
      | yes m ↦
          let z : leading_gap (day_of d ∷ map day_of ds) ≡ suc (leading_gap (map day_of ds)) = ap (λ o. leading_gap (o ∷ map day_of ds)) (day_missing d m) in
          rw (day_missing d m) (none_first ds (omega arith))
    ]
