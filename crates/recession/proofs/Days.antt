-- The days as limbs see them, and two neighbouring ones.
-- Assumes nothing.
use Prim.Native.Nat.{ℕ, zero, suc, ◌*◌, ◌≤◌, ◌<◌}
use mathlib.Core.Path.{◌≡◌, refl, sym, ◌∙◌, ap}
use mathlib.Core.Bool.{Bool, true, false, cond}
use mathlib.Core.List.{List, [], ◌∷◌}
use mathlib.Core.Logic.{◌⊎◌, inl, inr}
use mathlib.Core.Option.{Option, none, some, none-ne-some, some-injective}
use native.Mathlib.Decide.{ℕ_discrete}
use native.Mathlib.Omega.{arith}
use borrow.Author.Tests.{eqb-true, eq-eqb, ne_eqb}
use lib.Dec.{eqb}
use lib.ListN.{length, get_or, drop}
use Rattle.std.proofs.lemmas.Bool.{true_from_ne_false}
use Rattle.series.specs.Units.{day_of, base_of, missing_mark, no_value_mark}
use Rattle.series.specs.Lists.{is_invalid_base}
use Rattle.series.proofs.Views.{day_missing, day_present, day_flow, base_none, base_value}
use Rattle.series.proofs.Tests.{none_on_missing, valid_base}
use Rattle.recession.specs.Limbs.{at_base, limb_day, limb_days}

-- A day is at base exactly if it is present and its base value is 1000 × its flow; and then limbs see its own flow.
pub seen_at_base : (day base : Option ℕ) {y : ℕ} → at_base day base ≡ some y → (day ≡ some y) × (base ≡ some (1000 * y))
unfolding at_base
seen_at_base none b {y} e = absurd (none-ne-some y e)
seen_at_base (some x) none {y} e = absurd (none-ne-some y e)
seen_at_base (some x) (some b) {y} e = by_test (eqb b (1000 * x)) refl e
  where
    by_test : (t : Bool) → eqb b (1000 * x) ≡ t → cond t (some x) none ≡ some y → (some x ≡ some y) × (some b ≡ some (1000 * y))
    by_test true t g = (g, ap some (eqb-true b (1000 * x) t ∙ ap (λ n. 1000 * n) (some-injective x y g)))
    by_test false t g = absurd (none-ne-some y g)

pub at_base_seen : (y : ℕ) → at_base (some y) (some (1000 * y)) ≡ some y
unfolding at_base
at_base_seen y = simp (eq-eqb (1000 * y) (1000 * y) refl)

-- a day that limbs see is present, has its own flow, and is valid
pub limb_present : (d b : ℕ) {y : ℕ} → limb_day d b ≡ some y → day_of d ≡ some y
unfolding limb_day
limb_present d b e = (seen_at_base (day_of d) (base_of b) e).0

pub limb_flow : (d b : ℕ) {y : ℕ} → limb_day d b ≡ some y → d ≡ y
limb_flow d b e = day_flow d (limb_present d b e)

pub limb_valid : (d b : ℕ) {y : ℕ} → limb_day d b ≡ some y → is_invalid_base (day_of d) (base_of b) ≡ false
unfolding limb_day
limb_valid d b {y} e = let s = seen_at_base (day_of d) (base_of b) e in rw (s.0, s.1) (valid_base y (1000 * y) (omega arith))

-- by the tests of the code: the mark of no value is not 1000 × a flow
pub seen_by_test : (d b : ℕ) → b ≡ 1000 * d → (d ≡ missing_mark → ⊥) → limb_day d b ≡ some d
unfolding limb_day at_base
seen_by_test d b e m = rw (day_present d m, base_value b (λ n. omega (arith, n)), e) (at_base_seen d)

pub unseen_by_test : (d b : ℕ) → ((b ≡ 1000 * d) × (d ≡ missing_mark)) ⊎ (b ≡ 1000 * d → ⊥) → limb_day d b ≡ none
unfolding limb_day at_base
unseen_by_test d b (inl h) = rw (day_missing d h.1)
unseen_by_test d b (inr e) = go (ℕ_discrete d missing_mark) (ℕ_discrete b no_value_mark)
  where
    go : Dec (d ≡ missing_mark) → Dec (b ≡ no_value_mark) → at_base (day_of d) (base_of b) ≡ none
    go (yes m) n = rw (day_missing d m)
    go (no m) (yes n) = rw (day_present d m, base_none b n)
    go (no m) (no n) = rw (day_present d m, base_value b n) (simp (ne_eqb b (1000 * d) e))

-- a missing day with a base value of 1000 × its mark is invalid
pub invalid_by_test : (d b : ℕ) → b ≡ 1000 * d → d ≡ missing_mark → is_invalid_base (day_of d) (base_of b) ≡ true
invalid_by_test d b e m = rw (day_missing d m, base_value b (λ n. omega (arith, n))) (true_from_ne_false _ (none_on_missing b))

pub view_few : (days base : List ℕ) → length (limb_days days base) ≤ length days
unfolding limb_days
view_few [] bs = omega arith
view_few (d ∷ ds) [] = omega arith
view_few (d ∷ ds) (b ∷ bs) = omega (arith, view_few ds bs)

pub view_cons : (days base : List ℕ) (t : ℕ) → length base ≡ length days → t < length days
    → drop t (limb_days days base) ≡ limb_day (get_or days t 0) (get_or base t 0) ∷ drop (suc t) (limb_days days base)
unfolding limb_days
view_cons [] bs t e h = absurd (omega arith)
view_cons (d ∷ ds) [] t e h = absurd (omega (arith, e))
view_cons (d ∷ ds) (b ∷ bs) zero e h = refl
view_cons (d ∷ ds) (b ∷ bs) (suc t) e h = view_cons ds bs t (omega (arith, e)) (omega arith)

pub seen_at : (days base : List ℕ) (t : ℕ) → length base ≡ length days → t < length days → get_or (limb_days days base) t none ≡ limb_day (get_or days t 0) (get_or base t 0)
unfolding limb_days
seen_at [] bs t e h = absurd (omega arith)
seen_at (d ∷ ds) [] t e h = absurd (omega (arith, e))
seen_at (d ∷ ds) (b ∷ bs) zero e h = refl
seen_at (d ∷ ds) (b ∷ bs) (suc t) e h = seen_at ds bs t (omega (arith, e)) (omega arith)

-- what is seen at a position is seen of what stands there
pub seen_there : (days base : List ℕ) (t : ℕ) {y : ℕ} → get_or (limb_days days base) t none ≡ some y → limb_day (get_or days t 0) (get_or base t 0) ≡ some y
unfolding limb_days
seen_there [] bs t {y} e = absurd (none-ne-some y e)
seen_there (d ∷ ds) [] t {y} e = absurd (none-ne-some y e)
seen_there (d ∷ ds) (b ∷ bs) zero e = e
seen_there (d ∷ ds) (b ∷ bs) (suc t) e = seen_there ds bs t e

pub view_drop : (t : ℕ) (days base : List ℕ) → drop t (limb_days days base) ≡ limb_days (drop t days) (drop t base)
unfolding limb_days
view_drop zero days base = refl
view_drop (suc t) [] bs = refl
view_drop (suc t) (d ∷ ds) [] = at_none (drop t ds)
  where
    at_none : (ds : List ℕ) → [] ≡ limb_days ds []
    at_none [] = refl
    at_none (d ∷ ds) = refl
view_drop (suc t) (d ∷ ds) (b ∷ bs) = view_drop t ds bs
