-- The value of a day by any two neighbouring turning points around it.
-- Assumes nothing.
use Prim.Native.Nat.{ℕ, ◌*◌, ◌≤◌, ◌<◌}
use mathlib.Core.Path.{◌≡◌, refl, sym, ◌∙◌, ap}
use mathlib.Core.List.Memᴰ
use mathlib.Core.List.{List, [], ◌∷◌, Memᴰ}
use mathlib.Core.Option.{none, some}
use mathlib.Core.Logic.{⊎_elim}
use native.Mathlib.Nat.{lt_of_not-le}
use native.Mathlib.Decide.{dec_le}
use native.Mathlib.Omega.{arith}
use Rattle.numbers.specs.Arithmetic.{Arithmetic}
use Rattle.numbers.proofs.Quantities.{Keeps}
use Rattle.minima.specs.Blocks.{flow_on}
use Rattle.minima.specs.TurningPoints.{neighbours}
use Rattle.minima.specs.Line.{between, line_on}
use Rattle.minima.proofs.Pieces.{value_left, value_right, value_within, value_before, value_behind}
use Rattle.minima.proofs.Neighbours.{Rises, Adjacent, neighbours_adjacent, members_rise}

module _ (S : Arithmetic) (keeps : Keeps S) (flows : List ℕ) where
  -- a later pair gives it, and an earlier pair that ends where the later one begins gives the same
  earlier_pair : (a b i j t : ℕ) (pairs : List (ℕ × ℕ)) → a < b → b ≤ i → i < j → i ≤ t → line_on S flows pairs t ≡ some (between S flows i j t) → line_on S flows ((a, b) ∷ pairs) t ≡ some (between S flows i j t)
  earlier_pair a b i j t pairs p q r h v = by_day (dec_le t b)
    where
      by_day : Dec (t ≤ b) → line_on S flows ((a, b) ∷ pairs) t ≡ some (between S flows i j t)
      by_day (no l) = value_behind S flows a b pairs t (lt_of_not-le l) ∙ v
      by_day (yes l) =
          let e : t ≡ b = omega arith in
          let f : t ≡ i = omega arith in
          value_within S flows a b pairs t (omega arith) l
          ∙ ap some (ap (between S flows a b) e ∙ value_right S keeps flows a b p ∙ ap (λ n. S.number (1000 * flow_on flows n)) (sym e ∙ f) ∙ sym (value_left S keeps flows i j r) ∙ ap (between S flows i j) (sym f))

  -- any pair of neighbours around a day gives its value
  pub by_any : (ps : List ℕ) (i j t : ℕ) → Rises ps → Memᴰ (i, j) (neighbours ps) → i ≤ t → t ≤ j → line_on S flows (neighbours ps) t ≡ some (between S flows i j t)
  unfolding neighbours
  by_any [] i j t r m h k = absurd (Memᴰ.not-nil m)
  by_any (a ∷ []) i j t r m h k = absurd (Memᴰ.not-nil m)
  by_any (a ∷ b ∷ bs) i j t r m h k =
      ⊎_elim (λ e. first e (ap (λ q. q.0) e) (ap (λ q. q.1) e)) (λ n. later (by_any (b ∷ bs) i j t r.1 n h k) (neighbours_adjacent (b ∷ bs) i j r.1 n)) (Memᴰ.cases_cons m)
    where
      first : ◌≡◌ {A = ℕ × ℕ} (i, j) (a, b) → i ≡ a → j ≡ b → line_on S flows (neighbours (a ∷ b ∷ bs)) t ≡ some (between S flows i j t)
      first e f g = value_within S flows a b (neighbours (b ∷ bs)) t (omega arith) (omega arith) ∙ ap (λ q. some (between S flows q.0 q.1 t)) (sym e)

      later : line_on S flows (neighbours (b ∷ bs)) t ≡ some (between S flows i j t) → Adjacent (b ∷ bs) i j → line_on S flows (neighbours (a ∷ b ∷ bs)) t ≡ some (between S flows i j t)
      later v p =
          earlier_pair a b i j t (neighbours (b ∷ bs)) r.0 (⊎_elim (λ e. omega (arith, e)) (λ n. omega (arith, members_rise b bs r.1 n)) (Memᴰ.cases_cons p.left)) p.in_order h v

-- a day around which no pair lies has none
pub by_none : (S : Arithmetic) (flows : List ℕ) (pairs : List (ℕ × ℕ)) (t : ℕ) → ((i j : ℕ) → Memᴰ (i, j) pairs → i ≤ t → t ≤ j → ⊥) → line_on S flows pairs t ≡ none
unfolding line_on
by_none S flows [] t h = refl
by_none S flows ((i, j) ∷ pairs) t h = by_days (dec_le i t) (dec_le t j) (by_none S flows pairs t (λ k l m. h k l (Memᴰ.tail m)))
  where
    by_days : Dec (i ≤ t) → Dec (t ≤ j) → line_on S flows pairs t ≡ none → line_on S flows ((i, j) ∷ pairs) t ≡ none
    by_days (yes p) (yes q) v = absurd (h i j (Memᴰ.head refl) p q)
    by_days (no p) q v = value_before S flows i j pairs t (lt_of_not-le p) ∙ v
    by_days (yes p) (no q) v = value_behind S flows i j pairs t (lt_of_not-le q) ∙ v
