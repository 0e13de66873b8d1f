-- The list of turning points holds each of them once, in order, and its neighbours are the neighbouring ones.
-- Assumes nothing.
use Prim.Native.Nat.{ℕ, zero, suc, ◌+◌, ◌-◌, ◌≤◌, ◌<◌}
use mathlib.Core.Path.{◌≡◌, refl, sym, ap, ap₂, subst}
use mathlib.Core.List.Memᴰ
use mathlib.Core.List.{List, [], ◌∷◌, Memᴰ}
use mathlib.Core.Logic.{⊎_elim}
use native.Mathlib.Decide.{ℕ_discrete}
use native.Mathlib.Omega.{arith}
use lib.ListN.{length}
use Rattle.numbers.proofs.Selection.{selected_from, selected_still}
use Rattle.minima.specs.declared.block.Blocks.{Blocks}
use Rattle.minima.specs.Blocks.{block_count, minimum_day}
use Rattle.minima.specs.TurningPoints.{middle_turns, TurningPoint, Neighbouring, counting, turning_points, neighbours}
use Rattle.minima.proofs.Points.{Rising, all_points, points_rise}

-- the numbers from k to before k + n
counted_from : (k n : ℕ) {q : ℕ} → Memᴰ q (counting k n) → (k ≤ q) × (q < k + n)
unfolding counting
counted_from k zero m = absurd (Memᴰ.not-nil m)
counted_from k (suc n) m =
    ⊎_elim (λ e. (omega (arith, e), omega (arith, e))) (λ r. let h = counted_from (suc k) n r in (omega (arith, h.0), omega (arith, h.1))) (Memᴰ.cases_cons m)

in_counting : (k n q : ℕ) → k ≤ q → q < k + n → Memᴰ q (counting k n)
unfolding counting
in_counting k zero q h l = absurd (omega arith)
in_counting k (suc n) q h l = elim (ℕ_discrete q k) [ yes e ↦ Memᴰ.head e | no e ↦ Memᴰ.tail (in_counting (suc k) n q (omega arith) (omega arith)) ]

-- members of a rising list
pub members_rise : (a : ℕ) (ps : List ℕ) {d : ℕ} → Rising a ps → Memᴰ d ps → a < d
members_rise a [] r m = absurd (Memᴰ.not-nil m)
members_rise a (b ∷ bs) {d} r m = ⊎_elim (λ e. omega (arith, r.0, e)) (λ n. omega (arith, r.0, members_rise b bs r.1 n)) (Memᴰ.cases_cons m)

-- a rising list from its first element on
abbrev pub Rises : List ℕ → Type 0
Rises [] = Unit {0}
Rises (a ∷ ps) = Rising a ps

-- i and j stand in a list, with nothing between them
pub record Adjacent (ps : List ℕ) (i j : ℕ) : Type 0 where
  pub left : Memᴰ i ps
  pub right : Memᴰ j ps
  pub in_order : i < j
  pub none_between : (d : ℕ) → Memᴰ d ps → i < d → d < j → ⊥

-- of a rising list, the neighbours are what is adjacent
adjacent_neighbours : (ps : List ℕ) (i j : ℕ) → Rises ps → Adjacent ps i j → Memᴰ (i, j) (neighbours ps)
unfolding neighbours
adjacent_neighbours [] i j r p = absurd (Memᴰ.not-nil p.left)
adjacent_neighbours (a ∷ []) i j r p =
    absurd (⊎_elim (λ e. ⊎_elim (λ f. omega (arith, p.in_order, e, f)) Memᴰ.not-nil (Memᴰ.cases_cons p.right)) Memᴰ.not-nil (Memᴰ.cases_cons p.left))
adjacent_neighbours (a ∷ b ∷ bs) i j r p =
    ⊎_elim
    (λ e. ⊎_elim (λ f. absurd (omega (arith, p.in_order, e, f))) (λ m. ⊎_elim (λ f. Memᴰ.head (ap₂ (λ x y. (x, y)) e f)) (λ n. absurd (p.none_between b (Memᴰ.tail (Memᴰ.head refl)) (omega (arith, r.0, e)) (members_rise b bs r.1 n))) (Memᴰ.cases_cons m)) (Memᴰ.cases_cons p.right))
    (λ m. ⊎_elim (λ f. absurd (omega (arith, p.in_order, f, members_rise a (b ∷ bs) r m))) (λ n. Memᴰ.tail (adjacent_neighbours (b ∷ bs) i j r.1 (record { left = m; right = n; in_order = p.in_order; none_between = λ d k. p.none_between d (Memᴰ.tail k) }))) (Memᴰ.cases_cons p.right))
    (Memᴰ.cases_cons p.left)

pub neighbours_adjacent : (ps : List ℕ) (i j : ℕ) → Rises ps → Memᴰ (i, j) (neighbours ps) → Adjacent ps i j
unfolding neighbours
neighbours_adjacent [] i j r m = absurd (Memᴰ.not-nil m)
neighbours_adjacent (a ∷ []) i j r m = absurd (Memᴰ.not-nil m)
neighbours_adjacent (a ∷ b ∷ bs) i j r m = ⊎_elim first (λ n. later (neighbours_adjacent (b ∷ bs) i j r.1 n)) (Memᴰ.cases_cons m)
  where
    first : ◌≡◌ {A = ℕ × ℕ} (i, j) (a, b) → Adjacent (a ∷ b ∷ bs) i j
    first e =
        let f : i ≡ a = ap (λ q. q.0) e in
        let g : j ≡ b = ap (λ q. q.1) e in
        record {
          left = Memᴰ.head f;
          right = Memᴰ.tail (Memᴰ.head g);
          in_order = omega (arith, r.0);
          none_between = λ d n h k. ⊎_elim (λ q. omega arith) (λ o. ⊎_elim (λ q. omega arith) (λ q. omega (arith, members_rise b bs r.1 q)) (Memᴰ.cases_cons o)) (Memᴰ.cases_cons n);
        }

    later : Adjacent (b ∷ bs) i j → Adjacent (a ∷ b ∷ bs) i j
    later q =
        record {
          left = Memᴰ.tail q.left;
          right = Memᴰ.tail q.right;
          in_order = q.in_order;
          none_between = λ d n h k. ⊎_elim (λ e. omega (arith, members_rise a (b ∷ bs) r q.left)) (λ o. q.none_between d o h k) (Memᴰ.cases_cons n);
        }

module _ (B : Blocks) (flows : List ℕ) where
  -- a turning point is a member of the list, and a member a turning point
  pub listed_turns : {d : ℕ} → Memᴰ d (turning_points B flows) → TurningPoint B flows d
  unfolding turning_points
  listed_turns m =
      let r = Memᴰ.of_map (λ k. minimum_day B flows (suc k)) _ m in
      let s = selected_from (middle_turns B flows) _ r.1 in
      record { first = r.0; three = omega (arith, (counted_from 0 (block_count B flows - 2) s.0).1); turning = s.1; middle = sym r.2 }

  pub turns_listed : {d : ℕ} → TurningPoint B flows d → Memᴰ d (turning_points B flows)
  unfolding turning_points
  turns_listed p =
      Memᴰ.cast p.middle
      (Memᴰ.map (λ k. minimum_day B flows (suc k)) (selected_still (middle_turns B flows) p.turning (in_counting 0 (block_count B flows - 2) p.first (omega arith) (omega (arith, p.three)))))

  pub points_in_order : Rises (turning_points B flows)
  points_in_order = from_first (turning_points B flows) (subst (Rising (minimum_day B flows 0)) (all_points B flows) (points_rise B flows 0))
    where
      from_first : (ps : List ℕ) → Rising (minimum_day B flows 0) ps → Rises ps
      from_first [] r = tt
      from_first (a ∷ ps) r = r.1

  -- the neighbours of the list are the neighbouring turning points
  pub neighbouring_listed : {i j : ℕ} → Neighbouring B flows i j → Memᴰ (i, j) (neighbours (turning_points B flows))
  neighbouring_listed {i} {j} n =
      adjacent_neighbours (turning_points B flows) i j points_in_order
      (record { left = turns_listed n.left; right = turns_listed n.right; in_order = n.in_order; none_between = λ d m. n.none_between d (listed_turns m) })

  pub listed_neighbouring : {i j : ℕ} → Memᴰ (i, j) (neighbours (turning_points B flows)) → Neighbouring B flows i j
  listed_neighbouring {i} {j} m =
      let a = neighbours_adjacent (turning_points B flows) i j points_in_order m in
      record { left = listed_turns a.left; right = listed_turns a.right; in_order = a.in_order; none_between = λ d p. a.none_between d (turns_listed p) }

-- two elements of a list, and their number
pub two_neighbours : (ps : List ℕ) → 2 ≤ length ps → (i : ℕ) × (j : ℕ) × Memᴰ (i, j) (neighbours ps)
unfolding neighbours
two_neighbours [] h = absurd (omega arith)
two_neighbours (a ∷ []) h = absurd (omega arith)
two_neighbours (a ∷ b ∷ bs) h = (a, b, Memᴰ.head refl)

pub two_members : (ps : List ℕ) {i j : ℕ} → Memᴰ i ps → Memᴰ j ps → i < j → 2 ≤ length ps
two_members [] m n h = absurd (Memᴰ.not-nil m)
two_members (a ∷ []) m n h = absurd (omega (arith, Memᴰ.eq_of_singleton m, Memᴰ.eq_of_singleton n))
two_members (a ∷ b ∷ bs) m n h = omega arith
