-- The median by rising order is the value that the cumulative counts of the histogram find.
-- Assumes nothing.
use Prim.Native.Nat.{ℕ, zero, suc, ◌+◌, ◌-◌, ◌/◌, ◌≤◌}
use mathlib.Core.Path.{◌≡◌, sym, ◌∙◌, ap}
use mathlib.Core.List.{List, [], ◌∷◌}
use native.Mathlib.Nat.{lt_of_not-le}
use native.Mathlib.Decide.{dec_le, ℕ_discrete}
use native.Mathlib.Omega.{arith}
use lib.Dec.{leb}
use lib.ListN.{length, get_or, take}
use lib.Seq.{take_all}
use Rattle.numbers.specs.Order.{rising, below}
use Rattle.numbers.proofs.Ranks.{all_smaller}
use Rattle.numbers.proofs.Sorting.{All, rising_all, all_at, at_rank_lem, below_end, below_smaller, below_not, by_smaller}
use Rattle.recession.specs.Ratios.{median}
use Rattle.std.specs.List.{sum}
use Rattle.recession.specs.Private.{how_many, AtRank}
use Rattle.recession.proofs.Counting.{many_none, many_here, many_elsewhere}
use Rattle.recession.proofs.Cumulative.{total_next}

pub median_at_most : {m : ℕ} {ratios : List ℕ} → All (λ r. r ≤ m) ratios → median ratios ≤ m
unfolding median
median_at_most {m} {ratios} a = rw (at_rank_lem 0 ((length ratios + 1) / 2) (rising leb ratios)) (all_at {P = λ r. r ≤ m} 0 (omega arith) (rising_all leb a) _)

pub below_nothing : (l : List ℕ) → below 0 l ≡ 0
below_nothing [] = below_end 0
below_nothing (x ∷ l) = below_not 0 x l (omega arith) ∙ below_nothing l

-- v itself is not below v, and is below v + 1
pub below_next : (v : ℕ) (l : List ℕ) → below (suc v) l ≡ below v l + how_many v l
below_next v [] = omega (arith, below_end v, below_end (suc v), many_none v)
below_next v (x ∷ l) =
    let rest = below_next v l in
    elim (ℕ_discrete x v) [
      | yes e ↦ omega (arith, below_smaller (suc v) x l (omega arith), below_not v x l (omega arith), many_here v l e)
      | no n ↦
          elim (dec_le v x) [
            | yes h ↦ omega (arith, below_not (suc v) x l (omega arith), below_not v x l h, many_elsewhere l n)
            | no h ↦ let g = lt_of_not-le h in omega (arith, below_smaller (suc v) x l (omega arith), below_smaller v x l g, many_elsewhere l n)
          ]
    ]

module _ (counts ratios : List ℕ) (each : (v : ℕ) → get_or counts v 0 ≡ how_many v ratios) where
  pub total_below : (v : ℕ) → v ≤ length counts → sum (take v counts) ≡ below v ratios
  total_below zero h = sym (below_nothing ratios)
  total_below (suc v) h = omega (arith, total_next counts v h, total_below v (omega arith), each v, below_next v ratios)

  pub total_all : {m : ℕ} → length counts ≡ suc m → All (λ r. r ≤ m) ratios → sum counts ≡ length ratios
  total_all {m} size a = ap sum (sym (take_all (suc m) counts (omega arith))) ∙ total_below (suc m) (omega arith) ∙ all_smaller m a

  module _ (size : length counts ≡ 10001) where
    pub median_found : {r : ℕ} → AtRank counts ((length ratios + 1) / 2) r → r ≡ median ratios
    unfolding median
    median_found {r} f =
        sym (at_rank_lem 0 ((length ratios + 1) / 2) (rising leb ratios)
        ∙ by_smaller ratios ((length ratios + 1) / 2 - 1) r (omega (arith, total_below r (omega (arith, f.largest)), f.fewer)) (omega (arith, total_below (suc r) (omega (arith, f.largest)), f.fewer, f.enough)))
