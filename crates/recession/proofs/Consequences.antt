-- What follows of the counted limbs' ratios.
-- Assumes nothing.
use Prim.Native.Nat.{ℕ, suc, ◌≤◌}
use mathlib.Core.Path.{◌≡◌, refl, ap}
use mathlib.Core.Bool.{true}
use mathlib.Core.List.{List, [], ◌∷◌, Memᴰ}
use mathlib.Core.Option.{Option}
use native.Mathlib.Omega.{arith}
use borrow.Author.Tests.{eqb-true, eq-eqb}
use lib.ListN.{length, length-append}
use Rattle.numbers.proofs.Sorting.{All, none_left, and_all, all_append}
use Rattle.recession.specs.Limbs.{Limb, counted}
use Rattle.recession.specs.Ratios.{pair_ratios, limb_ratios}
use Rattle.recession.specs.Call.{no_ratio}
use Rattle.recession.specs.Private.{Falling}
use Rattle.recession.proofs.Counting.{ratio_at_most}
use Rattle.recession.proofs.Walk.{run_falling}
use Rattle.recession.proofs.Selection.{pairs_length, counted_is}

-- the ratios of a fall are at most 10000
falling_ratios : (flows : List ℕ) → Falling flows → All (λ r. r ≤ 10000) (pair_ratios flows)
unfolding pair_ratios
falling_ratios [] f = none_left
falling_ratios (y ∷ []) f = none_left
falling_ratios (y ∷ z ∷ ys) f = and_all (ratio_at_most y z (f 0 (omega arith))) (falling_ratios (z ∷ ys) (λ t h. f (suc t) (omega arith)))

limb_ratios_lem : (ls : List Limb) → ((l : Limb) → Memᴰ l ls → Falling l.flows) → All (λ r. r ≤ 10000) (limb_ratios ls)
unfolding limb_ratios
limb_ratios_lem [] f = none_left
limb_ratios_lem (l ∷ ls) f = all_append (falling_ratios l.flows (f l (Memᴰ.head refl))) (limb_ratios_lem ls (λ k m. f k (Memᴰ.tail m)))

pub ratios_at_most : (L : ℕ) (days : List (Option ℕ)) → All (λ r. r ≤ 10000) (limb_ratios (counted L days))
ratios_at_most L days = limb_ratios_lem (counted L days) (λ l m. run_falling (counted_is L days m).0.longest)

-- a limb has a ratio
limb_has_ratios : (ls : List Limb) → ((l : Limb) → Memᴰ l ls → 2 ≤ length l.flows) → length (limb_ratios ls) ≡ 0 → ls ≡ []
unfolding limb_ratios
limb_has_ratios [] two e = refl
limb_has_ratios (l ∷ ls) two e =
    absurd (omega (arith, two l (Memᴰ.head refl), pairs_length l.flows, length-append (pair_ratios l.flows) (limb_ratios ls)))

module _ (L : ℕ) (days : List (Option ℕ)) where
  pub no_ratio_no_limb : no_ratio (limb_ratios (counted L days)) ≡ true → counted L days ≡ []
  unfolding no_ratio
  no_ratio_no_limb e = limb_has_ratios (counted L days) (λ l m. (counted_is L days m).0.two_days) (eqb-true _ 0 e)

  pub no_limb_no_ratio : counted L days ≡ [] → no_ratio (limb_ratios (counted L days)) ≡ true
  unfolding no_ratio limb_ratios
  no_limb_no_ratio e = eq-eqb _ 0 (ap (λ ls. length (limb_ratios ls)) e)
