-- The limbs that count: exactly those of which document 01's sentence holds, each once; and how many they are.
-- Assumes nothing.
use Prim.Native.Nat.{ℕ, ◌+◌, ◌*◌, ◌-◌, ◌≤◌, ◌<◌}
use mathlib.Core.Path.{◌≡◌, refl}
use mathlib.Core.Bool.{Bool, true, false}
use mathlib.Core.List.{List, [], ◌∷◌, Memᴰ}
use mathlib.Core.Option.{Option, none}
use native.Mathlib.Omega.{arith}
use borrow.Author.Tests.{leb-true, le-leb}
use lib.ListN.{length, length-append}
use Rattle.numbers.specs.Lists.{selected}
use Rattle.numbers.proofs.Selection.{selected_none, selected_pass, selected_fail, selected_from, selected_still, selected_in_order, selected_few, select_twice}
use Rattle.numbers.proofs.Sorting.{All, none_left, and_all, all_weaken, InOrder}
use Rattle.series.specs.Runs.{runs}
use Rattle.series.proofs.Runs.{run_sentence, runs_in_order, runs_few, days_in, runs_cover}
use Rattle.recession.specs.Limbs.{Limb, RecessionLimb, limb_days, falls, has_at_least, limbs, counted}
use Rattle.recession.specs.Ratios.{pair_ratios, limb_ratios}
use Rattle.recession.specs.Call.{counted_limbs}
use Rattle.recession.specs.Private.{falls_from, limbs_from}
use Rattle.recession.proofs.Days.{view_few}

module _ (L : ℕ) (days : List (Option ℕ)) where
  pub counted_is : {l : Limb} → Memᴰ l (counted L days) → RecessionLimb days l × (L ≤ length l.flows)
  unfolding counted limbs has_at_least
  counted_is {l} m =
      let long = selected_from (has_at_least L) (limbs days) m in
      let limb = selected_from (has_at_least 2) (runs falls days) long.0 in
      (record { longest = (run_sentence falls days l).0 limb.0; two_days = leb-true 2 (length l.flows) limb.1 }, leb-true L (length l.flows) long.1)

  pub is_counted : {l : Limb} → RecessionLimb days l → L ≤ length l.flows → Memᴰ l (counted L days)
  unfolding counted limbs has_at_least
  is_counted {l} s h =
      selected_still (has_at_least L) (le-leb L (length l.flows) h) (selected_still (has_at_least 2) (le-leb 2 (length l.flows) s.two_days) ((run_sentence falls days l).1 s.longest))

  pub counted_in_order : InOrder (λ k l. k.start < l.start) (counted L days)
  unfolding counted limbs
  counted_in_order = selected_in_order (has_at_least L) (selected_in_order (has_at_least 2) (runs_in_order falls days))

-- what has at least L days, L at least 2, has at least 2: the code looks for those of at least L days alone
pub same_limbs : (L : ℕ) (days base : List ℕ) → 2 ≤ L → counted_limbs L days base ≡ limbs_from L days base 0
unfolding counted_limbs counted limbs limbs_from falls_from has_at_least
same_limbs L days base two =
    select_twice (has_at_least L) (has_at_least 2) (λ l e. le-leb 2 (length l.flows) (omega (arith, two, leb-true L (length l.flows) e))) (runs falls (limb_days days base))

-- a limb has one ratio less than days
pub pairs_length : (flows : List ℕ) → length (pair_ratios flows) ≡ length flows - 1
unfolding pair_ratios
pairs_length [] = omega arith
pairs_length (y ∷ []) = omega arith
pairs_length (y ∷ z ∷ ys) = omega (arith, pairs_length (z ∷ ys))

-- at most one limb and one ratio a day
few_ratios : (ls : List Limb) → length (limb_ratios ls) ≤ days_in falls ls
unfolding limb_ratios
few_ratios [] = omega arith
few_ratios (l ∷ ls) = omega (arith, few_ratios ls, length-append (pair_ratios l.flows) (limb_ratios ls), pairs_length l.flows)

long_enough : (L : ℕ) (l : Limb) → has_at_least L l ≡ true → L ≤ length l.flows
unfolding has_at_least
long_enough L l e = leb-true L (length l.flows) e

fewer_days : (test : Limb → Bool) (ls : List Limb) → days_in falls (selected test ls) ≤ days_in falls ls
fewer_days test [] = rw (selected_none test) (omega arith)
fewer_days test (l ∷ ls) = by_test (test l) refl (fewer_days test ls)
  where
    by_test : (b : Bool) → test l ≡ b → days_in falls (selected test ls) ≤ days_in falls ls → days_in falls (selected test (l ∷ ls)) ≤ length l.flows + days_in falls ls
    by_test true e h = rw (selected_pass test ls e) (omega arith)
    by_test false e h = rw (selected_fail test ls e) (omega arith)

-- of at least 2 days each, at most half as many limbs
two_each : (L : ℕ) → 2 ≤ L → (ls : List Limb) → 2 * length (selected (has_at_least L) ls) ≤ days_in falls ls
two_each L two [] = rw (selected_none (has_at_least L)) (omega arith)
two_each L two (l ∷ ls) = by_test (has_at_least L l) refl (two_each L two ls)
  where
    by_test : (b : Bool) → has_at_least L l ≡ b → 2 * length (selected (has_at_least L) ls) ≤ days_in falls ls → 2 * length (selected (has_at_least L) (l ∷ ls)) ≤ length l.flows + days_in falls ls
    by_test true e h = rw (selected_pass (has_at_least L) ls e) (omega (arith, long_enough L l e))
    by_test false e h = rw (selected_fail (has_at_least L) ls e) (omega arith)

pub each_in_all : (ls : List Limb) → All (λ l. length l.flows ≤ days_in falls ls) ls
each_in_all [] = none_left
each_in_all (l ∷ ls) = and_all {x = l} (omega arith) (all_weaken (λ k h. omega (arith, h)) (each_in_all ls))

module _ (L : ℕ) (days base : List ℕ) where
  abbrev all : List Limb
  all = runs falls (limb_days days base)

  pub limbs_few : length (limbs_from L days base 0) ≤ length days
  unfolding limbs_from falls_from
  limbs_few = omega (arith, selected_few (has_at_least L) all, runs_few falls 0 none (limb_days days base), view_few days base)

  pub limbs_half : 2 ≤ L → 2 * length (limbs_from L days base 0) ≤ length days
  unfolding limbs_from falls_from
  limbs_half two = omega (arith, two_each L two all, runs_cover falls 0 none (limb_days days base), view_few days base)

  pub ratios_few : length (limb_ratios (limbs_from L days base 0)) ≤ length days
  unfolding limbs_from falls_from
  ratios_few = omega (arith, few_ratios (selected (has_at_least L) all), fewer_days (has_at_least L) all, runs_cover falls 0 none (limb_days days base), view_few days base)

  pub limbs_in_order : InOrder (λ k l. k.start < l.start) (limbs_from L days base 0)
  unfolding limbs_from falls_from
  limbs_in_order = selected_in_order (has_at_least L) (runs_in_order falls (limb_days days base))

  -- none has more days than there are
  pub limbs_short : All (λ l. length l.flows ≤ length days) (limbs_from L days base 0)
  unfolding limbs_from falls_from
  limbs_short =
      let few : days_in falls (selected (has_at_least L) all) ≤ length days = omega (arith, fewer_days (has_at_least L) all, runs_cover falls 0 none (limb_days days base), view_few days base) in
      all_weaken (λ l h. omega (arith, h, few)) (each_in_all (selected (has_at_least L) all))
