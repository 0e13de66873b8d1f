-- READ THIS FIRST: document 01's sentences on recession ratios, proved of the definitions in specs/.
-- Assumes nothing.
use Prim.Native.Nat.{ℕ, suc, ◌+◌, ◌*◌, ◌/◌, ◌≤◌, ◌<◌}
use mathlib.Core.Path.{◌≡◌, refl, ap, subst}
use mathlib.Core.Bool.{true, false}
use mathlib.Core.List.{List, [], map, Memᴰ, Nodup, Permᴰ}
use mathlib.Core.Logic.{◌↔◌}
use mathlib.Core.Option.{Option, none, some}
use native.Mathlib.Omega.{arith}
use borrow.Author.Tests.{leb-true, not-false}
use lib.Dec.{leb}
use lib.ListN.{take, length, get_or}
use Rattle.numbers.specs.Order.{rising}
use Rattle.numbers.proofs.Sorting.{all_weaken, in_order_at, in_order_once, rising_length, rising_ascends, rising_permutes, ordered, numbers}
use Rattle.series.proofs.Runs.{days_in, run_day}
use Rattle.series.specs.Units.{day_of, base_of, within}
use Rattle.series.specs.Lists.{too_long, lengths_differ, any_invalid_day, any_invalid_base}
use Rattle.series.specs.Causes.{accepted, refused}
use Rattle.series.proofs.Refusing.{AllFalse, no_cause, next_false, refused_with, outcome_was_accepted, outcome_was_refused}
use Rattle.recession.specs.declared.Statistics.{Statistics}
use Rattle.recession.specs.Limbs.{Limb, RecessionLimb, limb_day, limb_days, falls, counted, precedes, longest_first}
use Rattle.recession.specs.Call.{no_ratio, counted_limbs, counted_ratios, ratio_causes, ratio_outcome}
use Rattle.recession.proofs.Days.{seen_at_base, at_base_seen, seen_at, seen_there}
use Rattle.recession.proofs.Median.{median_at_most}
use Rattle.recession.proofs.Selection.{counted_is, is_counted, counted_in_order, each_in_all}
use Rattle.recession.proofs.Groups.{Precedes, order_holds}
use Rattle.recession.proofs.Consequences.{ratios_at_most, no_ratio_no_limb, no_limb_no_ratio}

-- A day is seen by limbs exactly if it is at base: it is present, and its base value is 1000 × its flow.
pub day_at_base : (d b : ℕ) {y : ℕ} → (limb_day d b ≡ some y) ↔ ((day_of d ≡ some y) × (base_of b ≡ some (1000 * y)))
unfolding limb_day
day_at_base d b {y} = (seen_at_base (day_of d) (base_of b), λ h. rw (h.0, h.1) (at_base_seen y))

-- Day t of two lists as limbs see them is day t of each.
pub days_seen : (days base : List ℕ) (t : ℕ) → length base ≡ length days → t < length days → get_or (limb_days days base) t none ≡ limb_day (get_or days t 0) (get_or base t 0)
days_seen days base t same h = seen_at days base t same h

-- A limb counts exactly if its days are neighbouring, at base, each of a smaller flow than the one before, none more on
-- either side (`RecessionLimb` of the days that limbs see), and they are at least L.
pub limb_sentence : (L : ℕ) (days : List (Option ℕ)) (l : Limb) → Memᴰ l (counted L days) ↔ (RecessionLimb days l × (L ≤ length l.flows))
limb_sentence L days l = (counted_is L days, λ s. is_counted L days s.0 s.1)

-- So each day of a counted limb is present with the limb's flow, and its base value is 1000 × that flow.
pub limb_at_base : (L : ℕ) (days base : List ℕ) {l : Limb} → Memᴰ l (counted_limbs L days base) → (t : ℕ) → t < length l.flows
    → let y = get_or l.flows t 0 in (day_of (get_or days (l.start + t) 0) ≡ some y) × (base_of (get_or base (l.start + t) 0) ≡ some (1000 * y))
unfolding counted_limbs
limb_at_base L days base {l} m t h =
    let k = l.start + t in
    (day_at_base (get_or days k 0) (get_or base k 0)).0 (seen_there days base k (run_day falls (counted_is L (limb_days days base) m).0.longest 0 t h))

-- Each is there once: no two start on the same day.
pub each_once : (L : ℕ) (days : List (Option ℕ)) → Nodup (map (λ l. l.start) (counted L days))
each_once L days = in_order_once (λ l. l.start) (λ k l h e. omega (arith, h, e)) (counted_in_order L days)

-- The limb list has the counted limbs and no others.
pub same_limbs_listed : (ls : List Limb) → Permᴰ (longest_first ls) ls
unfolding longest_first
same_limbs_listed ls = rising_permutes precedes ls

-- Of any two of them the earlier in the list has more days, or as many and an earlier first day (`Precedes`).
pub listed_in_order : (L : ℕ) (days : List (Option ℕ)) (none_there : Limb) (i j : ℕ) → i < j → j < length (longest_first (counted L days))
    → Precedes (get_or (longest_first (counted L days)) i none_there) (get_or (longest_first (counted L days)) j none_there)
listed_in_order L days none_there i j g h =
    let ls = counted L days in
    in_order_at (order_holds (suc (days_in falls ls)) (counted_in_order L days) (all_weaken (λ l k. omega (arith, k)) (each_in_all ls))) none_there i j g h

-- Rising order: the same values, and none above a later one.
pub rising_same : (ratios : List ℕ) → Permᴰ (rising leb ratios) ratios
rising_same ratios = rising_permutes leb ratios

pub rising_order : (ratios : List ℕ) (i j : ℕ) → i ≤ j → j < length (rising leb ratios) → get_or (rising leb ratios) i 0 ≤ get_or (rising leb ratios) j 0
rising_order ratios i j g h = leb-true _ _ (ordered numbers 0 (rising leb ratios) (rising_ascends numbers ratios) i j g h)

-- The median is one of the ratios: its rank, counted from 1, lies within them.
pub rank_within : (ratios : List ℕ) → 0 < length ratios → (1 ≤ (length ratios + 1) / 2) × ((length ratios + 1) / 2 ≤ length (rising leb ratios))
rank_within ratios h = omega (arith, rising_length leb ratios)

-- For callers: the ratio is at most 10000.
pub median_at_most_10000 : (L : ℕ) (days base list : List ℕ) {s : Statistics} → ratio_outcome L days base list ≡ accepted s → s.median ≤ 10000
unfolding ratio_outcome counted_ratios counted_limbs
median_at_most_10000 L days base list e =
    subst (λ m. m ≤ 10000) (ap (λ s. s.median) (outcome_was_accepted (ratio_causes L days base list) _ e).1) (median_at_most (ratios_at_most L (limb_days days base)))

-- 19 comes exactly if no limb counts and no earlier cause holds.
pub record NoLimbCounts (L : ℕ) (days base : List ℕ) : Type 0 where
  pub in_range : within 2 60 L ≡ true
  pub not_too_long : too_long days ≡ false
  pub as_long : lengths_differ days base ≡ false
  pub valid : any_invalid_day days ≡ false
  pub valid_base : any_invalid_base days base ≡ false
  pub none_counts : counted_limbs L days base ≡ []

pub refused_19 : (L : ℕ) (days base list : List ℕ) → (ratio_outcome L days base list ≡ refused 19) ↔ NoLimbCounts L days base
unfolding ratio_outcome ratio_causes counted_ratios counted_limbs
refused_19 L days base list = (
  (λ h. let r = refused_with (ratio_causes L days base list) refl (outcome_was_refused (ratio_causes L days base list) _ h) in tests r.0 r.1),
  λ n. simp (n.in_range, n.not_too_long, n.as_long, n.valid, n.valid_base, no_limb_no_ratio L (limb_days days base) n.none_counts),
)
  where
    tests : AllFalse (take 5 (ratio_causes L days base list)) → no_ratio (counted_ratios L days base) ≡ true → NoLimbCounts L days base
    tests (next_false a (next_false b (next_false c (next_false d (next_false e no_cause))))) f =
        record { in_range = not-false _ a; not_too_long = b; as_long = c; valid = d; valid_base = e; none_counts = no_ratio_no_limb L (limb_days days base) f }
