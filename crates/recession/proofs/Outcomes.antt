-- What the call's tests and counts come to: document 01's answer, and the limb list at exit.
-- Assumes nothing.
use Prim.Native.Nat.{ℕ, zero, suc, ◌+◌, ◌*◌, ◌/◌, ◌≤◌, ◌<◌, ◌^◌}
use mathlib.Core.Path.{◌≡◌, refl, sym, ◌∙◌, ap, subst}
use mathlib.Core.Bool.{true}
use mathlib.Core.List.{List}
use mathlib.Core.Option.{none, some, or_else}
use native.Mathlib.Omega.{arith}
use borrow.Author.Tests.{eqb-false, ltb-false}
use native.Mathlib.Nat.{pos_of_ne-zero}
use lib.ListN.{length, get_or, take, drop, replicate, length-replicate, length-take}
use Rattle.std.proofs.lemmas.List.{get_or-take}
use Rattle.numbers.specs.Lists.{stored}
use Rattle.std.specs.Prelude.{Ok, Err}
use Rattle.series.specs.declared.Refusal.{Refusal}
use Rattle.series.specs.Units.{day_limit}
use Rattle.series.specs.Lists.{any_invalid_base}
use Rattle.series.specs.Causes.{refusal_number, first_cause, accepted, refused, Decides}
use Rattle.series.proofs.Refusing.{passed, first_append, decides_alone, decided_accepted, decided_refused, outcome_refused, outcome_accepted, leaves_accepted, leaves_refused}
use Rattle.series.proofs.Views.{not_outside}
use Rattle.series.proofs.Tests.{few_days, same_length}
use Rattle.recession.specs.declared.tally.Tally.{Tally}
use Rattle.recession.specs.Limbs.{Limb, limb_days, longest_first, entries}
use Rattle.recession.specs.Ratios.{limb_ratios}
use Rattle.recession.specs.Call.{no_ratio, limb_list_too_short, counted_limbs, counted_ratios, ratio_causes, ratio_outcome, listed_limbs, ratio_leaves}
use Rattle.recession.specs.Private.{limbs_from, InvalidFrom, how_many, AtRank, day_counts, longer, Above, Noted, Found, day_causes, tally_causes}
use Rattle.numbers.proofs.Sorting.{All, none_left, and_all, all_weaken}
use Rattle.recession.proofs.Groups.{longer_rest}
use Rattle.recession.proofs.Walk.{from_start}
use Rattle.std.specs.List.{sum}
use Rattle.std.proofs.lemmas.List.{length-map}
use Rattle.recession.proofs.Selection.{same_limbs, limbs_few, limbs_half, limbs_short, ratios_few}
use Rattle.recession.proofs.Median.{total_below, total_all, median_found}
use Rattle.recession.proofs.Consequences.{ratios_at_most}

-- an empty histogram
pub all_zero : (n v : ℕ) → get_or (replicate {A = ℕ} n 0) v 0 ≡ 0
all_zero zero v = refl
all_zero (suc n) zero = refl
all_zero (suc n) (suc v) = all_zero n v

counts_all : {n : ℕ} {ls : List Limb} → All (λ l. length l.flows ≤ n) ls → All (λ k. k ≤ n) (day_counts ls)
counts_all none_left = none_left
counts_all (and_all h a) = and_all h (counts_all a)

-- what holds where none of the causes before the limbs does
pub record Checked (L : ℕ) (days base : List ℕ) : Type 0 where
  pub none_holds : first_cause (day_causes L days base) ≡ none
  pub two : 2 ≤ L
  pub few : length days ≤ day_limit
  pub as_long : length base ≡ length days

pub checked : (L : ℕ) (days base : List ℕ) → Decides (day_causes L days base) (Ok tt) → Checked L days base
unfolding ratio_causes
checked L days base d =
    let e = decided_accepted d refl in
    let p = passed (day_causes L days base) e in
    record { none_holds = e; two = (not_outside 2 60 L (p 18)).0; few = few_days days (p 9); as_long = sym (same_length days base (p 14)) }

-- a refusal by the first cause: its number, and the limb list as it was
abbrev Refuses : (L : ℕ) → (days base list : List ℕ) → Refusal → Type 0
Refuses L days base list r = (refused (refusal_number r) ≡ ratio_outcome L days base list) × (list ≡ ratio_leaves L days base list)

by_first : (L : ℕ) (days base list : List ℕ) (r : Refusal) → first_cause (ratio_causes L days base list) ≡ some (refusal_number r) → Refuses L days base list r
unfolding ratio_outcome ratio_leaves
by_first L days base list r e = (sym (outcome_refused (ratio_causes L days base list) _ e), sym (leaves_refused (ratio_causes L days base list) _ list e))

-- one before a limb is looked for
pub refused_by_days : (L : ℕ) (days base list : List ℕ) {r : Refusal} → Decides (day_causes L days base) (Err r) → Refuses L days base list r
unfolding ratio_causes
refused_by_days L days base list {r} d = by_first L days base list r (decided_refused (decides_alone (drop 4 (ratio_causes L days base list)) d refl) refl)

-- what holds where none of the causes of the limbs does
pub record Accepts (t : Tally) (room : ℕ) : Type 0 where
  pub none_holds : first_cause (tally_causes t room) ≡ none
  pub some_ratio : t.ratios ≡ 0 → ⊥
  pub fits : 2 * t.limbs ≤ room

pub accepts : (t : Tally) {n : ℕ} → Decides (tally_causes t n) (Ok tt) → Accepts t n
accepts t {n} d =
    let e = decided_accepted d refl in
    let p = passed (tally_causes t n) e in
    record { none_holds = e; some_ratio = eqb-false t.ratios 0 (p 19); fits = ltb-false n (2 * t.limbs) (p 22) }

module _ {L : ℕ} {days base : List ℕ} (c : Checked L days base) where
  later : (list : List ℕ) → first_cause (ratio_causes L days base list) ≡ first_cause (drop 4 (ratio_causes L days base list))
  unfolding ratio_causes or_else
  later list = first_append (day_causes L days base) (drop 4 (ratio_causes L days base list)) ∙ ap (λ o. or_else o (first_cause (drop 4 (ratio_causes L days base list)))) c.none_holds

  -- an invalid day, which comes before the causes of the limbs
  pub refused_by_base : (list : List ℕ) {r : Refusal} → InvalidFrom days base 0 r → Refuses L days base list r
  unfolding ratio_causes
  refused_by_base list {r} i =
      let invalid : any_invalid_base days base ≡ true = sym (from_start days base) ∙ i.1 in
      by_first L days base list r (later list ∙ rw (i.0, invalid))

  same : counted_limbs L days base ≡ limbs_from L days base 0
  same = same_limbs L days base c.two

  -- what the walk found
  module _ {t : Tally} {counts lengths firsts : List ℕ} (f : Found L days base t (replicate 10001 0) counts (replicate 36526 0) lengths firsts) where
    abbrev all : List Limb
    all = limbs_from L days base 0

    pub limbs_fit : (t.limbs ≡ length all) × (t.limbs ≤ 18262)
    limbs_fit = (f.tallied.limbs, omega (arith, f.tallied.limbs, limbs_half L days base c.two, c.few))

    -- the limbs by their numbers of days, and then how many are longer
    cells : length lengths ≡ 36526
    cells = f.measured.added.size ∙ length-replicate {A = ℕ} 36526 0

    each_length : (v : ℕ) → get_or lengths v 0 ≡ how_many v (day_counts all)
    each_length v = omega (arith, f.measured.added.each v, all_zero 36526 v)

    all_limbs : sum lengths ≡ length all
    all_limbs = total_all lengths (day_counts all) each_length cells (counts_all (all_weaken (λ l h. omega (arith, h, c.few)) (limbs_short L days base))) ∙ length-map all (λ l. length l.flows)

    pub lengths_fit : (t.longest < 36526) × (sum lengths < 2 ^ 16)
    lengths_fit = (omega (arith, f.measured.longest_fits, length-replicate {A = ℕ} 36526 0), omega (arith, all_limbs, limbs_few L days base, c.few))

    pub places_found : {after : List ℕ} → Above lengths after → (v : ℕ) → v < 36526 → get_or after v 0 ≡ longer v all
    places_found a v h =
        omega (arith, a.each v (omega (arith, h, cells)), all_limbs, total_below lengths (day_counts all) each_length (suc v) (omega (arith, h, cells)), longer_rest v all)

    -- where they start
    pub starts_noted : length firsts ≡ 18263 → let noted = take t.limbs firsts in (length noted ≡ length all) × Noted L days base (length noted) noted
    starts_noted e =
        let size : length (take t.limbs firsts) ≡ t.limbs = omega (arith, length-take t.limbs firsts, limbs_fit) in
        (omega (arith, size, limbs_fit), λ i h. let g : i < t.limbs = omega (arith, size) in rw get_or-take (f.noted i g))

    -- their ratios
    pub ratios_fit : t.ratios ≤ 36525
    ratios_fit = omega (arith, f.tallied.ratios, ratios_few L days base, c.few)

    same_count : t.ratios ≡ length (counted_ratios L days base)
    unfolding counted_ratios
    same_count = f.tallied.ratios ∙ ap (λ ls. length (limb_ratios ls)) (sym same)

    sized : length counts ≡ 10001
    sized = f.tallied.added.size ∙ length-replicate {A = ℕ} 10001 0

    each : (v : ℕ) → get_or counts v 0 ≡ how_many v (counted_ratios L days base)
    unfolding counted_ratios
    each v = omega (arith, f.tallied.added.each v, all_zero 10001 v, ap (λ ls. how_many v (limb_ratios ls)) same)

    counted_all : sum counts ≡ t.ratios
    unfolding counted_ratios counted_limbs
    counted_all = total_all counts (counted_ratios L days base) each sized (ratios_at_most L (limb_days days base)) ∙ sym same_count

    pub rank_fits : (t.ratios ≡ 0 → ⊥) → (0 < (t.ratios + 1) / 2) × ((t.ratios + 1) / 2 ≤ t.ratios) × (t.ratios ≡ sum counts)
    rank_fits n = omega (arith, pos_of_ne-zero n, counted_all)

    -- the first cause by what was found is document 01's
    limb_causes : (list : List ℕ) → first_cause (ratio_causes L days base list) ≡ first_cause (tally_causes t (length list))
    unfolding ratio_causes no_ratio limb_list_too_short
    limb_causes list =
        let limb_count : t.limbs ≡ length (counted_limbs L days base) = f.tallied.limbs ∙ ap length (sym same) in
        later list ∙ rw (f.valid, limb_count, same_count)

    pub refused_by_limbs : (list : List ℕ) {r : Refusal} → Decides (tally_causes t (length list)) (Err r) → Refuses L days base list r
    refused_by_limbs list {r} d = by_first L days base list r (limb_causes list ∙ decided_refused d refl)

    -- and the accepted call's values, and its limb list
    module _ (list : List ℕ) (a : Accepts t (length list)) where
      pub out_ratios : {r : ℕ} → AtRank counts ((t.ratios + 1) / 2) r → accepted (record { count = t.ratios; median = r }) ≡ ratio_outcome L days base list
      unfolding ratio_outcome
      out_ratios {r} p =
          let same_median = median_found counts (counted_ratios L days base) each sized (subst (λ n. AtRank counts ((n + 1) / 2) r) same_count p) in
          (λ i. accepted (record { count = same_count i; median = same_median i })) ∙ sym (outcome_accepted (ratio_causes L days base list) _ (limb_causes list ∙ a.none_holds))

      pub out_list : {exit : List ℕ} → exit ≡ stored list 0 (entries (longest_first all)) → exit ≡ ratio_leaves L days base list
      unfolding ratio_leaves listed_limbs
      out_list e = e ∙ ap (λ ls. stored list 0 (entries (longest_first ls))) (sym same) ∙ sym (leaves_accepted (ratio_causes L days base list) _ list (limb_causes list ∙ a.none_holds))
