-- The histogram: ratios counted each at its value.
-- Assumes nothing.
use Prim.Native.Nat.{ℕ, suc, ◌+◌, ◌≤◌, ◌<◌, ◌^◌}
use mathlib.Core.Path.{◌≡◌, refl, sym, ◌∙◌, ap}
use mathlib.Core.List.{List, [], ◌∷◌, ◌++◌}
use native.Mathlib.Omega.{arith}
use native.Mathlib.Decide.{ℕ_discrete}
use borrow.Author.Tests.{eq-eqb, ne_eqb}
use lib.ListN.{length, get_or, take, drop, set, length-set}
use lib.Seq.{get_or-set_same, get_or-set_other}
use Rattle.std.proofs.lemmas.List.{get_or-take}
use Rattle.std.proofs.lemmas.List.Sums.{sum_by-append, sum_by-cons, count_by-le-length}
use Rattle.numbers.proofs.Rounding.{near_at_most}
use Rattle.recession.specs.Ratios.{ratio, pair_ratios}
use Rattle.recession.specs.Private.{Falling, how_many, Added}

-- a ratio of a fall is at most 10000
pub ratio_at_most : (earlier later : ℕ) → later < earlier → ratio earlier later ≤ 10000
ratio_at_most earlier later h = near_at_most (omega arith) (omega arith)

pub many_append : (v : ℕ) (l m : List ℕ) → how_many v (l ++ m) ≡ how_many v l + how_many v m
unfolding how_many
many_append v l m = sum_by-append _ l m

pub many_few : (v : ℕ) (l : List ℕ) → how_many v l ≤ length l
unfolding how_many
many_few v l = count_by-le-length _ l

pub many_none : (v : ℕ) → how_many v [] ≡ 0
unfolding how_many
many_none v = refl

pub many_here : (v : ℕ) {x : ℕ} (l : List ℕ) → x ≡ v → how_many v (x ∷ l) ≡ suc (how_many v l)
unfolding how_many
many_here v {x} l e = sum_by-cons _ x l ∙ rw (eq-eqb x v e) (omega arith)

pub many_elsewhere : {v x : ℕ} (l : List ℕ) → (x ≡ v → ⊥) → how_many v (x ∷ l) ≡ how_many v l
unfolding how_many
many_elsewhere {v} {x} l n = sum_by-cons _ x l ∙ rw (ne_eqb x v n) (omega arith)

-- one count more
pub counted_one : (counts : List ℕ) (r : ℕ) (l : List ℕ) (v : ℕ) → r < length counts
    → get_or (set counts r (get_or counts r 0 + 1)) v 0 + how_many v l ≡ get_or counts v 0 + how_many v (r ∷ l)
counted_one counts r l v h = go (ℕ_discrete r v)
  where
    go : Dec (r ≡ v) → get_or (set counts r (get_or counts r 0 + 1)) v 0 + how_many v l ≡ get_or counts v 0 + how_many v (r ∷ l)
    go (yes e) = rw (← e, get_or-set_same counts r (get_or counts r 0 + 1) 0 h) (omega (arith, many_here r l refl))
    go (no n) = rw (get_or-set_other counts r v (get_or counts r 0 + 1) 0 (λ e. n (sym e))) (omega (arith, many_elsewhere l n))

-- the pairs of a limb from a day on: two neighbours, and those of the days behind the first
pairs_next : (rest : List ℕ) → 2 ≤ length rest → pair_ratios rest ≡ ratio (get_or rest 0 0) (get_or rest 1 0) ∷ pair_ratios (drop 1 rest)
unfolding pair_ratios
pairs_next [] g = absurd (omega arith)
pairs_next (y ∷ []) g = absurd (omega arith)
pairs_next (y ∷ z ∷ ys) g = refl

no_pairs : (limb : List ℕ) → length limb ≤ 1 → pair_ratios limb ≡ []
unfolding pair_ratios
no_pairs [] h = refl
no_pairs (y ∷ []) h = refl
no_pairs (y ∷ z ∷ ys) h = absurd (omega arith)

falling_on : (limb : List ℕ) → Falling limb → Falling (drop 1 limb)
falling_on [] f = f
falling_on (y ∷ ys) f = λ t h. f (suc t) (omega arith)

-- The pairs of a limb up to a day are counted: with those of the rest, by windows of 2, they give the whole.
pub record Counting (limb rest : List ℕ) (size : ℕ) (before counts : List ℕ) : Type 0 where
  pub two : size ≡ 2
  pub falling : Falling rest
  pub as_long : length counts ≡ length before
  pub each : (v : ℕ) → get_or counts v 0 + how_many v (pair_ratios rest) ≡ get_or before v 0 + how_many v (pair_ratios limb)

pub counting_start : {limb rest counts : List ℕ} {size : ℕ} → size ≡ 2 → rest ≡ limb → Falling limb → Counting limb rest size counts counts
counting_start two e f = rw e (record { two = two; falling = f; as_long = refl; each = λ v. refl })

module _ {limb rest before counts : List ℕ} {size : ℕ} (c : Counting limb rest size before counts) where
  pub counting_done : length rest < size → Added (pair_ratios limb) before counts
  counting_done h = record { size = c.as_long; each = λ v. omega (arith, c.each v, ap (how_many v) (no_pairs rest (omega (arith, c.two))), many_none v) }

  module _ {pair : List ℕ} (h : size ≤ length rest) (p : pair ≡ take size rest) where
    of_pair : (k : ℕ) → k < 2 → get_or pair k 0 ≡ get_or rest k 0
    of_pair k g = rw p (get_or-take size rest k 0 (omega (arith, c.two)))

    pub pair_falls : get_or pair 1 0 < get_or pair 0 0
    pair_falls = omega (arith, c.falling 0 (omega (arith, c.two)), of_pair 0 (omega arith), of_pair 1 (omega arith))

    module _ {r : ℕ} (e : r ≡ ratio (get_or pair 0 0) (get_or pair 1 0)) where
      pub counting_small : r ≤ 10000
      counting_small = rw e (ratio_at_most _ _ pair_falls)

      with_r : (v : ℕ) → get_or counts v 0 + how_many v (r ∷ pair_ratios (drop 1 rest)) ≡ get_or before v 0 + how_many v (pair_ratios limb)
      with_r v = rw (e, of_pair 0 (omega arith), of_pair 1 (omega arith), ← pairs_next rest (omega (arith, c.two))) (c.each v)

      pub counting_room : ((v : ℕ) → get_or before v 0 + how_many v (pair_ratios limb) < 2 ^ 16) → get_or counts r 0 + 1 < 2 ^ 16
      counting_room f = omega (arith, f r, with_r r, many_here r (pair_ratios (drop 1 rest)) refl)

      pub counting_next : length before ≡ 10001 → {next : List ℕ} {same : ℕ} → same ≡ size → next ≡ drop 1 rest → Counting limb next same before (set counts r (get_or counts r 0 + 1))
      counting_next l s on =
          rw on
          (record {
            two = s ∙ c.two;
            falling = falling_on rest c.falling;
            as_long = length-set counts r _ ∙ c.as_long;
            each = λ v. counted_one counts r (pair_ratios (drop 1 rest)) v (omega (arith, c.as_long, counting_small)) ∙ with_r v;
          })
