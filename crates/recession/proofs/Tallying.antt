-- Limbs, ratios and the two histograms, tallied limb by limb: what is done and what is left add up to the whole.
-- Assumes nothing.
use Prim.Native.Nat.{ℕ, suc, ◌+◌, ◌-◌, ◌≤◌, ◌<◌, ◌^◌, max}
use mathlib.Core.Path.{◌≡◌, refl, sym, ◌∙◌, ap}
use mathlib.Core.Bool.{false}
use mathlib.Core.List.{List, [], ◌∷◌}
use native.Mathlib.Decide.{ℕ_discrete}
use native.Mathlib.Omega.{arith}
use lib.ListN.{length, get_or, drop, set, length-append, length-set}
use Rattle.std.proofs.Common.{add-one}
use Rattle.std.proofs.lemmas.List.{length-map}
use lib.Seq.{drop-drop, get_or-set_same, get_or-set_other}
use Rattle.series.specs.declared.Refusal.{Refusal}
use Rattle.series.specs.Units.{day_limit}
use Rattle.recession.specs.Limbs.{Limb}
use Rattle.recession.specs.Ratios.{pair_ratios, limb_ratios}
use Rattle.recession.specs.declared.tally.Tally.{Tally}
use Rattle.recession.specs.Private.{limbs_from, invalid_from, InvalidFrom, run_at, LimbAt, how_many, Added, Tallied, day_counts, Measured, StartsAt, Noted, Found}
use Rattle.recession.proofs.Counting.{many_append, many_few, many_none, many_here, counted_one}
use Rattle.recession.proofs.Selection.{pairs_length, limbs_half, ratios_few}
use Rattle.recession.proofs.Walk.{from_start, limb_size}

-- of all the limbs those that are not left are tallied
pub record Tallying (all left : List Limb) (before counts : List ℕ) (limbs ratios : ℕ) : Type 0 where
  pub size : length counts ≡ length before
  pub limbs_left : limbs + length left ≡ length all
  pub ratios_left : ratios + length (limb_ratios left) ≡ length (limb_ratios all)
  pub each : (v : ℕ) → get_or counts v 0 + how_many v (limb_ratios left) ≡ get_or before v 0 + how_many v (limb_ratios all)

pub tallying_start : (all : List Limb) (counts : List ℕ) → Tallying all all counts counts 0 0
tallying_start all counts = record { size = refl; limbs_left = omega arith; ratios_left = omega arith; each = λ v. refl }

module _ {all left next : List Limb} {l : Limb} {before counts : List ℕ} {limbs ratios : ℕ} (t : Tallying all left before counts limbs ratios) (e : left ≡ l ∷ next) where
  head_ratios : (v : ℕ) → how_many v (limb_ratios left) ≡ how_many v (pair_ratios l.flows) + how_many v (limb_ratios next)
  unfolding limb_ratios
  head_ratios v = ap (λ ls. how_many v (limb_ratios ls)) e ∙ many_append v (pair_ratios l.flows) (limb_ratios next)

  -- the next limb's ratios have room in the histogram
  pub tallying_room : ((v : ℕ) → get_or before v 0 ≡ 0) → length (limb_ratios all) < 2 ^ 16 → (v : ℕ) → get_or counts v 0 + how_many v (pair_ratios l.flows) < 2 ^ 16
  tallying_room zeros fits v = omega (arith, t.each v, head_ratios v, zeros v, many_few v (limb_ratios all))

  tail_length : length (limb_ratios left) ≡ length l.flows - 1 + length (limb_ratios next)
  unfolding limb_ratios
  tail_length = ap (λ ls. length (limb_ratios ls)) e ∙ length-append (pair_ratios l.flows) (limb_ratios next) ∙ ap (λ n. n + length (limb_ratios next)) (pairs_length l.flows)

  pub tallying_fits : {n : ℕ} → length l.flows ≡ n → (limbs + 1 ≤ length all) × (ratios + (n - 1) ≤ length (limb_ratios all))
  tallying_fits s = (omega (arith, t.limbs_left, ap length e), omega (arith, t.ratios_left, tail_length))

  pub tallying_next : {after : List ℕ} {n : ℕ} → length l.flows ≡ n → Added (pair_ratios l.flows) counts after → Tallying all next before after (limbs + 1) (ratios + (n - 1))
  tallying_next s a =
      record {
        size = a.size ∙ t.size;
        limbs_left = omega (arith, t.limbs_left, ap length e);
        ratios_left = omega (arith, t.ratios_left, tail_length);
        each = λ v. omega (arith, a.each v, t.each v, head_ratios v);
      }

-- none are left
pub tallying_done : {all left : List Limb} {before counts : List ℕ} {limbs ratios : ℕ} → Tallying all left before counts limbs ratios → left ≡ [] → Tallied all limbs ratios before counts
unfolding limb_ratios
tallying_done t e =
    record {
      limbs = omega (arith, t.limbs_left, ap length e);
      ratios = omega (arith, t.ratios_left, ap (λ ls. length (limb_ratios ls)) e);
      added = record { size = t.size; each = λ v. omega (arith, t.each v, ap (λ ls. how_many v (limb_ratios ls)) e, many_none v) };
    }

-- where each tallied limb starts, and those behind them
pub record Noting (L : ℕ) (days base : List ℕ) (left : List Limb) (limbs : ℕ) (firsts : List ℕ) : Type 0 where
  pub size : length firsts ≡ 18263
  pub noted : Noted L days base limbs firsts
  pub behind : drop limbs (limbs_from L days base 0) ≡ left

pub noting_start : (L : ℕ) (days base firsts : List ℕ) → length firsts ≡ 18263 → Noting L days base (limbs_from L days base 0) 0 firsts
noting_start L days base firsts e = record { size = e; noted = λ i h. absurd (omega arith); behind = refl }

pub next_behind : (ls : List Limb) (n : ℕ) {l : Limb} {next : List Limb} → drop n ls ≡ l ∷ next → drop (n + 1) ls ≡ next
next_behind ls n e = sym (drop-drop 1 n ls) ∙ ap (drop 1) e

pub noting_next : {L : ℕ} {days base : List ℕ} {from first end limbs : ℕ} {firsts : List ℕ} → Noting L days base (limbs_from L days base from) limbs firsts → LimbAt L days base from first end → limbs < 18263
    → Noting L days base (limbs_from L days base end) (limbs + 1) (set firsts limbs first)
noting_next {L} {days} {base} {from} {first} {end} {limbs} {firsts} n l h = record { size = length-set firsts limbs first ∙ n.size; noted = λ i g. by_place i g (ℕ_discrete i limbs); behind = behind }
  where
    behind : drop (limbs + 1) (limbs_from L days base 0) ≡ limbs_from L days base end
    behind = next_behind (limbs_from L days base 0) limbs (n.behind ∙ l.next)

    by_place : (i : ℕ) → i < limbs + 1 → Dec (i ≡ limbs) → StartsAt L days base i (get_or (set firsts limbs first) i 0)
    by_place i g (yes q) =
        let next : drop (suc limbs) (limbs_from L days base 0) ≡ limbs_from L days base end = rw add-one at behind in
        rw (q, get_or-set_same firsts limbs first 0 (omega (arith, n.size)))
        (record { inside = omega (arith, l.forward, l.inside); seen = l.seen; limb = rw (← l.run, next) (n.behind ∙ l.next) })
    by_place i g (no q) = rw (get_or-set_other firsts limbs i first 0 q) (n.noted i (omega (arith, q)))

-- of all the limbs those that are not left are counted at their numbers of days
pub record Measuring (all left : List Limb) (before lengths : List ℕ) (longest : ℕ) : Type 0 where
  pub size : length lengths ≡ length before
  pub each : (v : ℕ) → get_or lengths v 0 + how_many v (day_counts left) ≡ get_or before v 0 + how_many v (day_counts all)
  pub longest_fits : longest < length before
  pub none_longer : (v : ℕ) → longest < v → get_or lengths v 0 ≡ 0

pub measuring_start : (all : List Limb) (lengths : List ℕ) → 0 < length lengths → ((v : ℕ) → get_or lengths v 0 ≡ 0) → Measuring all all lengths lengths 0
measuring_start all lengths h zeros = record { size = refl; each = λ v. refl; longest_fits = h; none_longer = λ v g. zeros v }

module _ {all left next : List Limb} {l : Limb} {before lengths : List ℕ} {longest n : ℕ} (m : Measuring all left before lengths longest) (e : left ≡ l ∷ next) (s : length l.flows ≡ n) where
  head_length : (v : ℕ) → how_many v (day_counts left) ≡ how_many v (n ∷ day_counts next)
  head_length v = ap (λ ls. how_many v (day_counts ls)) e ∙ ap (λ k. how_many v (k ∷ day_counts next)) s

  pub measuring_room : ((v : ℕ) → get_or before v 0 ≡ 0) → get_or lengths n 0 + 1 ≤ length all
  measuring_room zeros = omega (arith, m.each n, head_length n, many_here n (day_counts next) refl, zeros n, many_few n (day_counts all), length-map all (λ l. length l.flows))

  pub measuring_next : n < length before → Measuring all next before (set lengths n (get_or lengths n 0 + 1)) (max longest n)
  measuring_next h =
      let inside : n < length lengths = omega (arith, m.size) in
      record {
        size = length-set lengths n _ ∙ m.size;
        each = λ v. counted_one lengths n (day_counts next) v inside ∙ ap (λ k. get_or lengths v 0 + k) (sym (head_length v)) ∙ m.each v;
        longest_fits = omega (arith, m.longest_fits, h);
        none_longer = λ v g. get_or-set_other lengths n v _ 0 (λ q. absurd (omega (arith, q))) ∙ m.none_longer v (omega arith);
      }

pub measuring_done : {all left : List Limb} {before lengths : List ℕ} {longest : ℕ} → Measuring all left before lengths longest → left ≡ [] → Measured all longest before lengths
measuring_done m e =
    record {
      added = record { size = m.size; each = λ v. omega (arith, m.each v, ap (λ ls. how_many v (day_counts ls)) e, many_none v) };
      longest_fits = m.longest_fits;
      none_longer = m.none_longer;
    }

-- the walk from limb to limb: what is tallied, and what is left from `at` on, where no day before it is invalid
pub record Walked (L : ℕ) (days base : List ℕ) (at : ℕ) (t : Tally) (counts₀ counts lengths₀ lengths firsts : List ℕ) : Type 0 where
  pub tests : invalid_from days base 0 ≡ invalid_from days base at
  pub tallying : Tallying (limbs_from L days base 0) (limbs_from L days base at) counts₀ counts t.limbs t.ratios
  pub measuring : Measuring (limbs_from L days base 0) (limbs_from L days base at) lengths₀ lengths t.longest
  pub noting : Noting L days base (limbs_from L days base at) t.limbs firsts

pub walked_start : (L : ℕ) (days base counts lengths firsts : List ℕ) → length lengths ≡ 36526 → ((v : ℕ) → get_or lengths v 0 ≡ 0) → length firsts ≡ 18263
    → Walked L days base 0 (record { limbs = 0; ratios = 0; longest = 0 }) counts counts lengths lengths firsts
walked_start L days base counts lengths firsts e zeros notes =
    record { tests = refl; tallying = tallying_start _ _; measuring = measuring_start _ _ (omega arith) zeros; noting = noting_start L days base firsts notes }

module _ {L : ℕ} {days base : List ℕ} {at : ℕ} {t : Tally} {counts₀ counts lengths₀ lengths firsts : List ℕ} (w : Walked L days base at t counts₀ counts lengths₀ lengths firsts) where
  pub walked_done : (limbs_from L days base at ≡ []) × (invalid_from days base at ≡ false) → Found L days base t counts₀ counts lengths₀ lengths firsts
  walked_done n =
      record { valid = sym (from_start days base) ∙ w.tests ∙ n.1; tallied = tallying_done w.tallying n.0; measured = measuring_done w.measuring n.0; noted = w.noting.noted }

  pub walked_refused : {r : Refusal} → InvalidFrom days base at r → InvalidFrom days base 0 r
  walked_refused i = (i.0, w.tests ∙ i.1)

  -- the next limb
  module _ (few : length days ≤ day_limit) {first end : ℕ} (l : LimbAt L days base at first end) where
    -- its ratios have room
    pub pairs_fit : ((v : ℕ) → get_or counts₀ v 0 ≡ 0) → (v : ℕ) → get_or counts v 0 + how_many v (pair_ratios (run_at days first end).flows) < 2 ^ 16
    pairs_fit zeros = tallying_room w.tallying l.next zeros (omega (arith, ratios_few L days base))

    -- its number of days has a cell, with room for one more
    pub cell_fits : 2 ≤ L → ((v : ℕ) → get_or lengths₀ v 0 ≡ 0) → (end - first < 36526) × (get_or lengths (end - first) 0 + 1 < 65536)
    cell_fits two zeros = (omega (arith, l.inside), omega (arith, measuring_room w.measuring l.next (limb_size l) zeros, limbs_half L days base two))

    -- one limb more, and its ratios
    pub tally_fits : 2 ≤ L → (t.limbs < 18262) × (t.ratios + (end - first - 1) ≤ 36525)
    tally_fits two =
        let f = tallying_fits w.tallying l.next (limb_size l) in
        (omega (arith, f.0, limbs_half L days base two), omega (arith, f.1, ratios_few L days base))

    pub walked_next : 2 ≤ L → length lengths₀ ≡ 36526 → {after : List ℕ} → Added (pair_ratios (run_at days first end).flows) counts after
        → Walked L days base end (record { limbs = t.limbs + 1; ratios = t.ratios + (end - first - 1); longest = max t.longest (end - first) }) counts₀ after lengths₀ (set lengths (end - first) (get_or lengths (end - first) 0 + 1)) (set firsts t.limbs first)
    walked_next two cells a =
        record {
          tests = w.tests ∙ l.tests;
          tallying = tallying_next w.tallying l.next (limb_size l) a;
          measuring = measuring_next w.measuring l.next (limb_size l) (omega (arith, l.inside));
          noting = noting_next w.noting l (omega (arith, tally_fits two));
        }
