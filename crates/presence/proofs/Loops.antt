-- The loops: what holds at the start, what a turn keeps, and what is left at the end.
-- Assumes nothing.
use Prim.Native.Nat.{ℕ, zero, suc, ◌+◌, ◌-◌, ◌*◌, ◌/◌, ◌%◌, ◌^◌, ◌≤◌, ◌<◌}
use mathlib.Core.Path.{◌≡◌, refl, sym, ◌∙◌, ap, ap₂}
use mathlib.Core.Bool.{Bool, true, false, cond, not, ◌&&◌, ◌||◌, or_assoc, or-false}
use mathlib.Core.List.{List, [], ◌∷◌, ◌++◌, map, append-nil}
use native.Mathlib.Numerals.{add-one}
use native.Mathlib.Omega.{arith}
use lib.ListN.{length, get_or, take, drop, set, drop_of_length-le}
use lib.Seq.{take-suc, drop-cons, take-suc-set, take_all, append_snoc}
use lib.Dec.{ltb, eqb}
use borrow.Author.Tests.{ltb-false, le-ltb, ne_eqb}
use mathlib.Core.Bool.{or-true}
use native.Mathlib.Decide.{ℕ_discrete}
use lib.Pow.{shr-shr, shr_lt}
use lib.Seq.{drop-drop}
use Rattle.std.specs.Prelude.{count_ones, min}
use Rattle.std.specs.Simd.Lanes.{mask_l}
use Rattle.std.proofs.Common.{Fits, w64}
use Rattle.std.proofs.Math.Facts.{Fits-lt-pow}
use Rattle.std.proofs.lemmas.Nat.{ones-le}
use Rattle.std.proofs.lemmas.List.{take_min, length-drop, length-set, length-map}
use Rattle.std.proofs.lemmas.List.Sums.{sum_by_push}
use Rattle.std.proofs.lemmas.Simd.{mask_l-mod}
use Rattle.series.specs.Units.{flow_limit, missing_mark, is_missing}
use Rattle.series.proofs.Views.{neither_of}
use Rattle.presence.specs.Form.{is_one, is_present, word_count, flows_of, word_of, words_for, words_of, any_one, one_past_end, flow_under_zero, number_under_one, is_invalid_form, is_invalid_flow}
use Rattle.presence.specs.Call.{ones_in}
use Rattle.presence.specs.Private.{any_above}

-- a search: it has found something so far, or finds it in what is left
pub found_more : (found here more : Bool) {whole rest : Bool} → whole ≡ (found || rest) → rest ≡ (here || more) → whole ≡ ((found || here) || more)
found_more found here more e f = e ∙ ap (λ b. found || b) f ∙ sym (or_assoc found here more)

-- numbers above the largest flow
above_next : (flows : List ℕ) (i : ℕ) → i < length flows → any_above (drop i flows) ≡ (ltb flow_limit (get_or flows i 0) || any_above (drop (i + 1) flows))
unfolding any_above
above_next flows i h = rw (add-one, drop-cons flows i 0)

pub above_turn : (flows : List ℕ) (i : ℕ) (found : Bool) → any_above flows ≡ (found || any_above (drop i flows)) → i < length flows → any_above flows ≡ ((found || ltb flow_limit (get_or flows i 0)) || any_above (drop (i + 1) flows))
above_turn flows i found e h = found_more found _ _ e (above_next flows i h)

pub above_end : (flows : List ℕ) (i : ℕ) (found : Bool) → any_above flows ≡ (found || any_above (drop i flows)) → length flows ≤ i → any_above flows ≡ found
unfolding any_above
above_end flows i found e h = e ∙ rw (drop_of_length-le flows h) (or-false found)

-- behind 28 a number above the largest flow stands under a one
above_day : (one : Bool) (flow : ℕ) → (not one && ltb 0 flow) ≡ false → ltb flow_limit flow ≡ (one && ltb flow_limit flow)
above_day true flow e = refl
above_day false flow e = le-ltb flow_limit flow (omega (arith, ltb-false 0 flow e))

above_from : (words : List ℕ) (i : ℕ) (flows : List ℕ) → flow_under_zero words i flows ≡ false → any_above flows ≡ number_under_one words i flows
unfolding flow_under_zero any_above number_under_one
above_from words i [] e = refl
above_from words i (flow ∷ flows) e =
    let h = neither_of _ _ e in
    ap₂ (λ a b. a || b) (above_day (is_one words i) flow h.0) (above_from words (suc i) flows h.1)

pub above_is_invalid : (flows words : List ℕ) → is_invalid_form flows words ≡ false → any_above flows ≡ is_invalid_flow flows words
unfolding is_invalid_form is_invalid_flow
above_is_invalid flows words e = above_from words 0 flows (neither_of _ _ (neither_of _ _ e).1).1

-- the flows of days
pub flow_turn : (days flows : List ℕ) (i : ℕ) → take i flows ++ flows_of (drop i days) ≡ flows_of days → i < length days → i < length flows
    → take (i + 1) (set flows i (cond (is_missing (get_or days i 0)) 0 (get_or days i 0))) ++ flows_of (drop (i + 1) days) ≡ flows_of days
unfolding flows_of
flow_turn days flows i e h k = rw (add-one, take-suc-set, append_snoc) (rw (drop-cons days i 0) at e)

pub flow_end : (days flows : List ℕ) (i : ℕ) → take i flows ++ flows_of (drop i days) ≡ flows_of days → length days ≤ i → length flows ≤ i → flows ≡ flows_of days
unfolding flows_of
flow_end days flows i e h k = sym (rw (drop_of_length-le days h, append-nil) (take_all i flows k)) ∙ e

-- a one past the end stands in the last word, above its last day
low_bit : (q : ℕ) → (eqb (q % 2) 1 || not (eqb (q / 2) 0)) ≡ not (eqb q 0)
low_bit q =
    elim (ℕ_discrete q 0) [
      | yes e ↦ rw e refl
      | no n ↦
          elim (ℕ_discrete (q / 2) 0) [
            | yes h ↦ let o : q % 2 ≡ 1 = omega arith in rw (o, ne_eqb q 0 n) refl
            | no m ↦ rw (ne_eqb (q / 2) 0 m, ne_eqb q 0 n) (or-true (eqb (q % 2) 1))
          ]
    ]

ones_above : (words : List ℕ) (q k n i : ℕ) → k + n ≡ 64 → i ≡ 64 * q + k → get_or words q 0 < 2 ^ 64 → any_one words i n ≡ not (eqb (get_or words q 0 / 2 ^ k) 0)
unfolding any_one
ones_above words q k zero i e f h =
    let e' : k ≡ 64 = omega arith in
    let z : get_or words q 0 / 2 ^ 64 ≡ 0 = omega (arith, shr_lt 0 64 h) in
    rw (e', z) refl
ones_above words q k (suc n) i e f h =
    let w = get_or words q 0 in
    let a : i / 64 ≡ q = omega arith in
    let b : i % 64 ≡ k = omega arith in
    let rest : any_one words (suc i) n ≡ not (eqb (w / 2 ^ suc k) 0) = ones_above words q (suc k) n (suc i) (omega arith) (omega arith) h in
    let half : w / 2 ^ suc k ≡ w / 2 ^ k / 2 = ap (λ x. w / 2 ^ x) (sym (add-one k)) ∙ sym (shr-shr w k 1) in
    ap₂ (λ x y. eqb (get_or words x 0 / 2 ^ y % 2) 1 || any_one words (suc i) n) a b
    ∙ ap (λ t. eqb (w / 2 ^ k % 2) 1 || t) (rest ∙ ap (λ x. not (eqb x 0)) half)
    ∙ low_bit (w / 2 ^ k)

pub whole_words : (days : ℕ) (words : List ℕ) → length words ≡ word_count days → days % 64 ≡ 0 → one_past_end days words ≡ false
unfolding any_one
whole_words days words e h = let z : 64 * length words - days ≡ 0 = omega arith in rw z refl

pub last_word : (days : ℕ) (words : List ℕ) → length words ≡ word_count days → (days % 64 ≡ 0 → ⊥) → ((k : ℕ) → Fits w64 (get_or words k 0)) → one_past_end days words ≡ not (eqb (get_or words (days / 64) 0 / 2 ^ (days % 64)) 0)
last_word days words e n fits = ones_above words (days / 64) (days % 64) (64 * length words - days) days (omega arith) (omega arith) (Fits-lt-pow (fits (days / 64)))

-- the ones of words
pub ones_few : (words : List ℕ) (i : ℕ) → ((k : ℕ) → Fits w64 (get_or words k 0)) → count_ones (get_or words i 0) ≤ 64
ones_few words i fits = ones-le 64 (get_or words i 0) (Fits-lt-pow (fits i))

pub ones_turn : (words : List ℕ) (i : ℕ) → i < length words → ones_in (take (i + 1) words) ≡ ones_in (take i words) + count_ones (get_or words i 0)
ones_turn words i h = rw (add-one, take-suc words i 0) (sum_by_push count_ones (take i words) (get_or words i 0))

pub ones_end : (words : List ℕ) (i : ℕ) → length words ≤ i → ones_in (take i words) ≡ ones_in words
ones_end words i h = ap ones_in (take_all i words h)

-- a word of numbers, from the last to the first
pub bit_start : (days : List ℕ) (i : ℕ) → i ≡ length days → word_of (drop i days) ≡ 0
bit_start days i e = let h : length days ≤ i = omega arith in rw (drop_of_length-le days h) refl

pub bit_turn : (days : List ℕ) (i k : ℕ) → suc k ≡ i → k < length days → word_of (drop k days) ≡ 2 * word_of (drop i days) + cond (not (eqb (get_or days k 0) missing_mark)) 1 0
unfolding is_missing
bit_turn days i k e h =
    let rest : word_of (drop i days) ≡ word_of (drop (suc k) days) = ap (λ n. word_of (drop n days)) (sym e) in
    rw (drop-cons days k 0, rest) (omega arith)

pub bit_small : (days : List ℕ) (i : ℕ) → length days ≤ 64 → 0 < i → word_of (drop i days) < 2 ^ 63
bit_small days i h k =
    let ms = map is_present (drop i days) in
    let few : length ms ≤ 63 = omega (arith, length-map (drop i days) is_present, length-drop i days) in
    omega (arith, mask_l-mod ms 63 few)

-- the words of days
pub part_of : (days : List ℕ) (start end : ℕ) → end ≡ min (length days) (start + 64) → take (end - start) (drop start days) ≡ take 64 (drop start days)
part_of days start end e =
    let size : end - start ≡ min 64 (length (drop start days)) = omega (arith, length-drop start days) in
    rw size (take_min 64 (drop start days))

pub word_start : (days words : List ℕ) → length words ≡ word_count (length days) → take 0 words ++ words_for (length words - 0) (drop (64 * 0) days) ≡ words_of days
unfolding words_of
word_start days words e = let z : length words - 0 ≡ word_count (length days) = omega arith in rw z refl

pub word_turn : (days words : List ℕ) (k start end v : ℕ) → take k words ++ words_for (length words - k) (drop (64 * k) days) ≡ words_of days → k < length words → start ≡ k * 64 → end ≡ min (length days) (start + 64) → v ≡ word_of (take (end - start) (drop start days))
    → take (k + 1) (set words k v) ++ words_for (length (set words k v) - (k + 1)) (drop (64 * (k + 1)) days) ≡ words_of days
unfolding words_for
word_turn days words k start end v e h s f w =
    let more : length words - k ≡ suc (length (set words k v) - (k + 1)) = omega (arith, length-set words k v) in
    let at : start ≡ 64 * k = omega arith in
    let next : 64 * k + 64 ≡ 64 * (k + 1) = omega arith in
    let v' : v ≡ mask_l (map is_present (take 64 (drop (64 * k) days))) = w ∙ ap (λ l. mask_l (map is_present l)) (part_of days start end f ∙ ap (λ n. take 64 (drop n days)) at) in
    let e' = rw (more, drop-drop 64 (64 * k) days, next, ← v') at e in
    let rest = words_for (length (set words k v) - (k + 1)) (drop (64 * (k + 1)) days) in
    ap (λ n. take n (set words k v) ++ rest) (add-one k) ∙ ap (λ l. l ++ rest) (take-suc-set words k v h) ∙ append_snoc (take k words) v rest ∙ e'

pub word_end : (days words : List ℕ) (k : ℕ) → take k words ++ words_for (length words - k) (drop (64 * k) days) ≡ words_of days → length words ≤ k → words ≡ words_of days
unfolding words_for
word_end days words k e h =
    let z : length words - k ≡ 0 = omega arith in
    let e' = rw (z, append-nil, take_all k words h) at e in
    e'
