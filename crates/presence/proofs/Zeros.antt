-- The zeros of a word, from the lowest on: each is filled as it is met, so that the lowest that is left is the next.
-- Assumes nothing.
use Prim.Native.Nat.{ℕ, zero, suc, ◌+◌, ◌-◌, ◌*◌, ◌/◌, ◌%◌, ◌^◌, ◌≤◌, ◌<◌}
use mathlib.Core.Path.{◌≡◌, refl, sym, ◌∙◌, ap, ap₂}
use mathlib.Core.Bool.{Bool, true, false, cond, not, ◌&&◌, ◌||◌, or_assoc, or_comm, or-false}
use mathlib.Core.List.{List, [], ◌∷◌}
use native.Mathlib.Nat.{lt_of_not-le}
use native.Mathlib.Decide.{ℕ_discrete, dec_le}
use native.Mathlib.Omega.{arith}
use lib.ListN.{length, get_or, set}
use lib.Dec.{ltb, eqb}
use Rattle.std.specs.Prelude.{bit_or}
use Rattle.std.specs.Int.{w64, bit_at, trailing_ones}
use Rattle.std.specs.Int.Count.{trailing_of_zero}
use borrow.Author.Tests.{lt-ltb, ne_eqb}
use Rattle.std.proofs.Common.{pow-suc}
use Rattle.std.proofs.Math.Nat.{mul_comm, div-add-mod, mod-lt}
use Rattle.std.proofs.lemmas.Nat.{trailing_le, le_or_l, le_or_r, pow_pos}
use Rattle.std.proofs.lemmas.Nat.Bits.{bit_at-trailing_ones, bit_at-pow_same, bit_at-pow_other, bit_at_or, bit_at_ones, bit_at_ones_above, bit_at_cat_low, bit_at_cat_high, same_from_bits_below}
use Rattle.series.specs.Units.{missing_mark}
use Rattle.presence.specs.Form.{is_one, days_from, days_of, flow_under_zero}
use Rattle.presence.proofs.Loops.{found_more}

-- a day by its place in a word
pub one_at : (words : List ℕ) (k j i : ℕ) → i ≡ 64 * k + j → j < 64 → is_one words i ≡ eqb (bit_at (get_or words k 0) j) 1
one_at words k j i e h =
    let a : i / 64 ≡ k = omega arith in
    let b : i % 64 ≡ j = omega arith in
    ap₂ (λ x y. eqb (bit_at (get_or words x 0) y) 1) a b

either : (b : Bool) (x : ℕ) → cond b x x ≡ x
either true x = refl
either false x = refl

abbrev lowest : ℕ → ℕ
lowest w = trailing_ones w64 w

-- below the lowest zero there are ones alone; a word that has a zero has room above it
ones_below : (w j : ℕ) → w < 2 ^ 64 → j < lowest w → bit_at w j ≡ 1
ones_below w j h l =
    elim (dec_le (2 ^ 64) (w + 1)) [
      | yes f ↦ let e : w ≡ 2 ^ 64 - 1 = omega arith in rw e (bit_at_ones 64 j (omega (arith, trailing_le 64 (2 ^ 64 - 1 - w))))
      | no n ↦ (bit_at-trailing_ones w64 w (lt_of_not-le n)).2 j l
    ]

one_below : (w j : ℕ) → w < 2 ^ 64 → j < lowest w → is_one (w ∷ []) j ≡ true
one_below w j h l = one_at (w ∷ []) 0 j j (omega arith) (omega (arith, l, trailing_le 64 (2 ^ 64 - 1 - w))) ∙ ap (λ b. eqb b 1) (ones_below w j h l)

pub room_above : (w : ℕ) → w < 2 ^ 64 → lowest w < 64 → w + 1 < 2 ^ 64
room_above w h l =
    elim (dec_le (2 ^ 64) (w + 1)) [
      | yes f ↦ let e : w ≡ 2 ^ 64 - 1 = omega arith in let t : lowest w ≡ 64 = rw e (trailing_of_zero 64) in absurd (omega arith)
      | no n ↦ lt_of_not-le n
    ]

pub next_zero : (w : ℕ) → w < 2 ^ 64 → lowest w < 64 → 2 ^ 64 - bit_or w (w + 1) < 2 ^ 64 - w
next_zero w h l = omega (arith, le_or_r w (w + 1), room_above w h l)

-- w | w + 1 fills the lowest zero of w, and nothing else
module _ (w : ℕ) (h : w < 2 ^ 64) (l : lowest w < 64) where
  abbrev i : ℕ
  i = lowest w

  abbrev upper : ℕ
  upper = w / 2 ^ suc i

  abbrev filled : ℕ
  filled = bit_or w (w + 1)

  zero_there : bit_at w i ≡ 0
  zero_there = (bit_at-trailing_ones w64 w (room_above w h l)).1

  abbrev rest : ℕ
  rest = w % 2 ^ suc i

  parts : w ≡ upper * 2 ^ suc i + rest
  parts = omega (arith, div-add-mod w (2 ^ suc i), mul_comm (2 ^ suc i) upper)

  rest_small : rest < 2 ^ suc i
  rest_small = mod-lt w (pow_pos (suc i))

  ones_only : (j : ℕ) → j < suc i → bit_at rest j ≡ bit_at (2 ^ i - 1) j
  ones_only j k =
      sym (ap (λ x. bit_at x j) parts ∙ bit_at_cat_low upper (suc i) rest j k)
      ∙ elim (ℕ_discrete j i) [
        | yes e ↦ rw e (zero_there ∙ sym (bit_at_ones_above i i (omega arith)))
        | no n ↦ ones_below w j h (omega arith) ∙ sym (bit_at_ones i j (omega arith))
      ]

  next : w + 1 ≡ upper * 2 ^ suc i + 2 ^ i
  next =
      let low : rest ≡ 2 ^ i - 1 = same_from_bits_below (suc i) rest (2 ^ i - 1) rest_small (omega (arith, pow-suc 2 i, pow_pos i)) ones_only in
      omega (arith, parts, pow_pos i)

  next_bit : (j : ℕ) → j < suc i → bit_at (w + 1) j ≡ bit_at (2 ^ i) j
  next_bit j k = ap (λ x. bit_at x j) next ∙ bit_at_cat_low upper (suc i) (2 ^ i) j k

  above : (j b : ℕ) → b < 2 ^ suc i → suc i ≤ j → bit_at (upper * 2 ^ suc i + b) j ≡ bit_at upper (j - suc i)
  above j b s k = bit_at_cat_high upper (suc i) b j s k

  filled_there : bit_at filled i ≡ 1
  filled_there = bit_at_or w (w + 1) i ∙ omega (arith, zero_there, next_bit i (omega arith), bit_at-pow_same i)

  filled_elsewhere : (j : ℕ) → (j ≡ i → ⊥) → bit_at filled j ≡ bit_at w j
  filled_elsewhere j n =
      bit_at_or w (w + 1) j
      ∙ elim (dec_le (suc i) j) [
        | yes k ↦ omega (arith, ap (λ x. bit_at x j) parts, above j rest rest_small k, ap (λ x. bit_at x j) next, above j (2 ^ i) (omega (arith, pow-suc 2 i, pow_pos i)) k)
        | no k ↦ let m : j < suc i = lt_of_not-le k in omega (arith, next_bit j m, bit_at-pow_other i j n, ones_below w j h (omega arith))
      ]

  -- so the days and the flows behind it are as they were
  same_one : (j : ℕ) → j < 64 → (j ≡ i → ⊥) → is_one (filled ∷ []) j ≡ is_one (w ∷ []) j
  same_one j k n = one_at (filled ∷ []) 0 j j (omega arith) k ∙ ap (λ b. eqb b 1) (filled_elsewhere j n) ∙ sym (one_at (w ∷ []) 0 j j (omega arith) k)

  same_days : (k : ℕ) (days : List ℕ) → i < k → k + length days ≤ 64 → days_from (filled ∷ []) k days ≡ days_from (w ∷ []) k days
  unfolding days_from
  same_days k [] b f = refl
  same_days k (day ∷ days) b f = ap₂ (λ o l. cond o day missing_mark ∷ l) (same_one k (omega arith) (λ m. absurd (omega arith))) (same_days (suc k) days (omega arith) (omega arith))

  same_flows : (k : ℕ) (flows : List ℕ) → i < k → k + length flows ≤ 64 → flow_under_zero (w ∷ []) k flows ≡ flow_under_zero (filled ∷ []) k flows
  unfolding flow_under_zero
  same_flows k [] b f = refl
  same_flows k (flow ∷ flows) b f = sym (ap₂ (λ o t. (not o && ltb 0 flow) || t) (same_one k (omega arith) (λ m. absurd (omega arith))) (sym (same_flows (suc k) flows (omega arith) (omega arith))))

  -- and there, the mark stands for the zero, and the flow is under it
  mark_there : (k n : ℕ) (days : List ℕ) → i ≡ k + n → n < length days → k + length days ≤ 64 → days_from (filled ∷ []) k (set days n missing_mark) ≡ days_from (w ∷ []) k days
  unfolding days_from
  mark_there k n [] e g f = absurd (omega arith)
  mark_there k zero (day ∷ days) e g f =
      let at : k ≡ i = omega arith in
      let none : is_one (w ∷ []) k ≡ false = one_at (w ∷ []) 0 k k (omega arith) (omega arith) ∙ ap (λ j. eqb (bit_at w j) 1) at ∙ ap (λ b. eqb b 1) zero_there in
      let past : i < suc k = omega arith in
      ap₂ (λ d l. d ∷ l) (either (is_one (filled ∷ []) k) missing_mark ∙ ap (λ b. cond b day missing_mark) (sym none)) (same_days (suc k) days past (omega arith))
  mark_there k (suc n) (day ∷ days) e g f =
      ap₂ (λ o l. cond o day missing_mark ∷ l) (same_one k (omega arith) (λ m. absurd (omega arith))) (mark_there (suc k) n days (omega arith) (omega arith) (omega arith))

  under_there : (k n : ℕ) (flows : List ℕ) → i ≡ k + n → n < length flows → k + length flows ≤ 64 → flow_under_zero (w ∷ []) k flows ≡ (ltb 0 (get_or flows n 0) || flow_under_zero (filled ∷ []) k flows)
  unfolding flow_under_zero
  under_there k n [] e g f = absurd (omega arith)
  under_there k zero (flow ∷ flows) e g f =
      let at : k ≡ i = omega arith in
      let one : is_one (filled ∷ []) k ≡ true = one_at (filled ∷ []) 0 k k (omega arith) (omega arith) ∙ ap (λ j. eqb (bit_at filled j) 1) at ∙ ap (λ b. eqb b 1) filled_there in
      let none : is_one (w ∷ []) k ≡ false = one_at (w ∷ []) 0 k k (omega arith) (omega arith) ∙ ap (λ j. eqb (bit_at w j) 1) at ∙ ap (λ b. eqb b 1) zero_there in
      let past : i < suc k = omega arith in
      rw (none, one) (ap (λ t. ltb 0 flow || t) (same_flows (suc k) flows past (omega arith)))
  under_there k (suc n) (flow ∷ flows) e g f =
      let here = not (is_one (w ∷ []) k) && ltb 0 flow in
      ap (λ t. here || t) (under_there (suc k) n flows (omega arith) (omega arith) (omega arith))
      ∙ swap here (ltb 0 (get_or flows n 0)) _
      ∙ ap (λ o. ltb 0 (get_or flows n 0) || ((not o && ltb 0 flow) || flow_under_zero (filled ∷ []) (suc k) flows)) (sym (same_one k (omega arith) (λ m. absurd (omega arith))))
    where
      swap : (a b c : Bool) → (a || (b || c)) ≡ (b || (a || c))
      swap a b c = sym (or_assoc a b c) ∙ ap (λ x. x || c) (or_comm a b) ∙ or_assoc b a c

-- flows are gathered by their bits: none is left out
gathered : (a b : ℕ) → (not (eqb a 0) || ltb 0 b) ≡ not (eqb (bit_or a b) 0)
gathered a b =
    elim (ℕ_discrete a 0) [
      | no n ↦ rw (ne_eqb a 0 n) (ap not (sym (ne_eqb (bit_or a b) 0 (λ z. absurd (omega (arith, n, z, le_or_l a b))))))
      | yes e ↦
          elim (ℕ_discrete b 0) [
            | yes l ↦ rw (e, l) refl
            | no n ↦ rw (e, lt-ltb 0 b (omega (arith, n))) (ap not (sym (ne_eqb (bit_or 0 b) 0 (λ z. absurd (omega (arith, n, z, le_or_r 0 b))))))
          ]
    ]

-- a turn, and what is left at the end
pub mark_turn : (days goal : List ℕ) (w i : ℕ) → i ≡ lowest w → w < 2 ^ 64 → i < length days → length days ≤ 64 → days_of days (w ∷ []) ≡ goal → days_of (set days i missing_mark) (bit_or w (w + 1) ∷ []) ≡ goal
unfolding days_of
mark_turn days goal w i a h l f e = mark_there w h (omega arith) 0 i days (omega arith) l (omega arith) ∙ e

pub under_turn : (flows : List ℕ) (w i found : ℕ) (whole : Bool) → i ≡ lowest w → w < 2 ^ 64 → i < length flows → length flows ≤ 64 → whole ≡ (not (eqb found 0) || flow_under_zero (w ∷ []) 0 flows)
    → whole ≡ (not (eqb (bit_or found (get_or flows i 0)) 0) || flow_under_zero (bit_or w (w + 1) ∷ []) 0 flows)
under_turn flows w i found whole a h l f e =
    found_more (not (eqb found 0)) _ _ e (under_there w h (omega arith) 0 i flows (omega arith) l (omega arith))
    ∙ ap (λ b. b || flow_under_zero (bit_or w (w + 1) ∷ []) 0 flows) (gathered found (get_or flows i 0))

all_ones : (w k : ℕ) (days : List ℕ) → w < 2 ^ 64 → k + length days ≤ lowest w → days_from (w ∷ []) k days ≡ days
unfolding days_from
all_ones w k [] h l = refl
all_ones w k (day ∷ days) h l = ap₂ (λ o ds. cond o day missing_mark ∷ ds) (one_below w k h (omega arith)) (all_ones w (suc k) days h (omega arith))

none_under : (w k : ℕ) (flows : List ℕ) → w < 2 ^ 64 → k + length flows ≤ lowest w → flow_under_zero (w ∷ []) k flows ≡ false
unfolding flow_under_zero
none_under w k [] h l = refl
none_under w k (flow ∷ flows) h l = ap₂ (λ o t. (not o && ltb 0 flow) || t) (one_below w k h (omega arith)) (none_under w (suc k) flows h (omega arith))

pub mark_end : (days goal : List ℕ) (w : ℕ) → w < 2 ^ 64 → length days ≤ lowest w → days_of days (w ∷ []) ≡ goal → days ≡ goal
unfolding days_of
mark_end days goal w h l e = sym (all_ones w 0 days h (omega arith)) ∙ e

pub under_end : (flows : List ℕ) (w : ℕ) (found whole : Bool) → w < 2 ^ 64 → length flows ≤ lowest w → whole ≡ (found || flow_under_zero (w ∷ []) 0 flows) → whole ≡ found
under_end flows w found whole h l e = e ∙ ap (λ b. found || b) (none_under w 0 flows h (omega arith)) ∙ or-false found
