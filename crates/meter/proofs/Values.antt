-- A float by its bits: which are no flow, and the litre nearest to its exact value by whole numbers that fit the machine's.
-- Assumes nothing.
use Prim.Native.Nat.{ℕ, zero, suc, ◌+◌, ◌-◌, ◌*◌, ◌%◌, ◌^◌, ◌≤◌, ◌<◌, max, min}
use mathlib.Core.Path.{◌≡◌, refl, sym, ◌∙◌, ap, ap₂}
use mathlib.Core.Bool.{Bool, true, false, true≢false, not, ◌&&◌, cond}
use mathlib.Core.Option.{none, some}
use native.Mathlib.Nat.{mul_assoc, mul-pos, mul-le-mul, mul-le-mul_right}
use native.Mathlib.Decide.{ℕ_discrete, dec_le}
use native.Mathlib.Omega.{arith}
use borrow.Author.Tests.{eq-eqb, ne_eqb, le-leb, lt-leb, lt-ltb}
use lib.Dec.{eqb, ltb}
use lib.Pow.{pow-add, pow_pos, pow_mono}
use lib.Ieee.{Float, nan, inf, fin, binary32, of_bits, up}
use lib.Ieee.Fits.{up_pos, down_pos}
use lib.Ieee.Exact.{HasValue}
use Rattle.numbers.specs.Near.{near}
use Rattle.numbers.proofs.Rounding.{near_same, near_error, near_at_least}
use Rattle.series.specs.Units.{flow_limit}
use Rattle.series.specs.Causes.{by_cause, accepted, refused}
use Rattle.meter.specs.Rule.{is_no_flow, is_too_large, nearest_litre}
use Rattle.meter.specs.Bits.{exponent, fraction, significand, upper, lower, is_negative}
use Rattle.meter.specs.Private.{float_outcome}
use Rattle.meter.proofs.Sentences.{on_bits}

-- a finite float of a sign and a size
zeros : (m a : ℕ) {u d : ℕ} → 0 < u → 0 < d → m * u ≡ a * d → eqb m 0 ≡ eqb a 0
zeros zero zero p q e = refl
zeros zero (suc a) p q e = absurd (omega (arith, e, mul-pos {m = suc a} (omega arith) q))
zeros (suc m) zero p q e = absurd (omega (arith, e, mul-pos {m = suc m} (omega arith) p))
zeros (suc m) (suc a) p q e = ne_eqb (suc m) 0 (omega arith) ∙ sym (ne_eqb (suc a) 0 (omega arith))

no_flow : (x : Float) (s : Bool) (a c : ℕ) → 0 < c → HasValue x s a c → is_no_flow x ≡ (s && not (eqb a 0))
unfolding is_no_flow
no_flow nan s a c p h = absurd h
no_flow (inf t) s a c p h = absurd h
no_flow (fin t m e) s a c p h =
    ap₂ (λ u v. u && not v) h.0 (zeros m a (mul-pos (up_pos e) p) (down_pos e) (sym (mul_assoc m (up e) c) ∙ h.1))

nearest_of : (x : Float) (s : Bool) (a c unit : ℕ) → 0 < c → HasValue x s a c → nearest_litre unit x ≡ near (unit * a) c
unfolding nearest_litre
nearest_of nan s a c unit p h = absurd h
nearest_of (inf t) s a c unit p h = absurd h
nearest_of (fin t m e) s a c unit p h =
    near_same _ _ _ _ (down_pos e) p (mul_assoc unit _ c ∙ ap (λ n. unit * n) h.1 ∙ sym (mul_assoc unit a _))

-- the significand by its two cases
module _ (bits : ℕ) where
  with_one : (exponent bits ≡ 0 → ⊥) → significand bits ≡ 8388608 + fraction bits
  with_one n = rw (ne_eqb (exponent bits) 0 n) refl

  without_one : exponent bits ≡ 0 → significand bits ≡ fraction bits
  without_one z = rw (eq-eqb (exponent bits) 0 z) refl

  significand_below : significand bits < 16777216
  significand_below = elim (ℕ_discrete (exponent bits) 0) [ yes z ↦ omega (arith, without_one z) | no n ↦ omega (arith, with_one n) ]

-- the patterns that are no flow
module _ (bits : ℕ) where
  not_finite : exponent bits ≡ 255 → is_no_flow (of_bits binary32 bits) ≡ true
  not_finite = (on_bits bits).not_finite

  by_value : (exponent bits ≡ 255 → ⊥) → is_no_flow (of_bits binary32 bits) ≡ (is_negative bits && not (eqb (upper bits) 0))
  by_value n = no_flow _ _ _ _ (pow_pos 149) ((on_bits bits).finite n)

  below_zero : 2147483648 < bits → bits < 4294967296 → is_no_flow (of_bits binary32 bits) ≡ true
  below_zero h l =
      let p : 0 < significand bits = elim (ℕ_discrete (exponent bits) 0) [ yes z ↦ omega (arith, without_one bits z) | no n ↦ omega (arith, with_one bits n) ] in
      let u = mul-pos p (pow_pos (exponent bits - 1)) in
      elim (ℕ_discrete (exponent bits) 255) [
        | yes e ↦ not_finite e
        | no n ↦ by_value n ∙ simp (le-leb (2 ^ 31) bits (omega arith), ne_eqb (upper bits) 0 (omega (arith, u)))
      ]

  negative_zero : bits ≡ 2147483648 → is_no_flow (of_bits binary32 bits) ≡ false
  negative_zero e = by_value (λ f. omega (arith, e, f)) ∙ ap (λ b. is_negative b && not (eqb (upper b) 0)) e

  a_flow : bits < 2139095040 → is_no_flow (of_bits binary32 bits) ≡ false
  a_flow h = by_value (λ f. omega (arith, h, f)) ∙ ap (λ s. s && not (eqb (upper bits) 0)) (lt-leb (2 ^ 31) bits (omega (arith, h)))

  from_infinity : 2139095040 ≤ bits → (bits ≡ 2147483648 → ⊥) → bits < 4294967296 → is_no_flow (of_bits binary32 bits) ≡ true
  from_infinity h n l =
      elim (dec_le bits 2147483648) [
        | yes b ↦ not_finite (omega (arith, h, b, n))
        | no a ↦ below_zero (omega (arith, a)) l
      ]

-- near less than one half
small : (a b : ℕ) → 2 * a < b → near a b ≡ 0
small a b h =
    elim (ℕ_discrete (near a b) 0) [
      | yes e ↦ e
      | no n ↦ absurd (omega (arith, (near_error a b (omega arith)).above, mul-le-mul_right {m = 1} {n = near a b} b (omega arith)))
    ]

-- a shift by no more than 40, over what is small
module _ (a e k : ℕ) (h : 2 * a < 2 ^ 40) (g : e ≤ 150) (s : k ≡ min (150 - e) 40) where
  abbrev full : ℕ
  full = 150 - max e 1

  word : 1 * 2 ^ k % 18446744073709551616 ≡ 2 ^ k
  word = omega (arith, pow_mono {i = k} {j = 40} (omega arith))

  cut : near a (2 ^ k) ≡ near a (2 ^ full)
  cut =
      elim (dec_le full 40) [
        | yes l ↦ ap (λ j. near a (2 ^ j)) (omega (arith, l))
        | no n ↦ small a (2 ^ k) (omega (arith, pow_mono {i = 40} {j = k} (omega (arith, n)))) ∙ sym (small a (2 ^ full) (omega (arith, pow_mono {i = 40} {j = full} (omega (arith, n)))))
      ]

  whole : a * 2 ^ 149 ≡ a * 2 ^ (e - 1) * 2 ^ full
  whole = (let t : 149 ≡ e - 1 + full = omega arith in ap (λ j. a * 2 ^ j) t) ∙ ap (λ n. a * n) (pow-add 2 (e - 1) full) ∙ sym (mul_assoc a _ _)

  shift : near a (1 * 2 ^ k % 18446744073709551616) ≡ near (a * 2 ^ (e - 1)) (2 ^ 149)
  shift = ap (near a) word ∙ cut ∙ near_same _ _ _ _ (pow_pos full) (pow_pos 149) whole

pub shifted : (unit bits k : ℕ) → unit ≤ 1000 → bits < 1266679808 → k ≡ min (150 - exponent bits) 40
    → near (unit * significand bits) (1 * 2 ^ k % 18446744073709551616) ≡ near (unit * upper bits) lower
shifted unit bits k u e h =
    shift (unit * significand bits) (exponent bits) k (omega (arith, mul-le-mul u (significand_below bits))) (omega (arith, e)) h
    ∙ ap (λ n. near n lower) (mul_assoc unit _ _)

-- the answer over a pattern
pub invalid : (unit : ℕ) (x : Float) → is_no_flow x ≡ true → float_outcome unit x ≡ refused 26
unfolding float_outcome
invalid unit x e = rw e refl

pub refused_from_infinity : (unit bits : ℕ) → 2139095040 ≤ bits → (bits ≡ 2147483648 → ⊥) → bits < 4294967296 → float_outcome unit (of_bits binary32 bits) ≡ refused 26
refused_from_infinity unit bits h n l = invalid unit _ (from_infinity bits h n l)

-- a pattern that is a flow
module _ (unit bits : ℕ) (f : is_no_flow (of_bits binary32 bits) ≡ false) where
  litres : nearest_litre unit (of_bits binary32 bits) ≡ near (unit * upper bits) lower
  litres = nearest_of _ _ _ _ unit (pow_pos 149) ((on_bits bits).finite (λ e. true≢false (sym (not_finite bits e) ∙ f)))

  decided_flow : {n : ℕ} → n ≡ near (unit * upper bits) lower → float_outcome unit (of_bits binary32 bits) ≡ cond (ltb flow_limit n) (refused 27) (accepted n)
  unfolding float_outcome is_too_large
  decided_flow {n} e = simp (f, litres, ← e) (by_test (ltb flow_limit n))
    where
      by_test : (t : Bool) → by_cause (cond t (some 27) none) refused (accepted n) ≡ cond t (refused 27) (accepted n)
      by_test true = refl
      by_test false = refl

  too_large_flow : 0 < unit → 150 < exponent bits → float_outcome unit (of_bits binary32 bits) ≡ refused 27
  too_large_flow u e =
      let size : 2 ^ 23 * 2 ^ 150 ≤ upper bits = mul-le-mul {n₁ = 2 ^ 23} {n₂ = significand bits} (omega (arith, with_one bits (omega arith))) (pow_mono {i = 150} {j = exponent bits - 1} (omega arith)) in
      let once : 1 * upper bits ≤ unit * upper bits = mul-le-mul_right (upper bits) u in
      let large = near_at_least {a = unit * upper bits} {b = lower} {n = 2 ^ 24} (pow_pos 149) (omega (arith, size, once)) in
      let t = lt-ltb flow_limit (near (unit * upper bits) lower) (omega (arith, large)) in
      rw (decided_flow refl, t) refl

module _ (unit bits : ℕ) where
  pub decided : {n : ℕ} → bits < 1266679808 → n ≡ near (unit * upper bits) lower → float_outcome unit (of_bits binary32 bits) ≡ cond (ltb flow_limit n) (refused 27) (accepted n)
  decided h = decided_flow unit bits (a_flow bits (omega (arith, h)))

  pub far_too_large : 0 < unit → 1266679808 ≤ bits → bits < 2139095040 → float_outcome unit (of_bits binary32 bits) ≡ refused 27
  far_too_large u h l = too_large_flow unit bits (a_flow bits l) u (omega (arith, h, l))

-- zero with a sign
pub zero_with_a_sign : (unit bits : ℕ) → bits ≡ 2147483648 → float_outcome unit (of_bits binary32 bits) ≡ accepted 0
zero_with_a_sign unit bits e =
    let nothing : unit * upper bits ≡ 0 = ap (λ b. unit * upper b) e ∙ omega arith in
    decided_flow unit bits (negative_zero bits e) (sym (ap (λ a. near a lower) nothing ∙ small 0 lower (omega arith)))
