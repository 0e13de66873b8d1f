-- READ THIS FIRST: the rule's sentences, proved of the definitions in specs/.
-- Assumes nothing.
use Prim.Native.Nat.{ℕ, zero, suc, ◌+◌, ◌-◌, ◌*◌, ◌/◌, ◌%◌, ◌^◌}
use mathlib.Core.Path.{◌≡◌, refl}
use mathlib.Core.Bool.{Bool, true, false, cond}
use native.Mathlib.Omega.{arith}
use borrow.Author.Tests.{ne_eqb}
use lib.Dec.{eqb}
use lib.Ieee.{inf, nan, binary32, of_fields, of_bits}
use lib.Ieee.Exact.{HasValue, odd_sign}
use Rattle.meter.specs.Rule.{is_no_flow}
use Rattle.meter.specs.Bits.{exponent, fraction, is_negative, lower, OnBits}

-- by the three fields of a pattern
not_finite : (s : Bool) (t : ℕ) → is_no_flow (of_fields binary32 s 255 t) ≡ true
unfolding of_fields is_no_flow
not_finite s t = by_fraction (eqb t 0)
  where
    by_fraction : (b : Bool) → is_no_flow (cond b (inf s) nan) ≡ true
    by_fraction true = refl
    by_fraction false = refl

finite : (s : Bool) (x t : ℕ) → (x ≡ 255 → ⊥) → HasValue (of_fields binary32 s x t) s (cond (eqb x 0) t (2 ^ 23 + t) * 2 ^ (x - 1)) lower
unfolding of_fields
finite s zero t n = odd_sign 24 s t 0 149
finite s (suc x) t n =
    let e : suc x - 1 ≡ x = omega arith in
    rw (ne_eqb (suc x) 255 n, ne_eqb (suc x) 0 (omega arith), e) (odd_sign 24 s (2 ^ 23 + t) x 149)

-- The library's account of a pattern is the one by its bits.
pub on_bits : (bits : ℕ) → OnBits bits (of_bits binary32 bits)
unfolding of_bits
on_bits bits =
    let e : exponent bits ≡ bits % 2 ^ 31 / 2 ^ 23 = omega arith in
    record {
      not_finite = λ h. rw (← e, h) (not_finite (is_negative bits) (fraction bits));
      finite = λ n. rw (← e) (finite (is_negative bits) (exponent bits) (fraction bits) n);
    }
