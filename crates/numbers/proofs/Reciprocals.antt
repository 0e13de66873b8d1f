-- A quotient by a reciprocal of 64 bits: h × m / 2^64, where m is (2^64 - 1) / d, is h / d or one less.
-- Assumes nothing.
use Prim.Native.Nat.{ℕ, ◌+◌, ◌*◌, ◌-◌, ◌/◌, ◌%◌, ◌≤◌, ◌<◌}
use mathlib.Core.Path.{◌≡◌, ap, sym}
use native.Mathlib.Nat.{mul-le-mul_left, mul-le-mul_right, div-eq_of_lt-le, div-add-mod', mod-lt}
use native.Mathlib.Omega.{arith}

-- the parts of h / d from a k that is the whole part, or one less
module _ {d h : ℕ} (k : ℕ) (a : k * d ≤ h) where
  pub parts : h - k * d < d → (k ≡ h / d) × (h - k * d ≡ h % d)
  parts b =
      let e : h / d ≡ k = div-eq_of_lt-le {k = k} d {m = h} a (omega (arith, a, b)) in
      (sym e, omega (arith, a, div-add-mod' h d, ap (λ n. n * d) e))

  pub parts_above : h - k * d < 2 * d → d ≤ h - k * d → (k + 1 ≡ h / d) × (h - k * d - d ≡ h % d)
  parts_above b l =
      let e : h / d ≡ k + 1 = div-eq_of_lt-le {k = k + 1} d {m = h} (omega (arith, a, l)) (omega (arith, a, b)) in
      (sym e, omega (arith, a, l, div-add-mod' h d, ap (λ n. n * d) e))

-- h / d by the reciprocal m of d, as the code has it before it mends it
abbrev pub product : (h m : ℕ) → ℕ
product h m = h * m / 18446744073709551616

module _ (h : ℕ) {m d : ℕ} (p : 0 < d) (r : m ≡ 18446744073709551615 / d) where
  -- with what the two divisions leave over it makes h × (2^64 - 1)
  made_whole : product h m * d * 18446744073709551616 + h * m % 18446744073709551616 * d + h * (18446744073709551615 % d) ≡ h * 18446744073709551615
  made_whole =
      let all : m * d + 18446744073709551615 % d ≡ 18446744073709551615 = rw r (div-add-mod' 18446744073709551615 d) in
      omega (arith, ap (λ n. n * d) (div-add-mod' (h * m) 18446744073709551616), ap (λ n. h * n) all)

  pub not_above : product h m * d ≤ h
  not_above = omega (arith, made_whole)

  pub short_by_one : h ≤ 18446744073709551615 → h - product h m * d < 2 * d
  short_by_one l =
      omega (arith, made_whole, p, mul-le-mul_left h (mod-lt 18446744073709551615 p), mul-le-mul_right d l, mul-le-mul_right d (mod-lt (h * m) {m = 18446744073709551616} (omega arith)))
