-- The exact value of a float by its bits (docs/RULES.md, "Meter"): a sign, eight bits of exponent and 23 of fraction. That the
-- library's account says the same of every pattern is `on_bits` of proofs/Sentences.antt.
use Rattle.std.specs.Prelude.{ℕ, ◌+◌, ◌-◌, ◌*◌, ◌/◌, ◌%◌, ◌^◌, ◌≡◌, Bool, true, cond, leb, eqb}
use Rattle.std.specs.Float.Ieee.{Float}
use lib.Ieee.Exact.{HasValue}
use Rattle.meter.specs.Rule.{is_no_flow}

-- the sign is the highest bit: one for a number below zero, and for the other zero
abbrev pub is_negative : (bits : ℕ) → Bool
is_negative bits = leb (2 ^ 31) bits

abbrev pub exponent : (bits : ℕ) → ℕ
exponent bits = bits / 2 ^ 23 % 2 ^ 8

abbrev pub fraction : (bits : ℕ) → ℕ
fraction bits = bits % 2 ^ 23

-- the fraction with a one before it; a subnormal number, whose exponent is 0, has none
abbrev pub significand : (bits : ℕ) → ℕ
significand bits = cond (eqb (exponent bits) 0) (fraction bits) (2 ^ 23 + fraction bits)

-- The value is significand × 2^(exponent - 150), and where the exponent is 0 as if it were 1: significand × 2^(exponent - 1)
-- over 2^149 (the difference is 0 where the exponent is 0).
abbrev pub upper : (bits : ℕ) → ℕ
upper bits = significand bits * 2 ^ (exponent bits - 1)

abbrev pub lower : ℕ
lower = 2 ^ 149

-- what a float is by its bits: all ones in the exponent are no finite number, and any others are a number of that sign and,
-- without it, of that value
pub record OnBits (bits : ℕ) (x : Float) : Type 0 where
  pub not_finite : exponent bits ≡ 255 → is_no_flow x ≡ true
  pub finite : (exponent bits ≡ 255 → ⊥) → HasValue x (is_negative bits) (upper bits) lower
