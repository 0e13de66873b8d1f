-- Exact fractions (document 01, "Filters"): an upper whole number, which may be below zero, over a lower one above zero.
-- Everything is done by cross-multiplying, and nothing is reduced.
use Rattle.std.specs.Prelude.{ℕ, zero, suc, ◌*◌, ◌<◌, Bool, cond, ℤ, pos, neg_ℤ, ◌+ℤ◌, ◌*ℤ◌, ◌≤ℤ◌}
use Rattle.std.proofs.Common.{mul-pos, zero-lt-suc, lit<}
use Rattle.std.specs.Int.Signed.{le_z}
use Rattle.numbers.specs.Whole.{up}

pub record Fraction : Type 0 where
  pub upper : ℤ
  pub lower : ℕ
  pub above_zero : 0 < lower

-- a whole number as a fraction
unfoldable pub whole : ℕ → Fraction
whole n = record { upper = pos n; lower = 1; above_zero = lit< tt }

unfoldable pub half : Fraction
half = record { upper = pos 1; lower = 2; above_zero = lit< tt }

unfoldable pub sum : Fraction → Fraction → Fraction
sum f g =
    record {
      upper = (f.upper *ℤ pos g.lower) +ℤ (g.upper *ℤ pos f.lower);
      lower = f.lower * g.lower;
      above_zero = mul-pos f.above_zero g.above_zero;
    }

-- -f
unfoldable pub opposite : Fraction → Fraction
opposite f = record { upper = neg_ℤ f.upper; lower = f.lower; above_zero = f.above_zero }

-- f - g
unfoldable pub difference : Fraction → Fraction → Fraction
unfolding sum opposite
difference f g = sum f (opposite g)

-- f - g, and 0 where that is below zero
unfoldable pub surplus : Fraction → Fraction → Fraction
unfolding difference
surplus f g = let d = difference f g in record { upper = pos (up d.upper); lower = d.lower; above_zero = d.above_zero }

-- k times f
unfoldable pub multiple : ℕ → Fraction → Fraction
multiple k f = record { upper = f.upper *ℤ pos k; lower = f.lower; above_zero = f.above_zero }

-- f / d. A quotient by zero is 0, as near's is; no rule divides by zero.
unfoldable pub quotient : Fraction → ℕ → Fraction
unfolding whole
quotient f zero = whole 0
quotient f (suc k) = record { upper = f.upper; lower = f.lower * suc k; above_zero = mul-pos f.above_zero (zero-lt-suc k) }

-- f is at most g
abbrev pub AtMost : Fraction → Fraction → Type 0
AtMost f g = (f.upper *ℤ pos g.lower) ≤ℤ (g.upper *ℤ pos f.lower)

-- the test of that
abbrev pub at_most : Fraction → Fraction → Bool
at_most f g = le_z (f.upper *ℤ pos g.lower) (g.upper *ℤ pos f.lower)

-- the smaller of two
unfoldable pub least : Fraction → Fraction → Fraction
least f g = cond (at_most f g) f g

-- f and g lie at most l apart
pub record Within (l f g : Fraction) : Type 0 where
  pub above : AtMost f (sum g l)
  pub below : AtMost g (sum f l)
