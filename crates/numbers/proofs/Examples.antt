-- Computed examples: near at and around halves, quotients by a reciprocal, fractions by cross-multiplying, and one rounding
-- step in both readings.
-- Assumes nothing.
use Prim.Native.Nat.{◌/◌}
use mathlib.Core.Path.{◌≡◌, refl}
use lib.IntN.{pos, negsuc}
use lib.Signed.{le_z_yes}
use lib.Dec.{lit<}
use Rattle.numbers.specs.Near.{near}
use Rattle.numbers.specs.Fraction.{Fraction, whole, half, sum, opposite, difference, surplus, multiple, quotient, least, Within}
use Rattle.numbers.specs.Arithmetic.{Weights, row, weighted, rounded, exact}
use Rattle.numbers.proofs.Reciprocals.{product}

below_half : near 149 100 ≡ 1
unfolding near
below_half = refl

-- a half between 1 and 2, and one between 2 and 3
at_half : near 150 100 ≡ 2
unfolding near
at_half = refl

at_half_above_even : near 250 100 ≡ 2
unfolding near
at_half_above_even = refl

above_half : near 151 100 ≡ 2
unfolding near
above_half = refl

-- the largest numerators of a rounding step: 10^10 thousandths, weights that add up to 10^8 - 1
largest : near 999_999_990_049_999_999 99_999_999 ≡ 10_000_000_000
unfolding near
largest = refl

largest_up : near 999_999_990_050_000_000 99_999_999 ≡ 10_000_000_001
unfolding near
largest_up = refl

-- quotients by a reciprocal before they are mended: below a whole one is none, and at each whole one is short by one
by_reciprocal_below : product 19_999 (18_446_744_073_709_551_615 / 20_000) ≡ 0
by_reciprocal_below = refl

by_reciprocal_above : product 20_001 (18_446_744_073_709_551_615 / 20_000) ≡ 1
by_reciprocal_above = refl

short_at_whole : product 20_000 (18_446_744_073_709_551_615 / 20_000) ≡ 0
short_at_whole = refl

short_at_largest : product 18_446_744_073_709_551_615 (18_446_744_073_709_551_615 / 1) ≡ 18_446_744_073_709_551_614
short_at_largest = refl

short_past_half : product 18_446_744_073_709_551_615 (18_446_744_073_709_551_615 / 9_223_372_036_854_775_809) ≡ 0
short_past_half = refl

third : Fraction
third = record { upper = pos 1; lower = 3; above_zero = lit< tt }

-- 1/2 + 1/3 = 5/6, 1/3 - 1/2 = -1/6, and nothing is reduced: 1/2 + 1/2 = 4/4
sum_upper : (sum half third).upper ≡ pos 5
unfolding sum half third
sum_upper = refl

sum_lower : (sum half third).lower ≡ 6
unfolding sum half third
sum_lower = refl

below_zero : (difference third half).upper ≡ negsuc 0
unfolding difference half third
below_zero = refl

not_reduced : (sum half half).lower ≡ 4
unfolding sum half
not_reduced = refl

smaller : least half third ≡ third
unfolding least half third
smaller = refl

smaller_below_zero : (least (difference third half) (whole 0)).upper ≡ negsuc 0
unfolding least difference half third whole
smaller_below_zero = refl

-- 1/3 and 1/2 lie within 1/6, two fractions that no reduction would show equal to their difference
sixth : Fraction
sixth = record { upper = pos 2; lower = 12; above_zero = lit< tt }

within_sixth : Within sixth third half
unfolding sixth third half sum
within_sixth = record { above = le_z_yes tt; below = le_z_yes tt }

-- a step with the weights of method 1 and p 9250: 222500750 / 20000 is 11125.0375
lyne_hollick : Weights
lyne_hollick = record { A = 18500; B = 750; C = 750; E = 0; d = 20000 }

step_rounded : weighted rounded lyne_hollick 10000 30001 20000 ≡ 11125
unfolding weighted lyne_hollick near
step_rounded = refl

step_exact : (weighted exact lyne_hollick (whole 10000) (whole 30001) (whole 20000)).upper ≡ pos 222500750
unfolding weighted lyne_hollick quotient sum difference opposite surplus multiple whole
step_exact = refl

-- and one that comes out below zero: 10^6 × 500000 + 10^7 × 2000 - 5 × 10^6 × 1000000
below : Weights
below = row 1000000 10000000 (negsuc 4999999) 110000000

below_rounded : weighted rounded below 500000 2000 1000000 ≡ 0
unfolding weighted below near
below_rounded = refl

below_exact : (weighted exact below (whole 500000) (whole 2000) (whole 1000000)).upper ≡ pos 0
unfolding weighted below quotient sum difference opposite surplus multiple whole
below_exact = refl
