-- Readings computed by the checker from the rule: halves, both units, what is no flow, the largest flow.
-- Assumes nothing.
use Prim.Native.Nat.{ℕ}
use mathlib.Core.Path.{◌≡◌, refl}
use mathlib.Core.List.{[], ◌∷◌, map}
use lib.Ieee.{binary32, of_bits, of_fields, odd}
use lib.Count.{count_trailing_zeros}
use Rattle.numbers.specs.Near.{near}
use Rattle.series.specs.Units.{within, number}
use Rattle.series.specs.Causes.{Outcome, accepted, refused}
use Rattle.meter.specs.declared.Reading.TheVariants.{CubicMetres, Litres}
use Rattle.meter.specs.Rule.{nearest_litre, is_no_flow, is_too_large, reading_causes, day_said}
use Rattle.meter.specs.Call.{reading_outcome, reading_in, meter_causes, meter_outcome}

-- what a reading of these bits comes to
abbrev pub in_cubic_metres : (bits : ℕ) → Outcome ℕ
in_cubic_metres bits = reading_outcome (CubicMetres (of_bits binary32 bits))

abbrev pub in_litres : (bits : ℕ) → Outcome ℕ
in_litres bits = reading_outcome (Litres (of_bits binary32 bits))

-- 2.5 litres is 2, 3.5 is 4, 8,388,607.5 is 8,388,608
pub halves : map in_litres (0x40200000 ∷ 0x40600000 ∷ 0x4affffff ∷ []) ≡ accepted 2 ∷ accepted 4 ∷ accepted 8388608 ∷ []
unfolding reading_outcome reading_causes day_said nearest_litre is_no_flow is_too_large near of_bits of_fields odd count_trailing_zeros
halves = refl

-- 1.5 cubic metres is 1500, and the float nearest to 0.0005, which is above it, is 1
pub cubic_metres : map in_cubic_metres (0x3fc00000 ∷ 0x3a03126f ∷ []) ≡ accepted 1500 ∷ accepted 1 ∷ []
unfolding reading_outcome reading_causes day_said nearest_litre is_no_flow is_too_large near of_bits of_fields odd count_trailing_zeros
cubic_metres = refl

-- zero, negative zero and the smallest subnormal are 0, in either unit
pub nothing : map in_litres (0 ∷ 0x80000000 ∷ 1 ∷ []) ≡ accepted 0 ∷ accepted 0 ∷ accepted 0 ∷ []
unfolding reading_outcome reading_causes day_said nearest_litre is_no_flow is_too_large near of_bits of_fields odd count_trailing_zeros
nothing = refl

pub nothing_in_cubic_metres : map in_cubic_metres (0 ∷ 0x80000000 ∷ 1 ∷ []) ≡ accepted 0 ∷ accepted 0 ∷ accepted 0 ∷ []
unfolding reading_outcome reading_causes day_said nearest_litre is_no_flow is_too_large near of_bits of_fields odd count_trailing_zeros
nothing_in_cubic_metres = refl

-- 10,000,000 litres pass, and the next float is above them
pub largest : map in_litres (0x4b189680 ∷ 0x4b189681 ∷ []) ≡ accepted 10000000 ∷ refused 27 ∷ []
unfolding reading_outcome reading_causes day_said nearest_litre is_no_flow is_too_large near of_bits of_fields odd count_trailing_zeros
largest = refl

-- 10,000 cubic metres pass, and the next float does not; nor does 3.4 × 10^38
pub largest_in_cubic_metres : map in_cubic_metres (0x461c4000 ∷ 0x461c4001 ∷ 0x7f7fc99e ∷ []) ≡ accepted 10000000 ∷ refused 27 ∷ refused 27 ∷ []
unfolding reading_outcome reading_causes day_said nearest_litre is_no_flow is_too_large near of_bits of_fields odd count_trailing_zeros
largest_in_cubic_metres = refl

-- infinity of either sign, a quiet and a signalling NaN, and the largest number below zero
pub no_flow : map in_litres (0x7f800000 ∷ 0xff800000 ∷ 0x7fc00000 ∷ 0x7f800001 ∷ 0x80000001 ∷ []) ≡ refused 26 ∷ refused 26 ∷ refused 26 ∷ refused 26 ∷ refused 26 ∷ []
unfolding reading_outcome reading_causes day_said nearest_litre is_no_flow is_too_large near of_bits of_fields odd count_trailing_zeros
no_flow = refl

-- Bytes: none, kinds 00 and 04, a short body, 2.5 in either unit, a byte behind it, no reading, a byte behind that; what stands behind the bits is refused before what they say
pub bytes : map meter_outcome ([] ∷ (0 ∷ []) ∷ (4 ∷ 0 ∷ 0 ∷ 32 ∷ 64 ∷ 0 ∷ 0 ∷ []) ∷ (2 ∷ 0 ∷ 0 ∷ 32 ∷ []) ∷ (1 ∷ 0 ∷ 0 ∷ 32 ∷ 64 ∷ []) ∷ (2 ∷ 0 ∷ 0 ∷ 32 ∷ 64 ∷ []) ∷ (2 ∷ 0 ∷ 0 ∷ 32 ∷ 64 ∷ 0 ∷ []) ∷ (3 ∷ []) ∷ (3 ∷ 0 ∷ []) ∷ (2 ∷ 0 ∷ 0 ∷ 192 ∷ 127 ∷ []) ∷ (1 ∷ 0 ∷ 0 ∷ 128 ∷ 127 ∷ 0 ∷ []) ∷ []) ≡ refused 1 ∷ refused 2 ∷ refused 2 ∷ refused 1 ∷ accepted 2500 ∷ accepted 2 ∷ refused 8 ∷ accepted 4294967295 ∷ refused 8 ∷ refused 26 ∷ refused 8 ∷ []
unfolding meter_outcome meter_causes reading_in within number reading_causes day_said nearest_litre is_no_flow is_too_large near of_bits of_fields odd count_trailing_zeros
bytes = refl
