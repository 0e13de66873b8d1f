-- A meter's reading as a day (docs/RULES.md, "Meter"). A float is one of the library's account of IEEE 754: no number (`nan`),
-- an infinity (`inf`), or `fin s m e`, which is m × 2^e, negative where s is true. That number is the float's exact value; as a
-- fraction it is `num` / `den`. (`Bits` says it of the bits.)
use Rattle.std.specs.Prelude.{ℕ, ◌*◌, Bool, true, ◌&&◌, not, List, [], ◌∷◌, ltb, eqb}
use Rattle.std.specs.Float.Ieee.{Float, nan, inf, fin}
use lib.Ieee.Positive.{num, den}
use Rattle.numbers.specs.Near.{near}
use Rattle.series.specs.Units.{flow_limit, missing_mark}
use Rattle.series.specs.Causes.{Cause, cause}
use Rattle.meter.specs.declared.Reading.{Reading}
use Rattle.meter.specs.declared.Reading.TheVariants.{CubicMetres, Litres, NoReading}

-- the nearest litre to a float's exact value, in units of so many litres a second
unfoldable pub nearest_litre : (unit : ℕ) → Float → ℕ
nearest_litre unit x = near (unit * num x) (den x)

-- 26: it is not finite, or below zero. (Zero with a sign is not below zero.)
unfoldable pub is_no_flow : Float → Bool
is_no_flow nan = true
is_no_flow (inf s) = true
is_no_flow (fin s m e) = s && not (eqb m 0)

-- 27: the result is above the largest flow
unfoldable pub is_too_large : (unit : ℕ) → Float → Bool
unfolding nearest_litre
is_too_large unit x = ltb flow_limit (nearest_litre unit x)

-- the causes that refuse a float, and those of a reading
abbrev pub float_causes : (unit : ℕ) → Float → List Cause
float_causes unit x = cause (is_no_flow x) 26 ∷ cause (is_too_large unit x) 27 ∷ []

unfoldable pub reading_causes : Reading → List Cause
reading_causes (CubicMetres x) = float_causes 1000 x
reading_causes (Litres x) = float_causes 1 x
reading_causes NoReading = []

-- the day that a reading says, as it stands in a day list
unfoldable pub day_said : Reading → ℕ
day_said (CubicMetres x) = nearest_litre 1000 x
day_said (Litres x) = nearest_litre 1 x
day_said NoReading = missing_mark
