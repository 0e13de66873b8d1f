-- The two calls: the day of a reading, and that of the bytes that a meter sends.
use Rattle.std.specs.Prelude.{ℕ, true, cond, not, List, [], ◌∷◌, length, eqb, ltb}
use Rattle.std.specs.Float.Ieee.{binary32, of_bits}
use Rattle.series.specs.Units.{within, number}
use Rattle.series.specs.Causes.{Cause, cause, Outcome, outcome}
use Rattle.meter.specs.declared.Reading.{Reading}
use Rattle.meter.specs.declared.Reading.TheVariants.{CubicMetres, Litres, NoReading}
use Rattle.meter.specs.Rule.{reading_causes, day_said}

-- the answer over a reading: its day, or the refusal
unfoldable pub reading_outcome : Reading → Outcome ℕ
unfolding reading_causes day_said
reading_outcome r = outcome (reading_causes r) (day_said r)

-- Bytes are a kind and its body: of kind 01 and 02 a float, whose bits are a number of four bytes, of kind 03 nothing.
abbrev pub body_length : (kind : ℕ) → ℕ
body_length kind = cond (eqb kind 3) 0 4

-- the reading in bytes that have such a kind and such a body
unfoldable pub reading_in : (bytes : List ℕ) → Reading
reading_in [] = NoReading
reading_in (kind ∷ body) =
    let float = of_bits binary32 (number body) in
    cond (eqb kind 1) (CubicMetres float) (cond (eqb kind 2) (Litres float) NoReading)

-- order: meter 1 (no bytes), 2, 1 (a body cut short), 8, 26, 27
unfoldable pub meter_causes : (bytes : List ℕ) → List Cause
unfolding reading_causes reading_in
meter_causes [] = cause true 1 ∷ []
meter_causes (kind ∷ body) =
    cause (not (within 1 3 kind)) 2
    ∷ cause (ltb (length body) (body_length kind)) 1
    ∷ cause (ltb (body_length kind) (length body)) 8
    ∷ reading_causes (reading_in (kind ∷ body))

-- the answer over bytes: the day of their reading, or the refusal
unfoldable pub meter_outcome : (bytes : List ℕ) → Outcome ℕ
unfolding meter_causes reading_in day_said
meter_outcome bytes = outcome (meter_causes bytes) (day_said (reading_in bytes))
