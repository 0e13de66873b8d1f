-- What the private functions promise each other. No promise of a public call cites these definitions.
use Rattle.std.specs.Prelude.{ℕ, List, ◌∷◌, length, ltb}
use Rattle.std.specs.Float.Ieee.{Float, binary32, of_bits}
use Rattle.series.specs.Units.{number}
use Rattle.series.specs.Causes.{cause, Outcome, outcome}
use Rattle.meter.specs.Rule.{float_causes, nearest_litre}

-- the answer over a float in units of so many litres a second
unfoldable pub float_outcome : (unit : ℕ) → Float → Outcome ℕ
float_outcome unit x = outcome (float_causes unit x) (nearest_litre unit x)

-- the answer over a body that has to be such a float
unfoldable pub body_outcome : (unit : ℕ) (body : List ℕ) → Outcome ℕ
unfolding float_outcome
body_outcome unit body =
    outcome
    (cause (ltb (length body) 4) 1 ∷ cause (ltb 4 (length body)) 8 ∷ float_causes unit (of_bits binary32 (number body)))
    (nearest_litre unit (of_bits binary32 (number body)))
