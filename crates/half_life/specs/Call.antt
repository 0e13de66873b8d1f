-- The half-life call: its one cause of refusal, and what it answers.
use Rattle.std.specs.Prelude.{ℕ, not, List, [], ◌∷◌}
use Rattle.series.specs.Units.{within}
use Rattle.series.specs.Causes.{Cause, cause, Outcome, accepted, refused, outcome}
use Rattle.half_life.specs.Rule.{half_life, HalfLife}

-- order: half-life 12; p is 1 to 999 thousandths
unfoldable pub half_life_causes : (p : ℕ) → List Cause
half_life_causes p = cause (not (within 1 999 p)) 12 ∷ []

-- the answer: the number of days
unfoldable pub half_life_outcome : (p : ℕ) → Outcome ℕ
half_life_outcome p = outcome (half_life_causes p) (half_life p)

-- what an accepted call promises of the number that it answers
abbrev pub Promised : Outcome ℕ → (p : ℕ) → Type 0
Promised (accepted n) p = HalfLife p n
Promised (refused n) p = Unit {0}
