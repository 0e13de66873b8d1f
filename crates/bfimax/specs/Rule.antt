-- BFImax of a dry spell (docs/RULES.md, "BFImax"): base flow by a filter that runs backwards from the spell's last day, in
-- any arithmetic. The rounded run and the exact run are its two readings.
use Rattle.std.specs.Prelude.{ℕ, ◌+◌, ◌*◌}
use mathlib.Core.List.{List, [], ◌∷◌}
use Rattle.numbers.specs.Arithmetic.{Arithmetic}

-- Y: the flow total
unfoldable pub flow_total : List ℕ → ℕ
flow_total [] = 0
flow_total (y ∷ ys) = y + flow_total ys

module _ (S : Arithmetic) (p : ℕ) where
  -- the value of a day of flow y, from the flows of the days behind it: on the last day 1000 × y, and on a day before it the
  -- smaller of 1000 × y and near(10000 × v / p), v being the following day's value
  unfoldable pub value : (y : ℕ) → (behind : List ℕ) → S.Number
  value y [] = S.number (1000 * y)
  value y (z ∷ zs) = S.least (S.number (1000 * y)) (S.quotient (S.multiple 10000 (value z zs)) p)

  -- that of each day of the spell
  unfoldable pub values : List ℕ → List S.Number
  unfolding value
  values [] = []
  values (y ∷ ys) = value y ys ∷ values ys

-- their sum
unfoldable pub value_total : (S : Arithmetic) → List S.Number → S.Number
value_total S [] = S.number 0
value_total S (v ∷ vs) = S.sum v (value_total S vs)

-- the answer, in ten-thousandths: near(10 × sum / Y)
unfoldable pub bfimax : (S : Arithmetic) → (p : ℕ) → List ℕ → S.Number
unfolding values value_total flow_total
bfimax S p flows = S.quotient (S.multiple 10 (value_total S (values S p flows))) (flow_total flows)
