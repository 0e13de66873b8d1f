-- The line between turning points (document 01, "Block-minima line"), in any arithmetic: over `rounded` the rounded
-- line, over `exact` the exact line.
use Rattle.std.specs.Prelude.{ℕ, ◌+◌, ◌*◌, ◌-◌, cond, ◌&&◌, List, [], ◌∷◌, map, length, leb}
use Rattle.std.proofs.Math.Option.{Option, none, some}
use Rattle.numbers.specs.Arithmetic.{Arithmetic}
use Rattle.series.specs.Segments.{over_segments}
use Rattle.minima.specs.declared.block.Blocks.{Blocks}
use Rattle.minima.specs.Blocks.{flow_on}
use Rattle.minima.specs.TurningPoints.{counting, turning_points, neighbours}

-- near(1000 × (y(i) × (j - t) + y(j) × (t - i)) / (j - i))
unfoldable pub straight : (S : Arithmetic) → List ℕ → (i j t : ℕ) → S.Number
straight S flows i j t = S.quotient (S.number (1000 * (flow_on flows i * (j - t) + flow_on flows j * (t - i)))) (j - i)

-- the value of day t between turning points on days i and j: that, or 1000 × y(t) where the flow is lower
unfoldable pub between : (S : Arithmetic) → List ℕ → (i j t : ℕ) → S.Number
between S flows i j t = S.least (S.number (1000 * flow_on flows t)) (straight S flows i j t)

-- day t's value by the first of these pairs of neighbours that it lies between, their own days included; all other days
-- have none
unfoldable pub line_on : (S : Arithmetic) → List ℕ → List (ℕ × ℕ) → (t : ℕ) → Option S.Number
line_on S flows [] t = none
line_on S flows ((i, j) ∷ pairs) t =
    cond (leb i t && leb t j) (some (between S flows i j t)) (line_on S flows pairs t)

module _ (S : Arithmetic) (B : Blocks) where
  -- the line of one segment, day by day
  unfoldable pub line : List ℕ → List (Option S.Number)
  line flows = map (line_on S flows (neighbours (turning_points B flows))) (counting 0 (length flows))

  -- each segment has its own; missing days have no value
  unfoldable pub line_over : List (Option ℕ) → List (Option S.Number)
  line_over days = over_segments line days
