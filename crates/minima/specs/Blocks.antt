-- Blocks and their minima (document 01, "Block-minima line"), on the flows of one segment. Days count from the segment's
-- first, which is 0, and so do blocks. `Blocks` is the record of the blocks' length N, the factor g of their turning
-- points, and the day of a segment from which its blocks run; a segment that ends before that day has no block.
use Rattle.std.specs.Prelude.{ℕ, suc, ◌+◌, ◌*◌, ◌-◌, ◌/◌, ◌≤◌, ◌<◌, min, cond, List, [], ◌∷◌, length, get_or, take, drop, eqb}
use Rattle.minima.specs.declared.block.Blocks.{Blocks}

-- y(t)
abbrev pub flow_on : List ℕ → (t : ℕ) → ℕ
flow_on flows t = get_or flows t 0

-- the first day of block k
unfoldable pub block_start : Blocks → (k : ℕ) → ℕ
block_start B k = B.origin + k * B.days

-- the number of blocks; an incomplete last one is dropped
unfoldable pub block_count : Blocks → List ℕ → ℕ
block_count B flows = (length flows - B.origin) / B.days

-- the flows of block k
unfoldable pub block : Blocks → List ℕ → (k : ℕ) → List ℕ
block B flows k = take B.days (drop (block_start B k) flows)

-- the lowest flow of a block (0 where there is none)
unfoldable pub lowest : List ℕ → ℕ
lowest [] = 0
lowest (y ∷ []) = y
lowest (y ∷ z ∷ zs) = min y (lowest (z ∷ zs))

-- the earliest position of the flow y
unfoldable pub earliest : (y : ℕ) → List ℕ → ℕ
earliest y [] = 0
earliest y (x ∷ xs) = cond (eqb x y) 0 (suc (earliest y xs))

-- a block's minimum: its lowest flow ..
unfoldable pub minimum_flow : Blocks → List ℕ → (k : ℕ) → ℕ
minimum_flow B flows k = lowest (block B flows k)

-- .. on the earliest such day
unfoldable pub minimum_day : Blocks → List ℕ → (k : ℕ) → ℕ
minimum_day B flows k = block_start B k + earliest (minimum_flow B flows k) (block B flows k)

-- what a minimum is: of the days from a to before b, d has the lowest flow, and no earlier day has it
pub record Minimum (flows : List ℕ) (a b d : ℕ) : Type 0 where
  pub from : a ≤ d
  pub to : d < b
  pub lowest_flow : (t : ℕ) → a ≤ t → t < b → flow_on flows d ≤ flow_on flows t
  pub earliest_day : (t : ℕ) → a ≤ t → t < d → flow_on flows d < flow_on flows t
