-- Turning points (document 01, "Block-minima line"), on the flows of one segment.
use Rattle.std.specs.Prelude.{ℕ, zero, suc, ◌+◌, ◌*◌, ◌-◌, ◌<◌, ◌≡◌, Bool, true, ◌&&◌, ◌||◌, List, [], ◌∷◌, map, ltb, eqb}
use Rattle.numbers.specs.Lists.{selected}
use Rattle.minima.specs.declared.block.Blocks.{Blocks}
use Rattle.minima.specs.Blocks.{block_count, minimum_flow, minimum_day}

-- a dry block's minimum, 0, turns beside any neighbours; any other where g times it is below 10000 times either neighbour
unfoldable pub turns : (g left middle right : ℕ) → Bool
turns g left middle right = eqb middle 0 || (ltb (g * middle) (10000 * left) && ltb (g * middle) (10000 * right))

-- the same of the minima of three neighbouring blocks: k, k + 1 and k + 2
unfoldable pub middle_turns : Blocks → List ℕ → (k : ℕ) → Bool
middle_turns B flows k =
    turns B.factor (minimum_flow B flows k) (minimum_flow B flows (suc k)) (minimum_flow B flows (suc (suc k)))

-- document 01's sentence: on day d lies the middle minimum of three neighbouring blocks, and it turns
pub record TurningPoint (B : Blocks) (flows : List ℕ) (d : ℕ) : Type 0 where
  pub first : ℕ
  pub three : first + 2 < block_count B flows
  pub turning : middle_turns B flows first ≡ true
  pub middle : d ≡ minimum_day B flows (suc first)

-- turning points at i and j with none between them
pub record Neighbouring (B : Blocks) (flows : List ℕ) (i j : ℕ) : Type 0 where
  pub left : TurningPoint B flows i
  pub right : TurningPoint B flows j
  pub in_order : i < j
  pub none_between : (d : ℕ) → TurningPoint B flows d → i < d → d < j → ⊥

-- a segment with two turning points
pub record TwoTurningPoints (B : Blocks) (flows : List ℕ) : Type 0 where
  pub i : ℕ
  pub j : ℕ
  pub left : TurningPoint B flows i
  pub right : TurningPoint B flows j
  pub in_order : i < j

-- n numbers from k on
unfoldable pub counting : (k n : ℕ) → List ℕ
counting k zero = []
counting k (suc n) = k ∷ counting (suc k) n

-- the days of a segment's turning points, one after the other
unfoldable pub turning_points : Blocks → List ℕ → List ℕ
turning_points B flows =
    map (λ k. minimum_day B flows (suc k)) (selected (middle_turns B flows) (counting 0 (block_count B flows - 2)))

-- each element of a list with the one after it
unfoldable pub neighbours : {A : Type 0} → List A → List (A × A)
neighbours [] = []
neighbours (x ∷ []) = []
neighbours (x ∷ y ∷ ys) = (x, y) ∷ neighbours (y ∷ ys)
