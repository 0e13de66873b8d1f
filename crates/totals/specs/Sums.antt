-- Totals and index (document 01, "Totals and index"), over the days with a base value, in any arithmetic.
use Rattle.std.specs.Prelude.{ℕ, ◌+◌, ◌*◌, List, [], ◌∷◌}
use Rattle.std.proofs.Math.Option.{Option, none, some}
use Rattle.numbers.specs.Arithmetic.{Arithmetic}

-- a day with a base value: its flow, in litres a second, and its base
pub record BaseDay (N : Type 0) : Type 0 where
  pub flow : ℕ
  pub base : N

-- the days with a base value, of a day list and a base list
unfoldable pub base_days : {N : Type 0} → List (Option ℕ) → List (Option N) → List (BaseDay N)
base_days [] bs = []
base_days (d ∷ ds) [] = []
base_days (d ∷ ds) (none ∷ bs) = base_days ds bs
base_days (none ∷ ds) (some b ∷ bs) = base_days ds bs
base_days (some y ∷ ds) (some b ∷ bs) = record { flow = y; base = b } ∷ base_days ds bs

-- Y: the flow total
unfoldable pub flow_total : {N : Type 0} → List (BaseDay N) → ℕ
flow_total [] = 0
flow_total (d ∷ ds) = d.flow + flow_total ds

module _ (S : Arithmetic) where
  -- T: the base total
  unfoldable pub base_total : List (BaseDay S.Number) → S.Number
  base_total [] = S.number 0
  base_total (d ∷ ds) = S.sum d.base (base_total ds)

  -- the quick total: 1000 × Y - T
  unfoldable pub quick_total : List (BaseDay S.Number) → S.Number
  unfolding base_total
  quick_total ds = S.difference (S.number (1000 * flow_total ds)) (base_total ds)

  -- the index: near(10 × T / Y), in ten-thousandths
  unfoldable pub index : List (BaseDay S.Number) → S.Number
  unfolding base_total
  index ds = S.quotient (S.multiple 10 (base_total ds)) (flow_total ds)
