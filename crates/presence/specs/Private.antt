-- What the private functions promise each other. No promise of a public call cites these definitions.
use Rattle.std.specs.Prelude.{ℕ, Bool, false, ◌||◌, List, [], ◌∷◌, ltb}
use Rattle.series.specs.Units.{flow_limit}

-- some number is above the largest flow
unfoldable pub any_above : (flows : List ℕ) → Bool
any_above [] = false
any_above (flow ∷ flows) = ltb flow_limit flow || any_above flows
