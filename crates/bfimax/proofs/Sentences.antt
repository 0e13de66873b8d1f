-- READ THIS FIRST: what docs/RULES.md says of BFImax, proved of the definitions in specs/.
-- Assumes nothing.
use Prim.Native.Nat.{ℕ, zero, suc, ◌*◌, ◌≤◌, ◌<◌}
use mathlib.Core.Path.{◌≡◌, refl}
use mathlib.Core.List.{List, [], ◌∷◌}
use native.Mathlib.Omega.{arith}
use lib.ListN.{length, get_or, drop}
use Rattle.numbers.specs.Arithmetic.{Arithmetic, rounded}
use Rattle.bfimax.specs.Rule.{flow_total, value, values, bfimax}
use Rattle.bfimax.specs.Distance.{SpellWithin}
use Rattle.bfimax.proofs.Spells.{answer_small}
use Rattle.bfimax.proofs.Stretch.{spell_within}

module _ (S : Arithmetic) (p : ℕ) where
  -- on the last day the value is 1000 × y
  pub on_the_last_day : (y : ℕ) → value S p y [] ≡ S.number (1000 * y)
  unfolding value
  on_the_last_day y = refl

  -- on a day before it, of flow y, the smaller of 1000 × y and near(10000 × v / p), v being the value of the following day
  pub on_a_day_before : (y z : ℕ) (zs : List ℕ) → value S p y (z ∷ zs) ≡ S.least (S.number (1000 * y)) (S.quotient (S.multiple 10000 (value S p z zs)) p)
  unfolding value
  on_a_day_before y z zs = refl

  -- and the list of values has on each day its value, from the flows of that day and those behind it
  pub on_day_lem : (flows : List ℕ) (i : ℕ) (none_there : S.Number) → i < length flows → get_or (values S p flows) i none_there ≡ value S p (get_or flows i 0) (drop (suc i) flows)
  unfolding values
  on_day_lem [] i d h = absurd (omega arith)
  on_day_lem (y ∷ ys) zero d h = refl
  on_day_lem (y ∷ ys) (suc i) d h = on_day_lem ys i d (omega arith)

-- the promise on error holds of every p above 0 and every list of flows
pub error : (p : ℕ) → 0 < p → (flows : List ℕ) → SpellWithin p flows
error p h flows = spell_within p h flows

-- an answer is at most 10000
pub at_most_10000 : (p : ℕ) (flows : List ℕ) → 0 < flow_total flows → bfimax rounded p flows ≤ 10000
at_most_10000 p flows h = answer_small p flows h
