-- What the private functions ask and promise. No promise of the public call speaks of these definitions.
use Rattle.std.specs.Prelude.{ℕ, ◌+◌, ◌*◌, ◌≡◌, ◌≤◌, ◌<◌, min, false, List, length, get_or, take, Option, Some, None}
use Rattle.numbers.specs.Near.{near}
use Rattle.series.specs.Causes.{Cause}
use Rattle.bfimax.specs.Call.{no_spell, bfimax_causes, spell_of}

-- the place of the first of the D days that end on the last day, where they are a spell of the list
pub record SpellFrom (last D : ℕ) (days : List ℕ) (start : ℕ) : Type 0 where
  pub found : no_spell last D days ≡ false
  pub begins : start + D ≡ last + 1
  pub listed : last < length days

-- flows of a spell: none above the largest, and no more of them than a spell may have
pub record Flows (flows : List ℕ) : Type 0 where
  pub few : length flows ≤ 3650
  pub small : (i : ℕ) → get_or flows i 0 ≤ 10000000

-- the value of a day of flow y, from that of the following day, if there is one
unfoldable pub value_before : (p y : ℕ) → (following : Option ℕ) → ℕ
value_before p y None = 1000 * y
value_before p y (Some v) = min (1000 * y) (near (10000 * v) p)

-- the causes that are tested before the spell is looked for
abbrev pub first_causes : (duration p : ℕ) → (days base : List ℕ) → List Cause
first_causes duration p days base = take 5 (bfimax_causes (spell_of 0 duration p) days base)
