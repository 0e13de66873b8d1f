-- The BFImax call: the spell that it takes, its order of refusals, what it answers and the base list that it leaves.
use Rattle.std.specs.Prelude.{ℕ, suc, ◌-◌, Bool, false, not, ◌||◌, List, [], ◌∷◌, length, take, drop, replicate, ltb, leb, eqb}
use Rattle.numbers.specs.Lists.{stored}
use Rattle.numbers.specs.Arithmetic.{rounded}
use Rattle.series.specs.Units.{no_value_mark, is_missing, within}
use Rattle.series.specs.Lists.{too_long, lengths_differ, any_invalid_day}
use Rattle.series.specs.Causes.{Cause, cause, Outcome, accepted, refused, outcome, leaves}
use Rattle.bfimax.specs.Rule.{flow_total, values, bfimax}
use Rattle.bfimax.specs.Distance.{SpellWithin}

-- the position of the first of D days that end on the last day, and these days
abbrev pub spell_start : (last D : ℕ) → ℕ
spell_start last D = suc last - D

unfoldable pub spell : (last D : ℕ) → List ℕ → List ℕ
spell last D days = take D (drop (spell_start last D) days)

unfoldable pub any_missing : List ℕ → Bool
any_missing [] = false
any_missing (d ∷ ds) = is_missing d || any_missing ds

-- 24: the last day is not in the list, or one of the D days lies before the list or is missing
unfoldable pub no_spell : (last D : ℕ) → List ℕ → Bool
unfolding spell any_missing
no_spell last D days = leb (length days) last || (ltb (suc last) D || any_missing (spell last D days))

-- 21: Y is 0
unfoldable pub no_flow : List ℕ → Bool
no_flow flows = eqb (flow_total flows) 0

-- what the call is given: the place of the last day, D and p
pub record Spell : Type 0 where
  pub last : ℕ
  pub duration : ℕ
  pub p : ℕ

abbrev pub spell_of : (last duration p : ℕ) → Spell
spell_of last duration p = record { last = last; duration = duration; p = p }

abbrev pub flows_of : Spell → List ℕ → List ℕ
flows_of s days = spell s.last s.duration days

-- order: BFImax 12, 23, 9, 14, 10, 24, 21
unfoldable pub bfimax_causes : Spell → (days base : List ℕ) → List Cause
bfimax_causes s days base =
    cause (not (within 1 9999 s.p)) 12
    ∷ cause (not (within 2 3650 s.duration)) 23
    ∷ cause (too_long days) 9
    ∷ cause (lengths_differ days base) 14
    ∷ cause (any_invalid_day days) 10
    ∷ cause (no_spell s.last s.duration days) 24
    ∷ cause (no_flow (flows_of s days)) 21
    ∷ []

-- the answer, in ten-thousandths
unfoldable pub bfimax_outcome : Spell → (days base : List ℕ) → Outcome ℕ
bfimax_outcome s days base = outcome (bfimax_causes s days base) (bfimax rounded s.p (flows_of s days))

-- the base list in memory after an accepted call: the values on the days of the spell, and no value on any other
unfoldable pub spell_list : Spell → (days : List ℕ) → List ℕ
spell_list s days = stored (replicate (length days) no_value_mark) (spell_start s.last s.duration) (values rounded s.p (flows_of s days))

-- the base list at exit: that, or as it was after a refusal
unfoldable pub bfimax_leaves : Spell → (days base : List ℕ) → List ℕ
bfimax_leaves s days base = leaves (bfimax_causes s days base) (spell_list s days) base

-- what an accepted call promises of its values beside those of the exact run
abbrev pub Promised : Outcome ℕ → (p : ℕ) → List ℕ → Type 0
Promised (accepted q) p flows = SpellWithin p flows
Promised (refused n) p flows = Unit {0}
