-- Spells computed by the checker: three by hand, and one for each edge of the rules.
-- Assumes nothing.
use Prim.Native.Nat.{ℕ}
use mathlib.Core.Path.{◌≡◌, refl}
use mathlib.Core.List.{List, [], ◌∷◌, map}
use Rattle.numbers.specs.Near.{near}
use Rattle.series.specs.Units.{missing_mark, no_value_mark, is_missing, is_invalid_day, within}
use Rattle.series.specs.Lists.{too_long, lengths_differ, any_invalid_day}
use Rattle.series.specs.Causes.{Outcome, accepted, refused, leaves}
use Rattle.bfimax.specs.Rule.{flow_total, value, values, value_total, bfimax}
use Rattle.bfimax.specs.Call.{Spell, spell_of, spell, any_missing, no_spell, no_flow, bfimax_causes, bfimax_outcome, spell_list, bfimax_leaves}

-- a river: last day, D and p, the days, the base list; the answer, and the base list at exit
record River : Type 0 where
  given : Spell
  days : List ℕ
  base : List ℕ
  answer : Outcome ℕ
  exit : List ℕ

abbrev gap : ℕ
gap = missing_mark

abbrev none : ℕ
none = no_value_mark

abbrev sevens : List ℕ
sevens = 7 ∷ 7 ∷ 7 ∷ 7 ∷ []

abbrev rivers : List River
rivers =
    -- 1000 × y binds in the middle
    record { given = spell_of 4 5 9000; days = 30 ∷ 12 ∷ 10 ∷ 20 ∷ 9 ∷ []; base = 7 ∷ 7 ∷ 7 ∷ 7 ∷ 7 ∷ []; answer = accepted 6476; exit = 12346 ∷ 11111 ∷ 10000 ∷ 10000 ∷ 9000 ∷ [] }
    -- it never binds; days outside the spell have no value
    ∷ record { given = spell_of 4 4 9500; days = 7 ∷ 100 ∷ 80 ∷ 50 ∷ 30 ∷ gap ∷ []; base = 7 ∷ 7 ∷ 7 ∷ 7 ∷ 7 ∷ 7 ∷ []; answer = accepted 4993; exit = none ∷ 34991 ∷ 33241 ∷ 31579 ∷ 30000 ∷ none ∷ [] }
    -- Y 0, and with one day more an answer of 0
    ∷ record { given = spell_of 2 2 9500; days = 5 ∷ 0 ∷ 0 ∷ 7 ∷ []; base = sevens; answer = refused 21; exit = sevens }
    ∷ record { given = spell_of 2 3 9500; days = 5 ∷ 0 ∷ 0 ∷ 7 ∷ []; base = sevens; answer = accepted 0; exit = 0 ∷ 0 ∷ 0 ∷ none ∷ [] }
    -- a half: 10000 × 1000 / 6400 is 1562.5, and 1562 is even
    ∷ record { given = spell_of 1 2 6400; days = 2 ∷ 1 ∷ []; base = 7 ∷ 7 ∷ []; answer = accepted 8540; exit = 1562 ∷ 1000 ∷ [] }
    -- all flow: 10000
    ∷ record { given = spell_of 1 2 5000; days = 1 ∷ 1 ∷ []; base = 7 ∷ 7 ∷ []; answer = accepted 10000; exit = 1000 ∷ 1000 ∷ [] }
    -- 24: the last day is not in the list; the first lies before it; a day is missing; and 10 comes before it
    ∷ record { given = spell_of 4 2 9500; days = 5 ∷ 4 ∷ 3 ∷ 2 ∷ []; base = sevens; answer = refused 24; exit = sevens }
    ∷ record { given = spell_of 0 2 9500; days = 5 ∷ 4 ∷ 3 ∷ 2 ∷ []; base = sevens; answer = refused 24; exit = sevens }
    ∷ record { given = spell_of 3 3 9500; days = 5 ∷ 4 ∷ gap ∷ 2 ∷ []; base = sevens; answer = refused 24; exit = sevens }
    ∷ record { given = spell_of 3 3 9500; days = 10000001 ∷ 4 ∷ gap ∷ 2 ∷ []; base = sevens; answer = refused 10; exit = sevens }
    -- 12, 23, 14, in their order
    ∷ record { given = spell_of 3 1 10000; days = 5 ∷ 4 ∷ 3 ∷ 2 ∷ []; base = []; answer = refused 12; exit = [] }
    ∷ record { given = spell_of 3 1 9999; days = 5 ∷ 4 ∷ 3 ∷ 2 ∷ []; base = []; answer = refused 23; exit = [] }
    ∷ record { given = spell_of 3 3651 9999; days = 5 ∷ 4 ∷ 3 ∷ 2 ∷ []; base = []; answer = refused 23; exit = [] }
    ∷ record { given = spell_of 3 3650 9999; days = 5 ∷ 4 ∷ 3 ∷ 2 ∷ []; base = []; answer = refused 14; exit = [] }
    ∷ []

pub answers : map (λ r. bfimax_outcome r.given r.days r.base) rivers ≡ map (λ r. r.answer) rivers
unfolding bfimax_outcome bfimax_causes within too_long lengths_differ any_invalid_day is_invalid_day no_spell spell any_missing is_missing no_flow flow_total bfimax value_total values value near
answers = refl

pub lists : map (λ r. bfimax_leaves r.given r.days r.base) rivers ≡ map (λ r. r.exit) rivers
unfolding bfimax_leaves leaves spell_list bfimax_causes within too_long lengths_differ any_invalid_day is_invalid_day no_spell spell any_missing is_missing no_flow flow_total bfimax value_total values value near
lists = refl
