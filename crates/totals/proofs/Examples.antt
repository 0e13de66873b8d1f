-- Lists whose totals the checker computes: with gaps, and one for each refusal of a base list.
-- Assumes nothing.
use Prim.Native.Nat.{ℕ}
use mathlib.Core.Path.{◌≡◌, refl}
use mathlib.Core.List.{List, [], ◌∷◌, map}
use Rattle.numbers.specs.Near.{near}
use Rattle.series.specs.Units.{is_invalid_day, day_of, base_of}
use Rattle.series.specs.Lists.{too_long, lengths_differ, any_invalid_day, is_invalid_base, any_invalid_base}
use Rattle.series.specs.Causes.{Outcome, accepted, refused}
use Rattle.totals.specs.declared.Totals.{Totals}
use Rattle.totals.specs.Sums.{base_days, flow_total, base_total, quick_total, index}
use Rattle.totals.specs.Call.{no_flow, totals_causes, totals_of, totals_outcome}

-- two lists in memory, and the answer
record Lists : Type 0 where
  days : List ℕ
  base : List ℕ
  answer : Outcome Totals

abbrev values : (m Y T quick index : ℕ) → Outcome Totals
values m Y T quick index = accepted (record { days = m; flow = Y; base = T; quick = quick; index = index })

-- a missing day, and no base value
abbrev gap : ℕ
gap = 4294967295

abbrev nil : ℕ
nil = 18446744073709551615

abbrev lists : List Lists
lists =
    -- the days of the program's example, and the same without their gap
    record { days = 100 ∷ 200 ∷ gap ∷ 50 ∷ []; base = 50000 ∷ 57500 ∷ nil ∷ 25000 ∷ []; answer = values 3 350 132500 217500 3786 }
    ∷ record { days = 100 ∷ 200 ∷ 50 ∷ []; base = 50000 ∷ 57500 ∷ 25000 ∷ []; answer = values 3 350 132500 217500 3786 }
    -- present days without a base value count with nothing, the first, the last or between others
    ∷ record { days = 900 ∷ 10 ∷ 30 ∷ 20 ∷ 900 ∷ []; base = nil ∷ 5000 ∷ nil ∷ 10000 ∷ nil ∷ []; answer = values 2 30 15000 15000 5000 }
    -- a base value of 0 counts, and so does a dry day's
    ∷ record { days = 10 ∷ 0 ∷ gap ∷ 30 ∷ []; base = 0 ∷ 0 ∷ nil ∷ 10000 ∷ []; answer = values 3 40 10000 30000 2500 }
    -- base all of the flow, and none of it
    ∷ record { days = 7 ∷ 8 ∷ []; base = 7000 ∷ 8000 ∷ []; answer = values 2 15 15000 0 10000 }
    ∷ record { days = 7 ∷ 8 ∷ []; base = 0 ∷ 0 ∷ []; answer = values 2 15 0 15000 0 }
    -- half a ten-thousandth goes to the even one
    ∷ record { days = 20 ∷ []; base = 1 ∷ []; answer = values 1 20 1 19999 0 }
    ∷ record { days = 20 ∷ []; base = 3 ∷ []; answer = values 1 20 3 19997 2 }
    ∷ record { days = 21 ∷ []; base = 1 ∷ []; answer = values 1 21 1 20999 0 }
    -- 20: a base value on a missing day, be it 0
    ∷ record { days = 10 ∷ gap ∷ []; base = 5000 ∷ 5000 ∷ []; answer = refused 20 }
    ∷ record { days = 10 ∷ gap ∷ []; base = 5000 ∷ 0 ∷ []; answer = refused 20 }
    -- 20: one thousandth above the flow, though the totals would not show it
    ∷ record { days = 10 ∷ 10 ∷ []; base = 0 ∷ 10000 ∷ []; answer = values 2 20 10000 10000 5000 }
    ∷ record { days = 10 ∷ 10 ∷ []; base = 0 ∷ 10001 ∷ []; answer = refused 20 }
    -- 21: dry days alone, flow on days without a base value alone, missing days alone, no days
    ∷ record { days = 0 ∷ 0 ∷ []; base = 0 ∷ 0 ∷ []; answer = refused 21 }
    ∷ record { days = 10 ∷ 0 ∷ []; base = nil ∷ 0 ∷ []; answer = refused 21 }
    ∷ record { days = 10 ∷ 20 ∷ []; base = nil ∷ nil ∷ []; answer = refused 21 }
    ∷ record { days = gap ∷ gap ∷ []; base = nil ∷ nil ∷ []; answer = refused 21 }
    ∷ record { days = []; base = []; answer = refused 21 }
    -- 20 before 21, 10 before 20, 14 before 10
    ∷ record { days = 0 ∷ gap ∷ []; base = 1 ∷ nil ∷ []; answer = refused 20 }
    ∷ record { days = 0 ∷ 10000001 ∷ []; base = 1 ∷ nil ∷ []; answer = refused 10 }
    ∷ record { days = 10000001 ∷ []; base = []; answer = refused 14 }
    ∷ []

answers : map (λ l. totals_outcome l.days l.base) lists ≡ map (λ l. l.answer) lists
unfolding totals_outcome totals_causes too_long lengths_differ any_invalid_day is_invalid_day is_invalid_base any_invalid_base no_flow day_of base_of totals_of base_days flow_total base_total quick_total index near
answers = refl
