-- Rivers computed by the checker, one for each edge of the rules. Document 01's own rivers (◆) stand in the crate worked.
-- Assumes nothing.
use Prim.Native.Nat.{ℕ}
use mathlib.Core.Path.{◌≡◌, refl}
use mathlib.Core.List.{List, [], ◌∷◌, map}
use Rattle.numbers.specs.Near.{near}
use Rattle.numbers.specs.Lists.{selected}
use Rattle.numbers.specs.Order.{insert_rising, rising, at_rank}
use Rattle.series.specs.Units.{missing_mark, no_value_mark, is_invalid_day, day_of, base_of, within}
use Rattle.series.specs.Lists.{too_long, lengths_differ, any_invalid_day, is_invalid_base, any_invalid_base}
use Rattle.series.specs.Causes.{Outcome, accepted, refused, leaves}
use Rattle.series.specs.Runs.{joined, further, runs_from}
use Rattle.recession.specs.declared.Statistics.{Statistics}
use Rattle.recession.specs.Limbs.{at_base, limb_day, limb_days, has_at_least, limbs, counted, precedes, longest_first, entries}
use Rattle.recession.specs.Ratios.{pair_ratios, limb_ratios, median}
use Rattle.recession.specs.Call.{no_ratio, limb_list_too_short, counted_limbs, counted_ratios, ratio_causes, ratio_outcome, listed_limbs, ratio_leaves}

-- a river: L, the days, their base values, the limb list; the answer, and the limb list at exit
record River : Type 0 where
  L : ℕ
  days : List ℕ
  base : List ℕ
  list : List ℕ
  answer : Outcome Statistics
  exit : List ℕ

abbrev values : ℕ → ℕ → Outcome Statistics
values k r = accepted (record { count = k; median = r })

-- room for two limbs
abbrev room : List ℕ
room = 7 ∷ 7 ∷ 7 ∷ 7 ∷ []

-- and for three, with one number more
abbrev room6 : List ℕ
room6 = 7 ∷ 7 ∷ 7 ∷ 7 ∷ 7 ∷ 7 ∷ 7 ∷ []

abbrev gap : ℕ
gap = missing_mark

abbrev no_value : ℕ
no_value = no_value_mark

abbrev rivers : List River
rivers =
    -- the ratios in no order; k odd, and k even: the lower of the two in the middle
    record { L = 2; days = 100 ∷ 90 ∷ 45 ∷ 36 ∷ []; base = 100000 ∷ 90000 ∷ 45000 ∷ 36000 ∷ []; list = room; answer = values 3 8000; exit = 0 ∷ 4 ∷ 7 ∷ 7 ∷ [] }
    ∷ record { L = 2; days = 100 ∷ 90 ∷ 45 ∷ 36 ∷ 9 ∷ []; base = 100000 ∷ 90000 ∷ 45000 ∷ 36000 ∷ 9000 ∷ []; list = room; answer = values 4 5000; exit = 0 ∷ 5 ∷ 7 ∷ 7 ∷ [] }
    -- equal neighbours part a fall
    ∷ record { L = 2; days = 100 ∷ 90 ∷ 90 ∷ 81 ∷ []; base = 100000 ∷ 90000 ∷ 90000 ∷ 81000 ∷ []; list = room; answer = values 2 9000; exit = 0 ∷ 2 ∷ 2 ∷ 2 ∷ [] }
    ∷ record { L = 2; days = 90 ∷ 90 ∷ []; base = 90000 ∷ 90000 ∷ []; list = room; answer = refused 19; exit = room }
    -- a gap parts it too, and no limb crosses one
    ∷ record { L = 2; days = 100 ∷ 90 ∷ gap ∷ 80 ∷ 40 ∷ []; base = 100000 ∷ 90000 ∷ no_value ∷ 80000 ∷ 40000 ∷ []; list = room; answer = values 2 5000; exit = 0 ∷ 2 ∷ 3 ∷ 2 ∷ [] }
    ∷ record { L = 2; days = 100 ∷ gap ∷ 80 ∷ []; base = 100000 ∷ no_value ∷ 80000 ∷ []; list = room; answer = refused 19; exit = room }
    -- a rise ends a limb, and the last limb ends with the list
    ∷ record { L = 3; days = 5 ∷ 100 ∷ 80 ∷ 60 ∷ 70 ∷ 30 ∷ 15 ∷ []; base = 5000 ∷ 100000 ∷ 80000 ∷ 60000 ∷ 70000 ∷ 30000 ∷ 15000 ∷ []; list = room; answer = values 4 5000; exit = 1 ∷ 3 ∷ 4 ∷ 3 ∷ [] }
    -- only limbs of at least L days count
    ∷ record { L = 3; days = 9 ∷ 1 ∷ 8 ∷ 6 ∷ 3 ∷ 5 ∷ 4 ∷ []; base = 9000 ∷ 1000 ∷ 8000 ∷ 6000 ∷ 3000 ∷ 5000 ∷ 4000 ∷ []; list = room; answer = values 2 5000; exit = 2 ∷ 3 ∷ 7 ∷ 7 ∷ [] }
    -- flow 0: the ratio is 0, and nothing falls from it
    ∷ record { L = 2; days = 10 ∷ 0 ∷ 0 ∷ []; base = 10000 ∷ 0 ∷ 0 ∷ []; list = room; answer = values 1 0; exit = 0 ∷ 2 ∷ 7 ∷ 7 ∷ [] }
    -- a ratio that rounds to 10000, and one that rounds to 0
    ∷ record { L = 2; days = 10000000 ∷ 9999999 ∷ []; base = 10000000000 ∷ 9999999000 ∷ []; list = room; answer = values 1 10000; exit = 0 ∷ 2 ∷ 7 ∷ 7 ∷ [] }
    ∷ record { L = 2; days = 10000000 ∷ 1 ∷ []; base = 10000000000 ∷ 1000 ∷ []; list = room; answer = values 1 0; exit = 0 ∷ 2 ∷ 7 ∷ 7 ∷ [] }
    -- the longest first, wherever it lies, and of one length the earlier
    ∷ record { L = 2; days = 9 ∷ 8 ∷ 9 ∷ 6 ∷ 3 ∷ []; base = 9000 ∷ 8000 ∷ 9000 ∷ 6000 ∷ 3000 ∷ []; list = room; answer = values 3 6667; exit = 2 ∷ 3 ∷ 0 ∷ 2 ∷ [] }
    ∷ record { L = 2; days = 9 ∷ 6 ∷ 3 ∷ 8 ∷ 4 ∷ []; base = 9000 ∷ 6000 ∷ 3000 ∷ 8000 ∷ 4000 ∷ []; list = room; answer = values 3 5000; exit = 0 ∷ 3 ∷ 3 ∷ 2 ∷ [] }
    ∷ record { L = 2; days = 2 ∷ 1 ∷ 4 ∷ 2 ∷ 6 ∷ 3 ∷ []; base = 2000 ∷ 1000 ∷ 4000 ∷ 2000 ∷ 6000 ∷ 3000 ∷ []; list = room6; answer = values 3 5000; exit = 0 ∷ 2 ∷ 2 ∷ 2 ∷ 4 ∷ 2 ∷ 7 ∷ [] }
    ∷ record { L = 2; days = 2 ∷ 1 ∷ gap ∷ 8 ∷ 4 ∷ 2 ∷ 4 ∷ 2 ∷ 1 ∷ []; base = 2000 ∷ 1000 ∷ no_value ∷ 8000 ∷ 4000 ∷ 2000 ∷ 4000 ∷ 2000 ∷ 1000 ∷ []; list = room6; answer = values 5 5000; exit = 3 ∷ 3 ∷ 6 ∷ 3 ∷ 0 ∷ 2 ∷ 7 ∷ [] }
    -- no days, one day
    ∷ record { L = 2; days = []; base = []; list = []; answer = refused 19; exit = [] }
    ∷ record { L = 2; days = 5 ∷ []; base = 5000 ∷ []; list = []; answer = refused 19; exit = [] }
    -- the limb list: two numbers a limb are enough, and one less is not, nor is none
    ∷ record { L = 2; days = 2 ∷ 1 ∷ []; base = 2000 ∷ 1000 ∷ []; list = 7 ∷ 7 ∷ []; answer = values 1 5000; exit = 0 ∷ 2 ∷ [] }
    ∷ record { L = 2; days = 2 ∷ 1 ∷ []; base = 2000 ∷ 1000 ∷ []; list = 7 ∷ []; answer = refused 22; exit = 7 ∷ [] }
    ∷ record { L = 2; days = 2 ∷ 1 ∷ []; base = 2000 ∷ 1000 ∷ []; list = []; answer = refused 22; exit = [] }
    -- L 2 to 60, looked at before the days
    ∷ record { L = 1; days = 10000001 ∷ []; base = 10000001000 ∷ []; list = []; answer = refused 18; exit = [] }
    ∷ record { L = 61; days = 2 ∷ 1 ∷ []; base = 2000 ∷ 1000 ∷ []; list = room; answer = refused 18; exit = room }
    ∷ record { L = 60; days = 2 ∷ 1 ∷ []; base = 2000 ∷ 1000 ∷ []; list = room; answer = refused 19; exit = room }
    -- one thousandth below its flow, a day is not at base: a limb ends before it and may start behind it
    ∷ record { L = 2; days = 100 ∷ 90 ∷ 81 ∷ 72 ∷ []; base = 100000 ∷ 90000 ∷ 80999 ∷ 72000 ∷ []; list = room; answer = values 1 9000; exit = 0 ∷ 2 ∷ 7 ∷ 7 ∷ [] }
    ∷ record { L = 2; days = 100 ∷ 90 ∷ 81 ∷ 72 ∷ []; base = 99999 ∷ 90000 ∷ 81000 ∷ 72000 ∷ []; list = room; answer = values 2 8889; exit = 1 ∷ 3 ∷ 7 ∷ 7 ∷ [] }
    -- without a base value likewise, and no day is bridged
    ∷ record { L = 2; days = 100 ∷ 90 ∷ 81 ∷ 72 ∷ 36 ∷ []; base = 100000 ∷ 90000 ∷ no_value ∷ 72000 ∷ 36000 ∷ []; list = room; answer = values 2 5000; exit = 0 ∷ 2 ∷ 3 ∷ 2 ∷ [] }
    ∷ record { L = 2; days = 100 ∷ 90 ∷ 81 ∷ []; base = 100000 ∷ no_value ∷ 81000 ∷ []; list = room; answer = refused 19; exit = room }
    -- flow 0 with value 0 is at base, and without one is not
    ∷ record { L = 2; days = 10 ∷ 0 ∷ []; base = 10000 ∷ no_value ∷ []; list = room; answer = refused 19; exit = room }
    -- lists of different lengths, before the days; a day neither flow nor missing, before the base values; those before limbs
    ∷ record { L = 2; days = 2 ∷ 10000001 ∷ []; base = 2000 ∷ []; list = []; answer = refused 14; exit = [] }
    ∷ record { L = 2; days = 2 ∷ 1 ∷ 10000001 ∷ []; base = 2001 ∷ 1000 ∷ 0 ∷ []; list = []; answer = refused 10; exit = [] }
    ∷ record { L = 2; days = 1 ∷ 2 ∷ []; base = 1000 ∷ 2001 ∷ []; list = []; answer = refused 20; exit = [] }
    ∷ record { L = 2; days = 1 ∷ gap ∷ []; base = 1000 ∷ 0 ∷ []; list = []; answer = refused 20; exit = [] }
    ∷ []

pub answers : map (λ r. ratio_outcome r.L r.days r.base r.list) rivers ≡ map (λ r. r.answer) rivers
unfolding ratio_outcome ratio_causes within too_long lengths_differ any_invalid_day is_invalid_day any_invalid_base is_invalid_base no_ratio limb_list_too_short counted_ratios counted_limbs counted limbs selected has_at_least runs_from further joined limb_days limb_day at_base day_of base_of limb_ratios pair_ratios near median at_rank rising insert_rising
answers = refl

pub lists : map (λ r. ratio_leaves r.L r.days r.base r.list) rivers ≡ map (λ r. r.exit) rivers
unfolding ratio_leaves listed_limbs leaves ratio_causes within too_long lengths_differ any_invalid_day is_invalid_day any_invalid_base is_invalid_base no_ratio limb_list_too_short counted_ratios counted_limbs counted limbs selected has_at_least runs_from further joined limb_days limb_day at_base day_of base_of limb_ratios pair_ratios longest_first precedes entries rising insert_rising
lists = refl
