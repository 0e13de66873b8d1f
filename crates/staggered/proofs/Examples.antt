-- Computed examples: rivers whose lines differ from shift to shift, in whole numbers and in fractions, days with one value
-- and with none, a segment shorter than its shift, and the order of refusals.
-- Assumes nothing.
use Prim.Native.Nat.{ℕ}
use mathlib.Core.Path.{◌≡◌, refl}
use mathlib.Core.Bool.{true, false}
use mathlib.Core.List.{List, [], ◌∷◌, ◌++◌, map, flat_map}
use mathlib.Core.Option.{Option, none, some}
use lib.IntN.{ℤ, pos}
use lib.ListN.{replicate}
use Rattle.numbers.specs.Near.{near}
use Rattle.numbers.specs.Fraction.{Fraction, whole, quotient, least}
use Rattle.numbers.specs.Lists.{selected}
use Rattle.numbers.specs.Arithmetic.{rounded, exact}
use Rattle.numbers.specs.Order.{insert_rising, rising, at_rank, ranked}
use Rattle.series.specs.Units.{no_value_mark, is_invalid_day, day_of, base_mark, within}
use Rattle.series.specs.Segments.{parts, over_segments}
use Rattle.series.specs.Causes.{first_cause}
use Rattle.series.specs.Lists.{too_long, lengths_differ, any_invalid_day}
use Rattle.minima.specs.declared.LineSetting.{LineSetting}
use Rattle.minima.specs.Blocks.{block_start, block_count, block, lowest, earliest, minimum_flow, minimum_day}
use Rattle.minima.specs.TurningPoints.{turns, middle_turns, counting, turning_points, neighbours}
use Rattle.minima.specs.Line.{straight, between, line_on, line, line_over}
use Rattle.minima.specs.Call.{blocks_at, out_of_range, has_two, any_of, no_line}
use Rattle.staggered.specs.Rule.{lines, present, rank_of, chosen, staggered}
use Rattle.staggered.specs.Call.{bad_setting, work_differs, no_lines, staggered_causes, work_list}

abbrev of : (N : ℕ) → LineSetting
of N = record { block_days = N; factor = 9000 }

-- all three choices
abbrev choices : (N : ℕ) → List (Option ℕ) → List (List (Option ℕ))
choices N days = map (λ choice. staggered rounded (of N) choice days) (1 ∷ 2 ∷ 3 ∷ [])

-- document 01's river
river : List (Option ℕ)
river = map some (10 ∷ 8 ∷ 10 ∷ 20 ∷ 9 ∷ 30 ∷ [])

-- N 2: from day 2 to day 6 by shift 0, and from day 3 to day 7 by shift 1
two : List (Option ℕ)
two = map some (8 ∷ 8 ∷ 3 ∷ 3 ∷ 9 ∷ 10 ∷ 4 ∷ 4 ∷ 12 ∷ 4 ∷ 4 ∷ [])

-- N 3: likewise from days 3, 4 and 5 to days 9, 10 and 11
three : List (Option ℕ)
three = map some (9 ∷ 9 ∷ 9 ∷ 3 ∷ 3 ∷ 3 ∷ 9 ∷ 9 ∷ 9 ∷ 5 ∷ 5 ∷ 5 ∷ 9 ∷ 9 ∷ 9 ∷ 9 ∷ 9 ∷ [])

-- N 2: only shift 1 has a line
shifted : List (Option ℕ)
shifted = map some (5 ∷ 9 ∷ 9 ∷ 5 ∷ 3 ∷ 3 ∷ 9 ∷ 9 ∷ 3 ∷ [])

-- N 1: each choice is the line
one_block_day : choices 1 river ≡ replicate 3 (none ∷ some 8000 ∷ some 8333 ∷ some 8667 ∷ some 9000 ∷ none ∷ [])
unfolding river near block_start block_count block lowest earliest minimum_flow minimum_day turns middle_turns counting selected turning_points neighbours straight between line_on line line_over over_segments insert_rising rising at_rank ranked lines present rank_of chosen staggered
one_block_day = refl

lows : List (Option ℕ)
lows = none ∷ none ∷ some 3000 ∷ some 3000 ∷ some 3250 ∷ some 3500 ∷ some 3750 ∷ some 4000 ∷ none ∷ none ∷ none ∷ []

highs : List (Option ℕ)
highs = none ∷ none ∷ some 3000 ∷ some 3000 ∷ some 3500 ∷ some 3750 ∷ some 4000 ∷ some 4000 ∷ none ∷ none ∷ none ∷ []

-- N 2, and again behind a gap: one value on days 2 and 7, two from day 3 to day 6, and none on the others. Of two values the
-- middle one is the lower.
two_shifts :
    lines rounded (of 2) two ++ choices 2 (two ++ none ∷ two)
    ≡ (none ∷ none ∷ some 3000 ∷ some 3000 ∷ some 3500 ∷ some 3750 ∷ some 4000 ∷ none ∷ none ∷ none ∷ none ∷ [])
    ∷ (none ∷ none ∷ none ∷ some 3000 ∷ some 3250 ∷ some 3500 ∷ some 3750 ∷ some 4000 ∷ none ∷ none ∷ none ∷ [])
    ∷ (lows ++ none ∷ lows)
    ∷ (highs ++ none ∷ highs)
    ∷ (lows ++ none ∷ lows)
    ∷ []
unfolding lows highs two near block_start block_count block lowest earliest minimum_flow minimum_day turns middle_turns counting selected turning_points neighbours straight between line_on line line_over over_segments insert_rising rising at_rank ranked lines present rank_of chosen staggered
two_shifts = refl

-- N 3, and behind a gap a segment of one day, which is shorter than shift 2: three values from day 5 to day 9
three_shifts :
    choices 3 (three ++ none ∷ some 7 ∷ [])
    ≡ (none ∷ none ∷ none ∷ some 3000 ∷ some 3000 ∷ some 3000 ∷ some 3333 ∷ some 3667 ∷ some 4000 ∷ some 4333 ∷ some 4667 ∷ some 5000 ∷ replicate 7 none)
    ∷ (none ∷ none ∷ none ∷ some 3000 ∷ some 3000 ∷ some 3000 ∷ some 4000 ∷ some 4333 ∷ some 4667 ∷ some 5000 ∷ some 5000 ∷ some 5000 ∷ replicate 7 none)
    ∷ (none ∷ none ∷ none ∷ some 3000 ∷ some 3000 ∷ some 3000 ∷ some 3667 ∷ some 4000 ∷ some 4333 ∷ some 4667 ∷ some 4667 ∷ some 5000 ∷ replicate 7 none)
    ∷ []
unfolding three near block_start block_count block lowest earliest minimum_flow minimum_day turns middle_turns counting selected turning_points neighbours straight between line_on line line_over over_segments insert_rising rising at_rank ranked lines present rank_of chosen staggered
three_shifts = refl

-- the highest in fractions
fraction : Option Fraction → Option (ℤ × ℕ)
fraction none = none
fraction (some f) = some (f.upper, f.lower)

exact_highest :
    map fraction (staggered exact (of 2) 2 two)
    ≡ none ∷ none ∷ some (pos 3000, 1) ∷ some (pos 3000, 1) ∷ some (pos 14000, 4) ∷ some (pos 15000, 4) ∷ some (pos 4000, 1) ∷ some (pos 4000, 1) ∷ none ∷ none ∷ none ∷ []
unfolding fraction two whole quotient least block_start block_count block lowest earliest minimum_flow minimum_day turns middle_turns counting selected turning_points neighbours straight between line_on line line_over over_segments insert_rising rising at_rank ranked lines present rank_of chosen staggered
exact_highest = refl

-- the ranks of 1 to 6 values
ranks : map (λ choice. map (rank_of choice) (1 ∷ 2 ∷ 3 ∷ 4 ∷ 5 ∷ 6 ∷ [])) (1 ∷ 2 ∷ 3 ∷ []) ≡ replicate 6 1 ∷ (1 ∷ 2 ∷ 3 ∷ 4 ∷ 5 ∷ 6 ∷ []) ∷ (1 ∷ 1 ∷ 2 ∷ 2 ∷ 3 ∷ 3 ∷ []) ∷ []
unfolding rank_of
ranks = refl

-- 17 at N 2: document 01's river has no line at any shift, and the other one has one at shift 1 alone
no_line_lem :
    no_lines (of 2) river ∷ no_line (blocks_at (of 2) 0) shifted ∷ no_line (blocks_at (of 2) 1) shifted ∷ no_lines (of 2) shifted ∷ []
    ≡ true ∷ true ∷ false ∷ false ∷ []
unfolding river shifted block_start block_count block lowest earliest minimum_flow minimum_day turns middle_turns counting selected turning_points has_two any_of no_line parts no_lines
no_line_lem = refl

-- Choices 0 and 4 and N 31 are 16, whatever the lists; then base lists that are too short, work lists one too short and one
-- too long, also where a day is invalid, an invalid day, a river without a line, and one with a line
abbrev first : (N choice : ℕ) → (days base work : List ℕ) → Option ℕ
first N choice days base work = first_cause (staggered_causes (of N) choice days base work)

refusals :
    first 1 0 (replicate 36526 0) [] []
    ∷ first 1 4 (replicate 36526 0) [] []
    ∷ first 31 1 (replicate 36526 0) [] []
    ∷ first 2 1 (10000001 ∷ []) [] (0 ∷ [])
    ∷ first 2 1 (5 ∷ []) (0 ∷ []) (0 ∷ [])
    ∷ first 2 2 (5 ∷ []) (0 ∷ []) (0 ∷ 0 ∷ 0 ∷ [])
    ∷ first 2 3 (10000001 ∷ []) (0 ∷ []) (0 ∷ 0 ∷ 0 ∷ [])
    ∷ first 2 3 (10000001 ∷ []) (0 ∷ []) (0 ∷ 0 ∷ [])
    ∷ first 2 3 (5 ∷ []) (0 ∷ []) (0 ∷ 0 ∷ [])
    ∷ first 1 3 (10 ∷ 8 ∷ 10 ∷ 20 ∷ 9 ∷ 30 ∷ []) (replicate 6 0) (replicate 6 0)
    ∷ []
    ≡ some 16 ∷ some 16 ∷ some 16 ∷ some 14 ∷ some 25 ∷ some 25 ∷ some 25 ∷ some 10 ∷ some 17 ∷ none ∷ []
unfolding staggered_causes bad_setting out_of_range within too_long lengths_differ work_differs any_invalid_day is_invalid_day day_of block_start block_count block lowest earliest minimum_flow minimum_day turns middle_turns counting selected turning_points has_two any_of no_line parts no_lines
refusals = refl

-- the work list of the river `two`: shift 0, then shift 1
work_list_lem :
    work_list (of 2) (8 ∷ 8 ∷ 3 ∷ 3 ∷ 9 ∷ 10 ∷ 4 ∷ 4 ∷ 12 ∷ 4 ∷ 4 ∷ [])
    ≡ no_value_mark ∷ no_value_mark ∷ 3000 ∷ 3000 ∷ 3500 ∷ 3750 ∷ 4000 ∷ no_value_mark ∷ no_value_mark ∷ no_value_mark ∷ no_value_mark
    ∷ no_value_mark ∷ no_value_mark ∷ no_value_mark ∷ 3000 ∷ 3250 ∷ 3500 ∷ 3750 ∷ 4000 ∷ no_value_mark ∷ no_value_mark ∷ no_value_mark ∷ []
unfolding near block_start block_count block lowest earliest minimum_flow minimum_day turns middle_turns counting selected turning_points neighbours straight between line_on line line_over over_segments day_of base_mark flat_map lines work_list
work_list_lem = refl
