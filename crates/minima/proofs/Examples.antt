-- Computed examples: rivers with gaps, ties, an incomplete block, long blocks and large flows, document 01's river in
-- fractions, and the order of refusals. Document 01's own rows (◆) stand in the crate worked.
-- Assumes nothing.
use Prim.Native.Nat.{ℕ}
use mathlib.Core.Path.{◌≡◌, refl}
use mathlib.Core.Bool.{true, false}
use mathlib.Core.List.{List, [], ◌∷◌, ◌++◌, map}
use mathlib.Core.Option.{Option, none, some}
use lib.IntN.{ℤ, pos}
use lib.ListN.{get_or, replicate}
use Rattle.numbers.specs.Near.{near}
use Rattle.numbers.specs.Fraction.{Fraction, whole, quotient, least}
use Rattle.numbers.specs.Lists.{selected}
use Rattle.numbers.specs.Arithmetic.{rounded, exact}
use Rattle.series.specs.Units.{is_invalid_day, day_of, within}
use Rattle.series.specs.Segments.{parts, over_segments}
use Rattle.series.specs.Causes.{first_cause}
use Rattle.series.specs.Lists.{too_long, lengths_differ, any_invalid_day}
use Rattle.minima.specs.declared.block.Blocks.{Blocks}
use Rattle.minima.specs.declared.LineSetting.{LineSetting}
use Rattle.minima.specs.Blocks.{block_start, block_count, block, lowest, earliest, minimum_flow, minimum_day}
use Rattle.minima.specs.TurningPoints.{turns, middle_turns, counting, turning_points, neighbours}
use Rattle.minima.specs.Line.{straight, between, line_on, line, line_over}
use Rattle.minima.specs.Call.{out_of_range, has_two, any_of, no_line, line_causes}

abbrev from : (o N g : ℕ) → Blocks
from o N g = record { days = N; factor = g; origin = o }

abbrev of : (N g : ℕ) → Blocks
of = from 0

-- document 01's river, of N 1 and g 9000
river : List ℕ
river = 10 ∷ 8 ∷ 10 ∷ 20 ∷ 9 ∷ 30 ∷ []

-- a straight line that runs above the flow of day 3
falling : List ℕ
falling = 30 ∷ 20 ∷ 25 ∷ 8 ∷ 5 ∷ 9 ∷ []

-- N 3: flow 4 on the second and the third day of a block, where the line begins on the second
tied : List ℕ
tied = 9 ∷ 9 ∷ 9 ∷ 5 ∷ 4 ∷ 4 ∷ 9 ∷ 9 ∷ 9 ∷ 6 ∷ 3 ∷ 6 ∷ 9 ∷ 9 ∷ 9 ∷ []

-- N 2: an incomplete last block, beside which day 10 would turn
incomplete : List ℕ
incomplete = 20 ∷ 20 ∷ 8 ∷ 20 ∷ 20 ∷ 20 ∷ 20 ∷ 9 ∷ 20 ∷ 20 ∷ 10 ∷ 20 ∷ 30 ∷ []

-- N 30, five blocks: lows of 30 on day 40 and of 40 on day 95
long : List ℕ
long = replicate 40 50 ++ 30 ∷ (replicate 54 50 ++ 40 ∷ replicate 54 50)

-- the largest flow on each day
largest : List ℕ
largest = replicate 5 10000000

lines :
    line rounded (of 1 9000) falling
    ∷ line rounded (of 3 9000) tied
    ∷ line rounded (of 2 9000) incomplete
    ∷ line rounded (of 1 9000) largest
    ∷ map (λ t. get_or (line rounded (of 30 9000) long) t none) (39 ∷ 40 ∷ 70 ∷ 95 ∷ 96 ∷ [])
    ∷ []
    ≡ (none ∷ some 20000 ∷ some 15000 ∷ some 8000 ∷ some 5000 ∷ none ∷ [])
    ∷ (none ∷ none ∷ none ∷ none ∷ some 4000 ∷ some 3833 ∷ some 3667 ∷ some 3500 ∷ some 3333 ∷ some 3167 ∷ some 3000 ∷ none ∷ none ∷ none ∷ none ∷ [])
    ∷ (none ∷ none ∷ some 8000 ∷ some 8200 ∷ some 8400 ∷ some 8600 ∷ some 8800 ∷ some 9000 ∷ none ∷ none ∷ none ∷ none ∷ none ∷ [])
    ∷ (none ∷ some 10000000000 ∷ some 10000000000 ∷ some 10000000000 ∷ none ∷ [])
    ∷ (none ∷ some 30000 ∷ some 35455 ∷ some 40000 ∷ none ∷ [])
    ∷ []
unfolding falling tied incomplete largest long near block_start block_count block lowest earliest minimum_flow minimum_day turns middle_turns counting selected turning_points neighbours straight between line_on line
lines = refl

-- the turning points without and with one day more, which completes the last block, and those of long blocks; and with N 2
-- from the second day on (blocks 20 8, 20 20, 20 20, 9 20, 20 10 and 20 30), from the last day on, and from behind the segment
points :
    turning_points (of 2 9000) incomplete
    ∷ turning_points (of 2 9000) (incomplete ++ 30 ∷ [])
    ∷ turning_points (of 30 9000) long
    ∷ turning_points (from 1 2 9000) incomplete
    ∷ turning_points (from 12 2 9000) incomplete
    ∷ turning_points (from 20 2 9000) incomplete
    ∷ []
    ≡ (2 ∷ 7 ∷ []) ∷ (2 ∷ 7 ∷ 10 ∷ []) ∷ (40 ∷ 95 ∷ []) ∷ (7 ∷ []) ∷ [] ∷ [] ∷ []
unfolding incomplete long block_start block_count block lowest earliest minimum_flow minimum_day turns middle_turns counting selected turning_points
points = refl

-- document 01's river in fractions: 8000, 25000/3, 26000/3, 9000
fraction : Option Fraction → Option (ℤ × ℕ)
fraction none = none
fraction (some f) = some (f.upper, f.lower)

exact_line :
    map fraction (line exact (of 1 9000) river)
    ≡ none ∷ some (pos 8000, 1) ∷ some (pos 25000, 3) ∷ some (pos 26000, 3) ∷ some (pos 9000, 1) ∷ none ∷ []
unfolding fraction river whole quotient least block_start block_count block lowest earliest minimum_flow minimum_day turns middle_turns counting selected turning_points neighbours straight between line_on line
exact_line = refl

-- two segments, the second behind a gap of two days: each has its own line
two_segments :
    line_over rounded (of 1 9000) (map some river ++ none ∷ none ∷ some 7 ∷ some 5 ∷ some 9 ∷ some 6 ∷ some 8 ∷ [])
    ≡ none ∷ some 8000 ∷ some 8333 ∷ some 8667 ∷ some 9000 ∷ none ∷ none ∷ none ∷ none ∷ some 5000 ∷ some 5500 ∷ some 6000 ∷ none ∷ []
unfolding river near block_start block_count block lowest earliest minimum_flow minimum_day turns middle_turns counting selected turning_points neighbours straight between line_on line line_over over_segments
two_segments = refl

-- 17: one turning point; two segments with one each; and a river with a line
no_lines :
    no_line (of 1 9000) (some 10 ∷ some 8 ∷ some 10 ∷ [])
    ∷ no_line (of 1 9000) (some 10 ∷ some 8 ∷ some 10 ∷ none ∷ some 10 ∷ some 8 ∷ some 10 ∷ [])
    ∷ no_line (of 1 9000) (none ∷ map some river)
    ∷ []
    ≡ true ∷ true ∷ false ∷ []
unfolding river block_start block_count block lowest earliest minimum_flow minimum_day turns middle_turns counting selected turning_points has_two any_of no_line parts
no_lines = refl

abbrev setting : (N g : ℕ) → LineSetting
setting N g = record { block_days = N; factor = g }

-- N 0 and 31, g 0 and 10000 are out of range, and N 30 and g 9999 are not; then lists of different length, a day that is
-- neither flow nor missing, a river without a line, and one with a line
refusals :
    first_cause (line_causes (setting 0 9000) [] [])
    ∷ first_cause (line_causes (setting 31 9000) [] [])
    ∷ first_cause (line_causes (setting 1 0) [] [])
    ∷ first_cause (line_causes (setting 1 10000) [] [])
    ∷ first_cause (line_causes (setting 30 9999) [] [])
    ∷ first_cause (line_causes (setting 1 1) (10000001 ∷ []) [])
    ∷ first_cause (line_causes (setting 1 9000) (10000001 ∷ []) (0 ∷ []))
    ∷ first_cause (line_causes (setting 1 9000) (10 ∷ 8 ∷ 10 ∷ []) (0 ∷ 0 ∷ 0 ∷ []))
    ∷ first_cause (line_causes (setting 1 9000) river (replicate 6 0))
    ∷ []
    ≡ some 16 ∷ some 16 ∷ some 16 ∷ some 16 ∷ some 17 ∷ some 14 ∷ some 10 ∷ some 17 ∷ none ∷ []
unfolding river line_causes out_of_range within too_long lengths_differ any_invalid_day is_invalid_day day_of block_start block_count block lowest earliest minimum_flow minimum_day turns middle_turns counting selected turning_points has_two any_of no_line parts
refusals = refl
