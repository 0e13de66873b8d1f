-- The rivers that document 01 works through and marks ◆, in one list, with one result over all of it; the checker computes
-- them.
-- Assumes nothing.
use Prim.Native.Nat.{ℕ, ◌*◌, ◌/◌, ◌%◌}
use mathlib.Core.Path.{◌≡◌, refl}
use mathlib.Core.Bool.{Bool, true, false, not, ◌&&◌}
use mathlib.Core.List.{List, [], ◌∷◌, ◌++◌, map}
use mathlib.Core.Option.{Option, none, some}
use lib.IntN.{ℤ, pos, negsuc, ◌*ℤ◌}
use lib.Signed.{le_z}
use lib.Count.{count_trailing_zeros}
use lib.Dec.{eqb, lit<}
use lib.Ieee.{of_bits, of_fields, odd, units, size, span, climb}
use lib.ListN.{replicate}
use Rattle.numbers.specs.Near.{near}
use Rattle.numbers.specs.Fraction.{Fraction, whole, sum, opposite, difference, surplus, multiple, quotient, least}
use Rattle.numbers.specs.Arithmetic.{rounded, exact, weighted}
use Rattle.series.specs.Units.{number, missing_mark, no_value_mark, is_invalid_day, day_of, base_of, base_mark, within}
use Rattle.series.specs.Segments.{parts, over_segments, over_first, first_present}
use Rattle.series.specs.Causes.{first_cause, Outcome, accepted, refused}
use Rattle.series.specs.Lists.{too_long, lengths_differ, any_invalid_day, is_invalid_base, any_invalid_base}
use Rattle.filter.specs.declared.Setting.{Setting}
use Rattle.filter.specs.declared.start.Start.TheVariants.{Usual, Given}
use Rattle.filter.specs.Methods.{method_of, weights, start, spans, in_range, unknown_method, out_of_range, invalid_passes, above_flow, start_too_high}
use Rattle.numbers.specs.Scan.{recursive}
use Rattle.numbers.specs.Lists.{selected}
use Rattle.numbers.specs.Order.{insert_rising, rising, at_rank, ranked}
use Rattle.filter.specs.Passes.{step, thousandths, filtered}
use Rattle.filter.specs.Call.{filter_causes}
use Rattle.filter.specs.Distance.{limit_of, filter_limit}
use Rattle.minima.specs.Blocks.{block_start, block_count, block, lowest, earliest, minimum_flow, minimum_day}
use Rattle.minima.specs.declared.LineSetting.{LineSetting}
use Rattle.minima.specs.Call.{blocks_of, out_of_range as line_range, has_two, any_of, no_line, line_causes}
use Rattle.minima.specs.TurningPoints.{turns, middle_turns, counting, turning_points, neighbours}
use Rattle.minima.specs.Line.{straight, between as between_points, line_on, line, line_over}
use Rattle.staggered.specs.Rule.{lines, present, rank_of, chosen, staggered}
use Rattle.half_life.specs.Rule.{is_halved, first_from, half_life}
use Rattle.half_life.specs.Call.{half_life_causes, half_life_outcome}
use Rattle.meter.specs.Rule.{nearest_litre, is_no_flow, is_too_large, reading_causes, day_said}
use Rattle.meter.specs.Call.{reading_in, meter_causes, meter_outcome}
use Rattle.totals.specs.Sums.{base_days, flow_total, base_total, index}
use Rattle.totals.specs.declared.Totals.{Totals}
use Rattle.totals.specs.Call.{no_flow, totals_causes, totals_outcome}
use Rattle.series.specs.Runs.{joined, further, runs_from}
use Rattle.recession.specs.Limbs.{at_base, limb_day, limb_days, has_at_least, limbs, counted}
use Rattle.recession.specs.Ratios.{pair_ratios, limb_ratios, median}
use Rattle.recession.specs.Call.{no_ratio, limb_list_too_short, counted_limbs, counted_ratios, ratio_causes, ratio_outcome}
use Rattle.recession.specs.declared.Statistics.{Statistics}

-- whether two results are the same
abbrev same_value : Option ℕ → Option ℕ → Bool
same_value none none = true
same_value none (some b) = false
same_value (some a) none = false
same_value (some a) (some b) = eqb a b

abbrev same : List (Option ℕ) → List (Option ℕ) → Bool
same [] [] = true
same [] (y ∷ ys) = false
same (x ∷ xs) [] = false
same (x ∷ xs) (y ∷ ys) = same_value x y && same xs ys

-- two fractions, by cross-multiplying
abbrev equal : Fraction → Fraction → Bool
equal f g = le_z (f.upper *ℤ pos g.lower) (g.upper *ℤ pos f.lower) && le_z (g.upper *ℤ pos f.lower) (f.upper *ℤ pos g.lower)

abbrev answers : ℕ → ℕ → Outcome Statistics → Bool
answers k r (accepted s) = eqb k s.count && eqb r s.median
answers k r (refused n) = false

abbrev refuses : {A : Type 0} → ℕ → Outcome A → Bool
refuses n (accepted a) = false
refuses n (refused m) = eqb n m

abbrev no_totals : Outcome Totals → Bool
no_totals (accepted t) = false
no_totals (refused n) = eqb n 21

abbrev every : List Bool → Bool
every [] = true
every (b ∷ bs) = b && every bs

abbrev setting : (method p q : ℕ) → Setting
setting m p q = record { method = m; p = p; q = q; s = pos 0 }

-- method 7, with an s of either sign
abbrev seven : (p q : ℕ) → (s : ℤ) → Setting
seven p q s = record { method = 7; p = p; q = q; s = s }

abbrev level : List (Option ℕ)
level = some 1 ∷ some 1 ∷ some 1 ∷ some 1 ∷ some 1 ∷ some 1 ∷ []

-- the value on the last day of a list
abbrev last : List (Option Fraction) → Fraction → Fraction
last [] f = f
last (none ∷ fs) f = last fs f
last (some g ∷ fs) f = last fs g

-- 984.375
abbrev sixth : Fraction
sixth = record { upper = pos 984375; lower = 1000; above_zero = lit< tt }

filter_checks : List Bool
unfolding whole sum opposite difference surplus multiple quotient least limit_of filtered over_first method_of weights start step recursive thousandths weighted near filter_limit filter_causes unknown_method out_of_range in_range spans within invalid_passes too_long lengths_differ any_invalid_day is_invalid_day
filter_checks =
    -- method 1, p 9250, flows 100, 200, and flows 1000, 10
    same (filtered rounded (setting 1 9250 0) 1 Usual (some 100 ∷ some 200 ∷ [])) (some 50000 ∷ some 57500 ∷ [])
    ∷ same (filtered rounded (setting 1 9250 0) 1 Usual (some 1000 ∷ some 10 ∷ [])) (some 500000 ∷ some 10000 ∷ [])
    -- method 5, p 9770, q 8000, flows 100, 100
    ∷ same (filtered rounded (setting 5 9770 8000) 1 Usual (some 100 ∷ some 100 ∷ [])) (some 72000 ∷ some 72842 ∷ [])
    -- method 6, p 5000, flow 1 on six days; the sixth exact value, and the limit
    ∷ same (filtered rounded (setting 6 5000 0) 1 Usual level) (some 500 ∷ some 750 ∷ some 875 ∷ some 938 ∷ some 969 ∷ some 984 ∷ [])
    ∷ equal (last (filtered exact (setting 6 5000 0) 1 Usual level) (whole 0)) sixth
    ∷ equal (filter_limit (setting 6 5000 0) 1) (whole 1)
    -- method 2: p 3333 gives 12, 3334 passes
    ∷ same_value (first_cause (filter_causes (setting 2 3333 0) 1 Usual [] [])) (some 12)
    ∷ same_value (first_cause (filter_causes (setting 2 3334 0) 1 Usual [] [])) none
    -- method 7, p 100, q 1000, s -5000, flows 1000, 2: the second day comes out below zero, and is 0 in both runs
    ∷ same (filtered rounded (seven 100 1000 (negsuc 4999)) 1 Usual (some 1000 ∷ some 2 ∷ [])) (some 500000 ∷ some 0 ∷ [])
    ∷ equal (last (filtered exact (seven 100 1000 (negsuc 4999)) 1 Usual (some 1000 ∷ some 2 ∷ [])) (whole 1)) (whole 0)
    -- s up to 9999 either way in method 7, with one pass; 0 in the others; and no method 8
    ∷ same_value (first_cause (filter_causes (seven 9999 10000 (pos 9999)) 1 Usual [] [])) none
    ∷ same_value (first_cause (filter_causes (seven 1 1 (negsuc 9998)) 1 Usual [] [])) none
    ∷ same_value (first_cause (filter_causes (seven 1 1 (pos 10000)) 1 Usual [] [])) (some 12)
    ∷ same_value (first_cause (filter_causes (seven 1 1 (negsuc 9999)) 1 Usual [] [])) (some 12)
    ∷ same_value (first_cause (filter_causes (seven 1 1 (pos 1)) 2 Usual [] [])) (some 13)
    ∷ same_value (first_cause (filter_causes (record { method = 1; p = 9250; q = 0; s = pos 1 }) 1 Usual [] [])) (some 12)
    ∷ same_value (first_cause (filter_causes (record { method = 4; p = 9250; q = 500; s = negsuc 0 }) 1 Usual [] [])) (some 12)
    ∷ same_value (first_cause (filter_causes (setting 8 9250 0) 1 Usual [] [])) (some 11)
    ∷ []

-- Method 1, p 9250, from a start that is given.
from : (value passes : ℕ) → List (Option ℕ) → List (Option ℕ)
from value n days = filtered rounded (setting 1 9250 0) n (Given value) days

refused_from : (value : ℕ) → (days base : List ℕ) → Option ℕ
refused_from value days base = first_cause (filter_causes (setting 1 9250 0) 1 (Given value) days base)

start_checks : List Bool
unfolding from refused_from whole sum opposite difference surplus multiple quotient least filtered over_first method_of weights start step recursive thousandths weighted near filter_causes unknown_method out_of_range in_range spans within invalid_passes too_long lengths_differ any_invalid_day is_invalid_day day_of start_too_high above_flow first_present
start_checks =
    -- flows 100, 200, from 0 and from 1000 × the first flow; one above it gives 29, but where 10 holds that
    same (from 0 1 (some 100 ∷ some 200 ∷ [])) (some 0 ∷ some 11250 ∷ [])
    ∷ same (from 100000 1 (some 100 ∷ some 200 ∷ [])) (some 100000 ∷ some 103750 ∷ [])
    ∷ same_value (refused_from 100000 (100 ∷ 200 ∷ []) (0 ∷ 0 ∷ [])) none
    ∷ same_value (refused_from 100001 (100 ∷ 200 ∷ []) (0 ∷ 0 ∷ [])) (some 29)
    ∷ same_value (refused_from 100001 (100 ∷ 10000001 ∷ []) (0 ∷ 0 ∷ [])) (some 10)
    -- the exact run begins there too
    ∷ equal (last (filtered exact (setting 1 9250 0) 1 (Given 0) (some 100 ∷ some 201 ∷ [])) (whole 0)) (quotient (whole 22575) 2)
    -- no day is present: any start, and no effect
    ∷ same (from 100001 1 (none ∷ none ∷ [])) (none ∷ none ∷ [])
    ∷ same_value (refused_from 18446744073709551615 (missing_mark ∷ missing_mark ∷ []) (0 ∷ 0 ∷ [])) none
    -- a first day that is missing: the first that is present counts; the segment behind it starts as usual
    ∷ same (from 0 1 (none ∷ some 100 ∷ some 200 ∷ none ∷ some 100 ∷ [])) (none ∷ some 0 ∷ some 11250 ∷ none ∷ some 50000 ∷ [])
    ∷ same_value (refused_from 100000 (missing_mark ∷ 100 ∷ []) (0 ∷ 0 ∷ [])) none
    ∷ same_value (refused_from 100001 (missing_mark ∷ 100 ∷ []) (0 ∷ 0 ∷ [])) (some 29)
    -- three passes, flows 10, 200, 10: the start serves the first alone
    ∷ same (from 0 1 (some 10 ∷ some 200 ∷ some 10 ∷ [])) (some 0 ∷ some 7875 ∷ some 10000 ∷ [])
    ∷ same (from 0 2 (some 10 ∷ some 200 ∷ some 10 ∷ [])) (some 0 ∷ some 7875 ∷ some 10000 ∷ [])
    ∷ same (from 0 3 (some 10 ∷ some 200 ∷ some 10 ∷ [])) (some 0 ∷ some 295 ∷ some 943 ∷ [])
    ∷ same (from 10000 2 (some 10 ∷ some 200 ∷ some 10 ∷ [])) (some 10000 ∷ some 10267 ∷ some 10000 ∷ [])
    ∷ same (from 10000 3 (some 10 ∷ some 200 ∷ some 10 ∷ [])) (some 10000 ∷ some 10010 ∷ some 10000 ∷ [])
    ∷ []

-- flows 10, 8, 10, 20, 9, 30
abbrev river : List (Option ℕ)
river = some 10 ∷ some 8 ∷ some 10 ∷ some 20 ∷ some 9 ∷ some 30 ∷ []

-- N 1, g 9000
abbrev line_setting : LineSetting
line_setting = record { block_days = 1; factor = 9000 }

line_checks : List Bool
unfolding block_start block_count block lowest earliest minimum_flow minimum_day turns middle_turns counting selected turning_points neighbours straight between_points line_on line line_over over_segments near base_days flow_total base_total index
line_checks =
    -- N 1, g 9000: the line and its index
    same (line_over rounded (blocks_of line_setting) river) (none ∷ some 8000 ∷ some 8333 ∷ some 8667 ∷ some 9000 ∷ none ∷ [])
    ∷ eqb (index rounded (base_days river (line_over rounded (blocks_of line_setting) river))) 7234
    -- a middle minimum of 10 beside 9 is no turning point, and beside 10 it is one
    ∷ not (turns 9000 9 10 10)
    ∷ not (turns 9000 10 10 9)
    ∷ turns 9000 10 10 10
    ∷ []

-- the line of blocks of n days at g 9000
abbrev line_by : (n : ℕ) → List ℕ → List (Option ℕ)
line_by n flows = line_over rounded (blocks_of (record { block_days = n; factor = 9000 })) (map some flows)

-- rivers that dry up: five days of flow, five without, and fifteen of flow that dip to 8
abbrev dry_block : List ℕ
dry_block =
    12 ∷ 11 ∷ 10 ∷ 13 ∷ 14 ∷ 0 ∷ 0 ∷ 0 ∷ 0 ∷ 0 ∷ 15 ∷ 10 ∷ 12 ∷ 11 ∷ 13 ∷ 9 ∷ 8 ∷ 8 ∷ 9 ∷ 10 ∷ 10 ∷ 12 ∷ 13 ∷ 14 ∷ 15 ∷ []

abbrev no_values : ℕ → List (Option ℕ)
no_values n = replicate n none

abbrev zero_days : List ℕ
zero_days = 0 ∷ 0 ∷ 0 ∷ 0 ∷ 0 ∷ []

dry_checks : List Bool
unfolding block_start block_count block lowest earliest minimum_flow minimum_day turns middle_turns counting selected turning_points neighbours straight between_points line_on line line_over over_segments parts near base_days flow_total base_total index day_of base_of base_mark line_causes line_range no_line has_two any_of within too_long lengths_differ any_invalid_day is_invalid_day any_invalid_base is_invalid_base totals_outcome totals_causes no_flow
dry_checks =
    -- N 1, flows 5, 0, 0, 0, 5: each dry day turns, and the line is 0 on them
    same (map some (turning_points (blocks_of line_setting) (5 ∷ 0 ∷ 0 ∷ 0 ∷ 5 ∷ []))) (some 1 ∷ some 2 ∷ some 3 ∷ [])
    ∷ same (line_by 1 (5 ∷ 0 ∷ 0 ∷ 0 ∷ 5 ∷ [])) (none ∷ some 0 ∷ some 0 ∷ some 0 ∷ none ∷ [])
    -- N 1, flows 3, 0, 4, 6, 0, 5: from one dry day to the other
    ∷ same (line_by 1 (3 ∷ 0 ∷ 4 ∷ 6 ∷ 0 ∷ 5 ∷ [])) (none ∷ some 0 ∷ some 0 ∷ some 0 ∷ some 0 ∷ none ∷ [])
    -- N 5, a dry block between wet ones: from its first day up to the next turning point, and no higher than the flow
    ∷ same (line_by 5 dry_block)
    (no_values 5
    ++ some 0 ∷ some 0 ∷ some 0 ∷ some 0 ∷ some 0 ∷ some 3636 ∷ some 4364 ∷ some 5091 ∷ some 5818 ∷ some 6545 ∷ some 7273 ∷ some 8000 ∷ no_values 8)
    -- no flow on any day: a line of 0, and no totals
    ∷ same (line_by 1 zero_days) (none ∷ some 0 ∷ some 0 ∷ some 0 ∷ none ∷ [])
    ∷ no_totals (totals_outcome zero_days (map base_mark (line_by 1 zero_days)))
    -- two dry blocks alone have none between two others: 17
    ∷ same_value (first_cause (line_causes line_setting (0 ∷ 0 ∷ []) (0 ∷ 0 ∷ []))) (some 17)
    ∷ []

-- the ratios of flows with base 1000 × flow on each day, and room for two limbs
abbrev at_base_ratios : (L : ℕ) → List ℕ → Outcome Statistics
at_base_ratios L flows = ratio_outcome L flows (map (λ y. 1000 * y) flows) (0 ∷ 0 ∷ 0 ∷ 0 ∷ [])

-- a river that groundwater alone feeds but for two storms, with a recession constant of 0.985
abbrev storms : List ℕ
storms =
    394 ∷ 388 ∷ 590 ∷ 484 ∷ 429 ∷ 398 ∷ 380 ∷ 368 ∷ 360 ∷ 353 ∷ 347 ∷ 341 ∷ 336 ∷ 331 ∷ 326 ∷ 779 ∷ 757 ∷ 539 ∷ 428 ∷ 370 ∷ 339 ∷ 321 ∷ 310 ∷ 302 ∷ 296 ∷ 290 ∷ 286 ∷ 281 ∷ 277 ∷ 273 ∷ 268 ∷ 264 ∷ 260 ∷ 257 ∷ 253 ∷ []

ratio_checks : List Bool
unfolding ratio_outcome ratio_causes within too_long lengths_differ any_invalid_day is_invalid_day any_invalid_base is_invalid_base no_ratio limb_list_too_short counted_limbs counted_ratios counted limbs runs_from further joined selected has_at_least limb_days limb_day at_base day_of base_of limb_ratios pair_ratios near median at_rank rising insert_rising block_start block_count block lowest earliest minimum_flow minimum_day turns middle_turns counting turning_points neighbours straight between_points line_on line line_over over_segments parts base_mark
ratio_checks =
    -- flows 100, 90, 81 at L 3 and at L 4, and flows 100, 50, 40 at L 3
    answers 2 9000 (at_base_ratios 3 (100 ∷ 90 ∷ 81 ∷ []))
    ∷ refuses 19 (at_base_ratios 4 (100 ∷ 90 ∷ 81 ∷ []))
    ∷ answers 2 5000 (at_base_ratios 3 (100 ∷ 50 ∷ 40 ∷ []))
    -- flows 100, 90, 81, 72, the third day one thousandth below its flow, or without a value: that day ends the limb
    ∷ answers 1 9000 (ratio_outcome 2 (100 ∷ 90 ∷ 81 ∷ 72 ∷ []) (100000 ∷ 90000 ∷ 80999 ∷ 72000 ∷ []) (0 ∷ 0 ∷ []))
    ∷ answers 1 9000 (ratio_outcome 2 (100 ∷ 90 ∷ 81 ∷ 72 ∷ []) (100000 ∷ 90000 ∷ no_value_mark ∷ 72000 ∷ []) (0 ∷ 0 ∷ []))
    -- two storms, with the line of N 5, g 9000: 10 ratios from its days at base, where all of its days give 32
    ∷ answers 10 9849 (ratio_outcome 2 storms (map base_mark (line_by 5 storms)) (0 ∷ 0 ∷ 0 ∷ 0 ∷ []))
    ∷ answers 32 9801 (ratio_outcome 2 storms (map (λ y. 1000 * y) storms) (0 ∷ 0 ∷ 0 ∷ 0 ∷ 0 ∷ 0 ∷ []))
    ∷ []

-- two lines of N 2 that differ, and what each choice takes of them
abbrev unlike : List (Option ℕ)
unlike = map some (18 ∷ 16 ∷ 12 ∷ 12 ∷ 14 ∷ 11 ∷ 14 ∷ 13 ∷ 15 ∷ [])

abbrev two : LineSetting
two = record { block_days = 2; factor = 9000 }

abbrev chosen_by : (choice : ℕ) → List (Option ℕ)
chosen_by choice = staggered rounded two choice unlike

abbrev same_lines : List (List (Option ℕ)) → List (List (Option ℕ)) → Bool
same_lines [] [] = true
same_lines [] (y ∷ ys) = false
same_lines (x ∷ xs) [] = false
same_lines (x ∷ xs) (y ∷ ys) = same x y && same_lines xs ys

staggered_checks : List Bool
unfolding staggered lines chosen present rank_of ranked at_rank rising insert_rising counting block_start block_count block lowest earliest minimum_flow minimum_day turns middle_turns selected turning_points neighbours straight between_points line_on line line_over over_segments parts near
staggered_checks =
    -- N 1: each choice is the line
    same (staggered rounded line_setting 1 river) (line_over rounded (blocks_of line_setting) river)
    ∷ same (staggered rounded line_setting 2 river) (line_over rounded (blocks_of line_setting) river)
    ∷ same (staggered rounded line_setting 3 river) (line_over rounded (blocks_of line_setting) river)
    -- N 2, g 9000: the line of shift 0 from day 2 to day 5, that of shift 1 from day 3 to day 5
    ∷ same_lines (lines rounded two unlike)
    ((none ∷ none ∷ some 12000 ∷ some 11667 ∷ some 11333 ∷ some 11000 ∷ none ∷ none ∷ none ∷ [])
    ∷ (none ∷ none ∷ none ∷ some 12000 ∷ some 11500 ∷ some 11000 ∷ none ∷ none ∷ none ∷ []) ∷ [])
    ∷ same (chosen_by 1) (none ∷ none ∷ some 12000 ∷ some 11667 ∷ some 11333 ∷ some 11000 ∷ none ∷ none ∷ none ∷ [])
    ∷ same (chosen_by 2) (none ∷ none ∷ some 12000 ∷ some 12000 ∷ some 11500 ∷ some 11000 ∷ none ∷ none ∷ none ∷ [])
    ∷ same (chosen_by 3) (none ∷ none ∷ some 12000 ∷ some 11667 ∷ some 11333 ∷ some 11000 ∷ none ∷ none ∷ none ∷ [])
    ∷ []

-- a call answers the number n
abbrev gives : (n : ℕ) → Outcome ℕ → Bool
gives n (accepted m) = eqb n m
gives n (refused m) = false

half_life_checks : List Bool
unfolding half_life_outcome half_life_causes within half_life first_from is_halved
half_life_checks =
    gives 1 (half_life_outcome 500) ∷ gives 2 (half_life_outcome 501) ∷ gives 7 (half_life_outcome 900)
    ∷ gives 69 (half_life_outcome 990) ∷ gives 693 (half_life_outcome 999) ∷ gives 1 (half_life_outcome 1)
    ∷ refuses 12 (half_life_outcome 0) ∷ refuses 12 (half_life_outcome 1000) ∷ []

-- what a meter's float comes to, by its bits: 1 in cubic metres, 2 in litres
abbrev metered : (kind bits : ℕ) → Outcome ℕ
metered kind bits = meter_outcome (kind ∷ bits % 256 ∷ bits / 256 % 256 ∷ bits / 65536 % 256 ∷ bits / 16777216 ∷ [])

meter_checks : List Bool
unfolding meter_outcome meter_causes reading_causes reading_in day_said number within is_no_flow is_too_large nearest_litre near of_bits of_fields odd units size span climb count_trailing_zeros
meter_checks =
    -- 2.5, 3.5 and 1.5
    gives 2 (metered 2 0x4020_0000) ∷ gives 4 (metered 2 0x4060_0000) ∷ gives 1500 (metered 1 0x3fc0_0000)
    -- the float nearest to 0.0005, negative zero, the smallest subnormal number, 8,388,607.5
    ∷ gives 1 (metered 1 0x3a03_126f) ∷ gives 0 (metered 2 0x8000_0000) ∷ gives 0 (metered 1 1)
    ∷ gives 8388608 (metered 2 0x4aff_ffff)
    -- 10,000,000 litres and 10,000 cubic metres, and the next floats
    ∷ gives 10000000 (metered 2 0x4b18_9680) ∷ refuses 27 (metered 2 0x4b18_9681)
    ∷ gives 10000000 (metered 1 0x461c_4000) ∷ refuses 27 (metered 1 0x461c_4001)
    -- infinity, a quiet and a signalling NaN, the largest number below zero, 3.4 × 10^38
    ∷ refuses 26 (metered 1 0x7f80_0000) ∷ refuses 26 (metered 2 0x7fc0_0000) ∷ refuses 26 (metered 1 0x7f80_0001)
    ∷ refuses 26 (metered 2 0x8000_0001) ∷ refuses 27 (metered 2 0x7f7f_c99e)
    -- no reading
    ∷ gives missing_mark (meter_outcome (3 ∷ [])) ∷ []

rivers : every (filter_checks ++ start_checks ++ line_checks ++ dry_checks ++ ratio_checks ++ staggered_checks ++ half_life_checks ++ meter_checks) ≡ true
unfolding filter_checks start_checks line_checks dry_checks ratio_checks staggered_checks half_life_checks meter_checks
rivers = refl
