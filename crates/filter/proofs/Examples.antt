-- Computed examples: three passes that differ, a river with gaps for each method, and the refusals at the edges of the
-- ranges. (Document 01's own rivers stand in one list, in worked's proofs/Rivers.antt.)
-- Assumes nothing.
use Prim.Native.Nat.{ℕ}
use mathlib.Core.Path.{◌≡◌, refl}
use mathlib.Core.List.{List, [], ◌∷◌}
use mathlib.Core.Option.{Option, none, some}
use lib.IntN.{pos}
use Rattle.numbers.specs.Near.{near}
use Rattle.numbers.specs.Arithmetic.{rounded, weighted}
use Rattle.numbers.specs.Scan.{recursive}
use Rattle.series.specs.Segments.{first_present, over_first}
use Rattle.series.specs.Causes.{first_cause}
use Rattle.series.specs.Lists.{too_long, lengths_differ, any_invalid_day}
use Rattle.series.specs.Units.{missing_mark, is_invalid_day, day_of, within}
use Rattle.filter.specs.declared.Setting.{Setting}
use Rattle.filter.specs.declared.start.Start.TheVariants.{Usual, Given}
use Rattle.filter.specs.Methods.{method_of, weights, start, spans, in_range, unknown_method, out_of_range, invalid_passes, above_flow, start_too_high}
use Rattle.filter.specs.Passes.{step, thousandths, filtered}
use Rattle.filter.specs.Call.{filter_causes}

abbrev setting : (method p q : ℕ) → Setting
setting m p q = record { method = m; p = p; q = q; s = pos 0 }

-- the base flow of a river, in thousandths
abbrev base : Setting → (passes : ℕ) → List (Option ℕ) → List (Option ℕ)
base s n days = filtered rounded s n Usual days

storm : List (Option ℕ)
storm = some 10 ∷ some 200 ∷ some 10 ∷ []

three_passes :
    base (setting 1 9250 0) 1 storm ∷ base (setting 1 9250 0) 2 storm ∷ base (setting 1 9250 0) 3 storm ∷ []
    ≡ (some 5000 ∷ some 12500 ∷ some 10000 ∷ [])
    ∷ (some 5000 ∷ some 10094 ∷ some 10000 ∷ [])
    ∷ (some 5000 ∷ some 5191 ∷ some 5555 ∷ [])
    ∷ []
unfolding storm filtered over_first method_of weights start step recursive thousandths weighted near
three_passes = refl

-- gaps of one day and of two, and a segment of one day
gaps : List (Option ℕ)
gaps = some 30 ∷ none ∷ some 10 ∷ some 200 ∷ some 80 ∷ none ∷ none ∷ some 7 ∷ some 9 ∷ []

with_gaps :
    base (setting 1 9250 0) 3 gaps
    ∷ base (setting 2 9500 0) 1 gaps
    ∷ base (setting 3 9700 0) 1 gaps
    ∷ base (setting 4 9000 500) 1 gaps
    ∷ base (setting 5 9770 8000) 1 gaps
    ∷ base (setting 6 5000 0) 1 gaps
    ∷ []
    ≡ (some 15000 ∷ none ∷ some 5000 ∷ some 5281 ∷ some 6181 ∷ none ∷ none ∷ some 3500 ∷ some 3513 ∷ [])
    ∷ (some 15000 ∷ none ∷ some 5000 ∷ some 9634 ∷ some 15523 ∷ none ∷ none ∷ some 3500 ∷ some 3549 ∷ [])
    ∷ (some 15000 ∷ none ∷ some 5000 ∷ some 10534 ∷ some 12250 ∷ none ∷ none ∷ some 3500 ∷ some 3558 ∷ [])
    ∷ (some 15000 ∷ none ∷ some 5000 ∷ some 13810 ∷ some 15647 ∷ none ∷ none ∷ some 3500 ∷ some 3429 ∷ [])
    ∷ (some 21600 ∷ none ∷ some 7200 ∷ some 23292 ∷ some 27579 ∷ none ∷ none ∷ some 5040 ∷ some 5267 ∷ [])
    ∷ (some 15000 ∷ none ∷ some 5000 ∷ some 102500 ∷ some 80000 ∷ none ∷ none ∷ some 3500 ∷ some 6250 ∷ [])
    ∷ []
unfolding gaps filtered over_first method_of weights start step recursive thousandths weighted near
with_gaps = refl

-- no method 8; method 4 up to q 10000; q 0 where the row has none; passes only in method 1;
-- then lists of different length, a day that is neither flow nor missing, and a start above the first present flow, at it,
-- and where no day is present
refusals :
    first_cause (filter_causes (setting 8 9250 0) 1 Usual [] [])
    ∷ first_cause (filter_causes (setting 4 1 10000) 1 Usual [] [])
    ∷ first_cause (filter_causes (setting 6 5000 1) 1 Usual [] [])
    ∷ first_cause (filter_causes (setting 2 3334 0) 2 Usual [] [])
    ∷ first_cause (filter_causes (setting 1 9250 0) 4 Usual [] [])
    ∷ first_cause (filter_causes (setting 1 9250 0) 3 (Given 1) (10000001 ∷ []) [])
    ∷ first_cause (filter_causes (setting 1 9250 0) 3 (Given 1) (10000001 ∷ []) (0 ∷ []))
    ∷ first_cause (filter_causes (setting 1 9250 0) 3 (Given 7001) (missing_mark ∷ 7 ∷ 9 ∷ []) (0 ∷ 0 ∷ 0 ∷ []))
    ∷ first_cause (filter_causes (setting 1 9250 0) 3 (Given 7000) (missing_mark ∷ 7 ∷ 9 ∷ []) (0 ∷ 0 ∷ 0 ∷ []))
    ∷ first_cause (filter_causes (setting 1 9250 0) 3 (Given 7001) (missing_mark ∷ []) (0 ∷ []))
    ∷ []
    ≡ some 11 ∷ none ∷ some 12 ∷ some 13 ∷ some 13 ∷ some 14 ∷ some 10 ∷ some 29 ∷ none ∷ none ∷ []
unfolding filter_causes unknown_method out_of_range method_of in_range spans within invalid_passes too_long lengths_differ any_invalid_day is_invalid_day start_too_high above_flow first_present day_of
refusals = refl
