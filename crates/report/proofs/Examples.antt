-- Document 01's sample record and other records, with their texts, computed from the definitions.
-- Assumes nothing.
use Prim.Native.Nat.{ℕ}
use Prim.Native.String.{String}
use mathlib.Core.Path.{◌≡◌, refl}
use mathlib.Core.List.{List, [], ◌∷◌, map}
use lib.ListN.{replicate}
use Rattle.numbers.specs.Near.{near}
use Rattle.numbers.specs.Arithmetic.{weighted}
use Rattle.numbers.specs.Scan.{onward, recursive}
use Rattle.series.specs.Units.{number, is_flow, is_missing, is_invalid_day, day_of, base_of, base_mark, within}
use Rattle.series.specs.Segments.{over_first}
use Rattle.series.specs.Lists.{too_long, lengths_differ, any_invalid_day, is_invalid_base, any_invalid_base}
use Rattle.record.specs.Entries.{kind_of, entry_causes}
use Rattle.record.specs.Call.{entry_then, days_from, first_day_of, reading}
use Rattle.filter.specs.Methods.{method_of, method_weights, weights, method_start, start}
use Rattle.filter.specs.Passes.{step, thousandths, filtered}
use Rattle.filter.specs.Call.{filtered_list}
use Rattle.totals.specs.Sums.{base_days, flow_total, index}
use Rattle.totals.specs.Call.{no_flow, totals_causes, totals_of, totals_outcome}
use Rattle.report.specs.Decimal.{characters, decimal, last_digits}
use Rattle.report.specs.Text.{day_lines, separate_text}

-- 01 00000000 02 64000000 02 C8000000 03 02 32000000 09 04000000
sample : List ℕ
sample =
    0x01 ∷ 0x00 ∷ 0x00 ∷ 0x00 ∷ 0x00 ∷ 0x02 ∷ 0x64 ∷ 0x00 ∷ 0x00 ∷ 0x00 ∷ 0x02 ∷ 0xC8 ∷ 0x00 ∷ 0x00 ∷ 0x00 ∷ 0x03 ∷ 0x02 ∷ 0x32 ∷ 0x00 ∷ 0x00 ∷ 0x00 ∷ 0x09 ∷ 0x04 ∷ 0x00 ∷ 0x00 ∷ 0x00 ∷ []

-- a head of day 0, and an end of no days
no_days : List ℕ
no_days = 0x01 ∷ 0x00 ∷ 0x00 ∷ 0x00 ∷ 0x00 ∷ 0x09 ∷ 0x00 ∷ 0x00 ∷ 0x00 ∷ 0x00 ∷ []

-- bytes, and their text
abbrev examples : List (List ℕ × String)
examples =
    (sample, "day flow base\n0 100 50.000\n1 200 57.500\n2 missing\n3 50 25.000\nindex 0.3786\n")
    ∷ (no_days, "day flow base\nindex none\n")
    ∷ ([], "refused 1\n")
    ∷ ((0x05 ∷ []), "refused 2\n")
    ∷ ((replicate 32768 0x09), "refused 3\n")
    ∷ ((replicate 32769 0x09), "too long\n")
    ∷ []

all_agree : map (λ e. separate_text e.0) examples ≡ map (λ e. characters e.1) examples
unfolding sample no_days separate_text reading first_day_of days_from entry_then entry_causes kind_of number day_lines filtered_list filtered over_first onward recursive step weighted near thousandths method_of method_weights weights method_start start day_of is_missing is_flow is_invalid_day base_of base_mark within totals_outcome totals_of totals_causes no_flow index flow_total base_days too_long lengths_differ any_invalid_day is_invalid_base any_invalid_base decimal last_digits
all_agree = refl
