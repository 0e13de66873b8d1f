-- THE TEXT of the program `separate`, for any bytes on its standard input (document 01, "Rivers worked through").
use Rattle.std.specs.Prelude.{ℕ, suc, cond, List, [], ◌∷◌, ◌++◌, pos, length, ltb}
use Rattle.std.proofs.Math.Option.{Option, none, some}
use Rattle.series.specs.Units.{day_of}
use Rattle.series.specs.Causes.{Outcome, accepted, refused}
use Rattle.record.specs.Call.{Stated, reading}
use Rattle.filter.specs.declared.Setting.{Setting}
use Rattle.filter.specs.declared.start.Start.TheVariants.{Usual}
use Rattle.filter.specs.Call.{filtered_list}
use Rattle.totals.specs.declared.Totals.{Totals}
use Rattle.totals.specs.Call.{totals_outcome}
use Rattle.report.specs.Decimal.{characters, decimal, fixed_point}

-- its setting: method 1 with p 9250, and q and s 0 since the row has none
abbrev pub setting : Setting
setting = record { method = 1; p = 9250; q = 0; s = pos 0 }

-- the base list after its one pass over the days that a record states
abbrev pub base_flow : List ℕ → List ℕ
base_flow days = filtered_list setting 1 Usual days

-- the line of a day: its number, its flow, and its base flow in litres a second (a base value is in thousandths of that); a
-- missing day has one word for the two
abbrev pub day_line : (day : ℕ) → Option ℕ → (base : ℕ) → List ℕ
day_line day none base = decimal day ++ characters " missing\n"
day_line day (some flow) base = decimal day ++ characters " " ++ decimal flow ++ characters " " ++ fixed_point 3 base ++ characters "\n"

-- a line a day, of a day list and its base list, which have one length: the day since 1900 goes up by one from line to line
unfoldable pub day_lines : (day : ℕ) → (days base : List ℕ) → List ℕ
day_lines day [] base = []
day_lines day (d ∷ days) [] = []
day_lines day (d ∷ days) (b ∷ base) = day_line day (day_of d) b ++ day_lines (suc day) days base

-- the line at the end: the index as a share of one (it is in ten-thousandths), or that there is none where the totals
-- refuse
abbrev pub index_line : Outcome Totals → List ℕ
index_line (accepted t) = characters "index " ++ fixed_point 4 t.index ++ characters "\n"
index_line (refused n) = characters "index none\n"

-- the header, the days from the first day on, and the index
abbrev pub table : (first_day : ℕ) → (days base : List ℕ) → List ℕ
table first_day days base = characters "day flow base\n" ++ day_lines first_day days base ++ index_line (totals_outcome days base)

-- a refusal of reading is one line with its number; the filter never refuses what a record states (`filter_accepts` in
-- proofs/Sentences.antt), so that there is no other
abbrev pub record_text : Outcome Stated → List ℕ
record_text (accepted s) = table s.first_day s.days (base_flow s.days)
record_text (refused n) = characters "refused " ++ decimal n ++ characters "\n"

-- the most bytes that it takes, and the days that it has room for
unfoldable pub separate_text : List ℕ → List ℕ
separate_text bytes = cond (ltb 32768 (length bytes)) (characters "too long\n") (record_text (reading 2048 bytes))
