-- How long the text can be: it fits a buffer of 65,536 bytes.
-- Assumes nothing.
use Prim.Native.Nat.{ℕ, suc, ◌+◌, ◌*◌, ◌/◌, ◌≤◌, ◌<◌}
use mathlib.Core.Path.{◌≡◌, refl}
use mathlib.Core.List.{List, [], ◌∷◌, map}
use mathlib.Core.Option.{Option, none, some}
use native.Mathlib.Omega.{arith}
use lib.ListN.{length, get_or, length-append}
use Rattle.series.specs.Units.{day_of}
use Rattle.series.specs.Causes.{Outcome, accepted, refused}
use Rattle.series.proofs.Views.{Valid, valid_days}
use Rattle.record.specs.Call.{Stated, reading}
use Rattle.record.proofs.Accepting.{accepted_record, reading_refused}
use Rattle.filter.specs.declared.start.Start.TheVariants.{Usual}
use Rattle.filter.specs.Methods.{Usable}
use Rattle.filter.proofs.Calls.{method_1_usable, one_pass, usual_start}
use Rattle.filter.proofs.Sentences.{base_at_most}
use Rattle.totals.specs.declared.Totals.{Totals}
use Rattle.totals.specs.Call.{totals_outcome}
use Rattle.totals.proofs.Outcomes.{index_at_most}
use Rattle.report.specs.Text.{setting, base_flow, day_line, day_lines, index_line, record_text}
use Rattle.report.proofs.Numerals.{decimal_length, last_length}

-- the setting is accepted
pub usable : Usable setting
usable = method_1_usable setting refl (omega arith) (omega arith) refl refl

-- where no base value of a present day lies above its flow
abbrev AtMostFlow : (days : List (Option ℕ)) → (base : List ℕ) → Type 0
AtMostFlow days base = (t y : ℕ) → get_or days t none ≡ some y → get_or base t 0 ≤ 1000 * y

-- a line has at most 29 characters: six, eight and twelve for day, flow and base, two spaces and the end
line_length : (day : ℕ) (o : Option ℕ) (ds : List (Option ℕ)) (b : ℕ) (bs : List ℕ) → Valid (o ∷ ds) → AtMostFlow (o ∷ ds) (b ∷ bs) → day < 1000000 → (length (day_line day o b) ≤ 29) × Valid ds
line_length day none ds b bs v m h = (simp length-append (omega (arith, decimal_length 5 day h)), v)
line_length day (some y) ds b bs v m h =
    let at_most = m 0 y refl in
    (simp length-append (omega (arith, decimal_length 5 day h, decimal_length 7 y (omega arith), decimal_length 7 (b / 1000) (omega arith), last_length 3 b)), v.1)

lines_length : (day : ℕ) (days base : List ℕ) → Valid (map day_of days) → AtMostFlow (map day_of days) base → day + length days ≤ 1000000 → length (day_lines day days base) ≤ 29 * length days
unfolding day_lines
lines_length day [] base v m h = omega arith
lines_length day (d ∷ ds) [] v m h = omega arith
lines_length day (d ∷ ds) (b ∷ bs) v m h =
    let a = line_length day (day_of d) (map day_of ds) b bs v m (omega arith) in
    let more = lines_length (suc day) ds bs a.1 (λ t. m (suc t)) (omega arith) in
    simp length-append (omega (arith, a.0))

-- the last line has at most 13
index_length : (o : Outcome Totals) → ((t : Totals) → o ≡ accepted t → t.index ≤ 10000) → length (index_line o) ≤ 13
index_length (refused n) h = omega arith
index_length (accepted t) h = let i = h t refl in simp length-append (omega (arith, decimal_length 0 (t.index / 10000) (omega arith), last_length 4 t.index))

-- a table of at most 2,048 days
pub record_length : (bytes : List ℕ) (o : Outcome Stated) → reading 2048 bytes ≡ o → length (record_text o) ≤ 59419
record_length bytes (refused n) e = let r = reading_refused 2048 bytes e in simp length-append (omega (arith, decimal_length 0 n (omega arith)))
record_length bytes (accepted s) e =
    let a = accepted_record 2048 bytes e in
    let ds = s.days in
    let lines = lines_length s.first_day ds (base_flow ds) (valid_days ds a.valid) (λ t y. base_at_most setting 1 usable (one_pass setting) Usual ds (usual_start (map day_of ds)) t) (omega arith) in
    let last = index_length (totals_outcome ds (base_flow ds)) (λ t. index_at_most ds (base_flow ds)) in
    simp length-append (omega (arith, lines, last, a.within_room))
