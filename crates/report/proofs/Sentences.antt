-- READ THIS FIRST. What makes the text of specs/ believable, proved of its definitions. Of the crates below, record's
-- `reading_refused` says that a refusal of reading has a number from 1 to 8, and totals' `index_at_most` that the index is
-- at most 1.0000.
-- Assumes nothing.
use Prim.Native.Nat.{ℕ, ◌+◌, ◌*◌, ◌%◌, ◌^◌, ◌≤◌, ◌<◌}
use mathlib.Core.Path.{◌≡◌, refl, sym}
use mathlib.Core.Bool.{Bool, true, false, cond}
use mathlib.Core.List.{List, [], ◌++◌, map}
use mathlib.Core.Option.{none, some}
use native.Mathlib.Nat.{add-suc, le_refl}
use native.Mathlib.Numerals.{add-one}
use native.Mathlib.Omega.{arith}
use lib.Dec.{ltb}
use lib.ListN.{length, get_or, drop, drop_of_length-le}
use lib.Seq.{drop-cons}
use Rattle.series.specs.Units.{day_of}
use Rattle.series.specs.Causes.{first_cause, accepted}
use Rattle.series.proofs.Tests.{not_too_long}
use Rattle.record.specs.Call.{Stated, reading}
use Rattle.record.proofs.Accepting.{accepted_record}
use Rattle.filter.specs.declared.start.Start.TheVariants.{Usual}
use Rattle.filter.specs.Call.{filter_causes}
use Rattle.filter.proofs.Calls.{one_pass, usual_start}
use Rattle.filter.proofs.Calls as filter
use Rattle.filter.proofs.Sentences.{base_at_most}
use Rattle.report.specs.Decimal.{characters, decimal, last_digits, DigitsOf, DecimalOf}
use Rattle.report.specs.Text.{setting, base_flow, day_line, day_lines, record_text, separate_text}
use Rattle.report.proofs.Numerals.{says_within, last_digits_lem, last_length}
use Rattle.report.proofs.Lengths.{usable, record_length}

-- the digits of a number, read from the left in base ten, say the number; there is at least one, and no zero stands before
-- others
decimal_says : (n : ℕ) → DecimalOf n (decimal n)
decimal_says n = says_within n n (le_refl n)

-- its last k digits say its remainder by 10^k, and are k, so leading zeros are kept
last_say : (k n : ℕ) → DigitsOf (n % 10 ^ k) (last_digits k n) × (length (last_digits k n) ≡ k)
last_say k n = (last_digits_lem k n, last_length k n)

-- the line of the day at position t is that of the first day + t, and the later days' lines follow it
pub line_at : (first : ℕ) (days base : List ℕ) (t : ℕ) → t < length days → t < length base
    → day_lines (first + t) (drop t days) (drop t base) ≡ day_line (first + t) (day_of (get_or days t 0)) (get_or base t 0) ++ day_lines (first + (t + 1)) (drop (t + 1) days) (drop (t + 1) base)
unfolding day_lines
line_at first days base t h g = rw (add-one, drop-cons days t 0, drop-cons base t 0) (rw add-suc)

-- and no line follows that of the last day
pub no_line : (first : ℕ) (days base : List ℕ) (t : ℕ) → length days ≤ t → day_lines (first + t) (drop t days) (drop t base) ≡ []
unfolding day_lines
no_line first days base t h = rw (drop_of_length-le days h)

-- on a present day the number in the base list is a base value, between zero and the flow: no mark is printed
base_within : (days : List ℕ) (t : ℕ) {y : ℕ} → get_or (map day_of days) t none ≡ some y → get_or (base_flow days) t 0 ≤ 1000 * y
base_within days = base_at_most setting 1 usable (one_pass setting) Usual days (usual_start (map day_of days))

-- the filter refuses no days that a record states, where it is lent a base list of their number: so any other refusal than
-- the totals' is one of reading
pub filter_accepts : (room : ℕ) (bytes : List ℕ) {s : Stated} → reading room bytes ≡ accepted s → (base : List ℕ) → length base ≡ length s.days → first_cause (filter_causes setting 1 Usual s.days base) ≡ none
filter_accepts room bytes {s} e base l =
    let a = accepted_record room bytes e in
    filter.filter_accepts (record { usable = usable; passes = one_pass setting; few = not_too_long s.days a.within_limit; same_length = sym l; valid = a.valid; start = usual_start (map day_of s.days) })

-- the longest text has at most 14 + 2,048 × 29 + 13 bytes
pub text_length : (bytes : List ℕ) → length (separate_text bytes) ≤ 59419
unfolding separate_text
text_length bytes = by_test (ltb 32768 (length bytes))
  where
    by_test : (b : Bool) → length (cond b (characters "too long\n") (record_text (reading 2048 bytes))) ≤ 59419
    by_test true = omega arith
    by_test false = record_length bytes (reading 2048 bytes) refl
