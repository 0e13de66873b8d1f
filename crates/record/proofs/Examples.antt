-- Worked records: one list of records with what each comes to, and one result over it, computed from the definitions; and
-- likewise days with the record that is written of them.
-- Bytes are hexadecimal, as in document 01.
-- Assumes nothing.
use Prim.Native.Nat.{ℕ}
use mathlib.Core.Path.{◌≡◌, refl, ap₂}
use mathlib.Core.List.{List, [], ◌∷◌, ◌++◌, map}
use mathlib.Core.Option.{none, some}
use lib.ListN.{replicate}
use Rattle.std.proofs.lemmas.List.{length-replicate}
use Rattle.record.specs.declared.entry.Kind.TheVariants.{Head, End}
use Rattle.record.proofs.Sentences.{gap_then_end}
use Rattle.series.specs.Units.{number, missing_mark, is_flow, is_missing, is_invalid_day, day_of, within}
use Rattle.series.specs.Causes.{Outcome, accepted, refused, leaves}
use Rattle.record.specs.Entries.{kind_of, entry_causes}
use Rattle.series.specs.Lists.{too_long, any_invalid_day}
use Rattle.record.specs.Writing.{bytes_of, entry_bytes, gap_entry, entries, written as record_of, write_causes, write_outcome, write_leaves}
use Rattle.record.specs.Call.{Stated, view_of, entry_then, days_from, first_day_of, reading, read_leaves}

-- bytes, read into a list of `room` days, and what they come to
record Example : Type 0 where
  room : ℕ
  bytes : List ℕ
  outcome : Outcome Stated

abbrev example : ℕ → List ℕ → Outcome Stated → Example
example room bytes outcome = record { room = room; bytes = bytes; outcome = outcome }

abbrev states : ℕ → List ℕ → Outcome Stated
states first_day days = accepted (record { first_day = first_day; days = days })

-- a head of day 0, a flow of 100, an end of few days, 36,525 missing days
abbrev head : List ℕ
head = 0x01 ∷ 0x00 ∷ 0x00 ∷ 0x00 ∷ 0x00 ∷ []

abbrev flow : List ℕ
flow = 0x02 ∷ 0x64 ∷ 0x00 ∷ 0x00 ∷ 0x00 ∷ []

abbrev end : ℕ → List ℕ
end n = 0x09 ∷ n ∷ 0x00 ∷ 0x00 ∷ 0x00 ∷ []

abbrev gap : List ℕ
gap = 0x04 ∷ 0xAD ∷ 0x8E ∷ []

-- document 01's record of four days
abbrev four_days : List ℕ
four_days = head ++ flow ++ 0x02 ∷ 0xC8 ∷ 0x00 ∷ 0x00 ∷ 0x00 ∷ 0x03 ∷ 0x02 ∷ 0x32 ∷ 0x00 ∷ 0x00 ∷ 0x00 ∷ end 4

-- it, head and end alone, the largest values, numbers of several bytes, and as many days as a list may have
abbrev accepted_ones : List Example
accepted_ones =
    example 2048 four_days (states 0 (100 ∷ 200 ∷ missing_mark ∷ 50 ∷ []))
    ∷ example 0 (head ++ end 0) (states 0 [])
    ∷ example 1 (0x01 ∷ 0x9F ∷ 0x86 ∷ 0x01 ∷ 0x00 ∷ 0x02 ∷ 0x80 ∷ 0x96 ∷ 0x98 ∷ 0x00 ∷ end 1) (states 99999 (10000000 ∷ []))
    ∷ example 3 (0x01 ∷ 0x01 ∷ 0x02 ∷ 0x00 ∷ 0x00 ∷ 0x04 ∷ 0x03 ∷ 0x00 ∷ end 3) (states 513 (missing_mark ∷ missing_mark ∷ missing_mark ∷ []))
    ∷ example 36525 (head ++ gap ++ 0x09 ∷ 0xAD ∷ 0x8E ∷ 0x00 ∷ 0x00 ∷ []) (states 0 (replicate 36525 missing_mark))
    ∷ []

-- each refusal, 1 to 8, by each of its causes
abbrev refused_ones : List Example
refused_ones =
    example 9 [] (refused 1)
    ∷ example 9 (head ++ flow) (refused 1)
    ∷ example 9 (head ++ 0x02 ∷ 0x64 ∷ 0x00 ∷ 0x00 ∷ []) (refused 1)
    ∷ example 9 (head ++ 0x04 ∷ 0x01 ∷ []) (refused 1)
    ∷ example 9 (head ++ 0x09 ∷ 0x00 ∷ 0x00 ∷ 0x00 ∷ []) (refused 1)
    ∷ example 9 (head ++ 0x05 ∷ []) (refused 2)
    ∷ example 9 (flow ++ end 1) (refused 3)
    ∷ example 9 (end 0) (refused 3)
    ∷ example 9 (head ++ head ++ end 0) (refused 3)
    ∷ example 9 (0x01 ∷ 0xA0 ∷ 0x86 ∷ 0x01 ∷ 0x00 ∷ end 0) (refused 4)
    ∷ example 9 (head ++ 0x02 ∷ 0x81 ∷ 0x96 ∷ 0x98 ∷ 0x00 ∷ end 1) (refused 4)
    ∷ example 9 (head ++ 0x02 ∷ 0xFF ∷ 0xFF ∷ 0xFF ∷ 0xFF ∷ end 1) (refused 4)
    ∷ example 9 (head ++ 0x04 ∷ 0x00 ∷ 0x00 ∷ end 0) (refused 4)
    ∷ example 40000 (head ++ gap ++ flow ++ end 0) (refused 5)
    ∷ example 1 (head ++ flow ++ 0x03 ∷ end 2) (refused 6)
    ∷ example 9 (head ++ flow ++ end 2) (refused 7)
    ∷ example 9 (head ++ flow ++ 0x09 ∷ 0xFF ∷ 0xFF ∷ 0xFF ∷ 0xFF ∷ []) (refused 7)
    ∷ example 9 (head ++ flow ++ end 1 ++ 0x00 ∷ []) (refused 8)
    ∷ []

-- Two neighbouring causes hold, and the earlier in the order wins: 2 and 3, 3 and 1, 1 and 4, 4 and 5, 5 and 6, 6 and 7,
-- 7 and 8. Behind each stands the record without the earlier cause.
abbrev neighbours : List Example
neighbours =
    example 9 (0x05 ∷ []) (refused 2)
    ∷ example 9 (0x03 ∷ []) (refused 3)
    ∷ example 9 (0x02 ∷ 0x64 ∷ []) (refused 3)
    ∷ example 9 (head ++ 0x02 ∷ 0x64 ∷ []) (refused 1)
    ∷ example 9 (0x01 ∷ 0xFF ∷ 0xFF ∷ 0xFF ∷ []) (refused 1)
    ∷ example 9 (0x01 ∷ 0xFF ∷ 0xFF ∷ 0xFF ∷ 0x00 ∷ []) (refused 4)
    ∷ example 40000 (head ++ gap ++ 0x02 ∷ 0x81 ∷ 0x96 ∷ 0x98 ∷ 0x00 ∷ []) (refused 4)
    ∷ example 40000 (head ++ gap ++ 0x02 ∷ 0x80 ∷ 0x96 ∷ 0x98 ∷ 0x00 ∷ []) (refused 5)
    ∷ example 9 (head ++ 0x04 ∷ 0xAE ∷ 0x8E ∷ []) (refused 5)
    ∷ example 9 (head ++ 0x04 ∷ 0xAD ∷ 0x8E ∷ []) (refused 6)
    ∷ example 1 (head ++ flow ++ flow ++ end 3) (refused 6)
    ∷ example 2 (head ++ flow ++ flow ++ end 3) (refused 7)
    ∷ example 9 (head ++ flow ++ end 2 ++ 0x00 ∷ []) (refused 7)
    ∷ example 9 (head ++ flow ++ end 1 ++ 0x00 ∷ []) (refused 8)
    ∷ []

abbrev examples : List Example
examples = accepted_ones ++ refused_ones ++ neighbours

worked : map (λ x. reading x.room x.bytes) examples ≡ map (λ x. x.outcome) examples
unfolding reading days_from entry_then entry_causes first_day_of kind_of number within
worked = refl

-- the four days in a longer list, whose rest stays; a refusal, which leaves the list; the view of the days
written : read_leaves (reading 6 four_days) (7 ∷ 7 ∷ 7 ∷ 7 ∷ 8 ∷ 9 ∷ []) ≡ 100 ∷ 200 ∷ missing_mark ∷ 50 ∷ 8 ∷ 9 ∷ []
unfolding reading days_from entry_then entry_causes first_day_of kind_of number within
written = refl

left_alone : read_leaves (reading 3 four_days) (7 ∷ 8 ∷ 9 ∷ []) ≡ 7 ∷ 8 ∷ 9 ∷ []
unfolding reading days_from entry_then entry_causes first_day_of kind_of number within
left_alone = refl

viewed : view_of (record { first_day = 0; days = 100 ∷ 200 ∷ missing_mark ∷ 50 ∷ [] }) ≡ some 100 ∷ some 200 ∷ none ∷ some 50 ∷ []
unfolding view_of day_of
viewed = refl

-- a first day, days and an output of so many bytes, and what is answered
record Writing : Type 0 where
  first_day : ℕ
  days : List ℕ
  room : ℕ
  outcome : Outcome ℕ

abbrev writing : ℕ → List ℕ → ℕ → Outcome ℕ → Writing
writing first_day days room outcome = record { first_day = first_day; days = days; room = room; outcome = outcome }

-- outputs that are just long enough, each refusal, and of two neighbouring causes the earlier: 9 and 4, 4 and 10, 10 and 30
abbrev writings : List Writing
writings =
    writing 0 (100 ∷ 200 ∷ missing_mark ∷ 50 ∷ []) 26 (accepted 26)
    ∷ writing 99999 [] 10 (accepted 10)
    ∷ writing 0 (replicate 300 missing_mark) 13 (accepted 13)
    ∷ writing 100000 (replicate 36526 missing_mark) 13 (refused 9)
    ∷ writing 100000 (10000001 ∷ []) 15 (refused 4)
    ∷ writing 99999 (10000001 ∷ []) 14 (refused 10)
    ∷ writing 99999 (10000000 ∷ []) 14 (refused 30)
    ∷ []

weighed : map (λ x. write_outcome x.first_day x.days (replicate x.room 7)) writings ≡ map (λ x. x.outcome) writings
unfolding write_causes record_of entries gap_entry bytes_of too_long any_invalid_day is_invalid_day is_flow is_missing within
weighed = refl

-- document 01's record of four days; gaps of two, one and 300 days, first, between flows and last; a longer output, whose rest
-- stays; and one that is too short
made : record_of 0 (100 ∷ 200 ∷ missing_mark ∷ 50 ∷ []) ≡ four_days
unfolding record_of entries gap_entry bytes_of is_missing
made = refl

gaps_made : record_of 513 (missing_mark ∷ missing_mark ∷ 100 ∷ missing_mark ∷ 100 ∷ replicate 300 missing_mark)
    ≡ 0x01 ∷ 0x01 ∷ 0x02 ∷ 0x00 ∷ 0x00 ∷ 0x04 ∷ 0x02 ∷ 0x00 ∷ flow ++ 0x03 ∷ flow ++ 0x04 ∷ 0x2C ∷ 0x01 ∷ 0x09 ∷ 0x31 ∷ 0x01 ∷ 0x00 ∷ 0x00 ∷ []
unfolding record_of entries gap_entry bytes_of is_missing
gaps_made = refl

-- as many missing days as a list may have
full_gap : record_of 0 (replicate 36525 missing_mark) ≡ head ++ 0x04 ∷ 0xAD ∷ 0x8E ∷ 0x09 ∷ 0xAD ∷ 0x8E ∷ 0x00 ∷ 0x00 ∷ []
unfolding record_of gap_entry bytes_of
full_gap = ap₂ (λ gap n. entry_bytes Head 0 ++ gap ++ entry_bytes End n) (gap_then_end 36525) (length-replicate 36525 missing_mark)

rest_left : write_leaves 0 [] (replicate 12 7) ≡ head ++ end 0 ++ 7 ∷ 7 ∷ []
unfolding write_causes leaves record_of entries gap_entry bytes_of too_long any_invalid_day within
rest_left = refl

output_left : write_leaves 0 [] (replicate 9 7) ≡ replicate 9 7
unfolding write_causes leaves record_of entries gap_entry bytes_of too_long any_invalid_day within
output_left = refl
