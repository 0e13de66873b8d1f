-- The record that is written of a first day and a day list, and the call that writes it (docs/RULES.md, "The record").
use Rattle.std.specs.Prelude.{ℕ, zero, suc, ◌/◌, ◌%◌, cond, List, [], ◌∷◌, ◌++◌, length, drop, ltb}
use Rattle.std.proofs.Math.Option.{some}
use Rattle.series.specs.Units.{is_missing}
use Rattle.series.specs.Causes.{Cause, cause, Outcome, outcome, leaves}
use Rattle.series.specs.Lists.{too_long, any_invalid_day}
use Rattle.record.specs.declared.entry.Kind.{Kind}
use Rattle.record.specs.declared.entry.Kind.TheVariants.{Head, Flow, MissingDay, MissingDays, End}
use Rattle.record.specs.Entries.{body_length, out_of_range}

-- the byte that names a kind
abbrev pub byte_of : Kind → ℕ
byte_of Head = 0x01
byte_of Flow = 0x02
byte_of MissingDay = 0x03
byte_of MissingDays = 0x04
byte_of End = 0x09

-- n in `count` bytes, the lowest first
unfoldable pub bytes_of : (count : ℕ) → ℕ → List ℕ
bytes_of zero n = []
bytes_of (suc k) n = n % 256 ∷ bytes_of k (n / 256)

-- an entry: the byte of its kind, and its value in as many bytes as its body has
abbrev pub entry_bytes : Kind → (value : ℕ) → List ℕ
entry_bytes k v = byte_of k ∷ bytes_of (body_length (some k)) v

-- a longest gap of so many missing days: of none nothing, of one kind 03, of two or more one kind 04
unfoldable pub gap_entry : ℕ → List ℕ
gap_entry zero = []
gap_entry (suc zero) = entry_bytes MissingDay 0
gap_entry (suc (suc n)) = entry_bytes MissingDays (suc (suc n))

-- The entries of days that stand behind so many missing ones: each day that is missing makes the gap longer, and its
-- entry stands before the next flow's, or at the end.
unfoldable pub entries : (gap : ℕ) → List ℕ → List ℕ
unfolding gap_entry
entries gap [] = gap_entry gap
entries gap (d ∷ ds) = cond (is_missing d) (entries (suc gap) ds) (gap_entry gap ++ entry_bytes Flow d ++ entries 0 ds)

-- the record: the head, each day in order, and the end with the number of days
unfoldable pub written : (first_day : ℕ) → (days : List ℕ) → List ℕ
unfolding entries
written first_day days = entry_bytes Head first_day ++ entries 0 days ++ entry_bytes End (length days)

-- order: write 9, 4, 10, 30
unfoldable pub write_causes : (first_day : ℕ) → (days bytes : List ℕ) → List Cause
write_causes first_day days bytes =
    cause (too_long days) 9
    ∷ cause (out_of_range (some Head) first_day) 4
    ∷ cause (any_invalid_day days) 10
    ∷ cause (ltb (length bytes) (length (written first_day days))) 30
    ∷ []

-- the answer is the record's length
abbrev pub write_outcome : (first_day : ℕ) → (days bytes : List ℕ) → Outcome ℕ
write_outcome first_day days bytes = outcome (write_causes first_day days bytes) (length (written first_day days))

-- the output afterwards: the record from its start, and the rest as it was; after a refusal all as it was
abbrev pub write_leaves : (first_day : ℕ) → (days bytes : List ℕ) → List ℕ
write_leaves first_day days bytes = leaves (write_causes first_day days bytes) (written first_day days ++ drop (length (written first_day days)) bytes) bytes
