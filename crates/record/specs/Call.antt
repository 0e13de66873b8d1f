-- What a record states, or its refusal; what the call answers, and what it leaves in the day list (document 01, "The
-- record" and "Refusal table").
use Rattle.std.specs.Prelude.{ℕ, zero, suc, ◌+◌, Bool, true, false, cond, List, [], ◌∷◌, ◌++◌, map, length}
use Rattle.std.proofs.Math.Option.{Option}
use Rattle.series.specs.Units.{day_of}
use Rattle.numbers.specs.Lists.{stored}
use Rattle.series.specs.Causes.{first_cause, by_cause, Outcome, accepted, refused, by_outcome, map_outcome}
use Rattle.record.specs.declared.Reply.{Reply}
use Rattle.record.specs.Entries.{Entry, entry_of, kind_of, is_end, body_length, value, stated_days, entry_causes}

-- the first day, as days since 1 January 1900, and the days as they stand in the day list
pub record Stated : Type 0 where
  pub first_day : ℕ
  pub days : List ℕ

-- the view of its days: a flow, or none for a missing day
unfoldable pub view_of : Stated → List (Option ℕ)
view_of s = map day_of s.days

-- An entry, and what follows it: the first cause that holds refuses; an end entry accepts; any other entry hands over its
-- days, and reading goes on behind it with so many days more.
unfoldable pub entry_then : Bool → ℕ → ℕ → Entry → (ℕ → Outcome (List ℕ)) → Outcome (List ℕ)
entry_then first n room e further =
    by_cause (first_cause (entry_causes first n room e)) refused
    (cond (is_end e.kind) (accepted []) (map_outcome (λ ds. stated_days e ++ ds) (further (n + length (stated_days e)))))

-- The days that bytes state behind n days. Bytes that end before an end entry are 1. `over` counts the bytes of a body
-- that are still to pass over: the recursion is on the bytes, one by one (proofs/Sentences.antt says it entry by entry).
unfoldable pub days_from : Bool → ℕ → ℕ → ℕ → List ℕ → Outcome (List ℕ)
days_from first n room over [] = refused 1
days_from first n room (suc over) (b ∷ bs) = days_from first n room over bs
days_from first n room zero (b ∷ bs) = entry_then first n room (entry_of b bs) (λ m. days_from false m room (body_length (kind_of b)) bs)

-- the value of the first entry, the head
unfoldable pub first_day_of : List ℕ → ℕ
first_day_of [] = 0
first_day_of (b ∷ bs) = value (entry_of b bs)

-- what a record states, read into a list of `room` days
unfoldable pub reading : ℕ → List ℕ → Outcome Stated
reading room bytes = map_outcome (λ ds. record { first_day = first_day_of bytes; days = ds }) (days_from true 0 room 0 bytes)

-- what an answer has of it: `Reply`, of src/lib.rt, the first day and the number of days
abbrev pub reply_of : Outcome Stated → Outcome Reply
reply_of o = map_outcome (λ s. record { first_day = s.first_day; day_count = length s.days }) o

-- the day list afterwards: the stated days from its start, and the rest as it was; after a refusal all as it was
abbrev pub read_leaves : Outcome Stated → (list : List ℕ) → List ℕ
read_leaves o list = by_outcome o (λ _. list) (λ s. stored list 0 s.days)
