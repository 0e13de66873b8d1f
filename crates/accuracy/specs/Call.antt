-- One run from the bytes to the index: reading, then the chosen call over the days that were read, then the totals over
-- those days and the base list that it filled. Each stage says what it came to, and leaves its own buffer as it was where
-- it refuses.
use Rattle.std.specs.Prelude.{ℕ, min, List, ◌++◌, length, take, drop, Result}
use Rattle.series.specs.Causes.{Outcome, outcome_of, by_outcome, map_outcome, outcome, leaves}
use Rattle.series.specs.declared.Refusal.{Refusal}
use Rattle.record.specs.Call.{Stated, reading, read_leaves}
use Rattle.totals.specs.declared.Totals.{Totals}
use Rattle.totals.specs.Call.{totals_outcome}
use Rattle.accuracy.specs.declared.Choice.{Choice}
use Rattle.accuracy.specs.declared.Separation.{Separation}
use Rattle.accuracy.specs.Choosing.{chosen_causes, base_list}

-- what follows where reading accepts: the first day and the number of days, and what base flow comes to, which is a refusal
-- or what the totals come to
pub record Separated : Type 0 where
  pub first_day : ℕ
  pub day_count : ℕ
  pub base_flow : Outcome (Outcome Totals)

-- the front of the base list that the days need, or all of it where it is too short for them
abbrev pub front : (days base : List ℕ) → List ℕ
front days base = take (min (length days) (length base)) base

abbrev pub behind : (days base : List ℕ) → List ℕ
behind days base = drop (min (length days) (length base)) base

-- the chosen call and the totals, over the days that were read
unfoldable pub base_flow_over : Choice → (days base : List ℕ) → Outcome (Outcome Totals)
base_flow_over choice days base = outcome (chosen_causes choice days (front days base)) (totals_outcome days (base_list choice days))

-- the base list afterwards: the rounded run from its start and the rest as it was; after a refusal all as it was
unfoldable pub base_flow_leaves : Choice → (days base : List ℕ) → List ℕ
base_flow_leaves choice days base = leaves (chosen_causes choice days (front days base)) (base_list choice days ++ behind days base) base

-- a run: what it answers, and the day list and the base list at exit
pub record Run : Type 0 where
  pub answer : Outcome Separated
  pub days : List ℕ
  pub base : List ℕ

-- what follows reading
abbrev pub separated : Choice → (base : List ℕ) → Stated → Separated
separated choice base s = record { first_day = s.first_day; day_count = length s.days; base_flow = base_flow_over choice s.days base }

abbrev pub after_reading : Outcome Stated → Choice → (days base : List ℕ) → Run
after_reading o choice days base =
    record { answer = map_outcome (separated choice base) o; days = read_leaves o days; base = by_outcome o (λ _. base) (λ s. base_flow_leaves choice s.days base) }

-- THE RUN over bytes, a choice and two lists that are lent; a refusal of reading leaves both lists as they were
abbrev pub run : (bytes : List ℕ) → Choice → (days base : List ℕ) → Run
run bytes choice days base = after_reading (reading (length days) bytes) choice days base

-- the answer of the program as document 01's numbers and values
abbrev pub base_flow_of : Result (Result Totals Refusal) Refusal → Outcome (Outcome Totals)
base_flow_of r = map_outcome outcome_of (outcome_of r)

abbrev pub separated_of : Result Separation Refusal → Outcome Separated
separated_of r = map_outcome (λ s. record { first_day = s.first_day; day_count = s.day_count; base_flow = base_flow_of s.base_flow }) (outcome_of r)

-- a run of the code: its answer, and the lists that it leaves
abbrev pub run_of : Result Separation Refusal → (days base : List ℕ) → Run
run_of r days base = record { answer = separated_of r; days = days; base = base }
