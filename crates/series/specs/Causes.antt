-- Refusals (document 01, "Refusal table"): of a call's causes, in the call's order, the first that holds decides.
use Rattle.std.specs.Prelude.{ℕ, ◌≡◌, Bool, cond, List, [], ◌∷◌, Result, Ok, Err}
use Rattle.std.proofs.Math.Option.{Option, none, some}
use Rattle.series.specs.declared.Refusal.{Refusal}
use Rattle.series.specs.declared.Refusal.TheVariants.{Truncated, UnknownKind, MisplacedHead, ValueOutOfRange, TooManyDays, DayListTooShort, WrongEndCount, BytesAfterEnd, DayListTooLong, InvalidDay, UnknownMethod, ParameterOutOfRange, InvalidPasses, LengthsDiffer, InvalidState, LineSettingOutOfRange, NoLine, LimbDaysOutOfRange, NoRatio, InvalidBase, NoFlow, LimbListTooShort, DurationOutOfRange, InvalidSpell, WorkListLength, InvalidReading, ReadingTooLarge, InvalidPresence, StartTooHigh, RecordTooLong, LicenceOutOfRange}

-- document 01's number of each refusal
abbrev pub refusal_number : Refusal → ℕ
refusal_number Truncated = 1
refusal_number UnknownKind = 2
refusal_number MisplacedHead = 3
refusal_number ValueOutOfRange = 4
refusal_number TooManyDays = 5
refusal_number DayListTooShort = 6
refusal_number WrongEndCount = 7
refusal_number BytesAfterEnd = 8
refusal_number DayListTooLong = 9
refusal_number InvalidDay = 10
refusal_number UnknownMethod = 11
refusal_number ParameterOutOfRange = 12
refusal_number InvalidPasses = 13
refusal_number LengthsDiffer = 14
refusal_number InvalidState = 15
refusal_number LineSettingOutOfRange = 16
refusal_number NoLine = 17
refusal_number LimbDaysOutOfRange = 18
refusal_number NoRatio = 19
refusal_number InvalidBase = 20
refusal_number NoFlow = 21
refusal_number LimbListTooShort = 22
refusal_number DurationOutOfRange = 23
refusal_number InvalidSpell = 24
refusal_number WorkListLength = 25
refusal_number InvalidReading = 26
refusal_number ReadingTooLarge = 27
refusal_number InvalidPresence = 28
refusal_number StartTooHigh = 29
refusal_number RecordTooLong = 30
refusal_number LicenceOutOfRange = 31

-- the number of a check's or a call's refusal, or none where it accepts
abbrev pub refusal_of : {A : Type 0} → Result A Refusal → Option ℕ
refusal_of (Ok _) = none
refusal_of (Err r) = some (refusal_number r)

-- a cause of refusal: whether it holds, and its number
pub record Cause : Type 0 where
  pub holds : Bool
  pub number : ℕ

abbrev pub cause : Bool → ℕ → Cause
cause b n = record { holds = b; number = n }

-- the number of the first cause that holds; none where none does, and then the call accepts
abbrev pub first_cause : List Cause → Option ℕ
first_cause [] = none
first_cause (c ∷ cs) = cond c.holds (some c.number) (first_cause cs)

-- what a call comes to by its first cause: what that makes of its number, or else what an accepted call has
abbrev pub by_cause : {A : Type 0} → Option ℕ → (refuse : ℕ → A) → (accept : A) → A
by_cause none refuse accept = accept
by_cause (some n) refuse accept = refuse n

-- what a call answers: its values, or the number of its refusal
pub data Outcome (A : Type 0) : Type 0 where
  accepted : A → Outcome A
  refused : ℕ → Outcome A

-- the outcome of a call by its answer in the program
abbrev pub outcome_of : {A : Type 0} → Result A Refusal → Outcome A
outcome_of (Ok a) = accepted a
outcome_of (Err r) = refused (refusal_number r)

-- what follows of an outcome: of its number, or of its values
abbrev pub by_outcome : {A B : Type 0} → Outcome A → (refuse : ℕ → B) → (accept : A → B) → B
by_outcome (accepted a) refuse accept = accept a
by_outcome (refused n) refuse accept = refuse n

-- an outcome with its values changed
abbrev pub map_outcome : {A B : Type 0} → (A → B) → Outcome A → Outcome B
map_outcome f (accepted a) = accepted (f a)
map_outcome f (refused n) = refused n

-- the values where no cause holds, and else the first cause's number
abbrev pub outcome : {A : Type 0} → List Cause → A → Outcome A
outcome cs a = by_cause (first_cause cs) refused (accepted a)

-- what a call leaves in a buffer, or in a state: what it fills in where no cause holds, and else what was there at entry
unfoldable pub leaves : {A : Type 0} → List Cause → (filled entry : A) → A
leaves cs filled entry = by_cause (first_cause cs) (λ _. entry) filled

-- a check accepts where no cause of a list holds, and else refuses by the first that does
pub record Decides (cs : List Cause) (r : Result Unit Refusal) : Type 0 where
  pub first : refusal_of r ≡ first_cause cs
