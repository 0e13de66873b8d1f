-- What the private functions ask and promise. No promise of the public call speaks of these definitions.
use Rattle.std.specs.Prelude.{ℕ, zero, suc, ◌*◌, ◌/◌, ◌≤◌, ◌≡◌, Bool, true, false, ◌&&◌, Result, Ok, Err, List, [], ◌∷◌, map, ltb, leb, length, get_or, take, drop}
use Rattle.std.specs.Prelude.{Option as Held, Some, None}
use Rattle.std.proofs.Math.Option.{Option, none, some}
use Rattle.numbers.specs.Arithmetic.{rounded}
use Rattle.numbers.specs.Order.{below}
use Rattle.series.specs.Units.{day_limit, base_of, base_mark, within}
use Rattle.series.specs.Causes.{Cause}
use Rattle.series.specs.declared.Refusal.{Refusal}
use Rattle.series.specs.declared.Refusal.TheVariants.{LineSettingOutOfRange}
use Rattle.minima.specs.declared.LineSetting.{LineSetting}
use Rattle.minima.specs.TurningPoints.{counting}
use Rattle.staggered.specs.declared.Choice.{Choice}
use Rattle.staggered.specs.declared.Choice.TheVariants.{Lowest, Highest, Median}
use Rattle.staggered.specs.declared.day.DayValues.{DayValues}
use Rattle.staggered.specs.Rule.{present, chosen}
use Rattle.staggered.specs.Call.{staggered_causes}

-- the number of a choice
abbrev pub number_of : Choice → ℕ
number_of Lowest = 1
number_of Highest = 2
number_of Median = 3

-- a number is that of a choice, or none's, which is 16
abbrev pub ReadsChoice : ℕ → Result Choice Refusal → Type 0
ReadsChoice n (Ok choice) = (n ≡ number_of choice) × (within 1 3 n ≡ true)
ReadsChoice n (Err refusal) = (within 1 3 n ≡ false) × (refusal ≡ LineSettingOutOfRange)

-- what the code's option holds
abbrev pub option_of : Held ℕ → Option ℕ
option_of None = none
option_of (Some v) = some v

-- of the first k lines, each of so many days and one behind the other, what stands for day t
unfoldable pub of_lines : (work : List ℕ) → (days t k : ℕ) → List ℕ
of_lines work days t zero = []
of_lines work days t (suc k) = get_or work t 0 ∷ of_lines (drop days work) days t k

-- of all of them
unfoldable pub column : (work : List ℕ) → (days t : ℕ) → List ℕ
column work days t = of_lines work days t (length work / days)

-- what that shows: a value or none for each line
abbrev pub shown_on : (work : List ℕ) → (days t : ℕ) → List (Option ℕ)
shown_on work days t = map base_of (column work days t)

-- the same of a day in the code: its numbers, what they show, and the values among them
abbrev pub numbers_of : DayValues → List ℕ
numbers_of day = column day.lines.now day.days day.t

abbrev pub shown_by : DayValues → List (Option ℕ)
shown_by day = map base_of (numbers_of day)

abbrev pub values_of : DayValues → List ℕ
values_of day = present (shown_by day)

-- the chosen value of each day, as it stands in the base list
unfoldable pub chosen_from : Choice → (work : List ℕ) → (days : ℕ) → List ℕ
chosen_from choice work days = map (λ t. base_mark (chosen rounded (number_of choice) (shown_on work days t))) (counting 0 days)

-- a work list for so many lines, each of so many days
pub record Sized (work : List ℕ) (lines days : ℕ) : Type 0 where
  pub lines_few : lines ≤ 30
  pub days_few : days ≤ day_limit
  pub whole : lines * days ≡ length work

-- whether a value has rank k: fewer than k are smaller, and at least k are at most that
abbrev pub has_rank : (k v : ℕ) → List ℕ → Bool
has_rank k v l = ltb (below v l) k && leb k (below (suc v) l)

-- the causes that are tested before a line is looked for
abbrev pub first_causes : LineSetting → (choice : ℕ) → (days base work : List ℕ) → List Cause
first_causes s choice days base work = take 5 (staggered_causes s choice days base work)
