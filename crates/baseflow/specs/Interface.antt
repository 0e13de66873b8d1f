-- The C interface (include/baseflow.h): what a function returns and writes, of what its call comes to.
use Rattle.std.specs.Prelude.{ℕ, cond, eqb, ℤ, Some, None}
use Rattle.std.specs.Prelude as Code
use Rattle.std.proofs.Math.Option.{Option}
use Rattle.series.specs.Units.{base_mark}
use Rattle.series.specs.Causes.{Outcome, by_cause, by_outcome}
use Rattle.filter.specs.declared.Setting.{Setting}
use Rattle.filter.specs.declared.Yesterday.{Yesterday}
use Rattle.filter.specs.declared.DailyFilter.{DailyFilter}
use Rattle.filter.specs.Daily.{fresh, after}
use Rattle.filter.specs.Call.{StepOutcome}
use Rattle.minima.specs.declared.LineSetting.{LineSetting}
use Rattle.licence.specs.declared.Licence.{Licence}
use Rattle.baseflow.specs.declared.StateNumbers.{StateNumbers}

-- what is returned: 0, or the number of the refusal
abbrev pub returned : {A : Type 0} → Outcome A → ℕ
returned o = by_outcome o (λ n. n) (λ _. 0)

-- the same, by the first cause of refusal
abbrev pub returned_cause : Option ℕ → ℕ
returned_cause first = by_cause first (λ n. n) 0

-- an out-parameter at exit: one of the values, or what it was where the call refuses
abbrev pub handed_out : {A : Type 0} → (A → ℕ) → Outcome A → ℕ → ℕ
handed_out value o entry = by_outcome o (λ _. entry) value

-- settings, and a licence
abbrev pub setting_of : (method p q : ℕ) → (s : ℤ) → Setting
setting_of method p q s = record { method = method; p = p; q = q; s = s }

abbrev pub line_setting_of : (block_days factor : ℕ) → LineSetting
line_setting_of block_days factor = record { block_days = block_days; factor = factor }

abbrev pub licence_of : (daily_limit quota : ℕ) → Licence
licence_of daily_limit quota = record { daily_limit = daily_limit; quota = quota }

-- the daily step's state in three numbers: has_yesterday 0 is the fresh state, anything else a yesterday with flow and base
unfoldable pub state_of : (has flow base : ℕ) → DailyFilter
state_of has flow base = cond (eqb has 0) fresh (after flow base)

-- a state as it is handed out: 1 with yesterday's flow and base, or all three 0
abbrev pub state_numbers : Code.Option Yesterday → StateNumbers
state_numbers None = record { has = 0; flow = 0; base = 0 }
state_numbers (Some yesterday) = record { has = 1; flow = yesterday.flow; base = yesterday.base }

-- one of the state's numbers at exit of a step, or what it was where the step refuses
abbrev pub state_out : (StateNumbers → ℕ) → StepOutcome → ℕ → ℕ
state_out number s entry = handed_out (λ _. number (state_numbers s.state.yesterday)) s.outcome entry

-- the day's base value at exit, 2^64 - 1 on a missing day, or what it was where the step refuses
abbrev pub value_out : StepOutcome → ℕ → ℕ
value_out s entry = handed_out base_mark s.outcome entry
