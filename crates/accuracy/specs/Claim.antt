-- DEMAND 3 of document 01, whole: how far any figure of the box may stand from the exact run, from the bytes to the index.
use Rattle.std.specs.Prelude.{ℕ, ◌≡◌, List, map, length, take}
use Rattle.std.proofs.Math.Option.{none}
use Rattle.numbers.specs.Arithmetic.{rounded, exact}
use Rattle.numbers.specs.Lists.{Each}
use Rattle.series.specs.Units.{day_of}
use Rattle.series.specs.Causes.{first_cause, accepted, refused}
use Rattle.series.specs.Agreement.{Agree}
use Rattle.record.specs.Call.{Stated, reading}
use Rattle.filter.specs.declared.Setting.{Setting}
use Rattle.filter.specs.declared.start.Start.TheVariants.{Usual}
use Rattle.filter.specs.Passes.{filtered}
use Rattle.filter.specs.Daily.{fresh}
use Rattle.filter.specs.Call.{steps_from}
use Rattle.filter.specs.Distance.{filter_limit}
use Rattle.totals.specs.Sums.{base_days, flow_total}
use Rattle.totals.specs.Call.{totals_of, totals_outcome}
use Rattle.totals.specs.Distance.{TotalsWithin}
use Rattle.accuracy.specs.declared.Choice.{Choice}
use Rattle.accuracy.specs.declared.Choice.TheVariants.{Filter, Line}
use Rattle.accuracy.specs.Choosing.{chosen_causes, chosen_limit, rounded_base, exact_base, base_list}
use Rattle.accuracy.specs.Call.{front, Run}

-- Y, over the days with a base value
abbrev pub record_flow : Choice → List ℕ → ℕ
record_flow choice days = flow_total (base_days (map day_of days) (rounded_base choice days))

-- daily steps from the fresh state give what pass 1 gives from the usual start, and keep its distance
pub record StepsWithin (s : Setting) (days : List ℕ) : Type 0 where
  pub pass_1 : steps_from s fresh days ≡ map accepted (filtered rounded s 1 Usual (map day_of days))
  pub distance : Each (Agree (filter_limit s 1)) (map day_of days) (filtered rounded s 1 Usual (map day_of days)) (filtered exact s 1 Usual (map day_of days))

-- what is said of daily steps for a choice: a line has none
abbrev pub ChosenSteps : Choice → List ℕ → Type 0
ChosenSteps (Filter s n from) days = StepsWithin s days
ChosenSteps (Line s) days = Unit {0}

-- The claim over days and a choice, with P its daily limit: of the rounded run and the exact run over them, and of nothing
-- else.
pub record Claim (choice : Choice) (days : List ℕ) : Type 0 where
  -- both runs have base flow on exactly the same days; on each the rounded one lies between zero and the flow, and within P of the exact one
  pub each_day : Each (Agree (chosen_limit choice)) (map day_of days) (rounded_base choice days) (exact_base choice days)
  -- base total and quick total within m × P, and the index within 1/2 + 10 × m × P / Y of the exact index
  pub totals : TotalsWithin (chosen_limit choice) (map day_of days) (rounded_base choice days) (exact_base choice days)
  -- the totals call over these days and the base list that was filled refuses exactly when Y is 0
  pub no_flow : record_flow choice days ≡ 0 → totals_outcome days (base_list choice days) ≡ refused 21
  pub flow : (record_flow choice days ≡ 0 → ⊥) → totals_outcome days (base_list choice days) ≡ accepted (totals_of (base_days (map day_of days) (rounded_base choice days)))
  -- daily steps over the same days
  pub steps : ChosenSteps choice days

-- Demand 3 of a run, for what the bytes state: the day list holds the stated days from its start, the base list beside them
-- the rounded run over them; the claim holds of them; and the answer is the first day, the number of days and the totals
-- of which the claim speaks.
pub record Carries (choice : Choice) (stated : Stated) (run : Run) : Type 0 where
  pub days : take (length stated.days) run.days ≡ stated.days
  pub base : take (length stated.days) run.base ≡ base_list choice stated.days
  pub claim : Claim choice stated.days
  pub answer : run.answer ≡ accepted (record { first_day = stated.first_day; day_count = length stated.days; base_flow = accepted (totals_outcome stated.days (base_list choice stated.days)) })

-- DEMAND 3, from the bytes to the index: it holds wherever reading accepts the bytes into `room` days, with the days that
-- they state, and the chosen call accepts those days and its part of the base list that was lent. (`demand_3` in
-- proofs/Demand3.antt proves it of `run`, and `accuracy::separate` has it of what the code answers and leaves.)
abbrev pub Demand3 : (room : ℕ) → (bytes : List ℕ) → Choice → (base : List ℕ) → Run → Type 0
Demand3 room bytes choice base run =
    (stated : Stated) → reading room bytes ≡ accepted stated → first_cause (chosen_causes choice stated.days (front stated.days base)) ≡ none → Carries choice stated run
