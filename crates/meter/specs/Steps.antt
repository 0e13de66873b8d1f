-- Daily steps over the days that a meter says (docs/RULES.md, "Meter").
use Rattle.std.specs.Prelude.{ℕ, ◌≡◌, List, map}
use Rattle.numbers.specs.Arithmetic.{rounded, exact}
use Rattle.numbers.specs.Lists.{Each}
use Rattle.series.specs.Units.{day_of}
use Rattle.series.specs.Causes.{accepted}
use Rattle.series.specs.Agreement.{Agree}
use Rattle.filter.specs.declared.Setting.{Setting}
use Rattle.filter.specs.declared.start.Start.TheVariants.{Usual}
use Rattle.filter.specs.Passes.{filtered}
use Rattle.filter.specs.Daily.{fresh}
use Rattle.filter.specs.Call.{steps_from}
use Rattle.filter.specs.Distance.{filter_limit}
use Rattle.meter.specs.declared.Reading.{Reading}
use Rattle.meter.specs.Rule.{day_said}
use Rattle.meter.specs.Call.{reading_outcome}

-- the day list of some readings
abbrev pub days_said : List Reading → List ℕ
days_said readings = map day_said readings

-- the call accepts each of them
abbrev pub AllAccepted : List Reading → Type 0
AllAccepted readings = map reading_outcome readings ≡ map accepted (days_said readings)

-- Daily steps over these days from the fresh state give what pass 1 gives over them, and pass 1 keeps its distance. The exact
-- run begins with the days, which are rounded: how far a day lies from its reading is no part of the distance.
pub record MeterDays (s : Setting) (readings : List Reading) : Type 0 where
  pub pass_1 : steps_from s fresh (days_said readings) ≡ map accepted (filtered rounded s 1 Usual (map day_of (days_said readings)))
  pub distance : Each (Agree (filter_limit s 1)) (map day_of (days_said readings)) (filtered rounded s 1 Usual (map day_of (days_said readings))) (filtered exact s 1 Usual (map day_of (days_said readings)))
