-- A choice of how base flow is found, with the rules of the call that it stands for.
use Rattle.std.specs.Prelude.{ℕ, List, map}
use Rattle.std.proofs.Math.Option.{Option}
use Rattle.numbers.specs.Fraction.{Fraction, half}
use Rattle.numbers.specs.Arithmetic.{Arithmetic, rounded, exact}
use Rattle.series.specs.Units.{day_of, base_mark}
use Rattle.series.specs.Causes.{Cause}
use Rattle.filter.specs.Passes.{filtered}
use Rattle.filter.specs.Call.{filter_causes}
use Rattle.filter.specs.Distance.{filter_limit}
use Rattle.minima.specs.Line.{line_over}
use Rattle.minima.specs.Call.{blocks_of, line_causes}
use Rattle.accuracy.specs.declared.Choice.{Choice}
use Rattle.accuracy.specs.declared.Choice.TheVariants.{Filter, Line}

-- the causes of refusal of the call
abbrev pub chosen_causes : Choice → (days base : List ℕ) → List Cause
chosen_causes (Filter s n from) days base = filter_causes s n from days base
chosen_causes (Line s) days base = line_causes s days base

-- the base flow over a list with gaps, in any arithmetic
abbrev pub chosen_run : (S : Arithmetic) → Choice → List (Option ℕ) → List (Option S.Number)
chosen_run S (Filter s n from) days = filtered S s n from days
chosen_run S (Line s) days = line_over S (blocks_of s) days

-- P, the daily limit: n × d / (2 × (d - A)) after pass n, from any start, 1/2 for the line
abbrev pub chosen_limit : Choice → Fraction
chosen_limit (Filter s n from) = filter_limit s n
chosen_limit (Line s) = half

-- the base flow of the rounded run over a day list, and of the exact run over the same list
abbrev pub rounded_base : Choice → (days : List ℕ) → List (Option ℕ)
rounded_base choice days = chosen_run rounded choice (map day_of days)

abbrev pub exact_base : Choice → (days : List ℕ) → List (Option Fraction)
exact_base choice days = chosen_run exact choice (map day_of days)

-- the rounded run as it stands in a base list
abbrev pub base_list : Choice → (days : List ℕ) → List ℕ
base_list choice days = map base_mark (rounded_base choice days)
