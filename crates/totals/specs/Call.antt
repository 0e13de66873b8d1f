-- The totals call: its order of refusals, and what it answers.
use Rattle.std.specs.Prelude.{ℕ, Bool, List, [], ◌∷◌, map, length, eqb}
use Rattle.numbers.specs.Arithmetic.{rounded}
use Rattle.series.specs.Units.{day_of, base_of}
use Rattle.series.specs.Lists.{too_long, lengths_differ, any_invalid_day, any_invalid_base}
use Rattle.series.specs.Causes.{Cause, cause, Outcome, outcome}
use Rattle.totals.specs.Sums.{BaseDay, base_days, flow_total, base_total, quick_total, index}
use Rattle.totals.specs.declared.Totals.{Totals}

-- the days with a base value of two lists in memory
abbrev pub listed_days : (days base : List ℕ) → List (BaseDay ℕ)
listed_days days base = base_days (map day_of days) (map base_of base)

-- 21: Y is 0
unfoldable pub no_flow : (days base : List ℕ) → Bool
no_flow days base = eqb (flow_total (listed_days days base)) 0

-- order: totals 9, 14, 10, 20, 21
unfoldable pub totals_causes : (days base : List ℕ) → List Cause
totals_causes days base =
    cause (too_long days) 9
    ∷ cause (lengths_differ days base) 14
    ∷ cause (any_invalid_day days) 10
    ∷ cause (any_invalid_base days base) 20
    ∷ cause (no_flow days base) 21
    ∷ []

-- m, Y, T, quick total and index of the days with a base value
unfoldable pub totals_of : List (BaseDay ℕ) → Totals
totals_of ds =
    record {
      days = length ds;
      flow = flow_total ds;
      base = base_total rounded ds;
      quick = quick_total rounded ds;
      index = index rounded ds;
    }

unfoldable pub totals_outcome : (days base : List ℕ) → Outcome Totals
totals_outcome days base = outcome (totals_causes days base) (totals_of (listed_days days base))
