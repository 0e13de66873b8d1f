-- How far the rounded run of a filter may stand from the exact run (document 01, demand 3).
use Rattle.std.specs.Prelude.{ℕ, ◌*◌, ◌-◌}
use Rattle.numbers.specs.Fraction.{Fraction, whole, quotient}
use Rattle.numbers.specs.Arithmetic.{Weights}
use Rattle.filter.specs.declared.Setting.{Setting}
use Rattle.filter.specs.Methods.{weights}

-- n × d / (2 × (d - A)), in thousandths of a litre a second
unfoldable pub limit_of : Weights → ℕ → Fraction
limit_of w n = quotient (whole (n * w.d)) (2 * (w.d - w.A))

-- the daily limit after pass n
unfoldable pub filter_limit : Setting → ℕ → Fraction
unfolding limit_of
filter_limit s n = limit_of (weights s) n
