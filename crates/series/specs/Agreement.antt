-- What two runs over one day list have in common on a day: the rounded run and the exact run.
use Rattle.std.specs.Prelude.{ℕ, ◌*◌, ◌≤◌}
use Rattle.std.proofs.Math.Option.{Option, none, some}
use Rattle.numbers.specs.Fraction.{Fraction}
use Rattle.numbers.specs.Arithmetic.{Close}

-- On one day neither run has a value, or both have: the rounded one lies between zero and the day's flow y, and
-- within l of the exact one.
pub data Agree (l : Fraction) : Option ℕ → Option ℕ → Option Fraction → Type 0 where
  no_value : {day : Option ℕ} → Agree l day none none
  values : {y b : ℕ} {f : Fraction} → b ≤ 1000 * y → Close l b f → Agree l (some y) (some b) (some f)
