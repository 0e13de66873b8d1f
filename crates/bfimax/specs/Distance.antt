-- How far a value of the spell may stand from that of the exact run.
use Rattle.std.specs.Prelude.{ℕ, zero, suc, ◌*◌, ◌-◌, ◌≤◌, ◌<◌, ◌≡◌, List, length, get_or}
use Rattle.numbers.specs.Fraction.{Fraction, whole, sum, multiple, quotient, AtMost}
use Rattle.numbers.specs.Arithmetic.{rounded, exact, Close}
use Rattle.bfimax.specs.Rule.{values}

-- (10000 / p)^i
unfoldable pub power : (p i : ℕ) → Fraction
power p zero = whole 1
power p (suc i) = quotient (multiple 10000 (power p i)) p

-- the sum of (10000 / p)^i, i from 0 to j - 1
unfoldable pub powers : (p j : ℕ) → Fraction
unfolding power
powers p zero = whole 0
powers p (suc j) = sum (powers p j) (power p j)

-- one half times that sum
unfoldable pub stretched : (p j : ℕ) → Fraction
unfolding powers
stretched p j = quotient (powers p j) 2

-- on day k of the spell both runs have 1000 × y
pub record AtFlow (p : ℕ) (flows : List ℕ) (k : ℕ) : Type 0 where
  pub in_spell : k < length flows
  pub rounded_run : get_or (values rounded p flows) k 0 ≡ 1000 * get_or flows k 0
  pub exact_run : Close (whole 0) (1000 * get_or flows k 0) (get_or (values exact p flows) k (whole 0))

-- The promise: from any such day, a value j days before it lies within one half times the sum of (10000 / p)^i, i from 0 to
-- j - 1, of the exact one; and on each day of the spell both values lie between 0 and 1000 × y.
pub record SpellWithin (p : ℕ) (flows : List ℕ) : Type 0 where
  pub before : (k i : ℕ) → AtFlow p flows k → i ≤ k → Close (stretched p (k - i)) (get_or (values rounded p flows) i 0) (get_or (values exact p flows) i (whole 0))
  pub rounded_below : (i : ℕ) → i < length flows → get_or (values rounded p flows) i 0 ≤ 1000 * get_or flows i 0
  pub exact_below : (i : ℕ) → i < length flows → AtMost (get_or (values exact p flows) i (whole 0)) (whole (1000 * get_or flows i 0))
  pub exact_above : (i : ℕ) → i < length flows → AtMost (whole 0) (get_or (values exact p flows) i (whole 0))
