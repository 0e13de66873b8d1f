-- The error of the backwards rule: each day towards the front adds one half, and stretches what was there by 10000 / p.
-- Assumes nothing.
use Prim.Native.Nat.{ℕ, zero, suc, ◌+◌, ◌*◌, ◌-◌, ◌≤◌, ◌<◌, min}
use mathlib.Core.Path.{◌≡◌, sym, ap, subst}
use mathlib.Core.List.{List, [], ◌∷◌}
use native.Mathlib.Nat.{min-le_left, sub-zero, suc-sub-suc}
use native.Mathlib.Omega.{arith}
use lib.ListN.{length, get_or}
use Rattle.numbers.specs.Fraction.{Fraction, whole, half, sum, multiple, quotient, least, AtMost}
use Rattle.numbers.specs.Arithmetic.{rounded, exact, Close}
use Rattle.numbers.proofs.Fractions.{close_multiple, close_quotient, close_least, close_weaken, least_left, zero_whole, zero_least, zero_multiple, zero_quotient}
use Rattle.numbers.specs.Near.{near}
use Rattle.numbers.proofs.Quantities.{Reads, reads_whole, reads_half, reads_sum, reads_multiple, reads_quotient, at_most, close_exact}
use Rattle.bfimax.specs.Rule.{value, values}
use Rattle.bfimax.specs.Distance.{power, powers, stretched, AtFlow, SpellWithin}

module _ (p : ℕ) (h : 0 < p) where
  -- (10000 / p)^i is high i / low i
  high : ℕ → ℕ
  high zero = 1
  high (suc i) = high i * 10000

  low : ℕ → ℕ
  low zero = 1
  low (suc i) = low i * p

  reads_power : (i : ℕ) → Reads (power p i) (high i) (low i)
  unfolding power high low
  reads_power zero = reads_whole 1
  reads_power (suc i) = reads_quotient p h (reads_multiple 10000 (reads_power i))

  -- and the sum of them over / under
  under : ℕ → ℕ
  under zero = 1
  under (suc j) = under j * low j

  over : ℕ → ℕ
  over zero = 0
  over (suc j) = over j * low j + high j * under j

  reads_powers : (j : ℕ) → Reads (powers p j) (over j) (under j)
  unfolding powers over under
  reads_powers zero = reads_whole 0
  reads_powers (suc j) = reads_sum (reads_powers j) (reads_power j)

  -- one more power is one more, and the rest times 10000 / p
  next_power : (j : ℕ) → p * over j * low j + p * high j * under j ≡ low j * p * under j + 10000 * low j * over j
  unfolding over under high low
  next_power zero = omega arith
  next_power (suc j) = omega (arith, ap (λ n. p * low j * n) (next_power j))

  reads_stretched : (j : ℕ) → Reads (stretched p j) (over j) (under j * 2)
  unfolding stretched
  reads_stretched j = reads_quotient 2 (omega arith) (reads_powers j)

  -- the limit of the day before: this one's times 10000 / p, and one half
  grows : (j : ℕ) → AtMost (sum (quotient (multiple 10000 (stretched p j)) p) half) (stretched p (suc j))
  unfolding over under
  grows j =
      at_most (reads_sum (reads_quotient p h (reads_multiple 10000 (reads_stretched j))) reads_half) (reads_stretched (suc j))
      (omega (arith, ap (λ n. 4 * under j * n) (next_power j)))

  step_within : (j u : ℕ) {n : ℕ} {f : Fraction} → Close (stretched p j) n f → Close (stretched p (suc j)) (min u (near (10000 * n) p)) (least (whole u) (quotient (multiple 10000 f) p))
  step_within j u c = close_least (close_exact u (reads_stretched (suc j))) (close_weaken (grows j) (close_quotient p h (close_multiple 10000 c)))

  from_next : (y : ℕ) (ys : List ℕ) (k : ℕ) → suc k < length (y ∷ ys) → Close (stretched p (k - 0)) (get_or (values rounded p ys) 0 0) (get_or (values exact p ys) 0 (whole 0))
      → Close (stretched p (suc k - 0)) (value rounded p y ys) (value exact p y ys)
  unfolding values value
  from_next y [] k l c = absurd (omega arith)
  from_next y (z ∷ zs) k l c = rw (sub-zero (suc k)) (step_within k (1000 * y) (subst (λ j. Close (stretched p j) (value rounded p z zs) (value exact p z zs)) (sub-zero k) c))

  -- THE DISTANCE: from a day on which both runs have 1000 × y towards the front
  pub within : (flows : List ℕ) (k i : ℕ) → AtFlow p flows k → i ≤ k → Close (stretched p (k - i)) (get_or (values rounded p flows) i 0) (get_or (values exact p flows) i (whole 0))
  unfolding values value
  within [] k i a l = absurd (omega (arith, a.in_spell))
  within (y ∷ ys) zero zero a l =
      subst (λ n. Close (stretched p 0) n (value exact p y ys)) (sym a.rounded_run) (close_weaken (at_most (reads_whole 0) (reads_stretched 0) (omega arith)) a.exact_run)
  within (y ∷ ys) zero (suc i) a l = absurd (omega arith)
  within (y ∷ ys) (suc k) zero a l = from_next y ys k a.in_spell (within ys k 0 (record { in_spell = omega (arith, a.in_spell); rounded_run = a.rounded_run; exact_run = a.exact_run }) (omega arith))
  within (y ∷ ys) (suc k) (suc i) a l =
      subst (λ j. Close (stretched p j) (get_or (values rounded p ys) i 0) (get_or (values exact p ys) i (whole 0))) (sym (suc-sub-suc k i))
      (within ys k i (record { in_spell = omega (arith, a.in_spell); rounded_run = a.rounded_run; exact_run = a.exact_run }) (omega arith))

  -- between 0 and 1000 × y, in both runs
  pub rounded_at_most : (flows : List ℕ) (i : ℕ) → get_or (values rounded p flows) i 0 ≤ 1000 * get_or flows i 0
  unfolding values value
  rounded_at_most [] i = omega arith
  rounded_at_most (y ∷ []) zero = omega arith
  rounded_at_most (y ∷ z ∷ zs) zero = min-le_left (1000 * y) _
  rounded_at_most (y ∷ ys) (suc i) = rounded_at_most ys i

  pub exact_at_most : (flows : List ℕ) (i : ℕ) → i < length flows → AtMost (get_or (values exact p flows) i (whole 0)) (whole (1000 * get_or flows i 0))
  unfolding values value
  exact_at_most [] i l = absurd (omega arith)
  exact_at_most (y ∷ []) zero l = at_most (reads_whole (1000 * y)) (reads_whole (1000 * y)) (omega arith)
  exact_at_most (y ∷ z ∷ zs) zero l = least_left (whole (1000 * y)) _
  exact_at_most (y ∷ ys) (suc i) l = exact_at_most ys i (omega arith)

  not_below_zero : (y : ℕ) (ys : List ℕ) → AtMost (whole 0) (value exact p y ys)
  unfolding value
  not_below_zero y [] = zero_whole (1000 * y)
  not_below_zero y (z ∷ zs) = zero_least _ _ (zero_whole (1000 * y)) (zero_quotient p _ (zero_multiple 10000 _ (not_below_zero z zs)))

  pub exact_at_least : (flows : List ℕ) (i : ℕ) → i < length flows → AtMost (whole 0) (get_or (values exact p flows) i (whole 0))
  unfolding values
  exact_at_least [] i l = absurd (omega arith)
  exact_at_least (y ∷ ys) zero l = not_below_zero y ys
  exact_at_least (y ∷ ys) (suc i) l = exact_at_least ys i (omega arith)

  pub spell_within : (flows : List ℕ) → SpellWithin p flows
  spell_within flows =
      record { before = λ k i a l. within flows k i a l; rounded_below = λ i l. rounded_at_most flows i; exact_below = exact_at_most flows; exact_above = exact_at_least flows }
