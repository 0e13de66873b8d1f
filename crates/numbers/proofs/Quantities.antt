-- Fractions that are not below zero, by the two natural numbers that they are made of; and by that what the two readings
-- of a rule keep.
-- Assumes nothing.
use Prim.Native.Nat.{ℕ, zero, suc, ◌+◌, ◌*◌, ◌-◌, ◌≤◌, ◌<◌}
use mathlib.Core.Path.{◌≡◌, refl, ◌∙◌, ap, ap₂, sym, subst}
use mathlib.Core.Logic.{⊎_elim}
use native.Mathlib.Nat.{min-eq_left}
use native.Mathlib.Omega.{arith}
use borrow.Author.Tests.{le-leb}
use lib.IntN.{ℤ, pos, ◌+ℤ◌, ◌*ℤ◌}
use Rattle.numbers.specs.Near.{near}
use Rattle.numbers.specs.Fraction.{Fraction, whole, half, sum, multiple, quotient, least, AtMost}
use Rattle.numbers.specs.Whole.{up, down}
use Rattle.numbers.specs.Arithmetic.{Arithmetic, Close, Weights, row, weighted, rounded, exact}
use Rattle.numbers.proofs.Whole.{one_side, of_sum, up_of_multiple, down_of_multiple}
use Rattle.numbers.proofs.Rounding.{near_by_zero, near_whole}
use Rattle.numbers.proofs.Fractions.{in_naturals, close_number, close_quotient, close_weaken, step_error}

-- f is a / l
pub record Reads (f : Fraction) (a l : ℕ) : Type 0 where
  pub upper : f.upper ≡ pos a
  pub lower : f.lower ≡ l

pub reads_whole : (n : ℕ) → Reads (whole n) n 1
unfolding whole
reads_whole n = record { upper = refl; lower = refl }

pub reads_half : Reads half 1 2
unfolding half
reads_half = record { upper = refl; lower = refl }

pub reads_sum : {f g : Fraction} {a l b m : ℕ} → Reads f a l → Reads g b m → Reads (sum f g) (a * m + b * l) (l * m)
unfolding sum
reads_sum r s =
    record {
      upper = ap₂ ◌+ℤ◌ (ap₂ (λ z n. z *ℤ pos n) r.upper s.lower) (ap₂ (λ z n. z *ℤ pos n) s.upper r.lower);
      lower = ap₂ ◌*◌ r.lower s.lower;
    }

pub reads_multiple : (k : ℕ) {f : Fraction} {a l : ℕ} → Reads f a l → Reads (multiple k f) (a * k) l
unfolding multiple
reads_multiple k r = record { upper = ap (λ z. z *ℤ pos k) r.upper; lower = r.lower }

pub reads_quotient : (d : ℕ) {f : Fraction} {a l : ℕ} → 0 < d → Reads f a l → Reads (quotient f d) a (l * d)
unfolding quotient
reads_quotient zero h r = absurd (omega arith)
reads_quotient (suc d) h r = record { upper = r.upper; lower = ap (λ n. n * suc d) r.lower }

-- the order, by cross-multiplying
pub at_most : {f g : Fraction} {a l b m : ℕ} → Reads f a l → Reads g b m → a * m ≤ b * l → AtMost f g
at_most {f} {g} {a} {l} {b} {m} r s h =
    (in_naturals f g).1 (rw (r.upper, s.upper, r.lower, s.lower) (omega arith))

-- the error of a rounding step
pub reads_error : (w : Weights) {p q r : Fraction} {a k b l c m : ℕ} → 0 < w.d → Reads p a k → Reads q b l → Reads r c m
    → Reads (step_error w p q r) (((a * w.A * l + b * w.B * k) * m + c * (w.C + w.E) * (k * l)) * 2 + 1 * (k * l * m * w.d)) (k * l * m * w.d * 2)
reads_error w h r s t =
    reads_sum (reads_quotient w.d h (reads_sum (reads_sum (reads_multiple w.A r) (reads_multiple w.B s)) (reads_multiple (w.C + w.E) t))) reads_half

-- the rounding step over whole numbers
pub weighted_rounded : (w : Weights) (f u v : ℕ) → weighted rounded w f u v ≡ near (w.A * f + w.B * u + w.C * v - w.E * v) w.d
unfolding weighted
weighted_rounded w f u v = refl

-- A × f + B × u + C × v as it is rounded, for a C of either sign: itself, and 0 where it is below zero
pub signed_sum : (A B d : ℕ) (C : ℤ) (f u v : ℕ) → weighted rounded (row A B C d) f u v ≡ near (up (pos (A * f + B * u) +ℤ (C *ℤ pos v))) d
signed_sum A B d C f u v = weighted_rounded (row A B C d) f u v ∙ ap (λ n. near n d) (parts (A * f + B * u) (C *ℤ pos v) (up_of_multiple C v) (down_of_multiple C v))
  where
    parts : (x : ℕ) (z : ℤ) → up z ≡ up C * v → down z ≡ down C * v → x + up C * v - down C * v ≡ up (pos x +ℤ z)
    parts x z e f = ⊎_elim (λ h. omega (arith, of_sum (pos x) z)) (λ h. omega (arith, of_sum (pos x) z)) (one_side (pos x +ℤ z))

-- a whole number is exact
pub close_exact : {l : Fraction} {a m : ℕ} (n : ℕ) → Reads l a m → Close l n (whole n)
close_exact n r = close_weaken (at_most (reads_whole 0) r (omega arith)) (close_number n)

-- one rounded quotient of a whole number; by zero both are 0
pub close_near : (a d : ℕ) → Close half (near a d) (quotient (whole a) d)
unfolding quotient
close_near a zero = subst (λ n. Close half n (whole 0)) (sym (near_by_zero a)) (close_exact 0 reads_half)
close_near a (suc d) =
    close_weaken (at_most (reads_sum (reads_quotient (suc d) (omega arith) (reads_whole 0)) reads_half) reads_half (omega arith))
    (close_quotient (suc d) (omega arith) (close_number a))

-- in both readings a whole number divided by its own factor is not below itself
abbrev pub Keeps : Arithmetic → Type 0
Keeps S = (n d : ℕ) → 0 < d → S.least (S.number n) (S.quotient (S.number (n * d)) d) ≡ S.number n

pub rounded_keeps : Keeps rounded
rounded_keeps n d h = min-eq_left (omega (arith, near_whole n h))

pub exact_keeps : Keeps exact
unfolding whole quotient least
exact_keeps n zero h = absurd (omega arith)
exact_keeps n (suc d) h = simp (le-leb (n * (1 * suc d)) (n * suc d * 1) (omega arith))
