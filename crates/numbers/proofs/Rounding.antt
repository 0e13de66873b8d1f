-- The laws of near that every other proof uses in place of its text.
-- The error laws hold of any nearest whole number, whatever the rule for halves (`error`).
-- Assumes nothing.
use Prim.Native.Nat.{ℕ, zero, suc, ◌+◌, ◌*◌, ◌-◌, ◌/◌, ◌%◌, ◌≤◌, ◌<◌}
use mathlib.Core.Path.{◌≡◌, refl, sym, ◌∙◌, ap, ap₂, subst}
use mathlib.Core.Logic.{⊎_elim}
use mathlib.Core.Bool.{Bool, true, false, cond}
use lib.Dec.{eqb}
use borrow.Author.Tests.{eq-eqb, ne_eqb}
use native.Mathlib.Nat.{eq_of_mul-eq-mul_left, mul_comm, mul-pos, mul-le-mul_right, mul-le-mul_left, div-eq_of_lt-le, div-zero, div-add-mod', mod-lt, eq-or-lt_of_le, lt_of_not-le}
use native.Mathlib.Decide.{dec_le, ℕ_discrete}
use native.Mathlib.Omega.{arith}
use Rattle.numbers.specs.Near.{near, distance, Nearest, NearestHalvesEven}

-- n lies at most one half from a / b
pub record HalfError (a b n : ℕ) : Type 0 where
  pub above : 2 * (n * b) ≤ 2 * a + b
  pub below : 2 * a ≤ 2 * (n * b) + b

pub error : {a b n : ℕ} → 0 < b → Nearest a b n → HalfError a b n
error {a} {b} {n = zero} p h = record { above = omega arith; below = omega (arith, h.no_nearer 1) }
error {a} {b} {n = suc k} p h = record { above = omega (arith, h.no_nearer k); below = omega (arith, h.no_nearer (suc (suc k))) }

-- at most one half off, and even where either half is met: there is one such n
pub record Rounded (a b n : ℕ) : Type 0 where
  pub half : HalfError a b n
  pub above_even : 2 * (n * b) ≡ 2 * a + b → n % 2 ≡ 0
  pub below_even : 2 * a ≡ 2 * (n * b) + b → n % 2 ≡ 0

not_above : {a b n m : ℕ} → 0 < b → Rounded a b n → Rounded a b m → n < m → ⊥
not_above {a} {b} {n} {m} p r s l =
    let next = mul-le-mul_right b l in
    let one : m ≡ suc n = elim (dec_le m (suc n)) [ yes g ↦ omega arith | no g ↦ absurd (omega (arith, r.half.below, s.half.above, mul-le-mul_right b (lt_of_not-le g))) ] in
    let size : m * b ≡ n * b + b = omega (arith, ap (λ k. k * b) one) in
    let e = r.below_even (omega (arith, r.half.below, s.half.above, size)) in
    let f = s.above_even (omega (arith, r.half.below, s.half.above, size)) in
    omega (arith, e, f, one)

pub one_rounded : {a b n m : ℕ} → 0 < b → Rounded a b n → Rounded a b m → n ≡ m
one_rounded {n = n} {m} p r s = elim (dec_le n m) [ yes g ↦ elim (dec_le m n) [ yes h ↦ omega arith | no h ↦ absurd (not_above p r s (lt_of_not-le h)) ] | no g ↦ absurd (not_above p s r (lt_of_not-le g)) ]

-- 2a + b = 2nb: n and the one below are equally near
module _ {a b : ℕ} (n : ℕ) (p : 0 < b) (t : 2 * a + b ≡ 2 * (n * b)) where
  tie_even : n % 2 ≡ 0 → Rounded a b n
  tie_even e = record { half = record { above = omega arith; below = omega arith }; above_even = λ _. e; below_even = λ _. e }

  tie_odd : (k : ℕ) → n ≡ suc k → k % 2 ≡ 0 → Rounded a b k
  tie_odd k s e =
      let size : n * b ≡ k * b + b = omega (arith, ap (λ m. m * b) s) in
      record { half = record { above = omega arith; below = omega arith }; above_even = λ _. e; below_even = λ _. e }

  tie_rounded : Rounded a b (n - n % 2)
  tie_rounded =
      elim (ℕ_discrete (n % 2) 0) [
        | yes e ↦ subst (Rounded a b) (omega (arith, e)) (tie_even e)
        | no g ↦ tie_odd (n - n % 2) (omega (arith, g)) (omega (arith, g))
      ]

-- not so, and at most one half off: no half is met
off_tie : {a b n : ℕ} → 2 * (n * b) < 2 * a + b → 2 * a < 2 * (n * b) + b → Rounded a b n
off_tie l h = record { half = record { above = omega arith; below = omega arith }; above_even = λ e. absurd (omega arith); below_even = λ e. absurd (omega arith) }

-- near as its definition has it
module _ (a b : ℕ) (p : 0 < b) where
  near_rounded : Rounded a b (near a b)
  unfolding near
  near_rounded = by_rest (ℕ_discrete ((2 * a + b) % (2 * b)) 0)
    where
      whole : ℕ
      whole = (2 * a + b) / (2 * b)

      parts : whole * (2 * b) + (2 * a + b) % (2 * b) ≡ 2 * a + b
      parts = div-add-mod' (2 * a + b) (2 * b)

      by_rest : Dec ((2 * a + b) % (2 * b) ≡ 0) → Rounded a b (cond (eqb ((2 * a + b) % (2 * b)) 0) (whole - whole % 2) whole)
      by_rest (yes e) = rw (eq-eqb ((2 * a + b) % (2 * b)) 0 e) (tie_rounded whole p (omega (arith, parts, e)))
      by_rest (no g) = rw (ne_eqb ((2 * a + b) % (2 * b)) 0 g) (off_tie (omega (arith, parts, g)) (omega (arith, parts, mod-lt (2 * a + b) {m = 2 * b} (omega arith))))

  pub near_sentence : NearestHalvesEven a b (near a b)
  near_sentence = record { nearest = record { no_nearer = λ m. nearer m (dec_le m (near a b)) }; halves_even = λ m e n. even m e n (dec_le m (near a b)) }
    where
      r : Rounded a b (near a b)
      r = near_rounded

      nearer : (m : ℕ) → Dec (m ≤ near a b) → distance (near a b) a b ≤ distance m a b
      nearer m (yes h) = ⊎_elim (λ e. subst (λ (n : ℕ). distance (near a b) a b ≤ distance n a b) (sym e) (omega arith)) (λ l. omega (arith, r.half, mul-le-mul_right b l)) (eq-or-lt_of_le h)
      nearer m (no g) = omega (arith, r.half, mul-le-mul_right b (lt_of_not-le g))

      even : (m : ℕ) → distance m a b ≡ distance (near a b) a b → (m ≡ near a b → ⊥) → Dec (m ≤ near a b) → near a b % 2 ≡ 0
      even m e n (yes h) = let l : m < near a b = omega (arith, h, n) in r.above_even (omega (arith, r.half, e, mul-le-mul_right b l))
      even m e n (no g) = r.below_even (omega (arith, r.half, e, mul-le-mul_right b (lt_of_not-le g)))

  pub near_error : HalfError a b (near a b)
  near_error = error p near_sentence.nearest

-- What follows of any whole number that lies at most one half from a / b, whatever the rule for halves: it lies on the
-- same side of every whole number as a / b.
module _ {a b n : ℕ} (p : 0 < b) (h : HalfError a b n) where
  pub half_at_most : {m : ℕ} → a ≤ m * b → n ≤ m
  half_at_most {m} l = elim (dec_le n m) [ yes g ↦ g | no g ↦ absurd (omega (arith, h.above, mul-le-mul_right b (lt_of_not-le g))) ]

  pub half_at_least : {m : ℕ} → m * b ≤ a → m ≤ n
  half_at_least {m} l = elim (dec_le m n) [ yes g ↦ g | no g ↦ absurd (omega (arith, h.below, mul-le-mul_right b (lt_of_not-le g))) ]

-- of a larger fraction it is no smaller
half_monotone : {a a' b n n' : ℕ} → 0 < b → a < a' → HalfError a b n → HalfError a' b n' → n ≤ n'
half_monotone {b = b} {n} {n'} p l h h' = elim (dec_le n n') [ yes g ↦ g | no g ↦ absurd (omega (arith, h.above, h'.below, mul-le-mul_right b (lt_of_not-le g))) ]

pub near_at_most : {a b n : ℕ} → 0 < b → a ≤ n * b → near a b ≤ n
near_at_most {a} {b} p l = half_at_most p (near_error a b p) l

pub near_at_least : {a b n : ℕ} → 0 < b → n * b ≤ a → n ≤ near a b
near_at_least {a} {b} p l = half_at_least p (near_error a b p) l

-- a whole number stays
pub near_whole : (n : ℕ) {b : ℕ} → 0 < b → near (n * b) b ≡ n
near_whole n {b} p = omega (arith, near_at_most {a = n * b} {b = b} {n = n} p (omega arith), near_at_least {a = n * b} {b = b} {n = n} p (omega arith))

pub near_monotone : {a a' b : ℕ} → 0 < b → a ≤ a' → near a b ≤ near a' b
near_monotone {a} {a'} {b} p l =
    ⊎_elim (λ e. omega (arith, ap (λ n. near n b) e)) (λ g. half_monotone p g (near_error a b p) (near_error a' b p)) (eq-or-lt_of_le l)

-- the one whole number that the definition allows
pub near_is : (a b n : ℕ) → 0 < b → Rounded a b n → near a b ≡ n
near_is a b n p r = one_rounded p (near_rounded a b p) r

-- the same fraction
pub near_scaled : (k a b : ℕ) → 0 < k → 0 < b → near (k * a) (k * b) ≡ near a b
near_scaled k a b h p =
    let r = near_rounded a b p in
    near_is (k * a) (k * b) (near a b) (mul-pos h p)
    (record {
      half = record { above = omega (arith, mul-le-mul_left k r.half.above); below = omega (arith, mul-le-mul_left k r.half.below) };
      above_even = λ e. r.above_even (eq_of_mul-eq-mul_left k h (2 * (near a b * b)) (2 * a + b) (omega (arith, e)));
      below_even = λ e. r.below_even (eq_of_mul-eq-mul_left k h (2 * a) (2 * (near a b * b) + b) (omega (arith, e)));
    })

-- equal fractions
pub near_same : (a b c d : ℕ) → 0 < b → 0 < d → a * d ≡ c * b → near a b ≡ near c d
near_same a b c d p q e =
    sym (near_scaled d a b q p) ∙ ap₂ near (mul_comm d a ∙ e ∙ mul_comm c b) (mul_comm d b) ∙ near_scaled b c d p q

pub near_by_zero : (a : ℕ) → near a 0 ≡ 0
unfolding near
near_by_zero a = rw (div-zero (2 * a + 0)) (either (eqb ((2 * a + 0) % (2 * 0)) 0))
  where
    either : (t : Bool) → cond t (0 - 0 % 2) 0 ≡ 0
    either true = refl
    either false = refl

-- near by one division, as the code does it: up where the remainder is more than half of b, or half of it behind an odd quotient
module _ (a b : ℕ) (p : 0 < b) where
  quotient_down : a % b + a / b % 2 ≤ b - a % b → Rounded a b (a / b)
  quotient_down h =
      elim (ℕ_discrete (2 * (a % b)) b) [
        | yes e ↦ let even : a / b % 2 ≡ 0 = omega (arith, e, h) in record { half = record { above = omega (arith, div-add-mod' a b); below = omega (arith, div-add-mod' a b, e) }; above_even = λ _. even; below_even = λ _. even }
        | no n ↦ off_tie (omega (arith, div-add-mod' a b, p)) (omega (arith, div-add-mod' a b, n, h))
      ]

  quotient_up : b - a % b < a % b + a / b % 2 → Rounded a b (a / b + 1)
  quotient_up h =
      elim (ℕ_discrete (2 * (a % b)) b) [
        | yes e ↦ let even : (a / b + 1) % 2 ≡ 0 = omega (arith, e, h) in record { half = record { above = omega (arith, div-add-mod' a b, e); below = omega (arith, div-add-mod' a b, e) }; above_even = λ _. even; below_even = λ _. even }
        | no n ↦ off_tie (omega (arith, div-add-mod' a b, n, h)) (omega (arith, div-add-mod' a b, mod-lt a p))
      ]

  pub near_down : a % b + a / b % 2 ≤ b - a % b → near a b ≡ a / b
  near_down h = near_is a b (a / b) p (quotient_down h)

  pub near_up : b - a % b < a % b + a / b % 2 → near a b ≡ a / b + 1
  near_up h = near_is a b (a / b + 1) p (quotient_up h)

pub up_fits : (a b : ℕ) → 0 < b → b - a % b < a % b + a / b % 2 → a / b + 1 ≤ a
up_fits a b p h = omega (arith, div-add-mod' a b, mod-lt a p, mul-le-mul_left (a / b) p)

-- near by one half added first, as the code does it: h is the sum, or what a loss leaves of it. What is left of the half
-- alone makes no whole.
module _ (a loss b h : ℕ) (p : 0 < b) (e : h ≡ a + b / 2 - loss) where
  -- the whole part, where that is no half
  pub near_part : (h % b + b % 2 ≡ 0 → ⊥) → near (a - loss) b ≡ h / b
  near_part n =
      let parts = div-add-mod' h b in
      near_is (a - loss) b (h / b) p (off_tie (omega (arith, parts, e, n)) (omega (arith, parts, e, mod-lt h p)))

  -- and at a half the even one of it and the one below
  pub near_even : h % b + b % 2 ≡ 0 → near (a - loss) b ≡ h / b - h / b % 2
  near_even z = by_loss (dec_le loss a)
    where
      by_loss : Dec (loss ≤ a) → near (a - loss) b ≡ h / b - h / b % 2
      by_loss (yes l) = near_is (a - loss) b (h / b - h / b % 2) p (tie_rounded (h / b) p (omega (arith, div-add-mod' h b, e, z, l)))
      by_loss (no g) =
          let less = lt_of_not-le g in
          let none : h / b ≡ 0 = div-eq_of_lt-le {k = 0} b {m = h} (omega arith) (omega (arith, e, less)) in
          ap (λ n. near n b) (omega (arith, less)) ∙ near_whole 0 p ∙ omega (arith, none)
