-- Decimal digits: a number's digits by its last one, how many they are, and what they say.
-- Assumes nothing.
use Prim.Native.Nat.{ℕ, zero, suc, ◌+◌, ◌-◌, ◌*◌, ◌/◌, ◌%◌, ◌^◌, ◌≤◌, ◌<◌}
use mathlib.Core.Path.{◌≡◌, refl, sym, ◌∙◌, ap, subst}
use mathlib.Core.List.{List, [], ◌∷◌, ◌++◌}
use native.Mathlib.Nat.{lt_of_not-le, mul_comm, mul_assoc, div-add-mod, mul-add-mod_self_left, mod-eq_of_lt, mod-lt, mod-one, pow-suc, one-le-pow}
use native.Mathlib.Numerals.{sub-one}
use native.Mathlib.Decide.{dec_le}
use native.Mathlib.Omega.{arith}
use lib.ListN.{length, get_or, length-append}
use borrow.Author.Tests.{lt-ltb, le-ltb}
use Rattle.report.specs.Decimal.{digit, digits_within, decimal, last_digits, read_on, AllDigits, DigitsOf, DecimalOf}

-- a number below ten, and any other, in one division more
within_below : (k n : ℕ) → n < 10 → digits_within k n ≡ digit n ∷ []
unfolding digits_within
within_below zero n h = refl
within_below (suc k) n h = simp (lt-ltb n 10 h)

within_more : (k n : ℕ) → 10 ≤ n → digits_within (suc k) n ≡ digits_within k (n / 10) ++ digit (n % 10) ∷ []
unfolding digits_within
within_more k n h = simp (le-ltb n 10 h)

-- divisions beyond the number change nothing
enough : (k j n : ℕ) → n ≤ k → n ≤ j → digits_within k n ≡ digits_within j n
enough zero j n h g = within_below zero n (omega arith) ∙ sym (within_below j n (omega arith))
enough (suc k) zero n h g = within_below (suc k) n (omega arith) ∙ sym (within_below zero n (omega arith))
enough (suc k) (suc j) n h g =
    elim (dec_le 10 n) [
      | yes m ↦ within_more k n m ∙ ap (λ l. l ++ digit (n % 10) ∷ []) (enough k j (n / 10) (omega arith) (omega arith)) ∙ sym (within_more j n m)
      | no m ↦ let b = lt_of_not-le m in within_below (suc k) n b ∙ sym (within_below (suc j) n b)
    ]

pub decimal_below : (n : ℕ) → n < 10 → digit n ∷ [] ≡ decimal n
unfolding decimal
decimal_below n h = sym (within_below n n h)

-- the digits of n / 10, and then the last
pub decimal_more : (n : ℕ) → 10 ≤ n → decimal (n / 10) ++ digit (n % 10) ∷ [] ≡ decimal n
unfolding decimal
decimal_more zero h = absurd (omega arith)
decimal_more (suc m) h = sym (within_more m (suc m) h ∙ ap (λ l. l ++ digit (suc m % 10) ∷ []) (enough m (suc m / 10) (suc m / 10) (omega arith) (omega arith)))

-- no digits, and one more than before
pub last_none : (n : ℕ) {k : ℕ} → k ≡ 0 → [] ≡ last_digits k n
unfolding last_digits
last_none n e = rw e

pub last_more : (n k : ℕ) → (k ≡ 0 → ⊥) → last_digits (k - 1) (n / 10) ++ digit (n % 10) ∷ [] ≡ last_digits k n
unfolding last_digits
last_more n zero h = absurd (h refl)
last_more n (suc k) h = rw (sub-one (suc k))

-- how many they are
pub decimal_length : (k n : ℕ) → n < 10 ^ suc k → length (decimal n) ≤ suc k
decimal_length zero n h = omega (arith, ap length (decimal_below n h))
decimal_length (suc k) n h =
    elim (dec_le 10 n) [
      | yes m ↦ omega (arith, decimal_length k (n / 10) (omega (arith, pow-suc 10 (suc k))), ap length (decimal_more n m), length-append (decimal (n / 10)) (digit (n % 10) ∷ []))
      | no m ↦ omega (arith, ap length (decimal_below n (lt_of_not-le m)))
    ]

pub last_length : (k n : ℕ) → length (last_digits k n) ≡ k
unfolding last_digits
last_length zero n = refl
last_length (suc k) n = length-append (last_digits k (n / 10)) (digit (n % 10) ∷ []) ∙ omega (arith, last_length k (n / 10))

-- what they say
read_append : (m : ℕ) (ds es : List ℕ) → read_on m (ds ++ es) ≡ read_on (read_on m ds) es
unfolding read_on
read_append m [] es = refl
read_append m (d ∷ ds) es = read_append (10 * m + (d - 48)) ds es

digits_append : (ds es : List ℕ) → AllDigits ds → AllDigits es → AllDigits (ds ++ es)
digits_append [] es h g = g
digits_append (d ∷ ds) es h g = (h.0, digits_append ds es h.1 g)

-- one digit more
more_digits : {m n : ℕ} (ds : List ℕ) (d : ℕ) → d < 10 → n ≡ 10 * m + d → DigitsOf m ds → DigitsOf n (ds ++ digit d ∷ [])
unfolding read_on
more_digits ds d h e s =
    record {
      value = read_append 0 ds (digit d ∷ []) ∙ omega (arith, s.value);
      digits = digits_append ds (digit d ∷ []) s.digits ((omega arith, omega arith), tt);
    }

-- above zero no zero stands first, and none comes to stand there behind more digits
first_kept : {n : ℕ} (ds es : List ℕ) → DecimalOf n ds → 0 < n → 48 < get_or (ds ++ es) 0 0
unfolding read_on
first_kept [] es r h = absurd (omega (arith, r.some_digit))
first_kept (d ∷ []) es r h = omega (arith, r.says.value)
first_kept (d ∷ e ∷ ds) es r h = r.no_zero_first (omega arith)

one_digit : (n : ℕ) → n < 10 → DecimalOf n (digit n ∷ [])
unfolding read_on
one_digit n h = record { says = record { value = omega arith; digits = ((omega arith, omega arith), tt) }; some_digit = omega arith; no_zero_first = λ p. absurd (omega arith) }

-- a number from ten on: the digits of n / 10, and then the last
one_more : (n : ℕ) (ds : List ℕ) → 10 ≤ n → DecimalOf (n / 10) ds → DecimalOf n (ds ++ digit (n % 10) ∷ [])
one_more n ds h r =
    record {
      says = more_digits ds (n % 10) (omega arith) (omega arith) r.says;
      some_digit = omega (arith, length-append ds (digit (n % 10) ∷ []));
      no_zero_first = λ p. first_kept ds (digit (n % 10) ∷ []) r (omega arith);
    }

-- a number in decimal: its digits, read in base ten, say the number; there is one, and no zero stands before others
pub says_within : (k n : ℕ) → n ≤ k → DecimalOf n (decimal n)
says_within zero n h = subst (DecimalOf n) (decimal_below n (omega arith)) (one_digit n (omega arith))
says_within (suc k) n h =
    elim (dec_le 10 n) [
      | yes m ↦ subst (DecimalOf n) (decimal_more n m) (one_more n (decimal (n / 10)) m (says_within k (n / 10) (omega arith)))
      | no m ↦ let b = lt_of_not-le m in subst (DecimalOf n) (decimal_below n b) (one_digit n b)
    ]

-- the last digits of n by those of n / 10, where P is a power of ten
remainder : (n P : ℕ) → 0 < P → n % (P * 10) ≡ 10 * (n / 10 % P) + n % 10
remainder n P h =
    let m = n / 10 in
    let product : P * 10 * (m / P) ≡ 10 * (P * (m / P)) = ap (λ x. x * (m / P)) (mul_comm P 10) ∙ mul_assoc 10 P (m / P) in
    let split : n ≡ P * 10 * (m / P) + (10 * (m % P) + n % 10) = omega (arith, product, div-add-mod m P) in
    ap (λ x. x % (P * 10)) split ∙ mul-add-mod_self_left (P * 10) (m / P) (10 * (m % P) + n % 10) ∙ mod-eq_of_lt (omega (arith, mod-lt m h))

-- and on its last digits: they say the number's remainder by a power of ten, with their zeros as many as asked
pub last_digits_lem : (k n : ℕ) → DigitsOf (n % 10 ^ k) (last_digits k n)
unfolding last_digits read_on
last_digits_lem zero n = record { value = sym (mod-one n); digits = tt }
last_digits_lem (suc k) n =
    more_digits (last_digits k (n / 10)) (n % 10) (omega arith) (ap (λ P. n % P) (pow-suc 10 k) ∙ remainder n (10 ^ k) (one-le-pow k 10 (omega arith))) (last_digits_lem k (n / 10))
