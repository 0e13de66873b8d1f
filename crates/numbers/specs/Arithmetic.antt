-- The arithmetic in which document 01's rules are stated once. Its two readings are the rounded run and the exact
-- run: the same rules, near left out everywhere in the second.
use Rattle.std.specs.Prelude.{ℕ, ◌+◌, ◌*◌, ◌-◌, min, Bool, ℤ, leb}
use Rattle.numbers.specs.Near.{near}
use Rattle.numbers.specs.Whole.{up, down}
use Rattle.numbers.specs.Fraction as F
use Rattle.numbers.specs.Fraction.{Fraction}

pub record Arithmetic : Type 1 where
  pub Number : Type 0
  -- a whole number
  pub number : ℕ → Number
  pub sum : Number → Number → Number
  pub difference : Number → Number → Number
  -- a difference, and 0 where it is below zero
  pub surplus : Number → Number → Number
  pub multiple : ℕ → Number → Number
  pub quotient : Number → ℕ → Number
  pub least : Number → Number → Number
  -- whether a number is at most another
  pub at_most : Number → Number → Bool

-- document 01: the box's run
abbrev pub rounded : Arithmetic
rounded = record { Number = ℕ; number = λ n. n; sum = ◌+◌; difference = ◌-◌; surplus = ◌-◌; multiple = ◌*◌; quotient = near; least = min; at_most = leb }

-- document 01: the exact run
abbrev pub exact : Arithmetic
exact = record { Number = Fraction; number = F.whole; sum = F.sum; difference = F.difference; surplus = F.surplus; multiple = F.multiple; quotient = F.quotient; least = F.least; at_most = F.at_most }

-- the whole number n, a result of the rounded run, lies within l of the exact f
pub record Close (l : Fraction) (n : ℕ) (f : Fraction) : Type 0 where
  pub within : F.Within l (F.whole n) f

-- the A, B, C and d of a rounding step; C may be below zero, and is held by its two parts, as C - E
pub record Weights : Type 0 where
  pub A : ℕ
  pub B : ℕ
  pub C : ℕ
  pub E : ℕ
  pub d : ℕ

-- a row of weights, with a C of either sign
abbrev pub row : (A B : ℕ) → (C : ℤ) → (d : ℕ) → Weights
row A B C d = record { A = A; B = B; C = up C; E = down C; d = d }

-- (A × f + B × u + C × v) / d, and 0 where that is below zero (proofs/Quantities.antt: `signed_sum`)
unfoldable pub weighted : (S : Arithmetic) → Weights → S.Number → S.Number → S.Number → S.Number
weighted S w f u v =
    let gain = S.sum (S.sum (S.multiple w.A f) (S.multiple w.B u)) (S.multiple w.C v) in
    S.quotient (S.surplus gain (S.multiple w.E v)) w.d
