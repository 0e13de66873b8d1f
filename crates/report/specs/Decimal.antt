-- Numbers as text, the highest digit first (document 01, "Rivers worked through").
use Rattle.std.specs.Prelude.{ℕ, zero, suc, ◌+◌, ◌-◌, ◌*◌, ◌/◌, ◌%◌, ◌^◌, ◌≤◌, ◌<◌, ◌≡◌, cond, List, [], ◌∷◌, ◌++◌, length, get_or, ltb}
use Prim.Native.Char.{code}
use Prim.Native.String.{String, [] as no_text, ◌∷◌ as ◌&◌}

-- the bytes of a quoted text, a byte for each character
abbrev pub characters : String → List ℕ
characters no_text = []
characters (c & s) = code c ∷ characters s

-- the character of a digit; `0` is 48
abbrev pub digit : ℕ → ℕ
digit d = 48 + d

-- The digits of a number: those of the number divided by ten, and then the last; a number below ten is one digit. The
-- first argument bounds the divisions, and no number has to be divided more often than itself.
unfoldable pub digits_within : (divisions : ℕ) → ℕ → List ℕ
digits_within zero n = digit n ∷ []
digits_within (suc k) n = cond (ltb n 10) (digit n ∷ []) (digits_within k (n / 10) ++ digit (n % 10) ∷ [])

-- a number in decimal
unfoldable pub decimal : ℕ → List ℕ
unfolding digits_within
decimal n = digits_within n n

-- the last k digits of a number, leading zeros kept
unfoldable pub last_digits : ℕ → ℕ → List ℕ
last_digits zero n = []
last_digits (suc k) n = last_digits k (n / 10) ++ digit (n % 10) ∷ []

-- n / 10^k with k decimals
abbrev pub fixed_point : ℕ → ℕ → List ℕ
fixed_point k n = decimal (n / 10 ^ k) ++ characters "." ++ last_digits k n

-- What makes characters the digits of a number: what they say in base ten, read from the left, and that each is a digit.
-- In decimal there is at least one, and no zero stands first where there are more: 0 is the one digit `0`.
-- proofs/Sentences.antt has this of `decimal` and `last_digits`.
unfoldable pub read_on : ℕ → List ℕ → ℕ
read_on n [] = n
read_on n (d ∷ ds) = read_on (10 * n + (d - 48)) ds

abbrev pub AllDigits : List ℕ → Type 0
AllDigits [] = Unit {0}
AllDigits (d ∷ ds) = ((48 ≤ d) × (d ≤ 57)) × AllDigits ds

pub record DigitsOf (n : ℕ) (ds : List ℕ) : Type 0 where
  pub value : read_on 0 ds ≡ n
  pub digits : AllDigits ds

pub record DecimalOf (n : ℕ) (ds : List ℕ) : Type 0 where
  pub says : DigitsOf n ds
  pub some_digit : 0 < length ds
  pub no_zero_first : 1 < length ds → 48 < get_or ds 0 0
