-- Days until half is left (docs/RULES.md, "Half-life"). Of a flow that keeps p thousandths from each day to the next,
-- p^n / 1000^n is left after n days.
use Rattle.std.specs.Prelude.{ℕ, zero, suc, ◌*◌, ◌^◌, ◌≤◌, ◌<◌, Bool, cond, leb}

-- after n days at most half is left: 2 × p^n is at most 1000^n
unfoldable pub is_halved : (p n : ℕ) → Bool
is_halved p n = leb (2 * p ^ n) (1000 ^ n)

-- the first number from k on that passes a test, looked for so many times; the number behind these where none passes
unfoldable pub first_from : (test : ℕ → Bool) → (times k : ℕ) → ℕ
first_from test zero k = k
first_from test (suc times) k = cond (test k) k (first_from test times (suc k))

-- the least n of at least 1 for which that holds. (1,000 numbers are looked at; for p 999, the largest, it is 693.)
unfoldable pub half_life : (p : ℕ) → ℕ
half_life p = first_from (is_halved p) 1000 1

-- The rule's sentence: it holds at n, which is at least 1, and at no smaller number of at least 1. (`half_life_sentence` of
-- proofs/Sentences.antt proves it of every p from 1 to 999, and that no other number has it.)
pub record HalfLife (p n : ℕ) : Type 0 where
  pub at_least_1 : 1 ≤ n
  pub halved : 2 * p ^ n ≤ 1000 ^ n
  pub not_before : (m : ℕ) → 1 ≤ m → m < n → 1000 ^ m < 2 * p ^ m
