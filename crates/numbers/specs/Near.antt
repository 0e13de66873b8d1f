-- near, the rounding of docs/RULES.md ("Units"): to the nearest whole number, and at a half to the even one.
use Rattle.std.specs.Prelude.{ℕ, ◌+◌, ◌*◌, ◌-◌, ◌/◌, ◌%◌, ◌≤◌, cond, eqb, ◌≡◌}

-- near(a / b): the whole part of a / b + 1 / 2; where that sum is whole, it and the one below are equally near, and the even
-- one is taken
unfoldable pub near : ℕ → ℕ → ℕ
near a b = let n = (2 * a + b) / (2 * b) in cond (eqb ((2 * a + b) % (2 * b)) 0) (n - n % 2) n

-- how far the whole number n lies from a / b, counted in b-ths
abbrev pub distance : ℕ → ℕ → ℕ → ℕ
distance n a b = (n * b - a) + (a - n * b)

-- n is a nearest whole number of a / b, whatever the rule for halves
pub record Nearest (a b n : ℕ) : Type 0 where
  pub no_nearer : (m : ℕ) → distance n a b ≤ distance m a b

-- the sentence: n is the nearest whole number of a / b, and of two equally near the even one
pub record NearestHalvesEven (a b n : ℕ) : Type 0 where
  pub nearest : Nearest a b n
  pub halves_even : (m : ℕ) → distance m a b ≡ distance n a b → (m ≡ n → ⊥) → n % 2 ≡ 0
