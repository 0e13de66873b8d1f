-- What the private functions promise each other. No promise of a public call cites these definitions.
use Rattle.std.specs.Prelude.{ℕ, suc, ◌-◌, ◌*◌, ◌^◌, ◌≡◌, Bool, true, ◌&&◌, List, [], ◌∷◌, leb, ltb, length}

-- the test of an entry n at position i, which is that of p = i + 1: half is left at n, and more than half the day before
abbrev pub right_at : (i n : ℕ) → Bool
right_at i n = leb 1 n && (leb (2 * suc i ^ n) (1000 ^ n) && ltb (1000 ^ (n - 1)) (2 * suc i ^ (n - 1)))

-- that of each entry, from position i on
abbrev pub all_right : (i : ℕ) → List ℕ → Bool
all_right i [] = true
all_right i (n ∷ ns) = right_at i n && all_right (suc i) ns

-- a table that is right
pub record Right (table : List ℕ) : Type 0 where
  pub size : length table ≡ 999
  pub tested : all_right 0 table ≡ true
