-- Numbers counted off, and how long a line is.
-- Assumes nothing.
use Prim.Native.Nat.{ℕ, zero, suc, ◌+◌, ◌-◌, ◌≤◌, ◌<◌}
use mathlib.Core.Path.{◌≡◌, refl, ◌∙◌, ap}
use mathlib.Core.List.{List, [], ◌∷◌, map}
use mathlib.Core.Option.{Option}
use native.Mathlib.Omega.{arith}
use lib.ListN.{length, get_or, length-map}
use Rattle.numbers.specs.Arithmetic.{Arithmetic, rounded}
use Rattle.series.specs.Units.{day_of, base_mark}
use Rattle.series.proofs.Alone.{over_length}
use Rattle.minima.specs.declared.block.Blocks.{Blocks}
use Rattle.minima.specs.TurningPoints.{counting}
use Rattle.minima.specs.Line.{line, line_over}
use Rattle.minima.specs.Call.{line_list}

pub counting_length : (k n : ℕ) → length (counting k n) ≡ n
unfolding counting
counting_length k zero = refl
counting_length k (suc n) = ap suc (counting_length (suc k) n)

pub counting_at : {A : Type 0} (f : ℕ → A) (k n i : ℕ) (d : A) → i < n → get_or (map f (counting k n)) i d ≡ f (k + i)
unfolding counting
counting_at f k zero i d h = absurd (omega arith)
counting_at f k (suc n) zero d h = ap f (omega arith)
counting_at f k (suc n) (suc i) d h = counting_at f (suc k) n i d (omega arith) ∙ ap f (omega arith)

-- the first of those from o to before n, and none where o has come to n
pub counting_next : (o n : ℕ) → o < n → counting o (n - o) ≡ o ∷ counting (o + 1) (n - (o + 1))
unfolding counting
counting_next o n h =
    let one : n - o ≡ suc (n - (o + 1)) = omega arith in
    let next : suc o ≡ o + 1 = omega arith in
    ap (counting o) one ∙ ap (λ k. o ∷ counting k (n - (o + 1))) next

pub counting_end : (o n : ℕ) → n ≤ o → counting o (n - o) ≡ []
unfolding counting
counting_end o n h = let e : n - o ≡ 0 = omega arith in ap (counting o) e

-- one number more, and none
pub counting_more : (k n : ℕ) → counting k (suc n) ≡ k ∷ counting (suc k) n
unfolding counting
counting_more k n = refl

pub counting_none : (k : ℕ) → counting k 0 ≡ []
unfolding counting
counting_none k = refl

module _ (S : Arithmetic) (B : Blocks) where
  pub line_length : (flows : List ℕ) → length (line S B flows) ≡ length flows
  unfolding line
  line_length flows = length-map (counting 0 (length flows)) _ ∙ counting_length 0 (length flows)

  pub line_over_length : (days : List (Option ℕ)) → length (line_over S B days) ≡ length days
  unfolding line_over
  line_over_length days = over_length (line S B) line_length days

-- the list in memory
module _ (B : Blocks) (days : List ℕ) where
  pub line_list_lem : line_list B days ≡ map base_mark (line_over rounded B (map day_of days))
  unfolding line_list
  line_list_lem = refl

  pub line_list_length : length (line_list B days) ≡ length days
  line_list_length = ap length line_list_lem ∙ length-map (line_over rounded B (map day_of days)) base_mark ∙ line_over_length rounded B (map day_of days) ∙ length-map days day_of
