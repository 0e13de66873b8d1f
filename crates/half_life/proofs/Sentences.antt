-- READ THIS FIRST: the rule's sentences, proved of the definitions in specs/. None of them rests on the table.
-- Assumes nothing.
use Prim.Native.Nat.{ℕ, ◌*◌, ◌^◌, ◌≤◌}
use mathlib.Core.Path.{◌≡◌}
use native.Mathlib.Nat.{pow-le-pow_left, mul-le-mul_left, le_trans, lt_irrefl, lt_of_le_of_lt, lt_of_not-le}
use native.Mathlib.Decide.{dec_le}
use native.Mathlib.Omega.{arith}
use borrow.Author.Tests.{leb-true, le-leb}
use lib.Dec.{leb→le}
use Rattle.half_life.specs.Rule.{is_halved, half_life, HalfLife}
use Rattle.half_life.proofs.Halving.{first_passes, one_first, not_halved, as_first}

-- For every p from 1 to 999 `half_life` is the least n of at least 1 with 2 × p^n at most 1000^n: it holds there, and at no
-- smaller number.
pub half_life_sentence : (p : ℕ) → p ≤ 999 → HalfLife p (half_life p)
unfolding half_life is_halved
half_life_sentence p h =
    let last : 2 * p ^ 1000 ≤ 1000 ^ 1000 = le_trans (mul-le-mul_left 2 (pow-le-pow_left h 1000)) (leb→le (2 * 999 ^ 1000) (1000 ^ 1000) tt) in
    let f = first_passes (is_halved p) 1000 1 {n = 1000} (omega arith) (omega arith) (le-leb _ _ last) in
    record { at_least_1 = f.onward; halved = leb-true _ _ f.passes; not_before = λ m a b. not_halved p m (f.none_before m a b) }

-- And no other number is: the sentence settles it.
pub no_other : (p n : ℕ) → p ≤ 999 → HalfLife p n → n ≡ half_life p
no_other p n h l = one_first (as_first l) (as_first (half_life_sentence p h))

-- The largest is that of p 999: 693 days.
pub at_most_693 : (p : ℕ) → p ≤ 999 → half_life p ≤ 693
at_most_693 p h =
    let halved : 2 * p ^ 693 ≤ 1000 ^ 693 = le_trans (mul-le-mul_left 2 (pow-le-pow_left h 693)) (leb→le (2 * 999 ^ 693) (1000 ^ 693) tt) in
    elim (dec_le (half_life p) 693) [
      | yes l ↦ l
      | no l ↦ absurd (lt_irrefl _ (lt_of_le_of_lt halved ((half_life_sentence p h).not_before 693 (omega arith) (lt_of_not-le l))))
    ]
