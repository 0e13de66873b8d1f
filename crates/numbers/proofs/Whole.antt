-- Whole numbers of either sign as the difference of their two parts, of which one is zero: `up z - down z`.
-- By these laws an order of sums and multiples becomes one of natural numbers, which `omega` proves.
-- Assumes nothing.
use Prim.Native.Nat.{ℕ, zero, suc, ◌+◌, ◌*◌, ◌≤◌}
use mathlib.Core.Path.{◌≡◌, refl}
use mathlib.Core.Logic.{◌↔◌, ◌⊎◌, inl, inr}
use mathlib.Core.Bool.{Bool, true, false, true≢false}
use native.Mathlib.Omega.{arith}
use lib.IntN.{ℤ, pos, negsuc, neg_ℤ, sub_ℕ, ◌+ℤ◌, ◌*ℤ◌}
use lib.Signed.{◌≤ℤ◌, le_z}
use lib.Dec.{leb→le, le→leb, ltb}
use borrow.Author.Tests.{ltb-true, ltb-false, leb-false}
use native.Mathlib.Nat.{le_of_lt}
use Rattle.numbers.specs.Whole.{up, down}

pub one_side : (z : ℤ) → (up z ≡ 0) ⊎ (down z ≡ 0)
one_side (pos n) = inr refl
one_side (negsuc n) = inl refl

pub order : (a b : ℤ) → (a ≤ℤ b) ↔ (up a + down b ≤ up b + down a)
order (pos a) (pos b) = ((λ h. omega (arith, leb→le a b h.le)), (λ h. record { le = le→leb a b (omega arith) }))
order (pos a) (negsuc b) = ((λ h. absurd h.le), (λ h. absurd (omega arith)))
order (negsuc a) (pos b) = ((λ h. omega arith), (λ h. record { le = tt }))
order (negsuc a) (negsuc b) = ((λ h. omega (arith, leb→le b a h.le)), (λ h. record { le = le→leb b a (omega arith) }))

pub otherwise : (a b : ℤ) → le_z a b ≡ false → b ≤ℤ a
otherwise (pos a) (pos b) e = record { le = le→leb b a (le_of_lt (leb-false a b e)) }
otherwise (pos a) (negsuc b) e = record { le = tt }
otherwise (negsuc a) (pos b) e = absurd (true≢false e)
otherwise (negsuc a) (negsuc b) e = record { le = le→leb a b (le_of_lt (leb-false b a e)) }

of_difference : (a b : ℕ) → up (sub_ℕ a b) + b ≡ a + down (sub_ℕ a b)
of_difference a b = go (ltb a b) refl
  where
    go : (t : Bool) → ltb a b ≡ t → up (sub_ℕ a b) + b ≡ a + down (sub_ℕ a b)
    go true e = rw e (omega (arith, ltb-true a b e))
    go false e = rw e (omega (arith, ltb-false a b e))

pub of_sum : (a b : ℤ) → up (a +ℤ b) + (down a + down b) ≡ up a + up b + down (a +ℤ b)
of_sum (pos a) (pos b) = omega arith
of_sum (pos a) (negsuc b) = omega (arith, of_difference a (suc b))
of_sum (negsuc a) (pos b) = omega (arith, of_difference b (suc a))
of_sum (negsuc a) (negsuc b) = omega arith

pub up_of_minus : (a : ℤ) → up (neg_ℤ a) ≡ down a
up_of_minus (pos zero) = refl
up_of_minus (pos (suc n)) = refl
up_of_minus (negsuc n) = refl

pub down_of_minus : (a : ℤ) → down (neg_ℤ a) ≡ up a
down_of_minus (pos zero) = refl
down_of_minus (pos (suc n)) = refl
down_of_minus (negsuc n) = refl

pub up_of_multiple : (a : ℤ) (k : ℕ) → up (a *ℤ pos k) ≡ up a * k
up_of_multiple (pos a) k = refl
up_of_multiple (negsuc a) k = omega (arith, up_of_minus (pos (suc a * k)))

pub down_of_multiple : (a : ℤ) (k : ℕ) → down (a *ℤ pos k) ≡ down a * k
down_of_multiple (pos a) k = omega arith
down_of_multiple (negsuc a) k = omega (arith, down_of_minus (pos (suc a * k)))
