-- A number of either sign as the machine holds it: its size, and its two parts by its sign.
-- Assumes nothing.
use Prim.Native.Nat.{ℕ, ◌+◌, ◌*◌, ◌<◌}
use mathlib.Core.Path.{◌≡◌}
use mathlib.Core.Bool.{cond}
use native.Mathlib.Omega.{arith}
use borrow.Author.Tests.{le-ltb}
use lib.IntN.{ℤ, pos, negsuc, nat_abs}
use lib.Signed.{mag, lt_z}
use mir.Syntax.{w32}
use mir.Val.{SFits, to_z, of_z}
use mir.Facts.{to_z-of_z}
use Rattle.numbers.specs.Whole.{up, down}

-- both parts together are the number without its sign
pub size : (z : ℤ) → nat_abs z ≡ up z + down z
size (pos n) = omega arith
size (negsuc n) = omega arith

-- and each part times q, from the size and the sign
pub up_by_sign : (z : ℤ) (q : ℕ) → cond (lt_z z (pos 0)) 0 ((up z + down z) * q) ≡ up z * q
up_by_sign (pos n) q = rw (le-ltb n 0 (omega arith)) (omega arith)
up_by_sign (negsuc n) q = omega arith

pub down_by_sign : (z : ℤ) (q : ℕ) → cond (lt_z z (pos 0)) ((up z + down z) * q) 0 ≡ down z * q
down_by_sign (pos n) q = rw (le-ltb n 0 (omega arith)) (omega arith)
down_by_sign (negsuc n) q = omega arith

-- a field of a struct
pub field : (s : ℤ) → mag s < 2147483648 → to_z w32 (of_z w32 s) ≡ s
field s h = to_z-of_z {w = w32} {z = s} (record { sfits = h })

-- what stands in 32 bits is the number
pub held : (s : ℤ) → SFits w32 s → to_z w32 (of_z w32 s) ≡ s
held s f = to_z-of_z f
