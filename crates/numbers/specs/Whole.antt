-- Whole numbers of either sign: the part above zero, and the part below zero. One of the two is 0.
use Rattle.std.specs.Prelude.{ℕ, suc, ℤ, pos, negsuc}

-- z where it is above zero, else 0
abbrev pub up : ℤ → ℕ
up (pos n) = n
up (negsuc n) = 0

-- -z where z is below zero, else 0
abbrev pub down : ℤ → ℕ
down (pos n) = 0
down (negsuc n) = suc n
