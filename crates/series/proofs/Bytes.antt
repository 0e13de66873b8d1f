-- The number of two or four bytes, the lowest first: byte by byte, and as the library reads it.
-- Assumes nothing.
use Prim.Native.Nat.{ℕ, ◌+◌, ◌*◌, ◌≤◌}
use mathlib.Core.Path.{◌≡◌}
use mathlib.Core.List.{List, [], ◌∷◌}
use native.Mathlib.Omega.{arith}
use lib.ListN.{length, get_or, take}
use Rattle.std.proofs.lemmas.List.{get_or-take}
use Rattle.std.specs.Int.{from_le_bytes, w16, w32}
use Rattle.series.specs.Units.{number}

pub two_bytes : (s : List ℕ) → 2 ≤ length s → number (take 2 s) ≡ get_or s 0 0 + 256 * get_or s 1 0
unfolding number
two_bytes [] h = absurd (omega arith)
two_bytes (a ∷ []) h = absurd (omega arith)
two_bytes (a ∷ b ∷ s) h = omega arith

pub four_bytes : (s : List ℕ) → 4 ≤ length s → number (take 4 s) ≡ get_or s 0 0 + 256 * get_or s 1 0 + 65536 * get_or s 2 0 + 16777216 * get_or s 3 0
unfolding number
four_bytes [] h = absurd (omega arith)
four_bytes (a ∷ []) h = absurd (omega arith)
four_bytes (a ∷ b ∷ []) h = absurd (omega arith)
four_bytes (a ∷ b ∷ c ∷ []) h = absurd (omega arith)
four_bytes (a ∷ b ∷ c ∷ d ∷ s) h = omega arith

pub two_read : (s : List ℕ) → 2 ≤ length s → from_le_bytes w16 (take 2 s) ≡ number (take 2 s)
two_read s h =
    omega (arith, two_bytes s h, get_or-take 2 s 0 0 (omega arith), get_or-take 2 s 1 0 (omega arith))

pub four_read : (s : List ℕ) → 4 ≤ length s → from_le_bytes w32 (take 4 s) ≡ number (take 4 s)
four_read s h =
    omega (arith, four_bytes s h, get_or-take 4 s 0 0 (omega arith), get_or-take 4 s 1 0 (omega arith), get_or-take 4 s 2 0 (omega arith), get_or-take 4 s 3 0 (omega arith))
