-- A float by the machine's bits, and by the four bytes of a body.
-- Assumes nothing.
use Prim.Native.Nat.{ℕ}
use mathlib.Core.Path.{◌≡◌, refl, ◌∙◌, ap}
use mathlib.Core.Bool.{true, false≢true}
use mathlib.Core.List.{List}
use native.Mathlib.Omega.{arith}
use lib.Ieee.{Float, nan, inf, fin, is_nan, fits, binary32, of_bits, to_bits}
use lib.Ieee.Bits.{of_bits-to_bits}
use lib.ListN.{length, take}
use Rattle.std.specs.Int.{from_le_bytes, w32}
use Rattle.std.proofs.lemmas.List.{take_all}
use Rattle.series.proofs.Bytes.{four_read}
use Rattle.series.specs.Units.{number}
use Rattle.meter.specs.Rule.{is_no_flow}
use Rattle.meter.specs.Private.{float_outcome, body_outcome}

-- a float by its bits
pub own_bits : (x : Float) → fits binary32 x ≡ true → of_bits binary32 (to_bits binary32 x) ≡ x
own_bits x h = of_bits-to_bits binary32 x (rw h tt)

-- no number is no flow
pub no_number : (x : Float) → is_nan x ≡ true → is_no_flow x ≡ true
unfolding is_nan is_no_flow
no_number nan e = refl
no_number (inf s) e = refl
no_number (fin s m k) e = absurd (false≢true e)

-- a body of four bytes is a float's
pub whole : (unit : ℕ) (body : List ℕ) → length body ≡ 4 → float_outcome unit (of_bits binary32 (from_le_bytes w32 (take 4 body))) ≡ body_outcome unit body
unfolding body_outcome float_outcome
whole unit body h = ap (λ n. float_outcome unit (of_bits binary32 n)) (four_read body (omega arith) ∙ ap number (take_all 4 body (omega arith))) ∙ rw h refl
