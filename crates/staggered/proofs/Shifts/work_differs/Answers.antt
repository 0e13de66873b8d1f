-- `work_differs` of the shifts meets its contract: a product that does not fit is no list's length.
use Prim.Native.Nat.{ℕ, ◌^◌, ◌<◌}
use mathlib.Core.Path.{◌≡◌, sym, ◌∙◌, ap}
use mathlib.Core.Bool.{not}
use native.Mathlib.Omega.{arith}
use lib.Dec.{eqb}
use lib.ListN.{length}
use borrow.Author.Tests.{ne_eqb}
use Rattle.std.specs.Prelude.{Option, Some, None}
use Rattle.std.specs.Option.{SomeIff, option_eq}
use Rattle.staggered.specs.Call.{work_differs}
use Rattle.staggered.proofs.Shifts.work_differs.Goals as goal

by_product : (n w : ℕ) (r : Option ℕ) → SomeIff r (n < 2 ^ 64) n → w < 2 ^ 64 → not (option_eq eqb r (Some w)) ≡ not (eqb n w)
by_product n w (Some m) h l = ap (λ k. not (eqb k w)) h.1
by_product n w None h l = sym (ap not (ne_eqb n w (λ e. h (omega arith))))

pub returns : goal.returns
unfolding work_differs
returns c = c.ne.ensures ∙ by_product _ _ _ c.checked_mul.ensures (let h : length c.args.work.now < 2 ^ 64 = omega arith in h)
