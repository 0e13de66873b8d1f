-- `put_fixed_point` of a page meets its contract: a power of ten is no zero.
use native.Mathlib.Nat.{one-le-pow}
use native.Mathlib.Omega.{arith}
use Rattle.report.proofs.page.Page.put_fixed_point.Goals as goal

pub nonzero_div-number : goal.nonzero_div-number
nonzero_div-number c = omega (arith, c.pow.ensures, one-le-pow c.args.decimals 10 (omega arith))
