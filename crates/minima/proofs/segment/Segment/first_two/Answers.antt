-- `minima::segment::Segment::first_two` meets its contract.
use native.Mathlib.Omega.{arith}
use Rattle.minima.proofs.Points.{no_triples}
use Rattle.minima.proofs.Pieces.{none_found, one_alone}
use Rattle.minima.proofs.segment.Segment.first_two.Goals as goal

pub returns-then-self-lt3 : goal.returns-then-self-lt3
returns-then-self-lt3 c = none_found _ _ (no_triples _ _ (omega (arith, c.if-self-lt3.true, c.args.self.now.counted)))

pub returns-in_err-first : goal.returns-in_err-first
returns-in_err-first c = rw c.from_residual.ensures (none_found _ _ c.in_err-first.ensures)

pub returns-in_err-second : goal.returns-in_err-second
returns-in_err-second c = rw c.from_residual-in_err-second.ensures (one_alone _ _ c.in_ok-first.ensures c.in_err-second.ensures)
