-- `minima::piece::Piece::fill` meets its contract: the days before t are filled.
use Prim.Native.Nat.{◌+◌}
use Rattle.numbers.specs.Arithmetic.{rounded}
use Rattle.minima.specs.Line.{between}
use Rattle.minima.specs.Private.{Filled}
use Rattle.minima.proofs.piece.Piece.fill.Given as goal

abbrev pub invariant-loop-t : goal.invariant-loop-t
invariant-loop-t l = Filled (between rounded l.self.flows.now l.self.left l.self.right) (l.self.left + 1) l.t l.initial.base l.base
