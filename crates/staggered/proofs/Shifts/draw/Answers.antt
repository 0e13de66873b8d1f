-- `draw` of the shifts meets its contract: the lines drawn so far and those still to come are all.
use native.Mathlib.Omega.{arith}
use Rattle.staggered.proofs.Loops.{draw_start, draw_turn, draw_end}
use Rattle.staggered.proofs.Shifts.draw.Goals as goal

pub loop-o-init : goal.loop-o-init
loop-o-init c = draw_start _ _ _

pub loop-o-preserved : goal.loop-o-preserved
loop-o-preserved c = draw_turn _ _ c.loop-o.invariant c.requires.whole c.loop-o-test.true (omega arith) (omega arith) c.shifted_line.ensures

pub returns : goal.returns
returns c = draw_end _ _ c.loop-o.invariant c.requires.whole c.loop-o-test.false
