-- `draw` of the shifts meets its contract: the lines drawn so far and those still to come are all.
use Rattle.staggered.proofs.Loops.{DrawnTo}
use Rattle.staggered.proofs.Shifts.draw.Given as goal

abbrev pub invariant-loop-o : goal.invariant-loop-o
invariant-loop-o l = DrawnTo l.self.setting l.self.days.now l.initial.work l.work l.o
