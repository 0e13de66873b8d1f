-- `staggered::choose` meets its contract: before t the base list is filled.
use Rattle.numbers.specs.Arithmetic.{rounded}
use Rattle.series.specs.Units.{base_mark}
use Rattle.staggered.specs.Rule.{chosen}
use Rattle.staggered.specs.Private.{number_of, shown_on}
use Rattle.staggered.proofs.Loops.{FilledTo}
use Rattle.staggered.proofs.choose.Given as goal

abbrev pub invariant-loop-t : goal.invariant-loop-t
invariant-loop-t l = FilledTo (λ t. base_mark (chosen rounded (number_of l.choice) (shown_on l.work l.days t))) l.initial.base l.base l.t
