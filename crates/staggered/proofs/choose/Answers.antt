-- `staggered::choose` meets its contract: before t the base list is filled.
use mathlib.Core.Path.{◌∙◌, ap}
use Rattle.numbers.specs.Arithmetic.{rounded}
use Rattle.series.specs.Units.{base_mark}
use Rattle.staggered.specs.Rule.{chosen}
use Rattle.staggered.specs.Private.{number_of, chosen_from}
use Rattle.staggered.proofs.Loops.{fill_turn, fill_end}
use Rattle.staggered.proofs.choose.Goals as goal

pub loop-t-preserved : goal.loop-t-preserved
loop-t-preserved c = fill_turn _ c.loop-t.invariant c.loop-t-test.true (c.chosen.ensures ∙ ap (λ os. base_mark (chosen rounded (number_of c.args.choice) os)) c.new.ensures)

pub returns : goal.returns
unfolding chosen_from
returns c = fill_end _ c.loop-t.invariant c.loop-t-test.false
