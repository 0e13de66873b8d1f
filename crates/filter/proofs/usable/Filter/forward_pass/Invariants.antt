-- `filter::usable::Filter::forward_pass` meets its contract: the days before the index are done, and what is left is the run from the
-- day before.
use Rattle.filter.specs.Methods.{weights}
use Rattle.filter.proofs.Turns.{LaterPass}
use Rattle.filter.proofs.usable.Filter.forward_pass.Given as goal

abbrev pub invariant-loop-value : goal.invariant-loop-value
invariant-loop-value l = LaterPass (weights l.filter.setting) l.initial.base l.base l.previous l.value-index
