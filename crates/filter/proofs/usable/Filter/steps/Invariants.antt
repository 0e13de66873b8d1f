-- `filter::usable::Filter::steps` meets its contract: the days before t are done, and what is left is the run from the state.
use Rattle.filter.proofs.Turns.{Steps}
use Rattle.filter.proofs.usable.Filter.steps.Given as goal

abbrev pub invariant-loop-t : goal.invariant-loop-t
invariant-loop-t l = Steps l.filter.setting l.fn.state l.days l.base l.state l.t
