-- `filter::usable::Filter::forward_pass` meets its contract.
use Rattle.std.proofs.Common.{arith}
use Rattle.filter.proofs.Turns.{later_start, later_turn, later_end}
use Rattle.filter.proofs.usable.Filter.forward_pass.Goals as goal

pub pass_day-passed-requires : goal.pass_day-passed-requires
pass_day-passed-requires c = (c.loop-value.invariant.small_previous, c.loop-value.invariant.small c.loop-value.value-index)

pub loop-value-init : goal.loop-value-init
loop-value-init c = later_start _ _ c.requires

pub loop-value-preserved : goal.loop-value-preserved
loop-value-preserved c = later_turn _ _ (omega arith) c.loop-value.invariant (c.pass_day-passed.ensures.previous_value, c.pass_day-passed.ensures.small_previous)

pub returns : goal.returns
returns c = rw c.for_many_days-filter.ensures at (later_end _ _ (omega arith) c.loop-value.invariant)
