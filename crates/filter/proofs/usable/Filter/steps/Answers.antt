-- `filter::usable::Filter::steps` meets its contract.
use Rattle.std.proofs.Common.{arith}
use Rattle.series.proofs.Views.{valid_at}
use Rattle.filter.proofs.Turns.{steps_start, steps_turn, steps_end}
use Rattle.filter.proofs.usable.Filter.steps.Goals as goal

pub advance-next-requires : goal.advance-next-requires
advance-next-requires c = (c.loop-t.invariant.valid, valid_at _ _ c.requires.days_value.0 (omega arith))

pub loop-t-init : goal.loop-t-init
loop-t-init c = steps_start _ _ _ _ c.requires.state_value

pub loop-t-preserved : goal.loop-t-preserved
loop-t-preserved c =
    steps_turn _ _ _ (omega arith) (omega arith) c.loop-t.invariant (c.advance-next.ensures.state_value, c.advance-next.ensures.next_yesterday)

pub returns : goal.returns
returns c = rw c.for_many_days-filter.ensures at (steps_end _ _ _ (omega arith) (omega arith) c.loop-t.invariant)
