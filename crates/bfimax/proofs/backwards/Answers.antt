-- `bfimax::backwards` meets its contract: on the days from the last one down the values are written.
use Rattle.std.proofs.Common.{arith, rules}
use Rattle.bfimax.proofs.Spells.{valued_next}
use Rattle.bfimax.proofs.backwards.Goals as goal

pub loop-day-preserved : goal.loop-day-preserved
loop-day-preserved c = valued_next _ _ c.loop-day.invariant (omega arith) c.day_value-value.ensures.0 c.day_value-value.ensures.1 (search rules)
