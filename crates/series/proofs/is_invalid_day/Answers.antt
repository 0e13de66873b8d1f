-- `series::is_invalid_day` meets its contract.
use borrow.Author.Tests.{le-leb, lt-leb, le-ltb}
use Rattle.series.specs.Units.{is_invalid_day}
use Rattle.series.proofs.is_invalid_day.Goals as goal

pub returns-then-day-gt-FLOW_LIMIT : goal.returns-then-day-gt-FLOW_LIMIT
unfolding is_invalid_day
returns-then-day-gt-FLOW_LIMIT c = simp (lt-leb _ _ c.if-day-gt-FLOW_LIMIT.true)

pub returns-else-day-gt-FLOW_LIMIT : goal.returns-else-day-gt-FLOW_LIMIT
unfolding is_invalid_day
returns-else-day-gt-FLOW_LIMIT c = simp (le-leb _ _ c.if-day-gt-FLOW_LIMIT.false, le-ltb _ _ c.if-day-gt-FLOW_LIMIT.false)
