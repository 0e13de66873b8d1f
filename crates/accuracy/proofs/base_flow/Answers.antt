-- `accuracy::base_flow` meets its contract: each choice is its own call.
use Rattle.accuracy.proofs.OneRun.{filter_called, line_called}
use Rattle.accuracy.proofs.base_flow.Goals as goal

pub returns-in-Filter-clause-base_after : goal.returns-in-Filter-clause-base_after
returns-in-Filter-clause-base_after c = (filter_called c.args.days.now c.args.base.now c.in-Filter.is (c.filter.ensures.result_value, c.filter.ensures.base_after)).1

pub returns-in-Line-clause-base_after : goal.returns-in-Line-clause-base_after
returns-in-Line-clause-base_after c = (line_called c.args.days.now c.args.base.now c.in-Line.is (c.line.ensures.result_value, c.line.ensures.base_after)).1
