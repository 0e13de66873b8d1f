-- `filter::usable::Filter::first_pass` meets its contract: steps over the days that are left where it began.
use Rattle.filter.proofs.Starts.{days_left}
use Rattle.filter.proofs.usable.Filter.first_pass.Goals as goal

pub steps-requires-clause-days_value : goal.steps-requires-clause-days_value
steps-requires-clause-days_value c = days_left _ c.args.days.now c.args.base.now _ c.requires.days_value.0 c.requires.days_value.1 c.begin-begun.auto.base
