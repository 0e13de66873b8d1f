-- `filter::usable::Filter::for_many_days` meets its contract: d is above 0.
use Rattle.filter.proofs.MethodNumbers.{moderate}
use Rattle.filter.proofs.usable.Filter.for_many_days.Goals as goal

pub new-requires : goal.new-requires
new-requires c = (moderate c.args.self).above
