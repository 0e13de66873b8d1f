-- `filter::usable::Filter::mean` meets its contract, by either way of dividing by d.
use Rattle.filter.proofs.MethodNumbers.{moderate}
use Rattle.filter.proofs.usable.Filter.mean.Goals as goal

pub near_halved-requires : goal.near_halved-requires
near_halved-requires c = (moderate c.args.self).above

pub returns-in-Some : goal.returns-in-Some
returns-in-Some c = rw (c.args.self.divisor_is _ c.in-Some.is) at c.near_halved-in-Some.ensures
