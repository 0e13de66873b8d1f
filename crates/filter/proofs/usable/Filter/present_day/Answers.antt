-- `filter::usable::Filter::present_day` meets its contract.
use Rattle.filter.proofs.Turns.{starts, goes_on}
use Rattle.filter.specs.Methods.{weights}
use Rattle.filter.proofs.usable.Filter.present_day.Goals as goal

pub returns-in-None : goal.returns-in-None
returns-in-None c = starts (weights c.args.self.setting) _ c.in-None.is

pub returns-in-Some : goal.returns-in-Some
returns-in-Some c = goes_on (weights c.args.self.setting) _ c.in-Some.is c.smoothed.ensures
