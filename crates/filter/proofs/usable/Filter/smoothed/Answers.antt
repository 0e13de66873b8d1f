-- `filter::usable::Filter::smoothed` meets its contract.
use Rattle.std.proofs.Common.{◌∙◌, ap}
use Rattle.filter.proofs.MethodNumbers.{smoothed_is}
use Rattle.filter.proofs.usable.Filter.smoothed.Goals as goal

pub returns : goal.returns
returns c = c.min.ensures ∙ smoothed_is _ _ _ _ (ap (λ w. w.d) c.args.self.row_is) c.mean-rounded.ensures c.sum.ensures
