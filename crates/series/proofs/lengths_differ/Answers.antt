-- `series::lengths_differ` meets its contract.
use mathlib.Core.Path.{refl}
use Rattle.series.specs.Lists.{lengths_differ}
use Rattle.series.proofs.lengths_differ.Goals as goal

pub returns : goal.returns
unfolding lengths_differ
returns c = refl
