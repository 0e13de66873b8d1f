-- `series::too_long` meets its contract.
use mathlib.Core.Path.{refl}
use Rattle.series.specs.Lists.{too_long}
use Rattle.series.proofs.too_long.Goals as goal

pub returns : goal.returns
unfolding too_long
returns c = refl
