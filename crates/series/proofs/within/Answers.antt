-- `series::within` meets its contract.
use Rattle.series.specs.Units.{within}
use Rattle.std.proofs.Common.{rules}
use Rattle.series.proofs.within.Goals as goal

pub returns : goal.returns
unfolding within
returns c = search rules
