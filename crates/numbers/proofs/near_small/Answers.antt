-- `numbers::near_small` meets its contract.
use mathlib.Core.Path.{ap, ◌∙◌}
use native.Mathlib.Omega.{arith}
use Rattle.numbers.specs.Near.{near}
use Rattle.numbers.proofs.near_small.Goals as goal

pub returns : goal.returns
returns c = c.near_halved.ensures c.args.a 0 (omega arith) ∙ ap (λ n. near n c.args.b) (omega arith)
