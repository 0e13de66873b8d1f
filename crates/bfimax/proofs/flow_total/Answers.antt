-- `bfimax::flow_total` meets its contract: the rule's sum is the library's.
use Rattle.std.proofs.Common.{rules, ◌≡◌, ◌∙◌}
use Rattle.std.specs.List.{sum}
use Rattle.bfimax.proofs.Spells.{as_sum}
use Rattle.bfimax.proofs.flow_total.Goals as goal

pub returns : goal.returns
returns c = let e : c.sum.result ≡ sum c.args.flows.now = search rules in e ∙ as_sum c.args.flows.now
