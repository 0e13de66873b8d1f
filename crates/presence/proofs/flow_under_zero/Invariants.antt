-- `presence::flow_under_zero` meets its contract.
use Rattle.std.proofs.Common.{◌*◌, ◌≡◌, drop}
use mathlib.Core.Bool.{◌||◌}
use Rattle.presence.specs.Form.{flow_under_zero}
use Rattle.presence.proofs.flow_under_zero.Given as goal

abbrev pub invariant-loop-k : goal.invariant-loop-k
invariant-loop-k l = flow_under_zero l.words 0 l.flows ≡ (l.found || flow_under_zero l.words (64 * l.k) (drop (64 * l.k) l.flows))
