-- `presence::under_zero` meets its contract.
use Rattle.std.proofs.Common.{◌≡◌, ◌-◌, ◌^◌, [], ◌∷◌}
use mathlib.Core.Bool.{not, ◌||◌}
use lib.Dec.{eqb}
use Rattle.presence.specs.Form.{flow_under_zero}
use Rattle.presence.proofs.under_zero.Given as goal

abbrev pub invariant-loop-found : goal.invariant-loop-found
invariant-loop-found l = flow_under_zero (l.bits ∷ []) 0 l.flows ≡ (not (eqb l.found 0) || flow_under_zero (l.rest ∷ []) 0 l.flows)

abbrev pub decreases-loop-found : goal.decreases-loop-found
decreases-loop-found l = 2 ^ 64 - l.rest
