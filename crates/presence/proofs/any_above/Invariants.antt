-- `presence::any_above` meets its contract.
use Rattle.std.proofs.Common.{◌≡◌, drop}
use mathlib.Core.Bool.{◌||◌}
use Rattle.presence.specs.Private.{any_above}
use Rattle.presence.proofs.any_above.Given as goal

abbrev pub invariant-loop-flow : goal.invariant-loop-flow
invariant-loop-flow l = any_above l.flows ≡ (l.found || any_above (drop l.flow-index l.flows))
