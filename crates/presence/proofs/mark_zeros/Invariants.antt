-- `presence::mark_zeros` meets its contract.
use Rattle.std.proofs.Common.{◌≡◌, ◌-◌, ◌^◌, [], ◌∷◌}
use Rattle.presence.specs.Form.{days_of}
use Rattle.presence.proofs.mark_zeros.Given as goal

abbrev pub invariant-loop-days : goal.invariant-loop-days
invariant-loop-days l = days_of l.days (l.rest ∷ []) ≡ days_of l.fn.days (l.word ∷ [])

abbrev pub decreases-loop-days : goal.decreases-loop-days
decreases-loop-days l = 2 ^ 64 - l.rest
