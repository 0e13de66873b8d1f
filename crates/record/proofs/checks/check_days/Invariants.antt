-- `record::checks::check_days` meets its contract: what all bytes come to is the days counted so far, and then what the
-- bytes that are left come to.
use mathlib.Core.Path.{◌≡◌}
use Rattle.record.specs.Private.{left}
use Rattle.record.proofs.Walk.{Walked}
use Rattle.record.proofs.checks.check_days.Given as goal

abbrev pub invariant-loop-entry : goal.invariant-loop-entry
invariant-loop-entry l = record { walk : Walked l.bytes l.room l.rest l.counted; here : left l.entry-iterator ≡ l.rest }
