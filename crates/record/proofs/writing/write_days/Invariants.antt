-- `record::writing::write_days` meets its contract: the days counted so far stand in the list, and no check can fail.
use lib.ListN.{length}
use Rattle.record.specs.Private.{left}
use Rattle.record.proofs.WritingWalk.{Written}
use Rattle.record.proofs.writing.write_days.Given as goal

abbrev pub invariant-loop-entry : goal.invariant-loop-entry
invariant-loop-entry l = Written l.bytes (length l.fn.days) (left l.entry-iterator) l.counted l.days
