-- `record::put::record_len` meets its contract: the bytes counted so far, and those that the days left have behind the gap
-- in hand, are those of the record, and those of the gap, which are counted already.
use mathlib.Core.Path.{◌≡◌}
use Prim.Native.Nat.{◌+◌, ◌≤◌}
use lib.ListN.{length, drop}
use Rattle.record.specs.Writing.{gap_entry, entries}
use Rattle.record.proofs.put.record_len.Given as goal

abbrev pub invariant-loop-day : goal.invariant-loop-day
invariant-loop-day l =
    record {
      total : l.len + length (entries l.gap (drop l.day-index l.days)) ≡ length (entries 0 l.days) + 10 + length (gap_entry l.gap);
      gap : l.gap ≤ l.day-index;
    }
