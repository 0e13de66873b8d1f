-- `record::put::put_days` meets its contract: the entries that the days left have behind the gap in hand, stored at the
-- position, give what all give stored at the start.
use mathlib.Core.Path.{◌≡◌}
use Prim.Native.Nat.{◌+◌, ◌≤◌}
use lib.ListN.{length, drop}
use Rattle.numbers.specs.Lists.{stored}
use Rattle.record.specs.Writing.{entries}
use Rattle.record.proofs.put.put_days.Given as goal

abbrev pub invariant-loop-day : goal.invariant-loop-day
invariant-loop-day l =
    record {
      behind : l.at + length (entries l.gap (drop l.day-index l.days)) ≡ l.from + length (entries 0 l.days);
      output : stored l.bytes l.at (entries l.gap (drop l.day-index l.days)) ≡ stored l.fn.bytes l.from (entries 0 l.days);
      gap : l.gap ≤ l.day-index;
    }
