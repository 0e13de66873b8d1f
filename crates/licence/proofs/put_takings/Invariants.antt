-- `licence::put_takings` meets its contract.
use Rattle.std.proofs.Common.{◌≡◌, ◌++◌, take}
use Rattle.licence.specs.Call.{listed_takings, listed_left}
use Rattle.licence.proofs.Loops.{left_from, takings_from}
use Rattle.licence.proofs.put_takings.Given as goal

abbrev pub invariant-loop-t : goal.invariant-loop-t
invariant-loop-t l =
    record {
      left_over : left_from l.licence.daily_limit l.left l.days l.base l.t ≡ listed_left l.licence l.days l.base;
      so_far : take l.t l.takings ++ takings_from l.licence.daily_limit l.left l.days l.base l.t ≡ listed_takings l.licence l.days l.base;
    }
