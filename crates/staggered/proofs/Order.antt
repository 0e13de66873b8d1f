-- Where the staggered call's order asks 10.
-- Assumes nothing.
use mathlib.Core.Path.{◌≡◌, refl}
use mathlib.Core.Bool.{not}
use mathlib.Core.List.{List, [], ◌∷◌, map}
use mathlib.Core.Option.{none}
use Prim.Native.Nat.{ℕ, ◌*◌}
use lib.ListN.{length}
use lib.Dec.{ltb, eqb}
use borrow.Author.Tests.{eqb-true, not-false}
use Rattle.series.specs.Units.{day_limit, day_of}
use Rattle.series.specs.Causes.{cause, first_cause}
use Rattle.series.specs.Lists.{too_long, lengths_differ}
use Rattle.series.proofs.Refusing.{passed}
use Rattle.series.proofs.AtTen.{At10}
use Rattle.minima.specs.declared.LineSetting.{LineSetting}
use Rattle.staggered.specs.Call.{bad_setting, work_differs, no_lines, staggered_causes}

pub staggered_at_10 : (s : LineSetting) (choice : ℕ) (base work : List ℕ) → At10 base (λ days. staggered_causes s choice days base work)
unfolding staggered_causes too_long lengths_differ work_differs
staggered_at_10 s choice base work =
    record {
      before = λ n. cause (bad_setting s choice) 16 ∷ cause (ltb day_limit n) 9 ∷ cause (not (eqb n (length base))) 14 ∷ cause (not (eqb (s.block_days * n) (length work))) 25 ∷ [];
      after = λ days. cause (no_lines s (map day_of days)) 17 ∷ [];
      in_order = λ days. refl;
      numbers_before = λ n. refl;
      numbers_after = λ days. refl;
      asks_9 = λ n. refl;
      asks_14 = λ n. refl;
    }

-- the length of the work list of a call that accepts
pub work_length : (s : LineSetting) (choice : ℕ) (days base work : List ℕ) → first_cause (staggered_causes s choice days base work) ≡ none → s.block_days * length days ≡ length work
unfolding staggered_causes work_differs
work_length s choice days base work e = eqb-true _ _ (not-false _ (passed (staggered_causes s choice days base work) e 25))
