-- Where BFImax's order asks 10.
-- Assumes nothing.
use mathlib.Core.Path.{refl}
use mathlib.Core.Bool.{not}
use mathlib.Core.List.{List, [], ◌∷◌}
use Prim.Native.Nat.{ℕ}
use lib.ListN.{length}
use lib.Dec.{ltb, eqb}
use Rattle.series.specs.Units.{day_limit, within}
use Rattle.series.specs.Causes.{cause}
use Rattle.series.specs.Lists.{too_long, lengths_differ}
use Rattle.series.proofs.AtTen.{At10}
use Rattle.bfimax.specs.Call.{Spell, flows_of, no_spell, no_flow, bfimax_causes}

pub bfimax_at_10 : (s : Spell) (base : List ℕ) → At10 base (λ days. bfimax_causes s days base)
unfolding bfimax_causes too_long lengths_differ
bfimax_at_10 s base =
    record {
      before = λ n. cause (not (within 1 9999 s.p)) 12 ∷ cause (not (within 2 3650 s.duration)) 23 ∷ cause (ltb day_limit n) 9 ∷ cause (not (eqb n (length base))) 14 ∷ [];
      after = λ days. cause (no_spell s.last s.duration days) 24 ∷ cause (no_flow (flows_of s days)) 21 ∷ [];
      in_order = λ days. refl;
      numbers_before = λ n. refl;
      numbers_after = λ days. refl;
      asks_9 = λ n. refl;
      asks_14 = λ n. refl;
    }
