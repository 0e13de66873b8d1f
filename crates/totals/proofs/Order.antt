-- Where the totals call's order asks 10.
-- Assumes nothing.
use mathlib.Core.Path.{refl}
use mathlib.Core.Bool.{not}
use mathlib.Core.List.{List, [], ◌∷◌}
use Prim.Native.Nat.{ℕ}
use lib.ListN.{length}
use lib.Dec.{ltb, eqb}
use Rattle.series.specs.Units.{day_limit}
use Rattle.series.specs.Causes.{cause}
use Rattle.series.specs.Lists.{too_long, lengths_differ, any_invalid_base}
use Rattle.series.proofs.AtTen.{At10}
use Rattle.totals.specs.Call.{no_flow, totals_causes}

pub totals_at_10 : (base : List ℕ) → At10 base (λ days. totals_causes days base)
unfolding totals_causes too_long lengths_differ
totals_at_10 base =
    record {
      before = λ n. cause (ltb day_limit n) 9 ∷ cause (not (eqb n (length base))) 14 ∷ [];
      after = λ days. cause (any_invalid_base days base) 20 ∷ cause (no_flow days base) 21 ∷ [];
      in_order = λ days. refl;
      numbers_before = λ n. refl;
      numbers_after = λ days. refl;
      asks_9 = λ n. refl;
      asks_14 = λ n. refl;
    }
