-- Where the minima line's order asks 10.
-- Assumes nothing.
use mathlib.Core.Path.{refl}
use mathlib.Core.Bool.{not}
use mathlib.Core.List.{List, [], ◌∷◌, map}
use Prim.Native.Nat.{ℕ}
use lib.ListN.{length}
use lib.Dec.{ltb, eqb}
use Rattle.series.specs.Units.{day_limit, day_of}
use Rattle.series.specs.Causes.{cause}
use Rattle.series.specs.Lists.{too_long, lengths_differ}
use Rattle.series.proofs.AtTen.{At10}
use Rattle.minima.specs.declared.LineSetting.{LineSetting}
use Rattle.minima.specs.Call.{blocks_of, out_of_range, no_line, line_causes}

pub line_at_10 : (s : LineSetting) (base : List ℕ) → At10 base (λ days. line_causes s days base)
unfolding line_causes too_long lengths_differ
line_at_10 s base =
    record {
      before = λ n. cause (out_of_range s) 16 ∷ cause (ltb day_limit n) 9 ∷ cause (not (eqb n (length base))) 14 ∷ [];
      after = λ days. cause (no_line (blocks_of s) (map day_of days)) 17 ∷ [];
      in_order = λ days. refl;
      numbers_before = λ n. refl;
      numbers_after = λ days. refl;
      asks_9 = λ n. refl;
      asks_14 = λ n. refl;
    }
