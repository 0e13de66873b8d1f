-- Where the filter's order asks 10.
-- Assumes nothing.
use Prim.Native.Nat.{ℕ}
use mathlib.Core.Path.{refl}
use mathlib.Core.Bool.{not}
use mathlib.Core.List.{List, [], ◌∷◌, map}
use lib.ListN.{length}
use lib.Dec.{ltb, eqb}
use Rattle.series.specs.Units.{day_limit, day_of}
use Rattle.series.specs.Causes.{cause}
use Rattle.series.specs.Lists.{too_long, lengths_differ}
use Rattle.series.proofs.AtTen.{At10}
use Rattle.filter.specs.declared.Setting.{Setting}
use Rattle.filter.specs.declared.start.Start.{Start}
use Rattle.filter.specs.Methods.{unknown_method, out_of_range, invalid_passes, start_too_high}
use Rattle.filter.specs.Call.{filter_causes}

pub filter_at_10 : (s : Setting) (passes : ℕ) (from : Start) (base : List ℕ) → At10 base (λ days. filter_causes s passes from days base)
unfolding filter_causes too_long lengths_differ
filter_at_10 s passes from base =
    record {
      before = λ n. cause (unknown_method s) 11 ∷ cause (out_of_range s) 12 ∷ cause (invalid_passes s passes) 13 ∷ cause (ltb day_limit n) 9 ∷ cause (not (eqb n (length base))) 14 ∷ [];
      after = λ days. cause (start_too_high from (map day_of days)) 29 ∷ [];
      in_order = λ days. refl;
      numbers_before = λ n. refl;
      numbers_after = λ days. refl;
      asks_9 = λ n. refl;
      asks_14 = λ n. refl;
    }
