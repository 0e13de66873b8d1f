-- Where the ratio call's order asks 10.
-- Assumes nothing.
use mathlib.Core.Path.{◌≡◌, refl}
use mathlib.Core.Bool.{not, true≢false}
use mathlib.Core.List.{List, [], ◌∷◌}
use mathlib.Core.Option.{none}
use Prim.Native.Nat.{ℕ}
use lib.ListN.{length}
use lib.Dec.{ltb, eqb}
use native.Mathlib.Omega.{arith}
use Rattle.numbers.specs.Lists.{selected}
use Rattle.series.specs.Units.{day_limit, within}
use Rattle.series.specs.Causes.{cause, first_cause}
use Rattle.series.specs.Lists.{too_long, lengths_differ, any_invalid_base}
use Rattle.series.proofs.Refusing.{passed}
use Rattle.series.proofs.AtTen.{At10}
use Rattle.series.specs.Runs.{runs_from}
use Rattle.recession.specs.Limbs.{limb_days, counted, limbs}
use Rattle.recession.specs.Ratios.{limb_ratios}
use Rattle.recession.specs.Call.{no_ratio, limb_list_too_short, counted_limbs, counted_ratios, ratio_causes}

pub ratios_at_10 : (L : ℕ) (base list : List ℕ) → At10 base (λ days. ratio_causes L days base list)
unfolding ratio_causes too_long lengths_differ
ratios_at_10 L base list =
    record {
      before = λ n. cause (not (within 2 60 L)) 18 ∷ cause (ltb day_limit n) 9 ∷ cause (not (eqb n (length base))) 14 ∷ [];
      after = λ days. cause (any_invalid_base days base) 20 ∷ cause (no_ratio (counted_ratios L days base)) 19 ∷ cause (limb_list_too_short (counted_limbs L days base) list) 22 ∷ [];
      in_order = λ days. refl;
      numbers_before = λ n. refl;
      numbers_after = λ days. refl;
      asks_9 = λ n. refl;
      asks_14 = λ n. refl;
    }

-- a call over no days finds no ratio
pub no_days : (L : ℕ) (days base list : List ℕ) → length days ≡ 0 → first_cause (ratio_causes L days base list) ≡ none → ⊥
unfolding ratio_causes no_ratio counted_ratios counted_limbs limb_days counted limbs selected runs_from limb_ratios
no_days L [] base list z e = true≢false (passed (ratio_causes L [] base list) e 19)
no_days L (d ∷ ds) base list z e = omega arith
