-- The ratio call of document 01: its causes of refusal, its answer, and the limb list at exit.
use Rattle.std.specs.Prelude.{ℕ, ◌*◌, Bool, not, List, [], ◌∷◌, length, ltb, eqb}
use Rattle.numbers.specs.Lists.{stored}
use Rattle.series.specs.Units.{within}
use Rattle.series.specs.Lists.{too_long, lengths_differ, any_invalid_day, any_invalid_base}
use Rattle.series.specs.Causes.{Cause, cause, Outcome, outcome, leaves}
use Rattle.recession.specs.Limbs.{Limb, limb_days, counted, longest_first, entries}
use Rattle.recession.specs.Ratios.{limb_ratios, median}
use Rattle.recession.specs.declared.Statistics.{Statistics}

-- 19: no ratio
unfoldable pub no_ratio : List ℕ → Bool
no_ratio ratios = eqb (length ratios) 0

-- 22: the limb list does not have two numbers for each counted limb
unfoldable pub limb_list_too_short : List Limb → List ℕ → Bool
limb_list_too_short limbs list = ltb (length list) (2 * length limbs)

-- the counted limbs of a day list and a base list, and their ratios
unfoldable pub counted_limbs : ℕ → (days base : List ℕ) → List Limb
counted_limbs L days base = counted L (limb_days days base)

unfoldable pub counted_ratios : ℕ → (days base : List ℕ) → List ℕ
counted_ratios L days base = limb_ratios (counted_limbs L days base)

-- order: ratios 18, 9, 14, 10, 20, 19, 22; L is 2 to 60
unfoldable pub ratio_causes : ℕ → (days base list : List ℕ) → List Cause
ratio_causes L days base list =
    cause (not (within 2 60 L)) 18
    ∷ cause (too_long days) 9
    ∷ cause (lengths_differ days base) 14
    ∷ cause (any_invalid_day days) 10
    ∷ cause (any_invalid_base days base) 20
    ∷ cause (no_ratio (counted_ratios L days base)) 19
    ∷ cause (limb_list_too_short (counted_limbs L days base) list) 22
    ∷ []

-- the answer by document 01 (`Statistics`, of src/lib.rt: k, the number of ratios, and their median), for L, a day list, a base list and a limb list
unfoldable pub ratio_outcome : ℕ → (days base list : List ℕ) → Outcome Statistics
ratio_outcome L days base list =
    outcome (ratio_causes L days base list) (record { count = length (counted_ratios L days base); median = median (counted_ratios L days base) })

-- the limb list after an accepted call: the counted limbs, the longest first, and then the rest as it was
unfoldable pub listed_limbs : ℕ → (days base list : List ℕ) → List ℕ
listed_limbs L days base list = stored list 0 (entries (longest_first (counted_limbs L days base)))

-- the limb list at exit: with the limbs, or as it was after a refusal
unfoldable pub ratio_leaves : ℕ → (days base list : List ℕ) → List ℕ
ratio_leaves L days base list = leaves (ratio_causes L days base list) (listed_limbs L days base list) list
