-- Half-lives computed by the checker from the rule: the document's own, and both ends of the range.
-- Assumes nothing.
use mathlib.Core.Path.{◌≡◌, refl}
use mathlib.Core.List.{[], ◌∷◌, map}
use Rattle.series.specs.Units.{within}
use Rattle.series.specs.Causes.{accepted, refused}
use Rattle.half_life.specs.Rule.{is_halved, first_from, half_life}
use Rattle.half_life.specs.Call.{half_life_causes, half_life_outcome}

-- 500 gives 1, 501 gives 2, 900 gives 7, 990 gives 69, 999 gives 693, 1 gives 1; 0 and 1000 are refused with 12
pub answers : map half_life_outcome (500 ∷ 501 ∷ 900 ∷ 990 ∷ 999 ∷ 1 ∷ 0 ∷ 1000 ∷ []) ≡ accepted 1 ∷ accepted 2 ∷ accepted 7 ∷ accepted 69 ∷ accepted 693 ∷ accepted 1 ∷ refused 12 ∷ refused 12 ∷ []
unfolding half_life_outcome half_life_causes within half_life first_from is_halved
answers = refl
