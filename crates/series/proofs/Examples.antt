-- Computed examples: marks and views, segments of a list with gaps, and the first cause of a list.
-- Assumes nothing.
use Prim.Native.Nat.{ℕ}
use mathlib.Core.Path.{◌≡◌, refl}
use mathlib.Core.Bool.{true, false}
use mathlib.Core.List.{List, [], ◌∷◌, map, reverse}
use mathlib.Core.Option.{Option, none, some}
use Rattle.series.specs.Units.{is_invalid_day, day_of, base_of, base_mark}
use Rattle.series.specs.Segments.{parts, over_segments}
use Rattle.series.specs.Causes.{cause, first_cause}
use Rattle.series.specs.Lists.{is_invalid_base}

days_in_memory : map day_of (0 ∷ 4294967295 ∷ 10000000 ∷ []) ≡ some 0 ∷ none ∷ some 10000000 ∷ []
unfolding day_of
days_in_memory = refl

-- the largest flow and the missing mark are valid; what lies between is not
limits : map is_invalid_day (10000000 ∷ 10000001 ∷ 4294967294 ∷ 4294967295 ∷ []) ≡ false ∷ true ∷ true ∷ false ∷ []
unfolding is_invalid_day
limits = refl

base_in_memory : map base_of (0 ∷ 18446744073709551615 ∷ []) ≡ some 0 ∷ none ∷ []
unfolding base_of
base_in_memory = refl

base_to_memory : map base_mark (some 0 ∷ none ∷ []) ≡ 0 ∷ 18446744073709551615 ∷ []
unfolding base_mark
base_to_memory = refl

-- gaps at the start, in the middle (two days) and at the end
river : List (Option ℕ)
river = none ∷ some 5 ∷ some 6 ∷ none ∷ none ∷ some 7 ∷ none ∷ []

segments : (parts river).rest ≡ (5 ∷ 6 ∷ []) ∷ [] ∷ (7 ∷ []) ∷ [] ∷ []
unfolding parts river
segments = refl

-- each segment turned round by itself
turned : over_segments (λ flows. map some (reverse flows)) river ≡ none ∷ some 6 ∷ some 5 ∷ none ∷ none ∷ some 7 ∷ none ∷ []
unfolding over_segments river
turned = refl

first_of_two : first_cause (cause false 11 ∷ cause true 12 ∷ cause true 9 ∷ []) ≡ some 12
first_of_two = refl

no_cause : first_cause (cause false 11 ∷ cause false 12 ∷ []) ≡ none
no_cause = refl

-- a base value at 1000 × the flow passes, one thousandth more does not, and none passes on a missing day
base_at_flow : is_invalid_base (some 5) (some 5000) ≡ false
unfolding is_invalid_base
base_at_flow = refl

base_above_flow : is_invalid_base (some 5) (some 5001) ≡ true
unfolding is_invalid_base
base_above_flow = refl

base_on_missing : is_invalid_base none (some 0) ≡ true
unfolding is_invalid_base
base_on_missing = refl
