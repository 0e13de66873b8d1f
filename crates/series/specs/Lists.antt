-- The causes of refusal that several calls share: 9, 14, 10 and 20.
use Rattle.std.specs.Prelude.{ℕ, ◌*◌, Bool, true, false, not, ◌||◌, List, [], ◌∷◌, length, ltb, eqb}
use Rattle.std.proofs.Math.Option.{Option, none, some}
use Rattle.series.specs.Causes.{Cause, cause}
use Rattle.series.specs.Units.{day_limit, is_invalid_day, day_of, base_of}

-- 9: the day list has more than 36,525 days
unfoldable pub too_long : List ℕ → Bool
too_long days = ltb day_limit (length days)

-- 14: the base list is not as long as the day list
unfoldable pub lengths_differ : List ℕ → List ℕ → Bool
lengths_differ days base = not (eqb (length days) (length base))

-- 10: on some day there is neither a flow nor the mark of a missing day
unfoldable pub any_invalid_day : List ℕ → Bool
any_invalid_day [] = false
any_invalid_day (d ∷ ds) = is_invalid_day d || any_invalid_day ds

-- a base value where the day is missing, or one above 1000 × its flow
unfoldable pub is_invalid_base : Option ℕ → Option ℕ → Bool
is_invalid_base d none = false
is_invalid_base none (some b) = true
is_invalid_base (some y) (some b) = ltb (1000 * y) b

-- 20: that on some day of two lists
unfoldable pub any_invalid_base : List ℕ → List ℕ → Bool
any_invalid_base [] bs = false
any_invalid_base (d ∷ ds) [] = false
any_invalid_base (d ∷ ds) (b ∷ bs) = is_invalid_base (day_of d) (base_of b) || any_invalid_base ds bs

-- 9, 14, 10, as the code tests them at once. (Each call's list of causes has these lines itself, so that one can be put between.)
unfoldable pub list_causes : (days base : List ℕ) → List Cause
list_causes days base =
    cause (too_long days) 9
    ∷ cause (lengths_differ days base) 14
    ∷ cause (any_invalid_day days) 10
    ∷ []
