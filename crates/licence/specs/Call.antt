-- The replay: its order of refusals, what it answers, and the takings that it leaves.
use Rattle.std.specs.Prelude.{ℕ, Bool, ◌||◌, List, [], ◌∷◌, map, ltb}
use Rattle.series.specs.Units.{day_of, base_of}
use Rattle.series.specs.Lists.{too_long, lengths_differ, any_invalid_day, any_invalid_base}
use Rattle.series.specs.Causes.{Cause, cause, Outcome, outcome, leaves}
use Rattle.licence.specs.declared.Licence.{Licence}
use Rattle.licence.specs.Rule.{takings, quota_left}

-- the largest daily limit, in litres a second, and the largest quota, which is summed over days
abbrev pub limit_most : ℕ
limit_most = 10000000

abbrev pub quota_most : ℕ
quota_most = 1000000000000

-- 31: M above 10,000,000 or Q above 10^12
unfoldable pub out_of_range : Licence → Bool
out_of_range l = ltb limit_most l.daily_limit || ltb quota_most l.quota

-- order: replay 31, 9, 14 (of the base list or the takings list), 10, 20
unfoldable pub licence_causes : Licence → (days base list : List ℕ) → List Cause
licence_causes l days base list =
    cause (out_of_range l) 31
    ∷ cause (too_long days) 9
    ∷ cause (lengths_differ days base || lengths_differ days list) 14
    ∷ cause (any_invalid_day days) 10
    ∷ cause (any_invalid_base days base) 20
    ∷ []

-- the takings of two lists in memory, and the quota left behind them
unfoldable pub listed_takings : Licence → (days base : List ℕ) → List ℕ
listed_takings l days base = takings l.daily_limit l.quota (map day_of days) (map base_of base)

unfoldable pub listed_left : Licence → (days base : List ℕ) → ℕ
listed_left l days base = quota_left l.daily_limit l.quota (map day_of days) (map base_of base)

-- the answer: the quota left
unfoldable pub licence_outcome : Licence → (days base list : List ℕ) → Outcome ℕ
licence_outcome l days base list = outcome (licence_causes l days base list) (listed_left l days base)

-- the takings list at exit: the takings, or as it was after a refusal
unfoldable pub licence_leaves : Licence → (days base list : List ℕ) → List ℕ
licence_leaves l days base list = leaves (licence_causes l days base list) (listed_takings l days base) list
