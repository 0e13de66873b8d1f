-- The conversions: their causes of refusal, what they answer, and what they leave.
use Rattle.std.specs.Prelude.{ℕ, List, [], ◌∷◌, length, count_ones}
use Rattle.std.specs.List.{sum_by}
use Rattle.series.specs.Causes.{Cause, cause, Outcome, outcome, leaves}
use Rattle.series.specs.Lists.{too_long, lengths_differ, any_invalid_day}
use Rattle.presence.specs.Form.{wrong_count, days_of, flows_of, words_of, is_invalid_form, is_invalid_flow}

-- how many ones stand in words
abbrev pub ones_in : (words : List ℕ) → ℕ
ones_in words = sum_by count_ones words

-- order: to bits 9, 14, 28 (the number of words alone), 10
unfoldable pub to_bits_causes : (days flows words : List ℕ) → List Cause
to_bits_causes days flows words =
    cause (too_long days) 9
    ∷ cause (lengths_differ days flows) 14
    ∷ cause (wrong_count (length days) words) 28
    ∷ cause (any_invalid_day days) 10
    ∷ []

-- the answer: how many days are present, the ones in the words
unfoldable pub to_bits_outcome : (days flows words : List ℕ) → Outcome ℕ
to_bits_outcome days flows words = outcome (to_bits_causes days flows words) (ones_in (words_of days))

unfoldable pub flows_left : (days flows words : List ℕ) → List ℕ
flows_left days flows words = leaves (to_bits_causes days flows words) (flows_of days) flows

unfoldable pub words_left : (days flows words : List ℕ) → List ℕ
words_left days flows words = leaves (to_bits_causes days flows words) (words_of days) words

-- order: from bits 9, 14, 28, 10
unfoldable pub from_bits_causes : (flows words days : List ℕ) → List Cause
from_bits_causes flows words days =
    cause (too_long flows) 9
    ∷ cause (lengths_differ flows days) 14
    ∷ cause (is_invalid_form flows words) 28
    ∷ cause (is_invalid_flow flows words) 10
    ∷ []

unfoldable pub from_bits_outcome : (flows words days : List ℕ) → Outcome ℕ
from_bits_outcome flows words days = outcome (from_bits_causes flows words days) (ones_in words)

unfoldable pub days_left : (flows words days : List ℕ) → List ℕ
days_left flows words days = leaves (from_bits_causes flows words days) (days_of flows words) days
