-- Days and forms computed by the checker from the rule: no day, one, a whole word and one day more; what refuses a form.
-- Assumes nothing.
use Prim.Native.Nat.{ℕ, ◌-◌, ◌^◌}
use mathlib.Core.Path.{◌≡◌, refl}
use mathlib.Core.List.{List, [], ◌∷◌, ◌++◌, map}
use lib.ListN.{replicate}
use lib.Count.{ones}
use Rattle.series.specs.Units.{is_missing, is_invalid_day}
use Rattle.series.specs.Lists.{too_long, lengths_differ, any_invalid_day}
use Rattle.series.specs.Causes.{Outcome, accepted, refused, leaves}
use Rattle.presence.specs.Form.{days_from, days_of, flows_of, words_for, words_of, any_one, flow_under_zero, is_invalid_form, number_under_one, is_invalid_flow}
use Rattle.presence.specs.Call.{to_bits_causes, to_bits_outcome, flows_left, words_left, from_bits_causes, from_bits_outcome, days_left}

-- a missing day
abbrev pub gap : ℕ
gap = 4294967295

-- a word of ones
abbrev pub full : ℕ
full = 2 ^ 64 - 1

-- the words of no day, of a present and of a missing one, of three, of 64 and of 65 days
pub words : map words_of ([] ∷ (5 ∷ []) ∷ (gap ∷ []) ∷ (5 ∷ gap ∷ 0 ∷ []) ∷ replicate 64 5 ∷ replicate 65 5 ∷ (replicate 64 gap ++ 5 ∷ []) ∷ []) ≡ [] ∷ (1 ∷ []) ∷ (0 ∷ []) ∷ (5 ∷ []) ∷ (full ∷ []) ∷ (full ∷ 1 ∷ []) ∷ (0 ∷ 1 ∷ []) ∷ []
unfolding words_of words_for is_missing
words = refl

pub flows : map flows_of ([] ∷ (5 ∷ gap ∷ 0 ∷ []) ∷ []) ≡ [] ∷ (5 ∷ 0 ∷ 0 ∷ []) ∷ []
unfolding flows_of is_missing
flows = refl

-- what the calls answer into buffers of as many numbers
abbrev pub to_bits : (days words : List ℕ) → Outcome ℕ
to_bits days words = to_bits_outcome days days words

abbrev pub from_bits : (flows words : List ℕ) → Outcome ℕ
from_bits flows words = from_bits_outcome flows words flows

-- to bits: how many days are present; a word too many, one too few, and that before an invalid day
pub days_counted : to_bits [] [] ∷ to_bits (5 ∷ gap ∷ 0 ∷ []) (9 ∷ []) ∷ to_bits (replicate 64 gap ++ 5 ∷ []) (9 ∷ 9 ∷ []) ∷ [] ≡ accepted 0 ∷ accepted 2 ∷ accepted 1 ∷ []
unfolding to_bits_outcome to_bits_causes too_long lengths_differ any_invalid_day is_invalid_day words_of words_for is_missing ones
days_counted = refl

pub days_refused : to_bits [] (0 ∷ []) ∷ to_bits (replicate 64 5) (0 ∷ 0 ∷ []) ∷ to_bits (replicate 65 5) (0 ∷ []) ∷ to_bits (10000001 ∷ []) [] ∷ to_bits (10000001 ∷ []) (0 ∷ []) ∷ to_bits_outcome (5 ∷ []) [] [] ∷ [] ≡ refused 28 ∷ refused 28 ∷ refused 28 ∷ refused 28 ∷ refused 10 ∷ refused 14 ∷ []
unfolding to_bits_outcome to_bits_causes too_long lengths_differ any_invalid_day is_invalid_day words_of words_for is_missing ones
days_refused = refl

-- from bits: how many days are present
pub form_counted : from_bits [] [] ∷ from_bits (5 ∷ 0 ∷ 0 ∷ []) (5 ∷ []) ∷ from_bits (replicate 64 0 ++ 5 ∷ []) (0 ∷ 1 ∷ []) ∷ [] ≡ accepted 0 ∷ accepted 2 ∷ accepted 1 ∷ []
unfolding from_bits_outcome from_bits_causes too_long lengths_differ is_invalid_form any_one flow_under_zero is_invalid_flow number_under_one ones
form_counted = refl

-- a word too many, one too few; a one past the end; a flow under a zero, and the mark there; a word of ones over 63 days
pub form_refused : from_bits (5 ∷ []) (1 ∷ 0 ∷ []) ∷ from_bits (5 ∷ []) [] ∷ from_bits (5 ∷ 0 ∷ []) (5 ∷ []) ∷ from_bits (5 ∷ 6 ∷ []) (1 ∷ []) ∷ from_bits (5 ∷ gap ∷ []) (1 ∷ []) ∷ from_bits (replicate 63 5) (full ∷ []) ∷ from_bits (replicate 65 5) (full ∷ 3 ∷ []) ∷ [] ≡ replicate 7 (refused 28)
unfolding from_bits_outcome from_bits_causes too_long lengths_differ is_invalid_form any_one flow_under_zero is_invalid_flow number_under_one ones
form_refused = refl

-- under a one the mark of a missing day, and a number above the largest flow; 28 comes before that
pub flow_refused : from_bits (5 ∷ gap ∷ []) (3 ∷ []) ∷ from_bits (10000001 ∷ []) (1 ∷ []) ∷ from_bits (10000000 ∷ []) (1 ∷ []) ∷ from_bits (10000001 ∷ []) (3 ∷ []) ∷ [] ≡ refused 10 ∷ refused 10 ∷ accepted 1 ∷ refused 28 ∷ []
unfolding from_bits_outcome from_bits_causes too_long lengths_differ is_invalid_form any_one flow_under_zero is_invalid_flow number_under_one ones
flow_refused = refl

-- what the calls leave: a refusal leaves what was there
pub left : flows_left (5 ∷ gap ∷ []) (7 ∷ 8 ∷ []) (9 ∷ []) ∷ words_left (5 ∷ gap ∷ []) (7 ∷ 8 ∷ []) (9 ∷ []) ∷ words_left (5 ∷ gap ∷ []) (7 ∷ 8 ∷ []) (9 ∷ 9 ∷ []) ∷ [] ≡ (5 ∷ 0 ∷ []) ∷ (1 ∷ []) ∷ (9 ∷ 9 ∷ []) ∷ []
unfolding flows_left words_left leaves to_bits_causes too_long lengths_differ any_invalid_day is_invalid_day flows_of words_of words_for is_missing
left = refl

pub days_after : days_left (5 ∷ 0 ∷ []) (1 ∷ []) (7 ∷ 8 ∷ []) ∷ days_left (5 ∷ 6 ∷ []) (1 ∷ []) (7 ∷ 8 ∷ []) ∷ [] ≡ (5 ∷ gap ∷ []) ∷ (7 ∷ 8 ∷ []) ∷ []
unfolding days_left leaves from_bits_causes too_long lengths_differ is_invalid_form any_one flow_under_zero is_invalid_flow number_under_one days_of days_from
days_after = refl
