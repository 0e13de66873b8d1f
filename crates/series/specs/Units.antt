-- The day list and the base list (document 01, "Units"): limits, marks, and the readable view of each list.
use Rattle.std.specs.Prelude.{ℕ, ◌+◌, ◌*◌, List, [], ◌∷◌, Bool, cond, not, ◌||◌, ◌&&◌, leb, eqb}
use Rattle.std.proofs.Math.Option.{Option, none, some}

-- the most days that a list may have
abbrev pub day_limit : ℕ
day_limit = 36525

-- the largest flow, in litres a second
abbrev pub flow_limit : ℕ
flow_limit = 10000000

-- a missing day in a day list of 32-bit numbers
abbrev pub missing_mark : ℕ
missing_mark = 4294967295

-- no value in a base list of 64-bit numbers: 2^64 - 1
abbrev pub no_value_mark : ℕ
no_value_mark = 18446744073709551615

-- a number of the day list is a flow, a missing day, or neither
unfoldable pub is_flow : ℕ → Bool
is_flow d = leb d flow_limit

unfoldable pub is_missing : ℕ → Bool
is_missing d = eqb d missing_mark

unfoldable pub is_invalid_day : ℕ → Bool
unfolding is_flow is_missing
is_invalid_day d = not (is_flow d || is_missing d)

-- the view of a day: its flow, or none where it is missing
unfoldable pub day_of : ℕ → Option ℕ
unfolding is_missing
day_of d = cond (is_missing d) none (some d)

-- the view of a base value, in thousandths of a litre a second: none where there is no value
unfoldable pub base_of : ℕ → Option ℕ
base_of b = cond (eqb b no_value_mark) none (some b)

-- and back: what stands in the base list for a value or none
unfoldable pub base_mark : Option ℕ → ℕ
base_mark none = no_value_mark
base_mark (some b) = b

-- a number of a setting lies in its range, from low to high
unfoldable pub within : (low high n : ℕ) → Bool
within low high n = leb low n && leb n high

-- a number in bytes has no sign, and its lowest byte comes first
unfoldable pub number : (bytes : List ℕ) → ℕ
number [] = 0
number (b ∷ bs) = b + 256 * number bs
