-- Days in their second form (docs/RULES.md, "Presence"): a flow for each day, 0 where it is missing, and words of 64 bits, in
-- which a one says that a day is present.
use Rattle.std.specs.Prelude.{ℕ, zero, suc, ◌+◌, ◌*◌, ◌/◌, ◌%◌, ◌-◌, Bool, false, cond, not, ◌&&◌, ◌||◌, List, [], ◌∷◌, length, map, take, drop, get_or, ltb, eqb}
use Rattle.std.specs.Int.{bit_at}
use Rattle.std.specs.Simd.Lanes.{mask_l}
use Rattle.series.specs.Units.{flow_limit, missing_mark, is_missing}

-- the bit of day i: bit i mod 64, the lowest first, of word i / 64
abbrev pub bit : (words : List ℕ) → (i : ℕ) → ℕ
bit words i = bit_at (get_or words (i / 64) 0) (i % 64)

-- day i is present: its bit is one
abbrev pub is_one : (words : List ℕ) → (i : ℕ) → Bool
is_one words i = eqb (bit words i) 1

-- how many words so many days have: days / 64, rounded up
abbrev pub word_count : (days : ℕ) → ℕ
word_count days = (days + 63) / 64

-- THE DAYS that a form stands for: under a one the flow, under a zero a missing day; from position i on, and whole
unfoldable pub days_from : (words : List ℕ) → (i : ℕ) → (flows : List ℕ) → List ℕ
days_from words i [] = []
days_from words i (flow ∷ flows) = cond (is_one words i) flow missing_mark ∷ days_from words (suc i) flows

unfoldable pub days_of : (flows words : List ℕ) → List ℕ
unfolding days_from
days_of flows words = days_from words 0 flows

-- THE FORM of days: the flows, with 0 for a missing day, and the words, of 64 days each, the last of what is left
unfoldable pub flows_of : (days : List ℕ) → List ℕ
flows_of days = map (λ d. cond (is_missing d) 0 d) days

abbrev pub is_present : (day : ℕ) → Bool
is_present day = not (is_missing day)

abbrev pub word_of : (days : List ℕ) → ℕ
word_of days = mask_l (map is_present days)

unfoldable pub words_for : (count : ℕ) → (days : List ℕ) → List ℕ
words_for zero days = []
words_for (suc n) days = word_of (take 64 days) ∷ words_for n (drop 64 days)

unfoldable pub words_of : (days : List ℕ) → List ℕ
unfolding words_for
words_of days = words_for (word_count (length days)) days

-- 28, of three kinds: a wrong number of words; a one past the end, among so many bits from i on; a flow under a zero, from
-- position i on
abbrev pub wrong_count : (days : ℕ) → (words : List ℕ) → Bool
wrong_count days words = not (eqb (length words) (word_count days))

unfoldable pub any_one : (words : List ℕ) → (i bits : ℕ) → Bool
any_one words i zero = false
any_one words i (suc n) = is_one words i || any_one words (suc i) n

abbrev pub one_past_end : (days : ℕ) → (words : List ℕ) → Bool
one_past_end days words = any_one words days (64 * length words - days)

unfoldable pub flow_under_zero : (words : List ℕ) → (i : ℕ) → (flows : List ℕ) → Bool
flow_under_zero words i [] = false
flow_under_zero words i (flow ∷ flows) = (not (is_one words i) && ltb 0 flow) || flow_under_zero words (suc i) flows

unfoldable pub is_invalid_form : (flows words : List ℕ) → Bool
unfolding any_one flow_under_zero
is_invalid_form flows words =
    wrong_count (length flows) words || (one_past_end (length flows) words || flow_under_zero words 0 flows)

-- 10 over a form: under a one a number above the largest flow, the mark of a missing day among them; from position i on
unfoldable pub number_under_one : (words : List ℕ) → (i : ℕ) → (flows : List ℕ) → Bool
number_under_one words i [] = false
number_under_one words i (flow ∷ flows) = (is_one words i && ltb flow_limit flow) || number_under_one words (suc i) flows

unfoldable pub is_invalid_flow : (flows words : List ℕ) → Bool
unfolding number_under_one
is_invalid_flow flows words = number_under_one words 0 flows
