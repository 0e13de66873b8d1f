-- READ THIS FIRST: the rule's sentences, proved of the definitions in specs/, for lists of any length.
-- Assumes nothing.
use Prim.Native.Nat.{ℕ, suc, ◌+◌, ◌-◌, ◌*◌, ◌/◌, ◌%◌, ◌^◌, ◌≤◌, ◌<◌}
use mathlib.Core.Path.{◌≡◌, refl, sym, ◌∙◌, ap}
use mathlib.Core.Bool.{Bool, true, false, cond, not, ◌&&◌}
use mathlib.Core.List.{List, [], ◌∷◌}
use native.Mathlib.Omega.{arith}
use lib.ListN.{length, get_or}
use lib.Dec.{ltb, eqb}
use borrow.Author.Tests.{ltb-false, eqb-true, eq-eqb, not-false}
use Rattle.std.specs.List.{count_by}
use Rattle.std.proofs.lemmas.List.{length-map}
use Rattle.std.proofs.lemmas.Nat.Bits.{bit_at-lt}
use Rattle.series.specs.Units.{flow_limit, missing_mark, is_missing, is_invalid_day}
use Rattle.series.specs.Lists.{any_invalid_day}
use Rattle.series.proofs.Views.{neither_of, valid_flow, valid_missing}
use Rattle.presence.specs.Form.{bit, is_one, is_present, word_count, days_from, days_of, flows_of, words_for, words_of, one_past_end, is_invalid_form, number_under_one, is_invalid_flow}
use Rattle.presence.specs.Call.{ones_in}
use Rattle.presence.proofs.Bits.{none_past, zero_bit, zero_at, Shows, bit_of_day, bit_of_none, words_length, ones_for, days_back, none_under_zero, none_past_days, none_too_large, flows_back, words_back}

-- DAYS TO BITS. The bit of a day is one where the day is present and zero where it is missing, and zero past the last day.
pub bits_of_days : (days : List ℕ) (i : ℕ) → i < length days → bit (words_of days) i ≡ cond (is_missing (get_or days i 0)) 0 1
unfolding words_of
bits_of_days days i h = bit_of_day (word_count (length days)) i days (omega arith) h

pub bits_past_end : (days : List ℕ) (i : ℕ) → length days ≤ i → bit (words_of days) i ≡ 0
unfolding words_of
bits_past_end days i h = bit_of_none (word_count (length days)) i days h

-- Days have a form of their own length, in days / 64 words, rounded up.
pub length_of_flows : (days : List ℕ) → length (flows_of days) ≡ length days
unfolding flows_of
length_of_flows days = length-map days (λ d. cond (is_missing d) 0 d)

pub length_of_words : (days : List ℕ) → length (words_of days) ≡ word_count (length days)
unfolding words_of
length_of_words days = words_length (word_count (length days)) days

-- and the bits behind the last day of so many words are never cut off
pub never_cut_off : (days : ℕ) → days ≤ 64 * word_count days
never_cut_off days = omega arith

-- There and back: the days are had back exactly; their form is valid, and of valid days no number is too large.
shown : (days : List ℕ) → Shows (words_of days) 0 days
shown days j h = let at : 0 + j ≡ j = omega arith in ap (is_one (words_of days)) at ∙ ap (λ b. eqb b 1) (bits_of_days days j h) ∙ by_test (is_missing (get_or days j 0))
  where
    by_test : (missing : Bool) → eqb (cond missing 0 1) 1 ≡ not missing
    by_test true = refl
    by_test false = refl

pub there_and_back : (days : List ℕ) → days_of (flows_of days) (words_of days) ≡ days
unfolding days_of
there_and_back days = days_back (words_of days) 0 days (shown days)

pub form_of_days : (days : List ℕ) → is_invalid_form (flows_of days) (words_of days) ≡ false
unfolding is_invalid_form
form_of_days days =
    let count : length (words_of days) ≡ word_count (length (flows_of days)) = length_of_words days ∙ ap word_count (sym (length_of_flows days)) in
    let past : one_past_end (length (flows_of days)) (words_of days) ≡ false =
    none_past_days (words_of days) (length (flows_of days)) _ (λ j l. bits_past_end days j (omega (arith, length_of_flows days))) in
    rw (eq-eqb _ _ count, past) (none_under_zero (words_of days) 0 days (shown days))

pub flows_of_valid_days : (days : List ℕ) → any_invalid_day days ≡ false → is_invalid_flow (flows_of days) (words_of days) ≡ false
unfolding is_invalid_flow
flows_of_valid_days days e = none_too_large (words_of days) 0 days (shown days) e

-- How many days are present is how many ones stand in the words.
pub present_days : (days : List ℕ) → ones_in (words_of days) ≡ count_by is_present days
unfolding words_of
present_days days = ones_for (word_count (length days)) days (omega arith)

-- BITS TO DAYS. A form stands for as many days as it has flows,
length_from : (words : List ℕ) (i : ℕ) (flows : List ℕ) → length (days_from words i flows) ≡ length flows
unfolding days_from
length_from words i [] = refl
length_from words i (flow ∷ flows) = ap suc (length_from words (suc i) flows)

pub length_of_days : (flows words : List ℕ) → length (days_of flows words) ≡ length flows
unfolding days_of
length_of_days flows words = length_from words 0 flows

-- and where no flow is too large they are valid.
day_under : (one : Bool) (flow : ℕ) → (one && ltb flow_limit flow) ≡ false → is_invalid_day (cond one flow missing_mark) ≡ false
day_under true flow e = valid_flow flow (ltb-false flow_limit flow e)
day_under false flow e = valid_missing

valid_from : (words : List ℕ) (i : ℕ) (flows : List ℕ) → number_under_one words i flows ≡ false → any_invalid_day (days_from words i flows) ≡ false
unfolding days_from number_under_one any_invalid_day
valid_from words i [] e = refl
valid_from words i (flow ∷ flows) e = let h = neither_of _ _ e in rw (day_under (is_one words i) flow h.0) (valid_from words (suc i) flows h.1)

pub valid_days : (flows words : List ℕ) → is_invalid_flow flows words ≡ false → any_invalid_day (days_of flows words) ≡ false
unfolding days_of is_invalid_flow
valid_days flows words e = valid_from words 0 flows e

-- In a valid form the bits past the last day are zero, and so is the flow under a zero.
pub zero_past_end : (flows words : List ℕ) → is_invalid_form flows words ≡ false → (i : ℕ) → length flows ≤ i → i < 64 * length words → bit words i ≡ 0
unfolding is_invalid_form
zero_past_end flows words form i h k =
    sym (zero_bit (bit words i) (bit_at-lt (get_or words (i / 64) 0) (i % 64)) (none_past words (length flows) (64 * length words - length flows) i (neither_of _ _ (neither_of _ _ form).1).0 h (omega arith)))

pub zero_under_zero : (flows words : List ℕ) → is_invalid_form flows words ≡ false → (i : ℕ) → i < length flows → is_one words i ≡ false → get_or flows i 0 ≡ 0
unfolding is_invalid_form
zero_under_zero flows words form i h z = let at : 0 + i ≡ i = omega arith in zero_at words 0 flows i (neither_of _ _ (neither_of _ _ form).1).1 h (ap (is_one words) at ∙ z)

-- Back and there: a valid form of words of 64 bits is had back exactly, its flows and its words.
flows_had_back : (flows words : List ℕ) → is_invalid_form flows words ≡ false → is_invalid_flow flows words ≡ false → flows_of (days_of flows words) ≡ flows
unfolding days_of is_invalid_form is_invalid_flow
flows_had_back flows words f e = flows_back words 0 flows (neither_of _ _ (neither_of _ _ f).1).1 e

module _ (flows words : List ℕ) (form : is_invalid_form flows words ≡ false) (flow : is_invalid_flow flows words ≡ false) (fit : (k : ℕ) → k < length words → get_or words k 0 < 2 ^ 64) where
  words_had_back : words_of (days_of flows words) ≡ words
  unfolding days_of words_of is_invalid_form is_invalid_flow
  words_had_back =
      let count : length words ≡ word_count (length flows) = eqb-true _ _ (not-false _ (neither_of _ _ form).0) in
      let same = length_from words 0 flows in
      ap (λ n. words_for n (days_from words 0 flows)) (ap word_count same ∙ sym count) ∙ words_back flows words count (neither_of _ _ (neither_of _ _ form).1).0 flow same fit

  pub back_and_there : (flows_of (days_of flows words) ≡ flows) × (words_of (days_of flows words) ≡ words)
  back_and_there = (flows_had_back flows words form flow, words_had_back)

  pub present_days_of_form : ones_in words ≡ count_by is_present (days_of flows words)
  present_days_of_form = ap ones_in (sym words_had_back) ∙ present_days (days_of flows words)
