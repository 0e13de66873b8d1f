-- The words of days, bit by bit, and back.
-- Assumes nothing.
use Prim.Native.Nat.{ℕ, zero, suc, ◌+◌, ◌-◌, ◌*◌, ◌/◌, ◌%◌, ◌^◌, ◌≤◌, ◌<◌}
use mathlib.Core.Path.{◌≡◌, refl, sym, ◌∙◌, ap, ap₂}
use mathlib.Core.Bool.{Bool, true, false, cond, not, ◌&&◌, ◌||◌}
use mathlib.Core.List.{List, [], ◌∷◌, map}
use mathlib.Core.Logic.{⊎_elim}
use native.Mathlib.Nat.{lt_of_not-le}
use native.Mathlib.Decide.{dec_le}
use native.Mathlib.Omega.{arith}
use lib.ListN.{length, get_or, take, drop, get_or-eq_default}
use lib.Seq.{drop-drop, get_or-take, get_or-drop, ext_get_or}
use lib.Dec.{ltb, eqb}
use borrow.Author.Tests.{ltb-false, le-ltb, eqb-true, eqb-false}
use Rattle.std.specs.Prelude.{count_ones}
use Rattle.std.specs.Int.{bit_at}
use Rattle.std.specs.List.{count_by}
use Rattle.std.specs.Simd.Lanes.{mask_l}
use Rattle.std.proofs.lemmas.List.{get_or-map, length-map, length-take, length-drop}
use Rattle.std.proofs.lemmas.List.Sums.{sum_by-cons, sum_by-take-drop}
use Rattle.std.proofs.lemmas.Nat.Bits.{bit_at-zero, bit_at-lt, same_from_bits_below}
use Rattle.std.proofs.lemmas.Simd.{bit_mask_l, mask_l-mod, ones-mask_l}
use Rattle.series.specs.Units.{flow_limit, missing_mark, is_missing, is_invalid_day}
use Rattle.series.specs.Lists.{any_invalid_day}
use Rattle.series.proofs.Views.{neither_of, valid_day, mark_missing, not_mark_missing}
use Rattle.presence.specs.Form.{bit, is_one, is_present, word_count, days_from, flows_of, words_for, any_one, flow_under_zero, number_under_one}
use Rattle.presence.specs.Call.{ones_in}

-- a word of the words of days, and how many there are
pub word_at : (n k : ℕ) (days : List ℕ) → k < n → get_or (words_for n days) k 0 ≡ mask_l (map is_present (take 64 (drop (64 * k) days)))
unfolding words_for
word_at zero k days h = absurd (omega arith)
word_at (suc n) zero days h = refl
word_at (suc n) (suc k) days h =
    let next : 64 + 64 * k ≡ 64 * suc k = omega arith in
    word_at n k (drop 64 days) (omega arith) ∙ ap (λ l. mask_l (map is_present (take 64 l))) (drop-drop (64 * k) 64 days ∙ ap (λ m. drop m days) next)

pub words_length : (n : ℕ) (days : List ℕ) → length (words_for n days) ≡ n
unfolding words_for
words_length zero days = refl
words_length (suc n) days = ap suc (words_length n (drop 64 days))

pub word_fits : (n k : ℕ) (days : List ℕ) → k < n → get_or (words_for n days) k 0 < 2 ^ 64
word_fits n k days h =
    let ms = map is_present (take 64 (drop (64 * k) days)) in
    let few : length ms ≤ 64 = omega (arith, length-map (take 64 (drop (64 * k) days)) is_present, length-take 64 (drop (64 * k) days)) in
    omega (arith, word_at n k days h, mask_l-mod ms 64 few)

-- the bit of a day, and of none
bit_in : (n i : ℕ) (days : List ℕ) → i / 64 < n → bit (words_for n days) i ≡ cond (get_or (map is_present (take 64 (drop (64 * (i / 64)) days))) (i % 64) false) 1 0
bit_in n i days h = ap (λ w. bit_at w (i % 64)) (word_at n (i / 64) days h) ∙ bit_mask_l (map is_present (take 64 (drop (64 * (i / 64)) days))) (i % 64)

by_presence : (missing : Bool) → ◌≡◌ {A = ℕ} (cond (not missing) 1 0) (cond missing 0 1)
by_presence true = refl
by_presence false = refl

pub bit_of_day : (n i : ℕ) (days : List ℕ) → i / 64 < n → i < length days → bit (words_for n days) i ≡ cond (is_missing (get_or days i 0)) 0 1
bit_of_day n i days h k =
    let part = take 64 (drop (64 * (i / 64)) days) in
    let inside : i % 64 < length part = omega (arith, length-take 64 (drop (64 * (i / 64)) days), length-drop (64 * (i / 64)) days) in
    let place : 64 * (i / 64) + i % 64 ≡ i = omega arith in
    let day : get_or part (i % 64) 0 ≡ get_or days i 0 = get_or-take 64 (drop (64 * (i / 64)) days) (i % 64) 0 (omega arith) ∙ get_or-drop (64 * (i / 64)) days (i % 64) 0 ∙ ap (λ m. get_or days m 0) place in
    bit_in n i days h
    ∙ ap (λ b. cond b 1 0) (get_or-map is_present part (i % 64) 0 false inside ∙ ap is_present day)
    ∙ by_presence (is_missing (get_or days i 0))

pub bit_of_none : (n i : ℕ) (days : List ℕ) → length days ≤ i → bit (words_for n days) i ≡ 0
bit_of_none n i days k =
    elim (dec_le n (i / 64)) [
      | yes h ↦ ap (λ w. bit_at w (i % 64)) (get_or-eq_default (words_for n days) 0 (omega (arith, words_length n days))) ∙ bit_at-zero (i % 64)
      | no g ↦
          let part = take 64 (drop (64 * (i / 64)) days) in
          let outside : length (map is_present part) ≤ i % 64 = omega (arith, length-map part is_present, length-take 64 (drop (64 * (i / 64)) days), length-drop (64 * (i / 64)) days) in
          bit_in n i days (lt_of_not-le g) ∙ ap (λ b. cond b 1 0) (get_or-eq_default (map is_present part) false outside)
    ]

-- the ones in the words of days
pub ones_for : (n : ℕ) (days : List ℕ) → length days ≤ 64 * n → ones_in (words_for n days) ≡ count_by is_present days
unfolding words_for
ones_for zero [] h = refl
ones_for zero (d ∷ days) h = absurd (omega arith)
ones_for (suc n) days h =
    sum_by-cons count_ones (mask_l (map is_present (take 64 days))) (words_for n (drop 64 days))
    ∙ ap₂ (λ a b. a + b) (ones-mask_l is_present (take 64 days)) (ones_for n (drop 64 days) (omega (arith, length-drop 64 days)))
    ∙ sum_by-take-drop (λ d. cond (is_present d) 1 0) days 64

-- words show days from position i on: under a one what is present
abbrev pub Shows : (words : List ℕ) (i : ℕ) (days : List ℕ) → Type 0
Shows words i days = (j : ℕ) → j < length days → is_one words (i + j) ≡ is_present (get_or days j 0)

shows_rest : (words : List ℕ) (i d : ℕ) (days : List ℕ) → Shows words i (d ∷ days) → Shows words (suc i) days
shows_rest words i d days s j h = let e : suc i + j ≡ i + suc j = omega arith in ap (is_one words) e ∙ s (suc j) (omega arith)

shows_first : (words : List ℕ) (i d : ℕ) (days : List ℕ) → Shows words i (d ∷ days) → is_one words i ≡ is_present d
shows_first words i d days s = let e : i ≡ i + 0 = omega arith in ap (is_one words) e ∙ s 0 (omega arith)

-- a day is had back, no flow stands under a zero, and no number under a one is too large
day_back : (d : ℕ) → cond (is_present d) (cond (is_missing d) 0 d) missing_mark ≡ d
unfolding is_missing
day_back d = by_test (eqb d missing_mark) refl
  where
    by_test : (b : Bool) → eqb d missing_mark ≡ b → cond (not b) (cond b 0 d) missing_mark ≡ d
    by_test true e = sym (eqb-true d missing_mark e)
    by_test false e = refl

zero_under : (m : Bool) (d : ℕ) → (not (not m) && ltb 0 (cond m 0 d)) ≡ false
zero_under true d = refl
zero_under false d = refl

pub days_back : (words : List ℕ) (i : ℕ) (days : List ℕ) → Shows words i days → days_from words i (flows_of days) ≡ days
unfolding days_from flows_of
days_back words i [] s = refl
days_back words i (d ∷ days) s =
    ap₂ (λ x l. x ∷ l) (ap (λ b. cond b (cond (is_missing d) 0 d) missing_mark) (shows_first words i d days s) ∙ day_back d) (days_back words (suc i) days (shows_rest words i d days s))

pub none_under_zero : (words : List ℕ) (i : ℕ) (days : List ℕ) → Shows words i days → flow_under_zero words i (flows_of days) ≡ false
unfolding flow_under_zero flows_of
none_under_zero words i [] s = refl
none_under_zero words i (d ∷ days) s =
    ap₂ (λ a b. a || b) (ap (λ b. not b && ltb 0 (cond (is_missing d) 0 d)) (shows_first words i d days s) ∙ zero_under (is_missing d) d) (none_under_zero words (suc i) days (shows_rest words i d days s))

-- no one stands past the end, and of valid days no number is too large
pub none_past_days : (words : List ℕ) (i n : ℕ) → ((j : ℕ) → i ≤ j → bit words j ≡ 0) → any_one words i n ≡ false
unfolding any_one
none_past_days words i zero h = refl
none_past_days words i (suc n) h = ap₂ (λ b t. eqb b 1 || t) (h i (omega arith)) (none_past_days words (suc i) n (λ j l. h j (omega arith)))

small_under : (d : ℕ) → is_invalid_day d ≡ false → (is_present d && ltb flow_limit (cond (is_missing d) 0 d)) ≡ false
small_under d e = ⊎_elim (λ l. rw (not_mark_missing d (omega arith)) (le-ltb flow_limit d l)) (λ m. rw (mark_missing d m) refl) (valid_day d e)

pub none_too_large : (words : List ℕ) (i : ℕ) (days : List ℕ) → Shows words i days → any_invalid_day days ≡ false → number_under_one words i (flows_of days) ≡ false
unfolding number_under_one flows_of any_invalid_day
none_too_large words i [] s e = refl
none_too_large words i (d ∷ days) s e =
    let h = neither_of _ _ e in
    ap₂ (λ a b. a || b) (ap (λ b. b && ltb flow_limit (cond (is_missing d) 0 d)) (shows_first words i d days s) ∙ small_under d h.0) (none_too_large words (suc i) days (shows_rest words i d days s) h.1)

-- A form is had back: a flow of a valid form, by its bit, and the word, bit by bit.
flow_back : (one : Bool) (flow : ℕ) → (not one && ltb 0 flow) ≡ false → (one && ltb flow_limit flow) ≡ false → cond (is_missing (cond one flow missing_mark)) 0 (cond one flow missing_mark) ≡ flow
flow_back true flow z e = let small : flow ≤ flow_limit = ltb-false flow_limit flow e in rw (not_mark_missing flow (omega arith)) refl
flow_back false flow z e = let none : flow ≤ 0 = ltb-false 0 flow z in rw (mark_missing missing_mark refl) (omega arith)

pub flows_back : (words : List ℕ) (i : ℕ) (flows : List ℕ) → flow_under_zero words i flows ≡ false → number_under_one words i flows ≡ false → flows_of (days_from words i flows) ≡ flows
unfolding days_from flows_of flow_under_zero number_under_one
flows_back words i [] z e = refl
flows_back words i (flow ∷ flows) z e =
    let under = neither_of _ _ z in
    let above = neither_of _ _ e in
    ap₂ (λ x l. x ∷ l) (flow_back (is_one words i) flow under.0 above.0) (flows_back words (suc i) flows under.1 above.1)

missing_under : (one : Bool) (flow : ℕ) → (one && ltb flow_limit flow) ≡ false → is_missing (cond one flow missing_mark) ≡ not one
missing_under true flow e = let small : flow ≤ flow_limit = ltb-false flow_limit flow e in not_mark_missing flow (omega arith)
missing_under false flow e = mark_missing missing_mark refl

missing_at : (words : List ℕ) (i : ℕ) (flows : List ℕ) (j : ℕ) → number_under_one words i flows ≡ false → j < length flows → is_missing (get_or (days_from words i flows) j 0) ≡ not (is_one words (i + j))
unfolding days_from number_under_one
missing_at words i [] j e h = absurd (omega arith)
missing_at words i (flow ∷ flows) zero e h = let at : i ≡ i + 0 = omega arith in missing_under (is_one words i) flow (neither_of _ _ e).0 ∙ ap (λ n. not (is_one words n)) at
missing_at words i (flow ∷ flows) (suc j) e h = let at : suc i + j ≡ i + suc j = omega arith in missing_at words (suc i) flows j (neither_of _ _ e).1 (omega arith) ∙ ap (λ n. not (is_one words n)) at

pub none_past : (words : List ℕ) (i n j : ℕ) → any_one words i n ≡ false → i ≤ j → j < i + n → is_one words j ≡ false
unfolding any_one
none_past words i zero j e h k = absurd (omega arith)
none_past words i (suc n) j e h k =
    let f = neither_of (is_one words i) (any_one words (suc i) n) e in
    elim (dec_le (suc i) j) [
      | yes l ↦ none_past words (suc i) n j f.1 l (omega arith)
      | no g ↦ let at : j ≡ i = omega (arith, lt_of_not-le g) in ap (is_one words) at ∙ f.0
    ]

pub zero_at : (words : List ℕ) (i : ℕ) (flows : List ℕ) (j : ℕ) → flow_under_zero words i flows ≡ false → j < length flows → is_one words (i + j) ≡ false → get_or flows j 0 ≡ 0
unfolding flow_under_zero
zero_at words i [] j e h z = absurd (omega arith)
zero_at words i (flow ∷ flows) zero e h z =
    let at : i ≡ i + 0 = omega arith in
    let under : is_one words i ≡ false = ap (is_one words) at ∙ z in
    let none : flow ≤ 0 = ltb-false 0 flow (sym (ap (λ b. not b && ltb 0 flow) under) ∙ (neither_of (not (is_one words i) && ltb 0 flow) _ e).0) in
    omega arith
zero_at words i (flow ∷ flows) (suc j) e h z = let at : suc i + j ≡ i + suc j = omega arith in zero_at words (suc i) flows j (neither_of _ _ e).1 (omega arith) (ap (is_one words) at ∙ z)

one_bit : (b : ℕ) → b < 2 → ◌≡◌ {A = ℕ} (cond (not (eqb b 1)) 0 1) b
one_bit b h =
    elim (dec_le b 0) [
      | yes l ↦ let e : b ≡ 0 = omega arith in rw e refl
      | no g ↦ let e : b ≡ 1 = omega (arith, lt_of_not-le g) in rw e refl
    ]

pub zero_bit : (b : ℕ) → b < 2 → eqb b 1 ≡ false → 0 ≡ b
zero_bit b h e = let n : b ≡ 1 → ⊥ = eqb-false b 1 e in omega arith

module _ (flows words : List ℕ) (count : length words ≡ word_count (length flows)) (past : any_one words (length flows) (64 * length words - length flows) ≡ false) (small : number_under_one words 0 flows ≡ false) where
  abbrev days : List ℕ
  days = days_from words 0 flows

  same_bit : (i : ℕ) → length days ≡ length flows → i < 64 * length words → bit (words_for (length words) days) i ≡ bit words i
  same_bit i same h =
      elim (dec_le (length flows) i) [
        | yes l ↦ bit_of_none (length words) i days (omega arith) ∙ zero_bit (bit words i) (bit_at-lt (get_or words (i / 64) 0) (i % 64)) (none_past words (length flows) (64 * length words - length flows) i past l (omega arith))
        | no g ↦
            let at : 0 + i ≡ i = omega arith in
            bit_of_day (length words) i days (omega arith) (omega (arith, lt_of_not-le g))
            ∙ ap (λ b. cond b 0 1) (missing_at words 0 flows i small (lt_of_not-le g) ∙ ap (λ n. not (is_one words n)) at)
            ∙ one_bit (bit words i) (bit_at-lt (get_or words (i / 64) 0) (i % 64))
      ]

  pub words_back : length days ≡ length flows → ((k : ℕ) → k < length words → get_or words k 0 < 2 ^ 64) → words_for (length words) days ≡ words
  words_back same fit =
      ext_get_or 0 (words_for (length words) days) words (words_length (length words) days)
      (λ k h.
      let inside : k < length words = omega (arith, words_length (length words) days) in
      same_from_bits_below 64 (get_or (words_for (length words) days) k 0) (get_or words k 0) (word_fits (length words) k days inside) (fit k inside)
      (λ j l.
      let a : (64 * k + j) / 64 ≡ k = omega arith in
      let b : (64 * k + j) % 64 ≡ j = omega arith in
      sym (ap₂ (λ x y. bit_at (get_or (words_for (length words) days) x 0) y) a b) ∙ same_bit (64 * k + j) same (omega arith) ∙ ap₂ (λ x y. bit_at (get_or words x 0) y) a b))
