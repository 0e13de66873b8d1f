-- READ THIS FIRST: how long a start is remembered.
-- One pass of any method over the same days, from two starts (`forgetting`; its sentences stand in specs/Forgetting.antt): from
-- the higher start the base is lower on no day; in the first segment the difference shrinks by A / d a day, down to what
-- rounding leaves; in every other segment there is none. The usual start is one of those that can be given
-- (`usual_is_given`), so that the same holds of it and any other. A start too high for a call (29) is no exception here.
-- Assumes nothing.
use Prim.Native.Nat.{ℕ, zero, suc, ◌+◌, ◌*◌, ◌-◌, ◌^◌, ◌≤◌, ◌<◌, min}
use mathlib.Core.Path.{◌≡◌, refl, sym, ◌∙◌, ap}
use mathlib.Core.Bool.{false}
use mathlib.Core.List.{List, [], ◌∷◌, map}
use mathlib.Core.Option.{Option, none, some, some-injective}
use native.Mathlib.Decide.{dec_le}
use native.Mathlib.Nat.{mul_assoc, mul-le-mul_left, mul-le-mul_right, min-le_left, min-le_right, min-eq_left, min-eq_right, lt_of_not-le, le_of_lt, pow-zero, pow-succ'}
use native.Mathlib.Omega.{arith}
use lib.ListN.{length, get_or, take, drop}
use borrow.Author.Tests.{le-ltb}
use lib.Seq.{get_or-take, get_or-drop}
use Rattle.std.proofs.lemmas.List.{take-map, drop-map}
use Rattle.numbers.specs.Arithmetic.{Weights, rounded}
use Rattle.numbers.specs.Scan.{onward, recursive}
use Rattle.numbers.specs.Lists.{Beside, none_beside, and_beside}
use Rattle.numbers.specs.Near.{near}
use Rattle.numbers.proofs.Quantities.{weighted_rounded}
use Rattle.numbers.proofs.Rounding.{near_error}
use Rattle.series.specs.Units.{day_of, base_mark}
use Rattle.series.specs.Segments.{first_present}
use Rattle.series.specs.Pairs.{Both, both_missing, both_present}
use Rattle.series.proofs.Firsts.{first_alone, other_alone, first_same}
use Rattle.series.proofs.Pairs.{first_beside}
use Rattle.filter.specs.declared.Setting.{Setting}
use Rattle.filter.specs.declared.start.Start.TheVariants.{Usual, Given}
use Rattle.filter.specs.Methods.{weights, start, above_flow, start_too_high, Usable}
use Rattle.filter.specs.Passes.{step, thousandths, later_day, first_pass, passes, first_start, filtered}
use Rattle.filter.specs.Call.{filtered_list}
use Rattle.filter.specs.Forgetting.{FirstSegment, LaterSegment, base_from, Forgets}
use Rattle.filter.proofs.Table.{row, start_below}
use Rattle.filter.proofs.Distance.{same_passes}
use Rattle.filter.proofs.Sentences.{rule_length}
use Rattle.filter.proofs.Monotone.{step_rises, Raises, first_pass_rises, start_rises, marks_rise}

-- f and f' lie at most n / m + d / e apart, e being d - A
record Apart (d e n m f f' : ℕ) : Type 0 where
  rises : f ≤ f'
  near : f' * m * e ≤ f * m * e + n * e + d * m

-- a step takes n / m to n × A / (m × d): r and r' are the next values, rounded once each
next_near : (A d e n m f f' r r' : ℕ) → A + e ≡ d → f' * m * e ≤ f * m * e + n * e + d * m → r' * d + A * f ≤ r * d + A * f' + d → r' * (m * d) * e ≤ r * (m * d) * e + n * A * e + d * (m * d)
next_near A d e n m f f' r r' s g h = omega (arith, mul-le-mul_left (m * e) h, mul-le-mul_left A g, ap (λ k. d * m * k) s)

-- held to u, two values lie no further apart
held : (u r r' d a b : ℕ) → r' * d + a ≤ r * d + b → a ≤ b → min u r' * d + a ≤ min u r * d + b
held u r r' d a b h k =
    elim (dec_le r u) [
      | yes l ↦ rw (min-eq_right l) (omega (arith, mul-le-mul_right d (min-le_right u r')))
      | no l ↦ rw (min-eq_left (le_of_lt (lt_of_not-le l))) (omega (arith, mul-le-mul_right d (min-le_left u r')))
    ]

module _ (w : Weights) (below : w.A < w.d) where
  abbrev e : ℕ
  e = w.d - w.A

  step_apart : (n m f f' u v : ℕ) → Apart w.d e n m f f' → Apart w.d e (n * w.A) (m * w.d) (step rounded w f u v) (step rounded w f' u v)
  unfolding step
  step_apart n m f f' u v a =
      let x = w.A * f + w.B * u + w.C * v - w.E * v in
      let x' = w.A * f' + w.B * u + w.C * v - w.E * v in
      let above : 0 < w.d = omega arith in
      let more : w.A * f ≤ w.A * f' = mul-le-mul_left w.A a.rises in
      let both : near x' w.d * w.d + w.A * f ≤ near x w.d * w.d + w.A * f' + w.d = omega (arith, near_error x w.d above, near_error x' w.d above) in
      record {
        rises = step_rises w above f f' u u v v a.rises (omega arith) (omega arith) (omega arith);
        near = rw (weighted_rounded w f u v, weighted_rounded w f' u v) (next_near w.A w.d e n m f f' (min u (near x w.d)) (min u (near x' w.d)) (omega arith) a.near (omega (arith, held u (near x w.d) (near x' w.d) w.d (w.A * f) (w.A * f' + w.d) (omega arith) (omega arith))));
      }

  -- k steps on: n × A^k over m × d^k
  onward_apart : (next : ℕ → ℕ → ℕ → ℕ) → ((n m f f' y x : ℕ) → Apart w.d e n m f f' → Apart w.d e (n * w.A) (m * w.d) (next f y x) (next f' y x))
      → (n m f f' x : ℕ) (ys : List ℕ) (k : ℕ) → Apart w.d e n m f f' → Apart w.d e (n * w.A ^ k) (m * w.d ^ k) (get_or (f ∷ onward next f x ys) k 0) (get_or (f' ∷ onward next f' x ys) k 0)
  unfolding onward
  onward_apart next keeps n m f f' x ys zero a = rw (pow-zero w.A, pow-zero w.d) (record { rises = a.rises; near = omega (arith, a.near) })
  onward_apart next keeps n m f f' x [] (suc k) a = record { rises = omega arith; near = omega arith }
  onward_apart next keeps n m f f' x (y ∷ ys) (suc k) a = rw (pow-succ' w.A k, pow-succ' w.d k, ← mul_assoc n w.A (w.A ^ k), ← mul_assoc m w.d (w.d ^ k)) (onward_apart next keeps (n * w.A) (m * w.d) (next f y x) (next f' y x) y ys k (keeps n m f f' y x a))

-- k days after the start of a segment, from two starts
module _ (s : Setting) (below : (weights s).A < (weights s).d) where
  abbrev w : Weights
  w = weights s

  first_pass_apart : (low high : ℕ) → low ≤ high → (flows : List ℕ) (k : ℕ)
      → Apart w.d (w.d - w.A) ((high - low) * w.A ^ k) (1 * w.d ^ k) (get_or (first_pass rounded s (λ _. low) flows) k 0) (get_or (first_pass rounded s (λ _. high) flows) k 0)
  unfolding first_pass recursive
  first_pass_apart low high h [] k = record { rises = omega arith; near = omega arith }
  first_pass_apart low high h (y ∷ ys) k =
      let more : high ≡ low + (high - low) = omega arith in
      onward_apart w below (later_day rounded s) (λ n m f f' y x. step_apart w below n m f f' (thousandths rounded y) (thousandths rounded x)) (high - low) 1 low high y ys k (record { rises = h; near = omega (arith, ap (λ n. n * (w.d - w.A)) more) })

  -- in whole numbers by cross-multiplying
  apart_least : (low high : ℕ) (b b' : ℕ) → (k : ℕ) → Apart w.d (w.d - w.A) ((high - low) * w.A ^ k) (1 * w.d ^ k) b b' → (b' - b) * (w.d ^ k * (w.d - w.A)) ≤ (high - low) * w.A ^ k * (w.d - w.A) + w.d * w.d ^ k
  apart_least low high b b' k a =
      let more : b' ≡ b + (b' - b) = omega (arith, a.rises) in
      omega (arith, a.near, ap (λ n. n * (w.d ^ k * (w.d - w.A))) more)

-- a day's number in memory, of a segment that a rule saw alone
marks : (fs : List ℕ) → map base_mark (map some fs) ≡ fs
unfolding base_mark
marks [] = refl
marks (f ∷ fs) = ap (λ l. f ∷ l) (marks fs)

mark_at : (values : List (Option ℕ)) (start n k : ℕ) (fs : List ℕ) → take n (drop start values) ≡ map some fs → k < n → get_or (map base_mark values) (start + k) 0 ≡ get_or fs k 0
mark_at values start n k fs e h =
    sym (get_or-take n (drop start (map base_mark values)) k 0 h ∙ get_or-drop start (map base_mark values) k 0)
    ∙ ap (λ l. get_or l k 0) (ap (take n) (drop-map base_mark start values) ∙ take-map base_mark n (drop start values) ∙ ap (map base_mark) e ∙ marks fs)

-- a day list beside itself
same_days : (w : Weights) (days : List (Option ℕ)) → Beside (Both (Raises w)) days days
same_days w [] = none_beside
same_days w (none ∷ ds) = and_beside both_missing (same_days w ds)
same_days w (some y ∷ ds) = and_beside (both_present (omega arith, omega arith)) (same_days w ds)

module _ {s : Setting} (u : Usable s) (days : List ℕ) where
  on_first : (value : ℕ) {t : ℕ} {flows : List ℕ} → FirstSegment (map day_of days) t flows → (k : ℕ) → k < length flows → base_from s value days (t + k) ≡ get_or (first_pass rounded s (λ _. value) flows) k 0
  unfolding filtered_list filtered passes first_start
  on_first value {t} {flows} g k h =
      mark_at _ t (length flows) k _ (first_alone _ _ (rule_length rounded s (λ _. value) 1) (rule_length rounded s (start rounded s) 1) (map day_of days) t flows g.segment g.none_before) h

  on_later : (value : ℕ) {t : ℕ} {flows : List ℕ} → LaterSegment (map day_of days) t flows → (k : ℕ) → k < length flows → base_from s value days (t + k) ≡ get_or (first_pass rounded s (start rounded s) flows) k 0
  unfolding filtered_list filtered passes first_start
  on_later value {t} {flows} g k h =
      mark_at _ t (length flows) k _ (other_alone _ _ (rule_length rounded s (λ _. value) 1) (rule_length rounded s (start rounded s) 1) (map day_of days) t flows g.segment g.day g.before g.present) h

  never_lower_lem : (low high : ℕ) → low ≤ high → (t : ℕ) → base_from s low days t ≤ base_from s high days t
  unfolding filtered_list filtered passes first_start
  never_lower_lem low high h =
      let above = (row u).moderate.above in
      marks_rise (first_beside (Raises (weights s)) ◌≤◌ _ _ (first_pass_rises s above (start rounded s) (start rounded s) (start_rises s)) _ _ (first_pass_rises s above (λ _. low) (λ _. high) (λ y y' _. h)) (same_days (weights s) (map day_of days)))

  pub forgetting : (low high : ℕ) → low ≤ high → Forgets s low high days
  forgetting low high h =
      record {
        never_lower = never_lower_lem low high h;
        forgotten = λ g k l. rw (on_first low g k l, on_first high g k l) (apart_least s (row u).below low high _ _ k (first_pass_apart s (row u).below low high h _ k));
        equal_later = λ g k l. on_later low g k l ∙ sym (on_later high g k l);
      }

-- the usual start is one of those that can be given, that of the first present flow ..
pub usual_is_given : (s : Setting) (n : ℕ) {y : ℕ} (days : List (Option ℕ)) → first_present days ≡ some y → filtered rounded s n Usual days ≡ filtered rounded s n (Given (start rounded s y)) days
unfolding filtered first_start
usual_is_given s n {y} days e =
    first_same _ _ _ days (λ z ys g. ap (map some) (same_passes rounded s (first_start rounded s Usual) (first_start rounded s (Given (start rounded s y))) n z ys (ap (start rounded s) (some-injective z y (sym g ∙ e)))))

-- .. in the list in memory ..
pub usual_list_is_given : (s : Setting) (n : ℕ) {y : ℕ} (days : List ℕ) → first_present (map day_of days) ≡ some y → filtered_list s n Usual days ≡ filtered_list s n (Given (start rounded s y)) days
unfolding filtered_list
usual_list_is_given s n days e = ap (map base_mark) (usual_is_given s n (map day_of days) e)

-- .. and a call does not refuse it
pub usual_not_too_high : {s : Setting} → Usable s → {y : ℕ} (days : List (Option ℕ)) → first_present days ≡ some y → start_too_high (Given (start rounded s y)) days ≡ false
unfolding start_too_high above_flow
usual_not_too_high {s} u {y} days e = rw e (le-ltb (1000 * y) (start rounded s y) (start_below u y))
