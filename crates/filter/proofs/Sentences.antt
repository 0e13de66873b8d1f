-- Document 01's sentences on filters, proved of the definitions in specs/:
--   the recurrence of each pass, day by day, in both readings (`pass_1`, `pass_2`, `pass_3`; what a forward and a backward
--     run are is said in numbers' proofs/Recursion.antt), over all days of a segment (`passes_length`);
--   each segment is filtered alone, after each pass, in both readings: the first from the start of the call, every other from
--   the usual one (`first_segment_alone`, `other_segment_alone`, `each_segment_alone`);
--   missing days get no value (`missing_days`);
--   daily steps over a list give what pass 1 gives (`steps_give_pass_1`);
--   p 0 or 10000 is refused with 12 in every method (`no_parameter`);
--   method 7 with s 0 is method 4, on every list with gaps (`seven_is_four`);
--   no difference in the table of methods is cut off at zero (`no_difference_cut_off` in Table.antt);
--   the rounded run lies within n × d / (2 × (d - A)) of the exact run (`distance`);
--   no base value lies above the flow (`base_at_most`).
-- How long a start is remembered is in Forgetting.antt, and that more flow gives more base in Monotone.antt.
-- Assumes nothing.
use Rattle.numbers.proofs.Quantities.{weighted_rounded}
use Rattle.numbers.proofs.Rounding.{near_scaled}
use Rattle.numbers.specs.Near.{near}
use lib.IntN.{pos}
use Prim.Native.Nat.{ℕ, zero, suc, ◌*◌, ◌≤◌, ◌<◌, ◌+◌, ◌-◌, min}
use mathlib.Core.Path.{◌≡◌, refl, sym, ◌∙◌, ap, subst}
use mathlib.Core.Bool.{Bool, true, false}
use mathlib.Core.List.{List, [], ◌∷◌, map}
use mathlib.Core.Logic.{◌⊎◌, ⊎_elim}
use mathlib.Core.Option.{Option, none, some, none-ne-some}
use Rattle.std.specs.Prelude.{Some, None}
use Rattle.std.specs.Prelude as Code
use native.Mathlib.Omega.{arith}
use lib.ListN.{length, get_or, take, drop, length-map, length-reverse}
use borrow.Author.Tests.{le-ltb}
use Rattle.numbers.specs.Fraction.{Fraction}
use Rattle.numbers.specs.Arithmetic.{Arithmetic, rounded, exact}
use Rattle.numbers.specs.Lists.{Each, done, then}
use Rattle.numbers.specs.Scan.{scan, recursive}
use Rattle.numbers.proofs.Scanning.{scan_none, scan_next}
use Rattle.numbers.proofs.Recursion.{Forward, Backward, runs_forward, runs_backward, recursive_length}
use Rattle.series.specs.Units.{flow_limit, is_invalid_day, day_of, base_mark}
use Rattle.series.specs.Causes.{first_cause, accepted}
use Rattle.series.specs.Lists.{any_invalid_day}
use Rattle.series.specs.Segments.{Segment, over_segments}
use Rattle.series.specs.Agreement.{Agree}
use Rattle.series.proofs.Alone.{alone, missing_day}
use Rattle.series.proofs.Firsts.{first_alone, other_alone, first_over_length}
use Rattle.series.proofs.Gaps.{over_first_lem}
use Rattle.std.proofs.lemmas.List.{nil_from_length}
use Rattle.series.proofs.Tests.{any_day}
use Rattle.series.proofs.Views.{mark_value, neither_of, valid_day, day_missing, day_present}
use Rattle.filter.specs.declared.Setting.{Setting}
use Rattle.filter.specs.declared.start.Start.{Start}
use Rattle.filter.specs.declared.start.Start.TheVariants.{Usual}
use Rattle.filter.specs.declared.DailyFilter.{DailyFilter}
use Rattle.filter.specs.declared.Yesterday.{Yesterday}
use Rattle.filter.specs.Methods.{weights, start, unknown_method, out_of_range, invalid_passes, start_too_high, Usable, method_of}
use Rattle.filter.specs.Passes.{step, thousandths, passes, first_start, filtered}
use Rattle.filter.specs.Daily.{fresh, invalid_yesterday, day_base, base_on, state_after}
use Rattle.filter.specs.Call.{filter_causes, filtered_list, step_causes, steps_from}
use Rattle.filter.specs.Private.{day_state}
use Rattle.filter.specs.Distance.{filter_limit}
use Rattle.filter.proofs.Table.{p_range, start_below}
use Rattle.filter.proofs.GapRuns.{steps_are_pass_1}
use Rattle.filter.proofs.Distance.{filter_each, filter_distance}
use Rattle.filter.proofs.MethodNumbers.{step_below}
use Rattle.filter.proofs.Calls.{step_accepts, hands_on}

module _ (S : Arithmetic) (s : Setting) where
  -- from any start
  pub passes_length : (first : ℕ → S.Number) (n : ℕ) (flows : List ℕ) → length (passes S s first n flows) ≡ length flows
  unfolding passes
  passes_length first zero flows = simp length-map
  passes_length first (suc zero) flows = simp recursive_length
  passes_length first (suc (suc zero)) flows = simp (length-reverse, recursive_length)
  passes_length first (suc (suc (suc n))) flows = simp (length-reverse, recursive_length)

  -- A segment's recurrence, from any start: y is its flow and f n the output of pass n, by position. Pass 1 has 1000 × y for
  -- u, a later pass the output before it. (y₀ and f₀ are what is seen outside the segment, where nothing is claimed.)
  module _ (first : ℕ → S.Number) (flows : List ℕ) (y₀ : ℕ) (f₀ : S.Number) where
    abbrev y : ℕ → ℕ
    y t = get_or flows t y₀

    abbrev f : ℕ → ℕ → S.Number
    f n t = get_or (passes S s first n flows) t f₀

    pub pass_1 : Forward first (λ f y x. step S (weights s) f (thousandths S y) (thousandths S x)) (length flows) y (f 1)
    unfolding passes
    pass_1 = runs_forward _ _ y₀ f₀ flows refl

    pub pass_2 : Backward (λ u. u) (step S (weights s)) (length flows) (f 1) (f 2)
    unfolding passes
    pass_2 = runs_backward _ _ f₀ f₀ (passes S s first 1 flows) (passes_length first 1 flows)

    pub pass_3 : Forward (λ u. u) (step S (weights s)) (length flows) (f 2) (f 3)
    unfolding passes
    pass_3 = runs_forward _ _ f₀ f₀ (passes S s first 2 flows) (passes_length first 2 flows)

  pub rule_length : (first : ℕ → S.Number) (n : ℕ) (flows : List ℕ) → length (map {B = Option S.Number} some (passes S s first n flows)) ≡ length flows
  rule_length first n flows = length-map (passes S s first n flows) some ∙ passes_length first n flows

  -- from the usual start a filter is one rule over all segments
  pub usual : (n : ℕ) (days : List (Option ℕ)) → filtered S s n Usual days ≡ over_segments (λ flows. map some (passes S s (start S s) n flows)) days
  unfolding filtered first_start
  usual n days = over_first_lem (λ flows. map some (passes S s (start S s) n flows)) (nil_from_length _ (rule_length (start S s) n [])) days

  -- from a start that is given too: the first segment, before which no day is present, and every other
  pub first_segment_alone : (n : ℕ) (from : Start) (days : List (Option ℕ)) (t : ℕ) (flows : List ℕ) → Segment days t flows → ((k : ℕ) → k < t → get_or days k none ≡ none) → take (length flows) (drop t (filtered S s n from days)) ≡ map some (passes S s (first_start S s from) n flows)
  unfolding filtered
  first_segment_alone n from days t flows = first_alone _ _ (rule_length (first_start S s from) n) (rule_length (start S s) n) days t flows

  pub other_segment_alone : (n : ℕ) (from : Start) (days : List (Option ℕ)) (t : ℕ) (flows : List ℕ) → Segment days t flows → (k : ℕ) → k < t → (get_or days k none ≡ none → ⊥) → take (length flows) (drop t (filtered S s n from days)) ≡ map some (passes S s (start S s) n flows)
  unfolding filtered
  other_segment_alone n from days t flows = other_alone _ _ (rule_length (first_start S s from) n) (rule_length (start S s) n) days t flows

  pub each_segment_alone : (n : ℕ) {days : List (Option ℕ)} {t : ℕ} {flows : List ℕ} → Segment days t flows → take (length flows) (drop t (filtered S s n Usual days)) ≡ map some (passes S s (start S s) n flows)
  each_segment_alone n {days} {t} {flows} g = ap (λ l. take (length flows) (drop t l)) (usual n days) ∙ alone _ (rule_length (start S s) n) g

  pub missing_days : (n : ℕ) (days : List (Option ℕ)) (t : ℕ) → get_or days t none ≡ none → get_or (filtered S s n Usual days) t none ≡ none
  missing_days n days t e = ap (λ l. get_or l t none) (usual n days) ∙ missing_day _ (rule_length (start S s) n) days t e

-- p 0 or 10000 is no parameter of a method: both calls answer 12, whatever else holds
module _ (s : Setting) (known : unknown_method s ≡ false) (edge : (s.p ≡ 0) ⊎ (s.p ≡ 10000)) where
  pub no_parameter : out_of_range s ≡ true
  no_parameter = by_test (out_of_range s) refl
    where
      by_test : (b : Bool) → out_of_range s ≡ b → out_of_range s ≡ true
      by_test true e = e
      by_test false e = let r = p_range (record { known = known; in_range = e }) in absurd (⊎_elim (λ h. omega arith) (λ h. omega arith) edge)

  pub no_parameter_of_filter : (n : ℕ) (from : Start) (days base : List ℕ) → first_cause (filter_causes s n from days base) ≡ some 12
  unfolding filter_causes
  no_parameter_of_filter n from days base = simp (known, no_parameter)

  pub no_parameter_of_step : (st : DailyFilter) (day : ℕ) → first_cause (step_causes s st day) ≡ some 12
  unfolding step_causes
  no_parameter_of_step st day = simp (known, no_parameter)

-- every setting and number of passes that a call accepts, and every list with gaps
pub distance : (s : Setting) (n : ℕ) → Usable s → invalid_passes s n ≡ false → (from : Start) (days : List (Option ℕ)) → start_too_high from days ≡ false → Each (Agree (filter_limit s n)) days (filtered rounded s n from days) (filtered exact s n from days)
distance s n u v = filter_distance u n v

-- the base list that an accepted call leaves
pub filtered_list_lem : (s : Setting) (n : ℕ) (from : Start) (days : List ℕ) → filtered_list s n from days ≡ map base_mark (filtered rounded s n from (map day_of days))
unfolding filtered_list
filtered_list_lem s n from days = refl

pub filtered_length : (s : Setting) (n : ℕ) (from : Start) (days : List ℕ) → length (filtered_list s n from days) ≡ length days
unfolding filtered_list filtered
filtered_length s n from days = length-map (filtered rounded s n from (map day_of days)) base_mark ∙ first_over_length _ _ (rule_length rounded s (first_start rounded s from) n) (rule_length rounded s (start rounded s) n) (map day_of days) ∙ length-map days day_of

-- no value above the flow, and no mark on a present day
abbrev AtMostFlow : Option ℕ → Option ℕ → Option Fraction → Type 0
AtMostFlow none b f = Unit {0}
AtMostFlow (some y) b f = base_mark b ≤ 1000 * y

at_place : {days run : List (Option ℕ)} {exact_run : List (Option Fraction)} → Each AtMostFlow days run exact_run → (t : ℕ) {y : ℕ} → get_or days t none ≡ some y → get_or (map base_mark run) t 0 ≤ 1000 * y
at_place done t {y} h = absurd (none-ne-some y h)
at_place (then {b} {c} r e) zero h = subst (λ o. AtMostFlow o b c) h r
at_place (then r e) (suc t) h = at_place e t h

pub base_at_most : (s : Setting) (n : ℕ) → Usable s → invalid_passes s n ≡ false → (from : Start) (days : List ℕ) → start_too_high from (map day_of days) ≡ false
    → (t : ℕ) {y : ℕ} → get_or (map day_of days) t none ≡ some y → get_or (filtered_list s n from days) t 0 ≤ 1000 * y
unfolding filtered_list
base_at_most s n u v from days low = at_place (filter_each u n v AtMostFlow tt (λ y b f h c. rw mark_value h) from (map day_of days) low)

module _ (s : Setting) (u : Usable s) where
  base_below : (yd : Code.Option Yesterday) (y : ℕ) → day_base s yd y ≤ 1000 * y
  unfolding day_base thousandths
  base_below None y = start_below u y
  base_below (Some day) y = step_below _ _ _ _

  state_valid : (st : DailyFilter) (d : ℕ) → is_invalid_day d ≡ false → invalid_yesterday (state_after s st (day_of d)).yesterday ≡ false
  unfolding state_after invalid_yesterday
  state_valid st d e =
      ⊎_elim
      (λ h. rw (day_present d (λ m. absurd (omega arith))) (simp (le-ltb flow_limit d h, le-ltb (1000 * d) (day_base s st.yesterday d) (base_below st.yesterday d))))
      (λ m. rw (day_missing d m)) (valid_day d e)

  -- steps over valid days from a valid state are all accepted
  steps_accepted : (st : DailyFilter) (days : List ℕ) → invalid_yesterday st.yesterday ≡ false → any_invalid_day days ≡ false → steps_from s st days ≡ scan (day_state s) (λ st d. accepted (base_on s st (day_of d))) st days
  unfolding steps_from
  steps_accepted st [] v e = scan_none _ _ st ∙ sym (scan_none _ _ st)
  steps_accepted st (d ∷ ds) v e =
      let h = neither_of _ _ (sym (any_day d ds) ∙ e) in
      let one = hands_on s st d (step_accepts (record { usable = u; valid_state = v; valid_day = h.0 })) in
      scan_next _ _ st d ds ∙ ap (λ x. x.outcome ∷ steps_from s x.state ds) one
      ∙ ap (λ l. accepted (base_on s st (day_of d)) ∷ l) (steps_accepted (day_state s st d) ds (state_valid st d h.0) h.1) ∙ sym (scan_next _ _ st d ds)

  pub steps_give_pass_1 : (days : List ℕ) → any_invalid_day days ≡ false → steps_from s fresh days ≡ map accepted (filtered rounded s 1 Usual (map day_of days))
  unfolding invalid_yesterday
  steps_give_pass_1 days e = steps_accepted fresh days refl e ∙ steps_are_pass_1 s accepted days

-- method 7 without s, and method 4: the same fraction, so the same base flow
abbrev unsigned : (method p q : ℕ) → Setting
unsigned m p q = record { method = m; p = p; q = q; s = pos 0 }

same_step : (p q f u v : ℕ) → step rounded (weights (unsigned 7 p q)) f u v ≡ step rounded (weights (unsigned 4 p q)) f u v
unfolding step weights method_of
same_step p q f u v = ap (min u) (weighted_rounded (weights (unsigned 7 p q)) f u v ∙ ap (λ n. near n (10000 * (10000 + q))) sums ∙ near_scaled 10000 (p * f + q * u + 0 * v - 0 * v) (10000 + q) (omega arith) (omega arith) ∙ sym (weighted_rounded (weights (unsigned 4 p q)) f u v))
  where
    sums : 10000 * p * f + 10000 * q * u + 0 * q * v - 0 * v ≡ 10000 * (p * f + q * u + 0 * v - 0 * v)
    sums = omega arith

pub seven_is_four : (p q : ℕ) (days : List (Option ℕ)) → filtered rounded (unsigned 7 p q) 1 Usual days ≡ filtered rounded (unsigned 4 p q) 1 Usual days
unfolding passes start method_of
seven_is_four p q days = usual rounded (unsigned 7 p q) 1 days ∙ ap (λ next. over_segments (λ flows. map some (recursive (λ y. 500 * y) next flows)) days) (λ i f y x. same_step p q f (thousandths rounded y) (thousandths rounded x) i) ∙ sym (usual rounded (unsigned 4 p q) 1 days)
