-- READ THIS FIRST: more flow, more base.
-- Of two day lists of one length, missing on the same days, let one have at least the other's flow on every day. Then by the
-- same setting and passes, in methods 1 to 6, its base list is nowhere lower (`more_flow_more_base`). It is so in method 7 too
-- where s is not below zero, and from any start that both are given (`more_flow`); where it is, more flow can mean less base on the day after (`less_base`).
-- Assumes nothing.
use Prim.Native.Nat.{ℕ, zero, suc, ◌+◌, ◌*◌, ◌-◌, ◌≤◌, ◌<◌}
use mathlib.Core.Path.{◌≡◌, refl, ap}
use mathlib.Core.Bool.{Bool, true, false, cond}
use mathlib.Core.List.{List, [], ◌∷◌, map, reverse}
use mathlib.Core.Option.{Option}
use native.Mathlib.Nat.{mul-le-mul_left}
use native.Mathlib.Omega.{arith}
use lib.Dec.{leb, eqb}
use lib.IntN.{negsuc}
use lib.ListN.{get_or}
use borrow.Author.Tests.{ne_eqb, leb-true, not-false}
use Rattle.numbers.specs.Near.{near}
use Rattle.numbers.specs.Whole.{up, down}
use Rattle.numbers.specs.Arithmetic.{Weights, weighted, rounded}
use Rattle.numbers.specs.Scan.{recursive}
use Rattle.numbers.specs.Lists.{Each, Beside, none_beside, and_beside}
use Rattle.numbers.proofs.Quantities.{weighted_rounded}
use Rattle.numbers.proofs.Rounding.{near_monotone}
use Rattle.numbers.proofs.Recursion.{together}
use Rattle.numbers.proofs.Pairwise.{each_reverse}
use Rattle.numbers.proofs.Whole.{down_of_multiple}
use Rattle.series.specs.Units.{day_of, base_mark, within}
use Rattle.series.specs.Segments.{over_first}
use Rattle.series.specs.Pairs.{Both, both_missing, both_present, NowhereLess}
use Rattle.series.proofs.Views.{both_of}
use Rattle.series.proofs.Pairs.{first_beside, to_each, of_each}
use Rattle.filter.specs.declared.Setting.{Setting}
use Rattle.filter.specs.declared.start.Start.{Start}
use Rattle.filter.specs.declared.start.Start.TheVariants.{Usual, Given}
use Rattle.filter.specs.declared.method.Method.{Method}
use Rattle.filter.specs.declared.method.Method.TheVariants.{LyneHollick, Chapman1991, ChapmanMaxwell, Boughton, Eckhardt, TularamIlahee, JakemanHornberger}
use Rattle.filter.specs.Methods.{method_of, method_weights, weights, method_range, method_span, spans, in_range, method_start, start, unknown_method, out_of_range, invalid_passes, Usable}
use Rattle.filter.specs.Passes.{step, thousandths, later_day, first_pass, forward_pass, backward_pass, passes, first_start, filtered}
use Rattle.filter.specs.Call.{filtered_list}
use Rattle.filter.proofs.Table.{row, passes_range}

-- a rounding step rises with all that it sees; with v only where no more is taken away for it
module _ (w : Weights) (above : 0 < w.d) where
  pub step_rises : (f f' u u' v v' : ℕ) → f ≤ f' → u ≤ u' → v ≤ v' → w.E * v' ≤ w.E * v → step rounded w f u v ≤ step rounded w f' u' v'
  unfolding step
  step_rises f f' u u' v v' h k l m =
      rw (weighted_rounded w f u v, weighted_rounded w f' u' v')
      (let risen = near_monotone {a = w.A * f + w.B * u + w.C * v - w.E * v} {a' = w.A * f' + w.B * u' + w.C * v' - w.E * v'} above (omega (arith, mul-le-mul_left w.A h, mul-le-mul_left w.B k, mul-le-mul_left w.C l)) in omega arith)

-- a flow that is no less, and for which no more is taken away
abbrev pub Raises : Weights → (y y' : ℕ) → Type 0
Raises w y y' = (y ≤ y') × (w.E * y' ≤ w.E * y)

abbrev pub Rises : (first first' : ℕ → ℕ) → Type 0
Rises first first' = (y y' : ℕ) → y ≤ y' → first y ≤ first' y'

module _ (s : Setting) (above : 0 < (weights s).d) where
  abbrev w : Weights
  w = weights s

  pub first_pass_rises : (first first' : ℕ → ℕ) → Rises first first' → (flows more : List ℕ) → Beside (Raises w) flows more → Beside ◌≤◌ (first_pass rounded s first flows) (first_pass rounded s first' more)
  unfolding first_pass thousandths
  first_pass_rises first first' h flows more e =
      of_each (together (λ _. Raises w) (λ _ f f'. f ≤ f') first first' (later_day rounded s) (later_day rounded s) (λ _ y y' r. h y y' r.0)
      (λ _ _ f f' x y x' y' o q r. step_rises w above f f' (1000 * y) (1000 * y') (1000 * x) (1000 * x') o (omega arith) (omega arith) (omega arith)) (to_each e))

  -- passes 2 and 3, where nothing is taken away
  module _ (none_away : w.E ≡ 0) where
    forward_rises : {ls us us' : List ℕ} → Each (λ _ u u'. u ≤ u') ls us us' → Each (λ _ f f'. f ≤ f') ls (forward_pass rounded s us) (forward_pass rounded s us')
    unfolding forward_pass
    forward_rises e =
        together (λ _ u u'. u ≤ u') (λ _ f f'. f ≤ f') (λ u. u) (λ u. u) (step rounded w) (step rounded w) (λ _ u u' h. h)
        (λ _ _ f f' v u v' u' o q r. step_rises w above f f' u u' v v' o r q (rw none_away (omega arith))) e

    backward_rises : {ls us us' : List ℕ} → Each (λ _ u u'. u ≤ u') ls us us' → Each (λ _ f f'. f ≤ f') (reverse (reverse ls)) (backward_pass rounded s us) (backward_pass rounded s us')
    unfolding backward_pass
    backward_rises e = each_reverse (forward_rises (each_reverse e))

    passes_rise : (first first' : ℕ → ℕ) → Rises first first' → (n : ℕ) → 1 ≤ n → (flows more : List ℕ) → Beside (Raises w) flows more → Beside ◌≤◌ (passes rounded s first n flows) (passes rounded s first' n more)
    unfolding passes
    passes_rise first first' h zero l flows more e = absurd (omega arith)
    passes_rise first first' h (suc zero) l flows more e = first_pass_rises first first' h flows more e
    passes_rise first first' h (suc (suc zero)) l flows more e = of_each (backward_rises (to_each (first_pass_rises first first' h flows more e)))
    passes_rise first first' h (suc (suc (suc n))) l flows more e = of_each (forward_rises (backward_rises (to_each (first_pass_rises first first' h flows more e))))

-- a start rises with the first flow
method_start_rises : (m : Method) (s : Setting) → Rises (method_start rounded m s) (method_start rounded m s)
unfolding method_start
method_start_rises LyneHollick s y y' h = omega arith
method_start_rises Chapman1991 s y y' h = omega arith
method_start_rises ChapmanMaxwell s y y' h = omega arith
method_start_rises Boughton s y y' h = omega arith
method_start_rises Eckhardt s y y' h = near_monotone (omega arith) (mul-le-mul_left (9 * s.q) h)
method_start_rises TularamIlahee s y y' h = omega arith
method_start_rises JakemanHornberger s y y' h = omega arith

pub start_rises : (s : Setting) → Rises (start rounded s) (start rounded s)
unfolding start
start_rises s = method_start_rises (method_of s.method) s

first_start_rises : (s : Setting) (from : Start) → Rises (first_start rounded s from) (first_start rounded s from)
unfolding first_start
first_start_rises s Usual y y' h = start_rises s y y' h
first_start_rises s (Given value) y y' h = omega arith

-- from segments to lists with gaps, and to the numbers in memory
pub marks_rise : {values more : List (Option ℕ)} → Beside (Both ◌≤◌) values more → (t : ℕ) → get_or (map base_mark values) t 0 ≤ get_or (map base_mark more) t 0
unfolding base_mark
marks_rise none_beside t = omega arith
marks_rise (and_beside both_missing d) zero = omega arith
marks_rise (and_beside (both_present h) d) zero = h
marks_rise (and_beside r d) (suc t) = marks_rise d t

-- what a filter takes away for yesterday's flow is nothing where s is not below zero ..
method_none_away : (m : Method) (s : Setting) → down s.s ≡ 0 → (method_weights m s).E ≡ 0
unfolding method_weights
method_none_away LyneHollick s z = refl
method_none_away Chapman1991 s z = refl
method_none_away ChapmanMaxwell s z = refl
method_none_away Boughton s z = refl
method_none_away Eckhardt s z = refl
method_none_away TularamIlahee s z = refl
method_none_away JakemanHornberger s z = omega (arith, down_of_multiple s.s s.q, ap (λ n. n * s.q) z)

none_away_lem : (s : Setting) → down s.s ≡ 0 → (weights s).E ≡ 0
unfolding weights
none_away_lem s z = method_none_away (method_of s.method) s z

raised : (w : Weights) → w.E ≡ 0 → {days more : List (Option ℕ)} → NowhereLess days more → Beside (Both (Raises w)) days more
raised w z none_beside = none_beside
raised w z (and_beside both_missing d) = and_beside both_missing (raised w z d)
raised w z (and_beside (both_present h) d) = and_beside (both_present (h, rw z (omega arith))) (raised w z d)

pub more_flow : {s : Setting} → Usable s → down s.s ≡ 0 → (n : ℕ) → invalid_passes s n ≡ false → (from : Start) → (days more : List ℕ) → NowhereLess (map day_of days) (map day_of more)
    → (t : ℕ) → get_or (filtered_list s n from days) t 0 ≤ get_or (filtered_list s n from more) t 0
unfolding filtered_list filtered
more_flow {s} u z n v from days more e =
    let away = none_away_lem s z in
    let keeps = λ (first : ℕ → ℕ) (h : Rises first first). passes_rise s (row u).moderate.above away first first h n (passes_range s n v).0 in
    marks_rise (first_beside (Raises (weights s)) ◌≤◌ _ _ (keeps (start rounded s) (start_rises s)) _ _ (keeps (first_start rounded s from) (first_start_rises s from)) (raised (weights s) away e))

-- .. and in methods 1 to 6 s is 0
span_up_to_6 : (n : ℕ) → n ≤ 6 → method_span (method_of n) ≡ 0
unfolding method_span method_of
span_up_to_6 n h = rw (ne_eqb n 7 (λ e. absurd (omega arith))) (each (eqb n 1) (eqb n 2) (eqb n 3) (eqb n 4) (eqb n 5))
  where
    each : (a b c d e : Bool) → method_span (cond a LyneHollick (cond b Chapman1991 (cond c ChapmanMaxwell (cond d Boughton (cond e Eckhardt TularamIlahee))))) ≡ 0
    each true b c d e = refl
    each false true c d e = refl
    each false false true d e = refl
    each false false false true e = refl
    each false false false false true = refl
    each false false false false false = refl

pub up_to_6 : {s : Setting} → Usable s → s.method ≤ 6 → down s.s ≡ 0
unfolding out_of_range in_range spans
up_to_6 {s} u h =
    let span = method_span (method_of s.method) in
    let in_span : spans span s.s ≡ true = (both_of (method_range (method_of s.method) s) (spans span s.s) (not-false (in_range s) u.in_range)).1 in
    omega (arith, leb-true (down s.s) span (both_of (leb (up s.s) span) (leb (down s.s) span) in_span).1, span_up_to_6 s.method h)

-- The sentence: methods 1 to 6, the usual start, after each pass.
pub more_flow_more_base : {s : Setting} → Usable s → s.method ≤ 6 → (n : ℕ) → invalid_passes s n ≡ false → (days more : List ℕ) → NowhereLess (map day_of days) (map day_of more)
    → (t : ℕ) → get_or (filtered_list s n Usual days) t 0 ≤ get_or (filtered_list s n Usual more) t 0
more_flow_more_base u h n v days more e = more_flow u (up_to_6 u h) n v Usual days more e

-- Method 7 with s -5000: 20 in place of 10 litres a second yesterday, and today 47.5 in place of 48.75 of base.
abbrev falling : Setting
falling = record { method = 7; p = 5000; q = 10000; s = negsuc 4999 }

pub less_base : Usable falling × NowhereLess (map day_of (10 ∷ 100 ∷ [])) (map day_of (20 ∷ 100 ∷ []))
    × (filtered_list falling 1 Usual (10 ∷ 100 ∷ []) ≡ 5000 ∷ 48750 ∷ []) × (filtered_list falling 1 Usual (20 ∷ 100 ∷ []) ≡ 10000 ∷ 47500 ∷ [])
unfolding day_of unknown_method out_of_range in_range within filtered_list filtered over_first method_of weights start step recursive thousandths weighted near base_mark spans
less_base =
    (record { known = refl; in_range = refl }, and_beside (both_present (omega arith)) (and_beside (both_present (omega arith)) none_beside), refl, refl)
