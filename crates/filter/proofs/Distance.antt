-- The distance of the rounded run from the exact run: one law over all methods, settings, passes and lists with gaps.
-- Assumes nothing.
use Prim.Native.Nat.{ℕ, zero, suc, ◌+◌, ◌*◌, ◌-◌, ◌≤◌, ◌<◌, min}
use mathlib.Core.Path.{◌≡◌, refl, sym, ◌∙◌, ap, subst}
use mathlib.Core.Bool.{false}
use mathlib.Core.List.{List, [], ◌∷◌, map, reverse-reverse}
use mathlib.Core.Option.{Option, none, some}
use native.Mathlib.Nat.{mul-le-mul_left, min-le_left, min-le_right, le_trans}
use native.Mathlib.Omega.{arith}
use Rattle.numbers.specs.Fraction.{Fraction, AtMost}
use borrow.Author.Tests.{ltb-false}
use Rattle.numbers.specs.Arithmetic.{Arithmetic, Close, Weights, rounded, exact}
use Rattle.numbers.specs.Scan.{onward}
use Rattle.numbers.specs.Lists.{Each, done, then}
use Rattle.numbers.proofs.Fractions.{close_least, close_weaken, step_error, close_weighted}
use Rattle.numbers.proofs.Quantities.{Reads, reads_whole, reads_half, reads_quotient, reads_error, at_most, close_exact, close_near}
use Rattle.numbers.proofs.Pairwise.{each_reverse}
use Rattle.numbers.proofs.Recursion.{together, recursive_first}
use Rattle.series.specs.Agreement.{Agree, no_value, values}
use Rattle.series.specs.Segments.{first_present}
use Rattle.series.proofs.Gaps.{first_each}
use Rattle.series.proofs.Firsts.{first_same}
use Rattle.filter.specs.declared.Setting.{Setting}
use Rattle.filter.specs.declared.start.Start.{Start}
use Rattle.filter.specs.declared.start.Start.TheVariants.{Usual, Given}
use Rattle.filter.specs.declared.method.Method.{Method}
use Rattle.filter.specs.declared.method.Method.TheVariants.{LyneHollick, Chapman1991, ChapmanMaxwell, Boughton, Eckhardt, TularamIlahee, JakemanHornberger}
use Rattle.filter.specs.Methods.{method_of, weights, method_start, start, invalid_passes, above_flow, start_too_high, Usable}
use Rattle.filter.specs.Passes.{step, thousandths, later_day, first_pass, forward_pass, backward_pass, passes, first_start, filtered}
use Rattle.filter.specs.Distance.{limit_of, filter_limit}
use Rattle.filter.proofs.Table.{row, start_below, passes_range, Mean, passes_mean}

-- the limit's fixed point, in natural numbers: e is d - A and n is k + 1
fixed_point_lem : (A B C d e k : ℕ) → A + e ≡ d → k * (A + B + C) ≤ k * d → suc k * A + k * B + k * C + e ≤ suc k * d
fixed_point_lem A B C d e k h m = omega arith

cross_multiplied : (A B C d e k n : ℕ) → n * A + k * B + k * C + e ≤ n * d
    → (((n * d * A * (2 * e) + k * d * B * (2 * e)) * (2 * e) + k * d * C * (2 * e * (2 * e))) * 2 + 1 * (2 * e * (2 * e) * (2 * e) * d)) * (2 * e) ≤ n * d * (2 * e * (2 * e) * (2 * e) * d * 2)
cross_multiplied A B C d e k n h = omega (arith, mul-le-mul_left (16 * (e * e * e * d)) h)

module _ (w : Weights) (below : w.A < w.d) where
  abbrev e : ℕ
  e = w.d - w.A

  pub reads_limit : (n : ℕ) → Reads (limit_of w n) (n * w.d) (2 * e)
  unfolding limit_of
  reads_limit n =
      let q = reads_quotient (2 * e) (omega arith) (reads_whole (n * w.d)) in
      record { upper = q.upper; lower = q.lower ∙ omega arith }

  limit_grows : (k : ℕ) → AtMost (limit_of w k) (limit_of w (suc k))
  limit_grows k = at_most (reads_limit k) (reads_limit (suc k)) (omega arith)

  -- a step from errors within the limits of two passes stays within the later one's
  module _ (k : ℕ) (mean : Mean w k) where
    limit_holds : AtMost (step_error w (limit_of w (suc k)) (limit_of w k) (limit_of w k)) (limit_of w (suc k))
    limit_holds =
        at_most (reads_error w (omega arith) (reads_limit (suc k)) (reads_limit k) (reads_limit k)) (reads_limit (suc k))
        (cross_multiplied w.A w.B (w.C + w.E) w.d e k (suc k) (fixed_point_lem w.A w.B (w.C + w.E) w.d e k (omega arith) mean))

    close_step : {f u v : ℕ} {f̂ û v̂ : Fraction} → Close (limit_of w (suc k)) f f̂ → Close (limit_of w k) u û → Close (limit_of w k) v v̂
        → Close (limit_of w (suc k)) (step rounded w f u v) (step exact w f̂ û v̂)
    unfolding step
    close_step hf hu hv =
        close_least (close_weaken (limit_grows k) hu) (close_weaken limit_holds (close_weighted w (omega arith) hf hu hv))

data Same : ℕ → ℕ → ℕ → Type 0 where
  same : {y : ℕ} → Same y y y

each_same : (flows : List ℕ) → Each Same flows flows flows
each_same [] = done
each_same (y ∷ ys) = then same (each_same ys)

-- one segment, from any start that lies at or below the flow and within the limit of pass 1
module _ {s : Setting} (u : Usable s) (first : ℕ → ℕ) (first̂ : ℕ → Fraction) (first_below : (y : ℕ) → first y ≤ 1000 * y) (first_close : (y : ℕ) → Close (filter_limit s 1) (first y) (first̂ y)) where
  abbrev w : Weights
  w = weights s

  below : w.A < w.d
  below = (row u).below

  -- on a day of flow y, after n passes
  abbrev After : ℕ → ℕ → ℕ → Fraction → Type 0
  After n y b f = (b ≤ 1000 * y) × Close (limit_of w n) b f

  first_day : {y u û : ℕ} → Same y u û → After 1 y (first u) (first̂ û)
  unfolding filter_limit
  first_day (same {y}) = (first_below y, first_close y)

  later_day_lem : {x y v u v̂ û : ℕ} (f : ℕ) (f̂ : Fraction) → After 1 x f f̂ → Same x v v̂ → Same y u û → After 1 y (later_day rounded s f u v) (later_day exact s f̂ û v̂)
  unfolding step thousandths
  later_day_lem f f̂ o (same {y = x}) (same {y}) =
      (min-le_left (1000 * y) _, close_step w below 0 (omega arith) o.1 (close_exact (1000 * y) (reads_limit w below 0)) (close_exact (1000 * x) (reads_limit w below 0)))

  after_first : (flows : List ℕ) → Each (After 1) flows (first_pass rounded s first flows) (first_pass exact s first̂ flows)
  unfolding first_pass
  after_first flows =
      together Same (After 1) first first̂ (later_day rounded s) (later_day exact s) (λ y u û i. first_day i) (λ x y f f̂ v u v̂ û o i j. later_day_lem f f̂ o i j) (each_same flows)

  -- passes 2 and 3 take pass k's limit to pass k + 1's
  after_forward : (k : ℕ) → Mean w k → {flows us : List ℕ} {ûs : List Fraction} → Each (After k) flows us ûs → Each (After (suc k)) flows (forward_pass rounded s us) (forward_pass exact s ûs)
  unfolding forward_pass step
  after_forward k m e =
      together (After k) (After (suc k)) (λ u. u) (λ u. u) (step rounded w) (step exact w)
      (λ y u û i. (i.0, close_weaken (limit_grows w below k) i.1))
      (λ x y f f̂ v u v̂ û o i j. (le_trans (min-le_left u _) j.0, close_step w below k m o.1 j.1 i.1)) e

  after_backward : (k : ℕ) → Mean w k → {flows us : List ℕ} {ûs : List Fraction} → Each (After k) flows us ûs → Each (After (suc k)) flows (backward_pass rounded s us) (backward_pass exact s ûs)
  unfolding backward_pass
  after_backward k m {flows} {us} {ûs} e =
      subst (λ ys. Each (After (suc k)) ys (backward_pass rounded s us) (backward_pass exact s ûs)) (reverse-reverse flows) (each_reverse (after_forward k m (each_reverse e)))

  after_passes : (n : ℕ) → 1 ≤ n → n ≤ 3 → Mean w (n - 1) → (flows : List ℕ) → Each (After n) flows (passes rounded s first n flows) (passes exact s first̂ n flows)
  unfolding passes
  after_passes zero h k m flows = absurd (omega arith)
  after_passes (suc zero) h k m flows = after_first flows
  after_passes (suc (suc zero)) h k m flows = after_backward 1 m (after_first flows)
  after_passes (suc (suc (suc zero))) h k m flows = after_forward 2 m (after_backward 1 (omega arith) (after_first flows))
  after_passes (suc (suc (suc (suc n)))) h k m flows = absurd (omega arith)

  -- a relation that follows holds of the days, seen as present
  pub segment_each : (n : ℕ) → invalid_passes s n ≡ false → {R : Option ℕ → Option ℕ → Option Fraction → Type 0} → ((y b : ℕ) (f : Fraction) → b ≤ 1000 * y → Close (filter_limit s n) b f → R (some y) (some b) (some f))
      → (flows : List ℕ) → Each R (map some flows) (map some (passes rounded s first n flows)) (map some (passes exact s first̂ n flows))
  unfolding filter_limit
  segment_each n v {R} r flows = let p = passes_range s n v in present (after_passes n p.0 p.1 (passes_mean u n v) flows)
    where
      present : {ys us : List ℕ} {ûs : List Fraction} → Each (After n) ys us ûs → Each R (map some ys) (map some us) (map some ûs)
      present done = done
      present (then {a = y} {b} {c = f} a d) = then (r y b f a.0 a.1) (present d)

-- of a start a segment sees its value on the first day alone
pub same_passes : (S : Arithmetic) (s : Setting) (first first' : ℕ → S.Number) (n y : ℕ) (flows : List ℕ) → first y ≡ first' y → passes S s first n (y ∷ flows) ≡ passes S s first' n (y ∷ flows)
unfolding passes first_pass
same_passes S s first first' n y flows e = by_passes n
  where
    one : first_pass S s first (y ∷ flows) ≡ first_pass S s first' (y ∷ flows)
    one = recursive_first (later_day S s) first y flows ∙ ap (λ f. f ∷ onward (later_day S s) f y flows) e ∙ sym (recursive_first (later_day S s) first' y flows)

    by_passes : (n : ℕ) → passes S s first n (y ∷ flows) ≡ passes S s first' n (y ∷ flows)
    by_passes zero = refl
    by_passes (suc zero) = one
    by_passes (suc (suc zero)) = ap (backward_pass S s) one
    by_passes (suc (suc (suc n))) = ap (λ us. forward_pass S s (backward_pass S s us)) one

lower : (value y : ℕ) → above_flow (some y) value ≡ false → value ≡ min value (1000 * y)
unfolding above_flow
lower value y e = omega (arith, ltb-false (1000 * y) value e)

module _ {s : Setting} (u : Usable s) where
  pub reads_filter_limit : (n : ℕ) → Reads (filter_limit s n) (n * (weights s).d) (2 * ((weights s).d - (weights s).A))
  unfolding filter_limit
  reads_filter_limit n = reads_limit (weights s) (row u).below n

  -- the usual start is rounded once
  method_start_close : (m : Method) (y : ℕ) → Close (filter_limit s 1) (method_start rounded m s y) (method_start exact m s y)
  unfolding method_start
  method_start_close LyneHollick y = close_exact (500 * y) (reads_filter_limit 1)
  method_start_close Chapman1991 y = close_exact (500 * y) (reads_filter_limit 1)
  method_start_close ChapmanMaxwell y = close_exact (500 * y) (reads_filter_limit 1)
  method_start_close Boughton y = close_exact (500 * y) (reads_filter_limit 1)
  method_start_close Eckhardt y = close_weaken (at_most reads_half (reads_filter_limit 1) (omega (arith, (row u).below))) (close_near (9 * s.q * y) 100)
  method_start_close TularamIlahee y = close_exact (500 * y) (reads_filter_limit 1)
  method_start_close JakemanHornberger y = close_exact (500 * y) (reads_filter_limit 1)

  start_close : (y : ℕ) → Close (filter_limit s 1) (start rounded s y) (start exact s y)
  unfolding start
  start_close y = method_start_close (method_of s.method) y

  -- on every list with gaps of any length, after each pass: what holds of a missing day, and of a present day's values by
  -- their distance
  pub filter_each : (n : ℕ) → invalid_passes s n ≡ false → (R : Option ℕ → Option ℕ → Option Fraction → Type 0) → R none none none
      → ((y b : ℕ) (f : Fraction) → b ≤ 1000 * y → Close (filter_limit s n) b f → R (some y) (some b) (some f))
      → (from : Start) (days : List (Option ℕ)) → start_too_high from days ≡ false → Each R days (filtered rounded s n from days) (filtered exact s n from days)
  unfolding filtered first_start start_too_high
  filter_each n v R gap r from days h = by_start from h
    where
      usual : (flows : List ℕ) → Each R (map some flows) (map some (passes rounded s (start rounded s) n flows)) (map some (passes exact s (start exact s) n flows))
      usual = segment_each u (start rounded s) (start exact s) (start_below u) start_close n v r

      by_start : (from : Start) → start_too_high from days ≡ false → Each R days (filtered rounded s n from days) (filtered exact s n from days)
      by_start Usual h = first_each R gap _ _ _ _ usual usual days
      -- on the first segment it lies at or below the flow
      by_start (Given value) h =
          let low : ℕ → ℕ = λ y. min value (1000 * y) in
          let same : (y : ℕ) → first_present days ≡ some y → value ≡ low y = λ y e. lower value y (ap (λ o. above_flow o value) (sym e) ∙ h) in
          rw (
            first_same _ (λ flows. map some (passes rounded s (λ y. value) n flows)) (λ flows. map some (passes rounded s low n flows)) days (λ y flows e. ap (map some) (same_passes rounded s (λ y. value) low n y flows (same y e))),
            first_same _ (λ flows. map some (passes exact s (λ y. exact.number value) n flows)) (λ flows. map some (passes exact s (λ y. exact.number (low y)) n flows)) days (λ y flows e. ap (map some) (same_passes exact s (λ y. exact.number value) (λ y. exact.number (low y)) n y flows (ap exact.number (same y e)))),
          )
          (first_each R gap _ _ _ _ (segment_each u low (λ y. exact.number (low y)) (λ y. min-le_right value (1000 * y)) (λ y. close_exact (low y) (reads_filter_limit 1)) n v r) usual days)

  pub filter_distance : (n : ℕ) → invalid_passes s n ≡ false → (from : Start) (days : List (Option ℕ)) → start_too_high from days ≡ false → Each (Agree (filter_limit s n)) days (filtered rounded s n from days) (filtered exact s n from days)
  filter_distance n v = filter_each n v (Agree (filter_limit s n)) no_value (λ y b f h c. values h c)
