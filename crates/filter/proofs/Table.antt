-- What the ranges of document 01's table make of its coefficients, shown once for each row.
-- Assumes nothing.
use Prim.Native.Nat.{ℕ, ◌+◌, ◌*◌, ◌-◌, ◌≤◌, ◌<◌}
use mathlib.Core.Path.{◌≡◌, refl, sym, ap, ap₂, subst}
use mathlib.Core.Bool.{true, false, not, ◌&&◌}
use mathlib.Core.Logic.{by_cases}
use native.Mathlib.Decide.{dec_le}
use native.Mathlib.Nat.{mul-le-mul, mul-le-mul_left, mul-le-mul_right, lt_of_not-le, sub-add_cancel}
use native.Mathlib.Omega.{arith}
use borrow.Author.Tests.{eqb-true, leb-true, lt-ltb, not-false}
use lib.Dec.{ltb, eqb}
use Rattle.series.specs.Units.{within}
use Rattle.series.proofs.Views.{neither_of, both_of, lies, not_outside}
use Rattle.numbers.specs.Whole.{up, down}
use Rattle.numbers.specs.Arithmetic.{Weights, rounded}
use Rattle.numbers.proofs.Whole.{up_of_multiple, down_of_multiple}
use Rattle.numbers.proofs.Rounding.{near_at_most}
use Rattle.filter.specs.declared.Setting.{Setting}
use Rattle.filter.specs.declared.method.Method.{Method}
use Rattle.filter.specs.declared.method.Method.TheVariants.{LyneHollick, Chapman1991, ChapmanMaxwell, Boughton, Eckhardt, TularamIlahee, JakemanHornberger}
use Rattle.filter.specs.Methods.{method_of, method_weights, weights, method_range, method_span, spans, in_range, method_start, start, out_of_range, invalid_passes, Usable}
use Rattle.filter.specs.Private.{RowLimits}

-- the ranges of a row as inequalities
abbrev pub MethodLimits : Method → Setting → Type 0
MethodLimits LyneHollick s = (1 ≤ s.p) × (s.p ≤ 9999) × (s.q ≡ 0)
MethodLimits Chapman1991 s = (3334 ≤ s.p) × (s.p ≤ 9999) × (s.q ≡ 0)
MethodLimits ChapmanMaxwell s = (1 ≤ s.p) × (s.p ≤ 9999) × (s.q ≡ 0)
MethodLimits Boughton s = (1 ≤ s.p) × (s.p ≤ 9999) × (1 ≤ s.q) × (s.q ≤ 10000)
MethodLimits Eckhardt s = (1 ≤ s.p) × (s.p ≤ 9999) × (1 ≤ s.q) × (s.q ≤ 9999)
MethodLimits TularamIlahee s = (1 ≤ s.p) × (s.p ≤ 9999) × (s.q ≡ 0)
MethodLimits JakemanHornberger s = (1 ≤ s.p) × (s.p ≤ 9999) × (1 ≤ s.q) × (s.q ≤ 10000) × (up s.s ≤ 9999) × (down s.s ≤ 9999)

abbrev pub Limits : Setting → Type 0
Limits s = MethodLimits (method_of s.method) s

one_parameter : (low p q : ℕ) → (within low 9999 p && eqb q 0) ≡ true → (low ≤ p) × (p ≤ 9999) × (q ≡ 0)
one_parameter low p q e = let h = both_of _ _ e in let l = lies low 9999 p h.0 in (l.0, l.1, eqb-true q 0 h.1)

two_parameters : (high p q : ℕ) → (within 1 9999 p && within 1 high q) ≡ true → (1 ≤ p) × (p ≤ 9999) × (1 ≤ q) × (q ≤ high)
two_parameters high p q e =
    let h = both_of _ _ e in
    let l = lies 1 9999 p h.0 in
    let m = lies 1 high q h.1 in
    (l.0, l.1, m.0, m.1)

method_limits : (m : Method) (s : Setting) → method_range m s ≡ true → spans (method_span m) s.s ≡ true → MethodLimits m s
unfolding method_range method_span spans
method_limits LyneHollick s e f = one_parameter 1 s.p s.q e
method_limits Chapman1991 s e f = one_parameter 3334 s.p s.q e
method_limits ChapmanMaxwell s e f = one_parameter 1 s.p s.q e
method_limits Boughton s e f = two_parameters 10000 s.p s.q e
method_limits Eckhardt s e f = two_parameters 9999 s.p s.q e
method_limits TularamIlahee s e f = one_parameter 1 s.p s.q e
method_limits JakemanHornberger s e f =
    let l = two_parameters 10000 s.p s.q e in
    let h = both_of _ _ f in
    (l.0, l.1, l.2, l.3, leb-true (up s.s) 9999 h.0, leb-true (down s.s) 9999 h.1)

pub limits : {s : Setting} → Usable s → Limits s
unfolding out_of_range in_range
limits {s} u = let h = both_of _ _ (not-false _ u.in_range) in method_limits (method_of s.method) s h.0 h.1

-- what the code's row asks of its setting
method_asks : (m : Method) (s : Setting) → MethodLimits m s → RowLimits m s
method_asks LyneHollick s l = record { p_low = l.0; p_high = l.1; q_high = omega arith; chapman = λ e. cc }
method_asks Chapman1991 s l = record { p_low = omega arith; p_high = l.1; q_high = omega arith; chapman = λ e. l.0 }
method_asks ChapmanMaxwell s l = record { p_low = l.0; p_high = l.1; q_high = omega arith; chapman = λ e. cc }
method_asks Boughton s l = record { p_low = l.0; p_high = l.1; q_high = l.3; chapman = λ e. cc }
method_asks Eckhardt s l = record { p_low = l.0; p_high = l.1; q_high = omega arith; chapman = λ e. cc }
method_asks TularamIlahee s l = record { p_low = l.0; p_high = l.1; q_high = omega arith; chapman = λ e. cc }
method_asks JakemanHornberger s l = record { p_low = l.0; p_high = l.1; q_high = l.3; chapman = λ e. cc }

pub row_limits : {s : Setting} → Usable s → RowLimits (method_of s.method) s
row_limits {s} u = method_asks (method_of s.method) s (limits u)

-- p from 1 to 9999, whatever the row
pub p_range : {s : Setting} → Usable s → (1 ≤ s.p) × (s.p ≤ 9999)
p_range u = let l = row_limits u in (l.p_low, l.p_high)

-- none above 10^8, a d of at most twice that, and one to divide by
pub record Moderate (w : Weights) : Type 0 where
  pub a : w.A ≤ 100000000
  pub b : w.B ≤ 100000000
  pub c : w.C ≤ 100000000
  pub e : w.E ≤ 100000000
  pub d : w.d ≤ 200000000
  pub above : 0 < w.d

-- what every proof uses of a row
pub record Row (w : Weights) : Type 0 where
  pub below : w.A < w.d
  pub moderate : Moderate w

-- p (10000 - q) and (10000 - p) q with a = 10000 - p and b = 10000 - q
products : (p q a b : ℕ) → p + a ≡ 10000 → q + b ≡ 10000 → 1 ≤ a → (p * b + p * q < 100000000) × (p * b ≤ 100000000) × (a * q ≤ 100000000)
products p q a b e f h =
    let whole : (p + a) * (q + b) ≡ 100000000 = ap₂ ◌*◌ e f in
    let part : a * (q + b) ≡ a * 10000 = ap (λ n. a * n) f in
    omega arith

pub eckhardt_products : (s : Setting) → MethodLimits Eckhardt s
    → (s.p * (10000 - s.q) + s.p * s.q < 100000000) × (s.p * (10000 - s.q) ≤ 100000000) × ((10000 - s.p) * s.q ≤ 100000000)
eckhardt_products s l = products s.p s.q (10000 - s.p) (10000 - s.q) (omega arith) (omega arith) (omega arith)

method_row : (m : Method) (s : Setting) → MethodLimits m s → Row (method_weights m s)
unfolding method_weights
method_row LyneHollick s l = record { below = omega arith; moderate = omega arith }
method_row Chapman1991 s l = record { below = omega arith; moderate = omega arith }
method_row ChapmanMaxwell s l = record { below = omega arith; moderate = omega arith }
method_row Boughton s l = record { below = omega arith; moderate = omega arith }
method_row Eckhardt s l = let h = eckhardt_products s l in record { below = omega arith; moderate = omega arith }
method_row TularamIlahee s l = record { below = omega arith; moderate = omega arith }
method_row JakemanHornberger s l =
    let c = mul-le-mul l.4 l.3 in
    let e = mul-le-mul l.5 l.3 in
    record { below = omega arith; moderate = record { a = omega arith; b = omega arith; c = omega (arith, up_of_multiple s.s s.q); e = omega (arith, down_of_multiple s.s s.q); d = omega arith; above = omega arith } }

-- a usable setting's row, by its method
pub row : {s : Setting} → Usable s → Row (weights s)
unfolding weights
row {s} u = method_row (method_of s.method) s (limits u)

-- The rows without a difference: what the table takes away stands on the other side. So none of its differences is cut
-- off at zero.
abbrev pub Uncut : Method → (p q : ℕ) → Weights → Type 0
Uncut LyneHollick p q w = (w.A ≡ 2 * p) × (w.B + p ≡ 10000) × (w.C + p ≡ 10000) × (w.d ≡ 20000)
Uncut Chapman1991 p q w = (w.A + 10000 ≡ 3 * p) × (w.B + p ≡ 10000) × (w.C + p ≡ 10000) × (w.d + p ≡ 30000)
Uncut ChapmanMaxwell p q w = (w.A ≡ p) × (w.B + p ≡ 10000) × (w.C ≡ 0) × (w.d + p ≡ 20000)
Uncut Boughton p q w = (w.A ≡ p) × (w.B ≡ q) × (w.C ≡ 0) × (w.d ≡ 10000 + q)
Uncut Eckhardt p q w = (w.A + p * q ≡ 10000 * p) × (w.B + p * q ≡ 10000 * q) × (w.C ≡ 0) × (w.d + p * q ≡ 100000000)
Uncut TularamIlahee p q w = (w.A ≡ p) × (w.B + p ≡ 10000) × (w.C ≡ 0) × (w.d ≡ 10000)
Uncut JakemanHornberger p q w = (w.A ≡ 10000 * p) × (w.B ≡ 10000 * q) × (w.d ≡ 10000 * (10000 + q))

-- n times a difference
times_difference : (n p : ℕ) → p ≤ 10000 → n * (10000 - p) + n * p ≡ 10000 * n
times_difference n p h =
    let whole : n * ((10000 - p) + p) ≡ n * 10000 = ap (λ k. n * k) (sub-add_cancel h) in
    omega arith

method_uncut : (m : Method) (s : Setting) → MethodLimits m s → Uncut m s.p s.q (method_weights m s)
unfolding method_weights
method_uncut LyneHollick s l = omega arith
method_uncut Chapman1991 s l = omega arith
method_uncut ChapmanMaxwell s l = omega arith
method_uncut Boughton s l = omega arith
method_uncut Eckhardt s l =
    let h = eckhardt_products s l in
    (times_difference s.p s.q (omega arith), omega (arith, times_difference s.q s.p (omega arith)), refl, omega arith)
method_uncut TularamIlahee s l = omega arith
method_uncut JakemanHornberger s l = (refl, refl, refl)

pub no_difference_cut_off : {s : Setting} → Usable s → Uncut (method_of s.method) s.p s.q (weights s)
unfolding weights
no_difference_cut_off {s} u = method_uncut (method_of s.method) s (limits u)

-- the usual start lies at or below the flow
method_start_below : (m : Method) (s : Setting) (y : ℕ) → MethodLimits m s → method_start rounded m s y ≤ 1000 * y
unfolding method_start
method_start_below LyneHollick s y l = omega arith
method_start_below Chapman1991 s y l = omega arith
method_start_below ChapmanMaxwell s y l = omega arith
method_start_below Boughton s y l = omega arith
method_start_below Eckhardt s y l = near_at_most (omega arith) (omega (arith, mul-le-mul_right y l.3))
method_start_below TularamIlahee s y l = omega arith
method_start_below JakemanHornberger s y l = omega arith

pub start_below : {s : Setting} → Usable s → (y : ℕ) → start rounded s y ≤ 1000 * y
unfolding start
start_below {s} u y = method_start_below (method_of s.method) s y (limits u)

-- the numbers of passes that a setting may have
pub passes_range : (s : Setting) (n : ℕ) → invalid_passes s n ≡ false → (1 ≤ n) × (n ≤ 3)
unfolding invalid_passes
passes_range s n e = not_outside 1 3 n (neither_of _ _ e).0

pub two_passes : (s : Setting) → invalid_passes s 3 ≡ false → invalid_passes s 2 ≡ false
unfolding invalid_passes
two_passes s v = v

-- A step of pass k + 1 is a mean over A, B and C of either sign. Pass 1 needs none of it: there k is 0.
abbrev pub Mean : Weights → (k : ℕ) → Type 0
Mean w k = k * (w.A + w.B + (w.C + w.E)) ≤ k * w.d

abbrev Shares : Weights → Type 0
Shares w = w.A + w.B + (w.C + w.E) ≤ w.d

mean_1 : {s : Setting} → Usable s → s.method ≡ 1 → Shares (weights s)
unfolding weights method_of
mean_1 {s} u e = subst (λ m. MethodLimits m s → Shares (method_weights m s)) (sym (ap method_of e)) (λ l. omega arith) (limits u)

-- passes over 1 are method 1's
pub passes_mean : {s : Setting} → Usable s → (n : ℕ) → invalid_passes s n ≡ false → Mean (weights s) (n - 1)
unfolding invalid_passes
passes_mean {s} u n e =
    by_cases (dec_le n 1)
    (λ h. let z : n - 1 ≡ 0 = omega arith in rw z (omega arith))
    (λ h. let over : ltb 1 n ≡ true = lt-ltb 1 n (lt_of_not-le h) in
    let one : eqb s.method 1 ≡ true = not-false _ (rw over at (neither_of (not (within 1 3 n)) (ltb 1 n && not (eqb s.method 1)) e).1) in
    mul-le-mul_left (n - 1) (mean_1 u (eqb-true s.method 1 one)))
