-- The methods by their numbers, a setting's checks as the code makes them, and the rounding step.
-- Assumes nothing.
use Prim.Native.Nat.{ℕ, ◌+◌, ◌*◌, ◌-◌, ◌/◌, ◌≤◌, min}
use mathlib.Core.Path.{◌≡◌, refl, sym, ◌∙◌, ap, subst}
use mathlib.Core.Bool.{Bool, true, false, cond, not, ◌&&◌, ◌||◌}
use mathlib.Core.List.{List, [], ◌∷◌}
use mathlib.Core.Logic.{◌↔◌}
use mathlib.Core.Option.{none, some}
use native.Mathlib.Nat.{min-le_left, mul-le-mul}
use native.Mathlib.Omega.{arith}
use lib.Dec.{leb, ltb, eqb}
use lib.IntN.{ℤ, pos, negsuc, nat_abs, ◌*ℤ◌}
use borrow.Author.Tests.{le-leb, ne_eqb}
use Rattle.std.specs.Prelude.{Result, Ok, Err}
use Rattle.std.proofs.Math.Bool.{and-true}
use Rattle.std.proofs.lemmas.Bool.Decides.{nat_tests}
use Rattle.series.specs.Units.{within}
use Rattle.series.specs.Causes.{Cause, cause, first_cause, refusal_number}
use Rattle.series.specs.declared.Refusal.{Refusal}
use Rattle.series.specs.declared.Refusal.TheVariants.{UnknownMethod, ParameterOutOfRange}
use Rattle.numbers.specs.Whole.{up, down}
use Rattle.numbers.specs.Arithmetic.{rounded, Weights}
use Rattle.numbers.specs.Near.{near}
use Rattle.numbers.proofs.Whole.{up_of_multiple, down_of_multiple}
use Rattle.numbers.proofs.Quantities.{weighted_rounded}
use Rattle.filter.specs.declared.Setting.{Setting}
use Rattle.filter.specs.declared.method.Method.{Method}
use Rattle.filter.specs.declared.method.Method.TheVariants.{LyneHollick, Chapman1991, ChapmanMaxwell, Boughton, Eckhardt, TularamIlahee, JakemanHornberger}
use Rattle.filter.specs.declared.method.Share.{Share}
use Rattle.filter.specs.declared.method.Share.TheVariants.{Raises, Lowers}
use Rattle.filter.specs.declared.usable.Filter.{Filter}
use Rattle.filter.specs.Methods.{method_of, method_weights, weights, method_range, method_span, spans, in_range, method_start, start, unknown_method, out_of_range, invalid_passes, Usable}
use Rattle.filter.specs.Passes.{step}
use Rattle.filter.specs.Private.{numbered, RowLimits, share, raised, lowered, weights_of, Small, dividend}
use Rattle.filter.proofs.Table.{Moderate, row, row_limits}

-- s and its size, against n
pub size_spans : (s : ℤ) (n : ℕ) → leb (nat_abs s) n ≡ spans n s
unfolding spans
size_spans (pos k) n = sym (rw (le-leb 0 n (omega arith)) (and-true (leb k n)))
size_spans (negsuc k) n = sym (rw (le-leb 0 n (omega arith)) refl)

-- the C of method 7
pub share_weights : (s : ℤ) (q : ℕ) → (raised (share s q) ≡ up (s *ℤ pos q)) × (lowered (share s q) ≡ down (s *ℤ pos q))
unfolding share
share_weights (pos n) q = (sym (up_of_multiple (pos n) q), omega (arith, down_of_multiple (pos n) q))
share_weights (negsuc n) q = (omega (arith, up_of_multiple (negsuc n) q), sym (down_of_multiple (negsuc n) q))

pub signed_row : (s : Setting) {m : Method} {p q : ℕ} {c : Share} → m ≡ JakemanHornberger → p ≡ s.p → q ≡ s.q → c ≡ share s.s q → weights_of (record { a = 10000 * p; b = 10000 * q; c = c; d = 10000 * (10000 + q) }) ≡ method_weights m s
unfolding method_weights
signed_row s e f g h = let w = share_weights s.s s.q in rw (e, h, f, g, w.0, w.1) refl

-- what a number is read as
by_range : (n : ℕ) (b : Bool) → within 1 7 n ≡ b → numbered n ≡ cond b (Ok (method_of n)) (Err UnknownMethod)
unfolding numbered
by_range n b e = rw e refl

pub unnamed : (n : ℕ) {r : Refusal} → Err r ≡ numbered n → (within 1 7 n ≡ false) × (r ≡ UnknownMethod)
unnamed n {r} e = by_test (within 1 7 n) refl
  where
    by_test : (b : Bool) → within 1 7 n ≡ b → (within 1 7 n ≡ false) × (r ≡ UnknownMethod)
    by_test true h = let k = e ∙ by_range n true h in (cc, cc)
    by_test false h = let k = e ∙ by_range n false h in (h, cc)

pub named : (n : ℕ) {m : Method} → Ok m ≡ numbered n → (within 1 7 n ≡ true) × (m ≡ method_of n)
named n {m} e = by_test (within 1 7 n) refl
  where
    by_test : (b : Bool) → within 1 7 n ≡ b → (within 1 7 n ≡ true) × (m ≡ method_of n)
    by_test true h = let k = e ∙ by_range n true h in (h, cc)
    by_test false h = let k = e ∙ by_range n false h in (cc, cc)

-- the checks of a setting, in their order
abbrev causes : Setting → List Cause
causes s = cause (unknown_method s) 11 ∷ cause (out_of_range s) 12 ∷ []

pub no_method : (s : Setting) {r : Refusal} → Err r ≡ numbered s.method → some (refusal_number r) ≡ first_cause (causes s)
unfolding unknown_method
no_method s e = let u = unnamed s.method e in rw (u.0, u.1) refl

module _ (s : Setting) {m : Method} (e : Ok m ≡ numbered s.method) {t : Bool} (f : t ≡ (method_range m s && spans (method_span m) s.s)) where
  tested : not t ≡ out_of_range s
  unfolding out_of_range in_range
  tested = ap not (f ∙ ap (λ k. method_range k s && spans (method_span k) s.s) (named s.method e).1)

  known : unknown_method s ≡ false
  unfolding unknown_method
  known = ap not (named s.method e).0

  module _ {v : Result Unit Refusal} (ok : (v ≡ Ok tt) ↔ (not t ≡ false)) (err : (v ≡ Err ParameterOutOfRange) ↔ (not t ≡ true)) where
    pub outside : {r : Refusal} → v ≡ Err r → some (refusal_number r) ≡ first_cause (causes s)
    outside {r} h = by_test (not t) refl
      where
        by_test : (b : Bool) → not t ≡ b → some (refusal_number r) ≡ first_cause (causes s)
        by_test true k = let o : out_of_range s ≡ true = sym tested ∙ k in let same : r ≡ ParameterOutOfRange = (let w = err.1 k in cc) in rw (known, o, same) refl
        by_test false k = let w = ok.1 k in cc

    pub inside : v ≡ Ok tt → Usable s
    inside h = record { known = known; in_range = sym tested ∙ ok.0 h }

pub neither : (s : Setting) → Usable s → none ≡ first_cause (causes s)
neither s u = rw (u.known, u.in_range) refl

pub method_row : {s : Setting} {m : Method} → m ≡ method_of s.method → Usable s → RowLimits m s
method_row {s} e u = subst (λ k. RowLimits k s) (sym e) (row_limits u)

pub row_weights : (s : Setting) {m : Method} {w : Weights} → m ≡ method_of s.method → w ≡ method_weights m s → w ≡ weights s
unfolding weights
row_weights s e h = h ∙ ap (λ k. method_weights k s) e

-- 13, in method 1 and in all others
number_1 : (n : ℕ) → method_of n ≡ LyneHollick → eqb n 1 ≡ true
unfolding method_of
number_1 n e = by_test (eqb n 1) refl
  where
    other : (a b c d f : Bool) → cond a Chapman1991 (cond b ChapmanMaxwell (cond c Boughton (cond d Eckhardt (cond f JakemanHornberger TularamIlahee)))) ≡ LyneHollick → ⊥
    other true b c d f e = cc
    other false true c d f e = cc
    other false false true d f e = cc
    other false false false true f e = cc
    other false false false false true e = cc
    other false false false false false e = cc

    by_test : (b : Bool) → eqb n 1 ≡ b → eqb n 1 ≡ true
    by_test true h = h
    by_test false h = absurd (other (eqb n 2) (eqb n 3) (eqb n 4) (eqb n 5) (eqb n 7) (rw h at e))

over_1 : (n : ℕ) → not (eqb n 1) ≡ (not (leb 1 n && leb n 3) || (ltb 1 n && true))
over_1 n = grind (arith, nat_tests)

module _ (s : Setting) {m : Method} (e : m ≡ method_of s.method) (n : ℕ) where
  pub passes_of_1 : m ≡ LyneHollick → not (within 1 3 n) ≡ invalid_passes s n
  unfolding invalid_passes
  passes_of_1 h = rw (number_1 s.method (sym e ∙ h)) (by_test (not (within 1 3 n)) (ltb 1 n))
    where
      by_test : (a b : Bool) → a ≡ (a || (b && false))
      by_test true b = refl
      by_test false true = refl
      by_test false false = refl

  pub passes_of_others : (m ≡ LyneHollick → ⊥) → not (eqb n 1) ≡ invalid_passes s n
  unfolding invalid_passes method_of within
  passes_of_others h = rw (ne_eqb s.method 1 (λ k. h (e ∙ ap method_of k))) (over_1 n)

-- the usual start, in method 5 and in all others
module _ (s : Setting) {m : Method} (e : m ≡ method_of s.method) (y : ℕ) where
  pub start_eckhardt : m ≡ Eckhardt → near (9 * s.q * y) 100 ≡ start rounded s y
  unfolding start method_start
  start_eckhardt h = ap (λ k. method_start rounded k s y) (sym h ∙ e)

  pub start_other : (m ≡ Eckhardt → ⊥) → 500 * y ≡ start rounded s y
  unfolding start method_start
  start_other h = by_method m h ∙ ap (λ k. method_start rounded k s y) e
    where
      by_method : (k : Method) → (k ≡ Eckhardt → ⊥) → 500 * y ≡ method_start rounded k s y
      by_method LyneHollick h = refl
      by_method Chapman1991 h = refl
      by_method ChapmanMaxwell h = refl
      by_method Boughton h = refl
      by_method Eckhardt h = absurd (h refl)
      by_method TularamIlahee h = refl
      by_method JakemanHornberger h = refl

-- the weights that the code carries, each times its value
module _ (k : Filter) where
  pub moderate : Moderate (weights_of k.row)
  moderate = subst Moderate (sym k.row_is) (row k.usable).moderate

  pub a_small : (f : ℕ) → Small f → k.row.a * f ≤ 1000000000000000000
  a_small f h = mul-le-mul moderate.a h

  pub b_small : (u : ℕ) → Small u → k.row.b * u ≤ 1000000000000000000
  b_small u h = mul-le-mul moderate.b h

  pub d_small : k.row.d ≤ 200000000
  d_small = moderate.d

  pub raises_small : {c : ℕ} (v : ℕ) → k.row.c ≡ Raises c → Small v → c * v ≤ 1000000000000000000
  raises_small {c} v e h = let l : c ≤ 100000000 = rw e at moderate.c in mul-le-mul l h

  pub lowers_small : {c : ℕ} (v : ℕ) → k.row.c ≡ Lowers c → Small v → c * v ≤ 1000000000000000000
  lowers_small {c} v e h = let l : c ≤ 100000000 = rw e at moderate.e in mul-le-mul l h

pub ruleset small_products = (a_small, b_small, d_small)

-- the rounded mean, held to u
pub smoothed_is : (w : Weights) (f u v : ℕ) {d n h : ℕ} → d ≡ w.d → ((a loss : ℕ) → h ≡ a + d / 2 - loss → n ≡ near (a - loss) d) → h ≡ dividend w f u v → min u n ≡ step rounded w f u v
unfolding step
smoothed_is w f u v e near_of sum =
    ap (min u)
    (near_of (w.A * f + w.B * u + w.C * v) (w.E * v) (rw e sum) ∙ ap (near (w.A * f + w.B * u + w.C * v - w.E * v)) e ∙ sym (weighted_rounded w f u v))

pub step_below : (w : Weights) (f u v : ℕ) → step rounded w f u v ≤ u
unfolding step
step_below w f u v = min-le_left u _
