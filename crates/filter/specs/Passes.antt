-- A filter's passes (document 01, "Filters"), in any arithmetic: over `rounded` the rounded run, over `exact` the
-- exact run.
use Prim.Native.Nat.{ℕ, zero, suc, ◌*◌}
use mathlib.Core.List.{List, map, reverse}
use Rattle.std.proofs.Math.Option.{Option, some}
use Rattle.numbers.specs.Arithmetic.{Arithmetic, Weights, weighted}
use Rattle.numbers.specs.Scan.{recursive}
use Rattle.series.specs.Segments.{over_first}
use Rattle.filter.specs.declared.Setting.{Setting}
use Rattle.filter.specs.declared.start.Start.{Start}
use Rattle.filter.specs.declared.start.Start.TheVariants.{Usual, Given}
use Rattle.filter.specs.Methods.{weights, start}

-- f(t) = min(u(t), near((A × f(t-1) + B × u(t) + C × u(t-1)) / d)), with f for f(t-1), u for u(t) and v for u(t-1)
unfoldable pub step : (S : Arithmetic) → Weights → S.Number → S.Number → S.Number → S.Number
step S w f u v = S.least u (weighted S w f u v)

-- a day's flow y in thousandths: u of pass 1
unfoldable pub thousandths : (S : Arithmetic) → ℕ → S.Number
thousandths S y = S.number (1000 * y)

module _ (S : Arithmetic) (s : Setting) where
  -- f of pass 1 on a later day of flow y after one of flow x
  abbrev pub later_day : S.Number → ℕ → ℕ → S.Number
  later_day f y x = step S (weights s) f (thousandths S y) (thousandths S x)

  -- pass 1 over the flows of a segment, from a start
  unfoldable pub first_pass : (first : ℕ → S.Number) → List ℕ → List S.Number
  first_pass first = recursive first later_day

  -- passes 2 and 3 over the output before them: they start with f = u
  unfoldable pub forward_pass : List S.Number → List S.Number
  forward_pass = recursive (λ u. u) (step S (weights s))

  -- going backward, the following day stands where t-1 stands above
  unfoldable pub backward_pass : List S.Number → List S.Number
  unfolding forward_pass
  backward_pass us = reverse (forward_pass (reverse us))

  -- a segment after n passes, of which 1, 2 and 3 are accepted: the second goes backward, and each takes what the one before
  -- it gave
  unfoldable pub passes : (first : ℕ → S.Number) → ℕ → List ℕ → List S.Number
  unfolding first_pass forward_pass backward_pass
  passes first zero flows = map (thousandths S) flows
  passes first (suc zero) flows = first_pass first flows
  passes first (suc (suc zero)) flows = backward_pass (first_pass first flows)
  passes first (suc (suc (suc n))) flows = forward_pass (backward_pass (first_pass first flows))

  -- the start of pass 1 in the first segment, on a day of flow y: the usual one, or the one that is given
  unfoldable pub first_start : Start → (y : ℕ) → S.Number
  first_start Usual = start S s
  first_start (Given value) = λ y. S.number value

  -- each segment is filtered alone, the first from the start of the call, every other from the usual one; missing days get no
  -- value
  unfoldable pub filtered : (n : ℕ) → Start → List (Option ℕ) → List (Option S.Number)
  unfolding passes first_start
  filtered n from days = over_first (λ flows. map some (passes (first_start from) n flows)) (λ flows. map some (passes (start S s) n flows)) days
