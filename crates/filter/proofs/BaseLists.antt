-- The base list in memory after each pass of an accepted call: it holds that pass's values.
-- Assumes nothing.
use Prim.Native.Nat.{ℕ, zero, suc}
use mathlib.Core.Path.{◌≡◌, ◌∙◌, ap}
use mathlib.Core.Bool.{false}
use mathlib.Core.List.{List, map, reverse}
use mathlib.Core.Option.{Option, none, some}
use mathlib.Core.Logic.{inl, inr}
use native.Mathlib.Omega.{arith}
use Rattle.numbers.specs.Fraction.{Fraction}
use Rattle.numbers.specs.Arithmetic.{rounded}
use Rattle.numbers.specs.Lists.{Each, done, then}
use Rattle.numbers.proofs.Recursion.{recursive_none}
use Rattle.series.specs.Agreement.{Agree, no_value, values}
use Rattle.filter.specs.Distance.{filter_limit}
use Rattle.series.specs.Units.{day_of, base_mark}
use Rattle.series.specs.Lists.{any_invalid_day}
use Rattle.series.proofs.Views.{Valid, valid_days, mark_none, mark_value}
use Rattle.series.proofs.Agreeing.{Shown, shown}
use Rattle.series.proofs.Gaps.{first_then}
use Rattle.filter.specs.declared.Setting.{Setting}
use Rattle.filter.specs.declared.start.Start.{Start}
use Rattle.filter.specs.Methods.{weights, start, invalid_passes, start_too_high, Usable}
use Rattle.filter.specs.Passes.{step, first_pass, forward_pass, backward_pass, first_start, filtered}
use Rattle.filter.specs.Call.{filtered_list}
use Rattle.filter.specs.Private.{SmallList, forward_run, backward_run}
use Rattle.filter.proofs.Table.{two_passes, passes_range}
use Rattle.filter.proofs.Calls.{one_pass}
use Rattle.filter.proofs.Distance.{filter_distance}
use Rattle.filter.proofs.GapRuns.{forward_run_lem, backward_run_lem}

module _ {s : Setting} (u : Usable s) (from : Start) (days : List ℕ) (valid : any_invalid_day days ≡ false) (low : start_too_high from (map day_of days) ≡ false) where
  after : (n : ℕ) → invalid_passes s n ≡ false → Shown (filtered rounded s n from (map day_of days))
  after n v = shown (filter_distance u n v from (map day_of days) low) (valid_days days valid)

  second : backward_run (weights s) (filtered_list s 1 from days) ≡ filtered_list s 2 from days
  unfolding filtered_list filtered backward_pass forward_pass
  second =
      backward_run_lem (weights s) (filtered rounded s 1 from (map day_of days)) (after 1 (one_pass s))
      ∙ ap (map base_mark) (first_then (first_pass rounded s (first_start rounded s from)) (first_pass rounded s (start rounded s)) (λ us. map some (backward_pass rounded s us)) (ap (λ us. map some (reverse us)) (recursive_none (step rounded (weights s)) (λ u. u))) (map day_of days))

  third : invalid_passes s 3 ≡ false → forward_run (weights s) (filtered_list s 2 from days) ≡ filtered_list s 3 from days
  unfolding filtered_list filtered forward_pass
  third v =
      forward_run_lem (weights s) (filtered rounded s 2 from (map day_of days)) (after 2 (two_passes s v))
      ∙ ap (map base_mark) (first_then (λ flows. backward_pass rounded s (first_pass rounded s (first_start rounded s from) flows)) (λ flows. backward_pass rounded s (first_pass rounded s (start rounded s) flows)) (λ us. map some (forward_pass rounded s us)) (ap (map some) (recursive_none (step rounded (weights s)) (λ u. u))) (map day_of days))

  -- b₁, b₂ and b₃ as the passes leave them, n being the number of passes
  module _ (n : ℕ) {b₁ : List ℕ} (first : b₁ ≡ filtered_list s 1 from days) where
    pub after_1 : n ≡ 1 → b₁ ≡ filtered_list s n from days
    after_1 h = rw h first

    module _ {b₂ : List ℕ} (e₂ : b₂ ≡ backward_run (weights s) b₁) where
      pub after_2 : n ≡ 2 → b₂ ≡ filtered_list s n from days
      after_2 h = rw (h, e₂, first) second

      pub after_3 : {b₃ : List ℕ} → b₃ ≡ forward_run (weights s) b₂ → invalid_passes s n ≡ false → (n ≡ 1 → ⊥) → (n ≡ 2 → ⊥) → b₃ ≡ filtered_list s n from days
      after_3 e₃ v h₁ h₂ =
          let r = passes_range s n v in
          let three : n ≡ 3 = omega arith in
          rw (three, e₃, e₂, first, second) (third (rw three at v))

  -- no value above the largest flow, in thousandths
  small_values : {ds run : List (Option ℕ)} {exact_run : List (Option Fraction)} → Each (Agree (filter_limit s 1)) ds run exact_run → Valid ds → SmallList (map base_mark run)
  small_values done v i = inr (omega arith)
  small_values (then no_value e) v zero = inl mark_none
  small_values (then (values {y} {b} k c) e) v zero = inr (rw (mark_value b) (omega (arith, v.0)))
  small_values (then {a = none} r e) v (suc i) = small_values e v i
  small_values (then {a = some y} r e) v (suc i) = small_values e v.1 i

  pub small_list : SmallList (filtered_list s 1 from days)
  unfolding filtered_list
  small_list = small_values (filter_distance u 1 (one_pass s) from (map day_of days) low) (valid_days days valid)
