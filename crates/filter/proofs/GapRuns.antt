-- A filter over a list with gaps, run with a state that is made fresh at a missing day, is each segment filtered alone.
-- Assumes nothing.
use Prim.Native.Nat.{ℕ, suc, ◌≤◌, ◌<◌}
use mathlib.Core.Path.{◌≡◌, refl, sym, ◌∙◌, ap, subst, fun_ext}
use mathlib.Core.List.{List, [], ◌∷◌, ◌++◌, map, reverse, reverse-reverse}
use mathlib.Core.Option.{Option, none, some, none-ne-some}
use native.Mathlib.Decide.{ℕ_discrete}
use native.Mathlib.Omega.{arith}
use lib.ListN.{replicate, length, get_or, drop}
use Rattle.std.specs.Prelude.{Some, None}
use Rattle.std.specs.Prelude as Code
use Rattle.numbers.specs.Arithmetic.{rounded, Weights}
use Rattle.numbers.specs.Scan.{scan, recursive}
use Rattle.numbers.proofs.Recursion.{recursive_none}
use Rattle.series.specs.Units.{missing_mark, no_value_mark, day_of, base_of, base_mark}
use Rattle.series.specs.Segments.{over_segments, over_first, leading_gap}
use Rattle.series.proofs.Views.{day_missing, day_present}
use Rattle.series.proofs.FirstDay.{none_first}
use Rattle.series.proofs.Firsts.{first_same}
use Rattle.series.proofs.FreshRuns.{value_from, run_alone, run_on}
use Rattle.series.proofs.Gaps.{over_reverse, map_reverse, over_first_lem}
use Rattle.series.proofs.Agreeing.{Shown}
use Rattle.filter.specs.declared.Setting.{Setting}
use Rattle.filter.specs.declared.start.Start.TheVariants.{Usual, Given}
use Rattle.filter.specs.declared.Yesterday.{Yesterday}
use Rattle.filter.specs.declared.pass.Previous.{Previous}
use Rattle.filter.specs.Methods.{start}
use Rattle.filter.specs.Passes.{step, later_day, first_pass, first_start, filtered}
use Rattle.filter.specs.Call.{filtered_list}
use Rattle.filter.specs.Daily.{fresh, after, base_on, state_after, day_base}
use Rattle.filter.specs.Private.{day_state, steps_run, output, previous_after, output_on, pass_state, pass_mark, forward_run, backward_run}

-- pass 1, as the daily step runs it
abbrev yesterday_of : Code.Option Yesterday → Option (ℕ × ℕ)
yesterday_of None = none
yesterday_of (Some day) = some (day.flow, day.base)

module _ (s : Setting) where
  base_is : (yd : Code.Option Yesterday) (y : ℕ) → value_from (start rounded s) (later_day rounded s) (yesterday_of yd) y ≡ day_base s yd y
  unfolding day_base
  base_is None y = refl
  base_is (Some day) y = refl

  -- a rule for one segment, from a start
  abbrev alone : (first : ℕ → ℕ) → List ℕ → List (Option ℕ)
  alone first flows = map some (recursive first (later_day rounded s) flows)

  -- steps from the fresh state are pass 1
  pub steps_are_pass_1 : {B : Type 0} (output : Option ℕ → B) (days : List ℕ) → scan (day_state s) (λ st d. output (base_on s st (day_of d))) fresh days ≡ map output (filtered rounded s 1 Usual (map day_of days))
  unfolding filtered first_start first_pass state_after base_on
  steps_are_pass_1 output days =
      run_alone (start rounded s) (later_day rounded s) (λ st. yesterday_of st.yesterday) (λ st. day_base s st.yesterday) (state_after s) (base_on s) (λ st. base_is st.yesterday) (λ st. refl) (λ st u. refl) (λ st. refl) (λ st u. refl) day_of output fresh refl days
      ∙ ap (map output) (sym (over_first_lem (alone (start rounded s)) (ap (map some) (recursive_none (later_day rounded s) (start rounded s))) (map day_of days)))

  pub usual_run : (days : List ℕ) → steps_run s fresh days ≡ filtered_list s 1 Usual days
  unfolding steps_run filtered_list
  usual_run days = steps_are_pass_1 base_mark days

  -- where no day is present, a start that is given is none
  pub no_start : (value : ℕ) (days : List ℕ) → length days ≤ leading_gap (map day_of days) → steps_run s fresh days ≡ filtered_list s 1 (Given value) days
  unfolding filtered_list filtered first_start
  no_start value days h = usual_run days ∙ ap (map base_mark) (first_same _ _ _ (map day_of days) (λ y flows e. absurd (none-ne-some y (sym (none_first days h) ∙ e))))

  -- else: no value on the missing days in front, the start, and steps from the state behind it
  module _ (value : ℕ) where
    abbrev pub GivenRun : (n : ℕ) → (days : List ℕ) → Type 0
    GivenRun n days = replicate n no_value_mark ++ value ∷ steps_run s (after (get_or days n 0) value) (drop (suc n) days) ≡ filtered_list s 1 (Given value) days

    on_first : (d : ℕ) (ds : List ℕ) → (d ≡ missing_mark → ⊥) → GivenRun 0 (d ∷ ds)
    unfolding steps_run filtered_list filtered first_start first_pass state_after base_on base_mark
    on_first d ds p =
        rw (day_present d p)
        (run_on (start rounded s) (later_day rounded s) (λ st. yesterday_of st.yesterday) (λ st. day_base s st.yesterday) (state_after s) (base_on s) (λ st. base_is st.yesterday) (λ st. refl) (λ st u. refl) (λ st. refl) (λ st u. refl) day_of base_mark (after d value) d value refl ds)

    behind_gap : (d n : ℕ) (ds : List ℕ) → d ≡ missing_mark → GivenRun n ds → GivenRun (suc n) (d ∷ ds)
    unfolding filtered_list filtered over_first base_mark
    behind_gap d n ds m r = rw (day_missing d m) (ap (λ l. no_value_mark ∷ l) r)

    pub given_run : (n : ℕ) (days : List ℕ) → n ≡ leading_gap (map day_of days) → n < length days → GivenRun n days
    unfolding leading_gap
    given_run n [] e h = absurd (omega arith)
    given_run n (d ∷ ds) e h =
        elim (ℕ_discrete d missing_mark) [
          | no p ↦ subst (λ k. GivenRun k (d ∷ ds)) (sym (e ∙ ap (λ o. leading_gap (o ∷ map day_of ds)) (day_present d p))) (on_first d ds p)
          | yes m ↦
              let z : n ≡ suc (leading_gap (map day_of ds)) = e ∙ ap (λ o. leading_gap (o ∷ map day_of ds)) (day_missing d m) in
              subst (λ k. GivenRun k (d ∷ ds)) (sym z) (behind_gap d (leading_gap (map day_of ds)) ds m (given_run (leading_gap (map day_of ds)) ds refl (omega arith)))
        ]

-- passes 2 and 3, as the loops run them
abbrev previous_of : Code.Option Previous → Option (ℕ × ℕ)
previous_of None = none
previous_of (Some day) = some (day.input, day.output)

module _ (w : Weights) where
  output_is : (st : Code.Option Previous) (u : ℕ) → value_from (λ u. u) (step rounded w) (previous_of st) u ≡ output w st u
  unfolding output
  output_is None u = refl
  output_is (Some day) u = refl

  abbrev pass : List ℕ → List (Option ℕ)
  pass s = map some (recursive (λ u. u) (step rounded w) s)

  -- a run over the numbers in memory
  pass_run : (base : List ℕ) → scan (pass_state w) (pass_mark w) None base ≡ map base_mark (over_segments pass (map base_of base))
  unfolding previous_after output_on
  pass_run base = run_alone (λ u. u) (step rounded w) previous_of (output w) (previous_after w) (output_on w) output_is (λ st. refl) (λ st u. refl) (λ st. refl) (λ st u. refl) base_of base_mark None refl base

  pub forward_run_lem : (values : List (Option ℕ)) → Shown values → forward_run w (map base_mark values) ≡ map base_mark (over_segments pass values)
  unfolding forward_run
  forward_run_lem values h = pass_run (map base_mark values) ∙ ap (λ v. map base_mark (over_segments pass v)) h

  pub backward_run_lem : (values : List (Option ℕ)) → Shown values → backward_run w (map base_mark values) ≡ map base_mark (over_segments (λ s. map some (reverse (recursive (λ u. u) (step rounded w) (reverse s)))) values)
  unfolding backward_run forward_run
  backward_run_lem values h =
      ap reverse (pass_run (reverse (map base_mark values)) ∙ ap (λ l. map base_mark (over_segments pass l)) (sym (map_reverse base_of (map base_mark values) []) ∙ ap reverse h))
      ∙ map_reverse base_mark (over_segments pass (reverse values)) []
      ∙ ap (map base_mark) (ap reverse (over_reverse pass values) ∙ reverse-reverse _ ∙ ap (λ rule. over_segments rule values) (fun_ext (λ s. map_reverse some (recursive (λ u. u) (step rounded w) (reverse s)) [])))
