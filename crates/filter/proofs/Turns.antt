-- The loops of the passes: what holds at the start, what a turn keeps, and what is left at the end.
-- Assumes nothing.
use Prim.Native.Nat.{ℕ, ◌+◌, ◌-◌, ◌≤◌, ◌<◌}
use mathlib.Core.Path.{◌≡◌, refl, sym, ◌∙◌, ap, subst}
use mathlib.Core.Bool.{false}
use mathlib.Core.List.{List, ◌++◌, reverse}
use mathlib.Core.Logic.{inl, inr, ⊎_elim, by_cases}
use native.Mathlib.Nat.{lt_of_not-le}
use native.Mathlib.Decide.{dec_le, ℕ_discrete}
use native.Mathlib.Omega.{arith}
use lib.ListN.{length, get_or, take, drop, set, get_or-eq_default, length-reverse}
use Rattle.std.proofs.lemmas.List.{get_or-reverse}
use lib.Seq.{get_or-set_same, get_or-set_other}
use Rattle.numbers.specs.Arithmetic.{rounded, Weights}
use Rattle.numbers.specs.Scan.{scan}
use Rattle.numbers.proofs.Scanning.{into_turn, into_end, place_turn}
use Rattle.filter.specs.declared.Setting.{Setting}
use Rattle.filter.specs.declared.DailyFilter.{DailyFilter}
use Rattle.filter.specs.declared.pass.Previous.{Previous}
use Rattle.std.specs.Prelude.{Some, None}
use Rattle.std.specs.Prelude as Code
use Rattle.series.specs.Units.{no_value_mark}
use Rattle.series.proofs.Views.{base_none, base_value, mark_none, mark_value}
use Rattle.filter.specs.Passes.{step}
use Rattle.filter.specs.Daily.{invalid_yesterday}
use Rattle.filter.specs.Private.{Small, SmallBase, SmallList, SmallPrevious, day_state, day_mark, steps_run, output, previous_after, output_on, pass_state, pass_mark, forward_run}
use Rattle.filter.proofs.MethodNumbers.{step_below}
use Rattle.filter.proofs.Days.{Advance}

-- where a small value is stored, a number of the list is small if it was so elsewhere
small_set : (base : List ℕ) (i b : ℕ) → SmallBase b → (j : ℕ) → (i < length base) → ((j ≡ i → ⊥) → SmallBase (get_or base j 0)) → SmallBase (get_or (set base i b) j 0)
small_set base i b h j l k =
    by_cases (ℕ_discrete j i) (λ e. subst SmallBase (sym (ap (λ n. get_or (set base i b) n 0) e ∙ get_or-set_same base i b 0 l)) h) (λ n. subst SmallBase (sym (get_or-set_other base i j b 0 n)) (k n))

-- steps from a state
module _ (s : Setting) (from : DailyFilter) (days : List ℕ) where
  pub record Steps (base : List ℕ) (st : DailyFilter) (i : ℕ) : Type 0 where
    pub so_far : take i base ++ steps_run s st (drop i days) ≡ steps_run s from days
    pub valid : invalid_yesterday st.yesterday ≡ false

  pub steps_start : (base : List ℕ) → invalid_yesterday from.yesterday ≡ false → Steps base from 0
  steps_start base v = record { so_far = refl; valid = v }

  pub steps_turn : {base : List ℕ} {st st' : DailyFilter} {i b : ℕ} → i < length days → i < length base → Steps base st i → Advance s st (get_or days i 0) st' b → Steps (set base i b) st' (i + 1)
  unfolding steps_run
  steps_turn {base} {st} {i = i} h l f a = record { so_far = into_turn (day_state s) (day_mark s) days 0 base i st h l a.0.1 a.0.0 ∙ f.so_far; valid = a.1.0 }

  pub steps_end : {base : List ℕ} {st : DailyFilter} {i : ℕ} → length days ≤ i → length base ≤ i → Steps base st i → base ≡ steps_run s from days
  unfolding steps_run
  steps_end {base} {st} {i} h l f = sym (into_end (day_state s) (day_mark s) days 0 base i st h l) ∙ f.so_far

-- passes 2 and 3
abbrev pub PassDay : Weights → Code.Option Previous → ℕ → Code.Option Previous → ℕ → Type 0
PassDay w pr b pr' b' = ((pr' ≡ pass_state w pr b) × (b' ≡ pass_mark w pr b)) × (SmallPrevious pr' × SmallBase b')

-- a small number other than the mark is a small value
pub a_value : {b : ℕ} → SmallBase b → (b ≡ no_value_mark → ⊥) → Small b
a_value h e = ⊎_elim (λ m. absurd (e m)) (λ l. l) h

module _ (w : Weights) {pr : Code.Option Previous} where
  pub starts : (u : ℕ) → pr ≡ None → (u ≡ output w pr u) × (u ≤ u)
  unfolding output
  starts u e = (rw e refl, omega arith)

  pub goes_on : (u : ℕ) {day : Previous} {r : ℕ} → pr ≡ Some day → r ≡ step rounded w day.output u day.input → (r ≡ output w pr u) × (r ≤ u)
  unfolding output
  goes_on u e h = (rw e h, subst (λ n. n ≤ u) (sym h) (step_below w _ u _))

module _ (w : Weights) (pr : Code.Option Previous) {b : ℕ} where
  pub no_value_day : b ≡ no_value_mark → PassDay w pr b None b
  unfolding previous_after output_on
  no_value_day e = let m = base_none b e in ((sym (ap (previous_after w pr) m), e ∙ sym (rw m mark_none)), (tt, inl e))

  pub value_day : {r : ℕ} → (b ≡ no_value_mark → ⊥) → Small b → r ≡ output w pr b → r ≤ b → PassDay w pr b (Some (record { input = b; output = r })) r
  unfolding previous_after output_on
  value_day e l h k =
      let m = base_value b e in
      ((ap (λ f. Some (record { input = b; output = f })) h ∙ sym (ap (previous_after w pr) m), h ∙ sym (rw m (mark_value _))), ((l, omega arith), inr (omega arith)))

module _ (w : Weights) (base₀ : List ℕ) where
  pub record LaterPass (base : List ℕ) (pr : Code.Option Previous) (i : ℕ) : Type 0 where
    pub so_far : take i base ++ scan (pass_state w) (pass_mark w) pr (drop i base) ≡ forward_run w base₀
    pub small_previous : SmallPrevious pr
    pub small : SmallList base

  pub later_start : SmallList base₀ → LaterPass base₀ None 0
  unfolding forward_run
  later_start h = record { so_far = refl; small_previous = tt; small = h }

  pub later_turn : {base : List ℕ} {pr pr' : Code.Option Previous} {i b : ℕ} → i < length base → LaterPass base pr i → PassDay w pr (get_or base i 0) pr' b → LaterPass (set base i b) pr' (i + 1)
  later_turn {base} {pr} {i = i} {b} h f p =
      record {
        so_far = place_turn (pass_state w) (pass_mark w) 0 base i pr h p.0.1 p.0.0 ∙ f.so_far;
        small_previous = p.1.0;
        small = λ j. small_set base i b p.1.1 j h (λ n. f.small j);
      }

  pub later_end : {base : List ℕ} {pr : Code.Option Previous} {i : ℕ} → length base ≤ i → LaterPass base pr i → (base ≡ forward_run w base₀) × SmallList base
  later_end {base} {pr} {i} h f = (sym (into_end (pass_state w) (pass_mark w) base 0 base i pr h h) ∙ f.so_far, f.small)

-- a list turned round
pub small_reverse : (base : List ℕ) → SmallList base → SmallList (reverse base)
small_reverse base h i =
    by_cases (dec_le (length base) i)
    (λ k. subst SmallBase (sym (get_or-eq_default (reverse base) 0 (rw length-reverse k))) (inr (omega arith)))
    (λ k. subst SmallBase (sym (get_or-reverse base i 0 (lt_of_not-le k))) (h (length base - 1 - i)))
