-- One day of pass 1, as the daily step makes it.
-- Assumes nothing.
use Prim.Native.Nat.{ℕ, ◌*◌, ◌≤◌}
use mathlib.Core.Path.{◌≡◌, refl, sym, ◌∙◌, ap, subst}
use mathlib.Core.Bool.{false}
use mathlib.Core.Logic.{inl, inr, ⊎_elim}
use mathlib.Core.Option.{Option, none, some}
use Rattle.std.specs.Prelude.{Some, None}
use Rattle.std.specs.Prelude as Code
use native.Mathlib.Omega.{arith}
use borrow.Author.Tests.{le-ltb, ltb-false}
use Rattle.numbers.specs.Arithmetic.{rounded}
use Rattle.series.specs.Units.{flow_limit, missing_mark, no_value_mark, is_invalid_day, base_of, base_mark}
use Rattle.series.proofs.Views.{day_missing, day_present, mark_none, mark_value, seen_none, seen_value, neither_of, valid_day}
use Rattle.filter.specs.declared.Setting.{Setting}
use Rattle.filter.specs.declared.DailyFilter.{DailyFilter}
use Rattle.filter.specs.declared.Yesterday.{Yesterday}
use Rattle.filter.specs.Methods.{weights, start, Usable}
use Rattle.filter.specs.Passes.{step, thousandths}
use Rattle.filter.specs.Daily.{fresh, after, invalid_yesterday, day_base, base_on, state_after}
use Rattle.filter.specs.Private.{SmallBase, day_state, day_mark}
use Rattle.filter.proofs.Table.{start_below}
use Rattle.filter.proofs.MethodNumbers.{step_below}

pub valid_yesterday : {yd : Code.Option Yesterday} {day : Yesterday} → yd ≡ Some day → invalid_yesterday yd ≡ false → (day.flow ≤ flow_limit) × (day.base ≤ 1000 * day.flow)
unfolding invalid_yesterday
valid_yesterday {day = day} e h =
    let n = neither_of _ _ (rw e at h) in
    (ltb-false flow_limit day.flow n.0, ltb-false (1000 * day.flow) day.base n.1)

-- a day's base value, without and with a yesterday
module _ (s : Setting) {yd : Code.Option Yesterday} (y : ℕ) {r : ℕ} where
  pub first_base : Usable s → yd ≡ None → r ≡ start rounded s y → (r ≡ day_base s yd y) × (r ≤ 1000 * y)
  unfolding day_base
  first_base u e h = (rw e h, subst (λ n. n ≤ 1000 * y) (sym h) (start_below u y))

  pub later_base : {day : Yesterday} → yd ≡ Some day → r ≡ step rounded (weights s) day.base (1000 * y) (1000 * day.flow) → (r ≡ day_base s yd y) × (r ≤ 1000 * y)
  unfolding day_base thousandths
  later_base e h = (rw e h, subst (λ n. n ≤ 1000 * y) (sym h) (step_below _ _ _ _))

abbrev pub Advance : Setting → DailyFilter → (day : ℕ) → DailyFilter → ℕ → Type 0
Advance s st d st' b = ((st' ≡ day_state s st d) × (b ≡ day_mark s st d)) × ((invalid_yesterday st'.yesterday ≡ false) × SmallBase b)

module _ (s : Setting) (st : DailyFilter) (d : ℕ) where
  pub missing_day : {st' : DailyFilter} {b : ℕ} → d ≡ missing_mark → (st' ≡ fresh) × (b ≡ no_value_mark) → Advance s st d st' b
  unfolding state_after base_on invalid_yesterday
  missing_day e f =
      let m = day_missing d e in
      ((f.0 ∙ sym (ap (state_after s st) m), f.1 ∙ sym (rw m mark_none)), (ap (λ x. invalid_yesterday x.yesterday) f.0, inl f.1))

  pub present_day : {b : ℕ} → (d ≡ missing_mark → ⊥) → d ≤ flow_limit → b ≡ day_base s st.yesterday d → b ≤ 1000 * d → Advance s st d (after d b) b
  unfolding state_after base_on invalid_yesterday
  present_day {b} e l h k =
      let m = day_present d e in
      ((ap (after d) h ∙ sym (ap (state_after s st) m), h ∙ sym (rw m (mark_value _))), (simp (le-ltb flow_limit d l, le-ltb (1000 * d) b k), inr (omega arith)))

-- what a valid day other than a missing one is
pub a_flow : (d : ℕ) → is_invalid_day d ≡ false → (d ≡ missing_mark → ⊥) → d ≤ flow_limit
a_flow d v e = ⊎_elim (λ h. h) (λ m. absurd (e m)) (valid_day d v)

-- the number stored shows the value that it stands for
pub value_shown : (s : Setting) (st : DailyFilter) (day : Option ℕ) {st' : DailyFilter} {b : ℕ} → st' ≡ state_after s st day → b ≡ base_mark (base_on s st day) → invalid_yesterday st'.yesterday ≡ false → base_of b ≡ base_on s st day
unfolding state_after base_on
value_shown s st none e h v = ap base_of h ∙ seen_none
value_shown s st (some y) e h v =
    let f = day_base s st.yesterday y in
    let l = valid_yesterday {day = record { flow = y; base = f }} refl (subst (λ x. invalid_yesterday x.yesterday ≡ false) e v) in
    ap base_of h ∙ seen_value f (λ m. absurd (omega arith))
