-- READ THIS FIRST: document 01's sentences on totals, proved of the definitions in specs/. Of any two lists whose totals are
-- accepted:
--   the quick total and the base total make up the flow total, so the difference never stops at zero (`quick_and_base`);
--   m is how many base values the base list has: each stands on a present day (`days_with_base`);
--   Y is above zero (`flow_above_zero`).
-- The index is at most one: `index_at_most` in Outcomes. How far all stand from those of the exact run: Distance.
-- Assumes nothing.
use Prim.Native.Nat.{ℕ, suc, ◌+◌, ◌*◌, ◌<◌}
use mathlib.Core.Path.{◌≡◌, sym, ◌∙◌, ap, subst}
use mathlib.Core.Bool.{Bool, false, not}
use mathlib.Core.List.{List, [], ◌∷◌}
use mathlib.Core.Option.{none}
use native.Mathlib.Nat.{pos_of_ne-zero}
use native.Mathlib.Decide.{ℕ_discrete}
use native.Mathlib.Omega.{arith}
use lib.ListN.{length}
use lib.Dec.{eqb}
use borrow.Author.Tests.{eq-eqb, ne_eqb, eqb-false}
use Rattle.numbers.specs.Lists.{selected}
use Rattle.numbers.proofs.Selection.{selected_none, selected_pass, selected_fail}
use Rattle.series.specs.Units.{no_value_mark}
use Rattle.series.specs.Lists.{any_invalid_base}
use Rattle.series.specs.Causes.{first_cause, accepted}
use Rattle.series.proofs.Refusing.{passed, outcome_was_accepted}
use Rattle.series.proofs.Tests.{any_base, same_length}
use Rattle.series.proofs.Views.{base_none, base_value, day_present, neither_of}
use Rattle.totals.specs.declared.Totals.{Totals}
use Rattle.totals.specs.Sums.{base_days, quick_total}
use Rattle.totals.specs.Call.{listed_days, no_flow, totals_causes, totals_of, totals_outcome}
use Rattle.totals.proofs.Summing.{base_at_most, on_present_day}

-- a number of a base list is a value
abbrev is_value : ℕ → Bool
is_value b = not (eqb b no_value_mark)

-- in valid lists of one length the days with a base value are as many as the values
as_many : (days base : List ℕ) → length days ≡ length base → any_invalid_base days base ≡ false → length (listed_days days base) ≡ length (selected is_value base)
unfolding base_days
as_many [] [] s e = simp selected_none
as_many [] (b ∷ bs) s e = absurd (omega arith)
as_many (d ∷ ds) [] s e = absurd (omega arith)
as_many (d ∷ ds) (b ∷ bs) s e =
    let h = neither_of _ _ (sym (any_base d ds b bs) ∙ e) in
    let i = as_many ds bs (omega arith) h.1 in
    elim (ℕ_discrete b no_value_mark) [
      | yes m ↦ rw (base_none b m, selected_fail is_value {x = b} bs (ap not (eq-eqb b no_value_mark m))) i
      | no m ↦ rw (base_value b m, day_present d (on_present_day d b m h.0), selected_pass is_value {x = b} bs (ap not (ne_eqb b no_value_mark m))) (ap suc i)
    ]

module _ (days base : List ℕ) {t : Totals} (h : totals_outcome days base ≡ accepted t) where
  answer : (first_cause (totals_causes days base) ≡ none) × (totals_of (listed_days days base) ≡ t)
  unfolding totals_outcome
  answer = outcome_was_accepted (totals_causes days base) _ h

  valid : any_invalid_base days base ≡ false
  unfolding totals_causes
  valid = passed (totals_causes days base) answer.0 20

  pub quick_and_base : t.quick + t.base ≡ 1000 * t.flow
  unfolding totals_of quick_total
  quick_and_base = subst (λ x. x.quick + x.base ≡ 1000 * x.flow) answer.1 (omega (arith, base_at_most days base valid))

  pub days_with_base : t.days ≡ length (selected is_value base)
  unfolding totals_causes totals_of
  days_with_base = subst (λ x. x.days ≡ length (selected is_value base)) answer.1 (as_many days base (same_length days base (passed (totals_causes days base) answer.0 14)) valid)

  pub flow_above_zero : 0 < t.flow
  unfolding totals_causes totals_of no_flow
  flow_above_zero = subst (λ x. 0 < x.flow) answer.1 (pos_of_ne-zero (eqb-false _ _ (passed (totals_causes days base) answer.0 21)))
