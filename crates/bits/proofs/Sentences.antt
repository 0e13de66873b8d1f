-- READ THIS FIRST: the rule's sentences, proved of the definitions in specs/, for lists of any length. Over a form that converts
-- each call refuses as the call over the days that the form stands for, and so it answers and leaves what that does; and in the
-- order of each, 28 stands just before 10.
-- Assumes nothing.
use Prim.Native.Nat.{ℕ}
use mathlib.Core.Path.{◌≡◌, refl}
use mathlib.Core.Bool.{false}
use mathlib.Core.List.{List, [], ◌∷◌, map}
use Rattle.series.specs.Causes.{Cause, first_cause}
use Rattle.filter.specs.declared.Setting.{Setting}
use Rattle.filter.specs.declared.start.Start.{Start}
use Rattle.filter.specs.Call.{filter_causes}
use Rattle.filter.proofs.Order.{filter_at_10}
use Rattle.minima.specs.declared.LineSetting.{LineSetting}
use Rattle.minima.specs.Call.{line_causes}
use Rattle.minima.proofs.Order.{line_at_10}
use Rattle.staggered.specs.Call.{staggered_causes}
use Rattle.staggered.proofs.Order.{staggered_at_10}
use Rattle.totals.specs.Call.{totals_causes}
use Rattle.totals.proofs.Order.{totals_at_10}
use Rattle.recession.specs.Call.{ratio_causes}
use Rattle.recession.proofs.Order.{ratios_at_10}
use Rattle.bfimax.specs.Call.{Spell, bfimax_causes}
use Rattle.bfimax.proofs.Order.{bfimax_at_10}
use Rattle.presence.specs.Form.{days_of, is_invalid_form, is_invalid_flow}
use Rattle.bits.specs.Order.{with_28, over_form}
use Rattle.bits.specs.Calls.{filter_bits_causes, line_bits_causes, staggered_bits_causes, totals_bits_causes, ratio_bits_causes, bfimax_bits_causes}
use Rattle.bits.proofs.OverForm.{over_valid}

-- a form that converts
module _ (flows words : List ℕ) (valid : is_invalid_form flows words ≡ false) (flows_valid : is_invalid_flow flows words ≡ false) where
  pub filter_over_valid_form : (s : Setting) (passes : ℕ) (from : Start) (base : List ℕ) → first_cause (filter_bits_causes s passes from flows words base) ≡ first_cause (filter_causes s passes from (days_of flows words) base)
  unfolding filter_bits_causes
  filter_over_valid_form s passes from base = over_valid (filter_at_10 s passes from base) flows words valid flows_valid

  pub line_over_valid_form : (s : LineSetting) (base : List ℕ) → first_cause (line_bits_causes s flows words base) ≡ first_cause (line_causes s (days_of flows words) base)
  unfolding line_bits_causes
  line_over_valid_form s base = over_valid (line_at_10 s base) flows words valid flows_valid

  pub staggered_over_valid_form : (s : LineSetting) (choice : ℕ) (base work : List ℕ) → first_cause (staggered_bits_causes s choice flows words base work) ≡ first_cause (staggered_causes s choice (days_of flows words) base work)
  unfolding staggered_bits_causes
  staggered_over_valid_form s choice base work = over_valid (staggered_at_10 s choice base work) flows words valid flows_valid

  pub totals_over_valid_form : (base : List ℕ) → first_cause (totals_bits_causes flows words base) ≡ first_cause (totals_causes (days_of flows words) base)
  unfolding totals_bits_causes
  totals_over_valid_form base = over_valid (totals_at_10 base) flows words valid flows_valid

  pub ratios_over_valid_form : (L : ℕ) (base list : List ℕ) → first_cause (ratio_bits_causes L flows words base list) ≡ first_cause (ratio_causes L (days_of flows words) base list)
  unfolding ratio_bits_causes
  ratios_over_valid_form L base list = over_valid (ratios_at_10 L base list) flows words valid flows_valid

  pub bfimax_over_valid_form : (s : Spell) (base : List ℕ) → first_cause (bfimax_bits_causes s flows words base) ≡ first_cause (bfimax_causes s (days_of flows words) base)
  unfolding bfimax_bits_causes
  bfimax_over_valid_form s base = over_valid (bfimax_at_10 s base) flows words valid flows_valid

-- the orders of refusals, by their numbers
abbrev pub numbers : List Cause → List ℕ
numbers causes = map (λ c. c.number) causes

module _ (flows words base : List ℕ) where
  pub filter_order : (s : Setting) (passes : ℕ) (from : Start) → numbers (filter_bits_causes s passes from flows words base) ≡ 11 ∷ 12 ∷ 13 ∷ 9 ∷ 14 ∷ 28 ∷ 10 ∷ 29 ∷ []
  unfolding filter_bits_causes over_form with_28 filter_causes
  filter_order s passes from = refl

  pub line_order : (s : LineSetting) → numbers (line_bits_causes s flows words base) ≡ 16 ∷ 9 ∷ 14 ∷ 28 ∷ 10 ∷ 17 ∷ []
  unfolding line_bits_causes over_form with_28 line_causes
  line_order s = refl

  pub staggered_order : (s : LineSetting) (choice : ℕ) (work : List ℕ) → numbers (staggered_bits_causes s choice flows words base work) ≡ 16 ∷ 9 ∷ 14 ∷ 25 ∷ 28 ∷ 10 ∷ 17 ∷ []
  unfolding staggered_bits_causes over_form with_28 staggered_causes
  staggered_order s choice work = refl

  pub totals_order : numbers (totals_bits_causes flows words base) ≡ 9 ∷ 14 ∷ 28 ∷ 10 ∷ 20 ∷ 21 ∷ []
  unfolding totals_bits_causes over_form with_28 totals_causes
  totals_order = refl

  pub ratios_order : (L : ℕ) (list : List ℕ) → numbers (ratio_bits_causes L flows words base list) ≡ 18 ∷ 9 ∷ 14 ∷ 28 ∷ 10 ∷ 20 ∷ 19 ∷ 22 ∷ []
  unfolding ratio_bits_causes over_form with_28 ratio_causes
  ratios_order L list = refl

  pub bfimax_order : (s : Spell) → numbers (bfimax_bits_causes s flows words base) ≡ 12 ∷ 23 ∷ 9 ∷ 14 ∷ 28 ∷ 10 ∷ 24 ∷ 21 ∷ []
  unfolding bfimax_bits_causes over_form with_28 bfimax_causes
  bfimax_order s = refl
