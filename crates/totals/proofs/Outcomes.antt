-- The totals call by its causes: what it answers over lists that pass, and what an accepted answer says.
-- Assumes nothing.
use Prim.Native.Nat.{ℕ, ◌*◌, ◌≤◌}
use mathlib.Core.Path.{◌≡◌, refl, sym, ◌∙◌, ap, subst}
use mathlib.Core.Bool.{true, false}
use mathlib.Core.List.{List, [], ◌∷◌}
use native.Mathlib.Nat.{pos_of_ne-zero}
use native.Mathlib.Decide.{ℕ_discrete}
use native.Mathlib.Omega.{arith}
use lib.ListN.{length}
use borrow.Author.Tests.{eq-eqb, ne_eqb}
use Rattle.std.specs.Prelude.{Result, Ok, Err}
use Rattle.numbers.specs.Near.{near}
use Rattle.numbers.proofs.Rounding.{near_at_most, near_by_zero}
use Rattle.series.specs.Units.{day_limit}
use Rattle.series.specs.Lists.{too_long, lengths_differ, any_invalid_day, any_invalid_base, list_causes}
use Rattle.series.specs.declared.Refusal.{Refusal}
use Rattle.series.specs.Causes.{refusal_number, cause, accepted, refused, Decides}
use Rattle.series.proofs.Refusing.{holds_of, passed, decides_alone, decided_accepted, answer_refused, outcome_was_accepted}
use Rattle.series.proofs.Tests.{few_days}
use Rattle.totals.specs.declared.Totals.{Totals}
use Rattle.totals.specs.Sums.{flow_total, quick_total, index}
use Rattle.totals.specs.Call.{listed_days, no_flow, totals_causes, totals_of, totals_outcome}
use Rattle.totals.specs.declared.tally.Tally.{Tally}
use Rattle.totals.specs.Private.{SumsOf, totals_from}
use Rattle.totals.proofs.Summing.{base_at_most}

-- the sums of valid lists have no more base than flow
pub sums_below : (days base : List ℕ) (t : Tally) → (any_invalid_base days base ≡ false) × SumsOf (listed_days days base) t → t.base ≤ 1000 * t.flow
sums_below days base t s = omega (arith, base_at_most days base s.0, s.1.flow, s.1.base)

-- the index is at most one
pub index_below : (a y : ℕ) {r : ℕ} → r ≡ near a y → a ≤ 10000 * y → r ≤ 10000
index_below a y {r} e h = by_flow (ℕ_discrete y 0)
  where
    by_flow : Dec (y ≡ 0) → r ≤ 10000
    by_flow (yes z) = omega (arith, ap (near a) z, near_by_zero a)
    by_flow (no n) = omega (arith, near_at_most {n = 10000} (pos_of_ne-zero n) h)

module _ (days base : List ℕ) where
  -- lists that pass the checks before the sums
  module _ (few : too_long days ≡ false) (same : lengths_differ days base ≡ false) (valid : any_invalid_day days ≡ false) where
    refuses_base : any_invalid_base days base ≡ true → totals_outcome days base ≡ refused 20
    unfolding totals_outcome totals_causes
    refuses_base e = simp (few, same, valid, e)

    module _ (bases : any_invalid_base days base ≡ false) where
      pub refuses_dry : flow_total (listed_days days base) ≡ 0 → totals_outcome days base ≡ refused 21
      unfolding totals_outcome totals_causes no_flow
      refuses_dry e = simp (few, same, valid, bases, eq-eqb (flow_total (listed_days days base)) 0 e)

      pub accepts_flow : (flow_total (listed_days days base) ≡ 0 → ⊥) → totals_outcome days base ≡ accepted (totals_of (listed_days days base))
      unfolding totals_outcome totals_causes no_flow
      accepts_flow n = simp (few, same, valid, bases, ne_eqb (flow_total (listed_days days base)) 0 n)

  -- what the call answers where the check of the lists refuses
  pub lists_refuse : {v : Result Unit Refusal} {r : Refusal} → Decides (list_causes days base) v → v ≡ Err r → refused (refusal_number r) ≡ totals_outcome days base
  unfolding list_causes totals_causes totals_outcome
  lists_refuse d e = answer_refused (decides_alone (cause (any_invalid_base days base) 20 ∷ cause (no_flow days base) 21 ∷ []) d e) (totals_of (listed_days days base)) refl

  -- and behind it
  module _ {v : Result Unit Refusal} (d : Decides (list_causes days base) v) (e : v ≡ Ok tt) where
    passes : (n : ℕ) → holds_of n (list_causes days base) ≡ false
    passes = passed (list_causes days base) (decided_accepted d e)

    pub short : length days ≤ day_limit
    unfolding list_causes
    short = few_days days (passes 9)

    pub found_invalid : any_invalid_base days base ≡ true → refused 20 ≡ totals_outcome days base
    unfolding list_causes
    found_invalid h = sym (refuses_base (passes 9) (passes 14) (passes 10) h)

    pub found_dry : any_invalid_base days base ≡ false → flow_total (listed_days days base) ≡ 0 → refused 21 ≡ totals_outcome days base
    unfolding list_causes
    found_dry h z = sym (refuses_dry (passes 9) (passes 14) (passes 10) h z)

    pub found_flow : {t : Tally} → any_invalid_base days base ≡ false → SumsOf (listed_days days base) t → (t.flow ≡ 0 → ⊥) → {r : Totals} → r ≡ totals_from t → accepted r ≡ totals_outcome days base
    unfolding list_causes totals_of quick_total index
    found_flow h f n r = sym (accepts_flow (passes 9) (passes 14) (passes 10) h (λ z. n (f.flow ∙ z)) ∙ ap accepted (rw (r, f.days, f.flow, f.base) refl))

  -- an accepted answer's index
  pub index_at_most : {t : Totals} → totals_outcome days base ≡ accepted t → t.index ≤ 10000
  unfolding totals_outcome totals_causes totals_of index
  index_at_most {t} h =
      let r = outcome_was_accepted (totals_causes days base) _ h in
      subst (λ x. x.index ≤ 10000) r.1 (index_below _ _ refl (omega (arith, base_at_most days base (passed (totals_causes days base) r.0 20))))
