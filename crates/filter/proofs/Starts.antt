-- 29, as the code tests it, and pass 1 from a start that is given.
-- Assumes nothing.
use Prim.Native.Nat.{ℕ, suc, ◌+◌, ◌-◌, ◌*◌, ◌≤◌, ◌<◌}
use mathlib.Core.Path.{◌≡◌, refl, sym, ◌∙◌, ap, ap₂}
use mathlib.Core.Bool.{false}
use mathlib.Core.List.{List, [], ◌∷◌, ◌++◌, map}
use native.Mathlib.Omega.{arith}
use lib.ListN.{length, get_or, take, drop, set, replicate, length-append, length-drop, take-append-drop}
use lib.Seq.{drop-cons, append_snoc, take_all, take_at, length-take-le}
use native.Mathlib.Numerals.{add-one}
use Rattle.std.proofs.lemmas.List.{set_at, length-replicate}
use lib.Dec.{ltb}
use borrow.Author.Tests.{le-ltb}
use Rattle.series.specs.Units.{flow_limit, no_value_mark, day_of}
use Rattle.series.specs.Segments.{leading_gap}
use Rattle.series.specs.Lists.{any_invalid_day}
use Rattle.series.proofs.Views.{neither_of, valid_days}
use Rattle.series.proofs.Tests.{any_append}
use Rattle.series.proofs.FirstDay.{first_at, valid_first, none_first}
use Rattle.filter.specs.declared.start.Start.TheVariants.{Usual, Given}
use Rattle.filter.specs.declared.Setting.{Setting}
use Rattle.filter.specs.declared.DailyFilter.{DailyFilter}
use Rattle.filter.specs.Daily.{fresh, after, invalid_yesterday}
use Rattle.filter.specs.Call.{filtered_list}
use Rattle.filter.specs.Private.{steps_run, Begins}
use Rattle.filter.proofs.GapRuns.{usual_run, no_start, given_run}
use Rattle.filter.specs.declared.start.Start.{Start}
use Rattle.filter.specs.Methods.{above_flow, start_too_high}

module _ {from : Start} {value : ℕ} (days : List ℕ) (n : ℕ) where
  pub above_first : from ≡ Given value → n ≡ leading_gap (map day_of days) → n < length days → {y : ℕ} → y ≡ get_or days n 0 → ltb (1000 * y) value ≡ start_too_high from (map day_of days)
  unfolding start_too_high above_flow
  above_first g e h f = rw (g, f) (ap (λ o. above_flow o value) (sym (first_at n days e h)))

  pub none_above : from ≡ Given value → n ≡ leading_gap (map day_of days) → length days ≤ n → start_too_high from (map day_of days) ≡ false
  unfolding start_too_high above_flow
  none_above g e h = rw g (ap (λ o. above_flow o value) (none_first days (omega arith)))

-- the days that are left behind n of them are valid, and as many as the base values
pub days_left : (n : ℕ) (days base base' : List ℕ) → any_invalid_day days ≡ false → length days ≡ length base → length base' ≡ length base
    → (any_invalid_day (take (length days - n) (drop n days)) ≡ false) × (length (take (length days - n) (drop n days)) ≡ length (take (length base' - n) (drop n base')))
days_left n days base base' v h k = (
  ap any_invalid_day (all_left days) ∙ (neither_of _ _ (sym (any_append (take n days) (drop n days)) ∙ ap any_invalid_day (take-append-drop n days) ∙ v)).1,
  ap length (all_left days) ∙ omega (arith, length-drop n days, length-drop n base') ∙ sym (ap length (all_left base')),
)
  where
    all_left : (xs : List ℕ) → take (length xs - n) (drop n xs) ≡ drop n xs
    all_left xs = take_all (length xs - n) (drop n xs) (omega (arith, length-drop n xs))

-- the state behind a first present day with a start that is not too high is valid
start_valid : {from : Start} (days : List ℕ) {value n : ℕ} → from ≡ Given value → n ≡ leading_gap (map day_of days) → any_invalid_day days ≡ false → start_too_high from (map day_of days) ≡ false → n < length days → invalid_yesterday (after (get_or days n 0) value).yesterday ≡ false
unfolding invalid_yesterday start_too_high above_flow
start_valid days {value} {n} g e v low h =
    let first = first_at n days e h in
    simp (le-ltb flow_limit (get_or days n 0) (valid_first (map day_of days) (valid_days days v) first), ap (λ o. above_flow o value) (sym first) ∙ rw g at low)

-- a start that is not given is the usual one
pub not_given : (from : Start) → ((value : ℕ) → from ≡ Given value → ⊥) → from ≡ Usual
not_given Usual h = refl
not_given (Given value) h = absurd (h value refl)

-- where pass 1 begins
module _ (s : Setting) {from : Start} (days base : List ℕ) {st : DailyFilter} where
  at_front : st ≡ fresh → steps_run s fresh days ≡ filtered_list s 1 from days → Begins s from days (record { day = 0; state = st }) base
  unfolding invalid_yesterday
  at_front e r = record { inside = omega arith; valid = ap (λ x. invalid_yesterday x.yesterday) e; first_pass = ap (λ x. steps_run s x days) e ∙ r }

  -- no start is given, or no day is present
  pub begins_usual : from ≡ Usual → st ≡ fresh → Begins s from days (record { day = 0; state = st }) base
  begins_usual g e = at_front e (usual_run s days ∙ ap (λ x. filtered_list s 1 x days) (sym g))

  module _ {value n : ℕ} (g : from ≡ Given value) (e : n ≡ leading_gap (map day_of days)) where
    pub begins_absent : length days ≤ n → st ≡ fresh → Begins s from days (record { day = 0; state = st }) base
    begins_absent h f = at_front f (no_start s value days (omega arith) ∙ ap (λ x. filtered_list s 1 x days) (sym g))

    pub begins_from : n < length days → length days ≡ length base → any_invalid_day days ≡ false → start_too_high from (map day_of days) ≡ false → st ≡ after (get_or days n 0) value
        → {filled : List ℕ} → filled ≡ replicate (length (take n base)) no_value_mark → Begins s from days (record { day = n + 1; state = st }) (set (filled ++ drop n base) n value)
    begins_from h l v low f {filled} filled_is =
        let w : filled ≡ replicate n no_value_mark = filled_is ∙ ap (λ k. replicate k no_value_mark) (length-take-le n base (omega arith)) in
        let so_many : length filled ≡ n = ap length w ∙ length-replicate n no_value_mark in
        let rest = drop (suc n) base in
        let seam : set (filled ++ drop n base) n value ≡ filled ++ value ∷ rest = ap (λ x. set (filled ++ x) n value) (drop-cons base n 0 (omega arith)) ∙ set_at filled (get_or base n 0) rest value n so_many in
        let front : length (filled ++ value ∷ []) ≡ n + 1 = length-append filled (value ∷ []) ∙ omega arith in
        record {
          inside = omega arith;
          valid = ap (λ x. invalid_yesterday x.yesterday) f ∙ start_valid days g e v low h;
          first_pass =
              ap₂ (λ a b. a ++ b) (ap (take (n + 1)) (seam ∙ sym (append_snoc filled value rest)) ∙ take_at (filled ++ value ∷ []) rest (n + 1) front) (ap₂ (λ x m. steps_run s x (drop m days)) f (add-one n))
              ∙ append_snoc filled value _
              ∙ ap (λ x. x ++ value ∷ steps_run s (after (get_or days n 0) value) (drop (suc n) days)) w
              ∙ given_run s value n days e h
              ∙ ap (λ x. filtered_list s 1 x days) (sym g);
        }
