-- Two runs that agree day by day: a base list shows the values of the rounded one, and they are valid.
-- Assumes nothing.
use Prim.Native.Nat.{ℕ, suc}
use mathlib.Core.Path.{◌≡◌, refl, ap, ap₂}
use mathlib.Core.Bool.{false}
use mathlib.Core.List.{List, [], ◌∷◌, map, cons≢nil, head-eq_of_cons-eq, tail-eq_of_cons-eq}
use mathlib.Core.Option.{Option, none, some}
use native.Mathlib.Omega.{arith}
use lib.ListN.{length}
use Rattle.numbers.specs.Fraction.{Fraction}
use Rattle.numbers.specs.Lists.{Each, done, then}
use Rattle.series.specs.Units.{day_of, base_of, base_mark}
use Rattle.series.specs.Lists.{is_invalid_base, any_invalid_base}
use Rattle.series.specs.Agreement.{Agree, no_value, values}
use Rattle.series.proofs.Views.{seen_none, seen_value, Valid}
use Rattle.series.proofs.Tests.{no_base, valid_base, no_invalid_base, any_base}

-- what stands in a base list shows the values that were written
abbrev pub Shown : List (Option ℕ) → Type 0
Shown run = map base_of (map base_mark run) ≡ run

module _ {l : Fraction} where
  pub shown : {days run : List (Option ℕ)} {exact_run : List (Option Fraction)} → Each (Agree l) days run exact_run → Valid days → Shown run
  shown done v = refl
  shown (then {a = none} no_value e) v = ap₂ (λ x xs. x ∷ xs) seen_none (shown e v)
  shown (then {a = some y} no_value e) v = ap₂ (λ x xs. x ∷ xs) seen_none (shown e v.1)
  shown (then (values {b} h c) e) v = ap₂ (λ x xs. x ∷ xs) (seen_value b (λ m. absurd (omega arith))) (shown e v.1)

  pub agreed_length : {days run : List (Option ℕ)} {exact_run : List (Option Fraction)} → Each (Agree l) days run exact_run → length run ≡ length days
  agreed_length done = refl
  agreed_length (then a e) = ap suc (agreed_length e)

  -- no value on a missing day, and none above the flow
  valid_value : {day value : Option ℕ} {exact_value : Option Fraction} → Agree l day value exact_value → base_of (base_mark value) ≡ value → is_invalid_base day (base_of (base_mark value)) ≡ false
  valid_value (no_value {day}) h = rw h (no_base day)
  valid_value (values {y} {b} k c) h = rw h (valid_base y b k)

  pub valid_bases : (ds : List ℕ) {days run : List (Option ℕ)} {exact_run : List (Option Fraction)} → map day_of ds ≡ days → Each (Agree l) days run exact_run → Shown run → any_invalid_base ds (map base_mark run) ≡ false
  valid_bases [] e a h = no_invalid_base _
  valid_bases (d ∷ ds) e done h = absurd (cons≢nil e)
  valid_bases (d ∷ ds) e (then {a = day} {b = value} {ys = run} a r) h =
      let here : is_invalid_base (day_of d) (base_of (base_mark value)) ≡ false = rw (head-eq_of_cons-eq e) (valid_value a (head-eq_of_cons-eq h)) in
      rw (any_base d ds (base_mark value) (map base_mark run), here) (valid_bases ds (tail-eq_of_cons-eq e) r (tail-eq_of_cons-eq h))
