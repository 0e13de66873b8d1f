-- A day's taking: what is taken on a valid day, and what it keeps to.
-- Assumes nothing.
use Prim.Native.Nat.{ℕ, ◌-◌, ◌*◌, ◌/◌, ◌≤◌}
use mathlib.Core.Path.{◌≡◌, refl, sym, ap, ◌∙◌}
use mathlib.Core.Bool.{false}
use mathlib.Core.Option.{Option, none, some}
use native.Mathlib.Decide.{ℕ_discrete}
use native.Mathlib.Omega.{arith}
use Rattle.std.specs.Prelude.{min}
use Rattle.series.specs.Units.{no_value_mark, missing_mark, day_of, base_of}
use Rattle.series.specs.Lists.{is_invalid_base}
use Rattle.series.proofs.Views.{base_none, base_value, day_missing, day_present}
use Rattle.series.proofs.Tests.{none_on_missing, at_flow}
use Rattle.licence.specs.Rule.{litres_up, spare, taking, above_base}
use Rattle.licence.specs.Kept.{DayKept}

-- Base rounded up and taken from a flow leaves as much as the thousandths of the flow above base leave, rounded down.
spare_is : (y b : ℕ) → (1000 * y - b) / 1000 ≡ spare y b
unfolding spare litres_up
spare_is y b = omega arith

-- with a base value the day is present
present : (d b : ℕ) → (b ≡ no_value_mark → ⊥) → is_invalid_base (day_of d) (base_of b) ≡ false → d ≡ missing_mark → ⊥
present d b e v m = none_on_missing b (rw (base_value b e, day_missing d m) at v)

-- what is taken on a valid day; the mark of no value is above any flow
pub taken : (M left d b s r : ℕ) → d ≤ missing_mark → is_invalid_base (day_of d) (base_of b) ≡ false → r ≡ min (min M s) left → s ≡ (1000 * d - b) / 1000 → r ≡ taking M left (day_of d) (base_of b)
unfolding taking
taken M left d b s r h v e f =
    e
    ∙ elim (ℕ_discrete b no_value_mark) [
      | yes m ↦ rw (f, base_none b m) (omega arith)
      | no m ↦ rw (f, base_value b m, day_present d (present d b m v), spare_is d b) refl
    ]

-- a taking is at most the quota left
pub within_left : (M left : ℕ) (day base : Option ℕ) → taking M left day base ≤ left
unfolding taking
within_left M left day none = omega arith
within_left M left none (some b) = omega arith
within_left M left (some y) (some b) = omega arith

-- and keeps the day's base
pub day_kept : (M left : ℕ) (day base : Option ℕ) → is_invalid_base day base ≡ false → DayKept M day base (taking M left day base)
unfolding DayKept taking spare litres_up
day_kept M left day none v = refl
day_kept M left none (some b) v = refl
day_kept M left (some y) (some b) v = let h = at_flow y b v in (omega arith, omega arith, omega arith)

-- a taking by the day's flow above base; and where there is more of that, no more quota is left
by_above : (M left : ℕ) (day base : Option ℕ) → taking M left day base ≡ min (min M (above_base day base / 1000)) left
unfolding taking
by_above M left day none = omega arith
by_above M left none (some b) = omega arith
by_above M left (some y) (some b) = ap (λ n. min (min M n) left) (sym (spare_is y b))

pub leaves_less : (M : ℕ) {left left' : ℕ} (day base day' base' : Option ℕ) → left' ≤ left → above_base day base ≤ above_base day' base' → left' - taking M left' day' base' ≤ left - taking M left day base
leaves_less M {left} {left'} day base day' base' h k =
    omega (arith, by_above M left day base, by_above M left' day' base')
