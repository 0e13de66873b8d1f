-- The takings of lists: they and the quota left make up the quota, and each day is kept to.
-- Assumes nothing.
use Prim.Native.Nat.{ℕ, zero, suc, ◌+◌, ◌-◌, ◌≤◌, ◌<◌}
use mathlib.Core.Path.{◌≡◌, refl, sym, ◌∙◌}
use mathlib.Core.Bool.{false}
use mathlib.Core.List.{List, [], ◌∷◌, ◌++◌, map}
use mathlib.Core.Option.{Option, none}
use native.Mathlib.Omega.{arith}
use lib.ListN.{length, get_or}
use Rattle.std.specs.List.{sum}
use Rattle.std.proofs.lemmas.List.Sums.{sum_by-cons}
use Rattle.series.specs.Units.{day_of, base_of}
use Rattle.series.specs.Lists.{is_invalid_base, any_invalid_base}
use Rattle.series.proofs.Views.{neither_of}
use Rattle.series.proofs.Tests.{any_base}
use Rattle.licence.specs.Rule.{taking, takings, quota_left}
use Rattle.licence.specs.Kept.{DayKept}
use Rattle.licence.proofs.Days.{within_left, day_kept}

pub sum_and_left : (M left : ℕ) (days base : List (Option ℕ)) → sum (takings M left days base) + quota_left M left days base ≡ left
unfolding takings quota_left
sum_and_left M left [] bs = omega arith
sum_and_left M left (d ∷ ds) [] = omega arith
sum_and_left M left (d ∷ ds) (b ∷ bs) =
    let x = taking M left d b in
    omega (arith, sum_by-cons (λ n. n) x (takings M (left - x) ds bs), sum_and_left M (left - x) ds bs, within_left M left d b)

pub left_at_most : (M left : ℕ) (days base : List (Option ℕ)) → quota_left M left days base ≤ left
left_at_most M left days base = omega (arith, sum_and_left M left days base)

-- a day of lists without an invalid base value has none
pub valid_at : (days base : List ℕ) (t : ℕ) → any_invalid_base days base ≡ false → t < length days → t < length base → is_invalid_base (day_of (get_or days t 0)) (base_of (get_or base t 0)) ≡ false
valid_at [] bs t v h k = absurd (omega arith)
valid_at (d ∷ ds) [] t v h k = absurd (omega arith)
valid_at (d ∷ ds) (b ∷ bs) zero v h k = (neither_of _ _ (sym (any_base d ds b bs) ∙ v)).0
valid_at (d ∷ ds) (b ∷ bs) (suc t) v h k = valid_at ds bs t (neither_of _ _ (sym (any_base d ds b bs) ∙ v)).1 (omega arith) (omega arith)

-- and neither have two such lists in a row
pub valid_append : (days base days' base' : List ℕ) → length days ≡ length base → any_invalid_base days base ≡ false → any_invalid_base days' base' ≡ false → any_invalid_base (days ++ days') (base ++ base') ≡ false
valid_append [] [] ds' bs' e v w = w
valid_append [] (b ∷ bs) ds' bs' e v w = absurd (omega arith)
valid_append (d ∷ ds) [] ds' bs' e v w = absurd (omega arith)
valid_append (d ∷ ds) (b ∷ bs) ds' bs' e v w =
    let h = neither_of (is_invalid_base (day_of d) (base_of b)) (any_invalid_base ds bs) (sym (any_base d ds b bs) ∙ v) in
    any_base d (ds ++ ds') b (bs ++ bs') ∙ rw h.0 (valid_append ds bs ds' bs' (omega arith) h.1 w)

pub each_day_kept : (M left : ℕ) (days base : List ℕ) → length days ≡ length base → any_invalid_base days base ≡ false
    → (t : ℕ) → DayKept M (get_or (map day_of days) t none) (get_or (map base_of base) t none) (get_or (takings M left (map day_of days) (map base_of base)) t 0)
unfolding takings DayKept
each_day_kept M left [] [] e v t = refl
each_day_kept M left [] (b ∷ bs) e v t = absurd (omega arith)
each_day_kept M left (d ∷ ds) [] e v t = absurd (omega arith)
each_day_kept M left (d ∷ ds) (b ∷ bs) e v zero = day_kept M left _ _ (neither_of _ _ (sym (any_base d ds b bs) ∙ v)).0
each_day_kept M left (d ∷ ds) (b ∷ bs) e v (suc t) = each_day_kept M (left - taking M left (day_of d) (base_of b)) ds bs (omega arith) (neither_of _ _ (sym (any_base d ds b bs) ∙ v)).1 t
