-- The distance of the rounded lines, and of the chosen values, from the exact ones: one half, as for one line. A choice by
-- rank brings two lists of values no further apart than they are value by value.
-- Assumes nothing.
use Prim.Native.Nat.{ℕ, zero, suc, ◌+◌}
use mathlib.Core.Path.{◌≡◌, subst}
use mathlib.Core.List.{List, [], ◌∷◌, map}
use mathlib.Core.Option.{Option, none, some}
use native.Mathlib.Omega.{arith}
use lib.ListN.{length, get_or}
use Rattle.numbers.specs.Fraction.{Fraction}
use Rattle.numbers.specs.Lists.{Each, done, then, Beside, none_beside, and_beside}
use Rattle.numbers.specs.Arithmetic.{Close, rounded, exact}
use Rattle.numbers.specs.Order.{ranked}
use Rattle.numbers.proofs.Sorting.{numbers}
use Rattle.numbers.proofs.Fractions.{fractions}
use Rattle.numbers.proofs.Ranks.{Crossing, close_crossing, beside_length, beside_map, ranked_beside}
use Rattle.series.specs.Agreement.{Agree, no_value, values}
use Rattle.minima.specs.declared.LineSetting.{LineSetting}
use Rattle.minima.specs.TurningPoints.{counting}
use Rattle.minima.specs.Call.{blocks_at}
use Rattle.minima.proofs.Lengths.{counting_more, counting_none}
use Rattle.minima.proofs.Distance.{line_distance}
use Rattle.staggered.specs.Rule.{shifts, lines, on_day, present, rank_of, chosen, staggered}
use Rattle.staggered.specs.Call.{StaggeredWithin}

-- on one day, two values that stand the one way round in the rounded run and the other way round in the exact run
crossing : (l : Fraction) (day : Option ℕ) → Crossing rounded.at_most exact.at_most (λ b f. Agree l day (some b) (some f))
crossing l day m n f g h k x y = let e = close_crossing l m n f g h k (apart_by x) (apart_by y) in (exchanged x e.0, exchanged y e.1)
  where
    apart_by : {day : Option ℕ} {b : ℕ} {f : Fraction} → Agree l day (some b) (some f) → Close l b f
    apart_by (values h c) = c

    exchanged : {day : Option ℕ} {b : ℕ} {f g : Fraction} → Agree l day (some b) (some f) → Close l b g → Agree l day (some b) (some g)
    exchanged (values h c) d = values h d

values_beside : {l : Fraction} {day : Option ℕ} {us : List (Option ℕ)} {fs : List (Option Fraction)} → Beside (Agree l day) us fs → Beside (λ b f. Agree l day (some b) (some f)) (present us) (present fs)
unfolding present
values_beside none_beside = none_beside
values_beside {l} {day} (and_beside {xs = us} {ys = fs} a e) = one_more a (values_beside e)
  where
    one_more : {day' u : Option ℕ} {f : Option Fraction} → Agree l day' u f → Beside (λ b f. Agree l day' (some b) (some f)) (present us) (present fs) → Beside (λ b f. Agree l day' (some b) (some f)) (present (u ∷ us)) (present (f ∷ fs))
    one_more no_value r = r
    one_more (values h c) r = and_beside (values h c) r

pub chosen_agrees : {l : Fraction} {day : Option ℕ} (choice : ℕ) {us : List (Option ℕ)} {fs : List (Option Fraction)} → Beside (Agree l day) us fs → Agree l day (chosen rounded choice us) (chosen exact choice fs)
unfolding chosen
chosen_agrees {l} {day} choice {us} {fs} e =
    let v = values_beside e in
    subst (λ c. Agree l day (ranked rounded.at_most (rank_of choice (length (present us))) (present us)) (ranked exact.at_most (rank_of choice c) (present fs))) (beside_length v)
    (ranked_beside (Agree l day) numbers fractions (crossing l day) (rank_of choice (length (present us))) no_value v)

-- what several lines have on one day
each_at : {l : Fraction} {days us : List (Option ℕ)} {fs : List (Option Fraction)} → Each (Agree l) days us fs → (t : ℕ) → Agree l (get_or days t none) (get_or us t none) (get_or fs t none)
each_at done t = no_value
each_at (then a e) zero = a
each_at (then a e) (suc t) = each_at e t

on_day_lem : {l : Fraction} {days : List (Option ℕ)} {ls : List (List (Option ℕ))} {ks : List (List (Option Fraction))} (t : ℕ) → Beside (Each (Agree l) days) ls ks → Beside (Agree l (get_or days t none)) (on_day t ls) (on_day t ks)
on_day_lem t none_beside = none_beside
on_day_lem t (and_beside e b) = and_beside (each_at e t) (on_day_lem t b)

-- and day by day
each_day : {l : Fraction} (f : ℕ → Option ℕ) (g : ℕ → Option Fraction) (k : ℕ) (days : List (Option ℕ)) → ((t : ℕ) → Agree l (get_or days t none) (f (k + t)) (g (k + t))) → Each (Agree l) days (map f (counting k (length days))) (map g (counting k (length days)))
each_day f g k [] h = rw counting_none done
each_day {l} f g k (d ∷ days) h =
    let first : k + 0 ≡ k = omega arith in
    rw counting_more
    (then (subst (λ n. Agree l d (f n) (g n)) first (h 0))
    (each_day f g (suc k) days (λ t. let next : k + suc t ≡ suc k + t = omega arith in subst (λ n. Agree l (get_or days t none) (f n) (g n)) next (h (suc t)))))

pub staggered_within : (s : LineSetting) (choice : ℕ) (days : List (Option ℕ)) → StaggeredWithin s choice days
unfolding lines staggered
staggered_within s choice days =
    let each = beside_map _ _ (λ o. line_distance (blocks_at s o) days) (shifts s) in
    record { each_line = each; chosen_line = each_day _ _ 0 days (λ t. let same : 0 + t ≡ t = omega arith in rw same (chosen_agrees choice (on_day_lem t each))) }
