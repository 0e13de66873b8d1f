-- No number in the limits can be dropped: for each, a river whose two runs, computed by the checker, lie further apart
-- than the limit without it.
-- Assumes nothing.
use Prim.Native.Nat.{ℕ, ◌*◌, ◌-◌}
use mathlib.Core.Path.{◌≡◌, refl, sym}
use mathlib.Core.Bool.{Bool, true, false, true≢false, not, ◌&&◌, ◌||◌}
use mathlib.Core.List.{List, [], ◌∷◌}
use mathlib.Core.Option.{Option, none, some}
use mathlib.Core.Logic.{⊎_elim}
use lib.IntN.{pos, ◌*ℤ◌}
use lib.Signed.{le_z}
use lib.Dec.{T}
use Rattle.numbers.specs.Near.{near}
use Rattle.numbers.specs.Fraction.{Fraction, whole, half, sum, opposite, difference, surplus, multiple, quotient, least}
use Rattle.numbers.specs.Arithmetic.{rounded, exact, weighted, Close}
use Rattle.series.specs.Segments.{over_first}
use Rattle.numbers.specs.Scan.{recursive}
use Rattle.numbers.specs.Lists.{Each, done, then}
use Rattle.series.specs.Agreement.{Agree, no_value, values}
use Rattle.series.proofs.Views.{one_of}
use Rattle.filter.specs.declared.Setting.{Setting}
use Rattle.filter.specs.declared.start.Start.TheVariants.{Usual}
use Rattle.filter.specs.Methods.{method_of, weights, start}
use Rattle.filter.specs.Passes.{step, thousandths, filtered}
use Rattle.filter.specs.Distance.{limit_of, filter_limit}
use Rattle.totals.specs.Sums.{BaseDay, base_days, flow_total, base_total, index}

abbrev at_most : Fraction → Fraction → Bool
at_most f g = le_z (f.upper *ℤ pos g.lower) (g.upper *ℤ pos f.lower)

-- n and f lie more than l apart
unfoldable outside : Fraction → ℕ → Fraction → Bool
unfolding whole sum
outside l n f = not (at_most (whole n) (sum f l) && at_most f (sum (whole n) l))

-- on some day
unfoldable day_outside : Fraction → List (Option ℕ) → List (Option Fraction) → Bool
unfolding outside
day_outside l (some n ∷ ns) (some f ∷ fs) = outside l n f || day_outside l ns fs
day_outside l (some n ∷ ns) (none ∷ fs) = day_outside l ns fs
day_outside l (none ∷ ns) (f ∷ fs) = day_outside l ns fs
day_outside l (n ∷ ns) [] = false
day_outside l [] fs = false

not_both : (a b : Bool) → not (a && b) ≡ true → T a → T b → ⊥
not_both true true e p q = true≢false (sym e)
not_both true false e p q = q
not_both false b e p q = p

breaks : {l : Fraction} {n : ℕ} {f : Fraction} → outside l n f ≡ true → Close l n f → ⊥
unfolding outside whole sum
breaks {l} {n} {f} e c = not_both (at_most (whole n) (sum f l)) (at_most f (sum (whole n) l)) e c.within.above.le c.within.below.le

breaks_day : {l : Fraction} {days bs : List (Option ℕ)} {fs : List (Option Fraction)} → day_outside l bs fs ≡ true → Each (Agree l) days bs fs → ⊥
unfolding day_outside outside
breaks_day e done = true≢false (sym e)
breaks_day e (then no_value d) = breaks_day e d
breaks_day e (then (values h c) d) = ⊎_elim (λ p. breaks p c) (λ p. breaks_day p d) (one_of _ _ e)

-- flow 1 on ten days, by method 6 with p 5001: d 10000, A 5001
abbrev steady : Setting
steady = record { method = 6; p = 5001; q = 0; s = pos 0 }

abbrev ones : List (Option ℕ)
ones = some 1 ∷ some 1 ∷ some 1 ∷ some 1 ∷ some 1 ∷ some 1 ∷ some 1 ∷ some 1 ∷ some 1 ∷ some 1 ∷ []

-- the 2 of P is no 3: day 5 has 968, and exactly 968.7249..
the_2 : Each (Agree (quotient (whole (1 * 10000)) (3 * (10000 - 5001)))) ones (filtered rounded steady 1 Usual ones) (filtered exact steady 1 Usual ones) → ⊥
unfolding whole half sum opposite difference surplus multiple quotient least limit_of filtered over_first method_of weights start step recursive thousandths weighted near filter_limit day_outside outside
the_2 = breaks_day refl

-- the n of P: three passes of method 1 with p 100 over flows 0, 6, 9, 9, 7 lie further apart than one pass may
abbrev quick : Setting
quick = record { method = 1; p = 100; q = 0; s = pos 0 }

abbrev five : List (Option ℕ)
five = some 0 ∷ some 6 ∷ some 9 ∷ some 9 ∷ some 7 ∷ []

the_n : Each (Agree (filter_limit quick 1)) five (filtered rounded quick 3 Usual five) (filtered exact quick 3 Usual five) → ⊥
unfolding whole half sum opposite difference surplus multiple quotient least limit_of filtered over_first method_of weights start step recursive thousandths weighted near filter_limit day_outside outside
the_n = breaks_day refl

-- the days with a base value of a river, in either run
abbrev rounded_days : Setting → List (Option ℕ) → List (BaseDay ℕ)
rounded_days s days = base_days days (filtered rounded s 1 Usual days)

abbrev exact_days : Setting → List (Option ℕ) → List (BaseDay Fraction)
exact_days s days = base_days days (filtered exact s 1 Usual days)

-- the m of the totals: over the ten days of flow 1 the total is 8999, and exactly 9000.778..; P is 1.0002..
the_m : Close (filter_limit steady 1) (base_total rounded (rounded_days steady ones)) (base_total exact (exact_days steady ones)) → ⊥
unfolding whole half sum opposite difference surplus multiple quotient least limit_of filtered over_first method_of weights start step recursive thousandths weighted near filter_limit outside base_days flow_total base_total index
the_m = breaks refl

-- the 10 of the index: there m and Y are 10, so that m × P / Y is P; the index is 8999, and exactly 9000.778..
the_10 : Close (sum (quotient (multiple 10 (filter_limit steady 1)) 10) half) (index rounded (rounded_days steady ones)) (index exact (exact_days steady ones)) → ⊥
unfolding whole half sum opposite difference surplus multiple quotient least limit_of filtered over_first method_of weights start step recursive thousandths weighted near filter_limit outside base_days flow_total base_total index
the_10 = breaks refl

-- the 1/2 of the index: of flows 1000000 and 2000003 by method 1 with p 9250 it is 3583, and exactly 3583.33..
abbrev usual : Setting
usual = record { method = 1; p = 9250; q = 0; s = pos 0 }

abbrev flood : List (Option ℕ)
flood = some 1000000 ∷ some 2000003 ∷ []

the_half : Close (quotient (multiple 10 (multiple 2 (filter_limit usual 1))) 3000003) (index rounded (rounded_days usual flood)) (index exact (exact_days usual flood)) → ⊥
unfolding whole half sum opposite difference surplus multiple quotient least limit_of filtered over_first method_of weights start step recursive thousandths weighted near filter_limit outside base_days flow_total base_total index
the_half = breaks refl
