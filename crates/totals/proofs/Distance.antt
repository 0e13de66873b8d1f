-- Totals and index of two runs that agree day by day.
-- Assumes nothing.
use Prim.Native.Nat.{ℕ, suc, ◌+◌, ◌*◌, ◌≤◌}
use mathlib.Core.Path.{◌≡◌, refl, ap}
use mathlib.Core.List.{List}
use mathlib.Core.Option.{Option}
use native.Mathlib.Omega.{arith}
use lib.ListN.{length}
use Rattle.numbers.specs.Fraction.{Fraction, whole, sum, AtMost}
use Rattle.numbers.specs.Arithmetic.{rounded, exact, Close}
use Rattle.numbers.proofs.Fractions.{close_number, close_sum, close_difference, close_multiple, close_quotient, close_weaken}
use Rattle.numbers.proofs.Quantities.{Reads, reads_whole, reads_sum, reads_multiple, at_most}
use Rattle.numbers.specs.Lists.{Each, done, then}
use Rattle.series.specs.Agreement.{Agree, no_value, values}
use Rattle.totals.specs.Sums.{BaseDay, base_days, flow_total, base_total, quick_total, index}
use Rattle.totals.specs.Distance.{total_limit, index_limit, TotalsWithin}

module _ (l : Fraction) {a k : ℕ} (r : Reads l a k) where
  -- what the sums of two runs have in common
  record Alike (ds : List (BaseDay ℕ)) (es : List (BaseDay Fraction)) : Type 0 where
    number : length es ≡ length ds
    flow : flow_total es ≡ flow_total ds
    at_most_flow : base_total rounded ds ≤ 1000 * flow_total ds
    base : Close (total_limit l (length ds)) (base_total rounded ds) (base_total exact es)

  one_more : (m : ℕ) → AtMost (sum l (total_limit l m)) (total_limit l (suc m))
  unfolding total_limit
  one_more m = at_most (reads_sum r (reads_multiple m r)) (reads_multiple (suc m) r) (omega arith)

  no_days : AtMost (whole 0) (total_limit l 0)
  unfolding total_limit
  no_days = at_most (reads_whole 0) (reads_multiple 0 r) (omega arith)

  alike : {days bs : List (Option ℕ)} {es : List (Option Fraction)} → Each (Agree l) days bs es → Alike (base_days days bs) (base_days days es)
  unfolding base_days flow_total base_total
  alike done = record { number = refl; flow = refl; at_most_flow = omega arith; base = close_weaken no_days (close_number 0) }
  alike (then no_value e) = alike e
  alike (then (values {y} h c) e) =
      let i = alike e in
      record { number = ap suc i.number; flow = ap (λ n. y + n) i.flow; at_most_flow = omega (arith, i.at_most_flow); base = close_weaken (one_more _) (close_sum c i.base) }

  from_nothing : (m : ℕ) → AtMost (sum (whole 0) (total_limit l m)) (total_limit l m)
  unfolding total_limit
  from_nothing m = at_most (reads_sum (reads_whole 0) (reads_multiple m r)) (reads_multiple m r) (omega arith)

  pub totals_within : {days bs : List (Option ℕ)} {es : List (Option Fraction)} → Each (Agree l) days bs es → TotalsWithin l days bs es
  unfolding quick_total index index_limit
  totals_within {days} {bs} {es} e =
      let i = alike e in
      let ds = base_days days bs in
      record {
        same_number = i.number;
        same_flow = i.flow;
        base_total = i.base;
        quick_total = rw i.flow (close_weaken (from_nothing (length ds)) (close_difference i.at_most_flow (close_number (1000 * flow_total ds)) i.base));
        flow_index = λ h. rw i.flow (close_quotient (flow_total ds) h (close_multiple 10 i.base));
      }
