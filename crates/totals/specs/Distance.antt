-- How far totals and index may stand from those of the exact run (document 01, "Totals and index").
use Rattle.std.specs.Prelude.{ℕ, ◌<◌, ◌≡◌, List, length}
use Rattle.std.proofs.Math.Option.{Option}
use Rattle.numbers.specs.Fraction.{Fraction, half, sum, multiple, quotient}
use Rattle.numbers.specs.Arithmetic.{rounded, exact, Close}
use Rattle.totals.specs.Sums.{base_days, flow_total, base_total, quick_total, index}

-- with a daily limit l, over m days: m × l
unfoldable pub total_limit : Fraction → ℕ → Fraction
total_limit l m = multiple m l

-- with a daily limit l, over m days of flow total Y: 10 × m × l / Y + 1/2 ten-thousandths
unfoldable pub index_limit : Fraction → ℕ → ℕ → Fraction
unfolding total_limit
index_limit l m Y = sum (quotient (multiple 10 (total_limit l m)) Y) half

-- The totals of the rounded base flow over the days, beside those of the exact base flow: the same m and Y, base total
-- and quick total within m × l, and where Y is above zero the index within its limit of the exact index, not rounded.
pub record TotalsWithin (l : Fraction) (days : List (Option ℕ)) (base : List (Option ℕ)) (exact_base : List (Option Fraction)) : Type 0 where
  pub same_number : length (base_days days exact_base) ≡ length (base_days days base)
  pub same_flow : flow_total (base_days days exact_base) ≡ flow_total (base_days days base)
  pub base_total : Close (total_limit l (length (base_days days base))) (base_total rounded (base_days days base)) (base_total exact (base_days days exact_base))
  pub quick_total : Close (total_limit l (length (base_days days base))) (quick_total rounded (base_days days base)) (quick_total exact (base_days days exact_base))
  pub flow_index : 0 < flow_total (base_days days base) → Close (index_limit l (length (base_days days base)) (flow_total (base_days days base))) (index rounded (base_days days base)) (index exact (base_days days exact_base))
