-- The totals call over days and the base list of a run that agrees with an exact run: it refuses exactly when Y is 0.
-- Assumes nothing.
use Prim.Native.Nat.{ℕ}
use mathlib.Core.Path.{◌≡◌, refl, sym, ◌∙◌, ap}
use mathlib.Core.Bool.{false}
use mathlib.Core.List.{List, map}
use mathlib.Core.Option.{Option}
use lib.ListN.{length-map}
use Rattle.numbers.specs.Fraction.{Fraction}
use Rattle.numbers.specs.Lists.{Each}
use Rattle.series.specs.Units.{day_of, base_mark}
use Rattle.series.specs.Causes.{accepted, refused}
use Rattle.series.specs.Lists.{too_long, lengths_differ, any_invalid_day, any_invalid_base}
use Rattle.series.specs.Agreement.{Agree}
use Rattle.series.proofs.Views.{valid_days}
use Rattle.series.proofs.Tests.{not_different}
use Rattle.series.proofs.Agreeing.{shown, agreed_length, valid_bases}
use Rattle.totals.specs.Sums.{base_days, flow_total}
use Rattle.totals.specs.Call.{listed_days, totals_of, totals_outcome}
use Rattle.totals.proofs.Outcomes.{refuses_dry, accepts_flow}

module _ {l : Fraction} (days : List ℕ) {run : List (Option ℕ)} {exact_run : List (Option Fraction)} (few : too_long days ≡ false) (valid : any_invalid_day days ≡ false) (a : Each (Agree l) (map day_of days) run exact_run) where
  abbrev base : List ℕ
  base = map base_mark run

  listed_is : listed_days days base ≡ base_days (map day_of days) run
  listed_is = ap (base_days (map day_of days)) (shown a (valid_days days valid))

  lengths : lengths_differ days base ≡ false
  lengths = not_different days base (sym (length-map run base_mark ∙ agreed_length a ∙ length-map days day_of))

  bases : any_invalid_base days base ≡ false
  bases = valid_bases days refl a (shown a (valid_days days valid))

  pub refuses : flow_total (base_days (map day_of days) run) ≡ 0 → totals_outcome days base ≡ refused 21
  refuses e = refuses_dry days base few lengths valid bases (ap flow_total listed_is ∙ e)

  pub accepts : (flow_total (base_days (map day_of days) run) ≡ 0 → ⊥) → totals_outcome days base ≡ accepted (totals_of (base_days (map day_of days) run))
  accepts n = accepts_flow days base few lengths valid bases (λ e. n (sym (ap flow_total listed_is) ∙ e)) ∙ ap (λ ds. accepted (totals_of ds)) listed_is
