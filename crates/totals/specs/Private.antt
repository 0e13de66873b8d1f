-- What the private walk adds up and finds, and what follows from it. No public promise speaks of this.
use Rattle.std.specs.Prelude.{ℕ, ◌+◌, ◌*◌, ◌-◌, ◌≡◌, ◌≤◌, true, false, List, length, Result, Ok, Err}
use Rattle.std.proofs.Math.Option.{Option, none, some}
use Rattle.numbers.specs.Near.{near}
use Rattle.numbers.specs.Arithmetic.{rounded}
use Rattle.series.specs.declared.Refusal.{Refusal}
use Rattle.series.specs.declared.Refusal.TheVariants.{InvalidBase}
use Rattle.series.specs.Units.{day_of, base_of}
use Rattle.series.specs.Lists.{is_invalid_base, any_invalid_base}
use Rattle.totals.specs.Sums.{BaseDay, flow_total, base_total}
use Rattle.totals.specs.Call.{listed_days}
use Rattle.totals.specs.declared.Totals.{Totals}
use Rattle.totals.specs.declared.tally.Tally.{Tally}

-- the sums t' are those of t with m days more, of flow y and base b
pub record DayMore (t t' : Tally) (m y b : ℕ) : Type 0 where
  pub days : t'.days ≡ t.days + m
  pub flow : t'.flow ≡ t.flow + y
  pub base : t'.base ≡ t.base + b

-- a day counts where it has a base value
unfoldable pub Counts : (t t' : Tally) → (day base : Option ℕ) → Type 0
Counts t t' day none = DayMore t t' 0 0 0
Counts t t' none (some b) = ⊥
Counts t t' (some y) (some b) = DayMore t t' 1 y b

-- what one day more makes of sums; where its base value is invalid, no more is said than that it is one day at most
pub record AddsDay (t : Tally) (d b : ℕ) (t' : Tally) : Type 0 where
  pub few : t'.days ≤ t.days + 1
  pub counts : is_invalid_base (day_of d) (base_of b) ≡ false → t.base ≤ 1000 * t.flow → Counts t t' (day_of d) (base_of b)

-- the sums of some days
pub record SumsOf (ds : List (BaseDay ℕ)) (t : Tally) : Type 0 where
  pub days : t.days ≡ length ds
  pub flow : t.flow ≡ flow_total ds
  pub base : t.base ≡ base_total rounded ds

-- what is found in two lists: the sums, or that a base value is invalid
abbrev pub FoundIn : (days base : List ℕ) → Result Tally Refusal → Type 0
FoundIn days base (Ok t) = (any_invalid_base days base ≡ false) × SumsOf (listed_days days base) t
FoundIn days base (Err r) = (any_invalid_base days base ≡ true) × (r ≡ InvalidBase)

-- the totals from the sums
abbrev pub totals_from : Tally → Totals
totals_from t = record { days = t.days; flow = t.flow; base = t.base; quick = 1000 * t.flow - t.base; index = near (10 * t.base) t.flow }
