-- Daily steps over the days of accepted readings: each is a day of a day list, so that the laws of pass 1 hold.
-- Assumes nothing.
use Prim.Native.Nat.{ℕ}
use mathlib.Core.Path.{◌≡◌, ◌∙◌}
use mathlib.Core.Bool.{Bool, true, false, cond}
use mathlib.Core.List.{List, [], ◌∷◌, map}
use mathlib.Core.Option.{Option, none, some}
use borrow.Author.Tests.{ltb-false}
use lib.Ieee.{Float}
use Rattle.series.specs.Units.{is_invalid_day, flow_limit, day_of}
use Rattle.series.specs.Causes.{first_cause, by_cause, accepted, refused, Outcome}
use Rattle.series.specs.Lists.{any_invalid_day}
use Rattle.series.proofs.Refusing.{passed, outcome_was_accepted, never_both}
use Rattle.series.proofs.Tests.{no_invalid_day, any_day}
use Rattle.series.proofs.Views.{valid_flow, valid_missing}
use Rattle.filter.specs.declared.Setting.{Setting}
use Rattle.filter.specs.declared.start.Start.TheVariants.{Usual}
use Rattle.filter.specs.Methods.{Usable}
use Rattle.filter.proofs.Calls.{one_pass, usual_start}
use Rattle.filter.proofs.Sentences.{distance, steps_give_pass_1}
use Rattle.meter.specs.declared.Reading.{Reading}
use Rattle.meter.specs.declared.Reading.TheVariants.{CubicMetres, Litres, NoReading}
use Rattle.meter.specs.Rule.{is_too_large, nearest_litre, float_causes, reading_causes, day_said}
use Rattle.meter.specs.Call.{reading_outcome, reading_in, meter_causes, meter_outcome}
use Rattle.meter.specs.Steps.{days_said, AllAccepted, MeterDays}

valid_float : (unit : ℕ) (x : Float) → first_cause (float_causes unit x) ≡ none → is_invalid_day (nearest_litre unit x) ≡ false
unfolding is_too_large
valid_float unit x h = valid_flow (nearest_litre unit x) (ltb-false flow_limit (nearest_litre unit x) (passed (float_causes unit x) h 27))

-- the day of an accepted reading
pub valid_day_said : (r : Reading) → reading_outcome r ≡ accepted (day_said r) → is_invalid_day (day_said r) ≡ false
unfolding reading_outcome reading_causes day_said
valid_day_said (CubicMetres x) h = valid_float 1000 x (outcome_was_accepted (float_causes 1000 x) _ h).0
valid_day_said (Litres x) h = valid_float 1 x (outcome_was_accepted (float_causes 1 x) _ h).0
valid_day_said NoReading h = valid_missing

first_of : {a b : Outcome ℕ} {l m : List (Outcome ℕ)} → a ∷ l ≡ b ∷ m → (a ≡ b) × (l ≡ m)
first_of e = (cc, cc)

pub valid_days_said : (readings : List Reading) → AllAccepted readings → any_invalid_day (days_said readings) ≡ false
valid_days_said [] h = no_invalid_day
valid_days_said (r ∷ rs) h =
    let e = first_of h in
    any_day (day_said r) (days_said rs) ∙ simp (valid_day_said r e.0, valid_days_said rs e.1)

-- THE LAW ON STEPS
pub meter_days : (s : Setting) → Usable s → (readings : List Reading) → AllAccepted readings → MeterDays s readings
meter_days s u readings h =
    record { pass_1 = steps_give_pass_1 s u (days_said readings) (valid_days_said readings h); distance = distance s 1 u (one_pass s) Usual (map day_of (days_said readings)) (usual_start (map day_of (days_said readings))) }

-- Bytes that the call accepts are those of a reading that it accepts, with the same day.
behind_others : (a b c : Bool) (o : Option ℕ) (v d : ℕ) → by_cause (cond a (some 2) (cond b (some 1) (cond c (some 8) o))) refused (accepted v) ≡ accepted d → by_cause o refused (accepted v) ≡ accepted d
behind_others true b c o v d h = absurd (never_both h)
behind_others false true c o v d h = absurd (never_both h)
behind_others false false true o v d h = absurd (never_both h)
behind_others false false false o v d h = h

pub accepted_bytes : (bytes : List ℕ) (d : ℕ) → meter_outcome bytes ≡ accepted d → reading_outcome (reading_in bytes) ≡ accepted d
unfolding meter_outcome meter_causes reading_outcome
accepted_bytes [] d h = absurd (never_both h)
accepted_bytes (kind ∷ body) d h = behind_others _ _ _ (first_cause (reading_causes (reading_in (kind ∷ body)))) _ d h
