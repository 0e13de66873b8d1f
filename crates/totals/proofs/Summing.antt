-- Sums over the days with a base value: what one day adds, and what valid lists bound.
-- Assumes nothing.
use Prim.Native.Nat.{ℕ, ◌+◌, ◌*◌, ◌≤◌, ◌%◌}
use mathlib.Core.Path.{◌≡◌, refl, sym, ◌∙◌, ap}
use mathlib.Core.Bool.{Bool, false, ◌||◌, or_assoc, or-false}
use mathlib.Core.List.{List, [], ◌∷◌, map}
use mathlib.Core.Logic.{◌⊎◌, ⊎_elim}
use mathlib.Core.Option.{Option, none, some}
use native.Mathlib.Omega.{arith}
use Rattle.std.proofs.Math.Nat.{mod-eq_of_lt}
use lib.ListN.{length}
use Rattle.numbers.specs.Arithmetic.{rounded}
use Rattle.series.specs.Units.{no_value_mark, missing_mark, day_of, base_of}
use Rattle.series.specs.Lists.{is_invalid_base, any_invalid_base}
use Rattle.series.proofs.Views.{base_none, base_value, day_missing, day_present, neither_of}
use Rattle.series.proofs.Tests.{none_on_missing, at_flow, any_base}
use Rattle.totals.specs.declared.tally.Tally.{Tally}
use Rattle.totals.specs.Sums.{BaseDay, base_days, flow_total, base_total}
use Rattle.totals.specs.Call.{listed_days}
use Rattle.totals.specs.Private.{Counts, AddsDay, SumsOf}

-- a base value other than the mark, valid on its day: the day is present
pub on_present_day : (d b : ℕ) → (b ≡ no_value_mark → ⊥) → is_invalid_base (day_of d) (base_of b) ≡ false → d ≡ missing_mark → ⊥
on_present_day d b e h m = none_on_missing b (rw (base_value b e, day_missing d m) at h)

-- what a day makes of sums: nothing where it has no base value
pub uncounted : (t t' : Tally) (d b : ℕ) → b ≡ no_value_mark → t'.days ≡ t.days → t'.flow ≡ t.flow → t'.base ≡ t.base → AddsDay t d b t'
unfolding Counts
uncounted t t' d b e n y x = record { few = omega (arith, n); counts = λ v h. rw (base_none b e) record { days = omega (arith, n); flow = omega (arith, y); base = omega (arith, x) } }

-- and where it has one, itself; a valid one is at most its flow, so that its sum does not wrap round
pub counted : (t t' : Tally) (d b : ℕ) → (b ≡ no_value_mark → ⊥) → d ≤ missing_mark → t'.days ≡ t.days + 1 → t'.flow ≡ t.flow + d → t'.base ≡ (t.base + b) % 18446744073709551616 → AddsDay t d b t'
unfolding Counts
counted t t' d b e f n y x = record { few = omega (arith, n); counts = valid }
  where
    valid : is_invalid_base (day_of d) (base_of b) ≡ false → t.base ≤ 1000 * t.flow → Counts t t' (day_of d) (base_of b)
    valid v h =
        let p = day_present d (on_present_day d b e v) in
        let k : b ≤ 1000 * d = at_flow d b (rw (base_value b e, p) at v) in
        let s : (t.base + b) % 18446744073709551616 ≡ t.base + b = mod-eq_of_lt (omega (arith, t.small, t.few)) in
        rw (base_value b e, p) record { days = n; flow = y; base = x ∙ s }

-- what a day adds to the sums is what it adds to the lists
record Adds (t t' : Tally) (before after : List (BaseDay ℕ)) : Type 0 where
  days : t'.days + length after ≡ t.days + length before
  flow : t'.flow + flow_total after ≡ t.flow + flow_total before
  base : t'.base + base_total rounded after ≡ t.base + base_total rounded before
  few : t'.days ≤ t.days + 1

adds : {t t' : Tally} (o p : Option ℕ) (ds bs : List (Option ℕ)) → Counts t t' o p → Adds t t' (base_days (o ∷ ds) (p ∷ bs)) (base_days ds bs)
unfolding Counts base_days flow_total base_total
adds o none ds bs e = record { days = omega (arith, e.days); flow = omega (arith, e.flow); base = omega (arith, e.base); few = omega (arith, e.days) }
adds none (some b) ds bs e = absurd e
adds (some y) (some b) ds bs e = record { days = omega (arith, e.days); flow = omega (arith, e.flow); base = omega (arith, e.base); few = omega (arith, e.days) }

-- and keeps them at most the flow
counted_below : (t t' : Tally) (o p : Option ℕ) → is_invalid_base o p ≡ false → Counts t t' o p → t.base ≤ 1000 * t.flow → t'.base ≤ 1000 * t'.flow
unfolding Counts
counted_below t t' o none v c h = omega (arith, c.base, c.flow)
counted_below t t' none (some b) v c h = absurd c
counted_below t t' (some y) (some b) v c h = omega (arith, c.base, c.flow, at_flow y b v)

-- behind the end of a list no day has a base value
no_more : (days base : List ℕ) → (length days ≡ 0) ⊎ (length base ≡ 0) → listed_days days base ≡ []
unfolding base_days
no_more [] base e = refl
no_more (d ∷ days) [] e = refl
no_more (d ∷ days) (b ∷ base) e = ⊎_elim (λ h. absurd (omega arith)) (λ h. absurd (omega arith)) e

-- The loop over two lists, of which some days are left: where no base value is invalid, m, Y and T are the sums over the days
-- before them; and whether one of these was invalid is known.
module _ (ds bs : List ℕ) where
  pub record SumsOfFront (days base : List ℕ) (m Y T : ℕ) : Type 0 where
    pub number : m + length (listed_days days base) ≡ length (listed_days ds bs)
    pub flows : Y + flow_total (listed_days days base) ≡ flow_total (listed_days ds bs)
    pub bases : T + base_total rounded (listed_days days base) ≡ base_total rounded (listed_days ds bs)
    pub below_flow : T ≤ 1000 * Y

  pub record SumsSoFar (days base : List ℕ) (invalid : Bool) (m Y T : ℕ) : Type 0 where
    pub found : any_invalid_base ds bs ≡ (invalid || any_invalid_base days base)
    pub few : m + length days ≤ length ds
    pub small : Y ≤ 4294967295 * m
    pub sums : any_invalid_base ds bs ≡ false → SumsOfFront days base m Y T

  pub sums_start : SumsSoFar ds bs false 0 0 0
  sums_start = record { found = refl; few = omega arith; small = omega arith; sums = λ v. record { number = omega arith; flows = omega arith; bases = omega arith; below_flow = omega arith } }

  -- one day more
  module _ {d b : ℕ} {days base : List ℕ} (invalid : Bool) (t t' : Tally) (s : SumsSoFar (d ∷ days) (b ∷ base) invalid t.days t.flow t.base) (a : AddsDay t d b t') where
    found_turn : any_invalid_base ds bs ≡ ((invalid || is_invalid_base (day_of d) (base_of b)) || any_invalid_base days base)
    found_turn = s.found ∙ ap (λ x. invalid || x) (any_base d days b base) ∙ sym (or_assoc invalid (is_invalid_base (day_of d) (base_of b)) (any_invalid_base days base))

    front_turn : any_invalid_base ds bs ≡ false → SumsOfFront days base t'.days t'.flow t'.base
    front_turn v =
        let f = s.sums v in
        let valid = (neither_of invalid _ (neither_of _ (any_invalid_base days base) (sym found_turn ∙ v)).0).1 in
        let c = a.counts valid f.below_flow in
        let m = adds (day_of d) (base_of b) (map day_of days) (map base_of base) c in
        record { number = m.days ∙ f.number; flows = m.flow ∙ f.flows; bases = m.base ∙ f.bases; below_flow = counted_below t t' (day_of d) (base_of b) valid c f.below_flow }

    pub sums_turn : SumsSoFar days base (invalid || is_invalid_base (day_of d) (base_of b)) t'.days t'.flow t'.base
    sums_turn = record { found = found_turn; few = omega (arith, s.few, a.few); small = t'.small; sums = front_turn }

  -- one of the lists ends
  pub whole_found : {invalid : Bool} {m Y T : ℕ} (days base : List ℕ) → (length days ≡ 0) ⊎ (length base ≡ 0) → SumsSoFar days base invalid m Y T → any_invalid_base ds bs ≡ invalid
  unfolding any_invalid_base
  whole_found {invalid} [] base e s = s.found ∙ or-false invalid
  whole_found {invalid} (d ∷ days) [] e s = s.found ∙ or-false invalid
  whole_found (d ∷ days) (b ∷ base) e s = ⊎_elim (λ h. absurd (omega arith)) (λ h. absurd (omega arith)) e

  pub sums_end : {invalid : Bool} {t : Tally} (days base : List ℕ) → (length days ≡ 0) ⊎ (length base ≡ 0) → SumsSoFar days base invalid t.days t.flow t.base → invalid ≡ false → (any_invalid_base ds bs ≡ false) × SumsOf (listed_days ds bs) t
  unfolding flow_total base_total
  sums_end days base e s i =
      let v = whole_found days base e s ∙ i in
      let f = s.sums v in
      let z = no_more days base e in
      (v, record { days = omega (arith, rw z at f.number); flow = omega (arith, rw z at f.flows); base = omega (arith, rw z at f.bases) })

-- what the totals of valid lists are
pub base_at_most : (ds bs : List ℕ) → any_invalid_base ds bs ≡ false → base_total rounded (listed_days ds bs) ≤ 1000 * flow_total (listed_days ds bs)
unfolding base_days flow_total base_total
base_at_most [] bs e = omega arith
base_at_most (d ∷ ds) [] e = omega arith
base_at_most (d ∷ ds) (b ∷ bs) e = let h = neither_of _ _ (sym (any_base d ds b bs) ∙ e) in by_view (day_of d) (base_of b) h.0 (base_at_most ds bs h.1)
  where
    by_view : (o p : Option ℕ) → is_invalid_base o p ≡ false → base_total rounded (listed_days ds bs) ≤ 1000 * flow_total (listed_days ds bs) → base_total rounded (base_days (o ∷ map day_of ds) (p ∷ map base_of bs)) ≤ 1000 * flow_total (base_days (o ∷ map day_of ds) (p ∷ map base_of bs))
    by_view o none h k = k
    by_view none (some b) h k = k
    by_view (some y) (some b) h k = omega (arith, at_flow y b h)
