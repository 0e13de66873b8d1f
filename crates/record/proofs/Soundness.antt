-- What is accepted is sound: the days that bytes state fit behind the days before them and are flows or missing, and the
-- first day is in range.
-- Assumes nothing.
use Prim.Native.Nat.{ℕ, zero, suc, ◌+◌, ◌≤◌}
use mathlib.Core.Path.{◌≡◌, sym, ◌∙◌, ap}
use mathlib.Core.Bool.{Bool, true, false}
use mathlib.Core.List.{List, [], ◌∷◌}
use mathlib.Core.Option.{Option, some, none}
use native.Mathlib.Omega.{arith}
use lib.ListN.{length, length-append}
use Rattle.series.specs.Units.{day_limit, flow_limit}
use Rattle.series.specs.Causes.{Outcome, accepted, refused, map_outcome}
use Rattle.series.specs.Lists.{any_invalid_day}
use Rattle.series.proofs.Refusing.{never_both}
use Rattle.series.proofs.Views.{valid_flow, not_outside}
use Rattle.series.proofs.Tests.{no_invalid_day, any_day, any_append, valid_gap}
use Rattle.record.specs.declared.entry.Kind.{Kind}
use Rattle.record.specs.declared.entry.Kind.TheVariants.{Head, Flow, MissingDay, MissingDays, End}
use Rattle.record.specs.Entries.{first_day_limit, Entry, entry_of, kind_of, body_length, out_of_range, days_of, value, stated_days}
use Rattle.record.specs.Call.{Stated, days_from, first_day_of, reading}
use Rattle.record.proofs.EntryOutcomes.{head_first, AcceptedEntry, at_end, goes_on, accepted_entry, entry_passed}

-- the days of an entry whose value is in range are flows or missing
valid_days : (k : Option Kind) (v : ℕ) → out_of_range k v ≡ false → any_invalid_day (days_of k v) ≡ false
valid_days (some Head) v h = no_invalid_day
valid_days (some Flow) v h = rw (any_day v [], valid_flow v (not_outside 0 flow_limit v h).1) no_invalid_day
valid_days (some MissingDay) v h = valid_gap 1
valid_days (some MissingDays) v h = valid_gap v
valid_days (some End) v h = no_invalid_day
valid_days none v h = no_invalid_day

-- what holds of the days that bytes state behind n days
pub record SoundDays (n room : ℕ) (ds : List ℕ) : Type 0 where
  pub total : n + length ds ≤ day_limit
  pub fits : n + length ds ≤ room
  pub valid : any_invalid_day ds ≡ false

entry_sound : {first : Bool} {n room : ℕ} {e : Entry} {further : ℕ → Outcome (List ℕ)} {ds : List ℕ}
    → ((m : ℕ) (rest : List ℕ) → further m ≡ accepted rest → SoundDays m room rest) → AcceptedEntry first n room e further ds → SoundDays n room ds
entry_sound ih (at_end p k h) = rw h (record { total = omega (arith, p.total); fits = omega (arith, p.fits); valid = no_invalid_day })
entry_sound {n = n} {e = e} ih (goes_on rest p k q h) =
    let s = ih (n + length (stated_days e)) rest q in
    let l = length-append (stated_days e) rest in
    rw h
    (record {
      total = omega (arith, s.total);
      fits = omega (arith, s.fits);
      valid = any_append (stated_days e) rest ∙ simp (valid_days e.kind (value e) p.in_range, s.valid);
    })

pub sound : (first : Bool) (n room over : ℕ) (bytes : List ℕ) {ds : List ℕ} → days_from first n room over bytes ≡ accepted ds → SoundDays n room ds
unfolding days_from
sound first n room over [] h = absurd (never_both h)
sound first n room (suc over) (b ∷ bs) h = sound first n room over bs h
sound first n room zero (b ∷ bs) h =
    entry_sound (λ m rest g. sound false m room (body_length (kind_of b)) bs g) (accepted_entry first n room (entry_of b bs) (λ m. days_from false m room (body_length (kind_of b)) bs) h)

-- the first entry is a head, whose value is in range
pub head_in_range : (room : ℕ) (bytes : List ℕ) {ds : List ℕ} → days_from true 0 room 0 bytes ≡ accepted ds → first_day_of bytes ≤ first_day_limit
unfolding days_from first_day_of
head_in_range room [] h = absurd (never_both h)
head_in_range room (b ∷ bs) h =
    let p = entry_passed (accepted_entry true 0 room (entry_of b bs) (λ m. days_from false m room (body_length (kind_of b)) bs) h) in
    (not_outside 0 first_day_limit (value (entry_of b bs)) (sym (ap (λ k. out_of_range k (value (entry_of b bs))) (head_first (kind_of b) p.placed)) ∙ p.in_range)).1

-- what is accepted is what all bytes state, behind no days
pub from_all : (room : ℕ) (bytes : List ℕ) {s : Stated} → reading room bytes ≡ accepted s → (days_from true 0 room 0 bytes ≡ accepted s.days) × (s.first_day ≡ first_day_of bytes)
unfolding reading
from_all room bytes {s} h = by_outcome (days_from true 0 room 0 bytes) h
  where
    by_outcome : (o : Outcome (List ℕ)) → map_outcome (λ ds. record { first_day = first_day_of bytes; days = ds }) o ≡ accepted s → (o ≡ accepted s.days) × (s.first_day ≡ first_day_of bytes)
    by_outcome (accepted ds) g =
        let e : ◌≡◌ {A = Stated} (record { first_day = first_day_of bytes; days = ds }) s = cc in
        (ap accepted (ap (λ (t : Stated). t.days) e), sym (ap (λ (t : Stated). t.first_day) e))
    by_outcome (refused r) g = absurd (never_both g)
