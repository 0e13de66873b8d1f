-- Reading into another list: into a longer one, or into one that the days fill.
-- Assumes nothing.
use Prim.Native.Nat.{ℕ, zero, suc, ◌+◌, ◌≤◌}
use mathlib.Core.Path.{◌≡◌, refl, sym, ap}
use mathlib.Core.Bool.{Bool, true, false, true≢false}
use mathlib.Core.List.{List, [], ◌∷◌}
use mathlib.Core.Option.{Option, none, some}
use native.Mathlib.Omega.{arith}
use lib.ListN.{length, length-append}
use Rattle.series.specs.Causes.{first_cause, Outcome, accepted}
use Rattle.series.proofs.Refusing.{never_both}
use Rattle.record.specs.declared.entry.Kind.{Kind}
use Rattle.record.specs.declared.entry.Kind.TheVariants.{Head, Flow, MissingDay, MissingDays, End}
use Rattle.record.specs.Entries.{Entry, entry_of, kind_of, is_end, days_of, value, body_length, stated_days, entry_causes}
use Rattle.record.specs.Call.{Stated, entry_then, days_from, reading}
use Rattle.record.proofs.EntryOutcomes.{Passed, no_cause, AcceptedEntry, at_end, goes_on, accepted_entry}
use Rattle.record.proofs.Soundness.{sound, from_all}

-- the end states no days
end_states_none : (k : Option Kind) (v : ℕ) → is_end k ≡ true → days_of k v ≡ []
end_states_none (some End) v h = refl
end_states_none (some Head) v h = refl
end_states_none (some Flow) v h = absurd (true≢false (sym h))
end_states_none (some MissingDay) v h = absurd (true≢false (sym h))
end_states_none (some MissingDays) v h = absurd (true≢false (sym h))
end_states_none none v h = refl

-- an entry whose days have room in another list, and what follows it there
entry_there : (first : Bool) (n : ℕ) {room : ℕ} (other : ℕ) (e : Entry) {further : ℕ → Outcome (List ℕ)} (there : ℕ → Outcome (List ℕ)) {ds : List ℕ} → n + length ds ≤ other
    → ((m : ℕ) (rest : List ℕ) → m + length rest ≤ other → further m ≡ accepted rest → there m ≡ accepted rest) → AcceptedEntry first n room e further ds → entry_then first n other e there ≡ accepted ds
unfolding entry_then
entry_there first n {room} other e {further} there {ds} l ih a = by_entry a
  where
    passes : Passed first n room e → n + length (stated_days e) ≤ other → first_cause (entry_causes first n other e) ≡ none
    passes p f =
        no_cause first n other e
        (record { known = p.known; placed = p.placed; complete = p.complete; in_range = p.in_range; total = p.total; fits = f; counted = p.counted; none_behind = p.none_behind })

    by_entry : AcceptedEntry first n room e further ds → entry_then first n other e there ≡ accepted ds
    by_entry (at_end p k h) = rw (passes p (omega (arith, l, ap length (end_states_none e.kind (value e) k))), k, h) refl
    by_entry (goes_on rest p k q h) =
        let m : length ds ≡ length (stated_days e) + length rest = rw h (length-append (stated_days e) rest) in
        rw (passes p (omega (arith, l, m)), k, ih _ rest (omega (arith, l, m)) q, h) refl

-- days that have room in another list are read into it likewise
days_there : (first : Bool) (n room other over : ℕ) (bytes : List ℕ) {ds : List ℕ} → n + length ds ≤ other → days_from first n room over bytes ≡ accepted ds → days_from first n other over bytes ≡ accepted ds
unfolding days_from
days_there first n room other over [] l h = absurd (never_both h)
days_there first n room other (suc over) (b ∷ bs) l h = days_there first n room other over bs l h
days_there first n room other zero (b ∷ bs) l h =
    entry_there first n other (entry_of b bs) (λ m. days_from false m other (body_length (kind_of b)) bs) l (λ m rest k g. days_there false m room other (body_length (kind_of b)) bs k g)
    (accepted_entry first n room (entry_of b bs) (λ m. days_from false m room (body_length (kind_of b)) bs) h)

-- What is read needs no more than its own room.
pub wider : (room more : ℕ) (bytes : List ℕ) {s : Stated} → room ≤ more → reading room bytes ≡ accepted s → reading more bytes ≡ accepted s
unfolding reading
wider room more bytes {s} l h =
    let f = from_all room bytes h in
    rw (days_there true 0 room more 0 bytes (omega (arith, l, (sound true 0 room 0 bytes f.0).fits)) f.0) (ap (λ d. accepted (record { first_day = d; days = s.days })) (sym f.1))

-- The days behind a head are read into a list that they fill.
pub filling : (room : ℕ) (bytes : List ℕ) {ds : List ℕ} → days_from false 0 room 0 bytes ≡ accepted ds → days_from false 0 (length ds) 0 bytes ≡ accepted ds
filling room bytes {ds} h = days_there false 0 room (length ds) 0 bytes (omega arith) h
