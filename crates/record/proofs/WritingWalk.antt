-- The writing walk: the days behind it stand in the list, and the rest is missing.
-- Assumes nothing.
use Prim.Native.Nat.{ℕ, ◌+◌, ◌-◌, ◌≤◌}
use mathlib.Core.Path.{◌≡◌, refl, sym, ◌∙◌, ap, ap₂}
use mathlib.Core.Bool.{Bool, true, false, true≢false}
use mathlib.Core.List.{List, [], ◌∷◌, ◌++◌, append_assoc, append-nil}
use mathlib.Core.Option.{Option, some, none}
use native.Mathlib.Omega.{arith}
use denote.Enum.Bare.{sameb}
use lib.ListN.{length, drop, replicate, length-append, length-drop, length-replicate}
use lib.Seq.{take_at, drop-append-add, drop-drop}
use Rattle.std.proofs.lemmas.List.{drop-replicate, replicate-append-replicate}
use Rattle.numbers.specs.Lists.{stored}
use Rattle.series.specs.Units.{day_limit, missing_mark}
use Rattle.series.specs.Causes.{first_cause, accepted, map_outcome}
use Rattle.series.proofs.Refusing.{never_both}
use Rattle.record.specs.declared.entry.Kind.{Kind}
use Rattle.record.specs.declared.entry.Kind.TheVariants.{Head, Flow, MissingDay, MissingDays, End}
use Rattle.record.specs.contracts.entry.Kind.{the_type}
use Rattle.record.specs.declared.entry.Entry.{Entry as Found}
use Rattle.record.specs.Entries.{days_of, stated_days}
use Rattle.record.specs.Call.{days_from}
use Rattle.record.specs.Private.{front, front_causes, AtFront, DaysInFront}
use Rattle.record.proofs.Walk.{Walked, begin, own_days, passed_front, stopped, finished, causes_here, next_step}

-- so many missing days
abbrev pub missing : ℕ → List ℕ
missing n = replicate n missing_mark

-- a writing walk, and the list of `room` days as it has left it so far
pub record Written (s : List ℕ) (room : ℕ) (rest : List ℕ) (n : ℕ) (days : List ℕ) : Type 0 where
  pub walk : Walked s room rest n
  pub so_far : days ≡ walk.front ++ drop n (missing room)

pub begin_writing : (s : List ℕ) (room : ℕ) {days : List ℕ} → days ≡ missing room → Written s room s 0 days
unfolding begin
begin_writing s room h = record { walk = begin s room; so_far = h }

-- days stored behind those that stand in the list
pub stored_next : (front more list : List ℕ) {n c : ℕ} → length front ≡ n → c ≡ length more → stored (front ++ drop n list) n more ≡ front ++ more ++ drop (n + c) list
stored_next front more list {n} {c} h m =
    rw (take_at front (drop n list) n h, ← m, ← h, drop-append-add front (drop (length front) list) c, drop-drop c (length front) list)

-- a gap that stands in the list already
gap_next : (n c room : ℕ) → n + c ≤ room → drop n (missing room) ≡ missing c ++ drop (n + c) (missing room)
gap_next n c room h =
    let k : room - n ≡ c + (room - (n + c)) = omega (arith, h) in
    rw (drop-replicate n room missing_mark, drop-replicate (n + c) room missing_mark, replicate-append-replicate c (room - (n + c)) missing_mark) (ap missing k)

-- an entry is found to be of a flow
abbrev is_flow : Kind → Bool
is_flow k = sameb the_type k Flow

-- the days of a flow's entry are the flow
flow_days : (k : Kind) (v : ℕ) → is_flow k ≡ true → days_of (some k) v ≡ v ∷ []
flow_days Head v h = absurd (true≢false (sym h))
flow_days Flow v h = refl
flow_days MissingDay v h = absurd (true≢false (sym h))
flow_days MissingDays v h = absurd (true≢false (sym h))
flow_days End v h = absurd (true≢false (sym h))

-- those of any other are missing
other_days : (k : Kind) (v : ℕ) → is_flow k ≡ false → days_of (some k) v ≡ missing (length (days_of (some k) v))
other_days Head v h = refl
other_days Flow v h = absurd (true≢false h)
other_days MissingDay v h = refl
other_days MissingDays v h = ap missing (sym (length-replicate v missing_mark))
other_days End v h = refl

module _ {s : List ℕ} {room : ℕ} {rest : List ℕ} {n : ℕ} {days : List ℕ} (w : Written s room rest n days) (good : map_outcome length (days_from false 0 room 0 s) ≡ accepted room) where
  same_length : length days ≡ room
  same_length = omega (arith, ap length w.so_far, length-append w.walk.front (drop n (missing room)), length-drop n (missing room), length-replicate room missing_mark, w.walk.counted, w.walk.fits)

  no_cause : first_cause (front_causes false n room rest) ≡ none
  no_cause = by_first (first_cause (front_causes false n room rest)) refl
    where
      by_first : (c : Option ℕ) → first_cause (front_causes false n room rest) ≡ c → c ≡ none
      by_first none h = refl
      by_first (some r) h = absurd (never_both (sym (ap (map_outcome length) (stopped w.walk h)) ∙ good))

  pub all_written : (DaysInFront rest → ⊥) → accepted days ≡ days_from false 0 room 0 s
  all_written no_days =
      let f = finished w.walk (sym no_cause) no_days in
      let l : accepted (length w.walk.front) ≡ accepted room = sym (ap (map_outcome length) f) ∙ good in
      let g : length w.walk.front ≡ room = cc in
      let none_left : room - n ≡ 0 = omega (arith, g, w.walk.counted) in
      ap accepted (w.so_far ∙ ap (λ l. w.walk.front ++ l) (drop-replicate n room missing_mark ∙ ap missing none_left) ∙ append-nil w.walk.front) ∙ sym f

  module _ {e : Found} {behind : List ℕ} (step : DaysInFront rest × AtFront rest e × (behind ≡ e.behind.now)) where
    own_are : own_days e ≡ stated_days (front rest)
    own_are = ap₂ days_of (sym step.1.kind) step.1.value

    within_limit : n + length (own_days e) ≤ day_limit
    within_limit = rw own_are (passed_front false n room rest no_cause).total

    within_room : n + length (own_days e) ≤ room
    within_room = rw own_are (passed_front false n room rest no_cause).fits

    pub flow_fits : is_flow e.kind ≡ true → n + 1 ≤ length days
    flow_fits k = omega (arith, within_room, same_length, ap length (flow_days e.kind e.value k))

    next_written : {c : ℕ} {after : List ℕ} → c ≡ length (own_days e) → after ≡ w.walk.front ++ own_days e ++ drop (n + c) (missing room) → Written s room behind (n + c) after
    unfolding next_step
    next_written {c} {after} m h =
        let g : n + c ≤ room = omega (arith, within_room, m) in
        let t : n + c ≤ day_limit = omega (arith, within_limit, m) in
        rw step.2 (record { walk = next_step w.walk step (sym no_cause ∙ causes_here w.walk step) (ap (λ k. n + k) m, t, g); so_far = h })

    pub flow_written : {c : ℕ} {after : List ℕ} → is_flow e.kind ≡ true → c ≡ length (own_days e) → after ≡ stored days n (e.value ∷ []) → Written s room behind (n + c) after
    flow_written {c} {after} k m h =
        let own = ap (stored days n) (sym (flow_days e.kind e.value k)) in
        next_written m (h ∙ own ∙ ap (λ d. stored d n (own_days e)) w.so_far ∙ stored_next w.walk.front (own_days e) (missing room) w.walk.counted m)

    -- what is missing stands there already
    pub gap_written : {c : ℕ} {after : List ℕ} → is_flow e.kind ≡ false → c ≡ length (own_days e) → after ≡ days → Written s room behind (n + c) after
    gap_written {c} {after} k m h =
        let own : missing c ≡ own_days e = ap missing m ∙ sym (other_days e.kind e.value k) in
        let left = gap_next n c room (omega (arith, m, within_room)) ∙ ap (λ o. o ++ drop (n + c) (missing room)) own in
        next_written m (h ∙ w.so_far ∙ ap (λ l. w.walk.front ++ l) left ∙ sym (append_assoc w.walk.front (own_days e) (drop (n + c) (missing room))))
