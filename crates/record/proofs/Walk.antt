-- A walk over the bytes behind a head: the days behind it, and what the bytes that are left come to.
-- Assumes nothing.
use Prim.Native.Nat.{ℕ, ◌+◌, ◌≤◌}
use mathlib.Core.Path.{◌≡◌, refl, sym, ◌∙◌, ap, ap₂}
use mathlib.Core.Bool.{Bool, true, false, true≢false}
use mathlib.Core.List.{List, [], ◌∷◌, ◌++◌, append_assoc, append-nil}
use mathlib.Core.Option.{Option, some, none, some-ne-none}
use native.Mathlib.Omega.{arith}
use lib.ListN.{length, length-append}
use Rattle.series.specs.Units.{day_limit}
use Rattle.series.specs.Causes.{first_cause, Outcome, accepted, refused, map_outcome}
use Rattle.record.specs.declared.entry.Kind.{Kind}
use Rattle.record.specs.declared.entry.Kind.TheVariants.{Head, Flow, MissingDay, MissingDays, End}
use Rattle.record.specs.declared.entry.Entry.{Entry as Found}
use Rattle.record.specs.Entries.{entry_of, is_unknown, is_end, misplaced, days_of, stated_days}
use Rattle.record.specs.Call.{days_from}
use Rattle.record.specs.Private.{front, front_causes, AtFront, states_days, DaysInFront, whole_causes}
use Rattle.record.proofs.EntryOutcomes.{Passed, passed}
use Rattle.record.proofs.Fronts.{whole}
use Rattle.record.proofs.Sentences.{no_entry, refused_entry, end_entry, other_entry}

-- days handed over before an outcome's own
abbrev pub before : List ℕ → Outcome (List ℕ) → Outcome (List ℕ)
before front o = map_outcome (λ ds. front ++ ds) o

pub before_none : (o : Outcome (List ℕ)) → before [] o ≡ o
before_none (accepted ds) = refl
before_none (refused n) = refl

pub before_before : (a b : List ℕ) (o : Outcome (List ℕ)) → before a (before b o) ≡ before (a ++ b) o
before_before a b (accepted ds) = ap accepted (sym (append_assoc a b ds))
before_before a b (refused n) = refl

-- the days of an entry that the code found
abbrev pub own_days : Found → List ℕ
own_days e = days_of (some e.kind) e.value

-- what bytes come to, by the first cause of what stands at their front
module _ (first : Bool) (n room : ℕ) where
  pub refused_front : (s : List ℕ) {r : ℕ} → first_cause (front_causes first n room s) ≡ some r → days_from first n room 0 s ≡ refused r
  refused_front [] h = let q = no_entry first n room in cc
  refused_front (b ∷ bs) h = refused_entry first n room b bs h

  pub end_front : (s : List ℕ) → first_cause (front_causes first n room s) ≡ none → is_end (front s).kind ≡ true → days_from first n room 0 s ≡ accepted []
  end_front [] h k = absurd (true≢false (sym k))
  end_front (b ∷ bs) h k = end_entry first n room b bs h k

  pub next_front : (s : List ℕ) {e : Found} → first_cause (front_causes first n room s) ≡ none → AtFront s e → is_end (some e.kind) ≡ false
      → days_from first n room 0 s ≡ before (own_days e) (days_from false (n + length (own_days e)) room 0 e.behind.now)
  next_front [] h w k = absurd (let z = w.kind in cc)
  next_front (b ∷ bs) {e} h w k =
      let d : own_days e ≡ stated_days (entry_of b bs) = ap₂ days_of (sym w.kind) w.value in
      rw (d, w.behind) (other_entry first n room b bs h (rw w.kind k))

-- a walk that has come to the bytes left, with n days behind it
pub record Walked (s : List ℕ) (room : ℕ) (rest : List ℕ) (n : ℕ) : Type 0 where
  pub front : List ℕ
  pub counted : length front ≡ n
  pub left : days_from false 0 room 0 s ≡ before front (days_from false n room 0 rest)
  pub total : n ≤ day_limit
  pub fits : n ≤ room

unfoldable pub begin : (s : List ℕ) (room : ℕ) → Walked s room s 0
begin s room = record { front = []; counted = refl; left = sym (before_none (days_from false 0 room 0 s)); total = omega arith; fits = omega arith }

-- a kind that states days stands behind a head, and is no end; and one that stands there and states none is the end
days_kind : (k : Option Kind) → states_days k ≡ true → (misplaced false k ≡ false) × (is_end k ≡ false)
days_kind (some Head) h = absurd (true≢false (sym h))
days_kind (some Flow) h = (refl, refl)
days_kind (some MissingDay) h = (refl, refl)
days_kind (some MissingDays) h = (refl, refl)
days_kind (some End) h = absurd (true≢false (sym h))
days_kind none h = absurd (true≢false (sym h))

end_kind : (k : Option Kind) → is_unknown k ≡ false → misplaced false k ≡ false → (states_days k ≡ true → ⊥) → is_end k ≡ true
end_kind (some Head) u m h = absurd (true≢false m)
end_kind (some Flow) u m h = absurd (h refl)
end_kind (some MissingDay) u m h = absurd (h refl)
end_kind (some MissingDays) u m h = absurd (h refl)
end_kind (some End) u m h = refl
end_kind none u m h = absurd (true≢false u)

-- what stands at the front with no cause
pub passed_front : (first : Bool) (n room : ℕ) (s : List ℕ) → first_cause (front_causes first n room s) ≡ none → Passed first n room (front s)
passed_front first n room [] h = absurd (some-ne-none 1 h)
passed_front first n room (b ∷ bs) h = passed first n room (entry_of b bs) h

module _ {s : List ℕ} {room : ℕ} {rest : List ℕ} {n : ℕ} (w : Walked s room rest n) where
  pub stopped : {r : ℕ} → first_cause (front_causes false n room rest) ≡ some r → days_from false 0 room 0 s ≡ refused r
  stopped h = w.left ∙ ap (before w.front) (refused_front false n room rest h)

  -- where no whole entry of days stands, what passes is the end
  pub finished : none ≡ first_cause (front_causes false n room rest) → (DaysInFront rest → ⊥) → days_from false 0 room 0 s ≡ accepted w.front
  finished h no_days =
      let p = passed_front false n room rest (sym h) in
      let k = end_kind (front rest).kind p.known p.placed (λ d. no_days (record { stating = d; complete = p.complete })) in
      w.left ∙ ap (before w.front) (end_front false n room rest (sym h) k) ∙ ap accepted (append-nil w.front)

  -- over an entry of days
  module _ {e : Found} {X : Type 0} (step : DaysInFront rest × AtFront rest e × X) where
    pub kind_here : (misplaced false (some e.kind) ≡ false) × (is_end (some e.kind) ≡ false)
    kind_here = days_kind (some e.kind) (ap states_days (sym step.1.kind) ∙ step.0.stating)

    pub causes_here : first_cause (front_causes false n room rest) ≡ first_cause (whole_causes n room (some e.kind) e.value e.behind.now)
    causes_here = whole false n room rest e (record { whole = step.1; placed = kind_here.0 })

    pub refused_step : {r : ℕ} → some r ≡ first_cause (whole_causes n room (some e.kind) e.value e.behind.now) → days_from false 0 room 0 s ≡ refused r
    refused_step h = stopped (causes_here ∙ sym h)

    unfoldable pub next_step : none ≡ first_cause (whole_causes n room (some e.kind) e.value e.behind.now) → {m : ℕ} → (m ≡ n + length (own_days e)) × (m ≤ day_limit) × (m ≤ room) → Walked s room e.behind.now m
    next_step h {m} (c, t, f) =
        record {
          front = w.front ++ own_days e;
          counted = omega (arith, w.counted, length-append w.front (own_days e));
          left = w.left ∙ ap (before w.front) (rw c (next_front false n room rest (causes_here ∙ sym h) step.1 kind_here.1)) ∙ before_before w.front (own_days e) (days_from false m room 0 e.behind.now);
          total = t;
          fits = f;
        }
