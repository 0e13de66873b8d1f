-- What the private functions promise. None of this stands in the promise of `read`.
use Rattle.std.specs.Prelude.{ℕ, ◌+◌, ◌≤◌, ◌≡◌, Bool, true, false, not, ◌&&◌, ltb, eqb, List, [], ◌∷◌, length, take, drop, Option as Perhaps, MatchOption}
use Rattle.std.proofs.Math.Option.{Option, some, none}
use Rattle.series.specs.Units.{number, day_limit}
use Rattle.series.specs.Causes.{Cause, cause, Outcome, accepted, refused}
use Rattle.record.specs.declared.entry.Kind.{Kind}
use Rattle.record.specs.declared.entry.Kind.TheVariants.{Flow, MissingDay, MissingDays}
use Rattle.record.specs.declared.entry.Entry.{Entry as Found}
use Rattle.record.specs.declared.entry.Entries.{Entries}
use Rattle.record.specs.Entries.{Entry, entry_of, body_length, misplaced, value, entry_causes, out_of_range, days_of, is_end}

-- the entry at the front of bytes; where there are none, one of no kind
abbrev pub front : List ℕ → Entry
front [] = record { kind = none; body = []; behind = [] }
front (b ∷ bs) = entry_of b bs

-- the causes that refuse what stands at the front of bytes: no entry, or the entry's own
abbrev pub front_causes : Bool → ℕ → ℕ → List ℕ → List Cause
front_causes first n room [] = cause true 1 ∷ []
front_causes first n room (b ∷ bs) = entry_causes first n room (entry_of b bs)

-- the last five causes of an entry (`entry_causes`), of one that is whole, by its kind, its value and the bytes behind it
abbrev pub whole_causes : (n room : ℕ) → Option Kind → ℕ → List ℕ → List Cause
whole_causes n room k v behind =
    cause (out_of_range k v) 4
    ∷ cause (ltb day_limit (n + length (days_of k v))) 5
    ∷ cause (ltb room (n + length (days_of k v))) 6
    ∷ cause (is_end k && not (eqb v n)) 7
    ∷ cause (is_end k && ltb 0 (length behind)) 8
    ∷ []

-- an entry that the code found is of a kind, and its body comes first in bytes
pub record OfKind (k : Kind) (bytes : List ℕ) (e : Found) : Type 0 where
  pub kind : e.kind ≡ k
  pub complete : body_length (some k) ≤ length bytes
  pub value : e.value ≡ number (take (body_length (some k)) bytes)
  pub behind : e.behind.now ≡ drop (body_length (some k)) bytes

-- an entry that the code found is the one at the front of bytes, and whole
pub record AtFront (bytes : List ℕ) (e : Found) : Type 0 where
  pub kind : (front bytes).kind ≡ some e.kind
  pub complete : body_length (front bytes).kind ≤ length (front bytes).body
  pub value : e.value ≡ value (front bytes)
  pub behind : e.behind.now ≡ (front bytes).behind

-- and in its place
pub record Placed (first : Bool) (bytes : List ℕ) (e : Found) : Type 0 where
  pub whole : AtFront bytes e
  pub placed : misplaced first (some e.kind) ≡ false

-- the kinds that state days
abbrev pub states_days : Option Kind → Bool
states_days (some Flow) = true
states_days (some MissingDay) = true
states_days (some MissingDays) = true
states_days _ = false

-- a whole entry of days stands at the front of bytes
pub record DaysInFront (bytes : List ℕ) : Type 0 where
  pub stating : states_days (front bytes).kind ≡ true
  pub complete : body_length (front bytes).kind ≤ length (front bytes).body

-- the bytes that the iterator of entries has left
abbrev pub left : Entries → List ℕ
left s = drop s.at s.bytes.now

-- the entries of days, one by one: the one in front and the bytes behind it, or none where no such entry stands there
abbrev pub NextEntry : List ℕ → Perhaps Found → List ℕ → Type 0
NextEntry bytes r after = MatchOption r (DaysInFront bytes → ⊥) (λ e. DaysInFront bytes × AtFront bytes e × (after ≡ e.behind.now))

abbrev pub is_accepted : {A : Type 0} → Outcome A → Bool
is_accepted (accepted a) = true
is_accepted (refused n) = false
