-- What a caller of `read` may use: what holds of every accepted record, what an answer says of the record, and how the
-- day list stands afterwards.
-- Assumes nothing.
use Prim.Native.Nat.{ℕ, zero, suc, ◌+◌, ◌≤◌}
use mathlib.Core.Path.{◌≡◌, refl, sym, ◌∙◌, ap, subst}
use mathlib.Core.Bool.{Bool, true, false, cond, true≢false}
use mathlib.Core.List.{List, [], ◌∷◌, ◌++◌}
use mathlib.Core.Option.{Option, none, some}
use native.Mathlib.Nat.{zero-add}
use native.Mathlib.Omega.{arith}
use borrow.Author.Rules.{rules}
use lib.ListN.{length, take, drop, length-append, length-drop}
use lib.Seq.{take-append_seam, drop-append_seam}
use Rattle.series.specs.Units.{day_limit}
use Rattle.series.specs.Causes.{first_cause, by_cause, Outcome, accepted, refused, map_outcome}
use Rattle.series.proofs.Refusing.{never_both, refusal_among}
use Rattle.series.specs.Lists.{any_invalid_day}
use Rattle.record.specs.Entries.{first_day_limit, Entry, entry_of, kind_of, is_end, body_length, stated_days, entry_causes}
use Rattle.record.specs.declared.Reply.{Reply}
use Rattle.record.specs.Call.{Stated, entry_then, days_from, first_day_of, reading, reply_of, read_leaves}
use Rattle.record.specs.Private.{is_accepted}
use Rattle.record.proofs.Soundness.{sound, head_in_range, from_all}

-- every accepted record
pub record AcceptedRecord (room : ℕ) (s : Stated) : Type 0 where
  pub within_limit : length s.days ≤ day_limit
  pub within_room : length s.days ≤ room
  pub valid : any_invalid_day s.days ≡ false
  pub first_day : s.first_day ≤ first_day_limit

pub accepted_record : (room : ℕ) (bytes : List ℕ) {s : Stated} → reading room bytes ≡ accepted s → AcceptedRecord room s
accepted_record room bytes h =
    let f = from_all room bytes h in
    let d = sound true 0 room 0 bytes f.0 in
    record { within_limit = omega (arith, d.total); within_room = omega (arith, d.fits); valid = d.valid; first_day = omega (arith, f.1, head_in_range room bytes f.0) }

-- an answer with values: the record states them
pub record Answered (room : ℕ) (bytes : List ℕ) (first count : ℕ) : Type 0 where
  pub stated : Stated
  pub reads : reading room bytes ≡ accepted stated
  pub first_day : stated.first_day ≡ first
  pub day_count : length stated.days ≡ count
  pub holds : AcceptedRecord room stated

pub answered : (room : ℕ) (bytes : List ℕ) {f n : ℕ} → accepted (record { first_day = f; day_count = n }) ≡ reply_of (reading room bytes) → Answered room bytes f n
answered room bytes {f} {n} h = by_outcome (reading room bytes) refl h
  where
    by_outcome : (o : Outcome Stated) → reading room bytes ≡ o → accepted (record { first_day = f; day_count = n }) ≡ reply_of o → Answered room bytes f n
    by_outcome (accepted s) e g =
        let q : ◌≡◌ {A = Reply} (record { first_day = s.first_day; day_count = length s.days }) (record { first_day = f; day_count = n }) = cc in
        record { stated = s; reads = e; first_day = ap (λ (r : Reply). r.first_day) q; day_count = ap (λ (r : Reply). r.day_count) q; holds = accepted_record room bytes e }
    by_outcome (refused r) e g = absurd (never_both (sym g))

-- an answer with a refusal: the record is refused so
pub refused_so : (o : Outcome Stated) {r : ℕ} → refused r ≡ reply_of o → o ≡ refused r
refused_so (accepted s) h = absurd (never_both h)
refused_so (refused r) h = cc

pub same_verdict : (o : Outcome Stated) → is_accepted (reply_of o) ≡ is_accepted o
same_verdict (accepted s) = refl
same_verdict (refused r) = refl

-- the day list afterwards: as it was after a refusal; else as long as it was, with the stated days first and the rest kept
pub kept : (o : Outcome Stated) (list : List ℕ) → is_accepted o ≡ false → list ≡ read_leaves o list
kept (accepted s) list h = absurd (true≢false h)
kept (refused r) list h = refl

module _ (list : List ℕ) where
  pub stored_days : (s : Stated) → read_leaves (accepted s) list ≡ s.days ++ drop (length s.days) list
  stored_days s = ap (λ n. s.days ++ drop n list) (zero-add (length s.days))

  pub list_length : (bytes : List ℕ) → length (read_leaves (reading (length list) bytes) list) ≡ length list
  list_length bytes = by_outcome (reading (length list) bytes) refl
    where
      by_outcome : (o : Outcome Stated) → reading (length list) bytes ≡ o → length (read_leaves o list) ≡ length list
      by_outcome (accepted s) h =
          omega (arith, ap length (stored_days s), length-append s.days (drop (length s.days) list), length-drop (length s.days) list, (accepted_record (length list) bytes h).within_room)
      by_outcome (refused r) h = refl

  pub stated_first : (s : Stated) → take (length s.days) (read_leaves (accepted s) list) ≡ s.days
  stated_first s = ap (take (length s.days)) (stored_days s) ∙ take-append_seam s.days (drop (length s.days) list)

  pub rest_kept : (s : Stated) → drop (length s.days) (read_leaves (accepted s) list) ≡ drop (length s.days) list
  rest_kept s = ap (drop (length s.days)) (stored_days s) ∙ drop-append_seam s.days (drop (length s.days) list)

-- a refusal of reading has a number from 1 to 8
abbrev pub ReadingNumber : ℕ → Type 0
ReadingNumber n = (1 ≤ n) × (n ≤ 8)

entry_refused : (first : Bool) (n room : ℕ) (e : Entry) (o : Outcome (List ℕ)) {r : ℕ} → ((m : ℕ) → o ≡ refused m → ReadingNumber m) → entry_then first n room e (λ _. o) ≡ refused r → ReadingNumber r
unfolding entry_then entry_causes
entry_refused first n room e o {r} further h = by_first (first_cause (entry_causes first n room e)) refl (is_end e.kind) o further h
  where
    by_first : (c : Option ℕ) → first_cause (entry_causes first n room e) ≡ c → (b : Bool) (o : Outcome (List ℕ)) → ((m : ℕ) → o ≡ refused m → ReadingNumber m)
        → by_cause c refused (cond b (accepted []) (map_outcome (λ ds. stated_days e ++ ds) o)) ≡ refused r → ReadingNumber r
    by_first (some k) q b o further g = let same : k ≡ r = cc in subst ReadingNumber same (refusal_among ReadingNumber (entry_causes first n room e) (search rules) q)
    by_first none q true o further g = absurd (never_both (sym g))
    by_first none q false (accepted ds) further g = absurd (never_both (sym g))
    by_first none q false (refused m) further g = further r (cc)

days_refused : (first : Bool) (n room over : ℕ) (bytes : List ℕ) {r : ℕ} → days_from first n room over bytes ≡ refused r → ReadingNumber r
unfolding days_from entry_then
days_refused first n room over [] {r} h = let same : 1 ≡ r = cc in (omega arith, omega arith)
days_refused first n room (suc over) (b ∷ bs) h = days_refused first n room over bs h
days_refused first n room zero (b ∷ bs) {r} h =
    let e = entry_of b bs in
    let m = n + length (stated_days e) in
    entry_refused first n room e (days_from false m room (body_length (kind_of b)) bs) (λ k. days_refused false m room (body_length (kind_of b)) bs) h

pub reading_refused : (room : ℕ) (bytes : List ℕ) {r : ℕ} → reading room bytes ≡ refused r → ReadingNumber r
unfolding reading
reading_refused room bytes {r} h = by_outcome (days_from true 0 room 0 bytes) (λ k. days_refused true 0 room 0 bytes) h
  where
    by_outcome : (o : Outcome (List ℕ)) → ((k : ℕ) → o ≡ refused k → ReadingNumber k) → map_outcome {B = Stated} (λ ds. record { first_day = first_day_of bytes; days = ds }) o ≡ refused r → ReadingNumber r
    by_outcome (accepted ds) f g = absurd (never_both (sym g))
    by_outcome (refused k) f g = f r (cc)
