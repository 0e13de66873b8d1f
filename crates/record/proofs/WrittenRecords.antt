-- READ THIS SECOND. What is written is read again, and two records state the same exactly if the same bytes are written of
-- both. (These are not always the shortest record: two missing days take three bytes, and as two kinds 03 would take two.)
-- Assumes nothing.
use Prim.Native.Nat.{ℕ, ◌+◌, ◌*◌, ◌≤◌}
use mathlib.Core.Path.{◌≡◌, refl, sym, ◌∙◌, ap, ap₂}
use mathlib.Core.Bool.{true, false, not}
use mathlib.Core.List.{List, ◌++◌, append_assoc}
use mathlib.Core.Option.{none}
use mathlib.Core.Logic.{◌↔◌}
use native.Mathlib.Omega.{arith}
use borrow.Author.Tests.{le-ltb, ltb-false}
use lib.Seq.{take-append_seam}
use lib.ListN.{length, take, drop}
use Rattle.series.specs.Units.{day_limit}
use Rattle.series.specs.Causes.{first_cause, accepted}
use Rattle.series.specs.Lists.{any_invalid_day}
use Rattle.record.specs.declared.entry.Kind.TheVariants.{Head, End}
use Rattle.record.specs.Entries.{first_day_limit}
use Rattle.record.specs.Call.{Stated, days_from, first_day_of, reading}
use Rattle.record.specs.Writing.{entry_bytes, gap_entry, entries, written, write_causes, write_leaves}
use Rattle.record.proofs.Accepting.{accepted_record}
use Rattle.series.proofs.Refusing.{passed, same_values, leaves_accepted}
use Rattle.series.proofs.Views.{lies_within, not_outside}
use Rattle.series.proofs.Tests.{few_days, not_too_long}
use Rattle.record.proofs.Walk.{before_none}
use Rattle.record.proofs.Putting.{entries_bound, written_length}
use Rattle.record.proofs.EntriesRead.{days_read, days_back, head_back}
use Rattle.record.proofs.OtherLists.{wider}

-- a first day and days that can be written
pub record Writable (first_day : ℕ) (days : List ℕ) : Type 0 where
  pub in_range : first_day ≤ first_day_limit
  pub within_limit : length days ≤ day_limit
  pub valid : any_invalid_day days ≡ false

-- The call accepts exactly what can be written, into an output that is long enough.
pub write_accepts : (first_day : ℕ) (days bytes : List ℕ) → (first_cause (write_causes first_day days bytes) ≡ none) ↔ (Writable first_day days × (length (written first_day days) ≤ length bytes))
unfolding write_causes
write_accepts first_day days bytes = (
  λ h.
      let p = passed (write_causes first_day days bytes) h in
      (record { in_range = (not_outside 0 first_day_limit first_day (p 4)).1; within_limit = few_days days (p 9); valid = p 10 }, ltb-false (length bytes) (length (written first_day days)) (p 30)),
  λ h.
      let w = h.0 in
      let r = ap not (lies_within 0 first_day_limit first_day (omega arith) w.in_range) in
      let l = le-ltb (length bytes) (length (written first_day days)) h.1 in
      simp (not_too_long days w.within_limit, r, w.valid, l),
)

-- An output with ten bytes, and five for each day, is long enough.
pub longest : (first_day : ℕ) (days : List ℕ) → length (written first_day days) ≤ 5 * length days + 10
unfolding gap_entry
longest first_day days = omega (arith, written_length first_day days, entries_bound 0 days)

-- What is written is read again, into any list that has room for it.
pub reads_back : (first_day : ℕ) (days : List ℕ) → Writable first_day days → (room : ℕ) → length days ≤ room → reading room (written first_day days) ≡ accepted (record { first_day = first_day; days = days })
unfolding reading written
reads_back first_day days w room fits =
    let rest = entries 0 days ++ entry_bytes End (length days) in
    let bytes = entry_bytes Head first_day ++ rest in
    let head = days_read Head first_day rest true 0 room (omega (arith, w.in_range)) refl (ap not (lies_within 0 first_day_limit first_day (omega arith) w.in_range)) (omega arith) (omega arith) refl in
    let all : days_from true 0 room 0 bytes ≡ accepted days = head ∙ before_none (days_from false 0 room 0 rest) ∙ days_back days room w.valid w.within_limit fits in
    let first : first_day_of bytes ≡ first_day = head_back first_day rest w.in_range in
    rw (append_assoc (entry_bytes Head first_day) (entries 0 days) (entry_bytes End (length days)), all, first) refl

-- And so is what the call leaves, as far as the length that it answers.
pub left_reads_back : (first_day : ℕ) (days bytes : List ℕ) → Writable first_day days → length (written first_day days) ≤ length bytes → (room : ℕ) → length days ≤ room
    → reading room (take (length (written first_day days)) (write_leaves first_day days bytes)) ≡ accepted (record { first_day = first_day; days = days })
left_reads_back first_day days bytes w long room fits =
    let record_bytes = written first_day days in
    let left : write_leaves first_day days bytes ≡ record_bytes ++ drop (length record_bytes) bytes = leaves_accepted (write_causes first_day days bytes) (record_bytes ++ drop (length record_bytes) bytes) bytes ((write_accepts first_day days bytes).1 (w, long)) in
    rw (left, take-append_seam record_bytes (drop (length record_bytes) bytes)) (reads_back first_day days w room fits)

-- what is read can be written
pub writable : (room : ℕ) (bytes : List ℕ) {s : Stated} → reading room bytes ≡ accepted s → Writable s.first_day s.days
writable room bytes h = let a = accepted_record room bytes h in record { in_range = a.first_day; within_limit = a.within_limit; valid = a.valid }

abbrev pub written_of : Stated → List ℕ
written_of s = written s.first_day s.days

-- Two records state the same first day and the same days exactly if the same bytes are written of both.
pub same_bytes : (room room' : ℕ) (b b' : List ℕ) {s s' : Stated} → reading room b ≡ accepted s → reading room' b' ≡ accepted s'
    → ((s.first_day ≡ s'.first_day) × (s.days ≡ s'.days)) ↔ (written_of s ≡ written_of s')
same_bytes room room' b b' {s} {s'} h h' = (
  λ e. ap₂ written e.0 e.1,
  λ e.
      let more = room + room' in
      let p = reads_back s.first_day s.days (writable room b h) more (omega (arith, (accepted_record room b h).within_room)) in
      let q = reads_back s'.first_day s'.days (writable room' b' h') more (omega (arith, (accepted_record room' b' h').within_room)) in
      let same : s ≡ s' = same_values (sym p ∙ ap (reading more) e ∙ q) in
      (ap (λ (t : Stated). t.first_day) same, ap (λ (t : Stated). t.days) same),
)

-- Writing what was read of written bytes gives these bytes again.
pub written_again : (first_day : ℕ) (days : List ℕ) → Writable first_day days → (room : ℕ) {s : Stated} → reading room (written first_day days) ≡ accepted s → written_of s ≡ written first_day days
written_again first_day days w room {s} h =
    let more = room + length days in
    let same : s ≡ record { first_day = first_day; days = days } = same_values (sym (wider room more (written first_day days) (omega arith) h) ∙ reads_back first_day days w more (omega arith)) in
    ap written_of same
