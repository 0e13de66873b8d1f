-- What all bytes come to: by the head in front, and then by the days behind it.
-- Assumes nothing.
use Prim.Native.Nat.{ℕ, ◌≤◌}
use mathlib.Core.Path.{◌≡◌, refl, sym, ◌∙◌, ap, ap₂}
use mathlib.Core.Bool.{true, false}
use mathlib.Core.List.{List, [], ◌∷◌, ◌++◌}
use mathlib.Core.Option.{some, none}
use native.Mathlib.Omega.{arith}
use lib.ListN.{length, take, drop, length-take}
use Rattle.series.specs.Causes.{first_cause, Outcome, accepted, refused, map_outcome}
use Rattle.series.proofs.Refusing.{never_both}
use Rattle.record.specs.declared.entry.Entry.{Entry as Found}
use Rattle.record.specs.Entries.{entry_of, value, is_end, days_of}
use Rattle.record.specs.Call.{Stated, days_from, first_day_of, reading, reply_of, read_leaves}
use Rattle.record.specs.Private.{front_causes, Placed}
use Rattle.record.proofs.EntryOutcomes.{head_first}
use Rattle.record.proofs.Soundness.{sound}
use Rattle.record.proofs.Accepting.{stored_days}
use Rattle.record.proofs.OtherLists.{filling}
use Rattle.record.proofs.Walk.{before_none, own_days, refused_front, next_front}

-- a first day, and days behind it
abbrev pub with_first : ℕ → Outcome (List ℕ) → Outcome Stated
with_first f o = map_outcome (λ ds. record { first_day = f; days = ds }) o

pub no_head : (room : ℕ) (s : List ℕ) {r : ℕ} → some r ≡ first_cause (front_causes true 0 room s) → reading room s ≡ refused r
unfolding reading
no_head room s h = ap (with_first (first_day_of s)) (refused_front true 0 room s (sym h))

pub head_read : (room : ℕ) (s : List ℕ) {e : Found} → none ≡ first_cause (front_causes true 0 room s) → Placed true s e
    → reading room s ≡ with_first e.value (days_from false 0 room 0 e.behind.now)
unfolding reading first_day_of
head_read room [] h p = absurd (let z = p.whole.kind in cc)
head_read room (b ∷ bs) {e} h p =
    let k = head_first (some e.kind) p.placed in
    let d : own_days e ≡ [] = ap (λ k. days_of k e.value) k in
    let n = next_front true 0 room (b ∷ bs) (sym h) p.whole (ap is_end k) in
    let days = days_from false 0 room 0 e.behind.now in
    ap (with_first (value (entry_of b bs))) (rw d at n ∙ before_none days) ∙ ap (λ f. with_first f days) (sym p.whole.value)

-- what the answer has of days behind a head, by their outcome and their number, and what the list has of them
module _ (first_day : ℕ) where
  pub replied : (d : Outcome (List ℕ)) {counted : Outcome ℕ} → counted ≡ map_outcome length d
      → map_outcome (λ n. record { first_day = first_day; day_count = n }) counted ≡ reply_of (with_first first_day d)
  replied (accepted ds) h = rw h
  replied (refused r) h = rw h

  pub list_left : (d : Outcome (List ℕ)) {r : ℕ} (list : List ℕ) → refused r ≡ map_outcome length d → list ≡ read_leaves (with_first first_day d) list
  list_left (accepted ds) list h = absurd (never_both h)
  list_left (refused r) list h = refl

-- the days behind a head, counted for a list: they fill its front
record Counted (room : ℕ) (s : List ℕ) (n : ℕ) : Type 0 where
  days : List ℕ
  all : days_from false 0 room 0 s ≡ accepted days
  count : length days ≡ n

counted : (room : ℕ) (s : List ℕ) {n : ℕ} → accepted n ≡ map_outcome length (days_from false 0 room 0 s) → Counted room s n
counted room s {n} h = by_outcome (days_from false 0 room 0 s) refl h
  where
    by_outcome : (o : Outcome (List ℕ)) → days_from false 0 room 0 s ≡ o → accepted n ≡ map_outcome length o → Counted room s n
    by_outcome (accepted ds) q g = record { days = ds; all = q; count = (cc) }
    by_outcome (refused r) q g = absurd (never_both (sym g))

module _ (list s : List ℕ) {n : ℕ} (h : accepted n ≡ map_outcome length (days_from false 0 (length list) 0 s)) where
  abbrev c : Counted (length list) s n
  c = counted (length list) s h

  pub count_fits : n ≤ length list
  count_fits = omega (arith, c.count, (sound false 0 (length list) 0 s c.all).fits)

  pub front_length : n ≡ length (take n list)
  front_length = omega (arith, count_fits, length-take n list)

  front_reads : days_from false 0 (length (take n list)) 0 s ≡ accepted c.days
  front_reads = ap (λ k. days_from false 0 k 0 s) (sym (c.count ∙ front_length)) ∙ filling (length list) s c.all

  pub front_filled : map_outcome length (days_from false 0 (length (take n list)) 0 s) ≡ accepted (length (take n list))
  front_filled = ap (map_outcome length) front_reads ∙ ap accepted (c.count ∙ front_length)

  pub list_written : (first_day : ℕ) {days : List ℕ} → accepted days ≡ days_from false 0 (length (take n list)) 0 s
      → days ++ drop n list ≡ read_leaves (with_first first_day (days_from false 0 (length list) 0 s)) list
  list_written first_day {days} g =
      let same : accepted days ≡ accepted c.days = g ∙ front_reads in
      let d : days ≡ c.days = cc in
      ap₂ (λ l k. l ++ drop k list) d (sym c.count) ∙ sym (stored_days list (record { first_day = first_day; days = c.days })) ∙ sym (ap (λ o. read_leaves (with_first first_day o) list) c.all)
