-- What reading finds of an entry that was written, and of the entries of a day list.
-- Assumes nothing.
use Prim.Native.Nat.{ℕ, zero, suc, ◌+◌, ◌^◌, ◌/◌, ◌≤◌, ◌<◌}
use mathlib.Core.Path.{◌≡◌, refl, sym, ◌∙◌, ap, ap₂, subst}
use mathlib.Core.Bool.{Bool, true, false, not, true≢false}
use mathlib.Core.Logic.{⊎_elim}
use mathlib.Core.List.{List, [], ◌∷◌, ◌++◌, append_assoc, append-nil}
use mathlib.Core.Option.{none, some}
use native.Mathlib.Nat.{add-zero}
use native.Mathlib.Omega.{arith}
use borrow.Author.Tests.{eqb-true}
use lib.ListN.{length, replicate, length-replicate}
use lib.Seq.{take_at, drop_at}
use Rattle.series.specs.Units.{number, day_limit, flow_limit, missing_mark, is_missing, is_invalid_day}
use Rattle.series.specs.Causes.{first_cause, accepted}
use Rattle.series.specs.Lists.{any_invalid_day}
use Rattle.series.proofs.Tests.{any_day}
use Rattle.series.proofs.Views.{neither_of, lies_within, valid_day, missing_is_mark}
use Rattle.record.specs.declared.entry.Kind.{Kind}
use Rattle.record.specs.declared.entry.Kind.TheVariants.{Head, Flow, MissingDay, MissingDays, End}
use Rattle.record.specs.Entries.{first_day_limit, Entry, entry_of, kind_of, is_end, misplaced, body_length, out_of_range, days_of, value, stated_days, entry_causes}
use Rattle.record.specs.Call.{days_from, first_day_of}
use Rattle.record.specs.Writing.{byte_of, bytes_of, entry_bytes, gap_entry, entries}
use Rattle.record.proofs.EntryOutcomes.{no_cause}
use Rattle.record.proofs.Putting.{bytes_length}
use Rattle.record.proofs.Sentences.{end_entry, other_entry}
use Rattle.record.proofs.Walk.{before, before_none, before_before}

pub number_of_bytes : (k n : ℕ) → n < 256 ^ k → number (bytes_of k n) ≡ n
unfolding number bytes_of
number_of_bytes zero n h = omega arith
number_of_bytes (suc k) n h = omega (arith, number_of_bytes k (n / 256) (omega arith))

named : (k : Kind) → kind_of (byte_of k) ≡ some k
unfolding kind_of
named Head = refl
named Flow = refl
named MissingDay = refl
named MissingDays = refl
named End = refl

-- the entry of a kind and a value, with what stands behind it
abbrev pub written_entry : Kind → ℕ → List ℕ → Entry
written_entry k v tail = record { kind = some k; body = bytes_of (body_length (some k)) v; behind = tail }

module _ (k : Kind) (v : ℕ) (tail : List ℕ) where
  pub found : entry_of (byte_of k) (bytes_of (body_length (some k)) v ++ tail) ≡ written_entry k v tail
  found =
      let body = bytes_of (body_length (some k)) v in
      let l = bytes_length (body_length (some k)) v in
      rw (named k, take_at body tail (body_length (some k)) l, drop_at body tail (body_length (some k)) l) refl

  module _ (first : Bool) (n room : ℕ) (small : v < 256 ^ body_length (some k)) (placed : misplaced first (some k) ≡ false) (in_range : out_of_range (some k) v ≡ false)
      (total : n + length (days_of (some k) v) ≤ day_limit) (fits : n + length (days_of (some k) v) ≤ room) where
    valued : value (written_entry k v tail) ≡ v
    valued = number_of_bytes (body_length (some k)) v small

    clean : (is_end (some k) ≡ true → v ≡ n) → (is_end (some k) ≡ true → length tail ≡ 0) → first_cause (entry_causes first n room (entry_of (byte_of k) (bytes_of (body_length (some k)) v ++ tail))) ≡ none
    clean c l =
        subst (λ (e : Entry). first_cause (entry_causes first n room e) ≡ none) (sym found) (no_cause first n room (written_entry k v tail)
        (record {
          known = refl;
          placed = placed;
          complete = omega (arith, bytes_length (body_length (some k)) v);
          in_range = rw valued in_range;
          total = rw valued total;
          fits = rw valued fits;
          counted = λ e. valued ∙ c e;
          none_behind = l;
        }))

    pub end_read : is_end (some k) ≡ true → v ≡ n → length tail ≡ 0 → days_from first n room 0 (entry_bytes k v ++ tail) ≡ accepted []
    end_read t c l =
        end_entry first n room (byte_of k) (bytes_of (body_length (some k)) v ++ tail) (clean (λ _. c) (λ _. l)) (subst (λ (e : Entry). is_end e.kind ≡ true) (sym found) t)

    pub days_read : is_end (some k) ≡ false → days_from first n room 0 (entry_bytes k v ++ tail) ≡ before (days_of (some k) v) (days_from false (n + length (days_of (some k) v)) room 0 tail)
    days_read t =
        let p = clean (λ e. absurd (true≢false (sym e ∙ t))) (λ e. absurd (true≢false (sym e ∙ t))) in
        let h = other_entry first n room (byte_of k) (bytes_of (body_length (some k)) v ++ tail) p (subst (λ (e : Entry). is_end e.kind ≡ false) (sym found) t) in
        rw valued at (subst (λ (e : Entry). days_from first n room 0 (entry_bytes k v ++ tail) ≡ before (stated_days e) (days_from false (n + length (stated_days e)) room 0 e.behind)) found h)

-- a gap's entry, read
gap_read : (gap n room : ℕ) (tail : List ℕ) → n + gap ≤ day_limit → n + gap ≤ room → days_from false n room 0 (gap_entry gap ++ tail) ≡ before (replicate gap missing_mark) (days_from false (n + gap) room 0 tail)
unfolding gap_entry
gap_read zero n room tail t f = rw (add-zero n) (sym (before_none (days_from false n room 0 tail)))
gap_read (suc zero) n room tail t f = days_read MissingDay 0 tail false n room (omega arith) refl refl t f refl
gap_read (suc (suc g)) n room tail t f =
    let gap = suc (suc g) in
    let long : length (replicate gap missing_mark) ≡ gap = length-replicate gap missing_mark in
    let h = days_read MissingDays gap tail false n room (omega arith) refl (ap not (lies_within 1 65535 gap (omega arith) (omega arith))) (omega (arith, long)) (omega (arith, long)) refl in
    rw long at h

-- a missing day more, in the gap or in front of the days
one_more : (gap day : ℕ) (ds : List ℕ) → replicate (suc gap) day ++ ds ≡ replicate gap day ++ day ∷ ds
one_more zero day ds = refl
one_more (suc gap) day ds = ap (λ l. day ∷ l) (one_more gap day ds)

is_mark : (d : ℕ) → is_missing d ≡ true → d ≡ missing_mark
unfolding is_missing
is_mark d h = eqb-true d missing_mark h

-- what the entries of a gap and of days behind it come to, in front of any bytes and behind n days: the gap and the days,
-- and what the bytes behind them come to
abbrev pub Reads : (gap : ℕ) → (ds : List ℕ) → (n room : ℕ) → (tail : List ℕ) → Type 0
Reads gap ds n room tail = days_from false n room 0 (entries gap ds ++ tail) ≡ before (replicate gap missing_mark ++ ds) (days_from false (n + gap + length ds) room 0 tail)

module _ (gap d : ℕ) (ds : List ℕ) (n room : ℕ) (tail : List ℕ) where
  missing_read : is_missing d ≡ true → Reads (suc gap) ds n room tail → Reads gap (d ∷ ds) n room tail
  unfolding entries
  missing_read h ih =
      let k : n + suc gap + length ds ≡ n + gap + length (d ∷ ds) = omega arith in
      let l : replicate (suc gap) missing_mark ++ ds ≡ replicate gap missing_mark ++ d ∷ ds = one_more gap missing_mark ds ∙ ap (λ x. replicate gap missing_mark ++ x ∷ ds) (sym (is_mark d h)) in
      rw h (ih ∙ ap₂ (λ l m. before l (days_from false m room 0 tail)) l k)

  flow_read : is_missing d ≡ false → d ≤ flow_limit → n + gap + 1 ≤ day_limit → n + gap + 1 ≤ room → Reads 0 ds (n + gap + 1) room tail → Reads gap (d ∷ ds) n room tail
  unfolding entries
  flow_read h l t f ih =
      let gone = replicate gap missing_mark in
      let flow = entry_bytes Flow d in
      let behind = entries 0 ds ++ tail in
      let k : n + gap + 1 + 0 + length ds ≡ n + gap + length (d ∷ ds) = omega arith in
      let g = gap_read gap n room (flow ++ behind) (omega arith) (omega arith) in
      let y = days_read Flow d behind false (n + gap) room (omega arith) refl (ap not (lies_within 0 flow_limit d (omega arith) l)) t f refl in
      rw h (rw (append_assoc (gap_entry gap ++ flow) (entries 0 ds) tail, append_assoc (gap_entry gap) flow behind) (g ∙ ap (before gone) (y ∙ ap (before (d ∷ [])) (ih ∙ ap (λ m. before ds (days_from false m room 0 tail)) k) ∙ before_before (d ∷ []) ds _) ∙ before_before gone (d ∷ ds) _))

-- reading hands over the gap and the days, and goes on behind their entries
pub entries_read : (gap : ℕ) (ds : List ℕ) (n room : ℕ) (tail : List ℕ) → any_invalid_day ds ≡ false → n + gap + length ds ≤ day_limit → n + gap + length ds ≤ room → Reads gap ds n room tail
unfolding entries
entries_read gap [] n room tail v t f = rw (append-nil (replicate gap missing_mark), add-zero (n + gap)) (gap_read gap n room tail (omega arith) (omega arith))
entries_read gap (d ∷ ds) n room tail v t f =
    let w = neither_of (is_invalid_day d) (any_invalid_day ds) (sym (any_day d ds) ∙ v) in
    by_day (is_missing d) refl w.0 (entries_read (suc gap) ds n room tail w.1 (omega arith) (omega arith)) (entries_read 0 ds (n + gap + 1) room tail w.1 (omega arith) (omega arith))
  where
    by_day : (b : Bool) → is_missing d ≡ b → is_invalid_day d ≡ false → Reads (suc gap) ds n room tail → Reads 0 ds (n + gap + 1) room tail → Reads gap (d ∷ ds) n room tail
    by_day true m w p q = missing_read gap d ds n room tail m p
    by_day false m w p q = flow_read gap d ds n room tail m (⊎_elim (λ l. l) (λ e. absurd (missing_is_mark d m e)) (valid_day d w)) (omega arith) (omega arith) q

-- behind the head, what is written comes to the days
pub days_back : (days : List ℕ) (room : ℕ) → any_invalid_day days ≡ false → length days ≤ day_limit → length days ≤ room
    → days_from false 0 room 0 (entries 0 days ++ entry_bytes End (length days)) ≡ accepted days
days_back days room v t f =
    let n = length days in
    let end = entry_bytes End n in
    let all = entries_read 0 days 0 room end v (omega arith) (omega arith) in
    let last = end_read End n [] false n room (omega arith) refl refl (omega arith) (omega arith) refl refl refl in
    let behind : days_from false n room 0 end ≡ accepted [] = ap (days_from false n room 0) (sym (append-nil end)) ∙ last in
    let count : 0 + 0 + n ≡ n = omega arith in
    all ∙ ap (λ m. before days (days_from false m room 0 end)) count ∙ ap (before days) behind ∙ ap accepted (append-nil days)

-- the head gives the first day
pub head_back : (first_day : ℕ) (tail : List ℕ) → first_day ≤ first_day_limit → first_day_of (entry_bytes Head first_day ++ tail) ≡ first_day
unfolding first_day_of
head_back first_day tail h = ap value (found Head first_day tail) ∙ number_of_bytes 4 first_day (omega arith)
