-- Entries put into bytes, one behind the other.
-- Assumes nothing.
use Prim.Native.Nat.{ℕ, zero, suc, ◌+◌, ◌*◌, ◌/◌, ◌%◌, ◌≤◌, ◌<◌}
use mathlib.Core.Path.{◌≡◌, refl, sym, ◌∙◌, ap}
use mathlib.Core.Bool.{Bool, true, false, cond}
use mathlib.Core.List.{List, [], ◌∷◌, ◌++◌, append-nil, append_assoc}
use native.Mathlib.Nat.{add-zero, zero-add, add_assoc}
use Rattle.std.proofs.Math.Numerals.{add-one}
use Rattle.std.proofs.lemmas.List.{drop_all}
use native.Mathlib.Omega.{arith}
use borrow.Author.Tests.{ne_eqb}
use lib.Seq.{drop-cons}
use lib.ListN.{length, get_or, take, drop, take-append-drop, length-append, length-take}
use Rattle.std.specs.Int.{to_le_bytes, w32}
use Rattle.numbers.specs.Lists.{stored}
use Rattle.series.specs.Units.{missing_mark, is_missing}
use Rattle.record.specs.declared.entry.Kind.TheVariants.{Head, Flow, End}
use Rattle.record.proofs.Sentences.{missing_days}
use Rattle.record.proofs.WritingWalk.{stored_next}
use Rattle.record.specs.Writing.{bytes_of, entry_bytes, gap_entry, entries, written}

pub bytes_length : (k n : ℕ) → length (bytes_of k n) ≡ k
unfolding bytes_of
bytes_length zero n = refl
bytes_length (suc k) n = ap suc (bytes_length k (n / 256))

-- the library's four bytes of a number are its bytes
pub four_bytes_are : (n : ℕ) → to_le_bytes w32 n ≡ bytes_of 4 n
unfolding bytes_of
four_bytes_are n =
    let third : n / 65536 % 256 ≡ n / 256 / 256 % 256 = omega arith in
    let fourth : n / 16777216 % 256 ≡ n / 256 / 256 / 256 % 256 = omega arith in
    cc

-- the entry of a gap, by its length
pub none_put : (list : List ℕ) (at gap : ℕ) → gap ≡ 0 → list ≡ stored list at (gap_entry gap)
unfolding gap_entry
none_put list at gap h = rw (h, add-zero at, append-nil (take at list)) (sym (take-append-drop at list))

-- one more missing day in a gap of two or more
pub as_long : (gap : ℕ) → 2 ≤ gap → 0 + length (gap_entry gap) ≡ length (gap_entry (gap + 1))
unfolding bytes_of
as_long gap h = rw (missing_days gap h, missing_days (gap + 1) (omega arith)) refl

-- how long entries can be
pub gap_bound : (gap : ℕ) → length (gap_entry gap) ≤ 3
unfolding gap_entry bytes_of
gap_bound zero = omega arith
gap_bound (suc zero) = omega arith
gap_bound (suc (suc n)) = omega arith

flow_length : (gap d : ℕ) (rest : List ℕ) → length (gap_entry gap ++ entry_bytes Flow d ++ rest) ≡ length (gap_entry gap) + 5 + length rest
unfolding bytes_of
flow_length gap d rest = omega (arith, length-append (gap_entry gap ++ entry_bytes Flow d) rest, length-append (gap_entry gap) (entry_bytes Flow d))

gap_step : (gap : ℕ) → length (gap_entry (suc gap)) ≤ length (gap_entry gap) + 5
gap_step gap = omega (arith, gap_bound (suc gap))

pub entries_bound : (gap : ℕ) (days : List ℕ) → length (entries gap days) ≤ length (gap_entry gap) + 5 * length days
unfolding entries gap_entry
entries_bound gap [] = omega arith
entries_bound gap (d ∷ ds) = by_day (is_missing d) (entries_bound (suc gap) ds) (entries_bound 0 ds)
  where
    by_day : (b : Bool) → length (entries (suc gap) ds) ≤ length (gap_entry (suc gap)) + 5 * length ds → length (entries 0 ds) ≤ length (gap_entry 0) + 5 * length ds
        → length (cond b (entries (suc gap) ds) (gap_entry gap ++ entry_bytes Flow d ++ entries 0 ds)) ≤ length (gap_entry gap) + 5 * length (d ∷ ds)
    by_day true h k = omega (arith, h, gap_step gap)
    by_day false h k = omega (arith, k, flow_length gap d (entries 0 ds))

-- the entries of the days from position i on, by the day there
module _ (gap : ℕ) (days : List ℕ) (i : ℕ) (here : i < length days) where
  pub missing_here : get_or days i 0 ≡ missing_mark → entries gap (drop i days) ≡ entries (gap + 1) (drop (i + 1) days)
  unfolding entries is_missing
  missing_here h = rw (drop-cons days i 0 here, h, add-one i, add-one gap) refl

  pub flow_here : (get_or days i 0 ≡ missing_mark → ⊥) → entries gap (drop i days) ≡ gap_entry gap ++ entry_bytes Flow (get_or days i 0) ++ entries 0 (drop (i + 1) days)
  unfolding entries is_missing
  flow_here h = let n = ne_eqb (get_or days i 0) missing_mark h in rw (drop-cons days i 0 here, n, add-one i) refl

  pub flow_long : (get_or days i 0 ≡ missing_mark → ⊥) → length (entries gap (drop i days)) ≡ length (gap_entry gap) + 5 + length (entries 0 (drop (i + 1) days))
  flow_long h = ap length (flow_here h) ∙ flow_length gap (get_or days i 0) (entries 0 (drop (i + 1) days))

pub none_left : (gap : ℕ) (days : List ℕ) (i : ℕ) → length days ≤ i → entries gap (drop i days) ≡ gap_entry gap
unfolding entries
none_left gap days i h = ap (entries gap) (drop_all i days h)

-- what is stored behind what was stored
pub stored_behind : (list : List ℕ) (at : ℕ) (a b : List ℕ) → at + length a ≤ length list → stored (stored list at a) (at + length a) b ≡ stored list at (a ++ b)
stored_behind list at a b fits =
    let h : length (take at list ++ a) ≡ at + length a = omega (arith, length-append (take at list) a, length-take at list) in
    stored_next (take at list ++ a) b list h refl ∙ rw (append_assoc (take at list) a b, length-append a b, add_assoc at (length a) (length b)) refl

-- a gap and then a flow, stored in front of what the days behind it have
pub flow_put : (bytes : List ℕ) (at gap : ℕ) (days : List ℕ) (i : ℕ) → i < length days → (get_or days i 0 ≡ missing_mark → ⊥) → at + length (entries gap (drop i days)) ≤ length bytes
    → {after : List ℕ} {n : ℕ} → after ≡ stored bytes at (gap_entry gap ++ entry_bytes Flow (get_or days i 0)) → n ≡ at + length (gap_entry gap) + 5
    → stored after n (entries 0 (drop (i + 1) days)) ≡ stored bytes at (entries gap (drop i days))
unfolding bytes_of
flow_put bytes at gap days i here h fits {after} {n} e f =
    let flow = entry_bytes Flow (get_or days i 0) in
    let long : length (gap_entry gap ++ flow) ≡ length (gap_entry gap) + 5 = length-append (gap_entry gap) flow in
    let behind : n ≡ at + length (gap_entry gap ++ flow) = omega (arith, f, long) in
    rw (e, behind, flow_here gap days i here h) (stored_behind bytes at (gap_entry gap ++ flow) (entries 0 (drop (i + 1) days)) (omega (arith, fits, flow_long gap days i here h, long)))

-- the whole record
module _ (first_day : ℕ) (days : List ℕ) where
  front_length : length (entry_bytes Head first_day ++ entries 0 days) ≡ 5 + length (entries 0 days)
  unfolding bytes_of
  front_length = length-append (entry_bytes Head first_day) (entries 0 days)

  pub written_length : length (written first_day days) ≡ length (entries 0 days) + 10
  unfolding written bytes_of
  written_length = omega (arith, front_length, length-append (entry_bytes Head first_day ++ entries 0 days) (entry_bytes End (length days)))

  pub written_put : (bytes : List ℕ) → length (written first_day days) ≤ length bytes → {a b c : List ℕ} (m : ℕ) → a ≡ stored bytes 0 (entry_bytes Head first_day) → b ≡ stored a 5 (entries 0 days)
      → m ≡ 5 + length (entries 0 days) → c ≡ stored b m (entry_bytes End (length days))
      → c ≡ written first_day days ++ drop (length (written first_day days)) bytes
  unfolding written bytes_of
  written_put bytes fits m e f g h =
      let front = entry_bytes Head first_day ++ entries 0 days in
      let k : m ≡ 0 + length front = omega (arith, g, front_length) in
      let l : length (written first_day days) ≡ length front + 5 = length-append front (entry_bytes End (length days)) in
      h ∙ rw (f, e, k) (rw (stored_behind bytes 0 (entry_bytes Head first_day) (entries 0 days) (omega (arith, fits, written_length))) (stored_behind bytes 0 front (entry_bytes End (length days)) (omega (arith, fits, l)))) ∙ ap (λ n. written first_day days ++ drop n bytes) (zero-add (length (written first_day days)))
