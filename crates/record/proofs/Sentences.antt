-- READ THIS FIRST. Document 01's sentences on reading, entry by entry, of the definition in specs/Call.antt, which
-- passes over a body byte by byte. Between them they say what any bytes come to. And those on gaps in what is written, of
-- the definition in specs/Writing.antt, which takes days one by one.
-- Assumes nothing.
use Prim.Native.Nat.{ℕ, zero, suc, ◌+◌, ◌*◌, ◌≤◌}
use mathlib.Core.Path.{◌≡◌, refl, sym, ◌∙◌, ap}
use mathlib.Core.Bool.{Bool, true, false}
use mathlib.Core.List.{List, [], ◌∷◌, ◌++◌, append-nil}
use mathlib.Core.Option.{none, some}
use native.Mathlib.Nat.{add-zero, zero-add}
use native.Mathlib.Omega.{arith}
use lib.ListN.{length, get_or, take, drop, replicate, length-drop}
use Rattle.std.proofs.lemmas.List.{get_or-drop}
use Rattle.series.specs.Causes.{first_cause, accepted, refused, map_outcome}
use Rattle.series.specs.Units.{number, missing_mark, is_missing}
use Rattle.record.specs.Entries.{Entry, entry_of, is_end, body_length, stated_days, entry_causes}
use Rattle.record.specs.Call.{entry_then, days_from}
use Rattle.record.specs.Writing.{bytes_of, gap_entry, entries}
use Rattle.series.proofs.Bytes.{two_bytes, four_bytes}

-- A number of a record, wherever it stands in the bytes, is theirs, the lowest byte first.
module _ (bytes : List ℕ) (at : ℕ) where
  pub four_byte_number : at + 4 ≤ length bytes → number (take 4 (drop at bytes)) ≡ get_or bytes at 0 + 256 * get_or bytes (at + 1) 0 + 65536 * get_or bytes (at + 2) 0 + 16777216 * get_or bytes (at + 3) 0
  four_byte_number h = omega (arith, four_bytes (drop at bytes) (omega (arith, length-drop at bytes)), rw add-zero at (get_or-drop at bytes 0 0), get_or-drop at bytes 1 0, get_or-drop at bytes 2 0, get_or-drop at bytes 3 0)

  pub two_byte_number : at + 2 ≤ length bytes → number (take 2 (drop at bytes)) ≡ get_or bytes at 0 + 256 * get_or bytes (at + 1) 0
  two_byte_number h = omega (arith, two_bytes (drop at bytes) (omega (arith, length-drop at bytes)), rw add-zero at (get_or-drop at bytes 0 0), get_or-drop at bytes 1 0)

-- reading behind a body is reading the bytes behind it
pub pass_over : (first : Bool) (n room over : ℕ) (bytes : List ℕ) → days_from first n room over bytes ≡ days_from first n room 0 (drop over bytes)
unfolding days_from
pass_over first n room zero bytes = refl
pass_over first n room (suc over) [] = refl
pass_over first n room (suc over) (b ∷ bs) = pass_over first n room over bs

module _ (first : Bool) (n room : ℕ) where
  -- no bytes, or bytes that stop before an end entry: 1
  pub no_entry : days_from first n room 0 [] ≡ refused 1
  unfolding days_from
  no_entry = refl

  module _ (b : ℕ) (bs : List ℕ) where
    abbrev e : Entry
    e = entry_of b bs

    -- an entry with a cause: refused with the number of the first that holds
    pub refused_entry : {r : ℕ} → first_cause (entry_causes first n room e) ≡ some r → days_from first n room 0 (b ∷ bs) ≡ refused r
    unfolding days_from entry_then
    refused_entry h = rw h

    -- an end entry with no cause: accepted, with no more days
    pub end_entry : first_cause (entry_causes first n room e) ≡ none → is_end e.kind ≡ true → days_from first n room 0 (b ∷ bs) ≡ accepted []
    unfolding days_from entry_then
    end_entry h k = rw (h, k)

    -- any other entry with no cause: its days, and what the bytes behind it come to
    pub other_entry : first_cause (entry_causes first n room e) ≡ none → is_end e.kind ≡ false
        → days_from first n room 0 (b ∷ bs) ≡ map_outcome (λ ds. stated_days e ++ ds) (days_from false (n + length (stated_days e)) room 0 e.behind)
    unfolding days_from entry_then
    other_entry h k = rw (h, k, pass_over false (n + length (stated_days e)) room (body_length e.kind) bs)

-- what is written of a gap: of one missing day kind 03, of two or more one kind 04
pub one_missing_day : gap_entry 1 ≡ 0x03 ∷ []
unfolding gap_entry bytes_of
one_missing_day = refl

pub missing_days : (n : ℕ) → 2 ≤ n → gap_entry n ≡ 0x04 ∷ bytes_of 2 n
unfolding gap_entry
missing_days zero h = absurd (omega arith)
missing_days (suc zero) h = absurd (omega arith)
missing_days (suc (suc n)) h = refl

gap_grows : (gap n : ℕ) (ds : List ℕ) → entries gap (replicate n missing_mark ++ ds) ≡ entries (gap + n) ds
unfolding entries is_missing
gap_grows gap zero ds = ap (λ g. entries g ds) (sym (add-zero gap))
gap_grows gap (suc n) ds = let e : suc gap + n ≡ gap + suc n = omega arith in gap_grows (suc gap) n ds ∙ ap (λ g. entries g ds) e

-- missing days and then a flow: the entry of the gap, then the flow's, then those of the days behind it, with a gap of their own
pub gap_then_flow : (n d : ℕ) (ds : List ℕ) → is_missing d ≡ false → entries 0 (replicate n missing_mark ++ d ∷ ds) ≡ gap_entry n ++ (0x02 ∷ bytes_of 4 d) ++ entries 0 ds
unfolding entries
gap_then_flow n d ds h = gap_grows 0 n (d ∷ ds) ∙ rw (h, zero-add n) refl

-- missing days up to the end: the entry of the gap
pub gap_then_end : (n : ℕ) → entries 0 (replicate n missing_mark) ≡ gap_entry n
unfolding entries
gap_then_end n = ap (entries 0) (sym (append-nil (replicate n missing_mark))) ∙ gap_grows 0 n [] ∙ ap gap_entry (zero-add n)
