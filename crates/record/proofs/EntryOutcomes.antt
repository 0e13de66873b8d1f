-- An entry that has no cause, and what is accepted by such an entry.
-- Assumes nothing.
use Prim.Native.Nat.{ℕ, ◌+◌, ◌≤◌}
use mathlib.Core.Path.{◌≡◌, refl, ap}
use mathlib.Core.Bool.{Bool, true, false, cond, not, ◌&&◌, true≢false}
use mathlib.Core.List.{List, [], ◌++◌}
use mathlib.Core.Option.{Option, none, some}
use native.Mathlib.Omega.{arith}
use borrow.Author.Tests.{ltb-false, le-ltb, eqb-true, eq-eqb, not-false}
use lib.Dec.{ltb, eqb}
use lib.ListN.{length}
use Rattle.series.specs.Units.{day_limit}
use Rattle.series.specs.Causes.{first_cause, Outcome, accepted, refused, map_outcome}
use Rattle.series.proofs.Refusing.{passed as every, never_both}
use Rattle.record.specs.declared.entry.Kind.{Kind}
use Rattle.record.specs.declared.entry.Kind.TheVariants.{Head, Flow, MissingDay, MissingDays, End}
use Rattle.record.specs.Entries.{Entry, is_unknown, is_end, misplaced, body_length, out_of_range, days_of, value, stated_days, entry_causes}
use Rattle.record.specs.Call.{entry_then}

-- what may come first is a head
pub head_first : (k : Option Kind) → misplaced true k ≡ false → k ≡ some Head
head_first (some Head) h = refl
head_first (some Flow) h = absurd (true≢false h)
head_first (some MissingDay) h = absurd (true≢false h)
head_first (some MissingDays) h = absurd (true≢false h)
head_first (some End) h = absurd (true≢false h)
head_first none h = absurd (true≢false h)

-- an entry with no cause
pub record Passed (first : Bool) (n room : ℕ) (e : Entry) : Type 0 where
  pub known : is_unknown e.kind ≡ false
  pub placed : misplaced first e.kind ≡ false
  pub complete : body_length e.kind ≤ length e.body
  pub in_range : out_of_range e.kind (value e) ≡ false
  pub total : n + length (stated_days e) ≤ day_limit
  pub fits : n + length (stated_days e) ≤ room
  pub counted : is_end e.kind ≡ true → value e ≡ n
  pub none_behind : is_end e.kind ≡ true → length e.behind ≡ 0

pub passed : (first : Bool) (n room : ℕ) (e : Entry) → first_cause (entry_causes first n room e) ≡ none → Passed first n room e
unfolding entry_causes
passed first n room e h =
    let p = every (entry_causes first n room e) h in
    record { known = p 2; placed = p 3; complete = ltb-false _ _ (p 1); in_range = p 4; total = ltb-false _ _ (p 5); fits = ltb-false _ _ (p 6); counted = λ k. eqb-true _ _ (not-false _ (rw k at (p 7))); none_behind = λ k. omega (arith, ltb-false 0 (length e.behind) (rw k at (p 8))) }

-- and back: where all that holds, no cause does
not_both : (b c : Bool) → (b ≡ true → c ≡ false) → (b && c) ≡ false
not_both true c h = h refl
not_both false c h = refl

pub no_cause : (first : Bool) (n room : ℕ) (e : Entry) → Passed first n room e → first_cause (entry_causes first n room e) ≡ none
unfolding entry_causes
no_cause first n room e p =
    let short = le-ltb (length e.body) (body_length e.kind) p.complete in
    let total = le-ltb day_limit (n + length (days_of e.kind (value e))) p.total in
    let fits = le-ltb room (n + length (days_of e.kind (value e))) p.fits in
    let counted = not_both (is_end e.kind) (not (eqb (value e) n)) (λ k. ap not (eq-eqb (value e) n (p.counted k))) in
    let last = not_both (is_end e.kind) (ltb 0 (length e.behind)) (λ k. le-ltb 0 (length e.behind) (omega (arith, p.none_behind k))) in
    simp (p.known, p.placed, short, p.in_range, total, fits, counted, last)

-- What is accepted begins with an entry that has no cause: an end entry, or one whose days come first.
pub data AcceptedEntry (first : Bool) (n room : ℕ) (e : Entry) (further : ℕ → Outcome (List ℕ)) (ds : List ℕ) : Type 0 where
  at_end : Passed first n room e → is_end e.kind ≡ true → ds ≡ [] → AcceptedEntry first n room e further ds
  goes_on : (rest : List ℕ) → Passed first n room e → is_end e.kind ≡ false → further (n + length (stated_days e)) ≡ accepted rest
      → ds ≡ stated_days e ++ rest → AcceptedEntry first n room e further ds

pub accepted_entry : (first : Bool) (n room : ℕ) (e : Entry) (further : ℕ → Outcome (List ℕ)) {ds : List ℕ} → entry_then first n room e further ≡ accepted ds
    → AcceptedEntry first n room e further ds
unfolding entry_then
accepted_entry first n room e further {ds} h = by_cause (first_cause (entry_causes first n room e)) refl
  where
    by_outcome : Passed first n room e → is_end e.kind ≡ false → (o : Outcome (List ℕ)) → further (n + length (stated_days e)) ≡ o
        → map_outcome (λ ds. stated_days e ++ ds) o ≡ accepted ds → AcceptedEntry first n room e further ds
    by_outcome p k (accepted rest) q g = goes_on rest p k q (cc)
    by_outcome p k (refused r) q g = absurd (never_both g)

    by_kind : Passed first n room e → (t : Bool) → is_end e.kind ≡ t → cond t (accepted []) (map_outcome (λ ds. stated_days e ++ ds) (further (n + length (stated_days e)))) ≡ accepted ds
        → AcceptedEntry first n room e further ds
    by_kind p true k g = at_end p k (cc)
    by_kind p false k g = by_outcome p k (further (n + length (stated_days e))) refl g

    by_cause : (c : Option ℕ) → first_cause (entry_causes first n room e) ≡ c → AcceptedEntry first n room e further ds
    by_cause none q = by_kind (passed first n room e q) (is_end e.kind) refl (rw q at h)
    by_cause (some r) q = absurd (let g : refused r ≡ accepted ds = rw q at h in never_both g)

pub entry_passed : {first : Bool} {n room : ℕ} {e : Entry} {further : ℕ → Outcome (List ℕ)} {ds : List ℕ} → AcceptedEntry first n room e further ds → Passed first n room e
entry_passed (at_end p k h) = p
entry_passed (goes_on rest p k q h) = p
