-- Document 01's sentence on segments, of `over_segments`: a rule is applied to each segment alone, and a missing day
-- has no value.
-- Assumes nothing.
use Prim.Native.Nat.{ℕ, zero, suc, ◌+◌, ◌-◌, ◌≤◌, ◌<◌}
use mathlib.Core.Path.{◌≡◌, refl, sym, ◌∙◌, ap, subst}
use mathlib.Core.Bool.{true, false, true≢false}
use mathlib.Core.List.{List, [], ◌∷◌, ◌++◌, map, append_assoc, append-nil}
use mathlib.Core.Logic.{◌⊎◌, inl, inr, ⊎_elim}
use mathlib.Core.Option.{Option, none, some, none-ne-some}
use native.Mathlib.Nat.{add-zero, lt_of_not-le}
use native.Mathlib.Decide.{dec_le}
use native.Mathlib.Omega.{arith}
use lib.ListN.{length, get_or, take, drop, length-append, length-take, length-drop, length-map, take-append-drop, get_or-eq_default}
use lib.Seq.{split_at, take_all, take_at, drop_at, get_or_at, length-take-le, append_snoc, get_or-drop, get_or-take}
use Rattle.series.specs.Runs.{joined, joins_at}
use Rattle.series.specs.Segments.{Segment, parts, after_gaps, over_segments}
use Rattle.series.proofs.Runs.{run_sentence, in_a_run}

-- the days on either side of a segment are missing, or outside the list
module _ {A : Type 0} {days : List (Option A)} {start : ℕ} {flows : List A} (s : Segment days start flows) where
  both_missing : (a b : Option A) → joined (λ _ _. true) a b ≡ false → (a ≡ none) ⊎ (b ≡ none)
  unfolding joined
  both_missing none b e = inl refl
  both_missing (some x) none e = inr refl
  both_missing (some x) (some y) e = absurd (true≢false e)

  some_at : (xs : List A) (i : ℕ) → i < length xs → get_or (map some xs) i none ≡ none → ⊥
  some_at [] i h e = omega arith
  some_at (x ∷ xs) zero h e = none-ne-some x (sym e)
  some_at (x ∷ xs) (suc i) h e = some_at xs i (omega arith) e

  present : (i : ℕ) → i < length flows → get_or days (start + i) none ≡ none → ⊥
  present i h e = some_at flows i h (ap (λ l. get_or l i none) (sym s.neighbouring) ∙ get_or-take (length flows) (drop start days) i none h ∙ get_or-drop start days i none ∙ e)

  pub missing_before : (t : ℕ) → start ≡ suc t → get_or days t none ≡ none
  unfolding joins_at
  missing_before t e =
      ⊎_elim (λ h. h) (λ h. absurd (present 0 s.not_empty (ap (λ k. get_or days k none) (add-zero start ∙ e) ∙ h)))
      (both_missing (get_or days t none) (get_or days (suc t) none) (subst (λ k. joins_at (λ _ _. true) days k ≡ false) e s.none_before))

  pub missing_after : get_or days (start + length flows) none ≡ none
  unfolding joins_at
  missing_after =
      let n = length flows - 1 in
      let e : start + length flows ≡ suc (start + n) = omega (arith, s.not_empty) in
      rw e
      (⊎_elim (λ h. absurd (present n (omega (arith, s.not_empty)) h)) (λ h. h)
      (both_missing (get_or days (start + n) none) (get_or days (suc (start + n)) none) (subst (λ k. joins_at (λ _ _. true) days k ≡ false) e s.none_after)))

module _ {A B : Type 0} (rule : List A → List (Option B)) where
  parts_some : (flows : List A) → parts (map some flows) ≡ record { first = flows; rest = [] }
  unfolding parts
  parts_some [] = refl
  parts_some (y ∷ ys) = rw (parts_some ys)

  parts_append : (xs ys : List (Option A))
      → parts (xs ++ none ∷ ys) ≡ record { first = (parts xs).first; rest = (parts xs).rest ++ (parts ys).first ∷ (parts ys).rest }
  unfolding parts
  parts_append [] ys = refl
  parts_append (none ∷ xs) ys = rw (parts_append xs ys)
  parts_append (some x ∷ xs) ys = rw (parts_append xs ys)

  gaps_append : (a b : List (List A)) → after_gaps rule (a ++ b) ≡ after_gaps rule a ++ after_gaps rule b
  unfolding after_gaps
  gaps_append [] b = refl
  gaps_append (s ∷ a) b = rw (gaps_append a b, append_assoc)

  -- a gap parts the list
  pub over_gap : (xs ys : List (Option A)) → over_segments rule (xs ++ none ∷ ys) ≡ over_segments rule xs ++ none ∷ over_segments rule ys
  unfolding over_segments after_gaps
  over_gap xs ys = rw (parts_append xs ys, gaps_append, append_assoc)

  -- without a gap the whole list is one segment
  pub over_one : (flows : List A) → over_segments rule (map some flows) ≡ rule flows
  unfolding over_segments after_gaps
  over_one flows = rw (parts_some flows, append-nil)

  module _ (same_length : (s : List A) → length (rule s) ≡ length s) where
    pub over_length : (days : List (Option A)) → length (over_segments rule days) ≡ length days
    unfolding over_segments after_gaps parts
    over_length [] = rw append-nil (same_length [])
    over_length (none ∷ ds) =
        let p = parts ds in
        omega (arith, over_length ds, same_length [], length-append (rule []) (none ∷ (rule p.first ++ after_gaps rule p.rest)))
    over_length (some y ∷ ds) =
        let p = parts ds in
        let g = after_gaps rule p.rest in
        omega (arith, over_length ds, same_length p.first, same_length (y ∷ p.first), length-append (rule p.first) g, length-append (rule (y ∷ p.first)) g)

    -- no value on a missing day, nor outside the list
    pub missing_day : (days : List (Option A)) (t : ℕ) → get_or days t none ≡ none → get_or (over_segments rule days) t none ≡ none
    missing_day days t e = by_length (dec_le (length days) t)
      where
        by_length : Dec (length days ≤ t) → get_or (over_segments rule days) t none ≡ none
        by_length (yes h) = get_or-eq_default (over_segments rule days) none (omega (arith, over_length days))
        by_length (no h) =
            let l : t < length days = lt_of_not-le h in
            subst (λ ds. get_or (over_segments rule ds) t none ≡ none) (sym (split_at days t none l ∙ ap (λ d. take t days ++ d ∷ drop (suc t) days) e))
            (rw (over_gap (take t days) (drop (suc t) days)) (get_or_at (over_segments rule (take t days)) none (over_segments rule (drop (suc t) days)) none t (over_length (take t days) ∙ length-take-le t days (omega arith))))

    -- up to a gap or to the end of the list, a rule sees one segment
    up_to_gap : (flows : List A) (days : List (Option A)) → get_or days 0 none ≡ none → take (length flows) (over_segments rule (map some flows ++ days)) ≡ rule flows
    up_to_gap flows [] e = rw (append-nil, over_one flows) (take_all (length flows) (rule flows) (omega (arith, same_length flows)))
    up_to_gap flows (none ∷ ds) e =
        rw (over_gap (map some flows) ds, over_one flows) (take_at (rule flows) (none ∷ over_segments rule ds) (length flows) (same_length flows))
    up_to_gap flows (some y ∷ ds) e = absurd (none-ne-some y (sym e))

    -- what stands behind a gap is treated as if the list began there
    behind_gap : (days : List (Option A)) (t : ℕ) → t < length days → get_or days t none ≡ none → drop (suc t) (over_segments rule days) ≡ over_segments rule (drop (suc t) days)
    behind_gap days t l e =
        let front = take t days in
        let back = drop (suc t) days in
        let front_length : length (over_segments rule front) ≡ t = over_length front ∙ length-take-le t days (omega arith) in
        subst (λ ds. drop (suc t) (over_segments rule ds) ≡ over_segments rule back) (sym (split_at days t none l ∙ ap (λ d. front ++ d ∷ back) e))
        (rw (over_gap front back, ← append_snoc (over_segments rule front) none (over_segments rule back))
        (drop_at (over_segments rule front ++ none ∷ []) (over_segments rule back) (suc t) (omega (arith, front_length, length-append (over_segments rule front) (none ∷ [])))))

    from_start : (days : List (Option A)) (start : ℕ) → start < length days → ((t : ℕ) → start ≡ suc t → get_or days t none ≡ none)
        → drop start (over_segments rule days) ≡ over_segments rule (drop start days)
    from_start days zero l before = refl
    from_start days (suc t) l before = behind_gap days t (omega arith) (before t refl)

    -- document 01: each segment is treated alone
    pub alone : {days : List (Option A)} {start : ℕ} {flows : List A} → Segment days start flows → take (length flows) (drop start (over_segments rule days)) ≡ rule flows
    alone {days} {start} {flows} s =
        let n = length flows in
        let here : start < length days =
        omega (arith, s.not_empty, ap length s.neighbouring ∙ length-map flows some, length-take n (drop start days), length-drop start days) in
        let after : get_or (drop n (drop start days)) 0 none ≡ none =
        get_or-drop n (drop start days) 0 none ∙ get_or-drop start days (n + 0) none ∙ ap (λ t. get_or days t none) (omega arith) ∙ missing_after s in
        rw (from_start days start here (missing_before s), ← take-append-drop n (drop start days), s.neighbouring) (up_to_gap flows (drop n (drop start days)) after)

-- each present day lies in a segment
pub record InSegment {A : Type 0} (days : List (Option A)) (t : ℕ) : Type 0 where
  pub start : ℕ
  pub flows : List A
  pub segment : Segment days start flows
  pub from : start ≤ t
  pub to : t < start + length flows

pub in_a_segment : {A : Type 0} (days : List (Option A)) (t : ℕ) (y : A) → get_or days t none ≡ some y → InSegment days t
in_a_segment days t y e =
    let i = in_a_run (λ _ _. true) days t y e in
    record { start = i.run.start; flows = i.run.flows; segment = (run_sentence (λ _ _. true) days i.run).0 i.listed; from = i.from; to = i.to }
