-- The parts of a list with gaps: those around a gap, and that those which are not empty are its segments, so that what
-- holds of all parts holds of all segments.
-- Assumes nothing.
use Prim.Native.Nat.{ℕ, zero, suc, ◌+◌, ◌-◌, ◌≤◌, ◌<◌}
use mathlib.Core.Path.{◌≡◌, refl, sym, ◌∙◌, ap, subst}
use mathlib.Core.List.Memᴰ
use mathlib.Core.List.{List, [], ◌∷◌, ◌++◌, map, Memᴰ}
use mathlib.Core.Option.{Option, none, some, none-ne-some, some-injective}
use mathlib.Core.Logic.{◌⊎◌, inl, inr, ⊎_elim}
use native.Mathlib.Nat.{add-sub_of_le}
use native.Mathlib.Omega.{arith}
use lib.ListN.{length, get_or, drop, length-map}
use lib.Seq.{get_or-take, get_or-drop, get_or-append-add}
use Rattle.series.specs.Segments.{Segment, parts, after_gaps, over_segments}
use Rattle.series.proofs.Alone.{InSegment, in_a_segment, over_gap, over_one, alone, missing_day}

-- what stands before the first missing day, and behind each
abbrev pub all_parts : {A : Type 0} → List (Option A) → List (List A)
all_parts days = (parts days).first ∷ (parts days).rest

module _ {A : Type 0} where
  gap : (s : List A) (ds : List (Option A)) → parts (map some s ++ none ∷ ds) ≡ record { first = s; rest = all_parts ds }
  unfolding parts
  gap [] ds = refl
  gap (y ∷ ys) ds = rw (gap ys ds)

  no_gap : (s : List A) → parts (map some s) ≡ record { first = s; rest = [] }
  unfolding parts
  no_gap [] = refl
  no_gap (y ∷ ys) = rw (no_gap ys)

  -- a gap parts the list; without one, the list is its only part
  pub parts_gap : (s : List A) (ds : List (Option A)) → all_parts (map some s ++ none ∷ ds) ≡ s ∷ all_parts ds
  parts_gap s ds = rw (gap s ds)

  pub parts_one : (s : List A) → all_parts (map some s) ≡ s ∷ []
  parts_one s = rw (no_gap s)

  -- a rule over a segment before a gap, and over what stands behind it
  pub over_before_gap : {B : Type 0} (rule : List A → List (Option B)) (s : List A) (ds : List (Option A)) → over_segments rule (map some s ++ none ∷ ds) ≡ rule s ++ none ∷ over_segments rule ds
  over_before_gap rule s ds = over_gap rule (map some s) ds ∙ ap (λ l. l ++ none ∷ over_segments rule ds) (over_one rule s)

-- a rule by which each day tells the flows of its segment
abbrev tells : {A : Type 0} → List A → List (Option (List A))
tells s = map (λ _. some s) s

tells_length : {A : Type 0} (s : List A) → length (tells s) ≡ length s
tells_length s = length-map s (λ _. some s)

-- a day on which s is told
record Told {A : Type 0} (days : List (Option (List A))) (s : List A) : Type 0 where
  day : ℕ
  told : get_or days day none ≡ some s

pub record SegmentOf {A : Type 0} (days : List (Option A)) (flows : List A) : Type 0 where
  pub start : ℕ
  pub segment : Segment days start flows

module _ {A : Type 0} where
  -- what is told in a row of days stands in the first of them or behind it
  told_in : (s s' xs : List A) (rest : List (Option (List A))) (t : ℕ) → get_or (map (λ _. some s) xs ++ rest) t none ≡ some s' → (s' ≡ s) ⊎ Told rest s'
  told_in s s' [] rest t e = inr (record { day = t; told = e })
  told_in s s' (x ∷ xs) rest zero e = inl (sym (some-injective s s' e))
  told_in s s' (x ∷ xs) rest (suc t) e = told_in s s' xs rest t e

  told_gaps : (ss : List (List A)) (s : List A) → Told (after_gaps tells ss) s → Memᴰ s ss
  unfolding after_gaps
  told_gaps [] s t = absurd (none-ne-some s t.told)
  told_gaps (r ∷ rs) s t = by_day t.day t.told (told_gaps rs s)
    where
      by_day : (d : ℕ) → get_or (none ∷ (tells r ++ after_gaps tells rs)) d none ≡ some s → (Told (after_gaps tells rs) s → Memᴰ s rs) → Memᴰ s (r ∷ rs)
      by_day zero e rest = absurd (none-ne-some s e)
      by_day (suc d) e rest = ⊎_elim Memᴰ.head (λ u. Memᴰ.tail (rest u)) (told_in r s r _ d e)

  -- each day of a segment tells it
  same_told : (s xs : List A) (i : ℕ) → i < length xs → get_or (map {B = Option (List A)} (λ _. some s) xs) i none ≡ some s
  same_told s [] i h = absurd (omega arith)
  same_told s (x ∷ xs) zero h = refl
  same_told s (x ∷ xs) (suc i) h = same_told s xs i (omega arith)

  told_on : {days : List (Option A)} {start : ℕ} {flows : List A} (t : ℕ) → Segment days start flows → start ≤ t → t < start + length flows → get_or (over_segments tells days) t none ≡ some flows
  told_on {days} {start} {flows} t g h k =
      let told = over_segments tells days in
      ap (λ d. get_or told d none) (sym (add-sub_of_le h)) ∙ sym (get_or-drop start told (t - start) none) ∙ sym (get_or-take (length flows) (drop start told) (t - start) none (omega arith))
      ∙ ap (λ l. get_or l (t - start) none) (alone tells tells_length g) ∙ same_told flows flows (t - start) (omega arith)

  -- a segment is a part
  pub segment_part : {days : List (Option A)} {start : ℕ} {flows : List A} → Segment days start flows → Memᴰ flows (all_parts days)
  unfolding over_segments
  segment_part {days} {start} {flows} g =
      let e = told_on start g (omega arith) (omega (arith, g.not_empty)) in
      ⊎_elim Memᴰ.head (λ u. Memᴰ.tail (told_gaps _ flows u)) (told_in (parts days).first flows (parts days).first _ start e)

  -- a part that is not empty is told, on its first day
  first_of : (s r : List A) (rest : List (Option (List A))) → 0 < length s → s ≡ r → Told (tells r ++ rest) s
  first_of s [] rest h e = absurd (omega (arith, ap length e))
  first_of s (y ∷ ys) rest h e = record { day = 0; told = ap some (sym e) }

  behind : (s r : List A) (rest : List (Option (List A))) → Told rest s → Told (tells r ++ rest) s
  behind s r rest u = record { day = length (tells r) + u.day; told = get_or-append-add (tells r) rest u.day none ∙ u.told }

  gaps_told : (ss : List (List A)) (s : List A) → 0 < length s → Memᴰ s ss → Told (after_gaps tells ss) s
  unfolding after_gaps
  gaps_told [] s h m = absurd (Memᴰ.not-nil m)
  gaps_told (r ∷ rs) s h m =
      let u = ⊎_elim (first_of s r (after_gaps tells rs) h) (λ n. behind s r _ (gaps_told rs s h n)) (Memᴰ.cases_cons m) in
      record { day = suc u.day; told = u.told }

  part_told : (days : List (Option A)) (s : List A) → 0 < length s → Memᴰ s (all_parts days) → Told (over_segments tells days) s
  unfolding over_segments
  part_told days s h m =
      let after = after_gaps tells (parts days).rest in
      ⊎_elim (first_of s (parts days).first after h) (λ n. behind s (parts days).first after (gaps_told (parts days).rest s h n)) (Memᴰ.cases_cons m)

  -- and so it is a segment
  pub part_segment : (days : List (Option A)) (s : List A) → 0 < length s → Memᴰ s (all_parts days) → SegmentOf days s
  part_segment days s h m = by_flow (part_told days s h m) (get_or days (part_told days s h m).day none) refl
    where
      found : (u : Told (over_segments tells days) s) → InSegment days u.day → SegmentOf days s
      found u g =
          let e = some-injective g.flows s (sym (told_on u.day g.segment g.from g.to) ∙ u.told) in
          record { start = g.start; segment = subst (Segment days g.start) e g.segment }

      by_flow : (u : Told (over_segments tells days) s) (o : Option A) → get_or days u.day none ≡ o → SegmentOf days s
      by_flow u none e = absurd (none-ne-some s (sym (missing_day tells tells_length days u.day e) ∙ u.told))
      by_flow u (some y) e = found u (in_a_segment days u.day y e)
