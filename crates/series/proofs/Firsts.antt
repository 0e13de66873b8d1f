-- A rule of its own for the first segment, `over_first`: it is applied to that segment alone, and the rule for all to each other.
-- Assumes nothing.
use Prim.Native.Nat.{ℕ, zero, suc, ◌+◌, ◌-◌, ◌≤◌, ◌<◌}
use mathlib.Core.Path.{◌≡◌, refl, sym, ◌∙◌, ap, subst}
use mathlib.Core.Bool.{true, false}
use mathlib.Core.List.{List, [], ◌∷◌, ◌++◌, map}
use mathlib.Core.Option.{Option, none, some, none-ne-some, some-injective}
use native.Mathlib.Decide.{dec_le}
use native.Mathlib.Nat.{lt_of_not-le}
use native.Mathlib.Omega.{arith}
use lib.ListN.{length, get_or, take, drop, length-append, length-map}
use lib.Seq.{take_at, drop-nil}
use Rattle.series.specs.Runs.{joins_at}
use Rattle.series.specs.Segments.{Segment, parts, after_gaps, over_segments, over_first, first_present}
use Rattle.series.proofs.Alone.{alone, over_length, missing_before}

module _ {A : Type 0} where
  -- a segment's first day is present
  head_present : (ds : List (Option A)) (flows : List A) → 0 < length flows → take (length flows) ds ≡ map some flows → get_or ds 0 none ≡ none → ⊥
  head_present ds [] h e n = omega arith
  head_present [] (y ∷ ys) h e n = none-ne-some y (ap (λ l. get_or l 0 none) e)
  head_present (d ∷ ds) (y ∷ ys) h e n = none-ne-some y (sym n ∙ ap (λ l. get_or l 0 none) e)

  -- behind a missing day a segment stays one
  behind : (ds : List (Option A)) (t : ℕ) → joins_at (λ _ _. true) (none ∷ ds) (suc t) ≡ joins_at (λ _ _. true) ds t
  unfolding joins_at
  behind ds zero = refl
  behind ds (suc t) = refl

  behind_missing : {ds : List (Option A)} {start : ℕ} {flows : List A} → Segment (none ∷ ds) (suc start) flows → Segment ds start flows
  behind_missing {ds} {start} {flows} s =
      record {
        not_empty = s.not_empty;
        neighbouring = s.neighbouring;
        together = λ t h k. sym (behind ds t) ∙ s.together (suc t) (omega arith) (omega arith);
        none_before = sym (behind ds start) ∙ s.none_before;
        none_after = sym (behind ds (start + length flows)) ∙ subst (λ t. joins_at (λ _ _. true) (none ∷ ds) t ≡ false) (omega arith) s.none_after;
      }

  -- what stands before the first missing day is present
  front_present : (ds : List (Option A)) (i : ℕ) → i < length (parts ds).first → get_or ds i none ≡ none → ⊥
  unfolding parts
  front_present [] i h e = omega arith
  front_present (none ∷ ds) i h e = omega arith
  front_present (some y ∷ ds) zero h e = none-ne-some y (sym e)
  front_present (some y ∷ ds) (suc i) h e = front_present ds i (omega arith) e

  -- the segment that begins the list
  tells : List A → List (Option (List A))
  tells s = map (λ _. some s) s

  opens : {y : A} {ds : List (Option A)} (flows : List A) → Segment (some y ∷ ds) 0 flows → flows ≡ y ∷ (parts ds).first
  unfolding over_segments parts tells
  opens [] s = absurd (omega (arith, s.not_empty))
  opens {y} {ds} (z ∷ zs) s = some-injective (z ∷ zs) (y ∷ (parts ds).first) (sym (ap (λ l. get_or l 0 none) (alone tells (λ s. length-map s (λ _. some s)) s)))

-- behind two fronts of one length
past : {A : Type 0} (xs ys zs : List A) (n : ℕ) → length xs ≤ n → length ys ≡ length xs → drop n (xs ++ zs) ≡ drop n (ys ++ zs)
past [] [] zs n h e = refl
past [] (y ∷ ys) zs n h e = absurd (omega arith)
past (x ∷ xs) [] zs n h e = absurd (omega arith)
past (x ∷ xs) (y ∷ ys) zs zero h e = absurd (omega arith)
past (x ∷ xs) (y ∷ ys) zs (suc n) h e = past xs ys zs n (omega arith) (omega arith)

module _ {A B : Type 0} (first rule : List A → List (Option B)) (first_length : (s : List A) → length (first s) ≡ length s) (rule_length : (s : List A) → length (rule s) ≡ length s) where
  pub first_over_length : (days : List (Option A)) → length (over_first first rule days) ≡ length days
  unfolding over_first over_segments parts
  first_over_length [] = refl
  first_over_length (none ∷ ds) = ap suc (first_over_length ds)
  first_over_length (some y ∷ ds) =
      let p = parts ds in
      let g = after_gaps rule p.rest in
      omega (arith, over_length rule rule_length (some y ∷ ds), first_length (y ∷ p.first), rule_length (y ∷ p.first), length-append (first (y ∷ p.first)) g, length-append (rule (y ∷ p.first)) g)

  -- the first segment, before which no day is present
  pub first_alone : (days : List (Option A)) (start : ℕ) (flows : List A) → Segment days start flows → ((t : ℕ) → t < start → get_or days t none ≡ none) → take (length flows) (drop start (over_first first rule days)) ≡ first flows
  unfolding over_first
  first_alone [] start flows s m = absurd (head_present (drop start []) flows s.not_empty s.neighbouring (rw (drop-nil {A = Option A} start) refl))
  first_alone (none ∷ ds) zero flows s m = absurd (head_present (none ∷ ds) flows s.not_empty s.neighbouring refl)
  first_alone (none ∷ ds) (suc start) flows s m = first_alone ds start flows (behind_missing s) (λ t h. m (suc t) (omega arith))
  first_alone (some y ∷ ds) zero flows s m = rw (opens flows s) (take_at (first (y ∷ (parts ds).first)) _ _ (first_length (y ∷ (parts ds).first)))
  first_alone (some y ∷ ds) (suc start) flows s m = absurd (none-ne-some y (sym (m 0 (omega arith))))

  -- every other, before which some day is
  pub other_alone : (days : List (Option A)) (start : ℕ) (flows : List A) → Segment days start flows → (t : ℕ) → t < start → (get_or days t none ≡ none → ⊥) → take (length flows) (drop start (over_first first rule days)) ≡ rule flows
  unfolding over_first over_segments
  other_alone [] start flows s t h p = absurd (p refl)
  other_alone (none ∷ ds) zero flows s t h p = absurd (omega arith)
  other_alone (none ∷ ds) (suc start) flows s zero h p = absurd (p refl)
  other_alone (none ∷ ds) (suc start) flows s (suc t) h p = other_alone ds start flows (behind_missing s) t (omega arith) p
  other_alone (some y ∷ ds) start flows s t h p =
      let front = y ∷ (parts ds).first in
      let over : length (parts ds).first < start - 1 = elim (dec_le (start - 1) (length (parts ds).first)) [
        | yes k ↦ absurd (front_present (some y ∷ ds) (start - 1) (omega arith) (missing_before s (start - 1) (omega arith)))
        | no k ↦ lt_of_not-le k
      ] in
      ap (take (length flows)) (past (first front) (rule front) _ start (omega (arith, first_length front)) (rule_length front ∙ sym (first_length front))) ∙ alone rule rule_length s

-- two rules of the first segment that agree on every list that begins with the first present flow
pub first_same : {A B : Type 0} (rule f g : List A → List (Option B)) (days : List (Option A)) → ((y : A) (flows : List A) → first_present days ≡ some y → f (y ∷ flows) ≡ g (y ∷ flows)) → over_first f rule days ≡ over_first g rule days
unfolding over_first first_present
first_same rule f g [] h = refl
first_same rule f g (none ∷ ds) h = ap (λ l. none ∷ l) (first_same rule f g ds h)
first_same rule f g (some y ∷ ds) h = ap (λ l. l ++ after_gaps rule (parts ds).rest) (h y (parts ds).first refl)
