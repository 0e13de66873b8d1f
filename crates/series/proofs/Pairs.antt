-- Two lists with gaps, day by day: what two rules keep on segments side by side, they keep on lists side by side.
-- Assumes nothing.
use mathlib.Core.List.{List, ◌++◌, map}
use mathlib.Core.Option.{Option, some}
use Rattle.numbers.specs.Lists.{Each, done, then, Beside, none_beside, and_beside}
use Rattle.series.specs.Segments.{Parts, parts, after_gaps, over_first}
use Rattle.series.specs.Pairs.{Both, both_missing, both_present}

-- the parts of two such lists stand side by side
record PartsBeside {A B : Type 0} (R : A → B → Type 0) (p : Parts A) (q : Parts B) : Type 0 where
  first : Beside R p.first q.first
  rest : Beside (Beside R) p.rest q.rest

module _ {A B : Type 0} {R : A → B → Type 0} where
  beside_append : {xs xs' : List A} {ys ys' : List B} → Beside R xs ys → Beside R xs' ys' → Beside R (xs ++ xs') (ys ++ ys')
  beside_append none_beside e = e
  beside_append (and_beside r d) e = and_beside r (beside_append d e)

  all_present : {xs : List A} {ys : List B} → Beside R xs ys → Beside (Both R) (map some xs) (map some ys)
  all_present none_beside = none_beside
  all_present (and_beside r d) = and_beside (both_present r) (all_present d)

  parts_beside : {days : List (Option A)} {more : List (Option B)} → Beside (Both R) days more → PartsBeside R (parts days) (parts more)
  unfolding parts
  parts_beside none_beside = record { first = none_beside; rest = none_beside }
  parts_beside (and_beside both_missing d) = let p = parts_beside d in record { first = none_beside; rest = and_beside p.first p.rest }
  parts_beside (and_beside (both_present r) d) = let p = parts_beside d in record { first = and_beside r p.first; rest = p.rest }

module _ {A B C D : Type 0} (R : A → B → Type 0) (Q : C → D → Type 0) where
  abbrev Keeps : (List A → List C) → (List B → List D) → Type 0
  Keeps f g = (xs : List A) (ys : List B) → Beside R xs ys → Beside Q (f xs) (g ys)

  module _ (f : List A → List C) (g : List B → List D) (keeps : Keeps f g) where
    gaps_beside : {rest : List (List A)} {more : List (List B)} → Beside (Beside R) rest more → Beside (Both Q) (after_gaps (λ s. map some (f s)) rest) (after_gaps (λ s. map some (g s)) more)
    unfolding after_gaps
    gaps_beside none_beside = none_beside
    gaps_beside (and_beside r d) = and_beside both_missing (beside_append (all_present (keeps _ _ r)) (gaps_beside d))

    -- f₀ and g₀ are the rules of the first segments
    pub first_beside : (f₀ : List A → List C) (g₀ : List B → List D) → Keeps f₀ g₀ → {days : List (Option A)} {more : List (Option B)} → Beside (Both R) days more
        → Beside (Both Q) (over_first (λ s. map some (f₀ s)) (λ s. map some (f s)) days) (over_first (λ s. map some (g₀ s)) (λ s. map some (g s)) more)
    unfolding over_first
    first_beside f₀ g₀ keeps₀ none_beside = none_beside
    first_beside f₀ g₀ keeps₀ (and_beside both_missing d) = and_beside both_missing (first_beside f₀ g₀ keeps₀ d)
    first_beside f₀ g₀ keeps₀ (and_beside (both_present r) d) = let p = parts_beside d in beside_append (all_present (keeps₀ _ _ (and_beside r p.first))) (gaps_beside p.rest)

-- two lists side by side as three, of which the first tells nothing
module _ {A B : Type 0} {R : A → B → Type 0} where
  pub to_each : {xs : List A} {ys : List B} → Beside R xs ys → Each (λ _ a b. R a b) xs xs ys
  to_each none_beside = done
  to_each (and_beside r d) = then r (to_each d)

  pub of_each : {X : Type 0} {ls : List X} {xs : List A} {ys : List B} → Each (λ _ a b. R a b) ls xs ys → Beside R xs ys
  of_each done = none_beside
  of_each (then r d) = and_beside r (of_each d)
