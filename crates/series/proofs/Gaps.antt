-- Rules over segments, one after the other, backwards, and side by side.
-- Assumes nothing.
use Prim.Native.Nat.{ℕ}
use mathlib.Core.Path.{◌≡◌, refl, sym, ◌∙◌, ap, ap₂, subst}
use mathlib.Core.List.{List, [], ◌∷◌, ◌++◌, map, reverse, reverse_aux, reverse-append, reverse-reverse, reverse-cons, append-nil}
use mathlib.Core.Option.{Option, none, some}
use lib.Seq.{append_snoc}
use Rattle.numbers.specs.Lists.{Each, done, then}
use Rattle.numbers.proofs.Pairwise.{each_append}
use Rattle.series.specs.Segments.{Parts, parts, after_gaps, over_segments, over_first}
use Rattle.series.proofs.Alone.{over_gap, over_one}

-- a list from its parts
abbrev whole : {A : Type 0} → List A → List (List A) → List (Option A)
whole first rest = map some first ++ after_gaps (map some) rest

module _ {A : Type 0} where
  whole_parts : (days : List (Option A)) → whole (parts days).first (parts days).rest ≡ days
  unfolding parts after_gaps
  whole_parts [] = refl
  whole_parts (none ∷ ds) = ap (λ l. none ∷ l) (whole_parts ds)
  whole_parts (some y ∷ ds) = ap (λ l. some y ∷ l) (whole_parts ds)

  parts_front : (first : List A) (ds : List (Option A)) → (parts ds).first ≡ [] → parts (map some first ++ ds) ≡ record { first = first; rest = (parts ds).rest }
  unfolding parts
  parts_front [] ds e = λ i. record { first = e i; rest = (parts ds).rest }
  parts_front (y ∷ ys) ds e = rw (parts_front ys ds e)

  parts_whole : (first : List A) (rest : List (List A)) → parts (whole first rest) ≡ record { first = first; rest = rest }
  unfolding parts after_gaps
  parts_whole first [] = parts_front first [] refl
  parts_whole first (s ∷ ss) =
      parts_front first (none ∷ whole s ss) refl ∙ ap (λ (p : Parts A). record { first = first; rest = p.first ∷ p.rest }) (parts_whole s ss)

-- one rule after another: each segment sees both
module _ {A B C : Type 0} (f : List A → List B) (g : List B → List (Option C)) where
  gaps_some : (rest : List (List A)) → after_gaps (λ s. map some (f s)) rest ≡ after_gaps (map some) (map f rest)
  unfolding after_gaps
  gaps_some [] = refl
  gaps_some (s ∷ ss) = rw (gaps_some ss)

  gaps_then : (rest : List (List A)) → after_gaps g (map f rest) ≡ after_gaps (λ s. g (f s)) rest
  unfolding after_gaps
  gaps_then [] = refl
  gaps_then (s ∷ ss) = rw (gaps_then ss)

  pub over_then : (days : List (Option A)) → over_segments g (over_segments (λ s. map some (f s)) days) ≡ over_segments (λ s. g (f s)) days
  unfolding over_segments
  over_then days =
      let p = parts days in
      rw (gaps_some p.rest, parts_whole (f p.first) (map f p.rest), gaps_then p.rest)

reverse_around : {A : Type 0} (xs : List A) (y : A) (ys : List A) → reverse (xs ++ y ∷ ys) ≡ reverse ys ++ y ∷ reverse xs
reverse_around xs y ys = reverse-append xs (y ∷ ys) ∙ ap (λ l. l ++ reverse xs) (reverse-cons y ys) ∙ append_snoc (reverse ys) y (reverse xs)

pub map_reverse : {A B : Type 0} (f : A → B) (xs ys : List A) → reverse_aux (map f xs) (map f ys) ≡ map f (reverse_aux xs ys)
map_reverse f [] ys = refl
map_reverse f (x ∷ xs) ys = map_reverse f xs (x ∷ ys)

-- backwards: each segment backwards
module _ {A B : Type 0} (rule : List A → List (Option B)) where
  abbrev turned : List A → List (Option B)
  turned s = reverse (rule (reverse s))

  over_one_reverse : (first : List A) → over_segments rule (reverse (map some first)) ≡ reverse (turned first)
  over_one_reverse first =
      ap (over_segments rule) (map_reverse some first []) ∙ over_one rule (reverse first) ∙ sym (reverse-reverse (rule (reverse first)))

  whole_turned : (first : List A) (rest : List (List A)) → over_segments rule (reverse (whole first rest)) ≡ reverse (over_segments turned (whole first rest))
  unfolding after_gaps
  whole_turned first [] =
      ap (λ l. over_segments rule (reverse l)) (append-nil (map some first)) ∙ over_one_reverse first
      ∙ ap reverse (sym (ap (over_segments turned) (append-nil (map some first)) ∙ over_one turned first))
  whole_turned first (s ∷ ss) =
      let w = whole s ss in
      ap (over_segments rule) (reverse_around (map some first) none w)
      ∙ over_gap rule (reverse w) (reverse (map some first))
      ∙ ap₂ (λ a b. a ++ none ∷ b) (whole_turned s ss) (over_one_reverse first)
      ∙ sym (ap reverse (over_gap turned (map some first) w ∙ ap (λ l. l ++ none ∷ over_segments turned w) (over_one turned first)) ∙ reverse_around (turned first) none (over_segments turned w))

  pub over_reverse : (days : List (Option A)) → over_segments rule (reverse days) ≡ reverse (over_segments turned days)
  over_reverse days = subst (λ ds. over_segments rule (reverse ds) ≡ reverse (over_segments turned ds)) (whole_parts days) (whole_turned (parts days).first (parts days).rest)

-- side by side: what two rules have on each segment, they have on each list
module _ {B C : Type 0} (R : Option ℕ → Option B → Option C → Type 0) (missing : R none none none) where
  module _ (f : List ℕ → List (Option B)) (g : List ℕ → List (Option C)) (alone : (flows : List ℕ) → Each R (map some flows) (f flows) (g flows)) where
    each_gap : (rest : List (List ℕ)) → Each R (after_gaps (map some) rest) (after_gaps f rest) (after_gaps g rest)
    unfolding after_gaps
    each_gap [] = done
    each_gap (s ∷ ss) = then missing (each_append (alone s) (each_gap ss))

    pub over_each : (days : List (Option ℕ)) → Each R days (over_segments f days) (over_segments g days)
    unfolding over_segments
    over_each days =
        let p = parts days in
        subst (λ ds. Each R ds (over_segments f days) (over_segments g days)) (whole_parts days) (each_append (alone p.first) (each_gap p.rest))

-- a rule of its own for the first segment: with one rule for all it is `over_segments` ..
pub over_first_lem : {A B : Type 0} (rule : List A → List (Option B)) → rule [] ≡ [] → (days : List (Option A)) → over_first rule rule days ≡ over_segments rule days
unfolding over_first over_segments parts after_gaps
over_first_lem rule e [] = rw e
over_first_lem rule e (none ∷ ds) = rw e (ap (λ l. none ∷ l) (over_first_lem rule e ds))
over_first_lem rule e (some y ∷ ds) = refl

-- .. one rule after another: each segment sees both ..
module _ {A B C : Type 0} (f₀ f : List A → List B) (g : List B → List (Option C)) (none_of_none : g [] ≡ []) where
  pub first_then : (days : List (Option A)) → over_segments g (over_first (λ s. map some (f₀ s)) (λ s. map some (f s)) days) ≡ over_first (λ s. g (f₀ s)) (λ s. g (f s)) days
  unfolding over_first over_segments parts after_gaps
  first_then [] = rw none_of_none refl
  first_then (none ∷ ds) = rw none_of_none (ap (λ l. none ∷ l) (first_then ds))
  first_then (some y ∷ ds) = let p = parts ds in rw (gaps_some f g p.rest, parts_whole (f₀ (y ∷ p.first)) (map f p.rest), gaps_then f g p.rest) refl

-- .. and side by side it is as that
module _ {B C : Type 0} (R : Option ℕ → Option B → Option C → Type 0) (missing : R none none none) where
  module _ (f₀ f : List ℕ → List (Option B)) (g₀ g : List ℕ → List (Option C)) (first : (flows : List ℕ) → Each R (map some flows) (f₀ flows) (g₀ flows)) (alone : (flows : List ℕ) → Each R (map some flows) (f flows) (g flows)) where
    pub first_each : (days : List (Option ℕ)) → Each R days (over_first f₀ f days) (over_first g₀ g days)
    unfolding over_first parts
    first_each [] = done
    first_each (none ∷ ds) = then missing (first_each ds)
    first_each (some y ∷ ds) =
        let p = parts ds in
        subst (λ l. Each R (some y ∷ l) (over_first f₀ f (some y ∷ ds)) (over_first g₀ g (some y ∷ ds))) (whole_parts ds) (each_append (first (y ∷ p.first)) (each_gap R missing f g alone p.rest))
