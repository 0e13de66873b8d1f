-- A choice by rank brings two lists no further apart than their members: what stands in a relation to each other, member by
-- member, does so rank by rank, each list in its own rising order.
-- Assumes nothing.
use Prim.Native.Nat.{ℕ, zero, suc, ◌-◌, ◌≤◌, ◌<◌}
use mathlib.Core.Path.{◌≡◌, refl, sym, ◌∙◌, ap, subst}
use mathlib.Core.Bool.{Bool, true, false, cond}
use mathlib.Core.List.{List, [], ◌∷◌, map, Memᴰ}
use mathlib.Core.Option.{Option, none, some, none-ne-some, some-injective}
use native.Mathlib.Nat.{lt_of_not-le}
use native.Mathlib.Decide.{dec_le}
use native.Mathlib.Omega.{arith}
use lib.Dec.{leb}
use lib.ListN.{length, get_or}
use borrow.Author.Tests.{leb-true}
use Rattle.numbers.specs.Fraction.{Fraction}
use Rattle.numbers.specs.Lists.{Beside, none_beside, and_beside}
use Rattle.numbers.specs.Arithmetic.{Close, rounded, exact}
use Rattle.numbers.specs.Order.{insert_rising, rising, at_rank, ranked, below}
use Rattle.numbers.proofs.Sorting.{All, none_left, and_all, all_members, rising_all, rising_length, Order, Ascending, ascending_end, ascending_next, Ascends, later, rising_ascends, numbers, below_smaller, below_not, below_rising, rank_of_lem, by_smaller}
use Rattle.numbers.proofs.Fractions.{at_most_true, close_crossed}

module _ {A B : Type 0} {R : A → B → Type 0} where
  pub beside_length : {xs : List A} {ys : List B} → Beside R xs ys → length xs ≡ length ys
  beside_length none_beside = refl
  beside_length (and_beside r e) = ap suc (beside_length e)

  -- member by member, or what stands for none
  pub beside_at : {xs : List A} {ys : List B} (a : A) (b : B) → R a b → Beside R xs ys → (i : ℕ) → R (get_or xs i a) (get_or ys i b)
  beside_at a b h none_beside i = h
  beside_at a b h (and_beside r e) zero = r
  beside_at a b h (and_beside r e) (suc i) = beside_at a b h e i

  pub beside_map : {X : Type 0} (f : X → A) (g : X → B) → ((x : X) → R (f x) (g x)) → (l : List X) → Beside R (map f l) (map g l)
  beside_map f g h [] = none_beside
  beside_map f g h (x ∷ l) = and_beside (h x) (beside_map f g h l)

-- Insertion in a list in rising order, by comparing and exchanging all the way: the smaller of two stays, and the larger
-- goes on.
module _ {A : Type 0} (at_most : A → A → Bool) where
  unfoldable sift : A → List A → List A
  sift x [] = x ∷ []
  sift x (y ∷ l) = cond (at_most x y) x y ∷ sift (cond (at_most x y) y x) l

  sift_first : (x : A) {l : List A} → Ascending at_most x l → sift x l ≡ x ∷ l
  unfolding sift
  sift_first x ascending_end = refl
  sift_first x (ascending_next {x = y} h a) = rw h (ap (λ k. x ∷ k) (sift_first y a))

  sift_inserts : Order at_most → (x : A) (l : List A) → Ascends at_most l → insert_rising at_most x l ≡ sift x l
  unfolding insert_rising sift
  sift_inserts o x [] a = refl
  sift_inserts o x (y ∷ l) a = by_order (at_most x y) (sift_inserts o x l (later o a))
    where
      by_order : (t : Bool) → insert_rising at_most x l ≡ sift x l → cond t (x ∷ y ∷ l) (y ∷ insert_rising at_most x l) ≡ cond t x y ∷ sift (cond t y x) l
      by_order true e = ap (λ k. x ∷ k) (sym (sift_first y a))
      by_order false e = ap (λ k. y ∷ k) e

-- two that stand the one way round in one list and the other way round in the other may be exchanged
abbrev pub Crossing : {A B : Type 0} → (A → A → Bool) → (B → B → Bool) → (A → B → Type 0) → Type 0
Crossing {A} {B} at_most at_most' R = (m n : A) (f g : B) → at_most m n ≡ true → at_most' g f ≡ true → R m f → R n g → R m g × R n f

module _ {A B : Type 0} {R : A → B → Type 0} {at_most : A → A → Bool} {at_most' : B → B → Bool} (o : Order at_most) (o' : Order at_most') (crossed : Crossing at_most at_most' R) where
  exchanged : (x y : A) (f g : B) (s t : Bool) → at_most x y ≡ s → at_most' f g ≡ t → R x f → R y g → R (cond s x y) (cond t f g) × R (cond s y x) (cond t g f)
  exchanged x y f g true true d e r q = (r, q)
  exchanged x y f g true false d e r q = crossed x y f g d (o'.either f g e) r q
  exchanged x y f g false true d e r q = crossed y x g f (o.either x y d) e q r
  exchanged x y f g false false d e r q = (q, r)

  sift_beside : {x : A} {f : B} {l : List A} {k : List B} → R x f → Beside R l k → Beside R (sift at_most x l) (sift at_most' f k)
  unfolding sift
  sift_beside r none_beside = and_beside r none_beside
  sift_beside {x} {f} r (and_beside {a = y} {b = g} q e) =
      let z = exchanged x y f g (at_most x y) (at_most' f g) refl refl r q in and_beside z.0 (sift_beside {x = cond (at_most x y) y x} {f = cond (at_most' f g) g f} z.1 e)

  pub rising_beside : {l : List A} {k : List B} → Beside R l k → Beside R (rising at_most l) (rising at_most' k)
  unfolding rising
  rising_beside none_beside = none_beside
  rising_beside (and_beside {a = x} {b = f} {xs = l} {ys = k} r e) =
      rw (sift_inserts at_most o x (rising at_most l) (rising_ascends o l), sift_inserts at_most' o' f (rising at_most' k) (rising_ascends o' k)) (sift_beside r (rising_beside e))

-- closeness of the rounded run and the exact run is such a relation
pub close_crossing : (p : Fraction) → Crossing rounded.at_most exact.at_most (Close p)
close_crossing p m n f g h k x y = close_crossed (leb-true m n h) (at_most_true g f k) x y

-- the one at a rank, or none on both sides
module _ {A B : Type 0} (Q : Option A → Option B → Type 0) {at_most : A → A → Bool} {at_most' : B → B → Bool} (o : Order at_most) (o' : Order at_most') (crossed : Crossing at_most at_most' (λ a b. Q (some a) (some b))) where
  all_some : {l : List A} {k : List B} → Beside (λ a b. Q (some a) (some b)) l k → Beside Q (map some l) (map some k)
  all_some none_beside = none_beside
  all_some (and_beside r e) = and_beside r (all_some e)

  pub ranked_beside : {l : List A} {k : List B} (rank : ℕ) → Q none none → Beside (λ a b. Q (some a) (some b)) l k → Q (ranked at_most rank l) (ranked at_most' rank k)
  unfolding ranked
  ranked_beside rank h e = beside_at none none h (all_some (rising_beside o o' crossed e)) (rank - 1)

-- what has a rank is one of the list
module _ {A : Type 0} (at_most : A → A → Bool) where
  some_of : {P : A → Type 0} {l : List A} → All P l → (i : ℕ) {v : A} → get_or (map some l) i none ≡ some v → P v
  some_of none_left i {v} e = absurd (none-ne-some v e)
  some_of {P} (and_all {x = x} h a) zero {v} e = subst P (some-injective x v e) h
  some_of (and_all h a) (suc i) e = some_of a i e

  pub ranked_one : (rank : ℕ) (l : List A) {v : A} → ranked at_most rank l ≡ some v → Memᴰ v l
  unfolding ranked
  ranked_one rank l e = some_of (rising_all at_most (all_members l (λ x m. m))) (rank - 1) e

  pub ranked_alone : (v : A) → ranked at_most 1 (v ∷ []) ≡ some v
  unfolding ranked rising insert_rising at_rank
  ranked_alone v = refl

  pub ranked_none : (rank : ℕ) → ranked at_most rank [] ≡ none
  unfolding ranked
  ranked_none rank = refl

-- and there is one of each rank from 1 to the length
some_at : {A : Type 0} (l : List A) (d : A) (i : ℕ) → i < length l → get_or (map some l) i none ≡ some (get_or l i d)
some_at [] d i h = absurd (omega arith)
some_at (x ∷ l) d zero h = refl
some_at (x ∷ l) d (suc i) h = some_at l d i (omega arith)

pub record There {A : Type 0} (o : Option A) : Type 0 where
  pub value : A
  pub found : o ≡ some value

pub ranked_there : {A : Type 0} (at_most : A → A → Bool) (rank : ℕ) (l : List A) → 0 < rank → rank ≤ length l → There (ranked at_most rank l)
unfolding ranked
ranked_there at_most rank [] p h = absurd (omega arith)
ranked_there at_most rank (x ∷ l) p h = record { value = get_or (rising at_most (x ∷ l)) (rank - 1) x; found = some_at (rising at_most (x ∷ l)) x (rank - 1) (omega (arith, rising_length at_most (x ∷ l))) }

-- Numbers: the one of a rank, by how many are smaller.
pub below_few : (v : ℕ) (l : List ℕ) → below v l ≤ length l
unfolding below
below_few v [] = omega arith
below_few v (x ∷ l) = elim (dec_le v x) [ yes h ↦ omega (arith, below_not v x l h, below_few v l) | no h ↦ omega (arith, below_smaller v x l (lt_of_not-le h), below_few v l) ]

-- v has rank k: fewer than k are smaller, and at least k are at most v
pub record HasRank (k v : ℕ) (l : List ℕ) : Type 0 where
  pub fewer : below v l < k
  pub enough : k ≤ below (suc v) l

pub rank_found : (k v : ℕ) (l : List ℕ) → HasRank k v l → ranked leb k l ≡ some v
unfolding ranked
rank_found k v l h =
    let few = below_few (suc v) l in
    some_at (rising leb l) 0 (k - 1) (omega (arith, rising_length leb l, h.fewer, h.enough)) ∙ ap some (by_smaller l (k - 1) v (omega (arith, h.fewer)) (omega (arith, h.fewer, h.enough)))

pub found_rank : (k v : ℕ) (l : List ℕ) → 0 < k → ranked leb k l ≡ some v → HasRank k v l
unfolding ranked
found_rank k v l p e =
    let m = rising leb l in
    let inside = some_inside m (k - 1) e in
    let same : get_or m (k - 1) 0 ≡ v = some-injective _ v (sym (some_at m 0 (k - 1) inside) ∙ e) in
    let h = rank_of_lem m (rising_ascends numbers l) (k - 1) inside in
    subst (λ v. HasRank k v l) same (record { fewer = omega (arith, h.0, below_rising (get_or m (k - 1) 0) l); enough = omega (arith, h.1, below_rising (suc (get_or m (k - 1) 0)) l) })
  where
    some_inside : {A : Type 0} (m : List A) (i : ℕ) {v : A} → get_or (map some m) i none ≡ some v → i < length m
    some_inside [] i {v} e = absurd (none-ne-some v e)
    some_inside (x ∷ m) zero e = omega arith
    some_inside (x ∷ m) (suc i) e = omega (arith, some_inside m i e)

-- the extremes: the lowest has rank 1, and the highest of c has rank c
module _ (v : ℕ) where
  none_smaller : {l : List ℕ} → All (λ x. v ≤ x) l → below v l ≡ 0
  unfolding below
  none_smaller none_left = refl
  none_smaller (and_all {x = x} {l = l} h a) = below_not v x l h ∙ none_smaller a

  pub all_smaller : {l : List ℕ} → All (λ x. x ≤ v) l → below (suc v) l ≡ length l
  unfolding below
  all_smaller none_left = refl
  all_smaller (and_all {x = x} {l = l} h a) = below_smaller (suc v) x l (omega arith) ∙ ap suc (all_smaller a)

  itself_counted : {l : List ℕ} → Memᴰ v l → (below v l < length l) × (0 < below (suc v) l)
  itself_counted (Memᴰ.head {x = x} {xs = l} e) = (omega (arith, below_not v x l (omega arith), below_few v l), omega (arith, below_smaller (suc v) x l (omega arith)))
  itself_counted (Memᴰ.tail {x = x} {xs = l} m) =
      let h = itself_counted m in
      elim (dec_le v x) [
        | yes g ↦ (omega (arith, below_not v x l g), omega (arith, below_few (suc v) l, more (suc v) x l))
        | no g ↦ (omega (arith, below_smaller v x l (lt_of_not-le g)), omega (arith, more (suc v) x l))
      ]
    where
      more : (v x : ℕ) (l : List ℕ) → below v l ≤ below v (x ∷ l)
      more v x l = elim (dec_le v x) [ yes g ↦ omega (arith, below_not v x l g) | no g ↦ omega (arith, below_smaller v x l (lt_of_not-le g)) ]

  pub lowest_ranked : {l : List ℕ} → Memᴰ v l → All (λ x. v ≤ x) l → ranked leb 1 l ≡ some v
  lowest_ranked {l} m a = rank_found 1 v l (record { fewer = omega (arith, none_smaller a); enough = (itself_counted m).1 })

  pub highest_ranked : {l : List ℕ} → Memᴰ v l → All (λ x. x ≤ v) l → ranked leb (length l) l ≡ some v
  highest_ranked {l} m a = rank_found (length l) v l (record { fewer = (itself_counted m).0; enough = omega (arith, all_smaller a) })
