-- The choice on a day as the code makes it, over the values of the day: the lowest, the highest, and the middle one by
-- counting how many are smaller. Each is the value of its rank.
-- Assumes nothing.
use Prim.Native.Nat.{ℕ, suc, ◌+◌, ◌/◌, ◌≤◌, ◌<◌, min, max}
use mathlib.Core.Path.{◌≡◌, refl, sym, ◌∙◌, ap}
use mathlib.Core.Bool.{Bool, true, false, not, cond, true≢false}
use mathlib.Core.List.Memᴰ
use mathlib.Core.List.{List, [], ◌∷◌, map, Memᴰ}
use mathlib.Core.Option.{Option, none, some}
use mathlib.Core.Logic.{◌⊎◌, inl, inr, ⊎_elim}
use native.Mathlib.Nat.{le_of_lt, lt_of_not-le, min-eq_left, min-eq_right, max-eq_left, max-eq_right}
use native.Mathlib.Decide.{dec_le, ℕ_discrete}
use native.Mathlib.Omega.{arith}
use lib.Dec.{leb, ltb, eqb, leb-suc-suc}
use lib.ListN.{length}
use borrow.Author.Tests.{eq-eqb, ne_eqb, leb-true, le-leb, ltb-true, lt-ltb, le-ltb}
use Rattle.std.specs.Prelude.{Option as Held, Some, None, MatchOption}
use mir.Val.{bool_byte as from_bool}
use Rattle.std.specs.Option.{option_map, unwrap_or}
use Rattle.std.specs.List.{AllWithin, HoldsAt, filter, fold, reduce}
use Rattle.numbers.specs.Arithmetic.{rounded}
use Rattle.numbers.specs.Order.{ranked, below}
use Rattle.numbers.proofs.Sorting.{All, none_left, and_all, members_all, below_end, below_smaller, below_not}
use Rattle.numbers.proofs.Ranks.{HasRank, rank_found, found_rank, ranked_one, ranked_none, lowest_ranked, highest_ranked}
use Rattle.series.specs.Units.{no_value_mark, base_of, base_mark}
use Rattle.series.proofs.Views.{both_of, base_none, base_value}
use Rattle.staggered.specs.Rule.{present, rank_of, chosen}
use Rattle.staggered.specs.Private.{option_of, has_rank}

-- a number in memory is the mark, or a value
seen : (x : ℕ) → (x ≡ no_value_mark) ⊎ ((x ≡ no_value_mark → ⊥) × (base_of x ≡ some x))
seen x = elim (ℕ_discrete x no_value_mark) [ yes e ↦ inl e | no n ↦ inr (n, base_value x n) ]

-- the numbers of a day that are not the mark are its values
pub values_kept : (xs : List ℕ) → filter (λ x. not (eqb x no_value_mark)) xs ≡ present (map base_of xs)
unfolding present
values_kept [] = refl
values_kept (x ∷ xs) =
    ⊎_elim (λ e. rw (eq-eqb x no_value_mark e, base_none x e) (values_kept xs)) (λ m. rw (ne_eqb x no_value_mark m.0, m.1) (ap (λ l. x ∷ l) (values_kept xs))) (seen x)

-- those smaller than a value, of all numbers, are the values smaller than it: no mark is
pub smaller_counted : (v : ℕ) (test : ℕ → Bool) → v ≤ no_value_mark → ((x : ℕ) → test x ≡ ltb x v) → (xs : List ℕ) → length (filter test xs) ≡ below v (present (map base_of xs))
unfolding present
smaller_counted v test h e [] = sym (below_end v)
smaller_counted v test h e (x ∷ xs) =
    let rest = smaller_counted v test h e xs in
    rw (e x)
    (elim (dec_le v x) [
      | yes g ↦ rw (le-ltb x v g) (rest ∙ ⊎_elim (λ m. rw (base_none x m)) (λ m. rw m.1 (sym (below_not v x _ g))) (seen x))
      | no g ↦
          let l = lt_of_not-le g in
          rw (lt-ltb x v l, base_value x (λ m. absurd (omega arith))) (ap suc rest ∙ sym (below_smaller v x _ l))
    ])

-- The two counts of a rank on the way over a day's numbers: with what the numbers that are left add, they are those of the
-- day's values; and neither is more than there are numbers.
pub record Ranking (v most : ℕ) (left values : List ℕ) (smaller up_to : ℕ) : Type 0 where
  pub fewer : smaller + length (filter (λ x. ltb x v) left) ≡ below v values
  pub enough : up_to + length (filter (λ x. leb x v) left) ≡ below (suc v) values
  pub room : (smaller + length left ≤ most) × (up_to + length left ≤ most)

pub ranking_start : (v : ℕ) → v < no_value_mark → (xs : List ℕ) {most : ℕ} → length xs ≤ most → Ranking v most xs (present (map base_of xs)) 0 0
ranking_start v h xs few =
    let smaller = smaller_counted v (λ x. ltb x v) (omega arith) (λ x. refl) xs in
    let up_to = smaller_counted (suc v) (λ x. leb x v) (omega arith) (λ x. sym (leb-suc-suc x v)) xs in
    record { fewer = omega (arith, smaller); enough = omega (arith, up_to); room = omega (arith, few) }

counted_on : (b : Bool) (x : ℕ) (xs : List ℕ) → length (cond b (x ∷ xs) xs) ≡ from_bool b + length xs
counted_on true x xs = omega arith
counted_on false x xs = omega arith

one_at_most : (b : Bool) → from_bool b ≤ 1
one_at_most true = omega arith
one_at_most false = omega arith

pub ranking_turn : {v most x smaller up_to : ℕ} {xs values : List ℕ} → Ranking v most (x ∷ xs) values smaller up_to → Ranking v most xs values (smaller + from_bool (ltb x v)) (up_to + from_bool (leb x v))
ranking_turn {v} {most} {x} {smaller} {up_to} {xs} {values} r =
    let below_v : length (filter (λ y. ltb y v) (x ∷ xs)) ≡ from_bool (ltb x v) + length (filter (λ y. ltb y v) xs) = counted_on (ltb x v) x _ in
    let up_to_v : length (filter (λ y. leb y v) (x ∷ xs)) ≡ from_bool (leb x v) + length (filter (λ y. leb y v) xs) = counted_on (leb x v) x _ in
    record { fewer = omega (arith, r.fewer, below_v); enough = omega (arith, r.enough, up_to_v); room = omega (arith, r.room, one_at_most (ltb x v), one_at_most (leb x v)) }

pub ranking_end : {v most smaller up_to : ℕ} {values : List ℕ} → Ranking v most [] values smaller up_to → (smaller ≡ below v values) × (up_to ≡ below (suc v) values)
ranking_end r = let fewer = r.fewer in let enough = r.enough in (omega arith, omega arith)

-- the test of a rank, by the two counts
module _ (k v : ℕ) (l : List ℕ) {smaller : ℕ} (s : smaller ≡ below v l) where
  pub rank_tested : {up : ℕ} → smaller < k → up ≡ below (suc v) l → leb k up ≡ has_rank k v l
  rank_tested h u = rw (lt-ltb (below v l) k (omega arith)) (ap (leb k) u)

  pub rank_refused : k ≤ smaller → ltb smaller k ≡ has_rank k v l
  rank_refused h = rw (le-ltb smaller k h, le-ltb (below v l) k (omega arith)) refl

-- what holds at every place of a list holds of all its elements
all_at_places : {P : ℕ → Type 0} (l : List ℕ) → AllWithin P l 0 (length l) → All P l
all_at_places [] h = none_left
all_at_places (x ∷ l) h = and_all (h 0 0 (omega arith) (omega arith)) (all_at_places l (λ i d _ g. h (suc i) d (omega arith) (omega arith)))

-- the first value of a rank, or none where none has it
module _ (k : ℕ) (l : List ℕ) where
  tested : (v : ℕ) → has_rank k v l ≡ true → HasRank k v l
  tested v e = let h = both_of _ _ e in record { fewer = ltb-true (below v l) k h.0; enough = leb-true k (below (suc v) l) h.1 }

  holds : (v : ℕ) → HasRank k v l → has_rank k v l ≡ true
  holds v h = simp (lt-ltb (below v l) k h.fewer, le-leb k (below (suc v) l) h.enough)

  -- what `find` says of the first value of rank k
  abbrev pub Found : Held ℕ → Type 0
  Found r = MatchOption r (AllWithin (λ v. has_rank k v l ≡ false) l 0 (length l)) (λ v. (has_rank k v l ≡ true) × (i : ℕ) × (i < length l) × HoldsAt (λ y. y ≡ v) l i × AllWithin (λ w. has_rank k w l ≡ false) l 0 i)

  found_ranked : (0 < k) ⊎ (l ≡ []) → (r : Held ℕ) → Found r → option_of r ≡ ranked leb k l
  found_ranked p (Some v) h = sym (rank_found k v l (tested v h.0))
  found_ranked (inr e) None h = sym (ap (ranked leb k) e ∙ ranked_none leb k)
  found_ranked (inl p) None h = go (ranked leb k l) refl
    where
      go : (r : Option ℕ) → ranked leb k l ≡ r → none ≡ r
      go none e = refl
      go (some v) e = absurd (true≢false (sym (holds v (found_rank k v l p e)) ∙ members_all {P = λ v. has_rank k v l ≡ false} (all_at_places l h) (ranked_one leb k l e)))

pub middle_found : (os : List (Option ℕ)) (k : ℕ) → k ≡ (length (present os) + 1) / 2 → (r : Held ℕ) → Found k (present os) r → option_of r ≡ chosen rounded 3 os
unfolding chosen rank_of
middle_found os k e r h = found_ranked k (present os) (some_rank (present os) refl) r h ∙ ap (λ n. ranked leb n (present os)) e
  where
    some_rank : (l : List ℕ) → present os ≡ l → (0 < k) ⊎ (present os ≡ [])
    some_rank [] f = inr f
    some_rank (x ∷ l) f = let g = ap length f in inl (omega arith)

-- the lowest and the highest
picked_in : (pick : ℕ → ℕ → ℕ) → ((a b : ℕ) → (pick a b ≡ a) ⊎ (pick a b ≡ b)) → (a : ℕ) (l : List ℕ) → Memᴰ (fold pick a l) (a ∷ l)
picked_in pick h a [] = Memᴰ.head refl
picked_in pick h a (b ∷ l) =
    ⊎_elim (λ e. ⊎_elim (λ f. Memᴰ.head (e ∙ f)) (λ f. Memᴰ.tail (Memᴰ.head (e ∙ f))) (h a b)) (λ m. Memᴰ.tail (Memᴰ.tail m)) (Memᴰ.cases_cons (picked_in pick h (pick a b) l))

lower : (a b : ℕ) → (min a b ≡ a) ⊎ (min a b ≡ b)
lower a b = elim (dec_le a b) [ yes h ↦ inl (min-eq_left h) | no h ↦ inr (min-eq_right (le_of_lt (lt_of_not-le h))) ]

higher : (a b : ℕ) → (max a b ≡ a) ⊎ (max a b ≡ b)
higher a b = elim (dec_le a b) [ yes h ↦ inr (max-eq_right h) | no h ↦ inl (max-eq_left (le_of_lt (lt_of_not-le h))) ]

least : (a : ℕ) (l : List ℕ) → All (λ x. fold min a l ≤ x) (a ∷ l)
least a [] = and_all (omega arith) none_left
least a (b ∷ l) = go (least (min a b) l)
  where
    go : {r : ℕ} → All (λ x. r ≤ x) (min a b ∷ l) → All (λ x. r ≤ x) (a ∷ b ∷ l)
    go (and_all h k) = and_all (omega arith) (and_all (omega arith) k)

most : (a : ℕ) (l : List ℕ) → All (λ x. x ≤ fold max a l) (a ∷ l)
most a [] = and_all (omega arith) none_left
most a (b ∷ l) = go (most (max a b) l)
  where
    go : {r : ℕ} → All (λ x. x ≤ r) (max a b ∷ l) → All (λ x. x ≤ r) (a ∷ b ∷ l)
    go (and_all h k) = and_all (omega arith) (and_all (omega arith) k)

same_option : (r : Held ℕ) → option_of r ≡ option_of (option_map (λ x. x) r)
same_option None = refl
same_option (Some v) = refl

pub lowest_found : (os : List (Option ℕ)) (r : Held ℕ) → option_map (λ x. x) r ≡ reduce min (present os) → option_of r ≡ chosen rounded 1 os
unfolding chosen rank_of
lowest_found os r e = same_option r ∙ ap option_of e ∙ go (present os)
  where
    go : (l : List ℕ) → option_of (reduce min l) ≡ ranked leb 1 l
    go [] = sym (ranked_none leb 1)
    go (x ∷ l) = sym (lowest_ranked (fold min x l) (picked_in min lower x l) (least x l))

pub highest_found : (os : List (Option ℕ)) (r : Held ℕ) → option_map (λ x. x) r ≡ reduce max (present os) → option_of r ≡ chosen rounded 2 os
unfolding chosen rank_of
highest_found os r e = same_option r ∙ ap option_of e ∙ go (present os)
  where
    go : (l : List ℕ) → option_of (reduce max l) ≡ ranked leb (length l) l
    go [] = sym (ranked_none leb 0)
    go (x ∷ l) = sym (highest_ranked (fold max x l) (picked_in max higher x l) (most x l))

-- the number for it in memory
pub marked : (r : Held ℕ) → unwrap_or r no_value_mark ≡ base_mark (option_of r)
unfolding base_mark
marked None = refl
marked (Some v) = refl
