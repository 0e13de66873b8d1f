-- Those of a list that pass a test: exactly the elements that do, and no more of them than there are.
-- Assumes nothing.
use Prim.Native.Nat.{suc, ◌≤◌}
use mathlib.Core.Path.{◌≡◌, refl, sym, ◌∙◌, ap}
use mathlib.Core.Bool.{Bool, true, false, cond, false≢true}
use mathlib.Core.List.Memᴰ
use mathlib.Core.List.{List, [], ◌∷◌, Memᴰ}
use mathlib.Core.Logic.{⊎_elim}
use native.Mathlib.Omega.{arith}
use lib.ListN.{length}
use Rattle.numbers.specs.Lists.{selected}
use Rattle.numbers.proofs.Sorting.{All, all_members, members_all, InOrder, order_end, order_next}

module _ {A : Type 0} (test : A → Bool) where
  pub selected_none : selected test [] ≡ []
  unfolding selected
  selected_none = refl

  pub selected_pass : {x : A} (xs : List A) → test x ≡ true → selected test (x ∷ xs) ≡ x ∷ selected test xs
  unfolding selected
  selected_pass xs e = rw e

  pub selected_fail : {x : A} (xs : List A) → test x ≡ false → selected test (x ∷ xs) ≡ selected test xs
  unfolding selected
  selected_fail xs e = rw e

  pub selected_few : (xs : List A) → length (selected test xs) ≤ length xs
  unfolding selected
  selected_few [] = omega arith
  selected_few (x ∷ xs) = by_test (test x) (selected_few xs)
    where
      by_test : (b : Bool) → length (selected test xs) ≤ length xs → length (cond b (x ∷ selected test xs) (selected test xs)) ≤ suc (length xs)
      by_test true h = omega arith
      by_test false h = omega arith

  pub selected_from : (xs : List A) {x : A} → Memᴰ x (selected test xs) → Memᴰ x xs × (test x ≡ true)
  unfolding selected
  selected_from [] m = absurd (Memᴰ.not-nil m)
  selected_from (y ∷ ys) {x} m = by_test (test y) refl (selected_from ys) m
    where
      by_test : (b : Bool) → test y ≡ b → (Memᴰ x (selected test ys) → Memᴰ x ys × (test x ≡ true))
          → Memᴰ x (cond b (y ∷ selected test ys) (selected test ys)) → Memᴰ x (y ∷ ys) × (test x ≡ true)
      by_test true t rest n = ⊎_elim (λ e. (Memᴰ.head e, ap test e ∙ t)) (λ n. let r = rest n in (Memᴰ.tail r.0, r.1)) (Memᴰ.cases_cons n)
      by_test false t rest n = let r = rest n in (Memᴰ.tail r.0, r.1)

  pub selected_still : {x : A} {xs : List A} → test x ≡ true → Memᴰ x xs → Memᴰ x (selected test xs)
  unfolding selected
  selected_still t (Memᴰ.head e) = rw (sym (ap test e) ∙ t) (Memᴰ.head e)
  selected_still {x = x} t (Memᴰ.tail {x = y} {xs = ys} m) = by_test (test y) (selected_still t m)
    where
      by_test : (b : Bool) → Memᴰ x (selected test ys) → Memᴰ x (cond b (y ∷ selected test ys) (selected test ys))
      by_test true n = Memᴰ.tail n
      by_test false n = n

  -- what holds of all holds of these, and so does what holds of any two
  pub selected_all : {P : A → Type 0} {xs : List A} → All P xs → All P (selected test xs)
  selected_all {xs = xs} a = all_members (selected test xs) (λ x m. members_all a (selected_from xs m).0)

  pub selected_in_order : {R : A → A → Type 0} {xs : List A} → InOrder R xs → InOrder R (selected test xs)
  unfolding selected
  selected_in_order order_end = order_end
  selected_in_order {R} (order_next {x} {l} a o) = by_test (test x) (selected_in_order o)
    where
      by_test : (b : Bool) → InOrder R (selected test l) → InOrder R (cond b (x ∷ selected test l) (selected test l))
      by_test true r = order_next (selected_all a) r
      by_test false r = r

-- a test that lets fewer pass, after one that lets them pass
pub select_twice : {A : Type 0} (test more : A → Bool) → ((x : A) → test x ≡ true → more x ≡ true) → (xs : List A) → selected test (selected more xs) ≡ selected test xs
unfolding selected
select_twice test more h [] = refl
select_twice test more h (x ∷ xs) = by_tests (more x) refl (test x) refl (select_twice test more h xs)
  where
    by_tests : (b : Bool) → more x ≡ b → (c : Bool) → test x ≡ c → selected test (selected more xs) ≡ selected test xs
        → selected test (cond b (x ∷ selected more xs) (selected more xs)) ≡ cond c (x ∷ selected test xs) (selected test xs)
    by_tests true e true f rest = rw f (ap (λ l. x ∷ l) rest)
    by_tests true e false f rest = rw f rest
    by_tests false e true f rest = absurd (false≢true (sym e ∙ h x f))
    by_tests false e false f rest = rest
