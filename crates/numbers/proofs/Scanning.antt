-- Runs as loops do them, by what is done so far followed by the run over what is left. `next` and `out` say what one
-- turn does: it stores `out s x` and goes on with `next s x`.
-- Assumes nothing.
use Prim.Native.Nat.{ℕ, suc, ◌+◌, ◌≤◌, ◌<◌}
use mathlib.Core.Path.{◌≡◌, refl, ◌∙◌, ap, ap₂}
use mathlib.Core.List.{List, [], ◌∷◌, ◌++◌, reverse, reverse-cons, reverse-append, append-nil, map}
use native.Mathlib.Numerals.{add-one}
use native.Mathlib.Omega.{arith}
use lib.ListN.{length, get_or, take, drop, set, drop_of_length-le}
use lib.Seq.{take-suc, drop-cons, take-suc-set, drop-set-lt, take-set-le, take_all, append_snoc, lt-length-set, get_or-set_same}
use Rattle.numbers.specs.Scan.{scan}

pub scan_length : {S A B : Type 0} (next : S → A → S) (out : S → A → B) (s : S) (xs : List A) → length (scan next out s xs) ≡ length xs
unfolding scan
scan_length next out s [] = refl
scan_length next out s (x ∷ xs) = ap suc (scan_length next out (next s x) xs)

pub scan_none : {S A B : Type 0} (next : S → A → S) (out : S → A → B) (s : S) → scan next out s [] ≡ []
unfolding scan
scan_none next out s = refl

pub scan_next : {S A B : Type 0} (next : S → A → S) (out : S → A → B) (s : S) (x : A) (xs : List A) → scan next out s (x ∷ xs) ≡ out s x ∷ scan next out (next s x) xs
unfolding scan
scan_next next out s x xs = refl

-- into another list: xs is read, ys is written
module _ {S A B : Type 0} (next : S → A → S) (out : S → A → B) (xs : List A) (x₀ : A) where
  pub into_turn : (ys : List B) (i : ℕ) (s : S) {v : B} {s' : S} → i < length xs → i < length ys → v ≡ out s (get_or xs i x₀) → s' ≡ next s (get_or xs i x₀)
      → take (i + 1) (set ys i v) ++ scan next out s' (drop (i + 1) xs) ≡ take i ys ++ scan next out s (drop i xs)
  unfolding scan
  into_turn ys i s h k e f = rw (add-one, drop-cons xs i x₀, take-suc-set, e, f, append_snoc)

  pub into_end : (ys : List B) (i : ℕ) (s : S) → length xs ≤ i → length ys ≤ i → take i ys ++ scan next out s (drop i xs) ≡ ys
  unfolding scan
  into_end ys i s h k = rw (drop_of_length-le xs h, append-nil) (take_all i ys k)

-- in place: the list itself is read and written
module _ {S A : Type 0} (next : S → A → S) (out : S → A → A) (x₀ : A) where
  pub place_turn : (xs : List A) (i : ℕ) (s : S) {v : A} {s' : S} → i < length xs → v ≡ out s (get_or xs i x₀) → s' ≡ next s (get_or xs i x₀)
      → take (i + 1) (set xs i v) ++ scan next out s' (drop (i + 1) (set xs i v)) ≡ take i xs ++ scan next out s (drop i xs)
  unfolding scan
  place_turn xs i s {v} h e f = rw (add-one, drop-set-lt (suc i) xs i v (omega arith), drop-cons xs i x₀, take-suc-set, e, f, append_snoc)

  -- backward in place, from the last element to the first: the elements from i on are done
  abbrev pub backward : S → List A → List A
  backward s xs = reverse (scan next out s (reverse xs))

  backward_snoc : (s : S) (xs : List A) (x : A) → backward s (xs ++ x ∷ []) ≡ backward (next s x) xs ++ out s x ∷ []
  unfolding scan
  backward_snoc s xs x = rw (reverse-append) (reverse-cons (out s x) (scan next out (next s x) (reverse xs)))

  pub back_turn : (xs : List A) (i : ℕ) (s : S) {v : A} {s' : S} → i < length xs → v ≡ out s (get_or xs i x₀) → s' ≡ next s (get_or xs i x₀)
      → backward s' (take i (set xs i v)) ++ drop i (set xs i v) ≡ backward s (take (i + 1) xs) ++ drop (i + 1) xs
  back_turn xs i s {v} {s'} h e f =
      let x = get_or xs i x₀ in
      let stored : drop i (set xs i v) ≡ v ∷ drop (suc i) xs =
      drop-cons (set xs i v) i x₀ (lt-length-set xs i v h) ∙ ap₂ (λ y ys. y ∷ ys) (get_or-set_same xs i v x₀ h) (drop-set-lt (suc i) xs i v (omega arith)) in
      rw (add-one, take-set-le i xs i v (omega arith), stored, take-suc xs i x₀, e, f, backward_snoc s (take i xs) x, append_snoc)

  pub back_start : (xs : List A) (s : S) (i : ℕ) → length xs ≤ i → backward s (take i xs) ++ drop i xs ≡ backward s xs
  back_start xs s i h = rw (take_all i xs h, drop_of_length-le xs h, append-nil)

  pub back_end : (xs : List A) (s : S) (i : ℕ) → i ≤ 0 → backward s (take i xs) ++ drop i xs ≡ xs
  unfolding scan
  back_end xs s i h = let e : i ≡ 0 = omega arith in rw e

-- a run seen through views of its states, inputs and outputs
module _ {S S' A A' B B' : Type 0} (next : S → A → S) (out : S → A → B) (next' : S' → A' → S') (out' : S' → A' → B') (state : S → S') (input : A → A') (output : B' → B)
    (same_next : (s : S) (x : A) → state (next s x) ≡ next' (state s) (input x)) (same_out : (s : S) (x : A) → out s x ≡ output (out' (state s) (input x))) where
  pub scan_seen : (s : S) (xs : List A) → scan next out s xs ≡ map output (scan next' out' (state s) (map input xs))
  unfolding scan
  scan_seen s [] = refl
  scan_seen s (x ∷ xs) =
      ap₂ (λ b bs. b ∷ bs) (same_out s x) (scan_seen (next s x) xs ∙ ap (λ t. map output (scan next' out' t (map input xs))) (same_next s x))
