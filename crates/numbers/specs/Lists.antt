-- Lists in general: elements side by side, those that pass a test, and values put into a list.
use Rattle.std.specs.Prelude.{ℕ, ◌+◌, Bool, cond, List, [], ◌∷◌, ◌++◌, length, take, drop}

-- three lists of one length, whose elements stand in a relation one by one
pub data Each {A B C : Type 0} (R : A → B → C → Type 0) : List A → List B → List C → Type 0 where
  done : Each R [] [] []
  then : {a : A} {b : B} {c : C} {xs : List A} {ys : List B} {zs : List C} → R a b c → Each R xs ys zs → Each R (a ∷ xs) (b ∷ ys) (c ∷ zs)

-- two lists likewise
pub data Beside {A B : Type 0} (R : A → B → Type 0) : List A → List B → Type 0 where
  none_beside : Beside R [] []
  and_beside : {a : A} {b : B} {xs : List A} {ys : List B} → R a b → Beside R xs ys → Beside R (a ∷ xs) (b ∷ ys)

-- those that pass a test, in their order
unfoldable pub selected : {A : Type 0} → (test : A → Bool) → List A → List A
selected test [] = []
selected test (x ∷ xs) = cond (test x) (x ∷ selected test xs) (selected test xs)

-- a list with values put into it from a position on; what stands before and behind them stays
abbrev pub stored : {A : Type 0} → (list : List A) → (from : ℕ) → (values : List A) → List A
stored list from values = take from list ++ values ++ drop (from + length values) list
