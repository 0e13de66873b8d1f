-- Lists side by side.
-- Assumes nothing.
use mathlib.Core.List.{List, ◌++◌, reverse, reverse_aux}
use Rattle.numbers.specs.Lists.{Each, done, then}

module _ {A B C : Type 0} {R : A → B → C → Type 0} where
  pub each_append : {xs xs' : List A} {ys ys' : List B} {zs zs' : List C} → Each R xs ys zs → Each R xs' ys' zs' → Each R (xs ++ xs') (ys ++ ys') (zs ++ zs')
  each_append done e = e
  each_append (then r d) e = then r (each_append d e)

  each_onto : {xs xs' : List A} {ys ys' : List B} {zs zs' : List C} → Each R xs ys zs → Each R xs' ys' zs' → Each R (reverse_aux xs xs') (reverse_aux ys ys') (reverse_aux zs zs')
  each_onto done e = e
  each_onto (then r d) e = each_onto d (then r e)

  pub each_reverse : {xs : List A} {ys : List B} {zs : List C} → Each R xs ys zs → Each R (reverse xs) (reverse ys) (reverse zs)
  each_reverse e = each_onto e done

  -- a relation that implies another
  pub each_weaken : {S : A → B → C → Type 0} {xs : List A} {ys : List B} {zs : List C} → ((a : A) (b : B) (c : C) → R a b c → S a b c) → Each R xs ys zs → Each S xs ys zs
  each_weaken f done = done
  each_weaken f (then {a} {b} {c} r d) = then (f a b c r) (each_weaken f d)
