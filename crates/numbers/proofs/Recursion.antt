-- Recursive runs: what they are position by position, their length, their values day by day, and two of them in step.
-- Assumes nothing.
use Prim.Native.Nat.{ℕ, zero, suc, ◌+◌, ◌-◌, ◌<◌}
use mathlib.Core.Path.{◌≡◌, refl, sym, ◌∙◌, ap}
use mathlib.Core.List.{List, [], ◌∷◌, reverse, reverse-cons}
use native.Mathlib.Numerals.{add-one}
use native.Mathlib.Omega.{arith}
use lib.ListN.{length, get_or, length-reverse, get_or-append}
use lib.Seq.{get_or_at}
use Rattle.numbers.specs.Scan.{onward, recursive}
use Rattle.numbers.specs.Lists.{Each, done, then}

-- What a run over u(0), .., u(n-1) is, position by position: from the first to the last, and from the last to the first.
module _ {U F : Type 0} (first : U → F) (next : F → U → U → F) (n : ℕ) (u : ℕ → U) (f : ℕ → F) where
  pub record Forward : Type 0 where
    pub start : 0 < n → f 0 ≡ first (u 0)
    pub later : (t : ℕ) → t + 1 < n → f (t + 1) ≡ next (f t) (u (t + 1)) (u t)

  pub record Backward : Type 0 where
    pub last : (t : ℕ) → t + 1 ≡ n → f t ≡ first (u t)
    pub earlier : (t : ℕ) → t + 1 < n → f t ≡ next (f (t + 1)) (u t) (u (t + 1))

get_d_reverse : {A : Type 0} (xs : List A) (d : A) (i t : ℕ) → i + t + 1 ≡ length xs → get_or (reverse xs) i d ≡ get_or xs t d
get_d_reverse [] d i t h = absurd (omega arith)
get_d_reverse (x ∷ xs) d i zero h = ap (λ l. get_or l i d) (reverse-cons x xs) ∙ get_or_at (reverse xs) x [] d i (omega (arith, length-reverse xs))
get_d_reverse (x ∷ xs) d i (suc t) h =
    ap (λ l. get_or l i d) (reverse-cons x xs) ∙ get_or-append (reverse xs) (x ∷ []) d i (omega (arith, length-reverse xs)) ∙ get_d_reverse xs d i t (omega arith)

module _ {U F : Type 0} (next : F → U → U → F) where
  onward_length : (f : F) (v : U) (us : List U) → length (onward next f v us) ≡ length us
  unfolding onward
  onward_length f v [] = refl
  onward_length f v (u ∷ us) = ap suc (onward_length (next f u v) u us)

  pub recursive_length : (first : U → F) (us : List U) → length (recursive first next us) ≡ length us
  unfolding recursive
  recursive_length first [] = refl
  recursive_length first (u ∷ us) = ap suc (onward_length (first u) u us)

  -- one element at a time: `onward` from the run's last u and f, and a run from its first element
  pub onward_next : (f : F) (v u : U) (us : List U) → onward next f v (u ∷ us) ≡ next f u v ∷ onward next (next f u v) u us
  unfolding onward
  onward_next f v u us = refl

  pub onward_end : (f : F) (v : U) → onward next f v [] ≡ []
  unfolding onward
  onward_end f v = refl

  pub recursive_first : (first : U → F) (u : U) (us : List U) → recursive first next (u ∷ us) ≡ first u ∷ onward next (first u) u us
  unfolding recursive
  recursive_first first u us = refl

  pub recursive_none : (first : U → F) → recursive first next [] ≡ []
  unfolding recursive
  recursive_none first = refl

-- The run over a list is a forward one, and with both lists turned round a backward one. v₀ and f₀ are what is seen
-- outside the lists, where nothing is claimed.
module _ {U F : Type 0} (first : U → F) (next : F → U → U → F) where
  turned : (n : ℕ) (u v : ℕ → U) (f g : ℕ → F) → ((i t : ℕ) → i + t + 1 ≡ n → v i ≡ u t) → ((i t : ℕ) → i + t + 1 ≡ n → g i ≡ f t) → Forward first next n v g → Backward first next n u f
  turned n u v f g x y run =
      record {
        last = λ t h. sym (y 0 t (omega arith)) ∙ run.start (omega arith) ∙ ap first (x 0 t (omega arith));
        earlier = λ t h. let i = n - (t + 2) in
            sym (y (i + 1) t (omega arith)) ∙ run.later i (omega arith) ∙ (λ k. next (y i (t + 1) (omega arith) k) (x (i + 1) t (omega arith) k) (x i (t + 1) (omega arith) k));
      }

  module _ (v₀ : U) (f₀ : F) where
    onward_at : (f : F) (v : U) (us : List U) (t : ℕ) → t < length us → get_or (f ∷ onward next f v us) (suc t) f₀ ≡ next (get_or (f ∷ onward next f v us) t f₀) (get_or us t v₀) (get_or (v ∷ us) t v₀)
    unfolding onward
    onward_at f v [] t h = absurd (omega arith)
    onward_at f v (u ∷ us) zero h = refl
    onward_at f v (u ∷ us) (suc t) h = onward_at (next f u v) u us t (omega arith)

    pub runs_forward : (us : List U) {n : ℕ} → length us ≡ n → Forward first next n (λ t. get_or us t v₀) (λ t. get_or (recursive first next us) t f₀)
    unfolding recursive
    runs_forward [] e = record { start = λ h. absurd (omega arith); later = λ t h. absurd (omega arith) }
    runs_forward (u ∷ us) e = record { start = λ h. refl; later = λ t h. rw add-one (onward_at (first u) u us t (omega arith)) }

    pub runs_backward : (us : List U) {n : ℕ} → length us ≡ n → Backward first next n (λ t. get_or us t v₀) (λ t. get_or (reverse (recursive first next (reverse us))) t f₀)
    runs_backward us {n} e =
        let fs = recursive first next (reverse us) in
        turned n (λ t. get_or us t v₀) (λ t. get_or (reverse us) t v₀) (λ t. get_or (reverse fs) t f₀) (λ t. get_or fs t f₀)
        (λ i t h. get_d_reverse us v₀ i t (h ∙ sym e)) (λ i t h. sym (get_d_reverse fs f₀ t i (omega (arith, recursive_length next first (reverse us), length-reverse us)))) (runs_forward (reverse us) (length-reverse us ∙ e))

-- Two runs in step: what holds of the inputs' elements (In) makes what holds of the outputs' (Out). The third list, of
-- any elements y, is what both belong to.
module _ {Y U Û F F̂ : Type 0} (In : Y → U → Û → Type 0) (Out : Y → F → F̂ → Type 0) (first : U → F) (first̂ : Û → F̂) (next : F → U → U → F) (next̂ : F̂ → Û → Û → F̂)
    (at_first : (y : Y) (u : U) (û : Û) → In y u û → Out y (first u) (first̂ û))
    (at_next : (x y : Y) (f : F) (f̂ : F̂) (v u : U) (v̂ û : Û) → Out x f f̂ → In x v v̂ → In y u û → Out y (next f u v) (next̂ f̂ û v̂)) where
  onward_together : (x : Y) (f : F) (f̂ : F̂) (v : U) (v̂ : Û) {ys : List Y} {us : List U} {ûs : List Û} → Out x f f̂ → In x v v̂ → Each In ys us ûs → Each Out ys (onward next f v us) (onward next̂ f̂ v̂ ûs)
  unfolding onward
  onward_together x f f̂ v v̂ o i done = done
  onward_together x f f̂ v v̂ o i (then {a = y} {b = u} {c = û} j d) =
      let p = at_next x y f f̂ v u v̂ û o i j in
      then p (onward_together y (next f u v) (next̂ f̂ û v̂) u û p j d)

  pub together : {ys : List Y} {us : List U} {ûs : List Û} → Each In ys us ûs → Each Out ys (recursive first next us) (recursive first̂ next̂ ûs)
  unfolding recursive
  together done = done
  together (then {a = y} {b = u} {c = û} j d) = let p = at_first y u û j in then p (onward_together y (first u) (first̂ û) u û p j d)
