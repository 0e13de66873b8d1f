-- The calculus of refusals: of a call's causes the first that holds decides.
-- Assumes nothing.
use Prim.Native.Nat.{ℕ}
use mathlib.Core.Path.{◌≡◌, refl, sym, ◌∙◌, ap}
use mathlib.Core.Bool.{Bool, true, false, cond, false≢true}
use mathlib.Core.List.{List, [], ◌∷◌, ◌++◌}
use mathlib.Core.Logic.{◌↔◌}
use mathlib.Core.Option.{Option, none, some, or_else, some-ne-none, none-ne-some, some-injective}
use native.Mathlib.Omega.{arith}
use borrow.Author.Tests.{eq-eqb}
use lib.Dec.{eqb}
use Rattle.std.specs.Prelude.{Result, Ok, Err}
use Rattle.series.specs.declared.Refusal.{Refusal}
use Rattle.series.specs.Causes.{refusal_number, refusal_of, Cause, cause, first_cause, by_cause, accepted, refused, outcome, leaves, Decides}

-- no cause holds
pub data AllFalse : List Cause → Type 0 where
  no_cause : AllFalse []
  next_false : {c : Cause} {cs : List Cause} → c.holds ≡ false → AllFalse cs → AllFalse (c ∷ cs)

none_holds : (cs : List Cause) → first_cause cs ≡ none → AllFalse cs
none_holds [] e = no_cause
none_holds (c ∷ cs) e = by_test c.holds refl (none_holds cs)
  where
    by_test : (b : Bool) → c.holds ≡ b → (first_cause cs ≡ none → AllFalse cs) → AllFalse (c ∷ cs)
    by_test true h rest = absurd (some-ne-none c.number (rw h at e))
    by_test false h rest = next_false h (rest (rw h at e))

no_first : {cs : List Cause} → AllFalse cs → first_cause cs ≡ none
no_first no_cause = refl
no_first (next_false h rest) = rw h (no_first rest)

-- a call accepts exactly if no cause holds
pub accepts : (cs : List Cause) → (first_cause cs ≡ none) ↔ AllFalse cs
accepts cs = (none_holds cs, no_first)

-- n's cause holds, and no earlier one does
pub record FirstToHold (cs : List Cause) (n : ℕ) : Type 0 where
  pub earlier : List Cause
  pub decisive : Cause
  pub later : List Cause
  pub in_order : cs ≡ earlier ++ decisive ∷ later
  pub earlier_false : AllFalse earlier
  pub holds : decisive.holds ≡ true
  pub number : decisive.number ≡ n

first_holds : (cs : List Cause) {n : ℕ} → first_cause cs ≡ some n → FirstToHold cs n
first_holds [] {n} e = absurd (none-ne-some n e)
first_holds (c ∷ cs) {n} e = by_test c.holds refl (first_holds cs)
  where
    by_test : (b : Bool) → c.holds ≡ b → (first_cause cs ≡ some n → FirstToHold cs n) → FirstToHold (c ∷ cs) n
    by_test true h rest =
        record { earlier = []; decisive = c; later = cs; in_order = refl; earlier_false = no_cause; holds = h; number = some-injective c.number n (rw h at e) }
    by_test false h rest =
        let f = rest (rw h at e) in
        record { earlier = c ∷ f.earlier; decisive = f.decisive; later = f.later; in_order = ap (λ l. c ∷ l) f.in_order; earlier_false = next_false h f.earlier_false; holds = f.holds; number = f.number }

behind_false : {earlier : List Cause} (c : Cause) (later : List Cause) → AllFalse earlier → c.holds ≡ true → first_cause (earlier ++ c ∷ later) ≡ some c.number
behind_false c later no_cause h = rw h
behind_false c later (next_false g rest) h = rw g (behind_false c later rest h)

-- a call refuses with n exactly if n's cause is the first to hold
pub refuses : (cs : List Cause) (n : ℕ) → (first_cause cs ≡ some n) ↔ FirstToHold cs n
refuses cs n = (first_holds cs, λ f. ap first_cause f.in_order ∙ behind_false f.decisive f.later f.earlier_false f.holds ∙ ap some f.number)

-- Whether the cause of a number holds. It computes, so that `passed` gives each test of an accepted call by its number,
-- whatever other causes stand beside it.
abbrev pub holds_of : ℕ → List Cause → Bool
holds_of n [] = false
holds_of n (c ∷ cs) = cond (eqb c.number n) c.holds (holds_of n cs)

pub passed : (cs : List Cause) → first_cause cs ≡ none → (n : ℕ) → holds_of n cs ≡ false
passed cs e n = by_causes (none_holds cs e)
  where
    pick : (b : Bool) {x y : Bool} → x ≡ false → y ≡ false → cond b x y ≡ false
    pick true h k = h
    pick false h k = k

    by_causes : {cs : List Cause} → AllFalse cs → holds_of n cs ≡ false
    by_causes no_cause = refl
    by_causes (next_false {c} h rest) = pick (eqb c.number n) h (by_causes rest)

-- the causes that stand before that of a number, and whether a number stands once
abbrev pub before_number : ℕ → List Cause → List Cause
before_number n [] = []
before_number n (c ∷ cs) = cond (eqb c.number n) [] (c ∷ before_number n cs)

abbrev pub absent : ℕ → List Cause → Bool
absent n [] = true
absent n (c ∷ cs) = cond (eqb c.number n) false (absent n cs)

abbrev pub stands_once : ℕ → List Cause → Bool
stands_once n [] = true
stands_once n (c ∷ cs) = cond (eqb c.number n) (absent n cs) (stands_once n cs)

never_first : (cs : List Cause) {n : ℕ} → absent n cs ≡ true → first_cause cs ≡ some n → ⊥
never_first [] {n} a e = none-ne-some n e
never_first (c ∷ cs) {n} a e = by_tests (eqb c.number n) refl c.holds refl a e (never_first cs)
  where
    by_tests : (s : Bool) → eqb c.number n ≡ s → (b : Bool) → c.holds ≡ b → cond s false (absent n cs) ≡ true → cond b (some c.number) (first_cause cs) ≡ some n → (absent n cs ≡ true → first_cause cs ≡ some n → ⊥) → ⊥
    by_tests true h b k a e rest = false≢true a
    by_tests false h true k a e rest = false≢true (sym h ∙ eq-eqb c.number n (some-injective c.number n e))
    by_tests false h false k a e rest = rest a e

-- a call that refuses with n: by the number, whatever other causes there are
pub refused_with : (cs : List Cause) {n : ℕ} → stands_once n cs ≡ true → first_cause cs ≡ some n → AllFalse (before_number n cs) × (holds_of n cs ≡ true)
refused_with [] {n} o e = absurd (none-ne-some n e)
refused_with (c ∷ cs) {n} o e = by_tests (eqb c.number n) refl c.holds refl o e (refused_with cs)
  where
    by_tests : (s : Bool) → eqb c.number n ≡ s → (b : Bool) → c.holds ≡ b → cond s (absent n cs) (stands_once n cs) ≡ true → cond b (some c.number) (first_cause cs) ≡ some n
        → (stands_once n cs ≡ true → first_cause cs ≡ some n → AllFalse (before_number n cs) × (holds_of n cs ≡ true))
        → AllFalse (cond s [] (c ∷ before_number n cs)) × (cond s c.holds (holds_of n cs) ≡ true)
    by_tests true h true k o e rest = (no_cause, k)
    by_tests true h false k o e rest = absurd (never_first cs o e)
    by_tests false h true k o e rest = absurd (false≢true (sym h ∙ eq-eqb c.number n (some-injective c.number n e)))
    by_tests false h false k o e rest = let r = rest o e in (next_false k r.0, r.1)

-- the number of a refusal is one of the causes'
abbrev pub AllNumbers : (ℕ → Type 0) → List Cause → Type 0
AllNumbers P [] = Unit {0}
AllNumbers P (c ∷ cs) = P c.number × AllNumbers P cs

pub refusal_among : (P : ℕ → Type 0) (cs : List Cause) → AllNumbers P cs → {n : ℕ} → first_cause cs ≡ some n → P n
refusal_among P [] all {n} e = absurd (none-ne-some n e)
refusal_among P (c ∷ cs) all {n} e = by_test c.holds refl (refusal_among P cs all.1)
  where
    by_test : (b : Bool) → c.holds ≡ b → (first_cause cs ≡ some n → P n) → P n
    by_test true h rest = let same : c.number ≡ n = some-injective c.number n (rw h at e) in rw same at all.0
    by_test false h rest = rest (rw h at e)

-- causes that follow others
pub first_append : (cs ds : List Cause) → first_cause (cs ++ ds) ≡ or_else (first_cause cs) (first_cause ds)
unfolding or_else
first_append [] ds = refl
first_append (c ∷ cs) ds = by_test c.holds (first_append cs ds)
  where
    by_test : (b : Bool) → first_cause (cs ++ ds) ≡ or_else (first_cause cs) (first_cause ds) → cond b (some c.number) (first_cause (cs ++ ds)) ≡ or_else (cond b (some c.number) (first_cause cs)) (first_cause ds)
    by_test true e = refl
    by_test false e = e

-- A check, cause by cause: `series::refuse_if` tests one, and `?` ends the check at the first that holds.
pub decides_none : Decides [] (Ok tt)
decides_none = record { first = refl }

-- a cause behind others, whose test need only be right where none of those holds
pub decides_then : {cs : List Cause} {v w : Result Unit Refusal} {holds test : Bool} (n : ℕ) → (((k : ℕ) → holds_of k cs ≡ false) → holds ≡ test) → refusal_of w ≡ or_else (refusal_of v) (cond holds (some n) none) → Decides cs v → Decides (cs ++ cause test n ∷ []) w
unfolding or_else
decides_then {cs} {holds = holds} {test} n e next d =
    record { first = next ∙ ap (λ a. or_else a (cond holds (some n) none)) d.first ∙ by_first (first_cause cs) (λ g. e (passed cs g)) ∙ sym (first_append cs (cause test n ∷ [])) }
  where
    by_first : (o : Option ℕ) → (o ≡ none → holds ≡ test) → or_else o (cond holds (some n) none) ≡ or_else o (cond test (some n) none)
    by_first none g = ap (λ b. cond b (some n) none) (g refl)
    by_first (some k) g = refl

-- causes of which one holds, whatever causes are behind them
pub decides_alone : {cs : List Cause} (ds : List Cause) {v : Result Unit Refusal} {r : Refusal} → Decides cs v → v ≡ Err r → Decides (cs ++ ds) (Err r)
unfolding or_else
decides_alone {cs} ds d e = record { first = sym (first_append cs ds ∙ ap (λ o. or_else o (first_cause ds)) (sym d.first ∙ ap refusal_of e)) }

-- causes behind others of which none holds
pub decides_after : {cs ds : List Cause} {v w : Result Unit Refusal} → Decides cs v → v ≡ Ok tt → Decides ds w → Decides (cs ++ ds) w
unfolding or_else
decides_after {cs} {ds} {v} d e g = record { first = g.first ∙ sym (first_append cs ds ∙ ap (λ o. or_else o (first_cause ds)) (sym d.first ∙ ap refusal_of e)) }

-- what a call answers and leaves, by its first cause
module _ {A : Type 0} (cs : List Cause) where
  pub outcome_refused : (a : A) {n : ℕ} → first_cause cs ≡ some n → outcome cs a ≡ refused n
  outcome_refused a e = ap (λ o. by_cause o refused (accepted a)) e

  pub outcome_accepted : (a : A) → first_cause cs ≡ none → outcome cs a ≡ accepted a
  outcome_accepted a e = ap (λ o. by_cause o refused (accepted a)) e

  pub leaves_refused : (filled entry : A) {n : ℕ} → first_cause cs ≡ some n → leaves cs filled entry ≡ entry
  unfolding leaves
  leaves_refused filled entry e = ap (λ o. by_cause o (λ _. entry) filled) e

  pub leaves_accepted : (filled entry : A) → first_cause cs ≡ none → leaves cs filled entry ≡ filled
  unfolding leaves
  leaves_accepted filled entry e = ap (λ o. by_cause o (λ _. entry) filled) e

  -- from its two cases
  pub leaves_by : (filled entry : A) {left : A} → (first_cause cs ≡ none → left ≡ filled) → ((n : ℕ) → first_cause cs ≡ some n → left ≡ entry) → left ≡ leaves cs filled entry
  unfolding leaves
  leaves_by filled entry {left} accept refuse = by_first (first_cause cs) accept refuse
    where
      by_first : (o : Option ℕ) → (o ≡ none → left ≡ filled) → ((n : ℕ) → o ≡ some n → left ≡ entry) → left ≡ by_cause o (λ _. entry) filled
      by_first none f g = f refl
      by_first (some n) f g = g n refl

-- the same of a call whose check came to a verdict
module _ {cs : List Cause} {v : Result Unit Refusal} (d : Decides cs v) where
  pub decided_refused : {r : Refusal} → v ≡ Err r → first_cause cs ≡ some (refusal_number r)
  decided_refused e = sym d.first ∙ ap refusal_of e

  pub decided_accepted : v ≡ Ok tt → first_cause cs ≡ none
  decided_accepted e = sym d.first ∙ ap refusal_of e

  pub call_refused : {A : Type 0} (filled entry : A) {r : Refusal} → v ≡ Err r → (some (refusal_number r) ≡ first_cause cs) × (entry ≡ leaves cs filled entry)
  call_refused filled entry e = let h = decided_refused e in (sym h, sym (leaves_refused cs filled entry h))

  pub call_accepted : {A : Type 0} (filled entry : A) {b : A} → v ≡ Ok tt → b ≡ filled → (none ≡ first_cause cs) × (b ≡ leaves cs filled entry)
  call_accepted filled entry e f = let h = decided_accepted e in (sym h, f ∙ sym (leaves_accepted cs filled entry h))

  pub answer_refused : {A : Type 0} (a : A) {r : Refusal} → v ≡ Err r → refused (refusal_number r) ≡ outcome cs a
  answer_refused a e = sym (outcome_refused cs a (decided_refused e))

-- and back: an answer tells whether a cause holds
pub never_both : {A : Type 0} {a : A} {n : ℕ} → refused n ≡ accepted a → ⊥
never_both e = let z : ◌≡◌ {A = ℕ} 0 1 = cc in omega arith

pub same_values : {A : Type 0} {a b : A} → accepted a ≡ accepted b → a ≡ b
same_values e = cc

module _ {A : Type 0} (cs : List Cause) (a : A) where
  pub outcome_was_accepted : {b : A} → outcome cs a ≡ accepted b → (first_cause cs ≡ none) × (a ≡ b)
  outcome_was_accepted {b} e = by_first (first_cause cs) refl e
    where
      by_first : (o : Option ℕ) → first_cause cs ≡ o → by_cause o refused (accepted a) ≡ accepted b → (first_cause cs ≡ none) × (a ≡ b)
      by_first none h g = (h, cc)
      by_first (some n) h g = absurd (never_both g)

  pub outcome_was_refused : {n : ℕ} → outcome cs a ≡ refused n → first_cause cs ≡ some n
  outcome_was_refused {n} e = by_first (first_cause cs) refl e
    where
      by_first : (o : Option ℕ) → first_cause cs ≡ o → by_cause o refused (accepted a) ≡ refused n → first_cause cs ≡ some n
      by_first none h g = absurd (never_both (sym g))
      by_first (some k) h g = let same : k ≡ n = cc in h ∙ ap some same
