-- The walks over a spell: missing days, the flow total, the list without values, and the values from the last day on.
-- Assumes nothing.
use Prim.Native.Nat.{ℕ, suc, ◌+◌, ◌*◌, ◌-◌, ◌≤◌, ◌<◌}
use mathlib.Core.Path.{◌≡◌, refl, sym, ◌∙◌, ap, ap₂}
use mathlib.Core.Bool.{◌||◌}
use Rattle.std.specs.Prelude.{Option, Some, None, IfSome}
use Rattle.std.specs.List.{list_any, sum}
use Rattle.std.proofs.lemmas.List.Sums.{sum_by-cons}
use lib.Dec.{eqb}
use mathlib.Core.List.{List, [], ◌∷◌}
use native.Mathlib.Nat.{min-le_left}
use native.Mathlib.Omega.{arith}
use Rattle.numbers.proofs.Rounding.{near_at_most}
use lib.ListN.{length, get_or, drop, set, drop_of_length-le, length-set}
use lib.Seq.{drop-cons, drop-set-lt, get_or-set_same}
use Rattle.numbers.specs.Near.{near}
use Rattle.numbers.specs.Arithmetic.{rounded}
use Rattle.series.specs.Units.{missing_mark, is_missing}
use Rattle.bfimax.specs.Rule.{flow_total, value, values, value_total, bfimax}
use Rattle.bfimax.specs.Call.{any_missing}
use Rattle.bfimax.specs.Private.{Flows, value_before}

-- the tests and sums of the rules are those of the library
pub missing_any : (days : List ℕ) → list_any (λ y. eqb y missing_mark) days ≡ any_missing days
unfolding any_missing is_missing
missing_any [] = refl
missing_any (d ∷ ds) = ap (λ b. eqb d missing_mark || b) (missing_any ds)

pub as_sum : (flows : List ℕ) → sum flows ≡ flow_total flows
unfolding flow_total
as_sum [] = refl
as_sum (y ∷ ys) = sum_by-cons (λ x. x) y ys ∙ ap (λ n. y + n) (as_sum ys)

-- no more than 10,000,000 a day
total_small : (flows : List ℕ) → ((i : ℕ) → get_or flows i 0 ≤ 10000000) → flow_total flows ≤ length flows * 10000000
unfolding flow_total
total_small [] f = omega arith
total_small (y ∷ ys) f = omega (arith, f 0, total_small ys (λ i. f (suc i)))

pub flows_total : {flows : List ℕ} → Flows flows → flow_total flows ≤ 36500000000
flows_total {flows} f = omega (arith, f.few, total_small flows f.small)

-- the value of the first of some days, if there is one, and that of the day before it
abbrev first_value : (p : ℕ) → List ℕ → Option ℕ
first_value p [] = None
first_value p (z ∷ zs) = Some (value rounded p z zs)

value_is : (p y : ℕ) (behind : List ℕ) → value_before p y (first_value p behind) ≡ value rounded p y behind
unfolding value value_before
value_is p y [] = refl
value_is p y (z ∷ zs) = refl

-- the days from i on: the value of their first, the values written, and their sum
pub record Valued (p : ℕ) (flows base : List ℕ) (i : ℕ) (following : Option ℕ) (sum : ℕ) : Type 0 where
  pub inside : i ≤ length flows
  pub size : length base ≡ length flows
  pub first : following ≡ first_value p (drop i flows)
  pub small : IfSome following (λ v. v ≤ 10000000000)
  pub written : drop i base ≡ values rounded p (drop i flows)
  pub total : sum ≡ value_total rounded (values rounded p (drop i flows))
  pub bounded : sum ≤ (length flows - i) * 10000000000

-- a value stored at i, before the rest
stored_at : (base : List ℕ) (i v : ℕ) → i < length base → drop i (set base i v) ≡ v ∷ drop (suc i) base
stored_at base i v h =
    drop-cons (set base i v) i 0 (omega (arith, length-set base i v)) ∙ ap₂ (λ x k. x ∷ k) (get_or-set_same base i v 0 h) (drop-set-lt (suc i) base i v (omega arith))

module _ (p : ℕ) (flows : List ℕ) where
  pub valued_start : (base : List ℕ) → length flows ≡ length base → (i : ℕ) → i ≡ length flows → Valued p flows base i None 0
  unfolding values value_total
  valued_start base same i e =
      let no_flow : drop i flows ≡ [] = drop_of_length-le flows (omega arith) in
      let no_base : drop i base ≡ [] = drop_of_length-le base (omega arith) in
      record { inside = omega arith; size = sym same; first = rw no_flow; small = tt; written = rw (no_flow, no_base); total = rw no_flow; bounded = omega arith }

  pub valued_next : {b : List ℕ} {i k v sum sum' : ℕ} {o : Option ℕ} → Valued p flows b i o sum → suc k ≡ i → v ≡ value_before p (get_or flows k 0) o → v ≤ 10000000000 → sum' ≡ sum + v → Valued p flows (set b k v) k (Some v) sum'
  unfolding values value_total
  valued_next {b} {i} {k} {v} w s e l t =
      let behind : drop k flows ≡ get_or flows k 0 ∷ drop i flows = drop-cons flows k 0 (omega (arith, w.inside)) ∙ ap (λ n. get_or flows k 0 ∷ drop n flows) s in
      let new : v ≡ value rounded p (get_or flows k 0) (drop i flows) = e ∙ ap (value_before p (get_or flows k 0)) w.first ∙ value_is p (get_or flows k 0) (drop i flows) in
      record {
        inside = omega (arith, w.inside);
        size = length-set b k v ∙ w.size;
        first = rw behind (ap Some new);
        small = l;
        written = stored_at b k v (omega (arith, w.size, w.inside)) ∙ ap (λ n. v ∷ drop n b) s ∙ ap₂ (λ x r. x ∷ r) new w.written ∙ ap (values rounded p) (sym behind);
        total = rw behind (omega (arith, w.total, new, t));
        bounded = omega (arith, w.bounded, w.inside, t);
      }

  pub valued_done : {b : List ℕ} {i sum : ℕ} {o : Option ℕ} → length flows ≤ 3650 → Valued p flows b i o sum → i ≡ 0 → (b ≡ values rounded p flows) × (sum ≡ value_total rounded (values rounded p flows)) × (sum ≤ 36500000000000)
  valued_done few w z = (rw z at w.written, rw z at w.total, omega (arith, w.bounded, few))

-- no value above 1000 × its flow, and so no answer above 10000
value_below : (p y : ℕ) (ys : List ℕ) → value rounded p y ys ≤ 1000 * y
unfolding value
value_below p y [] = omega arith
value_below p y (z ∷ zs) = min-le_left (1000 * y) _

values_below : (p : ℕ) (flows : List ℕ) → value_total rounded (values rounded p flows) ≤ 1000 * flow_total flows
unfolding values value_total flow_total
values_below p [] = omega arith
values_below p (y ∷ ys) = omega (arith, value_below p y ys, values_below p ys)

pub answer_small : (p : ℕ) (flows : List ℕ) → 0 < flow_total flows → bfimax rounded p flows ≤ 10000
unfolding bfimax
answer_small p flows h = near_at_most h (omega (arith, values_below p flows))

pub values_length : (p : ℕ) (flows : List ℕ) → length (values rounded p flows) ≡ length flows
unfolding values
values_length p [] = refl
values_length p (y ∷ ys) = ap suc (values_length p ys)

pub answer_found : (p : ℕ) (flows : List ℕ) {q sum total : ℕ} → q ≡ near (10 * sum) total → sum ≡ value_total rounded (values rounded p flows) → total ≡ flow_total flows → q ≡ bfimax rounded p flows
unfolding bfimax
answer_found p flows e s t = e ∙ ap₂ (λ a b. near (10 * a) b) s t
