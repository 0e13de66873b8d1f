-- The call by its causes: what an accepted call has passed, and what it answers and leaves.
-- Assumes nothing.
use Prim.Native.Nat.{ℕ, zero, suc, ◌+◌, ◌-◌, ◌≤◌, ◌<◌}
use mathlib.Core.Path.{◌≡◌, refl, sym, ◌∙◌, ap, ap₂, subst}
use mathlib.Core.Bool.{Bool, true, false, ◌||◌, or-true}
use Rattle.std.specs.List.{list_any}
use Rattle.std.specs.Prelude.{nat_eq}
use mathlib.Core.Logic.{⊎_elim}
use mathlib.Core.List.{List, [], ◌∷◌, ◌++◌, append_assoc}
use mathlib.Core.Option.{none, some, or_else}
use native.Mathlib.Nat.{lt_of_not-le}
use native.Mathlib.Decide.{dec_le}
use native.Mathlib.Omega.{arith}
use borrow.Author.Tests.{le-leb, lt-leb, lt-ltb, le-ltb, leb-false, ltb-false, eq-eqb, ne_eqb, eqb-true}
use lib.Dec.{leb, ltb, eqb}
use lib.ListN.{length, get_or, take, drop, replicate, length-take, length-drop, length-replicate, get_or-eq_default}
use lib.Seq.{get_or-take, get_or-drop, drop-drop}
use Rattle.series.specs.Units.{missing_mark, no_value_mark, is_missing, is_invalid_day}
use Rattle.series.specs.Lists.{any_invalid_day, list_causes}
use Rattle.numbers.specs.Arithmetic.{rounded}
use Rattle.series.specs.declared.Refusal.{Refusal}
use Rattle.std.specs.Prelude.{Result, Ok, Err}
use Rattle.series.specs.Causes.{refusal_number, Cause, cause, first_cause, accepted, refused, Decides}
use Rattle.series.proofs.Refusing.{passed, first_append, decides_alone, decided_refused, decided_accepted, outcome_refused, outcome_accepted, leaves_refused, leaves_accepted}
use Rattle.series.proofs.Tests.{few_days, same_length}
use Rattle.series.proofs.Views.{neither_of, valid_day, valid_at, not_outside, missing_is_mark}
use Rattle.bfimax.specs.Rule.{flow_total, values, bfimax}
use Rattle.bfimax.specs.Call.{spell, any_missing, no_spell, no_flow, Spell, spell_of, bfimax_causes, bfimax_outcome, spell_list, bfimax_leaves}
use Rattle.bfimax.specs.Private.{SpellFrom, Flows, first_causes}
use Rattle.bfimax.proofs.Spells.{missing_any, values_length}

-- 24, as the code tests it
module _ (last D : ℕ) (days : List ℕ) where
  pub before_list : (D ≤ last + 1 → ⊥) → no_spell last D days ≡ true
  unfolding no_spell
  before_list g = rw (lt-ltb (suc last) D (omega arith)) (or-true (leb (length days) last))

  pub not_listed : length days < last + 1 → no_spell last D days ≡ true
  unfolding no_spell
  not_listed h = rw (le-leb (length days) last (omega arith))

  pub in_list : {start : ℕ} {flows : List ℕ} {b : Bool} → D ≤ last + 1 → start ≡ last + 1 - D → last + 1 ≤ length days → flows ≡ take (last + 1 - start) (drop start days) → b ≡ list_any (λ y. nat_eq y missing_mark) flows → b ≡ no_spell last D days
  unfolding no_spell spell
  in_list {start} g e h f t =
      let n : last + 1 - start ≡ D = omega arith in
      let s : start ≡ suc last - D = omega arith in
      rw (lt-leb (length days) last (omega arith), le-ltb (suc last) D (omega arith)) (t ∙ ap (list_any (λ y. nat_eq y missing_mark)) (f ∙ ap₂ (λ a b. take a (drop b days)) n s) ∙ missing_any (take D (drop (suc last - D) days)))

-- where it does not hold
pub record InList (last D : ℕ) (days : List ℕ) : Type 0 where
  pub listed : last < length days
  pub behind_start : D ≤ last + 1
  pub present : any_missing (spell last D days) ≡ false

pub in_list_if : (last D : ℕ) (days : List ℕ) → no_spell last D days ≡ false → InList last D days
unfolding no_spell
in_list_if last D days e =
    let a = neither_of (leb (length days) last) (ltb (suc last) D || any_missing (spell last D days)) e in
    let b = neither_of (ltb (suc last) D) (any_missing (spell last D days)) a.1 in
    record { listed = leb-false (length days) last a.0; behind_start = omega (arith, ltb-false (suc last) D b.0); present = b.1 }

-- the flows of such a spell
missing_at : (ds : List ℕ) (i : ℕ) → any_missing ds ≡ false → i < length ds → is_missing (get_or ds i 0) ≡ false
unfolding any_missing
missing_at [] i e h = absurd (omega arith)
missing_at (d ∷ ds) zero e h = (neither_of (is_missing d) (any_missing ds) e).0
missing_at (d ∷ ds) (suc i) e h = missing_at ds i (neither_of (is_missing d) (any_missing ds) e).1 (omega arith)

flow_small : (d : ℕ) → is_invalid_day d ≡ false → is_missing d ≡ false → d ≤ 10000000
flow_small d e m = ⊎_elim (λ l. l) (λ q. absurd (missing_is_mark d m q)) (valid_day d e)

spell_size : {last D : ℕ} {days : List ℕ} → InList last D days → length (spell last D days) ≡ D
unfolding spell
spell_size {last} {D} {days} l = omega (arith, length-take D (drop (suc last - D) days), length-drop (suc last - D) days, l.listed, l.behind_start)

spell_at : {last D : ℕ} {days : List ℕ} → InList last D days → (i : ℕ) → i < D → get_or (spell last D days) i 0 ≡ get_or days (suc last - D + i) 0
unfolding spell
spell_at {last} {D} {days} l i h = get_or-take D (drop (suc last - D) days) i 0 h ∙ get_or-drop (suc last - D) days i 0

pub spell_flows : {last D : ℕ} {days : List ℕ} → D ≤ 3650 → any_invalid_day days ≡ false → InList last D days → (length (spell last D days) ≡ D) × Flows (spell last D days)
spell_flows {last} {D} {days} few valid l = (spell_size l, record { few = omega (arith, spell_size l); small = λ i. small i (dec_le (length (spell last D days)) i) })
  where
    small : (i : ℕ) → Dec (length (spell last D days) ≤ i) → get_or (spell last D days) i 0 ≤ 10000000
    small i (yes h) = omega (arith, get_or-eq_default (spell last D days) 0 h)
    small i (no g) =
        let inside : i < D = omega (arith, spell_size l, lt_of_not-le g) in
        flow_small (get_or (spell last D days) i 0) (rw (spell_at l i inside) (valid_at days (suc last - D + i) valid (omega (arith, l.listed, l.behind_start)))) (missing_at (spell last D days) i l.present (lt_of_not-le g))

-- what the checks have passed
pub record Passed (D p : ℕ) (days base : List ℕ) : Type 0 where
  pub above : 0 < p
  pub most : p ≤ 9999
  pub two : 2 ≤ D
  pub long : D ≤ 3650
  pub few : length days ≤ 36525
  pub same : length days ≡ length base
  pub valid : any_invalid_day days ≡ false

pub passed_checks : {D p : ℕ} {days base : List ℕ} {v : Result Unit Refusal} → Decides (first_causes D p days base) v → v ≡ Ok tt → Passed D p days base
unfolding bfimax_causes
passed_checks {D} {p} {days} {base} d e =
    let q = passed (first_causes D p days base) (decided_accepted d e) in
    let a = not_outside 1 9999 p (q 12) in
    let b = not_outside 2 3650 D (q 23) in
    record { above = omega (arith, a.0); most = a.1; two = b.0; long = b.1; few = few_days days (q 9); same = same_length days base (q 14); valid = q 10 }

-- what the call answers and leaves, cause by cause
module _ (last D p : ℕ) (days base : List ℕ) where
  abbrev given : Spell
  given = spell_of last D p

  abbrev last_causes : List Cause
  last_causes = cause (no_spell last D days) 24 ∷ cause (no_flow (spell last D days)) 21 ∷ []

  in_order : bfimax_causes given days base ≡ first_causes D p days base ++ last_causes
  unfolding bfimax_causes list_causes
  in_order = refl

  module _ {n : ℕ} (e : first_cause (bfimax_causes given days base) ≡ some n) where
    refused_answer : refused n ≡ bfimax_outcome given days base
    unfolding bfimax_outcome
    refused_answer = sym (outcome_refused (bfimax_causes given days base) _ e)

    refused_list : base ≡ bfimax_leaves given days base
    unfolding bfimax_leaves
    refused_list = sym (leaves_refused (bfimax_causes given days base) _ base e)

  -- the checks refuse
  module _ {v : Result Unit Refusal} {r : Refusal} (d : Decides (first_causes D p days base) v) (e : v ≡ Err r) where
    by_checks : first_cause (bfimax_causes given days base) ≡ some (refusal_number r)
    by_checks = ap first_cause in_order ∙ decided_refused (decides_alone last_causes d e) refl

    pub checks_answer : refused (refusal_number r) ≡ bfimax_outcome given days base
    checks_answer = refused_answer by_checks

    checks_list : base ≡ bfimax_leaves given days base
    checks_list = refused_list by_checks

  pub list_kept : {v : Result Unit Refusal} → Decides (first_causes D p days base) v → (v ≡ Ok tt → ⊥) → base ≡ bfimax_leaves given days base
  list_kept {v = Ok u} d n = absurd (n refl)
  list_kept {v = Err r} d n = checks_list d refl

  -- and behind them
  module _ {v : Result Unit Refusal} (d : Decides (first_causes D p days base) v) (e : v ≡ Ok tt) where
    behind_checks : first_cause (bfimax_causes given days base) ≡ first_cause last_causes
    unfolding or_else
    behind_checks = ap first_cause in_order ∙ first_append (first_causes D p days base) last_causes ∙ ap (λ o. or_else o (first_cause last_causes)) (decided_accepted d e)

    module _ (h : no_spell last D days ≡ true) where
      pub no_spell_answer : refused 24 ≡ bfimax_outcome given days base
      no_spell_answer = refused_answer (behind_checks ∙ rw h)

      pub no_spell_list : base ≡ bfimax_leaves given days base
      no_spell_list = refused_list {n = 24} (behind_checks ∙ rw h)

    module _ (h : no_spell last D days ≡ false) where
      by_flow : flow_total (spell last D days) ≡ 0 → first_cause (bfimax_causes given days base) ≡ some 21
      unfolding no_flow
      by_flow z = behind_checks ∙ rw (h, eq-eqb (flow_total (spell last D days)) 0 z)

      accepts : (flow_total (spell last D days) ≡ 0 → ⊥) → first_cause (bfimax_causes given days base) ≡ none
      unfolding no_flow
      accepts n = behind_checks ∙ rw (h, ne_eqb (flow_total (spell last D days)) 0 n)

-- the days of the spell as the code takes them
module _ {last D start size : ℕ} {days : List ℕ} (f : SpellFrom last D days start) (z : size ≡ D) where
  from : start ≡ suc last - D
  from = omega (arith, f.begins)

  slice : take size (drop start days) ≡ spell last D days
  unfolding spell
  slice = ap₂ (λ n m. take n (drop m days)) z from

  -- by the flow total
  module _ (p : ℕ) (base : List ℕ) {v : Result Unit Refusal} (d : Decides (first_causes D p days base) v) (e : v ≡ Ok tt) where
    module _ {total : ℕ} (g : total ≡ flow_total (take size (drop start days))) (t : eqb total 0 ≡ true) where
      by_slice : first_cause (bfimax_causes (spell_of last D p) days base) ≡ some 21
      by_slice = by_flow last D p days base d e f.found (sym (ap flow_total slice) ∙ sym g ∙ eqb-true total 0 t)

      pub dry_answer : refused 21 ≡ bfimax_outcome (spell_of last D p) days base
      dry_answer = refused_answer last D p days base by_slice

      pub dry_list : base ≡ bfimax_leaves (spell_of last D p) days base
      dry_list = refused_list last D p days base by_slice

    module _ (n : flow_total (take size (drop start days)) ≡ 0 → ⊥) where
      no_cause : first_cause (bfimax_causes (spell_of last D p) days base) ≡ none
      no_cause = accepts last D p days base d e f.found (λ t. n (ap flow_total slice ∙ t))

      pub found_answer : {q : ℕ} → q ≡ bfimax rounded p (take size (drop start days)) → accepted q ≡ bfimax_outcome (spell_of last D p) days base
      unfolding bfimax_outcome
      found_answer g = ap accepted (g ∙ ap (bfimax rounded p) slice) ∙ sym (outcome_accepted (bfimax_causes (spell_of last D p) days base) _ no_cause)

      pub found_list : {exit : List ℕ} → exit ≡ spell_list (spell_of last D p) days → exit ≡ bfimax_leaves (spell_of last D p) days base
      unfolding bfimax_leaves
      found_list g = g ∙ sym (leaves_accepted (bfimax_causes (spell_of last D p) days base) _ base no_cause)

  -- their flows, and the values put into the cleared list
  module _ {p : ℕ} {base : List ℕ} (k : Passed D p days base) where
    flows_size : (length (spell last D days) ≡ D) × Flows (spell last D days)
    flows_size = spell_flows k.long k.valid (in_list_if last D days f.found)

    pub slice_flows : Flows (take size (drop start days))
    slice_flows = subst Flows (sym slice) flows_size.1

    module _ {cleared : List ℕ} (e : cleared ≡ replicate (length base) no_value_mark) where
      pub same_sizes : length (take size (drop start days)) ≡ length (take size (drop start cleared))
      same_sizes = omega (arith, length-take size (drop start days), length-drop start days, length-take size (drop start cleared), length-drop start cleared, ap length e, length-replicate (length base) no_value_mark, k.same)

      pub put_spell : {ys : List ℕ} → ys ≡ values rounded p (take size (drop start days)) → take start cleared ++ (ys ++ drop size (drop start cleared)) ≡ spell_list (spell_of last D p) days
      unfolding spell_list
      put_spell {ys} v =
          let w : ys ≡ values rounded p (spell last D days) = v ∙ ap (values rounded p) slice in
          let all : cleared ≡ replicate (length days) no_value_mark = e ∙ ap (λ n. replicate n no_value_mark) (sym k.same) in
          let end : start + size ≡ suc last - D + length ys = omega (arith, z, from, ap length w, values_length p (spell last D days), flows_size.0) in
          ap (λ r. take start cleared ++ (ys ++ r)) (drop-drop size start cleared ∙ ap (λ n. drop n cleared) end)
          ∙ ap (λ n. take n cleared ++ (ys ++ drop (suc last - D + length ys) cleared)) from
          ∙ ap₂ (λ c v. take (suc last - D) c ++ (v ++ drop (suc last - D + length v) c)) all w
          ∙ sym (append_assoc (take (suc last - D) (replicate (length days) no_value_mark)) (values rounded p (spell last D days)) (drop (suc last - D + length (values rounded p (spell last D days))) (replicate (length days) no_value_mark)))
