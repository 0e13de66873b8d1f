-- The walk over the days as the code goes it: from one run to the next, and so from limb to limb.
-- Assumes nothing.
use Prim.Native.Nat.{ℕ, suc, ◌*◌, ◌+◌, ◌-◌, ◌≤◌, ◌<◌}
use mathlib.Core.Path.{◌≡◌, refl, sym, ◌∙◌, ap, ap₂}
use mathlib.Core.Bool.{Bool, true, false, ◌||◌}
use mathlib.Core.List.{List, [], ◌∷◌}
use mathlib.Core.Option.{Option, none, some}
use mathlib.Core.Logic.{inl, inr}
use native.Mathlib.Decide.{ℕ_discrete}
use native.Mathlib.Omega.{arith}
use borrow.Author.Tests.{ltb-true, lt-ltb, le-ltb, le-leb, lt-leb}
use lib.ListN.{length, get_or, take, drop, length-take, length-drop, drop_of_length-le}
use Rattle.std.proofs.Common.{add-one}
use lib.Dec.{leb}
use lib.Seq.{drop-cons, drop-drop}
use Rattle.numbers.specs.Lists.{selected}
use Rattle.numbers.proofs.Selection.{selected_none, selected_pass, selected_fail}
use Rattle.series.specs.declared.Refusal.{Refusal}
use Rattle.series.specs.Units.{day_of, base_of, missing_mark}
use Rattle.series.specs.Lists.{is_invalid_base, any_invalid_base}
use Rattle.series.specs.Runs.{joined, Longest, further, runs_from}
use Rattle.series.proofs.Tests.{no_invalid_base, any_base}
use Rattle.series.proofs.Runs.{joined_none, joined_after_gap, joined_days, run_joins, first_run, further_none, further_stops, further_goes_on, further_length, walk_gap, walk_run, walk_end}
use Rattle.recession.specs.Limbs.{Limb, limb_day, limb_days, falls, has_at_least}
use Rattle.recession.specs.Private.{Falling, falls_from, limbs_from, invalid_from, SeenAt, InvalidFrom, FirstAtBase, run_end, run_at, LimbAt}
use Rattle.recession.proofs.Days.{limb_flow, limb_valid, seen_by_test, unseen_by_test, view_few, view_cons, view_drop}

-- a longest fall, and so the fall behind a day, goes strictly down
pub run_falling : {days : List (Option ℕ)} {start : ℕ} {flows : List ℕ} → Longest falls days start flows → Falling flows
run_falling l t h = ltb-true _ _ (run_joins falls l 0 t h)

fall_falling : (y : ℕ) (ds : List (Option ℕ)) → Falling (y ∷ further falls (some y) ds)
fall_falling y ds = run_falling (first_run falls none y ds (joined_after_gap falls (some y)))

-- the flows of a fall are the numbers that stand in the day list
fall_flows : (before : Option ℕ) (days base : List ℕ) → further falls before (limb_days days base) ≡ take (length (further falls before (limb_days days base))) days
unfolding limb_days
fall_flows before [] bs = further_none falls before ∙ ap (λ l. take (length l) []) (sym (further_none falls before))
fall_flows before (x ∷ xs) [] = rw (further_none falls before)
fall_flows before (x ∷ xs) (b ∷ bs) = by_day (limb_day x b) refl (λ d. fall_flows d xs bs)
  where
    by_day : (d : Option ℕ) → limb_day x b ≡ d → ((d : Option ℕ) → further falls d (limb_days xs bs) ≡ take (length (further falls d (limb_days xs bs))) xs)
        → further falls before (d ∷ limb_days xs bs) ≡ take (length (further falls before (d ∷ limb_days xs bs))) (x ∷ xs)
    by_day none e rest = rw (further_stops falls before none (limb_days xs bs) (joined_none falls before))
    by_day (some y) e rest = by_test (joined falls before (some y)) refl
      where
        by_test : (t : Bool) → joined falls before (some y) ≡ t → further falls before (some y ∷ limb_days xs bs) ≡ take (length (further falls before (some y ∷ limb_days xs bs))) (x ∷ xs)
        by_test true j = rw (further_goes_on falls before y (limb_days xs bs) j) (cc (limb_flow x b e, rest (some y)))
        by_test false j = rw (further_stops falls before (some y) (limb_days xs bs) j)

-- the days that a walk passes: an invalid one decides, and a valid one does not
module _ (days base : List ℕ) (same : length base ≡ length days) (p : ℕ) (h : p < length days) where
  abbrev test : Bool
  test = is_invalid_base (day_of (get_or days p 0)) (base_of (get_or base p 0))

  by_test : {b : Bool} → test ≡ b → invalid_from days base p ≡ (b || invalid_from days base (p + 1))
  unfolding invalid_from
  by_test e =
      let g : p < length base = omega (arith, same) in
      rw add-one (ap₂ any_invalid_base (drop-cons days p 0 h) (drop-cons base p 0 g) ∙ any_base _ _ _ _ ∙ ap (λ b. b || any_invalid_base (drop (suc p) days) (drop (suc p) base)) e)

  past_valid : test ≡ false → invalid_from days base p ≡ invalid_from days base (p + 1)
  past_valid e = by_test e

  at_invalid : test ≡ true → invalid_from days base p ≡ true
  at_invalid e = by_test e

pub from_start : (days base : List ℕ) → invalid_from days base 0 ≡ any_invalid_base days base
unfolding invalid_from
from_start days base = refl

pub none_behind : (days base : List ℕ) (p : ℕ) → length days ≤ p → invalid_from days base p ≡ false
unfolding invalid_from
none_behind days base p h = ap (λ l. any_invalid_base l (drop p base)) (drop_of_length-le days h) ∙ no_invalid_base (drop p base)

-- how many days are still to fall from p on, behind a day with the flow `last`
pub to_fall : (days base : List ℕ) → (last p : ℕ) → ℕ
to_fall days base last p = length (further falls (some last) (drop p (limb_days days base)))

pub falls_start : (days base : List ℕ) (p : ℕ) → run_end days base p ≡ p + 1 + to_fall days base (get_or days p 0) (p + 1)
unfolding run_end to_fall
falls_start days base p = rw (add-one, ← add-one) refl

module _ (days base : List ℕ) (last p : ℕ) (same : length base ≡ length days) where
  -- by the day at p, as limbs see it
  by_view : p < length days → {d : Option ℕ} → limb_day (get_or days p 0) (get_or base p 0) ≡ d → to_fall days base last p ≡ length (further falls (some last) (d ∷ drop (suc p) (limb_days days base)))
  unfolding to_fall
  by_view h e = ap (λ l. length (further falls (some last) l)) (view_cons days base p same h ∙ ap (λ d. d ∷ drop (suc p) (limb_days days base)) e)

  pub falls_on : p < length days → {y : ℕ} → limb_day (get_or days p 0) (get_or base p 0) ≡ some y → y < last → to_fall days base last p ≡ 1 + to_fall days base y (p + 1)
  unfolding to_fall
  falls_on h {y} e g =
      let on = ap length (further_goes_on falls (some last) y (drop (suc p) (limb_days days base)) (joined_days falls last y ∙ lt-ltb y last g)) in
      rw add-one (omega (arith, by_view h e, on))

  pub falls_no_more : p < length days → {y : ℕ} → limb_day (get_or days p 0) (get_or base p 0) ≡ some y → last ≤ y → to_fall days base last p ≡ 0
  falls_no_more h {y} e g = by_view h e ∙ ap length (further_stops falls (some last) (some y) (drop (suc p) (limb_days days base)) (joined_days falls last y ∙ le-ltb y last g))

  pub falls_not_over : p < length days → limb_day (get_or days p 0) (get_or base p 0) ≡ none → to_fall days base last p ≡ 0
  falls_not_over h e = by_view h e ∙ ap length (further_stops falls (some last) none (drop (suc p) (limb_days days base)) (joined_none falls (some last)))

  -- by the tests of the code: a day that is not at base, and one whose number is not below the last flow
  pub falls_on_no_base : p < length days → (get_or base p 0 ≡ 1000 * get_or days p 0 → ⊥) → to_fall days base last p ≡ 0
  falls_on_no_base h n = falls_not_over h (unseen_by_test _ _ (inr n))

  pub falls_no_lower : p < length days → get_or base p 0 ≡ 1000 * get_or days p 0 → last ≤ get_or days p 0 → to_fall days base last p ≡ 0
  falls_no_lower h e g = elim (ℕ_discrete (get_or days p 0) missing_mark) [ yes m ↦ falls_not_over h (unseen_by_test _ _ (inl (e, m))) | no m ↦ falls_no_more h (seen_by_test _ _ e m) g ]

pub falls_out : (days base : List ℕ) (last p : ℕ) → length days ≤ p → to_fall days base last p ≡ 0
unfolding to_fall
falls_out days base last p h =
    let past : length (limb_days days base) ≤ p = omega (arith, view_few days base) in
    ap (λ ds. length (further falls (some last) ds)) (drop_of_length-le (limb_days days base) past) ∙ ap length (further_none falls (some last))

-- a day at base is valid
pub valid_on : (days base : List ℕ) (p : ℕ) {y : ℕ} → length base ≡ length days → p < length days → limb_day (get_or days p 0) (get_or base p 0) ≡ some y → invalid_from days base p ≡ invalid_from days base (p + 1)
valid_on days base p same h e = past_valid days base same p h (limb_valid _ _ e)

-- The search for the end of a run: what has fallen from start to end, and what is still to fall behind the last of it.
pub record Fallen (days base : List ℕ) (start end last : ℕ) : Type 0 where
  pub after : start < end
  pub inside : end ≤ length days
  pub still : run_end days base start ≡ end + to_fall days base last end
  pub tests : invalid_from days base start ≡ invalid_from days base end

-- The search for a day at base: no fall starts from p up to q, and no day is invalid.
pub record Skipped (days base : List ℕ) (p q : ℕ) : Type 0 where
  pub onward : p ≤ q
  pub same : falls_from days base p ≡ falls_from days base q
  pub tests : invalid_from days base p ≡ invalid_from days base q

pub skipped_start : (days base : List ℕ) (p : ℕ) → Skipped days base p p
skipped_start days base p = record { onward = omega arith; same = refl; tests = refl }

module _ (days base : List ℕ) (same : length base ≡ length days) {p q : ℕ} (s : Skipped days base p q) (h : q < length days) where
  -- no fall starts on a day that limbs do not see
  past_gap : limb_day (get_or days q 0) (get_or base q 0) ≡ none → falls_from days base q ≡ falls_from days base (q + 1)
  unfolding falls_from
  past_gap g =
      let rest = drop (suc q) (limb_days days base) in
      ap (runs_from falls q none) (view_cons days base q same h ∙ ap (λ d. d ∷ rest) g) ∙ walk_gap falls q rest ∙ ap (falls_from days base) (omega arith)

  pub skipped_next : limb_day (get_or days q 0) (get_or base q 0) ≡ none → is_invalid_base (day_of (get_or days q 0)) (base_of (get_or base q 0)) ≡ false → Skipped days base p (q + 1)
  skipped_next g t = record { onward = omega (arith, s.onward); same = s.same ∙ past_gap g; tests = s.tests ∙ past_valid days base same q h t }

  -- where it stops
  pub first_found : SeenAt days base q → FirstAtBase days base p q
  first_found e = record { onward = s.onward; inside = h; seen = e; same = s.same; tests = s.tests }

  pub invalid_found : is_invalid_base (day_of (get_or days q 0)) (base_of (get_or base q 0)) ≡ true → invalid_from days base p ≡ true
  invalid_found t = s.tests ∙ at_invalid days base same q h t

no_fall_left : (days base : List ℕ) (q : ℕ) → length days ≤ q → falls_from days base q ≡ []
unfolding falls_from
no_fall_left days base q h =
    let past : length (limb_days days base) ≤ q = omega (arith, view_few days base) in
    ap (runs_from falls q none) (drop_of_length-le (limb_days days base) past) ∙ walk_end falls q none

pub skipped_all : {days base : List ℕ} {p q : ℕ} → Skipped days base p q → length days ≤ q → (falls_from days base p ≡ []) × (invalid_from days base p ≡ false)
skipped_all {days} {base} {q = q} s h = (s.same ∙ no_fall_left days base q h, s.tests ∙ none_behind days base q h)

-- one turn of the walk: the run that starts at p, then the walk from its end on
module _ (days base : List ℕ) (same : length base ≡ length days) (p : ℕ) (h : p < length days) (seen : SeenAt days base p) {e : ℕ} (end : e ≡ run_end days base p) where
  abbrev flow : ℕ
  flow = get_or days p 0

  abbrev rest : List (Option ℕ)
  rest = drop (suc p) (limb_days days base)

  abbrev more : List ℕ
  more = further falls (some flow) rest

  abbrev from : ℕ → List Limb
  from t = falls_from days base t

  -- it ends behind its start and within the list
  pub run_after : p < e
  unfolding run_end
  run_after = omega arith

  pub run_inside : e ≤ length days
  unfolding run_end
  run_inside = omega (arith, further_length falls (some flow) rest, length-drop (suc p) (limb_days days base), view_few days base)

  pub run_size : length (run_at days p e).flows ≡ e - p
  run_size = omega (arith, length-take (e - p) (drop p days), length-drop p days, run_inside)

  from_end : runs_from falls (suc p + length more) none (drop (length more) rest) ≡ from e
  unfolding run_end falls_from
  from_end = ap (runs_from falls (suc p + length more) none) (drop-drop (length more) (suc p) (limb_days days base)) ∙ ap from (sym end)

  run_flows : flow ∷ more ≡ (run_at days p e).flows
  unfolding run_end
  run_flows =
      let size : e - p ≡ suc (length more) = omega (arith, end) in
      let flows : more ≡ take (length more) (drop (suc p) days) = rw (view_drop (suc p) days base) (fall_flows (some flow) (drop (suc p) days) (drop (suc p) base)) in
      rw (size, drop-cons days p 0 h) (ap (λ l. flow ∷ l) flows)

  run_falls : Falling (run_at days p e).flows
  run_falls = rw (← run_flows) (fall_falling flow rest)

  one_run : from p ≡ run_at days p e ∷ from e
  unfolding falls_from
  one_run =
      ap (runs_from falls p none) (view_cons days base p same h ∙ ap (λ d. d ∷ rest) seen) ∙ walk_run falls p flow rest
      ∙ ap₂ (λ f l. record { start = p; flows = f } ∷ l) run_flows from_end

pub ends_behind : {days base : List ℕ} → length base ≡ length days → {p q e : ℕ} → FirstAtBase days base p q → e ≡ run_end days base q → (p ≤ q) × (q < e) × (q < length days)
ends_behind {days} {base} same {q = q} f end = (f.onward, run_after days base same q f.inside f.seen end, f.inside)

-- The search for a limb: from p up to q no limb starts, and no day is invalid.
pub record Searched (L : ℕ) (days base : List ℕ) (p q : ℕ) : Type 0 where
  pub onward : p ≤ q
  pub same : limbs_from L days base p ≡ limbs_from L days base q
  pub tests : invalid_from days base p ≡ invalid_from days base q

pub searched_start : (L : ℕ) (days base : List ℕ) (p : ℕ) → Searched L days base p p
searched_start L days base p = record { onward = omega arith; same = refl; tests = refl }

module _ {L : ℕ} {days base : List ℕ} {from p : ℕ} (s : Searched L days base from p) where
  -- one day at base more, and the fall that starts there
  module _ (same : length base ≡ length days) {q e : ℕ} (f : FirstAtBase days base p q) (end : e ≡ run_end days base q) (tests : invalid_from days base q ≡ invalid_from days base e) where
    to_here : limbs_from L days base from ≡ selected (has_at_least L) (run_at days q e ∷ falls_from days base e)
    unfolding limbs_from
    to_here = s.same ∙ ap (selected (has_at_least L)) (f.same ∙ one_run days base same q f.inside f.seen end)

    run_length : leb L (length (run_at days q e).flows) ≡ leb L (e - q)
    run_length = ap (leb L) (run_size days base same q f.inside f.seen end)

    pub limb_found : L ≤ e - q → LimbAt L days base from q e
    unfolding limbs_from has_at_least
    limb_found g =
        record {
          onward = omega (arith, s.onward, f.onward);
          forward = run_after days base same q f.inside f.seen end;
          inside = run_inside days base same q f.inside f.seen end;
          seen = f.seen;
          run = end;
          next = to_here ∙ selected_pass (has_at_least L) (falls_from days base e) (run_length ∙ le-leb L (e - q) g);
          tests = s.tests ∙ f.tests ∙ tests;
          falling = run_falls days base same q f.inside f.seen end;
        }

    -- too short
    pub searched_next : e - q < L → Searched L days base from e
    unfolding limbs_from has_at_least
    searched_next g =
        record {
          onward = omega (arith, s.onward, f.onward, run_after days base same q f.inside f.seen end);
          same = to_here ∙ selected_fail (has_at_least L) (falls_from days base e) (run_length ∙ lt-leb L (e - q) g);
          tests = s.tests ∙ f.tests ∙ tests;
        }

  -- none is found: the list ends, or an invalid day comes first
  pub none_found : (falls_from days base p ≡ []) × (invalid_from days base p ≡ false) → (limbs_from L days base from ≡ []) × (invalid_from days base from ≡ false)
  unfolding limbs_from
  none_found n = (s.same ∙ ap (selected (has_at_least L)) n.0 ∙ selected_none (has_at_least L), s.tests ∙ n.1)

  pub invalid_first : {r : Refusal} → InvalidFrom days base p r → InvalidFrom days base from r
  invalid_first i = (i.0, s.tests ∙ i.1)

pub limb_size : {L : ℕ} {days base : List ℕ} {from first end : ℕ} → LimbAt L days base from first end → length (run_at days first end).flows ≡ end - first
limb_size {days = days} {first = first} {end} l = omega (arith, length-take (end - first) (drop first days), length-drop first days, l.inside)
