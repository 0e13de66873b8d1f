-- The call: what the checks show, the first cause of refusal, and what the call leaves.
-- Assumes nothing.
use Prim.Native.Nat.{ℕ, zero, suc, ◌+◌, ◌*◌, ◌≤◌, ◌<◌}
use mathlib.Core.Path.{◌≡◌, refl, sym, ◌∙◌, ap, ap₂}
use mathlib.Core.Bool.{false, cond}
use mathlib.Core.List.{List, [], ◌∷◌, map}
use mathlib.Core.Option.{Option, none, some}
use native.Mathlib.Omega.{arith}
use lib.ListN.{length, length-map}
use borrow.Author.Tests.{eqb-true, not-false}
use Rattle.std.specs.Prelude.{Result, Ok}
use Rattle.numbers.specs.Arithmetic.{rounded}
use Rattle.numbers.proofs.Sorting.{All, none_left, and_all}
use Rattle.series.specs.Units.{day_limit, day_of, base_mark}
use Rattle.series.specs.Lists.{any_invalid_day}
use Rattle.series.specs.Causes.{refusal_number, refusal_of, first_cause, cause}
use Rattle.series.specs.declared.Refusal.{Refusal}
use Rattle.series.proofs.Refusing.{passed, decides_alone, decides_after, leaves_refused, leaves_accepted}
use Rattle.series.proofs.Tests as tests
use Rattle.series.proofs.Views.{neither_of, valid_days}
use Rattle.series.proofs.Agreeing.{shown}
use Rattle.minima.specs.declared.LineSetting.{LineSetting}
use Rattle.minima.specs.TurningPoints.{counting}
use Rattle.minima.specs.Line.{line_over}
use Rattle.minima.specs.Call.{blocks_at}
use Rattle.minima.proofs.Lengths.{counting_more, counting_none, line_over_length}
use Rattle.minima.proofs.Acceptance.{block_range}
use Rattle.minima.proofs.Distance.{line_distance}
use Rattle.staggered.specs.Rule.{shifts, lines, on_day, chosen, staggered}
use Rattle.staggered.specs.Call.{bad_setting, work_differs, no_lines, staggered_causes, chosen_list, work_list, base_leaves, work_leaves}
use Rattle.staggered.specs.Private.{number_of, shown_on, chosen_from, first_causes}
use Rattle.staggered.specs.declared.Choice.{Choice}
use Rattle.staggered.proofs.Columns.{Line, shown_lines}

-- the call
module _ (s : LineSetting) (choice : ℕ) (days base work : List ℕ) where
  -- what the checks before 17 have shown
  pub record Checked : Type 0 where
    pub blocks : (1 ≤ s.block_days) × (s.block_days ≤ 30)
    pub few : length days ≤ day_limit
    pub same : length days ≡ length base
    pub whole : s.block_days * length days ≡ length work
    pub valid : any_invalid_day days ≡ false

  pub checked : none ≡ first_cause (first_causes s choice days base work) → Checked
  unfolding staggered_causes bad_setting work_differs
  checked e =
      let p = passed (first_causes s choice days base work) (sym e) in
      record {
        blocks = block_range s (neither_of _ _ (p 16)).0;
        few = tests.few_days days (p 9);
        same = tests.same_length days base (p 14);
        whole = eqb-true (s.block_days * length days) (length work) (not-false _ (p 25));
        valid = p 10;
      }

  -- the first cause: by the checks, or 17, or none
  pub by_check : (r : Refusal) → some (refusal_number r) ≡ first_cause (first_causes s choice days base work) → some (refusal_number r) ≡ first_cause (staggered_causes s choice days base work)
  unfolding staggered_causes
  by_check r e = (decides_alone {cs = first_causes s choice days base work} (cause (no_lines s (map day_of days)) 17 ∷ []) (record { first = e }) refl).first

  pub by_line : (v : Result Unit Refusal) → none ≡ first_cause (first_causes s choice days base work) → refusal_of v ≡ cond (no_lines s (map day_of days)) (some 17) none → refusal_of v ≡ first_cause (staggered_causes s choice days base work)
  unfolding staggered_causes
  by_line v e h = (decides_after {cs = first_causes s choice days base work} {ds = cause (no_lines s (map day_of days)) 17 ∷ []} {v = Ok tt} {w = v} (record { first = e }) refl (record { first = h })).first

  -- what it leaves
  pub kept : {n : ℕ} → some n ≡ first_cause (staggered_causes s choice days base work) → (base ≡ base_leaves s choice days base work) × (work ≡ work_leaves s choice days base work)
  unfolding base_leaves work_leaves
  kept e = (sym (leaves_refused _ _ base (sym e)), sym (leaves_refused _ _ work (sym e)))

  pub filled : {base' work' : List ℕ} → none ≡ first_cause (staggered_causes s choice days base work) → base' ≡ chosen_list s choice days → work' ≡ work_list s days
      → (base' ≡ base_leaves s choice days base work) × (work' ≡ work_leaves s choice days base work)
  unfolding base_leaves work_leaves
  filled e f g = (f ∙ sym (leaves_accepted _ _ base (sym e)), g ∙ sym (leaves_accepted _ _ work (sym e)))

  -- the lines in the work list, and the values chosen from them
  module _ (k : Checked) where
    all_lines : (os : List ℕ) → All (Line (length days)) (map (λ o. line_over rounded (blocks_at s o) (map day_of days)) os)
    all_lines [] = none_left
    all_lines (o ∷ os) =
        and_all (record { as_long = line_over_length rounded (blocks_at s o) (map day_of days) ∙ length-map days day_of; shown = shown (line_distance (blocks_at s o) (map day_of days)) (valid_days days k.valid) }) (all_lines os)

    shown_day : (t : ℕ) → t < length days → shown_on (work_list s days) (length days) t ≡ on_day t (lines rounded s (map day_of days))
    unfolding work_list lines
    shown_day t h = shown_lines (length days) t h (all_lines (shifts s))

    same_values : (f : ℕ → ℕ) (g : ℕ → Option ℕ) (i n : ℕ) → ((t : ℕ) → t < i + n → f t ≡ base_mark (g t)) → map f (counting i n) ≡ map base_mark (map g (counting i n))
    same_values f g i zero h = rw counting_none
    same_values f g i (suc n) h = rw counting_more (ap₂ (λ x xs. x ∷ xs) (h i (omega arith)) (same_values f g (suc i) n (λ t l. h t (omega arith))))

    pub all_chosen : (c : Choice) {base' work' : List ℕ} → choice ≡ number_of c → work' ≡ work_list s days → base' ≡ chosen_from c work' (length base) → base' ≡ chosen_list s choice days
    unfolding chosen_list chosen_from staggered
    all_chosen c n e f =
        f
        ∙ ap₂ (λ w k. chosen_from c w k) e (sym k.same)
        ∙ same_values _ (λ t. chosen rounded choice (on_day t (lines rounded s (map day_of days)))) 0 (length days) (λ t h. ap₂ (λ m os. base_mark (chosen rounded m os)) (sym n) (shown_day t (omega arith)))
        ∙ ap (λ n. map base_mark (map (λ t. chosen rounded choice (on_day t (lines rounded s (map day_of days)))) (counting 0 n))) (sym (length-map days day_of))
