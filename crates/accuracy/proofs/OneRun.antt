-- The run of the calls, one after the other: what the code answers and leaves is the run, and so carries demand 3.
-- Assumes nothing.
use Prim.Native.Nat.{ℕ, min}
use mathlib.Core.Path.{◌≡◌, sym, ◌∙◌, ap, ap₂, subst}
use mathlib.Core.List.{List, ◌++◌}
use mathlib.Core.Option.{Option, none, some}
use native.Mathlib.Nat.{min-le_right}
use native.Mathlib.Omega.{arith}
use lib.ListN.{length, take, drop, take-append-drop}
use lib.Seq.{take_at, length-take-le}
use Rattle.series.specs.declared.Refusal.{Refusal}
use Rattle.series.specs.Causes.{Cause, first_cause, Outcome, accepted, refused, leaves}
use Rattle.series.proofs.Refusing.{outcome_refused, outcome_accepted, leaves_refused, leaves_accepted, leaves_by}
use Rattle.record.specs.Call.{reading, reply_of, read_leaves}
use Rattle.record.proofs.Accepting.{Answered, answered, stated_first}
use Rattle.filter.specs.declared.Setting.{Setting}
use Rattle.filter.specs.declared.start.Start.{Start}
use Rattle.filter.specs.Call.{filter_causes, filter_leaves}
use Rattle.filter.proofs.Calls.{leaves_filtered, leaves_as_it_was}
use Rattle.filter.proofs.Sentences.{filtered_list_lem}
use Rattle.minima.specs.declared.LineSetting.{LineSetting}
use Rattle.minima.specs.Call.{line_causes, line_leaves}
use Rattle.minima.proofs.Acceptance.{line_drawn, line_kept}
use Rattle.totals.specs.declared.Totals.{Totals}
use Rattle.totals.specs.Call.{totals_outcome}
use Rattle.accuracy.specs.declared.Choice.{Choice}
use Rattle.accuracy.specs.declared.Choice.TheVariants.{Filter, Line}
use Rattle.std.specs.Prelude.{Result, Ok}
use Rattle.accuracy.specs.declared.Separation.{Separation}
use Rattle.accuracy.specs.Choosing.{chosen_causes, base_list}
use Rattle.accuracy.specs.Call.{front, behind, base_flow_over, base_flow_leaves, after_reading, run, base_flow_of, run_of}
use Rattle.accuracy.specs.Claim.{Demand3}
use Rattle.accuracy.proofs.Demand3.{demand_3}

-- the chosen call, by its case
abbrev Called : Choice → (days base : List ℕ) → Option ℕ → List ℕ → Type 0
Called choice days base r b = (r ≡ first_cause (chosen_causes choice days base)) × (b ≡ leaves (chosen_causes choice days base) (base_list choice days) base)

module _ {choice : Choice} (days base : List ℕ) {r : Option ℕ} {b : List ℕ} where
  pub filter_called : {s : Setting} {n : ℕ} {from : Start} → choice ≡ Filter s n from → (r ≡ first_cause (filter_causes s n from days base)) × (b ≡ filter_leaves s n from days base) → Called choice days base r b
  filter_called {s} {n} {from} e h =
      let left = leaves_by (filter_causes s n from days base) (base_list (Filter s n from) days) base (λ g. leaves_filtered s n from days base g ∙ filtered_list_lem s n from days) (λ k g. leaves_as_it_was s n from days base g) in
      subst (λ x. Called x days base r b) (sym e) (h.0, h.1 ∙ left)

  pub line_called : {s : LineSetting} → choice ≡ Line s → (r ≡ first_cause (line_causes s days base)) × (b ≡ line_leaves s days base) → Called choice days base r b
  line_called {s} e h =
      let left = leaves_by (line_causes s days base) (base_list (Line s) days) base (λ g. line_drawn s days base g) (λ k g. line_kept s days base g) in
      subst (λ x. Called x days base r b) (sym e) (h.0, h.1 ∙ left)

-- over the days that were read: n is the length of the part of the base list that is lent on, and b what comes back of it
module _ (choice : Choice) (days base : List ℕ) {n : ℕ} (e : n ≡ min (length days) (length base)) {b : List ℕ} (h : b ≡ leaves (chosen_causes choice days (take n base)) (base_list choice days) (take n base)) where
  abbrev causes : List Cause
  causes = chosen_causes choice days (front days base)

  part : take n base ≡ front days base
  part = ap (λ k. take k base) e

  left : b ≡ leaves causes (base_list choice days) (front days base)
  left = h ∙ ap (λ p. leaves (chosen_causes choice days p) (base_list choice days) p) part

  pub left_in_base : b ++ drop n base ≡ base_flow_leaves choice days base
  unfolding base_flow_leaves
  left_in_base =
      leaves_by causes (base_list choice days ++ behind days base) base
      (λ g. ap₂ (λ x k. x ++ drop k base) (left ∙ leaves_accepted causes _ _ g) e)
      (λ k g. ap₂ (λ x m. x ++ drop m base) (left ∙ leaves_refused causes _ _ g) e ∙ take-append-drop (min (length days) (length base)) base)

  pub over_refused : {k : ℕ} → some k ≡ first_cause (chosen_causes choice days (take n base)) → refused k ≡ base_flow_over choice days base
  unfolding base_flow_over
  over_refused c = sym (outcome_refused causes _ (ap (λ p. first_cause (chosen_causes choice days p)) (sym part) ∙ sym c))

  module _ (same_length : length b ≡ length (take n base)) where
    lent_back : length b ≡ n
    lent_back = same_length ∙ length-take-le n base (omega (arith, min-le_right (length days) (length base)))

    pub over_accepted : {t : Outcome Totals} → none ≡ first_cause (chosen_causes choice days (take n base)) → t ≡ totals_outcome days (take n (b ++ drop n base)) → accepted t ≡ base_flow_over choice days base
    unfolding base_flow_over
    over_accepted c u =
        let g = ap (λ p. first_cause (chosen_causes choice days p)) (sym part) ∙ sym c in
        ap accepted (u ∙ ap (totals_outcome days) (take_at b (drop n base) n lent_back ∙ left ∙ leaves_accepted causes _ _ g)) ∙ sym (outcome_accepted causes _ g)

-- the whole run, by what reading answers
module _ (bytes : List ℕ) (choice : Choice) (days base : List ℕ) where
  abbrev Promised : Result Separation Refusal → (days' base' : List ℕ) → Type 0
  Promised r days' base' = (run_of r days' base' ≡ run bytes choice days base) × Demand3 (length days) bytes choice base (run_of r days' base')

  carried : (r : Result Separation Refusal) {days' base' : List ℕ} → run_of r days' base' ≡ run bytes choice days base → Promised r days' base'
  carried r e = (e, subst (Demand3 (length days) bytes choice base) (sym e) (demand_3 bytes choice days base))

  module _ (f n : ℕ) {days' : List ℕ} (h : accepted (record { first_day = f; day_count = n }) ≡ reply_of (reading (length days) bytes)) (l : days' ≡ read_leaves (reading (length days) bytes) days) where
    a : Answered (length days) bytes f n
    a = answered (length days) bytes h

    stored : days' ≡ read_leaves (accepted a.stated) days
    stored = l ∙ ap (λ o. read_leaves o days) a.reads

    in_list : take n days' ≡ a.stated.days
    in_list = ap (take n) stored ∙ ap (λ k. take k (read_leaves (accepted a.stated) days)) (sym a.day_count) ∙ stated_first days a.stated

    pub all_read : (r : Result (Result Totals Refusal) Refusal) {base' : List ℕ} → base_flow_of r ≡ base_flow_over choice (take n days') base → base' ≡ base_flow_leaves choice (take n days') base → Promised (Ok (record { first_day = f; day_count = n; base_flow = r })) days' base'
    all_read r u v =
        let found = u ∙ ap (λ ds. base_flow_over choice ds base) in_list in
        let filled = v ∙ ap (λ ds. base_flow_leaves choice ds base) in_list in
        carried (Ok (record { first_day = f; day_count = n; base_flow = r })) ((λ i. record { answer = accepted (record { first_day = sym a.first_day i; day_count = sym a.day_count i; base_flow = found i }); days = stored i; base = filled i }) ∙ sym (ap (λ o. after_reading o choice days base) a.reads))
