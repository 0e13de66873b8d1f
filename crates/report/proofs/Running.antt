-- What the run of the calls handed out and left in the lists is what the text speaks of. It is lent two lists of 2,048
-- zeros.
-- Assumes nothing.
use Prim.Native.Nat.{ℕ, min}
use mathlib.Core.Path.{◌≡◌, refl, sym, ◌∙◌, ap, subst}
use mathlib.Core.List.{List, ◌++◌}
use native.Mathlib.Omega.{arith}
use lib.ListN.{length, take, replicate, length-replicate, length-take}
use Rattle.std.specs.Prelude.{Result, Ok, Err}
use Rattle.series.specs.declared.Refusal.{Refusal}
use Rattle.series.specs.Causes.{Outcome, accepted, refused, outcome_of, map_outcome}
use Rattle.series.proofs.Refusing.{never_both, same_values}
use Rattle.record.specs.Call.{Stated, reading}
use Rattle.record.proofs.Accepting.{accepted_record}
use Rattle.filter.specs.declared.start.Start.TheVariants.{Usual}
use Rattle.filter.proofs.Sentences.{filtered_list_lem}
use Rattle.totals.specs.declared.Totals.{Totals}
use Rattle.totals.specs.Call.{totals_outcome}
use Rattle.accuracy.specs.declared.Choice.{Choice}
use Rattle.accuracy.specs.declared.Choice.TheVariants.{Filter}
use Rattle.accuracy.specs.declared.Separation.{Separation}
use Rattle.accuracy.specs.Call.{front, separated, run, base_flow_of, run_of}
use Rattle.accuracy.specs.Claim.{Carries, Demand3}
use Rattle.report.specs.Decimal.{characters}
use Rattle.report.specs.Text.{setting, base_flow, day_lines, index_line, record_text}
use Rattle.report.proofs.Sentences.{filter_accepts}

abbrev zeros : List ℕ
zeros = replicate 2048 0

many : length zeros ≡ 2048
many = length-replicate {A = ℕ} 2048 0

abbrev chosen : Choice
chosen = Filter setting 1 Usual

-- what a run promises of its answer and of the lists that it leaves
abbrev Promised : (room : ℕ) → (bytes : List ℕ) → Choice → Result Separation Refusal → (days base : List ℕ) → Type 0
Promised room bytes choice r days base = (run_of r days base ≡ run bytes choice zeros zeros) × Demand3 room bytes choice zeros (run_of r days base)

module _ (bytes : List ℕ) {choice : Choice} {r x : Result Separation Refusal} {days base : List ℕ} (c : choice ≡ chosen) (p : Promised (length zeros) bytes choice r days base) (e : r ≡ x) where
  plain : Promised 2048 bytes chosen x days base
  plain = subst (λ y. Promised 2048 bytes chosen y days base) e (subst (λ y. Promised 2048 bytes y r days base) c (subst (λ m. Promised m bytes choice r days base) many p))

  -- the filter accepts whatever reading accepts, so that the run carries demand 3
  carried : (s : Stated) → reading 2048 bytes ≡ accepted s → Carries chosen s (run_of x days base)
  carried s g =
      let whole : length (front s.days zeros) ≡ length s.days = length-take (min (length s.days) (length zeros)) zeros ∙ omega (arith, many, (accepted_record 2048 bytes g).within_room) in
      plain.1 s g (filter_accepts 2048 bytes g (front s.days zeros) whole)

  answered : {o : Outcome Stated} → reading 2048 bytes ≡ o → (run_of x days base).answer ≡ map_outcome (separated chosen zeros) o
  answered g = ap (λ y. y.answer) plain.0 ∙ ap (λ m. map_outcome (separated chosen zeros) (reading m bytes)) many ∙ ap (map_outcome (separated chosen zeros)) g

-- a refusal of base flow never comes
pub never_refused : (bytes : List ℕ) {choice : Choice} {r : Result Separation Refusal} {x : Separation} {k : Refusal} {days base : List ℕ} → choice ≡ chosen → Promised (length zeros) bytes choice r days base → r ≡ Ok x → x.base_flow ≡ Err k → ⊥
never_refused bytes c p e h = by_outcome (reading 2048 bytes) refl
  where
    by_outcome : (o : Outcome Stated) → reading 2048 bytes ≡ o → ⊥
    by_outcome (accepted s) g = never_both (sym (ap base_flow_of h) ∙ ap (λ y. y.base_flow) (same_values (carried bytes c p e s g).answer))
    by_outcome (refused m) g = never_both (sym (answered bytes c p e g))

-- the front of the two lists is what the text shows
pub shown : (bytes : List ℕ) {choice : Choice} {r : Result Separation Refusal} {x : Separation} {t : Result Totals Refusal} {days base : List ℕ} → choice ≡ chosen → Promised (length zeros) bytes choice r days base → r ≡ Ok x → x.base_flow ≡ Ok t
    → characters "day flow base\n" ++ day_lines x.first_day (take x.day_count days) (take x.day_count base) ++ index_line (outcome_of t) ≡ record_text (reading 2048 bytes)
shown bytes {x = x} {t} {days} {base} c p e h = by_outcome (reading 2048 bytes) refl
  where
    by_outcome : (o : Outcome Stated) → reading 2048 bytes ≡ o → characters "day flow base\n" ++ day_lines x.first_day (take x.day_count days) (take x.day_count base) ++ index_line (outcome_of t) ≡ record_text (reading 2048 bytes)
    by_outcome (refused m) g = absurd (never_both (sym (answered bytes c p e g)))
    by_outcome (accepted s) g =
        let q = carried bytes c p e s g in
        let answer = same_values q.answer in
        let first : x.first_day ≡ s.first_day = ap (λ y. y.first_day) answer in
        let count : x.day_count ≡ length s.days = ap (λ y. y.day_count) answer in
        let read : take x.day_count days ≡ s.days = ap (λ m. take m days) count ∙ q.days in
        let filled : take x.day_count base ≡ base_flow s.days = ap (λ m. take m base) count ∙ q.base ∙ sym (filtered_list_lem setting 1 Usual s.days) in
        let totalled : outcome_of t ≡ totals_outcome s.days (base_flow s.days) = same_values (sym (ap base_flow_of h) ∙ ap (λ y. y.base_flow) answer) ∙ ap (totals_outcome s.days) (sym (filtered_list_lem setting 1 Usual s.days)) in
        (λ i. characters "day flow base\n" ++ day_lines (first i) (read i) (filled i) ++ index_line (totalled i)) ∙ ap record_text (sym g)
