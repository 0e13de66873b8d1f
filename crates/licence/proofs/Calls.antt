-- The replay by its causes: what an accepted one has passed, what it answers and leaves, and that it keeps to its promises.
-- Assumes nothing.
use Prim.Native.Nat.{ℕ}
use mathlib.Core.Path.{◌≡◌, sym}
use mathlib.Core.List.{List}
use mathlib.Core.Option.{none, some}
use Rattle.series.specs.Causes.{first_cause, accepted, refused}
use Rattle.series.proofs.Refusing.{passed, outcome_refused, outcome_accepted, leaves_refused, leaves_accepted}
use Rattle.series.proofs.Tests.{same_length}
use Rattle.series.proofs.Views.{neither_of}
use Rattle.licence.specs.declared.Licence.{Licence}
use Rattle.licence.specs.Call.{licence_causes, listed_takings, listed_left, licence_outcome, licence_leaves}
use Rattle.licence.specs.Kept.{Kept}
use Rattle.licence.specs.Private.{Ready}
use Rattle.licence.proofs.Lists.{sum_and_left, each_day_kept}

module _ (l : Licence) (days base list : List ℕ) where
  module _ (n : ℕ) (e : first_cause (licence_causes l days base list) ≡ some n) where
    pub replay_refuses : refused n ≡ licence_outcome l days base list
    unfolding licence_outcome
    replay_refuses = sym (outcome_refused (licence_causes l days base list) (listed_left l days base) e)

    pub takings_stay : list ≡ licence_leaves l days base list
    unfolding licence_leaves
    takings_stay = sym (leaves_refused _ _ _ e)

  module _ (e : first_cause (licence_causes l days base list) ≡ none) where
    pub replay_ready : Ready days base list
    unfolding licence_causes
    replay_ready =
        let q = passed (licence_causes l days base list) e in
        let same = neither_of _ _ (q 14) in
        record { same_base = same_length days base same.0; same_takings = same_length days list same.1; valid = q 20 }

    pub replay_answers : accepted (listed_left l days base) ≡ licence_outcome l days base list
    unfolding licence_outcome
    replay_answers = sym (outcome_accepted (licence_causes l days base list) (listed_left l days base) e)

    pub takings_put : listed_takings l days base ≡ licence_leaves l days base list
    unfolding licence_leaves
    takings_put = sym (leaves_accepted _ _ _ e)

    pub replay_kept : (takings : List ℕ) → takings ≡ listed_takings l days base → (left : ℕ) → left ≡ listed_left l days base → Kept l days base takings left
    unfolding listed_takings listed_left
    replay_kept takings f left g = rw (f, g) record { takings_and_left = sum_and_left _ _ _ _; each_day = each_day_kept _ _ days base replay_ready.same_base replay_ready.valid }
