-- READ THIS FIRST: the rule's sentences, proved of the definitions in specs/. Of every replay that is accepted, by what it
-- really leaves in the takings list and returns:
--   the sum of the takings plus the quota left is the quota (`takings_and_left`);
--   no day's flow after taking is below its base; a taking is at most the flow and at most M, and 0 without a base value
--   (`days_kept`);
--   two replays one after the other, the second with the quota that the first returned, leave and return what one replay of
--   both does (`in_parts`).
-- And of any lists:
--   base in whole litres is the least whole number n with base at most 1000 × n (`base_rounded_up`);
--   the replay of a list is that of its front, then that of its rest with the quota that was left (`front_then_rest`);
--   of two rivers over the same days, one with at least the other's flow above base on every day leaves no more quota
--   (`more_flow_less_quota`).
-- Assumes nothing.
use Prim.Native.Nat.{ℕ, suc, ◌+◌, ◌*◌, ◌-◌, ◌≤◌}
use mathlib.Core.Path.{◌≡◌, refl, sym, ◌∙◌, ap, ap₂}
use mathlib.Core.Bool.{◌||◌}
use mathlib.Core.List.{List, [], ◌∷◌, ◌++◌, map}
use mathlib.Core.Option.{Option, none}
use native.Mathlib.Omega.{arith}
use lib.ListN.{length, get_or, length-append, length-map}
use Rattle.std.specs.List.{sum}
use Rattle.std.proofs.lemmas.List.{map-append}
use Rattle.series.specs.Units.{day_limit, day_of, base_of}
use Rattle.series.specs.Causes.{first_cause, accepted}
use Rattle.series.proofs.Refusing.{passed, outcome_was_accepted, outcome_accepted, leaves_accepted}
use Rattle.series.proofs.Tests.{any_append, not_too_long, not_different}
use Rattle.licence.specs.declared.Licence.{Licence}
use Rattle.licence.specs.Rule.{litres_up, taking, takings, quota_left, above_base}
use Rattle.licence.specs.Call.{licence_causes, listed_takings, listed_left, licence_outcome, licence_leaves}
use Rattle.licence.specs.Kept.{DayKept, Kept}
use Rattle.licence.proofs.Days.{leaves_less}
use Rattle.licence.proofs.Lists.{left_at_most, valid_append}
use Rattle.licence.specs.Private.{Ready}
use Rattle.licence.proofs.Calls.{replay_ready, replay_kept}

pub base_rounded_up : (b : ℕ) → (b ≤ 1000 * litres_up b) × ((n : ℕ) → b ≤ 1000 * n → litres_up b ≤ n)
unfolding litres_up
base_rounded_up b = (omega arith, λ n h. omega arith)

pub front_then_rest : (M Q : ℕ) (days base : List (Option ℕ)) → length days ≡ length base → (days' base' : List (Option ℕ))
    → (takings M Q (days ++ days') (base ++ base') ≡ takings M Q days base ++ takings M (quota_left M Q days base) days' base') × (quota_left M Q (days ++ days') (base ++ base') ≡ quota_left M (quota_left M Q days base) days' base')
unfolding takings quota_left
front_then_rest M Q [] [] e days' base' = (refl, refl)
front_then_rest M Q [] (b ∷ bs) e days' base' = absurd (omega arith)
front_then_rest M Q (d ∷ ds) [] e days' base' = absurd (omega arith)
front_then_rest M Q (d ∷ ds) (b ∷ bs) e days' base' =
    let rest = front_then_rest M (Q - taking M Q d b) ds bs (omega arith) days' base' in
    (ap (λ l. taking M Q d b ∷ l) rest.0, rest.1)

-- The flow above base is counted in thousandths, 0 without a base value. The second river may have less quota too, and base
-- values on days on which the first has none.
pub more_flow_less_quota : (M Q Q' : ℕ) → Q' ≤ Q → (days base days' base' : List (Option ℕ)) → length days ≡ length days' → length days ≡ length base'
    → ((t : ℕ) → above_base (get_or days t none) (get_or base t none) ≤ above_base (get_or days' t none) (get_or base' t none))
    → quota_left M Q' days' base' ≤ quota_left M Q days base
unfolding quota_left
more_flow_less_quota M Q Q' q [] bs ds' bs' e f h = omega (arith, left_at_most M Q' ds' bs')
more_flow_less_quota M Q Q' q (d ∷ ds) [] ds' bs' e f h = omega (arith, left_at_most M Q' ds' bs')
more_flow_less_quota M Q Q' q (d ∷ ds) (b ∷ bs) [] bs' e f h = absurd (omega arith)
more_flow_less_quota M Q Q' q (d ∷ ds) (b ∷ bs) (d' ∷ ds') [] e f h = absurd (omega arith)
more_flow_less_quota M Q Q' q (d ∷ ds) (b ∷ bs) (d' ∷ ds') (b' ∷ bs') e f h =
    more_flow_less_quota M (Q - taking M Q d b) (Q' - taking M Q' d' b') (leaves_less M d b d' b' q (h 0)) ds bs ds' bs' (omega arith) (omega arith) (λ t. h (suc t))

-- a replay that is accepted, by its causes, and what it leaves
by_causes : (l : Licence) (days base list : List ℕ) {left : ℕ} → licence_outcome l days base list ≡ accepted left → (first_cause (licence_causes l days base list) ≡ none) × (listed_left l days base ≡ left)
unfolding licence_outcome
by_causes l days base list h = outcome_was_accepted (licence_causes l days base list) _ h

left_there : (l : Licence) (days base list : List ℕ) → first_cause (licence_causes l days base list) ≡ none → licence_leaves l days base list ≡ listed_takings l days base
unfolding licence_leaves
left_there l days base list e = leaves_accepted _ _ _ e

-- A replay that is accepted ..
module _ (l : Licence) (days base list : List ℕ) {left : ℕ} (h : licence_outcome l days base list ≡ accepted left) where
  accepts : first_cause (licence_causes l days base list) ≡ none
  accepts = (by_causes l days base list h).0

  kept : Kept l days base (licence_leaves l days base list) left
  kept = replay_kept l days base list accepts _ (left_there l days base list accepts) _ (sym (by_causes l days base list h).1)

  pub takings_and_left : sum (licence_leaves l days base list) + left ≡ l.quota
  takings_and_left = kept.takings_and_left

  pub days_kept : (t : ℕ) → DayKept l.daily_limit (get_or (map day_of days) t none) (get_or (map base_of base) t none) (get_or (licence_leaves l days base list) t 0)
  days_kept = kept.each_day

  -- .. and a second one with the quota that it returned
  abbrev rest : Licence
  rest = record { daily_limit = l.daily_limit; quota = left }

  module _ (days' base' list' : List ℕ) {left' : ℕ} (h' : licence_outcome rest days' base' list' ≡ accepted left') where
    ready : Ready days base list
    ready = replay_ready l days base list accepts

    second : (first_cause (licence_causes rest days' base' list') ≡ none) × (listed_left rest days' base' ≡ left')
    second = by_causes rest days' base' list' h'

    -- as one replay: its causes, its takings and the quota left
    one_accepts : length (days ++ days') ≤ day_limit → first_cause (licence_causes l (days ++ days') (base ++ base') (list ++ list')) ≡ none
    unfolding licence_causes
    one_accepts few =
        let p = passed (licence_causes l days base list) accepts in
        let p' = passed (licence_causes rest days' base' list') second.0 in
        let ready' = replay_ready rest days' base' list' second.0 in
        simp (
          p 31,
          not_too_long (days ++ days') few,
          not_different (days ++ days') (base ++ base') (omega (arith, ready.same_base, length-append {A = ℕ})),
          not_different (days ++ days') (list ++ list') (omega (arith, ready.same_takings, length-append {A = ℕ})),
          any_append days days' ∙ ap₂ (λ b c. b || c) (p 10) (p' 10),
          valid_append days base days' base' ready.same_base (p 20) (p' 20),
        )

    one_replays : (listed_takings l (days ++ days') (base ++ base') ≡ listed_takings l days base ++ listed_takings rest days' base') × (listed_left l (days ++ days') (base ++ base') ≡ listed_left rest days' base')
    unfolding listed_takings listed_left
    one_replays =
        let e = (by_causes l days base list h).1 in
        rw (map-append day_of days days', map-append base_of base base', ← e)
        (front_then_rest l.daily_limit l.quota (map day_of days) (map base_of base) (simp length-map ready.same_base) (map day_of days') (map base_of base'))

    pub in_parts : length (days ++ days') ≤ day_limit
        → (licence_outcome l (days ++ days') (base ++ base') (list ++ list') ≡ accepted left')
        × (licence_leaves l (days ++ days') (base ++ base') (list ++ list') ≡ licence_leaves l days base list ++ licence_leaves rest days' base' list')
    unfolding licence_outcome
    in_parts few =
        let a = one_accepts few in (
          outcome_accepted (licence_causes l (days ++ days') (base ++ base') (list ++ list')) _ a ∙ ap accepted (one_replays.1 ∙ second.1),
          left_there l (days ++ days') (base ++ base') (list ++ list') a ∙ one_replays.0 ∙ sym (ap₂ (λ a b. a ++ b) (left_there l days base list accepts) (left_there rest days' base' list' second.0)),
        )
