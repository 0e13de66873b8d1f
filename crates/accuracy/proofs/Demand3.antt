-- THE THEOREM: document 01's demand 3, from the bytes to the index.
-- Assumes nothing.
use Prim.Native.Nat.{ℕ}
use mathlib.Core.Path.{◌≡◌, ◌∙◌, ap}
use mathlib.Core.Bool.{false}
use mathlib.Core.List.{List, map}
use mathlib.Core.Option.{none}
use lib.ListN.{length, take, length-map}
use lib.Seq.{take_at}
use Rattle.numbers.specs.Lists.{Each}
use Rattle.numbers.proofs.Quantities.{Reads, reads_half}
use Rattle.series.specs.Units.{day_of, base_mark}
use Rattle.series.specs.Causes.{first_cause, accepted, map_outcome}
use Rattle.series.specs.Lists.{too_long, any_invalid_day}
use Rattle.series.specs.Agreement.{Agree}
use Rattle.series.proofs.Agreeing.{agreed_length}
use Rattle.series.proofs.Refusing.{outcome_accepted, leaves_accepted}
use Rattle.record.proofs.Accepting.{stated_first}
use Rattle.filter.specs.declared.Setting.{Setting}
use Rattle.filter.specs.declared.start.Start.{Start}
use Rattle.filter.specs.declared.start.Start.TheVariants.{Usual}
use Rattle.filter.specs.Call.{filter_causes}
use Rattle.filter.proofs.Calls.{filter_accepted, one_pass, usual_start}
use Rattle.filter.proofs.Distance.{reads_filter_limit}
use Rattle.filter.proofs.Sentences.{distance, steps_give_pass_1}
use Rattle.minima.specs.declared.LineSetting.{LineSetting}
use Rattle.minima.specs.Call.{blocks_of, line_causes}
use Rattle.minima.proofs.Acceptance.{line_accepted}
use Rattle.minima.proofs.Distance.{line_distance}
use Rattle.totals.proofs.Distance.{totals_within}
use Rattle.accuracy.specs.declared.Choice.{Choice}
use Rattle.accuracy.specs.declared.Choice.TheVariants.{Filter, Line}
use Rattle.accuracy.specs.Choosing.{chosen_causes, chosen_limit, rounded_base, exact_base, base_list}
use Rattle.accuracy.specs.Call.{front, behind, base_flow_over, base_flow_leaves, separated, after_reading, run}
use Rattle.accuracy.specs.Claim.{ChosenSteps, Claim, Demand3}
use Rattle.accuracy.proofs.TotalsOfRuns.{refuses, accepts}

-- what the theorem needs of a choice whose call accepts the days
record Accepts (choice : Choice) (days : List ℕ) : Type 0 where
  few : too_long days ≡ false
  valid : any_invalid_day days ≡ false
  agreement : Each (Agree (chosen_limit choice)) (map day_of days) (rounded_base choice days) (exact_base choice days)
  upper : ℕ
  lower : ℕ
  limit : Reads (chosen_limit choice) upper lower
  steps : ChosenSteps choice days

-- from what a choice gives, all of the claim
claimed : {choice : Choice} {days : List ℕ} → Accepts choice days → Claim choice days
claimed {choice} {days} s =
    record {
      each_day = s.agreement;
      totals = totals_within (chosen_limit choice) s.limit s.agreement;
      no_flow = refuses days s.few s.valid s.agreement;
      flow = accepts days s.few s.valid s.agreement;
      steps = s.steps;
    }

-- a filter
filter_claimed : (s : Setting) (n : ℕ) (from : Start) (days base : List ℕ) → first_cause (filter_causes s n from days base) ≡ none → Accepts (Filter s n from) days
filter_claimed s n from days base e =
    let a = filter_accepted s n from days base e in
    record {
      few = a.few;
      valid = a.valid;
      agreement = distance s n a.usable a.passes from (map day_of days) a.start;
      upper = _;
      lower = _;
      limit = reads_filter_limit a.usable n;
      steps = record { pass_1 = steps_give_pass_1 s a.usable days a.valid; distance = distance s 1 a.usable (one_pass s) Usual (map day_of days) (usual_start (map day_of days)) };
    }

-- a line
line_claimed : (s : LineSetting) (days base : List ℕ) → first_cause (line_causes s days base) ≡ none → Accepts (Line s) days
line_claimed s days base e =
    let a = line_accepted s days base e in
    record { few = a.few; valid = a.valid; agreement = line_distance (blocks_of s) (map day_of days); upper = 1; lower = 2; limit = reads_half; steps = tt }

-- a choice whose call accepts the days
claim_of : (choice : Choice) (days base : List ℕ) → first_cause (chosen_causes choice days base) ≡ none → Claim choice days
claim_of (Line s) days base h = claimed (line_claimed s days base h)
claim_of (Filter s n from) days base h = claimed (filter_claimed s n from days base h)

-- of every run
pub demand_3 : (bytes : List ℕ) (choice : Choice) (days base : List ℕ) → Demand3 (length days) bytes choice base (run bytes choice days base)
unfolding base_flow_over base_flow_leaves
demand_3 bytes choice days base stated e h =
    let ds = stated.days in
    let causes = chosen_causes choice ds (front ds base) in
    let claim = claim_of choice ds (front ds base) h in
    let full : length (base_list choice ds) ≡ length ds = length-map (rounded_base choice ds) base_mark ∙ agreed_length claim.each_day ∙ length-map ds day_of in
    record {
      days = ap (λ o. take (length ds) (after_reading o choice days base).days) e ∙ stated_first days stated;
      base = ap (λ o. take (length ds) (after_reading o choice days base).base) e ∙ ap (take (length ds)) (leaves_accepted causes _ base h) ∙ take_at (base_list choice ds) (behind ds base) (length ds) full;
      claim = claim;
      answer = ap (map_outcome (separated choice base)) e ∙ ap (λ b. accepted (record { first_day = stated.first_day; day_count = length ds; base_flow = b })) (outcome_accepted causes _ h);
    }
