-- A call over the second form of days (docs/RULES.md, "Presence") is the call over the days that the form stands for. Its causes
-- of refusal are those of the call over the days, in their order, with 28 just before 10, which is asked of the form.
use Rattle.std.specs.Prelude.{ℕ, Bool, cond, List, [], ◌∷◌, eqb}
use Rattle.series.specs.Causes.{Cause, cause}
use Rattle.presence.specs.Form.{is_invalid_form, is_invalid_flow}

unfoldable pub with_28 : (invalid_form invalid_flow : Bool) → List Cause → List Cause
with_28 form flow [] = []
with_28 form flow (c ∷ cs) = cond (eqb c.number 10) (cause form 28 ∷ cause flow 10 ∷ cs) (c ∷ with_28 form flow cs)

-- the causes of a call over a form, by those over its days
unfoldable pub over_form : (flows words : List ℕ) → List Cause → List Cause
unfolding with_28
over_form flows words causes = with_28 (is_invalid_form flows words) (is_invalid_flow flows words) causes
