-- `baseflow::baseflow_step` meets its contract.
use mathlib.Core.Path.{◌≡◌, sym, ◌∙◌, ap}
use Rattle.std.proofs.Common.{rules}
use Rattle.series.proofs.Views.{mark_seen}
use Rattle.filter.specs.Call.{step_rule, outcome_of}
use Rattle.baseflow.specs.Interface.{setting_of, state_of, value_out}
use Rattle.baseflow.proofs.baseflow_step.Goals as goal

pub returns-in-Ok-clause-value_after : goal.returns-in-Ok-clause-value_after
returns-in-Ok-clause-value_after c =
    let a = c.args in
    let stepped : outcome_of c.step.result ≡ step_rule (setting_of a.method a.p a.q a.s) (state_of a.has_yesterday.now a.flow.now a.base.now) a.day = search rules in
    sym (mark_seen _) ∙ ap (λ o. value_out o a.value.now) (sym (ap outcome_of c.in-Ok.is) ∙ stepped)
