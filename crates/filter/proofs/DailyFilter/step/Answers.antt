-- `filter::DailyFilter::step` meets its contract: what its check found, and the day behind it.
use Rattle.std.proofs.Common.{sym, subst}
use Rattle.filter.proofs.Calls.{StepAccepts, step_accepted, hands_back, stepped}
use Rattle.filter.proofs.Days.{Advance}
use Rattle.filter.proofs.DailyFilter.step.Goals as goal
use Rattle.filter.proofs.DailyFilter.step.Goals.{In-Ok}

accepts : (c : In-Ok) → StepAccepts c.args.setting c.args.self c.args.day
accepts c = step_accepted _ _ _ (sym c.in-Ok.ensures.refusal)

pub advance-requires : goal.advance-requires
advance-requires c = ((accepts c).valid_state, (accepts c).valid_day)

pub returns-in-Ok : goal.returns-in-Ok
returns-in-Ok c =
    let d = c.args in
    let a : Advance c.in-Ok.filter.setting d.self d.day c.advance.result.state c.advance.result.base = (c.advance.ensures.state_value, c.advance.ensures.next_yesterday) in
    stepped _ _ _ (accepts (goal.at.returns-in-Ok c).In-Ok) (subst (λ s. Advance s d.self d.day c.advance.result.state c.advance.result.base) c.in-Ok.ensures.of_setting a)

pub returns-in-Err : goal.returns-in-Err
returns-in-Err c = sym (hands_back _ _ _ (sym c.in-Err.ensures.refusal))
