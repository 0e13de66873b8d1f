-- `accuracy::over_days` meets its contract: the part of the base list that the days need is lent on and comes back.
use mathlib.Core.Path.{sym, ◌∙◌, ap}
use Rattle.std.proofs.Common.{rules}
use Rattle.series.specs.Causes.{refusal_of}
use Rattle.accuracy.proofs.OneRun.{left_in_base, over_refused, over_accepted}
use Rattle.accuracy.proofs.over_days.Goals as goal

pub returns-in_err-base_flow-clause-result_value : goal.returns-in_err-base_flow-clause-result_value
returns-in_err-base_flow-clause-result_value c =
    let s = c.args in
    let f = c.base_flow.ensures in
    let refused_here = over_refused s.choice s.days.now s.base.now c.min-n.ensures f.base_after (sym (ap refusal_of c.in_err-base_flow.was) ∙ f.result_value) in
    search rules

pub returns-in_err-base_flow-clause-base_after : goal.returns-in_err-base_flow-clause-base_after
returns-in_err-base_flow-clause-base_after c = left_in_base c.args.choice c.args.days.now c.args.base.now c.min-n.ensures c.base_flow.ensures.base_after

pub returns-clause-result_value : goal.returns-clause-result_value
returns-clause-result_value c =
    let s = c.args in
    let f = c.base_flow in
    over_accepted s.choice s.days.now s.base.now c.min-n.ensures f.ensures.base_after f.auto.base (sym (ap refusal_of c.in_ok-base_flow.was) ∙ f.ensures.result_value) c.total.ensures

pub returns-clause-base_after : goal.returns-clause-base_after
returns-clause-base_after c = left_in_base c.args.choice c.args.days.now c.args.base.now c.min-n.ensures c.base_flow.ensures.base_after
