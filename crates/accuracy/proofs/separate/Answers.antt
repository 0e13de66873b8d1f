-- `accuracy::separate` meets its contract: reading, then the chosen call and the totals over the days that were read; and it
-- carries demand 3.
use mathlib.Core.Path.{sym, ◌∙◌, ap}
use Rattle.series.specs.Causes.{outcome_of}
use Rattle.accuracy.proofs.OneRun.{all_read}
use Rattle.accuracy.proofs.separate.Goals as goal

pub returns-clause-demand_3 : goal.returns-clause-demand_3
returns-clause-demand_3 c =
    let s = c.args in
    (all_read s.bytes.now s.choice s.days.now s.base.now c.in_ok-first_day.field-0.first_day c.in_ok-first_day.field-0.day_count (sym (ap outcome_of c.in_ok-first_day.was) ∙ c.read.ensures.answer) c.read.ensures.list c.over_days-base_flow.result c.over_days-base_flow.ensures.result_value c.over_days-base_flow.ensures.base_after).1
