-- `put_record` of a page meets its contract: the lists that the run filled are what the text shows.
use mathlib.Core.Path.{◌≡◌}
use Rattle.std.specs.Prelude.{Ok, Err}
use Rattle.report.proofs.Paging.{as_text}
use Rattle.report.proofs.Running.{never_refused, shown}
use Rattle.report.proofs.page.Page.put_record.Goals as goal

pub returns-in-Ok-Ok : goal.returns-in-Ok-Ok
returns-in-Ok-Ok c =
    let k = c.in-Ok-Ok in
    let run = c.separate in
    let e : k.field-0.base_flow ≡ Ok k.totals = cc in
    as_text (shown _ c.choice.ensures (run.ensures.equals, run.ensures.demand_3) k.is e) c.put_table.ensures

pub returns-in-Ok-Err : goal.returns-in-Ok-Err
returns-in-Ok-Err c =
    let k = c.in-Ok-Err in
    let run = c.separate in
    let e : k.field-0.base_flow ≡ Err k.refusal = cc in
    absurd (never_refused c.args.bytes.now c.choice.ensures (run.ensures.equals, run.ensures.demand_3) k.is e)
