-- `record::checks::check_days` meets its contract: what all bytes come to is the days counted so far, and then what the
-- bytes that are left come to.
use mathlib.Core.Path.{sym, ◌∙◌, ap}
use lib.ListN.{length}
use Rattle.std.proofs.lemmas.Result.{err_from_is_err_and}
use Rattle.series.specs.Causes.{accepted, map_outcome}
use Rattle.record.proofs.Walk.{stopped, refused_step, next_step, finished}
use Rattle.record.proofs.checks.check_days.Goals as goal

pub returns-in_err-counted : goal.returns-in_err-counted
returns-in_err-counted c =
    let l = c.loop-entry.invariant in
    let p = err_from_is_err_and c.from_residual.result c.from_residual.ensures.1 in
    rw (p.1, p.2) (sym (ap (map_outcome length) (refused_step l.walk (rw l.here at c.in-Some.ensures.steps) c.in_err-counted.ensures.causes)))

pub loop-entry-preserved : goal.loop-entry-preserved
loop-entry-preserved c =
    let l = c.loop-entry.invariant in
    record {
      walk = next_step l.walk (rw l.here at c.in-Some.ensures.steps) c.in_ok-counted.ensures.causes c.in_ok-counted.ensures.counted;
      here = c.in-Some.ensures.steps.2;
    }

pub returns-in_err-check_entry : goal.returns-in_err-check_entry
returns-in_err-check_entry c =
    let p = err_from_is_err_and c.from_residual-in_err-check_entry.result c.from_residual-in_err-check_entry.ensures.1 in
    rw (p.1, p.2) (sym (ap (map_outcome length) (stopped c.loop-entry.invariant.walk (sym c.in_err-check_entry.ensures.causes))))

pub returns : goal.returns
returns c =
    let l = c.loop-entry.invariant in
    sym (ap (map_outcome length) (finished l.walk c.in_ok-check_entry.ensures.causes (rw l.here at c.in-None.ensures.steps)) ∙ ap accepted l.walk.counted)
