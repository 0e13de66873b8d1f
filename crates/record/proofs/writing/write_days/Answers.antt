-- `record::writing::write_days` meets its contract: the days counted so far stand in the list, and no check can fail.
use mathlib.Core.Path.{sym, ◌∙◌}
use mathlib.Core.List.{[], ◌∷◌}
use native.Mathlib.Omega.{arith}
use lib.ListN.{length}
use Rattle.std.proofs.lemmas.List.Edits.{sets-eq}
use Rattle.record.proofs.WritingWalk.{begin_writing, flow_fits, flow_written, gap_written, all_written}
use Rattle.record.proofs.writing.write_days.Goals as goal
use Rattle.record.proofs.writing.write_days.Goals.{then-eq, else-eq}

pub loop-entry-init : goal.loop-entry-init
loop-entry-init c =
    rw (c.into_iter-entry-iterator.ensures.into_iter_gives, c.of-entry-items.ensures) (begin_writing c.args.bytes.now (length c.args.days.now) (c.fill.ensures.after (λ y e. e)))

pub bounds-days-counted : goal.bounds-days-counted
bounds-days-counted c =
    let h = flow_fits c.loop-entry.invariant c.requires c.in-Some.ensures.steps (sym c.eq.ensures ∙ c.if-eq.true) in omega (arith, h)

pub loop-entry-preserved : goal.loop-entry-preserved
loop-entry-preserved c =
    let l = c.loop-entry in
    let step = c.in-Some.ensures.steps in
    elim c.if-eq.branch [
      | then-eq w ↦ (
          let k = sym c.eq.ensures ∙ w.if-eq.true in
          let stored = sets-eq (c.in-Some.entry.value ∷ []) l.days l.counted (flow_fits l.invariant c.requires step k) in
          flow_written l.invariant c.requires step k c.day_count-counted.ensures (w.days-is ∙ stored))
      | else-eq w ↦ gap_written l.invariant c.requires step (sym c.eq.ensures ∙ w.if-eq.false) c.day_count-counted.ensures w.days-is
    ]

pub returns : goal.returns
returns c = all_written c.loop-entry.invariant c.requires c.in-None.ensures.steps
