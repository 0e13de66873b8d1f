-- `recession::run_end` meets its contract: a day at base whose flow is below the last goes on the fall.
use mathlib.Core.Path.{◌≡◌, ◌∙◌}
use lib.ListN.{get_or}
use Rattle.series.specs.Units.{missing_mark}
use native.Mathlib.Omega.{arith}
use Rattle.recession.proofs.Days.{seen_by_test}
use Rattle.recession.proofs.Walk.{falls_on, valid_on}
use Rattle.recession.proofs.limbs.Limbs.run_end.Goals as goal

pub loop-end-preserved : goal.loop-end-preserved
loop-end-preserved c =
    let same = c.args.self.now.as_long in
    let inside = c.loop-end-test.true in
    let days = c.args.self.now.days.now in
    let day = get_or days c.loop-end.end 0 in
    let present : day ≡ missing_mark → ⊥ = λ m. absurd (omega (arith, m, c.loop-end.invariant.number)) in
    let seen = seen_by_test day (get_or c.args.self.now.base.now c.loop-end.end 0) (omega arith) present in
    let on = falls_on _ _ _ _ same inside seen c.if-last-flow.false in
    let l = c.loop-end.invariant.fallen in
    record { fallen = record { after = omega (arith, l.after); inside = omega arith; still = omega (arith, l.still, on); tests = l.tests ∙ valid_on _ _ _ same inside seen }; number = omega (arith, c.loop-end.invariant.number) }
