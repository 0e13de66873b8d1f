-- `presence::mark_zeros` meets its contract.
use Rattle.std.proofs.Common.{arith}
use Rattle.presence.proofs.Zeros.{room_above, next_zero, mark_turn, mark_end}
use Rattle.presence.proofs.mark_zeros.Goals as goal

pub overflow_add-rest : goal.overflow_add-rest
overflow_add-rest c = record { fits = room_above c.loop-days.rest c.loop-days.auto.rest-fits.fits (omega (arith, c.requires, c.loop-days.auto.days, c.lowest_zero.ensures, c.loop-days-test.true)) }

pub loop-days-smaller : goal.loop-days-smaller
loop-days-smaller c = next_zero c.loop-days.rest c.loop-days.auto.rest-fits.fits (omega (arith, c.requires, c.loop-days.auto.days, c.lowest_zero.ensures, c.loop-days-test.true))

pub loop-days-preserved : goal.loop-days-preserved
loop-days-preserved c = mark_turn c.loop-days.days _ c.loop-days.rest c.lowest_zero-in-loop-days.result c.lowest_zero-in-loop-days.ensures c.loop-days.auto.rest-fits.fits (omega (arith, c.lowest_zero.ensures, c.loop-days-test.true)) (omega (arith, c.requires, c.loop-days.auto.days)) c.loop-days.invariant

pub returns : goal.returns
returns c = mark_end c.loop-days.days _ c.loop-days.rest c.loop-days.auto.rest-fits.fits (omega (arith, c.lowest_zero.ensures, c.loop-days-test.false)) c.loop-days.invariant
