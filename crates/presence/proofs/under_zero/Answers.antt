-- `presence::under_zero` meets its contract.
use Rattle.std.proofs.Common.{sym, arith}
use Rattle.presence.proofs.Zeros.{room_above, next_zero, under_turn, under_end}
use Rattle.presence.proofs.under_zero.Goals as goal

pub overflow_add-rest : goal.overflow_add-rest
overflow_add-rest c = record { fits = room_above c.loop-found.rest c.loop-found.auto.rest-fits.fits (omega (arith, c.requires, c.lowest_zero.ensures, c.loop-found-test.true)) }

pub loop-found-smaller : goal.loop-found-smaller
loop-found-smaller c = next_zero c.loop-found.rest c.loop-found.auto.rest-fits.fits (omega (arith, c.requires, c.lowest_zero.ensures, c.loop-found-test.true))

pub loop-found-preserved : goal.loop-found-preserved
loop-found-preserved c = under_turn c.args.flows.now c.loop-found.rest c.lowest_zero-in-loop-found.result c.loop-found.found _ c.lowest_zero-in-loop-found.ensures c.loop-found.auto.rest-fits.fits (omega (arith, c.lowest_zero.ensures, c.loop-found-test.true, c.lowest_zero-in-loop-found.ensures)) c.requires c.loop-found.invariant

pub returns : goal.returns
returns c = sym (under_end c.args.flows.now c.loop-found.rest _ _ c.loop-found.auto.rest-fits.fits (omega (arith, c.lowest_zero.ensures, c.loop-found-test.false)) c.loop-found.invariant)
