-- `recession::tally_limbs` meets its contract: what is tallied, and what is left from `at` on, add up to the whole.
use native.Mathlib.Omega.{arith}
use Rattle.std.proofs.lemmas.Result.{err_from_is_err_and}
use Rattle.recession.proofs.Tallying.{walked_start, walked_done, walked_refused, pairs_fit, cell_fits, tally_fits, walked_next}
use Rattle.recession.proofs.tally.tally_limbs.Goals as goal

pub loop-limb-init : goal.loop-limb-init
loop-limb-init c = walked_start _ _ _ _ _ _ c.told-lengths c.requires.lengths_zero c.told-firsts

pub returns-in_err-limb : goal.returns-in_err-limb
returns-in_err-limb c =
    let p = err_from_is_err_and c.from_residual.result c.from_residual.ensures.1 in rw (p.1, p.2) (walked_refused c.loop-limb.invariant c.in_err-limb.ensures)

pub tally_pairs-requires-clause-by_index : goal.tally_pairs-requires-clause-by_index
tally_pairs-requires-clause-by_index c =
    pairs_fit c.loop-limb.invariant c.args.limbs.now.few_days (rw c.in-Some.is at c.in_ok-limb.ensures) c.requires.counts_zero

pub overflow_add-lengths : goal.overflow_add-lengths
overflow_add-lengths c =
    omega (arith, cell_fits c.loop-limb.invariant c.args.limbs.now.few_days (rw c.in-Some.is at c.in_ok-limb.ensures) c.args.limbs.now.two_days c.requires.lengths_zero)

pub offset_bounds-firsts-found : goal.offset_bounds-firsts-found
offset_bounds-firsts-found c = omega (arith, tally_fits c.loop-limb.invariant c.args.limbs.now.few_days (rw c.in-Some.is at c.in_ok-limb.ensures) c.args.limbs.now.two_days)

pub bounds-firsts-found : goal.bounds-firsts-found
bounds-firsts-found c = omega (arith, tally_fits c.loop-limb.invariant c.args.limbs.now.few_days (rw c.in-Some.is at c.in_ok-limb.ensures) c.args.limbs.now.two_days)

pub overflow_add-found : goal.overflow_add-found
overflow_add-found c = omega (arith, tally_fits c.loop-limb.invariant c.args.limbs.now.few_days (rw c.in-Some.is at c.in_ok-limb.ensures) c.args.limbs.now.two_days)

pub overflow_add-found-in-Some : goal.overflow_add-found-in-Some
overflow_add-found-in-Some c = omega (arith, tally_fits c.loop-limb.invariant c.args.limbs.now.few_days (rw c.in-Some.is at c.in_ok-limb.ensures) c.args.limbs.now.two_days)

pub loop-limb-smaller : goal.loop-limb-smaller
loop-limb-smaller c = let l = rw c.in-Some.is at c.in_ok-limb.ensures in omega (arith, l.onward, l.forward, l.inside)

pub loop-limb-preserved : goal.loop-limb-preserved
loop-limb-preserved c =
    rw c.max.ensures (walked_next c.loop-limb.invariant c.args.limbs.now.few_days (rw c.in-Some.is at c.in_ok-limb.ensures) c.args.limbs.now.two_days c.told-lengths c.tally_pairs.ensures)

pub returns : goal.returns
returns c = walked_done c.loop-limb.invariant (rw c.in_default.is at c.in_ok-limb.ensures)
