-- `recession::ratios` meets its contract: a check that refuses decides; else the histogram has the ratios, its cumulative
-- counts find the median, and the limbs are listed, each at the place that the longer ones leave it.
use native.Mathlib.Omega.{arith}
use Rattle.std.proofs.lemmas.Result.{err_from_is_err_and}
use Rattle.recession.proofs.Outcomes.{all_zero, Checked, checked, refused_by_days, refused_by_base, refused_by_limbs, accepts, limbs_fit, lengths_fit, places_found, starts_noted, ratios_fit, rank_fits, out_ratios, out_list}
use Rattle.recession.proofs.ratios.Goals as goal
use Rattle.recession.proofs.ratios.Goals.{In_ok-check, In_ok-found, In_ok-check_limbs}

-- what the first check leaves, what the walk finds, and what the second check leaves
ok : (c : In_ok-check) → Checked c.args.shortest c.args.days.now c.args.base.now
ok c = checked _ _ _ c.in_ok-check.ensures

pub returns-in_err-check : goal.returns-in_err-check
returns-in_err-check c =
    let p = err_from_is_err_and c.from_residual.result c.from_residual.ensures.1 in
    let both = refused_by_days _ _ _ _ c.in_err-check.ensures in
    record { answer = rw (p.1, p.2) both.0; limb_list = both.1 }

pub invariant_of-counted : goal.invariant_of-counted
invariant_of-counted c = let k = ok c in record { two_days = k.two; few_days = k.few; as_long = k.as_long }

pub tally_limbs-requires : goal.tally_limbs-requires
tally_limbs-requires c = record { counts_zero = all_zero 10001; lengths_zero = all_zero 36526 }

pub returns-in_err-found : goal.returns-in_err-found
returns-in_err-found c =
    let p = err_from_is_err_and c.from_residual-in_err-found.result c.from_residual-in_err-found.ensures.1 in
    let both = refused_by_base (ok (goal.at.returns-in_err-found c).In_ok-check) _ c.in_err-found.ensures in
    record { answer = rw (p.1, p.2) both.0; limb_list = both.1 }

pub check_limbs-requires : goal.check_limbs-requires
check_limbs-requires c = omega (arith, limbs_fit (ok (goal.at.check_limbs-requires c).In_ok-check) c.in_ok-found.ensures)

pub returns-in_err-check_limbs : goal.returns-in_err-check_limbs
returns-in_err-check_limbs c =
    let p = err_from_is_err_and c.from_residual-in_err-check_limbs.result c.from_residual-in_err-check_limbs.ensures.1 in
    let both = refused_by_limbs (ok (goal.at.returns-in_err-check_limbs c).In_ok-check) c.in_ok-found.ensures _ c.in_err-check_limbs.ensures in
    record { answer = rw (p.1, p.2) both.0; limb_list = both.1 }

pub count_longer-requires : goal.count_longer-requires
count_longer-requires c =
    record { longest_fits = lengths_fit (ok (goal.at.count_longer-requires c).In_ok-check) c.in_ok-found.ensures; by_index = c.in_ok-found.ensures.measured.none_longer }

pub slice_bounds-firsts-end : goal.slice_bounds-firsts-end
slice_bounds-firsts-end c = omega (arith, limbs_fit (ok (goal.at.slice_bounds-firsts-end c).In_ok-check) c.in_ok-found.ensures)

pub slice_bounds-list_limbs-end : goal.slice_bounds-list_limbs-end
slice_bounds-list_limbs-end c =
    omega (arith, starts_noted (ok (goal.at.slice_bounds-list_limbs-end c).In_ok-check) c.in_ok-found.ensures c.tally_limbs.array_long3, limbs_fit (ok (goal.at.slice_bounds-list_limbs-end c).In_ok-check) c.in_ok-found.ensures)

pub list_limbs-requires : goal.list_limbs-requires
list_limbs-requires c =
    let k = ok (goal.at.list_limbs-requires c).In_ok-check in
    let a = accepts c.in_ok-found.found c.in_ok-check_limbs.ensures in
    let n = starts_noted k c.in_ok-found.ensures c.tally_limbs.array_long3 in
    record {
      noted = record { size = n.0; each = n.1 };
      room = omega (arith, n.0, limbs_fit k c.in_ok-found.ensures, a.fits);
      placed = places_found k c.in_ok-found.ensures c.count_longer.ensures;
    }

pub overflow_cast-count : goal.overflow_cast-count
overflow_cast-count c = omega (arith, ratios_fit (ok (goal.at.overflow_cast-count c).In_ok-check) c.in_ok-found.ensures)

pub overflow_add-rank : goal.overflow_add-rank
overflow_add-rank c = omega (arith, ratios_fit (ok (goal.at.overflow_add-rank c).In_ok-check) c.in_ok-found.ensures)

pub at_rank-median-requires : goal.at_rank-median-requires
at_rank-median-requires c =
    let a = accepts c.in_ok-found.found c.in_ok-check_limbs.ensures in rank_fits (ok (goal.at.at_rank-median-requires c).In_ok-check) c.in_ok-found.ensures a.some_ratio

pub returns : goal.returns
returns c =
    let k = ok (goal.at.returns c).In_ok-check in
    let a = accepts c.in_ok-found.found c.in_ok-check_limbs.ensures in
    record { answer = out_ratios k c.in_ok-found.ensures _ a c.at_rank-median.ensures; limb_list = out_list k c.in_ok-found.ensures _ a c.list_limbs.ensures }
