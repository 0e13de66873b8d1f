-- `totals::total` meets its contract: valid lists have no more base than flow.
use Rattle.totals.proofs.Outcomes.{sums_below}
use Rattle.totals.proofs.total.Goals as goal

pub totals-requires : goal.totals-requires
totals-requires c = sums_below _ _ _ c.in_ok-tally.ensures
