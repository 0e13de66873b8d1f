-- `recession::at_rank` meets its contract: the counts below v are left, and leave the rank below them.
use Rattle.std.proofs.Common.{◌≡◌}
use Rattle.recession.proofs.Cumulative.{Reached}
use Rattle.recession.proofs.tally.at_rank.Given as goal

abbrev pub invariant-loop-v : goal.invariant-loop-v
invariant-loop-v l =
    (l.v-iterator.iter.n ≡ 1) × (l.v-iterator.iter.iter.count ≡ 0) × Reached l.counts l.rank l.v-iterator.iter.iter.iter.rest.now l.reached
