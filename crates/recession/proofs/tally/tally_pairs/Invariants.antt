-- `recession::tally_pairs` meets its contract: the pairs before the rest of the limb are counted.
use Rattle.recession.proofs.Counting.{Counting}
use Rattle.recession.proofs.tally.tally_pairs.Given as goal

abbrev pub invariant-loop-pair : goal.invariant-loop-pair
invariant-loop-pair l = Counting l.limb l.pair-iterator.rest.now l.pair-iterator.size l.initial.counts l.counts
