-- `licence::replay` meets its contract: what is put and returned keeps to its promises.
use Rattle.series.proofs.Refusing.{decided_accepted}
use Rattle.licence.proofs.Calls.{replay_kept}
use Rattle.licence.proofs.replay.Goals as goal

pub returns-clause-promises : goal.returns-clause-promises
returns-clause-promises c = replay_kept _ _ _ _ (decided_accepted c.check.ensures c.in_ok-check.was) _ c.put_takings.ensures.list _ c.put_takings.ensures.left
