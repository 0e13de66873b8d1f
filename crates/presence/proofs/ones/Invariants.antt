-- `presence::ones` meets its contract.
use Rattle.std.proofs.Common.{◌≡◌, ◌*◌, ◌≤◌, take}
use Rattle.presence.specs.Call.{ones_in}
use Rattle.presence.proofs.ones.Given as goal

abbrev pub invariant-loop-word : goal.invariant-loop-word
invariant-loop-word l = (l.ones ≡ ones_in (take l.word-index l.words)) × (l.ones ≤ 64 * l.word-index)
