-- `presence::word` meets its contract.
use Rattle.std.proofs.Common.{◌≡◌, drop}
use Rattle.presence.specs.Form.{word_of}
use Rattle.presence.proofs.word.Given as goal

abbrev pub invariant-loop-i : goal.invariant-loop-i
invariant-loop-i l = l.word ≡ word_of (drop l.i l.days)
