-- `presence::put_words` meets its contract.
use Rattle.std.proofs.Common.{◌≡◌, ◌-◌, ◌*◌, ◌++◌, length, take, drop}
use Rattle.presence.specs.Form.{words_for, words_of}
use Rattle.presence.proofs.put_words.Given as goal

abbrev pub invariant-loop-k : goal.invariant-loop-k
invariant-loop-k l = take l.k l.words ++ words_for (length l.words - l.k) (drop (64 * l.k) l.days) ≡ words_of l.days
