-- `presence::mark_missing` meets its contract.
use Rattle.std.proofs.Common.{◌≡◌, length}
use Rattle.presence.proofs.Words.{PutTo}
use Rattle.presence.specs.Form.{word_count, days_of}
use Rattle.presence.proofs.mark_missing.Given as goal

abbrev pub invariant-loop-k : goal.invariant-loop-k
invariant-loop-k l = record { same_length : length l.words ≡ word_count (length l.days); put : PutTo l.words l.days (days_of l.fn.days l.words) l.k }
