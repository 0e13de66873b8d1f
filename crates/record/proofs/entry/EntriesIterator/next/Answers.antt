-- `next` of the entries meets its contract: at the position behind an entry begin the bytes behind it.
use mathlib.Core.Path.{sym}
use lib.ListN.{length}
use borrow.Author.Rules.{rules}
use borrow.Author.Tests.{ltb-true}
use Rattle.record.proofs.Fronts.{from_here, behind_here}
use Rattle.record.proofs.entry.EntriesIterator.next.Goals as goal

pub returns-clause-steps : goal.returns-clause-steps
returns-clause-steps c =
    let s = c.args.self.now in
    let inside = ltb-true s.at (length s.bytes.now) (sym c.in_ok-get.ensures.lookup.0) in
    rw (from_here s.bytes.now s.at inside, behind_here s.bytes.now s.at c.body_len.result) (search rules)
