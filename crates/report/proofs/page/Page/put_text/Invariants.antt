-- `put_text` of a page meets its contract: what is left of the text leads to the end that all of it leads to.
use lib.ListN.{drop}
use Rattle.report.proofs.Paging.{Left}
use Rattle.report.proofs.page.Page.put_text.Given as goal

abbrev pub invariant-loop-character : goal.invariant-loop-character
invariant-loop-character l = Left (drop l.character-index l.characters) l.self l.characters l.initial.self
