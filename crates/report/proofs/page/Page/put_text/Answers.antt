-- `put_text` of a page meets its contract: what is left of the text leads to the end that all of it leads to.
use lib.ListN.{drop_of_length-le}
use Rattle.report.proofs.Paging.{turned, ended, next_character}
use Rattle.report.proofs.page.Page.put_text.Goals as goal

pub loop-character-preserved : goal.loop-character-preserved
loop-character-preserved c = turned (next_character c.args.characters.now c.loop-character.character-index c.loop-character-test.true) c.put.ensures c.loop-character.invariant

pub returns : goal.returns
returns c = ended (drop_of_length-le c.args.characters.now c.loop-character-test.false) c.loop-character.invariant
