-- `report::report` meets its contract: the text fits the buffer.
use native.Mathlib.Omega.{arith}
use Rattle.report.proofs.Paging.{fits}
use Rattle.report.proofs.Sentences.{text_length}
use Rattle.report.proofs.report.Goals as goal

pub returns : goal.returns
returns c = let both = fits _ _ _ _ c.write.ensures (omega (arith, text_length c.args.bytes.now)) in record { length = both.0; text = both.1.0; fits = both.1.1 }
