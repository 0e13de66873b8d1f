-- `put` of a page meets its contract.
use mathlib.Core.Path.{refl}
use Rattle.report.proofs.Paging.{put_here, put_nowhere}
use Rattle.report.proofs.page.Page.put.Goals as goal

pub returns-then-self : goal.returns-then-self
returns-then-self c = record { adds = put_here _ _ _ c.if-self.true; same_buffer = refl }

pub returns-else-self : goal.returns-else-self
returns-else-self c = record { adds = put_nowhere _ _ _ c.if-self.false; same_buffer = refl }
