-- `filter::usable::Filter::backward_pass` meets its contract: the forward run of the list turned round, and back.
use Rattle.std.proofs.Common.{◌∙◌, ap, reverse}
use Rattle.filter.specs.Methods.{weights}
use Rattle.filter.specs.Private.{forward_run, backward_run}
use Rattle.filter.proofs.Turns.{small_reverse}
use Rattle.filter.proofs.usable.Filter.backward_pass.Goals as goal

pub forward_pass-requires : goal.forward_pass-requires
forward_pass-requires c = rw c.reverse.ensures.after (small_reverse _ c.requires)

pub returns : goal.returns
unfolding backward_run
returns c = (
  c.reverse-2.ensures.after ∙ ap reverse (c.forward_pass.ensures.0 ∙ ap (forward_run (weights c.args.self.setting)) c.reverse.ensures.after),
  rw c.reverse-2.ensures.after (small_reverse _ c.forward_pass.ensures.1),
)
