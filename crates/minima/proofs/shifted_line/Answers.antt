-- `minima::shifted_line` meets its contract: the lines are drawn from the first segment that has one.
use mathlib.Core.Path.{◌∙◌, ap}
use Rattle.minima.specs.Call.{line_list}
use Rattle.minima.proofs.shifted_line.Goals as goal

pub returns : goal.returns
returns c = c.draw.ensures ∙ ap (λ B. line_list B c.args.days.now) c.blocks_at-blocks.ensures
