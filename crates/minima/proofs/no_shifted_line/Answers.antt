-- `minima::no_shifted_line` meets its contract: a search for the first segment with a line finds none.
use mathlib.Core.List.{map}
use mathlib.Core.Path.{◌∙◌, ap}
use Rattle.series.specs.Units.{day_of}
use Rattle.minima.specs.Call.{no_line}
use Rattle.minima.proofs.AllSegments.{none_lined}
use Rattle.minima.proofs.no_shifted_line.Goals as goal

pub returns : goal.returns
returns c = none_lined _ _ _ _ c.next_lined.ensures c.is_none.ensures ∙ ap (λ B. no_line B (map day_of c.args.days.now)) c.blocks_at-blocks.ensures
