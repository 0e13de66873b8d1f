-- `no_lines` of the shifts meets its contract: the test of all shifts.
use mathlib.Core.Path.{refl, ◌∙◌, ap}
use native.Mathlib.Omega.{arith}
use Rattle.std.proofs.Common.{rules}
use Rattle.std.specs.List.{list_all}
use Rattle.std.proofs.lemmas.Iterator.{YieldsList-from_range}
use Rattle.std.proofs.lemmas.Iterator.Search.{all_from_yields_List}
use Rattle.staggered.specs.Call.{no_lines}
use Rattle.staggered.proofs.Loops.{counted}
use Rattle.staggered.proofs.Shifts.no_lines.Goals as goal

pub returns : goal.returns
unfolding no_lines
returns c =
    all_from_yields_List _ c.all.new.self _ c.all.result c.all.ensures.ran (YieldsList-from_range 0 c.args.self.now.setting.block_days c.args.self.now.setting.block_days refl (omega arith)) (λ x b q k. (search rules, search rules))
    ∙ ap (list_all _) (counted 0 c.args.self.now.setting.block_days)
