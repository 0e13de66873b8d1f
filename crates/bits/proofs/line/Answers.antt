-- `bits::line` meets its contract: the minima line, over the days laid out.
use Rattle.std.proofs.Common.{rules}
use Rattle.minima.specs.Call.{blocks_of, line_list, line_leaves}
use Rattle.minima.proofs.Order.{line_at_10}
use Rattle.bits.specs.Calls.{line_bits_causes}
use Rattle.bits.proofs.OverForm.{answered, left_base}
use Rattle.bits.proofs.line.Goals as goal

pub returns-clause-refusal : goal.returns-clause-refusal
unfolding line_bits_causes
returns-clause-refusal c = answered (line_at_10 c.args.setting c.args.base.now) _ _ c.over_form.ensures.laid _ c.over_form.ensures.told (search rules)

pub returns-clause-base_list : goal.returns-clause-base_list
unfolding line_bits_causes line_leaves
returns-clause-base_list c = left_base (line_at_10 c.args.setting c.args.base.now) _ _ c.over_form.ensures.laid c.over_form.auto.base (line_list (blocks_of c.args.setting)) (search rules)
