-- `bits::filter` meets its contract: the filter over the days laid out.
use Rattle.std.proofs.Common.{rules}
use Rattle.filter.specs.Call.{filtered_list, filter_leaves}
use Rattle.filter.proofs.Order.{filter_at_10}
use Rattle.bits.specs.Calls.{filter_bits_causes}
use Rattle.bits.proofs.OverForm.{answered, left_base}
use Rattle.bits.proofs.filter.Goals as goal

pub returns-clause-refusal : goal.returns-clause-refusal
unfolding filter_bits_causes
returns-clause-refusal c = answered (filter_at_10 c.args.setting c.args.passes c.args.start c.args.base.now) _ _ c.over_form.ensures.laid _ c.over_form.ensures.told (search rules)

pub returns-clause-base_list : goal.returns-clause-base_list
unfolding filter_bits_causes filter_leaves
returns-clause-base_list c = left_base (filter_at_10 c.args.setting c.args.passes c.args.start c.args.base.now) _ _ c.over_form.ensures.laid c.over_form.auto.base (filtered_list c.args.setting c.args.passes c.args.start) (search rules)
