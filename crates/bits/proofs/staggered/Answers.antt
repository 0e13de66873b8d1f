-- `bits::staggered` meets its contract: the staggered lines, over the days laid out.
use Rattle.std.proofs.Common.{rules, ◌*◌, ap, sym, ◌∙◌, arith}
use Rattle.staggered.specs.Call.{chosen_list, work_list, base_leaves, work_leaves}
use Rattle.staggered.proofs.Order.{staggered_at_10, work_length}
use Rattle.bits.specs.Calls.{staggered_bits_causes}
use Rattle.bits.proofs.OverForm.{answered, both_empty, left, left_base}
use Rattle.bits.proofs.staggered.Goals as goal

pub returns-clause-refusal : goal.returns-clause-refusal
unfolding staggered_bits_causes
returns-clause-refusal c = answered (staggered_at_10 c.args.setting c.args.choice c.args.base.now c.args.work.now) _ _ c.over_form.ensures.laid _ c.over_form.ensures.told (search rules)

pub returns-clause-base_list : goal.returns-clause-base_list
unfolding staggered_bits_causes base_leaves
returns-clause-base_list c = left_base (staggered_at_10 c.args.setting c.args.choice c.args.base.now c.args.work.now) _ _ c.over_form.ensures.laid c.over_form.auto.base (chosen_list c.args.setting c.args.choice) (search rules)

pub returns-clause-work_list : goal.returns-clause-work_list
unfolding staggered_bits_causes work_leaves
returns-clause-work_list c =
    let s = c.args in
    left (staggered_at_10 c.args.setting c.args.choice c.args.base.now c.args.work.now) _ _ c.over_form.ensures.laid
    (λ e z. both_empty _ s.work.now c.over_form.auto.list (sym (work_length s.setting s.choice c.over_form.ensures.days.now s.base.now s.work.now e) ∙ ap (λ n. s.setting.block_days * n) z ∙ omega arith))
    (work_list s.setting) (search rules)
