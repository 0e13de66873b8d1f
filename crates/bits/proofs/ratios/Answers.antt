-- `bits::ratios` meets its contract: the recession ratios, over the days laid out.
use Rattle.std.proofs.Common.{rules}
use Rattle.recession.specs.Call.{listed_limbs, ratio_outcome, ratio_leaves}
use Rattle.recession.proofs.Order.{ratios_at_10, no_days}
use Rattle.bits.specs.Calls.{ratio_bits_causes, statistics_of}
use Rattle.bits.proofs.OverForm.{outcome_over, left}
use Rattle.bits.proofs.ratios.Goals as goal

pub returns-clause-answer : goal.returns-clause-answer
unfolding ratio_bits_causes ratio_outcome statistics_of
returns-clause-answer c = outcome_over (ratios_at_10 c.args.shortest c.args.base.now c.args.limbs.now) _ _ c.over_form.ensures.laid (λ ds. statistics_of c.args.shortest ds c.args.base.now) _ c.over_form.ensures.told (search rules)

pub returns-clause-limb_list : goal.returns-clause-limb_list
unfolding ratio_bits_causes ratio_leaves
returns-clause-limb_list c =
    left (ratios_at_10 c.args.shortest c.args.base.now c.args.limbs.now) _ _ c.over_form.ensures.laid
    (λ e z. absurd (no_days c.args.shortest c.over_form.ensures.days.now c.args.base.now c.args.limbs.now z e))
    (λ ds. listed_limbs c.args.shortest ds c.args.base.now c.args.limbs.now) (search rules)
