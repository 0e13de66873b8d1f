-- `bits::bfimax` meets its contract: BFImax, over the days laid out.
use Rattle.std.proofs.Common.{rules}
use Rattle.numbers.specs.Arithmetic.{rounded}
use Rattle.bfimax.specs.Rule.{bfimax}
use Rattle.bfimax.specs.Call.{spell, spell_of, spell_list, bfimax_outcome, bfimax_leaves}
use Rattle.bfimax.proofs.Order.{bfimax_at_10}
use Rattle.bits.specs.Calls.{bfimax_bits_causes}
use Rattle.bits.proofs.OverForm.{outcome_over, left_base}
use Rattle.bits.proofs.bfimax.Goals as goal

pub returns-clause-answer : goal.returns-clause-answer
unfolding bfimax_bits_causes bfimax_outcome
returns-clause-answer c = outcome_over (bfimax_at_10 (spell_of c.args.last_day c.args.duration c.args.p) c.args.base.now) _ _ c.over_form.ensures.laid (λ ds. bfimax rounded c.args.p (spell c.args.last_day c.args.duration ds)) _ c.over_form.ensures.told (search rules)

pub returns-clause-base_list : goal.returns-clause-base_list
unfolding bfimax_bits_causes bfimax_leaves
returns-clause-base_list c = left_base (bfimax_at_10 (spell_of c.args.last_day c.args.duration c.args.p) c.args.base.now) _ _ c.over_form.ensures.laid c.over_form.auto.base (spell_list (spell_of c.args.last_day c.args.duration c.args.p)) (search rules)
