-- `bits::totals` meets its contract: the totals, over the days laid out.
use Rattle.std.proofs.Common.{rules}
use Rattle.totals.specs.Call.{listed_days, totals_of, totals_outcome}
use Rattle.totals.proofs.Order.{totals_at_10}
use Rattle.bits.specs.Calls.{totals_bits_causes}
use Rattle.bits.proofs.OverForm.{outcome_over}
use Rattle.bits.proofs.totals.Goals as goal

pub returns : goal.returns
unfolding totals_bits_causes totals_outcome
returns c = record { answer = outcome_over (totals_at_10 c.args.base.now) _ _ c.over_form.ensures.laid (λ ds. totals_of (listed_days ds c.args.base.now)) _ c.over_form.ensures.told (search rules) }
