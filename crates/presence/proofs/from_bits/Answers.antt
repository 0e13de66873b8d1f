-- `presence::from_bits` meets its contract: a refusal leaves the days.
use Rattle.presence.proofs.Calls.{days_kept}
use Rattle.presence.proofs.from_bits.Goals as goal

pub returns-in_err-check_form-clause-day_list : goal.returns-in_err-check_form-clause-day_list
returns-in_err-check_form-clause-day_list c = days_kept _ _ _ c.check_form.ensures c.in_err-check_form.was
