-- `presence::to_bits` meets its contract: a refusal leaves both buffers.
use Rattle.presence.proofs.Calls.{flows_kept, words_kept}
use Rattle.presence.proofs.to_bits.Goals as goal

pub returns-in_err-check_days-clause-flow_list : goal.returns-in_err-check_days-clause-flow_list
returns-in_err-check_days-clause-flow_list c = flows_kept _ _ _ c.check_days.ensures c.in_err-check_days.was

pub returns-in_err-check_days-clause-word_list : goal.returns-in_err-check_days-clause-word_list
returns-in_err-check_days-clause-word_list c = words_kept _ _ _ c.check_days.ensures c.in_err-check_days.was
