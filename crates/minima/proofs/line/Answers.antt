-- `minima::line` meets its contract: a refusal leaves the base list.
use Rattle.minima.proofs.Acceptance.{checked_kept}
use Rattle.minima.proofs.line.Goals as goal

pub returns-in_err-check-clause-base_after : goal.returns-in_err-check-clause-base_after
returns-in_err-check-clause-base_after c = checked_kept _ _ _ c.check.ensures c.in_err-check.was
