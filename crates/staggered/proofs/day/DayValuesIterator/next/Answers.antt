-- `next` of a day's values meets its contract: the first line's value, and those of the lines behind it.
use Rattle.std.proofs.Common.{rules}
use lib.ListN.{length}
use mathlib.Core.Path.{ap}
use Rattle.staggered.proofs.Columns.{no_line_left, next_line}
use Rattle.staggered.proofs.day.DayValuesIterator.next.Goals as goal

pub returns-in_err-line-clause-steps : goal.returns-in_err-line-clause-steps
returns-in_err-line-clause-steps c = let e = no_line_left _ _ c.args.self.now.t c.in_err-line.ensures.cases in rw c.from_residual.ensures (e, e)

pub returns-clause-steps : goal.returns-clause-steps
returns-clause-steps c = next_line _ _ _ _ _ c.args.self.now.inside c.in_ok-line.ensures.cases

pub returns-clause-goes : goal.returns-clause-goes
returns-clause-goes c = let e = ap length (next_line _ _ _ _ _ c.args.self.now.inside c.in_ok-line.ensures.cases) in search rules
