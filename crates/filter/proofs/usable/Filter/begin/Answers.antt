-- `filter::usable::Filter::begin` meets its contract: behind the start, or at the front.
use Rattle.std.proofs.Common.{rules}
use Rattle.filter.proofs.Starts.{not_given, begins_usual, begins_absent, begins_from}
use Rattle.filter.proofs.usable.Filter.begin.Goals as goal
use Rattle.filter.proofs.usable.Filter.begin.Goals.{in_default-via-in-Given+else-first-days, in_default-via-in_default}

pub returns-in-Given : goal.returns-in-Given
returns-in-Given c =
    begins_from c.args.self.setting c.args.days.now c.args.base.now c.in-Given.is c.leading_gap-first.ensures c.if-first-days.true c.requires.days_value.1 c.requires.days_value.0 c.requires.start_value c.after.ensures (c.fill.ensures.after (search rules))

pub returns-in_default : goal.returns-in_default
returns-in_default c =
    elim c.in_default.branch [
      | in_default-via-in-Given+else-first-days w ↦ begins_absent c.args.self.setting c.args.days.now c.args.base.now w.in-Given.is c.leading_gap-first.ensures w.if-first-days.false c.fresh.ensures
      | in_default-via-in_default w ↦ begins_usual c.args.self.setting c.args.days.now c.args.base.now (not_given c.args.start w.in_default.not-Given) c.fresh.ensures
    ]
