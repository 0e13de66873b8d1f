-- `filter::usable::Filter::pass_day` meets its contract.
use Rattle.filter.proofs.Turns.{a_value, no_value_day, value_day}
use Rattle.filter.specs.Methods.{weights}
use Rattle.filter.proofs.usable.Filter.pass_day.Goals as goal

pub present_day-f-requires : goal.present_day-f-requires
present_day-f-requires c = (c.requires.0, a_value c.requires.1 c.if-base-eq-NO_VALUE.false)

pub returns-then-base-eq-NO_VALUE : goal.returns-then-base-eq-NO_VALUE
returns-then-base-eq-NO_VALUE c =
    let both = no_value_day (weights c.args.self.setting) c.args.previous c.if-base-eq-NO_VALUE.true in
    record { previous_value = both.0; small_previous = both.1 }

pub returns : goal.returns
returns c =
    let both = value_day (weights c.args.self.setting) c.args.previous c.if-base-eq-NO_VALUE.false (a_value c.requires.1 c.if-base-eq-NO_VALUE.false) c.present_day-f.ensures.0 c.present_day-f.ensures.1 in
    record { previous_value = both.0; small_previous = both.1 }
