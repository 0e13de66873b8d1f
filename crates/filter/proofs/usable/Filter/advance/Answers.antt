-- `filter::usable::Filter::advance` meets its contract: a missing day, or one of the segment's.
use Rattle.std.proofs.Common.{refl, ap, ◌∙◌}
use Rattle.filter.specs.Daily.{invalid_yesterday}
use Rattle.filter.proofs.Days.{missing_day, present_day, a_flow}
use Rattle.filter.proofs.usable.Filter.advance.Goals as goal

pub present-base-requires-clause-small : goal.present-base-requires-clause-small
present-base-requires-clause-small c = a_flow _ c.requires.1 c.if-day-eq-MISSING.false

pub returns-then-day-eq-MISSING : goal.returns-then-day-eq-MISSING
returns-then-day-eq-MISSING c =
    let both = missing_day c.args.self.setting c.args.state _ c.if-day-eq-MISSING.true (c.fresh.ensures, refl) in
    record { state_value = both.0; next_yesterday = both.1 }

pub returns : goal.returns
returns c =
    let both = present_day c.args.self.setting c.args.state _ c.if-day-eq-MISSING.false (a_flow _ c.requires.1 c.if-day-eq-MISSING.false) c.present-base.ensures.value c.present-base.ensures.below in
    record { state_value = (c.after.ensures ∙ both.0.0, both.0.1); next_yesterday = (ap (λ x. invalid_yesterday x.yesterday) c.after.ensures ∙ both.1.0, both.1.1) }
