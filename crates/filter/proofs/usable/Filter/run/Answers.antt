-- `filter::usable::Filter::run` meets its contract: after each pass the base list holds that pass's values.
use Rattle.std.proofs.Common.{sym, subst}
use Rattle.filter.specs.Private.{SmallList}
use Rattle.filter.proofs.BaseLists.{small_list, after_2, after_3}
use Rattle.filter.proofs.usable.Filter.run.Goals as goal

pub backward_pass-requires : goal.backward_pass-requires
backward_pass-requires c = subst SmallList (sym c.first_pass.ensures) (small_list c.args.self.usable c.args.start _ c.requires.days_value.0 c.requires.start_value)

pub returns-then-passes-eq2 : goal.returns-then-passes-eq2
returns-then-passes-eq2 c =
    after_2 c.args.self.usable _ _ c.requires.days_value.0 c.requires.start_value _ c.first_pass.ensures c.backward_pass.ensures.0 c.if-passes-eq2.true

pub returns : goal.returns
returns c =
    after_3 c.args.self.usable _ _ c.requires.days_value.0 c.requires.start_value _ c.first_pass.ensures c.backward_pass.ensures.0 c.forward_pass.ensures.0
    c.requires.passes_value c.if-passes-eq1.false c.if-passes-eq2.false
