-- `filter::filter` meets its contract: a refusal leaves the base list; where there is none, the passes fill it.
use Rattle.std.proofs.Common.{sym, ◌∙◌, ap}
use Rattle.filter.specs.Call.{filtered_list}
use Rattle.filter.proofs.Calls.{filter_accepted, leaves_filtered, leaves_as_it_was}
use Rattle.filter.proofs.filter.Goals as goal

pub returns-in_err-filter-clause-base_after : goal.returns-in_err-filter-clause-base_after
returns-in_err-filter-clause-base_after c = sym (leaves_as_it_was _ _ _ _ _ (sym c.in_err-filter.ensures.refusal))

pub run-requires : goal.run-requires
run-requires c =
    let a = filter_accepted c.args.setting c.args.passes c.args.start c.args.days.now c.args.base.now (sym c.in_ok-filter.ensures.refusal) in
    record { passes_value = rw c.in_ok-filter.ensures.of_setting a.passes; days_value = (a.valid, a.same_length); start_value = a.start }

pub returns-clause-base_after : goal.returns-clause-base_after
returns-clause-base_after c =
    let d = c.args in
    c.run.ensures ∙ ap (λ s. filtered_list s d.passes d.start d.days.now) c.in_ok-filter.ensures.of_setting
    ∙ sym (leaves_filtered d.setting d.passes d.start d.days.now d.base.now (sym c.in_ok-filter.ensures.refusal))
