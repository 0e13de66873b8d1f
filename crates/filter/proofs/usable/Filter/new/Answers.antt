-- `filter::usable::Filter::new` meets its contract: the number's method, then the ranges.
use Rattle.std.proofs.Common.{rules, sym, ◌∙◌}
use Rattle.std.proofs.lemmas.Result.{err_from_is_err_and}
use Rattle.filter.specs.Methods.{Usable}
use Rattle.filter.proofs.MethodNumbers.{no_method, named, outside, inside, method_row, row_weights}
use Rattle.filter.proofs.usable.Filter.new.Goals as goal
use Rattle.filter.proofs.usable.Filter.new.Goals.{In_ok-refuse_if}

usable : (c : In_ok-refuse_if) → Usable c.args.setting
usable c = inside _ (sym c.in_ok-method.was ∙ c.try_from.ensures) c.admits.ensures c.refuse_if.ensures.ok c.refuse_if.ensures.err c.in_ok-refuse_if.was

pub returns-in_err-method-clause-refusal : goal.returns-in_err-method-clause-refusal
returns-in_err-method-clause-refusal c =
    let p = err_from_is_err_and c.from_residual.result c.from_residual.ensures.1 in
    rw (p.1, p.2) (no_method _ (sym c.in_err-method.was ∙ c.try_from.ensures))

pub returns-in_err-refuse_if-clause-refusal : goal.returns-in_err-refuse_if-clause-refusal
returns-in_err-refuse_if-clause-refusal c =
    let p = err_from_is_err_and c.from_residual-in_err-refuse_if.result c.from_residual-in_err-refuse_if.ensures.1 in
    rw (p.1, p.2) (outside _ (sym c.in_ok-method.was ∙ c.try_from.ensures) c.admits.ensures c.refuse_if.ensures.ok c.refuse_if.ensures.err c.in_err-refuse_if.was)

pub coefficients-row-requires : goal.coefficients-row-requires
coefficients-row-requires c = method_row (named _ (sym c.in_ok-method.was ∙ c.try_from.ensures)).1 (usable c)

pub invariant_of-result : goal.invariant_of-result
invariant_of-result c =
    let m = (named _ (sym c.in_ok-method.was ∙ c.try_from.ensures)).1 in
    record { usable = usable (goal.at.invariant_of-result c).In_ok-refuse_if; method_is = m; row_is = row_weights _ m c.coefficients-row.ensures; divisor_is = search rules }
