-- `chosen` of a day meets its contract: each choice has its own way.
use mathlib.Core.Path.{◌≡◌, refl, sym, ◌∙◌, ap}
use mathlib.Core.Bool.{not}
use lib.Dec.{eqb}
use Rattle.std.proofs.lemmas.Iterator.Consumers.{min_from_yields_List, max_from_yields_List}
use Rattle.series.specs.Units.{no_value_mark, base_mark}
use Rattle.numbers.specs.Arithmetic.{rounded}
use Rattle.staggered.specs.Rule.{chosen}
use Rattle.staggered.specs.Private.{shown_by, option_of, number_of}
use Rattle.staggered.proofs.Chains.{values_yielded}
use Rattle.staggered.proofs.Choosing.{lowest_found, highest_found, marked}
use Rattle.staggered.proofs.day.DayValues.chosen.Goals as goal
use Rattle.staggered.proofs.day.DayValues.chosen.Goals.{in-Lowest, in-Highest, in-Median}

pub returns : goal.returns
returns c =
    let day = c.args.self in
    let value : option_of c.match-choice.value ≡ chosen rounded (number_of c.args.choice) (shown_by day) =
    elim c.match-choice.branch [
      | in-Lowest w ↦ ap option_of w.value-is ∙ lowest_found (shown_by day) _ (min_from_yields_List _ _ w.min-value.ensures.ran (values_yielded _ day w.filter.ensures.source w.filter.ensures.closure (λ x b q k. (refl, k.called.met ∙ ap (λ y. not (eqb y no_value_mark)) k.shows)))) ∙ ap (λ d. chosen rounded (number_of d) (shown_by day)) (sym w.in-Lowest.is)
      | in-Highest w ↦ ap option_of w.value-is ∙ highest_found (shown_by day) _ (max_from_yields_List _ _ w.max-value.ensures.ran (values_yielded _ day w.filter-in-Highest.ensures.source w.filter-in-Highest.ensures.closure (λ x b q k. (refl, k.called.met ∙ ap (λ y. not (eqb y no_value_mark)) k.shows)))) ∙ ap (λ d. chosen rounded (number_of d) (shown_by day)) (sym w.in-Highest.is)
      | in-Median w ↦ ap option_of w.value-is ∙ w.median-value.ensures ∙ ap (λ d. chosen rounded (number_of d) (shown_by day)) (sym w.in-Median.is)
    ] in
    c.unwrap_or.ensures ∙ marked _ ∙ ap base_mark value
