-- `median` of a day meets its contract: the first value of the rank.
use mathlib.Core.Path.{◌≡◌, refl, ◌∙◌, ap}
use mathlib.Core.Bool.{true, false, not}
use Prim.Native.Nat.{◌+◌, ◌/◌}
use lib.Dec.{eqb}
use lib.ListN.{length}
use Rattle.std.proofs.Common.{rules}
use Rattle.std.proofs.lemmas.Iterator.{YieldsList, first_from_find}
use Rattle.series.specs.Units.{no_value_mark}
use Rattle.staggered.specs.Private.{numbers_of, shown_by, values_of, has_rank}
use Rattle.staggered.proofs.Chains.{values_yielded}
use Rattle.staggered.proofs.Choosing.{values_kept, middle_found}
use Rattle.staggered.proofs.day.DayValues.median.Goals as goal

pub returns : goal.returns
returns c =
    let day = c.args.self in
    let rank : (c.count.result + 1) / 2 ≡ (length (values_of day) + 1) / 2 = ap (λ n. (n + 1) / 2) (c.count.ensures.number (λ x. not (eqb x no_value_mark)) (λ x b q k. (refl, k.called.met ∙ ap (λ y. not (eqb y no_value_mark)) k.shows)) ∙ ap length (values_kept (numbers_of day))) in
    let list : YieldsList _ (λ x. x) c.filter.result (values_of day) = values_yielded _ day c.filter.ensures.source c.filter.ensures.closure (λ x b q k. (refl, k.called.met ∙ ap (λ y. not (eqb y no_value_mark)) k.shows)) in
    let found = first_from_find c.find.new.self _ c.find.result (λ v. has_rank ((c.count.result + 1) / 2) v (values_of day) ≡ true) (λ v. has_rank ((c.count.result + 1) / 2) v (values_of day) ≡ false) c.find.ensures.ran list (λ x q k. search rules) (λ x q k. search rules) in
    middle_found (shown_by day) _ rank c.find.result found
