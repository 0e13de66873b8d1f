-- The values of a day as the code's chains come to them.
-- Assumes nothing.
use mathlib.Core.Path.{◌≡◌, refl, subst}
use mathlib.Core.Bool.{Bool, not}
use Prim.Native.Nat.{ℕ}
use lib.Dec.{eqb}
use denote.Ref.{Bor}
use denote.Param.Members.{Mut}
use Rattle.std.specs.Iterator.{YieldsFirst, ActsAsAt}
use Rattle.std.specs.Iterator.Adapters.{filter_source, filter_callee, filter_steps}
use Rattle.std.specs.declared.iter.Filter.{Filter}
use Rattle.std.proofs.lemmas.Iterator.{YieldsList}
use Rattle.std.proofs.lemmas.Iterator.Consumers.{YieldsList-from_first, YieldsList-from_filter, YieldsList-at}
use Rattle.series.specs.Units.{no_value_mark}
use Rattle.staggered.specs.declared.day.DayValues.{DayValues}
use Rattle.staggered.specs.Private.{numbers_of, values_of}
use Rattle.staggered.proofs.Choosing.{values_kept}

-- what a filter that lets values through gives
pub values_yielded : {F : Type 0} (g : Mut F (Bor ℕ × Unit {0}) Bool) {f : F} (day : DayValues) {s : Filter DayValues F} → filter_source s ≡ day → filter_callee s ≡ f
    → ActsAsAt g f (λ x. not (eqb x no_value_mark)) → YieldsList (filter_steps (YieldsFirst numbers_of) g) (λ x. x) s (values_of day)
values_yielded g day {s} e h a =
    subst (YieldsList (filter_steps (YieldsFirst numbers_of) g) (λ x. x) s) (values_kept (numbers_of day))
    (YieldsList-from_filter g _ (YieldsList-at e (YieldsList-from_first (λ x. x) numbers_of (numbers_of day) refl)) h a)
