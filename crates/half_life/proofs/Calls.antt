-- What the call answers, by its one test.
-- Assumes nothing.
use Prim.Native.Nat.{ℕ}
use mathlib.Core.Path.{◌≡◌, refl, ap}
use mathlib.Core.Bool.{Bool, true, false, not}
use Rattle.series.specs.Units.{within}
use Rattle.series.proofs.Views.{lies}
use Rattle.series.specs.Causes.{accepted, refused}
use Rattle.half_life.specs.Rule.{half_life}
use Rattle.half_life.specs.Call.{half_life_causes, half_life_outcome, Promised}
use Rattle.half_life.proofs.Sentences.{half_life_sentence}

pub refuses_outside : (p : ℕ) → not (within 1 999 p) ≡ true → refused 12 ≡ half_life_outcome p
unfolding half_life_outcome half_life_causes
refuses_outside p e = rw e

pub accepts_inside : (p n : ℕ) → not (within 1 999 p) ≡ false → n ≡ half_life p → accepted n ≡ half_life_outcome p
unfolding half_life_outcome half_life_causes
accepts_inside p n e f = rw e (ap accepted f)

-- whatever p is
pub least : (p : ℕ) → Promised (half_life_outcome p) p
unfolding half_life_outcome half_life_causes
least p = by_test (within 1 999 p) refl
  where
    by_test : (b : Bool) → within 1 999 p ≡ b → Promised (half_life_outcome p) p
    by_test true e = rw e (half_life_sentence p (lies 1 999 p e).1)
    by_test false e = rw e tt
