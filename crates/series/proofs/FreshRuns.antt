-- A recursive run over a list with gaps, with a state that is made fresh at a missing day, is each segment run alone.
-- Assumes nothing.
use mathlib.Core.Path.{◌≡◌, refl, sym, ◌∙◌, ap}
use mathlib.Core.List.{List, [], ◌∷◌, ◌++◌, map}
use mathlib.Core.Option.{Option, none, some}
use Rattle.numbers.specs.Scan.{scan, onward, recursive}
use Rattle.numbers.proofs.Scanning.{scan_none, scan_next, scan_seen}
use Rattle.numbers.proofs.Recursion.{onward_next, onward_end, recursive_first, recursive_none}
use Rattle.series.specs.Segments.{parts, after_gaps, over_segments, over_first}

-- what a run puts out from a state on: u and f of the day before, or none before a segment's first day
module _ {U F : Type 0} (first : U → F) (next : F → U → U → F) where
  abbrev pub value_from : Option (U × F) → U → F
  value_from none u = first u
  value_from (some b) u = next b.1 u b.0

  abbrev from : Option (U × F) → List U → List F
  from none us = recursive first next us
  from (some b) us = onward next b.1 b.0 us

  from_cons : (st : Option (U × F)) (u : U) (us : List U) → from st (u ∷ us) ≡ value_from st u ∷ from (some (u, value_from st u)) us
  from_cons none u us = recursive_first next first u us
  from_cons (some b) u us = onward_next next b.1 b.0 u us

  from_nil : (st : Option (U × F)) → from st [] ≡ []
  from_nil none = recursive_none next first
  from_nil (some b) = onward_end next b.1 b.0

-- A run with any state that is seen so: `value` gives a day's f, `state` and `out` what a day makes of the state and puts
-- out. The days and what is put out may be seen through views too.
module _ {S U F : Type 0} (first : U → F) (next : F → U → U → F) (seen : S → Option (U × F)) (value : S → U → F) (state : S → Option U → S) (out : S → Option U → Option F)
    (value_is : (st : S) (u : U) → value_from first next (seen st) u ≡ value st u) (after_gap : (st : S) → seen (state st none) ≡ none) (after_day : (st : S) (u : U) → seen (state st (some u)) ≡ some (u, value st u))
    (none_out : (st : S) → out st none ≡ none) (value_out : (st : S) (u : U) → out st (some u) ≡ some (value st u)) where
  gap_run : (st : S) (days : List (Option U)) → scan state out st days ≡ map some (from first next (seen st) (parts days).first) ++ after_gaps (λ s. map some (recursive first next s)) (parts days).rest
  unfolding parts after_gaps
  gap_run st [] = rw (scan_none state out st, from_nil first next (seen st))
  gap_run st (none ∷ ds) = rw (scan_next state out st none ds, from_nil first next (seen st), none_out st) (ap (λ l. none ∷ l) (rw (after_gap st) at (gap_run (state st none) ds)))
  gap_run st (some u ∷ ds) = rw (scan_next state out st (some u) ds, from_cons first next (seen st) u (parts ds).first, value_is st u, value_out st u) (ap (λ l. some (value st u) ∷ l) (rw (after_day st u) at (gap_run (state st (some u)) ds)))

  pub run_alone : {A B : Type 0} (input : A → Option U) (output : Option F → B) (st : S) → seen st ≡ none → (days : List A)
      → scan (λ st d. state st (input d)) (λ st d. output (out st (input d))) st days ≡ map output (over_segments (λ s. map some (recursive first next s)) (map input days))
  unfolding over_segments
  run_alone input output st e days =
      scan_seen (λ st d. state st (input d)) (λ st d. output (out st (input d))) state out (λ st. st) input output (λ st d. refl) (λ st d. refl) st days ∙ ap (map output) (rw e at (gap_run st (map input days)))

  -- from a state that knows a first day u and its f, whatever that is: the segment goes on from there
  pub run_on : {A B : Type 0} (input : A → Option U) (output : Option F → B) (st : S) (u : U) (f : F) → seen st ≡ some (u, f) → (days : List A)
      → output (some f) ∷ scan (λ st d. state st (input d)) (λ st d. output (out st (input d))) st days ≡ map output (over_first (λ s. map some (recursive (λ _. f) next s)) (λ s. map some (recursive first next s)) (some u ∷ map input days))
  unfolding over_first
  run_on input output st u f e days =
      let p = parts (map input days) in
      ap (λ l. output (some f) ∷ l)
      (scan_seen (λ st d. state st (input d)) (λ st d. output (out st (input d))) state out (λ st. st) input output (λ st d. refl) (λ st d. refl) st days ∙ ap (map output) (rw e at (gap_run st (map input days))))
      ∙ ap (λ l. map output (map some l ++ after_gaps (λ s. map some (recursive first next s)) p.rest)) (sym (recursive_first next (λ _. f) u p.first))
