-- Segments (document 01: stretches): the longest lists of neighbouring present days.
use Rattle.std.specs.Prelude.{ℕ, suc, true, List, [], ◌∷◌, ◌++◌}
use Rattle.std.proofs.Math.Option.{Option, none, some}
use Rattle.series.specs.Runs.{Longest}

-- Document 01's sentence: a longest run of neighbouring present days, any two of which belong together
abbrev pub Segment : {A : Type 0} → (days : List (Option A)) → (start : ℕ) → (flows : List A) → Type 0
Segment days start flows = Longest (λ _ _. true) days start flows

-- A list parted at its missing days: what stands before the first of them, and what follows each. What is not empty
-- of these is a segment.
pub record Parts (A : Type 0) : Type 0 where
  pub first : List A
  pub rest : List (List A)

unfoldable pub parts : {A : Type 0} → List (Option A) → Parts A
parts [] = record { first = []; rest = [] }
parts (none ∷ ds) = let p = parts ds in record { first = []; rest = p.first ∷ p.rest }
parts (some y ∷ ds) = let p = parts ds in record { first = y ∷ p.first; rest = p.rest }

-- a missing day, and the rule over the segment behind it, for each of them
unfoldable pub after_gaps : {A B : Type 0} → (List A → List (Option B)) → List (List A) → List (Option B)
after_gaps rule [] = []
after_gaps rule (s ∷ ss) = none ∷ (rule s ++ after_gaps rule ss)

-- a rule for one segment, over a list with gaps: each segment alone, and no value on a missing day
unfoldable pub over_segments : {A B : Type 0} → (List A → List (Option B)) → List (Option A) → List (Option B)
unfolding parts after_gaps
over_segments rule days = rule (parts days).first ++ after_gaps rule (parts days).rest

-- how many missing days a list begins with, and the flow of the first present day behind them
unfoldable pub leading_gap : {A : Type 0} → List (Option A) → ℕ
leading_gap [] = 0
leading_gap (none ∷ ds) = suc (leading_gap ds)
leading_gap (some y ∷ ds) = 0

unfoldable pub first_present : {A : Type 0} → List (Option A) → Option A
first_present [] = none
first_present (none ∷ ds) = first_present ds
first_present (some y ∷ ds) = some y

-- the same where the first segment, behind any missing days, has a rule of its own; with one rule for all it is `over_segments`
unfoldable pub over_first : {A B : Type 0} → (first rule : List A → List (Option B)) → List (Option A) → List (Option B)
unfolding parts after_gaps
over_first first rule [] = []
over_first first rule (none ∷ ds) = none ∷ over_first first rule ds
over_first first rule (some y ∷ ds) = let p = parts ds in first (y ∷ p.first) ++ after_gaps rule p.rest
