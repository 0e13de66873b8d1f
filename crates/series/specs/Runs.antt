-- Longest runs of neighbouring days that belong together (document 01, "Filters": a stretch is one, and a limb is meant
-- likewise). What belongs together is a test: `joins x y` says whether a present day y joins the present day x before it.
use Rattle.std.specs.Prelude.{ℕ, zero, suc, ◌+◌, ◌<◌, ◌≡◌, Bool, true, false, cond, List, [], ◌∷◌, map, length, get_or, take, drop}
use Rattle.std.proofs.Math.Option.{Option, none, some}

-- whether a day joins the one before it: both are present, and the test holds
unfoldable pub joined : {A : Type 0} → (joins : A → A → Bool) → (before day : Option A) → Bool
joined joins none d = false
joined joins (some x) none = false
joined joins (some x) (some y) = joins x y

-- whether day t of a list joins the day before it. (Day 0 has none before it; `get_or days t none` is none for a missing day
-- and outside the list.)
unfoldable pub joins_at : {A : Type 0} → (joins : A → A → Bool) → List (Option A) → (t : ℕ) → Bool
unfolding joined
joins_at joins days zero = false
joins_at joins days (suc t) = joined joins (get_or days t none) (get_or days (suc t) none)

-- What document 01 calls longest: from `start` on stand neighbouring present days, at least one, each of which joins the
-- one before it; and neither the day before them nor the one behind them does.
pub record Longest {A : Type 0} (joins : A → A → Bool) (days : List (Option A)) (start : ℕ) (run : List A) : Type 0 where
  pub not_empty : 0 < length run
  pub neighbouring : take (length run) (drop start days) ≡ map some run
  pub together : (t : ℕ) → start < t → t < start + length run → joins_at joins days t ≡ true
  pub none_before : joins_at joins days start ≡ false
  pub none_after : joins_at joins days (start + length run) ≡ false

-- a run: the position of its first day, and what its days hold
pub record Run (A : Type 0) : Type 0 where
  pub start : ℕ
  pub flows : List A

-- the days that follow a day and join, up to the first that does not
unfoldable pub further : {A : Type 0} → (joins : A → A → Bool) → (before : Option A) → List (Option A) → List A
further joins before [] = []
further joins before (none ∷ ds) = []
further joins before (some y ∷ ds) = cond (joined joins before (some y)) (y ∷ further joins (some y) ds) []

-- One run starts on each present day that does not join the day before it. (p is the position of the first of the days,
-- `before` the day before that.)
unfoldable pub runs_from : {A : Type 0} → (joins : A → A → Bool) → (p : ℕ) → (before : Option A) → List (Option A) → List (Run A)
runs_from joins p before [] = []
runs_from joins p before (none ∷ ds) = runs_from joins (suc p) none ds
runs_from joins p before (some y ∷ ds) =
    let later = runs_from joins (suc p) (some y) ds in
    cond (joined joins before (some y)) later (record { start = p; flows = y ∷ further joins (some y) ds } ∷ later)

-- the longest runs of a list (proofs/Runs.antt: they are those of which the sentence holds, each once)
abbrev pub runs : {A : Type 0} → (joins : A → A → Bool) → List (Option A) → List (Run A)
runs joins days = runs_from joins 0 none days
