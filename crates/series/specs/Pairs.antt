-- Two lists with gaps, day by day.
use Rattle.std.specs.Prelude.{ℕ, ◌≤◌, List}
use Rattle.std.proofs.Math.Option.{Option, none, some}
use Rattle.numbers.specs.Lists.{Beside}

-- both missing, or both present and in a relation
pub data Both {A B : Type 0} (R : A → B → Type 0) : Option A → Option B → Type 0 where
  both_missing : Both R none none
  both_present : {a : A} {b : B} → R a b → Both R (some a) (some b)

-- the second list is as long as the first, misses the same days, and has at least the first's flow on every other day
abbrev pub NowhereLess : (days more : List (Option ℕ)) → Type 0
NowhereLess days more = Beside (Both ◌≤◌) days more
