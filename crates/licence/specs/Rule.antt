-- A licence (docs/RULES.md, "Licence"): what a pump may take on each day, from a quota that is counted down day by day.
use Rattle.std.specs.Prelude.{ℕ, ◌+◌, ◌-◌, ◌*◌, ◌/◌, List, [], ◌∷◌, min}
use Rattle.std.proofs.Math.Option.{Option, none, some}

-- base rounded up to whole litres a second
unfoldable pub litres_up : (base : ℕ) → ℕ
litres_up b = (b + 999) / 1000

-- flow minus base in whole litres
unfoldable pub spare : (flow base : ℕ) → ℕ
unfolding litres_up
spare y b = y - litres_up b

-- a day's taking: with a base value the smallest of M, flow minus base in whole litres, and quota left; otherwise 0
unfoldable pub taking : (M left : ℕ) → (day base : Option ℕ) → ℕ
unfolding spare
taking M left day none = 0
taking M left none (some b) = 0
taking M left (some y) (some b) = min (min M (spare y b)) left

-- the takings of a day list and its base list, each day from the quota that the days before it have left
unfoldable pub takings : (M left : ℕ) → (days base : List (Option ℕ)) → List ℕ
unfolding taking
takings M left [] bs = []
takings M left (d ∷ ds) [] = []
takings M left (d ∷ ds) (b ∷ bs) = taking M left d b ∷ takings M (left - taking M left d b) ds bs

-- the quota left behind them, as it is counted down
unfoldable pub quota_left : (M left : ℕ) → (days base : List (Option ℕ)) → ℕ
unfolding taking
quota_left M left [] bs = left
quota_left M left (d ∷ ds) [] = left
quota_left M left (d ∷ ds) (b ∷ bs) = quota_left M (left - taking M left d b) ds bs

-- a day's flow above its base, in thousandths, 0 without a base value: by this two rivers are compared
abbrev pub above_base : (day base : Option ℕ) → ℕ
above_base day none = 0
above_base none (some b) = 0
above_base (some y) (some b) = 1000 * y - b
