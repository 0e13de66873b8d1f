-- What an accepted replay keeps to, of the takings that it leaves and the quota left that it returns.
use Rattle.std.specs.Prelude.{ℕ, ◌+◌, ◌-◌, ◌*◌, ◌≤◌, ◌≡◌, List, map, get_or}
use Rattle.std.specs.List.{sum}
use Rattle.std.proofs.Math.Option.{Option, none, some}
use Rattle.series.specs.Units.{day_of, base_of}
use Rattle.licence.specs.declared.Licence.{Licence}

-- a day's taking x: it leaves the day's base in its flow, is not above M, and is 0 without a base value
unfoldable pub DayKept : (M : ℕ) → (day base : Option ℕ) → (x : ℕ) → Type 0
DayKept M day none x = x ≡ 0
DayKept M none (some b) x = x ≡ 0
DayKept M (some y) (some b) x = (x ≤ M) × (x ≤ y) × (b ≤ 1000 * (y - x))

-- the takings and the quota left make up the quota, and each day's taking is as above
pub record Kept (l : Licence) (days base takings : List ℕ) (left : ℕ) : Type 0 where
  pub takings_and_left : sum takings + left ≡ l.quota
  pub each_day : (t : ℕ) → DayKept l.daily_limit (get_or (map day_of days) t none) (get_or (map base_of base) t none) (get_or takings t 0)
