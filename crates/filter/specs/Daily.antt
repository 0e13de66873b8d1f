-- The daily step (document 01, "Filters"): pass 1 for one day. Code.Option, with Some and None, is the program's Option,
-- in which a state holds its yesterday; Option, with some and none, is that of the rules.
use Rattle.std.specs.Prelude.{ℕ, ◌*◌, Bool, false, ◌||◌, ltb, Some, None}
use Rattle.std.specs.Prelude as Code
use Rattle.std.proofs.Math.Option.{Option, none, some}
use Rattle.numbers.specs.Arithmetic.{rounded}
use Rattle.series.specs.Units.{flow_limit}
use Rattle.filter.specs.declared.Setting.{Setting}
use Rattle.filter.specs.declared.Yesterday.{Yesterday}
use Rattle.filter.specs.declared.DailyFilter.{DailyFilter}
use Rattle.filter.specs.Methods.{start}
use Rattle.filter.specs.Passes.{later_day}

-- the fresh state: the one without yesterday
abbrev pub fresh : DailyFilter
fresh = record { yesterday = None }

-- the state after a day of flow y and base b
abbrev pub after : (y b : ℕ) → DailyFilter
after y b = record { yesterday = Some (record { flow = y; base = b }) }

-- 15: yesterday's flow is above its limit, or yesterday's base above 1000 × that flow; the fresh state has no yesterday
unfoldable pub invalid_yesterday : Code.Option Yesterday → Bool
invalid_yesterday None = false
invalid_yesterday (Some yesterday) = ltb flow_limit yesterday.flow || ltb (1000 * yesterday.flow) yesterday.base

-- the base value of a day of flow y
unfoldable pub day_base : Setting → Code.Option Yesterday → ℕ → ℕ
day_base s None y = start rounded s y
day_base s (Some yesterday) y = later_day rounded s yesterday.base y yesterday.flow

-- the base value of a day, and the state after it: a missing day has no value, and then the state is fresh
unfoldable pub base_on : Setting → DailyFilter → Option ℕ → Option ℕ
unfolding day_base
base_on s st none = none
base_on s st (some y) = some (day_base s st.yesterday y)

unfoldable pub state_after : Setting → DailyFilter → Option ℕ → DailyFilter
unfolding day_base
state_after s st none = fresh
state_after s st (some y) = after y (day_base s st.yesterday y)
