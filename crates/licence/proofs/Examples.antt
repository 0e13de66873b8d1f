-- Replays that the checker computes: takings and quota left, and each refusal with each pair of neighbours in the order.
-- Assumes nothing.
use Prim.Native.Nat.{ℕ}
use mathlib.Core.Path.{◌≡◌, refl}
use mathlib.Core.List.{List, [], ◌∷◌, map}
use lib.ListN.{replicate}
use Rattle.series.specs.Units.{is_invalid_day, day_of, base_of}
use Rattle.series.specs.Lists.{too_long, lengths_differ, any_invalid_day, is_invalid_base, any_invalid_base}
use Rattle.series.specs.Causes.{Outcome, accepted, refused, leaves}
use Rattle.licence.specs.declared.Licence.{Licence}
use Rattle.licence.specs.Rule.{litres_up, spare, taking, takings, quota_left}
use Rattle.licence.specs.Call.{out_of_range, licence_causes, listed_takings, listed_left, licence_outcome, licence_leaves}

-- a replay over a takings list of so many nines, what it answers and what stands in the list behind it
record Replay : Type 0 where
  limit : ℕ
  quota : ℕ
  days : List ℕ
  base : List ℕ
  room : ℕ
  answer : Outcome ℕ
  list : List ℕ

-- a missing day, and no base value
abbrev gap : ℕ
gap = 4294967295

abbrev nil : ℕ
nil = 18446744073709551615

abbrev replays : List Replay
replays =
    -- base equal to flow; base one thousandth above a whole litre, a whole litre, and one thousandth below it
    record { limit = 50; quota = 100; days = 7 ∷ []; base = 7000 ∷ []; room = 1; answer = accepted 100; list = 0 ∷ [] }
    ∷ record { limit = 50; quota = 100; days = 7 ∷ 7 ∷ 7 ∷ []; base = 4001 ∷ 4000 ∷ 3999 ∷ []; room = 3; answer = accepted 92; list = 2 ∷ 3 ∷ 3 ∷ [] }
    -- M is the smallest, flow minus base is, the quota left is, in the middle of a day's amount, and 0 behind it
    ∷ record { limit = 50; quota = 100; days = 90 ∷ 30 ∷ 90 ∷ 90 ∷ []; base = 0 ∷ 5000 ∷ 10 ∷ 0 ∷ []; room = 4; answer = accepted 0; list = 50 ∷ 25 ∷ 25 ∷ 0 ∷ [] }
    -- the quota left is just what a day takes, and one less
    ∷ record { limit = 50; quota = 75; days = 90 ∷ 30 ∷ []; base = 0 ∷ 5000 ∷ []; room = 2; answer = accepted 0; list = 50 ∷ 25 ∷ [] }
    ∷ record { limit = 50; quota = 74; days = 90 ∷ 30 ∷ []; base = 0 ∷ 5000 ∷ []; room = 2; answer = accepted 0; list = 50 ∷ 24 ∷ [] }
    -- a missing day, and a present day without a base value
    ∷ record { limit = 50; quota = 100; days = 90 ∷ gap ∷ 90 ∷ 90 ∷ []; base = 85000 ∷ nil ∷ nil ∷ 85000 ∷ []; room = 4; answer = accepted 90; list = 5 ∷ 0 ∷ 0 ∷ 5 ∷ [] }
    -- M 0, Q 0, no day
    ∷ record { limit = 0; quota = 100; days = 90 ∷ []; base = 0 ∷ []; room = 1; answer = accepted 100; list = 0 ∷ [] }
    ∷ record { limit = 50; quota = 0; days = 90 ∷ []; base = 0 ∷ []; room = 1; answer = accepted 0; list = 0 ∷ [] }
    ∷ record { limit = 50; quota = 100; days = []; base = []; room = 0; answer = accepted 100; list = [] }
    -- 31: M 10,000,000, Q 10^12, and one more of each
    ∷ record { limit = 10000000; quota = 1000000000000; days = 10000000 ∷ []; base = 0 ∷ []; room = 1; answer = accepted 999990000000; list = 10000000 ∷ [] }
    ∷ record { limit = 10000001; quota = 100; days = 90 ∷ []; base = 0 ∷ []; room = 1; answer = refused 31; list = 9 ∷ [] }
    ∷ record { limit = 50; quota = 1000000000001; days = 90 ∷ []; base = 0 ∷ []; room = 1; answer = refused 31; list = 9 ∷ [] }
    -- 14: by the base list alone, and by the takings list alone, too short and too long
    ∷ record { limit = 50; quota = 100; days = 90 ∷ []; base = []; room = 1; answer = refused 14; list = 9 ∷ [] }
    ∷ record { limit = 50; quota = 100; days = 90 ∷ []; base = 0 ∷ []; room = 0; answer = refused 14; list = [] }
    ∷ record { limit = 50; quota = 100; days = 90 ∷ []; base = 0 ∷ []; room = 2; answer = refused 14; list = 9 ∷ 9 ∷ [] }
    -- 10, and 20 of two kinds, behind days that would take
    ∷ record { limit = 50; quota = 100; days = 90 ∷ 10000001 ∷ []; base = 0 ∷ 0 ∷ []; room = 2; answer = refused 10; list = 9 ∷ 9 ∷ [] }
    ∷ record { limit = 50; quota = 100; days = 90 ∷ 90 ∷ []; base = 0 ∷ 90001 ∷ []; room = 2; answer = refused 20; list = 9 ∷ 9 ∷ [] }
    ∷ record { limit = 50; quota = 100; days = 90 ∷ gap ∷ []; base = 0 ∷ 0 ∷ []; room = 2; answer = refused 20; list = 9 ∷ 9 ∷ [] }
    -- 14 before 10, by either list, and 10 before 20
    ∷ record { limit = 50; quota = 100; days = 10000001 ∷ []; base = []; room = 1; answer = refused 14; list = 9 ∷ [] }
    ∷ record { limit = 50; quota = 100; days = 10000001 ∷ []; base = 0 ∷ []; room = 0; answer = refused 14; list = [] }
    ∷ record { limit = 50; quota = 100; days = gap ∷ 10000001 ∷ []; base = 0 ∷ 0 ∷ []; room = 2; answer = refused 10; list = 9 ∷ 9 ∷ [] }
    ∷ []

abbrev licence_of : Replay → Licence
licence_of r = record { daily_limit = r.limit; quota = r.quota }

abbrev computed : Replay → Outcome ℕ × List ℕ
computed r = let lent = replicate r.room 9 in (licence_outcome (licence_of r) r.days r.base lent, licence_leaves (licence_of r) r.days r.base lent)

abbrev expected : Replay → Outcome ℕ × List ℕ
expected r = (r.answer, r.list)

results : map computed replays ≡ map expected replays
unfolding licence_outcome licence_leaves leaves licence_causes listed_takings listed_left out_of_range too_long lengths_differ any_invalid_day is_invalid_day is_invalid_base any_invalid_base day_of base_of takings quota_left taking spare litres_up
results = refl

-- 31 before 9, and 9 before 14, for lists of 36,526 days; 36,525 are not too many
abbrev of_days : (limit days base room : ℕ) → Outcome ℕ
of_days limit days base room = licence_outcome (record { daily_limit = limit; quota = 100 }) (replicate days 90) (replicate base 0) (replicate room 9)

longest : of_days 10000001 36526 36526 36526 ∷ of_days 50 36526 36526 36526 ∷ of_days 50 36526 0 36526 ∷ of_days 50 36525 36525 36525 ∷ [] ≡ refused 31 ∷ refused 9 ∷ refused 9 ∷ accepted 0 ∷ []
unfolding licence_outcome licence_causes listed_left out_of_range too_long lengths_differ any_invalid_day is_invalid_day is_invalid_base any_invalid_base day_of base_of quota_left taking spare litres_up
longest = refl
