-- Staggered blocks (docs/RULES.md, "Staggered blocks"): the minima lines of all shifts of the blocks, and the value that is
-- chosen from them on each day, in any arithmetic. The rounded run and the exact run are its two readings.
use Rattle.std.specs.Prelude.{ℕ, ◌+◌, ◌/◌, cond, List, [], ◌∷◌, map, eqb, length, get_or}
use Rattle.std.proofs.Math.Option.{Option, none, some}
use Rattle.numbers.specs.Arithmetic.{Arithmetic}
use Rattle.numbers.specs.Order.{ranked}
use Rattle.minima.specs.declared.LineSetting.{LineSetting}
use Rattle.minima.specs.TurningPoints.{counting}
use Rattle.minima.specs.Line.{line_over}
use Rattle.minima.specs.Call.{blocks_at}

-- the shifts of the blocks: 0 to N - 1 days
abbrev pub shifts : LineSetting → List ℕ
shifts s = counting 0 s.block_days

-- the lines of all shifts, in the order of the shift
unfoldable pub lines : (S : Arithmetic) → LineSetting → (days : List (Option ℕ)) → List (List (Option S.Number))
lines S s days = map (λ o. line_over S (blocks_at s o) days) (shifts s)

-- what several lines have on day t: a value or none
abbrev pub on_day : {A : Type 0} → (t : ℕ) → List (List (Option A)) → List (Option A)
on_day t ls = map (λ line. get_or line t none) ls

-- the values among them
unfoldable pub present : {A : Type 0} → List (Option A) → List A
present [] = []
present (none ∷ os) = present os
present (some v ∷ os) = v ∷ present os

-- the rank, in rising order, that a choice takes of c values: 1 the lowest, 2 the highest, 3 the middle one, and of two
-- middle ones the lower
unfoldable pub rank_of : (choice c : ℕ) → ℕ
rank_of choice c = cond (eqb choice 1) 1 (cond (eqb choice 2) c ((c + 1) / 2))

-- the value of that rank; none where there is no value
unfoldable pub chosen : (S : Arithmetic) → (choice : ℕ) → List (Option S.Number) → Option S.Number
unfolding present rank_of
chosen S choice os = ranked S.at_most (rank_of choice (length (present os))) (present os)

-- the chosen value of each day
unfoldable pub staggered : (S : Arithmetic) → LineSetting → (choice : ℕ) → (days : List (Option ℕ)) → List (Option S.Number)
unfolding lines chosen
staggered S s choice days = map (λ t. chosen S choice (on_day t (lines S s days))) (counting 0 (length days))
