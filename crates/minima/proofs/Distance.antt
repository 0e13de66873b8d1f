-- The distance of the rounded line from the exact line: one rounding, for every block length, factor and list with gaps.
-- Assumes nothing.
use Prim.Native.Nat.{ℕ, suc, ◌+◌, ◌*◌, ◌-◌, ◌≤◌}
use mathlib.Core.Path.{◌≡◌, ◌∙◌, ap, subst}
use mathlib.Core.Bool.{Bool, true, false, cond, ◌&&◌}
use mathlib.Core.List.{List, [], ◌∷◌, map}
use mathlib.Core.Option.{Option, some}
use native.Mathlib.Nat.{min-le_left}
use native.Mathlib.Omega.{arith}
use lib.ListN.{length, get_or}
use lib.Dec.{leb}
use Rattle.numbers.specs.Fraction.{Fraction, half}
use Rattle.numbers.specs.Lists.{Each, done, then}
use Rattle.numbers.specs.Arithmetic.{Close, rounded, exact}
use Rattle.numbers.proofs.Fractions.{close_least}
use Rattle.numbers.proofs.Quantities.{reads_half, close_exact, close_near}
use Rattle.series.specs.Agreement.{Agree, no_value, values}
use Rattle.series.proofs.Gaps.{over_each}
use Rattle.minima.specs.declared.block.Blocks.{Blocks}
use Rattle.minima.specs.Blocks.{flow_on}
use Rattle.minima.specs.TurningPoints.{counting, turning_points, neighbours}
use Rattle.minima.specs.Line.{straight, between, line_on, line, line_over}

close_between : (flows : List ℕ) (i j t : ℕ) → Close half (between rounded flows i j t) (between exact flows i j t)
unfolding between straight
close_between flows i j t = close_least (close_exact _ reads_half) (close_near _ (j - i))

either : (b : Bool) {day u v : Option ℕ} {f g : Option Fraction} → Agree half day u f → Agree half day v g → Agree half day (cond b u v) (cond b f g)
either true p q = p
either false p q = q

below_flow : (flows : List ℕ) (i j t : ℕ) → between rounded flows i j t ≤ 1000 * flow_on flows t
unfolding between
below_flow flows i j t = min-le_left (1000 * flow_on flows t) _

value_agrees : (flows : List ℕ) (pairs : List (ℕ × ℕ)) (t : ℕ) → Agree half (some (flow_on flows t)) (line_on rounded flows pairs t) (line_on exact flows pairs t)
unfolding line_on
value_agrees flows [] t = no_value
value_agrees flows ((i, j) ∷ pairs) t =
    either (leb i t && leb t j) (values (below_flow flows i j t) (close_between flows i j t)) (value_agrees flows pairs t)

-- the days from day k on, whose flows are given
days_agree : (flows : List ℕ) (pairs : List (ℕ × ℕ)) (k : ℕ) (later : List ℕ) → ((t : ℕ) → get_or flows (k + t) 0 ≡ get_or later t 0)
    → Each (Agree half) (map some later) (map (line_on rounded flows pairs) (counting k (length later))) (map (line_on exact flows pairs) (counting k (length later)))
unfolding counting
days_agree flows pairs k [] same = done
days_agree flows pairs k (y ∷ ys) same =
    then (subst (λ y. Agree half (some y) (line_on rounded flows pairs k) (line_on exact flows pairs k)) (ap (λ n. get_or flows n 0) (omega arith) ∙ same 0) (value_agrees flows pairs k))
    (days_agree flows pairs (suc k) ys (λ t. ap (λ n. get_or flows n 0) (omega arith) ∙ same (suc t)))

pub line_distance : (B : Blocks) (days : List (Option ℕ)) → Each (Agree half) days (line_over rounded B days) (line_over exact B days)
unfolding line_over line
line_distance B days =
    over_each (Agree half) no_value (line rounded B) (line exact B)
    (λ flows. days_agree flows (neighbours (turning_points B flows)) 0 flows (λ t. ap (λ n. get_or flows n 0) (omega arith))) days
