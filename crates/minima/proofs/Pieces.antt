-- Pieces of a segment's line: the turning point in hand with the next one, and the days between them.
-- Assumes nothing.
use Prim.Native.Nat.{ℕ, ◌+◌, ◌*◌, ◌-◌, ◌≤◌, ◌<◌, min}
use mathlib.Core.Path.{◌≡◌, refl, sym, ◌∙◌, ap, ap₂, subst}
use mathlib.Core.Bool.{Bool, true, false, true≢false, cond, ◌&&◌}
use mathlib.Core.List.{List, [], ◌∷◌}
use mathlib.Core.Option as maybe
use mathlib.Core.Option.{none, some}
use native.Mathlib.Omega.{arith}
use lib.ListN.{length}
use lib.Dec.{leb}
use borrow.Author.Tests.{le-leb, lt-leb}
use Rattle.std.proofs.Common.{Option, Some, None}
use Rattle.numbers.specs.Near.{near}
use Rattle.numbers.proofs.Quantities.{Keeps, rounded_keeps}
use Rattle.numbers.specs.Arithmetic.{Arithmetic, rounded}
use Rattle.series.specs.Units.{day_limit}
use Rattle.minima.specs.declared.block.Blocks.{Blocks}
use Rattle.minima.specs.declared.block.Turning.{Turning}
use Rattle.minima.specs.Blocks.{flow_on}
use Rattle.minima.specs.TurningPoints.{turning_points, neighbours}
use Rattle.minima.specs.Line.{straight, between, line_on}
use Rattle.minima.specs.Call.{has_two}
use Rattle.minima.specs.Private.{points_from, Low, FirstTurning, Found, Span}
use Rattle.minima.proofs.Points.{Rising, all_points, days_rise, points_rise}

-- the value of a day by pairs of neighbours: within the first, before it, behind it
module _ (S : Arithmetic) (flows : List ℕ) (i j : ℕ) (pairs : List (ℕ × ℕ)) (t : ℕ) where
  pub value_within : i ≤ t → t ≤ j → line_on S flows ((i, j) ∷ pairs) t ≡ some (between S flows i j t)
  unfolding line_on
  value_within h k = simp (le-leb i t h, le-leb t j k)

  pub value_before : t < i → line_on S flows ((i, j) ∷ pairs) t ≡ line_on S flows pairs t
  unfolding line_on
  value_before h = simp (lt-leb i t h)

  pub value_behind : j < t → line_on S flows ((i, j) ∷ pairs) t ≡ line_on S flows pairs t
  unfolding line_on
  value_behind h = by_test (leb i t)
    where
      by_test : (b : Bool) → cond (b && leb t j) (some (between S flows i j t)) (line_on S flows pairs t) ≡ line_on S flows pairs t
      by_test true = simp (lt-leb t j h)
      by_test false = refl

module _ (S : Arithmetic) (keeps : Keeps S) (flows : List ℕ) where
  -- on a turning point itself the value is the flow, by the piece that ends there and by the piece that begins there
  pub value_right : (i j : ℕ) → i < j → between S flows i j j ≡ S.number (1000 * flow_on flows j)
  unfolding between straight
  value_right i j h =
      let z : j - j ≡ 0 = omega arith in
      let e : 1000 * (flow_on flows i * (j - j) + flow_on flows j * (j - i)) ≡ 1000 * flow_on flows j * (j - i) = omega (arith, ap (λ n. flow_on flows i * n) z) in
      ap (λ n. S.least (S.number (1000 * flow_on flows j)) (S.quotient (S.number n) (j - i))) e ∙ keeps (1000 * flow_on flows j) (j - i) (omega arith)

  pub value_left : (i j : ℕ) → i < j → between S flows i j i ≡ S.number (1000 * flow_on flows i)
  unfolding between straight
  value_left i j h =
      let z : i - i ≡ 0 = omega arith in
      let e : 1000 * (flow_on flows i * (j - i) + flow_on flows j * (i - i)) ≡ 1000 * flow_on flows i * (j - i) = omega (arith, ap (λ n. flow_on flows j * n) z) in
      ap (λ n. S.least (S.number (1000 * flow_on flows i)) (S.quotient (S.number n) (j - i))) e ∙ keeps (1000 * flow_on flows i) (j - i) (omega arith)

-- the smaller of the flow and the straight line, as the code takes it
pub capped : (flows : List ℕ) (i j t : ℕ) {top r : ℕ} → top ≡ 1000 * flow_on flows t → r ≡ near (1000 * (flow_on flows i * (j - t) + flow_on flows j * (t - i))) (j - i) → min top r ≡ between rounded flows i j t
unfolding between straight
capped flows i j t d e = ap₂ min d e

-- no day before the first turning point has a value
before_points : (flows : List ℕ) (i : ℕ) (points : List ℕ) (t : ℕ) → Rising i points → t < i → line_on rounded flows (neighbours (i ∷ points)) t ≡ none
unfolding line_on neighbours
before_points flows i [] t r h = refl
before_points flows i (j ∷ ps) t r h = value_before rounded flows i j (neighbours (j ∷ ps)) t h ∙ before_points flows j ps t r.1 (omega (arith, r.0))

module _ (B : Blocks) (flows : List ℕ) where
  -- a day's value by turning points, and by all of them
  abbrev by : List ℕ → (t : ℕ) → maybe.Option ℕ
  by points t = line_on rounded flows (neighbours points) t

  abbrev pub value_of : (t : ℕ) → maybe.Option ℕ
  value_of t = by (turning_points B flows) t

  -- of two turning points, one behind the other
  module _ {x y : Turning} (low : Low B flows x) (f : FirstTurning B flows x.block y) where
    order : x.day < y.day
    order = omega (arith, days_rise B flows x.block y.block f.later (omega (arith, f.low.counted)), f.low.day, low.day)

    pub span : length flows ≤ day_limit → Span flows x.day y.day
    span s = record { in_order = order; inside = f.low.inside.0; short = s }

  -- the turning point in hand and the next one: behind it, it is enough with those that follow
  pub record InHand (x : Turning) (next : Option Turning) : Type 0 where
    pub low : Low B flows x
    pub found : Found B flows x.block next
    pub same : (d : ℕ) → x.day < d → by (x.day ∷ points_from B flows x.block) d ≡ value_of d

  module _ {x y : Turning} (v : InHand x (Some y)) where
    same_pair : (d : ℕ) → x.day < d → by (x.day ∷ y.day ∷ points_from B flows y.block) d ≡ value_of d
    same_pair d k = ap (λ ps. by (x.day ∷ ps) d) (sym v.found.points) ∙ v.same d k

    -- the piece between them gives the days behind the first, up to the second
    pub by_piece : (d : ℕ) → x.day < d → d ≤ y.day → some (between rounded flows x.day y.day d) ≡ value_of d
    unfolding neighbours
    by_piece d k l = sym (value_within rounded flows x.day y.day _ d (omega arith) l) ∙ same_pair d k

    -- the next one in hand
    pub next_in_hand : {next : Option Turning} → Found B flows y.block next → InHand y next
    unfolding neighbours
    next_in_hand f =
        record { low = v.found.low; found = f; same = λ d k. sym (value_behind rounded flows x.day y.day _ d k) ∙ same_pair d (omega (arith, order v.low v.found)) }

  -- no next one
  pub none_left : {x : Turning} → InHand x None → (d : ℕ) → x.day < d → none ≡ value_of d
  unfolding line_on neighbours
  none_left {x} v d k = ap (λ ps. by (x.day ∷ ps) d) (sym v.found) ∙ v.same d k

  -- whether a segment has two turning points
  abbrev two : List ℕ → Bool
  two points = leb 2 (length points)

  module _ {x : Turning} (f : FirstTurning B flows 0 x) where
    all : x.day ∷ points_from B flows x.block ≡ turning_points B flows
    all = sym f.points ∙ all_points B flows

    pub one_alone : points_from B flows x.block ≡ [] → has_two B flows ≡ false
    unfolding has_two
    one_alone e = ap two (sym all ∙ ap (λ ps. x.day ∷ ps) e)

    -- no day before the first has a value
    pub before_first : (d : ℕ) → d < x.day → none ≡ value_of d
    before_first d k =
        let rise = subst (λ i. Rising i (points_from B flows x.block)) (sym f.low.day) (points_rise B flows x.block) in
        sym (before_points flows x.day _ d rise k) ∙ ap (λ ps. by ps d) all

    module _ {y : Turning} (g : FirstTurning B flows x.block y) where
      both : x.day ∷ y.day ∷ points_from B flows y.block ≡ turning_points B flows
      both = ap (λ ps. x.day ∷ ps) (sym g.points) ∙ all

      pub both_in_hand : InHand x (Some y)
      both_in_hand = record { low = f.low; found = g; same = λ d _. ap (λ ps. by ps d) all }

      -- the first has its flow
      pub at_first : some (1000 * flow_on flows x.day) ≡ value_of x.day
      unfolding neighbours
      at_first =
          let o = order f.low g in
          ap some (sym (value_left rounded rounded_keeps flows x.day y.day o)) ∙ sym (value_within rounded flows x.day y.day _ x.day (omega arith) (omega arith)) ∙ ap (λ ps. by ps x.day) both

      pub two_found : has_two B flows ≡ true
      unfolding has_two
      two_found = ap two (sym both) ∙ le-leb 2 (length (x.day ∷ y.day ∷ points_from B flows y.block)) (omega arith)

  pub none_found : points_from B flows 0 ≡ [] → has_two B flows ≡ false
  unfolding has_two
  none_found e = ap two (sym (all_points B flows) ∙ e)

  -- without two, no day has a value
  pub none_at_all : has_two B flows ≡ false → (d : ℕ) → none ≡ value_of d
  unfolding has_two line_on neighbours
  none_at_all e d = by_points (turning_points B flows) e
    where
      by_points : (ps : List ℕ) → two ps ≡ false → none ≡ by ps d
      by_points [] h = refl
      by_points (i ∷ []) h = refl
      by_points (i ∷ j ∷ ps) h = absurd (true≢false (sym (le-leb 2 (length (i ∷ j ∷ ps)) (omega arith)) ∙ h))
