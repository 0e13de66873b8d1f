-- Document 01's sentences on the block-minima line, proved of the definitions in specs/:
--   blocks run from a segment's first day (`first_block`, `next_block`), and an incomplete one is dropped (`complete_blocks`);
--   the minimum of a block is the lowest flow in it, on the first day that has it (`minimum_of_block`);
--   the middle minimum turns where it is 0, or where g times it is below 10000 times either neighbour (`turning_test`);
--   the list of turning points holds each of them (`turning_points_listed`), in order (`turning_points_rise`);
--   any two neighbouring turning points with day t from one to the other give t's value (`value_between`), so a day that
--   ends one piece and begins the next has the same from both; a day between no two has none (`no_value`);
--   each segment has its own line (`each_segment_alone`), and missing days have no value (`missing_days`);
--   17 holds exactly when no segment has two turning points (`no_line_exactly`);
--   the rounded line has a value on the same days as the exact one, at most the flow and within one half of it (`distance`).
-- Assumes nothing.
use Prim.Native.Nat.{ℕ, suc, ◌+◌, ◌*◌, ◌≤◌, ◌<◌}
use mathlib.Core.Path.{◌≡◌, refl, sym, ◌∙◌, ap}
use mathlib.Core.Bool.{Bool, true, false, true≢false, not, ◌||◌}
use mathlib.Core.List.{List, [], ◌∷◌, Memᴰ}
use mathlib.Core.Option.{Option, none, some}
use mathlib.Core.Logic.{◌↔◌, ◌⊎◌, inl, inr, ⊎_elim}
use native.Mathlib.Nat.{lt_of_not-le}
use native.Mathlib.Decide.{dec_le}
use native.Mathlib.Omega.{arith}
use lib.Dec.{eqb}
use lib.ListN.{length, get_or, take, drop, get_or-eq_default}
use borrow.Author.Tests.{eqb-true, eq-eqb, ltb-true, lt-ltb, leb-true, le-leb, not-true}
use Rattle.numbers.specs.Fraction.{half}
use Rattle.numbers.specs.Lists.{Each}
use Rattle.numbers.specs.Arithmetic.{Arithmetic, rounded, exact}
use Rattle.numbers.proofs.Quantities.{Keeps, rounded_keeps, exact_keeps}
use Rattle.series.specs.Segments.{Segment}
use Rattle.series.specs.Agreement.{Agree}
use Rattle.series.proofs.Alone.{alone, missing_day}
use Rattle.series.proofs.SegmentParts.{all_parts, segment_part, part_segment}
use Rattle.series.proofs.Views.{one_of, both_of}
use Rattle.minima.specs.declared.block.Blocks.{Blocks}
use Rattle.minima.specs.declared.LineSetting.{LineSetting}
use Rattle.minima.specs.Blocks.{flow_on, block_start, block_count, minimum_flow, minimum_day, Minimum}
use Rattle.minima.specs.TurningPoints.{turns, TurningPoint, Neighbouring, TwoTurningPoints, turning_points, neighbours}
use Rattle.minima.specs.Line.{between, line, line_over}
use Rattle.minima.specs.Call.{blocks_of, has_two, any_of, no_line}
use Rattle.minima.proofs.Minima.{whole_block, block_counted, minimum_flow_lem, block_minimum, minimum_inside}
use Rattle.minima.proofs.Lengths.{line_length}
use Rattle.minima.proofs.SegmentLine.{line_at}
use Rattle.minima.proofs.AllSegments.{no_points, none_passes, one_passes}
use Rattle.minima.proofs.Neighbours.{Rises, points_in_order, listed_turns, turns_listed, neighbouring_listed, listed_neighbouring, two_neighbours, two_members}
use Rattle.minima.proofs.Values.{by_any, by_none}
use Rattle.minima.proofs.Distance.{line_distance}

-- the two readings of the rules
pub data Reading : Arithmetic → Type 1 where
  rounded_line : Reading rounded
  exact_line : Reading exact

keeps : {S : Arithmetic} → Reading S → Keeps S
keeps rounded_line = rounded_keeps
keeps exact_line = exact_keeps

-- blocks
pub blocks_begin : (B : Blocks) → block_start B 0 ≡ B.origin
unfolding block_start
blocks_begin B = omega arith

pub first_block : (s : LineSetting) → block_start (blocks_of s) 0 ≡ 0
first_block s = blocks_begin (blocks_of s)

module _ (B : Blocks) (flows : List ℕ) (k : ℕ) where
  pub next_block : block_start B (suc k) ≡ block_start B k + B.days
  unfolding block_start
  next_block = omega arith

  pub complete_blocks : 0 < B.days → (k < block_count B flows) ↔ (block_start B k + B.days ≤ length flows)
  complete_blocks positive = (whole_block B flows k, block_counted B flows k positive)

  pub minimum_of_block : k < block_count B flows → Minimum flows (block_start B k) (block_start B k + B.days) (minimum_day B flows k)
  minimum_of_block = block_minimum B flows k

  pub flow_of_minimum : k < block_count B flows → flow_on flows (minimum_day B flows k) ≡ minimum_flow B flows k
  flow_of_minimum = minimum_flow_lem B flows k

-- turning points
abbrev TurningMinimum : (g left middle right : ℕ) → Type 0
TurningMinimum g left middle right = (middle ≡ 0) ⊎ ((g * middle < 10000 * left) × (g * middle < 10000 * right))

either : (b : Bool) → (b || true) ≡ true
either true = refl
either false = refl

pub turning_test : (g left middle right : ℕ) → (turns g left middle right ≡ true) ↔ TurningMinimum g left middle right
unfolding turns
turning_test g left middle right = (tested, turned)
  where
    tested : turns g left middle right ≡ true → TurningMinimum g left middle right
    tested e =
        ⊎_elim (λ z. inl (eqb-true middle 0 z))
        (λ s. let h = both_of _ _ s in inr ((ltb-true (g * middle) (10000 * left) h.0, ltb-true (g * middle) (10000 * right) h.1))) (one_of _ _ e)

    turned : TurningMinimum g left middle right → turns g left middle right ≡ true
    turned (inl z) = rw (eq-eqb middle 0 z)
    turned (inr h) = simp (lt-ltb (g * middle) (10000 * left) h.0, lt-ltb (g * middle) (10000 * right) h.1) (either (eqb middle 0))

module _ (B : Blocks) (flows : List ℕ) where
  abbrev points : List ℕ
  points = turning_points B flows

  pub turning_points_listed : (d : ℕ) → TurningPoint B flows d ↔ Memᴰ d points
  turning_points_listed d = (turns_listed B flows, listed_turns B flows)

  pub turning_points_rise : Rises points
  turning_points_rise = points_in_order B flows

  inside : {d : ℕ} → TurningPoint B flows d → d < length flows
  inside p = omega (arith, p.middle, minimum_inside B flows (suc p.first) (omega (arith, p.three)))

  -- the line of a segment
  module _ (S : Arithmetic) where
    pub value_between : Reading S → (i j t : ℕ) → Neighbouring B flows i j → i ≤ t → t ≤ j → get_or (line S B flows) t none ≡ some (between S flows i j t)
    value_between r i j t n h k =
        line_at S B flows t none (omega (arith, inside n.right)) ∙ by_any S (keeps r) flows points i j t turning_points_rise (neighbouring_listed B flows n) h k

    pub no_value : (t : ℕ) → ((i j : ℕ) → Neighbouring B flows i j → i ≤ t → t ≤ j → ⊥) → get_or (line S B flows) t none ≡ none
    no_value t h =
        elim (dec_le (length flows) t) [
          | yes l ↦ get_or-eq_default (line S B flows) none (omega (arith, line_length S B flows))
          | no l ↦ line_at S B flows t none (lt_of_not-le l) ∙ by_none S flows (neighbours points) t (λ i j m. h i j (listed_neighbouring B flows m))
        ]

  two_exactly : (has_two B flows ≡ true) ↔ TwoTurningPoints B flows
  unfolding has_two
  two_exactly = (
    (λ e. let p = two_neighbours points (leb-true 2 (length points) e) in let n = listed_neighbouring B flows p.2 in record { i = p.0; j = p.1; left = n.left; right = n.right; in_order = n.in_order }),
    (λ p. le-leb 2 (length points) (two_members points (turns_listed B flows p.left) (turns_listed B flows p.right) p.in_order)),
  )

module _ (B : Blocks) (days : List (Option ℕ)) where
  -- lists with gaps
  module _ (S : Arithmetic) where
    pub each_segment_alone : {start : ℕ} {flows : List ℕ} → Segment days start flows → take (length flows) (drop start (line_over S B days)) ≡ line S B flows
    unfolding line_over
    each_segment_alone s = alone (line S B) (line_length S B) s

    pub missing_days : (t : ℕ) → get_or days t none ≡ none → get_or (line_over S B days) t none ≡ none
    unfolding line_over
    missing_days t e = missing_day (line S B) (line_length S B) days t e

  pub distance : Each (Agree half) days (line_over rounded B days) (line_over exact B days)
  distance = line_distance B days

  -- 17
  abbrev Nowhere : Type 0
  Nowhere = (start : ℕ) (flows : List ℕ) → Segment days start flows → TwoTurningPoints B flows → ⊥

  not_empty : (s : List ℕ) → has_two B s ≡ true → 0 < length s
  not_empty [] e = absurd (true≢false (sym e ∙ no_points B))
  not_empty (y ∷ ys) e = omega arith

  pub no_line_exactly : (no_line B days ≡ true) ↔ Nowhere
  unfolding no_line
  no_line_exactly = (
    (λ e start flows s p. true≢false (sym ((two_exactly B flows).1 p) ∙ none_passes (has_two B) flows (all_parts days) (segment_part s) (not-true _ e))),
    (λ h. by_test h (any_of (has_two B) (all_parts days)) refl),
  )
    where
      by_test : Nowhere → (b : Bool) → any_of (has_two B) (all_parts days) ≡ b → not (any_of (has_two B) (all_parts days)) ≡ true
      by_test h false e = ap not e
      by_test h true e =
          let p = one_passes (has_two B) (all_parts days) e in
          let s = part_segment days p.one (not_empty p.one p.passes) p.member in
          absurd (h s.start p.one s.segment ((two_exactly B p.one).0 p.passes))
