-- The turning points from a block on: how a search finds them one by one, and that their days rise.
-- Assumes nothing.
use Prim.Native.Nat.{ℕ, zero, suc, ◌+◌, ◌*◌, ◌-◌, ◌≤◌, ◌<◌}
use mathlib.Core.Path.{◌≡◌, refl, sym, ◌∙◌, ap}
use mathlib.Core.Bool.{Bool, true, false}
use mathlib.Core.List.{List, [], ◌∷◌, map}
use native.Mathlib.Nat.{mul-le-mul_right, sub-zero, div-le_self}
use native.Mathlib.Numerals.{add-one}
use native.Mathlib.Omega.{arith}
use lib.ListN.{length}
use lib.Dec.{ltb}
use borrow.Author.Tests.{eq-eqb, ne_eqb, lt-ltb, le-ltb}
use Rattle.numbers.specs.Lists.{selected}
use Rattle.numbers.proofs.Selection.{selected_none, selected_pass, selected_fail}
use Rattle.minima.specs.declared.block.Blocks.{Blocks}
use Rattle.minima.specs.declared.block.Turning.{Turning}
use Rattle.minima.specs.Blocks.{flow_on, block_start, block_count, minimum_flow, minimum_day}
use Rattle.minima.specs.TurningPoints.{turns, middle_turns, counting, turning_points}
use Rattle.minima.specs.Private.{points_from, Low, FirstTurning}
use Rattle.minima.proofs.Minima.{minimum_flow_lem, block_minimum}

-- a list of days, each later than the one before it, the first later than a
abbrev pub Rising : ℕ → List ℕ → Type 0
Rising a [] = Unit {0}
Rising a (b ∷ bs) = (a < b) × Rising b bs

-- the test of a turning point: a dry block, then one side after the other
pub dry_turns : (g left middle right : ℕ) → middle ≡ 0 → true ≡ turns g left middle right
unfolding turns
dry_turns g left middle right e = rw (eq-eqb middle 0 e)

module _ (g left middle right : ℕ) {m l : ℕ} (wet : middle ≡ 0 → ⊥) (e : m ≡ g * middle) (f : l ≡ 10000 * left) where
  pub below_left : {r : ℕ} → r ≡ 10000 * right → m < l → ltb m r ≡ turns g left middle right
  unfolding turns
  below_left k h = rw (ne_eqb middle 0 wet, ← e, ← f, ← k) (simp (lt-ltb m l h))

  pub not_below_left : l ≤ m → false ≡ turns g left middle right
  unfolding turns
  not_below_left h = rw (ne_eqb middle 0 wet, ← e, ← f) (simp (le-ltb m l h))

module _ (B : Blocks) (flows : List ℕ) where
  -- there are no more blocks than days behind the origin
  pub count_fits : block_count B flows ≤ length flows - B.origin
  unfolding block_count
  count_fits = div-le_self (length flows - B.origin) B.days

  -- the test of three blocks, by the flows on their minima's days
  flow_at : (j : ℕ) {d : ℕ} → j < block_count B flows → d ≡ minimum_day B flows j → flow_on flows d ≡ minimum_flow B flows j
  flow_at j c e = ap (flow_on flows) e ∙ minimum_flow_lem B flows j c

  tested : {x : Turning} {r : ℕ} {t : Bool} → x.block + 2 < block_count B flows → Low B flows x → r ≡ minimum_day B flows (x.block + 2)
      → t ≡ turns B.factor (flow_on flows x.day) (flow_on flows x.after) (flow_on flows r) → t ≡ middle_turns B flows x.block
  unfolding middle_turns
  tested {x} c low e h =
      let two : x.block + 2 ≡ suc (suc x.block) = omega arith in
      h ∙ rw (flow_at x.block (omega arith) low.day, flow_at (x.block + 1) (omega arith) low.after, flow_at (x.block + 2) c e, add-one, two)

  abbrev triples : ℕ
  triples = block_count B flows - 2

  -- the turning points of some triples, by their first blocks
  abbrev points_of : List ℕ → List ℕ
  points_of ks = map (λ k. minimum_day B flows (suc k)) (selected (middle_turns B flows) ks)

  no_points : (k n : ℕ) → n ≡ 0 → points_of (counting k n) ≡ []
  unfolding counting
  no_points k n e = ap (λ n. points_of (counting k n)) e ∙ ap (map _) (selected_none (middle_turns B flows))

  -- one triple more
  module _ (k n : ℕ) where
    turn_first : middle_turns B flows k ≡ true → points_of (counting k (suc n)) ≡ minimum_day B flows (suc k) ∷ points_of (counting (suc k) n)
    unfolding counting
    turn_first e = ap (map _) (selected_pass (middle_turns B flows) (counting (suc k) n) e)

    turn_not_first : middle_turns B flows k ≡ false → points_of (counting k (suc n)) ≡ points_of (counting (suc k) n)
    unfolding counting
    turn_not_first e = ap (map _) (selected_fail (middle_turns B flows) (counting (suc k) n) e)

  module _ (k : ℕ) (h : k < triples) where
    one_more : points_from B flows k ≡ points_of (counting k (suc (triples - suc k)))
    unfolding points_from
    one_more = ap (λ n. points_of (counting k n)) (omega arith)

    turn_found : middle_turns B flows k ≡ true → points_from B flows k ≡ minimum_day B flows (suc k) ∷ points_from B flows (suc k)
    unfolding points_from
    turn_found e = one_more ∙ turn_first k _ e

    turn_passed : middle_turns B flows k ≡ false → points_from B flows k ≡ points_from B flows (suc k)
    unfolding points_from
    turn_passed e = one_more ∙ turn_not_first k _ e

  pub all_points : points_from B flows 0 ≡ turning_points B flows
  unfolding points_from turning_points
  all_points = ap (λ n. points_of (counting 0 n)) (sub-zero triples)

  -- a search that has passed the triples from block `from` to before block x.block: block k is the third of the next triple
  pub record Searched (from : ℕ) (x : Turning) (k : ℕ) : Type 0 where
    pub onward : from ≤ x.block
    pub passed : points_from B flows from ≡ points_from B flows x.block
    pub low : Low B flows x
    pub third : k ≡ x.block + 2

  pub search_start : {x : Turning} → Low B flows x → Searched x.block x (x.block + 2)
  search_start low = record { onward = omega arith; passed = refl; low = low; third = refl }

  module _ {from k : ℕ} {x : Turning} (s : Searched from x k) where
    pub search_end : block_count B flows ≤ k → points_from B flows from ≡ []
    unfolding points_from
    search_end h = s.passed ∙ no_points x.block (triples - x.block) (omega (arith, s.third))

    module _ {r : ℕ} {t : Bool} (h : k < block_count B flows) (e : r ≡ minimum_day B flows k) (i : r < length flows) (f : t ≡ turns B.factor (flow_on flows x.day) (flow_on flows x.after) (flow_on flows r)) where
      abbrev middle : Turning
      middle = record { day = x.after; block = x.block + 1; after = r }

      next_low : Low B flows middle
      next_low = let next : k ≡ x.block + 1 + 1 = omega (arith, s.third) in record { day = s.low.after; after = e ∙ ap (minimum_day B flows) next; counted = omega (arith, s.third); inside = (s.low.inside.1, i) }

      turns_so : t ≡ middle_turns B flows x.block
      turns_so = tested (omega (arith, s.third)) s.low (e ∙ ap (minimum_day B flows) s.third) f

      pub search_found : t ≡ true → FirstTurning B flows from middle
      search_found y = record { points = s.passed ∙ turn_found x.block (omega (arith, s.third)) (sym turns_so ∙ y) ∙ rw (s.low.after, add-one); low = next_low; later = omega (arith, s.onward) }

      pub search_on : t ≡ false → Searched from middle (k + 1)
      search_on y = record { onward = omega (arith, s.onward); passed = s.passed ∙ turn_passed x.block (omega (arith, s.third)) (sym turns_so ∙ y) ∙ rw (add-one); low = next_low; third = omega (arith, s.third) }

  -- without three blocks there is no turning point
  pub no_triples : block_count B flows < 3 → points_from B flows 0 ≡ []
  unfolding points_from
  no_triples h = no_points 0 (triples - 0) (omega arith)

  -- the days of minima rise from block to block
  pub days_rise : (j k : ℕ) → j < k → k < block_count B flows → minimum_day B flows j < minimum_day B flows k
  unfolding block_start
  days_rise j k h c = omega (arith, mul-le-mul_right B.days h, (block_minimum B flows j (omega arith)).to, (block_minimum B flows k c).from)

  rise_of : (k n b : ℕ) → n ≤ triples - k → b ≤ k → Rising (minimum_day B flows b) (points_of (counting k n))
  rise_of k zero b h l = rw (no_points k 0 refl) tt
  rise_of k (suc n) b h l = by_test (middle_turns B flows k) refl (rise_of (suc k) n (suc k) (omega arith) (omega arith)) (rise_of (suc k) n b (omega arith) (omega arith))
    where
      by_test : (t : Bool) → middle_turns B flows k ≡ t → Rising (minimum_day B flows (suc k)) (points_of (counting (suc k) n)) → Rising (minimum_day B flows b) (points_of (counting (suc k) n))
          → Rising (minimum_day B flows b) (points_of (counting k (suc n)))
      by_test true e r s = rw (turn_first k n e) (days_rise b (suc k) (omega arith) (omega arith), r)
      by_test false e r s = rw (turn_not_first k n e) s

  pub points_rise : (k : ℕ) → Rising (minimum_day B flows k) (points_from B flows k)
  unfolding points_from
  points_rise k = rise_of k (triples - k) k (omega arith) (omega arith)
