-- The minimum of a block: its flow is the lowest, its day the earliest such, and no other day is both.
-- Assumes nothing.
use Prim.Native.Nat.{ℕ, zero, suc, ◌+◌, ◌*◌, ◌-◌, ◌/◌, ◌≤◌, ◌<◌, min}
use mathlib.Core.Path.{◌≡◌, refl, sym, ◌∙◌, ap}
use mathlib.Core.Bool.{Bool, true, false, cond}
use mathlib.Core.List.{List, [], ◌∷◌}
use native.Mathlib.Nat.{le_refl, min-le_left, min-le_right, min-eq_left, min-eq_right, le_trans, le_of_lt, lt_of_not-le, le-div_iff_mul-le, add-sub_of_le, div-zero, pos_of_ne-zero}
use native.Mathlib.Decide.{dec_le, ℕ_discrete}
use native.Mathlib.Omega.{arith}
use lib.ListN.{length, get_or, take, drop, length-drop}
use lib.Seq.{get_or-take, get_or-drop, length-take-le}
use lib.Dec.{eqb}
use borrow.Author.Tests.{eqb-true, eqb-false}
use Rattle.minima.specs.declared.block.Blocks.{Blocks}
use Rattle.minima.specs.Blocks.{flow_on, block_start, block_count, block, lowest, earliest, minimum_flow, minimum_day, Minimum}

lowest_below : (ys : List ℕ) (i : ℕ) → i < length ys → lowest ys ≤ get_or ys i 0
unfolding lowest
lowest_below [] i h = absurd (omega arith)
lowest_below (y ∷ []) zero h = le_refl y
lowest_below (y ∷ []) (suc i) h = absurd (omega arith)
lowest_below (y ∷ z ∷ zs) zero h = min-le_left y _
lowest_below (y ∷ z ∷ zs) (suc i) h = le_trans (min-le_right y _) (lowest_below (z ∷ zs) i (omega arith))

-- a flow that stands somewhere
record Stands (ys : List ℕ) (y : ℕ) : Type 0 where
  position : ℕ
  inside : position < length ys
  equal : get_or ys position 0 ≡ y

lowest_stands : (ys : List ℕ) → 0 < length ys → Stands ys (lowest ys)
unfolding lowest
lowest_stands [] h = absurd (omega arith)
lowest_stands (y ∷ []) h = record { position = 0; inside = h; equal = refl }
lowest_stands (y ∷ z ∷ zs) h = by_order (lowest_stands (z ∷ zs) (omega arith)) (dec_le y (lowest (z ∷ zs)))
  where
    by_order : Stands (z ∷ zs) (lowest (z ∷ zs)) → Dec (y ≤ lowest (z ∷ zs)) → Stands (y ∷ z ∷ zs) (min y (lowest (z ∷ zs)))
    by_order s (yes l) = record { position = 0; inside = h; equal = sym (min-eq_left l) }
    by_order s (no l) =
        record { position = suc s.position; inside = omega (arith, s.inside); equal = s.equal ∙ sym (min-eq_right (le_of_lt (lt_of_not-le l))) }

-- where a flow stands at all, `earliest` finds it, and not later
earliest_found : (y : ℕ) (ys : List ℕ) (i : ℕ) → i < length ys → get_or ys i 0 ≡ y → (earliest y ys ≤ i) × (get_or ys (earliest y ys) 0 ≡ y)
unfolding earliest
earliest_found y [] i h s = absurd (omega arith)
earliest_found y (x ∷ xs) i h s = by_test (eqb x y) refl i h s (λ i. earliest_found y xs i)
  where
    by_test : (b : Bool) → eqb x y ≡ b → (i : ℕ) → i < suc (length xs) → get_or (x ∷ xs) i 0 ≡ y → ((i : ℕ) → i < length xs → get_or xs i 0 ≡ y → (earliest y xs ≤ i) × (get_or xs (earliest y xs) 0 ≡ y))
        → (cond b 0 (suc (earliest y xs)) ≤ i) × (get_or (x ∷ xs) (cond b 0 (suc (earliest y xs))) 0 ≡ y)
    by_test true e i h s rest = (omega arith, eqb-true x y e)
    by_test false e zero h s rest = absurd (eqb-false x y e s)
    by_test false e (suc i) h s rest = let r = rest i (omega arith) s in (omega (arith, r.0), r.1)

-- a search of a list up to before position t: none so far is below that at `low`, and each before `low` is above it
pub record LowSoFar (ys : List ℕ) (t low : ℕ) : Type 0 where
  pub inside : low < length ys
  pub lowest_flow : (k : ℕ) → k < t → get_or ys low 0 ≤ get_or ys k 0
  pub earliest_day : (k : ℕ) → k < low → get_or ys low 0 < get_or ys k 0

-- at its end, low is the earliest position of the lowest flow
pub low_found : {ys : List ℕ} {low : ℕ} → LowSoFar ys (length ys) low → low ≡ earliest (lowest ys) ys
low_found {ys} {low} s =
    let m = lowest_stands ys (omega (arith, s.inside)) in
    let e : get_or ys low 0 ≡ lowest ys = omega (arith, s.lowest_flow m.position m.inside, m.equal, lowest_below ys low s.inside) in
    let f = earliest_found (lowest ys) ys low s.inside e in
    by_order f (e ∙ sym f.1) (dec_le low (earliest (lowest ys) ys))
  where
    by_order : (earliest (lowest ys) ys ≤ low) × (get_or ys (earliest (lowest ys) ys) 0 ≡ lowest ys) → get_or ys low 0 ≡ get_or ys (earliest (lowest ys) ys) 0 → Dec (low ≤ earliest (lowest ys) ys) → low ≡ earliest (lowest ys) ys
    by_order f e (yes h) = omega (arith, f.0)
    by_order f e (no h) = absurd (omega (arith, s.earliest_day (earliest (lowest ys) ys) (lt_of_not-le h), e))

-- without a length there are no blocks
pub no_blocks : (B : Blocks) (flows : List ℕ) → B.days ≡ 0 → block_count B flows ≡ 0
unfolding block_count
no_blocks B flows e = ap (λ n. (length flows - B.origin) / n) e ∙ div-zero (length flows - B.origin)

module _ (B : Blocks) (flows : List ℕ) (k : ℕ) where
  abbrev start : ℕ
  start = block_start B k

  -- a block is counted exactly if it is whole
  pub block_days : k < block_count B flows → 0 < B.days
  block_days h = elim (ℕ_discrete B.days 0) [ no n ↦ pos_of_ne-zero n | yes e ↦ absurd (omega (arith, no_blocks B flows e)) ]

  pub whole_block : k < block_count B flows → start + B.days ≤ length flows
  unfolding block_start block_count
  whole_block h =
      let p = block_days h in
      omega (arith, (le-div_iff_mul-le {k = B.days} {x = suc k} {y = length flows - B.origin} p).0 h)

  pub block_counted : 0 < B.days → start + B.days ≤ length flows → k < block_count B flows
  unfolding block_start block_count
  block_counted p h = (le-div_iff_mul-le {k = B.days} {x = suc k} {y = length flows - B.origin} p).1 (omega arith)

  module _ (counted : k < block_count B flows) where
    abbrev days : List ℕ
    days = block B flows k

    block_length : length days ≡ B.days
    unfolding block
    block_length = length-take-le B.days (drop start flows) (omega (arith, length-drop start flows, whole_block counted))

    block_flow : (i : ℕ) → i < B.days → get_or days i 0 ≡ flow_on flows (start + i)
    unfolding block
    block_flow i h = get_or-take B.days (drop start flows) i 0 h ∙ get_or-drop start flows i 0

    -- the block's earliest position of its lowest flow
    abbrev at : ℕ
    at = earliest (minimum_flow B flows k) days

    at_inside : (at < B.days) × (get_or days at 0 ≡ minimum_flow B flows k)
    unfolding minimum_flow
    at_inside =
        let s = lowest_stands days (omega (arith, block_length, block_days counted)) in
        let f = earliest_found (lowest days) days s.position s.inside s.equal in
        (omega (arith, f.0, s.inside, block_length), f.1)

    -- the flow on the minimum's day
    pub minimum_flow_lem : flow_on flows (minimum_day B flows k) ≡ minimum_flow B flows k
    unfolding minimum_day
    minimum_flow_lem = sym (block_flow at at_inside.0) ∙ at_inside.1

    -- a day of the block, by its position there
    flow_at : (t : ℕ) → start ≤ t → t < start + B.days → get_or days (t - start) 0 ≡ flow_on flows t
    flow_at t h l = block_flow (t - start) (omega arith) ∙ ap (flow_on flows) (add-sub_of_le h)

    lowest_flow : (t : ℕ) → start ≤ t → t < start + B.days → minimum_flow B flows k ≤ flow_on flows t
    unfolding minimum_flow
    lowest_flow t h l = omega (arith, flow_at t h l, lowest_below days (t - start) (omega (arith, block_length)))

    earliest_day : (t : ℕ) → start ≤ t → t < start + at → minimum_flow B flows k < flow_on flows t
    earliest_day t h l = by_order (dec_le (flow_on flows t) (minimum_flow B flows k))
      where
        by_order : Dec (flow_on flows t ≤ minimum_flow B flows k) → minimum_flow B flows k < flow_on flows t
        by_order (no g) = lt_of_not-le g
        by_order (yes g) =
            let i = at_inside.0 in
            let m = lowest_flow t h (omega arith) in
            let e : get_or days (t - start) 0 ≡ minimum_flow B flows k = omega (arith, flow_at t h (omega arith)) in
            absurd (omega (arith, (earliest_found (minimum_flow B flows k) days (t - start) (omega (arith, block_length)) e).0))

    -- the minimum of a block: the lowest flow in it, on the first day that has it
    pub block_minimum : Minimum flows start (start + B.days) (minimum_day B flows k)
    unfolding minimum_day
    block_minimum =
        record {
          from = omega arith;
          to = omega (arith, at_inside.0);
          lowest_flow = λ t h l. omega (arith, minimum_flow_lem, lowest_flow t h l);
          earliest_day = λ t h l. omega (arith, minimum_flow_lem, earliest_day t h l);
        }

    pub minimum_inside : minimum_day B flows k < length flows
    minimum_inside = omega (arith, block_minimum.to, whole_block counted)

  -- a block as the code takes it: it lies in the segment, is as long as a block, and is not empty
  abbrev pub first : ℕ
  first = B.origin + k * B.days

  pub block_inside : k < block_count B flows → first + B.days ≤ length flows
  unfolding block_start
  block_inside = whole_block

  pub block_part : k < block_count B flows → take (first + B.days - first) (drop first flows) ≡ block B flows k
  unfolding block block_start
  block_part h = let e : first + B.days - first ≡ B.days = omega arith in ap (λ n. take n (drop first flows)) e

  pub block_long : k < block_count B flows → length (block B flows k) ≡ B.days
  block_long h = block_length h

  pub block_some : k < block_count B flows → 0 < length (block B flows k)
  block_some h = omega (arith, block_length h, block_days h)
