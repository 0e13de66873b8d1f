-- What the private functions promise of the turning points that they have in hand. No public promise speaks of these.
use Rattle.std.specs.Prelude.{ℕ, suc, ◌+◌, ◌-◌, ◌≤◌, ◌<◌, ◌≡◌, List, [], ◌∷◌, map, length, get_or, take, drop, true, false, ◌==◌, Option, MatchOption}
use Rattle.std.specs.List.{position_or_len}
use Rattle.numbers.specs.Lists.{selected}
use Rattle.numbers.specs.Arithmetic.{rounded}
use Rattle.series.specs.Units.{day_limit, missing_mark, no_value_mark, day_of}
use Rattle.minima.specs.declared.block.Blocks.{Blocks}
use Rattle.minima.specs.declared.block.Turning.{Turning}
use Rattle.minima.specs.declared.block.Points.{Points}
use Rattle.minima.specs.declared.river.Lined.{Lined}
use Rattle.minima.specs.Blocks.{block_count, minimum_day}
use Rattle.minima.specs.TurningPoints.{middle_turns, counting}
use Rattle.minima.specs.Line.{between}
use Rattle.minima.specs.Call.{has_two, no_line, line_list}

-- the turning points of the triples of blocks that begin with block k or a later one
unfoldable pub points_from : Blocks → List ℕ → (k : ℕ) → List ℕ
points_from B flows k =
    map (λ k. minimum_day B flows (suc k)) (selected (middle_turns B flows) (counting k (block_count B flows - 2 - k)))

-- on x's day lies the minimum of its block, and on day x.after that of the next
pub record Low (B : Blocks) (flows : List ℕ) (x : Turning) : Type 0 where
  pub day : x.day ≡ minimum_day B flows x.block
  pub after : x.after ≡ minimum_day B flows (x.block + 1)
  pub counted : x.block + 1 < block_count B flows
  pub inside : (x.day < length flows) × (x.after < length flows)

-- of the turning points from block `from` on, x is the first
pub record FirstTurning (B : Blocks) (flows : List ℕ) (from : ℕ) (x : Turning) : Type 0 where
  pub points : points_from B flows from ≡ x.day ∷ points_from B flows x.block
  pub low : Low B flows x
  pub later : from < x.block

-- what a search from block `from` on answers: that one, where there is one
abbrev pub Found : Blocks → List ℕ → (from : ℕ) → Option Turning → Type 0
Found B flows from x = MatchOption x (points_from B flows from ≡ []) (FirstTurning B flows from)

-- the first two turning points of a segment ..
pub record FirstPoints (B : Blocks) (flows : List ℕ) (x : Points) : Type 0 where
  pub first : FirstTurning B flows 0 x.first
  pub second : FirstTurning B flows x.first.block x.second

-- .. where there are two
abbrev pub FirstTwo : Blocks → List ℕ → Option Points → Type 0
FirstTwo B flows x = MatchOption x (has_two B flows ≡ false) (FirstPoints B flows)

-- a piece from i to j in a segment that is not too long
pub record Span (flows : List ℕ) (i j : ℕ) : Type 0 where
  pub in_order : i < j
  pub inside : j < length flows
  pub short : length flows ≤ day_limit

-- a list filled by a rule from a to before b; what stands before a is kept
pub record Filled (rule : ℕ → ℕ) (a b : ℕ) (base₀ base : List ℕ) : Type 0 where
  pub same_length : length base ≡ length base₀
  pub filled : (d : ℕ) → a ≤ d → d < b → get_or base d 0 ≡ rule d
  pub kept : (d : ℕ) → d < a → get_or base d 0 ≡ get_or base₀ d 0

-- filled by the line from i to j behind day i, up to day j
abbrev pub FilledTo : List ℕ → (i j : ℕ) → (base₀ base : List ℕ) → Type 0
FilledTo flows i j base₀ base = Filled (between rounded flows i j) (i + 1) (j + 1) base₀ base

-- a base list with a value for each day of a list that is not too long
pub record Room (days base : List ℕ) : Type 0 where
  pub few : length days ≤ day_limit
  pub same_length : length days ≡ length base

-- the first missing day from day `from` on, or the list's end
abbrev pub segment_end : (days : List ℕ) (from : ℕ) → ℕ
segment_end days from = from + position_or_len (λ day. day == missing_mark) (drop from days)

-- the days from day i on have their lines by themselves: no segment goes on over day i
pub record Apart (B : Blocks) (days : List ℕ) (i : ℕ) : Type 0 where
  pub alone : drop i (line_list B days) ≡ line_list B (drop i days)

-- a segment from `from` to before `end`, and its first two turning points
pub record LinedAt (B : Blocks) (days : List ℕ) (x : Lined) : Type 0 where
  pub inside : (x.from ≤ x.end) × (x.end ≤ length days)
  pub end : x.end ≡ segment_end days x.from
  pub apart : Apart B days x.from
  pub points : FirstPoints B (take (x.end - x.from) (drop x.from days)) x.points

-- no day from day `from` to before day i has a value
pub record Unlined (B : Blocks) (days : List ℕ) (from i : ℕ) : Type 0 where
  pub blank : (t : ℕ) → from ≤ t → t < i → get_or (line_list B days) t 0 ≡ no_value_mark

-- the next segment with a line, from day `from` on, before which no day has a value ..
pub record NextAt (B : Blocks) (days : List ℕ) (from : ℕ) (x : Lined) : Type 0 where
  pub onward : from ≤ x.from
  pub before : Unlined B days from x.from
  pub some : no_line B (map day_of (drop from days)) ≡ false
  pub lined : LinedAt B days x

-- .. or no day has
pub record Nowhere (B : Blocks) (days : List ℕ) (from : ℕ) : Type 0 where
  pub before : Unlined B days from (length days)
  pub none : no_line B (map day_of (drop from days)) ≡ true

-- what a search from day `from` on answers: that one, where there is one
abbrev pub NextLined : Blocks → (days : List ℕ) → (from : ℕ) → Option Lined → Type 0
NextLined B days from x = MatchOption x (Nowhere B days from) (NextAt B days from)
