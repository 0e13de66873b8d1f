-- How long a start is remembered: the base lists of one pass over the same days from two starts that are given. No promise of a
-- call speaks of these; proofs/Forgetting.antt shows it of every setting and every day list.
use Rattle.std.specs.Prelude.{ℕ, ◌+◌, ◌*◌, ◌-◌, ◌^◌, ◌≤◌, ◌<◌, ◌≡◌, List, map, length, get_or}
use Rattle.std.proofs.Math.Option.{Option, none}
use Rattle.series.specs.Units.{day_of}
use Rattle.series.specs.Segments.{Segment}
use Rattle.filter.specs.declared.Setting.{Setting}
use Rattle.filter.specs.declared.start.Start.TheVariants.{Given}
use Rattle.filter.specs.Methods.{weights}
use Rattle.filter.specs.Call.{filtered_list}

-- the first segment: no day before it is present
pub record FirstSegment (days : List (Option ℕ)) (start : ℕ) (flows : List ℕ) : Type 0 where
  pub segment : Segment days start flows
  pub none_before : (t : ℕ) → t < start → get_or days t none ≡ none

-- every other: some day before it is
pub record LaterSegment (days : List (Option ℕ)) (start : ℕ) (flows : List ℕ) : Type 0 where
  pub segment : Segment days start flows
  pub day : ℕ
  pub before : day < start
  pub present : get_or days day none ≡ none → ⊥

-- day t's number in the base list from a start that is given
abbrev pub base_from : Setting → (value : ℕ) → (days : List ℕ) → (t : ℕ) → ℕ
base_from s value days t = get_or (filtered_list s 1 (Given value) days) t 0

pub record Forgets (s : Setting) (low high : ℕ) (days : List ℕ) : Type 0 where
  -- from the higher start the base is lower on no day
  pub never_lower : (t : ℕ) → base_from s low days t ≤ base_from s high days t
  -- k days after the first segment's start the two lie at most (high - low) × A^k / d^k + d / (d - A) apart
  pub forgotten : {start : ℕ} {flows : List ℕ} → FirstSegment (map day_of days) start flows → (k : ℕ) → k < length flows → let w = weights s in
      (base_from s high days (start + k) - base_from s low days (start + k)) * (w.d ^ k * (w.d - w.A)) ≤ (high - low) * w.A ^ k * (w.d - w.A) + w.d * w.d ^ k
  -- on the days of every other segment they are equal
  pub equal_later : {start : ℕ} {flows : List ℕ} → LaterSegment (map day_of days) start flows → (k : ℕ) → k < length flows → base_from s low days (start + k) ≡ base_from s high days (start + k)
