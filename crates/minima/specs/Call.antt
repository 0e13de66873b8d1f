-- The block call: the blocks of a setting, its order of refusals, and the base list that it leaves.
use Rattle.std.specs.Prelude.{ℕ, Bool, false, not, ◌&&◌, ◌||◌, List, [], ◌∷◌, map, length, leb}
use Rattle.std.proofs.Math.Option.{Option}
use Rattle.numbers.specs.Arithmetic.{rounded}
use Rattle.series.specs.Units.{day_of, base_mark, within}
use Rattle.series.specs.Segments.{parts}
use Rattle.series.specs.Causes.{Cause, cause, leaves}
use Rattle.series.specs.Lists.{too_long, lengths_differ, any_invalid_day}
use Rattle.minima.specs.declared.block.Blocks.{Blocks}
use Rattle.minima.specs.declared.LineSetting.{LineSetting}
use Rattle.minima.specs.TurningPoints.{turning_points}
use Rattle.minima.specs.Line.{line_over}

-- the blocks of a setting that run from `shift` days into each segment
abbrev pub blocks_at : LineSetting → (shift : ℕ) → Blocks
blocks_at s shift = record { days = s.block_days; factor = s.factor; origin = shift }

-- the blocks of a setting: document 01 has them run from each segment's first day
abbrev pub blocks_of : LineSetting → Blocks
blocks_of s = blocks_at s 0

-- 16: N or g outside its range
unfoldable pub out_of_range : LineSetting → Bool
out_of_range s = not (within 1 30 s.block_days && within 1 9999 s.factor)

-- a segment with two turning points
unfoldable pub has_two : Blocks → List ℕ → Bool
has_two B flows = leb 2 (length (turning_points B flows))

-- a test that one of several passes
unfoldable pub any_of : {A : Type 0} → (A → Bool) → List A → Bool
any_of test [] = false
any_of test (x ∷ xs) = test x || any_of test xs

-- 17: no segment has two turning points
unfoldable pub no_line : Blocks → List (Option ℕ) → Bool
no_line B days = not (any_of (has_two B) ((parts days).first ∷ (parts days).rest))

-- order: block 16, 9, 14, 10, 17
unfoldable pub line_causes : LineSetting → (days base : List ℕ) → List Cause
line_causes s days base =
    cause (out_of_range s) 16
    ∷ cause (too_long days) 9
    ∷ cause (lengths_differ days base) 14
    ∷ cause (any_invalid_day days) 10
    ∷ cause (no_line (blocks_of s) (map day_of days)) 17
    ∷ []

-- the base list in memory that shows the rounded line
unfoldable pub line_list : Blocks → (days : List ℕ) → List ℕ
line_list B days = map base_mark (line_over rounded B (map day_of days))

-- the base list at exit: the line, or as it was after a refusal
unfoldable pub line_leaves : LineSetting → (days base : List ℕ) → List ℕ
line_leaves s days base = leaves (line_causes s days base) (line_list (blocks_of s) days) base
