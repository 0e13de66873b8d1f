-- The staggered call: its order of refusals, the lists that it leaves, and what it promises of them.
use Rattle.std.specs.Prelude.{ℕ, ◌*◌, Bool, not, ◌||◌, eqb, length}
use Rattle.std.specs.List.{list_all}
use mathlib.Core.List.{List, [], ◌∷◌, map, flat_map}
use Rattle.std.proofs.Math.Option.{Option, none, some}
use Rattle.numbers.specs.Fraction.{half}
use Rattle.numbers.specs.Lists.{Each, Beside}
use Rattle.numbers.specs.Arithmetic.{rounded, exact}
use Rattle.series.specs.Units.{day_of, base_mark, within}
use Rattle.series.specs.Lists.{too_long, lengths_differ, any_invalid_day}
use Rattle.series.specs.Causes.{Cause, cause, leaves}
use Rattle.series.specs.Agreement.{Agree}
use Rattle.minima.specs.declared.LineSetting.{LineSetting}
use Rattle.minima.specs.Call.{blocks_at, out_of_range, no_line}
use Rattle.staggered.specs.Rule.{shifts, lines, staggered}

-- 16: N or g outside its range, or a choice that is not 1, 2 or 3
unfoldable pub bad_setting : LineSetting → (choice : ℕ) → Bool
bad_setting s choice = out_of_range s || not (within 1 3 choice)

-- 25: the work list is not N × the day list long
unfoldable pub work_differs : LineSetting → (days work : List ℕ) → Bool
work_differs s days work = not (eqb (s.block_days * length days) (length work))

-- 17: no shift has a line
unfoldable pub no_lines : LineSetting → List (Option ℕ) → Bool
no_lines s days = list_all (λ o. no_line (blocks_at s o) days) (shifts s)

-- order: staggered 16, 9, 14, 25, 10, 17
unfoldable pub staggered_causes : LineSetting → (choice : ℕ) → (days base work : List ℕ) → List Cause
staggered_causes s choice days base work =
    cause (bad_setting s choice) 16
    ∷ cause (too_long days) 9
    ∷ cause (lengths_differ days base) 14
    ∷ cause (work_differs s days work) 25
    ∷ cause (any_invalid_day days) 10
    ∷ cause (no_lines s (map day_of days)) 17
    ∷ []

-- the base list in memory that shows the rounded chosen values
unfoldable pub chosen_list : LineSetting → (choice : ℕ) → (days : List ℕ) → List ℕ
chosen_list s choice days = map base_mark (staggered rounded s choice (map day_of days))

-- the work list in memory that shows the rounded lines, one behind the other
unfoldable pub work_list : LineSetting → (days : List ℕ) → List ℕ
work_list s days = flat_map (map base_mark) (lines rounded s (map day_of days))

-- the lists at exit: these, or as they were after a refusal
unfoldable pub base_leaves : LineSetting → (choice : ℕ) → (days base work : List ℕ) → List ℕ
base_leaves s choice days base work = leaves (staggered_causes s choice days base work) (chosen_list s choice days) base

unfoldable pub work_leaves : LineSetting → (choice : ℕ) → (days base work : List ℕ) → List ℕ
work_leaves s choice days base work = leaves (staggered_causes s choice days base work) (work_list s days) work

-- The error: each of the N lines, and the chosen one, has a value on the same days as its exact one, between 0 and the flow
-- and within one half of it.
pub record StaggeredWithin (s : LineSetting) (choice : ℕ) (days : List (Option ℕ)) : Type 0 where
  pub each_line : Beside (Each (Agree half) days) (lines rounded s days) (lines exact s days)
  pub chosen_line : Each (Agree half) days (staggered rounded s choice days) (staggered exact s choice days)

-- what a call that accepts promises of its values beside those of the exact run
abbrev pub Promised : (refusal : Option ℕ) → LineSetting → (choice : ℕ) → (days : List ℕ) → Type 0
Promised none s choice days = StaggeredWithin s choice (map day_of days)
Promised (some n) s choice days = Unit {0}
