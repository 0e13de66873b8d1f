-- The values of a day in the work list, line after line.
-- Assumes nothing.
use Prim.Native.Nat.{ℕ, zero, suc, ◌+◌, ◌/◌, ◌≤◌, ◌<◌}
use mathlib.Core.Path.{◌≡◌, refl, sym, ◌∙◌, ap, ap₂}
use mathlib.Core.List.{List, [], ◌∷◌, ◌++◌, map, flat_map}
use mathlib.Core.Option.{Option, none}
use native.Mathlib.Nat.{add-div_left, div-eq_of_lt, div-le_self}
use native.Mathlib.Omega.{arith}
use lib.ListN.{length, get_or, drop, length-map, length-append}
use lib.Seq.{take_at, drop_at}
use Rattle.std.proofs.lemmas.List.{get_or-take}
use Rattle.std.specs.List.{IsSplitAt}
use Rattle.numbers.proofs.Sorting.{All, none_left, and_all}
use Rattle.series.specs.Units.{base_of, base_mark}
use Rattle.series.proofs.Agreeing.{Shown}
use Rattle.staggered.specs.Rule.{on_day}
use Rattle.staggered.specs.Private.{of_lines, column, shown_on}

pub no_line_left : (work : List ℕ) (days t : ℕ) → length work < days → column work days t ≡ []
unfolding column of_lines
no_line_left work days t h = ap (of_lines work days t) (div-eq_of_lt h)

pub next_line : (work line behind : List ℕ) (days t : ℕ) → t < days → IsSplitAt work days line behind → column work days t ≡ get_or line t 0 ∷ column behind days t
unfolding column of_lines
next_line work line behind days t h s =
    let size : length work ≡ days + length behind = omega arith in
    let one : length behind / days + 1 ≡ suc (length behind / days) = omega arith in
    ap (of_lines work days t) (ap (λ n. n / days) size ∙ add-div_left (length behind) (omega arith) ∙ one)
    ∙ ap₂ (λ x xs. x ∷ xs) (sym (ap (λ l. get_or l t 0) s.1 ∙ get_or-take days work t 0 h)) (ap (λ l. of_lines l days t (length behind / days)) (sym s.2))

-- no more of them than there are numbers
pub column_few : (work : List ℕ) (days t : ℕ) → length (column work days t) ≤ length work
unfolding column of_lines
column_few work days t = omega (arith, count work (length work / days), div-le_self (length work) days)
  where
    count : (l : List ℕ) (k : ℕ) → length (of_lines l days t k) ≡ k
    count l zero = refl
    count l (suc k) = ap suc (count (drop days l) k)

-- the lines one behind the other, each as long as the days: what stands for a day shows what the lines have on that day
pub record Line (days : ℕ) (line : List (Option ℕ)) : Type 0 where
  pub as_long : length line ≡ days
  pub shown : Shown line

at_map : (l : List ℕ) (t : ℕ) → t < length l → get_or (map base_of l) t none ≡ base_of (get_or l t 0)
at_map [] t h = absurd (omega arith)
at_map (x ∷ l) zero h = refl
at_map (x ∷ l) (suc t) h = at_map l t (omega arith)

pub shown_lines : (days t : ℕ) → t < days → {ls : List (List (Option ℕ))} → All (Line days) ls → shown_on (flat_map (map base_mark) ls) days t ≡ on_day t ls
unfolding flat_map
shown_lines days t h none_left = ap (map base_of) (no_line_left [] _ _ (omega arith))
shown_lines days t h (and_all {x = line} {l = ls} k a) =
    let marks = map base_mark line in
    let behind = flat_map (map base_mark) ls in
    let long : length marks ≡ days = length-map line base_mark ∙ k.as_long in
    let split : IsSplitAt (marks ++ behind) days marks behind =
    (omega (arith, long, length-append marks behind), sym (take_at marks behind days long), sym (drop_at marks behind days long), long, omega (arith, long, length-append marks behind)) in
    ap (map base_of) (next_line _ marks behind days t h split)
    ∙ ap₂ (λ x xs. x ∷ xs) (sym (at_map marks t (omega (arith, long))) ∙ ap (λ l. get_or l t none) k.shown) (shown_lines days t h a)
