-- The seven filters (document 01, "Filters"): a row of the table for each method. A row reads the whole setting.
use Rattle.std.specs.Prelude.{ℕ, ◌+◌, ◌*◌, ◌-◌, ◌≡◌, Bool, false, cond, not, ◌&&◌, ◌||◌, ltb, leb, eqb, ℤ, pos, ◌*ℤ◌, List}
use Rattle.std.proofs.Math.Option.{Option, none, some}
use Rattle.numbers.specs.Whole.{up, down}
use Rattle.numbers.specs.Arithmetic.{Arithmetic, Weights, row}
use Rattle.series.specs.Units.{within}
use Rattle.series.specs.Segments.{first_present}
use Rattle.filter.specs.declared.Setting.{Setting}
use Rattle.filter.specs.declared.start.Start.{Start}
use Rattle.filter.specs.declared.start.Start.TheVariants.{Usual, Given}
use Rattle.filter.specs.declared.method.Method.{Method}
use Rattle.filter.specs.declared.method.Method.TheVariants.{LyneHollick, Chapman1991, ChapmanMaxwell, Boughton, Eckhardt, TularamIlahee, JakemanHornberger}

-- the method (`Method`, of src/method.rt: the rows of the table by their authors) of a number from 1 to 7; any other number
-- is refused before it is read as one
unfoldable pub method_of : ℕ → Method
method_of m =
    cond (eqb m 1) LyneHollick
    (cond (eqb m 2) Chapman1991
    (cond (eqb m 3) ChapmanMaxwell
    (cond (eqb m 4) Boughton (cond (eqb m 5) Eckhardt (cond (eqb m 7) JakemanHornberger TularamIlahee)))))

-- A, B, C and d; C is a whole number of either sign
unfoldable pub method_weights : Method → Setting → Weights
method_weights LyneHollick s = row (2 * s.p) (10000 - s.p) (pos (10000 - s.p)) 20000
method_weights Chapman1991 s = row (3 * s.p - 10000) (10000 - s.p) (pos (10000 - s.p)) (30000 - s.p)
method_weights ChapmanMaxwell s = row s.p (10000 - s.p) (pos 0) (20000 - s.p)
method_weights Boughton s = row s.p s.q (pos 0) (10000 + s.q)
method_weights Eckhardt s = row (s.p * (10000 - s.q)) ((10000 - s.p) * s.q) (pos 0) (100000000 - s.p * s.q)
method_weights TularamIlahee s = row s.p (10000 - s.p) (pos 0) 10000
method_weights JakemanHornberger s = row (10000 * s.p) (10000 * s.q) (s.s *ℤ pos s.q) (10000 * (10000 + s.q))

unfoldable pub weights : Setting → Weights
unfolding method_weights
weights s = method_weights (method_of s.method) s

-- the range of p and q; q is 0 in a row without it
unfoldable pub method_range : Method → Setting → Bool
method_range LyneHollick s = within 1 9999 s.p && eqb s.q 0
method_range Chapman1991 s = within 3334 9999 s.p && eqb s.q 0
method_range ChapmanMaxwell s = within 1 9999 s.p && eqb s.q 0
method_range Boughton s = within 1 9999 s.p && within 1 10000 s.q
method_range Eckhardt s = within 1 9999 s.p && within 1 9999 s.q
method_range TularamIlahee s = within 1 9999 s.p && eqb s.q 0
method_range JakemanHornberger s = within 1 9999 s.p && within 1 10000 s.q

-- how far s may lie from 0: not at all where the row has none
unfoldable pub method_span : Method → ℕ
method_span LyneHollick = 0
method_span Chapman1991 = 0
method_span ChapmanMaxwell = 0
method_span Boughton = 0
method_span Eckhardt = 0
method_span TularamIlahee = 0
method_span JakemanHornberger = 9999

-- a number of either sign lies from -n to n
unfoldable pub spans : (n : ℕ) → ℤ → Bool
spans n s = leb (up s) n && leb (down s) n

unfoldable pub in_range : Setting → Bool
unfolding method_range method_span
in_range s = method_range (method_of s.method) s && spans (method_span (method_of s.method)) s.s

-- the usual start of pass 1, on a day of flow y: 500 × y, but near(9 × q × y / 100) in method 5
unfoldable pub method_start : (S : Arithmetic) → Method → Setting → (y : ℕ) → S.Number
method_start S LyneHollick s y = S.number (500 * y)
method_start S Chapman1991 s y = S.number (500 * y)
method_start S ChapmanMaxwell s y = S.number (500 * y)
method_start S Boughton s y = S.number (500 * y)
method_start S Eckhardt s y = S.quotient (S.number (9 * s.q * y)) 100
method_start S TularamIlahee s y = S.number (500 * y)
method_start S JakemanHornberger s y = S.number (500 * y)

unfoldable pub start : (S : Arithmetic) → Setting → (y : ℕ) → S.Number
unfolding method_start
start S s y = method_start S (method_of s.method) s y

-- 11: a method that is not 1 to 7
unfoldable pub unknown_method : Setting → Bool
unfolding within
unknown_method s = not (within 1 7 s.method)

-- 12: p, q or s outside its range
unfoldable pub out_of_range : Setting → Bool
out_of_range s = not (in_range s)

-- neither 11 nor 12 holds
pub record Usable (s : Setting) : Type 0 where
  pub known : unknown_method s ≡ false
  pub in_range : out_of_range s ≡ false

-- 29: a start that is given lies above 1000 × the first present flow; where no day is present it is never too high
unfoldable pub above_flow : Option ℕ → (value : ℕ) → Bool
above_flow none value = false
above_flow (some y) value = ltb (1000 * y) value

unfoldable pub start_too_high : Start → (days : List (Option ℕ)) → Bool
unfolding above_flow
start_too_high Usual days = false
start_too_high (Given value) days = above_flow (first_present days) value

-- 13: passes that are not 1, 2 or 3, or are 2 or 3 in another method than 1
unfoldable pub invalid_passes : Setting → ℕ → Bool
unfolding within
invalid_passes s n = not (within 1 3 n) || (ltb 1 n && not (eqb s.method 1))
