-- What the private functions ask of their arguments, so that no sum overflows, and the passes as their loops run them,
-- over the numbers of a list in memory. No public promise speaks of these: proofs/GapRuns.antt shows that the loops' runs
-- are the passes of specs/Passes.antt.
use Rattle.std.specs.Prelude.{ℕ, suc, ◌+◌, ◌*◌, ◌-◌, ◌/◌, ◌≤◌, ◌<◌, ◌≡◌, cond, false, List, ◌++◌, length, take, drop, reverse, ◌⊎◌, get_or, ℤ, pos, negsuc, Result, Ok, Err, Some, None}
use Rattle.std.specs.Prelude as Code
use Rattle.std.proofs.Math.Option.{Option, none, some}
use Rattle.numbers.specs.Arithmetic.{rounded, Weights}
use Rattle.numbers.specs.Scan.{scan}
use Rattle.series.specs.Units.{within, no_value_mark, day_of, base_of, base_mark}
use Rattle.series.specs.declared.Refusal.{Refusal}
use Rattle.series.specs.declared.Refusal.TheVariants.{UnknownMethod}
use Rattle.filter.specs.declared.Setting.{Setting}
use Rattle.filter.specs.declared.DailyFilter.{DailyFilter}
use Rattle.filter.specs.declared.method.Method.{Method}
use Rattle.filter.specs.declared.method.Method.TheVariants.{Chapman1991}
use Rattle.filter.specs.declared.method.Share.{Share}
use Rattle.filter.specs.declared.method.Share.TheVariants.{Raises, Lowers}
use Rattle.filter.specs.declared.method.Coefficients.{Coefficients}
use Rattle.filter.specs.declared.pass.Previous.{Previous}
use Rattle.filter.specs.declared.pass.Begun.{Begun}
use Rattle.filter.specs.declared.start.Start.{Start}
use Rattle.filter.specs.Call.{filtered_list}
use Rattle.filter.specs.Methods.{method_of}
use Rattle.filter.specs.Passes.{step}
use Rattle.filter.specs.Daily.{invalid_yesterday, base_on, state_after}

-- the method of a number, or 11
unfoldable pub numbered : ℕ → Result Method Refusal
numbered m = cond (within 1 7 m) (Ok (method_of m)) (Err UnknownMethod)

-- what a row asks of a setting, so that none of its differences is cut off
pub record RowLimits (m : Method) (s : Setting) : Type 0 where
  pub p_low : 1 ≤ s.p
  pub p_high : s.p ≤ 9999
  pub q_high : s.q ≤ 10000
  pub chapman : m ≡ Chapman1991 → 3334 ≤ s.p

-- s × q, by its sign
unfoldable pub share : ℤ → (q : ℕ) → Share
share (pos n) q = Raises (n * q)
share (negsuc n) q = Lowers (suc n * q)

abbrev pub raised : Share → ℕ
raised (Raises c) = c
raised (Lowers c) = 0

abbrev pub lowered : Share → ℕ
lowered (Raises c) = 0
lowered (Lowers c) = c

-- the weights that the code carries
abbrev pub weights_of : Coefficients → Weights
weights_of w = record { A = w.a; B = w.b; C = raised w.c; E = lowered w.c; d = w.d }

-- the sum over the fraction line, with one half of d
abbrev pub dividend : Weights → (f u v : ℕ) → ℕ
dividend w f u v = w.A * f + w.B * u + w.C * v + w.d / 2 - w.E * v

-- at most the largest flow, in thousandths
abbrev pub Small : ℕ → Type 0
Small n = n ≤ 10000000000

-- a number of a base list: no value, or a small one
abbrev pub SmallBase : ℕ → Type 0
SmallBase b = (b ≡ no_value_mark) ⊎ Small b

abbrev pub SmallList : List ℕ → Type 0
SmallList base = (i : ℕ) → SmallBase (get_or base i 0)

abbrev pub SmallPrevious : Code.Option Previous → Type 0
SmallPrevious None = Unit {0}
SmallPrevious (Some day) = Small day.input × Small day.output

-- pass 1: the state after a number of the day list, and the number stored
abbrev pub day_state : Setting → DailyFilter → ℕ → DailyFilter
day_state s st d = state_after s st (day_of d)

abbrev pub day_mark : Setting → DailyFilter → ℕ → ℕ
day_mark s st d = base_mark (base_on s st (day_of d))

unfoldable pub steps_run : Setting → DailyFilter → List ℕ → List ℕ
steps_run s st days = scan (day_state s) (day_mark s) st days

-- pass 1 has begun: what is written, and steps from the state over the days that are left, make it
pub record Begins (s : Setting) (from : Start) (days : List ℕ) (begun : Begun) (base : List ℕ) : Type 0 where
  pub inside : begun.day ≤ length days
  pub valid : invalid_yesterday begun.state.yesterday ≡ false
  pub first_pass : take begun.day base ++ steps_run s begun.state (drop begun.day days) ≡ filtered_list s 1 from days

-- passes 2 and 3: f on a day of u, and the day before
unfoldable pub output : Weights → Code.Option Previous → ℕ → ℕ
output w None u = u
output w (Some day) u = step rounded w day.output u day.input

unfoldable pub previous_after : Weights → Code.Option Previous → Option ℕ → Code.Option Previous
previous_after w st none = None
previous_after w st (some u) = Some (record { input = u; output = output w st u })

unfoldable pub output_on : Weights → Code.Option Previous → Option ℕ → Option ℕ
output_on w st none = none
output_on w st (some u) = some (output w st u)

abbrev pub pass_state : Weights → Code.Option Previous → ℕ → Code.Option Previous
pass_state w st b = previous_after w st (base_of b)

abbrev pub pass_mark : Weights → Code.Option Previous → ℕ → ℕ
pass_mark w st b = base_mark (output_on w st (base_of b))

unfoldable pub forward_run : Weights → List ℕ → List ℕ
forward_run w base = scan (pass_state w) (pass_mark w) None base

unfoldable pub backward_run : Weights → List ℕ → List ℕ
unfolding forward_run
backward_run w base = reverse (forward_run w (reverse base))
