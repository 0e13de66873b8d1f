-- `put_days` of a page meets its contract: the lines that are left lead to the end that all of them lead to.
use Prim.Native.Nat.{ℕ, suc, ◌+◌}
use mathlib.Core.Path.{◌≡◌, refl, ap}
use mathlib.Core.List.{List, [], ◌∷◌, ◌++◌}
use mathlib.Core.Logic.{⊎_elim}
use native.Mathlib.Omega.{arith}
use lib.ListN.{length}
use Rattle.series.specs.Units.{day_of}
use Rattle.report.specs.Text.{day_line, day_lines}
use Rattle.report.proofs.Paging.{turned, ended}
use Rattle.report.proofs.page.Page.put_days.Goals as goal

-- the next line, and no line where no day is left
next_line : {start day next : ℕ} {days base ds bs : List ℕ} {d b : ℕ} → day ≡ start → next ≡ day + 1 → days ≡ d ∷ ds → base ≡ b ∷ bs → day_lines start days base ≡ day_line day (day_of d) b ++ day_lines next ds bs
unfolding day_lines
next_line {start} {day} {next} g h e f = let n : next ≡ suc start = omega arith in rw (e, f, n, g) refl

last_line : (day : ℕ) (days base : List ℕ) → length days ≡ 0 → day_lines day days base ≡ []
unfolding day_lines
last_line day [] base h = refl
last_line day (d ∷ days) base h = absurd (omega arith)

pub loop-day-preserved : goal.loop-day-preserved
loop-day-preserved c =
    let s = c.in-Some.ensures.steps in
    let i = c.loop-day.invariant in
    (turned (next_line s.0.0 s.0.1 s.1.0 s.1.1) c.put_day.ensures i.0, omega (arith, ap length s.1.0, ap length s.1.1), omega (arith, s.0, ap length s.1.0))

pub returns : goal.returns
returns c =
    let i = c.loop-day.invariant in
    let done : length c.loop-day.day-iterator.b.a.rest.now ≡ 0 = ⊎_elim (λ s. absurd (omega (arith, s.1.0))) (λ s. ⊎_elim (λ t. t.1.0) (λ t. omega (arith, t.1.0)) s.1) c.in-None.ensures.steps in
    ended (last_line _ _ _ done) i.0
