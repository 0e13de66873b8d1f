-- `put_days` of a page meets its contract: the lines that are left lead to the end that all of them lead to.
use Prim.Native.Nat.{◌+◌, ◌≤◌}
use mathlib.Core.Path.{◌≡◌}
use lib.ListN.{length}
use Rattle.report.specs.Text.{day_lines}
use Rattle.report.proofs.Paging.{Left}
use Rattle.report.proofs.page.Page.put_days.Given as goal

abbrev pub invariant-loop-day : goal.invariant-loop-day
invariant-loop-day l =
    let rest = l.day-iterator in
    Left (day_lines rest.a.start rest.b.a.rest.now rest.b.b.rest.now) l.self (day_lines l.first_day l.days l.base) l.initial.self
    × (length rest.b.a.rest.now ≡ length rest.b.b.rest.now)
    × (rest.a.start + length rest.b.a.rest.now ≤ l.first_day + 2048)
