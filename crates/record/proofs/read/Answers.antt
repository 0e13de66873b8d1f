-- `record::read` meets its contract: the head is checked, then the days behind it, and these are written where all passed.
use Prim.Native.Nat.{ℕ}
use mathlib.Core.Path.{◌≡◌, sym, ◌∙◌, ap}
use mathlib.Core.List.{List}
use mathlib.Core.Bool.{false}
use lib.ListN.{length}
use Rattle.std.proofs.lemmas.Result.{err_from_is_err_and}
use Rattle.series.specs.Causes.{Outcome}
use Rattle.record.specs.Call.{days_from, reading, reply_of, read_leaves}
use Rattle.record.proofs.Reading.{with_first, no_head, head_read, replied, list_left, count_fits, front_length, front_filled, list_written}
use Rattle.record.proofs.read.Goals as goal
use Rattle.record.proofs.read.Goals.{In_ok-head}

pub returns-in_err-head-clause-answer : goal.returns-in_err-head-clause-answer
returns-in_err-head-clause-answer c =
    let p = err_from_is_err_and c.from_residual.result c.from_residual.ensures.1 in
    rw (p.1, p.2) (sym (ap reply_of (no_head (length c.args.days.now) c.args.bytes.now c.in_err-head.ensures.causes)))

pub returns-in_err-head-clause-list : goal.returns-in_err-head-clause-list
returns-in_err-head-clause-list c =
    sym (ap (λ o. read_leaves o c.args.days.now) (no_head (length c.args.days.now) c.args.bytes.now c.in_err-head.ensures.causes))

-- behind a head that passed
days : (c : In_ok-head) → Outcome (List ℕ)
days c = days_from false 0 (length c.args.days.now) 0 c.in_ok-head.head.behind.now

all : (c : In_ok-head) → reading (length c.args.days.now) c.args.bytes.now ≡ with_first c.in_ok-head.head.value (days_from false 0 (length c.args.days.now) 0 c.in_ok-head.head.behind.now)
all c = head_read (length c.args.days.now) c.args.bytes.now c.in_ok-head.ensures.causes c.in_ok-head.ensures.found

pub returns-in_err-day_count-clause-answer : goal.returns-in_err-day_count-clause-answer
returns-in_err-day_count-clause-answer c =
    let p = err_from_is_err_and c.from_residual-in_err-day_count.result c.from_residual-in_err-day_count.ensures.1 in
    rw (p.1, p.2) (replied c.in_ok-head.head.value _ c.in_err-day_count.ensures ∙ sym (ap reply_of (all (goal.at.returns-in_err-day_count-clause-answer c).In_ok-head)))

pub returns-in_err-day_count-clause-list : goal.returns-in_err-day_count-clause-list
returns-in_err-day_count-clause-list c =
    list_left c.in_ok-head.head.value _ c.args.days.now c.in_err-day_count.ensures ∙ sym (ap (λ o. read_leaves o c.args.days.now) (all (goal.at.returns-in_err-day_count-clause-list c).In_ok-head))

pub returns-clause-answer : goal.returns-clause-answer
returns-clause-answer c =
    replied c.in_ok-head.head.value _ c.in_ok-day_count.ensures ∙ sym (ap reply_of (all (goal.at.returns-clause-answer c).In_ok-head))

pub slice_bounds-write_days-end : goal.slice_bounds-write_days-end
slice_bounds-write_days-end c = count_fits c.args.days.now c.in_ok-head.head.behind.now c.in_ok-day_count.ensures

pub slice_bounds-write_days-end-2 : goal.slice_bounds-write_days-end-2
slice_bounds-write_days-end-2 c = front_length c.args.days.now c.in_ok-head.head.behind.now c.in_ok-day_count.ensures

pub write_days-requires : goal.write_days-requires
write_days-requires c = front_filled c.args.days.now c.in_ok-head.head.behind.now c.in_ok-day_count.ensures

pub returns-clause-list : goal.returns-clause-list
returns-clause-list c =
    list_written c.args.days.now c.in_ok-head.head.behind.now c.in_ok-day_count.ensures c.in_ok-head.head.value c.write_days.ensures
    ∙ sym (ap (λ o. read_leaves o c.args.days.now) (all (goal.at.returns-clause-list c).In_ok-head))
