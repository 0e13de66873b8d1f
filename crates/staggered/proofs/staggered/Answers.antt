-- `staggered::staggered` meets its contract: a check that refuses decides, then whether any shift has a line; else the lines
-- are drawn, and the values chosen from them.
use mathlib.Core.Path.{◌≡◌, sym, ◌∙◌, ap}
use mathlib.Core.Bool.{true, false, cond}
use mathlib.Core.Option.{none, some}
use Rattle.std.specs.Prelude.{Ok, Err}
use Rattle.series.specs.Causes.{refusal_of, first_cause}
use Rattle.series.specs.declared.Refusal.TheVariants.{NoLine}
use Rattle.staggered.specs.Call.{staggered_causes}
use Rattle.std.proofs.Common.{rules}
use Rattle.staggered.proofs.Calls.{checked, by_check, by_line, kept, filled, all_chosen}
use Rattle.staggered.proofs.Distance.{staggered_within}
use Rattle.staggered.proofs.staggered.Goals as goal
use Rattle.staggered.proofs.staggered.Goals.{In_err-refuse_if}

pub returns-in_err-choice-clause-base_list : goal.returns-in_err-choice-clause-base_list
returns-in_err-choice-clause-base_list c = (kept _ _ _ _ _ (by_check _ _ _ _ _ _ c.in_err-choice.ensures.refusal)).0

pub returns-in_err-choice-clause-work_list : goal.returns-in_err-choice-clause-work_list
returns-in_err-choice-clause-work_list c = (kept _ _ _ _ _ (by_check _ _ _ _ _ _ c.in_err-choice.ensures.refusal)).1

by_17 : (c : In_err-refuse_if) → some 17 ≡ first_cause (staggered_causes c.args.setting c.args.choice c.args.days.now c.args.base.now c.args.work.now)
by_17 c = by_line _ _ _ _ _ (Err NoLine) c.in_ok-choice.ensures.refusal (let h : c.no_lines.result ≡ true = search rules in ap (λ b. cond b (some 17) none) (sym h ∙ c.no_lines.ensures))

pub returns-in_err-refuse_if-clause-refusal : goal.returns-in_err-refuse_if-clause-refusal
returns-in_err-refuse_if-clause-refusal c = let r : refusal_of c.from_residual-in_err-refuse_if.result ≡ some 17 = search rules in r ∙ by_17 (goal.at.returns-in_err-refuse_if-clause-refusal c).In_err-refuse_if

pub returns-in_err-refuse_if-clause-base_list : goal.returns-in_err-refuse_if-clause-base_list
returns-in_err-refuse_if-clause-base_list c = (kept _ _ _ _ _ (by_17 (goal.at.returns-in_err-refuse_if-clause-base_list c).In_err-refuse_if)).0

pub returns-in_err-refuse_if-clause-work_list : goal.returns-in_err-refuse_if-clause-work_list
returns-in_err-refuse_if-clause-work_list c = (kept _ _ _ _ _ (by_17 (goal.at.returns-in_err-refuse_if-clause-work_list c).In_err-refuse_if)).1

pub draw-requires : goal.draw-requires
draw-requires c = let k = checked _ _ _ _ _ c.in_ok-choice.ensures.refusal in record { lines_few = k.blocks.1; days_few = k.few; whole = k.whole }

pub returns : goal.returns
returns c =
    let k = checked _ _ _ _ _ c.in_ok-choice.ensures.refusal in
    let e : none ≡ first_cause (staggered_causes c.args.setting c.args.choice c.args.days.now c.args.base.now c.args.work.now) =
    by_line _ _ _ _ _ (Ok tt) c.in_ok-choice.ensures.refusal (let h : c.no_lines.result ≡ false = search rules in ap (λ b. cond b (some 17) none) (sym h ∙ c.no_lines.ensures)) in
    let both = filled _ _ _ _ _ e (all_chosen _ _ _ _ _ k _ c.in_ok-choice.ensures.choice c.draw.ensures c.choose.ensures) c.draw.ensures in
    record { refusal = e; base_list = both.0; work_list = both.1; error = staggered_within _ _ _ }
