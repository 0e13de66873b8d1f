-- `minima::river::River::segment_end` meets its contract.
use Prim.Native.Nat.{◌+◌, ◌-◌}
use mathlib.Core.Path.{◌≡◌, ◌∙◌, ap}
use lib.ListN.{length, take, drop}
use Rattle.std.proofs.Common.{rules, ◌==◌}
use borrow.Author.Tests.{tests}
use Rattle.std.specs.Option.{unwrap_or}
use Rattle.std.specs.List.{position, position_or_len}
use Rattle.std.proofs.lemmas.Iterator.{YieldsList-from_slice}
use Rattle.std.proofs.lemmas.Iterator.Search.{position_from_yields_List}
use Rattle.std.proofs.lemmas.List.{take_rest}
use Rattle.series.specs.Units.{missing_mark}
use Rattle.minima.proofs.AllSegments.{found_or_all}
use Rattle.minima.proofs.river.River.segment_end.Goals as goal

pub returns-clause-end : goal.returns-clause-end
returns-clause-end c =
    let days = c.args.self.now.days.now in
    let from = c.args.from in
    let rest = take (length days - from) (drop from days) in
    let found : c.position-present.result ≡ position (λ day. day == missing_mark) rest =
    position_from_yields_List (λ day. day == missing_mark) _ _ c.position-present.result c.position-present.ensures.ran (YieldsList-from_slice rest c.iter.ensures.rest) (λ x b q k. search (rules, tests)) in
    ap (λ n. from + n) (c.unwrap_or.ensures ∙ ap (λ o. unwrap_or o (length rest)) found ∙ found_or_all _ rest ∙ ap (position_or_len (λ day. day == missing_mark)) (take_rest days from))
