-- Forms computed by the checker from the rule: what converts, what is refused with 28 and with 10, and what comes before and behind.
-- Assumes nothing.
use Prim.Native.Nat.{ℕ}
use mathlib.Core.Path.{◌≡◌, refl}
use mathlib.Core.List.{List, [], ◌∷◌}
use mathlib.Core.Option.{Option, none, some}
use lib.IntN.{pos}
use Rattle.series.specs.Units.{is_invalid_day, within}
use Rattle.series.specs.Causes.{first_cause}
use Rattle.series.specs.Lists.{too_long, lengths_differ, any_invalid_day}
use Rattle.filter.specs.declared.Setting.{Setting}
use Rattle.filter.specs.declared.start.Start.TheVariants.{Usual}
use Rattle.filter.specs.Methods.{unknown_method, method_of, in_range, out_of_range, spans, invalid_passes, start_too_high}
use Rattle.filter.specs.Call.{filter_causes}
use Rattle.minima.specs.declared.LineSetting.{LineSetting}
use Rattle.minima.specs.Call.{line_causes}
use Rattle.minima.specs.Call as Minima
use Rattle.minima.specs.Call.{has_two, any_of, no_line}
use Rattle.minima.specs.TurningPoints.{turning_points, counting}
use Rattle.minima.specs.Blocks.{block_count}
use Rattle.numbers.specs.Lists.{selected}
use Rattle.series.specs.Segments.{parts}
use Rattle.presence.specs.Form.{days_from, days_of, any_one, flow_under_zero, is_invalid_form, number_under_one, is_invalid_flow}
use Rattle.bits.specs.Order.{with_28, over_form}
use Rattle.bits.specs.Calls.{filter_bits_causes, line_bits_causes}

abbrev usual : Setting
usual = record { method = 1; p = 9250; q = 0; s = pos 0 }

-- the number that the filter refuses with
abbrev refused : (passes : ℕ) → (flows words base : List ℕ) → Option ℕ
refused passes flows words base = first_cause (filter_bits_causes usual passes Usual flows words base)

-- no day, two days of which one is missing, and the largest flow
accepted_forms : refused 1 [] [] [] ∷ refused 1 (5 ∷ 0 ∷ []) (1 ∷ []) (0 ∷ 0 ∷ []) ∷ refused 1 (10000000 ∷ []) (1 ∷ []) (0 ∷ []) ∷ [] ≡ none ∷ none ∷ none ∷ []
unfolding filter_bits_causes over_form with_28 filter_causes start_too_high unknown_method out_of_range method_of in_range spans within invalid_passes too_long lengths_differ any_invalid_day is_invalid_day days_of days_from is_invalid_form any_one flow_under_zero is_invalid_flow number_under_one
accepted_forms = refl

-- a word where there is no day, a flow under a zero, a one past the end; that and a number above the limit
wrong_forms : refused 1 [] (0 ∷ []) [] ∷ refused 1 (5 ∷ 6 ∷ []) (1 ∷ []) (0 ∷ 0 ∷ []) ∷ refused 1 (5 ∷ []) (3 ∷ []) (0 ∷ []) ∷ refused 1 (10000001 ∷ []) (3 ∷ []) (0 ∷ []) ∷ [] ≡ some 28 ∷ some 28 ∷ some 28 ∷ some 28 ∷ []
unfolding filter_bits_causes over_form with_28 filter_causes start_too_high unknown_method out_of_range method_of in_range spans within invalid_passes too_long lengths_differ any_invalid_day is_invalid_day days_of days_from is_invalid_form any_one flow_under_zero is_invalid_flow number_under_one
wrong_forms = refl

-- under a one a number above the limit, and the mark of a missing day
wrong_flows : refused 1 (10000001 ∷ []) (1 ∷ []) (0 ∷ []) ∷ refused 1 (4294967295 ∷ []) (1 ∷ []) (0 ∷ []) ∷ [] ≡ some 10 ∷ some 10 ∷ []
unfolding filter_bits_causes over_form with_28 filter_causes start_too_high unknown_method out_of_range method_of in_range spans within invalid_passes too_long lengths_differ any_invalid_day is_invalid_day days_of days_from is_invalid_form any_one flow_under_zero is_invalid_flow number_under_one
wrong_flows = refl

-- what comes before: passes, and the length of the base list, with no day too
earlier_causes : refused 4 [] (0 ∷ []) [] ∷ refused 1 [] (0 ∷ []) (0 ∷ []) ∷ refused 1 (10000001 ∷ []) (3 ∷ []) [] ∷ [] ≡ some 13 ∷ some 14 ∷ some 14 ∷ []
unfolding filter_bits_causes over_form with_28 filter_causes start_too_high unknown_method out_of_range method_of in_range spans within invalid_passes too_long lengths_differ any_invalid_day is_invalid_day days_of days_from is_invalid_form any_one flow_under_zero is_invalid_flow number_under_one
earlier_causes = refl

-- behind: the line over no day has no line, but a wrong form comes first
abbrev line_setting : LineSetting
line_setting = record { block_days = 5; factor = 9000 }

line_forms : first_cause (line_bits_causes line_setting [] [] []) ∷ first_cause (line_bits_causes line_setting [] (0 ∷ []) []) ∷ [] ≡ some 17 ∷ some 28 ∷ []
unfolding line_bits_causes over_form with_28 line_causes Minima.out_of_range within too_long lengths_differ any_invalid_day no_line any_of has_two turning_points counting block_count selected parts days_of days_from is_invalid_form any_one flow_under_zero is_invalid_flow number_under_one
line_forms = refl
