-- The six calls over the second form of days: their causes of refusal, by those of the call over the days; and what each answers
-- and leaves, which is what the call over the days answers and leaves, where no cause holds.
use Rattle.std.specs.Prelude.{ℕ, List, length}
use Rattle.numbers.specs.Arithmetic.{rounded}
use Rattle.series.specs.Causes.{Cause, Outcome, outcome, leaves}
use Rattle.filter.specs.declared.Setting.{Setting}
use Rattle.filter.specs.declared.start.Start.{Start}
use Rattle.filter.specs.Call.{filter_causes, filtered_list}
use Rattle.minima.specs.declared.LineSetting.{LineSetting}
use Rattle.minima.specs.Call.{blocks_of, line_causes, line_list}
use Rattle.staggered.specs.Call.{staggered_causes, chosen_list, work_list}
use Rattle.totals.specs.declared.Totals.{Totals}
use Rattle.totals.specs.Call.{listed_days, totals_causes, totals_of}
use Rattle.recession.specs.declared.Statistics.{Statistics}
use Rattle.recession.specs.Ratios.{median}
use Rattle.recession.specs.Call.{counted_ratios, ratio_causes, listed_limbs}
use Rattle.bfimax.specs.Rule.{bfimax}
use Rattle.bfimax.specs.Call.{Spell, spell, bfimax_causes, spell_list}
use Rattle.presence.specs.Form.{days_of}
use Rattle.bits.specs.Order.{over_form}

-- order: filter 11, 12, 13, 9, 14, 28, 10, 29
unfoldable pub filter_bits_causes : Setting → (passes : ℕ) → Start → (flows words base : List ℕ) → List Cause
filter_bits_causes s n from flows words base = over_form flows words (filter_causes s n from (days_of flows words) base)

abbrev pub filter_bits_leaves : Setting → (passes : ℕ) → Start → (flows words base : List ℕ) → List ℕ
filter_bits_leaves s n from flows words base = leaves (filter_bits_causes s n from flows words base) (filtered_list s n from (days_of flows words)) base

-- order: line 16, 9, 14, 28, 10, 17
unfoldable pub line_bits_causes : LineSetting → (flows words base : List ℕ) → List Cause
line_bits_causes s flows words base = over_form flows words (line_causes s (days_of flows words) base)

abbrev pub line_bits_leaves : LineSetting → (flows words base : List ℕ) → List ℕ
line_bits_leaves s flows words base = leaves (line_bits_causes s flows words base) (line_list (blocks_of s) (days_of flows words)) base

-- order: staggered 16, 9, 14, 25, 28, 10, 17
unfoldable pub staggered_bits_causes : LineSetting → (choice : ℕ) → (flows words base work : List ℕ) → List Cause
staggered_bits_causes s choice flows words base work = over_form flows words (staggered_causes s choice (days_of flows words) base work)

abbrev pub base_bits_leaves : LineSetting → (choice : ℕ) → (flows words base work : List ℕ) → List ℕ
base_bits_leaves s choice flows words base work =
    leaves (staggered_bits_causes s choice flows words base work) (chosen_list s choice (days_of flows words)) base

abbrev pub work_bits_leaves : LineSetting → (choice : ℕ) → (flows words base work : List ℕ) → List ℕ
work_bits_leaves s choice flows words base work =
    leaves (staggered_bits_causes s choice flows words base work) (work_list s (days_of flows words)) work

-- order: totals 9, 14, 28, 10, 20, 21
unfoldable pub totals_bits_causes : (flows words base : List ℕ) → List Cause
totals_bits_causes flows words base = over_form flows words (totals_causes (days_of flows words) base)

abbrev pub totals_bits_outcome : (flows words base : List ℕ) → Outcome Totals
totals_bits_outcome flows words base = outcome (totals_bits_causes flows words base) (totals_of (listed_days (days_of flows words) base))

-- order: ratios 18, 9, 14, 28, 10, 20, 19, 22
unfoldable pub ratio_bits_causes : ℕ → (flows words base list : List ℕ) → List Cause
ratio_bits_causes L flows words base list = over_form flows words (ratio_causes L (days_of flows words) base list)

-- what an accepted ratio call answers
unfoldable pub statistics_of : ℕ → (days base : List ℕ) → Statistics
statistics_of L days base = record { count = length (counted_ratios L days base); median = median (counted_ratios L days base) }

abbrev pub ratio_bits_outcome : ℕ → (flows words base list : List ℕ) → Outcome Statistics
ratio_bits_outcome L flows words base list = outcome (ratio_bits_causes L flows words base list) (statistics_of L (days_of flows words) base)

abbrev pub ratio_bits_leaves : ℕ → (flows words base list : List ℕ) → List ℕ
ratio_bits_leaves L flows words base list = leaves (ratio_bits_causes L flows words base list) (listed_limbs L (days_of flows words) base list) list

-- order: BFImax 12, 23, 9, 14, 28, 10, 24, 21
unfoldable pub bfimax_bits_causes : Spell → (flows words base : List ℕ) → List Cause
bfimax_bits_causes s flows words base = over_form flows words (bfimax_causes s (days_of flows words) base)

abbrev pub bfimax_bits_outcome : Spell → (flows words base : List ℕ) → Outcome ℕ
bfimax_bits_outcome s flows words base = outcome (bfimax_bits_causes s flows words base) (bfimax rounded s.p (spell s.last s.duration (days_of flows words)))

abbrev pub bfimax_bits_leaves : Spell → (flows words base : List ℕ) → List ℕ
bfimax_bits_leaves s flows words base = leaves (bfimax_bits_causes s flows words base) (spell_list s (days_of flows words)) base
