-- What is known of a call by its first cause: where it accepts, each test that it passed and the line that it leaves; where
-- it refuses, that the base list is as it was.
-- Assumes nothing.
use Prim.Native.Nat.{ℕ, ◌≤◌}
use mathlib.Core.Path.{◌≡◌}
use mathlib.Core.Bool.{false}
use mathlib.Core.List.{List, map}
use mathlib.Core.Option.{none, some}
use lib.ListN.{length}
use borrow.Author.Tests.{not-false}
use Rattle.numbers.specs.Arithmetic.{rounded}
use Rattle.series.specs.Units.{day_of, base_mark}
use Rattle.std.specs.Prelude.{Result, Ok, Err}
use Rattle.series.specs.declared.Refusal.{Refusal}
use Rattle.series.specs.Causes.{first_cause, Decides}
use Rattle.series.specs.Lists.{too_long, any_invalid_day}
use Rattle.series.proofs.Refusing.{passed, leaves_accepted, leaves_refused, decided_accepted, call_accepted, call_refused}
use Rattle.series.proofs.Tests as tests
use Rattle.series.proofs.Views.{lies, both_of}
use Rattle.minima.specs.declared.LineSetting.{LineSetting}
use Rattle.minima.specs.Line.{line_over}
use Rattle.minima.specs.Call.{blocks_of, out_of_range, no_line, line_causes, line_list, line_leaves}
use Rattle.minima.specs.Private.{Room}

-- N in its range
pub block_range : (s : LineSetting) → out_of_range s ≡ false → (1 ≤ s.block_days) × (s.block_days ≤ 30)
unfolding out_of_range
block_range s e = lies 1 30 s.block_days (both_of _ _ (not-false _ e)).0

module _ (s : LineSetting) (days base : List ℕ) where
  pub record LineAccepted : Type 0 where
    pub in_range : out_of_range s ≡ false
    pub few : too_long days ≡ false
    pub same_length : length days ≡ length base
    pub valid : any_invalid_day days ≡ false
    pub some_line : no_line (blocks_of s) (map day_of days) ≡ false

  pub line_accepted : first_cause (line_causes s days base) ≡ none → LineAccepted
  unfolding line_causes
  line_accepted e =
      let p = passed (line_causes s days base) e in
      record { in_range = p 16; few = p 9; same_length = tests.same_length days base (p 14); valid = p 10; some_line = p 17 }

  pub line_drawn : first_cause (line_causes s days base) ≡ none → line_leaves s days base ≡ map base_mark (line_over rounded (blocks_of s) (map day_of days))
  unfolding line_leaves line_list
  line_drawn e = leaves_accepted (line_causes s days base) _ base e

  pub line_kept : {n : ℕ} → first_cause (line_causes s days base) ≡ some n → line_leaves s days base ≡ base
  unfolding line_leaves
  line_kept e = leaves_refused (line_causes s days base) _ base e

  -- the same by the answer of the check
  module _ {v : Result Unit Refusal} (d : Decides (line_causes s days base) v) where
    pub checked_room : v ≡ Ok tt → Room days base
    checked_room e = let a = line_accepted (decided_accepted d e) in record { few = tests.few_days days a.few; same_length = a.same_length }

    pub checked_drawn : {drawn : List ℕ} → v ≡ Ok tt → drawn ≡ line_list (blocks_of s) days → drawn ≡ line_leaves s days base
    unfolding line_leaves
    checked_drawn {drawn} e f = (call_accepted d _ base e f).1

    pub checked_kept : {r : Refusal} → v ≡ Err r → base ≡ line_leaves s days base
    unfolding line_leaves
    checked_kept e = (call_refused d _ base e).1
