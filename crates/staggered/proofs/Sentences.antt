-- READ THIS FIRST: what docs/RULES.md says of staggered blocks, proved of the definitions in specs/:
--   shift o has its line, whose blocks run from o days into each segment (`line_of_shift`, `first_block`), and shift 0 has the
--   line of today (`shift_0`);
--   choice 1 takes the lowest of a day's values, 2 the highest, and 3 the one of rank (c + 1) / 2 (`lowest`, `highest`,
--   `middle`), which is one of the lines' values (`one_of_the_lines`); there is none exactly where c is 0 (`no_value`);
--   each of the N lines, and each of the three results, has a value on the same days as its exact one, between 0 and the flow
--   and within one half of it (`within_half`);
--   with N 1 each choice gives the line of today (`one_block_day`);
--   17 holds exactly when no shift has a line (`no_line_exactly`).
-- Assumes nothing.
use Prim.Native.Nat.{ℕ, zero, suc, ◌+◌, ◌/◌, ◌≤◌, ◌<◌}
use mathlib.Core.Path.{◌≡◌, refl, sym, ◌∙◌, ap, subst}
use mathlib.Core.Bool.{Bool, true, false, cond}
use mathlib.Core.List.Memᴰ
use mathlib.Core.List.{List, [], ◌∷◌, map, Memᴰ}
use mathlib.Core.Option.{Option, none, some, none-ne-some}
use mathlib.Core.Logic.{◌↔◌, ⊎_elim}
use native.Mathlib.Nat.{lt_of_not-le}
use native.Mathlib.Decide.{dec_le}
use native.Mathlib.Omega.{arith}
use lib.Dec.{eqb}
use lib.ListN.{length, get_or, length-map}
use lib.Seq.{ext_get_or}
use Rattle.numbers.specs.Arithmetic.{Arithmetic, rounded}
use Rattle.numbers.specs.Order.{ranked}
use Rattle.numbers.proofs.Sorting.{All}
use Rattle.numbers.proofs.Ranks.{HasRank, rank_found, ranked_one, ranked_none, ranked_alone, ranked_there, lowest_ranked, highest_ranked}
use Rattle.series.proofs.Views.{both_of}
use Rattle.minima.specs.declared.LineSetting.{LineSetting}
use Rattle.minima.specs.Blocks.{block_start}
use Rattle.minima.specs.TurningPoints.{counting}
use Rattle.minima.specs.Line.{line_over}
use Rattle.minima.specs.Call.{blocks_at, blocks_of, no_line}
use Rattle.minima.proofs.Lengths.{counting_length, counting_at, counting_more, counting_none, line_over_length}
use Rattle.minima.proofs.Sentences.{blocks_begin}
use Rattle.staggered.specs.Rule.{lines, on_day, present, rank_of, chosen, staggered}
use Rattle.std.specs.List.{list_all}
use Rattle.staggered.specs.Call.{no_lines, StaggeredWithin}
use Rattle.staggered.proofs.Distance.{staggered_within}

-- the lines
module _ (S : Arithmetic) (s : LineSetting) (days : List (Option ℕ)) where
  pub line_of_shift : (o : ℕ) → o < s.block_days → get_or (lines S s days) o [] ≡ line_over S (blocks_at s o) days
  unfolding lines
  line_of_shift o h = let same : 0 + o ≡ o = omega arith in counting_at _ 0 s.block_days o [] h ∙ ap (λ k. line_over S (blocks_at s k) days) same

  pub shift_0 : 0 < s.block_days → get_or (lines S s days) 0 [] ≡ line_over S (blocks_of s) days
  shift_0 h = line_of_shift 0 h

pub first_block : (s : LineSetting) (o : ℕ) → block_start (blocks_at s o) 0 ≡ o
first_block s o = blocks_begin (blocks_at s o)

-- the choice
module _ (os : List (Option ℕ)) (v : ℕ) where
  pub lowest : Memᴰ v (present os) → All (λ x. v ≤ x) (present os) → chosen rounded 1 os ≡ some v
  unfolding chosen rank_of
  lowest m a = lowest_ranked v m a

  pub highest : Memᴰ v (present os) → All (λ x. x ≤ v) (present os) → chosen rounded 2 os ≡ some v
  unfolding chosen rank_of
  highest m a = highest_ranked v m a

  pub middle : HasRank ((length (present os) + 1) / 2) v (present os) → chosen rounded 3 os ≡ some v
  unfolding chosen rank_of
  middle h = rank_found ((length (present os) + 1) / 2) v (present os) h

module _ (S : Arithmetic) (choice : ℕ) where
  -- of several values, all of one rank or another
  rank_inside : (c : ℕ) → 0 < c → (0 < rank_of choice c) × (rank_of choice c ≤ c)
  unfolding rank_of
  rank_inside c h = go (eqb choice 1) (eqb choice 2)
    where
      go : (a b : Bool) → (0 < cond a 1 (cond b c ((c + 1) / 2))) × (cond a 1 (cond b c ((c + 1) / 2)) ≤ c)
      go true b = (omega arith, omega arith)
      go false true = (omega arith, omega arith)
      go false false = (omega arith, omega arith)

  is_there : {A : Type 0} (os : List (Option A)) {v : A} → Memᴰ v (present os) → Memᴰ (some v) os
  unfolding present
  is_there [] m = absurd (Memᴰ.not-nil m)
  is_there (none ∷ os) m = Memᴰ.tail (is_there os m)
  is_there (some x ∷ os) m = ⊎_elim (λ e. Memᴰ.head (ap some e)) (λ n. Memᴰ.tail (is_there os n)) (Memᴰ.cases_cons m)

  pub one_of_the_lines : (os : List (Option S.Number)) {v : S.Number} → chosen S choice os ≡ some v → Memᴰ (some v) os
  unfolding chosen
  one_of_the_lines os e = is_there os (ranked_one S.at_most _ (present os) e)

  pub no_value : (os : List (Option S.Number)) → (chosen S choice os ≡ none) ↔ (length (present os) ≡ 0)
  unfolding chosen
  no_value os = (missing (present os), empty (present os))
    where
      empty : (l : List S.Number) → length l ≡ 0 → ranked S.at_most (rank_of choice (length l)) l ≡ none
      empty [] e = ranked_none S.at_most _
      empty (x ∷ l) e = absurd (omega arith)

      missing : (l : List S.Number) → ranked S.at_most (rank_of choice (length l)) l ≡ none → length l ≡ 0
      missing [] e = refl
      missing (x ∷ l) e =
          let r = rank_inside (suc (length l)) (omega arith) in
          let t = ranked_there S.at_most (rank_of choice (suc (length l))) (x ∷ l) r.0 r.1 in
          absurd (none-ne-some t.value (sym e ∙ t.found))

-- the error
pub within_half : (s : LineSetting) (choice : ℕ) (days : List (Option ℕ)) → StaggeredWithin s choice days
within_half = staggered_within

-- N 1
module _ (S : Arithmetic) (choice : ℕ) where
  alone : (o : Option S.Number) → chosen S choice (o ∷ []) ≡ o
  unfolding chosen rank_of present
  alone none = ranked_none S.at_most _
  alone (some v) = go (eqb choice 1) (eqb choice 2)
    where
      go : (a b : Bool) → ranked S.at_most (cond a 1 (cond b 1 1)) (v ∷ []) ≡ some v
      go true b = ranked_alone S.at_most v
      go false true = ranked_alone S.at_most v
      go false false = ranked_alone S.at_most v

  one_shift : (n : ℕ) → n ≡ 1 → counting 0 n ≡ 0 ∷ []
  one_shift n e = ap (counting 0) e ∙ counting_more 0 0 ∙ ap (λ l. 0 ∷ l) (counting_none 1)

  pub one_block_day : (s : LineSetting) → s.block_days ≡ 1 → (days : List (Option ℕ)) → staggered S s choice days ≡ line_over S (blocks_of s) days
  unfolding staggered lines
  one_block_day s one days =
      let today = line_over S (blocks_of s) days in
      let n = length days in
      let value : ℕ → Option S.Number = λ t. chosen S choice (on_day t (lines S s days)) in
      let size : length (map value (counting 0 n)) ≡ length today = length-map (counting 0 n) value ∙ counting_length 0 n ∙ sym (line_over_length S (blocks_of s) days) in
      ext_get_or none _ today size
      (λ t h. let same : 0 + t ≡ t = omega arith in counting_at value 0 n t none (omega (arith, size, line_over_length S (blocks_of s) days)) ∙ ap value same ∙ ap (λ k. chosen S choice (on_day t (map (λ o. line_over S (blocks_at s o) days) k))) (one_shift s.block_days one) ∙ alone (get_or today t none))

-- 17
module _ (s : LineSetting) (days : List (Option ℕ)) where
  abbrev Nowhere : Type 0
  Nowhere = (o : ℕ) → o < s.block_days → no_line (blocks_at s o) days ≡ true

  each : (k n : ℕ) → list_all (λ o. no_line (blocks_at s o) days) (counting k n) ≡ true → (o : ℕ) → k ≤ o → o < k + n → no_line (blocks_at s o) days ≡ true
  each k zero e o g h = absurd (omega arith)
  each k (suc n) e o g h =
      let b = both_of (no_line (blocks_at s k) days) (list_all (λ o. no_line (blocks_at s o) days) (counting (suc k) n)) (rw counting_more at e) in
      elim (dec_le o k) [
        | yes l ↦ (let same : k ≡ o = omega arith in subst (λ x. no_line (blocks_at s x) days ≡ true) same b.0)
        | no l ↦ each (suc k) n b.1 o (lt_of_not-le l) (omega arith)
      ]

  all : (k n : ℕ) → ((o : ℕ) → k ≤ o → o < k + n → no_line (blocks_at s o) days ≡ true) → list_all (λ o. no_line (blocks_at s o) days) (counting k n) ≡ true
  all k zero f = rw counting_none
  all k (suc n) f = rw (counting_more, f k (omega arith) (omega arith)) (all (suc k) n (λ o g h. f o (omega arith) (omega arith)))

  pub no_line_exactly : (no_lines s days ≡ true) ↔ Nowhere
  unfolding no_lines
  no_line_exactly = ((λ e o h. each 0 s.block_days e o (omega arith) (omega arith)), (λ f. all 0 s.block_days (λ o g h. f o (omega arith))))
