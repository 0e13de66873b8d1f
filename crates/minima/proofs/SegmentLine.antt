-- The line of one segment, as the loop over its days draws it.
-- Assumes nothing.
use Prim.Native.Nat.{ℕ, ◌+◌, ◌*◌, ◌-◌, ◌≤◌, ◌<◌}
use mathlib.Core.Path.{◌≡◌, refl, sym, ◌∙◌, ap, subst}
use mathlib.Core.Bool.{false}
use mathlib.Core.List.{List, ◌++◌, map}
use mathlib.Core.Option as maybe
use mathlib.Core.Option.{some}
use mathlib.Core.Logic.{by_cases}
use native.Mathlib.Nat.{zero-add, sub-zero, lt_of_not-le}
use native.Mathlib.Decide.{dec_le, ℕ_discrete}
use native.Mathlib.Omega.{arith}
use lib.ListN.{length, get_or, set, take, drop, replicate, length-set, length-map, length-append, length-drop, length-replicate, get_or-map, get_or-append}
use lib.Seq.{get_or-take, get_or-set_same, get_or-set_other, get_or-append-add, length-take-le, ext_get_or}
use Rattle.std.proofs.Common.{Option, Some, None}
use Rattle.std.proofs.lemmas.List.{get_or-replicate}
use Rattle.numbers.specs.Arithmetic.{Arithmetic, rounded}
use Rattle.series.specs.Units.{no_value_mark, base_mark}
use Rattle.series.proofs.Views.{mark_none, mark_value}
use Rattle.minima.specs.declared.block.Blocks.{Blocks}
use Rattle.minima.specs.declared.block.Turning.{Turning}
use Rattle.minima.specs.TurningPoints.{turning_points, neighbours}
use Rattle.minima.specs.Line.{line_on, line}
use Rattle.minima.specs.Call.{has_two}
use Rattle.minima.specs.Blocks.{flow_on}
use Rattle.minima.specs.Private.{FirstTurning, Found, Filled, FilledTo}
use Rattle.minima.proofs.Lengths.{counting_at, line_length}
use Rattle.minima.proofs.Pieces.{value_of, InHand, at_first, both_in_hand, before_first, next_in_hand, by_piece, none_left, none_at_all}

module _ (S : Arithmetic) (B : Blocks) (flows : List ℕ) where
  -- the value of a day of the line
  pub line_at : (t : ℕ) (d : maybe.Option S.Number) → t < length flows → get_or (line S B flows) t d ≡ line_on S flows (neighbours (turning_points B flows)) t
  unfolding line
  line_at t d h = counting_at _ 0 (length flows) t d h ∙ ap (line_on S flows (neighbours (turning_points B flows))) (zero-add t)

-- a list filled day by day
module _ (rule : ℕ → ℕ) (a : ℕ) where
  pub filled_none : (base : List ℕ) → Filled rule a a base base
  filled_none base = record { same_length = refl; filled = λ d h k. absurd (omega arith); kept = λ d h. refl }

  pub filled_one : {b : ℕ} {base₀ base : List ℕ} → Filled rule a b base₀ base → {v : ℕ} → a ≤ b → b < length base → v ≡ rule b → Filled rule a (b + 1) base₀ (set base b v)
  filled_one {b} {base₀} {base} f {v} o l e =
      record {
        same_length = length-set base b v ∙ f.same_length;
        filled = λ d h k. by_cases (ℕ_discrete d b) (λ q. subst (λ x. get_or (set base b v) x 0 ≡ rule x) (sym q) (get_or-set_same base b v 0 l ∙ e)) (λ q. get_or-set_other base b d v 0 q ∙ f.filled d h (omega arith));
        kept = λ d h. get_or-set_other base b d v 0 (λ q. omega arith) ∙ f.kept d h;
      }

-- a part of a list, lent and given back as ys, is filled with them
abbrev pub given_back : (i e : ℕ) → List ℕ → List ℕ → List ℕ
given_back i e base ys = take i base ++ (ys ++ drop (e - i) (drop i base))

pub given_back_lem : (i e : ℕ) (base ys : List ℕ) → i ≤ e → e ≤ length base → length ys ≡ e - i → Filled (λ d. get_or ys (d - i) 0) i e base (given_back i e base ys)
given_back_lem i e base ys h k l =
    let front = length-take-le i base (omega arith) in
    record {
      same_length = length-append (take i base) _ ∙ ap (λ n. length (take i base) + n) (length-append ys _) ∙ omega (arith, front, length-drop (e - i) (drop i base), length-drop i base);
      filled = λ d n m. let at : d ≡ length (take i base) + (d - i) = omega (arith, front) in ap (λ x. get_or (given_back i e base ys) x 0) at ∙ get_or-append-add (take i base) _ (d - i) 0 ∙ get_or-append ys _ 0 (d - i) (omega arith);
      kept = λ d n. get_or-append (take i base) _ 0 d (omega (arith, front)) ∙ get_or-take i base d 0 n;
    }

-- a part filled with no value, and one from the front on
pub blank : (i e : ℕ) (base ys : List ℕ) → i ≤ e → e ≤ length base → ys ≡ replicate (length (take (e - i) (drop i base))) no_value_mark → Filled (λ _. no_value_mark) i e base (given_back i e base ys)
blank i e base ys h k r =
    let l : length (take (e - i) (drop i base)) ≡ e - i = length-take-le (e - i) (drop i base) (omega (arith, length-drop i base)) in
    let f = given_back_lem i e base ys h k (ap length r ∙ length-replicate _ no_value_mark ∙ l) in
    record { same_length = f.same_length; filled = λ d g m. f.filled d g m ∙ ap (λ ys. get_or ys (d - i) 0) r ∙ get_or-replicate _ (d - i) no_value_mark 0 (omega (arith, l)); kept = f.kept }

pub blank_front : (e : ℕ) (base ys : List ℕ) → e ≤ length base → ys ≡ replicate (length (take e base)) no_value_mark → Filled (λ _. no_value_mark) 0 e base (ys ++ drop e base)
blank_front e base ys h r =
    let z = sub-zero e in
    subst (λ n. Filled (λ _. no_value_mark) 0 e base (ys ++ drop n base)) z (blank 0 e base ys (omega arith) h (r ∙ ap (λ n. replicate (length (take n base)) no_value_mark) (sym z)))

-- days that are marked to before t stay so, and those from t on are written by a rule
pub further : {mark rule : ℕ → ℕ} {t e : ℕ} {base new : List ℕ} → ((d : ℕ) → d < t → get_or base d 0 ≡ mark d) → Filled rule t e base new → ((d : ℕ) → t ≤ d → d < e → rule d ≡ mark d)
    → (d : ℕ) → d < e → get_or new d 0 ≡ mark d
further {t = t} so_far f marks d k =
    elim (dec_le t d) [
      | yes l ↦ f.filled d l k ∙ marks d l k
      | no l ↦ f.kept d (lt_of_not-le l) ∙ so_far d (lt_of_not-le l)
    ]

module _ (B : Blocks) (flows : List ℕ) where
  -- the number of a day in the base list
  abbrev mark : ℕ → ℕ
  mark t = base_mark (value_of B flows t)

  -- the days up to that of x are drawn, and the turning points in hand give the others
  pub record Drawn (base : List ℕ) (x : Turning) (next : Option Turning) : Type 0 where
    pub same_length : length flows ≡ length base
    pub so_far : (d : ℕ) → d < x.day + 1 → get_or base d 0 ≡ mark d
    pub in_hand : InHand B flows x next

  -- the days before the first turning point, and its own
  pub draw_start : {base new : List ℕ} {v : ℕ} (x y : Turning) → length flows ≡ length base → FirstTurning B flows 0 x → FirstTurning B flows x.block y → Filled (λ _. no_value_mark) 0 x.day base new → x.day < length new
      → v ≡ 1000 * flow_on flows x.day → Drawn (set new x.day v) x (Some y)
  draw_start {base} {new} {v} x y l f g b i e =
      let own = filled_one _ x.day (filled_none mark x.day new) (omega arith) i (e ∙ sym (mark_value _) ∙ ap base_mark (at_first B flows f g)) in
      record {
        same_length = omega (arith, l, b.same_length, own.same_length);
        so_far = further (λ d k. b.filled d (omega arith) k ∙ sym mark_none ∙ ap base_mark (before_first B flows f d k)) own (λ d _ _. refl);
        in_hand = both_in_hand B flows f g;
      }

  -- the line's list
  pub list_length : length (map base_mark (line rounded B flows)) ≡ length flows
  list_length = length-map (line rounded B flows) base_mark ∙ line_length rounded B flows

  marked : (d : ℕ) → d < length flows → get_or (map base_mark (line rounded B flows)) d 0 ≡ mark d
  marked d k = ap (get_or (map base_mark (line rounded B flows)) d) (sym (mark_value 0)) ∙ get_or-map base_mark (line rounded B flows) d (some 0) ∙ ap base_mark (line_at rounded B flows d (some 0) k)

  -- all days drawn
  all_days : {base : List ℕ} → length flows ≡ length base → ((d : ℕ) → d < length flows → get_or base d 0 ≡ mark d) → base ≡ map base_mark (line rounded B flows)
  all_days {base} l h = ext_get_or 0 base (map base_mark (line rounded B flows)) (sym (list_length ∙ l)) (λ d k. h d (omega arith) ∙ sym (marked d (omega arith)))

  pub draw_turn : {base new : List ℕ} {x y : Turning} {next : Option Turning} → Drawn base x (Some y) → FilledTo flows x.day y.day base new → Found B flows y.block next → Drawn new y next
  draw_turn s f n =
      record {
        same_length = omega (arith, f.same_length, s.same_length);
        so_far = further s.so_far f (λ d l k. sym (mark_value _) ∙ ap base_mark (by_piece B flows s.in_hand d (omega arith) (omega arith)));
        in_hand = next_in_hand B flows s.in_hand n;
      }

  pub draw_end : {base new : List ℕ} {x : Turning} → Drawn base x None → Filled (λ _. no_value_mark) (x.day + 1) (length base) base new → new ≡ map base_mark (line rounded B flows)
  draw_end s f = all_days (omega (arith, f.same_length, s.same_length)) (λ d h. further s.so_far f (λ d l k. sym mark_none ∙ ap base_mark (none_left B flows s.in_hand d (omega arith))) d (omega (arith, s.same_length)))

  -- without two turning points no day has a value
  pub no_values : has_two B flows ≡ false → (d : ℕ) → d < length flows → get_or (map base_mark (line rounded B flows)) d 0 ≡ no_value_mark
  no_values e d k = marked d k ∙ ap base_mark (sym (none_at_all B flows e d)) ∙ mark_none
