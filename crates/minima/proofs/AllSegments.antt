-- The lists with gaps, segment by segment: where a segment ends, whether one has two turning points, and the lines of all.
-- Assumes nothing.
use Prim.Native.Nat.{ℕ, suc, ◌+◌, ◌-◌, ◌≤◌, ◌<◌}
use mathlib.Core.Path.{◌≡◌, refl, sym, ◌∙◌, ap, ap₂}
use mathlib.Core.Bool.{Bool, true, false, true≢false, not, not-not, ◌&&◌, ◌||◌, and-true, or-false}
use mathlib.Core.List.Memᴰ
use mathlib.Core.List.{List, [], ◌∷◌, ◌++◌, map, map-append, append-nil, Memᴰ}
use mathlib.Core.Option as maybe
use mathlib.Core.Option.{none, some}
use mathlib.Core.Logic.{⊎_elim}
use native.Mathlib.Nat.{add-zero, add-sub_of_le, lt_of_not-le}
use native.Mathlib.Numerals.{add-one}
use native.Mathlib.Decide.{dec_le}
use native.Mathlib.Omega.{arith}
use lib.ListN.{length, get_or, take, drop, length-drop, take-append-drop, drop_of_length-le, get_or-append}
use lib.Seq.{length-take-le, get_or-take, get_or-drop, drop-drop, drop_at, drop-cons, ext_get_or}
use Rattle.std.proofs.Common.{Option, Some, None, is_some, ◌==◌}
use Rattle.std.specs.Option.{unwrap_or}
use Rattle.std.specs.List.{position, position_or_len}
use borrow.Author.Tests.{eq-eqb, eqb-true}
use Rattle.std.proofs.lemmas.Bool.Decides.{nat_tests}
use Rattle.std.proofs.lemmas.List.Sums.{prefix_len-le-length, fails_before_first, passes_at_first}
use Rattle.numbers.specs.Arithmetic.{rounded}
use Rattle.series.specs.Units.{day_limit, missing_mark, no_value_mark, day_of, base_mark}
use Rattle.series.proofs.Alone.{over_one}
use Rattle.series.proofs.SegmentParts.{parts_gap, parts_one, over_before_gap}
use Rattle.series.proofs.Views.{one_of, neither_of, day_missing, day_present, mark_none}
use Rattle.minima.specs.declared.block.Blocks.{Blocks}
use Rattle.minima.specs.declared.block.Points.{Points}
use Rattle.minima.specs.declared.river.Lined.{Lined}
use Rattle.minima.specs.TurningPoints.{counting}
use Rattle.minima.specs.Line.{line, line_over}
use Rattle.minima.specs.Call.{has_two, any_of, no_line, line_list}
use Rattle.minima.specs.Private.{FirstPoints, Filled, Room, segment_end, Apart, LinedAt, NextAt, Nowhere, NextLined}
use Rattle.minima.proofs.Points.{count_fits, all_points, no_triples}
use Rattle.minima.proofs.Pieces.{two_found}
use Rattle.minima.proofs.Lengths.{line_list_length}
use Rattle.minima.proofs.SegmentLine.{given_back, given_back_lem, further, list_length, no_values}

-- the first missing day's position, or the list's length
pub found_or_all : (test : ℕ → Bool) (ys : List ℕ) → unwrap_or (position test ys) (length ys) ≡ position_or_len test ys
found_or_all test ys = grind (arith, nat_tests, prefix_len-le-length)

-- the days from `from` to before e are present, and e is missing or the list's end
record SegmentEnd (days : List ℕ) (from e : ℕ) : Type 0 where
  forward : from ≤ e
  inside : e ≤ length days
  present : (d : ℕ) → from ≤ d → d < e → get_or days d 0 ≡ missing_mark → ⊥
  missing : e < length days → get_or days e 0 ≡ missing_mark

ended : (days : List ℕ) {from e : ℕ} → from ≤ length days → e ≡ segment_end days from → SegmentEnd days from e
ended days {from} {e} h q =
    record {
      forward = omega arith;
      inside = omega (arith, length-drop from days, prefix_len-le-length (λ day. not (test day)) rest);
      present = λ d k l m. true≢false (sym (eq-eqb (get_or days d 0) missing_mark m) ∙ ap test (sym (at d k)) ∙ fails_before_first test rest (d - from) 0 (omega arith));
      missing = λ l. eqb-true (get_or days e 0) missing_mark (ap test (sym (at e (omega arith)) ∙ ap (λ n. get_or rest n 0) (omega arith)) ∙ passes_at_first test rest 0 (omega (arith, length-drop from days)));
    }
  where
    test : ℕ → Bool
    test day = day == missing_mark

    rest : List ℕ
    rest = drop from days

    at : (d : ℕ) → from ≤ d → get_or rest (d - from) 0 ≡ get_or days d 0
    at d k = get_or-drop from days (d - from) 0 ∙ ap (λ n. get_or days n 0) (add-sub_of_le k)

-- the days from i to before e
abbrev pub part : {A : Type 0} → (i e : ℕ) → List A → List A
part i e days = take (e - i) (drop i days)

all_present : (days : List ℕ) → ((d : ℕ) → d < length days → get_or days d 0 ≡ missing_mark → ⊥) → map day_of days ≡ map some days
all_present [] h = refl
all_present (d ∷ ds) h = ap₂ (λ x xs. x ∷ xs) (day_present d (h 0 (omega arith))) (all_present ds (λ n l. h (suc n) (omega arith)))

-- the days from i on: a segment, and what stands from its end on
module _ (days : List ℕ) (i e : ℕ) (s : SegmentEnd days i e) where
  part_length : length (part i e days) ≡ e - i
  part_length = length-take-le (e - i) (drop i days) (omega (arith, length-drop i days, s.inside))

  part_present : map day_of (part i e days) ≡ map some (part i e days)
  part_present =
      all_present (part i e days) (λ d h m. s.present (i + d) (omega arith) (omega (arith, part_length)) (sym (get_or-take (e - i) (drop i days) d 0 (omega (arith, part_length)) ∙ get_or-drop i days d 0) ∙ m))

  split : map day_of (drop i days) ≡ map some (part i e days) ++ map day_of (drop e days)
  split =
      let rest : drop (e - i) (drop i days) ≡ drop e days = drop-drop (e - i) i days ∙ ap (λ n. drop n days) (add-sub_of_le s.forward) in
      ap (map day_of) (sym (take-append-drop (e - i) (drop i days))) ∙ map-append day_of (part i e days) (drop (e - i) (drop i days)) ∙ ap₂ (λ a b. a ++ map day_of b) part_present rest

  -- a gap, or the list's end
  before_gap : e < length days → map day_of (drop i days) ≡ map some (part i e days) ++ none ∷ map day_of (drop (e + 1) days)
  before_gap h = split ∙ rw (drop-cons days e 0 h, day_missing _ (s.missing h), add-one)

  before_end : length days ≤ e → map day_of (drop i days) ≡ map some (part i e days)
  before_end h = split ∙ rw (drop_of_length-le days h, append-nil)

-- a test that one of several passes, or none
pub none_passes : {A : Type 0} (test : A → Bool) (x : A) (xs : List A) → Memᴰ x xs → any_of test xs ≡ false → test x ≡ false
unfolding any_of
none_passes test x [] m e = absurd (Memᴰ.not-nil m)
none_passes test x (y ∷ ys) m e =
    let n = neither_of (test y) (any_of test ys) e in
    ⊎_elim (λ f. ap test f ∙ n.0) (λ k. none_passes test x ys k n.1) (Memᴰ.cases_cons m)

pub record Passing {A : Type 0} (test : A → Bool) (xs : List A) : Type 0 where
  pub one : A
  pub member : Memᴰ one xs
  pub passes : test one ≡ true

pub one_passes : {A : Type 0} (test : A → Bool) (xs : List A) → any_of test xs ≡ true → Passing test xs
unfolding any_of
one_passes test [] e = absurd (true≢false (sym e))
one_passes test (x ∷ xs) e =
    ⊎_elim (λ h. record { one = x; member = Memᴰ.head refl; passes = h }) (λ h. let p = one_passes test xs h in record { one = p.one; member = Memᴰ.tail p.member; passes = p.passes }) (one_of (test x) (any_of test xs) e)

neither : (a b : Bool) → not (a || b) ≡ (not a && not b)
neither true b = refl
neither false b = refl

module _ (B : Blocks) where
  -- whether a segment has two turning points, segment by segment
  no_line_gap : (s : List ℕ) (ds : List (maybe.Option ℕ)) → no_line B (map some s ++ none ∷ ds) ≡ (not (has_two B s) && no_line B ds)
  unfolding no_line any_of
  no_line_gap s ds = ap (λ ps. not (any_of (has_two B) ps)) (parts_gap s ds) ∙ neither (has_two B s) _

  no_line_end : (s : List ℕ) → no_line B (map some s) ≡ not (has_two B s)
  unfolding no_line any_of
  no_line_end s = ap (λ ps. not (any_of (has_two B) ps)) (parts_one s) ∙ ap not (or-false (has_two B s))

  pub no_points : has_two B [] ≡ false
  unfolding has_two
  no_points = rw (← all_points B [], no_triples B [] (omega (arith, count_fits B [])))

  no_line_empty : no_line B [] ≡ true
  no_line_empty = no_line_end [] ∙ ap not no_points

  -- the segment from i to e, and those behind it
  no_line_here : (days : List ℕ) (i e : ℕ) → SegmentEnd days i e → no_line B (map day_of (drop i days)) ≡ (not (has_two B (part i e days)) && no_line B (map day_of (drop (e + 1) days)))
  no_line_here days i e s =
      elim (dec_le (length days) e) [
        | no n ↦ ap (no_line B) (before_gap days i e s (lt_of_not-le n)) ∙ no_line_gap (part i e days) _
        | yes l ↦
            let nothing : drop (e + 1) days ≡ [] = drop_of_length-le days {i = e + 1} (omega arith) in
            ap (no_line B) (before_end days i e s l) ∙ no_line_end (part i e days) ∙ sym (rw (nothing, no_line_empty) (and-true (not (has_two B (part i e days)))))
      ]

  -- the line of all segments, from a segment's first day on, and from a missing day on
  empty_list : line_list B [] ≡ []
  unfolding line_list line_over line counting
  empty_list = ap (map base_mark) (over_one (line rounded B) [])

  gap_first : (days : List ℕ) (e : ℕ) → e < length days → get_or days e 0 ≡ missing_mark → line_list B (drop e days) ≡ no_value_mark ∷ line_list B (drop (e + 1) days)
  unfolding line_list line_over line counting
  gap_first days e h m = rw (drop-cons days e 0 h, day_missing _ m, add-one, over_before_gap (line rounded B) [], mark_none)

  pub apart_start : (days : List ℕ) → Apart B days 0
  apart_start days = record { alone = refl }

  module _ (days : List ℕ) (i e : ℕ) (s : SegmentEnd days i e) where
    abbrev drawing : List ℕ
    drawing = map base_mark (line rounded B (part i e days))

    drawing_length : length drawing ≡ e - i
    drawing_length = list_length B (part i e days) ∙ part_length days i e s

    split_list : line_list B (drop i days) ≡ drawing ++ line_list B (drop e days)
    unfolding line_list line_over
    split_list = by_end (dec_le (length days) e)
      where
        by_end : Dec (length days ≤ e) → line_list B (drop i days) ≡ drawing ++ line_list B (drop e days)
        by_end (yes l) = rw (before_end days i e s l, over_one, drop_of_length-le days {i = e} l, empty_list, append-nil)
        by_end (no n) = let h = lt_of_not-le n in rw (before_gap days i e s h, gap_first days e h (s.missing h), over_before_gap, map-append, mark_none)

    module _ (a : Apart B days i) where
      value_in : (d : ℕ) → i ≤ d → d < e → get_or (line_list B days) d 0 ≡ get_or drawing (d - i) 0
      value_in d h k =
          ap (λ n. get_or (line_list B days) n 0) (sym (add-sub_of_le h)) ∙ sym (get_or-drop i (line_list B days) (d - i) 0) ∙ ap (λ l. get_or l (d - i) 0) (a.alone ∙ split_list)
          ∙ get_or-append drawing _ 0 (d - i) (omega (arith, drawing_length))

      apart_end : Apart B days e
      apart_end =
          record { alone = ap (λ n. drop n (line_list B days)) (sym (add-sub_of_le s.forward)) ∙ sym (drop-drop (e - i) i (line_list B days)) ∙ ap (drop (e - i)) (a.alone ∙ split_list) ∙ drop_at drawing _ (e - i) drawing_length }

      value_gap : e < length days → get_or (line_list B days) e 0 ≡ no_value_mark
      value_gap h = ap (λ n. get_or (line_list B days) n 0) (sym (add-zero e)) ∙ sym (get_or-drop e (line_list B days) 0 0) ∙ ap (λ l. get_or l 0 0) (apart_end.alone ∙ gap_first days e h (s.missing h))

      apart_next : e < length days → Apart B days (e + 1)
      apart_next h = record { alone = sym (drop-drop 1 e (line_list B days)) ∙ ap (drop 1) (apart_end.alone ∙ gap_first days e h (s.missing h)) }

  -- a search for a segment with a line, from day `from` on: before day i there is none
  pub record Seeking (days : List ℕ) (from i : ℕ) : Type 0 where
    pub onward : from ≤ i
    pub apart : i ≤ length days → Apart B days i
    pub blank : (t : ℕ) → from ≤ t → t < i → t < length days → get_or (line_list B days) t 0 ≡ no_value_mark
    pub none_yet : no_line B (map day_of (drop from days)) ≡ no_line B (map day_of (drop i days))

  pub seek_start : {days : List ℕ} {from : ℕ} → Apart B days from → Seeking days from from
  seek_start a = record { onward = omega arith; apart = λ _. a; blank = λ t h k. absurd (omega arith); none_yet = refl }

  module _ (days : List ℕ) {from i : ℕ} (k : Seeking days from i) where
    module _ {e : ℕ} (q : e ≡ segment_end days i) (l : i < length days) where
      s : SegmentEnd days i e
      s = ended days (omega arith) q

      found_so : {b : Bool} → has_two B (part i e days) ≡ b → no_line B (map day_of (drop from days)) ≡ (not b && no_line B (map day_of (drop (e + 1) days)))
      found_so h = k.none_yet ∙ no_line_here days i e s ∙ ap (λ b. not b && no_line B (map day_of (drop (e + 1) days))) h

      apart : Apart B days i
      apart = k.apart (omega arith)

      pub seek_on : has_two B (part i e days) ≡ false → Seeking days from (e + 1)
      seek_on w =
          record { onward = omega (arith, k.onward, s.forward); apart = λ n. apart_next days i e s apart (omega arith); blank = λ t. by_day t (dec_le i t) (dec_le e t); none_yet = found_so w }
        where
          by_day : (t : ℕ) → Dec (i ≤ t) → Dec (e ≤ t) → from ≤ t → t < e + 1 → t < length days → get_or (line_list B days) t 0 ≡ no_value_mark
          by_day t (no a) b g m n = k.blank t g (lt_of_not-le a) n
          by_day t (yes a) (no b) g m n = value_in days i e s apart t a (lt_of_not-le b) ∙ no_values B (part i e days) w (t - i) (omega (arith, part_length days i e s, lt_of_not-le b))
          by_day t (yes a) (yes b) g m n = let same : t ≡ e = omega arith in ap (λ d. get_or (line_list B days) d 0) same ∙ value_gap days i e s apart (omega arith)

      pub seek_found : {x : Points} → FirstPoints B (part i e days) x → NextAt B days from (record { from = i; end = e; points = x })
      seek_found p =
          record {
            onward = k.onward;
            before = record { blank = λ t m n. k.blank t m n (omega arith) };
            some = found_so (two_found B _ p.first p.second);
            lined = record { inside = (s.forward, s.inside); end = q; apart = apart; points = p };
          }

    pub seek_end : length days ≤ i → Nowhere B days from
    seek_end h =
        record {
          before = record { blank = λ t m n. k.blank t m (omega arith) n };
          none = k.none_yet ∙ ap (λ ds. no_line B (map day_of ds)) (drop_of_length-le days h) ∙ no_line_empty;
        }

  -- the lines drawn segment by segment: before day t the base list is done, and x is the next segment with a line
  pub record SoFar (days base : List ℕ) (t : ℕ) (x : Option Lined) : Type 0 where
    pub same_length : length days ≡ length base
    pub forward : t ≤ length days
    pub so_far : (d : ℕ) → d < t → get_or base d 0 ≡ get_or (line_list B days) d 0
    pub next : NextLined B days t x

  pub start_drawing : {days base : List ℕ} {x : Option Lined} → length days ≡ length base → NextLined B days 0 x → SoFar days base 0 x
  start_drawing l n = record { same_length = l; forward = omega arith; so_far = λ d h. absurd (omega arith); next = n }

  pub all_drawn : {days base new : List ℕ} {t : ℕ} → SoFar days base t None → Filled (λ _. no_value_mark) t (length base) base new → new ≡ line_list B days
  all_drawn {days} {new = new} f b =
      ext_get_or 0 new (line_list B days) (omega (arith, b.same_length, f.same_length, line_list_length B days))
      (λ d h. further f.so_far b (λ d h k. sym (f.next.before.blank d h (omega (arith, f.same_length)))) d (omega (arith, b.same_length, f.same_length)))

  module _ (days : List ℕ) {base new : List ℕ} {t : ℕ} (x : Lined) (f : SoFar days base t (Some x)) (b : Filled (λ _. no_value_mark) t x.from base new) where
    at : LinedAt B days x
    at = f.next.lined

    seg : SegmentEnd days x.from x.end
    seg = ended days (omega (arith, at.inside)) at.end

    -- the segment lies in both lists, and is not empty
    pub inside : (x.from < x.end) × (x.end ≤ length days) × (x.end ≤ length new)
    inside = (
      omega (arith, at.points.first.low.inside, part_length days x.from x.end seg),
      seg.inside,
      omega (arith, seg.inside, b.same_length, f.same_length),
    )

    pub lent : length days ≤ day_limit → Room (part x.from x.end days) (part x.from x.end new)
    lent few =
        let n = part_length days x.from x.end seg in
        record { few = omega (arith, n, seg.inside, few); same_length = n ∙ sym (length-take-le (x.end - x.from) (drop x.from new) (omega (arith, length-drop x.from new, inside))) }

    pub draw_next : {ys : List ℕ} {next : Option Lined} → ys ≡ map base_mark (line rounded B (part x.from x.end days)) → NextLined B days x.end next → SoFar days (given_back x.from x.end new ys) x.end next
    draw_next {ys} d n =
        let g = given_back_lem x.from x.end new ys seg.forward (inside.2) (ap length d ∙ drawing_length days x.from x.end seg) in
        record {
          same_length = omega (arith, g.same_length, b.same_length, f.same_length);
          forward = seg.inside;
          so_far = further (further f.so_far b (λ d h k. sym (f.next.before.blank d h k))) g (λ t h k. ap (λ l. get_or l (t - x.from) 0) d ∙ sym (value_in days x.from x.end seg at.apart t h k));
          next = n;
        }

  -- behind it the days stand apart
  pub apart_behind : (days : List ℕ) {x : Lined} → LinedAt B days x → (x.end ≤ length days) × Apart B days x.end
  apart_behind days {x} a = let s = ended days (omega (arith, a.inside)) a.end in (s.inside, apart_end days x.from x.end s a.apart)

-- whether a search from the first day on finds none
pub none_lined : (B : Blocks) (days : List ℕ) (x : Option Lined) (b : Bool) → NextLined B days 0 x → is_some x ≡ not b → b ≡ no_line B (map day_of days)
none_lined B days None b n e = sym (not-not b) ∙ ap not (sym e) ∙ sym n.none
none_lined B days (Some x) b n e = sym (not-not b) ∙ ap not (sym e) ∙ sym n.some
