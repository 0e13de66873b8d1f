-- The loops over the shifts and over the days: what is done so far, and what is still to come, make the whole.
-- Assumes nothing.
use Prim.Native.Nat.{ℕ, zero, suc, ◌+◌, ◌*◌, ◌-◌, ◌≤◌, ◌<◌}
use mathlib.Core.Path.{◌≡◌, refl, sym, ◌∙◌, ap}
use mathlib.Core.List.{List, ◌∷◌, ◌++◌, map, flat_map, append-nil, append_assoc}
use native.Mathlib.Nat.{mul-le-mul_right}
use native.Mathlib.Numerals.{add-one}
use native.Mathlib.Omega.{arith}
use lib.ListN.{length, take, drop, set, length-append, length-drop, length-set}
use lib.Seq.{length-take-le, take_all, take_at, take-suc-set, append_snoc}
use Rattle.std.specs.List.{range_with_len}
use Rattle.numbers.specs.Arithmetic.{rounded}
use Rattle.series.specs.Units.{day_of, base_mark}
use Rattle.minima.specs.declared.LineSetting.{LineSetting}
use Rattle.minima.specs.TurningPoints.{counting}
use Rattle.minima.specs.Line.{line_over}
use Rattle.minima.specs.Call.{blocks_at, line_list}
use Rattle.minima.proofs.Lengths.{counting_more, counting_none, counting_next, counting_end, line_list_lem, line_list_length}
use Rattle.staggered.specs.Rule.{lines}
use Rattle.staggered.specs.Call.{work_list}

-- the shifts as the code's range has them
pub counted : (k n : ℕ) → range_with_len k n ≡ counting k n
counted k zero = sym (counting_none k)
counted k (suc n) = rw (counting_more k n, add-one k) (ap (λ l. k ∷ l) (counted (suc k) n))

-- the lines drawn before shift o, and those still to come
module _ (s : LineSetting) (days : List ℕ) where
  abbrev drawn : List ℕ → List ℕ
  drawn os = flat_map (map base_mark) (map (λ o. line_over rounded (blocks_at s o) (map day_of days)) os)

  pub record DrawnTo (work₀ work : List ℕ) (o : ℕ) : Type 0 where
    pub same_length : length work ≡ length work₀
    pub all_lines : take (o * length days) work ++ drawn (counting o (s.block_days - o)) ≡ work_list s days

  pub draw_start : (work : List ℕ) → DrawnTo work work 0
  unfolding work_list lines
  draw_start work =
      let e : s.block_days - 0 ≡ s.block_days = omega arith in
      let f : 0 * length days ≡ 0 = omega arith in
      record { same_length = refl; all_lines = rw f (ap (λ n. drawn (counting 0 n)) e) }

  module _ {work₀ work : List ℕ} {o : ℕ} (d : DrawnTo work₀ work o) (whole : s.block_days * length days ≡ length work₀) where
    pub room : o < s.block_days → o * length days + length days ≤ length work
    room h = let m : (o + 1) * length days ≤ s.block_days * length days = mul-le-mul_right (length days) (omega arith) in omega (arith, d.same_length, whole)

    pub draw_turn : {start end : ℕ} {ys : List ℕ} → o < s.block_days → start ≡ o * length days → end ≡ start + length days → ys ≡ line_list (blocks_at s o) days → DrawnTo work₀ (take start work ++ (ys ++ drop (end - start) (drop start work))) (o + 1)
    unfolding flat_map
    draw_turn {start} {end} {ys} h b e f =
        let fits = room h in
        let size : length ys ≡ length days = ap length f ∙ line_list_length (blocks_at s o) days in
        let front : length (take start work) ≡ start = length-take-le start work (omega arith) in
        let to : (o + 1) * length days ≡ end = omega arith in
        let before : length (take start work ++ ys) ≡ end = length-append (take start work) ys ∙ omega arith in
        let rest = drop (end - start) (drop start work) in
        record {
          same_length = length-append (take start work) (ys ++ rest) ∙ omega (arith, length-append ys rest, length-drop (end - start) (drop start work), length-drop start work, d.same_length);
          all_lines =
              rw to
              (ap (λ l. take end l ++ drawn (counting (o + 1) (s.block_days - (o + 1)))) (sym (append_assoc (take start work) ys rest))
              ∙ ap (λ l. l ++ drawn (counting (o + 1) (s.block_days - (o + 1)))) (take_at (take start work ++ ys) rest end before)
              ∙ append_assoc (take start work) ys _
              ∙ ap (λ y. take start work ++ (y ++ drawn (counting (o + 1) (s.block_days - (o + 1))))) (f ∙ line_list_lem (blocks_at s o) days)
              ∙ ap (λ os. take start work ++ drawn os) (sym (counting_next o s.block_days h))
              ∙ ap (λ n. take n work ++ drawn (counting o (s.block_days - o))) b
              ∙ d.all_lines);
        }

    pub draw_end : s.block_days ≤ o → work ≡ work_list s days
    unfolding flat_map
    draw_end h =
        let m : s.block_days * length days ≤ o * length days = mul-le-mul_right (length days) h in
        sym (take_all (o * length days) work (omega (arith, d.same_length, whole))) ∙ sym (append-nil (take (o * length days) work))
        ∙ ap (λ os. take (o * length days) work ++ drawn os) (sym (counting_end o s.block_days h)) ∙ d.all_lines

-- a part that is lent is as long as the days
pub lent_length : (work : List ℕ) (at n : ℕ) → at + n ≤ length work → n ≡ length (take (at + n - at) (drop at work))
lent_length work at n h = let e : at + n - at ≡ n = omega arith in rw e (sym (length-take-le n (drop at work) (omega (arith, length-drop at work))))

-- the days filled by a rule before day t, and those still to come
pub record FilledTo (rule : ℕ → ℕ) (base₀ base : List ℕ) (t : ℕ) : Type 0 where
  pub same_length : length base ≡ length base₀
  pub all_days : take t base ++ map rule (counting t (length base₀ - t)) ≡ map rule (counting 0 (length base₀))

module _ (rule : ℕ → ℕ) where
  pub fill_start : (base : List ℕ) → FilledTo rule base base 0
  fill_start base = let e : length base - 0 ≡ length base = omega arith in record { same_length = refl; all_days = ap (λ n. map rule (counting 0 n)) e }

  module _ {base₀ base : List ℕ} {t : ℕ} (f : FilledTo rule base₀ base t) where
    pub fill_turn : {v : ℕ} → t < length base₀ → v ≡ rule t → FilledTo rule base₀ (set base t v) (t + 1)
    fill_turn {v} h e =
        let rest = map rule (counting (t + 1) (length base₀ - (t + 1))) in
        let inside : t < length base = omega (arith, f.same_length) in
        record {
          same_length = length-set base t v ∙ f.same_length;
          all_days =
              ap (λ n. take n (set base t v) ++ rest) (add-one t) ∙ ap (λ l. l ++ rest) (take-suc-set base t v inside) ∙ append_snoc (take t base) v rest
              ∙ ap (λ x. take t base ++ x ∷ rest) e ∙ ap (λ l. take t base ++ map rule l) (sym (counting_next t (length base₀) h)) ∙ f.all_days;
        }

    pub fill_end : length base₀ ≤ t → base ≡ map rule (counting 0 (length base₀))
    fill_end h =
        sym (take_all t base (omega (arith, f.same_length))) ∙ sym (append-nil (take t base))
        ∙ ap (λ l. take t base ++ map rule l) (sym (counting_end t (length base₀) h)) ∙ f.all_days
