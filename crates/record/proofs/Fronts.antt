-- What stands at the front of bytes, by its first byte and the bytes behind that.
-- Assumes nothing.
use Prim.Native.Nat.{ℕ, suc, ◌+◌, ◌<◌}
use mathlib.Core.Path.{◌≡◌, sym, ◌∙◌, ap}
use mathlib.Core.Bool.{Bool, true, false}
use mathlib.Core.List.{List, [], ◌∷◌}
use mathlib.Core.Option.{some, none}
use native.Mathlib.Omega.{arith}
use borrow.Author.Tests.{lt-ltb, le-ltb}
use lib.ListN.{length, get_or, take, drop, length-take}
use lib.Seq.{drop-cons, drop-drop}
use Rattle.series.specs.Causes.{first_cause}
use Rattle.record.specs.declared.entry.Kind.{Kind}
use Rattle.record.specs.declared.entry.Entry.{Entry as Found}
use Rattle.record.specs.Entries.{kind_of, misplaced, body_length, entry_of, entry_causes}
use Rattle.record.specs.Private.{front_causes, Placed, whole_causes}

module _ (first : Bool) (n room : ℕ) {s : List ℕ} {b : ℕ} {bs : List ℕ} (here : s ≡ b ∷ bs) where
  causes_here : front_causes first n room s ≡ entry_causes first n room (entry_of b bs)
  causes_here = ap (front_causes first n room) here

  pub unknown : kind_of b ≡ none → first_cause (front_causes first n room s) ≡ some 2
  unfolding entry_causes
  unknown h = ap first_cause causes_here ∙ simp h

  module _ {k : Kind} (named : kind_of b ≡ some k) where
    pub out_of_place : misplaced first (some k) ≡ true → first_cause (front_causes first n room s) ≡ some 3
    unfolding entry_causes
    out_of_place h = ap first_cause causes_here ∙ simp (named, h)

    pub cut_short : misplaced first (some k) ≡ false → length bs < body_length (some k) → first_cause (front_causes first n room s) ≡ some 1
    unfolding entry_causes
    cut_short h l =
        let t = lt-ltb (length (take (body_length (some k)) bs)) (body_length (some k)) (omega (arith, length-take (body_length (some k)) bs)) in
        ap first_cause causes_here ∙ simp (named, h, t)

-- of a whole one in its place
pub whole : (first : Bool) (n room : ℕ) (s : List ℕ) (e : Found) → Placed first s e → first_cause (front_causes first n room s) ≡ first_cause (whole_causes n room (some e.kind) e.value e.behind.now)
unfolding entry_causes
whole first n room [] e p = absurd (let h = p.whole.kind in cc)
whole first n room (b ∷ bs) e p =
    let w = p.whole in
    let t = le-ltb (length (take (body_length (kind_of b)) bs)) (body_length (kind_of b)) w.complete in
    rw (w.value, w.behind) (simp (w.kind, p.placed, rw w.kind at t))

-- bytes from a position on, by the byte there and the bytes behind it
module _ (s : List ℕ) (at : ℕ) where
  pub from_here : at < length s → drop at s ≡ get_or s at 0 ∷ drop (at + 1) s
  from_here h = let next : suc at ≡ at + 1 = omega arith in drop-cons s at 0 h ∙ ap (λ n. get_or s at 0 ∷ drop n s) next

  pub behind_here : (n : ℕ) → drop (at + (1 + n)) s ≡ drop n (drop (at + 1) s)
  behind_here n = let all : at + (1 + n) ≡ at + 1 + n = omega arith in ap (λ k. drop k s) all ∙ sym (drop-drop n (at + 1) s)
