use Rattle.std.proofs.Common.{rules, length, ◌≡◌, ℕ, ◌+◌, ◌≤◌, List, ◌++◌, take, subst, sym, ap, ◌∙◌, length-take-le, drop_at}
use Rattle.std.specs.Io.KnownBytes.{Consumes}
use Rattle.std.proofs.KnownBytes.{Consumes-trans}
use borrow.Rule.Slice.PartMut.{put_mid, post_of}
use lib.Seq.{take-add, take-append-le, take_at}
use Rattle.separate.proofs.read_input.Goals as goal

-- what was read into the part stands behind what was read before
filled : (a k n : ℕ) (xs ys : List ℕ) → a ≤ length xs → n ≤ length ys → take (a + n) (put_mid a k xs ys) ≡ take a xs ++ take n ys
filled a k n xs ys within fits =
    let before = take a xs in
    let behind = ys ++ post_of a k xs in
    let long = length-take-le a xs within in
    let new = ap (take n) (drop_at before behind a long) ∙ take-append-le n ys (post_of a k xs) fits in
    take-add a n (before ++ behind) ∙ ap (λ l. l ++ take n (lib.ListN.drop a (before ++ behind))) (take_at before behind a long) ∙ ap (λ l. before ++ l) new

pub loop-at-preserved : goal.loop-at-preserved
loop-at-preserved g c =
    (search rules, search rules, subst (Consumes _ _) (sym (filled _ _ _ _ _ c.loop-at.invariant.0 c.in_ok-n.ensures.bound.0)) (Consumes-trans _ _ _ _ _ c.loop-at.invariant.2 c.in_ok-n.ensures.bytes.0))
