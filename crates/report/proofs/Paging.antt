-- A page that fills: what one writer leaves is what the next goes on from, and a text that fits stands at the start.
-- Assumes nothing.
use Prim.Native.Nat.{ℕ, ◌+◌, ◌≤◌, ◌<◌}
use mathlib.Core.Path.{◌≡◌, refl, sym, ◌∙◌, ap, ap₂}
use mathlib.Core.List.{List, [], ◌∷◌, ◌++◌, append-nil}
use native.Mathlib.Nat.{add-zero, zero-add}
use native.Mathlib.Numerals.{add-one}
use native.Mathlib.Omega.{arith}
use lib.ListN.{length, get_or, drop, set, length-append}
use lib.Seq.{drop-cons, set-append_seam, append_snoc}
use borrow.Author.Tests.{lt-ltb, le-ltb}
use Rattle.report.specs.declared.page.Page.{Page}
use Rattle.report.specs.Private.{Content, content, content_of, with_character, with_text, Writes}

module _ (buffer : List ℕ) (at c : ℕ) where
  pub put_here : at < length buffer → content (set buffer at c) (at + 1) ≡ with_text (c ∷ []) (content buffer at)
  unfolding with_text with_character
  put_here h = simp (lt-ltb at (length buffer) h)

  pub put_nowhere : length buffer ≤ at → content buffer at ≡ with_text (c ∷ []) (content buffer at)
  unfolding with_text with_character
  put_nowhere h = simp (le-ltb at (length buffer) h)

-- nothing
nothing : {p : Page} → Writes [] p p
unfolding with_text
nothing = record { adds = refl; same_buffer = refl }

pub no_text : (t : List ℕ) (p : Content) → t ≡ [] → with_text t p ≡ p
unfolding with_text
no_text t p e = rw e

-- one text and then another
pub append_text : (s t : List ℕ) (p : Content) → with_text t (with_text s p) ≡ with_text (s ++ t) p
unfolding with_text
append_text [] t p = refl
append_text (c ∷ s) t p = append_text s t (with_character c p)

then : {s t : List ℕ} {p q r : Page} → Writes s p q → Writes t q r → Writes (s ++ t) p r
then {s} {t} {p} e f = record { adds = f.adds ∙ ap (with_text t) e.adds ∙ append_text s t (content_of p); same_buffer = f.same_buffer ∙ e.same_buffer }

-- a text by another name
pub as_text : {s t : List ℕ} {p q : Page} → s ≡ t → Writes s p q → Writes t p q
as_text {p = p} e w = record { adds = w.adds ∙ ap (λ t. with_text t (content_of p)) e; same_buffer = w.same_buffer }

-- A loop that writes a text in parts: whatever end the rest of the text leads to from the present page is the end that
-- the whole text leads to from the first.
pub record Left (rest : List ℕ) (now : Page) (whole : List ℕ) (start : Page) : Type 0 where
  pub leads : (end : Page) → Writes rest now end → Writes whole start end

pub turned : {s rest rest' whole : List ℕ} {p q start : Page} → rest ≡ s ++ rest' → Writes s p q → Left rest p whole start → Left rest' q whole start
turned e w l = record { leads = λ end v. l.leads end (as_text (sym e) (then w v)) }

pub ended : {rest whole : List ℕ} {p start : Page} → rest ≡ [] → Left rest p whole start → Writes whole start p
ended {p = p} e l = l.leads p (as_text (sym e) nothing)

-- the character at i, and what is left of a text behind it
pub next_character : (s : List ℕ) (i : ℕ) → i < length s → drop i s ≡ (get_or s i 0 ∷ []) ++ drop (i + 1) s
next_character s i h = rw (add-one, drop-cons s i 0)

-- a text that fits stands behind what was written before it, and nothing behind it changes
written : (front t rest : List ℕ) → length t ≤ length rest → with_text t (content (front ++ rest) (length front)) ≡ content (front ++ t ++ drop (length t) rest) (length front + length t)
unfolding with_text
written front [] rest h = ap₂ content (ap (λ l. l ++ rest) (sym (append-nil front))) (sym (add-zero (length front)))
written front (c ∷ t) [] h = absurd (omega arith)
written front (c ∷ t) (x ∷ rest) h =
    let longer = length-append front (c ∷ []) in
    let here : with_character c (content (front ++ x ∷ rest) (length front)) ≡ content (front ++ (c ∷ []) ++ rest) (length (front ++ c ∷ [])) =
    sym (put_here (front ++ x ∷ rest) (length front) c (omega (arith, length-append front (x ∷ rest)))) ∙ ap₂ content (set-append_seam front x rest c ∙ sym (append_snoc front c rest)) (omega arith)
    in
    ap (with_text t) here ∙ written (front ++ c ∷ []) t rest (omega arith) ∙ ap₂ content (ap (λ l. l ++ drop (length t) rest) (append_snoc front c t)) (omega arith)

pub fits : (t buffer buffer' : List ℕ) (r : ℕ) → content buffer' r ≡ with_text t (content buffer 0) → length t ≤ length buffer → (r ≡ length t) × ((buffer' ≡ t ++ drop r buffer) × (r ≤ length buffer'))
fits t buffer buffer' r w h =
    let e = w ∙ written [] t buffer h in
    let count : r ≡ length t = ap (λ p. p.at) e ∙ zero-add (length t) in
    let whole : buffer' ≡ t ++ drop (length t) buffer = ap (λ p. p.buffer) e in
    (count, (whole ∙ ap (λ k. t ++ drop k buffer) (sym count), omega (arith, ap length whole, length-append t (drop (length t) buffer))))
