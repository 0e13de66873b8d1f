-- The days, and the flows under a zero, of words: a word at a time.
-- Assumes nothing.
use Prim.Native.Nat.{ℕ, zero, suc, ◌+◌, ◌-◌, ◌*◌, ◌≤◌, ◌<◌}
use mathlib.Core.Path.{◌≡◌, refl, sym, ◌∙◌, ap, ap₂}
use mathlib.Core.Bool.{Bool, cond, not, ◌&&◌, ◌||◌, or_assoc, or-false}
use mathlib.Core.List.{List, [], ◌∷◌, ◌++◌, append-nil, append_assoc}
use native.Mathlib.Omega.{arith}
use lib.ListN.{length, get_or, take, drop, length-append, length-drop, drop_of_length-le}
use lib.Seq.{length-take-le, take_all, take_at, drop-drop}
use Rattle.std.proofs.lemmas.List.{drop_at}
use lib.Dec.{ltb}
use Rattle.std.specs.Prelude.{min}
use Rattle.series.specs.Units.{missing_mark}
use Rattle.presence.specs.Form.{is_one, word_count, days_from, days_of, flow_under_zero}
use Rattle.presence.proofs.Loops.{found_more, part_of}
use Rattle.presence.proofs.Zeros.{one_at}
use Rattle.presence.proofs.Sentences.{length_of_days}

-- a day of a word alone, and of the words
one_of : (words : List ℕ) (k j i : ℕ) → i ≡ 64 * k + j → j < 64 → is_one words i ≡ is_one (get_or words k 0 ∷ []) j
one_of words k j i e h = one_at words k j i e h ∙ sym (one_at (get_or words k 0 ∷ []) 0 j j (omega arith) h)

-- the days of a word, and of those behind it
days_parted : (words : List ℕ) (k j i next n : ℕ) (flows : List ℕ) → i ≡ 64 * k + j → next ≡ i + n → j + n ≤ 64
    → days_from words i flows ≡ days_from (get_or words k 0 ∷ []) j (take n flows) ++ days_from words next (drop n flows)
unfolding days_from
days_parted words k j i next zero flows e f h = let same : i ≡ next = omega arith in ap (λ m. days_from words m flows) same
days_parted words k j i next (suc n) [] e f h = refl
days_parted words k j i next (suc n) (flow ∷ flows) e f h =
    ap₂ (λ b l. cond b flow missing_mark ∷ l) (one_of words k j i e (omega arith)) (days_parted words k (suc j) (suc i) next n flows (omega arith) (omega arith) (omega arith))

-- the flows under a zero of a word, and of those behind it
flows_parted : (words : List ℕ) (k j i next n : ℕ) (flows : List ℕ) → i ≡ 64 * k + j → next ≡ i + n → j + n ≤ 64
    → flow_under_zero words i flows ≡ (flow_under_zero (get_or words k 0 ∷ []) j (take n flows) || flow_under_zero words next (drop n flows))
unfolding flow_under_zero
flows_parted words k j i next zero flows e f h = let same : i ≡ next = omega arith in ap (λ m. flow_under_zero words m flows) same
flows_parted words k j i next (suc n) [] e f h = refl
flows_parted words k j i next (suc n) (flow ∷ flows) e f h =
    ap₂ (λ b t. (not b && ltb 0 flow) || t) (one_of words k j i e (omega arith)) (flows_parted words k (suc j) (suc i) next n flows (omega arith) (omega arith) (omega arith))
    ∙ sym (or_assoc (not (is_one (get_or words k 0 ∷ []) j) && ltb 0 flow) _ _)

pub flows_turn : (words flows : List ℕ) (k start end : ℕ) (found whole : Bool) → whole ≡ (found || flow_under_zero words (64 * k) (drop (64 * k) flows)) → start ≡ k * 64 → end ≡ min (length flows) (start + 64)
    → whole ≡ ((found || flow_under_zero (get_or words k 0 ∷ []) 0 (take (end - start) (drop start flows))) || flow_under_zero words (64 * (k + 1)) (drop (64 * (k + 1)) flows))
flows_turn words flows k start end found whole e s f =
    let at : 64 * k ≡ start = omega arith in
    let next : start + 64 ≡ 64 * (k + 1) = omega arith in
    found_more found _ _ e
    (ap (λ m. flow_under_zero words m (drop m flows)) at
    ∙ flows_parted words k 0 start (start + 64) 64 (drop start flows) (omega arith) (omega arith) (omega arith)
    ∙ ap₂ (λ l m. flow_under_zero (get_or words k 0 ∷ []) 0 l || flow_under_zero words (start + 64) m) (sym (part_of flows start end f)) (drop-drop 64 start flows)
    ∙ ap (λ m. flow_under_zero (get_or words k 0 ∷ []) 0 (take (end - start) (drop start flows)) || flow_under_zero words m (drop m flows)) next)

pub flows_end : (words flows : List ℕ) (k : ℕ) (found : Bool) → flow_under_zero words 0 flows ≡ (found || flow_under_zero words (64 * k) (drop (64 * k) flows)) → length words ≡ word_count (length flows) → length words ≤ k → flow_under_zero words 0 flows ≡ found
unfolding flow_under_zero
flows_end words flows k found e c h = let past : length flows ≤ 64 * k = omega arith in e ∙ rw (drop_of_length-le flows past) (or-false found)

-- the words before word k are put: the rest are flows as yet
abbrev pub PutTo : (words days goal : List ℕ) (k : ℕ) → Type 0
PutTo words days goal k = take (min (64 * k) (length days)) days ++ days_from words (64 * k) (drop (64 * k) days) ≡ goal

pub put_start : (words flows : List ℕ) → PutTo words flows (days_of flows words) 0
unfolding days_of
put_start words flows = let none : min 0 (length flows) ≡ 0 = omega arith in ap (λ m. take m flows ++ days_from words 0 flows) none

-- the days of a word are 64, or those that are left
pub put_turn : (words days goal ys : List ℕ) (k start end : ℕ) → PutTo words days goal k → length words ≡ word_count (length days) → k < length words → start ≡ k * 64 → end ≡ min (length days) (start + 64)
    → ys ≡ days_of (take (end - start) (drop start days)) (get_or words k 0 ∷ [])
    → PutTo words (take start days ++ (ys ++ drop (end - start) (drop start days))) goal (k + 1)
unfolding days_of
put_turn words days goal ys k start end p c h s e y =
    let at : min (64 * k) (length days) ≡ start = omega arith in
    let here : 64 * k ≡ start = omega arith in
    let next : 64 * (k + 1) ≡ start + 64 = omega arith in
    let inside : length (take (end - start) (drop start days)) ≡ end - start = length-take-le (end - start) (drop start days) (omega (arith, length-drop start days)) in
    let size : length ys ≡ end - start = ap length y ∙ length_of_days (take (end - start) (drop start days)) (get_or words k 0 ∷ []) ∙ inside in
    let front = take start days ++ ys in
    let rest = drop (end - start) (drop start days) in
    let before : length front ≡ end = length-append (take start days) ys ∙ omega (arith, length-take-le start days (omega arith)) in
    let same : take start days ++ (ys ++ rest) ≡ front ++ rest = sym (append_assoc (take start days) ys rest) in
    let to : min (64 * (k + 1)) (length (front ++ rest)) ≡ end = omega (arith, length-append front rest, length-drop start days, length-drop (end - start) (drop start days)) in
    let behind : drop (start + 64) (front ++ rest) ≡ drop (start + 64) days =
    let more : start + 64 ≡ end + (start + 64 - end) = omega arith in
    let all : start + (end - start) ≡ end = omega arith in
    ap (λ n. drop n (front ++ rest)) more
    ∙ sym (drop-drop (start + 64 - end) end (front ++ rest))
    ∙ ap (drop (start + 64 - end)) (drop_at front rest end before ∙ drop-drop (end - start) start days ∙ ap (λ n. drop n days) all)
    ∙ drop-drop (start + 64 - end) end days
    ∙ ap (λ n. drop n days) (sym more) in
    let ahead = days_from words (start + 64) (drop (start + 64) days) in
    ap (λ l. take (min (64 * (k + 1)) (length l)) l ++ days_from words (64 * (k + 1)) (drop (64 * (k + 1)) l)) same
    ∙ ap₂ (λ m x. take m (front ++ rest) ++ days_from words x (drop x (front ++ rest))) to next
    ∙ ap₂ (λ a b. a ++ days_from words (start + 64) b) (take_at front rest end before) behind
    ∙ append_assoc (take start days) ys ahead
    ∙ ap (λ t. take start days ++ t)
    (ap₂ (λ a b. a ++ days_from words (start + 64) b) (y ∙ ap (λ t. days_from (get_or words k 0 ∷ []) 0 t) (part_of days start end e)) (sym (drop-drop 64 start days))
    ∙ sym (days_parted words k 0 start (start + 64) 64 (drop start days) (omega arith) (omega arith) (omega arith)))
    ∙ sym (ap₂ (λ m x. take m days ++ days_from words x (drop x days)) at here)
    ∙ p

pub put_end : (words flows days : List ℕ) (k : ℕ) → PutTo words days (days_of flows words) k → length words ≡ word_count (length days) → length words ≤ k → days ≡ days_of flows words
unfolding days_from
put_end words flows days k p c h =
    let none : length days ≤ 64 * k = omega arith in
    let all : length days ≤ min (64 * k) (length days) = omega arith in
    sym (rw (drop_of_length-le days none, append-nil) (take_all (min (64 * k) (length days)) days all)) ∙ p
