-- Where half is left it is left on every later day, so that one test at n and one the day before settle the least n; and a
-- table's test settles each of its entries.
-- Assumes nothing.
use Prim.Native.Nat.{ℕ, zero, suc, ◌+◌, ◌*◌, ◌-◌, ◌^◌, ◌≤◌, ◌<◌}
use mathlib.Core.Path.{◌≡◌, refl, sym, ◌∙◌, ap, subst}
use mathlib.Core.Bool.{Bool, true, false, cond, true≢false}
use mathlib.Core.List.{List, [], ◌∷◌}
use native.Mathlib.Nat.{pow-suc, mul-le-mul, mul_assoc, lt_of_not-le}
use native.Mathlib.Decide.{ℕ_discrete, dec_le}
use native.Mathlib.Omega.{arith}
use borrow.Author.Tests.{leb-true, leb-false, le-leb, lt-leb, ltb-true}
use lib.Dec.{leb}
use lib.ListN.{length, get_or}
use Rattle.series.proofs.Views.{both_of}
use Rattle.half_life.specs.Rule.{is_halved, first_from, HalfLife}
use Rattle.half_life.specs.Private.{right_at, all_right, Right}

module _ (p : ℕ) (h : p ≤ 1000) where
  next_day : (m : ℕ) → 2 * p ^ m ≤ 1000 ^ m → 2 * p ^ suc m ≤ 1000 ^ suc m
  next_day m e = rw (pow-suc p m, pow-suc 1000 m, ← mul_assoc 2 (p ^ m) p) (mul-le-mul e h)

  later : (m k : ℕ) → 2 * p ^ m ≤ 1000 ^ m → 2 * p ^ (k + m) ≤ 1000 ^ (k + m)
  later m zero e = subst (λ j. 2 * p ^ j ≤ 1000 ^ j) (omega arith) e
  later m (suc k) e = subst (λ j. 2 * p ^ j ≤ 1000 ^ j) (omega arith) (next_day (k + m) (later m k e))

  -- more than half is left on every day before one on which it is
  pub not_yet : {m n : ℕ} → m ≤ n → 1000 ^ n < 2 * p ^ n → 1000 ^ m < 2 * p ^ m
  not_yet {m} {n} g e =
      elim (dec_le (2 * p ^ m) (1000 ^ m)) [
        | yes l ↦ let there : n - m + m ≡ n = omega arith in absurd (omega (arith, e, subst (λ k. 2 * p ^ k ≤ 1000 ^ k) there (later m (n - m) l)))
        | no l ↦ lt_of_not-le l
      ]

-- what a search for the first number from k on that passes a test comes to, where one passes within its tries
pub record First (test : ℕ → Bool) (k n : ℕ) : Type 0 where
  pub onward : k ≤ n
  pub passes : test n ≡ true
  pub none_before : (m : ℕ) → k ≤ m → m < n → test m ≡ false

-- one try: it passes, or the search goes on behind it
first_next : (test : ℕ → Bool) (k n : ℕ) (b : Bool) → test k ≡ b → (b ≡ false → First test (suc k) n) → First test k (cond b k n)
first_next test k n true e f = record { onward = omega arith; passes = e; none_before = λ m a c. absurd (omega arith) }
first_next test k n false e f =
    let g = f refl in
    record { onward = omega (arith, g.onward); passes = g.passes; none_before = λ m a c. elim (ℕ_discrete k m) [ yes q ↦ ap test (sym q) ∙ e | no q ↦ g.none_before m (omega (arith, q)) c ] }

pub first_passes : (test : ℕ → Bool) (times k : ℕ) {n : ℕ} → k ≤ n → n < k + times → test n ≡ true → First test k (first_from test times k)
unfolding first_from
first_passes test zero k g h t = absurd (omega arith)
first_passes test (suc times) k {n} g h t =
    first_next test k (first_from test times (suc k)) (test k) refl (λ e.
    let other : k ≡ n → ⊥ = λ q. true≢false (sym t ∙ ap test (sym q) ∙ e) in
    first_passes test times (suc k) (omega (arith, other)) (omega arith) t)

-- two such numbers are one
never_before : {test : ℕ → Bool} {k m n : ℕ} → First test k m → First test k n → m < n → ⊥
never_before {m = m} a b h = true≢false (sym a.passes ∙ b.none_before m a.onward h)

pub one_first : {test : ℕ → Bool} {k m n : ℕ} → First test k m → First test k n → m ≡ n
one_first {m = m} {n} a b =
    elim (dec_le m n) [
      | yes l ↦ elim (dec_le n m) [ yes g ↦ omega arith | no g ↦ absurd (never_before a b (lt_of_not-le g)) ]
      | no l ↦ absurd (never_before b a (lt_of_not-le l))
    ]

pub not_halved : (p m : ℕ) → is_halved p m ≡ false → 1000 ^ m < 2 * p ^ m
unfolding is_halved
not_halved p m e = leb-false _ _ e

-- the sentence is that of the first number from 1 on that is halved
pub as_first : {p n : ℕ} → HalfLife p n → First (is_halved p) 1 n
unfolding is_halved
as_first l = record { onward = l.at_least_1; passes = le-leb _ _ l.halved; none_before = λ m a b. lt-leb _ _ (l.not_before m a b) }

-- an entry of a table whose test passes
entry_right : (table : List ℕ) (i : ℕ) → all_right i table ≡ true → (k : ℕ) → k < length table → right_at (i + k) (get_or table k 0) ≡ true
entry_right [] i e k h = absurd (omega arith)
entry_right (n ∷ ns) i e zero h = subst (λ j. right_at j n ≡ true) (omega arith) (both_of (right_at i n) _ e).0
entry_right (n ∷ ns) i e (suc k) h = subst (λ j. right_at j (get_or ns k 0) ≡ true) (omega arith) (entry_right ns (suc i) (both_of (right_at i n) _ e).1 k (omega arith))

right_half_life : (i n : ℕ) → suc i ≤ 1000 → right_at i n ≡ true → HalfLife (suc i) n
right_half_life i n h e =
    let a = both_of (leb 1 n) _ e in
    let b = both_of (leb (2 * suc i ^ n) (1000 ^ n)) _ a.1 in
    record {
      at_least_1 = leb-true 1 n a.0;
      halved = leb-true _ _ b.0;
      not_before = λ m g k. not_yet (suc i) h {m = m} {n = n - 1} (omega arith) (ltb-true (1000 ^ (n - 1)) (2 * suc i ^ (n - 1)) b.1);
    }

pub entry_found : {table : List ℕ} → Right table → {p : ℕ} → 1 ≤ p → p ≤ 999 → HalfLife p (get_or table (p - 1) 0)
entry_found {table} r {p} low high =
    let up : suc (0 + (p - 1)) ≡ p = omega arith in
    subst (λ q. HalfLife q (get_or table (p - 1) 0)) up
    (right_half_life (0 + (p - 1)) (get_or table (p - 1) 0) (omega arith) (entry_right table 0 r.tested (p - 1) (omega (arith, r.size))))
