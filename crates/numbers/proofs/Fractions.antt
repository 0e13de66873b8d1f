-- The order of fractions in natural numbers, and what each operation of the arithmetic makes of an error: where a
-- whole number lies within p of a fraction, the results of the two readings lie within what the laws here say.
-- The error of a rounding step stands here (`close_weighted`), for any A, B, C and d.
-- Assumes nothing.
use Prim.Native.Nat.{ℕ, zero, suc, ◌+◌, ◌*◌, ◌-◌, ◌≤◌, ◌<◌, min}
use mathlib.Core.Path.{◌≡◌, refl, ap, sym, subst}
use mathlib.Core.Logic.{◌↔◌, ◌⊎◌, inl, inr, ⊎_elim}
use mathlib.Core.Bool.{Bool, true, false, cond}
use native.Mathlib.Nat.{mul-le-mul_right, le_of_mul-le-mul_right, add-mul, sub-add_cancel, min_comm, min-le_left, min-eq_left, min-eq_right, le_of_lt, lt_of_not-le}
use native.Mathlib.Decide.{dec_le}
use native.Mathlib.Omega.{arith}
use lib.IntN.{pos, ◌*ℤ◌}
use lib.Signed.{le_z, le_z_yes}
use lib.Dec.{T}
use Rattle.numbers.specs.Near.{near}
use Rattle.numbers.specs.Whole.{up, down}
use Rattle.numbers.specs.Fraction.{Fraction, whole, half, sum, opposite, difference, surplus, multiple, quotient, least, at_most, AtMost}
use Rattle.numbers.specs.Arithmetic.{Close, Weights, weighted, rounded, exact}
use Rattle.numbers.proofs.Rounding.{near_error}
use Rattle.numbers.proofs.Sorting.{Order}
use Rattle.numbers.proofs.Whole.{one_side, up_of_minus, down_of_minus, order, otherwise, of_sum, up_of_multiple, down_of_multiple}

abbrev pub U : Fraction → ℕ
U f = up f.upper

abbrev pub D : Fraction → ℕ
D f = down f.upper

abbrev pub L : Fraction → ℕ
L f = f.lower

pub in_naturals : (f g : Fraction) → AtMost f g ↔ (U f * L g + D g * L f ≤ U g * L f + D f * L g)
in_naturals f g =
    let e₁ = up_of_multiple f.upper (L g) in
    let e₂ = down_of_multiple f.upper (L g) in
    let e₃ = up_of_multiple g.upper (L f) in
    let e₄ = down_of_multiple g.upper (L f) in
    ((λ h. omega (arith, (order _ _).0 h)), (λ h. (order _ _).1 (omega arith)))

upper_of_sum : (f g : Fraction) → U (sum f g) + (D f * L g + D g * L f) ≡ U f * L g + U g * L f + D (sum f g)
unfolding sum
upper_of_sum f g =
    let e₁ = up_of_multiple f.upper (L g) in
    let e₂ = down_of_multiple f.upper (L g) in
    let e₃ = up_of_multiple g.upper (L f) in
    let e₄ = down_of_multiple g.upper (L f) in
    omega (arith, of_sum (f.upper *ℤ pos (L g)) (g.upper *ℤ pos (L f)))

-- f ≤ g + l
below_sum : (f g l : Fraction)
    → AtMost f (sum g l) ↔ (U f * (L g * L l) + (D g * L l + D l * L g) * L f ≤ (U g * L l + U l * L g) * L f + D f * (L g * L l))
unfolding sum
below_sum f g l =
    let e = ap (λ n. n * L f) (upper_of_sum g l) in
    ((λ h. omega (arith, (in_naturals f (sum g l)).0 h)), (λ h. (in_naturals f (sum g l)).1 (omega arith)))

-- a whole number x - y is at most a fraction and a limit together
abbrev OneSided : ℕ → ℕ → ℕ → ℕ → ℕ → ℕ → ℕ → ℕ → Type 0
OneSided x y Uf Df Lf Up Dp Lp = x * (Lf * Lp) + Df * Lp + Dp * Lf ≤ Uf * Lp + Up * Lf + y * (Lf * Lp)

-- closeness, as n ≤ f + p and -n ≤ -f + p
record Apart (p : Fraction) (n : ℕ) (f : Fraction) : Type 0 where
  above : OneSided n 0 (U f) (D f) (L f) (U p) (D p) (L p)
  below : OneSided 0 n (D f) (U f) (L f) (U p) (D p) (L p)

apart : {p : Fraction} {n : ℕ} {f : Fraction} → Close p n f → Apart p n f
unfolding whole
apart {p} {n} {f} h =
    record {
      above = omega (arith, (below_sum (whole n) f p).0 h.within.above);
      below = omega (arith, (below_sum f (whole n) p).0 h.within.below);
    }

close : {p : Fraction} {n : ℕ} {f : Fraction} → Apart p n f → Close p n f
unfolding whole
close {p} {n} {f} h =
    record { within = record { above = (below_sum (whole n) f p).1 (omega arith); below = (below_sum f (whole n) p).1 (omega arith) } }

pub close_number : (n : ℕ) → Close (whole 0) n (whole n)
unfolding whole
close_number n = close (record { above = omega arith; below = omega arith })

-- an inequality over the product of two lowers on either side
scaled : (x y Uf Df Lf Lg Up Dp Lp Lq : ℕ) → OneSided x y Uf Df Lf Up Dp Lp
    → x * (Lf * Lg * (Lp * Lq)) + Df * Lg * (Lp * Lq) + Dp * Lq * (Lf * Lg) ≤ Uf * Lg * (Lp * Lq) + Up * Lq * (Lf * Lg) + y * (Lf * Lg * (Lp * Lq))
scaled x y Uf Df Lf Lg Up Dp Lp Lq h = omega (arith, mul-le-mul_right (Lg * Lq) h)

scaled' : (x y Ug Dg Lf Lg Uq Dq Lp Lq : ℕ) → OneSided x y Ug Dg Lg Uq Dq Lq
    → x * (Lf * Lg * (Lp * Lq)) + Dg * Lf * (Lp * Lq) + Dq * Lp * (Lf * Lg) ≤ Ug * Lf * (Lp * Lq) + Uq * Lp * (Lf * Lg) + y * (Lf * Lg * (Lp * Lq))
scaled' x y Ug Dg Lf Lg Uq Dq Lp Lq h = omega (arith, mul-le-mul_right (Lf * Lp) h)

scaled_sum : (Uf Df Lf Ug Dg Lg Us Ds k : ℕ) → Us + (Df * Lg + Dg * Lf) ≡ Uf * Lg + Ug * Lf + Ds
    → Us * k + (Df * Lg * k + Dg * Lf * k) ≡ Uf * Lg * k + Ug * Lf * k + Ds * k
scaled_sum Uf Df Lf Ug Dg Lg Us Ds k s = omega (arith, ap (λ x. x * k) s)

sum_one_sided : (x x' y y' Uf Df Lf Ug Dg Lg Up Dp Lp Uq Dq Lq Us Ds Ut Dt : ℕ)
    → OneSided x y Uf Df Lf Up Dp Lp → OneSided x' y' Ug Dg Lg Uq Dq Lq
    → Us + (Df * Lg + Dg * Lf) ≡ Uf * Lg + Ug * Lf + Ds
    → Ut + (Dp * Lq + Dq * Lp) ≡ Up * Lq + Uq * Lp + Dt
    → OneSided (x + x') (y + y') Us Ds (Lf * Lg) Ut Dt (Lp * Lq)
sum_one_sided x x' y y' Uf Df Lf Ug Dg Lg Up Dp Lp Uq Dq Lq Us Ds Ut Dt h k s t =
    omega (arith, add-mul x x' (Lf * Lg * (Lp * Lq)), add-mul y y' (Lf * Lg * (Lp * Lq)), scaled x y Uf Df Lf Lg Up Dp Lp Lq h, scaled' x' y' Ug Dg Lf Lg Uq Dq Lp Lq k, scaled_sum Uf Df Lf Ug Dg Lg Us Ds (Lp * Lq) s, scaled_sum Up Dp Lp Uq Dq Lq Ut Dt (Lf * Lg) t)

pub close_sum : {p q : Fraction} {m n : ℕ} {f g : Fraction} → Close p m f → Close q n g → Close (sum p q) (m + n) (sum f g)
unfolding sum
close_sum {p} {q} {m} {n} {f} {g} h k =
    let s = upper_of_sum f g in
    let t = upper_of_sum p q in
    close
    (record {
      above = sum_one_sided m n 0 0 (U f) (D f) (L f) (U g) (D g) (L g) (U p) (D p) (L p) (U q) (D q) (L q) (U (sum f g)) (D (sum f g)) (U (sum p q)) (D (sum p q)) (apart h).above (apart k).above s t;
      below = sum_one_sided 0 0 m n (D f) (U f) (L f) (D g) (U g) (L g) (U p) (D p) (L p) (U q) (D q) (L q) (D (sum f g)) (U (sum f g)) (U (sum p q)) (D (sum p q)) (apart h).below (apart k).below (omega arith) t;
    })

-- d for m - n, on either side
module _ (d n m Uf Df Lf Up Dp Lp : ℕ) (e : d + n ≡ m) where
  left_over : OneSided (m + 0) (0 + n) Uf Df Lf Up Dp Lp → OneSided d 0 Uf Df Lf Up Dp Lp
  left_over h = omega (arith, ap (λ k. k * (Lf * Lp)) e)

  right_over : OneSided (0 + n) (m + 0) Uf Df Lf Up Dp Lp → OneSided 0 d Uf Df Lf Up Dp Lp
  right_over h = omega (arith, ap (λ k. k * (Lf * Lp)) e)

turned : {p : Fraction} {n : ℕ} {f : Fraction} → Close p n f → OneSided 0 n (U (opposite f)) (D (opposite f)) (L f) (U p) (D p) (L p) × OneSided n 0 (D (opposite f)) (U (opposite f)) (L f) (U p) (D p) (L p)
unfolding opposite
turned {p} {n} {f} h =
    let e₁ = ap (λ x. x * L p) (up_of_minus f.upper) in
    let e₂ = ap (λ x. x * L p) (down_of_minus f.upper) in
    (omega (arith, (apart h).below), omega (arith, (apart h).above))

-- the rounded run takes no larger number from a smaller one
pub close_difference : {p q : Fraction} {m n : ℕ} {f g : Fraction} → n ≤ m → Close p m f → Close q n g → Close (sum p q) (m - n) (difference f g)
unfolding difference sum opposite
close_difference {p} {q} {m} {n} {f} {g} h k l =
    let o = opposite g in
    let e : m - n + n ≡ m = sub-add_cancel h in
    let s = upper_of_sum f o in
    let t = upper_of_sum p q in
    close
    (record {
      above = left_over (m - n) n m (U (sum f o)) (D (sum f o)) (L f * L g) (U (sum p q)) (D (sum p q)) (L p * L q) e (sum_one_sided m 0 0 n (U f) (D f) (L f) (U o) (D o) (L g) (U p) (D p) (L p) (U q) (D q) (L q) (U (sum f o)) (D (sum f o)) (U (sum p q)) (D (sum p q)) (apart k).above (turned l).0 s t);
      below = right_over (m - n) n m (D (sum f o)) (U (sum f o)) (L f * L g) (U (sum p q)) (D (sum p q)) (L p * L q) e (sum_one_sided 0 n m 0 (D f) (U f) (L f) (D o) (U o) (L g) (U p) (D p) (L p) (U q) (D q) (L q) (D (sum f o)) (U (sum f o)) (U (sum p q)) (D (sum p q)) (apart k).below (turned l).1 (omega arith) t);
    })

-- A difference that stops at zero, in both runs: keeping out what is below zero brings them no further apart. Here d is
-- m - n, of which one of two holds, and U - D the exact difference, of which one is 0.
module _ (m n d U D L Up Dp Lp : ℕ) (above : OneSided (m + 0) (0 + n) U D L Up Dp Lp) (below : OneSided (0 + n) (m + 0) D U L Up Dp Lp) where
  positive : Dp * L ≤ Up * L
  positive = omega arith

  surplus_above : (d ≡ 0) ⊎ (d + n ≡ m) → OneSided d 0 U 0 L Up Dp Lp
  surplus_above (inl e) = omega (arith, positive, ap (λ k. k * (L * Lp)) e)
  surplus_above (inr e) = omega (arith, ap (λ k. k * (L * Lp)) e)

  surplus_below : m ≤ d + n → (U ≡ 0) ⊎ (D ≡ 0) → OneSided 0 d 0 U L Up Dp Lp
  surplus_below h (inl e) = omega (arith, positive, ap (λ k. k * Lp) e)
  surplus_below h (inr e) = omega (arith, mul-le-mul_right (L * Lp) h, ap (λ k. k * Lp) e)

cut_off : (m n : ℕ) → (m - n ≡ 0) ⊎ (m - n + n ≡ m)
cut_off m n = elim (dec_le n m) [ yes i ↦ inr (sub-add_cancel i) | no i ↦ inl (omega (arith, lt_of_not-le i)) ]

pub close_surplus : {p q : Fraction} {m n : ℕ} {f g : Fraction} → Close p m f → Close q n g → Close (sum p q) (m - n) (surplus f g)
unfolding surplus difference sum opposite
close_surplus {p} {q} {m} {n} {f} {g} k l =
    let o = opposite g in
    let s = upper_of_sum f o in
    let t = upper_of_sum p q in
    let above = sum_one_sided m 0 0 n (U f) (D f) (L f) (U o) (D o) (L g) (U p) (D p) (L p) (U q) (D q) (L q) (U (sum f o)) (D (sum f o)) (U (sum p q)) (D (sum p q)) (apart k).above (turned l).0 s t in
    let below = sum_one_sided 0 n m 0 (D f) (U f) (L f) (D o) (U o) (L g) (U p) (D p) (L p) (U q) (D q) (L q) (D (sum f o)) (U (sum f o)) (U (sum p q)) (D (sum p q)) (apart k).below (turned l).1 (omega arith) t in
    close
    (record {
      above = surplus_above m n (m - n) (U (sum f o)) (D (sum f o)) (L f * L g) (U (sum p q)) (D (sum p q)) (L p * L q) above below (cut_off m n);
      below = surplus_below m n (m - n) (U (sum f o)) (D (sum f o)) (L f * L g) (U (sum p q)) (D (sum p q)) (L p * L q) above below (omega arith) (one_side (sum f o).upper);
    })

pub close_multiple : (k : ℕ) {p : Fraction} {n : ℕ} {f : Fraction} → Close p n f → Close (multiple k p) (k * n) (multiple k f)
unfolding multiple
close_multiple k {p} {n} {f} h =
    let e₁ = ap (λ x. x * L p) (up_of_multiple f.upper k) in
    let e₂ = ap (λ x. x * L p) (down_of_multiple f.upper k) in
    let e₃ = ap (λ x. x * L f) (up_of_multiple p.upper k) in
    let e₄ = ap (λ x. x * L f) (down_of_multiple p.upper k) in
    close
    (record {
      above = omega (arith, mul-le-mul_right k (apart h).above);
      below = omega (arith, mul-le-mul_right k (apart h).below);
    })

-- rounding adds one half
pub close_quotient : (d : ℕ) {p : Fraction} {n : ℕ} {f : Fraction} → 0 < d → Close p n f → Close (sum (quotient p d) half) (near n d) (quotient f d)
unfolding quotient half sum
close_quotient zero h k = absurd (omega arith)
close_quotient (suc d) {p} {n} {f} h k =
    let r = near_error n (suc d) h in
    let e = ap (λ x. x * (L f * suc d)) (upper_of_sum (quotient p (suc d)) half) in
    close
    (record {
      above = omega (arith, mul-le-mul_right (2 * suc d) (apart k).above, mul-le-mul_right (L f * (L p * suc d)) r.above);
      below = omega (arith, mul-le-mul_right (2 * suc d) (apart k).below, mul-le-mul_right (L f * (L p * suc d)) r.below);
    })

-- the smaller fraction, its whole number and another's
at_least : {p : Fraction} {m n : ℕ} {f g : Fraction} → AtMost f g → Close p m f → Close p n g → Close p (min m n) f
at_least {p} {m} {n} {f} {g} h k l =
    let h' = mul-le-mul_right (L p) ((in_naturals f g).0 h) in
    let below_n : OneSided 0 n (D f) (U f) (L f) (U p) (D p) (L p) =
    le_of_mul-le-mul_right {k = L g} (omega (arith, mul-le-mul_right (L f) (apart l).below)) g.above_zero in
    close
    (record {
      above = omega (arith, mul-le-mul_right (L f * L p) (min-le_left m n), (apart k).above);
      below = ⊎_elim (λ e. omega (arith, ap (λ x. x * (L f * L p)) e, (apart k).below)) (λ e. omega (arith, ap (λ x. x * (L f * L p)) e)) (one_of m n);
    })
  where
    one_of : (a b : ℕ) → (min a b ≡ a) ⊎ (min a b ≡ b)
    one_of a b = elim (dec_le a b) [ yes i ↦ inl (min-eq_left i) | no i ↦ inr (min-eq_right (le_of_lt (lt_of_not-le i))) ]

pub close_least : {p : Fraction} {m n : ℕ} {f g : Fraction} → Close p m f → Close p n g → Close p (min m n) (least f g)
unfolding least
close_least {p} {m} {n} {f} {g} h k = go (le_z (f.upper *ℤ pos (L g)) (g.upper *ℤ pos (L f))) refl
  where
    go : (t : Bool) → le_z (f.upper *ℤ pos (L g)) (g.upper *ℤ pos (L f)) ≡ t → Close p (min m n) (cond t f g)
    go true e = at_least (le_z_yes (subst T (sym e) tt)) h k
    go false e = subst (λ x. Close p x g) (min_comm n m) (at_least (otherwise _ _ e) k h)

-- the order, as it is tested
pub at_most_true : (f g : Fraction) → at_most f g ≡ true → AtMost f g
at_most_true f g e = le_z_yes (subst T (sym e) tt)

pub at_most_false : (f g : Fraction) → at_most f g ≡ false → AtMost g f
at_most_false f g e = otherwise _ _ e

pub at_most_through : (f g h : Fraction) → AtMost f g → AtMost g h → AtMost f h
at_most_through f g h p q =
    let a = mul-le-mul_right (L h) ((in_naturals f g).0 p) in
    let b = mul-le-mul_right (L f) ((in_naturals g h).0 q) in
    (in_naturals f h).1 (le_of_mul-le-mul_right {k = L g} (omega arith) g.above_zero)

pub fractions : Order at_most
fractions =
    record {
      itself = λ f. tested f f ((in_naturals f f).1 (omega arith));
      through = λ f g h p q. tested f h (at_most_through f g h (at_most_true f g p) (at_most_true g h q));
      either = λ f g e. tested g f (at_most_false f g e);
    }
  where
    held : (t : Bool) → T t → t ≡ true
    held true h = refl
    held false h = absurd h

    tested : (f g : Fraction) → AtMost f g → at_most f g ≡ true
    tested f g h = held (at_most f g) h.le

-- Whole numbers in one order and their fractions in the other: exchanged, they are no further apart.
pub close_crossed : {p : Fraction} {m n : ℕ} {f g : Fraction} → m ≤ n → AtMost g f → Close p m f → Close p n g → Close p m g × Close p n f
close_crossed {p} {m} {n} {f} {g} h k x y =
    let k' = mul-le-mul_right (L p) ((in_naturals g f).0 k) in
    let h₁ = mul-le-mul_right (L f * L p) h in
    let h₂ = mul-le-mul_right (L g * L p) h in
    let low : OneSided 0 m (D g) (U g) (L g) (U p) (D p) (L p) = le_of_mul-le-mul_right {k = L f} (omega (arith, mul-le-mul_right (L g) (apart x).below)) f.above_zero in
    let high : OneSided n 0 (U f) (D f) (L f) (U p) (D p) (L p) = le_of_mul-le-mul_right {k = L g} (omega (arith, mul-le-mul_right (L f) (apart y).above)) g.above_zero in
    (close (record { above = omega (arith, (apart y).above); below = low }), close (record { above = high; below = omega (arith, (apart x).below) }))

-- the smaller of two is at most the first, and is not below zero where neither is
pub least_left : (f g : Fraction) → AtMost (least f g) f
unfolding least
least_left f g = go (le_z (f.upper *ℤ pos (L g)) (g.upper *ℤ pos (L f))) refl
  where
    go : (t : Bool) → le_z (f.upper *ℤ pos (L g)) (g.upper *ℤ pos (L f)) ≡ t → AtMost (cond t f g) f
    go true e = (in_naturals f f).1 (omega arith)
    go false e = otherwise _ _ e

pub zero_least : (f g : Fraction) → AtMost (whole 0) f → AtMost (whole 0) g → AtMost (whole 0) (least f g)
unfolding least
zero_least f g h k = go (le_z (f.upper *ℤ pos (L g)) (g.upper *ℤ pos (L f)))
  where
    go : (t : Bool) → AtMost (whole 0) (cond t f g)
    go true = h
    go false = k

pub zero_whole : (n : ℕ) → AtMost (whole 0) (whole n)
unfolding whole
zero_whole n = (in_naturals (whole 0) (whole n)).1 (omega arith)

pub zero_multiple : (k : ℕ) (f : Fraction) → AtMost (whole 0) f → AtMost (whole 0) (multiple k f)
unfolding whole multiple
zero_multiple k f h =
    (in_naturals (whole 0) (multiple k f)).1 (omega (arith, up_of_multiple f.upper k, down_of_multiple f.upper k, mul-le-mul_right k ((in_naturals (whole 0) f).0 h)))

pub zero_quotient : (d : ℕ) (f : Fraction) → AtMost (whole 0) f → AtMost (whole 0) (quotient f d)
unfolding whole quotient
zero_quotient zero f h = zero_whole 0
zero_quotient (suc d) f h = (in_naturals (whole 0) (quotient f (suc d))).1 (omega (arith, (in_naturals (whole 0) f).0 h))

-- a larger limit
pub close_weaken : {p q : Fraction} {n : ℕ} {f : Fraction} → AtMost p q → Close p n f → Close q n f
close_weaken {p} {q} {n} {f} h k =
    let h' = mul-le-mul_right (L f) ((in_naturals p q).0 h) in
    close
    (record {
      above = le_of_mul-le-mul_right {k = L p} (omega (arith, mul-le-mul_right (L q) (apart k).above)) p.above_zero;
      below = le_of_mul-le-mul_right {k = L p} (omega (arith, mul-le-mul_right (L q) (apart k).below)) p.above_zero;
    })

-- two multiples of a fraction that are added one after the other are one
merged_numbers : (Ux Dx Lx Ur Dr Lr C E U₁ D₁ U₂ D₂ U₃ D₃ : ℕ) → U₁ + (Dx * Lr + Dr * C * Lx) ≡ Ux * Lr + Ur * C * Lx + D₁
    → U₂ + (D₁ * Lr + Dr * E * (Lx * Lr)) ≡ U₁ * Lr + Ur * E * (Lx * Lr) + D₂
    → U₃ + (Dx * Lr + Dr * (C + E) * Lx) ≡ Ux * Lr + Ur * (C + E) * Lx + D₃
    → U₂ * (Lx * Lr) + D₃ * (Lx * Lr * Lr) ≤ U₃ * (Lx * Lr * Lr) + D₂ * (Lx * Lr)
merged_numbers Ux Dx Lx Ur Dr Lr C E U₁ D₁ U₂ D₂ U₃ D₃ e₁ e₂ e₃ =
    let same : U₂ + D₃ * Lr ≡ U₃ * Lr + D₂ = omega (arith, ap (λ n. n * Lr) e₁, ap (λ n. n * Lr) e₃) in
    let times = ap (λ n. n * (Lx * Lr)) same in
    omega arith

merged : (x r : Fraction) (C E : ℕ) → AtMost (sum (sum x (multiple C r)) (multiple E r)) (sum x (multiple (C + E) r))
unfolding sum multiple
merged x r C E =
    let s₁ = sum x (multiple C r) in
    let s₂ = sum s₁ (multiple E r) in
    let s₃ = sum x (multiple (C + E) r) in
    let u = up_of_multiple r.upper in
    let d = down_of_multiple r.upper in
    (in_naturals s₂ s₃).1
    (merged_numbers (U x) (D x) (L x) (U r) (D r) (L r) C E (U s₁) (D s₁) (U s₂) (D s₂) (U s₃) (D s₃)
    (omega (arith, upper_of_sum x (multiple C r), ap (λ n. n * L x) (u C), ap (λ n. n * L x) (d C)))
    (omega (arith, upper_of_sum s₁ (multiple E r), ap (λ n. n * (L x * L r)) (u E), ap (λ n. n * (L x * L r)) (d E)))
    (omega (arith, upper_of_sum x (multiple (C + E) r), ap (λ n. n * L x) (u (C + E)), ap (λ n. n * L x) (d (C + E)))))

-- the rounding step: its error is that of each part, also of what is taken away, divided by d, and one half
abbrev pub step_error : Weights → (p q r : Fraction) → Fraction
step_error w p q r = sum (quotient (sum (sum (multiple w.A p) (multiple w.B q)) (multiple (w.C + w.E) r)) w.d) half

pub close_weighted : (w : Weights) {p q r : Fraction} {f u v : ℕ} {f̂ û v̂ : Fraction} → 0 < w.d → Close p f f̂ → Close q u û → Close r v v̂
    → Close (step_error w p q r) (weighted rounded w f u v) (weighted exact w f̂ û v̂)
unfolding weighted
close_weighted w h k l m =
    close_quotient w.d h
    (close_weaken (merged _ _ w.C w.E) (close_surplus (close_sum (close_sum (close_multiple w.A k) (close_multiple w.B l)) (close_multiple w.C m)) (close_multiple w.E m)))
