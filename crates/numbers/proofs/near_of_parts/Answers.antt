-- `numbers::near_of_parts` meets its contract: of an even quotient and of an odd b nothing is taken.
use Prim.Native.Nat.{ℕ, ◌+◌, ◌-◌, ◌/◌, ◌%◌, ◌≤◌, ◌<◌}
use mathlib.Core.Path.{◌≡◌, sym, ap, ◌∙◌}
use native.Mathlib.Decide.{ℕ_discrete}
use native.Mathlib.Omega.{arith}
use Rattle.numbers.specs.Near.{near}
use Rattle.numbers.proofs.Rounding.{near_part, near_even}
use Rattle.numbers.proofs.near_of_parts.Goals as goal

module _ (h b : ℕ) (p : 0 < b) (a loss : ℕ) (e : h ≡ a + b / 2 - loss) where
  last-bit-taken : h % b < h / b % 2 → h / b - h / b % 4 % (2 - b % 2) ≡ near (a - loss) b
  last-bit-taken z =
      elim (ℕ_discrete (b % 2) 0) [
        | yes even ↦ ap (λ k. h / b - h / b % 4 % (2 - k)) even ∙ omega arith ∙ sym (near_even a loss b h p e (omega (arith, z, even)))
        | no n ↦ let odd : b % 2 ≡ 1 = omega (arith, n) in ap (λ k. h / b - h / b % 4 % (2 - k)) odd ∙ omega arith ∙ sym (near_part a loss b h p e (λ t. n (omega (arith, t))))
      ]

  -- an even quotient, or no half
  left-whole : h / b % 2 ≤ h % b → h / b ≡ near (a - loss) b
  left-whole l =
      elim (ℕ_discrete (h % b + b % 2) 0) [
        | yes z ↦ omega arith ∙ sym (near_even a loss b h p e z)
        | no n ↦ sym (near_part a loss b h p e n)
      ]

pub returns-then-rest-whole : goal.returns-then-rest-whole
returns-then-rest-whole c h a loss w r e =
    ap (λ k. c.args.whole - k) c.from.ensures ∙ rw w (last-bit-taken h c.args.b c.requires a loss e (rw (w, r) at c.if-rest-whole.true))

pub returns-else-rest-whole : goal.returns-else-rest-whole
returns-else-rest-whole c h a loss w r e = w ∙ left-whole h c.args.b c.requires a loss e (rw (w, r) at c.if-rest-whole.false)
