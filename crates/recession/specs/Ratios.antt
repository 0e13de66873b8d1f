-- Recession ratios, in ten-thousandths, and their median in rising order.
use Rattle.std.specs.Prelude.{ℕ, ◌+◌, ◌*◌, ◌/◌, List, [], ◌∷◌, ◌++◌, length, leb}
use Rattle.numbers.specs.Near.{near}
use Rattle.numbers.specs.Order.{rising, at_rank}
use Rattle.recession.specs.Limbs.{Limb}

-- near(10000 × later / earlier)
abbrev pub ratio : ℕ → ℕ → ℕ
ratio earlier later = near (10000 * later) earlier

-- one for each pair of neighbouring days of a limb
unfoldable pub pair_ratios : List ℕ → List ℕ
pair_ratios [] = []
pair_ratios (y ∷ []) = []
pair_ratios (y ∷ z ∷ ys) = ratio y z ∷ pair_ratios (z ∷ ys)

-- those of several limbs
unfoldable pub limb_ratios : List Limb → List ℕ
limb_ratios [] = []
limb_ratios (l ∷ ls) = pair_ratios l.flows ++ limb_ratios ls

-- of k ratios the one of rank (k + 1) / 2, rounded down, in rising order
unfoldable pub median : List ℕ → ℕ
median ratios = at_rank 0 ((length ratios + 1) / 2) (rising leb ratios)
