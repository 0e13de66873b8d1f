-- Runs over a list, from one element to the next.
use Rattle.std.specs.Prelude.{List, [], ◌∷◌}

-- with a state: each element gives an output and the next state
unfoldable pub scan : {S A B : Type 0} → (next : S → A → S) → (out : S → A → B) → S → List A → List B
scan next out s [] = []
scan next out s (x ∷ xs) = out s x ∷ scan next out (next s x) xs

-- A recursive run over u(0), u(1), ..: `first` gives f(0) from u(0), and `next` each later f(t) from f(t-1), u(t) and
-- u(t-1). `onward` goes on from f = f(t-1) and v = u(t-1).
unfoldable pub onward : {U F : Type 0} → (next : F → U → U → F) → F → U → List U → List F
onward next f v [] = []
onward next f v (u ∷ us) = next f u v ∷ onward next (next f u v) u us

unfoldable pub recursive : {U F : Type 0} → (first : U → F) → (next : F → U → U → F) → List U → List F
unfolding onward
recursive first next [] = []
recursive first next (u ∷ us) = first u ∷ onward next (first u) u us
