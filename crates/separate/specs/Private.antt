-- What reading standard input promises. No public promise speaks of this.
use Rattle.std.specs.Prelude.{ℕ, ◌<◌, List, Option, length, take}
use Rattle.std.specs.Io.KnownBytes.{Consumes, IsAtEnd}

-- the whole input: as many of the bytes that are known to be left as the buffer has room for, now at its start, and all of
-- them if any room is left
abbrev pub TakesAll : (left after : Option (List ℕ)) → (bytes : List ℕ) → (n : ℕ) → Type 0
TakesAll left after bytes n = Consumes left after (take n bytes) × (n < length bytes → IsAtEnd after)
