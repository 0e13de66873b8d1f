-- What the private functions ask of each other. No promise of a public call cites these definitions.
use Rattle.std.specs.Prelude.{◌≡◌, ℕ, false, List, length}
use Rattle.series.specs.Lists.{any_invalid_base}

-- lists of one length, with valid base values
pub record Ready (days base takings : List ℕ) : Type 0 where
  pub same_base : length days ≡ length base
  pub same_takings : length days ≡ length takings
  pub valid : any_invalid_base days base ≡ false
