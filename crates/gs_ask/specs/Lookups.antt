-- How two lookups compare.
use Rattle.std.specs.Prelude.{◌≡◌, Some}
use Rattle.gs_ask.specs.Ask.{Lookup}

-- what the first says of a name, the second says too
pub record Refines {S R : Type 0} (m m' : Lookup S R) : Type 0 where
  pub on : (s : S) (r : R) → m s ≡ Some r → m' s ≡ Some r

-- of no name they say two things
pub record Compatible {S R : Type 0} (m m' : Lookup S R) : Type 0 where
  pub on : (s : S) (r r' : R) → m s ≡ Some r → m' s ≡ Some r' → r ≡ r'

-- at the names of K they are the same
pub record Agree {S R : Type 0} (K : S → Type 0) (m m' : Lookup S R) : Type 0 where
  pub on : (s : S) → K s → m s ≡ m' s
