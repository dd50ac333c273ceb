-- A token at its place.
use Rattle.std.specs.Prelude.{◌≡◌, ◌+◌, ℕ, List, ◌∷◌}
use Rattle.gs_syntax.specs.declared.token.Token.{Token}
use Rattle.gs_places.specs.Places.{last}

-- x stands where so many tokens r are left behind it
pub record Comes (left : ℕ) (tokens : List Token) (x : Token) (r : List Token) : Type 0 where
  pub behind : last left tokens ≡ r
  pub from : last (left + 1) tokens ≡ x ∷ r
