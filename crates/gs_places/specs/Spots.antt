-- What a reader of a form finds.
use Rattle.std.specs.Prelude.{List, Option}
use Rattle.gs_syntax.specs.declared.token.Token.{Token}
use Rattle.gs_grammar.specs.Parts.{Found}
use Rattle.gs_places.specs.declared.rest.Rest.{Rest}
use Rattle.gs_places.specs.declared.rest.Spot.{Spot}
use Rattle.gs_places.specs.Places.{Sees, spot, left}

-- where the form ends and how deep it nests, or that it doesn't stand
abbrev pub Spots : {A : Type 0} → Option Spot → Option (Found A) → Type 0
Spots result o = Sees (λ f. (f.depth, f.rest.tokens.now)) result (spot o)

-- what is left behind the token, or that it doesn't stand
abbrev pub Leads : {A : Type 0} → Option Rest → Option (A × List Token) → Type 0
Leads result o = Sees (λ r. r.tokens.now) result (left o)
