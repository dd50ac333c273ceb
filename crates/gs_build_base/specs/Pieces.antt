-- What a builder gives: the tree that stands at a place and what is left behind it, unless memory runs out.
use Rattle.std.specs.Prelude.{◌≡◌, List, [], ◌∷◌, ◌++◌, Option, Some, None, Result, Ok, Err}
use Rattle.gs_syntax.specs.declared.token.Token.{Token}
use Rattle.gs_grammar.specs.Front.{◌>>=◌}
use Rattle.gs_grammar.specs.Parts.{Found}
use Rattle.gs_build_base.specs.declared.pieces.Piece.{Piece}
use Rattle.gs_build_base.specs.declared.pieces.Turn.{Turn}
use Rattle.gs_build_base.specs.declared.pieces.Turn.TheVariants as turn
use Rattle.gs_build_base.specs.declared.pieces.Part.{Part}
use Rattle.gs_build_base.specs.declared.pieces.Part.TheVariants as part
use Rattle.gs_build_base.specs.declared.pieces.Stop.{Stop}
use Rattle.gs_build_base.specs.declared.pieces.Stop.TheVariants as stop

-- a tree and what is left behind it
abbrev pub whole : {A : Type 0} → Option (Found A) → Option (A × List Token)
whole o = o >>= λ f. Some (f.tree, f.rest)

abbrev pub Fails : {A : Type 0} → Stop → Option A → Type 0
Fails stop.NoMemory o = Unit {0}
Fails stop.Absent o = o ≡ None

abbrev pub Gives : {A : Type 0} → Result (Piece A) Stop → Option (A × List Token) → Type 0
Gives (Ok p) o = o ≡ Some (p.tree, p.rest.tokens.now)
Gives (Err e) o = Fails e o

abbrev pub Builds : {A : Type 0} → Result (Piece A) Stop → Option (Found A) → Type 0
Builds result o = Gives result (whole o)

-- a list behind the items before it
unfoldable pub joined : {A : Type 0} → List A → Option (List A × List Token) → Option (List A × List Token)
joined xs None = None
joined xs (Some p) = Some (xs ++ p.0, p.1)

-- the same, of a list that something follows
unfoldable pub joined_to : {A E : Type 0} → List A → Option ((List A × E) × List Token) → Option ((List A × E) × List Token)
joined_to xs None = None
joined_to xs (Some p) = Some ((xs ++ p.0.0, p.0.1), p.1)

-- what a turn gives of a list, where `list` has the list of each place
abbrev pub Turns : {A : Type 0} → (List Token → Option (Found (List A))) → Result (Turn A) Stop → Option (Found (List A)) → Type 0
Turns list (Ok (turn.More x r)) o = whole o ≡ joined (x ∷ []) (whole (list r.tokens.now))
Turns list (Ok (turn.Last x r)) o = whole o ≡ Some (x ∷ [], r.tokens.now)
Turns list (Ok (turn.End r)) o = whole o ≡ Some ([], r.tokens.now)
Turns list (Err e) o = Fails e (whole o)

abbrev pub Parts : {A E : Type 0} → (List Token → Option (Found (List A × E))) → Result (Part A E) Stop → Option (Found (List A × E)) → Type 0
Parts list (Ok (part.More x r)) o = whole o ≡ joined_to (x ∷ []) (whole (list r.tokens.now))
Parts list (Ok (part.Last x e r)) o = whole o ≡ Some ((x ∷ [], e), r.tokens.now)
Parts list (Ok (part.End e r)) o = whole o ≡ Some (([], e), r.tokens.now)
Parts list (Err e) o = Fails e (whole o)
