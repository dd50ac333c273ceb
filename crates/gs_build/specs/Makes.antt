-- What is made at a place, by what is wanted there.
use Rattle.std.specs.Prelude.{List, Option, Some, Result}
use Rattle.gs_syntax.specs.declared.token.Token.{Token}
use Rattle.gs_grammar.specs.Front.{◌>>=◌}
use Rattle.gs_places.specs.Places.{stands}
use Rattle.gs_places.specs.declared.rest.Rest.{Rest}
use Rattle.gs_build_base.specs.declared.pieces.Piece.{Piece}
use Rattle.gs_build_base.specs.declared.pieces.Stop.{Stop}
use Rattle.gs_build.specs.declared.want.Want.{Want}
use Rattle.gs_build.specs.declared.want.Want.TheVariants as want
use Rattle.gs_build.specs.declared.want.Made.{Made}
use Rattle.gs_build.specs.declared.want.Made.TheVariants as made
use Rattle.gs_build_base.specs.Pieces.{Gives}

-- the tree that is wanted at a place, and what is left behind it
abbrev pub wanted : Want → List Token → Option (Made × List Token)
wanted want.Type s = (stands s).type >>= λ f. Some (made.Type f.tree, f.rest)
wanted want.Signature s = (stands s).signature >>= λ f. Some (made.Signature f.tree, f.rest)
wanted (want.Parameters v) s = (stands s).params v >>= λ f. Some (made.Parameters f.tree, f.rest)
wanted (want.Expr m h w) s = (stands s).expr m h w >>= λ f. Some (made.Expr f.tree, f.rest)
wanted (want.Unary h w) s = (stands s).unary h w >>= λ f. Some (made.Expr f.tree, f.rest)
wanted (want.Primary h) s = (stands s).primary h >>= λ f. Some (made.Expr f.tree, f.rest)
wanted (want.Exprs h) s = (stands s).exprs h >>= λ f. Some (made.Exprs f.tree, f.rest)
wanted want.Elements s = (stands s).elements >>= λ f. Some (made.Elements f.tree, f.rest)
wanted want.Block s = (stands s).block >>= λ f. Some (made.Block f.tree, f.rest)
wanted want.Statements s = (stands s).stmts >>= λ f. Some (made.Statements f.tree, f.rest)
wanted want.Statement s = (stands s).stmt >>= λ f. Some (made.Statement f.tree, f.rest)
wanted want.Declaration s = (stands s).decl >>= λ f. Some (made.Declaration f.tree, f.rest)
wanted want.Chunk s = (stands s).chunk >>= λ f. Some (made.Chunk f.tree, f.rest)

abbrev pub Makes : Want → Rest → Result (Piece Made) Stop → Type 0
Makes w s r = Gives r (wanted w s.tokens.now)

-- what a maker gives is what is wanted
abbrev pub Faithful : (Want → Rest → Result (Piece Made) Stop → Type 0) → Type 0
Faithful post = (w : Want) (s : Rest) (r : Result (Piece Made) Stop) → post w s r → Makes w s r
