-- The ends of long forms: what stands behind their first parts.
use Rattle.std.specs.Prelude.{true, false, List, Option, Some}
use Rattle.gs_syntax.specs.declared.token.Token.{Token}
use Rattle.gs_grammar.specs.declared.trees.Block.{Block}
use Rattle.gs_grammar.specs.declared.trees.Expr.{Expr}
use Rattle.gs_grammar.specs.Front.{◌>>=◌}
use Rattle.gs_places.specs.Places.{stands}

unfoldable pub tail_of_header_arm : List Token → Option ((Expr × Block) × List Token)
tail_of_header_arm s = (stands s).expr 5 true false >>= λ c. (stands c.rest).block >>= λ b. Some ((c.tree, b.tree), b.rest)
