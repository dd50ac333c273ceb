-- The ends of long forms: what stands behind their first parts.
use Rattle.std.specs.Prelude.{List, Option, Some}
use Rattle.gs_syntax.specs.declared.token.Token.{Token}
use Rattle.gs_grammar.specs.declared.trees.Block.{Block}
use Rattle.gs_grammar.specs.declared.trees.Signature.{Signature}
use Rattle.gs_grammar.specs.Front.{◌>>=◌}
use Rattle.gs_places.specs.Places.{stands}

unfoldable pub tail_of_method_decl : List Token → Option ((Signature × Option Block) × List Token)
tail_of_method_decl s = (stands s).signature >>= λ z. (stands z.rest).body >>= λ o. Some ((z.tree, o.tree), o.rest)
