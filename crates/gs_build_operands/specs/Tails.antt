-- The ends of long forms: what stands behind their first parts.
use Rattle.std.specs.Prelude.{false, List, Option, Some}
use Rattle.gs_syntax.specs.declared.token.Span.{Span}
use Rattle.gs_syntax.specs.declared.token.Token.{Token}
use Rattle.gs_syntax.specs.declared.token.Operator.TheVariants as mark
use Rattle.gs_grammar.specs.declared.trees.Expr.{Expr}
use Rattle.gs_grammar.specs.Front.{◌>>=◌, mark_at}
use Rattle.gs_places.specs.Places.{stands}

unfoldable pub tail_of_full_slice : List Token → Option ((Expr × Expr × Span) × List Token)
tail_of_full_slice s = (stands s).expr 5 false false >>= λ b. mark_at mark.Colon b.rest >>= λ z5. (stands z5.1).expr 5 false false >>= λ c. mark_at mark.RightBracket c.rest >>= λ q. Some ((b.tree, c.tree, q.0), q.1)
