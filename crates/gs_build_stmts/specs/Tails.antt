-- The ends of long forms: what stands behind their first parts.
use Rattle.std.specs.Prelude.{true, false, List, Option, Some}
use Rattle.gs_syntax.specs.declared.token.Span.{Span}
use Rattle.gs_syntax.specs.declared.token.Token.{Token}
use Rattle.gs_syntax.specs.declared.token.Operator.TheVariants as mark
use Rattle.gs_grammar.specs.declared.trees.Block.{Block}
use Rattle.gs_grammar.specs.declared.trees.Clause.{Clause}
use Rattle.gs_grammar.specs.declared.trees.Expr.{Expr}
use Rattle.gs_grammar.specs.declared.trees.Simple.{Simple}
use Rattle.gs_grammar.specs.declared.trees.TypeClause.{TypeClause}
use Rattle.gs_grammar.specs.Front.{◌>>=◌, mark_at}
use Rattle.gs_places.specs.Places.{stands}

unfoldable pub tail_of_header_type_switch : List Token → Option (((Option (Token × Span) × Expr × Span) × List TypeClause × Span) × List Token)
tail_of_header_type_switch s = (stands s).guard >>= λ y. mark_at mark.LeftBrace y.rest >>= λ z3. (stands z3.1).type_clauses >>= λ cs. mark_at mark.RightBrace cs.rest >>= λ q. Some ((y.tree, cs.tree, q.0), q.1)

unfoldable pub tail_of_header_switch : List Token → Option ((Option Expr × List Clause × Span) × List Token)
tail_of_header_switch s = (stands s).tag_value >>= λ o. mark_at mark.LeftBrace o.rest >>= λ z4. (stands z4.1).clauses >>= λ cs. mark_at mark.RightBrace cs.rest >>= λ q. Some ((o.tree, cs.tree, q.0), q.1)

unfoldable pub tail_of_range : List Token → Option ((Expr × Block) × List Token)
tail_of_range s = (stands s).expr 5 true false >>= λ t. (stands t.rest).block >>= λ b. Some ((t.tree, b.tree), b.rest)

unfoldable pub tail_of_loop : List Token → Option ((Simple × Block) × List Token)
tail_of_loop s = (stands s).post >>= λ j. (stands j.rest).block >>= λ b. Some ((j.tree, b.tree), b.rest)
