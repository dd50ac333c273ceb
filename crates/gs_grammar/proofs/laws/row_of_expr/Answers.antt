use Rattle.gs_grammar.specs.Parts.{found}
use Rattle.gs_grammar.proofs.Whole.{expr-whole, expr-stands}
use Rattle.gs_grammar.proofs.laws.row_of_expr.Goals as goal

pub returns : goal.returns
returns c = λ h t s r d. (λ p. expr-whole p, λ e. expr-stands h s (found t r d) e)
