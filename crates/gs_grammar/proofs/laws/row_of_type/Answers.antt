use Rattle.gs_grammar.specs.Parts.{found}
use Rattle.gs_grammar.proofs.Whole.{type-whole, type-stands}
use Rattle.gs_grammar.proofs.laws.row_of_type.Goals as goal

pub returns : goal.returns
returns c = λ t s r d. (λ p. type-whole p, λ e. type-stands s (found t r d) e)
