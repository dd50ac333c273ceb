use Rattle.gs_grammar.specs.Parts.{found}
use Rattle.gs_grammar.proofs.Whole.{block-whole, block-stands}
use Rattle.gs_grammar.proofs.laws.row_of_block.Goals as goal

pub returns : goal.returns
returns c = λ t s r d. (λ p. block-whole p, λ e. block-stands s (found t r d) e)
