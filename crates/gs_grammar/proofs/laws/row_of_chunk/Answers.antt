use Rattle.gs_grammar.specs.Parts.{found}
use Rattle.gs_grammar.proofs.Whole.{chunk-whole, chunk-stands}
use Rattle.gs_grammar.proofs.laws.row_of_chunk.Goals as goal

pub returns : goal.returns
returns c = λ t s r d. (λ p. chunk-whole p, λ e. chunk-stands s (found t r d) e)
