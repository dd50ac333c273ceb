use Rattle.gs_grammar.proofs.Whole.{one_chunk}
use Rattle.gs_grammar.proofs.laws.one_chunk.Goals as goal

pub returns : goal.returns
returns c = λ t u s r v x y p q. one_chunk p q
