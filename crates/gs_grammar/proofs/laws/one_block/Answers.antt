use Rattle.gs_grammar.proofs.Whole.{one_block}
use Rattle.gs_grammar.proofs.laws.one_block.Goals as goal

pub returns : goal.returns
returns c = λ t u s r v x y p q. one_block p q
