use Rattle.gs_grammar.proofs.Whole.{one_type}
use Rattle.gs_grammar.proofs.laws.one_type.Goals as goal

pub returns : goal.returns
returns c = λ t u s r v x y p q. one_type p q
