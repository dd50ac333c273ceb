use Rattle.gs_grammar.proofs.Whole.{one_expr}
use Rattle.gs_grammar.proofs.laws.one_expr.Goals as goal

pub returns : goal.returns
returns c = λ h t u s r v x y p q. one_expr p q
