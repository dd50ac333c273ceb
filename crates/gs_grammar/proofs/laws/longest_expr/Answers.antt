use Rattle.gs_grammar.proofs.Mixed.{expr-stands-plain, plain-longest}
use Rattle.gs_grammar.proofs.laws.longest_expr.Goals as goal

pub returns-clause-plain : goal.returns-clause-plain
returns-clause-plain c = λ h t s r d q. expr-stands-plain q

pub returns-clause-longest : goal.returns-clause-longest
returns-clause-longest c = λ h t s r d q. plain-longest h q
