use Rattle.gs_grammar.proofs.Mixed.{type-stands-plain, plain-type-stands, one-plain-type}
use Rattle.gs_grammar.proofs.laws.longest_type.Goals as goal

pub returns-clause-plain : goal.returns-clause-plain
returns-clause-plain c = λ t s r d q. type-stands-plain q

pub returns-clause-stands : goal.returns-clause-stands
returns-clause-stands c = λ t s r d q. plain-type-stands q

pub returns-clause-one : goal.returns-clause-one
returns-clause-one c = λ t u s r v x y a b. one-plain-type a b
