use Rattle.gs_grammar.proofs.Mixed.{block-stands-plain, plain-block-stands, one-plain-block}
use Rattle.gs_grammar.proofs.laws.longest_block.Goals as goal

pub returns-clause-plain : goal.returns-clause-plain
returns-clause-plain c = λ t s r d q. block-stands-plain q

pub returns-clause-stands : goal.returns-clause-stands
returns-clause-stands c = λ t s r d q. plain-block-stands q

pub returns-clause-one : goal.returns-clause-one
returns-clause-one c = λ t u s r v x y a b. one-plain-block a b
