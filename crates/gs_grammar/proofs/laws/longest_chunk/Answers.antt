use Rattle.gs_grammar.proofs.Mixed.{chunk-stands-plain, plain-chunk-stands, one-plain-chunk}
use Rattle.gs_grammar.proofs.laws.longest_chunk.Goals as goal

pub returns-clause-plain : goal.returns-clause-plain
returns-clause-plain c = λ t s r d q. chunk-stands-plain q

pub returns-clause-stands : goal.returns-clause-stands
returns-clause-stands c = λ t s r d q. plain-chunk-stands q

pub returns-clause-one : goal.returns-clause-one
returns-clause-one c = λ t u s r v x y a b. one-plain-chunk a b
