use Rattle.gs_grammar.proofs.Mixed.{stmts-stands-plain, plain-stmts-start}
use Rattle.gs_grammar.proofs.laws.longest_stmts.Goals as goal

pub returns-clause-plain : goal.returns-clause-plain
returns-clause-plain c = λ ts s r d q. stmts-stands-plain q

pub returns-clause-front : goal.returns-clause-front
returns-clause-front c = λ ts us s r v x y a b. let h = plain-stmts-start a b in (h.0, h.1)

pub returns-clause-longest : goal.returns-clause-longest
returns-clause-longest c = λ ts us s r v x y a b. (plain-stmts-start a b).2
