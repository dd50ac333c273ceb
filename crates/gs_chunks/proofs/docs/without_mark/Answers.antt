use Rattle.gs_chunks.proofs.Texts.{unmarked}
use Rattle.gs_chunks.proofs.docs.without_mark.Goals as goal

pub returns-clause-rest : goal.returns-clause-rest
returns-clause-rest c = (unmarked c.args.text c.unwrap_or.result c.strip_prefix.result c.strip_prefix.ensures.cases c.unwrap_or.ensures).0

pub returns-clause-len : goal.returns-clause-len
returns-clause-len c = (unmarked c.args.text c.unwrap_or.result c.strip_prefix.result c.strip_prefix.ensures.cases c.unwrap_or.ensures).1
