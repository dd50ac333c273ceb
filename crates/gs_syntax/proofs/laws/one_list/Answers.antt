use Rattle.gs_syntax.proofs.OneList.{tokens_same}
use Rattle.gs_syntax.proofs.laws.one_list.Goals as goal

pub returns : goal.returns
returns c = tokens_same
