use Rattle.gs_syntax.proofs.OneList.{cut_same}
use Rattle.gs_syntax.proofs.laws.one_cut.Goals as goal

pub returns : goal.returns
returns c = cut_same
