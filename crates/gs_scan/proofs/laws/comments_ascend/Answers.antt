use Rattle.gs_scan.proofs.Ascending.{comments_ascend}
use Rattle.gs_scan.proofs.laws.comments_ascend.Goals as goal

pub returns : goal.returns
returns c = comments_ascend
