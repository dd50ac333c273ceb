use Rattle.gs_text.proofs.OffsetsAt.{offset_past}
use Rattle.gs_text.proofs.laws.lines_end_with_text.Goals as goal

pub returns : goal.returns
returns c = offset_past c.args.unit c.args.text.now c.args.position c.requires
