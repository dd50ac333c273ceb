use Rattle.gs_text.proofs.PositionLaws.{offsets_rise}
use Rattle.gs_text.proofs.laws.offsets_rise.Goals as goal

pub returns : goal.returns
returns c = offsets_rise c.args.unit c.args.text.now c.args.position c.args.later c.utf8.text c.requires
