use Rattle.gs_text.proofs.PositionLaws.{rise}
use Rattle.gs_text.proofs.laws.positions_rise.Goals as goal

pub returns : goal.returns
returns c = rise c.args.unit c.args.text.now c.args.offset c.args.later c.utf8.text c.requires.whole c.requires.order
