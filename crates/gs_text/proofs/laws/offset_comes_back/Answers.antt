use Rattle.gs_text.proofs.PositionLaws.{comes_back}
use Rattle.gs_text.proofs.laws.offset_comes_back.Goals as goal

pub returns : goal.returns
returns c = comes_back c.args.unit c.args.text.now c.args.offset c.utf8.text c.requires.whole c.requires.outside
