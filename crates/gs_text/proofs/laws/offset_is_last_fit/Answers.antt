use Rattle.gs_text.proofs.PositionLaws.{last_fit}
use Rattle.gs_text.proofs.laws.offset_is_last_fit.Goals as goal

pub returns : goal.returns
returns c = last_fit c.args.unit c.args.text.now c.args.position c.utf8.text
