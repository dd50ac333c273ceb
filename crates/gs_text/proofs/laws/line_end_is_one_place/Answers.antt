use Rattle.gs_text.proofs.PositionLaws.{one_place}
use Rattle.gs_text.proofs.laws.line_end_is_one_place.Goals as goal

pub returns : goal.returns
returns c = one_place c.args.unit c.args.text.now c.args.offset c.requires
