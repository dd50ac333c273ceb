use Rattle.std.proofs.Common.{[]}
use Rattle.gs_frames.proofs.header.read_line.Goals as goal

pub returns-in_default : goal.returns-in_default
returns-in_default c = ((λ field e _ _. c.in_default.ensures field e), λ e. absurd (c.in_default.ensures [] e))
