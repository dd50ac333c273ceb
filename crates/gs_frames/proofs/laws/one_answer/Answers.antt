use Rattle.gs_frames.proofs.Answering.{at_incomplete, at_fault, at_too_long, at_frame}
use Rattle.gs_frames.proofs.laws.one_answer.Goals as goal

pub returns : goal.returns
returns c = record { more = at_incomplete; header = at_fault; too_long = at_too_long; frame = at_frame }
