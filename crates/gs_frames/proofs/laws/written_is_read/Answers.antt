use Rattle.gs_frames.proofs.Written.{written_frame, written_frames, written_too_long}
use Rattle.gs_frames.proofs.laws.written_is_read.Goals as goal

pub returns : goal.returns
returns c = record { frame = written_frame; frames = written_frames; too_long = written_too_long }
