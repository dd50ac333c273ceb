use Rattle.gs_frames.proofs.Staying.{frame_more, frames_more, fault_more, too_long_more}
use Rattle.gs_frames.proofs.laws.stays_found.Goals as goal

pub returns : goal.returns
returns c = record {
  frame = λ bytes body rest more f. frame_more bytes more body rest f;
  frames = λ bytes bodies rest more f. frames_more bytes more bodies rest f;
  fault = fault_more;
  too_long = too_long_more;
}
