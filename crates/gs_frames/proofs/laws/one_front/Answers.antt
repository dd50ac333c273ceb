use Rattle.gs_frames.proofs.Reading as reading
use Rattle.gs_frames.proofs.laws.one_front.Goals as goal

pub returns : goal.returns
returns c = record {
  frame = reading.one_frame;
  frame_or_fault = reading.frame_no_fault;
  frame_or_too_long = reading.frame_not_long;
  too_long_or_fault = reading.long_no_fault;
  number = reading.one_long;
}
