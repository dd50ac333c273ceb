use Rattle.gs_frames.proofs.Reading as reading
use Rattle.gs_frames.proofs.laws.one_reading.Goals as goal

pub returns : goal.returns
returns c = reading.one_reading
