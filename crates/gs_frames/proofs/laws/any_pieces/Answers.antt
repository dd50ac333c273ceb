use Rattle.gs_frames.proofs.Running.{run_frames, run_rest, run_place, one_end, run_header}
use Rattle.gs_frames.proofs.laws.any_pieces.Goals as goal

pub returns : goal.returns
returns c = record { frames = run_frames; rest = run_rest; place = run_place; however_cut = one_end; header = run_header }
