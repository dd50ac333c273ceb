use Rattle.std.proofs.Common.{inr}
use Rattle.gs_frames.proofs.Staying.{fault_near, fault_is_last}
use Rattle.gs_frames.proofs.laws.found_early.Goals as goal

pub returns : goal.returns
returns c = record { near = fault_near; surely = λ bytes long none. inr (long, none); rightly = fault_is_last }
