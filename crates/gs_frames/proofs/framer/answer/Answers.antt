use Rattle.std.proofs.Common.{arith}
use Rattle.gs_frames.proofs.Fronts.{takes_frame, frame_begins_at, stays_at}
use Rattle.gs_frames.proofs.framer.answer.Goals as goal

pub returns-in-Ok : goal.returns-in-Ok
returns-in-Ok c = (c.in-Frame.ensures.1, takes_frame c.args.at c.args.rest.now c.in-Ok.body c.in-Frame.start c.in-Frame.end c.in-Frame.ensures c.in-Ok.ensures)

pub returns-in-Err : goal.returns-in-Err
returns-in-Err c = (omega arith, ((_, _, frame_begins_at c.args.rest.now c.in-Frame.start c.in-Frame.end c.in-Frame.ensures), stays_at c.args.at c.args.rest.now))
