use Rattle.std.proofs.Common.{arith, length-drop}
use Rattle.gs_frames.proofs.Fronts.{begins_at, too_few, frame_at}
use Rattle.gs_frames.proofs.front.behind_header.Goals as goal

pub returns-then-number-gt-MOST_OF_BODY : goal.returns-then-number-gt-MOST_OF_BODY
returns-then-number-gt-MOST_OF_BODY c = record {
  begins = begins_at c.args.bytes.now c.args.number c.args.size c.requires.within c.requires.near c.requires.header;
  above = omega arith;
}

pub returns-then-bytes-size : goal.returns-then-bytes-size
returns-then-bytes-size c =
    too_few c.args.bytes.now c.args.number (begins_at c.args.bytes.now c.args.number c.args.size c.requires.within c.requires.near c.requires.header)
    (omega arith) (omega (arith, length-drop c.args.size c.args.bytes.now))

pub returns : goal.returns
returns c = (omega arith, omega arith, frame_at c.args.bytes.now c.args.number c.args.size c.requires.within c.requires.near c.requires.header (omega arith) (omega arith))
