use Rattle.std.proofs.Common.{◌≡◌, ◌+◌, length}
use Rattle.tests_frames.proofs.frames.read.Given as goal

abbrev pub invariant-pieces : goal.invariant-pieces
invariant-pieces l = l.framer.at + length l.framer.rest + length l.rest ≡ length l.fn.stream

abbrev pub decreases-pieces : goal.decreases-pieces
decreases-pieces l = length l.rest
