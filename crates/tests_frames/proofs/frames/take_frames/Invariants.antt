use Rattle.std.proofs.Common.{◌≡◌, ◌+◌, length}
use Rattle.tests_frames.proofs.frames.take_frames.Given as goal

abbrev pub invariant-loop : goal.invariant-loop
invariant-loop l = l.framer.at + length l.framer.rest ≡ l.fn.framer.at + length l.fn.framer.rest
