use Rattle.std.proofs.Common.{length}
use Rattle.gs_frames.proofs.Scanning.{Scanned}
use Rattle.gs_frames.proofs.header.read_header.Given as goal

abbrev pub invariant-loop-line : goal.invariant-loop-line
invariant-loop-line l = Scanned l.fn.bytes l.rest l.length

abbrev pub decreases-loop-line : goal.decreases-loop-line
decreases-loop-line l = length l.rest
