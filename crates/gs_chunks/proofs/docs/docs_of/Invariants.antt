use Rattle.std.proofs.Common.{length}
use denote.Text.{Utf8}
use denote.Shadow.{shadow}
use Rattle.gs_chunks.proofs.Walking.{IsWalk}
use Rattle.gs_chunks.proofs.docs.docs_of.Given as goal

-- the first says that the rest is text
abbrev pub invariant-loop-line : goal.invariant-loop-line
invariant-loop-line l = shadow (Utf8 l.rest) × IsWalk l.text l.comments l.starts l.at l.rest l.above l.left l.coming l.docs.items

abbrev pub decreases-loop-line : goal.decreases-loop-line
decreases-loop-line l = length l.rest
