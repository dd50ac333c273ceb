use Rattle.std.proofs.Common.{◌≡◌, drop}
use Rattle.gs_scan.specs.Reading.{close_from}
use Rattle.gs_scan.proofs.blank.comment_end.Given as goal

abbrev pub invariant-loop-at : goal.invariant-loop-at
invariant-loop-at l = close_from l.at (drop l.at l.bytes) ≡ close_from 0 l.bytes
