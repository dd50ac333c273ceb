use Rattle.std.proofs.Common.{◌≡◌, length}
use Rattle.gs_frames.specs.Header.{without_blanks_behind}
use Rattle.gs_frames.proofs.field.cut_blanks.Given as goal

abbrev pub invariant-loop-last : goal.invariant-loop-last
invariant-loop-last l = without_blanks_behind l.rest ≡ without_blanks_behind l.fn.text

abbrev pub decreases-loop-last : goal.decreases-loop-last
decreases-loop-last l = length l.rest
