use Rattle.std.proofs.Common.{◌≡◌, length}
use Rattle.gs_frames.specs.Header.{without_blanks_before}
use Rattle.gs_frames.proofs.field.skip_blanks.Given as goal

abbrev pub invariant-loop-first : goal.invariant-loop-first
invariant-loop-first l = without_blanks_before l.rest ≡ without_blanks_before l.fn.text

abbrev pub decreases-loop-first : goal.decreases-loop-first
decreases-loop-first l = length l.rest
