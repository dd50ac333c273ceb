use Rattle.gs_text.specs.LineEnds.{begins_line}
use Rattle.gs_text.proofs.Ranges.{range_more_kept, range_more_left}
use Rattle.gs_text.proofs.lines.Lines.new.Goals as goal
use Rattle.gs_text.proofs.lines.Lines.new.Goals.{then-begins+in_ok-push, else-begins}

pub loop-at-preserved : goal.loop-at-preserved
loop-at-preserved c =
    elim c.if-begins.branch [
      | then-begins+in_ok-push w ↦ let kept = range_more_kept (begins_line c.args.text.now) c.loop-at.at (cc) in cc w.in_ok-push.ensures.ok
      | else-begins w ↦ let left = range_more_left (begins_line c.args.text.now) c.loop-at.at (cc) in cc
    ]
