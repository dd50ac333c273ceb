use Rattle.std.proofs.Common.{◌≡◌}
use Rattle.std.specs.Prelude.{filter}
use Rattle.std.specs.List.{range_with_len}
use Rattle.gs_text.specs.LineEnds.{begins_line}
use Rattle.gs_text.proofs.lines.Lines.new.Given as goal

-- the line beginnings up to here are found
abbrev pub invariant-loop-at : goal.invariant-loop-at
invariant-loop-at l = l.starts ≡ filter (begins_line l.text) (range_with_len 0 l.at)
