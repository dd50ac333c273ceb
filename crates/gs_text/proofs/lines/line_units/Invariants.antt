use Rattle.std.proofs.Common.{◌≡◌, ◌+◌, length}
use Rattle.std.specs.Str.{chars}
use Rattle.gs_text.specs.Units.{units_of}
use Rattle.gs_text.proofs.Walks.{line_rest}
use Rattle.gs_text.proofs.lines.line_units.Given as goal

-- the units so far, and those of the rest of the line, are the line's
abbrev pub invariant-loop-c : goal.invariant-loop-c
invariant-loop-c l =
    l.count + units_of l.unit (line_rest (chars l.text) (length l.yielded)) ≡ units_of l.unit (line_rest (chars l.text) 0)
