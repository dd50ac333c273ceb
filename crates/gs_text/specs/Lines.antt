use Rattle.std.specs.Prelude.{ℕ, List, length, slice_index_or, drop}
use Rattle.gs_text.specs.TextLines.{TextLines}
use Rattle.gs_text.specs.LineEnds.{line_starts, first_line}

abbrev pub lines_of : List ℕ → TextLines
lines_of text = record { starts = line_starts text; length = length text }

-- where a line begins; each line past the last one is empty, at the text's end
abbrev pub line_start : List ℕ → ℕ → ℕ
line_start text line = slice_index_or (line_starts text) line (length text)

-- the line that begins at an offset, without its line end
abbrev pub line_from : List ℕ → ℕ → List ℕ
line_from text start = first_line (drop start text)
