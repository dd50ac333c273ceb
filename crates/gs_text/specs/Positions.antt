-- Positions of a text (LSP 3.17, "Position").
use Rattle.std.specs.Prelude.{ℕ, zero, suc, ◌+◌, ◌-◌, Bool, if◌then◌else◌, nat_le, List, length, take, count_by}
use Rattle.std.specs.Str.{chars, encode_utf8_all}
use Rattle.gs_text.specs.declared.position.PosUnit.{PosUnit}
use Rattle.gs_text.specs.declared.position.Pos.{Pos}
use Rattle.gs_text.specs.LineEnds.{line_starts}
use Rattle.gs_text.specs.Lines.{line_start, line_from}
use Rattle.gs_text.specs.Units.{units_of, units}

-- the line of an offset: the last one that begins at it or before it
abbrev pub line_number : List ℕ → ℕ → ℕ
line_number text offset = count_by (λ start. nat_le start offset) (line_starts text) - 1

-- the part of a line that lies before an offset
abbrev pub line_before : List ℕ → ℕ → ℕ → List ℕ
line_before text start offset = take (offset - start) (line_from text start)

-- the position of an offset: its line, and the units of that line before it
abbrev pub position_of : PosUnit → List ℕ → ℕ → Pos
position_of unit text offset = record { line = line_number text offset; character = units unit (line_before text (line_start text (line_number text offset)) offset) }

-- the greatest number up to n that passes a test, and 0 where none does
abbrev pub greatest : (ℕ → Bool) → ℕ → ℕ
greatest test zero = 0
greatest test (suc n) = if test (suc n) then suc n else greatest test n

-- how many characters, from the first on, fit into so many units
abbrev pub fitting : PosUnit → List ℕ → ℕ → ℕ
fitting unit characters most = greatest (λ n. nat_le (units_of unit (take n characters)) most) (length characters)

-- how many bytes the characters of a line take that fit into so many units
abbrev pub bytes_within : PosUnit → List ℕ → ℕ → ℕ
bytes_within unit line most = length (encode_utf8_all (take (fitting unit (chars line) most) (chars line)))

-- the offset of a position: where the characters of its line end that fit before it
abbrev pub offset_of : PosUnit → List ℕ → Pos → ℕ
offset_of unit text position = line_start text position.line + bytes_within unit (line_from text (line_start text position.line)) position.character
