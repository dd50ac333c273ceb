-- Lines of a text (LSP 3.17, "Text Documents": a line ends with LF, with CR LF or with CR). A text is the list of its bytes.
use Rattle.std.specs.Prelude.{ℕ, ◌+◌, ◌-◌, Bool, ◌||◌, ◌&&◌, not, ◌==◌, if◌then◌else◌, List, length, slice_index, filter, take_while}
use Rattle.std.specs.List.{range_with_len}

abbrev pub LF : ℕ
LF = 10

abbrev pub CR : ℕ
CR = 13

-- the byte behind an offset, and the one before it; 0, which ends no line, where there is none
abbrev pub byte_at : List ℕ → ℕ → ℕ
byte_at text at = slice_index text at

abbrev pub byte_before : List ℕ → ℕ → ℕ
byte_before text at = if at == 0 then 0 else slice_index text (at - 1)

-- whether an offset lies between a CR and its LF
abbrev pub splits_line_end : List ℕ → ℕ → Bool
splits_line_end text at = (byte_before text at == CR) && (byte_at text at == LF)

-- whether a line begins at an offset: the text does, or a LF or a CR stands before it, unless that is the CR of a CR LF
abbrev pub begins_line : List ℕ → ℕ → Bool
begins_line text at = (at == 0) || (byte_before text at == LF) || ((byte_before text at == CR) && not (byte_at text at == LF))

-- the offsets at which the lines of a text begin
abbrev pub line_starts : List ℕ → List ℕ
line_starts text = filter (begins_line text) (range_with_len 0 (length text + 1))

-- whether a byte is no part of a line end
abbrev pub is_in_line : ℕ → Bool
is_in_line byte = not (byte == LF || byte == CR)

-- the first line of a text, without its line end
abbrev pub first_line : List ℕ → List ℕ
first_line text = take_while is_in_line text
