-- Units of a position (LSP 3.17, `PositionEncodingKind`).
use Rattle.std.specs.Prelude.{ℕ, List, nat_lt, if◌then◌else◌, sum_by}
use Rattle.std.specs.Str.{chars}
use Rattle.gs_text.specs.declared.position.PosUnit.{PosUnit}
use Rattle.gs_text.specs.declared.position.PosUnit.TheVariants.{Utf16}

-- how many units a character takes: in UTF-16 two from U+10000 on, a surrogate pair, and one below
abbrev pub units_of_character : PosUnit → ℕ → ℕ
units_of_character Utf16 character = if nat_lt character 0x1_0000 then 1 else 2

-- how many units these characters take
abbrev pub units_of : PosUnit → List ℕ → ℕ
units_of unit characters = sum_by (units_of_character unit) characters

-- how many units a text takes
abbrev pub units : PosUnit → List ℕ → ℕ
units unit text = units_of unit (chars text)
