-- What is read between quotes, from the bytes that follow.
use Rattle.std.specs.Prelude.{ℕ, drop, take, slice_index, length, nat_lt, encode_utf8, ◌||◌, ◌==◌, if◌then◌else◌, List, [], ◌∷◌, Option, Some, None}
use Rattle.std.specs.Char.{is_digit}
use lib.Utf8.{scalar}
use Rattle.std.specs.List.{list_all}
use Rattle.std.specs.Option.{option_and_then}
use Rattle.std.specs.Str.Parse.{digits_value}
use Rattle.gs_syntax.specs.Quotes.{escape_value}
use Rattle.gs_scan.specs.declared.escape.Item.{Item}
use Rattle.gs_scan.specs.declared.escape.Item.TheVariants.{Byte, Character}

-- the code in a rune
abbrev pub code_of : Item → ℕ
code_of (Byte b) = b
code_of (Character c) = c

-- the bytes in a string
abbrev pub bytes_of : Item → List ℕ
bytes_of (Byte b) = b ∷ []
bytes_of (Character c) = encode_utf8 c

-- an item, and how many bytes it is written with
abbrev pub Read : Type 0
Read = Item × ℕ

abbrev pub numeral : ℕ → List ℕ → Option ℕ
numeral base digits = if list_all (λ c. is_digit c base) digits then Some (digits_value base digits) else None

-- the number that the first `count` bytes write
unfoldable pub numeral_at : ℕ → ℕ → List ℕ → Option ℕ
numeral_at base count text = if nat_lt (length text) count then None else numeral base (take count text)

abbrev pub byte_of : ℕ → ℕ → Option Read
byte_of size value = if nat_lt value 256 then Some (Byte value, size) else None

abbrev pub character_of : ℕ → ℕ → Option Read
character_of size value = if scalar value then Some (Character value, size) else None

unfoldable pub byte_escape : ℕ → ℕ → ℕ → List ℕ → Option Read
byte_escape base count size text = option_and_then (byte_of size) (numeral_at base count text)

unfoldable pub character_escape : ℕ → ℕ → List ℕ → Option Read
character_escape count size text = option_and_then (character_of size) (numeral_at 16 count text)

-- an escape with digits, behind the backslash
unfoldable pub numbered_at : List ℕ → Option Read
numbered_at text =
    if slice_index text 0 == 120 then byte_escape 16 2 4 (drop 1 text)
    else if slice_index text 0 == 117 then character_escape 4 6 (drop 1 text)
    else if slice_index text 0 == 85 then character_escape 8 10 (drop 1 text)
    else byte_escape 8 3 4 text

abbrev pub letter_or : Option Read → Option ℕ → Option Read
letter_or other (Some value) = Some (Byte value, 2)
letter_or other None = other

-- an escape, behind the backslash
unfoldable pub escape_at : ℕ → List ℕ → Option Read
escape_at quote text = letter_or (numbered_at text) (escape_value quote (slice_index text 0))

-- the item of a string at the front
unfoldable pub item_at : List ℕ → Option Read
item_at text =
    if length text == 0 then None
    else if slice_index text 0 == 10 || slice_index text 0 == 34 then None
    else if slice_index text 0 == 92 then escape_at 34 (drop 1 text)
    else Some (Byte (slice_index text 0), 1)
