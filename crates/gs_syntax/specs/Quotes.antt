-- Rune and string literals (Go specification, "Rune literals" and "String literals").
use Rattle.std.specs.Prelude.{◌≡◌, ◌≢◌, ℕ, ◌≤◌, true, not, List, [], ◌∷◌, ◌++◌, length, take, filter, All, Option, Some, None, if◌then◌else◌, ◌==◌, ◌⊎◌, encode_utf8}
use Rattle.std.specs.List.{flat_map, list_all}
use Rattle.std.specs.Char.{is_digit, IsScalar}
use Rattle.std.specs.Str.Parse.{digits_value}

-- what a single letter behind a backslash stands for: the quote round the literal stands for itself
abbrev pub escape_value : ℕ → ℕ → Option ℕ
escape_value quote c =
    if c == 97 then Some 7 else if c == 98 then Some 8 else if c == 102 then Some 12 else if c == 110 then Some 10
    else if c == 114 then Some 13 else if c == 116 then Some 9 else if c == 118 then Some 11 else if c == 92 then Some 92
    else if c == quote then Some quote else None

-- so many digits of a base, and what they write
abbrev pub IsNumeral : ℕ → ℕ → List ℕ → ℕ → Type 0
IsNumeral base count digits value = (length digits ≡ count) × (list_all (λ c. is_digit c base) digits ≡ true) × (value ≡ digits_value base digits)

-- an escape between such quotes, the code that it stands for in a rune, and the bytes in a string ("Rune literals",
-- escaped_char, little_u_value, big_u_value, octal_byte_value, hex_byte_value)
pub data IsEscape (quote : ℕ) (bytes : List ℕ) (code : ℕ) (value : List ℕ) : Type 0 where
  -- `\n` and the like: a byte
  letter : (c : ℕ) → bytes ≡ 92 ∷ c ∷ [] → escape_value quote c ≡ Some code → value ≡ code ∷ [] → IsEscape quote bytes code value
  -- three octal digits: a byte
  octal : (digits : List ℕ) → bytes ≡ 92 ∷ digits → IsNumeral 8 3 digits code → code ≤ 255 → value ≡ code ∷ [] → IsEscape quote bytes code value
  -- `\x` and two digits: a byte
  hex : (digits : List ℕ) → bytes ≡ 92 ∷ 120 ∷ digits → IsNumeral 16 2 digits code → value ≡ code ∷ [] → IsEscape quote bytes code value
  -- `\u` and four digits: a code point
  short : (digits : List ℕ) → bytes ≡ 92 ∷ 117 ∷ digits → IsNumeral 16 4 digits code → IsScalar code → value ≡ encode_utf8 code → IsEscape quote bytes code value
  -- `\U` and eight digits: a code point
  long : (digits : List ℕ) → bytes ≡ 92 ∷ 85 ∷ digits → IsNumeral 16 8 digits code → IsScalar code → value ≡ encode_utf8 code → IsEscape quote bytes code value

-- ---- runes

-- a character other than `'`, a backslash and LF, or an escape, and its code
abbrev pub IsRuneItem : List ℕ → ℕ → Type 0
IsRuneItem bytes code =
    ((bytes ≡ encode_utf8 code) × (code ≢ 39) × (code ≢ 92) × (code ≢ 10))
    ⊎ ((value : List ℕ) × IsEscape 39 bytes code value)

-- one of these between single quotes ("Rune literals", rune_lit)
abbrev pub IsRune : List ℕ → ℕ → Type 0
IsRune bytes code = (inside : List ℕ) × (bytes ≡ 39 ∷ (inside ++ 39 ∷ [])) × IsRuneItem inside code

-- ---- strings

-- a byte of a character, other than `"`, a backslash and LF, which stands for itself, or an escape: as it is written, and what it adds to the value
abbrev pub IsItem : List ℕ × List ℕ → Type 0
IsItem item =
    ((b : ℕ) × (item.0 ≡ b ∷ []) × (b ≢ 34) × (b ≢ 92) × (b ≢ 10) × (item.1 ≡ b ∷ []))
    ⊎ ((code : ℕ) × IsEscape 34 item.0 code item.1)

-- these between double quotes ("String literals", interpreted_string_lit)
abbrev pub IsText : List ℕ → List ℕ → Type 0
IsText bytes value = (items : List (List ℕ × List ℕ)) × All IsItem items
    × (bytes ≡ 34 ∷ (flat_map (λ item. item.0) items ++ 34 ∷ [])) × (value ≡ flat_map (λ item. item.1) items)

-- anything but a back quote between back quotes; each CR drops out of the value ("String literals", raw_string_lit)
abbrev pub IsRawText : List ℕ → List ℕ → Type 0
IsRawText bytes value = (inside : List ℕ) × (bytes ≡ 96 ∷ (inside ++ 96 ∷ [])) × All (λ c. c ≢ 96) inside × (value ≡ filter (λ c. not (c == 13)) inside)

-- ---- what no quote closes

-- from a quote on up to a line feed, where no literal begins
abbrev pub IsOpen : ℕ → (List ℕ → Type 0) → List ℕ → Type 0
IsOpen quote IsLiteral bytes = (more : List ℕ) × (bytes ≡ quote ∷ more) × All (λ c. c ≢ 10) more
    × ((m : ℕ) → m ≤ length bytes → IsLiteral (take m bytes) → ⊥)

abbrev pub IsOpenText : List ℕ → Type 0
IsOpenText bytes = IsOpen 34 (λ literal. (value : List ℕ) × IsText literal value) bytes

abbrev pub IsOpenRune : List ℕ → Type 0
IsOpenRune bytes = IsOpen 39 (λ literal. (code : ℕ) × IsRune literal code) bytes

-- from a back quote on, with no other
abbrev pub IsOpenRawText : List ℕ → Type 0
IsOpenRawText bytes = (more : List ℕ) × (bytes ≡ 96 ∷ more) × All (λ c. c ≢ 96) more
