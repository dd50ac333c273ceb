-- Integers, imaginary literals, and numbers of any kind.
use Rattle.std.specs.Prelude.{◌≡◌, ◌≢◌, ℕ, ◌^◌, ℤ, pos, not, ◌||◌, ◌==◌, nat_lt, if◌then◌else◌, List, [], ◌∷◌, ◌++◌, filter, slice_index, Option, Some, None, ◌⊎◌}
use Rattle.std.specs.Str.Parse.{digits_value}
use Rattle.gs_syntax.specs.Digits.{IsDigits, IsPrefixedDigits}
use Rattle.gs_syntax.specs.Floats.{IsFloat}
use Rattle.gs_syntax.specs.Words.{IsWord}

-- the value of digits, each `_` left out
abbrev pub value_of : ℕ → List ℕ → ℕ
value_of base digits = digits_value base (filter (λ c. not (c == 95)) digits)

-- a value that an i128 has
abbrev pub bounded : ℕ → Option ℤ
bounded n = if nat_lt n (2 ^ 127) then Some (pos n) else None

-- "Integer literals", decimal_lit: `0`, or digits of which the first is 1 to 9
abbrev pub IsDecimal : List ℕ → ℕ → Type 0
IsDecimal bytes n =
    ((bytes ≡ 48 ∷ []) × (n ≡ 0))
    ⊎ (IsDigits 10 bytes × (slice_index bytes 0 ≢ 48) × (n ≡ value_of 10 bytes))

-- "Integer literals", octal_lit without a letter: `0` and octal digits
abbrev pub IsOctal : List ℕ → ℕ → Type 0
IsOctal bytes n = (digits : List ℕ) × (bytes ≡ 48 ∷ digits) × IsPrefixedDigits 8 digits × (n ≡ value_of 8 digits)

-- the base that a letter behind `0` stands for: `b` 2, `o` 8, `x` 16, in either case
abbrev pub base_of : ℕ → Option ℕ
base_of c =
    if c == 98 || c == 66 then Some 2
    else if c == 111 || c == 79 then Some 8
    else if c == 120 || c == 88 then Some 16
    else None

-- "Integer literals", binary_lit, octal_lit and hex_lit: `0`, a letter, and digits of its base
abbrev pub IsLettered : List ℕ → ℕ → Type 0
IsLettered bytes n = (base letter : ℕ) × (digits : List ℕ) × (bytes ≡ 48 ∷ letter ∷ digits) × (base_of letter ≡ Some base)
    × IsPrefixedDigits base digits × (n ≡ value_of base digits)

-- an integer, and its value
abbrev pub IsInteger : List ℕ → ℕ → Type 0
IsInteger bytes n = IsDecimal bytes n ⊎ (IsOctal bytes n ⊎ IsLettered bytes n)

-- an integer, and its value where an i128 has it
abbrev pub SpellsInteger : Option ℤ → List ℕ → Type 0
SpellsInteger v bytes = (n : ℕ) × IsInteger bytes n × (v ≡ bounded n)

-- "Imaginary literals": decimal digits (also with a leading 0, as `08i`), an integer or a float, and `i`
abbrev pub IsImaginary : List ℕ → Type 0
IsImaginary bytes = (part : List ℕ) × (bytes ≡ part ++ 105 ∷ [])
    × (IsDigits 10 part ⊎ (((n : ℕ) × IsInteger part n) ⊎ IsFloat part))

-- a number of any kind
abbrev pub IsNumber : List ℕ → Type 0
IsNumber bytes = ((n : ℕ) × IsInteger bytes n) ⊎ (IsFloat bytes ⊎ IsImaginary bytes)

-- a number, and directly after it letters and digits, with which it is no number
abbrev pub IsSpoiled : List ℕ → Type 0
IsSpoiled bytes = (number word : List ℕ) × IsNumber number × IsWord word × (bytes ≡ number ++ word) × (IsNumber bytes → ⊥)
