-- Floats (Go specification, "Floating-point literals").
use Rattle.std.specs.Prelude.{◌≡◌, ◌≢◌, ◌<◌, ℕ, ◌+◌, Bool, true, ◌||◌, ◌==◌, if◌then◌else◌, List, [], ◌∷◌, ◌++◌, length, slice_index, ◌⊎◌}
use Rattle.gs_syntax.specs.Digits.{are_digits, IsDigits}

-- `e` or `E` begins an exponent, in base 16 `p` or `P`
abbrev pub marks_exponent : ℕ → ℕ → Bool
marks_exponent base c = if base == 16 then c == 112 || c == 80 else c == 101 || c == 69

-- decimal_exponent, hex_exponent: the letter, a sign or none, and decimal digits
abbrev pub IsExponent : ℕ → List ℕ → Type 0
IsExponent base bytes = (letter : ℕ) × (sign digits : List ℕ) × (bytes ≡ letter ∷ (sign ++ digits)) × (marks_exponent base letter ≡ true)
    × ((sign ≡ []) ⊎ ((sign ≡ 43 ∷ []) ⊎ (sign ≡ 45 ∷ []))) × IsDigits 10 digits

-- a point, and digits or none behind it
abbrev pub IsFraction : ℕ → List ℕ → Type 0
IsFraction base bytes = (digits : List ℕ) × (bytes ≡ 46 ∷ digits) × ((digits ≡ []) ⊎ IsDigits base digits)

-- digits, a fraction and an exponent, each of which may be absent, with a digit before the point or behind it
pub record IsReal (base : ℕ) (bytes : List ℕ) : Type 0 where
  pub whole : List ℕ
  pub fraction : List ℕ
  pub exponent : List ℕ
  pub parts : bytes ≡ whole ++ (fraction ++ exponent)
  pub is_whole : are_digits base whole ≡ true
  pub is_fraction : (fraction ≡ []) ⊎ IsFraction base fraction
  pub is_exponent : (exponent ≡ []) ⊎ IsExponent base exponent
  pub some : (0 < length whole) ⊎ (1 < length fraction)

-- decimal_float_lit: `1.`, `1.5` and `.5`, each also with an exponent, and `1e9`; it does not begin with `_`
abbrev pub IsDecimalFloat : List ℕ → Type 0
IsDecimalFloat bytes = (real : IsReal 10 bytes) × (slice_index bytes 0 ≢ 95) × (0 < length real.fraction + length real.exponent)

-- hex_float_lit: `0x` or `0X`, a mantissa such as `1`, `1.`, `1.8` or `.8`, before which a `_` may stand where a digit follows, and an exponent
abbrev pub IsHexFloat : List ℕ → Type 0
IsHexFloat bytes = (letter : ℕ) × (digits : List ℕ) × (bytes ≡ 48 ∷ letter ∷ digits) × ((letter ≡ 120) ⊎ (letter ≡ 88))
    × (real : IsReal 16 digits) × (0 < length real.exponent)

abbrev pub IsFloat : List ℕ → Type 0
IsFloat bytes = IsDecimalFloat bytes ⊎ IsHexFloat bytes
