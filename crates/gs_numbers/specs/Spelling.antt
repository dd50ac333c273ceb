-- The number that stands at the front of a text.
use Rattle.std.specs.Prelude.{◌≡◌, ◌<◌, ◌≤◌, ℕ, true, List, length, take, slice_index, ◌⊎◌}
use Rattle.std.specs.Char.{is_digit}
use Rattle.gs_syntax.specs.Numbers.{SpellsInteger, IsImaginary}
use Rattle.gs_syntax.specs.Floats.{IsFloat}
use Rattle.gs_numbers.specs.declared.number.Number.{Number}
use Rattle.gs_numbers.specs.declared.number.Number.TheVariants.{Integer, Float, Imaginary}

-- the bytes, all of them, spell a number of this kind
abbrev pub SpellsNumber : Number → List ℕ → Type 0
SpellsNumber (Integer v) bytes = SpellsInteger v bytes
SpellsNumber Float bytes = IsFloat bytes
SpellsNumber Imaginary bytes = IsImaginary bytes

-- a digit, or a point and a digit, stands at the front
abbrev pub BeginsNumber : List ℕ → Type 0
BeginsNumber bytes = (is_digit (slice_index bytes 0) 10 ≡ true) ⊎ ((slice_index bytes 0 ≡ 46) × (is_digit (slice_index bytes 1) 10 ≡ true))

-- the n bytes at the front spell this number, and each other number at the front is shorter
pub record IsLongestNumber (text : List ℕ) (number : Number) (n : ℕ) : Type 0 where
  pub some : 0 < n
  pub within : n ≤ length text
  pub spells : SpellsNumber number (take n text)
  pub longest : (m : ℕ) (other : Number) → m ≤ length text → SpellsNumber other (take m text) → (m < n) ⊎ ((m ≡ n) × (other ≡ number))

-- no number stands at the front
abbrev pub HasNoNumber : List ℕ → Type 0
HasNoNumber text = (m : ℕ) (other : Number) → m ≤ length text → SpellsNumber other (take m text) → ⊥
