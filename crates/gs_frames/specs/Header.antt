-- The header of a message: the Language Server Protocol 3.17, "Base Protocol", "Header Part".
use Rattle.std.specs.Prelude.{◌≡◌, ℕ, ◌<◌, ◌≤◌, Bool, true, false, ◌==◌, ◌||◌, if◌then◌else◌, List, [], ◌∷◌, ◌++◌, length, map, take, codes, bytes_eq, IsUtf8, ◌⊎◌}
use Rattle.std.specs.List.{list_any, list_all, AllByRecursion}
use Rattle.std.specs.Char.{to_ascii_lowercase, is_ascii_digit}
use Rattle.std.specs.Str.Parse.{digits_value}

-- In ASCII a CR is 13, an LF 10, a colon 58, a space 32 and a tab 9.

-- whether the byte c is among these bytes
abbrev pub has : ℕ → List ℕ → Bool
has c bytes = list_any (λ b. b == c) bytes

-- a space or a tab
abbrev pub is_blank : ℕ → Bool
is_blank b = b == 32 || b == 9

abbrev pub without_blanks_before : List ℕ → List ℕ
without_blanks_before [] = []
without_blanks_before (b ∷ bytes) = if is_blank b then without_blanks_before bytes else b ∷ bytes

abbrev pub without_blanks_behind : List ℕ → List ℕ
without_blanks_behind [] = []
without_blanks_behind (b ∷ bytes) = if list_all is_blank (b ∷ bytes) then [] else b ∷ without_blanks_behind bytes

-- what stands before the first byte c, or all where there is none
abbrev pub before : ℕ → List ℕ → List ℕ
before c [] = []
before c (b ∷ bytes) = if b == c then [] else b ∷ before c bytes

-- what stands behind the first byte c, or nothing where there is none
abbrev pub behind : ℕ → List ℕ → List ℕ
behind c [] = []
behind c (b ∷ bytes) = if b == c then bytes else behind c bytes

-- a field's name stands before its first colon
abbrev pub name_of : List ℕ → List ℕ
name_of field = before 58 field

-- and its value behind it, without the blanks round it
abbrev pub value_of : List ℕ → List ℕ
value_of field = without_blanks_behind (without_blanks_before (behind 58 field))

-- "Content-Length", in any ASCII case
abbrev pub names_length : List ℕ → Bool
names_length name = bytes_eq (map to_ascii_lowercase name) (codes "content-length")

-- whether it is a Content-Length
abbrev pub is_content_length : List ℕ → Bool
is_content_length field = names_length (name_of field)

-- one to nineteen decimal digits
pub record IsNumber (text : List ℕ) : Type 0 where
  pub digits : list_all is_ascii_digit text ≡ true
  pub some : 0 < length text
  pub few : length text ≤ 19

-- a field: a line without the CR LF at its end
pub record IsField (field : List ℕ) : Type 0 where
  pub no_cr : has 13 field ≡ false
  pub no_lf : has 10 field ≡ false
  pub utf8 : IsUtf8 field
  pub colon : has 58 field ≡ true
  pub number : is_content_length field ≡ true → IsNumber (value_of field)

-- the numbers that the Content-Length fields give, in order
abbrev pub numbers_of : List (List ℕ) → List ℕ
numbers_of [] = []
numbers_of (field ∷ fields) = if is_content_length field then digits_value 10 (value_of field) ∷ numbers_of fields else numbers_of fields

-- the lines of these fields, each ended by CR LF, and what follows them
abbrev pub lines_then : List (List ℕ) → List ℕ → List ℕ
lines_then [] rest = rest
lines_then (field ∷ fields) rest = field ++ 13 ∷ 10 ∷ lines_then fields rest

-- what a header may have before its empty line: fields, of which at most one is a Content-Length
pub record AreFields (fields : List (List ℕ)) : Type 0 where
  pub each : AllByRecursion IsField fields
  pub once : length (numbers_of fields) ≤ 1

-- A header with the number n: fields, one of them a Content-Length, and an empty line.
pub record IsHeader (header : List ℕ) (n : ℕ) : Type 0 where
  pub fields : List (List ℕ)
  pub each : AllByRecursion IsField fields
  pub number : numbers_of fields ≡ n ∷ []
  pub lines : header ≡ lines_then fields (13 ∷ 10 ∷ [])

-- A header of at most 1,024 bytes, with the number n, stands at the front.
pub record BeginsWithHeader (bytes : List ℕ) (n : ℕ) : Type 0 where
  pub header : List ℕ
  pub more : List ℕ
  pub well_formed : IsHeader header n
  pub near : length header ≤ 1024
  pub front : bytes ≡ header ++ more

-- Behind fields that a header may have stands a line, up to an LF, that breaks a rule: it is no further field that
-- a header may have, and where it is the empty line, no Content-Length came before it.
pub record HasBrokenLine (bytes : List ℕ) : Type 0 where
  pub fields : List (List ℕ)
  pub line : List ℕ
  pub more : List ℕ
  pub before : AreFields fields
  pub front : bytes ≡ lines_then fields (line ++ 10 ∷ more)
  pub no_lf : has 10 line ≡ false
  pub no_field : (field : List ℕ) → line ≡ field ++ 13 ∷ [] → AreFields (fields ++ field ∷ []) → ⊥
  pub no_end : line ≡ 13 ∷ [] → numbers_of fields ≡ []

-- A header fault stands at the front: a line within the first 1,024 bytes breaks a rule, or there are 1,024 bytes
-- and no header ends within them.
abbrev pub HasHeaderFault : List ℕ → Type 0
HasHeaderFault bytes = HasBrokenLine (take 1024 bytes) ⊎ ((1024 ≤ length bytes) × ((n : ℕ) → BeginsWithHeader bytes n → ⊥))
