-- What the scanner's private functions compute.
use Rattle.std.specs.Prelude.{◌≡◌, ◌≤◌, ◌<◌, take, slice_index, ℕ, ◌+◌, Bool, true, false, ◌&&◌, ◌||◌, ◌==◌, nat_le, if◌then◌else◌, List, [], ◌∷◌, ◌++◌, length, take_while, encode_utf8, encode_utf8_all, codes, Option, Some, None, ◌⊎◌}
use Rattle.std.specs.Char.{is_ascii_alphabetic, is_ascii_alphanumeric, is_ascii_digit}
use Rattle.std.specs.Str.{chars, bytes_eq}
use Rattle.gs_syntax.specs.declared.token.Keyword.{Keyword}
use Rattle.gs_syntax.specs.declared.token.Keyword.TheVariants as keyword
use Rattle.gs_syntax.specs.Words.{is_letter, is_word_char}
use Rattle.gs_scan.specs.declared.class.Class.{Class}
use Rattle.gs_syntax.specs.declared.token.TokenKind.TheVariants as kind
use Rattle.gs_syntax.specs.Spelling as spelling
use Rattle.gs_scan.specs.declared.class.Class.TheVariants.{Space, LineFeed, Letter, Wide, Digit, Dot, Quote, Apostrophe, BackQuote, Slash, Mark}

-- what a first byte says of what stands there
abbrev pub class_of : ℕ → Class
class_of b =
    if nat_le 128 b then Wide
    else if is_ascii_alphabetic b || b == 95 then Letter
    else if b == 32 || (b == 9 || b == 13) then Space
    else if b == 10 then LineFeed
    else if is_ascii_digit b then Digit
    else if b == 46 then Dot
    else if b == 34 then Quote
    else if b == 39 then Apostrophe
    else if b == 96 then BackQuote
    else if b == 47 then Slash
    else Mark

-- a number may begin with a byte of the class
abbrev pub is_number_class : Class → Bool
is_number_class Digit = true
is_number_class Dot = true
is_number_class _ = false

abbrev pub is_ascii_word : ℕ → Bool
is_ascii_word b = is_ascii_alphanumeric b || b == 95

-- how many bytes the letters and digits at the front have
unfoldable pub word_size : List ℕ → ℕ
word_size text = length (encode_utf8_all (take_while is_word_char (chars text)))

-- the text begins with a letter
abbrev pub BeginsWithLetter : List ℕ → Type 0
BeginsWithLetter text = (c : ℕ) × (more : List ℕ) × (is_letter c ≡ true) × (text ≡ encode_utf8 c ++ more)

-- the keyword that the bytes are
abbrev pub keyword_of : List ℕ → Option Keyword
keyword_of bytes =
    if bytes_eq bytes (codes "break") then Some keyword.Break
    else if bytes_eq bytes (codes "case") then Some keyword.Case
    else if bytes_eq bytes (codes "chan") then Some keyword.Chan
    else if bytes_eq bytes (codes "const") then Some keyword.Const
    else if bytes_eq bytes (codes "continue") then Some keyword.Continue
    else if bytes_eq bytes (codes "default") then Some keyword.Default
    else if bytes_eq bytes (codes "defer") then Some keyword.Defer
    else if bytes_eq bytes (codes "else") then Some keyword.Else
    else if bytes_eq bytes (codes "fallthrough") then Some keyword.Fallthrough
    else if bytes_eq bytes (codes "for") then Some keyword.For
    else if bytes_eq bytes (codes "func") then Some keyword.Func
    else if bytes_eq bytes (codes "go") then Some keyword.Go
    else if bytes_eq bytes (codes "goto") then Some keyword.Goto
    else if bytes_eq bytes (codes "if") then Some keyword.If
    else if bytes_eq bytes (codes "import") then Some keyword.Import
    else if bytes_eq bytes (codes "interface") then Some keyword.Interface
    else if bytes_eq bytes (codes "map") then Some keyword.Map
    else if bytes_eq bytes (codes "package") then Some keyword.Package
    else if bytes_eq bytes (codes "range") then Some keyword.Range
    else if bytes_eq bytes (codes "return") then Some keyword.Return
    else if bytes_eq bytes (codes "select") then Some keyword.Select
    else if bytes_eq bytes (codes "struct") then Some keyword.Struct
    else if bytes_eq bytes (codes "switch") then Some keyword.Switch
    else if bytes_eq bytes (codes "type") then Some keyword.«Type»
    else if bytes_eq bytes (codes "var") then Some keyword.Var
    else None

-- a keyword has this length and this first letter
abbrev pub begins_keyword : ℕ → ℕ → Bool
begins_keyword len first =
    if len == 2 then first == 103 || first == 105
    else if len == 3 then first == 102 || (first == 109 || first == 118)
    else if len == 4 then first == 99 || (first == 101 || (first == 102 || (first == 103 || first == 116)))
    else if len == 5 then first == 98 || (first == 99 || (first == 100 || first == 114))
    else if len == 6 then first == 105 || (first == 114 || first == 115)
    else if len == 7 then first == 100 || first == 112
    else if len == 8 then first == 99
    else if len == 9 then first == 105
    else len == 11 && first == 102

-- a letter may begin with a byte of the class
abbrev pub IsWordClass : Class → Type 0
IsWordClass k = (k ≡ Letter) ⊎ (k ≡ Wide)

abbrev pub is_mark : spelling.Lexeme → Bool
is_mark (spelling.Token (kind.Operator o)) = true
is_mark _ = false

-- nothing but operators may stand at the front, which is ASCII
pub record OnlyMarks (text : List ℕ) : Type 0 where
  pub some : 0 < length text
  pub ascii : slice_index text 0 < 128
  pub marks : (m : ℕ) (other : spelling.Lexeme) → m ≤ length text → spelling.Spells other (take m text) → is_mark other ≡ true

-- the place behind the next `*/`
abbrev pub close_from : ℕ → List ℕ → Option ℕ
close_from at [] = None
close_from at (c ∷ cs) = if c == 42 && slice_index cs 0 == 47 then Some (at + 2) else close_from (at + 1) cs

-- the n bytes at the front are a literal of this value, and no other front is one
pub record IsOnlyFront {V : Type 0} (Is : List ℕ → V → Type 0) (text : List ℕ) (value : V) (n : ℕ) : Type 0 where
  pub some : 0 < n
  pub within : n ≤ length text
  pub is : Is (take n text) value
  pub only : (m : ℕ) (other : V) → m ≤ length text → Is (take m text) other → (m ≡ n) × (other ≡ value)

-- no front is a literal
abbrev pub NoFront : {V : Type 0} → (List ℕ → V → Type 0) → List ℕ → Type 0
NoFront {V = V} Is text = (m : ℕ) (other : V) → m ≤ length text → Is (take m text) other → ⊥
