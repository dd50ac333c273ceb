-- What the bytes of a text spell, and what stands at its front (Go specification, "Tokens").
use Rattle.std.specs.Prelude.{◌≡◌, ◌≢◌, ◌<◌, ◌≤◌, ℕ, List, [], ◌∷◌, length, take, Contains, encode_utf8, ◌⊎◌}
use Rattle.gs_syntax.specs.declared.token.Keyword.{Keyword}
use Rattle.gs_syntax.specs.declared.token.TokenKind.{TokenKind}
use Rattle.gs_syntax.specs.declared.token.TokenKind.TheVariants as kind
use Rattle.gs_syntax.specs.Kinds.{keyword_text, operator_text}
use Rattle.gs_syntax.specs.Words.{IsIdentifier}
use Rattle.gs_syntax.specs.Floats.{IsFloat}
use Rattle.gs_syntax.specs.Numbers.{SpellsInteger, IsImaginary, IsSpoiled}
use Rattle.gs_syntax.specs.Quotes.{IsRune, IsText, IsRawText, IsOpenText, IsOpenRune, IsOpenRawText}
use Rattle.gs_syntax.specs.Comments.{IsLineComment, IsComment, IsOpenComment}

-- a token, or what stands between tokens
pub data Lexeme : Type 0 where
  -- a separator, or a comment that counts as a space
  Blank : Lexeme
  -- a line feed, or a comment that counts as one
  LineEnd : Lexeme
  Token : TokenKind → Lexeme

-- tab, CR or space ("Tokens", white space)
abbrev pub IsSpace : List ℕ → Type 0
IsSpace bytes = (bytes ≡ 9 ∷ []) ⊎ ((bytes ≡ 13 ∷ []) ⊎ (bytes ≡ 32 ∷ []))

-- what is no token of the language, though it begins as one: a number that letters and digits run into, or what nothing closes
pub data IsBad (bytes : List ℕ) : Type 0 where
  spoiled : IsSpoiled bytes → IsBad bytes
  open_text : IsOpenText bytes → IsBad bytes
  open_rune : IsOpenRune bytes → IsBad bytes
  open_raw : IsOpenRawText bytes → IsBad bytes
  open_comment : IsOpenComment bytes → IsBad bytes

-- these bytes, all of them, spell this
abbrev pub Spells : Lexeme → List ℕ → Type 0
Spells Blank bytes = IsSpace bytes ⊎ (IsLineComment bytes ⊎ (IsComment bytes × (Contains bytes 10 → ⊥)))
Spells LineEnd bytes = (bytes ≡ 10 ∷ []) ⊎ (IsComment bytes × Contains bytes 10)
Spells (Token (kind.Identifier name)) bytes = IsIdentifier bytes × ((k : Keyword) → bytes ≢ keyword_text k) × (name ≡ bytes)
Spells (Token (kind.Keyword k)) bytes = bytes ≡ keyword_text k
Spells (Token (kind.Operator o)) bytes = bytes ≡ operator_text o
Spells (Token (kind.Integer v)) bytes = SpellsInteger v bytes
Spells (Token kind.Float) bytes = IsFloat bytes
Spells (Token kind.Imaginary) bytes = IsImaginary bytes
Spells (Token (kind.Rune code)) bytes = IsRune bytes code
Spells (Token (kind.Text value)) bytes = IsText bytes value ⊎ IsRawText bytes value
Spells (Token kind.Bad) bytes = IsBad bytes
Spells (Token kind.Inserted) bytes = ⊥

-- the n bytes at the front spell this, and whatever else stands at the front is shorter
pub record IsLongest (text : List ℕ) (what : Lexeme) (n : ℕ) : Type 0 where
  pub some : 0 < n
  pub within : n ≤ length text
  pub spells : Spells what (take n text)
  pub longest : (m : ℕ) (other : Lexeme) → m ≤ length text → Spells other (take m text) → (m < n) ⊎ ((m ≡ n) × (other ≡ what))

-- nothing stands at the front, and so its first character is bad
pub record IsStray (text : List ℕ) (what : Lexeme) (n : ℕ) : Type 0 where
  pub some : 0 < n
  pub within : n ≤ length text
  pub nothing : (m : ℕ) (other : Lexeme) → m ≤ length text → Spells other (take m text) → ⊥
  pub bad : what ≡ Token kind.Bad
  pub character : (c : ℕ) × (take n text ≡ encode_utf8 c)

abbrev pub StandsAt : List ℕ → Lexeme → ℕ → Type 0
StandsAt text what n = IsLongest text what n ⊎ IsStray text what n
