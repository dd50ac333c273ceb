-- What stands at the front of a list of tokens: the tokens that the rules of the grammar name.
use Rattle.std.specs.Prelude.{◌≡◌, ℕ, Bool, true, false, ◌||◌, ◌==◌, if◌then◌else◌, List, [], ◌∷◌, Option, Some, None}
use Rattle.gs_syntax.specs.declared.token.Span.{Span}
use Rattle.gs_syntax.specs.declared.token.Token.{Token}
use Rattle.gs_syntax.specs.declared.token.TokenKind.{TokenKind}
use Rattle.gs_syntax.specs.declared.token.TokenKind.TheVariants as kind
use Rattle.gs_syntax.specs.declared.token.Operator.{Operator}
use Rattle.gs_syntax.specs.declared.token.Operator.TheVariants as mark
use Rattle.gs_syntax.specs.declared.token.Keyword.{Keyword}
use Rattle.gs_syntax.specs.declared.token.Keyword.TheVariants as word

infixr 10 ◌>>=◌
abbrev pub ◌>>=◌ : {A B : Type 0} → Option A → (A → Option B) → Option B
None >>= f = None
(Some a) >>= f = f a

infixr 10 ◌>>◌
abbrev pub ◌>>◌ : {B : Type 0} → Bool → Option B → Option B
true >> o = o
false >> o = None

abbrev pub first : {A : Type 0} → Option A → Option A → Option A
first None o = o
first (Some a) o = Some a

abbrev pub token : TokenKind → Span → Token
token k p = record { kind = k; span = p }

abbrev pub operator : Operator → Span → Token
operator o p = token (kind.Operator o) p

abbrev pub keyword : Keyword → Span → Token
keyword k p = token (kind.Keyword k) p

abbrev pub identifier : List ℕ → Span → Token
identifier a p = token (kind.Identifier a) p

-- ---- the front, as relations: of which token it is, the tokens, and what follows

pub data IsMark : Operator → Span → List Token → List Token → Type 0 where
  a_mark : {o : Operator} {p : Span} {r : List Token} → IsMark o p (operator o p ∷ r) r

pub data IsWord : Keyword → Span → List Token → List Token → Type 0 where
  a_word : {k : Keyword} {p : Span} {r : List Token} → IsWord k p (keyword k p ∷ r) r

pub data IsName : Token → List Token → List Token → Type 0 where
  a_name : {a : List ℕ} {p : Span} {r : List Token} → IsName (identifier a p) (identifier a p ∷ r) r

pub data IsText : Token → List Token → List Token → Type 0 where
  a_text : {v : List ℕ} {p : Span} {r : List Token} → IsText (token (kind.Text v) p) (token (kind.Text v) p ∷ r) r

-- a token of a class
pub data IsFront (f : TokenKind → Bool) : Token → List Token → List Token → Type 0 where
  a_front : {k : TokenKind} {p : Span} {r : List Token} → f k ≡ true → IsFront f (token k p) (token k p ∷ r) r

-- a comma that may stand before a closing bracket
pub data IsTrail (o : Operator) : List Token → List Token → Type 0 where
  no_comma : {p : Span} {r u : List Token} → IsMark o p r u → IsTrail o r r
  a_comma : {p q : Span} {s r u : List Token} → IsMark mark.Comma p s r → IsMark o q r u → IsTrail o s r

-- ---- the same as functions

-- each token has a number of its own
abbrev pub mark_number : Operator → ℕ
mark_number mark.Plus = 0
mark_number mark.Minus = 1
mark_number mark.Star = 2
mark_number mark.Slash = 3
mark_number mark.Percent = 4
mark_number mark.And = 5
mark_number mark.Or = 6
mark_number mark.Caret = 7
mark_number mark.ShiftLeft = 8
mark_number mark.ShiftRight = 9
mark_number mark.AndNot = 10
mark_number mark.PlusAssign = 11
mark_number mark.MinusAssign = 12
mark_number mark.StarAssign = 13
mark_number mark.SlashAssign = 14
mark_number mark.PercentAssign = 15
mark_number mark.AndAssign = 16
mark_number mark.OrAssign = 17
mark_number mark.CaretAssign = 18
mark_number mark.ShiftLeftAssign = 19
mark_number mark.ShiftRightAssign = 20
mark_number mark.AndNotAssign = 21
mark_number mark.LogicalAnd = 22
mark_number mark.LogicalOr = 23
mark_number mark.Arrow = 24
mark_number mark.Increment = 25
mark_number mark.Decrement = 26
mark_number mark.Equal = 27
mark_number mark.Less = 28
mark_number mark.Greater = 29
mark_number mark.Assign = 30
mark_number mark.Not = 31
mark_number mark.NotEqual = 32
mark_number mark.LessEqual = 33
mark_number mark.GreaterEqual = 34
mark_number mark.Define = 35
mark_number mark.Ellipsis = 36
mark_number mark.LeftParen = 37
mark_number mark.RightParen = 38
mark_number mark.LeftBracket = 39
mark_number mark.RightBracket = 40
mark_number mark.LeftBrace = 41
mark_number mark.RightBrace = 42
mark_number mark.Comma = 43
mark_number mark.Semicolon = 44
mark_number mark.Dot = 45
mark_number mark.Colon = 46

abbrev pub word_number : Keyword → ℕ
word_number word.Break = 0
word_number word.Case = 1
word_number word.Chan = 2
word_number word.Const = 3
word_number word.Continue = 4
word_number word.Default = 5
word_number word.Defer = 6
word_number word.Else = 7
word_number word.Fallthrough = 8
word_number word.For = 9
word_number word.Func = 10
word_number word.Go = 11
word_number word.Goto = 12
word_number word.If = 13
word_number word.Import = 14
word_number word.Interface = 15
word_number word.Map = 16
word_number word.Package = 17
word_number word.Range = 18
word_number word.Return = 19
word_number word.Select = 20
word_number word.Struct = 21
word_number word.Switch = 22
word_number word.«Type» = 23
word_number word.Var = 24

abbrev pub is_mark : Operator → TokenKind → Bool
is_mark o (kind.Operator m) = mark_number o == mark_number m
is_mark o _ = false

abbrev pub is_word : Keyword → TokenKind → Bool
is_word k (kind.Keyword m) = word_number k == word_number m
is_word k _ = false

unfoldable pub mark_at : Operator → List Token → Option (Span × List Token)
mark_at o [] = None
mark_at o (x ∷ r) = if is_mark o x.kind then Some (x.span, r) else None

unfoldable pub word_at : Keyword → List Token → Option (Span × List Token)
word_at k [] = None
word_at k (x ∷ r) = if is_word k x.kind then Some (x.span, r) else None

abbrev pub is_name : TokenKind → Bool
is_name (kind.Identifier a) = true
is_name _ = false

unfoldable pub name_at : List Token → Option (Token × List Token)
name_at [] = None
name_at (x ∷ r) = if is_name x.kind then Some (x, r) else None

abbrev pub is_text : TokenKind → Bool
is_text (kind.Text v) = true
is_text _ = false

unfoldable pub text_at : List Token → Option (Token × List Token)
text_at [] = None
text_at (x ∷ r) = if is_text x.kind then Some (x, r) else None

unfoldable pub front_at : (TokenKind → Bool) → List Token → Option (Token × List Token)
front_at f [] = None
front_at f (x ∷ r) = if f x.kind then Some (x, r) else None

unfoldable pub trail_at : Operator → List Token → Option (List Token)
trail_at o s = first (mark_at o s >>= λ q. Some s) (mark_at mark.Comma s >>= λ p. mark_at o p.1 >>= λ q. Some p.1)

-- a dot and a name
unfoldable pub selector_at : List Token → Option (Token × List Token)
selector_at s = mark_at mark.Dot s >>= λ p. name_at p.1

-- a name and a colon
unfoldable pub label_at : List Token → Option (Span × List Token)
label_at s = name_at s >>= λ x. mark_at mark.Colon x.1

-- a name and a `:=`
unfoldable pub defined_at : List Token → Option (Span × List Token)
defined_at s = name_at s >>= λ x. mark_at mark.Define x.1

-- ---- classes of tokens

-- BasicLit (Operands)
abbrev pub is_basic : TokenKind → Bool
is_basic (kind.Integer v) = true
is_basic kind.Float = true
is_basic kind.Imaginary = true
is_basic (kind.Rune c) = true
is_basic (kind.Text v) = true
is_basic _ = false

-- a semicolon, written or inserted (Semicolons)
abbrev pub is_semi : TokenKind → Bool
is_semi (kind.Operator mark.Semicolon) = true
is_semi kind.Inserted = true
is_semi _ = false

-- unary_op but the star and the arrow (Operators)
abbrev pub is_sign : TokenKind → Bool
is_sign (kind.Operator mark.Plus) = true
is_sign (kind.Operator mark.Minus) = true
is_sign (kind.Operator mark.Not) = true
is_sign (kind.Operator mark.Caret) = true
is_sign (kind.Operator mark.And) = true
is_sign _ = false

-- binary_op with its precedence: 0 binds tightest (Operator precedence)
abbrev pub binary_level : TokenKind → Option ℕ
binary_level (kind.Operator mark.Star) = Some 0
binary_level (kind.Operator mark.Slash) = Some 0
binary_level (kind.Operator mark.Percent) = Some 0
binary_level (kind.Operator mark.ShiftLeft) = Some 0
binary_level (kind.Operator mark.ShiftRight) = Some 0
binary_level (kind.Operator mark.And) = Some 0
binary_level (kind.Operator mark.AndNot) = Some 0
binary_level (kind.Operator mark.Plus) = Some 1
binary_level (kind.Operator mark.Minus) = Some 1
binary_level (kind.Operator mark.Or) = Some 1
binary_level (kind.Operator mark.Caret) = Some 1
binary_level (kind.Operator mark.Equal) = Some 2
binary_level (kind.Operator mark.NotEqual) = Some 2
binary_level (kind.Operator mark.Less) = Some 2
binary_level (kind.Operator mark.LessEqual) = Some 2
binary_level (kind.Operator mark.Greater) = Some 2
binary_level (kind.Operator mark.GreaterEqual) = Some 2
binary_level (kind.Operator mark.LogicalAnd) = Some 3
binary_level (kind.Operator mark.LogicalOr) = Some 4
binary_level _ = None

abbrev pub is_level : ℕ → Option ℕ → Bool
is_level n None = false
is_level n (Some m) = m == n

abbrev pub is_binary : ℕ → TokenKind → Bool
is_binary n k = is_level n (binary_level k)

-- the operators of assignment operations (Assignments)
abbrev pub is_update : TokenKind → Bool
is_update (kind.Operator mark.PlusAssign) = true
is_update (kind.Operator mark.MinusAssign) = true
is_update (kind.Operator mark.StarAssign) = true
is_update (kind.Operator mark.SlashAssign) = true
is_update (kind.Operator mark.PercentAssign) = true
is_update (kind.Operator mark.AndAssign) = true
is_update (kind.Operator mark.OrAssign) = true
is_update (kind.Operator mark.CaretAssign) = true
is_update (kind.Operator mark.ShiftLeftAssign) = true
is_update (kind.Operator mark.ShiftRightAssign) = true
is_update (kind.Operator mark.AndNotAssign) = true
is_update _ = false

-- (IncDec statements)
abbrev pub is_step : TokenKind → Bool
is_step (kind.Operator mark.Increment) = true
is_step (kind.Operator mark.Decrement) = true
is_step _ = false

-- what goes on with a simple statement behind its first expression
abbrev pub is_goes_on : TokenKind → Bool
is_goes_on (kind.Operator mark.Comma) = true
is_goes_on (kind.Operator mark.Assign) = true
is_goes_on (kind.Operator mark.Define) = true
is_goes_on (kind.Operator mark.Arrow) = true
is_goes_on k = is_step k || is_update k

-- a comma or a closing parenthesis
abbrev pub is_stop : TokenKind → Bool
is_stop (kind.Operator mark.Comma) = true
is_stop (kind.Operator mark.RightParen) = true
is_stop _ = false

-- what ends a statement
abbrev pub is_stmt_end : TokenKind → Bool
is_stmt_end (kind.Operator mark.Semicolon) = true
is_stmt_end (kind.Operator mark.RightBrace) = true
is_stmt_end kind.Inserted = true
is_stmt_end _ = false

-- what ends a field
abbrev pub is_field_end : TokenKind → Bool
is_field_end (kind.Operator mark.Semicolon) = true
is_field_end (kind.Operator mark.RightBrace) = true
is_field_end kind.Inserted = true
is_field_end _ = false

-- what follows the name of an embedded field
abbrev pub is_embed_end : TokenKind → Bool
is_embed_end (kind.Text v) = true
is_embed_end (kind.Operator mark.Semicolon) = true
is_embed_end (kind.Operator mark.RightBrace) = true
is_embed_end kind.Inserted = true
is_embed_end _ = false

-- what ends a spec of a group
abbrev pub is_spec_end : TokenKind → Bool
is_spec_end (kind.Operator mark.Semicolon) = true
is_spec_end (kind.Operator mark.RightParen) = true
is_spec_end kind.Inserted = true
is_spec_end _ = false

-- what follows an index of a slice expression
abbrev pub is_bound_end : TokenKind → Bool
is_bound_end (kind.Operator mark.Colon) = true
is_bound_end (kind.Operator mark.RightBracket) = true
is_bound_end _ = false

-- what ends a list of statements
abbrev pub is_list_end : TokenKind → Bool
is_list_end (kind.Operator mark.RightBrace) = true
is_list_end (kind.Keyword word.Case) = true
is_list_end (kind.Keyword word.Default) = true
is_list_end _ = false

-- what begins the type of a composite literal that is no name (Composite literals)
abbrev pub is_composite_start : TokenKind → Bool
is_composite_start (kind.Operator mark.LeftBracket) = true
is_composite_start (kind.Keyword word.Map) = true
is_composite_start (kind.Keyword word.Struct) = true
is_composite_start _ = false

-- what begins another type and no other expression
abbrev pub is_other_start : TokenKind → Bool
is_other_start (kind.Keyword word.Chan) = true
is_other_start (kind.Keyword word.Interface) = true
is_other_start _ = false

abbrev pub is_decl_start : TokenKind → Bool
is_decl_start (kind.Keyword word.Const) = true
is_decl_start (kind.Keyword word.«Type») = true
is_decl_start (kind.Keyword word.Var) = true
is_decl_start _ = false
