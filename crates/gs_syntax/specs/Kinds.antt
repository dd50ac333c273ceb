-- The words and operators of the language, and the tokens that end a line (Go specification, "Keywords", "Operators and punctuation" and "Semicolons").
use Rattle.std.specs.Prelude.{ℕ, Bool, true, false, List, codes}
use Rattle.gs_syntax.specs.declared.token.Keyword.{Keyword}
use Rattle.gs_syntax.specs.declared.token.Keyword.TheVariants.{Break, Case, Chan, Const, Continue, Default, Defer, Else, Fallthrough, For, Func, Go, Goto, If, Import, Interface, Map, Package, Range, Return, Select, Struct, Switch, «Type», Var}
use Rattle.gs_syntax.specs.declared.token.Operator.{Operator}
use Rattle.gs_syntax.specs.declared.token.Operator.TheVariants.{Plus, Minus, Star, Slash, Percent, And, Or, Caret, ShiftLeft, ShiftRight, AndNot, PlusAssign, MinusAssign, StarAssign, SlashAssign, PercentAssign, AndAssign, OrAssign, CaretAssign, ShiftLeftAssign, ShiftRightAssign, AndNotAssign, LogicalAnd, LogicalOr, Arrow, Increment, Decrement, Equal, Less, Greater, Assign, Not, NotEqual, LessEqual, GreaterEqual, Define, Ellipsis, LeftParen, RightParen, LeftBracket, RightBracket, LeftBrace, RightBrace, Comma, Semicolon, Dot, Colon}
use Rattle.gs_syntax.specs.declared.token.TokenKind.{TokenKind}
use Rattle.gs_syntax.specs.declared.token.TokenKind.TheVariants as kind

-- "Keywords"
abbrev pub keyword_text : Keyword → List ℕ
keyword_text Break = codes "break"
keyword_text Case = codes "case"
keyword_text Chan = codes "chan"
keyword_text Const = codes "const"
keyword_text Continue = codes "continue"
keyword_text Default = codes "default"
keyword_text Defer = codes "defer"
keyword_text Else = codes "else"
keyword_text Fallthrough = codes "fallthrough"
keyword_text For = codes "for"
keyword_text Func = codes "func"
keyword_text Go = codes "go"
keyword_text Goto = codes "goto"
keyword_text If = codes "if"
keyword_text Import = codes "import"
keyword_text Interface = codes "interface"
keyword_text Map = codes "map"
keyword_text Package = codes "package"
keyword_text Range = codes "range"
keyword_text Return = codes "return"
keyword_text Select = codes "select"
keyword_text Struct = codes "struct"
keyword_text Switch = codes "switch"
keyword_text «Type» = codes "type"
keyword_text Var = codes "var"

-- "Operators and punctuation"
abbrev pub operator_text : Operator → List ℕ
operator_text Plus = codes "+"
operator_text Minus = codes "-"
operator_text Star = codes "*"
operator_text Slash = codes "/"
operator_text Percent = codes "%"
operator_text And = codes "&"
operator_text Or = codes "|"
operator_text Caret = codes "^"
operator_text ShiftLeft = codes "<<"
operator_text ShiftRight = codes ">>"
operator_text AndNot = codes "&^"
operator_text PlusAssign = codes "+="
operator_text MinusAssign = codes "-="
operator_text StarAssign = codes "*="
operator_text SlashAssign = codes "/="
operator_text PercentAssign = codes "%="
operator_text AndAssign = codes "&="
operator_text OrAssign = codes "|="
operator_text CaretAssign = codes "^="
operator_text ShiftLeftAssign = codes "<<="
operator_text ShiftRightAssign = codes ">>="
operator_text AndNotAssign = codes "&^="
operator_text LogicalAnd = codes "&&"
operator_text LogicalOr = codes "||"
operator_text Arrow = codes "<-"
operator_text Increment = codes "++"
operator_text Decrement = codes "--"
operator_text Equal = codes "=="
operator_text Less = codes "<"
operator_text Greater = codes ">"
operator_text Assign = codes "="
operator_text Not = codes "!"
operator_text NotEqual = codes "!="
operator_text LessEqual = codes "<="
operator_text GreaterEqual = codes ">="
operator_text Define = codes ":="
operator_text Ellipsis = codes "..."
operator_text LeftParen = codes "("
operator_text RightParen = codes ")"
operator_text LeftBracket = codes "["
operator_text RightBracket = codes "]"
operator_text LeftBrace = codes "{"
operator_text RightBrace = codes "}"
operator_text Comma = codes ","
operator_text Semicolon = codes ";"
operator_text Dot = codes "."
operator_text Colon = codes ":"

-- a keyword behind which a line may end ("Semicolons")
abbrev pub keyword_ends : Keyword → Bool
keyword_ends Break = true
keyword_ends Continue = true
keyword_ends Fallthrough = true
keyword_ends Return = true
keyword_ends _ = false

-- an operator behind which a line may end
abbrev pub operator_ends : Operator → Bool
operator_ends Increment = true
operator_ends Decrement = true
operator_ends RightParen = true
operator_ends RightBracket = true
operator_ends RightBrace = true
operator_ends _ = false

-- a semicolon is inserted after a line whose last token is of this kind ("Semicolons"); a bad token counts as a literal
abbrev pub ends_line : TokenKind → Bool
ends_line (kind.Keyword k) = keyword_ends k
ends_line (kind.Operator o) = operator_ends o
ends_line kind.Inserted = false
ends_line _ = true
