-- The declarations of a file of constants and variables (Go specification, "Constant declarations", "Variable declarations").
use Rattle.std.specs.Prelude.{ℕ, Bool, true, false, ◌&&◌, ◌||◌, if◌then◌else◌, List, [], ◌∷◌, Option, Some, None}
use Rattle.gs_syntax.specs.declared.token.Span.{Span}
use Rattle.gs_syntax.specs.declared.token.Keyword.{Keyword}
use Rattle.gs_syntax.specs.declared.token.Keyword.TheVariants.{Const, Var}
use Rattle.gs_syntax.specs.declared.token.Operator.TheVariants.{Assign}
use Rattle.gs_syntax.specs.declared.token.Token.{Token}
use Rattle.gs_syntax.specs.declared.token.TokenKind.{TokenKind}
use Rattle.gs_syntax.specs.declared.token.TokenKind.TheVariants as kind
use Rattle.gs_syntax.specs.Chunks.{is_semicolon}

abbrev pub is_const : TokenKind → Bool
is_const (kind.Keyword Const) = true
is_const _ = false

abbrev pub is_var : TokenKind → Bool
is_var (kind.Keyword Var) = true
is_var _ = false

abbrev pub is_assign : TokenKind → Bool
is_assign (kind.Operator Assign) = true
is_assign _ = false

-- the name that an identifier is
abbrev pub name_of : TokenKind → Option (List ℕ)
name_of (kind.Identifier name) = Some name
name_of _ = None

abbrev pub is_name : TokenKind → Bool
is_name (kind.Identifier name) = true
is_name _ = false

-- what stands on the right of a declaration: a name, and where it stands, or a number
pub data Right : Type 0 where
  Named : List ℕ → Span → Right
  Number : Right

abbrev pub right_at : TokenKind → Span → Option Right
right_at (kind.Identifier name) span = Some (Named name span)
right_at (kind.Integer value) span = Some Number
right_at _ span = None

abbrev pub right_of : Token → Option Right
right_of token = right_at token.kind token.span

-- a declaration of a constant or a variable
pub record Declaration : Type 0 where
  pub constant : Bool
  pub name : List ℕ
  pub right : Right

-- `const N = R` or `var N = R`
abbrev pub declared : Bool → Option (List ℕ) → Option Right → Option Declaration
declared constant (Some name) (Some right) = Some (record { constant = constant; name = name; right = right })
declared constant _ _ = None

abbrev pub declaration_of : List Token → Option Declaration
declaration_of (word ∷ name ∷ assign ∷ right ∷ end ∷ []) =
    if (is_const word.kind || is_var word.kind) && (is_assign assign.kind && is_semicolon end.kind)
    then declared (is_const word.kind) (name_of name.kind) (right_of right) else None
declaration_of _ = None
