-- The tokens that only join or end forms.
use Rattle.std.specs.Prelude.{Bool, true, false}
use Rattle.gs_syntax.specs.declared.token.TokenKind.{TokenKind}
use Rattle.gs_syntax.specs.declared.token.TokenKind.TheVariants as kind
use Rattle.gs_syntax.specs.declared.token.Operator.TheVariants as mark

-- no name, type, expression, statement, declaration or spec begins with the token
abbrev pub is_joint : TokenKind → Bool
is_joint (kind.Operator mark.Plus) = false
is_joint (kind.Operator mark.Minus) = false
is_joint (kind.Operator mark.Star) = false
is_joint (kind.Operator mark.And) = false
is_joint (kind.Operator mark.Caret) = false
is_joint (kind.Operator mark.Arrow) = false
is_joint (kind.Operator mark.Not) = false
is_joint (kind.Operator mark.Ellipsis) = false
is_joint (kind.Operator mark.LeftParen) = false
is_joint (kind.Operator mark.LeftBracket) = false
is_joint (kind.Operator mark.LeftBrace) = false
is_joint (kind.Operator mark.Dot) = false
is_joint (kind.Operator m) = true
is_joint kind.Bad = true
is_joint kind.Inserted = true
is_joint _ = false
