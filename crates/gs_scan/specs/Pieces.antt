-- A piece of the text, as a lexeme.
use Rattle.gs_syntax.specs.declared.token.TokenKind.{TokenKind}
use Rattle.gs_syntax.specs.declared.token.TokenKind.TheVariants as kind
use Rattle.gs_syntax.specs.Spelling as lexeme
use Rattle.gs_syntax.specs.Spelling.{Lexeme}
use Rattle.gs_numbers.specs.declared.number.Number.{Number}
use Rattle.gs_numbers.specs.declared.number.Number.TheVariants.{Integer, Float, Imaginary}
use Rattle.gs_scan.specs.declared.piece.Piece.{Piece}
use Rattle.gs_scan.specs.declared.piece.Piece.TheVariants.{Blank, LineEnd, Token}

abbrev pub lexeme_of : Piece → Lexeme
lexeme_of Blank = lexeme.Blank
lexeme_of LineEnd = lexeme.LineEnd
lexeme_of (Token kind) = lexeme.Token kind

-- the token of a number
abbrev pub kind_of : Number → TokenKind
kind_of (Integer v) = kind.Integer v
kind_of Float = kind.Float
kind_of Imaginary = kind.Imaginary
