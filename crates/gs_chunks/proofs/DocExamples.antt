-- Docs of single texts and starts of single lists of tokens, by computation.
use Rattle.std.proofs.Common.{◌≡◌, ℕ, [], ◌∷◌, refl, Some, None, codes}
use Rattle.gs_syntax.specs.declared.token.Keyword.TheVariants as word
use Rattle.gs_syntax.specs.declared.token.Operator.TheVariants as mark
use Rattle.gs_syntax.specs.declared.token.Token.{Token}
use Rattle.gs_syntax.specs.declared.token.TokenKind.{TokenKind}
use Rattle.gs_syntax.specs.declared.token.TokenKind.TheVariants as kind
use Rattle.gs_chunks.specs.Docs.{doc_at, starts}

one_line : doc_at (codes "// a\nvar x") (0 ∷ []) 5 ≡ Some (codes "a")
unfolding doc_at
one_line = refl

two_lines : doc_at (codes "x\n\t//  a\r\n //b\n  var x") (3 ∷ 11 ∷ []) 17 ≡ Some (codes " a\nb")
unfolding doc_at
two_lines = refl

empty_line_between : doc_at (codes "// a\n\nvar x") (0 ∷ []) 6 ≡ None
unfolding doc_at
empty_line_between = refl

-- the lines above an empty line do not count
behind_an_empty_line : doc_at (codes "// a\n\n// b\nvar x") (0 ∷ 6 ∷ []) 11 ≡ Some (codes "b")
unfolding doc_at
behind_an_empty_line = refl

not_first_on_its_line : doc_at (codes "// a\nx; var x") (0 ∷ []) 8 ≡ None
unfolding doc_at
not_first_on_its_line = refl

-- a `//` inside a raw string begins no comment
no_comment : doc_at (codes "`\n//`\nvar x") [] 6 ≡ None
unfolding doc_at
no_comment = refl

-- a comment behind something else on its line
behind_a_token : doc_at (codes "x // a\nvar x") (2 ∷ []) 7 ≡ None
unfolding doc_at
behind_a_token = refl

without_words : doc_at (codes "//\n// \nvar x") (0 ∷ 3 ∷ []) 7 ≡ Some (10 ∷ [])
unfolding doc_at
without_words = refl

behind_a_mark : doc_at (239 ∷ 187 ∷ 191 ∷ codes "// a\nx") (3 ∷ []) 8 ≡ Some (codes "a")
unfolding doc_at
behind_a_mark = refl

-- ---- Starts

-- a token of one byte; below, literals stand for names
abbrev token : TokenKind → ℕ → Token
token k at = record { kind = k; span = record { offset = at; length = 1 } }

-- `const ( a; b )`
a_group : starts (token (kind.Keyword word.Const) 0 ∷ token (kind.Operator mark.LeftParen) 6 ∷ token kind.Float 8 ∷ token (kind.Operator mark.Semicolon) 9 ∷ token kind.Float 11 ∷ token (kind.Operator mark.RightParen) 13 ∷ [])
    ≡ 0 ∷ 8 ∷ 11 ∷ []
a_group = refl

-- `func ( a; b ) { var a; b }`
in_a_body : starts (
    token (kind.Keyword word.Func) 0
    ∷ token (kind.Operator mark.LeftParen) 5
    ∷ token kind.Float 7
    ∷ token (kind.Operator mark.Semicolon) 8
    ∷ token kind.Float 10
    ∷ token (kind.Operator mark.RightParen) 12
    ∷ token (kind.Operator mark.LeftBrace) 14
    ∷ token (kind.Keyword word.Var) 16
    ∷ token kind.Float 20
    ∷ token (kind.Operator mark.Semicolon) 21
    ∷ token kind.Float 23
    ∷ token (kind.Operator mark.RightBrace) 25
    ∷ []
    )
    ≡ 0 ∷ 16 ∷ []
in_a_body = refl

-- the keyword of a type switch, `( type )`, and that of a declaration behind it
a_type_switch : starts (token (kind.Operator mark.LeftParen) 0 ∷ token (kind.Keyword word.«Type») 2 ∷ token (kind.Operator mark.RightParen) 7 ∷ token (kind.Keyword word.«Type») 9 ∷ []) ≡ 0 ∷ 9 ∷ []
a_type_switch = refl
