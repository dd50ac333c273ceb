-- The tokens of a text (Go specification, "Source code representation", "Tokens" and "Semicolons").
use Rattle.std.specs.Prelude.{◌≡◌, ℕ, ◌+◌, List, [], ◌∷◌, ◌++◌, drop, nat_eq, Option, Some, None, if◌then◌else◌}
use Rattle.std.specs.List.{starts_with}
use Rattle.gs_syntax.specs.declared.token.Token.{Token}
use Rattle.gs_syntax.specs.declared.token.TokenKind.{TokenKind}
use Rattle.gs_syntax.specs.declared.token.TokenKind.TheVariants as kind
use Rattle.gs_syntax.specs.Kinds.{ends_line}
use Rattle.gs_syntax.specs.Spelling as lexeme
use Rattle.gs_syntax.specs.Spelling.{Lexeme, StandsAt}

-- what stands at a place, and its length
abbrev pub Cut : Type 0
Cut = Lexeme × ℕ

-- the text is these, one behind the other
abbrev pub IsCutInto : List ℕ → List Cut → Type 0
IsCutInto text [] = text ≡ []
IsCutInto text (c ∷ cs) = StandsAt text c.0 c.1 × IsCutInto (drop c.1 text) cs

-- the semicolon at the end of a line's last token, if one is inserted there
abbrev pub semicolon : Option ℕ → List Token
semicolon None = []
semicolon (Some end) = record { kind = kind.Inserted; span = record { offset = end; length = 0 } } ∷ []

-- where a semicolon is inserted if the line ends after the token
abbrev pub end_after : TokenKind → ℕ → Option ℕ
end_after k end = if ends_line k then Some end else None

-- the tokens from the offset `at` on, where a semicolon waits at `end`
abbrev pub tokens_from : ℕ → Option ℕ → List Cut → List Token
tokens_from at end [] = semicolon end
tokens_from at end ((lexeme.Blank, n) ∷ cs) = tokens_from (at + n) end cs
tokens_from at end ((lexeme.LineEnd, n) ∷ cs) = semicolon end ++ tokens_from (at + n) None cs
tokens_from at end ((lexeme.Token k, n) ∷ cs) = record { kind = k; span = record { offset = at; length = n } } ∷ tokens_from (at + n) (end_after k (at + n)) cs

-- how many bytes a byte order mark, U+FEFF, has at the front of a text
abbrev pub mark_size : List ℕ → ℕ
mark_size text = if starts_with nat_eq text (239 ∷ 187 ∷ 191 ∷ []) then 3 else 0

-- the tokens of a text: a byte order mark at its front is skipped ("Source code representation")
abbrev pub AreTokens : List ℕ → List Token → Type 0
AreTokens text tokens = (cs : List Cut) × IsCutInto (drop (mark_size text) text) cs × (tokens ≡ tokens_from (mark_size text) None cs)
