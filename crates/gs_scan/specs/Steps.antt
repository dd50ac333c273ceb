-- What one step of the scanner does.
use Rattle.std.specs.Prelude.{◌≡◌, ℕ, ◌+◌, List, [], ◌∷◌, ◌++◌, if◌then◌else◌, Option}
use Rattle.gs_syntax.specs.declared.token.Token.{Token}
use Rattle.gs_syntax.specs.declared.token.TokenKind.{TokenKind}
use Rattle.gs_syntax.specs.Spelling as lexeme
use Rattle.gs_syntax.specs.Spelling.{Lexeme, StandsAt}
use Rattle.gs_syntax.specs.Tokens.{Cut, tokens_from}
use Rattle.gs_scan.specs.declared.scan.Scanned.{Scanned}
use Rattle.gs_scan.specs.Comments.{is_line_comment}

-- these n bytes at the offset `at` join the tokens `old`; a semicolon waits at `end` before them, and at `after` behind them
abbrev pub JoinsAs : Lexeme → ℕ → ℕ → Option ℕ → List Token → List Token → Option ℕ → Type 0
JoinsAs what n at end old new after = (cs : List Cut) → old ++ tokens_from at end ((what, n) ∷ cs) ≡ new ++ tokens_from (at + n) after cs

-- the offset of what stands at the front of a text, if it is a line comment
abbrev pub comment_at : ℕ → List ℕ → Lexeme → List ℕ
comment_at at rest what = if is_line_comment rest what then at ∷ [] else []

-- what stands at the front of a text, n bytes at the offset `at`, joins the tokens, or the comments if it is a line comment
abbrev pub Adds : List ℕ → ℕ → Option ℕ → Scanned → Scanned → Option ℕ → ℕ → Type 0
Adds rest at end old new after n = (what : Lexeme) × (StandsAt rest what n) × JoinsAs what n at end old.tokens.items new.tokens.items after
    × (new.comments.items ≡ old.comments.items ++ comment_at at rest what)

-- a token stands there and joins the tokens, wherever a semicolon waits before it: it takes none
abbrev pub AddsToken : List ℕ → ℕ → List Token → List Token → Option ℕ → ℕ → Type 0
AddsToken rest at old new after n = (kind : TokenKind) × (StandsAt rest (lexeme.Token kind) n) × ((end : Option ℕ) → JoinsAs (lexeme.Token kind) n at end old new after)
