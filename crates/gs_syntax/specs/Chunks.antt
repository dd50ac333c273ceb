-- Where the tokens are cut.
use Rattle.std.specs.Prelude.{◌≡◌, ◌<◌, ℕ, ◌+◌, ◌-◌, Bool, true, false, ◌&&◌, ◌==◌, if◌then◌else◌, List, [], ◌∷◌}
use Rattle.gs_syntax.specs.declared.token.Operator.TheVariants.{Semicolon, LeftParen, LeftBracket, LeftBrace, RightParen, RightBracket, RightBrace}
use Rattle.gs_syntax.specs.declared.token.Token.{Token}
use Rattle.gs_syntax.specs.declared.token.TokenKind.{TokenKind}
use Rattle.gs_syntax.specs.declared.token.TokenKind.TheVariants as kind

abbrev pub is_semicolon : TokenKind → Bool
is_semicolon (kind.Operator Semicolon) = true
is_semicolon kind.Inserted = true
is_semicolon _ = false

-- the depth behind a token, never below 0
abbrev pub depth_after : ℕ → TokenKind → ℕ
depth_after depth (kind.Operator LeftParen) = depth + 1
depth_after depth (kind.Operator LeftBracket) = depth + 1
depth_after depth (kind.Operator LeftBrace) = depth + 1
depth_after depth (kind.Operator RightParen) = depth - 1
depth_after depth (kind.Operator RightBracket) = depth - 1
depth_after depth (kind.Operator RightBrace) = depth - 1
depth_after depth _ = depth

-- the chunks from the place `at` on, where one has begun at the place `first`: its first place, and the place behind it
abbrev pub chunks_from : ℕ → ℕ → ℕ → List Token → List (ℕ × ℕ)
chunks_from first at depth [] = if first == at then [] else (first, at) ∷ []
chunks_from first at depth (t ∷ ts) =
    if is_semicolon t.kind && depth == 0 then (first, at + 1) ∷ chunks_from (at + 1) (at + 1) 0 ts
    else chunks_from first (at + 1) (depth_after depth t.kind) ts

-- cut behind each semicolon at depth 0; what is left is the last
abbrev pub chunks_of : List Token → List (ℕ × ℕ)
chunks_of ts = chunks_from 0 0 0 ts

-- chunks one directly behind the other, from one place to another, none of them empty
abbrev pub Follow : ℕ → ℕ → List (ℕ × ℕ) → Type 0
Follow from to [] = from ≡ to
Follow from to (c ∷ cs) = (c.0 ≡ from) × (from < c.1) × Follow c.1 to cs
