-- The docs of a file: of each chunk, declaration and spec, the line comments directly above it (Go specification, "Comments").
use Rattle.std.specs.Prelude.{ℕ, ◌+◌, Bool, true, false, not, ◌||◌, ◌&&◌, ◌==◌, if◌then◌else◌, List, [], ◌∷◌, ◌++◌, drop, take, map, Option, Some, None}
use Rattle.std.specs.List.{list_all, list_any, prefix_len}
use Rattle.gs_syntax.specs.declared.token.Keyword.TheVariants as word
use Rattle.gs_syntax.specs.declared.token.Operator.TheVariants as mark
use Rattle.gs_syntax.specs.declared.token.Token.{Token}
use Rattle.gs_syntax.specs.declared.token.TokenKind.{TokenKind}
use Rattle.gs_syntax.specs.declared.token.TokenKind.TheVariants as kind
use Rattle.gs_syntax.specs.Tokens.{mark_size}
use Rattle.gs_grammar.specs.Front.{is_mark, is_semi}

-- ---- Where a chunk, its declarations and their specs begin

-- a keyword whose declaration may be a group
abbrev pub is_grouping : TokenKind → Bool
is_grouping (kind.Keyword word.Import) = true
is_grouping (kind.Keyword word.Const) = true
is_grouping (kind.Keyword word.«Type») = true
is_grouping (kind.Keyword word.Var) = true
is_grouping _ = false

-- which brackets stand open behind a token, innermost first, each by whether it is the parenthesis of a group: one
-- directly behind a keyword
abbrev pub open_after : TokenKind → List Bool → TokenKind → List Bool
open_after before opened (kind.Operator mark.LeftParen) = is_grouping before ∷ opened
open_after before opened (kind.Operator mark.LeftBracket) = false ∷ opened
open_after before opened (kind.Operator mark.LeftBrace) = false ∷ opened
open_after before opened (kind.Operator mark.RightParen) = drop 1 opened
open_after before opened (kind.Operator mark.RightBracket) = drop 1 opened
open_after before opened (kind.Operator mark.RightBrace) = drop 1 opened
open_after before opened _ = opened

-- whether the innermost bracket is the parenthesis of a group
abbrev pub in_group : List Bool → Bool
in_group [] = false
in_group (g ∷ gs) = g

-- a declaration begins with its keyword; `type` directly behind a parenthesis is that of a type switch
abbrev pub begins_declaration : TokenKind → TokenKind → Bool
begins_declaration before (kind.Keyword word.Const) = true
begins_declaration before (kind.Keyword word.Var) = true
begins_declaration before (kind.Keyword word.«Type») = not (is_mark mark.LeftParen before)
begins_declaration before _ = false

-- a spec of a group begins behind the parenthesis that opens the group, or behind a semicolon in it
abbrev pub begins_spec : TokenKind → List Bool → TokenKind → Bool
begins_spec before opened k = in_group opened && ((is_mark mark.LeftParen before || is_semi before) && not (is_mark mark.RightParen k))

-- the offsets at which declarations and specs begin, from the tokens of a chunk behind the token `before`
abbrev pub starts_from : TokenKind → List Bool → List Token → List ℕ
starts_from before opened [] = []
starts_from before opened (t ∷ ts) =
    (if begins_declaration before t.kind || begins_spec before opened t.kind then t.span.offset ∷ [] else []) ++ starts_from t.kind (open_after before opened t.kind) ts

-- the offsets at which a chunk with these tokens, its declarations and their specs begin: of the first token of each
abbrev pub starts : List Token → List ℕ
starts [] = []
starts (t ∷ ts) = t.span.offset ∷ starts_from t.kind [] ts

-- ---- The doc of what begins at an offset

-- a line: its offset, and its bytes without the LF that ends it
abbrev pub Line : Type 0
Line = ℕ × List ℕ

-- the lines of what follows the offset `at`, where a line that began at `first` has these bytes so far
abbrev pub lines_from : ℕ → List ℕ → ℕ → List ℕ → List Line
lines_from first line at [] = (first, line) ∷ []
lines_from first line at (b ∷ bs) = if b == 10 then (first, line) ∷ lines_from (at + 1) [] (at + 1) bs else lines_from first (line ++ b ∷ []) (at + 1) bs

-- space or tab
abbrev pub is_blank : ℕ → Bool
is_blank b = b == 32 || b == 9

-- how many blanks a line begins with
abbrev pub indent : List ℕ → ℕ
indent line = prefix_len is_blank line

-- behind its blanks the line begins with a `//` that begins a comment; the comments are given by their offsets
abbrev pub is_comment : List ℕ → Line → Bool
is_comment comments line = list_any (λ at. at == line.0 + indent line.1) comments

-- without a CR at the end
abbrev pub without_return : List ℕ → List ℕ
without_return [] = []
without_return (b ∷ []) = if b == 13 then [] else b ∷ []
without_return (b ∷ c ∷ bs) = b ∷ without_return (c ∷ bs)

-- without one space at the front
abbrev pub without_space : List ℕ → List ℕ
without_space [] = []
without_space (b ∷ bs) = if b == 32 then bs else b ∷ bs

-- what a comment says: without the blanks before it, the `//`, one space, and a CR at its end
abbrev pub said : Line → List ℕ
said line = without_space (without_return (drop (indent line.1 + 2) line.1))

-- the longest end of these lines that has comments alone, as what they say
abbrev pub last_comments : List ℕ → List Line → List (List ℕ)
last_comments comments [] = []
last_comments comments (l ∷ ls) = if list_all (is_comment comments) (l ∷ ls) then map said (l ∷ ls) else last_comments comments ls

-- these lines, joined by LF; none, where there are no lines
abbrev pub joined : List (List ℕ) → Option (List ℕ)
joined [] = None
joined (l ∷ ls) = Some (more l ls)
  where
    more : List ℕ → List (List ℕ) → List ℕ
    more l [] = l
    more l (m ∷ ms) = l ++ 10 ∷ more m ms

-- the lines but the last, and the last
abbrev pub parted : List Line → List Line × List ℕ
parted [] = ([], [])
parted (l ∷ []) = ([], l.1)
parted (l ∷ m ∷ ls) = (l ∷ (parted (m ∷ ls)).0, (parted (m ∷ ls)).1)

-- the lines before an offset, the last up to it; a byte order mark is no part of the first
abbrev pub lines_before : List ℕ → ℕ → List Line
lines_before text offset = lines_from (mark_size text) [] (mark_size text) (drop (mark_size text) (take offset text))

-- the doc of what begins at an offset: where nothing but blanks stands before it on its line, the comments directly above
unfoldable pub doc_at : List ℕ → List ℕ → ℕ → Option (List ℕ)
doc_at text comments offset =
    let lines = parted (lines_before text offset) in
    if list_all is_blank lines.1 then joined (last_comments comments lines.0) else None

-- an offset with its doc, where it has one
abbrev pub with_doc : ℕ → Option (List ℕ) → List (ℕ × List ℕ)
with_doc offset None = []
with_doc offset (Some doc) = (offset, doc) ∷ []

-- the docs of what begins at these offsets, each with its offset, of those that have one
abbrev pub docs_at : List ℕ → List ℕ → List ℕ → List (ℕ × List ℕ)
docs_at text comments [] = []
docs_at text comments (o ∷ os) = with_doc o (doc_at text comments o) ++ docs_at text comments os
