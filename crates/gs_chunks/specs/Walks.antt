-- What the code has of the lines of a text.
use denote.Ref.{Bor}
use Rattle.std.specs.Prelude.{◌≡◌, ◌≢◌, ℕ, ◌==◌, Bool, true, false, if◌then◌else◌, nat_le, MatchOption, List, [], ◌∷◌, ◌++◌, drop, Option, None, Some}
use Rattle.gs_chunks.specs.Docs.{with_doc, without_return, without_space}

-- a `//` stands at each of these offsets of the text
abbrev pub AreSlashed : List ℕ → List ℕ → Type 0
AreSlashed text [] = Unit
AreSlashed text (c ∷ cs) = ((rest : List ℕ) × (drop c text ≡ 47 ∷ 47 ∷ rest)) × AreSlashed text cs

-- whether the first of these stands here
abbrev pub begins_at : List ℕ → ℕ → Bool
begins_at [] place = false
begins_at (c ∷ cs) place = c == place

-- what a comment says, from its `//` on
abbrev pub words : List ℕ → List ℕ
words comment = without_space (without_return (drop 2 comment))

-- this is what a line says from its front on, if the first of the comments stands there, and a `//`
abbrev pub IsSaidAt : List ℕ → ℕ → List ℕ → Option (Bor (List ℕ)) → Type 0
IsSaidAt comments front line said = MatchOption said (begins_at comments front ≡ true → (rest : List ℕ) → line ≢ 47 ∷ 47 ∷ rest) (λ s. (begins_at comments front ≡ true) × (s.now ≡ words line))

-- comment lines, joined, with another below
abbrev pub with_line : Option (List ℕ) → List ℕ → List ℕ
with_line None line = line
with_line (Some above) line = above ++ 10 ∷ line

-- the docs of what begins at these offsets of a line, where its blanks end at `front`
abbrev pub docs_on : ℕ → Option (List ℕ) → List ℕ → List (ℕ × List ℕ)
docs_on front above [] = []
docs_on front above (o ∷ os) = (if nat_le o front then with_doc o above else []) ++ docs_on front above os
