-- The words of a line of go.mod (go.mod reference, "Lexical elements").
use Rattle.std.specs.Prelude.{ℕ, Bool, ◌&&◌, ◌||◌, ◌==◌, if◌then◌else◌, List, [], ◌∷◌, ◌++◌, slice_index}

-- a word between blanks, a word in quotes without them, or a quote that is not closed
pub data Word : Type 0 where
  Plain : List ℕ → Word
  Quoted : List ℕ → Word
  Unclosed : Word

-- space and tab
abbrev pub is_blank : ℕ → Bool
is_blank c = c == 32 || c == 9

-- `"` and the back quote
abbrev pub is_quote : ℕ → Bool
is_quote c = c == 34 || c == 96

-- `//`
abbrev pub begins_comment : ℕ → List ℕ → Bool
begins_comment c cs = c == 47 && slice_index cs 0 == 47

-- where a byte of a line is read: between words, or behind these bytes of a word
pub data Where : Type 0 where
  between : Where
  in_plain : List ℕ → Where
  in_quotes : ℕ → List ℕ → Where

-- Blanks separate words, and a comment ends the line. A word that begins with a quote goes up to the next such quote,
-- whatever is in it; there are no escapes.
abbrev pub words_from : Where → List ℕ → List Word
words_from between [] = []
words_from between (c ∷ cs) =
    if is_blank c then words_from between cs
    else if begins_comment c cs then []
    else if is_quote c then words_from (in_quotes c []) cs
    else words_from (in_plain (c ∷ [])) cs
words_from (in_plain w) [] = Plain w ∷ []
words_from (in_plain w) (c ∷ cs) =
    if is_blank c then Plain w ∷ words_from between cs
    else if begins_comment c cs then Plain w ∷ []
    else words_from (in_plain (w ++ c ∷ [])) cs
words_from (in_quotes q w) [] = Unclosed ∷ []
words_from (in_quotes q w) (c ∷ cs) = if c == q then Quoted w ∷ words_from between cs else words_from (in_quotes q (w ++ c ∷ [])) cs

-- the words of a line
unfoldable pub words : List ℕ → List Word
words line = words_from between line
