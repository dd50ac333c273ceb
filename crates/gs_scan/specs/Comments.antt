-- The line comments of a text (Go specification, "Comments").
use Rattle.std.specs.Prelude.{◌≡◌, ◌≤◌, ◌<◌, ℕ, ◌+◌, Bool, false, if◌then◌else◌, List, [], ◌∷◌, ◌++◌, drop, nat_eq}
use Rattle.std.specs.List.{starts_with}
use Rattle.gs_syntax.specs.Spelling as lexeme
use Rattle.gs_syntax.specs.Spelling.{Lexeme}
use Rattle.gs_syntax.specs.Tokens.{Cut, IsCutInto, mark_size}

-- whether what stands at the front of a text is a line comment: what begins with `//` and is no token
abbrev pub is_line_comment : List ℕ → Lexeme → Bool
is_line_comment text lexeme.Blank = starts_with nat_eq text (47 ∷ 47 ∷ [])
is_line_comment text _ = false

-- the offsets of the line comments, where the text from the offset `at` on is cut into these
abbrev pub comments_from : ℕ → List ℕ → List Cut → List ℕ
comments_from at text [] = []
comments_from at text (c ∷ cs) = (if is_line_comment text c.0 then at ∷ [] else []) ++ comments_from (at + c.1) (drop c.1 text) cs

-- the offsets at which the line comments of a text begin, in order
abbrev pub AreComments : List ℕ → List ℕ → Type 0
AreComments text offsets = (cs : List Cut) × IsCutInto (drop (mark_size text) text) cs × (offsets ≡ comments_from (mark_size text) (drop (mark_size text) text) cs)

-- the numbers ascend: each is at least `from` and below `to`, and the next one is above it
abbrev pub Ascends : ℕ → ℕ → List ℕ → Type 0
Ascends from to [] = Unit {0}
Ascends from to (n ∷ ns) = (from ≤ n) × (n < to) × Ascends (n + 1) to ns
