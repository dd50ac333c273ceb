-- How far the words of a line go.
use Rattle.std.specs.Prelude.{ℕ, suc, not, ◌||◌, ◌==◌, if◌then◌else◌, List, [], ◌∷◌, slice_index, Option, Some, None}
use Rattle.std.specs.List.{prefix_len}
pub use Rattle.gs_gomod.specs.Words.{Word, is_blank, is_quote, begins_comment}

abbrev pub byte_at : List ℕ → ℕ → ℕ
byte_at bytes at = slice_index bytes at

-- up to a blank, a comment or the end
abbrev pub plain_size : List ℕ → ℕ
plain_size [] = 0
plain_size (c ∷ cs) = if is_blank c || begins_comment c cs then 0 else suc (plain_size cs)

-- up to the quote or the end
abbrev pub quoted_size : ℕ → List ℕ → ℕ
quoted_size quote bytes = prefix_len (λ c. not (c == quote)) bytes

-- a word, if there is one, in front of the others
abbrev pub in_front : Option Word → List Word → List Word
in_front None ws = ws
in_front (Some w) ws = w ∷ ws
