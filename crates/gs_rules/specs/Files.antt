-- What a file declares (Go specification, "Declarations and scope").
use Rattle.std.specs.Prelude.{ℕ, Bool, if◌then◌else◌, List, [], ◌∷◌, ◌++◌, map, drop, Option, Some, None}
use Rattle.std.specs.List.{slice_range}
use Rattle.std.specs.Option.{is_some, option_to_list}
use Rattle.std.specs.Str.{bytes_eq}
use Rattle.gs_syntax.specs.declared.token.Token.{Token}
use Rattle.gs_syntax.specs.Chunks.{chunks_of}
use Rattle.gs_rules.specs.Trees.{Declaration, declaration_of}

-- the tokens from one place up to another
abbrev pub part_of : List Token → ℕ × ℕ → List Token
part_of tokens place = slice_range tokens place.0 place.1

-- the chunks of a file, each with its tokens
abbrev pub parts_of : List Token → List (ℕ × ℕ) → List (List Token)
parts_of tokens places = map (part_of tokens) places

-- what the chunks behind the first declare, in order: one that is no declaration declares nothing
abbrev pub declarations_in : List (List Token) → List Declaration
declarations_in [] = []
declarations_in (c ∷ cs) = option_to_list (declaration_of c) ++ declarations_in cs

unfoldable pub declarations_of : List Token → List Declaration
declarations_of tokens = declarations_in (drop 1 (parts_of tokens (chunks_of tokens)))

-- what a name is declared as, if it is: whether as a constant
abbrev pub declared_as : List ℕ → List Declaration → Option Bool
declared_as name [] = None
declared_as name (d ∷ ds) = if bytes_eq d.name name then Some d.constant else declared_as name ds

abbrev pub is_declared : List ℕ → List Declaration → Bool
is_declared name ds = is_some (declared_as name ds)

-- what each name is declared as
abbrev pub lookup_of : List Declaration → List ℕ → Option Bool
lookup_of ds name = declared_as name ds
