-- The first form: the files that the program checks so far. They are constants and variables, each of a name or a number.
use Rattle.std.specs.Prelude.{◌≡◌, ℕ, ◌+◌, Bool, true, false, not, ◌&&◌, ◌||◌, ◌==◌, nat_le, nat_lt, List, [], ◌∷◌, length, codes, Contains, Option, Some, None}
use Rattle.std.specs.List.{list_all, slice_range}
use Rattle.std.specs.Option.{is_some}
use Rattle.std.specs.Str.{bytes_eq, IsAscii}
use Rattle.gs_syntax.specs.declared.token.Keyword.{Keyword}
use Rattle.gs_syntax.specs.declared.token.Keyword.TheVariants.{Package, Const, Var}
use Rattle.gs_syntax.specs.declared.token.Operator.{Operator}
use Rattle.gs_syntax.specs.declared.token.Operator.TheVariants.{Assign, Semicolon}
use Rattle.gs_syntax.specs.declared.token.Token.{Token}
use Rattle.gs_syntax.specs.declared.token.TokenKind.{TokenKind}
use Rattle.gs_syntax.specs.declared.token.TokenKind.TheVariants as kind
use Rattle.gs_syntax.specs.Tokens.{AreTokens}
use Rattle.gs_rules.specs.Universe.{is_universe}
use Rattle.gs_rules.specs.Trees.{Right, Named, Number, Declaration, is_name}
use Rattle.gs_rules.specs.Files.{declarations_of, is_declared, lookup_of}

-- ASCII alone, and none of the bytes a `/`: no token of the first form has one, and each comment begins with one
pub record IsPlainText (input : List ℕ) : Type 0 where
  pub ascii : IsAscii input
  pub comments : Contains input 47 → ⊥

abbrev pub is_digit : ℕ → Bool
is_digit b = nat_le 48 b && nat_le b 57

-- `0`, or at most 18 decimal digits of which the first is not `0`
abbrev pub is_small_number : List ℕ → Bool
is_small_number [] = false
is_small_number (b ∷ bs) = list_all is_digit (b ∷ bs) && (nat_lt (length bs) 18 && (nat_lt 48 b || length bs == 0))

abbrev pub is_plain_word : Keyword → Bool
is_plain_word Package = true
is_plain_word Const = true
is_plain_word Var = true
is_plain_word _ = false

abbrev pub is_plain_operator : Operator → Bool
is_plain_operator Assign = true
is_plain_operator Semicolon = true
is_plain_operator _ = false

-- an identifier, `package`, `const`, `var`, `=`, a semicolon, or a small number, of which these are the bytes
abbrev pub is_plain_kind : TokenKind → List ℕ → Bool
is_plain_kind (kind.Identifier name) bytes = true
is_plain_kind (kind.Keyword word) bytes = is_plain_word word
is_plain_kind (kind.Operator operator) bytes = is_plain_operator operator
is_plain_kind (kind.Integer value) bytes = is_small_number bytes
is_plain_kind kind.Float bytes = false
is_plain_kind kind.Imaginary bytes = false
is_plain_kind (kind.Rune c) bytes = false
is_plain_kind (kind.Text value) bytes = false
is_plain_kind kind.Bad bytes = false
is_plain_kind kind.Inserted bytes = true

abbrev pub is_plain : List ℕ → Token → Bool
is_plain input token = is_plain_kind token.kind (slice_range input token.span.offset (token.span.offset + token.span.length))

-- no two names stand directly one after the other; `named`: a name stands directly before
abbrev pub are_apart : Bool → List Token → Bool
are_apart named [] = true
are_apart named (t ∷ ts) = not (named && is_name t.kind) && are_apart (is_name t.kind) ts

-- `_`, or a name of the universe
abbrev pub is_reserved : List ℕ → Bool
is_reserved name = bytes_eq name (codes "_") || is_universe name

-- a name that no declaration has
abbrev pub is_kept : List ℕ → Bool
is_kept name = bytes_eq name (codes "init") || (bytes_eq name (codes "main") || is_reserved name)

abbrev pub has_free_name : Declaration → Bool
has_free_name d = not (is_kept d.name)

-- a right side that is a name is none that is reserved
abbrev pub is_free : Right → Bool
is_free Number = true
is_free (Named name span) = not (is_reserved name)

abbrev pub has_free_right : Declaration → Bool
has_free_right d = is_free d.right

-- a right side that is a declared name
abbrev pub is_named_in : (List ℕ → Option Bool) → Right → Bool
is_named_in lookup Number = false
is_named_in lookup (Named name span) = is_some (lookup name)

-- no name is declared twice, and no right side is the name of the same declaration or of a later one
abbrev pub are_in_order : List Declaration → Bool
are_in_order [] = true
are_in_order (d ∷ ds) = (not (is_declared d.name ds) && not (is_named_in (lookup_of (d ∷ ds)) d.right)) && are_in_order ds

abbrev pub is_variable : Option Bool → Bool
is_variable None = false
is_variable (Some constant) = not constant

-- a right side that is a variable's name
abbrev pub is_variable_of : (List ℕ → Option Bool) → Right → Bool
is_variable_of lookup Number = false
is_variable_of lookup (Named name span) = is_variable (lookup name)

-- a constant's right side is not a variable's name
abbrev pub has_constant_right : (List ℕ → Option Bool) → Declaration → Bool
has_constant_right lookup d = not (d.constant && is_variable_of lookup d.right)

-- the input, with these tokens, is in the first form
pub record IsFirstForm (input : List ℕ) (tokens : List Token) : Type 0 where
  pub text : IsPlainText input
  pub scanned : AreTokens input tokens
  pub plain : list_all (is_plain input) tokens ≡ true
  pub apart : are_apart false tokens ≡ true
  pub names : list_all has_free_name (declarations_of tokens) ≡ true
  pub rights : list_all has_free_right (declarations_of tokens) ≡ true
  pub order : are_in_order (declarations_of tokens) ≡ true
  pub constants : list_all (has_constant_right (lookup_of (declarations_of tokens))) (declarations_of tokens) ≡ true
