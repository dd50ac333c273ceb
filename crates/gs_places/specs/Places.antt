-- What the table says of a place.
use Rattle.std.specs.Prelude.{◌≡◌, ℕ, min, ◌-◌, ◌≤◌, Bool, true, false, List, [], ◌∷◌, ◌++◌, length, drop, Option, Some, None}
use Rattle.gs_syntax.specs.declared.token.Token.{Token}
use Rattle.gs_grammar.specs.Front.{◌>>=◌}
use Rattle.gs_grammar.specs.Parts.{Found}
use Rattle.gs_grammar.specs.Row.{Row}
use Rattle.gs_grammar.specs.Reference.{row}
use Rattle.gs_places.specs.declared.place.Cell.{Cell}
use Rattle.gs_places.specs.declared.place.Types.{Types}
use Rattle.gs_places.specs.declared.place.Levels.{Levels}
use Rattle.gs_places.specs.declared.place.Exprs.{Exprs}
use Rattle.gs_places.specs.declared.place.Lists.{Lists}
use Rattle.gs_places.specs.declared.place.Place.{Place}

-- what stands at a place, each form by itself
unfoldable pub stands : List Token → Row
stands s = row s

-- a depth, counted up to 201
abbrev pub cap : ℕ → ℕ
cap d = min d 201

-- how deep it nests, and what is left behind it
abbrev pub spot : {A : Type 0} → Option (Found A) → Option (ℕ × List Token)
spot o = o >>= λ f. Some (cap f.depth, f.rest)

-- what is left behind a token
abbrev pub left : {A : Type 0} → Option (A × List Token) → Option (List Token)
left o = o >>= λ p. Some p.1

abbrev pub cell_of : Option (ℕ × List Token) → Option Cell
cell_of o = o >>= λ p. Some (record { left = length p.1; depth = p.0 })

-- what the table keeps of a form
abbrev pub cell : {A : Type 0} → Option (Found A) → Option Cell
cell o = cell_of (spot o)

abbrev pub types_at : List Token → Types
types_at s = record {
  idents = cell (stands s).idents;
  type_expr = cell (stands s).type;
  unnamed_dots = cell ((stands s).unnamed true);
  unnamed = cell ((stands s).unnamed false);
  named_dots = cell ((stands s).named_params true);
  named = cell ((stands s).named_params false);
  fields = cell (stands s).fields;
  members = cell (stands s).members;
}

-- expressions by the loosest operator that stands outside brackets; the Bool: in a header
abbrev pub levels_at : Bool → List Token → Levels
levels_at h s = record {
  unary = cell ((stands s).unary h false);
  unary_first = cell ((stands s).unary h true);
  product = cell ((stands s).expr 1 h false);
  sum = cell ((stands s).expr 2 h false);
  comparison = cell ((stands s).expr 3 h false);
  conjunction = cell ((stands s).expr 4 h false);
  disjunction = cell ((stands s).expr 5 h false);
  factors = cell ((stands s).operands 0 h);
  terms = cell ((stands s).operands 1 h);
  compared = cell ((stands s).operands 2 h);
  conjoined = cell ((stands s).operands 3 h);
  disjoined = cell ((stands s).operands 4 h);
  exprs = cell ((stands s).exprs h);
}

abbrev pub exprs_at : List Token → Exprs
exprs_at s = record {
  plain = levels_at false s;
  header = levels_at true s;
  inner = cell ((stands s).expr 5 false true);
  suffixes = cell (stands s).suffixes;
  args = cell (stands s).args;
  elements = cell (stands s).elements;
}

abbrev pub lists_at : List Token → Lists
lists_at s = record {
  stmts = cell (stands s).stmts;
  stmt = cell (stands s).stmt;
  arms = cell (stands s).arms;
  clauses = cell (stands s).clauses;
  type_clauses = cell (stands s).type_clauses;
  comm_clauses = cell (stands s).comm_clauses;
  types = cell (stands s).types;
  const_specs = cell ((stands s).const_specs false);
  type_specs = cell (stands s).type_specs;
  var_specs = cell (stands s).var_specs;
  import_specs = cell (stands s).import_specs;
}

unfoldable pub place : List Token → Place
place s = record { types = types_at s; exprs = exprs_at s; lists = lists_at s }

-- the places of a list of tokens, its end first
unfoldable pub places : List Token → List Place
places [] = place [] ∷ []
places (x ∷ s) = places s ++ place (x ∷ s) ∷ []

abbrev pub Sees : {X Y : Type 0} → (X → Y) → Option X → Option Y → Type 0
Sees view (Some x) o = o ≡ Some (view x)
Sees view None o = o ≡ None

-- the first token, and those behind it
abbrev pub first_of : List Token → Option (Token × List Token)
first_of [] = None
first_of (x ∷ s) = Some (x, s)

-- the last tokens, as many as are said
abbrev pub last : ℕ → List Token → List Token
last k s = drop (length s - k) s

-- what is left is an end of the tokens
abbrev pub IsWithin : List Token → Option (ℕ × List Token) → Type 0
IsWithin s None = Unit
IsWithin s (Some p) = (length p.1 ≤ length s) × (last (length p.1) s ≡ p.1)
