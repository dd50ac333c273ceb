-- What is said of the chunks of a file, one behind the other (Go specification, "Source file organization").
use Rattle.std.specs.Prelude.{◌≡◌, ◌≢◌, ℕ, ◌≤◌, Bool, true, false, if◌then◌else◌, List, [], ◌∷◌, ◌++◌, map}
use Rattle.std.specs.List.{slice_range}
use Rattle.gs_syntax.specs.declared.token.Span.{Span}
use Rattle.gs_syntax.specs.declared.token.Token.{Token}
use Rattle.gs_syntax.specs.declared.token.TokenKind.{TokenKind}
use Rattle.gs_syntax.specs.declared.token.TokenKind.TheVariants as kind
use Rattle.gs_grammar.specs.Grammar.{IsChunkAt}
use Rattle.gs_grammar.specs.declared.trees.Chunk.{Chunk}
use Rattle.gs_grammar.specs.declared.trees.Chunk.TheVariants as ch
use Rattle.gs_ends.specs.Answer.{limit, IsTooDeep}
use Rattle.gs_syntax.specs.declared.token.Keyword.TheVariants as word
use Rattle.gs_chunks.specs.declared.stage.Class.{Class}
use Rattle.gs_chunks.specs.declared.stage.Class.TheVariants as class
use Rattle.gs_chunks.specs.declared.stage.Stage.{Stage}
use Rattle.gs_chunks.specs.declared.stage.Stage.TheVariants.{Clause, Imports, Declarations}

-- the tokens from one place up to another
abbrev pub part_of : List Token → ℕ × ℕ → List Token
part_of tokens place = slice_range tokens place.0 place.1

-- the chunks with these places, each as its tokens
abbrev pub parts_of : List Token → List (ℕ × ℕ) → List (List Token)
parts_of tokens places = map (part_of tokens) places

-- a code and its place
abbrev pub Fault : Type 0
Fault = ℕ × Span

abbrev pub first_span : List Token → Span
first_span [] = record { offset = 0; length = 0 }
first_span (t ∷ ts) = t.span

-- one fault, at the first token
abbrev pub at_first : ℕ → List Token → List Fault
at_first code ts = (code, first_span ts) ∷ []

abbrev pub is_bad : TokenKind → Bool
is_bad kind.Bad = true
is_bad _ = false

-- G02 at each bad token
abbrev pub bad_tokens : List Token → List Fault
bad_tokens [] = []
bad_tokens (t ∷ ts) = if is_bad t.kind then (2, t.span) ∷ bad_tokens ts else bad_tokens ts

-- all the tokens are those of a chunk's tree, which nests at most 200 deep
abbrev pub IsTreeOf : Chunk → List Token → Type 0
IsTreeOf t ts = (d : ℕ) × IsChunkAt t ts [] d × (d ≤ limit)

-- of which of the three a chunk is
abbrev pub class_of : Chunk → Class
class_of (ch.Package name) = class.Package
class_of (ch.Import specs) = class.Import
class_of (ch.Top top) = class.Declaration

-- the same by the first token, where the chunk has a tree
abbrev pub class_by : TokenKind → Class
class_by (kind.Keyword word.Package) = class.Package
class_by (kind.Keyword word.Import) = class.Import
class_by _ = class.Declaration

abbrev pub first_class : List Token → Class
first_class [] = class.Declaration
first_class (t ∷ ts) = class_by t.kind

-- whether a chunk may stand here: first the package clause, then imports, then declarations
abbrev pub takes : Stage → Class → Bool
takes Clause class.Package = true
takes Imports class.Import = true
takes Imports class.Declaration = true
takes Declarations class.Declaration = true
takes _ _ = false

abbrev pub may_stand : Stage → Chunk → Bool
may_stand stage t = takes stage (class_of t)

-- a chunk is kept as its tree, or dropped with faults
pub data Verdict : Type 0 where
  Kept : Chunk → Verdict
  Dropped : List Fault → Verdict

-- what comes behind a chunk: behind the first, imports, whatever it is; behind a declaration that is kept, declarations
abbrev pub behind : Stage → Class → Stage
behind Clause c = Imports
behind Imports class.Declaration = Declarations
behind Imports _ = Imports
behind Declarations c = Declarations

abbrev pub passed : Stage → Stage
passed Clause = Imports
passed stage = stage

abbrev pub after : Stage → Verdict → Stage
after stage (Kept t) = behind stage (class_of t)
after stage (Dropped faults) = passed stage

-- a chunk is dropped for its bad tokens: G02; else for a tree that nests above 200: G04; else because it has no tree that
-- may stand here: G01
pub data IsDropped (stage : Stage) (ts : List Token) : List Fault → Type 0 where
  bad : bad_tokens ts ≢ [] → IsDropped stage ts (bad_tokens ts)
  deep : bad_tokens ts ≡ [] → IsTooDeep IsChunkAt ts 0 → IsDropped stage ts (at_first 4 ts)
  misplaced : bad_tokens ts ≡ [] → (IsTooDeep IsChunkAt ts 0 → ⊥) → ((t : Chunk) → IsTreeOf t ts → may_stand stage t ≡ true → ⊥) → IsDropped stage ts (at_first 1 ts)

pub record IsKept (stage : Stage) (ts : List Token) (t : Chunk) : Type 0 where
  pub good : bad_tokens ts ≡ []
  pub tree : IsTreeOf t ts
  pub stands : may_stand stage t ≡ true

abbrev pub IsVerdict : Stage → List Token → Verdict → Type 0
IsVerdict stage ts (Kept t) = IsKept stage ts t
IsVerdict stage ts (Dropped faults) = IsDropped stage ts faults

-- one verdict for each chunk, in order
abbrev pub AreVerdicts : Stage → List (List Token) → List Verdict → Type 0
AreVerdicts stage [] [] = Unit
AreVerdicts stage (ts ∷ chunks) (v ∷ vs) = IsVerdict stage ts v × AreVerdicts (after stage v) chunks vs
AreVerdicts stage _ _ = ⊥

-- the trees of the chunks that are kept
abbrev pub kept_of : List Verdict → List Chunk
kept_of [] = []
kept_of (Kept t ∷ vs) = t ∷ kept_of vs
kept_of (Dropped faults ∷ vs) = kept_of vs

-- the faults of those that are dropped
abbrev pub faults_of : List Verdict → List Fault
faults_of [] = []
faults_of (Kept t ∷ vs) = faults_of vs
faults_of (Dropped faults ∷ vs) = faults ++ faults_of vs
