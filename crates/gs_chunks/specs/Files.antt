-- What a file holds: the trees of its chunks, the docs of what they declare, and the faults of its form.
use Rattle.std.specs.Prelude.{◌≡◌, ◌≢◌, ℕ, ◌<◌, ◌≤◌, List, [], ◌∷◌, ◌++◌, length}
use Rattle.std.specs.Str.{IsUtf8}
use Rattle.gs_syntax.specs.declared.token.Token.{Token}
use Rattle.gs_syntax.specs.Tokens.{AreTokens}
use Rattle.gs_syntax.specs.Chunks.{chunks_of}
use Rattle.gs_scan.specs.Comments.{AreComments}
use Rattle.gs_grammar.specs.declared.trees.Chunk.{Chunk}
use Rattle.gs_grammar.specs.declared.trees.FileTree.{FileTree}
use Rattle.gs_chunks.specs.declared.stage.Stage.TheVariants.{Clause}
use Rattle.gs_chunks.specs.Docs.{starts, docs_at}
use Rattle.gs_chunks.specs.Verdicts.{Fault, Verdict, Kept, Dropped, AreVerdicts, at_first, faults_of, kept_of, parts_of}

-- the most bytes that a file may have
abbrev pub most_bytes : ℕ
most_bytes = 4194304

-- where the chunks that are kept, their declarations and their specs begin
abbrev pub starts_of : List (List Token) → List Verdict → List ℕ
starts_of [] vs = []
starts_of (ts ∷ parts) [] = []
starts_of (ts ∷ parts) (Kept t ∷ vs) = starts ts ++ starts_of parts vs
starts_of (ts ∷ parts) (Dropped faults ∷ vs) = starts_of parts vs

-- these chunks, docs and faults are those of a file: G05 alone where it is too long, else G03 alone where it is not UTF-8,
-- else G01 alone where it has no tokens, else what is said of its chunks, and the docs of those that are kept
pub data IsRead (bytes : List ℕ) : List Chunk → List (ℕ × List ℕ) → List Fault → Type 0 where
  too_long : most_bytes < length bytes → IsRead bytes [] [] (at_first 5 [])
  not_text : length bytes ≤ most_bytes → (IsUtf8 bytes → ⊥) → IsRead bytes [] [] (at_first 3 [])
  empty : length bytes ≤ most_bytes → IsUtf8 bytes → AreTokens bytes [] → IsRead bytes [] [] (at_first 1 [])
  judged : (tokens : List Token) (vs : List Verdict) (comments : List ℕ) → length bytes ≤ most_bytes → IsUtf8 bytes → AreTokens bytes tokens → tokens ≢ [] → AreVerdicts Clause (parts_of tokens (chunks_of tokens)) vs →
      AreComments bytes comments → IsRead bytes (kept_of vs) (docs_at bytes comments (starts_of (parts_of tokens (chunks_of tokens)) vs)) (faults_of vs)

-- the tree is that of the file with these bytes
abbrev pub IsFileTree : List ℕ → FileTree → Type 0
IsFileTree bytes tree = IsRead bytes tree.chunks tree.docs tree.faults

-- these are the faults of the form of the file with these bytes
abbrev pub HasFaults : List ℕ → List Fault → Type 0
HasFaults bytes faults = (tree : FileTree) × IsFileTree bytes tree × (tree.faults ≡ faults)
