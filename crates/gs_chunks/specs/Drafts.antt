-- What the code has of a file, chunk by chunk.
use Rattle.std.specs.Prelude.{◌≡◌, ℕ, List, ◌∷◌, [], ◌++◌, Option, None, Some}
use Rattle.gs_syntax.specs.declared.token.Token.{Token}
use Rattle.gs_grammar.specs.Grammar.{IsChunkAt}
use Rattle.gs_grammar.specs.declared.trees.Chunk.{Chunk}
use Rattle.gs_chunks.specs.declared.judge.Draft.{Draft}
use Rattle.gs_chunks.specs.declared.stage.Stage.{Stage}
use Rattle.gs_chunks.specs.declared.stage.Stage.TheVariants.{Clause}
use Rattle.gs_chunks.specs.Docs.{starts}
use Rattle.gs_chunks.specs.Verdicts.{Verdict, Kept, Dropped, IsVerdict, AreVerdicts, after, faults_of}

-- a chunk stands at the front, and this is kept of its tree
abbrev pub StandsFor : {T : Type 0} → (Chunk → Option T) → Option T → List Token → List Token → ℕ → Type 0
StandsFor keeps found s r d = (t : Chunk) × IsChunkAt t s r d × (found ≡ keeps t)

-- what is added for a chunk that is kept
abbrev pub trees_of : {T : Type 0} → Option T → List T
trees_of None = []
trees_of (Some t) = t ∷ []

abbrev pub starts_with_tree : {T : Type 0} → List Token → Option T → List ℕ
starts_with_tree ts None = []
starts_with_tree ts (Some t) = starts ts

-- what is there of the trees and the starts of the chunks that are kept
abbrev pub kept_for : {T : Type 0} → (Chunk → Option T) → List Verdict → List T
kept_for keeps [] = []
kept_for keeps (Kept t ∷ vs) = trees_of (keeps t) ++ kept_for keeps vs
kept_for keeps (Dropped faults ∷ vs) = kept_for keeps vs

abbrev pub starts_for : {T : Type 0} → (Chunk → Option T) → List (List Token) → List Verdict → List ℕ
starts_for keeps [] vs = []
starts_for keeps (ts ∷ parts) [] = []
starts_for keeps (ts ∷ parts) (Kept t ∷ vs) = starts_with_tree ts (keeps t) ++ starts_for keeps parts vs
starts_for keeps (ts ∷ parts) (Dropped faults ∷ vs) = starts_for keeps parts vs

-- the verdict on a chunk was added, and this comes behind it
pub record HasAdded {T : Type 0} (keeps : Chunk → Option T) (old new : Draft T) (stage next : Stage) (ts : List Token) (v : Verdict) : Type 0 where
  pub chunks : new.chunks.items ≡ old.chunks.items ++ kept_for keeps (v ∷ [])
  pub starts : new.starts.items ≡ old.starts.items ++ starts_for keeps (ts ∷ []) (v ∷ [])
  pub faults : new.faults.items ≡ old.faults.items ++ faults_of (v ∷ [])
  pub stages : next ≡ after stage v

-- a chunk was judged, and its verdict added
pub record HasJudged {T : Type 0} (keeps : Chunk → Option T) (old new : Draft T) (stage : Stage) (ts : List Token) (next : Stage) : Type 0 where
  pub verdict : Verdict
  pub right : IsVerdict stage ts verdict
  pub added : HasAdded keeps old new stage next ts verdict

-- there is one verdict for each of these chunks, and this is what they come to
pub record HasVerdicts {T : Type 0} (keeps : Chunk → Option T) (parts : List (List Token)) (draft : Draft T) : Type 0 where
  pub verdicts : List Verdict
  pub right : AreVerdicts Clause parts verdicts
  pub chunks : draft.chunks.items ≡ kept_for keeps verdicts
  pub starts : draft.starts.items ≡ starts_for keeps parts verdicts
  pub faults : draft.faults.items ≡ faults_of verdicts
