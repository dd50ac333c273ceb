-- The tree of a file, out of what is kept of its chunks.
use Rattle.std.proofs.Common.{◌≡◌, ℕ, ◌≤◌, ◌==◌, false, List, [], ◌∷◌, ◌++◌, length, sym, refl, ap, ◌∙◌, subst, Option, Some}
use Rattle.std.specs.Str.{IsUtf8}
use Rattle.gs_syntax.specs.declared.token.Token.{Token}
use Rattle.gs_syntax.specs.Chunks.{chunks_of}
use Rattle.gs_syntax.specs.Tokens.{AreTokens}
use Rattle.gs_grammar.specs.declared.trees.Chunk.{Chunk}
use Rattle.gs_grammar.specs.declared.trees.FileTree.{FileTree}
use Rattle.gs_scan.specs.Comments.{AreComments}
use Rattle.gs_chunks.specs.declared.judge.Draft.{Draft}
use Rattle.gs_chunks.specs.Docs.{docs_at, starts}
use Rattle.gs_chunks.specs.Drafts.{HasVerdicts, kept_for, starts_for}
use Rattle.gs_chunks.specs.Files.{IsRead, IsFileTree, judged, most_bytes, starts_of}
use Rattle.gs_chunks.specs.Verdicts.{Verdict, Kept, Dropped, at_first, faults_of, kept_of, parts_of}
use Rattle.gs_chunks.proofs.Judging.{some_items}
use Rattle.gs_parse.specs.Alone.{IsAlone}

-- the whole tree is kept
abbrev pub whole_tree : Chunk → Option Chunk
whole_tree t = Some t

trees_kept : (vs : List Verdict) → kept_for whole_tree vs ≡ kept_of vs
trees_kept [] = refl
trees_kept (Kept t ∷ vs) = ap (λ l. t ∷ l) (trees_kept vs)
trees_kept (Dropped faults ∷ vs) = trees_kept vs

pub starts_kept : (parts : List (List Token)) (vs : List Verdict) → starts_for whole_tree parts vs ≡ starts_of parts vs
starts_kept [] vs = refl
starts_kept (ts ∷ parts) [] = refl
starts_kept (ts ∷ parts) (Kept t ∷ vs) = ap (λ l. starts ts ++ l) (starts_kept parts vs)
starts_kept (ts ∷ parts) (Dropped faults ∷ vs) = starts_kept parts vs

pub tree_alone : (bytes : List ℕ) (code : ℕ) (tree : FileTree) → IsRead bytes [] [] (at_first code []) → IsAlone code tree → IsFileTree bytes tree
tree_alone bytes code tree h alone =
    subst (λ l. IsRead bytes l tree.docs tree.faults) (sym alone.chunks) (subst (λ l. IsRead bytes [] l tree.faults) (sym alone.docs) (subst (IsRead bytes [] []) (sym alone.faults) h))

pub file_tree : (text : List ℕ) (tokens : List Token) (comments : List ℕ) (draft : Draft Chunk) (tree : FileTree) → length text ≤ most_bytes → IsUtf8 text → AreTokens text tokens → (length tokens == 0) ≡ false →
    AreComments text comments → HasVerdicts whole_tree (parts_of tokens (chunks_of tokens)) draft → tree.chunks ≡ draft.chunks.items → tree.docs ≡ docs_at text comments draft.starts.items → tree.faults ≡ draft.faults.items →
    IsFileTree text tree
file_tree text tokens comments draft tree small utf8 are some told h c d f =
    let docs = docs_at text comments (starts_of (parts_of tokens (chunks_of tokens)) h.verdicts) in
    let read = judged tokens h.verdicts comments small utf8 are (some_items tokens some) h.right told in
    subst (λ l. IsRead text l tree.docs tree.faults) (sym (c ∙ h.chunks ∙ trees_kept h.verdicts))
    (
    subst (λ l. IsRead text (kept_of h.verdicts) l tree.faults) (sym (d ∙ ap (docs_at text comments) (h.starts ∙ starts_kept (parts_of tokens (chunks_of tokens)) h.verdicts)))
    (subst (IsRead text (kept_of h.verdicts) docs) (sym (f ∙ h.faults)) read)
    )
