-- Verdicts on chunks: what the code finds.
use Rattle.std.proofs.Common.{◌≡◌, ◌≢◌, ℕ, ◌<◌, ◌≤◌, true, false, List, [], ◌∷◌, ◌++◌, length, drop, arith, refl, sym, subst, ap, ◌∙◌, append-nil, ◌⊎◌, inl, inr, length-drop, length-append, Option}
use Rattle.gs_syntax.specs.declared.token.Token.{Token}
use Rattle.gs_grammar.specs.Grammar.{IsChunkAt}
use Rattle.gs_grammar.specs.declared.trees.Chunk.{Chunk}
use Rattle.gs_ends.specs.Answer.{IsTree, IsTooDeep, Lacks}
use Rattle.gs_chunks.specs.declared.stage.Stage.{Stage}
use Rattle.gs_chunks.specs.declared.judge.Draft.{Draft}
use Rattle.gs_chunks.specs.Docs.{starts}
use Rattle.gs_chunks.specs.Drafts.{HasAdded, HasJudged, StandsFor, kept_for, starts_for, starts_with_tree, trees_of}
use Rattle.gs_chunks.specs.Verdicts.{Fault, Kept, Dropped, IsDropped, at_first, bad_tokens, behind, first_class, may_stand, passed, takes, bad, misplaced}
use Rattle.gs_chunks.proofs.Classes.{class_first}

-- at a place one chunk stands at most
abbrev pub OneChunk : Type 0
OneChunk = (t u : Chunk) (s r v : List Token) (c d : ℕ) → IsChunkAt t s r c → IsChunkAt u s v d → (t ≡ u) × (r ≡ v) × (c ≡ d)

-- a tree that ends before the chunk does, or that may not stand here
abbrev pub IsUnfit : Stage → List Token → Chunk → ℕ → Type 0
IsUnfit stage ts t end = (end ≢ length ts) ⊎ (may_stand stage t ≡ false)

pub none_dropped : (stage : Stage) (ts : List Token) → bad_tokens ts ≡ [] → Lacks IsChunkAt ts 0 → IsDropped stage ts (at_first 1 ts)
none_dropped stage ts good lacks = misplaced good (λ h. lacks h.0 h.1 h.2 h.3) (λ t h k. lacks t [] h.0 h.1)

fits_not : (stage : Stage) (ts : List Token) (t u : Chunk) (end : ℕ) → end ≤ length ts → t ≡ u → drop end ts ≡ [] → may_stand stage u ≡ true → IsUnfit stage ts t end → ⊥
fits_not stage ts t u end within same ends stands (inl short) = short (let e = ap length ends in omega (arith, e, length-drop end ts))
fits_not stage ts t u end within same ends stands (inr unfit) = let e = ap (may_stand stage) same in absurd (cc)

pub unfit_dropped : OneChunk → (stage : Stage) (ts : List Token) (t : Chunk) (end : ℕ) → bad_tokens ts ≡ [] → IsTree IsChunkAt ts 0 t end → IsUnfit stage ts t end → IsDropped stage ts (at_first 1 ts)
unfit_dropped one stage ts t end good tree unfit = misplaced good
    (λ h. let same = (one t h.0 ts (drop end ts) h.1 tree.0 h.2 tree.1 h.3).2 in let shallow = tree.4 in let deep = h.4 in omega (arith, same, shallow, deep))
    (λ u k stands. let same = one t u ts (drop end ts) [] tree.0 k.0 tree.1 k.1 in fits_not stage ts t u end tree.3 same.0 same.1 stands unfit)

-- what stands at the front, where its tree may be there or not
pub look_deep : {T : Type 0} (keeps : Chunk → Option T) (ts : List Token) → IsTooDeep (StandsFor keeps) ts 0 → IsTooDeep IsChunkAt ts 0
look_deep keeps ts (found, r, d, stands, deep) = (stands.0, r, d, stands.1, deep)

pub deep_look : {T : Type 0} (keeps : Chunk → Option T) (ts : List Token) → IsTooDeep IsChunkAt ts 0 → IsTooDeep (StandsFor keeps) ts 0
deep_look keeps ts (t, r, d, stands, deep) = (keeps t, r, d, (t, stands, refl), deep)

pub look_lacks : {T : Type 0} (keeps : Chunk → Option T) (ts : List Token) → Lacks (StandsFor keeps) ts 0 → Lacks IsChunkAt ts 0
look_lacks keeps ts lacks t r d stands = lacks (keeps t) r d (t, stands, refl)

-- a tree, and where it ends
abbrev pub HasTree : List Token → ℕ → Type 0
HasTree ts end = (t : Chunk) × IsTree IsChunkAt ts 0 t end

pub look_tree : {T : Type 0} (keeps : Chunk → Option T) (ts : List Token) (found : Option T) (end : ℕ) → IsTree (StandsFor keeps) ts 0 found end → (tree : HasTree ts end) × (found ≡ keeps tree.0)
look_tree keeps ts found end (d, stands, from, within, shallow) = ((stands.0, (d, stands.1, from, within, shallow)), stands.2)

-- the verdict on a chunk that is dropped
pub judged_dropped : {T : Type 0} (keeps : Chunk → Option T) (old new : Draft T) (stage next : Stage) (ts : List Token) (faults : List Fault) → IsDropped stage ts faults → HasAdded keeps old new stage next ts (Dropped faults) → HasJudged keeps old new stage ts next
judged_dropped keeps old new stage next ts faults right added = record { verdict = Dropped faults; right = right; added = added }

-- an end that is unfit
pub unfit_end : OneChunk → (stage : Stage) (ts : List Token) (end : ℕ) → bad_tokens ts ≡ [] → HasTree ts end → (end ≢ length ts) ⊎ (takes stage (first_class ts) ≡ false) → IsDropped stage ts (at_first 1 ts)
unfit_end one stage ts end good (t, tree) (inl short) = unfit_dropped one stage ts t end good tree (inl short)
unfit_end one stage ts end good (t, tree) (inr unfit) = unfit_dropped one stage ts t end good tree (inr (ap (takes stage) (class_first tree.1) ∙ unfit))

drop-all : (ts : List Token) → drop (length ts) ts ≡ []
drop-all [] = refl
drop-all (t ∷ ts) = drop-all ts

-- the verdict on a chunk that is kept
kept_added : {T : Type 0} (keeps : Chunk → Option T) (t : Chunk) → trees_of (keeps t) ≡ kept_for keeps (Kept t ∷ [])
kept_added keeps t = sym (append-nil (trees_of (keeps t)))

starts_added : {T : Type 0} (keeps : Chunk → Option T) (ts : List Token) (t : Chunk) → starts_with_tree ts (keeps t) ≡ starts_for keeps (ts ∷ []) (Kept t ∷ [])
starts_added keeps ts t = sym (append-nil (starts_with_tree ts (keeps t)))

pub judged_kept : {T : Type 0} (keeps : Chunk → Option T) (old new : Draft T) (stage : Stage) (ts : List Token) (found : Option T) (end : ℕ) → bad_tokens ts ≡ [] → IsTree (StandsFor keeps) ts 0 found end → end ≡ length ts →
    takes stage (first_class ts) ≡ true → new.chunks.items ≡ old.chunks.items ++ trees_of found → new.starts.items ≡ old.starts.items ++ starts_with_tree ts found → new.faults.items ≡ old.faults.items →
    HasJudged keeps old new stage ts (behind stage (first_class ts))
judged_kept keeps old new stage ts found end good looked all fits chunks_new starts_new faults_new =
    let seen = look_tree keeps ts found end looked in
    let t = seen.0.0 in
    let tree = seen.0.1 in
    let class = class_first tree.1 in
    record {
      verdict = Kept seen.0.0;
      right = record {
        good = good;
        tree = (tree.0, subst (λ r. IsChunkAt seen.0.0 ts r tree.0) (ap (λ n. drop n ts) all ∙ drop-all ts) tree.1, tree.4);
        stands = ap (takes stage) class ∙ fits;
      };
      added = record {
        chunks = chunks_new ∙ ap (λ o. old.chunks.items ++ trees_of o) seen.1 ∙ ap (λ l. old.chunks.items ++ l) (kept_added keeps seen.0.0);
        starts = starts_new ∙ ap (λ o. old.starts.items ++ starts_with_tree ts o) seen.1 ∙ ap (λ l. old.starts.items ++ l) (starts_added keeps ts seen.0.0);
        faults = faults_new ∙ sym (append-nil old.faults.items);
        stages = ap (behind stage) (sym class);
      };
    }

-- nothing is added
same_items : {A : Type 0} (old new more : List A) → new ≡ old → more ≡ [] → new ≡ old ++ more
same_items old new more same none = same ∙ sym (append-nil old) ∙ ap (λ l. old ++ l) (sym none)

some_bad : (ts : List Token) (xs ys : List Fault) → ys ≡ xs ++ bad_tokens ts → length xs < length ys → bad_tokens ts ≢ []
some_bad ts xs ys e more none = let size = ap length e ∙ length-append xs (bad_tokens ts) in let small = ap length none in omega (arith, size, small)

pub bad_judged : {T : Type 0} (keeps : Chunk → Option T) (old new : Draft T) (stage next : Stage) (ts : List Token) → new.chunks.items ≡ old.chunks.items → new.starts.items ≡ old.starts.items →
    new.faults.items ≡ old.faults.items ++ bad_tokens ts → length old.faults.items < length new.faults.items → next ≡ passed stage → HasJudged keeps old new stage ts next
bad_judged keeps old new stage next ts chunks_same starts_same e more n = record {
  verdict = Dropped (bad_tokens ts);
  right = bad (some_bad ts old.faults.items new.faults.items e more);
  added = record {
    chunks = same_items old.chunks.items new.chunks.items (kept_for keeps (Dropped (bad_tokens ts) ∷ [])) chunks_same refl;
    starts = same_items old.starts.items new.starts.items (starts_for keeps (ts ∷ []) (Dropped (bad_tokens ts) ∷ [])) starts_same refl;
    faults = e ∙ sym (ap (λ l. old.faults.items ++ l) (append-nil (bad_tokens ts)));
    stages = n;
  };
}
