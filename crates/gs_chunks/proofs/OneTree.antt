-- A file has one tree.
use Rattle.std.proofs.Common.{◌≡◌, ℕ, List, [], ◌∷◌, arith, sym, refl, ap, ◌∙◌, subst}
use Rattle.gs_syntax.specs.declared.token.Token.{Token}
use Rattle.gs_syntax.specs.Chunks.{chunks_of}
use Rattle.gs_syntax.specs.Tokens.{AreTokens}
use Rattle.gs_grammar.specs.declared.trees.Chunk.{Chunk}
use Rattle.gs_chunks.specs.declared.stage.Stage.{Stage}
use Rattle.gs_chunks.specs.declared.stage.Stage.TheVariants.{Clause}
use Rattle.gs_scan.specs.Comments.{AreComments}
use Rattle.gs_chunks.specs.Docs.{docs_at}
use Rattle.gs_chunks.specs.Files.{IsRead, too_long, not_text, empty, judged, starts_of}
use Rattle.gs_chunks.specs.Verdicts.{Fault, Verdict, Kept, Dropped, IsKept, IsDropped, IsVerdict, AreVerdicts, after, bad, deep, misplaced, faults_of, kept_of, parts_of}
use Rattle.gs_chunks.proofs.Verdicts.{OneChunk}

-- a text has one list of tokens at most
abbrev pub OneList : Type 0
OneList = (text : List ℕ) (ts us : List Token) → AreTokens text ts → AreTokens text us → ts ≡ us

-- and one list of comments
abbrev pub OneComments : Type 0
OneComments = (text : List ℕ) (a b : List ℕ) → AreComments text a → AreComments text b → a ≡ b

module _ (one : OneChunk) where
  not_both : (stage : Stage) (ts : List Token) (t : Chunk) (fs : List Fault) → IsKept stage ts t → IsDropped stage ts fs → ⊥
  not_both stage ts t fs k (bad some) = some k.good
  not_both stage ts t fs k (deep good h) =
      let same = (one t h.0 ts [] h.1 k.tree.0 h.2 k.tree.1 h.3).2 in let shallow = k.tree.2 in let far = h.4 in omega (arith, same, shallow, far)
  not_both stage ts t fs k (misplaced good shallow none) = none t k.tree k.stands

  dropped_same : (stage : Stage) (ts : List Token) (fs gs : List Fault) → IsDropped stage ts fs → IsDropped stage ts gs → fs ≡ gs
  dropped_same stage ts fs gs (bad some) (bad more) = refl
  dropped_same stage ts fs gs (bad some) (deep good h) = absurd (some good)
  dropped_same stage ts fs gs (bad some) (misplaced good shallow none) = absurd (some good)
  dropped_same stage ts fs gs (deep good h) (bad some) = absurd (some good)
  dropped_same stage ts fs gs (deep good h) (deep well k) = refl
  dropped_same stage ts fs gs (deep good h) (misplaced well shallow none) = absurd (shallow h)
  dropped_same stage ts fs gs (misplaced good shallow none) (bad some) = absurd (some good)
  dropped_same stage ts fs gs (misplaced good shallow none) (deep well h) = absurd (shallow h)
  dropped_same stage ts fs gs (misplaced good shallow none) (misplaced well low nothing) = refl

  verdict_same : (stage : Stage) (ts : List Token) (v w : Verdict) → IsVerdict stage ts v → IsVerdict stage ts w → v ≡ w
  verdict_same stage ts (Kept t) (Kept u) h k = ap Kept (one t u ts [] [] h.tree.0 k.tree.0 h.tree.1 k.tree.1).0
  verdict_same stage ts (Kept t) (Dropped fs) h k = absurd (not_both stage ts t fs h k)
  verdict_same stage ts (Dropped fs) (Kept t) h k = absurd (not_both stage ts t fs k h)
  verdict_same stage ts (Dropped fs) (Dropped gs) h k = ap Dropped (dropped_same stage ts fs gs h k)

  verdicts_same : (stage : Stage) (parts : List (List Token)) (vs ws : List Verdict) → AreVerdicts stage parts vs → AreVerdicts stage parts ws → vs ≡ ws
  verdicts_same stage [] [] [] h k = refl
  verdicts_same stage [] [] (w ∷ ws) h k = absurd k
  verdicts_same stage [] (v ∷ vs) ws h k = absurd h
  verdicts_same stage (ts ∷ parts) [] ws h k = absurd h
  verdicts_same stage (ts ∷ parts) (v ∷ vs) [] h k = absurd k
  verdicts_same stage (ts ∷ parts) (v ∷ vs) (w ∷ ws) h k =
      let first = verdict_same stage ts v w h.0 k.0 in
      let rest = verdicts_same (after stage v) parts vs ws h.1 (subst (λ x. AreVerdicts (after stage x) parts ws) (sym first) k.1) in
      λ i. first i ∷ rest i

  pub reading_same : OneList → OneComments → (bytes : List ℕ) (cs ds : List Chunk) (ms ns : List (ℕ × List ℕ)) (fs gs : List Fault) → IsRead bytes cs ms fs → IsRead bytes ds ns gs → (cs ≡ ds) × (ms ≡ ns) × (fs ≡ gs)
  reading_same list comments bytes cs ds ms ns fs gs (too_long m) (too_long n) = (refl, refl, refl)
  reading_same list comments bytes cs ds ms ns fs gs (too_long m) (not_text n v) = absurd (omega arith)
  reading_same list comments bytes cs ds ms ns fs gs (too_long m) (empty n v b) = absurd (omega arith)
  reading_same list comments bytes cs ds ms ns fs gs (too_long m) (judged others ws ps n v b z k d) = absurd (omega arith)
  reading_same list comments bytes cs ds ms ns fs gs (not_text m w) (too_long n) = absurd (omega arith)
  reading_same list comments bytes cs ds ms ns fs gs (not_text m w) (not_text n v) = (refl, refl, refl)
  reading_same list comments bytes cs ds ms ns fs gs (not_text m w) (empty n v b) = absurd (w v)
  reading_same list comments bytes cs ds ms ns fs gs (not_text m w) (judged others ws ps n v b z k d) = absurd (w v)
  reading_same list comments bytes cs ds ms ns fs gs (empty m u a) (too_long n) = absurd (omega arith)
  reading_same list comments bytes cs ds ms ns fs gs (empty m u a) (not_text n v) = absurd (v u)
  reading_same list comments bytes cs ds ms ns fs gs (empty m u a) (empty n v b) = (refl, refl, refl)
  reading_same list comments bytes cs ds ms ns fs gs (empty m u a) (judged others ws ps n v b z k d) = absurd (z (list bytes others [] b a))
  reading_same list comments bytes cs ds ms ns fs gs (judged tokens vs os m u a s h c) (too_long n) = absurd (omega arith)
  reading_same list comments bytes cs ds ms ns fs gs (judged tokens vs os m u a s h c) (not_text n v) = absurd (v u)
  reading_same list comments bytes cs ds ms ns fs gs (judged tokens vs os m u a s h c) (empty n v b) = absurd (s (list bytes tokens [] a b))
  reading_same list comments bytes cs ds ms ns fs gs (judged tokens vs os m u a s h c) (judged others ws ps n v b z k d) =
      let same = list bytes others tokens b a in
      let all = verdicts_same Clause (parts_of tokens (chunks_of tokens)) vs ws h (subst (λ ts. AreVerdicts Clause (parts_of ts (chunks_of ts)) ws) same k) in
      let said = comments bytes os ps c d in
      let begin = ap (starts_of (parts_of tokens (chunks_of tokens))) all ∙ ap (λ ts. starts_of (parts_of ts (chunks_of ts)) ws) (sym same) in
      (ap kept_of all, ap (λ l. docs_at bytes l (starts_of (parts_of tokens (chunks_of tokens)) vs)) said ∙ ap (docs_at bytes ps) begin, ap faults_of all)
