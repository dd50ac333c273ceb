-- The verdicts so far, and those on the rest.
use Rattle.std.proofs.Common.{◌≡◌, ◌≢◌, ℕ, zero, suc, ◌+◌, ◌<◌, ◌≤◌, ◌==◌, true, false, get_or, arith, add-one, List, [], ◌∷◌, ◌++◌, length, drop, sym, refl, ap, ◌∙◌, subst, append_assoc, append-nil, Result, Ok, Err, IfOk, Option}
use Rattle.std.proofs.Math.Seq.{drop-cons}
use Rattle.std.proofs.lemmas.Bool.Decides.{nat_tests}
use Rattle.std.specs.Str.{IsUtf8}
use Rattle.gs_syntax.specs.declared.token.Token.{Token}
use Rattle.gs_syntax.specs.Chunks.{chunks_of}
use Rattle.gs_syntax.specs.Tokens.{AreTokens}
use Rattle.gs_grammar.specs.declared.trees.Chunk.{Chunk}
use Rattle.gs_grammar.specs.declared.trees.FileTree.{FileTree}
use Rattle.gs_chunks.specs.declared.stage.Stage.{Stage}
use Rattle.gs_chunks.specs.declared.stage.Stage.TheVariants.{Clause}
use Rattle.gs_chunks.specs.declared.judge.Draft.{Draft}
use Rattle.gs_chunks.specs.Docs.{docs_at, starts}
use Rattle.gs_chunks.specs.Drafts.{HasJudged, HasVerdicts, kept_for, starts_for, starts_with_tree, trees_of}
use Rattle.gs_scan.specs.Comments.{AreComments}
use Rattle.gs_chunks.specs.Files.{IsRead, IsFileTree, HasFaults, judged, most_bytes, starts_of}
use Rattle.gs_chunks.specs.Verdicts.{Fault, Verdict, Kept, Dropped, AreVerdicts, at_first, faults_of, kept_of, part_of, parts_of}

pub ok_then : {A E : Type 0} (P Q : A → Type 0) (r : Result A E) → IfOk r P → ((a : A) → P a → Q a) → IfOk r Q
ok_then P Q (Ok a) h f = f a h
ok_then P Q (Err e) h f = tt

-- whatever is said of the chunks from a place on, what is said of all of them ends with it
abbrev pub Leads : {T : Type 0} → (Chunk → Option T) → List (List Token) → List (List Token) → Stage → List T → List ℕ → List Fault → Type 0
Leads keeps parts rest stage chunks starts faults = (vs : List Verdict) → AreVerdicts stage rest vs →
    (all : List Verdict) × AreVerdicts Clause parts all × (chunks ++ kept_for keeps vs ≡ kept_for keeps all) × (starts ++ starts_for keeps rest vs ≡ starts_for keeps parts all) × (faults ++ faults_of vs ≡ faults_of all)

pub leads_first : {T : Type 0} (keeps : Chunk → Option T) (parts : List (List Token)) (chunks : List T) (starts : List ℕ) (faults : List Fault) → chunks ≡ [] → starts ≡ [] → faults ≡ [] → Leads keeps parts parts Clause chunks starts faults
leads_first keeps parts chunks starts faults c s f vs are =
    (vs, are, ap (λ l. l ++ kept_for keeps vs) c, ap (λ l. l ++ starts_for keeps parts vs) s, ap (λ l. l ++ faults_of vs) f)

kept-cons : {T : Type 0} (keeps : Chunk → Option T) (v : Verdict) (vs : List Verdict) → kept_for keeps (v ∷ vs) ≡ kept_for keeps (v ∷ []) ++ kept_for keeps vs
kept-cons keeps (Kept t) vs = ap (λ l. l ++ kept_for keeps vs) (sym (append-nil (trees_of (keeps t))))
kept-cons keeps (Dropped fs) vs = refl

starts-cons : {T : Type 0} (keeps : Chunk → Option T) (part : List Token) (rest : List (List Token)) (v : Verdict) (vs : List Verdict) →
    starts_for keeps (part ∷ rest) (v ∷ vs) ≡ starts_for keeps (part ∷ []) (v ∷ []) ++ starts_for keeps rest vs
starts-cons keeps part rest (Kept t) vs = ap (λ l. l ++ starts_for keeps rest vs) (sym (append-nil (starts_with_tree part (keeps t))))
starts-cons keeps part rest (Dropped fs) vs = refl

faults-cons : (v : Verdict) (vs : List Verdict) → faults_of (v ∷ vs) ≡ faults_of (v ∷ []) ++ faults_of vs
faults-cons (Kept t) vs = refl
faults-cons (Dropped fs) vs = ap (λ l. l ++ faults_of vs) (sym (append-nil fs))

-- what is added to the front of the rest is added to the end of what stands so far
moved : {A : Type 0} (old new more one rest all : List A) → new ≡ old ++ one → more ≡ one ++ rest → old ++ more ≡ all → new ++ rest ≡ all
moved old new more one rest all e m h = ap (λ l. l ++ rest) e ∙ append_assoc old one rest ∙ ap (λ l. old ++ l) (sym m) ∙ h

pub leads_more : {T : Type 0} (keeps : Chunk → Option T) (parts : List (List Token)) (part : List Token) (rest : List (List Token)) (old new : Draft T) (stage next : Stage) →
    HasJudged keeps old new stage part next → Leads keeps parts (part ∷ rest) stage old.chunks.items old.starts.items old.faults.items → Leads keeps parts rest next new.chunks.items new.starts.items new.faults.items
leads_more keeps parts part rest old new stage next h leads vs are =
    let v = h.verdict in
    let all = leads (v ∷ vs) (h.right, subst (λ s. AreVerdicts s rest vs) h.added.stages are) in (
      all.0,
      all.1,
      moved old.chunks.items new.chunks.items (kept_for keeps (v ∷ vs)) (kept_for keeps (v ∷ [])) (kept_for keeps vs) (kept_for keeps all.0) h.added.chunks (kept-cons keeps v vs) all.2,
      moved old.starts.items new.starts.items (starts_for keeps (part ∷ rest) (v ∷ vs)) (starts_for keeps (part ∷ []) (v ∷ [])) (starts_for keeps rest vs) (starts_for keeps parts all.0) h.added.starts
          (starts-cons keeps part rest v vs) all.3,
      moved old.faults.items new.faults.items (faults_of (v ∷ vs)) (faults_of (v ∷ [])) (faults_of vs) (faults_of all.0) h.added.faults (faults-cons v vs) all.4,
    )

-- what is said of no chunks adds nothing
ended : {A : Type 0} (so_far more all : List A) → more ≡ [] → so_far ++ more ≡ all → so_far ≡ all
ended so_far more all none e = sym (append-nil so_far) ∙ ap (λ l. so_far ++ l) (sym none) ∙ e

pub leads_all : {T : Type 0} (keeps : Chunk → Option T) (parts : List (List Token)) (stage : Stage) (draft : Draft T) → Leads keeps parts [] stage draft.chunks.items draft.starts.items draft.faults.items → HasVerdicts keeps parts draft
leads_all keeps parts stage draft leads =
    let all = leads [] tt in
    record {
      verdicts = all.0;
      right = all.1;
      chunks = ended draft.chunks.items (kept_for keeps []) (kept_for keeps all.0) refl all.2;
      starts = ended draft.starts.items (starts_for keeps [] []) (starts_for keeps parts all.0) refl all.3;
      faults = ended draft.faults.items [] (faults_of all.0) refl all.4;
    }

pub front_at : (tokens : List Token) (places : List (ℕ × ℕ)) (i : ℕ) (part : List Token) → i < length places → part ≡ part_of tokens (get_or places i (0, 0)) →
    parts_of tokens (drop i places) ≡ part ∷ parts_of tokens (drop (i + 1) places)
front_at tokens places i part h e =
    let first : drop i places ≡ get_or places i (0, 0) ∷ drop (i + 1) places = rw (add-one, drop-cons places i (0, 0)) in
    ap (parts_of tokens) first ∙ ap (λ x. x ∷ parts_of tokens (drop (i + 1) places)) (sym e)

drop_end : (places : List (ℕ × ℕ)) (i : ℕ) → length places ≤ i → drop i places ≡ []
drop_end [] zero h = refl
drop_end [] (suc i) h = refl
drop_end (p ∷ ps) zero h = absurd (omega arith)
drop_end (p ∷ ps) (suc i) h = drop_end ps i (omega arith)

pub none_left : (tokens : List Token) (places : List (ℕ × ℕ)) (i : ℕ) → length places ≤ i → parts_of tokens (drop i places) ≡ []
none_left tokens places i h = ap (parts_of tokens) (drop_end places i h)

pub no_items : (ts : List Token) → true ≡ (length ts == 0) → ts ≡ []
no_items [] h = refl
no_items (t ∷ ts) h = absurd (grind (arith, nat_tests, h))

pub some_items : (ts : List Token) → (length ts == 0) ≡ false → ts ≢ []
some_items ts h none = let e = ap (λ l. length l == 0) none in absurd (cc)

-- ---- The whole file

abbrev tree_of : List Chunk → List (ℕ × List ℕ) → List Fault → FileTree
tree_of chunks docs faults = record { chunks = chunks; docs = docs; faults = faults }

pub read_faults : (bytes : List ℕ) (chunks : List Chunk) (docs : List (ℕ × List ℕ)) (faults : List Fault) → IsRead bytes chunks docs faults → HasFaults bytes faults
read_faults bytes chunks docs faults h = (tree_of chunks docs faults, h, refl)

pub faults_alone : (bytes : List ℕ) (code : ℕ) (faults : List Fault) → IsRead bytes [] [] (at_first code []) → faults ≡ at_first code [] → HasFaults bytes faults
faults_alone bytes code faults h e = read_faults bytes [] [] faults (subst (IsRead bytes [] []) (sym e) h)

pub file_faults : {T : Type 0} (keeps : Chunk → Option T) (text : List ℕ) (tokens : List Token) (draft : Draft T) → length text ≤ most_bytes → IsUtf8 text → AreTokens text tokens → (length tokens == 0) ≡ false →
    ((comments : List ℕ) × AreComments text comments) → HasVerdicts keeps (parts_of tokens (chunks_of tokens)) draft → HasFaults text draft.faults.items
file_faults keeps text tokens draft small utf8 are some comments h =
    let docs = docs_at text comments.0 (starts_of (parts_of tokens (chunks_of tokens)) h.verdicts) in
    let read = judged tokens h.verdicts comments.0 small utf8 are (some_items tokens some) h.right comments.1 in
    read_faults text (kept_of h.verdicts) docs draft.faults.items (subst (IsRead text (kept_of h.verdicts) docs) (sym h.faults) read)
