-- Typing calls one after another.
use Rattle.std.proofs.Common.{◌≡◌, List, [], ◌∷◌, ◌++◌, ap, sym, ◌∙◌, subst, append-nil, drop, length, Result, Ok, Err}
use Rattle.gs_terms.specs.declared.symbol.Symbol.{Symbol}
use Rattle.gs_ask.specs.Ask.{Lookup, Ask, done, keep, also, ◌>>=◌, Outcome, ready, wait, run_from, Never, Check, settle, settled, checks, ended}
use Rattle.gs_ask.specs.Gives.{Gives}
use Rattle.gs_ask.specs.declared.importer.Stop.{Stop}
use Rattle.gs_ask.specs.declared.importer.Stop.TheVariants.{Unready, NoMemory}
use Rattle.gs_ask.proofs.Runs.{run_ready, run_wait, run_settle_from, run_kept, kept_before, run_also_all}

-- The first call ended, and the second answers.
pub gives_then : {R N L A B : Type 0} (m m' : Lookup Symbol R) (ns : List N) (ks : List L) (t : Ask Symbol R N L A) (k : A → Ask Symbol R N L B) (a : A) (gs : List N) (ls : List L) (gs' : List N) (ls' : List L) (r : Result B Stop)
    → Gives (run_from m ns ks t) gs ls (Ok a) → m' ≡ m → Gives (run_from m' gs ls (k a)) gs' ls' r → Gives (run_from m ns ks (t >>= k)) gs' ls' r
unfolding Gives
gives_then {R} {N} {L} {A} {B} m m' ns ks t k a gs ls gs' ls' r h e go =
    let P : Outcome Symbol N L B → Type 0 = λ o. Gives o gs' ls' r in
    subst P (ap (λ (l : Lookup Symbol R). run_from l gs ls (k a)) e ∙ sym (run_ready m ns ks t k a gs ls h)) go

-- The first call stopped.
pub gives_stop : {R N L A B : Type 0} (m : Lookup Symbol R) (ns : List N) (ks : List L) (t : Ask Symbol R N L A) (k : A → Ask Symbol R N L B) (e : Stop) (gs : List N) (ls : List L) (gs' : List N) (ls' : List L)
    → Gives (run_from m ns ks t) gs ls (Err e) → Gives (run_from m ns ks (t >>= k)) gs' ls' (Err e)
unfolding Gives
gives_stop m ns ks t k (Unready s) gs ls gs' ls' h = run_wait m ns ks t k s h
gives_stop m ns ks t k NoMemory gs ls gs' ls' h = tt

-- The first call ended, and the rest makes a value.
pub gives_done : {R N L A B : Type 0} (m : Lookup Symbol R) (ns : List N) (ks : List L) (t : Ask Symbol R N L A) (f : A → B) (a : A) (gs : List N) (ls : List L)
    → Gives (run_from m ns ks t) gs ls (Ok a) → Gives (run_from m ns ks (t >>= (λ x. done (f x)))) gs ls (Ok (f a))
unfolding Gives run_from
gives_done m ns ks t f a gs ls h = run_ready m ns ks t (λ x. done (f x)) a gs ls h

-- Of want of memory nothing is said.
pub gives_no_memory : {N L A : Type 0} (o : Outcome Symbol N L A) (gs : List N) (ls : List L) → Gives o gs ls (Err NoMemory)
unfolding Gives
gives_no_memory o gs ls = tt

-- A call that keeps nothing may stand behind others.
pub gives_leaf : {R N L A : Type 0} (m : Lookup Symbol R) (ns : List N) (ks : List L) (t : Ask Symbol R N L A) (gs : List N) (r : Result A Stop)
    → Gives (run_from m ns [] t) gs [] r → Gives (run_from m ns ks t) gs ks r
unfolding Gives
gives_leaf {R} {N} {L} m ns ks t gs (Ok a) h =
    ap (λ (l : List L). run_from m ns l t) (sym (append-nil ks)) ∙ run_kept m ns ks [] t ∙ ap (kept_before ks) h ∙ ap (λ (l : List L). ready a gs l) (append-nil ks)
gives_leaf {R} {N} {L} m ns ks t gs (Err (Unready s)) h = ap (λ (l : List L). run_from m ns l t) (sym (append-nil ks)) ∙ run_kept m ns ks [] t ∙ ap (kept_before ks) h
gives_leaf m ns ks t gs (Err NoMemory) h = tt

-- Something is kept for later.
pub gives_keep : {R N L A : Type 0} (m : Lookup Symbol R) (ns : List N) (old new : List L) (c : L) (a : A) → new ≡ old ++ c ∷ [] → Gives (run_from m ns old (keep c (let t : Ask Symbol R N L A = done a in t))) ns new (Ok a)
unfolding Gives run_from
gives_keep {R} {N} {L} m ns old new c a e = ap (λ (l : List L). ready a ns l) (sym e)

-- A call ended, and then what it kept is checked.
pub gives_settle : {R N A : Type 0} (m m' : Lookup Symbol R) (ns : List N) (t : Ask Symbol R N (Check Symbol R N) A) (a : A) (gs : List N) (cs : List (Check Symbol R N)) (gs' : List N) (u : Unit {0})
    → Gives (run_from m ns [] t) gs cs (Ok a) → m' ≡ m → Gives (run_from m' gs [] (checks cs)) gs' [] (Ok u) → Gives (run_from m ns [] (settle t)) gs' [] (Ok a)
unfolding Gives run_from
gives_settle {R} m m' ns t a gs cs gs' u h e go =
    run_settle_from m ns [] t ∙ ap (settled m) h ∙ run_ready m gs [] (checks cs) (λ u. done a) u gs' [] (ap (λ (l : Lookup Symbol R). run_from l gs [] (checks cs)) (sym e) ∙ go)

-- What was kept stopped.
pub gives_settle_err : {R N A : Type 0} (m m' : Lookup Symbol R) (ns : List N) (t : Ask Symbol R N (Check Symbol R N) A) (a : A) (gs : List N) (cs : List (Check Symbol R N)) (gs' gs'' : List N) (e : Stop)
    → Gives (run_from m ns [] t) gs cs (Ok a) → m' ≡ m → Gives (run_from m' gs [] (checks cs)) gs' [] (Err e) → Gives (run_from m ns [] (settle t)) gs'' [] (Err e)
unfolding Gives run_from
gives_settle_err {R} m m' ns t a gs cs gs' gs'' (Unready s) h e go =
    run_settle_from m ns [] t ∙ ap (settled m) h ∙ run_wait m gs [] (checks cs) (λ u. done a) s (ap (λ (l : Lookup Symbol R). run_from l gs [] (checks cs)) (sym e) ∙ go)
gives_settle_err m m' ns t a gs cs gs' gs'' NoMemory h e go = tt

-- The call stopped before anything it kept is checked.
pub gives_settle_stop : {R N A : Type 0} (m : Lookup Symbol R) (ns : List N) (t : Ask Symbol R N (Check Symbol R N) A) (e : Stop) (gs : List N) (cs : List (Check Symbol R N)) (gs' : List N)
    → Gives (run_from m ns [] t) gs cs (Err e) → Gives (run_from m ns [] (settle t)) gs' [] (Err e)
unfolding Gives
gives_settle_stop m ns t (Unready s) gs cs gs' h = run_settle_from m ns [] t ∙ ap (settled m) h
gives_settle_stop m ns t NoMemory gs cs gs' h = tt

-- A call without an answer ended, and then what it kept.
pub gives_settle_unit : {R N : Type 0} (m m' : Lookup Symbol R) (ns : List N) (t : Ask Symbol R N (Check Symbol R N) (Unit {0})) (a : Unit {0}) (gs : List N) (cs : List (Check Symbol R N)) (gs' : List N) (r : Result (Unit {0}) Stop)
    → Gives (run_from m ns [] t) gs cs (Ok a) → m' ≡ m → Gives (run_from m' gs [] (checks cs)) gs' [] r → Gives (run_from m ns [] (settle t)) gs' [] r
gives_settle_unit m m' ns t a gs cs gs' (Ok u) h e go = gives_settle m m' ns t a gs cs gs' u h e go
gives_settle_unit m m' ns t a gs cs gs' (Err e) h same go = gives_settle_err m m' ns t a gs cs gs' gs' e h same go

-- The call, or what it kept, stopped, and the rest isn't reached.
pub settled_stop : {R N A B : Type 0} (m : Lookup Symbol R) (ns : List N) (t : Ask Symbol R N (Check Symbol R N) A) (k : A → Ask Symbol R N Never B) (e : Stop) (gs : List N) (cs : List (Check Symbol R N)) (gs' : List N)
    → Gives (run_from m ns [] t) gs cs (Err e) → Gives (run_from m ns [] (settle t >>= k)) gs' [] (Err e)
settled_stop m ns t k e gs cs gs' h = gives_stop m ns [] (settle t) k e gs' [] gs' [] (gives_settle_stop m ns t e gs cs gs' h)

pub settled_err : {R N A B : Type 0} (m m' : Lookup Symbol R) (ns : List N) (t : Ask Symbol R N (Check Symbol R N) A) (k : A → Ask Symbol R N Never B) (a : A) (gs : List N) (cs : List (Check Symbol R N)) (gs' gs'' : List N) (e : Stop)
    → Gives (run_from m ns [] t) gs cs (Ok a) → m' ≡ m → Gives (run_from m' gs [] (checks cs)) gs' [] (Err e) → Gives (run_from m ns [] (settle t >>= k)) gs'' [] (Err e)
settled_err m m' ns t k a gs cs gs' gs'' e h same go = gives_stop m ns [] (settle t) k e gs'' [] gs'' [] (gives_settle_err m m' ns t a gs cs gs' gs'' e h same go)

-- A call ended, and what its notes lead to is added.
pub gives_also : {R N A : Type 0} (m : Lookup Symbol R) (f : List N → List N) (ns : List N) (t : Ask Symbol R N Never A) (a : A) (gs all : List N)
    → Gives (run_from m ns [] t) gs [] (Ok a) → all ≡ gs ++ f (drop (length ns) gs) → Gives (run_from m ns [] (also f t)) all [] (Ok a)
unfolding Gives
gives_also {R} {N} m f ns t a gs all h e = run_also_all m f ns [] t ∙ ap (ended f (length ns)) h ∙ ap (λ (l : List N). ready a l []) (sym e)

pub also_stop : {R N A : Type 0} (m : Lookup Symbol R) (f : List N → List N) (ns : List N) (t : Ask Symbol R N Never A) (e : Stop) (gs gs' : List N)
    → Gives (run_from m ns [] t) gs [] (Err e) → Gives (run_from m ns [] (also f t)) gs' [] (Err e)
unfolding Gives
also_stop m f ns t (Unready s) gs gs' h = run_also_all m f ns [] t ∙ ap (ended f (length ns)) h
also_stop m f ns t NoMemory gs gs' h = tt

-- A rule has one outcome, so a call has one answer.
pub gives_one : {N L A : Type 0} (o : Outcome Symbol N L A) (gs gs' : List N) (ls ls' : List L) (a b : A)
    → Gives o gs ls (Ok a) → Gives o gs' ls' (Ok b) → (a ≡ b) × (gs ≡ gs') × (ls ≡ ls')
unfolding Gives
gives_one {N} {L} {A} o gs gs' ls ls' a b h h' =
    let same : one_ready a gs ls ≡ one_ready b gs' ls' = sym h ∙ h' in
    let e : a ≡ b = (cc) in let e' : gs ≡ gs' = (cc) in let e'' : ls ≡ ls' = (cc) in (e, e', e'') where
      one_ready : A → List N → List L → Outcome Symbol N L A
      one_ready x ns ks = ready x ns ks

pub gives_ends_or_waits : {N L A : Type 0} (o : Outcome Symbol N L A) (gs gs' : List N) (ls ls' : List L) (a : A) (s : Symbol)
    → Gives o gs ls (Ok a) → Gives o gs' ls' (Err (Unready s)) → ⊥
unfolding Gives
gives_ends_or_waits {N} {L} {A} o gs gs' ls ls' a s h h' =
    let same : one_ready a gs ls ≡ one_wait s = sym h ∙ h' in (cc) where
      one_ready : A → List N → List L → Outcome Symbol N L A
      one_ready x ns ks = ready x ns ks

      one_wait : Symbol → Outcome Symbol N L A
      one_wait y = wait y

pub gives_one_wait : {N L A : Type 0} (o : Outcome Symbol N L A) (gs gs' : List N) (ls ls' : List L) (s y : Symbol)
    → Gives o gs ls (Err (Unready s)) → Gives o gs' ls' (Err (Unready y)) → s ≡ y
unfolding Gives
gives_one_wait {N} {L} {A} o gs gs' ls ls' s y h h' =
    let same : one_wait s ≡ one_wait y = sym h ∙ h' in (cc) where
      one_wait : Symbol → Outcome Symbol N L A
      one_wait x = wait x
