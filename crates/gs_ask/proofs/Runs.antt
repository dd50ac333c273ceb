-- What the outcome of a rule is.
use Rattle.std.proofs.Common.{◌≡◌, List, [], ◌∷◌, ◌++◌, Option, Some, None, refl, ap, sym, ◌∙◌, append_assoc, append-nil, drop, length}
use Rattle.gs_ask.specs.Ask.{Lookup, Ask, done, note, keep, ask, ◌>>=◌, bind, Outcome, ready, wait, run_from, answered, next, Check, notes, settle_from, settled, also, also_from, ended}
use Rattle.gs_ask.specs.Lookups.{Refines, Compatible}

-- one rule after another
pub run_bind : {S R N L A B : Type 0} (m : Lookup S R) (ns : List N) (ks : List L) (t : Ask S R N L A) (k : A → Ask S R N L B)
    → run_from m ns ks (t >>= k) ≡ next (run_from m ns ks t) (λ a gs ls. run_from m gs ls (k a))
unfolding bind run_from
run_bind m ns ks (done a) k = refl
run_bind m ns ks (note n t) k = run_bind m (ns ++ n ∷ []) ks t k
run_bind m ns ks (keep l t) k = run_bind m ns (ks ++ l ∷ []) t k
run_bind {S} {R} {N} {L} {A} {B} m ns ks (ask s c) k = answered_next (m s) (λ r. run_bind m ns ks (c r) k) where
  answered_next : (o : Option R) → ((r : R) → run_from m ns ks (c r >>= k) ≡ next (run_from m ns ks (c r)) (λ a (gs : List N) (ls : List L). run_from m gs ls (k a)))
      → answered s (λ r. run_from m ns ks (c r >>= k)) o ≡ next (answered s (λ r. run_from m ns ks (c r)) o) (λ a (gs : List N) (ls : List L). run_from m gs ls (k a))
  answered_next None ih = refl
  answered_next (Some r) ih = ih r

-- a rule that ended, and then the rest
pub run_ready : {S R N L A B : Type 0} (m : Lookup S R) (ns : List N) (ks : List L) (t : Ask S R N L A) (k : A → Ask S R N L B) (a : A) (gs : List N) (ls : List L)
    → run_from m ns ks t ≡ ready a gs ls → run_from m ns ks (t >>= k) ≡ run_from m gs ls (k a)
run_ready {S} {R} {N} {L} m ns ks t k a gs ls h = run_bind m ns ks t k ∙ ap (λ o. next o (λ a (gs : List N) (ls : List L). run_from m gs ls (k a))) h

-- a rule that waits
pub run_wait : {S R N L A B : Type 0} (m : Lookup S R) (ns : List N) (ks : List L) (t : Ask S R N L A) (k : A → Ask S R N L B) (s : S)
    → run_from m ns ks t ≡ wait s → run_from m ns ks (t >>= k) ≡ wait s
run_wait {S} {R} {N} {L} m ns ks t k s h = run_bind m ns ks t k ∙ ap (λ o. next o (λ a (gs : List N) (ls : List L). run_from m gs ls (k a))) h

-- ---- what lookups say

-- an answer stays where more names are described
pub run_refines : {S R N L A : Type 0} (m m' : Lookup S R) → Refines m m' → (ns gs : List N) (ks ls : List L) (t : Ask S R N L A) (a : A)
    → run_from m ns ks t ≡ ready a gs ls → run_from m' ns ks t ≡ ready a gs ls
unfolding run_from
run_refines m m' more ns gs ks ls (done b) a h = h
run_refines m m' more ns gs ks ls (note n t) a h = run_refines m m' more (ns ++ n ∷ []) gs ks ls t a h
run_refines m m' more ns gs ks ls (keep k t) a h = run_refines m m' more ns gs (ks ++ k ∷ []) ls t a h
run_refines {S} {R} m m' more ns gs ks ls (ask s k) a h = by_reply (m s) (more.on s) (λ r. run_refines m m' more ns gs ks ls (k r) a) h where
  by_reply : (o : Option R) → ((r : R) → o ≡ Some r → m' s ≡ Some r) → ((r : R) → run_from m ns ks (k r) ≡ ready a gs ls → run_from m' ns ks (k r) ≡ ready a gs ls)
      → answered s (λ r. run_from m ns ks (k r)) o ≡ ready a gs ls → answered s (λ r. run_from m' ns ks (k r)) (m' s) ≡ ready a gs ls
  by_reply None up ih h = absurd (cc)
  by_reply (Some r) up ih h = ap (answered s (λ r. run_from m' ns ks (k r))) (up r refl) ∙ ih r h

-- Where one run stops at a name and a run by a compatible lookup ends, the name is described there.
pub run_needs : {S R N L A : Type 0} (m m' : Lookup S R) → Compatible m m' → (ns ns' gs : List N) (ks ks' ls : List L) (t : Ask S R N L A) (y : S) (a : A)
    → run_from m ns ks t ≡ wait y → run_from m' ns' ks' t ≡ ready a gs ls → (r : R) × (m' y ≡ Some r)
unfolding run_from
run_needs m m' same ns ns' gs ks ks' ls (done b) y a h h' = absurd (cc)
run_needs m m' same ns ns' gs ks ks' ls (note n t) y a h h' = run_needs m m' same (ns ++ n ∷ []) (ns' ++ n ∷ []) gs ks ks' ls t y a h h'
run_needs m m' same ns ns' gs ks ks' ls (keep k t) y a h h' = run_needs m m' same ns ns' gs (ks ++ k ∷ []) (ks' ++ k ∷ []) ls t y a h h'
run_needs {S} {R} m m' same ns ns' gs ks ks' ls (ask s k) y a h h' = by_replies (m s) (m' s) refl (same.on s) (λ r. run_needs m m' same ns ns' gs ks ks' ls (k r) y a) h h' where
  by_replies : (o o' : Option R) → m' s ≡ o' → ((r r' : R) → o ≡ Some r → o' ≡ Some r' → r ≡ r')
      → ((r : R) → run_from m ns ks (k r) ≡ wait y → run_from m' ns' ks' (k r) ≡ ready a gs ls → (q : R) × (m' y ≡ Some q))
      → answered s (λ r. run_from m ns ks (k r)) o ≡ wait y → answered s (λ r. run_from m' ns' ks' (k r)) o' ≡ ready a gs ls → (q : R) × (m' y ≡ Some q)
  by_replies None None e agree ih h h' = absurd (cc)
  by_replies None (Some r) e agree ih h h' = let at : s ≡ y = (cc) in (r, ap m' (sym at) ∙ e)
  by_replies (Some r) None e agree ih h h' = absurd (cc)
  by_replies (Some r) (Some r') e agree ih h h' = ih r h (ap (λ q. run_from m' ns' ks' (k q)) (agree r r' refl refl) ∙ h')

-- what a rule waits for isn't described
pub run_wait_none : {S R N L A : Type 0} (m : Lookup S R) (ns : List N) (ks : List L) (t : Ask S R N L A) (y : S) → run_from m ns ks t ≡ wait y → m y ≡ None
unfolding run_from
run_wait_none m ns ks (done a) y h = absurd (cc)
run_wait_none m ns ks (note n t) y h = run_wait_none m (ns ++ n ∷ []) ks t y h
run_wait_none m ns ks (keep k t) y h = run_wait_none m ns (ks ++ k ∷ []) t y h
run_wait_none {S} {R} m ns ks (ask s k) y h = by_reply (m s) refl (λ r. run_wait_none m ns ks (k r) y) h where
  by_reply : (o : Option R) → m s ≡ o → ((r : R) → run_from m ns ks (k r) ≡ wait y → m y ≡ None) → answered s (λ r. run_from m ns ks (k r)) o ≡ wait y → m y ≡ None
  by_reply None e go h = let at : s ≡ y = (cc) in ap m (sym at) ∙ e
  by_reply (Some r) e go h = go r h

-- ---- notes and what is kept

-- what was noted before stands before
abbrev pub noted_before : {S N L A : Type 0} → List N → Outcome S N L A → Outcome S N L A
noted_before ns (ready a gs ls) = ready a (ns ++ gs) ls
noted_before ns (wait s) = wait s

pub run_noted : {S R N L A : Type 0} (m : Lookup S R) (ns gs : List N) (ks : List L) (t : Ask S R N L A) → run_from m (ns ++ gs) ks t ≡ noted_before ns (run_from m gs ks t)
unfolding run_from
run_noted m ns gs ks (done a) = refl
run_noted {S} {R} {N} m ns gs ks (note n t) = ap (λ (l : List N). run_from m l ks t) (append_assoc ns gs (n ∷ [])) ∙ run_noted m ns (gs ++ n ∷ []) ks t
run_noted m ns gs ks (keep k t) = run_noted m ns gs (ks ++ k ∷ []) t
run_noted {S} {R} m ns gs ks (ask s c) = answered_noted (m s) (λ r. run_noted m ns gs ks (c r)) where
  answered_noted : (o : Option R) → ((r : R) → run_from m (ns ++ gs) ks (c r) ≡ noted_before ns (run_from m gs ks (c r)))
      → answered s (λ r. run_from m (ns ++ gs) ks (c r)) o ≡ noted_before ns (answered s (λ r. run_from m gs ks (c r)) o)
  answered_noted None ih = refl
  answered_noted (Some r) ih = ih r

-- what was kept before stands before
abbrev pub kept_before : {S N L A : Type 0} → List L → Outcome S N L A → Outcome S N L A
kept_before ks (ready a ns ls) = ready a ns (ks ++ ls)
kept_before ks (wait s) = wait s

pub run_kept : {S R N L A : Type 0} (m : Lookup S R) (ns : List N) (ks ls : List L) (t : Ask S R N L A) → run_from m ns (ks ++ ls) t ≡ kept_before ks (run_from m ns ls t)
unfolding run_from
run_kept m ns ks ls (done a) = refl
run_kept m ns ks ls (note n t) = run_kept m (ns ++ n ∷ []) ks ls t
run_kept {S} {R} {N} {L} m ns ks ls (keep k t) = ap (λ (l : List L). run_from m ns l t) (append_assoc ks ls (k ∷ [])) ∙ run_kept m ns ks (ls ++ k ∷ []) t
run_kept {S} {R} m ns ks ls (ask s c) = answered_kept (m s) (λ r. run_kept m ns ks ls (c r)) where
  answered_kept : (o : Option R) → ((r : R) → run_from m ns (ks ++ ls) (c r) ≡ kept_before ks (run_from m ns ls (c r)))
      → answered s (λ r. run_from m ns (ks ++ ls) (c r)) o ≡ kept_before ks (answered s (λ r. run_from m ns ls (c r)) o)
  answered_kept None ih = refl
  answered_kept (Some r) ih = ih r

pub run_notes : {S R N L A : Type 0} (m : Lookup S R) (ns : List N) (ks : List L) (new : List N) (t : Ask S R N L A) → run_from m ns ks (notes new t) ≡ run_from m (ns ++ new) ks t
unfolding run_from
run_notes {S} {R} {N} m ns ks [] t = ap (λ (l : List N). run_from m l ks t) (sym (append-nil ns))
run_notes {S} {R} {N} m ns ks (n ∷ new) t = run_notes m (ns ++ n ∷ []) ks new t ∙ ap (λ (l : List N). run_from m l ks t) (append_assoc ns (n ∷ []) new)

pub run_settle_from : {S R N A : Type 0} (m : Lookup S R) (ns : List N) (cs : List (Check S R N)) (t : Ask S R N (Check S R N) A)
    → run_from m ns [] (settle_from cs t) ≡ settled m (run_from m ns cs t)
unfolding settle_from run_from
run_settle_from m ns cs (done a) = refl
run_settle_from m ns cs (note n t) = run_settle_from m (ns ++ n ∷ []) cs t
run_settle_from m ns cs (keep c t) = run_settle_from m ns (cs ++ c ∷ []) t
run_settle_from {S} {R} m ns cs (ask s k) = answered_settled (m s) (λ r. run_settle_from m ns cs (k r)) where
  answered_settled : (o : Option R) → ((r : R) → run_from m ns [] (settle_from cs (k r)) ≡ settled m (run_from m ns cs (k r)))
      → answered s (λ r. run_from m ns [] (settle_from cs (k r))) o ≡ settled m (answered s (λ r. run_from m ns cs (k r)) o)
  answered_settled None ih = refl
  answered_settled (Some r) ih = ih r

drop_front : {N : Type 0} (ns seen : List N) → drop (length ns) (ns ++ seen) ≡ seen
drop_front [] seen = refl
drop_front (n ∷ ns) seen = drop_front ns seen

pub run_also : {S R N L A : Type 0} (m : Lookup S R) (f : List N → List N) (ns seen : List N) (ks : List L) (t : Ask S R N L A)
    → run_from m (ns ++ seen) ks (also_from f seen t) ≡ ended f (length ns) (run_from m (ns ++ seen) ks t)
unfolding also_from run_from
run_also {S} {R} {N} m f ns seen ks (done a) =
    run_notes m (ns ++ seen) ks (f seen) (done a) ∙ ap (λ (l : List N). ready a ((ns ++ seen) ++ f l) ks) (sym (drop_front ns seen))
run_also {S} {R} {N} m f ns seen ks (note n t) =
    let one : (ns ++ seen) ++ n ∷ [] ≡ ns ++ (seen ++ n ∷ []) = append_assoc ns seen (n ∷ []) in
    ap (λ (l : List N). run_from m l ks (also_from f (seen ++ n ∷ []) t)) one ∙ run_also m f ns (seen ++ n ∷ []) ks t ∙ ap (λ (l : List N). ended f (length ns) (run_from m l ks t)) (sym one)
run_also m f ns seen ks (keep k t) = run_also m f ns seen (ks ++ k ∷ []) t
run_also {S} {R} m f ns seen ks (ask s c) = answered_ended (m s) (λ r. run_also m f ns seen ks (c r)) where
  answered_ended : (o : Option R) → ((r : R) → run_from m (ns ++ seen) ks (also_from f seen (c r)) ≡ ended f (length ns) (run_from m (ns ++ seen) ks (c r)))
      → answered s (λ r. run_from m (ns ++ seen) ks (also_from f seen (c r))) o ≡ ended f (length ns) (answered s (λ r. run_from m (ns ++ seen) ks (c r)) o)
  answered_ended None ih = refl
  answered_ended (Some r) ih = ih r

-- a rule alone, with what its notes lead to
pub run_also_all : {S R N L A : Type 0} (m : Lookup S R) (f : List N → List N) (ns : List N) (ks : List L) (t : Ask S R N L A)
    → run_from m ns ks (also f t) ≡ ended f (length ns) (run_from m ns ks t)
run_also_all {S} {R} {N} m f ns ks t =
    let same : ns ++ [] ≡ ns = append-nil ns in
    ap (λ (l : List N). run_from m l ks (also f t)) (sym same) ∙ run_also m f ns [] ks t ∙ ap (λ (l : List N). ended f (length ns) (run_from m l ks t)) same

-- what was noted and kept before stands before what a rule adds
pub run_before : {S R N L A : Type 0} (m : Lookup S R) (ns : List N) (ks : List L) (t : Ask S R N L A)
    → run_from m ns ks t ≡ next (run_from m [] [] t) (λ a gs ls. ready a (ns ++ gs) (ks ++ ls))
run_before {S} {R} {N} {L} {A} m ns ks t =
    ap (λ (l : List L). run_from m ns l t) (sym (append-nil ks)) ∙ run_kept m ns ks [] t
    ∙ ap (λ (l : List N). kept_before ks (run_from m l [] t)) (sym (append-nil ns)) ∙ ap (kept_before ks) (run_noted m ns [] [] t)
    ∙ both (run_from m [] [] t) where
      both : (o : Outcome S N L A) → kept_before ks (noted_before ns o) ≡ next o (λ a gs ls. ready a (ns ++ gs) (ks ++ ls))
      both (ready a gs ls) = refl
      both (wait s) = refl
