-- Rules that ask for names of a set alone.
use Rattle.std.proofs.Common.{◌≡◌, List, [], ◌∷◌, ◌++◌, Option, Some, None, refl, ap, ◌∙◌, subst}
use Rattle.gs_ask.specs.Ask.{Lookup, Ask, done, note, keep, ask, ◌>>=◌, bind, Outcome, ready, wait, run_from, answered, Never, Check, notes, checks, settle, settle_from, also_from}
use Rattle.gs_ask.specs.Lookups.{Agree}
use Rattle.gs_ask.specs.Stays.{Stays, Anything, CheckIn, ChecksIn, EachIn}

pub each_in-append : {S : Type 0} (K : S → Type 0) (xs ys : List S) → EachIn K xs → EachIn K ys → EachIn K (xs ++ ys)
each_in-append K [] ys h k = k
each_in-append K (x ∷ xs) ys h k = (h.0, each_in-append K xs ys h.1 k)

pub each_in-left : {S : Type 0} (K : S → Type 0) (xs ys : List S) → EachIn K (xs ++ ys) → EachIn K xs
each_in-left K [] ys h = tt
each_in-left K (x ∷ xs) ys h = (h.0, each_in-left K xs ys h.1)

pub each_in-right : {S : Type 0} (K : S → Type 0) (xs ys : List S) → EachIn K (xs ++ ys) → EachIn K ys
each_in-right K [] ys h = h
each_in-right K (x ∷ xs) ys h = each_in-right K xs ys h.1

pub each_in-map : {S : Type 0} (H G : S → Type 0) → ((s : S) → H s → G s) → (xs : List S) → EachIn H xs → EachIn G xs
each_in-map H G go [] h = tt
each_in-map H G go (x ∷ xs) h = (go x h.0, each_in-map H G go xs h.1)

module _ {S R : Type 0} (K : S → Type 0) (m : Lookup S R) where
  -- one rule, and another over its answer
  pub stays_bind : {N L A B : Type 0} (Q : L → Type 0) (P : A → Type 0) (T : B → Type 0) (t : Ask S R N L A) (k : A → Ask S R N L B)
      → Stays K m Q P t → ((a : A) → P a → Stays K m Q T (k a)) → Stays K m Q T (t >>= k)
  unfolding bind
  stays_bind Q P T (done a) k h go = go a h
  stays_bind Q P T (note n t) k h go = stays_bind Q P T t k h go
  stays_bind Q P T (keep l t) k h go = (h.0, stays_bind Q P T t k h.1 go)
  stays_bind Q P T (ask s c) k h go = (h.0, λ r e. stays_bind Q P T (c r) k (h.1 r e) go)

  -- the same rule with less said of its answer
  pub stays_map : {N L A : Type 0} (Q : L → Type 0) (P T : A → Type 0) → ((a : A) → P a → T a) → (t : Ask S R N L A) → Stays K m Q P t → Stays K m Q T t
  stays_map Q P T go (done a) h = go a h
  stays_map Q P T go (note n t) h = stays_map Q P T go t h
  stays_map Q P T go (keep k t) h = (h.0, stays_map Q P T go t h.1)
  stays_map Q P T go (ask s c) h = (h.0, λ r e. stays_map Q P T go (c r) (h.1 r e))

  pub stays_notes : {N L A : Type 0} (Q : L → Type 0) (P : A → Type 0) (ns : List N) (t : Ask S R N L A) → Stays K m Q P t → Stays K m Q P (notes ns t)
  stays_notes Q P [] t h = h
  stays_notes Q P (n ∷ ns) t h = stays_notes Q P ns t h

  stays_checks : {N : Type 0} (cs : List (Check S R N)) → ChecksIn K m cs → CheckIn K m (checks cs)
  stays_checks [] h = tt
  stays_checks (c ∷ cs) h = stays_bind Anything Anything Anything c (λ u. checks cs) h.0 (λ u hu. stays_checks cs h.1)

  checks_more : {N : Type 0} (cs : List (Check S R N)) (c : Check S R N) → ChecksIn K m cs → CheckIn K m c → ChecksIn K m (cs ++ c ∷ [])
  checks_more [] c h i = (i, tt)
  checks_more (d ∷ cs) c h i = (h.0, checks_more cs c h.1 i)

  settle_from_stays : {N A : Type 0} (P : A → Type 0) (cs : List (Check S R N)) (t : Ask S R N (Check S R N) A) → ChecksIn K m cs → Stays K m (CheckIn K m) P t
      → Stays K m (Anything {A = Never}) P (settle_from cs t)
  unfolding settle_from
  settle_from_stays P cs (done a) hs h = stays_bind Anything Anything P (checks cs) (λ u. done a) (stays_checks cs hs) (λ u hu. h)
  settle_from_stays P cs (note n t) hs h = settle_from_stays P cs t hs h
  settle_from_stays P cs (keep c t) hs h = settle_from_stays P (cs ++ c ∷ []) t (checks_more cs c hs h.0) h.1
  settle_from_stays P cs (ask s k) hs h = (h.0, λ r e. settle_from_stays P cs (k r) hs (h.1 r e))

  -- a rule with what it keeps
  pub stays_settle : {N A : Type 0} (P : A → Type 0) (t : Ask S R N (Check S R N) A) → Stays K m (CheckIn K m) P t → Stays K m (Anything {A = Never}) P (settle t)
  stays_settle P t h = settle_from_stays P [] t tt h

  pub stays_also : {N L A : Type 0} (Q : L → Type 0) (P : A → Type 0) (f : List N → List N) (ns : List N) (t : Ask S R N L A) → Stays K m Q P t → Stays K m Q P (also_from f ns t)
  unfolding also_from
  stays_also Q P f ns (done a) h = stays_notes Q P (f ns) (done a) h
  stays_also Q P f ns (note n t) h = stays_also Q P f (ns ++ n ∷ []) t h
  stays_also Q P f ns (keep k t) h = (h.0, stays_also Q P f ns t h.1)
  stays_also Q P f ns (ask s k) h = (h.0, λ r e. stays_also Q P f ns (k r) (h.1 r e))

  answered_same : {N L A : Type 0} (s : S) (f g : R → Outcome S N L A) (o : Option R) → ((r : R) → o ≡ Some r → f r ≡ g r) → answered s f o ≡ answered s g o
  answered_same s f g None h = refl
  answered_same s f g (Some r) h = h r refl

  -- a lookup that agrees on K gives the same
  pub stays_same : {N L A : Type 0} (Q : L → Type 0) (P : A → Type 0) (m' : Lookup S R) → Agree K m m' → (ns : List N) (ks : List L) (t : Ask S R N L A) → Stays K m Q P t
      → run_from m ns ks t ≡ run_from m' ns ks t
  unfolding run_from
  stays_same Q P m' g ns ks (done a) h = refl
  stays_same Q P m' g ns ks (note n t) h = stays_same Q P m' g (ns ++ n ∷ []) ks t h
  stays_same Q P m' g ns ks (keep k t) h = stays_same Q P m' g ns (ks ++ k ∷ []) t h.1
  stays_same Q P m' g ns ks (ask s k) h =
      answered_same s (λ r. run_from m ns ks (k r)) (λ r. run_from m' ns ks (k r)) (m s) (λ r e. stays_same Q P m' g ns ks (k r) (h.1 r e)) ∙ ap (answered s (λ r. run_from m' ns ks (k r))) (g.on s h.0)

  -- where it ends, its answer is P
  pub stays_ready : {N L A : Type 0} (Q : L → Type 0) (P : A → Type 0) (ns gs : List N) (ks ls : List L) (t : Ask S R N L A) (a : A) → Stays K m Q P t → run_from m ns ks t ≡ ready a gs ls → P a
  unfolding run_from
  stays_ready Q P ns gs ks ls (done b) a h e = let same : b ≡ a = (cc) in subst P same h
  stays_ready Q P ns gs ks ls (note n t) a h e = stays_ready Q P (ns ++ n ∷ []) gs ks ls t a h e
  stays_ready Q P ns gs ks ls (keep k t) a h e = stays_ready Q P ns gs (ks ++ k ∷ []) ls t a h.1 e
  stays_ready Q P ns gs ks ls (ask s k) a h e = by_reply (m s) (λ r e. stays_ready Q P ns gs ks ls (k r) a (h.1 r e)) e where
    by_reply : (o : Option R) → ((r : R) → o ≡ Some r → run_from m ns ks (k r) ≡ ready a gs ls → P a) → answered s (λ r. run_from m ns ks (k r)) o ≡ ready a gs ls → P a
    by_reply None go h = absurd (cc)
    by_reply (Some r) go h = go r refl h

  -- where it waits, it waits for a name of K
  pub stays_wait : {N L A : Type 0} (Q : L → Type 0) (P : A → Type 0) (ns : List N) (ks : List L) (t : Ask S R N L A) (y : S) → Stays K m Q P t → run_from m ns ks t ≡ wait y → K y
  unfolding run_from
  stays_wait Q P ns ks (done b) y h e = absurd (cc)
  stays_wait Q P ns ks (note n t) y h e = stays_wait Q P (ns ++ n ∷ []) ks t y h e
  stays_wait Q P ns ks (keep k t) y h e = stays_wait Q P ns (ks ++ k ∷ []) t y h.1 e
  stays_wait Q P ns ks (ask s k) y h e = by_reply (m s) (λ r e. stays_wait Q P ns ks (k r) y (h.1 r e)) e where
    by_reply : (o : Option R) → ((r : R) → o ≡ Some r → run_from m ns ks (k r) ≡ wait y → K y) → answered s (λ r. run_from m ns ks (k r)) o ≡ wait y → K y
    by_reply None go e = let at : s ≡ y = (cc) in subst K at h.0
    by_reply (Some r) go e = go r refl e
