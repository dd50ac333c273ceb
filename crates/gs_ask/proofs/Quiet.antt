-- Rules that neither note nor keep: their outcome is a value, or a name that is waited for.
use Rattle.std.proofs.Common.{◌≡◌, List, Option, Some, None, refl, ap, sym, ◌∙◌}
use Rattle.gs_ask.specs.Ask.{Lookup, Ask, done, note, keep, ask, ◌>>=◌, bind, Outcome, ready, wait, run_from, answered}

pub data Told (S A : Type 0) : Type 0 where
  told : A → Told S A
  stuck : S → Told S A

abbrev pub told_by : {S R A : Type 0} → S → (R → Told S A) → Option R → Told S A
told_by s go None = stuck s
told_by s go (Some r) = go r

unfoldable pub value : {S R N L A : Type 0} → Lookup S R → Ask S R N L A → Told S A
value m (done a) = told a
value m (note n t) = value m t
value m (keep k t) = value m t
value m (ask s c) = told_by s (λ r. value m (c r)) (m s)

abbrev pub andthen : {S A B : Type 0} → Told S A → (A → Told S B) → Told S B
andthen (told a) go = go a
andthen (stuck s) go = stuck s

pub value_bind : {S R N L A B : Type 0} (m : Lookup S R) (t : Ask S R N L A) (k : A → Ask S R N L B) → value m (t >>= k) ≡ andthen (value m t) (λ a. value m (k a))
unfolding bind value
value_bind m (done a) k = refl
value_bind m (note n t) k = value_bind m t k
value_bind m (keep l t) k = value_bind m t k
value_bind {S} {R} m (ask s c) k = told_then (m s) (λ r. value_bind m (c r) k) where
  told_then : (o : Option R) → ((r : R) → value m (c r >>= k) ≡ andthen (value m (c r)) (λ a. value m (k a)))
      → told_by s (λ r. value m (c r >>= k)) o ≡ andthen (told_by s (λ r. value m (c r)) o) (λ a. value m (k a))
  told_then None ih = refl
  told_then (Some r) ih = ih r

pub andthen_assoc : {S A B C : Type 0} (o : Told S A) (f : A → Told S B) (g : B → Told S C) → andthen (andthen o f) g ≡ andthen o (λ a. andthen (f a) g)
andthen_assoc (told a) f g = refl
andthen_assoc (stuck s) f g = refl

pub andthen_told : {S A : Type 0} (o : Told S A) → andthen o (λ a. told a) ≡ o
andthen_told (told a) = refl
andthen_told (stuck s) = refl

pub andthen_same : {S A B : Type 0} (o : Told S A) (f g : A → Told S B) → ((a : A) → f a ≡ g a) → andthen o f ≡ andthen o g
andthen_same o f g h = ap (λ k. andthen o k) (λ i a. h a i)

-- the rule neither notes nor keeps
abbrev pub Quiet : {S R N L A : Type 0} → Ask S R N L A → Type 0
Quiet (done a) = Unit {0}
Quiet (note n t) = ⊥
Quiet (keep k t) = ⊥
Quiet {S} {R} (ask s c) = (r : R) → Quiet (c r)

pub quiet_bind : {S R N L A B : Type 0} (t : Ask S R N L A) (k : A → Ask S R N L B) → Quiet t → ((a : A) → Quiet (k a)) → Quiet (t >>= k)
unfolding bind
quiet_bind (done a) k h go = go a
quiet_bind (note n t) k h go = absurd h
quiet_bind (keep l t) k h go = absurd h
quiet_bind (ask s c) k h go = λ r. quiet_bind (c r) k (h r) go

abbrev pub lifted : {S N L A : Type 0} → List N → List L → Told S A → Outcome S N L A
lifted ns ks (told a) = ready a ns ks
lifted ns ks (stuck s) = wait s

pub run_value : {S R N L A : Type 0} (m : Lookup S R) (ns : List N) (ks : List L) (t : Ask S R N L A) → Quiet t → run_from m ns ks t ≡ lifted ns ks (value m t)
unfolding run_from value
run_value m ns ks (done a) h = refl
run_value m ns ks (note n t) h = absurd h
run_value m ns ks (keep k t) h = absurd h
run_value {S} {R} m ns ks (ask s c) h = answered_lifted (m s) (λ r. run_value m ns ks (c r) (h r)) where
  answered_lifted : (o : Option R) → ((r : R) → run_from m ns ks (c r) ≡ lifted ns ks (value m (c r))) → answered s (λ r. run_from m ns ks (c r)) o ≡ lifted ns ks (told_by s (λ r. value m (c r)) o)
  answered_lifted None ih = refl
  answered_lifted (Some r) ih = ih r

-- two such rules of one value have one outcome
pub quiet_same : {S R N L A : Type 0} (m : Lookup S R) (ns : List N) (ks : List L) (t u : Ask S R N L A) → Quiet t → Quiet u → value m t ≡ value m u → run_from m ns ks t ≡ run_from m ns ks u
quiet_same m ns ks t u h i e = run_value m ns ks t h ∙ ap (lifted ns ks) e ∙ sym (run_value m ns ks u i)

-- what such a rule leaves is what was there
pub quiet_adds : {S R N L A : Type 0} (m : Lookup S R) (ns gs : List N) (ks ls : List L) (t : Ask S R N L A) (a : A) → Quiet t → run_from m ns ks t ≡ ready a gs ls → (gs ≡ ns) × (ls ≡ ks)
quiet_adds {S} {R} {N} {L} {A} m ns gs ks ls t a h e = by_value (value m t) (sym (run_value m ns ks t h) ∙ e) where
  by_value : (o : Told S A) → lifted ns ks o ≡ ready a gs ls → (gs ≡ ns) × (ls ≡ ks)
  by_value (told b) e = ((cc), (cc))
  by_value (stuck s) e = absurd (cc)
