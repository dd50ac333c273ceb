-- The form in which every rule of typing is written. A rule asks for the descriptions of names, notes faults and uses,
-- keeps what is to be checked later, and ends with its answer. It is a tree, and knows no source.
use Rattle.std.specs.Prelude.{ℕ, List, [], ◌∷◌, ◌++◌, drop, Option, Some, None}

-- S: the names that are asked for. R: what is said of one. N: notes. L: what is kept. A: the answer.
pub data Ask (S R N L A : Type 0) : Type 0 where
  done : A → Ask S R N L A
  note : N → Ask S R N L A → Ask S R N L A
  keep : L → Ask S R N L A → Ask S R N L A
  ask : S → (R → Ask S R N L A) → Ask S R N L A

-- the answer with the notes and what is kept, or the name that is waited for
pub data Outcome (S N L A : Type 0) : Type 0 where
  ready : A → List N → List L → Outcome S N L A
  wait : S → Outcome S N L A

-- What is said of each name; None where the name isn't described yet.
abbrev pub Lookup : Type 0 → Type 0 → Type 0
Lookup S R = S → Option R

abbrev pub answered : {S R N L A : Type 0} → S → (R → Outcome S N L A) → Option R → Outcome S N L A
answered s go None = wait s
answered s go (Some r) = go r

-- the outcome of a rule, where these notes were made and these things kept before
unfoldable pub run_from : {S R N L A : Type 0} → Lookup S R → List N → List L → Ask S R N L A → Outcome S N L A
run_from m ns ks (done a) = ready a ns ks
run_from m ns ks (note n t) = run_from m (ns ++ n ∷ []) ks t
run_from m ns ks (keep k t) = run_from m ns (ks ++ k ∷ []) t
run_from m ns ks (ask s c) = answered s (λ r. run_from m ns ks (c r)) (m s)

-- the outcome of a rule alone
abbrev pub run : {S R N L A : Type 0} → Lookup S R → Ask S R N L A → Outcome S N L A
run m t = run_from m [] [] t

-- one rule, and then another over its answer
unfoldable pub bind : {S R N L A B : Type 0} → Ask S R N L A → (A → Ask S R N L B) → Ask S R N L B
bind (done a) k = k a
bind (note n t) k = note n (bind t k)
bind (keep l t) k = keep l (bind t k)
bind (ask s c) k = ask s (λ r. bind (c r) k)

infixl 20 ◌>>=◌
abbrev pub ◌>>=◌ : {S R N L A B : Type 0} → Ask S R N L A → (A → Ask S R N L B) → Ask S R N L B
t >>= k = bind t k

-- the outcome of what stands behind a rule
abbrev pub next : {S N L A B : Type 0} → Outcome S N L A → (A → List N → List L → Outcome S N L B) → Outcome S N L B
next (ready a ns ks) go = go a ns ks
next (wait s) go = wait s

-- notes, one after another
abbrev pub notes : {S R N L A : Type 0} → List N → Ask S R N L A → Ask S R N L A
notes [] t = t
notes (n ∷ ns) t = note n (notes ns t)

pub data Never : Type 0 where

-- A check has no answer and keeps nothing: what is kept for later is a check.
abbrev pub Check : Type 0 → Type 0 → Type 0 → Type 0
Check S R N = Ask S R N Never (Unit {0})

-- checks, one after another
abbrev pub checks : {S R N : Type 0} → List (Check S R N) → Check S R N
checks [] = done tt
checks (c ∷ cs) = c >>= (λ u. checks cs)

-- the rule, with what it keeps checked as soon as its answer is there, behind checks that wait already
unfoldable pub settle_from : {S R N A : Type 0} → List (Check S R N) → Ask S R N (Check S R N) A → Ask S R N Never A
settle_from cs (done a) = checks cs >>= (λ u. done a)
settle_from cs (note n t) = note n (settle_from cs t)
settle_from cs (keep c t) = settle_from (cs ++ c ∷ []) t
settle_from cs (ask s k) = ask s (λ r. settle_from cs (k r))

-- the rule, and then what it keeps
abbrev pub settle : {S R N A : Type 0} → Ask S R N (Check S R N) A → Ask S R N Never A
settle = settle_from []

-- the outcome of what a rule kept, behind the rule's own
abbrev pub settled : {S R N A : Type 0} → Lookup S R → Outcome S N (Check S R N) A → Outcome S N Never A
settled m (ready a ns cs) = run_from m ns [] (checks cs >>= (λ u. done a))
settled m (wait s) = wait s

-- the rule, and behind its notes those that they lead to, where the rule has made these notes already
unfoldable pub also_from : {S R N L A : Type 0} → (List N → List N) → List N → Ask S R N L A → Ask S R N L A
also_from f ns (done a) = notes (f ns) (done a)
also_from f ns (note n t) = note n (also_from f (ns ++ n ∷ []) t)
also_from f ns (keep k t) = keep k (also_from f ns t)
also_from f ns (ask s k) = ask s (λ r. also_from f ns (k r))

-- the rule, and behind its notes those that they lead to
abbrev pub also : {S R N L A : Type 0} → (List N → List N) → Ask S R N L A → Ask S R N L A
also f = also_from f []

-- the outcome with the notes that those from the k-th on lead to behind them
abbrev pub ended : {S N L A : Type 0} → (List N → List N) → ℕ → Outcome S N L A → Outcome S N L A
ended f k (ready a ns ks) = ready a (ns ++ f (drop k ns)) ks
ended f k (wait s) = wait s
