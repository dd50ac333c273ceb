-- What holds of all rules, of descriptions by depth, and of whole source maps. A set of names is a list of them.
use Rattle.std.specs.Prelude.{◌≡◌, ℕ, ◌+◌, List, [], ◌++◌, length, Some, None, Contains, true, Result, Ok, Err}
use Rattle.gs_ask.specs.Ask.{Ask, Outcome, ready, wait, Lookup, run_from, next, ◌>>=◌, Never, Check, checks, settle, settled, also, ended}
use Rattle.gs_ask.specs.Lookups.{Refines, Compatible, Agree}
use Rattle.gs_ask.specs.Stays.{Stays, Anything, CheckIn}
use Rattle.gs_ask.specs.Depth.{Package, described_at, StandsFor, IsAlike}
use Rattle.gs_ask.specs.Ranks.{Ranked, IsSameWorld}
use Rattle.gs_ask.specs.Gives.{Gives}
use Rattle.gs_ask.specs.declared.importer.Stop.{Stop}
use Rattle.gs_ask.specs.declared.importer.Stop.TheVariants.{Unready}
use Rattle.gs_terms.specs.declared.symbol.Symbol.{Symbol}

-- ---- one rule

-- A rule that ended ends in the same way where more names are described.
abbrev pub AnswerRemains : (S R N L A : Type 0) → Type 0
AnswerRemains S R N L A =
    (m m' : Lookup S R) → Refines m m' → (ns gs : List N) (ks ls : List L) (t : Ask S R N L A) (a : A)
    → run_from m ns ks t ≡ ready a gs ls → run_from m' ns ks t ≡ ready a gs ls

-- Where a rule waits for a name, and ends with another lookup that says nothing different, that lookup describes the name.
abbrev pub WaitedIsNeeded : (S R N L A : Type 0) → Type 0
WaitedIsNeeded S R N L A =
    (m m' : Lookup S R) → Compatible m m' → (ns ns' gs : List N) (ks ks' ls : List L) (t : Ask S R N L A) (y : S) (a : A)
    → run_from m ns ks t ≡ wait y → run_from m' ns' ks' t ≡ ready a gs ls → (r : R) × (m' y ≡ Some r)

-- What a rule waits for isn't described.
abbrev pub WaitedIsNone : (S R N L A : Type 0) → Type 0
WaitedIsNone S R N L A =
    (m : Lookup S R) (ns : List N) (ks : List L) (t : Ask S R N L A) (y : S) → run_from m ns ks t ≡ wait y → m y ≡ None

-- What was noted and kept before a rule stands before what it adds, and changes nothing else.
abbrev pub EarlierStandsBefore : (S R N L A : Type 0) → Type 0
EarlierStandsBefore S R N L A =
    (m : Lookup S R) (ns : List N) (ks : List L) (t : Ask S R N L A)
    → run_from m ns ks t ≡ next (run_from m [] [] t) (λ a gs ls. ready a (ns ++ gs) (ks ++ ls))

-- A rule reads a lookup at the names that it asks for alone: lookups that agree on a set which has these give it the same outcome.
abbrev pub ReadsWhatItAsks : (S R N L A : Type 0) → Type 0
ReadsWhatItAsks S R N L A =
    (K : List S) (m m' : Lookup S R) → Agree (Contains K) m m' → (ns : List N) (ks : List L) (t : Ask S R N L A)
    → Stays (Contains K) m Anything Anything t → run_from m ns ks t ≡ run_from m' ns ks t

-- Where a rule waits, it waits for a name of that set.
abbrev pub WaitsWhereItAsks : (S R N L A : Type 0) → Type 0
WaitsWhereItAsks S R N L A =
    (K : List S) (m : Lookup S R) (ns : List N) (ks : List L) (t : Ask S R N L A) (y : S)
    → Stays (Contains K) m Anything Anything t → run_from m ns ks t ≡ wait y → Contains K y

-- ---- two rules

-- A rule and another over its answer: the second goes on where the first ended, and what the first waits for is waited for.
abbrev pub OneAfterAnother : (S R N L A B : Type 0) → Type 0
OneAfterAnother S R N L A B =
    (m : Lookup S R) (ns : List N) (ks : List L) (t : Ask S R N L A) (k : A → Ask S R N L B)
    → run_from m ns ks (t >>= k) ≡ next (run_from m ns ks t) (λ a gs ls. run_from m gs ls (k a))

-- Where both ask for names of a set alone, so do they one after the other.
abbrev pub BothAskAlike : (S R N L A B : Type 0) → Type 0
BothAskAlike S R N L A B =
    (K : List S) (m : Lookup S R) (t : Ask S R N L A) (k : A → Ask S R N L B)
    → Stays (Contains K) m Anything Anything t → ((a : A) → Stays (Contains K) m Anything Anything (k a)) → Stays (Contains K) m Anything Anything (t >>= k)

-- ---- what is kept

-- What a rule kept is checked behind the rule's own notes, in the order in which it was kept, and the rule's answer stays.
abbrev pub KeptIsChecked : (S R N A : Type 0) → Type 0
KeptIsChecked S R N A =
    (m : Lookup S R) (ns : List N) (t : Ask S R N (Check S R N) A) → run_from m ns [] (settle t) ≡ settled m (run_from m ns [] t)

-- A rule that asks for names of a set alone, and keeps only checks that do, still does once these are settled.
abbrev pub KeptAsksAlike : (S R N A : Type 0) → Type 0
KeptAsksAlike S R N A =
    (K : List S) (m : Lookup S R) (t : Ask S R N (Check S R N) A)
    → Stays (Contains K) m (CheckIn (Contains K) m) Anything t → Stays (Contains K) m (Anything {A = Never}) Anything (settle t)

-- What the notes of a rule lead to stands behind them, and earlier notes lead to nothing more.
abbrev pub NotesLeadOn : (S R N L A : Type 0) → Type 0
NotesLeadOn S R N L A =
    (m : Lookup S R) (f : List N → List N) (ns : List N) (ks : List L) (t : Ask S R N L A)
    → run_from m ns ks (also f t) ≡ ended f (length ns) (run_from m ns ks t)

-- ---- calls, which answer what rules come to

-- A call has one answer, but for want of memory.
pub record HasOneAnswer (N L A : Type 0) (o : Outcome Symbol N L A) (gs gs' : List N) (ls ls' : List L) : Type 0 where
  pub ends : (a b : A) → Gives o gs ls (Ok a) → Gives o gs' ls' (Ok b) → (a ≡ b) × (gs ≡ gs') × (ls ≡ ls')
  pub waits : (s y : Symbol) → Gives {A = A} o gs ls (Err (Unready s)) → Gives {A = A} o gs' ls' (Err (Unready y)) → s ≡ y
  pub not_both : (a : A) (s : Symbol) → Gives o gs ls (Ok a) → Gives {A = A} o gs' ls' (Err (Unready s)) → ⊥

abbrev pub OneAnswer : (N L A : Type 0) → Type 0
OneAnswer N L A = (o : Outcome Symbol N L A) (gs gs' : List N) (ls ls' : List L) → HasOneAnswer N L A o gs gs' ls ls'

-- Where a call ended, and left the lookup as it was, the next goes on: both together answer what the one rule after the other
-- comes to. Where the first stopped, that is the answer.
pub record GoesOn (R N L A B : Type 0) (m m' : Lookup Symbol R) (ns gs gs' : List N) (ks ls ls' : List L) (t : Ask Symbol R N L A) (k : A → Ask Symbol R N L B) : Type 0 where
  pub after : (a : A) (r : Result B Stop) → Gives (run_from m ns ks t) gs ls (Ok a) → m' ≡ m → Gives (run_from m' gs ls (k a)) gs' ls' r
      → Gives (run_from m ns ks (t >>= k)) gs' ls' r
  pub stopped : (e : Stop) → Gives (run_from m ns ks t) gs ls (Err e) → Gives {A = B} (run_from m ns ks (t >>= k)) gs' ls' (Err e)

abbrev pub CallsGoOn : (R N L A B : Type 0) → Type 0
CallsGoOn R N L A B =
    (m m' : Lookup Symbol R) (ns gs gs' : List N) (ks ls ls' : List L) (t : Ask Symbol R N L A) (k : A → Ask Symbol R N L B)
    → GoesOn R N L A B m m' ns gs gs' ks ls ls' t k

-- A call, and then the checks that it kept: its own answer, with their notes behind its notes; or what one of them stopped with.
pub record Settles (R N A : Type 0) (m m' : Lookup Symbol R) (ns gs gs' : List N) (t : Ask Symbol R N (Check Symbol R N) A) (cs : List (Check Symbol R N)) : Type 0 where
  pub checked : (a : A) (u : Unit {0}) → Gives (run_from m ns [] t) gs cs (Ok a) → m' ≡ m → Gives (run_from m' gs [] (checks cs)) gs' [] (Ok u)
      → Gives (run_from m ns [] (settle t)) gs' [] (Ok a)
  pub stopped : (a : A) (e : Stop) → Gives (run_from m ns [] t) gs cs (Ok a) → m' ≡ m → Gives (run_from m' gs [] (checks cs)) gs' [] (Err e)
      → Gives {A = A} (run_from m ns [] (settle t)) gs' [] (Err e)

abbrev pub CallsSettle : (R N A : Type 0) → Type 0
CallsSettle R N A =
    (m m' : Lookup Symbol R) (ns gs gs' : List N) (t : Ask Symbol R N (Check Symbol R N) A) (cs : List (Check Symbol R N))
    → Settles R N A m m' ns gs gs' t cs

-- ---- descriptions by depth

-- A description stays at greater depths.
abbrev pub DescriptionRemains : (S R N L : Type 0) → Type 0
DescriptionRemains S R N L = (p : Package S R N L) (d k : ℕ) → Refines (described_at p d) (described_at p (k + d))

-- A name has at most one description.
abbrev pub AtMostOneDescription : (S R N L : Type 0) → Type 0
AtMostOneDescription S R N L =
    (p : Package S R N L) (d e : ℕ) (s : S) (r q : R) → described_at p d s ≡ Some r → described_at p e s ≡ Some q → r ≡ q

-- A rule that ends over descriptions of any depths ends at one depth.
abbrev pub EndsAtSomeDepth : (S R N L : Type 0) → Type 0
EndsAtSomeDepth S R N L =
    (p : Package S R N L) (m : Lookup S R) → ((s : S) (r : R) → m s ≡ Some r → (d : ℕ) × (described_at p d s ≡ Some r))
    → (ns gs : List N) (ks ls : List L) (t : Ask S R N L R) (r : R)
    → run_from m ns ks t ≡ ready r gs ls → (d : ℕ) × (run_from (described_at p d) ns ks t ≡ ready r gs ls)

-- Two packages that have the same text at a set of names, which has what that text names, describe these names alike at each depth.
abbrev pub SameTextSameDepth : (S R N L : Type 0) → Type 0
SameTextSameDepth S R N L =
    (names : R → List S) (K : List S) (p p' : Package S R N L) → IsAlike names (Contains K) p p'
    → (d : ℕ) → Agree (Contains K) (described_at p d) (described_at p' d)

-- Lookups that stand for such packages agree on these names: on the package's own too, not only on what is outside.
abbrev pub SameTextSameDescription : (S R N L : Type 0) → Type 0
SameTextSameDescription S R N L =
    (names : R → List S) (K : List S) (p p' : Package S R N L) → IsAlike names (Contains K) p p'
    → (m m' : Lookup S R) → StandsFor p m → StandsFor p' m' → (s : S) → Contains K s → p.own s ≡ true → m s ≡ m' s

-- ---- whole source maps

-- Two source maps whose packages have the same text at a set of names, which has what that text names, in the package or
-- in packages of less rank, describe these names alike.
abbrev pub SameReachSameDescriptions : (S R N L Q : Type 0) → Type 0
SameReachSameDescriptions S R N L Q =
    (names : R → List S) (K : List S) (w : Ranked S Q) (prog prog' : Q → Package S R N L) (m m' : Lookup S R)
    → IsSameWorld names (Contains K) w prog prog' m m' → Agree (Contains K) m m'
