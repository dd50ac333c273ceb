-- All packages of a source map, each above those that it imports.
use Rattle.std.specs.Prelude.{◌≡◌, ℕ, ◌<◌, true, List, ◌⊎◌}
use Rattle.gs_ask.specs.Ask.{Lookup, run}
use Rattle.gs_ask.specs.Stays.{Stays, Anything, EachIn, IsClosed}
use Rattle.gs_ask.specs.Depth.{Package, said, StandsFor}

-- Q: packages. A name has its package, and a package its rank.
pub record Ranked (S Q : Type 0) : Type 0 where
  pub home : S → Q
  pub rank : Q → ℕ

-- the names of K that a package may read: its own, and those of lower packages
abbrev pub Below : {S Q : Type 0} → (S → Type 0) → Ranked S Q → Q → S → Type 0
Below K w q s = K s × ((w.home s ≡ q) ⊎ (w.rank (w.home s) < w.rank q))

-- Two source maps whose packages have the same text at the names of K, which has what that text names, in the package or below it.
pub record IsSameWorld {S R N L Q : Type 0} (names : R → List S) (K : S → Type 0) (w : Ranked S Q) (prog prog' : Q → Package S R N L) (m m' : Lookup S R) : Type 0 where
  pub own : (q : Q) (s : S) → (prog q).own s ≡ true → w.home s ≡ q
  pub owns : (q : Q) (s : S) → w.home s ≡ q → (prog q).own s ≡ true
  pub owns' : (q : Q) (s : S) → K s → (prog q).own s ≡ (prog' q).own s
  pub rule : (q : Q) (s : S) → K s → w.home s ≡ q → (l : Lookup S R) → IsClosed names (Below K w q) l → said (run l ((prog q).rule s)) ≡ said (run l ((prog' q).rule s))
  pub text : (q : Q) (s : S) → K s → w.home s ≡ q → (l : Lookup S R) → IsClosed names (Below K w q) l
      → Stays (Below K w q) l (Anything) (λ r. EachIn (Below K w q) (names r)) ((prog q).rule s)
  pub lost : (q : Q) (s : S) → K s → w.home s ≡ q → (prog q).lost s ≡ (prog' q).lost s
  pub names_lost : (q : Q) (s : S) → K s → w.home s ≡ q → EachIn (Below K w q) (names ((prog q).lost s))
  pub stands : (q : Q) → StandsFor (prog q) m
  pub stands' : (q : Q) → StandsFor (prog' q) m'
