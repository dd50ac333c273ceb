-- Descriptions by depth: what a package's declarations give, where names of the package are described at smaller depths.
use Rattle.std.specs.Prelude.{◌≡◌, ℕ, zero, suc, Bool, true, false, if◌then◌else◌, List, Option, Some, None, ◌⊎◌}
use Rattle.gs_ask.specs.Ask.{Ask, Outcome, ready, wait, Lookup, run}
use Rattle.gs_ask.specs.Stays.{Stays, Anything, EachIn, IsClosed}

-- A package: which names are its own, the rule that describes each of them, what is said of one that has no depth,
-- and what is said of other packages' names.
pub record Package (S R N L : Type 0) : Type 0 where
  pub own : S → Bool
  pub rule : S → Ask S R N L R
  pub lost : S → R
  pub outside : Lookup S R

-- what a rule that describes a name says of it
abbrev pub said : {S R N L : Type 0} → Outcome S N L R → Option R
said (ready r ns ks) = Some r
said (wait s) = None

-- The description of each name within a depth. A name that needs itself is described at none.
unfoldable pub described_at : {S R N L : Type 0} → Package S R N L → ℕ → Lookup S R
described_at p zero s = if p.own s then None else p.outside s
described_at p (suc d) s = if p.own s then said (run (described_at p d) (p.rule s)) else p.outside s

module _ {S R N L : Type 0} (p : Package S R N L) where
  -- the name is described at some depth, and this is said of it
  pub record IsDescribed (s : S) (o : Option R) : Type 0 where
    pub depth : ℕ
    pub reply : R
    pub at : described_at p depth s ≡ Some reply
    pub is : o ≡ Some reply

  -- the name is described at no depth
  pub record IsLost (s : S) (o : Option R) : Type 0 where
    pub at : (d : ℕ) → described_at p d s ≡ None
    pub is : o ≡ Some (p.lost s)

  -- The lookup says of each name of the package what its declarations give, over what it says of other packages' names.
  pub record StandsFor (m : Lookup S R) : Type 0 where
    pub outside : (s : S) → p.outside s ≡ m s
    pub own : (s : S) → p.own s ≡ true → IsDescribed s (m s) ⊎ IsLost s (m s)

-- Two packages that have the same text at K, and K has what that text and what is said outside name.
pub record IsAlike {S R N L : Type 0} (names : R → List S) (K : S → Type 0) (p p' : Package S R N L) : Type 0 where
  pub own : (s : S) → K s → p.own s ≡ p'.own s
  pub rule : (s : S) → K s → p.own s ≡ true → (m : Lookup S R) → IsClosed names K m → said (run m (p.rule s)) ≡ said (run m (p'.rule s))
  pub text : (s : S) → K s → p.own s ≡ true → (m : Lookup S R) → IsClosed names K m → Stays K m (Anything) (λ r. EachIn K (names r)) (p.rule s)
  pub lost : (s : S) → K s → p.own s ≡ true → p.lost s ≡ p'.lost s
  pub closed : (s : S) (r : R) → K s → p.own s ≡ false → p.outside s ≡ Some r → EachIn K (names r)
  pub agree : (s : S) → K s → p.own s ≡ false → p.outside s ≡ p'.outside s
