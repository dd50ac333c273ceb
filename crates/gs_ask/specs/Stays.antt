-- What a rule reads of a lookup.
use Rattle.std.specs.Prelude.{◌≡◌, List, [], ◌∷◌, Some}
use Rattle.gs_ask.specs.Ask.{Ask, done, note, keep, ask, Lookup, Never, Check}

-- no promise
abbrev pub Anything : {A : Type 0} → A → Type 0
Anything a = Unit {0}

-- each of these names is one of K
abbrev pub EachIn : {S : Type 0} → (S → Type 0) → List S → Type 0
EachIn K [] = Unit {0}
EachIn K (s ∷ ss) = K s × EachIn K ss

-- what is said of a name of K has names of K alone; `names` gives those that stand in it
pub record IsClosed {S R : Type 0} (names : R → List S) (K : S → Type 0) (m : Lookup S R) : Type 0 where
  pub stays : (s : S) (r : R) → K s → m s ≡ Some r → EachIn K (names r)

module _ {S R : Type 0} (K : S → Type 0) (m : Lookup S R) where
  -- each name that the rule asks for is one of K, its answer is P, and what it keeps is Q
  abbrev pub Stays : {N L A : Type 0} → (L → Type 0) → (A → Type 0) → Ask S R N L A → Type 0
  Stays Q P (done a) = P a
  Stays Q P (note n t) = Stays Q P t
  Stays Q P (keep k t) = Q k × Stays Q P t
  Stays Q P (ask s c) = K s × ((r : R) → m s ≡ Some r → Stays Q P (c r))

  -- a check that asks for names of K alone
  abbrev pub CheckIn : {N : Type 0} → Check S R N → Type 0
  CheckIn c = Stays (Anything {A = Never}) Anything c

  abbrev pub ChecksIn : {N : Type 0} → List (Check S R N) → Type 0
  ChecksIn [] = Unit {0}
  ChecksIn (c ∷ cs) = CheckIn c × ChecksIn cs
