-- Descriptions by depth read other packages through the names of the text and of what is said of them.
use Rattle.std.proofs.Common.{◌≡◌, ℕ, zero, suc, Bool, true, false, List, [], Some, None, refl, ap, ◌∙◌}
use Rattle.std.specs.Prelude.{if◌then◌else◌}
use Rattle.gs_ask.specs.Ask.{Outcome, ready, wait, Lookup, run}
use Rattle.gs_ask.specs.Lookups.{Agree}
use Rattle.gs_ask.specs.Stays.{Anything, EachIn, IsClosed}
use Rattle.gs_ask.specs.Depth.{Package, said, described_at, IsAlike}
use Rattle.gs_ask.proofs.Stays.{stays_same, stays_ready}

said_ready : {S R N L : Type 0} (o : Outcome S N L R) (r : R) → said o ≡ Some r → (ns : List N) × (ks : List L) × (o ≡ ready r ns ks)
said_ready (ready q ns ks) r h = (ns, ks, (cc))
said_ready (wait s) r h = absurd (cc)

module _ {S R N L : Type 0} (names : R → List S) (K : S → Type 0) (p p' : Package S R N L) (alike : IsAlike names K p p') where
  abbrev Known : R → Type 0
  Known r = EachIn K (names r)

  rule_known : (m : Lookup S R) → IsClosed names K m → (s : S) → K s → p.own s ≡ true → (r : R) → said (run m (p.rule s)) ≡ Some r → Known r
  rule_known m closed s h own r e =
      let some = said_ready (run m (p.rule s)) r e in
      stays_ready K m Anything Known [] some.0 [] some.1 (p.rule s) r (alike.text s h own m closed) some.2

  rule_same : (m m' : Lookup S R) → IsClosed names K m → IsClosed names K m' → Agree K m m' → (s : S) → K s → p.own s ≡ true → said (run m (p.rule s)) ≡ said (run m' (p'.rule s))
  rule_same m m' closed closed' agree s h own =
      ap said (stays_same K m Anything Known m' agree [] [] (p.rule s) (alike.text s h own m closed)) ∙ alike.rule s h own m' closed'

  closed_at : (d : ℕ) (s : S) (r : R) → K s → described_at p d s ≡ Some r → Known r
  unfolding described_at
  closed_at zero s r h e = by_own (p.own s) refl e where
    by_own : (b : Bool) → p.own s ≡ b → (if b then None else p.outside s) ≡ Some r → Known r
    by_own true is e = absurd (cc)
    by_own false is e = alike.closed s r h is e
  closed_at (suc d) s r h e = by_own (record { stays = λ q t. closed_at d q t }) (p.own s) refl e where
    by_own : IsClosed names K (described_at p d) → (b : Bool) → p.own s ≡ b → (if b then said (run (described_at p d) (p.rule s)) else p.outside s) ≡ Some r → Known r
    by_own ih true is e = rule_known (described_at p d) ih s h is r e
    by_own ih false is e = alike.closed s r h is e

  -- at each depth, what is said of names of K has names of K alone
  pub closed_to : (d : ℕ) → IsClosed names K (described_at p d)
  closed_to d = record { stays = λ s r h e. closed_at d s r h e }

  agree_at : (d : ℕ) (s : S) → K s → described_at p d s ≡ described_at p' d s
  unfolding described_at
  agree_at zero s h = by_own (p.own s) refl ∙ ap (λ b. if b then None else p'.outside s) (alike.own s h) where
    by_own : (b : Bool) → p.own s ≡ b → (if b then None else p.outside s) ≡ (if b then None else p'.outside s)
    by_own true is = refl
    by_own false is = alike.agree s h is
  agree_at (suc d) s h =
      by_own (record { on = agree_at d }) (p.own s) refl
      ∙ ap (λ b. if b then said (run (described_at p' d) (p'.rule s)) else p'.outside s) (alike.own s h) where
        closed_there : Agree K (described_at p d) (described_at p' d) → IsClosed names K (described_at p' d)
        closed_there ih = record { stays = λ q r k e. closed_at d q r k (ih.on q k ∙ e) }

        by_own : Agree K (described_at p d) (described_at p' d) → (b : Bool) → p.own s ≡ b
            → (if b then said (run (described_at p d) (p.rule s)) else p.outside s) ≡ (if b then said (run (described_at p' d) (p'.rule s)) else p'.outside s)
        by_own ih true is = rule_same (described_at p d) (described_at p' d) (closed_to d) (closed_there ih) ih s h is
        by_own ih false is = alike.agree s h is

  -- the two packages describe the names of K alike, at each depth
  pub agree_to : (d : ℕ) → Agree K (described_at p d) (described_at p' d)
  agree_to d = record { on = agree_at d }
