-- Descriptions by depth.
use Rattle.std.proofs.Common.{◌≡◌, ℕ, zero, suc, ◌+◌, true, false, List, [], ◌∷◌, ◌++◌, Option, Some, None, refl, ap, ◌∙◌, arith, zero-add, suc-add}
use Rattle.std.specs.Prelude.{if◌then◌else◌}
use Rattle.gs_ask.specs.Ask.{Ask, done, note, keep, ask, Outcome, ready, wait, Lookup, run, run_from, answered}
use Rattle.gs_ask.specs.Lookups.{Refines}
use Rattle.gs_ask.specs.Depth.{Package, said, described_at}
use Rattle.gs_ask.proofs.Runs.{run_refines}

said_refines : {S R N L : Type 0} (o o' : Outcome S N L R) → ((r : R) (ns : List N) (ks : List L) → o ≡ ready r ns ks → o' ≡ ready r ns ks) → (r : R) → said o ≡ Some r → said o' ≡ Some r
said_refines (ready q ns ks) o' go r h = ap said (go q ns ks refl) ∙ h
said_refines (wait s) o' go r h = absurd (cc)

module _ {S R N L : Type 0} (p : Package S R N L) where
  deeper_on : (d : ℕ) (s : S) (r : R) → described_at p d s ≡ Some r → described_at p (suc d) s ≡ Some r
  unfolding described_at
  deeper_on zero s r h = elim (p.own s) as (λ b. (if b then None else p.outside s) ≡ Some r → (if b then said (run (described_at p zero) (p.rule s)) else p.outside s) ≡ Some r) [
    | true ↦ λ h. absurd (cc)
    | false ↦ λ h. h
  ] h
  deeper_on (suc d) s r h =
      let more : Refines (described_at p d) (described_at p (suc d)) = record { on = deeper_on d } in
      elim (p.own s) as (λ b. (if b then said (run (described_at p d) (p.rule s)) else p.outside s) ≡ Some r → (if b then said (run (described_at p (suc d)) (p.rule s)) else p.outside s) ≡ Some r) [
        | true ↦ λ h. said_refines (run (described_at p d) (p.rule s)) (run (described_at p (suc d)) (p.rule s)) (λ q ns ks. run_refines (described_at p d) (described_at p (suc d)) more [] ns [] ks (p.rule s) q) r h
        | false ↦ λ h. h
      ] h

  -- a description stays at greater depths
  pub deeper : (d k : ℕ) → Refines (described_at p d) (described_at p (k + d))
  deeper d zero = record { on = λ s r h. rw (zero-add) h }
  deeper d (suc k) = record { on = λ s r h. rw (suc-add) (deeper_on (k + d) s r ((deeper d k).on s r h)) }

  -- two depths say nothing different
  pub one_reply : (d e : ℕ) (s : S) (r q : R) → described_at p d s ≡ Some r → described_at p e s ≡ Some q → r ≡ q
  one_reply d e s r q h i =
      let same : d + e ≡ e + d = omega arith in
      let left : described_at p (d + e) s ≡ Some r = ap (λ k. described_at p k s) same ∙ (deeper d e).on s r h in
      let right : described_at p (d + e) s ≡ Some q = (deeper e d).on s q i in
      (cc)

  asked_at : {A M H : Type 0} (s : S) (k : R → Ask S R M H A) (m : Lookup S R) (ns gs : List M) (ks ls : List H) (o : Option R) (a : A)
      → ((r : R) → o ≡ Some r → (d : ℕ) × (described_at p d s ≡ Some r))
      → ((r : R) → run_from m ns ks (k r) ≡ ready a gs ls → (d : ℕ) × (run_from (described_at p d) ns ks (k r) ≡ ready a gs ls))
      → answered s (λ r. run_from m ns ks (k r)) o ≡ ready a gs ls → (d : ℕ) × (answered s (λ r. run_from (described_at p d) ns ks (k r)) (described_at p d s) ≡ ready a gs ls)
  asked_at s k m ns gs ks ls None a at go h = absurd (cc)
  asked_at s k m ns gs ks ls (Some r) a at go h =
      let one = at r refl in
      let two = go r h in
      let same : one.0 + two.0 ≡ two.0 + one.0 = omega arith in
      let up : described_at p (one.0 + two.0) s ≡ Some r = ap (λ d. described_at p d s) same ∙ (deeper one.0 two.0).on s r one.1 in (
        one.0 + two.0,
        ap (answered s (λ r. run_from (described_at p (one.0 + two.0)) ns ks (k r))) up
            ∙ run_refines (described_at p two.0) (described_at p (one.0 + two.0)) (deeper two.0 one.0) ns gs ks ls (k r) a two.1,
      )

  -- A rule that ends where each name that is ready is described at some depth ends at some depth.
  pub run_at_depth : {A M H : Type 0} (m : Lookup S R) → ((s : S) (r : R) → m s ≡ Some r → (d : ℕ) × (described_at p d s ≡ Some r)) → (ns gs : List M) (ks ls : List H) (t : Ask S R M H A) (a : A)
      → run_from m ns ks t ≡ ready a gs ls → (d : ℕ) × (run_from (described_at p d) ns ks t ≡ ready a gs ls)
  unfolding run_from
  run_at_depth m at ns gs ks ls (done b) a h = (0, h)
  run_at_depth {A} {M} m at ns gs ks ls (note n t) a h = run_at_depth m at (ns ++ n ∷ []) gs ks ls t a h
  run_at_depth m at ns gs ks ls (keep k t) a h = run_at_depth m at ns gs (ks ++ k ∷ []) ls t a h
  run_at_depth m at ns gs ks ls (ask s k) a h = asked_at s k m ns gs ks ls (m s) a (at s) (λ r. run_at_depth m at ns gs ks ls (k r) a) h
