-- Underlying types, selection and method sets neither note nor keep.
use Rattle.std.proofs.Common.{ℕ, zero, suc, ◌+◌, Bool, true, false, List, [], ◌∷◌, ◌++◌}
use Rattle.std.specs.Prelude.{if◌then◌else◌}
use Rattle.gs_terms.specs.declared.symbol.Symbol.{Symbol}
use Rattle.gs_terms.specs.Term.{Term, invalid, named, pointer}
use Rattle.gs_ask.specs.declared.select.Selected.{Selected}
use Rattle.gs_ask.specs.Ask.{ask, done}
use Rattle.gs_ask.specs.Reply.{Reply, known, absent, broken, Rule}
use Rattle.gs_ask.specs.Symbols.{has_symbol, is_error}
use Rattle.gs_terms.specs.Universe.{error_sig}
use Rattle.gs_ask.specs.Under.{furthest, described, under_by, under_from}
use Rattle.gs_ask.specs.Members.{Reached, Hit, Opened, opened, opened_by, further, each, members_at, Start, behind, start_by, start}
use Rattle.gs_ask.specs.Selection.{bearing, chosen, least, selection}
use Rattle.gs_ask.specs.MethodSets.{depths, method_set}
use Rattle.gs_ask.specs.Levels.{opened_all, level_hits, next_level, with_names, fresh, first_level, selection_by_levels, level_members, method_set_by_levels}
use Rattle.gs_ask.proofs.Quiet.{Quiet, quiet_bind}

module _ (N L : Type 0) where
  described_quiet : {A : Type 0} (s : Symbol) (go : Reply → Rule N L A) → ((r : Reply) → Quiet (go r)) → Quiet (described s go)
  described_quiet s go h = elim (is_error s) as (λ b. Quiet (if b then go (known error_sig) else ask s go)) [ true ↦ h (known error_sig) | false ↦ h ]

  under_by_quiet : (again : Term → Rule N L Term) → ((t : Term) → Quiet (again t)) → (r : Reply) → Quiet (under_by again r)
  under_by_quiet again h (known g) = h g.term
  under_by_quiet again h absent = tt
  under_by_quiet again h broken = tt

  pub under_quiet : (n : ℕ) (seen : List Symbol) (t : Term) → Quiet (let u : Rule N L Term = under_from n seen t in u)
  unfolding under_from
  under_quiet zero seen t = tt
  under_quiet (suc n) seen (named s) =
      elim (has_symbol seen s) as (λ b. Quiet (let u : Rule N L Term = (if b then done invalid else described s (under_by (under_from n (seen ++ s ∷ [])))) in u)) [
        | true ↦ tt
        | false ↦ described_quiet s (under_by (under_from n (seen ++ s ∷ []))) (under_by_quiet (under_from n (seen ++ s ∷ [])) (under_quiet n (seen ++ s ∷ [])))
      ]
  under_quiet (suc n) seen _ = tt

  opened_by_quiet : (n : ℕ) (s : Symbol) (r : Reply) → Quiet (let u : Rule N L Opened = opened_by n s r in u)
  opened_by_quiet n s (known g) = quiet_bind (under_from n (s ∷ []) g.term) _ (under_quiet n (s ∷ []) g.term) (λ u. tt)
  opened_by_quiet n s absent = tt
  opened_by_quiet n s broken = tt

  opened_quiet : (n : ℕ) (t : Term) → Quiet (let u : Rule N L Opened = opened n t in u)
  opened_quiet n (named s) = described_quiet s (opened_by n s) (opened_by_quiet n s)
  opened_quiet n _ = tt

  each_quiet : {A : Type 0} (f : Reached → Rule N L (List A)) → ((r : Reached) → Quiet (f r)) → (rs : List Reached) → Quiet (each f rs)
  each_quiet f h [] = tt
  each_quiet f h (r ∷ rs) = quiet_bind (f r) _ (h r) (λ xs. quiet_bind (each f rs) _ (each_quiet f h rs) (λ ys. tt))

  members_quiet : (n d : ℕ) (r : Reached) → Quiet (let u : Rule N L (List Hit) = members_at n d r in u)
  unfolding members_at
  members_quiet n zero r = quiet_bind (opened n r.type) _ (opened_quiet n r.type) (λ o. tt)
  members_quiet n (suc d) r = quiet_bind (opened n r.type) _ (opened_quiet n r.type) (λ o. each_quiet (members_at n d) (members_quiet n d) (further r o))

  behind_quiet : (n : ℕ) (alone : Bool) (t : Term) → Quiet (let u : Rule N L Start = behind n alone t in u)
  behind_quiet n alone t = quiet_bind (under_from n [] t) _ (under_quiet n [] t) (λ u. tt)

  start_by_quiet : (n : ℕ) (s : Symbol) (t : Term) → Quiet (let u : Rule N L Start = start_by n s t in u)
  start_by_quiet n s (pointer t) = behind_quiet n true t
  start_by_quiet n s _ = tt

  pub start_quiet : (n : ℕ) (t : Term) → Quiet (let u : Rule N L Start = start n t in u)
  start_quiet n (pointer t) = behind_quiet n false t
  start_quiet n (named s) = quiet_bind (under_from n [] (named s)) _ (under_quiet n [] (named s)) (start_by_quiet n s)
  start_quiet n _ = tt

  chosen_quiet : (deeper : Rule N L Selected) (hs : List Hit) → Quiet deeper → Quiet (chosen deeper hs)
  chosen_quiet deeper [] h = h
  chosen_quiet deeper (i ∷ []) h = tt
  chosen_quiet deeper (i ∷ j ∷ hs) h = tt

  pub least_quiet : (n : ℕ) (x q : List ℕ) (d k : ℕ) (rs : List Reached) → Quiet (let u : Rule N L Selected = least n x q d k rs in u)
  unfolding least
  least_quiet n x q d zero rs = tt
  least_quiet n x q d (suc k) rs = quiet_bind (each (members_at n d) rs) _ (each_quiet (members_at n d) (members_quiet n d) rs) (λ hs. chosen_quiet (least n x q (d + 1) k rs) (bearing x q hs) (least_quiet n x q (d + 1) k rs))

  pub selection_quiet : (t : Term) (x q : List ℕ) → Quiet (let u : Rule N L Selected = selection t x q in u)
  selection_quiet t x q = quiet_bind (start furthest t) _ (start_quiet furthest t) (λ s. quiet_bind (least furthest x q 0 furthest s.from) _ (least_quiet furthest x q 0 furthest s.from) (λ f. tt))

  opened_all_quiet : (n : ℕ) (rs : List Reached) → Quiet (let u : Rule N L (List Opened) = opened_all n rs in u)
  opened_all_quiet n [] = tt
  opened_all_quiet n (r ∷ rs) = quiet_bind (opened n r.type) _ (opened_quiet n r.type) (λ o. quiet_bind (opened_all n rs) _ (opened_all_quiet n rs) (λ os. tt))

  pub first_quiet : (n : ℕ) (x q : List ℕ) (k : ℕ) (qs : List Symbol) (rs : List Reached) → Quiet (let u : Rule N L Selected = first_level n x q k qs rs in u)
  unfolding first_level
  first_quiet n x q zero qs rs = tt
  first_quiet n x q (suc k) qs rs =
      quiet_bind (opened_all n rs) _ (opened_all_quiet n rs)
      (λ os. chosen_quiet (first_level n x q k (with_names rs qs) (fresh (with_names rs qs) [] (next_level rs os))) (bearing x q (level_hits rs os)) (first_quiet n x q k (with_names rs qs) (fresh (with_names rs qs) [] (next_level rs os))))

  pub by_levels_quiet : (t : Term) (x q : List ℕ) → Quiet (let u : Rule N L Selected = selection_by_levels t x q in u)
  by_levels_quiet t x q = quiet_bind (start furthest t) _ (start_quiet furthest t) (λ s. quiet_bind (first_level furthest x q furthest [] s.from) _ (first_quiet furthest x q furthest [] s.from) (λ f. tt))

  depths_quiet : (n d k : ℕ) (rs : List Reached) → Quiet (let u : Rule N L (List (List Hit)) = depths n d k rs in u)
  unfolding depths
  depths_quiet n d zero rs = tt
  depths_quiet n d (suc k) rs = quiet_bind (each (members_at n d) rs) _ (each_quiet (members_at n d) (members_quiet n d) rs) (λ hs. quiet_bind (depths n (d + 1) k rs) _ (depths_quiet n (d + 1) k rs) (λ all. tt))

  pub method_set_quiet : (t : Term) → Quiet (let u : Rule N L (List _) = method_set t in u)
  method_set_quiet t = quiet_bind (start furthest t) _ (start_quiet furthest t) (λ s. quiet_bind (depths furthest 0 furthest s.from) _ (depths_quiet furthest 0 furthest s.from) (λ all. tt))

  level_members_quiet : (n k : ℕ) (qs : List Symbol) (rs : List Reached) → Quiet (let u : Rule N L (List (List Hit)) = level_members n k qs rs in u)
  unfolding level_members
  level_members_quiet n zero qs rs = tt
  level_members_quiet n (suc k) qs rs =
      quiet_bind (opened_all n rs) _ (opened_all_quiet n rs)
      (λ os. quiet_bind (level_members n k (with_names rs qs) (fresh (with_names rs qs) [] (next_level rs os))) _ (level_members_quiet n k (with_names rs qs) (fresh (with_names rs qs) [] (next_level rs os))) (λ all. tt))

  pub methods_by_levels_quiet : (t : Term) → Quiet (let u : Rule N L (List _) = method_set_by_levels t in u)
  methods_by_levels_quiet t = quiet_bind (start furthest t) _ (start_quiet furthest t) (λ s. quiet_bind (level_members furthest furthest [] s.from) _ (level_members_quiet furthest furthest [] s.from) (λ all. tt))
