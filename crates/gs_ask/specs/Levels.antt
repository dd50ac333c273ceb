-- Selection and method sets level by level, past types that were met before and past more than two of one type in a level.
use Rattle.std.specs.Prelude.{ℕ, zero, suc, Bool, false, ◌||◌, if◌then◌else◌, List, [], ◌∷◌, ◌++◌}
use Rattle.gs_terms.specs.declared.symbol.Symbol.{Symbol}
use Rattle.gs_terms.specs.Term.{Term, named}
use Rattle.gs_ask.specs.declared.select.Selected.{Selected}
use Rattle.gs_ask.specs.declared.select.Selected.TheVariants as selected
use Rattle.gs_ask.specs.Ask.{done, ◌>>=◌}
use Rattle.gs_ask.specs.Reply.{Rule}
use Rattle.gs_terms.specs.Identity.{same_symbol}
use Rattle.gs_ask.specs.Symbols.{has_symbol}
use Rattle.gs_ask.specs.Under.{furthest}
use Rattle.gs_ask.specs.Members.{Reached, Hit, Opened, opened, hits, further, Start, start}
use Rattle.gs_terms.specs.declared.term.Method.{Method}
use Rattle.gs_ask.specs.Selection.{bearing, chosen, kept}
use Rattle.gs_ask.specs.MethodSets.{methods_of, ids_of}

-- what each type of a level has
abbrev pub opened_all : {N L : Type 0} → ℕ → List Reached → Rule N L (List Opened)
opened_all n [] = done []
opened_all n (r ∷ rs) = opened n r.type >>= (λ o. opened_all n rs >>= (λ os. done (o ∷ os)))

abbrev pub level_hits : List Reached → List Opened → List Hit
level_hits [] os = []
level_hits (r ∷ rs) [] = []
level_hits (r ∷ rs) (o ∷ os) = hits r o ++ level_hits rs os

abbrev pub next_level : List Reached → List Opened → List Reached
next_level [] os = []
next_level (r ∷ rs) [] = []
next_level (r ∷ rs) (o ∷ os) = further r o ++ next_level rs os

-- the names with that of a defined type behind them
abbrev pub with_name : Term → List Symbol → List Symbol
with_name (named s) qs = qs ++ s ∷ []
with_name t qs = qs

-- the names with those of a level behind them
abbrev pub with_names : List Reached → List Symbol → List Symbol
with_names [] qs = qs
with_names (r ∷ rs) qs = with_names rs (with_name r.type qs)

-- whether the name stands twice among these
abbrev pub has_twice : List Symbol → Symbol → Bool
has_twice [] s = false
has_twice (q ∷ qs) s = if same_symbol q s then has_symbol qs s else has_twice qs s

abbrev pub is_met : List Symbol → Term → Bool
is_met qs (named s) = has_symbol qs s
is_met qs t = false

abbrev pub is_met_twice : List Symbol → Term → Bool
is_met_twice qs (named s) = has_twice qs s
is_met_twice qs t = false

-- the level without what was met in levels before (qs), and without a third of one type (ks: those that are kept so far)
abbrev pub fresh : List Symbol → List Symbol → List Reached → List Reached
fresh qs ks [] = []
fresh qs ks (r ∷ rs) = if is_met qs r.type || is_met_twice ks r.type then fresh qs ks rs else r ∷ fresh qs (with_name r.type ks) rs

-- at the first of k levels that has one
unfoldable pub first_level : {N L : Type 0} → ℕ → List ℕ → List ℕ → ℕ → List Symbol → List Reached → Rule N L Selected
first_level n x q zero qs rs = done selected.None
first_level n x q (suc k) qs rs =
    opened_all n rs >>= (λ os. chosen (first_level n x q k (with_names rs qs) (fresh (with_names rs qs) [] (next_level rs os))) (bearing x q (level_hits rs os)))

abbrev pub by_levels_within : {N L : Type 0} → ℕ → List ℕ → List ℕ → Start → Rule N L Selected
by_levels_within n x q s = first_level n x q n [] s.from >>= (λ f. done (kept s.fields_alone f))

abbrev pub selection_by_levels : {N L : Type 0} → Term → List ℕ → List ℕ → Rule N L Selected
selection_by_levels t x q = start furthest t >>= by_levels_within furthest x q

-- the fields and methods of each of k levels
unfoldable pub level_members : {N L : Type 0} → ℕ → ℕ → List Symbol → List Reached → Rule N L (List (List Hit))
level_members n zero qs rs = done []
level_members n (suc k) qs rs =
    opened_all n rs >>= (λ os. level_members n k (with_names rs qs) (fresh (with_names rs qs) [] (next_level rs os)) >>= (λ all. done (level_hits rs os ∷ all)))

abbrev pub methods_within : {N L : Type 0} → ℕ → Start → Rule N L (List Method)
methods_within n s = level_members n n [] s.from >>= (λ all. done (methods_of s.fields_alone (ids_of all) all))

abbrev pub method_set_by_levels : {N L : Type 0} → Term → Rule N L (List Method)
method_set_by_levels t = start furthest t >>= methods_within furthest
