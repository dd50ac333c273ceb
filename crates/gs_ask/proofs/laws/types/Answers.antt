use Rattle.std.proofs.Common.{◌≡◌, ℕ, Bool, List, [], Contains, ap, sym, ◌∙◌, subst}
use Rattle.gs_terms.specs.declared.term.Method.{Method}
use Rattle.gs_terms.specs.Term.{Term}
use Rattle.gs_ask.specs.declared.select.Selected.{Selected}
use Rattle.gs_ask.specs.Ask.{done, Outcome, ready, run_from}
use Rattle.gs_ask.specs.Stays.{Anything, IsClosed}
use Rattle.gs_ask.specs.Lookups.{Agree}
use Rattle.gs_ask.specs.Symbols.{reply_symbols}
use Rattle.gs_terms.specs.declared.symbol.Symbol.{Symbol}
use Rattle.gs_ask.specs.Reply.{Sigs, Rule}
use Rattle.gs_ask.specs.NamesIn.{TermIn, SelectedIn, MethodsIn}
use Rattle.gs_ask.specs.Under.{furthest, underlying}
use Rattle.gs_ask.specs.Members.{Start, start}
use Rattle.gs_ask.specs.Selection.{selection, select_within, least, kept}
use Rattle.gs_ask.specs.MethodSets.{method_set}
use Rattle.gs_ask.specs.Levels.{selection_by_levels, by_levels_within, first_level, method_set_by_levels}
use Rattle.gs_ask.specs.SelectionLaws.{SameType, IsOfSet}
use Rattle.gs_ask.specs.declared.select.Selected.TheVariants as selected
use Rattle.gs_ask.proofs.Stays.{stays_same}
use Rattle.gs_ask.proofs.SelectingStays.{underlying_stays, selection_stays, method_set_stays}
use Rattle.gs_ask.proofs.Quiet.{value, andthen, value_bind, andthen_same, quiet_same, quiet_adds, Told, told, stuck, run_value, lifted}
use Rattle.gs_ask.proofs.SelectingQuiet.{under_quiet, selection_quiet, by_levels_quiet, method_set_quiet, methods_by_levels_quiet}
use Rattle.gs_ask.proofs.MethodLevels.{method_sets_same}
use Rattle.gs_ask.proofs.LevelsLemmas.{least_is_first}
use Rattle.gs_ask.proofs.MethodSetsLemmas.{contains_has, has_contains, set_selects, set_has, IsToldOf, set_told, selection_told}
use Rattle.gs_ask.specs.MethodSets.{methods_of, ids_of, selected_in, Fits}
use Rattle.gs_ask.proofs.laws.types.Goals as goal

same_type : (N L : Type 0) (K : List Symbol) (m m' : Sigs) → IsClosed reply_symbols (Contains K) m → Agree (Contains K) m m' → (t : Term) → TermIn (Contains K) t → SameType N L K m m' t
same_type N L K m m' closed agree t h = record {
  under = λ ns ks. stays_same (Contains K) m (Anything {A = L}) (TermIn (Contains K)) m' agree ns ks (underlying t) (underlying_stays N L Anything (Contains K) m closed t h);
  selections = λ x q ns ks. stays_same (Contains K) m (Anything {A = L}) (SelectedIn (Contains K)) m' agree ns ks (selection t x q) (selection_stays N L Anything (Contains K) m closed t x q h);
  methods = λ ns ks. stays_same (Contains K) m (Anything {A = L}) (MethodsIn (Contains K)) m' agree ns ks (method_set t) (method_set_stays N L Anything (Contains K) m closed t h);
}

levels_value : (N L : Type 0) (m : Sigs) (t : Term) (x q : List ℕ) → value m (let r : Rule N L Selected = selection t x q in r) ≡ value m (let r : Rule N L Selected = selection_by_levels t x q in r)
unfolding value
levels_value N L m t x q =
    value_bind m (let r : Rule N L Start = start furthest t in r) (select_within furthest x q)
    ∙ andthen_same (value m (let r : Rule N L Start = start furthest t in r)) _ _ each_start
    ∙ sym (value_bind m (let r : Rule N L Start = start furthest t in r) (by_levels_within furthest x q)) where
      each_start : (s : Start) → value m (let r : Rule N L Selected = select_within furthest x q s in r) ≡ value m (let r : Rule N L Selected = by_levels_within furthest x q s in r)
      each_start s =
          value_bind m (let r : Rule N L Selected = least furthest x q 0 furthest s.from in r) (λ f. done (kept s.fields_alone f))
          ∙ ap (λ o. andthen o (λ f. value m (let r : Rule N L Selected = done (kept s.fields_alone f) in r))) (least_is_first N L m furthest x q furthest s.from)
          ∙ sym (value_bind m (let r : Rule N L Selected = first_level furthest x q furthest [] s.from in r) (λ f. done (kept s.fields_alone f)))

pub returns-clause-read_their_names : goal.returns-clause-read_their_names
returns-clause-read_their_names g c K m m' closed agree t h = same_type _ _ K m m' closed agree t h

pub returns-clause-add_nothing : goal.returns-clause-add_nothing
returns-clause-add_nothing g c m ns gs ks ls t = record {
  under = λ u e. quiet_adds m ns gs ks ls (underlying t) u (under_quiet _ _ furthest [] t) e;
  selections = λ x q s e. quiet_adds m ns gs ks ls (selection t x q) s (selection_quiet _ _ t x q) e;
  methods = λ all e. quiet_adds m ns gs ks ls (method_set t) all (method_set_quiet _ _ t) e;
}

pub returns-clause-levels_find_the_least : goal.returns-clause-levels_find_the_least
returns-clause-levels_find_the_least g c m ns ks t x q =
    quiet_same m ns ks (selection t x q) (selection_by_levels t x q) (selection_quiet _ _ t x q) (by_levels_quiet _ _ t x q) (levels_value _ _ m t x q)

told_ready : {N L A : Type 0} (ns : List N) (ks : List L) (o : Told Symbol A) (a : A) → lifted ns ks o ≡ ready a ns ks → o ≡ told a
told_ready ns ks (told b) a h = let e : b ≡ a = (cc) in ap told e
told_ready ns ks (stuck s) a h = absurd (cc)

abbrev one_outcome : {N L : Type 0} → Selected → List N → List L → Outcome Symbol N L Selected
one_outcome s ns ks = ready s ns ks

one_answer : {N L : Type 0} (ns : List N) (ks : List L) (a b : Selected) → one_outcome a ns ks ≡ one_outcome b ns ks → a ≡ b
one_answer ns ks a b h = (cc)

of_set : (N L : Type 0) (m : Sigs) (ns : List N) (ks : List L) (t : Term) (ms : List Method) (f : Method) → IsToldOf N L m t ms → IsOfSet N L m ns ks t ms f
of_set N L m ns ks t ms f o = record { is_selected = λ h. by_set (set_selects o.from.fields_alone (ids_of o.levels) o.levels f (let P : List Method → Type 0 = λ l. Rattle.gs_ask.proofs.MethodSetsLemmas.Has l f in subst P o.is (contains_has ms f h))); has = by_selected } where
  runs : run_from m ns ks (let r : Rule N L Selected = selection t f.name f.package in r) ≡ ready (kept o.from.fields_alone (selected_in f.name f.package o.levels)) ns ks
  runs = run_value m ns ks (selection t f.name f.package) (selection_quiet N L t f.name f.package) ∙ ap (lifted ns ks) (selection_told N L m t ms o f.name f.package)

  by_set : (th : Bool) × (kept o.from.fields_alone (selected_in f.name f.package o.levels) ≡ selected.Method f th) × Fits f th
      → (th : Bool) × (run_from m ns ks (let r : Rule N L Selected = selection t f.name f.package in r) ≡ ready (selected.Method f th) ns ks) × Fits f th
  by_set s = (s.0, runs ∙ ap (λ (x : Selected). ready x ns ks) s.1, s.2)

  by_selected : (th : Bool) → run_from m ns ks (let r : Rule N L Selected = selection t f.name f.package in r) ≡ ready (selected.Method f th) ns ks → Fits f th → Contains ms f
  by_selected th h ok =
      let e : kept o.from.fields_alone (selected_in f.name f.package o.levels) ≡ selected.Method f th = one_answer ns ks (kept o.from.fields_alone (selected_in f.name f.package o.levels)) (selected.Method f th) (sym runs ∙ h) in
      let P : List Method → Type 0 = λ l. Contains l f in
      subst P (sym o.is) (has_contains (methods_of o.from.fields_alone (ids_of o.levels) o.levels) f (set_has o.from.fields_alone o.levels f th e ok))

pub returns-clause-method_sets_are_selected : goal.returns-clause-method_sets_are_selected
returns-clause-method_sets_are_selected g c m ns ks t ms h f =
    of_set _ _ m ns ks t ms f (set_told _ _ m t ms (told_ready ns ks (value m (method_set t)) ms (sym (run_value m ns ks (method_set t) (method_set_quiet _ _ t)) ∙ h)))

pub returns-clause-levels_find_method_sets : goal.returns-clause-levels_find_method_sets
returns-clause-levels_find_method_sets g c m ns ks t =
    quiet_same m ns ks (method_set t) (method_set_by_levels t) (method_set_quiet _ _ t) (methods_by_levels_quiet _ _ t) (method_sets_same _ _ m t)
