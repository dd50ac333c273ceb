-- What holds of underlying types, selection and method sets.
use Rattle.std.specs.Prelude.{◌≡◌, ℕ, Bool, List, Contains}
use Rattle.gs_terms.specs.declared.symbol.Symbol.{Symbol}
use Rattle.gs_terms.specs.declared.term.Method.{Method}
use Rattle.gs_terms.specs.Term.{Term}
use Rattle.gs_ask.specs.declared.select.Selected.{Selected}
use Rattle.gs_ask.specs.declared.select.Selected.TheVariants as selected
use Rattle.gs_ask.specs.Ask.{ready, run_from}
use Rattle.gs_ask.specs.Lookups.{Agree}
use Rattle.gs_ask.specs.Stays.{IsClosed}
use Rattle.gs_ask.specs.Reply.{Sigs, Rule}
use Rattle.gs_ask.specs.Symbols.{reply_symbols}
use Rattle.gs_ask.specs.NamesIn.{TermIn}
use Rattle.gs_ask.specs.Under.{underlying}
use Rattle.gs_ask.specs.Selection.{selection}
use Rattle.gs_ask.specs.MethodSets.{method_set, Fits}
use Rattle.gs_ask.specs.Levels.{selection_by_levels, method_set_by_levels}

-- The rule gives the same with both lookups.
abbrev pub GivesSame : {N L A : Type 0} → Sigs → Sigs → Rule N L A → Type 0
GivesSame {N} {L} m m' t = (ns : List N) (ks : List L) → run_from m ns ks t ≡ run_from m' ns ks t

-- Where lookups agree on a set of names that has those of a type, and those of the descriptions of its members, then the type
-- has the same underlying type, the same selections and the same method set.
pub record SameType (N L : Type 0) (K : List Symbol) (m m' : Sigs) (t : Term) : Type 0 where
  pub under : GivesSame m m' (let r : Rule N L Term = underlying t in r)
  pub selections : (x q : List ℕ) → GivesSame m m' (let r : Rule N L Selected = selection t x q in r)
  pub methods : GivesSame m m' (let r : Rule N L (List Method) = method_set t in r)

abbrev pub TypesReadTheirNames : (N L : Type 0) → Type 0
TypesReadTheirNames N L =
    (K : List Symbol) (m m' : Sigs) → IsClosed reply_symbols (Contains K) m → Agree (Contains K) m m' → (t : Term) → TermIn (Contains K) t → SameType N L K m m' t

-- To pass over a type that a lesser depth has, and over a third of one type at one depth, loses nothing: the selection is that
-- over all ways through embedded fields, and waits for the same name.
abbrev pub LevelsFindTheLeast : (N L : Type 0) → Type 0
LevelsFindTheLeast N L =
    (m : Sigs) (ns : List N) (ks : List L) (t : Term) (x q : List ℕ) → run_from m ns ks (selection t x q) ≡ run_from m ns ks (selection_by_levels t x q)

-- The same for method sets.
abbrev pub LevelsFindMethodSets : (N L : Type 0) → Type 0
LevelsFindMethodSets N L =
    (m : Sigs) (ns : List N) (ks : List L) (t : Term) → run_from m ns ks (method_set t) ≡ run_from m ns ks (method_set_by_levels t)

-- What a type is made of is looked up without a note, and nothing is kept.
pub record NothingAdded (N L : Type 0) (m : Sigs) (ns gs : List N) (ks ls : List L) (t : Term) : Type 0 where
  pub under : (u : Term) → run_from m ns ks (underlying t) ≡ ready u gs ls → (gs ≡ ns) × (ls ≡ ks)
  pub selections : (x q : List ℕ) (s : Selected) → run_from m ns ks (selection t x q) ≡ ready s gs ls → (gs ≡ ns) × (ls ≡ ks)
  pub methods : (all : List Method) → run_from m ns ks (method_set t) ≡ ready all gs ls → (gs ≡ ns) × (ls ≡ ks)

abbrev pub TypesAddNothing : (N L : Type 0) → Type 0
TypesAddNothing N L = (m : Sigs) (ns gs : List N) (ks ls : List L) (t : Term) → NothingAdded N L m ns gs ks ls t

-- A method is in the set exactly where it is what its own name selects, and its receiver fits.
pub record IsOfSet (N L : Type 0) (m : Sigs) (ns : List N) (ks : List L) (t : Term) (ms : List Method) (f : Method) : Type 0 where
  pub is_selected : Contains ms f → (through : Bool) × (run_from m ns ks (selection t f.name f.package) ≡ ready (selected.Method f through) ns ks) × Fits f through
  pub has : (through : Bool) → run_from m ns ks (selection t f.name f.package) ≡ ready (selected.Method f through) ns ks → Fits f through → Contains ms f

abbrev pub MethodSetsAreSelected : (N L : Type 0) → Type 0
MethodSetsAreSelected N L =
    (m : Sigs) (ns : List N) (ks : List L) (t : Term) (ms : List Method) → run_from m ns ks (method_set t) ≡ ready ms ns ks → (f : Method) → IsOfSet N L m ns ks t ms f
