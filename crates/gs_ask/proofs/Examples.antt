-- Selections and method sets of small types.
use Rattle.std.proofs.Common.{◌≡◌, ℕ, Bool, true, false, List, [], ◌∷◌, Some, None, refl}
use Rattle.std.specs.Prelude.{codes, bytes_eq, if◌then◌else◌}
use Rattle.gs_terms.specs.declared.symbol.Symbol.{Symbol}
use Rattle.gs_terms.specs.declared.term.Method.{Method}
use Rattle.gs_terms.specs.declared.sig.Sig.{Sig}
use Rattle.gs_terms.specs.declared.kinds.Basic.TheVariants as basics
use Rattle.gs_terms.specs.declared.kinds.SigKind.TheVariants as kind
use Rattle.gs_terms.specs.Term.{Term, Fields, basic, named, pointer, struct, interface, func, no_terms, no_fields, a_field, a_method, no_methods}
use Rattle.gs_ask.specs.declared.select.Selected.{Selected}
use Rattle.gs_ask.specs.declared.select.Selected.TheVariants as selected
use Rattle.gs_ask.specs.Ask.{◌>>=◌, bind, run_from, Outcome, ready}
use Rattle.gs_ask.specs.Reply.{Reply, known, absent, Sigs, Rule}
use Rattle.gs_terms.specs.Bare.{nowhere}
use Rattle.gs_ask.specs.Under.{under_from}
use Rattle.gs_ask.specs.Members.{members_at, start}
use Rattle.gs_ask.specs.Selection.{least, select_within}
use Rattle.gs_ask.specs.MethodSets.{depths, method_set_within}
use Rattle.gs_ask.specs.Levels.{first_level, by_levels_within}

abbrev sym : List ℕ → Symbol
sym x = record { «package» = codes "p"; name = x; local = 0 }

abbrev f_of : List ℕ → Bool → Term → Fields → Fields
f_of x e t fs = a_field x [] e [] t nowhere fs

abbrev int : Term
int = basic basics.Int

abbrev text : Term
text = basic basics.String

abbrev a_type : Term → List Method → Sig
a_type t ms = record { kind = kind.Defined; term = t; value = None; methods = ms; place = nowhere; doc = [] }

abbrev meth : List ℕ → Bool → Method
meth x p = record { name = x; «package» = []; pointer = p; term = func no_terms no_terms false; place = nowhere; doc = [] }

abbrev by_name : List ℕ → Reply
by_name x =
    if bytes_eq x (codes "A") then known (a_type (struct (f_of (codes "F") false int no_fields)) [])
    else (if bytes_eq x (codes "B") then known (a_type (struct (f_of (codes "F") false text (f_of (codes "G") false text no_fields))) [])
    else (if bytes_eq x (codes "T") then known (a_type (struct no_fields) (meth (codes "M") true ∷ meth (codes "N") false ∷ []))
    else (if bytes_eq x (codes "P") then known (a_type (pointer (named (sym (codes "T")))) [])
    else (if bytes_eq x (codes "R") then known (a_type (struct (f_of (codes "R") true (pointer (named (sym (codes "R")))) (f_of (codes "T") true (named (sym (codes "T"))) no_fields))) [])
    else (if bytes_eq x (codes "I") then known (a_type (interface (a_method (codes "M") [] false int nowhere [] no_methods)) [])
    else (if bytes_eq x (codes "X") then known (a_type (named (sym (codes "Y"))) [])
    else (if bytes_eq x (codes "Y") then known (a_type (named (sym (codes "X"))) []) else absent)))))))

abbrev m : Sigs
m s = Some (by_name s.name)

abbrev sel : Term → List ℕ → Outcome Symbol ℕ ℕ Selected
sel t x = run_from m [] [] (start 6 t >>= select_within 6 x (codes "p"))

abbrev sel2 : Term → List ℕ → Outcome Symbol ℕ ℕ Selected
sel2 t x = run_from m [] [] (start 6 t >>= by_levels_within 6 x (codes "p"))

abbrev set : Term → Outcome Symbol ℕ ℕ (List Method)
set t = run_from m [] [] (start 4 t >>= method_set_within 4)

abbrev both : Term
both = struct (f_of (codes "A") true (named (sym (codes "A"))) (f_of (codes "B") true (named (sym (codes "B"))) no_fields))

two : sel both (codes "F") ≡ ready selected.Two [] []
unfolding run_from bind least members_at under_from
two = refl

none : sel both (codes "Q") ≡ ready selected.None [] []
unfolding run_from bind least members_at under_from
none = refl

deep : sel both (codes "G") ≡ ready (selected.Field text nowhere false) [] []
unfolding run_from bind least members_at under_from
deep = refl

deep_level : sel2 both (codes "G") ≡ ready (selected.Field text nowhere false) [] []
unfolding run_from bind first_level under_from
deep_level = refl

own : sel (struct (f_of (codes "F") false int (f_of (codes "A") true (named (sym (codes "A"))) no_fields))) (codes "F") ≡ ready (selected.Field int nowhere false) [] []
unfolding run_from bind least members_at under_from
own = refl

ptr : sel (pointer both) (codes "G") ≡ ready (selected.Field text nowhere true) [] []
unfolding run_from bind least members_at under_from
ptr = refl

ptr_to_interface : sel (pointer (named (sym (codes "I")))) (codes "M") ≡ ready selected.None [] []
unfolding run_from bind least members_at under_from
ptr_to_interface = refl

defined_pointer : sel (named (sym (codes "P"))) (codes "N") ≡ ready selected.None [] []
unfolding run_from bind least members_at under_from
defined_pointer = refl

rec_type : sel (named (sym (codes "R"))) (codes "M") ≡ ready (selected.Method (meth (codes "M") true) false) [] []
unfolding run_from bind least members_at under_from
rec_type = refl

rec_none : sel2 (named (sym (codes "R"))) (codes "Z") ≡ ready selected.None [] []
unfolding run_from bind first_level under_from
rec_none = refl

ring : run_from m [] [] (let r : Rule ℕ ℕ Term = under_from 9 [] (named (sym (codes "X"))) in r) ≡ ready Rattle.gs_terms.specs.Term.invalid [] []
unfolding run_from under_from
ring = refl

set_t : set (named (sym (codes "T"))) ≡ ready (meth (codes "N") false ∷ []) [] []
unfolding run_from bind depths members_at under_from
set_t = refl

set_ptr : set (pointer (named (sym (codes "T")))) ≡ ready (meth (codes "M") true ∷ meth (codes "N") false ∷ []) [] []
unfolding run_from bind depths members_at under_from
set_ptr = refl

set_p : set (named (sym (codes "P"))) ≡ ready [] [] []
unfolding run_from bind depths members_at under_from
set_p = refl

set_embedded : set (struct (f_of (codes "T") true (pointer (named (sym (codes "T")))) no_fields)) ≡ ready (meth (codes "M") true ∷ meth (codes "N") false ∷ []) [] []
unfolding run_from bind depths members_at under_from
set_embedded = refl
