-- Method sets. Go specification, "Method sets".
use Rattle.std.specs.Prelude.{◌≡◌, ℕ, zero, suc, ◌+◌, Bool, true, not, ◌||◌, ◌&&◌, if◌then◌else◌, List, [], ◌∷◌, ◌++◌, bytes_eq}
use Rattle.std.specs.Ordering.{nat_cmp, ordering_then}
use Rattle.std.specs.Cmp.Lexicographic.{slice_cmp}
use Rattle.std.specs.declared.cmp.Ordering.{Ordering}
use Rattle.std.specs.declared.cmp.Ordering.TheVariants as order
use Rattle.gs_terms.specs.declared.term.Method.{Method}
use Rattle.gs_terms.specs.Term.{Term}
use Rattle.gs_ask.specs.declared.select.Selected.{Selected}
use Rattle.gs_ask.specs.declared.select.Selected.TheVariants as selected
use Rattle.gs_ask.specs.Ask.{done, ◌>>=◌}
use Rattle.gs_ask.specs.Reply.{Rule}
use Rattle.gs_ask.specs.Under.{furthest}
use Rattle.gs_ask.specs.Members.{name_of, package_of, Reached, Hit, Start, start, each, members_at}
use Rattle.gs_ask.specs.Selection.{one, bearing, kept}

-- a name with the package in which it is known, which is empty where the name is exported
abbrev pub Id : Type 0
Id = List ℕ × List ℕ

abbrev pub id_of : Hit → Id
id_of h = (name_of h.member, package_of h.member)

-- by the bytes of the name, and then of the package
abbrev pub id_cmp : Id → Id → Ordering
id_cmp i j = ordering_then (slice_cmp nat_cmp i.0 j.0) (slice_cmp nat_cmp i.1 j.1)

abbrev pub placed : Ordering → Id → Id → List Id → List Id → List Id
placed order.Less i j js rest = i ∷ j ∷ js
placed order.Equal i j js rest = j ∷ js
placed order.Greater i j js rest = j ∷ rest

-- the sorted list with one more
abbrev pub with_id : Id → List Id → List Id
with_id i [] = i ∷ []
with_id i (j ∷ js) = placed (id_cmp i j) i j js (with_id i js)

abbrev pub level_ids : List Hit → List Id → List Id
level_ids [] ids = ids
level_ids (h ∷ hs) ids = with_id (id_of h) (level_ids hs ids)

-- the names of all levels, sorted, each once
abbrev pub ids_of : List (List Hit) → List Id
ids_of [] = []
ids_of (level ∷ more) = level_ids level (ids_of more)

abbrev pub picked : Selected → List Hit → Selected
picked deeper [] = deeper
picked deeper (h ∷ []) = one h
picked deeper (h ∷ i ∷ more) = selected.Two

-- what a name selects of these levels: at the first that has it
abbrev pub selected_in : List ℕ → List ℕ → List (List Hit) → Selected
selected_in x q [] = selected.None
selected_in x q (level ∷ more) = picked (selected_in x q more) (bearing x q level)

-- the receiver is no pointer, or the way to the method goes through one
abbrev pub Fits : Method → Bool → Type 0
Fits m through = (not m.pointer || through) ≡ true

-- the method where its receiver fits, and where it is one of this package or exported, as the name is
abbrev pub in_set : List ℕ → Selected → List Method
in_set q (selected.Method m through) = if (not m.pointer || through) && bytes_eq m.package q then m ∷ [] else []
in_set q s = []

abbrev pub methods_of : Bool → List Id → List (List Hit) → List Method
methods_of alone [] levels = []
methods_of alone (i ∷ is) levels = in_set i.1 (kept alone (selected_in i.0 i.1 levels)) ++ methods_of alone is levels

-- the fields and methods at each of the k depths from d on
unfoldable pub depths : {N L : Type 0} → ℕ → ℕ → ℕ → List Reached → Rule N L (List (List Hit))
depths n d zero rs = done []
depths n d (suc k) rs = each (members_at n d) rs >>= (λ hs. depths n (d + 1) k rs >>= (λ all. done (hs ∷ all)))

abbrev pub method_set_within : {N L : Type 0} → ℕ → Start → Rule N L (List Method)
method_set_within n s = depths n 0 n s.from >>= (λ all. done (methods_of s.fields_alone (ids_of all) all))

-- The methods that are selected of a value of the type by their own names, where their receivers fit, sorted by name and
-- package.
abbrev pub method_set : {N L : Type 0} → Term → Rule N L (List Method)
method_set t = start furthest t >>= method_set_within furthest
