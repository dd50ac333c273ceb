-- Selection. Go specification, "Selectors".
use Rattle.std.specs.Prelude.{ℕ, zero, suc, ◌+◌, Bool, true, not, ◌&&◌, ◌||◌, if◌then◌else◌, List, [], ◌∷◌, bytes_eq, codes}
use Rattle.gs_terms.specs.Term.{Term}
use Rattle.gs_ask.specs.declared.select.Selected.{Selected}
use Rattle.gs_ask.specs.declared.select.Selected.TheVariants as selected
use Rattle.gs_ask.specs.Ask.{done, ◌>>=◌}
use Rattle.gs_ask.specs.Reply.{Rule}
use Rattle.gs_ask.specs.Under.{furthest}
use Rattle.gs_ask.specs.Members.{Member, a_field_of, a_method_of, name_of, package_of, Reached, Hit, Start, start, each, members_at}

-- The member has this name where the name stands in this package: one that isn't exported is known in its own package alone,
-- and `_` names nothing.
abbrev pub bears : List ℕ → List ℕ → Member → Bool
bears x q m = bytes_eq (name_of m) x && (not (bytes_eq x (codes "_")) && (bytes_eq (package_of m) [] || bytes_eq (package_of m) q))

-- those of them that have the name
abbrev pub bearing : List ℕ → List ℕ → List Hit → List Hit
bearing x q [] = []
bearing x q (h ∷ hs) = if bears x q h.member then h ∷ bearing x q hs else bearing x q hs

abbrev pub one_by : Bool → Member → Selected
one_by through (a_field_of f) = selected.Field f.term f.place through
one_by through (a_method_of m) = selected.Method m through

abbrev pub one : Hit → Selected
one h = one_by h.through h.member

-- the only one, Two of several, and what is deeper where there is none
abbrev pub chosen : {N L : Type 0} → Rule N L Selected → List Hit → Rule N L Selected
chosen deeper [] = deeper
chosen deeper (h ∷ []) = done (one h)
chosen deeper (h ∷ i ∷ more) = done selected.Two

-- at the least depth that has one, of the k depths from d on
unfoldable pub least : {N L : Type 0} → ℕ → List ℕ → List ℕ → ℕ → ℕ → List Reached → Rule N L Selected
least n x q d zero rs = done selected.None
least n x q d (suc k) rs = each (members_at n d) rs >>= (λ hs. chosen (least n x q (d + 1) k rs) (bearing x q hs))

-- a method counts as none where fields alone are selected
abbrev pub kept : Bool → Selected → Selected
kept true (selected.Method m through) = selected.None
kept alone s = s

abbrev pub select_within : {N L : Type 0} → ℕ → List ℕ → List ℕ → Start → Rule N L Selected
select_within n x q s = least n x q 0 n s.from >>= (λ f. done (kept s.fields_alone f))

-- What the name x, written in the package q, selects of a value of type t: of all ways through embedded fields, take those of the
-- least depth at which some way ends in a member of that name.
abbrev pub selection : {N L : Type 0} → Term → List ℕ → List ℕ → Rule N L Selected
selection t x q = start furthest t >>= select_within furthest x q
