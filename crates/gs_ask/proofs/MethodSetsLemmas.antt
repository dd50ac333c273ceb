-- What a method set has is what is selected by its own name.
use Rattle.std.proofs.Common.{◌≡◌, ℕ, zero, suc, ◌+◌, ◌<◌, Bool, true, false, List, [], ◌∷◌, ◌++◌, length, refl, ap, sym, ◌∙◌, subst, ◌⊎◌, inl, inr, arith, Contains, slice_index_or}
use Rattle.std.specs.Prelude.{if◌then◌else◌, ◌||◌, ◌&&◌, not, bytes_eq, codes}
use Rattle.std.specs.Ordering.{nat_cmp, ordering_then}
use Rattle.std.specs.Cmp.Lexicographic.{slice_cmp}
use Rattle.std.specs.declared.cmp.Ordering.{Ordering}
use Rattle.std.specs.declared.cmp.Ordering.TheVariants as order
use Rattle.std.proofs.lemmas.Slice.Eq.{bytes_eq-Decides}
use Rattle.std.proofs.lemmas.Map.Lookups.{exact_bytes}
use Rattle.gs_terms.specs.declared.symbol.Symbol.{Symbol}
use Rattle.gs_terms.specs.declared.term.Method.{Method}
use Rattle.gs_terms.specs.Term.{Term}
use Rattle.gs_ask.specs.declared.select.Selected.{Selected}
use Rattle.gs_ask.specs.declared.select.Selected.TheVariants as selected
use Rattle.gs_ask.specs.Ask.{done, ◌>>=◌}
use Rattle.gs_ask.specs.Reply.{Sigs, Rule}
use Rattle.gs_ask.specs.Members.{Member, a_field_of, a_method_of, name_of, package_of, Reached, Hit, each, members_at, Start, start}
use Rattle.gs_ask.specs.Selection.{bears, bearing, one_by, chosen, least, kept, select_within, selection}
use Rattle.gs_ask.specs.MethodSets.{Id, id_of, id_cmp, placed, with_id, level_ids, ids_of, picked, selected_in, in_set, methods_of, depths, Fits, method_set_within, method_set}
use Rattle.gs_ask.specs.Under.{furthest}
use Rattle.gs_ask.proofs.Quiet.{Told, told, stuck, value, andthen, value_bind, andthen_same}

-- ---- lists

abbrev pub Has : {X : Type 0} → List X → X → Type 0
Has [] f = ⊥
Has (x ∷ xs) f = (x ≡ f) ⊎ Has xs f

pub has_right : {X : Type 0} (xs ys : List X) (f : X) → Has ys f → Has (xs ++ ys) f
has_right [] ys f h = h
has_right (x ∷ xs) ys f h = inr (has_right xs ys f h)

pub has_left : {X : Type 0} (xs ys : List X) (f : X) → Has xs f → Has (xs ++ ys) f
has_left [] ys f h = absurd h
has_left (x ∷ xs) ys f (inl e) = inl e
has_left (x ∷ xs) ys f (inr h) = inr (has_left xs ys f h)

has_split : {X : Type 0} (xs ys : List X) (f : X) → Has (xs ++ ys) f → Has xs f ⊎ Has ys f
has_split [] ys f h = inr h
has_split (x ∷ xs) ys f (inl e) = inl (inl e)
has_split (x ∷ xs) ys f (inr h) = by_rest (has_split xs ys f h) where
  by_rest : Has xs f ⊎ Has ys f → ((x ≡ f) ⊎ Has xs f) ⊎ Has ys f
  by_rest (inl k) = inl (inr k)
  by_rest (inr k) = inr k

pub contains_has : {X : Type 0} (xs : List X) (f : X) → Contains xs f → Has xs f
contains_has xs f h = at xs f h.0 h.1 h.2 where
  at : {X : Type 0} (xs : List X) (f : X) (k : ℕ) → k < length xs → slice_index_or xs k f ≡ f → Has xs f
  at [] f k low e = absurd (omega (arith, low))
  at (x ∷ xs) f zero low e = inl e
  at (x ∷ xs) f (suc k) low e = inr (at xs f k (omega (arith, low)) e)

pub has_contains : {X : Type 0} (xs : List X) (f : X) → Has xs f → Contains xs f
has_contains [] f h = absurd h
has_contains (x ∷ xs) f (inl e) = (0, omega arith, e)
has_contains (x ∷ xs) f (inr h) = let c = has_contains xs f h in (suc c.0, omega (arith, c.1), c.2)

-- ---- names

bears_name : (x q : List ℕ) (y : Member) → bears x q y ≡ true → name_of y ≡ x
bears_name x q y h = (bytes_eq-Decides (name_of y) x).0 (by_test (bytes_eq (name_of y) x) refl h) where
  by_test : (b : Bool) → bytes_eq (name_of y) x ≡ b → (b && (not (bytes_eq x (codes "_")) && (bytes_eq (package_of y) [] || bytes_eq (package_of y) q))) ≡ true → bytes_eq (name_of y) x ≡ true
  by_test true e h = e
  by_test false e h = absurd (cc)

bearing_bears : (x q : List ℕ) (hs : List Hit) (h : Hit) → Has (bearing x q hs) h → (bears x q h.member ≡ true) × Has hs h
bearing_bears x q [] h k = absurd k
bearing_bears x q (i ∷ hs) h k = by_test (bears x q i.member) refl k (bearing_bears x q hs h) where
  by_test : (b : Bool) → bears x q i.member ≡ b → Has (if b then i ∷ bearing x q hs else bearing x q hs) h → (Has (bearing x q hs) h → (bears x q h.member ≡ true) × Has hs h) → (bears x q h.member ≡ true) × Has (i ∷ hs) h
  by_test true e (inl same) go = (ap (λ (z : Hit). bears x q z.member) (sym same) ∙ e, inl same)
  by_test true e (inr k) go = let r = go k in (r.0, inr r.1)
  by_test false e k go = let r = go k in (r.0, inr r.1)

-- ---- what the levels select

one_method : (through th : Bool) (y : Member) (f : Method) → one_by through y ≡ selected.Method f th → (y ≡ a_method_of f) × (through ≡ th)
one_method through th (a_field_of g) f h = absurd (cc)
one_method through th (a_method_of g) f h = ((let e : g ≡ f = (cc) in ap a_method_of e), (cc))

-- one of the levels has what is selected
pub record IsFoundIn (x q : List ℕ) (f : Method) (all : List (List Hit)) : Type 0 where
  pub level : List Hit
  pub hit : Hit
  pub has_level : Has all level
  pub has_hit : Has level hit
  pub is : hit.member ≡ a_method_of f
  pub knows : bears x q hit.member ≡ true

pub found_in : (x q : List ℕ) (f : Method) (th : Bool) (all : List (List Hit)) → selected_in x q all ≡ selected.Method f th → IsFoundIn x q f all
found_in x q f th [] h = absurd (cc)
found_in x q f th (hs ∷ all) h = by_bearing (bearing x q hs) (bearing_bears x q hs) h (found_in x q f th all) where
  by_bearing : (is : List Hit) → ((i : Hit) → Has is i → (bears x q i.member ≡ true) × Has hs i) → picked (selected_in x q all) is ≡ selected.Method f th
      → (selected_in x q all ≡ selected.Method f th → IsFoundIn x q f all) → IsFoundIn x q f (hs ∷ all)
  by_bearing [] of h go = let r = go h in record { level = r.level; hit = r.hit; has_level = inr r.has_level; has_hit = r.has_hit; is = r.is; knows = r.knows }
  by_bearing (i ∷ []) of h go = let o = of i (inl refl) in record { level = hs; hit = i; has_level = inl refl; has_hit = o.1; is = (one_method i.through th i.member f h).0; knows = o.0 }
  by_bearing (i ∷ j ∷ more) of h go = absurd (cc)

-- the name of what is selected
pub selected_name : (x q : List ℕ) (f : Method) (th : Bool) (all : List (List Hit)) → selected_in x q all ≡ selected.Method f th → f.name ≡ x
selected_name x q f th all h =
    let at = found_in x q f th all h in
    bears_name x q (a_method_of f) (ap (bears x q) (sym at.is) ∙ at.knows)

-- ---- names of the levels

pub equal_id : (i j : Id) → id_cmp i j ≡ order.Equal → i ≡ j
equal_id i j h = by_first (slice_cmp nat_cmp i.0 j.0) refl h where
  by_first : (o : Ordering) → slice_cmp nat_cmp i.0 j.0 ≡ o → ordering_then o (slice_cmp nat_cmp i.1 j.1) ≡ order.Equal → i ≡ j
  by_first order.Equal e h = let p = exact_bytes i.0 j.0 e in let q = exact_bytes i.1 j.1 h in λ k. (p k, q k)
  by_first order.Less e h = absurd (cc)
  by_first order.Greater e h = absurd (cc)

with_own : (i : Id) (ids : List Id) → Has (with_id i ids) i
with_own i [] = inl refl
with_own i (j ∷ ids) = by_order (id_cmp i j) refl (with_own i ids) where
  by_order : (o : Ordering) → id_cmp i j ≡ o → Has (with_id i ids) i → Has (placed o i j ids (with_id i ids)) i
  by_order order.Less e h = inl refl
  by_order order.Equal e h = inl (sym (equal_id i j e))
  by_order order.Greater e h = inr h

with_more : (i k : Id) (ids : List Id) → Has ids k → Has (with_id i ids) k
with_more i k [] h = absurd h
with_more i k (j ∷ ids) h = by_order (id_cmp i j) h (with_more i k ids) where
  by_order : (o : Ordering) → Has (j ∷ ids) k → (Has ids k → Has (with_id i ids) k) → Has (placed o i j ids (with_id i ids)) k
  by_order order.Less h go = inr h
  by_order order.Equal h go = h
  by_order order.Greater (inl e) go = inl e
  by_order order.Greater (inr h) go = inr (go h)

level_more : (hs : List Hit) (k : Id) (ids : List Id) → Has ids k → Has (level_ids hs ids) k
level_more [] k ids h = h
level_more (i ∷ hs) k ids h = with_more (id_of i) k (level_ids hs ids) (level_more hs k ids h)

level_own : (hs : List Hit) (h : Hit) (ids : List Id) → Has hs h → Has (level_ids hs ids) (id_of h)
level_own [] h ids k = absurd k
level_own (i ∷ hs) h ids (inl e) = let P : Hit → Type 0 = λ z. Has (with_id (id_of i) (level_ids hs ids)) (id_of z) in subst P e (with_own (id_of i) (level_ids hs ids))
level_own (i ∷ hs) h ids (inr k) = with_more (id_of i) (id_of h) (level_ids hs ids) (level_own hs h ids k)

pub ids_own : (all : List (List Hit)) (level : List Hit) (h : Hit) → Has all level → Has level h → Has (ids_of all) (id_of h)
ids_own [] level h k i = absurd k
ids_own (hs ∷ all) level h (inl e) i = level_own hs h (ids_of all) (let P : List Hit → Type 0 = λ l. Has l h in subst P (sym e) i)
ids_own (hs ∷ all) level h (inr k) i = level_more hs (id_of h) (ids_of all) (ids_own all level h k i)

-- ---- the set

pub kept_method : (alone : Bool) (s : Selected) (f : Method) (th : Bool) → kept alone s ≡ selected.Method f th → (s ≡ selected.Method f th) × (alone ≡ false)
kept_method true (selected.Method g through) f th h = absurd (cc)
kept_method true (selected.Field t p through) f th h = absurd (cc)
kept_method true selected.Two f th h = absurd (cc)
kept_method true selected.None f th h = absurd (cc)
kept_method false s f th h = (h, refl)

pub in_set_has : (q : List ℕ) (s : Selected) (f : Method) → Has (in_set q s) f → (th : Bool) × (s ≡ selected.Method f th) × Fits f th × (f.package ≡ q)
in_set_has q (selected.Method g through) f h = by_tests (not g.pointer || through) (bytes_eq g.package q) refl refl h where
  by_tests : (a b : Bool) → (not g.pointer || through) ≡ a → bytes_eq g.package q ≡ b → Has (if a && b then g ∷ [] else []) f
      → (th : Bool) × (selected.Method g through ≡ selected.Method f th) × Fits f th × (f.package ≡ q)
  by_tests true true e i (inl same) =
      (through, ap (λ (z : Method). selected.Method z through) same, (let P : Method → Type 0 = λ z. Fits z through in subst P same e), (let P : Method → Type 0 = λ z. z.package ≡ q in subst P same ((bytes_eq-Decides g.package q).0 i)))
  by_tests true true e i (inr k) = absurd k
  by_tests true false e i k = absurd k
  by_tests false b e i k = absurd k
in_set_has q (selected.Field t p through) f h = absurd h
in_set_has q selected.Two f h = absurd h
in_set_has q selected.None f h = absurd h

in_set_of : (f : Method) (th : Bool) → Fits f th → Has (in_set f.package (selected.Method f th)) f
in_set_of f th ok = by_tests (not f.pointer || th) (bytes_eq f.package f.package) ok ((bytes_eq-Decides f.package f.package).1 refl) where
  by_tests : (a b : Bool) → a ≡ true → b ≡ true → Has (if a && b then f ∷ [] else []) f
  by_tests true true e i = inl refl
  by_tests true false e i = absurd (cc)
  by_tests false b e i = absurd (cc)

-- A method of the set is selected by its own name, and its receiver fits.
pub set_selects : (alone : Bool) (ids : List Id) (all : List (List Hit)) (f : Method) → Has (methods_of alone ids all) f
    → (th : Bool) × (kept alone (selected_in f.name f.package all) ≡ selected.Method f th) × Fits f th
set_selects alone [] all f h = absurd h
set_selects alone (i ∷ ids) all f h = by_place (has_split (in_set i.1 (kept alone (selected_in i.0 i.1 all))) (methods_of alone ids all) f h) (set_selects alone ids all f) where
  own : (th : Bool) × (kept alone (selected_in i.0 i.1 all) ≡ selected.Method f th) × Fits f th × (f.package ≡ i.1) → (th : Bool) × (kept alone (selected_in f.name f.package all) ≡ selected.Method f th) × Fits f th
  own s =
      let name_is : f.name ≡ i.0 = selected_name i.0 i.1 f s.0 all (kept_method alone (selected_in i.0 i.1 all) f s.0 s.1).0 in
      (s.0, (λ k. kept alone (selected_in (name_is k) (s.3 k) all)) ∙ s.1, s.2)

  by_place : Has (in_set i.1 (kept alone (selected_in i.0 i.1 all))) f ⊎ Has (methods_of alone ids all) f
      → (Has (methods_of alone ids all) f → (th : Bool) × (kept alone (selected_in f.name f.package all) ≡ selected.Method f th) × Fits f th)
      → (th : Bool) × (kept alone (selected_in f.name f.package all) ≡ selected.Method f th) × Fits f th
  by_place (inl k) go = own (in_set_has i.1 (kept alone (selected_in i.0 i.1 all)) f k)
  by_place (inr k) go = go k

set_has_from : (alone : Bool) (ids : List Id) (all : List (List Hit)) (f : Method) (th : Bool) → Has ids (f.name, f.package) → kept alone (selected_in f.name f.package all) ≡ selected.Method f th → Fits f th
    → Has (methods_of alone ids all) f
set_has_from alone [] all f th h e ok = absurd h
set_has_from alone (i ∷ ids) all f th (inl same) e ok =
    let here : in_set i.1 (kept alone (selected_in i.0 i.1 all)) ≡ in_set f.package (selected.Method f th) = ap (λ (j : Id). in_set j.1 (kept alone (selected_in j.0 j.1 all))) same ∙ ap (in_set f.package) e in
    has_left (in_set i.1 (kept alone (selected_in i.0 i.1 all))) (methods_of alone ids all) f (let P : List Method → Type 0 = λ l. Has l f in subst P (sym here) (in_set_of f th ok))
set_has_from alone (i ∷ ids) all f th (inr k) e ok = has_right (in_set i.1 (kept alone (selected_in i.0 i.1 all))) (methods_of alone ids all) f (set_has_from alone ids all f th k e ok)

-- A method that is selected by its own name, and whose receiver fits, is in the set.
pub set_has : (alone : Bool) (all : List (List Hit)) (f : Method) (th : Bool) → kept alone (selected_in f.name f.package all) ≡ selected.Method f th → Fits f th → Has (methods_of alone (ids_of all) all) f
set_has alone all f th e ok =
    let at = found_in f.name f.package f th all (kept_method alone (selected_in f.name f.package all) f th e).0 in
    let own : Has (ids_of all) (id_of at.hit) = ids_own all at.level at.hit at.has_level at.has_hit in
    let P : Member → Type 0 = λ y. Has (ids_of all) (name_of y, package_of y) in
    set_has_from alone (ids_of all) all f th (subst P at.is own) e ok

-- ---- what is told of all levels is what is selected

module _ (N L : Type 0) (m : Sigs) (n : ℕ) (x q : List ℕ) where
  pub picked_value : (deeper : Rule N L Selected) (s : Selected) (hs : List Hit) → value m deeper ≡ told s → value m (chosen deeper hs) ≡ told (picked s hs)
  unfolding value
  picked_value deeper s [] h = h
  picked_value deeper s (i ∷ []) h = refl
  picked_value deeper s (i ∷ j ∷ more) h = refl

  pub least_told : (d k : ℕ) (rs : List Reached) (all : List (List Hit)) → value m (let r : Rule N L (List (List Hit)) = depths n d k rs in r) ≡ told all
      → value m (let r : Rule N L Selected = least n x q d k rs in r) ≡ told (selected_in x q all)
  unfolding depths least value
  least_told d zero rs all h = let e : all ≡ [] = (cc) in ap (λ (l : List (List Hit)). told (selected_in x q l)) (sym e)
  least_told d (suc k) rs all h =
      value_bind m (let r : Rule N L (List Hit) = each (members_at n d) rs in r) _
      ∙ by_here (value m (let r : Rule N L (List Hit) = each (members_at n d) rs in r)) (least_told (d + 1) k rs)
      (sym (value_bind m (let r : Rule N L (List Hit) = each (members_at n d) rs in r) (λ hs. depths n (d + 1) k rs >>= (λ all. done (hs ∷ all)))
      ∙ andthen_same (value m (let r : Rule N L (List Hit) = each (members_at n d) rs in r)) _ _ (λ hs. value_bind m (let r : Rule N L (List (List Hit)) = depths n (d + 1) k rs in r) (λ all. done (hs ∷ all)))) ∙ h) where
        by_rest : (hs : List Hit) (p : Told Symbol (List (List Hit))) → value m (let r : Rule N L (List (List Hit)) = depths n (d + 1) k rs in r) ≡ p → ((rest : List (List Hit)) → value m (let r : Rule N L (List (List Hit)) = depths n (d + 1) k rs in r) ≡ told rest → value m (let r : Rule N L Selected = least n x q (d + 1) k rs in r) ≡ told (selected_in x q rest))
            → andthen p (λ all. told (hs ∷ all)) ≡ told all → value m (let r : Rule N L Selected = chosen (least n x q (d + 1) k rs) (bearing x q hs) in r) ≡ told (selected_in x q all)
        by_rest hs (told rest) e go h =
            let is : hs ∷ rest ≡ all = (cc) in
            picked_value (least n x q (d + 1) k rs) (selected_in x q rest) (bearing x q hs) (go rest e) ∙ ap (λ (l : List (List Hit)). told (selected_in x q l)) is
        by_rest hs (stuck s) e go h = absurd (cc)

        by_here : (o : Told Symbol (List Hit)) → ((rest : List (List Hit)) → value m (let r : Rule N L (List (List Hit)) = depths n (d + 1) k rs in r) ≡ told rest → value m (let r : Rule N L Selected = least n x q (d + 1) k rs in r) ≡ told (selected_in x q rest))
            → andthen o (λ hs. andthen (value m (let r : Rule N L (List (List Hit)) = depths n (d + 1) k rs in r)) (λ all. told (hs ∷ all))) ≡ told all
            → andthen o (λ hs. value m (let r : Rule N L Selected = chosen (least n x q (d + 1) k rs) (bearing x q hs) in r)) ≡ told (selected_in x q all)
        by_here (told hs) go h = by_rest hs (value m (let r : Rule N L (List (List Hit)) = depths n (d + 1) k rs in r)) refl go h
        by_here (stuck s) go h = absurd (cc)

module _ (N L : Type 0) (m : Sigs) (t : Term) where
  -- all levels are told, and the set is what they have
  pub record IsToldOf (ms : List Method) : Type 0 where
    pub from : Start
    pub at : value m (let r : Rule N L Start = start furthest t in r) ≡ told from
    pub levels : List (List Hit)
    pub told_levels : value m (let r : Rule N L (List (List Hit)) = depths furthest 0 furthest from.from in r) ≡ told levels
    pub is : ms ≡ methods_of from.fields_alone (ids_of levels) levels

  pub set_told : (ms : List Method) → value m (let r : Rule N L (List Method) = method_set t in r) ≡ told ms → IsToldOf ms
  unfolding value
  set_told ms h = by_start (value m (let r : Rule N L Start = start furthest t in r)) refl (sym (value_bind m (let r : Rule N L Start = start furthest t in r) (method_set_within furthest)) ∙ h) where
    by_levels : (s : Start) → value m (let r : Rule N L Start = start furthest t in r) ≡ told s → (o : Told Symbol (List (List Hit))) → value m (let r : Rule N L (List (List Hit)) = depths furthest 0 furthest s.from in r) ≡ o
        → andthen o (λ all. told (methods_of s.fields_alone (ids_of all) all)) ≡ told ms → IsToldOf ms
    by_levels s e (told all) f h = record { from = s; at = e; levels = all; told_levels = f; is = (cc) }
    by_levels s e (stuck y) f h = absurd (cc)

    by_start : (o : Told Symbol Start) → value m (let r : Rule N L Start = start furthest t in r) ≡ o → andthen o (λ s. value m (let r : Rule N L (List Method) = method_set_within furthest s in r)) ≡ told ms → IsToldOf ms
    by_start (told s) e h =
        by_levels s e (value m (let r : Rule N L (List (List Hit)) = depths furthest 0 furthest s.from in r)) refl
        (sym (value_bind m (let r : Rule N L (List (List Hit)) = depths furthest 0 furthest s.from in r) (λ all. done (methods_of s.fields_alone (ids_of all) all))) ∙ h)
    by_start (stuck y) e h = absurd (cc)

  pub selection_told : (ms : List Method) (o : IsToldOf ms) (x q : List ℕ) → value m (let r : Rule N L Selected = selection t x q in r) ≡ told (kept o.from.fields_alone (selected_in x q o.levels))
  unfolding value
  selection_told ms o x q =
      value_bind m (let r : Rule N L Start = start furthest t in r) (select_within furthest x q)
      ∙ ap (λ (p : Told Symbol Start). andthen p (λ s. value m (let r : Rule N L Selected = select_within furthest x q s in r))) o.at
      ∙ value_bind m (let r : Rule N L Selected = least furthest x q 0 furthest o.from.from in r) (λ f. done (kept o.from.fields_alone f))
      ∙ ap (λ (p : Told Symbol Selected). andthen p (λ f. told (kept o.from.fields_alone f))) (least_told N L m furthest x q 0 furthest o.from.from o.levels o.told_levels)
