-- The names of levels stand sorted, each once, so that two lists with the same names are equal.
use Rattle.std.proofs.Common.{◌≡◌, ℕ, List, [], ◌∷◌, refl, ap, sym, ◌∙◌, ◌⊎◌, inl, inr}
use Rattle.std.specs.Ordering.{nat_cmp, ordering_then, ordering_reverse}
use Rattle.std.specs.Cmp.Lexicographic.{slice_cmp, nat_list_cmp_total}
use Rattle.std.specs.declared.cmp.Ordering.{Ordering}
use Rattle.std.specs.declared.cmp.Ordering.TheVariants as order
use Rattle.std.proofs.lemmas.Map.Lookups.{exact_bytes}
use Rattle.gs_ask.specs.Members.{Hit}
use Rattle.gs_ask.specs.MethodSets.{Id, id_of, id_cmp, placed, with_id, level_ids, ids_of}
use Rattle.gs_ask.proofs.MethodSetsLemmas.{Has}

abbrev text_cmp : List ℕ → List ℕ → Ordering
text_cmp = slice_cmp nat_cmp

abbrev Below : Id → Id → Type 0
Below i j = id_cmp i j ≡ order.Less

turned : (a b : Ordering) → a ≡ ordering_reverse b → a ≡ order.Greater → b ≡ order.Less
turned a order.Less e h = refl
turned a order.Equal e h = absurd (let f : ordering_reverse order.Equal ≡ order.Greater = sym e ∙ h in (cc))
turned a order.Greater e h = absurd (let f : ordering_reverse order.Greater ≡ order.Greater = sym e ∙ h in (cc))

turned_equal : (a b : Ordering) → a ≡ ordering_reverse b → a ≡ order.Equal → b ≡ order.Equal
turned_equal a order.Less e h = absurd (let f : ordering_reverse order.Less ≡ order.Equal = sym e ∙ h in (cc))
turned_equal a order.Equal e h = refl
turned_equal a order.Greater e h = absurd (let f : ordering_reverse order.Greater ≡ order.Equal = sym e ∙ h in (cc))

text_itself : (x : List ℕ) → text_cmp x x ≡ order.Equal
text_itself x = itself (text_cmp x x) (nat_list_cmp_total.antisymm x x) where
  itself : (o : Ordering) → o ≡ ordering_reverse o → o ≡ order.Equal
  itself order.Less e = absurd (let f : order.Less ≡ order.Greater = e in (cc))
  itself order.Equal e = refl
  itself order.Greater e = absurd (let f : order.Greater ≡ order.Less = e in (cc))

id_itself : (i : Id) → id_cmp i i ≡ order.Equal
id_itself i = ap (λ o. ordering_then o (text_cmp i.1 i.1)) (text_itself i.0) ∙ text_itself i.1

not_itself : (i : Id) → Below i i → ⊥
not_itself i h = let e = id_itself i in (cc)

above : (i j : Id) → id_cmp i j ≡ order.Greater → Below j i
above i j h = by_first (text_cmp i.0 j.0) refl h where
  by_first : (o : Ordering) → text_cmp i.0 j.0 ≡ o → ordering_then o (text_cmp i.1 j.1) ≡ order.Greater → Below j i
  by_first order.Less e h = absurd (let f : order.Less ≡ order.Greater = h in (cc))
  by_first order.Equal e h =
      ap (λ o. ordering_then o (text_cmp j.1 i.1)) (turned_equal (text_cmp i.0 j.0) (text_cmp j.0 i.0) (nat_list_cmp_total.antisymm i.0 j.0) e)
      ∙ turned (text_cmp i.1 j.1) (text_cmp j.1 i.1) (nat_list_cmp_total.antisymm i.1 j.1) h
  by_first order.Greater e h =
      ap (λ o. ordering_then o (text_cmp j.1 i.1)) (turned (text_cmp i.0 j.0) (text_cmp j.0 i.0) (nat_list_cmp_total.antisymm i.0 j.0) e)

below_trans : (i j k : Id) → Below i j → Below j k → Below i k
below_trans i j k h g = by_firsts (text_cmp i.0 j.0) (text_cmp j.0 k.0) refl refl h g where
  by_firsts : (o p : Ordering) → text_cmp i.0 j.0 ≡ o → text_cmp j.0 k.0 ≡ p → ordering_then o (text_cmp i.1 j.1) ≡ order.Less → ordering_then p (text_cmp j.1 k.1) ≡ order.Less → Below i k
  by_firsts order.Less order.Less e f h g = ap (λ o. ordering_then o (text_cmp i.1 k.1)) (nat_list_cmp_total.trans i.0 j.0 k.0 e f)
  by_firsts order.Less order.Equal e f h g = ap (λ o. ordering_then o (text_cmp i.1 k.1)) (ap (text_cmp i.0) (sym (exact_bytes j.0 k.0 f)) ∙ e)
  by_firsts order.Equal order.Less e f h g = ap (λ o. ordering_then o (text_cmp i.1 k.1)) (ap (λ x. text_cmp x k.0) (exact_bytes i.0 j.0 e) ∙ f)
  by_firsts order.Equal order.Equal e f h g =
      ap (λ o. ordering_then o (text_cmp i.1 k.1)) (ap (λ x. text_cmp x k.0) (exact_bytes i.0 j.0 e) ∙ f) ∙ nat_list_cmp_total.trans i.1 j.1 k.1 h g
  by_firsts order.Greater p e f h g = absurd (let z : order.Greater ≡ order.Less = h in (cc))
  by_firsts order.Less order.Greater e f h g = absurd (let z : order.Greater ≡ order.Less = g in (cc))
  by_firsts order.Equal order.Greater e f h g = absurd (let z : order.Greater ≡ order.Less = g in (cc))

-- ---- sorted lists

abbrev pub AllAbove : Id → List Id → Type 0
AllAbove i [] = Unit {0}
AllAbove i (j ∷ js) = Below i j × AllAbove i js

abbrev pub IsSortedIds : List Id → Type 0
IsSortedIds [] = Unit {0}
IsSortedIds (i ∷ is) = AllAbove i is × IsSortedIds is

above_has : (i k : Id) (js : List Id) → AllAbove i js → Has js k → Below i k
above_has i k [] h g = absurd g
above_has i k (j ∷ js) h (inl e) = ap (id_cmp i) (sym e) ∙ h.0
above_has i k (j ∷ js) h (inr g) = above_has i k js h.1 g

above_more : (i j : Id) (js : List Id) → Below i j → AllAbove j js → AllAbove i js
above_more i j [] b h = tt
above_more i j (k ∷ js) b h = (below_trans i j k b h.0, above_more i j js b h.1)

above_with : (i k : Id) (js : List Id) → Below i k → AllAbove i js → AllAbove i (with_id k js)
above_with i k [] b h = (b, tt)
above_with i k (j ∷ js) b h = by_order (id_cmp k j) (above_with i k js b h.1) where
  by_order : (o : Ordering) → AllAbove i (with_id k js) → AllAbove i (placed o k j js (with_id k js))
  by_order order.Less ih = (b, h)
  by_order order.Equal ih = h
  by_order order.Greater ih = (h.0, ih)

with_sorted : (i : Id) (js : List Id) → IsSortedIds js → IsSortedIds (with_id i js)
with_sorted i [] h = (tt, tt)
with_sorted i (j ∷ js) h = by_order (id_cmp i j) refl (with_sorted i js h.1) where
  by_order : (o : Ordering) → id_cmp i j ≡ o → IsSortedIds (with_id i js) → IsSortedIds (placed o i j js (with_id i js))
  by_order order.Less e ih = ((e, above_more i j js e h.0), h)
  by_order order.Equal e ih = h
  by_order order.Greater e ih = (above_with j i js (above i j e) h.0, ih)

level_sorted : (hs : List Hit) (ids : List Id) → IsSortedIds ids → IsSortedIds (level_ids hs ids)
level_sorted [] ids h = h
level_sorted (i ∷ hs) ids h = with_sorted (id_of i) (level_ids hs ids) (level_sorted hs ids h)

-- the names of levels are sorted, each once
pub ids_sorted : (all : List (List Hit)) → IsSortedIds (ids_of all)
ids_sorted [] = tt
ids_sorted (hs ∷ all) = level_sorted hs (ids_of all) (ids_sorted all)

pub sorted_same : (is js : List Id) → IsSortedIds is → IsSortedIds js → ((k : Id) → Has is k → Has js k) → ((k : Id) → Has js k → Has is k) → is ≡ js
sorted_same [] [] h g to back = refl
sorted_same [] (j ∷ js) h g to back = absurd (back j (inl refl))
sorted_same (i ∷ is) [] h g to back = absurd (to i (inl refl))
sorted_same (i ∷ is) (j ∷ js) h g to back = λ z. same z ∷ sorted_same is js h.1 g.1 (λ k q. to_rest k q (to k (inr q))) (λ k q. back_rest k q (back k (inr q))) z where
  by_heads : (j ≡ i) ⊎ Has js i → (i ≡ j) ⊎ Has is j → i ≡ j
  by_heads (inl e) r = sym e
  by_heads (inr q) (inl e) = e
  by_heads (inr q) (inr r) = absurd (not_itself i (below_trans i j i (above_has i j is h.0 r) (above_has j i js g.0 q)))

  same : i ≡ j
  same = by_heads (to i (inl refl)) (back j (inl refl))

  to_rest : (k : Id) → Has is k → (j ≡ k) ⊎ Has js k → Has js k
  to_rest k q (inl e) = absurd (not_itself i (let b = above_has i k is h.0 q in ap (id_cmp i) (same ∙ e) ∙ b))
  to_rest k q (inr r) = r

  back_rest : (k : Id) → Has js k → (i ≡ k) ⊎ Has is k → Has is k
  back_rest k q (inl e) = absurd (not_itself j (let b = above_has j k js g.0 q in ap (id_cmp j) (sym same ∙ e) ∙ b))
  back_rest k q (inr r) = r
