-- Method sets level by level are those over all ways.
use Rattle.std.proofs.Common.{◌≡◌, ℕ, zero, suc, ◌+◌, Bool, true, List, [], ◌∷◌, ◌++◌, refl, ap, sym, ◌∙◌, subst, ◌⊎◌, inl, inr, add-one}
use Rattle.gs_terms.specs.declared.symbol.Symbol.{Symbol}
use Rattle.gs_terms.specs.declared.term.Method.{Method}
use Rattle.gs_terms.specs.Term.{Term, named}
use Rattle.gs_ask.specs.declared.select.Selected.{Selected}
use Rattle.gs_ask.specs.Ask.{done, ◌>>=◌}
use Rattle.gs_ask.specs.Reply.{Sigs, Rule}
use Rattle.gs_ask.specs.Under.{furthest}
use Rattle.gs_ask.specs.Members.{Reached, Hit, Opened, opened, each, members_at, Start, start}
use Rattle.gs_ask.specs.Selection.{bearing, chosen, kept}
use Rattle.gs_ask.specs.MethodSets.{Id, id_of, ids_of, selected_in, in_set, methods_of, depths, method_set_within, method_set}
use Rattle.gs_ask.specs.Levels.{opened_all, level_hits, next_level, with_names, is_met, fresh, first_level, level_members, methods_within, method_set_by_levels}
use Rattle.gs_ask.proofs.Quiet.{Told, told, stuck, value, andthen, value_bind, andthen_same}
use Rattle.gs_ask.proofs.Twice.{Once}
use Rattle.gs_ask.proofs.Ways.{types, AllIn, look, Ready, AllReady, opened_list, hits_all, further_all, hits_listed, further_listed, at_all, here, below, level_waits, opened_told, level_cases}
use Rattle.gs_ask.proofs.Thinned.{Thin, all_map, thin_trans, thin_covers, met_before, fresh_thin}
use Rattle.gs_ask.proofs.LevelsLemmas.{kids, inside, thin_ready, thin_waits, thin_inside, once_all_ready, once_kids, thin_refl, least_is_first}
use Rattle.gs_ask.proofs.MethodSetsLemmas.{Has, found_in, ids_own, in_set_has, kept_method, selected_name, picked_value, least_told}
use Rattle.gs_ask.proofs.Ids.{IsSortedIds, ids_sorted, sorted_same}

-- both are told, or both wait for one name
abbrev pub Matches : {A B : Type 0} → Told Symbol A → Told Symbol B → Type 0
Matches (told a) (told b) = Unit {0}
Matches (told a) (stuck s) = ⊥
Matches (stuck s) (told b) = ⊥
Matches (stuck s) (stuck z) = s ≡ z

matches_cons : {A : Type 0} (o p : Told Symbol (List A)) (a b : A) → Matches o p → Matches (andthen o (λ all. told (a ∷ all))) (andthen p (λ all. told (b ∷ all)))
matches_cons (told as') (told bs) a b h = tt
matches_cons (told as') (stuck s) a b h = absurd h
matches_cons (stuck s) (told bs) a b h = absurd h
matches_cons (stuck s) (stuck z) a b h = h

matches_along : {A B : Type 0} (o o' : Told Symbol A) (p p' : Told Symbol B) → o ≡ o' → p ≡ p' → Matches o' p' → Matches o p
matches_along {A} {B} o o' p p' e f h =
    let P : Told Symbol A → Type 0 = λ x. Matches x p in
    let Q : Told Symbol B → Type 0 = λ x. Matches o' x in
    subst P (sym e) (subst Q (sym f) h)

module _ (N L : Type 0) (m : Sigs) (n : ℕ) where
  -- ---- all ways, level by level

  depths_from : ℕ → ℕ → List Reached → Told Symbol (List (List Hit))
  depths_from d zero rs = told []
  depths_from d (suc k) rs = andthen (at_all N L m n d rs) (λ hs. andthen (depths_from (suc d) k rs) (λ all. told (hs ∷ all)))

  depths_value : (k d : ℕ) (rs : List Reached) → look N L m n (depths n d k rs) ≡ depths_from d k rs
  unfolding depths depths_from value
  depths_value zero d rs = refl
  depths_value (suc k) d rs =
      value_bind m (each (members_at n d) rs) (λ hs. depths n (d + 1) k rs >>= (λ all. done (hs ∷ all)))
      ∙ andthen_same (at_all N L m n d rs) _ _ (λ hs. value_bind m (depths n (d + 1) k rs) (λ all. done (hs ∷ all))
      ∙ ap (λ (o : Told Symbol (List (List Hit))). andthen o (λ all. told (hs ∷ all))) (ap (λ e. look N L m n (depths n e k rs)) (add-one d) ∙ depths_value k (suc d) rs))

  shift : (rs : List Reached) → AllReady N L m n rs → (k d : ℕ) → depths_from (suc d) k rs ≡ depths_from d k (further_all N L m n rs)
  unfolding depths_from
  shift rs h zero d = refl
  shift rs h (suc k) d =
      ap (λ o. andthen o (λ hs. andthen (depths_from (suc (suc d)) k rs) (λ all. told (hs ∷ all)))) (below N L m n d rs h)
      ∙ andthen_same (at_all N L m n d (further_all N L m n rs)) _ _ (λ hs. ap (λ (o : Told Symbol (List (List Hit))). andthen o (λ all. told (hs ∷ all))) (shift rs h k (suc d)))

  depths_ready : (k : ℕ) (rs : List Reached) → AllReady N L m n rs → depths_from 0 (suc k) rs ≡ andthen (depths_from 0 k (further_all N L m n rs)) (λ all. told (hits_all N L m n rs ∷ all))
  unfolding depths_from
  depths_ready k rs h =
      ap (λ o. andthen o (λ hs. andthen (depths_from 1 k rs) (λ all. told (hs ∷ all)))) (here N L m n rs h)
      ∙ ap (λ (o : Told Symbol (List (List Hit))). andthen o (λ all. told (hits_all N L m n rs ∷ all))) (shift rs h k 0)

  depths_stuck : (k : ℕ) (rs : List Reached) (s : Symbol) → look N L m n (opened_all n rs) ≡ stuck s → depths_from 0 (suc k) rs ≡ stuck s
  unfolding depths_from
  depths_stuck k rs s h = ap (λ o. andthen o (λ hs. andthen (depths_from 1 k rs) (λ all. told (hs ∷ all)))) (level_waits N L m n rs s h)

  -- ---- without what is left out

  abbrev rest : ℕ → List Symbol → List Reached → Rule N L (List (List Hit))
  rest k qs rs = level_members n k (with_names rs qs) (fresh (with_names rs qs) [] (inside N L m n [] [] rs))

  levels_ready : (k : ℕ) (qs : List Symbol) (rs : List Reached) → AllReady N L m n rs
      → look N L m n (level_members n (suc k) qs rs) ≡ andthen (look N L m n (rest k qs rs)) (λ all. told (hits_all N L m n rs ∷ all))
  unfolding level_members value
  levels_ready k qs rs h =
      value_bind m (opened_all n rs) _
      ∙ ap (λ (o : Told Symbol (List Opened)). andthen o (λ os. look N L m n (level_members n k (with_names rs qs) (fresh (with_names rs qs) [] (next_level rs os)) >>= (λ all. done (level_hits rs os ∷ all))))) (opened_told N L m n rs h)
      ∙ value_bind m (level_members n k (with_names rs qs) (fresh (with_names rs qs) [] (next_level rs (opened_list N L m n rs)))) (λ all. done (level_hits rs (opened_list N L m n rs) ∷ all))
      ∙ ap (λ (l : List Reached). andthen (look N L m n (level_members n k (with_names rs qs) (fresh (with_names rs qs) [] l))) (λ all. told (level_hits rs (opened_list N L m n rs) ∷ all))) (further_listed N L m n rs)
      ∙ ap (λ (l : List Hit). andthen (look N L m n (rest k qs rs)) (λ all. told (l ∷ all))) (hits_listed N L m n rs)

  levels_stuck : (k : ℕ) (qs : List Symbol) (rs : List Reached) (s : Symbol) → look N L m n (opened_all n rs) ≡ stuck s → look N L m n (level_members n (suc k) qs rs) ≡ stuck s
  unfolding level_members
  levels_stuck k qs rs s h =
      value_bind m (opened_all n rs) _
      ∙ ap (λ (o : Told Symbol (List Opened)). andthen o (λ os. look N L m n (level_members n k (with_names rs qs) (fresh (with_names rs qs) [] (next_level rs os)) >>= (λ all. done (level_hits rs os ∷ all))))) h

  -- The type was opened, and its embedded types are of H or stand in the level.
  record Passed (H : Term → Type 0) (level : List Term) (t : Term) : Type 0 where
    ready : Ready N L m n t
    kids_in : AllIn (λ c. H c ⊎ Once level c) (kids N L m n [] [] t)

  abbrev Next : (Term → Type 0) → List Reached → Term → Type 0
  Next H ls c = H c ⊎ Once (types ls) c

  abbrev Holds : ℕ → Type 1
  Holds k = (H : Term → Type 0) (qs : List Symbol) (ls ts : List Reached) → ((t : Term) → H t → Passed H (types ls) t) → ((c : Term) → is_met qs c ≡ true → H c) → Thin H [] ls ts
      → Matches (depths_from 0 k ts) (look N L m n (level_members n k qs ls))

  thin_depths : (k : ℕ) → Holds k
  unfolding depths_from level_members value
  thin_depths zero H qs ls ts passed old thin = tt
  thin_depths (suc k) H qs ls ts passed old thin = by_case (thin_depths k) (level_cases N L m n ls) where
    met : (c : Term) → is_met (with_names ls qs) c ≡ true → Next H ls c
    met = met_before H qs old ls

    fresh_in : AllIn (λ c. Next H ls c ⊎ Once (types (fresh (with_names ls qs) [] (inside N L m n [] [] ls))) c) (types (inside N L m n [] [] ls))
    fresh_in = thin_covers (Next H ls) [] (fresh (with_names ls qs) [] (inside N L m n [] [] ls)) (inside N L m n [] [] ls) (fresh_thin (Next H ls) (with_names ls qs) met (inside N L m n [] [] ls))

    passed' : AllReady N L m n ls → (t : Term) → Next H ls t → Passed (Next H ls) (types (fresh (with_names ls qs) [] (inside N L m n [] [] ls))) t
    passed' ok t (inl h) =
        let s = passed t h in
        record { ready = s.ready; kids_in = all_map (Next H ls) (λ c. Next H ls c ⊎ Once (types (fresh (with_names ls qs) [] (inside N L m n [] [] ls))) c) (λ c i. inl i) (kids N L m n [] [] t) s.kids_in }
    passed' ok t (inr h) = record {
      ready = once_all_ready N L m n [] [] ls t ok h;
      kids_in = once_kids N L m n [] [] (λ c. Next H ls c ⊎ Once (types (fresh (with_names ls qs) [] (inside N L m n [] [] ls))) c) ls t fresh_in h;
    }

    thin' : Thin (Next H ls) [] (fresh (with_names ls qs) [] (inside N L m n [] [] ls)) (inside N L m n [] [] ts)
    thin' = thin_trans (Next H ls) (fresh (with_names ls qs) [] (inside N L m n [] [] ls)) (inside N L m n [] [] ls) (inside N L m n [] [] ts)
        (fresh_thin (Next H ls) (with_names ls qs) met (inside N L m n [] [] ls)) (thin_inside N L m n [] [] H (Next H ls) (λ t h. (passed t h).kids_in) ls ts thin)

    by_case : Holds k → AllReady N L m n ls ⊎ ((s : Symbol) × (look N L m n (opened_all n ls) ≡ stuck s)) → Matches (depths_from 0 (suc k) ts) (look N L m n (level_members n (suc k) qs ls))
    by_case ih (inl ok) =
        matches_along (depths_from 0 (suc k) ts) (andthen (depths_from 0 k (further_all N L m n ts)) (λ all. told (hits_all N L m n ts ∷ all)))
        (look N L m n (level_members n (suc k) qs ls)) (andthen (look N L m n (rest k qs ls)) (λ all. told (hits_all N L m n ls ∷ all)))
        (depths_ready k ts (thin_ready N L m n [] [] H [] ls ts (λ t h. (passed t h).ready) tt thin ok)) (levels_ready k qs ls ok)
        (matches_cons (depths_from 0 k (further_all N L m n ts)) (look N L m n (rest k qs ls)) (hits_all N L m n ts) (hits_all N L m n ls)
        (ih (Next H ls) (with_names ls qs) (fresh (with_names ls qs) [] (inside N L m n [] [] ls)) (inside N L m n [] [] ts) (passed' ok) met thin'))
    by_case ih (inr w) =
        matches_along (depths_from 0 (suc k) ts) (stuck w.0) (look N L m n (level_members n (suc k) qs ls)) (stuck w.0)
        (depths_stuck k ts w.0 (thin_waits N L m n [] [] H [] ls ts w.0 (λ t h. (passed t h).ready) tt thin w.1)) (levels_stuck k qs ls w.0 w.1) refl

  pub depths_match : (k : ℕ) (rs : List Reached) → Matches (look N L m n (depths n 0 k rs)) (look N L m n (level_members n k [] rs))
  depths_match k rs =
      matches_along (look N L m n (depths n 0 k rs)) (depths_from 0 k rs) (look N L m n (level_members n k [] rs)) (look N L m n (level_members n k [] rs)) (depths_value k 0 rs) refl
      (thin_depths k (λ c. ⊥) [] rs rs (λ t h. absurd h) unmet (thin_refl N L m n [] [] (λ c. ⊥) [] rs)) where
        unmet : (c : Term) → is_met [] c ≡ true → ⊥
        unmet (named s) h = (cc)
        unmet _ h = (cc)

  -- ---- what they select

  first_told : (x q : List ℕ) (k : ℕ) (qs : List Symbol) (rs : List Reached) (all : List (List Hit)) → look N L m n (level_members n k qs rs) ≡ told all
      → look N L m n (first_level n x q k qs rs) ≡ told (selected_in x q all)
  unfolding level_members first_level value
  first_told x q zero qs rs all h = let e : all ≡ [] = (cc) in ap (λ (l : List (List Hit)). told (selected_in x q l)) (sym e)
  first_told x q (suc k) qs rs all h =
      value_bind m (opened_all n rs) _
      ∙ by_here (look N L m n (opened_all n rs)) (λ os. first_told x q k (with_names rs qs) (fresh (with_names rs qs) [] (next_level rs os)))
      (sym (value_bind m (opened_all n rs) (λ os. level_members n k (with_names rs qs) (fresh (with_names rs qs) [] (next_level rs os)) >>= (λ all. done (level_hits rs os ∷ all)))
      ∙ andthen_same (look N L m n (opened_all n rs)) _ _ (λ os. value_bind m (level_members n k (with_names rs qs) (fresh (with_names rs qs) [] (next_level rs os))) (λ all. done (level_hits rs os ∷ all)))) ∙ h) where
        by_rest : (os : List Opened) (p : Told Symbol (List (List Hit))) → look N L m n (level_members n k (with_names rs qs) (fresh (with_names rs qs) [] (next_level rs os))) ≡ p
            → ((more : List (List Hit)) → look N L m n (level_members n k (with_names rs qs) (fresh (with_names rs qs) [] (next_level rs os))) ≡ told more
            → look N L m n (first_level n x q k (with_names rs qs) (fresh (with_names rs qs) [] (next_level rs os))) ≡ told (selected_in x q more))
            → andthen p (λ all. told (level_hits rs os ∷ all)) ≡ told all
            → look N L m n (chosen (first_level n x q k (with_names rs qs) (fresh (with_names rs qs) [] (next_level rs os))) (bearing x q (level_hits rs os))) ≡ told (selected_in x q all)
        by_rest os (told more) e go h =
            let is : level_hits rs os ∷ more ≡ all = (cc) in
            picked_value N L m n x q (first_level n x q k (with_names rs qs) (fresh (with_names rs qs) [] (next_level rs os))) (selected_in x q more) (bearing x q (level_hits rs os)) (go more e) ∙ ap (λ (l : List (List Hit)). told (selected_in x q l)) is
        by_rest os (stuck s) e go h = absurd (cc)

        by_here : (o : Told Symbol (List Opened))
            → ((os : List Opened) (more : List (List Hit)) → look N L m n (level_members n k (with_names rs qs) (fresh (with_names rs qs) [] (next_level rs os))) ≡ told more
            → look N L m n (first_level n x q k (with_names rs qs) (fresh (with_names rs qs) [] (next_level rs os))) ≡ told (selected_in x q more))
            → andthen o (λ os. andthen (look N L m n (level_members n k (with_names rs qs) (fresh (with_names rs qs) [] (next_level rs os)))) (λ all. told (level_hits rs os ∷ all))) ≡ told all
            → andthen o (λ os. look N L m n (chosen (first_level n x q k (with_names rs qs) (fresh (with_names rs qs) [] (next_level rs os))) (bearing x q (level_hits rs os)))) ≡ told (selected_in x q all)
        by_here (told os) go h = by_rest os (look N L m n (level_members n k (with_names rs qs) (fresh (with_names rs qs) [] (next_level rs os)))) refl (go os) h
        by_here (stuck s) go h = absurd (cc)

  abbrev told_one : Selected → Told Symbol Selected
  told_one s = told s

  one_told : (a b : Selected) → told_one a ≡ told_one b → a ≡ b
  one_told a b h = (cc)

  select_same : (k : ℕ) (rs : List Reached) (all few : List (List Hit)) → look N L m n (depths n 0 k rs) ≡ told all → look N L m n (level_members n k [] rs) ≡ told few
      → (x q : List ℕ) → selected_in x q all ≡ selected_in x q few
  select_same k rs all few h g x q =
      one_told (selected_in x q all) (selected_in x q few)
      (sym (least_told N L m n x q 0 k rs all h) ∙ least_is_first N L m n x q k rs ∙ first_told x q k [] rs few g)

-- ---- the names that count

module _ (g : Id → List Method) where
  live_by : List Method → Id → List Id → List Id
  live_by [] i is = is
  live_by (f ∷ fs) i is = i ∷ is

  -- the names that give a method
  alive : List Id → List Id
  alive [] = []
  alive (i ∷ is) = live_by (g i) i (alive is)

  alive_has : (is : List Id) (k : Id) → Has (alive is) k → Has is k × ((f : Method) × Has (g k) f)
  unfolding alive live_by
  alive_has [] k h = absurd h
  alive_has (i ∷ is) k h = by_live (g i) refl h (alive_has is k) where
    by_live : (fs : List Method) → g i ≡ fs → Has (live_by fs i (alive is)) k → (Has (alive is) k → Has is k × ((f : Method) × Has (g k) f)) → Has (i ∷ is) k × ((f : Method) × Has (g k) f)
    by_live [] e h go = let r = go h in (inr r.0, r.1)
    by_live (f ∷ fs) e (inl same) go = (inl same, (f, (let P : Id → Type 0 = λ j. Has (g j) f in subst P same (let Q : List Method → Type 0 = λ l. Has l f in subst Q (sym e) (inl refl)))))
    by_live (f ∷ fs) e (inr h) go = let r = go h in (inr r.0, r.1)

  has_alive : (is : List Id) (k : Id) (f : Method) → Has is k → Has (g k) f → Has (alive is) k
  unfolding alive live_by
  has_alive [] k f h l = absurd h
  has_alive (i ∷ is) k f h l = by_live (g i) refl h (λ h. has_alive is k f h l) where
    by_live : (fs : List Method) → g i ≡ fs → Has (i ∷ is) k → (Has is k → Has (alive is) k) → Has (live_by fs i (alive is)) k
    by_live [] e (inl same) go = absurd (let P : List Method → Type 0 = λ l. Has l f in subst P (ap g (sym same) ∙ e) l)
    by_live [] e (inr h) go = go h
    by_live (f ∷ fs) e (inl same) go = inl same
    by_live (f ∷ fs) e (inr h) go = inr (go h)

  above_alive : (i : Id) (js : List Id) → Rattle.gs_ask.proofs.Ids.AllAbove i js → Rattle.gs_ask.proofs.Ids.AllAbove i (alive js)
  unfolding alive live_by
  above_alive i [] h = tt
  above_alive i (j ∷ js) h = by_live (g j) (above_alive i js h.1) where
    by_live : (fs : List Method) → Rattle.gs_ask.proofs.Ids.AllAbove i (alive js) → Rattle.gs_ask.proofs.Ids.AllAbove i (live_by fs j (alive js))
    by_live [] ih = ih
    by_live (f ∷ fs) ih = (h.0, ih)

  alive_sorted : (is : List Id) → IsSortedIds is → IsSortedIds (alive is)
  unfolding alive live_by
  alive_sorted [] h = tt
  alive_sorted (i ∷ is) h = by_live (g i) (alive_sorted is h.1) where
    by_live : (fs : List Method) → IsSortedIds (alive is) → IsSortedIds (live_by fs i (alive is))
    by_live [] ih = ih
    by_live (f ∷ fs) ih = (above_alive i is h.0, ih)

  flat : List Id → List Method
  flat [] = []
  flat (i ∷ is) = g i ++ flat is

  flat_alive : (is : List Id) → flat is ≡ flat (alive is)
  unfolding flat alive live_by
  flat_alive [] = refl
  flat_alive (i ∷ is) = by_live (g i) refl (flat_alive is) where
    by_live : (fs : List Method) → g i ≡ fs → flat is ≡ flat (alive is) → g i ++ flat is ≡ flat (live_by fs i (alive is))
    by_live [] e ih = ap (λ l. l ++ flat is) e ∙ ih
    by_live (f ∷ fs) e ih = ap (λ l. g i ++ l) ih

  flat_same : (is js : List Id) → IsSortedIds is → IsSortedIds js → ((k : Id) (f : Method) → Has (g k) f → Has is k × Has js k) → flat is ≡ flat js
  flat_same is js h i both =
      flat_alive is ∙ ap flat (sorted_same (alive is) (alive js) (alive_sorted is h) (alive_sorted js i) to back) ∙ sym (flat_alive js) where
        to : (k : Id) → Has (alive is) k → Has (alive js) k
        to k q = let r = (alive_has is k q).1 in has_alive js k r.0 (both k r.0 r.1).1 r.1

        back : (k : Id) → Has (alive js) k → Has (alive is) k
        back k q = let r = (alive_has js k q).1 in has_alive is k r.0 (both k r.0 r.1).0 r.1

abbrev gives : Bool → List (List Hit) → Id → List Method
gives alone all i = in_set i.1 (kept alone (selected_in i.0 i.1 all))

methods_flat : (alone : Bool) (all : List (List Hit)) (is : List Id) → methods_of alone is all ≡ flat (gives alone all) is
unfolding flat
methods_flat alone all [] = refl
methods_flat alone all (i ∷ is) = ap (λ l. in_set i.1 (kept alone (selected_in i.0 i.1 all)) ++ l) (methods_flat alone all is)

methods_same_select : (alone : Bool) (all few : List (List Hit)) → ((x q : List ℕ) → selected_in x q all ≡ selected_in x q few) → (is : List Id) → methods_of alone is all ≡ methods_of alone is few
methods_same_select alone all few same [] = refl
methods_same_select alone all few same (i ∷ is) = λ z. in_set i.1 (kept alone (same i.0 i.1 z)) ++ methods_same_select alone all few same is z

-- a name that gives a method is a name of the levels
named_there : (alone : Bool) (all : List (List Hit)) (k : Id) (f : Method) → Has (gives alone all k) f → Has (ids_of all) k
named_there alone all k f h =
    let s = in_set_has k.1 (kept alone (selected_in k.0 k.1 all)) f h in
    let e = (kept_method alone (selected_in k.0 k.1 all) f s.0 s.1).0 in
    let at = found_in k.0 k.1 f s.0 all e in
    let own : Has (ids_of all) (id_of at.hit) = ids_own all at.level at.hit at.has_level at.has_hit in
    let name_is : f.name ≡ k.0 = selected_name k.0 k.1 f s.0 all e in
    let P : Id → Type 0 = λ i. Has (ids_of all) i in
    subst P ((λ z. (Rattle.gs_ask.specs.Members.name_of (at.is z), Rattle.gs_ask.specs.Members.package_of (at.is z))) ∙ (λ z. (name_is z, s.3 z))) own

methods_same : (alone : Bool) (all few : List (List Hit)) → ((x q : List ℕ) → selected_in x q all ≡ selected_in x q few) → methods_of alone (ids_of all) all ≡ methods_of alone (ids_of few) few
methods_same alone all few same =
    methods_flat alone all (ids_of all)
    ∙ flat_same (gives alone all) (ids_of all) (ids_of few) (ids_sorted all) (ids_sorted few) both
    ∙ sym (methods_flat alone all (ids_of few))
    ∙ methods_same_select alone all few same (ids_of few) where
      both : (k : Id) (f : Method) → Has (gives alone all k) f → Has (ids_of all) k × Has (ids_of few) k
      both k f h =
          let there : Has (gives alone few k) f = (let P : Selected → Type 0 = λ s. Has (in_set k.1 (kept alone s)) f in subst P (same k.0 k.1) h) in
          (named_there alone all k f h, named_there alone few k f there)

module _ (N L : Type 0) (m : Sigs) (n : ℕ) where
  within_same : (s : Start) → value m (let r : Rule N L (List Method) = method_set_within n s in r) ≡ value m (let r : Rule N L (List Method) = methods_within n s in r)
  unfolding value
  within_same s =
      value_bind m (let r : Rule N L (List (List Hit)) = depths n 0 n s.from in r) (λ all. done (methods_of s.fields_alone (ids_of all) all))
      ∙ by_values (value m (let r : Rule N L (List (List Hit)) = depths n 0 n s.from in r)) (value m (let r : Rule N L (List (List Hit)) = level_members n n [] s.from in r)) refl refl (depths_match N L m n n s.from)
      ∙ sym (value_bind m (let r : Rule N L (List (List Hit)) = level_members n n [] s.from in r) (λ all. done (methods_of s.fields_alone (ids_of all) all))) where
        by_values : (o p : Told Symbol (List (List Hit))) → value m (let r : Rule N L (List (List Hit)) = depths n 0 n s.from in r) ≡ o → value m (let r : Rule N L (List (List Hit)) = level_members n n [] s.from in r) ≡ p → Matches o p
            → andthen o (λ all. told (methods_of s.fields_alone (ids_of all) all)) ≡ andthen p (λ all. told (methods_of s.fields_alone (ids_of all) all))
        by_values (told all) (told few) e f h = ap told (methods_same s.fields_alone all few (select_same N L m n n s.from all few e f))
        by_values (told all) (stuck z) e f h = absurd h
        by_values (stuck s) (told few) e f h = absurd h
        by_values (stuck s) (stuck z) e f h = ap stuck h

-- The method set over all ways is that level by level.
pub method_sets_same : (N L : Type 0) (m : Sigs) (t : Term) → value m (let r : Rule N L (List Method) = method_set t in r) ≡ value m (let r : Rule N L (List Method) = method_set_by_levels t in r)
method_sets_same N L m t =
    value_bind m (let r : Rule N L Start = start furthest t in r) (method_set_within furthest)
    ∙ andthen_same (value m (let r : Rule N L Start = start furthest t in r)) _ _ (within_same N L m furthest)
    ∙ sym (value_bind m (let r : Rule N L Start = start furthest t in r) (methods_within furthest))
