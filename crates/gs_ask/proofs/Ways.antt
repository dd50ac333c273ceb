-- All ways of a depth, and the same level by level.
use Rattle.std.proofs.Common.{◌≡◌, ℕ, zero, suc, ◌+◌, List, [], ◌∷◌, ◌++◌, refl, ap, sym, ◌∙◌, append_assoc, add-one, ◌⊎◌, inl, inr}
use Rattle.gs_terms.specs.declared.symbol.Symbol.{Symbol}
use Rattle.gs_terms.specs.Term.{Term, invalid}
use Rattle.gs_ask.specs.declared.select.Selected.{Selected}
use Rattle.gs_ask.specs.declared.select.Selected.TheVariants as selected
use Rattle.gs_ask.specs.Ask.{done}
use Rattle.gs_ask.specs.Reply.{Sigs, Rule}
use Rattle.gs_ask.specs.Members.{Reached, Hit, Opened, opened, hits, further, each, members_at}
use Rattle.gs_ask.specs.Selection.{bearing, one, chosen, least}
use Rattle.gs_ask.specs.Levels.{opened_all, level_hits, next_level}
use Rattle.gs_ask.proofs.Quiet.{Told, told, stuck, value, andthen, value_bind, andthen_told, andthen_same}

abbrev pub opened_or_none : Told Symbol Opened → Opened
opened_or_none (told o) = o
opened_or_none (stuck s) = record { methods = []; under = invalid }

abbrev pub types : List Reached → List Term
types [] = []
types (r ∷ rs) = r.type ∷ types rs

abbrev pub AllIn : (Term → Type 0) → List Term → Type 0
AllIn P [] = Unit {0}
AllIn P (t ∷ ts) = P t × AllIn P ts

module _ (N L : Type 0) (m : Sigs) (n : ℕ) where
  abbrev pub look : {A : Type 0} → Rule N L A → Told Symbol A
  look t = value m t

  -- what a type has, where it can be told
  abbrev pub at : Term → Opened
  at t = opened_or_none (look (opened n t))

  abbrev pub Ready : Term → Type 0
  Ready t = look (opened n t) ≡ told (at t)

  abbrev pub AllReady : List Reached → Type 0
  AllReady [] = Unit {0}
  AllReady (r ∷ rs) = Ready r.type × AllReady rs

  abbrev pub opened_list : List Reached → List Opened
  opened_list [] = []
  opened_list (r ∷ rs) = at r.type ∷ opened_list rs

  abbrev pub hits_all : List Reached → List Hit
  hits_all [] = []
  hits_all (r ∷ rs) = hits r (at r.type) ++ hits_all rs

  abbrev pub further_all : List Reached → List Reached
  further_all [] = []
  further_all (r ∷ rs) = further r (at r.type) ++ further_all rs

  pub hits_listed : (rs : List Reached) → level_hits rs (opened_list rs) ≡ hits_all rs
  hits_listed [] = refl
  hits_listed (r ∷ rs) = ap (λ (l : List Hit). hits r (at r.type) ++ l) (hits_listed rs)

  pub further_listed : (rs : List Reached) → next_level rs (opened_list rs) ≡ further_all rs
  further_listed [] = refl
  further_listed (r ∷ rs) = ap (λ (l : List Reached). further r (at r.type) ++ l) (further_listed rs)

  pub ready_or_stuck : (t : Term) → Ready t ⊎ ((s : Symbol) × (look (opened n t) ≡ stuck s))
  ready_or_stuck t = by_value (look (opened n t)) refl where
    by_value : (o : Told Symbol Opened) → look (opened n t) ≡ o → Ready t ⊎ ((s : Symbol) × (look (opened n t) ≡ stuck s))
    by_value (told o) e = inl (e ∙ ap told (ap opened_or_none (sym e)))
    by_value (stuck s) e = inr (s, e)

  opened_cons : (r : Reached) (rs : List Reached) → look (opened_all n (r ∷ rs)) ≡ andthen (look (opened n r.type)) (λ o. andthen (look (opened_all n rs)) (λ os. told (o ∷ os)))
  unfolding value
  opened_cons r rs = value_bind m (opened n r.type) _ ∙ andthen_same (look (opened n r.type)) _ _ (λ o. value_bind m (opened_all n rs) (λ os. done (o ∷ os)))

  pub opened_told : (rs : List Reached) → AllReady rs → look (opened_all n rs) ≡ told (opened_list rs)
  unfolding value
  opened_told [] h = refl
  opened_told (r ∷ rs) h =
      opened_cons r rs ∙ ap (λ o. andthen o (λ o. andthen (look (opened_all n rs)) (λ os. told (o ∷ os)))) h.0
      ∙ ap (λ (q : Told Symbol (List Opened)). andthen q (λ os. told (at r.type ∷ os))) (opened_told rs h.1)

  pub opened_stuck_first : (r : Reached) (rs : List Reached) (s : Symbol) → look (opened n r.type) ≡ stuck s → look (opened_all n (r ∷ rs)) ≡ stuck s
  opened_stuck_first r rs s h = opened_cons r rs ∙ ap (λ o. andthen o (λ o. andthen (look (opened_all n rs)) (λ os. told (o ∷ os)))) h

  pub opened_stuck_rest : (r : Reached) (rs : List Reached) (s : Symbol) → Ready r.type → look (opened_all n rs) ≡ stuck s → look (opened_all n (r ∷ rs)) ≡ stuck s
  opened_stuck_rest r rs s ok h =
      opened_cons r rs ∙ ap (λ o. andthen o (λ o. andthen (look (opened_all n rs)) (λ os. told (o ∷ os)))) ok
      ∙ ap (λ (q : Told Symbol (List Opened)). andthen q (λ os. told (at r.type ∷ os))) h

  -- A level is told, or waits for a name.
  pub level_cases : (rs : List Reached) → AllReady rs ⊎ ((s : Symbol) × (look (opened_all n rs) ≡ stuck s))
  level_cases [] = inl tt
  level_cases (r ∷ rs) = by_first (ready_or_stuck r.type) (level_cases rs) where
    by_first : Ready r.type ⊎ ((s : Symbol) × (look (opened n r.type) ≡ stuck s)) → AllReady rs ⊎ ((s : Symbol) × (look (opened_all n rs) ≡ stuck s))
        → AllReady (r ∷ rs) ⊎ ((s : Symbol) × (look (opened_all n (r ∷ rs)) ≡ stuck s))
    by_first (inl h) (inl k) = inl (h, k)
    by_first (inl h) (inr k) = inr (k.0, opened_stuck_rest r rs k.0 h k.1)
    by_first (inr h) k = inr (h.0, opened_stuck_first r rs h.0 h.1)

  abbrev stuck_level : Symbol → Told Symbol (List Opened)
  stuck_level s = stuck s

  -- ---- lists

  each_cons : {A : Type 0} (f : Reached → Rule N L (List A)) (r : Reached) (rs : List Reached)
      → look (each f (r ∷ rs)) ≡ andthen (look (f r)) (λ xs. andthen (look (each f rs)) (λ ys. told (xs ++ ys)))
  unfolding value
  each_cons f r rs = value_bind m (f r) _ ∙ andthen_same (look (f r)) _ _ (λ xs. value_bind m (each f rs) (λ ys. done (xs ++ ys)))

  join_assoc : {A : Type 0} (a b c : Told Symbol (List A))
      → andthen a (λ xs. andthen (andthen b (λ ys. andthen c (λ zs. told (ys ++ zs)))) (λ ws. told (xs ++ ws)))
      ≡ andthen (andthen a (λ xs. andthen b (λ ys. told (xs ++ ys)))) (λ vs. andthen c (λ zs. told (vs ++ zs)))
  join_assoc (stuck s) b c = refl
  join_assoc (told xs) (stuck s) c = refl
  join_assoc (told xs) (told ys) (stuck s) = refl
  join_assoc (told xs) (told ys) (told zs) = ap told (sym (append_assoc xs ys zs))

  pub each_append : {A : Type 0} (f : Reached → Rule N L (List A)) (rs qs : List Reached)
      → look (each f (rs ++ qs)) ≡ andthen (look (each f rs)) (λ xs. andthen (look (each f qs)) (λ ys. told (xs ++ ys)))
  unfolding value
  each_append f [] qs = sym (andthen_told (look (each f qs)))
  each_append f (r ∷ rs) qs =
      each_cons f r (rs ++ qs)
      ∙ andthen_same (look (f r)) _ _ (λ xs. ap (λ o. andthen o (λ ws. told (xs ++ ws))) (each_append f rs qs))
      ∙ join_assoc (look (f r)) (look (each f rs)) (look (each f qs))
      ∙ ap (λ o. andthen o (λ vs. andthen (look (each f qs)) (λ zs. told (vs ++ zs)))) (sym (each_cons f r rs))

  -- ---- one level

  abbrev pub at_all : ℕ → List Reached → Told Symbol (List Hit)
  at_all d rs = look (each (members_at n d) rs)

  depth_zero : (r : Reached) → look (members_at n zero r) ≡ andthen (look (opened n r.type)) (λ o. told (hits r o))
  unfolding members_at value
  depth_zero r = value_bind m (opened n r.type) _

  depth_suc : (d : ℕ) (r : Reached) → look (members_at n (suc d) r) ≡ andthen (look (opened n r.type)) (λ o. at_all d (further r o))
  unfolding members_at value
  depth_suc d r = value_bind m (opened n r.type) _

  first_of : (d : ℕ) (r : Reached) (rs : List Reached) (o : Told Symbol (List Hit)) → look (members_at n d r) ≡ o
      → at_all d (r ∷ rs) ≡ andthen o (λ xs. andthen (at_all d rs) (λ ys. told (xs ++ ys)))
  first_of d r rs o h = each_cons (members_at n d) r rs ∙ ap (λ o. andthen o (λ xs. andthen (at_all d rs) (λ ys. told (xs ++ ys)))) h

  -- a level that is told
  pub here : (rs : List Reached) → AllReady rs → at_all 0 rs ≡ told (hits_all rs)
  unfolding value
  here [] h = refl
  here (r ∷ rs) h =
      first_of 0 r rs (told (hits r (at r.type))) (depth_zero r ∙ ap (λ o. andthen o (λ o. told (hits r o))) h.0)
      ∙ ap (λ (q : Told Symbol (List Hit)). andthen q (λ ys. told (hits r (at r.type) ++ ys))) (here rs h.1)

  pub below : (d : ℕ) (rs : List Reached) → AllReady rs → at_all (suc d) rs ≡ at_all d (further_all rs)
  unfolding value
  below d [] h = refl
  below d (r ∷ rs) h =
      first_of (suc d) r rs (at_all d (further r (at r.type))) (depth_suc d r ∙ ap (λ o. andthen o (λ o. at_all d (further r o))) h.0)
      ∙ andthen_same (at_all d (further r (at r.type))) _ _ (λ xs. ap (λ (q : Told Symbol (List Hit)). andthen q (λ ys. told (xs ++ ys))) (below d rs h.1))
      ∙ sym (each_append (members_at n d) (further r (at r.type)) (further_all rs))

  -- where a level waits, its members do
  pub level_waits : (rs : List Reached) (s : Symbol) → look (opened_all n rs) ≡ stuck s → at_all 0 rs ≡ stuck s
  unfolding value
  level_waits [] s h = absurd (cc)
  level_waits (r ∷ rs) s h = by_first (ready_or_stuck r.type) (level_waits rs s) where
    by_rest : (o : Told Symbol (List Opened)) → look (opened_all n rs) ≡ o → andthen o (λ os. told (at r.type ∷ os)) ≡ stuck s → look (opened_all n rs) ≡ stuck s
    by_rest (told os) e k = absurd (cc)
    by_rest (stuck z) e k = e ∙ k

    by_first : Ready r.type ⊎ ((z : Symbol) × (look (opened n r.type) ≡ stuck z)) → (look (opened_all n rs) ≡ stuck s → at_all 0 rs ≡ stuck s) → at_all 0 (r ∷ rs) ≡ stuck s
    by_first (inl ok) ih =
        let rest : look (opened_all n rs) ≡ stuck s = by_rest (look (opened_all n rs)) refl (sym (opened_cons r rs ∙ ap (λ o. andthen o (λ o. andthen (look (opened_all n rs)) (λ os. told (o ∷ os)))) ok) ∙ h) in
        first_of 0 r rs (told (hits r (at r.type))) (depth_zero r ∙ ap (λ o. andthen o (λ o. told (hits r o))) ok)
        ∙ ap (λ (q : Told Symbol (List Hit)). andthen q (λ ys. told (hits r (at r.type) ++ ys))) (ih rest)
    by_first (inr k) ih =
        let same : stuck_level k.0 ≡ stuck_level s = sym (opened_stuck_first r rs k.0 k.1) ∙ h in
        first_of 0 r rs (stuck k.0) (depth_zero r ∙ ap (λ o. andthen o (λ o. told (hits r o))) k.1) ∙ ap stuck (unstuck k.0 s same) where
          unstuck : (a b : Symbol) → stuck_level a ≡ stuck_level b → a ≡ b
          unstuck a b e = (cc)

  -- ---- the least depth, level by level

  module _ (x q : List ℕ) where
    unfoldable pub choose : Told Symbol Selected → List Hit → Told Symbol Selected
    choose deeper [] = deeper
    choose deeper (h ∷ []) = told (one h)
    choose deeper (h ∷ i ∷ more) = told selected.Two

    pub value_chosen : (deeper : Rule N L Selected) (hs : List Hit) → look (chosen deeper hs) ≡ choose (look deeper) hs
    unfolding choose value
    value_chosen deeper [] = refl
    value_chosen deeper (h ∷ []) = refl
    value_chosen deeper (h ∷ i ∷ more) = refl

    least_from : ℕ → ℕ → List Reached → Told Symbol Selected
    least_from d zero rs = told selected.None
    least_from d (suc k) rs = andthen (at_all d rs) (λ hs. choose (least_from (suc d) k rs) (bearing x q hs))

    -- the levels, with no type left out
    unfoldable pub by_level : ℕ → List Reached → Told Symbol Selected
    by_level zero rs = told selected.None
    by_level (suc k) rs = andthen (look (opened_all n rs)) (λ os. choose (by_level k (next_level rs os)) (bearing x q (level_hits rs os)))

    pub by_level_ready : (k : ℕ) (rs : List Reached) → AllReady rs → by_level (suc k) rs ≡ choose (by_level k (further_all rs)) (bearing x q (hits_all rs))
    unfolding by_level
    by_level_ready k rs h =
        ap (λ (o : Told Symbol (List Opened)). andthen o (λ os. choose (by_level k (next_level rs os)) (bearing x q (level_hits rs os)))) (opened_told rs h)
        ∙ ap (λ (l : List Reached). choose (by_level k l) (bearing x q (level_hits rs (opened_list rs)))) (further_listed rs)
        ∙ ap (λ (l : List Hit). choose (by_level k (further_all rs)) (bearing x q l)) (hits_listed rs)

    pub by_level_stuck : (k : ℕ) (rs : List Reached) (s : Symbol) → look (opened_all n rs) ≡ stuck s → by_level (suc k) rs ≡ stuck s
    unfolding by_level
    by_level_stuck k rs s h = ap (λ (o : Told Symbol (List Opened)). andthen o (λ os. choose (by_level k (next_level rs os)) (bearing x q (level_hits rs os)))) h

    shift : (rs : List Reached) → AllReady rs → (k d : ℕ) → least_from (suc d) k rs ≡ least_from d k (further_all rs)
    unfolding least_from
    shift rs h zero d = refl
    shift rs h (suc k) d =
        ap (λ o. andthen o (λ hs. choose (least_from (suc (suc d)) k rs) (bearing x q hs))) (below d rs h)
        ∙ ap (λ o. andthen (at_all d (further_all rs)) (λ hs. choose o (bearing x q hs))) (shift rs h k (suc d))

    least_is_by_level : (k : ℕ) (rs : List Reached) → least_from 0 k rs ≡ by_level k rs
    unfolding least_from by_level
    least_is_by_level zero rs = refl
    least_is_by_level (suc k) rs = by_case (level_cases rs) (least_is_by_level k) where
      by_case : AllReady rs ⊎ ((s : Symbol) × (look (opened_all n rs) ≡ stuck s)) → ((qs : List Reached) → least_from 0 k qs ≡ by_level k qs) → least_from 0 (suc k) rs ≡ by_level (suc k) rs
      by_case (inl h) ih =
          ap (λ o. andthen o (λ hs. choose (least_from 1 k rs) (bearing x q hs))) (here rs h)
          ∙ ap (λ o. choose o (bearing x q (hits_all rs))) (shift rs h k 0 ∙ ih (further_all rs))
          ∙ sym (by_level_ready k rs h)
      by_case (inr h) ih =
          ap (λ o. andthen o (λ hs. choose (least_from 1 k rs) (bearing x q hs))) (level_waits rs h.0 h.1) ∙ sym (by_level_stuck k rs h.0 h.1)

    least_value : (k d : ℕ) (rs : List Reached) → look (least n x q d k rs) ≡ least_from d k rs
    unfolding least least_from value
    least_value zero d rs = refl
    least_value (suc k) d rs =
        value_bind m (each (members_at n d) rs) (λ hs. chosen (least n x q (d + 1) k rs) (bearing x q hs))
        ∙ andthen_same (at_all d rs) _ _ (λ hs. value_chosen (least n x q (d + 1) k rs) (bearing x q hs)
        ∙ ap (λ o. choose o (bearing x q hs)) (ap (λ e. look (least n x q e k rs)) (add-one d) ∙ least_value k (suc d) rs))

    -- The least depth over all ways is found level by level.
    pub least_by_level : (k : ℕ) (rs : List Reached) → look (least n x q 0 k rs) ≡ by_level k rs
    least_by_level k rs = least_value k 0 rs ∙ least_is_by_level k rs
