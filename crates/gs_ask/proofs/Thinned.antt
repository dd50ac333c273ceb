-- A level in which types are left out that were met before, or that stand twice in it already.
use Rattle.std.proofs.Common.{◌≡◌, Bool, true, false, List, [], ◌∷◌, ◌++◌, refl, ap, sym, ◌∙◌, subst, ◌⊎◌, inl, inr, append_assoc}
use Rattle.std.specs.Prelude.{if◌then◌else◌, ◌||◌, ◌&&◌, ◌==◌, bytes_eq}
use Rattle.std.proofs.lemmas.Slice.Eq.{bytes_eq-Decides}
use Rattle.std.proofs.lemmas.Bool.Decides.{Decides-eqb}
use Rattle.gs_terms.specs.declared.symbol.Symbol.{Symbol}
use Rattle.gs_terms.specs.Term.{Term, named}
use Rattle.gs_terms.specs.Identity.{same_symbol}
use Rattle.gs_ask.specs.Symbols.{has_symbol}
use Rattle.gs_ask.specs.Members.{Reached}
use Rattle.gs_ask.specs.Levels.{with_name, with_names, has_twice, is_met, is_met_twice, fresh}
use Rattle.gs_ask.proofs.Twice.{Once, Twice, once_left, once_right, once_last, twice_last, twice_once}
use Rattle.gs_ask.proofs.Ways.{types, AllIn}

-- Behind these types stand the first list and the second; what is left out of it is of H, or stands twice before.
abbrev pub Thin : (Term → Type 0) → List Term → List Reached → List Reached → Type 0
Thin H bs ls [] = ls ≡ []
Thin H bs ls (t ∷ ts) = ((H t.type ⊎ Twice bs t.type) × Thin H bs ls ts) ⊎ ((rest : List Reached) × (ls ≡ t ∷ rest) × Thin H (bs ++ t.type ∷ []) rest ts)

pub all_map : (P Q : Term → Type 0) → ((c : Term) → P c → Q c) → (ts : List Term) → AllIn P ts → AllIn Q ts
all_map P Q go [] h = tt
all_map P Q go (t ∷ ts) h = (go t h.0, all_map P Q go ts h.1)

-- ---- one thinning after another

module _ (H : Term → Type 0) where
  -- what stands in the second stands in the first, or is of H
  record Covers (b1 b2 : List Term) : Type 0 where
    once : (c : Term) → Once b2 c → H c ⊎ Once b1 c
    twice : (c : Term) → Twice b2 c → H c ⊎ Twice b1 c

  covers_both : (b1 b2 : List Term) (t : Term) → Covers b1 b2 → Covers (b1 ++ t ∷ []) (b2 ++ t ∷ [])
  covers_both b1 b2 t h = record { once = λ c k. by_once c (once_last b2 t c k); twice = λ c k. by_twice c (twice_last b2 t c k) } where
    by_left : (c : Term) → H c ⊎ Once b1 c → H c ⊎ Once (b1 ++ t ∷ []) c
    by_left c (inl k) = inl k
    by_left c (inr k) = inr (once_left b1 (t ∷ []) c k)

    by_once : (c : Term) → Once b2 c ⊎ (t ≡ c) → H c ⊎ Once (b1 ++ t ∷ []) c
    by_once c (inl k) = by_left c (h.once c k)
    by_once c (inr e) = inr (once_right b1 (t ∷ []) c (inl e))

    twice_more : (c : Term) → H c ⊎ Twice b1 c → H c ⊎ Twice (b1 ++ t ∷ []) c
    twice_more c (inl k) = inl k
    twice_more c (inr k) = inr (Rattle.gs_ask.proofs.Twice.twice_left b1 (t ∷ []) c k)

    once_more : (c : Term) → t ≡ c → H c ⊎ Once b1 c → H c ⊎ Twice (b1 ++ t ∷ []) c
    once_more c e (inl k) = inl k
    once_more c e (inr k) = inr (Rattle.gs_ask.proofs.Twice.twice_both b1 (t ∷ []) c k (inl e))

    by_twice : (c : Term) → Twice b2 c ⊎ (Once b2 c × (t ≡ c)) → H c ⊎ Twice (b1 ++ t ∷ []) c
    by_twice c (inl k) = twice_more c (h.twice c k)
    by_twice c (inr k) = once_more c k.1 (h.once c k.0)

  covers_second : (b1 b2 : List Term) (t : Term) → Covers b1 b2 → H t ⊎ Twice b1 t → Covers b1 (b2 ++ t ∷ [])
  covers_second b1 b2 t h out = record { once = λ c k. by_once c (once_last b2 t c k); twice = λ c k. by_twice c (twice_last b2 t c k) } where
    is_out : (c : Term) → t ≡ c → H c ⊎ Twice b1 c
    is_out c e = let P : Term → Type 0 = λ z. H z ⊎ Twice b1 z in subst P e out

    less : (c : Term) → H c ⊎ Twice b1 c → H c ⊎ Once b1 c
    less c (inl k) = inl k
    less c (inr k) = inr (twice_once b1 c k)

    by_once : (c : Term) → Once b2 c ⊎ (t ≡ c) → H c ⊎ Once b1 c
    by_once c (inl k) = h.once c k
    by_once c (inr e) = less c (is_out c e)

    by_twice : (c : Term) → Twice b2 c ⊎ (Once b2 c × (t ≡ c)) → H c ⊎ Twice b1 c
    by_twice c (inl k) = h.twice c k
    by_twice c (inr k) = is_out c k.1

  thin_trans_from : (b1 b2 : List Term) → Covers b1 b2 → (ks ls ts : List Reached) → Thin H b1 ks ls → Thin H b2 ls ts → Thin H b1 ks ts
  thin_trans_from b1 b2 cover ks ls [] h k = let P : List Reached → Type 0 = λ l. Thin H b1 ks l in subst P k h
  thin_trans_from b1 b2 cover ks ls (t ∷ ts) h (inl k) = inl (by_out k.0, thin_trans_from b1 b2 cover ks ls ts h k.1) where
    by_out : H t.type ⊎ Twice b2 t.type → H t.type ⊎ Twice b1 t.type
    by_out (inl i) = inl i
    by_out (inr i) = cover.twice t.type i
  thin_trans_from b1 b2 cover ks ls (t ∷ ts) h (inr k) =
      let P : List Reached → Type 0 = λ l. Thin H b1 ks l in
      by_first (λ b1' cover' us. thin_trans_from b1' (b2 ++ t.type ∷ []) cover' us k.0 ts) (subst P k.1 h) where
        by_first : ((b1' : List Term) → Covers b1' (b2 ++ t.type ∷ []) → (us : List Reached) → Thin H b1' us k.0 → Thin H (b2 ++ t.type ∷ []) k.0 ts → Thin H b1' us ts)
            → Thin H b1 ks (t ∷ k.0) → Thin H b1 ks (t ∷ ts)
        by_first go (inl i) = inl (i.0, go b1 (covers_second b1 b2 t.type cover i.0) ks i.1 k.2)
        by_first go (inr i) = inr (i.0, i.1, go (b1 ++ t.type ∷ []) (covers_both b1 b2 t.type cover) i.0 i.2 k.2)

  pub thin_trans : (ks ls ts : List Reached) → Thin H [] ks ls → Thin H [] ls ts → Thin H [] ks ts
  thin_trans = thin_trans_from [] [] (record { once = λ c k. inr k; twice = λ c k. inr k })

  -- each type of the second is of H, or stands in the first
  pub thin_covers : (bs : List Term) (ls ts : List Reached) → Thin H bs ls ts → AllIn (λ c. H c ⊎ Once (bs ++ types ls) c) (types ts)
  thin_covers bs ls [] h = tt
  thin_covers bs ls (t ∷ ts) (inl h) = (by_out h.0, thin_covers bs ls ts h.1) where
    by_out : H t.type ⊎ Twice bs t.type → H t.type ⊎ Once (bs ++ types ls) t.type
    by_out (inl i) = inl i
    by_out (inr i) = inr (once_left bs (types ls) t.type (twice_once bs t.type i))
  thin_covers bs ls (t ∷ ts) (inr h) =
      let joined : (bs ++ t.type ∷ []) ++ types h.0 ≡ bs ++ types ls = append_assoc bs (t.type ∷ []) (types h.0) ∙ ap (λ l. bs ++ types l) (sym h.1) in
      let rest : AllIn (λ c. H c ⊎ Once ((bs ++ t.type ∷ []) ++ types h.0) c) (types ts) = thin_covers (bs ++ t.type ∷ []) h.0 ts h.2 in (
        inr (subst (λ l. Once l t.type) (ap (λ l. bs ++ types l) (sym h.1)) (once_right bs (types (t ∷ h.0)) t.type (inl refl))),
        let P : List Term → Type 0 = λ l. AllIn (λ c. H c ⊎ Once l c) (types ts) in subst P joined rest,
      )

-- ---- names that were met

pub symbols_same : (a b : Symbol) → same_symbol a b ≡ true → a ≡ b
symbols_same a b h = by_tests (bytes_eq a.package b.package) (bytes_eq a.name b.name) (a.local == b.local) refl refl refl h where
  by_tests : (c d e : Bool) → bytes_eq a.package b.package ≡ c → bytes_eq a.name b.name ≡ d → (a.local == b.local) ≡ e → (c && d && e) ≡ true → a ≡ b
  by_tests true true true f g i h =
      let p = (bytes_eq-Decides a.package b.package).0 f in
      let q = (bytes_eq-Decides a.name b.name).0 g in
      let r = (Decides-eqb a.local b.local).0 i in
      λ j. record { «package» = p j; name = q j; local = r j }
  by_tests true true false f g i h = absurd (cc)
  by_tests true false e f g i h = absurd (cc)
  by_tests false d e f g i h = absurd (cc)

has_last : (qs : List Symbol) (a s : Symbol) → has_symbol (qs ++ a ∷ []) s ≡ true → (has_symbol qs s ≡ true) ⊎ (same_symbol a s ≡ true)
has_last [] a s h = by_test (same_symbol a s) h where
  by_test : (b : Bool) → (b || false) ≡ true → (false ≡ true) ⊎ (b ≡ true)
  by_test true h = inr refl
  by_test false h = inl h
has_last (q ∷ qs) a s h = by_head (has_last qs a s) (same_symbol q s) h where
  by_head : (has_symbol (qs ++ a ∷ []) s ≡ true → (has_symbol qs s ≡ true) ⊎ (same_symbol a s ≡ true)) → (b : Bool) → (b || has_symbol (qs ++ a ∷ []) s) ≡ true
      → ((b || has_symbol qs s) ≡ true) ⊎ (same_symbol a s ≡ true)
  by_head go true h = inl refl
  by_head go false h = go h

twice_met_last : (qs : List Symbol) (a s : Symbol) → has_twice (qs ++ a ∷ []) s ≡ true → (has_twice qs s ≡ true) ⊎ ((has_symbol qs s ≡ true) × (same_symbol a s ≡ true))
twice_met_last [] a s h = by_test (same_symbol a s) h where
  by_test : (b : Bool) → (if b then false else false) ≡ true → (false ≡ true) ⊎ ((false ≡ true) × (b ≡ true))
  by_test true h = inl h
  by_test false h = inl h
twice_met_last (q ∷ qs) a s h = by_head (twice_met_last qs a s) (has_last qs a s) (same_symbol q s) h where
  by_head : (has_twice (qs ++ a ∷ []) s ≡ true → (has_twice qs s ≡ true) ⊎ ((has_symbol qs s ≡ true) × (same_symbol a s ≡ true)))
      → (has_symbol (qs ++ a ∷ []) s ≡ true → (has_symbol qs s ≡ true) ⊎ (same_symbol a s ≡ true))
      → (b : Bool) → (if b then has_symbol (qs ++ a ∷ []) s else has_twice (qs ++ a ∷ []) s) ≡ true
      → ((if b then has_symbol qs s else has_twice qs s) ≡ true) ⊎ (((b || has_symbol qs s) ≡ true) × (same_symbol a s ≡ true))
  by_head go once true h = by_once (once h) where
    by_once : (has_symbol qs s ≡ true) ⊎ (same_symbol a s ≡ true) → (has_symbol qs s ≡ true) ⊎ ((true ≡ true) × (same_symbol a s ≡ true))
    by_once (inl k) = inl k
    by_once (inr k) = inr (refl, k)
  by_head go once false h = go h

met_last : (d c : Term) (qs : List Symbol) → is_met (with_name d qs) c ≡ true → (is_met qs c ≡ true) ⊎ (d ≡ c)
met_last (named a) (named s) qs h = by_last (has_last qs a s h) where
  by_last : (has_symbol qs s ≡ true) ⊎ (same_symbol a s ≡ true) → (has_symbol qs s ≡ true) ⊎ (named a ≡ named s)
  by_last (inl k) = inl k
  by_last (inr k) = inr (ap named (symbols_same a s k))
met_last (named a) _ qs h = inl h
met_last _ c qs h = inl h

met_twice_last : (d c : Term) (qs : List Symbol) → is_met_twice (with_name d qs) c ≡ true → (is_met_twice qs c ≡ true) ⊎ ((is_met qs c ≡ true) × (d ≡ c))
met_twice_last (named a) (named s) qs h = by_last (twice_met_last qs a s h) where
  by_last : (has_twice qs s ≡ true) ⊎ ((has_symbol qs s ≡ true) × (same_symbol a s ≡ true)) → (has_twice qs s ≡ true) ⊎ ((has_symbol qs s ≡ true) × (named a ≡ named s))
  by_last (inl k) = inl k
  by_last (inr k) = inr (k.0, ap named (symbols_same a s k.1))
met_twice_last (named a) _ qs h = inl h
met_twice_last _ c qs h = inl h

-- what was met in a level or before
pub met_before : (H : Term → Type 0) (qs : List Symbol) → ((c : Term) → is_met qs c ≡ true → H c) → (rs : List Reached) (c : Term) → is_met (with_names rs qs) c ≡ true → H c ⊎ Once (types rs) c
met_before H qs old [] c h = inl (old c h)
met_before H qs old (r ∷ rs) c h = by_case (met_before (λ d. H d ⊎ (r.type ≡ d)) (with_name r.type qs) old' rs c h) where
  by_name : (d : Term) → (is_met qs d ≡ true) ⊎ (r.type ≡ d) → H d ⊎ (r.type ≡ d)
  by_name d (inl k) = inl (old d k)
  by_name d (inr e) = inr e

  old' : (d : Term) → is_met (with_name r.type qs) d ≡ true → H d ⊎ (r.type ≡ d)
  old' d k = by_name d (met_last r.type d qs k)

  by_case : (H c ⊎ (r.type ≡ c)) ⊎ Once (types rs) c → H c ⊎ ((r.type ≡ c) ⊎ Once (types rs) c)
  by_case (inl (inl k)) = inl k
  by_case (inl (inr e)) = inr (inl e)
  by_case (inr k) = inr (inr k)

-- the names that are kept so far are those of these types
record Keeps (ks : List Symbol) (bs : List Term) : Type 0 where
  once : (c : Term) → is_met ks c ≡ true → Once bs c
  twice : (c : Term) → is_met_twice ks c ≡ true → Twice bs c

keeps_more : (ks : List Symbol) (bs : List Term) (d : Term) → Keeps ks bs → Keeps (with_name d ks) (bs ++ d ∷ [])
keeps_more ks bs d h = record { once = λ c k. by_once c (met_last d c ks k); twice = λ c k. by_twice c (met_twice_last d c ks k) } where
  by_once : (c : Term) → (is_met ks c ≡ true) ⊎ (d ≡ c) → Once (bs ++ d ∷ []) c
  by_once c (inl k) = once_left bs (d ∷ []) c (h.once c k)
  by_once c (inr e) = once_right bs (d ∷ []) c (inl e)

  by_twice : (c : Term) → (is_met_twice ks c ≡ true) ⊎ ((is_met ks c ≡ true) × (d ≡ c)) → Twice (bs ++ d ∷ []) c
  by_twice c (inl k) = Rattle.gs_ask.proofs.Twice.twice_left bs (d ∷ []) c (h.twice c k)
  by_twice c (inr k) = Rattle.gs_ask.proofs.Twice.twice_both bs (d ∷ []) c (h.once c k.0) (inl k.1)

fresh_thin_from : (H : Term → Type 0) (qs ks : List Symbol) (bs : List Term) → ((c : Term) → is_met qs c ≡ true → H c) → Keeps ks bs → (ts : List Reached) → Thin H bs (fresh qs ks ts) ts
fresh_thin_from H qs ks bs old keeps [] = refl
fresh_thin_from H qs ks bs old keeps (t ∷ ts) =
    by_test (is_met qs t.type) (is_met_twice ks t.type) refl refl (fresh_thin_from H qs ks bs old keeps ts) (fresh_thin_from H qs (with_name t.type ks) (bs ++ t.type ∷ []) old (keeps_more ks bs t.type keeps) ts) where
      by_test : (a b : Bool) → is_met qs t.type ≡ a → is_met_twice ks t.type ≡ b → Thin H bs (fresh qs ks ts) ts → Thin H (bs ++ t.type ∷ []) (fresh qs (with_name t.type ks) ts) ts
          → Thin H bs (if a || b then fresh qs ks ts else t ∷ fresh qs (with_name t.type ks) ts) (t ∷ ts)
      by_test true b e f skip take = inl (inl (old t.type e), skip)
      by_test false true e f skip take = inl (inr (keeps.twice t.type f), skip)
      by_test false false e f skip take = inr (fresh qs (with_name t.type ks) ts, refl, take)

-- leaving out what was met before, and a third of one type
pub fresh_thin : (H : Term → Type 0) (qs : List Symbol) → ((c : Term) → is_met qs c ≡ true → H c) → (ts : List Reached) → Thin H [] (fresh qs [] ts) ts
fresh_thin H qs old ts = fresh_thin_from H qs [] [] old (record { once = none; twice = none_twice }) ts where
  none : (c : Term) → is_met [] c ≡ true → Once [] c
  none (named s) h = absurd (cc)
  none _ h = absurd (cc)

  none_twice : (c : Term) → is_met_twice [] c ≡ true → Twice [] c
  none_twice (named s) h = absurd (cc)
  none_twice _ h = absurd (cc)
