-- Types that stand once or twice among others.
use Rattle.std.proofs.Common.{◌≡◌, List, [], ◌∷◌, ◌++◌, ◌⊎◌, inl, inr}
use Rattle.gs_terms.specs.Term.{Term}

abbrev pub Once : List Term → Term → Type 0
Once [] c = ⊥
Once (b ∷ bs) c = (b ≡ c) ⊎ Once bs c

abbrev pub Twice : List Term → Term → Type 0
Twice [] c = ⊥
Twice (b ∷ bs) c = ((b ≡ c) × Once bs c) ⊎ Twice bs c

pub once_left : (bs ds : List Term) (c : Term) → Once bs c → Once (bs ++ ds) c
once_left [] ds c h = absurd h
once_left (b ∷ bs) ds c (inl e) = inl e
once_left (b ∷ bs) ds c (inr h) = inr (once_left bs ds c h)

pub once_right : (bs ds : List Term) (c : Term) → Once ds c → Once (bs ++ ds) c
once_right [] ds c h = h
once_right (b ∷ bs) ds c h = inr (once_right bs ds c h)

pub twice_left : (bs ds : List Term) (c : Term) → Twice bs c → Twice (bs ++ ds) c
twice_left [] ds c h = absurd h
twice_left (b ∷ bs) ds c (inl h) = inl (h.0, once_left bs ds c h.1)
twice_left (b ∷ bs) ds c (inr h) = inr (twice_left bs ds c h)

pub twice_right : (bs ds : List Term) (c : Term) → Twice ds c → Twice (bs ++ ds) c
twice_right [] ds c h = h
twice_right (b ∷ bs) ds c h = inr (twice_right bs ds c h)

pub twice_both : (bs ds : List Term) (c : Term) → Once bs c → Once ds c → Twice (bs ++ ds) c
twice_both [] ds c h k = absurd h
twice_both (b ∷ bs) ds c (inl e) k = inl (e, once_right bs ds c k)
twice_both (b ∷ bs) ds c (inr h) k = inr (twice_both bs ds c h k)

pub twice_once : (bs : List Term) (c : Term) → Twice bs c → Once bs c
twice_once [] c h = h
twice_once (b ∷ bs) c (inl h) = inl h.0
twice_once (b ∷ bs) c (inr h) = inr (twice_once bs c h)

-- one more behind them
pub once_last : (bs : List Term) (d c : Term) → Once (bs ++ d ∷ []) c → Once bs c ⊎ (d ≡ c)
once_last [] d c (inl e) = inr e
once_last [] d c (inr h) = inl h
once_last (b ∷ bs) d c (inl e) = inl (inl e)
once_last (b ∷ bs) d c (inr h) = by_rest (once_last bs d c h) where
  by_rest : Once bs c ⊎ (d ≡ c) → ((b ≡ c) ⊎ Once bs c) ⊎ (d ≡ c)
  by_rest (inl k) = inl (inr k)
  by_rest (inr e) = inr e

pub twice_last : (bs : List Term) (d c : Term) → Twice (bs ++ d ∷ []) c → Twice bs c ⊎ (Once bs c × (d ≡ c))
twice_last [] d c (inl h) = absurd h.1
twice_last [] d c (inr h) = inl h
twice_last (b ∷ bs) d c (inl h) = by_rest (once_last bs d c h.1) where
  by_rest : Once bs c ⊎ (d ≡ c) → (((b ≡ c) × Once bs c) ⊎ Twice bs c) ⊎ (((b ≡ c) ⊎ Once bs c) × (d ≡ c))
  by_rest (inl k) = inl (inl (h.0, k))
  by_rest (inr e) = inr (inl h.0, e)
twice_last (b ∷ bs) d c (inr h) = by_rest (twice_last bs d c h) where
  by_rest : Twice bs c ⊎ (Once bs c × (d ≡ c)) → (((b ≡ c) × Once bs c) ⊎ Twice bs c) ⊎ (((b ≡ c) ⊎ Once bs c) × (d ≡ c))
  by_rest (inl k) = inl (inr k)
  by_rest (inr k) = inr (inr k.0, k.1)
