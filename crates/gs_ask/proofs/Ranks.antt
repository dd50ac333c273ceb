-- The induction over packages by rank.
use Rattle.std.proofs.Common.{◌≡◌, ℕ, zero, suc, ◌<◌, true, false, List, Some, refl, ap, sym, ◌∙◌, subst, ◌⊎◌, inl, inr, arith}
use Rattle.gs_ask.specs.Ask.{Lookup}
use Rattle.gs_ask.specs.Stays.{EachIn}
use Rattle.gs_ask.specs.Depth.{Package, described_at, IsDescribed, IsLost, StandsFor, IsAlike}
use Rattle.gs_ask.specs.Ranks.{Ranked, Below, IsSameWorld}
use Rattle.gs_ask.proofs.Stays.{each_in-map}
use Rattle.gs_ask.proofs.Depth.{one_reply}
use Rattle.gs_ask.proofs.DepthLocal.{agree_to, closed_to}

-- Two lookups that agree on other packages' names agree on this one's.
pub same_here : {S R N L : Type 0} (names : R → List S) (K : S → Type 0) (p p' : Package S R N L) → IsAlike names K p p' → (m m' : Lookup S R) → StandsFor p m → StandsFor p' m'
    → (s : S) → K s → p.own s ≡ true → m s ≡ m' s
same_here {S} {R} names K p p' alike m m' one two s h at = by_both (one.own s at) (two.own s (sym (alike.own s h) ∙ at)) where
  same : (d : ℕ) → described_at p d s ≡ described_at p' d s
  same d = (agree_to names K p p' alike d).on s h

  by_both : IsDescribed p s (m s) ⊎ IsLost p s (m s) → IsDescribed p' s (m' s) ⊎ IsLost p' s (m' s) → m s ≡ m' s
  by_both (inl a) (inl b) = a.is ∙ ap Some (one_reply p a.depth b.depth s a.reply b.reply a.at (same b.depth ∙ b.at)) ∙ sym b.is
  by_both (inl a) (inr b) = absurd (let e = same a.depth in let f = a.at in let g = b.at a.depth in (cc))
  by_both (inr a) (inl b) = absurd (let e = same b.depth in let f = b.at in let g = a.at b.depth in (cc))
  by_both (inr a) (inr b) = a.is ∙ ap Some (alike.lost s h at) ∙ sym b.is

module _ {S R N L Q : Type 0} (names : R → List S) (K : S → Type 0) (w : Ranked S Q) (prog prog' : Q → Package S R N L) (m m' : Lookup S R) (world : IsSameWorld names K w prog prog' m m') where
  record Known (q : Q) : Type 0 where
    same : (s : S) → K s → w.home s ≡ q → m s ≡ m' s
    closed : (s : S) (r : R) → K s → w.home s ≡ q → m s ≡ Some r → EachIn (Below K w q) (names r)

  down : (q r : Q) → w.rank r < w.rank q → (s : S) → Below K w r s → Below K w q s
  down q r low s h = (h.0, by_place h.1) where
    by_place : (w.home s ≡ r) ⊎ (w.rank (w.home s) < w.rank r) → (w.home s ≡ q) ⊎ (w.rank (w.home s) < w.rank q)
    by_place (inl e) = let at = ap w.rank e in inr (omega arith)
    by_place (inr k) = inr (omega arith)

  elsewhere : (q : Q) (s : S) → (prog q).own s ≡ false → w.home s ≡ q → ⊥
  elsewhere q s at e = let yes = world.owns q s e in (cc)

  alike : (q : Q) → ((r : Q) → w.rank r < w.rank q → Known r) → IsAlike names (Below K w q) (prog q) (prog' q)
  alike q ih = record {
    own = λ s h. world.owns' q s h.0;
    rule = λ s h at l c. world.rule q s h.0 (world.own q s at) l c;
    text = λ s h at l c. world.text q s h.0 (world.own q s at) l c;
    lost = λ s h at. world.lost q s h.0 (world.own q s at);
    closed = λ s r h at e. by_low s r h (elsewhere q s at) (sym ((world.stands q).outside s) ∙ e) h.1;
    agree = λ s h at. (world.stands q).outside s ∙ same_low s h (elsewhere q s at) h.1 ∙ sym ((world.stands' q).outside s);
  } where
    by_low : (s : S) (r : R) → Below K w q s → (w.home s ≡ q → ⊥) → m s ≡ Some r → (w.home s ≡ q) ⊎ (w.rank (w.home s) < w.rank q) → EachIn (Below K w q) (names r)
    by_low s r h ne e (inl i) = absurd (ne i)
    by_low s r h ne e (inr low) = each_in-map (Below K w (w.home s)) (Below K w q) (down q (w.home s) low) (names r) ((ih (w.home s) low).closed s r h.0 refl e)

    same_low : (s : S) → Below K w q s → (w.home s ≡ q → ⊥) → (w.home s ≡ q) ⊎ (w.rank (w.home s) < w.rank q) → m s ≡ m' s
    same_low s h ne (inl i) = absurd (ne i)
    same_low s h ne (inr low) = (ih (w.home s) low).same s h.0 refl

  known_of : (q : Q) → IsAlike names (Below K w q) (prog q) (prog' q) → Known q
  known_of q a = record {
    same = λ s h at. same_here names (Below K w q) (prog q) (prog' q) a m m' (world.stands q) (world.stands' q) s (h, inl at) (world.owns q s at);
    closed = λ s r h at e. by_own s r h at e ((world.stands q).own s (world.owns q s at));
  } where
    by_own : (s : S) (r : R) → K s → w.home s ≡ q → m s ≡ Some r → IsDescribed (prog q) s (m s) ⊎ IsLost (prog q) s (m s) → EachIn (Below K w q) (names r)
    by_own s r h at e (inl i) = (closed_to names (Below K w q) (prog q) (prog' q) a i.depth).stays s r (h, inl at) (i.at ∙ sym i.is ∙ e)
    by_own s r h at e (inr i) =
        let same : (prog q).lost s ≡ r = (let f = i.is in (cc)) in
        subst (λ (x : R). EachIn (Below K w q) (names x)) same (world.names_lost q s h at)

  known_below : (k : ℕ) (q : Q) → w.rank q < k → Known q
  known_below zero q low = absurd (omega arith)
  known_below (suc k) q low = known_of q (alike q (λ r lower. known_below k r (omega arith)))

  -- Source maps with the same text at what is reached describe it alike.
  pub same_worlds : (s : S) → K s → m s ≡ m' s
  same_worlds s h = (known_below (suc (w.rank (w.home s))) (w.home s) (omega arith)).same s h refl
