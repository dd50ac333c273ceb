-- Names that are added, the last first.
use Rattle.std.proofs.Common.{◌≡◌, ℕ, zero, suc, ◌+◌, ◌-◌, ◌<◌, ◌&&◌, Bool, List, [], ◌∷◌, drop, map, arith, sym, ap, ◌∙◌, add-one, Some}
use Rattle.std.specs.List.{slice_get}
use Rattle.std.specs.BTreeMap.{BTreeMap}
use denote.Ref.{Bor}
use Rattle.gs_rules.specs.Files.{lookup_of}
use Rattle.goserve.specs.declared.chunk.Declaration.{Declaration}
use Rattle.goserve.specs.FirstForm.{are_in_order}
use Rattle.goserve.specs.Seen.{found, seen, with_name, HasNames}
use Rattle.goserve.specs.Simple.{is_next}

cons_at : (ds : List Declaration) (d : Declaration) (i : ℕ) → slice_get ds i ≡ Some d → drop i ds ≡ d ∷ drop (suc i) ds
cons_at [] d i e = absurd (cc)
cons_at (x ∷ xs) d zero e = ap (λ y. y ∷ xs) (cc)
cons_at (x ∷ xs) d (suc i) e = cons_at xs d i e

front_at : (ds : List Declaration) (d : Declaration) (i : ℕ) → 0 < i → slice_get ds (i - 1) ≡ Some d → drop (i - 1) ds ≡ d ∷ drop i ds
front_at ds d i some e =
    let last : (i - 1) + 1 ≡ i = omega arith in
    cons_at ds d (i - 1) e ∙ ap (λ n. d ∷ drop n ds) (sym (add-one (i - 1)) ∙ last)

pub names_more : (m n : BTreeMap (Bor (List ℕ)) Bool) (ds : List Declaration) (d : Declaration) (i : ℕ) →
    0 < i → slice_get ds (i - 1) ≡ Some d →
    HasNames m (map seen (drop i ds)) → found n ≡ with_name (found m) d.name.now d.constant → HasNames n (map seen (drop (i - 1) ds))
names_more m n ds d i some e h k =
    k ∙ ap (λ lookup. with_name lookup d.name.now d.constant) h ∙ sym (ap (λ l. lookup_of (map seen l)) (front_at ds d i some e))

pub order_more : (m : BTreeMap (Bor (List ℕ)) Bool) (ds : List Declaration) (d : Declaration) (i : ℕ) (next rest : Bool) →
    0 < i → slice_get ds (i - 1) ≡ Some d →
    HasNames m (map seen (drop i ds)) → next ≡ is_next (found m) (seen d) → rest ≡ are_in_order (map seen (drop i ds)) →
    (next && rest) ≡ are_in_order (map seen (drop (i - 1) ds))
order_more m ds d i next rest some e h n r =
    ap (λ b. b && rest) (n ∙ ap (λ lookup. is_next lookup (seen d)) h)
    ∙ ap (λ b. is_next (lookup_of (map seen (drop i ds))) (seen d) && b) r
    ∙ sym (ap (λ l. are_in_order (map seen l)) (front_at ds d i some e))
