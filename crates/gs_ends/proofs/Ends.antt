-- What the row of a place says of the tree that stands there.
use Rattle.std.proofs.Common.{Bool, false, ◌≡◌, ℕ, ◌+◌, ◌-◌, ◌≤◌, ◌<◌, List, length, drop, refl, sym, ap, zero, suc, [], ◌∷◌, ◌∙◌, subst, arith, length-drop, Option, Some, None}
use Rattle.gs_syntax.specs.declared.token.Token.{Token}
use Rattle.gs_grammar.specs.Grammar.{IsBlockAt, IsChunkAt, IsExprAt, IsTypeAt}
use Rattle.gs_grammar.specs.Parts.{Found, found}
use Rattle.gs_grammar.proofs.Common.{some_is, some_is_none}
use Rattle.gs_grammar.proofs.Whole.{block-whole, block-stands, chunk-whole, chunk-stands, expr-whole, expr-stands, type-whole, type-stands}
use Rattle.gs_places.specs.Places.{cap, spot, stands, last, IsWithin}
use Rattle.gs_places.proofs.Within.{within_block, within_chunk, within_expr, within_type}
use Rattle.gs_ends.specs.Answer.{IsTree, IsTooDeep, Lacks}

-- what a row has of a form stands at its place, and nothing else does
pub record IsRowOf {T : Type 0} (Stands : T → List Token → List Token → ℕ → Type 0) (s : List Token) (o : Option (Found T)) : Type 0 where
  pub whole : (t : T) (r : List Token) (d : ℕ) → Stands t s r d → o ≡ Some (found t r d)
  pub sound : (f : Found T) → o ≡ Some f → Stands f.tree s f.rest f.depth
  pub within : IsWithin s (spot o)

pub chunk_row : (s : List Token) → IsRowOf IsChunkAt s ((stands s).chunk)
unfolding stands
chunk_row s = record {
  whole = λ t r d p. chunk-whole p;
  sound = λ f e. chunk-stands s f e;
  within = within_chunk s;
}

pub type_row : (s : List Token) → IsRowOf IsTypeAt s ((stands s).type)
unfolding stands
type_row s = record {
  whole = λ t r d p. type-whole p;
  sound = λ f e. type-stands s f e;
  within = within_type s;
}

pub expr_row : (h : Bool) (s : List Token) → IsRowOf (IsExprAt h) s ((stands s).expr 5 h false)
unfolding stands
expr_row h s = record {
  whole = λ t r d p. expr-whole p;
  sound = λ f e. expr-stands h s f e;
  within = within_expr 5 h false s;
}

pub block_row : (s : List Token) → IsRowOf IsBlockAt s ((stands s).block)
unfolding stands
block_row s = record {
  whole = λ t r d p. block-whole p;
  sound = λ f e. block-stands s f e;
  within = within_block s;
}

pub type_row_of : (s t : List Token) → t ≡ s → IsRowOf IsTypeAt s ((stands t).type)
type_row_of s t e = rw e (type_row s)

pub expr_row_of : (h : Bool) (s t : List Token) → t ≡ s → IsRowOf (IsExprAt h) s ((stands t).expr 5 h false)
expr_row_of h s t e = rw e (expr_row h s)

pub block_row_of : (s t : List Token) → t ≡ s → IsRowOf IsBlockAt s ((stands t).block)
block_row_of s t e = rw e (block_row s)

pub row_lacks : {T : Type 0} (Stands : T → List Token → List Token → ℕ → Type 0) (tokens : List Token) (at : ℕ) (o : Option (Found T)) → IsRowOf Stands (drop at tokens) o → spot o ≡ None → Lacks Stands tokens at
row_lacks Stands tokens at None i e = λ t r d p. some_is_none (i.whole t r d p)
row_lacks Stands tokens at (Some f) i e = absurd (some_is_none (sym e))

pub row_deep : {T : Type 0} (Stands : T → List Token → List Token → ℕ → Type 0) (tokens : List Token) (at : ℕ) (o : Option (Found T)) (c : ℕ) (r : List Token) → IsRowOf Stands (drop at tokens) o → spot o ≡ Some (c, r) → 200 < c → IsTooDeep Stands tokens at
row_deep Stands tokens at None c r i e l = absurd (some_is_none e)
row_deep Stands tokens at (Some f) c r i e l = (f.tree, f.rest, f.depth, i.sound f refl, omega (arith, l, ap (λ z. z.0) (some_is e)))

pub chunk_row_of : (s t : List Token) → t ≡ s → IsRowOf IsChunkAt s ((stands t).chunk)
chunk_row_of s t e = rw e (chunk_row s)

abbrev nothing : List Token
nothing = []

drop-nil : (k : ℕ) → drop k nothing ≡ nothing
drop-nil zero = refl
drop-nil (suc k) = refl

drop-more : (a k : ℕ) (s : List Token) → drop (k + a) s ≡ drop k (drop a s)
drop-more zero k s = let e : k + 0 ≡ k = omega arith in rw e refl
drop-more (suc a) k [] = drop-nil (k + suc a) ∙ sym (drop-nil k)
drop-more (suc a) k (x ∷ s) = let e : k + suc a ≡ suc (k + a) = omega arith in rw e (drop-more a k s)

-- where so many tokens are left
end_drop : (tokens : List Token) (at : ℕ) (r : List Token) → at ≤ length tokens → length r ≤ length (drop at tokens) → last (length r) (drop at tokens) ≡ r → drop (length tokens - length r) tokens ≡ r
end_drop tokens at r l m e =
    let size = length-drop at tokens in
    let same : length tokens - length r ≡ (length (drop at tokens) - length r) + at = omega (arith, l, m, size) in
    rw (same, drop-more at (length (drop at tokens) - length r) tokens) e

pub tree_at : {T : Type 0} (Stands : T → List Token → List Token → ℕ → Type 0) (tokens : List Token) (at : ℕ) (f : Found T) (c : ℕ) (r : List Token) → at ≤ length tokens → IsRowOf Stands (drop at tokens) (Some f) → spot (Some f) ≡ Some (c, r) → c ≤ 200 → IsTree Stands tokens at f.tree (length tokens - length r)
tree_at Stands tokens at f c r k i e l =
    let both = some_is e in
    let rest : f.rest ≡ r = ap (λ z. z.1) both in
    let deep : cap f.depth ≡ c = ap (λ z. z.0) both in
    let size = length-drop at tokens in
    let within = i.within in
    (f.depth, subst (λ z. Stands f.tree (drop at tokens) z f.depth) (rest ∙ sym (end_drop tokens at r k (omega (arith, within.0, ap length rest)) (rw rest at within.1))) (i.sound f refl), omega (arith, k, size, within.0, ap length rest), omega arith, omega (arith, l, deep))

pub row_tree : {T : Type 0} (Stands : T → List Token → List Token → ℕ → Type 0) (tokens : List Token) (at : ℕ) (o : Option (Found T)) (c : ℕ) (r : List Token) → at ≤ length tokens → IsRowOf Stands (drop at tokens) o → spot o ≡ Some (c, r) → c ≤ 200 → (t : T) × IsTree Stands tokens at t (length tokens - length r)
row_tree Stands tokens at None c r k i e l = absurd (some_is_none e)
row_tree Stands tokens at (Some f) c r k i e l = (f.tree, tree_at Stands tokens at f c r k i e l)

pub row_short : {T : Type 0} (Stands : T → List Token → List Token → ℕ → Type 0) (tokens : List Token) (at : ℕ) (o : Option (Found T)) (c : ℕ) (r : List Token) → at ≤ length tokens → IsRowOf Stands (drop at tokens) o → spot o ≡ Some (c, r) → length r ≤ length tokens
row_short Stands tokens at None c r k i e = absurd (some_is_none e)
row_short Stands tokens at (Some f) c r k i e = let rest : f.rest ≡ r = ap (λ z. z.1) (some_is e) in omega (arith, k, length-drop at tokens, i.within.0, ap length rest)
