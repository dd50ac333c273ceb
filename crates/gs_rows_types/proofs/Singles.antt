-- A list of names has one name where no comma follows the first.
use Rattle.std.proofs.Common.{◌≡◌, max, Bool, false, List, [], ◌∷◌, refl, sym, ap, ◌∙◌, Option, Some, is_none}
use Rattle.gs_syntax.specs.declared.token.Token.{Token}
use Rattle.gs_syntax.specs.declared.token.Operator.TheVariants as mark
use Rattle.gs_grammar.specs.declared.trees.Parameter.TheVariants as pa
use Rattle.gs_grammar.specs.Front.{◌>>=◌, ◌>>◌, mark_at, name_at, trail_at}
use Rattle.gs_grammar.specs.Parts.{Found, found, is_single}
use Rattle.gs_grammar.specs.Steps.{read_one_name, read_more_names, idents_step, read_last_named_dots}
use Rattle.gs_grammar.proofs.Common.{bind, guard, either, from_some, some_is_none, if-some}
use Rattle.gs_places.specs.Places.{stands}
use Rattle.gs_places.proofs.Chains.{bind-same, guard-two}
use Rattle.gs_places.proofs.Laws.{at_idents, end_idents}

data IsLong : List Token → Type 0 where
  long : {x : Token} {xs : List Token} → IsLong (x ∷ xs)

one-long : (s : List Token) (x : Token) (f : Found (List Token)) → read_one_name s stands x ≡ Some f → IsLong f.tree
unfolding read_one_name
one-long s x f c = let Q : Found (List Token) → Type 0 = λ z. IsLong z.tree in
    bind Q (name_at (x ∷ s)) _ (λ n e1 b1 c1. guard Q (is_none (mark_at mark.Comma n.1)) _ (λ e2 b2 c2. from_some Q c2 long) b1 c1) f c

more-long : (s : List Token) (x : Token) (f : Found (List Token)) → read_more_names s stands x ≡ Some f → IsLong f.tree
unfolding read_more_names
more-long s x f c = let Q : Found (List Token) → Type 0 = λ z. IsLong z.tree in
    bind Q (name_at (x ∷ s)) _ (λ n e1 b1 c1. bind Q (mark_at mark.Comma n.1) _ (λ z e2 b2 c2. bind Q ((stands z.1).idents) _ (λ xs e3 b3 c3. from_some Q c3 long) b2 c2) b1 c1) f c

step-long : (s : List Token) (x : Token) (f : Found (List Token)) → idents_step s stands x ≡ Some f → IsLong f.tree
unfolding idents_step
step-long s x f c = let Q : Found (List Token) → Type 0 = λ z. IsLong z.tree in either Q _ _ (one-long s x) (more-long s x) f c

stand-long : (s : List Token) (f : Found (List Token)) → (stands s).idents ≡ Some f → IsLong f.tree
stand-long [] f c = absurd (some_is_none (sym end_idents ∙ c))
stand-long (x ∷ s) f c = step-long s x f (sym (at_idents x s) ∙ c)

-- behind a name the other tokens follow
name-rest : (s : List Token) (x : Token) (n : Token × List Token) → name_at (x ∷ s) ≡ Some n → n.1 ≡ s
unfolding name_at
name-rest s x n e = let h = if-some _ e in sym (ap (λ z. z.1) h.1)

not-single : (x : Token) (xs : List Token) → IsLong xs → is_single (x ∷ xs) ≡ false
not-single x _ long = refl

is-none-of : {A : Type 0} (o : Option A) {a : A} → o ≡ Some a → is_none o ≡ false
is-none-of o e = rw e refl

one-single : (s : List Token) (x : Token) (f : Found (List Token)) → read_one_name s stands x ≡ Some f → is_single f.tree ≡ is_none (mark_at mark.Comma s)
unfolding read_one_name
one-single s x f c = let Q : Found (List Token) → Type 0 = λ z. is_single z.tree ≡ is_none (mark_at mark.Comma s) in
    bind Q (name_at (x ∷ s)) _ (λ n e1 b1 c1. guard Q (is_none (mark_at mark.Comma n.1)) _ (λ e2 b2 c2. from_some Q c2 (sym e2 ∙ ap (λ z. is_none (mark_at mark.Comma z)) (name-rest s x n e1))) b1 c1) f c

more-single : (s : List Token) (x : Token) (f : Found (List Token)) → read_more_names s stands x ≡ Some f → is_single f.tree ≡ is_none (mark_at mark.Comma s)
unfolding read_more_names
more-single s x f c = let Q : Found (List Token) → Type 0 = λ z. is_single z.tree ≡ is_none (mark_at mark.Comma s) in
    bind Q (name_at (x ∷ s)) _ (λ n e1 b1 c1. bind Q (mark_at mark.Comma n.1) _ (λ z e2 b2 c2. bind Q ((stands z.1).idents) _ (λ xs e3 b3 c3. from_some Q c3 (not-single n.0 xs.tree (stand-long z.1 xs e3) ∙ sym (is-none-of (mark_at mark.Comma s) (ap (mark_at mark.Comma) (sym (name-rest s x n e1)) ∙ e2)))) b2 c2) b1 c1) f c

pub single_names : (s : List Token) (x : Token) (f : Found (List Token)) → idents_step s stands x ≡ Some f → is_single f.tree ≡ is_none (mark_at mark.Comma s)
unfolding idents_step
single_names s x f c = let Q : Found (List Token) → Type 0 = λ z. is_single z.tree ≡ is_none (mark_at mark.Comma s) in either Q _ _ (one-single s x) (more-single s x) f c

-- the dots stand behind one name, so no comma follows it
pub named_dots : (dots : Bool) (x : Token) (s : List Token) → read_last_named_dots s stands dots x ≡ (idents_step s stands x >>= λ xs. mark_at mark.Ellipsis xs.rest >>= λ p. is_none (mark_at mark.Comma s) >> dots >> (stands p.1).type >>= λ t. trail_at mark.RightParen t.rest >>= λ z5. Some (found (pa.NamedVariadic xs.tree p.0 t.tree ∷ []) z5 (max xs.depth t.depth)))
unfolding read_last_named_dots
named_dots dots x s = bind-same (idents_step s stands x) (λ xs e1. bind-same (mark_at mark.Ellipsis xs.rest) (λ p e2. guard-two _ _ (single_names s x xs e1) refl))
