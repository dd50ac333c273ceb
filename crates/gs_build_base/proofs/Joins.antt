-- Lists behind the items before them.
use Rattle.std.proofs.Common.{◌≡◌, List, [], ◌∷◌, ◌++◌, refl, append_assoc, Option, Some, None}
use Rattle.gs_syntax.specs.declared.token.Token.{Token}
use Rattle.std.proofs.lemmas.List.{append-nil}
use Rattle.gs_build_base.specs.Pieces.{joined, joined_to}

pub joined_start : {A : Type 0} (o : Option (List A × List Token)) → joined [] o ≡ o
unfolding joined
joined_start None = refl
joined_start (Some p) = refl

pub joined_more : {A : Type 0} (xs : List A) (x : A) (o : Option (List A × List Token)) → joined xs (joined (x ∷ []) o) ≡ joined (xs ++ x ∷ []) o
unfolding joined
joined_more xs x None = refl
joined_more xs x (Some p) = rw (append_assoc xs (x ∷ []) p.0) refl

pub joined_last : {A : Type 0} (xs ys : List A) (r : List Token) → joined xs (Some (ys, r)) ≡ Some (xs ++ ys, r)
unfolding joined
joined_last xs ys r = refl

pub joined_end : {A : Type 0} (xs : List A) (r : List Token) → joined xs (Some ([], r)) ≡ Some (xs, r)
unfolding joined
joined_end xs r = rw (append-nil xs) refl

pub joined_none : {A : Type 0} (xs : List A) → joined xs None ≡ None
unfolding joined
joined_none xs = refl

pub joined_to_start : {A E : Type 0} (o : Option ((List A × E) × List Token)) → joined_to [] o ≡ o
unfolding joined_to
joined_to_start None = refl
joined_to_start (Some p) = refl

pub joined_to_more : {A E : Type 0} (xs : List A) (x : A) (o : Option ((List A × E) × List Token)) → joined_to xs (joined_to (x ∷ []) o) ≡ joined_to (xs ++ x ∷ []) o
unfolding joined_to
joined_to_more xs x None = refl
joined_to_more xs x (Some p) = rw (append_assoc xs (x ∷ []) p.0.0) refl

pub joined_to_last : {A E : Type 0} (xs ys : List A) (e : E) (r : List Token) → joined_to xs (Some ((ys, e), r)) ≡ Some ((xs ++ ys, e), r)
unfolding joined_to
joined_to_last xs ys e r = refl

pub joined_to_end : {A E : Type 0} (xs : List A) (e : E) (r : List Token) → joined_to xs (Some (([], e), r)) ≡ Some ((xs, e), r)
unfolding joined_to
joined_to_end xs e r = rw (append-nil xs) refl

pub joined_to_none : {A E : Type 0} (xs : List A) → joined_to {A = A} {E = E} xs None ≡ None
unfolding joined_to
joined_to_none xs = refl
