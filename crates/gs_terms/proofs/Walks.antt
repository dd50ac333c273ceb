-- A test that walks two lists side by side.
use Rattle.std.proofs.Common.{◌≡◌, suc, Bool, true, false, ◌&&◌, List, [], ◌∷◌, length, refl, ap, ◌∙◌}
use Rattle.std.proofs.Math.Bool.{and-false}
use Rattle.gs_terms.specs.Shown.{terms_of, fields_of, methods_of}
use Rattle.gs_terms.specs.Identity.{identical, identical_all, identical_fields, identical_methods, same_field, same_method}

pub record Walk {X : Type 0} (F : List X → List X → Bool) (p : X → X → Bool) : Type 0 where
  pub none : F [] [] ≡ true
  pub left : (x : X) (xs : List X) → F (x ∷ xs) [] ≡ false
  pub right : (y : X) (ys : List X) → F [] (y ∷ ys) ≡ false
  pub more : (x y : X) (xs ys : List X) → F (x ∷ xs) (y ∷ ys) ≡ (p x y && F xs ys)

module _ {X : Type 0} (F : List X → List X → Bool) (p : X → X → Bool) (w : Walk F p) where
  pub unequal : (xs ys : List X) → (length xs ≡ length ys → ⊥) → F xs ys ≡ false
  unequal [] [] h = absurd (h refl)
  unequal [] (y ∷ ys) h = w.right y ys
  unequal (x ∷ xs) [] h = w.left x xs
  unequal (x ∷ xs) (y ∷ ys) h = w.more x y xs ys ∙ ap (λ b. p x y && b) (unequal xs ys (λ e. h (ap suc e))) ∙ and-false (p x y)

pub of_terms : Walk (λ xs ys. identical_all (terms_of xs) (terms_of ys)) identical
of_terms = record { none = refl; left = λ x xs. refl; right = λ y ys. refl; more = λ x y xs ys. refl }

pub of_fields : Walk (λ xs ys. identical_fields (fields_of xs) (fields_of ys)) same_field
of_fields = record { none = refl; left = λ x xs. refl; right = λ y ys. refl; more = λ x y xs ys. refl }

pub of_methods : Walk (λ xs ys. identical_methods (methods_of xs) (methods_of ys)) same_method
of_methods = record { none = refl; left = λ x xs. refl; right = λ y ys. refl; more = λ x y xs ys. refl }
