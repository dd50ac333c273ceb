-- The conditions of the first form, apart and together.
use Rattle.std.proofs.Common.{◌≡◌, ℕ, Bool, true, false, ◌&&◌, List, [], ◌∷◌, refl, subst, Option}
use Rattle.std.specs.List.{list_all}
use Rattle.gs_syntax.specs.declared.token.Token.{Token}
use Rattle.gs_syntax.specs.Tokens.{AreTokens}
use Rattle.gs_rules.specs.Trees.{Declaration}
use Rattle.gs_rules.specs.Files.{declarations_of, lookup_of}
use Rattle.goserve.specs.FirstForm.{IsPlainText, IsFirstForm, is_plain, are_apart, has_free_name, has_free_right, has_constant_right, are_in_order}
use Rattle.goserve.specs.Simple.{is_simple, are_simple}

and_left : (a b : Bool) → (a && b) ≡ true → a ≡ true
and_left true b h = refl
and_left false b h = h

and_right : (a b : Bool) → (a && b) ≡ true → b ≡ true
and_right true b h = h
and_right false b h = absurd (cc)

and_both : (a b : Bool) → a ≡ true → b ≡ true → (a && b) ≡ true
and_both true b h k = k
and_both false b h k = h

not_both : (a : Bool) → a ≡ true → a ≡ false → ⊥
not_both a h k = absurd (cc)

-- the tokens have the form
abbrev pub have_form : List ℕ → List Token → Bool
have_form input ts = list_all (is_plain input) ts && are_apart false ts

form_holds : (input : List ℕ) (ts : List Token) → IsFirstForm input ts → have_form input ts ≡ true
form_holds input ts form = and_both _ _ form.plain form.apart

pub unlike_tokens : (input : List ℕ) (ts us : List Token) → ts ≡ us → have_form input ts ≡ false → IsFirstForm input us → ⊥
unlike_tokens input ts us e h form = not_both (have_form input us) (form_holds input us form) (subst (λ l. have_form input l ≡ false) e h)

module _ (lookup : List ℕ → Option Bool) where
  together : (ds : List Declaration) → list_all has_free_name ds ≡ true → list_all has_free_right ds ≡ true →
      list_all (has_constant_right lookup) ds ≡ true → list_all (is_simple lookup) ds ≡ true
  together [] n r k = refl
  together (d ∷ ds) n r k = and_both (is_simple lookup d) (list_all (is_simple lookup) ds)
      (and_both (has_free_name d) _ (and_left (has_free_name d) _ n) (and_both (has_free_right d) _ (and_left (has_free_right d) _ r) (and_left (has_constant_right lookup d) _ k)))
      (together ds (and_right (has_free_name d) _ n) (and_right (has_free_right d) _ r) (and_right (has_constant_right lookup d) _ k))

  names_apart : (ds : List Declaration) → list_all (is_simple lookup) ds ≡ true → list_all has_free_name ds ≡ true
  names_apart [] h = refl
  names_apart (d ∷ ds) h = and_both (has_free_name d) _ (and_left (has_free_name d) _ (and_left (is_simple lookup d) _ h)) (names_apart ds (and_right (is_simple lookup d) _ h))

  rights_apart : (ds : List Declaration) → list_all (is_simple lookup) ds ≡ true → list_all has_free_right ds ≡ true
  rights_apart [] h = refl
  rights_apart (d ∷ ds) h = and_both (has_free_right d) _
      (and_left (has_free_right d) _ (and_right (has_free_name d) _ (and_left (is_simple lookup d) _ h))) (rights_apart ds (and_right (is_simple lookup d) _ h))

  constants_apart : (ds : List Declaration) → list_all (is_simple lookup) ds ≡ true → list_all (has_constant_right lookup) ds ≡ true
  constants_apart [] h = refl
  constants_apart (d ∷ ds) h = and_both (has_constant_right lookup d) _
      (and_right (has_free_right d) _ (and_right (has_free_name d) _ (and_left (is_simple lookup d) _ h))) (constants_apart ds (and_right (is_simple lookup d) _ h))

simple_holds : (input : List ℕ) (ts : List Token) → IsFirstForm input ts → are_simple (declarations_of ts) ≡ true
simple_holds input ts form = and_both (are_in_order (declarations_of ts)) _ form.order (together (lookup_of (declarations_of ts)) (declarations_of ts) form.names form.rights form.constants)

pub unlike_declarations : (input : List ℕ) (ts us : List Token) (ds : List Declaration) → ts ≡ us → ds ≡ declarations_of ts → are_simple ds ≡ false → IsFirstForm input us → ⊥
unlike_declarations input ts us ds e d h form = not_both (are_simple (declarations_of us)) (simple_holds input us form)
    (subst (λ l. are_simple (declarations_of l) ≡ false) e (subst (λ l. are_simple l ≡ false) d h))

pub has_form : (input : List ℕ) (ts : List Token) (ds : List Declaration) → IsPlainText input → AreTokens input ts → have_form input ts ≡ true →
    ds ≡ declarations_of ts → are_simple ds ≡ true → IsFirstForm input ts
has_form input ts ds text scanned f d s =
    let all : are_simple (declarations_of ts) ≡ true = subst (λ l. are_simple l ≡ true) d s in
    let simple : list_all (is_simple (lookup_of (declarations_of ts))) (declarations_of ts) ≡ true = and_right (are_in_order (declarations_of ts)) _ all in
    record {
      text = text;
      scanned = scanned;
      plain = and_left (list_all (is_plain input) ts) _ f;
      apart = and_right (list_all (is_plain input) ts) _ f;
      names = names_apart _ (declarations_of ts) simple;
      rights = rights_apart _ (declarations_of ts) simple;
      order = and_left (are_in_order (declarations_of ts)) _ all;
      constants = constants_apart _ (declarations_of ts) simple;
    }
