-- The first places of the table are those of the tokens that are left.
use Rattle.std.proofs.Common.{◌≡◌, ℕ, zero, suc, ◌<◌, List, [], ◌∷◌, ◌++◌, length, get_or, take, drop, refl, sym, ap, ◌∙◌, arith, length-append, append_assoc}
use Rattle.std.proofs.Math.Seq.{get_or-append_seam, take-append_seam}
use Rattle.std.proofs.lemmas.List.{take-append-drop, length-take}
use Rattle.gs_syntax.specs.declared.token.Token.{Token}
use Rattle.gs_places.specs.declared.place.Place.{Place}
use Rattle.gs_places.specs.Places.{place, places}

pub length-places : (s : List Token) → length (places s) ≡ suc (length s)
unfolding places
length-places [] = refl
length-places (x ∷ s) = length-append (places s) _ ∙ omega (arith, length-places s)

front : (s : List Token) (b : List Place) → take (suc (length s)) (places s ++ b) ≡ places s
front s b = rw (← length-places s) (take-append_seam (places s) b)

whole : (s : List Token) (table : List Place) → take (suc (length s)) table ≡ places s → table ≡ places s ++ drop (suc (length s)) table
whole s table e = sym (take-append-drop (suc (length s)) table) ∙ ap (λ z. z ++ drop (suc (length s)) table) e

pub fits_next : (x : Token) (s : List Token) (table : List Place) → take (suc (suc (length s))) table ≡ places (x ∷ s) → take (suc (length s)) table ≡ places s
unfolding places
fits_next x s table e = ap (take (suc (length s))) (whole (x ∷ s) table e ∙ append_assoc (places s) _ _) ∙ front s _

pub fits_drop : (k : ℕ) (s : List Token) (table : List Place) → take (suc (length s)) table ≡ places s → take (suc (length (drop k s))) table ≡ places (drop k s)
fits_drop zero s table e = e
fits_drop (suc k) [] table e = e
fits_drop (suc k) (x ∷ s) table e = fits_drop k s table (fits_next x s table e)

places-at : (s : List Token) (b : List Place) (d : Place) → get_or (places s ++ b) (length s) d ≡ place s
unfolding places
places-at [] b d = refl
places-at (x ∷ s) b d = rw (append_assoc (places s) (place (x ∷ s) ∷ []) b, ← length-places s) (get_or-append_seam (places s) (place (x ∷ s)) b d)

pub here_is : (s : List Token) (table : List Place) (d : Place) → take (suc (length s)) table ≡ places s → get_or table (length s) d ≡ place s
here_is s table d e = ap (λ z. get_or z (length s) d) (whole s table e) ∙ places-at s _ d

pub here_within : (s : List Token) (table : List Place) → take (suc (length s)) table ≡ places s → length s < length table
here_within s table e = omega (arith, length-take (suc (length s)) table, ap length e, length-places s)

pub fits_first : (s : List Token) (x : Token) (r : List Token) (table : List Place) → take (suc (length s)) table ≡ places s → s ≡ x ∷ r → take (suc (length r)) table ≡ places r
fits_first s x r table e f = fits_next x r table (rw f at e)

pub fits_last : (k : ℕ) (s r : List Token) (table : List Place) → take (suc (length s)) table ≡ places s → r ≡ drop k s → take (suc (length r)) table ≡ places r
fits_last k s r table e f = rw f (fits_drop k s table e)
