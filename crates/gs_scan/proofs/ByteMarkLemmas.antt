-- A byte order mark at the front of a text.
use Rattle.std.proofs.Common.{◌≡◌, ℕ, Bool, true, false, ◌&&◌, ◌==◌, List, [], ◌∷◌, ◌++◌, ◌≤◌, length, drop, sym, refl, ap, ◌∙◌, subst, ⊎_elim, arith, IsUtf8, nat_eq}
use Rattle.std.specs.Char.{encode_utf8}
use Rattle.std.specs.List.{starts_with}
use Rattle.std.specs.Str.{IsCharBoundary}
use Rattle.std.proofs.lemmas.Bool.{false≢true, and_parts, cases_Bool, eqb-true}
use Rattle.gs_syntax.specs.Tokens.{mark_size}
use Rattle.std.proofs.lemmas.Str.{IsCharBoundary-at_seam, IsUtf8-past_char}

and_false : (b : Bool) → (b && false) ≡ false
and_false true = refl
and_false false = refl

mark_front : (text : List ℕ) → starts_with nat_eq text (239 ∷ 187 ∷ 191 ∷ []) ≡ true → text ≡ 239 ∷ 187 ∷ 191 ∷ drop 3 text
mark_front [] h = absurd (false≢true h)
mark_front (a ∷ []) h = absurd (false≢true (sym (and_false (239 == a)) ∙ h))
mark_front (a ∷ b ∷ []) h = absurd (false≢true (sym (ap (λ x. (239 == a) && x) (and_false (187 == b)) ∙ and_false (239 == a)) ∙ h))
mark_front (a ∷ b ∷ c ∷ text) h =
    let first = and_parts (239 == a) ((187 == b) && ((191 == c) && true)) h in
    let second = and_parts (187 == b) ((191 == c) && true) first.1 in
    let third = and_parts (191 == c) true second.1 in
    λ i. sym (eqb-true 239 a first.0) i ∷ sym (eqb-true 187 b second.0) i ∷ sym (eqb-true 191 c third.0) i ∷ text

mark_bytes : encode_utf8 65279 ≡ 239 ∷ 187 ∷ 191 ∷ []
unfolding encode_utf8
mark_bytes = refl

pub mark_boundary : (text : List ℕ) → IsUtf8 text → starts_with nat_eq text (239 ∷ 187 ∷ 191 ∷ []) ≡ true → IsCharBoundary text 3
mark_boundary text utf8 h =
    let begins : text ≡ encode_utf8 65279 ++ drop 3 text = mark_front text h ∙ ap (λ l. l ++ drop 3 text) (sym mark_bytes) in
    let boundary = IsCharBoundary-at_seam text (encode_utf8 65279) (drop 3 text) begins (IsUtf8-past_char text (drop 3 text) 65279 utf8 begins) in
    subst (IsCharBoundary text) (ap length mark_bytes) boundary

pub mark_within : (text : List ℕ) → mark_size text ≤ length text
mark_within text =
    ⊎_elim
    (λ is. rw is (let e = ap length (mark_front text is) in omega arith))
    (λ is. rw is (omega arith))
    (cases_Bool (starts_with nat_eq text (239 ∷ 187 ∷ 191 ∷ [])))
