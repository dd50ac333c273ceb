-- The first line of a text, as characters.
use Rattle.std.proofs.Common.{◌≡◌, ℕ, suc, ◌<◌, Bool, true, false, List, [], ◌∷◌, ◌++◌, length, get_or, refl, sym, ◌∙◌, ap, arith, ⊎_elim}
use Rattle.std.specs.Prelude.{take_while, encode_utf8}
use Rattle.std.specs.Str.{encode_utf8_all, all_scalars, chars, IsUtf8}
use Rattle.std.proofs.lemmas.Bool.{cond-true, cond-false, cases_Bool, and_parts, and_from, both_ways, true_from_ne_false}
use Rattle.std.proofs.lemmas.Bool.Decides.{nat_tests}
use Rattle.std.proofs.lemmas.List.{append-nil}
use Rattle.std.proofs.lemmas.List.Sums.{take_while-cons}
use Rattle.std.proofs.lemmas.Str.{chars-encodes, inside_one, encode_ascii, encodes-chars, scalars-chars}
use Rattle.gs_text.specs.LineEnds.{is_in_line, first_line}

-- a front that passes is taken whole
take_while_past : (p : ℕ → Bool) (xs ys : List ℕ) → ((k : ℕ) → k < length xs → p (get_or xs k 0) ≡ true) → take_while p (xs ++ ys) ≡ xs ++ take_while p ys
take_while_past p [] ys all = refl
take_while_past p (x ∷ xs) ys all =
    take_while-cons p x (xs ++ ys)
    ∙ cond-true (p x) (x ∷ take_while p (xs ++ ys)) [] (all 0 (omega arith))
    ∙ ap (λ l. x ∷ l) (take_while_past p xs ys (λ k l. all (suc k) (omega arith)))

-- a byte that ends a line is ASCII
ends_ascii : (b : ℕ) → is_in_line b ≡ false → b < 128
ends_ascii b e = grind (arith, nat_tests)

-- no byte of a character ends a line that the character doesn't
bytes_in_line : (c : ℕ) → is_in_line c ≡ true → (k : ℕ) → k < length (encode_utf8 c) → is_in_line (get_or (encode_utf8 c) k 0) ≡ true
bytes_in_line c in_line k within =
    true_from_ne_false _ (λ ends.
    let same = inside_one c [] (encode_utf8 c) k (sym (append-nil (encode_utf8 c))) within (ends_ascii _ ends) in
    both_ways (is_in_line c) (ap is_in_line same ∙ ends) in_line)

first_line-encodes : (cs : List ℕ) → first_line (encode_utf8_all cs) ≡ encode_utf8_all (take_while is_in_line cs)
first_line-encodes [] = refl
first_line-encodes (c ∷ cs) =
    ⊎_elim
    (λ yes.
    take_while_past is_in_line (encode_utf8 c) (encode_utf8_all cs) (bytes_in_line c yes)
    ∙ ap (λ l. encode_utf8 c ++ l) (first_line-encodes cs)
    ∙ ap encode_utf8_all (sym (take_while-cons is_in_line c cs ∙ cond-true (is_in_line c) (c ∷ take_while is_in_line cs) [] yes)))
    (λ no.
    ap (λ l. take_while is_in_line (l ++ encode_utf8_all cs)) (encode_ascii c (ends_ascii c no))
    ∙ take_while-cons is_in_line c (encode_utf8_all cs)
    ∙ cond-false (is_in_line c) (c ∷ take_while is_in_line (encode_utf8_all cs)) [] no
    ∙ ap encode_utf8_all (sym (take_while-cons is_in_line c cs ∙ cond-false (is_in_line c) (c ∷ take_while is_in_line cs) [] no)))
    (cases_Bool (is_in_line c))

scalars-take_while : (p : ℕ → Bool) (cs : List ℕ) → all_scalars cs ≡ true → all_scalars (take_while p cs) ≡ true
scalars-take_while p [] all = refl
scalars-take_while p (c ∷ cs) all =
    let parts = and_parts _ (all_scalars cs) all in
    ⊎_elim
    (λ yes.
    ap all_scalars (take_while-cons p c cs ∙ cond-true (p c) (c ∷ take_while p cs) [] yes)
    ∙ and_from _ (all_scalars (take_while p cs)) parts.0 (scalars-take_while p cs parts.1))
    (λ no. ap all_scalars (take_while-cons p c cs ∙ cond-false (p c) (c ∷ take_while p cs) [] no))
    (cases_Bool (p c))

-- a text's first line is text, and has the characters before the first line end
pub first_line-IsUtf8 : (text : List ℕ) → IsUtf8 text → IsUtf8 (first_line text)
first_line-IsUtf8 text utf8 =
    let scalars = scalars-take_while is_in_line (chars text) (scalars-chars text utf8) in
    (take_while is_in_line (chars text), (scalars, sym (first_line-encodes (chars text)) ∙ ap first_line (encodes-chars text utf8)))

pub chars-first_line : (text : List ℕ) → IsUtf8 text → chars (first_line text) ≡ take_while is_in_line (chars text)
chars-first_line text utf8 =
    ap (λ t. chars (first_line t)) (sym (encodes-chars text utf8))
    ∙ ap chars (first_line-encodes (chars text))
    ∙ chars-encodes (take_while is_in_line (chars text)) (scalars-take_while is_in_line (chars text) (scalars-chars text utf8))
