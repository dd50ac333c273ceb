-- Lemmas on bytes: cuts at a byte, blanks and digits.
use Rattle.std.proofs.Common.{◌≡◌, ℕ, zero, suc, ◌+◌, ◌^◌, ◌<◌, ◌≤◌, Bool, true, false, cond, List, [], ◌∷◌, ◌++◌, length, get_or, take, drop, refl, sym, ◌∙◌, ap, arith, eqb, Some, None, Result, Ok, ◌||◌, ◌&&◌, append_assoc}
use Rattle.std.specs.List.{list_all, position, position_or_len}
use Rattle.std.specs.Char.{is_ascii_digit}
use Rattle.std.specs.Str.{IsUtf8, all_ascii_digits}
use Rattle.std.specs.Str.Parse.{ParsesUnsigned, digits_value}
use Rattle.std.proofs.Math.Bool.{and-true, and-false}
use Rattle.std.proofs.lemmas.Bool.{eqb-true, eq-eqb, ltb-false}
use Rattle.std.proofs.lemmas.Bool.Decides.{nat_tests}
use Rattle.std.proofs.lemmas.List.{take-append-drop, drop_more, length-take-le, get_or-take, append_cancel_right}
use Rattle.std.proofs.lemmas.List.Elements.{All-from_get_or}
use Rattle.std.proofs.lemmas.List.Folds.{list_any_none, list_all-append}
use Rattle.std.proofs.lemmas.List.Quantifiers.{position-Some}
use Rattle.std.proofs.lemmas.List.Sums.{fails_before_first}
use Rattle.std.proofs.lemmas.Str.{IsUtf8-from_ascii}
use Rattle.std.proofs.lemmas.Str.Parse.{IsNumeralModel, numerals_by_value, tells_all_ascii_digits, parse_gives, digits_value_short}
use Rattle.gs_frames.specs.Header.{has, is_blank, without_blanks_behind, IsNumber}
use Rattle.gs_frames.specs.Lines.{Cuts}

-- where the byte isn't found, it isn't there
none_test : (b : Bool) (x : ℕ) → cond b (Some x) None ≡ None → b ≡ false
none_test true x e = absurd (cc)
none_test false x e = refl

not_found_from : (c : ℕ) (bytes : List ℕ) → length bytes ≤ position_or_len (λ b. eqb b c) bytes → has c bytes ≡ false
not_found_from c bytes e = list_any_none (λ b. eqb b c) bytes (All-from_get_or (λ b. eqb b c ≡ false) bytes 0 (λ i h. fails_before_first (λ b. eqb b c) bytes i 0 (omega arith)))

pub not_found : (c : ℕ) (bytes : List ℕ) → position (λ b. eqb b c) bytes ≡ None → has c bytes ≡ false
not_found c bytes e = not_found_from c bytes (ltb-false _ _ (none_test _ _ e))

head_is : (ys : List ℕ) (x : ℕ) (r : List ℕ) → ys ≡ x ∷ r → ys ≡ x ∷ drop 1 ys
head_is ys x r e = e ∙ ap (λ (t : List ℕ). x ∷ t) (sym (ap (drop 1) e))

pub found : (c : ℕ) (bytes : List ℕ) (i : ℕ) → position (λ b. eqb b c) bytes ≡ Some i → Cuts c bytes (take i bytes) (drop 1 (drop i bytes))
found c bytes i e =
    let at = position-Some (λ b. eqb b c) bytes i 0 e in
    let here : get_or bytes i 0 ≡ c = eqb-true _ _ at.1 in
    let rest : drop i bytes ≡ c ∷ drop (i + 1) bytes = drop_more bytes i 0 at.0 ∙ ap (λ (x : ℕ). x ∷ drop (i + 1) bytes) here in
    let len : length (take i bytes) ≡ i = length-take-le i bytes (omega (arith, at.0)) in
    record {
      whole = sym (take-append-drop i bytes) ∙ ap (λ (t : List ℕ). take i bytes ++ t) (head_is (drop i bytes) c (drop (i + 1) bytes) rest);
      first = list_any_none (λ b. eqb b c) (take i bytes) (All-from_get_or (λ b. eqb b c ≡ false) (take i bytes) 0 (λ k h.
          let lt : k < i = omega (arith, len) in
          ap (λ (x : ℕ). eqb x c) (get_or-take i bytes k 0 lt) ∙ at.2 k lt));
    }

both_false : (a b : Bool) → (a && (b && false)) ≡ false
both_false a b = ap (λ (t : Bool). a && t) (and-false b) ∙ and-false a

pub behind_blank : (bytes : List ℕ) (b : ℕ) → is_blank b ≡ true → without_blanks_behind (bytes ++ b ∷ []) ≡ without_blanks_behind bytes
behind_blank [] b h = rw h refl
behind_blank (x ∷ bytes) b h = rw (list_all-append is_blank bytes (b ∷ []), h, behind_blank bytes b h) (rw (and-true (list_all is_blank bytes)) refl)

-- another byte at the end stays, and all before it
pub behind_other : (bytes : List ℕ) (b : ℕ) → is_blank b ≡ false → without_blanks_behind (bytes ++ b ∷ []) ≡ bytes ++ b ∷ []
behind_other [] b h = rw h refl
behind_other (x ∷ bytes) b h = rw (list_all-append is_blank bytes (b ∷ []), h, behind_other bytes b h) (rw (both_false (is_blank x) (list_all is_blank bytes)) refl)

-- digits are ASCII, and their number fits
digit_small : (x : ℕ) (b : Bool) → (is_ascii_digit x && b) ≡ true → x < 128
digit_small x b h = grind (arith, nat_tests)

pub digits_later : (x : ℕ) (b : Bool) → (is_ascii_digit x && b) ≡ true → b ≡ true
digits_later x true h = refl
digits_later x false h = absurd (let e = sym h ∙ and-false (is_ascii_digit x) in cc)

pub ascii_digits : (t : List ℕ) → list_all is_ascii_digit t ≡ true → (i : ℕ) → get_or t i 0 < 128
ascii_digits [] h i = omega arith
ascii_digits (x ∷ xs) h zero = digit_small x (list_all is_ascii_digit xs) h
ascii_digits (x ∷ xs) h (suc i) = ascii_digits xs (digits_later x (list_all is_ascii_digit xs) h) i

pub same_digits : (t : List ℕ) → all_ascii_digits t ≡ list_all is_ascii_digit t
same_digits [] = refl
same_digits (x ∷ xs) = ap (λ (b : Bool). is_ascii_digit x && b) (same_digits xs)

pub own : IsNumeralModel (λ ds. all_ascii_digits ds ≡ true) (digits_value 10)
own = numerals_by_value (λ ds. all_ascii_digits ds ≡ true) tells_all_ascii_digits

pub number_below : (t : List ℕ) → IsNumber t → digits_value 10 t < 10 ^ 19
number_below t h = digits_value_short own t 19 (same_digits t ∙ h.digits) h.few

pub number_utf8 : (t : List ℕ) → IsNumber t → IsUtf8 t
number_utf8 t h = IsUtf8-from_ascii t (ascii_digits t h.digits)

pub number_parsed : {E : Type 0} (t : List ℕ) (r : Result ℕ E) → ParsesUnsigned 64 10 t r → IsNumber t → r ≡ Ok (digits_value 10 t)
number_parsed t r p h =
    let low : digits_value 10 t < 10 ^ 19 = number_below t h in
    parse_gives own 64 t r p (same_digits t ∙ h.digits) h.some (omega arith)

-- whether a byte is among others
pub or_left : (a b : Bool) → (a || b) ≡ false → a ≡ false
or_left false b h = refl
or_left true b h = h

pub or_right : (a b : Bool) → (a || b) ≡ false → b ≡ false
or_right false b h = h
or_right true b h = absurd (cc)

or-true : (a : Bool) → (a || true) ≡ true
or-true false = refl
or-true true = refl

pub has_at : (c : ℕ) (a x : List ℕ) → has c (a ++ c ∷ x) ≡ true
has_at c [] x = rw (eq-eqb c c refl) refl
has_at c (b ∷ a) x = rw (has_at c a x) (or-true (eqb b c))

pub has_not : (c : ℕ) (t a x : List ℕ) → has c t ≡ false → t ≡ a ++ c ∷ x → ⊥
has_not c t a x h e = let f = has_at c a x in let g = ap (has c) e in absurd (cc)

-- a byte that ends a line is at one place
pub same_cut : (c : ℕ) (a b x y : List ℕ) → has c a ≡ false → has c b ≡ false → a ++ c ∷ x ≡ b ++ c ∷ y → (a ≡ b) × (x ≡ y)
same_cut c [] [] x y p q e = (refl, (cc))
same_cut c [] (u ∷ b) x y p q e = absurd (let h : u ≡ c = cc in let k = eq-eqb u c h in let l = or_left (eqb u c) (has c b) q in cc)
same_cut c (u ∷ a) [] x y p q e = absurd (let h : u ≡ c = cc in let k = eq-eqb u c h in let l = or_left (eqb u c) (has c a) p in cc)
same_cut c (u ∷ a) (v ∷ b) x y p q e =
    let tails : a ++ c ∷ x ≡ b ++ c ∷ y = cc in
    let r = same_cut c a b x y (or_right (eqb u c) (has c a) p) (or_right (eqb v c) (has c b) q) tails in
    let heads : u ≡ v = cc in
    let fronts : a ≡ b = r.0 in
    ((cc), r.1)

pub has_cr : (f : List ℕ) → has 10 f ≡ false → has 10 (f ++ 13 ∷ []) ≡ false
has_cr [] h = refl
has_cr (b ∷ f) h = rw (has_cr f (or_right (eqb b 10) (has 10 f) h), or_left (eqb b 10) (has 10 f) h) refl

pub same_line : (f g x y : List ℕ) → has 10 f ≡ false → has 10 g ≡ false → f ++ 13 ∷ 10 ∷ x ≡ g ++ 13 ∷ 10 ∷ y → (f ≡ g) × (x ≡ y)
same_line f g x y p q e =
    let r = same_cut 10 (f ++ 13 ∷ []) (g ++ 13 ∷ []) x y (has_cr f p) (has_cr g q) (append_assoc f (13 ∷ []) (10 ∷ x) ∙ (e ∙ sym (append_assoc g (13 ∷ []) (10 ∷ y)))) in
    (append_cancel_right f g (13 ∷ []) r.0, r.1)

-- a line without LF, up to an LF, is the line of a field where a field's line stands
pub field_line : (line f x y : List ℕ) → has 10 line ≡ false → has 10 f ≡ false → line ++ 10 ∷ x ≡ f ++ 13 ∷ 10 ∷ y → (line ≡ f ++ 13 ∷ []) × (x ≡ y)
field_line line f x y p q e = same_cut 10 line (f ++ 13 ∷ []) x y p (has_cr f q) (e ∙ sym (append_assoc f (13 ∷ []) (10 ∷ y)))
