-- One number for the same bytes, how a number begins, and that it is of ASCII.
use Rattle.std.proofs.Common.{◌≡◌, ℕ, zero, suc, ◌<◌, true, false, not, ◌&&◌, ◌||◌, ◌==◌, cond, List, [], ◌∷◌, ◌++◌, length, get_or, sym, refl, ap, ◌∙◌, subst, ⊎_elim, inl, inr, arith, nat_lt, None}
use Rattle.std.specs.Str.{IsAscii}
use Rattle.std.specs.Char.{is_digit}
use Rattle.std.specs.List.{list_all}
use Rattle.std.proofs.lemmas.List.Folds.{list_all-append}
use Rattle.std.proofs.lemmas.Bool.{false≢true, and_parts, or_cases, ne_eqb, eqb-true, ltb-true}
use Rattle.gs_syntax.specs.Digits.{are_digits, IsDigits}
use Rattle.gs_syntax.specs.Numbers.{value_of, base_of, bounded, IsInteger, IsImaginary}
use Rattle.gs_syntax.specs.Floats.{IsDecimalFloat, IsFloat}
use Rattle.gs_numbers.specs.declared.number.Number.{Number}
use Rattle.gs_numbers.specs.declared.number.Number.TheVariants.{Integer, Float, Imaginary}
use Rattle.gs_numbers.specs.Spelling.{SpellsNumber, BeginsNumber}
use Rattle.gs_numbers.specs.Reading.{lettered_value, integer_value}
use Rattle.gs_numbers.proofs.DigitLemmas.{is_plain, fits, among}
use Rattle.gs_numbers.proofs.IntegerLemmas.{no_letter}
use Rattle.gs_numbers.proofs.ByteLemmas.{digits_plain, integer_plain, float_plain, apart}

-- ---- an integer has one value

octal_second : (digits : List ℕ) → 0 < length digits → are_digits 8 digits ≡ true → base_of (get_or digits 0 0) ≡ None
octal_second [] some are = absurd (omega (arith, some))
octal_second (d ∷ ds) some are =
    let here = (and_parts (fits 8 d ds) (are_digits 8 ds) are).0 in
    let digit : among 8 d ≡ true =
    ⊎_elim (λ e. ap (λ b. b || d == 95) e) (λ m. ap (among 8) (eqb-true d 95 (and_parts (d == 95) (is_digit (get_or ds 0 0) 8) m).0)) (or_cases (is_digit d 8) (d == 95 && is_digit (get_or ds 0 0) 8) here) in
    no_letter (among 8) d digit refl refl refl refl refl refl

pub value_is : (bytes : List ℕ) (n : ℕ) → IsInteger bytes n → n ≡ integer_value bytes
value_is bytes n h =
    ⊎_elim
    (λ d. ⊎_elim
    (λ zeroed. zeroed.1 ∙ ap integer_value (sym zeroed.0))
    (λ digits. digits.2 ∙ sym (ap (λ b. cond b (lettered_value (base_of (get_or bytes 1 0)) bytes) (value_of 10 bytes)) (ne_eqb (get_or bytes 0 0) 48 digits.1))) d)
    (λ other. ⊎_elim
    (λ o. o.3 ∙ sym (ap integer_value o.1 ∙ ap (λ x. lettered_value x (48 ∷ o.0)) (octal_second o.0 o.2.0 o.2.1)))
    (λ l. l.6 ∙ sym (ap integer_value l.3 ∙ ap (λ x. lettered_value x (48 ∷ l.1 ∷ l.2)) l.4))
    other)
    h

-- ---- one number

ends_with_i : (bytes : List ℕ) → IsImaginary bytes → list_all is_plain bytes ≡ true → ⊥
ends_with_i bytes h all =
    false≢true (and_parts (list_all is_plain h.0) false (sym (list_all-append is_plain h.0 (105 ∷ [])) ∙ ap (list_all is_plain) (sym h.1) ∙ all)).1

pub number_same : (bytes : List ℕ) (a b : Number) → SpellsNumber a bytes → SpellsNumber b bytes → a ≡ b
number_same bytes (Integer v) (Integer w) h k = ap (λ o. Integer o) (h.2 ∙ ap bounded (value_is bytes h.0 h.1 ∙ sym (value_is bytes k.0 k.1)) ∙ sym k.2)
number_same bytes (Integer v) Float h k = absurd (apart bytes h.0 h.1 k)
number_same bytes (Integer v) Imaginary h k = absurd (ends_with_i bytes k (integer_plain bytes h.0 h.1))
number_same bytes Float (Integer w) h k = absurd (apart bytes k.0 k.1 h)
number_same bytes Float Float h k = refl
number_same bytes Float Imaginary h k = absurd (ends_with_i bytes k (float_plain bytes h))
number_same bytes Imaginary (Integer w) h k = absurd (ends_with_i bytes h (integer_plain bytes k.0 k.1))
number_same bytes Imaginary Float h k = absurd (ends_with_i bytes h (float_plain bytes k))
number_same bytes Imaginary Imaginary h k = refl

-- ---- how a number begins

begins_more : (part more : List ℕ) → BeginsNumber part → BeginsNumber (part ++ more)
begins_more [] more h = absurd (⊎_elim (λ digit. false≢true digit) (λ point. false≢true point.1) h)
begins_more (a ∷ []) more h = ⊎_elim (λ digit. inl digit) (λ point. absurd (false≢true point.1)) h
begins_more (a ∷ b ∷ part) more h = h

integer_begins : (bytes : List ℕ) (n : ℕ) → IsInteger bytes n → BeginsNumber bytes
integer_begins bytes n h =
    ⊎_elim
    (λ d. ⊎_elim (λ zeroed. inl (ap (λ b. is_digit (get_or b 0 0) 10) zeroed.0)) (λ digits. inl digits.0.0) d)
    (λ other. ⊎_elim (λ o. inl (ap (λ b. is_digit (get_or b 0 0) 10) o.1)) (λ l. inl (ap (λ b. is_digit (get_or b 0 0) 10) l.3)) other)
    h

whole_begins : (whole more : List ℕ) → 0 < length whole → are_digits 10 whole ≡ true → (get_or (whole ++ more) 0 0 ≡ 95 → ⊥) → BeginsNumber (whole ++ more)
whole_begins [] more some are other = absurd (omega (arith, some))
whole_begins (w ∷ ws) more some are other =
    let here = (and_parts (fits 10 w ws) (are_digits 10 ws) are).0 in
    ⊎_elim (λ digit. inl digit) (λ m. absurd (other (eqb-true w 95 (and_parts (w == 95) (is_digit (get_or ws 0 0) 10) m).0))) (or_cases (is_digit w 10) (w == 95 && is_digit (get_or ws 0 0) 10) here)

digits_begin : (digits more : List ℕ) → IsDigits 10 digits → is_digit (get_or (digits ++ more) 0 0) 10 ≡ true
digits_begin [] more is = absurd (false≢true is.0)
digits_begin (d ∷ ds) more is = is.0

decimal_begins : (bytes : List ℕ) → IsDecimalFloat bytes → BeginsNumber bytes
decimal_begins bytes h =
    let real = h.0 in
    let tail : List ℕ = real.fraction ++ real.exponent in
    ⊎_elim
    (λ some. subst BeginsNumber (sym real.parts) (whole_begins real.whole tail some real.is_whole (λ e. h.1 (ap (λ l. get_or l 0 0) real.parts ∙ e))))
    (λ long. ⊎_elim
    (λ none. absurd (omega (arith, long, ap length none)))
    (λ f. ⊎_elim
    (λ bare. absurd (omega (arith, long, ap length f.1, ap length bare)))
    (λ is. pointed real.whole real.fraction real.exponent bytes real.parts f.0 f.1 is real.is_whole h.1)
    f.2)
    real.is_fraction)
    real.some
  where
    pointed : (whole fraction exponent bytes : List ℕ) → bytes ≡ whole ++ (fraction ++ exponent) → (digits : List ℕ) → fraction ≡ 46 ∷ digits → IsDigits 10 digits → are_digits 10 whole ≡ true → (get_or bytes 0 0 ≡ 95 → ⊥) → BeginsNumber bytes
    pointed [] fraction exponent bytes parts digits e is are other =
        let t : bytes ≡ 46 ∷ (digits ++ exponent) = parts ∙ ap (λ l. l ++ exponent) e in
        subst BeginsNumber (sym t) (inr (refl, digits_begin digits exponent is))
    pointed (w ∷ ws) fraction exponent bytes parts digits e is are other =
        subst BeginsNumber (sym parts) (whole_begins (w ∷ ws) (fraction ++ exponent) (omega arith) are (λ m. other (ap (λ l. get_or l 0 0) parts ∙ m)))

float_begins : (bytes : List ℕ) → IsFloat bytes → BeginsNumber bytes
float_begins bytes h = ⊎_elim (λ d. decimal_begins bytes d) (λ x. inl (ap (λ b. is_digit (get_or b 0 0) 10) x.2)) h

pub number_begins : (bytes : List ℕ) (number : Number) → SpellsNumber number bytes → BeginsNumber bytes
number_begins bytes (Integer v) h = integer_begins bytes h.0 h.1
number_begins bytes Float h = float_begins bytes h
number_begins bytes Imaginary h =
    let part : BeginsNumber h.0 =
    ⊎_elim (λ d. inl d.0) (λ other. ⊎_elim (λ i. integer_begins h.0 i.0 i.1) (λ f. float_begins h.0 f) other) h.2 in
    subst BeginsNumber (sym h.1) (begins_more h.0 (105 ∷ []) part)

-- ---- a number is of ASCII

below_128 : (bytes : List ℕ) → list_all is_plain bytes ≡ true → list_all (λ b. nat_lt b 128) bytes ≡ true
below_128 [] h = refl
below_128 (c ∷ cs) h =
    let parts = and_parts (is_plain c) (list_all is_plain cs) h in
    let here = and_parts (nat_lt c 128) (not (c == 105)) parts.0 in
    (λ i. here.0 i && below_128 cs parts.1 i)

pub number_ascii : (bytes : List ℕ) (number : Number) → SpellsNumber number bytes → list_all (λ b. nat_lt b 128) bytes ≡ true
number_ascii bytes (Integer v) h = below_128 bytes (integer_plain bytes h.0 h.1)
number_ascii bytes Float h = below_128 bytes (float_plain bytes h)
number_ascii bytes Imaginary h =
    let part : list_all is_plain h.0 ≡ true =
    ⊎_elim (λ d. digits_plain h.0 d) (λ other. ⊎_elim (λ i. integer_plain h.0 i.0 i.1) (λ f. float_plain h.0 f) other) h.2 in
    ap (list_all (λ b. nat_lt b 128)) h.1 ∙ list_all-append (λ b. nat_lt b 128) h.0 (105 ∷ []) ∙ (λ i. below_128 h.0 part i && true)

each_below : (bytes : List ℕ) → list_all (λ b. nat_lt b 128) bytes ≡ true → IsAscii bytes
each_below [] h i = omega arith
each_below (c ∷ cs) h zero = ltb-true c 128 (and_parts (nat_lt c 128) (list_all (λ b. nat_lt b 128) cs) h).0
each_below (c ∷ cs) h (suc i) = each_below cs (and_parts (nat_lt c 128) (list_all (λ b. nat_lt b 128) cs) h).1 i

pub number_is_ascii : (bytes : List ℕ) (number : Number) → SpellsNumber number bytes → IsAscii bytes
number_is_ascii bytes number h = each_below bytes (number_ascii bytes number h)
