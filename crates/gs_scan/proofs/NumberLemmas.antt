-- What a number is written with: ASCII, and first a digit, or a point and a digit.
use Rattle.std.proofs.Common.{◌≡◌, ℕ, ◌<◌, ◌≤◌, Bool, true, ◌&&◌, ◌||◌, ◌==◌, cond, List, [], ◌∷◌, ◌++◌, length, get_or, sym, refl, ap, ◌∙◌, subst, ⊎_elim, inl, inr, arith, Some, None, Option, nat_lt}
use Rattle.std.specs.Prelude.{◌≢◌, ◌⊎◌}
use Rattle.std.specs.Char.{is_digit, digit_value}
use Rattle.std.proofs.lemmas.Bool.{false≢true, and_parts, or_cases, cases_Bool, cases_lt, lt-ltb, eqb-true, ltb-true}
use Rattle.std.proofs.lemmas.Bool.Decides.{nat_tests}
use Rattle.gs_syntax.specs.Digits.{are_digits, IsDigits}
use Rattle.gs_syntax.specs.Floats.{marks_exponent, IsExponent, IsFraction, IsReal, IsFloat}
use Rattle.gs_syntax.specs.Numbers.{base_of, IsInteger, IsImaginary, IsNumber}
use Rattle.gs_scan.proofs.MarkLemmas.{is_ascii_bytes}

-- ---- ASCII

pub ascii_append : (xs ys : List ℕ) → is_ascii_bytes xs ≡ true → is_ascii_bytes ys ≡ true → is_ascii_bytes (xs ++ ys) ≡ true
ascii_append [] ys h k = k
ascii_append (x ∷ xs) ys h k =
    let parts = and_parts (nat_lt x 128) (is_ascii_bytes xs) h in
    (λ i. parts.0 i && ascii_append xs ys parts.1 k i)

ascii_cons : (x : ℕ) (xs : List ℕ) → x < 128 → is_ascii_bytes xs ≡ true → is_ascii_bytes (x ∷ xs) ≡ true
ascii_cons x xs below h = (λ i. lt-ltb x 128 below i && h i)

value_below : (c base : ℕ) → base ≤ 36 → is_digit c base ≡ true → c < 128
value_below c base small h = ⊎_elim (λ less. less) (λ above. let big : 36 ≤ digit_value c = grind (arith, nat_tests) in absurd (let lt = ltb-true (digit_value c) base h in omega arith)) (cases_lt c 128)

abbrev fits : ℕ → ℕ → List ℕ → Bool
fits base c cs = is_digit c base || (c == 95 && is_digit (get_or cs 0 0) base)

digit_below : (base c : ℕ) (cs : List ℕ) → base ≤ 36 → fits base c cs ≡ true → c < 128
digit_below base c cs small h =
    ⊎_elim (λ digit. value_below c base small digit) (λ mark. let e = eqb-true c 95 (and_parts (c == 95) (is_digit (get_or cs 0 0) base) mark).0 in omega arith) (or_cases (is_digit c base) (c == 95 && is_digit (get_or cs 0 0) base) h)

digits_ascii : (base : ℕ) (bytes : List ℕ) → base ≤ 36 → are_digits base bytes ≡ true → is_ascii_bytes bytes ≡ true
digits_ascii base [] small h = refl
digits_ascii base (c ∷ cs) small h =
    let parts = and_parts (fits base c cs) (are_digits base cs) h in
    ascii_cons c cs (digit_below base c cs small parts.0) (digits_ascii base cs small parts.1)

-- ---- the first bytes

abbrev pub IsFirst : List ℕ → Type 0
IsFirst bytes = (is_digit (get_or bytes 0 0) 10 ≡ true) ⊎ ((get_or bytes 0 0 ≡ 46) × (is_digit (get_or bytes 1 0) 10 ≡ true))

pub record IsWritten (bytes : List ℕ) : Type 0 where
  pub first : IsFirst bytes
  pub ascii : is_ascii_bytes bytes ≡ true

-- `0`, and more
zero_written : (bytes more : List ℕ) → bytes ≡ 48 ∷ more → is_ascii_bytes more ≡ true → IsWritten bytes
zero_written bytes more e ascii = subst IsWritten (sym e) (record { first = inl refl; ascii = ascii })

digits_written : (bytes : List ℕ) → IsDigits 10 bytes → IsWritten bytes
digits_written bytes h = record { first = inl h.0; ascii = digits_ascii 10 bytes (omega arith) h.1 }

-- a letter behind 0
record IsLetter (letter base : ℕ) : Type 0 where
  pub letter_below : letter < 128
  pub base_small : base ≤ 36

is_letter : (letter base value : ℕ) (b : Bool) (rest : Option ℕ) → (b ≡ true → letter < 128) → value ≤ 36 → cond b (Some value) rest ≡ Some base → (rest ≡ Some base → IsLetter letter base) → IsLetter letter base
is_letter letter base value b rest low small h other =
    ⊎_elim
    (λ yes.
    let e : Some value ≡ Some base = sym (ap (λ x. cond x (Some value) rest) yes) ∙ h in
    let same : value ≡ base = cc in
    record { letter_below = low yes; base_small = omega arith })
    (λ no. other (sym (ap (λ x. cond x (Some value) rest) no) ∙ h))
    (cases_Bool b)

either_below : (letter x y : ℕ) → x < 128 → y < 128 → (letter == x || letter == y) ≡ true → letter < 128
either_below letter x y low also h =
    ⊎_elim (λ a. let e = eqb-true letter x a in omega arith) (λ b. let e = eqb-true letter y b in omega arith) (or_cases (letter == x) (letter == y) h)

no_base : (letter base : ℕ) → None ≡ Some base → IsLetter letter base
no_base letter base h = cc

base_letter : (letter base : ℕ) → base_of letter ≡ Some base → IsLetter letter base
base_letter letter base h =
    is_letter letter base 2 (letter == 98 || letter == 66) _ (either_below letter 98 66 (omega arith) (omega arith)) (omega arith) h
    (λ h1. is_letter letter base 8 (letter == 111 || letter == 79) _ (either_below letter 111 79 (omega arith) (omega arith)) (omega arith) h1
    (λ h2. is_letter letter base 16 (letter == 120 || letter == 88) _ (either_below letter 120 88 (omega arith) (omega arith)) (omega arith) h2 (no_base letter base)))

integer_written : (bytes : List ℕ) (n : ℕ) → IsInteger bytes n → IsWritten bytes
integer_written bytes n h =
    ⊎_elim
    (λ d. ⊎_elim (λ zeroed. zero_written bytes [] zeroed.0 refl) (λ digits. digits_written bytes digits.0) d)
    (λ more. ⊎_elim
    (λ octal. zero_written bytes octal.0 octal.1 (digits_ascii 8 octal.0 (omega arith) octal.2.1))
    (λ lettered.
    let l = base_letter lettered.1 lettered.0 lettered.4 in
    zero_written bytes (lettered.1 ∷ lettered.2) lettered.3 (ascii_cons lettered.1 lettered.2 l.letter_below (digits_ascii lettered.0 lettered.2 l.base_small lettered.5.1)))
    more)
    h

-- ---- floats

exponent_letter : (base letter : ℕ) → marks_exponent base letter ≡ true → letter < 128
exponent_letter base letter h =
    ⊎_elim
    (λ hex. either_below letter 112 80 (omega arith) (omega arith) (sym (ap (λ b. cond b (letter == 112 || letter == 80) (letter == 101 || letter == 69)) hex) ∙ h))
    (λ dec. either_below letter 101 69 (omega arith) (omega arith) (sym (ap (λ b. cond b (letter == 112 || letter == 80) (letter == 101 || letter == 69)) dec) ∙ h))
    (cases_Bool (base == 16))

same_ascii : (xs ys : List ℕ) → xs ≡ ys → is_ascii_bytes ys ≡ true → is_ascii_bytes xs ≡ true
same_ascii xs ys e h = ap is_ascii_bytes e ∙ h

exponent_ascii : (base : ℕ) (bytes : List ℕ) → IsExponent base bytes → is_ascii_bytes bytes ≡ true
exponent_ascii base bytes h =
    let sign : is_ascii_bytes h.1 ≡ true =
    ⊎_elim (λ e. same_ascii h.1 [] e refl) (λ s. ⊎_elim (λ e. same_ascii h.1 (43 ∷ []) e refl) (λ e. same_ascii h.1 (45 ∷ []) e refl) s) h.5 in
    same_ascii bytes _ h.3 (ascii_cons h.0 (h.1 ++ h.2) (exponent_letter base h.0 h.4) (ascii_append h.1 h.2 sign (digits_ascii 10 h.2 (omega arith) h.6.1)))

fraction_ascii : (base : ℕ) (bytes : List ℕ) → base ≤ 36 → IsFraction base bytes → is_ascii_bytes bytes ≡ true
fraction_ascii base bytes small h =
    same_ascii bytes _ h.1 (ascii_cons 46 h.0 (omega arith) (⊎_elim (λ e. same_ascii h.0 [] e refl) (λ d. digits_ascii base h.0 small d.1) h.2))

real_ascii : (base : ℕ) (bytes : List ℕ) → base ≤ 36 → IsReal base bytes → is_ascii_bytes bytes ≡ true
real_ascii base bytes small r =
    let whole = digits_ascii base r.whole small r.is_whole in
    let fraction = ⊎_elim (λ e. same_ascii r.fraction [] e refl) (fraction_ascii base r.fraction small) r.is_fraction in
    let exponent = ⊎_elim (λ e. same_ascii r.exponent [] e refl) (exponent_ascii base r.exponent) r.is_exponent in
    same_ascii bytes _ r.parts (ascii_append r.whole (r.fraction ++ r.exponent) whole (ascii_append r.fraction r.exponent fraction exponent))

-- the first byte of digits is one, or `_`
whole_first : (whole more : List ℕ) → are_digits 10 whole ≡ true → 0 < length whole → get_or (whole ++ more) 0 0 ≢ 95 → is_digit (get_or (whole ++ more) 0 0) 10 ≡ true
whole_first [] more are some other = absurd (omega arith)
whole_first (c ∷ cs) more are some other =
    ⊎_elim (λ digit. digit) (λ mark. absurd (other (eqb-true c 95 (and_parts (c == 95) (is_digit (get_or cs 0 0) 10) mark).0)))
    (or_cases (is_digit c 10) (c == 95 && is_digit (get_or cs 0 0) 10) (and_parts (fits 10 c cs) (are_digits 10 cs) are).0)

-- the first byte of digits stays the first when more follows
digit_kept : (digits more : List ℕ) → is_digit (get_or digits 0 0) 10 ≡ true → is_digit (get_or (digits ++ more) 0 0) 10 ≡ true
digit_kept [] more h = absurd (false≢true h)
digit_kept (d ∷ ds) more h = h

-- a point and digits
point_first : (fraction exponent : List ℕ) → (fraction ≡ []) ⊎ IsFraction 10 fraction → 1 < length fraction → IsFirst (fraction ++ exponent)
point_first fraction exponent is some =
    ⊎_elim
    (λ e. absurd (omega (arith, ap length e)))
    (λ f. ⊎_elim
    (λ e. absurd (omega (arith, ap length f.1, ap length e)))
    (λ d. subst (λ l. IsFirst (l ++ exponent)) (sym f.1) (inr (refl, digit_kept f.0 exponent d.0)))
    f.2)
    is

real_first : (whole rest fraction exponent : List ℕ) → are_digits 10 whole ≡ true → rest ≡ fraction ++ exponent → (fraction ≡ []) ⊎ IsFraction 10 fraction
    → (0 < length whole) ⊎ (1 < length fraction) → get_or (whole ++ rest) 0 0 ≢ 95 → IsFirst (whole ++ rest)
real_first [] rest fraction exponent are e is some other =
    ⊎_elim (λ h. absurd (omega arith)) (λ h. subst IsFirst (sym e) (point_first fraction exponent is h)) some
real_first (c ∷ cs) rest fraction exponent are e is some other = inl (whole_first (c ∷ cs) rest are (omega arith) other)

float_written : (bytes : List ℕ) → IsFloat bytes → IsWritten bytes
float_written bytes h =
    ⊎_elim
    (λ d.
    let r = d.0 in
    record {
      first = subst IsFirst (sym r.parts) (real_first r.whole (r.fraction ++ r.exponent) r.fraction r.exponent r.is_whole refl r.is_fraction r.some (λ e. d.1 (ap (λ l. get_or l 0 0) r.parts ∙ e)));
      ascii = real_ascii 10 bytes (omega arith) r;
    })
    (λ x.
    let below : x.0 < 128 = ⊎_elim (λ e. omega arith) (λ e. omega arith) x.3 in
    zero_written bytes (x.0 ∷ x.1) x.2 (ascii_cons x.0 x.1 below (real_ascii 16 x.1 (omega arith) x.4)))
    h

-- ---- any number

first_kept : (part more : List ℕ) → IsFirst part → IsFirst (part ++ more)
first_kept [] more h = ⊎_elim (λ digit. absurd (false≢true digit)) (λ point. absurd (let z : 0 ≡ 46 = point.0 in omega arith)) h
first_kept (c ∷ cs) more h = ⊎_elim (λ digit. inl digit) (λ point. inr (point.0, digit_kept cs more point.1)) h

imaginary_written : (bytes : List ℕ) → IsImaginary bytes → IsWritten bytes
imaginary_written bytes h =
    let part : IsWritten h.0 = ⊎_elim (digits_written h.0) (λ more. ⊎_elim (λ i. integer_written h.0 i.0 i.1) (float_written h.0) more) h.2 in
    record {
      first = subst IsFirst (sym h.1) (first_kept h.0 (105 ∷ []) part.first);
      ascii = same_ascii bytes _ h.1 (ascii_append h.0 (105 ∷ []) part.ascii refl);
    }

pub number_written : (bytes : List ℕ) → IsNumber bytes → IsWritten bytes
number_written bytes h =
    ⊎_elim (λ i. integer_written bytes i.0 i.1) (λ more. ⊎_elim (float_written bytes) (imaginary_written bytes) more) h
