-- What bytes a number has: no `i`; and no integer is a float.
use Rattle.std.proofs.Common.{◌≡◌, ℕ, ◌<◌, ◌≤◌, Bool, true, false, not, ◌&&◌, ◌||◌, ◌==◌, List, [], ◌∷◌, ◌++◌, length, drop, get_or, sym, refl, ap, ◌∙◌, ⊎_elim, inl, inr, arith, ◌⊎◌, None}
use Rattle.std.specs.Prelude.{is_some}
use Rattle.std.specs.Char.{is_digit, digit_value}
use Rattle.std.specs.List.{list_all}
use Rattle.std.proofs.lemmas.List.Folds.{list_all-append}
use Rattle.std.proofs.lemmas.Bool.{false≢true, and_parts, or_cases, ne_eqb, eqb-true, lt-ltb, ltb-true}
use Rattle.gs_syntax.specs.Digits.{are_digits, IsDigits}
use Rattle.gs_syntax.specs.Numbers.{base_of, IsInteger}
use Rattle.gs_syntax.specs.Floats.{marks_exponent, IsExponent, IsFraction, IsReal, IsDecimalFloat, IsHexFloat, IsFloat}
use Rattle.gs_numbers.proofs.DigitLemmas.{is_plain, fits, among, are_digits-plain}
use Rattle.gs_numbers.proofs.FloatLemmas.{letter10}
use Rattle.gs_numbers.proofs.IntegerLemmas.{letter_of, no_letter}

-- ---- each byte is of ASCII, and no `i`

join : (test : ℕ → Bool) (xs ys : List ℕ) → list_all test xs ≡ true → list_all test ys ≡ true → list_all test (xs ++ ys) ≡ true
join test xs ys a b = list_all-append test xs ys ∙ (λ i. a i && b i)

pub digits_plain : (bytes : List ℕ) → IsDigits 10 bytes → list_all is_plain bytes ≡ true
digits_plain bytes is = are_digits-plain 10 bytes (omega arith) is.1

pub integer_plain : (bytes : List ℕ) (n : ℕ) → IsInteger bytes n → list_all is_plain bytes ≡ true
integer_plain bytes n h =
    ⊎_elim
    (λ d. ⊎_elim (λ zeroed. ap (list_all is_plain) zeroed.0) (λ digits. digits_plain bytes digits.0) d)
    (λ other. ⊎_elim
    (λ o. ap (list_all is_plain) o.1 ∙ are_digits-plain 8 o.0 (omega arith) o.2.1)
    (λ l.
    let letter = letter_of l.1 l.0 l.4 in
    ap (list_all is_plain) l.3 ∙ ap (λ b. b && list_all is_plain l.2) letter.plain ∙ are_digits-plain l.0 l.2 letter.small l.5.1)
    other)
    h

exponent_plain : (base : ℕ) (bytes : List ℕ) → ((c : ℕ) → marks_exponent base c ≡ true → is_plain c ≡ true) → IsExponent base bytes → list_all is_plain bytes ≡ true
exponent_plain base bytes letter h =
    let sign : list_all is_plain h.1 ≡ true =
    ⊎_elim (λ none. ap (list_all is_plain) none) (λ some. ⊎_elim (λ e. ap (list_all is_plain) e) (λ e. ap (list_all is_plain) e) some) h.5 in
    ap (list_all is_plain) h.3 ∙ (λ i. letter h.0 h.4 i && join is_plain h.1 h.2 sign (digits_plain h.2 h.6) i)

fraction_plain : (base : ℕ) (bytes : List ℕ) → base ≤ 16 → IsFraction base bytes → list_all is_plain bytes ≡ true
fraction_plain base bytes small h =
    ap (list_all is_plain) h.1 ∙ ⊎_elim (λ none. ap (list_all is_plain) none) (λ is. are_digits-plain base h.0 small is.1) h.2

real_plain : (base : ℕ) (bytes : List ℕ) → base ≤ 16 → ((c : ℕ) → marks_exponent base c ≡ true → is_plain c ≡ true) → IsReal base bytes → list_all is_plain bytes ≡ true
real_plain base bytes small letter real =
    let whole = are_digits-plain base real.whole small real.is_whole in
    let fraction : list_all is_plain real.fraction ≡ true = ⊎_elim (λ none. ap (list_all is_plain) none) (λ is. fraction_plain base real.fraction small is) real.is_fraction in
    let exponent : list_all is_plain real.exponent ≡ true = ⊎_elim (λ none. ap (list_all is_plain) none) (λ is. exponent_plain base real.exponent letter is) real.is_exponent in
    ap (list_all is_plain) real.parts ∙ join is_plain real.whole (real.fraction ++ real.exponent) whole (join is_plain real.fraction real.exponent fraction exponent)

plain_mark : (c a b : ℕ) → (c == a || c == b) ≡ true → is_plain a ≡ true → is_plain b ≡ true → is_plain c ≡ true
plain_mark c a b h pa pb =
    ⊎_elim (λ e. ap is_plain (eqb-true c a e) ∙ pa) (λ e. ap is_plain (eqb-true c b e) ∙ pb) (or_cases (c == a) (c == b) h)

pub float_plain : (bytes : List ℕ) → IsFloat bytes → list_all is_plain bytes ≡ true
float_plain bytes h =
    ⊎_elim
    (λ d. real_plain 10 bytes (omega arith) (λ c e. plain_mark c 101 69 e refl refl) d.0)
    (λ x.
    let letter : is_plain x.0 ≡ true = ⊎_elim (λ e. ap is_plain e) (λ e. ap is_plain e) x.3 in
    ap (list_all is_plain) x.2 ∙ (λ i. letter i && real_plain 16 x.1 (omega arith) (λ c e. plain_mark c 112 80 e refl refl) x.4 i))
    h

-- ---- no integer is a float

-- no `p` and no `P`
abbrev no_p : ℕ → Bool
no_p c = not (c == 112 || c == 80)

-- decimal digits and `_`
abbrev decimal : ℕ → Bool
decimal c = among 10 c

digit_decimal : (base c : ℕ) → base ≤ 10 → is_digit c base ≡ true → decimal c ≡ true
digit_decimal base c small h =
    let lt = ltb-true (digit_value c) base h in
    ap (λ b. b || c == 95) (lt-ltb (digit_value c) 10 (omega (arith, lt, small)))

digit_no_p : (base c : ℕ) → base ≤ 16 → is_digit c base ≡ true → no_p c ≡ true
digit_no_p base c small h =
    let lt = ltb-true (digit_value c) base h in
    let lower : (c == 112) ≡ false = ne_eqb c 112 (λ e. let v : digit_value c ≡ 25 = ap digit_value e in omega (arith, lt, v, small)) in
    let upper : (c == 80) ≡ false = ne_eqb c 80 (λ e. let v : digit_value c ≡ 25 = ap digit_value e in omega (arith, lt, v, small)) in
    λ i. not (lower i || upper i)

-- what holds of digits and of `_` holds of each byte of a run
run_all : (test : ℕ → Bool) (base : ℕ) (bytes : List ℕ) → ((c : ℕ) → is_digit c base ≡ true → test c ≡ true) → test 95 ≡ true → are_digits base bytes ≡ true → list_all test bytes ≡ true
run_all test base [] digit mark h = refl
run_all test base (c ∷ cs) digit mark h =
    let parts = and_parts (fits base c cs) (are_digits base cs) h in
    let here : test c ≡ true =
    ⊎_elim (λ d. digit c d) (λ m. ap test (eqb-true c 95 (and_parts (c == 95) (is_digit (get_or cs 0 0) base) m).0) ∙ mark) (or_cases (is_digit c base) (c == 95 && is_digit (get_or cs 0 0) base) parts.0) in
    (λ i. here i && run_all test base cs digit mark parts.1 i)

-- an integer is all decimal digits and `_`, or has a letter second and no `p` behind it
integer_bytes : (bytes : List ℕ) (n : ℕ) → IsInteger bytes n
    → (list_all decimal bytes ≡ true) ⊎ ((base_of (get_or bytes 1 0) ≡ None → ⊥) × (list_all no_p (drop 2 bytes) ≡ true))
integer_bytes bytes n h =
    ⊎_elim
    (λ d. inl (⊎_elim
    (λ zeroed. ap (list_all decimal) zeroed.0)
    (λ digits. run_all decimal 10 bytes (λ c e. digit_decimal 10 c (omega arith) e) refl digits.0.1) d))
    (λ other. ⊎_elim
    (λ o. inl (ap (list_all decimal) o.1 ∙ run_all decimal 8 o.0 (λ c e. digit_decimal 8 c (omega arith) e) refl o.2.1))
    (λ l.
    let letter = letter_of l.1 l.0 l.4 in
    let second : get_or bytes 1 0 ≡ l.1 = ap (λ b. get_or b 1 0) l.3 in
    inr (
      (λ none. false≢true (ap (λ o. is_some o) (sym none ∙ ap base_of second ∙ l.4))),
      ap (λ b. list_all no_p (drop 2 b)) l.3 ∙ run_all no_p l.0 l.2 (λ c e. digit_no_p l.0 c letter.small e) refl l.5.1,
    ))
    other)
    h

-- the last part of a run of parts
behind : (test : ℕ → Bool) (xs ys : List ℕ) → list_all test (xs ++ ys) ≡ true → list_all test ys ≡ true
behind test xs ys h = (and_parts (list_all test xs) (list_all test ys) (sym (list_all-append test xs ys) ∙ h)).1

before : (test : ℕ → Bool) (xs ys : List ℕ) → list_all test (xs ++ ys) ≡ true → list_all test xs ≡ true
before test xs ys h = (and_parts (list_all test xs) (list_all test ys) (sym (list_all-append test xs ys) ∙ h)).0

first_of : (test : ℕ → Bool) (c : ℕ) (bytes more : List ℕ) → bytes ≡ c ∷ more → list_all test bytes ≡ true → test c ≡ true
first_of test c bytes more e h = (and_parts (test c) (list_all test more) (ap (list_all test) (sym e) ∙ h)).0

decimal_other : (bytes : List ℕ) → IsDecimalFloat bytes → list_all decimal bytes ≡ true → ⊥
decimal_other bytes h all =
    let real = h.0 in
    let rest = behind decimal real.whole (real.fraction ++ real.exponent) (ap (list_all decimal) (sym real.parts) ∙ all) in
    ⊎_elim
    (λ none. ⊎_elim
    (λ bare. let some = h.2 in omega (arith, some, ap length none, ap length bare))
    (λ e. false≢true (sym (letter10 e.0 e.4).0 ∙ first_of decimal e.0 real.exponent (e.1 ++ e.2) e.3 (behind decimal real.fraction real.exponent rest)))
    real.is_exponent)
    (λ f. false≢true (first_of decimal 46 real.fraction f.0 f.1 (before decimal real.fraction real.exponent rest)))
    real.is_fraction

decimal_second : (c : ℕ) → decimal c ≡ true → base_of c ≡ None
decimal_second c h = no_letter decimal c h refl refl refl refl refl refl

-- what stands behind the digits is no such letter
tail_second : (fraction exponent : List ℕ) → (fraction ≡ []) ⊎ IsFraction 10 fraction → (exponent ≡ []) ⊎ IsExponent 10 exponent → base_of (get_or (fraction ++ exponent) 0 0) ≡ None
tail_second fraction exponent is_fraction is_exponent =
    ⊎_elim
    (λ none. ⊎_elim
    (λ bare. (λ i. base_of (get_or (none i ++ bare i) 0 0)))
    (λ e. (λ i. base_of (get_or (none i ++ e.3 i) 0 0)) ∙ no_letter (marks_exponent 10) e.0 e.4 refl refl refl refl refl refl)
    is_exponent)
    (λ f. ap (λ l. base_of (get_or (l ++ exponent) 0 0)) f.1)
    is_fraction

digits_first : (digits rest : List ℕ) → IsDigits 10 digits → decimal (get_or (digits ++ rest) 0 0) ≡ true
digits_first [] rest is = absurd (false≢true is.0)
digits_first (d ∷ ds) rest is = ap (λ b. b || d == 95) is.0

second_of : (whole fraction exponent : List ℕ) → are_digits 10 whole ≡ true → (fraction ≡ []) ⊎ IsFraction 10 fraction → (exponent ≡ []) ⊎ IsExponent 10 exponent
    → (0 < length whole) ⊎ (1 < length fraction) → base_of (get_or (whole ++ (fraction ++ exponent)) 1 0) ≡ None
second_of [] fraction exponent are is_fraction is_exponent some =
    ⊎_elim
    (λ no. absurd (omega arith))
    (λ long. ⊎_elim
    (λ none. absurd (omega (arith, long, ap length none)))
    (λ f. ⊎_elim
    (λ bare. absurd (omega (arith, long, ap length f.1, ap length bare)))
    (λ is. ap (λ l. base_of (get_or (l ++ exponent) 1 0)) f.1 ∙ decimal_second (get_or (f.0 ++ exponent) 0 0) (digits_first f.0 exponent is))
    f.2)
    is_fraction)
    some
second_of (w ∷ []) fraction exponent are is_fraction is_exponent some = tail_second fraction exponent is_fraction is_exponent
second_of (w ∷ v ∷ ws) fraction exponent are is_fraction is_exponent some =
    let all = run_all decimal 10 (w ∷ v ∷ ws) (λ c e. digit_decimal 10 c (omega arith) e) refl are in
    decimal_second v (and_parts (decimal v) (list_all decimal ws) (and_parts (decimal w) (decimal v && list_all decimal ws) all).1).0

hex_other : (bytes : List ℕ) → IsHexFloat bytes → list_all decimal bytes ≡ true → ⊥
hex_other bytes h all =
    let two = ap (list_all decimal) (sym h.2) ∙ all in
    let second = (and_parts (decimal h.0) (list_all decimal h.1) (and_parts (decimal 48) (decimal h.0 && list_all decimal h.1) two).1).0 in
    ⊎_elim (λ e. false≢true (ap decimal (sym e) ∙ second)) (λ e. false≢true (ap decimal (sym e) ∙ second)) h.3

hex_p : (bytes : List ℕ) → IsHexFloat bytes → list_all no_p (drop 2 bytes) ≡ true → ⊥
hex_p bytes h all =
    let real = h.4 in
    let inner : list_all no_p h.1 ≡ true = ap (λ b. list_all no_p (drop 2 b)) (sym h.2) ∙ all in
    let rest = behind no_p real.whole (real.fraction ++ real.exponent) (ap (list_all no_p) (sym real.parts) ∙ inner) in
    let last = behind no_p real.fraction real.exponent rest in
    ⊎_elim
    (λ bare. let some = h.5 in omega (arith, some, ap length bare))
    (λ e.
    let p = first_of no_p e.0 real.exponent (e.1 ++ e.2) e.3 last in
    false≢true (ap not (sym e.4) ∙ p))
    real.is_exponent

pub apart : (bytes : List ℕ) (n : ℕ) → IsInteger bytes n → IsFloat bytes → ⊥
apart bytes n i f =
    ⊎_elim
    (λ all. ⊎_elim (λ d. decimal_other bytes d all) (λ x. hex_other bytes x all) f)
    (λ l. ⊎_elim
    (λ d. l.0 (ap (λ b. base_of (get_or b 1 0)) d.0.parts ∙ second_of d.0.whole d.0.fraction d.0.exponent d.0.is_whole d.0.is_fraction d.0.is_exponent d.0.some))
    (λ x. hex_p bytes x l.1) f)
    (integer_bytes bytes n i)
