-- Runs of digits at the front of a text, and their value.
use Rattle.std.proofs.Common.{◌≡◌, ℕ, zero, suc, ◌+◌, ◌*◌, ◌^◌, ◌<◌, ◌≤◌, Bool, true, false, not, ◌&&◌, ◌||◌, ◌==◌, cond, List, [], ◌∷◌, ◌++◌, length, take, drop, get_or, filter, sym, refl, ap, ◌∙◌, ⊎_elim, arith, None, nat_lt, drop-cons, add-one, add-zero, get_or-drop, mul-le-mul_left, length-append, ◌⊎◌}
use Rattle.std.specs.Char.{is_digit, digit_value}
use Rattle.std.specs.Str.Parse.{digits_value_after}
use Rattle.std.specs.List.{list_all}
use Rattle.std.proofs.Math.Seq.{take-append_seam}
use Rattle.std.proofs.lemmas.Bool.{false≢true, and_parts, or_cases, cases_Bool, cases_lt, cond_both, ne_eqb, eqb-true, le-ltb, lt-ltb, ltb-true}
use Rattle.std.proofs.lemmas.Bool.Decides.{nat_tests}
use Rattle.gs_syntax.specs.Numbers.{bounded}
use Rattle.gs_syntax.specs.Digits.{are_digits, IsDigits}
use Rattle.gs_numbers.specs.Reading.{digits_size, run_size}

one_more : (n : ℕ) → 1 + n ≡ suc n
one_more n = omega arith

-- ---- how many digits

abbrev pub fits : ℕ → ℕ → List ℕ → Bool
fits base c cs = is_digit c base || (c == 95 && is_digit (get_or cs 0 0) base)

-- the list from i on
pub drop_at : (xs : List ℕ) (i : ℕ) → i < length xs → drop i xs ≡ get_or xs i 0 ∷ drop (i + 1) xs
drop_at xs i within = drop-cons xs i 0 within ∙ ap (λ n. get_or xs i 0 ∷ drop n xs) (sym (add-one i))

pub digits_size-more : (base : ℕ) (xs : List ℕ) (i : ℕ) → i < length xs → fits base (get_or xs i 0) (drop (i + 1) xs) ≡ true → digits_size base (drop i xs) ≡ 1 + digits_size base (drop (i + 1) xs)
digits_size-more base xs i within h =
    ap (digits_size base) (drop_at xs i within) ∙ ap (λ b. cond b (1 + digits_size base (drop (i + 1) xs)) 0) h

pub digits_size-stop : (base : ℕ) (xs : List ℕ) (i : ℕ) → i < length xs → fits base (get_or xs i 0) (drop (i + 1) xs) ≡ false → digits_size base (drop i xs) ≡ 0
digits_size-stop base xs i within h =
    ap (digits_size base) (drop_at xs i within) ∙ ap (λ b. cond b (1 + digits_size base (drop (i + 1) xs)) 0) h

-- the test that the code makes
pub fits_at : (base : ℕ) (xs : List ℕ) (i next : ℕ) → next ≡ get_or xs (i + 1) 0 → (is_digit (get_or xs i 0) base || (get_or xs i 0 == 95 && is_digit next base)) ≡ fits base (get_or xs i 0) (drop (i + 1) xs)
fits_at base xs i next is_next =
    let same : next ≡ get_or (drop (i + 1) xs) 0 0 = is_next ∙ sym (get_or-drop (i + 1) xs 0 0 ∙ ap (λ n. get_or xs n 0) (add-zero (i + 1))) in
    ap (λ n. is_digit (get_or xs i 0) base || (get_or xs i 0 == 95 && is_digit n base)) same

-- ---- the value

value_grows : (base n : ℕ) (ds : List ℕ) → 1 ≤ base → n ≤ digits_value_after base n ds
value_grows base n [] some = omega arith
value_grows base n (d ∷ ds) some =
    let more = value_grows base (n * base + digit_value d) ds some in
    omega (arith, more, mul-le-mul_left n some)

pub value_exceeds : (base v : ℕ) (xs : List ℕ) (i whole : ℕ) → 1 ≤ base → i < length xs → (get_or xs i 0 ≡ 95 → ⊥)
    → digits_value_after base v (filter (λ c. not (c == 95)) (drop i xs)) ≡ whole → 2 ^ 127 ≤ v * base + digit_value (get_or xs i 0) → None ≡ bounded whole
value_exceeds base v xs i whole some within other is big =
    let step : filter (λ c. not (c == 95)) (drop i xs) ≡ get_or xs i 0 ∷ filter (λ c. not (c == 95)) (drop (suc i) xs) =
    rw (drop-cons xs i 0) (rw (ne_eqb (get_or xs i 0) 95 other) refl) in
    let grows = value_grows base (v * base + digit_value (get_or xs i 0)) (filter (λ c. not (c == 95)) (drop (suc i) xs)) some in
    let large : 2 ^ 127 ≤ whole = omega (arith, grows, big, sym is ∙ ap (digits_value_after base v) step) in
    rw (le-ltb whole (2 ^ 127) large) refl

-- ---- the digits at the front

-- 0 is no digit's byte
abbrev pub IsBase : ℕ → Type 0
IsBase base = is_digit 0 base ≡ false

fits-take : (base c k : ℕ) (cs : List ℕ) → IsBase base → fits base c (take k cs) ≡ true → fits base c cs ≡ true
fits-take base c zero cs none h =
    ⊎_elim (λ digit. rw digit refl) (λ mark. absurd (false≢true (sym none ∙ (and_parts (c == 95) (is_digit 0 base) mark).1))) (or_cases (is_digit c base) (c == 95 && is_digit 0 base) h)
fits-take base c (suc k) [] none h = h
fits-take base c (suc k) (d ∷ ds) none h = h

pub digits_le : (base : ℕ) (text : List ℕ) (m : ℕ) → IsBase base → m ≤ length text → are_digits base (take m text) ≡ true → m ≤ digits_size base text
digits_le base text zero none within h = omega arith
digits_le base [] (suc m) none within h = absurd (omega arith)
digits_le base (c ∷ cs) (suc m) none within h =
    let parts = and_parts (fits base c (take m cs)) (are_digits base (take m cs)) h in
    let rest = digits_le base cs m none (omega arith) parts.1 in
    let here : digits_size base (c ∷ cs) ≡ 1 + digits_size base cs = ap (λ b. cond b (1 + digits_size base cs) 0) (fits-take base c m cs none parts.0) in
    omega (arith, rest, here)

-- a digit after the text's first byte stays in the front
fits-front : (base c : ℕ) (cs : List ℕ) → IsBase base → fits base c cs ≡ true → fits base c (take (digits_size base cs) cs) ≡ true
fits-front base c [] none h = h
fits-front base c (d ∷ ds) none h =
    ⊎_elim
    (λ digit. rw digit refl)
    (λ mark.
    let parts = and_parts (c == 95) (is_digit d base) mark in
    let long : digits_size base (d ∷ ds) ≡ suc (digits_size base ds) =
    ap (λ b. cond (b || (d == 95 && is_digit (get_or ds 0 0) base)) (1 + digits_size base ds) 0) parts.1 ∙ one_more (digits_size base ds) in
    ap (λ k. fits base c (take k (d ∷ ds))) long ∙ h)
    (or_cases (is_digit c base) (c == 95 && is_digit d base) h)

pub are_digits-front : (base : ℕ) (text : List ℕ) → IsBase base → are_digits base (take (digits_size base text) text) ≡ true
are_digits-front base [] none = refl
are_digits-front base (c ∷ cs) none =
    ⊎_elim
    (λ more.
    let long : digits_size base (c ∷ cs) ≡ suc (digits_size base cs) = ap (λ b. cond b (1 + digits_size base cs) 0) more ∙ one_more (digits_size base cs) in
    ap (λ k. are_digits base (take k (c ∷ cs))) long
    ∙ ap (λ b. b && are_digits base (take (digits_size base cs) cs)) (fits-front base c cs none more) ∙ are_digits-front base cs none)
    (λ stop.
    let long : digits_size base (c ∷ cs) ≡ 0 = ap (λ b. cond b (1 + digits_size base cs) 0) stop in
    ap (λ k. are_digits base (take k (c ∷ cs))) long)
    (cases_Bool (fits base c cs))

pub digits_size-within : (base : ℕ) (text : List ℕ) → digits_size base text ≤ length text
digits_size-within base [] = omega arith
digits_size-within base (c ∷ cs) =
    let rest = digits_size-within base cs in
    cond_both (fits base c cs) (1 + digits_size base cs) 0 (λ n. n ≤ length (c ∷ cs)) (λ e. omega arith) (λ e. omega arith)

-- ---- what bytes a number has

-- a byte of ASCII that is no `i`
abbrev pub is_plain : ℕ → Bool
is_plain c = nat_lt c 128 && not (c == 105)

digit_below : (base c : ℕ) → base ≤ 16 → is_digit c base ≡ true → c < 128
digit_below base c small h = ⊎_elim (λ less. less) (λ above. let big : 36 ≤ digit_value c = grind (arith, nat_tests) in absurd (let lt = ltb-true (digit_value c) base h in omega arith)) (cases_lt c 128)

digit_plain : (base c : ℕ) → base ≤ 16 → is_digit c base ≡ true → is_plain c ≡ true
digit_plain base c small h =
    let other : (c == 105) ≡ false = ne_eqb c 105 (λ e. let lt = ltb-true (digit_value c) base h in let v : digit_value c ≡ 18 = ap digit_value e in omega (arith, lt, v, small)) in
    λ i. lt-ltb c 128 (digit_below base c small h) i && not (other i)

fits_plain : (base c : ℕ) (cs : List ℕ) → base ≤ 16 → fits base c cs ≡ true → is_plain c ≡ true
fits_plain base c cs small h =
    ⊎_elim (λ digit. digit_plain base c small digit) (λ mark. ap is_plain (eqb-true c 95 (and_parts (c == 95) (is_digit (get_or cs 0 0) base) mark).0)) (or_cases (is_digit c base) (c == 95 && is_digit (get_or cs 0 0) base) h)

pub are_digits-plain : (base : ℕ) (bytes : List ℕ) → base ≤ 16 → are_digits base bytes ≡ true → list_all is_plain bytes ≡ true
are_digits-plain base [] small h = refl
are_digits-plain base (c ∷ cs) small h =
    let parts = and_parts (fits base c cs) (are_digits base cs) h in
    ap (λ b. b && list_all is_plain cs) (fits_plain base c cs small parts.0) ∙ are_digits-plain base cs small parts.1

-- ---- a run that something else ends is exactly the run

-- a byte that may stand among digits
abbrev pub among : ℕ → ℕ → Bool
among base c = is_digit c base || c == 95

-- ends a run of digits, as every byte that is none of theirs does
abbrev pub Ends : ℕ → List ℕ → Type 0
Ends base rest = among base (get_or rest 0 0) ≡ false

pub left_false : (a b : Bool) → (a || b) ≡ false → a ≡ false
left_false true b h = h
left_false false b h = refl

pub right_false : (a b : Bool) → (a || b) ≡ false → b ≡ false
right_false true b h = absurd (false≢true (sym h))
right_false false b h = h

no_more : (base c : ℕ) (rest : List ℕ) → among base c ≡ false → fits base c rest ≡ false
no_more base c rest h = λ i. left_false (is_digit c base) (c == 95) h i || (right_false (is_digit c base) (c == 95) h i && is_digit (get_or rest 0 0) base)

-- a digit behind stays behind
still : (base d : ℕ) (ds rest : List ℕ) → IsBase base → fits base d ds ≡ true → fits base d (ds ++ rest) ≡ true
still base d [] rest none h = ⊎_elim (λ digit. rw digit refl) (λ mark. absurd (false≢true (sym none ∙ (and_parts (d == 95) (is_digit 0 base) mark).1))) (or_cases (is_digit d base) (d == 95 && is_digit 0 base) h)
still base d (x ∷ ds) rest none h = h

first_digit : (base : ℕ) (digits rest : List ℕ) → IsBase base → is_digit (get_or digits 0 0) base ≡ true → is_digit (get_or (digits ++ rest) 0 0) base ≡ true
first_digit base [] rest none h = absurd (false≢true (sym none ∙ h))
first_digit base (d ∷ ds) rest none h = h

-- digits that something else follows are the run at the front
pub run_ends : (base : ℕ) (digits rest : List ℕ) → IsBase base → are_digits base digits ≡ true → Ends base rest → digits_size base (digits ++ rest) ≡ length digits
run_ends base [] [] none are ends = refl
run_ends base [] (c ∷ rest) none are ends = ap (λ b. cond b (1 + digits_size base rest) 0) (no_more base c rest ends)
run_ends base (d ∷ ds) rest none are ends =
    let parts = and_parts (fits base d ds) (are_digits base ds) are in
    ap (λ b. cond b (1 + digits_size base (ds ++ rest)) 0) (still base d ds rest none parts.0) ∙ (let e = run_ends base ds rest none parts.1 ends in omega arith)

-- at most the run at the front, whatever follows
pub run_le : (base : ℕ) (digits rest : List ℕ) → IsBase base → are_digits base digits ≡ true → length digits ≤ digits_size base (digits ++ rest)
run_le base digits rest none are =
    digits_le base (digits ++ rest) (length digits) none (omega (arith, length-append digits rest)) (ap (are_digits base) (take-append_seam digits rest) ∙ are)

-- digits at the front, with what ends them: the run is theirs; `[]` where there are none
pub run_of : (base : ℕ) (digits rest : List ℕ) → IsBase base → (digits ≡ []) ⊎ IsDigits base digits → Ends base rest → run_size base (digits ++ rest) ≡ length digits
run_of base digits rest zeroed either ends =
    ⊎_elim
    (λ none.
    let no_digit : is_digit (get_or rest 0 0) base ≡ false = left_false (is_digit (get_or rest 0 0) base) (get_or rest 0 0 == 95) ends in
    ap (λ l. run_size base (l ++ rest)) none ∙ ap (λ b. cond b (digits_size base rest) 0) no_digit ∙ ap length (sym none))
    (λ is. ap (λ b. cond b (digits_size base (digits ++ rest)) 0) (first_digit base digits rest zeroed is.0) ∙ run_ends base digits rest zeroed is.1 ends)
    either

-- at most the run, also where it may go on
pub run_most : (base : ℕ) (digits rest : List ℕ) → IsBase base → (digits ≡ []) ⊎ IsDigits base digits → length digits ≤ run_size base (digits ++ rest)
run_most base digits rest zeroed either =
    ⊎_elim
    (λ none. omega (arith, ap length none))
    (λ is. let size : run_size base (digits ++ rest) ≡ digits_size base (digits ++ rest) = ap (λ b. cond b (digits_size base (digits ++ rest)) 0) (first_digit base digits rest zeroed is.0) in
    let le = run_le base digits rest zeroed is.1 in omega (arith, size, le))
    either

pub digits_some : (base : ℕ) (digits : List ℕ) → IsBase base → IsDigits base digits → 0 < length digits
digits_some base [] none is = absurd (false≢true (sym none ∙ is.0))
digits_some base (d ∷ ds) none is = omega arith

-- ---- the run at the front

pub first_kept : (text : List ℕ) (n : ℕ) → 0 < n → get_or (take n text) 0 0 ≡ get_or text 0 0
first_kept [] zero some = refl
first_kept [] (suc n) some = refl
first_kept (c ∷ cs) zero some = absurd (omega arith)
first_kept (c ∷ cs) (suc n) some = refl

pub run_size-within : (base : ℕ) (text : List ℕ) → run_size base text ≤ length text
run_size-within base text =
    let le = digits_size-within base text in
    cond_both (is_digit (get_or text 0 0) base) (digits_size base text) 0 (λ n. n ≤ length text) (λ e. le) (λ e. omega arith)

-- the run is digits, where there is one
pub run-front : (base : ℕ) (text : List ℕ) → IsBase base → 0 < run_size base text → IsDigits base (take (run_size base text) text)
run-front base text none some =
    ⊎_elim
    (λ digit.
    let size : run_size base text ≡ digits_size base text = ap (λ b. cond b (digits_size base text) 0) digit in
    (ap (λ c. is_digit c base) (first_kept text (run_size base text) some) ∙ digit, ap (λ k. are_digits base (take k text)) size ∙ are_digits-front base text none))
    (λ other. absurd (let size : run_size base text ≡ 0 = ap (λ b. cond b (digits_size base text) 0) other in omega (arith, some, size)))
    (cases_Bool (is_digit (get_or text 0 0) base))

-- no digits at the front are longer
pub run-longest : (base : ℕ) (text : List ℕ) (m : ℕ) → IsBase base → m ≤ length text → IsDigits base (take m text) → m ≤ run_size base text
run-longest base text m none within is =
    ⊎_elim
    (λ some.
    let digit : is_digit (get_or text 0 0) base ≡ true = ap (λ c. is_digit c base) (sym (first_kept text m some)) ∙ is.0 in
    let size : run_size base text ≡ digits_size base text = ap (λ b. cond b (digits_size base text) 0) digit in
    let le = digits_le base text m none within is.1 in
    omega (arith, size, le))
    (λ zeroed. omega arith)
    (cases_lt 0 m)
