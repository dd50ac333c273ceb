-- The longest number of any kind at the front of a text.
use Rattle.std.proofs.Common.{◌≡◌, ℕ, zero, suc, ◌+◌, ◌-◌, ◌<◌, ◌≤◌, true, false, ◌&&◌, ◌==◌, nat_lt, List, [], ◌∷◌, ◌++◌, length, take, drop, get_or, sym, refl, ap, ◌∙◌, subst, ⊎_elim, inl, inr, arith, append_assoc, take-append-drop, length-append, length-take-le, ◌⊎◌, max, Option, ℤ}
use Rattle.std.specs.List.{list_all}
use Rattle.std.proofs.lemmas.List.Folds.{list_all-append}
use Rattle.std.proofs.lemmas.Bool.{false≢true, and_parts, cases_lt, lt-ltb, ltb-true, eqb-true}
use Rattle.gs_syntax.specs.Digits.{IsDigits}
use Rattle.gs_syntax.specs.Numbers.{bounded, IsInteger, IsImaginary}
use Rattle.gs_syntax.specs.Floats.{IsFloat}
use Rattle.gs_numbers.specs.declared.number.Number.{Number}
use Rattle.gs_numbers.specs.declared.number.Number.TheVariants.{Integer, Float, Imaginary}
use Rattle.gs_numbers.specs.Spelling.{SpellsNumber, IsLongestNumber, HasNoNumber}
use Rattle.gs_numbers.specs.Reading.{run_size, integer_size, float_size}
use Rattle.gs_numbers.proofs.DigitLemmas.{is_plain, run_most, run-front, digits_some}
use Rattle.gs_numbers.proofs.IntegerLemmas.{integer_le, integer_front}
use Rattle.gs_numbers.proofs.FloatFronts.{float_le, float_front, float_some}
use Rattle.gs_numbers.proofs.ByteLemmas.{digits_plain, integer_plain, float_plain, apart}

-- what may stand before the `i`
abbrev IsPart : List ℕ → Type 0
IsPart part = IsDigits 10 part ⊎ (((n : ℕ) × IsInteger part n) ⊎ IsFloat part)

-- the longest digits, integer and float at the front, and the longest of these
pub record Sizes (text : List ℕ) (integer float longest : ℕ) : Type 0 where
  pub integer_is : integer ≡ integer_size text
  pub float_is : float ≡ float_size text
  pub longest_is : longest ≡ max (max (run_size 10 text) integer) float

part_le : (text part after : List ℕ) → text ≡ part ++ after → IsPart part → (length part ≤ max (max (run_size 10 text) (integer_size text)) (float_size text)) × (0 < length part)
part_le text part after is h =
    ⊎_elim
    (λ d. let most = run_most 10 part after refl (inr d) in (omega (arith, most, ap (run_size 10) is), digits_some 10 part refl d))
    (λ other. ⊎_elim
    (λ i. let le = integer_le text part after i.0 is i.1 in (let a = le.0 in omega (arith, a), le.1))
    (λ f. let le = float_le text part after is f in (omega (arith, le), float_some part f))
    other)
    h

part_plain : (part : List ℕ) → IsPart part → list_all is_plain part ≡ true
part_plain part h = ⊎_elim (λ d. digits_plain part d) (λ other. ⊎_elim (λ i. integer_plain part i.0 i.1) (λ f. float_plain part f) other) h

part_front : (text : List ℕ) (i f n : ℕ) → Sizes text i f n → 0 < n → IsPart (take n text)
part_front text i f n s some =
    let r : ℕ = run_size 10 text in
    let is_i = s.integer_is in
    let is_f = s.float_is in
    let is_n = s.longest_is in
    let at : ℕ → Type 0 = λ k. IsPart (take k text) in
    ⊎_elim
    (λ float.
    let e : float_size text ≡ n = omega (arith, is_n, is_f, float) in
    subst at e (inr (inr (float_front text (omega (arith, some, e))))))
    (λ no_float. ⊎_elim
    (λ integer.
    let e : integer_size text ≡ n = omega (arith, is_n, is_i, no_float, integer) in
    subst at e (inr (inl (integer_front text (omega (arith, some, e))))))
    (λ digits.
    let e : r ≡ n = omega (arith, is_n, no_float, digits) in
    subst at e (inl (run-front 10 text refl (omega (arith, some, e)))))
    (cases_lt r i))
    (cases_lt (max r i) f)

get-append : (xs ys : List ℕ) → get_or (xs ++ ys) (length xs) 0 ≡ get_or ys 0 0
get-append [] ys = refl
get-append (x ∷ xs) ys = get-append xs ys

-- plain bytes that go on behind these have no `i` there
no_i : (xs more : List ℕ) → list_all is_plain (xs ++ 105 ∷ more) ≡ true → ⊥
no_i xs more h =
    let tail = (and_parts (list_all is_plain xs) (list_all is_plain (105 ∷ more)) (sym (list_all-append is_plain xs (105 ∷ more)) ∙ h)).1 in
    false≢true (and_parts false (list_all is_plain more) tail).0

longer_has : (xs more : List ℕ) (n : ℕ) → length xs < n → take n (xs ++ 105 ∷ more) ≡ xs ++ 105 ∷ take (n - suc (length xs)) more
longer_has [] more zero less = absurd (omega arith)
longer_has [] more (suc n) less = let e : n ≡ suc n - suc 0 = omega arith in ap (λ k. 105 ∷ take k more) e
longer_has (x ∷ xs) more zero less = absurd (omega arith)
longer_has (x ∷ xs) more (suc n) less =
    let e : n - suc (length xs) ≡ suc n - suc (length (x ∷ xs)) = omega arith in
    ap (λ l. x ∷ l) (longer_has xs more n (omega (arith, less))) ∙ ap (λ k. x ∷ (xs ++ 105 ∷ take k more)) e

-- an imaginary literal at the front is the longest part and an `i`
imaginary_only : (text : List ℕ) (i f n m : ℕ) → Sizes text i f n → m ≤ length text → IsImaginary (take m text) → (m ≡ suc n) × (get_or text n 0 ≡ 105) × (0 < n)
imaginary_only text i f n m s within h =
    let part = h.0 in
    let after : List ℕ = drop m text in
    let t : text ≡ part ++ 105 ∷ after = sym (take-append-drop m text) ∙ ap (λ l. l ++ after) h.1 ∙ append_assoc part (105 ∷ []) after in
    let le = part_le text part (105 ∷ after) t h.2 in
    let a = le.0 in
    let b = le.1 in
    let is_i = s.integer_is in
    let is_f = s.float_is in
    let is_n = s.longest_is in
    let bound : length part ≤ n = omega (arith, a, is_i, is_f, is_n) in
    ⊎_elim
    (λ less. absurd (no_i part (take (n - suc (length part)) after)
    (ap (list_all is_plain) (sym (ap (take n) t ∙ longer_has part after n less)) ∙ part_plain (take n text) (part_front text i f n s (omega (arith, less))))))
    (λ more.
    let same : length part ≡ n = omega (arith, bound, more) in
    let long : m ≡ length part + 1 = sym (length-take-le m text within) ∙ ap length h.1 ∙ length-append part (105 ∷ []) in
    (omega (arith, long, same), ap (λ k. get_or text k 0) (sym same) ∙ ap (λ l. get_or l (length part) 0) t ∙ get-append part (105 ∷ after), omega (arith, same, b)))
    (cases_lt (length part) n)

integer_within : (text : List ℕ) (m k : ℕ) → m ≤ length text → IsInteger (take m text) k → (m ≤ integer_size text) × (0 < m)
integer_within text m k within h =
    let le = integer_le text (take m text) (drop m text) k (sym (take-append-drop m text)) h in
    let a = le.0 in
    let b = le.1 in
    let long = length-take-le m text within in
    (omega (arith, a, long), omega (arith, b, long))

float_within : (text : List ℕ) (m : ℕ) → m ≤ length text → IsFloat (take m text) → (m ≤ float_size text) × (0 < m)
float_within text m within h =
    let le = float_le text (take m text) (drop m text) (sym (take-append-drop m text)) h in
    let some = float_some (take m text) h in
    let long = length-take-le m text within in
    (omega (arith, le, long), omega (arith, some, long))

take_one_more : (text : List ℕ) (n : ℕ) → n < length text → take (n + 1) text ≡ take n text ++ get_or text n 0 ∷ []
take_one_more [] n less = absurd (omega (arith, less))
take_one_more (c ∷ cs) zero less = refl
take_one_more (c ∷ cs) (suc n) less =
    let e : suc n + 1 ≡ suc (n + 1) = omega arith in
    ap (λ k. take k (c ∷ cs)) e ∙ ap (λ l. c ∷ l) (take_one_more cs n (omega (arith, less)))

-- the `i` stands within the text
letter_within : (text : List ℕ) (n : ℕ) → get_or text n 0 ≡ 105 → n < length text
letter_within [] n e = absurd (let z : 0 ≡ 105 = e in omega (arith, z))
letter_within (c ∷ cs) zero e = omega arith
letter_within (c ∷ cs) (suc n) e = let rest = letter_within cs n e in omega (arith, rest)

imaginary_here : (text : List ℕ) (i f n : ℕ) → Sizes text i f n → 0 < n → n < length text → get_or text n 0 ≡ 105 → IsLongestNumber text Imaginary (n + 1)
imaginary_here text i f n s some within letter = record {
  some = omega arith;
  within = omega (arith, within);
  spells = (take n text, take_one_more text n within ∙ ap (λ b. take n text ++ b ∷ []) letter, part_front text i f n s some);
  longest = longest;
}
  where
    longest : (m : ℕ) (other : Number) → m ≤ length text → SpellsNumber other (take m text) → (m < n + 1) ⊎ ((m ≡ n + 1) × (other ≡ Imaginary))
    longest m (Integer v) less h =
        let le = (integer_within text m h.0 less h.1).0 in
        let is_i = s.integer_is in
        let is_n = s.longest_is in
        inl (omega (arith, le, is_i, is_n))
    longest m Float less h =
        let le = (float_within text m less h).0 in
        let is_f = s.float_is in
        let is_n = s.longest_is in
        inl (omega (arith, le, is_f, is_n))
    longest m Imaginary less h = let only = (imaginary_only text i f n m s less h).0 in inr (omega (arith, only), refl)

pub imaginary_stands : (text : List ℕ) (i f n : ℕ) → Sizes text i f n → true ≡ (nat_lt 0 n && get_or text n 0 == 105) → IsLongestNumber text Imaginary (n + 1)
imaginary_stands text i f n s test = imaginary_here text i f n s (ltb-true 0 n parts.0) (letter_within text n letter) letter
  where
    parts : (nat_lt 0 n ≡ true) × ((get_or text n 0 == 105) ≡ true)
    parts = and_parts (nat_lt 0 n) (get_or text n 0 == 105) (sym test)

    letter : get_or text n 0 ≡ 105
    letter = eqb-true (get_or text n 0) 105 parts.1

-- no `i` stands behind the longest part
abbrev pub NoLetter : List ℕ → ℕ → Type 0
NoLetter text n = 0 < n → get_or text n 0 ≡ 105 → ⊥

pub no_letter : (text : List ℕ) (n : ℕ) → false ≡ (nat_lt 0 n && get_or text n 0 == 105) → NoLetter text n
no_letter text n h some letter = false≢true (h ∙ (λ i. lt-ltb 0 n some i && letter i == 105))

not_imaginary : (text : List ℕ) (i f n m : ℕ) → Sizes text i f n → NoLetter text n → m ≤ length text → IsImaginary (take m text) → ⊥
not_imaginary text i f n m s none within h = let only = imaginary_only text i f n m s within h in none only.2 only.1

pub float_stands : (text : List ℕ) (i f n : ℕ) → Sizes text i f n → NoLetter text n → i < f → f ≤ length text → IsLongestNumber text Float f
float_stands text i f n s none more within =
    let is_f = s.float_is in
    let is_i = s.integer_is in
    record {
      some = omega (arith, more);
      within = within;
      spells = subst (λ k. IsFloat (take k text)) (sym is_f) (float_front text (omega (arith, more, is_f)));
      longest = longest;
    }
  where
    longest : (m : ℕ) (other : Number) → m ≤ length text → SpellsNumber other (take m text) → (m < f) ⊎ ((m ≡ f) × (other ≡ Float))
    longest m (Integer v) less h =
        let le = (integer_within text m h.0 less h.1).0 in
        let is_i = s.integer_is in
        inl (omega (arith, le, is_i, more))
    longest m Float less h =
        let le = (float_within text m less h).0 in
        let is_f = s.float_is in
        ⊎_elim (λ short. inl short) (λ long. inr (omega (arith, le, is_f, long), refl)) (cases_lt m f)
    longest m Imaginary less h = absurd (not_imaginary text i f n m s none less h)

pub nothing_stands : (text : List ℕ) (i f n : ℕ) → Sizes text i f n → NoLetter text n → f ≤ i → i ≡ 0 → HasNoNumber text
nothing_stands text i f n s none less zeroed m (Integer v) within h =
    let le = integer_within text m h.0 within h.1 in
    let a = le.0 in
    let b = le.1 in
    let is_i = s.integer_is in
    omega (arith, a, b, is_i, zeroed)
nothing_stands text i f n s none less zeroed m Float within h =
    let le = float_within text m within h in
    let a = le.0 in
    let b = le.1 in
    let is_f = s.float_is in
    omega (arith, a, b, is_f, zeroed, less)
nothing_stands text i f n s none less zeroed m Imaginary within h = not_imaginary text i f n m s none within h

pub integer_stands : (text front : List ℕ) (i f n : ℕ) (v : Option ℤ) → Sizes text i f n → NoLetter text n → f ≤ i → (i ≡ 0 → ⊥) → i ≤ length text
    → front ≡ take i text → ((k : ℕ) → IsInteger front k → v ≡ bounded k) → IsLongestNumber text (Integer v) i
integer_stands text front i f n v s none less other within is_front value =
    let is_i = s.integer_is in
    let some : 0 < i = ⊎_elim (λ h. h) (λ h. absurd (other (omega (arith, h)))) (cases_lt 0 i) in
    let is : (k : ℕ) × IsInteger (take i text) k = subst (λ l. (k : ℕ) × IsInteger (take l text) k) (sym is_i) (integer_front text (omega (arith, some, is_i))) in
    record {
      some = some;
      within = within;
      spells = (is.0, is.1, value is.0 (subst (λ l. IsInteger l is.0) (sym is_front) is.1));
      longest = longest;
    }
  where
    longest : (m : ℕ) (w : Number) → m ≤ length text → SpellsNumber w (take m text) → (m < i) ⊎ ((m ≡ i) × (w ≡ Integer v))
    longest m (Integer w) short h =
        let le = (integer_within text m h.0 short h.1).0 in
        let is_i = s.integer_is in
        ⊎_elim
        (λ a. inl a)
        (λ a.
        let same : m ≡ i = omega (arith, le, is_i, a) in
        let here : IsInteger front h.0 = subst (λ l. IsInteger l h.0) (ap (λ k. take k text) same ∙ sym is_front) h.1 in
        inr (same, ap (λ o. Integer o) (h.2 ∙ sym (value h.0 here))))
        (cases_lt m i)
    longest m Float short h =
        let le = float_within text m short h in
        let a = le.0 in
        let b = le.1 in
        let is_f = s.float_is in
        let is_i = s.integer_is in
        ⊎_elim
        (λ c. inl c)
        (λ c.
        let same : integer_size text ≡ m = omega (arith, a, is_f, is_i, less, c) in
        let is = integer_front text (omega (arith, same, b)) in
        absurd (apart (take m text) is.0 (subst (λ k. IsInteger (take k text) is.0) same is.1) h))
        (cases_lt m i)
    longest m Imaginary short h = absurd (not_imaginary text i f n m s none short h)
