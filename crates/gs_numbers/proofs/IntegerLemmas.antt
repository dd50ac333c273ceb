-- The longest integer at the front of a text.
use Rattle.std.proofs.Common.{◌≡◌, ℕ, suc, ◌+◌, ◌<◌, ◌≤◌, Bool, true, false, ◌||◌, ◌==◌, cond, List, [], ◌∷◌, ◌++◌, length, take, drop, get_or, sym, refl, ap, ◌∙◌, subst, ⊎_elim, inl, inr, arith, length-take-le, max, Option, Some, None}
use Rattle.std.specs.Prelude.{is_some, unwrap_or}
use Rattle.std.proofs.lemmas.Bool.{false≢true, or_cases, cases_Bool, cases_lt, cond_both, ne_eqb, eqb-true, le-ltb}
use Rattle.gs_syntax.specs.Numbers.{value_of, base_of, IsDecimal, IsOctal, IsLettered, IsInteger}
use Rattle.gs_numbers.specs.Reading.{digits_size, run_size, lettered_size, integer_size}
use Rattle.gs_numbers.proofs.DigitLemmas.{IsBase, is_plain, are_digits-front, run_le, run_most, run-front, digits_some, first_kept, digits_size-within}

-- ---- the letter behind a 0

-- what is known of a letter and its base
pub record IsLetterOf (c base : ℕ) : Type 0 where
  pub some : 1 ≤ base
  pub small : base ≤ 16
  pub plain : is_plain c ≡ true

letter_known : (c base value : ℕ) → Some value ≡ Some base → 1 ≤ value → value ≤ 16 → is_plain c ≡ true → IsLetterOf c base
letter_known c base value e some small plain =
    let same : value ≡ base = ap (λ o. unwrap_or o 0) e in
    record { some = omega (arith, same, some); small = omega (arith, same, small); plain = plain }

plain_either : (c a b : ℕ) → (c == a || c == b) ≡ true → is_plain a ≡ true → is_plain b ≡ true → is_plain c ≡ true
plain_either c a b h pa pb =
    ⊎_elim (λ e. ap is_plain (eqb-true c a e) ∙ pa) (λ e. ap is_plain (eqb-true c b e) ∙ pb) (or_cases (c == a) (c == b) h)

pub letter_of : (c base : ℕ) → base_of c ≡ Some base → IsLetterOf c base
letter_of c base =
    let P : Option ℕ → Type 0 = λ o. o ≡ Some base → IsLetterOf c base in
    let hex : Option ℕ = cond (c == 120 || c == 88) (Some 16) None in
    let octal : Option ℕ = cond (c == 111 || c == 79) (Some 8) hex in
    cond_both (c == 98 || c == 66) (Some 2) octal P
    (λ t e. letter_known c base 2 e (omega arith) (omega arith) (plain_either c 98 66 t refl refl))
    (λ u. cond_both (c == 111 || c == 79) (Some 8) hex P
    (λ t e. letter_known c base 8 e (omega arith) (omega arith) (plain_either c 111 79 t refl refl))
    (λ v. cond_both (c == 120 || c == 88) (Some 16) None P
    (λ t e. letter_known c base 16 e (omega arith) (omega arith) (plain_either c 120 88 t refl refl))
    (λ w e. absurd (false≢true (ap (λ o. is_some o) e)))))

pub small_base : (base : ℕ) → base ≤ 16 → IsBase base
small_base base small = le-ltb 36 base (omega arith)

-- a byte of which a test holds that holds of none of the letters
pub no_letter : (test : ℕ → Bool) (c : ℕ) → test c ≡ true → test 98 ≡ false → test 66 ≡ false → test 111 ≡ false → test 79 ≡ false → test 120 ≡ false → test 88 ≡ false → base_of c ≡ None
no_letter test c h b1 b2 o1 o2 x1 x2 =
    let other : (x : ℕ) → test x ≡ false → (c == x) ≡ false = λ x f. ne_eqb c x (λ e. false≢true (sym f ∙ ap test (sym e) ∙ h)) in
    λ i. cond (other 98 b1 i || other 66 b2 i) (Some 2) (cond (other 111 o1 i || other 79 o2 i) (Some 8) (cond (other 120 x1 i || other 88 x2 i) (Some 16) None))

-- ---- no integer at the front is longer

zero_size : (t : List ℕ) → integer_size (48 ∷ t) ≡ max (1 + digits_size 8 t) (lettered_size (base_of (get_or t 0 0)) (drop 1 t))
unfolding integer_size
zero_size t = refl

run_integer : (text : List ℕ) → (get_or text 0 0 ≡ 48 → ⊥) → integer_size text ≡ run_size 10 text
unfolding integer_size
run_integer text other =
    ap (λ b. cond b (max (1 + digits_size 8 (drop 1 text)) (lettered_size (base_of (get_or text 1 0)) (drop 2 text))) (run_size 10 text)) (ne_eqb (get_or text 0 0) 48 other)

first_append : (bytes after : List ℕ) → 0 < length bytes → get_or (bytes ++ after) 0 0 ≡ get_or bytes 0 0
first_append [] after some = absurd (omega arith)
first_append (b ∷ bytes) after some = refl

decimal_le : (text bytes after : List ℕ) (n : ℕ) → text ≡ bytes ++ after → IsDecimal bytes n → (length bytes ≤ integer_size text) × (0 < length bytes)
decimal_le text bytes after n is h =
    ⊎_elim
    (λ zeroed.
    let t : text ≡ 48 ∷ after = is ∙ ap (λ l. l ++ after) zeroed.0 in
    let size = ap integer_size t ∙ zero_size after in
    (omega (arith, size, ap length zeroed.0), omega (arith, ap length zeroed.0)))
    (λ digits.
    let some = digits_some 10 bytes refl digits.0 in
    let first : get_or text 0 0 ≡ get_or bytes 0 0 = ap (λ l. get_or l 0 0) is ∙ first_append bytes after some in
    let size = run_integer text (λ e. digits.1 (sym first ∙ e)) in
    let most = run_most 10 bytes after refl (inr digits.0) in
    (omega (arith, size, most, ap (run_size 10) is), some))
    h

octal_le : (text bytes after : List ℕ) (n : ℕ) → text ≡ bytes ++ after → IsOctal bytes n → (length bytes ≤ integer_size text) × (0 < length bytes)
octal_le text bytes after n is h =
    let t : text ≡ 48 ∷ (h.0 ++ after) = is ∙ ap (λ l. l ++ after) h.1 in
    let size = ap integer_size t ∙ zero_size (h.0 ++ after) in
    let le = run_le 8 h.0 after refl h.2.1 in
    let long = ap length h.1 in
    (omega (arith, size, le, long), omega (arith, long))

some_lettered : (base : ℕ) (t : List ℕ) → 0 < digits_size base t → lettered_size (Some base) t ≡ 2 + digits_size base t
some_lettered base t some = ap (λ b. cond b 0 (2 + digits_size base t)) (ne_eqb (digits_size base t) 0 (λ e. omega arith))

lettered_le : (text bytes after : List ℕ) (n : ℕ) → text ≡ bytes ++ after → IsLettered bytes n → (length bytes ≤ integer_size text) × (0 < length bytes)
lettered_le text bytes after n is h =
    let base = h.0 in
    let digits = h.2 in
    let t : text ≡ 48 ∷ h.1 ∷ (digits ++ after) = is ∙ ap (λ l. l ++ after) h.3 in
    let letter = letter_of h.1 base h.4 in
    let le = run_le base digits after (small_base base letter.small) h.5.1 in
    let inner : lettered_size (base_of h.1) (digits ++ after) ≡ 2 + digits_size base (digits ++ after) =
    ap (λ o. lettered_size o (digits ++ after)) h.4 ∙ some_lettered base (digits ++ after) (let some = h.5.0 in omega (arith, le, some)) in
    let size = ap integer_size t ∙ zero_size (h.1 ∷ (digits ++ after)) in
    let long = ap length h.3 in
    (omega (arith, size, inner, le, long), omega (arith, long))

pub integer_le : (text bytes after : List ℕ) (n : ℕ) → text ≡ bytes ++ after → IsInteger bytes n → (length bytes ≤ integer_size text) × (0 < length bytes)
integer_le text bytes after n is h =
    ⊎_elim
    (λ d. decimal_le text bytes after n is d)
    (λ other. ⊎_elim (λ o. octal_le text bytes after n is o) (λ l. lettered_le text bytes after n is l) other)
    h

-- ---- the front of that length is an integer

abbrev pub HasValue : List ℕ → Type 0
HasValue bytes = (n : ℕ) × IsInteger bytes n

two_more : (n a b : ℕ) (t : List ℕ) → take (2 + n) (a ∷ b ∷ t) ≡ a ∷ b ∷ take n t
two_more n a b t = let e : 2 + n ≡ suc (suc n) = omega arith in ap (λ i. take i (a ∷ b ∷ t)) e

length_front : (base : ℕ) (t : List ℕ) → length (take (digits_size base t) t) ≡ digits_size base t
length_front base t = length-take-le (digits_size base t) t (digits_size-within base t)

octal_front : (t : List ℕ) → HasValue (take (1 + digits_size 8 t) (48 ∷ t))
octal_front t =
    let d : ℕ = digits_size 8 t in
    let more : 1 + d ≡ suc d = omega arith in
    let whole : take (1 + d) (48 ∷ t) ≡ 48 ∷ take d t = ap (λ k. take k (48 ∷ t)) more in
    subst HasValue (sym whole)
    (⊎_elim
    (λ some. (value_of 8 (take d t), inr (inl (take d t, refl, (let long = length_front 8 t in omega (arith, long, some), are_digits-front 8 t refl), refl))))
    (λ none. let z : d ≡ 0 = omega arith in (0, inl (inl (ap (λ k. 48 ∷ take k t) z, refl))))
    (cases_lt 0 d))

lettered_front : (t : List ℕ) (o : Option ℕ) → base_of (get_or t 0 0) ≡ o → 0 < lettered_size o (drop 1 t) → HasValue (take (lettered_size o (drop 1 t)) (48 ∷ t))
lettered_front t None e some = absurd (omega (arith, some))
lettered_front [] (Some base) e some = absurd (false≢true (ap (λ o. is_some o) e))
lettered_front (x ∷ t) (Some base) e some =
    let d : ℕ = digits_size base t in
    let letter = letter_of x base e in
    ⊎_elim
    (λ more.
    let size : lettered_size (Some base) t ≡ 2 + d = some_lettered base t more in
    let whole : take (lettered_size (Some base) t) (48 ∷ x ∷ t) ≡ 48 ∷ x ∷ take d t = ap (λ k. take k (48 ∷ x ∷ t)) size ∙ two_more d 48 x t in
    let long = length_front base t in
    subst HasValue (sym whole)
    (value_of base (take d t), inr (inr (base, x, take d t, refl, e, (omega (arith, long, more), are_digits-front base t (small_base base letter.small)), refl))))
    (λ none.
    let z : d ≡ 0 = omega arith in
    absurd (let size : lettered_size (Some base) t ≡ 0 = ap (λ k. cond (k == 0) 0 (2 + k)) z in omega (arith, some, size)))
    (cases_lt 0 d)

zero_front : (t : List ℕ) → HasValue (take (integer_size (48 ∷ t)) (48 ∷ t))
zero_front t =
    let octal : ℕ = 1 + digits_size 8 t in
    let lettered : ℕ = lettered_size (base_of (get_or t 0 0)) (drop 1 t) in
    ⊎_elim
    (λ less.
    let size : integer_size (48 ∷ t) ≡ lettered = zero_size t ∙ (let m : max octal lettered ≡ lettered = omega (arith, less) in m) in
    subst (λ k. HasValue (take k (48 ∷ t))) (sym size) (lettered_front t (base_of (get_or t 0 0)) refl (omega (arith, less))))
    (λ more.
    let size : integer_size (48 ∷ t) ≡ octal = zero_size t ∙ (let m : max octal lettered ≡ octal = omega (arith, more) in m) in
    subst (λ k. HasValue (take k (48 ∷ t))) (sym size) (octal_front t))
    (cases_lt octal lettered)

run_front : (text : List ℕ) → (get_or text 0 0 ≡ 48 → ⊥) → 0 < integer_size text → HasValue (take (integer_size text) text)
run_front text other some =
    let size = run_integer text other in
    let more : 0 < run_size 10 text = omega (arith, some, size) in
    let first = first_kept text (run_size 10 text) more in
    subst (λ k. HasValue (take k text)) (sym size)
    (value_of 10 (take (run_size 10 text) text), inl (inr (run-front 10 text refl more, (λ e. other (sym first ∙ e)), refl)))

pub integer_front : (text : List ℕ) → 0 < integer_size text → HasValue (take (integer_size text) text)
integer_front [] some = run_front [] (λ e. let z : get_or [] 0 0 ≡ 48 = e in omega (arith, z)) some
integer_front (a ∷ t) some =
    ⊎_elim
    (λ begins. let e : 48 ≡ a = sym (eqb-true a 48 begins) in subst (λ x. HasValue (take (integer_size (x ∷ t)) (x ∷ t))) e (zero_front t))
    (λ other. run_front (a ∷ t) (λ e. false≢true (sym other ∙ ap (λ n. n == 48) e)) some)
    (cases_Bool (a == 48))
