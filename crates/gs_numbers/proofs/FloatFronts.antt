-- What the lengths of floats measure: no float at the front is longer, and the front of that length is one.
use Rattle.std.proofs.Common.{◌≡◌, ℕ, suc, ◌+◌, ◌<◌, ◌≤◌, true, false, ◌&&◌, ◌||◌, ◌==◌, cond, List, [], ◌∷◌, ◌++◌, length, take, drop, get_or, sym, refl, ap, ◌∙◌, subst, ⊎_elim, inl, inr, arith, append_assoc, length-take-le, length-append, length-drop, nat_lt, ◌⊎◌, max}
use Rattle.std.proofs.Math.Seq.{take-add}
use Rattle.std.proofs.lemmas.Bool.{false≢true, and_parts, or_cases, cases_Bool, cases_lt, cond_both, ne_eqb, eqb-true, lt-ltb, ltb-true}
use Rattle.gs_syntax.specs.Floats.{marks_exponent, IsExponent, IsFraction, IsReal, IsDecimalFloat, IsHexFloat, IsFloat}
use Rattle.gs_numbers.specs.Reading.{digits_size, run_size, sign_size, exponent_size, fraction_size, fraction_behind, exponent_behind, has_digit, real_size, decimal_float_size, hex_float_size, float_size}
use Rattle.gs_numbers.proofs.DigitLemmas.{IsBase, are_digits-front, run-front, digits_size-within, run_size-within, first_kept}
use Rattle.gs_numbers.proofs.FloatLemmas.{marked10, marked16, covers, exponent_here}

-- ---- no float at the front is longer

first_append : (bytes after : List ℕ) → 0 < length bytes → get_or (bytes ++ after) 0 0 ≡ get_or bytes 0 0
first_append [] after some = absurd (omega arith)
first_append (b ∷ bytes) after some = refl

real_some : (base : ℕ) (bytes : List ℕ) → IsReal base bytes → 0 < length bytes
real_some base bytes real =
    let count = ap length real.parts in
    let parts = length-append real.whole (real.fraction ++ real.exponent) in
    let inner = length-append real.fraction real.exponent in
    ⊎_elim (λ some. omega (arith, count, parts, inner, some)) (λ some. omega (arith, count, parts, inner, some)) real.some

decimal_size : (text : List ℕ) → (get_or text 0 0 == 95) ≡ false → has_digit 10 text ≡ true → 0 < fraction_behind 10 text + exponent_behind 10 text → decimal_float_size text ≡ real_size 10 text
unfolding decimal_float_size
decimal_size text first digit some =
    (λ i. cond (first i) 0 (cond (digit i && lt-ltb 0 (fraction_behind 10 text + exponent_behind 10 text) some i) (real_size 10 text) 0))

decimal_le : (text bytes after : List ℕ) → text ≡ bytes ++ after → IsDecimalFloat bytes → length bytes ≤ decimal_float_size text
decimal_le text bytes after is h =
    let c = covers 10 text bytes after h.0 marked10 is in
    let first : get_or text 0 0 ≡ get_or bytes 0 0 = ap (λ l. get_or l 0 0) is ∙ first_append bytes after (real_some 10 bytes h.0) in
    let other : (get_or text 0 0 == 95) ≡ false = ne_eqb (get_or text 0 0) 95 (λ e. h.1 (sym first ∙ e)) in
    let some : 0 < fraction_behind 10 text + exponent_behind 10 text =
    ⊎_elim (λ f. let s = c.fraction f in omega (arith, s)) (λ f. let s = c.exponent (let t = h.2 in omega (arith, t, f)) in omega (arith, s)) (cases_lt 0 (length h.0.fraction)) in
    let long = c.long in
    omega (arith, long, decimal_size text other c.digit some)

hex_size : (t : List ℕ) (letter : ℕ) → (letter == 120 || letter == 88) ≡ true → has_digit 16 t ≡ true → 0 < exponent_behind 16 t → hex_float_size (48 ∷ letter ∷ t) ≡ 2 + real_size 16 t
unfolding hex_float_size
hex_size t letter is_x digit some =
    (λ i. cond (is_x i) (cond (digit i && lt-ltb 0 (exponent_behind 16 t) some i) (2 + real_size 16 t) 0) 0)

hex_le : (text bytes after : List ℕ) → text ≡ bytes ++ after → IsHexFloat bytes → length bytes ≤ hex_float_size text
hex_le text bytes after is h =
    let t : text ≡ 48 ∷ h.0 ∷ (h.1 ++ after) = is ∙ ap (λ l. l ++ after) h.2 in
    let c = covers 16 (h.1 ++ after) h.1 after h.4 marked16 refl in
    let is_x : (h.0 == 120 || h.0 == 88) ≡ true = ⊎_elim (λ e. ap (λ n. n == 120 || n == 88) e) (λ e. ap (λ n. n == 120 || n == 88) e) h.3 in
    let size = ap hex_float_size t ∙ hex_size (h.1 ++ after) h.0 is_x c.digit (c.exponent h.5) in
    let long = c.long in
    omega (arith, long, size, ap length h.2)

pub float_le : (text bytes after : List ℕ) → text ≡ bytes ++ after → IsFloat bytes → length bytes ≤ float_size text
unfolding float_size
float_le text bytes after is h =
    ⊎_elim
    (λ d. let le = decimal_le text bytes after is d in omega (arith, le))
    (λ x. let le = hex_le text bytes after is x in omega (arith, le))
    h

pub float_some : (bytes : List ℕ) → IsFloat bytes → 0 < length bytes
float_some bytes h = ⊎_elim (λ d. real_some 10 bytes d.0) (λ x. let long = ap length x.2 in omega (arith, long)) h

-- ---- the parts at the front are those of a float

fraction_size-within : (base : ℕ) (t : List ℕ) → fraction_size base t ≤ length t
unfolding fraction_size
fraction_size-within base [] = omega arith
fraction_size-within base (c ∷ cs) =
    let le = run_size-within base cs in
    cond_both (c == 46) (1 + run_size base cs) 0 (λ n. n ≤ length (c ∷ cs)) (λ e. omega (arith, le)) (λ e. omega arith)

exponent_size-within : (base : ℕ) (t : List ℕ) → exponent_size base t ≤ length t
unfolding exponent_size
exponent_size-within base t =
    let s : ℕ = sign_size (drop 1 t) in
    let d : ℕ = run_size 10 (drop (1 + s) t) in
    let le = run_size-within 10 (drop (1 + s) t) in
    let rest = length-drop (1 + s) t in
    cond_both (marks_exponent base (get_or t 0 0) && nat_lt 0 d) (1 + s + d) 0 (λ n. n ≤ length t)
    (λ e. let some = ltb-true 0 d (and_parts (marks_exponent base (get_or t 0 0)) (nat_lt 0 d) e).1 in omega (arith, le, rest, some)) (λ e. omega arith)

fraction_front : (base : ℕ) (t : List ℕ) → IsBase base → (take (fraction_size base t) t ≡ []) ⊎ IsFraction base (take (fraction_size base t) t)
unfolding fraction_size
fraction_front base [] none = inl refl
fraction_front base (c ∷ cs) none =
    let r : ℕ = run_size base cs in
    ⊎_elim
    (λ point.
    let more : 1 + r ≡ suc r = omega arith in
    let size : cond (c == 46) (1 + r) 0 ≡ suc r = ap (λ b. cond b (1 + r) 0) point ∙ more in
    let whole : take (cond (c == 46) (1 + r) 0) (c ∷ cs) ≡ 46 ∷ take r cs = ap (λ k. take k (c ∷ cs)) size ∙ ap (λ b. b ∷ take r cs) (eqb-true c 46 point) in
    inr (take r cs, whole, ⊎_elim (λ some. inr (run-front base cs none some)) (λ zeroed. let z : r ≡ 0 = omega arith in inl (ap (λ k. take k cs) z)) (cases_lt 0 r)))
    (λ other. inl (ap (λ b. take (cond b (1 + r) 0) (c ∷ cs)) other))
    (cases_Bool (c == 46))

sign_front : (t : List ℕ) → (take (sign_size t) t ≡ []) ⊎ ((take (sign_size t) t ≡ 43 ∷ []) ⊎ (take (sign_size t) t ≡ 45 ∷ []))
sign_front [] = inl refl
sign_front (c ∷ cs) =
    ⊎_elim
    (λ sign. ⊎_elim
    (λ plus. let e = eqb-true c 43 plus in inr (inl (ap (λ b. take (cond b 1 0) (c ∷ cs)) sign ∙ ap (λ b. b ∷ []) e)))
    (λ minus. let e = eqb-true c 45 minus in inr (inr (ap (λ b. take (cond b 1 0) (c ∷ cs)) sign ∙ ap (λ b. b ∷ []) e)))
    (or_cases (c == 43) (c == 45) sign))
    (λ other. inl (ap (λ b. take (cond b 1 0) (c ∷ cs)) other))
    (cases_Bool (c == 43 || c == 45))

exponent_none : (base x : ℕ) (t : List ℕ) → marks_exponent base x ≡ false → exponent_size base (x ∷ t) ≡ 0
unfolding exponent_size
exponent_none base x t other =
    let s : ℕ = sign_size t in
    let d : ℕ = run_size 10 (drop (1 + s) (x ∷ t)) in
    ap (λ b. cond (b && nat_lt 0 d) (1 + s + d) 0) other

exponent_bare : (base x : ℕ) (t : List ℕ) → marks_exponent base x ≡ true → run_size 10 (drop (sign_size t) t) ≡ 0 → exponent_size base (x ∷ t) ≡ 0
unfolding exponent_size
exponent_bare base x t is_e none =
    let s : ℕ = sign_size t in
    let place : 1 + s ≡ suc s = omega arith in
    let zeroed : run_size 10 (drop (1 + s) (x ∷ t)) ≡ 0 = ap (λ k. run_size 10 (drop k (x ∷ t))) place ∙ none in
    (λ i. cond (is_e i && nat_lt 0 (zeroed i)) (1 + s + zeroed i) 0)

exponent_front : (base : ℕ) (t : List ℕ) → (take (exponent_size base t) t ≡ []) ⊎ IsExponent base (take (exponent_size base t) t)
exponent_front base [] =
    let le = exponent_size-within base [] in
    let z : exponent_size base [] ≡ 0 = omega (arith, le) in
    inl (ap (λ k. take k []) z)
exponent_front base (x ∷ t) =
    let s : ℕ = sign_size t in
    let d : ℕ = run_size 10 (drop s t) in
    ⊎_elim
    (λ is_e. ⊎_elim
    (λ some.
    let more : 1 + s + d ≡ suc (s + d) = omega arith in
    let size : exponent_size base (x ∷ t) ≡ suc (s + d) = exponent_here base x s t is_e refl some ∙ more in
    let whole : take (exponent_size base (x ∷ t)) (x ∷ t) ≡ x ∷ (take s t ++ take d (drop s t)) = ap (λ k. take k (x ∷ t)) size ∙ ap (λ l. x ∷ l) (take-add s d t) in
    inr (x, take s t, take d (drop s t), whole, is_e, sign_front t, run-front 10 (drop s t) refl some))
    (λ none. let z : d ≡ 0 = omega arith in inl (ap (λ k. take k (x ∷ t)) (exponent_bare base x t is_e z)))
    (cases_lt 0 d))
    (λ other. inl (ap (λ k. take k (x ∷ t)) (exponent_none base x t other)))
    (cases_Bool (marks_exponent base x))

-- the parts at the front, where there is a digit
record Front (base : ℕ) (text bytes : List ℕ) : Type 0 where
  pub real : IsReal base bytes
  pub fraction : length real.fraction ≡ fraction_behind base text
  pub exponent : length real.exponent ≡ exponent_behind base text

real_front : (base : ℕ) (text : List ℕ) → IsBase base → has_digit base text ≡ true → Front base text (take (real_size base text) text)
unfolding has_digit real_size fraction_behind exponent_behind
real_front base text none digit =
    let w : ℕ = digits_size base text in
    let f : ℕ = fraction_size base (drop w text) in
    let x : ℕ = exponent_size base (drop (w + f) text) in
    let w_le = digits_size-within base text in
    let f_le = fraction_size-within base (drop w text) in
    let x_le = exponent_size-within base (drop (w + f) text) in
    let w_rest = length-drop w text in
    let f_rest = length-drop (w + f) text in
    let f_within : f ≤ length (drop w text) = f_le in
    let f_long : length (take f (drop w text)) ≡ f = length-take-le f (drop w text) f_within in
    let x_long : length (take x (drop (w + f) text)) ≡ x = length-take-le x (drop (w + f) text) x_le in
    let w_long : length (take w text) ≡ w = length-take-le w text w_le in
    record {
      real = record {
        whole = take w text;
        fraction = take f (drop w text);
        exponent = take x (drop (w + f) text);
        parts = take-add (w + f) x text ∙ ap (λ l. l ++ take x (drop (w + f) text)) (take-add w f text) ∙ append_assoc (take w text) (take f (drop w text)) (take x (drop (w + f) text));
        is_whole = are_digits-front base text none;
        is_fraction = fraction_front base (drop w text) none;
        is_exponent = exponent_front base (drop (w + f) text);
        some = ⊎_elim
            (λ a. let s = ltb-true 0 w a in inl (omega (arith, s, w_long)))
            (λ b. let s = ltb-true 1 f b in inr (omega (arith, s, f_long)))
            (or_cases (nat_lt 0 w) (nat_lt 1 f) digit);
      };
      fraction = f_long;
      exponent = x_long;
    }

real_size-within : (base : ℕ) (text : List ℕ) → real_size base text ≤ length text
unfolding real_size fraction_behind exponent_behind
real_size-within base text =
    let w : ℕ = digits_size base text in
    let f : ℕ = fraction_size base (drop w text) in
    let w_le = digits_size-within base text in
    let f_le = fraction_size-within base (drop w text) in
    let x_le = exponent_size-within base (drop (w + f) text) in
    omega (arith, w_le, f_le, x_le, length-drop w text, length-drop (w + f) text)

decimal_front : (text : List ℕ) → 0 < decimal_float_size text → IsDecimalFloat (take (decimal_float_size text) text)
unfolding decimal_float_size
decimal_front text some =
    let rest : ℕ = cond (has_digit 10 text && nat_lt 0 (fraction_behind 10 text + exponent_behind 10 text)) (real_size 10 text) 0 in
    ⊎_elim
    (λ mark. absurd (let z : cond (get_or text 0 0 == 95) 0 rest ≡ 0 = ap (λ b. cond b 0 rest) mark in omega (arith, some, z)))
    (λ other.
    let here : cond (get_or text 0 0 == 95) 0 rest ≡ rest = ap (λ b. cond b 0 rest) other in
    ⊎_elim
    (λ test.
    let both = and_parts (has_digit 10 text) (nat_lt 0 (fraction_behind 10 text + exponent_behind 10 text)) test in
    let size : cond (get_or text 0 0 == 95) 0 rest ≡ real_size 10 text = here ∙ ap (λ b. cond b (real_size 10 text) 0) test in
    let front = real_front 10 text refl both.0 in
    let more = ltb-true 0 (fraction_behind 10 text + exponent_behind 10 text) both.1 in
    let a = front.fraction in
    let b = front.exponent in
    let first = first_kept text (real_size 10 text) (omega (arith, some, size)) in
    subst (λ k. IsDecimalFloat (take k text)) (sym size)
    (front.real, (λ e. false≢true (sym other ∙ ap (λ n. n == 95) (sym first ∙ e))), omega (arith, more, a, b)))
    (λ not. absurd (let z : cond (get_or text 0 0 == 95) 0 rest ≡ 0 = here ∙ ap (λ b. cond b (real_size 10 text) 0) not in omega (arith, some, z)))
    (cases_Bool (has_digit 10 text && nat_lt 0 (fraction_behind 10 text + exponent_behind 10 text))))
    (cases_Bool (get_or text 0 0 == 95))

two_more : (n a b : ℕ) (t : List ℕ) → take (2 + n) (a ∷ b ∷ t) ≡ a ∷ b ∷ take n t
two_more n a b t = let e : 2 + n ≡ suc (suc n) = omega arith in ap (λ i. take i (a ∷ b ∷ t)) e

hex_front : (text : List ℕ) → 0 < hex_float_size text → IsHexFloat (take (hex_float_size text) text)
unfolding hex_float_size
hex_front [] some = absurd (omega (arith, some))
hex_front (a ∷ []) some =
    absurd (let test : (a == 48 && false) ≡ false = elim (a == 48) as (λ v. (v && false) ≡ false) [ true ↦ refl | false ↦ refl ] in
    let z : hex_float_size (a ∷ []) ≡ 0 = ap (λ b. cond b (cond (has_digit 16 [] && nat_lt 0 (exponent_behind 16 [])) (2 + real_size 16 []) 0) 0) test in omega (arith, some, z))
hex_front (a ∷ b ∷ t) some =
    let inner : ℕ = cond (has_digit 16 t && nat_lt 0 (exponent_behind 16 t)) (2 + real_size 16 t) 0 in
    ⊎_elim
    (λ begins.
    let parts = and_parts (a == 48) (b == 120 || b == 88) begins in
    ⊎_elim
    (λ test.
    let both = and_parts (has_digit 16 t) (nat_lt 0 (exponent_behind 16 t)) test in
    let size : hex_float_size (a ∷ b ∷ t) ≡ 2 + real_size 16 t = ap (λ v. cond v inner 0) begins ∙ ap (λ v. cond v (2 + real_size 16 t) 0) test in
    let front = real_front 16 t refl both.0 in
    let more = ltb-true 0 (exponent_behind 16 t) both.1 in
    let long = front.exponent in
    let whole : take (2 + real_size 16 t) (a ∷ b ∷ t) ≡ 48 ∷ b ∷ take (real_size 16 t) t = two_more (real_size 16 t) a b t ∙ ap (λ c. c ∷ b ∷ take (real_size 16 t) t) (eqb-true a 48 parts.0) in
    subst (λ k. IsHexFloat (take k (a ∷ b ∷ t))) (sym size)
    (b, take (real_size 16 t) t, whole, ⊎_elim (λ e. inl (eqb-true b 120 e)) (λ e. inr (eqb-true b 88 e)) (or_cases (b == 120) (b == 88) parts.1), front.real, omega (arith, more, long)))
    (λ not. absurd (let z : hex_float_size (a ∷ b ∷ t) ≡ 0 = ap (λ v. cond v inner 0) begins ∙ ap (λ v. cond v (2 + real_size 16 t) 0) not in omega (arith, some, z)))
    (cases_Bool (has_digit 16 t && nat_lt 0 (exponent_behind 16 t))))
    (λ other. absurd (let z : hex_float_size (a ∷ b ∷ t) ≡ 0 = ap (λ v. cond v inner 0) other in omega (arith, some, z)))
    (cases_Bool (a == 48 && (b == 120 || b == 88)))

pub float_front : (text : List ℕ) → 0 < float_size text → IsFloat (take (float_size text) text)
unfolding float_size
float_front text some =
    let d : ℕ = decimal_float_size text in
    let x : ℕ = hex_float_size text in
    ⊎_elim
    (λ less. let e : max d x ≡ x = omega (arith, less) in subst (λ k. IsFloat (take k text)) (sym e) (inr (hex_front text (omega (arith, some, e)))))
    (λ more. let e : max d x ≡ d = omega (arith, more) in subst (λ k. IsFloat (take k text)) (sym e) (inl (decimal_front text (omega (arith, some, e)))))
    (cases_lt d x)
