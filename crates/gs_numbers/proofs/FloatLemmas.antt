-- The longest float at the front of a text.
use Rattle.std.proofs.Common.{◌≡◌, ℕ, zero, suc, ◌+◌, ◌<◌, ◌≤◌, true, false, ◌&&◌, ◌||◌, ◌==◌, cond, List, [], ◌∷◌, ◌++◌, length, drop, get_or, sym, refl, ap, ◌∙◌, ⊎_elim, inr, arith, append_assoc, length-append, nat_lt}
use Rattle.std.specs.Char.{is_digit}
use Rattle.std.proofs.Math.Seq.{drop-append_seam}
use Rattle.std.proofs.lemmas.Bool.{false≢true, or_cases, cases_lt, ne_eqb, eqb-true, lt-ltb}
use Rattle.gs_syntax.specs.Digits.{IsDigits}
use Rattle.gs_syntax.specs.Floats.{marks_exponent, IsExponent, IsFraction, IsReal}
use Rattle.gs_numbers.specs.Reading.{digits_size, run_size, sign_size, exponent_size, fraction_size, fraction_behind, exponent_behind, has_digit, real_size}
use Rattle.gs_numbers.proofs.DigitLemmas.{IsBase, among, Ends, run_ends, run_le, run_of, run_most, digits_some}

-- what is asked of a base: its exponent's letter and the point end digits
pub record Marked (base : ℕ) : Type 0 where
  pub none : IsBase base
  pub dot : among base 46 ≡ false
  pub letter : (c : ℕ) → marks_exponent base c ≡ true → (among base c ≡ false) × ((c == 46) ≡ false)

pub letter10 : (c : ℕ) → marks_exponent 10 c ≡ true → (among 10 c ≡ false) × ((c == 46) ≡ false)
letter10 c h =
    ⊎_elim
    (λ e. let is = eqb-true c 101 e in (ap (among 10) is, ap (λ n. n == 46) is))
    (λ e. let is = eqb-true c 69 e in (ap (among 10) is, ap (λ n. n == 46) is))
    (or_cases (c == 101) (c == 69) h)

pub letter16 : (c : ℕ) → marks_exponent 16 c ≡ true → (among 16 c ≡ false) × ((c == 46) ≡ false)
letter16 c h =
    ⊎_elim
    (λ e. let is = eqb-true c 112 e in (ap (among 16) is, ap (λ n. n == 46) is))
    (λ e. let is = eqb-true c 80 e in (ap (among 16) is, ap (λ n. n == 46) is))
    (or_cases (c == 112) (c == 80) h)

pub marked10 : Marked 10
marked10 = record { none = refl; dot = refl; letter = letter10 }

pub marked16 : Marked 16
marked16 = record { none = refl; dot = refl; letter = letter16 }

abbrev nothing : List ℕ
nothing = []

drop_nil : (k : ℕ) → drop k nothing ≡ nothing
drop_nil zero = refl
drop_nil (suc k) = refl

drop_drop : (p j : ℕ) (text : List ℕ) → drop j (drop p text) ≡ drop (p + j) text
drop_drop zero j text = let e : j ≡ 0 + j = omega arith in ap (λ k. drop k text) e
drop_drop (suc p) j [] = drop_nil j ∙ sym (drop_nil (suc p + j))
drop_drop (suc p) j (c ∷ cs) = drop_drop p j cs ∙ (let e : suc (p + j) ≡ suc p + j = omega arith in ap (λ k. drop k (c ∷ cs)) e)

-- ---- the exponent

no_sign : (digits rest : List ℕ) → IsDigits 10 digits → sign_size (digits ++ rest) ≡ 0
no_sign [] rest is = absurd (false≢true is.0)
no_sign (d ∷ ds) rest is =
    let plus : (d == 43) ≡ false = ne_eqb d 43 (λ e. false≢true (ap (λ x. is_digit x 10) (sym e) ∙ is.0)) in
    let minus : (d == 45) ≡ false = ne_eqb d 45 (λ e. false≢true (ap (λ x. is_digit x 10) (sym e) ∙ is.0)) in
    λ i. cond (plus i || minus i) 1 0

pub exponent_here : (base x s : ℕ) (t : List ℕ) → marks_exponent base x ≡ true → sign_size t ≡ s → 0 < run_size 10 (drop s t) → exponent_size base (x ∷ t) ≡ 1 + s + run_size 10 (drop s t)
unfolding exponent_size
exponent_here base x s t is_e sign some =
    let two : 1 + sign_size t ≡ suc s = omega (arith, sign) in
    (λ i. cond (marks_exponent base x && nat_lt 0 (run_size 10 (drop (two i) (x ∷ t)))) (1 + sign i + run_size 10 (drop (two i) (x ∷ t))) 0)
    ∙ (λ i. cond (is_e i && lt-ltb 0 (run_size 10 (drop s t)) some i) (1 + s + run_size 10 (drop s t)) 0)

exponent_le : (base : ℕ) (bytes after : List ℕ) → IsExponent base bytes → (length bytes ≤ exponent_size base (bytes ++ after)) × (0 < length bytes)
exponent_le base bytes after h =
    let x = h.0 in
    let digits = h.2 in
    let most = run_most 10 digits after refl (inr h.6) in
    let some = digits_some 10 digits refl h.6 in
    let whole : bytes ++ after ≡ x ∷ (h.1 ++ (digits ++ after)) = ap (λ l. l ++ after) h.3 ∙ ap (λ l. x ∷ l) (append_assoc h.1 digits after) in
    let long = ap length h.3 in
    ⊎_elim
    (λ none.
    let t : h.1 ++ (digits ++ after) ≡ digits ++ after = ap (λ l. l ++ (digits ++ after)) none in
    let size = exponent_here base x 0 (digits ++ after) h.4 (no_sign digits after h.6) (omega (arith, most, some)) in
    (omega (arith, long, length-append h.1 digits, ap length none, ap (exponent_size base) (whole ∙ ap (λ l. x ∷ l) t), size, most), omega (arith, long)))
    (λ sign.
    let one : (c : ℕ) × (h.1 ≡ c ∷ []) × (sign_size (c ∷ (digits ++ after)) ≡ 1) = ⊎_elim (λ e. (43, e, refl)) (λ e. (45, e, refl)) sign in
    let t : h.1 ++ (digits ++ after) ≡ one.0 ∷ (digits ++ after) = ap (λ l. l ++ (digits ++ after)) one.1 in
    let size = exponent_here base x 1 (one.0 ∷ (digits ++ after)) h.4 one.2 (omega (arith, most, some)) in
    (omega (arith, long, length-append h.1 digits, ap length one.1, ap (exponent_size base) (whole ∙ ap (λ l. x ∷ l) t), size, most), omega (arith, long)))
    h.5

-- an exponent ends digits, and is no point
exponent_ends : (base : ℕ) (bytes after : List ℕ) → Marked base → IsExponent base bytes → Ends base (bytes ++ after) × ((get_or (bytes ++ after) 0 0 == 46) ≡ false)
exponent_ends base bytes after marked h =
    let first : get_or (bytes ++ after) 0 0 ≡ h.0 = ap (λ l. get_or (l ++ after) 0 0) h.3 in
    let is = marked.letter h.0 h.4 in
    (ap (among base) first ∙ is.0, ap (λ n. n == 46) first ∙ is.1)

-- ---- no float at the front is longer

fraction_at : (base w : ℕ) (text t : List ℕ) → digits_size base text ≡ w → drop w text ≡ t → fraction_behind base text ≡ fraction_size base t
unfolding fraction_behind
fraction_at base w text t size rest = ap (λ k. fraction_size base (drop k text)) size ∙ ap (fraction_size base) rest

exponent_at : (base w f : ℕ) (text t : List ℕ) → digits_size base text ≡ w → fraction_behind base text ≡ f → drop (w + f) text ≡ t → exponent_behind base text ≡ exponent_size base t
unfolding exponent_behind
exponent_at base w f text t size fraction rest = (λ i. exponent_size base (drop (size i + fraction i) text)) ∙ ap (exponent_size base) rest

fraction_none : (base : ℕ) (t : List ℕ) → (get_or t 0 0 == 46) ≡ false → fraction_size base t ≡ 0
unfolding fraction_size
fraction_none base t h = ap (λ b. cond b (1 + run_size base (drop 1 t)) 0) h

fraction_point : (base : ℕ) (t : List ℕ) → fraction_size base (46 ∷ t) ≡ 1 + run_size base t
unfolding fraction_size
fraction_point base t = refl

-- the parts at the front of a text are at least those of a number there
pub record Covers (base : ℕ) (text bytes : List ℕ) (real : IsReal base bytes) : Type 0 where
  pub long : length bytes ≤ real_size base text
  pub digit : has_digit base text ≡ true
  pub fraction : 0 < length real.fraction → 0 < fraction_behind base text
  pub exponent : 0 < length real.exponent → 0 < exponent_behind base text

covers_of : (base : ℕ) (text bytes : List ℕ) (real : IsReal base bytes) (w f x : ℕ)
    → digits_size base text ≡ w → fraction_behind base text ≡ f → exponent_behind base text ≡ x
    → length real.whole ≤ w → length real.fraction ≤ f → length real.exponent ≤ x → Covers base text bytes real
unfolding has_digit real_size
covers_of base text bytes real w f x size fraction exponent a b c =
    let count : length bytes ≡ length real.whole + (length real.fraction + length real.exponent) =
    ap length real.parts ∙ length-append real.whole (real.fraction ++ real.exponent) ∙ ap (λ k. length real.whole + k) (length-append real.fraction real.exponent) in
    record {
      long = omega (arith, count, size, fraction, exponent, a, b, c);
      digit = ⊎_elim
          (λ some. ap (λ t. t || nat_lt 1 (fraction_behind base text)) (lt-ltb 0 (digits_size base text) (omega (arith, some, a, size))))
          (λ some. ⊎_elim
          (λ other. ap (λ t. t || nat_lt 1 (fraction_behind base text)) (lt-ltb 0 (digits_size base text) other))
          (λ none. let z : digits_size base text ≡ 0 = omega (arith, none) in
          ap (λ k. nat_lt 0 k || nat_lt 1 (fraction_behind base text)) z ∙ lt-ltb 1 (fraction_behind base text) (omega (arith, some, b, fraction)))
          (cases_lt 0 (digits_size base text)))
          real.some;
      fraction = λ some. omega (arith, some, fraction, b);
      exponent = λ some. omega (arith, some, exponent, c);
    }

-- digits alone
covers_whole : (base : ℕ) (text bytes after : List ℕ) (real : IsReal base bytes) → Marked base → text ≡ bytes ++ after → real.fraction ≡ [] → real.exponent ≡ [] → Covers base text bytes real
covers_whole base text bytes after real marked is no_fraction no_exponent =
    let t : text ≡ real.whole ++ ((real.fraction ++ real.exponent) ++ after) = is ∙ ap (λ l. l ++ after) real.parts ∙ append_assoc real.whole (real.fraction ++ real.exponent) after in
    let le = run_le base real.whole ((real.fraction ++ real.exponent) ++ after) marked.none real.is_whole in
    covers_of base text bytes real (digits_size base text) (fraction_behind base text) (exponent_behind base text) refl refl refl
    (omega (arith, le, ap (digits_size base) t)) (omega (arith, ap length no_fraction)) (omega (arith, ap length no_exponent))

-- digits and an exponent
covers_exponent : (base : ℕ) (text bytes after : List ℕ) (real : IsReal base bytes) → Marked base → text ≡ bytes ++ after → real.fraction ≡ [] → IsExponent base real.exponent → Covers base text bytes real
covers_exponent base text bytes after real marked is no_fraction is_exponent =
    let tail : List ℕ = real.exponent ++ after in
    let t : text ≡ real.whole ++ tail =
    is ∙ ap (λ l. l ++ after) real.parts ∙ append_assoc real.whole (real.fraction ++ real.exponent) after ∙ ap (λ l. real.whole ++ ((l ++ real.exponent) ++ after)) no_fraction in
    let ends = exponent_ends base real.exponent after marked is_exponent in
    let w : ℕ = length real.whole in
    let size : digits_size base text ≡ w = ap (digits_size base) t ∙ run_ends base real.whole tail marked.none real.is_whole ends.0 in
    let rest : drop w text ≡ tail = ap (drop w) t ∙ drop-append_seam real.whole tail in
    let fraction : fraction_behind base text ≡ 0 = fraction_at base w text tail size rest ∙ fraction_none base tail ends.1 in
    let same : w + 0 ≡ w = omega arith in
    let exponent : exponent_behind base text ≡ exponent_size base tail = exponent_at base w 0 text tail size fraction (ap (λ k. drop k text) same ∙ rest) in
    let most = exponent_le base real.exponent after is_exponent in
    covers_of base text bytes real w 0 (exponent_size base tail) size fraction exponent (omega arith) (omega (arith, ap length no_fraction)) most.0

-- digits, a point, digits, and an exponent or none
covers_fraction : (base : ℕ) (text bytes after : List ℕ) (real : IsReal base bytes) → Marked base → text ≡ bytes ++ after → IsFraction base real.fraction → Covers base text bytes real
covers_fraction base text bytes after real marked is f =
    let digits = f.0 in
    let inner : List ℕ = digits ++ (real.exponent ++ after) in
    let tail : List ℕ = 46 ∷ inner in
    let t : text ≡ real.whole ++ tail =
    is ∙ ap (λ l. l ++ after) real.parts ∙ append_assoc real.whole (real.fraction ++ real.exponent) after
    ∙ ap (λ l. real.whole ++ l) (append_assoc real.fraction real.exponent after ∙ ap (λ l. l ++ (real.exponent ++ after)) f.1) in
    let w : ℕ = length real.whole in
    let size : digits_size base text ≡ w = ap (digits_size base) t ∙ run_ends base real.whole tail marked.none real.is_whole marked.dot in
    let rest : drop w text ≡ tail = ap (drop w) t ∙ drop-append_seam real.whole tail in
    let fraction : fraction_behind base text ≡ 1 + run_size base inner = fraction_at base w text tail size rest ∙ fraction_point base inner in
    let long = ap length f.1 in
    ⊎_elim
    (λ none.
    let most = run_most base digits (real.exponent ++ after) marked.none f.2 in
    covers_of base text bytes real w (1 + run_size base inner) (exponent_behind base text) size fraction refl (omega arith) (omega (arith, most, long)) (omega (arith, ap length none)))
    (λ is_exponent.
    let ends = exponent_ends base real.exponent after marked is_exponent in
    let run : run_size base inner ≡ length digits = run_of base digits (real.exponent ++ after) marked.none f.2 ends.0 in
    let exact : fraction_behind base text ≡ suc (length digits) = omega (arith, fraction, run) in
    let behind : drop (w + suc (length digits)) text ≡ real.exponent ++ after =
    sym (drop_drop w (suc (length digits)) text) ∙ ap (drop (suc (length digits))) rest ∙ drop-append_seam digits (real.exponent ++ after) in
    let exponent : exponent_behind base text ≡ exponent_size base (real.exponent ++ after) = exponent_at base w (suc (length digits)) text (real.exponent ++ after) size exact behind in
    let most = exponent_le base real.exponent after is_exponent in
    covers_of base text bytes real w (suc (length digits)) (exponent_size base (real.exponent ++ after)) size exact exponent (omega arith) (omega (arith, long)) most.0)
    real.is_exponent

pub covers : (base : ℕ) (text bytes after : List ℕ) (real : IsReal base bytes) → Marked base → text ≡ bytes ++ after → Covers base text bytes real
covers base text bytes after real marked is =
    ⊎_elim
    (λ none. ⊎_elim
    (λ bare. covers_whole base text bytes after real marked is none bare)
    (λ e. covers_exponent base text bytes after real marked is none e)
    real.is_exponent)
    (λ f. covers_fraction base text bytes after real marked is f)
    real.is_fraction
