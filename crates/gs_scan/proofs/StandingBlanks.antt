-- A separator or a comment stands at its place.
use Rattle.std.proofs.Common.{◌≡◌, ℕ, ◌<◌, ◌≤◌, Bool, true, false, not, ◌||◌, ◌==◌, List, [], ◌∷◌, ◌++◌, length, take, drop, get_or, sym, refl, ap, ◌∙◌, subst, ⊎_elim, inl, inr, arith, IsUtf8, take-append-drop, length-take-le, nat_lt}
use Rattle.std.specs.Prelude.{◌⊎◌}
use Rattle.std.specs.Str.{IsCharBoundary}
use Rattle.std.proofs.lemmas.Bool.{false≢true, or_cases, cases_lt, le-leb, eqb-true, ltb-true}
use Rattle.ucd_table.proofs.TrieCheck.{all_below, all_below-at}
use Rattle.std.proofs.lemmas.Str.{IsCharBoundary-after_ascii, encode_ascii}
use Rattle.std.specs.Char.{is_ascii_alphabetic}
use Rattle.gs_scan.proofs.WordLemmas.{is_letter_ascii}
use Rattle.gs_scan.specs.declared.class.Class.{Class}
use Rattle.gs_scan.specs.declared.class.Class.TheVariants as class
use Rattle.gs_syntax.specs.declared.token.TokenKind.TheVariants as kind
use Rattle.gs_syntax.specs.Spelling.{Lexeme, Blank, LineEnd, Token, Spells, StandsAt}
use Rattle.gs_syntax.specs.Numbers.{IsSpoiled}
use Rattle.gs_scan.specs.Reading.{class_of, is_number_class, BeginsWithLetter}
use Rattle.gs_scan.proofs.FirstLemmas.{may_begin, first_of, number_begins}

-- ---- a byte by its class

abbrev pub class_is : Class → Class → Bool
class_is class.Space class.Space = true
class_is class.LineFeed class.LineFeed = true
class_is class.Letter class.Letter = true
class_is class.Wide class.Wide = true
class_is class.Digit class.Digit = true
class_is class.Dot class.Dot = true
class_is class.Quote class.Quote = true
class_is class.Apostrophe class.Apostrophe = true
class_is class.BackQuote class.BackQuote = true
class_is class.Slash class.Slash = true
class_is class.Mark class.Mark = true
class_is _ _ = false

class_is-same : (k : Class) → class_is k k ≡ true
class_is-same class.Space = refl
class_is-same class.LineFeed = refl
class_is-same class.Letter = refl
class_is-same class.Wide = refl
class_is-same class.Digit = refl
class_is-same class.Dot = refl
class_is-same class.Quote = refl
class_is-same class.Apostrophe = refl
class_is-same class.BackQuote = refl
class_is-same class.Slash = refl
class_is-same class.Mark = refl

-- a byte of a class that is not Wide is one that the test accepts
pub by_class : (k : Class) (test : ℕ → Bool) → class_is k class.Wide ≡ false → all_below (λ x. not (class_is (class_of x) k) || test x) 128 ≡ true → (b : ℕ) → class_of b ≡ k → test b ≡ true
by_class k test narrow ok b h = ⊎_elim
    (λ low. sym (ap (λ x. not x || test b) (ap (λ j. class_is j k) h ∙ class_is-same k)) ∙ all_below-at (λ x. not (class_is (class_of x) k) || test x) 128 b ok low)
    (λ high. let wide : class_of b ≡ class.Wide = rw (le-leb 128 b high) refl in
    absurd (false≢true (sym narrow ∙ ap (λ j. class_is j class.Wide) (sym h ∙ wide))))
    (cases_lt b 128)

-- the class of the first byte, by what a front of the text begins with
pub class_taken : (text : List ℕ) (m b : ℕ) (more : List ℕ) → take m text ≡ b ∷ more → class_of (get_or text 0 0) ≡ class_of b
class_taken text m b more e = ap (λ l. class_of (get_or l 0 0)) (sym (take-append-drop m text) ∙ ap (λ l. l ++ drop m text) e)

-- a front that begins with a byte of another class
pub not_here : (k : Class) (text : List ℕ) (m b : ℕ) (more : List ℕ) → class_of (get_or text 0 0) ≡ k → take m text ≡ b ∷ more → class_is (class_of b) k ≡ false → ⊥
not_here k text m b more here e other =
    false≢true (sym other ∙ ap (λ j. class_is j k) (sym (class_taken text m b more e) ∙ here) ∙ class_is-same k)

-- a spoiled number begins with a byte of a number
pub spoiled_here : (k : Class) (text : List ℕ) (m : ℕ) → class_of (get_or text 0 0) ≡ k → is_number_class k ≡ false → IsSpoiled (take m text) → ⊥
spoiled_here k text m here other s =
    let p = number_begins s.0 s.2 in
    false≢true (sym other ∙ ap is_number_class (sym here ∙ class_taken text m p.0 (p.1 ++ s.1) (s.4 ∙ ap (λ l. l ++ s.1) p.2)) ∙ p.3)

one_byte : (text : List ℕ) (b : ℕ) → get_or text 0 0 ≡ b → 0 < length text → take 1 text ≡ b ∷ []
one_byte [] b e some = absurd (omega arith)
one_byte (a ∷ text) b e some = ap (λ x. x ∷ []) e

abbrev is_space : ℕ → Bool
is_space b = b == 9 || (b == 13 || b == 32)

abbrev is_blank : Lexeme → Bool
is_blank Blank = true
is_blank _ = false

blank_of : (what : Lexeme) → may_begin what class.Space ≡ true → is_blank what ≡ true
blank_of Blank h = refl
blank_of LineEnd h = h
blank_of (Token (kind.Identifier name)) h = h
blank_of (Token kind) h = h

abbrev is_line : Lexeme → Bool
is_line LineEnd = true
is_line _ = false

line_of : (what : Lexeme) → may_begin what class.LineFeed ≡ true → is_line what ≡ true
line_of LineEnd h = refl
line_of Blank h = h
line_of (Token (kind.Identifier name)) h = h
line_of (Token kind) h = h

space_longest : (text : List ℕ) → class_of (get_or text 0 0) ≡ class.Space → (m : ℕ) (other : Lexeme) → m ≤ length text → Spells other (take m text) → (m < 1) ⊎ ((m ≡ 1) × (other ≡ Blank))
space_longest text space m Blank within h =
    let long = length-take-le m text within in
    ⊎_elim
    (λ s. ⊎_elim (λ e. inr (omega (arith, ap length e, long), refl)) (λ t. ⊎_elim (λ e. inr (omega (arith, ap length e, long), refl)) (λ e. inr (omega (arith, ap length e, long), refl)) t) s)
    (λ c. ⊎_elim (λ line. absurd (let e = sym space ∙ class_taken text m 47 _ line.1 in cc)) (λ block. absurd (let e = sym space ∙ class_taken text m 47 _ block.0.1 in cc)) c)
    h
space_longest text space m other within h = absurd (false≢true (blank_of other (subst (λ x. may_begin other x ≡ true) space (first_of text m other h))))

pub space_stands : (text : List ℕ) → 0 < length text → class_of (get_or text 0 0) ≡ class.Space → StandsAt text Blank 1
unfolding all_below
space_stands text some space =
    let b : ℕ = get_or text 0 0 in
    let test = by_class class.Space is_space refl refl b space in
    inl (record {
      some = omega arith;
      within = omega arith;
      spells = inl (⊎_elim (λ e. inl (one_byte text 9 (eqb-true b 9 e) some))
          (λ more. inr (⊎_elim (λ e. inl (one_byte text 13 (eqb-true b 13 e) some)) (λ e. inr (one_byte text 32 (eqb-true b 32 e) some)) (or_cases (b == 13) (b == 32) more)))
          (or_cases (b == 9) (b == 13 || b == 32) test));
      longest = space_longest text space;
    })

line_longest : (text : List ℕ) → class_of (get_or text 0 0) ≡ class.LineFeed → (m : ℕ) (other : Lexeme) → m ≤ length text → Spells other (take m text) → (m < 1) ⊎ ((m ≡ 1) × (other ≡ LineEnd))
line_longest text line m LineEnd within h =
    ⊎_elim (λ e. let long = length-take-le m text within in inr (omega (arith, ap length e, long), refl))
    (λ c. absurd (let e = sym line ∙ class_taken text m 47 _ c.0.1 in cc)) h
line_longest text line m other within h = absurd (false≢true (line_of other (subst (λ x. may_begin other x ≡ true) line (first_of text m other h))))

pub line_stands : (text : List ℕ) → 0 < length text → class_of (get_or text 0 0) ≡ class.LineFeed → StandsAt text LineEnd 1
unfolding all_below
line_stands text some line =
    inl (record {
      some = omega arith;
      within = omega arith;
      spells = inl (one_byte text 10 (eqb-true (get_or text 0 0) 10 (by_class class.LineFeed (λ b. b == 10) refl refl (get_or text 0 0) line)) some);
      longest = line_longest text line;
    })

pub byte_boundary : (text : List ℕ) (k : Class) → IsUtf8 text → 0 < length text → class_is k class.Wide ≡ false → class_of (get_or text 0 0) ≡ k → IsCharBoundary text 1
byte_boundary text k utf8 some narrow h =
    ⊎_elim (λ low. IsCharBoundary-after_ascii text 0 utf8 some low)
    (λ high. let wide : class_of (get_or text 0 0) ≡ class.Wide = rw (le-leb 128 (get_or text 0 0) high) refl in
    absurd (false≢true (sym narrow ∙ ap (λ j. class_is j class.Wide) (sym h ∙ wide))))
    (cases_lt (get_or text 0 0) 128)

-- a text whose first byte is of the class Letter begins with a letter
pub letter_text : (text : List ℕ) → class_of (get_or text 0 0) ≡ class.Letter → BeginsWithLetter text
unfolding all_below
letter_text [] h = cc
letter_text (b ∷ text) h =
    let test : (is_ascii_alphabetic b || b == 95) ≡ true = by_class class.Letter (λ x. is_ascii_alphabetic x || x == 95) refl refl b h in
    let below : b < 128 = ltb-true b 128 (by_class class.Letter (λ x. nat_lt x 128) refl refl b h) in
    (b, text, is_letter_ascii b below ∙ test, ap (λ l. l ++ text) (sym (encode_ascii b below)))
