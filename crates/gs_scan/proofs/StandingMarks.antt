-- An operator is the longest that stands at its place, or a character stands alone.
use Rattle.std.proofs.Common.{◌≡◌, ℕ, ◌<◌, ◌≤◌, true, List, [], ◌∷◌, ◌++◌, length, take, drop, get_or, sym, refl, ap, ◌∙◌, subst, ⊎_elim, inl, inr, arith, IsUtf8, Some, None, take-append-drop, length-take-le, length-take}
use Rattle.std.specs.Prelude.{◌⊎◌, encode_utf8}
use Rattle.std.specs.Str.{IsCharBoundary}
use Rattle.std.proofs.lemmas.Bool.{false≢true, cases_lt, le-leb}
use Rattle.std.proofs.lemmas.Str.{encode_ascii, IsCharBoundary-after_ascii}
use Rattle.gs_syntax.specs.declared.token.Operator.{Operator}
use Rattle.gs_scan.specs.declared.class.Class.TheVariants as class
use Rattle.gs_syntax.specs.Kinds.{operator_text}
use Rattle.gs_syntax.specs.declared.token.TokenKind.TheVariants as kind
use Rattle.gs_syntax.specs.Spelling.{Lexeme, Token, Spells, StandsAt}
use Rattle.gs_scan.specs.Reading.{class_of, is_mark, OnlyMarks}
use Rattle.gs_scan.proofs.MarkLemmas.{read_at, Found, found, Better, better, ascii_boundary, operator_ascii}
use Rattle.gs_scan.proofs.FirstLemmas.{may_begin, first_of}

-- an operator that stands at the front is what is read there, or shorter
pub spelled_better : (text : List ℕ) (m : ℕ) (o : Operator) → m ≤ length text → take m text ≡ operator_text o → Better o (read_at text) × (length (operator_text o) ≡ m)
spelled_better text m o within spelled =
    let whole : operator_text o ++ drop m text ≡ text = ap (λ l. l ++ drop m text) (sym spelled) ∙ take-append-drop m text in
    (subst (λ t. Better o (read_at t)) whole (better o (drop m text)), ap length (sym spelled) ∙ length-take-le m text within)

mark_longest : (text : List ℕ) (o : Operator) (n : ℕ) → OnlyMarks text → read_at text ≡ Some (o, n)
    → (m : ℕ) (other : Lexeme) → m ≤ length text → Spells other (take m text) → (m < n) ⊎ ((m ≡ n) × (other ≡ Token (kind.Operator o)))
mark_longest text o n only is m (Token (kind.Operator p)) within h =
    let b = spelled_better text m p within h in
    let same : Some b.0.0 ≡ Some (o, n) = sym b.0.1 ∙ is in
    let pair : b.0.0 ≡ (o, n) = cc in
    let size : b.0.0.1 ≡ n = ap (λ x. x.1) pair in
    ⊎_elim (λ less. inl (omega (arith, less, b.1, size)))
    (λ other. inr (omega (arith, other.0, b.1, size), ap (λ x. Token (kind.Operator x)) (other.1 ∙ ap (λ x. x.0) pair)))
    b.0.2
mark_longest text o n only is m other within h = absurd (false≢true (only.marks m other within h))

found_at : (text : List ℕ) → Found text (read_at text)
found_at text = found text _ _ _ refl refl refl

within_text : (text bytes : List ℕ) (n : ℕ) → take n text ≡ bytes → n ≡ length bytes → n ≤ length text
within_text text bytes n e long = omega (arith, ap length e, length-take n text, long)

pub mark_stands : (text : List ℕ) (o : Operator) (n : ℕ) → OnlyMarks text → read_at text ≡ Some (o, n) → StandsAt text (Token (kind.Operator o)) n
mark_stands text o n only is =
    let f = subst (Found text) is (found_at text) in
    inl (record {
      some = f.0;
      within = within_text text (operator_text o) n f.2 f.1;
      spells = f.2;
      longest = mark_longest text o n only is;
    })

pub mark_boundary : (text : List ℕ) (o : Operator) (n : ℕ) → IsUtf8 text → read_at text ≡ Some (o, n) → IsCharBoundary text n
mark_boundary text o n utf8 is =
    let f = subst (Found text) is (found_at text) in
    ascii_boundary text (operator_text o) n utf8 (within_text text (operator_text o) n f.2 f.1) f.2 (operator_ascii o)

no_mark : (text : List ℕ) → OnlyMarks text → read_at text ≡ None → (m : ℕ) (other : Lexeme) → m ≤ length text → Spells other (take m text) → ⊥
no_mark text only none m (Token (kind.Operator p)) within h =
    let b = spelled_better text m p within h in
    let same : Some b.0.0 ≡ None = sym b.0.1 ∙ none in cc
no_mark text only none m other within h = absurd (false≢true (only.marks m other within h))

one_char : (text : List ℕ) → 0 < length text → get_or text 0 0 < 128 → take 1 text ≡ encode_utf8 (get_or text 0 0)
one_char [] some below = absurd (omega arith)
one_char (b ∷ text) some below = sym (encode_ascii b below)

pub stray_stands : (text : List ℕ) → OnlyMarks text → read_at text ≡ None → StandsAt text (Token kind.Bad) 1
stray_stands text only none =
    inr (record {
      some = omega arith;
      within = let h = only.some in omega arith;
      nothing = no_mark text only none;
      bad = refl;
      character = (get_or text 0 0, one_char text only.some only.ascii);
    })

pub stray_boundary : (text : List ℕ) → IsUtf8 text → OnlyMarks text → IsCharBoundary text 1
stray_boundary text utf8 only = IsCharBoundary-after_ascii text 0 utf8 only.some only.ascii

mark_of : (what : Lexeme) → may_begin what class.Mark ≡ true → is_mark what ≡ true
mark_of (Token (kind.Operator o)) h = refl
mark_of what h = h

below_mark : (b : ℕ) → class_of b ≡ class.Mark → b < 128
below_mark b h = ⊎_elim (λ less. less) (λ above. let k : class_of b ≡ class.Wide = rw (le-leb 128 b above) refl in let bad : class.Wide ≡ class.Mark = sym k ∙ h in cc) (cases_lt b 128)

-- behind a byte of the class Mark only operators may stand
pub only_marks : (text : List ℕ) → 0 < length text → class_of (get_or text 0 0) ≡ class.Mark → OnlyMarks text
only_marks text some e = record {
  some = some;
  ascii = below_mark (get_or text 0 0) e;
  marks = λ m other within h. mark_of other (subst (λ x. may_begin other x ≡ true) e (first_of text m other h));
}
