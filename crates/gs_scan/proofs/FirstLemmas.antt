-- What the first byte says of what is spelled.
use Rattle.std.proofs.Common.{◌≡◌, ℕ, ◌<◌, ◌≤◌, Bool, true, false, ◌||◌, ◌==◌, List, [], ◌∷◌, ◌++◌, length, take, drop, get_or, sym, refl, ap, ◌∙◌, subst, ⊎_elim, inl, inr, arith, take-append-drop, append-nil}
use Rattle.std.specs.Prelude.{encode_utf8, encode_utf8_all}
use Rattle.std.specs.Char.{is_ascii_alphabetic, is_digit}
use Rattle.std.proofs.lemmas.Bool.{false≢true, cases_lt, le-leb, lt-leb}
use Rattle.std.proofs.lemmas.Bool.Decides.{nat_tests}
use Rattle.std.proofs.lemmas.Str.{encode_ascii, char_from_byte, length-encode, len_utf8_bounds}
use Rattle.gs_syntax.specs.declared.token.Keyword.{Keyword}
use Rattle.gs_syntax.specs.declared.token.Keyword.TheVariants as keyword
use Rattle.gs_syntax.specs.declared.token.Operator.{Operator}
use Rattle.gs_syntax.specs.declared.token.Operator.TheVariants as operator
use Rattle.gs_scan.specs.declared.class.Class.{Class}
use Rattle.gs_scan.specs.declared.class.Class.TheVariants as class
use Rattle.gs_syntax.specs.Kinds.{keyword_text, operator_text}
use Rattle.gs_syntax.specs.declared.token.TokenKind.TheVariants as kind
use Rattle.gs_syntax.specs.Words.{is_letter}
use Rattle.gs_syntax.specs.Numbers.{IsNumber}
use Rattle.gs_syntax.specs.Spelling.{Lexeme, Blank, LineEnd, Token, spoiled, open_text, open_rune, open_raw, open_comment, Spells}
use Rattle.gs_scan.specs.Reading.{class_of, is_number_class}
use Rattle.gs_scan.proofs.WordLemmas.{is_letter_ascii}
use Rattle.gs_scan.proofs.NumberLemmas.{number_written}

-- a bad token may begin with a byte of the class
abbrev pub is_bad_class : Class → Bool
is_bad_class class.Digit = true
is_bad_class class.Dot = true
is_bad_class class.Quote = true
is_bad_class class.Apostrophe = true
is_bad_class class.BackQuote = true
is_bad_class class.Slash = true
is_bad_class _ = false

-- what may begin with a byte of the class
abbrev pub may_begin : Lexeme → Class → Bool
may_begin Blank class.Space = true
may_begin Blank class.Slash = true
may_begin LineEnd class.LineFeed = true
may_begin LineEnd class.Slash = true
may_begin (Token (kind.Identifier name)) class.Letter = true
may_begin (Token (kind.Identifier name)) class.Wide = true
may_begin (Token (kind.Keyword k)) class.Letter = true
may_begin (Token (kind.Operator o)) class.Slash = true
may_begin (Token (kind.Operator o)) class.Dot = true
may_begin (Token (kind.Operator o)) class.Mark = true
may_begin (Token (kind.Integer v)) k = is_number_class k
may_begin (Token kind.Float) k = is_number_class k
may_begin (Token kind.Imaginary) k = is_number_class k
may_begin (Token (kind.Rune c)) class.Apostrophe = true
may_begin (Token (kind.Text v)) class.Quote = true
may_begin (Token (kind.Text v)) class.BackQuote = true
may_begin (Token kind.Bad) k = is_bad_class k
may_begin _ _ = false

-- the bytes begin with one of a class
abbrev pub BeginsIn : (Class → Bool) → List ℕ → Type 0
BeginsIn p bytes = (b : ℕ) × (more : List ℕ) × (bytes ≡ b ∷ more) × (p (class_of b) ≡ true)

keyword_head : (k : Keyword) → BeginsIn (may_begin (Token (kind.Keyword k))) (keyword_text k)
keyword_head keyword.Break = (_, _, refl, refl)
keyword_head keyword.Case = (_, _, refl, refl)
keyword_head keyword.Chan = (_, _, refl, refl)
keyword_head keyword.Const = (_, _, refl, refl)
keyword_head keyword.Continue = (_, _, refl, refl)
keyword_head keyword.Default = (_, _, refl, refl)
keyword_head keyword.Defer = (_, _, refl, refl)
keyword_head keyword.Else = (_, _, refl, refl)
keyword_head keyword.Fallthrough = (_, _, refl, refl)
keyword_head keyword.For = (_, _, refl, refl)
keyword_head keyword.Func = (_, _, refl, refl)
keyword_head keyword.Go = (_, _, refl, refl)
keyword_head keyword.Goto = (_, _, refl, refl)
keyword_head keyword.If = (_, _, refl, refl)
keyword_head keyword.Import = (_, _, refl, refl)
keyword_head keyword.Interface = (_, _, refl, refl)
keyword_head keyword.Map = (_, _, refl, refl)
keyword_head keyword.Package = (_, _, refl, refl)
keyword_head keyword.Range = (_, _, refl, refl)
keyword_head keyword.Return = (_, _, refl, refl)
keyword_head keyword.Select = (_, _, refl, refl)
keyword_head keyword.Struct = (_, _, refl, refl)
keyword_head keyword.Switch = (_, _, refl, refl)
keyword_head keyword.«Type» = (_, _, refl, refl)
keyword_head keyword.Var = (_, _, refl, refl)

operator_head : (o : Operator) → BeginsIn (may_begin (Token (kind.Operator o))) (operator_text o)
operator_head operator.Plus = (_, _, refl, refl)
operator_head operator.Minus = (_, _, refl, refl)
operator_head operator.Star = (_, _, refl, refl)
operator_head operator.Slash = (_, _, refl, refl)
operator_head operator.Percent = (_, _, refl, refl)
operator_head operator.And = (_, _, refl, refl)
operator_head operator.Or = (_, _, refl, refl)
operator_head operator.Caret = (_, _, refl, refl)
operator_head operator.ShiftLeft = (_, _, refl, refl)
operator_head operator.ShiftRight = (_, _, refl, refl)
operator_head operator.AndNot = (_, _, refl, refl)
operator_head operator.PlusAssign = (_, _, refl, refl)
operator_head operator.MinusAssign = (_, _, refl, refl)
operator_head operator.StarAssign = (_, _, refl, refl)
operator_head operator.SlashAssign = (_, _, refl, refl)
operator_head operator.PercentAssign = (_, _, refl, refl)
operator_head operator.AndAssign = (_, _, refl, refl)
operator_head operator.OrAssign = (_, _, refl, refl)
operator_head operator.CaretAssign = (_, _, refl, refl)
operator_head operator.ShiftLeftAssign = (_, _, refl, refl)
operator_head operator.ShiftRightAssign = (_, _, refl, refl)
operator_head operator.AndNotAssign = (_, _, refl, refl)
operator_head operator.LogicalAnd = (_, _, refl, refl)
operator_head operator.LogicalOr = (_, _, refl, refl)
operator_head operator.Arrow = (_, _, refl, refl)
operator_head operator.Increment = (_, _, refl, refl)
operator_head operator.Decrement = (_, _, refl, refl)
operator_head operator.Equal = (_, _, refl, refl)
operator_head operator.Less = (_, _, refl, refl)
operator_head operator.Greater = (_, _, refl, refl)
operator_head operator.Assign = (_, _, refl, refl)
operator_head operator.Not = (_, _, refl, refl)
operator_head operator.NotEqual = (_, _, refl, refl)
operator_head operator.LessEqual = (_, _, refl, refl)
operator_head operator.GreaterEqual = (_, _, refl, refl)
operator_head operator.Define = (_, _, refl, refl)
operator_head operator.Ellipsis = (_, _, refl, refl)
operator_head operator.LeftParen = (_, _, refl, refl)
operator_head operator.RightParen = (_, _, refl, refl)
operator_head operator.LeftBracket = (_, _, refl, refl)
operator_head operator.RightBracket = (_, _, refl, refl)
operator_head operator.LeftBrace = (_, _, refl, refl)
operator_head operator.RightBrace = (_, _, refl, refl)
operator_head operator.Comma = (_, _, refl, refl)
operator_head operator.Semicolon = (_, _, refl, refl)
operator_head operator.Dot = (_, _, refl, refl)
operator_head operator.Colon = (_, _, refl, refl)

same_bytes : (p : Class → Bool) (xs ys : List ℕ) → xs ≡ ys → BeginsIn p ys → BeginsIn p xs
same_bytes p xs ys e h = (h.0, h.1, e ∙ h.2, h.3)

-- a letter's first byte
letter_class : (c : ℕ) → c < 128 → is_letter c ≡ true → class_of c ≡ class.Letter
letter_class c below letter =
    let test : (is_ascii_alphabetic c || c == 95) ≡ true = sym (is_letter_ascii c below) ∙ letter in
    rw (lt-leb 128 c below) (rw test refl)

lead_byte : (c : ℕ) → 128 ≤ c → 128 ≤ get_or (encode_utf8 c) 0 0
lead_byte c above =
    ⊎_elim
    (λ below.
    let some : 0 < length (encode_utf8 c) = let h = len_utf8_bounds c in omega (arith, length-encode c) in
    let same = char_from_byte (encode_utf8 c) [] c (sym (append-nil (encode_utf8 c))) below some in absurd (omega (arith, same)))
    (λ h. h)
    (cases_lt (get_or (encode_utf8 c) 0 0) 128)

letter_begins : (p : Class → Bool) → p class.Letter ≡ true → p class.Wide ≡ true → (c : ℕ) (more front : List ℕ) → is_letter c ≡ true → front ≡ encode_utf8 c → BeginsIn p (front ++ more)
letter_begins p letter wide c more [] is e =
    absurd (let h = len_utf8_bounds c in let k = ap length e in omega (arith, length-encode c, h, k))
letter_begins p letter wide c more (b ∷ bs) is e = (
  b,
  bs ++ more,
  refl,
  ⊎_elim
      (λ below.
      let b_is_c : b ≡ c = let one = e ∙ encode_ascii c below in ap (λ l. get_or l 0 0) one in
      ap (λ x. p (class_of x)) b_is_c ∙ ap p (letter_class c below is) ∙ letter)
      (λ above.
      let b_above : 128 ≤ b = subst (λ l. 128 ≤ get_or l 0 0) (sym e) (lead_byte c above) in
      (rw (le-leb 128 b b_above) wide))
      (cases_lt c 128),
)

bad_number : (k : Class) → is_number_class k ≡ true → is_bad_class k ≡ true
bad_number class.Digit h = refl
bad_number class.Dot h = refl
bad_number k h = absurd (false≢true h)

pub digit_class : (b : ℕ) → is_digit b 10 ≡ true → class_of b ≡ class.Digit
digit_class b h = grind (arith, nat_tests, h)

pub number_begins : (bytes : List ℕ) → IsNumber bytes → BeginsIn is_number_class bytes
number_begins [] h =
    absurd (⊎_elim (λ digit. false≢true digit) (λ point. let z : 0 ≡ 46 = point.0 in omega arith) (number_written [] h).first)
number_begins (b ∷ bytes) h = (
  b,
  bytes,
  refl,
  ⊎_elim (λ digit. ap is_number_class (digit_class b digit)) (λ point. ap (λ x. is_number_class (class_of x)) point.0) (number_written (b ∷ bytes) h).first,
)

-- what is spelled begins with a byte that it may begin with
pub begins : (what : Lexeme) (bytes : List ℕ) → Spells what bytes → BeginsIn (may_begin what) bytes
begins Blank bytes h =
    ⊎_elim
    (λ space. ⊎_elim (λ e. (9, [], e, refl)) (λ other. ⊎_elim (λ e. (13, [], e, refl)) (λ e. (32, [], e, refl)) other) space)
    (λ comment. ⊎_elim (λ line. (47, 47 ∷ line.0, line.1, refl)) (λ block. (47, _, block.0.1, refl)) comment)
    h
begins LineEnd bytes h = ⊎_elim (λ e. (10, [], e, refl)) (λ block. (47, _, block.0.1, refl)) h
begins (Token (kind.Identifier name)) bytes h =
    same_bytes (may_begin (Token (kind.Identifier name))) bytes _ h.0.4 (letter_begins (may_begin (Token (kind.Identifier name))) refl refl h.0.0 (encode_utf8_all h.0.1) (encode_utf8 h.0.0) h.0.2 refl)
begins (Token (kind.Keyword k)) bytes h = same_bytes (may_begin (Token (kind.Keyword k))) bytes _ h (keyword_head k)
begins (Token (kind.Operator o)) bytes h = same_bytes (may_begin (Token (kind.Operator o))) bytes _ h (operator_head o)
begins (Token (kind.Integer v)) bytes h = number_begins bytes (inl (h.0, h.1))
begins (Token kind.Float) bytes h = number_begins bytes (inr (inl h))
begins (Token kind.Imaginary) bytes h = number_begins bytes (inr (inr h))
begins (Token (kind.Rune c)) bytes h = (39, _, h.1, refl)
begins (Token (kind.Text v)) bytes h = ⊎_elim (λ text. (34, _, text.2, refl)) (λ raw. (96, _, raw.1, refl)) h
begins (Token kind.Bad) bytes h =
    elim h [
      | spoiled s ↦ let p = number_begins s.0 s.2 in (p.0, p.1 ++ s.1, s.4 ∙ ap (λ l. l ++ s.1) p.2, bad_number (class_of p.0) p.3)
      | open_text q ↦ (34, q.0, q.1, refl)
      | open_rune q ↦ (39, q.0, q.1, refl)
      | open_raw q ↦ (96, q.0, q.1, refl)
      | open_comment c ↦ (47, 42 ∷ c.0, c.1, refl)
    ]
begins (Token kind.Inserted) bytes h = absurd h

-- what stands at the front begins with the text's first byte
pub first_of : (text : List ℕ) (m : ℕ) (what : Lexeme) → Spells what (take m text) → may_begin what (class_of (get_or text 0 0)) ≡ true
first_of text m what h =
    let p = begins what (take m text) h in
    let whole : text ≡ p.0 ∷ (p.1 ++ drop m text) = sym (take-append-drop m text) ∙ ap (λ l. l ++ drop m text) p.2 in
    rw (ap (λ l. get_or l 0 0) whole) p.3
