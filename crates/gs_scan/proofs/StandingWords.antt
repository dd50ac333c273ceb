-- An identifier or a keyword is the longest that stands at its place.
use Rattle.std.proofs.Common.{◌≡◌, ◌≢◌, ℕ, ◌<◌, ◌≤◌, Bool, true, false, List, [], ◌∷◌, ◌++◌, length, take, drop, get_or, sym, refl, ap, ◌∙◌, subst, ⊎_elim, inl, inr, arith, IsUtf8, Some, None, append_assoc, take-append-drop, length-take-le, length-append}
use Rattle.std.proofs.Math.Seq.{take-append_seam}
use Rattle.std.specs.Char.{len_utf8}
use Rattle.std.specs.Prelude.{All, encode_utf8, encode_utf8_all, ◌⊎◌}
use Rattle.std.specs.List.{list_all}
use Rattle.std.specs.Str.{IsCharBoundary}
use Rattle.std.proofs.lemmas.Bool.{false≢true, and_parts, cases_lt}
use Rattle.std.proofs.lemmas.List.Elements.{All-nil, All-cons, All-tail}
use Rattle.std.proofs.lemmas.Str.{encode_same, encode_ascii, len_utf8_bounds, length-encode, IsUtf8-past_char, IsCharBoundary-at_seam}
use Rattle.gs_syntax.specs.declared.token.Keyword.{Keyword}
use Rattle.gs_syntax.specs.declared.token.Keyword.TheVariants as keyword
use Rattle.gs_scan.specs.declared.class.Class.{Class}
use Rattle.gs_scan.specs.declared.class.Class.TheVariants as class
use Rattle.gs_syntax.specs.Kinds.{keyword_text}
use Rattle.gs_syntax.specs.declared.token.TokenKind.TheVariants as kind
use Rattle.gs_syntax.specs.Words.{is_letter, is_word_char, IsIdentifier, IsWord}
use Rattle.gs_syntax.specs.Spelling.{Lexeme, Token, Spells, IsLongest, StandsAt}
use Rattle.gs_scan.specs.Reading.{class_of, is_ascii_word, word_size, BeginsWithLetter, keyword_of, IsWordClass}
use Rattle.gs_scan.proofs.WordLemmas.{is_word_char_ascii, ascii_word_below, word_le, word_size-within, word_size-yes, letter_is_word, take-word_size}
use Rattle.gs_scan.proofs.FirstLemmas.{may_begin, first_of}

-- ---- keywords

-- no two keywords are one text
pub keyword_of-keyword_text : (k : Keyword) → keyword_of (keyword_text k) ≡ Some k
keyword_of-keyword_text keyword.Break = refl
keyword_of-keyword_text keyword.Case = refl
keyword_of-keyword_text keyword.Chan = refl
keyword_of-keyword_text keyword.Const = refl
keyword_of-keyword_text keyword.Continue = refl
keyword_of-keyword_text keyword.Default = refl
keyword_of-keyword_text keyword.Defer = refl
keyword_of-keyword_text keyword.Else = refl
keyword_of-keyword_text keyword.Fallthrough = refl
keyword_of-keyword_text keyword.For = refl
keyword_of-keyword_text keyword.Func = refl
keyword_of-keyword_text keyword.Go = refl
keyword_of-keyword_text keyword.Goto = refl
keyword_of-keyword_text keyword.If = refl
keyword_of-keyword_text keyword.Import = refl
keyword_of-keyword_text keyword.Interface = refl
keyword_of-keyword_text keyword.Map = refl
keyword_of-keyword_text keyword.Package = refl
keyword_of-keyword_text keyword.Range = refl
keyword_of-keyword_text keyword.Return = refl
keyword_of-keyword_text keyword.Select = refl
keyword_of-keyword_text keyword.Struct = refl
keyword_of-keyword_text keyword.Switch = refl
keyword_of-keyword_text keyword.«Type» = refl
keyword_of-keyword_text keyword.Var = refl

keyword_same : (j k : Keyword) → keyword_text j ≡ keyword_text k → j ≡ k
keyword_same j k e =
    let same : Some j ≡ Some k = sym (keyword_of-keyword_text j) ∙ ap keyword_of e ∙ keyword_of-keyword_text k in cc

is_ascii_word-keyword_text : (k : Keyword) → list_all is_ascii_word (keyword_text k) ≡ true
is_ascii_word-keyword_text keyword.Break = refl
is_ascii_word-keyword_text keyword.Case = refl
is_ascii_word-keyword_text keyword.Chan = refl
is_ascii_word-keyword_text keyword.Const = refl
is_ascii_word-keyword_text keyword.Continue = refl
is_ascii_word-keyword_text keyword.Default = refl
is_ascii_word-keyword_text keyword.Defer = refl
is_ascii_word-keyword_text keyword.Else = refl
is_ascii_word-keyword_text keyword.Fallthrough = refl
is_ascii_word-keyword_text keyword.For = refl
is_ascii_word-keyword_text keyword.Func = refl
is_ascii_word-keyword_text keyword.Go = refl
is_ascii_word-keyword_text keyword.Goto = refl
is_ascii_word-keyword_text keyword.If = refl
is_ascii_word-keyword_text keyword.Import = refl
is_ascii_word-keyword_text keyword.Interface = refl
is_ascii_word-keyword_text keyword.Map = refl
is_ascii_word-keyword_text keyword.Package = refl
is_ascii_word-keyword_text keyword.Range = refl
is_ascii_word-keyword_text keyword.Return = refl
is_ascii_word-keyword_text keyword.Select = refl
is_ascii_word-keyword_text keyword.Struct = refl
is_ascii_word-keyword_text keyword.Switch = refl
is_ascii_word-keyword_text keyword.«Type» = refl
is_ascii_word-keyword_text keyword.Var = refl

ascii_is_word : (bytes : List ℕ) → list_all is_ascii_word bytes ≡ true → All (λ c. is_word_char c ≡ true) bytes × (bytes ≡ encode_utf8_all bytes)
ascii_is_word [] h = (All-nil (λ c. is_word_char c ≡ true), refl)
ascii_is_word (b ∷ bytes) h =
    let parts = and_parts (is_ascii_word b) (list_all is_ascii_word bytes) h in
    let rest = ascii_is_word bytes parts.1 in
    let below = ascii_word_below b parts.0 in (
      All-cons (λ c. is_word_char c ≡ true) b bytes (is_word_char_ascii b below ∙ parts.0) rest.0,
      λ i. (sym (encode_ascii b below) i) ++ (rest.1 i),
    )

keyword_is_word : (k : Keyword) → IsWord (keyword_text k)
keyword_is_word k = let h = ascii_is_word (keyword_text k) (is_ascii_word-keyword_text k) in (keyword_text k, h.0, h.1)

-- ---- what stands where a letter does

identifier_is_word : (bytes : List ℕ) → IsIdentifier bytes → IsWord bytes
identifier_is_word bytes h = (h.0 ∷ h.1, All-cons (λ c. is_word_char c ≡ true) h.0 h.1 (letter_is_word h.0 h.2) h.3, h.4)

identifier_from : (c : ℕ) (more after front : List ℕ) → is_letter c ≡ true → IsWord front → 0 < length front → front ++ after ≡ encode_utf8 c ++ more → IsIdentifier front
identifier_from c more after front letter ([], pass, e) some whole = absurd (let h = ap length e in omega (arith, h, some))
identifier_from c more after front letter (d ∷ ds, pass, e) some whole =
    let both : encode_utf8 d ++ (encode_utf8_all ds ++ after) ≡ encode_utf8 c ++ more = sym (append_assoc (encode_utf8 d) (encode_utf8_all ds) after) ∙ ap (λ l. l ++ after) (sym e) ∙ whole in
    let same = (encode_same d c (encode_utf8_all ds ++ after) more both).0 in
    (d, ds, ap is_letter same ∙ letter, All-tail (λ x. is_word_char x ≡ true) d ds pass, e)

-- the text's word begins with a letter
pub front_is_identifier : (text : List ℕ) → IsUtf8 text → BeginsWithLetter text → IsIdentifier (take (word_size text) text) × (0 < word_size text)
front_is_identifier text utf8 letter =
    let step = word_size-yes text letter.1 letter.0 utf8 letter.3 (letter_is_word letter.0 letter.2) in
    let some : 0 < word_size text = let h = len_utf8_bounds letter.0 in omega (arith, step, h) in
    let long : length (take (word_size text) text) ≡ word_size text = length-take-le (word_size text) text (word_size-within text utf8) in
    (identifier_from letter.0 letter.1 (drop (word_size text) text) (take (word_size text) text) letter.2 (take-word_size text utf8) (omega (arith, long, some)) (take-append-drop (word_size text) text ∙ letter.3), some)

-- what may stand where a letter does
abbrev pub word_like : Lexeme → Bool
word_like (Token (kind.Identifier name)) = true
word_like (Token (kind.Keyword k)) = true
word_like _ = false

only_words : (k : Class) → IsWordClass k → (what : Lexeme) → may_begin what k ≡ true → word_like what ≡ true
only_words class.Space h what m = ⊎_elim (λ e. cc) (λ e. cc) h
only_words class.LineFeed h what m = ⊎_elim (λ e. cc) (λ e. cc) h
only_words class.Letter h (Token (kind.Identifier name)) m = refl
only_words class.Letter h (Token (kind.Keyword k)) m = refl
only_words class.Letter h what m = m
only_words class.Wide h (Token (kind.Identifier name)) m = refl
only_words class.Wide h (Token (kind.Keyword k)) m = refl
only_words class.Wide h what m = m
only_words class.Digit h what m = ⊎_elim (λ e. cc) (λ e. cc) h
only_words class.Dot h what m = ⊎_elim (λ e. cc) (λ e. cc) h
only_words class.Quote h what m = ⊎_elim (λ e. cc) (λ e. cc) h
only_words class.Apostrophe h what m = ⊎_elim (λ e. cc) (λ e. cc) h
only_words class.BackQuote h what m = ⊎_elim (λ e. cc) (λ e. cc) h
only_words class.Slash h what m = ⊎_elim (λ e. cc) (λ e. cc) h
only_words class.Mark h what m = ⊎_elim (λ e. cc) (λ e. cc) h

-- each word at the front is at most as long, and one as long is the text's
abbrev Longest : List ℕ → Lexeme → ℕ → Type 0
Longest text what n = (m : ℕ) (other : Lexeme) → m ≤ length text → Spells other (take m text) → (m < n) ⊎ ((m ≡ n) × (other ≡ what))

split_le : (m n : ℕ) → m ≤ n → (m < n) ⊎ (m ≡ n)
split_le m n h = ⊎_elim (λ less. inl less) (λ more. inr (omega arith)) (cases_lt m n)

identifier_longest : (text : List ℕ) → IsUtf8 text → IsWordClass (class_of (get_or text 0 0))
    → ((k : Keyword) → take (word_size text) text ≢ keyword_text k) → Longest text (Token (kind.Identifier (take (word_size text) text))) (word_size text)
identifier_longest text utf8 class others m (Token (kind.Identifier name)) within h =
    ⊎_elim (λ less. inl less) (λ same. inr (same, ap (λ l. Token (kind.Identifier l)) (h.2 ∙ ap (λ n. take n text) same)))
    (split_le m (word_size text) (word_le text m utf8 within (identifier_is_word (take m text) h.0)))
identifier_longest text utf8 class others m (Token (kind.Keyword k)) within h =
    ⊎_elim (λ less. inl less) (λ same. absurd (others k (ap (λ n. take n text) (sym same) ∙ h)))
    (split_le m (word_size text) (word_le text m utf8 within (subst IsWord (sym h) (keyword_is_word k))))
identifier_longest text utf8 class others m other within h =
    absurd (false≢true (only_words (class_of (get_or text 0 0)) class other (first_of text m other h)))

keyword_longest : (text : List ℕ) (j : Keyword) → IsUtf8 text → IsWordClass (class_of (get_or text 0 0))
    → take (word_size text) text ≡ keyword_text j → Longest text (Token (kind.Keyword j)) (word_size text)
keyword_longest text j utf8 class is m (Token (kind.Identifier name)) within h =
    ⊎_elim (λ less. inl less) (λ same. absurd (h.1 j (ap (λ n. take n text) same ∙ is)))
    (split_le m (word_size text) (word_le text m utf8 within (identifier_is_word (take m text) h.0)))
keyword_longest text j utf8 class is m (Token (kind.Keyword k)) within h =
    ⊎_elim (λ less. inl less) (λ same. inr (same, ap (λ l. Token (kind.Keyword l)) (keyword_same k j (sym h ∙ ap (λ n. take n text) same ∙ is))))
    (split_le m (word_size text) (word_le text m utf8 within (subst IsWord (sym h) (keyword_is_word k))))
keyword_longest text j utf8 class is m other within h =
    absurd (false≢true (only_words (class_of (get_or text 0 0)) class other (first_of text m other h)))

pub keyword_stands : (text : List ℕ) (k : Keyword) → IsUtf8 text → BeginsWithLetter text → IsWordClass (class_of (get_or text 0 0))
    → take (word_size text) text ≡ keyword_text k → IsLongest text (Token (kind.Keyword k)) (word_size text)
keyword_stands text k utf8 letter class spelled =
    record {
      some = (front_is_identifier text utf8 letter).1;
      within = word_size-within text utf8;
      spells = spelled;
      longest = keyword_longest text k utf8 class spelled;
    }

pub identifier_stands : (text : List ℕ) → IsUtf8 text → BeginsWithLetter text → IsWordClass (class_of (get_or text 0 0))
    → keyword_of (take (word_size text) text) ≡ None → IsLongest text (Token (kind.Identifier (take (word_size text) text))) (word_size text)
identifier_stands text utf8 letter class none =
    let others : (k : Keyword) → take (word_size text) text ≢ keyword_text k = λ k e. let bad : None ≡ Some k = sym none ∙ ap keyword_of e ∙ keyword_of-keyword_text k in cc in
    let front = front_is_identifier text utf8 letter in
    record {
      some = front.1;
      within = word_size-within text utf8;
      spells = (front.0, others, refl);
      longest = identifier_longest text utf8 class others;
    }

-- the two, at the names of the code
pub keyword_stands_at : (text word : List ℕ) (n : ℕ) (k : Keyword) → IsUtf8 text → BeginsWithLetter text → IsWordClass (class_of (get_or text 0 0))
    → n ≡ word_size text → word ≡ take n text → word ≡ keyword_text k → StandsAt text (Token (kind.Keyword k)) n
keyword_stands_at text word n k utf8 letter class size front spelled =
    inl (subst (IsLongest text (Token (kind.Keyword k))) (sym size)
    (keyword_stands text k utf8 letter class (ap (λ i. take i text) (sym size) ∙ sym front ∙ spelled)))

pub identifier_stands_at : (text word name : List ℕ) (n : ℕ) → IsUtf8 text → BeginsWithLetter text → IsWordClass (class_of (get_or text 0 0))
    → n ≡ word_size text → word ≡ take n text → keyword_of word ≡ None → name ≡ word → StandsAt text (Token (kind.Identifier name)) n
identifier_stands_at text word name n utf8 letter class size front none is =
    let whole : word ≡ take (word_size text) text = front ∙ ap (λ i. take i text) size in
    let p : IsLongest text (Token (kind.Identifier (take (word_size text) text))) (word_size text) = identifier_stands text utf8 letter class (ap keyword_of (sym whole) ∙ none) in
    inl (subst (λ l. IsLongest text (Token (kind.Identifier l)) n) (sym (is ∙ whole)) (subst (IsLongest text (Token (kind.Identifier (take (word_size text) text)))) (sym size) p))

-- ---- a character past ASCII that is no letter

abbrev pub NotLetter : List ℕ → List ℕ → ℕ → Type 0
NotLetter text more c = (class_of (get_or text 0 0) ≡ class.Wide) × (text ≡ encode_utf8 c ++ more) × (is_letter c ≡ false)

wide_identifier : (text more name : List ℕ) (c m : ℕ) → NotLetter text more c → Spells (Token (kind.Identifier name)) (take m text) → ⊥
wide_identifier text more name c m wide h =
    let both : encode_utf8 h.0.0 ++ (encode_utf8_all h.0.1 ++ drop m text) ≡ encode_utf8 c ++ more =
    sym (append_assoc (encode_utf8 h.0.0) (encode_utf8_all h.0.1) (drop m text)) ∙ ap (λ l. l ++ drop m text) (sym h.0.4) ∙ take-append-drop m text ∙ wide.1 in
    let same = (encode_same h.0.0 c (encode_utf8_all h.0.1 ++ drop m text) more both).0 in
    false≢true (sym wide.2 ∙ ap is_letter (sym same) ∙ h.0.2)

wide_nothing : (text more : List ℕ) (c : ℕ) → NotLetter text more c
    → (m : ℕ) (other : Lexeme) → m ≤ length text → Spells other (take m text) → may_begin other class.Wide ≡ true → ⊥
wide_nothing text more c wide m (Token (kind.Identifier name)) within h first = wide_identifier text more name c m wide h
wide_nothing text more c wide m other within h first = false≢true first

pub wide_stands : (text more : List ℕ) (c n : ℕ) → NotLetter text more c → n ≡ len_utf8 c → StandsAt text (Token kind.Bad) n
wide_stands text more c n wide size =
    let long : length (encode_utf8 c) ≡ n = length-encode c ∙ sym size in
    let whole : take n text ≡ encode_utf8 c = (λ i. take (sym long i) (wide.1 i)) ∙ take-append_seam (encode_utf8 c) more in
    inr (record {
      some = let h = len_utf8_bounds c in omega (arith, size, h);
      within = omega (arith, ap length wide.1, length-append (encode_utf8 c) more, long);
      nothing = λ m other within h. wide_nothing text more c wide m other within h (subst (λ x. may_begin other x ≡ true) wide.0 (first_of text m other h));
      bad = refl;
      character = (c, whole);
    })

pub wide_boundary : (text more : List ℕ) (c n : ℕ) → IsUtf8 text → text ≡ encode_utf8 c ++ more → n ≡ len_utf8 c → IsCharBoundary text n
wide_boundary text more c n utf8 begins size =
    subst (IsCharBoundary text) (length-encode c ∙ sym size)
    (IsCharBoundary-at_seam text (encode_utf8 c) more begins (IsUtf8-past_char text more c utf8 begins))
