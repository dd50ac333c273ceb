-- Letters, digits and words.
use Rattle.std.proofs.Common.{◌≡◌, ℕ, ◌+◌, ◌<◌, ◌≤◌, true, false, ◌||◌, ◌==◌, cond, List, [], ◌∷◌, ◌++◌, length, take, drop, get_or, sym, refl, ap, ◌∙◌, subst, ⊎_elim, arith, IsUtf8, take-append-drop, length-take-le, append_assoc, suc, length-append, length-drop, get_or-drop, add-zero}
use Rattle.std.specs.Prelude.{All, encode_utf8, encode_utf8_all, take_while}
use Rattle.std.specs.List.{prefix_len}
use Rattle.std.specs.Char.{is_ascii_alphabetic, len_utf8}
use lib.Utf8.{scalars}
use Rattle.std.proofs.Math.Seq.{take-append_seam}
use Rattle.std.specs.Bool.{beq}
use Rattle.std.specs.Str.{chars, IsCharBoundary}
use Rattle.std.proofs.lemmas.Bool.{and_parts, cases_Bool, cond_both, cases_lt}
use Rattle.std.proofs.lemmas.List.{nil_from_length}
use Rattle.std.proofs.lemmas.List.Sums.{prefix_len_stops, prefix_len-le-length}
use Rattle.std.proofs.lemmas.Bool.Decides.{nat_tests}
use Rattle.std.proofs.lemmas.List.Elements.{All-head, All-tail, All-nil, All-cons}
use Rattle.std.proofs.lemmas.Str.{encode_same, encodes-chars, encodes-append, scalars-chars, length-encode, len_utf8_bounds, chars_past_char, IsCharBoundary-at_seam, IsCharBoundary-from_drop, IsUtf8-past_char, encode_ascii, len_utf8_ascii}
use Rattle.ucd_table.proofs.Facts.{Stepped-below, same_from_beq}
use Rattle.ucd_category.specs.GeneralCategory.{general_category, general_category_eq}
use Rattle.ucd_category.specs.GeneralCategoryGroup.{in_group}
use Rattle.ucd_category.specs.declared.GeneralCategory.TheVariants.{DecimalNumber}
use Rattle.ucd_category.specs.declared.GeneralCategoryGroup.TheVariants.{Letter}
use Rattle.ucd_category.proofs.Computing.{ucd_category}
use Rattle.ucd_category.proofs.GeneralCategoryLemmas.{general_category_stepped}
use Rattle.gs_syntax.specs.Words.{is_letter, is_word_char, IsWord}
use Rattle.gs_scan.specs.Reading.{word_size, is_ascii_word}

pub is_letter_ascii : (c : ℕ) → c < 128 → is_letter c ≡ (is_ascii_alphabetic c || c == 95)
unfolding is_letter ucd_category
is_letter_ascii c below =
    same_from_beq _ _ (Stepped-below general_category general_category_stepped (λ x g. beq (x == 95 || in_group Letter g) (is_ascii_alphabetic x || x == 95)) 128 refl c below)

pub is_word_char_ascii : (c : ℕ) → c < 128 → is_word_char c ≡ is_ascii_word c
unfolding is_letter is_word_char ucd_category
is_word_char_ascii c below =
    same_from_beq _ _ (Stepped-below general_category general_category_stepped (λ x g. beq ((x == 95 || in_group Letter g) || general_category_eq g DecimalNumber) (is_ascii_word x)) 128 refl c below)

-- ---- how long a word is

abbrev size : List ℕ → ℕ
size cs = length (encode_utf8_all (take_while is_word_char cs))

size_no : (c : ℕ) (cs : List ℕ) → is_word_char c ≡ false → size (c ∷ cs) ≡ 0
size_no c cs fails = ap (λ b. length (encode_utf8_all (take (cond b (1 + prefix_len is_word_char cs) 0) (c ∷ cs)))) fails

size_yes : (c : ℕ) (cs : List ℕ) → is_word_char c ≡ true → size (c ∷ cs) ≡ length (encode_utf8 c) + size cs
size_yes c cs passes =
    ap (λ b. length (encode_utf8_all (take (cond b (1 + prefix_len is_word_char cs) 0) (c ∷ cs)))) passes
    ∙ (let one : 1 + prefix_len is_word_char cs ≡ suc (prefix_len is_word_char cs) = omega arith in ap (λ n. length (encode_utf8_all (take n (c ∷ cs)))) one)
    ∙ length-append (encode_utf8 c) (encode_utf8_all (take_while is_word_char cs))

pub word_size-nil : word_size [] ≡ 0
unfolding word_size chars
word_size-nil = refl

pub word_size-no : (text rest : List ℕ) (c : ℕ) → IsUtf8 text → text ≡ encode_utf8 c ++ rest → is_word_char c ≡ false → word_size text ≡ 0
unfolding word_size
word_size-no text rest c utf8 begins fails = ap size (chars_past_char text rest c utf8 begins) ∙ size_no c (chars rest) fails

pub word_size-yes : (text rest : List ℕ) (c : ℕ) → IsUtf8 text → text ≡ encode_utf8 c ++ rest → is_word_char c ≡ true → word_size text ≡ len_utf8 c + word_size rest
unfolding word_size
word_size-yes text rest c utf8 begins passes =
    ap size (chars_past_char text rest c utf8 begins) ∙ size_yes c (chars rest) passes ∙ ap (λ n. n + size (chars rest)) (length-encode c)

-- the text is its word, and then what is no part of it
pub record WordCut (text : List ℕ) : Type 0 where
  pub word : List ℕ
  pub rest : List ℕ
  pub both : word ++ rest ≡ text
  pub size : length word ≡ word_size text
  pub is_word : IsWord word
  pub utf8 : IsUtf8 rest

abbrev CharsCut : List ℕ → Type 0
CharsCut cs = (word rest : List ℕ) × (word ++ rest ≡ cs) × (length (encode_utf8_all word) ≡ size cs) × All (λ c. is_word_char c ≡ true) word × (scalars cs ≡ true → scalars rest ≡ true)

chars_cut : (cs : List ℕ) → CharsCut cs
chars_cut [] = ([], [], refl, refl, All-nil (λ x. is_word_char x ≡ true), λ h. h)
chars_cut (c ∷ cs) =
    let p = chars_cut cs in
    ⊎_elim
    (λ passes. (c ∷ p.0, p.1, ap (λ l. c ∷ l) p.2, length-append (encode_utf8 c) (encode_utf8_all p.0) ∙ ap (λ n. length (encode_utf8 c) + n) p.3 ∙ sym (size_yes c cs passes), All-cons (λ x. is_word_char x ≡ true) c p.0 passes p.4, λ h. p.5 (and_parts _ _ h).1))
    (λ fails. ([], c ∷ cs, refl, sym (size_no c cs fails), All-nil (λ x. is_word_char x ≡ true), λ h. h))
    (cases_Bool (is_word_char c))

pub word_cut : (text : List ℕ) → IsUtf8 text → WordCut text
unfolding word_size
word_cut text utf8 =
    let p = chars_cut (chars text) in
    record {
      word = encode_utf8_all p.0;
      rest = encode_utf8_all p.1;
      both = sym (encodes-append p.0 p.1) ∙ ap encode_utf8_all p.2 ∙ encodes-chars text utf8;
      size = p.3;
      is_word = (p.0, p.4, refl);
      utf8 = (p.1, (p.5 (scalars-chars text utf8), refl));
    }

pub word_size-boundary : (text : List ℕ) → IsUtf8 text → IsCharBoundary text (word_size text)
word_size-boundary text utf8 =
    let p = word_cut text utf8 in
    subst (IsCharBoundary text) p.size (IsCharBoundary-at_seam text p.word p.rest (sym p.both) p.utf8)

pub word_size-within : (text : List ℕ) → IsUtf8 text → word_size text ≤ length text
word_size-within text utf8 = (word_size-boundary text utf8).0

pub take-word_size : (text : List ℕ) → IsUtf8 text → IsWord (take (word_size text) text)
take-word_size text utf8 =
    let p = word_cut text utf8 in
    let front : take (word_size text) text ≡ p.word =
    (λ i. take (sym p.size i) (sym p.both i)) ∙ take-append_seam p.word p.rest in
    (p.is_word.0, p.is_word.1, front ∙ p.is_word.2)

-- ---- no word at the front is longer

char_nonempty : (c : ℕ) → 0 < length (encode_utf8 c)
char_nonempty c = let h = len_utf8_bounds c in omega (arith, length-encode c)

word_le_size : (cs ds t : List ℕ) → All (λ c. is_word_char c ≡ true) cs → encode_utf8_all cs ++ t ≡ encode_utf8_all ds → length (encode_utf8_all cs) ≤ size ds
word_le_size [] ds t pass same = omega arith
word_le_size (c ∷ cs) [] t pass same =
    absurd (let h = ap length same in let k = char_nonempty c in omega (arith, h, k, length-append (encode_utf8 c ++ encode_utf8_all cs) t, length-append (encode_utf8 c) (encode_utf8_all cs)))
word_le_size (c ∷ cs) (d ∷ ds) t pass same =
    let parts = encode_same c d (encode_utf8_all cs ++ t) (encode_utf8_all ds) (sym (append_assoc (encode_utf8 c) (encode_utf8_all cs) t) ∙ same) in
    let less = word_le_size cs ds t (All-tail (λ x. is_word_char x ≡ true) c cs pass) parts.1 in
    let passes : is_word_char d ≡ true = ap is_word_char (sym parts.0) ∙ All-head (λ x. is_word_char x ≡ true) c cs pass in
    let lengths : length (encode_utf8 c) ≡ length (encode_utf8 d) = ap (λ x. length (encode_utf8 x)) parts.0 in
    omega (arith, less, lengths, size_yes d ds passes, length-append (encode_utf8 c) (encode_utf8_all cs))

pub word_le : (text : List ℕ) (m : ℕ) → IsUtf8 text → m ≤ length text → IsWord (take m text) → m ≤ word_size text
unfolding word_size
word_le text m utf8 within word =
    let whole : encode_utf8_all word.0 ++ drop m text ≡ encode_utf8_all (chars text) =
    ap (λ l. l ++ drop m text) (sym word.2) ∙ take-append-drop m text ∙ sym (encodes-chars text utf8) in
    let less = word_le_size word.0 (chars text) (drop m text) word.1 whole in
    let long : length (encode_utf8_all word.0) ≡ m = ap length (sym word.2) ∙ length-take-le m text within in
    omega (arith, less, long)

-- ---- the ASCII bytes at the front

pub ascii_word_below : (b : ℕ) → is_ascii_word b ≡ true → b < 128
ascii_word_below b h = grind (arith, nat_tests, h)

abbrev AsciiCut : List ℕ → ℕ → Type 0
AsciiCut text n = (word_size text ≡ n + word_size (drop n text)) × IsUtf8 (drop n text)

ascii_cut-byte : (b : ℕ) (t : List ℕ) → IsUtf8 (b ∷ t) → (IsUtf8 t → AsciiCut t (prefix_len is_ascii_word t)) → is_ascii_word b ≡ true → AsciiCut (b ∷ t) (1 + prefix_len is_ascii_word t)
ascii_cut-byte b t utf8 ih passes =
    let below = ascii_word_below b passes in
    let begins : b ∷ t ≡ encode_utf8 b ++ t = ap (λ l. l ++ t) (sym (encode_ascii b below)) in
    let after = IsUtf8-past_char (b ∷ t) t b utf8 begins in
    let cut = ih after in
    let step = word_size-yes (b ∷ t) t b utf8 begins (is_word_char_ascii b below ∙ passes) in
    let one : suc (prefix_len is_ascii_word t) ≡ 1 + prefix_len is_ascii_word t = omega arith in
    subst (AsciiCut (b ∷ t)) one (omega (arith, step, cut.0, len_utf8_ascii b below), cut.1)

pub ascii_cut : (text : List ℕ) → IsUtf8 text → AsciiCut text (prefix_len is_ascii_word text)
ascii_cut [] utf8 = (omega arith, utf8)
ascii_cut (b ∷ t) utf8 =
    cond_both (is_ascii_word b) (1 + prefix_len is_ascii_word t) 0 (AsciiCut (b ∷ t))
    (ascii_cut-byte b t utf8 (ascii_cut t))
    (λ fails. (omega arith, utf8))

-- a byte that is no letter and no digit ends the word
pub word_size-at_ascii : (text : List ℕ) → IsUtf8 text → get_or text 0 0 < 128 → is_ascii_word (get_or text 0 0) ≡ false → word_size text ≡ 0
word_size-at_ascii [] utf8 below fails = word_size-nil
word_size-at_ascii (b ∷ t) utf8 below fails =
    word_size-no (b ∷ t) t b utf8 (ap (λ l. l ++ t) (sym (encode_ascii b below))) (is_word_char_ascii b below ∙ fails)

-- after n ASCII letters and digits, of which there are no more
pub record AsciiEnd (text : List ℕ) (n : ℕ) : Type 0 where
  pub size : word_size text ≡ n + word_size (drop n text)
  pub boundary : IsCharBoundary text n
  pub utf8 : IsUtf8 (drop n text)

pub ascii_end : (text bytes : List ℕ) (n : ℕ) → IsUtf8 text → bytes ≡ text → n ≡ prefix_len is_ascii_word bytes → AsciiEnd text n
ascii_end text bytes n utf8 same is_n =
    let is_size : n ≡ prefix_len is_ascii_word text = is_n ∙ ap (prefix_len is_ascii_word) same in
    let cut = subst (AsciiCut text) (sym is_size) (ascii_cut text utf8) in
    let within : n ≤ length text = omega (arith, is_size, prefix_len-le-length is_ascii_word text) in
    record { size = cut.0; boundary = IsCharBoundary-from_drop text n within cut.1; utf8 = cut.1 }

-- where the byte there is none past ASCII, the word ends
pub ascii_end-size : (text bytes : List ℕ) (n : ℕ) → IsUtf8 text → bytes ≡ text → n ≡ prefix_len is_ascii_word bytes → (n < length text → get_or text n 0 < 128) → word_size text ≡ n
ascii_end-size text bytes n utf8 same is_n below =
    let e = ascii_end text bytes n utf8 same is_n in
    let is_size : n ≡ prefix_len is_ascii_word text = is_n ∙ ap (prefix_len is_ascii_word) same in
    let first : get_or (drop n text) 0 0 ≡ get_or text n 0 = get_or-drop n text 0 0 ∙ ap (λ i. get_or text i 0) (add-zero n) in
    let ends : word_size (drop n text) ≡ 0 =
    ⊎_elim
    (λ more. word_size-at_ascii (drop n text) e.utf8 (omega (arith, first, below more))
    (ap is_ascii_word first ∙ ap (λ i. is_ascii_word (get_or text i 0)) is_size ∙ prefix_len_stops is_ascii_word text 0 (omega arith)))
    (λ at_end. ap word_size (nil_from_length (drop n text) (omega (arith, length-drop n text))) ∙ word_size-nil)
    (cases_lt n (length text)) in
    omega (arith, e.size, ends)

pub letter_is_word : (c : ℕ) → is_letter c ≡ true → is_word_char c ≡ true
unfolding is_word_char
letter_is_word c h = rw h refl
