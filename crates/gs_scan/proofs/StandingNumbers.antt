-- A number, or a number that letters and digits spoil, is the longest that stands at its place.
use Rattle.std.proofs.Common.{◌≡◌, ℕ, zero, suc, ◌+◌, ◌-◌, ◌<◌, ◌≤◌, Bool, true, false, ◌==◌, cond, List, [], ◌∷◌, ◌++◌, length, take, drop, get_or, sym, refl, ap, ◌∙◌, subst, ⊎_elim, inl, inr, arith, IsUtf8, Some, append_assoc, take-append-drop, length-take-le, length-append, length-drop, nat_lt}
use Rattle.std.specs.Prelude.{◌⊎◌, All, encode_utf8, encode_utf8_all}
use Rattle.std.specs.Char.{is_digit}
use Rattle.std.specs.Str.{IsCharBoundary}
use Rattle.std.proofs.Math.Seq.{take-add, take-append_seam, drop-append_seam}
use Rattle.std.proofs.lemmas.Bool.{false≢true, and_parts, cases_lt, ltb-true, ne_eqb, le-leb}
use Rattle.std.proofs.lemmas.List.Elements.{All-tail}
use Rattle.std.proofs.lemmas.Str.{encode_ascii, cons_from_encodes, IsUtf8-drop, IsCharBoundary-from_rest}
use Rattle.gs_syntax.specs.declared.token.Operator.{Operator}
use Rattle.gs_syntax.specs.declared.token.Operator.TheVariants as operator
use Rattle.gs_syntax.specs.declared.token.TokenKind.TheVariants as kind
use Rattle.gs_syntax.specs.Kinds.{operator_text}
use Rattle.gs_syntax.specs.Words.{is_word_char, IsWord}
use Rattle.gs_syntax.specs.Numbers.{IsNumber, IsSpoiled, bounded}
use Rattle.gs_syntax.specs.Spelling.{Lexeme, Token, spoiled, open_text, open_rune, open_raw, open_comment, Spells, StandsAt}
use Rattle.gs_numbers.specs.declared.number.Number.{Number}
use Rattle.gs_numbers.specs.declared.number.Number.TheVariants.{Integer, Float, Imaginary}
use Rattle.gs_numbers.specs.Spelling.{SpellsNumber, IsLongestNumber, HasNoNumber}
use Rattle.gs_scan.specs.declared.class.Class.{Class}
use Rattle.gs_scan.specs.declared.class.Class.TheVariants as class
use Rattle.gs_scan.specs.Marks.{operator_at}
use Rattle.gs_scan.specs.Pieces.{kind_of}
use Rattle.gs_scan.specs.Reading.{class_of, word_size, is_number_class, is_mark, OnlyMarks}
use Rattle.gs_scan.proofs.WordLemmas.{word_le, word_size-within, take-word_size}
use Rattle.gs_scan.proofs.MarkLemmas.{is_ascii_bytes, ascii_boundary, read_at}
use Rattle.gs_scan.proofs.NumberLemmas.{number_written}
use Rattle.gs_scan.proofs.StandingBlanks.{class_taken}
use Rattle.gs_scan.proofs.StandingMarks.{spelled_better}
use Rattle.gs_scan.proofs.FirstLemmas.{may_begin, first_of, digit_class}

-- ---- a number is of one kind

number_kind : (bytes : List ℕ) → IsNumber bytes → (k : Number) × SpellsNumber k bytes
number_kind bytes h =
    ⊎_elim (λ i. (Integer (bounded i.0), (i.0, i.1, refl))) (λ more. ⊎_elim (λ f. (Float, f)) (λ i. (Imaginary, i)) more) h

number_of : (k : Number) (bytes : List ℕ) → SpellsNumber k bytes → IsNumber bytes
number_of (Integer v) bytes h = inl (h.0, h.1)
number_of Float bytes h = inr (inl h)
number_of Imaginary bytes h = inr (inr h)

spells_kind : (k : Number) (bytes : List ℕ) → SpellsNumber k bytes → Spells (Token (kind_of k)) bytes
spells_kind (Integer v) bytes h = h
spells_kind Float bytes h = h
spells_kind Imaginary bytes h = h

number_ascii : (text : List ℕ) (n : ℕ) (what : Number) → IsLongestNumber text what n → is_ascii_bytes (take n text) ≡ true
number_ascii text n what number = (number_written (take n text) (number_of what (take n text) number.spells)).ascii

pub number_boundary : (text : List ℕ) (n : ℕ) (what : Number) → IsUtf8 text → IsLongestNumber text what n → IsCharBoundary text n
number_boundary text n what utf8 number = ascii_boundary text (take n text) n utf8 number.within refl (number_ascii text n what number)

-- ---- a spoiled number at the front

word_strip : (xs ys : List ℕ) → is_ascii_bytes xs ≡ true → IsWord (xs ++ ys) → IsWord ys
word_strip [] ys ascii word = word
word_strip (x ∷ xs) ys ascii word =
    let parts = and_parts (nat_lt x 128) (is_ascii_bytes xs) ascii in
    let begins : encode_utf8_all word.0 ≡ encode_utf8 x ++ (xs ++ ys) = sym word.2 ∙ ap (λ l. l ++ (xs ++ ys)) (sym (encode_ascii x (ltb-true x 128 parts.0))) in
    let rest = cons_from_encodes word.0 (xs ++ ys) x begins in
    let pass : All (λ c. is_word_char c ≡ true) (x ∷ rest.0) = subst (All (λ c. is_word_char c ≡ true)) rest.1 word.1 in
    word_strip xs ys parts.1 (rest.0, All-tail (λ c. is_word_char c ≡ true) x rest.0 pass, sym rest.2)

ascii_suffix : (xs ys : List ℕ) → is_ascii_bytes (xs ++ ys) ≡ true → is_ascii_bytes ys ≡ true
ascii_suffix [] ys h = h
ascii_suffix (x ∷ xs) ys h = ascii_suffix xs ys (and_parts (nat_lt x 128) (is_ascii_bytes (xs ++ ys)) h).1

abbrev nothing : List ℕ
nothing = []

drop_nil : (k : ℕ) → drop k nothing ≡ nothing
drop_nil zero = refl
drop_nil (suc k) = refl

drop_drop : (p j : ℕ) (text : List ℕ) → drop j (drop p text) ≡ drop (p + j) text
drop_drop zero j text = let e : j ≡ 0 + j = omega arith in ap (λ k. drop k text) e
drop_drop (suc p) j [] = drop_nil j ∙ sym (drop_nil (suc p + j))
drop_drop (suc p) j (c ∷ cs) = drop_drop p j cs ∙ (let e : suc (p + j) ≡ suc p + j = omega arith in ap (λ k. drop k (c ∷ cs)) e)

-- with n' + j bytes of digits, and i bytes more, of which those behind the n' are a word
word_behind : (text : List ℕ) (p j i : ℕ) → is_ascii_bytes (take (p + j) text) ≡ true → IsWord (take (j + i) (drop p text)) → IsWord (take i (drop (p + j) text))
word_behind text p j i ascii word =
    let tail : is_ascii_bytes (take j (drop p text)) ≡ true = ascii_suffix (take p text) (take j (drop p text)) (ap is_ascii_bytes (sym (take-add p j text)) ∙ ascii) in
    let behind = word_strip (take j (drop p text)) (take i (drop j (drop p text))) tail (subst IsWord (take-add j i (drop p text)) word) in
    subst (λ l. IsWord (take i l)) (drop_drop p j text) behind

-- a spoiled number is at most the longest number and the word behind it
spoiled_le : (text : List ℕ) (n m : ℕ) (what : Number) → IsUtf8 text → IsLongestNumber text what n → m ≤ length text → IsSpoiled (take m text) → m ≤ n + word_size (drop n text)
spoiled_le text n m what utf8 number within ruin =
    let p : ℕ = length ruin.0 in
    let q : ℕ = length ruin.1 in
    let count : m ≡ p + q = omega (arith, ap length ruin.4, length-append ruin.0 ruin.1, length-take-le m text within) in
    let whole : text ≡ ruin.0 ++ (ruin.1 ++ drop m text) = sym (take-append-drop m text) ∙ ap (λ l. l ++ drop m text) ruin.4 ∙ append_assoc ruin.0 ruin.1 (drop m text) in
    let front : take p text ≡ ruin.0 = ap (take p) whole ∙ take-append_seam ruin.0 (ruin.1 ++ drop m text) in
    let back : take q (drop p text) ≡ ruin.1 = ap (λ l. take q (drop p l)) whole ∙ ap (take q) (drop-append_seam ruin.0 (ruin.1 ++ drop m text)) ∙ take-append_seam ruin.1 (drop m text) in
    let of_kind = number_kind ruin.0 ruin.2 in
    let short : p ≤ n = ⊎_elim (λ less. omega arith) (λ same. let e = same.0 in omega arith) (number.longest p of_kind.0 (omega arith) (subst (SpellsNumber of_kind.0) (sym front) of_kind.1)) in
    let ascii = number_ascii text n what number in
    ⊎_elim
    (λ less. omega arith)
    (λ more.
    let j : ℕ = n - p in
    let i : ℕ = m - n in
    let sum_n : p + j ≡ n = omega arith in
    let sum_q : j + i ≡ q = omega arith in
    let word : IsWord (take (j + i) (drop p text)) = subst IsWord (sym (ap (λ k. take k (drop p text)) sum_q ∙ back)) ruin.3 in
    let behind : IsWord (take i (drop n text)) = subst (λ k. IsWord (take i (drop k text))) sum_n (word_behind text p j i (ap (λ k. is_ascii_bytes (take k text)) sum_n ∙ ascii) word) in
    let boundary = ascii_boundary text (take n text) n utf8 number.within refl ascii in
    let le = word_le (drop n text) i (IsUtf8-drop text n utf8 boundary) (omega (arith, length-drop n text)) behind in
    omega arith)
    (cases_lt m n)

-- ---- what stands where a digit or a point does

-- what may be spelled there
data Numbered (other : Lexeme) (bytes : List ℕ) : Type 0 where
  counted : (k : Number) → other ≡ Token (kind_of k) → SpellsNumber k bytes → Numbered other bytes
  mark : (o : Operator) → other ≡ Token (kind.Operator o) → bytes ≡ operator_text o → Numbered other bytes
  ruined : other ≡ Token kind.Bad → IsSpoiled bytes → Numbered other bytes

abbrev number_like : Lexeme → Bool
number_like (Token (kind.Integer v)) = true
number_like (Token kind.Float) = true
number_like (Token kind.Imaginary) = true
number_like (Token (kind.Operator o)) = true
number_like (Token kind.Bad) = true
number_like _ = false

like_number : (k : Class) → is_number_class k ≡ true → (what : Lexeme) → may_begin what k ≡ true → number_like what ≡ true
like_number class.Digit n (Token (kind.Integer v)) h = refl
like_number class.Digit n (Token kind.Float) h = refl
like_number class.Digit n (Token kind.Imaginary) h = refl
like_number class.Digit n (Token kind.Bad) h = refl
like_number class.Digit n what h = absurd (false≢true h)
like_number class.Dot n (Token (kind.Integer v)) h = refl
like_number class.Dot n (Token kind.Float) h = refl
like_number class.Dot n (Token kind.Imaginary) h = refl
like_number class.Dot n (Token (kind.Operator o)) h = refl
like_number class.Dot n (Token kind.Bad) h = refl
like_number class.Dot n what h = absurd (false≢true h)
like_number k n what h = absurd (false≢true n)

-- another byte is none of a number
other_byte : (text : List ℕ) (m b : ℕ) (more : List ℕ) → is_number_class (class_of (get_or text 0 0)) ≡ true → take m text ≡ b ∷ more → is_number_class (class_of b) ≡ false → ⊥
other_byte text m b more begins e other = false≢true (sym other ∙ ap is_number_class (sym (class_taken text m b more e)) ∙ begins)

numbered : (text : List ℕ) → is_number_class (class_of (get_or text 0 0)) ≡ true → (m : ℕ) (other : Lexeme) → Spells other (take m text) → Numbered other (take m text)
numbered text begins m (Token (kind.Integer v)) h = counted (Integer v) refl h
numbered text begins m (Token kind.Float) h = counted Float refl h
numbered text begins m (Token kind.Imaginary) h = counted Imaginary refl h
numbered text begins m (Token (kind.Operator o)) h = mark o refl h
numbered text begins m (Token kind.Bad) h =
    elim h [
      | spoiled s ↦ ruined refl s
      | open_text q ↦ absurd (other_byte text m 34 q.0 begins q.1 refl)
      | open_rune q ↦ absurd (other_byte text m 39 q.0 begins q.1 refl)
      | open_raw q ↦ absurd (other_byte text m 96 q.0 begins q.1 refl)
      | open_comment c ↦ absurd (other_byte text m 47 (42 ∷ c.0) begins c.1 refl)
    ]
numbered text begins m other h =
    absurd (false≢true (like_number (class_of (get_or text 0 0)) begins other (first_of text m other h)))

-- ---- an operator is shorter than a number

second_taken : (text : List ℕ) (n : ℕ) → is_digit (get_or (take n text) 1 0) 10 ≡ true → (2 ≤ n) × (get_or (take n text) 1 0 ≡ get_or text 1 0)
second_taken text zero h = absurd (false≢true h)
second_taken [] (suc n) h = absurd (false≢true h)
second_taken (a ∷ text) (suc zero) h = absurd (false≢true h)
second_taken (a ∷ []) (suc (suc n)) h = absurd (false≢true h)
second_taken (a ∷ b ∷ text) (suc (suc n)) h = (omega arith, refl)

first_taken : (text : List ℕ) (n : ℕ) → 0 < n → get_or (take n text) 0 0 ≡ get_or text 0 0
first_taken [] zero some = refl
first_taken [] (suc n) some = refl
first_taken (c ∷ cs) zero some = absurd (omega arith)
first_taken (c ∷ cs) (suc n) some = refl

-- where a point and a digit stand, the operator is the point
point_mark : (text : List ℕ) (m : ℕ) (o : Operator) → get_or text 0 0 ≡ 46 → is_digit (get_or text 1 0) 10 ≡ true → m ≤ length text → take m text ≡ operator_text o → m ≤ 1
point_mark text m o first second within h =
    let p = spelled_better text m o within h in
    let other : (get_or text 1 0 == 46) ≡ false = ne_eqb (get_or text 1 0) 46 (λ e. false≢true (ap (λ x. is_digit x 10) (sym e) ∙ second)) in
    let read : read_at text ≡ Some (operator.Dot, 1) =
    ap (λ x. operator_at x (get_or text 1 0) (get_or text 2 0)) first
    ∙ ap (λ b. cond b (cond (get_or text 2 0 == 46) (Some (operator.Ellipsis, 3)) (Some (operator.Dot, 1))) (Some (operator.Dot, 1))) other in
    let same : Some p.0.0 ≡ Some (operator.Dot, 1) = sym p.0.1 ∙ read in
    let pair : p.0.0 ≡ (operator.Dot, 1) = cc in
    let one : p.0.0.1 ≡ 1 = ap (λ x. x.1) pair in
    ⊎_elim (λ less. let e = p.1 in omega arith) (λ eq. let e = p.1 in let f = eq.0 in omega arith) p.0.2

-- no operator begins with a digit
digit_mark : (text : List ℕ) (m : ℕ) (o : Operator) → is_digit (get_or text 0 0) 10 ≡ true → take m text ≡ operator_text o → ⊥
digit_mark text m o digit h =
    false≢true (ap (may_begin (Token (kind.Operator o))) (sym (digit_class (get_or text 0 0) digit)) ∙ first_of text m (Token (kind.Operator o)) h)

mark_shorter : (text : List ℕ) (n m : ℕ) (what : Number) (o : Operator) → IsLongestNumber text what n → m ≤ length text → take m text ≡ operator_text o → m < n
mark_shorter text n m what o longest within h =
    let first = first_taken text n longest.some in
    ⊎_elim
    (λ digit. absurd (digit_mark text m o (ap (λ b. is_digit b 10) (sym first) ∙ digit) h))
    (λ point.
    let second = second_taken text n point.1 in
    let one = point_mark text m o (sym first ∙ point.0) (ap (λ b. is_digit b 10) (sym second.1) ∙ point.1) within h in
    let two = second.0 in omega arith)
    (number_written (take n text) (number_of what (take n text) longest.spells)).first

-- ---- what stands there

number_longest : (text : List ℕ) (n : ℕ) (what : Number) → IsUtf8 text → is_number_class (class_of (get_or text 0 0)) ≡ true → IsLongestNumber text what n → word_size (drop n text) ≡ 0
    → (m : ℕ) (other : Lexeme) → m ≤ length text → Spells other (take m text) → (m < n) ⊎ ((m ≡ n) × (other ≡ Token (kind_of what)))
number_longest text n what utf8 begins longest alone m other within h =
    elim (numbered text begins m other h) [
      | counted k e is ↦ ⊎_elim (λ less. inl less) (λ same. inr (same.0, e ∙ ap (λ x. Token (kind_of x)) same.1)) (longest.longest m k within is)
      | mark o e is ↦ inl (mark_shorter text n m what o longest within is)
      | ruined e s ↦
          let le = spoiled_le text n m what utf8 longest within s in
          ⊎_elim (λ less. inl less)
          (λ more.
          let same : n ≡ m = omega (arith, le, alone) in
          absurd (s.5 (number_of what (take m text) (subst (λ i. SpellsNumber what (take i text)) same longest.spells))))
          (cases_lt m n)
    ]

pub number_stands : (text after : List ℕ) (n : ℕ) (what : Number) → IsUtf8 text → is_number_class (class_of (get_or text 0 0)) ≡ true → IsLongestNumber text what n → after ≡ drop n text → word_size after ≡ 0 → StandsAt text (Token (kind_of what)) n
number_stands text after n what utf8 begins longest is_after alone = inl (record {
  some = longest.some;
  within = longest.within;
  spells = spells_kind what (take n text) longest.spells;
  longest = number_longest text n what utf8 begins longest (ap word_size (sym is_after) ∙ alone);
})

spoiled_longest : (text : List ℕ) (n : ℕ) (what : Number) → IsUtf8 text → is_number_class (class_of (get_or text 0 0)) ≡ true → IsLongestNumber text what n → 0 < word_size (drop n text)
    → (m : ℕ) (other : Lexeme) → m ≤ length text → Spells other (take m text) → (m < n + word_size (drop n text)) ⊎ ((m ≡ n + word_size (drop n text)) × (other ≡ Token kind.Bad))
spoiled_longest text n what utf8 begins longest more m other within h =
    elim (numbered text begins m other h) [
      | counted k e is ↦ inl (⊎_elim (λ less. omega arith) (λ same. let eq = same.0 in omega arith) (longest.longest m k within is))
      | mark o e is ↦ inl (let less = mark_shorter text n m what o longest within is in omega arith)
      | ruined e s ↦
          let le = spoiled_le text n m what utf8 longest within s in
          ⊎_elim (λ less. inl less) (λ same. inr (omega arith, e)) (cases_lt m (n + word_size (drop n text)))
    ]

pub spoiled_stands : (text after : List ℕ) (n r : ℕ) (what : Number) → IsUtf8 text → is_number_class (class_of (get_or text 0 0)) ≡ true → IsLongestNumber text what n → after ≡ drop n text → r ≡ word_size after → 0 < r → StandsAt text (Token kind.Bad) (n + r)
spoiled_stands text after n r what utf8 begins longest is_after size some =
    let size : r ≡ word_size (drop n text) = size ∙ ap word_size is_after in
    let rest_utf8 = IsUtf8-drop text n utf8 (number_boundary text n what utf8 longest) in
    let some_more : 0 < word_size (drop n text) = omega (arith, some, size) in
    let w : ℕ = word_size (drop n text) in
    let room = word_size-within (drop n text) rest_utf8 in
    let within : n + w ≤ length text = let l = longest.within in omega (arith, room, length-drop n text, l) in
    subst (λ k. StandsAt text (Token kind.Bad) (n + k)) (sym size) (inl (record {
      some = let h = longest.some in omega arith;
      within = within;
      spells = spoiled (
        take n text,
        take w (drop n text),
        number_of what (take n text) longest.spells,
        take-word_size (drop n text) rest_utf8,
        take-add n w text,
        λ is_number.
            let of_kind = number_kind (take (n + w) text) is_number in
            ⊎_elim (λ less. omega arith) (λ same. let eq = same.0 in omega arith) (longest.longest (n + w) of_kind.0 within of_kind.1),
      );
      longest = spoiled_longest text n what utf8 begins longest some_more;
    }))

pub spoiled_boundary : (text after : List ℕ) (n r : ℕ) (what : Number) → IsUtf8 text → IsLongestNumber text what n → after ≡ drop n text → IsCharBoundary after r → IsCharBoundary text (n + r)
spoiled_boundary text after n r what utf8 longest is_after inner = IsCharBoundary-from_rest text n r longest.within (subst (λ l. IsCharBoundary l r) is_after inner)

-- ---- no number

some_first : (text : List ℕ) → is_number_class (class_of (get_or text 0 0)) ≡ true → 0 < length text
some_first [] h = absurd (false≢true h)
some_first (c ∷ cs) h = omega arith

wide_class : (b : ℕ) → 128 ≤ b → class_of b ≡ class.Wide
wide_class b above = rw (le-leb 128 b above) refl

first_below : (b : ℕ) → is_number_class (class_of b) ≡ true → b < 128
first_below b h = ⊎_elim (λ less. less) (λ above. absurd (false≢true (sym (ap is_number_class (wide_class b above)) ∙ h))) (cases_lt b 128)

no_spoiled : (text : List ℕ) (m : ℕ) → HasNoNumber text → m ≤ length text → IsSpoiled (take m text) → ⊥
no_spoiled text m none within s =
    let whole : text ≡ s.0 ++ (s.1 ++ drop m text) = sym (take-append-drop m text) ∙ ap (λ l. l ++ drop m text) s.4 ∙ append_assoc s.0 s.1 (drop m text) in
    let front : take (length s.0) text ≡ s.0 = ap (take (length s.0)) whole ∙ take-append_seam s.0 (s.1 ++ drop m text) in
    let room : length s.0 ≤ length text = omega (arith, ap length whole, length-append s.0 (s.1 ++ drop m text)) in
    let of_kind = number_kind s.0 s.2 in
    none (length s.0) of_kind.0 room (subst (SpellsNumber of_kind.0) (sym front) of_kind.1)

-- then only an operator may stand there
pub no_number_marks : (text : List ℕ) → is_number_class (class_of (get_or text 0 0)) ≡ true → HasNoNumber text → OnlyMarks text
no_number_marks text begins none = record {
  some = some_first text begins;
  ascii = first_below (get_or text 0 0) begins;
  marks = λ m other within h. elim (numbered text begins m other h) [
    | counted k e is ↦ absurd (none m k within is)
    | mark o e is ↦ ap is_mark e
    | ruined e s ↦ absurd (no_spoiled text m none within s)
  ];
}
