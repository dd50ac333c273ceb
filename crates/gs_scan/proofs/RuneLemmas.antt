-- Runes.
use Rattle.std.proofs.Common.{◌≡◌, ℕ, zero, suc, ◌+◌, ◌<◌, ◌≤◌, List, [], ◌∷◌, ◌++◌, length, take, drop, get_or, sym, ap, ◌∙◌, subst, ⊎_elim, inl, inr, arith, IsUtf8, Some, None, append_assoc, take-append-drop, length-take-le, length-append}
use Rattle.std.specs.Prelude.{◌≢◌, encode_utf8}
use Rattle.std.specs.Char.{len_utf8}
use Rattle.std.specs.Str.{IsCharBoundary}
use Rattle.std.proofs.Math.Seq.{take-append_seam, get_or-append_seam}
use Rattle.std.proofs.lemmas.List.{take_more}
use Rattle.std.proofs.lemmas.Str.{encode_same, encode_ascii, length-encode, len_utf8_bounds, IsCharBoundary-after_ascii}
use Rattle.gs_syntax.specs.Quotes.{IsEscape, IsRuneItem, IsRune}
use Rattle.gs_scan.specs.declared.escape.Item.{Item}
use Rattle.gs_scan.specs.Escapes.{Read, code_of, bytes_of, escape_at}
use Rattle.gs_scan.specs.Reading.{IsOnlyFront, NoFront}
use Rattle.gs_scan.proofs.EscapeLemmas.{single_quote, escape_read, escape_spelled, head_is}

-- ---- what stands between the quotes

-- a character that begins with a backslash is one
backslash : (c : ℕ) (r s : List ℕ) → encode_utf8 c ++ r ≡ 92 ∷ s → c ≡ 92
backslash c r s e = (encode_same c 92 r s (e ∙ ap (λ l. l ++ s) (sym (encode_ascii 92 (omega arith))))).0

-- an escape at the front is read as itself
front_read : (text t : List ℕ) (m code : ℕ) (value : List ℕ) → text ≡ 92 ∷ t → IsEscape 39 (take m text) code value
    → (item : Item) × (escape_at 39 t ≡ Some (item, length (take m text))) × (code_of item ≡ code)
front_read text t m code value is h =
    let f = escape_read 39 code (take m text) value (drop m text) single_quote h in
    let rest : f.tail ++ drop m text ≡ t = ap (drop 1) (ap (λ l. l ++ drop m text) (sym f.backslash) ∙ take-append-drop m text ∙ is) in
    (f.item, ap (escape_at 39) (sym rest) ∙ f.read, f.code_is)

pub escape_front : (text : List ℕ) (item : Item) (n : ℕ) → get_or text 0 0 ≡ 92 → escape_at 39 (drop 1 text) ≡ Some (item, n) → IsOnlyFront IsRuneItem text (code_of item) n
escape_front text item n first read =
    let t : List ℕ = drop 1 text in
    let is = head_is text 92 first (omega arith) in
    let f = escape_spelled 39 n t item single_quote read in
    let size = f.size in
    let room = f.room in
    let bytes : 92 ∷ take f.inner t ≡ take n text = (λ i. take (sym size i) (sym is i)) in
    record {
      some = omega arith;
      within = omega (arith, ap length is);
      is = inr (bytes_of item, subst (λ l. IsEscape 39 l (code_of item) (bytes_of item)) bytes f.escape);
      only = λ m other within h. ⊎_elim
          (λ plain. absurd (plain.2 (backslash other (drop m text) t (ap (λ l. l ++ drop m text) (sym plain.0) ∙ take-append-drop m text ∙ is))))
          (λ e.
          let p = front_read text t m other e.0 is e.1 in
          let one : Read = (p.0, length (take m text)) in
          let two : Read = (item, n) in
          let both : Some one ≡ Some two = sym p.1 ∙ read in
          let pair : one ≡ two = cc in
          (sym (length-take-le m text within) ∙ ap (λ x. x.1) pair, sym p.2 ∙ ap (λ x. code_of x.0) pair))
          h;
    }

pub escape_none : (text : List ℕ) → get_or text 0 0 ≡ 92 → escape_at 39 (drop 1 text) ≡ None → NoFront IsRuneItem text
escape_none text first none m other within h =
    let t : List ℕ = drop 1 text in
    let is = head_is text 92 first (omega arith) in
    ⊎_elim
    (λ plain. plain.2 (backslash other (drop m text) t (ap (λ l. l ++ drop m text) (sym plain.0) ∙ take-append-drop m text ∙ is)))
    (λ e.
    let p = front_read text t m other e.0 is e.1 in
    let one : Read = (p.0, length (take m text)) in
    let bad : Some one ≡ None = sym p.1 ∙ none in cc)
    h

-- an escape begins with a backslash
escape_first : (bytes value : List ℕ) (code : ℕ) → IsEscape 39 bytes code value → (tail : List ℕ) × (bytes ≡ 92 ∷ tail)
escape_first bytes value code h = let f = escape_read 39 code bytes value [] single_quote h in (f.tail, f.backslash)

no_escape : (text value : List ℕ) (m code : ℕ) → get_or text 0 0 ≢ 92 → IsEscape 39 (take m text) code value → ⊥
no_escape text value m code first h =
    let p = escape_first (take m text) value code h in
    first (ap (λ l. get_or l 0 0) (sym (take-append-drop m text) ∙ ap (λ l. l ++ drop m text) p.1))

-- the character at the front
same_char : (text more : List ℕ) (m c d : ℕ) → text ≡ encode_utf8 c ++ more → take m text ≡ encode_utf8 d → d ≡ c
same_char text more m c d begins e =
    (encode_same d c (drop m text) more (ap (λ l. l ++ drop m text) (sym e) ∙ take-append-drop m text ∙ begins)).0

pub plain_front : (text more : List ℕ) (c n : ℕ) → get_or text 0 0 ≢ 92 → text ≡ encode_utf8 c ++ more → c ≢ 39 → c ≢ 10 → n ≡ len_utf8 c → IsOnlyFront IsRuneItem text c n
plain_front text more c n first begins no_quote no_line size =
    let long : length (encode_utf8 c) ≡ n = length-encode c ∙ sym size in
    let whole : take n text ≡ encode_utf8 c = (λ i. take (sym long i) (begins i)) ∙ take-append_seam (encode_utf8 c) more in
    let no_slash : c ≢ 92 = λ e. first (ap (λ l. get_or l 0 0) (begins ∙ ap (λ x. encode_utf8 x ++ more) e ∙ ap (λ l. l ++ more) (encode_ascii 92 (omega arith)))) in
    record {
      some = let h = len_utf8_bounds c in omega (arith, size, h);
      within = omega (arith, ap length begins, length-append (encode_utf8 c) more, long);
      is = inl (whole, no_quote, no_slash, no_line);
      only = λ m other within h. ⊎_elim
          (λ plain.
          let same = same_char text more m c other begins plain.0 in
          let count : length (take m text) ≡ length (encode_utf8 c) = ap length plain.0 ∙ ap (λ x. length (encode_utf8 x)) same in
          (sym (length-take-le m text within) ∙ count ∙ long, same))
          (λ e. absurd (no_escape text e.0 m other first e.1))
          h;
    }

pub plain_none : (text more : List ℕ) (c : ℕ) → get_or text 0 0 ≢ 92 → text ≡ encode_utf8 c ++ more → (c ≢ 39 → c ≢ 10 → ⊥) → NoFront IsRuneItem text
plain_none text more c first begins stops m other within h =
    ⊎_elim
    (λ plain.
    let same = same_char text more m c other begins plain.0 in
    stops (λ e. plain.1 (same ∙ e)) (λ e. plain.3 (same ∙ e)))
    (λ e. no_escape text e.0 m other first e.1)
    h

take_nil : (m : ℕ) (text : List ℕ) → length text ≡ 0 → length (take m text) ≡ 0
take_nil m text none = omega (arith, none, ap length (take-append-drop m text), length-append (take m text) (drop m text))

pub empty_none : (text : List ℕ) → length text ≡ 0 → NoFront IsRuneItem text
empty_none text none m other within h =
    let nothing = take_nil m text none in
    ⊎_elim
    (λ plain. let some = len_utf8_bounds other in omega (arith, ap length plain.0, length-encode other, some, nothing))
    (λ e. let p = escape_first (take m text) e.0 other e.1 in omega (arith, ap length p.1, nothing))
    h

-- ---- between quotes

-- what a rune at the front has inside
rune_inside : (text t : List ℕ) (m code : ℕ) → text ≡ 39 ∷ t → m ≤ length text → IsRune (take m text) code
    → (k : ℕ) × (m ≡ k + 2) × (k ≤ length t) × IsRuneItem (take k t) code × (get_or t k 0 ≡ 39)
rune_inside text t m code is within rune =
    let x : List ℕ = rune.0 in
    let whole : t ≡ x ++ 39 ∷ drop m text =
    ap (drop 1) (sym is ∙ sym (take-append-drop m text) ∙ ap (λ l. l ++ drop m text) rune.1) ∙ append_assoc x (39 ∷ []) (drop m text) in
    let front : take (length x) t ≡ x = ap (take (length x)) whole ∙ take-append_seam x (39 ∷ drop m text) in (
      length x,
      omega (arith, ap length rune.1, length-append x (39 ∷ []), length-take-le m text within),
      omega (arith, ap length whole, length-append x (39 ∷ drop m text)),
      subst (λ l. IsRuneItem l code) (sym front) rune.2,
      ap (λ l. get_or l (length x) 0) whole ∙ get_or-append_seam x 39 (drop m text) 0,
    )

within_by : (t : List ℕ) (n : ℕ) → get_or t n 0 ≡ 39 → n < length t
within_by [] n e = absurd (let z : 0 ≡ 39 = e in omega arith)
within_by (a ∷ t) zero e = omega arith
within_by (a ∷ t) (suc n) e = let h = within_by t n e in omega arith

pub rune_front : (text inside : List ℕ) (code n : ℕ) → get_or text 0 0 ≡ 39 → inside ≡ drop 1 text → IsOnlyFront IsRuneItem inside code n → get_or inside n 0 ≡ 39 → IsOnlyFront IsRune text code (n + 2)
rune_front text inside code n first is_inside item close =
    let is : text ≡ 39 ∷ inside = head_is text 39 first (omega arith) ∙ ap (λ l. 39 ∷ l) (sym is_inside) in
    let less = within_by inside n close in
    let two : n + 2 ≡ suc (n + 1) = omega arith in
    let whole : take (n + 2) text ≡ 39 ∷ (take n inside ++ 39 ∷ []) =
    (λ i. take (two i) (is i)) ∙ ap (λ l. 39 ∷ l) (take_more inside n 0 less ∙ ap (λ c. take n inside ++ c ∷ []) close) in
    record {
      some = omega arith;
      within = omega (arith, ap length is, less);
      is = (take n inside, whole, item.is);
      only = λ m other within rune.
          let p = rune_inside text inside m other is within rune in
          let q = item.only p.0 other p.2 p.3 in
          (omega (arith, p.1, q.0), q.1);
    }

pub rune_none : (text inside : List ℕ) → get_or text 0 0 ≡ 39 → inside ≡ drop 1 text → NoFront IsRuneItem inside → NoFront IsRune text
rune_none text inside first is_inside none m other within rune =
    let is : text ≡ 39 ∷ inside = head_is text 39 first (omega arith) ∙ ap (λ l. 39 ∷ l) (sym is_inside) in
    let p = rune_inside text inside m other is within rune in
    none p.0 other p.2 p.3

pub rune_open : (text inside : List ℕ) (code n : ℕ) → get_or text 0 0 ≡ 39 → inside ≡ drop 1 text → IsOnlyFront IsRuneItem inside code n → (get_or inside n 0 ≡ 39 → ⊥) → NoFront IsRune text
rune_open text inside code n first is_inside item other_byte m other within rune =
    let is : text ≡ 39 ∷ inside = head_is text 39 first (omega arith) ∙ ap (λ l. 39 ∷ l) (sym is_inside) in
    let p = rune_inside text inside m other is within rune in
    let q = item.only p.0 other p.2 p.3 in
    other_byte (ap (λ k. get_or inside k 0) (sym q.0) ∙ p.4)

-- the text may be cut behind the quote
pub quote_boundary : (text : List ℕ) → IsUtf8 text → get_or text 0 0 ≡ 39 → IsCharBoundary text 1
quote_boundary text utf8 first =
    let is = head_is text 39 first (omega arith) in
    IsCharBoundary-after_ascii text 0 utf8 (omega (arith, ap length is)) (omega (arith, first))
