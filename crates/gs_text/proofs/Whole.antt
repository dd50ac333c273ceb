-- The offset of a position begins a character, or ends the text.
use Rattle.std.proofs.Common.{◌≡◌, ℕ, zero, suc, ◌≤◌, true, List, [], ◌∷◌, length, take, drop, refl, sym, ◌∙◌, subst, ap, arith, ⊎_elim}
use Rattle.std.specs.List.{prefix_len}
use Rattle.std.specs.Str.{encode_utf8_all, all_scalars, chars, IsUtf8, IsCharBoundary}
use Rattle.std.proofs.lemmas.Bool.{and_parts, and_from, cases_lt}
use Rattle.std.proofs.lemmas.List.{length-take, take-append-drop, take-take, take_at, get_or_past}
use Rattle.std.proofs.lemmas.Str.{encodes-append, encodes-chars, scalars-chars, IsUtf8-drop, IsCharBoundary-from_take, IsCharBoundary-from_rest, IsCharBoundary-end}
use Rattle.gs_text.specs.declared.position.PosUnit.{PosUnit}
use Rattle.gs_text.specs.declared.position.Pos.{Pos}
use Rattle.gs_text.specs.LineEnds.{is_in_line, first_line, line_starts}
use Rattle.gs_text.specs.Lines.{line_start, line_from}
use Rattle.gs_text.specs.Positions.{fitting, bytes_within, offset_of}
use Rattle.gs_text.proofs.Fits.{fit_len-le}
use Rattle.gs_text.proofs.LineText.{first_line-IsUtf8}
use Rattle.gs_text.proofs.Starts.{line_starts-whole}

pub scalars-take : (n : ℕ) (cs : List ℕ) → all_scalars cs ≡ true → all_scalars (take n cs) ≡ true
scalars-take zero cs all = refl
scalars-take (suc n) [] all = refl
scalars-take (suc n) (c ∷ cs) all =
    let parts = and_parts _ (all_scalars cs) all in
    and_from _ (all_scalars (take n cs)) parts.0 (scalars-take n cs parts.1)

-- a text's first line is a front of it
pub first_line-le : (text : List ℕ) → length (first_line text) ≤ length text
first_line-le text = omega (arith, length-take (prefix_len is_in_line text) text)

-- the bytes of a text that are the first characters of its first line
pub line_front : (text : List ℕ) (n : ℕ) → IsUtf8 text → take (length (encode_utf8_all (take n (chars (first_line text))))) (first_line text) ≡ encode_utf8_all (take n (chars (first_line text)))
line_front text n utf8 =
    let cs : List ℕ = chars (first_line text) in
    let line = sym (encodes-chars (first_line text) (first_line-IsUtf8 text utf8)) ∙ ap encode_utf8_all (sym (take-append-drop n cs)) ∙ encodes-append (take n cs) (drop n cs) in
    ap (take (length (encode_utf8_all (take n cs)))) line ∙ take_at (encode_utf8_all (take n cs)) (encode_utf8_all (drop n cs)) (length (encode_utf8_all (take n cs))) refl

pub bytes_within-le : (unit : PosUnit) (text : List ℕ) (most : ℕ) → IsUtf8 text → bytes_within unit (first_line text) most ≤ length (first_line text)
bytes_within-le unit text most utf8 =
    omega (arith, fit_len-le unit most (chars (first_line text)), ap length (encodes-chars (first_line text) (first_line-IsUtf8 text utf8)))

pub bytes_within-whole : (unit : PosUnit) (text : List ℕ) (most : ℕ) → IsUtf8 text → IsCharBoundary text (bytes_within unit (first_line text) most)
bytes_within-whole unit text most utf8 =
    let cs : List ℕ = chars (first_line text) in
    let n : ℕ = fitting unit cs most in
    let i : ℕ = bytes_within unit (first_line text) most in
    let short = bytes_within-le unit text most utf8 in
    let long : length (first_line text) ≤ prefix_len is_in_line text = omega (arith, length-take (prefix_len is_in_line text) text) in
    let front : take i text ≡ encode_utf8_all (take n cs) = sym (take-take i (prefix_len is_in_line text) text (omega arith)) ∙ line_front text n utf8 in
    let scalars = scalars-take n cs (scalars-chars (first_line text) (first_line-IsUtf8 text utf8)) in
    IsCharBoundary-from_take text i utf8 (omega (arith, first_line-le text)) (take n cs, (scalars, sym front))

pub line_start-whole : (text : List ℕ) (line : ℕ) → IsUtf8 text → IsCharBoundary text (line_start text line)
line_start-whole text line utf8 =
    ⊎_elim
    (λ there. line_starts-whole text line (length text) utf8 there)
    (λ past. subst (λ n. IsCharBoundary text n) (sym (get_or_past (line_starts text) line (length text) past)) (IsCharBoundary-end text))
    (cases_lt line (length (line_starts text)))

pub offset_of-whole : (unit : PosUnit) (text : List ℕ) (p : Pos) → IsUtf8 text → IsCharBoundary text (offset_of unit text p)
offset_of-whole unit text p utf8 =
    let start : ℕ = line_start text p.line in
    let whole = line_start-whole text p.line utf8 in
    IsCharBoundary-from_rest text start (bytes_within unit (line_from text start) p.character) whole.0
    (bytes_within-whole unit (drop start text) p.character (IsUtf8-drop text start utf8 whole))
