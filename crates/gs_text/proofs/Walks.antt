-- One step of a walk over the characters of a text, which stops at its first line end.
use Rattle.std.proofs.Common.{◌≡◌, ℕ, ◌+◌, ◌-◌, ◌<◌, ◌≤◌, ◌⊎◌, true, false, List, [], ◌∷◌, length, get_or, drop, sym, ◌∙◌, ap, arith, ⊎_elim}
use Rattle.std.specs.Prelude.{take_while}
use Rattle.std.specs.List.{prefix_len}
use Rattle.std.specs.Str.{encode_utf8_all, chars, IsUtf8}
use Rattle.std.specs.Char.{len_utf8}
use Rattle.std.proofs.lemmas.Bool.{cond-true, cond-false, cases_Bool}
use Rattle.std.proofs.lemmas.List.{drop_more, drop_all, length-take}
use Rattle.std.proofs.lemmas.List.Sums.{take_while-cons}
use Rattle.std.proofs.lemmas.Str.{encodes-chars}
use Rattle.gs_text.specs.declared.position.PosUnit.{PosUnit}
use Rattle.gs_text.specs.LineEnds.{is_in_line, first_line}
use Rattle.gs_text.specs.Units.{units, units_of, units_of_character}
use Rattle.gs_text.specs.Positions.{bytes_within}
use Rattle.gs_text.proofs.Fits.{fit_len, fit_len-first, fit_len-none, fit_len-le, units_of-cons, units_of-le}
use Rattle.gs_text.proofs.LineText.{chars-first_line, first_line-IsUtf8}

-- the characters of the first line from the i-th of the text on
abbrev pub line_rest : List ℕ → ℕ → List ℕ
line_rest cs i = take_while is_in_line (drop i cs)

-- the i-th character is c
abbrev pub Reads : List ℕ → ℕ → ℕ → Type 0
Reads cs i c = (i < length cs) × (c ≡ get_or cs i c)

pub line_rest-more : (cs : List ℕ) (i c : ℕ) → Reads cs i c → is_in_line c ≡ true → line_rest cs i ≡ c ∷ line_rest cs (i + 1)
line_rest-more cs i c read passes =
    ap (take_while is_in_line) (drop_more cs i c read.0 ∙ ap (λ x. x ∷ drop (i + 1) cs) (sym read.1))
    ∙ take_while-cons is_in_line c (drop (i + 1) cs)
    ∙ cond-true (is_in_line c) (c ∷ line_rest cs (i + 1)) [] passes

pub line_rest-stop : (cs : List ℕ) (i c : ℕ) → Reads cs i c → is_in_line c ≡ false → line_rest cs i ≡ []
line_rest-stop cs i c read fails =
    ap (take_while is_in_line) (drop_more cs i c read.0 ∙ ap (λ x. x ∷ drop (i + 1) cs) (sym read.1))
    ∙ take_while-cons is_in_line c (drop (i + 1) cs)
    ∙ cond-false (is_in_line c) (c ∷ line_rest cs (i + 1)) [] fails

pub line_rest-end : (cs : List ℕ) (i : ℕ) → length cs ≤ i → line_rest cs i ≡ []
line_rest-end cs i past = ap (take_while is_in_line) (drop_all i cs past)

pub fit_more : (unit : PosUnit) (cs : List ℕ) (i c left : ℕ) → Reads cs i c → is_in_line c ≡ true → units_of_character unit c ≤ left → fit_len unit left (line_rest cs i) ≡ len_utf8 c + fit_len unit (left - units_of_character unit c) (line_rest cs (i + 1))
fit_more unit cs i c left read passes fits =
    ap (fit_len unit left) (line_rest-more cs i c read passes) ∙ fit_len-first unit c (line_rest cs (i + 1)) left fits

fit_wide : (unit : PosUnit) (cs : List ℕ) (i c left : ℕ) → Reads cs i c → left < units_of_character unit c → fit_len unit left (line_rest cs i) ≡ 0
fit_wide unit cs i c left read wide =
    ⊎_elim
    (λ passes. ap (fit_len unit left) (line_rest-more cs i c read passes) ∙ fit_len-none unit c (line_rest cs (i + 1)) left wide)
    (λ fails. ap (fit_len unit left) (line_rest-stop cs i c read fails))
    (cases_Bool (is_in_line c))

fit_stop : (unit : PosUnit) (cs : List ℕ) (i c left : ℕ) → Reads cs i c → is_in_line c ≡ false → fit_len unit left (line_rest cs i) ≡ 0
fit_stop unit cs i c left read fails = ap (fit_len unit left) (line_rest-stop cs i c read fails)

pub fit_stopped : (unit : PosUnit) (cs : List ℕ) (i c left : ℕ) → Reads cs i c → (is_in_line c ≡ false) ⊎ (left < units_of_character unit c) → fit_len unit left (line_rest cs i) ≡ 0
fit_stopped unit cs i c left read stops = ⊎_elim (λ ends. fit_stop unit cs i c left read ends) (λ wide. fit_wide unit cs i c left read wide) stops

pub fit_end : (unit : PosUnit) (cs : List ℕ) (i left : ℕ) → length cs ≤ i → fit_len unit left (line_rest cs i) ≡ 0
fit_end unit cs i left past = ap (fit_len unit left) (line_rest-end cs i past)

pub units_more : (unit : PosUnit) (cs : List ℕ) (i c : ℕ) → Reads cs i c → is_in_line c ≡ true → units_of unit (line_rest cs i) ≡ units_of_character unit c + units_of unit (line_rest cs (i + 1))
units_more unit cs i c read passes = ap (units_of unit) (line_rest-more cs i c read passes) ∙ units_of-cons unit c (line_rest cs (i + 1))

-- at the start the walk has the whole first line before it
pub bytes_within-walk : (unit : PosUnit) (text : List ℕ) (most : ℕ) → IsUtf8 text → bytes_within unit (first_line text) most ≡ fit_len unit most (line_rest (chars text) 0)
bytes_within-walk unit text most utf8 = ap (fit_len unit most) (chars-first_line text utf8)

pub fit_len-within : (unit : PosUnit) (text : List ℕ) (most : ℕ) → IsUtf8 text → fit_len unit most (line_rest (chars text) 0) ≤ length text
fit_len-within unit text most utf8 =
    let line = ap length (ap encode_utf8_all (sym (chars-first_line text utf8)) ∙ encodes-chars (first_line text) (first_line-IsUtf8 text utf8)) in
    omega (arith, fit_len-le unit most (line_rest (chars text) 0), line, length-take (prefix_len is_in_line text) text)

pub units_walk : (unit : PosUnit) (text : List ℕ) → IsUtf8 text → units unit (first_line text) ≡ units_of unit (line_rest (chars text) 0)
units_walk unit text utf8 = ap (units_of unit) (chars-first_line text utf8)

pub units_within : (unit : PosUnit) (text : List ℕ) → IsUtf8 text → units unit text ≤ length text
units_within unit text utf8 = omega (arith, units_of-le unit (chars text), ap length (encodes-chars text utf8))

pub line_units_within : (unit : PosUnit) (text : List ℕ) → IsUtf8 text → units_of unit (line_rest (chars text) 0) ≤ length text
line_units_within unit text utf8 =
    omega (arith, units_walk unit text utf8, units_within unit (first_line text) (first_line-IsUtf8 text utf8), length-take (prefix_len is_in_line text) text)
