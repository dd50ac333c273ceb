-- The laws of positions and offsets.
use Rattle.std.proofs.Common.{◌≡◌, ℕ, zero, suc, ◌+◌, ◌-◌, ◌<◌, ◌≤◌, true, false, cond, List, [], ◌∷◌, ◌++◌, length, get_or, take, drop, refl, sym, ◌∙◌, subst, ap, inl, inr, arith, ⊎_elim}
use Rattle.std.specs.Prelude.{count_by, nat_le}
use Rattle.std.specs.List.{prefix_len}
use Rattle.std.specs.Str.{encode_utf8_all, chars, IsUtf8, IsCharBoundary}
use Rattle.std.proofs.lemmas.Bool.{cases_lt, cases_eq, both_ways, leb-false}
use Rattle.std.proofs.lemmas.Bool.Decides.{nat_tests}
use Rattle.std.proofs.lemmas.List.{length-take-le, length-append, take-append-drop, take-take, take_at, take_all, get_or_past, get_or-drop}
use Rattle.std.proofs.lemmas.List.Sums.{sum_by-le-sum_by, sum_by-append, prefix_len_passes}
use Rattle.std.proofs.lemmas.Str.{chars-append, encodes-append, encodes-chars, chars-encodes, scalars-chars, IsUtf8-between, IsUtf8-drop}
use Rattle.gs_text.specs.declared.position.PosUnit.{PosUnit}
use Rattle.gs_text.specs.declared.position.PosUnit.TheVariants.{Utf16}
use Rattle.gs_text.specs.declared.position.Pos.{Pos}
use Rattle.gs_text.specs.LineEnds.{begins_line, splits_line_end, line_starts, is_in_line, first_line}
use Rattle.gs_text.specs.Lines.{line_start, line_from}
use Rattle.gs_text.specs.LastFit.{IsLastFit}
use Rattle.gs_text.specs.Order.{IsUpTo}
use Rattle.gs_text.specs.Units.{units, units_of, units_of_character}
use Rattle.gs_text.specs.Positions.{line_number, line_before, position_of, fitting, bytes_within, offset_of}
use Rattle.gs_text.proofs.Fits.{fitting_is, fitting-le, fitting-fits, fitting-most, units_of-cons}
use Rattle.gs_text.proofs.LineText.{first_line-IsUtf8}
use Rattle.gs_text.proofs.Offsets.{splits, line_number-there, line_number-start, line-length, within_line}
use Rattle.gs_text.proofs.Starts.{take_while-take, line_starts-rise, line_starts-passes}
use Rattle.gs_text.proofs.Whole.{line_start-whole, bytes_within-le, offset_of-whole, line_front, scalars-take}

-- each character takes a unit
some_unit : (unit : PosUnit) (c : ℕ) → 0 < units_of_character unit c
some_unit Utf16 c = grind (arith, nat_tests)

units_rise : (unit : PosUnit) (cs : List ℕ) (n k : ℕ) → n < k → k ≤ length cs → units_of unit (take n cs) < units_of unit (take k cs)
units_rise unit [] n k before within = absurd (omega arith)
units_rise unit (c ∷ cs) n zero before within = absurd (omega arith)
units_rise unit (c ∷ cs) zero (suc k) before within = omega (arith, units_of-cons unit c (take k cs), some_unit unit c)
units_rise unit (c ∷ cs) (suc n) (suc k) before within =
    omega (arith, units_of-cons unit c (take n cs), units_of-cons unit c (take k cs), units_rise unit cs n k (omega arith) (omega arith))

-- the units of a front tell how long it is
bytes_within-front : (unit : PosUnit) (line : List ℕ) (n : ℕ) → n ≤ length line → IsUtf8 (take n line) → bytes_within unit line (units unit (take n line)) ≡ n
bytes_within-front unit line n within utf8 =
    let xs : List ℕ = chars (take n line) in
    let ys : List ℕ = chars (drop n line) in
    let parts : chars line ≡ xs ++ ys = ap chars (sym (take-append-drop n line)) ∙ chars-append (take n line) (drop n line) utf8 in
    let front : take (length xs) (chars line) ≡ xs = ap (take (length xs)) parts ∙ take_at xs ys (length xs) refl in
    let short : length xs ≤ length (chars line) = omega (arith, ap length parts, length-append xs ys) in
    let fits : fitting unit (chars line) (units unit (take n line)) ≡ length xs =
    fitting_is unit (chars line) (units unit (take n line)) (length xs) short (omega (arith, ap (units_of unit) front))
    (λ k over upto. omega (arith, units_rise unit (chars line) (length xs) k over upto, ap (units_of unit) front)) in
    ap (λ k. length (encode_utf8_all (take k (chars line)))) fits
    ∙ ap (λ l. length (encode_utf8_all l)) front
    ∙ ap length (encodes-chars (take n line) utf8)
    ∙ length-take-le n line within

-- the part of a line before an offset is text
line_before-IsUtf8 : (text : List ℕ) (start offset : ℕ) → IsUtf8 text → start ≤ offset → IsCharBoundary text start → IsCharBoundary text offset → IsUtf8 (line_before text start offset)
line_before-IsUtf8 text start offset utf8 order whole later =
    subst IsUtf8 (take_while-take is_in_line (offset - start) (drop start text))
    (first_line-IsUtf8 (take (offset - start) (drop start text)) (IsUtf8-between text start offset utf8 order whole later))

pub comes_back : (unit : PosUnit) (text : List ℕ) (offset : ℕ) → IsUtf8 text → IsCharBoundary text offset → splits_line_end text offset ≡ false → offset_of unit text (position_of unit text offset) ≡ offset
comes_back unit text offset utf8 whole outside =
    let start : ℕ = line_start text (line_number text offset) in
    let before = line_number-start text offset in
    let inside = within_line text offset whole.0 outside in
    let front = line_before-IsUtf8 text start offset utf8 before (line_start-whole text (line_number text offset) utf8) whole in
    omega (arith, bytes_within-front unit (line_from text start) (offset - start) (omega arith) front)

-- a later offset is on no earlier line
line_number-rises : (text : List ℕ) (offset later : ℕ) → offset ≤ later → line_number text offset ≤ line_number text later
line_number-rises text offset later order =
    omega (arith, sum_by-le-sum_by (λ s. cond (nat_le s offset) 1 0) (λ s. cond (nat_le s later) 1 0) (line_starts text) (λ s. one_more s offset later order))
  where
    one_more : (s offset later : ℕ) → offset ≤ later → cond (nat_le s offset) 1 0 ≤ cond (nat_le s later) 1 0
    one_more s offset later order = grind (arith, nat_tests)

-- of two fronts of a line the longer takes no fewer units
units_before-rise : (unit : PosUnit) (line : List ℕ) (n k : ℕ) → n ≤ k → IsUtf8 (take n line) → units unit (take n line) ≤ units unit (take k line)
units_before-rise unit line n k order utf8 =
    let front : take n (take k line) ≡ take n line = take-take n k line order in
    let parts = ap chars (sym (take-append-drop n (take k line)) ∙ ap (λ l. l ++ drop n (take k line)) front) ∙ chars-append (take n line) (drop n (take k line)) utf8 in
    omega (arith, ap (units_of unit) parts, sum_by-append (units_of_character unit) (chars (take n line)) (chars (drop n (take k line))))

pub rise : (unit : PosUnit) (text : List ℕ) (offset later : ℕ) → IsUtf8 text → IsCharBoundary text offset → offset ≤ later → IsUpTo (position_of unit text offset) (position_of unit text later)
rise unit text offset later utf8 whole order =
    let line : ℕ = line_number text offset in
    let start : ℕ = line_start text line in
    let rises = line_number-rises text offset later order in
    ⊎_elim
    (λ same.
    let front = line_before-IsUtf8 text start offset utf8 (line_number-start text offset) (line_start-whole text line utf8) whole in
    let more = units_before-rise unit (line_from text start) (offset - start) (later - start) (omega arith) front in
    inr (same, subst (λ n. units unit (line_before text start offset) ≤ units unit (line_before text (line_start text n) later)) same more))
    (λ apart. inl (omega (arith, apart)))
    (cases_eq line (line_number text later))

-- more units have room for no fewer bytes
bytes_within-rise : (unit : PosUnit) (line : List ℕ) (most more : ℕ) → most ≤ more → bytes_within unit line most ≤ bytes_within unit line more
bytes_within-rise unit line most more order =
    let cs : List ℕ = chars line in
    let n : ℕ = fitting unit cs most in
    let k : ℕ = fitting unit cs more in
    let fits = fitting-fits unit cs most in
    let upto = fitting-most unit cs more n (fitting-le unit cs most) (omega arith) in
    let front : take n (take k cs) ≡ take n cs = take-take n k cs upto in
    let parts = sym (take-append-drop n (take k cs)) ∙ ap (λ l. l ++ drop n (take k cs)) front in
    omega (arith, ap (λ l. length (encode_utf8_all l)) parts, ap length (encodes-append (take n cs) (drop n (take k cs))), length-append (encode_utf8_all (take n cs)) (encode_utf8_all (drop n (take k cs))))

-- the units of the characters that fit
units_within : (unit : PosUnit) (text : List ℕ) (most : ℕ) → IsUtf8 text → units unit (take (bytes_within unit (first_line text) most) (first_line text)) ≤ most
units_within unit text most utf8 =
    let cs : List ℕ = chars (first_line text) in
    let n : ℕ = fitting unit cs most in
    let scalars = scalars-take n cs (scalars-chars (first_line text) (first_line-IsUtf8 text utf8)) in
    let front = ap (units unit) (line_front text n utf8) ∙ ap (units_of unit) (chars-encodes (take n cs) scalars) in
    omega (arith, fitting-fits unit cs most, front)

pub last_fit : (unit : PosUnit) (text : List ℕ) (p : Pos) → IsUtf8 text → IsLastFit unit text (line_start text p.line) p.character (offset_of unit text p)
last_fit unit text p utf8 =
    let start : ℕ = line_start text p.line in
    let most : ℕ = p.character in
    let bytes : ℕ = bytes_within unit (line_from text start) most in
    let start_whole = line_start-whole text p.line utf8 in
    let rest = IsUtf8-drop text start utf8 start_whole in
    let back : start + bytes - start ≡ bytes = omega arith in
    record {
      from = omega arith;
      upto = omega (arith, bytes_within-le unit (drop start text) most rest);
      whole = offset_of-whole unit text p utf8;
      fits = omega (arith, ap (λ n. units unit (take n (line_from text start))) back, units_within unit (drop start text) most rest);
      last = λ at whole within few.
          ⊎_elim
          (λ early. omega arith)
          (λ late.
          let front = line_before-IsUtf8 text start at utf8 late start_whole whole in
          let here = bytes_within-front unit (line_from text start) (at - start) (omega arith) front in
          omega (arith, here, bytes_within-rise unit (line_from text start) (units unit (line_before text start at)) most few))
          (cases_lt at start);
    }

-- the byte before a line's beginning belongs to a line end
ends_before : (text : List ℕ) (at : ℕ) → begins_line text at ≡ true → 0 < at → is_in_line (get_or text (at - 1) 0) ≡ false
ends_before text at begins after = grind (arith, nat_tests)

-- a line goes no further than the first byte of a line end
line_stops : (text : List ℕ) (start at : ℕ) → start ≤ at → is_in_line (get_or text at 0) ≡ false → start + length (line_from text start) ≤ at
line_stops text start at order stop =
    let k : ℕ = at - start in
    let here : start + k ≡ at = omega arith in
    let ends = ap is_in_line (get_or-drop start text k 0 ∙ ap (λ n. get_or text n 0) here) ∙ stop in
    ⊎_elim
    (λ inside. absurd (both_ways (is_in_line (get_or (drop start text) k 0)) ends (prefix_len_passes is_in_line (drop start text) k 0 inside)))
    (λ short. omega (arith, line-length text start))
    (cases_lt k (prefix_len is_in_line (drop start text)))

-- a line ends before a later one begins
line_ends : (text : List ℕ) (start next : ℕ) → start < next → begins_line text next ≡ true → start + length (line_from text start) < next
line_ends text start next before begins =
    omega (arith, line_stops text start (next - 1) (omega arith) (ends_before text next begins (omega arith)))

-- the offset of a position is no further than its line's end
offset_of-line : (unit : PosUnit) (text : List ℕ) (p : Pos) → IsUtf8 text → offset_of unit text p ≤ line_start text p.line + length (line_from text (line_start text p.line))
offset_of-line unit text p utf8 =
    omega (arith, bytes_within-le unit (drop (line_start text p.line) text) p.character (IsUtf8-drop text (line_start text p.line) utf8 (line_start-whole text p.line utf8)))

earlier_line : (unit : PosUnit) (text : List ℕ) (p q : Pos) → IsUtf8 text → p.line < q.line → offset_of unit text p ≤ offset_of unit text q
earlier_line unit text p q utf8 before =
    let starts : List ℕ = line_starts text in
    let whole = offset_of-whole unit text p utf8 in
    ⊎_elim
    (λ there.
    let start : ℕ = line_start text p.line in
    let next : ℕ = line_start text q.line in
    let rises = line_starts-rise text p.line q.line (length text) before there in
    let ends = line_ends text start next rises (line_starts-passes text q.line (length text) there) in
    omega (arith, offset_of-line unit text p utf8))
    (λ past. omega (arith, get_or_past starts q.line (length text) past))
    (cases_lt q.line (length starts))

pub offsets_rise : (unit : PosUnit) (text : List ℕ) (p q : Pos) → IsUtf8 text → IsUpTo p q → offset_of unit text p ≤ offset_of unit text q
offsets_rise unit text p q utf8 upto =
    ⊎_elim
    (λ earlier. earlier_line unit text p q utf8 earlier)
    (λ same.
    let more = bytes_within-rise unit (line_from text (line_start text p.line)) p.character q.character same.1 in
    let lines = ap (λ n. line_start text n + bytes_within unit (line_from text (line_start text n)) q.character) same.0 in
    omega (arith, lines))
    upto

-- between a CR and its LF
record BetweenEnds (text : List ℕ) (at : ℕ) : Type 0 where
  after : 0 < at
  cr : is_in_line (get_or text (at - 1) 0) ≡ false
  no_line : begins_line text at ≡ false

between : (text : List ℕ) (at : ℕ) → splits_line_end text at ≡ true → BetweenEnds text at
between text at inside = record { after = grind (arith, nat_tests); cr = grind (arith, nat_tests); no_line = grind (arith, nat_tests) }

-- a line that begins at an offset or before it is no later than the offset's
line_number-reaches : (text : List ℕ) (offset line : ℕ) → line < length (line_starts text) → line_start text line ≤ offset → line ≤ line_number text offset
line_number-reaches text offset line there before =
    let n : ℕ = count_by (λ s. nat_le s offset) (line_starts text) in
    ⊎_elim
    (λ low. omega arith)
    (λ high. absurd (omega (arith, leb-false _ _ ((splits text offset).1 line (length text) high there))))
    (cases_lt line n)

pub one_place : (unit : PosUnit) (text : List ℕ) (offset : ℕ) → splits_line_end text offset ≡ true → position_of unit text offset ≡ position_of unit text (offset - 1)
one_place unit text offset inside =
    let ends = between text offset inside in
    let after = ends.after in
    let line : ℕ = line_number text offset in
    let start : ℕ = line_start text line in
    let there = line_number-there text offset in
    let upto = line_number-start text offset in
    let before : start ≤ offset - 1 =
    ⊎_elim
    (λ same. absurd (both_ways (begins_line text offset) ends.no_line (ap (begins_line text) (sym same) ∙ line_starts-passes text line (length text) there)))
    (λ apart. omega (arith, apart))
    (cases_eq start offset) in
    let low = line_number-reaches text (offset - 1) line there before in
    let same_line : line ≡ line_number text (offset - 1) = omega (arith, line_number-rises text (offset - 1) offset (omega arith), low) in
    let stop = line_stops text start (offset - 1) before ends.cr in
    let whole = take_all (offset - start) (line_from text start) (omega arith) ∙ sym (take_all (offset - 1 - start) (line_from text start) (omega arith)) in
    let same = ap (units unit) whole ∙ ap (λ n. units unit (line_before text (line_start text n) (offset - 1))) same_line in
    λ k. record { line = same_line k; character = same k }
