-- The line of an offset.
use Rattle.std.proofs.Common.{◌≡◌, ℕ, ◌+◌, ◌-◌, ◌<◌, ◌≤◌, ◌⊎◌, true, false, List, length, get_or, drop, sym, ◌∙◌, ap, arith, ⊎_elim}
use Rattle.std.specs.Prelude.{count_by, nat_le, ◌==◌}
use Rattle.std.specs.List.{range_with_len, prefix_len}
use Rattle.std.proofs.lemmas.Bool.{cond-false, cases_lt, cases_Bool, both_ways, leb-false}
use Rattle.std.proofs.lemmas.Bool.Decides.{nat_tests}
use Rattle.std.proofs.lemmas.List.{length-take, length-drop, get_or-drop, get_or_default}
use Rattle.std.proofs.lemmas.List.FromFn.{length-range_with_len, get_or-range_with_len}
use Rattle.std.proofs.lemmas.List.Sums.{count_by-le-length, prefix_len_stops, prefix_len-le-length}
use Rattle.std.proofs.lemmas.List.Sorted.{IsPartitionedBy-leb}
use Rattle.gs_text.specs.LineEnds.{begins_line, byte_at, byte_before, splits_line_end, line_starts, is_in_line}
use Rattle.gs_text.specs.Lines.{line_start, line_from}
use Rattle.gs_text.specs.Positions.{line_number}
use Rattle.gs_text.proofs.Starts.{Splits, Splits-some, Splits-start, line_starts-sorted}
use Rattle.gs_text.proofs.Counts.{filter-keeps, partition-count}

pub splits : (text : List ℕ) (offset : ℕ) → Splits text offset (count_by (λ s. nat_le s offset) (line_starts text))
splits text offset = partition-count (λ s. nat_le s offset) (line_starts text) (IsPartitionedBy-leb (λ s. s) (line_starts text) offset (line_starts-sorted text))

-- the line of an offset is there, and begins at the offset or before it
pub line_number-there : (text : List ℕ) (offset : ℕ) → line_number text offset < length (line_starts text)
line_number-there text offset =
    omega (arith, Splits-some text offset (count_by (λ s. nat_le s offset) (line_starts text)) (splits text offset), count_by-le-length (λ s. nat_le s offset) (line_starts text))

pub line_number-start : (text : List ℕ) (offset : ℕ) → line_start text (line_number text offset) ≤ offset
line_number-start text offset =
    Splits-start text offset (count_by (λ s. nat_le s offset) (line_starts text)) (length text) (splits text offset)

-- a line that begins at the offset or before it begins no later than the offset's line
pub line_number-last : (text : List ℕ) (offset at : ℕ) → begins_line text at ≡ true → at ≤ length text → at ≤ offset → at ≤ line_start text (line_number text offset)
line_number-last text offset at begins within upto =
    let range : get_or (range_with_len 0 (length text + 1)) at 0 ≡ at = get_or-range_with_len 0 (length text + 1) at 0 (omega arith) ∙ zero_add at in
    let kept = filter-keeps (begins_line text) (range_with_len 0 (length text + 1)) at (omega (arith, length-range_with_len 0 (length text + 1))) (ap (begins_line text) range ∙ begins) in
    last_of text offset at kept.0 kept.1 (kept.2 ∙ range) upto
  where
    zero_add : (n : ℕ) → 0 + n ≡ n
    zero_add n = omega arith

    last_of : (text : List ℕ) (offset at j : ℕ) → j < length (line_starts text) → get_or (line_starts text) j 0 ≡ at → at ≤ offset → at ≤ line_start text (line_number text offset)
    last_of text offset at j there is upto =
        let n : ℕ = count_by (λ s. nat_le s offset) (line_starts text) in
        let split = splits text offset in
        let bound = line_number-there text offset in
        let some = Splits-some text offset n split in
        let before : j < n =
        ⊎_elim
        (λ low. low)
        (λ high. absurd (omega (arith, leb-false _ _ (split.1 j 0 high there))))
        (cases_lt j n) in
        let here = line_starts-sorted text j (n - 1) 0 (omega arith) (omega arith) in
        omega (arith, here, get_or_default (line_starts text) (n - 1) 0 (length text) (omega arith))

-- behind a LF, and behind a CR that no LF follows, a line begins
before-next : (text : List ℕ) (at : ℕ) → byte_before text (at + 1) ≡ get_or text at 0
before-next text at =
    let there : (at + 1 == 0) ≡ false = grind (arith, nat_tests) in
    let back : at + 1 - 1 ≡ at = omega arith in
    cond-false (at + 1 == 0) 0 (get_or text (at + 1 - 1) 0) there ∙ ap (λ n. get_or text n 0) back

begins-lf : (text : List ℕ) (at : ℕ) → byte_before text at ≡ 10 → begins_line text at ≡ true
begins-lf text at lf = grind (arith, nat_tests)

begins-cr : (text : List ℕ) (at : ℕ) → byte_before text at ≡ 13 → splits_line_end text at ≡ false → begins_line text at ≡ true
begins-cr text at cr whole = grind (arith, nat_tests)

splits-bytes : (text : List ℕ) (at : ℕ) → splits_line_end text at ≡ true → (byte_before text at ≡ 13) × (byte_at text at ≡ 10)
splits-bytes text at inside = grind (arith, nat_tests)

ends : (b : ℕ) → is_in_line b ≡ false → (b ≡ 10) ⊎ (b ≡ 13)
ends b e = grind (arith, nat_tests)

-- a line's length, and the byte behind it
pub line-length : (text : List ℕ) (start : ℕ) → length (line_from text start) ≡ prefix_len is_in_line (drop start text)
line-length text start =
    omega (arith, length-take (prefix_len is_in_line (drop start text)) (drop start text), prefix_len-le-length is_in_line (drop start text))

byte_behind : (text : List ℕ) (start : ℕ) → start + length (line_from text start) < length text → is_in_line (get_or text (start + length (line_from text start)) 0) ≡ false
byte_behind text start within =
    let n : ℕ = prefix_len is_in_line (drop start text) in
    let long = line-length text start in
    ap is_in_line (ap (λ k. get_or text (start + k) 0) long ∙ sym (get_or-drop start text n 0))
    ∙ prefix_len_stops is_in_line (drop start text) 0 (omega (arith, length-drop start text))

-- behind a line's end, at an offset that is no line's inside
next_line : (text : List ℕ) (start offset : ℕ) → start + length (line_from text start) < offset → offset ≤ length text → splits_line_end text offset ≡ false → (at : ℕ) × (start < at) × (at ≤ offset) × (begins_line text at ≡ true)
next_line text start offset after within whole =
    let e : ℕ = start + length (line_from text start) in
    let before = before-next text e in
    ⊎_elim
    (λ lf. (e + 1, omega arith, omega arith, begins-lf text (e + 1) (before ∙ lf)))
    (λ cr.
    ⊎_elim
    (λ inside.
    let second = splits-bytes text (e + 1) inside in
    let apart : e + 1 < offset =
    ⊎_elim
    (λ low. low)
    (λ high.
    let same : e + 1 ≡ offset = omega arith in
    absurd (both_ways (splits_line_end text offset) whole (ap (splits_line_end text) (sym same) ∙ inside)))
    (cases_lt (e + 1) offset) in
    (e + 1 + 1, omega arith, omega arith, begins-lf text (e + 1 + 1) (before-next text (e + 1) ∙ second.1)))
    (λ alone. (e + 1, omega arith, omega arith, begins-cr text (e + 1) (before ∙ cr) alone))
    (cases_Bool (splits_line_end text (e + 1))))
    (ends _ (byte_behind text start (omega arith)))

-- an offset lies within its line, unless it lies between a CR and its LF
pub within_line : (text : List ℕ) (offset : ℕ) → offset ≤ length text → splits_line_end text offset ≡ false → offset ≤ line_start text (line_number text offset) + length (line_from text (line_start text (line_number text offset)))
within_line text offset within whole =
    let start : ℕ = line_start text (line_number text offset) in
    ⊎_elim
    (λ past.
    let next = next_line text start offset past within whole in
    let after = next.1 in
    let last = line_number-last text offset next.0 next.3 (let upto = next.2 in omega arith) next.2 in
    absurd (omega arith))
    (λ inside. inside)
    (cases_lt (start + length (line_from text start)) offset)
