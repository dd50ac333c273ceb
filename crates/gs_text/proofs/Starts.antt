-- Where the lines of a text begin.
use Rattle.std.proofs.Common.{◌≡◌, ℕ, zero, suc, ◌+◌, ◌-◌, ◌<◌, ◌≤◌, Bool, true, false, cond, List, [], ◌∷◌, length, get_or, take, refl, sym, ◌∙◌, subst, ap, arith, ⊎_elim}
use Rattle.std.specs.Prelude.{filter, count_by, nat_le, take_while}
use Rattle.std.specs.List.{range_with_len, All}
use Rattle.std.specs.List.Sorted.{IsStrictlyIncreasing, IsNonDecreasingBy, IsPartitionPoint}
use Rattle.std.specs.Str.{IsUtf8, IsCharBoundary}
use Rattle.std.proofs.lemmas.Bool.{cond-true, cond-false, cases_Bool, cases_eq, leb-false, leb-true}
use Rattle.std.proofs.lemmas.Bool.Decides.{nat_tests}
use Rattle.std.proofs.lemmas.List.Elements.{filter_passes, All-filter}
use Rattle.std.proofs.lemmas.List.FromFn.{length-range_with_len, get_or-range_with_len}
use Rattle.std.proofs.lemmas.List.Kept.{IsStrictlyIncreasing-filter, AllPairs-from_increasing}
use Rattle.std.proofs.lemmas.List.Sums.{length-filter, count_by-le-length, sum_by-cons, take_while-cons}
use Rattle.std.proofs.lemmas.Str.{IsCharBoundary-start, IsCharBoundary-after_ascii}
use Rattle.gs_text.specs.LineEnds.{begins_line, line_starts}
use Rattle.gs_text.specs.Positions.{line_number}

-- the first line begins with the text
pub line_starts-first : (text : List ℕ) → (rest : List ℕ) × (line_starts text ≡ 0 ∷ rest)
line_starts-first text =
    let one_more : length text + 1 ≡ suc (length text) = omega arith in
    (filter (begins_line text) (range_with_len 1 (length text)), ap (λ n. filter (begins_line text) (range_with_len 0 n)) one_more)

pub line_starts-some : (text : List ℕ) → 0 < length (line_starts text)
line_starts-some text = let first = line_starts-first text in omega (arith, ap length first.1)

pub line_starts-begin : (text : List ℕ) → get_or (line_starts text) 0 0 ≡ 0
line_starts-begin text = let first = line_starts-first text in ap (λ l. get_or l 0 0) first.1

pub line_starts-count : (text : List ℕ) → length (line_starts text) ≤ length text + 1
line_starts-count text =
    omega (arith, length-filter (begins_line text) (range_with_len 0 (length text + 1)), count_by-le-length (begins_line text) (range_with_len 0 (length text + 1)), length-range_with_len 0 (length text + 1))

pub line_starts-passes : (text : List ℕ) (i d : ℕ) → i < length (line_starts text) → begins_line text (get_or (line_starts text) i d) ≡ true
line_starts-passes text i d within = filter_passes (begins_line text) (range_with_len 0 (length text + 1)) i d within

range-below : (n : ℕ) → All (λ s. s < n) (range_with_len 0 n)
range-below n k d within =
    omega (arith, get_or-range_with_len 0 n k d (omega (arith, length-range_with_len 0 n)), length-range_with_len 0 n)

pub line_starts-within : (text : List ℕ) (i d : ℕ) → i < length (line_starts text) → get_or (line_starts text) i d ≤ length text
line_starts-within text i d within =
    let below = All-filter (begins_line text) (λ s. s < length text + 1) (range_with_len 0 (length text + 1)) (range-below (length text + 1)) i d within in
    omega (arith, below)

range-increasing : (n : ℕ) → IsStrictlyIncreasing (range_with_len 0 n)
range-increasing n k within =
    let short = length-range_with_len 0 n in
    omega (arith, get_or-range_with_len 0 n k 0 (omega (arith, short)), get_or-range_with_len 0 n (k + 1) 0 (omega (arith, short)))

-- each line begins before the later ones
pub line_starts-rise : (text : List ℕ) (i j d : ℕ) → i < j → j < length (line_starts text) → get_or (line_starts text) i d < get_or (line_starts text) j d
line_starts-rise text i j d before within =
    AllPairs-from_increasing (line_starts text) (IsStrictlyIncreasing-filter (begins_line text) (range_with_len 0 (length text + 1)) (range-increasing (length text + 1))) i j d before within

pub line_starts-sorted : (text : List ℕ) → IsNonDecreasingBy (λ s. s) (line_starts text)
line_starts-sorted text i j d upto within =
    ⊎_elim
    (λ same. omega (arith, ap (λ k. get_or (line_starts text) k d) same))
    (λ apart. omega (arith, line_starts-rise text i j d (omega (arith, apart)) within))
    (cases_eq i j)

-- before a line's beginning stands a byte of a line end
pub line_end_before : (text : List ℕ) (at : ℕ) → begins_line text at ≡ true → 0 < at → get_or text (at - 1) 0 < 128
line_end_before text at begins after = grind (arith, nat_tests)

-- a line begins at a whole character
pub begins_line-whole : (text : List ℕ) (at : ℕ) → IsUtf8 text → begins_line text at ≡ true → at ≤ length text → IsCharBoundary text at
begins_line-whole text zero utf8 begins within = IsCharBoundary-start text utf8
begins_line-whole text (suc at) utf8 begins within =
    let ascii = line_end_before text (suc at) begins (omega arith) in
    let here : suc at - 1 ≡ at = omega arith in
    let same : at + 1 ≡ suc at = omega arith in
    subst (λ n. IsCharBoundary text n) same (IsCharBoundary-after_ascii text at utf8 (omega arith) (omega (arith, ap (λ n. get_or text n 0) here, ascii)))

pub line_starts-whole : (text : List ℕ) (i d : ℕ) → IsUtf8 text → i < length (line_starts text) → IsCharBoundary text (get_or (line_starts text) i d)
line_starts-whole text i d utf8 within =
    begins_line-whole text (get_or (line_starts text) i d) utf8 (line_starts-passes text i d within) (line_starts-within text i d within)

-- how many pass, where the passing stand in front
pub count_by-partition : (p : ℕ → Bool) (xs : List ℕ) (i : ℕ) → i ≤ length xs → IsPartitionPoint (λ y. p y ≡ true) (λ y. p y ≡ false) xs i → count_by p xs ≡ i
count_by-partition p [] i within point = omega arith
count_by-partition p (x ∷ xs) zero within point =
    let fails : p x ≡ false = point.1 0 0 (omega arith) (omega arith) in
    let rest = count_by-partition p xs zero (omega arith) ((λ k d low high. absurd (omega arith)), (λ k d low high. point.1 (suc k) d (omega arith) (omega arith))) in
    omega (arith, sum_by-cons (λ y. cond (p y) 1 0) x xs, cond-false {A = ℕ} (p x) 1 0 fails, rest)
count_by-partition p (x ∷ xs) (suc i) within point =
    let passes : p x ≡ true = point.0 0 0 (omega arith) (omega arith) in
    let rest = count_by-partition p xs i (omega arith) ((λ k d low high. point.0 (suc k) d (omega arith) (omega arith)), (λ k d low high. point.1 (suc k) d (omega arith) (omega arith))) in
    omega (arith, sum_by-cons (λ y. cond (p y) 1 0) x xs, cond-true {A = ℕ} (p x) 1 0 passes, rest)

-- the lines that begin at an offset or before it
abbrev pub Splits : List ℕ → ℕ → ℕ → Type 0
Splits text offset i = IsPartitionPoint (λ s. nat_le s offset ≡ true) (λ s. nat_le s offset ≡ false) (line_starts text) i

pub Splits-of : (starts text : List ℕ) (offset i : ℕ) → starts ≡ line_starts text → IsPartitionPoint (λ s. nat_le s offset ≡ true) (λ s. nat_le s offset ≡ false) starts i → Splits text offset i
Splits-of starts text offset i are split = subst (λ l. IsPartitionPoint (λ s. nat_le s offset ≡ true) (λ s. nat_le s offset ≡ false) l i) are split

pub Splits-some : (text : List ℕ) (offset i : ℕ) → Splits text offset i → 1 ≤ i
Splits-some text offset zero split =
    absurd (omega (arith, leb-false _ _ (split.1 0 0 (omega arith) (line_starts-some text)), line_starts-begin text))
Splits-some text offset (suc i) split = omega arith

pub line_number-split : (text : List ℕ) (offset i : ℕ) → i ≤ length (line_starts text) → Splits text offset i → line_number text offset ≡ i - 1
line_number-split text offset i within split =
    ap (λ n. n - 1) (count_by-partition (λ s. nat_le s offset) (line_starts text) i within split)

-- the last of those lines begins at the offset or before it
pub Splits-start : (text : List ℕ) (offset i d : ℕ) → Splits text offset i → get_or (line_starts text) (i - 1) d ≤ offset
Splits-start text offset i d split =
    let one = Splits-some text offset i split in
    leb-true _ _ (split.0 (i - 1) d (omega arith) (omega arith))

-- a front of what is taken is what is taken of the front
pub take_while-take : (p : ℕ → Bool) (k : ℕ) (xs : List ℕ) → take_while p (take k xs) ≡ take k (take_while p xs)
take_while-take p zero xs = refl
take_while-take p (suc k) [] = refl
take_while-take p (suc k) (x ∷ xs) =
    ⊎_elim
    (λ passes.
    take_while-cons p x (take k xs) ∙ cond-true (p x) (x ∷ take_while p (take k xs)) [] passes
    ∙ ap (λ l. x ∷ l) (take_while-take p k xs)
    ∙ ap (take (suc k)) (sym (take_while-cons p x xs ∙ cond-true (p x) (x ∷ take_while p xs) [] passes)))
    (λ fails.
    take_while-cons p x (take k xs) ∙ cond-false (p x) (x ∷ take_while p (take k xs)) [] fails
    ∙ ap (take (suc k)) (sym (take_while-cons p x xs ∙ cond-false (p x) (x ∷ take_while p xs) [] fails)))
    (cases_Bool (p x))
