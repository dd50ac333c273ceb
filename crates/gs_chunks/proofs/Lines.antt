-- The lines of a text, and the comment lines directly above one of them.
use Rattle.std.proofs.Common.{◌≡◌, ℕ, zero, suc, ◌+◌, ◌-◌, ◌≤◌, ◌==◌, Bool, true, false, cond, leb, ◌&&◌, List, [], ◌∷◌, ◌++◌, length, take, drop, map, arith, refl, sym, ap, ◌∙◌, append_assoc, append-nil, Some, None}
use Rattle.std.specs.List.{list_all, list_any}
use Rattle.std.specs.Option.{option_map}
use Rattle.std.proofs.lemmas.Bool.{or_parts, cond-false, and_right, and_left, le-leb}
use Rattle.std.proofs.lemmas.Bool.Decides.{nat_tests}
use Rattle.std.proofs.lemmas.List.{drop-take, take-append-le, map-append, drop-drop}
use Rattle.std.proofs.lemmas.List.Folds.{list_all-append}
use Rattle.gs_syntax.specs.Tokens.{mark_size}
use Rattle.gs_chunks.specs.Docs.{Line, lines_from, lines_before, parted, is_blank, indent, is_comment, said, last_comments, joined, doc_at}
use Rattle.gs_chunks.specs.Walks.{with_line}

-- without an LF
abbrev pub IsOneLine : List ℕ → Type 0
IsOneLine bytes = list_any (λ b. b == 10) bytes ≡ false

lines_one : (first : ℕ) (line : List ℕ) (at : ℕ) (bytes : List ℕ) → IsOneLine bytes → lines_from first line at bytes ≡ (first, line ++ bytes) ∷ []
lines_one first line at [] h = ap (λ l. (first, l) ∷ []) (sym (append-nil line))
lines_one first line at (b ∷ bs) h =
    let parts = or_parts (b == 10) (list_any (λ x. x == 10) bs) h in
    cond-false (b == 10) _ (lines_from first (line ++ b ∷ []) (at + 1) bs) parts.0
    ∙ lines_one first (line ++ b ∷ []) (at + 1) bs parts.1
    ∙ ap (λ l. (first, l) ∷ []) (append_assoc line (b ∷ []) bs)

line_ends : (first : ℕ) (line : List ℕ) (at : ℕ) (bytes more : List ℕ) → IsOneLine bytes →
    lines_from first line at (bytes ++ 10 ∷ more) ≡ (first, line ++ bytes) ∷ lines_from (at + length bytes + 1) [] (at + length bytes + 1) more
line_ends first line at [] more h =
    let here : at + 1 ≡ at + length {A = ℕ} [] + 1 = omega arith in
    let whole = sym (append-nil line) in
    λ i. (first, whole i) ∷ lines_from (here i) [] (here i) more
line_ends first line at (b ∷ bs) more h =
    let parts = or_parts (b == 10) (list_any (λ x. x == 10) bs) h in
    let on : at + 1 + length bs + 1 ≡ at + length (b ∷ bs) + 1 = omega arith in
    let whole = append_assoc line (b ∷ []) bs in
    cond-false (b == 10) _ (lines_from first (line ++ b ∷ []) (at + 1) (bs ++ 10 ∷ more)) parts.0
    ∙ line_ends first (line ++ b ∷ []) (at + 1) bs more parts.1
    ∙ (λ i. (first, whole i) ∷ lines_from (on i) [] (on i) more)

take_past : (xs ys : List ℕ) (k : ℕ) → take (length xs + k) (xs ++ ys) ≡ xs ++ take k ys
take_past [] ys k = let on : length {A = ℕ} [] + k ≡ k = omega arith in ap (λ n. take n ys) on
take_past (x ∷ xs) ys k =
    let on : length (x ∷ xs) + k ≡ suc (length xs + k) = omega arith in
    ap (λ n. take n (x ∷ xs ++ ys)) on ∙ ap (λ l. x ∷ l) (take_past xs ys k)

drop_past : (xs ys : List ℕ) (k : ℕ) → drop (length xs + k) (xs ++ ys) ≡ drop k ys
drop_past [] ys k = let on : length {A = ℕ} [] + k ≡ k = omega arith in ap (λ n. drop n ys) on
drop_past (x ∷ xs) ys k =
    let on : length (x ∷ xs) + k ≡ suc (length xs + k) = omega arith in
    ap (λ n. drop n (x ∷ xs ++ ys)) on ∙ drop_past xs ys k

-- the lines before the offset `at`, at which a line begins
abbrev pub AreAbove : List ℕ → ℕ → List Line → Type 0
AreAbove text at lines = (k : ℕ) → lines_before text (at + k) ≡ lines ++ lines_from at [] at (take k (drop at text))

pub above_first : (text : List ℕ) → AreAbove text (mark_size text) []
above_first text k = ap (lines_from (mark_size text) [] (mark_size text)) (drop-take (mark_size text) k text)

pub rest_next : (text : List ℕ) (at : ℕ) (line more : List ℕ) → drop at text ≡ line ++ 10 ∷ more → drop (at + length line + 1) text ≡ more
rest_next text at line more here =
    let on : at + length line + 1 ≡ at + (length line + 1) = omega arith in
    ap (λ n. drop n text) on ∙ sym (drop-drop (length line + 1) at text) ∙ ap (drop (length line + 1)) here ∙ drop_past line (10 ∷ more) 1

pub above_next : (text : List ℕ) (at : ℕ) (lines : List Line) (line more : List ℕ) → AreAbove text at lines → drop at text ≡ line ++ 10 ∷ more → IsOneLine line →
    AreAbove text (at + length line + 1) (lines ++ (at, line) ∷ [])
above_next text at lines line more above here one k =
    let next = at + length line + 1 in
    let on : next + k ≡ at + (length line + suc k) = omega arith in
    let cut : take (length line + suc k) (drop at text) ≡ line ++ 10 ∷ take k more = ap (take (length line + suc k)) here ∙ take_past line (10 ∷ more) (suc k) in
    let rest = sym (rest_next text at line more here) in
    ap (lines_before text) on
    ∙ above (length line + suc k)
    ∙ ap (λ l. lines ++ lines_from at [] at l) cut
    ∙ ap (λ l. lines ++ l) (line_ends at [] at line (take k more) one)
    ∙ ap (λ l. lines ++ (at, line) ∷ lines_from next [] next (take k l)) rest
    ∙ sym (append_assoc lines ((at, line) ∷ []) (lines_from next [] next (take k (drop next text))))

parted_last : (lines : List Line) (at : ℕ) (line : List ℕ) → parted (lines ++ (at, line) ∷ []) ≡ (lines, line)
parted_last [] at line = refl
parted_last (l ∷ []) at line = refl
parted_last (l ∷ m ∷ ls) at line = ap (λ p. (l ∷ p.0, p.1)) (parted_last (m ∷ ls) at line)

one_line_take : (line : List ℕ) (k : ℕ) → IsOneLine line → IsOneLine (take k line)
one_line_take line zero h = refl
one_line_take [] (suc k) h = refl
one_line_take (b ∷ bs) (suc k) h =
    let parts = or_parts (b == 10) (list_any (λ x. x == 10) bs) h in
    let rest = one_line_take bs k parts.1 in
    rw parts.0 rest

blanks_step : (blank rest : Bool) (k n : ℕ) → rest ≡ leb k n → (blank && rest) ≡ leb (suc k) (cond blank (1 + n) 0)
blanks_step true rest k n h = h ∙ grind (arith, nat_tests)
blanks_step false rest k n h = grind (arith, nat_tests)

blanks_upto : (line : List ℕ) (k : ℕ) → k ≤ length line → list_all is_blank (take k line) ≡ leb k (indent line)
blanks_upto line zero h = sym (le-leb 0 (indent line) (omega arith))
blanks_upto [] (suc k) h = absurd (omega arith)
blanks_upto (b ∷ bs) (suc k) h = blanks_step (is_blank b) (list_all is_blank (take k bs)) k (indent bs) (blanks_upto bs k (omega arith))

-- the doc of what begins on a line, where what stands above it is known
pub doc_on_line : (text comments : List ℕ) (at : ℕ) (lines : List Line) (line tail : List ℕ) (o : ℕ) → AreAbove text at lines → drop at text ≡ line ++ tail → IsOneLine line →
    at ≤ o → o ≤ at + length line → doc_at text comments o ≡ cond (leb o (at + indent line)) (joined (last_comments comments lines)) None
unfolding doc_at
doc_on_line text comments at lines line tail o above here one low high =
    let k = o - at in
    let on : o ≡ at + (o - at) = omega arith in
    let cut : take (o - at) (drop at text) ≡ take (o - at) line = ap (take (o - at)) here ∙ take-append-le (o - at) line tail (omega arith) in
    let read : parted (lines_before text o) ≡ (lines, take (o - at) line) =
    ap (λ n. parted (lines_before text n)) on
    ∙ ap parted (above (o - at) ∙ ap (λ l. lines ++ lines_from at [] at l) cut ∙ ap (λ l. lines ++ l) (lines_one at [] at (take (o - at) line) (one_line_take line (o - at) one)))
    ∙ parted_last lines at (take (o - at) line)
    in
    ap (λ p. cond (list_all is_blank p.1) (joined (last_comments comments p.0)) None) read
    ∙ ap (λ b. cond b (joined (last_comments comments lines)) None) (blanks_upto line (o - at) (omega arith) ∙ grind (arith, nat_tests))

-- ---- The comment lines directly above

cond_push : {A : Type 0} (c : Bool) (xs ys : List A) (t : A) → cond c (xs ++ t ∷ []) (ys ++ t ∷ []) ≡ cond c xs ys ++ t ∷ []
cond_push true xs ys t = refl
cond_push false xs ys t = refl

and_one : (a b : Bool) → b ≡ true → (a && (b && true)) ≡ a
and_one true true h = refl
and_one false true h = refl
and_one a false h = absurd (cc)

pub last_more : (comments : List ℕ) (lines : List Line) (l : Line) → is_comment comments l ≡ true → last_comments comments (lines ++ l ∷ []) ≡ last_comments comments lines ++ said l ∷ []
last_more comments [] l h = rw h refl
last_more comments (m ∷ ms) l h =
    let p = is_comment comments in
    let alls : list_all (is_comment comments) (ms ++ l ∷ []) ≡ list_all (is_comment comments) ms =
    list_all-append (is_comment comments) ms (l ∷ []) ∙ and_one (list_all (is_comment comments) ms) (is_comment comments l) h
    in
    ap (λ b. cond (is_comment comments m && b) (said m ∷ map said (ms ++ l ∷ [])) (last_comments comments (ms ++ l ∷ []))) alls
    ∙ ap (λ s. cond (is_comment comments m && list_all (is_comment comments) ms) (said m ∷ s) (last_comments comments (ms ++ l ∷ []))) (map-append said ms (l ∷ []))
    ∙ ap (λ s. cond (is_comment comments m && list_all (is_comment comments) ms) (said m ∷ map said ms ++ said l ∷ []) s) (last_more comments ms l h)
    ∙ cond_push (is_comment comments m && list_all (is_comment comments) ms) (said m ∷ map said ms) (last_comments comments ms) (said l)

pub last_none : (comments : List ℕ) (lines : List Line) (l : Line) → is_comment comments l ≡ false → last_comments comments (lines ++ l ∷ []) ≡ []
last_none comments [] l h = rw h refl
last_none comments (m ∷ ms) l h =
    let alls : list_all (is_comment comments) (ms ++ l ∷ []) ≡ false =
    list_all-append (is_comment comments) ms (l ∷ []) ∙ and_right (list_all (is_comment comments) ms) (is_comment comments l && true) (and_left (is_comment comments l) true h)
    in
    cond-false (is_comment comments m && list_all (is_comment comments) (ms ++ l ∷ [])) _ (last_comments comments (ms ++ l ∷ [])) (and_right (is_comment comments m) _ alls)
    ∙ last_none comments ms l h

pub joined_more : (ls : List (List ℕ)) (m : List ℕ) → joined (ls ++ m ∷ []) ≡ Some (with_line (joined ls) m)
joined_more [] m = refl
joined_more (l ∷ []) m = refl
joined_more (l ∷ k ∷ ks) m = ap (option_map (λ j. l ++ 10 ∷ j)) (joined_more (k ∷ ks) m) ∙ simp append_assoc
