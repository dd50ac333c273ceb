-- The walk over the lines of a text, with the comments and the places that are left.
use Rattle.std.proofs.Common.{◌≡◌, ℕ, zero, suc, ◌+◌, ◌<◌, ◌≤◌, ◌==◌, Bool, true, false, cond, leb, ltb, List, [], ◌∷◌, ◌++◌, length, take, drop, arith, refl, sym, ap, ◌∙◌, subst, append_assoc, append-nil, length-append, Option, Some, None, inl, inr, Bor}
use Rattle.std.specs.List.{list_any, prefix_len}
use Rattle.std.specs.Option.{option_copied, option_map}
use Rattle.std.proofs.lemmas.Bool.{or_from, cond-true, cond-false, ne_eqb, lt-ltb, le-ltb, eqb-true, cases_lt, cases_Bool, or_left}
use Rattle.std.proofs.lemmas.List.{drop-append-le, drop-drop}
use Rattle.std.proofs.lemmas.List.Sums.{prefix_len-le-length}
use Rattle.gs_syntax.specs.Tokens.{mark_size}
use Rattle.gs_chunks.specs.Docs.{Line, is_comment, indent, said, last_comments, joined, doc_at, docs_at, is_blank, with_doc, without_space, without_return}
use Rattle.gs_scan.specs.Comments.{Ascends}
use Rattle.gs_chunks.specs.Walks.{AreSlashed, IsSaidAt, begins_at, with_line, words, docs_on}
use Rattle.gs_chunks.proofs.Lines.{IsOneLine, AreAbove, above_first, above_next, rest_next, doc_on_line, last_more, last_none, joined_more}

-- how many numbers, from the first on, are below an end
abbrev pub below : ℕ → List ℕ → ℕ
below end xs = prefix_len (λ n. ltb n end) xs

below_yes : (end x : ℕ) (xs : List ℕ) → x < end → below end (x ∷ xs) ≡ suc (below end xs)
below_yes end x xs h = cond-true (ltb x end) (1 + below end xs) 0 (lt-ltb x end h) ∙ omega arith

below_no : (end x : ℕ) (xs : List ℕ) → end ≤ x → below end (x ∷ xs) ≡ 0
below_no end x xs h = cond-false (ltb x end) (1 + below end xs) 0 (le-ltb x end h)

-- what is left of ascending numbers behind those below an end
ascends_left : (end : ℕ) (xs : List ℕ) (from to : ℕ) → Ascends from to xs → Ascends end to (drop (below end xs) xs)
ascends_left end [] from to h = tt
ascends_left end (x ∷ xs) from to h = elim (cases_lt x end) as (λ s. Ascends end to (drop (below end (x ∷ xs)) (x ∷ xs))) [
  | inl low ↦ rw (below_yes end x xs low) (ascends_left end xs (x + 1) to h.2)
  | inr high ↦ rw (below_no end x xs high) (high, h.1, h.2)
]

ascends_from : (from before to : ℕ) (xs : List ℕ) → before ≤ from → Ascends from to xs → Ascends before to xs
ascends_from from before to [] less h = tt
ascends_from from before to (x ∷ xs) less h = (omega (arith, h.0), h.1, h.2)

slashed_left : (text : List ℕ) (n : ℕ) (xs : List ℕ) → AreSlashed text xs → AreSlashed text (drop n xs)
slashed_left text zero xs h = h
slashed_left text (suc n) [] h = h
slashed_left text (suc n) (x ∷ xs) h = slashed_left text n xs h.1

-- ---- The comments that are left

-- whether a number is among others
abbrev pub among : List ℕ → ℕ → Bool
among xs o = list_any (λ c. c == o) xs

among_left : (end o : ℕ) (xs : List ℕ) → end ≤ o → among xs o ≡ among (drop (below end xs) xs) o
among_left end o [] h = refl
among_left end o (x ∷ xs) h = elim (cases_lt x end) as (λ s. among (x ∷ xs) o ≡ among (drop (below end (x ∷ xs)) (x ∷ xs)) o) [
  | inl low ↦ rw (below_yes end x xs low, ne_eqb x o (λ e. omega arith)) (among_left end o xs h)
  | inr high ↦ rw (below_no end x xs high) refl
]

not_among : (xs : List ℕ) (from to o : ℕ) → Ascends from to xs → o < from → among xs o ≡ false
not_among [] from to o h less = refl
not_among (x ∷ xs) from to o h less =
    let low = h.0 in
    or_from (x == o) (among xs o) (ne_eqb x o (λ e. omega arith)) (not_among xs (x + 1) to o h.2 (omega arith))

-- among ascending numbers that are no lower, a number stands first or not at all
stands_first : (xs : List ℕ) (o to : ℕ) → Ascends o to xs → among xs o ≡ begins_at xs o
stands_first [] o to h = refl
stands_first (x ∷ xs) o to h = elim (cases_Bool (x == o)) as (λ s. among (x ∷ xs) o ≡ (x == o)) [
  | inl same ↦ or_left (x == o) (among xs o) same ∙ sym same
  | inr other ↦
      let low = h.0 in
      or_from (x == o) (among xs o) other (not_among xs (x + 1) to o h.2 (omega arith)) ∙ sym other
]

-- ---- The docs of a line

-- the line that begins at `at`, and the lines above it
pub record IsLineOf (text comments : List ℕ) (at : ℕ) (line tail : List ℕ) (above : Option (List ℕ)) : Type 0 where
  pub lines : List Line
  pub over : AreAbove text at lines
  pub here : drop at text ≡ line ++ tail
  pub one : IsOneLine line
  pub said : above ≡ joined (last_comments comments lines)

with_doc_if : (o : ℕ) (b : Bool) (doc : Option (List ℕ)) → with_doc o (cond b doc None) ≡ cond b (with_doc o doc) []
with_doc_if o true doc = refl
with_doc_if o false doc = refl

doc_here : (text comments : List ℕ) (at : ℕ) (line tail : List ℕ) (above : Option (List ℕ)) (o : ℕ) → IsLineOf text comments at line tail above → at ≤ o → o ≤ at + length line →
    with_doc o (doc_at text comments o) ≡ cond (leb o (at + indent line)) (with_doc o above) []
doc_here text comments at line tail above o h low high =
    ap (with_doc o) (doc_on_line text comments at h.lines line tail o h.over h.here h.one low high ∙ ap (λ d. cond (leb o (at + indent line)) d None) (sym h.said))
    ∙ with_doc_if o (leb o (at + indent line)) above

-- those of the offsets before the end of the line, and the others
docs_line : (text comments : List ℕ) (at : ℕ) (line tail : List ℕ) (above : Option (List ℕ)) (os : List ℕ) (from to : ℕ) → IsLineOf text comments at line tail above → at ≤ from → Ascends from to os →
    docs_at text comments os ≡ docs_on (at + indent line) above (take (below (at + length line + 1) os) os) ++ docs_at text comments (drop (below (at + length line + 1) os) os)
docs_line text comments at line tail above [] from to h low up = refl
docs_line text comments at line tail above (o ∷ os) from to h low up =
    let end = at + length line + 1 in
    let first = up.0 in
    elim (cases_lt o (at + length line + 1)) as
    (λ s. docs_at text comments (o ∷ os) ≡ docs_on (at + indent line) above (take (below (at + length line + 1) (o ∷ os)) (o ∷ os)) ++ docs_at text comments (drop (below (at + length line + 1) (o ∷ os)) (o ∷ os))) [
      | inl less ↦
          rw (below_yes (at + length line + 1) o os less)
          (
          ap (λ l. l ++ docs_at text comments os) (doc_here text comments at line tail above o h (omega arith) (omega arith))
          ∙ ap (λ l. cond (leb o (at + indent line)) (with_doc o above) [] ++ l) (docs_line text comments at line tail above os (o + 1) to h (omega arith) up.2)
          ∙ sym (append_assoc (cond (leb o (at + indent line)) (with_doc o above) []) (docs_on (at + indent line) above (take (below (at + length line + 1) os) os)) (docs_at text comments (drop (below (at + length line + 1) os) os)))
          )
      | inr more ↦ rw (below_no (at + length line + 1) o os more) refl
    ]

-- those of the last line
docs_last : (text comments : List ℕ) (at : ℕ) (line tail : List ℕ) (above : Option (List ℕ)) (os : List ℕ) (from to : ℕ) → IsLineOf text comments at line tail above → at ≤ from → Ascends from to os → to ≤ at + length line + 1 →
    docs_at text comments os ≡ docs_on (at + indent line) above os
docs_last text comments at line tail above [] from to h low up most = refl
docs_last text comments at line tail above (o ∷ os) from to h low up most =
    let first = up.0 in
    let bound = up.1 in
    ap (λ l. l ++ docs_at text comments os) (doc_here text comments at line tail above o h (omega arith) (omega arith))
    ∙ ap (λ l. cond (leb o (at + indent line)) (with_doc o above) [] ++ l) (docs_last text comments at line tail above os (o + 1) to h (omega arith) up.2 most)

-- ---- The walk

-- the walk stands at the offset `at`, with `rest` from there on: what stands above is known, the comments that are left tell
-- of the lines from there on, and the docs that are told and those of the places that are left are all
pub record IsWalk (text comments starts : List ℕ) (at : ℕ) (rest : List ℕ) (above : Option (List ℕ)) (left coming : List ℕ) (docs : List (ℕ × List ℕ)) : Type 0 where
  pub lines : List Line
  pub over : AreAbove text at lines
  pub here : drop at text ≡ rest
  pub size : at + length rest ≡ length text
  pub said : above ≡ joined (last_comments comments lines)
  pub same : (o : ℕ) → at ≤ o → among comments o ≡ among left o
  pub comments_ascend : Ascends 0 (length text) left
  pub slashed : AreSlashed text left
  pub starts_ascend : Ascends at (length text + 1) coming
  pub told : docs ++ docs_at text comments coming ≡ docs_at text comments starts

pub walk_begins : (text comments starts rest : List ℕ) (docs : List (ℕ × List ℕ)) → rest ≡ drop (mark_size text) text → mark_size text + length rest ≡ length text →
    Ascends 0 (length text) comments → AreSlashed text comments → Ascends (mark_size text) (length text + 1) starts → docs ≡ [] →
    IsWalk text comments starts (mark_size text) rest None comments starts docs
walk_begins text comments starts rest docs here size ascend slashed up none = record {
  lines = [];
  over = above_first text;
  here = sym here;
  size = size;
  said = refl;
  same = λ o h. refl;
  comments_ascend = ascend;
  slashed = slashed;
  starts_ascend = up;
  told = ap (λ l. l ++ docs_at text comments starts) none;
}

-- what the line says that begins at `at`, where it is a comment line
abbrev pub line_said : ℕ → List ℕ → List ℕ → Option (List ℕ)
line_said at line left = cond (begins_at left (at + indent line)) (Some (words (drop (indent line) line))) None

-- the comments that are left at the front of a line
abbrev pub left_at : ℕ → List ℕ → List ℕ → List ℕ
left_at at line left = drop (below (at + indent line) left) left

line_of : (text comments starts : List ℕ) (at : ℕ) (rest : List ℕ) (above : Option (List ℕ)) (left coming : List ℕ) (docs : List (ℕ × List ℕ)) (line tail : List ℕ) →
    IsWalk text comments starts at rest above left coming docs → rest ≡ line ++ tail → IsOneLine line → IsLineOf text comments at line tail above
line_of text comments starts at rest above left coming docs line tail w split one = record {
  lines = w.lines;
  over = w.over;
  here = w.here ∙ split;
  one = one;
  said = w.said;
}

front_within : (line : List ℕ) → indent line ≤ length line
front_within line = prefix_len-le-length is_blank line

said_next : (comments : List ℕ) (lines : List Line) (at : ℕ) (line : List ℕ) (above : Option (List ℕ)) (here : Bool) → above ≡ joined (last_comments comments lines) → is_comment comments (at, line) ≡ here →
    option_map (with_line above) (cond here (Some (words (drop (indent line) line))) None) ≡ joined (last_comments comments (lines ++ (at, line) ∷ []))
said_next comments lines at line above true e h =
    ap (λ l. Some (with_line above (without_space (without_return l)))) (drop-drop 2 (indent line) line)
    ∙ ap (λ a. Some (with_line a (said (at, line)))) e
    ∙ sym (ap joined (last_more comments lines (at, line) h) ∙ joined_more (last_comments comments lines) (said (at, line)))
said_next comments lines at line above false e h = sym (ap joined (last_none comments lines (at, line) h))

-- one line on
pub walk_on : (text comments starts : List ℕ) (at : ℕ) (rest : List ℕ) (above : Option (List ℕ)) (left coming : List ℕ) (docs : List (ℕ × List ℕ)) (line more : List ℕ) (added : List (ℕ × List ℕ)) →
    IsWalk text comments starts at rest above left coming docs → rest ≡ line ++ 10 ∷ more → IsOneLine line →
    added ≡ docs ++ docs_on (at + indent line) above (take (below (at + length line + 1) coming) coming) →
    IsWalk text comments starts (at + length line + 1) more (option_map (with_line above) (line_said at line (left_at at line left))) (left_at at line left) (drop (below (at + length line + 1) coming) coming) added
walk_on text comments starts at rest above left coming docs line more added w split one e =
    let size = w.size in
    let whole = ap length split ∙ length-append line (10 ∷ more) in
    let indented = front_within line in
    let front = at + indent line in
    let first : is_comment comments (at, line) ≡ begins_at (left_at at line left) (at + indent line) =
    w.same (at + indent line) (omega arith)
    ∙ among_left (at + indent line) (at + indent line) left (omega arith)
    ∙ stands_first (left_at at line left) (at + indent line) (length text) (ascends_left (at + indent line) left 0 (length text) w.comments_ascend)
    in
    record {
      lines = w.lines ++ (at, line) ∷ [];
      over = above_next text at w.lines line more w.over (w.here ∙ split) one;
      here = rest_next text at line more (w.here ∙ split);
      size = omega arith;
      said = said_next comments w.lines at line above (begins_at (left_at at line left) (at + indent line)) w.said first;
      same = λ o h. w.same o (omega arith) ∙ among_left (at + indent line) o left (omega arith);
      comments_ascend = ascends_from (at + indent line) 0 (length text) (left_at at line left) (omega arith) (ascends_left (at + indent line) left 0 (length text) w.comments_ascend);
      slashed = slashed_left text (below (at + indent line) left) left w.slashed;
      starts_ascend = ascends_left (at + length line + 1) coming at (length text + 1) w.starts_ascend;
      told =
          ap (λ l. l ++ docs_at text comments (drop (below (at + length line + 1) coming) coming)) e
          ∙ append_assoc docs _ (docs_at text comments (drop (below (at + length line + 1) coming) coming))
          ∙ ap (λ l. docs ++ l) (sym (docs_line text comments at line (10 ∷ more) above coming at (length text + 1) (line_of text comments starts at rest above left coming docs line (10 ∷ more) w split one) (omega arith) w.starts_ascend))
          ∙ w.told;
    }

-- the last line
pub walk_ends : (text comments starts : List ℕ) (at : ℕ) (rest : List ℕ) (above : Option (List ℕ)) (left coming : List ℕ) (docs : List (ℕ × List ℕ)) (all : List (ℕ × List ℕ)) →
    IsWalk text comments starts at rest above left coming docs → IsOneLine rest → all ≡ docs ++ docs_on (at + indent rest) above coming → all ≡ docs_at text comments starts
walk_ends text comments starts at rest above left coming docs all w one e =
    let size = w.size in
    let line = line_of text comments starts at rest above left coming docs rest [] w (sym (append-nil rest)) one in
    e ∙ ap (λ l. docs ++ l) (sym (docs_last text comments at rest [] above coming at (length text + 1) line (omega arith) w.starts_ascend (omega arith))) ∙ w.told

first_slashed : (text : List ℕ) (xs : List ℕ) (o : ℕ) → AreSlashed text xs → begins_at xs o ≡ true → (rest : List ℕ) × (drop o text ≡ 47 ∷ 47 ∷ rest)
first_slashed text [] o h first = absurd (cc)
first_slashed text (c ∷ cs) o h first = subst (λ n. (rest : List ℕ) × (drop n text ≡ 47 ∷ 47 ∷ rest)) (eqb-true c o first) h.0

slashes_inside : (front more rest : List ℕ) → front ++ 10 ∷ more ≡ 47 ∷ 47 ∷ rest → (said : List ℕ) × (front ≡ 47 ∷ 47 ∷ said)
slashes_inside [] more rest h = absurd (cc)
slashes_inside (x ∷ []) more rest h = absurd (cc)
slashes_inside (x ∷ y ∷ said) more rest h = (said, cc)

-- where a comment is left at the front of a line, the line has a `//` there
pub slashes_at : (text comments starts : List ℕ) (at : ℕ) (rest : List ℕ) (above : Option (List ℕ)) (left coming : List ℕ) (docs : List (ℕ × List ℕ)) (line more : List ℕ) →
    IsWalk text comments starts at rest above left coming docs → rest ≡ line ++ 10 ∷ more → begins_at (left_at at line left) (at + indent line) ≡ true → (said : List ℕ) × (drop (indent line) line ≡ 47 ∷ 47 ∷ said)
slashes_at text comments starts at rest above left coming docs line more w split h =
    let found = first_slashed text (left_at at line left) (at + indent line) (slashed_left text (below (at + indent line) left) left w.slashed) h in
    slashes_inside (drop (indent line) line) more found.0
    (
    sym (drop-append-le (indent line) line (10 ∷ more) (front_within line))
    ∙ ap (drop (indent line)) (sym (w.here ∙ split))
    ∙ drop-drop (indent line) at text
    ∙ found.1
    )

-- ---- What the code has of a line

-- what the code takes for what a line says is that
said_is : (text comments starts : List ℕ) (at : ℕ) (rest : List ℕ) (above : Option (List ℕ)) (left coming : List ℕ) (docs : List (ℕ × List ℕ)) (line more : List ℕ) (said : Option (Bor (List ℕ))) →
    IsWalk text comments starts at rest above left coming docs → rest ≡ line ++ 10 ∷ more →
    IsSaidAt (left_at at line left) (at + indent line) (drop (indent line) line) said → option_copied said ≡ line_said at line (left_at at line left)
said_is text comments starts at rest above left coming docs line more None w split h = elim (cases_Bool (begins_at (left_at at line left) (at + indent line))) [
  | inl here ↦ let slashes = slashes_at text comments starts at rest above left coming docs line more w split here in absurd (h here slashes.0 slashes.1)
  | inr other ↦ sym (cond-false (begins_at (left_at at line left) (at + indent line)) (Some (words (drop (indent line) line))) None other)
]
said_is text comments starts at rest above left coming docs line more (Some s) w split h =
    ap Some h.1 ∙ sym (cond-true (begins_at (left_at at line left) (at + indent line)) (Some (words (drop (indent line) line))) None h.0)

-- one line on, by what the code has of the line
pub walk_step : (text comments starts : List ℕ) (at : ℕ) (rest : List ℕ) (above : Option (List ℕ)) (left coming : List ℕ) (docs : List (ℕ × List ℕ)) (line more : List ℕ) (blanks : ℕ) (cut : List ℕ)
    (said : Option (Bor (List ℕ))) (next : Option (List ℕ)) (ahead here later : List ℕ) (added : List (ℕ × List ℕ)) →
    IsWalk text comments starts at rest above left coming docs → rest ≡ line ++ 10 ∷ more → IsOneLine line → blanks ≡ indent line → cut ≡ drop blanks line →
    ahead ≡ drop (below (at + blanks) left) left → IsSaidAt ahead (at + blanks) cut said → next ≡ option_map (with_line above) (option_copied said) →
    here ≡ take (below (at + (length line + 1)) coming) coming → later ≡ drop (below (at + (length line + 1)) coming) coming → added ≡ docs ++ docs_on (at + blanks) above here →
    IsWalk text comments starts (at + (length line + 1)) more next ahead later added
walk_step text comments starts at rest above left coming docs line more blanks cut said next ahead here later added w split one b c a s n h l d =
    let on : at + length line + 1 ≡ at + (length line + 1) = omega arith in
    let left_same : left_at at line left ≡ ahead = ap (λ k. drop (below (at + k) left) left) (sym b) ∙ sym a in
    let cut_same : cut ≡ drop (indent line) line = c ∙ ap (λ k. drop k line) b in
    let told : IsSaidAt (left_at at line left) (at + indent line) (drop (indent line) line) said =
    subst (λ x. IsSaidAt x (at + indent line) (drop (indent line) line) said) (sym left_same) (subst (λ k. IsSaidAt ahead (at + k) (drop (indent line) line) said) b (subst (λ x. IsSaidAt ahead (at + blanks) x said) cut_same s))
    in
    let above_same : option_map (with_line above) (line_said at line (left_at at line left)) ≡ next =
    ap (option_map (with_line above)) (sym (said_is text comments starts at rest above left coming docs line more said w split told)) ∙ sym n
    in
    let docs_same : added ≡ docs ++ docs_on (at + indent line) above (take (below (at + length line + 1) coming) coming) =
    d ∙ ap (λ k. docs ++ docs_on (at + k) above here) b ∙ ap (λ x. docs ++ docs_on (at + indent line) above x) (h ∙ ap (λ k. take (below k coming) coming) (sym on))
    in
    subst (λ x. IsWalk text comments starts (at + (length line + 1)) more next ahead x added) (sym l)
    (
    subst (λ x. IsWalk text comments starts (at + (length line + 1)) more next x (drop (below (at + (length line + 1)) coming) coming) added) left_same
    (
    subst (λ x. IsWalk text comments starts (at + (length line + 1)) more x (left_at at line left) (drop (below (at + (length line + 1)) coming) coming) added) above_same
    (
    subst (λ k. IsWalk text comments starts k more (option_map (with_line above) (line_said at line (left_at at line left))) (left_at at line left) (drop (below k coming) coming) added) on
    (walk_on text comments starts at rest above left coming docs line more added w split one docs_same)
    )
    )
    )
