-- Parts of a text.
use Rattle.std.proofs.Common.{◌≡◌, ◌≢◌, ℕ, zero, suc, ◌+◌, ◌<◌, ◌≤◌, ◌==◌, Bool, true, false, cond, leb, ltb, ◌&&◌, List, [], ◌∷◌, ◌++◌, length, drop, get_or, nat_eq, arith, refl, sym, ap, ◌∙◌, subst, Option, Some, None, inl, inr, MatchOption, Bor, lit<}
use lib.Utf8.{encode}
use Rattle.std.specs.List.{prefix_len, starts_with}
use Rattle.std.specs.Option.{unwrap_or}
use Rattle.std.specs.Str.{IsUtf8, IsCharBoundary}
use Rattle.std.specs.Str.Pattern.{FindsCharPrefix, StripsPrefix}
use Rattle.std.proofs.lemmas.Bool.{or_cases, and_parts, eqb-true, le-ltb, cond-true, cond-false, cases_Bool, ne_eqb}
use Rattle.std.proofs.lemmas.Str.{IsCharBoundary-start, IsCharBoundary-after_ascii, IsUtf8-drop}
use Rattle.std.proofs.lemmas.Str.Pattern.{IsSplitOnceResult, split_parts}
use Rattle.std.proofs.lemmas.List.{get_or_default}
use Rattle.std.proofs.lemmas.List.Folds.{list_any_none}
use Rattle.std.proofs.lemmas.List.Sums.{prefix_len_is, prefix_len_passes, prefix_len-le-length}
use Rattle.gs_syntax.specs.Tokens.{mark_size}
use Rattle.gs_chunks.specs.Docs.{is_blank, indent, without_space, without_return}
use Rattle.gs_chunks.specs.Walks.{docs_on}
use Rattle.gs_chunks.proofs.Lines.{IsOneLine}

-- ---- The blanks of a line

blank_ascii : (b : ℕ) → is_blank b ≡ true → b < 128
blank_ascii b h = elim (or_cases (b == 32) (b == 9) h) [ inl e ↦ omega (arith, eqb-true b 32 e) | inr e ↦ omega (arith, eqb-true b 9 e) ]

boundary_within : (line : List ℕ) (n : ℕ) → IsUtf8 line → n ≤ indent line → IsCharBoundary line n
boundary_within line zero text h = IsCharBoundary-start line text
boundary_within line (suc k) text h =
    let passes = prefix_len_passes is_blank line k 0 (omega arith) in
    let most = prefix_len-le-length is_blank line in
    let on : k + 1 ≡ suc k = omega arith in
    subst (IsCharBoundary line) on (IsCharBoundary-after_ascii line k text (omega arith) (blank_ascii (get_or line k 0) passes))

pub indent_boundary : (line : List ℕ) (n : ℕ) → IsUtf8 line → n ≡ indent line → IsCharBoundary line n
indent_boundary line n text h = boundary_within line n text (omega (arith, h))

-- ---- Numbers below an end

pub below_is : (numbers : List ℕ) (end i : ℕ) → i < length numbers → ((k : ℕ) → k < i → ltb (get_or numbers k 0) end ≡ true) → end ≤ get_or numbers i 0 → prefix_len (λ n. ltb n end) numbers ≡ i
below_is numbers end i within before here = prefix_len_is (λ n. ltb n end) numbers i 0 (omega arith) before (λ h. le-ltb (get_or numbers i 0) end here)

pub below_all : (numbers : List ℕ) (end i : ℕ) → length numbers ≤ i → ((k : ℕ) → k < i → ltb (get_or numbers k 0) end ≡ true) → prefix_len (λ n. ltb n end) numbers ≡ length numbers
below_all numbers end i past before = prefix_len_is (λ n. ltb n end) numbers (length numbers) 0 (omega arith) (λ k h. before k (omega arith)) (λ h. absurd (omega arith))

-- ---- A byte order mark

-- its bytes
abbrev mark : List ℕ
mark = 239 ∷ 187 ∷ 191 ∷ []

marked : (text : List ℕ) → starts_with nat_eq text mark ≡ true → (rest : List ℕ) × (text ≡ mark ++ rest)
marked [] h = absurd (cc)
marked (a ∷ []) h =
    let short = (and_parts (239 == a) false h).1 in
    absurd (cc)
marked (a ∷ b ∷ []) h =
    let short = (and_parts (187 == b) false (and_parts (239 == a) (187 == b && false) h).1).1 in
    absurd (cc)
marked (a ∷ b ∷ c ∷ rest) h =
    let first = and_parts (239 == a) (187 == b && (191 == c && true)) h in
    let second = and_parts (187 == b) (191 == c && true) first.1 in
    let third = and_parts (191 == c) true second.1 in
    let x = eqb-true 239 a first.0 in
    let y = eqb-true 187 b second.0 in
    let z = eqb-true 191 c third.0 in
    (rest, sym (λ i. x i ∷ y i ∷ z i ∷ rest))

pub mark_within : (text : List ℕ) → mark_size text ≤ length text
mark_within text = elim (cases_Bool (starts_with nat_eq text mark)) [
  | inl same ↦
      let found = marked text same in
      let size : mark_size text ≡ 3 = cond-true (starts_with nat_eq text mark) 3 0 same in
      omega (arith, size, ap length found.1)
  | inr other ↦
      let size : mark_size text ≡ 0 = cond-false (starts_with nat_eq text mark) 3 0 other in
      omega (arith, size)
]

-- what is left of a text without its mark
abbrev pub IsUnmarked : List ℕ → List ℕ → Type 0
IsUnmarked text rest = (rest ≡ drop (mark_size text) text) × (mark_size text + length rest ≡ length text)

without : (text : List ℕ) (n : ℕ) (rest : List ℕ) → text ≡ mark ++ drop n text → rest ≡ drop n text → IsUnmarked text rest
without text n rest e h = subst (λ t. IsUnmarked t rest) (sym e) (h, omega (arith, ap length h))

pub unmarked : (text rest : Bor (List ℕ)) (found : Option (Bor (List ℕ))) → MatchOption found (FindsCharPrefix 65279 text.now None) (λ x. StripsPrefix (FindsCharPrefix 65279) text.now x.now) →
    rest ≡ unwrap_or found text → IsUnmarked text.now rest.now
unfolding encode
unmarked text rest None h e = elim (cases_Bool (starts_with nat_eq text.now mark)) [
  | inl same ↦ let found = marked text.now same in absurd (h found.0 found.1)
  | inr other ↦
      let none : mark_size text.now ≡ 0 = cond-false (starts_with nat_eq text.now mark) 3 0 other in
      let same = ap (λ b. b.now) e in
      (same ∙ sym (ap (λ n. drop n text.now) none), omega (arith, none, ap length same))
]
unmarked text rest (Some x) h e = without text.now h.0 rest.now h.1.split (ap (λ b. b.now) e ∙ h.2)

-- ---- What a comment says

return_ends : (bytes : List ℕ) → without_return (bytes ++ 13 ∷ []) ≡ bytes
return_ends [] = refl
return_ends (b ∷ []) = refl
return_ends (b ∷ c ∷ bs) = ap (λ l. b ∷ l) (return_ends (c ∷ bs))

no_return : (bytes : List ℕ) → ((front : List ℕ) → bytes ≢ front ++ 13 ∷ []) → without_return bytes ≡ bytes
no_return [] h = refl
no_return (b ∷ []) h = elim (cases_Bool (b == 13)) [ inl e ↦ let same = eqb-true b 13 e in absurd (h [] (ap (λ x. x ∷ []) same)) | inr e ↦ cond-false (b == 13) [] (b ∷ []) e ]
no_return (b ∷ c ∷ bs) h = ap (λ l. b ∷ l) (no_return (c ∷ bs) (λ front e. h (b ∷ front) (ap (λ l. b ∷ l) e)))

pub returned : (comment rest : Bor (List ℕ)) (found : Option (Bor (List ℕ))) → MatchOption found ((front : List ℕ) → comment.now ≢ front ++ 13 ∷ []) (λ x. comment.now ≡ x.now ++ 13 ∷ []) →
    rest ≡ unwrap_or found comment → rest.now ≡ without_return comment.now
returned comment rest None h e = ap (λ b. b.now) e ∙ sym (no_return comment.now h)
returned comment rest (Some x) h e = ap (λ b. b.now) e ∙ sym (return_ends x.now) ∙ ap without_return (sym h)

no_space : (bytes : List ℕ) → ((rest : List ℕ) → bytes ≢ 32 ∷ rest) → without_space bytes ≡ bytes
no_space [] h = refl
no_space (b ∷ bs) h = elim (cases_Bool (b == 32)) [ inl e ↦ let same = eqb-true b 32 e in absurd (h bs (ap (λ x. x ∷ bs) same)) | inr e ↦ cond-false (b == 32) bs (b ∷ bs) e ]

pub spaced : (comment rest : Bor (List ℕ)) (found : Option (Bor (List ℕ))) → MatchOption found ((rest : List ℕ) → comment.now ≢ 32 ∷ rest) (λ x. comment.now ≡ 32 ∷ x.now) →
    rest ≡ unwrap_or found comment → rest.now ≡ without_space comment.now
spaced comment rest None h e = ap (λ b. b.now) e ∙ sym (no_space comment.now h)
spaced comment rest (Some x) h e = ap (λ b. b.now) e ∙ ap without_space (sym h)

-- ---- Docs

no_doc : (b : Bool) → cond {A = List (ℕ × List ℕ)} b [] [] ≡ []
no_doc true = refl
no_doc false = refl

without_doc : (front : ℕ) (starts : List ℕ) → docs_on front None starts ≡ []
without_doc front [] = refl
without_doc front (o ∷ os) = ap (λ l. l ++ docs_on front None os) (no_doc (leb o front)) ∙ without_doc front os

pub docs_none : (front : ℕ) (above : Option (List ℕ)) (starts : List ℕ) → above ≡ None → docs_on front above starts ≡ []
docs_none front above starts h = ap (λ a. docs_on front a starts) h ∙ without_doc front starts

-- ---- Lines

-- no byte of these is an LF
abbrev HasNoEnd : List ℕ → Type 0
HasNoEnd bytes = (i : ℕ) → i < length bytes → get_or bytes i 0 ≢ 10

one_line : (bytes : List ℕ) → HasNoEnd bytes → IsOneLine bytes
one_line bytes h = list_any_none (λ b. b == 10) bytes (λ k d within. ne_eqb (get_or bytes k d) 10 (λ e. h k within (get_or_default bytes k 0 d within ∙ e)))

pub last_line : (bytes : List ℕ) → IsSplitOnceResult 10 bytes None → IsOneLine bytes
last_line bytes h = one_line bytes (split_parts 10 bytes None h (lit< tt))

pub first_line : (bytes : List ℕ) (line more : Bor (List ℕ)) → IsSplitOnceResult 10 bytes (Some (line, more)) → (bytes ≡ line.now ++ 10 ∷ more.now) × IsOneLine line.now
first_line bytes line more h =
    let parts = split_parts 10 bytes (Some (line, more)) h (lit< tt) in
    (parts.0, one_line line.now parts.1)

pub more_text : (bytes : List ℕ) (line more : Bor (List ℕ)) → IsUtf8 bytes → IsSplitOnceResult 10 bytes (Some (line, more)) → IsUtf8 more.now
more_text bytes line more text h =
    let found = h.2.1 in
    subst IsUtf8 (sym h.4) (IsUtf8-drop bytes h.1 text (subst (IsCharBoundary bytes) (sym found.ends) found.after))
