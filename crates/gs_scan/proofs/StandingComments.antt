-- What stands where a slash does.
use Rattle.std.proofs.Common.{◌≡◌, ℕ, suc, ◌+◌, ◌<◌, ◌≤◌, Bool, true, false, ◌==◌, cond, List, [], ◌∷◌, ◌++◌, length, take, drop, get_or, sym, refl, ap, ◌∙◌, subst, ⊎_elim, inl, inr, arith, IsUtf8, Some, None, take-append-drop, length-take-le, length-append, append_assoc}
use Rattle.std.specs.Prelude.{◌⊎◌, ◌≢◌, All, Contains}
use Rattle.std.specs.List.{prefix_len}
use Rattle.std.specs.Str.{IsCharBoundary}
use Rattle.std.proofs.Math.Seq.{take-append_seam, take-length, get_or-append_seam}
use Rattle.std.proofs.lemmas.Bool.{false≢true, cases_lt, eqb-true}
use Rattle.std.proofs.lemmas.List.Elements.{All-cons}
use Rattle.std.proofs.lemmas.List.Sums.{prefix_len-le-length}
use Rattle.std.proofs.lemmas.Str.{IsCharBoundary-after_ascii, IsCharBoundary-before_ascii, IsCharBoundary-end}
use Rattle.gs_syntax.specs.declared.token.Operator.{Operator}
use Rattle.gs_syntax.specs.declared.token.Operator.TheVariants as operator
use Rattle.gs_scan.specs.declared.class.Class.TheVariants as class
use Rattle.gs_syntax.specs.Kinds.{operator_text}
use Rattle.gs_syntax.specs.declared.token.TokenKind.TheVariants as kind
use Rattle.gs_syntax.specs.Comments.{has_close, IsLineComment, IsComment, IsOpenComment}
use Rattle.gs_syntax.specs.Spelling.{Lexeme, Blank, LineEnd, Token, spoiled, open_text, open_rune, open_raw, open_comment, Spells, StandsAt}
use Rattle.gs_scan.specs.Reading.{class_of, close_from, is_mark, OnlyMarks}
use Rattle.gs_scan.proofs.MarkLemmas.{read_at}
use Rattle.gs_scan.proofs.StandingMarks.{spelled_better}
use Rattle.gs_scan.proofs.FirstLemmas.{may_begin, first_of}
use Rattle.gs_scan.proofs.UntilLemmas.{until, until_stops, until_le, until_all}
use Rattle.ucd_table.proofs.TrieCheck.{all_below}
use Rattle.gs_scan.proofs.StandingBlanks.{by_class, not_here, spoiled_here}
use Rattle.gs_scan.proofs.CommentLemmas.{Closed, closed, unclosed, same_inside, has_close-inside, open_shorter}

-- what may be spelled where a slash stands
data Slashed (other : Lexeme) (bytes : List ℕ) : Type 0 where
  line : other ≡ Blank → IsLineComment bytes → Slashed other bytes
  spaced : other ≡ Blank → IsComment bytes → (Contains bytes 10 → ⊥) → Slashed other bytes
  broken : other ≡ LineEnd → IsComment bytes → Contains bytes 10 → Slashed other bytes
  mark : (o : Operator) → other ≡ Token (kind.Operator o) → bytes ≡ operator_text o → Slashed other bytes
  unended : other ≡ Token kind.Bad → IsOpenComment bytes → Slashed other bytes

abbrev slash_like : Lexeme → Bool
slash_like Blank = true
slash_like LineEnd = true
slash_like (Token (kind.Operator o)) = true
slash_like (Token kind.Bad) = true
slash_like _ = false

slash_of : (what : Lexeme) → may_begin what class.Slash ≡ true → slash_like what ≡ true
slash_of Blank h = refl
slash_of LineEnd h = refl
slash_of (Token (kind.Operator o)) h = refl
slash_of (Token kind.Bad) h = refl
slash_of what h = h

slashed : (text : List ℕ) → class_of (get_or text 0 0) ≡ class.Slash → (m : ℕ) (other : Lexeme) → Spells other (take m text) → Slashed other (take m text)
slashed text slash m Blank h =
    ⊎_elim
    (λ s. absurd (⊎_elim (λ e. not_here class.Slash text m 9 [] slash e refl) (λ t. ⊎_elim (λ e. not_here class.Slash text m 13 [] slash e refl) (λ e. not_here class.Slash text m 32 [] slash e refl) t) s))
    (λ c. ⊎_elim (λ l. line refl l) (λ b. spaced refl b.0 b.1) c) h
slashed text slash m LineEnd h = ⊎_elim (λ e. absurd (not_here class.Slash text m 10 [] slash e refl)) (λ b. broken refl b.0 b.1) h
slashed text slash m (Token (kind.Operator o)) h = mark o refl h
slashed text slash m (Token kind.Bad) h =
    elim h [
      | spoiled s ↦ absurd (spoiled_here class.Slash text m slash refl s)
      | open_text q ↦ absurd (not_here class.Slash text m 34 q.0 slash q.1 refl)
      | open_rune q ↦ absurd (not_here class.Slash text m 39 q.0 slash q.1 refl)
      | open_raw q ↦ absurd (not_here class.Slash text m 96 q.0 slash q.1 refl)
      | open_comment c ↦ unended refl c
    ]
slashed text slash m other h = absurd (false≢true (slash_of other (subst (λ x. may_begin other x ≡ true) slash (first_of text m other h))))

-- the second byte of what is spelled is the text's
second_taken : (text : List ℕ) (m a b : ℕ) (more : List ℕ) → take m text ≡ a ∷ b ∷ more → get_or text 1 0 ≡ b
second_taken text m a b more e = ap (λ l. get_or l 1 0) (sym (take-append-drop m text) ∙ ap (λ l. l ++ drop m text) e)

-- ---- neither `//` nor `/*`

pub slash_marks : (text : List ℕ) → class_of (get_or text 0 0) ≡ class.Slash → 0 < length text → get_or text 0 0 < 128 → (get_or text 1 0 ≡ 47 → ⊥) → (get_or text 1 0 ≡ 42 → ⊥) → OnlyMarks text
slash_marks text slash some ascii no_line no_star = record {
  some = some;
  ascii = ascii;
  marks = λ m other within h. elim (slashed text slash m other h) [
    | line e l ↦ absurd (no_line (second_taken text m 47 47 l.0 l.1))
    | spaced e c n ↦ absurd (no_star (second_taken text m 47 42 _ c.1))
    | broken e c n ↦ absurd (no_star (second_taken text m 47 42 _ c.1))
    | mark o e b ↦ ap is_mark e
    | unended e c ↦ absurd (no_star (second_taken text m 47 42 _ c.1))
  ];
}

-- ---- `//`

abbrev pub in_line : ℕ → Bool
in_line = until 10

-- an operator that begins with `//` or `/*` is the slash
slash_mark : (text t : List ℕ) (b m : ℕ) (o : Operator) → text ≡ 47 ∷ b ∷ t → (b == 61) ≡ false → m ≤ length text → take m text ≡ operator_text o → m ≤ 1
slash_mark text t b m o is other within h =
    let p = spelled_better text m o within h in
    let read : read_at text ≡ Some (operator.Slash, 1) = ap read_at is ∙ ap (λ c. cond c (Some (operator.SlashAssign, 2)) (Some (operator.Slash, 1))) other in
    let same : Some p.0.0 ≡ Some (operator.Slash, 1) = sym p.0.1 ∙ read in
    let pair : p.0.0 ≡ (operator.Slash, 1) = cc in
    let one : p.0.0.1 ≡ 1 = ap (λ x. x.1) pair in
    ⊎_elim (λ less. let e = p.1 in omega arith) (λ eq. let e = p.1 in let f = eq.0 in omega arith) p.0.2

begins_with : (text t : List ℕ) (b : ℕ) → text ≡ 47 ∷ b ∷ t → (get_or text 1 0 ≡ b) × (class_of (get_or text 0 0) ≡ class.Slash)
begins_with text t b is = (ap (λ l. get_or l 1 0) is, ap (λ l. class_of (get_or l 0 0)) is)

line_size : (text t : List ℕ) → text ≡ 47 ∷ 47 ∷ t → prefix_len in_line text ≡ suc (suc (prefix_len in_line t))
line_size text t is = ap (prefix_len in_line) is ∙ (let e : 1 + (1 + prefix_len in_line t) ≡ suc (suc (prefix_len in_line t)) = omega arith in e)

line_longest : (text t : List ℕ) → text ≡ 47 ∷ 47 ∷ t → (m : ℕ) (other : Lexeme) → m ≤ length text → Spells other (take m text)
    → (m < prefix_len in_line text) ⊎ ((m ≡ prefix_len in_line text) × (other ≡ Blank))
line_longest text t is m other within h =
    let long = line_size text t is in
    let begins = begins_with text t 47 is in
    elim (slashed text begins.1 m other h) [
      | line e l ↦
          let all : All (λ c. c ≢ 10) (take m text) = subst (All (λ c. c ≢ 10)) (sym l.1) (All-cons (λ c. c ≢ 10) 47 (47 ∷ l.0) (λ x. omega arith) (All-cons (λ c. c ≢ 10) 47 l.0 (λ x. omega arith) l.2)) in
          let le = until_le 10 text m within all in
          ⊎_elim (λ less. inl less) (λ more. inr (omega arith, e)) (cases_lt m (prefix_len in_line text))
      | spaced e c n ↦ absurd (let s = second_taken text m 47 42 _ c.1 in let b = begins.0 in omega arith)
      | broken e c n ↦ absurd (let s = second_taken text m 47 42 _ c.1 in let b = begins.0 in omega arith)
      | mark o e b ↦ let one = slash_mark text t 47 m o is refl within b in inl (omega (arith, one, long))
      | unended e c ↦ absurd (let s = second_taken text m 47 42 _ c.1 in let b = begins.0 in omega arith)
    ]

pub line_comment_stands : (text t : List ℕ) (n : ℕ) → text ≡ 47 ∷ 47 ∷ t → n ≡ prefix_len in_line text → StandsAt text Blank n
line_comment_stands text t n is size =
    let long = line_size text t is in
    let front : take (prefix_len in_line text) text ≡ 47 ∷ 47 ∷ take (prefix_len in_line t) t = (λ i. take (long i) (is i)) in
    subst (StandsAt text Blank) (sym size) (inl (record {
      some = omega (arith, long);
      within = prefix_len-le-length in_line text;
      spells = inr (inl (take (prefix_len in_line t) t, front, until_all 10 t));
      longest = line_longest text t is;
    }))

pub line_boundary : (text : List ℕ) (n : ℕ) → IsUtf8 text → n ≡ prefix_len in_line text → IsCharBoundary text n
line_boundary text n utf8 size =
    subst (IsCharBoundary text) (sym size) (⊎_elim
    (λ less. IsCharBoundary-before_ascii text (prefix_len in_line text) less (let e = until_stops 10 text less in omega arith))
    (λ more. let le = prefix_len-le-length in_line text in let e : length text ≡ prefix_len in_line text = omega arith in subst (IsCharBoundary text) e (IsCharBoundary-end text))
    (cases_lt (prefix_len in_line text) (length text)))

-- ---- `/*`

-- the comment that stands at the front
record Ends (text t : List ℕ) (k : ℕ) : Type 0 where
  pub is : text ≡ 47 ∷ 42 ∷ t
  pub closed : Closed t k

comment_front : (text t : List ℕ) (k : ℕ) (e : Ends text t k) → (take (2 + k) text ≡ 47 ∷ 42 ∷ (e.closed.inside ++ (42 ∷ 47 ∷ []))) × (2 + k ≤ length text)
comment_front text t k e =
    let c = e.closed in
    let split : t ≡ (c.inside ++ (42 ∷ 47 ∷ [])) ++ c.rest = c.whole ∙ sym (append_assoc c.inside (42 ∷ 47 ∷ []) c.rest) in
    let long : length (c.inside ++ (42 ∷ 47 ∷ [])) ≡ k = let s = c.size in omega (arith, length-append c.inside (42 ∷ 47 ∷ []), s) in
    let two : 2 + k ≡ suc (suc k) = omega arith in (
      (λ i. take (two i) (e.is i)) ∙ ap (λ l. 47 ∷ 42 ∷ l) ((λ i. take (sym long i) (split i)) ∙ take-append_seam (c.inside ++ (42 ∷ 47 ∷ [])) c.rest),
      omega (arith, ap length e.is, ap length split, length-append (c.inside ++ (42 ∷ 47 ∷ [])) c.rest, long),
    )

-- each comment at the front is that one
comment_same : (text t : List ℕ) (k m : ℕ) → Ends text t k → m ≤ length text → IsComment (take m text) → m ≡ 2 + k
comment_same text t k m e within h =
    let c = e.closed in
    let whole : t ≡ h.0 ++ (42 ∷ 47 ∷ drop m text) =
    ap (drop 2) (sym e.is ∙ sym (take-append-drop m text) ∙ ap (λ l. l ++ drop m text) h.1) ∙ append_assoc h.0 (42 ∷ 47 ∷ []) (drop m text) in
    let same = same_inside h.0 c.inside (drop m text) c.rest h.2 c.first (sym whole ∙ c.whole) in
    let count = length-take-le m text within in
    let s = c.size in
    omega (arith, ap length h.1, length-append h.0 (42 ∷ 47 ∷ []), ap length same, count, s)

comment_longest : (text t : List ℕ) (k : ℕ) (what : Lexeme) → Ends text t k
    → (Contains (take (2 + k) text) 10 → LineEnd ≡ what) → ((Contains (take (2 + k) text) 10 → ⊥) → Blank ≡ what)
    → (m : ℕ) (other : Lexeme) → m ≤ length text → Spells other (take m text) → (m < 2 + k) ⊎ ((m ≡ 2 + k) × (other ≡ what))
comment_longest text t k what ends if_line if_none m other within h =
    let begins = begins_with text t 42 ends.is in
    let c = ends.closed in
    elim (slashed text begins.1 m other h) [
      | line e l ↦ absurd (let s = second_taken text m 47 47 l.0 l.1 in let b = begins.0 in omega arith)
      | spaced e h n ↦ let same = comment_same text t k m ends within h in inr (same, e ∙ if_none (λ has. n (subst (λ i. Contains (take i text) 10) (sym same) has)))
      | broken e h n ↦ let same = comment_same text t k m ends within h in inr (same, e ∙ if_line (subst (λ i. Contains (take i text) 10) same n))
      | mark o e b ↦ let one = slash_mark text t 42 m o ends.is refl within b in inl (omega arith)
      | unended e h ↦
          let whole : h.0 ++ drop m text ≡ c.inside ++ (42 ∷ 47 ∷ c.rest) =
          ap (drop 2) (sym (ap (λ l. l ++ drop m text) h.1) ∙ take-append-drop m text ∙ ends.is) ∙ c.whole in
          let less = open_shorter c.inside c.rest h.0 (drop m text) h.2 whole in
          let s = c.size in
          inl (omega (arith, less, ap length h.1, length-take-le m text within, s))
    ]

pub comment_stands : (text t : List ℕ) (at n : ℕ) (what : Lexeme) → text ≡ 47 ∷ 42 ∷ t → close_from 0 t ≡ Some at → n ≡ 2 + at
    → (Contains (take n text) 10 → LineEnd ≡ what) → ((Contains (take n text) 10 → ⊥) → Blank ≡ what) → (Contains (take n text) 10 ⊎ (Contains (take n text) 10 → ⊥)) → StandsAt text what n
comment_stands text t at n what is close size if_line if_none either =
    let p = closed 0 t at close in
    let ends : Ends text t p.0 = record { is = is; closed = p.2 } in
    let same : n ≡ 2 + p.0 = let e = p.1 in omega arith in
    let front = comment_front text t p.0 ends in
    let comment : IsComment (take n text) = (p.2.inside, ap (λ i. take i text) same ∙ front.0, p.2.first) in
    inl (record {
      some = omega arith;
      within = let w = front.1 in omega arith;
      spells = ⊎_elim
          (λ has. subst (λ o. Spells o (take n text)) (if_line has) (inr (comment, has)))
          (λ none. subst (λ o. Spells o (take n text)) (if_none none) (inr (inr (comment, none)))) either;
      longest = subst (λ i. (m : ℕ) (other : Lexeme) → m ≤ length text → Spells other (take m text) → (m < i) ⊎ ((m ≡ i) × (other ≡ what))) (sym same)
          (comment_longest text t p.0 what ends (λ has. if_line (subst (λ i. Contains (take i text) 10) (sym same) has)) (λ none. if_none (λ has. none (subst (λ i. Contains (take i text) 10) same has))));
    })

no_comment : (text t : List ℕ) (m : ℕ) → text ≡ 47 ∷ 42 ∷ t → has_close t ≡ false → IsComment (take m text) → ⊥
no_comment text t m is none h =
    let whole : t ≡ h.0 ++ (42 ∷ 47 ∷ drop m text) =
    ap (drop 2) (sym is ∙ sym (take-append-drop m text) ∙ ap (λ l. l ++ drop m text) h.1) ∙ append_assoc h.0 (42 ∷ 47 ∷ []) (drop m text) in
    false≢true (sym none ∙ ap has_close whole ∙ has_close-inside h.0 (drop m text))

open_longest : (text t : List ℕ) → text ≡ 47 ∷ 42 ∷ t → has_close t ≡ false
    → (m : ℕ) (other : Lexeme) → m ≤ length text → Spells other (take m text) → (m < length text) ⊎ ((m ≡ length text) × (other ≡ Token kind.Bad))
open_longest text t is none m other within h =
    let begins = begins_with text t 42 is in
    elim (slashed text begins.1 m other h) [
      | line e l ↦ absurd (let s = second_taken text m 47 47 l.0 l.1 in let b = begins.0 in omega arith)
      | spaced e h n ↦ absurd (no_comment text t m is none h)
      | broken e h n ↦ absurd (no_comment text t m is none h)
      | mark o e b ↦ let one = slash_mark text t 42 m o is refl within b in inl (omega (arith, ap length is))
      | unended e h ↦ ⊎_elim (λ less. inl less) (λ more. inr (omega arith, e)) (cases_lt m (length text))
    ]

pub open_stands : (text t : List ℕ) (n : ℕ) → text ≡ 47 ∷ 42 ∷ t → close_from 0 t ≡ None → n ≡ length text → StandsAt text (Token kind.Bad) n
open_stands text t n is none size =
    let no_close = unclosed 0 t none in
    subst (StandsAt text (Token kind.Bad)) (sym size) (inl (record {
      some = omega (arith, ap length is);
      within = omega arith;
      spells = open_comment (t, take-length text ∙ is, no_close);
      longest = open_longest text t is no_close;
    }))

pub comment_boundary : (text t : List ℕ) (at n : ℕ) → IsUtf8 text → text ≡ 47 ∷ 42 ∷ t → close_from 0 t ≡ Some at → n ≡ 2 + at → IsCharBoundary text n
comment_boundary text t at n utf8 is close size =
    let p = closed 0 t at close in
    let c = p.2 in
    let ends : Ends text t p.0 = record { is = is; closed = c } in
    let last : ℕ = 1 + p.0 in
    let before : List ℕ = 47 ∷ 42 ∷ (c.inside ++ 42 ∷ []) in
    let whole : text ≡ before ++ 47 ∷ c.rest = is ∙ ap (λ l. 47 ∷ 42 ∷ l) (c.whole ∙ sym (append_assoc c.inside (42 ∷ []) (47 ∷ c.rest))) in
    let place : length before ≡ last = let s = c.size in omega (arith, length-append c.inside (42 ∷ []), s) in
    let slash : get_or text last 0 ≡ 47 = (λ i. get_or (whole i) (sym place i) 0) ∙ get_or-append_seam before 47 c.rest 0 in
    let w = (comment_front text t p.0 ends).1 in
    let e : last + 1 ≡ n = let q = p.1 in omega arith in
    subst (IsCharBoundary text) e (IsCharBoundary-after_ascii text last utf8 (omega arith) (omega (arith, slash)))

-- a text whose class is Slash begins with one
pub slash_first : (b : ℕ) → class_of b ≡ class.Slash → b ≡ 47
unfolding all_below
slash_first b h = eqb-true b 47 (by_class class.Slash (λ x. x == 47) refl refl b h)

pub slash_text : (text : List ℕ) (b : ℕ) → class_of (get_or text 0 0) ≡ class.Slash → get_or text 1 0 ≡ b → 0 < b → text ≡ 47 ∷ b ∷ drop 2 text
slash_text [] b slash second some = cc
slash_text (a ∷ []) b slash second some = absurd (omega arith)
slash_text (a ∷ c ∷ text) b slash second some = λ i. slash_first a slash i ∷ second i ∷ text

pub slash_some : (text : List ℕ) → class_of (get_or text 0 0) ≡ class.Slash → 0 < length text
slash_some [] slash = cc
slash_some (a ∷ text) slash = omega arith
