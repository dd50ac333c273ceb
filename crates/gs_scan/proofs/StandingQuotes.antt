-- What stands where a quote does.
use Rattle.std.proofs.Common.{◌≡◌, ℕ, zero, suc, ◌+◌, ◌-◌, ◌<◌, ◌≤◌, Bool, true, false, not, ◌==◌, cond, List, [], ◌∷◌, ◌++◌, length, take, get_or, sym, refl, ap, ◌∙◌, subst, ⊎_elim, inl, inr, arith, IsUtf8, length-take-le, length-append, get_or-take}
use Rattle.std.specs.Prelude.{◌≢◌, All}
use Rattle.std.specs.List.{prefix_len}
use Rattle.std.specs.Str.{IsCharBoundary}
use Rattle.std.proofs.Math.Seq.{get_or-append_seam, take-length}
use Rattle.std.proofs.lemmas.Bool.{false≢true, cases_lt, eqb-true, ne_eqb}
use Rattle.std.proofs.lemmas.List.Elements.{All-cons, All-tail}
use Rattle.std.proofs.lemmas.List.Sums.{prefix_len-le-length}
use Rattle.std.proofs.lemmas.Str.{IsCharBoundary-after_ascii}
use Rattle.ucd_table.proofs.TrieCheck.{all_below}
use Rattle.gs_syntax.specs.declared.token.TokenKind.TheVariants as kind
use Rattle.gs_syntax.specs.Quotes.{IsText, IsRawText, IsRune, IsOpen, IsOpenText, IsOpenRune, IsOpenRawText}
use Rattle.gs_syntax.specs.Spelling.{Lexeme, Token, IsBad, spoiled, open_text, open_rune, open_raw, open_comment, Spells, StandsAt}
use Rattle.gs_scan.specs.declared.class.Class.TheVariants as class
use Rattle.gs_scan.specs.Reading.{class_of, IsOnlyFront, NoFront}
use Rattle.gs_scan.proofs.FirstLemmas.{may_begin, first_of}
use Rattle.gs_scan.proofs.UntilLemmas.{until_le, until_all}
use Rattle.gs_scan.proofs.RawLemmas.{no_raw}
use Rattle.gs_scan.proofs.StandingBlanks.{by_class, not_here, spoiled_here}
use Rattle.gs_scan.proofs.StandingComments.{in_line}

-- ---- a literal, or what nothing closes

-- what may be spelled where a quote stands: a literal of a value, or what is open
data Quoted {V : Type 0} (Is : List ℕ → V → Type 0) (what : V → Lexeme) (Open : List ℕ → Type 0) (other : Lexeme) (bytes : List ℕ) : Type 0 where
  literal : (value : V) → other ≡ what value → Is bytes value → Quoted Is what Open other bytes
  unended : other ≡ Token kind.Bad → Open bytes → Quoted Is what Open other bytes

-- nothing else is spelled at the front
abbrev View : (V : Type 0) → (List ℕ → V → Type 0) → (V → Lexeme) → (List ℕ → Type 0) → List ℕ → Type 0
View V Is what Open t = (m : ℕ) (other : Lexeme) → m ≤ length t → Spells other (take m t) → Quoted Is what Open other (take m t)

literal_stands : (V : Type 0) (Is : List ℕ → V → Type 0) (what : V → Lexeme) (Open : List ℕ → Type 0) (t : List ℕ) (value : V) (n : ℕ)
    → View V Is what Open t → ((bytes : List ℕ) (v : V) → Is bytes v → Spells (what v) bytes) → IsOnlyFront Is t value n
    → ((m : ℕ) → m ≤ length t → Open (take m t) → m < n) → StandsAt t (what value) n
literal_stands V Is what Open t value n view spell front shorter = inl (record {
  some = front.some;
  within = front.within;
  spells = spell (take n t) value front.is;
  longest = λ m other within h. elim (view m other within h) [
    | literal v e is ↦ let p = front.only m v within is in inr (p.0, e ∙ ap what p.1)
    | unended e is ↦ inl (shorter m within is)
  ];
})

-- a front of a front
front_of : (j m : ℕ) (t : List ℕ) → j ≤ m → take j (take m t) ≡ take j t
front_of zero m t le = refl
front_of (suc j) zero t le = absurd (omega arith)
front_of (suc j) (suc m) [] le = refl
front_of (suc j) (suc m) (c ∷ t) le = ap (λ l. c ∷ l) (front_of j m t (omega arith))

-- what is open does not reach past a literal
open_shorter : (V : Type 0) (Is : List ℕ → V → Type 0) (q : ℕ) (t : List ℕ) (value : V) (n : ℕ) → IsOnlyFront Is t value n
    → (m : ℕ) → m ≤ length t → IsOpen q (λ bytes. (v : V) × Is bytes v) (take m t) → m < n
open_shorter V Is q t value n front m within is =
    ⊎_elim (λ less. less)
    (λ more. absurd (is.3 n (let long = length-take-le m t within in omega (arith, long)) (value, subst (λ l. Is l value) (sym (front_of n m t more)) front.is)))
    (cases_lt m n)

open_front : (q : ℕ) (t : List ℕ) → 0 < q → get_or t 0 0 ≡ q → q ≢ 10 → (more : List ℕ) × (take (prefix_len in_line t) t ≡ q ∷ more) × (0 < prefix_len in_line t)
open_front q [] some e other = absurd (omega arith)
open_front q (b ∷ t) some e other =
    let stays : (b == 10) ≡ false = ne_eqb b 10 (λ x. other (sym e ∙ x)) in
    let size : prefix_len in_line (b ∷ t) ≡ suc (prefix_len in_line t) =
    ap (λ x. cond (not x) (1 + prefix_len in_line t) 0) stays ∙ (let one : 1 + prefix_len in_line t ≡ suc (prefix_len in_line t) = omega arith in one) in
    (take (prefix_len in_line t) t, (λ i. take (size i) (e i ∷ t)), omega (arith, size))

open_stands : (V : Type 0) (Is : List ℕ → V → Type 0) (what : V → Lexeme) (q : ℕ) (t : List ℕ) (n : ℕ) → 0 < q → get_or t 0 0 ≡ q → q ≢ 10
    → View V Is what (IsOpen q (λ bytes. (v : V) × Is bytes v)) t → ((bytes : List ℕ) → IsOpen q (λ b. (v : V) × Is b v) bytes → IsBad bytes)
    → NoFront Is t → n ≡ prefix_len in_line t → StandsAt t (Token kind.Bad) n
open_stands V Is what q t n some first no_line view bad none size =
    let p = open_front q t some first no_line in
    let le = prefix_len-le-length in_line t in
    let all : All (λ c. c ≢ 10) p.0 = All-tail (λ c. c ≢ 10) q p.0 (subst (All (λ c. c ≢ 10)) p.1 (until_all 10 t)) in
    let long = length-take-le (prefix_len in_line t) t le in
    subst (StandsAt t (Token kind.Bad)) (sym size) (inl (record {
      some = p.2;
      within = le;
      spells = bad (take (prefix_len in_line t) t) (
        p.0,
        p.1,
        all,
        λ m within is.
            let short : m ≤ prefix_len in_line t = omega (arith, long, within) in
            none m is.0 (omega arith) (subst (λ l. Is l is.0) (front_of m (prefix_len in_line t) t short) is.1),
      );
      longest = λ m other within h. elim (view m other within h) [
        | literal v e is ↦ absurd (none m v within is)
        | unended e is ↦
            let all : All (λ c. c ≢ 10) (take m t) = subst (All (λ c. c ≢ 10)) (sym is.1) (All-cons (λ c. c ≢ 10) q is.0 no_line is.2) in
            let le = until_le 10 t m within all in
            ⊎_elim (λ less. inl less) (λ more. inr (omega arith, e)) (cases_lt m (prefix_len in_line t))
      ];
    }))

-- the text may be cut behind the closing quote
closed_boundary : (t x : List ℕ) (a q n : ℕ) → IsUtf8 t → 0 < n → n ≤ length t → take n t ≡ a ∷ (x ++ q ∷ []) → q < 128 → IsCharBoundary t n
closed_boundary t x a q n utf8 some within is low =
    let size : n ≡ suc (length x + 1) = omega (arith, ap length is, length-append x (q ∷ []), length-take-le n t within) in
    let place : length (a ∷ x) ≡ n - 1 = omega (arith, size) in
    let last : get_or t (n - 1) 0 ≡ q =
    sym (get_or-take n t (n - 1) 0 (omega arith)) ∙ (λ i. get_or (is i) (sym place i) 0) ∙ get_or-append_seam (a ∷ x) q [] 0 in
    let e : (n - 1) + 1 ≡ n = omega arith in
    subst (IsCharBoundary t) e (IsCharBoundary-after_ascii t (n - 1) utf8 (omega arith) (omega (arith, last)))

-- ---- strings

abbrev text_like : Lexeme → Bool
text_like (Token (kind.Text value)) = true
text_like (Token kind.Bad) = true
text_like _ = false

text_of : (what : Lexeme) → may_begin what class.Quote ≡ true → text_like what ≡ true
text_of (Token (kind.Text value)) h = refl
text_of (Token kind.Bad) h = refl
text_of what h = h

text_view : (t : List ℕ) → class_of (get_or t 0 0) ≡ class.Quote → View (List ℕ) IsText (λ v. Token (kind.Text v)) IsOpenText t
text_view t quote m (Token (kind.Text value)) within h =
    ⊎_elim (λ text. literal value refl text) (λ raw. absurd (not_here class.Quote t m 96 _ quote raw.1 refl)) h
text_view t quote m (Token kind.Bad) within h =
    elim h [
      | spoiled s ↦ absurd (spoiled_here class.Quote t m quote refl s)
      | open_text q ↦ unended refl q
      | open_rune q ↦ absurd (not_here class.Quote t m 39 q.0 quote q.1 refl)
      | open_raw q ↦ absurd (not_here class.Quote t m 96 q.0 quote q.1 refl)
      | open_comment c ↦ absurd (not_here class.Quote t m 47 (42 ∷ c.0) quote c.1 refl)
    ]
text_view t quote m other within h = absurd (false≢true (text_of other (subst (λ x. may_begin other x ≡ true) quote (first_of t m other h))))

pub quote_first : (b : ℕ) → class_of b ≡ class.Quote → b ≡ 34
unfolding all_below
quote_first b h = eqb-true b 34 (by_class class.Quote (λ x. x == 34) refl refl b h)

pub text_stands : (t value : List ℕ) (n : ℕ) → class_of (get_or t 0 0) ≡ class.Quote → IsOnlyFront IsText t value n → StandsAt t (Token (kind.Text value)) n
text_stands t value n quote front =
    literal_stands (List ℕ) IsText (λ v. Token (kind.Text v)) IsOpenText t value n (text_view t quote) (λ bytes v h. inl h) front (open_shorter (List ℕ) IsText 34 t value n front)

pub open_text_stands : (t : List ℕ) (n : ℕ) → class_of (get_or t 0 0) ≡ class.Quote → NoFront IsText t → n ≡ prefix_len in_line t → StandsAt t (Token kind.Bad) n
open_text_stands t n quote none size =
    open_stands (List ℕ) IsText (λ v. Token (kind.Text v)) 34 t n (omega arith) (quote_first (get_or t 0 0) quote) (λ e. omega arith) (text_view t quote) (λ bytes h. open_text h) none size

pub text_boundary : (t value : List ℕ) (n : ℕ) → IsUtf8 t → IsOnlyFront IsText t value n → IsCharBoundary t n
text_boundary t value n utf8 front = let is = front.is in closed_boundary t _ 34 34 n utf8 front.some front.within is.2 (omega arith)

-- ---- runes

abbrev rune_like : Lexeme → Bool
rune_like (Token (kind.Rune code)) = true
rune_like (Token kind.Bad) = true
rune_like _ = false

rune_of : (what : Lexeme) → may_begin what class.Apostrophe ≡ true → rune_like what ≡ true
rune_of (Token (kind.Rune code)) h = refl
rune_of (Token kind.Bad) h = refl
rune_of what h = h

rune_view : (t : List ℕ) → class_of (get_or t 0 0) ≡ class.Apostrophe → View ℕ IsRune (λ v. Token (kind.Rune v)) IsOpenRune t
rune_view t quote m (Token (kind.Rune code)) within h = literal code refl h
rune_view t quote m (Token kind.Bad) within h =
    elim h [
      | spoiled s ↦ absurd (spoiled_here class.Apostrophe t m quote refl s)
      | open_text q ↦ absurd (not_here class.Apostrophe t m 34 q.0 quote q.1 refl)
      | open_rune q ↦ unended refl q
      | open_raw q ↦ absurd (not_here class.Apostrophe t m 96 q.0 quote q.1 refl)
      | open_comment c ↦ absurd (not_here class.Apostrophe t m 47 (42 ∷ c.0) quote c.1 refl)
    ]
rune_view t quote m other within h = absurd (false≢true (rune_of other (subst (λ x. may_begin other x ≡ true) quote (first_of t m other h))))

pub apostrophe_first : (b : ℕ) → class_of b ≡ class.Apostrophe → b ≡ 39
unfolding all_below
apostrophe_first b h = eqb-true b 39 (by_class class.Apostrophe (λ x. x == 39) refl refl b h)

pub rune_stands : (t : List ℕ) (code n : ℕ) → class_of (get_or t 0 0) ≡ class.Apostrophe → IsOnlyFront IsRune t code n → StandsAt t (Token (kind.Rune code)) n
rune_stands t code n quote front =
    literal_stands ℕ IsRune (λ v. Token (kind.Rune v)) IsOpenRune t code n (rune_view t quote) (λ bytes v h. h) front (open_shorter ℕ IsRune 39 t code n front)

pub open_rune_stands : (t : List ℕ) (n : ℕ) → class_of (get_or t 0 0) ≡ class.Apostrophe → NoFront IsRune t → n ≡ prefix_len in_line t → StandsAt t (Token kind.Bad) n
open_rune_stands t n quote none size =
    open_stands ℕ IsRune (λ v. Token (kind.Rune v)) 39 t n (omega arith) (apostrophe_first (get_or t 0 0) quote) (λ e. omega arith) (rune_view t quote) (λ bytes h. open_rune h) none size

pub rune_boundary : (t : List ℕ) (code n : ℕ) → IsUtf8 t → IsOnlyFront IsRune t code n → IsCharBoundary t n
rune_boundary t code n utf8 front = let is = front.is in closed_boundary t is.0 39 39 n utf8 front.some front.within is.1 (omega arith)

-- ---- raw strings

raw_of : (what : Lexeme) → may_begin what class.BackQuote ≡ true → text_like what ≡ true
raw_of (Token (kind.Text value)) h = refl
raw_of (Token kind.Bad) h = refl
raw_of what h = h

raw_view : (t : List ℕ) → class_of (get_or t 0 0) ≡ class.BackQuote → View (List ℕ) IsRawText (λ v. Token (kind.Text v)) IsOpenRawText t
raw_view t quote m (Token (kind.Text value)) within h =
    ⊎_elim (λ text. absurd (not_here class.BackQuote t m 34 _ quote text.2 refl)) (λ raw. literal value refl raw) h
raw_view t quote m (Token kind.Bad) within h =
    elim h [
      | spoiled s ↦ absurd (spoiled_here class.BackQuote t m quote refl s)
      | open_text q ↦ absurd (not_here class.BackQuote t m 34 q.0 quote q.1 refl)
      | open_rune q ↦ absurd (not_here class.BackQuote t m 39 q.0 quote q.1 refl)
      | open_raw q ↦ unended refl q
      | open_comment c ↦ absurd (not_here class.BackQuote t m 47 (42 ∷ c.0) quote c.1 refl)
    ]
raw_view t quote m other within h = absurd (false≢true (raw_of other (subst (λ x. may_begin other x ≡ true) quote (first_of t m other h))))

pub back_quote_first : (b : ℕ) → class_of b ≡ class.BackQuote → b ≡ 96
unfolding all_below
back_quote_first b h = eqb-true b 96 (by_class class.BackQuote (λ x. x == 96) refl refl b h)

raw_shorter : (t value : List ℕ) (n : ℕ) → IsOnlyFront IsRawText t value n → (m : ℕ) → m ≤ length t → IsOpenRawText (take m t) → m < n
raw_shorter t value n front m within is =
    ⊎_elim (λ less. less)
    (λ more. absurd (no_raw (take m t) n value is (let long = length-take-le m t within in omega (arith, long)) (subst (λ l. IsRawText l value) (sym (front_of n m t more)) front.is)))
    (cases_lt m n)

pub raw_stands : (t value : List ℕ) (n : ℕ) → class_of (get_or t 0 0) ≡ class.BackQuote → IsOnlyFront IsRawText t value n → StandsAt t (Token (kind.Text value)) n
raw_stands t value n quote front =
    literal_stands (List ℕ) IsRawText (λ v. Token (kind.Text v)) IsOpenRawText t value n (raw_view t quote) (λ bytes v h. inr h) front (raw_shorter t value n front)

pub open_raw_stands : (t : List ℕ) (n : ℕ) → class_of (get_or t 0 0) ≡ class.BackQuote → IsOpenRawText t → n ≡ length t → StandsAt t (Token kind.Bad) n
open_raw_stands t n quote is size =
    subst (StandsAt t (Token kind.Bad)) (sym size) (inl (record {
      some = omega (arith, ap length is.1);
      within = omega arith;
      spells = open_raw (subst IsOpenRawText (sym (take-length t)) is);
      longest = λ m other within h. elim (raw_view t quote m other within h) [
        | literal v e raw ↦ absurd (no_raw t m v is within raw)
        | unended e more ↦ ⊎_elim (λ less. inl less) (λ all. inr (omega arith, e)) (cases_lt m (length t))
      ];
    }))

pub raw_boundary : (t value : List ℕ) (n : ℕ) → IsUtf8 t → IsOnlyFront IsRawText t value n → IsCharBoundary t n
raw_boundary t value n utf8 front = let is = front.is in closed_boundary t is.0 96 96 n utf8 front.some front.within is.1 (omega arith)
