-- Places in a list of tokens, and what the tests of tokens show.
use Rattle.std.proofs.Common.{◌≡◌, ◌<◌, ◌≤◌, Bool, true, false, not, List, [], ◌∷◌, ◌==◌, length, refl, sym, ap, ◌∙◌, subst, arith, Option, Some, None, is_none, if◌then◌else◌, get_or}
use Rattle.std.proofs.lemmas.Bool.{eq-eqb, eqb-true}
use Rattle.gs_syntax.specs.declared.token.Span.{Span}
use Rattle.gs_syntax.specs.declared.token.Token.{Token}
use Rattle.gs_syntax.specs.declared.token.TokenKind.{TokenKind}
use Rattle.gs_syntax.specs.declared.token.TokenKind.TheVariants as kind
use Rattle.gs_syntax.specs.declared.token.Operator.{Operator}
use Rattle.gs_syntax.specs.declared.token.Operator.TheVariants as mark
use Rattle.gs_syntax.specs.declared.token.Keyword.{Keyword}
use Rattle.gs_syntax.specs.declared.token.Keyword.TheVariants as word
use Rattle.gs_grammar.specs.Front.{◌>>=◌, ◌>>◌, first, token, operator, IsMark, IsWord, IsName, IsText, IsFront, IsTrail, mark_number, word_number, is_mark, is_word, is_name, is_text, mark_at, word_at, name_at, text_at, front_at, trail_at, selector_at}

-- ---- places

-- r is an end of s
pub data Ends : List Token → List Token → Type 0 where
  here : {s : List Token} → Ends s s
  later : {x : Token} {s r : List Token} → Ends s r → Ends (x ∷ s) r

pub length-Ends : {s r : List Token} → Ends s r → length r ≤ length s
length-Ends here = omega arith
length-Ends (later e) = omega (arith, length-Ends e)

pub Ends-trans : {s u r : List Token} → Ends s u → Ends u r → Ends s r
Ends-trans here f = f
Ends-trans (later e) f = later (Ends-trans e f)

-- r is an end of s, but not all of it
pub data After : List Token → List Token → Type 0 where
  after : {x : Token} {s r : List Token} → Ends s r → After (x ∷ s) r

pub to_ends : {s r : List Token} → After s r → Ends s r
to_ends (after e) = later e

pub ends_of : {x : Token} {s r : List Token} → After (x ∷ s) r → Ends s r
ends_of (after e) = e

pub After-trans : {s u r : List Token} → After s u → Ends u r → After s r
After-trans (after e) f = after (Ends-trans e f)

pub Ends-After : {s u r : List Token} → Ends s u → After u r → After s r
Ends-After here f = f
Ends-After (later e) f = after (to_ends (Ends-After e f))

pub length-After : {s r : List Token} → After s r → length r < length s
length-After (after e) = omega (arith, length-Ends e)

-- s has a token
pub data Full : List Token → Type 0 where
  full : {x : Token} {s : List Token} → Full (x ∷ s)

pub full-After : {s r : List Token} → After s r → Full s
full-After (after e) = full

pub full-nil : Full [] → ⊥
full-nil h = elim h [ ]

-- ---- what is found

abbrev IsFull : {A : Type 0} → Option A → Type 0
IsFull None = ⊥
IsFull (Some a) = Unit {0}

pub some_is_none : {A : Type 0} {a : A} → None ≡ Some a → ⊥
some_is_none e = subst IsFull (sym e) tt

pub some_is : {A : Type 0} {a b : A} → Some a ≡ Some b → a ≡ b
some_is e = cc

abbrev IsTrueOr : Bool → Type 0
IsTrueOr true = ⊥
IsTrueOr false = Unit {0}

pub no : false ≡ true → ⊥
no e = subst IsTrueOr e tt

pub from_some : {A : Type 0} (P : A → Type 0) {a b : A} → Some a ≡ Some b → P a → P b
from_some P {a} {b} e p = let same : a ≡ b = cc in subst P same p

pub bind : {A B : Type 0} (Q : B → Type 0) (o : Option A) (f : A → Option B) → ((a : A) → o ≡ Some a → (b : B) → f a ≡ Some b → Q b) → (b : B) → (o >>= f) ≡ Some b → Q b
bind Q None f h b e = absurd (some_is_none e)
bind Q (Some a) f h b e = h a refl b e

pub either : {B : Type 0} (Q : B → Type 0) (o p : Option B) → ((b : B) → o ≡ Some b → Q b) → ((b : B) → p ≡ Some b → Q b) → (b : B) → first o p ≡ Some b → Q b
either Q None p h i b e = i b e
either Q (Some a) p h i b e = h b e

pub guard : {B : Type 0} (Q : B → Type 0) (c : Bool) (o : Option B) → (c ≡ true → (b : B) → o ≡ Some b → Q b) → (b : B) → (c >> o) ≡ Some b → Q b
guard Q true o h b e = h refl b e
guard Q false o h b e = absurd (some_is_none e)

pub none-of : {A : Type 0} (o : Option A) → is_none o ≡ true → o ≡ None
none-of None e = refl
none-of (Some a) e = absurd (no e)

pub not-true : (b : Bool) → not b ≡ true → b ≡ false
not-true true e = absurd (no e)
not-true false e = refl

pub if-some : {A : Type 0} {a b : A} (c : Bool) → (if c then Some a else None) ≡ Some b → (c ≡ true) × (a ≡ b)
if-some true e = (refl, some_is e)
if-some false e = absurd (some_is_none e)

pub if-none : {A : Type 0} (a : A) (c : Bool) → (if c then Some a else None) ≡ None → c ≡ false
if-none a true e = absurd (some_is_none (sym e))
if-none a false e = refl

-- ---- tokens by their numbers

marks : List Operator
marks = mark.Plus ∷ mark.Minus ∷ mark.Star ∷ mark.Slash ∷ mark.Percent ∷ mark.And ∷ mark.Or ∷ mark.Caret ∷ mark.ShiftLeft ∷ mark.ShiftRight ∷ mark.AndNot ∷ mark.PlusAssign ∷ mark.MinusAssign ∷ mark.StarAssign ∷ mark.SlashAssign ∷ mark.PercentAssign ∷ mark.AndAssign ∷ mark.OrAssign ∷ mark.CaretAssign ∷ mark.ShiftLeftAssign ∷ mark.ShiftRightAssign ∷ mark.AndNotAssign ∷ mark.LogicalAnd ∷ mark.LogicalOr ∷ mark.Arrow ∷ mark.Increment ∷ mark.Decrement ∷ mark.Equal ∷ mark.Less ∷ mark.Greater ∷ mark.Assign ∷ mark.Not ∷ mark.NotEqual ∷ mark.LessEqual ∷ mark.GreaterEqual ∷ mark.Define ∷ mark.Ellipsis ∷ mark.LeftParen ∷ mark.RightParen ∷ mark.LeftBracket ∷ mark.RightBracket ∷ mark.LeftBrace ∷ mark.RightBrace ∷ mark.Comma ∷ mark.Semicolon ∷ mark.Dot ∷ mark.Colon ∷ []

words : List Keyword
words = word.Break ∷ word.Case ∷ word.Chan ∷ word.Const ∷ word.Continue ∷ word.Default ∷ word.Defer ∷ word.Else ∷ word.Fallthrough ∷ word.For ∷ word.Func ∷ word.Go ∷ word.Goto ∷ word.If ∷ word.Import ∷ word.Interface ∷ word.Map ∷ word.Package ∷ word.Range ∷ word.Return ∷ word.Select ∷ word.Struct ∷ word.Switch ∷ word.«Type» ∷ word.Var ∷ []

mark-back : (o : Operator) → get_or marks (mark_number o) mark.Plus ≡ o
unfolding marks
mark-back mark.Plus = refl
mark-back mark.Minus = refl
mark-back mark.Star = refl
mark-back mark.Slash = refl
mark-back mark.Percent = refl
mark-back mark.And = refl
mark-back mark.Or = refl
mark-back mark.Caret = refl
mark-back mark.ShiftLeft = refl
mark-back mark.ShiftRight = refl
mark-back mark.AndNot = refl
mark-back mark.PlusAssign = refl
mark-back mark.MinusAssign = refl
mark-back mark.StarAssign = refl
mark-back mark.SlashAssign = refl
mark-back mark.PercentAssign = refl
mark-back mark.AndAssign = refl
mark-back mark.OrAssign = refl
mark-back mark.CaretAssign = refl
mark-back mark.ShiftLeftAssign = refl
mark-back mark.ShiftRightAssign = refl
mark-back mark.AndNotAssign = refl
mark-back mark.LogicalAnd = refl
mark-back mark.LogicalOr = refl
mark-back mark.Arrow = refl
mark-back mark.Increment = refl
mark-back mark.Decrement = refl
mark-back mark.Equal = refl
mark-back mark.Less = refl
mark-back mark.Greater = refl
mark-back mark.Assign = refl
mark-back mark.Not = refl
mark-back mark.NotEqual = refl
mark-back mark.LessEqual = refl
mark-back mark.GreaterEqual = refl
mark-back mark.Define = refl
mark-back mark.Ellipsis = refl
mark-back mark.LeftParen = refl
mark-back mark.RightParen = refl
mark-back mark.LeftBracket = refl
mark-back mark.RightBracket = refl
mark-back mark.LeftBrace = refl
mark-back mark.RightBrace = refl
mark-back mark.Comma = refl
mark-back mark.Semicolon = refl
mark-back mark.Dot = refl
mark-back mark.Colon = refl

word-back : (k : Keyword) → get_or words (word_number k) word.Break ≡ k
unfolding words
word-back word.Break = refl
word-back word.Case = refl
word-back word.Chan = refl
word-back word.Const = refl
word-back word.Continue = refl
word-back word.Default = refl
word-back word.Defer = refl
word-back word.Else = refl
word-back word.Fallthrough = refl
word-back word.For = refl
word-back word.Func = refl
word-back word.Go = refl
word-back word.Goto = refl
word-back word.If = refl
word-back word.Import = refl
word-back word.Interface = refl
word-back word.Map = refl
word-back word.Package = refl
word-back word.Range = refl
word-back word.Return = refl
word-back word.Select = refl
word-back word.Struct = refl
word-back word.Switch = refl
word-back word.«Type» = refl
word-back word.Var = refl

is_mark-only : (o : Operator) (k : TokenKind) → is_mark o k ≡ true → k ≡ kind.Operator o
is_mark-only o (kind.Operator m) e =
    let same : mark_number o ≡ mark_number m = eqb-true (mark_number o) (mark_number m) e in
    ap (λ z. kind.Operator z) (sym (mark-back m) ∙ ap (λ i. get_or marks i mark.Plus) (sym same) ∙ mark-back o)
is_mark-only o _ e = absurd (no e)

is_word-only : (w : Keyword) (k : TokenKind) → is_word w k ≡ true → k ≡ kind.Keyword w
is_word-only w (kind.Keyword m) e =
    let same : word_number w ≡ word_number m = eqb-true (word_number w) (word_number m) e in
    ap (λ z. kind.Keyword z) (sym (word-back m) ∙ ap (λ i. get_or words i word.Break) (sym same) ∙ word-back w)
is_word-only w _ e = absurd (no e)

-- ---- the tests of tokens are sound

pub mark-sound : (o : Operator) (s : List Token) (q : Span × List Token) → mark_at o s ≡ Some q → IsMark o q.0 s q.1
unfolding mark_at
mark-sound o [] q e = absurd (some_is_none e)
mark-sound o (x ∷ r) q e =
    let h = if-some (is_mark o x.kind) e in
    subst (λ z. IsMark o z.0 (x ∷ r) z.1) h.1 (subst (λ z. IsMark o x.span (token z x.span ∷ r) r) (sym (is_mark-only o x.kind h.0)) IsMark.a_mark)

pub word-sound : (k : Keyword) (s : List Token) (q : Span × List Token) → word_at k s ≡ Some q → IsWord k q.0 s q.1
unfolding word_at
word-sound k [] q e = absurd (some_is_none e)
word-sound k (x ∷ r) q e =
    let h = if-some (is_word k x.kind) e in
    subst (λ z. IsWord k z.0 (x ∷ r) z.1) h.1 (subst (λ z. IsWord k x.span (token z x.span ∷ r) r) (sym (is_word-only k x.kind h.0)) IsWord.a_word)

is_name-only : (k : TokenKind) (p : Span) (r : List Token) → is_name k ≡ true → IsName (token k p) (token k p ∷ r) r
is_name-only (kind.Identifier a) p r e = IsName.a_name
is_name-only _ p r e = absurd (no e)

pub name-sound : (s : List Token) (q : Token × List Token) → name_at s ≡ Some q → IsName q.0 s q.1
unfolding name_at
name-sound [] q e = absurd (some_is_none e)
name-sound (x ∷ r) q e = let h = if-some (is_name x.kind) e in subst (λ z. IsName z.0 (x ∷ r) z.1) h.1 (is_name-only x.kind x.span r h.0)

is_text-only : (k : TokenKind) (p : Span) (r : List Token) → is_text k ≡ true → IsText (token k p) (token k p ∷ r) r
is_text-only (kind.Text v) p r e = IsText.a_text
is_text-only _ p r e = absurd (no e)

pub text-sound : (s : List Token) (q : Token × List Token) → text_at s ≡ Some q → IsText q.0 s q.1
unfolding text_at
text-sound [] q e = absurd (some_is_none e)
text-sound (x ∷ r) q e = let h = if-some (is_text x.kind) e in subst (λ z. IsText z.0 (x ∷ r) z.1) h.1 (is_text-only x.kind x.span r h.0)

pub front-sound : (f : TokenKind → Bool) (s : List Token) (q : Token × List Token) → front_at f s ≡ Some q → IsFront f q.0 s q.1
unfolding front_at
front-sound f [] q e = absurd (some_is_none e)
front-sound f (x ∷ r) q e = let h = if-some (f x.kind) e in subst (λ z. IsFront f z.0 (x ∷ r) z.1) h.1 (IsFront.a_front h.0)

pub trail-sound : (o : Operator) (s : List Token) (r : List Token) → trail_at o s ≡ Some r → IsTrail o s r
unfolding trail_at
trail-sound o s r e =
    let Q : List Token → Type 0 = λ z. IsTrail o s z in
    either Q _ _
    (λ b c. bind Q (mark_at o s) _ (λ q e1 b1 c1. from_some Q c1 (IsTrail.no_comma (mark-sound o s q e1))) b c)
    (λ b c. bind Q (mark_at mark.Comma s) _ (λ p e1 b1 c1. bind Q (mark_at o p.1) _ (λ q e2 b2 c2. from_some Q c2 (IsTrail.a_comma (mark-sound mark.Comma s p e1) (mark-sound o p.1 q e2))) b1 c1) b c) r e

-- ---- and exact

same-mark : (o : Operator) → (mark_number o == mark_number o) ≡ true
same-mark o = eq-eqb (mark_number o) (mark_number o) refl

same-word : (k : Keyword) → (word_number k == word_number k) ≡ true
same-word k = eq-eqb (word_number k) (word_number k) refl

pub mark-exact : {o : Operator} {p : Span} {s r : List Token} → IsMark o p s r → mark_at o s ≡ Some (p, r)
unfolding mark_at
mark-exact (IsMark.a_mark {o} {p} {r}) = rw (same-mark o) refl

pub word-exact : {k : Keyword} {p : Span} {s r : List Token} → IsWord k p s r → word_at k s ≡ Some (p, r)
unfolding word_at
word-exact (IsWord.a_word {k} {p} {r}) = rw (same-word k) refl

pub name-exact : {x : Token} {s r : List Token} → IsName x s r → name_at s ≡ Some (x, r)
unfolding name_at
name-exact IsName.a_name = refl

pub text-exact : {x : Token} {s r : List Token} → IsText x s r → text_at s ≡ Some (x, r)
unfolding text_at
text-exact IsText.a_text = refl

pub front-exact : {f : TokenKind → Bool} {x : Token} {s r : List Token} → IsFront f x s r → front_at f s ≡ Some (x, r)
unfolding front_at
front-exact (IsFront.a_front e) = rw e refl

pub front-of : (f : TokenKind → Bool) {k : TokenKind} {p : Span} {r : List Token} → f k ≡ true → IsFront f (token k p) (token k p ∷ r) r
front-of f e = IsFront.a_front e

-- ---- one test shows another

pub mark-other : (o : Operator) {m : Operator} {p : Span} {s r : List Token} → is_mark o (kind.Operator m) ≡ false → IsMark m p s r → mark_at o s ≡ None
unfolding mark_at
mark-other o e IsMark.a_mark = rw e refl

pub mark-no-word : (k : Keyword) {m : Operator} {p : Span} {s r : List Token} → IsMark m p s r → word_at k s ≡ None
unfolding word_at
mark-no-word k IsMark.a_mark = refl

pub mark-no-name : {m : Operator} {p : Span} {s r : List Token} → IsMark m p s r → name_at s ≡ None
unfolding name_at
mark-no-name IsMark.a_mark = refl

pub mark-no-text : {m : Operator} {p : Span} {s r : List Token} → IsMark m p s r → text_at s ≡ None
unfolding text_at
mark-no-text IsMark.a_mark = refl

pub mark-no-front : (f : TokenKind → Bool) {m : Operator} {p : Span} {s r : List Token} → f (kind.Operator m) ≡ false → IsMark m p s r → front_at f s ≡ None
unfolding front_at
mark-no-front f e IsMark.a_mark = rw e refl

pub mark-front : (f : TokenKind → Bool) {m : Operator} {p : Span} {s r : List Token} → f (kind.Operator m) ≡ true → IsMark m p s r → front_at f s ≡ Some (operator m p, r)
unfolding front_at
mark-front f e IsMark.a_mark = rw e refl

pub word-other : (k : Keyword) {m : Keyword} {p : Span} {s r : List Token} → is_word k (kind.Keyword m) ≡ false → IsWord m p s r → word_at k s ≡ None
unfolding word_at
word-other k e IsWord.a_word = rw e refl

pub word-no-mark : (o : Operator) {m : Keyword} {p : Span} {s r : List Token} → IsWord m p s r → mark_at o s ≡ None
unfolding mark_at
word-no-mark o IsWord.a_word = refl

pub word-no-name : {m : Keyword} {p : Span} {s r : List Token} → IsWord m p s r → name_at s ≡ None
unfolding name_at
word-no-name IsWord.a_word = refl

pub word-no-front : (f : TokenKind → Bool) {m : Keyword} {p : Span} {s r : List Token} → f (kind.Keyword m) ≡ false → IsWord m p s r → front_at f s ≡ None
unfolding front_at
word-no-front f e IsWord.a_word = rw e refl

pub name-no-mark : (o : Operator) {x : Token} {s r : List Token} → IsName x s r → mark_at o s ≡ None
unfolding mark_at
name-no-mark o IsName.a_name = refl

pub name-no-word : (k : Keyword) {x : Token} {s r : List Token} → IsName x s r → word_at k s ≡ None
unfolding word_at
name-no-word k IsName.a_name = refl

pub front-no-mark : {f : TokenKind → Bool} (o : Operator) {x : Token} {s r : List Token} → f (kind.Operator o) ≡ false → IsFront f x s r → mark_at o s ≡ None
unfolding mark_at
front-no-mark {f} o e (IsFront.a_front {k} {p} {r} g) = by_bool (is_mark o k) refl
  where
    by_bool : (b : Bool) → is_mark o k ≡ b → mark_at o (token k p ∷ r) ≡ None
    by_bool true q = absurd (no (sym e ∙ ap f (sym (is_mark-only o k q)) ∙ g))
    by_bool false q = rw q refl

pub front-no-word : {f : TokenKind → Bool} (w : Keyword) {x : Token} {s r : List Token} → f (kind.Keyword w) ≡ false → IsFront f x s r → word_at w s ≡ None
unfolding word_at
front-no-word {f} w e (IsFront.a_front {k} {p} {r} g) = by_bool (is_word w k) refl
  where
    by_bool : (b : Bool) → is_word w k ≡ b → word_at w (token k p ∷ r) ≡ None
    by_bool true q = absurd (no (sym e ∙ ap f (sym (is_word-only w k q)) ∙ g))
    by_bool false q = rw q refl

pub front-no-name : {f : TokenKind → Bool} {x : Token} {s r : List Token} → ((k : TokenKind) → f k ≡ true → is_name k ≡ false) → IsFront f x s r → name_at s ≡ None
unfolding name_at
front-no-name h (IsFront.a_front {k} g) = rw (h k g) refl

pub front-no-text : {f : TokenKind → Bool} {x : Token} {s r : List Token} → ((k : TokenKind) → f k ≡ true → is_text k ≡ false) → IsFront f x s r → text_at s ≡ None
unfolding text_at
front-no-text h (IsFront.a_front {k} g) = rw (h k g) refl

pub front-no-front : {f : TokenKind → Bool} (h : TokenKind → Bool) {x : Token} {s r : List Token} → ((k : TokenKind) → f k ≡ true → h k ≡ false) → IsFront f x s r → front_at h s ≡ None
unfolding front_at
front-no-front h c (IsFront.a_front {k} g) = rw (c k g) refl

pub front-front : {f : TokenKind → Bool} (h : TokenKind → Bool) {x : Token} {s r : List Token} → ((k : TokenKind) → f k ≡ true → h k ≡ true) → IsFront f x s r → front_at h s ≡ Some (x, r)
unfolding front_at
front-front h c (IsFront.a_front {k} g) = rw (c k g) refl

pub no-front-mark : (f : TokenKind → Bool) (o : Operator) (s : List Token) → f (kind.Operator o) ≡ true → front_at f s ≡ None → mark_at o s ≡ None
unfolding mark_at front_at
no-front-mark f o [] e g = refl
no-front-mark f o (x ∷ r) e g = by_bool (is_mark o x.kind) refl
  where
    by_bool : (b : Bool) → is_mark o x.kind ≡ b → mark_at o (x ∷ r) ≡ None
    by_bool true q = absurd (no (sym (if-none (x, r) (f x.kind) g) ∙ ap f (is_mark-only o x.kind q) ∙ e))
    by_bool false q = rw q refl

pub no-front-front : (f h : TokenKind → Bool) (s : List Token) → ((k : TokenKind) → h k ≡ true → f k ≡ true) → front_at f s ≡ None → front_at h s ≡ None
unfolding front_at
no-front-front f h [] c g = refl
no-front-front f h (x ∷ r) c g = by_bool (h x.kind) refl
  where
    by_bool : (b : Bool) → h x.kind ≡ b → front_at h (x ∷ r) ≡ None
    by_bool true q = absurd (no (sym (if-none (x, r) (f x.kind) g) ∙ c x.kind q))
    by_bool false q = rw q refl

pub no-selector : (s : List Token) → mark_at mark.Dot s ≡ None → selector_at s ≡ None
unfolding selector_at
no-selector s e = rw e refl

pub selector-exact : {p : Span} {x : Token} {s u r : List Token} → IsMark mark.Dot p s u → IsName x u r → selector_at s ≡ Some (x, r)
unfolding selector_at
selector-exact h1 h2 = rw (mark-exact h1) (name-exact h2)

pub trail-exact : {o : Operator} {s r : List Token} → is_mark o (kind.Operator mark.Comma) ≡ false → IsTrail o s r → trail_at o s ≡ Some r
unfolding trail_at
trail-exact e (IsTrail.no_comma p) = rw (mark-exact p) refl
trail-exact {o} e (IsTrail.a_comma p q) = rw (mark-other o e p, mark-exact p, mark-exact q) refl

pub no-trail : (o : Operator) {p : Span} {s r : List Token} → is_mark o (kind.Operator mark.Comma) ≡ false → IsMark mark.Comma p s r → mark_at o r ≡ None → trail_at o s ≡ None
unfolding trail_at
no-trail o e p q = rw (mark-other o e p, mark-exact p, q) refl

-- what stands behind a comma that may be one
pub trail-no-mark : {o : Operator} (m : Operator) {s r : List Token} → is_mark m (kind.Operator mark.Comma) ≡ false → is_mark m (kind.Operator o) ≡ false → IsTrail o s r → mark_at m s ≡ None
trail-no-mark m e f (IsTrail.no_comma p) = mark-other m f p
trail-no-mark m e f (IsTrail.a_comma p q) = mark-other m e p

-- ---- each takes its tokens

pub After-mark : {o : Operator} {p : Span} {s r : List Token} → IsMark o p s r → After s r
After-mark IsMark.a_mark = after here

pub After-word : {k : Keyword} {p : Span} {s r : List Token} → IsWord k p s r → After s r
After-word IsWord.a_word = after here

pub After-name : {x : Token} {s r : List Token} → IsName x s r → After s r
After-name IsName.a_name = after here

pub After-text : {x : Token} {s r : List Token} → IsText x s r → After s r
After-text IsText.a_text = after here

pub After-front : {f : TokenKind → Bool} {x : Token} {s r : List Token} → IsFront f x s r → After s r
After-front (IsFront.a_front e) = after here

pub Ends-trail : {o : Operator} {s r : List Token} → IsTrail o s r → Ends s r
Ends-trail (IsTrail.no_comma p) = here
Ends-trail (IsTrail.a_comma p q) = to_ends (After-mark p)
