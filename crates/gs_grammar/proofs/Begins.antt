-- What stands begins with a token of its class.
use Rattle.std.proofs.Common.{◌≡◌, ℕ, suc, Bool, true, false, not, ◌||◌, nat_lt, List, refl, sym, ap, ◌∙◌, arith, Option, Some, None}
use Rattle.std.proofs.lemmas.Bool.{eqb-true, ltb-true, lt-ltb}
use Rattle.gs_syntax.specs.declared.token.TokenKind.{TokenKind}
use Rattle.gs_syntax.specs.declared.token.TokenKind.TheVariants as kind
use Rattle.gs_syntax.specs.declared.token.Operator.{Operator}
use Rattle.gs_syntax.specs.declared.token.Keyword.{Keyword}
use Rattle.gs_syntax.specs.declared.token.Span.{Span}
use Rattle.gs_syntax.specs.declared.token.Token.{Token}
use Rattle.gs_syntax.specs.declared.token.Operator.TheVariants as mark
use Rattle.gs_syntax.specs.declared.token.Keyword.TheVariants as word
use Rattle.gs_grammar.specs.declared.trees.Decl.{Decl}
use Rattle.gs_grammar.specs.declared.trees.ConstSpec.{ConstSpec}
use Rattle.gs_grammar.specs.declared.trees.TypeSpec.{TypeSpec}
use Rattle.gs_grammar.specs.declared.trees.VarSpec.{VarSpec}
use Rattle.gs_grammar.specs.declared.trees.TypeExpr.{TypeExpr}
use Rattle.gs_grammar.specs.declared.trees.Signature.{Signature}
use Rattle.gs_grammar.specs.declared.trees.Parameters.{Parameters}
use Rattle.gs_grammar.specs.declared.trees.Parameter.{Parameter}
use Rattle.gs_grammar.specs.declared.trees.Expr.{Expr}
use Rattle.gs_grammar.specs.declared.trees.LiteralValue.{LiteralValue}
use Rattle.gs_grammar.specs.declared.trees.Block.{Block}
use Rattle.gs_grammar.specs.declared.trees.Stmt.{Stmt}
use Rattle.gs_grammar.specs.declared.trees.Simple.{Simple}
use Rattle.gs_grammar.specs.Front.{IsMark, IsWord, IsName, IsText, IsFront, IsTrail, is_mark, is_name, mark_at, word_at, front_at, is_basic, is_sign, is_binary, is_level, is_bound_end, binary_level, is_composite_start, is_decl_start, is_other_start, is_goes_on, is_semi, is_step, is_update, is_stmt_end, is_spec_end, is_list_end, is_field_end, is_embed_end}
use Rattle.gs_grammar.specs.Grammar as g
use Rattle.gs_grammar.proofs.Common.{some_is_none, some_is, no, not-true, mark-exact, mark-other, name-no-mark, front-no-mark, front-no-word, front-no-front}

-- the front is of a class
pub data Begins (f : TokenKind → Bool) : List Token → Type 0 where
  begins : {x : Token} {s w : List Token} → IsFront f x s w → Begins f s

-- this mark stands at the front
pub data Marked (o : Operator) : List Token → Type 0 where
  marked : {q : Span} {s w : List Token} → IsMark o q s w → Marked o s

pub at-mark : {f : TokenKind → Bool} {o : Operator} {q : Span} {s w : List Token} → f (kind.Operator o) ≡ true → IsMark o q s w → Begins f s
at-mark e IsMark.a_mark = Begins.begins (IsFront.a_front e)

pub at-word : {f : TokenKind → Bool} {k : Keyword} {q : Span} {s w : List Token} → f (kind.Keyword k) ≡ true → IsWord k q s w → Begins f s
at-word e IsWord.a_word = Begins.begins (IsFront.a_front e)

pub at-name : {f : TokenKind → Bool} {x : Token} {s w : List Token} → ((a : List ℕ) → f (kind.Identifier a) ≡ true) → IsName x s w → Begins f s
at-name h (IsName.a_name {a}) = Begins.begins (IsFront.a_front (h a))

pub at-text : {f : TokenKind → Bool} {x : Token} {s w : List Token} → ((v : List ℕ) → f (kind.Text v) ≡ true) → IsText x s w → Begins f s
at-text h (IsText.a_text {v}) = Begins.begins (IsFront.a_front (h v))

pub at-front : {f : TokenKind → Bool} {h : TokenKind → Bool} {x : Token} {s w : List Token} → ((k : TokenKind) → h k ≡ true → f k ≡ true) → IsFront h x s w → Begins f s
at-front c (IsFront.a_front {k} e) = Begins.begins (IsFront.a_front (c k e))

pub widen : {f : TokenKind → Bool} {h : TokenKind → Bool} {s : List Token} → ((k : TokenKind) → h k ≡ true → f k ≡ true) → Begins h s → Begins f s
widen c (Begins.begins b) = at-front c b

pub lacks-mark : {f : TokenKind → Bool} (o : Operator) {s : List Token} → f (kind.Operator o) ≡ false → Begins f s → mark_at o s ≡ None
lacks-mark o e (Begins.begins b) = front-no-mark o e b

pub lacks-word : {f : TokenKind → Bool} (w : Keyword) {s : List Token} → f (kind.Keyword w) ≡ false → Begins f s → word_at w s ≡ None
lacks-word w e (Begins.begins b) = front-no-word w e b

pub lacks-front : {f : TokenKind → Bool} (h : TokenKind → Bool) {s : List Token} → ((k : TokenKind) → f k ≡ true → h k ≡ false) → Begins f s → front_at h s ≡ None
lacks-front h c (Begins.begins b) = front-no-front h c b

pub not-mark : {f : TokenKind → Bool} {o : Operator} {q : Span} {s w : List Token} → f (kind.Operator o) ≡ false → IsMark o q s w → Begins f s → ⊥
not-mark e IsMark.a_mark (Begins.begins (IsFront.a_front c)) = no (sym e ∙ c)

pub not-word : {f : TokenKind → Bool} {k : Keyword} {q : Span} {s w : List Token} → f (kind.Keyword k) ≡ false → IsWord k q s w → Begins f s → ⊥
not-word e IsWord.a_word (Begins.begins (IsFront.a_front c)) = no (sym e ∙ c)

pub not-name : {f : TokenKind → Bool} {x : Token} {s w : List Token} → ((a : List ℕ) → f (kind.Identifier a) ≡ false) → IsName x s w → Begins f s → ⊥
not-name h (IsName.a_name {a}) (Begins.begins (IsFront.a_front c)) = no (sym (h a) ∙ c)

pub apart : {f : TokenKind → Bool} {h : TokenKind → Bool} {s : List Token} → ((k : TokenKind) → f k ≡ true → h k ≡ false) → Begins f s → Begins h s → ⊥
apart e (Begins.begins (IsFront.a_front {k} a)) (Begins.begins (IsFront.a_front b)) = no (sym (e k a) ∙ b)

pub marks-apart : {o m : Operator} {p q : Span} {s r v : List Token} → is_mark m (kind.Operator o) ≡ false → IsMark o p s r → IsMark m q s v → ⊥
marks-apart {m = m} e h k = some_is_none (sym (mark-other m e h) ∙ mark-exact k)

pub name-apart : {o : Operator} {x : Token} {p : Span} {s r v : List Token} → IsName x s r → IsMark o p s v → ⊥
name-apart {o} h k = some_is_none (sym (name-no-mark o h) ∙ mark-exact k)

pub front-one : {f h : TokenKind → Bool} {x y : Token} {s r v : List Token} → IsFront f x s r → IsFront h y s v → r ≡ v
front-one (IsFront.a_front e) (IsFront.a_front c) = refl

pub mark-one : {o : Operator} {p q : Span} {s r v : List Token} → IsMark o p s r → IsMark o q s v → r ≡ v
mark-one h k = ap (λ z. z.1) (some_is (sym (mark-exact h) ∙ mark-exact k))

pub name-one : {x y : Token} {s r v : List Token} → IsName x s r → IsName y s v → r ≡ v
name-one IsName.a_name IsName.a_name = refl

pub or-left : (a b : Bool) → a ≡ true → (a || b) ≡ true
or-left true b e = refl
or-left false b e = absurd (no e)

pub or-right : (a b : Bool) → b ≡ true → (a || b) ≡ true
or-right true b e = refl
or-right false b e = e

or-false-left : (a b : Bool) → (a || b) ≡ false → a ≡ false
or-false-left true b e = e
or-false-left false b e = refl

or-false-right : (a b : Bool) → (a || b) ≡ false → b ≡ false
or-false-right true b e = absurd (no (sym e))
or-false-right false b e = e

-- ---- classes

-- what begins an operand
abbrev pub is_head_start : TokenKind → Bool
is_head_start (kind.Identifier a) = true
is_head_start (kind.Integer v) = true
is_head_start kind.Float = true
is_head_start kind.Imaginary = true
is_head_start (kind.Rune c) = true
is_head_start (kind.Text v) = true
is_head_start (kind.Operator mark.LeftParen) = true
is_head_start (kind.Operator mark.LeftBracket) = true
is_head_start (kind.Keyword word.Map) = true
is_head_start (kind.Keyword word.Struct) = true
is_head_start (kind.Keyword word.Chan) = true
is_head_start (kind.Keyword word.Interface) = true
is_head_start (kind.Keyword word.Func) = true
is_head_start _ = false

-- what begins an expression
abbrev pub is_expr_start : TokenKind → Bool
is_expr_start (kind.Identifier a) = true
is_expr_start (kind.Integer v) = true
is_expr_start kind.Float = true
is_expr_start kind.Imaginary = true
is_expr_start (kind.Rune c) = true
is_expr_start (kind.Text v) = true
is_expr_start (kind.Operator mark.LeftParen) = true
is_expr_start (kind.Operator mark.LeftBracket) = true
is_expr_start (kind.Operator mark.Star) = true
is_expr_start (kind.Operator mark.Arrow) = true
is_expr_start (kind.Operator mark.Plus) = true
is_expr_start (kind.Operator mark.Minus) = true
is_expr_start (kind.Operator mark.Not) = true
is_expr_start (kind.Operator mark.Caret) = true
is_expr_start (kind.Operator mark.And) = true
is_expr_start (kind.Keyword word.Map) = true
is_expr_start (kind.Keyword word.Struct) = true
is_expr_start (kind.Keyword word.Chan) = true
is_expr_start (kind.Keyword word.Interface) = true
is_expr_start (kind.Keyword word.Func) = true
is_expr_start _ = false

-- what begins a type
abbrev pub is_type_start : TokenKind → Bool
is_type_start (kind.Identifier a) = true
is_type_start (kind.Operator mark.LeftParen) = true
is_type_start (kind.Operator mark.LeftBracket) = true
is_type_start (kind.Operator mark.Star) = true
is_type_start (kind.Operator mark.Arrow) = true
is_type_start (kind.Keyword word.Map) = true
is_type_start (kind.Keyword word.Struct) = true
is_type_start (kind.Keyword word.Chan) = true
is_type_start (kind.Keyword word.Interface) = true
is_type_start (kind.Keyword word.Func) = true
is_type_start _ = false

-- what ends neither a statement nor a list of statements
abbrev pub is_no_end : TokenKind → Bool
is_no_end k = not (is_stmt_end k || is_list_end k)

-- what stands behind the names of a parameter
abbrev pub is_typed : TokenKind → Bool
is_typed (kind.Identifier a) = true
is_typed (kind.Operator mark.LeftParen) = true
is_typed (kind.Operator mark.LeftBracket) = true
is_typed (kind.Operator mark.Star) = true
is_typed (kind.Operator mark.Arrow) = true
is_typed (kind.Operator mark.Ellipsis) = true
is_typed (kind.Keyword word.Map) = true
is_typed (kind.Keyword word.Struct) = true
is_typed (kind.Keyword word.Chan) = true
is_typed (kind.Keyword word.Interface) = true
is_typed (kind.Keyword word.Func) = true
is_typed _ = false

-- what may follow a list of expressions
abbrev pub is_exprs_end : TokenKind → Bool
is_exprs_end (kind.Operator mark.Assign) = true
is_exprs_end (kind.Operator mark.Define) = true
is_exprs_end (kind.Operator mark.Colon) = true
is_exprs_end (kind.Operator mark.Semicolon) = true
is_exprs_end (kind.Operator mark.RightParen) = true
is_exprs_end (kind.Operator mark.RightBrace) = true
is_exprs_end (kind.Operator mark.LeftBrace) = true
is_exprs_end kind.Inserted = true
is_exprs_end _ = false

-- what may follow a simple statement
abbrev pub is_simple_end : TokenKind → Bool
is_simple_end (kind.Operator mark.Semicolon) = true
is_simple_end (kind.Operator mark.RightBrace) = true
is_simple_end (kind.Operator mark.LeftBrace) = true
is_simple_end kind.Inserted = true
is_simple_end _ = false

-- what may follow a spec
abbrev pub is_group_end : TokenKind → Bool
is_group_end (kind.Operator mark.Semicolon) = true
is_group_end (kind.Operator mark.RightParen) = true
is_group_end (kind.Operator mark.RightBrace) = true
is_group_end kind.Inserted = true
is_group_end _ = false

-- the first const spec of a declaration may also end before a brace
abbrev pub const_end : Bool → TokenKind → Bool
const_end true k = is_group_end k
const_end false k = is_spec_end k

-- what goes on with a simple statement, or ends it
abbrev pub is_line : TokenKind → Bool
is_line k = is_goes_on k || is_stmt_end k

-- what stands behind the first expression of a simple statement that has one expression on its left
abbrev pub is_lone : TokenKind → Bool
is_lone (kind.Operator mark.Semicolon) = true
is_lone (kind.Operator mark.Arrow) = true
is_lone kind.Inserted = true
is_lone k = is_step k || is_update k

-- what stands behind the first expression of a list before an assignment
abbrev pub is_listed : TokenKind → Bool
is_listed (kind.Operator mark.Comma) = true
is_listed (kind.Operator mark.Assign) = true
is_listed (kind.Operator mark.Define) = true
is_listed _ = false

-- the word of a range clause
abbrev pub is_range : TokenKind → Bool
is_range (kind.Keyword word.Range) = true
is_range _ = false

pub basic-heads : (k : TokenKind) → is_basic k ≡ true → is_head_start k ≡ true
basic-heads (kind.Integer v) e = refl
basic-heads kind.Float e = refl
basic-heads kind.Imaginary e = refl
basic-heads (kind.Rune c) e = refl
basic-heads (kind.Text v) e = refl
basic-heads _ e = absurd (no e)

pub composite-heads : (k : TokenKind) → is_composite_start k ≡ true → is_head_start k ≡ true
composite-heads (kind.Operator mark.LeftBracket) e = refl
composite-heads (kind.Keyword word.Map) e = refl
composite-heads (kind.Keyword word.Struct) e = refl
composite-heads _ e = absurd (no e)

pub other-heads : (k : TokenKind) → is_other_start k ≡ true → is_head_start k ≡ true
other-heads (kind.Keyword word.Chan) e = refl
other-heads (kind.Keyword word.Interface) e = refl
other-heads _ e = absurd (no e)

pub head-exprs : (k : TokenKind) → is_head_start k ≡ true → is_expr_start k ≡ true
head-exprs (kind.Identifier a) e = refl
head-exprs (kind.Integer v) e = refl
head-exprs kind.Float e = refl
head-exprs kind.Imaginary e = refl
head-exprs (kind.Rune c) e = refl
head-exprs (kind.Text v) e = refl
head-exprs (kind.Operator mark.LeftParen) e = refl
head-exprs (kind.Operator mark.LeftBracket) e = refl
head-exprs (kind.Keyword word.Map) e = refl
head-exprs (kind.Keyword word.Struct) e = refl
head-exprs (kind.Keyword word.Chan) e = refl
head-exprs (kind.Keyword word.Interface) e = refl
head-exprs (kind.Keyword word.Func) e = refl
head-exprs _ e = absurd (no e)

pub sign-exprs : (k : TokenKind) → is_sign k ≡ true → is_expr_start k ≡ true
sign-exprs (kind.Operator mark.Plus) e = refl
sign-exprs (kind.Operator mark.Minus) e = refl
sign-exprs (kind.Operator mark.Not) e = refl
sign-exprs (kind.Operator mark.Caret) e = refl
sign-exprs (kind.Operator mark.And) e = refl
sign-exprs _ e = absurd (no e)

pub sign-not-heads : (k : TokenKind) → is_sign k ≡ true → is_head_start k ≡ false
sign-not-heads (kind.Operator mark.Plus) e = refl
sign-not-heads (kind.Operator mark.Minus) e = refl
sign-not-heads (kind.Operator mark.Not) e = refl
sign-not-heads (kind.Operator mark.Caret) e = refl
sign-not-heads (kind.Operator mark.And) e = refl
sign-not-heads _ e = absurd (no e)

pub expr-no-ends : (k : TokenKind) → is_expr_start k ≡ true → is_no_end k ≡ true
expr-no-ends (kind.Identifier a) e = refl
expr-no-ends (kind.Integer v) e = refl
expr-no-ends kind.Float e = refl
expr-no-ends kind.Imaginary e = refl
expr-no-ends (kind.Rune c) e = refl
expr-no-ends (kind.Text v) e = refl
expr-no-ends (kind.Operator mark.LeftParen) e = refl
expr-no-ends (kind.Operator mark.LeftBracket) e = refl
expr-no-ends (kind.Operator mark.Star) e = refl
expr-no-ends (kind.Operator mark.Arrow) e = refl
expr-no-ends (kind.Operator mark.Plus) e = refl
expr-no-ends (kind.Operator mark.Minus) e = refl
expr-no-ends (kind.Operator mark.Not) e = refl
expr-no-ends (kind.Operator mark.Caret) e = refl
expr-no-ends (kind.Operator mark.And) e = refl
expr-no-ends (kind.Keyword word.Map) e = refl
expr-no-ends (kind.Keyword word.Struct) e = refl
expr-no-ends (kind.Keyword word.Chan) e = refl
expr-no-ends (kind.Keyword word.Interface) e = refl
expr-no-ends (kind.Keyword word.Func) e = refl
expr-no-ends _ e = absurd (no e)

pub decl-no-ends : (k : TokenKind) → is_decl_start k ≡ true → is_no_end k ≡ true
decl-no-ends (kind.Keyword word.Const) e = refl
decl-no-ends (kind.Keyword word.«Type») e = refl
decl-no-ends (kind.Keyword word.Var) e = refl
decl-no-ends _ e = absurd (no e)

pub simple-in-exprs : (k : TokenKind) → is_simple_end k ≡ true → is_exprs_end k ≡ true
simple-in-exprs (kind.Operator mark.Semicolon) e = refl
simple-in-exprs (kind.Operator mark.RightBrace) e = refl
simple-in-exprs (kind.Operator mark.LeftBrace) e = refl
simple-in-exprs kind.Inserted e = refl
simple-in-exprs _ e = absurd (no e)

pub group-in-exprs : (k : TokenKind) → is_group_end k ≡ true → is_exprs_end k ≡ true
group-in-exprs (kind.Operator mark.Semicolon) e = refl
group-in-exprs (kind.Operator mark.RightParen) e = refl
group-in-exprs (kind.Operator mark.RightBrace) e = refl
group-in-exprs kind.Inserted e = refl
group-in-exprs _ e = absurd (no e)

pub spec-in-group : (k : TokenKind) → is_spec_end k ≡ true → is_group_end k ≡ true
spec-in-group (kind.Operator mark.Semicolon) e = refl
spec-in-group (kind.Operator mark.RightParen) e = refl
spec-in-group kind.Inserted e = refl
spec-in-group _ e = absurd (no e)

pub semi-in-field : (k : TokenKind) → is_semi k ≡ true → is_field_end k ≡ true
semi-in-field (kind.Operator mark.Semicolon) e = refl
semi-in-field kind.Inserted e = refl
semi-in-field _ e = absurd (no e)

pub field-in-embed : (k : TokenKind) → is_field_end k ≡ true → is_embed_end k ≡ true
field-in-embed (kind.Operator mark.Semicolon) e = refl
field-in-embed (kind.Operator mark.RightBrace) e = refl
field-in-embed kind.Inserted e = refl
field-in-embed _ e = absurd (no e)

pub type-not-embed : (k : TokenKind) → is_type_start k ≡ true → is_embed_end k ≡ false
type-not-embed (kind.Identifier a) e = refl
type-not-embed (kind.Operator mark.LeftParen) e = refl
type-not-embed (kind.Operator mark.LeftBracket) e = refl
type-not-embed (kind.Operator mark.Star) e = refl
type-not-embed (kind.Operator mark.Arrow) e = refl
type-not-embed (kind.Keyword word.Map) e = refl
type-not-embed (kind.Keyword word.Struct) e = refl
type-not-embed (kind.Keyword word.Chan) e = refl
type-not-embed (kind.Keyword word.Interface) e = refl
type-not-embed (kind.Keyword word.Func) e = refl
type-not-embed _ e = absurd (no e)

pub type-in-typed : (k : TokenKind) → is_type_start k ≡ true → is_typed k ≡ true
type-in-typed (kind.Identifier a) e = refl
type-in-typed (kind.Operator mark.LeftParen) e = refl
type-in-typed (kind.Operator mark.LeftBracket) e = refl
type-in-typed (kind.Operator mark.Star) e = refl
type-in-typed (kind.Operator mark.Arrow) e = refl
type-in-typed (kind.Keyword word.Map) e = refl
type-in-typed (kind.Keyword word.Struct) e = refl
type-in-typed (kind.Keyword word.Chan) e = refl
type-in-typed (kind.Keyword word.Interface) e = refl
type-in-typed (kind.Keyword word.Func) e = refl
type-in-typed _ e = absurd (no e)

pub semi-not-list : (k : TokenKind) → is_semi k ≡ true → is_list_end k ≡ false
semi-not-list (kind.Operator mark.Semicolon) e = refl
semi-not-list kind.Inserted e = refl
semi-not-list _ e = absurd (no e)

pub semi-in-group : (k : TokenKind) → is_semi k ≡ true → is_group_end k ≡ true
semi-in-group (kind.Operator mark.Semicolon) e = refl
semi-in-group kind.Inserted e = refl
semi-in-group _ e = absurd (no e)

pub semi-in-spec : (k : TokenKind) → is_semi k ≡ true → is_spec_end k ≡ true
semi-in-spec (kind.Operator mark.Semicolon) e = refl
semi-in-spec kind.Inserted e = refl
semi-in-spec _ e = absurd (no e)

pub semi-in-simple : (k : TokenKind) → is_semi k ≡ true → is_simple_end k ≡ true
semi-in-simple (kind.Operator mark.Semicolon) e = refl
semi-in-simple kind.Inserted e = refl
semi-in-simple _ e = absurd (no e)

pub semi-in-stmt : (k : TokenKind) → is_semi k ≡ true → is_stmt_end k ≡ true
semi-in-stmt (kind.Operator mark.Semicolon) e = refl
semi-in-stmt kind.Inserted e = refl
semi-in-stmt _ e = absurd (no e)

pub stmt-in-simple : (k : TokenKind) → is_stmt_end k ≡ true → is_simple_end k ≡ true
stmt-in-simple (kind.Operator mark.Semicolon) e = refl
stmt-in-simple (kind.Operator mark.RightBrace) e = refl
stmt-in-simple kind.Inserted e = refl
stmt-in-simple _ e = absurd (no e)

pub stmt-in-group : (k : TokenKind) → is_stmt_end k ≡ true → is_group_end k ≡ true
stmt-in-group (kind.Operator mark.Semicolon) e = refl
stmt-in-group (kind.Operator mark.RightBrace) e = refl
stmt-in-group kind.Inserted e = refl
stmt-in-group _ e = absurd (no e)

pub stmt-in-exprs : (k : TokenKind) → is_stmt_end k ≡ true → is_exprs_end k ≡ true
stmt-in-exprs (kind.Operator mark.Semicolon) e = refl
stmt-in-exprs (kind.Operator mark.RightBrace) e = refl
stmt-in-exprs kind.Inserted e = refl
stmt-in-exprs _ e = absurd (no e)

pub semi-in-exprs : (k : TokenKind) → is_semi k ≡ true → is_exprs_end k ≡ true
semi-in-exprs (kind.Operator mark.Semicolon) e = refl
semi-in-exprs kind.Inserted e = refl
semi-in-exprs _ e = absurd (no e)

pub simple-not-goes : (k : TokenKind) → is_simple_end k ≡ true → is_goes_on k ≡ false
simple-not-goes (kind.Operator mark.Semicolon) e = refl
simple-not-goes (kind.Operator mark.RightBrace) e = refl
simple-not-goes (kind.Operator mark.LeftBrace) e = refl
simple-not-goes kind.Inserted e = refl
simple-not-goes _ e = absurd (no e)

pub semi-not-exprs : (k : TokenKind) → is_semi k ≡ true → is_expr_start k ≡ false
semi-not-exprs (kind.Operator mark.Semicolon) e = refl
semi-not-exprs kind.Inserted e = refl
semi-not-exprs _ e = absurd (no e)

pub type-not-spec : (k : TokenKind) → is_type_start k ≡ true → is_spec_end k ≡ false
type-not-spec (kind.Identifier a) e = refl
type-not-spec (kind.Operator mark.LeftParen) e = refl
type-not-spec (kind.Operator mark.LeftBracket) e = refl
type-not-spec (kind.Operator mark.Star) e = refl
type-not-spec (kind.Operator mark.Arrow) e = refl
type-not-spec (kind.Keyword word.Map) e = refl
type-not-spec (kind.Keyword word.Struct) e = refl
type-not-spec (kind.Keyword word.Chan) e = refl
type-not-spec (kind.Keyword word.Interface) e = refl
type-not-spec (kind.Keyword word.Func) e = refl
type-not-spec _ e = absurd (no e)

pub range-not-exprs : (k : TokenKind) → is_range k ≡ true → is_expr_start k ≡ false
range-not-exprs (kind.Keyword word.Range) e = refl
range-not-exprs _ e = absurd (no e)

pub semi-not-range : (k : TokenKind) → is_semi k ≡ true → is_range k ≡ false
semi-not-range (kind.Operator mark.Semicolon) e = refl
semi-not-range kind.Inserted e = refl
semi-not-range _ e = absurd (no e)

pub step-goes : (k : TokenKind) → is_step k ≡ true → is_goes_on k ≡ true
step-goes (kind.Operator mark.Increment) e = refl
step-goes (kind.Operator mark.Decrement) e = refl
step-goes _ e = absurd (no e)

pub update-goes : (k : TokenKind) → is_update k ≡ true → is_goes_on k ≡ true
update-goes (kind.Operator mark.PlusAssign) e = refl
update-goes (kind.Operator mark.MinusAssign) e = refl
update-goes (kind.Operator mark.StarAssign) e = refl
update-goes (kind.Operator mark.SlashAssign) e = refl
update-goes (kind.Operator mark.PercentAssign) e = refl
update-goes (kind.Operator mark.AndAssign) e = refl
update-goes (kind.Operator mark.OrAssign) e = refl
update-goes (kind.Operator mark.CaretAssign) e = refl
update-goes (kind.Operator mark.ShiftLeftAssign) e = refl
update-goes (kind.Operator mark.ShiftRightAssign) e = refl
update-goes (kind.Operator mark.AndNotAssign) e = refl
update-goes _ e = absurd (no e)

pub semi-in-single : (k : TokenKind) → is_semi k ≡ true → is_lone k ≡ true
semi-in-single (kind.Operator mark.Semicolon) e = refl
semi-in-single kind.Inserted e = refl
semi-in-single _ e = absurd (no e)

pub step-in-single : (k : TokenKind) → is_step k ≡ true → is_lone k ≡ true
step-in-single (kind.Operator mark.Increment) e = refl
step-in-single (kind.Operator mark.Decrement) e = refl
step-in-single _ e = absurd (no e)

pub update-in-single : (k : TokenKind) → is_update k ≡ true → is_lone k ≡ true
update-in-single (kind.Operator mark.PlusAssign) e = refl
update-in-single (kind.Operator mark.MinusAssign) e = refl
update-in-single (kind.Operator mark.StarAssign) e = refl
update-in-single (kind.Operator mark.SlashAssign) e = refl
update-in-single (kind.Operator mark.PercentAssign) e = refl
update-in-single (kind.Operator mark.AndAssign) e = refl
update-in-single (kind.Operator mark.OrAssign) e = refl
update-in-single (kind.Operator mark.CaretAssign) e = refl
update-in-single (kind.Operator mark.ShiftLeftAssign) e = refl
update-in-single (kind.Operator mark.ShiftRightAssign) e = refl
update-in-single (kind.Operator mark.AndNotAssign) e = refl
update-in-single _ e = absurd (no e)

pub listed-not-single : (k : TokenKind) → is_listed k ≡ true → is_lone k ≡ false
listed-not-single (kind.Operator mark.Comma) e = refl
listed-not-single (kind.Operator mark.Assign) e = refl
listed-not-single (kind.Operator mark.Define) e = refl
listed-not-single _ e = absurd (no e)

pub goes-line : (k : TokenKind) → is_goes_on k ≡ true → is_line k ≡ true
goes-line k e = or-left (is_goes_on k) (is_stmt_end k) e

pub end-line : (k : TokenKind) → is_stmt_end k ≡ true → is_line k ≡ true
end-line k e = or-right (is_goes_on k) (is_stmt_end k) e

pub end-not-no : (k : TokenKind) → is_no_end k ≡ true → is_stmt_end k ≡ false
end-not-no k e = or-false-left (is_stmt_end k) (is_list_end k) (not-true (is_stmt_end k || is_list_end k) e)

pub list-end-not-no : (k : TokenKind) → is_no_end k ≡ true → is_list_end k ≡ false
list-end-not-no k e = or-false-right (is_stmt_end k) (is_list_end k) (not-true (is_stmt_end k || is_list_end k) e)

-- ---- what may go on with an expression whose operators are of the m tightest precedences

abbrev pub is_suffix_start : TokenKind → Bool
is_suffix_start (kind.Operator mark.Dot) = true
is_suffix_start (kind.Operator mark.LeftBracket) = true
is_suffix_start (kind.Operator mark.LeftParen) = true
is_suffix_start _ = false

abbrev pub is_below : ℕ → Option ℕ → Bool
is_below m None = false
is_below m (Some l) = nat_lt l m

abbrev pub goes : ℕ → TokenKind → Bool
goes m k = is_suffix_start k || is_below m (binary_level k)

pub data Goes : ℕ → List Token → Type 0 where
  goes_on : {m : ℕ} {x : Token} {r u : List Token} → IsFront (goes m) x r u → Goes m r

pub goes-mark : (m : ℕ) {o : Operator} {q : Span} {r u : List Token} → goes m (kind.Operator o) ≡ false → IsMark o q r u → Goes m r → ⊥
goes-mark m e IsMark.a_mark (Goes.goes_on (IsFront.a_front c)) = no (sym e ∙ c)

pub goes-front : (m : ℕ) {f : TokenKind → Bool} {x : Token} {r u : List Token} → ((k : TokenKind) → f k ≡ true → goes m k ≡ false) → IsFront f x r u → Goes m r → ⊥
goes-front m h (IsFront.a_front {k} e) (Goes.goes_on (IsFront.a_front c)) = no (sym (h k e) ∙ c)

-- behind what may follow an expression nothing goes on
pub stops : {f : TokenKind → Bool} {r : List Token} → ((k : TokenKind) → f k ≡ true → goes 5 k ≡ false) → Begins f r → Goes 5 r → ⊥
stops h (Begins.begins b) c = goes-front 5 h b c

or-up : (m : ℕ) (a : Bool) (o : Option ℕ) → (a || is_below m o) ≡ true → (a || is_below (suc m) o) ≡ true
or-up m true o e = refl
or-up m false None e = absurd (no e)
or-up m false (Some l) e = lt-ltb l (suc m) (omega (arith, ltb-true l m e))

pub goes-up : {m : ℕ} {r : List Token} → Goes m r → Goes (suc m) r
goes-up {m} (Goes.goes_on (IsFront.a_front {k} c)) = Goes.goes_on (IsFront.a_front (or-up m (is_suffix_start k) (binary_level k) c))

level-up : (m : ℕ) (a : Bool) (o : Option ℕ) → is_level m o ≡ true → (a || is_below (suc m) o) ≡ true
level-up m true o e = refl
level-up m false None e = absurd (no e)
level-up m false (Some l) e = lt-ltb l (suc m) (omega (arith, eqb-true l m e))

pub level-goes : {m : ℕ} {x : Token} {r u : List Token} → IsFront (is_binary m) x r u → Goes (suc m) r
level-goes {m} (IsFront.a_front {k} e) = Goes.goes_on (IsFront.a_front (level-up m (is_suffix_start k) (binary_level k) e))

suffix-no-level : (k : TokenKind) → is_suffix_start k ≡ true → binary_level k ≡ None
suffix-no-level (kind.Operator mark.Dot) e = refl
suffix-no-level (kind.Operator mark.LeftBracket) e = refl
suffix-no-level (kind.Operator mark.LeftParen) e = refl
suffix-no-level _ e = absurd (no e)

clash : (m : ℕ) (a : Bool) (o : Option ℕ) → (a ≡ true → o ≡ None) → is_level m o ≡ true → (a || is_below m o) ≡ true → ⊥
clash m a None h e c = no e
clash m true (Some l) h e c = some_is_none (sym (h refl))
clash m false (Some l) h e c = omega (arith, eqb-true l m e, ltb-true l m c)

pub level-not : {m : ℕ} {x : Token} {r u : List Token} → IsFront (is_binary m) x r u → Goes m r → ⊥
level-not {m} (IsFront.a_front {k} e) (Goes.goes_on (IsFront.a_front c)) = clash m (is_suffix_start k) (binary_level k) (suffix-no-level k) e c

pub binary-not : (m : ℕ) {o : Operator} {q : Span} {x : Token} {r u v : List Token} → binary_level (kind.Operator o) ≡ None → IsMark o q r u → IsFront (is_binary m) x r v → ⊥
binary-not m e IsMark.a_mark (IsFront.a_front c) = no (sym (ap (λ l. is_level m l) e) ∙ c)

pub goes-trail : {r u : List Token} → IsTrail mark.RightParen r u → Goes 5 r → ⊥
goes-trail (IsTrail.no_comma h1) c = goes-mark 5 refl h1 c
goes-trail (IsTrail.a_comma h1 h2) c = goes-mark 5 refl h1 c

pub goes-brace-trail : {r u : List Token} → IsTrail mark.RightBrace r u → Goes 5 r → ⊥
goes-brace-trail (IsTrail.no_comma h1) c = goes-mark 5 refl h1 c
goes-brace-trail (IsTrail.a_comma h1 h2) c = goes-mark 5 refl h1 c

pub bound-end-stops : (k : TokenKind) → is_bound_end k ≡ true → goes 5 k ≡ false
bound-end-stops (kind.Operator mark.Colon) e = refl
bound-end-stops (kind.Operator mark.RightBracket) e = refl
bound-end-stops _ e = absurd (no e)

pub exprs-end-stops : (k : TokenKind) → is_exprs_end k ≡ true → goes 5 k ≡ false
exprs-end-stops (kind.Operator mark.Assign) e = refl
exprs-end-stops (kind.Operator mark.Define) e = refl
exprs-end-stops (kind.Operator mark.Colon) e = refl
exprs-end-stops (kind.Operator mark.Semicolon) e = refl
exprs-end-stops (kind.Operator mark.RightParen) e = refl
exprs-end-stops (kind.Operator mark.RightBrace) e = refl
exprs-end-stops (kind.Operator mark.LeftBrace) e = refl
exprs-end-stops kind.Inserted e = refl
exprs-end-stops _ e = absurd (no e)

pub simple-end-stops : (k : TokenKind) → is_simple_end k ≡ true → goes 5 k ≡ false
simple-end-stops (kind.Operator mark.Semicolon) e = refl
simple-end-stops (kind.Operator mark.RightBrace) e = refl
simple-end-stops (kind.Operator mark.LeftBrace) e = refl
simple-end-stops kind.Inserted e = refl
simple-end-stops _ e = absurd (no e)

pub stmt-end-stops : (k : TokenKind) → is_stmt_end k ≡ true → goes 5 k ≡ false
stmt-end-stops (kind.Operator mark.Semicolon) e = refl
stmt-end-stops (kind.Operator mark.RightBrace) e = refl
stmt-end-stops kind.Inserted e = refl
stmt-end-stops _ e = absurd (no e)

pub semi-stops : (k : TokenKind) → is_semi k ≡ true → goes 5 k ≡ false
semi-stops (kind.Operator mark.Semicolon) e = refl
semi-stops kind.Inserted e = refl
semi-stops _ e = absurd (no e)

pub step-stops : (k : TokenKind) → is_step k ≡ true → goes 5 k ≡ false
step-stops (kind.Operator mark.Increment) e = refl
step-stops (kind.Operator mark.Decrement) e = refl
step-stops _ e = absurd (no e)

pub update-stops : (k : TokenKind) → is_update k ≡ true → goes 5 k ≡ false
update-stops (kind.Operator mark.PlusAssign) e = refl
update-stops (kind.Operator mark.MinusAssign) e = refl
update-stops (kind.Operator mark.StarAssign) e = refl
update-stops (kind.Operator mark.SlashAssign) e = refl
update-stops (kind.Operator mark.PercentAssign) e = refl
update-stops (kind.Operator mark.AndAssign) e = refl
update-stops (kind.Operator mark.OrAssign) e = refl
update-stops (kind.Operator mark.CaretAssign) e = refl
update-stops (kind.Operator mark.ShiftLeftAssign) e = refl
update-stops (kind.Operator mark.ShiftRightAssign) e = refl
update-stops (kind.Operator mark.AndNotAssign) e = refl
update-stops _ e = absurd (no e)

-- ---- what stands, by its first token
module _ (S : g.Part → List Token → List Token → Type 0) where
  pub idents-begins : {t : List Token} {s r : List Token} {d : ℕ} → g.AreNames S t s r d → Begins is_name s
  idents-begins (g.AreNames.one_name h1 h2) = at-name (λ a. refl) h1
  idents-begins (g.AreNames.more_names h1 h2 h3) = at-name (λ a. refl) h1

  pub type_name-begins : {t : TypeExpr} {s r : List Token} {d : ℕ} → g.IsTypeName S t s r d → Begins is_type_start s
  type_name-begins (g.IsTypeName.bare h1 h2) = at-name (λ a. refl) h1
  type_name-begins (g.IsTypeName.qualified h1 h2 h3) = at-name (λ a. refl) h1

  pub type-begins : {t : TypeExpr} {s r : List Token} {d : ℕ} → g.IsType S t s r d → Begins is_type_start s
  type-begins (g.IsType.named h1) = type_name-begins h1
  type-begins (g.IsType.paren_type h1 h2 h3) = at-mark refl h1
  type-begins (g.IsType.pointer h1 h2) = at-mark refl h1
  type-begins (g.IsType.slice h1 h2 h3) = at-mark refl h1
  type-begins (g.IsType.array h1 h2 h3 h4 h5 h6) = at-mark refl h1
  type-begins (g.IsType.map_type h1 h2 h3 h4 h5) = at-word refl h1
  type-begins (g.IsType.channel h1 h2 h3) = at-word refl h1
  type-begins (g.IsType.send_channel h1 h2 h3) = at-word refl h1
  type-begins (g.IsType.receive_channel h1 h2 h3) = at-mark refl h1
  type-begins (g.IsType.function_type h1 h2) = at-word refl h1
  type-begins (g.IsType.struct_type h1 h2 h3 h4) = at-word refl h1
  type-begins (g.IsType.interface_type h1 h2 h3 h4) = at-word refl h1

  pub named_params-begins : {v : Bool} {t : List Parameter} {s r : List Token} {d : ℕ} → g.AreNamed S v t s r d → Begins is_name s
  named_params-begins (g.AreNamed.last_named_dots h1 h2 h3 h4 h5 h6) = idents-begins h1
  named_params-begins (g.AreNamed.last_named h1 h2 h3 h4) = idents-begins h1
  named_params-begins (g.AreNamed.more_named h1 h2 h3 h4 h5 h6) = idents-begins h1

  pub head-begins : {h : Bool} {t : Expr} {s r : List Token} {d : ℕ} → g.IsHead S h t s r d → Begins is_head_start s
  head-begins (g.IsHead.basic_literal h1) = at-front basic-heads h1
  head-begins (g.IsHead.header_name h1 h2) = at-name (λ a. refl) h1
  head-begins (g.IsHead.literal_of_selected h1 h2 h3) = at-name (λ a. refl) h1
  head-begins (g.IsHead.name h1 h2 h3 h4) = at-name (λ a. refl) h1
  head-begins (g.IsHead.literal_of_name h1 h2 h3 h4) = at-name (λ a. refl) h1
  head-begins (g.IsHead.paren h1 h2 h3) = at-mark refl h1
  head-begins (g.IsHead.literal_of_type h1 h2 h3) = at-front composite-heads h1
  head-begins (g.IsHead.composite_type h1 h2 h3) = at-front composite-heads h1
  head-begins (g.IsHead.counted_literal h1 h2 h3 h4 h5) = at-mark refl h1
  head-begins (g.IsHead.other_type h1 h2) = at-front other-heads h1
  head-begins (g.IsHead.function_literal h1 h2 h3) = at-word refl h1
  head-begins (g.IsHead.lone_function_type h1 h2 h3) = at-word refl h1

  pub primary-begins : {h : Bool} {t : Expr} {s r : List Token} {d : ℕ} → g.IsPrimary S h t s r d → Begins is_head_start s
  primary-begins (g.IsPrimary.primary h1 h2) = head-begins h1

  pub unary-begins : {h : Bool} {w : Bool} {t : Expr} {s r : List Token} {d : ℕ} → g.IsUnary S h w t s r d → Begins is_expr_start s
  unary-begins (g.IsUnary.bare_primary h1) = widen head-exprs (primary-begins h1)
  unary-begins (g.IsUnary.signed h1 h2) = at-front sign-exprs h1
  unary-begins (g.IsUnary.starred h1 h2) = at-mark refl h1
  unary-begins (g.IsUnary.receiver h1 h2 h3) = at-mark refl h1
  unary-begins (g.IsUnary.receive_first h1 h2 h3 h4) = at-mark refl h1
  unary-begins (g.IsUnary.receive h1 h2 h3) = at-mark refl h1

  pub expr-begins : {m : ℕ} {h : Bool} {w : Bool} {t : Expr} {s r : List Token} {d : ℕ} → g.IsExpr S m h w t s r d → Begins is_expr_start s
  expr-begins (g.IsExpr.lone h1) = unary-begins h1
  expr-begins (g.IsExpr.level h1 h2) = expr-begins h1

  pub exprs-begins : {h : Bool} {t : List Expr} {s r : List Token} {d : ℕ} → g.AreExprs S h t s r d → Begins is_expr_start s
  exprs-begins (g.AreExprs.one_expr h1 h2) = expr-begins h1
  exprs-begins (g.AreExprs.more_exprs h1 h2 h3) = expr-begins h1

  pub simple-begins : {h : Bool} {t : Simple} {s r : List Token} {d : ℕ} → g.IsSimple S h t s r d → Begins is_expr_start s
  simple-begins (g.IsSimple.assign h1 h2 h3) = exprs-begins h1
  simple-begins (g.IsSimple.define h1 h2 h3) = exprs-begins h1
  simple-begins (g.IsSimple.expression h1 h2) = expr-begins h1
  simple-begins (g.IsSimple.send h1 h2 h3) = expr-begins h1
  simple-begins (g.IsSimple.step h1 h2) = expr-begins h1
  simple-begins (g.IsSimple.update h1 h2 h3) = expr-begins h1

  pub const_spec-begins : {i : Bool} {t : ConstSpec} {s r : List Token} {d : ℕ} → g.IsConstSpec S i t s r d → Begins is_name s
  const_spec-begins (g.IsConstSpec.implicit h1 h2 h3) = idents-begins h1
  const_spec-begins (g.IsConstSpec.untyped h1 h2 h3) = idents-begins h1
  const_spec-begins (g.IsConstSpec.typed_const h1 h2 h3 h4 h5 h6) = idents-begins h1

  pub type_spec-begins : {t : TypeSpec} {s r : List Token} {d : ℕ} → g.IsTypeSpec S t s r d → Begins is_name s
  type_spec-begins (g.IsTypeSpec.definition h1 h2 h3) = at-name (λ a. refl) h1
  type_spec-begins (g.IsTypeSpec.alias h1 h2 h3) = at-name (λ a. refl) h1

  pub var_spec-begins : {t : VarSpec} {s r : List Token} {d : ℕ} → g.IsVarSpec S t s r d → Begins is_name s
  var_spec-begins (g.IsVarSpec.var_values h1 h2 h3) = idents-begins h1
  var_spec-begins (g.IsVarSpec.typed_var h1 h2 h3 h4) = idents-begins h1
  var_spec-begins (g.IsVarSpec.typed_values h1 h2 h3 h4 h5) = idents-begins h1

  pub decl-begins : {t : Decl} {s r : List Token} {d : ℕ} → g.IsDecl S t s r d → Begins is_decl_start s
  decl-begins (g.IsDecl.const_decl h1 h2 h3) = at-word refl h1
  decl-begins (g.IsDecl.const_group h1 h2 h3 h4) = at-word refl h1
  decl-begins (g.IsDecl.type_decl h1 h2 h3) = at-word refl h1
  decl-begins (g.IsDecl.type_group h1 h2 h3 h4) = at-word refl h1
  decl-begins (g.IsDecl.var_decl h1 h2 h3) = at-word refl h1
  decl-begins (g.IsDecl.var_group h1 h2 h3 h4) = at-word refl h1

  pub stmt-begins : {t : Stmt} {s r : List Token} {d : ℕ} → g.IsStmt S t s r d → Begins is_no_end s
  stmt-begins (g.IsStmt.simple_stmt h1 h2) = widen expr-no-ends (simple-begins h2)
  stmt-begins (g.IsStmt.declaration_stmt h1 h2) = at-front decl-no-ends h1
  stmt-begins (g.IsStmt.bare_label h1 h2 h3) = at-name (λ a. refl) h1
  stmt-begins (g.IsStmt.labeled h1 h2 h3 h4) = at-name (λ a. refl) h1
  stmt-begins (g.IsStmt.go h1 h2) = at-word refl h1
  stmt-begins (g.IsStmt.defer h1 h2) = at-word refl h1
  stmt-begins (g.IsStmt.return h1 h2) = at-word refl h1
  stmt-begins (g.IsStmt.break h1 h2) = at-word refl h1
  stmt-begins (g.IsStmt.continue h1 h2) = at-word refl h1
  stmt-begins (g.IsStmt.goto h1 h2) = at-word refl h1
  stmt-begins (g.IsStmt.fallthrough h1) = at-word refl h1
  stmt-begins (g.IsStmt.block_stmt h1 h2 h3) = at-mark refl h1
  stmt-begins (g.IsStmt.if_stmt h1 h2) = at-word refl h1
  stmt-begins (g.IsStmt.header_type_switch h1 h2 h3 h4 h5 h6) = at-word refl h1
  stmt-begins (g.IsStmt.type_switch h1 h2 h3 h4 h5 h6) = at-word refl h1
  stmt-begins (g.IsStmt.header_switch h1 h2 h3 h4 h5 h6 h7) = at-word refl h1
  stmt-begins (g.IsStmt.switch h1 h2 h3 h4 h5 h6 h7) = at-word refl h1
  stmt-begins (g.IsStmt.select h1 h2 h3 h4) = at-word refl h1
  stmt-begins (g.IsStmt.endless h1 h2 h3) = at-word refl h1
  stmt-begins (g.IsStmt.range h1 h2 h3 h4 h5) = at-word refl h1
  stmt-begins (g.IsStmt.loop h1 h2 h3 h4 h5 h6 h7 h8) = at-word refl h1
  stmt-begins (g.IsStmt.while h1 h2 h3 h4 h5 h6) = at-word refl h1

  pub params-open : {v : Bool} {t : Parameters} {s r : List Token} {d : ℕ} → g.AreParams S v t s r d → Marked mark.LeftParen s
  params-open (g.AreParams.no_params h1 h2) = Marked.marked h1
  params-open (g.AreParams.named_list h1 h2 h3 h4) = Marked.marked h1
  params-open (g.AreParams.unnamed_list h1 h2 h3 h4 h5) = Marked.marked h1

  pub signature-opens : {t : Signature} {s r : List Token} {d : ℕ} → g.IsSignature S t s r d → Marked mark.LeftParen s
  signature-opens (g.IsSignature.results h1 h2 h3) = params-open h1
  signature-opens (g.IsSignature.result h1 h2 h3) = params-open h1
  signature-opens (g.IsSignature.plain h1 h2 h3) = params-open h1

  pub literal-opens : {t : LiteralValue} {s r : List Token} {d : ℕ} → g.IsLiteral S t s r d → Marked mark.LeftBrace s
  literal-opens (g.IsLiteral.values_in_braces h1 h2 h3) = Marked.marked h1

  pub block-opens : {t : Block} {s r : List Token} {d : ℕ} → g.IsBlock S t s r d → Marked mark.LeftBrace s
  block-opens (g.IsBlock.braces h1 h2 h3) = Marked.marked h1
