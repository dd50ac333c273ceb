-- The laws of the plain grammar: what it asks for at later places is what stands there.
use Rattle.std.proofs.Common.{◌≡◌, ℕ, zero, suc, ◌≤◌, Bool, false, List, ◌++◌, length, refl, sym, subst, arith, Option}
use Rattle.gs_syntax.specs.declared.token.Span.{Span}
use Rattle.gs_syntax.specs.declared.token.Token.{Token}
use Rattle.gs_grammar.specs.declared.trees.Chunk.{Chunk}
use Rattle.gs_grammar.specs.declared.trees.TypeExpr.{TypeExpr}
use Rattle.gs_grammar.specs.declared.trees.Parameter.{Parameter}
use Rattle.gs_grammar.specs.declared.trees.Expr.{Expr}
use Rattle.gs_grammar.specs.declared.trees.Suffix.{Suffix}
use Rattle.gs_grammar.specs.declared.trees.LiteralValue.{LiteralValue}
use Rattle.gs_grammar.specs.declared.trees.Block.{Block}
use Rattle.gs_grammar.specs.declared.trees.Stmt.{Stmt}
use Rattle.gs_grammar.specs.declared.trees.Simple.{Simple}
use Rattle.gs_grammar.specs.declared.trees.RangeLeft.{RangeLeft}
use Rattle.gs_grammar.specs.Parts.{found}
use Rattle.gs_grammar.specs.Grammar as g
use Rattle.gs_grammar.specs.Plain as p
use Rattle.gs_grammar.proofs.Fits.{Fits}
use Rattle.gs_grammar.proofs.Sound.{sound}
use Rattle.gs_grammar.proofs.Exact.{exact}
use Rattle.gs_grammar.proofs.Whole.{fits, type-whole, type-stands, one_type, expr-whole, expr-stands, block-whole, block-stands, one_block, chunk-whole, chunk-stands, one_chunk}
use Rattle.gs_grammar.proofs.Begins.{Goes}
use Rattle.gs_grammar.proofs.Better.{Better}
use Rattle.gs_grammar.proofs.Plainly.{ahead, type-plain, literal-plain, selected-plain, block-plain, received-plain, expr-plain, stmts-plain, chunk-plain}
use Rattle.gs_grammar.proofs.Longest.{type-same, literal-same, selected-same, block-same, received-same, expr-better, chunk-same, stmts-start}

-- what the plain grammar asks for is as there, and all else as in the grammar
abbrev MixedBelow : ℕ → g.Part → List Token → List Token → Type 0
MixedBelow zero q s r = ⊥
MixedBelow (suc n) g.Part.a_type s r = p.PlainBelow (suc n) p.Ahead.a_type s r
MixedBelow (suc n) (g.Part.a_named v) s r = (t : List Parameter) × (d : ℕ) × g.AreNamed (MixedBelow n) v t s r d
MixedBelow (suc n) g.Part.a_literal s r = p.PlainBelow (suc n) p.Ahead.a_literal s r
MixedBelow (suc n) g.Part.a_selected s r = p.PlainBelow (suc n) p.Ahead.a_selected s r
MixedBelow (suc n) g.Part.a_block s r = p.PlainBelow (suc n) p.Ahead.a_block s r
MixedBelow (suc n) g.Part.a_received s r = p.PlainBelow (suc n) p.Ahead.a_received s r
MixedBelow (suc n) g.Part.a_suffix s r = (t : Suffix) × (d : ℕ) × g.IsSuffix (MixedBelow n) t s r d
MixedBelow (suc n) (g.Part.an_operand m h) s r = (t : Token × Expr) × (d : ℕ) × g.IsOperand (MixedBelow n) m h t s r d
MixedBelow (suc n) g.Part.a_guard s r = (t : Option (Token × Span) × Expr × Span) × (d : ℕ) × g.IsGuard (MixedBelow n) t s r d
MixedBelow (suc n) g.Part.a_header s r = (t : Simple) × (d : ℕ) × g.IsHeader (MixedBelow n) t s r d
MixedBelow (suc n) g.Part.a_range s r = (t : RangeLeft) × (d : ℕ) × g.IsRangeLeft (MixedBelow n) t s r d

mixed-at : (n : ℕ) (a : p.Ahead) (s r : List Token) → ahead (MixedBelow n) a s r ≡ p.PlainBelow n a s r
mixed-at zero a s r = refl
mixed-at (suc n) p.Ahead.a_type s r = refl
mixed-at (suc n) p.Ahead.a_literal s r = refl
mixed-at (suc n) p.Ahead.a_selected s r = refl
mixed-at (suc n) p.Ahead.a_block s r = refl
mixed-at (suc n) p.Ahead.a_received s r = refl

mixed-ahead : (n : ℕ) → ahead (MixedBelow n) ≡ p.PlainBelow n
mixed-ahead n = λ i. λ a s r. mixed-at n a s r i

to-type : (n : ℕ) {t : TypeExpr} {s r : List Token} {d : ℕ} → p.IsPlainType (p.PlainBelow n) t s r d → p.IsPlainType (ahead (MixedBelow n)) t s r d
to-type n {t} {s} {r} {d} q = subst (λ P. p.IsPlainType P t s r d) (sym (mixed-ahead n)) q

of-type : (n : ℕ) {t : TypeExpr} {s r : List Token} {d : ℕ} → p.IsPlainType (ahead (MixedBelow n)) t s r d → p.IsPlainType (p.PlainBelow n) t s r d
of-type n {t} {s} {r} {d} q = subst (λ P. p.IsPlainType P t s r d) (mixed-ahead n) q

to-literal : (n : ℕ) {t : LiteralValue} {s r : List Token} {d : ℕ} → p.IsPlainLiteral (p.PlainBelow n) t s r d → p.IsPlainLiteral (ahead (MixedBelow n)) t s r d
to-literal n {t} {s} {r} {d} q = subst (λ P. p.IsPlainLiteral P t s r d) (sym (mixed-ahead n)) q

of-literal : (n : ℕ) {t : LiteralValue} {s r : List Token} {d : ℕ} → p.IsPlainLiteral (ahead (MixedBelow n)) t s r d → p.IsPlainLiteral (p.PlainBelow n) t s r d
of-literal n {t} {s} {r} {d} q = subst (λ P. p.IsPlainLiteral P t s r d) (mixed-ahead n) q

to-selected : (n : ℕ) {t : Token × LiteralValue} {s r : List Token} {d : ℕ} → p.IsPlainSelected (p.PlainBelow n) t s r d → p.IsPlainSelected (ahead (MixedBelow n)) t s r d
to-selected n {t} {s} {r} {d} q = subst (λ P. p.IsPlainSelected P t s r d) (sym (mixed-ahead n)) q

of-selected : (n : ℕ) {t : Token × LiteralValue} {s r : List Token} {d : ℕ} → p.IsPlainSelected (ahead (MixedBelow n)) t s r d → p.IsPlainSelected (p.PlainBelow n) t s r d
of-selected n {t} {s} {r} {d} q = subst (λ P. p.IsPlainSelected P t s r d) (mixed-ahead n) q

to-block : (n : ℕ) {t : Block} {s r : List Token} {d : ℕ} → p.IsPlainBlock (p.PlainBelow n) t s r d → p.IsPlainBlock (ahead (MixedBelow n)) t s r d
to-block n {t} {s} {r} {d} q = subst (λ P. p.IsPlainBlock P t s r d) (sym (mixed-ahead n)) q

of-block : (n : ℕ) {t : Block} {s r : List Token} {d : ℕ} → p.IsPlainBlock (ahead (MixedBelow n)) t s r d → p.IsPlainBlock (p.PlainBelow n) t s r d
of-block n {t} {s} {r} {d} q = subst (λ P. p.IsPlainBlock P t s r d) (mixed-ahead n) q

to-received : (n : ℕ) {t : TypeExpr} {s r : List Token} {d : ℕ} → p.IsPlainReceived (p.PlainBelow n) t s r d → p.IsPlainReceived (ahead (MixedBelow n)) t s r d
to-received n {t} {s} {r} {d} q = subst (λ P. p.IsPlainReceived P t s r d) (sym (mixed-ahead n)) q

of-received : (n : ℕ) {t : TypeExpr} {s r : List Token} {d : ℕ} → p.IsPlainReceived (ahead (MixedBelow n)) t s r d → p.IsPlainReceived (p.PlainBelow n) t s r d
of-received n {t} {s} {r} {d} q = subst (λ P. p.IsPlainReceived P t s r d) (mixed-ahead n) q

to-expr : (n : ℕ) {h : Bool} {t : Expr} {s r : List Token} {d : ℕ} → p.IsPlainExpr (p.PlainBelow n) 5 h false t s r d → p.IsPlainExpr (ahead (MixedBelow n)) 5 h false t s r d
to-expr n {h} {t} {s} {r} {d} q = subst (λ P. p.IsPlainExpr P 5 h false t s r d) (sym (mixed-ahead n)) q

of-expr : (n : ℕ) {h : Bool} {t : Expr} {s r : List Token} {d : ℕ} → p.IsPlainExpr (ahead (MixedBelow n)) 5 h false t s r d → p.IsPlainExpr (p.PlainBelow n) 5 h false t s r d
of-expr n {h} {t} {s} {r} {d} q = subst (λ P. p.IsPlainExpr P 5 h false t s r d) (mixed-ahead n) q

to-stmts : (n : ℕ) {t : List Stmt} {s r : List Token} {d : ℕ} → p.ArePlainStmts (p.PlainBelow n) t s r d → p.ArePlainStmts (ahead (MixedBelow n)) t s r d
to-stmts n {t} {s} {r} {d} q = subst (λ P. p.ArePlainStmts P t s r d) (sym (mixed-ahead n)) q

of-stmts : (n : ℕ) {t : List Stmt} {s r : List Token} {d : ℕ} → p.ArePlainStmts (ahead (MixedBelow n)) t s r d → p.ArePlainStmts (p.PlainBelow n) t s r d
of-stmts n {t} {s} {r} {d} q = subst (λ P. p.ArePlainStmts P t s r d) (mixed-ahead n) q

to-chunk : (n : ℕ) {t : Chunk} {s r : List Token} {d : ℕ} → p.IsPlainChunk (p.PlainBelow n) t s r d → p.IsPlainChunk (ahead (MixedBelow n)) t s r d
to-chunk n {t} {s} {r} {d} q = subst (λ P. p.IsPlainChunk P t s r d) (sym (mixed-ahead n)) q

of-chunk : (n : ℕ) {t : Chunk} {s r : List Token} {d : ℕ} → p.IsPlainChunk (ahead (MixedBelow n)) t s r d → p.IsPlainChunk (p.PlainBelow n) t s r d
of-chunk n {t} {s} {r} {d} q = subst (λ P. p.IsPlainChunk P t s r d) (mixed-ahead n) q

-- At each stage a part stands where the row has one.
fits-mixed : (n : ℕ) → Fits (MixedBelow n) n
fits-mixed zero = record {
  shows_type = λ r u l q. absurd q;
  has_type = λ r f l e. absurd (omega (arith, l));
  shows_named_params = λ v r u l q. absurd q;
  has_named_params = λ v r f l e. absurd (omega (arith, l));
  shows_literal = λ r u l q. absurd q;
  has_literal = λ r f l e. absurd (omega (arith, l));
  shows_selected = λ r u l q. absurd q;
  has_selected = λ r f l e. absurd (omega (arith, l));
  shows_block = λ r u l q. absurd q;
  has_block = λ r f l e. absurd (omega (arith, l));
  shows_received = λ r u l q. absurd q;
  has_received = λ r f l e. absurd (omega (arith, l));
  shows_suffix = λ r u l q. absurd q;
  has_suffix = λ r f l e. absurd (omega (arith, l));
  shows_operand = λ m h r u l q. absurd q;
  has_operand = λ m h r f l e. absurd (omega (arith, l));
  shows_guard = λ r u l q. absurd q;
  has_guard = λ r f l e. absurd (omega (arith, l));
  shows_header = λ r u l q. absurd q;
  has_header = λ r f l e. absurd (omega (arith, l));
  shows_range_left = λ r u l q. absurd q;
  has_range_left = λ r f l e. absurd (omega (arith, l));
}
fits-mixed (suc n) = record {
  shows_type = λ r u l q. record { tree = q.0; depth = q.1; is = (exact (MixedBelow n) n (fits-mixed n) r (omega (arith, l))).type q.0 u q.1 (type-same (MixedBelow n) n (fits-mixed n) (to-type n q.2) (omega (arith, l))) };
  has_type = λ r f l e. (f.tree, f.depth, of-type n (type-plain (MixedBelow n) ((sound (MixedBelow n) n (fits-mixed n) r (omega (arith, l))).type f e)));
  shows_named_params = λ v r u l q. record { tree = q.0; depth = q.1; is = (exact (MixedBelow n) n (fits-mixed n) r (omega (arith, l))).named_params v q.0 u q.1 q.2 };
  has_named_params = λ v r f l e. (f.tree, f.depth, (sound (MixedBelow n) n (fits-mixed n) r (omega (arith, l))).named_params v f e);
  shows_literal = λ r u l q. record { tree = q.0; depth = q.1; is = (exact (MixedBelow n) n (fits-mixed n) r (omega (arith, l))).literal q.0 u q.1 (literal-same (MixedBelow n) n (fits-mixed n) (to-literal n q.2) (omega (arith, l))) };
  has_literal = λ r f l e. (f.tree, f.depth, of-literal n (literal-plain (MixedBelow n) ((sound (MixedBelow n) n (fits-mixed n) r (omega (arith, l))).literal f e)));
  shows_selected = λ r u l q. record { tree = q.0; depth = q.1; is = (exact (MixedBelow n) n (fits-mixed n) r (omega (arith, l))).selected q.0 u q.1 (selected-same (MixedBelow n) n (fits-mixed n) (to-selected n q.2) (omega (arith, l))) };
  has_selected = λ r f l e. (f.tree, f.depth, of-selected n (selected-plain (MixedBelow n) ((sound (MixedBelow n) n (fits-mixed n) r (omega (arith, l))).selected f e)));
  shows_block = λ r u l q. record { tree = q.0; depth = q.1; is = (exact (MixedBelow n) n (fits-mixed n) r (omega (arith, l))).block q.0 u q.1 (block-same (MixedBelow n) n (fits-mixed n) (to-block n q.2) (omega (arith, l))) };
  has_block = λ r f l e. (f.tree, f.depth, of-block n (block-plain (MixedBelow n) ((sound (MixedBelow n) n (fits-mixed n) r (omega (arith, l))).block f e)));
  shows_received = λ r u l q. record { tree = q.0; depth = q.1; is = (exact (MixedBelow n) n (fits-mixed n) r (omega (arith, l))).received q.0 u q.1 (received-same (MixedBelow n) n (fits-mixed n) (to-received n q.2) (omega (arith, l))) };
  has_received = λ r f l e. (f.tree, f.depth, of-received n (received-plain (MixedBelow n) ((sound (MixedBelow n) n (fits-mixed n) r (omega (arith, l))).received f e)));
  shows_suffix = λ r u l q. record { tree = q.0; depth = q.1; is = (exact (MixedBelow n) n (fits-mixed n) r (omega (arith, l))).suffix q.0 u q.1 q.2 };
  has_suffix = λ r f l e. (f.tree, f.depth, (sound (MixedBelow n) n (fits-mixed n) r (omega (arith, l))).suffix f e);
  shows_operand = λ m h r u l q. record { tree = q.0; depth = q.1; is = (exact (MixedBelow n) n (fits-mixed n) r (omega (arith, l))).operand m h q.0 u q.1 q.2 };
  has_operand = λ m h r f l e. (f.tree, f.depth, (sound (MixedBelow n) n (fits-mixed n) r (omega (arith, l))).operand m h f e);
  shows_guard = λ r u l q. record { tree = q.0; depth = q.1; is = (exact (MixedBelow n) n (fits-mixed n) r (omega (arith, l))).guard q.0 u q.1 q.2 };
  has_guard = λ r f l e. (f.tree, f.depth, (sound (MixedBelow n) n (fits-mixed n) r (omega (arith, l))).guard f e);
  shows_header = λ r u l q. record { tree = q.0; depth = q.1; is = (exact (MixedBelow n) n (fits-mixed n) r (omega (arith, l))).header q.0 u q.1 q.2 };
  has_header = λ r f l e. (f.tree, f.depth, (sound (MixedBelow n) n (fits-mixed n) r (omega (arith, l))).header f e);
  shows_range_left = λ r u l q. record { tree = q.0; depth = q.1; is = (exact (MixedBelow n) n (fits-mixed n) r (omega (arith, l))).range_left q.0 u q.1 q.2 };
  has_range_left = λ r f l e. (f.tree, f.depth, (sound (MixedBelow n) n (fits-mixed n) r (omega (arith, l))).range_left f e);
}

-- A type that stands is one of the plain grammar, and one of the plain grammar stands.
pub type-stands-plain : {t : TypeExpr} {s r : List Token} {d : ℕ} → g.IsTypeAt t s r d → p.IsPlainTypeAt t s r d
type-stands-plain {t} {s} {r} {d} q = of-type (length s) (type-plain (MixedBelow (length s)) ((sound (MixedBelow (length s)) (length s) (fits-mixed (length s)) s (omega arith)).type (found t r d) (type-whole q)))

pub plain-type-stands : {t : TypeExpr} {s r : List Token} {d : ℕ} → p.IsPlainTypeAt t s r d → g.IsTypeAt t s r d
plain-type-stands {t} {s} {r} {d} q =
    let h = type-same (MixedBelow (length s)) (length s) (fits-mixed (length s)) (to-type (length s) q) (omega arith) in
    type-stands s (found t r d) ((exact (MixedBelow (length s)) (length s) (fits-mixed (length s)) s (omega arith)).type t r d h)

pub one-plain-type : {t u : TypeExpr} {s r v : List Token} {c d : ℕ} → p.IsPlainTypeAt t s r c → p.IsPlainTypeAt u s v d → (t ≡ u) × (r ≡ v) × (c ≡ d)
one-plain-type x y = one_type (plain-type-stands x) (plain-type-stands y)

-- A block that stands is one of the plain grammar, and one of the plain grammar stands.
pub block-stands-plain : {t : Block} {s r : List Token} {d : ℕ} → g.IsBlockAt t s r d → p.IsPlainBlockAt t s r d
block-stands-plain {t} {s} {r} {d} q = of-block (length s) (block-plain (MixedBelow (length s)) ((sound (MixedBelow (length s)) (length s) (fits-mixed (length s)) s (omega arith)).block (found t r d) (block-whole q)))

pub plain-block-stands : {t : Block} {s r : List Token} {d : ℕ} → p.IsPlainBlockAt t s r d → g.IsBlockAt t s r d
plain-block-stands {t} {s} {r} {d} q =
    let h = block-same (MixedBelow (length s)) (length s) (fits-mixed (length s)) (to-block (length s) q) (omega arith) in
    block-stands s (found t r d) ((exact (MixedBelow (length s)) (length s) (fits-mixed (length s)) s (omega arith)).block t r d h)

pub one-plain-block : {t u : Block} {s r v : List Token} {c d : ℕ} → p.IsPlainBlockAt t s r c → p.IsPlainBlockAt u s v d → (t ≡ u) × (r ≡ v) × (c ≡ d)
one-plain-block x y = one_block (plain-block-stands x) (plain-block-stands y)

-- A chunk that stands is one of the plain grammar, and one of the plain grammar stands.
pub chunk-stands-plain : {t : Chunk} {s r : List Token} {d : ℕ} → g.IsChunkAt t s r d → p.IsPlainChunkAt t s r d
chunk-stands-plain {t} {s} {r} {d} q = of-chunk (length s) (chunk-plain (MixedBelow (length s)) ((sound (MixedBelow (length s)) (length s) (fits-mixed (length s)) s (omega arith)).chunk (found t r d) (chunk-whole q)))

pub plain-chunk-stands : {t : Chunk} {s r : List Token} {d : ℕ} → p.IsPlainChunkAt t s r d → g.IsChunkAt t s r d
plain-chunk-stands {t} {s} {r} {d} q =
    let h = chunk-same (MixedBelow (length s)) (length s) (fits-mixed (length s)) (to-chunk (length s) q) (omega arith) in
    chunk-stands s (found t r d) ((exact (MixedBelow (length s)) (length s) (fits-mixed (length s)) s (omega arith)).chunk t r d h)

pub one-plain-chunk : {t u : Chunk} {s r v : List Token} {c d : ℕ} → p.IsPlainChunkAt t s r c → p.IsPlainChunkAt u s v d → (t ≡ u) × (r ≡ v) × (c ≡ d)
one-plain-chunk x y = one_chunk (plain-chunk-stands x) (plain-chunk-stands y)

-- An expression that stands is one of the plain grammar.
pub expr-stands-plain : {h : Bool} {t : Expr} {s r : List Token} {d : ℕ} → g.IsExprAt h t s r d → p.IsPlainExprAt h t s r d
expr-stands-plain {h} {t} {s} {r} {d} q = of-expr (length s) (expr-plain (MixedBelow (length s)) ((sound (MixedBelow (length s)) (length s) (fits-mixed (length s)) s (omega arith)).expr 5 h false (found t r d) (expr-whole q)))

expr-mixed : (h : Bool) {t : Expr} {s r : List Token} {d : ℕ} → g.IsExpr (MixedBelow (length s)) 5 h false t s r d → g.IsExprAt h t s r d
expr-mixed h {t} {s} {r} {d} q = expr-stands h s (found t r d) ((exact (MixedBelow (length s)) (length s) (fits-mixed (length s)) s (omega arith)).expr 5 h false t r d q)

longest-by : (h : Bool) {t : Expr} {s r : List Token} {d : ℕ} → Better (λ u v c. g.IsExpr (MixedBelow (length s)) 5 h false u s v c) (Goes 5) t r d → (u : Expr) × (v : List Token) × (c : ℕ) × g.IsExprAt h u s v c × (length v ≤ length r)
longest-by h {t} {s} {r} {d} (Better.same q) = (t, r, d, expr-mixed h q, omega arith)
longest-by h (Better.longer {u} {v} {c} q l y) = (u, v, c, expr-mixed h q, omega (arith, l))

-- Where the plain grammar has an expression, one stands that is as long or longer.
pub plain-longest : (h : Bool) {t : Expr} {s r : List Token} {d : ℕ} → p.IsPlainExprAt h t s r d → (u : Expr) × (v : List Token) × (c : ℕ) × g.IsExprAt h u s v c × (length v ≤ length r)
plain-longest h {s = s} q = longest-by h (expr-better (MixedBelow (length s)) (length s) (fits-mixed (length s)) (to-expr (length s) q) (omega arith))

stmts-mixed : {t : List Stmt} {s r : List Token} {d : ℕ} → g.AreStmts (g.StandsBelow (length s)) t s r d → g.AreStmts (MixedBelow (length s)) t s r d
stmts-mixed {t} {s} {r} {d} q = (sound (MixedBelow (length s)) (length s) (fits-mixed (length s)) s (omega arith)).stmts (found t r d) ((exact (g.StandsBelow (length s)) (length s) (fits (length s)) s (omega arith)).stmts t r d q)

-- A list of statements that stands is one of the plain grammar.
pub stmts-stands-plain : {t : List Stmt} {s r : List Token} {d : ℕ} → g.AreStmts (g.StandsBelow (length s)) t s r d → p.ArePlainStmtsAt t s r d
stmts-stands-plain {s = s} q = of-stmts (length s) (stmts-plain (MixedBelow (length s)) (stmts-mixed q))

-- What the plain grammar has as a list of statements is a front of the list that stands, which is as long or longer.
pub plain-stmts-start : {ts us : List Stmt} {s r v : List Token} {c d : ℕ} → g.AreStmts (g.StandsBelow (length s)) ts s r c → p.ArePlainStmtsAt us s v d → (vs : List Stmt) × (ts ≡ us ++ vs) × (length r ≤ length v)
plain-stmts-start {ts} {s = s} {r = r} {c = c} x q =
    let h = stmts-start (MixedBelow (length s)) (length s) (fits-mixed (length s)) (to-stmts (length s) q) (omega arith) ts r c (stmts-mixed x) in
    (h.rest, h.same, h.longer)
