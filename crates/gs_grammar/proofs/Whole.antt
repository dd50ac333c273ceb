-- The laws of the grammar.
use Rattle.std.proofs.Common.{◌≡◌, ℕ, zero, suc, Bool, false, List, length, sym, ap, ◌∙◌, arith, Some}
use Rattle.gs_syntax.specs.declared.token.Token.{Token}
use Rattle.gs_grammar.specs.declared.trees.Chunk.{Chunk}
use Rattle.gs_grammar.specs.declared.trees.TypeExpr.{TypeExpr}
use Rattle.gs_grammar.specs.declared.trees.Expr.{Expr}
use Rattle.gs_grammar.specs.declared.trees.Block.{Block}
use Rattle.gs_grammar.specs.Grammar.{StandsBelow, IsTypeAt, IsExprAt, IsBlockAt, IsChunkAt}
use Rattle.gs_grammar.specs.Parts.{Found, found}
use Rattle.gs_grammar.specs.Reference.{row}
use Rattle.gs_grammar.proofs.Common.{some_is}
use Rattle.gs_grammar.proofs.Fits.{Fits}
use Rattle.gs_grammar.proofs.Sound.{sound}
use Rattle.gs_grammar.proofs.Exact.{exact}

-- At each stage a part stands where the row has one.
pub fits : (n : ℕ) → Fits (StandsBelow n) n
fits zero = record {
  shows_type = λ r u l p. absurd p;
  has_type = λ r f l e. absurd (omega (arith, l));
  shows_named_params = λ v r u l p. absurd p;
  has_named_params = λ v r f l e. absurd (omega (arith, l));
  shows_literal = λ r u l p. absurd p;
  has_literal = λ r f l e. absurd (omega (arith, l));
  shows_selected = λ r u l p. absurd p;
  has_selected = λ r f l e. absurd (omega (arith, l));
  shows_block = λ r u l p. absurd p;
  has_block = λ r f l e. absurd (omega (arith, l));
  shows_received = λ r u l p. absurd p;
  has_received = λ r f l e. absurd (omega (arith, l));
  shows_suffix = λ r u l p. absurd p;
  has_suffix = λ r f l e. absurd (omega (arith, l));
  shows_operand = λ m h r u l p. absurd p;
  has_operand = λ m h r f l e. absurd (omega (arith, l));
  shows_guard = λ r u l p. absurd p;
  has_guard = λ r f l e. absurd (omega (arith, l));
  shows_header = λ r u l p. absurd p;
  has_header = λ r f l e. absurd (omega (arith, l));
  shows_range_left = λ r u l p. absurd p;
  has_range_left = λ r f l e. absurd (omega (arith, l));
}
fits (suc n) = record {
  shows_type = λ r u l p. record { tree = p.0; depth = p.1; is = (exact (StandsBelow n) n (fits n) r (omega (arith, l))).type p.0 u p.1 p.2 };
  has_type = λ r f l e. (f.tree, f.depth, (sound (StandsBelow n) n (fits n) r (omega (arith, l))).type f e);
  shows_named_params = λ v r u l p. record { tree = p.0; depth = p.1; is = (exact (StandsBelow n) n (fits n) r (omega (arith, l))).named_params v p.0 u p.1 p.2 };
  has_named_params = λ v r f l e. (f.tree, f.depth, (sound (StandsBelow n) n (fits n) r (omega (arith, l))).named_params v f e);
  shows_literal = λ r u l p. record { tree = p.0; depth = p.1; is = (exact (StandsBelow n) n (fits n) r (omega (arith, l))).literal p.0 u p.1 p.2 };
  has_literal = λ r f l e. (f.tree, f.depth, (sound (StandsBelow n) n (fits n) r (omega (arith, l))).literal f e);
  shows_selected = λ r u l p. record { tree = p.0; depth = p.1; is = (exact (StandsBelow n) n (fits n) r (omega (arith, l))).selected p.0 u p.1 p.2 };
  has_selected = λ r f l e. (f.tree, f.depth, (sound (StandsBelow n) n (fits n) r (omega (arith, l))).selected f e);
  shows_block = λ r u l p. record { tree = p.0; depth = p.1; is = (exact (StandsBelow n) n (fits n) r (omega (arith, l))).block p.0 u p.1 p.2 };
  has_block = λ r f l e. (f.tree, f.depth, (sound (StandsBelow n) n (fits n) r (omega (arith, l))).block f e);
  shows_received = λ r u l p. record { tree = p.0; depth = p.1; is = (exact (StandsBelow n) n (fits n) r (omega (arith, l))).received p.0 u p.1 p.2 };
  has_received = λ r f l e. (f.tree, f.depth, (sound (StandsBelow n) n (fits n) r (omega (arith, l))).received f e);
  shows_suffix = λ r u l p. record { tree = p.0; depth = p.1; is = (exact (StandsBelow n) n (fits n) r (omega (arith, l))).suffix p.0 u p.1 p.2 };
  has_suffix = λ r f l e. (f.tree, f.depth, (sound (StandsBelow n) n (fits n) r (omega (arith, l))).suffix f e);
  shows_operand = λ m h r u l p. record { tree = p.0; depth = p.1; is = (exact (StandsBelow n) n (fits n) r (omega (arith, l))).operand m h p.0 u p.1 p.2 };
  has_operand = λ m h r f l e. (f.tree, f.depth, (sound (StandsBelow n) n (fits n) r (omega (arith, l))).operand m h f e);
  shows_guard = λ r u l p. record { tree = p.0; depth = p.1; is = (exact (StandsBelow n) n (fits n) r (omega (arith, l))).guard p.0 u p.1 p.2 };
  has_guard = λ r f l e. (f.tree, f.depth, (sound (StandsBelow n) n (fits n) r (omega (arith, l))).guard f e);
  shows_header = λ r u l p. record { tree = p.0; depth = p.1; is = (exact (StandsBelow n) n (fits n) r (omega (arith, l))).header p.0 u p.1 p.2 };
  has_header = λ r f l e. (f.tree, f.depth, (sound (StandsBelow n) n (fits n) r (omega (arith, l))).header f e);
  shows_range_left = λ r u l p. record { tree = p.0; depth = p.1; is = (exact (StandsBelow n) n (fits n) r (omega (arith, l))).range_left p.0 u p.1 p.2 };
  has_range_left = λ r f l e. (f.tree, f.depth, (sound (StandsBelow n) n (fits n) r (omega (arith, l))).range_left f e);
}

pub type-whole : {t : TypeExpr} {s r : List Token} {d : ℕ} → IsTypeAt t s r d → (row s).type ≡ Some (found t r d)
type-whole {t} {s} {r} {d} p = (exact (StandsBelow (length s)) (length s) (fits (length s)) s (omega arith)).type t r d p

pub type-stands : (s : List Token) (f : Found TypeExpr) → (row s).type ≡ Some f → IsTypeAt f.tree s f.rest f.depth
type-stands s f e = (sound (StandsBelow (length s)) (length s) (fits (length s)) s (omega arith)).type f e

pub one_type : {t u : TypeExpr} {s r v : List Token} {c d : ℕ} → IsTypeAt t s r c → IsTypeAt u s v d → (t ≡ u) × (r ≡ v) × (c ≡ d)
one_type p q =
    let both = some_is (sym (type-whole p) ∙ type-whole q) in
    (ap (λ f. f.tree) both, ap (λ f. f.rest) both, ap (λ f. f.depth) both)

pub expr-whole : {h : Bool} {t : Expr} {s r : List Token} {d : ℕ} → IsExprAt h t s r d → (row s).expr 5 h false ≡ Some (found t r d)
expr-whole {h} {t} {s} {r} {d} p = (exact (StandsBelow (length s)) (length s) (fits (length s)) s (omega arith)).expr 5 h false t r d p

pub expr-stands : (h : Bool) (s : List Token) (f : Found Expr) → (row s).expr 5 h false ≡ Some f → IsExprAt h f.tree s f.rest f.depth
expr-stands h s f e = (sound (StandsBelow (length s)) (length s) (fits (length s)) s (omega arith)).expr 5 h false f e

pub one_expr : {h : Bool} {t u : Expr} {s r v : List Token} {c d : ℕ} → IsExprAt h t s r c → IsExprAt h u s v d → (t ≡ u) × (r ≡ v) × (c ≡ d)
one_expr p q =
    let both = some_is (sym (expr-whole p) ∙ expr-whole q) in
    (ap (λ f. f.tree) both, ap (λ f. f.rest) both, ap (λ f. f.depth) both)

pub block-whole : {t : Block} {s r : List Token} {d : ℕ} → IsBlockAt t s r d → (row s).block ≡ Some (found t r d)
block-whole {t} {s} {r} {d} p = (exact (StandsBelow (length s)) (length s) (fits (length s)) s (omega arith)).block t r d p

pub block-stands : (s : List Token) (f : Found Block) → (row s).block ≡ Some f → IsBlockAt f.tree s f.rest f.depth
block-stands s f e = (sound (StandsBelow (length s)) (length s) (fits (length s)) s (omega arith)).block f e

pub one_block : {t u : Block} {s r v : List Token} {c d : ℕ} → IsBlockAt t s r c → IsBlockAt u s v d → (t ≡ u) × (r ≡ v) × (c ≡ d)
one_block p q =
    let both = some_is (sym (block-whole p) ∙ block-whole q) in
    (ap (λ f. f.tree) both, ap (λ f. f.rest) both, ap (λ f. f.depth) both)

pub chunk-whole : {t : Chunk} {s r : List Token} {d : ℕ} → IsChunkAt t s r d → (row s).chunk ≡ Some (found t r d)
chunk-whole {t} {s} {r} {d} p = (exact (StandsBelow (length s)) (length s) (fits (length s)) s (omega arith)).chunk t r d p

pub chunk-stands : (s : List Token) (f : Found Chunk) → (row s).chunk ≡ Some f → IsChunkAt f.tree s f.rest f.depth
chunk-stands s f e = (sound (StandsBelow (length s)) (length s) (fits (length s)) s (omega arith)).chunk f e

pub one_chunk : {t u : Chunk} {s r v : List Token} {c d : ℕ} → IsChunkAt t s r c → IsChunkAt u s v d → (t ≡ u) × (r ≡ v) × (c ≡ d)
one_chunk p q =
    let both = some_is (sym (chunk-whole p) ∙ chunk-whole q) in
    (ap (λ f. f.tree) both, ap (λ f. f.rest) both, ap (λ f. f.depth) both)
