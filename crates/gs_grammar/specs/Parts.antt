-- Small words of the grammar: trees put together, and tests of them.
use Rattle.std.specs.Prelude.{ℕ, Bool, true, false, List, [], ◌∷◌}
use Rattle.gs_syntax.specs.declared.token.Span.{Span}
use Rattle.gs_syntax.specs.declared.token.Token.{Token}
use Rattle.gs_grammar.specs.declared.trees.Parameters.{Parameters}
use Rattle.gs_grammar.specs.declared.trees.Parameter.{Parameter}
use Rattle.gs_grammar.specs.declared.trees.Parameter.TheVariants as pa
use Rattle.gs_grammar.specs.declared.trees.Expr.{Expr}
use Rattle.gs_grammar.specs.declared.trees.Expr.TheVariants as ex
use Rattle.gs_grammar.specs.declared.trees.Suffix.{Suffix}
use Rattle.gs_grammar.specs.declared.trees.LiteralValue.{LiteralValue}
use Rattle.gs_grammar.specs.declared.trees.Element.{Element}
use Rattle.gs_grammar.specs.declared.trees.Block.{Block}
use Rattle.gs_grammar.specs.declared.trees.Stmt.{Stmt}
use Rattle.gs_grammar.specs.declared.trees.Simple.{Simple}
use Rattle.gs_grammar.specs.declared.trees.Simple.TheVariants as si
use Rattle.gs_grammar.specs.declared.trees.Arm.{Arm}

-- a tree, what follows it, and how deep it nests
pub record Found (A : Type 0) : Type 0 where
  pub tree : A
  pub rest : List Token
  pub depth : ℕ

abbrev pub found : {A : Type 0} → A → List Token → ℕ → Found A
found t r d = record { tree = t; rest = r; depth = d }

abbrev pub suffixed : Expr → List Suffix → Expr
suffixed t [] = t
suffixed t (x ∷ xs) = ex.Suffixed t (x ∷ xs)

abbrev pub binary : Expr → List (Token × Expr) → Expr
binary t [] = t
binary t (x ∷ xs) = ex.Binary t (x ∷ xs)

abbrev pub make_parameters : Span → List Parameter → Span → Parameters
make_parameters p ps q = record { left = p; list = ps; right = q }

abbrev pub make_literal : Span → List Element → Span → LiteralValue
make_literal p xs q = record { left = p; elements = xs; right = q }

abbrev pub make_block : Span → List Stmt → Span → Block
make_block p ts q = record { left = p; statements = ts; right = q }

abbrev pub make_arm : Simple → Expr → Block → Arm
make_arm i c b = record { header = i; condition = c; body = b }

abbrev pub is_single : List Token → Bool
is_single (x ∷ []) = true
is_single _ = false

-- one parameter, with at most one name
abbrev pub is_receiver : Parameters → Bool
is_receiver ps = one ps.list
  where
    one : List Parameter → Bool
    one (pa.Plain t ∷ []) = true
    one (pa.Named (x ∷ []) t ∷ []) = true
    one _ = false

abbrev pub is_define : Simple → Bool
is_define (si.Define' ts m p us n) = true
is_define _ = false
