-- What a row holds: for each form what stands at a place.
use Rattle.std.specs.Prelude.{ℕ, Bool, List, [], Option, Some, None}
use Rattle.gs_syntax.specs.declared.token.Span.{Span}
use Rattle.gs_syntax.specs.declared.token.Token.{Token}
use Rattle.gs_grammar.specs.declared.trees.Chunk.{Chunk}
use Rattle.gs_grammar.specs.declared.trees.ImportSpec.{ImportSpec}
use Rattle.gs_grammar.specs.declared.trees.Top.{Top}
use Rattle.gs_grammar.specs.declared.trees.Decl.{Decl}
use Rattle.gs_grammar.specs.declared.trees.ConstSpec.{ConstSpec}
use Rattle.gs_grammar.specs.declared.trees.TypeSpec.{TypeSpec}
use Rattle.gs_grammar.specs.declared.trees.VarSpec.{VarSpec}
use Rattle.gs_grammar.specs.declared.trees.TypeExpr.{TypeExpr}
use Rattle.gs_grammar.specs.declared.trees.Signature.{Signature}
use Rattle.gs_grammar.specs.declared.trees.Parameters.{Parameters}
use Rattle.gs_grammar.specs.declared.trees.Parameter.{Parameter}
use Rattle.gs_grammar.specs.declared.trees.Field.{Field}
use Rattle.gs_grammar.specs.declared.trees.Member.{Member}
use Rattle.gs_grammar.specs.declared.trees.Expr.{Expr}
use Rattle.gs_grammar.specs.declared.trees.Suffix.{Suffix}
use Rattle.gs_grammar.specs.declared.trees.LiteralValue.{LiteralValue}
use Rattle.gs_grammar.specs.declared.trees.Element.{Element}
use Rattle.gs_grammar.specs.declared.trees.ElementValue.{ElementValue}
use Rattle.gs_grammar.specs.declared.trees.Block.{Block}
use Rattle.gs_grammar.specs.declared.trees.Stmt.{Stmt}
use Rattle.gs_grammar.specs.declared.trees.Simple.{Simple}
use Rattle.gs_grammar.specs.declared.trees.Arm.{Arm}
use Rattle.gs_grammar.specs.declared.trees.Clause.{Clause}
use Rattle.gs_grammar.specs.declared.trees.TypeClause.{TypeClause}
use Rattle.gs_grammar.specs.declared.trees.CommClause.{CommClause}
use Rattle.gs_grammar.specs.declared.trees.Comm.{Comm}
use Rattle.gs_grammar.specs.declared.trees.RangeLeft.{RangeLeft}
use Rattle.gs_grammar.specs.Parts.{Found, found}

-- what stands at a place
pub record Row : Type 0 where
  pub idents : Option (Found (List Token))
  pub type_name : Option (Found TypeExpr)
  pub type : Option (Found TypeExpr)
  pub unnamed : Bool → Option (Found (List Parameter))
  pub named_params : Bool → Option (Found (List Parameter))
  pub params : Bool → Option (Found Parameters)
  pub signature : Option (Found Signature)
  pub tag : Option (Found (Option Token))
  pub field : Option (Found Field)
  pub fields : Option (Found (List Field))
  pub member : Option (Found Member)
  pub members : Option (Found (List Member))
  pub literal : Option (Found LiteralValue)
  pub selected : Option (Found (Token × LiteralValue))
  pub block : Option (Found Block)
  pub received : Option (Found TypeExpr)
  pub head : Bool → Option (Found Expr)
  pub bound : Option (Found (Option Expr))
  pub args : Option (Found (List Expr × Option Span))
  pub suffix : Option (Found Suffix)
  pub suffixes : Option (Found (List Suffix))
  pub primary : Bool → Option (Found Expr)
  pub unary : Bool → Bool → Option (Found Expr)
  pub expr : ℕ → Bool → Bool → Option (Found Expr)
  pub operand : ℕ → Bool → Option (Found (Token × Expr))
  pub operands : ℕ → Bool → Option (Found (List (Token × Expr)))
  pub value : Option (Found ElementValue)
  pub element : Option (Found Element)
  pub elements : Option (Found (List Element))
  pub exprs : Bool → Option (Found (List Expr))
  pub simple : Bool → Option (Found Simple)
  pub const_spec : Bool → Option (Found ConstSpec)
  pub const_specs : Bool → Option (Found (List ConstSpec))
  pub type_spec : Option (Found TypeSpec)
  pub type_specs : Option (Found (List TypeSpec))
  pub var_spec : Option (Found VarSpec)
  pub var_specs : Option (Found (List VarSpec))
  pub decl : Option (Found Decl)
  pub values : Option (Found (List Expr))
  pub target : Option (Found (Option Token))
  pub arms : Option (Found (List Arm × Option Block))
  pub arm : Option (Found Arm)
  pub tag_value : Option (Found (Option Expr))
  pub guard : Option (Found (Option (Token × Span) × Expr × Span))
  pub clauses : Option (Found (List Clause))
  pub types : Option (Found (List TypeExpr))
  pub type_clauses : Option (Found (List TypeClause))
  pub comm : Option (Found Comm)
  pub comm_clauses : Option (Found (List CommClause))
  pub header : Option (Found Simple)
  pub condition : Option (Found (Option Expr))
  pub post : Option (Found Simple)
  pub range_left : Option (Found RangeLeft)
  pub stmt : Option (Found Stmt)
  pub stmts : Option (Found (List Stmt))
  pub import_spec : Option (Found ImportSpec)
  pub import_specs : Option (Found (List ImportSpec))
  pub body : Option (Found (Option Block))
  pub top : Option (Found Top)
  pub chunk : Option (Found Chunk)

-- behind the last token
abbrev pub past : Row
past = record {
  idents = None;
  type_name = None;
  type = None;
  unnamed = λ v. None;
  named_params = λ v. None;
  params = λ v. None;
  signature = None;
  tag = None;
  field = None;
  fields = None;
  member = None;
  members = None;
  literal = None;
  selected = None;
  block = None;
  received = None;
  head = λ h. None;
  bound = None;
  args = None;
  suffix = None;
  suffixes = Some (found [] [] 0);
  primary = λ h. None;
  unary = λ h. λ w. None;
  expr = λ m. λ h. λ w. None;
  operand = λ m. λ h. None;
  operands = λ m. λ h. Some (found [] [] 0);
  value = None;
  element = None;
  elements = None;
  exprs = λ h. None;
  simple = λ h. None;
  const_spec = λ i. None;
  const_specs = λ i. None;
  type_spec = None;
  type_specs = None;
  var_spec = None;
  var_specs = None;
  decl = None;
  values = None;
  target = None;
  arms = None;
  arm = None;
  tag_value = None;
  guard = None;
  clauses = None;
  types = None;
  type_clauses = None;
  comm = None;
  comm_clauses = None;
  header = None;
  condition = None;
  post = None;
  range_left = None;
  stmt = None;
  stmts = None;
  import_spec = None;
  import_specs = None;
  body = None;
  top = None;
  chunk = None;
}
