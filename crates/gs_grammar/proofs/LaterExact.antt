-- Exactness at later places.
use Rattle.std.proofs.Common.{◌≡◌, ℕ, suc, ◌≤◌, Bool, List, length, ap, ◌∙◌, arith, Option, Some, None}
use Rattle.gs_syntax.specs.declared.token.Span.{Span}
use Rattle.gs_syntax.specs.declared.token.Token.{Token}
use Rattle.gs_grammar.specs.declared.trees.Chunk.{Chunk}
use Rattle.gs_grammar.specs.declared.trees.ImportSpec.{ImportSpec}
use Rattle.gs_grammar.specs.declared.trees.Top.{Top}
use Rattle.gs_grammar.specs.declared.trees.Decl.{Decl}
use Rattle.gs_grammar.specs.declared.trees.ConstSpec.{ConstSpec}
use Rattle.gs_grammar.specs.declared.trees.TypeSpec.{TypeSpec}
use Rattle.gs_grammar.specs.declared.trees.VarSpec.{VarSpec}
use Rattle.gs_grammar.specs.declared.trees.TypeExpr.{TypeExpr}
use Rattle.gs_grammar.specs.declared.trees.Signature.{Signature}
use Rattle.gs_grammar.specs.declared.trees.Parameters.{Parameters}
use Rattle.gs_grammar.specs.declared.trees.Parameter.{Parameter}
use Rattle.gs_grammar.specs.declared.trees.Field.{Field}
use Rattle.gs_grammar.specs.declared.trees.Member.{Member}
use Rattle.gs_grammar.specs.declared.trees.Expr.{Expr}
use Rattle.gs_grammar.specs.declared.trees.Suffix.{Suffix}
use Rattle.gs_grammar.specs.declared.trees.LiteralValue.{LiteralValue}
use Rattle.gs_grammar.specs.declared.trees.Element.{Element}
use Rattle.gs_grammar.specs.declared.trees.ElementValue.{ElementValue}
use Rattle.gs_grammar.specs.declared.trees.Block.{Block}
use Rattle.gs_grammar.specs.declared.trees.Stmt.{Stmt}
use Rattle.gs_grammar.specs.declared.trees.Simple.{Simple}
use Rattle.gs_grammar.specs.declared.trees.Arm.{Arm}
use Rattle.gs_grammar.specs.declared.trees.Clause.{Clause}
use Rattle.gs_grammar.specs.declared.trees.TypeClause.{TypeClause}
use Rattle.gs_grammar.specs.declared.trees.CommClause.{CommClause}
use Rattle.gs_grammar.specs.declared.trees.Comm.{Comm}
use Rattle.gs_grammar.specs.declared.trees.RangeLeft.{RangeLeft}
use Rattle.gs_grammar.specs.Grammar as g
use Rattle.gs_grammar.specs.Parts.{found}
use Rattle.gs_grammar.specs.Reference.{row_at, rows}
use Rattle.gs_grammar.proofs.Common.{Ends, length-Ends}
use Rattle.gs_grammar.proofs.Rows.{look}
use Rattle.gs_grammar.proofs.Fits.{Fits, AllSound, AllExact, lacking-type, lacking-named_params, lacking-literal, lacking-selected, lacking-block, lacking-received, lacking-suffix, lacking-operand, lacking-guard, lacking-header, lacking-range_left}

module _ (S : g.Part → List Token → List Token → Type 0) (n : ℕ) (F : Fits S n) (s : List Token) (l : suc (length s) ≤ n) (H : AllSound S n s) (X : AllExact S n s) where
  pub idents_at : {u : List Token} {t : List Token} {r : List Token} {d : ℕ} → Ends s u → g.AreNames S t u r d → (row_at (rows s) u).idents ≡ Some (found t r d)
  idents_at {u = u} {t} {r} {d} q h0 = ap (λ z. z.idents) (look q) ∙ (X u q).idents t r d h0

  pub type_name_at : {u : List Token} {t : TypeExpr} {r : List Token} {d : ℕ} → Ends s u → g.IsTypeName S t u r d → (row_at (rows s) u).type_name ≡ Some (found t r d)
  type_name_at {u = u} {t} {r} {d} q h0 = ap (λ z. z.type_name) (look q) ∙ (X u q).type_name t r d h0

  pub type_at : {u : List Token} {t : TypeExpr} {r : List Token} {d : ℕ} → Ends s u → g.IsType S t u r d → (row_at (rows s) u).type ≡ Some (found t r d)
  type_at {u = u} {t} {r} {d} q h0 = ap (λ z. z.type) (look q) ∙ (X u q).type t r d h0

  pub unnamed_at : {v : Bool} {u : List Token} {t : List Parameter} {r : List Token} {d : ℕ} → Ends s u → g.AreUnnamed S v t u r d → (row_at (rows s) u).unnamed v ≡ Some (found t r d)
  unnamed_at {v} {u = u} {t} {r} {d} q h0 = ap (λ z. z.unnamed v) (look q) ∙ (X u q).unnamed v t r d h0

  pub named_params_at : {v : Bool} {u : List Token} {t : List Parameter} {r : List Token} {d : ℕ} → Ends s u → g.AreNamed S v t u r d → (row_at (rows s) u).named_params v ≡ Some (found t r d)
  named_params_at {v} {u = u} {t} {r} {d} q h0 = ap (λ z. z.named_params v) (look q) ∙ (X u q).named_params v t r d h0

  pub params_at : {v : Bool} {u : List Token} {t : Parameters} {r : List Token} {d : ℕ} → Ends s u → g.AreParams S v t u r d → (row_at (rows s) u).params v ≡ Some (found t r d)
  params_at {v} {u = u} {t} {r} {d} q h0 = ap (λ z. z.params v) (look q) ∙ (X u q).params v t r d h0

  pub signature_at : {u : List Token} {t : Signature} {r : List Token} {d : ℕ} → Ends s u → g.IsSignature S t u r d → (row_at (rows s) u).signature ≡ Some (found t r d)
  signature_at {u = u} {t} {r} {d} q h0 = ap (λ z. z.signature) (look q) ∙ (X u q).signature t r d h0

  pub tag_at : {u : List Token} {t : Option Token} {r : List Token} {d : ℕ} → Ends s u → g.IsTag S t u r d → (row_at (rows s) u).tag ≡ Some (found t r d)
  tag_at {u = u} {t} {r} {d} q h0 = ap (λ z. z.tag) (look q) ∙ (X u q).tag t r d h0

  pub field_at : {u : List Token} {t : Field} {r : List Token} {d : ℕ} → Ends s u → g.IsField S t u r d → (row_at (rows s) u).field ≡ Some (found t r d)
  field_at {u = u} {t} {r} {d} q h0 = ap (λ z. z.field) (look q) ∙ (X u q).field t r d h0

  pub fields_at : {u : List Token} {t : List Field} {r : List Token} {d : ℕ} → Ends s u → g.AreFields S t u r d → (row_at (rows s) u).fields ≡ Some (found t r d)
  fields_at {u = u} {t} {r} {d} q h0 = ap (λ z. z.fields) (look q) ∙ (X u q).fields t r d h0

  pub member_at : {u : List Token} {t : Member} {r : List Token} {d : ℕ} → Ends s u → g.IsMember S t u r d → (row_at (rows s) u).member ≡ Some (found t r d)
  member_at {u = u} {t} {r} {d} q h0 = ap (λ z. z.member) (look q) ∙ (X u q).member t r d h0

  pub members_at : {u : List Token} {t : List Member} {r : List Token} {d : ℕ} → Ends s u → g.AreMembers S t u r d → (row_at (rows s) u).members ≡ Some (found t r d)
  members_at {u = u} {t} {r} {d} q h0 = ap (λ z. z.members) (look q) ∙ (X u q).members t r d h0

  pub literal_at : {u : List Token} {t : LiteralValue} {r : List Token} {d : ℕ} → Ends s u → g.IsLiteral S t u r d → (row_at (rows s) u).literal ≡ Some (found t r d)
  literal_at {u = u} {t} {r} {d} q h0 = ap (λ z. z.literal) (look q) ∙ (X u q).literal t r d h0

  pub selected_at : {u : List Token} {t : Token × LiteralValue} {r : List Token} {d : ℕ} → Ends s u → g.IsSelected S t u r d → (row_at (rows s) u).selected ≡ Some (found t r d)
  selected_at {u = u} {t} {r} {d} q h0 = ap (λ z. z.selected) (look q) ∙ (X u q).selected t r d h0

  pub block_at : {u : List Token} {t : Block} {r : List Token} {d : ℕ} → Ends s u → g.IsBlock S t u r d → (row_at (rows s) u).block ≡ Some (found t r d)
  block_at {u = u} {t} {r} {d} q h0 = ap (λ z. z.block) (look q) ∙ (X u q).block t r d h0

  pub received_at : {u : List Token} {t : TypeExpr} {r : List Token} {d : ℕ} → Ends s u → g.IsReceived S t u r d → (row_at (rows s) u).received ≡ Some (found t r d)
  received_at {u = u} {t} {r} {d} q h0 = ap (λ z. z.received) (look q) ∙ (X u q).received t r d h0

  pub head_at : {h : Bool} {u : List Token} {t : Expr} {r : List Token} {d : ℕ} → Ends s u → g.IsHead S h t u r d → (row_at (rows s) u).head h ≡ Some (found t r d)
  head_at {h} {u = u} {t} {r} {d} q h0 = ap (λ z. z.head h) (look q) ∙ (X u q).head h t r d h0

  pub bound_at : {u : List Token} {t : Option Expr} {r : List Token} {d : ℕ} → Ends s u → g.IsBound S t u r d → (row_at (rows s) u).bound ≡ Some (found t r d)
  bound_at {u = u} {t} {r} {d} q h0 = ap (λ z. z.bound) (look q) ∙ (X u q).bound t r d h0

  pub args_at : {u : List Token} {t : List Expr × Option Span} {r : List Token} {d : ℕ} → Ends s u → g.AreArgs S t u r d → (row_at (rows s) u).args ≡ Some (found t r d)
  args_at {u = u} {t} {r} {d} q h0 = ap (λ z. z.args) (look q) ∙ (X u q).args t r d h0

  pub suffix_at : {u : List Token} {t : Suffix} {r : List Token} {d : ℕ} → Ends s u → g.IsSuffix S t u r d → (row_at (rows s) u).suffix ≡ Some (found t r d)
  suffix_at {u = u} {t} {r} {d} q h0 = ap (λ z. z.suffix) (look q) ∙ (X u q).suffix t r d h0

  pub suffixes_at : {u : List Token} {t : List Suffix} {r : List Token} {d : ℕ} → Ends s u → g.AreSuffixes S t u r d → (row_at (rows s) u).suffixes ≡ Some (found t r d)
  suffixes_at {u = u} {t} {r} {d} q h0 = ap (λ z. z.suffixes) (look q) ∙ (X u q).suffixes (omega (arith, l, length-Ends q)) t r d h0

  pub primary_at : {h : Bool} {u : List Token} {t : Expr} {r : List Token} {d : ℕ} → Ends s u → g.IsPrimary S h t u r d → (row_at (rows s) u).primary h ≡ Some (found t r d)
  primary_at {h} {u = u} {t} {r} {d} q h0 = ap (λ z. z.primary h) (look q) ∙ (X u q).primary h t r d h0

  pub unary_at : {h : Bool} {w : Bool} {u : List Token} {t : Expr} {r : List Token} {d : ℕ} → Ends s u → g.IsUnary S h w t u r d → (row_at (rows s) u).unary h w ≡ Some (found t r d)
  unary_at {h} {w} {u = u} {t} {r} {d} q h0 = ap (λ z. z.unary h w) (look q) ∙ (X u q).unary h w t r d h0

  pub expr_at : {m : ℕ} {h : Bool} {w : Bool} {u : List Token} {t : Expr} {r : List Token} {d : ℕ} → Ends s u → g.IsExpr S m h w t u r d → (row_at (rows s) u).expr m h w ≡ Some (found t r d)
  expr_at {m} {h} {w} {u = u} {t} {r} {d} q h0 = ap (λ z. z.expr m h w) (look q) ∙ (X u q).expr m h w t r d h0

  pub operand_at : {m : ℕ} {h : Bool} {u : List Token} {t : Token × Expr} {r : List Token} {d : ℕ} → Ends s u → g.IsOperand S m h t u r d → (row_at (rows s) u).operand m h ≡ Some (found t r d)
  operand_at {m} {h} {u = u} {t} {r} {d} q h0 = ap (λ z. z.operand m h) (look q) ∙ (X u q).operand m h t r d h0

  pub operands_at : {m : ℕ} {h : Bool} {u : List Token} {t : List (Token × Expr)} {r : List Token} {d : ℕ} → Ends s u → g.AreOperands S m h t u r d → (row_at (rows s) u).operands m h ≡ Some (found t r d)
  operands_at {m} {h} {u = u} {t} {r} {d} q h0 = ap (λ z. z.operands m h) (look q) ∙ (X u q).operands m h (omega (arith, l, length-Ends q)) t r d h0

  pub value_at : {u : List Token} {t : ElementValue} {r : List Token} {d : ℕ} → Ends s u → g.IsValue S t u r d → (row_at (rows s) u).value ≡ Some (found t r d)
  value_at {u = u} {t} {r} {d} q h0 = ap (λ z. z.value) (look q) ∙ (X u q).value t r d h0

  pub element_at : {u : List Token} {t : Element} {r : List Token} {d : ℕ} → Ends s u → g.IsElement S t u r d → (row_at (rows s) u).element ≡ Some (found t r d)
  element_at {u = u} {t} {r} {d} q h0 = ap (λ z. z.element) (look q) ∙ (X u q).element t r d h0

  pub elements_at : {u : List Token} {t : List Element} {r : List Token} {d : ℕ} → Ends s u → g.AreElements S t u r d → (row_at (rows s) u).elements ≡ Some (found t r d)
  elements_at {u = u} {t} {r} {d} q h0 = ap (λ z. z.elements) (look q) ∙ (X u q).elements t r d h0

  pub exprs_at : {h : Bool} {u : List Token} {t : List Expr} {r : List Token} {d : ℕ} → Ends s u → g.AreExprs S h t u r d → (row_at (rows s) u).exprs h ≡ Some (found t r d)
  exprs_at {h} {u = u} {t} {r} {d} q h0 = ap (λ z. z.exprs h) (look q) ∙ (X u q).exprs h t r d h0

  pub simple_at : {h : Bool} {u : List Token} {t : Simple} {r : List Token} {d : ℕ} → Ends s u → g.IsSimple S h t u r d → (row_at (rows s) u).simple h ≡ Some (found t r d)
  simple_at {h} {u = u} {t} {r} {d} q h0 = ap (λ z. z.simple h) (look q) ∙ (X u q).simple h t r d h0

  pub const_spec_at : {i : Bool} {u : List Token} {t : ConstSpec} {r : List Token} {d : ℕ} → Ends s u → g.IsConstSpec S i t u r d → (row_at (rows s) u).const_spec i ≡ Some (found t r d)
  const_spec_at {i} {u = u} {t} {r} {d} q h0 = ap (λ z. z.const_spec i) (look q) ∙ (X u q).const_spec i t r d h0

  pub const_specs_at : {i : Bool} {u : List Token} {t : List ConstSpec} {r : List Token} {d : ℕ} → Ends s u → g.AreConstSpecs S i t u r d → (row_at (rows s) u).const_specs i ≡ Some (found t r d)
  const_specs_at {i} {u = u} {t} {r} {d} q h0 = ap (λ z. z.const_specs i) (look q) ∙ (X u q).const_specs i t r d h0

  pub type_spec_at : {u : List Token} {t : TypeSpec} {r : List Token} {d : ℕ} → Ends s u → g.IsTypeSpec S t u r d → (row_at (rows s) u).type_spec ≡ Some (found t r d)
  type_spec_at {u = u} {t} {r} {d} q h0 = ap (λ z. z.type_spec) (look q) ∙ (X u q).type_spec t r d h0

  pub type_specs_at : {u : List Token} {t : List TypeSpec} {r : List Token} {d : ℕ} → Ends s u → g.AreTypeSpecs S t u r d → (row_at (rows s) u).type_specs ≡ Some (found t r d)
  type_specs_at {u = u} {t} {r} {d} q h0 = ap (λ z. z.type_specs) (look q) ∙ (X u q).type_specs t r d h0

  pub var_spec_at : {u : List Token} {t : VarSpec} {r : List Token} {d : ℕ} → Ends s u → g.IsVarSpec S t u r d → (row_at (rows s) u).var_spec ≡ Some (found t r d)
  var_spec_at {u = u} {t} {r} {d} q h0 = ap (λ z. z.var_spec) (look q) ∙ (X u q).var_spec t r d h0

  pub var_specs_at : {u : List Token} {t : List VarSpec} {r : List Token} {d : ℕ} → Ends s u → g.AreVarSpecs S t u r d → (row_at (rows s) u).var_specs ≡ Some (found t r d)
  var_specs_at {u = u} {t} {r} {d} q h0 = ap (λ z. z.var_specs) (look q) ∙ (X u q).var_specs t r d h0

  pub decl_at : {u : List Token} {t : Decl} {r : List Token} {d : ℕ} → Ends s u → g.IsDecl S t u r d → (row_at (rows s) u).decl ≡ Some (found t r d)
  decl_at {u = u} {t} {r} {d} q h0 = ap (λ z. z.decl) (look q) ∙ (X u q).decl t r d h0

  pub values_at : {u : List Token} {t : List Expr} {r : List Token} {d : ℕ} → Ends s u → g.AreValues S t u r d → (row_at (rows s) u).values ≡ Some (found t r d)
  values_at {u = u} {t} {r} {d} q h0 = ap (λ z. z.values) (look q) ∙ (X u q).values t r d h0

  pub target_at : {u : List Token} {t : Option Token} {r : List Token} {d : ℕ} → Ends s u → g.IsTarget S t u r d → (row_at (rows s) u).target ≡ Some (found t r d)
  target_at {u = u} {t} {r} {d} q h0 = ap (λ z. z.target) (look q) ∙ (X u q).target t r d h0

  pub arms_at : {u : List Token} {t : List Arm × Option Block} {r : List Token} {d : ℕ} → Ends s u → g.AreArms S t u r d → (row_at (rows s) u).arms ≡ Some (found t r d)
  arms_at {u = u} {t} {r} {d} q h0 = ap (λ z. z.arms) (look q) ∙ (X u q).arms t r d h0

  pub arm_at : {u : List Token} {t : Arm} {r : List Token} {d : ℕ} → Ends s u → g.IsArm S t u r d → (row_at (rows s) u).arm ≡ Some (found t r d)
  arm_at {u = u} {t} {r} {d} q h0 = ap (λ z. z.arm) (look q) ∙ (X u q).arm t r d h0

  pub tag_value_at : {u : List Token} {t : Option Expr} {r : List Token} {d : ℕ} → Ends s u → g.IsTagValue S t u r d → (row_at (rows s) u).tag_value ≡ Some (found t r d)
  tag_value_at {u = u} {t} {r} {d} q h0 = ap (λ z. z.tag_value) (look q) ∙ (X u q).tag_value t r d h0

  pub guard_at : {u : List Token} {t : Option (Token × Span) × Expr × Span} {r : List Token} {d : ℕ} → Ends s u → g.IsGuard S t u r d → (row_at (rows s) u).guard ≡ Some (found t r d)
  guard_at {u = u} {t} {r} {d} q h0 = ap (λ z. z.guard) (look q) ∙ (X u q).guard t r d h0

  pub clauses_at : {u : List Token} {t : List Clause} {r : List Token} {d : ℕ} → Ends s u → g.AreClauses S t u r d → (row_at (rows s) u).clauses ≡ Some (found t r d)
  clauses_at {u = u} {t} {r} {d} q h0 = ap (λ z. z.clauses) (look q) ∙ (X u q).clauses t r d h0

  pub types_at : {u : List Token} {t : List TypeExpr} {r : List Token} {d : ℕ} → Ends s u → g.AreTypes S t u r d → (row_at (rows s) u).types ≡ Some (found t r d)
  types_at {u = u} {t} {r} {d} q h0 = ap (λ z. z.types) (look q) ∙ (X u q).types t r d h0

  pub type_clauses_at : {u : List Token} {t : List TypeClause} {r : List Token} {d : ℕ} → Ends s u → g.AreTypeClauses S t u r d → (row_at (rows s) u).type_clauses ≡ Some (found t r d)
  type_clauses_at {u = u} {t} {r} {d} q h0 = ap (λ z. z.type_clauses) (look q) ∙ (X u q).type_clauses t r d h0

  pub comm_at : {u : List Token} {t : Comm} {r : List Token} {d : ℕ} → Ends s u → g.IsComm S t u r d → (row_at (rows s) u).comm ≡ Some (found t r d)
  comm_at {u = u} {t} {r} {d} q h0 = ap (λ z. z.comm) (look q) ∙ (X u q).comm t r d h0

  pub comm_clauses_at : {u : List Token} {t : List CommClause} {r : List Token} {d : ℕ} → Ends s u → g.AreCommClauses S t u r d → (row_at (rows s) u).comm_clauses ≡ Some (found t r d)
  comm_clauses_at {u = u} {t} {r} {d} q h0 = ap (λ z. z.comm_clauses) (look q) ∙ (X u q).comm_clauses t r d h0

  pub header_at : {u : List Token} {t : Simple} {r : List Token} {d : ℕ} → Ends s u → g.IsHeader S t u r d → (row_at (rows s) u).header ≡ Some (found t r d)
  header_at {u = u} {t} {r} {d} q h0 = ap (λ z. z.header) (look q) ∙ (X u q).header t r d h0

  pub condition_at : {u : List Token} {t : Option Expr} {r : List Token} {d : ℕ} → Ends s u → g.IsCondition S t u r d → (row_at (rows s) u).condition ≡ Some (found t r d)
  condition_at {u = u} {t} {r} {d} q h0 = ap (λ z. z.condition) (look q) ∙ (X u q).condition t r d h0

  pub post_at : {u : List Token} {t : Simple} {r : List Token} {d : ℕ} → Ends s u → g.IsPost S t u r d → (row_at (rows s) u).post ≡ Some (found t r d)
  post_at {u = u} {t} {r} {d} q h0 = ap (λ z. z.post) (look q) ∙ (X u q).post t r d h0

  pub range_left_at : {u : List Token} {t : RangeLeft} {r : List Token} {d : ℕ} → Ends s u → g.IsRangeLeft S t u r d → (row_at (rows s) u).range_left ≡ Some (found t r d)
  range_left_at {u = u} {t} {r} {d} q h0 = ap (λ z. z.range_left) (look q) ∙ (X u q).range_left t r d h0

  pub stmt_at : {u : List Token} {t : Stmt} {r : List Token} {d : ℕ} → Ends s u → g.IsStmt S t u r d → (row_at (rows s) u).stmt ≡ Some (found t r d)
  stmt_at {u = u} {t} {r} {d} q h0 = ap (λ z. z.stmt) (look q) ∙ (X u q).stmt t r d h0

  pub stmts_at : {u : List Token} {t : List Stmt} {r : List Token} {d : ℕ} → Ends s u → g.AreStmts S t u r d → (row_at (rows s) u).stmts ≡ Some (found t r d)
  stmts_at {u = u} {t} {r} {d} q h0 = ap (λ z. z.stmts) (look q) ∙ (X u q).stmts t r d h0

  pub import_spec_at : {u : List Token} {t : ImportSpec} {r : List Token} {d : ℕ} → Ends s u → g.IsImportSpec S t u r d → (row_at (rows s) u).import_spec ≡ Some (found t r d)
  import_spec_at {u = u} {t} {r} {d} q h0 = ap (λ z. z.import_spec) (look q) ∙ (X u q).import_spec t r d h0

  pub import_specs_at : {u : List Token} {t : List ImportSpec} {r : List Token} {d : ℕ} → Ends s u → g.AreImportSpecs S t u r d → (row_at (rows s) u).import_specs ≡ Some (found t r d)
  import_specs_at {u = u} {t} {r} {d} q h0 = ap (λ z. z.import_specs) (look q) ∙ (X u q).import_specs t r d h0

  pub body_at : {u : List Token} {t : Option Block} {r : List Token} {d : ℕ} → Ends s u → g.IsBody S t u r d → (row_at (rows s) u).body ≡ Some (found t r d)
  body_at {u = u} {t} {r} {d} q h0 = ap (λ z. z.body) (look q) ∙ (X u q).body t r d h0

  pub top_at : {u : List Token} {t : Top} {r : List Token} {d : ℕ} → Ends s u → g.IsTop S t u r d → (row_at (rows s) u).top ≡ Some (found t r d)
  top_at {u = u} {t} {r} {d} q h0 = ap (λ z. z.top) (look q) ∙ (X u q).top t r d h0

  pub chunk_at : {u : List Token} {t : Chunk} {r : List Token} {d : ℕ} → Ends s u → g.IsChunk S t u r d → (row_at (rows s) u).chunk ≡ Some (found t r d)
  chunk_at {u = u} {t} {r} {d} q h0 = ap (λ z. z.chunk) (look q) ∙ (X u q).chunk t r d h0

  pub type_lacking : {u : List Token} → Ends s u → g.Lacks S g.Part.a_type u → (row_at (rows s) u).type ≡ None
  type_lacking {u} q e = ap (λ z. z.type) (look q) ∙ lacking-type S n F u (omega (arith, l, length-Ends q)) e

  pub named_params_lacking : (v : Bool) {u : List Token} → Ends s u → g.Lacks S (g.Part.a_named v) u → (row_at (rows s) u).named_params v ≡ None
  named_params_lacking v {u} q e = ap (λ z. z.named_params v) (look q) ∙ lacking-named_params S n F v u (omega (arith, l, length-Ends q)) e

  pub literal_lacking : {u : List Token} → Ends s u → g.Lacks S g.Part.a_literal u → (row_at (rows s) u).literal ≡ None
  literal_lacking {u} q e = ap (λ z. z.literal) (look q) ∙ lacking-literal S n F u (omega (arith, l, length-Ends q)) e

  pub selected_lacking : {u : List Token} → Ends s u → g.Lacks S g.Part.a_selected u → (row_at (rows s) u).selected ≡ None
  selected_lacking {u} q e = ap (λ z. z.selected) (look q) ∙ lacking-selected S n F u (omega (arith, l, length-Ends q)) e

  pub block_lacking : {u : List Token} → Ends s u → g.Lacks S g.Part.a_block u → (row_at (rows s) u).block ≡ None
  block_lacking {u} q e = ap (λ z. z.block) (look q) ∙ lacking-block S n F u (omega (arith, l, length-Ends q)) e

  pub received_lacking : {u : List Token} → Ends s u → g.Lacks S g.Part.a_received u → (row_at (rows s) u).received ≡ None
  received_lacking {u} q e = ap (λ z. z.received) (look q) ∙ lacking-received S n F u (omega (arith, l, length-Ends q)) e

  pub suffix_lacking : {u : List Token} → Ends s u → g.Lacks S g.Part.a_suffix u → (row_at (rows s) u).suffix ≡ None
  suffix_lacking {u} q e = ap (λ z. z.suffix) (look q) ∙ lacking-suffix S n F u (omega (arith, l, length-Ends q)) e

  pub operand_lacking : (m : ℕ) (h : Bool) {u : List Token} → Ends s u → g.Lacks S (g.Part.an_operand m h) u → (row_at (rows s) u).operand m h ≡ None
  operand_lacking m h {u} q e = ap (λ z. z.operand m h) (look q) ∙ lacking-operand S n F m h u (omega (arith, l, length-Ends q)) e

  pub guard_lacking : {u : List Token} → Ends s u → g.Lacks S g.Part.a_guard u → (row_at (rows s) u).guard ≡ None
  guard_lacking {u} q e = ap (λ z. z.guard) (look q) ∙ lacking-guard S n F u (omega (arith, l, length-Ends q)) e

  pub header_lacking : {u : List Token} → Ends s u → g.Lacks S g.Part.a_header u → (row_at (rows s) u).header ≡ None
  header_lacking {u} q e = ap (λ z. z.header) (look q) ∙ lacking-header S n F u (omega (arith, l, length-Ends q)) e

  pub range_left_lacking : {u : List Token} → Ends s u → g.Lacks S g.Part.a_range u → (row_at (rows s) u).range_left ≡ None
  range_left_lacking {u} q e = ap (λ z. z.range_left) (look q) ∙ lacking-range_left S n F u (omega (arith, l, length-Ends q)) e
