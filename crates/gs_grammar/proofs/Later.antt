-- Soundness at later places.
use Rattle.std.proofs.Common.{◌≡◌, ℕ, suc, ◌≤◌, Bool, List, length, sym, ap, ◌∙◌, arith, Option, Some, None}
use Rattle.gs_syntax.specs.declared.token.Span.{Span}
use Rattle.gs_syntax.specs.declared.token.Token.{Token}
use Rattle.gs_grammar.specs.declared.trees.Chunk.{Chunk}
use Rattle.gs_grammar.specs.declared.trees.ImportSpec.{ImportSpec}
use Rattle.gs_grammar.specs.declared.trees.Top.{Top}
use Rattle.gs_grammar.specs.declared.trees.Decl.{Decl}
use Rattle.gs_grammar.specs.declared.trees.ConstSpec.{ConstSpec}
use Rattle.gs_grammar.specs.declared.trees.TypeSpec.{TypeSpec}
use Rattle.gs_grammar.specs.declared.trees.VarSpec.{VarSpec}
use Rattle.gs_grammar.specs.declared.trees.TypeExpr.{TypeExpr}
use Rattle.gs_grammar.specs.declared.trees.Signature.{Signature}
use Rattle.gs_grammar.specs.declared.trees.Parameters.{Parameters}
use Rattle.gs_grammar.specs.declared.trees.Parameter.{Parameter}
use Rattle.gs_grammar.specs.declared.trees.Field.{Field}
use Rattle.gs_grammar.specs.declared.trees.Member.{Member}
use Rattle.gs_grammar.specs.declared.trees.Expr.{Expr}
use Rattle.gs_grammar.specs.declared.trees.Suffix.{Suffix}
use Rattle.gs_grammar.specs.declared.trees.LiteralValue.{LiteralValue}
use Rattle.gs_grammar.specs.declared.trees.Element.{Element}
use Rattle.gs_grammar.specs.declared.trees.ElementValue.{ElementValue}
use Rattle.gs_grammar.specs.declared.trees.Block.{Block}
use Rattle.gs_grammar.specs.declared.trees.Stmt.{Stmt}
use Rattle.gs_grammar.specs.declared.trees.Simple.{Simple}
use Rattle.gs_grammar.specs.declared.trees.Arm.{Arm}
use Rattle.gs_grammar.specs.declared.trees.Clause.{Clause}
use Rattle.gs_grammar.specs.declared.trees.TypeClause.{TypeClause}
use Rattle.gs_grammar.specs.declared.trees.CommClause.{CommClause}
use Rattle.gs_grammar.specs.declared.trees.Comm.{Comm}
use Rattle.gs_grammar.specs.declared.trees.RangeLeft.{RangeLeft}
use Rattle.gs_grammar.specs.Grammar as g
use Rattle.gs_grammar.specs.Parts.{Found}
use Rattle.gs_grammar.specs.Row.{Row}
use Rattle.gs_grammar.specs.Reference.{row_at, rows}
use Rattle.gs_grammar.proofs.Common.{Ends, length-Ends}
use Rattle.gs_grammar.proofs.Rows.{look}
use Rattle.gs_grammar.proofs.Fits.{Fits, AllSound, idents-at, type_name-at, type-at, unnamed-at, named_params-at, params-at, signature-at, tag-at, field-at, fields-at, member-at, members-at, literal-at, selected-at, block-at, received-at, head-at, bound-at, args-at, suffix-at, suffixes-at, primary-at, unary-at, expr-at, operand-at, operands-at, value-at, element-at, elements-at, exprs-at, simple-at, const_spec-at, const_specs-at, type_spec-at, type_specs-at, var_spec-at, var_specs-at, decl-at, values-at, target-at, arms-at, arm-at, tag_value-at, guard-at, clauses-at, types-at, type_clauses-at, comm-at, comm_clauses-at, header-at, condition-at, post-at, range_left-at, stmt-at, stmts-at, import_spec-at, import_specs-at, body-at, top-at, chunk-at, absent-type, absent-named_params, absent-literal, absent-selected, absent-block, absent-received, absent-suffix, absent-operand, absent-guard, absent-header, absent-range_left}

module _ (S : g.Part → List Token → List Token → Type 0) (n : ℕ) (F : Fits S n) (s : List Token) (l : suc (length s) ≤ n) (H : AllSound S n s) where
  abbrev at : List Token → Row
  at = row_at (rows s)

  pub idents_of : {r : List Token} (f : Found (List Token)) → Ends s r → (at r).idents ≡ Some f → idents-at S r f
  idents_of {r} f q e = (H r q).idents f (ap (λ z. z.idents) (sym (look q)) ∙ e)

  pub type_name_of : {r : List Token} (f : Found TypeExpr) → Ends s r → (at r).type_name ≡ Some f → type_name-at S r f
  type_name_of {r} f q e = (H r q).type_name f (ap (λ z. z.type_name) (sym (look q)) ∙ e)

  pub type_of : {r : List Token} (f : Found TypeExpr) → Ends s r → (at r).type ≡ Some f → type-at S r f
  type_of {r} f q e = (H r q).type f (ap (λ z. z.type) (sym (look q)) ∙ e)

  pub unnamed_of : (v : Bool) {r : List Token} (f : Found (List Parameter)) → Ends s r → (at r).unnamed v ≡ Some f → unnamed-at S v r f
  unnamed_of v {r} f q e = (H r q).unnamed v f (ap (λ z. z.unnamed v) (sym (look q)) ∙ e)

  pub named_params_of : (v : Bool) {r : List Token} (f : Found (List Parameter)) → Ends s r → (at r).named_params v ≡ Some f → named_params-at S v r f
  named_params_of v {r} f q e = (H r q).named_params v f (ap (λ z. z.named_params v) (sym (look q)) ∙ e)

  pub params_of : (v : Bool) {r : List Token} (f : Found Parameters) → Ends s r → (at r).params v ≡ Some f → params-at S v r f
  params_of v {r} f q e = (H r q).params v f (ap (λ z. z.params v) (sym (look q)) ∙ e)

  pub signature_of : {r : List Token} (f : Found Signature) → Ends s r → (at r).signature ≡ Some f → signature-at S r f
  signature_of {r} f q e = (H r q).signature f (ap (λ z. z.signature) (sym (look q)) ∙ e)

  pub tag_of : {r : List Token} (f : Found (Option Token)) → Ends s r → (at r).tag ≡ Some f → tag-at S r f
  tag_of {r} f q e = (H r q).tag f (ap (λ z. z.tag) (sym (look q)) ∙ e)

  pub field_of : {r : List Token} (f : Found Field) → Ends s r → (at r).field ≡ Some f → field-at S r f
  field_of {r} f q e = (H r q).field f (ap (λ z. z.field) (sym (look q)) ∙ e)

  pub fields_of : {r : List Token} (f : Found (List Field)) → Ends s r → (at r).fields ≡ Some f → fields-at S r f
  fields_of {r} f q e = (H r q).fields f (ap (λ z. z.fields) (sym (look q)) ∙ e)

  pub member_of : {r : List Token} (f : Found Member) → Ends s r → (at r).member ≡ Some f → member-at S r f
  member_of {r} f q e = (H r q).member f (ap (λ z. z.member) (sym (look q)) ∙ e)

  pub members_of : {r : List Token} (f : Found (List Member)) → Ends s r → (at r).members ≡ Some f → members-at S r f
  members_of {r} f q e = (H r q).members f (ap (λ z. z.members) (sym (look q)) ∙ e)

  pub literal_of : {r : List Token} (f : Found LiteralValue) → Ends s r → (at r).literal ≡ Some f → literal-at S r f
  literal_of {r} f q e = (H r q).literal f (ap (λ z. z.literal) (sym (look q)) ∙ e)

  pub selected_of : {r : List Token} (f : Found (Token × LiteralValue)) → Ends s r → (at r).selected ≡ Some f → selected-at S r f
  selected_of {r} f q e = (H r q).selected f (ap (λ z. z.selected) (sym (look q)) ∙ e)

  pub block_of : {r : List Token} (f : Found Block) → Ends s r → (at r).block ≡ Some f → block-at S r f
  block_of {r} f q e = (H r q).block f (ap (λ z. z.block) (sym (look q)) ∙ e)

  pub received_of : {r : List Token} (f : Found TypeExpr) → Ends s r → (at r).received ≡ Some f → received-at S r f
  received_of {r} f q e = (H r q).received f (ap (λ z. z.received) (sym (look q)) ∙ e)

  pub head_of : (h : Bool) {r : List Token} (f : Found Expr) → Ends s r → (at r).head h ≡ Some f → head-at S h r f
  head_of h {r} f q e = (H r q).head h f (ap (λ z. z.head h) (sym (look q)) ∙ e)

  pub bound_of : {r : List Token} (f : Found (Option Expr)) → Ends s r → (at r).bound ≡ Some f → bound-at S r f
  bound_of {r} f q e = (H r q).bound f (ap (λ z. z.bound) (sym (look q)) ∙ e)

  pub args_of : {r : List Token} (f : Found (List Expr × Option Span)) → Ends s r → (at r).args ≡ Some f → args-at S r f
  args_of {r} f q e = (H r q).args f (ap (λ z. z.args) (sym (look q)) ∙ e)

  pub suffix_of : {r : List Token} (f : Found Suffix) → Ends s r → (at r).suffix ≡ Some f → suffix-at S r f
  suffix_of {r} f q e = (H r q).suffix f (ap (λ z. z.suffix) (sym (look q)) ∙ e)

  pub suffixes_of : {r : List Token} (f : Found (List Suffix)) → Ends s r → (at r).suffixes ≡ Some f → suffixes-at S r f
  suffixes_of {r} f q e = (H r q).suffixes (omega (arith, l, length-Ends q)) f (ap (λ z. z.suffixes) (sym (look q)) ∙ e)

  pub primary_of : (h : Bool) {r : List Token} (f : Found Expr) → Ends s r → (at r).primary h ≡ Some f → primary-at S h r f
  primary_of h {r} f q e = (H r q).primary h f (ap (λ z. z.primary h) (sym (look q)) ∙ e)

  pub unary_of : (h : Bool) (w : Bool) {r : List Token} (f : Found Expr) → Ends s r → (at r).unary h w ≡ Some f → unary-at S h w r f
  unary_of h w {r} f q e = (H r q).unary h w f (ap (λ z. z.unary h w) (sym (look q)) ∙ e)

  pub expr_of : (m : ℕ) (h : Bool) (w : Bool) {r : List Token} (f : Found Expr) → Ends s r → (at r).expr m h w ≡ Some f → expr-at S m h w r f
  expr_of m h w {r} f q e = (H r q).expr m h w f (ap (λ z. z.expr m h w) (sym (look q)) ∙ e)

  pub operand_of : (m : ℕ) (h : Bool) {r : List Token} (f : Found (Token × Expr)) → Ends s r → (at r).operand m h ≡ Some f → operand-at S m h r f
  operand_of m h {r} f q e = (H r q).operand m h f (ap (λ z. z.operand m h) (sym (look q)) ∙ e)

  pub operands_of : (m : ℕ) (h : Bool) {r : List Token} (f : Found (List (Token × Expr))) → Ends s r → (at r).operands m h ≡ Some f → operands-at S m h r f
  operands_of m h {r} f q e = (H r q).operands m h (omega (arith, l, length-Ends q)) f (ap (λ z. z.operands m h) (sym (look q)) ∙ e)

  pub value_of : {r : List Token} (f : Found ElementValue) → Ends s r → (at r).value ≡ Some f → value-at S r f
  value_of {r} f q e = (H r q).value f (ap (λ z. z.value) (sym (look q)) ∙ e)

  pub element_of : {r : List Token} (f : Found Element) → Ends s r → (at r).element ≡ Some f → element-at S r f
  element_of {r} f q e = (H r q).element f (ap (λ z. z.element) (sym (look q)) ∙ e)

  pub elements_of : {r : List Token} (f : Found (List Element)) → Ends s r → (at r).elements ≡ Some f → elements-at S r f
  elements_of {r} f q e = (H r q).elements f (ap (λ z. z.elements) (sym (look q)) ∙ e)

  pub exprs_of : (h : Bool) {r : List Token} (f : Found (List Expr)) → Ends s r → (at r).exprs h ≡ Some f → exprs-at S h r f
  exprs_of h {r} f q e = (H r q).exprs h f (ap (λ z. z.exprs h) (sym (look q)) ∙ e)

  pub simple_of : (h : Bool) {r : List Token} (f : Found Simple) → Ends s r → (at r).simple h ≡ Some f → simple-at S h r f
  simple_of h {r} f q e = (H r q).simple h f (ap (λ z. z.simple h) (sym (look q)) ∙ e)

  pub const_spec_of : (i : Bool) {r : List Token} (f : Found ConstSpec) → Ends s r → (at r).const_spec i ≡ Some f → const_spec-at S i r f
  const_spec_of i {r} f q e = (H r q).const_spec i f (ap (λ z. z.const_spec i) (sym (look q)) ∙ e)

  pub const_specs_of : (i : Bool) {r : List Token} (f : Found (List ConstSpec)) → Ends s r → (at r).const_specs i ≡ Some f → const_specs-at S i r f
  const_specs_of i {r} f q e = (H r q).const_specs i f (ap (λ z. z.const_specs i) (sym (look q)) ∙ e)

  pub type_spec_of : {r : List Token} (f : Found TypeSpec) → Ends s r → (at r).type_spec ≡ Some f → type_spec-at S r f
  type_spec_of {r} f q e = (H r q).type_spec f (ap (λ z. z.type_spec) (sym (look q)) ∙ e)

  pub type_specs_of : {r : List Token} (f : Found (List TypeSpec)) → Ends s r → (at r).type_specs ≡ Some f → type_specs-at S r f
  type_specs_of {r} f q e = (H r q).type_specs f (ap (λ z. z.type_specs) (sym (look q)) ∙ e)

  pub var_spec_of : {r : List Token} (f : Found VarSpec) → Ends s r → (at r).var_spec ≡ Some f → var_spec-at S r f
  var_spec_of {r} f q e = (H r q).var_spec f (ap (λ z. z.var_spec) (sym (look q)) ∙ e)

  pub var_specs_of : {r : List Token} (f : Found (List VarSpec)) → Ends s r → (at r).var_specs ≡ Some f → var_specs-at S r f
  var_specs_of {r} f q e = (H r q).var_specs f (ap (λ z. z.var_specs) (sym (look q)) ∙ e)

  pub decl_of : {r : List Token} (f : Found Decl) → Ends s r → (at r).decl ≡ Some f → decl-at S r f
  decl_of {r} f q e = (H r q).decl f (ap (λ z. z.decl) (sym (look q)) ∙ e)

  pub values_of : {r : List Token} (f : Found (List Expr)) → Ends s r → (at r).values ≡ Some f → values-at S r f
  values_of {r} f q e = (H r q).values f (ap (λ z. z.values) (sym (look q)) ∙ e)

  pub target_of : {r : List Token} (f : Found (Option Token)) → Ends s r → (at r).target ≡ Some f → target-at S r f
  target_of {r} f q e = (H r q).target f (ap (λ z. z.target) (sym (look q)) ∙ e)

  pub arms_of : {r : List Token} (f : Found (List Arm × Option Block)) → Ends s r → (at r).arms ≡ Some f → arms-at S r f
  arms_of {r} f q e = (H r q).arms f (ap (λ z. z.arms) (sym (look q)) ∙ e)

  pub arm_of : {r : List Token} (f : Found Arm) → Ends s r → (at r).arm ≡ Some f → arm-at S r f
  arm_of {r} f q e = (H r q).arm f (ap (λ z. z.arm) (sym (look q)) ∙ e)

  pub tag_value_of : {r : List Token} (f : Found (Option Expr)) → Ends s r → (at r).tag_value ≡ Some f → tag_value-at S r f
  tag_value_of {r} f q e = (H r q).tag_value f (ap (λ z. z.tag_value) (sym (look q)) ∙ e)

  pub guard_of : {r : List Token} (f : Found (Option (Token × Span) × Expr × Span)) → Ends s r → (at r).guard ≡ Some f → guard-at S r f
  guard_of {r} f q e = (H r q).guard f (ap (λ z. z.guard) (sym (look q)) ∙ e)

  pub clauses_of : {r : List Token} (f : Found (List Clause)) → Ends s r → (at r).clauses ≡ Some f → clauses-at S r f
  clauses_of {r} f q e = (H r q).clauses f (ap (λ z. z.clauses) (sym (look q)) ∙ e)

  pub types_of : {r : List Token} (f : Found (List TypeExpr)) → Ends s r → (at r).types ≡ Some f → types-at S r f
  types_of {r} f q e = (H r q).types f (ap (λ z. z.types) (sym (look q)) ∙ e)

  pub type_clauses_of : {r : List Token} (f : Found (List TypeClause)) → Ends s r → (at r).type_clauses ≡ Some f → type_clauses-at S r f
  type_clauses_of {r} f q e = (H r q).type_clauses f (ap (λ z. z.type_clauses) (sym (look q)) ∙ e)

  pub comm_of : {r : List Token} (f : Found Comm) → Ends s r → (at r).comm ≡ Some f → comm-at S r f
  comm_of {r} f q e = (H r q).comm f (ap (λ z. z.comm) (sym (look q)) ∙ e)

  pub comm_clauses_of : {r : List Token} (f : Found (List CommClause)) → Ends s r → (at r).comm_clauses ≡ Some f → comm_clauses-at S r f
  comm_clauses_of {r} f q e = (H r q).comm_clauses f (ap (λ z. z.comm_clauses) (sym (look q)) ∙ e)

  pub header_of : {r : List Token} (f : Found Simple) → Ends s r → (at r).header ≡ Some f → header-at S r f
  header_of {r} f q e = (H r q).header f (ap (λ z. z.header) (sym (look q)) ∙ e)

  pub condition_of : {r : List Token} (f : Found (Option Expr)) → Ends s r → (at r).condition ≡ Some f → condition-at S r f
  condition_of {r} f q e = (H r q).condition f (ap (λ z. z.condition) (sym (look q)) ∙ e)

  pub post_of : {r : List Token} (f : Found Simple) → Ends s r → (at r).post ≡ Some f → post-at S r f
  post_of {r} f q e = (H r q).post f (ap (λ z. z.post) (sym (look q)) ∙ e)

  pub range_left_of : {r : List Token} (f : Found RangeLeft) → Ends s r → (at r).range_left ≡ Some f → range_left-at S r f
  range_left_of {r} f q e = (H r q).range_left f (ap (λ z. z.range_left) (sym (look q)) ∙ e)

  pub stmt_of : {r : List Token} (f : Found Stmt) → Ends s r → (at r).stmt ≡ Some f → stmt-at S r f
  stmt_of {r} f q e = (H r q).stmt f (ap (λ z. z.stmt) (sym (look q)) ∙ e)

  pub stmts_of : {r : List Token} (f : Found (List Stmt)) → Ends s r → (at r).stmts ≡ Some f → stmts-at S r f
  stmts_of {r} f q e = (H r q).stmts f (ap (λ z. z.stmts) (sym (look q)) ∙ e)

  pub import_spec_of : {r : List Token} (f : Found ImportSpec) → Ends s r → (at r).import_spec ≡ Some f → import_spec-at S r f
  import_spec_of {r} f q e = (H r q).import_spec f (ap (λ z. z.import_spec) (sym (look q)) ∙ e)

  pub import_specs_of : {r : List Token} (f : Found (List ImportSpec)) → Ends s r → (at r).import_specs ≡ Some f → import_specs-at S r f
  import_specs_of {r} f q e = (H r q).import_specs f (ap (λ z. z.import_specs) (sym (look q)) ∙ e)

  pub body_of : {r : List Token} (f : Found (Option Block)) → Ends s r → (at r).body ≡ Some f → body-at S r f
  body_of {r} f q e = (H r q).body f (ap (λ z. z.body) (sym (look q)) ∙ e)

  pub top_of : {r : List Token} (f : Found Top) → Ends s r → (at r).top ≡ Some f → top-at S r f
  top_of {r} f q e = (H r q).top f (ap (λ z. z.top) (sym (look q)) ∙ e)

  pub chunk_of : {r : List Token} (f : Found Chunk) → Ends s r → (at r).chunk ≡ Some f → chunk-at S r f
  chunk_of {r} f q e = (H r q).chunk f (ap (λ z. z.chunk) (sym (look q)) ∙ e)

  pub type_absent : {r : List Token} → Ends s r → (at r).type ≡ None → g.Lacks S g.Part.a_type r
  type_absent {r} q e = absent-type S n F r (omega (arith, l, length-Ends q)) (ap (λ z. z.type) (sym (look q)) ∙ e)

  pub named_params_absent : (v : Bool) {r : List Token} → Ends s r → (at r).named_params v ≡ None → g.Lacks S (g.Part.a_named v) r
  named_params_absent v {r} q e = absent-named_params S n F v r (omega (arith, l, length-Ends q)) (ap (λ z. z.named_params v) (sym (look q)) ∙ e)

  pub literal_absent : {r : List Token} → Ends s r → (at r).literal ≡ None → g.Lacks S g.Part.a_literal r
  literal_absent {r} q e = absent-literal S n F r (omega (arith, l, length-Ends q)) (ap (λ z. z.literal) (sym (look q)) ∙ e)

  pub selected_absent : {r : List Token} → Ends s r → (at r).selected ≡ None → g.Lacks S g.Part.a_selected r
  selected_absent {r} q e = absent-selected S n F r (omega (arith, l, length-Ends q)) (ap (λ z. z.selected) (sym (look q)) ∙ e)

  pub block_absent : {r : List Token} → Ends s r → (at r).block ≡ None → g.Lacks S g.Part.a_block r
  block_absent {r} q e = absent-block S n F r (omega (arith, l, length-Ends q)) (ap (λ z. z.block) (sym (look q)) ∙ e)

  pub received_absent : {r : List Token} → Ends s r → (at r).received ≡ None → g.Lacks S g.Part.a_received r
  received_absent {r} q e = absent-received S n F r (omega (arith, l, length-Ends q)) (ap (λ z. z.received) (sym (look q)) ∙ e)

  pub suffix_absent : {r : List Token} → Ends s r → (at r).suffix ≡ None → g.Lacks S g.Part.a_suffix r
  suffix_absent {r} q e = absent-suffix S n F r (omega (arith, l, length-Ends q)) (ap (λ z. z.suffix) (sym (look q)) ∙ e)

  pub operand_absent : (m : ℕ) (h : Bool) {r : List Token} → Ends s r → (at r).operand m h ≡ None → g.Lacks S (g.Part.an_operand m h) r
  operand_absent m h {r} q e = absent-operand S n F m h r (omega (arith, l, length-Ends q)) (ap (λ z. z.operand m h) (sym (look q)) ∙ e)

  pub guard_absent : {r : List Token} → Ends s r → (at r).guard ≡ None → g.Lacks S g.Part.a_guard r
  guard_absent {r} q e = absent-guard S n F r (omega (arith, l, length-Ends q)) (ap (λ z. z.guard) (sym (look q)) ∙ e)

  pub header_absent : {r : List Token} → Ends s r → (at r).header ≡ None → g.Lacks S g.Part.a_header r
  header_absent {r} q e = absent-header S n F r (omega (arith, l, length-Ends q)) (ap (λ z. z.header) (sym (look q)) ∙ e)

  pub range_left_absent : {r : List Token} → Ends s r → (at r).range_left ≡ None → g.Lacks S g.Part.a_range r
  range_left_absent {r} q e = absent-range_left S n F r (omega (arith, l, length-Ends q)) (ap (λ z. z.range_left) (sym (look q)) ∙ e)
