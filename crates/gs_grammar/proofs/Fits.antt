-- What the proofs suppose of later places.
use Rattle.std.proofs.Common.{◌≡◌, ℕ, ◌<◌, Bool, List, length, refl, sym, ◌∙◌, Option, Some, None}
use Rattle.gs_syntax.specs.declared.token.Span.{Span}
use Rattle.gs_syntax.specs.declared.token.Token.{Token}
use Rattle.gs_grammar.specs.declared.trees.Chunk.{Chunk}
use Rattle.gs_grammar.specs.declared.trees.ImportSpec.{ImportSpec}
use Rattle.gs_grammar.specs.declared.trees.Top.{Top}
use Rattle.gs_grammar.specs.declared.trees.Decl.{Decl}
use Rattle.gs_grammar.specs.declared.trees.ConstSpec.{ConstSpec}
use Rattle.gs_grammar.specs.declared.trees.TypeSpec.{TypeSpec}
use Rattle.gs_grammar.specs.declared.trees.VarSpec.{VarSpec}
use Rattle.gs_grammar.specs.declared.trees.TypeExpr.{TypeExpr}
use Rattle.gs_grammar.specs.declared.trees.Signature.{Signature}
use Rattle.gs_grammar.specs.declared.trees.Parameters.{Parameters}
use Rattle.gs_grammar.specs.declared.trees.Parameter.{Parameter}
use Rattle.gs_grammar.specs.declared.trees.Field.{Field}
use Rattle.gs_grammar.specs.declared.trees.Member.{Member}
use Rattle.gs_grammar.specs.declared.trees.Expr.{Expr}
use Rattle.gs_grammar.specs.declared.trees.Suffix.{Suffix}
use Rattle.gs_grammar.specs.declared.trees.LiteralValue.{LiteralValue}
use Rattle.gs_grammar.specs.declared.trees.Element.{Element}
use Rattle.gs_grammar.specs.declared.trees.ElementValue.{ElementValue}
use Rattle.gs_grammar.specs.declared.trees.Block.{Block}
use Rattle.gs_grammar.specs.declared.trees.Stmt.{Stmt}
use Rattle.gs_grammar.specs.declared.trees.Simple.{Simple}
use Rattle.gs_grammar.specs.declared.trees.Arm.{Arm}
use Rattle.gs_grammar.specs.declared.trees.Clause.{Clause}
use Rattle.gs_grammar.specs.declared.trees.TypeClause.{TypeClause}
use Rattle.gs_grammar.specs.declared.trees.CommClause.{CommClause}
use Rattle.gs_grammar.specs.declared.trees.Comm.{Comm}
use Rattle.gs_grammar.specs.declared.trees.RangeLeft.{RangeLeft}
use Rattle.gs_grammar.specs.Grammar as g
use Rattle.gs_grammar.specs.Parts.{Found, found}
use Rattle.gs_grammar.specs.Reference.{row}
use Rattle.gs_grammar.proofs.Common.{Ends, some_is_none}

-- a row's part ends at u
pub record Shown {A : Type 0} (o : Option (Found A)) (u : List Token) : Type 0 where
  pub tree : A
  pub depth : ℕ
  pub is : o ≡ Some (found tree u depth)

-- What is asked of a place with fewer than n tokens is what its row says.
pub record Fits (S : g.Part → List Token → List Token → Type 0) (n : ℕ) : Type 0 where
  pub shows_type : (r u : List Token) → length r < n → S g.Part.a_type r u → Shown ((row r).type) u
  pub has_type : (r : List Token) (f : Found TypeExpr) → length r < n → (row r).type ≡ Some f → S g.Part.a_type r f.rest
  pub shows_named_params : (v : Bool) (r u : List Token) → length r < n → S (g.Part.a_named v) r u → Shown ((row r).named_params v) u
  pub has_named_params : (v : Bool) (r : List Token) (f : Found (List Parameter)) → length r < n → (row r).named_params v ≡ Some f → S (g.Part.a_named v) r f.rest
  pub shows_literal : (r u : List Token) → length r < n → S g.Part.a_literal r u → Shown ((row r).literal) u
  pub has_literal : (r : List Token) (f : Found LiteralValue) → length r < n → (row r).literal ≡ Some f → S g.Part.a_literal r f.rest
  pub shows_selected : (r u : List Token) → length r < n → S g.Part.a_selected r u → Shown ((row r).selected) u
  pub has_selected : (r : List Token) (f : Found (Token × LiteralValue)) → length r < n → (row r).selected ≡ Some f → S g.Part.a_selected r f.rest
  pub shows_block : (r u : List Token) → length r < n → S g.Part.a_block r u → Shown ((row r).block) u
  pub has_block : (r : List Token) (f : Found Block) → length r < n → (row r).block ≡ Some f → S g.Part.a_block r f.rest
  pub shows_received : (r u : List Token) → length r < n → S g.Part.a_received r u → Shown ((row r).received) u
  pub has_received : (r : List Token) (f : Found TypeExpr) → length r < n → (row r).received ≡ Some f → S g.Part.a_received r f.rest
  pub shows_suffix : (r u : List Token) → length r < n → S g.Part.a_suffix r u → Shown ((row r).suffix) u
  pub has_suffix : (r : List Token) (f : Found Suffix) → length r < n → (row r).suffix ≡ Some f → S g.Part.a_suffix r f.rest
  pub shows_operand : (m : ℕ) (h : Bool) (r u : List Token) → length r < n → S (g.Part.an_operand m h) r u → Shown ((row r).operand m h) u
  pub has_operand : (m : ℕ) (h : Bool) (r : List Token) (f : Found (Token × Expr)) → length r < n → (row r).operand m h ≡ Some f → S (g.Part.an_operand m h) r f.rest
  pub shows_guard : (r u : List Token) → length r < n → S g.Part.a_guard r u → Shown ((row r).guard) u
  pub has_guard : (r : List Token) (f : Found (Option (Token × Span) × Expr × Span)) → length r < n → (row r).guard ≡ Some f → S g.Part.a_guard r f.rest
  pub shows_header : (r u : List Token) → length r < n → S g.Part.a_header r u → Shown ((row r).header) u
  pub has_header : (r : List Token) (f : Found Simple) → length r < n → (row r).header ≡ Some f → S g.Part.a_header r f.rest
  pub shows_range_left : (r u : List Token) → length r < n → S g.Part.a_range r u → Shown ((row r).range_left) u
  pub has_range_left : (r : List Token) (f : Found RangeLeft) → length r < n → (row r).range_left ≡ Some f → S g.Part.a_range r f.rest

module _ (S : g.Part → List Token → List Token → Type 0) (n : ℕ) (F : Fits S n) where
  pub absent-type : (r : List Token) → length r < n → (row r).type ≡ None → g.Lacks S g.Part.a_type r
  absent-type r l e u p = let h = F.shows_type r u l p in some_is_none (sym e ∙ h.is)

  pub lacking-type : (r : List Token) → length r < n → g.Lacks S g.Part.a_type r → (row r).type ≡ None
  lacking-type r l k = by (row r).type refl
    where
      by : (o : Option (Found TypeExpr)) → (row r).type ≡ o → (row r).type ≡ None
      by None e = e
      by (Some f) e = absurd (k f.rest (F.has_type r f l e))

  pub absent-named_params : (v : Bool) (r : List Token) → length r < n → (row r).named_params v ≡ None → g.Lacks S (g.Part.a_named v) r
  absent-named_params v r l e u p = let h = F.shows_named_params v r u l p in some_is_none (sym e ∙ h.is)

  pub lacking-named_params : (v : Bool) (r : List Token) → length r < n → g.Lacks S (g.Part.a_named v) r → (row r).named_params v ≡ None
  lacking-named_params v r l k = by ((row r).named_params v) refl
    where
      by : (o : Option (Found (List Parameter))) → (row r).named_params v ≡ o → (row r).named_params v ≡ None
      by None e = e
      by (Some f) e = absurd (k f.rest (F.has_named_params v r f l e))

  pub absent-literal : (r : List Token) → length r < n → (row r).literal ≡ None → g.Lacks S g.Part.a_literal r
  absent-literal r l e u p = let h = F.shows_literal r u l p in some_is_none (sym e ∙ h.is)

  pub lacking-literal : (r : List Token) → length r < n → g.Lacks S g.Part.a_literal r → (row r).literal ≡ None
  lacking-literal r l k = by (row r).literal refl
    where
      by : (o : Option (Found LiteralValue)) → (row r).literal ≡ o → (row r).literal ≡ None
      by None e = e
      by (Some f) e = absurd (k f.rest (F.has_literal r f l e))

  pub absent-selected : (r : List Token) → length r < n → (row r).selected ≡ None → g.Lacks S g.Part.a_selected r
  absent-selected r l e u p = let h = F.shows_selected r u l p in some_is_none (sym e ∙ h.is)

  pub lacking-selected : (r : List Token) → length r < n → g.Lacks S g.Part.a_selected r → (row r).selected ≡ None
  lacking-selected r l k = by (row r).selected refl
    where
      by : (o : Option (Found (Token × LiteralValue))) → (row r).selected ≡ o → (row r).selected ≡ None
      by None e = e
      by (Some f) e = absurd (k f.rest (F.has_selected r f l e))

  pub absent-block : (r : List Token) → length r < n → (row r).block ≡ None → g.Lacks S g.Part.a_block r
  absent-block r l e u p = let h = F.shows_block r u l p in some_is_none (sym e ∙ h.is)

  pub lacking-block : (r : List Token) → length r < n → g.Lacks S g.Part.a_block r → (row r).block ≡ None
  lacking-block r l k = by (row r).block refl
    where
      by : (o : Option (Found Block)) → (row r).block ≡ o → (row r).block ≡ None
      by None e = e
      by (Some f) e = absurd (k f.rest (F.has_block r f l e))

  pub absent-received : (r : List Token) → length r < n → (row r).received ≡ None → g.Lacks S g.Part.a_received r
  absent-received r l e u p = let h = F.shows_received r u l p in some_is_none (sym e ∙ h.is)

  pub lacking-received : (r : List Token) → length r < n → g.Lacks S g.Part.a_received r → (row r).received ≡ None
  lacking-received r l k = by (row r).received refl
    where
      by : (o : Option (Found TypeExpr)) → (row r).received ≡ o → (row r).received ≡ None
      by None e = e
      by (Some f) e = absurd (k f.rest (F.has_received r f l e))

  pub absent-suffix : (r : List Token) → length r < n → (row r).suffix ≡ None → g.Lacks S g.Part.a_suffix r
  absent-suffix r l e u p = let h = F.shows_suffix r u l p in some_is_none (sym e ∙ h.is)

  pub lacking-suffix : (r : List Token) → length r < n → g.Lacks S g.Part.a_suffix r → (row r).suffix ≡ None
  lacking-suffix r l k = by (row r).suffix refl
    where
      by : (o : Option (Found Suffix)) → (row r).suffix ≡ o → (row r).suffix ≡ None
      by None e = e
      by (Some f) e = absurd (k f.rest (F.has_suffix r f l e))

  pub absent-operand : (m : ℕ) (h : Bool) (r : List Token) → length r < n → (row r).operand m h ≡ None → g.Lacks S (g.Part.an_operand m h) r
  absent-operand m h r l e u p = let h = F.shows_operand m h r u l p in some_is_none (sym e ∙ h.is)

  pub lacking-operand : (m : ℕ) (h : Bool) (r : List Token) → length r < n → g.Lacks S (g.Part.an_operand m h) r → (row r).operand m h ≡ None
  lacking-operand m h r l k = by ((row r).operand m h) refl
    where
      by : (o : Option (Found (Token × Expr))) → (row r).operand m h ≡ o → (row r).operand m h ≡ None
      by None e = e
      by (Some f) e = absurd (k f.rest (F.has_operand m h r f l e))

  pub absent-guard : (r : List Token) → length r < n → (row r).guard ≡ None → g.Lacks S g.Part.a_guard r
  absent-guard r l e u p = let h = F.shows_guard r u l p in some_is_none (sym e ∙ h.is)

  pub lacking-guard : (r : List Token) → length r < n → g.Lacks S g.Part.a_guard r → (row r).guard ≡ None
  lacking-guard r l k = by (row r).guard refl
    where
      by : (o : Option (Found (Option (Token × Span) × Expr × Span))) → (row r).guard ≡ o → (row r).guard ≡ None
      by None e = e
      by (Some f) e = absurd (k f.rest (F.has_guard r f l e))

  pub absent-header : (r : List Token) → length r < n → (row r).header ≡ None → g.Lacks S g.Part.a_header r
  absent-header r l e u p = let h = F.shows_header r u l p in some_is_none (sym e ∙ h.is)

  pub lacking-header : (r : List Token) → length r < n → g.Lacks S g.Part.a_header r → (row r).header ≡ None
  lacking-header r l k = by (row r).header refl
    where
      by : (o : Option (Found Simple)) → (row r).header ≡ o → (row r).header ≡ None
      by None e = e
      by (Some f) e = absurd (k f.rest (F.has_header r f l e))

  pub absent-range_left : (r : List Token) → length r < n → (row r).range_left ≡ None → g.Lacks S g.Part.a_range r
  absent-range_left r l e u p = let h = F.shows_range_left r u l p in some_is_none (sym e ∙ h.is)

  pub lacking-range_left : (r : List Token) → length r < n → g.Lacks S g.Part.a_range r → (row r).range_left ≡ None
  lacking-range_left r l k = by (row r).range_left refl
    where
      by : (o : Option (Found RangeLeft)) → (row r).range_left ≡ o → (row r).range_left ≡ None
      by None e = e
      by (Some f) e = absurd (k f.rest (F.has_range_left r f l e))

module _ (S : g.Part → List Token → List Token → Type 0) where
  abbrev pub idents-at : List Token → Found (List Token) → Type 0
  idents-at s f = g.AreNames S f.tree s f.rest f.depth

  abbrev pub type_name-at : List Token → Found TypeExpr → Type 0
  type_name-at s f = g.IsTypeName S f.tree s f.rest f.depth

  abbrev pub type-at : List Token → Found TypeExpr → Type 0
  type-at s f = g.IsType S f.tree s f.rest f.depth

  abbrev pub unnamed-at : Bool → List Token → Found (List Parameter) → Type 0
  unnamed-at v s f = g.AreUnnamed S v f.tree s f.rest f.depth

  abbrev pub named_params-at : Bool → List Token → Found (List Parameter) → Type 0
  named_params-at v s f = g.AreNamed S v f.tree s f.rest f.depth

  abbrev pub params-at : Bool → List Token → Found Parameters → Type 0
  params-at v s f = g.AreParams S v f.tree s f.rest f.depth

  abbrev pub signature-at : List Token → Found Signature → Type 0
  signature-at s f = g.IsSignature S f.tree s f.rest f.depth

  abbrev pub tag-at : List Token → Found (Option Token) → Type 0
  tag-at s f = g.IsTag S f.tree s f.rest f.depth

  abbrev pub field-at : List Token → Found Field → Type 0
  field-at s f = g.IsField S f.tree s f.rest f.depth

  abbrev pub fields-at : List Token → Found (List Field) → Type 0
  fields-at s f = g.AreFields S f.tree s f.rest f.depth

  abbrev pub member-at : List Token → Found Member → Type 0
  member-at s f = g.IsMember S f.tree s f.rest f.depth

  abbrev pub members-at : List Token → Found (List Member) → Type 0
  members-at s f = g.AreMembers S f.tree s f.rest f.depth

  abbrev pub literal-at : List Token → Found LiteralValue → Type 0
  literal-at s f = g.IsLiteral S f.tree s f.rest f.depth

  abbrev pub selected-at : List Token → Found (Token × LiteralValue) → Type 0
  selected-at s f = g.IsSelected S f.tree s f.rest f.depth

  abbrev pub block-at : List Token → Found Block → Type 0
  block-at s f = g.IsBlock S f.tree s f.rest f.depth

  abbrev pub received-at : List Token → Found TypeExpr → Type 0
  received-at s f = g.IsReceived S f.tree s f.rest f.depth

  abbrev pub head-at : Bool → List Token → Found Expr → Type 0
  head-at h s f = g.IsHead S h f.tree s f.rest f.depth

  abbrev pub bound-at : List Token → Found (Option Expr) → Type 0
  bound-at s f = g.IsBound S f.tree s f.rest f.depth

  abbrev pub args-at : List Token → Found (List Expr × Option Span) → Type 0
  args-at s f = g.AreArgs S f.tree s f.rest f.depth

  abbrev pub suffix-at : List Token → Found Suffix → Type 0
  suffix-at s f = g.IsSuffix S f.tree s f.rest f.depth

  abbrev pub suffixes-at : List Token → Found (List Suffix) → Type 0
  suffixes-at s f = g.AreSuffixes S f.tree s f.rest f.depth

  abbrev pub primary-at : Bool → List Token → Found Expr → Type 0
  primary-at h s f = g.IsPrimary S h f.tree s f.rest f.depth

  abbrev pub unary-at : Bool → Bool → List Token → Found Expr → Type 0
  unary-at h w s f = g.IsUnary S h w f.tree s f.rest f.depth

  abbrev pub expr-at : ℕ → Bool → Bool → List Token → Found Expr → Type 0
  expr-at m h w s f = g.IsExpr S m h w f.tree s f.rest f.depth

  abbrev pub operand-at : ℕ → Bool → List Token → Found (Token × Expr) → Type 0
  operand-at m h s f = g.IsOperand S m h f.tree s f.rest f.depth

  abbrev pub operands-at : ℕ → Bool → List Token → Found (List (Token × Expr)) → Type 0
  operands-at m h s f = g.AreOperands S m h f.tree s f.rest f.depth

  abbrev pub value-at : List Token → Found ElementValue → Type 0
  value-at s f = g.IsValue S f.tree s f.rest f.depth

  abbrev pub element-at : List Token → Found Element → Type 0
  element-at s f = g.IsElement S f.tree s f.rest f.depth

  abbrev pub elements-at : List Token → Found (List Element) → Type 0
  elements-at s f = g.AreElements S f.tree s f.rest f.depth

  abbrev pub exprs-at : Bool → List Token → Found (List Expr) → Type 0
  exprs-at h s f = g.AreExprs S h f.tree s f.rest f.depth

  abbrev pub simple-at : Bool → List Token → Found Simple → Type 0
  simple-at h s f = g.IsSimple S h f.tree s f.rest f.depth

  abbrev pub const_spec-at : Bool → List Token → Found ConstSpec → Type 0
  const_spec-at i s f = g.IsConstSpec S i f.tree s f.rest f.depth

  abbrev pub const_specs-at : Bool → List Token → Found (List ConstSpec) → Type 0
  const_specs-at i s f = g.AreConstSpecs S i f.tree s f.rest f.depth

  abbrev pub type_spec-at : List Token → Found TypeSpec → Type 0
  type_spec-at s f = g.IsTypeSpec S f.tree s f.rest f.depth

  abbrev pub type_specs-at : List Token → Found (List TypeSpec) → Type 0
  type_specs-at s f = g.AreTypeSpecs S f.tree s f.rest f.depth

  abbrev pub var_spec-at : List Token → Found VarSpec → Type 0
  var_spec-at s f = g.IsVarSpec S f.tree s f.rest f.depth

  abbrev pub var_specs-at : List Token → Found (List VarSpec) → Type 0
  var_specs-at s f = g.AreVarSpecs S f.tree s f.rest f.depth

  abbrev pub decl-at : List Token → Found Decl → Type 0
  decl-at s f = g.IsDecl S f.tree s f.rest f.depth

  abbrev pub values-at : List Token → Found (List Expr) → Type 0
  values-at s f = g.AreValues S f.tree s f.rest f.depth

  abbrev pub target-at : List Token → Found (Option Token) → Type 0
  target-at s f = g.IsTarget S f.tree s f.rest f.depth

  abbrev pub arms-at : List Token → Found (List Arm × Option Block) → Type 0
  arms-at s f = g.AreArms S f.tree s f.rest f.depth

  abbrev pub arm-at : List Token → Found Arm → Type 0
  arm-at s f = g.IsArm S f.tree s f.rest f.depth

  abbrev pub tag_value-at : List Token → Found (Option Expr) → Type 0
  tag_value-at s f = g.IsTagValue S f.tree s f.rest f.depth

  abbrev pub guard-at : List Token → Found (Option (Token × Span) × Expr × Span) → Type 0
  guard-at s f = g.IsGuard S f.tree s f.rest f.depth

  abbrev pub clauses-at : List Token → Found (List Clause) → Type 0
  clauses-at s f = g.AreClauses S f.tree s f.rest f.depth

  abbrev pub types-at : List Token → Found (List TypeExpr) → Type 0
  types-at s f = g.AreTypes S f.tree s f.rest f.depth

  abbrev pub type_clauses-at : List Token → Found (List TypeClause) → Type 0
  type_clauses-at s f = g.AreTypeClauses S f.tree s f.rest f.depth

  abbrev pub comm-at : List Token → Found Comm → Type 0
  comm-at s f = g.IsComm S f.tree s f.rest f.depth

  abbrev pub comm_clauses-at : List Token → Found (List CommClause) → Type 0
  comm_clauses-at s f = g.AreCommClauses S f.tree s f.rest f.depth

  abbrev pub header-at : List Token → Found Simple → Type 0
  header-at s f = g.IsHeader S f.tree s f.rest f.depth

  abbrev pub condition-at : List Token → Found (Option Expr) → Type 0
  condition-at s f = g.IsCondition S f.tree s f.rest f.depth

  abbrev pub post-at : List Token → Found Simple → Type 0
  post-at s f = g.IsPost S f.tree s f.rest f.depth

  abbrev pub range_left-at : List Token → Found RangeLeft → Type 0
  range_left-at s f = g.IsRangeLeft S f.tree s f.rest f.depth

  abbrev pub stmt-at : List Token → Found Stmt → Type 0
  stmt-at s f = g.IsStmt S f.tree s f.rest f.depth

  abbrev pub stmts-at : List Token → Found (List Stmt) → Type 0
  stmts-at s f = g.AreStmts S f.tree s f.rest f.depth

  abbrev pub import_spec-at : List Token → Found ImportSpec → Type 0
  import_spec-at s f = g.IsImportSpec S f.tree s f.rest f.depth

  abbrev pub import_specs-at : List Token → Found (List ImportSpec) → Type 0
  import_specs-at s f = g.AreImportSpecs S f.tree s f.rest f.depth

  abbrev pub body-at : List Token → Found (Option Block) → Type 0
  body-at s f = g.IsBody S f.tree s f.rest f.depth

  abbrev pub top-at : List Token → Found Top → Type 0
  top-at s f = g.IsTop S f.tree s f.rest f.depth

  abbrev pub chunk-at : List Token → Found Chunk → Type 0
  chunk-at s f = g.IsChunk S f.tree s f.rest f.depth

  -- What the row of s has, the grammar gives.
  pub record Sound (n : ℕ) (s : List Token) : Type 0 where
    pub idents : (f : Found (List Token)) → (row s).idents ≡ Some f → idents-at s f
    pub type_name : (f : Found TypeExpr) → (row s).type_name ≡ Some f → type_name-at s f
    pub type : (f : Found TypeExpr) → (row s).type ≡ Some f → type-at s f
    pub unnamed : (v : Bool) (f : Found (List Parameter)) → (row s).unnamed v ≡ Some f → unnamed-at v s f
    pub named_params : (v : Bool) (f : Found (List Parameter)) → (row s).named_params v ≡ Some f → named_params-at v s f
    pub params : (v : Bool) (f : Found Parameters) → (row s).params v ≡ Some f → params-at v s f
    pub signature : (f : Found Signature) → (row s).signature ≡ Some f → signature-at s f
    pub tag : (f : Found (Option Token)) → (row s).tag ≡ Some f → tag-at s f
    pub field : (f : Found Field) → (row s).field ≡ Some f → field-at s f
    pub fields : (f : Found (List Field)) → (row s).fields ≡ Some f → fields-at s f
    pub member : (f : Found Member) → (row s).member ≡ Some f → member-at s f
    pub members : (f : Found (List Member)) → (row s).members ≡ Some f → members-at s f
    pub literal : (f : Found LiteralValue) → (row s).literal ≡ Some f → literal-at s f
    pub selected : (f : Found (Token × LiteralValue)) → (row s).selected ≡ Some f → selected-at s f
    pub block : (f : Found Block) → (row s).block ≡ Some f → block-at s f
    pub received : (f : Found TypeExpr) → (row s).received ≡ Some f → received-at s f
    pub head : (h : Bool) (f : Found Expr) → (row s).head h ≡ Some f → head-at h s f
    pub bound : (f : Found (Option Expr)) → (row s).bound ≡ Some f → bound-at s f
    pub args : (f : Found (List Expr × Option Span)) → (row s).args ≡ Some f → args-at s f
    pub suffix : (f : Found Suffix) → (row s).suffix ≡ Some f → suffix-at s f
    pub suffixes : (below : length s < n) (f : Found (List Suffix)) → (row s).suffixes ≡ Some f → suffixes-at s f
    pub primary : (h : Bool) (f : Found Expr) → (row s).primary h ≡ Some f → primary-at h s f
    pub unary : (h : Bool) (w : Bool) (f : Found Expr) → (row s).unary h w ≡ Some f → unary-at h w s f
    pub expr : (m : ℕ) (h : Bool) (w : Bool) (f : Found Expr) → (row s).expr m h w ≡ Some f → expr-at m h w s f
    pub operand : (m : ℕ) (h : Bool) (f : Found (Token × Expr)) → (row s).operand m h ≡ Some f → operand-at m h s f
    pub operands : (m : ℕ) (h : Bool) (below : length s < n) (f : Found (List (Token × Expr))) → (row s).operands m h ≡ Some f → operands-at m h s f
    pub value : (f : Found ElementValue) → (row s).value ≡ Some f → value-at s f
    pub element : (f : Found Element) → (row s).element ≡ Some f → element-at s f
    pub elements : (f : Found (List Element)) → (row s).elements ≡ Some f → elements-at s f
    pub exprs : (h : Bool) (f : Found (List Expr)) → (row s).exprs h ≡ Some f → exprs-at h s f
    pub simple : (h : Bool) (f : Found Simple) → (row s).simple h ≡ Some f → simple-at h s f
    pub const_spec : (i : Bool) (f : Found ConstSpec) → (row s).const_spec i ≡ Some f → const_spec-at i s f
    pub const_specs : (i : Bool) (f : Found (List ConstSpec)) → (row s).const_specs i ≡ Some f → const_specs-at i s f
    pub type_spec : (f : Found TypeSpec) → (row s).type_spec ≡ Some f → type_spec-at s f
    pub type_specs : (f : Found (List TypeSpec)) → (row s).type_specs ≡ Some f → type_specs-at s f
    pub var_spec : (f : Found VarSpec) → (row s).var_spec ≡ Some f → var_spec-at s f
    pub var_specs : (f : Found (List VarSpec)) → (row s).var_specs ≡ Some f → var_specs-at s f
    pub decl : (f : Found Decl) → (row s).decl ≡ Some f → decl-at s f
    pub values : (f : Found (List Expr)) → (row s).values ≡ Some f → values-at s f
    pub target : (f : Found (Option Token)) → (row s).target ≡ Some f → target-at s f
    pub arms : (f : Found (List Arm × Option Block)) → (row s).arms ≡ Some f → arms-at s f
    pub arm : (f : Found Arm) → (row s).arm ≡ Some f → arm-at s f
    pub tag_value : (f : Found (Option Expr)) → (row s).tag_value ≡ Some f → tag_value-at s f
    pub guard : (f : Found (Option (Token × Span) × Expr × Span)) → (row s).guard ≡ Some f → guard-at s f
    pub clauses : (f : Found (List Clause)) → (row s).clauses ≡ Some f → clauses-at s f
    pub types : (f : Found (List TypeExpr)) → (row s).types ≡ Some f → types-at s f
    pub type_clauses : (f : Found (List TypeClause)) → (row s).type_clauses ≡ Some f → type_clauses-at s f
    pub comm : (f : Found Comm) → (row s).comm ≡ Some f → comm-at s f
    pub comm_clauses : (f : Found (List CommClause)) → (row s).comm_clauses ≡ Some f → comm_clauses-at s f
    pub header : (f : Found Simple) → (row s).header ≡ Some f → header-at s f
    pub condition : (f : Found (Option Expr)) → (row s).condition ≡ Some f → condition-at s f
    pub post : (f : Found Simple) → (row s).post ≡ Some f → post-at s f
    pub range_left : (f : Found RangeLeft) → (row s).range_left ≡ Some f → range_left-at s f
    pub stmt : (f : Found Stmt) → (row s).stmt ≡ Some f → stmt-at s f
    pub stmts : (f : Found (List Stmt)) → (row s).stmts ≡ Some f → stmts-at s f
    pub import_spec : (f : Found ImportSpec) → (row s).import_spec ≡ Some f → import_spec-at s f
    pub import_specs : (f : Found (List ImportSpec)) → (row s).import_specs ≡ Some f → import_specs-at s f
    pub body : (f : Found (Option Block)) → (row s).body ≡ Some f → body-at s f
    pub top : (f : Found Top) → (row s).top ≡ Some f → top-at s f
    pub chunk : (f : Found Chunk) → (row s).chunk ≡ Some f → chunk-at s f

  abbrev pub AllSound : ℕ → List Token → Type 0
  AllSound n s = (r : List Token) → Ends s r → Sound n r

  -- What the grammar gives at s, its row has.
  pub record Exact (n : ℕ) (s : List Token) : Type 0 where
    pub idents : (t : List Token) (r : List Token) (d : ℕ) → g.AreNames S t s r d → (row s).idents ≡ Some (found t r d)
    pub type_name : (t : TypeExpr) (r : List Token) (d : ℕ) → g.IsTypeName S t s r d → (row s).type_name ≡ Some (found t r d)
    pub type : (t : TypeExpr) (r : List Token) (d : ℕ) → g.IsType S t s r d → (row s).type ≡ Some (found t r d)
    pub unnamed : (v : Bool) (t : List Parameter) (r : List Token) (d : ℕ) → g.AreUnnamed S v t s r d → (row s).unnamed v ≡ Some (found t r d)
    pub named_params : (v : Bool) (t : List Parameter) (r : List Token) (d : ℕ) → g.AreNamed S v t s r d → (row s).named_params v ≡ Some (found t r d)
    pub params : (v : Bool) (t : Parameters) (r : List Token) (d : ℕ) → g.AreParams S v t s r d → (row s).params v ≡ Some (found t r d)
    pub signature : (t : Signature) (r : List Token) (d : ℕ) → g.IsSignature S t s r d → (row s).signature ≡ Some (found t r d)
    pub tag : (t : Option Token) (r : List Token) (d : ℕ) → g.IsTag S t s r d → (row s).tag ≡ Some (found t r d)
    pub field : (t : Field) (r : List Token) (d : ℕ) → g.IsField S t s r d → (row s).field ≡ Some (found t r d)
    pub fields : (t : List Field) (r : List Token) (d : ℕ) → g.AreFields S t s r d → (row s).fields ≡ Some (found t r d)
    pub member : (t : Member) (r : List Token) (d : ℕ) → g.IsMember S t s r d → (row s).member ≡ Some (found t r d)
    pub members : (t : List Member) (r : List Token) (d : ℕ) → g.AreMembers S t s r d → (row s).members ≡ Some (found t r d)
    pub literal : (t : LiteralValue) (r : List Token) (d : ℕ) → g.IsLiteral S t s r d → (row s).literal ≡ Some (found t r d)
    pub selected : (t : Token × LiteralValue) (r : List Token) (d : ℕ) → g.IsSelected S t s r d → (row s).selected ≡ Some (found t r d)
    pub block : (t : Block) (r : List Token) (d : ℕ) → g.IsBlock S t s r d → (row s).block ≡ Some (found t r d)
    pub received : (t : TypeExpr) (r : List Token) (d : ℕ) → g.IsReceived S t s r d → (row s).received ≡ Some (found t r d)
    pub head : (h : Bool) (t : Expr) (r : List Token) (d : ℕ) → g.IsHead S h t s r d → (row s).head h ≡ Some (found t r d)
    pub bound : (t : Option Expr) (r : List Token) (d : ℕ) → g.IsBound S t s r d → (row s).bound ≡ Some (found t r d)
    pub args : (t : List Expr × Option Span) (r : List Token) (d : ℕ) → g.AreArgs S t s r d → (row s).args ≡ Some (found t r d)
    pub suffix : (t : Suffix) (r : List Token) (d : ℕ) → g.IsSuffix S t s r d → (row s).suffix ≡ Some (found t r d)
    pub suffixes : (below : length s < n) (t : List Suffix) (r : List Token) (d : ℕ) → g.AreSuffixes S t s r d → (row s).suffixes ≡ Some (found t r d)
    pub primary : (h : Bool) (t : Expr) (r : List Token) (d : ℕ) → g.IsPrimary S h t s r d → (row s).primary h ≡ Some (found t r d)
    pub unary : (h : Bool) (w : Bool) (t : Expr) (r : List Token) (d : ℕ) → g.IsUnary S h w t s r d → (row s).unary h w ≡ Some (found t r d)
    pub expr : (m : ℕ) (h : Bool) (w : Bool) (t : Expr) (r : List Token) (d : ℕ) → g.IsExpr S m h w t s r d → (row s).expr m h w ≡ Some (found t r d)
    pub operand : (m : ℕ) (h : Bool) (t : Token × Expr) (r : List Token) (d : ℕ) → g.IsOperand S m h t s r d → (row s).operand m h ≡ Some (found t r d)
    pub operands : (m : ℕ) (h : Bool) (below : length s < n) (t : List (Token × Expr)) (r : List Token) (d : ℕ) → g.AreOperands S m h t s r d → (row s).operands m h ≡ Some (found t r d)
    pub value : (t : ElementValue) (r : List Token) (d : ℕ) → g.IsValue S t s r d → (row s).value ≡ Some (found t r d)
    pub element : (t : Element) (r : List Token) (d : ℕ) → g.IsElement S t s r d → (row s).element ≡ Some (found t r d)
    pub elements : (t : List Element) (r : List Token) (d : ℕ) → g.AreElements S t s r d → (row s).elements ≡ Some (found t r d)
    pub exprs : (h : Bool) (t : List Expr) (r : List Token) (d : ℕ) → g.AreExprs S h t s r d → (row s).exprs h ≡ Some (found t r d)
    pub simple : (h : Bool) (t : Simple) (r : List Token) (d : ℕ) → g.IsSimple S h t s r d → (row s).simple h ≡ Some (found t r d)
    pub const_spec : (i : Bool) (t : ConstSpec) (r : List Token) (d : ℕ) → g.IsConstSpec S i t s r d → (row s).const_spec i ≡ Some (found t r d)
    pub const_specs : (i : Bool) (t : List ConstSpec) (r : List Token) (d : ℕ) → g.AreConstSpecs S i t s r d → (row s).const_specs i ≡ Some (found t r d)
    pub type_spec : (t : TypeSpec) (r : List Token) (d : ℕ) → g.IsTypeSpec S t s r d → (row s).type_spec ≡ Some (found t r d)
    pub type_specs : (t : List TypeSpec) (r : List Token) (d : ℕ) → g.AreTypeSpecs S t s r d → (row s).type_specs ≡ Some (found t r d)
    pub var_spec : (t : VarSpec) (r : List Token) (d : ℕ) → g.IsVarSpec S t s r d → (row s).var_spec ≡ Some (found t r d)
    pub var_specs : (t : List VarSpec) (r : List Token) (d : ℕ) → g.AreVarSpecs S t s r d → (row s).var_specs ≡ Some (found t r d)
    pub decl : (t : Decl) (r : List Token) (d : ℕ) → g.IsDecl S t s r d → (row s).decl ≡ Some (found t r d)
    pub values : (t : List Expr) (r : List Token) (d : ℕ) → g.AreValues S t s r d → (row s).values ≡ Some (found t r d)
    pub target : (t : Option Token) (r : List Token) (d : ℕ) → g.IsTarget S t s r d → (row s).target ≡ Some (found t r d)
    pub arms : (t : List Arm × Option Block) (r : List Token) (d : ℕ) → g.AreArms S t s r d → (row s).arms ≡ Some (found t r d)
    pub arm : (t : Arm) (r : List Token) (d : ℕ) → g.IsArm S t s r d → (row s).arm ≡ Some (found t r d)
    pub tag_value : (t : Option Expr) (r : List Token) (d : ℕ) → g.IsTagValue S t s r d → (row s).tag_value ≡ Some (found t r d)
    pub guard : (t : Option (Token × Span) × Expr × Span) (r : List Token) (d : ℕ) → g.IsGuard S t s r d → (row s).guard ≡ Some (found t r d)
    pub clauses : (t : List Clause) (r : List Token) (d : ℕ) → g.AreClauses S t s r d → (row s).clauses ≡ Some (found t r d)
    pub types : (t : List TypeExpr) (r : List Token) (d : ℕ) → g.AreTypes S t s r d → (row s).types ≡ Some (found t r d)
    pub type_clauses : (t : List TypeClause) (r : List Token) (d : ℕ) → g.AreTypeClauses S t s r d → (row s).type_clauses ≡ Some (found t r d)
    pub comm : (t : Comm) (r : List Token) (d : ℕ) → g.IsComm S t s r d → (row s).comm ≡ Some (found t r d)
    pub comm_clauses : (t : List CommClause) (r : List Token) (d : ℕ) → g.AreCommClauses S t s r d → (row s).comm_clauses ≡ Some (found t r d)
    pub header : (t : Simple) (r : List Token) (d : ℕ) → g.IsHeader S t s r d → (row s).header ≡ Some (found t r d)
    pub condition : (t : Option Expr) (r : List Token) (d : ℕ) → g.IsCondition S t s r d → (row s).condition ≡ Some (found t r d)
    pub post : (t : Simple) (r : List Token) (d : ℕ) → g.IsPost S t s r d → (row s).post ≡ Some (found t r d)
    pub range_left : (t : RangeLeft) (r : List Token) (d : ℕ) → g.IsRangeLeft S t s r d → (row s).range_left ≡ Some (found t r d)
    pub stmt : (t : Stmt) (r : List Token) (d : ℕ) → g.IsStmt S t s r d → (row s).stmt ≡ Some (found t r d)
    pub stmts : (t : List Stmt) (r : List Token) (d : ℕ) → g.AreStmts S t s r d → (row s).stmts ≡ Some (found t r d)
    pub import_spec : (t : ImportSpec) (r : List Token) (d : ℕ) → g.IsImportSpec S t s r d → (row s).import_spec ≡ Some (found t r d)
    pub import_specs : (t : List ImportSpec) (r : List Token) (d : ℕ) → g.AreImportSpecs S t s r d → (row s).import_specs ≡ Some (found t r d)
    pub body : (t : Option Block) (r : List Token) (d : ℕ) → g.IsBody S t s r d → (row s).body ≡ Some (found t r d)
    pub top : (t : Top) (r : List Token) (d : ℕ) → g.IsTop S t s r d → (row s).top ≡ Some (found t r d)
    pub chunk : (t : Chunk) (r : List Token) (d : ℕ) → g.IsChunk S t s r d → (row s).chunk ≡ Some (found t r d)

  abbrev pub AllExact : ℕ → List Token → Type 0
  AllExact n s = (r : List Token) → Ends s r → Exact n r
