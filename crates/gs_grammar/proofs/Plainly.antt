-- What stands is a tree of the plain grammar.
use Rattle.std.proofs.Common.{ℕ, Bool, List, Option}
use Rattle.gs_syntax.specs.declared.token.Span.{Span}
use Rattle.gs_syntax.specs.declared.token.Token.{Token}
use Rattle.gs_grammar.specs.declared.trees.Chunk.{Chunk}
use Rattle.gs_grammar.specs.declared.trees.ImportSpec.{ImportSpec}
use Rattle.gs_grammar.specs.declared.trees.Top.{Top}
use Rattle.gs_grammar.specs.declared.trees.Decl.{Decl}
use Rattle.gs_grammar.specs.declared.trees.ConstSpec.{ConstSpec}
use Rattle.gs_grammar.specs.declared.trees.TypeSpec.{TypeSpec}
use Rattle.gs_grammar.specs.declared.trees.VarSpec.{VarSpec}
use Rattle.gs_grammar.specs.declared.trees.TypeExpr.{TypeExpr}
use Rattle.gs_grammar.specs.declared.trees.Signature.{Signature}
use Rattle.gs_grammar.specs.declared.trees.Parameters.{Parameters}
use Rattle.gs_grammar.specs.declared.trees.Parameter.{Parameter}
use Rattle.gs_grammar.specs.declared.trees.Field.{Field}
use Rattle.gs_grammar.specs.declared.trees.Member.{Member}
use Rattle.gs_grammar.specs.declared.trees.Expr.{Expr}
use Rattle.gs_grammar.specs.declared.trees.Suffix.{Suffix}
use Rattle.gs_grammar.specs.declared.trees.LiteralValue.{LiteralValue}
use Rattle.gs_grammar.specs.declared.trees.Element.{Element}
use Rattle.gs_grammar.specs.declared.trees.ElementValue.{ElementValue}
use Rattle.gs_grammar.specs.declared.trees.Block.{Block}
use Rattle.gs_grammar.specs.declared.trees.Stmt.{Stmt}
use Rattle.gs_grammar.specs.declared.trees.Simple.{Simple}
use Rattle.gs_grammar.specs.declared.trees.Arm.{Arm}
use Rattle.gs_grammar.specs.declared.trees.Clause.{Clause}
use Rattle.gs_grammar.specs.declared.trees.TypeClause.{TypeClause}
use Rattle.gs_grammar.specs.declared.trees.CommClause.{CommClause}
use Rattle.gs_grammar.specs.declared.trees.Comm.{Comm}
use Rattle.gs_grammar.specs.declared.trees.RangeLeft.{RangeLeft}
use Rattle.gs_grammar.specs.Grammar as g
use Rattle.gs_grammar.specs.Plain as p
use Rattle.gs_grammar.specs.Front.{IsTrail}
use Rattle.gs_syntax.specs.declared.token.Operator.{Operator}

-- of what the grammar may ask for, what the plain grammar asks for
abbrev pub part_of : p.Ahead → g.Part
part_of p.Ahead.a_type = g.Part.a_type
part_of p.Ahead.a_literal = g.Part.a_literal
part_of p.Ahead.a_selected = g.Part.a_selected
part_of p.Ahead.a_block = g.Part.a_block
part_of p.Ahead.a_received = g.Part.a_received

abbrev pub ahead : (g.Part → List Token → List Token → Type 0) → p.Ahead → List Token → List Token → Type 0
ahead S a s r = S (part_of a) s r

trail-plain : {o : Operator} {s r : List Token} → IsTrail o s r → p.IsPerhapsComma s r
trail-plain (IsTrail.no_comma h1) = p.IsPerhapsComma.without_comma
trail-plain (IsTrail.a_comma h1 h2) = p.IsPerhapsComma.with_comma h1

module _ (S : g.Part → List Token → List Token → Type 0) where
  mutual
    pub idents-plain : {t : List Token} {s r : List Token} {d : ℕ} → g.AreNames S t s r d → p.ArePlainNames (ahead S) t s r d
    idents-plain (g.AreNames.one_name h1 h2) = p.ArePlainNames.plain_one_name h1
    idents-plain (g.AreNames.more_names h1 h2 h3) = p.ArePlainNames.plain_more_names h1 h2 (idents-plain h3)

    pub type_name-plain : {t : TypeExpr} {s r : List Token} {d : ℕ} → g.IsTypeName S t s r d → p.IsPlainTypeName (ahead S) t s r d
    type_name-plain (g.IsTypeName.bare h1 h2) = p.IsPlainTypeName.plain_bare h1 h2
    type_name-plain (g.IsTypeName.qualified h1 h2 h3) = p.IsPlainTypeName.plain_qualified h1 h2 h3

    pub type-plain : {t : TypeExpr} {s r : List Token} {d : ℕ} → g.IsType S t s r d → p.IsPlainType (ahead S) t s r d
    type-plain (g.IsType.named h1) = p.IsPlainType.plain_named (type_name-plain h1)
    type-plain (g.IsType.paren_type h1 h2 h3) = p.IsPlainType.plain_paren_type h1 (type-plain h2) h3
    type-plain (g.IsType.pointer h1 h2) = p.IsPlainType.plain_pointer h1 (type-plain h2)
    type-plain (g.IsType.slice h1 h2 h3) = p.IsPlainType.plain_slice h1 h2 (type-plain h3)
    type-plain (g.IsType.array h1 h2 h3 h4 h5 h6) = p.IsPlainType.plain_array h1 (expr-plain h4) h5 (type-plain h6)
    type-plain (g.IsType.map_type h1 h2 h3 h4 h5) = p.IsPlainType.plain_map_type h1 h2 (type-plain h3) h4 (type-plain h5)
    type-plain (g.IsType.channel h1 h2 h3) = p.IsPlainType.plain_channel h1 h2 (type-plain h3)
    type-plain (g.IsType.send_channel h1 h2 h3) = p.IsPlainType.plain_send_channel h1 h2 (type-plain h3)
    type-plain (g.IsType.receive_channel h1 h2 h3) = p.IsPlainType.plain_receive_channel h1 h2 (type-plain h3)
    type-plain (g.IsType.function_type h1 h2) = p.IsPlainType.plain_function_type h1 (signature-plain h2)
    type-plain (g.IsType.struct_type h1 h2 h3 h4) = p.IsPlainType.plain_struct_type h1 h2 (fields-plain h3) h4
    type-plain (g.IsType.interface_type h1 h2 h3 h4) = p.IsPlainType.plain_interface_type h1 h2 (members-plain h3) h4

    pub unnamed-plain : {v : Bool} {t : List Parameter} {s r : List Token} {d : ℕ} → g.AreUnnamed S v t s r d → p.ArePlainUnnamed (ahead S) v t s r d
    unnamed-plain (g.AreUnnamed.last_type h1 h2) = p.ArePlainUnnamed.plain_last_type (type-plain h1) (trail-plain h2)
    unnamed-plain (g.AreUnnamed.more_types h1 h2 h3 h4) = p.ArePlainUnnamed.plain_more_types (type-plain h1) h2 (unnamed-plain h4)
    unnamed-plain (g.AreUnnamed.last_dots h1 h2 h3 h4) = p.ArePlainUnnamed.plain_last_dots h1 h2 (type-plain h3) (trail-plain h4)

    pub named_params-plain : {v : Bool} {t : List Parameter} {s r : List Token} {d : ℕ} → g.AreNamed S v t s r d → p.ArePlainNamed (ahead S) v t s r d
    named_params-plain (g.AreNamed.last_named_dots h1 h2 h3 h4 h5 h6) = p.ArePlainNamed.plain_last_named_dots (idents-plain h1) h2 h3 h4 (type-plain h5) (trail-plain h6)
    named_params-plain (g.AreNamed.last_named h1 h2 h3 h4) = p.ArePlainNamed.plain_last_named (idents-plain h1) (type-plain h3) (trail-plain h4)
    named_params-plain (g.AreNamed.more_named h1 h2 h3 h4 h5 h6) = p.ArePlainNamed.plain_more_named (idents-plain h1) (type-plain h3) h4 (named_params-plain h6)

    pub params-plain : {v : Bool} {t : Parameters} {s r : List Token} {d : ℕ} → g.AreParams S v t s r d → p.ArePlainParams (ahead S) v t s r d
    params-plain (g.AreParams.no_params h1 h2) = p.ArePlainParams.plain_no_params h1 h2
    params-plain (g.AreParams.named_list h1 h2 h3 h4) = p.ArePlainParams.plain_named_list h1 (named_params-plain h3) h4
    params-plain (g.AreParams.unnamed_list h1 h2 h3 h4 h5) = p.ArePlainParams.plain_unnamed_list h1 (unnamed-plain h4) h5

    pub signature-plain : {t : Signature} {s r : List Token} {d : ℕ} → g.IsSignature S t s r d → p.IsPlainSignature (ahead S) t s r d
    signature-plain (g.IsSignature.results h1 h2 h3) = p.IsPlainSignature.plain_results (params-plain h1) (params-plain h3)
    signature-plain (g.IsSignature.result h1 h2 h3) = p.IsPlainSignature.plain_result (params-plain h1) h2 (type-plain h3)
    signature-plain (g.IsSignature.plain h1 h2 h3) = p.IsPlainSignature.plain_signature (params-plain h1) h2 h3

    pub tag-plain : {t : Option Token} {s r : List Token} {d : ℕ} → g.IsTag S t s r d → p.IsPlainTag (ahead S) t s r d
    tag-plain (g.IsTag.a_tag h1) = p.IsPlainTag.plain_a_tag h1
    tag-plain (g.IsTag.no_tag h1) = p.IsPlainTag.plain_no_tag

    pub field-plain : {t : Field} {s r : List Token} {d : ℕ} → g.IsField S t s r d → p.IsPlainField (ahead S) t s r d
    field-plain (g.IsField.named_field h1 h2 h3 h4 h5) = p.IsPlainField.plain_named_field (idents-plain h1) (type-plain h4) (tag-plain h5)
    field-plain (g.IsField.embedded_field h1 h2 h3) = p.IsPlainField.plain_embedded_field h1 (tag-plain h3)
    field-plain (g.IsField.qualified_field h1 h2 h3 h4) = p.IsPlainField.plain_qualified_field h1 h2 h3 (tag-plain h4)
    field-plain (g.IsField.pointer_field h1 h2 h3) = p.IsPlainField.plain_pointer_field h1 (type_name-plain h2) (tag-plain h3)

    pub fields-plain : {t : List Field} {s r : List Token} {d : ℕ} → g.AreFields S t s r d → p.ArePlainFields (ahead S) t s r d
    fields-plain (g.AreFields.last_field h1 h2) = p.ArePlainFields.plain_last_field (field-plain h1)
    fields-plain (g.AreFields.more_fields h1 h2 h3) = p.ArePlainFields.plain_more_fields (field-plain h1) h2 (fields-plain h3)
    fields-plain (g.AreFields.no_fields h1) = p.ArePlainFields.plain_no_fields

    pub member-plain : {t : Member} {s r : List Token} {d : ℕ} → g.IsMember S t s r d → p.IsPlainMember (ahead S) t s r d
    member-plain (g.IsMember.method h1 h2 h3) = p.IsPlainMember.plain_method h1 (signature-plain h3)
    member-plain (g.IsMember.embedded_interface h1 h2 h3) = p.IsPlainMember.plain_embedded_interface h1
    member-plain (g.IsMember.qualified_interface h1 h2 h3) = p.IsPlainMember.plain_qualified_interface h1 h2 h3

    pub members-plain : {t : List Member} {s r : List Token} {d : ℕ} → g.AreMembers S t s r d → p.ArePlainMembers (ahead S) t s r d
    members-plain (g.AreMembers.last_member h1 h2) = p.ArePlainMembers.plain_last_member (member-plain h1)
    members-plain (g.AreMembers.more_members h1 h2 h3) = p.ArePlainMembers.plain_more_members (member-plain h1) h2 (members-plain h3)
    members-plain (g.AreMembers.no_members h1) = p.ArePlainMembers.plain_no_members

    pub literal-plain : {t : LiteralValue} {s r : List Token} {d : ℕ} → g.IsLiteral S t s r d → p.IsPlainLiteral (ahead S) t s r d
    literal-plain (g.IsLiteral.values_in_braces h1 h2 h3) = p.IsPlainLiteral.plain_values_in_braces h1 (elements-plain h2) h3

    pub selected-plain : {t : Token × LiteralValue} {s r : List Token} {d : ℕ} → g.IsSelected S t s r d → p.IsPlainSelected (ahead S) t s r d
    selected-plain (g.IsSelected.selected_literal h1 h2 h3) = p.IsPlainSelected.plain_selected_literal h1 h2 (literal-plain h3)

    pub block-plain : {t : Block} {s r : List Token} {d : ℕ} → g.IsBlock S t s r d → p.IsPlainBlock (ahead S) t s r d
    block-plain (g.IsBlock.braces h1 h2 h3) = p.IsPlainBlock.plain_braces h1 (stmts-plain h2) h3

    pub received-plain : {t : TypeExpr} {s r : List Token} {d : ℕ} → g.IsReceived S t s r d → p.IsPlainReceived (ahead S) t s r d
    received-plain (g.IsReceived.received h1 h2 h3) = p.IsPlainReceived.plain_received h1 (type-plain h2) h3

    pub head-plain : {h : Bool} {t : Expr} {s r : List Token} {d : ℕ} → g.IsHead S h t s r d → p.IsPlainHead (ahead S) h t s r d
    head-plain (g.IsHead.basic_literal h1) = p.IsPlainHead.plain_basic_literal h1
    head-plain (g.IsHead.header_name h1 h2) = p.IsPlainHead.plain_header_name h1 h2
    head-plain (g.IsHead.literal_of_selected h1 h2 h3) = p.IsPlainHead.plain_literal_of_selected h1 h2 (selected-plain h3)
    head-plain (g.IsHead.name h1 h2 h3 h4) = p.IsPlainHead.plain_name h1 h2 h3 h4
    head-plain (g.IsHead.literal_of_name h1 h2 h3 h4) = p.IsPlainHead.plain_literal_of_name h1 h2 (literal-plain h4)
    head-plain (g.IsHead.paren h1 h2 h3) = p.IsPlainHead.plain_paren h1 (expr-plain h2) h3
    head-plain (g.IsHead.literal_of_type h1 h2 h3) = p.IsPlainHead.plain_literal_of_type h1 (type-plain h2) (literal-plain h3)
    head-plain (g.IsHead.composite_type h1 h2 h3) = p.IsPlainHead.plain_composite_type h1 (type-plain h2) h3
    head-plain (g.IsHead.counted_literal h1 h2 h3 h4 h5) = p.IsPlainHead.plain_counted_literal h1 h2 h3 (type-plain h4) (literal-plain h5)
    head-plain (g.IsHead.other_type h1 h2) = p.IsPlainHead.plain_other_type h1 (type-plain h2)
    head-plain (g.IsHead.function_literal h1 h2 h3) = p.IsPlainHead.plain_function_literal h1 (signature-plain h2) (block-plain h3)
    head-plain (g.IsHead.lone_function_type h1 h2 h3) = p.IsPlainHead.plain_lone_function_type h1 (signature-plain h2) h3

    pub bound-plain : {t : Option Expr} {s r : List Token} {d : ℕ} → g.IsBound S t s r d → p.IsPlainBound (ahead S) t s r d
    bound-plain (g.IsBound.a_bound h1) = p.IsPlainBound.plain_a_bound (expr-plain h1)
    bound-plain (g.IsBound.no_bound h1) = p.IsPlainBound.plain_no_bound

    pub args-plain : {t : List Expr × Option Span} {s r : List Token} {d : ℕ} → g.AreArgs S t s r d → p.ArePlainArgs (ahead S) t s r d
    args-plain (g.AreArgs.spread h1 h2 h3) = p.ArePlainArgs.plain_spread (expr-plain h1) h2 (trail-plain h3)
    args-plain (g.AreArgs.last_arg h1 h2 h3) = p.ArePlainArgs.plain_last_arg (expr-plain h1) (trail-plain h3)
    args-plain (g.AreArgs.more_args h1 h2 h3 h4) = p.ArePlainArgs.plain_more_args (expr-plain h1) h2 (args-plain h4)
    args-plain (g.AreArgs.no_args h1) = p.ArePlainArgs.plain_no_args

    pub suffix-plain : {t : Suffix} {s r : List Token} {d : ℕ} → g.IsSuffix S t s r d → p.IsPlainSuffix (ahead S) t s r d
    suffix-plain (g.IsSuffix.selector h1 h2) = p.IsPlainSuffix.plain_selector h1 h2
    suffix-plain (g.IsSuffix.assertion h1 h2 h3 h4) = p.IsPlainSuffix.plain_assertion h1 h2 (type-plain h3) h4
    suffix-plain (g.IsSuffix.open_slice h1 h2 h3 h4) = p.IsPlainSuffix.plain_open_slice h1 h2 (bound-plain h3) h4
    suffix-plain (g.IsSuffix.open_full_slice h1 h2 h3 h4 h5 h6) = p.IsPlainSuffix.plain_open_full_slice h1 h2 (expr-plain h3) h4 (expr-plain h5) h6
    suffix-plain (g.IsSuffix.index h1 h2 h3 h4) = p.IsPlainSuffix.plain_index h1 (expr-plain h3) h4
    suffix-plain (g.IsSuffix.slice_expr h1 h2 h3 h4 h5 h6) = p.IsPlainSuffix.plain_slice_expr h1 (expr-plain h3) h4 (bound-plain h5) h6
    suffix-plain (g.IsSuffix.full_slice h1 h2 h3 h4 h5 h6 h7 h8) = p.IsPlainSuffix.plain_full_slice h1 (expr-plain h3) h4 (expr-plain h5) h6 (expr-plain h7) h8
    suffix-plain (g.IsSuffix.call h1 h2 h3) = p.IsPlainSuffix.plain_call h1 (args-plain h2) h3

    pub suffixes-plain : {t : List Suffix} {s r : List Token} {d : ℕ} → g.AreSuffixes S t s r d → p.ArePlainSuffixes (ahead S) t s r d
    suffixes-plain (g.AreSuffixes.more_suffixes h1 h2) = p.ArePlainSuffixes.plain_more_suffixes (suffix-plain h1) (suffixes-plain h2)
    suffixes-plain (g.AreSuffixes.no_suffixes h1) = p.ArePlainSuffixes.plain_no_suffixes

    pub primary-plain : {h : Bool} {t : Expr} {s r : List Token} {d : ℕ} → g.IsPrimary S h t s r d → p.IsPlainPrimary (ahead S) h t s r d
    primary-plain (g.IsPrimary.primary h1 h2) = p.IsPlainPrimary.plain_primary (head-plain h1) (suffixes-plain h2)

    pub unary-plain : {h : Bool} {w : Bool} {t : Expr} {s r : List Token} {d : ℕ} → g.IsUnary S h w t s r d → p.IsPlainUnary (ahead S) h w t s r d
    unary-plain (g.IsUnary.bare_primary h1) = p.IsPlainUnary.plain_bare_primary (primary-plain h1)
    unary-plain (g.IsUnary.signed h1 h2) = p.IsPlainUnary.plain_signed h1 (unary-plain h2)
    unary-plain (g.IsUnary.starred h1 h2) = p.IsPlainUnary.plain_starred h1 (unary-plain h2)
    unary-plain (g.IsUnary.receiver h1 h2 h3) = p.IsPlainUnary.plain_receiver h1 h2 (received-plain h3)
    unary-plain (g.IsUnary.receive_first h1 h2 h3 h4) = p.IsPlainUnary.plain_receive_first h1 h2 h3 (unary-plain h4)
    unary-plain (g.IsUnary.receive h1 h2 h3) = p.IsPlainUnary.plain_receive h1 h2 (unary-plain h3)

    pub expr-plain : {m : ℕ} {h : Bool} {w : Bool} {t : Expr} {s r : List Token} {d : ℕ} → g.IsExpr S m h w t s r d → p.IsPlainExpr (ahead S) m h w t s r d
    expr-plain (g.IsExpr.lone h1) = p.IsPlainExpr.plain_lone (unary-plain h1)
    expr-plain (g.IsExpr.level h1 h2) = p.IsPlainExpr.plain_level (expr-plain h1) (operands-plain h2)

    pub operand-plain : {m : ℕ} {h : Bool} {t : Token × Expr} {s r : List Token} {d : ℕ} → g.IsOperand S m h t s r d → p.IsPlainOperand (ahead S) m h t s r d
    operand-plain (g.IsOperand.operand h1 h2) = p.IsPlainOperand.plain_operand h1 (expr-plain h2)

    pub operands-plain : {m : ℕ} {h : Bool} {t : List (Token × Expr)} {s r : List Token} {d : ℕ} → g.AreOperands S m h t s r d → p.ArePlainOperands (ahead S) m h t s r d
    operands-plain (g.AreOperands.more_operands h1 h2) = p.ArePlainOperands.plain_more_operands (operand-plain h1) (operands-plain h2)
    operands-plain (g.AreOperands.no_operands h1) = p.ArePlainOperands.plain_no_operands

    pub value-plain : {t : ElementValue} {s r : List Token} {d : ℕ} → g.IsValue S t s r d → p.IsPlainValue (ahead S) t s r d
    value-plain (g.IsValue.value_expr h1) = p.IsPlainValue.plain_value_expr (expr-plain h1)
    value-plain (g.IsValue.value_literal h1 h2 h3) = p.IsPlainValue.plain_value_literal h1 (elements-plain h2) h3

    pub element-plain : {t : Element} {s r : List Token} {d : ℕ} → g.IsElement S t s r d → p.IsPlainElement (ahead S) t s r d
    element-plain (g.IsElement.plain_element h1 h2) = p.IsPlainElement.plain_lone_element (value-plain h1)
    element-plain (g.IsElement.keyed_element h1 h2 h3) = p.IsPlainElement.plain_keyed_element (value-plain h1) h2 (value-plain h3)

    pub elements-plain : {t : List Element} {s r : List Token} {d : ℕ} → g.AreElements S t s r d → p.ArePlainElements (ahead S) t s r d
    elements-plain (g.AreElements.last_element h1 h2) = p.ArePlainElements.plain_last_element (element-plain h1) (trail-plain h2)
    elements-plain (g.AreElements.more_elements h1 h2 h3 h4) = p.ArePlainElements.plain_more_elements (element-plain h1) h2 (elements-plain h4)
    elements-plain (g.AreElements.no_elements h1) = p.ArePlainElements.plain_no_elements

    pub exprs-plain : {h : Bool} {t : List Expr} {s r : List Token} {d : ℕ} → g.AreExprs S h t s r d → p.ArePlainExprs (ahead S) h t s r d
    exprs-plain (g.AreExprs.one_expr h1 h2) = p.ArePlainExprs.plain_one_expr (expr-plain h1)
    exprs-plain (g.AreExprs.more_exprs h1 h2 h3) = p.ArePlainExprs.plain_more_exprs (expr-plain h1) h2 (exprs-plain h3)

    pub simple-plain : {h : Bool} {t : Simple} {s r : List Token} {d : ℕ} → g.IsSimple S h t s r d → p.IsPlainSimple (ahead S) h t s r d
    simple-plain (g.IsSimple.assign h1 h2 h3) = p.IsPlainSimple.plain_assign (exprs-plain h1) h2 (exprs-plain h3)
    simple-plain (g.IsSimple.define h1 h2 h3) = p.IsPlainSimple.plain_define (exprs-plain h1) h2 (exprs-plain h3)
    simple-plain (g.IsSimple.expression h1 h2) = p.IsPlainSimple.plain_expression (expr-plain h1)
    simple-plain (g.IsSimple.send h1 h2 h3) = p.IsPlainSimple.plain_send (expr-plain h1) h2 (expr-plain h3)
    simple-plain (g.IsSimple.step h1 h2) = p.IsPlainSimple.plain_step (expr-plain h1) h2
    simple-plain (g.IsSimple.update h1 h2 h3) = p.IsPlainSimple.plain_update (expr-plain h1) h2 (expr-plain h3)

    pub const_spec-plain : {i : Bool} {t : ConstSpec} {s r : List Token} {d : ℕ} → g.IsConstSpec S i t s r d → p.IsPlainConstSpec (ahead S) i t s r d
    const_spec-plain (g.IsConstSpec.implicit h1 h2 h3) = p.IsPlainConstSpec.plain_implicit (idents-plain h1) h3
    const_spec-plain (g.IsConstSpec.untyped h1 h2 h3) = p.IsPlainConstSpec.plain_untyped (idents-plain h1) h2 (exprs-plain h3)
    const_spec-plain (g.IsConstSpec.typed_const h1 h2 h3 h4 h5 h6) = p.IsPlainConstSpec.plain_typed_const (idents-plain h1) (type-plain h4) h5 (exprs-plain h6)

    pub const_specs-plain : {i : Bool} {t : List ConstSpec} {s r : List Token} {d : ℕ} → g.AreConstSpecs S i t s r d → p.ArePlainConstSpecs (ahead S) i t s r d
    const_specs-plain (g.AreConstSpecs.last_const h1 h2) = p.ArePlainConstSpecs.plain_last_const (const_spec-plain h1)
    const_specs-plain (g.AreConstSpecs.more_consts h1 h2 h3) = p.ArePlainConstSpecs.plain_more_consts (const_spec-plain h1) h2 (const_specs-plain h3)
    const_specs-plain (g.AreConstSpecs.no_consts h1) = p.ArePlainConstSpecs.plain_no_consts

    pub type_spec-plain : {t : TypeSpec} {s r : List Token} {d : ℕ} → g.IsTypeSpec S t s r d → p.IsPlainTypeSpec (ahead S) t s r d
    type_spec-plain (g.IsTypeSpec.definition h1 h2 h3) = p.IsPlainTypeSpec.plain_definition h1 (type-plain h3)
    type_spec-plain (g.IsTypeSpec.alias h1 h2 h3) = p.IsPlainTypeSpec.plain_alias h1 h2 (type-plain h3)

    pub type_specs-plain : {t : List TypeSpec} {s r : List Token} {d : ℕ} → g.AreTypeSpecs S t s r d → p.ArePlainTypeSpecs (ahead S) t s r d
    type_specs-plain (g.AreTypeSpecs.last_type_spec h1 h2) = p.ArePlainTypeSpecs.plain_last_type_spec (type_spec-plain h1)
    type_specs-plain (g.AreTypeSpecs.more_type_specs h1 h2 h3) = p.ArePlainTypeSpecs.plain_more_type_specs (type_spec-plain h1) h2 (type_specs-plain h3)
    type_specs-plain (g.AreTypeSpecs.no_type_specs h1) = p.ArePlainTypeSpecs.plain_no_type_specs

    pub var_spec-plain : {t : VarSpec} {s r : List Token} {d : ℕ} → g.IsVarSpec S t s r d → p.IsPlainVarSpec (ahead S) t s r d
    var_spec-plain (g.IsVarSpec.var_values h1 h2 h3) = p.IsPlainVarSpec.plain_var_values (idents-plain h1) h2 (exprs-plain h3)
    var_spec-plain (g.IsVarSpec.typed_var h1 h2 h3 h4) = p.IsPlainVarSpec.plain_typed_var (idents-plain h1) (type-plain h3)
    var_spec-plain (g.IsVarSpec.typed_values h1 h2 h3 h4 h5) = p.IsPlainVarSpec.plain_typed_values (idents-plain h1) (type-plain h3) h4 (exprs-plain h5)

    pub var_specs-plain : {t : List VarSpec} {s r : List Token} {d : ℕ} → g.AreVarSpecs S t s r d → p.ArePlainVarSpecs (ahead S) t s r d
    var_specs-plain (g.AreVarSpecs.last_var h1 h2) = p.ArePlainVarSpecs.plain_last_var (var_spec-plain h1)
    var_specs-plain (g.AreVarSpecs.more_vars h1 h2 h3) = p.ArePlainVarSpecs.plain_more_vars (var_spec-plain h1) h2 (var_specs-plain h3)
    var_specs-plain (g.AreVarSpecs.no_vars h1) = p.ArePlainVarSpecs.plain_no_vars

    pub decl-plain : {t : Decl} {s r : List Token} {d : ℕ} → g.IsDecl S t s r d → p.IsPlainDecl (ahead S) t s r d
    decl-plain (g.IsDecl.const_decl h1 h2 h3) = p.IsPlainDecl.plain_const_decl h1 (const_spec-plain h3)
    decl-plain (g.IsDecl.const_group h1 h2 h3 h4) = p.IsPlainDecl.plain_const_group h1 h2 (const_specs-plain h3) h4
    decl-plain (g.IsDecl.type_decl h1 h2 h3) = p.IsPlainDecl.plain_type_decl h1 (type_spec-plain h3)
    decl-plain (g.IsDecl.type_group h1 h2 h3 h4) = p.IsPlainDecl.plain_type_group h1 h2 (type_specs-plain h3) h4
    decl-plain (g.IsDecl.var_decl h1 h2 h3) = p.IsPlainDecl.plain_var_decl h1 (var_spec-plain h3)
    decl-plain (g.IsDecl.var_group h1 h2 h3 h4) = p.IsPlainDecl.plain_var_group h1 h2 (var_specs-plain h3) h4

    pub values-plain : {t : List Expr} {s r : List Token} {d : ℕ} → g.AreValues S t s r d → p.ArePlainValues (ahead S) t s r d
    values-plain (g.AreValues.some_values h1) = p.ArePlainValues.plain_some_values (exprs-plain h1)
    values-plain (g.AreValues.no_values h1) = p.ArePlainValues.plain_no_values

    pub target-plain : {t : Option Token} {s r : List Token} {d : ℕ} → g.IsTarget S t s r d → p.IsPlainTarget (ahead S) t s r d
    target-plain (g.IsTarget.a_target h1) = p.IsPlainTarget.plain_a_target h1
    target-plain (g.IsTarget.no_target h1) = p.IsPlainTarget.plain_no_target

    pub arms-plain : {t : List Arm × Option Block} {s r : List Token} {d : ℕ} → g.AreArms S t s r d → p.ArePlainArms (ahead S) t s r d
    arms-plain (g.AreArms.last_arm h1 h2) = p.ArePlainArms.plain_last_arm (arm-plain h1)
    arms-plain (g.AreArms.more_arms h1 h2 h3 h4) = p.ArePlainArms.plain_more_arms (arm-plain h1) h2 h3 (arms-plain h4)
    arms-plain (g.AreArms.last_block h1 h2 h3 h4) = p.ArePlainArms.plain_last_block (arm-plain h1) h2 (block-plain h4)

    pub arm-plain : {t : Arm} {s r : List Token} {d : ℕ} → g.IsArm S t s r d → p.IsPlainArm (ahead S) t s r d
    arm-plain (g.IsArm.header_arm h1 h2 h3 h4) = p.IsPlainArm.plain_header_arm (simple-plain h1) h2 (expr-plain h3) (block-plain h4)
    arm-plain (g.IsArm.bare_arm h1 h2 h3) = p.IsPlainArm.plain_bare_arm (expr-plain h1) (block-plain h3)
    arm-plain (g.IsArm.empty_arm h1 h2 h3) = p.IsPlainArm.plain_empty_arm h1 (expr-plain h2) (block-plain h3)

    pub tag_value-plain : {t : Option Expr} {s r : List Token} {d : ℕ} → g.IsTagValue S t s r d → p.IsPlainTagValue (ahead S) t s r d
    tag_value-plain (g.IsTagValue.a_tag_value h1) = p.IsPlainTagValue.plain_a_tag_value (expr-plain h1)
    tag_value-plain (g.IsTagValue.no_tag_value h1) = p.IsPlainTagValue.plain_no_tag_value

    pub guard-plain : {t : Option (Token × Span) × Expr × Span} {s r : List Token} {d : ℕ} → g.IsGuard S t s r d → p.IsPlainGuard (ahead S) t s r d
    guard-plain (g.IsGuard.plain_guard h1 h2 h3 h4 h5 h6) = p.IsPlainGuard.plain_bare_guard (primary-plain h2) h3 h4 h5 h6
    guard-plain (g.IsGuard.named_guard h1 h2 h3 h4 h5 h6 h7) = p.IsPlainGuard.plain_named_guard h1 h2 (primary-plain h3) h4 h5 h6 h7

    pub clauses-plain : {t : List Clause} {s r : List Token} {d : ℕ} → g.AreClauses S t s r d → p.ArePlainClauses (ahead S) t s r d
    clauses-plain (g.AreClauses.a_case h1 h2 h3 h4 h5) = p.ArePlainClauses.plain_a_case h1 (exprs-plain h2) h3 (stmts-plain h4) (clauses-plain h5)
    clauses-plain (g.AreClauses.a_default h1 h2 h3 h4) = p.ArePlainClauses.plain_a_default h1 h2 (stmts-plain h3) (clauses-plain h4)
    clauses-plain (g.AreClauses.no_clauses h1) = p.ArePlainClauses.plain_no_clauses

    pub types-plain : {t : List TypeExpr} {s r : List Token} {d : ℕ} → g.AreTypes S t s r d → p.ArePlainTypes (ahead S) t s r d
    types-plain (g.AreTypes.one_type h1 h2) = p.ArePlainTypes.plain_one_type (type-plain h1)
    types-plain (g.AreTypes.more_cases h1 h2 h3) = p.ArePlainTypes.plain_more_cases (type-plain h1) h2 (types-plain h3)

    pub type_clauses-plain : {t : List TypeClause} {s r : List Token} {d : ℕ} → g.AreTypeClauses S t s r d → p.ArePlainTypeClauses (ahead S) t s r d
    type_clauses-plain (g.AreTypeClauses.a_type_case h1 h2 h3 h4 h5) = p.ArePlainTypeClauses.plain_a_type_case h1 (types-plain h2) h3 (stmts-plain h4) (type_clauses-plain h5)
    type_clauses-plain (g.AreTypeClauses.a_type_default h1 h2 h3 h4) = p.ArePlainTypeClauses.plain_a_type_default h1 h2 (stmts-plain h3) (type_clauses-plain h4)
    type_clauses-plain (g.AreTypeClauses.no_type_clauses h1) = p.ArePlainTypeClauses.plain_no_type_clauses

    pub comm-plain : {t : Comm} {s r : List Token} {d : ℕ} → g.IsComm S t s r d → p.IsPlainComm (ahead S) t s r d
    comm-plain (g.IsComm.comm_assign h1 h2 h3) = p.IsPlainComm.plain_comm_assign (exprs-plain h1) h2 (expr-plain h3)
    comm-plain (g.IsComm.comm_define h1 h2 h3) = p.IsPlainComm.plain_comm_define (exprs-plain h1) h2 (expr-plain h3)
    comm-plain (g.IsComm.comm_send h1 h2 h3) = p.IsPlainComm.plain_comm_send (expr-plain h1) h2 (expr-plain h3)
    comm-plain (g.IsComm.comm_receive h1 h2) = p.IsPlainComm.plain_comm_receive (expr-plain h1)

    pub comm_clauses-plain : {t : List CommClause} {s r : List Token} {d : ℕ} → g.AreCommClauses S t s r d → p.ArePlainCommClauses (ahead S) t s r d
    comm_clauses-plain (g.AreCommClauses.a_comm h1 h2 h3 h4 h5) = p.ArePlainCommClauses.plain_a_comm h1 (comm-plain h2) h3 (stmts-plain h4) (comm_clauses-plain h5)
    comm_clauses-plain (g.AreCommClauses.a_comm_default h1 h2 h3 h4) = p.ArePlainCommClauses.plain_a_comm_default h1 h2 (stmts-plain h3) (comm_clauses-plain h4)
    comm_clauses-plain (g.AreCommClauses.no_comms h1) = p.ArePlainCommClauses.plain_no_comms

    pub header-plain : {t : Simple} {s r : List Token} {d : ℕ} → g.IsHeader S t s r d → p.IsPlainHeader (ahead S) t s r d
    header-plain (g.IsHeader.init_header h1 h2) = p.IsPlainHeader.plain_init_header (simple-plain h1) h2
    header-plain (g.IsHeader.no_header h1) = p.IsPlainHeader.plain_no_header h1

    pub condition-plain : {t : Option Expr} {s r : List Token} {d : ℕ} → g.IsCondition S t s r d → p.IsPlainCondition (ahead S) t s r d
    condition-plain (g.IsCondition.a_condition h1) = p.IsPlainCondition.plain_a_condition (expr-plain h1)
    condition-plain (g.IsCondition.no_condition h1) = p.IsPlainCondition.plain_no_condition

    pub post-plain : {t : Simple} {s r : List Token} {d : ℕ} → g.IsPost S t s r d → p.IsPlainPost (ahead S) t s r d
    post-plain (g.IsPost.a_post h1 h2) = p.IsPlainPost.plain_a_post (simple-plain h1) h2
    post-plain (g.IsPost.no_post h1) = p.IsPlainPost.plain_no_post

    pub range_left-plain : {t : RangeLeft} {s r : List Token} {d : ℕ} → g.IsRangeLeft S t s r d → p.IsPlainRangeLeft (ahead S) t s r d
    range_left-plain (g.IsRangeLeft.range_assign h1 h2 h3) = p.IsPlainRangeLeft.plain_range_assign (exprs-plain h1) h2 h3
    range_left-plain (g.IsRangeLeft.range_define h1 h2 h3) = p.IsPlainRangeLeft.plain_range_define (exprs-plain h1) h2 h3
    range_left-plain (g.IsRangeLeft.no_range_left h1) = p.IsPlainRangeLeft.plain_no_range_left h1

    pub stmt-plain : {t : Stmt} {s r : List Token} {d : ℕ} → g.IsStmt S t s r d → p.IsPlainStmt (ahead S) t s r d
    stmt-plain (g.IsStmt.simple_stmt h1 h2) = p.IsPlainStmt.plain_simple_stmt (simple-plain h2)
    stmt-plain (g.IsStmt.declaration_stmt h1 h2) = p.IsPlainStmt.plain_declaration_stmt (decl-plain h2)
    stmt-plain (g.IsStmt.bare_label h1 h2 h3) = p.IsPlainStmt.plain_bare_label h1 h2
    stmt-plain (g.IsStmt.labeled h1 h2 h3 h4) = p.IsPlainStmt.plain_labeled h1 h2 (stmt-plain h4)
    stmt-plain (g.IsStmt.go h1 h2) = p.IsPlainStmt.plain_go h1 (expr-plain h2)
    stmt-plain (g.IsStmt.defer h1 h2) = p.IsPlainStmt.plain_defer h1 (expr-plain h2)
    stmt-plain (g.IsStmt.return h1 h2) = p.IsPlainStmt.plain_return h1 (values-plain h2)
    stmt-plain (g.IsStmt.break h1 h2) = p.IsPlainStmt.plain_break h1 (target-plain h2)
    stmt-plain (g.IsStmt.continue h1 h2) = p.IsPlainStmt.plain_continue h1 (target-plain h2)
    stmt-plain (g.IsStmt.goto h1 h2) = p.IsPlainStmt.plain_goto h1 h2
    stmt-plain (g.IsStmt.fallthrough h1) = p.IsPlainStmt.plain_fallthrough h1
    stmt-plain (g.IsStmt.block_stmt h1 h2 h3) = p.IsPlainStmt.plain_block_stmt h1 (stmts-plain h2) h3
    stmt-plain (g.IsStmt.if_stmt h1 h2) = p.IsPlainStmt.plain_if_stmt h1 (arms-plain h2)
    stmt-plain (g.IsStmt.header_type_switch h1 h2 h3 h4 h5 h6) = p.IsPlainStmt.plain_header_type_switch h1 (header-plain h2) (guard-plain h3) h4 (type_clauses-plain h5) h6
    stmt-plain (g.IsStmt.type_switch h1 h2 h3 h4 h5 h6) = p.IsPlainStmt.plain_type_switch h1 (guard-plain h3) h4 (type_clauses-plain h5) h6
    stmt-plain (g.IsStmt.header_switch h1 h2 h3 h4 h5 h6 h7) = p.IsPlainStmt.plain_header_switch h1 (header-plain h2) (tag_value-plain h4) h5 (clauses-plain h6) h7
    stmt-plain (g.IsStmt.switch h1 h2 h3 h4 h5 h6 h7) = p.IsPlainStmt.plain_switch h1 (tag_value-plain h4) h5 (clauses-plain h6) h7
    stmt-plain (g.IsStmt.select h1 h2 h3 h4) = p.IsPlainStmt.plain_select h1 h2 (comm_clauses-plain h3) h4
    stmt-plain (g.IsStmt.endless h1 h2 h3) = p.IsPlainStmt.plain_endless h1 (block-plain h3)
    stmt-plain (g.IsStmt.range h1 h2 h3 h4 h5) = p.IsPlainStmt.plain_range h1 (range_left-plain h3) (expr-plain h4) (block-plain h5)
    stmt-plain (g.IsStmt.loop h1 h2 h3 h4 h5 h6 h7 h8) = p.IsPlainStmt.plain_loop h1 (header-plain h4) (condition-plain h5) h6 (post-plain h7) (block-plain h8)
    stmt-plain (g.IsStmt.while h1 h2 h3 h4 h5 h6) = p.IsPlainStmt.plain_while h1 (expr-plain h5) (block-plain h6)

    pub stmts-plain : {t : List Stmt} {s r : List Token} {d : ℕ} → g.AreStmts S t s r d → p.ArePlainStmts (ahead S) t s r d
    stmts-plain (g.AreStmts.last_stmt h1 h2) = p.ArePlainStmts.plain_last_stmt (stmt-plain h1) h2
    stmts-plain (g.AreStmts.more_stmts h1 h2 h3) = p.ArePlainStmts.plain_more_stmts (stmt-plain h1) h2 (stmts-plain h3)
    stmts-plain (g.AreStmts.empty_stmt h1 h2) = p.ArePlainStmts.plain_empty_stmt h1 (stmts-plain h2)
    stmts-plain (g.AreStmts.no_stmts h1) = p.ArePlainStmts.plain_no_stmts

    pub import_spec-plain : {t : ImportSpec} {s r : List Token} {d : ℕ} → g.IsImportSpec S t s r d → p.IsPlainImportSpec (ahead S) t s r d
    import_spec-plain (g.IsImportSpec.plain_import h1) = p.IsPlainImportSpec.plain_path_import h1
    import_spec-plain (g.IsImportSpec.dot_import h1 h2) = p.IsPlainImportSpec.plain_dot_import h1 h2
    import_spec-plain (g.IsImportSpec.named_import h1 h2) = p.IsPlainImportSpec.plain_named_import h1 h2

    pub import_specs-plain : {t : List ImportSpec} {s r : List Token} {d : ℕ} → g.AreImportSpecs S t s r d → p.ArePlainImportSpecs (ahead S) t s r d
    import_specs-plain (g.AreImportSpecs.last_import h1 h2) = p.ArePlainImportSpecs.plain_last_import (import_spec-plain h1)
    import_specs-plain (g.AreImportSpecs.more_imports h1 h2 h3) = p.ArePlainImportSpecs.plain_more_imports (import_spec-plain h1) h2 (import_specs-plain h3)
    import_specs-plain (g.AreImportSpecs.no_imports h1) = p.ArePlainImportSpecs.plain_no_imports

    pub body-plain : {t : Option Block} {s r : List Token} {d : ℕ} → g.IsBody S t s r d → p.IsPlainBody (ahead S) t s r d
    body-plain (g.IsBody.a_body h1) = p.IsPlainBody.plain_a_body (block-plain h1)
    body-plain (g.IsBody.no_body h1) = p.IsPlainBody.plain_no_body

    pub top-plain : {t : Top} {s r : List Token} {d : ℕ} → g.IsTop S t s r d → p.IsPlainTop (ahead S) t s r d
    top-plain (g.IsTop.declaration h1 h2) = p.IsPlainTop.plain_declaration (decl-plain h2)
    top-plain (g.IsTop.function h1 h2 h3 h4) = p.IsPlainTop.plain_function h1 h2 (signature-plain h3) (body-plain h4)
    top-plain (g.IsTop.method_decl h1 h2 h3 h4 h5 h6 h7) = p.IsPlainTop.plain_method_decl h1 (params-plain h3) h4 h5 (signature-plain h6) (body-plain h7)

    pub chunk-plain : {t : Chunk} {s r : List Token} {d : ℕ} → g.IsChunk S t s r d → p.IsPlainChunk (ahead S) t s r d
    chunk-plain (g.IsChunk.top_chunk h1 h2) = p.IsPlainChunk.plain_top_chunk (top-plain h1) h2
    chunk-plain (g.IsChunk.package_clause h1 h2 h3) = p.IsPlainChunk.plain_package_clause h1 h2 h3
    chunk-plain (g.IsChunk.import_decl h1 h2 h3 h4) = p.IsPlainChunk.plain_import_decl h1 (import_spec-plain h3) h4
    chunk-plain (g.IsChunk.import_group h1 h2 h3 h4 h5) = p.IsPlainChunk.plain_import_group h1 h2 (import_specs-plain h3) h4 h5
