-- What stands takes its tokens.
use Rattle.std.proofs.Common.{ℕ, Bool, List, Option}
use Rattle.gs_syntax.specs.declared.token.Span.{Span}
use Rattle.gs_syntax.specs.declared.token.Token.{Token}
use Rattle.gs_grammar.specs.declared.trees.Chunk.{Chunk}
use Rattle.gs_grammar.specs.declared.trees.ImportSpec.{ImportSpec}
use Rattle.gs_grammar.specs.declared.trees.Top.{Top}
use Rattle.gs_grammar.specs.declared.trees.Decl.{Decl}
use Rattle.gs_grammar.specs.declared.trees.ConstSpec.{ConstSpec}
use Rattle.gs_grammar.specs.declared.trees.TypeSpec.{TypeSpec}
use Rattle.gs_grammar.specs.declared.trees.VarSpec.{VarSpec}
use Rattle.gs_grammar.specs.declared.trees.TypeExpr.{TypeExpr}
use Rattle.gs_grammar.specs.declared.trees.Signature.{Signature}
use Rattle.gs_grammar.specs.declared.trees.Parameters.{Parameters}
use Rattle.gs_grammar.specs.declared.trees.Parameter.{Parameter}
use Rattle.gs_grammar.specs.declared.trees.Field.{Field}
use Rattle.gs_grammar.specs.declared.trees.Member.{Member}
use Rattle.gs_grammar.specs.declared.trees.Expr.{Expr}
use Rattle.gs_grammar.specs.declared.trees.Suffix.{Suffix}
use Rattle.gs_grammar.specs.declared.trees.LiteralValue.{LiteralValue}
use Rattle.gs_grammar.specs.declared.trees.Element.{Element}
use Rattle.gs_grammar.specs.declared.trees.ElementValue.{ElementValue}
use Rattle.gs_grammar.specs.declared.trees.Block.{Block}
use Rattle.gs_grammar.specs.declared.trees.Stmt.{Stmt}
use Rattle.gs_grammar.specs.declared.trees.Simple.{Simple}
use Rattle.gs_grammar.specs.declared.trees.Arm.{Arm}
use Rattle.gs_grammar.specs.declared.trees.Clause.{Clause}
use Rattle.gs_grammar.specs.declared.trees.TypeClause.{TypeClause}
use Rattle.gs_grammar.specs.declared.trees.CommClause.{CommClause}
use Rattle.gs_grammar.specs.declared.trees.Comm.{Comm}
use Rattle.gs_grammar.specs.declared.trees.RangeLeft.{RangeLeft}
use Rattle.gs_grammar.specs.Grammar as g
use Rattle.gs_grammar.proofs.Common.{Ends, here, After, to_ends, After-trans, Full, full-After, After-mark, After-word, After-name, After-text, After-front, Ends-trail}

mutual
  pub After-idents : {S : g.Part → List Token → List Token → Type 0} {t : List Token} {s r : List Token} {d : ℕ} → g.AreNames S t s r d → After s r
  After-idents (g.AreNames.one_name h1 h2) = After-name h1
  After-idents (g.AreNames.more_names h1 h2 h3) = After-trans (After-trans (After-name h1) (to_ends (After-mark h2))) (to_ends (After-idents h3))

  pub After-type_name : {S : g.Part → List Token → List Token → Type 0} {t : TypeExpr} {s r : List Token} {d : ℕ} → g.IsTypeName S t s r d → After s r
  After-type_name (g.IsTypeName.bare h1 h2) = After-name h1
  After-type_name (g.IsTypeName.qualified h1 h2 h3) = After-trans (After-trans (After-name h1) (to_ends (After-mark h2))) (to_ends (After-name h3))

  pub After-type : {S : g.Part → List Token → List Token → Type 0} {t : TypeExpr} {s r : List Token} {d : ℕ} → g.IsType S t s r d → After s r
  After-type (g.IsType.named h1) = After-type_name h1
  After-type (g.IsType.paren_type h1 h2 h3) = After-trans (After-trans (After-mark h1) (to_ends (After-type h2))) (to_ends (After-mark h3))
  After-type (g.IsType.pointer h1 h2) = After-trans (After-mark h1) (to_ends (After-type h2))
  After-type (g.IsType.slice h1 h2 h3) = After-trans (After-trans (After-mark h1) (to_ends (After-mark h2))) (to_ends (After-type h3))
  After-type (g.IsType.array h1 h2 h3 h4 h5 h6) = After-trans (After-trans (After-trans (After-mark h1) (to_ends (After-expr h4))) (to_ends (After-mark h5))) (to_ends (After-type h6))
  After-type (g.IsType.map_type h1 h2 h3 h4 h5) = After-trans (After-trans (After-trans (After-trans (After-word h1) (to_ends (After-mark h2))) (to_ends (After-type h3))) (to_ends (After-mark h4))) (to_ends (After-type h5))
  After-type (g.IsType.channel h1 h2 h3) = After-trans (After-word h1) (to_ends (After-type h3))
  After-type (g.IsType.send_channel h1 h2 h3) = After-trans (After-trans (After-word h1) (to_ends (After-mark h2))) (to_ends (After-type h3))
  After-type (g.IsType.receive_channel h1 h2 h3) = After-trans (After-trans (After-mark h1) (to_ends (After-word h2))) (to_ends (After-type h3))
  After-type (g.IsType.function_type h1 h2) = After-trans (After-word h1) (to_ends (After-signature h2))
  After-type (g.IsType.struct_type h1 h2 h3 h4) = After-trans (After-trans (After-trans (After-word h1) (to_ends (After-mark h2))) (Ends-fields h3)) (to_ends (After-mark h4))
  After-type (g.IsType.interface_type h1 h2 h3 h4) = After-trans (After-trans (After-trans (After-word h1) (to_ends (After-mark h2))) (Ends-members h3)) (to_ends (After-mark h4))

  pub After-unnamed : {S : g.Part → List Token → List Token → Type 0} {v : Bool} {t : List Parameter} {s r : List Token} {d : ℕ} → g.AreUnnamed S v t s r d → After s r
  After-unnamed (g.AreUnnamed.last_type h1 h2) = After-trans (After-type h1) (Ends-trail h2)
  After-unnamed (g.AreUnnamed.more_types h1 h2 h3 h4) = After-trans (After-trans (After-type h1) (to_ends (After-mark h2))) (to_ends (After-unnamed h4))
  After-unnamed (g.AreUnnamed.last_dots h1 h2 h3 h4) = After-trans (After-trans (After-mark h1) (to_ends (After-type h3))) (Ends-trail h4)

  pub After-named_params : {S : g.Part → List Token → List Token → Type 0} {v : Bool} {t : List Parameter} {s r : List Token} {d : ℕ} → g.AreNamed S v t s r d → After s r
  After-named_params (g.AreNamed.last_named_dots h1 h2 h3 h4 h5 h6) = After-trans (After-trans (After-trans (After-idents h1) (to_ends (After-mark h2))) (to_ends (After-type h5))) (Ends-trail h6)
  After-named_params (g.AreNamed.last_named h1 h2 h3 h4) = After-trans (After-trans (After-idents h1) (to_ends (After-type h3))) (Ends-trail h4)
  After-named_params (g.AreNamed.more_named h1 h2 h3 h4 h5 h6) = After-trans (After-trans (After-trans (After-idents h1) (to_ends (After-type h3))) (to_ends (After-mark h4))) (to_ends (After-named_params h6))

  pub After-params : {S : g.Part → List Token → List Token → Type 0} {v : Bool} {t : Parameters} {s r : List Token} {d : ℕ} → g.AreParams S v t s r d → After s r
  After-params (g.AreParams.no_params h1 h2) = After-trans (After-mark h1) (to_ends (After-mark h2))
  After-params (g.AreParams.named_list h1 h2 h3 h4) = After-trans (After-trans (After-mark h1) (to_ends (After-named_params h3))) (to_ends (After-mark h4))
  After-params (g.AreParams.unnamed_list h1 h2 h3 h4 h5) = After-trans (After-trans (After-mark h1) (to_ends (After-unnamed h4))) (to_ends (After-mark h5))

  pub After-signature : {S : g.Part → List Token → List Token → Type 0} {t : Signature} {s r : List Token} {d : ℕ} → g.IsSignature S t s r d → After s r
  After-signature (g.IsSignature.results h1 h2 h3) = After-trans (After-params h1) (to_ends (After-params h3))
  After-signature (g.IsSignature.result h1 h2 h3) = After-trans (After-params h1) (to_ends (After-type h3))
  After-signature (g.IsSignature.plain h1 h2 h3) = After-params h1

  pub Ends-tag : {S : g.Part → List Token → List Token → Type 0} {t : Option Token} {s r : List Token} {d : ℕ} → g.IsTag S t s r d → Ends s r
  Ends-tag (g.IsTag.a_tag h1) = to_ends (After-text h1)
  Ends-tag (g.IsTag.no_tag h1) = here

  pub After-field : {S : g.Part → List Token → List Token → Type 0} {t : Field} {s r : List Token} {d : ℕ} → g.IsField S t s r d → After s r
  After-field (g.IsField.named_field h1 h2 h3 h4 h5) = After-trans (After-trans (After-idents h1) (to_ends (After-type h4))) (Ends-tag h5)
  After-field (g.IsField.embedded_field h1 h2 h3) = After-trans (After-name h1) (Ends-tag h3)
  After-field (g.IsField.qualified_field h1 h2 h3 h4) = After-trans (After-trans (After-trans (After-name h1) (to_ends (After-mark h2))) (to_ends (After-name h3))) (Ends-tag h4)
  After-field (g.IsField.pointer_field h1 h2 h3) = After-trans (After-trans (After-mark h1) (to_ends (After-type_name h2))) (Ends-tag h3)

  pub Ends-fields : {S : g.Part → List Token → List Token → Type 0} {t : List Field} {s r : List Token} {d : ℕ} → g.AreFields S t s r d → Ends s r
  Ends-fields (g.AreFields.last_field h1 h2) = to_ends (After-field h1)
  Ends-fields (g.AreFields.more_fields h1 h2 h3) = to_ends (After-trans (After-trans (After-field h1) (to_ends (After-front h2))) (Ends-fields h3))
  Ends-fields (g.AreFields.no_fields h1) = here

  pub After-member : {S : g.Part → List Token → List Token → Type 0} {t : Member} {s r : List Token} {d : ℕ} → g.IsMember S t s r d → After s r
  After-member (g.IsMember.method h1 h2 h3) = After-trans (After-name h1) (to_ends (After-signature h3))
  After-member (g.IsMember.embedded_interface h1 h2 h3) = After-name h1
  After-member (g.IsMember.qualified_interface h1 h2 h3) = After-trans (After-trans (After-name h1) (to_ends (After-mark h2))) (to_ends (After-name h3))

  pub Ends-members : {S : g.Part → List Token → List Token → Type 0} {t : List Member} {s r : List Token} {d : ℕ} → g.AreMembers S t s r d → Ends s r
  Ends-members (g.AreMembers.last_member h1 h2) = to_ends (After-member h1)
  Ends-members (g.AreMembers.more_members h1 h2 h3) = to_ends (After-trans (After-trans (After-member h1) (to_ends (After-front h2))) (Ends-members h3))
  Ends-members (g.AreMembers.no_members h1) = here

  pub After-literal : {S : g.Part → List Token → List Token → Type 0} {t : LiteralValue} {s r : List Token} {d : ℕ} → g.IsLiteral S t s r d → After s r
  After-literal (g.IsLiteral.values_in_braces h1 h2 h3) = After-trans (After-trans (After-mark h1) (Ends-elements h2)) (to_ends (After-mark h3))

  pub After-selected : {S : g.Part → List Token → List Token → Type 0} {t : Token × LiteralValue} {s r : List Token} {d : ℕ} → g.IsSelected S t s r d → After s r
  After-selected (g.IsSelected.selected_literal h1 h2 h3) = After-trans (After-trans (After-mark h1) (to_ends (After-name h2))) (to_ends (After-literal h3))

  pub After-block : {S : g.Part → List Token → List Token → Type 0} {t : Block} {s r : List Token} {d : ℕ} → g.IsBlock S t s r d → After s r
  After-block (g.IsBlock.braces h1 h2 h3) = After-trans (After-trans (After-mark h1) (Ends-stmts h2)) (to_ends (After-mark h3))

  pub After-received : {S : g.Part → List Token → List Token → Type 0} {t : TypeExpr} {s r : List Token} {d : ℕ} → g.IsReceived S t s r d → After s r
  After-received (g.IsReceived.received h1 h2 h3) = After-trans (After-word h1) (to_ends (After-type h2))

  pub After-head : {S : g.Part → List Token → List Token → Type 0} {h : Bool} {t : Expr} {s r : List Token} {d : ℕ} → g.IsHead S h t s r d → After s r
  After-head (g.IsHead.basic_literal h1) = After-front h1
  After-head (g.IsHead.header_name h1 h2) = After-name h1
  After-head (g.IsHead.literal_of_selected h1 h2 h3) = After-trans (After-name h1) (to_ends (After-selected h3))
  After-head (g.IsHead.name h1 h2 h3 h4) = After-name h1
  After-head (g.IsHead.literal_of_name h1 h2 h3 h4) = After-trans (After-name h1) (to_ends (After-literal h4))
  After-head (g.IsHead.paren h1 h2 h3) = After-trans (After-trans (After-mark h1) (to_ends (After-expr h2))) (to_ends (After-mark h3))
  After-head (g.IsHead.literal_of_type h1 h2 h3) = After-trans (After-type h2) (to_ends (After-literal h3))
  After-head (g.IsHead.composite_type h1 h2 h3) = After-type h2
  After-head (g.IsHead.counted_literal h1 h2 h3 h4 h5) = After-trans (After-trans (After-trans (After-trans (After-mark h1) (to_ends (After-mark h2))) (to_ends (After-mark h3))) (to_ends (After-type h4))) (to_ends (After-literal h5))
  After-head (g.IsHead.other_type h1 h2) = After-type h2
  After-head (g.IsHead.function_literal h1 h2 h3) = After-trans (After-trans (After-word h1) (to_ends (After-signature h2))) (to_ends (After-block h3))
  After-head (g.IsHead.lone_function_type h1 h2 h3) = After-trans (After-word h1) (to_ends (After-signature h2))

  pub Ends-bound : {S : g.Part → List Token → List Token → Type 0} {t : Option Expr} {s r : List Token} {d : ℕ} → g.IsBound S t s r d → Ends s r
  Ends-bound (g.IsBound.a_bound h1) = to_ends (After-expr h1)
  Ends-bound (g.IsBound.no_bound h1) = here

  pub Ends-args : {S : g.Part → List Token → List Token → Type 0} {t : List Expr × Option Span} {s r : List Token} {d : ℕ} → g.AreArgs S t s r d → Ends s r
  Ends-args (g.AreArgs.spread h1 h2 h3) = to_ends (After-trans (After-trans (After-expr h1) (to_ends (After-mark h2))) (Ends-trail h3))
  Ends-args (g.AreArgs.last_arg h1 h2 h3) = to_ends (After-trans (After-expr h1) (Ends-trail h3))
  Ends-args (g.AreArgs.more_args h1 h2 h3 h4) = to_ends (After-trans (After-trans (After-expr h1) (to_ends (After-mark h2))) (Ends-args h4))
  Ends-args (g.AreArgs.no_args h1) = here

  pub After-suffix : {S : g.Part → List Token → List Token → Type 0} {t : Suffix} {s r : List Token} {d : ℕ} → g.IsSuffix S t s r d → After s r
  After-suffix (g.IsSuffix.selector h1 h2) = After-trans (After-mark h1) (to_ends (After-name h2))
  After-suffix (g.IsSuffix.assertion h1 h2 h3 h4) = After-trans (After-trans (After-trans (After-mark h1) (to_ends (After-mark h2))) (to_ends (After-type h3))) (to_ends (After-mark h4))
  After-suffix (g.IsSuffix.open_slice h1 h2 h3 h4) = After-trans (After-trans (After-trans (After-mark h1) (to_ends (After-mark h2))) (Ends-bound h3)) (to_ends (After-mark h4))
  After-suffix (g.IsSuffix.open_full_slice h1 h2 h3 h4 h5 h6) = After-trans (After-trans (After-trans (After-trans (After-trans (After-mark h1) (to_ends (After-mark h2))) (to_ends (After-expr h3))) (to_ends (After-mark h4))) (to_ends (After-expr h5))) (to_ends (After-mark h6))
  After-suffix (g.IsSuffix.index h1 h2 h3 h4) = After-trans (After-trans (After-mark h1) (to_ends (After-expr h3))) (to_ends (After-mark h4))
  After-suffix (g.IsSuffix.slice_expr h1 h2 h3 h4 h5 h6) = After-trans (After-trans (After-trans (After-trans (After-mark h1) (to_ends (After-expr h3))) (to_ends (After-mark h4))) (Ends-bound h5)) (to_ends (After-mark h6))
  After-suffix (g.IsSuffix.full_slice h1 h2 h3 h4 h5 h6 h7 h8) = After-trans (After-trans (After-trans (After-trans (After-trans (After-trans (After-mark h1) (to_ends (After-expr h3))) (to_ends (After-mark h4))) (to_ends (After-expr h5))) (to_ends (After-mark h6))) (to_ends (After-expr h7))) (to_ends (After-mark h8))
  After-suffix (g.IsSuffix.call h1 h2 h3) = After-trans (After-trans (After-mark h1) (Ends-args h2)) (to_ends (After-mark h3))

  pub Ends-suffixes : {S : g.Part → List Token → List Token → Type 0} {t : List Suffix} {s r : List Token} {d : ℕ} → g.AreSuffixes S t s r d → Ends s r
  Ends-suffixes (g.AreSuffixes.more_suffixes h1 h2) = to_ends (After-trans (After-suffix h1) (Ends-suffixes h2))
  Ends-suffixes (g.AreSuffixes.no_suffixes h1) = here

  pub After-primary : {S : g.Part → List Token → List Token → Type 0} {h : Bool} {t : Expr} {s r : List Token} {d : ℕ} → g.IsPrimary S h t s r d → After s r
  After-primary (g.IsPrimary.primary h1 h2) = After-trans (After-head h1) (Ends-suffixes h2)

  pub After-unary : {S : g.Part → List Token → List Token → Type 0} {h : Bool} {w : Bool} {t : Expr} {s r : List Token} {d : ℕ} → g.IsUnary S h w t s r d → After s r
  After-unary (g.IsUnary.bare_primary h1) = After-primary h1
  After-unary (g.IsUnary.signed h1 h2) = After-trans (After-front h1) (to_ends (After-unary h2))
  After-unary (g.IsUnary.starred h1 h2) = After-trans (After-mark h1) (to_ends (After-unary h2))
  After-unary (g.IsUnary.receiver h1 h2 h3) = After-trans (After-mark h1) (to_ends (After-received h3))
  After-unary (g.IsUnary.receive_first h1 h2 h3 h4) = After-trans (After-mark h1) (to_ends (After-unary h4))
  After-unary (g.IsUnary.receive h1 h2 h3) = After-trans (After-mark h1) (to_ends (After-unary h3))

  pub After-expr : {S : g.Part → List Token → List Token → Type 0} {m : ℕ} {h : Bool} {w : Bool} {t : Expr} {s r : List Token} {d : ℕ} → g.IsExpr S m h w t s r d → After s r
  After-expr (g.IsExpr.lone p) = After-unary p
  After-expr (g.IsExpr.level p q) = After-trans (After-expr p) (Ends-operands q)

  pub After-operand : {S : g.Part → List Token → List Token → Type 0} {m : ℕ} {h : Bool} {t : Token × Expr} {s r : List Token} {d : ℕ} → g.IsOperand S m h t s r d → After s r
  After-operand (g.IsOperand.operand h1 h2) = After-trans (After-front h1) (to_ends (After-expr h2))

  pub Ends-operands : {S : g.Part → List Token → List Token → Type 0} {m : ℕ} {h : Bool} {t : List (Token × Expr)} {s r : List Token} {d : ℕ} → g.AreOperands S m h t s r d → Ends s r
  Ends-operands (g.AreOperands.more_operands h1 h2) = to_ends (After-trans (After-operand h1) (Ends-operands h2))
  Ends-operands (g.AreOperands.no_operands h1) = here

  pub After-value : {S : g.Part → List Token → List Token → Type 0} {t : ElementValue} {s r : List Token} {d : ℕ} → g.IsValue S t s r d → After s r
  After-value (g.IsValue.value_expr h1) = After-expr h1
  After-value (g.IsValue.value_literal h1 h2 h3) = After-trans (After-trans (After-mark h1) (Ends-elements h2)) (to_ends (After-mark h3))

  pub After-element : {S : g.Part → List Token → List Token → Type 0} {t : Element} {s r : List Token} {d : ℕ} → g.IsElement S t s r d → After s r
  After-element (g.IsElement.plain_element h1 h2) = After-value h1
  After-element (g.IsElement.keyed_element h1 h2 h3) = After-trans (After-trans (After-value h1) (to_ends (After-mark h2))) (to_ends (After-value h3))

  pub Ends-elements : {S : g.Part → List Token → List Token → Type 0} {t : List Element} {s r : List Token} {d : ℕ} → g.AreElements S t s r d → Ends s r
  Ends-elements (g.AreElements.last_element h1 h2) = to_ends (After-trans (After-element h1) (Ends-trail h2))
  Ends-elements (g.AreElements.more_elements h1 h2 h3 h4) = to_ends (After-trans (After-trans (After-element h1) (to_ends (After-mark h2))) (Ends-elements h4))
  Ends-elements (g.AreElements.no_elements h1) = here

  pub After-exprs : {S : g.Part → List Token → List Token → Type 0} {h : Bool} {t : List Expr} {s r : List Token} {d : ℕ} → g.AreExprs S h t s r d → After s r
  After-exprs (g.AreExprs.one_expr h1 h2) = After-expr h1
  After-exprs (g.AreExprs.more_exprs h1 h2 h3) = After-trans (After-trans (After-expr h1) (to_ends (After-mark h2))) (to_ends (After-exprs h3))

  pub After-simple : {S : g.Part → List Token → List Token → Type 0} {h : Bool} {t : Simple} {s r : List Token} {d : ℕ} → g.IsSimple S h t s r d → After s r
  After-simple (g.IsSimple.assign h1 h2 h3) = After-trans (After-trans (After-exprs h1) (to_ends (After-mark h2))) (to_ends (After-exprs h3))
  After-simple (g.IsSimple.define h1 h2 h3) = After-trans (After-trans (After-exprs h1) (to_ends (After-mark h2))) (to_ends (After-exprs h3))
  After-simple (g.IsSimple.expression h1 h2) = After-expr h1
  After-simple (g.IsSimple.send h1 h2 h3) = After-trans (After-trans (After-expr h1) (to_ends (After-mark h2))) (to_ends (After-expr h3))
  After-simple (g.IsSimple.step h1 h2) = After-trans (After-expr h1) (to_ends (After-front h2))
  After-simple (g.IsSimple.update h1 h2 h3) = After-trans (After-trans (After-expr h1) (to_ends (After-front h2))) (to_ends (After-expr h3))

  pub After-const_spec : {S : g.Part → List Token → List Token → Type 0} {i : Bool} {t : ConstSpec} {s r : List Token} {d : ℕ} → g.IsConstSpec S i t s r d → After s r
  After-const_spec (g.IsConstSpec.implicit h1 h2 h3) = After-idents h1
  After-const_spec (g.IsConstSpec.untyped h1 h2 h3) = After-trans (After-trans (After-idents h1) (to_ends (After-mark h2))) (to_ends (After-exprs h3))
  After-const_spec (g.IsConstSpec.typed_const h1 h2 h3 h4 h5 h6) = After-trans (After-trans (After-trans (After-idents h1) (to_ends (After-type h4))) (to_ends (After-mark h5))) (to_ends (After-exprs h6))

  pub Ends-const_specs : {S : g.Part → List Token → List Token → Type 0} {i : Bool} {t : List ConstSpec} {s r : List Token} {d : ℕ} → g.AreConstSpecs S i t s r d → Ends s r
  Ends-const_specs (g.AreConstSpecs.last_const h1 h2) = to_ends (After-const_spec h1)
  Ends-const_specs (g.AreConstSpecs.more_consts h1 h2 h3) = to_ends (After-trans (After-trans (After-const_spec h1) (to_ends (After-front h2))) (Ends-const_specs h3))
  Ends-const_specs (g.AreConstSpecs.no_consts h1) = here

  pub After-type_spec : {S : g.Part → List Token → List Token → Type 0} {t : TypeSpec} {s r : List Token} {d : ℕ} → g.IsTypeSpec S t s r d → After s r
  After-type_spec (g.IsTypeSpec.definition h1 h2 h3) = After-trans (After-name h1) (to_ends (After-type h3))
  After-type_spec (g.IsTypeSpec.alias h1 h2 h3) = After-trans (After-trans (After-name h1) (to_ends (After-mark h2))) (to_ends (After-type h3))

  pub Ends-type_specs : {S : g.Part → List Token → List Token → Type 0} {t : List TypeSpec} {s r : List Token} {d : ℕ} → g.AreTypeSpecs S t s r d → Ends s r
  Ends-type_specs (g.AreTypeSpecs.last_type_spec h1 h2) = to_ends (After-type_spec h1)
  Ends-type_specs (g.AreTypeSpecs.more_type_specs h1 h2 h3) = to_ends (After-trans (After-trans (After-type_spec h1) (to_ends (After-front h2))) (Ends-type_specs h3))
  Ends-type_specs (g.AreTypeSpecs.no_type_specs h1) = here

  pub After-var_spec : {S : g.Part → List Token → List Token → Type 0} {t : VarSpec} {s r : List Token} {d : ℕ} → g.IsVarSpec S t s r d → After s r
  After-var_spec (g.IsVarSpec.var_values h1 h2 h3) = After-trans (After-trans (After-idents h1) (to_ends (After-mark h2))) (to_ends (After-exprs h3))
  After-var_spec (g.IsVarSpec.typed_var h1 h2 h3 h4) = After-trans (After-idents h1) (to_ends (After-type h3))
  After-var_spec (g.IsVarSpec.typed_values h1 h2 h3 h4 h5) = After-trans (After-trans (After-trans (After-idents h1) (to_ends (After-type h3))) (to_ends (After-mark h4))) (to_ends (After-exprs h5))

  pub Ends-var_specs : {S : g.Part → List Token → List Token → Type 0} {t : List VarSpec} {s r : List Token} {d : ℕ} → g.AreVarSpecs S t s r d → Ends s r
  Ends-var_specs (g.AreVarSpecs.last_var h1 h2) = to_ends (After-var_spec h1)
  Ends-var_specs (g.AreVarSpecs.more_vars h1 h2 h3) = to_ends (After-trans (After-trans (After-var_spec h1) (to_ends (After-front h2))) (Ends-var_specs h3))
  Ends-var_specs (g.AreVarSpecs.no_vars h1) = here

  pub After-decl : {S : g.Part → List Token → List Token → Type 0} {t : Decl} {s r : List Token} {d : ℕ} → g.IsDecl S t s r d → After s r
  After-decl (g.IsDecl.const_decl h1 h2 h3) = After-trans (After-word h1) (to_ends (After-const_spec h3))
  After-decl (g.IsDecl.const_group h1 h2 h3 h4) = After-trans (After-trans (After-trans (After-word h1) (to_ends (After-mark h2))) (Ends-const_specs h3)) (to_ends (After-mark h4))
  After-decl (g.IsDecl.type_decl h1 h2 h3) = After-trans (After-word h1) (to_ends (After-type_spec h3))
  After-decl (g.IsDecl.type_group h1 h2 h3 h4) = After-trans (After-trans (After-trans (After-word h1) (to_ends (After-mark h2))) (Ends-type_specs h3)) (to_ends (After-mark h4))
  After-decl (g.IsDecl.var_decl h1 h2 h3) = After-trans (After-word h1) (to_ends (After-var_spec h3))
  After-decl (g.IsDecl.var_group h1 h2 h3 h4) = After-trans (After-trans (After-trans (After-word h1) (to_ends (After-mark h2))) (Ends-var_specs h3)) (to_ends (After-mark h4))

  pub Ends-values : {S : g.Part → List Token → List Token → Type 0} {t : List Expr} {s r : List Token} {d : ℕ} → g.AreValues S t s r d → Ends s r
  Ends-values (g.AreValues.some_values h1) = to_ends (After-exprs h1)
  Ends-values (g.AreValues.no_values h1) = here

  pub Ends-target : {S : g.Part → List Token → List Token → Type 0} {t : Option Token} {s r : List Token} {d : ℕ} → g.IsTarget S t s r d → Ends s r
  Ends-target (g.IsTarget.a_target h1) = to_ends (After-name h1)
  Ends-target (g.IsTarget.no_target h1) = here

  pub After-arms : {S : g.Part → List Token → List Token → Type 0} {t : List Arm × Option Block} {s r : List Token} {d : ℕ} → g.AreArms S t s r d → After s r
  After-arms (g.AreArms.last_arm h1 h2) = After-arm h1
  After-arms (g.AreArms.more_arms h1 h2 h3 h4) = After-trans (After-trans (After-trans (After-arm h1) (to_ends (After-word h2))) (to_ends (After-word h3))) (to_ends (After-arms h4))
  After-arms (g.AreArms.last_block h1 h2 h3 h4) = After-trans (After-trans (After-arm h1) (to_ends (After-word h2))) (to_ends (After-block h4))

  pub After-arm : {S : g.Part → List Token → List Token → Type 0} {t : Arm} {s r : List Token} {d : ℕ} → g.IsArm S t s r d → After s r
  After-arm (g.IsArm.header_arm h1 h2 h3 h4) = After-trans (After-trans (After-trans (After-simple h1) (to_ends (After-front h2))) (to_ends (After-expr h3))) (to_ends (After-block h4))
  After-arm (g.IsArm.bare_arm h1 h2 h3) = After-trans (After-expr h1) (to_ends (After-block h3))
  After-arm (g.IsArm.empty_arm h1 h2 h3) = After-trans (After-trans (After-front h1) (to_ends (After-expr h2))) (to_ends (After-block h3))

  pub Ends-tag_value : {S : g.Part → List Token → List Token → Type 0} {t : Option Expr} {s r : List Token} {d : ℕ} → g.IsTagValue S t s r d → Ends s r
  Ends-tag_value (g.IsTagValue.a_tag_value h1) = to_ends (After-expr h1)
  Ends-tag_value (g.IsTagValue.no_tag_value h1) = here

  pub After-guard : {S : g.Part → List Token → List Token → Type 0} {t : Option (Token × Span) × Expr × Span} {s r : List Token} {d : ℕ} → g.IsGuard S t s r d → After s r
  After-guard (g.IsGuard.plain_guard h1 h2 h3 h4 h5 h6) = After-trans (After-trans (After-trans (After-trans (After-primary h2) (to_ends (After-mark h3))) (to_ends (After-mark h4))) (to_ends (After-word h5))) (to_ends (After-mark h6))
  After-guard (g.IsGuard.named_guard h1 h2 h3 h4 h5 h6 h7) = After-trans (After-trans (After-trans (After-trans (After-trans (After-trans (After-name h1) (to_ends (After-mark h2))) (to_ends (After-primary h3))) (to_ends (After-mark h4))) (to_ends (After-mark h5))) (to_ends (After-word h6))) (to_ends (After-mark h7))

  pub Ends-clauses : {S : g.Part → List Token → List Token → Type 0} {t : List Clause} {s r : List Token} {d : ℕ} → g.AreClauses S t s r d → Ends s r
  Ends-clauses (g.AreClauses.a_case h1 h2 h3 h4 h5) = to_ends (After-trans (After-trans (After-trans (After-trans (After-word h1) (to_ends (After-exprs h2))) (to_ends (After-mark h3))) (Ends-stmts h4)) (Ends-clauses h5))
  Ends-clauses (g.AreClauses.a_default h1 h2 h3 h4) = to_ends (After-trans (After-trans (After-trans (After-word h1) (to_ends (After-mark h2))) (Ends-stmts h3)) (Ends-clauses h4))
  Ends-clauses (g.AreClauses.no_clauses h1) = here

  pub After-types : {S : g.Part → List Token → List Token → Type 0} {t : List TypeExpr} {s r : List Token} {d : ℕ} → g.AreTypes S t s r d → After s r
  After-types (g.AreTypes.one_type h1 h2) = After-type h1
  After-types (g.AreTypes.more_cases h1 h2 h3) = After-trans (After-trans (After-type h1) (to_ends (After-mark h2))) (to_ends (After-types h3))

  pub Ends-type_clauses : {S : g.Part → List Token → List Token → Type 0} {t : List TypeClause} {s r : List Token} {d : ℕ} → g.AreTypeClauses S t s r d → Ends s r
  Ends-type_clauses (g.AreTypeClauses.a_type_case h1 h2 h3 h4 h5) = to_ends (After-trans (After-trans (After-trans (After-trans (After-word h1) (to_ends (After-types h2))) (to_ends (After-mark h3))) (Ends-stmts h4)) (Ends-type_clauses h5))
  Ends-type_clauses (g.AreTypeClauses.a_type_default h1 h2 h3 h4) = to_ends (After-trans (After-trans (After-trans (After-word h1) (to_ends (After-mark h2))) (Ends-stmts h3)) (Ends-type_clauses h4))
  Ends-type_clauses (g.AreTypeClauses.no_type_clauses h1) = here

  pub After-comm : {S : g.Part → List Token → List Token → Type 0} {t : Comm} {s r : List Token} {d : ℕ} → g.IsComm S t s r d → After s r
  After-comm (g.IsComm.comm_assign h1 h2 h3) = After-trans (After-trans (After-exprs h1) (to_ends (After-mark h2))) (to_ends (After-expr h3))
  After-comm (g.IsComm.comm_define h1 h2 h3) = After-trans (After-trans (After-exprs h1) (to_ends (After-mark h2))) (to_ends (After-expr h3))
  After-comm (g.IsComm.comm_send h1 h2 h3) = After-trans (After-trans (After-expr h1) (to_ends (After-mark h2))) (to_ends (After-expr h3))
  After-comm (g.IsComm.comm_receive h1 h2) = After-expr h1

  pub Ends-comm_clauses : {S : g.Part → List Token → List Token → Type 0} {t : List CommClause} {s r : List Token} {d : ℕ} → g.AreCommClauses S t s r d → Ends s r
  Ends-comm_clauses (g.AreCommClauses.a_comm h1 h2 h3 h4 h5) = to_ends (After-trans (After-trans (After-trans (After-trans (After-word h1) (to_ends (After-comm h2))) (to_ends (After-mark h3))) (Ends-stmts h4)) (Ends-comm_clauses h5))
  Ends-comm_clauses (g.AreCommClauses.a_comm_default h1 h2 h3 h4) = to_ends (After-trans (After-trans (After-trans (After-word h1) (to_ends (After-mark h2))) (Ends-stmts h3)) (Ends-comm_clauses h4))
  Ends-comm_clauses (g.AreCommClauses.no_comms h1) = here

  pub After-header : {S : g.Part → List Token → List Token → Type 0} {t : Simple} {s r : List Token} {d : ℕ} → g.IsHeader S t s r d → After s r
  After-header (g.IsHeader.init_header h1 h2) = After-trans (After-simple h1) (to_ends (After-front h2))
  After-header (g.IsHeader.no_header h1) = After-front h1

  pub Ends-condition : {S : g.Part → List Token → List Token → Type 0} {t : Option Expr} {s r : List Token} {d : ℕ} → g.IsCondition S t s r d → Ends s r
  Ends-condition (g.IsCondition.a_condition h1) = to_ends (After-expr h1)
  Ends-condition (g.IsCondition.no_condition h1) = here

  pub Ends-post : {S : g.Part → List Token → List Token → Type 0} {t : Simple} {s r : List Token} {d : ℕ} → g.IsPost S t s r d → Ends s r
  Ends-post (g.IsPost.a_post h1 h2) = to_ends (After-simple h1)
  Ends-post (g.IsPost.no_post h1) = here

  pub After-range_left : {S : g.Part → List Token → List Token → Type 0} {t : RangeLeft} {s r : List Token} {d : ℕ} → g.IsRangeLeft S t s r d → After s r
  After-range_left (g.IsRangeLeft.range_assign h1 h2 h3) = After-trans (After-trans (After-exprs h1) (to_ends (After-mark h2))) (to_ends (After-word h3))
  After-range_left (g.IsRangeLeft.range_define h1 h2 h3) = After-trans (After-trans (After-exprs h1) (to_ends (After-mark h2))) (to_ends (After-word h3))
  After-range_left (g.IsRangeLeft.no_range_left h1) = After-word h1

  pub After-stmt : {S : g.Part → List Token → List Token → Type 0} {t : Stmt} {s r : List Token} {d : ℕ} → g.IsStmt S t s r d → After s r
  After-stmt (g.IsStmt.simple_stmt h1 h2) = After-simple h2
  After-stmt (g.IsStmt.declaration_stmt h1 h2) = After-decl h2
  After-stmt (g.IsStmt.bare_label h1 h2 h3) = After-trans (After-name h1) (to_ends (After-mark h2))
  After-stmt (g.IsStmt.labeled h1 h2 h3 h4) = After-trans (After-trans (After-name h1) (to_ends (After-mark h2))) (to_ends (After-stmt h4))
  After-stmt (g.IsStmt.go h1 h2) = After-trans (After-word h1) (to_ends (After-expr h2))
  After-stmt (g.IsStmt.defer h1 h2) = After-trans (After-word h1) (to_ends (After-expr h2))
  After-stmt (g.IsStmt.return h1 h2) = After-trans (After-word h1) (Ends-values h2)
  After-stmt (g.IsStmt.break h1 h2) = After-trans (After-word h1) (Ends-target h2)
  After-stmt (g.IsStmt.continue h1 h2) = After-trans (After-word h1) (Ends-target h2)
  After-stmt (g.IsStmt.goto h1 h2) = After-trans (After-word h1) (to_ends (After-name h2))
  After-stmt (g.IsStmt.fallthrough h1) = After-word h1
  After-stmt (g.IsStmt.block_stmt h1 h2 h3) = After-trans (After-trans (After-mark h1) (Ends-stmts h2)) (to_ends (After-mark h3))
  After-stmt (g.IsStmt.if_stmt h1 h2) = After-trans (After-word h1) (to_ends (After-arms h2))
  After-stmt (g.IsStmt.header_type_switch h1 h2 h3 h4 h5 h6) = After-trans (After-trans (After-trans (After-trans (After-trans (After-word h1) (to_ends (After-header h2))) (to_ends (After-guard h3))) (to_ends (After-mark h4))) (Ends-type_clauses h5)) (to_ends (After-mark h6))
  After-stmt (g.IsStmt.type_switch h1 h2 h3 h4 h5 h6) = After-trans (After-trans (After-trans (After-trans (After-word h1) (to_ends (After-guard h3))) (to_ends (After-mark h4))) (Ends-type_clauses h5)) (to_ends (After-mark h6))
  After-stmt (g.IsStmt.header_switch h1 h2 h3 h4 h5 h6 h7) = After-trans (After-trans (After-trans (After-trans (After-trans (After-word h1) (to_ends (After-header h2))) (Ends-tag_value h4)) (to_ends (After-mark h5))) (Ends-clauses h6)) (to_ends (After-mark h7))
  After-stmt (g.IsStmt.switch h1 h2 h3 h4 h5 h6 h7) = After-trans (After-trans (After-trans (After-trans (After-word h1) (Ends-tag_value h4)) (to_ends (After-mark h5))) (Ends-clauses h6)) (to_ends (After-mark h7))
  After-stmt (g.IsStmt.select h1 h2 h3 h4) = After-trans (After-trans (After-trans (After-word h1) (to_ends (After-mark h2))) (Ends-comm_clauses h3)) (to_ends (After-mark h4))
  After-stmt (g.IsStmt.endless h1 h2 h3) = After-trans (After-word h1) (to_ends (After-block h3))
  After-stmt (g.IsStmt.range h1 h2 h3 h4 h5) = After-trans (After-trans (After-trans (After-word h1) (to_ends (After-range_left h3))) (to_ends (After-expr h4))) (to_ends (After-block h5))
  After-stmt (g.IsStmt.loop h1 h2 h3 h4 h5 h6 h7 h8) = After-trans (After-trans (After-trans (After-trans (After-trans (After-word h1) (to_ends (After-header h4))) (Ends-condition h5)) (to_ends (After-front h6))) (Ends-post h7)) (to_ends (After-block h8))
  After-stmt (g.IsStmt.while h1 h2 h3 h4 h5 h6) = After-trans (After-trans (After-word h1) (to_ends (After-expr h5))) (to_ends (After-block h6))

  pub Ends-stmts : {S : g.Part → List Token → List Token → Type 0} {t : List Stmt} {s r : List Token} {d : ℕ} → g.AreStmts S t s r d → Ends s r
  Ends-stmts (g.AreStmts.last_stmt h1 h2) = to_ends (After-stmt h1)
  Ends-stmts (g.AreStmts.more_stmts h1 h2 h3) = to_ends (After-trans (After-trans (After-stmt h1) (to_ends (After-front h2))) (Ends-stmts h3))
  Ends-stmts (g.AreStmts.empty_stmt h1 h2) = to_ends (After-trans (After-front h1) (Ends-stmts h2))
  Ends-stmts (g.AreStmts.no_stmts h1) = here

  pub After-import_spec : {S : g.Part → List Token → List Token → Type 0} {t : ImportSpec} {s r : List Token} {d : ℕ} → g.IsImportSpec S t s r d → After s r
  After-import_spec (g.IsImportSpec.plain_import h1) = After-text h1
  After-import_spec (g.IsImportSpec.dot_import h1 h2) = After-trans (After-mark h1) (to_ends (After-text h2))
  After-import_spec (g.IsImportSpec.named_import h1 h2) = After-trans (After-name h1) (to_ends (After-text h2))

  pub Ends-import_specs : {S : g.Part → List Token → List Token → Type 0} {t : List ImportSpec} {s r : List Token} {d : ℕ} → g.AreImportSpecs S t s r d → Ends s r
  Ends-import_specs (g.AreImportSpecs.last_import h1 h2) = to_ends (After-import_spec h1)
  Ends-import_specs (g.AreImportSpecs.more_imports h1 h2 h3) = to_ends (After-trans (After-trans (After-import_spec h1) (to_ends (After-front h2))) (Ends-import_specs h3))
  Ends-import_specs (g.AreImportSpecs.no_imports h1) = here

  pub Ends-body : {S : g.Part → List Token → List Token → Type 0} {t : Option Block} {s r : List Token} {d : ℕ} → g.IsBody S t s r d → Ends s r
  Ends-body (g.IsBody.a_body h1) = to_ends (After-block h1)
  Ends-body (g.IsBody.no_body h1) = here

  pub After-top : {S : g.Part → List Token → List Token → Type 0} {t : Top} {s r : List Token} {d : ℕ} → g.IsTop S t s r d → After s r
  After-top (g.IsTop.declaration h1 h2) = After-decl h2
  After-top (g.IsTop.function h1 h2 h3 h4) = After-trans (After-trans (After-trans (After-word h1) (to_ends (After-name h2))) (to_ends (After-signature h3))) (Ends-body h4)
  After-top (g.IsTop.method_decl h1 h2 h3 h4 h5 h6 h7) = After-trans (After-trans (After-trans (After-trans (After-word h1) (to_ends (After-params h3))) (to_ends (After-name h5))) (to_ends (After-signature h6))) (Ends-body h7)

  pub After-chunk : {S : g.Part → List Token → List Token → Type 0} {t : Chunk} {s r : List Token} {d : ℕ} → g.IsChunk S t s r d → After s r
  After-chunk (g.IsChunk.top_chunk h1 h2) = After-trans (After-top h1) (to_ends (After-front h2))
  After-chunk (g.IsChunk.package_clause h1 h2 h3) = After-trans (After-trans (After-word h1) (to_ends (After-name h2))) (to_ends (After-front h3))
  After-chunk (g.IsChunk.import_decl h1 h2 h3 h4) = After-trans (After-trans (After-word h1) (to_ends (After-import_spec h3))) (to_ends (After-front h4))
  After-chunk (g.IsChunk.import_group h1 h2 h3 h4 h5) = After-trans (After-trans (After-trans (After-trans (After-word h1) (to_ends (After-mark h2))) (Ends-import_specs h3)) (to_ends (After-mark h4))) (to_ends (After-front h5))

pub full-idents : {S : g.Part → List Token → List Token → Type 0} {t : List Token} {s r : List Token} {d : ℕ} → g.AreNames S t s r d → Full s
full-idents h = full-After (After-idents h)

pub full-type_name : {S : g.Part → List Token → List Token → Type 0} {t : TypeExpr} {s r : List Token} {d : ℕ} → g.IsTypeName S t s r d → Full s
full-type_name h = full-After (After-type_name h)

pub full-type : {S : g.Part → List Token → List Token → Type 0} {t : TypeExpr} {s r : List Token} {d : ℕ} → g.IsType S t s r d → Full s
full-type h = full-After (After-type h)

pub full-unnamed : {S : g.Part → List Token → List Token → Type 0} {v : Bool} {t : List Parameter} {s r : List Token} {d : ℕ} → g.AreUnnamed S v t s r d → Full s
full-unnamed h = full-After (After-unnamed h)

pub full-named_params : {S : g.Part → List Token → List Token → Type 0} {v : Bool} {t : List Parameter} {s r : List Token} {d : ℕ} → g.AreNamed S v t s r d → Full s
full-named_params h = full-After (After-named_params h)

pub full-params : {S : g.Part → List Token → List Token → Type 0} {v : Bool} {t : Parameters} {s r : List Token} {d : ℕ} → g.AreParams S v t s r d → Full s
full-params h = full-After (After-params h)

pub full-signature : {S : g.Part → List Token → List Token → Type 0} {t : Signature} {s r : List Token} {d : ℕ} → g.IsSignature S t s r d → Full s
full-signature h = full-After (After-signature h)

pub full-tag : {S : g.Part → List Token → List Token → Type 0} {t : Option Token} {s r : List Token} {d : ℕ} → g.IsTag S t s r d → Full s
full-tag (g.IsTag.a_tag h1) = full-After (After-text h1)
full-tag (g.IsTag.no_tag h1) = full-After (After-front h1)

pub full-field : {S : g.Part → List Token → List Token → Type 0} {t : Field} {s r : List Token} {d : ℕ} → g.IsField S t s r d → Full s
full-field h = full-After (After-field h)

pub full-fields : {S : g.Part → List Token → List Token → Type 0} {t : List Field} {s r : List Token} {d : ℕ} → g.AreFields S t s r d → Full s
full-fields (g.AreFields.last_field h1 h2) = full-field h1
full-fields (g.AreFields.more_fields h1 h2 h3) = full-field h1
full-fields (g.AreFields.no_fields h1) = full-After (After-mark h1)

pub full-member : {S : g.Part → List Token → List Token → Type 0} {t : Member} {s r : List Token} {d : ℕ} → g.IsMember S t s r d → Full s
full-member h = full-After (After-member h)

pub full-members : {S : g.Part → List Token → List Token → Type 0} {t : List Member} {s r : List Token} {d : ℕ} → g.AreMembers S t s r d → Full s
full-members (g.AreMembers.last_member h1 h2) = full-member h1
full-members (g.AreMembers.more_members h1 h2 h3) = full-member h1
full-members (g.AreMembers.no_members h1) = full-After (After-mark h1)

pub full-literal : {S : g.Part → List Token → List Token → Type 0} {t : LiteralValue} {s r : List Token} {d : ℕ} → g.IsLiteral S t s r d → Full s
full-literal h = full-After (After-literal h)

pub full-selected : {S : g.Part → List Token → List Token → Type 0} {t : Token × LiteralValue} {s r : List Token} {d : ℕ} → g.IsSelected S t s r d → Full s
full-selected h = full-After (After-selected h)

pub full-block : {S : g.Part → List Token → List Token → Type 0} {t : Block} {s r : List Token} {d : ℕ} → g.IsBlock S t s r d → Full s
full-block h = full-After (After-block h)

pub full-received : {S : g.Part → List Token → List Token → Type 0} {t : TypeExpr} {s r : List Token} {d : ℕ} → g.IsReceived S t s r d → Full s
full-received h = full-After (After-received h)

pub full-head : {S : g.Part → List Token → List Token → Type 0} {h : Bool} {t : Expr} {s r : List Token} {d : ℕ} → g.IsHead S h t s r d → Full s
full-head h = full-After (After-head h)

pub full-primary : {S : g.Part → List Token → List Token → Type 0} {h : Bool} {t : Expr} {s r : List Token} {d : ℕ} → g.IsPrimary S h t s r d → Full s
full-primary h = full-After (After-primary h)

pub full-unary : {S : g.Part → List Token → List Token → Type 0} {h : Bool} {w : Bool} {t : Expr} {s r : List Token} {d : ℕ} → g.IsUnary S h w t s r d → Full s
full-unary h = full-After (After-unary h)

pub full-expr : {S : g.Part → List Token → List Token → Type 0} {m : ℕ} {h : Bool} {w : Bool} {t : Expr} {s r : List Token} {d : ℕ} → g.IsExpr S m h w t s r d → Full s
full-expr h = full-After (After-expr h)

pub full-bound : {S : g.Part → List Token → List Token → Type 0} {t : Option Expr} {s r : List Token} {d : ℕ} → g.IsBound S t s r d → Full s
full-bound (g.IsBound.a_bound h1) = full-expr h1
full-bound (g.IsBound.no_bound h1) = full-After (After-front h1)

pub full-args : {S : g.Part → List Token → List Token → Type 0} {t : List Expr × Option Span} {s r : List Token} {d : ℕ} → g.AreArgs S t s r d → Full s
full-args (g.AreArgs.spread h1 h2 h3) = full-expr h1
full-args (g.AreArgs.last_arg h1 h2 h3) = full-expr h1
full-args (g.AreArgs.more_args h1 h2 h3 h4) = full-expr h1
full-args (g.AreArgs.no_args h1) = full-After (After-mark h1)

pub full-suffix : {S : g.Part → List Token → List Token → Type 0} {t : Suffix} {s r : List Token} {d : ℕ} → g.IsSuffix S t s r d → Full s
full-suffix h = full-After (After-suffix h)

pub full-operand : {S : g.Part → List Token → List Token → Type 0} {m : ℕ} {h : Bool} {t : Token × Expr} {s r : List Token} {d : ℕ} → g.IsOperand S m h t s r d → Full s
full-operand h = full-After (After-operand h)

pub full-value : {S : g.Part → List Token → List Token → Type 0} {t : ElementValue} {s r : List Token} {d : ℕ} → g.IsValue S t s r d → Full s
full-value h = full-After (After-value h)

pub full-element : {S : g.Part → List Token → List Token → Type 0} {t : Element} {s r : List Token} {d : ℕ} → g.IsElement S t s r d → Full s
full-element h = full-After (After-element h)

pub full-elements : {S : g.Part → List Token → List Token → Type 0} {t : List Element} {s r : List Token} {d : ℕ} → g.AreElements S t s r d → Full s
full-elements (g.AreElements.last_element h1 h2) = full-element h1
full-elements (g.AreElements.more_elements h1 h2 h3 h4) = full-element h1
full-elements (g.AreElements.no_elements h1) = full-After (After-mark h1)

pub full-exprs : {S : g.Part → List Token → List Token → Type 0} {h : Bool} {t : List Expr} {s r : List Token} {d : ℕ} → g.AreExprs S h t s r d → Full s
full-exprs h = full-After (After-exprs h)

pub full-simple : {S : g.Part → List Token → List Token → Type 0} {h : Bool} {t : Simple} {s r : List Token} {d : ℕ} → g.IsSimple S h t s r d → Full s
full-simple h = full-After (After-simple h)

pub full-const_spec : {S : g.Part → List Token → List Token → Type 0} {i : Bool} {t : ConstSpec} {s r : List Token} {d : ℕ} → g.IsConstSpec S i t s r d → Full s
full-const_spec h = full-After (After-const_spec h)

pub full-const_specs : {S : g.Part → List Token → List Token → Type 0} {i : Bool} {t : List ConstSpec} {s r : List Token} {d : ℕ} → g.AreConstSpecs S i t s r d → Full s
full-const_specs (g.AreConstSpecs.last_const h1 h2) = full-const_spec h1
full-const_specs (g.AreConstSpecs.more_consts h1 h2 h3) = full-const_spec h1
full-const_specs (g.AreConstSpecs.no_consts h1) = full-After (After-mark h1)

pub full-type_spec : {S : g.Part → List Token → List Token → Type 0} {t : TypeSpec} {s r : List Token} {d : ℕ} → g.IsTypeSpec S t s r d → Full s
full-type_spec h = full-After (After-type_spec h)

pub full-type_specs : {S : g.Part → List Token → List Token → Type 0} {t : List TypeSpec} {s r : List Token} {d : ℕ} → g.AreTypeSpecs S t s r d → Full s
full-type_specs (g.AreTypeSpecs.last_type_spec h1 h2) = full-type_spec h1
full-type_specs (g.AreTypeSpecs.more_type_specs h1 h2 h3) = full-type_spec h1
full-type_specs (g.AreTypeSpecs.no_type_specs h1) = full-After (After-mark h1)

pub full-var_spec : {S : g.Part → List Token → List Token → Type 0} {t : VarSpec} {s r : List Token} {d : ℕ} → g.IsVarSpec S t s r d → Full s
full-var_spec h = full-After (After-var_spec h)

pub full-var_specs : {S : g.Part → List Token → List Token → Type 0} {t : List VarSpec} {s r : List Token} {d : ℕ} → g.AreVarSpecs S t s r d → Full s
full-var_specs (g.AreVarSpecs.last_var h1 h2) = full-var_spec h1
full-var_specs (g.AreVarSpecs.more_vars h1 h2 h3) = full-var_spec h1
full-var_specs (g.AreVarSpecs.no_vars h1) = full-After (After-mark h1)

pub full-decl : {S : g.Part → List Token → List Token → Type 0} {t : Decl} {s r : List Token} {d : ℕ} → g.IsDecl S t s r d → Full s
full-decl h = full-After (After-decl h)

pub full-values : {S : g.Part → List Token → List Token → Type 0} {t : List Expr} {s r : List Token} {d : ℕ} → g.AreValues S t s r d → Full s
full-values (g.AreValues.some_values h1) = full-exprs h1
full-values (g.AreValues.no_values h1) = full-After (After-front h1)

pub full-target : {S : g.Part → List Token → List Token → Type 0} {t : Option Token} {s r : List Token} {d : ℕ} → g.IsTarget S t s r d → Full s
full-target (g.IsTarget.a_target h1) = full-After (After-name h1)
full-target (g.IsTarget.no_target h1) = full-After (After-front h1)

pub full-arm : {S : g.Part → List Token → List Token → Type 0} {t : Arm} {s r : List Token} {d : ℕ} → g.IsArm S t s r d → Full s
full-arm h = full-After (After-arm h)

pub full-arms : {S : g.Part → List Token → List Token → Type 0} {t : List Arm × Option Block} {s r : List Token} {d : ℕ} → g.AreArms S t s r d → Full s
full-arms h = full-After (After-arms h)

pub full-tag_value : {S : g.Part → List Token → List Token → Type 0} {t : Option Expr} {s r : List Token} {d : ℕ} → g.IsTagValue S t s r d → Full s
full-tag_value (g.IsTagValue.a_tag_value h1) = full-expr h1
full-tag_value (g.IsTagValue.no_tag_value h1) = full-After (After-mark h1)

pub full-guard : {S : g.Part → List Token → List Token → Type 0} {t : Option (Token × Span) × Expr × Span} {s r : List Token} {d : ℕ} → g.IsGuard S t s r d → Full s
full-guard h = full-After (After-guard h)

pub full-clauses : {S : g.Part → List Token → List Token → Type 0} {t : List Clause} {s r : List Token} {d : ℕ} → g.AreClauses S t s r d → Full s
full-clauses (g.AreClauses.a_case h1 h2 h3 h4 h5) = full-After (After-word h1)
full-clauses (g.AreClauses.a_default h1 h2 h3 h4) = full-After (After-word h1)
full-clauses (g.AreClauses.no_clauses h1) = full-After (After-mark h1)

pub full-types : {S : g.Part → List Token → List Token → Type 0} {t : List TypeExpr} {s r : List Token} {d : ℕ} → g.AreTypes S t s r d → Full s
full-types h = full-After (After-types h)

pub full-type_clauses : {S : g.Part → List Token → List Token → Type 0} {t : List TypeClause} {s r : List Token} {d : ℕ} → g.AreTypeClauses S t s r d → Full s
full-type_clauses (g.AreTypeClauses.a_type_case h1 h2 h3 h4 h5) = full-After (After-word h1)
full-type_clauses (g.AreTypeClauses.a_type_default h1 h2 h3 h4) = full-After (After-word h1)
full-type_clauses (g.AreTypeClauses.no_type_clauses h1) = full-After (After-mark h1)

pub full-comm : {S : g.Part → List Token → List Token → Type 0} {t : Comm} {s r : List Token} {d : ℕ} → g.IsComm S t s r d → Full s
full-comm h = full-After (After-comm h)

pub full-comm_clauses : {S : g.Part → List Token → List Token → Type 0} {t : List CommClause} {s r : List Token} {d : ℕ} → g.AreCommClauses S t s r d → Full s
full-comm_clauses (g.AreCommClauses.a_comm h1 h2 h3 h4 h5) = full-After (After-word h1)
full-comm_clauses (g.AreCommClauses.a_comm_default h1 h2 h3 h4) = full-After (After-word h1)
full-comm_clauses (g.AreCommClauses.no_comms h1) = full-After (After-mark h1)

pub full-header : {S : g.Part → List Token → List Token → Type 0} {t : Simple} {s r : List Token} {d : ℕ} → g.IsHeader S t s r d → Full s
full-header h = full-After (After-header h)

pub full-condition : {S : g.Part → List Token → List Token → Type 0} {t : Option Expr} {s r : List Token} {d : ℕ} → g.IsCondition S t s r d → Full s
full-condition (g.IsCondition.a_condition h1) = full-expr h1
full-condition (g.IsCondition.no_condition h1) = full-After (After-front h1)

pub full-post : {S : g.Part → List Token → List Token → Type 0} {t : Simple} {s r : List Token} {d : ℕ} → g.IsPost S t s r d → Full s
full-post (g.IsPost.a_post h1 h2) = full-simple h1
full-post (g.IsPost.no_post h1) = full-After (After-mark h1)

pub full-range_left : {S : g.Part → List Token → List Token → Type 0} {t : RangeLeft} {s r : List Token} {d : ℕ} → g.IsRangeLeft S t s r d → Full s
full-range_left h = full-After (After-range_left h)

pub full-stmt : {S : g.Part → List Token → List Token → Type 0} {t : Stmt} {s r : List Token} {d : ℕ} → g.IsStmt S t s r d → Full s
full-stmt h = full-After (After-stmt h)

pub full-stmts : {S : g.Part → List Token → List Token → Type 0} {t : List Stmt} {s r : List Token} {d : ℕ} → g.AreStmts S t s r d → Full s
full-stmts (g.AreStmts.last_stmt h1 h2) = full-stmt h1
full-stmts (g.AreStmts.more_stmts h1 h2 h3) = full-stmt h1
full-stmts (g.AreStmts.empty_stmt h1 h2) = full-After (After-front h1)
full-stmts (g.AreStmts.no_stmts h1) = full-After (After-front h1)

pub full-import_spec : {S : g.Part → List Token → List Token → Type 0} {t : ImportSpec} {s r : List Token} {d : ℕ} → g.IsImportSpec S t s r d → Full s
full-import_spec h = full-After (After-import_spec h)

pub full-import_specs : {S : g.Part → List Token → List Token → Type 0} {t : List ImportSpec} {s r : List Token} {d : ℕ} → g.AreImportSpecs S t s r d → Full s
full-import_specs (g.AreImportSpecs.last_import h1 h2) = full-import_spec h1
full-import_specs (g.AreImportSpecs.more_imports h1 h2 h3) = full-import_spec h1
full-import_specs (g.AreImportSpecs.no_imports h1) = full-After (After-mark h1)

pub full-body : {S : g.Part → List Token → List Token → Type 0} {t : Option Block} {s r : List Token} {d : ℕ} → g.IsBody S t s r d → Full s
full-body (g.IsBody.a_body h1) = full-block h1
full-body (g.IsBody.no_body h1) = full-After (After-front h1)

pub full-top : {S : g.Part → List Token → List Token → Type 0} {t : Top} {s r : List Token} {d : ℕ} → g.IsTop S t s r d → Full s
full-top h = full-After (After-top h)

pub full-chunk : {S : g.Part → List Token → List Token → Type 0} {t : Chunk} {s r : List Token} {d : ℕ} → g.IsChunk S t s r d → Full s
full-chunk h = full-After (After-chunk h)
