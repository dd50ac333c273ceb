-- What stands at each place, from the last token to the first: declarations, statements and chunks, and the rows.
use Rattle.std.specs.Prelude.{suc, max, Bool, true, false, not, List, [], ◌∷◌, ◌++◌, length, slice_index_or, Option, Some, None, is_none}
use Rattle.gs_syntax.specs.declared.token.Span.{Span}
use Rattle.gs_syntax.specs.declared.token.Token.{Token}
use Rattle.gs_syntax.specs.declared.token.Operator.TheVariants as mark
use Rattle.gs_syntax.specs.declared.token.Keyword.TheVariants as word
use Rattle.gs_grammar.specs.declared.trees.Chunk.{Chunk}
use Rattle.gs_grammar.specs.declared.trees.Chunk.TheVariants as ch
use Rattle.gs_grammar.specs.declared.trees.ImportSpec.{ImportSpec}
use Rattle.gs_grammar.specs.declared.trees.ImportSpec.TheVariants as im
use Rattle.gs_grammar.specs.declared.trees.Top.{Top}
use Rattle.gs_grammar.specs.declared.trees.Top.TheVariants as tp
use Rattle.gs_grammar.specs.declared.trees.Decl.{Decl}
use Rattle.gs_grammar.specs.declared.trees.Decl.TheVariants as de
use Rattle.gs_grammar.specs.declared.trees.ConstSpec.{ConstSpec}
use Rattle.gs_grammar.specs.declared.trees.ConstSpec.TheVariants as cns
use Rattle.gs_grammar.specs.declared.trees.TypeSpec.{TypeSpec}
use Rattle.gs_grammar.specs.declared.trees.TypeSpec.TheVariants as tys
use Rattle.gs_grammar.specs.declared.trees.VarSpec.{VarSpec}
use Rattle.gs_grammar.specs.declared.trees.VarSpec.TheVariants as vs
use Rattle.gs_grammar.specs.declared.trees.TypeExpr.{TypeExpr}
use Rattle.gs_grammar.specs.declared.trees.Expr.{Expr}
use Rattle.gs_grammar.specs.declared.trees.Block.{Block}
use Rattle.gs_grammar.specs.declared.trees.Stmt.{Stmt}
use Rattle.gs_grammar.specs.declared.trees.Stmt.TheVariants as st
use Rattle.gs_grammar.specs.declared.trees.Simple.{Simple}
use Rattle.gs_grammar.specs.declared.trees.Simple.TheVariants as si
use Rattle.gs_grammar.specs.declared.trees.Arm.{Arm}
use Rattle.gs_grammar.specs.declared.trees.Clause.{Clause}
use Rattle.gs_grammar.specs.declared.trees.Clause.TheVariants as cl
use Rattle.gs_grammar.specs.declared.trees.TypeClause.{TypeClause}
use Rattle.gs_grammar.specs.declared.trees.TypeClause.TheVariants as tc
use Rattle.gs_grammar.specs.declared.trees.CommClause.{CommClause}
use Rattle.gs_grammar.specs.declared.trees.CommClause.TheVariants as co
use Rattle.gs_grammar.specs.declared.trees.Comm.{Comm}
use Rattle.gs_grammar.specs.declared.trees.Comm.TheVariants as cm
use Rattle.gs_grammar.specs.declared.trees.RangeLeft.{RangeLeft}
use Rattle.gs_grammar.specs.declared.trees.RangeLeft.TheVariants as rl
use Rattle.gs_grammar.specs.Front.{◌>>=◌, ◌>>◌, first, operator, mark_at, word_at, name_at, text_at, front_at, label_at, defined_at, is_decl_start, is_goes_on, is_list_end, is_semi, is_spec_end, is_step, is_stmt_end, is_update}
use Rattle.gs_grammar.specs.Parts.{Found, found, make_block, make_arm, is_receiver, is_define}
use Rattle.gs_grammar.specs.Row.{Row, past}
unfoldable pub use Rattle.gs_grammar.specs.Steps.{idents_step, type_name_step, type_step, unnamed_step, named_params_step, params_step, signature_step, tag_step, field_step, fields_step, member_step, members_step, literal_step, selected_step, block_step, received_step, head_step, primary_step, unary_step, expr_step, bound_step, args_step, suffix_step, suffixes_step, operand_step, operands_step, value_step, element_step, elements_step, exprs_step, read_one_name, read_more_names, read_bare, read_qualified, read_named, read_paren_type, read_pointer, read_slice, read_array, read_map_type, read_channel, read_send_channel, read_receive_channel, read_function_type, read_struct_type, read_interface_type, read_last_type, read_more_types, read_last_dots, read_last_named_dots, read_last_named, read_more_named, read_no_params, read_named_list, read_unnamed_list, read_results, read_result, read_plain, read_a_tag, read_no_tag, read_named_field, read_embedded_field, read_qualified_field, read_pointer_field, read_last_field, read_more_fields, read_no_fields, read_method, read_embedded_interface, read_qualified_interface, read_last_member, read_more_members, read_no_members, read_values_in_braces, read_selected_literal, read_braces, read_received, read_basic_literal, read_header_name, read_literal_of_selected, read_name, read_literal_of_name, read_paren, read_literal_of_type, read_composite_type, read_counted_literal, read_other_type, read_function_literal, read_lone_function_type, read_primary, read_bare_primary, read_signed, read_starred, read_receiver, read_receive_first, read_receive, read_a_bound, read_no_bound, read_spread, read_last_arg, read_more_args, read_no_args, read_selector, read_assertion, read_open_slice, read_open_full_slice, read_index, read_slice_expr, read_full_slice, read_call, read_more_suffixes, read_no_suffixes, read_operand, read_more_operands, read_no_operands, read_value_expr, read_value_literal, read_plain_element, read_keyed_element, read_last_element, read_more_elements, read_no_elements, read_one_expr, read_more_exprs}

-- Behind a token stand the tokens s, and `at` has the row of each later place.
module _ (s : List Token) (at : List Token → Row) where
  unfoldable pub read_assign : Bool → Token → Option (Found Simple)
  read_assign h t0 = exprs_step s at h t0 >>= λ ts. mark_at mark.Assign ts.rest >>= λ p. (at p.1).exprs h >>= λ us. Some (found (si.Assign ts.tree p.0 us.tree) us.rest (max ts.depth us.depth))

  unfoldable pub read_define : Bool → Token → Option (Found Simple)
  read_define h t0 = exprs_step s at h t0 >>= λ ts. mark_at mark.Define ts.rest >>= λ p. (at p.1).exprs h >>= λ us. Some (found (si.Define ts.tree p.0 us.tree) us.rest (max ts.depth us.depth))

  unfoldable pub read_expression : Bool → Token → Option (Found Simple)
  read_expression h t0 = expr_step s at 5 h false t0 >>= λ t. is_none (front_at is_goes_on t.rest) >> Some (found (si.Expr t.tree) t.rest t.depth)

  unfoldable pub read_send : Bool → Token → Option (Found Simple)
  read_send h t0 = expr_step s at 5 h false t0 >>= λ t. mark_at mark.Arrow t.rest >>= λ p. (at p.1).expr 5 h false >>= λ u. Some (found (si.Send t.tree (operator mark.Arrow p.0) u.tree) u.rest (max t.depth u.depth))

  unfoldable pub read_step : Bool → Token → Option (Found Simple)
  read_step h t0 = expr_step s at 5 h false t0 >>= λ t. front_at is_step t.rest >>= λ x. Some (found (si.Step t.tree x.0) x.1 t.depth)

  unfoldable pub read_update : Bool → Token → Option (Found Simple)
  read_update h t0 = expr_step s at 5 h false t0 >>= λ t. front_at is_update t.rest >>= λ x. (at x.1).expr 5 h false >>= λ u. Some (found (si.Update t.tree x.0 u.tree) u.rest (max t.depth u.depth))

  unfoldable pub simple_step : Bool → Token → Option (Found Simple)
  simple_step h t0 = first (read_assign h t0) (first (read_define h t0) (first (read_expression h t0) (first (read_send h t0) (first (read_step h t0) (read_update h t0)))))

  unfoldable pub read_implicit : Bool → Token → Option (Found ConstSpec)
  read_implicit i t0 = idents_step s at t0 >>= λ xs. front_at is_spec_end xs.rest >>= λ z1. not i >> Some (found (cns.Implicit xs.tree) xs.rest xs.depth)

  unfoldable pub read_untyped : Bool → Token → Option (Found ConstSpec)
  read_untyped i t0 = idents_step s at t0 >>= λ xs. mark_at mark.Assign xs.rest >>= λ z1. (at z1.1).exprs false >>= λ ts. Some (found (cns.Untyped xs.tree ts.tree) ts.rest (max xs.depth ts.depth))

  unfoldable pub read_typed_const : Bool → Token → Option (Found ConstSpec)
  read_typed_const i t0 = idents_step s at t0 >>= λ xs. is_none (front_at is_spec_end xs.rest) >> is_none (mark_at mark.Assign xs.rest) >> (at xs.rest).type >>= λ t. mark_at mark.Assign t.rest >>= λ z4. (at z4.1).exprs false >>= λ ts. Some (found (cns.Typed xs.tree t.tree ts.tree) ts.rest (max xs.depth (max t.depth ts.depth)))

  unfoldable pub const_spec_step : Bool → Token → Option (Found ConstSpec)
  const_spec_step i t0 = first (read_implicit i t0) (first (read_untyped i t0) (read_typed_const i t0))

  unfoldable pub read_last_const : Bool → Token → Option (Found (List ConstSpec))
  read_last_const i t0 = const_spec_step i t0 >>= λ c. mark_at mark.RightParen c.rest >>= λ z1. Some (found (c.tree ∷ []) c.rest c.depth)

  unfoldable pub read_more_consts : Bool → Token → Option (Found (List ConstSpec))
  read_more_consts i t0 = const_spec_step i t0 >>= λ c. front_at is_semi c.rest >>= λ x. (at x.1).const_specs false >>= λ cs. Some (found (c.tree ∷ cs.tree) cs.rest (max c.depth cs.depth))

  unfoldable pub read_no_consts : Bool → Token → Option (Found (List ConstSpec))
  read_no_consts i t0 = mark_at mark.RightParen (t0 ∷ s) >>= λ z0. Some (found [] (t0 ∷ s) 0)

  unfoldable pub const_specs_step : Bool → Token → Option (Found (List ConstSpec))
  const_specs_step i t0 = first (read_last_const i t0) (first (read_more_consts i t0) (read_no_consts i t0))

  unfoldable pub read_definition : Token → Option (Found TypeSpec)
  read_definition t0 = name_at (t0 ∷ s) >>= λ x. is_none (mark_at mark.Assign x.1) >> (at x.1).type >>= λ t. Some (found (tys.Definition x.0 t.tree) t.rest t.depth)

  unfoldable pub read_alias : Token → Option (Found TypeSpec)
  read_alias t0 = name_at (t0 ∷ s) >>= λ x. mark_at mark.Assign x.1 >>= λ z1. (at z1.1).type >>= λ t. Some (found (tys.Alias x.0 t.tree) t.rest t.depth)

  unfoldable pub type_spec_step : Token → Option (Found TypeSpec)
  type_spec_step t0 = first (read_definition t0) (read_alias t0)

  unfoldable pub read_last_type_spec : Token → Option (Found (List TypeSpec))
  read_last_type_spec t0 = type_spec_step t0 >>= λ c. mark_at mark.RightParen c.rest >>= λ z1. Some (found (c.tree ∷ []) c.rest c.depth)

  unfoldable pub read_more_type_specs : Token → Option (Found (List TypeSpec))
  read_more_type_specs t0 = type_spec_step t0 >>= λ c. front_at is_semi c.rest >>= λ x. (at x.1).type_specs >>= λ cs. Some (found (c.tree ∷ cs.tree) cs.rest (max c.depth cs.depth))

  unfoldable pub read_no_type_specs : Token → Option (Found (List TypeSpec))
  read_no_type_specs t0 = mark_at mark.RightParen (t0 ∷ s) >>= λ z0. Some (found [] (t0 ∷ s) 0)

  unfoldable pub type_specs_step : Token → Option (Found (List TypeSpec))
  type_specs_step t0 = first (read_last_type_spec t0) (first (read_more_type_specs t0) (read_no_type_specs t0))

  unfoldable pub read_var_values : Token → Option (Found VarSpec)
  read_var_values t0 = idents_step s at t0 >>= λ xs. mark_at mark.Assign xs.rest >>= λ z1. (at z1.1).exprs false >>= λ ts. Some (found (vs.Values xs.tree ts.tree) ts.rest (max xs.depth ts.depth))

  unfoldable pub read_typed_var : Token → Option (Found VarSpec)
  read_typed_var t0 = idents_step s at t0 >>= λ xs. is_none (mark_at mark.Assign xs.rest) >> (at xs.rest).type >>= λ t. is_none (mark_at mark.Assign t.rest) >> Some (found (vs.Typed xs.tree t.tree) t.rest (max xs.depth t.depth))

  unfoldable pub read_typed_values : Token → Option (Found VarSpec)
  read_typed_values t0 = idents_step s at t0 >>= λ xs. is_none (mark_at mark.Assign xs.rest) >> (at xs.rest).type >>= λ t. mark_at mark.Assign t.rest >>= λ z3. (at z3.1).exprs false >>= λ ts. Some (found (vs.TypedValues xs.tree t.tree ts.tree) ts.rest (max xs.depth (max t.depth ts.depth)))

  unfoldable pub var_spec_step : Token → Option (Found VarSpec)
  var_spec_step t0 = first (read_var_values t0) (first (read_typed_var t0) (read_typed_values t0))

  unfoldable pub read_last_var : Token → Option (Found (List VarSpec))
  read_last_var t0 = var_spec_step t0 >>= λ c. mark_at mark.RightParen c.rest >>= λ z1. Some (found (c.tree ∷ []) c.rest c.depth)

  unfoldable pub read_more_vars : Token → Option (Found (List VarSpec))
  read_more_vars t0 = var_spec_step t0 >>= λ c. front_at is_semi c.rest >>= λ x. (at x.1).var_specs >>= λ cs. Some (found (c.tree ∷ cs.tree) cs.rest (max c.depth cs.depth))

  unfoldable pub read_no_vars : Token → Option (Found (List VarSpec))
  read_no_vars t0 = mark_at mark.RightParen (t0 ∷ s) >>= λ z0. Some (found [] (t0 ∷ s) 0)

  unfoldable pub var_specs_step : Token → Option (Found (List VarSpec))
  var_specs_step t0 = first (read_last_var t0) (first (read_more_vars t0) (read_no_vars t0))

  unfoldable pub read_const_decl : Token → Option (Found Decl)
  read_const_decl t0 = word_at word.Const (t0 ∷ s) >>= λ p. is_none (mark_at mark.LeftParen p.1) >> (at p.1).const_spec true >>= λ c. Some (found (de.Const p.0 c.tree) c.rest c.depth)

  unfoldable pub read_const_group : Token → Option (Found Decl)
  read_const_group t0 = word_at word.Const (t0 ∷ s) >>= λ p. mark_at mark.LeftParen p.1 >>= λ z1. (at z1.1).const_specs true >>= λ cs. mark_at mark.RightParen cs.rest >>= λ z3. Some (found (de.ConstGroup p.0 cs.tree) z3.1 (suc cs.depth))

  unfoldable pub read_type_decl : Token → Option (Found Decl)
  read_type_decl t0 = word_at word.«Type» (t0 ∷ s) >>= λ p. is_none (mark_at mark.LeftParen p.1) >> (at p.1).type_spec >>= λ c. Some (found (de.«Type» p.0 c.tree) c.rest c.depth)

  unfoldable pub read_type_group : Token → Option (Found Decl)
  read_type_group t0 = word_at word.«Type» (t0 ∷ s) >>= λ p. mark_at mark.LeftParen p.1 >>= λ z1. (at z1.1).type_specs >>= λ cs. mark_at mark.RightParen cs.rest >>= λ z3. Some (found (de.TypeGroup p.0 cs.tree) z3.1 (suc cs.depth))

  unfoldable pub read_var_decl : Token → Option (Found Decl)
  read_var_decl t0 = word_at word.Var (t0 ∷ s) >>= λ p. is_none (mark_at mark.LeftParen p.1) >> (at p.1).var_spec >>= λ c. Some (found (de.Var p.0 c.tree) c.rest c.depth)

  unfoldable pub read_var_group : Token → Option (Found Decl)
  read_var_group t0 = word_at word.Var (t0 ∷ s) >>= λ p. mark_at mark.LeftParen p.1 >>= λ z1. (at z1.1).var_specs >>= λ cs. mark_at mark.RightParen cs.rest >>= λ z3. Some (found (de.VarGroup p.0 cs.tree) z3.1 (suc cs.depth))

  unfoldable pub decl_step : Token → Option (Found Decl)
  decl_step t0 = first (read_const_decl t0) (first (read_const_group t0) (first (read_type_decl t0) (first (read_type_group t0) (first (read_var_decl t0) (read_var_group t0)))))

  unfoldable pub read_some_values : Token → Option (Found (List Expr))
  read_some_values t0 = exprs_step s at false t0 >>= λ ts. Some (found ts.tree ts.rest ts.depth)

  unfoldable pub read_no_values : Token → Option (Found (List Expr))
  read_no_values t0 = front_at is_stmt_end (t0 ∷ s) >>= λ z0. Some (found [] (t0 ∷ s) 0)

  unfoldable pub values_step : Token → Option (Found (List Expr))
  values_step t0 = first (read_some_values t0) (read_no_values t0)

  unfoldable pub read_a_target : Token → Option (Found (Option Token))
  read_a_target t0 = name_at (t0 ∷ s) >>= λ x. Some (found (Some x.0) x.1 0)

  unfoldable pub read_no_target : Token → Option (Found (Option Token))
  read_no_target t0 = front_at is_stmt_end (t0 ∷ s) >>= λ z0. Some (found None (t0 ∷ s) 0)

  unfoldable pub target_step : Token → Option (Found (Option Token))
  target_step t0 = first (read_a_target t0) (read_no_target t0)

  unfoldable pub read_header_arm : Token → Option (Found Arm)
  read_header_arm t0 = simple_step true t0 >>= λ i. front_at is_semi i.rest >>= λ x. (at x.1).expr 5 true false >>= λ c. (at c.rest).block >>= λ b. Some (found (make_arm i.tree c.tree b.tree) b.rest (max i.depth (max c.depth b.depth)))

  unfoldable pub read_bare_arm : Token → Option (Found Arm)
  read_bare_arm t0 = expr_step s at 5 true false t0 >>= λ c. mark_at mark.LeftBrace c.rest >>= λ z1. (at c.rest).block >>= λ b. Some (found (make_arm si.Empty c.tree b.tree) b.rest (max c.depth b.depth))

  unfoldable pub read_empty_arm : Token → Option (Found Arm)
  read_empty_arm t0 = front_at is_semi (t0 ∷ s) >>= λ x. (at x.1).expr 5 true false >>= λ c. (at c.rest).block >>= λ b. Some (found (make_arm si.Empty c.tree b.tree) b.rest (max c.depth b.depth))

  unfoldable pub arm_step : Token → Option (Found Arm)
  arm_step t0 = first (read_header_arm t0) (first (read_bare_arm t0) (read_empty_arm t0))

  unfoldable pub read_last_arm : Token → Option (Found (List Arm × Option Block))
  read_last_arm t0 = arm_step t0 >>= λ a. is_none (word_at word.Else a.rest) >> Some (found ((a.tree ∷ [], None)) a.rest a.depth)

  unfoldable pub read_more_arms : Token → Option (Found (List Arm × Option Block))
  read_more_arms t0 = arm_step t0 >>= λ a. word_at word.Else a.rest >>= λ z1. word_at word.If z1.1 >>= λ z2. (at z2.1).arms >>= λ m. Some (found ((a.tree ∷ m.tree.0, m.tree.1)) m.rest (max a.depth m.depth))

  unfoldable pub read_last_block : Token → Option (Found (List Arm × Option Block))
  read_last_block t0 = arm_step t0 >>= λ a. word_at word.Else a.rest >>= λ z1. is_none (word_at word.If z1.1) >> (at z1.1).block >>= λ b. Some (found ((a.tree ∷ [], Some b.tree)) b.rest (max a.depth b.depth))

  unfoldable pub arms_step : Token → Option (Found (List Arm × Option Block))
  arms_step t0 = first (read_last_arm t0) (first (read_more_arms t0) (read_last_block t0))

  unfoldable pub read_a_tag_value : Token → Option (Found (Option Expr))
  read_a_tag_value t0 = expr_step s at 5 true false t0 >>= λ t. Some (found (Some t.tree) t.rest t.depth)

  unfoldable pub read_no_tag_value : Token → Option (Found (Option Expr))
  read_no_tag_value t0 = mark_at mark.LeftBrace (t0 ∷ s) >>= λ z0. Some (found None (t0 ∷ s) 0)

  unfoldable pub tag_value_step : Token → Option (Found (Option Expr))
  tag_value_step t0 = first (read_a_tag_value t0) (read_no_tag_value t0)

  unfoldable pub read_plain_guard : Token → Option (Found (Option (Token × Span) × Expr × Span))
  read_plain_guard t0 = is_none (defined_at (t0 ∷ s)) >> primary_step s at true t0 >>= λ t. mark_at mark.Dot t.rest >>= λ z2. mark_at mark.LeftParen z2.1 >>= λ z3. word_at word.«Type» z3.1 >>= λ p. mark_at mark.RightParen p.1 >>= λ z5. Some (found ((None, t.tree, p.0)) z5.1 (max t.depth 1))

  unfoldable pub read_named_guard : Token → Option (Found (Option (Token × Span) × Expr × Span))
  read_named_guard t0 = name_at (t0 ∷ s) >>= λ x. mark_at mark.Define x.1 >>= λ z1. (at z1.1).primary true >>= λ t. mark_at mark.Dot t.rest >>= λ z3. mark_at mark.LeftParen z3.1 >>= λ z4. word_at word.«Type» z4.1 >>= λ p. mark_at mark.RightParen p.1 >>= λ z6. Some (found ((Some (x.0, z1.0), t.tree, p.0)) z6.1 (max t.depth 1))

  unfoldable pub guard_step : Token → Option (Found (Option (Token × Span) × Expr × Span))
  guard_step t0 = first (read_plain_guard t0) (read_named_guard t0)

  unfoldable pub read_a_case : Token → Option (Found (List Clause))
  read_a_case t0 = word_at word.Case (t0 ∷ s) >>= λ p. (at p.1).exprs false >>= λ es. mark_at mark.Colon es.rest >>= λ z2. (at z2.1).stmts >>= λ ts. (at ts.rest).clauses >>= λ cs. Some (found (cl.Case p.0 es.tree ts.tree ∷ cs.tree) cs.rest (max es.depth (max ts.depth cs.depth)))

  unfoldable pub read_a_default : Token → Option (Found (List Clause))
  read_a_default t0 = word_at word.Default (t0 ∷ s) >>= λ p. mark_at mark.Colon p.1 >>= λ z1. (at z1.1).stmts >>= λ ts. (at ts.rest).clauses >>= λ cs. Some (found (cl.Default p.0 ts.tree ∷ cs.tree) cs.rest (max ts.depth cs.depth))

  unfoldable pub read_no_clauses : Token → Option (Found (List Clause))
  read_no_clauses t0 = mark_at mark.RightBrace (t0 ∷ s) >>= λ z0. Some (found [] (t0 ∷ s) 0)

  unfoldable pub clauses_step : Token → Option (Found (List Clause))
  clauses_step t0 = first (read_a_case t0) (first (read_a_default t0) (read_no_clauses t0))

  unfoldable pub read_one_type : Token → Option (Found (List TypeExpr))
  read_one_type t0 = type_step s at t0 >>= λ t. is_none (mark_at mark.Comma t.rest) >> Some (found (t.tree ∷ []) t.rest t.depth)

  unfoldable pub read_more_cases : Token → Option (Found (List TypeExpr))
  read_more_cases t0 = type_step s at t0 >>= λ t. mark_at mark.Comma t.rest >>= λ z1. (at z1.1).types >>= λ ts. Some (found (t.tree ∷ ts.tree) ts.rest (max t.depth ts.depth))

  unfoldable pub types_step : Token → Option (Found (List TypeExpr))
  types_step t0 = first (read_one_type t0) (read_more_cases t0)

  unfoldable pub read_a_type_case : Token → Option (Found (List TypeClause))
  read_a_type_case t0 = word_at word.Case (t0 ∷ s) >>= λ p. (at p.1).types >>= λ us. mark_at mark.Colon us.rest >>= λ z2. (at z2.1).stmts >>= λ ts. (at ts.rest).type_clauses >>= λ cs. Some (found (tc.Case p.0 us.tree ts.tree ∷ cs.tree) cs.rest (max us.depth (max ts.depth cs.depth)))

  unfoldable pub read_a_type_default : Token → Option (Found (List TypeClause))
  read_a_type_default t0 = word_at word.Default (t0 ∷ s) >>= λ p. mark_at mark.Colon p.1 >>= λ z1. (at z1.1).stmts >>= λ ts. (at ts.rest).type_clauses >>= λ cs. Some (found (tc.Default p.0 ts.tree ∷ cs.tree) cs.rest (max ts.depth cs.depth))

  unfoldable pub read_no_type_clauses : Token → Option (Found (List TypeClause))
  read_no_type_clauses t0 = mark_at mark.RightBrace (t0 ∷ s) >>= λ z0. Some (found [] (t0 ∷ s) 0)

  unfoldable pub type_clauses_step : Token → Option (Found (List TypeClause))
  type_clauses_step t0 = first (read_a_type_case t0) (first (read_a_type_default t0) (read_no_type_clauses t0))

  unfoldable pub read_comm_assign : Token → Option (Found Comm)
  read_comm_assign t0 = exprs_step s at false t0 >>= λ ts. mark_at mark.Assign ts.rest >>= λ p. (at p.1).expr 5 false false >>= λ u. Some (found (cm.Assign ts.tree p.0 u.tree) u.rest (max ts.depth u.depth))

  unfoldable pub read_comm_define : Token → Option (Found Comm)
  read_comm_define t0 = exprs_step s at false t0 >>= λ ts. mark_at mark.Define ts.rest >>= λ p. (at p.1).expr 5 false false >>= λ u. Some (found (cm.Define ts.tree p.0 u.tree) u.rest (max ts.depth u.depth))

  unfoldable pub read_comm_send : Token → Option (Found Comm)
  read_comm_send t0 = expr_step s at 5 false false t0 >>= λ t. mark_at mark.Arrow t.rest >>= λ p. (at p.1).expr 5 false false >>= λ u. Some (found (cm.Send t.tree (operator mark.Arrow p.0) u.tree) u.rest (max t.depth u.depth))

  unfoldable pub read_comm_receive : Token → Option (Found Comm)
  read_comm_receive t0 = expr_step s at 5 false false t0 >>= λ t. mark_at mark.Colon t.rest >>= λ z1. Some (found (cm.Receive t.tree) t.rest t.depth)

  unfoldable pub comm_step : Token → Option (Found Comm)
  comm_step t0 = first (read_comm_assign t0) (first (read_comm_define t0) (first (read_comm_send t0) (read_comm_receive t0)))

  unfoldable pub read_a_comm : Token → Option (Found (List CommClause))
  read_a_comm t0 = word_at word.Case (t0 ∷ s) >>= λ p. (at p.1).comm >>= λ c. mark_at mark.Colon c.rest >>= λ z2. (at z2.1).stmts >>= λ ts. (at ts.rest).comm_clauses >>= λ cs. Some (found (co.Case p.0 c.tree ts.tree ∷ cs.tree) cs.rest (max c.depth (max ts.depth cs.depth)))

  unfoldable pub read_a_comm_default : Token → Option (Found (List CommClause))
  read_a_comm_default t0 = word_at word.Default (t0 ∷ s) >>= λ p. mark_at mark.Colon p.1 >>= λ z1. (at z1.1).stmts >>= λ ts. (at ts.rest).comm_clauses >>= λ cs. Some (found (co.Default p.0 ts.tree ∷ cs.tree) cs.rest (max ts.depth cs.depth))

  unfoldable pub read_no_comms : Token → Option (Found (List CommClause))
  read_no_comms t0 = mark_at mark.RightBrace (t0 ∷ s) >>= λ z0. Some (found [] (t0 ∷ s) 0)

  unfoldable pub comm_clauses_step : Token → Option (Found (List CommClause))
  comm_clauses_step t0 = first (read_a_comm t0) (first (read_a_comm_default t0) (read_no_comms t0))

  unfoldable pub read_init_header : Token → Option (Found Simple)
  read_init_header t0 = simple_step true t0 >>= λ i. front_at is_semi i.rest >>= λ x. Some (found i.tree x.1 i.depth)

  unfoldable pub read_no_header : Token → Option (Found Simple)
  read_no_header t0 = front_at is_semi (t0 ∷ s) >>= λ x. Some (found si.Empty x.1 0)

  unfoldable pub header_step : Token → Option (Found Simple)
  header_step t0 = first (read_init_header t0) (read_no_header t0)

  unfoldable pub read_a_condition : Token → Option (Found (Option Expr))
  read_a_condition t0 = expr_step s at 5 true false t0 >>= λ t. Some (found (Some t.tree) t.rest t.depth)

  unfoldable pub read_no_condition : Token → Option (Found (Option Expr))
  read_no_condition t0 = front_at is_semi (t0 ∷ s) >>= λ z0. Some (found None (t0 ∷ s) 0)

  unfoldable pub condition_step : Token → Option (Found (Option Expr))
  condition_step t0 = first (read_a_condition t0) (read_no_condition t0)

  unfoldable pub read_a_post : Token → Option (Found Simple)
  read_a_post t0 = simple_step true t0 >>= λ i. not (is_define i.tree) >> Some (found i.tree i.rest i.depth)

  unfoldable pub read_no_post : Token → Option (Found Simple)
  read_no_post t0 = mark_at mark.LeftBrace (t0 ∷ s) >>= λ z0. Some (found si.Empty (t0 ∷ s) 0)

  unfoldable pub post_step : Token → Option (Found Simple)
  post_step t0 = first (read_a_post t0) (read_no_post t0)

  unfoldable pub read_range_assign : Token → Option (Found RangeLeft)
  read_range_assign t0 = exprs_step s at true t0 >>= λ ts. mark_at mark.Assign ts.rest >>= λ p. word_at word.Range p.1 >>= λ z2. Some (found (rl.Assign ts.tree p.0) z2.1 ts.depth)

  unfoldable pub read_range_define : Token → Option (Found RangeLeft)
  read_range_define t0 = exprs_step s at true t0 >>= λ ts. mark_at mark.Define ts.rest >>= λ p. word_at word.Range p.1 >>= λ z2. Some (found (rl.Define ts.tree p.0) z2.1 ts.depth)

  unfoldable pub read_no_range_left : Token → Option (Found RangeLeft)
  read_no_range_left t0 = word_at word.Range (t0 ∷ s) >>= λ z0. Some (found rl.Absent z0.1 0)

  unfoldable pub range_left_step : Token → Option (Found RangeLeft)
  range_left_step t0 = first (read_range_assign t0) (first (read_range_define t0) (read_no_range_left t0))

  unfoldable pub read_simple_stmt : Token → Option (Found Stmt)
  read_simple_stmt t0 = is_none (label_at (t0 ∷ s)) >> simple_step false t0 >>= λ t. Some (found (st.Simple t.tree) t.rest t.depth)

  unfoldable pub read_declaration_stmt : Token → Option (Found Stmt)
  read_declaration_stmt t0 = front_at is_decl_start (t0 ∷ s) >>= λ z0. decl_step t0 >>= λ x. Some (found (st.Declaration x.tree) x.rest x.depth)

  unfoldable pub read_bare_label : Token → Option (Found Stmt)
  read_bare_label t0 = name_at (t0 ∷ s) >>= λ x. mark_at mark.Colon x.1 >>= λ z1. front_at is_stmt_end z1.1 >>= λ z2. Some (found (st.Labeled x.0 (st.Simple si.Empty)) z1.1 1)

  unfoldable pub read_labeled : Token → Option (Found Stmt)
  read_labeled t0 = name_at (t0 ∷ s) >>= λ x. mark_at mark.Colon x.1 >>= λ z1. is_none (front_at is_stmt_end z1.1) >> (at z1.1).stmt >>= λ t. Some (found (st.Labeled x.0 t.tree) t.rest (suc t.depth))

  unfoldable pub read_go : Token → Option (Found Stmt)
  read_go t0 = word_at word.Go (t0 ∷ s) >>= λ p. (at p.1).expr 5 false false >>= λ t. Some (found (st.Go p.0 t.tree) t.rest t.depth)

  unfoldable pub read_defer : Token → Option (Found Stmt)
  read_defer t0 = word_at word.Defer (t0 ∷ s) >>= λ p. (at p.1).expr 5 false false >>= λ t. Some (found (st.Defer p.0 t.tree) t.rest t.depth)

  unfoldable pub read_return : Token → Option (Found Stmt)
  read_return t0 = word_at word.Return (t0 ∷ s) >>= λ p. (at p.1).values >>= λ ts. Some (found (st.Return p.0 ts.tree) ts.rest ts.depth)

  unfoldable pub read_break : Token → Option (Found Stmt)
  read_break t0 = word_at word.Break (t0 ∷ s) >>= λ p. (at p.1).target >>= λ o. Some (found (st.Break p.0 o.tree) o.rest o.depth)

  unfoldable pub read_continue : Token → Option (Found Stmt)
  read_continue t0 = word_at word.Continue (t0 ∷ s) >>= λ p. (at p.1).target >>= λ o. Some (found (st.Continue p.0 o.tree) o.rest o.depth)

  unfoldable pub read_goto : Token → Option (Found Stmt)
  read_goto t0 = word_at word.Goto (t0 ∷ s) >>= λ p. name_at p.1 >>= λ x. Some (found (st.Goto p.0 x.0) x.1 0)

  unfoldable pub read_fallthrough : Token → Option (Found Stmt)
  read_fallthrough t0 = word_at word.Fallthrough (t0 ∷ s) >>= λ p. Some (found (st.Fallthrough p.0) p.1 0)

  unfoldable pub read_block_stmt : Token → Option (Found Stmt)
  read_block_stmt t0 = mark_at mark.LeftBrace (t0 ∷ s) >>= λ p. (at p.1).stmts >>= λ ts. mark_at mark.RightBrace ts.rest >>= λ q. Some (found (st.Block (make_block p.0 ts.tree q.0)) q.1 (suc ts.depth))

  unfoldable pub read_if_stmt : Token → Option (Found Stmt)
  read_if_stmt t0 = word_at word.If (t0 ∷ s) >>= λ p. (at p.1).arms >>= λ a. Some (found (st.If p.0 a.tree.0 a.tree.1) a.rest a.depth)

  unfoldable pub read_header_type_switch : Token → Option (Found Stmt)
  read_header_type_switch t0 = word_at word.Switch (t0 ∷ s) >>= λ p. (at p.1).header >>= λ i. (at i.rest).guard >>= λ y. mark_at mark.LeftBrace y.rest >>= λ z3. (at z3.1).type_clauses >>= λ cs. mark_at mark.RightBrace cs.rest >>= λ q. Some (found (st.TypeSwitch p.0 i.tree y.tree.0 y.tree.1 y.tree.2 cs.tree q.0) q.1 (max i.depth (max y.depth (suc cs.depth))))

  unfoldable pub read_type_switch : Token → Option (Found Stmt)
  read_type_switch t0 = word_at word.Switch (t0 ∷ s) >>= λ p. is_none (at p.1).header >> (at p.1).guard >>= λ y. mark_at mark.LeftBrace y.rest >>= λ z3. (at z3.1).type_clauses >>= λ cs. mark_at mark.RightBrace cs.rest >>= λ q. Some (found (st.TypeSwitch p.0 si.Empty y.tree.0 y.tree.1 y.tree.2 cs.tree q.0) q.1 (max y.depth (suc cs.depth)))

  unfoldable pub read_header_switch : Token → Option (Found Stmt)
  read_header_switch t0 = word_at word.Switch (t0 ∷ s) >>= λ p. (at p.1).header >>= λ i. is_none (at i.rest).guard >> (at i.rest).tag_value >>= λ o. mark_at mark.LeftBrace o.rest >>= λ z4. (at z4.1).clauses >>= λ cs. mark_at mark.RightBrace cs.rest >>= λ q. Some (found (st.Switch p.0 i.tree o.tree cs.tree q.0) q.1 (max i.depth (max o.depth (suc cs.depth))))

  unfoldable pub read_switch : Token → Option (Found Stmt)
  read_switch t0 = word_at word.Switch (t0 ∷ s) >>= λ p. is_none (at p.1).header >> is_none (at p.1).guard >> (at p.1).tag_value >>= λ o. mark_at mark.LeftBrace o.rest >>= λ z4. (at z4.1).clauses >>= λ cs. mark_at mark.RightBrace cs.rest >>= λ q. Some (found (st.Switch p.0 si.Empty o.tree cs.tree q.0) q.1 (max o.depth (suc cs.depth)))

  unfoldable pub read_select : Token → Option (Found Stmt)
  read_select t0 = word_at word.Select (t0 ∷ s) >>= λ p. mark_at mark.LeftBrace p.1 >>= λ z1. (at z1.1).comm_clauses >>= λ cs. mark_at mark.RightBrace cs.rest >>= λ q. Some (found (st.Select p.0 cs.tree q.0) q.1 (suc cs.depth))

  unfoldable pub read_endless : Token → Option (Found Stmt)
  read_endless t0 = word_at word.For (t0 ∷ s) >>= λ p. mark_at mark.LeftBrace p.1 >>= λ z1. (at p.1).block >>= λ b. Some (found (st.While p.0 None b.tree) b.rest b.depth)

  unfoldable pub read_range : Token → Option (Found Stmt)
  read_range t0 = word_at word.For (t0 ∷ s) >>= λ p. is_none (mark_at mark.LeftBrace p.1) >> (at p.1).range_left >>= λ x. (at x.rest).expr 5 true false >>= λ t. (at t.rest).block >>= λ b. Some (found (st.Range p.0 x.tree t.tree b.tree) b.rest (max x.depth (max t.depth b.depth)))

  unfoldable pub read_loop : Token → Option (Found Stmt)
  read_loop t0 = word_at word.For (t0 ∷ s) >>= λ p. is_none (mark_at mark.LeftBrace p.1) >> is_none (at p.1).range_left >> (at p.1).header >>= λ i. (at i.rest).condition >>= λ o. front_at is_semi o.rest >>= λ y. (at y.1).post >>= λ j. (at j.rest).block >>= λ b. Some (found (st.Loop p.0 i.tree o.tree j.tree b.tree) b.rest (max i.depth (max o.depth (max j.depth b.depth))))

  unfoldable pub read_while : Token → Option (Found Stmt)
  read_while t0 = word_at word.For (t0 ∷ s) >>= λ p. is_none (mark_at mark.LeftBrace p.1) >> is_none (at p.1).range_left >> is_none (at p.1).header >> (at p.1).expr 5 true false >>= λ t. (at t.rest).block >>= λ b. Some (found (st.While p.0 (Some t.tree) b.tree) b.rest (max t.depth b.depth))

  unfoldable pub stmt_step : Token → Option (Found Stmt)
  stmt_step t0 = first (read_simple_stmt t0) (first (read_declaration_stmt t0) (first (read_bare_label t0) (first (read_labeled t0) (first (read_go t0) (first (read_defer t0) (first (read_return t0) (first (read_break t0) (first (read_continue t0) (first (read_goto t0) (first (read_fallthrough t0) (first (read_block_stmt t0) (first (read_if_stmt t0) (first (read_header_type_switch t0) (first (read_type_switch t0) (first (read_header_switch t0) (first (read_switch t0) (first (read_select t0) (first (read_endless t0) (first (read_range t0) (first (read_loop t0) (read_while t0)))))))))))))))))))))

  unfoldable pub read_last_stmt : Token → Option (Found (List Stmt))
  read_last_stmt t0 = stmt_step t0 >>= λ t. mark_at mark.RightBrace t.rest >>= λ z1. Some (found (t.tree ∷ []) t.rest t.depth)

  unfoldable pub read_more_stmts : Token → Option (Found (List Stmt))
  read_more_stmts t0 = stmt_step t0 >>= λ t. front_at is_semi t.rest >>= λ x. (at x.1).stmts >>= λ ts. Some (found (t.tree ∷ ts.tree) ts.rest (max t.depth ts.depth))

  unfoldable pub read_empty_stmt : Token → Option (Found (List Stmt))
  read_empty_stmt t0 = front_at is_semi (t0 ∷ s) >>= λ x. (at x.1).stmts >>= λ ts. Some (found (st.Simple si.Empty ∷ ts.tree) ts.rest ts.depth)

  unfoldable pub read_no_stmts : Token → Option (Found (List Stmt))
  read_no_stmts t0 = front_at is_list_end (t0 ∷ s) >>= λ z0. Some (found [] (t0 ∷ s) 0)

  unfoldable pub stmts_step : Token → Option (Found (List Stmt))
  stmts_step t0 = first (read_last_stmt t0) (first (read_more_stmts t0) (first (read_empty_stmt t0) (read_no_stmts t0)))

  -- ---- Chunks

  unfoldable pub read_plain_import : Token → Option (Found ImportSpec)
  read_plain_import t0 = text_at (t0 ∷ s) >>= λ x. Some (found (im.Plain x.0) x.1 0)

  unfoldable pub read_dot_import : Token → Option (Found ImportSpec)
  read_dot_import t0 = mark_at mark.Dot (t0 ∷ s) >>= λ p. text_at p.1 >>= λ x. Some (found (im.Dot p.0 x.0) x.1 0)

  unfoldable pub read_named_import : Token → Option (Found ImportSpec)
  read_named_import t0 = name_at (t0 ∷ s) >>= λ x. text_at x.1 >>= λ y. Some (found (im.Named x.0 y.0) y.1 0)

  unfoldable pub import_spec_step : Token → Option (Found ImportSpec)
  import_spec_step t0 = first (read_plain_import t0) (first (read_dot_import t0) (read_named_import t0))

  unfoldable pub read_last_import : Token → Option (Found (List ImportSpec))
  read_last_import t0 = import_spec_step t0 >>= λ c. mark_at mark.RightParen c.rest >>= λ z1. Some (found (c.tree ∷ []) c.rest c.depth)

  unfoldable pub read_more_imports : Token → Option (Found (List ImportSpec))
  read_more_imports t0 = import_spec_step t0 >>= λ c. front_at is_semi c.rest >>= λ x. (at x.1).import_specs >>= λ cs. Some (found (c.tree ∷ cs.tree) cs.rest (max c.depth cs.depth))

  unfoldable pub read_no_imports : Token → Option (Found (List ImportSpec))
  read_no_imports t0 = mark_at mark.RightParen (t0 ∷ s) >>= λ z0. Some (found [] (t0 ∷ s) 0)

  unfoldable pub import_specs_step : Token → Option (Found (List ImportSpec))
  import_specs_step t0 = first (read_last_import t0) (first (read_more_imports t0) (read_no_imports t0))

  unfoldable pub read_a_body : Token → Option (Found (Option Block))
  read_a_body t0 = block_step s at t0 >>= λ b. Some (found (Some b.tree) b.rest b.depth)

  unfoldable pub read_no_body : Token → Option (Found (Option Block))
  read_no_body t0 = front_at is_semi (t0 ∷ s) >>= λ z0. Some (found None (t0 ∷ s) 0)

  unfoldable pub body_step : Token → Option (Found (Option Block))
  body_step t0 = first (read_a_body t0) (read_no_body t0)

  unfoldable pub read_declaration : Token → Option (Found Top)
  read_declaration t0 = front_at is_decl_start (t0 ∷ s) >>= λ z0. decl_step t0 >>= λ x. Some (found (tp.Declaration x.tree) x.rest x.depth)

  unfoldable pub read_function : Token → Option (Found Top)
  read_function t0 = word_at word.Func (t0 ∷ s) >>= λ p. name_at p.1 >>= λ x. (at x.1).signature >>= λ z. (at z.rest).body >>= λ o. Some (found (tp.Function p.0 x.0 z.tree o.tree) o.rest (max z.depth o.depth))

  unfoldable pub read_method_decl : Token → Option (Found Top)
  read_method_decl t0 = word_at word.Func (t0 ∷ s) >>= λ p. mark_at mark.LeftParen p.1 >>= λ z1. (at p.1).params false >>= λ ps. is_receiver ps.tree >> name_at ps.rest >>= λ x. (at x.1).signature >>= λ z. (at z.rest).body >>= λ o. Some (found (tp.Method p.0 ps.tree x.0 z.tree o.tree) o.rest (max ps.depth (max z.depth o.depth)))

  unfoldable pub top_step : Token → Option (Found Top)
  top_step t0 = first (read_declaration t0) (first (read_function t0) (read_method_decl t0))

  unfoldable pub read_top_chunk : Token → Option (Found Chunk)
  read_top_chunk t0 = top_step t0 >>= λ t. front_at is_semi t.rest >>= λ y. Some (found (ch.Top t.tree) y.1 t.depth)

  unfoldable pub read_package_clause : Token → Option (Found Chunk)
  read_package_clause t0 = word_at word.Package (t0 ∷ s) >>= λ p. name_at p.1 >>= λ x. front_at is_semi x.1 >>= λ y. Some (found (ch.Package x.0) y.1 0)

  unfoldable pub read_import_decl : Token → Option (Found Chunk)
  read_import_decl t0 = word_at word.Import (t0 ∷ s) >>= λ p. is_none (mark_at mark.LeftParen p.1) >> (at p.1).import_spec >>= λ i. front_at is_semi i.rest >>= λ y. Some (found (ch.Import (i.tree ∷ [])) y.1 i.depth)

  unfoldable pub read_import_group : Token → Option (Found Chunk)
  read_import_group t0 = word_at word.Import (t0 ∷ s) >>= λ p. mark_at mark.LeftParen p.1 >>= λ z1. (at z1.1).import_specs >>= λ cs. mark_at mark.RightParen cs.rest >>= λ z3. front_at is_semi z3.1 >>= λ y. Some (found (ch.Import cs.tree) y.1 (suc cs.depth))

  unfoldable pub chunk_step : Token → Option (Found Chunk)
  chunk_step t0 = first (read_top_chunk t0) (first (read_package_clause t0) (first (read_import_decl t0) (read_import_group t0)))

  abbrev pub row_step : Token → Row
  row_step x = record {
    idents = idents_step s at x;
    type_name = type_name_step s at x;
    type = type_step s at x;
    unnamed = λ v. unnamed_step s at v x;
    named_params = λ v. named_params_step s at v x;
    params = λ v. params_step s at v x;
    signature = signature_step s at x;
    tag = tag_step s at x;
    field = field_step s at x;
    fields = fields_step s at x;
    member = member_step s at x;
    members = members_step s at x;
    literal = literal_step s at x;
    selected = selected_step s at x;
    block = block_step s at x;
    received = received_step s at x;
    head = λ h. head_step s at h x;
    bound = bound_step s at x;
    args = args_step s at x;
    suffix = suffix_step s at x;
    suffixes = suffixes_step s at x;
    primary = λ h. primary_step s at h x;
    unary = λ h. λ w. unary_step s at h w x;
    expr = λ m. λ h. λ w. expr_step s at m h w x;
    operand = λ m. λ h. operand_step s at m h x;
    operands = λ m. λ h. operands_step s at m h x;
    value = value_step s at x;
    element = element_step s at x;
    elements = elements_step s at x;
    exprs = λ h. exprs_step s at h x;
    simple = λ h. simple_step h x;
    const_spec = λ i. const_spec_step i x;
    const_specs = λ i. const_specs_step i x;
    type_spec = type_spec_step x;
    type_specs = type_specs_step x;
    var_spec = var_spec_step x;
    var_specs = var_specs_step x;
    decl = decl_step x;
    values = values_step x;
    target = target_step x;
    arms = arms_step x;
    arm = arm_step x;
    tag_value = tag_value_step x;
    guard = guard_step x;
    clauses = clauses_step x;
    types = types_step x;
    type_clauses = type_clauses_step x;
    comm = comm_step x;
    comm_clauses = comm_clauses_step x;
    header = header_step x;
    condition = condition_step x;
    post = post_step x;
    range_left = range_left_step x;
    stmt = stmt_step x;
    stmts = stmts_step x;
    import_spec = import_spec_step x;
    import_specs = import_specs_step x;
    body = body_step x;
    top = top_step x;
    chunk = chunk_step x;
  }

abbrev pub row_at : List Row → List Token → Row
row_at rs r = slice_index_or rs (length r) past

unfoldable pub rows : List Token → List Row
rows [] = past ∷ []
rows (x ∷ s) = rows s ++ row_step s (row_at (rows s)) x ∷ []

abbrev pub row : List Token → Row
row s = row_at (rows s) s
