-- More readings by computation: the forms of chunks, declarations and statements, and texts that have no tree.
use Rattle.std.proofs.Common.{◌≡◌, ℕ, false, [], ◌∷◌, refl, Some, None}
use Rattle.gs_syntax.specs.declared.token.Span.{Span}
use Rattle.gs_syntax.specs.declared.token.Token.{Token}
use Rattle.gs_syntax.specs.declared.token.Operator.TheVariants as mark
use Rattle.gs_syntax.specs.declared.token.Keyword.TheVariants as word
use Rattle.gs_grammar.specs.declared.trees.Chunk.TheVariants as ch
use Rattle.gs_grammar.specs.declared.trees.ImportSpec.TheVariants as im
use Rattle.gs_grammar.specs.declared.trees.Top.TheVariants as tp
use Rattle.gs_grammar.specs.declared.trees.Decl.TheVariants as de
use Rattle.gs_grammar.specs.declared.trees.ConstSpec.TheVariants as cns
use Rattle.gs_grammar.specs.declared.trees.TypeSpec.TheVariants as tys
use Rattle.gs_grammar.specs.declared.trees.VarSpec.TheVariants as vs
use Rattle.gs_grammar.specs.declared.trees.TypeExpr.TheVariants as ty
use Rattle.gs_grammar.specs.declared.trees.Signature.TheVariants as sg
use Rattle.gs_grammar.specs.declared.trees.Parameter.TheVariants as pa
use Rattle.gs_grammar.specs.declared.trees.Field.TheVariants as fi
use Rattle.gs_grammar.specs.declared.trees.Expr.TheVariants as ex
use Rattle.gs_grammar.specs.declared.trees.Suffix.TheVariants as sf
use Rattle.gs_grammar.specs.declared.trees.Element.TheVariants as el
use Rattle.gs_grammar.specs.declared.trees.ElementValue.TheVariants as ev
use Rattle.gs_grammar.specs.declared.trees.Stmt.TheVariants as st
use Rattle.gs_grammar.specs.declared.trees.Simple.TheVariants as si
use Rattle.gs_grammar.specs.declared.trees.Clause.TheVariants as cl
use Rattle.gs_grammar.specs.declared.trees.TypeClause.TheVariants as tc
use Rattle.gs_grammar.specs.declared.trees.CommClause.TheVariants as co
use Rattle.gs_grammar.specs.declared.trees.Comm.TheVariants as cm
use Rattle.gs_grammar.specs.declared.trees.RangeLeft.TheVariants as rl
use Rattle.gs_syntax.specs.declared.token.TokenKind.TheVariants as kind
use Rattle.gs_syntax.specs.declared.token.Operator.{Operator}
use Rattle.gs_syntax.specs.declared.token.Keyword.{Keyword}
use Rattle.gs_grammar.specs.Front.{token, operator, keyword, identifier, mark_at, word_at, name_at, text_at, front_at, trail_at, selector_at, label_at, defined_at}
use Rattle.gs_grammar.specs.Parts.{found, make_parameters, make_literal, make_block, make_arm}
use Rattle.gs_grammar.specs.Reference.{rows, row, idents_step, type_name_step, type_step, unnamed_step, named_params_step, params_step, signature_step, tag_step, field_step, fields_step, member_step, members_step, literal_step, selected_step, block_step, received_step, head_step, bound_step, args_step, suffix_step, suffixes_step, primary_step, unary_step, expr_step, operand_step, operands_step, value_step, element_step, elements_step, exprs_step, simple_step, const_spec_step, const_specs_step, type_spec_step, type_specs_step, var_spec_step, var_specs_step, decl_step, values_step, target_step, arms_step, arm_step, tag_value_step, guard_step, clauses_step, types_step, type_clauses_step, comm_step, comm_clauses_step, header_step, condition_step, post_step, range_left_step, stmt_step, stmts_step, import_spec_step, import_specs_step, body_step, top_step, chunk_step, read_one_name, read_more_names, read_bare, read_qualified, read_named, read_paren_type, read_pointer, read_slice, read_array, read_map_type, read_channel, read_send_channel, read_receive_channel, read_function_type, read_struct_type, read_interface_type, read_last_type, read_more_types, read_last_dots, read_last_named_dots, read_last_named, read_more_named, read_no_params, read_named_list, read_unnamed_list, read_results, read_result, read_plain, read_a_tag, read_no_tag, read_named_field, read_embedded_field, read_qualified_field, read_pointer_field, read_last_field, read_more_fields, read_no_fields, read_method, read_embedded_interface, read_qualified_interface, read_last_member, read_more_members, read_no_members, read_values_in_braces, read_selected_literal, read_braces, read_received, read_basic_literal, read_header_name, read_literal_of_selected, read_name, read_literal_of_name, read_paren, read_literal_of_type, read_composite_type, read_counted_literal, read_other_type, read_function_literal, read_lone_function_type, read_a_bound, read_no_bound, read_spread, read_last_arg, read_more_args, read_no_args, read_selector, read_assertion, read_open_slice, read_open_full_slice, read_index, read_slice_expr, read_full_slice, read_call, read_more_suffixes, read_no_suffixes, read_primary, read_bare_primary, read_signed, read_starred, read_receiver, read_receive_first, read_receive, read_operand, read_more_operands, read_no_operands, read_value_expr, read_value_literal, read_plain_element, read_keyed_element, read_last_element, read_more_elements, read_no_elements, read_one_expr, read_more_exprs, read_assign, read_define, read_expression, read_send, read_step, read_update, read_implicit, read_untyped, read_typed_const, read_last_const, read_more_consts, read_no_consts, read_definition, read_alias, read_last_type_spec, read_more_type_specs, read_no_type_specs, read_var_values, read_typed_var, read_typed_values, read_last_var, read_more_vars, read_no_vars, read_const_decl, read_const_group, read_type_decl, read_type_group, read_var_decl, read_var_group, read_some_values, read_no_values, read_a_target, read_no_target, read_last_arm, read_more_arms, read_last_block, read_header_arm, read_bare_arm, read_empty_arm, read_a_tag_value, read_no_tag_value, read_plain_guard, read_named_guard, read_a_case, read_a_default, read_no_clauses, read_one_type, read_more_cases, read_a_type_case, read_a_type_default, read_no_type_clauses, read_comm_assign, read_comm_define, read_comm_send, read_comm_receive, read_a_comm, read_a_comm_default, read_no_comms, read_init_header, read_no_header, read_a_condition, read_no_condition, read_a_post, read_no_post, read_range_assign, read_range_define, read_no_range_left, read_simple_stmt, read_declaration_stmt, read_bare_label, read_labeled, read_go, read_defer, read_return, read_break, read_continue, read_goto, read_fallthrough, read_block_stmt, read_if_stmt, read_header_type_switch, read_type_switch, read_header_switch, read_switch, read_select, read_endless, read_range, read_loop, read_while, read_last_stmt, read_more_stmts, read_empty_stmt, read_no_stmts, read_plain_import, read_dot_import, read_named_import, read_last_import, read_more_imports, read_no_imports, read_a_body, read_no_body, read_declaration, read_function, read_method_decl, read_top_chunk, read_package_clause, read_import_decl, read_import_group}

abbrev at : ℕ → Span
at i = record { offset = i; length = 1 }

abbrev m : Operator → ℕ → Token
m o i = operator o (at i)

abbrev k : Keyword → ℕ → Token
k w i = keyword w (at i)

abbrev id : ℕ → Token
id i = identifier (i ∷ []) (at i)

abbrev str : ℕ → Token
str i = token (kind.Text []) (at i)

abbrev num : ℕ → Token
num i = token (kind.Integer None) (at i)

-- package p;
pub package_of : (row (k word.Package 0 ∷ id 1 ∷ m mark.Semicolon 2 ∷ [])).chunk ≡ Some (found (ch.Package (id 1)) ([]) 0)
unfolding rows idents_step type_name_step type_step unnamed_step named_params_step params_step signature_step tag_step field_step fields_step member_step members_step literal_step selected_step block_step received_step head_step bound_step args_step suffix_step suffixes_step primary_step unary_step expr_step operand_step operands_step value_step element_step elements_step exprs_step simple_step const_spec_step const_specs_step type_spec_step type_specs_step var_spec_step var_specs_step decl_step values_step target_step arms_step arm_step tag_value_step guard_step clauses_step types_step type_clauses_step comm_step comm_clauses_step header_step condition_step post_step range_left_step stmt_step stmts_step import_spec_step import_specs_step body_step top_step chunk_step read_one_name read_more_names read_bare read_qualified read_named read_paren_type read_pointer read_slice read_array read_map_type read_channel read_send_channel read_receive_channel read_function_type read_struct_type read_interface_type read_last_type read_more_types read_last_dots read_last_named_dots read_last_named read_more_named read_no_params read_named_list read_unnamed_list read_results read_result read_plain read_a_tag read_no_tag read_named_field read_embedded_field read_qualified_field read_pointer_field read_last_field read_more_fields read_no_fields read_method read_embedded_interface read_qualified_interface read_last_member read_more_members read_no_members read_values_in_braces read_selected_literal read_braces read_received read_basic_literal read_header_name read_literal_of_selected read_name read_literal_of_name read_paren read_literal_of_type read_composite_type read_counted_literal read_other_type read_function_literal read_lone_function_type read_a_bound read_no_bound read_spread read_last_arg read_more_args read_no_args read_selector read_assertion read_open_slice read_open_full_slice read_index read_slice_expr read_full_slice read_call read_more_suffixes read_no_suffixes read_primary read_bare_primary read_signed read_starred read_receiver read_receive_first read_receive read_operand read_more_operands read_no_operands read_value_expr read_value_literal read_plain_element read_keyed_element read_last_element read_more_elements read_no_elements read_one_expr read_more_exprs read_assign read_define read_expression read_send read_step read_update read_implicit read_untyped read_typed_const read_last_const read_more_consts read_no_consts read_definition read_alias read_last_type_spec read_more_type_specs read_no_type_specs read_var_values read_typed_var read_typed_values read_last_var read_more_vars read_no_vars read_const_decl read_const_group read_type_decl read_type_group read_var_decl read_var_group read_some_values read_no_values read_a_target read_no_target read_last_arm read_more_arms read_last_block read_header_arm read_bare_arm read_empty_arm read_a_tag_value read_no_tag_value read_plain_guard read_named_guard read_a_case read_a_default read_no_clauses read_one_type read_more_cases read_a_type_case read_a_type_default read_no_type_clauses read_comm_assign read_comm_define read_comm_send read_comm_receive read_a_comm read_a_comm_default read_no_comms read_init_header read_no_header read_a_condition read_no_condition read_a_post read_no_post read_range_assign read_range_define read_no_range_left read_simple_stmt read_declaration_stmt read_bare_label read_labeled read_go read_defer read_return read_break read_continue read_goto read_fallthrough read_block_stmt read_if_stmt read_header_type_switch read_type_switch read_header_switch read_switch read_select read_endless read_range read_loop read_while read_last_stmt read_more_stmts read_empty_stmt read_no_stmts read_plain_import read_dot_import read_named_import read_last_import read_more_imports read_no_imports read_a_body read_no_body read_declaration read_function read_method_decl read_top_chunk read_package_clause read_import_decl read_import_group mark_at word_at name_at text_at front_at trail_at selector_at label_at defined_at
package_of = refl

-- import ( "p"; . "q"; r "s" );
pub imports_of : (row (k word.Import 0 ∷ m mark.LeftParen 1 ∷ str 2 ∷ m mark.Semicolon 3 ∷ m mark.Dot 4 ∷ str 5 ∷ m mark.Semicolon 6 ∷ id 7 ∷ str 8 ∷ m mark.RightParen 9 ∷ m mark.Semicolon 10 ∷ [])).chunk ≡ Some (found (ch.Import (im.Plain (str 2) ∷ im.Dot (at 4) (str 5) ∷ im.Named (id 7) (str 8) ∷ [])) ([]) 1)
unfolding rows idents_step type_name_step type_step unnamed_step named_params_step params_step signature_step tag_step field_step fields_step member_step members_step literal_step selected_step block_step received_step head_step bound_step args_step suffix_step suffixes_step primary_step unary_step expr_step operand_step operands_step value_step element_step elements_step exprs_step simple_step const_spec_step const_specs_step type_spec_step type_specs_step var_spec_step var_specs_step decl_step values_step target_step arms_step arm_step tag_value_step guard_step clauses_step types_step type_clauses_step comm_step comm_clauses_step header_step condition_step post_step range_left_step stmt_step stmts_step import_spec_step import_specs_step body_step top_step chunk_step read_one_name read_more_names read_bare read_qualified read_named read_paren_type read_pointer read_slice read_array read_map_type read_channel read_send_channel read_receive_channel read_function_type read_struct_type read_interface_type read_last_type read_more_types read_last_dots read_last_named_dots read_last_named read_more_named read_no_params read_named_list read_unnamed_list read_results read_result read_plain read_a_tag read_no_tag read_named_field read_embedded_field read_qualified_field read_pointer_field read_last_field read_more_fields read_no_fields read_method read_embedded_interface read_qualified_interface read_last_member read_more_members read_no_members read_values_in_braces read_selected_literal read_braces read_received read_basic_literal read_header_name read_literal_of_selected read_name read_literal_of_name read_paren read_literal_of_type read_composite_type read_counted_literal read_other_type read_function_literal read_lone_function_type read_a_bound read_no_bound read_spread read_last_arg read_more_args read_no_args read_selector read_assertion read_open_slice read_open_full_slice read_index read_slice_expr read_full_slice read_call read_more_suffixes read_no_suffixes read_primary read_bare_primary read_signed read_starred read_receiver read_receive_first read_receive read_operand read_more_operands read_no_operands read_value_expr read_value_literal read_plain_element read_keyed_element read_last_element read_more_elements read_no_elements read_one_expr read_more_exprs read_assign read_define read_expression read_send read_step read_update read_implicit read_untyped read_typed_const read_last_const read_more_consts read_no_consts read_definition read_alias read_last_type_spec read_more_type_specs read_no_type_specs read_var_values read_typed_var read_typed_values read_last_var read_more_vars read_no_vars read_const_decl read_const_group read_type_decl read_type_group read_var_decl read_var_group read_some_values read_no_values read_a_target read_no_target read_last_arm read_more_arms read_last_block read_header_arm read_bare_arm read_empty_arm read_a_tag_value read_no_tag_value read_plain_guard read_named_guard read_a_case read_a_default read_no_clauses read_one_type read_more_cases read_a_type_case read_a_type_default read_no_type_clauses read_comm_assign read_comm_define read_comm_send read_comm_receive read_a_comm read_a_comm_default read_no_comms read_init_header read_no_header read_a_condition read_no_condition read_a_post read_no_post read_range_assign read_range_define read_no_range_left read_simple_stmt read_declaration_stmt read_bare_label read_labeled read_go read_defer read_return read_break read_continue read_goto read_fallthrough read_block_stmt read_if_stmt read_header_type_switch read_type_switch read_header_switch read_switch read_select read_endless read_range read_loop read_while read_last_stmt read_more_stmts read_empty_stmt read_no_stmts read_plain_import read_dot_import read_named_import read_last_import read_more_imports read_no_imports read_a_body read_no_body read_declaration read_function read_method_decl read_top_chunk read_package_clause read_import_decl read_import_group mark_at word_at name_at text_at front_at trail_at selector_at label_at defined_at
imports_of = refl

-- const ( a = 1; b );
pub const_group_of : (row (k word.Const 0 ∷ m mark.LeftParen 1 ∷ id 2 ∷ m mark.Assign 3 ∷ num 4 ∷ m mark.Semicolon 5 ∷ id 6 ∷ m mark.RightParen 7 ∷ m mark.Semicolon 8 ∷ [])).chunk ≡ Some (found (ch.Top (tp.Declaration (de.ConstGroup (at 0) (cns.Untyped (id 2 ∷ []) (ex.Literal (num 4) ∷ []) ∷ cns.Implicit (id 6 ∷ []) ∷ [])))) ([]) 1)
unfolding rows idents_step type_name_step type_step unnamed_step named_params_step params_step signature_step tag_step field_step fields_step member_step members_step literal_step selected_step block_step received_step head_step bound_step args_step suffix_step suffixes_step primary_step unary_step expr_step operand_step operands_step value_step element_step elements_step exprs_step simple_step const_spec_step const_specs_step type_spec_step type_specs_step var_spec_step var_specs_step decl_step values_step target_step arms_step arm_step tag_value_step guard_step clauses_step types_step type_clauses_step comm_step comm_clauses_step header_step condition_step post_step range_left_step stmt_step stmts_step import_spec_step import_specs_step body_step top_step chunk_step read_one_name read_more_names read_bare read_qualified read_named read_paren_type read_pointer read_slice read_array read_map_type read_channel read_send_channel read_receive_channel read_function_type read_struct_type read_interface_type read_last_type read_more_types read_last_dots read_last_named_dots read_last_named read_more_named read_no_params read_named_list read_unnamed_list read_results read_result read_plain read_a_tag read_no_tag read_named_field read_embedded_field read_qualified_field read_pointer_field read_last_field read_more_fields read_no_fields read_method read_embedded_interface read_qualified_interface read_last_member read_more_members read_no_members read_values_in_braces read_selected_literal read_braces read_received read_basic_literal read_header_name read_literal_of_selected read_name read_literal_of_name read_paren read_literal_of_type read_composite_type read_counted_literal read_other_type read_function_literal read_lone_function_type read_a_bound read_no_bound read_spread read_last_arg read_more_args read_no_args read_selector read_assertion read_open_slice read_open_full_slice read_index read_slice_expr read_full_slice read_call read_more_suffixes read_no_suffixes read_primary read_bare_primary read_signed read_starred read_receiver read_receive_first read_receive read_operand read_more_operands read_no_operands read_value_expr read_value_literal read_plain_element read_keyed_element read_last_element read_more_elements read_no_elements read_one_expr read_more_exprs read_assign read_define read_expression read_send read_step read_update read_implicit read_untyped read_typed_const read_last_const read_more_consts read_no_consts read_definition read_alias read_last_type_spec read_more_type_specs read_no_type_specs read_var_values read_typed_var read_typed_values read_last_var read_more_vars read_no_vars read_const_decl read_const_group read_type_decl read_type_group read_var_decl read_var_group read_some_values read_no_values read_a_target read_no_target read_last_arm read_more_arms read_last_block read_header_arm read_bare_arm read_empty_arm read_a_tag_value read_no_tag_value read_plain_guard read_named_guard read_a_case read_a_default read_no_clauses read_one_type read_more_cases read_a_type_case read_a_type_default read_no_type_clauses read_comm_assign read_comm_define read_comm_send read_comm_receive read_a_comm read_a_comm_default read_no_comms read_init_header read_no_header read_a_condition read_no_condition read_a_post read_no_post read_range_assign read_range_define read_no_range_left read_simple_stmt read_declaration_stmt read_bare_label read_labeled read_go read_defer read_return read_break read_continue read_goto read_fallthrough read_block_stmt read_if_stmt read_header_type_switch read_type_switch read_header_switch read_switch read_select read_endless read_range read_loop read_while read_last_stmt read_more_stmts read_empty_stmt read_no_stmts read_plain_import read_dot_import read_named_import read_last_import read_more_imports read_no_imports read_a_body read_no_body read_declaration read_function read_method_decl read_top_chunk read_package_clause read_import_decl read_import_group mark_at word_at name_at text_at front_at trail_at selector_at label_at defined_at
const_group_of = refl

-- var a, b T = c, d;
pub var_of : (row (k word.Var 0 ∷ id 1 ∷ m mark.Comma 2 ∷ id 3 ∷ id 4 ∷ m mark.Assign 5 ∷ id 6 ∷ m mark.Comma 7 ∷ id 8 ∷ m mark.Semicolon 9 ∷ [])).chunk ≡ Some (found (ch.Top (tp.Declaration (de.Var (at 0) (vs.TypedValues (id 1 ∷ id 3 ∷ []) (ty.Name (id 4)) ((ex.Name (id 6)) ∷ (ex.Name (id 8)) ∷ []))))) ([]) 0)
unfolding rows idents_step type_name_step type_step unnamed_step named_params_step params_step signature_step tag_step field_step fields_step member_step members_step literal_step selected_step block_step received_step head_step bound_step args_step suffix_step suffixes_step primary_step unary_step expr_step operand_step operands_step value_step element_step elements_step exprs_step simple_step const_spec_step const_specs_step type_spec_step type_specs_step var_spec_step var_specs_step decl_step values_step target_step arms_step arm_step tag_value_step guard_step clauses_step types_step type_clauses_step comm_step comm_clauses_step header_step condition_step post_step range_left_step stmt_step stmts_step import_spec_step import_specs_step body_step top_step chunk_step read_one_name read_more_names read_bare read_qualified read_named read_paren_type read_pointer read_slice read_array read_map_type read_channel read_send_channel read_receive_channel read_function_type read_struct_type read_interface_type read_last_type read_more_types read_last_dots read_last_named_dots read_last_named read_more_named read_no_params read_named_list read_unnamed_list read_results read_result read_plain read_a_tag read_no_tag read_named_field read_embedded_field read_qualified_field read_pointer_field read_last_field read_more_fields read_no_fields read_method read_embedded_interface read_qualified_interface read_last_member read_more_members read_no_members read_values_in_braces read_selected_literal read_braces read_received read_basic_literal read_header_name read_literal_of_selected read_name read_literal_of_name read_paren read_literal_of_type read_composite_type read_counted_literal read_other_type read_function_literal read_lone_function_type read_a_bound read_no_bound read_spread read_last_arg read_more_args read_no_args read_selector read_assertion read_open_slice read_open_full_slice read_index read_slice_expr read_full_slice read_call read_more_suffixes read_no_suffixes read_primary read_bare_primary read_signed read_starred read_receiver read_receive_first read_receive read_operand read_more_operands read_no_operands read_value_expr read_value_literal read_plain_element read_keyed_element read_last_element read_more_elements read_no_elements read_one_expr read_more_exprs read_assign read_define read_expression read_send read_step read_update read_implicit read_untyped read_typed_const read_last_const read_more_consts read_no_consts read_definition read_alias read_last_type_spec read_more_type_specs read_no_type_specs read_var_values read_typed_var read_typed_values read_last_var read_more_vars read_no_vars read_const_decl read_const_group read_type_decl read_type_group read_var_decl read_var_group read_some_values read_no_values read_a_target read_no_target read_last_arm read_more_arms read_last_block read_header_arm read_bare_arm read_empty_arm read_a_tag_value read_no_tag_value read_plain_guard read_named_guard read_a_case read_a_default read_no_clauses read_one_type read_more_cases read_a_type_case read_a_type_default read_no_type_clauses read_comm_assign read_comm_define read_comm_send read_comm_receive read_a_comm read_a_comm_default read_no_comms read_init_header read_no_header read_a_condition read_no_condition read_a_post read_no_post read_range_assign read_range_define read_no_range_left read_simple_stmt read_declaration_stmt read_bare_label read_labeled read_go read_defer read_return read_break read_continue read_goto read_fallthrough read_block_stmt read_if_stmt read_header_type_switch read_type_switch read_header_switch read_switch read_select read_endless read_range read_loop read_while read_last_stmt read_more_stmts read_empty_stmt read_no_stmts read_plain_import read_dot_import read_named_import read_last_import read_more_imports read_no_imports read_a_body read_no_body read_declaration read_function read_method_decl read_top_chunk read_package_clause read_import_decl read_import_group mark_at word_at name_at text_at front_at trail_at selector_at label_at defined_at
var_of = refl

-- type T = *p.U;
pub alias_of : (row (k word.«Type» 0 ∷ id 1 ∷ m mark.Assign 2 ∷ m mark.Star 3 ∷ id 4 ∷ m mark.Dot 5 ∷ id 6 ∷ m mark.Semicolon 7 ∷ [])).chunk ≡ Some (found (ch.Top (tp.Declaration (de.«Type» (at 0) (tys.Alias (id 1) (ty.Pointer (at 3) (ty.Qualified (id 4) (id 6))))))) ([]) 1)
unfolding rows idents_step type_name_step type_step unnamed_step named_params_step params_step signature_step tag_step field_step fields_step member_step members_step literal_step selected_step block_step received_step head_step bound_step args_step suffix_step suffixes_step primary_step unary_step expr_step operand_step operands_step value_step element_step elements_step exprs_step simple_step const_spec_step const_specs_step type_spec_step type_specs_step var_spec_step var_specs_step decl_step values_step target_step arms_step arm_step tag_value_step guard_step clauses_step types_step type_clauses_step comm_step comm_clauses_step header_step condition_step post_step range_left_step stmt_step stmts_step import_spec_step import_specs_step body_step top_step chunk_step read_one_name read_more_names read_bare read_qualified read_named read_paren_type read_pointer read_slice read_array read_map_type read_channel read_send_channel read_receive_channel read_function_type read_struct_type read_interface_type read_last_type read_more_types read_last_dots read_last_named_dots read_last_named read_more_named read_no_params read_named_list read_unnamed_list read_results read_result read_plain read_a_tag read_no_tag read_named_field read_embedded_field read_qualified_field read_pointer_field read_last_field read_more_fields read_no_fields read_method read_embedded_interface read_qualified_interface read_last_member read_more_members read_no_members read_values_in_braces read_selected_literal read_braces read_received read_basic_literal read_header_name read_literal_of_selected read_name read_literal_of_name read_paren read_literal_of_type read_composite_type read_counted_literal read_other_type read_function_literal read_lone_function_type read_a_bound read_no_bound read_spread read_last_arg read_more_args read_no_args read_selector read_assertion read_open_slice read_open_full_slice read_index read_slice_expr read_full_slice read_call read_more_suffixes read_no_suffixes read_primary read_bare_primary read_signed read_starred read_receiver read_receive_first read_receive read_operand read_more_operands read_no_operands read_value_expr read_value_literal read_plain_element read_keyed_element read_last_element read_more_elements read_no_elements read_one_expr read_more_exprs read_assign read_define read_expression read_send read_step read_update read_implicit read_untyped read_typed_const read_last_const read_more_consts read_no_consts read_definition read_alias read_last_type_spec read_more_type_specs read_no_type_specs read_var_values read_typed_var read_typed_values read_last_var read_more_vars read_no_vars read_const_decl read_const_group read_type_decl read_type_group read_var_decl read_var_group read_some_values read_no_values read_a_target read_no_target read_last_arm read_more_arms read_last_block read_header_arm read_bare_arm read_empty_arm read_a_tag_value read_no_tag_value read_plain_guard read_named_guard read_a_case read_a_default read_no_clauses read_one_type read_more_cases read_a_type_case read_a_type_default read_no_type_clauses read_comm_assign read_comm_define read_comm_send read_comm_receive read_a_comm read_a_comm_default read_no_comms read_init_header read_no_header read_a_condition read_no_condition read_a_post read_no_post read_range_assign read_range_define read_no_range_left read_simple_stmt read_declaration_stmt read_bare_label read_labeled read_go read_defer read_return read_break read_continue read_goto read_fallthrough read_block_stmt read_if_stmt read_header_type_switch read_type_switch read_header_switch read_switch read_select read_endless read_range read_loop read_while read_last_stmt read_more_stmts read_empty_stmt read_no_stmts read_plain_import read_dot_import read_named_import read_last_import read_more_imports read_no_imports read_a_body read_no_body read_declaration read_function read_method_decl read_top_chunk read_package_clause read_import_decl read_import_group mark_at word_at name_at text_at front_at trail_at selector_at label_at defined_at
alias_of = refl

-- func (r *T) m(a, b int, c ...U) V { return };
pub method_of : (row (k word.Func 0 ∷ m mark.LeftParen 1 ∷ id 2 ∷ m mark.Star 3 ∷ id 4 ∷ m mark.RightParen 5 ∷ id 6 ∷ m mark.LeftParen 7 ∷ id 8 ∷ m mark.Comma 9 ∷ id 10 ∷ id 11 ∷ m mark.Comma 12 ∷ id 13 ∷ m mark.Ellipsis 14 ∷ id 15 ∷ m mark.RightParen 16 ∷ id 17 ∷ m mark.LeftBrace 18 ∷ k word.Return 19 ∷ m mark.RightBrace 20 ∷ m mark.Semicolon 21 ∷ [])).chunk ≡ Some (found (ch.Top (tp.Method (at 0) (make_parameters (at 1) (pa.Named (id 2 ∷ []) (ty.Pointer (at 3) (ty.Name (id 4))) ∷ []) (at 5)) (id 6) (sg.Result (make_parameters (at 7) (pa.Named (id 8 ∷ id 10 ∷ []) (ty.Name (id 11)) ∷ pa.NamedVariadic (id 13 ∷ []) (at 14) (ty.Name (id 15)) ∷ []) (at 16)) (ty.Name (id 17))) (Some (make_block (at 18) (st.Return (at 19) [] ∷ []) (at 20))))) ([]) 2)
unfolding rows idents_step type_name_step type_step unnamed_step named_params_step params_step signature_step tag_step field_step fields_step member_step members_step literal_step selected_step block_step received_step head_step bound_step args_step suffix_step suffixes_step primary_step unary_step expr_step operand_step operands_step value_step element_step elements_step exprs_step simple_step const_spec_step const_specs_step type_spec_step type_specs_step var_spec_step var_specs_step decl_step values_step target_step arms_step arm_step tag_value_step guard_step clauses_step types_step type_clauses_step comm_step comm_clauses_step header_step condition_step post_step range_left_step stmt_step stmts_step import_spec_step import_specs_step body_step top_step chunk_step read_one_name read_more_names read_bare read_qualified read_named read_paren_type read_pointer read_slice read_array read_map_type read_channel read_send_channel read_receive_channel read_function_type read_struct_type read_interface_type read_last_type read_more_types read_last_dots read_last_named_dots read_last_named read_more_named read_no_params read_named_list read_unnamed_list read_results read_result read_plain read_a_tag read_no_tag read_named_field read_embedded_field read_qualified_field read_pointer_field read_last_field read_more_fields read_no_fields read_method read_embedded_interface read_qualified_interface read_last_member read_more_members read_no_members read_values_in_braces read_selected_literal read_braces read_received read_basic_literal read_header_name read_literal_of_selected read_name read_literal_of_name read_paren read_literal_of_type read_composite_type read_counted_literal read_other_type read_function_literal read_lone_function_type read_a_bound read_no_bound read_spread read_last_arg read_more_args read_no_args read_selector read_assertion read_open_slice read_open_full_slice read_index read_slice_expr read_full_slice read_call read_more_suffixes read_no_suffixes read_primary read_bare_primary read_signed read_starred read_receiver read_receive_first read_receive read_operand read_more_operands read_no_operands read_value_expr read_value_literal read_plain_element read_keyed_element read_last_element read_more_elements read_no_elements read_one_expr read_more_exprs read_assign read_define read_expression read_send read_step read_update read_implicit read_untyped read_typed_const read_last_const read_more_consts read_no_consts read_definition read_alias read_last_type_spec read_more_type_specs read_no_type_specs read_var_values read_typed_var read_typed_values read_last_var read_more_vars read_no_vars read_const_decl read_const_group read_type_decl read_type_group read_var_decl read_var_group read_some_values read_no_values read_a_target read_no_target read_last_arm read_more_arms read_last_block read_header_arm read_bare_arm read_empty_arm read_a_tag_value read_no_tag_value read_plain_guard read_named_guard read_a_case read_a_default read_no_clauses read_one_type read_more_cases read_a_type_case read_a_type_default read_no_type_clauses read_comm_assign read_comm_define read_comm_send read_comm_receive read_a_comm read_a_comm_default read_no_comms read_init_header read_no_header read_a_condition read_no_condition read_a_post read_no_post read_range_assign read_range_define read_no_range_left read_simple_stmt read_declaration_stmt read_bare_label read_labeled read_go read_defer read_return read_break read_continue read_goto read_fallthrough read_block_stmt read_if_stmt read_header_type_switch read_type_switch read_header_switch read_switch read_select read_endless read_range read_loop read_while read_last_stmt read_more_stmts read_empty_stmt read_no_stmts read_plain_import read_dot_import read_named_import read_last_import read_more_imports read_no_imports read_a_body read_no_body read_declaration read_function read_method_decl read_top_chunk read_package_clause read_import_decl read_import_group mark_at word_at name_at text_at front_at trail_at selector_at label_at defined_at
method_of = refl

-- struct { a, b T; *p.U "t"; V }
pub struct_of : (row (k word.Struct 0 ∷ m mark.LeftBrace 1 ∷ id 2 ∷ m mark.Comma 3 ∷ id 4 ∷ id 5 ∷ m mark.Semicolon 6 ∷ m mark.Star 7 ∷ id 8 ∷ m mark.Dot 9 ∷ id 10 ∷ str 11 ∷ m mark.Semicolon 12 ∷ id 13 ∷ m mark.RightBrace 14 ∷ [])).type ≡ Some (found (ty.Struct (at 0) (fi.Named (id 2 ∷ id 4 ∷ []) (ty.Name (id 5)) None ∷ fi.Embedded (ty.Pointer (at 7) (ty.Qualified (id 8) (id 10))) (Some (str 11)) ∷ fi.Embedded (ty.Name (id 13)) None ∷ []) (at 14)) ([]) 2)
unfolding rows idents_step type_name_step type_step unnamed_step named_params_step params_step signature_step tag_step field_step fields_step member_step members_step literal_step selected_step block_step received_step head_step bound_step args_step suffix_step suffixes_step primary_step unary_step expr_step operand_step operands_step value_step element_step elements_step exprs_step simple_step const_spec_step const_specs_step type_spec_step type_specs_step var_spec_step var_specs_step decl_step values_step target_step arms_step arm_step tag_value_step guard_step clauses_step types_step type_clauses_step comm_step comm_clauses_step header_step condition_step post_step range_left_step stmt_step stmts_step import_spec_step import_specs_step body_step top_step chunk_step read_one_name read_more_names read_bare read_qualified read_named read_paren_type read_pointer read_slice read_array read_map_type read_channel read_send_channel read_receive_channel read_function_type read_struct_type read_interface_type read_last_type read_more_types read_last_dots read_last_named_dots read_last_named read_more_named read_no_params read_named_list read_unnamed_list read_results read_result read_plain read_a_tag read_no_tag read_named_field read_embedded_field read_qualified_field read_pointer_field read_last_field read_more_fields read_no_fields read_method read_embedded_interface read_qualified_interface read_last_member read_more_members read_no_members read_values_in_braces read_selected_literal read_braces read_received read_basic_literal read_header_name read_literal_of_selected read_name read_literal_of_name read_paren read_literal_of_type read_composite_type read_counted_literal read_other_type read_function_literal read_lone_function_type read_a_bound read_no_bound read_spread read_last_arg read_more_args read_no_args read_selector read_assertion read_open_slice read_open_full_slice read_index read_slice_expr read_full_slice read_call read_more_suffixes read_no_suffixes read_primary read_bare_primary read_signed read_starred read_receiver read_receive_first read_receive read_operand read_more_operands read_no_operands read_value_expr read_value_literal read_plain_element read_keyed_element read_last_element read_more_elements read_no_elements read_one_expr read_more_exprs read_assign read_define read_expression read_send read_step read_update read_implicit read_untyped read_typed_const read_last_const read_more_consts read_no_consts read_definition read_alias read_last_type_spec read_more_type_specs read_no_type_specs read_var_values read_typed_var read_typed_values read_last_var read_more_vars read_no_vars read_const_decl read_const_group read_type_decl read_type_group read_var_decl read_var_group read_some_values read_no_values read_a_target read_no_target read_last_arm read_more_arms read_last_block read_header_arm read_bare_arm read_empty_arm read_a_tag_value read_no_tag_value read_plain_guard read_named_guard read_a_case read_a_default read_no_clauses read_one_type read_more_cases read_a_type_case read_a_type_default read_no_type_clauses read_comm_assign read_comm_define read_comm_send read_comm_receive read_a_comm read_a_comm_default read_no_comms read_init_header read_no_header read_a_condition read_no_condition read_a_post read_no_post read_range_assign read_range_define read_no_range_left read_simple_stmt read_declaration_stmt read_bare_label read_labeled read_go read_defer read_return read_break read_continue read_goto read_fallthrough read_block_stmt read_if_stmt read_header_type_switch read_type_switch read_header_switch read_switch read_select read_endless read_range read_loop read_while read_last_stmt read_more_stmts read_empty_stmt read_no_stmts read_plain_import read_dot_import read_named_import read_last_import read_more_imports read_no_imports read_a_body read_no_body read_declaration read_function read_method_decl read_top_chunk read_package_clause read_import_decl read_import_group mark_at word_at name_at text_at front_at trail_at selector_at label_at defined_at
struct_of = refl

-- map[T]U{a: {b}}
pub map_literal : (row (k word.Map 0 ∷ m mark.LeftBracket 1 ∷ id 2 ∷ m mark.RightBracket 3 ∷ id 4 ∷ m mark.LeftBrace 5 ∷ id 6 ∷ m mark.Colon 7 ∷ m mark.LeftBrace 8 ∷ id 9 ∷ m mark.RightBrace 10 ∷ m mark.RightBrace 11 ∷ [])).expr 5 false false ≡ Some (found (ex.Composite (ty.Map (at 0) (ty.Name (id 2)) (ty.Name (id 4))) (make_literal (at 5) (el.Keyed (ev.Expr (ex.Name (id 6))) (ev.Literal (make_literal (at 8) (el.Plain (ev.Expr (ex.Name (id 9))) ∷ []) (at 10))) ∷ []) (at 11))) ([]) 2)
unfolding rows idents_step type_name_step type_step unnamed_step named_params_step params_step signature_step tag_step field_step fields_step member_step members_step literal_step selected_step block_step received_step head_step bound_step args_step suffix_step suffixes_step primary_step unary_step expr_step operand_step operands_step value_step element_step elements_step exprs_step simple_step const_spec_step const_specs_step type_spec_step type_specs_step var_spec_step var_specs_step decl_step values_step target_step arms_step arm_step tag_value_step guard_step clauses_step types_step type_clauses_step comm_step comm_clauses_step header_step condition_step post_step range_left_step stmt_step stmts_step import_spec_step import_specs_step body_step top_step chunk_step read_one_name read_more_names read_bare read_qualified read_named read_paren_type read_pointer read_slice read_array read_map_type read_channel read_send_channel read_receive_channel read_function_type read_struct_type read_interface_type read_last_type read_more_types read_last_dots read_last_named_dots read_last_named read_more_named read_no_params read_named_list read_unnamed_list read_results read_result read_plain read_a_tag read_no_tag read_named_field read_embedded_field read_qualified_field read_pointer_field read_last_field read_more_fields read_no_fields read_method read_embedded_interface read_qualified_interface read_last_member read_more_members read_no_members read_values_in_braces read_selected_literal read_braces read_received read_basic_literal read_header_name read_literal_of_selected read_name read_literal_of_name read_paren read_literal_of_type read_composite_type read_counted_literal read_other_type read_function_literal read_lone_function_type read_a_bound read_no_bound read_spread read_last_arg read_more_args read_no_args read_selector read_assertion read_open_slice read_open_full_slice read_index read_slice_expr read_full_slice read_call read_more_suffixes read_no_suffixes read_primary read_bare_primary read_signed read_starred read_receiver read_receive_first read_receive read_operand read_more_operands read_no_operands read_value_expr read_value_literal read_plain_element read_keyed_element read_last_element read_more_elements read_no_elements read_one_expr read_more_exprs read_assign read_define read_expression read_send read_step read_update read_implicit read_untyped read_typed_const read_last_const read_more_consts read_no_consts read_definition read_alias read_last_type_spec read_more_type_specs read_no_type_specs read_var_values read_typed_var read_typed_values read_last_var read_more_vars read_no_vars read_const_decl read_const_group read_type_decl read_type_group read_var_decl read_var_group read_some_values read_no_values read_a_target read_no_target read_last_arm read_more_arms read_last_block read_header_arm read_bare_arm read_empty_arm read_a_tag_value read_no_tag_value read_plain_guard read_named_guard read_a_case read_a_default read_no_clauses read_one_type read_more_cases read_a_type_case read_a_type_default read_no_type_clauses read_comm_assign read_comm_define read_comm_send read_comm_receive read_a_comm read_a_comm_default read_no_comms read_init_header read_no_header read_a_condition read_no_condition read_a_post read_no_post read_range_assign read_range_define read_no_range_left read_simple_stmt read_declaration_stmt read_bare_label read_labeled read_go read_defer read_return read_break read_continue read_goto read_fallthrough read_block_stmt read_if_stmt read_header_type_switch read_type_switch read_header_switch read_switch read_select read_endless read_range read_loop read_while read_last_stmt read_more_stmts read_empty_stmt read_no_stmts read_plain_import read_dot_import read_named_import read_last_import read_more_imports read_no_imports read_a_body read_no_body read_declaration read_function read_method_decl read_top_chunk read_package_clause read_import_decl read_import_group mark_at word_at name_at text_at front_at trail_at selector_at label_at defined_at
map_literal = refl

-- [...]T{a,}
pub counted_of : (row (m mark.LeftBracket 0 ∷ m mark.Ellipsis 1 ∷ m mark.RightBracket 2 ∷ id 3 ∷ m mark.LeftBrace 4 ∷ id 5 ∷ m mark.Comma 6 ∷ m mark.RightBrace 7 ∷ [])).expr 5 false false ≡ Some (found (ex.Counted (at 0) (ty.Name (id 3)) (make_literal (at 4) (el.Plain (ev.Expr (ex.Name (id 5))) ∷ []) (at 7))) ([]) 1)
unfolding rows idents_step type_name_step type_step unnamed_step named_params_step params_step signature_step tag_step field_step fields_step member_step members_step literal_step selected_step block_step received_step head_step bound_step args_step suffix_step suffixes_step primary_step unary_step expr_step operand_step operands_step value_step element_step elements_step exprs_step simple_step const_spec_step const_specs_step type_spec_step type_specs_step var_spec_step var_specs_step decl_step values_step target_step arms_step arm_step tag_value_step guard_step clauses_step types_step type_clauses_step comm_step comm_clauses_step header_step condition_step post_step range_left_step stmt_step stmts_step import_spec_step import_specs_step body_step top_step chunk_step read_one_name read_more_names read_bare read_qualified read_named read_paren_type read_pointer read_slice read_array read_map_type read_channel read_send_channel read_receive_channel read_function_type read_struct_type read_interface_type read_last_type read_more_types read_last_dots read_last_named_dots read_last_named read_more_named read_no_params read_named_list read_unnamed_list read_results read_result read_plain read_a_tag read_no_tag read_named_field read_embedded_field read_qualified_field read_pointer_field read_last_field read_more_fields read_no_fields read_method read_embedded_interface read_qualified_interface read_last_member read_more_members read_no_members read_values_in_braces read_selected_literal read_braces read_received read_basic_literal read_header_name read_literal_of_selected read_name read_literal_of_name read_paren read_literal_of_type read_composite_type read_counted_literal read_other_type read_function_literal read_lone_function_type read_a_bound read_no_bound read_spread read_last_arg read_more_args read_no_args read_selector read_assertion read_open_slice read_open_full_slice read_index read_slice_expr read_full_slice read_call read_more_suffixes read_no_suffixes read_primary read_bare_primary read_signed read_starred read_receiver read_receive_first read_receive read_operand read_more_operands read_no_operands read_value_expr read_value_literal read_plain_element read_keyed_element read_last_element read_more_elements read_no_elements read_one_expr read_more_exprs read_assign read_define read_expression read_send read_step read_update read_implicit read_untyped read_typed_const read_last_const read_more_consts read_no_consts read_definition read_alias read_last_type_spec read_more_type_specs read_no_type_specs read_var_values read_typed_var read_typed_values read_last_var read_more_vars read_no_vars read_const_decl read_const_group read_type_decl read_type_group read_var_decl read_var_group read_some_values read_no_values read_a_target read_no_target read_last_arm read_more_arms read_last_block read_header_arm read_bare_arm read_empty_arm read_a_tag_value read_no_tag_value read_plain_guard read_named_guard read_a_case read_a_default read_no_clauses read_one_type read_more_cases read_a_type_case read_a_type_default read_no_type_clauses read_comm_assign read_comm_define read_comm_send read_comm_receive read_a_comm read_a_comm_default read_no_comms read_init_header read_no_header read_a_condition read_no_condition read_a_post read_no_post read_range_assign read_range_define read_no_range_left read_simple_stmt read_declaration_stmt read_bare_label read_labeled read_go read_defer read_return read_break read_continue read_goto read_fallthrough read_block_stmt read_if_stmt read_header_type_switch read_type_switch read_header_switch read_switch read_select read_endless read_range read_loop read_while read_last_stmt read_more_stmts read_empty_stmt read_no_stmts read_plain_import read_dot_import read_named_import read_last_import read_more_imports read_no_imports read_a_body read_no_body read_declaration read_function read_method_decl read_top_chunk read_package_clause read_import_decl read_import_group mark_at word_at name_at text_at front_at trail_at selector_at label_at defined_at
counted_of = refl

-- p.T{}
pub qualified_literal : (row (id 0 ∷ m mark.Dot 1 ∷ id 2 ∷ m mark.LeftBrace 3 ∷ m mark.RightBrace 4 ∷ [])).expr 5 false false ≡ Some (found (ex.Composite (ty.Qualified (id 0) (id 2)) (make_literal (at 3) [] (at 4))) ([]) 1)
unfolding rows idents_step type_name_step type_step unnamed_step named_params_step params_step signature_step tag_step field_step fields_step member_step members_step literal_step selected_step block_step received_step head_step bound_step args_step suffix_step suffixes_step primary_step unary_step expr_step operand_step operands_step value_step element_step elements_step exprs_step simple_step const_spec_step const_specs_step type_spec_step type_specs_step var_spec_step var_specs_step decl_step values_step target_step arms_step arm_step tag_value_step guard_step clauses_step types_step type_clauses_step comm_step comm_clauses_step header_step condition_step post_step range_left_step stmt_step stmts_step import_spec_step import_specs_step body_step top_step chunk_step read_one_name read_more_names read_bare read_qualified read_named read_paren_type read_pointer read_slice read_array read_map_type read_channel read_send_channel read_receive_channel read_function_type read_struct_type read_interface_type read_last_type read_more_types read_last_dots read_last_named_dots read_last_named read_more_named read_no_params read_named_list read_unnamed_list read_results read_result read_plain read_a_tag read_no_tag read_named_field read_embedded_field read_qualified_field read_pointer_field read_last_field read_more_fields read_no_fields read_method read_embedded_interface read_qualified_interface read_last_member read_more_members read_no_members read_values_in_braces read_selected_literal read_braces read_received read_basic_literal read_header_name read_literal_of_selected read_name read_literal_of_name read_paren read_literal_of_type read_composite_type read_counted_literal read_other_type read_function_literal read_lone_function_type read_a_bound read_no_bound read_spread read_last_arg read_more_args read_no_args read_selector read_assertion read_open_slice read_open_full_slice read_index read_slice_expr read_full_slice read_call read_more_suffixes read_no_suffixes read_primary read_bare_primary read_signed read_starred read_receiver read_receive_first read_receive read_operand read_more_operands read_no_operands read_value_expr read_value_literal read_plain_element read_keyed_element read_last_element read_more_elements read_no_elements read_one_expr read_more_exprs read_assign read_define read_expression read_send read_step read_update read_implicit read_untyped read_typed_const read_last_const read_more_consts read_no_consts read_definition read_alias read_last_type_spec read_more_type_specs read_no_type_specs read_var_values read_typed_var read_typed_values read_last_var read_more_vars read_no_vars read_const_decl read_const_group read_type_decl read_type_group read_var_decl read_var_group read_some_values read_no_values read_a_target read_no_target read_last_arm read_more_arms read_last_block read_header_arm read_bare_arm read_empty_arm read_a_tag_value read_no_tag_value read_plain_guard read_named_guard read_a_case read_a_default read_no_clauses read_one_type read_more_cases read_a_type_case read_a_type_default read_no_type_clauses read_comm_assign read_comm_define read_comm_send read_comm_receive read_a_comm read_a_comm_default read_no_comms read_init_header read_no_header read_a_condition read_no_condition read_a_post read_no_post read_range_assign read_range_define read_no_range_left read_simple_stmt read_declaration_stmt read_bare_label read_labeled read_go read_defer read_return read_break read_continue read_goto read_fallthrough read_block_stmt read_if_stmt read_header_type_switch read_type_switch read_header_switch read_switch read_select read_endless read_range read_loop read_while read_last_stmt read_more_stmts read_empty_stmt read_no_stmts read_plain_import read_dot_import read_named_import read_last_import read_more_imports read_no_imports read_a_body read_no_body read_declaration read_function read_method_decl read_top_chunk read_package_clause read_import_decl read_import_group mark_at word_at name_at text_at front_at trail_at selector_at label_at defined_at
qualified_literal = refl

-- a[:][b:][:c:d]
pub slices_of : (row (id 0 ∷ m mark.LeftBracket 1 ∷ m mark.Colon 2 ∷ m mark.RightBracket 3 ∷ m mark.LeftBracket 4 ∷ id 5 ∷ m mark.Colon 6 ∷ m mark.RightBracket 7 ∷ m mark.LeftBracket 8 ∷ m mark.Colon 9 ∷ id 10 ∷ m mark.Colon 11 ∷ id 12 ∷ m mark.RightBracket 13 ∷ [])).expr 5 false false ≡ Some (found (ex.Suffixed (ex.Name (id 0)) (sf.Slice None None (at 3) ∷ sf.Slice (Some (ex.Name (id 5))) None (at 7) ∷ sf.FullSlice None (ex.Name (id 10)) (ex.Name (id 12)) (at 13) ∷ [])) ([]) 1)
unfolding rows idents_step type_name_step type_step unnamed_step named_params_step params_step signature_step tag_step field_step fields_step member_step members_step literal_step selected_step block_step received_step head_step bound_step args_step suffix_step suffixes_step primary_step unary_step expr_step operand_step operands_step value_step element_step elements_step exprs_step simple_step const_spec_step const_specs_step type_spec_step type_specs_step var_spec_step var_specs_step decl_step values_step target_step arms_step arm_step tag_value_step guard_step clauses_step types_step type_clauses_step comm_step comm_clauses_step header_step condition_step post_step range_left_step stmt_step stmts_step import_spec_step import_specs_step body_step top_step chunk_step read_one_name read_more_names read_bare read_qualified read_named read_paren_type read_pointer read_slice read_array read_map_type read_channel read_send_channel read_receive_channel read_function_type read_struct_type read_interface_type read_last_type read_more_types read_last_dots read_last_named_dots read_last_named read_more_named read_no_params read_named_list read_unnamed_list read_results read_result read_plain read_a_tag read_no_tag read_named_field read_embedded_field read_qualified_field read_pointer_field read_last_field read_more_fields read_no_fields read_method read_embedded_interface read_qualified_interface read_last_member read_more_members read_no_members read_values_in_braces read_selected_literal read_braces read_received read_basic_literal read_header_name read_literal_of_selected read_name read_literal_of_name read_paren read_literal_of_type read_composite_type read_counted_literal read_other_type read_function_literal read_lone_function_type read_a_bound read_no_bound read_spread read_last_arg read_more_args read_no_args read_selector read_assertion read_open_slice read_open_full_slice read_index read_slice_expr read_full_slice read_call read_more_suffixes read_no_suffixes read_primary read_bare_primary read_signed read_starred read_receiver read_receive_first read_receive read_operand read_more_operands read_no_operands read_value_expr read_value_literal read_plain_element read_keyed_element read_last_element read_more_elements read_no_elements read_one_expr read_more_exprs read_assign read_define read_expression read_send read_step read_update read_implicit read_untyped read_typed_const read_last_const read_more_consts read_no_consts read_definition read_alias read_last_type_spec read_more_type_specs read_no_type_specs read_var_values read_typed_var read_typed_values read_last_var read_more_vars read_no_vars read_const_decl read_const_group read_type_decl read_type_group read_var_decl read_var_group read_some_values read_no_values read_a_target read_no_target read_last_arm read_more_arms read_last_block read_header_arm read_bare_arm read_empty_arm read_a_tag_value read_no_tag_value read_plain_guard read_named_guard read_a_case read_a_default read_no_clauses read_one_type read_more_cases read_a_type_case read_a_type_default read_no_type_clauses read_comm_assign read_comm_define read_comm_send read_comm_receive read_a_comm read_a_comm_default read_no_comms read_init_header read_no_header read_a_condition read_no_condition read_a_post read_no_post read_range_assign read_range_define read_no_range_left read_simple_stmt read_declaration_stmt read_bare_label read_labeled read_go read_defer read_return read_break read_continue read_goto read_fallthrough read_block_stmt read_if_stmt read_header_type_switch read_type_switch read_header_switch read_switch read_select read_endless read_range read_loop read_while read_last_stmt read_more_stmts read_empty_stmt read_no_stmts read_plain_import read_dot_import read_named_import read_last_import read_more_imports read_no_imports read_a_body read_no_body read_declaration read_function read_method_decl read_top_chunk read_package_clause read_import_decl read_import_group mark_at word_at name_at text_at front_at trail_at selector_at label_at defined_at
slices_of = refl

-- f(a, b...)
pub spread_call : (row (id 0 ∷ m mark.LeftParen 1 ∷ id 2 ∷ m mark.Comma 3 ∷ id 4 ∷ m mark.Ellipsis 5 ∷ m mark.RightParen 6 ∷ [])).expr 5 false false ≡ Some (found (ex.Suffixed (ex.Name (id 0)) (sf.Call ((ex.Name (id 2)) ∷ (ex.Name (id 4)) ∷ []) (Some (at 5)) (at 6) ∷ [])) ([]) 1)
unfolding rows idents_step type_name_step type_step unnamed_step named_params_step params_step signature_step tag_step field_step fields_step member_step members_step literal_step selected_step block_step received_step head_step bound_step args_step suffix_step suffixes_step primary_step unary_step expr_step operand_step operands_step value_step element_step elements_step exprs_step simple_step const_spec_step const_specs_step type_spec_step type_specs_step var_spec_step var_specs_step decl_step values_step target_step arms_step arm_step tag_value_step guard_step clauses_step types_step type_clauses_step comm_step comm_clauses_step header_step condition_step post_step range_left_step stmt_step stmts_step import_spec_step import_specs_step body_step top_step chunk_step read_one_name read_more_names read_bare read_qualified read_named read_paren_type read_pointer read_slice read_array read_map_type read_channel read_send_channel read_receive_channel read_function_type read_struct_type read_interface_type read_last_type read_more_types read_last_dots read_last_named_dots read_last_named read_more_named read_no_params read_named_list read_unnamed_list read_results read_result read_plain read_a_tag read_no_tag read_named_field read_embedded_field read_qualified_field read_pointer_field read_last_field read_more_fields read_no_fields read_method read_embedded_interface read_qualified_interface read_last_member read_more_members read_no_members read_values_in_braces read_selected_literal read_braces read_received read_basic_literal read_header_name read_literal_of_selected read_name read_literal_of_name read_paren read_literal_of_type read_composite_type read_counted_literal read_other_type read_function_literal read_lone_function_type read_a_bound read_no_bound read_spread read_last_arg read_more_args read_no_args read_selector read_assertion read_open_slice read_open_full_slice read_index read_slice_expr read_full_slice read_call read_more_suffixes read_no_suffixes read_primary read_bare_primary read_signed read_starred read_receiver read_receive_first read_receive read_operand read_more_operands read_no_operands read_value_expr read_value_literal read_plain_element read_keyed_element read_last_element read_more_elements read_no_elements read_one_expr read_more_exprs read_assign read_define read_expression read_send read_step read_update read_implicit read_untyped read_typed_const read_last_const read_more_consts read_no_consts read_definition read_alias read_last_type_spec read_more_type_specs read_no_type_specs read_var_values read_typed_var read_typed_values read_last_var read_more_vars read_no_vars read_const_decl read_const_group read_type_decl read_type_group read_var_decl read_var_group read_some_values read_no_values read_a_target read_no_target read_last_arm read_more_arms read_last_block read_header_arm read_bare_arm read_empty_arm read_a_tag_value read_no_tag_value read_plain_guard read_named_guard read_a_case read_a_default read_no_clauses read_one_type read_more_cases read_a_type_case read_a_type_default read_no_type_clauses read_comm_assign read_comm_define read_comm_send read_comm_receive read_a_comm read_a_comm_default read_no_comms read_init_header read_no_header read_a_condition read_no_condition read_a_post read_no_post read_range_assign read_range_define read_no_range_left read_simple_stmt read_declaration_stmt read_bare_label read_labeled read_go read_defer read_return read_break read_continue read_goto read_fallthrough read_block_stmt read_if_stmt read_header_type_switch read_type_switch read_header_switch read_switch read_select read_endless read_range read_loop read_while read_last_stmt read_more_stmts read_empty_stmt read_no_stmts read_plain_import read_dot_import read_named_import read_last_import read_more_imports read_no_imports read_a_body read_no_body read_declaration read_function read_method_decl read_top_chunk read_package_clause read_import_decl read_import_group mark_at word_at name_at text_at front_at trail_at selector_at label_at defined_at
spread_call = refl

-- x.(T)
pub assertion_of : (row (id 0 ∷ m mark.Dot 1 ∷ m mark.LeftParen 2 ∷ id 3 ∷ m mark.RightParen 4 ∷ [])).expr 5 false false ≡ Some (found (ex.Suffixed (ex.Name (id 0)) (sf.Assertion (ty.Name (id 3)) (at 4) ∷ [])) ([]) 1)
unfolding rows idents_step type_name_step type_step unnamed_step named_params_step params_step signature_step tag_step field_step fields_step member_step members_step literal_step selected_step block_step received_step head_step bound_step args_step suffix_step suffixes_step primary_step unary_step expr_step operand_step operands_step value_step element_step elements_step exprs_step simple_step const_spec_step const_specs_step type_spec_step type_specs_step var_spec_step var_specs_step decl_step values_step target_step arms_step arm_step tag_value_step guard_step clauses_step types_step type_clauses_step comm_step comm_clauses_step header_step condition_step post_step range_left_step stmt_step stmts_step import_spec_step import_specs_step body_step top_step chunk_step read_one_name read_more_names read_bare read_qualified read_named read_paren_type read_pointer read_slice read_array read_map_type read_channel read_send_channel read_receive_channel read_function_type read_struct_type read_interface_type read_last_type read_more_types read_last_dots read_last_named_dots read_last_named read_more_named read_no_params read_named_list read_unnamed_list read_results read_result read_plain read_a_tag read_no_tag read_named_field read_embedded_field read_qualified_field read_pointer_field read_last_field read_more_fields read_no_fields read_method read_embedded_interface read_qualified_interface read_last_member read_more_members read_no_members read_values_in_braces read_selected_literal read_braces read_received read_basic_literal read_header_name read_literal_of_selected read_name read_literal_of_name read_paren read_literal_of_type read_composite_type read_counted_literal read_other_type read_function_literal read_lone_function_type read_a_bound read_no_bound read_spread read_last_arg read_more_args read_no_args read_selector read_assertion read_open_slice read_open_full_slice read_index read_slice_expr read_full_slice read_call read_more_suffixes read_no_suffixes read_primary read_bare_primary read_signed read_starred read_receiver read_receive_first read_receive read_operand read_more_operands read_no_operands read_value_expr read_value_literal read_plain_element read_keyed_element read_last_element read_more_elements read_no_elements read_one_expr read_more_exprs read_assign read_define read_expression read_send read_step read_update read_implicit read_untyped read_typed_const read_last_const read_more_consts read_no_consts read_definition read_alias read_last_type_spec read_more_type_specs read_no_type_specs read_var_values read_typed_var read_typed_values read_last_var read_more_vars read_no_vars read_const_decl read_const_group read_type_decl read_type_group read_var_decl read_var_group read_some_values read_no_values read_a_target read_no_target read_last_arm read_more_arms read_last_block read_header_arm read_bare_arm read_empty_arm read_a_tag_value read_no_tag_value read_plain_guard read_named_guard read_a_case read_a_default read_no_clauses read_one_type read_more_cases read_a_type_case read_a_type_default read_no_type_clauses read_comm_assign read_comm_define read_comm_send read_comm_receive read_a_comm read_a_comm_default read_no_comms read_init_header read_no_header read_a_condition read_no_condition read_a_post read_no_post read_range_assign read_range_define read_no_range_left read_simple_stmt read_declaration_stmt read_bare_label read_labeled read_go read_defer read_return read_break read_continue read_goto read_fallthrough read_block_stmt read_if_stmt read_header_type_switch read_type_switch read_header_switch read_switch read_select read_endless read_range read_loop read_while read_last_stmt read_more_stmts read_empty_stmt read_no_stmts read_plain_import read_dot_import read_named_import read_last_import read_more_imports read_no_imports read_a_body read_no_body read_declaration read_function read_method_decl read_top_chunk read_package_clause read_import_decl read_import_group mark_at word_at name_at text_at front_at trail_at selector_at label_at defined_at
assertion_of = refl

-- for a, b := range c {}
pub range_of : (row (k word.For 0 ∷ id 1 ∷ m mark.Comma 2 ∷ id 3 ∷ m mark.Define 4 ∷ k word.Range 5 ∷ id 6 ∷ m mark.LeftBrace 7 ∷ m mark.RightBrace 8 ∷ m mark.Semicolon 9 ∷ [])).stmt ≡ Some (found (st.Range (at 0) (rl.Define ((ex.Name (id 1)) ∷ (ex.Name (id 3)) ∷ []) (at 4)) (ex.Name (id 6)) (make_block (at 7) [] (at 8))) (m mark.Semicolon 9 ∷ []) 1)
unfolding rows idents_step type_name_step type_step unnamed_step named_params_step params_step signature_step tag_step field_step fields_step member_step members_step literal_step selected_step block_step received_step head_step bound_step args_step suffix_step suffixes_step primary_step unary_step expr_step operand_step operands_step value_step element_step elements_step exprs_step simple_step const_spec_step const_specs_step type_spec_step type_specs_step var_spec_step var_specs_step decl_step values_step target_step arms_step arm_step tag_value_step guard_step clauses_step types_step type_clauses_step comm_step comm_clauses_step header_step condition_step post_step range_left_step stmt_step stmts_step import_spec_step import_specs_step body_step top_step chunk_step read_one_name read_more_names read_bare read_qualified read_named read_paren_type read_pointer read_slice read_array read_map_type read_channel read_send_channel read_receive_channel read_function_type read_struct_type read_interface_type read_last_type read_more_types read_last_dots read_last_named_dots read_last_named read_more_named read_no_params read_named_list read_unnamed_list read_results read_result read_plain read_a_tag read_no_tag read_named_field read_embedded_field read_qualified_field read_pointer_field read_last_field read_more_fields read_no_fields read_method read_embedded_interface read_qualified_interface read_last_member read_more_members read_no_members read_values_in_braces read_selected_literal read_braces read_received read_basic_literal read_header_name read_literal_of_selected read_name read_literal_of_name read_paren read_literal_of_type read_composite_type read_counted_literal read_other_type read_function_literal read_lone_function_type read_a_bound read_no_bound read_spread read_last_arg read_more_args read_no_args read_selector read_assertion read_open_slice read_open_full_slice read_index read_slice_expr read_full_slice read_call read_more_suffixes read_no_suffixes read_primary read_bare_primary read_signed read_starred read_receiver read_receive_first read_receive read_operand read_more_operands read_no_operands read_value_expr read_value_literal read_plain_element read_keyed_element read_last_element read_more_elements read_no_elements read_one_expr read_more_exprs read_assign read_define read_expression read_send read_step read_update read_implicit read_untyped read_typed_const read_last_const read_more_consts read_no_consts read_definition read_alias read_last_type_spec read_more_type_specs read_no_type_specs read_var_values read_typed_var read_typed_values read_last_var read_more_vars read_no_vars read_const_decl read_const_group read_type_decl read_type_group read_var_decl read_var_group read_some_values read_no_values read_a_target read_no_target read_last_arm read_more_arms read_last_block read_header_arm read_bare_arm read_empty_arm read_a_tag_value read_no_tag_value read_plain_guard read_named_guard read_a_case read_a_default read_no_clauses read_one_type read_more_cases read_a_type_case read_a_type_default read_no_type_clauses read_comm_assign read_comm_define read_comm_send read_comm_receive read_a_comm read_a_comm_default read_no_comms read_init_header read_no_header read_a_condition read_no_condition read_a_post read_no_post read_range_assign read_range_define read_no_range_left read_simple_stmt read_declaration_stmt read_bare_label read_labeled read_go read_defer read_return read_break read_continue read_goto read_fallthrough read_block_stmt read_if_stmt read_header_type_switch read_type_switch read_header_switch read_switch read_select read_endless read_range read_loop read_while read_last_stmt read_more_stmts read_empty_stmt read_no_stmts read_plain_import read_dot_import read_named_import read_last_import read_more_imports read_no_imports read_a_body read_no_body read_declaration read_function read_method_decl read_top_chunk read_package_clause read_import_decl read_import_group mark_at word_at name_at text_at front_at trail_at selector_at label_at defined_at
range_of = refl

-- for i := a; i < b; i++ {}
pub full_loop : (row (k word.For 0 ∷ id 1 ∷ m mark.Define 2 ∷ id 3 ∷ m mark.Semicolon 4 ∷ id 5 ∷ m mark.Less 6 ∷ id 7 ∷ m mark.Semicolon 8 ∷ id 9 ∷ m mark.Increment 10 ∷ m mark.LeftBrace 11 ∷ m mark.RightBrace 12 ∷ m mark.Semicolon 13 ∷ [])).stmt ≡ Some (found (st.Loop (at 0) (si.Define ((ex.Name (id 1)) ∷ []) (at 2) ((ex.Name (id 3)) ∷ [])) (Some (ex.Binary (ex.Name (id 5)) ((m mark.Less 6, (ex.Name (id 7))) ∷ []))) (si.Step (ex.Name (id 9)) (m mark.Increment 10)) (make_block (at 11) [] (at 12))) (m mark.Semicolon 13 ∷ []) 1)
unfolding rows idents_step type_name_step type_step unnamed_step named_params_step params_step signature_step tag_step field_step fields_step member_step members_step literal_step selected_step block_step received_step head_step bound_step args_step suffix_step suffixes_step primary_step unary_step expr_step operand_step operands_step value_step element_step elements_step exprs_step simple_step const_spec_step const_specs_step type_spec_step type_specs_step var_spec_step var_specs_step decl_step values_step target_step arms_step arm_step tag_value_step guard_step clauses_step types_step type_clauses_step comm_step comm_clauses_step header_step condition_step post_step range_left_step stmt_step stmts_step import_spec_step import_specs_step body_step top_step chunk_step read_one_name read_more_names read_bare read_qualified read_named read_paren_type read_pointer read_slice read_array read_map_type read_channel read_send_channel read_receive_channel read_function_type read_struct_type read_interface_type read_last_type read_more_types read_last_dots read_last_named_dots read_last_named read_more_named read_no_params read_named_list read_unnamed_list read_results read_result read_plain read_a_tag read_no_tag read_named_field read_embedded_field read_qualified_field read_pointer_field read_last_field read_more_fields read_no_fields read_method read_embedded_interface read_qualified_interface read_last_member read_more_members read_no_members read_values_in_braces read_selected_literal read_braces read_received read_basic_literal read_header_name read_literal_of_selected read_name read_literal_of_name read_paren read_literal_of_type read_composite_type read_counted_literal read_other_type read_function_literal read_lone_function_type read_a_bound read_no_bound read_spread read_last_arg read_more_args read_no_args read_selector read_assertion read_open_slice read_open_full_slice read_index read_slice_expr read_full_slice read_call read_more_suffixes read_no_suffixes read_primary read_bare_primary read_signed read_starred read_receiver read_receive_first read_receive read_operand read_more_operands read_no_operands read_value_expr read_value_literal read_plain_element read_keyed_element read_last_element read_more_elements read_no_elements read_one_expr read_more_exprs read_assign read_define read_expression read_send read_step read_update read_implicit read_untyped read_typed_const read_last_const read_more_consts read_no_consts read_definition read_alias read_last_type_spec read_more_type_specs read_no_type_specs read_var_values read_typed_var read_typed_values read_last_var read_more_vars read_no_vars read_const_decl read_const_group read_type_decl read_type_group read_var_decl read_var_group read_some_values read_no_values read_a_target read_no_target read_last_arm read_more_arms read_last_block read_header_arm read_bare_arm read_empty_arm read_a_tag_value read_no_tag_value read_plain_guard read_named_guard read_a_case read_a_default read_no_clauses read_one_type read_more_cases read_a_type_case read_a_type_default read_no_type_clauses read_comm_assign read_comm_define read_comm_send read_comm_receive read_a_comm read_a_comm_default read_no_comms read_init_header read_no_header read_a_condition read_no_condition read_a_post read_no_post read_range_assign read_range_define read_no_range_left read_simple_stmt read_declaration_stmt read_bare_label read_labeled read_go read_defer read_return read_break read_continue read_goto read_fallthrough read_block_stmt read_if_stmt read_header_type_switch read_type_switch read_header_switch read_switch read_select read_endless read_range read_loop read_while read_last_stmt read_more_stmts read_empty_stmt read_no_stmts read_plain_import read_dot_import read_named_import read_last_import read_more_imports read_no_imports read_a_body read_no_body read_declaration read_function read_method_decl read_top_chunk read_package_clause read_import_decl read_import_group mark_at word_at name_at text_at front_at trail_at selector_at label_at defined_at
full_loop = refl

-- switch x := a; x { case b, c: d; default: }
pub switch_of : (row (k word.Switch 0 ∷ id 1 ∷ m mark.Define 2 ∷ id 3 ∷ m mark.Semicolon 4 ∷ id 5 ∷ m mark.LeftBrace 6 ∷ k word.Case 7 ∷ id 8 ∷ m mark.Comma 9 ∷ id 10 ∷ m mark.Colon 11 ∷ id 12 ∷ m mark.Semicolon 13 ∷ k word.Default 14 ∷ m mark.Colon 15 ∷ m mark.RightBrace 16 ∷ m mark.Semicolon 17 ∷ [])).stmt ≡ Some (found (st.Switch (at 0) (si.Define ((ex.Name (id 1)) ∷ []) (at 2) ((ex.Name (id 3)) ∷ [])) (Some (ex.Name (id 5))) (cl.Case (at 7) ((ex.Name (id 8)) ∷ (ex.Name (id 10)) ∷ []) (st.Simple (si.Expr (ex.Name (id 12))) ∷ []) ∷ cl.Default (at 14) [] ∷ []) (at 16)) (m mark.Semicolon 17 ∷ []) 1)
unfolding rows idents_step type_name_step type_step unnamed_step named_params_step params_step signature_step tag_step field_step fields_step member_step members_step literal_step selected_step block_step received_step head_step bound_step args_step suffix_step suffixes_step primary_step unary_step expr_step operand_step operands_step value_step element_step elements_step exprs_step simple_step const_spec_step const_specs_step type_spec_step type_specs_step var_spec_step var_specs_step decl_step values_step target_step arms_step arm_step tag_value_step guard_step clauses_step types_step type_clauses_step comm_step comm_clauses_step header_step condition_step post_step range_left_step stmt_step stmts_step import_spec_step import_specs_step body_step top_step chunk_step read_one_name read_more_names read_bare read_qualified read_named read_paren_type read_pointer read_slice read_array read_map_type read_channel read_send_channel read_receive_channel read_function_type read_struct_type read_interface_type read_last_type read_more_types read_last_dots read_last_named_dots read_last_named read_more_named read_no_params read_named_list read_unnamed_list read_results read_result read_plain read_a_tag read_no_tag read_named_field read_embedded_field read_qualified_field read_pointer_field read_last_field read_more_fields read_no_fields read_method read_embedded_interface read_qualified_interface read_last_member read_more_members read_no_members read_values_in_braces read_selected_literal read_braces read_received read_basic_literal read_header_name read_literal_of_selected read_name read_literal_of_name read_paren read_literal_of_type read_composite_type read_counted_literal read_other_type read_function_literal read_lone_function_type read_a_bound read_no_bound read_spread read_last_arg read_more_args read_no_args read_selector read_assertion read_open_slice read_open_full_slice read_index read_slice_expr read_full_slice read_call read_more_suffixes read_no_suffixes read_primary read_bare_primary read_signed read_starred read_receiver read_receive_first read_receive read_operand read_more_operands read_no_operands read_value_expr read_value_literal read_plain_element read_keyed_element read_last_element read_more_elements read_no_elements read_one_expr read_more_exprs read_assign read_define read_expression read_send read_step read_update read_implicit read_untyped read_typed_const read_last_const read_more_consts read_no_consts read_definition read_alias read_last_type_spec read_more_type_specs read_no_type_specs read_var_values read_typed_var read_typed_values read_last_var read_more_vars read_no_vars read_const_decl read_const_group read_type_decl read_type_group read_var_decl read_var_group read_some_values read_no_values read_a_target read_no_target read_last_arm read_more_arms read_last_block read_header_arm read_bare_arm read_empty_arm read_a_tag_value read_no_tag_value read_plain_guard read_named_guard read_a_case read_a_default read_no_clauses read_one_type read_more_cases read_a_type_case read_a_type_default read_no_type_clauses read_comm_assign read_comm_define read_comm_send read_comm_receive read_a_comm read_a_comm_default read_no_comms read_init_header read_no_header read_a_condition read_no_condition read_a_post read_no_post read_range_assign read_range_define read_no_range_left read_simple_stmt read_declaration_stmt read_bare_label read_labeled read_go read_defer read_return read_break read_continue read_goto read_fallthrough read_block_stmt read_if_stmt read_header_type_switch read_type_switch read_header_switch read_switch read_select read_endless read_range read_loop read_while read_last_stmt read_more_stmts read_empty_stmt read_no_stmts read_plain_import read_dot_import read_named_import read_last_import read_more_imports read_no_imports read_a_body read_no_body read_declaration read_function read_method_decl read_top_chunk read_package_clause read_import_decl read_import_group mark_at word_at name_at text_at front_at trail_at selector_at label_at defined_at
switch_of = refl

-- switch a.(type) { case T, *U: }
pub type_cases : (row (k word.Switch 0 ∷ id 1 ∷ m mark.Dot 2 ∷ m mark.LeftParen 3 ∷ k word.«Type» 4 ∷ m mark.RightParen 5 ∷ m mark.LeftBrace 6 ∷ k word.Case 7 ∷ id 8 ∷ m mark.Comma 9 ∷ m mark.Star 10 ∷ id 11 ∷ m mark.Colon 12 ∷ m mark.RightBrace 13 ∷ m mark.Semicolon 14 ∷ [])).stmt ≡ Some (found (st.TypeSwitch (at 0) si.Empty None (ex.Name (id 1)) (at 4) (tc.Case (at 7) ((ty.Name (id 8)) ∷ ty.Pointer (at 10) (ty.Name (id 11)) ∷ []) [] ∷ []) (at 13)) (m mark.Semicolon 14 ∷ []) 2)
unfolding rows idents_step type_name_step type_step unnamed_step named_params_step params_step signature_step tag_step field_step fields_step member_step members_step literal_step selected_step block_step received_step head_step bound_step args_step suffix_step suffixes_step primary_step unary_step expr_step operand_step operands_step value_step element_step elements_step exprs_step simple_step const_spec_step const_specs_step type_spec_step type_specs_step var_spec_step var_specs_step decl_step values_step target_step arms_step arm_step tag_value_step guard_step clauses_step types_step type_clauses_step comm_step comm_clauses_step header_step condition_step post_step range_left_step stmt_step stmts_step import_spec_step import_specs_step body_step top_step chunk_step read_one_name read_more_names read_bare read_qualified read_named read_paren_type read_pointer read_slice read_array read_map_type read_channel read_send_channel read_receive_channel read_function_type read_struct_type read_interface_type read_last_type read_more_types read_last_dots read_last_named_dots read_last_named read_more_named read_no_params read_named_list read_unnamed_list read_results read_result read_plain read_a_tag read_no_tag read_named_field read_embedded_field read_qualified_field read_pointer_field read_last_field read_more_fields read_no_fields read_method read_embedded_interface read_qualified_interface read_last_member read_more_members read_no_members read_values_in_braces read_selected_literal read_braces read_received read_basic_literal read_header_name read_literal_of_selected read_name read_literal_of_name read_paren read_literal_of_type read_composite_type read_counted_literal read_other_type read_function_literal read_lone_function_type read_a_bound read_no_bound read_spread read_last_arg read_more_args read_no_args read_selector read_assertion read_open_slice read_open_full_slice read_index read_slice_expr read_full_slice read_call read_more_suffixes read_no_suffixes read_primary read_bare_primary read_signed read_starred read_receiver read_receive_first read_receive read_operand read_more_operands read_no_operands read_value_expr read_value_literal read_plain_element read_keyed_element read_last_element read_more_elements read_no_elements read_one_expr read_more_exprs read_assign read_define read_expression read_send read_step read_update read_implicit read_untyped read_typed_const read_last_const read_more_consts read_no_consts read_definition read_alias read_last_type_spec read_more_type_specs read_no_type_specs read_var_values read_typed_var read_typed_values read_last_var read_more_vars read_no_vars read_const_decl read_const_group read_type_decl read_type_group read_var_decl read_var_group read_some_values read_no_values read_a_target read_no_target read_last_arm read_more_arms read_last_block read_header_arm read_bare_arm read_empty_arm read_a_tag_value read_no_tag_value read_plain_guard read_named_guard read_a_case read_a_default read_no_clauses read_one_type read_more_cases read_a_type_case read_a_type_default read_no_type_clauses read_comm_assign read_comm_define read_comm_send read_comm_receive read_a_comm read_a_comm_default read_no_comms read_init_header read_no_header read_a_condition read_no_condition read_a_post read_no_post read_range_assign read_range_define read_no_range_left read_simple_stmt read_declaration_stmt read_bare_label read_labeled read_go read_defer read_return read_break read_continue read_goto read_fallthrough read_block_stmt read_if_stmt read_header_type_switch read_type_switch read_header_switch read_switch read_select read_endless read_range read_loop read_while read_last_stmt read_more_stmts read_empty_stmt read_no_stmts read_plain_import read_dot_import read_named_import read_last_import read_more_imports read_no_imports read_a_body read_no_body read_declaration read_function read_method_decl read_top_chunk read_package_clause read_import_decl read_import_group mark_at word_at name_at text_at front_at trail_at selector_at label_at defined_at
type_cases = refl

-- select { case c <- v: }
pub sent_case : (row (k word.Select 0 ∷ m mark.LeftBrace 1 ∷ k word.Case 2 ∷ id 3 ∷ m mark.Arrow 4 ∷ id 5 ∷ m mark.Colon 6 ∷ m mark.RightBrace 7 ∷ m mark.Semicolon 8 ∷ [])).stmt ≡ Some (found (st.Select (at 0) (co.Case (at 2) (cm.Send (ex.Name (id 3)) (m mark.Arrow 4) (ex.Name (id 5))) [] ∷ []) (at 7)) (m mark.Semicolon 8 ∷ []) 1)
unfolding rows idents_step type_name_step type_step unnamed_step named_params_step params_step signature_step tag_step field_step fields_step member_step members_step literal_step selected_step block_step received_step head_step bound_step args_step suffix_step suffixes_step primary_step unary_step expr_step operand_step operands_step value_step element_step elements_step exprs_step simple_step const_spec_step const_specs_step type_spec_step type_specs_step var_spec_step var_specs_step decl_step values_step target_step arms_step arm_step tag_value_step guard_step clauses_step types_step type_clauses_step comm_step comm_clauses_step header_step condition_step post_step range_left_step stmt_step stmts_step import_spec_step import_specs_step body_step top_step chunk_step read_one_name read_more_names read_bare read_qualified read_named read_paren_type read_pointer read_slice read_array read_map_type read_channel read_send_channel read_receive_channel read_function_type read_struct_type read_interface_type read_last_type read_more_types read_last_dots read_last_named_dots read_last_named read_more_named read_no_params read_named_list read_unnamed_list read_results read_result read_plain read_a_tag read_no_tag read_named_field read_embedded_field read_qualified_field read_pointer_field read_last_field read_more_fields read_no_fields read_method read_embedded_interface read_qualified_interface read_last_member read_more_members read_no_members read_values_in_braces read_selected_literal read_braces read_received read_basic_literal read_header_name read_literal_of_selected read_name read_literal_of_name read_paren read_literal_of_type read_composite_type read_counted_literal read_other_type read_function_literal read_lone_function_type read_a_bound read_no_bound read_spread read_last_arg read_more_args read_no_args read_selector read_assertion read_open_slice read_open_full_slice read_index read_slice_expr read_full_slice read_call read_more_suffixes read_no_suffixes read_primary read_bare_primary read_signed read_starred read_receiver read_receive_first read_receive read_operand read_more_operands read_no_operands read_value_expr read_value_literal read_plain_element read_keyed_element read_last_element read_more_elements read_no_elements read_one_expr read_more_exprs read_assign read_define read_expression read_send read_step read_update read_implicit read_untyped read_typed_const read_last_const read_more_consts read_no_consts read_definition read_alias read_last_type_spec read_more_type_specs read_no_type_specs read_var_values read_typed_var read_typed_values read_last_var read_more_vars read_no_vars read_const_decl read_const_group read_type_decl read_type_group read_var_decl read_var_group read_some_values read_no_values read_a_target read_no_target read_last_arm read_more_arms read_last_block read_header_arm read_bare_arm read_empty_arm read_a_tag_value read_no_tag_value read_plain_guard read_named_guard read_a_case read_a_default read_no_clauses read_one_type read_more_cases read_a_type_case read_a_type_default read_no_type_clauses read_comm_assign read_comm_define read_comm_send read_comm_receive read_a_comm read_a_comm_default read_no_comms read_init_header read_no_header read_a_condition read_no_condition read_a_post read_no_post read_range_assign read_range_define read_no_range_left read_simple_stmt read_declaration_stmt read_bare_label read_labeled read_go read_defer read_return read_break read_continue read_goto read_fallthrough read_block_stmt read_if_stmt read_header_type_switch read_type_switch read_header_switch read_switch read_select read_endless read_range read_loop read_while read_last_stmt read_more_stmts read_empty_stmt read_no_stmts read_plain_import read_dot_import read_named_import read_last_import read_more_imports read_no_imports read_a_body read_no_body read_declaration read_function read_method_decl read_top_chunk read_package_clause read_import_decl read_import_group mark_at word_at name_at text_at front_at trail_at selector_at label_at defined_at
sent_case = refl

-- go f()
pub go_of : (row (k word.Go 0 ∷ id 1 ∷ m mark.LeftParen 2 ∷ m mark.RightParen 3 ∷ m mark.Semicolon 4 ∷ [])).stmt ≡ Some (found (st.Go (at 0) (ex.Suffixed (ex.Name (id 1)) (sf.Call [] None (at 3) ∷ []))) (m mark.Semicolon 4 ∷ []) 1)
unfolding rows idents_step type_name_step type_step unnamed_step named_params_step params_step signature_step tag_step field_step fields_step member_step members_step literal_step selected_step block_step received_step head_step bound_step args_step suffix_step suffixes_step primary_step unary_step expr_step operand_step operands_step value_step element_step elements_step exprs_step simple_step const_spec_step const_specs_step type_spec_step type_specs_step var_spec_step var_specs_step decl_step values_step target_step arms_step arm_step tag_value_step guard_step clauses_step types_step type_clauses_step comm_step comm_clauses_step header_step condition_step post_step range_left_step stmt_step stmts_step import_spec_step import_specs_step body_step top_step chunk_step read_one_name read_more_names read_bare read_qualified read_named read_paren_type read_pointer read_slice read_array read_map_type read_channel read_send_channel read_receive_channel read_function_type read_struct_type read_interface_type read_last_type read_more_types read_last_dots read_last_named_dots read_last_named read_more_named read_no_params read_named_list read_unnamed_list read_results read_result read_plain read_a_tag read_no_tag read_named_field read_embedded_field read_qualified_field read_pointer_field read_last_field read_more_fields read_no_fields read_method read_embedded_interface read_qualified_interface read_last_member read_more_members read_no_members read_values_in_braces read_selected_literal read_braces read_received read_basic_literal read_header_name read_literal_of_selected read_name read_literal_of_name read_paren read_literal_of_type read_composite_type read_counted_literal read_other_type read_function_literal read_lone_function_type read_a_bound read_no_bound read_spread read_last_arg read_more_args read_no_args read_selector read_assertion read_open_slice read_open_full_slice read_index read_slice_expr read_full_slice read_call read_more_suffixes read_no_suffixes read_primary read_bare_primary read_signed read_starred read_receiver read_receive_first read_receive read_operand read_more_operands read_no_operands read_value_expr read_value_literal read_plain_element read_keyed_element read_last_element read_more_elements read_no_elements read_one_expr read_more_exprs read_assign read_define read_expression read_send read_step read_update read_implicit read_untyped read_typed_const read_last_const read_more_consts read_no_consts read_definition read_alias read_last_type_spec read_more_type_specs read_no_type_specs read_var_values read_typed_var read_typed_values read_last_var read_more_vars read_no_vars read_const_decl read_const_group read_type_decl read_type_group read_var_decl read_var_group read_some_values read_no_values read_a_target read_no_target read_last_arm read_more_arms read_last_block read_header_arm read_bare_arm read_empty_arm read_a_tag_value read_no_tag_value read_plain_guard read_named_guard read_a_case read_a_default read_no_clauses read_one_type read_more_cases read_a_type_case read_a_type_default read_no_type_clauses read_comm_assign read_comm_define read_comm_send read_comm_receive read_a_comm read_a_comm_default read_no_comms read_init_header read_no_header read_a_condition read_no_condition read_a_post read_no_post read_range_assign read_range_define read_no_range_left read_simple_stmt read_declaration_stmt read_bare_label read_labeled read_go read_defer read_return read_break read_continue read_goto read_fallthrough read_block_stmt read_if_stmt read_header_type_switch read_type_switch read_header_switch read_switch read_select read_endless read_range read_loop read_while read_last_stmt read_more_stmts read_empty_stmt read_no_stmts read_plain_import read_dot_import read_named_import read_last_import read_more_imports read_no_imports read_a_body read_no_body read_declaration read_function read_method_decl read_top_chunk read_package_clause read_import_decl read_import_group mark_at word_at name_at text_at front_at trail_at selector_at label_at defined_at
go_of = refl

-- break L
pub break_of : (row (k word.Break 0 ∷ id 1 ∷ m mark.Semicolon 2 ∷ [])).stmt ≡ Some (found (st.Break (at 0) (Some (id 1))) (m mark.Semicolon 2 ∷ []) 0)
unfolding rows idents_step type_name_step type_step unnamed_step named_params_step params_step signature_step tag_step field_step fields_step member_step members_step literal_step selected_step block_step received_step head_step bound_step args_step suffix_step suffixes_step primary_step unary_step expr_step operand_step operands_step value_step element_step elements_step exprs_step simple_step const_spec_step const_specs_step type_spec_step type_specs_step var_spec_step var_specs_step decl_step values_step target_step arms_step arm_step tag_value_step guard_step clauses_step types_step type_clauses_step comm_step comm_clauses_step header_step condition_step post_step range_left_step stmt_step stmts_step import_spec_step import_specs_step body_step top_step chunk_step read_one_name read_more_names read_bare read_qualified read_named read_paren_type read_pointer read_slice read_array read_map_type read_channel read_send_channel read_receive_channel read_function_type read_struct_type read_interface_type read_last_type read_more_types read_last_dots read_last_named_dots read_last_named read_more_named read_no_params read_named_list read_unnamed_list read_results read_result read_plain read_a_tag read_no_tag read_named_field read_embedded_field read_qualified_field read_pointer_field read_last_field read_more_fields read_no_fields read_method read_embedded_interface read_qualified_interface read_last_member read_more_members read_no_members read_values_in_braces read_selected_literal read_braces read_received read_basic_literal read_header_name read_literal_of_selected read_name read_literal_of_name read_paren read_literal_of_type read_composite_type read_counted_literal read_other_type read_function_literal read_lone_function_type read_a_bound read_no_bound read_spread read_last_arg read_more_args read_no_args read_selector read_assertion read_open_slice read_open_full_slice read_index read_slice_expr read_full_slice read_call read_more_suffixes read_no_suffixes read_primary read_bare_primary read_signed read_starred read_receiver read_receive_first read_receive read_operand read_more_operands read_no_operands read_value_expr read_value_literal read_plain_element read_keyed_element read_last_element read_more_elements read_no_elements read_one_expr read_more_exprs read_assign read_define read_expression read_send read_step read_update read_implicit read_untyped read_typed_const read_last_const read_more_consts read_no_consts read_definition read_alias read_last_type_spec read_more_type_specs read_no_type_specs read_var_values read_typed_var read_typed_values read_last_var read_more_vars read_no_vars read_const_decl read_const_group read_type_decl read_type_group read_var_decl read_var_group read_some_values read_no_values read_a_target read_no_target read_last_arm read_more_arms read_last_block read_header_arm read_bare_arm read_empty_arm read_a_tag_value read_no_tag_value read_plain_guard read_named_guard read_a_case read_a_default read_no_clauses read_one_type read_more_cases read_a_type_case read_a_type_default read_no_type_clauses read_comm_assign read_comm_define read_comm_send read_comm_receive read_a_comm read_a_comm_default read_no_comms read_init_header read_no_header read_a_condition read_no_condition read_a_post read_no_post read_range_assign read_range_define read_no_range_left read_simple_stmt read_declaration_stmt read_bare_label read_labeled read_go read_defer read_return read_break read_continue read_goto read_fallthrough read_block_stmt read_if_stmt read_header_type_switch read_type_switch read_header_switch read_switch read_select read_endless read_range read_loop read_while read_last_stmt read_more_stmts read_empty_stmt read_no_stmts read_plain_import read_dot_import read_named_import read_last_import read_more_imports read_no_imports read_a_body read_no_body read_declaration read_function read_method_decl read_top_chunk read_package_clause read_import_decl read_import_group mark_at word_at name_at text_at front_at trail_at selector_at label_at defined_at
break_of = refl

-- a += b
pub update_of : (row (id 0 ∷ m mark.PlusAssign 1 ∷ id 2 ∷ m mark.Semicolon 3 ∷ [])).stmt ≡ Some (found (st.Simple (si.Update (ex.Name (id 0)) (m mark.PlusAssign 1) (ex.Name (id 2)))) (m mark.Semicolon 3 ∷ []) 0)
unfolding rows idents_step type_name_step type_step unnamed_step named_params_step params_step signature_step tag_step field_step fields_step member_step members_step literal_step selected_step block_step received_step head_step bound_step args_step suffix_step suffixes_step primary_step unary_step expr_step operand_step operands_step value_step element_step elements_step exprs_step simple_step const_spec_step const_specs_step type_spec_step type_specs_step var_spec_step var_specs_step decl_step values_step target_step arms_step arm_step tag_value_step guard_step clauses_step types_step type_clauses_step comm_step comm_clauses_step header_step condition_step post_step range_left_step stmt_step stmts_step import_spec_step import_specs_step body_step top_step chunk_step read_one_name read_more_names read_bare read_qualified read_named read_paren_type read_pointer read_slice read_array read_map_type read_channel read_send_channel read_receive_channel read_function_type read_struct_type read_interface_type read_last_type read_more_types read_last_dots read_last_named_dots read_last_named read_more_named read_no_params read_named_list read_unnamed_list read_results read_result read_plain read_a_tag read_no_tag read_named_field read_embedded_field read_qualified_field read_pointer_field read_last_field read_more_fields read_no_fields read_method read_embedded_interface read_qualified_interface read_last_member read_more_members read_no_members read_values_in_braces read_selected_literal read_braces read_received read_basic_literal read_header_name read_literal_of_selected read_name read_literal_of_name read_paren read_literal_of_type read_composite_type read_counted_literal read_other_type read_function_literal read_lone_function_type read_a_bound read_no_bound read_spread read_last_arg read_more_args read_no_args read_selector read_assertion read_open_slice read_open_full_slice read_index read_slice_expr read_full_slice read_call read_more_suffixes read_no_suffixes read_primary read_bare_primary read_signed read_starred read_receiver read_receive_first read_receive read_operand read_more_operands read_no_operands read_value_expr read_value_literal read_plain_element read_keyed_element read_last_element read_more_elements read_no_elements read_one_expr read_more_exprs read_assign read_define read_expression read_send read_step read_update read_implicit read_untyped read_typed_const read_last_const read_more_consts read_no_consts read_definition read_alias read_last_type_spec read_more_type_specs read_no_type_specs read_var_values read_typed_var read_typed_values read_last_var read_more_vars read_no_vars read_const_decl read_const_group read_type_decl read_type_group read_var_decl read_var_group read_some_values read_no_values read_a_target read_no_target read_last_arm read_more_arms read_last_block read_header_arm read_bare_arm read_empty_arm read_a_tag_value read_no_tag_value read_plain_guard read_named_guard read_a_case read_a_default read_no_clauses read_one_type read_more_cases read_a_type_case read_a_type_default read_no_type_clauses read_comm_assign read_comm_define read_comm_send read_comm_receive read_a_comm read_a_comm_default read_no_comms read_init_header read_no_header read_a_condition read_no_condition read_a_post read_no_post read_range_assign read_range_define read_no_range_left read_simple_stmt read_declaration_stmt read_bare_label read_labeled read_go read_defer read_return read_break read_continue read_goto read_fallthrough read_block_stmt read_if_stmt read_header_type_switch read_type_switch read_header_switch read_switch read_select read_endless read_range read_loop read_while read_last_stmt read_more_stmts read_empty_stmt read_no_stmts read_plain_import read_dot_import read_named_import read_last_import read_more_imports read_no_imports read_a_body read_no_body read_declaration read_function read_method_decl read_top_chunk read_package_clause read_import_decl read_import_group mark_at word_at name_at text_at front_at trail_at selector_at label_at defined_at
update_of = refl

-- if x := a; x {}
pub header_arm_of : (row (k word.If 0 ∷ id 1 ∷ m mark.Define 2 ∷ id 3 ∷ m mark.Semicolon 4 ∷ id 5 ∷ m mark.LeftBrace 6 ∷ m mark.RightBrace 7 ∷ m mark.Semicolon 8 ∷ [])).stmt ≡ Some (found (st.If (at 0) (make_arm (si.Define ((ex.Name (id 1)) ∷ []) (at 2) ((ex.Name (id 3)) ∷ [])) (ex.Name (id 5)) (make_block (at 6) [] (at 7)) ∷ []) None) (m mark.Semicolon 8 ∷ []) 1)
unfolding rows idents_step type_name_step type_step unnamed_step named_params_step params_step signature_step tag_step field_step fields_step member_step members_step literal_step selected_step block_step received_step head_step bound_step args_step suffix_step suffixes_step primary_step unary_step expr_step operand_step operands_step value_step element_step elements_step exprs_step simple_step const_spec_step const_specs_step type_spec_step type_specs_step var_spec_step var_specs_step decl_step values_step target_step arms_step arm_step tag_value_step guard_step clauses_step types_step type_clauses_step comm_step comm_clauses_step header_step condition_step post_step range_left_step stmt_step stmts_step import_spec_step import_specs_step body_step top_step chunk_step read_one_name read_more_names read_bare read_qualified read_named read_paren_type read_pointer read_slice read_array read_map_type read_channel read_send_channel read_receive_channel read_function_type read_struct_type read_interface_type read_last_type read_more_types read_last_dots read_last_named_dots read_last_named read_more_named read_no_params read_named_list read_unnamed_list read_results read_result read_plain read_a_tag read_no_tag read_named_field read_embedded_field read_qualified_field read_pointer_field read_last_field read_more_fields read_no_fields read_method read_embedded_interface read_qualified_interface read_last_member read_more_members read_no_members read_values_in_braces read_selected_literal read_braces read_received read_basic_literal read_header_name read_literal_of_selected read_name read_literal_of_name read_paren read_literal_of_type read_composite_type read_counted_literal read_other_type read_function_literal read_lone_function_type read_a_bound read_no_bound read_spread read_last_arg read_more_args read_no_args read_selector read_assertion read_open_slice read_open_full_slice read_index read_slice_expr read_full_slice read_call read_more_suffixes read_no_suffixes read_primary read_bare_primary read_signed read_starred read_receiver read_receive_first read_receive read_operand read_more_operands read_no_operands read_value_expr read_value_literal read_plain_element read_keyed_element read_last_element read_more_elements read_no_elements read_one_expr read_more_exprs read_assign read_define read_expression read_send read_step read_update read_implicit read_untyped read_typed_const read_last_const read_more_consts read_no_consts read_definition read_alias read_last_type_spec read_more_type_specs read_no_type_specs read_var_values read_typed_var read_typed_values read_last_var read_more_vars read_no_vars read_const_decl read_const_group read_type_decl read_type_group read_var_decl read_var_group read_some_values read_no_values read_a_target read_no_target read_last_arm read_more_arms read_last_block read_header_arm read_bare_arm read_empty_arm read_a_tag_value read_no_tag_value read_plain_guard read_named_guard read_a_case read_a_default read_no_clauses read_one_type read_more_cases read_a_type_case read_a_type_default read_no_type_clauses read_comm_assign read_comm_define read_comm_send read_comm_receive read_a_comm read_a_comm_default read_no_comms read_init_header read_no_header read_a_condition read_no_condition read_a_post read_no_post read_range_assign read_range_define read_no_range_left read_simple_stmt read_declaration_stmt read_bare_label read_labeled read_go read_defer read_return read_break read_continue read_goto read_fallthrough read_block_stmt read_if_stmt read_header_type_switch read_type_switch read_header_switch read_switch read_select read_endless read_range read_loop read_while read_last_stmt read_more_stmts read_empty_stmt read_no_stmts read_plain_import read_dot_import read_named_import read_last_import read_more_imports read_no_imports read_a_body read_no_body read_declaration read_function read_method_decl read_top_chunk read_package_clause read_import_decl read_import_group mark_at word_at name_at text_at front_at trail_at selector_at label_at defined_at
header_arm_of = refl

-- f(*<-chan T): the star on a type
pub starred_channel_argument : (row (id 0 ∷ m mark.LeftParen 1 ∷ m mark.Star 2 ∷ m mark.Arrow 3 ∷ k word.Chan 4 ∷ id 5 ∷ m mark.RightParen 6 ∷ [])).expr 5 false false ≡ Some (found (ex.Suffixed (ex.Name (id 0)) (sf.Call (ex.Prefixed (m mark.Star 2) (ex.Type (ty.ReceiveChannel (at 3) (ty.Name (id 5)))) ∷ []) None (at 6) ∷ [])) ([]) 3)
unfolding rows idents_step type_name_step type_step unnamed_step named_params_step params_step signature_step tag_step field_step fields_step member_step members_step literal_step selected_step block_step received_step head_step bound_step args_step suffix_step suffixes_step primary_step unary_step expr_step operand_step operands_step value_step element_step elements_step exprs_step simple_step const_spec_step const_specs_step type_spec_step type_specs_step var_spec_step var_specs_step decl_step values_step target_step arms_step arm_step tag_value_step guard_step clauses_step types_step type_clauses_step comm_step comm_clauses_step header_step condition_step post_step range_left_step stmt_step stmts_step import_spec_step import_specs_step body_step top_step chunk_step read_one_name read_more_names read_bare read_qualified read_named read_paren_type read_pointer read_slice read_array read_map_type read_channel read_send_channel read_receive_channel read_function_type read_struct_type read_interface_type read_last_type read_more_types read_last_dots read_last_named_dots read_last_named read_more_named read_no_params read_named_list read_unnamed_list read_results read_result read_plain read_a_tag read_no_tag read_named_field read_embedded_field read_qualified_field read_pointer_field read_last_field read_more_fields read_no_fields read_method read_embedded_interface read_qualified_interface read_last_member read_more_members read_no_members read_values_in_braces read_selected_literal read_braces read_received read_basic_literal read_header_name read_literal_of_selected read_name read_literal_of_name read_paren read_literal_of_type read_composite_type read_counted_literal read_other_type read_function_literal read_lone_function_type read_a_bound read_no_bound read_spread read_last_arg read_more_args read_no_args read_selector read_assertion read_open_slice read_open_full_slice read_index read_slice_expr read_full_slice read_call read_more_suffixes read_no_suffixes read_primary read_bare_primary read_signed read_starred read_receiver read_receive_first read_receive read_operand read_more_operands read_no_operands read_value_expr read_value_literal read_plain_element read_keyed_element read_last_element read_more_elements read_no_elements read_one_expr read_more_exprs read_assign read_define read_expression read_send read_step read_update read_implicit read_untyped read_typed_const read_last_const read_more_consts read_no_consts read_definition read_alias read_last_type_spec read_more_type_specs read_no_type_specs read_var_values read_typed_var read_typed_values read_last_var read_more_vars read_no_vars read_const_decl read_const_group read_type_decl read_type_group read_var_decl read_var_group read_some_values read_no_values read_a_target read_no_target read_last_arm read_more_arms read_last_block read_header_arm read_bare_arm read_empty_arm read_a_tag_value read_no_tag_value read_plain_guard read_named_guard read_a_case read_a_default read_no_clauses read_one_type read_more_cases read_a_type_case read_a_type_default read_no_type_clauses read_comm_assign read_comm_define read_comm_send read_comm_receive read_a_comm read_a_comm_default read_no_comms read_init_header read_no_header read_a_condition read_no_condition read_a_post read_no_post read_range_assign read_range_define read_no_range_left read_simple_stmt read_declaration_stmt read_bare_label read_labeled read_go read_defer read_return read_break read_continue read_goto read_fallthrough read_block_stmt read_if_stmt read_header_type_switch read_type_switch read_header_switch read_switch read_select read_endless read_range read_loop read_while read_last_stmt read_more_stmts read_empty_stmt read_no_stmts read_plain_import read_dot_import read_named_import read_last_import read_more_imports read_no_imports read_a_body read_no_body read_declaration read_function read_method_decl read_top_chunk read_package_clause read_import_decl read_import_group mark_at word_at name_at text_at front_at trail_at selector_at label_at defined_at
starred_channel_argument = refl

-- func() *[3]int{}: a function literal, not a product
pub function_of_a_pointer : (row (k word.Func 0 ∷ m mark.LeftParen 1 ∷ m mark.RightParen 2 ∷ m mark.Star 3 ∷ m mark.LeftBracket 4 ∷ num 5 ∷ m mark.RightBracket 6 ∷ id 7 ∷ m mark.LeftBrace 8 ∷ m mark.RightBrace 9 ∷ m mark.Semicolon 10 ∷ [])).expr 5 false false ≡ Some (found (ex.Function (at 0) (sg.Result (make_parameters (at 1) [] (at 2)) (ty.Pointer (at 3) (ty.Array (at 4) (ex.Literal (num 5)) (ty.Name (id 7))))) (make_block (at 8) [] (at 9))) (m mark.Semicolon 10 ∷ []) 3)
unfolding rows idents_step type_name_step type_step unnamed_step named_params_step params_step signature_step tag_step field_step fields_step member_step members_step literal_step selected_step block_step received_step head_step bound_step args_step suffix_step suffixes_step primary_step unary_step expr_step operand_step operands_step value_step element_step elements_step exprs_step simple_step const_spec_step const_specs_step type_spec_step type_specs_step var_spec_step var_specs_step decl_step values_step target_step arms_step arm_step tag_value_step guard_step clauses_step types_step type_clauses_step comm_step comm_clauses_step header_step condition_step post_step range_left_step stmt_step stmts_step import_spec_step import_specs_step body_step top_step chunk_step read_one_name read_more_names read_bare read_qualified read_named read_paren_type read_pointer read_slice read_array read_map_type read_channel read_send_channel read_receive_channel read_function_type read_struct_type read_interface_type read_last_type read_more_types read_last_dots read_last_named_dots read_last_named read_more_named read_no_params read_named_list read_unnamed_list read_results read_result read_plain read_a_tag read_no_tag read_named_field read_embedded_field read_qualified_field read_pointer_field read_last_field read_more_fields read_no_fields read_method read_embedded_interface read_qualified_interface read_last_member read_more_members read_no_members read_values_in_braces read_selected_literal read_braces read_received read_basic_literal read_header_name read_literal_of_selected read_name read_literal_of_name read_paren read_literal_of_type read_composite_type read_counted_literal read_other_type read_function_literal read_lone_function_type read_a_bound read_no_bound read_spread read_last_arg read_more_args read_no_args read_selector read_assertion read_open_slice read_open_full_slice read_index read_slice_expr read_full_slice read_call read_more_suffixes read_no_suffixes read_primary read_bare_primary read_signed read_starred read_receiver read_receive_first read_receive read_operand read_more_operands read_no_operands read_value_expr read_value_literal read_plain_element read_keyed_element read_last_element read_more_elements read_no_elements read_one_expr read_more_exprs read_assign read_define read_expression read_send read_step read_update read_implicit read_untyped read_typed_const read_last_const read_more_consts read_no_consts read_definition read_alias read_last_type_spec read_more_type_specs read_no_type_specs read_var_values read_typed_var read_typed_values read_last_var read_more_vars read_no_vars read_const_decl read_const_group read_type_decl read_type_group read_var_decl read_var_group read_some_values read_no_values read_a_target read_no_target read_last_arm read_more_arms read_last_block read_header_arm read_bare_arm read_empty_arm read_a_tag_value read_no_tag_value read_plain_guard read_named_guard read_a_case read_a_default read_no_clauses read_one_type read_more_cases read_a_type_case read_a_type_default read_no_type_clauses read_comm_assign read_comm_define read_comm_send read_comm_receive read_a_comm read_a_comm_default read_no_comms read_init_header read_no_header read_a_condition read_no_condition read_a_post read_no_post read_range_assign read_range_define read_no_range_left read_simple_stmt read_declaration_stmt read_bare_label read_labeled read_go read_defer read_return read_break read_continue read_goto read_fallthrough read_block_stmt read_if_stmt read_header_type_switch read_type_switch read_header_switch read_switch read_select read_endless read_range read_loop read_while read_last_stmt read_more_stmts read_empty_stmt read_no_stmts read_plain_import read_dot_import read_named_import read_last_import read_more_imports read_no_imports read_a_body read_no_body read_declaration read_function read_method_decl read_top_chunk read_package_clause read_import_decl read_import_group mark_at word_at name_at text_at front_at trail_at selector_at label_at defined_at
function_of_a_pointer = refl

-- func (a, b T) m();
pub no-two_names_of_a_receiver : (row (k word.Func 0 ∷ m mark.LeftParen 1 ∷ id 2 ∷ m mark.Comma 3 ∷ id 4 ∷ id 5 ∷ m mark.RightParen 6 ∷ id 7 ∷ m mark.LeftParen 8 ∷ m mark.RightParen 9 ∷ m mark.Semicolon 10 ∷ [])).chunk ≡ None
unfolding rows idents_step type_name_step type_step unnamed_step named_params_step params_step signature_step tag_step field_step fields_step member_step members_step literal_step selected_step block_step received_step head_step bound_step args_step suffix_step suffixes_step primary_step unary_step expr_step operand_step operands_step value_step element_step elements_step exprs_step simple_step const_spec_step const_specs_step type_spec_step type_specs_step var_spec_step var_specs_step decl_step values_step target_step arms_step arm_step tag_value_step guard_step clauses_step types_step type_clauses_step comm_step comm_clauses_step header_step condition_step post_step range_left_step stmt_step stmts_step import_spec_step import_specs_step body_step top_step chunk_step read_one_name read_more_names read_bare read_qualified read_named read_paren_type read_pointer read_slice read_array read_map_type read_channel read_send_channel read_receive_channel read_function_type read_struct_type read_interface_type read_last_type read_more_types read_last_dots read_last_named_dots read_last_named read_more_named read_no_params read_named_list read_unnamed_list read_results read_result read_plain read_a_tag read_no_tag read_named_field read_embedded_field read_qualified_field read_pointer_field read_last_field read_more_fields read_no_fields read_method read_embedded_interface read_qualified_interface read_last_member read_more_members read_no_members read_values_in_braces read_selected_literal read_braces read_received read_basic_literal read_header_name read_literal_of_selected read_name read_literal_of_name read_paren read_literal_of_type read_composite_type read_counted_literal read_other_type read_function_literal read_lone_function_type read_a_bound read_no_bound read_spread read_last_arg read_more_args read_no_args read_selector read_assertion read_open_slice read_open_full_slice read_index read_slice_expr read_full_slice read_call read_more_suffixes read_no_suffixes read_primary read_bare_primary read_signed read_starred read_receiver read_receive_first read_receive read_operand read_more_operands read_no_operands read_value_expr read_value_literal read_plain_element read_keyed_element read_last_element read_more_elements read_no_elements read_one_expr read_more_exprs read_assign read_define read_expression read_send read_step read_update read_implicit read_untyped read_typed_const read_last_const read_more_consts read_no_consts read_definition read_alias read_last_type_spec read_more_type_specs read_no_type_specs read_var_values read_typed_var read_typed_values read_last_var read_more_vars read_no_vars read_const_decl read_const_group read_type_decl read_type_group read_var_decl read_var_group read_some_values read_no_values read_a_target read_no_target read_last_arm read_more_arms read_last_block read_header_arm read_bare_arm read_empty_arm read_a_tag_value read_no_tag_value read_plain_guard read_named_guard read_a_case read_a_default read_no_clauses read_one_type read_more_cases read_a_type_case read_a_type_default read_no_type_clauses read_comm_assign read_comm_define read_comm_send read_comm_receive read_a_comm read_a_comm_default read_no_comms read_init_header read_no_header read_a_condition read_no_condition read_a_post read_no_post read_range_assign read_range_define read_no_range_left read_simple_stmt read_declaration_stmt read_bare_label read_labeled read_go read_defer read_return read_break read_continue read_goto read_fallthrough read_block_stmt read_if_stmt read_header_type_switch read_type_switch read_header_switch read_switch read_select read_endless read_range read_loop read_while read_last_stmt read_more_stmts read_empty_stmt read_no_stmts read_plain_import read_dot_import read_named_import read_last_import read_more_imports read_no_imports read_a_body read_no_body read_declaration read_function read_method_decl read_top_chunk read_package_clause read_import_decl read_import_group mark_at word_at name_at text_at front_at trail_at selector_at label_at defined_at
no-two_names_of_a_receiver = refl

-- func(a int, b)
pub no-mixed_parameters : (row (k word.Func 0 ∷ m mark.LeftParen 1 ∷ id 2 ∷ id 3 ∷ m mark.Comma 4 ∷ id 5 ∷ m mark.RightParen 6 ∷ [])).type ≡ None
unfolding rows idents_step type_name_step type_step unnamed_step named_params_step params_step signature_step tag_step field_step fields_step member_step members_step literal_step selected_step block_step received_step head_step bound_step args_step suffix_step suffixes_step primary_step unary_step expr_step operand_step operands_step value_step element_step elements_step exprs_step simple_step const_spec_step const_specs_step type_spec_step type_specs_step var_spec_step var_specs_step decl_step values_step target_step arms_step arm_step tag_value_step guard_step clauses_step types_step type_clauses_step comm_step comm_clauses_step header_step condition_step post_step range_left_step stmt_step stmts_step import_spec_step import_specs_step body_step top_step chunk_step read_one_name read_more_names read_bare read_qualified read_named read_paren_type read_pointer read_slice read_array read_map_type read_channel read_send_channel read_receive_channel read_function_type read_struct_type read_interface_type read_last_type read_more_types read_last_dots read_last_named_dots read_last_named read_more_named read_no_params read_named_list read_unnamed_list read_results read_result read_plain read_a_tag read_no_tag read_named_field read_embedded_field read_qualified_field read_pointer_field read_last_field read_more_fields read_no_fields read_method read_embedded_interface read_qualified_interface read_last_member read_more_members read_no_members read_values_in_braces read_selected_literal read_braces read_received read_basic_literal read_header_name read_literal_of_selected read_name read_literal_of_name read_paren read_literal_of_type read_composite_type read_counted_literal read_other_type read_function_literal read_lone_function_type read_a_bound read_no_bound read_spread read_last_arg read_more_args read_no_args read_selector read_assertion read_open_slice read_open_full_slice read_index read_slice_expr read_full_slice read_call read_more_suffixes read_no_suffixes read_primary read_bare_primary read_signed read_starred read_receiver read_receive_first read_receive read_operand read_more_operands read_no_operands read_value_expr read_value_literal read_plain_element read_keyed_element read_last_element read_more_elements read_no_elements read_one_expr read_more_exprs read_assign read_define read_expression read_send read_step read_update read_implicit read_untyped read_typed_const read_last_const read_more_consts read_no_consts read_definition read_alias read_last_type_spec read_more_type_specs read_no_type_specs read_var_values read_typed_var read_typed_values read_last_var read_more_vars read_no_vars read_const_decl read_const_group read_type_decl read_type_group read_var_decl read_var_group read_some_values read_no_values read_a_target read_no_target read_last_arm read_more_arms read_last_block read_header_arm read_bare_arm read_empty_arm read_a_tag_value read_no_tag_value read_plain_guard read_named_guard read_a_case read_a_default read_no_clauses read_one_type read_more_cases read_a_type_case read_a_type_default read_no_type_clauses read_comm_assign read_comm_define read_comm_send read_comm_receive read_a_comm read_a_comm_default read_no_comms read_init_header read_no_header read_a_condition read_no_condition read_a_post read_no_post read_range_assign read_range_define read_no_range_left read_simple_stmt read_declaration_stmt read_bare_label read_labeled read_go read_defer read_return read_break read_continue read_goto read_fallthrough read_block_stmt read_if_stmt read_header_type_switch read_type_switch read_header_switch read_switch read_select read_endless read_range read_loop read_while read_last_stmt read_more_stmts read_empty_stmt read_no_stmts read_plain_import read_dot_import read_named_import read_last_import read_more_imports read_no_imports read_a_body read_no_body read_declaration read_function read_method_decl read_top_chunk read_package_clause read_import_decl read_import_group mark_at word_at name_at text_at front_at trail_at selector_at label_at defined_at
no-mixed_parameters = refl

-- func(a ...T, b U)
pub no-dots_in_the_middle : (row (k word.Func 0 ∷ m mark.LeftParen 1 ∷ id 2 ∷ m mark.Ellipsis 3 ∷ id 4 ∷ m mark.Comma 5 ∷ id 6 ∷ id 7 ∷ m mark.RightParen 8 ∷ [])).type ≡ None
unfolding rows idents_step type_name_step type_step unnamed_step named_params_step params_step signature_step tag_step field_step fields_step member_step members_step literal_step selected_step block_step received_step head_step bound_step args_step suffix_step suffixes_step primary_step unary_step expr_step operand_step operands_step value_step element_step elements_step exprs_step simple_step const_spec_step const_specs_step type_spec_step type_specs_step var_spec_step var_specs_step decl_step values_step target_step arms_step arm_step tag_value_step guard_step clauses_step types_step type_clauses_step comm_step comm_clauses_step header_step condition_step post_step range_left_step stmt_step stmts_step import_spec_step import_specs_step body_step top_step chunk_step read_one_name read_more_names read_bare read_qualified read_named read_paren_type read_pointer read_slice read_array read_map_type read_channel read_send_channel read_receive_channel read_function_type read_struct_type read_interface_type read_last_type read_more_types read_last_dots read_last_named_dots read_last_named read_more_named read_no_params read_named_list read_unnamed_list read_results read_result read_plain read_a_tag read_no_tag read_named_field read_embedded_field read_qualified_field read_pointer_field read_last_field read_more_fields read_no_fields read_method read_embedded_interface read_qualified_interface read_last_member read_more_members read_no_members read_values_in_braces read_selected_literal read_braces read_received read_basic_literal read_header_name read_literal_of_selected read_name read_literal_of_name read_paren read_literal_of_type read_composite_type read_counted_literal read_other_type read_function_literal read_lone_function_type read_a_bound read_no_bound read_spread read_last_arg read_more_args read_no_args read_selector read_assertion read_open_slice read_open_full_slice read_index read_slice_expr read_full_slice read_call read_more_suffixes read_no_suffixes read_primary read_bare_primary read_signed read_starred read_receiver read_receive_first read_receive read_operand read_more_operands read_no_operands read_value_expr read_value_literal read_plain_element read_keyed_element read_last_element read_more_elements read_no_elements read_one_expr read_more_exprs read_assign read_define read_expression read_send read_step read_update read_implicit read_untyped read_typed_const read_last_const read_more_consts read_no_consts read_definition read_alias read_last_type_spec read_more_type_specs read_no_type_specs read_var_values read_typed_var read_typed_values read_last_var read_more_vars read_no_vars read_const_decl read_const_group read_type_decl read_type_group read_var_decl read_var_group read_some_values read_no_values read_a_target read_no_target read_last_arm read_more_arms read_last_block read_header_arm read_bare_arm read_empty_arm read_a_tag_value read_no_tag_value read_plain_guard read_named_guard read_a_case read_a_default read_no_clauses read_one_type read_more_cases read_a_type_case read_a_type_default read_no_type_clauses read_comm_assign read_comm_define read_comm_send read_comm_receive read_a_comm read_a_comm_default read_no_comms read_init_header read_no_header read_a_condition read_no_condition read_a_post read_no_post read_range_assign read_range_define read_no_range_left read_simple_stmt read_declaration_stmt read_bare_label read_labeled read_go read_defer read_return read_break read_continue read_goto read_fallthrough read_block_stmt read_if_stmt read_header_type_switch read_type_switch read_header_switch read_switch read_select read_endless read_range read_loop read_while read_last_stmt read_more_stmts read_empty_stmt read_no_stmts read_plain_import read_dot_import read_named_import read_last_import read_more_imports read_no_imports read_a_body read_no_body read_declaration read_function read_method_decl read_top_chunk read_package_clause read_import_decl read_import_group mark_at word_at name_at text_at front_at trail_at selector_at label_at defined_at
no-dots_in_the_middle = refl

-- func() (a ...T)
pub no-dots_in_results : (row (k word.Func 0 ∷ m mark.LeftParen 1 ∷ m mark.RightParen 2 ∷ m mark.LeftParen 3 ∷ id 4 ∷ m mark.Ellipsis 5 ∷ id 6 ∷ m mark.RightParen 7 ∷ m mark.Semicolon 8 ∷ [])).chunk ≡ None
unfolding rows idents_step type_name_step type_step unnamed_step named_params_step params_step signature_step tag_step field_step fields_step member_step members_step literal_step selected_step block_step received_step head_step bound_step args_step suffix_step suffixes_step primary_step unary_step expr_step operand_step operands_step value_step element_step elements_step exprs_step simple_step const_spec_step const_specs_step type_spec_step type_specs_step var_spec_step var_specs_step decl_step values_step target_step arms_step arm_step tag_value_step guard_step clauses_step types_step type_clauses_step comm_step comm_clauses_step header_step condition_step post_step range_left_step stmt_step stmts_step import_spec_step import_specs_step body_step top_step chunk_step read_one_name read_more_names read_bare read_qualified read_named read_paren_type read_pointer read_slice read_array read_map_type read_channel read_send_channel read_receive_channel read_function_type read_struct_type read_interface_type read_last_type read_more_types read_last_dots read_last_named_dots read_last_named read_more_named read_no_params read_named_list read_unnamed_list read_results read_result read_plain read_a_tag read_no_tag read_named_field read_embedded_field read_qualified_field read_pointer_field read_last_field read_more_fields read_no_fields read_method read_embedded_interface read_qualified_interface read_last_member read_more_members read_no_members read_values_in_braces read_selected_literal read_braces read_received read_basic_literal read_header_name read_literal_of_selected read_name read_literal_of_name read_paren read_literal_of_type read_composite_type read_counted_literal read_other_type read_function_literal read_lone_function_type read_a_bound read_no_bound read_spread read_last_arg read_more_args read_no_args read_selector read_assertion read_open_slice read_open_full_slice read_index read_slice_expr read_full_slice read_call read_more_suffixes read_no_suffixes read_primary read_bare_primary read_signed read_starred read_receiver read_receive_first read_receive read_operand read_more_operands read_no_operands read_value_expr read_value_literal read_plain_element read_keyed_element read_last_element read_more_elements read_no_elements read_one_expr read_more_exprs read_assign read_define read_expression read_send read_step read_update read_implicit read_untyped read_typed_const read_last_const read_more_consts read_no_consts read_definition read_alias read_last_type_spec read_more_type_specs read_no_type_specs read_var_values read_typed_var read_typed_values read_last_var read_more_vars read_no_vars read_const_decl read_const_group read_type_decl read_type_group read_var_decl read_var_group read_some_values read_no_values read_a_target read_no_target read_last_arm read_more_arms read_last_block read_header_arm read_bare_arm read_empty_arm read_a_tag_value read_no_tag_value read_plain_guard read_named_guard read_a_case read_a_default read_no_clauses read_one_type read_more_cases read_a_type_case read_a_type_default read_no_type_clauses read_comm_assign read_comm_define read_comm_send read_comm_receive read_a_comm read_a_comm_default read_no_comms read_init_header read_no_header read_a_condition read_no_condition read_a_post read_no_post read_range_assign read_range_define read_no_range_left read_simple_stmt read_declaration_stmt read_bare_label read_labeled read_go read_defer read_return read_break read_continue read_goto read_fallthrough read_block_stmt read_if_stmt read_header_type_switch read_type_switch read_header_switch read_switch read_select read_endless read_range read_loop read_while read_last_stmt read_more_stmts read_empty_stmt read_no_stmts read_plain_import read_dot_import read_named_import read_last_import read_more_imports read_no_imports read_a_body read_no_body read_declaration read_function read_method_decl read_top_chunk read_package_clause read_import_decl read_import_group mark_at word_at name_at text_at front_at trail_at selector_at label_at defined_at
no-dots_in_results = refl

-- const ( a; b = 1 );
pub no-first_const_without_value : (row (k word.Const 0 ∷ m mark.LeftParen 1 ∷ id 2 ∷ m mark.Semicolon 3 ∷ id 4 ∷ m mark.Assign 5 ∷ num 6 ∷ m mark.RightParen 7 ∷ m mark.Semicolon 8 ∷ [])).chunk ≡ None
unfolding rows idents_step type_name_step type_step unnamed_step named_params_step params_step signature_step tag_step field_step fields_step member_step members_step literal_step selected_step block_step received_step head_step bound_step args_step suffix_step suffixes_step primary_step unary_step expr_step operand_step operands_step value_step element_step elements_step exprs_step simple_step const_spec_step const_specs_step type_spec_step type_specs_step var_spec_step var_specs_step decl_step values_step target_step arms_step arm_step tag_value_step guard_step clauses_step types_step type_clauses_step comm_step comm_clauses_step header_step condition_step post_step range_left_step stmt_step stmts_step import_spec_step import_specs_step body_step top_step chunk_step read_one_name read_more_names read_bare read_qualified read_named read_paren_type read_pointer read_slice read_array read_map_type read_channel read_send_channel read_receive_channel read_function_type read_struct_type read_interface_type read_last_type read_more_types read_last_dots read_last_named_dots read_last_named read_more_named read_no_params read_named_list read_unnamed_list read_results read_result read_plain read_a_tag read_no_tag read_named_field read_embedded_field read_qualified_field read_pointer_field read_last_field read_more_fields read_no_fields read_method read_embedded_interface read_qualified_interface read_last_member read_more_members read_no_members read_values_in_braces read_selected_literal read_braces read_received read_basic_literal read_header_name read_literal_of_selected read_name read_literal_of_name read_paren read_literal_of_type read_composite_type read_counted_literal read_other_type read_function_literal read_lone_function_type read_a_bound read_no_bound read_spread read_last_arg read_more_args read_no_args read_selector read_assertion read_open_slice read_open_full_slice read_index read_slice_expr read_full_slice read_call read_more_suffixes read_no_suffixes read_primary read_bare_primary read_signed read_starred read_receiver read_receive_first read_receive read_operand read_more_operands read_no_operands read_value_expr read_value_literal read_plain_element read_keyed_element read_last_element read_more_elements read_no_elements read_one_expr read_more_exprs read_assign read_define read_expression read_send read_step read_update read_implicit read_untyped read_typed_const read_last_const read_more_consts read_no_consts read_definition read_alias read_last_type_spec read_more_type_specs read_no_type_specs read_var_values read_typed_var read_typed_values read_last_var read_more_vars read_no_vars read_const_decl read_const_group read_type_decl read_type_group read_var_decl read_var_group read_some_values read_no_values read_a_target read_no_target read_last_arm read_more_arms read_last_block read_header_arm read_bare_arm read_empty_arm read_a_tag_value read_no_tag_value read_plain_guard read_named_guard read_a_case read_a_default read_no_clauses read_one_type read_more_cases read_a_type_case read_a_type_default read_no_type_clauses read_comm_assign read_comm_define read_comm_send read_comm_receive read_a_comm read_a_comm_default read_no_comms read_init_header read_no_header read_a_condition read_no_condition read_a_post read_no_post read_range_assign read_range_define read_no_range_left read_simple_stmt read_declaration_stmt read_bare_label read_labeled read_go read_defer read_return read_break read_continue read_goto read_fallthrough read_block_stmt read_if_stmt read_header_type_switch read_type_switch read_header_switch read_switch read_select read_endless read_range read_loop read_while read_last_stmt read_more_stmts read_empty_stmt read_no_stmts read_plain_import read_dot_import read_named_import read_last_import read_more_imports read_no_imports read_a_body read_no_body read_declaration read_function read_method_decl read_top_chunk read_package_clause read_import_decl read_import_group mark_at word_at name_at text_at front_at trail_at selector_at label_at defined_at
no-first_const_without_value = refl

-- const a;
pub no-single_const_without_value : (row (k word.Const 0 ∷ id 1 ∷ m mark.Semicolon 2 ∷ [])).chunk ≡ None
unfolding rows idents_step type_name_step type_step unnamed_step named_params_step params_step signature_step tag_step field_step fields_step member_step members_step literal_step selected_step block_step received_step head_step bound_step args_step suffix_step suffixes_step primary_step unary_step expr_step operand_step operands_step value_step element_step elements_step exprs_step simple_step const_spec_step const_specs_step type_spec_step type_specs_step var_spec_step var_specs_step decl_step values_step target_step arms_step arm_step tag_value_step guard_step clauses_step types_step type_clauses_step comm_step comm_clauses_step header_step condition_step post_step range_left_step stmt_step stmts_step import_spec_step import_specs_step body_step top_step chunk_step read_one_name read_more_names read_bare read_qualified read_named read_paren_type read_pointer read_slice read_array read_map_type read_channel read_send_channel read_receive_channel read_function_type read_struct_type read_interface_type read_last_type read_more_types read_last_dots read_last_named_dots read_last_named read_more_named read_no_params read_named_list read_unnamed_list read_results read_result read_plain read_a_tag read_no_tag read_named_field read_embedded_field read_qualified_field read_pointer_field read_last_field read_more_fields read_no_fields read_method read_embedded_interface read_qualified_interface read_last_member read_more_members read_no_members read_values_in_braces read_selected_literal read_braces read_received read_basic_literal read_header_name read_literal_of_selected read_name read_literal_of_name read_paren read_literal_of_type read_composite_type read_counted_literal read_other_type read_function_literal read_lone_function_type read_a_bound read_no_bound read_spread read_last_arg read_more_args read_no_args read_selector read_assertion read_open_slice read_open_full_slice read_index read_slice_expr read_full_slice read_call read_more_suffixes read_no_suffixes read_primary read_bare_primary read_signed read_starred read_receiver read_receive_first read_receive read_operand read_more_operands read_no_operands read_value_expr read_value_literal read_plain_element read_keyed_element read_last_element read_more_elements read_no_elements read_one_expr read_more_exprs read_assign read_define read_expression read_send read_step read_update read_implicit read_untyped read_typed_const read_last_const read_more_consts read_no_consts read_definition read_alias read_last_type_spec read_more_type_specs read_no_type_specs read_var_values read_typed_var read_typed_values read_last_var read_more_vars read_no_vars read_const_decl read_const_group read_type_decl read_type_group read_var_decl read_var_group read_some_values read_no_values read_a_target read_no_target read_last_arm read_more_arms read_last_block read_header_arm read_bare_arm read_empty_arm read_a_tag_value read_no_tag_value read_plain_guard read_named_guard read_a_case read_a_default read_no_clauses read_one_type read_more_cases read_a_type_case read_a_type_default read_no_type_clauses read_comm_assign read_comm_define read_comm_send read_comm_receive read_a_comm read_a_comm_default read_no_comms read_init_header read_no_header read_a_condition read_no_condition read_a_post read_no_post read_range_assign read_range_define read_no_range_left read_simple_stmt read_declaration_stmt read_bare_label read_labeled read_go read_defer read_return read_break read_continue read_goto read_fallthrough read_block_stmt read_if_stmt read_header_type_switch read_type_switch read_header_switch read_switch read_select read_endless read_range read_loop read_while read_last_stmt read_more_stmts read_empty_stmt read_no_stmts read_plain_import read_dot_import read_named_import read_last_import read_more_imports read_no_imports read_a_body read_no_body read_declaration read_function read_method_decl read_top_chunk read_package_clause read_import_decl read_import_group mark_at word_at name_at text_at front_at trail_at selector_at label_at defined_at
no-single_const_without_value = refl

-- for i := a; b; i := c {}
pub no-defined_post : (row (k word.For 0 ∷ id 1 ∷ m mark.Define 2 ∷ id 3 ∷ m mark.Semicolon 4 ∷ id 5 ∷ m mark.Semicolon 6 ∷ id 7 ∷ m mark.Define 8 ∷ id 9 ∷ m mark.LeftBrace 10 ∷ m mark.RightBrace 11 ∷ m mark.Semicolon 12 ∷ [])).stmt ≡ None
unfolding rows idents_step type_name_step type_step unnamed_step named_params_step params_step signature_step tag_step field_step fields_step member_step members_step literal_step selected_step block_step received_step head_step bound_step args_step suffix_step suffixes_step primary_step unary_step expr_step operand_step operands_step value_step element_step elements_step exprs_step simple_step const_spec_step const_specs_step type_spec_step type_specs_step var_spec_step var_specs_step decl_step values_step target_step arms_step arm_step tag_value_step guard_step clauses_step types_step type_clauses_step comm_step comm_clauses_step header_step condition_step post_step range_left_step stmt_step stmts_step import_spec_step import_specs_step body_step top_step chunk_step read_one_name read_more_names read_bare read_qualified read_named read_paren_type read_pointer read_slice read_array read_map_type read_channel read_send_channel read_receive_channel read_function_type read_struct_type read_interface_type read_last_type read_more_types read_last_dots read_last_named_dots read_last_named read_more_named read_no_params read_named_list read_unnamed_list read_results read_result read_plain read_a_tag read_no_tag read_named_field read_embedded_field read_qualified_field read_pointer_field read_last_field read_more_fields read_no_fields read_method read_embedded_interface read_qualified_interface read_last_member read_more_members read_no_members read_values_in_braces read_selected_literal read_braces read_received read_basic_literal read_header_name read_literal_of_selected read_name read_literal_of_name read_paren read_literal_of_type read_composite_type read_counted_literal read_other_type read_function_literal read_lone_function_type read_a_bound read_no_bound read_spread read_last_arg read_more_args read_no_args read_selector read_assertion read_open_slice read_open_full_slice read_index read_slice_expr read_full_slice read_call read_more_suffixes read_no_suffixes read_primary read_bare_primary read_signed read_starred read_receiver read_receive_first read_receive read_operand read_more_operands read_no_operands read_value_expr read_value_literal read_plain_element read_keyed_element read_last_element read_more_elements read_no_elements read_one_expr read_more_exprs read_assign read_define read_expression read_send read_step read_update read_implicit read_untyped read_typed_const read_last_const read_more_consts read_no_consts read_definition read_alias read_last_type_spec read_more_type_specs read_no_type_specs read_var_values read_typed_var read_typed_values read_last_var read_more_vars read_no_vars read_const_decl read_const_group read_type_decl read_type_group read_var_decl read_var_group read_some_values read_no_values read_a_target read_no_target read_last_arm read_more_arms read_last_block read_header_arm read_bare_arm read_empty_arm read_a_tag_value read_no_tag_value read_plain_guard read_named_guard read_a_case read_a_default read_no_clauses read_one_type read_more_cases read_a_type_case read_a_type_default read_no_type_clauses read_comm_assign read_comm_define read_comm_send read_comm_receive read_a_comm read_a_comm_default read_no_comms read_init_header read_no_header read_a_condition read_no_condition read_a_post read_no_post read_range_assign read_range_define read_no_range_left read_simple_stmt read_declaration_stmt read_bare_label read_labeled read_go read_defer read_return read_break read_continue read_goto read_fallthrough read_block_stmt read_if_stmt read_header_type_switch read_type_switch read_header_switch read_switch read_select read_endless read_range read_loop read_while read_last_stmt read_more_stmts read_empty_stmt read_no_stmts read_plain_import read_dot_import read_named_import read_last_import read_more_imports read_no_imports read_a_body read_no_body read_declaration read_function read_method_decl read_top_chunk read_package_clause read_import_decl read_import_group mark_at word_at name_at text_at front_at trail_at selector_at label_at defined_at
no-defined_post = refl

-- if x == T{} {} in a block
pub no-literal_in_a_header : (row (m mark.LeftBrace 0 ∷ k word.If 1 ∷ id 2 ∷ m mark.Equal 3 ∷ id 4 ∷ m mark.LeftBrace 5 ∷ m mark.RightBrace 6 ∷ m mark.LeftBrace 7 ∷ m mark.RightBrace 8 ∷ m mark.RightBrace 9 ∷ [])).block ≡ None
unfolding rows idents_step type_name_step type_step unnamed_step named_params_step params_step signature_step tag_step field_step fields_step member_step members_step literal_step selected_step block_step received_step head_step bound_step args_step suffix_step suffixes_step primary_step unary_step expr_step operand_step operands_step value_step element_step elements_step exprs_step simple_step const_spec_step const_specs_step type_spec_step type_specs_step var_spec_step var_specs_step decl_step values_step target_step arms_step arm_step tag_value_step guard_step clauses_step types_step type_clauses_step comm_step comm_clauses_step header_step condition_step post_step range_left_step stmt_step stmts_step import_spec_step import_specs_step body_step top_step chunk_step read_one_name read_more_names read_bare read_qualified read_named read_paren_type read_pointer read_slice read_array read_map_type read_channel read_send_channel read_receive_channel read_function_type read_struct_type read_interface_type read_last_type read_more_types read_last_dots read_last_named_dots read_last_named read_more_named read_no_params read_named_list read_unnamed_list read_results read_result read_plain read_a_tag read_no_tag read_named_field read_embedded_field read_qualified_field read_pointer_field read_last_field read_more_fields read_no_fields read_method read_embedded_interface read_qualified_interface read_last_member read_more_members read_no_members read_values_in_braces read_selected_literal read_braces read_received read_basic_literal read_header_name read_literal_of_selected read_name read_literal_of_name read_paren read_literal_of_type read_composite_type read_counted_literal read_other_type read_function_literal read_lone_function_type read_a_bound read_no_bound read_spread read_last_arg read_more_args read_no_args read_selector read_assertion read_open_slice read_open_full_slice read_index read_slice_expr read_full_slice read_call read_more_suffixes read_no_suffixes read_primary read_bare_primary read_signed read_starred read_receiver read_receive_first read_receive read_operand read_more_operands read_no_operands read_value_expr read_value_literal read_plain_element read_keyed_element read_last_element read_more_elements read_no_elements read_one_expr read_more_exprs read_assign read_define read_expression read_send read_step read_update read_implicit read_untyped read_typed_const read_last_const read_more_consts read_no_consts read_definition read_alias read_last_type_spec read_more_type_specs read_no_type_specs read_var_values read_typed_var read_typed_values read_last_var read_more_vars read_no_vars read_const_decl read_const_group read_type_decl read_type_group read_var_decl read_var_group read_some_values read_no_values read_a_target read_no_target read_last_arm read_more_arms read_last_block read_header_arm read_bare_arm read_empty_arm read_a_tag_value read_no_tag_value read_plain_guard read_named_guard read_a_case read_a_default read_no_clauses read_one_type read_more_cases read_a_type_case read_a_type_default read_no_type_clauses read_comm_assign read_comm_define read_comm_send read_comm_receive read_a_comm read_a_comm_default read_no_comms read_init_header read_no_header read_a_condition read_no_condition read_a_post read_no_post read_range_assign read_range_define read_no_range_left read_simple_stmt read_declaration_stmt read_bare_label read_labeled read_go read_defer read_return read_break read_continue read_goto read_fallthrough read_block_stmt read_if_stmt read_header_type_switch read_type_switch read_header_switch read_switch read_select read_endless read_range read_loop read_while read_last_stmt read_more_stmts read_empty_stmt read_no_stmts read_plain_import read_dot_import read_named_import read_last_import read_more_imports read_no_imports read_a_body read_no_body read_declaration read_function read_method_decl read_top_chunk read_package_clause read_import_decl read_import_group mark_at word_at name_at text_at front_at trail_at selector_at label_at defined_at
no-literal_in_a_header = refl

-- { x.(type) }
pub no-type_outside_a_switch : (row (m mark.LeftBrace 0 ∷ id 1 ∷ m mark.Dot 2 ∷ m mark.LeftParen 3 ∷ k word.«Type» 4 ∷ m mark.RightParen 5 ∷ m mark.RightBrace 6 ∷ [])).block ≡ None
unfolding rows idents_step type_name_step type_step unnamed_step named_params_step params_step signature_step tag_step field_step fields_step member_step members_step literal_step selected_step block_step received_step head_step bound_step args_step suffix_step suffixes_step primary_step unary_step expr_step operand_step operands_step value_step element_step elements_step exprs_step simple_step const_spec_step const_specs_step type_spec_step type_specs_step var_spec_step var_specs_step decl_step values_step target_step arms_step arm_step tag_value_step guard_step clauses_step types_step type_clauses_step comm_step comm_clauses_step header_step condition_step post_step range_left_step stmt_step stmts_step import_spec_step import_specs_step body_step top_step chunk_step read_one_name read_more_names read_bare read_qualified read_named read_paren_type read_pointer read_slice read_array read_map_type read_channel read_send_channel read_receive_channel read_function_type read_struct_type read_interface_type read_last_type read_more_types read_last_dots read_last_named_dots read_last_named read_more_named read_no_params read_named_list read_unnamed_list read_results read_result read_plain read_a_tag read_no_tag read_named_field read_embedded_field read_qualified_field read_pointer_field read_last_field read_more_fields read_no_fields read_method read_embedded_interface read_qualified_interface read_last_member read_more_members read_no_members read_values_in_braces read_selected_literal read_braces read_received read_basic_literal read_header_name read_literal_of_selected read_name read_literal_of_name read_paren read_literal_of_type read_composite_type read_counted_literal read_other_type read_function_literal read_lone_function_type read_a_bound read_no_bound read_spread read_last_arg read_more_args read_no_args read_selector read_assertion read_open_slice read_open_full_slice read_index read_slice_expr read_full_slice read_call read_more_suffixes read_no_suffixes read_primary read_bare_primary read_signed read_starred read_receiver read_receive_first read_receive read_operand read_more_operands read_no_operands read_value_expr read_value_literal read_plain_element read_keyed_element read_last_element read_more_elements read_no_elements read_one_expr read_more_exprs read_assign read_define read_expression read_send read_step read_update read_implicit read_untyped read_typed_const read_last_const read_more_consts read_no_consts read_definition read_alias read_last_type_spec read_more_type_specs read_no_type_specs read_var_values read_typed_var read_typed_values read_last_var read_more_vars read_no_vars read_const_decl read_const_group read_type_decl read_type_group read_var_decl read_var_group read_some_values read_no_values read_a_target read_no_target read_last_arm read_more_arms read_last_block read_header_arm read_bare_arm read_empty_arm read_a_tag_value read_no_tag_value read_plain_guard read_named_guard read_a_case read_a_default read_no_clauses read_one_type read_more_cases read_a_type_case read_a_type_default read_no_type_clauses read_comm_assign read_comm_define read_comm_send read_comm_receive read_a_comm read_a_comm_default read_no_comms read_init_header read_no_header read_a_condition read_no_condition read_a_post read_no_post read_range_assign read_range_define read_no_range_left read_simple_stmt read_declaration_stmt read_bare_label read_labeled read_go read_defer read_return read_break read_continue read_goto read_fallthrough read_block_stmt read_if_stmt read_header_type_switch read_type_switch read_header_switch read_switch read_select read_endless read_range read_loop read_while read_last_stmt read_more_stmts read_empty_stmt read_no_stmts read_plain_import read_dot_import read_named_import read_last_import read_more_imports read_no_imports read_a_body read_no_body read_declaration read_function read_method_decl read_top_chunk read_package_clause read_import_decl read_import_group mark_at word_at name_at text_at front_at trail_at selector_at label_at defined_at
no-type_outside_a_switch = refl

-- ( ( a
pub no-open_brackets : (row (m mark.LeftParen 0 ∷ m mark.LeftParen 1 ∷ id 2 ∷ [])).expr 5 false false ≡ None
unfolding rows idents_step type_name_step type_step unnamed_step named_params_step params_step signature_step tag_step field_step fields_step member_step members_step literal_step selected_step block_step received_step head_step bound_step args_step suffix_step suffixes_step primary_step unary_step expr_step operand_step operands_step value_step element_step elements_step exprs_step simple_step const_spec_step const_specs_step type_spec_step type_specs_step var_spec_step var_specs_step decl_step values_step target_step arms_step arm_step tag_value_step guard_step clauses_step types_step type_clauses_step comm_step comm_clauses_step header_step condition_step post_step range_left_step stmt_step stmts_step import_spec_step import_specs_step body_step top_step chunk_step read_one_name read_more_names read_bare read_qualified read_named read_paren_type read_pointer read_slice read_array read_map_type read_channel read_send_channel read_receive_channel read_function_type read_struct_type read_interface_type read_last_type read_more_types read_last_dots read_last_named_dots read_last_named read_more_named read_no_params read_named_list read_unnamed_list read_results read_result read_plain read_a_tag read_no_tag read_named_field read_embedded_field read_qualified_field read_pointer_field read_last_field read_more_fields read_no_fields read_method read_embedded_interface read_qualified_interface read_last_member read_more_members read_no_members read_values_in_braces read_selected_literal read_braces read_received read_basic_literal read_header_name read_literal_of_selected read_name read_literal_of_name read_paren read_literal_of_type read_composite_type read_counted_literal read_other_type read_function_literal read_lone_function_type read_a_bound read_no_bound read_spread read_last_arg read_more_args read_no_args read_selector read_assertion read_open_slice read_open_full_slice read_index read_slice_expr read_full_slice read_call read_more_suffixes read_no_suffixes read_primary read_bare_primary read_signed read_starred read_receiver read_receive_first read_receive read_operand read_more_operands read_no_operands read_value_expr read_value_literal read_plain_element read_keyed_element read_last_element read_more_elements read_no_elements read_one_expr read_more_exprs read_assign read_define read_expression read_send read_step read_update read_implicit read_untyped read_typed_const read_last_const read_more_consts read_no_consts read_definition read_alias read_last_type_spec read_more_type_specs read_no_type_specs read_var_values read_typed_var read_typed_values read_last_var read_more_vars read_no_vars read_const_decl read_const_group read_type_decl read_type_group read_var_decl read_var_group read_some_values read_no_values read_a_target read_no_target read_last_arm read_more_arms read_last_block read_header_arm read_bare_arm read_empty_arm read_a_tag_value read_no_tag_value read_plain_guard read_named_guard read_a_case read_a_default read_no_clauses read_one_type read_more_cases read_a_type_case read_a_type_default read_no_type_clauses read_comm_assign read_comm_define read_comm_send read_comm_receive read_a_comm read_a_comm_default read_no_comms read_init_header read_no_header read_a_condition read_no_condition read_a_post read_no_post read_range_assign read_range_define read_no_range_left read_simple_stmt read_declaration_stmt read_bare_label read_labeled read_go read_defer read_return read_break read_continue read_goto read_fallthrough read_block_stmt read_if_stmt read_header_type_switch read_type_switch read_header_switch read_switch read_select read_endless read_range read_loop read_while read_last_stmt read_more_stmts read_empty_stmt read_no_stmts read_plain_import read_dot_import read_named_import read_last_import read_more_imports read_no_imports read_a_body read_no_body read_declaration read_function read_method_decl read_top_chunk read_package_clause read_import_decl read_import_group mark_at word_at name_at text_at front_at trail_at selector_at label_at defined_at
no-open_brackets = refl

-- { a b }
pub no-no_semicolon : (row (m mark.LeftBrace 0 ∷ id 1 ∷ id 2 ∷ m mark.RightBrace 3 ∷ [])).block ≡ None
unfolding rows idents_step type_name_step type_step unnamed_step named_params_step params_step signature_step tag_step field_step fields_step member_step members_step literal_step selected_step block_step received_step head_step bound_step args_step suffix_step suffixes_step primary_step unary_step expr_step operand_step operands_step value_step element_step elements_step exprs_step simple_step const_spec_step const_specs_step type_spec_step type_specs_step var_spec_step var_specs_step decl_step values_step target_step arms_step arm_step tag_value_step guard_step clauses_step types_step type_clauses_step comm_step comm_clauses_step header_step condition_step post_step range_left_step stmt_step stmts_step import_spec_step import_specs_step body_step top_step chunk_step read_one_name read_more_names read_bare read_qualified read_named read_paren_type read_pointer read_slice read_array read_map_type read_channel read_send_channel read_receive_channel read_function_type read_struct_type read_interface_type read_last_type read_more_types read_last_dots read_last_named_dots read_last_named read_more_named read_no_params read_named_list read_unnamed_list read_results read_result read_plain read_a_tag read_no_tag read_named_field read_embedded_field read_qualified_field read_pointer_field read_last_field read_more_fields read_no_fields read_method read_embedded_interface read_qualified_interface read_last_member read_more_members read_no_members read_values_in_braces read_selected_literal read_braces read_received read_basic_literal read_header_name read_literal_of_selected read_name read_literal_of_name read_paren read_literal_of_type read_composite_type read_counted_literal read_other_type read_function_literal read_lone_function_type read_a_bound read_no_bound read_spread read_last_arg read_more_args read_no_args read_selector read_assertion read_open_slice read_open_full_slice read_index read_slice_expr read_full_slice read_call read_more_suffixes read_no_suffixes read_primary read_bare_primary read_signed read_starred read_receiver read_receive_first read_receive read_operand read_more_operands read_no_operands read_value_expr read_value_literal read_plain_element read_keyed_element read_last_element read_more_elements read_no_elements read_one_expr read_more_exprs read_assign read_define read_expression read_send read_step read_update read_implicit read_untyped read_typed_const read_last_const read_more_consts read_no_consts read_definition read_alias read_last_type_spec read_more_type_specs read_no_type_specs read_var_values read_typed_var read_typed_values read_last_var read_more_vars read_no_vars read_const_decl read_const_group read_type_decl read_type_group read_var_decl read_var_group read_some_values read_no_values read_a_target read_no_target read_last_arm read_more_arms read_last_block read_header_arm read_bare_arm read_empty_arm read_a_tag_value read_no_tag_value read_plain_guard read_named_guard read_a_case read_a_default read_no_clauses read_one_type read_more_cases read_a_type_case read_a_type_default read_no_type_clauses read_comm_assign read_comm_define read_comm_send read_comm_receive read_a_comm read_a_comm_default read_no_comms read_init_header read_no_header read_a_condition read_no_condition read_a_post read_no_post read_range_assign read_range_define read_no_range_left read_simple_stmt read_declaration_stmt read_bare_label read_labeled read_go read_defer read_return read_break read_continue read_goto read_fallthrough read_block_stmt read_if_stmt read_header_type_switch read_type_switch read_header_switch read_switch read_select read_endless read_range read_loop read_while read_last_stmt read_more_stmts read_empty_stmt read_no_stmts read_plain_import read_dot_import read_named_import read_last_import read_more_imports read_no_imports read_a_body read_no_body read_declaration read_function read_method_decl read_top_chunk read_package_clause read_import_decl read_import_group mark_at word_at name_at text_at front_at trail_at selector_at label_at defined_at
no-no_semicolon = refl

-- for a; b {}
pub no-one_for_semicolon : (row (k word.For 0 ∷ id 1 ∷ m mark.Semicolon 2 ∷ id 3 ∷ m mark.LeftBrace 4 ∷ m mark.RightBrace 5 ∷ m mark.Semicolon 6 ∷ [])).stmt ≡ None
unfolding rows idents_step type_name_step type_step unnamed_step named_params_step params_step signature_step tag_step field_step fields_step member_step members_step literal_step selected_step block_step received_step head_step bound_step args_step suffix_step suffixes_step primary_step unary_step expr_step operand_step operands_step value_step element_step elements_step exprs_step simple_step const_spec_step const_specs_step type_spec_step type_specs_step var_spec_step var_specs_step decl_step values_step target_step arms_step arm_step tag_value_step guard_step clauses_step types_step type_clauses_step comm_step comm_clauses_step header_step condition_step post_step range_left_step stmt_step stmts_step import_spec_step import_specs_step body_step top_step chunk_step read_one_name read_more_names read_bare read_qualified read_named read_paren_type read_pointer read_slice read_array read_map_type read_channel read_send_channel read_receive_channel read_function_type read_struct_type read_interface_type read_last_type read_more_types read_last_dots read_last_named_dots read_last_named read_more_named read_no_params read_named_list read_unnamed_list read_results read_result read_plain read_a_tag read_no_tag read_named_field read_embedded_field read_qualified_field read_pointer_field read_last_field read_more_fields read_no_fields read_method read_embedded_interface read_qualified_interface read_last_member read_more_members read_no_members read_values_in_braces read_selected_literal read_braces read_received read_basic_literal read_header_name read_literal_of_selected read_name read_literal_of_name read_paren read_literal_of_type read_composite_type read_counted_literal read_other_type read_function_literal read_lone_function_type read_a_bound read_no_bound read_spread read_last_arg read_more_args read_no_args read_selector read_assertion read_open_slice read_open_full_slice read_index read_slice_expr read_full_slice read_call read_more_suffixes read_no_suffixes read_primary read_bare_primary read_signed read_starred read_receiver read_receive_first read_receive read_operand read_more_operands read_no_operands read_value_expr read_value_literal read_plain_element read_keyed_element read_last_element read_more_elements read_no_elements read_one_expr read_more_exprs read_assign read_define read_expression read_send read_step read_update read_implicit read_untyped read_typed_const read_last_const read_more_consts read_no_consts read_definition read_alias read_last_type_spec read_more_type_specs read_no_type_specs read_var_values read_typed_var read_typed_values read_last_var read_more_vars read_no_vars read_const_decl read_const_group read_type_decl read_type_group read_var_decl read_var_group read_some_values read_no_values read_a_target read_no_target read_last_arm read_more_arms read_last_block read_header_arm read_bare_arm read_empty_arm read_a_tag_value read_no_tag_value read_plain_guard read_named_guard read_a_case read_a_default read_no_clauses read_one_type read_more_cases read_a_type_case read_a_type_default read_no_type_clauses read_comm_assign read_comm_define read_comm_send read_comm_receive read_a_comm read_a_comm_default read_no_comms read_init_header read_no_header read_a_condition read_no_condition read_a_post read_no_post read_range_assign read_range_define read_no_range_left read_simple_stmt read_declaration_stmt read_bare_label read_labeled read_go read_defer read_return read_break read_continue read_goto read_fallthrough read_block_stmt read_if_stmt read_header_type_switch read_type_switch read_header_switch read_switch read_select read_endless read_range read_loop read_while read_last_stmt read_more_stmts read_empty_stmt read_no_stmts read_plain_import read_dot_import read_named_import read_last_import read_more_imports read_no_imports read_a_body read_no_body read_declaration read_function read_method_decl read_top_chunk read_package_clause read_import_decl read_import_group mark_at word_at name_at text_at front_at trail_at selector_at label_at defined_at
no-one_for_semicolon = refl

-- { if a {} else }
pub no-else_alone : (row (m mark.LeftBrace 0 ∷ k word.If 1 ∷ id 2 ∷ m mark.LeftBrace 3 ∷ m mark.RightBrace 4 ∷ k word.Else 5 ∷ m mark.RightBrace 6 ∷ [])).block ≡ None
unfolding rows idents_step type_name_step type_step unnamed_step named_params_step params_step signature_step tag_step field_step fields_step member_step members_step literal_step selected_step block_step received_step head_step bound_step args_step suffix_step suffixes_step primary_step unary_step expr_step operand_step operands_step value_step element_step elements_step exprs_step simple_step const_spec_step const_specs_step type_spec_step type_specs_step var_spec_step var_specs_step decl_step values_step target_step arms_step arm_step tag_value_step guard_step clauses_step types_step type_clauses_step comm_step comm_clauses_step header_step condition_step post_step range_left_step stmt_step stmts_step import_spec_step import_specs_step body_step top_step chunk_step read_one_name read_more_names read_bare read_qualified read_named read_paren_type read_pointer read_slice read_array read_map_type read_channel read_send_channel read_receive_channel read_function_type read_struct_type read_interface_type read_last_type read_more_types read_last_dots read_last_named_dots read_last_named read_more_named read_no_params read_named_list read_unnamed_list read_results read_result read_plain read_a_tag read_no_tag read_named_field read_embedded_field read_qualified_field read_pointer_field read_last_field read_more_fields read_no_fields read_method read_embedded_interface read_qualified_interface read_last_member read_more_members read_no_members read_values_in_braces read_selected_literal read_braces read_received read_basic_literal read_header_name read_literal_of_selected read_name read_literal_of_name read_paren read_literal_of_type read_composite_type read_counted_literal read_other_type read_function_literal read_lone_function_type read_a_bound read_no_bound read_spread read_last_arg read_more_args read_no_args read_selector read_assertion read_open_slice read_open_full_slice read_index read_slice_expr read_full_slice read_call read_more_suffixes read_no_suffixes read_primary read_bare_primary read_signed read_starred read_receiver read_receive_first read_receive read_operand read_more_operands read_no_operands read_value_expr read_value_literal read_plain_element read_keyed_element read_last_element read_more_elements read_no_elements read_one_expr read_more_exprs read_assign read_define read_expression read_send read_step read_update read_implicit read_untyped read_typed_const read_last_const read_more_consts read_no_consts read_definition read_alias read_last_type_spec read_more_type_specs read_no_type_specs read_var_values read_typed_var read_typed_values read_last_var read_more_vars read_no_vars read_const_decl read_const_group read_type_decl read_type_group read_var_decl read_var_group read_some_values read_no_values read_a_target read_no_target read_last_arm read_more_arms read_last_block read_header_arm read_bare_arm read_empty_arm read_a_tag_value read_no_tag_value read_plain_guard read_named_guard read_a_case read_a_default read_no_clauses read_one_type read_more_cases read_a_type_case read_a_type_default read_no_type_clauses read_comm_assign read_comm_define read_comm_send read_comm_receive read_a_comm read_a_comm_default read_no_comms read_init_header read_no_header read_a_condition read_no_condition read_a_post read_no_post read_range_assign read_range_define read_no_range_left read_simple_stmt read_declaration_stmt read_bare_label read_labeled read_go read_defer read_return read_break read_continue read_goto read_fallthrough read_block_stmt read_if_stmt read_header_type_switch read_type_switch read_header_switch read_switch read_select read_endless read_range read_loop read_while read_last_stmt read_more_stmts read_empty_stmt read_no_stmts read_plain_import read_dot_import read_named_import read_last_import read_more_imports read_no_imports read_a_body read_no_body read_declaration read_function read_method_decl read_top_chunk read_package_clause read_import_decl read_import_group mark_at word_at name_at text_at front_at trail_at selector_at label_at defined_at
no-else_alone = refl

-- import p;
pub no-import_without_path : (row (k word.Import 0 ∷ id 1 ∷ m mark.Semicolon 2 ∷ [])).chunk ≡ None
unfolding rows idents_step type_name_step type_step unnamed_step named_params_step params_step signature_step tag_step field_step fields_step member_step members_step literal_step selected_step block_step received_step head_step bound_step args_step suffix_step suffixes_step primary_step unary_step expr_step operand_step operands_step value_step element_step elements_step exprs_step simple_step const_spec_step const_specs_step type_spec_step type_specs_step var_spec_step var_specs_step decl_step values_step target_step arms_step arm_step tag_value_step guard_step clauses_step types_step type_clauses_step comm_step comm_clauses_step header_step condition_step post_step range_left_step stmt_step stmts_step import_spec_step import_specs_step body_step top_step chunk_step read_one_name read_more_names read_bare read_qualified read_named read_paren_type read_pointer read_slice read_array read_map_type read_channel read_send_channel read_receive_channel read_function_type read_struct_type read_interface_type read_last_type read_more_types read_last_dots read_last_named_dots read_last_named read_more_named read_no_params read_named_list read_unnamed_list read_results read_result read_plain read_a_tag read_no_tag read_named_field read_embedded_field read_qualified_field read_pointer_field read_last_field read_more_fields read_no_fields read_method read_embedded_interface read_qualified_interface read_last_member read_more_members read_no_members read_values_in_braces read_selected_literal read_braces read_received read_basic_literal read_header_name read_literal_of_selected read_name read_literal_of_name read_paren read_literal_of_type read_composite_type read_counted_literal read_other_type read_function_literal read_lone_function_type read_a_bound read_no_bound read_spread read_last_arg read_more_args read_no_args read_selector read_assertion read_open_slice read_open_full_slice read_index read_slice_expr read_full_slice read_call read_more_suffixes read_no_suffixes read_primary read_bare_primary read_signed read_starred read_receiver read_receive_first read_receive read_operand read_more_operands read_no_operands read_value_expr read_value_literal read_plain_element read_keyed_element read_last_element read_more_elements read_no_elements read_one_expr read_more_exprs read_assign read_define read_expression read_send read_step read_update read_implicit read_untyped read_typed_const read_last_const read_more_consts read_no_consts read_definition read_alias read_last_type_spec read_more_type_specs read_no_type_specs read_var_values read_typed_var read_typed_values read_last_var read_more_vars read_no_vars read_const_decl read_const_group read_type_decl read_type_group read_var_decl read_var_group read_some_values read_no_values read_a_target read_no_target read_last_arm read_more_arms read_last_block read_header_arm read_bare_arm read_empty_arm read_a_tag_value read_no_tag_value read_plain_guard read_named_guard read_a_case read_a_default read_no_clauses read_one_type read_more_cases read_a_type_case read_a_type_default read_no_type_clauses read_comm_assign read_comm_define read_comm_send read_comm_receive read_a_comm read_a_comm_default read_no_comms read_init_header read_no_header read_a_condition read_no_condition read_a_post read_no_post read_range_assign read_range_define read_no_range_left read_simple_stmt read_declaration_stmt read_bare_label read_labeled read_go read_defer read_return read_break read_continue read_goto read_fallthrough read_block_stmt read_if_stmt read_header_type_switch read_type_switch read_header_switch read_switch read_select read_endless read_range read_loop read_while read_last_stmt read_more_stmts read_empty_stmt read_no_stmts read_plain_import read_dot_import read_named_import read_last_import read_more_imports read_no_imports read_a_body read_no_body read_declaration read_function read_method_decl read_top_chunk read_package_clause read_import_decl read_import_group mark_at word_at name_at text_at front_at trail_at selector_at label_at defined_at
no-import_without_path = refl
