-- Readings of some texts, by computation: where two readings compete, and forms that lie close together.
use Rattle.std.proofs.Common.{◌≡◌, ℕ, true, false, [], ◌∷◌, refl, Some, None}
use Rattle.gs_syntax.specs.declared.token.Span.{Span}
use Rattle.gs_syntax.specs.declared.token.Token.{Token}
use Rattle.gs_syntax.specs.declared.token.Operator.TheVariants as mark
use Rattle.gs_syntax.specs.declared.token.Keyword.TheVariants as word
use Rattle.gs_grammar.specs.declared.trees.Chunk.TheVariants as ch
use Rattle.gs_grammar.specs.declared.trees.Top.TheVariants as tp
use Rattle.gs_grammar.specs.declared.trees.TypeExpr.TheVariants as ty
use Rattle.gs_grammar.specs.declared.trees.Signature.TheVariants as sg
use Rattle.gs_grammar.specs.declared.trees.Parameter.TheVariants as pa
use Rattle.gs_grammar.specs.declared.trees.Member.TheVariants as me
use Rattle.gs_grammar.specs.declared.trees.Expr.TheVariants as ex
use Rattle.gs_grammar.specs.declared.trees.Suffix.TheVariants as sf
use Rattle.gs_grammar.specs.declared.trees.Element.TheVariants as el
use Rattle.gs_grammar.specs.declared.trees.ElementValue.TheVariants as ev
use Rattle.gs_grammar.specs.declared.trees.Stmt.TheVariants as st
use Rattle.gs_grammar.specs.declared.trees.Simple.TheVariants as si
use Rattle.gs_grammar.specs.declared.trees.CommClause.TheVariants as co
use Rattle.gs_grammar.specs.declared.trees.Comm.TheVariants as cm
use Rattle.gs_syntax.specs.declared.token.TokenKind.TheVariants as kind
use Rattle.gs_syntax.specs.declared.token.Operator.{Operator}
use Rattle.gs_syntax.specs.declared.token.Keyword.{Keyword}
use Rattle.gs_grammar.specs.Front.{token, operator, keyword, identifier, mark_at, word_at, name_at, text_at, front_at, trail_at, selector_at, label_at, defined_at}
use Rattle.gs_grammar.specs.Parts.{found, make_parameters, make_literal, make_block, make_arm}
use Rattle.gs_grammar.specs.Reference.{rows, row, idents_step, type_name_step, type_step, unnamed_step, named_params_step, params_step, signature_step, tag_step, field_step, fields_step, member_step, members_step, literal_step, selected_step, block_step, received_step, head_step, bound_step, args_step, suffix_step, suffixes_step, primary_step, unary_step, expr_step, operand_step, operands_step, value_step, element_step, elements_step, exprs_step, simple_step, const_spec_step, const_specs_step, type_spec_step, type_specs_step, var_spec_step, var_specs_step, decl_step, values_step, target_step, arms_step, arm_step, tag_value_step, guard_step, clauses_step, types_step, type_clauses_step, comm_step, comm_clauses_step, header_step, condition_step, post_step, range_left_step, stmt_step, stmts_step, import_spec_step, import_specs_step, body_step, top_step, chunk_step, read_one_name, read_more_names, read_bare, read_qualified, read_named, read_paren_type, read_pointer, read_slice, read_array, read_map_type, read_channel, read_send_channel, read_receive_channel, read_function_type, read_struct_type, read_interface_type, read_last_type, read_more_types, read_last_dots, read_last_named_dots, read_last_named, read_more_named, read_no_params, read_named_list, read_unnamed_list, read_results, read_result, read_plain, read_a_tag, read_no_tag, read_named_field, read_embedded_field, read_qualified_field, read_pointer_field, read_last_field, read_more_fields, read_no_fields, read_method, read_embedded_interface, read_qualified_interface, read_last_member, read_more_members, read_no_members, read_values_in_braces, read_selected_literal, read_braces, read_received, read_basic_literal, read_header_name, read_literal_of_selected, read_name, read_literal_of_name, read_paren, read_literal_of_type, read_composite_type, read_counted_literal, read_other_type, read_function_literal, read_lone_function_type, read_a_bound, read_no_bound, read_spread, read_last_arg, read_more_args, read_no_args, read_selector, read_assertion, read_open_slice, read_open_full_slice, read_index, read_slice_expr, read_full_slice, read_call, read_more_suffixes, read_no_suffixes, read_primary, read_bare_primary, read_signed, read_starred, read_receiver, read_receive_first, read_receive, read_operand, read_more_operands, read_no_operands, read_value_expr, read_value_literal, read_plain_element, read_keyed_element, read_last_element, read_more_elements, read_no_elements, read_one_expr, read_more_exprs, read_assign, read_define, read_expression, read_send, read_step, read_update, read_implicit, read_untyped, read_typed_const, read_last_const, read_more_consts, read_no_consts, read_definition, read_alias, read_last_type_spec, read_more_type_specs, read_no_type_specs, read_var_values, read_typed_var, read_typed_values, read_last_var, read_more_vars, read_no_vars, read_const_decl, read_const_group, read_type_decl, read_type_group, read_var_decl, read_var_group, read_some_values, read_no_values, read_a_target, read_no_target, read_last_arm, read_more_arms, read_last_block, read_header_arm, read_bare_arm, read_empty_arm, read_a_tag_value, read_no_tag_value, read_plain_guard, read_named_guard, read_a_case, read_a_default, read_no_clauses, read_one_type, read_more_cases, read_a_type_case, read_a_type_default, read_no_type_clauses, read_comm_assign, read_comm_define, read_comm_send, read_comm_receive, read_a_comm, read_a_comm_default, read_no_comms, read_init_header, read_no_header, read_a_condition, read_no_condition, read_a_post, read_no_post, read_range_assign, read_range_define, read_no_range_left, read_simple_stmt, read_declaration_stmt, read_bare_label, read_labeled, read_go, read_defer, read_return, read_break, read_continue, read_goto, read_fallthrough, read_block_stmt, read_if_stmt, read_header_type_switch, read_type_switch, read_header_switch, read_switch, read_select, read_endless, read_range, read_loop, read_while, read_last_stmt, read_more_stmts, read_empty_stmt, read_no_stmts, read_plain_import, read_dot_import, read_named_import, read_last_import, read_more_imports, read_no_imports, read_a_body, read_no_body, read_declaration, read_function, read_method_decl, read_top_chunk, read_package_clause, read_import_decl, read_import_group}

abbrev at : ℕ → Span
at i = record { offset = i; length = 1 }

abbrev m : Operator → ℕ → Token
m o i = operator o (at i)

abbrev k : Keyword → ℕ → Token
k w i = keyword w (at i)

abbrev id : ℕ → Token
id i = identifier (i ∷ []) (at i)

abbrev num : ℕ → Token
num i = token (kind.Integer None) (at i)

-- T(x)
pub call : (row (id 0 ∷ m mark.LeftParen 1 ∷ id 2 ∷ m mark.RightParen 3 ∷ [])).expr 5 false false ≡ Some (found (ex.Suffixed (ex.Name (id 0)) (sf.Call ((ex.Name (id 2)) ∷ []) None (at 3) ∷ [])) ([]) 1)
unfolding rows idents_step type_name_step type_step unnamed_step named_params_step params_step signature_step tag_step field_step fields_step member_step members_step literal_step selected_step block_step received_step head_step bound_step args_step suffix_step suffixes_step primary_step unary_step expr_step operand_step operands_step value_step element_step elements_step exprs_step simple_step const_spec_step const_specs_step type_spec_step type_specs_step var_spec_step var_specs_step decl_step values_step target_step arms_step arm_step tag_value_step guard_step clauses_step types_step type_clauses_step comm_step comm_clauses_step header_step condition_step post_step range_left_step stmt_step stmts_step import_spec_step import_specs_step body_step top_step chunk_step read_one_name read_more_names read_bare read_qualified read_named read_paren_type read_pointer read_slice read_array read_map_type read_channel read_send_channel read_receive_channel read_function_type read_struct_type read_interface_type read_last_type read_more_types read_last_dots read_last_named_dots read_last_named read_more_named read_no_params read_named_list read_unnamed_list read_results read_result read_plain read_a_tag read_no_tag read_named_field read_embedded_field read_qualified_field read_pointer_field read_last_field read_more_fields read_no_fields read_method read_embedded_interface read_qualified_interface read_last_member read_more_members read_no_members read_values_in_braces read_selected_literal read_braces read_received read_basic_literal read_header_name read_literal_of_selected read_name read_literal_of_name read_paren read_literal_of_type read_composite_type read_counted_literal read_other_type read_function_literal read_lone_function_type read_a_bound read_no_bound read_spread read_last_arg read_more_args read_no_args read_selector read_assertion read_open_slice read_open_full_slice read_index read_slice_expr read_full_slice read_call read_more_suffixes read_no_suffixes read_primary read_bare_primary read_signed read_starred read_receiver read_receive_first read_receive read_operand read_more_operands read_no_operands read_value_expr read_value_literal read_plain_element read_keyed_element read_last_element read_more_elements read_no_elements read_one_expr read_more_exprs read_assign read_define read_expression read_send read_step read_update read_implicit read_untyped read_typed_const read_last_const read_more_consts read_no_consts read_definition read_alias read_last_type_spec read_more_type_specs read_no_type_specs read_var_values read_typed_var read_typed_values read_last_var read_more_vars read_no_vars read_const_decl read_const_group read_type_decl read_type_group read_var_decl read_var_group read_some_values read_no_values read_a_target read_no_target read_last_arm read_more_arms read_last_block read_header_arm read_bare_arm read_empty_arm read_a_tag_value read_no_tag_value read_plain_guard read_named_guard read_a_case read_a_default read_no_clauses read_one_type read_more_cases read_a_type_case read_a_type_default read_no_type_clauses read_comm_assign read_comm_define read_comm_send read_comm_receive read_a_comm read_a_comm_default read_no_comms read_init_header read_no_header read_a_condition read_no_condition read_a_post read_no_post read_range_assign read_range_define read_no_range_left read_simple_stmt read_declaration_stmt read_bare_label read_labeled read_go read_defer read_return read_break read_continue read_goto read_fallthrough read_block_stmt read_if_stmt read_header_type_switch read_type_switch read_header_switch read_switch read_select read_endless read_range read_loop read_while read_last_stmt read_more_stmts read_empty_stmt read_no_stmts read_plain_import read_dot_import read_named_import read_last_import read_more_imports read_no_imports read_a_body read_no_body read_declaration read_function read_method_decl read_top_chunk read_package_clause read_import_decl read_import_group mark_at word_at name_at text_at front_at trail_at selector_at label_at defined_at
call = refl

-- (T)(x)
pub conversion : (row (m mark.LeftParen 0 ∷ id 1 ∷ m mark.RightParen 2 ∷ m mark.LeftParen 3 ∷ id 4 ∷ m mark.RightParen 5 ∷ [])).expr 5 false false ≡ Some (found (ex.Suffixed (ex.Paren (at 0) (ex.Name (id 1)) (at 2)) (sf.Call ((ex.Name (id 4)) ∷ []) None (at 5) ∷ [])) ([]) 1)
unfolding rows idents_step type_name_step type_step unnamed_step named_params_step params_step signature_step tag_step field_step fields_step member_step members_step literal_step selected_step block_step received_step head_step bound_step args_step suffix_step suffixes_step primary_step unary_step expr_step operand_step operands_step value_step element_step elements_step exprs_step simple_step const_spec_step const_specs_step type_spec_step type_specs_step var_spec_step var_specs_step decl_step values_step target_step arms_step arm_step tag_value_step guard_step clauses_step types_step type_clauses_step comm_step comm_clauses_step header_step condition_step post_step range_left_step stmt_step stmts_step import_spec_step import_specs_step body_step top_step chunk_step read_one_name read_more_names read_bare read_qualified read_named read_paren_type read_pointer read_slice read_array read_map_type read_channel read_send_channel read_receive_channel read_function_type read_struct_type read_interface_type read_last_type read_more_types read_last_dots read_last_named_dots read_last_named read_more_named read_no_params read_named_list read_unnamed_list read_results read_result read_plain read_a_tag read_no_tag read_named_field read_embedded_field read_qualified_field read_pointer_field read_last_field read_more_fields read_no_fields read_method read_embedded_interface read_qualified_interface read_last_member read_more_members read_no_members read_values_in_braces read_selected_literal read_braces read_received read_basic_literal read_header_name read_literal_of_selected read_name read_literal_of_name read_paren read_literal_of_type read_composite_type read_counted_literal read_other_type read_function_literal read_lone_function_type read_a_bound read_no_bound read_spread read_last_arg read_more_args read_no_args read_selector read_assertion read_open_slice read_open_full_slice read_index read_slice_expr read_full_slice read_call read_more_suffixes read_no_suffixes read_primary read_bare_primary read_signed read_starred read_receiver read_receive_first read_receive read_operand read_more_operands read_no_operands read_value_expr read_value_literal read_plain_element read_keyed_element read_last_element read_more_elements read_no_elements read_one_expr read_more_exprs read_assign read_define read_expression read_send read_step read_update read_implicit read_untyped read_typed_const read_last_const read_more_consts read_no_consts read_definition read_alias read_last_type_spec read_more_type_specs read_no_type_specs read_var_values read_typed_var read_typed_values read_last_var read_more_vars read_no_vars read_const_decl read_const_group read_type_decl read_type_group read_var_decl read_var_group read_some_values read_no_values read_a_target read_no_target read_last_arm read_more_arms read_last_block read_header_arm read_bare_arm read_empty_arm read_a_tag_value read_no_tag_value read_plain_guard read_named_guard read_a_case read_a_default read_no_clauses read_one_type read_more_cases read_a_type_case read_a_type_default read_no_type_clauses read_comm_assign read_comm_define read_comm_send read_comm_receive read_a_comm read_a_comm_default read_no_comms read_init_header read_no_header read_a_condition read_no_condition read_a_post read_no_post read_range_assign read_range_define read_no_range_left read_simple_stmt read_declaration_stmt read_bare_label read_labeled read_go read_defer read_return read_break read_continue read_goto read_fallthrough read_block_stmt read_if_stmt read_header_type_switch read_type_switch read_header_switch read_switch read_select read_endless read_range read_loop read_while read_last_stmt read_more_stmts read_empty_stmt read_no_stmts read_plain_import read_dot_import read_named_import read_last_import read_more_imports read_no_imports read_a_body read_no_body read_declaration read_function read_method_decl read_top_chunk read_package_clause read_import_decl read_import_group mark_at word_at name_at text_at front_at trail_at selector_at label_at defined_at
conversion = refl

-- f(<-chan int): a type
pub type_argument : (row (id 0 ∷ m mark.LeftParen 1 ∷ m mark.Arrow 2 ∷ k word.Chan 3 ∷ id 4 ∷ m mark.RightParen 5 ∷ [])).expr 5 false false ≡ Some (found (ex.Suffixed (ex.Name (id 0)) (sf.Call (ex.Type (ty.ReceiveChannel (at 2) (ty.Name (id 4))) ∷ []) None (at 5) ∷ [])) ([]) 2)
unfolding rows idents_step type_name_step type_step unnamed_step named_params_step params_step signature_step tag_step field_step fields_step member_step members_step literal_step selected_step block_step received_step head_step bound_step args_step suffix_step suffixes_step primary_step unary_step expr_step operand_step operands_step value_step element_step elements_step exprs_step simple_step const_spec_step const_specs_step type_spec_step type_specs_step var_spec_step var_specs_step decl_step values_step target_step arms_step arm_step tag_value_step guard_step clauses_step types_step type_clauses_step comm_step comm_clauses_step header_step condition_step post_step range_left_step stmt_step stmts_step import_spec_step import_specs_step body_step top_step chunk_step read_one_name read_more_names read_bare read_qualified read_named read_paren_type read_pointer read_slice read_array read_map_type read_channel read_send_channel read_receive_channel read_function_type read_struct_type read_interface_type read_last_type read_more_types read_last_dots read_last_named_dots read_last_named read_more_named read_no_params read_named_list read_unnamed_list read_results read_result read_plain read_a_tag read_no_tag read_named_field read_embedded_field read_qualified_field read_pointer_field read_last_field read_more_fields read_no_fields read_method read_embedded_interface read_qualified_interface read_last_member read_more_members read_no_members read_values_in_braces read_selected_literal read_braces read_received read_basic_literal read_header_name read_literal_of_selected read_name read_literal_of_name read_paren read_literal_of_type read_composite_type read_counted_literal read_other_type read_function_literal read_lone_function_type read_a_bound read_no_bound read_spread read_last_arg read_more_args read_no_args read_selector read_assertion read_open_slice read_open_full_slice read_index read_slice_expr read_full_slice read_call read_more_suffixes read_no_suffixes read_primary read_bare_primary read_signed read_starred read_receiver read_receive_first read_receive read_operand read_more_operands read_no_operands read_value_expr read_value_literal read_plain_element read_keyed_element read_last_element read_more_elements read_no_elements read_one_expr read_more_exprs read_assign read_define read_expression read_send read_step read_update read_implicit read_untyped read_typed_const read_last_const read_more_consts read_no_consts read_definition read_alias read_last_type_spec read_more_type_specs read_no_type_specs read_var_values read_typed_var read_typed_values read_last_var read_more_vars read_no_vars read_const_decl read_const_group read_type_decl read_type_group read_var_decl read_var_group read_some_values read_no_values read_a_target read_no_target read_last_arm read_more_arms read_last_block read_header_arm read_bare_arm read_empty_arm read_a_tag_value read_no_tag_value read_plain_guard read_named_guard read_a_case read_a_default read_no_clauses read_one_type read_more_cases read_a_type_case read_a_type_default read_no_type_clauses read_comm_assign read_comm_define read_comm_send read_comm_receive read_a_comm read_a_comm_default read_no_comms read_init_header read_no_header read_a_condition read_no_condition read_a_post read_no_post read_range_assign read_range_define read_no_range_left read_simple_stmt read_declaration_stmt read_bare_label read_labeled read_go read_defer read_return read_break read_continue read_goto read_fallthrough read_block_stmt read_if_stmt read_header_type_switch read_type_switch read_header_switch read_switch read_select read_endless read_range read_loop read_while read_last_stmt read_more_stmts read_empty_stmt read_no_stmts read_plain_import read_dot_import read_named_import read_last_import read_more_imports read_no_imports read_a_body read_no_body read_declaration read_function read_method_decl read_top_chunk read_package_clause read_import_decl read_import_group mark_at word_at name_at text_at front_at trail_at selector_at label_at defined_at
type_argument = refl

-- f(<-chan int(c)): receives from a conversion
pub received_argument : (row (id 0 ∷ m mark.LeftParen 1 ∷ m mark.Arrow 2 ∷ k word.Chan 3 ∷ id 4 ∷ m mark.LeftParen 5 ∷ id 6 ∷ m mark.RightParen 7 ∷ m mark.RightParen 8 ∷ [])).expr 5 false false ≡ Some (found (ex.Suffixed (ex.Name (id 0)) (sf.Call (ex.Prefixed (m mark.Arrow 2) (ex.Suffixed (ex.Type (ty.Channel (at 3) (ty.Name (id 4)))) (sf.Call ((ex.Name (id 6)) ∷ []) None (at 7) ∷ [])) ∷ []) None (at 8) ∷ [])) ([]) 3)
unfolding rows idents_step type_name_step type_step unnamed_step named_params_step params_step signature_step tag_step field_step fields_step member_step members_step literal_step selected_step block_step received_step head_step bound_step args_step suffix_step suffixes_step primary_step unary_step expr_step operand_step operands_step value_step element_step elements_step exprs_step simple_step const_spec_step const_specs_step type_spec_step type_specs_step var_spec_step var_specs_step decl_step values_step target_step arms_step arm_step tag_value_step guard_step clauses_step types_step type_clauses_step comm_step comm_clauses_step header_step condition_step post_step range_left_step stmt_step stmts_step import_spec_step import_specs_step body_step top_step chunk_step read_one_name read_more_names read_bare read_qualified read_named read_paren_type read_pointer read_slice read_array read_map_type read_channel read_send_channel read_receive_channel read_function_type read_struct_type read_interface_type read_last_type read_more_types read_last_dots read_last_named_dots read_last_named read_more_named read_no_params read_named_list read_unnamed_list read_results read_result read_plain read_a_tag read_no_tag read_named_field read_embedded_field read_qualified_field read_pointer_field read_last_field read_more_fields read_no_fields read_method read_embedded_interface read_qualified_interface read_last_member read_more_members read_no_members read_values_in_braces read_selected_literal read_braces read_received read_basic_literal read_header_name read_literal_of_selected read_name read_literal_of_name read_paren read_literal_of_type read_composite_type read_counted_literal read_other_type read_function_literal read_lone_function_type read_a_bound read_no_bound read_spread read_last_arg read_more_args read_no_args read_selector read_assertion read_open_slice read_open_full_slice read_index read_slice_expr read_full_slice read_call read_more_suffixes read_no_suffixes read_primary read_bare_primary read_signed read_starred read_receiver read_receive_first read_receive read_operand read_more_operands read_no_operands read_value_expr read_value_literal read_plain_element read_keyed_element read_last_element read_more_elements read_no_elements read_one_expr read_more_exprs read_assign read_define read_expression read_send read_step read_update read_implicit read_untyped read_typed_const read_last_const read_more_consts read_no_consts read_definition read_alias read_last_type_spec read_more_type_specs read_no_type_specs read_var_values read_typed_var read_typed_values read_last_var read_more_vars read_no_vars read_const_decl read_const_group read_type_decl read_type_group read_var_decl read_var_group read_some_values read_no_values read_a_target read_no_target read_last_arm read_more_arms read_last_block read_header_arm read_bare_arm read_empty_arm read_a_tag_value read_no_tag_value read_plain_guard read_named_guard read_a_case read_a_default read_no_clauses read_one_type read_more_cases read_a_type_case read_a_type_default read_no_type_clauses read_comm_assign read_comm_define read_comm_send read_comm_receive read_a_comm read_a_comm_default read_no_comms read_init_header read_no_header read_a_condition read_no_condition read_a_post read_no_post read_range_assign read_range_define read_no_range_left read_simple_stmt read_declaration_stmt read_bare_label read_labeled read_go read_defer read_return read_break read_continue read_goto read_fallthrough read_block_stmt read_if_stmt read_header_type_switch read_type_switch read_header_switch read_switch read_select read_endless read_range read_loop read_while read_last_stmt read_more_stmts read_empty_stmt read_no_stmts read_plain_import read_dot_import read_named_import read_last_import read_more_imports read_no_imports read_a_body read_no_body read_declaration read_function read_method_decl read_top_chunk read_package_clause read_import_decl read_import_group mark_at word_at name_at text_at front_at trail_at selector_at label_at defined_at
received_argument = refl

-- (<-chan int)(c)
pub channel_conversion : (row (m mark.LeftParen 0 ∷ m mark.Arrow 1 ∷ k word.Chan 2 ∷ id 3 ∷ m mark.RightParen 4 ∷ m mark.LeftParen 5 ∷ id 6 ∷ m mark.RightParen 7 ∷ [])).expr 5 false false ≡ Some (found (ex.Suffixed (ex.Paren (at 0) (ex.Type (ty.ReceiveChannel (at 1) (ty.Name (id 3)))) (at 4)) (sf.Call ((ex.Name (id 6)) ∷ []) None (at 7) ∷ [])) ([]) 2)
unfolding rows idents_step type_name_step type_step unnamed_step named_params_step params_step signature_step tag_step field_step fields_step member_step members_step literal_step selected_step block_step received_step head_step bound_step args_step suffix_step suffixes_step primary_step unary_step expr_step operand_step operands_step value_step element_step elements_step exprs_step simple_step const_spec_step const_specs_step type_spec_step type_specs_step var_spec_step var_specs_step decl_step values_step target_step arms_step arm_step tag_value_step guard_step clauses_step types_step type_clauses_step comm_step comm_clauses_step header_step condition_step post_step range_left_step stmt_step stmts_step import_spec_step import_specs_step body_step top_step chunk_step read_one_name read_more_names read_bare read_qualified read_named read_paren_type read_pointer read_slice read_array read_map_type read_channel read_send_channel read_receive_channel read_function_type read_struct_type read_interface_type read_last_type read_more_types read_last_dots read_last_named_dots read_last_named read_more_named read_no_params read_named_list read_unnamed_list read_results read_result read_plain read_a_tag read_no_tag read_named_field read_embedded_field read_qualified_field read_pointer_field read_last_field read_more_fields read_no_fields read_method read_embedded_interface read_qualified_interface read_last_member read_more_members read_no_members read_values_in_braces read_selected_literal read_braces read_received read_basic_literal read_header_name read_literal_of_selected read_name read_literal_of_name read_paren read_literal_of_type read_composite_type read_counted_literal read_other_type read_function_literal read_lone_function_type read_a_bound read_no_bound read_spread read_last_arg read_more_args read_no_args read_selector read_assertion read_open_slice read_open_full_slice read_index read_slice_expr read_full_slice read_call read_more_suffixes read_no_suffixes read_primary read_bare_primary read_signed read_starred read_receiver read_receive_first read_receive read_operand read_more_operands read_no_operands read_value_expr read_value_literal read_plain_element read_keyed_element read_last_element read_more_elements read_no_elements read_one_expr read_more_exprs read_assign read_define read_expression read_send read_step read_update read_implicit read_untyped read_typed_const read_last_const read_more_consts read_no_consts read_definition read_alias read_last_type_spec read_more_type_specs read_no_type_specs read_var_values read_typed_var read_typed_values read_last_var read_more_vars read_no_vars read_const_decl read_const_group read_type_decl read_type_group read_var_decl read_var_group read_some_values read_no_values read_a_target read_no_target read_last_arm read_more_arms read_last_block read_header_arm read_bare_arm read_empty_arm read_a_tag_value read_no_tag_value read_plain_guard read_named_guard read_a_case read_a_default read_no_clauses read_one_type read_more_cases read_a_type_case read_a_type_default read_no_type_clauses read_comm_assign read_comm_define read_comm_send read_comm_receive read_a_comm read_a_comm_default read_no_comms read_init_header read_no_header read_a_condition read_no_condition read_a_post read_no_post read_range_assign read_range_define read_no_range_left read_simple_stmt read_declaration_stmt read_bare_label read_labeled read_go read_defer read_return read_break read_continue read_goto read_fallthrough read_block_stmt read_if_stmt read_header_type_switch read_type_switch read_header_switch read_switch read_select read_endless read_range read_loop read_while read_last_stmt read_more_stmts read_empty_stmt read_no_stmts read_plain_import read_dot_import read_named_import read_last_import read_more_imports read_no_imports read_a_body read_no_body read_declaration read_function read_method_decl read_top_chunk read_package_clause read_import_decl read_import_group mark_at word_at name_at text_at front_at trail_at selector_at label_at defined_at
channel_conversion = refl

-- if x == (T{}) {: in a header a literal stands in parentheses
pub header_literal : (row (id 0 ∷ m mark.Equal 1 ∷ m mark.LeftParen 2 ∷ id 3 ∷ m mark.LeftBrace 4 ∷ m mark.RightBrace 5 ∷ m mark.RightParen 6 ∷ m mark.LeftBrace 7 ∷ [])).expr 5 true false ≡ Some (found (ex.Binary (ex.Name (id 0)) ((m mark.Equal 1, ex.Paren (at 2) (ex.Composite (ty.Name (id 3)) (make_literal (at 4) [] (at 5))) (at 6)) ∷ [])) (m mark.LeftBrace 7 ∷ []) 2)
unfolding rows idents_step type_name_step type_step unnamed_step named_params_step params_step signature_step tag_step field_step fields_step member_step members_step literal_step selected_step block_step received_step head_step bound_step args_step suffix_step suffixes_step primary_step unary_step expr_step operand_step operands_step value_step element_step elements_step exprs_step simple_step const_spec_step const_specs_step type_spec_step type_specs_step var_spec_step var_specs_step decl_step values_step target_step arms_step arm_step tag_value_step guard_step clauses_step types_step type_clauses_step comm_step comm_clauses_step header_step condition_step post_step range_left_step stmt_step stmts_step import_spec_step import_specs_step body_step top_step chunk_step read_one_name read_more_names read_bare read_qualified read_named read_paren_type read_pointer read_slice read_array read_map_type read_channel read_send_channel read_receive_channel read_function_type read_struct_type read_interface_type read_last_type read_more_types read_last_dots read_last_named_dots read_last_named read_more_named read_no_params read_named_list read_unnamed_list read_results read_result read_plain read_a_tag read_no_tag read_named_field read_embedded_field read_qualified_field read_pointer_field read_last_field read_more_fields read_no_fields read_method read_embedded_interface read_qualified_interface read_last_member read_more_members read_no_members read_values_in_braces read_selected_literal read_braces read_received read_basic_literal read_header_name read_literal_of_selected read_name read_literal_of_name read_paren read_literal_of_type read_composite_type read_counted_literal read_other_type read_function_literal read_lone_function_type read_a_bound read_no_bound read_spread read_last_arg read_more_args read_no_args read_selector read_assertion read_open_slice read_open_full_slice read_index read_slice_expr read_full_slice read_call read_more_suffixes read_no_suffixes read_primary read_bare_primary read_signed read_starred read_receiver read_receive_first read_receive read_operand read_more_operands read_no_operands read_value_expr read_value_literal read_plain_element read_keyed_element read_last_element read_more_elements read_no_elements read_one_expr read_more_exprs read_assign read_define read_expression read_send read_step read_update read_implicit read_untyped read_typed_const read_last_const read_more_consts read_no_consts read_definition read_alias read_last_type_spec read_more_type_specs read_no_type_specs read_var_values read_typed_var read_typed_values read_last_var read_more_vars read_no_vars read_const_decl read_const_group read_type_decl read_type_group read_var_decl read_var_group read_some_values read_no_values read_a_target read_no_target read_last_arm read_more_arms read_last_block read_header_arm read_bare_arm read_empty_arm read_a_tag_value read_no_tag_value read_plain_guard read_named_guard read_a_case read_a_default read_no_clauses read_one_type read_more_cases read_a_type_case read_a_type_default read_no_type_clauses read_comm_assign read_comm_define read_comm_send read_comm_receive read_a_comm read_a_comm_default read_no_comms read_init_header read_no_header read_a_condition read_no_condition read_a_post read_no_post read_range_assign read_range_define read_no_range_left read_simple_stmt read_declaration_stmt read_bare_label read_labeled read_go read_defer read_return read_break read_continue read_goto read_fallthrough read_block_stmt read_if_stmt read_header_type_switch read_type_switch read_header_switch read_switch read_select read_endless read_range read_loop read_while read_last_stmt read_more_stmts read_empty_stmt read_no_stmts read_plain_import read_dot_import read_named_import read_last_import read_more_imports read_no_imports read_a_body read_no_body read_declaration read_function read_method_decl read_top_chunk read_package_clause read_import_decl read_import_group mark_at word_at name_at text_at front_at trail_at selector_at label_at defined_at
header_literal = refl

-- for T{} {: in a header a name takes no literal
pub header_name : (row (id 0 ∷ m mark.LeftBrace 1 ∷ m mark.RightBrace 2 ∷ m mark.LeftBrace 3 ∷ [])).expr 5 true false ≡ Some (found ((ex.Name (id 0))) (m mark.LeftBrace 1 ∷ m mark.RightBrace 2 ∷ m mark.LeftBrace 3 ∷ []) 0)
unfolding rows idents_step type_name_step type_step unnamed_step named_params_step params_step signature_step tag_step field_step fields_step member_step members_step literal_step selected_step block_step received_step head_step bound_step args_step suffix_step suffixes_step primary_step unary_step expr_step operand_step operands_step value_step element_step elements_step exprs_step simple_step const_spec_step const_specs_step type_spec_step type_specs_step var_spec_step var_specs_step decl_step values_step target_step arms_step arm_step tag_value_step guard_step clauses_step types_step type_clauses_step comm_step comm_clauses_step header_step condition_step post_step range_left_step stmt_step stmts_step import_spec_step import_specs_step body_step top_step chunk_step read_one_name read_more_names read_bare read_qualified read_named read_paren_type read_pointer read_slice read_array read_map_type read_channel read_send_channel read_receive_channel read_function_type read_struct_type read_interface_type read_last_type read_more_types read_last_dots read_last_named_dots read_last_named read_more_named read_no_params read_named_list read_unnamed_list read_results read_result read_plain read_a_tag read_no_tag read_named_field read_embedded_field read_qualified_field read_pointer_field read_last_field read_more_fields read_no_fields read_method read_embedded_interface read_qualified_interface read_last_member read_more_members read_no_members read_values_in_braces read_selected_literal read_braces read_received read_basic_literal read_header_name read_literal_of_selected read_name read_literal_of_name read_paren read_literal_of_type read_composite_type read_counted_literal read_other_type read_function_literal read_lone_function_type read_a_bound read_no_bound read_spread read_last_arg read_more_args read_no_args read_selector read_assertion read_open_slice read_open_full_slice read_index read_slice_expr read_full_slice read_call read_more_suffixes read_no_suffixes read_primary read_bare_primary read_signed read_starred read_receiver read_receive_first read_receive read_operand read_more_operands read_no_operands read_value_expr read_value_literal read_plain_element read_keyed_element read_last_element read_more_elements read_no_elements read_one_expr read_more_exprs read_assign read_define read_expression read_send read_step read_update read_implicit read_untyped read_typed_const read_last_const read_more_consts read_no_consts read_definition read_alias read_last_type_spec read_more_type_specs read_no_type_specs read_var_values read_typed_var read_typed_values read_last_var read_more_vars read_no_vars read_const_decl read_const_group read_type_decl read_type_group read_var_decl read_var_group read_some_values read_no_values read_a_target read_no_target read_last_arm read_more_arms read_last_block read_header_arm read_bare_arm read_empty_arm read_a_tag_value read_no_tag_value read_plain_guard read_named_guard read_a_case read_a_default read_no_clauses read_one_type read_more_cases read_a_type_case read_a_type_default read_no_type_clauses read_comm_assign read_comm_define read_comm_send read_comm_receive read_a_comm read_a_comm_default read_no_comms read_init_header read_no_header read_a_condition read_no_condition read_a_post read_no_post read_range_assign read_range_define read_no_range_left read_simple_stmt read_declaration_stmt read_bare_label read_labeled read_go read_defer read_return read_break read_continue read_goto read_fallthrough read_block_stmt read_if_stmt read_header_type_switch read_type_switch read_header_switch read_switch read_select read_endless read_range read_loop read_while read_last_stmt read_more_stmts read_empty_stmt read_no_stmts read_plain_import read_dot_import read_named_import read_last_import read_more_imports read_no_imports read_a_body read_no_body read_declaration read_function read_method_decl read_top_chunk read_package_clause read_import_decl read_import_group mark_at word_at name_at text_at front_at trail_at selector_at label_at defined_at
header_name = refl

-- []int{1}[0]
pub indexed_literal : (row (m mark.LeftBracket 0 ∷ m mark.RightBracket 1 ∷ id 2 ∷ m mark.LeftBrace 3 ∷ num 4 ∷ m mark.RightBrace 5 ∷ m mark.LeftBracket 6 ∷ num 7 ∷ m mark.RightBracket 8 ∷ [])).expr 5 false false ≡ Some (found (ex.Suffixed (ex.Composite (ty.Slice (at 0) (ty.Name (id 2))) (make_literal (at 3) (el.Plain (ev.Expr (ex.Literal (num 4))) ∷ []) (at 5))) (sf.Index (ex.Literal (num 7)) (at 8) ∷ [])) ([]) 1)
unfolding rows idents_step type_name_step type_step unnamed_step named_params_step params_step signature_step tag_step field_step fields_step member_step members_step literal_step selected_step block_step received_step head_step bound_step args_step suffix_step suffixes_step primary_step unary_step expr_step operand_step operands_step value_step element_step elements_step exprs_step simple_step const_spec_step const_specs_step type_spec_step type_specs_step var_spec_step var_specs_step decl_step values_step target_step arms_step arm_step tag_value_step guard_step clauses_step types_step type_clauses_step comm_step comm_clauses_step header_step condition_step post_step range_left_step stmt_step stmts_step import_spec_step import_specs_step body_step top_step chunk_step read_one_name read_more_names read_bare read_qualified read_named read_paren_type read_pointer read_slice read_array read_map_type read_channel read_send_channel read_receive_channel read_function_type read_struct_type read_interface_type read_last_type read_more_types read_last_dots read_last_named_dots read_last_named read_more_named read_no_params read_named_list read_unnamed_list read_results read_result read_plain read_a_tag read_no_tag read_named_field read_embedded_field read_qualified_field read_pointer_field read_last_field read_more_fields read_no_fields read_method read_embedded_interface read_qualified_interface read_last_member read_more_members read_no_members read_values_in_braces read_selected_literal read_braces read_received read_basic_literal read_header_name read_literal_of_selected read_name read_literal_of_name read_paren read_literal_of_type read_composite_type read_counted_literal read_other_type read_function_literal read_lone_function_type read_a_bound read_no_bound read_spread read_last_arg read_more_args read_no_args read_selector read_assertion read_open_slice read_open_full_slice read_index read_slice_expr read_full_slice read_call read_more_suffixes read_no_suffixes read_primary read_bare_primary read_signed read_starred read_receiver read_receive_first read_receive read_operand read_more_operands read_no_operands read_value_expr read_value_literal read_plain_element read_keyed_element read_last_element read_more_elements read_no_elements read_one_expr read_more_exprs read_assign read_define read_expression read_send read_step read_update read_implicit read_untyped read_typed_const read_last_const read_more_consts read_no_consts read_definition read_alias read_last_type_spec read_more_type_specs read_no_type_specs read_var_values read_typed_var read_typed_values read_last_var read_more_vars read_no_vars read_const_decl read_const_group read_type_decl read_type_group read_var_decl read_var_group read_some_values read_no_values read_a_target read_no_target read_last_arm read_more_arms read_last_block read_header_arm read_bare_arm read_empty_arm read_a_tag_value read_no_tag_value read_plain_guard read_named_guard read_a_case read_a_default read_no_clauses read_one_type read_more_cases read_a_type_case read_a_type_default read_no_type_clauses read_comm_assign read_comm_define read_comm_send read_comm_receive read_a_comm read_a_comm_default read_no_comms read_init_header read_no_header read_a_condition read_no_condition read_a_post read_no_post read_range_assign read_range_define read_no_range_left read_simple_stmt read_declaration_stmt read_bare_label read_labeled read_go read_defer read_return read_break read_continue read_goto read_fallthrough read_block_stmt read_if_stmt read_header_type_switch read_type_switch read_header_switch read_switch read_select read_endless read_range read_loop read_while read_last_stmt read_more_stmts read_empty_stmt read_no_stmts read_plain_import read_dot_import read_named_import read_last_import read_more_imports read_no_imports read_a_body read_no_body read_declaration read_function read_method_decl read_top_chunk read_package_clause read_import_decl read_import_group mark_at word_at name_at text_at front_at trail_at selector_at label_at defined_at
indexed_literal = refl

-- *p.x: the star holds for the whole
pub starred_selector : (row (m mark.Star 0 ∷ id 1 ∷ m mark.Dot 2 ∷ id 3 ∷ [])).expr 5 false false ≡ Some (found (ex.Prefixed (m mark.Star 0) (ex.Suffixed (ex.Name (id 1)) (sf.Selector (id 3) ∷ []))) ([]) 1)
unfolding rows idents_step type_name_step type_step unnamed_step named_params_step params_step signature_step tag_step field_step fields_step member_step members_step literal_step selected_step block_step received_step head_step bound_step args_step suffix_step suffixes_step primary_step unary_step expr_step operand_step operands_step value_step element_step elements_step exprs_step simple_step const_spec_step const_specs_step type_spec_step type_specs_step var_spec_step var_specs_step decl_step values_step target_step arms_step arm_step tag_value_step guard_step clauses_step types_step type_clauses_step comm_step comm_clauses_step header_step condition_step post_step range_left_step stmt_step stmts_step import_spec_step import_specs_step body_step top_step chunk_step read_one_name read_more_names read_bare read_qualified read_named read_paren_type read_pointer read_slice read_array read_map_type read_channel read_send_channel read_receive_channel read_function_type read_struct_type read_interface_type read_last_type read_more_types read_last_dots read_last_named_dots read_last_named read_more_named read_no_params read_named_list read_unnamed_list read_results read_result read_plain read_a_tag read_no_tag read_named_field read_embedded_field read_qualified_field read_pointer_field read_last_field read_more_fields read_no_fields read_method read_embedded_interface read_qualified_interface read_last_member read_more_members read_no_members read_values_in_braces read_selected_literal read_braces read_received read_basic_literal read_header_name read_literal_of_selected read_name read_literal_of_name read_paren read_literal_of_type read_composite_type read_counted_literal read_other_type read_function_literal read_lone_function_type read_a_bound read_no_bound read_spread read_last_arg read_more_args read_no_args read_selector read_assertion read_open_slice read_open_full_slice read_index read_slice_expr read_full_slice read_call read_more_suffixes read_no_suffixes read_primary read_bare_primary read_signed read_starred read_receiver read_receive_first read_receive read_operand read_more_operands read_no_operands read_value_expr read_value_literal read_plain_element read_keyed_element read_last_element read_more_elements read_no_elements read_one_expr read_more_exprs read_assign read_define read_expression read_send read_step read_update read_implicit read_untyped read_typed_const read_last_const read_more_consts read_no_consts read_definition read_alias read_last_type_spec read_more_type_specs read_no_type_specs read_var_values read_typed_var read_typed_values read_last_var read_more_vars read_no_vars read_const_decl read_const_group read_type_decl read_type_group read_var_decl read_var_group read_some_values read_no_values read_a_target read_no_target read_last_arm read_more_arms read_last_block read_header_arm read_bare_arm read_empty_arm read_a_tag_value read_no_tag_value read_plain_guard read_named_guard read_a_case read_a_default read_no_clauses read_one_type read_more_cases read_a_type_case read_a_type_default read_no_type_clauses read_comm_assign read_comm_define read_comm_send read_comm_receive read_a_comm read_a_comm_default read_no_comms read_init_header read_no_header read_a_condition read_no_condition read_a_post read_no_post read_range_assign read_range_define read_no_range_left read_simple_stmt read_declaration_stmt read_bare_label read_labeled read_go read_defer read_return read_break read_continue read_goto read_fallthrough read_block_stmt read_if_stmt read_header_type_switch read_type_switch read_header_switch read_switch read_select read_endless read_range read_loop read_while read_last_stmt read_more_stmts read_empty_stmt read_no_stmts read_plain_import read_dot_import read_named_import read_last_import read_more_imports read_no_imports read_a_body read_no_body read_declaration read_function read_method_decl read_top_chunk read_package_clause read_import_decl read_import_group mark_at word_at name_at text_at front_at trail_at selector_at label_at defined_at
starred_selector = refl

-- a*-b
pub product : (row (id 0 ∷ m mark.Star 1 ∷ m mark.Minus 2 ∷ id 3 ∷ [])).expr 5 false false ≡ Some (found (ex.Binary (ex.Name (id 0)) ((m mark.Star 1, ex.Prefixed (m mark.Minus 2) (ex.Name (id 3))) ∷ [])) ([]) 1)
unfolding rows idents_step type_name_step type_step unnamed_step named_params_step params_step signature_step tag_step field_step fields_step member_step members_step literal_step selected_step block_step received_step head_step bound_step args_step suffix_step suffixes_step primary_step unary_step expr_step operand_step operands_step value_step element_step elements_step exprs_step simple_step const_spec_step const_specs_step type_spec_step type_specs_step var_spec_step var_specs_step decl_step values_step target_step arms_step arm_step tag_value_step guard_step clauses_step types_step type_clauses_step comm_step comm_clauses_step header_step condition_step post_step range_left_step stmt_step stmts_step import_spec_step import_specs_step body_step top_step chunk_step read_one_name read_more_names read_bare read_qualified read_named read_paren_type read_pointer read_slice read_array read_map_type read_channel read_send_channel read_receive_channel read_function_type read_struct_type read_interface_type read_last_type read_more_types read_last_dots read_last_named_dots read_last_named read_more_named read_no_params read_named_list read_unnamed_list read_results read_result read_plain read_a_tag read_no_tag read_named_field read_embedded_field read_qualified_field read_pointer_field read_last_field read_more_fields read_no_fields read_method read_embedded_interface read_qualified_interface read_last_member read_more_members read_no_members read_values_in_braces read_selected_literal read_braces read_received read_basic_literal read_header_name read_literal_of_selected read_name read_literal_of_name read_paren read_literal_of_type read_composite_type read_counted_literal read_other_type read_function_literal read_lone_function_type read_a_bound read_no_bound read_spread read_last_arg read_more_args read_no_args read_selector read_assertion read_open_slice read_open_full_slice read_index read_slice_expr read_full_slice read_call read_more_suffixes read_no_suffixes read_primary read_bare_primary read_signed read_starred read_receiver read_receive_first read_receive read_operand read_more_operands read_no_operands read_value_expr read_value_literal read_plain_element read_keyed_element read_last_element read_more_elements read_no_elements read_one_expr read_more_exprs read_assign read_define read_expression read_send read_step read_update read_implicit read_untyped read_typed_const read_last_const read_more_consts read_no_consts read_definition read_alias read_last_type_spec read_more_type_specs read_no_type_specs read_var_values read_typed_var read_typed_values read_last_var read_more_vars read_no_vars read_const_decl read_const_group read_type_decl read_type_group read_var_decl read_var_group read_some_values read_no_values read_a_target read_no_target read_last_arm read_more_arms read_last_block read_header_arm read_bare_arm read_empty_arm read_a_tag_value read_no_tag_value read_plain_guard read_named_guard read_a_case read_a_default read_no_clauses read_one_type read_more_cases read_a_type_case read_a_type_default read_no_type_clauses read_comm_assign read_comm_define read_comm_send read_comm_receive read_a_comm read_a_comm_default read_no_comms read_init_header read_no_header read_a_condition read_no_condition read_a_post read_no_post read_range_assign read_range_define read_no_range_left read_simple_stmt read_declaration_stmt read_bare_label read_labeled read_go read_defer read_return read_break read_continue read_goto read_fallthrough read_block_stmt read_if_stmt read_header_type_switch read_type_switch read_header_switch read_switch read_select read_endless read_range read_loop read_while read_last_stmt read_more_stmts read_empty_stmt read_no_stmts read_plain_import read_dot_import read_named_import read_last_import read_more_imports read_no_imports read_a_body read_no_body read_declaration read_function read_method_decl read_top_chunk read_package_clause read_import_decl read_import_group mark_at word_at name_at text_at front_at trail_at selector_at label_at defined_at
product = refl

-- a + b * c == d
pub precedence : (row (id 0 ∷ m mark.Plus 1 ∷ id 2 ∷ m mark.Star 3 ∷ id 4 ∷ m mark.Equal 5 ∷ id 6 ∷ [])).expr 5 false false ≡ Some (found (ex.Binary (ex.Binary (ex.Name (id 0)) ((m mark.Plus 1, ex.Binary (ex.Name (id 2)) ((m mark.Star 3, (ex.Name (id 4))) ∷ [])) ∷ [])) ((m mark.Equal 5, (ex.Name (id 6))) ∷ [])) ([]) 0)
unfolding rows idents_step type_name_step type_step unnamed_step named_params_step params_step signature_step tag_step field_step fields_step member_step members_step literal_step selected_step block_step received_step head_step bound_step args_step suffix_step suffixes_step primary_step unary_step expr_step operand_step operands_step value_step element_step elements_step exprs_step simple_step const_spec_step const_specs_step type_spec_step type_specs_step var_spec_step var_specs_step decl_step values_step target_step arms_step arm_step tag_value_step guard_step clauses_step types_step type_clauses_step comm_step comm_clauses_step header_step condition_step post_step range_left_step stmt_step stmts_step import_spec_step import_specs_step body_step top_step chunk_step read_one_name read_more_names read_bare read_qualified read_named read_paren_type read_pointer read_slice read_array read_map_type read_channel read_send_channel read_receive_channel read_function_type read_struct_type read_interface_type read_last_type read_more_types read_last_dots read_last_named_dots read_last_named read_more_named read_no_params read_named_list read_unnamed_list read_results read_result read_plain read_a_tag read_no_tag read_named_field read_embedded_field read_qualified_field read_pointer_field read_last_field read_more_fields read_no_fields read_method read_embedded_interface read_qualified_interface read_last_member read_more_members read_no_members read_values_in_braces read_selected_literal read_braces read_received read_basic_literal read_header_name read_literal_of_selected read_name read_literal_of_name read_paren read_literal_of_type read_composite_type read_counted_literal read_other_type read_function_literal read_lone_function_type read_a_bound read_no_bound read_spread read_last_arg read_more_args read_no_args read_selector read_assertion read_open_slice read_open_full_slice read_index read_slice_expr read_full_slice read_call read_more_suffixes read_no_suffixes read_primary read_bare_primary read_signed read_starred read_receiver read_receive_first read_receive read_operand read_more_operands read_no_operands read_value_expr read_value_literal read_plain_element read_keyed_element read_last_element read_more_elements read_no_elements read_one_expr read_more_exprs read_assign read_define read_expression read_send read_step read_update read_implicit read_untyped read_typed_const read_last_const read_more_consts read_no_consts read_definition read_alias read_last_type_spec read_more_type_specs read_no_type_specs read_var_values read_typed_var read_typed_values read_last_var read_more_vars read_no_vars read_const_decl read_const_group read_type_decl read_type_group read_var_decl read_var_group read_some_values read_no_values read_a_target read_no_target read_last_arm read_more_arms read_last_block read_header_arm read_bare_arm read_empty_arm read_a_tag_value read_no_tag_value read_plain_guard read_named_guard read_a_case read_a_default read_no_clauses read_one_type read_more_cases read_a_type_case read_a_type_default read_no_type_clauses read_comm_assign read_comm_define read_comm_send read_comm_receive read_a_comm read_a_comm_default read_no_comms read_init_header read_no_header read_a_condition read_no_condition read_a_post read_no_post read_range_assign read_range_define read_no_range_left read_simple_stmt read_declaration_stmt read_bare_label read_labeled read_go read_defer read_return read_break read_continue read_goto read_fallthrough read_block_stmt read_if_stmt read_header_type_switch read_type_switch read_header_switch read_switch read_select read_endless read_range read_loop read_while read_last_stmt read_more_stmts read_empty_stmt read_no_stmts read_plain_import read_dot_import read_named_import read_last_import read_more_imports read_no_imports read_a_body read_no_body read_declaration read_function read_method_decl read_top_chunk read_package_clause read_import_decl read_import_group mark_at word_at name_at text_at front_at trail_at selector_at label_at defined_at
precedence = refl

-- x.(type) outside a switch: x alone
pub type_question : (row (id 0 ∷ m mark.Dot 1 ∷ m mark.LeftParen 2 ∷ k word.«Type» 3 ∷ m mark.RightParen 4 ∷ [])).expr 5 false false ≡ Some (found ((ex.Name (id 0))) (m mark.Dot 1 ∷ m mark.LeftParen 2 ∷ k word.«Type» 3 ∷ m mark.RightParen 4 ∷ []) 0)
unfolding rows idents_step type_name_step type_step unnamed_step named_params_step params_step signature_step tag_step field_step fields_step member_step members_step literal_step selected_step block_step received_step head_step bound_step args_step suffix_step suffixes_step primary_step unary_step expr_step operand_step operands_step value_step element_step elements_step exprs_step simple_step const_spec_step const_specs_step type_spec_step type_specs_step var_spec_step var_specs_step decl_step values_step target_step arms_step arm_step tag_value_step guard_step clauses_step types_step type_clauses_step comm_step comm_clauses_step header_step condition_step post_step range_left_step stmt_step stmts_step import_spec_step import_specs_step body_step top_step chunk_step read_one_name read_more_names read_bare read_qualified read_named read_paren_type read_pointer read_slice read_array read_map_type read_channel read_send_channel read_receive_channel read_function_type read_struct_type read_interface_type read_last_type read_more_types read_last_dots read_last_named_dots read_last_named read_more_named read_no_params read_named_list read_unnamed_list read_results read_result read_plain read_a_tag read_no_tag read_named_field read_embedded_field read_qualified_field read_pointer_field read_last_field read_more_fields read_no_fields read_method read_embedded_interface read_qualified_interface read_last_member read_more_members read_no_members read_values_in_braces read_selected_literal read_braces read_received read_basic_literal read_header_name read_literal_of_selected read_name read_literal_of_name read_paren read_literal_of_type read_composite_type read_counted_literal read_other_type read_function_literal read_lone_function_type read_a_bound read_no_bound read_spread read_last_arg read_more_args read_no_args read_selector read_assertion read_open_slice read_open_full_slice read_index read_slice_expr read_full_slice read_call read_more_suffixes read_no_suffixes read_primary read_bare_primary read_signed read_starred read_receiver read_receive_first read_receive read_operand read_more_operands read_no_operands read_value_expr read_value_literal read_plain_element read_keyed_element read_last_element read_more_elements read_no_elements read_one_expr read_more_exprs read_assign read_define read_expression read_send read_step read_update read_implicit read_untyped read_typed_const read_last_const read_more_consts read_no_consts read_definition read_alias read_last_type_spec read_more_type_specs read_no_type_specs read_var_values read_typed_var read_typed_values read_last_var read_more_vars read_no_vars read_const_decl read_const_group read_type_decl read_type_group read_var_decl read_var_group read_some_values read_no_values read_a_target read_no_target read_last_arm read_more_arms read_last_block read_header_arm read_bare_arm read_empty_arm read_a_tag_value read_no_tag_value read_plain_guard read_named_guard read_a_case read_a_default read_no_clauses read_one_type read_more_cases read_a_type_case read_a_type_default read_no_type_clauses read_comm_assign read_comm_define read_comm_send read_comm_receive read_a_comm read_a_comm_default read_no_comms read_init_header read_no_header read_a_condition read_no_condition read_a_post read_no_post read_range_assign read_range_define read_no_range_left read_simple_stmt read_declaration_stmt read_bare_label read_labeled read_go read_defer read_return read_break read_continue read_goto read_fallthrough read_block_stmt read_if_stmt read_header_type_switch read_type_switch read_header_switch read_switch read_select read_endless read_range read_loop read_while read_last_stmt read_more_stmts read_empty_stmt read_no_stmts read_plain_import read_dot_import read_named_import read_last_import read_more_imports read_no_imports read_a_body read_no_body read_declaration read_function read_method_decl read_top_chunk read_package_clause read_import_decl read_import_group mark_at word_at name_at text_at front_at trail_at selector_at label_at defined_at
type_question = refl

-- func() * [3]int: the result
pub greedy_result : (row (k word.Func 0 ∷ m mark.LeftParen 1 ∷ m mark.RightParen 2 ∷ m mark.Star 3 ∷ m mark.LeftBracket 4 ∷ num 5 ∷ m mark.RightBracket 6 ∷ id 7 ∷ [])).type ≡ Some (found (ty.Function (at 0) (sg.Result (make_parameters (at 1) [] (at 2)) (ty.Pointer (at 3) (ty.Array (at 4) (ex.Literal (num 5)) (ty.Name (id 7)))))) ([]) 3)
unfolding rows idents_step type_name_step type_step unnamed_step named_params_step params_step signature_step tag_step field_step fields_step member_step members_step literal_step selected_step block_step received_step head_step bound_step args_step suffix_step suffixes_step primary_step unary_step expr_step operand_step operands_step value_step element_step elements_step exprs_step simple_step const_spec_step const_specs_step type_spec_step type_specs_step var_spec_step var_specs_step decl_step values_step target_step arms_step arm_step tag_value_step guard_step clauses_step types_step type_clauses_step comm_step comm_clauses_step header_step condition_step post_step range_left_step stmt_step stmts_step import_spec_step import_specs_step body_step top_step chunk_step read_one_name read_more_names read_bare read_qualified read_named read_paren_type read_pointer read_slice read_array read_map_type read_channel read_send_channel read_receive_channel read_function_type read_struct_type read_interface_type read_last_type read_more_types read_last_dots read_last_named_dots read_last_named read_more_named read_no_params read_named_list read_unnamed_list read_results read_result read_plain read_a_tag read_no_tag read_named_field read_embedded_field read_qualified_field read_pointer_field read_last_field read_more_fields read_no_fields read_method read_embedded_interface read_qualified_interface read_last_member read_more_members read_no_members read_values_in_braces read_selected_literal read_braces read_received read_basic_literal read_header_name read_literal_of_selected read_name read_literal_of_name read_paren read_literal_of_type read_composite_type read_counted_literal read_other_type read_function_literal read_lone_function_type read_a_bound read_no_bound read_spread read_last_arg read_more_args read_no_args read_selector read_assertion read_open_slice read_open_full_slice read_index read_slice_expr read_full_slice read_call read_more_suffixes read_no_suffixes read_primary read_bare_primary read_signed read_starred read_receiver read_receive_first read_receive read_operand read_more_operands read_no_operands read_value_expr read_value_literal read_plain_element read_keyed_element read_last_element read_more_elements read_no_elements read_one_expr read_more_exprs read_assign read_define read_expression read_send read_step read_update read_implicit read_untyped read_typed_const read_last_const read_more_consts read_no_consts read_definition read_alias read_last_type_spec read_more_type_specs read_no_type_specs read_var_values read_typed_var read_typed_values read_last_var read_more_vars read_no_vars read_const_decl read_const_group read_type_decl read_type_group read_var_decl read_var_group read_some_values read_no_values read_a_target read_no_target read_last_arm read_more_arms read_last_block read_header_arm read_bare_arm read_empty_arm read_a_tag_value read_no_tag_value read_plain_guard read_named_guard read_a_case read_a_default read_no_clauses read_one_type read_more_cases read_a_type_case read_a_type_default read_no_type_clauses read_comm_assign read_comm_define read_comm_send read_comm_receive read_a_comm read_a_comm_default read_no_comms read_init_header read_no_header read_a_condition read_no_condition read_a_post read_no_post read_range_assign read_range_define read_no_range_left read_simple_stmt read_declaration_stmt read_bare_label read_labeled read_go read_defer read_return read_break read_continue read_goto read_fallthrough read_block_stmt read_if_stmt read_header_type_switch read_type_switch read_header_switch read_switch read_select read_endless read_range read_loop read_while read_last_stmt read_more_stmts read_empty_stmt read_no_stmts read_plain_import read_dot_import read_named_import read_last_import read_more_imports read_no_imports read_a_body read_no_body read_declaration read_function read_method_decl read_top_chunk read_package_clause read_import_decl read_import_group mark_at word_at name_at text_at front_at trail_at selector_at label_at defined_at
greedy_result = refl

-- func() * 3: no type begins at the star
pub no_result : (row (k word.Func 0 ∷ m mark.LeftParen 1 ∷ m mark.RightParen 2 ∷ m mark.Star 3 ∷ num 4 ∷ m mark.Semicolon 5 ∷ [])).expr 5 false false ≡ Some (found (ex.Binary (ex.Type (ty.Function (at 0) (sg.Plain (make_parameters (at 1) [] (at 2))))) ((m mark.Star 3, ex.Literal (num 4)) ∷ [])) (m mark.Semicolon 5 ∷ []) 2)
unfolding rows idents_step type_name_step type_step unnamed_step named_params_step params_step signature_step tag_step field_step fields_step member_step members_step literal_step selected_step block_step received_step head_step bound_step args_step suffix_step suffixes_step primary_step unary_step expr_step operand_step operands_step value_step element_step elements_step exprs_step simple_step const_spec_step const_specs_step type_spec_step type_specs_step var_spec_step var_specs_step decl_step values_step target_step arms_step arm_step tag_value_step guard_step clauses_step types_step type_clauses_step comm_step comm_clauses_step header_step condition_step post_step range_left_step stmt_step stmts_step import_spec_step import_specs_step body_step top_step chunk_step read_one_name read_more_names read_bare read_qualified read_named read_paren_type read_pointer read_slice read_array read_map_type read_channel read_send_channel read_receive_channel read_function_type read_struct_type read_interface_type read_last_type read_more_types read_last_dots read_last_named_dots read_last_named read_more_named read_no_params read_named_list read_unnamed_list read_results read_result read_plain read_a_tag read_no_tag read_named_field read_embedded_field read_qualified_field read_pointer_field read_last_field read_more_fields read_no_fields read_method read_embedded_interface read_qualified_interface read_last_member read_more_members read_no_members read_values_in_braces read_selected_literal read_braces read_received read_basic_literal read_header_name read_literal_of_selected read_name read_literal_of_name read_paren read_literal_of_type read_composite_type read_counted_literal read_other_type read_function_literal read_lone_function_type read_a_bound read_no_bound read_spread read_last_arg read_more_args read_no_args read_selector read_assertion read_open_slice read_open_full_slice read_index read_slice_expr read_full_slice read_call read_more_suffixes read_no_suffixes read_primary read_bare_primary read_signed read_starred read_receiver read_receive_first read_receive read_operand read_more_operands read_no_operands read_value_expr read_value_literal read_plain_element read_keyed_element read_last_element read_more_elements read_no_elements read_one_expr read_more_exprs read_assign read_define read_expression read_send read_step read_update read_implicit read_untyped read_typed_const read_last_const read_more_consts read_no_consts read_definition read_alias read_last_type_spec read_more_type_specs read_no_type_specs read_var_values read_typed_var read_typed_values read_last_var read_more_vars read_no_vars read_const_decl read_const_group read_type_decl read_type_group read_var_decl read_var_group read_some_values read_no_values read_a_target read_no_target read_last_arm read_more_arms read_last_block read_header_arm read_bare_arm read_empty_arm read_a_tag_value read_no_tag_value read_plain_guard read_named_guard read_a_case read_a_default read_no_clauses read_one_type read_more_cases read_a_type_case read_a_type_default read_no_type_clauses read_comm_assign read_comm_define read_comm_send read_comm_receive read_a_comm read_a_comm_default read_no_comms read_init_header read_no_header read_a_condition read_no_condition read_a_post read_no_post read_range_assign read_range_define read_no_range_left read_simple_stmt read_declaration_stmt read_bare_label read_labeled read_go read_defer read_return read_break read_continue read_goto read_fallthrough read_block_stmt read_if_stmt read_header_type_switch read_type_switch read_header_switch read_switch read_select read_endless read_range read_loop read_while read_last_stmt read_more_stmts read_empty_stmt read_no_stmts read_plain_import read_dot_import read_named_import read_last_import read_more_imports read_no_imports read_a_body read_no_body read_declaration read_function read_method_decl read_top_chunk read_package_clause read_import_decl read_import_group mark_at word_at name_at text_at front_at trail_at selector_at label_at defined_at
no_result = refl

-- func f() (int);
pub results : (row (k word.Func 0 ∷ id 1 ∷ m mark.LeftParen 2 ∷ m mark.RightParen 3 ∷ m mark.LeftParen 4 ∷ id 5 ∷ m mark.RightParen 6 ∷ m mark.Semicolon 7 ∷ [])).chunk ≡ Some (found (ch.Top (tp.Function (at 0) (id 1) (sg.Results (make_parameters (at 2) [] (at 3)) (make_parameters (at 4) (pa.Plain (ty.Name (id 5)) ∷ []) (at 6))) None)) ([]) 1)
unfolding rows idents_step type_name_step type_step unnamed_step named_params_step params_step signature_step tag_step field_step fields_step member_step members_step literal_step selected_step block_step received_step head_step bound_step args_step suffix_step suffixes_step primary_step unary_step expr_step operand_step operands_step value_step element_step elements_step exprs_step simple_step const_spec_step const_specs_step type_spec_step type_specs_step var_spec_step var_specs_step decl_step values_step target_step arms_step arm_step tag_value_step guard_step clauses_step types_step type_clauses_step comm_step comm_clauses_step header_step condition_step post_step range_left_step stmt_step stmts_step import_spec_step import_specs_step body_step top_step chunk_step read_one_name read_more_names read_bare read_qualified read_named read_paren_type read_pointer read_slice read_array read_map_type read_channel read_send_channel read_receive_channel read_function_type read_struct_type read_interface_type read_last_type read_more_types read_last_dots read_last_named_dots read_last_named read_more_named read_no_params read_named_list read_unnamed_list read_results read_result read_plain read_a_tag read_no_tag read_named_field read_embedded_field read_qualified_field read_pointer_field read_last_field read_more_fields read_no_fields read_method read_embedded_interface read_qualified_interface read_last_member read_more_members read_no_members read_values_in_braces read_selected_literal read_braces read_received read_basic_literal read_header_name read_literal_of_selected read_name read_literal_of_name read_paren read_literal_of_type read_composite_type read_counted_literal read_other_type read_function_literal read_lone_function_type read_a_bound read_no_bound read_spread read_last_arg read_more_args read_no_args read_selector read_assertion read_open_slice read_open_full_slice read_index read_slice_expr read_full_slice read_call read_more_suffixes read_no_suffixes read_primary read_bare_primary read_signed read_starred read_receiver read_receive_first read_receive read_operand read_more_operands read_no_operands read_value_expr read_value_literal read_plain_element read_keyed_element read_last_element read_more_elements read_no_elements read_one_expr read_more_exprs read_assign read_define read_expression read_send read_step read_update read_implicit read_untyped read_typed_const read_last_const read_more_consts read_no_consts read_definition read_alias read_last_type_spec read_more_type_specs read_no_type_specs read_var_values read_typed_var read_typed_values read_last_var read_more_vars read_no_vars read_const_decl read_const_group read_type_decl read_type_group read_var_decl read_var_group read_some_values read_no_values read_a_target read_no_target read_last_arm read_more_arms read_last_block read_header_arm read_bare_arm read_empty_arm read_a_tag_value read_no_tag_value read_plain_guard read_named_guard read_a_case read_a_default read_no_clauses read_one_type read_more_cases read_a_type_case read_a_type_default read_no_type_clauses read_comm_assign read_comm_define read_comm_send read_comm_receive read_a_comm read_a_comm_default read_no_comms read_init_header read_no_header read_a_condition read_no_condition read_a_post read_no_post read_range_assign read_range_define read_no_range_left read_simple_stmt read_declaration_stmt read_bare_label read_labeled read_go read_defer read_return read_break read_continue read_goto read_fallthrough read_block_stmt read_if_stmt read_header_type_switch read_type_switch read_header_switch read_switch read_select read_endless read_range read_loop read_while read_last_stmt read_more_stmts read_empty_stmt read_no_stmts read_plain_import read_dot_import read_named_import read_last_import read_more_imports read_no_imports read_a_body read_no_body read_declaration read_function read_method_decl read_top_chunk read_package_clause read_import_decl read_import_group mark_at word_at name_at text_at front_at trail_at selector_at label_at defined_at
results = refl

-- chan (<-chan int)
pub channels : (row (k word.Chan 0 ∷ m mark.LeftParen 1 ∷ m mark.Arrow 2 ∷ k word.Chan 3 ∷ id 4 ∷ m mark.RightParen 5 ∷ [])).type ≡ Some (found (ty.Channel (at 0) (ty.Paren (at 1) (ty.ReceiveChannel (at 2) (ty.Name (id 4))) (at 5))) ([]) 3)
unfolding rows idents_step type_name_step type_step unnamed_step named_params_step params_step signature_step tag_step field_step fields_step member_step members_step literal_step selected_step block_step received_step head_step bound_step args_step suffix_step suffixes_step primary_step unary_step expr_step operand_step operands_step value_step element_step elements_step exprs_step simple_step const_spec_step const_specs_step type_spec_step type_specs_step var_spec_step var_specs_step decl_step values_step target_step arms_step arm_step tag_value_step guard_step clauses_step types_step type_clauses_step comm_step comm_clauses_step header_step condition_step post_step range_left_step stmt_step stmts_step import_spec_step import_specs_step body_step top_step chunk_step read_one_name read_more_names read_bare read_qualified read_named read_paren_type read_pointer read_slice read_array read_map_type read_channel read_send_channel read_receive_channel read_function_type read_struct_type read_interface_type read_last_type read_more_types read_last_dots read_last_named_dots read_last_named read_more_named read_no_params read_named_list read_unnamed_list read_results read_result read_plain read_a_tag read_no_tag read_named_field read_embedded_field read_qualified_field read_pointer_field read_last_field read_more_fields read_no_fields read_method read_embedded_interface read_qualified_interface read_last_member read_more_members read_no_members read_values_in_braces read_selected_literal read_braces read_received read_basic_literal read_header_name read_literal_of_selected read_name read_literal_of_name read_paren read_literal_of_type read_composite_type read_counted_literal read_other_type read_function_literal read_lone_function_type read_a_bound read_no_bound read_spread read_last_arg read_more_args read_no_args read_selector read_assertion read_open_slice read_open_full_slice read_index read_slice_expr read_full_slice read_call read_more_suffixes read_no_suffixes read_primary read_bare_primary read_signed read_starred read_receiver read_receive_first read_receive read_operand read_more_operands read_no_operands read_value_expr read_value_literal read_plain_element read_keyed_element read_last_element read_more_elements read_no_elements read_one_expr read_more_exprs read_assign read_define read_expression read_send read_step read_update read_implicit read_untyped read_typed_const read_last_const read_more_consts read_no_consts read_definition read_alias read_last_type_spec read_more_type_specs read_no_type_specs read_var_values read_typed_var read_typed_values read_last_var read_more_vars read_no_vars read_const_decl read_const_group read_type_decl read_type_group read_var_decl read_var_group read_some_values read_no_values read_a_target read_no_target read_last_arm read_more_arms read_last_block read_header_arm read_bare_arm read_empty_arm read_a_tag_value read_no_tag_value read_plain_guard read_named_guard read_a_case read_a_default read_no_clauses read_one_type read_more_cases read_a_type_case read_a_type_default read_no_type_clauses read_comm_assign read_comm_define read_comm_send read_comm_receive read_a_comm read_a_comm_default read_no_comms read_init_header read_no_header read_a_condition read_no_condition read_a_post read_no_post read_range_assign read_range_define read_no_range_left read_simple_stmt read_declaration_stmt read_bare_label read_labeled read_go read_defer read_return read_break read_continue read_goto read_fallthrough read_block_stmt read_if_stmt read_header_type_switch read_type_switch read_header_switch read_switch read_select read_endless read_range read_loop read_while read_last_stmt read_more_stmts read_empty_stmt read_no_stmts read_plain_import read_dot_import read_named_import read_last_import read_more_imports read_no_imports read_a_body read_no_body read_declaration read_function read_method_decl read_top_chunk read_package_clause read_import_decl read_import_group mark_at word_at name_at text_at front_at trail_at selector_at label_at defined_at
channels = refl

-- interface{ m(); n }
pub interface_of : (row (k word.Interface 0 ∷ m mark.LeftBrace 1 ∷ id 2 ∷ m mark.LeftParen 3 ∷ m mark.RightParen 4 ∷ m mark.Semicolon 5 ∷ id 6 ∷ m mark.RightBrace 7 ∷ [])).type ≡ Some (found (ty.Interface (at 0) (me.Method (id 2) (sg.Plain (make_parameters (at 3) [] (at 4))) ∷ me.Embedded (ty.Name (id 6)) ∷ []) (at 7)) ([]) 2)
unfolding rows idents_step type_name_step type_step unnamed_step named_params_step params_step signature_step tag_step field_step fields_step member_step members_step literal_step selected_step block_step received_step head_step bound_step args_step suffix_step suffixes_step primary_step unary_step expr_step operand_step operands_step value_step element_step elements_step exprs_step simple_step const_spec_step const_specs_step type_spec_step type_specs_step var_spec_step var_specs_step decl_step values_step target_step arms_step arm_step tag_value_step guard_step clauses_step types_step type_clauses_step comm_step comm_clauses_step header_step condition_step post_step range_left_step stmt_step stmts_step import_spec_step import_specs_step body_step top_step chunk_step read_one_name read_more_names read_bare read_qualified read_named read_paren_type read_pointer read_slice read_array read_map_type read_channel read_send_channel read_receive_channel read_function_type read_struct_type read_interface_type read_last_type read_more_types read_last_dots read_last_named_dots read_last_named read_more_named read_no_params read_named_list read_unnamed_list read_results read_result read_plain read_a_tag read_no_tag read_named_field read_embedded_field read_qualified_field read_pointer_field read_last_field read_more_fields read_no_fields read_method read_embedded_interface read_qualified_interface read_last_member read_more_members read_no_members read_values_in_braces read_selected_literal read_braces read_received read_basic_literal read_header_name read_literal_of_selected read_name read_literal_of_name read_paren read_literal_of_type read_composite_type read_counted_literal read_other_type read_function_literal read_lone_function_type read_a_bound read_no_bound read_spread read_last_arg read_more_args read_no_args read_selector read_assertion read_open_slice read_open_full_slice read_index read_slice_expr read_full_slice read_call read_more_suffixes read_no_suffixes read_primary read_bare_primary read_signed read_starred read_receiver read_receive_first read_receive read_operand read_more_operands read_no_operands read_value_expr read_value_literal read_plain_element read_keyed_element read_last_element read_more_elements read_no_elements read_one_expr read_more_exprs read_assign read_define read_expression read_send read_step read_update read_implicit read_untyped read_typed_const read_last_const read_more_consts read_no_consts read_definition read_alias read_last_type_spec read_more_type_specs read_no_type_specs read_var_values read_typed_var read_typed_values read_last_var read_more_vars read_no_vars read_const_decl read_const_group read_type_decl read_type_group read_var_decl read_var_group read_some_values read_no_values read_a_target read_no_target read_last_arm read_more_arms read_last_block read_header_arm read_bare_arm read_empty_arm read_a_tag_value read_no_tag_value read_plain_guard read_named_guard read_a_case read_a_default read_no_clauses read_one_type read_more_cases read_a_type_case read_a_type_default read_no_type_clauses read_comm_assign read_comm_define read_comm_send read_comm_receive read_a_comm read_a_comm_default read_no_comms read_init_header read_no_header read_a_condition read_no_condition read_a_post read_no_post read_range_assign read_range_define read_no_range_left read_simple_stmt read_declaration_stmt read_bare_label read_labeled read_go read_defer read_return read_break read_continue read_goto read_fallthrough read_block_stmt read_if_stmt read_header_type_switch read_type_switch read_header_switch read_switch read_select read_endless read_range read_loop read_while read_last_stmt read_more_stmts read_empty_stmt read_no_stmts read_plain_import read_dot_import read_named_import read_last_import read_more_imports read_no_imports read_a_body read_no_body read_declaration read_function read_method_decl read_top_chunk read_package_clause read_import_decl read_import_group mark_at word_at name_at text_at front_at trail_at selector_at label_at defined_at
interface_of = refl

-- a: b: c: before a brace
pub labels : (row (id 0 ∷ m mark.Colon 1 ∷ id 2 ∷ m mark.Colon 3 ∷ id 4 ∷ m mark.Colon 5 ∷ m mark.RightBrace 6 ∷ [])).stmt ≡ Some (found (st.Labeled (id 0) (st.Labeled (id 2) (st.Labeled (id 4) (st.Simple si.Empty)))) (m mark.RightBrace 6 ∷ []) 3)
unfolding rows idents_step type_name_step type_step unnamed_step named_params_step params_step signature_step tag_step field_step fields_step member_step members_step literal_step selected_step block_step received_step head_step bound_step args_step suffix_step suffixes_step primary_step unary_step expr_step operand_step operands_step value_step element_step elements_step exprs_step simple_step const_spec_step const_specs_step type_spec_step type_specs_step var_spec_step var_specs_step decl_step values_step target_step arms_step arm_step tag_value_step guard_step clauses_step types_step type_clauses_step comm_step comm_clauses_step header_step condition_step post_step range_left_step stmt_step stmts_step import_spec_step import_specs_step body_step top_step chunk_step read_one_name read_more_names read_bare read_qualified read_named read_paren_type read_pointer read_slice read_array read_map_type read_channel read_send_channel read_receive_channel read_function_type read_struct_type read_interface_type read_last_type read_more_types read_last_dots read_last_named_dots read_last_named read_more_named read_no_params read_named_list read_unnamed_list read_results read_result read_plain read_a_tag read_no_tag read_named_field read_embedded_field read_qualified_field read_pointer_field read_last_field read_more_fields read_no_fields read_method read_embedded_interface read_qualified_interface read_last_member read_more_members read_no_members read_values_in_braces read_selected_literal read_braces read_received read_basic_literal read_header_name read_literal_of_selected read_name read_literal_of_name read_paren read_literal_of_type read_composite_type read_counted_literal read_other_type read_function_literal read_lone_function_type read_a_bound read_no_bound read_spread read_last_arg read_more_args read_no_args read_selector read_assertion read_open_slice read_open_full_slice read_index read_slice_expr read_full_slice read_call read_more_suffixes read_no_suffixes read_primary read_bare_primary read_signed read_starred read_receiver read_receive_first read_receive read_operand read_more_operands read_no_operands read_value_expr read_value_literal read_plain_element read_keyed_element read_last_element read_more_elements read_no_elements read_one_expr read_more_exprs read_assign read_define read_expression read_send read_step read_update read_implicit read_untyped read_typed_const read_last_const read_more_consts read_no_consts read_definition read_alias read_last_type_spec read_more_type_specs read_no_type_specs read_var_values read_typed_var read_typed_values read_last_var read_more_vars read_no_vars read_const_decl read_const_group read_type_decl read_type_group read_var_decl read_var_group read_some_values read_no_values read_a_target read_no_target read_last_arm read_more_arms read_last_block read_header_arm read_bare_arm read_empty_arm read_a_tag_value read_no_tag_value read_plain_guard read_named_guard read_a_case read_a_default read_no_clauses read_one_type read_more_cases read_a_type_case read_a_type_default read_no_type_clauses read_comm_assign read_comm_define read_comm_send read_comm_receive read_a_comm read_a_comm_default read_no_comms read_init_header read_no_header read_a_condition read_no_condition read_a_post read_no_post read_range_assign read_range_define read_no_range_left read_simple_stmt read_declaration_stmt read_bare_label read_labeled read_go read_defer read_return read_break read_continue read_goto read_fallthrough read_block_stmt read_if_stmt read_header_type_switch read_type_switch read_header_switch read_switch read_select read_endless read_range read_loop read_while read_last_stmt read_more_stmts read_empty_stmt read_no_stmts read_plain_import read_dot_import read_named_import read_last_import read_more_imports read_no_imports read_a_body read_no_body read_declaration read_function read_method_decl read_top_chunk read_package_clause read_import_decl read_import_group mark_at word_at name_at text_at front_at trail_at selector_at label_at defined_at
labels = refl

-- switch x := y.(type) {}
pub type_switch_of : (row (k word.Switch 0 ∷ id 1 ∷ m mark.Define 2 ∷ id 3 ∷ m mark.Dot 4 ∷ m mark.LeftParen 5 ∷ k word.«Type» 6 ∷ m mark.RightParen 7 ∷ m mark.LeftBrace 8 ∷ m mark.RightBrace 9 ∷ m mark.Semicolon 10 ∷ [])).stmt ≡ Some (found (st.TypeSwitch (at 0) si.Empty (Some (id 1, at 2)) (ex.Name (id 3)) (at 6) [] (at 9)) (m mark.Semicolon 10 ∷ []) 1)
unfolding rows idents_step type_name_step type_step unnamed_step named_params_step params_step signature_step tag_step field_step fields_step member_step members_step literal_step selected_step block_step received_step head_step bound_step args_step suffix_step suffixes_step primary_step unary_step expr_step operand_step operands_step value_step element_step elements_step exprs_step simple_step const_spec_step const_specs_step type_spec_step type_specs_step var_spec_step var_specs_step decl_step values_step target_step arms_step arm_step tag_value_step guard_step clauses_step types_step type_clauses_step comm_step comm_clauses_step header_step condition_step post_step range_left_step stmt_step stmts_step import_spec_step import_specs_step body_step top_step chunk_step read_one_name read_more_names read_bare read_qualified read_named read_paren_type read_pointer read_slice read_array read_map_type read_channel read_send_channel read_receive_channel read_function_type read_struct_type read_interface_type read_last_type read_more_types read_last_dots read_last_named_dots read_last_named read_more_named read_no_params read_named_list read_unnamed_list read_results read_result read_plain read_a_tag read_no_tag read_named_field read_embedded_field read_qualified_field read_pointer_field read_last_field read_more_fields read_no_fields read_method read_embedded_interface read_qualified_interface read_last_member read_more_members read_no_members read_values_in_braces read_selected_literal read_braces read_received read_basic_literal read_header_name read_literal_of_selected read_name read_literal_of_name read_paren read_literal_of_type read_composite_type read_counted_literal read_other_type read_function_literal read_lone_function_type read_a_bound read_no_bound read_spread read_last_arg read_more_args read_no_args read_selector read_assertion read_open_slice read_open_full_slice read_index read_slice_expr read_full_slice read_call read_more_suffixes read_no_suffixes read_primary read_bare_primary read_signed read_starred read_receiver read_receive_first read_receive read_operand read_more_operands read_no_operands read_value_expr read_value_literal read_plain_element read_keyed_element read_last_element read_more_elements read_no_elements read_one_expr read_more_exprs read_assign read_define read_expression read_send read_step read_update read_implicit read_untyped read_typed_const read_last_const read_more_consts read_no_consts read_definition read_alias read_last_type_spec read_more_type_specs read_no_type_specs read_var_values read_typed_var read_typed_values read_last_var read_more_vars read_no_vars read_const_decl read_const_group read_type_decl read_type_group read_var_decl read_var_group read_some_values read_no_values read_a_target read_no_target read_last_arm read_more_arms read_last_block read_header_arm read_bare_arm read_empty_arm read_a_tag_value read_no_tag_value read_plain_guard read_named_guard read_a_case read_a_default read_no_clauses read_one_type read_more_cases read_a_type_case read_a_type_default read_no_type_clauses read_comm_assign read_comm_define read_comm_send read_comm_receive read_a_comm read_a_comm_default read_no_comms read_init_header read_no_header read_a_condition read_no_condition read_a_post read_no_post read_range_assign read_range_define read_no_range_left read_simple_stmt read_declaration_stmt read_bare_label read_labeled read_go read_defer read_return read_break read_continue read_goto read_fallthrough read_block_stmt read_if_stmt read_header_type_switch read_type_switch read_header_switch read_switch read_select read_endless read_range read_loop read_while read_last_stmt read_more_stmts read_empty_stmt read_no_stmts read_plain_import read_dot_import read_named_import read_last_import read_more_imports read_no_imports read_a_body read_no_body read_declaration read_function read_method_decl read_top_chunk read_package_clause read_import_decl read_import_group mark_at word_at name_at text_at front_at trail_at selector_at label_at defined_at
type_switch_of = refl

-- switch f(x).(type) {}; the brackets of the guard stand behind those of the call
pub type_switch_of_call : (row (k word.Switch 0 ∷ id 1 ∷ m mark.LeftParen 2 ∷ id 3 ∷ m mark.RightParen 4 ∷ m mark.Dot 5 ∷ m mark.LeftParen 6 ∷ k word.«Type» 7 ∷ m mark.RightParen 8 ∷ m mark.LeftBrace 9 ∷ m mark.RightBrace 10 ∷ m mark.Semicolon 11 ∷ [])).stmt ≡ Some (found (st.TypeSwitch (at 0) si.Empty None (ex.Suffixed (ex.Name (id 1)) (sf.Call ((ex.Name (id 3)) ∷ []) None (at 4) ∷ [])) (at 7) [] (at 10)) (m mark.Semicolon 11 ∷ []) 1)
unfolding rows idents_step type_name_step type_step unnamed_step named_params_step params_step signature_step tag_step field_step fields_step member_step members_step literal_step selected_step block_step received_step head_step bound_step args_step suffix_step suffixes_step primary_step unary_step expr_step operand_step operands_step value_step element_step elements_step exprs_step simple_step const_spec_step const_specs_step type_spec_step type_specs_step var_spec_step var_specs_step decl_step values_step target_step arms_step arm_step tag_value_step guard_step clauses_step types_step type_clauses_step comm_step comm_clauses_step header_step condition_step post_step range_left_step stmt_step stmts_step import_spec_step import_specs_step body_step top_step chunk_step read_one_name read_more_names read_bare read_qualified read_named read_paren_type read_pointer read_slice read_array read_map_type read_channel read_send_channel read_receive_channel read_function_type read_struct_type read_interface_type read_last_type read_more_types read_last_dots read_last_named_dots read_last_named read_more_named read_no_params read_named_list read_unnamed_list read_results read_result read_plain read_a_tag read_no_tag read_named_field read_embedded_field read_qualified_field read_pointer_field read_last_field read_more_fields read_no_fields read_method read_embedded_interface read_qualified_interface read_last_member read_more_members read_no_members read_values_in_braces read_selected_literal read_braces read_received read_basic_literal read_header_name read_literal_of_selected read_name read_literal_of_name read_paren read_literal_of_type read_composite_type read_counted_literal read_other_type read_function_literal read_lone_function_type read_a_bound read_no_bound read_spread read_last_arg read_more_args read_no_args read_selector read_assertion read_open_slice read_open_full_slice read_index read_slice_expr read_full_slice read_call read_more_suffixes read_no_suffixes read_primary read_bare_primary read_signed read_starred read_receiver read_receive_first read_receive read_operand read_more_operands read_no_operands read_value_expr read_value_literal read_plain_element read_keyed_element read_last_element read_more_elements read_no_elements read_one_expr read_more_exprs read_assign read_define read_expression read_send read_step read_update read_implicit read_untyped read_typed_const read_last_const read_more_consts read_no_consts read_definition read_alias read_last_type_spec read_more_type_specs read_no_type_specs read_var_values read_typed_var read_typed_values read_last_var read_more_vars read_no_vars read_const_decl read_const_group read_type_decl read_type_group read_var_decl read_var_group read_some_values read_no_values read_a_target read_no_target read_last_arm read_more_arms read_last_block read_header_arm read_bare_arm read_empty_arm read_a_tag_value read_no_tag_value read_plain_guard read_named_guard read_a_case read_a_default read_no_clauses read_one_type read_more_cases read_a_type_case read_a_type_default read_no_type_clauses read_comm_assign read_comm_define read_comm_send read_comm_receive read_a_comm read_a_comm_default read_no_comms read_init_header read_no_header read_a_condition read_no_condition read_a_post read_no_post read_range_assign read_range_define read_no_range_left read_simple_stmt read_declaration_stmt read_bare_label read_labeled read_go read_defer read_return read_break read_continue read_goto read_fallthrough read_block_stmt read_if_stmt read_header_type_switch read_type_switch read_header_switch read_switch read_select read_endless read_range read_loop read_while read_last_stmt read_more_stmts read_empty_stmt read_no_stmts read_plain_import read_dot_import read_named_import read_last_import read_more_imports read_no_imports read_a_body read_no_body read_declaration read_function read_method_decl read_top_chunk read_package_clause read_import_decl read_import_group mark_at word_at name_at text_at front_at trail_at selector_at label_at defined_at
type_switch_of_call = refl

-- select { case a, b = <-c: }
pub received_case : (row (k word.Select 0 ∷ m mark.LeftBrace 1 ∷ k word.Case 2 ∷ id 3 ∷ m mark.Comma 4 ∷ id 5 ∷ m mark.Assign 6 ∷ m mark.Arrow 7 ∷ id 8 ∷ m mark.Colon 9 ∷ m mark.RightBrace 10 ∷ m mark.Semicolon 11 ∷ [])).stmt ≡ Some (found (st.Select (at 0) (co.Case (at 2) (cm.Assign ((ex.Name (id 3)) ∷ (ex.Name (id 5)) ∷ []) (at 6) (ex.Prefixed (m mark.Arrow 7) (ex.Name (id 8)))) [] ∷ []) (at 10)) (m mark.Semicolon 11 ∷ []) 2)
unfolding rows idents_step type_name_step type_step unnamed_step named_params_step params_step signature_step tag_step field_step fields_step member_step members_step literal_step selected_step block_step received_step head_step bound_step args_step suffix_step suffixes_step primary_step unary_step expr_step operand_step operands_step value_step element_step elements_step exprs_step simple_step const_spec_step const_specs_step type_spec_step type_specs_step var_spec_step var_specs_step decl_step values_step target_step arms_step arm_step tag_value_step guard_step clauses_step types_step type_clauses_step comm_step comm_clauses_step header_step condition_step post_step range_left_step stmt_step stmts_step import_spec_step import_specs_step body_step top_step chunk_step read_one_name read_more_names read_bare read_qualified read_named read_paren_type read_pointer read_slice read_array read_map_type read_channel read_send_channel read_receive_channel read_function_type read_struct_type read_interface_type read_last_type read_more_types read_last_dots read_last_named_dots read_last_named read_more_named read_no_params read_named_list read_unnamed_list read_results read_result read_plain read_a_tag read_no_tag read_named_field read_embedded_field read_qualified_field read_pointer_field read_last_field read_more_fields read_no_fields read_method read_embedded_interface read_qualified_interface read_last_member read_more_members read_no_members read_values_in_braces read_selected_literal read_braces read_received read_basic_literal read_header_name read_literal_of_selected read_name read_literal_of_name read_paren read_literal_of_type read_composite_type read_counted_literal read_other_type read_function_literal read_lone_function_type read_a_bound read_no_bound read_spread read_last_arg read_more_args read_no_args read_selector read_assertion read_open_slice read_open_full_slice read_index read_slice_expr read_full_slice read_call read_more_suffixes read_no_suffixes read_primary read_bare_primary read_signed read_starred read_receiver read_receive_first read_receive read_operand read_more_operands read_no_operands read_value_expr read_value_literal read_plain_element read_keyed_element read_last_element read_more_elements read_no_elements read_one_expr read_more_exprs read_assign read_define read_expression read_send read_step read_update read_implicit read_untyped read_typed_const read_last_const read_more_consts read_no_consts read_definition read_alias read_last_type_spec read_more_type_specs read_no_type_specs read_var_values read_typed_var read_typed_values read_last_var read_more_vars read_no_vars read_const_decl read_const_group read_type_decl read_type_group read_var_decl read_var_group read_some_values read_no_values read_a_target read_no_target read_last_arm read_more_arms read_last_block read_header_arm read_bare_arm read_empty_arm read_a_tag_value read_no_tag_value read_plain_guard read_named_guard read_a_case read_a_default read_no_clauses read_one_type read_more_cases read_a_type_case read_a_type_default read_no_type_clauses read_comm_assign read_comm_define read_comm_send read_comm_receive read_a_comm read_a_comm_default read_no_comms read_init_header read_no_header read_a_condition read_no_condition read_a_post read_no_post read_range_assign read_range_define read_no_range_left read_simple_stmt read_declaration_stmt read_bare_label read_labeled read_go read_defer read_return read_break read_continue read_goto read_fallthrough read_block_stmt read_if_stmt read_header_type_switch read_type_switch read_header_switch read_switch read_select read_endless read_range read_loop read_while read_last_stmt read_more_stmts read_empty_stmt read_no_stmts read_plain_import read_dot_import read_named_import read_last_import read_more_imports read_no_imports read_a_body read_no_body read_declaration read_function read_method_decl read_top_chunk read_package_clause read_import_decl read_import_group mark_at word_at name_at text_at front_at trail_at selector_at label_at defined_at
received_case = refl

-- if a {} else if b {} else {}
pub three_arms : (row (k word.If 0 ∷ id 1 ∷ m mark.LeftBrace 2 ∷ m mark.RightBrace 3 ∷ k word.Else 4 ∷ k word.If 5 ∷ id 6 ∷ m mark.LeftBrace 7 ∷ m mark.RightBrace 8 ∷ k word.Else 9 ∷ m mark.LeftBrace 10 ∷ m mark.RightBrace 11 ∷ m mark.Semicolon 12 ∷ [])).stmt ≡ Some (found (st.If (at 0) (make_arm si.Empty (ex.Name (id 1)) (make_block (at 2) [] (at 3)) ∷ make_arm si.Empty (ex.Name (id 6)) (make_block (at 7) [] (at 8)) ∷ []) (Some (make_block (at 10) [] (at 11)))) (m mark.Semicolon 12 ∷ []) 1)
unfolding rows idents_step type_name_step type_step unnamed_step named_params_step params_step signature_step tag_step field_step fields_step member_step members_step literal_step selected_step block_step received_step head_step bound_step args_step suffix_step suffixes_step primary_step unary_step expr_step operand_step operands_step value_step element_step elements_step exprs_step simple_step const_spec_step const_specs_step type_spec_step type_specs_step var_spec_step var_specs_step decl_step values_step target_step arms_step arm_step tag_value_step guard_step clauses_step types_step type_clauses_step comm_step comm_clauses_step header_step condition_step post_step range_left_step stmt_step stmts_step import_spec_step import_specs_step body_step top_step chunk_step read_one_name read_more_names read_bare read_qualified read_named read_paren_type read_pointer read_slice read_array read_map_type read_channel read_send_channel read_receive_channel read_function_type read_struct_type read_interface_type read_last_type read_more_types read_last_dots read_last_named_dots read_last_named read_more_named read_no_params read_named_list read_unnamed_list read_results read_result read_plain read_a_tag read_no_tag read_named_field read_embedded_field read_qualified_field read_pointer_field read_last_field read_more_fields read_no_fields read_method read_embedded_interface read_qualified_interface read_last_member read_more_members read_no_members read_values_in_braces read_selected_literal read_braces read_received read_basic_literal read_header_name read_literal_of_selected read_name read_literal_of_name read_paren read_literal_of_type read_composite_type read_counted_literal read_other_type read_function_literal read_lone_function_type read_a_bound read_no_bound read_spread read_last_arg read_more_args read_no_args read_selector read_assertion read_open_slice read_open_full_slice read_index read_slice_expr read_full_slice read_call read_more_suffixes read_no_suffixes read_primary read_bare_primary read_signed read_starred read_receiver read_receive_first read_receive read_operand read_more_operands read_no_operands read_value_expr read_value_literal read_plain_element read_keyed_element read_last_element read_more_elements read_no_elements read_one_expr read_more_exprs read_assign read_define read_expression read_send read_step read_update read_implicit read_untyped read_typed_const read_last_const read_more_consts read_no_consts read_definition read_alias read_last_type_spec read_more_type_specs read_no_type_specs read_var_values read_typed_var read_typed_values read_last_var read_more_vars read_no_vars read_const_decl read_const_group read_type_decl read_type_group read_var_decl read_var_group read_some_values read_no_values read_a_target read_no_target read_last_arm read_more_arms read_last_block read_header_arm read_bare_arm read_empty_arm read_a_tag_value read_no_tag_value read_plain_guard read_named_guard read_a_case read_a_default read_no_clauses read_one_type read_more_cases read_a_type_case read_a_type_default read_no_type_clauses read_comm_assign read_comm_define read_comm_send read_comm_receive read_a_comm read_a_comm_default read_no_comms read_init_header read_no_header read_a_condition read_no_condition read_a_post read_no_post read_range_assign read_range_define read_no_range_left read_simple_stmt read_declaration_stmt read_bare_label read_labeled read_go read_defer read_return read_break read_continue read_goto read_fallthrough read_block_stmt read_if_stmt read_header_type_switch read_type_switch read_header_switch read_switch read_select read_endless read_range read_loop read_while read_last_stmt read_more_stmts read_empty_stmt read_no_stmts read_plain_import read_dot_import read_named_import read_last_import read_more_imports read_no_imports read_a_body read_no_body read_declaration read_function read_method_decl read_top_chunk read_package_clause read_import_decl read_import_group mark_at word_at name_at text_at front_at trail_at selector_at label_at defined_at
three_arms = refl

-- {;}: one statement that is nothing
pub empty_statements : (row (m mark.LeftBrace 0 ∷ m mark.Semicolon 1 ∷ m mark.RightBrace 2 ∷ [])).block ≡ Some (found (make_block (at 0) (st.Simple si.Empty ∷ []) (at 2)) ([]) 1)
unfolding rows idents_step type_name_step type_step unnamed_step named_params_step params_step signature_step tag_step field_step fields_step member_step members_step literal_step selected_step block_step received_step head_step bound_step args_step suffix_step suffixes_step primary_step unary_step expr_step operand_step operands_step value_step element_step elements_step exprs_step simple_step const_spec_step const_specs_step type_spec_step type_specs_step var_spec_step var_specs_step decl_step values_step target_step arms_step arm_step tag_value_step guard_step clauses_step types_step type_clauses_step comm_step comm_clauses_step header_step condition_step post_step range_left_step stmt_step stmts_step import_spec_step import_specs_step body_step top_step chunk_step read_one_name read_more_names read_bare read_qualified read_named read_paren_type read_pointer read_slice read_array read_map_type read_channel read_send_channel read_receive_channel read_function_type read_struct_type read_interface_type read_last_type read_more_types read_last_dots read_last_named_dots read_last_named read_more_named read_no_params read_named_list read_unnamed_list read_results read_result read_plain read_a_tag read_no_tag read_named_field read_embedded_field read_qualified_field read_pointer_field read_last_field read_more_fields read_no_fields read_method read_embedded_interface read_qualified_interface read_last_member read_more_members read_no_members read_values_in_braces read_selected_literal read_braces read_received read_basic_literal read_header_name read_literal_of_selected read_name read_literal_of_name read_paren read_literal_of_type read_composite_type read_counted_literal read_other_type read_function_literal read_lone_function_type read_a_bound read_no_bound read_spread read_last_arg read_more_args read_no_args read_selector read_assertion read_open_slice read_open_full_slice read_index read_slice_expr read_full_slice read_call read_more_suffixes read_no_suffixes read_primary read_bare_primary read_signed read_starred read_receiver read_receive_first read_receive read_operand read_more_operands read_no_operands read_value_expr read_value_literal read_plain_element read_keyed_element read_last_element read_more_elements read_no_elements read_one_expr read_more_exprs read_assign read_define read_expression read_send read_step read_update read_implicit read_untyped read_typed_const read_last_const read_more_consts read_no_consts read_definition read_alias read_last_type_spec read_more_type_specs read_no_type_specs read_var_values read_typed_var read_typed_values read_last_var read_more_vars read_no_vars read_const_decl read_const_group read_type_decl read_type_group read_var_decl read_var_group read_some_values read_no_values read_a_target read_no_target read_last_arm read_more_arms read_last_block read_header_arm read_bare_arm read_empty_arm read_a_tag_value read_no_tag_value read_plain_guard read_named_guard read_a_case read_a_default read_no_clauses read_one_type read_more_cases read_a_type_case read_a_type_default read_no_type_clauses read_comm_assign read_comm_define read_comm_send read_comm_receive read_a_comm read_a_comm_default read_no_comms read_init_header read_no_header read_a_condition read_no_condition read_a_post read_no_post read_range_assign read_range_define read_no_range_left read_simple_stmt read_declaration_stmt read_bare_label read_labeled read_go read_defer read_return read_break read_continue read_goto read_fallthrough read_block_stmt read_if_stmt read_header_type_switch read_type_switch read_header_switch read_switch read_select read_endless read_range read_loop read_while read_last_stmt read_more_stmts read_empty_stmt read_no_stmts read_plain_import read_dot_import read_named_import read_last_import read_more_imports read_no_imports read_a_body read_no_body read_declaration read_function read_method_decl read_top_chunk read_package_clause read_import_decl read_import_group mark_at word_at name_at text_at front_at trail_at selector_at label_at defined_at
empty_statements = refl

-- {}: none
pub no_statements : (row (m mark.LeftBrace 0 ∷ m mark.RightBrace 1 ∷ [])).block ≡ Some (found (make_block (at 0) [] (at 1)) ([]) 1)
unfolding rows idents_step type_name_step type_step unnamed_step named_params_step params_step signature_step tag_step field_step fields_step member_step members_step literal_step selected_step block_step received_step head_step bound_step args_step suffix_step suffixes_step primary_step unary_step expr_step operand_step operands_step value_step element_step elements_step exprs_step simple_step const_spec_step const_specs_step type_spec_step type_specs_step var_spec_step var_specs_step decl_step values_step target_step arms_step arm_step tag_value_step guard_step clauses_step types_step type_clauses_step comm_step comm_clauses_step header_step condition_step post_step range_left_step stmt_step stmts_step import_spec_step import_specs_step body_step top_step chunk_step read_one_name read_more_names read_bare read_qualified read_named read_paren_type read_pointer read_slice read_array read_map_type read_channel read_send_channel read_receive_channel read_function_type read_struct_type read_interface_type read_last_type read_more_types read_last_dots read_last_named_dots read_last_named read_more_named read_no_params read_named_list read_unnamed_list read_results read_result read_plain read_a_tag read_no_tag read_named_field read_embedded_field read_qualified_field read_pointer_field read_last_field read_more_fields read_no_fields read_method read_embedded_interface read_qualified_interface read_last_member read_more_members read_no_members read_values_in_braces read_selected_literal read_braces read_received read_basic_literal read_header_name read_literal_of_selected read_name read_literal_of_name read_paren read_literal_of_type read_composite_type read_counted_literal read_other_type read_function_literal read_lone_function_type read_a_bound read_no_bound read_spread read_last_arg read_more_args read_no_args read_selector read_assertion read_open_slice read_open_full_slice read_index read_slice_expr read_full_slice read_call read_more_suffixes read_no_suffixes read_primary read_bare_primary read_signed read_starred read_receiver read_receive_first read_receive read_operand read_more_operands read_no_operands read_value_expr read_value_literal read_plain_element read_keyed_element read_last_element read_more_elements read_no_elements read_one_expr read_more_exprs read_assign read_define read_expression read_send read_step read_update read_implicit read_untyped read_typed_const read_last_const read_more_consts read_no_consts read_definition read_alias read_last_type_spec read_more_type_specs read_no_type_specs read_var_values read_typed_var read_typed_values read_last_var read_more_vars read_no_vars read_const_decl read_const_group read_type_decl read_type_group read_var_decl read_var_group read_some_values read_no_values read_a_target read_no_target read_last_arm read_more_arms read_last_block read_header_arm read_bare_arm read_empty_arm read_a_tag_value read_no_tag_value read_plain_guard read_named_guard read_a_case read_a_default read_no_clauses read_one_type read_more_cases read_a_type_case read_a_type_default read_no_type_clauses read_comm_assign read_comm_define read_comm_send read_comm_receive read_a_comm read_a_comm_default read_no_comms read_init_header read_no_header read_a_condition read_no_condition read_a_post read_no_post read_range_assign read_range_define read_no_range_left read_simple_stmt read_declaration_stmt read_bare_label read_labeled read_go read_defer read_return read_break read_continue read_goto read_fallthrough read_block_stmt read_if_stmt read_header_type_switch read_type_switch read_header_switch read_switch read_select read_endless read_range read_loop read_while read_last_stmt read_more_stmts read_empty_stmt read_no_stmts read_plain_import read_dot_import read_named_import read_last_import read_more_imports read_no_imports read_a_body read_no_body read_declaration read_function read_method_decl read_top_chunk read_package_clause read_import_decl read_import_group mark_at word_at name_at text_at front_at trail_at selector_at label_at defined_at
no_statements = refl

-- {a;b}
pub two_statements : (row (m mark.LeftBrace 0 ∷ id 1 ∷ m mark.Semicolon 2 ∷ id 3 ∷ m mark.RightBrace 4 ∷ [])).block ≡ Some (found (make_block (at 0) (st.Simple (si.Expr (ex.Name (id 1))) ∷ st.Simple (si.Expr (ex.Name (id 3))) ∷ []) (at 4)) ([]) 1)
unfolding rows idents_step type_name_step type_step unnamed_step named_params_step params_step signature_step tag_step field_step fields_step member_step members_step literal_step selected_step block_step received_step head_step bound_step args_step suffix_step suffixes_step primary_step unary_step expr_step operand_step operands_step value_step element_step elements_step exprs_step simple_step const_spec_step const_specs_step type_spec_step type_specs_step var_spec_step var_specs_step decl_step values_step target_step arms_step arm_step tag_value_step guard_step clauses_step types_step type_clauses_step comm_step comm_clauses_step header_step condition_step post_step range_left_step stmt_step stmts_step import_spec_step import_specs_step body_step top_step chunk_step read_one_name read_more_names read_bare read_qualified read_named read_paren_type read_pointer read_slice read_array read_map_type read_channel read_send_channel read_receive_channel read_function_type read_struct_type read_interface_type read_last_type read_more_types read_last_dots read_last_named_dots read_last_named read_more_named read_no_params read_named_list read_unnamed_list read_results read_result read_plain read_a_tag read_no_tag read_named_field read_embedded_field read_qualified_field read_pointer_field read_last_field read_more_fields read_no_fields read_method read_embedded_interface read_qualified_interface read_last_member read_more_members read_no_members read_values_in_braces read_selected_literal read_braces read_received read_basic_literal read_header_name read_literal_of_selected read_name read_literal_of_name read_paren read_literal_of_type read_composite_type read_counted_literal read_other_type read_function_literal read_lone_function_type read_a_bound read_no_bound read_spread read_last_arg read_more_args read_no_args read_selector read_assertion read_open_slice read_open_full_slice read_index read_slice_expr read_full_slice read_call read_more_suffixes read_no_suffixes read_primary read_bare_primary read_signed read_starred read_receiver read_receive_first read_receive read_operand read_more_operands read_no_operands read_value_expr read_value_literal read_plain_element read_keyed_element read_last_element read_more_elements read_no_elements read_one_expr read_more_exprs read_assign read_define read_expression read_send read_step read_update read_implicit read_untyped read_typed_const read_last_const read_more_consts read_no_consts read_definition read_alias read_last_type_spec read_more_type_specs read_no_type_specs read_var_values read_typed_var read_typed_values read_last_var read_more_vars read_no_vars read_const_decl read_const_group read_type_decl read_type_group read_var_decl read_var_group read_some_values read_no_values read_a_target read_no_target read_last_arm read_more_arms read_last_block read_header_arm read_bare_arm read_empty_arm read_a_tag_value read_no_tag_value read_plain_guard read_named_guard read_a_case read_a_default read_no_clauses read_one_type read_more_cases read_a_type_case read_a_type_default read_no_type_clauses read_comm_assign read_comm_define read_comm_send read_comm_receive read_a_comm read_a_comm_default read_no_comms read_init_header read_no_header read_a_condition read_no_condition read_a_post read_no_post read_range_assign read_range_define read_no_range_left read_simple_stmt read_declaration_stmt read_bare_label read_labeled read_go read_defer read_return read_break read_continue read_goto read_fallthrough read_block_stmt read_if_stmt read_header_type_switch read_type_switch read_header_switch read_switch read_select read_endless read_range read_loop read_while read_last_stmt read_more_stmts read_empty_stmt read_no_stmts read_plain_import read_dot_import read_named_import read_last_import read_more_imports read_no_imports read_a_body read_no_body read_declaration read_function read_method_decl read_top_chunk read_package_clause read_import_decl read_import_group mark_at word_at name_at text_at front_at trail_at selector_at label_at defined_at
two_statements = refl

-- for ;; {}
pub loop_of : (row (k word.For 0 ∷ m mark.Semicolon 1 ∷ m mark.Semicolon 2 ∷ m mark.LeftBrace 3 ∷ m mark.RightBrace 4 ∷ m mark.Semicolon 5 ∷ [])).stmt ≡ Some (found (st.Loop (at 0) si.Empty None si.Empty (make_block (at 3) [] (at 4))) (m mark.Semicolon 5 ∷ []) 1)
unfolding rows idents_step type_name_step type_step unnamed_step named_params_step params_step signature_step tag_step field_step fields_step member_step members_step literal_step selected_step block_step received_step head_step bound_step args_step suffix_step suffixes_step primary_step unary_step expr_step operand_step operands_step value_step element_step elements_step exprs_step simple_step const_spec_step const_specs_step type_spec_step type_specs_step var_spec_step var_specs_step decl_step values_step target_step arms_step arm_step tag_value_step guard_step clauses_step types_step type_clauses_step comm_step comm_clauses_step header_step condition_step post_step range_left_step stmt_step stmts_step import_spec_step import_specs_step body_step top_step chunk_step read_one_name read_more_names read_bare read_qualified read_named read_paren_type read_pointer read_slice read_array read_map_type read_channel read_send_channel read_receive_channel read_function_type read_struct_type read_interface_type read_last_type read_more_types read_last_dots read_last_named_dots read_last_named read_more_named read_no_params read_named_list read_unnamed_list read_results read_result read_plain read_a_tag read_no_tag read_named_field read_embedded_field read_qualified_field read_pointer_field read_last_field read_more_fields read_no_fields read_method read_embedded_interface read_qualified_interface read_last_member read_more_members read_no_members read_values_in_braces read_selected_literal read_braces read_received read_basic_literal read_header_name read_literal_of_selected read_name read_literal_of_name read_paren read_literal_of_type read_composite_type read_counted_literal read_other_type read_function_literal read_lone_function_type read_a_bound read_no_bound read_spread read_last_arg read_more_args read_no_args read_selector read_assertion read_open_slice read_open_full_slice read_index read_slice_expr read_full_slice read_call read_more_suffixes read_no_suffixes read_primary read_bare_primary read_signed read_starred read_receiver read_receive_first read_receive read_operand read_more_operands read_no_operands read_value_expr read_value_literal read_plain_element read_keyed_element read_last_element read_more_elements read_no_elements read_one_expr read_more_exprs read_assign read_define read_expression read_send read_step read_update read_implicit read_untyped read_typed_const read_last_const read_more_consts read_no_consts read_definition read_alias read_last_type_spec read_more_type_specs read_no_type_specs read_var_values read_typed_var read_typed_values read_last_var read_more_vars read_no_vars read_const_decl read_const_group read_type_decl read_type_group read_var_decl read_var_group read_some_values read_no_values read_a_target read_no_target read_last_arm read_more_arms read_last_block read_header_arm read_bare_arm read_empty_arm read_a_tag_value read_no_tag_value read_plain_guard read_named_guard read_a_case read_a_default read_no_clauses read_one_type read_more_cases read_a_type_case read_a_type_default read_no_type_clauses read_comm_assign read_comm_define read_comm_send read_comm_receive read_a_comm read_a_comm_default read_no_comms read_init_header read_no_header read_a_condition read_no_condition read_a_post read_no_post read_range_assign read_range_define read_no_range_left read_simple_stmt read_declaration_stmt read_bare_label read_labeled read_go read_defer read_return read_break read_continue read_goto read_fallthrough read_block_stmt read_if_stmt read_header_type_switch read_type_switch read_header_switch read_switch read_select read_endless read_range read_loop read_while read_last_stmt read_more_stmts read_empty_stmt read_no_stmts read_plain_import read_dot_import read_named_import read_last_import read_more_imports read_no_imports read_a_body read_no_body read_declaration read_function read_method_decl read_top_chunk read_package_clause read_import_decl read_import_group mark_at word_at name_at text_at front_at trail_at selector_at label_at defined_at
loop_of = refl

-- for {}
pub endless_of : (row (k word.For 0 ∷ m mark.LeftBrace 1 ∷ m mark.RightBrace 2 ∷ m mark.Semicolon 3 ∷ [])).stmt ≡ Some (found (st.While (at 0) None (make_block (at 1) [] (at 2))) (m mark.Semicolon 3 ∷ []) 1)
unfolding rows idents_step type_name_step type_step unnamed_step named_params_step params_step signature_step tag_step field_step fields_step member_step members_step literal_step selected_step block_step received_step head_step bound_step args_step suffix_step suffixes_step primary_step unary_step expr_step operand_step operands_step value_step element_step elements_step exprs_step simple_step const_spec_step const_specs_step type_spec_step type_specs_step var_spec_step var_specs_step decl_step values_step target_step arms_step arm_step tag_value_step guard_step clauses_step types_step type_clauses_step comm_step comm_clauses_step header_step condition_step post_step range_left_step stmt_step stmts_step import_spec_step import_specs_step body_step top_step chunk_step read_one_name read_more_names read_bare read_qualified read_named read_paren_type read_pointer read_slice read_array read_map_type read_channel read_send_channel read_receive_channel read_function_type read_struct_type read_interface_type read_last_type read_more_types read_last_dots read_last_named_dots read_last_named read_more_named read_no_params read_named_list read_unnamed_list read_results read_result read_plain read_a_tag read_no_tag read_named_field read_embedded_field read_qualified_field read_pointer_field read_last_field read_more_fields read_no_fields read_method read_embedded_interface read_qualified_interface read_last_member read_more_members read_no_members read_values_in_braces read_selected_literal read_braces read_received read_basic_literal read_header_name read_literal_of_selected read_name read_literal_of_name read_paren read_literal_of_type read_composite_type read_counted_literal read_other_type read_function_literal read_lone_function_type read_a_bound read_no_bound read_spread read_last_arg read_more_args read_no_args read_selector read_assertion read_open_slice read_open_full_slice read_index read_slice_expr read_full_slice read_call read_more_suffixes read_no_suffixes read_primary read_bare_primary read_signed read_starred read_receiver read_receive_first read_receive read_operand read_more_operands read_no_operands read_value_expr read_value_literal read_plain_element read_keyed_element read_last_element read_more_elements read_no_elements read_one_expr read_more_exprs read_assign read_define read_expression read_send read_step read_update read_implicit read_untyped read_typed_const read_last_const read_more_consts read_no_consts read_definition read_alias read_last_type_spec read_more_type_specs read_no_type_specs read_var_values read_typed_var read_typed_values read_last_var read_more_vars read_no_vars read_const_decl read_const_group read_type_decl read_type_group read_var_decl read_var_group read_some_values read_no_values read_a_target read_no_target read_last_arm read_more_arms read_last_block read_header_arm read_bare_arm read_empty_arm read_a_tag_value read_no_tag_value read_plain_guard read_named_guard read_a_case read_a_default read_no_clauses read_one_type read_more_cases read_a_type_case read_a_type_default read_no_type_clauses read_comm_assign read_comm_define read_comm_send read_comm_receive read_a_comm read_a_comm_default read_no_comms read_init_header read_no_header read_a_condition read_no_condition read_a_post read_no_post read_range_assign read_range_define read_no_range_left read_simple_stmt read_declaration_stmt read_bare_label read_labeled read_go read_defer read_return read_break read_continue read_goto read_fallthrough read_block_stmt read_if_stmt read_header_type_switch read_type_switch read_header_switch read_switch read_select read_endless read_range read_loop read_while read_last_stmt read_more_stmts read_empty_stmt read_no_stmts read_plain_import read_dot_import read_named_import read_last_import read_more_imports read_no_imports read_a_body read_no_body read_declaration read_function read_method_decl read_top_chunk read_package_clause read_import_decl read_import_group mark_at word_at name_at text_at front_at trail_at selector_at label_at defined_at
endless_of = refl

-- if func() bool {}() {}: a function literal in a header
pub literal_in_header : (row (k word.Func 0 ∷ m mark.LeftParen 1 ∷ m mark.RightParen 2 ∷ id 3 ∷ m mark.LeftBrace 4 ∷ m mark.RightBrace 5 ∷ m mark.LeftParen 6 ∷ m mark.RightParen 7 ∷ m mark.LeftBrace 8 ∷ [])).expr 5 true false ≡ Some (found (ex.Suffixed (ex.Function (at 0) (sg.Result (make_parameters (at 1) [] (at 2)) (ty.Name (id 3))) (make_block (at 4) [] (at 5))) (sf.Call [] None (at 7) ∷ [])) (m mark.LeftBrace 8 ∷ []) 2)
unfolding rows idents_step type_name_step type_step unnamed_step named_params_step params_step signature_step tag_step field_step fields_step member_step members_step literal_step selected_step block_step received_step head_step bound_step args_step suffix_step suffixes_step primary_step unary_step expr_step operand_step operands_step value_step element_step elements_step exprs_step simple_step const_spec_step const_specs_step type_spec_step type_specs_step var_spec_step var_specs_step decl_step values_step target_step arms_step arm_step tag_value_step guard_step clauses_step types_step type_clauses_step comm_step comm_clauses_step header_step condition_step post_step range_left_step stmt_step stmts_step import_spec_step import_specs_step body_step top_step chunk_step read_one_name read_more_names read_bare read_qualified read_named read_paren_type read_pointer read_slice read_array read_map_type read_channel read_send_channel read_receive_channel read_function_type read_struct_type read_interface_type read_last_type read_more_types read_last_dots read_last_named_dots read_last_named read_more_named read_no_params read_named_list read_unnamed_list read_results read_result read_plain read_a_tag read_no_tag read_named_field read_embedded_field read_qualified_field read_pointer_field read_last_field read_more_fields read_no_fields read_method read_embedded_interface read_qualified_interface read_last_member read_more_members read_no_members read_values_in_braces read_selected_literal read_braces read_received read_basic_literal read_header_name read_literal_of_selected read_name read_literal_of_name read_paren read_literal_of_type read_composite_type read_counted_literal read_other_type read_function_literal read_lone_function_type read_a_bound read_no_bound read_spread read_last_arg read_more_args read_no_args read_selector read_assertion read_open_slice read_open_full_slice read_index read_slice_expr read_full_slice read_call read_more_suffixes read_no_suffixes read_primary read_bare_primary read_signed read_starred read_receiver read_receive_first read_receive read_operand read_more_operands read_no_operands read_value_expr read_value_literal read_plain_element read_keyed_element read_last_element read_more_elements read_no_elements read_one_expr read_more_exprs read_assign read_define read_expression read_send read_step read_update read_implicit read_untyped read_typed_const read_last_const read_more_consts read_no_consts read_definition read_alias read_last_type_spec read_more_type_specs read_no_type_specs read_var_values read_typed_var read_typed_values read_last_var read_more_vars read_no_vars read_const_decl read_const_group read_type_decl read_type_group read_var_decl read_var_group read_some_values read_no_values read_a_target read_no_target read_last_arm read_more_arms read_last_block read_header_arm read_bare_arm read_empty_arm read_a_tag_value read_no_tag_value read_plain_guard read_named_guard read_a_case read_a_default read_no_clauses read_one_type read_more_cases read_a_type_case read_a_type_default read_no_type_clauses read_comm_assign read_comm_define read_comm_send read_comm_receive read_a_comm read_a_comm_default read_no_comms read_init_header read_no_header read_a_condition read_no_condition read_a_post read_no_post read_range_assign read_range_define read_no_range_left read_simple_stmt read_declaration_stmt read_bare_label read_labeled read_go read_defer read_return read_break read_continue read_goto read_fallthrough read_block_stmt read_if_stmt read_header_type_switch read_type_switch read_header_switch read_switch read_select read_endless read_range read_loop read_while read_last_stmt read_more_stmts read_empty_stmt read_no_stmts read_plain_import read_dot_import read_named_import read_last_import read_more_imports read_no_imports read_a_body read_no_body read_declaration read_function read_method_decl read_top_chunk read_package_clause read_import_decl read_import_group mark_at word_at name_at text_at front_at trail_at selector_at label_at defined_at
literal_in_header = refl
