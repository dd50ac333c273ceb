-- What cannot begin with which token.
use Rattle.std.proofs.Common.{◌≡◌, ℕ, Bool, true, false, List, refl, None}
use Rattle.gs_syntax.specs.declared.token.Span.{Span}
use Rattle.gs_syntax.specs.declared.token.Token.{Token}
use Rattle.gs_syntax.specs.declared.token.Operator.TheVariants as mark
use Rattle.gs_syntax.specs.declared.token.Keyword.TheVariants as word
use Rattle.gs_syntax.specs.declared.token.TokenKind.{TokenKind}
use Rattle.gs_syntax.specs.declared.token.TokenKind.TheVariants as kind
use Rattle.gs_grammar.specs.Front.{token, operator, keyword, is_name, is_text, mark_at, word_at, name_at, text_at, front_at, selector_at, label_at, defined_at, is_basic, is_bound_end, is_composite_start, is_decl_start, is_embed_end, is_field_end, is_goes_on, is_list_end, is_other_start, is_semi, is_sign, is_step, is_stmt_end, is_update}
use Rattle.gs_grammar.specs.Row.{Row}
use Rattle.gs_grammar.specs.Reference.{idents_step, type_name_step, type_step, field_step, member_step, block_step, head_step, primary_step, unary_step, expr_step, value_step, element_step, exprs_step, simple_step, const_spec_step, type_spec_step, var_spec_step, decl_step, stmt_step, import_spec_step, top_step, read_one_name, read_more_names, read_bare, read_qualified, read_named, read_paren_type, read_pointer, read_slice, read_array, read_map_type, read_channel, read_send_channel, read_receive_channel, read_function_type, read_struct_type, read_interface_type, read_named_field, read_embedded_field, read_qualified_field, read_pointer_field, read_method, read_embedded_interface, read_qualified_interface, read_braces, read_basic_literal, read_header_name, read_literal_of_selected, read_name, read_literal_of_name, read_paren, read_literal_of_type, read_composite_type, read_counted_literal, read_other_type, read_function_literal, read_lone_function_type, read_primary, read_bare_primary, read_signed, read_starred, read_receiver, read_receive_first, read_receive, read_value_expr, read_value_literal, read_plain_element, read_keyed_element, read_one_expr, read_more_exprs, read_assign, read_define, read_expression, read_send, read_step, read_update, read_implicit, read_untyped, read_typed_const, read_definition, read_alias, read_var_values, read_typed_var, read_typed_values, read_const_decl, read_const_group, read_type_decl, read_type_group, read_var_decl, read_var_group, read_simple_stmt, read_declaration_stmt, read_bare_label, read_labeled, read_go, read_defer, read_return, read_break, read_continue, read_goto, read_fallthrough, read_block_stmt, read_if_stmt, read_header_type_switch, read_type_switch, read_header_switch, read_switch, read_select, read_endless, read_range, read_loop, read_while, read_plain_import, read_dot_import, read_named_import, read_declaration, read_function, read_method_decl}
use Rattle.gs_grammar.proofs.Common.{no}

pub composite_start-not-basic : (k : TokenKind) → is_composite_start k ≡ true → is_basic k ≡ false
composite_start-not-basic (kind.Operator mark.LeftBracket) e = refl
composite_start-not-basic (kind.Keyword word.Map) e = refl
composite_start-not-basic (kind.Keyword word.Struct) e = refl
composite_start-not-basic _ e = absurd (no e)

pub composite_start-not-name : (k : TokenKind) → is_composite_start k ≡ true → is_name k ≡ false
composite_start-not-name (kind.Operator mark.LeftBracket) e = refl
composite_start-not-name (kind.Keyword word.Map) e = refl
composite_start-not-name (kind.Keyword word.Struct) e = refl
composite_start-not-name _ e = absurd (no e)

pub decl_start-not-name : (k : TokenKind) → is_decl_start k ≡ true → is_name k ≡ false
decl_start-not-name (kind.Keyword word.Const) e = refl
decl_start-not-name (kind.Keyword word.«Type») e = refl
decl_start-not-name (kind.Keyword word.Var) e = refl
decl_start-not-name _ e = absurd (no e)

pub embed_end-not-name : (k : TokenKind) → is_embed_end k ≡ true → is_name k ≡ false
embed_end-not-name (kind.Text v) e = refl
embed_end-not-name (kind.Operator mark.Semicolon) e = refl
embed_end-not-name (kind.Operator mark.RightBrace) e = refl
embed_end-not-name kind.Inserted e = refl
embed_end-not-name _ e = absurd (no e)

pub field_end-not-text : (k : TokenKind) → is_field_end k ≡ true → is_text k ≡ false
field_end-not-text (kind.Operator mark.Semicolon) e = refl
field_end-not-text (kind.Operator mark.RightBrace) e = refl
field_end-not-text kind.Inserted e = refl
field_end-not-text _ e = absurd (no e)

pub list_end-not-semi : (k : TokenKind) → is_list_end k ≡ true → is_semi k ≡ false
list_end-not-semi (kind.Operator mark.RightBrace) e = refl
list_end-not-semi (kind.Keyword word.Case) e = refl
list_end-not-semi (kind.Keyword word.Default) e = refl
list_end-not-semi _ e = absurd (no e)

pub other_start-not-basic : (k : TokenKind) → is_other_start k ≡ true → is_basic k ≡ false
other_start-not-basic (kind.Keyword word.Chan) e = refl
other_start-not-basic (kind.Keyword word.Interface) e = refl
other_start-not-basic _ e = absurd (no e)

pub other_start-not-composite_start : (k : TokenKind) → is_other_start k ≡ true → is_composite_start k ≡ false
other_start-not-composite_start (kind.Keyword word.Chan) e = refl
other_start-not-composite_start (kind.Keyword word.Interface) e = refl
other_start-not-composite_start _ e = absurd (no e)

pub other_start-not-name : (k : TokenKind) → is_other_start k ≡ true → is_name k ≡ false
other_start-not-name (kind.Keyword word.Chan) e = refl
other_start-not-name (kind.Keyword word.Interface) e = refl
other_start-not-name _ e = absurd (no e)

pub semi-is-stmt_end : (k : TokenKind) → is_semi k ≡ true → is_stmt_end k ≡ true
semi-is-stmt_end (kind.Operator mark.Semicolon) e = refl
semi-is-stmt_end kind.Inserted e = refl
semi-is-stmt_end _ e = absurd (no e)

pub semi-not-decl_start : (k : TokenKind) → is_semi k ≡ true → is_decl_start k ≡ false
semi-not-decl_start (kind.Operator mark.Semicolon) e = refl
semi-not-decl_start kind.Inserted e = refl
semi-not-decl_start _ e = absurd (no e)

pub semi-not-name : (k : TokenKind) → is_semi k ≡ true → is_name k ≡ false
semi-not-name (kind.Operator mark.Semicolon) e = refl
semi-not-name kind.Inserted e = refl
semi-not-name _ e = absurd (no e)

pub step-is-goes_on : (k : TokenKind) → is_step k ≡ true → is_goes_on k ≡ true
step-is-goes_on (kind.Operator mark.Increment) e = refl
step-is-goes_on (kind.Operator mark.Decrement) e = refl
step-is-goes_on _ e = absurd (no e)

pub stmt_end-not-decl_start : (k : TokenKind) → is_stmt_end k ≡ true → is_decl_start k ≡ false
stmt_end-not-decl_start (kind.Operator mark.Semicolon) e = refl
stmt_end-not-decl_start (kind.Operator mark.RightBrace) e = refl
stmt_end-not-decl_start kind.Inserted e = refl
stmt_end-not-decl_start _ e = absurd (no e)

pub stmt_end-not-name : (k : TokenKind) → is_stmt_end k ≡ true → is_name k ≡ false
stmt_end-not-name (kind.Operator mark.Semicolon) e = refl
stmt_end-not-name (kind.Operator mark.RightBrace) e = refl
stmt_end-not-name kind.Inserted e = refl
stmt_end-not-name _ e = absurd (no e)

pub update-is-goes_on : (k : TokenKind) → is_update k ≡ true → is_goes_on k ≡ true
update-is-goes_on (kind.Operator mark.PlusAssign) e = refl
update-is-goes_on (kind.Operator mark.MinusAssign) e = refl
update-is-goes_on (kind.Operator mark.StarAssign) e = refl
update-is-goes_on (kind.Operator mark.SlashAssign) e = refl
update-is-goes_on (kind.Operator mark.PercentAssign) e = refl
update-is-goes_on (kind.Operator mark.AndAssign) e = refl
update-is-goes_on (kind.Operator mark.OrAssign) e = refl
update-is-goes_on (kind.Operator mark.CaretAssign) e = refl
update-is-goes_on (kind.Operator mark.ShiftLeftAssign) e = refl
update-is-goes_on (kind.Operator mark.ShiftRightAssign) e = refl
update-is-goes_on (kind.Operator mark.AndNotAssign) e = refl
update-is-goes_on _ e = absurd (no e)

pub update-not-step : (k : TokenKind) → is_update k ≡ true → is_step k ≡ false
update-not-step (kind.Operator mark.PlusAssign) e = refl
update-not-step (kind.Operator mark.MinusAssign) e = refl
update-not-step (kind.Operator mark.StarAssign) e = refl
update-not-step (kind.Operator mark.SlashAssign) e = refl
update-not-step (kind.Operator mark.PercentAssign) e = refl
update-not-step (kind.Operator mark.AndAssign) e = refl
update-not-step (kind.Operator mark.OrAssign) e = refl
update-not-step (kind.Operator mark.CaretAssign) e = refl
update-not-step (kind.Operator mark.ShiftLeftAssign) e = refl
update-not-step (kind.Operator mark.ShiftRightAssign) e = refl
update-not-step (kind.Operator mark.AndNotAssign) e = refl
update-not-step _ e = absurd (no e)

module _ (s : List Token) (at : List Token → Row) where
  pub none-block-semi : (k : TokenKind) (p : Span) → is_semi k ≡ true → block_step s at (token k p) ≡ None
  unfolding block_step read_braces mark_at word_at name_at text_at front_at selector_at label_at defined_at
  none-block-semi (kind.Operator mark.Semicolon) p e = refl
  none-block-semi kind.Inserted p e = refl
  none-block-semi _ p e = absurd (no e)

  pub none-const_spec-i-mark_RightParen : (i : Bool) (p : Span) → const_spec_step s at i (operator mark.RightParen p) ≡ None
  unfolding const_spec_step read_implicit read_untyped read_typed_const idents_step read_one_name read_more_names mark_at word_at name_at text_at front_at selector_at label_at defined_at
  none-const_spec-i-mark_RightParen true p = refl
  none-const_spec-i-mark_RightParen false p = refl

  pub none-element-mark_RightBrace : (p : Span) → element_step s at (operator mark.RightBrace p) ≡ None
  unfolding element_step read_plain_element read_keyed_element value_step read_value_expr read_value_literal expr_step unary_step read_bare_primary read_signed read_starred read_receiver read_receive_first read_receive primary_step read_primary head_step read_basic_literal read_header_name read_literal_of_selected read_name read_literal_of_name read_paren read_literal_of_type read_composite_type read_counted_literal read_other_type read_function_literal read_lone_function_type type_step read_named read_paren_type read_pointer read_slice read_array read_map_type read_channel read_send_channel read_receive_channel read_function_type read_struct_type read_interface_type type_name_step read_bare read_qualified mark_at word_at name_at text_at front_at selector_at label_at defined_at
  none-element-mark_RightBrace p = refl

  pub none-expr-5-false-false-bound_end : (m0 : ℕ) (h0 : Bool) (w0 : Bool) (k : TokenKind) (p : Span) → is_bound_end k ≡ true → expr_step s at 5 false false (token k p) ≡ None
  unfolding expr_step unary_step read_bare_primary read_signed read_starred read_receiver read_receive_first read_receive primary_step read_primary head_step read_basic_literal read_header_name read_literal_of_selected read_name read_literal_of_name read_paren read_literal_of_type read_composite_type read_counted_literal read_other_type read_function_literal read_lone_function_type type_step read_named read_paren_type read_pointer read_slice read_array read_map_type read_channel read_send_channel read_receive_channel read_function_type read_struct_type read_interface_type type_name_step read_bare read_qualified mark_at word_at name_at text_at front_at selector_at label_at defined_at
  none-expr-5-false-false-bound_end m0 h0 w0 (kind.Operator mark.Colon) p e = refl
  none-expr-5-false-false-bound_end m0 h0 w0 (kind.Operator mark.RightBracket) p e = refl
  none-expr-5-false-false-bound_end m0 h0 w0 _ p e = absurd (no e)

  pub none-expr-5-false-false-mark_LeftBrace : (m0 : ℕ) (h0 : Bool) (w0 : Bool) (p : Span) → expr_step s at 5 false false (operator mark.LeftBrace p) ≡ None
  unfolding expr_step unary_step read_bare_primary read_signed read_starred read_receiver read_receive_first read_receive primary_step read_primary head_step read_basic_literal read_header_name read_literal_of_selected read_name read_literal_of_name read_paren read_literal_of_type read_composite_type read_counted_literal read_other_type read_function_literal read_lone_function_type type_step read_named read_paren_type read_pointer read_slice read_array read_map_type read_channel read_send_channel read_receive_channel read_function_type read_struct_type read_interface_type type_name_step read_bare read_qualified mark_at word_at name_at text_at front_at selector_at label_at defined_at
  none-expr-5-false-false-mark_LeftBrace m0 h0 w0 p = refl

  pub none-expr-5-false-true-mark_RightParen : (m0 : ℕ) (h0 : Bool) (w0 : Bool) (p : Span) → expr_step s at 5 false true (operator mark.RightParen p) ≡ None
  unfolding expr_step unary_step read_bare_primary read_signed read_starred read_receiver read_receive_first read_receive primary_step read_primary head_step read_basic_literal read_header_name read_literal_of_selected read_name read_literal_of_name read_paren read_literal_of_type read_composite_type read_counted_literal read_other_type read_function_literal read_lone_function_type type_step read_named read_paren_type read_pointer read_slice read_array read_map_type read_channel read_send_channel read_receive_channel read_function_type read_struct_type read_interface_type type_name_step read_bare read_qualified mark_at word_at name_at text_at front_at selector_at label_at defined_at
  none-expr-5-false-true-mark_RightParen m0 h0 w0 p = refl

  pub none-expr-5-true-false-mark_LeftBrace : (m0 : ℕ) (h0 : Bool) (w0 : Bool) (p : Span) → expr_step s at 5 true false (operator mark.LeftBrace p) ≡ None
  unfolding expr_step unary_step read_bare_primary read_signed read_starred read_receiver read_receive_first read_receive primary_step read_primary head_step read_basic_literal read_header_name read_literal_of_selected read_name read_literal_of_name read_paren read_literal_of_type read_composite_type read_counted_literal read_other_type read_function_literal read_lone_function_type type_step read_named read_paren_type read_pointer read_slice read_array read_map_type read_channel read_send_channel read_receive_channel read_function_type read_struct_type read_interface_type type_name_step read_bare read_qualified mark_at word_at name_at text_at front_at selector_at label_at defined_at
  none-expr-5-true-false-mark_LeftBrace m0 h0 w0 p = refl

  pub none-expr-5-true-false-semi : (m0 : ℕ) (h0 : Bool) (w0 : Bool) (k : TokenKind) (p : Span) → is_semi k ≡ true → expr_step s at 5 true false (token k p) ≡ None
  unfolding expr_step unary_step read_bare_primary read_signed read_starred read_receiver read_receive_first read_receive primary_step read_primary head_step read_basic_literal read_header_name read_literal_of_selected read_name read_literal_of_name read_paren read_literal_of_type read_composite_type read_counted_literal read_other_type read_function_literal read_lone_function_type type_step read_named read_paren_type read_pointer read_slice read_array read_map_type read_channel read_send_channel read_receive_channel read_function_type read_struct_type read_interface_type type_name_step read_bare read_qualified mark_at word_at name_at text_at front_at selector_at label_at defined_at
  none-expr-5-true-false-semi m0 h0 w0 (kind.Operator mark.Semicolon) p e = refl
  none-expr-5-true-false-semi m0 h0 w0 kind.Inserted p e = refl
  none-expr-5-true-false-semi m0 h0 w0 _ p e = absurd (no e)

  pub none-exprs-false-stmt_end : (h0 : Bool) (k : TokenKind) (p : Span) → is_stmt_end k ≡ true → exprs_step s at false (token k p) ≡ None
  unfolding exprs_step read_one_expr read_more_exprs expr_step unary_step read_bare_primary read_signed read_starred read_receiver read_receive_first read_receive primary_step read_primary head_step read_basic_literal read_header_name read_literal_of_selected read_name read_literal_of_name read_paren read_literal_of_type read_composite_type read_counted_literal read_other_type read_function_literal read_lone_function_type type_step read_named read_paren_type read_pointer read_slice read_array read_map_type read_channel read_send_channel read_receive_channel read_function_type read_struct_type read_interface_type type_name_step read_bare read_qualified mark_at word_at name_at text_at front_at selector_at label_at defined_at
  none-exprs-false-stmt_end h0 (kind.Operator mark.Semicolon) p e = refl
  none-exprs-false-stmt_end h0 (kind.Operator mark.RightBrace) p e = refl
  none-exprs-false-stmt_end h0 kind.Inserted p e = refl
  none-exprs-false-stmt_end h0 _ p e = absurd (no e)

  pub none-exprs-true-word_Range : (h0 : Bool) (p : Span) → exprs_step s at true (keyword word.Range p) ≡ None
  unfolding exprs_step read_one_expr read_more_exprs expr_step unary_step read_bare_primary read_signed read_starred read_receiver read_receive_first read_receive primary_step read_primary head_step read_basic_literal read_header_name read_literal_of_selected read_name read_literal_of_name read_paren read_literal_of_type read_composite_type read_counted_literal read_other_type read_function_literal read_lone_function_type type_step read_named read_paren_type read_pointer read_slice read_array read_map_type read_channel read_send_channel read_receive_channel read_function_type read_struct_type read_interface_type type_name_step read_bare read_qualified mark_at word_at name_at text_at front_at selector_at label_at defined_at
  none-exprs-true-word_Range h0 p = refl

  pub none-field-mark_RightBrace : (p : Span) → field_step s at (operator mark.RightBrace p) ≡ None
  unfolding field_step read_named_field read_embedded_field read_qualified_field read_pointer_field idents_step read_one_name read_more_names mark_at word_at name_at text_at front_at selector_at label_at defined_at
  none-field-mark_RightBrace p = refl

  pub none-idents-mark_Star : (p : Span) → idents_step s at (operator mark.Star p) ≡ None
  unfolding idents_step read_one_name read_more_names mark_at word_at name_at text_at front_at selector_at label_at defined_at
  none-idents-mark_Star p = refl

  pub none-import_spec-mark_RightParen : (p : Span) → import_spec_step s at (operator mark.RightParen p) ≡ None
  unfolding import_spec_step read_plain_import read_dot_import read_named_import mark_at word_at name_at text_at front_at selector_at label_at defined_at
  none-import_spec-mark_RightParen p = refl

  pub none-member-mark_RightBrace : (p : Span) → member_step s at (operator mark.RightBrace p) ≡ None
  unfolding member_step read_method read_embedded_interface read_qualified_interface mark_at word_at name_at text_at front_at selector_at label_at defined_at
  none-member-mark_RightBrace p = refl

  pub none-primary-h-mark_Arrow : (h : Bool) (p : Span) → primary_step s at h (operator mark.Arrow p) ≡ None
  unfolding primary_step read_primary head_step read_basic_literal read_header_name read_literal_of_selected read_name read_literal_of_name read_paren read_literal_of_type read_composite_type read_counted_literal read_other_type read_function_literal read_lone_function_type type_step read_named read_paren_type read_pointer read_slice read_array read_map_type read_channel read_send_channel read_receive_channel read_function_type read_struct_type read_interface_type type_name_step read_bare read_qualified mark_at word_at name_at text_at front_at selector_at label_at defined_at
  none-primary-h-mark_Arrow true p = refl
  none-primary-h-mark_Arrow false p = refl

  pub none-primary-h-mark_Star : (h : Bool) (p : Span) → primary_step s at h (operator mark.Star p) ≡ None
  unfolding primary_step read_primary head_step read_basic_literal read_header_name read_literal_of_selected read_name read_literal_of_name read_paren read_literal_of_type read_composite_type read_counted_literal read_other_type read_function_literal read_lone_function_type type_step read_named read_paren_type read_pointer read_slice read_array read_map_type read_channel read_send_channel read_receive_channel read_function_type read_struct_type read_interface_type type_name_step read_bare read_qualified mark_at word_at name_at text_at front_at selector_at label_at defined_at
  none-primary-h-mark_Star true p = refl
  none-primary-h-mark_Star false p = refl

  pub none-primary-h-sign : (h : Bool) (k : TokenKind) (p : Span) → is_sign k ≡ true → primary_step s at h (token k p) ≡ None
  unfolding primary_step read_primary head_step read_basic_literal read_header_name read_literal_of_selected read_name read_literal_of_name read_paren read_literal_of_type read_composite_type read_counted_literal read_other_type read_function_literal read_lone_function_type type_step read_named read_paren_type read_pointer read_slice read_array read_map_type read_channel read_send_channel read_receive_channel read_function_type read_struct_type read_interface_type type_name_step read_bare read_qualified mark_at word_at name_at text_at front_at selector_at label_at defined_at
  none-primary-h-sign true (kind.Operator mark.Plus) p e = refl
  none-primary-h-sign false (kind.Operator mark.Plus) p e = refl
  none-primary-h-sign true (kind.Operator mark.Minus) p e = refl
  none-primary-h-sign false (kind.Operator mark.Minus) p e = refl
  none-primary-h-sign true (kind.Operator mark.Not) p e = refl
  none-primary-h-sign false (kind.Operator mark.Not) p e = refl
  none-primary-h-sign true (kind.Operator mark.Caret) p e = refl
  none-primary-h-sign false (kind.Operator mark.Caret) p e = refl
  none-primary-h-sign true (kind.Operator mark.And) p e = refl
  none-primary-h-sign false (kind.Operator mark.And) p e = refl
  none-primary-h-sign h _ p e = absurd (no e)

  pub none-simple-false-decl_start : (h0 : Bool) (k : TokenKind) (p : Span) → is_decl_start k ≡ true → simple_step s at false (token k p) ≡ None
  unfolding simple_step read_assign read_define read_expression read_send read_step read_update expr_step unary_step read_bare_primary read_signed read_starred read_receiver read_receive_first read_receive primary_step read_primary head_step read_basic_literal read_header_name read_literal_of_selected read_name read_literal_of_name read_paren read_literal_of_type read_composite_type read_counted_literal read_other_type read_function_literal read_lone_function_type type_step read_named read_paren_type read_pointer read_slice read_array read_map_type read_channel read_send_channel read_receive_channel read_function_type read_struct_type read_interface_type type_name_step read_bare read_qualified exprs_step read_one_expr read_more_exprs mark_at word_at name_at text_at front_at selector_at label_at defined_at
  none-simple-false-decl_start h0 (kind.Keyword word.Const) p e = refl
  none-simple-false-decl_start h0 (kind.Keyword word.«Type») p e = refl
  none-simple-false-decl_start h0 (kind.Keyword word.Var) p e = refl
  none-simple-false-decl_start h0 _ p e = absurd (no e)

  pub none-simple-false-mark_LeftBrace : (h0 : Bool) (p : Span) → simple_step s at false (operator mark.LeftBrace p) ≡ None
  unfolding simple_step read_assign read_define read_expression read_send read_step read_update expr_step unary_step read_bare_primary read_signed read_starred read_receiver read_receive_first read_receive primary_step read_primary head_step read_basic_literal read_header_name read_literal_of_selected read_name read_literal_of_name read_paren read_literal_of_type read_composite_type read_counted_literal read_other_type read_function_literal read_lone_function_type type_step read_named read_paren_type read_pointer read_slice read_array read_map_type read_channel read_send_channel read_receive_channel read_function_type read_struct_type read_interface_type type_name_step read_bare read_qualified exprs_step read_one_expr read_more_exprs mark_at word_at name_at text_at front_at selector_at label_at defined_at
  none-simple-false-mark_LeftBrace h0 p = refl

  pub none-simple-false-word_Break : (h0 : Bool) (p : Span) → simple_step s at false (keyword word.Break p) ≡ None
  unfolding simple_step read_assign read_define read_expression read_send read_step read_update expr_step unary_step read_bare_primary read_signed read_starred read_receiver read_receive_first read_receive primary_step read_primary head_step read_basic_literal read_header_name read_literal_of_selected read_name read_literal_of_name read_paren read_literal_of_type read_composite_type read_counted_literal read_other_type read_function_literal read_lone_function_type type_step read_named read_paren_type read_pointer read_slice read_array read_map_type read_channel read_send_channel read_receive_channel read_function_type read_struct_type read_interface_type type_name_step read_bare read_qualified exprs_step read_one_expr read_more_exprs mark_at word_at name_at text_at front_at selector_at label_at defined_at
  none-simple-false-word_Break h0 p = refl

  pub none-simple-false-word_Continue : (h0 : Bool) (p : Span) → simple_step s at false (keyword word.Continue p) ≡ None
  unfolding simple_step read_assign read_define read_expression read_send read_step read_update expr_step unary_step read_bare_primary read_signed read_starred read_receiver read_receive_first read_receive primary_step read_primary head_step read_basic_literal read_header_name read_literal_of_selected read_name read_literal_of_name read_paren read_literal_of_type read_composite_type read_counted_literal read_other_type read_function_literal read_lone_function_type type_step read_named read_paren_type read_pointer read_slice read_array read_map_type read_channel read_send_channel read_receive_channel read_function_type read_struct_type read_interface_type type_name_step read_bare read_qualified exprs_step read_one_expr read_more_exprs mark_at word_at name_at text_at front_at selector_at label_at defined_at
  none-simple-false-word_Continue h0 p = refl

  pub none-simple-false-word_Defer : (h0 : Bool) (p : Span) → simple_step s at false (keyword word.Defer p) ≡ None
  unfolding simple_step read_assign read_define read_expression read_send read_step read_update expr_step unary_step read_bare_primary read_signed read_starred read_receiver read_receive_first read_receive primary_step read_primary head_step read_basic_literal read_header_name read_literal_of_selected read_name read_literal_of_name read_paren read_literal_of_type read_composite_type read_counted_literal read_other_type read_function_literal read_lone_function_type type_step read_named read_paren_type read_pointer read_slice read_array read_map_type read_channel read_send_channel read_receive_channel read_function_type read_struct_type read_interface_type type_name_step read_bare read_qualified exprs_step read_one_expr read_more_exprs mark_at word_at name_at text_at front_at selector_at label_at defined_at
  none-simple-false-word_Defer h0 p = refl

  pub none-simple-false-word_Fallthrough : (h0 : Bool) (p : Span) → simple_step s at false (keyword word.Fallthrough p) ≡ None
  unfolding simple_step read_assign read_define read_expression read_send read_step read_update expr_step unary_step read_bare_primary read_signed read_starred read_receiver read_receive_first read_receive primary_step read_primary head_step read_basic_literal read_header_name read_literal_of_selected read_name read_literal_of_name read_paren read_literal_of_type read_composite_type read_counted_literal read_other_type read_function_literal read_lone_function_type type_step read_named read_paren_type read_pointer read_slice read_array read_map_type read_channel read_send_channel read_receive_channel read_function_type read_struct_type read_interface_type type_name_step read_bare read_qualified exprs_step read_one_expr read_more_exprs mark_at word_at name_at text_at front_at selector_at label_at defined_at
  none-simple-false-word_Fallthrough h0 p = refl

  pub none-simple-false-word_For : (h0 : Bool) (p : Span) → simple_step s at false (keyword word.For p) ≡ None
  unfolding simple_step read_assign read_define read_expression read_send read_step read_update expr_step unary_step read_bare_primary read_signed read_starred read_receiver read_receive_first read_receive primary_step read_primary head_step read_basic_literal read_header_name read_literal_of_selected read_name read_literal_of_name read_paren read_literal_of_type read_composite_type read_counted_literal read_other_type read_function_literal read_lone_function_type type_step read_named read_paren_type read_pointer read_slice read_array read_map_type read_channel read_send_channel read_receive_channel read_function_type read_struct_type read_interface_type type_name_step read_bare read_qualified exprs_step read_one_expr read_more_exprs mark_at word_at name_at text_at front_at selector_at label_at defined_at
  none-simple-false-word_For h0 p = refl

  pub none-simple-false-word_Go : (h0 : Bool) (p : Span) → simple_step s at false (keyword word.Go p) ≡ None
  unfolding simple_step read_assign read_define read_expression read_send read_step read_update expr_step unary_step read_bare_primary read_signed read_starred read_receiver read_receive_first read_receive primary_step read_primary head_step read_basic_literal read_header_name read_literal_of_selected read_name read_literal_of_name read_paren read_literal_of_type read_composite_type read_counted_literal read_other_type read_function_literal read_lone_function_type type_step read_named read_paren_type read_pointer read_slice read_array read_map_type read_channel read_send_channel read_receive_channel read_function_type read_struct_type read_interface_type type_name_step read_bare read_qualified exprs_step read_one_expr read_more_exprs mark_at word_at name_at text_at front_at selector_at label_at defined_at
  none-simple-false-word_Go h0 p = refl

  pub none-simple-false-word_Goto : (h0 : Bool) (p : Span) → simple_step s at false (keyword word.Goto p) ≡ None
  unfolding simple_step read_assign read_define read_expression read_send read_step read_update expr_step unary_step read_bare_primary read_signed read_starred read_receiver read_receive_first read_receive primary_step read_primary head_step read_basic_literal read_header_name read_literal_of_selected read_name read_literal_of_name read_paren read_literal_of_type read_composite_type read_counted_literal read_other_type read_function_literal read_lone_function_type type_step read_named read_paren_type read_pointer read_slice read_array read_map_type read_channel read_send_channel read_receive_channel read_function_type read_struct_type read_interface_type type_name_step read_bare read_qualified exprs_step read_one_expr read_more_exprs mark_at word_at name_at text_at front_at selector_at label_at defined_at
  none-simple-false-word_Goto h0 p = refl

  pub none-simple-false-word_If : (h0 : Bool) (p : Span) → simple_step s at false (keyword word.If p) ≡ None
  unfolding simple_step read_assign read_define read_expression read_send read_step read_update expr_step unary_step read_bare_primary read_signed read_starred read_receiver read_receive_first read_receive primary_step read_primary head_step read_basic_literal read_header_name read_literal_of_selected read_name read_literal_of_name read_paren read_literal_of_type read_composite_type read_counted_literal read_other_type read_function_literal read_lone_function_type type_step read_named read_paren_type read_pointer read_slice read_array read_map_type read_channel read_send_channel read_receive_channel read_function_type read_struct_type read_interface_type type_name_step read_bare read_qualified exprs_step read_one_expr read_more_exprs mark_at word_at name_at text_at front_at selector_at label_at defined_at
  none-simple-false-word_If h0 p = refl

  pub none-simple-false-word_Return : (h0 : Bool) (p : Span) → simple_step s at false (keyword word.Return p) ≡ None
  unfolding simple_step read_assign read_define read_expression read_send read_step read_update expr_step unary_step read_bare_primary read_signed read_starred read_receiver read_receive_first read_receive primary_step read_primary head_step read_basic_literal read_header_name read_literal_of_selected read_name read_literal_of_name read_paren read_literal_of_type read_composite_type read_counted_literal read_other_type read_function_literal read_lone_function_type type_step read_named read_paren_type read_pointer read_slice read_array read_map_type read_channel read_send_channel read_receive_channel read_function_type read_struct_type read_interface_type type_name_step read_bare read_qualified exprs_step read_one_expr read_more_exprs mark_at word_at name_at text_at front_at selector_at label_at defined_at
  none-simple-false-word_Return h0 p = refl

  pub none-simple-false-word_Select : (h0 : Bool) (p : Span) → simple_step s at false (keyword word.Select p) ≡ None
  unfolding simple_step read_assign read_define read_expression read_send read_step read_update expr_step unary_step read_bare_primary read_signed read_starred read_receiver read_receive_first read_receive primary_step read_primary head_step read_basic_literal read_header_name read_literal_of_selected read_name read_literal_of_name read_paren read_literal_of_type read_composite_type read_counted_literal read_other_type read_function_literal read_lone_function_type type_step read_named read_paren_type read_pointer read_slice read_array read_map_type read_channel read_send_channel read_receive_channel read_function_type read_struct_type read_interface_type type_name_step read_bare read_qualified exprs_step read_one_expr read_more_exprs mark_at word_at name_at text_at front_at selector_at label_at defined_at
  none-simple-false-word_Select h0 p = refl

  pub none-simple-false-word_Switch : (h0 : Bool) (p : Span) → simple_step s at false (keyword word.Switch p) ≡ None
  unfolding simple_step read_assign read_define read_expression read_send read_step read_update expr_step unary_step read_bare_primary read_signed read_starred read_receiver read_receive_first read_receive primary_step read_primary head_step read_basic_literal read_header_name read_literal_of_selected read_name read_literal_of_name read_paren read_literal_of_type read_composite_type read_counted_literal read_other_type read_function_literal read_lone_function_type type_step read_named read_paren_type read_pointer read_slice read_array read_map_type read_channel read_send_channel read_receive_channel read_function_type read_struct_type read_interface_type type_name_step read_bare read_qualified exprs_step read_one_expr read_more_exprs mark_at word_at name_at text_at front_at selector_at label_at defined_at
  none-simple-false-word_Switch h0 p = refl

  pub none-simple-true-mark_LeftBrace : (h0 : Bool) (p : Span) → simple_step s at true (operator mark.LeftBrace p) ≡ None
  unfolding simple_step read_assign read_define read_expression read_send read_step read_update expr_step unary_step read_bare_primary read_signed read_starred read_receiver read_receive_first read_receive primary_step read_primary head_step read_basic_literal read_header_name read_literal_of_selected read_name read_literal_of_name read_paren read_literal_of_type read_composite_type read_counted_literal read_other_type read_function_literal read_lone_function_type type_step read_named read_paren_type read_pointer read_slice read_array read_map_type read_channel read_send_channel read_receive_channel read_function_type read_struct_type read_interface_type type_name_step read_bare read_qualified exprs_step read_one_expr read_more_exprs mark_at word_at name_at text_at front_at selector_at label_at defined_at
  none-simple-true-mark_LeftBrace h0 p = refl

  pub none-simple-true-semi : (h0 : Bool) (k : TokenKind) (p : Span) → is_semi k ≡ true → simple_step s at true (token k p) ≡ None
  unfolding simple_step read_assign read_define read_expression read_send read_step read_update expr_step unary_step read_bare_primary read_signed read_starred read_receiver read_receive_first read_receive primary_step read_primary head_step read_basic_literal read_header_name read_literal_of_selected read_name read_literal_of_name read_paren read_literal_of_type read_composite_type read_counted_literal read_other_type read_function_literal read_lone_function_type type_step read_named read_paren_type read_pointer read_slice read_array read_map_type read_channel read_send_channel read_receive_channel read_function_type read_struct_type read_interface_type type_name_step read_bare read_qualified exprs_step read_one_expr read_more_exprs mark_at word_at name_at text_at front_at selector_at label_at defined_at
  none-simple-true-semi h0 (kind.Operator mark.Semicolon) p e = refl
  none-simple-true-semi h0 kind.Inserted p e = refl
  none-simple-true-semi h0 _ p e = absurd (no e)

  pub none-stmt-list_end : (k : TokenKind) (p : Span) → is_list_end k ≡ true → stmt_step s at (token k p) ≡ None
  unfolding stmt_step read_simple_stmt read_declaration_stmt read_bare_label read_labeled read_go read_defer read_return read_break read_continue read_goto read_fallthrough read_block_stmt read_if_stmt read_header_type_switch read_type_switch read_header_switch read_switch read_select read_endless read_range read_loop read_while decl_step read_const_decl read_const_group read_type_decl read_type_group read_var_decl read_var_group simple_step read_assign read_define read_expression read_send read_step read_update expr_step unary_step read_bare_primary read_signed read_starred read_receiver read_receive_first read_receive primary_step read_primary head_step read_basic_literal read_header_name read_literal_of_selected read_name read_literal_of_name read_paren read_literal_of_type read_composite_type read_counted_literal read_other_type read_function_literal read_lone_function_type type_step read_named read_paren_type read_pointer read_slice read_array read_map_type read_channel read_send_channel read_receive_channel read_function_type read_struct_type read_interface_type type_name_step read_bare read_qualified exprs_step read_one_expr read_more_exprs mark_at word_at name_at text_at front_at selector_at label_at defined_at
  none-stmt-list_end (kind.Operator mark.RightBrace) p e = refl
  none-stmt-list_end (kind.Keyword word.Case) p e = refl
  none-stmt-list_end (kind.Keyword word.Default) p e = refl
  none-stmt-list_end _ p e = absurd (no e)

  pub none-stmt-semi : (k : TokenKind) (p : Span) → is_semi k ≡ true → stmt_step s at (token k p) ≡ None
  unfolding stmt_step read_simple_stmt read_declaration_stmt read_bare_label read_labeled read_go read_defer read_return read_break read_continue read_goto read_fallthrough read_block_stmt read_if_stmt read_header_type_switch read_type_switch read_header_switch read_switch read_select read_endless read_range read_loop read_while decl_step read_const_decl read_const_group read_type_decl read_type_group read_var_decl read_var_group simple_step read_assign read_define read_expression read_send read_step read_update expr_step unary_step read_bare_primary read_signed read_starred read_receiver read_receive_first read_receive primary_step read_primary head_step read_basic_literal read_header_name read_literal_of_selected read_name read_literal_of_name read_paren read_literal_of_type read_composite_type read_counted_literal read_other_type read_function_literal read_lone_function_type type_step read_named read_paren_type read_pointer read_slice read_array read_map_type read_channel read_send_channel read_receive_channel read_function_type read_struct_type read_interface_type type_name_step read_bare read_qualified exprs_step read_one_expr read_more_exprs mark_at word_at name_at text_at front_at selector_at label_at defined_at
  none-stmt-semi (kind.Operator mark.Semicolon) p e = refl
  none-stmt-semi kind.Inserted p e = refl
  none-stmt-semi _ p e = absurd (no e)

  pub none-top-word_Import : (p : Span) → top_step s at (keyword word.Import p) ≡ None
  unfolding top_step read_declaration read_function read_method_decl decl_step read_const_decl read_const_group read_type_decl read_type_group read_var_decl read_var_group mark_at word_at name_at text_at front_at selector_at label_at defined_at
  none-top-word_Import p = refl

  pub none-top-word_Package : (p : Span) → top_step s at (keyword word.Package p) ≡ None
  unfolding top_step read_declaration read_function read_method_decl decl_step read_const_decl read_const_group read_type_decl read_type_group read_var_decl read_var_group mark_at word_at name_at text_at front_at selector_at label_at defined_at
  none-top-word_Package p = refl

  pub none-type-mark_Ellipsis : (p : Span) → type_step s at (operator mark.Ellipsis p) ≡ None
  unfolding type_step read_named read_paren_type read_pointer read_slice read_array read_map_type read_channel read_send_channel read_receive_channel read_function_type read_struct_type read_interface_type type_name_step read_bare read_qualified mark_at word_at name_at text_at front_at selector_at label_at defined_at
  none-type-mark_Ellipsis p = refl

  pub none-type_name-mark_Arrow : (p : Span) → type_name_step s at (operator mark.Arrow p) ≡ None
  unfolding type_name_step read_bare read_qualified mark_at word_at name_at text_at front_at selector_at label_at defined_at
  none-type_name-mark_Arrow p = refl

  pub none-type_name-mark_LeftBracket : (p : Span) → type_name_step s at (operator mark.LeftBracket p) ≡ None
  unfolding type_name_step read_bare read_qualified mark_at word_at name_at text_at front_at selector_at label_at defined_at
  none-type_name-mark_LeftBracket p = refl

  pub none-type_name-mark_LeftParen : (p : Span) → type_name_step s at (operator mark.LeftParen p) ≡ None
  unfolding type_name_step read_bare read_qualified mark_at word_at name_at text_at front_at selector_at label_at defined_at
  none-type_name-mark_LeftParen p = refl

  pub none-type_name-mark_Star : (p : Span) → type_name_step s at (operator mark.Star p) ≡ None
  unfolding type_name_step read_bare read_qualified mark_at word_at name_at text_at front_at selector_at label_at defined_at
  none-type_name-mark_Star p = refl

  pub none-type_name-word_Chan : (p : Span) → type_name_step s at (keyword word.Chan p) ≡ None
  unfolding type_name_step read_bare read_qualified mark_at word_at name_at text_at front_at selector_at label_at defined_at
  none-type_name-word_Chan p = refl

  pub none-type_name-word_Func : (p : Span) → type_name_step s at (keyword word.Func p) ≡ None
  unfolding type_name_step read_bare read_qualified mark_at word_at name_at text_at front_at selector_at label_at defined_at
  none-type_name-word_Func p = refl

  pub none-type_name-word_Interface : (p : Span) → type_name_step s at (keyword word.Interface p) ≡ None
  unfolding type_name_step read_bare read_qualified mark_at word_at name_at text_at front_at selector_at label_at defined_at
  none-type_name-word_Interface p = refl

  pub none-type_name-word_Map : (p : Span) → type_name_step s at (keyword word.Map p) ≡ None
  unfolding type_name_step read_bare read_qualified mark_at word_at name_at text_at front_at selector_at label_at defined_at
  none-type_name-word_Map p = refl

  pub none-type_name-word_Struct : (p : Span) → type_name_step s at (keyword word.Struct p) ≡ None
  unfolding type_name_step read_bare read_qualified mark_at word_at name_at text_at front_at selector_at label_at defined_at
  none-type_name-word_Struct p = refl

  pub none-type_spec-mark_RightParen : (p : Span) → type_spec_step s at (operator mark.RightParen p) ≡ None
  unfolding type_spec_step read_definition read_alias mark_at word_at name_at text_at front_at selector_at label_at defined_at
  none-type_spec-mark_RightParen p = refl

  pub none-var_spec-mark_RightParen : (p : Span) → var_spec_step s at (operator mark.RightParen p) ≡ None
  unfolding var_spec_step read_var_values read_typed_var read_typed_values idents_step read_one_name read_more_names mark_at word_at name_at text_at front_at selector_at label_at defined_at
  none-var_spec-mark_RightParen p = refl
