-- What does not begin with a token that only joins or ends forms.
use Rattle.std.proofs.Common.{◌≡◌, ℕ, zero, suc, Bool, true, false, List, ◌∷◌, refl, None}
use Rattle.gs_syntax.specs.declared.token.TokenKind.{TokenKind}
use Rattle.gs_syntax.specs.declared.token.TokenKind.TheVariants as kind
use Rattle.gs_syntax.specs.declared.token.Operator.{Operator}
use Rattle.gs_syntax.specs.declared.token.Operator.TheVariants as mark
use Rattle.gs_syntax.specs.declared.token.Keyword.{Keyword}
use Rattle.gs_syntax.specs.declared.token.Keyword.TheVariants as word
use Rattle.gs_syntax.specs.declared.token.Token.{Token}
use Rattle.gs_grammar.specs.Front.{IsFront, is_name, is_text, is_basic, is_sign, is_composite_start, is_other_start, is_decl_start, mark_at, word_at, name_at, text_at, front_at, label_at}
use Rattle.gs_grammar.specs.Steps.{idents_step, read_one_name, read_more_names, type_name_step, read_bare, read_qualified, type_step, read_named, read_paren_type, read_pointer, read_slice, read_array, read_map_type, read_channel, read_send_channel, read_receive_channel, read_function_type, read_struct_type, read_interface_type, unnamed_step, read_last_type, read_more_types, read_last_dots, named_params_step, read_last_named_dots, read_last_named, read_more_named, field_step, read_named_field, read_embedded_field, read_qualified_field, read_pointer_field, member_step, read_method, read_embedded_interface, read_qualified_interface, head_step, read_basic_literal, read_header_name, read_literal_of_selected, read_name, read_literal_of_name, read_paren, read_literal_of_type, read_composite_type, read_counted_literal, read_other_type, read_function_literal, read_lone_function_type, primary_step, read_primary, unary_step, read_bare_primary, read_signed, read_starred, read_receiver, read_receive_first, read_receive, expr_step, exprs_step, read_one_expr, read_more_exprs, value_step, read_value_expr, read_value_literal, element_step, read_plain_element, read_keyed_element, suffix_step, read_selector, read_assertion, read_open_slice, read_open_full_slice, read_index, read_slice_expr, read_full_slice, read_call}
use Rattle.gs_grammar.specs.Reference.{simple_step, read_assign, read_define, read_expression, read_send, read_step, read_update, const_spec_step, read_implicit, read_untyped, read_typed_const, type_spec_step, read_definition, read_alias, var_spec_step, read_var_values, read_typed_var, read_typed_values, decl_step, read_const_decl, read_const_group, read_type_decl, read_type_group, read_var_decl, read_var_group, stmt_step, read_simple_stmt, read_declaration_stmt, read_bare_label, read_labeled, read_go, read_defer, read_return, read_break, read_continue, read_goto, read_fallthrough, read_block_stmt, read_if_stmt, read_header_type_switch, read_type_switch, read_header_switch, read_switch, read_select, read_endless, read_range, read_loop, read_while, types_step, read_one_type, read_more_cases, import_spec_step, read_plain_import, read_dot_import, read_named_import}
use Rattle.gs_grammar.proofs.Common.{no, front-no-mark, front-no-word, front-no-name, front-no-text, front-no-front}
use Rattle.gs_places.specs.Places.{stands}
use Rattle.gs_rows.specs.Joints.{is_joint}

not-name : (k : TokenKind) → is_joint k ≡ true → is_name k ≡ false
not-name (kind.Identifier a) e = absurd (no e)
not-name _ e = refl

not-text : (k : TokenKind) → is_joint k ≡ true → is_text k ≡ false
not-text (kind.Text v) e = absurd (no e)
not-text _ e = refl

not-basic : (k : TokenKind) → is_joint k ≡ true → is_basic k ≡ false
not-basic (kind.Integer v) e = absurd (no e)
not-basic kind.Float e = absurd (no e)
not-basic kind.Imaginary e = absurd (no e)
not-basic (kind.Rune c) e = absurd (no e)
not-basic (kind.Text v) e = absurd (no e)
not-basic _ e = refl

not-sign : (k : TokenKind) → is_joint k ≡ true → is_sign k ≡ false
not-sign (kind.Operator mark.Plus) e = absurd (no e)
not-sign (kind.Operator mark.Minus) e = absurd (no e)
not-sign (kind.Operator mark.Not) e = absurd (no e)
not-sign (kind.Operator mark.Caret) e = absurd (no e)
not-sign (kind.Operator mark.And) e = absurd (no e)
not-sign _ e = refl

not-composite_start : (k : TokenKind) → is_joint k ≡ true → is_composite_start k ≡ false
not-composite_start (kind.Operator mark.LeftBracket) e = absurd (no e)
not-composite_start (kind.Keyword w) e = absurd (no e)
not-composite_start _ e = refl

not-other_start : (k : TokenKind) → is_joint k ≡ true → is_other_start k ≡ false
not-other_start (kind.Keyword w) e = absurd (no e)
not-other_start _ e = refl

not-decl_start : (k : TokenKind) → is_joint k ≡ true → is_decl_start k ≡ false
not-decl_start (kind.Keyword w) e = absurd (no e)
not-decl_start _ e = refl

module _ (x : Token) (s : List Token) (j : is_joint x.kind ≡ true) where
  front : IsFront is_joint x (x ∷ s) s
  front = IsFront.a_front j

  no-mark : (o : Operator) → is_joint (kind.Operator o) ≡ false → mark_at o (x ∷ s) ≡ None
  no-mark o e = front-no-mark o e front

  no-word : (w : Keyword) → word_at w (x ∷ s) ≡ None
  no-word w = front-no-word w refl front

  no-name : name_at (x ∷ s) ≡ None
  no-name = front-no-name not-name front

  no-text : text_at (x ∷ s) ≡ None
  no-text = front-no-text not-text front

  no-front : (h : TokenKind → Bool) → ((k : TokenKind) → is_joint k ≡ true → h k ≡ false) → front_at h (x ∷ s) ≡ None
  no-front h c = front-no-front h c front

  pub no_idents : idents_step s stands x ≡ None
  unfolding idents_step read_one_name read_more_names
  no_idents = rw no-name refl

  pub no_type : type_step s stands x ≡ None
  unfolding type_step read_named type_name_step read_bare read_qualified read_paren_type read_pointer read_slice read_array read_map_type read_channel read_send_channel read_receive_channel read_function_type read_struct_type read_interface_type
  no_type = rw (no-name, no-mark mark.LeftParen refl, no-mark mark.Star refl, no-mark mark.LeftBracket refl, no-mark mark.Arrow refl, no-word word.Map, no-word word.Chan, no-word word.Func, no-word word.Struct, no-word word.Interface) refl

  pub no_unnamed : (v : Bool) → unnamed_step s stands v x ≡ None
  unfolding unnamed_step read_last_type read_more_types read_last_dots
  no_unnamed v = rw (no_type, no-mark mark.Ellipsis refl) refl

  pub no_named_params : (v : Bool) → named_params_step s stands v x ≡ None
  unfolding named_params_step read_last_named_dots read_last_named read_more_named
  no_named_params v = rw no_idents refl

  pub no_field : field_step s stands x ≡ None
  unfolding field_step read_named_field read_embedded_field read_qualified_field read_pointer_field
  no_field = rw (no_idents, no-name, no-mark mark.Star refl) refl

  pub no_member : member_step s stands x ≡ None
  unfolding member_step read_method read_embedded_interface read_qualified_interface
  no_member = rw no-name refl

  no-head : (h : Bool) → head_step s stands h x ≡ None
  unfolding head_step read_basic_literal read_header_name read_literal_of_selected read_name read_literal_of_name read_paren read_literal_of_type read_composite_type read_counted_literal read_other_type read_function_literal read_lone_function_type
  no-head h = rw (no-front is_basic not-basic, no-name, no-mark mark.LeftParen refl, no-front is_composite_start not-composite_start, no-mark mark.LeftBracket refl, no-front is_other_start not-other_start, no-word word.Func) refl

  no-primary : (h : Bool) → primary_step s stands h x ≡ None
  unfolding primary_step read_primary
  no-primary h = rw (no-head h) refl

  pub no_unary : (h w : Bool) → unary_step s stands h w x ≡ None
  unfolding unary_step read_bare_primary read_signed read_starred read_receiver read_receive_first read_receive
  no_unary h w = rw (no-primary h, no-front is_sign not-sign, no-mark mark.Star refl, no-mark mark.Arrow refl) refl

  pub no_expr : (m : ℕ) (h w : Bool) → expr_step s stands m h w x ≡ None
  unfolding expr_step
  no_expr zero h w = no_unary h w
  no_expr (suc m) h w = rw (no_expr m h w) refl

  pub no_exprs : (h : Bool) → exprs_step s stands h x ≡ None
  unfolding exprs_step read_one_expr read_more_exprs
  no_exprs h = rw (no_expr 5 h false) refl

  pub no_element : element_step s stands x ≡ None
  unfolding element_step read_plain_element read_keyed_element value_step read_value_expr read_value_literal
  no_element = rw (no_expr 5 false false, no-mark mark.LeftBrace refl) refl

  pub no_suffix : suffix_step s stands x ≡ None
  unfolding suffix_step read_selector read_assertion read_open_slice read_open_full_slice read_index read_slice_expr read_full_slice read_call
  no_suffix = rw (no-mark mark.Dot refl, no-mark mark.LeftBracket refl, no-mark mark.LeftParen refl) refl

  pub no_simple : (h : Bool) → simple_step s stands h x ≡ None
  unfolding simple_step read_assign read_define read_expression read_send read_step read_update
  no_simple h = rw (no_exprs h, no_expr 5 h false) refl

  no-decl : decl_step s stands x ≡ None
  unfolding decl_step read_const_decl read_const_group read_type_decl read_type_group read_var_decl read_var_group
  no-decl = rw (no-word word.Const, no-word word.«Type», no-word word.Var) refl

  pub no_stmt : stmt_step s stands x ≡ None
  unfolding stmt_step read_simple_stmt read_declaration_stmt read_bare_label read_labeled read_go read_defer read_return read_break read_continue read_goto read_fallthrough read_block_stmt read_if_stmt read_header_type_switch read_type_switch read_header_switch read_switch read_select read_endless read_range read_loop read_while label_at
  no_stmt = rw (no_simple false, no-decl, no-front is_decl_start not-decl_start, no-name, no-word word.Go, no-word word.Defer, no-word word.Return, no-word word.Break, no-word word.Continue, no-word word.Goto, no-word word.Fallthrough, no-mark mark.LeftBrace refl, no-word word.If, no-word word.Switch, no-word word.Select, no-word word.For) refl

  pub no_types : types_step s stands x ≡ None
  unfolding types_step read_one_type read_more_cases
  no_types = rw no_type refl

  pub no_const_spec : (i : Bool) → const_spec_step s stands i x ≡ None
  unfolding const_spec_step read_implicit read_untyped read_typed_const
  no_const_spec i = rw no_idents refl

  pub no_type_spec : type_spec_step s stands x ≡ None
  unfolding type_spec_step read_definition read_alias
  no_type_spec = rw no-name refl

  pub no_var_spec : var_spec_step s stands x ≡ None
  unfolding var_spec_step read_var_values read_typed_var read_typed_values
  no_var_spec = rw no_idents refl

  pub no_import_spec : import_spec_step s stands x ≡ None
  unfolding import_spec_step read_plain_import read_dot_import read_named_import
  no_import_spec = rw (no-text, no-mark mark.Dot refl, no-name) refl
