-- What stands at a place, from what stands at later ones: types and expressions.
use Rattle.std.specs.Prelude.{ℕ, zero, suc, max, Bool, true, false, not, List, [], ◌∷◌, Option, Some, None, is_none}
use Rattle.gs_syntax.specs.declared.token.Span.{Span}
use Rattle.gs_syntax.specs.declared.token.Token.{Token}
use Rattle.gs_syntax.specs.declared.token.Operator.TheVariants as mark
use Rattle.gs_syntax.specs.declared.token.Keyword.TheVariants as word
use Rattle.gs_grammar.specs.declared.trees.TypeExpr.{TypeExpr}
use Rattle.gs_grammar.specs.declared.trees.TypeExpr.TheVariants as ty
use Rattle.gs_grammar.specs.declared.trees.Signature.{Signature}
use Rattle.gs_grammar.specs.declared.trees.Signature.TheVariants as sg
use Rattle.gs_grammar.specs.declared.trees.Parameters.{Parameters}
use Rattle.gs_grammar.specs.declared.trees.Parameter.{Parameter}
use Rattle.gs_grammar.specs.declared.trees.Parameter.TheVariants as pa
use Rattle.gs_grammar.specs.declared.trees.Field.{Field}
use Rattle.gs_grammar.specs.declared.trees.Field.TheVariants as fi
use Rattle.gs_grammar.specs.declared.trees.Member.{Member}
use Rattle.gs_grammar.specs.declared.trees.Member.TheVariants as me
use Rattle.gs_grammar.specs.declared.trees.Expr.{Expr}
use Rattle.gs_grammar.specs.declared.trees.Expr.TheVariants as ex
use Rattle.gs_grammar.specs.declared.trees.Suffix.{Suffix}
use Rattle.gs_grammar.specs.declared.trees.Suffix.TheVariants as sf
use Rattle.gs_grammar.specs.declared.trees.LiteralValue.{LiteralValue}
use Rattle.gs_grammar.specs.declared.trees.Element.{Element}
use Rattle.gs_grammar.specs.declared.trees.Element.TheVariants as el
use Rattle.gs_grammar.specs.declared.trees.ElementValue.{ElementValue}
use Rattle.gs_grammar.specs.declared.trees.ElementValue.TheVariants as ev
use Rattle.gs_grammar.specs.declared.trees.Block.{Block}
use Rattle.gs_grammar.specs.Front.{◌>>=◌, ◌>>◌, first, operator, mark_at, word_at, name_at, text_at, front_at, trail_at, selector_at, is_basic, is_binary, is_bound_end, is_composite_start, is_embed_end, is_field_end, is_other_start, is_semi, is_sign, is_stop}
use Rattle.gs_grammar.specs.Parts.{Found, found, suffixed, binary, make_parameters, make_literal, make_block, is_single}
use Rattle.gs_grammar.specs.Row.{Row}

-- Behind a token stand the tokens s, and `at` has the row of each later place.
module _ (s : List Token) (at : List Token → Row) where
  -- ---- Names and types

  unfoldable pub read_one_name : Token → Option (Found (List Token))
  read_one_name t0 = name_at (t0 ∷ s) >>= λ x. is_none (mark_at mark.Comma x.1) >> Some (found (x.0 ∷ []) x.1 0)

  unfoldable pub read_more_names : Token → Option (Found (List Token))
  read_more_names t0 = name_at (t0 ∷ s) >>= λ x. mark_at mark.Comma x.1 >>= λ z1. (at z1.1).idents >>= λ xs. Some (found (x.0 ∷ xs.tree) xs.rest xs.depth)

  unfoldable pub idents_step : Token → Option (Found (List Token))
  idents_step t0 = first (read_one_name t0) (read_more_names t0)

  unfoldable pub read_bare : Token → Option (Found TypeExpr)
  read_bare t0 = name_at (t0 ∷ s) >>= λ x. is_none (selector_at x.1) >> Some (found (ty.Name x.0) x.1 0)

  unfoldable pub read_qualified : Token → Option (Found TypeExpr)
  read_qualified t0 = name_at (t0 ∷ s) >>= λ x. mark_at mark.Dot x.1 >>= λ z1. name_at z1.1 >>= λ y. Some (found (ty.Qualified x.0 y.0) y.1 0)

  unfoldable pub type_name_step : Token → Option (Found TypeExpr)
  type_name_step t0 = first (read_bare t0) (read_qualified t0)

  unfoldable pub read_named : Token → Option (Found TypeExpr)
  read_named t0 = type_name_step t0 >>= λ t. Some (found t.tree t.rest t.depth)

  unfoldable pub read_paren_type : Token → Option (Found TypeExpr)
  read_paren_type t0 = mark_at mark.LeftParen (t0 ∷ s) >>= λ p. (at p.1).type >>= λ t. mark_at mark.RightParen t.rest >>= λ q. Some (found (ty.Paren p.0 t.tree q.0) q.1 (suc t.depth))

  unfoldable pub read_pointer : Token → Option (Found TypeExpr)
  read_pointer t0 = mark_at mark.Star (t0 ∷ s) >>= λ p. (at p.1).type >>= λ t. Some (found (ty.Pointer p.0 t.tree) t.rest (suc t.depth))

  unfoldable pub read_slice : Token → Option (Found TypeExpr)
  read_slice t0 = mark_at mark.LeftBracket (t0 ∷ s) >>= λ p. mark_at mark.RightBracket p.1 >>= λ z1. (at z1.1).type >>= λ t. Some (found (ty.Slice p.0 t.tree) t.rest (suc t.depth))

  unfoldable pub read_array : Token → Option (Found TypeExpr)
  read_array t0 = mark_at mark.LeftBracket (t0 ∷ s) >>= λ p. is_none (mark_at mark.RightBracket p.1) >> is_none (mark_at mark.Ellipsis p.1) >> (at p.1).expr 5 false false >>= λ y. mark_at mark.RightBracket y.rest >>= λ z4. (at z4.1).type >>= λ t. Some (found (ty.Array p.0 y.tree t.tree) t.rest (suc (max y.depth t.depth)))

  unfoldable pub read_map_type : Token → Option (Found TypeExpr)
  read_map_type t0 = word_at word.Map (t0 ∷ s) >>= λ p. mark_at mark.LeftBracket p.1 >>= λ z1. (at z1.1).type >>= λ t. mark_at mark.RightBracket t.rest >>= λ z3. (at z3.1).type >>= λ u. Some (found (ty.Map p.0 t.tree u.tree) u.rest (suc (max t.depth u.depth)))

  unfoldable pub read_channel : Token → Option (Found TypeExpr)
  read_channel t0 = word_at word.Chan (t0 ∷ s) >>= λ p. is_none (mark_at mark.Arrow p.1) >> (at p.1).type >>= λ t. Some (found (ty.Channel p.0 t.tree) t.rest (suc t.depth))

  unfoldable pub read_send_channel : Token → Option (Found TypeExpr)
  read_send_channel t0 = word_at word.Chan (t0 ∷ s) >>= λ p. mark_at mark.Arrow p.1 >>= λ z1. (at z1.1).type >>= λ t. Some (found (ty.SendChannel p.0 t.tree) t.rest (suc t.depth))

  unfoldable pub read_receive_channel : Token → Option (Found TypeExpr)
  read_receive_channel t0 = mark_at mark.Arrow (t0 ∷ s) >>= λ p. word_at word.Chan p.1 >>= λ z1. (at z1.1).type >>= λ t. Some (found (ty.ReceiveChannel p.0 t.tree) t.rest (suc t.depth))

  unfoldable pub read_function_type : Token → Option (Found TypeExpr)
  read_function_type t0 = word_at word.Func (t0 ∷ s) >>= λ p. (at p.1).signature >>= λ z. Some (found (ty.Function p.0 z.tree) z.rest (suc z.depth))

  unfoldable pub read_struct_type : Token → Option (Found TypeExpr)
  read_struct_type t0 = word_at word.Struct (t0 ∷ s) >>= λ p. mark_at mark.LeftBrace p.1 >>= λ z1. (at z1.1).fields >>= λ fs. mark_at mark.RightBrace fs.rest >>= λ q. Some (found (ty.Struct p.0 fs.tree q.0) q.1 (suc fs.depth))

  unfoldable pub read_interface_type : Token → Option (Found TypeExpr)
  read_interface_type t0 = word_at word.Interface (t0 ∷ s) >>= λ p. mark_at mark.LeftBrace p.1 >>= λ z1. (at z1.1).members >>= λ ms. mark_at mark.RightBrace ms.rest >>= λ q. Some (found (ty.Interface p.0 ms.tree q.0) q.1 (suc ms.depth))

  unfoldable pub type_step : Token → Option (Found TypeExpr)
  type_step t0 = first (read_named t0) (first (read_paren_type t0) (first (read_pointer t0) (first (read_slice t0) (first (read_array t0) (first (read_map_type t0) (first (read_channel t0) (first (read_send_channel t0) (first (read_receive_channel t0) (first (read_function_type t0) (first (read_struct_type t0) (read_interface_type t0)))))))))))

  unfoldable pub read_last_type : Bool → Token → Option (Found (List Parameter))
  read_last_type v t0 = type_step t0 >>= λ t. trail_at mark.RightParen t.rest >>= λ z1. Some (found (pa.Plain t.tree ∷ []) z1 t.depth)

  unfoldable pub read_more_types : Bool → Token → Option (Found (List Parameter))
  read_more_types v t0 = type_step t0 >>= λ t. mark_at mark.Comma t.rest >>= λ z1. is_none (mark_at mark.RightParen z1.1) >> (at z1.1).unnamed v >>= λ ps. Some (found (pa.Plain t.tree ∷ ps.tree) ps.rest (max t.depth ps.depth))

  unfoldable pub read_last_dots : Bool → Token → Option (Found (List Parameter))
  read_last_dots v t0 = mark_at mark.Ellipsis (t0 ∷ s) >>= λ p. v >> (at p.1).type >>= λ t. trail_at mark.RightParen t.rest >>= λ z3. Some (found (pa.Variadic p.0 t.tree ∷ []) z3 t.depth)

  unfoldable pub unnamed_step : Bool → Token → Option (Found (List Parameter))
  unnamed_step v t0 = first (read_last_type v t0) (first (read_more_types v t0) (read_last_dots v t0))

  unfoldable pub read_last_named_dots : Bool → Token → Option (Found (List Parameter))
  read_last_named_dots v t0 = idents_step t0 >>= λ xs. mark_at mark.Ellipsis xs.rest >>= λ p. is_single xs.tree >> v >> (at p.1).type >>= λ t. trail_at mark.RightParen t.rest >>= λ z5. Some (found (pa.NamedVariadic xs.tree p.0 t.tree ∷ []) z5 (max xs.depth t.depth))

  unfoldable pub read_last_named : Bool → Token → Option (Found (List Parameter))
  read_last_named v t0 = idents_step t0 >>= λ xs. is_none (mark_at mark.Ellipsis xs.rest) >> (at xs.rest).type >>= λ t. trail_at mark.RightParen t.rest >>= λ z3. Some (found (pa.Named xs.tree t.tree ∷ []) z3 (max xs.depth t.depth))

  unfoldable pub read_more_named : Bool → Token → Option (Found (List Parameter))
  read_more_named v t0 = idents_step t0 >>= λ xs. is_none (mark_at mark.Ellipsis xs.rest) >> (at xs.rest).type >>= λ t. mark_at mark.Comma t.rest >>= λ z3. is_none (mark_at mark.RightParen z3.1) >> (at z3.1).named_params v >>= λ ps. Some (found (pa.Named xs.tree t.tree ∷ ps.tree) ps.rest (max xs.depth (max t.depth ps.depth)))

  unfoldable pub named_params_step : Bool → Token → Option (Found (List Parameter))
  named_params_step v t0 = first (read_last_named_dots v t0) (first (read_last_named v t0) (read_more_named v t0))

  unfoldable pub read_no_params : Bool → Token → Option (Found Parameters)
  read_no_params v t0 = mark_at mark.LeftParen (t0 ∷ s) >>= λ p. mark_at mark.RightParen p.1 >>= λ q. Some (found (make_parameters p.0 [] q.0) q.1 1)

  unfoldable pub read_named_list : Bool → Token → Option (Found Parameters)
  read_named_list v t0 = mark_at mark.LeftParen (t0 ∷ s) >>= λ p. is_none (mark_at mark.RightParen p.1) >> (at p.1).named_params v >>= λ ps. mark_at mark.RightParen ps.rest >>= λ q. Some (found (make_parameters p.0 ps.tree q.0) q.1 (suc ps.depth))

  unfoldable pub read_unnamed_list : Bool → Token → Option (Found Parameters)
  read_unnamed_list v t0 = mark_at mark.LeftParen (t0 ∷ s) >>= λ p. is_none (mark_at mark.RightParen p.1) >> is_none ((at p.1).named_params v) >> (at p.1).unnamed v >>= λ ps. mark_at mark.RightParen ps.rest >>= λ q. Some (found (make_parameters p.0 ps.tree q.0) q.1 (suc ps.depth))

  unfoldable pub params_step : Bool → Token → Option (Found Parameters)
  params_step v t0 = first (read_no_params v t0) (first (read_named_list v t0) (read_unnamed_list v t0))

  unfoldable pub read_results : Token → Option (Found Signature)
  read_results t0 = params_step true t0 >>= λ ps. mark_at mark.LeftParen ps.rest >>= λ z1. (at ps.rest).params false >>= λ qs. Some (found (sg.Results ps.tree qs.tree) qs.rest (max ps.depth qs.depth))

  unfoldable pub read_result : Token → Option (Found Signature)
  read_result t0 = params_step true t0 >>= λ ps. is_none (mark_at mark.LeftParen ps.rest) >> (at ps.rest).type >>= λ t. Some (found (sg.Result ps.tree t.tree) t.rest (max ps.depth t.depth))

  unfoldable pub read_plain : Token → Option (Found Signature)
  read_plain t0 = params_step true t0 >>= λ ps. is_none (mark_at mark.LeftParen ps.rest) >> is_none (at ps.rest).type >> Some (found (sg.Plain ps.tree) ps.rest ps.depth)

  unfoldable pub signature_step : Token → Option (Found Signature)
  signature_step t0 = first (read_results t0) (first (read_result t0) (read_plain t0))

  unfoldable pub read_a_tag : Token → Option (Found (Option Token))
  read_a_tag t0 = text_at (t0 ∷ s) >>= λ x. Some (found (Some x.0) x.1 0)

  unfoldable pub read_no_tag : Token → Option (Found (Option Token))
  read_no_tag t0 = front_at is_field_end (t0 ∷ s) >>= λ z0. Some (found None (t0 ∷ s) 0)

  unfoldable pub tag_step : Token → Option (Found (Option Token))
  tag_step t0 = first (read_a_tag t0) (read_no_tag t0)

  unfoldable pub read_named_field : Token → Option (Found Field)
  read_named_field t0 = idents_step t0 >>= λ xs. is_none (front_at is_embed_end xs.rest) >> is_none (mark_at mark.Dot xs.rest) >> (at xs.rest).type >>= λ t. (at t.rest).tag >>= λ z. Some (found (fi.Named xs.tree t.tree z.tree) z.rest (max xs.depth (max t.depth z.depth)))

  unfoldable pub read_embedded_field : Token → Option (Found Field)
  read_embedded_field t0 = name_at (t0 ∷ s) >>= λ x. front_at is_embed_end x.1 >>= λ z1. (at x.1).tag >>= λ z. Some (found (fi.Embedded (ty.Name x.0) z.tree) z.rest z.depth)

  unfoldable pub read_qualified_field : Token → Option (Found Field)
  read_qualified_field t0 = name_at (t0 ∷ s) >>= λ x. mark_at mark.Dot x.1 >>= λ z1. name_at z1.1 >>= λ y. (at y.1).tag >>= λ z. Some (found (fi.Embedded (ty.Qualified x.0 y.0) z.tree) z.rest z.depth)

  unfoldable pub read_pointer_field : Token → Option (Found Field)
  read_pointer_field t0 = mark_at mark.Star (t0 ∷ s) >>= λ p. (at p.1).type_name >>= λ t. (at t.rest).tag >>= λ z. Some (found (fi.Embedded (ty.Pointer p.0 t.tree) z.tree) z.rest (suc (max t.depth z.depth)))

  unfoldable pub field_step : Token → Option (Found Field)
  field_step t0 = first (read_named_field t0) (first (read_embedded_field t0) (first (read_qualified_field t0) (read_pointer_field t0)))

  unfoldable pub read_last_field : Token → Option (Found (List Field))
  read_last_field t0 = field_step t0 >>= λ y. mark_at mark.RightBrace y.rest >>= λ z1. Some (found (y.tree ∷ []) y.rest y.depth)

  unfoldable pub read_more_fields : Token → Option (Found (List Field))
  read_more_fields t0 = field_step t0 >>= λ y. front_at is_semi y.rest >>= λ x. (at x.1).fields >>= λ fs. Some (found (y.tree ∷ fs.tree) fs.rest (max y.depth fs.depth))

  unfoldable pub read_no_fields : Token → Option (Found (List Field))
  read_no_fields t0 = mark_at mark.RightBrace (t0 ∷ s) >>= λ z0. Some (found [] (t0 ∷ s) 0)

  unfoldable pub fields_step : Token → Option (Found (List Field))
  fields_step t0 = first (read_last_field t0) (first (read_more_fields t0) (read_no_fields t0))

  unfoldable pub read_method : Token → Option (Found Member)
  read_method t0 = name_at (t0 ∷ s) >>= λ x. mark_at mark.LeftParen x.1 >>= λ z1. (at x.1).signature >>= λ z. Some (found (me.Method x.0 z.tree) z.rest z.depth)

  unfoldable pub read_embedded_interface : Token → Option (Found Member)
  read_embedded_interface t0 = name_at (t0 ∷ s) >>= λ x. is_none (mark_at mark.LeftParen x.1) >> is_none (selector_at x.1) >> Some (found (me.Embedded (ty.Name x.0)) x.1 0)

  unfoldable pub read_qualified_interface : Token → Option (Found Member)
  read_qualified_interface t0 = name_at (t0 ∷ s) >>= λ x. mark_at mark.Dot x.1 >>= λ z1. name_at z1.1 >>= λ y. Some (found (me.Embedded (ty.Qualified x.0 y.0)) y.1 0)

  unfoldable pub member_step : Token → Option (Found Member)
  member_step t0 = first (read_method t0) (first (read_embedded_interface t0) (read_qualified_interface t0))

  unfoldable pub read_last_member : Token → Option (Found (List Member))
  read_last_member t0 = member_step t0 >>= λ m. mark_at mark.RightBrace m.rest >>= λ z1. Some (found (m.tree ∷ []) m.rest m.depth)

  unfoldable pub read_more_members : Token → Option (Found (List Member))
  read_more_members t0 = member_step t0 >>= λ m. front_at is_semi m.rest >>= λ x. (at x.1).members >>= λ ms. Some (found (m.tree ∷ ms.tree) ms.rest (max m.depth ms.depth))

  unfoldable pub read_no_members : Token → Option (Found (List Member))
  read_no_members t0 = mark_at mark.RightBrace (t0 ∷ s) >>= λ z0. Some (found [] (t0 ∷ s) 0)

  unfoldable pub members_step : Token → Option (Found (List Member))
  members_step t0 = first (read_last_member t0) (first (read_more_members t0) (read_no_members t0))

  -- ---- Expressions

  unfoldable pub read_values_in_braces : Token → Option (Found LiteralValue)
  read_values_in_braces t0 = mark_at mark.LeftBrace (t0 ∷ s) >>= λ p. (at p.1).elements >>= λ xs. mark_at mark.RightBrace xs.rest >>= λ q. Some (found (make_literal p.0 xs.tree q.0) q.1 (suc xs.depth))

  unfoldable pub literal_step : Token → Option (Found LiteralValue)
  literal_step t0 = read_values_in_braces t0

  unfoldable pub read_selected_literal : Token → Option (Found (Token × LiteralValue))
  read_selected_literal t0 = mark_at mark.Dot (t0 ∷ s) >>= λ z0. name_at z0.1 >>= λ y. (at y.1).literal >>= λ v. Some (found ((y.0, v.tree)) v.rest v.depth)

  unfoldable pub selected_step : Token → Option (Found (Token × LiteralValue))
  selected_step t0 = read_selected_literal t0

  unfoldable pub read_braces : Token → Option (Found Block)
  read_braces t0 = mark_at mark.LeftBrace (t0 ∷ s) >>= λ p. (at p.1).stmts >>= λ ts. mark_at mark.RightBrace ts.rest >>= λ q. Some (found (make_block p.0 ts.tree q.0) q.1 (suc ts.depth))

  unfoldable pub block_step : Token → Option (Found Block)
  block_step t0 = read_braces t0

  unfoldable pub read_received : Token → Option (Found TypeExpr)
  read_received t0 = word_at word.Chan (t0 ∷ s) >>= λ z0. (at z0.1).type >>= λ t. front_at is_stop t.rest >>= λ z2. Some (found t.tree t.rest t.depth)

  unfoldable pub received_step : Token → Option (Found TypeExpr)
  received_step t0 = read_received t0

  unfoldable pub read_basic_literal : Bool → Token → Option (Found Expr)
  read_basic_literal h t0 = front_at is_basic (t0 ∷ s) >>= λ x. Some (found (ex.Literal x.0) x.1 0)

  unfoldable pub read_header_name : Bool → Token → Option (Found Expr)
  read_header_name h t0 = name_at (t0 ∷ s) >>= λ x. h >> Some (found (ex.Name x.0) x.1 0)

  unfoldable pub read_literal_of_selected : Bool → Token → Option (Found Expr)
  read_literal_of_selected h t0 = name_at (t0 ∷ s) >>= λ x. not h >> (at x.1).selected >>= λ y. Some (found (ex.Composite (ty.Qualified x.0 y.tree.0) y.tree.1) y.rest y.depth)

  unfoldable pub read_name : Bool → Token → Option (Found Expr)
  read_name h t0 = name_at (t0 ∷ s) >>= λ x. not h >> is_none (at x.1).selected >> is_none (at x.1).literal >> Some (found (ex.Name x.0) x.1 0)

  unfoldable pub read_literal_of_name : Bool → Token → Option (Found Expr)
  read_literal_of_name h t0 = name_at (t0 ∷ s) >>= λ x. not h >> is_none (selector_at x.1) >> (at x.1).literal >>= λ v. Some (found (ex.Composite (ty.Name x.0) v.tree) v.rest v.depth)

  unfoldable pub read_paren : Bool → Token → Option (Found Expr)
  read_paren h t0 = mark_at mark.LeftParen (t0 ∷ s) >>= λ p. (at p.1).expr 5 false true >>= λ t. mark_at mark.RightParen t.rest >>= λ q. Some (found (ex.Paren p.0 t.tree q.0) q.1 (suc t.depth))

  unfoldable pub read_literal_of_type : Bool → Token → Option (Found Expr)
  read_literal_of_type h t0 = front_at is_composite_start (t0 ∷ s) >>= λ z0. type_step t0 >>= λ t. (at t.rest).literal >>= λ v. Some (found (ex.Composite t.tree v.tree) v.rest (max t.depth v.depth))

  unfoldable pub read_composite_type : Bool → Token → Option (Found Expr)
  read_composite_type h t0 = front_at is_composite_start (t0 ∷ s) >>= λ z0. type_step t0 >>= λ t. is_none (at t.rest).literal >> Some (found (ex.Type t.tree) t.rest t.depth)

  unfoldable pub read_counted_literal : Bool → Token → Option (Found Expr)
  read_counted_literal h t0 = mark_at mark.LeftBracket (t0 ∷ s) >>= λ p. mark_at mark.Ellipsis p.1 >>= λ z1. mark_at mark.RightBracket z1.1 >>= λ z2. (at z2.1).type >>= λ t. (at t.rest).literal >>= λ v. Some (found (ex.Counted p.0 t.tree v.tree) v.rest (max (suc t.depth) v.depth))

  unfoldable pub read_other_type : Bool → Token → Option (Found Expr)
  read_other_type h t0 = front_at is_other_start (t0 ∷ s) >>= λ z0. type_step t0 >>= λ t. Some (found (ex.Type t.tree) t.rest t.depth)

  unfoldable pub read_function_literal : Bool → Token → Option (Found Expr)
  read_function_literal h t0 = word_at word.Func (t0 ∷ s) >>= λ p. (at p.1).signature >>= λ z. (at z.rest).block >>= λ b. Some (found (ex.Function p.0 z.tree b.tree) b.rest (suc (max z.depth b.depth)))

  unfoldable pub read_lone_function_type : Bool → Token → Option (Found Expr)
  read_lone_function_type h t0 = word_at word.Func (t0 ∷ s) >>= λ p. (at p.1).signature >>= λ z. is_none (at z.rest).block >> Some (found (ex.Type (ty.Function p.0 z.tree)) z.rest (suc z.depth))

  unfoldable pub head_step : Bool → Token → Option (Found Expr)
  head_step h t0 = first (read_basic_literal h t0) (first (read_header_name h t0) (first (read_literal_of_selected h t0) (first (read_name h t0) (first (read_literal_of_name h t0) (first (read_paren h t0) (first (read_literal_of_type h t0) (first (read_composite_type h t0) (first (read_counted_literal h t0) (first (read_other_type h t0) (first (read_function_literal h t0) (read_lone_function_type h t0)))))))))))

  unfoldable pub read_primary : Bool → Token → Option (Found Expr)
  read_primary h t0 = head_step h t0 >>= λ t. (at t.rest).suffixes >>= λ xs. Some (found (suffixed t.tree xs.tree) xs.rest (max t.depth xs.depth))

  unfoldable pub primary_step : Bool → Token → Option (Found Expr)
  primary_step h t0 = read_primary h t0

  unfoldable pub read_bare_primary : Bool → Bool → Token → Option (Found Expr)
  read_bare_primary h w t0 = primary_step h t0 >>= λ t. Some (found t.tree t.rest t.depth)

  unfoldable pub read_signed : Bool → Bool → Token → Option (Found Expr)
  read_signed h w t0 = front_at is_sign (t0 ∷ s) >>= λ x. (at x.1).unary h false >>= λ t. Some (found (ex.Prefixed x.0 t.tree) t.rest (suc t.depth))

  unfoldable pub read_starred : Bool → Bool → Token → Option (Found Expr)
  read_starred h w t0 = mark_at mark.Star (t0 ∷ s) >>= λ p. (at p.1).unary h w >>= λ t. Some (found (ex.Prefixed (operator mark.Star p.0) t.tree) t.rest (suc t.depth))

  unfoldable pub read_receiver : Bool → Bool → Token → Option (Found Expr)
  read_receiver h w t0 = mark_at mark.Arrow (t0 ∷ s) >>= λ p. w >> (at p.1).received >>= λ t. Some (found (ex.Type (ty.ReceiveChannel p.0 t.tree)) t.rest (suc t.depth))

  unfoldable pub read_receive_first : Bool → Bool → Token → Option (Found Expr)
  read_receive_first h w t0 = mark_at mark.Arrow (t0 ∷ s) >>= λ p. w >> is_none (at p.1).received >> (at p.1).unary h false >>= λ t. Some (found (ex.Prefixed (operator mark.Arrow p.0) t.tree) t.rest (suc t.depth))

  unfoldable pub read_receive : Bool → Bool → Token → Option (Found Expr)
  read_receive h w t0 = mark_at mark.Arrow (t0 ∷ s) >>= λ p. not w >> (at p.1).unary h false >>= λ t. Some (found (ex.Prefixed (operator mark.Arrow p.0) t.tree) t.rest (suc t.depth))

  unfoldable pub unary_step : Bool → Bool → Token → Option (Found Expr)
  unary_step h w t0 = first (read_bare_primary h w t0) (first (read_signed h w t0) (first (read_starred h w t0) (first (read_receiver h w t0) (first (read_receive_first h w t0) (read_receive h w t0)))))

  unfoldable pub expr_step : ℕ → Bool → Bool → Token → Option (Found Expr)
  expr_step zero h w x = unary_step h w x
  expr_step (suc m) h w x = expr_step m h w x >>= λ t. (at t.rest).operands m h >>= λ os. Some (found (binary t.tree os.tree) os.rest (max t.depth os.depth))

  unfoldable pub read_a_bound : Token → Option (Found (Option Expr))
  read_a_bound t0 = expr_step 5 false false t0 >>= λ t. Some (found (Some t.tree) t.rest t.depth)

  unfoldable pub read_no_bound : Token → Option (Found (Option Expr))
  read_no_bound t0 = front_at is_bound_end (t0 ∷ s) >>= λ z0. Some (found None (t0 ∷ s) 0)

  unfoldable pub bound_step : Token → Option (Found (Option Expr))
  bound_step t0 = first (read_a_bound t0) (read_no_bound t0)

  unfoldable pub read_spread : Token → Option (Found (List Expr × Option Span))
  read_spread t0 = expr_step 5 false true t0 >>= λ t. mark_at mark.Ellipsis t.rest >>= λ p. trail_at mark.RightParen p.1 >>= λ z2. Some (found ((t.tree ∷ [], Some p.0)) z2 t.depth)

  unfoldable pub read_last_arg : Token → Option (Found (List Expr × Option Span))
  read_last_arg t0 = expr_step 5 false true t0 >>= λ t. is_none (mark_at mark.Ellipsis t.rest) >> trail_at mark.RightParen t.rest >>= λ z2. Some (found ((t.tree ∷ [], None)) z2 t.depth)

  unfoldable pub read_more_args : Token → Option (Found (List Expr × Option Span))
  read_more_args t0 = expr_step 5 false true t0 >>= λ t. mark_at mark.Comma t.rest >>= λ z1. is_none (mark_at mark.RightParen z1.1) >> (at z1.1).args >>= λ ts. Some (found ((t.tree ∷ ts.tree.0, ts.tree.1)) ts.rest (max t.depth ts.depth))

  unfoldable pub read_no_args : Token → Option (Found (List Expr × Option Span))
  read_no_args t0 = mark_at mark.RightParen (t0 ∷ s) >>= λ z0. Some (found (([], None)) (t0 ∷ s) 0)

  unfoldable pub args_step : Token → Option (Found (List Expr × Option Span))
  args_step t0 = first (read_spread t0) (first (read_last_arg t0) (first (read_more_args t0) (read_no_args t0)))

  unfoldable pub read_selector : Token → Option (Found Suffix)
  read_selector t0 = mark_at mark.Dot (t0 ∷ s) >>= λ z0. name_at z0.1 >>= λ x. Some (found (sf.Selector x.0) x.1 0)

  unfoldable pub read_assertion : Token → Option (Found Suffix)
  read_assertion t0 = mark_at mark.Dot (t0 ∷ s) >>= λ z0. mark_at mark.LeftParen z0.1 >>= λ z1. (at z1.1).type >>= λ t. mark_at mark.RightParen t.rest >>= λ q. Some (found (sf.Assertion t.tree q.0) q.1 (suc t.depth))

  unfoldable pub read_open_slice : Token → Option (Found Suffix)
  read_open_slice t0 = mark_at mark.LeftBracket (t0 ∷ s) >>= λ z0. mark_at mark.Colon z0.1 >>= λ z1. (at z1.1).bound >>= λ b. mark_at mark.RightBracket b.rest >>= λ q. Some (found (sf.Slice None b.tree q.0) q.1 (suc b.depth))

  unfoldable pub read_open_full_slice : Token → Option (Found Suffix)
  read_open_full_slice t0 = mark_at mark.LeftBracket (t0 ∷ s) >>= λ z0. mark_at mark.Colon z0.1 >>= λ z1. (at z1.1).expr 5 false false >>= λ b. mark_at mark.Colon b.rest >>= λ z3. (at z3.1).expr 5 false false >>= λ c. mark_at mark.RightBracket c.rest >>= λ q. Some (found (sf.FullSlice None b.tree c.tree q.0) q.1 (suc (max b.depth c.depth)))

  unfoldable pub read_index : Token → Option (Found Suffix)
  read_index t0 = mark_at mark.LeftBracket (t0 ∷ s) >>= λ z0. is_none (mark_at mark.Colon z0.1) >> (at z0.1).expr 5 false false >>= λ t. mark_at mark.RightBracket t.rest >>= λ q. Some (found (sf.Index t.tree q.0) q.1 (suc t.depth))

  unfoldable pub read_slice_expr : Token → Option (Found Suffix)
  read_slice_expr t0 = mark_at mark.LeftBracket (t0 ∷ s) >>= λ z0. is_none (mark_at mark.Colon z0.1) >> (at z0.1).expr 5 false false >>= λ a. mark_at mark.Colon a.rest >>= λ z3. (at z3.1).bound >>= λ b. mark_at mark.RightBracket b.rest >>= λ q. Some (found (sf.Slice (Some a.tree) b.tree q.0) q.1 (suc (max a.depth b.depth)))

  unfoldable pub read_full_slice : Token → Option (Found Suffix)
  read_full_slice t0 = mark_at mark.LeftBracket (t0 ∷ s) >>= λ z0. is_none (mark_at mark.Colon z0.1) >> (at z0.1).expr 5 false false >>= λ a. mark_at mark.Colon a.rest >>= λ z3. (at z3.1).expr 5 false false >>= λ b. mark_at mark.Colon b.rest >>= λ z5. (at z5.1).expr 5 false false >>= λ c. mark_at mark.RightBracket c.rest >>= λ q. Some (found (sf.FullSlice (Some a.tree) b.tree c.tree q.0) q.1 (suc (max a.depth (max b.depth c.depth))))

  unfoldable pub read_call : Token → Option (Found Suffix)
  read_call t0 = mark_at mark.LeftParen (t0 ∷ s) >>= λ z0. (at z0.1).args >>= λ ts. mark_at mark.RightParen ts.rest >>= λ q. Some (found (sf.Call ts.tree.0 ts.tree.1 q.0) q.1 (suc ts.depth))

  unfoldable pub suffix_step : Token → Option (Found Suffix)
  suffix_step t0 = first (read_selector t0) (first (read_assertion t0) (first (read_open_slice t0) (first (read_open_full_slice t0) (first (read_index t0) (first (read_slice_expr t0) (first (read_full_slice t0) (read_call t0)))))))

  unfoldable pub read_more_suffixes : Token → Option (Found (List Suffix))
  read_more_suffixes t0 = suffix_step t0 >>= λ x. (at x.rest).suffixes >>= λ xs. Some (found (x.tree ∷ xs.tree) xs.rest (max x.depth xs.depth))

  unfoldable pub read_no_suffixes : Token → Option (Found (List Suffix))
  read_no_suffixes t0 = is_none (suffix_step t0) >> Some (found [] (t0 ∷ s) 0)

  unfoldable pub suffixes_step : Token → Option (Found (List Suffix))
  suffixes_step t0 = first (read_more_suffixes t0) (read_no_suffixes t0)

  unfoldable pub read_operand : ℕ → Bool → Token → Option (Found (Token × Expr))
  read_operand m h t0 = front_at (is_binary m) (t0 ∷ s) >>= λ x. (at x.1).expr m h false >>= λ t. Some (found ((x.0, t.tree)) t.rest t.depth)

  unfoldable pub operand_step : ℕ → Bool → Token → Option (Found (Token × Expr))
  operand_step m h t0 = read_operand m h t0

  unfoldable pub read_more_operands : ℕ → Bool → Token → Option (Found (List (Token × Expr)))
  read_more_operands m h t0 = operand_step m h t0 >>= λ x. (at x.rest).operands m h >>= λ xs. Some (found (x.tree ∷ xs.tree) xs.rest (max x.depth xs.depth))

  unfoldable pub read_no_operands : ℕ → Bool → Token → Option (Found (List (Token × Expr)))
  read_no_operands m h t0 = is_none (operand_step m h t0) >> Some (found [] (t0 ∷ s) 0)

  unfoldable pub operands_step : ℕ → Bool → Token → Option (Found (List (Token × Expr)))
  operands_step m h t0 = first (read_more_operands m h t0) (read_no_operands m h t0)

  unfoldable pub read_value_expr : Token → Option (Found ElementValue)
  read_value_expr t0 = expr_step 5 false false t0 >>= λ t. Some (found (ev.Expr t.tree) t.rest t.depth)

  unfoldable pub read_value_literal : Token → Option (Found ElementValue)
  read_value_literal t0 = mark_at mark.LeftBrace (t0 ∷ s) >>= λ p. (at p.1).elements >>= λ xs. mark_at mark.RightBrace xs.rest >>= λ q. Some (found (ev.Literal (make_literal p.0 xs.tree q.0)) q.1 (suc xs.depth))

  unfoldable pub value_step : Token → Option (Found ElementValue)
  value_step t0 = first (read_value_expr t0) (read_value_literal t0)

  unfoldable pub read_plain_element : Token → Option (Found Element)
  read_plain_element t0 = value_step t0 >>= λ a. is_none (mark_at mark.Colon a.rest) >> Some (found (el.Plain a.tree) a.rest a.depth)

  unfoldable pub read_keyed_element : Token → Option (Found Element)
  read_keyed_element t0 = value_step t0 >>= λ a. mark_at mark.Colon a.rest >>= λ z1. (at z1.1).value >>= λ b. Some (found (el.Keyed a.tree b.tree) b.rest (max a.depth b.depth))

  unfoldable pub element_step : Token → Option (Found Element)
  element_step t0 = first (read_plain_element t0) (read_keyed_element t0)

  unfoldable pub read_last_element : Token → Option (Found (List Element))
  read_last_element t0 = element_step t0 >>= λ x. trail_at mark.RightBrace x.rest >>= λ z1. Some (found (x.tree ∷ []) z1 x.depth)

  unfoldable pub read_more_elements : Token → Option (Found (List Element))
  read_more_elements t0 = element_step t0 >>= λ x. mark_at mark.Comma x.rest >>= λ z1. is_none (mark_at mark.RightBrace z1.1) >> (at z1.1).elements >>= λ xs. Some (found (x.tree ∷ xs.tree) xs.rest (max x.depth xs.depth))

  unfoldable pub read_no_elements : Token → Option (Found (List Element))
  read_no_elements t0 = mark_at mark.RightBrace (t0 ∷ s) >>= λ z0. Some (found [] (t0 ∷ s) 0)

  unfoldable pub elements_step : Token → Option (Found (List Element))
  elements_step t0 = first (read_last_element t0) (first (read_more_elements t0) (read_no_elements t0))

  unfoldable pub read_one_expr : Bool → Token → Option (Found (List Expr))
  read_one_expr h t0 = expr_step 5 h false t0 >>= λ t. is_none (mark_at mark.Comma t.rest) >> Some (found (t.tree ∷ []) t.rest t.depth)

  unfoldable pub read_more_exprs : Bool → Token → Option (Found (List Expr))
  read_more_exprs h t0 = expr_step 5 h false t0 >>= λ t. mark_at mark.Comma t.rest >>= λ z1. (at z1.1).exprs h >>= λ ts. Some (found (t.tree ∷ ts.tree) ts.rest (max t.depth ts.depth))

  unfoldable pub exprs_step : Bool → Token → Option (Found (List Expr))
  exprs_step h t0 = first (read_one_expr h t0) (read_more_exprs h t0)
  -- ---- Statements
