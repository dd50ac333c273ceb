-- The steps of the reference over the rows of each place.
use Rattle.std.proofs.Common.{◌≡◌, Bool, true, false, List, ◌∷◌, refl, sym, ap, ◌∙◌, is_none}
use Rattle.gs_syntax.specs.declared.token.Token.{Token}
use Rattle.gs_syntax.specs.declared.token.Operator.TheVariants as mark
use Rattle.gs_syntax.specs.declared.token.Keyword.TheVariants as word
use Rattle.gs_grammar.specs.Front.{mark_at, word_at, name_at, text_at, front_at, trail_at, selector_at, is_embed_end, is_field_end, is_semi, is_stop}
use Rattle.gs_grammar.specs.Parts.{is_single}
use Rattle.gs_grammar.specs.Steps.{idents_step, read_one_name, read_more_names, type_name_step, read_bare, read_qualified, type_step, read_named, read_paren_type, read_pointer, read_slice, read_array, read_map_type, read_channel, read_send_channel, read_receive_channel, read_function_type, read_struct_type, read_interface_type, unnamed_step, read_last_type, read_more_types, read_last_dots, named_params_step, read_last_named_dots, read_last_named, read_more_named, params_step, read_no_params, read_named_list, read_unnamed_list, signature_step, read_results, read_result, read_plain, tag_step, read_a_tag, read_no_tag, field_step, read_named_field, read_embedded_field, read_qualified_field, read_pointer_field, fields_step, read_last_field, read_more_fields, read_no_fields, member_step, read_method, read_embedded_interface, read_qualified_interface, members_step, read_last_member, read_more_members, read_no_members, literal_step, read_values_in_braces, selected_step, read_selected_literal, block_step, read_braces, received_step, read_received}
use Rattle.gs_grammar.specs.Reference.{rows, row_at}
use Rattle.gs_grammar.proofs.Common.{to_ends, ends_of, Ends-trans, After-mark, After-word, After-name, After-text, After-front, Ends-trail, mark-sound, word-sound, name-sound, text-sound, front-sound, trail-sound}
use Rattle.gs_grammar.proofs.Rows.{look, idents-cons, type_name-cons, type-cons, params-cons, field-cons, member-cons}
use Rattle.gs_places.specs.Places.{stands}
use Rattle.gs_places.proofs.Within.{after_idents, after_type_name, after_type, after_params, after_field, after_member, ends_idents, ends_type_name, ends_type, ends_unnamed, ends_named_params, ends_params, ends_signature, ends_tag, ends_fields, ends_members, ends_literal, ends_expr, ends_elements, ends_stmts}
use Rattle.gs_places.proofs.Chains.{agree, bind-same, bind-two, guard-same, guard-two, first-two}

same-read_one_name : (t0 : Token) (s : List Token) → read_one_name s (row_at (rows s)) t0 ≡ read_one_name s stands t0
unfolding read_one_name
same-read_one_name t0 s =
    bind-same (name_at (t0 ∷ s)) (λ x e1.
    let q1 = ends_of (After-name (name-sound (t0 ∷ s) x e1)) in
    guard-same (is_none (mark_at mark.Comma x.1)) (refl))

same-read_more_names : (t0 : Token) (s : List Token) → read_more_names s (row_at (rows s)) t0 ≡ read_more_names s stands t0
unfolding read_more_names
same-read_more_names t0 s =
    bind-same (name_at (t0 ∷ s)) (λ x e1.
    let q1 = ends_of (After-name (name-sound (t0 ∷ s) x e1)) in
    bind-same (mark_at mark.Comma x.1) (λ z1 e2.
    let q2 = Ends-trans q1 (to_ends (After-mark (mark-sound mark.Comma x.1 z1 e2))) in
    bind-two _ _ (ap (λ z. z.idents) (agree q2)) (λ xs e3.
    let q3 = Ends-trans q2 (ends_idents z1.1 xs (sym (ap (λ z. z.idents) (look q2)) ∙ e3)) in
    refl)))

pub same-idents_step : (t0 : Token) (s : List Token) → idents_step s (row_at (rows s)) t0 ≡ idents_step s stands t0
unfolding idents_step
same-idents_step t0 s = first-two (same-read_one_name t0 s) (same-read_more_names t0 s)

same-read_bare : (t0 : Token) (s : List Token) → read_bare s (row_at (rows s)) t0 ≡ read_bare s stands t0
unfolding read_bare
same-read_bare t0 s =
    bind-same (name_at (t0 ∷ s)) (λ x e1.
    let q1 = ends_of (After-name (name-sound (t0 ∷ s) x e1)) in
    guard-same (is_none (selector_at x.1)) (refl))

same-read_qualified : (t0 : Token) (s : List Token) → read_qualified s (row_at (rows s)) t0 ≡ read_qualified s stands t0
unfolding read_qualified
same-read_qualified t0 s =
    bind-same (name_at (t0 ∷ s)) (λ x e1.
    let q1 = ends_of (After-name (name-sound (t0 ∷ s) x e1)) in
    bind-same (mark_at mark.Dot x.1) (λ z1 e2.
    let q2 = Ends-trans q1 (to_ends (After-mark (mark-sound mark.Dot x.1 z1 e2))) in
    bind-same (name_at z1.1) (λ y e3.
    let q3 = Ends-trans q2 (to_ends (After-name (name-sound z1.1 y e3))) in
    refl)))

pub same-type_name_step : (t0 : Token) (s : List Token) → type_name_step s (row_at (rows s)) t0 ≡ type_name_step s stands t0
unfolding type_name_step
same-type_name_step t0 s = first-two (same-read_bare t0 s) (same-read_qualified t0 s)

same-read_named : (t0 : Token) (s : List Token) → read_named s (row_at (rows s)) t0 ≡ read_named s stands t0
unfolding read_named
same-read_named t0 s =
    bind-two _ _ (same-type_name_step t0 s) (λ t e1.
    let q1 = ends_of (after_type_name (t0 ∷ s) t (type_name-cons t0 s ∙ e1)) in
    refl)

same-read_paren_type : (t0 : Token) (s : List Token) → read_paren_type s (row_at (rows s)) t0 ≡ read_paren_type s stands t0
unfolding read_paren_type
same-read_paren_type t0 s =
    bind-same (mark_at mark.LeftParen (t0 ∷ s)) (λ p e1.
    let q1 = ends_of (After-mark (mark-sound mark.LeftParen (t0 ∷ s) p e1)) in
    bind-two _ _ (ap (λ z. z.type) (agree q1)) (λ t e2.
    let q2 = Ends-trans q1 (ends_type p.1 t (sym (ap (λ z. z.type) (look q1)) ∙ e2)) in
    bind-same (mark_at mark.RightParen t.rest) (λ q e3.
    let q3 = Ends-trans q2 (to_ends (After-mark (mark-sound mark.RightParen t.rest q e3))) in
    refl)))

same-read_pointer : (t0 : Token) (s : List Token) → read_pointer s (row_at (rows s)) t0 ≡ read_pointer s stands t0
unfolding read_pointer
same-read_pointer t0 s =
    bind-same (mark_at mark.Star (t0 ∷ s)) (λ p e1.
    let q1 = ends_of (After-mark (mark-sound mark.Star (t0 ∷ s) p e1)) in
    bind-two _ _ (ap (λ z. z.type) (agree q1)) (λ t e2.
    let q2 = Ends-trans q1 (ends_type p.1 t (sym (ap (λ z. z.type) (look q1)) ∙ e2)) in
    refl))

same-read_slice : (t0 : Token) (s : List Token) → read_slice s (row_at (rows s)) t0 ≡ read_slice s stands t0
unfolding read_slice
same-read_slice t0 s =
    bind-same (mark_at mark.LeftBracket (t0 ∷ s)) (λ p e1.
    let q1 = ends_of (After-mark (mark-sound mark.LeftBracket (t0 ∷ s) p e1)) in
    bind-same (mark_at mark.RightBracket p.1) (λ z1 e2.
    let q2 = Ends-trans q1 (to_ends (After-mark (mark-sound mark.RightBracket p.1 z1 e2))) in
    bind-two _ _ (ap (λ z. z.type) (agree q2)) (λ t e3.
    let q3 = Ends-trans q2 (ends_type z1.1 t (sym (ap (λ z. z.type) (look q2)) ∙ e3)) in
    refl)))

same-read_array : (t0 : Token) (s : List Token) → read_array s (row_at (rows s)) t0 ≡ read_array s stands t0
unfolding read_array
same-read_array t0 s =
    bind-same (mark_at mark.LeftBracket (t0 ∷ s)) (λ p e1.
    let q1 = ends_of (After-mark (mark-sound mark.LeftBracket (t0 ∷ s) p e1)) in
    guard-same (is_none (mark_at mark.RightBracket p.1)) (guard-same (is_none (mark_at mark.Ellipsis p.1)) (bind-two _ _ (ap (λ z. z.expr 5 false false) (agree q1)) (λ y e4.
    let q4 = Ends-trans q1 (ends_expr 5 false false p.1 y (sym (ap (λ z. z.expr 5 false false) (look q1)) ∙ e4)) in
    bind-same (mark_at mark.RightBracket y.rest) (λ z4 e5.
    let q5 = Ends-trans q4 (to_ends (After-mark (mark-sound mark.RightBracket y.rest z4 e5))) in
    bind-two _ _ (ap (λ z. z.type) (agree q5)) (λ t e6.
    let q6 = Ends-trans q5 (ends_type z4.1 t (sym (ap (λ z. z.type) (look q5)) ∙ e6)) in
    refl))))))

same-read_map_type : (t0 : Token) (s : List Token) → read_map_type s (row_at (rows s)) t0 ≡ read_map_type s stands t0
unfolding read_map_type
same-read_map_type t0 s =
    bind-same (word_at word.Map (t0 ∷ s)) (λ p e1.
    let q1 = ends_of (After-word (word-sound word.Map (t0 ∷ s) p e1)) in
    bind-same (mark_at mark.LeftBracket p.1) (λ z1 e2.
    let q2 = Ends-trans q1 (to_ends (After-mark (mark-sound mark.LeftBracket p.1 z1 e2))) in
    bind-two _ _ (ap (λ z. z.type) (agree q2)) (λ t e3.
    let q3 = Ends-trans q2 (ends_type z1.1 t (sym (ap (λ z. z.type) (look q2)) ∙ e3)) in
    bind-same (mark_at mark.RightBracket t.rest) (λ z3 e4.
    let q4 = Ends-trans q3 (to_ends (After-mark (mark-sound mark.RightBracket t.rest z3 e4))) in
    bind-two _ _ (ap (λ z. z.type) (agree q4)) (λ u e5.
    let q5 = Ends-trans q4 (ends_type z3.1 u (sym (ap (λ z. z.type) (look q4)) ∙ e5)) in
    refl)))))

same-read_channel : (t0 : Token) (s : List Token) → read_channel s (row_at (rows s)) t0 ≡ read_channel s stands t0
unfolding read_channel
same-read_channel t0 s =
    bind-same (word_at word.Chan (t0 ∷ s)) (λ p e1.
    let q1 = ends_of (After-word (word-sound word.Chan (t0 ∷ s) p e1)) in
    guard-same (is_none (mark_at mark.Arrow p.1)) (bind-two _ _ (ap (λ z. z.type) (agree q1)) (λ t e3.
    let q3 = Ends-trans q1 (ends_type p.1 t (sym (ap (λ z. z.type) (look q1)) ∙ e3)) in
    refl)))

same-read_send_channel : (t0 : Token) (s : List Token) → read_send_channel s (row_at (rows s)) t0 ≡ read_send_channel s stands t0
unfolding read_send_channel
same-read_send_channel t0 s =
    bind-same (word_at word.Chan (t0 ∷ s)) (λ p e1.
    let q1 = ends_of (After-word (word-sound word.Chan (t0 ∷ s) p e1)) in
    bind-same (mark_at mark.Arrow p.1) (λ z1 e2.
    let q2 = Ends-trans q1 (to_ends (After-mark (mark-sound mark.Arrow p.1 z1 e2))) in
    bind-two _ _ (ap (λ z. z.type) (agree q2)) (λ t e3.
    let q3 = Ends-trans q2 (ends_type z1.1 t (sym (ap (λ z. z.type) (look q2)) ∙ e3)) in
    refl)))

same-read_receive_channel : (t0 : Token) (s : List Token) → read_receive_channel s (row_at (rows s)) t0 ≡ read_receive_channel s stands t0
unfolding read_receive_channel
same-read_receive_channel t0 s =
    bind-same (mark_at mark.Arrow (t0 ∷ s)) (λ p e1.
    let q1 = ends_of (After-mark (mark-sound mark.Arrow (t0 ∷ s) p e1)) in
    bind-same (word_at word.Chan p.1) (λ z1 e2.
    let q2 = Ends-trans q1 (to_ends (After-word (word-sound word.Chan p.1 z1 e2))) in
    bind-two _ _ (ap (λ z. z.type) (agree q2)) (λ t e3.
    let q3 = Ends-trans q2 (ends_type z1.1 t (sym (ap (λ z. z.type) (look q2)) ∙ e3)) in
    refl)))

same-read_function_type : (t0 : Token) (s : List Token) → read_function_type s (row_at (rows s)) t0 ≡ read_function_type s stands t0
unfolding read_function_type
same-read_function_type t0 s =
    bind-same (word_at word.Func (t0 ∷ s)) (λ p e1.
    let q1 = ends_of (After-word (word-sound word.Func (t0 ∷ s) p e1)) in
    bind-two _ _ (ap (λ z. z.signature) (agree q1)) (λ z e2.
    let q2 = Ends-trans q1 (ends_signature p.1 z (sym (ap (λ z. z.signature) (look q1)) ∙ e2)) in
    refl))

same-read_struct_type : (t0 : Token) (s : List Token) → read_struct_type s (row_at (rows s)) t0 ≡ read_struct_type s stands t0
unfolding read_struct_type
same-read_struct_type t0 s =
    bind-same (word_at word.Struct (t0 ∷ s)) (λ p e1.
    let q1 = ends_of (After-word (word-sound word.Struct (t0 ∷ s) p e1)) in
    bind-same (mark_at mark.LeftBrace p.1) (λ z1 e2.
    let q2 = Ends-trans q1 (to_ends (After-mark (mark-sound mark.LeftBrace p.1 z1 e2))) in
    bind-two _ _ (ap (λ z. z.fields) (agree q2)) (λ fs e3.
    let q3 = Ends-trans q2 (ends_fields z1.1 fs (sym (ap (λ z. z.fields) (look q2)) ∙ e3)) in
    bind-same (mark_at mark.RightBrace fs.rest) (λ q e4.
    let q4 = Ends-trans q3 (to_ends (After-mark (mark-sound mark.RightBrace fs.rest q e4))) in
    refl))))

same-read_interface_type : (t0 : Token) (s : List Token) → read_interface_type s (row_at (rows s)) t0 ≡ read_interface_type s stands t0
unfolding read_interface_type
same-read_interface_type t0 s =
    bind-same (word_at word.Interface (t0 ∷ s)) (λ p e1.
    let q1 = ends_of (After-word (word-sound word.Interface (t0 ∷ s) p e1)) in
    bind-same (mark_at mark.LeftBrace p.1) (λ z1 e2.
    let q2 = Ends-trans q1 (to_ends (After-mark (mark-sound mark.LeftBrace p.1 z1 e2))) in
    bind-two _ _ (ap (λ z. z.members) (agree q2)) (λ ms e3.
    let q3 = Ends-trans q2 (ends_members z1.1 ms (sym (ap (λ z. z.members) (look q2)) ∙ e3)) in
    bind-same (mark_at mark.RightBrace ms.rest) (λ q e4.
    let q4 = Ends-trans q3 (to_ends (After-mark (mark-sound mark.RightBrace ms.rest q e4))) in
    refl))))

pub same-type_step : (t0 : Token) (s : List Token) → type_step s (row_at (rows s)) t0 ≡ type_step s stands t0
unfolding type_step
same-type_step t0 s = first-two (same-read_named t0 s) (first-two (same-read_paren_type t0 s) (first-two (same-read_pointer t0 s) (first-two (same-read_slice t0 s) (first-two (same-read_array t0 s) (first-two (same-read_map_type t0 s) (first-two (same-read_channel t0 s) (first-two (same-read_send_channel t0 s) (first-two (same-read_receive_channel t0 s) (first-two (same-read_function_type t0 s) (first-two (same-read_struct_type t0 s) (same-read_interface_type t0 s)))))))))))

same-read_last_type : (v : Bool) (t0 : Token) (s : List Token) → read_last_type s (row_at (rows s)) v t0 ≡ read_last_type s stands v t0
unfolding read_last_type
same-read_last_type v t0 s =
    bind-two _ _ (same-type_step t0 s) (λ t e1.
    let q1 = ends_of (after_type (t0 ∷ s) t (type-cons t0 s ∙ e1)) in
    bind-same (trail_at mark.RightParen t.rest) (λ z1 e2.
    let q2 = Ends-trans q1 (Ends-trail (trail-sound mark.RightParen t.rest z1 e2)) in
    refl))

same-read_more_types : (v : Bool) (t0 : Token) (s : List Token) → read_more_types s (row_at (rows s)) v t0 ≡ read_more_types s stands v t0
unfolding read_more_types
same-read_more_types v t0 s =
    bind-two _ _ (same-type_step t0 s) (λ t e1.
    let q1 = ends_of (after_type (t0 ∷ s) t (type-cons t0 s ∙ e1)) in
    bind-same (mark_at mark.Comma t.rest) (λ z1 e2.
    let q2 = Ends-trans q1 (to_ends (After-mark (mark-sound mark.Comma t.rest z1 e2))) in
    guard-same (is_none (mark_at mark.RightParen z1.1)) (bind-two _ _ (ap (λ z. z.unnamed v) (agree q2)) (λ ps e4.
    let q4 = Ends-trans q2 (ends_unnamed v z1.1 ps (sym (ap (λ z. z.unnamed v) (look q2)) ∙ e4)) in
    refl))))

same-read_last_dots : (v : Bool) (t0 : Token) (s : List Token) → read_last_dots s (row_at (rows s)) v t0 ≡ read_last_dots s stands v t0
unfolding read_last_dots
same-read_last_dots v t0 s =
    bind-same (mark_at mark.Ellipsis (t0 ∷ s)) (λ p e1.
    let q1 = ends_of (After-mark (mark-sound mark.Ellipsis (t0 ∷ s) p e1)) in
    guard-same v (bind-two _ _ (ap (λ z. z.type) (agree q1)) (λ t e3.
    let q3 = Ends-trans q1 (ends_type p.1 t (sym (ap (λ z. z.type) (look q1)) ∙ e3)) in
    bind-same (trail_at mark.RightParen t.rest) (λ z3 e4.
    let q4 = Ends-trans q3 (Ends-trail (trail-sound mark.RightParen t.rest z3 e4)) in
    refl))))

pub same-unnamed_step : (v : Bool) (t0 : Token) (s : List Token) → unnamed_step s (row_at (rows s)) v t0 ≡ unnamed_step s stands v t0
unfolding unnamed_step
same-unnamed_step v t0 s = first-two (same-read_last_type v t0 s) (first-two (same-read_more_types v t0 s) (same-read_last_dots v t0 s))

same-read_last_named_dots : (v : Bool) (t0 : Token) (s : List Token) → read_last_named_dots s (row_at (rows s)) v t0 ≡ read_last_named_dots s stands v t0
unfolding read_last_named_dots
same-read_last_named_dots v t0 s =
    bind-two _ _ (same-idents_step t0 s) (λ xs e1.
    let q1 = ends_of (after_idents (t0 ∷ s) xs (idents-cons t0 s ∙ e1)) in
    bind-same (mark_at mark.Ellipsis xs.rest) (λ p e2.
    let q2 = Ends-trans q1 (to_ends (After-mark (mark-sound mark.Ellipsis xs.rest p e2))) in
    guard-same (is_single xs.tree) (guard-same v (bind-two _ _ (ap (λ z. z.type) (agree q2)) (λ t e5.
    let q5 = Ends-trans q2 (ends_type p.1 t (sym (ap (λ z. z.type) (look q2)) ∙ e5)) in
    bind-same (trail_at mark.RightParen t.rest) (λ z5 e6.
    let q6 = Ends-trans q5 (Ends-trail (trail-sound mark.RightParen t.rest z5 e6)) in
    refl))))))

same-read_last_named : (v : Bool) (t0 : Token) (s : List Token) → read_last_named s (row_at (rows s)) v t0 ≡ read_last_named s stands v t0
unfolding read_last_named
same-read_last_named v t0 s =
    bind-two _ _ (same-idents_step t0 s) (λ xs e1.
    let q1 = ends_of (after_idents (t0 ∷ s) xs (idents-cons t0 s ∙ e1)) in
    guard-same (is_none (mark_at mark.Ellipsis xs.rest)) (bind-two _ _ (ap (λ z. z.type) (agree q1)) (λ t e3.
    let q3 = Ends-trans q1 (ends_type xs.rest t (sym (ap (λ z. z.type) (look q1)) ∙ e3)) in
    bind-same (trail_at mark.RightParen t.rest) (λ z3 e4.
    let q4 = Ends-trans q3 (Ends-trail (trail-sound mark.RightParen t.rest z3 e4)) in
    refl))))

same-read_more_named : (v : Bool) (t0 : Token) (s : List Token) → read_more_named s (row_at (rows s)) v t0 ≡ read_more_named s stands v t0
unfolding read_more_named
same-read_more_named v t0 s =
    bind-two _ _ (same-idents_step t0 s) (λ xs e1.
    let q1 = ends_of (after_idents (t0 ∷ s) xs (idents-cons t0 s ∙ e1)) in
    guard-same (is_none (mark_at mark.Ellipsis xs.rest)) (bind-two _ _ (ap (λ z. z.type) (agree q1)) (λ t e3.
    let q3 = Ends-trans q1 (ends_type xs.rest t (sym (ap (λ z. z.type) (look q1)) ∙ e3)) in
    bind-same (mark_at mark.Comma t.rest) (λ z3 e4.
    let q4 = Ends-trans q3 (to_ends (After-mark (mark-sound mark.Comma t.rest z3 e4))) in
    guard-same (is_none (mark_at mark.RightParen z3.1)) (bind-two _ _ (ap (λ z. z.named_params v) (agree q4)) (λ ps e6.
    let q6 = Ends-trans q4 (ends_named_params v z3.1 ps (sym (ap (λ z. z.named_params v) (look q4)) ∙ e6)) in
    refl))))))

pub same-named_params_step : (v : Bool) (t0 : Token) (s : List Token) → named_params_step s (row_at (rows s)) v t0 ≡ named_params_step s stands v t0
unfolding named_params_step
same-named_params_step v t0 s = first-two (same-read_last_named_dots v t0 s) (first-two (same-read_last_named v t0 s) (same-read_more_named v t0 s))

same-read_no_params : (v : Bool) (t0 : Token) (s : List Token) → read_no_params s (row_at (rows s)) v t0 ≡ read_no_params s stands v t0
unfolding read_no_params
same-read_no_params v t0 s =
    bind-same (mark_at mark.LeftParen (t0 ∷ s)) (λ p e1.
    let q1 = ends_of (After-mark (mark-sound mark.LeftParen (t0 ∷ s) p e1)) in
    bind-same (mark_at mark.RightParen p.1) (λ q e2.
    let q2 = Ends-trans q1 (to_ends (After-mark (mark-sound mark.RightParen p.1 q e2))) in
    refl))

same-read_named_list : (v : Bool) (t0 : Token) (s : List Token) → read_named_list s (row_at (rows s)) v t0 ≡ read_named_list s stands v t0
unfolding read_named_list
same-read_named_list v t0 s =
    bind-same (mark_at mark.LeftParen (t0 ∷ s)) (λ p e1.
    let q1 = ends_of (After-mark (mark-sound mark.LeftParen (t0 ∷ s) p e1)) in
    guard-same (is_none (mark_at mark.RightParen p.1)) (bind-two _ _ (ap (λ z. z.named_params v) (agree q1)) (λ ps e3.
    let q3 = Ends-trans q1 (ends_named_params v p.1 ps (sym (ap (λ z. z.named_params v) (look q1)) ∙ e3)) in
    bind-same (mark_at mark.RightParen ps.rest) (λ q e4.
    let q4 = Ends-trans q3 (to_ends (After-mark (mark-sound mark.RightParen ps.rest q e4))) in
    refl))))

same-read_unnamed_list : (v : Bool) (t0 : Token) (s : List Token) → read_unnamed_list s (row_at (rows s)) v t0 ≡ read_unnamed_list s stands v t0
unfolding read_unnamed_list
same-read_unnamed_list v t0 s =
    bind-same (mark_at mark.LeftParen (t0 ∷ s)) (λ p e1.
    let q1 = ends_of (After-mark (mark-sound mark.LeftParen (t0 ∷ s) p e1)) in
    guard-same (is_none (mark_at mark.RightParen p.1)) (guard-two _ _ (ap (λ z. is_none (z.named_params v)) (agree q1)) (bind-two _ _ (ap (λ z. z.unnamed v) (agree q1)) (λ ps e4.
    let q4 = Ends-trans q1 (ends_unnamed v p.1 ps (sym (ap (λ z. z.unnamed v) (look q1)) ∙ e4)) in
    bind-same (mark_at mark.RightParen ps.rest) (λ q e5.
    let q5 = Ends-trans q4 (to_ends (After-mark (mark-sound mark.RightParen ps.rest q e5))) in
    refl)))))

pub same-params_step : (v : Bool) (t0 : Token) (s : List Token) → params_step s (row_at (rows s)) v t0 ≡ params_step s stands v t0
unfolding params_step
same-params_step v t0 s = first-two (same-read_no_params v t0 s) (first-two (same-read_named_list v t0 s) (same-read_unnamed_list v t0 s))

same-read_results : (t0 : Token) (s : List Token) → read_results s (row_at (rows s)) t0 ≡ read_results s stands t0
unfolding read_results
same-read_results t0 s =
    bind-two _ _ (same-params_step true t0 s) (λ ps e1.
    let q1 = ends_of (after_params true (t0 ∷ s) ps (params-cons true t0 s ∙ e1)) in
    bind-same (mark_at mark.LeftParen ps.rest) (λ z1 e2.
    bind-two _ _ (ap (λ z. z.params false) (agree q1)) (λ qs e3.
    let q3 = Ends-trans q1 (ends_params false ps.rest qs (sym (ap (λ z. z.params false) (look q1)) ∙ e3)) in
    refl)))

same-read_result : (t0 : Token) (s : List Token) → read_result s (row_at (rows s)) t0 ≡ read_result s stands t0
unfolding read_result
same-read_result t0 s =
    bind-two _ _ (same-params_step true t0 s) (λ ps e1.
    let q1 = ends_of (after_params true (t0 ∷ s) ps (params-cons true t0 s ∙ e1)) in
    guard-same (is_none (mark_at mark.LeftParen ps.rest)) (bind-two _ _ (ap (λ z. z.type) (agree q1)) (λ t e3.
    let q3 = Ends-trans q1 (ends_type ps.rest t (sym (ap (λ z. z.type) (look q1)) ∙ e3)) in
    refl)))

same-read_plain : (t0 : Token) (s : List Token) → read_plain s (row_at (rows s)) t0 ≡ read_plain s stands t0
unfolding read_plain
same-read_plain t0 s =
    bind-two _ _ (same-params_step true t0 s) (λ ps e1.
    let q1 = ends_of (after_params true (t0 ∷ s) ps (params-cons true t0 s ∙ e1)) in
    guard-same (is_none (mark_at mark.LeftParen ps.rest)) (guard-two _ _ (ap (λ z. is_none (z.type)) (agree q1)) (refl)))

pub same-signature_step : (t0 : Token) (s : List Token) → signature_step s (row_at (rows s)) t0 ≡ signature_step s stands t0
unfolding signature_step
same-signature_step t0 s = first-two (same-read_results t0 s) (first-two (same-read_result t0 s) (same-read_plain t0 s))

same-read_a_tag : (t0 : Token) (s : List Token) → read_a_tag s (row_at (rows s)) t0 ≡ read_a_tag s stands t0
unfolding read_a_tag
same-read_a_tag t0 s =
    bind-same (text_at (t0 ∷ s)) (λ x e1.
    let q1 = ends_of (After-text (text-sound (t0 ∷ s) x e1)) in
    refl)

same-read_no_tag : (t0 : Token) (s : List Token) → read_no_tag s (row_at (rows s)) t0 ≡ read_no_tag s stands t0
unfolding read_no_tag
same-read_no_tag t0 s =
    bind-same (front_at is_field_end (t0 ∷ s)) (λ z0 e1.
    refl)

pub same-tag_step : (t0 : Token) (s : List Token) → tag_step s (row_at (rows s)) t0 ≡ tag_step s stands t0
unfolding tag_step
same-tag_step t0 s = first-two (same-read_a_tag t0 s) (same-read_no_tag t0 s)

same-read_named_field : (t0 : Token) (s : List Token) → read_named_field s (row_at (rows s)) t0 ≡ read_named_field s stands t0
unfolding read_named_field
same-read_named_field t0 s =
    bind-two _ _ (same-idents_step t0 s) (λ xs e1.
    let q1 = ends_of (after_idents (t0 ∷ s) xs (idents-cons t0 s ∙ e1)) in
    guard-same (is_none (front_at is_embed_end xs.rest)) (guard-same (is_none (mark_at mark.Dot xs.rest)) (bind-two _ _ (ap (λ z. z.type) (agree q1)) (λ t e4.
    let q4 = Ends-trans q1 (ends_type xs.rest t (sym (ap (λ z. z.type) (look q1)) ∙ e4)) in
    bind-two _ _ (ap (λ z. z.tag) (agree q4)) (λ z e5.
    let q5 = Ends-trans q4 (ends_tag t.rest z (sym (ap (λ z. z.tag) (look q4)) ∙ e5)) in
    refl)))))

same-read_embedded_field : (t0 : Token) (s : List Token) → read_embedded_field s (row_at (rows s)) t0 ≡ read_embedded_field s stands t0
unfolding read_embedded_field
same-read_embedded_field t0 s =
    bind-same (name_at (t0 ∷ s)) (λ x e1.
    let q1 = ends_of (After-name (name-sound (t0 ∷ s) x e1)) in
    bind-same (front_at is_embed_end x.1) (λ z1 e2.
    bind-two _ _ (ap (λ z. z.tag) (agree q1)) (λ z e3.
    let q3 = Ends-trans q1 (ends_tag x.1 z (sym (ap (λ z. z.tag) (look q1)) ∙ e3)) in
    refl)))

same-read_qualified_field : (t0 : Token) (s : List Token) → read_qualified_field s (row_at (rows s)) t0 ≡ read_qualified_field s stands t0
unfolding read_qualified_field
same-read_qualified_field t0 s =
    bind-same (name_at (t0 ∷ s)) (λ x e1.
    let q1 = ends_of (After-name (name-sound (t0 ∷ s) x e1)) in
    bind-same (mark_at mark.Dot x.1) (λ z1 e2.
    let q2 = Ends-trans q1 (to_ends (After-mark (mark-sound mark.Dot x.1 z1 e2))) in
    bind-same (name_at z1.1) (λ y e3.
    let q3 = Ends-trans q2 (to_ends (After-name (name-sound z1.1 y e3))) in
    bind-two _ _ (ap (λ z. z.tag) (agree q3)) (λ z e4.
    let q4 = Ends-trans q3 (ends_tag y.1 z (sym (ap (λ z. z.tag) (look q3)) ∙ e4)) in
    refl))))

same-read_pointer_field : (t0 : Token) (s : List Token) → read_pointer_field s (row_at (rows s)) t0 ≡ read_pointer_field s stands t0
unfolding read_pointer_field
same-read_pointer_field t0 s =
    bind-same (mark_at mark.Star (t0 ∷ s)) (λ p e1.
    let q1 = ends_of (After-mark (mark-sound mark.Star (t0 ∷ s) p e1)) in
    bind-two _ _ (ap (λ z. z.type_name) (agree q1)) (λ t e2.
    let q2 = Ends-trans q1 (ends_type_name p.1 t (sym (ap (λ z. z.type_name) (look q1)) ∙ e2)) in
    bind-two _ _ (ap (λ z. z.tag) (agree q2)) (λ z e3.
    let q3 = Ends-trans q2 (ends_tag t.rest z (sym (ap (λ z. z.tag) (look q2)) ∙ e3)) in
    refl)))

pub same-field_step : (t0 : Token) (s : List Token) → field_step s (row_at (rows s)) t0 ≡ field_step s stands t0
unfolding field_step
same-field_step t0 s = first-two (same-read_named_field t0 s) (first-two (same-read_embedded_field t0 s) (first-two (same-read_qualified_field t0 s) (same-read_pointer_field t0 s)))

same-read_last_field : (t0 : Token) (s : List Token) → read_last_field s (row_at (rows s)) t0 ≡ read_last_field s stands t0
unfolding read_last_field
same-read_last_field t0 s =
    bind-two _ _ (same-field_step t0 s) (λ y e1.
    let q1 = ends_of (after_field (t0 ∷ s) y (field-cons t0 s ∙ e1)) in
    bind-same (mark_at mark.RightBrace y.rest) (λ z1 e2.
    refl))

same-read_more_fields : (t0 : Token) (s : List Token) → read_more_fields s (row_at (rows s)) t0 ≡ read_more_fields s stands t0
unfolding read_more_fields
same-read_more_fields t0 s =
    bind-two _ _ (same-field_step t0 s) (λ y e1.
    let q1 = ends_of (after_field (t0 ∷ s) y (field-cons t0 s ∙ e1)) in
    bind-same (front_at is_semi y.rest) (λ x e2.
    let q2 = Ends-trans q1 (to_ends (After-front (front-sound is_semi y.rest x e2))) in
    bind-two _ _ (ap (λ z. z.fields) (agree q2)) (λ fs e3.
    let q3 = Ends-trans q2 (ends_fields x.1 fs (sym (ap (λ z. z.fields) (look q2)) ∙ e3)) in
    refl)))

same-read_no_fields : (t0 : Token) (s : List Token) → read_no_fields s (row_at (rows s)) t0 ≡ read_no_fields s stands t0
unfolding read_no_fields
same-read_no_fields t0 s =
    bind-same (mark_at mark.RightBrace (t0 ∷ s)) (λ z0 e1.
    refl)

pub same-fields_step : (t0 : Token) (s : List Token) → fields_step s (row_at (rows s)) t0 ≡ fields_step s stands t0
unfolding fields_step
same-fields_step t0 s = first-two (same-read_last_field t0 s) (first-two (same-read_more_fields t0 s) (same-read_no_fields t0 s))

same-read_method : (t0 : Token) (s : List Token) → read_method s (row_at (rows s)) t0 ≡ read_method s stands t0
unfolding read_method
same-read_method t0 s =
    bind-same (name_at (t0 ∷ s)) (λ x e1.
    let q1 = ends_of (After-name (name-sound (t0 ∷ s) x e1)) in
    bind-same (mark_at mark.LeftParen x.1) (λ z1 e2.
    bind-two _ _ (ap (λ z. z.signature) (agree q1)) (λ z e3.
    let q3 = Ends-trans q1 (ends_signature x.1 z (sym (ap (λ z. z.signature) (look q1)) ∙ e3)) in
    refl)))

same-read_embedded_interface : (t0 : Token) (s : List Token) → read_embedded_interface s (row_at (rows s)) t0 ≡ read_embedded_interface s stands t0
unfolding read_embedded_interface
same-read_embedded_interface t0 s =
    bind-same (name_at (t0 ∷ s)) (λ x e1.
    let q1 = ends_of (After-name (name-sound (t0 ∷ s) x e1)) in
    guard-same (is_none (mark_at mark.LeftParen x.1)) (guard-same (is_none (selector_at x.1)) (refl)))

same-read_qualified_interface : (t0 : Token) (s : List Token) → read_qualified_interface s (row_at (rows s)) t0 ≡ read_qualified_interface s stands t0
unfolding read_qualified_interface
same-read_qualified_interface t0 s =
    bind-same (name_at (t0 ∷ s)) (λ x e1.
    let q1 = ends_of (After-name (name-sound (t0 ∷ s) x e1)) in
    bind-same (mark_at mark.Dot x.1) (λ z1 e2.
    let q2 = Ends-trans q1 (to_ends (After-mark (mark-sound mark.Dot x.1 z1 e2))) in
    bind-same (name_at z1.1) (λ y e3.
    let q3 = Ends-trans q2 (to_ends (After-name (name-sound z1.1 y e3))) in
    refl)))

pub same-member_step : (t0 : Token) (s : List Token) → member_step s (row_at (rows s)) t0 ≡ member_step s stands t0
unfolding member_step
same-member_step t0 s = first-two (same-read_method t0 s) (first-two (same-read_embedded_interface t0 s) (same-read_qualified_interface t0 s))

same-read_last_member : (t0 : Token) (s : List Token) → read_last_member s (row_at (rows s)) t0 ≡ read_last_member s stands t0
unfolding read_last_member
same-read_last_member t0 s =
    bind-two _ _ (same-member_step t0 s) (λ m e1.
    let q1 = ends_of (after_member (t0 ∷ s) m (member-cons t0 s ∙ e1)) in
    bind-same (mark_at mark.RightBrace m.rest) (λ z1 e2.
    refl))

same-read_more_members : (t0 : Token) (s : List Token) → read_more_members s (row_at (rows s)) t0 ≡ read_more_members s stands t0
unfolding read_more_members
same-read_more_members t0 s =
    bind-two _ _ (same-member_step t0 s) (λ m e1.
    let q1 = ends_of (after_member (t0 ∷ s) m (member-cons t0 s ∙ e1)) in
    bind-same (front_at is_semi m.rest) (λ x e2.
    let q2 = Ends-trans q1 (to_ends (After-front (front-sound is_semi m.rest x e2))) in
    bind-two _ _ (ap (λ z. z.members) (agree q2)) (λ ms e3.
    let q3 = Ends-trans q2 (ends_members x.1 ms (sym (ap (λ z. z.members) (look q2)) ∙ e3)) in
    refl)))

same-read_no_members : (t0 : Token) (s : List Token) → read_no_members s (row_at (rows s)) t0 ≡ read_no_members s stands t0
unfolding read_no_members
same-read_no_members t0 s =
    bind-same (mark_at mark.RightBrace (t0 ∷ s)) (λ z0 e1.
    refl)

pub same-members_step : (t0 : Token) (s : List Token) → members_step s (row_at (rows s)) t0 ≡ members_step s stands t0
unfolding members_step
same-members_step t0 s = first-two (same-read_last_member t0 s) (first-two (same-read_more_members t0 s) (same-read_no_members t0 s))

same-read_values_in_braces : (t0 : Token) (s : List Token) → read_values_in_braces s (row_at (rows s)) t0 ≡ read_values_in_braces s stands t0
unfolding read_values_in_braces
same-read_values_in_braces t0 s =
    bind-same (mark_at mark.LeftBrace (t0 ∷ s)) (λ p e1.
    let q1 = ends_of (After-mark (mark-sound mark.LeftBrace (t0 ∷ s) p e1)) in
    bind-two _ _ (ap (λ z. z.elements) (agree q1)) (λ xs e2.
    let q2 = Ends-trans q1 (ends_elements p.1 xs (sym (ap (λ z. z.elements) (look q1)) ∙ e2)) in
    bind-same (mark_at mark.RightBrace xs.rest) (λ q e3.
    let q3 = Ends-trans q2 (to_ends (After-mark (mark-sound mark.RightBrace xs.rest q e3))) in
    refl)))

pub same-literal_step : (t0 : Token) (s : List Token) → literal_step s (row_at (rows s)) t0 ≡ literal_step s stands t0
unfolding literal_step
same-literal_step t0 s = same-read_values_in_braces t0 s

same-read_selected_literal : (t0 : Token) (s : List Token) → read_selected_literal s (row_at (rows s)) t0 ≡ read_selected_literal s stands t0
unfolding read_selected_literal
same-read_selected_literal t0 s =
    bind-same (mark_at mark.Dot (t0 ∷ s)) (λ z0 e1.
    let q1 = ends_of (After-mark (mark-sound mark.Dot (t0 ∷ s) z0 e1)) in
    bind-same (name_at z0.1) (λ y e2.
    let q2 = Ends-trans q1 (to_ends (After-name (name-sound z0.1 y e2))) in
    bind-two _ _ (ap (λ z. z.literal) (agree q2)) (λ v e3.
    let q3 = Ends-trans q2 (ends_literal y.1 v (sym (ap (λ z. z.literal) (look q2)) ∙ e3)) in
    refl)))

pub same-selected_step : (t0 : Token) (s : List Token) → selected_step s (row_at (rows s)) t0 ≡ selected_step s stands t0
unfolding selected_step
same-selected_step t0 s = same-read_selected_literal t0 s

same-read_braces : (t0 : Token) (s : List Token) → read_braces s (row_at (rows s)) t0 ≡ read_braces s stands t0
unfolding read_braces
same-read_braces t0 s =
    bind-same (mark_at mark.LeftBrace (t0 ∷ s)) (λ p e1.
    let q1 = ends_of (After-mark (mark-sound mark.LeftBrace (t0 ∷ s) p e1)) in
    bind-two _ _ (ap (λ z. z.stmts) (agree q1)) (λ ts e2.
    let q2 = Ends-trans q1 (ends_stmts p.1 ts (sym (ap (λ z. z.stmts) (look q1)) ∙ e2)) in
    bind-same (mark_at mark.RightBrace ts.rest) (λ q e3.
    let q3 = Ends-trans q2 (to_ends (After-mark (mark-sound mark.RightBrace ts.rest q e3))) in
    refl)))

pub same-block_step : (t0 : Token) (s : List Token) → block_step s (row_at (rows s)) t0 ≡ block_step s stands t0
unfolding block_step
same-block_step t0 s = same-read_braces t0 s

same-read_received : (t0 : Token) (s : List Token) → read_received s (row_at (rows s)) t0 ≡ read_received s stands t0
unfolding read_received
same-read_received t0 s =
    bind-same (word_at word.Chan (t0 ∷ s)) (λ z0 e1.
    let q1 = ends_of (After-word (word-sound word.Chan (t0 ∷ s) z0 e1)) in
    bind-two _ _ (ap (λ z. z.type) (agree q1)) (λ t e2.
    let q2 = Ends-trans q1 (ends_type z0.1 t (sym (ap (λ z. z.type) (look q1)) ∙ e2)) in
    bind-same (front_at is_stop t.rest) (λ z2 e3.
    refl)))

pub same-received_step : (t0 : Token) (s : List Token) → received_step s (row_at (rows s)) t0 ≡ received_step s stands t0
unfolding received_step
same-received_step t0 s = same-read_received t0 s
