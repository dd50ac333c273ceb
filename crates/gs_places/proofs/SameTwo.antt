-- The steps of the reference over the rows of each place.
use Rattle.std.proofs.Common.{◌≡◌, ℕ, zero, suc, Bool, true, false, not, List, ◌∷◌, refl, sym, ap, ◌∙◌, is_none}
use Rattle.gs_syntax.specs.declared.token.Token.{Token}
use Rattle.gs_syntax.specs.declared.token.Operator.TheVariants as mark
use Rattle.gs_syntax.specs.declared.token.Keyword.TheVariants as word
use Rattle.gs_grammar.specs.Front.{mark_at, word_at, name_at, front_at, trail_at, selector_at, is_basic, is_binary, is_bound_end, is_composite_start, is_other_start, is_sign}
use Rattle.gs_grammar.specs.Steps.{head_step, read_basic_literal, read_header_name, read_literal_of_selected, read_name, read_literal_of_name, read_paren, read_literal_of_type, read_composite_type, read_counted_literal, read_other_type, read_function_literal, read_lone_function_type, primary_step, read_primary, unary_step, read_bare_primary, read_signed, read_starred, read_receiver, read_receive_first, read_receive, expr_step, bound_step, read_a_bound, read_no_bound, args_step, read_spread, read_last_arg, read_more_args, read_no_args, suffix_step, read_selector, read_assertion, read_open_slice, read_open_full_slice, read_index, read_slice_expr, read_full_slice, read_call, suffixes_step, read_more_suffixes, read_no_suffixes, operand_step, read_operand, operands_step, read_more_operands, read_no_operands, value_step, read_value_expr, read_value_literal, element_step, read_plain_element, read_keyed_element, elements_step, read_last_element, read_more_elements, read_no_elements, exprs_step, read_one_expr, read_more_exprs}
use Rattle.gs_grammar.specs.Reference.{rows, row_at}
use Rattle.gs_grammar.proofs.Common.{to_ends, ends_of, Ends-trans, After-mark, After-word, After-name, After-front, Ends-trail, mark-sound, word-sound, name-sound, front-sound, trail-sound}
use Rattle.gs_grammar.proofs.Rows.{look, type-cons, head-cons, primary-cons, expr-cons, suffix-cons, operand-cons, value-cons, element-cons}
use Rattle.gs_places.specs.Places.{stands}
use Rattle.gs_places.proofs.Within.{after_type, after_head, after_primary, after_expr, after_suffix, after_operand, after_value, after_element, ends_type, ends_signature, ends_literal, ends_selected, ends_block, ends_received, ends_unary, ends_expr, ends_bound, ends_args, ends_suffixes, ends_operands, ends_value, ends_elements, ends_exprs}
use Rattle.gs_places.proofs.Chains.{agree, bind-same, bind-two, guard-same, guard-two, first-two}
use Rattle.gs_places.proofs.SameOne.{same-type_step}

same-read_basic_literal : (h : Bool) (t0 : Token) (s : List Token) → read_basic_literal s (row_at (rows s)) h t0 ≡ read_basic_literal s stands h t0
unfolding read_basic_literal
same-read_basic_literal h t0 s =
    bind-same (front_at is_basic (t0 ∷ s)) (λ x e1.
    let q1 = ends_of (After-front (front-sound is_basic (t0 ∷ s) x e1)) in
    refl)

same-read_header_name : (h : Bool) (t0 : Token) (s : List Token) → read_header_name s (row_at (rows s)) h t0 ≡ read_header_name s stands h t0
unfolding read_header_name
same-read_header_name h t0 s =
    bind-same (name_at (t0 ∷ s)) (λ x e1.
    let q1 = ends_of (After-name (name-sound (t0 ∷ s) x e1)) in
    guard-same h (refl))

same-read_literal_of_selected : (h : Bool) (t0 : Token) (s : List Token) → read_literal_of_selected s (row_at (rows s)) h t0 ≡ read_literal_of_selected s stands h t0
unfolding read_literal_of_selected
same-read_literal_of_selected h t0 s =
    bind-same (name_at (t0 ∷ s)) (λ x e1.
    let q1 = ends_of (After-name (name-sound (t0 ∷ s) x e1)) in
    guard-same (not h) (bind-two _ _ (ap (λ z. z.selected) (agree q1)) (λ y e3.
    let q3 = Ends-trans q1 (ends_selected x.1 y (sym (ap (λ z. z.selected) (look q1)) ∙ e3)) in
    refl)))

same-read_name : (h : Bool) (t0 : Token) (s : List Token) → read_name s (row_at (rows s)) h t0 ≡ read_name s stands h t0
unfolding read_name
same-read_name h t0 s =
    bind-same (name_at (t0 ∷ s)) (λ x e1.
    let q1 = ends_of (After-name (name-sound (t0 ∷ s) x e1)) in
    guard-same (not h) (guard-two _ _ (ap (λ z. is_none (z.selected)) (agree q1)) (guard-two _ _ (ap (λ z. is_none (z.literal)) (agree q1)) (refl))))

same-read_literal_of_name : (h : Bool) (t0 : Token) (s : List Token) → read_literal_of_name s (row_at (rows s)) h t0 ≡ read_literal_of_name s stands h t0
unfolding read_literal_of_name
same-read_literal_of_name h t0 s =
    bind-same (name_at (t0 ∷ s)) (λ x e1.
    let q1 = ends_of (After-name (name-sound (t0 ∷ s) x e1)) in
    guard-same (not h) (guard-same (is_none (selector_at x.1)) (bind-two _ _ (ap (λ z. z.literal) (agree q1)) (λ v e4.
    let q4 = Ends-trans q1 (ends_literal x.1 v (sym (ap (λ z. z.literal) (look q1)) ∙ e4)) in
    refl))))

same-read_paren : (h : Bool) (t0 : Token) (s : List Token) → read_paren s (row_at (rows s)) h t0 ≡ read_paren s stands h t0
unfolding read_paren
same-read_paren h t0 s =
    bind-same (mark_at mark.LeftParen (t0 ∷ s)) (λ p e1.
    let q1 = ends_of (After-mark (mark-sound mark.LeftParen (t0 ∷ s) p e1)) in
    bind-two _ _ (ap (λ z. z.expr 5 false true) (agree q1)) (λ t e2.
    let q2 = Ends-trans q1 (ends_expr 5 false true p.1 t (sym (ap (λ z. z.expr 5 false true) (look q1)) ∙ e2)) in
    bind-same (mark_at mark.RightParen t.rest) (λ q e3.
    let q3 = Ends-trans q2 (to_ends (After-mark (mark-sound mark.RightParen t.rest q e3))) in
    refl)))

same-read_literal_of_type : (h : Bool) (t0 : Token) (s : List Token) → read_literal_of_type s (row_at (rows s)) h t0 ≡ read_literal_of_type s stands h t0
unfolding read_literal_of_type
same-read_literal_of_type h t0 s =
    bind-same (front_at is_composite_start (t0 ∷ s)) (λ z0 e1.
    bind-two _ _ (same-type_step t0 s) (λ t e2.
    let q2 = ends_of (after_type (t0 ∷ s) t (type-cons t0 s ∙ e2)) in
    bind-two _ _ (ap (λ z. z.literal) (agree q2)) (λ v e3.
    let q3 = Ends-trans q2 (ends_literal t.rest v (sym (ap (λ z. z.literal) (look q2)) ∙ e3)) in
    refl)))

same-read_composite_type : (h : Bool) (t0 : Token) (s : List Token) → read_composite_type s (row_at (rows s)) h t0 ≡ read_composite_type s stands h t0
unfolding read_composite_type
same-read_composite_type h t0 s =
    bind-same (front_at is_composite_start (t0 ∷ s)) (λ z0 e1.
    bind-two _ _ (same-type_step t0 s) (λ t e2.
    let q2 = ends_of (after_type (t0 ∷ s) t (type-cons t0 s ∙ e2)) in
    guard-two _ _ (ap (λ z. is_none (z.literal)) (agree q2)) (refl)))

same-read_counted_literal : (h : Bool) (t0 : Token) (s : List Token) → read_counted_literal s (row_at (rows s)) h t0 ≡ read_counted_literal s stands h t0
unfolding read_counted_literal
same-read_counted_literal h t0 s =
    bind-same (mark_at mark.LeftBracket (t0 ∷ s)) (λ p e1.
    let q1 = ends_of (After-mark (mark-sound mark.LeftBracket (t0 ∷ s) p e1)) in
    bind-same (mark_at mark.Ellipsis p.1) (λ z1 e2.
    let q2 = Ends-trans q1 (to_ends (After-mark (mark-sound mark.Ellipsis p.1 z1 e2))) in
    bind-same (mark_at mark.RightBracket z1.1) (λ z2 e3.
    let q3 = Ends-trans q2 (to_ends (After-mark (mark-sound mark.RightBracket z1.1 z2 e3))) in
    bind-two _ _ (ap (λ z. z.type) (agree q3)) (λ t e4.
    let q4 = Ends-trans q3 (ends_type z2.1 t (sym (ap (λ z. z.type) (look q3)) ∙ e4)) in
    bind-two _ _ (ap (λ z. z.literal) (agree q4)) (λ v e5.
    let q5 = Ends-trans q4 (ends_literal t.rest v (sym (ap (λ z. z.literal) (look q4)) ∙ e5)) in
    refl)))))

same-read_other_type : (h : Bool) (t0 : Token) (s : List Token) → read_other_type s (row_at (rows s)) h t0 ≡ read_other_type s stands h t0
unfolding read_other_type
same-read_other_type h t0 s =
    bind-same (front_at is_other_start (t0 ∷ s)) (λ z0 e1.
    bind-two _ _ (same-type_step t0 s) (λ t e2.
    let q2 = ends_of (after_type (t0 ∷ s) t (type-cons t0 s ∙ e2)) in
    refl))

same-read_function_literal : (h : Bool) (t0 : Token) (s : List Token) → read_function_literal s (row_at (rows s)) h t0 ≡ read_function_literal s stands h t0
unfolding read_function_literal
same-read_function_literal h t0 s =
    bind-same (word_at word.Func (t0 ∷ s)) (λ p e1.
    let q1 = ends_of (After-word (word-sound word.Func (t0 ∷ s) p e1)) in
    bind-two _ _ (ap (λ z. z.signature) (agree q1)) (λ z e2.
    let q2 = Ends-trans q1 (ends_signature p.1 z (sym (ap (λ z. z.signature) (look q1)) ∙ e2)) in
    bind-two _ _ (ap (λ z. z.block) (agree q2)) (λ b e3.
    let q3 = Ends-trans q2 (ends_block z.rest b (sym (ap (λ z. z.block) (look q2)) ∙ e3)) in
    refl)))

same-read_lone_function_type : (h : Bool) (t0 : Token) (s : List Token) → read_lone_function_type s (row_at (rows s)) h t0 ≡ read_lone_function_type s stands h t0
unfolding read_lone_function_type
same-read_lone_function_type h t0 s =
    bind-same (word_at word.Func (t0 ∷ s)) (λ p e1.
    let q1 = ends_of (After-word (word-sound word.Func (t0 ∷ s) p e1)) in
    bind-two _ _ (ap (λ z. z.signature) (agree q1)) (λ z e2.
    let q2 = Ends-trans q1 (ends_signature p.1 z (sym (ap (λ z. z.signature) (look q1)) ∙ e2)) in
    guard-two _ _ (ap (λ z. is_none (z.block)) (agree q2)) (refl)))

pub same-head_step : (h : Bool) (t0 : Token) (s : List Token) → head_step s (row_at (rows s)) h t0 ≡ head_step s stands h t0
unfolding head_step
same-head_step h t0 s = first-two (same-read_basic_literal h t0 s) (first-two (same-read_header_name h t0 s) (first-two (same-read_literal_of_selected h t0 s) (first-two (same-read_name h t0 s) (first-two (same-read_literal_of_name h t0 s) (first-two (same-read_paren h t0 s) (first-two (same-read_literal_of_type h t0 s) (first-two (same-read_composite_type h t0 s) (first-two (same-read_counted_literal h t0 s) (first-two (same-read_other_type h t0 s) (first-two (same-read_function_literal h t0 s) (same-read_lone_function_type h t0 s)))))))))))

same-read_primary : (h : Bool) (t0 : Token) (s : List Token) → read_primary s (row_at (rows s)) h t0 ≡ read_primary s stands h t0
unfolding read_primary
same-read_primary h t0 s =
    bind-two _ _ (same-head_step h t0 s) (λ t e1.
    let q1 = ends_of (after_head h (t0 ∷ s) t (head-cons h t0 s ∙ e1)) in
    bind-two _ _ (ap (λ z. z.suffixes) (agree q1)) (λ xs e2.
    let q2 = Ends-trans q1 (ends_suffixes t.rest xs (sym (ap (λ z. z.suffixes) (look q1)) ∙ e2)) in
    refl))

pub same-primary_step : (h : Bool) (t0 : Token) (s : List Token) → primary_step s (row_at (rows s)) h t0 ≡ primary_step s stands h t0
unfolding primary_step
same-primary_step h t0 s = same-read_primary h t0 s

same-read_bare_primary : (h : Bool) (w : Bool) (t0 : Token) (s : List Token) → read_bare_primary s (row_at (rows s)) h w t0 ≡ read_bare_primary s stands h w t0
unfolding read_bare_primary
same-read_bare_primary h w t0 s =
    bind-two _ _ (same-primary_step h t0 s) (λ t e1.
    let q1 = ends_of (after_primary h (t0 ∷ s) t (primary-cons h t0 s ∙ e1)) in
    refl)

same-read_signed : (h : Bool) (w : Bool) (t0 : Token) (s : List Token) → read_signed s (row_at (rows s)) h w t0 ≡ read_signed s stands h w t0
unfolding read_signed
same-read_signed h w t0 s =
    bind-same (front_at is_sign (t0 ∷ s)) (λ x e1.
    let q1 = ends_of (After-front (front-sound is_sign (t0 ∷ s) x e1)) in
    bind-two _ _ (ap (λ z. z.unary h false) (agree q1)) (λ t e2.
    let q2 = Ends-trans q1 (ends_unary h false x.1 t (sym (ap (λ z. z.unary h false) (look q1)) ∙ e2)) in
    refl))

same-read_starred : (h : Bool) (w : Bool) (t0 : Token) (s : List Token) → read_starred s (row_at (rows s)) h w t0 ≡ read_starred s stands h w t0
unfolding read_starred
same-read_starred h w t0 s =
    bind-same (mark_at mark.Star (t0 ∷ s)) (λ p e1.
    let q1 = ends_of (After-mark (mark-sound mark.Star (t0 ∷ s) p e1)) in
    bind-two _ _ (ap (λ z. z.unary h w) (agree q1)) (λ t e2.
    let q2 = Ends-trans q1 (ends_unary h w p.1 t (sym (ap (λ z. z.unary h w) (look q1)) ∙ e2)) in
    refl))

same-read_receiver : (h : Bool) (w : Bool) (t0 : Token) (s : List Token) → read_receiver s (row_at (rows s)) h w t0 ≡ read_receiver s stands h w t0
unfolding read_receiver
same-read_receiver h w t0 s =
    bind-same (mark_at mark.Arrow (t0 ∷ s)) (λ p e1.
    let q1 = ends_of (After-mark (mark-sound mark.Arrow (t0 ∷ s) p e1)) in
    guard-same w (bind-two _ _ (ap (λ z. z.received) (agree q1)) (λ t e3.
    let q3 = Ends-trans q1 (ends_received p.1 t (sym (ap (λ z. z.received) (look q1)) ∙ e3)) in
    refl)))

same-read_receive_first : (h : Bool) (w : Bool) (t0 : Token) (s : List Token) → read_receive_first s (row_at (rows s)) h w t0 ≡ read_receive_first s stands h w t0
unfolding read_receive_first
same-read_receive_first h w t0 s =
    bind-same (mark_at mark.Arrow (t0 ∷ s)) (λ p e1.
    let q1 = ends_of (After-mark (mark-sound mark.Arrow (t0 ∷ s) p e1)) in
    guard-same w (guard-two _ _ (ap (λ z. is_none (z.received)) (agree q1)) (bind-two _ _ (ap (λ z. z.unary h false) (agree q1)) (λ t e4.
    let q4 = Ends-trans q1 (ends_unary h false p.1 t (sym (ap (λ z. z.unary h false) (look q1)) ∙ e4)) in
    refl))))

same-read_receive : (h : Bool) (w : Bool) (t0 : Token) (s : List Token) → read_receive s (row_at (rows s)) h w t0 ≡ read_receive s stands h w t0
unfolding read_receive
same-read_receive h w t0 s =
    bind-same (mark_at mark.Arrow (t0 ∷ s)) (λ p e1.
    let q1 = ends_of (After-mark (mark-sound mark.Arrow (t0 ∷ s) p e1)) in
    guard-same (not w) (bind-two _ _ (ap (λ z. z.unary h false) (agree q1)) (λ t e3.
    let q3 = Ends-trans q1 (ends_unary h false p.1 t (sym (ap (λ z. z.unary h false) (look q1)) ∙ e3)) in
    refl)))

pub same-unary_step : (h : Bool) (w : Bool) (t0 : Token) (s : List Token) → unary_step s (row_at (rows s)) h w t0 ≡ unary_step s stands h w t0
unfolding unary_step
same-unary_step h w t0 s = first-two (same-read_bare_primary h w t0 s) (first-two (same-read_signed h w t0 s) (first-two (same-read_starred h w t0 s) (first-two (same-read_receiver h w t0 s) (first-two (same-read_receive_first h w t0 s) (same-read_receive h w t0 s)))))

pub same-expr_step : (m : ℕ) (h : Bool) (w : Bool) (t0 : Token) (s : List Token) → expr_step s (row_at (rows s)) m h w t0 ≡ expr_step s stands m h w t0
unfolding expr_step
same-expr_step zero h w t0 s = same-unary_step h w t0 s
same-expr_step (suc m) h w t0 s = bind-two _ _ (same-expr_step m h w t0 s) (λ t e1.
    let q1 = ends_of (after_expr m h w (t0 ∷ s) t (expr-cons m h w t0 s ∙ e1)) in
    bind-two _ _ (ap (λ z. z.operands m h) (agree q1)) (λ os e2. refl))

same-read_a_bound : (t0 : Token) (s : List Token) → read_a_bound s (row_at (rows s)) t0 ≡ read_a_bound s stands t0
unfolding read_a_bound
same-read_a_bound t0 s =
    bind-two _ _ (same-expr_step 5 false false t0 s) (λ t e1.
    let q1 = ends_of (after_expr 5 false false (t0 ∷ s) t (expr-cons 5 false false t0 s ∙ e1)) in
    refl)

same-read_no_bound : (t0 : Token) (s : List Token) → read_no_bound s (row_at (rows s)) t0 ≡ read_no_bound s stands t0
unfolding read_no_bound
same-read_no_bound t0 s =
    bind-same (front_at is_bound_end (t0 ∷ s)) (λ z0 e1.
    refl)

pub same-bound_step : (t0 : Token) (s : List Token) → bound_step s (row_at (rows s)) t0 ≡ bound_step s stands t0
unfolding bound_step
same-bound_step t0 s = first-two (same-read_a_bound t0 s) (same-read_no_bound t0 s)

same-read_spread : (t0 : Token) (s : List Token) → read_spread s (row_at (rows s)) t0 ≡ read_spread s stands t0
unfolding read_spread
same-read_spread t0 s =
    bind-two _ _ (same-expr_step 5 false true t0 s) (λ t e1.
    let q1 = ends_of (after_expr 5 false true (t0 ∷ s) t (expr-cons 5 false true t0 s ∙ e1)) in
    bind-same (mark_at mark.Ellipsis t.rest) (λ p e2.
    let q2 = Ends-trans q1 (to_ends (After-mark (mark-sound mark.Ellipsis t.rest p e2))) in
    bind-same (trail_at mark.RightParen p.1) (λ z2 e3.
    let q3 = Ends-trans q2 (Ends-trail (trail-sound mark.RightParen p.1 z2 e3)) in
    refl)))

same-read_last_arg : (t0 : Token) (s : List Token) → read_last_arg s (row_at (rows s)) t0 ≡ read_last_arg s stands t0
unfolding read_last_arg
same-read_last_arg t0 s =
    bind-two _ _ (same-expr_step 5 false true t0 s) (λ t e1.
    let q1 = ends_of (after_expr 5 false true (t0 ∷ s) t (expr-cons 5 false true t0 s ∙ e1)) in
    guard-same (is_none (mark_at mark.Ellipsis t.rest)) (bind-same (trail_at mark.RightParen t.rest) (λ z2 e3.
    let q3 = Ends-trans q1 (Ends-trail (trail-sound mark.RightParen t.rest z2 e3)) in
    refl)))

same-read_more_args : (t0 : Token) (s : List Token) → read_more_args s (row_at (rows s)) t0 ≡ read_more_args s stands t0
unfolding read_more_args
same-read_more_args t0 s =
    bind-two _ _ (same-expr_step 5 false true t0 s) (λ t e1.
    let q1 = ends_of (after_expr 5 false true (t0 ∷ s) t (expr-cons 5 false true t0 s ∙ e1)) in
    bind-same (mark_at mark.Comma t.rest) (λ z1 e2.
    let q2 = Ends-trans q1 (to_ends (After-mark (mark-sound mark.Comma t.rest z1 e2))) in
    guard-same (is_none (mark_at mark.RightParen z1.1)) (bind-two _ _ (ap (λ z. z.args) (agree q2)) (λ ts e4.
    let q4 = Ends-trans q2 (ends_args z1.1 ts (sym (ap (λ z. z.args) (look q2)) ∙ e4)) in
    refl))))

same-read_no_args : (t0 : Token) (s : List Token) → read_no_args s (row_at (rows s)) t0 ≡ read_no_args s stands t0
unfolding read_no_args
same-read_no_args t0 s =
    bind-same (mark_at mark.RightParen (t0 ∷ s)) (λ z0 e1.
    refl)

pub same-args_step : (t0 : Token) (s : List Token) → args_step s (row_at (rows s)) t0 ≡ args_step s stands t0
unfolding args_step
same-args_step t0 s = first-two (same-read_spread t0 s) (first-two (same-read_last_arg t0 s) (first-two (same-read_more_args t0 s) (same-read_no_args t0 s)))

same-read_selector : (t0 : Token) (s : List Token) → read_selector s (row_at (rows s)) t0 ≡ read_selector s stands t0
unfolding read_selector
same-read_selector t0 s =
    bind-same (mark_at mark.Dot (t0 ∷ s)) (λ z0 e1.
    let q1 = ends_of (After-mark (mark-sound mark.Dot (t0 ∷ s) z0 e1)) in
    bind-same (name_at z0.1) (λ x e2.
    let q2 = Ends-trans q1 (to_ends (After-name (name-sound z0.1 x e2))) in
    refl))

same-read_assertion : (t0 : Token) (s : List Token) → read_assertion s (row_at (rows s)) t0 ≡ read_assertion s stands t0
unfolding read_assertion
same-read_assertion t0 s =
    bind-same (mark_at mark.Dot (t0 ∷ s)) (λ z0 e1.
    let q1 = ends_of (After-mark (mark-sound mark.Dot (t0 ∷ s) z0 e1)) in
    bind-same (mark_at mark.LeftParen z0.1) (λ z1 e2.
    let q2 = Ends-trans q1 (to_ends (After-mark (mark-sound mark.LeftParen z0.1 z1 e2))) in
    bind-two _ _ (ap (λ z. z.type) (agree q2)) (λ t e3.
    let q3 = Ends-trans q2 (ends_type z1.1 t (sym (ap (λ z. z.type) (look q2)) ∙ e3)) in
    bind-same (mark_at mark.RightParen t.rest) (λ q e4.
    let q4 = Ends-trans q3 (to_ends (After-mark (mark-sound mark.RightParen t.rest q e4))) in
    refl))))

same-read_open_slice : (t0 : Token) (s : List Token) → read_open_slice s (row_at (rows s)) t0 ≡ read_open_slice s stands t0
unfolding read_open_slice
same-read_open_slice t0 s =
    bind-same (mark_at mark.LeftBracket (t0 ∷ s)) (λ z0 e1.
    let q1 = ends_of (After-mark (mark-sound mark.LeftBracket (t0 ∷ s) z0 e1)) in
    bind-same (mark_at mark.Colon z0.1) (λ z1 e2.
    let q2 = Ends-trans q1 (to_ends (After-mark (mark-sound mark.Colon z0.1 z1 e2))) in
    bind-two _ _ (ap (λ z. z.bound) (agree q2)) (λ b e3.
    let q3 = Ends-trans q2 (ends_bound z1.1 b (sym (ap (λ z. z.bound) (look q2)) ∙ e3)) in
    bind-same (mark_at mark.RightBracket b.rest) (λ q e4.
    let q4 = Ends-trans q3 (to_ends (After-mark (mark-sound mark.RightBracket b.rest q e4))) in
    refl))))

same-read_open_full_slice : (t0 : Token) (s : List Token) → read_open_full_slice s (row_at (rows s)) t0 ≡ read_open_full_slice s stands t0
unfolding read_open_full_slice
same-read_open_full_slice t0 s =
    bind-same (mark_at mark.LeftBracket (t0 ∷ s)) (λ z0 e1.
    let q1 = ends_of (After-mark (mark-sound mark.LeftBracket (t0 ∷ s) z0 e1)) in
    bind-same (mark_at mark.Colon z0.1) (λ z1 e2.
    let q2 = Ends-trans q1 (to_ends (After-mark (mark-sound mark.Colon z0.1 z1 e2))) in
    bind-two _ _ (ap (λ z. z.expr 5 false false) (agree q2)) (λ b e3.
    let q3 = Ends-trans q2 (ends_expr 5 false false z1.1 b (sym (ap (λ z. z.expr 5 false false) (look q2)) ∙ e3)) in
    bind-same (mark_at mark.Colon b.rest) (λ z3 e4.
    let q4 = Ends-trans q3 (to_ends (After-mark (mark-sound mark.Colon b.rest z3 e4))) in
    bind-two _ _ (ap (λ z. z.expr 5 false false) (agree q4)) (λ c e5.
    let q5 = Ends-trans q4 (ends_expr 5 false false z3.1 c (sym (ap (λ z. z.expr 5 false false) (look q4)) ∙ e5)) in
    bind-same (mark_at mark.RightBracket c.rest) (λ q e6.
    let q6 = Ends-trans q5 (to_ends (After-mark (mark-sound mark.RightBracket c.rest q e6))) in
    refl))))))

same-read_index : (t0 : Token) (s : List Token) → read_index s (row_at (rows s)) t0 ≡ read_index s stands t0
unfolding read_index
same-read_index t0 s =
    bind-same (mark_at mark.LeftBracket (t0 ∷ s)) (λ z0 e1.
    let q1 = ends_of (After-mark (mark-sound mark.LeftBracket (t0 ∷ s) z0 e1)) in
    guard-same (is_none (mark_at mark.Colon z0.1)) (bind-two _ _ (ap (λ z. z.expr 5 false false) (agree q1)) (λ t e3.
    let q3 = Ends-trans q1 (ends_expr 5 false false z0.1 t (sym (ap (λ z. z.expr 5 false false) (look q1)) ∙ e3)) in
    bind-same (mark_at mark.RightBracket t.rest) (λ q e4.
    let q4 = Ends-trans q3 (to_ends (After-mark (mark-sound mark.RightBracket t.rest q e4))) in
    refl))))

same-read_slice_expr : (t0 : Token) (s : List Token) → read_slice_expr s (row_at (rows s)) t0 ≡ read_slice_expr s stands t0
unfolding read_slice_expr
same-read_slice_expr t0 s =
    bind-same (mark_at mark.LeftBracket (t0 ∷ s)) (λ z0 e1.
    let q1 = ends_of (After-mark (mark-sound mark.LeftBracket (t0 ∷ s) z0 e1)) in
    guard-same (is_none (mark_at mark.Colon z0.1)) (bind-two _ _ (ap (λ z. z.expr 5 false false) (agree q1)) (λ a e3.
    let q3 = Ends-trans q1 (ends_expr 5 false false z0.1 a (sym (ap (λ z. z.expr 5 false false) (look q1)) ∙ e3)) in
    bind-same (mark_at mark.Colon a.rest) (λ z3 e4.
    let q4 = Ends-trans q3 (to_ends (After-mark (mark-sound mark.Colon a.rest z3 e4))) in
    bind-two _ _ (ap (λ z. z.bound) (agree q4)) (λ b e5.
    let q5 = Ends-trans q4 (ends_bound z3.1 b (sym (ap (λ z. z.bound) (look q4)) ∙ e5)) in
    bind-same (mark_at mark.RightBracket b.rest) (λ q e6.
    let q6 = Ends-trans q5 (to_ends (After-mark (mark-sound mark.RightBracket b.rest q e6))) in
    refl))))))

same-read_full_slice : (t0 : Token) (s : List Token) → read_full_slice s (row_at (rows s)) t0 ≡ read_full_slice s stands t0
unfolding read_full_slice
same-read_full_slice t0 s =
    bind-same (mark_at mark.LeftBracket (t0 ∷ s)) (λ z0 e1.
    let q1 = ends_of (After-mark (mark-sound mark.LeftBracket (t0 ∷ s) z0 e1)) in
    guard-same (is_none (mark_at mark.Colon z0.1)) (bind-two _ _ (ap (λ z. z.expr 5 false false) (agree q1)) (λ a e3.
    let q3 = Ends-trans q1 (ends_expr 5 false false z0.1 a (sym (ap (λ z. z.expr 5 false false) (look q1)) ∙ e3)) in
    bind-same (mark_at mark.Colon a.rest) (λ z3 e4.
    let q4 = Ends-trans q3 (to_ends (After-mark (mark-sound mark.Colon a.rest z3 e4))) in
    bind-two _ _ (ap (λ z. z.expr 5 false false) (agree q4)) (λ b e5.
    let q5 = Ends-trans q4 (ends_expr 5 false false z3.1 b (sym (ap (λ z. z.expr 5 false false) (look q4)) ∙ e5)) in
    bind-same (mark_at mark.Colon b.rest) (λ z5 e6.
    let q6 = Ends-trans q5 (to_ends (After-mark (mark-sound mark.Colon b.rest z5 e6))) in
    bind-two _ _ (ap (λ z. z.expr 5 false false) (agree q6)) (λ c e7.
    let q7 = Ends-trans q6 (ends_expr 5 false false z5.1 c (sym (ap (λ z. z.expr 5 false false) (look q6)) ∙ e7)) in
    bind-same (mark_at mark.RightBracket c.rest) (λ q e8.
    let q8 = Ends-trans q7 (to_ends (After-mark (mark-sound mark.RightBracket c.rest q e8))) in
    refl))))))))

same-read_call : (t0 : Token) (s : List Token) → read_call s (row_at (rows s)) t0 ≡ read_call s stands t0
unfolding read_call
same-read_call t0 s =
    bind-same (mark_at mark.LeftParen (t0 ∷ s)) (λ z0 e1.
    let q1 = ends_of (After-mark (mark-sound mark.LeftParen (t0 ∷ s) z0 e1)) in
    bind-two _ _ (ap (λ z. z.args) (agree q1)) (λ ts e2.
    let q2 = Ends-trans q1 (ends_args z0.1 ts (sym (ap (λ z. z.args) (look q1)) ∙ e2)) in
    bind-same (mark_at mark.RightParen ts.rest) (λ q e3.
    let q3 = Ends-trans q2 (to_ends (After-mark (mark-sound mark.RightParen ts.rest q e3))) in
    refl)))

pub same-suffix_step : (t0 : Token) (s : List Token) → suffix_step s (row_at (rows s)) t0 ≡ suffix_step s stands t0
unfolding suffix_step
same-suffix_step t0 s = first-two (same-read_selector t0 s) (first-two (same-read_assertion t0 s) (first-two (same-read_open_slice t0 s) (first-two (same-read_open_full_slice t0 s) (first-two (same-read_index t0 s) (first-two (same-read_slice_expr t0 s) (first-two (same-read_full_slice t0 s) (same-read_call t0 s)))))))

same-read_more_suffixes : (t0 : Token) (s : List Token) → read_more_suffixes s (row_at (rows s)) t0 ≡ read_more_suffixes s stands t0
unfolding read_more_suffixes
same-read_more_suffixes t0 s =
    bind-two _ _ (same-suffix_step t0 s) (λ x e1.
    let q1 = ends_of (after_suffix (t0 ∷ s) x (suffix-cons t0 s ∙ e1)) in
    bind-two _ _ (ap (λ z. z.suffixes) (agree q1)) (λ xs e2.
    let q2 = Ends-trans q1 (ends_suffixes x.rest xs (sym (ap (λ z. z.suffixes) (look q1)) ∙ e2)) in
    refl))

same-read_no_suffixes : (t0 : Token) (s : List Token) → read_no_suffixes s (row_at (rows s)) t0 ≡ read_no_suffixes s stands t0
unfolding read_no_suffixes
same-read_no_suffixes t0 s =
    guard-two _ _ (ap is_none (same-suffix_step t0 s)) (refl)

pub same-suffixes_step : (t0 : Token) (s : List Token) → suffixes_step s (row_at (rows s)) t0 ≡ suffixes_step s stands t0
unfolding suffixes_step
same-suffixes_step t0 s = first-two (same-read_more_suffixes t0 s) (same-read_no_suffixes t0 s)

same-read_operand : (m : ℕ) (h : Bool) (t0 : Token) (s : List Token) → read_operand s (row_at (rows s)) m h t0 ≡ read_operand s stands m h t0
unfolding read_operand
same-read_operand m h t0 s =
    bind-same (front_at (is_binary m) (t0 ∷ s)) (λ x e1.
    let q1 = ends_of (After-front (front-sound (is_binary m) (t0 ∷ s) x e1)) in
    bind-two _ _ (ap (λ z. z.expr m h false) (agree q1)) (λ t e2.
    let q2 = Ends-trans q1 (ends_expr m h false x.1 t (sym (ap (λ z. z.expr m h false) (look q1)) ∙ e2)) in
    refl))

pub same-operand_step : (m : ℕ) (h : Bool) (t0 : Token) (s : List Token) → operand_step s (row_at (rows s)) m h t0 ≡ operand_step s stands m h t0
unfolding operand_step
same-operand_step m h t0 s = same-read_operand m h t0 s

same-read_more_operands : (m : ℕ) (h : Bool) (t0 : Token) (s : List Token) → read_more_operands s (row_at (rows s)) m h t0 ≡ read_more_operands s stands m h t0
unfolding read_more_operands
same-read_more_operands m h t0 s =
    bind-two _ _ (same-operand_step m h t0 s) (λ x e1.
    let q1 = ends_of (after_operand m h (t0 ∷ s) x (operand-cons m h t0 s ∙ e1)) in
    bind-two _ _ (ap (λ z. z.operands m h) (agree q1)) (λ xs e2.
    let q2 = Ends-trans q1 (ends_operands m h x.rest xs (sym (ap (λ z. z.operands m h) (look q1)) ∙ e2)) in
    refl))

same-read_no_operands : (m : ℕ) (h : Bool) (t0 : Token) (s : List Token) → read_no_operands s (row_at (rows s)) m h t0 ≡ read_no_operands s stands m h t0
unfolding read_no_operands
same-read_no_operands m h t0 s =
    guard-two _ _ (ap is_none (same-operand_step m h t0 s)) (refl)

pub same-operands_step : (m : ℕ) (h : Bool) (t0 : Token) (s : List Token) → operands_step s (row_at (rows s)) m h t0 ≡ operands_step s stands m h t0
unfolding operands_step
same-operands_step m h t0 s = first-two (same-read_more_operands m h t0 s) (same-read_no_operands m h t0 s)

same-read_value_expr : (t0 : Token) (s : List Token) → read_value_expr s (row_at (rows s)) t0 ≡ read_value_expr s stands t0
unfolding read_value_expr
same-read_value_expr t0 s =
    bind-two _ _ (same-expr_step 5 false false t0 s) (λ t e1.
    let q1 = ends_of (after_expr 5 false false (t0 ∷ s) t (expr-cons 5 false false t0 s ∙ e1)) in
    refl)

same-read_value_literal : (t0 : Token) (s : List Token) → read_value_literal s (row_at (rows s)) t0 ≡ read_value_literal s stands t0
unfolding read_value_literal
same-read_value_literal t0 s =
    bind-same (mark_at mark.LeftBrace (t0 ∷ s)) (λ p e1.
    let q1 = ends_of (After-mark (mark-sound mark.LeftBrace (t0 ∷ s) p e1)) in
    bind-two _ _ (ap (λ z. z.elements) (agree q1)) (λ xs e2.
    let q2 = Ends-trans q1 (ends_elements p.1 xs (sym (ap (λ z. z.elements) (look q1)) ∙ e2)) in
    bind-same (mark_at mark.RightBrace xs.rest) (λ q e3.
    let q3 = Ends-trans q2 (to_ends (After-mark (mark-sound mark.RightBrace xs.rest q e3))) in
    refl)))

pub same-value_step : (t0 : Token) (s : List Token) → value_step s (row_at (rows s)) t0 ≡ value_step s stands t0
unfolding value_step
same-value_step t0 s = first-two (same-read_value_expr t0 s) (same-read_value_literal t0 s)

same-read_plain_element : (t0 : Token) (s : List Token) → read_plain_element s (row_at (rows s)) t0 ≡ read_plain_element s stands t0
unfolding read_plain_element
same-read_plain_element t0 s =
    bind-two _ _ (same-value_step t0 s) (λ a e1.
    let q1 = ends_of (after_value (t0 ∷ s) a (value-cons t0 s ∙ e1)) in
    guard-same (is_none (mark_at mark.Colon a.rest)) (refl))

same-read_keyed_element : (t0 : Token) (s : List Token) → read_keyed_element s (row_at (rows s)) t0 ≡ read_keyed_element s stands t0
unfolding read_keyed_element
same-read_keyed_element t0 s =
    bind-two _ _ (same-value_step t0 s) (λ a e1.
    let q1 = ends_of (after_value (t0 ∷ s) a (value-cons t0 s ∙ e1)) in
    bind-same (mark_at mark.Colon a.rest) (λ z1 e2.
    let q2 = Ends-trans q1 (to_ends (After-mark (mark-sound mark.Colon a.rest z1 e2))) in
    bind-two _ _ (ap (λ z. z.value) (agree q2)) (λ b e3.
    let q3 = Ends-trans q2 (ends_value z1.1 b (sym (ap (λ z. z.value) (look q2)) ∙ e3)) in
    refl)))

pub same-element_step : (t0 : Token) (s : List Token) → element_step s (row_at (rows s)) t0 ≡ element_step s stands t0
unfolding element_step
same-element_step t0 s = first-two (same-read_plain_element t0 s) (same-read_keyed_element t0 s)

same-read_last_element : (t0 : Token) (s : List Token) → read_last_element s (row_at (rows s)) t0 ≡ read_last_element s stands t0
unfolding read_last_element
same-read_last_element t0 s =
    bind-two _ _ (same-element_step t0 s) (λ x e1.
    let q1 = ends_of (after_element (t0 ∷ s) x (element-cons t0 s ∙ e1)) in
    bind-same (trail_at mark.RightBrace x.rest) (λ z1 e2.
    let q2 = Ends-trans q1 (Ends-trail (trail-sound mark.RightBrace x.rest z1 e2)) in
    refl))

same-read_more_elements : (t0 : Token) (s : List Token) → read_more_elements s (row_at (rows s)) t0 ≡ read_more_elements s stands t0
unfolding read_more_elements
same-read_more_elements t0 s =
    bind-two _ _ (same-element_step t0 s) (λ x e1.
    let q1 = ends_of (after_element (t0 ∷ s) x (element-cons t0 s ∙ e1)) in
    bind-same (mark_at mark.Comma x.rest) (λ z1 e2.
    let q2 = Ends-trans q1 (to_ends (After-mark (mark-sound mark.Comma x.rest z1 e2))) in
    guard-same (is_none (mark_at mark.RightBrace z1.1)) (bind-two _ _ (ap (λ z. z.elements) (agree q2)) (λ xs e4.
    let q4 = Ends-trans q2 (ends_elements z1.1 xs (sym (ap (λ z. z.elements) (look q2)) ∙ e4)) in
    refl))))

same-read_no_elements : (t0 : Token) (s : List Token) → read_no_elements s (row_at (rows s)) t0 ≡ read_no_elements s stands t0
unfolding read_no_elements
same-read_no_elements t0 s =
    bind-same (mark_at mark.RightBrace (t0 ∷ s)) (λ z0 e1.
    refl)

pub same-elements_step : (t0 : Token) (s : List Token) → elements_step s (row_at (rows s)) t0 ≡ elements_step s stands t0
unfolding elements_step
same-elements_step t0 s = first-two (same-read_last_element t0 s) (first-two (same-read_more_elements t0 s) (same-read_no_elements t0 s))

same-read_one_expr : (h : Bool) (t0 : Token) (s : List Token) → read_one_expr s (row_at (rows s)) h t0 ≡ read_one_expr s stands h t0
unfolding read_one_expr
same-read_one_expr h t0 s =
    bind-two _ _ (same-expr_step 5 h false t0 s) (λ t e1.
    let q1 = ends_of (after_expr 5 h false (t0 ∷ s) t (expr-cons 5 h false t0 s ∙ e1)) in
    guard-same (is_none (mark_at mark.Comma t.rest)) (refl))

same-read_more_exprs : (h : Bool) (t0 : Token) (s : List Token) → read_more_exprs s (row_at (rows s)) h t0 ≡ read_more_exprs s stands h t0
unfolding read_more_exprs
same-read_more_exprs h t0 s =
    bind-two _ _ (same-expr_step 5 h false t0 s) (λ t e1.
    let q1 = ends_of (after_expr 5 h false (t0 ∷ s) t (expr-cons 5 h false t0 s ∙ e1)) in
    bind-same (mark_at mark.Comma t.rest) (λ z1 e2.
    let q2 = Ends-trans q1 (to_ends (After-mark (mark-sound mark.Comma t.rest z1 e2))) in
    bind-two _ _ (ap (λ z. z.exprs h) (agree q2)) (λ ts e3.
    let q3 = Ends-trans q2 (ends_exprs h z1.1 ts (sym (ap (λ z. z.exprs h) (look q2)) ∙ e3)) in
    refl)))

pub same-exprs_step : (h : Bool) (t0 : Token) (s : List Token) → exprs_step s (row_at (rows s)) h t0 ≡ exprs_step s stands h t0
unfolding exprs_step
same-exprs_step h t0 s = first-two (same-read_one_expr h t0 s) (same-read_more_exprs h t0 s)
