-- The steps of the reference over the rows of each place.
use Rattle.std.proofs.Common.{◌≡◌, Bool, true, false, not, List, ◌∷◌, refl, sym, ap, ◌∙◌, is_none}
use Rattle.gs_syntax.specs.declared.token.Token.{Token}
use Rattle.gs_syntax.specs.declared.token.Operator.TheVariants as mark
use Rattle.gs_syntax.specs.declared.token.Keyword.TheVariants as word
use Rattle.gs_grammar.specs.Front.{mark_at, word_at, name_at, front_at, defined_at, is_goes_on, is_semi, is_spec_end, is_step, is_stmt_end, is_update}
use Rattle.gs_grammar.specs.Reference.{rows, row_at, simple_step, read_assign, read_define, read_expression, read_send, read_step, read_update, const_spec_step, read_implicit, read_untyped, read_typed_const, const_specs_step, read_last_const, read_more_consts, read_no_consts, type_spec_step, read_definition, read_alias, type_specs_step, read_last_type_spec, read_more_type_specs, read_no_type_specs, var_spec_step, read_var_values, read_typed_var, read_typed_values, var_specs_step, read_last_var, read_more_vars, read_no_vars, decl_step, read_const_decl, read_const_group, read_type_decl, read_type_group, read_var_decl, read_var_group, values_step, read_some_values, read_no_values, target_step, read_a_target, read_no_target, arm_step, read_header_arm, read_bare_arm, read_empty_arm, arms_step, read_last_arm, read_more_arms, read_last_block, tag_value_step, read_a_tag_value, read_no_tag_value, guard_step, read_plain_guard, read_named_guard, clauses_step, read_a_case, read_a_default, read_no_clauses, types_step, read_one_type, read_more_cases}
use Rattle.gs_grammar.proofs.Common.{to_ends, ends_of, Ends-trans, After-mark, After-word, After-name, After-front, mark-sound, word-sound, name-sound, front-sound}
use Rattle.gs_grammar.proofs.Rows.{look, idents-cons, type-cons, primary-cons, expr-cons, exprs-cons, simple-cons, const_spec-cons, type_spec-cons, var_spec-cons, arm-cons}
use Rattle.gs_places.specs.Places.{stands}
use Rattle.gs_places.proofs.Within.{after_idents, after_type, after_primary, after_expr, after_exprs, after_simple, after_const_spec, after_type_spec, after_var_spec, after_arm, ends_type, ends_block, ends_primary, ends_expr, ends_exprs, ends_const_spec, ends_const_specs, ends_type_spec, ends_type_specs, ends_var_spec, ends_var_specs, ends_arms, ends_clauses, ends_types, ends_stmts}
use Rattle.gs_places.proofs.Chains.{agree, bind-same, bind-two, guard-same, first-two}
use Rattle.gs_places.proofs.SameOne.{same-idents_step, same-type_step}
use Rattle.gs_places.proofs.SameTwo.{same-primary_step, same-expr_step, same-exprs_step}

same-read_assign : (h : Bool) (t0 : Token) (s : List Token) → read_assign s (row_at (rows s)) h t0 ≡ read_assign s stands h t0
unfolding read_assign
same-read_assign h t0 s =
    bind-two _ _ (same-exprs_step h t0 s) (λ ts e1.
    let q1 = ends_of (after_exprs h (t0 ∷ s) ts (exprs-cons h t0 s ∙ e1)) in
    bind-same (mark_at mark.Assign ts.rest) (λ p e2.
    let q2 = Ends-trans q1 (to_ends (After-mark (mark-sound mark.Assign ts.rest p e2))) in
    bind-two _ _ (ap (λ z. z.exprs h) (agree q2)) (λ us e3.
    let q3 = Ends-trans q2 (ends_exprs h p.1 us (sym (ap (λ z. z.exprs h) (look q2)) ∙ e3)) in
    refl)))

same-read_define : (h : Bool) (t0 : Token) (s : List Token) → read_define s (row_at (rows s)) h t0 ≡ read_define s stands h t0
unfolding read_define
same-read_define h t0 s =
    bind-two _ _ (same-exprs_step h t0 s) (λ ts e1.
    let q1 = ends_of (after_exprs h (t0 ∷ s) ts (exprs-cons h t0 s ∙ e1)) in
    bind-same (mark_at mark.Define ts.rest) (λ p e2.
    let q2 = Ends-trans q1 (to_ends (After-mark (mark-sound mark.Define ts.rest p e2))) in
    bind-two _ _ (ap (λ z. z.exprs h) (agree q2)) (λ us e3.
    let q3 = Ends-trans q2 (ends_exprs h p.1 us (sym (ap (λ z. z.exprs h) (look q2)) ∙ e3)) in
    refl)))

same-read_expression : (h : Bool) (t0 : Token) (s : List Token) → read_expression s (row_at (rows s)) h t0 ≡ read_expression s stands h t0
unfolding read_expression
same-read_expression h t0 s =
    bind-two _ _ (same-expr_step 5 h false t0 s) (λ t e1.
    let q1 = ends_of (after_expr 5 h false (t0 ∷ s) t (expr-cons 5 h false t0 s ∙ e1)) in
    guard-same (is_none (front_at is_goes_on t.rest)) (refl))

same-read_send : (h : Bool) (t0 : Token) (s : List Token) → read_send s (row_at (rows s)) h t0 ≡ read_send s stands h t0
unfolding read_send
same-read_send h t0 s =
    bind-two _ _ (same-expr_step 5 h false t0 s) (λ t e1.
    let q1 = ends_of (after_expr 5 h false (t0 ∷ s) t (expr-cons 5 h false t0 s ∙ e1)) in
    bind-same (mark_at mark.Arrow t.rest) (λ p e2.
    let q2 = Ends-trans q1 (to_ends (After-mark (mark-sound mark.Arrow t.rest p e2))) in
    bind-two _ _ (ap (λ z. z.expr 5 h false) (agree q2)) (λ u e3.
    let q3 = Ends-trans q2 (ends_expr 5 h false p.1 u (sym (ap (λ z. z.expr 5 h false) (look q2)) ∙ e3)) in
    refl)))

same-read_step : (h : Bool) (t0 : Token) (s : List Token) → read_step s (row_at (rows s)) h t0 ≡ read_step s stands h t0
unfolding read_step
same-read_step h t0 s =
    bind-two _ _ (same-expr_step 5 h false t0 s) (λ t e1.
    let q1 = ends_of (after_expr 5 h false (t0 ∷ s) t (expr-cons 5 h false t0 s ∙ e1)) in
    bind-same (front_at is_step t.rest) (λ x e2.
    let q2 = Ends-trans q1 (to_ends (After-front (front-sound is_step t.rest x e2))) in
    refl))

same-read_update : (h : Bool) (t0 : Token) (s : List Token) → read_update s (row_at (rows s)) h t0 ≡ read_update s stands h t0
unfolding read_update
same-read_update h t0 s =
    bind-two _ _ (same-expr_step 5 h false t0 s) (λ t e1.
    let q1 = ends_of (after_expr 5 h false (t0 ∷ s) t (expr-cons 5 h false t0 s ∙ e1)) in
    bind-same (front_at is_update t.rest) (λ x e2.
    let q2 = Ends-trans q1 (to_ends (After-front (front-sound is_update t.rest x e2))) in
    bind-two _ _ (ap (λ z. z.expr 5 h false) (agree q2)) (λ u e3.
    let q3 = Ends-trans q2 (ends_expr 5 h false x.1 u (sym (ap (λ z. z.expr 5 h false) (look q2)) ∙ e3)) in
    refl)))

pub same-simple_step : (h : Bool) (t0 : Token) (s : List Token) → simple_step s (row_at (rows s)) h t0 ≡ simple_step s stands h t0
unfolding simple_step
same-simple_step h t0 s = first-two (same-read_assign h t0 s) (first-two (same-read_define h t0 s) (first-two (same-read_expression h t0 s) (first-two (same-read_send h t0 s) (first-two (same-read_step h t0 s) (same-read_update h t0 s)))))

same-read_implicit : (i : Bool) (t0 : Token) (s : List Token) → read_implicit s (row_at (rows s)) i t0 ≡ read_implicit s stands i t0
unfolding read_implicit
same-read_implicit i t0 s =
    bind-two _ _ (same-idents_step t0 s) (λ xs e1.
    let q1 = ends_of (after_idents (t0 ∷ s) xs (idents-cons t0 s ∙ e1)) in
    bind-same (front_at is_spec_end xs.rest) (λ z1 e2.
    guard-same (not i) (refl)))

same-read_untyped : (i : Bool) (t0 : Token) (s : List Token) → read_untyped s (row_at (rows s)) i t0 ≡ read_untyped s stands i t0
unfolding read_untyped
same-read_untyped i t0 s =
    bind-two _ _ (same-idents_step t0 s) (λ xs e1.
    let q1 = ends_of (after_idents (t0 ∷ s) xs (idents-cons t0 s ∙ e1)) in
    bind-same (mark_at mark.Assign xs.rest) (λ z1 e2.
    let q2 = Ends-trans q1 (to_ends (After-mark (mark-sound mark.Assign xs.rest z1 e2))) in
    bind-two _ _ (ap (λ z. z.exprs false) (agree q2)) (λ ts e3.
    let q3 = Ends-trans q2 (ends_exprs false z1.1 ts (sym (ap (λ z. z.exprs false) (look q2)) ∙ e3)) in
    refl)))

same-read_typed_const : (i : Bool) (t0 : Token) (s : List Token) → read_typed_const s (row_at (rows s)) i t0 ≡ read_typed_const s stands i t0
unfolding read_typed_const
same-read_typed_const i t0 s =
    bind-two _ _ (same-idents_step t0 s) (λ xs e1.
    let q1 = ends_of (after_idents (t0 ∷ s) xs (idents-cons t0 s ∙ e1)) in
    guard-same (is_none (front_at is_spec_end xs.rest)) (guard-same (is_none (mark_at mark.Assign xs.rest)) (bind-two _ _ (ap (λ z. z.type) (agree q1)) (λ t e4.
    let q4 = Ends-trans q1 (ends_type xs.rest t (sym (ap (λ z. z.type) (look q1)) ∙ e4)) in
    bind-same (mark_at mark.Assign t.rest) (λ z4 e5.
    let q5 = Ends-trans q4 (to_ends (After-mark (mark-sound mark.Assign t.rest z4 e5))) in
    bind-two _ _ (ap (λ z. z.exprs false) (agree q5)) (λ ts e6.
    let q6 = Ends-trans q5 (ends_exprs false z4.1 ts (sym (ap (λ z. z.exprs false) (look q5)) ∙ e6)) in
    refl))))))

pub same-const_spec_step : (i : Bool) (t0 : Token) (s : List Token) → const_spec_step s (row_at (rows s)) i t0 ≡ const_spec_step s stands i t0
unfolding const_spec_step
same-const_spec_step i t0 s = first-two (same-read_implicit i t0 s) (first-two (same-read_untyped i t0 s) (same-read_typed_const i t0 s))

same-read_last_const : (i : Bool) (t0 : Token) (s : List Token) → read_last_const s (row_at (rows s)) i t0 ≡ read_last_const s stands i t0
unfolding read_last_const
same-read_last_const i t0 s =
    bind-two _ _ (same-const_spec_step i t0 s) (λ c e1.
    let q1 = ends_of (after_const_spec i (t0 ∷ s) c (const_spec-cons i t0 s ∙ e1)) in
    bind-same (mark_at mark.RightParen c.rest) (λ z1 e2.
    refl))

same-read_more_consts : (i : Bool) (t0 : Token) (s : List Token) → read_more_consts s (row_at (rows s)) i t0 ≡ read_more_consts s stands i t0
unfolding read_more_consts
same-read_more_consts i t0 s =
    bind-two _ _ (same-const_spec_step i t0 s) (λ c e1.
    let q1 = ends_of (after_const_spec i (t0 ∷ s) c (const_spec-cons i t0 s ∙ e1)) in
    bind-same (front_at is_semi c.rest) (λ x e2.
    let q2 = Ends-trans q1 (to_ends (After-front (front-sound is_semi c.rest x e2))) in
    bind-two _ _ (ap (λ z. z.const_specs false) (agree q2)) (λ cs e3.
    let q3 = Ends-trans q2 (ends_const_specs false x.1 cs (sym (ap (λ z. z.const_specs false) (look q2)) ∙ e3)) in
    refl)))

same-read_no_consts : (i : Bool) (t0 : Token) (s : List Token) → read_no_consts s (row_at (rows s)) i t0 ≡ read_no_consts s stands i t0
unfolding read_no_consts
same-read_no_consts i t0 s =
    bind-same (mark_at mark.RightParen (t0 ∷ s)) (λ z0 e1.
    refl)

pub same-const_specs_step : (i : Bool) (t0 : Token) (s : List Token) → const_specs_step s (row_at (rows s)) i t0 ≡ const_specs_step s stands i t0
unfolding const_specs_step
same-const_specs_step i t0 s = first-two (same-read_last_const i t0 s) (first-two (same-read_more_consts i t0 s) (same-read_no_consts i t0 s))

same-read_definition : (t0 : Token) (s : List Token) → read_definition s (row_at (rows s)) t0 ≡ read_definition s stands t0
unfolding read_definition
same-read_definition t0 s =
    bind-same (name_at (t0 ∷ s)) (λ x e1.
    let q1 = ends_of (After-name (name-sound (t0 ∷ s) x e1)) in
    guard-same (is_none (mark_at mark.Assign x.1)) (bind-two _ _ (ap (λ z. z.type) (agree q1)) (λ t e3.
    let q3 = Ends-trans q1 (ends_type x.1 t (sym (ap (λ z. z.type) (look q1)) ∙ e3)) in
    refl)))

same-read_alias : (t0 : Token) (s : List Token) → read_alias s (row_at (rows s)) t0 ≡ read_alias s stands t0
unfolding read_alias
same-read_alias t0 s =
    bind-same (name_at (t0 ∷ s)) (λ x e1.
    let q1 = ends_of (After-name (name-sound (t0 ∷ s) x e1)) in
    bind-same (mark_at mark.Assign x.1) (λ z1 e2.
    let q2 = Ends-trans q1 (to_ends (After-mark (mark-sound mark.Assign x.1 z1 e2))) in
    bind-two _ _ (ap (λ z. z.type) (agree q2)) (λ t e3.
    let q3 = Ends-trans q2 (ends_type z1.1 t (sym (ap (λ z. z.type) (look q2)) ∙ e3)) in
    refl)))

pub same-type_spec_step : (t0 : Token) (s : List Token) → type_spec_step s (row_at (rows s)) t0 ≡ type_spec_step s stands t0
unfolding type_spec_step
same-type_spec_step t0 s = first-two (same-read_definition t0 s) (same-read_alias t0 s)

same-read_last_type_spec : (t0 : Token) (s : List Token) → read_last_type_spec s (row_at (rows s)) t0 ≡ read_last_type_spec s stands t0
unfolding read_last_type_spec
same-read_last_type_spec t0 s =
    bind-two _ _ (same-type_spec_step t0 s) (λ c e1.
    let q1 = ends_of (after_type_spec (t0 ∷ s) c (type_spec-cons t0 s ∙ e1)) in
    bind-same (mark_at mark.RightParen c.rest) (λ z1 e2.
    refl))

same-read_more_type_specs : (t0 : Token) (s : List Token) → read_more_type_specs s (row_at (rows s)) t0 ≡ read_more_type_specs s stands t0
unfolding read_more_type_specs
same-read_more_type_specs t0 s =
    bind-two _ _ (same-type_spec_step t0 s) (λ c e1.
    let q1 = ends_of (after_type_spec (t0 ∷ s) c (type_spec-cons t0 s ∙ e1)) in
    bind-same (front_at is_semi c.rest) (λ x e2.
    let q2 = Ends-trans q1 (to_ends (After-front (front-sound is_semi c.rest x e2))) in
    bind-two _ _ (ap (λ z. z.type_specs) (agree q2)) (λ cs e3.
    let q3 = Ends-trans q2 (ends_type_specs x.1 cs (sym (ap (λ z. z.type_specs) (look q2)) ∙ e3)) in
    refl)))

same-read_no_type_specs : (t0 : Token) (s : List Token) → read_no_type_specs s (row_at (rows s)) t0 ≡ read_no_type_specs s stands t0
unfolding read_no_type_specs
same-read_no_type_specs t0 s =
    bind-same (mark_at mark.RightParen (t0 ∷ s)) (λ z0 e1.
    refl)

pub same-type_specs_step : (t0 : Token) (s : List Token) → type_specs_step s (row_at (rows s)) t0 ≡ type_specs_step s stands t0
unfolding type_specs_step
same-type_specs_step t0 s = first-two (same-read_last_type_spec t0 s) (first-two (same-read_more_type_specs t0 s) (same-read_no_type_specs t0 s))

same-read_var_values : (t0 : Token) (s : List Token) → read_var_values s (row_at (rows s)) t0 ≡ read_var_values s stands t0
unfolding read_var_values
same-read_var_values t0 s =
    bind-two _ _ (same-idents_step t0 s) (λ xs e1.
    let q1 = ends_of (after_idents (t0 ∷ s) xs (idents-cons t0 s ∙ e1)) in
    bind-same (mark_at mark.Assign xs.rest) (λ z1 e2.
    let q2 = Ends-trans q1 (to_ends (After-mark (mark-sound mark.Assign xs.rest z1 e2))) in
    bind-two _ _ (ap (λ z. z.exprs false) (agree q2)) (λ ts e3.
    let q3 = Ends-trans q2 (ends_exprs false z1.1 ts (sym (ap (λ z. z.exprs false) (look q2)) ∙ e3)) in
    refl)))

same-read_typed_var : (t0 : Token) (s : List Token) → read_typed_var s (row_at (rows s)) t0 ≡ read_typed_var s stands t0
unfolding read_typed_var
same-read_typed_var t0 s =
    bind-two _ _ (same-idents_step t0 s) (λ xs e1.
    let q1 = ends_of (after_idents (t0 ∷ s) xs (idents-cons t0 s ∙ e1)) in
    guard-same (is_none (mark_at mark.Assign xs.rest)) (bind-two _ _ (ap (λ z. z.type) (agree q1)) (λ t e3.
    let q3 = Ends-trans q1 (ends_type xs.rest t (sym (ap (λ z. z.type) (look q1)) ∙ e3)) in
    guard-same (is_none (mark_at mark.Assign t.rest)) (refl))))

same-read_typed_values : (t0 : Token) (s : List Token) → read_typed_values s (row_at (rows s)) t0 ≡ read_typed_values s stands t0
unfolding read_typed_values
same-read_typed_values t0 s =
    bind-two _ _ (same-idents_step t0 s) (λ xs e1.
    let q1 = ends_of (after_idents (t0 ∷ s) xs (idents-cons t0 s ∙ e1)) in
    guard-same (is_none (mark_at mark.Assign xs.rest)) (bind-two _ _ (ap (λ z. z.type) (agree q1)) (λ t e3.
    let q3 = Ends-trans q1 (ends_type xs.rest t (sym (ap (λ z. z.type) (look q1)) ∙ e3)) in
    bind-same (mark_at mark.Assign t.rest) (λ z3 e4.
    let q4 = Ends-trans q3 (to_ends (After-mark (mark-sound mark.Assign t.rest z3 e4))) in
    bind-two _ _ (ap (λ z. z.exprs false) (agree q4)) (λ ts e5.
    let q5 = Ends-trans q4 (ends_exprs false z3.1 ts (sym (ap (λ z. z.exprs false) (look q4)) ∙ e5)) in
    refl)))))

pub same-var_spec_step : (t0 : Token) (s : List Token) → var_spec_step s (row_at (rows s)) t0 ≡ var_spec_step s stands t0
unfolding var_spec_step
same-var_spec_step t0 s = first-two (same-read_var_values t0 s) (first-two (same-read_typed_var t0 s) (same-read_typed_values t0 s))

same-read_last_var : (t0 : Token) (s : List Token) → read_last_var s (row_at (rows s)) t0 ≡ read_last_var s stands t0
unfolding read_last_var
same-read_last_var t0 s =
    bind-two _ _ (same-var_spec_step t0 s) (λ c e1.
    let q1 = ends_of (after_var_spec (t0 ∷ s) c (var_spec-cons t0 s ∙ e1)) in
    bind-same (mark_at mark.RightParen c.rest) (λ z1 e2.
    refl))

same-read_more_vars : (t0 : Token) (s : List Token) → read_more_vars s (row_at (rows s)) t0 ≡ read_more_vars s stands t0
unfolding read_more_vars
same-read_more_vars t0 s =
    bind-two _ _ (same-var_spec_step t0 s) (λ c e1.
    let q1 = ends_of (after_var_spec (t0 ∷ s) c (var_spec-cons t0 s ∙ e1)) in
    bind-same (front_at is_semi c.rest) (λ x e2.
    let q2 = Ends-trans q1 (to_ends (After-front (front-sound is_semi c.rest x e2))) in
    bind-two _ _ (ap (λ z. z.var_specs) (agree q2)) (λ cs e3.
    let q3 = Ends-trans q2 (ends_var_specs x.1 cs (sym (ap (λ z. z.var_specs) (look q2)) ∙ e3)) in
    refl)))

same-read_no_vars : (t0 : Token) (s : List Token) → read_no_vars s (row_at (rows s)) t0 ≡ read_no_vars s stands t0
unfolding read_no_vars
same-read_no_vars t0 s =
    bind-same (mark_at mark.RightParen (t0 ∷ s)) (λ z0 e1.
    refl)

pub same-var_specs_step : (t0 : Token) (s : List Token) → var_specs_step s (row_at (rows s)) t0 ≡ var_specs_step s stands t0
unfolding var_specs_step
same-var_specs_step t0 s = first-two (same-read_last_var t0 s) (first-two (same-read_more_vars t0 s) (same-read_no_vars t0 s))

same-read_const_decl : (t0 : Token) (s : List Token) → read_const_decl s (row_at (rows s)) t0 ≡ read_const_decl s stands t0
unfolding read_const_decl
same-read_const_decl t0 s =
    bind-same (word_at word.Const (t0 ∷ s)) (λ p e1.
    let q1 = ends_of (After-word (word-sound word.Const (t0 ∷ s) p e1)) in
    guard-same (is_none (mark_at mark.LeftParen p.1)) (bind-two _ _ (ap (λ z. z.const_spec true) (agree q1)) (λ c e3.
    let q3 = Ends-trans q1 (ends_const_spec true p.1 c (sym (ap (λ z. z.const_spec true) (look q1)) ∙ e3)) in
    refl)))

same-read_const_group : (t0 : Token) (s : List Token) → read_const_group s (row_at (rows s)) t0 ≡ read_const_group s stands t0
unfolding read_const_group
same-read_const_group t0 s =
    bind-same (word_at word.Const (t0 ∷ s)) (λ p e1.
    let q1 = ends_of (After-word (word-sound word.Const (t0 ∷ s) p e1)) in
    bind-same (mark_at mark.LeftParen p.1) (λ z1 e2.
    let q2 = Ends-trans q1 (to_ends (After-mark (mark-sound mark.LeftParen p.1 z1 e2))) in
    bind-two _ _ (ap (λ z. z.const_specs true) (agree q2)) (λ cs e3.
    let q3 = Ends-trans q2 (ends_const_specs true z1.1 cs (sym (ap (λ z. z.const_specs true) (look q2)) ∙ e3)) in
    bind-same (mark_at mark.RightParen cs.rest) (λ z3 e4.
    let q4 = Ends-trans q3 (to_ends (After-mark (mark-sound mark.RightParen cs.rest z3 e4))) in
    refl))))

same-read_type_decl : (t0 : Token) (s : List Token) → read_type_decl s (row_at (rows s)) t0 ≡ read_type_decl s stands t0
unfolding read_type_decl
same-read_type_decl t0 s =
    bind-same (word_at word.«Type» (t0 ∷ s)) (λ p e1.
    let q1 = ends_of (After-word (word-sound word.«Type» (t0 ∷ s) p e1)) in
    guard-same (is_none (mark_at mark.LeftParen p.1)) (bind-two _ _ (ap (λ z. z.type_spec) (agree q1)) (λ c e3.
    let q3 = Ends-trans q1 (ends_type_spec p.1 c (sym (ap (λ z. z.type_spec) (look q1)) ∙ e3)) in
    refl)))

same-read_type_group : (t0 : Token) (s : List Token) → read_type_group s (row_at (rows s)) t0 ≡ read_type_group s stands t0
unfolding read_type_group
same-read_type_group t0 s =
    bind-same (word_at word.«Type» (t0 ∷ s)) (λ p e1.
    let q1 = ends_of (After-word (word-sound word.«Type» (t0 ∷ s) p e1)) in
    bind-same (mark_at mark.LeftParen p.1) (λ z1 e2.
    let q2 = Ends-trans q1 (to_ends (After-mark (mark-sound mark.LeftParen p.1 z1 e2))) in
    bind-two _ _ (ap (λ z. z.type_specs) (agree q2)) (λ cs e3.
    let q3 = Ends-trans q2 (ends_type_specs z1.1 cs (sym (ap (λ z. z.type_specs) (look q2)) ∙ e3)) in
    bind-same (mark_at mark.RightParen cs.rest) (λ z3 e4.
    let q4 = Ends-trans q3 (to_ends (After-mark (mark-sound mark.RightParen cs.rest z3 e4))) in
    refl))))

same-read_var_decl : (t0 : Token) (s : List Token) → read_var_decl s (row_at (rows s)) t0 ≡ read_var_decl s stands t0
unfolding read_var_decl
same-read_var_decl t0 s =
    bind-same (word_at word.Var (t0 ∷ s)) (λ p e1.
    let q1 = ends_of (After-word (word-sound word.Var (t0 ∷ s) p e1)) in
    guard-same (is_none (mark_at mark.LeftParen p.1)) (bind-two _ _ (ap (λ z. z.var_spec) (agree q1)) (λ c e3.
    let q3 = Ends-trans q1 (ends_var_spec p.1 c (sym (ap (λ z. z.var_spec) (look q1)) ∙ e3)) in
    refl)))

same-read_var_group : (t0 : Token) (s : List Token) → read_var_group s (row_at (rows s)) t0 ≡ read_var_group s stands t0
unfolding read_var_group
same-read_var_group t0 s =
    bind-same (word_at word.Var (t0 ∷ s)) (λ p e1.
    let q1 = ends_of (After-word (word-sound word.Var (t0 ∷ s) p e1)) in
    bind-same (mark_at mark.LeftParen p.1) (λ z1 e2.
    let q2 = Ends-trans q1 (to_ends (After-mark (mark-sound mark.LeftParen p.1 z1 e2))) in
    bind-two _ _ (ap (λ z. z.var_specs) (agree q2)) (λ cs e3.
    let q3 = Ends-trans q2 (ends_var_specs z1.1 cs (sym (ap (λ z. z.var_specs) (look q2)) ∙ e3)) in
    bind-same (mark_at mark.RightParen cs.rest) (λ z3 e4.
    let q4 = Ends-trans q3 (to_ends (After-mark (mark-sound mark.RightParen cs.rest z3 e4))) in
    refl))))

pub same-decl_step : (t0 : Token) (s : List Token) → decl_step s (row_at (rows s)) t0 ≡ decl_step s stands t0
unfolding decl_step
same-decl_step t0 s = first-two (same-read_const_decl t0 s) (first-two (same-read_const_group t0 s) (first-two (same-read_type_decl t0 s) (first-two (same-read_type_group t0 s) (first-two (same-read_var_decl t0 s) (same-read_var_group t0 s)))))

same-read_some_values : (t0 : Token) (s : List Token) → read_some_values s (row_at (rows s)) t0 ≡ read_some_values s stands t0
unfolding read_some_values
same-read_some_values t0 s =
    bind-two _ _ (same-exprs_step false t0 s) (λ ts e1.
    let q1 = ends_of (after_exprs false (t0 ∷ s) ts (exprs-cons false t0 s ∙ e1)) in
    refl)

same-read_no_values : (t0 : Token) (s : List Token) → read_no_values s (row_at (rows s)) t0 ≡ read_no_values s stands t0
unfolding read_no_values
same-read_no_values t0 s =
    bind-same (front_at is_stmt_end (t0 ∷ s)) (λ z0 e1.
    refl)

pub same-values_step : (t0 : Token) (s : List Token) → values_step s (row_at (rows s)) t0 ≡ values_step s stands t0
unfolding values_step
same-values_step t0 s = first-two (same-read_some_values t0 s) (same-read_no_values t0 s)

same-read_a_target : (t0 : Token) (s : List Token) → read_a_target s (row_at (rows s)) t0 ≡ read_a_target s stands t0
unfolding read_a_target
same-read_a_target t0 s =
    bind-same (name_at (t0 ∷ s)) (λ x e1.
    let q1 = ends_of (After-name (name-sound (t0 ∷ s) x e1)) in
    refl)

same-read_no_target : (t0 : Token) (s : List Token) → read_no_target s (row_at (rows s)) t0 ≡ read_no_target s stands t0
unfolding read_no_target
same-read_no_target t0 s =
    bind-same (front_at is_stmt_end (t0 ∷ s)) (λ z0 e1.
    refl)

pub same-target_step : (t0 : Token) (s : List Token) → target_step s (row_at (rows s)) t0 ≡ target_step s stands t0
unfolding target_step
same-target_step t0 s = first-two (same-read_a_target t0 s) (same-read_no_target t0 s)

same-read_header_arm : (t0 : Token) (s : List Token) → read_header_arm s (row_at (rows s)) t0 ≡ read_header_arm s stands t0
unfolding read_header_arm
same-read_header_arm t0 s =
    bind-two _ _ (same-simple_step true t0 s) (λ i e1.
    let q1 = ends_of (after_simple true (t0 ∷ s) i (simple-cons true t0 s ∙ e1)) in
    bind-same (front_at is_semi i.rest) (λ x e2.
    let q2 = Ends-trans q1 (to_ends (After-front (front-sound is_semi i.rest x e2))) in
    bind-two _ _ (ap (λ z. z.expr 5 true false) (agree q2)) (λ c e3.
    let q3 = Ends-trans q2 (ends_expr 5 true false x.1 c (sym (ap (λ z. z.expr 5 true false) (look q2)) ∙ e3)) in
    bind-two _ _ (ap (λ z. z.block) (agree q3)) (λ b e4.
    let q4 = Ends-trans q3 (ends_block c.rest b (sym (ap (λ z. z.block) (look q3)) ∙ e4)) in
    refl))))

same-read_bare_arm : (t0 : Token) (s : List Token) → read_bare_arm s (row_at (rows s)) t0 ≡ read_bare_arm s stands t0
unfolding read_bare_arm
same-read_bare_arm t0 s =
    bind-two _ _ (same-expr_step 5 true false t0 s) (λ c e1.
    let q1 = ends_of (after_expr 5 true false (t0 ∷ s) c (expr-cons 5 true false t0 s ∙ e1)) in
    bind-same (mark_at mark.LeftBrace c.rest) (λ z1 e2.
    bind-two _ _ (ap (λ z. z.block) (agree q1)) (λ b e3.
    let q3 = Ends-trans q1 (ends_block c.rest b (sym (ap (λ z. z.block) (look q1)) ∙ e3)) in
    refl)))

same-read_empty_arm : (t0 : Token) (s : List Token) → read_empty_arm s (row_at (rows s)) t0 ≡ read_empty_arm s stands t0
unfolding read_empty_arm
same-read_empty_arm t0 s =
    bind-same (front_at is_semi (t0 ∷ s)) (λ x e1.
    let q1 = ends_of (After-front (front-sound is_semi (t0 ∷ s) x e1)) in
    bind-two _ _ (ap (λ z. z.expr 5 true false) (agree q1)) (λ c e2.
    let q2 = Ends-trans q1 (ends_expr 5 true false x.1 c (sym (ap (λ z. z.expr 5 true false) (look q1)) ∙ e2)) in
    bind-two _ _ (ap (λ z. z.block) (agree q2)) (λ b e3.
    let q3 = Ends-trans q2 (ends_block c.rest b (sym (ap (λ z. z.block) (look q2)) ∙ e3)) in
    refl)))

pub same-arm_step : (t0 : Token) (s : List Token) → arm_step s (row_at (rows s)) t0 ≡ arm_step s stands t0
unfolding arm_step
same-arm_step t0 s = first-two (same-read_header_arm t0 s) (first-two (same-read_bare_arm t0 s) (same-read_empty_arm t0 s))

same-read_last_arm : (t0 : Token) (s : List Token) → read_last_arm s (row_at (rows s)) t0 ≡ read_last_arm s stands t0
unfolding read_last_arm
same-read_last_arm t0 s =
    bind-two _ _ (same-arm_step t0 s) (λ a e1.
    let q1 = ends_of (after_arm (t0 ∷ s) a (arm-cons t0 s ∙ e1)) in
    guard-same (is_none (word_at word.Else a.rest)) (refl))

same-read_more_arms : (t0 : Token) (s : List Token) → read_more_arms s (row_at (rows s)) t0 ≡ read_more_arms s stands t0
unfolding read_more_arms
same-read_more_arms t0 s =
    bind-two _ _ (same-arm_step t0 s) (λ a e1.
    let q1 = ends_of (after_arm (t0 ∷ s) a (arm-cons t0 s ∙ e1)) in
    bind-same (word_at word.Else a.rest) (λ z1 e2.
    let q2 = Ends-trans q1 (to_ends (After-word (word-sound word.Else a.rest z1 e2))) in
    bind-same (word_at word.If z1.1) (λ z2 e3.
    let q3 = Ends-trans q2 (to_ends (After-word (word-sound word.If z1.1 z2 e3))) in
    bind-two _ _ (ap (λ z. z.arms) (agree q3)) (λ m e4.
    let q4 = Ends-trans q3 (ends_arms z2.1 m (sym (ap (λ z. z.arms) (look q3)) ∙ e4)) in
    refl))))

same-read_last_block : (t0 : Token) (s : List Token) → read_last_block s (row_at (rows s)) t0 ≡ read_last_block s stands t0
unfolding read_last_block
same-read_last_block t0 s =
    bind-two _ _ (same-arm_step t0 s) (λ a e1.
    let q1 = ends_of (after_arm (t0 ∷ s) a (arm-cons t0 s ∙ e1)) in
    bind-same (word_at word.Else a.rest) (λ z1 e2.
    let q2 = Ends-trans q1 (to_ends (After-word (word-sound word.Else a.rest z1 e2))) in
    guard-same (is_none (word_at word.If z1.1)) (bind-two _ _ (ap (λ z. z.block) (agree q2)) (λ b e4.
    let q4 = Ends-trans q2 (ends_block z1.1 b (sym (ap (λ z. z.block) (look q2)) ∙ e4)) in
    refl))))

pub same-arms_step : (t0 : Token) (s : List Token) → arms_step s (row_at (rows s)) t0 ≡ arms_step s stands t0
unfolding arms_step
same-arms_step t0 s = first-two (same-read_last_arm t0 s) (first-two (same-read_more_arms t0 s) (same-read_last_block t0 s))

same-read_a_tag_value : (t0 : Token) (s : List Token) → read_a_tag_value s (row_at (rows s)) t0 ≡ read_a_tag_value s stands t0
unfolding read_a_tag_value
same-read_a_tag_value t0 s =
    bind-two _ _ (same-expr_step 5 true false t0 s) (λ t e1.
    let q1 = ends_of (after_expr 5 true false (t0 ∷ s) t (expr-cons 5 true false t0 s ∙ e1)) in
    refl)

same-read_no_tag_value : (t0 : Token) (s : List Token) → read_no_tag_value s (row_at (rows s)) t0 ≡ read_no_tag_value s stands t0
unfolding read_no_tag_value
same-read_no_tag_value t0 s =
    bind-same (mark_at mark.LeftBrace (t0 ∷ s)) (λ z0 e1.
    refl)

pub same-tag_value_step : (t0 : Token) (s : List Token) → tag_value_step s (row_at (rows s)) t0 ≡ tag_value_step s stands t0
unfolding tag_value_step
same-tag_value_step t0 s = first-two (same-read_a_tag_value t0 s) (same-read_no_tag_value t0 s)

same-read_plain_guard : (t0 : Token) (s : List Token) → read_plain_guard s (row_at (rows s)) t0 ≡ read_plain_guard s stands t0
unfolding read_plain_guard
same-read_plain_guard t0 s =
    guard-same (is_none (defined_at (t0 ∷ s))) (bind-two _ _ (same-primary_step true t0 s) (λ t e2.
    let q2 = ends_of (after_primary true (t0 ∷ s) t (primary-cons true t0 s ∙ e2)) in
    bind-same (mark_at mark.Dot t.rest) (λ z2 e3.
    let q3 = Ends-trans q2 (to_ends (After-mark (mark-sound mark.Dot t.rest z2 e3))) in
    bind-same (mark_at mark.LeftParen z2.1) (λ z3 e4.
    let q4 = Ends-trans q3 (to_ends (After-mark (mark-sound mark.LeftParen z2.1 z3 e4))) in
    bind-same (word_at word.«Type» z3.1) (λ p e5.
    let q5 = Ends-trans q4 (to_ends (After-word (word-sound word.«Type» z3.1 p e5))) in
    bind-same (mark_at mark.RightParen p.1) (λ z5 e6.
    let q6 = Ends-trans q5 (to_ends (After-mark (mark-sound mark.RightParen p.1 z5 e6))) in
    refl))))))

same-read_named_guard : (t0 : Token) (s : List Token) → read_named_guard s (row_at (rows s)) t0 ≡ read_named_guard s stands t0
unfolding read_named_guard
same-read_named_guard t0 s =
    bind-same (name_at (t0 ∷ s)) (λ x e1.
    let q1 = ends_of (After-name (name-sound (t0 ∷ s) x e1)) in
    bind-same (mark_at mark.Define x.1) (λ z1 e2.
    let q2 = Ends-trans q1 (to_ends (After-mark (mark-sound mark.Define x.1 z1 e2))) in
    bind-two _ _ (ap (λ z. z.primary true) (agree q2)) (λ t e3.
    let q3 = Ends-trans q2 (ends_primary true z1.1 t (sym (ap (λ z. z.primary true) (look q2)) ∙ e3)) in
    bind-same (mark_at mark.Dot t.rest) (λ z3 e4.
    let q4 = Ends-trans q3 (to_ends (After-mark (mark-sound mark.Dot t.rest z3 e4))) in
    bind-same (mark_at mark.LeftParen z3.1) (λ z4 e5.
    let q5 = Ends-trans q4 (to_ends (After-mark (mark-sound mark.LeftParen z3.1 z4 e5))) in
    bind-same (word_at word.«Type» z4.1) (λ p e6.
    let q6 = Ends-trans q5 (to_ends (After-word (word-sound word.«Type» z4.1 p e6))) in
    bind-same (mark_at mark.RightParen p.1) (λ z6 e7.
    let q7 = Ends-trans q6 (to_ends (After-mark (mark-sound mark.RightParen p.1 z6 e7))) in
    refl)))))))

pub same-guard_step : (t0 : Token) (s : List Token) → guard_step s (row_at (rows s)) t0 ≡ guard_step s stands t0
unfolding guard_step
same-guard_step t0 s = first-two (same-read_plain_guard t0 s) (same-read_named_guard t0 s)

same-read_a_case : (t0 : Token) (s : List Token) → read_a_case s (row_at (rows s)) t0 ≡ read_a_case s stands t0
unfolding read_a_case
same-read_a_case t0 s =
    bind-same (word_at word.Case (t0 ∷ s)) (λ p e1.
    let q1 = ends_of (After-word (word-sound word.Case (t0 ∷ s) p e1)) in
    bind-two _ _ (ap (λ z. z.exprs false) (agree q1)) (λ es e2.
    let q2 = Ends-trans q1 (ends_exprs false p.1 es (sym (ap (λ z. z.exprs false) (look q1)) ∙ e2)) in
    bind-same (mark_at mark.Colon es.rest) (λ z2 e3.
    let q3 = Ends-trans q2 (to_ends (After-mark (mark-sound mark.Colon es.rest z2 e3))) in
    bind-two _ _ (ap (λ z. z.stmts) (agree q3)) (λ ts e4.
    let q4 = Ends-trans q3 (ends_stmts z2.1 ts (sym (ap (λ z. z.stmts) (look q3)) ∙ e4)) in
    bind-two _ _ (ap (λ z. z.clauses) (agree q4)) (λ cs e5.
    let q5 = Ends-trans q4 (ends_clauses ts.rest cs (sym (ap (λ z. z.clauses) (look q4)) ∙ e5)) in
    refl)))))

same-read_a_default : (t0 : Token) (s : List Token) → read_a_default s (row_at (rows s)) t0 ≡ read_a_default s stands t0
unfolding read_a_default
same-read_a_default t0 s =
    bind-same (word_at word.Default (t0 ∷ s)) (λ p e1.
    let q1 = ends_of (After-word (word-sound word.Default (t0 ∷ s) p e1)) in
    bind-same (mark_at mark.Colon p.1) (λ z1 e2.
    let q2 = Ends-trans q1 (to_ends (After-mark (mark-sound mark.Colon p.1 z1 e2))) in
    bind-two _ _ (ap (λ z. z.stmts) (agree q2)) (λ ts e3.
    let q3 = Ends-trans q2 (ends_stmts z1.1 ts (sym (ap (λ z. z.stmts) (look q2)) ∙ e3)) in
    bind-two _ _ (ap (λ z. z.clauses) (agree q3)) (λ cs e4.
    let q4 = Ends-trans q3 (ends_clauses ts.rest cs (sym (ap (λ z. z.clauses) (look q3)) ∙ e4)) in
    refl))))

same-read_no_clauses : (t0 : Token) (s : List Token) → read_no_clauses s (row_at (rows s)) t0 ≡ read_no_clauses s stands t0
unfolding read_no_clauses
same-read_no_clauses t0 s =
    bind-same (mark_at mark.RightBrace (t0 ∷ s)) (λ z0 e1.
    refl)

pub same-clauses_step : (t0 : Token) (s : List Token) → clauses_step s (row_at (rows s)) t0 ≡ clauses_step s stands t0
unfolding clauses_step
same-clauses_step t0 s = first-two (same-read_a_case t0 s) (first-two (same-read_a_default t0 s) (same-read_no_clauses t0 s))

same-read_one_type : (t0 : Token) (s : List Token) → read_one_type s (row_at (rows s)) t0 ≡ read_one_type s stands t0
unfolding read_one_type
same-read_one_type t0 s =
    bind-two _ _ (same-type_step t0 s) (λ t e1.
    let q1 = ends_of (after_type (t0 ∷ s) t (type-cons t0 s ∙ e1)) in
    guard-same (is_none (mark_at mark.Comma t.rest)) (refl))

same-read_more_cases : (t0 : Token) (s : List Token) → read_more_cases s (row_at (rows s)) t0 ≡ read_more_cases s stands t0
unfolding read_more_cases
same-read_more_cases t0 s =
    bind-two _ _ (same-type_step t0 s) (λ t e1.
    let q1 = ends_of (after_type (t0 ∷ s) t (type-cons t0 s ∙ e1)) in
    bind-same (mark_at mark.Comma t.rest) (λ z1 e2.
    let q2 = Ends-trans q1 (to_ends (After-mark (mark-sound mark.Comma t.rest z1 e2))) in
    bind-two _ _ (ap (λ z. z.types) (agree q2)) (λ ts e3.
    let q3 = Ends-trans q2 (ends_types z1.1 ts (sym (ap (λ z. z.types) (look q2)) ∙ e3)) in
    refl)))

pub same-types_step : (t0 : Token) (s : List Token) → types_step s (row_at (rows s)) t0 ≡ types_step s stands t0
unfolding types_step
same-types_step t0 s = first-two (same-read_one_type t0 s) (same-read_more_cases t0 s)
