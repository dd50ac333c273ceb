-- The steps of the reference over the rows of each place.
use Rattle.std.proofs.Common.{◌≡◌, true, false, not, List, ◌∷◌, refl, sym, ap, ◌∙◌, is_none}
use Rattle.gs_syntax.specs.declared.token.Token.{Token}
use Rattle.gs_syntax.specs.declared.token.Operator.TheVariants as mark
use Rattle.gs_syntax.specs.declared.token.Keyword.TheVariants as word
use Rattle.gs_grammar.specs.Front.{mark_at, word_at, name_at, text_at, front_at, label_at, is_decl_start, is_list_end, is_semi, is_stmt_end}
use Rattle.gs_grammar.specs.Parts.{is_receiver, is_define}
use Rattle.gs_grammar.specs.Reference.{rows, row_at, type_clauses_step, read_a_type_case, read_a_type_default, read_no_type_clauses, comm_step, read_comm_assign, read_comm_define, read_comm_send, read_comm_receive, comm_clauses_step, read_a_comm, read_a_comm_default, read_no_comms, header_step, read_init_header, read_no_header, condition_step, read_a_condition, read_no_condition, post_step, read_a_post, read_no_post, range_left_step, read_range_assign, read_range_define, read_no_range_left, stmt_step, read_simple_stmt, read_declaration_stmt, read_bare_label, read_labeled, read_go, read_defer, read_return, read_break, read_continue, read_goto, read_fallthrough, read_block_stmt, read_if_stmt, read_header_type_switch, read_type_switch, read_header_switch, read_switch, read_select, read_endless, read_range, read_loop, read_while, stmts_step, read_last_stmt, read_more_stmts, read_empty_stmt, read_no_stmts, import_spec_step, read_plain_import, read_dot_import, read_named_import, import_specs_step, read_last_import, read_more_imports, read_no_imports, body_step, read_a_body, read_no_body, top_step, read_declaration, read_function, read_method_decl, chunk_step, read_top_chunk, read_package_clause, read_import_decl, read_import_group}
use Rattle.gs_grammar.proofs.Common.{to_ends, ends_of, Ends-trans, After-mark, After-word, After-name, After-text, After-front, mark-sound, word-sound, name-sound, text-sound, front-sound}
use Rattle.gs_grammar.proofs.Rows.{look, block-cons, expr-cons, exprs-cons, simple-cons, decl-cons, stmt-cons, import_spec-cons, top-cons}
use Rattle.gs_places.specs.Places.{stands}
use Rattle.gs_places.proofs.Within.{after_block, after_expr, after_exprs, after_simple, after_decl, after_stmt, after_import_spec, after_top, ends_params, ends_signature, ends_block, ends_expr, ends_values, ends_target, ends_arms, ends_tag_value, ends_guard, ends_clauses, ends_types, ends_type_clauses, ends_comm, ends_comm_clauses, ends_header, ends_condition, ends_post, ends_range_left, ends_stmt, ends_stmts, ends_import_spec, ends_import_specs, ends_body}
use Rattle.gs_places.proofs.Chains.{agree, bind-same, bind-two, guard-same, guard-two, first-two}
use Rattle.gs_places.proofs.SameOne.{same-block_step}
use Rattle.gs_places.proofs.SameTwo.{same-expr_step, same-exprs_step}
use Rattle.gs_places.proofs.SameThree.{same-simple_step, same-decl_step}

same-read_a_type_case : (t0 : Token) (s : List Token) → read_a_type_case s (row_at (rows s)) t0 ≡ read_a_type_case s stands t0
unfolding read_a_type_case
same-read_a_type_case t0 s =
    bind-same (word_at word.Case (t0 ∷ s)) (λ p e1.
    let q1 = ends_of (After-word (word-sound word.Case (t0 ∷ s) p e1)) in
    bind-two _ _ (ap (λ z. z.types) (agree q1)) (λ us e2.
    let q2 = Ends-trans q1 (ends_types p.1 us (sym (ap (λ z. z.types) (look q1)) ∙ e2)) in
    bind-same (mark_at mark.Colon us.rest) (λ z2 e3.
    let q3 = Ends-trans q2 (to_ends (After-mark (mark-sound mark.Colon us.rest z2 e3))) in
    bind-two _ _ (ap (λ z. z.stmts) (agree q3)) (λ ts e4.
    let q4 = Ends-trans q3 (ends_stmts z2.1 ts (sym (ap (λ z. z.stmts) (look q3)) ∙ e4)) in
    bind-two _ _ (ap (λ z. z.type_clauses) (agree q4)) (λ cs e5.
    let q5 = Ends-trans q4 (ends_type_clauses ts.rest cs (sym (ap (λ z. z.type_clauses) (look q4)) ∙ e5)) in
    refl)))))

same-read_a_type_default : (t0 : Token) (s : List Token) → read_a_type_default s (row_at (rows s)) t0 ≡ read_a_type_default s stands t0
unfolding read_a_type_default
same-read_a_type_default t0 s =
    bind-same (word_at word.Default (t0 ∷ s)) (λ p e1.
    let q1 = ends_of (After-word (word-sound word.Default (t0 ∷ s) p e1)) in
    bind-same (mark_at mark.Colon p.1) (λ z1 e2.
    let q2 = Ends-trans q1 (to_ends (After-mark (mark-sound mark.Colon p.1 z1 e2))) in
    bind-two _ _ (ap (λ z. z.stmts) (agree q2)) (λ ts e3.
    let q3 = Ends-trans q2 (ends_stmts z1.1 ts (sym (ap (λ z. z.stmts) (look q2)) ∙ e3)) in
    bind-two _ _ (ap (λ z. z.type_clauses) (agree q3)) (λ cs e4.
    let q4 = Ends-trans q3 (ends_type_clauses ts.rest cs (sym (ap (λ z. z.type_clauses) (look q3)) ∙ e4)) in
    refl))))

same-read_no_type_clauses : (t0 : Token) (s : List Token) → read_no_type_clauses s (row_at (rows s)) t0 ≡ read_no_type_clauses s stands t0
unfolding read_no_type_clauses
same-read_no_type_clauses t0 s =
    bind-same (mark_at mark.RightBrace (t0 ∷ s)) (λ z0 e1.
    refl)

pub same-type_clauses_step : (t0 : Token) (s : List Token) → type_clauses_step s (row_at (rows s)) t0 ≡ type_clauses_step s stands t0
unfolding type_clauses_step
same-type_clauses_step t0 s = first-two (same-read_a_type_case t0 s) (first-two (same-read_a_type_default t0 s) (same-read_no_type_clauses t0 s))

same-read_comm_assign : (t0 : Token) (s : List Token) → read_comm_assign s (row_at (rows s)) t0 ≡ read_comm_assign s stands t0
unfolding read_comm_assign
same-read_comm_assign t0 s =
    bind-two _ _ (same-exprs_step false t0 s) (λ ts e1.
    let q1 = ends_of (after_exprs false (t0 ∷ s) ts (exprs-cons false t0 s ∙ e1)) in
    bind-same (mark_at mark.Assign ts.rest) (λ p e2.
    let q2 = Ends-trans q1 (to_ends (After-mark (mark-sound mark.Assign ts.rest p e2))) in
    bind-two _ _ (ap (λ z. z.expr 5 false false) (agree q2)) (λ u e3.
    let q3 = Ends-trans q2 (ends_expr 5 false false p.1 u (sym (ap (λ z. z.expr 5 false false) (look q2)) ∙ e3)) in
    refl)))

same-read_comm_define : (t0 : Token) (s : List Token) → read_comm_define s (row_at (rows s)) t0 ≡ read_comm_define s stands t0
unfolding read_comm_define
same-read_comm_define t0 s =
    bind-two _ _ (same-exprs_step false t0 s) (λ ts e1.
    let q1 = ends_of (after_exprs false (t0 ∷ s) ts (exprs-cons false t0 s ∙ e1)) in
    bind-same (mark_at mark.Define ts.rest) (λ p e2.
    let q2 = Ends-trans q1 (to_ends (After-mark (mark-sound mark.Define ts.rest p e2))) in
    bind-two _ _ (ap (λ z. z.expr 5 false false) (agree q2)) (λ u e3.
    let q3 = Ends-trans q2 (ends_expr 5 false false p.1 u (sym (ap (λ z. z.expr 5 false false) (look q2)) ∙ e3)) in
    refl)))

same-read_comm_send : (t0 : Token) (s : List Token) → read_comm_send s (row_at (rows s)) t0 ≡ read_comm_send s stands t0
unfolding read_comm_send
same-read_comm_send t0 s =
    bind-two _ _ (same-expr_step 5 false false t0 s) (λ t e1.
    let q1 = ends_of (after_expr 5 false false (t0 ∷ s) t (expr-cons 5 false false t0 s ∙ e1)) in
    bind-same (mark_at mark.Arrow t.rest) (λ p e2.
    let q2 = Ends-trans q1 (to_ends (After-mark (mark-sound mark.Arrow t.rest p e2))) in
    bind-two _ _ (ap (λ z. z.expr 5 false false) (agree q2)) (λ u e3.
    let q3 = Ends-trans q2 (ends_expr 5 false false p.1 u (sym (ap (λ z. z.expr 5 false false) (look q2)) ∙ e3)) in
    refl)))

same-read_comm_receive : (t0 : Token) (s : List Token) → read_comm_receive s (row_at (rows s)) t0 ≡ read_comm_receive s stands t0
unfolding read_comm_receive
same-read_comm_receive t0 s =
    bind-two _ _ (same-expr_step 5 false false t0 s) (λ t e1.
    let q1 = ends_of (after_expr 5 false false (t0 ∷ s) t (expr-cons 5 false false t0 s ∙ e1)) in
    bind-same (mark_at mark.Colon t.rest) (λ z1 e2.
    refl))

pub same-comm_step : (t0 : Token) (s : List Token) → comm_step s (row_at (rows s)) t0 ≡ comm_step s stands t0
unfolding comm_step
same-comm_step t0 s = first-two (same-read_comm_assign t0 s) (first-two (same-read_comm_define t0 s) (first-two (same-read_comm_send t0 s) (same-read_comm_receive t0 s)))

same-read_a_comm : (t0 : Token) (s : List Token) → read_a_comm s (row_at (rows s)) t0 ≡ read_a_comm s stands t0
unfolding read_a_comm
same-read_a_comm t0 s =
    bind-same (word_at word.Case (t0 ∷ s)) (λ p e1.
    let q1 = ends_of (After-word (word-sound word.Case (t0 ∷ s) p e1)) in
    bind-two _ _ (ap (λ z. z.comm) (agree q1)) (λ c e2.
    let q2 = Ends-trans q1 (ends_comm p.1 c (sym (ap (λ z. z.comm) (look q1)) ∙ e2)) in
    bind-same (mark_at mark.Colon c.rest) (λ z2 e3.
    let q3 = Ends-trans q2 (to_ends (After-mark (mark-sound mark.Colon c.rest z2 e3))) in
    bind-two _ _ (ap (λ z. z.stmts) (agree q3)) (λ ts e4.
    let q4 = Ends-trans q3 (ends_stmts z2.1 ts (sym (ap (λ z. z.stmts) (look q3)) ∙ e4)) in
    bind-two _ _ (ap (λ z. z.comm_clauses) (agree q4)) (λ cs e5.
    let q5 = Ends-trans q4 (ends_comm_clauses ts.rest cs (sym (ap (λ z. z.comm_clauses) (look q4)) ∙ e5)) in
    refl)))))

same-read_a_comm_default : (t0 : Token) (s : List Token) → read_a_comm_default s (row_at (rows s)) t0 ≡ read_a_comm_default s stands t0
unfolding read_a_comm_default
same-read_a_comm_default t0 s =
    bind-same (word_at word.Default (t0 ∷ s)) (λ p e1.
    let q1 = ends_of (After-word (word-sound word.Default (t0 ∷ s) p e1)) in
    bind-same (mark_at mark.Colon p.1) (λ z1 e2.
    let q2 = Ends-trans q1 (to_ends (After-mark (mark-sound mark.Colon p.1 z1 e2))) in
    bind-two _ _ (ap (λ z. z.stmts) (agree q2)) (λ ts e3.
    let q3 = Ends-trans q2 (ends_stmts z1.1 ts (sym (ap (λ z. z.stmts) (look q2)) ∙ e3)) in
    bind-two _ _ (ap (λ z. z.comm_clauses) (agree q3)) (λ cs e4.
    let q4 = Ends-trans q3 (ends_comm_clauses ts.rest cs (sym (ap (λ z. z.comm_clauses) (look q3)) ∙ e4)) in
    refl))))

same-read_no_comms : (t0 : Token) (s : List Token) → read_no_comms s (row_at (rows s)) t0 ≡ read_no_comms s stands t0
unfolding read_no_comms
same-read_no_comms t0 s =
    bind-same (mark_at mark.RightBrace (t0 ∷ s)) (λ z0 e1.
    refl)

pub same-comm_clauses_step : (t0 : Token) (s : List Token) → comm_clauses_step s (row_at (rows s)) t0 ≡ comm_clauses_step s stands t0
unfolding comm_clauses_step
same-comm_clauses_step t0 s = first-two (same-read_a_comm t0 s) (first-two (same-read_a_comm_default t0 s) (same-read_no_comms t0 s))

same-read_init_header : (t0 : Token) (s : List Token) → read_init_header s (row_at (rows s)) t0 ≡ read_init_header s stands t0
unfolding read_init_header
same-read_init_header t0 s =
    bind-two _ _ (same-simple_step true t0 s) (λ i e1.
    let q1 = ends_of (after_simple true (t0 ∷ s) i (simple-cons true t0 s ∙ e1)) in
    bind-same (front_at is_semi i.rest) (λ x e2.
    let q2 = Ends-trans q1 (to_ends (After-front (front-sound is_semi i.rest x e2))) in
    refl))

same-read_no_header : (t0 : Token) (s : List Token) → read_no_header s (row_at (rows s)) t0 ≡ read_no_header s stands t0
unfolding read_no_header
same-read_no_header t0 s =
    bind-same (front_at is_semi (t0 ∷ s)) (λ x e1.
    let q1 = ends_of (After-front (front-sound is_semi (t0 ∷ s) x e1)) in
    refl)

pub same-header_step : (t0 : Token) (s : List Token) → header_step s (row_at (rows s)) t0 ≡ header_step s stands t0
unfolding header_step
same-header_step t0 s = first-two (same-read_init_header t0 s) (same-read_no_header t0 s)

same-read_a_condition : (t0 : Token) (s : List Token) → read_a_condition s (row_at (rows s)) t0 ≡ read_a_condition s stands t0
unfolding read_a_condition
same-read_a_condition t0 s =
    bind-two _ _ (same-expr_step 5 true false t0 s) (λ t e1.
    let q1 = ends_of (after_expr 5 true false (t0 ∷ s) t (expr-cons 5 true false t0 s ∙ e1)) in
    refl)

same-read_no_condition : (t0 : Token) (s : List Token) → read_no_condition s (row_at (rows s)) t0 ≡ read_no_condition s stands t0
unfolding read_no_condition
same-read_no_condition t0 s =
    bind-same (front_at is_semi (t0 ∷ s)) (λ z0 e1.
    refl)

pub same-condition_step : (t0 : Token) (s : List Token) → condition_step s (row_at (rows s)) t0 ≡ condition_step s stands t0
unfolding condition_step
same-condition_step t0 s = first-two (same-read_a_condition t0 s) (same-read_no_condition t0 s)

same-read_a_post : (t0 : Token) (s : List Token) → read_a_post s (row_at (rows s)) t0 ≡ read_a_post s stands t0
unfolding read_a_post
same-read_a_post t0 s =
    bind-two _ _ (same-simple_step true t0 s) (λ i e1.
    let q1 = ends_of (after_simple true (t0 ∷ s) i (simple-cons true t0 s ∙ e1)) in
    guard-same (not (is_define i.tree)) (refl))

same-read_no_post : (t0 : Token) (s : List Token) → read_no_post s (row_at (rows s)) t0 ≡ read_no_post s stands t0
unfolding read_no_post
same-read_no_post t0 s =
    bind-same (mark_at mark.LeftBrace (t0 ∷ s)) (λ z0 e1.
    refl)

pub same-post_step : (t0 : Token) (s : List Token) → post_step s (row_at (rows s)) t0 ≡ post_step s stands t0
unfolding post_step
same-post_step t0 s = first-two (same-read_a_post t0 s) (same-read_no_post t0 s)

same-read_range_assign : (t0 : Token) (s : List Token) → read_range_assign s (row_at (rows s)) t0 ≡ read_range_assign s stands t0
unfolding read_range_assign
same-read_range_assign t0 s =
    bind-two _ _ (same-exprs_step true t0 s) (λ ts e1.
    let q1 = ends_of (after_exprs true (t0 ∷ s) ts (exprs-cons true t0 s ∙ e1)) in
    bind-same (mark_at mark.Assign ts.rest) (λ p e2.
    let q2 = Ends-trans q1 (to_ends (After-mark (mark-sound mark.Assign ts.rest p e2))) in
    bind-same (word_at word.Range p.1) (λ z2 e3.
    let q3 = Ends-trans q2 (to_ends (After-word (word-sound word.Range p.1 z2 e3))) in
    refl)))

same-read_range_define : (t0 : Token) (s : List Token) → read_range_define s (row_at (rows s)) t0 ≡ read_range_define s stands t0
unfolding read_range_define
same-read_range_define t0 s =
    bind-two _ _ (same-exprs_step true t0 s) (λ ts e1.
    let q1 = ends_of (after_exprs true (t0 ∷ s) ts (exprs-cons true t0 s ∙ e1)) in
    bind-same (mark_at mark.Define ts.rest) (λ p e2.
    let q2 = Ends-trans q1 (to_ends (After-mark (mark-sound mark.Define ts.rest p e2))) in
    bind-same (word_at word.Range p.1) (λ z2 e3.
    let q3 = Ends-trans q2 (to_ends (After-word (word-sound word.Range p.1 z2 e3))) in
    refl)))

same-read_no_range_left : (t0 : Token) (s : List Token) → read_no_range_left s (row_at (rows s)) t0 ≡ read_no_range_left s stands t0
unfolding read_no_range_left
same-read_no_range_left t0 s =
    bind-same (word_at word.Range (t0 ∷ s)) (λ z0 e1.
    let q1 = ends_of (After-word (word-sound word.Range (t0 ∷ s) z0 e1)) in
    refl)

pub same-range_left_step : (t0 : Token) (s : List Token) → range_left_step s (row_at (rows s)) t0 ≡ range_left_step s stands t0
unfolding range_left_step
same-range_left_step t0 s = first-two (same-read_range_assign t0 s) (first-two (same-read_range_define t0 s) (same-read_no_range_left t0 s))

same-read_simple_stmt : (t0 : Token) (s : List Token) → read_simple_stmt s (row_at (rows s)) t0 ≡ read_simple_stmt s stands t0
unfolding read_simple_stmt
same-read_simple_stmt t0 s =
    guard-same (is_none (label_at (t0 ∷ s))) (bind-two _ _ (same-simple_step false t0 s) (λ t e2.
    let q2 = ends_of (after_simple false (t0 ∷ s) t (simple-cons false t0 s ∙ e2)) in
    refl))

same-read_declaration_stmt : (t0 : Token) (s : List Token) → read_declaration_stmt s (row_at (rows s)) t0 ≡ read_declaration_stmt s stands t0
unfolding read_declaration_stmt
same-read_declaration_stmt t0 s =
    bind-same (front_at is_decl_start (t0 ∷ s)) (λ z0 e1.
    bind-two _ _ (same-decl_step t0 s) (λ x e2.
    let q2 = ends_of (after_decl (t0 ∷ s) x (decl-cons t0 s ∙ e2)) in
    refl))

same-read_bare_label : (t0 : Token) (s : List Token) → read_bare_label s (row_at (rows s)) t0 ≡ read_bare_label s stands t0
unfolding read_bare_label
same-read_bare_label t0 s =
    bind-same (name_at (t0 ∷ s)) (λ x e1.
    let q1 = ends_of (After-name (name-sound (t0 ∷ s) x e1)) in
    bind-same (mark_at mark.Colon x.1) (λ z1 e2.
    let q2 = Ends-trans q1 (to_ends (After-mark (mark-sound mark.Colon x.1 z1 e2))) in
    bind-same (front_at is_stmt_end z1.1) (λ z2 e3.
    refl)))

same-read_labeled : (t0 : Token) (s : List Token) → read_labeled s (row_at (rows s)) t0 ≡ read_labeled s stands t0
unfolding read_labeled
same-read_labeled t0 s =
    bind-same (name_at (t0 ∷ s)) (λ x e1.
    let q1 = ends_of (After-name (name-sound (t0 ∷ s) x e1)) in
    bind-same (mark_at mark.Colon x.1) (λ z1 e2.
    let q2 = Ends-trans q1 (to_ends (After-mark (mark-sound mark.Colon x.1 z1 e2))) in
    guard-same (is_none (front_at is_stmt_end z1.1)) (bind-two _ _ (ap (λ z. z.stmt) (agree q2)) (λ t e4.
    let q4 = Ends-trans q2 (ends_stmt z1.1 t (sym (ap (λ z. z.stmt) (look q2)) ∙ e4)) in
    refl))))

same-read_go : (t0 : Token) (s : List Token) → read_go s (row_at (rows s)) t0 ≡ read_go s stands t0
unfolding read_go
same-read_go t0 s =
    bind-same (word_at word.Go (t0 ∷ s)) (λ p e1.
    let q1 = ends_of (After-word (word-sound word.Go (t0 ∷ s) p e1)) in
    bind-two _ _ (ap (λ z. z.expr 5 false false) (agree q1)) (λ t e2.
    let q2 = Ends-trans q1 (ends_expr 5 false false p.1 t (sym (ap (λ z. z.expr 5 false false) (look q1)) ∙ e2)) in
    refl))

same-read_defer : (t0 : Token) (s : List Token) → read_defer s (row_at (rows s)) t0 ≡ read_defer s stands t0
unfolding read_defer
same-read_defer t0 s =
    bind-same (word_at word.Defer (t0 ∷ s)) (λ p e1.
    let q1 = ends_of (After-word (word-sound word.Defer (t0 ∷ s) p e1)) in
    bind-two _ _ (ap (λ z. z.expr 5 false false) (agree q1)) (λ t e2.
    let q2 = Ends-trans q1 (ends_expr 5 false false p.1 t (sym (ap (λ z. z.expr 5 false false) (look q1)) ∙ e2)) in
    refl))

same-read_return : (t0 : Token) (s : List Token) → read_return s (row_at (rows s)) t0 ≡ read_return s stands t0
unfolding read_return
same-read_return t0 s =
    bind-same (word_at word.Return (t0 ∷ s)) (λ p e1.
    let q1 = ends_of (After-word (word-sound word.Return (t0 ∷ s) p e1)) in
    bind-two _ _ (ap (λ z. z.values) (agree q1)) (λ ts e2.
    let q2 = Ends-trans q1 (ends_values p.1 ts (sym (ap (λ z. z.values) (look q1)) ∙ e2)) in
    refl))

same-read_break : (t0 : Token) (s : List Token) → read_break s (row_at (rows s)) t0 ≡ read_break s stands t0
unfolding read_break
same-read_break t0 s =
    bind-same (word_at word.Break (t0 ∷ s)) (λ p e1.
    let q1 = ends_of (After-word (word-sound word.Break (t0 ∷ s) p e1)) in
    bind-two _ _ (ap (λ z. z.target) (agree q1)) (λ o e2.
    let q2 = Ends-trans q1 (ends_target p.1 o (sym (ap (λ z. z.target) (look q1)) ∙ e2)) in
    refl))

same-read_continue : (t0 : Token) (s : List Token) → read_continue s (row_at (rows s)) t0 ≡ read_continue s stands t0
unfolding read_continue
same-read_continue t0 s =
    bind-same (word_at word.Continue (t0 ∷ s)) (λ p e1.
    let q1 = ends_of (After-word (word-sound word.Continue (t0 ∷ s) p e1)) in
    bind-two _ _ (ap (λ z. z.target) (agree q1)) (λ o e2.
    let q2 = Ends-trans q1 (ends_target p.1 o (sym (ap (λ z. z.target) (look q1)) ∙ e2)) in
    refl))

same-read_goto : (t0 : Token) (s : List Token) → read_goto s (row_at (rows s)) t0 ≡ read_goto s stands t0
unfolding read_goto
same-read_goto t0 s =
    bind-same (word_at word.Goto (t0 ∷ s)) (λ p e1.
    let q1 = ends_of (After-word (word-sound word.Goto (t0 ∷ s) p e1)) in
    bind-same (name_at p.1) (λ x e2.
    let q2 = Ends-trans q1 (to_ends (After-name (name-sound p.1 x e2))) in
    refl))

same-read_fallthrough : (t0 : Token) (s : List Token) → read_fallthrough s (row_at (rows s)) t0 ≡ read_fallthrough s stands t0
unfolding read_fallthrough
same-read_fallthrough t0 s =
    bind-same (word_at word.Fallthrough (t0 ∷ s)) (λ p e1.
    let q1 = ends_of (After-word (word-sound word.Fallthrough (t0 ∷ s) p e1)) in
    refl)

same-read_block_stmt : (t0 : Token) (s : List Token) → read_block_stmt s (row_at (rows s)) t0 ≡ read_block_stmt s stands t0
unfolding read_block_stmt
same-read_block_stmt t0 s =
    bind-same (mark_at mark.LeftBrace (t0 ∷ s)) (λ p e1.
    let q1 = ends_of (After-mark (mark-sound mark.LeftBrace (t0 ∷ s) p e1)) in
    bind-two _ _ (ap (λ z. z.stmts) (agree q1)) (λ ts e2.
    let q2 = Ends-trans q1 (ends_stmts p.1 ts (sym (ap (λ z. z.stmts) (look q1)) ∙ e2)) in
    bind-same (mark_at mark.RightBrace ts.rest) (λ q e3.
    let q3 = Ends-trans q2 (to_ends (After-mark (mark-sound mark.RightBrace ts.rest q e3))) in
    refl)))

same-read_if_stmt : (t0 : Token) (s : List Token) → read_if_stmt s (row_at (rows s)) t0 ≡ read_if_stmt s stands t0
unfolding read_if_stmt
same-read_if_stmt t0 s =
    bind-same (word_at word.If (t0 ∷ s)) (λ p e1.
    let q1 = ends_of (After-word (word-sound word.If (t0 ∷ s) p e1)) in
    bind-two _ _ (ap (λ z. z.arms) (agree q1)) (λ a e2.
    let q2 = Ends-trans q1 (ends_arms p.1 a (sym (ap (λ z. z.arms) (look q1)) ∙ e2)) in
    refl))

same-read_header_type_switch : (t0 : Token) (s : List Token) → read_header_type_switch s (row_at (rows s)) t0 ≡ read_header_type_switch s stands t0
unfolding read_header_type_switch
same-read_header_type_switch t0 s =
    bind-same (word_at word.Switch (t0 ∷ s)) (λ p e1.
    let q1 = ends_of (After-word (word-sound word.Switch (t0 ∷ s) p e1)) in
    bind-two _ _ (ap (λ z. z.header) (agree q1)) (λ i e2.
    let q2 = Ends-trans q1 (ends_header p.1 i (sym (ap (λ z. z.header) (look q1)) ∙ e2)) in
    bind-two _ _ (ap (λ z. z.guard) (agree q2)) (λ y e3.
    let q3 = Ends-trans q2 (ends_guard i.rest y (sym (ap (λ z. z.guard) (look q2)) ∙ e3)) in
    bind-same (mark_at mark.LeftBrace y.rest) (λ z3 e4.
    let q4 = Ends-trans q3 (to_ends (After-mark (mark-sound mark.LeftBrace y.rest z3 e4))) in
    bind-two _ _ (ap (λ z. z.type_clauses) (agree q4)) (λ cs e5.
    let q5 = Ends-trans q4 (ends_type_clauses z3.1 cs (sym (ap (λ z. z.type_clauses) (look q4)) ∙ e5)) in
    bind-same (mark_at mark.RightBrace cs.rest) (λ q e6.
    let q6 = Ends-trans q5 (to_ends (After-mark (mark-sound mark.RightBrace cs.rest q e6))) in
    refl))))))

same-read_type_switch : (t0 : Token) (s : List Token) → read_type_switch s (row_at (rows s)) t0 ≡ read_type_switch s stands t0
unfolding read_type_switch
same-read_type_switch t0 s =
    bind-same (word_at word.Switch (t0 ∷ s)) (λ p e1.
    let q1 = ends_of (After-word (word-sound word.Switch (t0 ∷ s) p e1)) in
    guard-two _ _ (ap (λ z. is_none (z.header)) (agree q1)) (bind-two _ _ (ap (λ z. z.guard) (agree q1)) (λ y e3.
    let q3 = Ends-trans q1 (ends_guard p.1 y (sym (ap (λ z. z.guard) (look q1)) ∙ e3)) in
    bind-same (mark_at mark.LeftBrace y.rest) (λ z3 e4.
    let q4 = Ends-trans q3 (to_ends (After-mark (mark-sound mark.LeftBrace y.rest z3 e4))) in
    bind-two _ _ (ap (λ z. z.type_clauses) (agree q4)) (λ cs e5.
    let q5 = Ends-trans q4 (ends_type_clauses z3.1 cs (sym (ap (λ z. z.type_clauses) (look q4)) ∙ e5)) in
    bind-same (mark_at mark.RightBrace cs.rest) (λ q e6.
    let q6 = Ends-trans q5 (to_ends (After-mark (mark-sound mark.RightBrace cs.rest q e6))) in
    refl))))))

same-read_header_switch : (t0 : Token) (s : List Token) → read_header_switch s (row_at (rows s)) t0 ≡ read_header_switch s stands t0
unfolding read_header_switch
same-read_header_switch t0 s =
    bind-same (word_at word.Switch (t0 ∷ s)) (λ p e1.
    let q1 = ends_of (After-word (word-sound word.Switch (t0 ∷ s) p e1)) in
    bind-two _ _ (ap (λ z. z.header) (agree q1)) (λ i e2.
    let q2 = Ends-trans q1 (ends_header p.1 i (sym (ap (λ z. z.header) (look q1)) ∙ e2)) in
    guard-two _ _ (ap (λ z. is_none (z.guard)) (agree q2)) (bind-two _ _ (ap (λ z. z.tag_value) (agree q2)) (λ o e4.
    let q4 = Ends-trans q2 (ends_tag_value i.rest o (sym (ap (λ z. z.tag_value) (look q2)) ∙ e4)) in
    bind-same (mark_at mark.LeftBrace o.rest) (λ z4 e5.
    let q5 = Ends-trans q4 (to_ends (After-mark (mark-sound mark.LeftBrace o.rest z4 e5))) in
    bind-two _ _ (ap (λ z. z.clauses) (agree q5)) (λ cs e6.
    let q6 = Ends-trans q5 (ends_clauses z4.1 cs (sym (ap (λ z. z.clauses) (look q5)) ∙ e6)) in
    bind-same (mark_at mark.RightBrace cs.rest) (λ q e7.
    let q7 = Ends-trans q6 (to_ends (After-mark (mark-sound mark.RightBrace cs.rest q e7))) in
    refl)))))))

same-read_switch : (t0 : Token) (s : List Token) → read_switch s (row_at (rows s)) t0 ≡ read_switch s stands t0
unfolding read_switch
same-read_switch t0 s =
    bind-same (word_at word.Switch (t0 ∷ s)) (λ p e1.
    let q1 = ends_of (After-word (word-sound word.Switch (t0 ∷ s) p e1)) in
    guard-two _ _ (ap (λ z. is_none (z.header)) (agree q1)) (guard-two _ _ (ap (λ z. is_none (z.guard)) (agree q1)) (bind-two _ _ (ap (λ z. z.tag_value) (agree q1)) (λ o e4.
    let q4 = Ends-trans q1 (ends_tag_value p.1 o (sym (ap (λ z. z.tag_value) (look q1)) ∙ e4)) in
    bind-same (mark_at mark.LeftBrace o.rest) (λ z4 e5.
    let q5 = Ends-trans q4 (to_ends (After-mark (mark-sound mark.LeftBrace o.rest z4 e5))) in
    bind-two _ _ (ap (λ z. z.clauses) (agree q5)) (λ cs e6.
    let q6 = Ends-trans q5 (ends_clauses z4.1 cs (sym (ap (λ z. z.clauses) (look q5)) ∙ e6)) in
    bind-same (mark_at mark.RightBrace cs.rest) (λ q e7.
    let q7 = Ends-trans q6 (to_ends (After-mark (mark-sound mark.RightBrace cs.rest q e7))) in
    refl)))))))

same-read_select : (t0 : Token) (s : List Token) → read_select s (row_at (rows s)) t0 ≡ read_select s stands t0
unfolding read_select
same-read_select t0 s =
    bind-same (word_at word.Select (t0 ∷ s)) (λ p e1.
    let q1 = ends_of (After-word (word-sound word.Select (t0 ∷ s) p e1)) in
    bind-same (mark_at mark.LeftBrace p.1) (λ z1 e2.
    let q2 = Ends-trans q1 (to_ends (After-mark (mark-sound mark.LeftBrace p.1 z1 e2))) in
    bind-two _ _ (ap (λ z. z.comm_clauses) (agree q2)) (λ cs e3.
    let q3 = Ends-trans q2 (ends_comm_clauses z1.1 cs (sym (ap (λ z. z.comm_clauses) (look q2)) ∙ e3)) in
    bind-same (mark_at mark.RightBrace cs.rest) (λ q e4.
    let q4 = Ends-trans q3 (to_ends (After-mark (mark-sound mark.RightBrace cs.rest q e4))) in
    refl))))

same-read_endless : (t0 : Token) (s : List Token) → read_endless s (row_at (rows s)) t0 ≡ read_endless s stands t0
unfolding read_endless
same-read_endless t0 s =
    bind-same (word_at word.For (t0 ∷ s)) (λ p e1.
    let q1 = ends_of (After-word (word-sound word.For (t0 ∷ s) p e1)) in
    bind-same (mark_at mark.LeftBrace p.1) (λ z1 e2.
    bind-two _ _ (ap (λ z. z.block) (agree q1)) (λ b e3.
    let q3 = Ends-trans q1 (ends_block p.1 b (sym (ap (λ z. z.block) (look q1)) ∙ e3)) in
    refl)))

same-read_range : (t0 : Token) (s : List Token) → read_range s (row_at (rows s)) t0 ≡ read_range s stands t0
unfolding read_range
same-read_range t0 s =
    bind-same (word_at word.For (t0 ∷ s)) (λ p e1.
    let q1 = ends_of (After-word (word-sound word.For (t0 ∷ s) p e1)) in
    guard-same (is_none (mark_at mark.LeftBrace p.1)) (bind-two _ _ (ap (λ z. z.range_left) (agree q1)) (λ x e3.
    let q3 = Ends-trans q1 (ends_range_left p.1 x (sym (ap (λ z. z.range_left) (look q1)) ∙ e3)) in
    bind-two _ _ (ap (λ z. z.expr 5 true false) (agree q3)) (λ t e4.
    let q4 = Ends-trans q3 (ends_expr 5 true false x.rest t (sym (ap (λ z. z.expr 5 true false) (look q3)) ∙ e4)) in
    bind-two _ _ (ap (λ z. z.block) (agree q4)) (λ b e5.
    let q5 = Ends-trans q4 (ends_block t.rest b (sym (ap (λ z. z.block) (look q4)) ∙ e5)) in
    refl)))))

same-read_loop : (t0 : Token) (s : List Token) → read_loop s (row_at (rows s)) t0 ≡ read_loop s stands t0
unfolding read_loop
same-read_loop t0 s =
    bind-same (word_at word.For (t0 ∷ s)) (λ p e1.
    let q1 = ends_of (After-word (word-sound word.For (t0 ∷ s) p e1)) in
    guard-same (is_none (mark_at mark.LeftBrace p.1)) (guard-two _ _ (ap (λ z. is_none (z.range_left)) (agree q1)) (bind-two _ _ (ap (λ z. z.header) (agree q1)) (λ i e4.
    let q4 = Ends-trans q1 (ends_header p.1 i (sym (ap (λ z. z.header) (look q1)) ∙ e4)) in
    bind-two _ _ (ap (λ z. z.condition) (agree q4)) (λ o e5.
    let q5 = Ends-trans q4 (ends_condition i.rest o (sym (ap (λ z. z.condition) (look q4)) ∙ e5)) in
    bind-same (front_at is_semi o.rest) (λ y e6.
    let q6 = Ends-trans q5 (to_ends (After-front (front-sound is_semi o.rest y e6))) in
    bind-two _ _ (ap (λ z. z.post) (agree q6)) (λ j e7.
    let q7 = Ends-trans q6 (ends_post y.1 j (sym (ap (λ z. z.post) (look q6)) ∙ e7)) in
    bind-two _ _ (ap (λ z. z.block) (agree q7)) (λ b e8.
    let q8 = Ends-trans q7 (ends_block j.rest b (sym (ap (λ z. z.block) (look q7)) ∙ e8)) in
    refl))))))))

same-read_while : (t0 : Token) (s : List Token) → read_while s (row_at (rows s)) t0 ≡ read_while s stands t0
unfolding read_while
same-read_while t0 s =
    bind-same (word_at word.For (t0 ∷ s)) (λ p e1.
    let q1 = ends_of (After-word (word-sound word.For (t0 ∷ s) p e1)) in
    guard-same (is_none (mark_at mark.LeftBrace p.1)) (guard-two _ _ (ap (λ z. is_none (z.range_left)) (agree q1)) (guard-two _ _ (ap (λ z. is_none (z.header)) (agree q1)) (bind-two _ _ (ap (λ z. z.expr 5 true false) (agree q1)) (λ t e5.
    let q5 = Ends-trans q1 (ends_expr 5 true false p.1 t (sym (ap (λ z. z.expr 5 true false) (look q1)) ∙ e5)) in
    bind-two _ _ (ap (λ z. z.block) (agree q5)) (λ b e6.
    let q6 = Ends-trans q5 (ends_block t.rest b (sym (ap (λ z. z.block) (look q5)) ∙ e6)) in
    refl))))))

pub same-stmt_step : (t0 : Token) (s : List Token) → stmt_step s (row_at (rows s)) t0 ≡ stmt_step s stands t0
unfolding stmt_step
same-stmt_step t0 s = first-two (same-read_simple_stmt t0 s) (first-two (same-read_declaration_stmt t0 s) (first-two (same-read_bare_label t0 s) (first-two (same-read_labeled t0 s) (first-two (same-read_go t0 s) (first-two (same-read_defer t0 s) (first-two (same-read_return t0 s) (first-two (same-read_break t0 s) (first-two (same-read_continue t0 s) (first-two (same-read_goto t0 s) (first-two (same-read_fallthrough t0 s) (first-two (same-read_block_stmt t0 s) (first-two (same-read_if_stmt t0 s) (first-two (same-read_header_type_switch t0 s) (first-two (same-read_type_switch t0 s) (first-two (same-read_header_switch t0 s) (first-two (same-read_switch t0 s) (first-two (same-read_select t0 s) (first-two (same-read_endless t0 s) (first-two (same-read_range t0 s) (first-two (same-read_loop t0 s) (same-read_while t0 s)))))))))))))))))))))

same-read_last_stmt : (t0 : Token) (s : List Token) → read_last_stmt s (row_at (rows s)) t0 ≡ read_last_stmt s stands t0
unfolding read_last_stmt
same-read_last_stmt t0 s =
    bind-two _ _ (same-stmt_step t0 s) (λ t e1.
    let q1 = ends_of (after_stmt (t0 ∷ s) t (stmt-cons t0 s ∙ e1)) in
    bind-same (mark_at mark.RightBrace t.rest) (λ z1 e2.
    refl))

same-read_more_stmts : (t0 : Token) (s : List Token) → read_more_stmts s (row_at (rows s)) t0 ≡ read_more_stmts s stands t0
unfolding read_more_stmts
same-read_more_stmts t0 s =
    bind-two _ _ (same-stmt_step t0 s) (λ t e1.
    let q1 = ends_of (after_stmt (t0 ∷ s) t (stmt-cons t0 s ∙ e1)) in
    bind-same (front_at is_semi t.rest) (λ x e2.
    let q2 = Ends-trans q1 (to_ends (After-front (front-sound is_semi t.rest x e2))) in
    bind-two _ _ (ap (λ z. z.stmts) (agree q2)) (λ ts e3.
    let q3 = Ends-trans q2 (ends_stmts x.1 ts (sym (ap (λ z. z.stmts) (look q2)) ∙ e3)) in
    refl)))

same-read_empty_stmt : (t0 : Token) (s : List Token) → read_empty_stmt s (row_at (rows s)) t0 ≡ read_empty_stmt s stands t0
unfolding read_empty_stmt
same-read_empty_stmt t0 s =
    bind-same (front_at is_semi (t0 ∷ s)) (λ x e1.
    let q1 = ends_of (After-front (front-sound is_semi (t0 ∷ s) x e1)) in
    bind-two _ _ (ap (λ z. z.stmts) (agree q1)) (λ ts e2.
    let q2 = Ends-trans q1 (ends_stmts x.1 ts (sym (ap (λ z. z.stmts) (look q1)) ∙ e2)) in
    refl))

same-read_no_stmts : (t0 : Token) (s : List Token) → read_no_stmts s (row_at (rows s)) t0 ≡ read_no_stmts s stands t0
unfolding read_no_stmts
same-read_no_stmts t0 s =
    bind-same (front_at is_list_end (t0 ∷ s)) (λ z0 e1.
    refl)

pub same-stmts_step : (t0 : Token) (s : List Token) → stmts_step s (row_at (rows s)) t0 ≡ stmts_step s stands t0
unfolding stmts_step
same-stmts_step t0 s = first-two (same-read_last_stmt t0 s) (first-two (same-read_more_stmts t0 s) (first-two (same-read_empty_stmt t0 s) (same-read_no_stmts t0 s)))

same-read_plain_import : (t0 : Token) (s : List Token) → read_plain_import s (row_at (rows s)) t0 ≡ read_plain_import s stands t0
unfolding read_plain_import
same-read_plain_import t0 s =
    bind-same (text_at (t0 ∷ s)) (λ x e1.
    let q1 = ends_of (After-text (text-sound (t0 ∷ s) x e1)) in
    refl)

same-read_dot_import : (t0 : Token) (s : List Token) → read_dot_import s (row_at (rows s)) t0 ≡ read_dot_import s stands t0
unfolding read_dot_import
same-read_dot_import t0 s =
    bind-same (mark_at mark.Dot (t0 ∷ s)) (λ p e1.
    let q1 = ends_of (After-mark (mark-sound mark.Dot (t0 ∷ s) p e1)) in
    bind-same (text_at p.1) (λ x e2.
    let q2 = Ends-trans q1 (to_ends (After-text (text-sound p.1 x e2))) in
    refl))

same-read_named_import : (t0 : Token) (s : List Token) → read_named_import s (row_at (rows s)) t0 ≡ read_named_import s stands t0
unfolding read_named_import
same-read_named_import t0 s =
    bind-same (name_at (t0 ∷ s)) (λ x e1.
    let q1 = ends_of (After-name (name-sound (t0 ∷ s) x e1)) in
    bind-same (text_at x.1) (λ y e2.
    let q2 = Ends-trans q1 (to_ends (After-text (text-sound x.1 y e2))) in
    refl))

pub same-import_spec_step : (t0 : Token) (s : List Token) → import_spec_step s (row_at (rows s)) t0 ≡ import_spec_step s stands t0
unfolding import_spec_step
same-import_spec_step t0 s = first-two (same-read_plain_import t0 s) (first-two (same-read_dot_import t0 s) (same-read_named_import t0 s))

same-read_last_import : (t0 : Token) (s : List Token) → read_last_import s (row_at (rows s)) t0 ≡ read_last_import s stands t0
unfolding read_last_import
same-read_last_import t0 s =
    bind-two _ _ (same-import_spec_step t0 s) (λ c e1.
    let q1 = ends_of (after_import_spec (t0 ∷ s) c (import_spec-cons t0 s ∙ e1)) in
    bind-same (mark_at mark.RightParen c.rest) (λ z1 e2.
    refl))

same-read_more_imports : (t0 : Token) (s : List Token) → read_more_imports s (row_at (rows s)) t0 ≡ read_more_imports s stands t0
unfolding read_more_imports
same-read_more_imports t0 s =
    bind-two _ _ (same-import_spec_step t0 s) (λ c e1.
    let q1 = ends_of (after_import_spec (t0 ∷ s) c (import_spec-cons t0 s ∙ e1)) in
    bind-same (front_at is_semi c.rest) (λ x e2.
    let q2 = Ends-trans q1 (to_ends (After-front (front-sound is_semi c.rest x e2))) in
    bind-two _ _ (ap (λ z. z.import_specs) (agree q2)) (λ cs e3.
    let q3 = Ends-trans q2 (ends_import_specs x.1 cs (sym (ap (λ z. z.import_specs) (look q2)) ∙ e3)) in
    refl)))

same-read_no_imports : (t0 : Token) (s : List Token) → read_no_imports s (row_at (rows s)) t0 ≡ read_no_imports s stands t0
unfolding read_no_imports
same-read_no_imports t0 s =
    bind-same (mark_at mark.RightParen (t0 ∷ s)) (λ z0 e1.
    refl)

pub same-import_specs_step : (t0 : Token) (s : List Token) → import_specs_step s (row_at (rows s)) t0 ≡ import_specs_step s stands t0
unfolding import_specs_step
same-import_specs_step t0 s = first-two (same-read_last_import t0 s) (first-two (same-read_more_imports t0 s) (same-read_no_imports t0 s))

same-read_a_body : (t0 : Token) (s : List Token) → read_a_body s (row_at (rows s)) t0 ≡ read_a_body s stands t0
unfolding read_a_body
same-read_a_body t0 s =
    bind-two _ _ (same-block_step t0 s) (λ b e1.
    let q1 = ends_of (after_block (t0 ∷ s) b (block-cons t0 s ∙ e1)) in
    refl)

same-read_no_body : (t0 : Token) (s : List Token) → read_no_body s (row_at (rows s)) t0 ≡ read_no_body s stands t0
unfolding read_no_body
same-read_no_body t0 s =
    bind-same (front_at is_semi (t0 ∷ s)) (λ z0 e1.
    refl)

pub same-body_step : (t0 : Token) (s : List Token) → body_step s (row_at (rows s)) t0 ≡ body_step s stands t0
unfolding body_step
same-body_step t0 s = first-two (same-read_a_body t0 s) (same-read_no_body t0 s)

same-read_declaration : (t0 : Token) (s : List Token) → read_declaration s (row_at (rows s)) t0 ≡ read_declaration s stands t0
unfolding read_declaration
same-read_declaration t0 s =
    bind-same (front_at is_decl_start (t0 ∷ s)) (λ z0 e1.
    bind-two _ _ (same-decl_step t0 s) (λ x e2.
    let q2 = ends_of (after_decl (t0 ∷ s) x (decl-cons t0 s ∙ e2)) in
    refl))

same-read_function : (t0 : Token) (s : List Token) → read_function s (row_at (rows s)) t0 ≡ read_function s stands t0
unfolding read_function
same-read_function t0 s =
    bind-same (word_at word.Func (t0 ∷ s)) (λ p e1.
    let q1 = ends_of (After-word (word-sound word.Func (t0 ∷ s) p e1)) in
    bind-same (name_at p.1) (λ x e2.
    let q2 = Ends-trans q1 (to_ends (After-name (name-sound p.1 x e2))) in
    bind-two _ _ (ap (λ z. z.signature) (agree q2)) (λ z e3.
    let q3 = Ends-trans q2 (ends_signature x.1 z (sym (ap (λ z. z.signature) (look q2)) ∙ e3)) in
    bind-two _ _ (ap (λ z. z.body) (agree q3)) (λ o e4.
    let q4 = Ends-trans q3 (ends_body z.rest o (sym (ap (λ z. z.body) (look q3)) ∙ e4)) in
    refl))))

same-read_method_decl : (t0 : Token) (s : List Token) → read_method_decl s (row_at (rows s)) t0 ≡ read_method_decl s stands t0
unfolding read_method_decl
same-read_method_decl t0 s =
    bind-same (word_at word.Func (t0 ∷ s)) (λ p e1.
    let q1 = ends_of (After-word (word-sound word.Func (t0 ∷ s) p e1)) in
    bind-same (mark_at mark.LeftParen p.1) (λ z1 e2.
    bind-two _ _ (ap (λ z. z.params false) (agree q1)) (λ ps e3.
    let q3 = Ends-trans q1 (ends_params false p.1 ps (sym (ap (λ z. z.params false) (look q1)) ∙ e3)) in
    guard-same (is_receiver ps.tree) (bind-same (name_at ps.rest) (λ x e5.
    let q5 = Ends-trans q3 (to_ends (After-name (name-sound ps.rest x e5))) in
    bind-two _ _ (ap (λ z. z.signature) (agree q5)) (λ z e6.
    let q6 = Ends-trans q5 (ends_signature x.1 z (sym (ap (λ z. z.signature) (look q5)) ∙ e6)) in
    bind-two _ _ (ap (λ z. z.body) (agree q6)) (λ o e7.
    let q7 = Ends-trans q6 (ends_body z.rest o (sym (ap (λ z. z.body) (look q6)) ∙ e7)) in
    refl)))))))

pub same-top_step : (t0 : Token) (s : List Token) → top_step s (row_at (rows s)) t0 ≡ top_step s stands t0
unfolding top_step
same-top_step t0 s = first-two (same-read_declaration t0 s) (first-two (same-read_function t0 s) (same-read_method_decl t0 s))

same-read_top_chunk : (t0 : Token) (s : List Token) → read_top_chunk s (row_at (rows s)) t0 ≡ read_top_chunk s stands t0
unfolding read_top_chunk
same-read_top_chunk t0 s =
    bind-two _ _ (same-top_step t0 s) (λ t e1.
    let q1 = ends_of (after_top (t0 ∷ s) t (top-cons t0 s ∙ e1)) in
    bind-same (front_at is_semi t.rest) (λ y e2.
    let q2 = Ends-trans q1 (to_ends (After-front (front-sound is_semi t.rest y e2))) in
    refl))

same-read_package_clause : (t0 : Token) (s : List Token) → read_package_clause s (row_at (rows s)) t0 ≡ read_package_clause s stands t0
unfolding read_package_clause
same-read_package_clause t0 s =
    bind-same (word_at word.Package (t0 ∷ s)) (λ p e1.
    let q1 = ends_of (After-word (word-sound word.Package (t0 ∷ s) p e1)) in
    bind-same (name_at p.1) (λ x e2.
    let q2 = Ends-trans q1 (to_ends (After-name (name-sound p.1 x e2))) in
    bind-same (front_at is_semi x.1) (λ y e3.
    let q3 = Ends-trans q2 (to_ends (After-front (front-sound is_semi x.1 y e3))) in
    refl)))

same-read_import_decl : (t0 : Token) (s : List Token) → read_import_decl s (row_at (rows s)) t0 ≡ read_import_decl s stands t0
unfolding read_import_decl
same-read_import_decl t0 s =
    bind-same (word_at word.Import (t0 ∷ s)) (λ p e1.
    let q1 = ends_of (After-word (word-sound word.Import (t0 ∷ s) p e1)) in
    guard-same (is_none (mark_at mark.LeftParen p.1)) (bind-two _ _ (ap (λ z. z.import_spec) (agree q1)) (λ i e3.
    let q3 = Ends-trans q1 (ends_import_spec p.1 i (sym (ap (λ z. z.import_spec) (look q1)) ∙ e3)) in
    bind-same (front_at is_semi i.rest) (λ y e4.
    let q4 = Ends-trans q3 (to_ends (After-front (front-sound is_semi i.rest y e4))) in
    refl))))

same-read_import_group : (t0 : Token) (s : List Token) → read_import_group s (row_at (rows s)) t0 ≡ read_import_group s stands t0
unfolding read_import_group
same-read_import_group t0 s =
    bind-same (word_at word.Import (t0 ∷ s)) (λ p e1.
    let q1 = ends_of (After-word (word-sound word.Import (t0 ∷ s) p e1)) in
    bind-same (mark_at mark.LeftParen p.1) (λ z1 e2.
    let q2 = Ends-trans q1 (to_ends (After-mark (mark-sound mark.LeftParen p.1 z1 e2))) in
    bind-two _ _ (ap (λ z. z.import_specs) (agree q2)) (λ cs e3.
    let q3 = Ends-trans q2 (ends_import_specs z1.1 cs (sym (ap (λ z. z.import_specs) (look q2)) ∙ e3)) in
    bind-same (mark_at mark.RightParen cs.rest) (λ z3 e4.
    let q4 = Ends-trans q3 (to_ends (After-mark (mark-sound mark.RightParen cs.rest z3 e4))) in
    bind-same (front_at is_semi z3.1) (λ y e5.
    let q5 = Ends-trans q4 (to_ends (After-front (front-sound is_semi z3.1 y e5))) in
    refl)))))

pub same-chunk_step : (t0 : Token) (s : List Token) → chunk_step s (row_at (rows s)) t0 ≡ chunk_step s stands t0
unfolding chunk_step
same-chunk_step t0 s = first-two (same-read_top_chunk t0 s) (first-two (same-read_package_clause t0 s) (first-two (same-read_import_decl t0 s) (same-read_import_group t0 s)))
