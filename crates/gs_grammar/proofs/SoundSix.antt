-- What the rows have, the grammar gives.
use Rattle.std.proofs.Common.{◌≡◌, ℕ, suc, ◌≤◌, true, false, not, List, ◌∷◌, length, Option, Some, is_none}
use Rattle.gs_syntax.specs.declared.token.Token.{Token}
use Rattle.gs_syntax.specs.declared.token.Operator.TheVariants as mark
use Rattle.gs_syntax.specs.declared.token.Keyword.TheVariants as word
use Rattle.gs_grammar.specs.declared.trees.Chunk.{Chunk}
use Rattle.gs_grammar.specs.declared.trees.ImportSpec.{ImportSpec}
use Rattle.gs_grammar.specs.declared.trees.Top.{Top}
use Rattle.gs_grammar.specs.declared.trees.Expr.{Expr}
use Rattle.gs_grammar.specs.declared.trees.Block.{Block}
use Rattle.gs_grammar.specs.declared.trees.Stmt.{Stmt}
use Rattle.gs_grammar.specs.declared.trees.Simple.{Simple}
use Rattle.gs_grammar.specs.declared.trees.RangeLeft.{RangeLeft}
use Rattle.gs_grammar.specs.Grammar as g
use Rattle.gs_grammar.specs.Front.{mark_at, word_at, name_at, text_at, front_at, label_at, is_decl_start, is_list_end, is_semi, is_stmt_end}
use Rattle.gs_grammar.specs.Parts.{Found, is_receiver, is_define}
use Rattle.gs_grammar.specs.Reference.{row_at, rows, block_step, expr_step, exprs_step, simple_step, decl_step, condition_step, post_step, range_left_step, stmt_step, stmts_step, import_spec_step, import_specs_step, body_step, top_step, chunk_step, read_a_condition, read_no_condition, read_a_post, read_no_post, read_range_assign, read_range_define, read_no_range_left, read_simple_stmt, read_declaration_stmt, read_bare_label, read_labeled, read_go, read_defer, read_return, read_break, read_continue, read_goto, read_fallthrough, read_block_stmt, read_if_stmt, read_header_type_switch, read_type_switch, read_header_switch, read_switch, read_select, read_endless, read_range, read_loop, read_while, read_last_stmt, read_more_stmts, read_empty_stmt, read_no_stmts, read_plain_import, read_dot_import, read_named_import, read_last_import, read_more_imports, read_no_imports, read_a_body, read_no_body, read_declaration, read_function, read_method_decl, read_top_chunk, read_package_clause, read_import_decl, read_import_group}
use Rattle.gs_grammar.proofs.Common.{Ends-trans, to_ends, ends_of, from_some, bind, either, guard, none-of, not-true, mark-sound, word-sound, name-sound, text-sound, front-sound, After-mark, After-word, After-name, After-text, After-front}
use Rattle.gs_grammar.proofs.Afters.{After-params, After-signature, After-block, After-expr, After-exprs, After-simple, After-decl, Ends-values, Ends-target, After-arms, Ends-tag_value, After-guard, Ends-clauses, Ends-type_clauses, Ends-comm_clauses, After-header, Ends-condition, Ends-post, After-range_left, After-stmt, Ends-stmts, After-import_spec, Ends-import_specs, Ends-body, After-top}
use Rattle.gs_grammar.proofs.Fits.{Fits, AllSound, condition-at, post-at, range_left-at, stmt-at, stmts-at, import_spec-at, import_specs-at, body-at, top-at, chunk-at}
use Rattle.gs_grammar.proofs.Later.{params_of, signature_of, block_of, expr_of, values_of, target_of, arms_of, tag_value_of, guard_of, clauses_of, type_clauses_of, comm_clauses_of, header_of, condition_of, post_of, range_left_of, stmt_of, stmts_of, import_spec_of, import_specs_of, body_of, guard_absent, header_absent, range_left_absent}
use Rattle.gs_grammar.proofs.SoundTwo.{block-sound, expr-sound}
use Rattle.gs_grammar.proofs.SoundThree.{exprs-sound}
use Rattle.gs_grammar.proofs.SoundFour.{simple-sound, decl-sound}

module _ (S : g.Part → List Token → List Token → Type 0) (n : ℕ) (F : Fits S n) (s : List Token) (l : suc (length s) ≤ n) (H : AllSound S n s) where
  read_a_condition-sound : (t0 : Token) (f : Found (Option Expr)) → read_a_condition s (row_at (rows s)) t0 ≡ Some f → condition-at S (t0 ∷ s) f
  unfolding read_a_condition
  read_a_condition-sound t0 f c0 =
      let Q = condition-at S (t0 ∷ s) in
      bind Q (expr_step s (row_at (rows s)) 5 true false t0) _ (λ t e1 b1 c1.
      let h1 = expr-sound S n F s l H 5 true false t0 t e1 in
      let q1 = ends_of (After-expr h1) in
      from_some Q c1 (g.IsCondition.a_condition h1)) f c0

  read_no_condition-sound : (t0 : Token) (f : Found (Option Expr)) → read_no_condition s (row_at (rows s)) t0 ≡ Some f → condition-at S (t0 ∷ s) f
  unfolding read_no_condition
  read_no_condition-sound t0 f c0 =
      let Q = condition-at S (t0 ∷ s) in
      bind Q (front_at is_semi (t0 ∷ s)) _ (λ z0 e1 b1 c1.
      let h1 = front-sound is_semi (t0 ∷ s) z0 e1 in
      from_some Q c1 (g.IsCondition.no_condition h1)) f c0

  pub condition-sound : (x : Token) (f : Found (Option Expr)) → condition_step s (row_at (rows s)) x ≡ Some f → condition-at S (x ∷ s) f
  unfolding condition_step
  condition-sound x f c = let Q = condition-at S (x ∷ s) in either Q _ _ (read_a_condition-sound x) (read_no_condition-sound x) f c

  read_a_post-sound : (t0 : Token) (f : Found Simple) → read_a_post s (row_at (rows s)) t0 ≡ Some f → post-at S (t0 ∷ s) f
  unfolding read_a_post
  read_a_post-sound t0 f c0 =
      let Q = post-at S (t0 ∷ s) in
      bind Q (simple_step s (row_at (rows s)) true t0) _ (λ i e1 b1 c1.
      let h1 = simple-sound S n F s l H true t0 i e1 in
      let q1 = ends_of (After-simple h1) in
      guard Q (not (is_define i.tree)) _ (λ e2 b2 c2.
      let h2 = not-true _ e2 in
      from_some Q c2 (g.IsPost.a_post h1 h2)) b1 c1) f c0

  read_no_post-sound : (t0 : Token) (f : Found Simple) → read_no_post s (row_at (rows s)) t0 ≡ Some f → post-at S (t0 ∷ s) f
  unfolding read_no_post
  read_no_post-sound t0 f c0 =
      let Q = post-at S (t0 ∷ s) in
      bind Q (mark_at mark.LeftBrace (t0 ∷ s)) _ (λ z0 e1 b1 c1.
      let h1 = mark-sound mark.LeftBrace (t0 ∷ s) z0 e1 in
      from_some Q c1 (g.IsPost.no_post h1)) f c0

  pub post-sound : (x : Token) (f : Found Simple) → post_step s (row_at (rows s)) x ≡ Some f → post-at S (x ∷ s) f
  unfolding post_step
  post-sound x f c = let Q = post-at S (x ∷ s) in either Q _ _ (read_a_post-sound x) (read_no_post-sound x) f c

  read_range_assign-sound : (t0 : Token) (f : Found RangeLeft) → read_range_assign s (row_at (rows s)) t0 ≡ Some f → range_left-at S (t0 ∷ s) f
  unfolding read_range_assign
  read_range_assign-sound t0 f c0 =
      let Q = range_left-at S (t0 ∷ s) in
      bind Q (exprs_step s (row_at (rows s)) true t0) _ (λ ts e1 b1 c1.
      let h1 = exprs-sound S n F s l H true t0 ts e1 in
      let q1 = ends_of (After-exprs h1) in
      bind Q (mark_at mark.Assign ts.rest) _ (λ p e2 b2 c2.
      let h2 = mark-sound mark.Assign ts.rest p e2 in
      let q2 = Ends-trans (q1) (to_ends (After-mark h2)) in
      bind Q (word_at word.Range p.1) _ (λ z2 e3 b3 c3.
      let h3 = word-sound word.Range p.1 z2 e3 in
      let q3 = Ends-trans (q2) (to_ends (After-word h3)) in
      from_some Q c3 (g.IsRangeLeft.range_assign h1 h2 h3)) b2 c2) b1 c1) f c0

  read_range_define-sound : (t0 : Token) (f : Found RangeLeft) → read_range_define s (row_at (rows s)) t0 ≡ Some f → range_left-at S (t0 ∷ s) f
  unfolding read_range_define
  read_range_define-sound t0 f c0 =
      let Q = range_left-at S (t0 ∷ s) in
      bind Q (exprs_step s (row_at (rows s)) true t0) _ (λ ts e1 b1 c1.
      let h1 = exprs-sound S n F s l H true t0 ts e1 in
      let q1 = ends_of (After-exprs h1) in
      bind Q (mark_at mark.Define ts.rest) _ (λ p e2 b2 c2.
      let h2 = mark-sound mark.Define ts.rest p e2 in
      let q2 = Ends-trans (q1) (to_ends (After-mark h2)) in
      bind Q (word_at word.Range p.1) _ (λ z2 e3 b3 c3.
      let h3 = word-sound word.Range p.1 z2 e3 in
      let q3 = Ends-trans (q2) (to_ends (After-word h3)) in
      from_some Q c3 (g.IsRangeLeft.range_define h1 h2 h3)) b2 c2) b1 c1) f c0

  read_no_range_left-sound : (t0 : Token) (f : Found RangeLeft) → read_no_range_left s (row_at (rows s)) t0 ≡ Some f → range_left-at S (t0 ∷ s) f
  unfolding read_no_range_left
  read_no_range_left-sound t0 f c0 =
      let Q = range_left-at S (t0 ∷ s) in
      bind Q (word_at word.Range (t0 ∷ s)) _ (λ z0 e1 b1 c1.
      let h1 = word-sound word.Range (t0 ∷ s) z0 e1 in
      let q1 = ends_of (After-word h1) in
      from_some Q c1 (g.IsRangeLeft.no_range_left h1)) f c0

  pub range_left-sound : (x : Token) (f : Found RangeLeft) → range_left_step s (row_at (rows s)) x ≡ Some f → range_left-at S (x ∷ s) f
  unfolding range_left_step
  range_left-sound x f c = let Q = range_left-at S (x ∷ s) in either Q _ _ (read_range_assign-sound x) (λ b c1. either Q _ _ (read_range_define-sound x) (read_no_range_left-sound x) b c1) f c

  read_simple_stmt-sound : (t0 : Token) (f : Found Stmt) → read_simple_stmt s (row_at (rows s)) t0 ≡ Some f → stmt-at S (t0 ∷ s) f
  unfolding read_simple_stmt
  read_simple_stmt-sound t0 f c0 =
      let Q = stmt-at S (t0 ∷ s) in
      guard Q (is_none (label_at (t0 ∷ s))) _ (λ e1 b1 c1.
      let h1 = none-of _ e1 in
      bind Q (simple_step s (row_at (rows s)) false t0) _ (λ t e2 b2 c2.
      let h2 = simple-sound S n F s l H false t0 t e2 in
      let q2 = ends_of (After-simple h2) in
      from_some Q c2 (g.IsStmt.simple_stmt h1 h2)) b1 c1) f c0

  read_declaration_stmt-sound : (t0 : Token) (f : Found Stmt) → read_declaration_stmt s (row_at (rows s)) t0 ≡ Some f → stmt-at S (t0 ∷ s) f
  unfolding read_declaration_stmt
  read_declaration_stmt-sound t0 f c0 =
      let Q = stmt-at S (t0 ∷ s) in
      bind Q (front_at is_decl_start (t0 ∷ s)) _ (λ z0 e1 b1 c1.
      let h1 = front-sound is_decl_start (t0 ∷ s) z0 e1 in
      bind Q (decl_step s (row_at (rows s)) t0) _ (λ x e2 b2 c2.
      let h2 = decl-sound S n F s l H t0 x e2 in
      let q2 = ends_of (After-decl h2) in
      from_some Q c2 (g.IsStmt.declaration_stmt h1 h2)) b1 c1) f c0

  read_bare_label-sound : (t0 : Token) (f : Found Stmt) → read_bare_label s (row_at (rows s)) t0 ≡ Some f → stmt-at S (t0 ∷ s) f
  unfolding read_bare_label
  read_bare_label-sound t0 f c0 =
      let Q = stmt-at S (t0 ∷ s) in
      bind Q (name_at (t0 ∷ s)) _ (λ x e1 b1 c1.
      let h1 = name-sound (t0 ∷ s) x e1 in
      let q1 = ends_of (After-name h1) in
      bind Q (mark_at mark.Colon x.1) _ (λ z1 e2 b2 c2.
      let h2 = mark-sound mark.Colon x.1 z1 e2 in
      let q2 = Ends-trans (q1) (to_ends (After-mark h2)) in
      bind Q (front_at is_stmt_end z1.1) _ (λ z2 e3 b3 c3.
      let h3 = front-sound is_stmt_end z1.1 z2 e3 in
      from_some Q c3 (g.IsStmt.bare_label h1 h2 h3)) b2 c2) b1 c1) f c0

  read_labeled-sound : (t0 : Token) (f : Found Stmt) → read_labeled s (row_at (rows s)) t0 ≡ Some f → stmt-at S (t0 ∷ s) f
  unfolding read_labeled
  read_labeled-sound t0 f c0 =
      let Q = stmt-at S (t0 ∷ s) in
      bind Q (name_at (t0 ∷ s)) _ (λ x e1 b1 c1.
      let h1 = name-sound (t0 ∷ s) x e1 in
      let q1 = ends_of (After-name h1) in
      bind Q (mark_at mark.Colon x.1) _ (λ z1 e2 b2 c2.
      let h2 = mark-sound mark.Colon x.1 z1 e2 in
      let q2 = Ends-trans (q1) (to_ends (After-mark h2)) in
      guard Q (is_none (front_at is_stmt_end z1.1)) _ (λ e3 b3 c3.
      let h3 = none-of _ e3 in
      bind Q ((row_at (rows s) z1.1).stmt) _ (λ t e4 b4 c4.
      let h4 = stmt_of S n F s l H t (q2) e4 in
      let q4 = Ends-trans (q2) (to_ends (After-stmt h4)) in
      from_some Q c4 (g.IsStmt.labeled h1 h2 h3 h4)) b3 c3) b2 c2) b1 c1) f c0

  read_go-sound : (t0 : Token) (f : Found Stmt) → read_go s (row_at (rows s)) t0 ≡ Some f → stmt-at S (t0 ∷ s) f
  unfolding read_go
  read_go-sound t0 f c0 =
      let Q = stmt-at S (t0 ∷ s) in
      bind Q (word_at word.Go (t0 ∷ s)) _ (λ p e1 b1 c1.
      let h1 = word-sound word.Go (t0 ∷ s) p e1 in
      let q1 = ends_of (After-word h1) in
      bind Q ((row_at (rows s) p.1).expr 5 false false) _ (λ t e2 b2 c2.
      let h2 = expr_of S n F s l H 5 false false t (q1) e2 in
      let q2 = Ends-trans (q1) (to_ends (After-expr h2)) in
      from_some Q c2 (g.IsStmt.go h1 h2)) b1 c1) f c0

  read_defer-sound : (t0 : Token) (f : Found Stmt) → read_defer s (row_at (rows s)) t0 ≡ Some f → stmt-at S (t0 ∷ s) f
  unfolding read_defer
  read_defer-sound t0 f c0 =
      let Q = stmt-at S (t0 ∷ s) in
      bind Q (word_at word.Defer (t0 ∷ s)) _ (λ p e1 b1 c1.
      let h1 = word-sound word.Defer (t0 ∷ s) p e1 in
      let q1 = ends_of (After-word h1) in
      bind Q ((row_at (rows s) p.1).expr 5 false false) _ (λ t e2 b2 c2.
      let h2 = expr_of S n F s l H 5 false false t (q1) e2 in
      let q2 = Ends-trans (q1) (to_ends (After-expr h2)) in
      from_some Q c2 (g.IsStmt.defer h1 h2)) b1 c1) f c0

  read_return-sound : (t0 : Token) (f : Found Stmt) → read_return s (row_at (rows s)) t0 ≡ Some f → stmt-at S (t0 ∷ s) f
  unfolding read_return
  read_return-sound t0 f c0 =
      let Q = stmt-at S (t0 ∷ s) in
      bind Q (word_at word.Return (t0 ∷ s)) _ (λ p e1 b1 c1.
      let h1 = word-sound word.Return (t0 ∷ s) p e1 in
      let q1 = ends_of (After-word h1) in
      bind Q ((row_at (rows s) p.1).values) _ (λ ts e2 b2 c2.
      let h2 = values_of S n F s l H ts (q1) e2 in
      let q2 = Ends-trans (q1) (Ends-values h2) in
      from_some Q c2 (g.IsStmt.return h1 h2)) b1 c1) f c0

  read_break-sound : (t0 : Token) (f : Found Stmt) → read_break s (row_at (rows s)) t0 ≡ Some f → stmt-at S (t0 ∷ s) f
  unfolding read_break
  read_break-sound t0 f c0 =
      let Q = stmt-at S (t0 ∷ s) in
      bind Q (word_at word.Break (t0 ∷ s)) _ (λ p e1 b1 c1.
      let h1 = word-sound word.Break (t0 ∷ s) p e1 in
      let q1 = ends_of (After-word h1) in
      bind Q ((row_at (rows s) p.1).target) _ (λ o e2 b2 c2.
      let h2 = target_of S n F s l H o (q1) e2 in
      let q2 = Ends-trans (q1) (Ends-target h2) in
      from_some Q c2 (g.IsStmt.break h1 h2)) b1 c1) f c0

  read_continue-sound : (t0 : Token) (f : Found Stmt) → read_continue s (row_at (rows s)) t0 ≡ Some f → stmt-at S (t0 ∷ s) f
  unfolding read_continue
  read_continue-sound t0 f c0 =
      let Q = stmt-at S (t0 ∷ s) in
      bind Q (word_at word.Continue (t0 ∷ s)) _ (λ p e1 b1 c1.
      let h1 = word-sound word.Continue (t0 ∷ s) p e1 in
      let q1 = ends_of (After-word h1) in
      bind Q ((row_at (rows s) p.1).target) _ (λ o e2 b2 c2.
      let h2 = target_of S n F s l H o (q1) e2 in
      let q2 = Ends-trans (q1) (Ends-target h2) in
      from_some Q c2 (g.IsStmt.continue h1 h2)) b1 c1) f c0

  read_goto-sound : (t0 : Token) (f : Found Stmt) → read_goto s (row_at (rows s)) t0 ≡ Some f → stmt-at S (t0 ∷ s) f
  unfolding read_goto
  read_goto-sound t0 f c0 =
      let Q = stmt-at S (t0 ∷ s) in
      bind Q (word_at word.Goto (t0 ∷ s)) _ (λ p e1 b1 c1.
      let h1 = word-sound word.Goto (t0 ∷ s) p e1 in
      let q1 = ends_of (After-word h1) in
      bind Q (name_at p.1) _ (λ x e2 b2 c2.
      let h2 = name-sound p.1 x e2 in
      let q2 = Ends-trans (q1) (to_ends (After-name h2)) in
      from_some Q c2 (g.IsStmt.goto h1 h2)) b1 c1) f c0

  read_fallthrough-sound : (t0 : Token) (f : Found Stmt) → read_fallthrough s (row_at (rows s)) t0 ≡ Some f → stmt-at S (t0 ∷ s) f
  unfolding read_fallthrough
  read_fallthrough-sound t0 f c0 =
      let Q = stmt-at S (t0 ∷ s) in
      bind Q (word_at word.Fallthrough (t0 ∷ s)) _ (λ p e1 b1 c1.
      let h1 = word-sound word.Fallthrough (t0 ∷ s) p e1 in
      let q1 = ends_of (After-word h1) in
      from_some Q c1 (g.IsStmt.fallthrough h1)) f c0

  read_block_stmt-sound : (t0 : Token) (f : Found Stmt) → read_block_stmt s (row_at (rows s)) t0 ≡ Some f → stmt-at S (t0 ∷ s) f
  unfolding read_block_stmt
  read_block_stmt-sound t0 f c0 =
      let Q = stmt-at S (t0 ∷ s) in
      bind Q (mark_at mark.LeftBrace (t0 ∷ s)) _ (λ p e1 b1 c1.
      let h1 = mark-sound mark.LeftBrace (t0 ∷ s) p e1 in
      let q1 = ends_of (After-mark h1) in
      bind Q ((row_at (rows s) p.1).stmts) _ (λ ts e2 b2 c2.
      let h2 = stmts_of S n F s l H ts (q1) e2 in
      let q2 = Ends-trans (q1) (Ends-stmts h2) in
      bind Q (mark_at mark.RightBrace ts.rest) _ (λ q e3 b3 c3.
      let h3 = mark-sound mark.RightBrace ts.rest q e3 in
      let q3 = Ends-trans (q2) (to_ends (After-mark h3)) in
      from_some Q c3 (g.IsStmt.block_stmt h1 h2 h3)) b2 c2) b1 c1) f c0

  read_if_stmt-sound : (t0 : Token) (f : Found Stmt) → read_if_stmt s (row_at (rows s)) t0 ≡ Some f → stmt-at S (t0 ∷ s) f
  unfolding read_if_stmt
  read_if_stmt-sound t0 f c0 =
      let Q = stmt-at S (t0 ∷ s) in
      bind Q (word_at word.If (t0 ∷ s)) _ (λ p e1 b1 c1.
      let h1 = word-sound word.If (t0 ∷ s) p e1 in
      let q1 = ends_of (After-word h1) in
      bind Q ((row_at (rows s) p.1).arms) _ (λ a e2 b2 c2.
      let h2 = arms_of S n F s l H a (q1) e2 in
      let q2 = Ends-trans (q1) (to_ends (After-arms h2)) in
      from_some Q c2 (g.IsStmt.if_stmt h1 h2)) b1 c1) f c0

  read_header_type_switch-sound : (t0 : Token) (f : Found Stmt) → read_header_type_switch s (row_at (rows s)) t0 ≡ Some f → stmt-at S (t0 ∷ s) f
  unfolding read_header_type_switch
  read_header_type_switch-sound t0 f c0 =
      let Q = stmt-at S (t0 ∷ s) in
      bind Q (word_at word.Switch (t0 ∷ s)) _ (λ p e1 b1 c1.
      let h1 = word-sound word.Switch (t0 ∷ s) p e1 in
      let q1 = ends_of (After-word h1) in
      bind Q ((row_at (rows s) p.1).header) _ (λ i e2 b2 c2.
      let h2 = header_of S n F s l H i (q1) e2 in
      let q2 = Ends-trans (q1) (to_ends (After-header h2)) in
      bind Q ((row_at (rows s) i.rest).guard) _ (λ y e3 b3 c3.
      let h3 = guard_of S n F s l H y (q2) e3 in
      let q3 = Ends-trans (q2) (to_ends (After-guard h3)) in
      bind Q (mark_at mark.LeftBrace y.rest) _ (λ z3 e4 b4 c4.
      let h4 = mark-sound mark.LeftBrace y.rest z3 e4 in
      let q4 = Ends-trans (q3) (to_ends (After-mark h4)) in
      bind Q ((row_at (rows s) z3.1).type_clauses) _ (λ cs e5 b5 c5.
      let h5 = type_clauses_of S n F s l H cs (q4) e5 in
      let q5 = Ends-trans (q4) (Ends-type_clauses h5) in
      bind Q (mark_at mark.RightBrace cs.rest) _ (λ q e6 b6 c6.
      let h6 = mark-sound mark.RightBrace cs.rest q e6 in
      let q6 = Ends-trans (q5) (to_ends (After-mark h6)) in
      from_some Q c6 (g.IsStmt.header_type_switch h1 h2 h3 h4 h5 h6)) b5 c5) b4 c4) b3 c3) b2 c2) b1 c1) f c0

  read_type_switch-sound : (t0 : Token) (f : Found Stmt) → read_type_switch s (row_at (rows s)) t0 ≡ Some f → stmt-at S (t0 ∷ s) f
  unfolding read_type_switch
  read_type_switch-sound t0 f c0 =
      let Q = stmt-at S (t0 ∷ s) in
      bind Q (word_at word.Switch (t0 ∷ s)) _ (λ p e1 b1 c1.
      let h1 = word-sound word.Switch (t0 ∷ s) p e1 in
      let q1 = ends_of (After-word h1) in
      guard Q (is_none (row_at (rows s) p.1).header) _ (λ e2 b2 c2.
      let h2 = header_absent S n F s l H (q1) (none-of _ e2) in
      bind Q ((row_at (rows s) p.1).guard) _ (λ y e3 b3 c3.
      let h3 = guard_of S n F s l H y (q1) e3 in
      let q3 = Ends-trans (q1) (to_ends (After-guard h3)) in
      bind Q (mark_at mark.LeftBrace y.rest) _ (λ z3 e4 b4 c4.
      let h4 = mark-sound mark.LeftBrace y.rest z3 e4 in
      let q4 = Ends-trans (q3) (to_ends (After-mark h4)) in
      bind Q ((row_at (rows s) z3.1).type_clauses) _ (λ cs e5 b5 c5.
      let h5 = type_clauses_of S n F s l H cs (q4) e5 in
      let q5 = Ends-trans (q4) (Ends-type_clauses h5) in
      bind Q (mark_at mark.RightBrace cs.rest) _ (λ q e6 b6 c6.
      let h6 = mark-sound mark.RightBrace cs.rest q e6 in
      let q6 = Ends-trans (q5) (to_ends (After-mark h6)) in
      from_some Q c6 (g.IsStmt.type_switch h1 h2 h3 h4 h5 h6)) b5 c5) b4 c4) b3 c3) b2 c2) b1 c1) f c0

  read_header_switch-sound : (t0 : Token) (f : Found Stmt) → read_header_switch s (row_at (rows s)) t0 ≡ Some f → stmt-at S (t0 ∷ s) f
  unfolding read_header_switch
  read_header_switch-sound t0 f c0 =
      let Q = stmt-at S (t0 ∷ s) in
      bind Q (word_at word.Switch (t0 ∷ s)) _ (λ p e1 b1 c1.
      let h1 = word-sound word.Switch (t0 ∷ s) p e1 in
      let q1 = ends_of (After-word h1) in
      bind Q ((row_at (rows s) p.1).header) _ (λ i e2 b2 c2.
      let h2 = header_of S n F s l H i (q1) e2 in
      let q2 = Ends-trans (q1) (to_ends (After-header h2)) in
      guard Q (is_none (row_at (rows s) i.rest).guard) _ (λ e3 b3 c3.
      let h3 = guard_absent S n F s l H (q2) (none-of _ e3) in
      bind Q ((row_at (rows s) i.rest).tag_value) _ (λ o e4 b4 c4.
      let h4 = tag_value_of S n F s l H o (q2) e4 in
      let q4 = Ends-trans (q2) (Ends-tag_value h4) in
      bind Q (mark_at mark.LeftBrace o.rest) _ (λ z4 e5 b5 c5.
      let h5 = mark-sound mark.LeftBrace o.rest z4 e5 in
      let q5 = Ends-trans (q4) (to_ends (After-mark h5)) in
      bind Q ((row_at (rows s) z4.1).clauses) _ (λ cs e6 b6 c6.
      let h6 = clauses_of S n F s l H cs (q5) e6 in
      let q6 = Ends-trans (q5) (Ends-clauses h6) in
      bind Q (mark_at mark.RightBrace cs.rest) _ (λ q e7 b7 c7.
      let h7 = mark-sound mark.RightBrace cs.rest q e7 in
      let q7 = Ends-trans (q6) (to_ends (After-mark h7)) in
      from_some Q c7 (g.IsStmt.header_switch h1 h2 h3 h4 h5 h6 h7)) b6 c6) b5 c5) b4 c4) b3 c3) b2 c2) b1 c1) f c0

  read_switch-sound : (t0 : Token) (f : Found Stmt) → read_switch s (row_at (rows s)) t0 ≡ Some f → stmt-at S (t0 ∷ s) f
  unfolding read_switch
  read_switch-sound t0 f c0 =
      let Q = stmt-at S (t0 ∷ s) in
      bind Q (word_at word.Switch (t0 ∷ s)) _ (λ p e1 b1 c1.
      let h1 = word-sound word.Switch (t0 ∷ s) p e1 in
      let q1 = ends_of (After-word h1) in
      guard Q (is_none (row_at (rows s) p.1).header) _ (λ e2 b2 c2.
      let h2 = header_absent S n F s l H (q1) (none-of _ e2) in
      guard Q (is_none (row_at (rows s) p.1).guard) _ (λ e3 b3 c3.
      let h3 = guard_absent S n F s l H (q1) (none-of _ e3) in
      bind Q ((row_at (rows s) p.1).tag_value) _ (λ o e4 b4 c4.
      let h4 = tag_value_of S n F s l H o (q1) e4 in
      let q4 = Ends-trans (q1) (Ends-tag_value h4) in
      bind Q (mark_at mark.LeftBrace o.rest) _ (λ z4 e5 b5 c5.
      let h5 = mark-sound mark.LeftBrace o.rest z4 e5 in
      let q5 = Ends-trans (q4) (to_ends (After-mark h5)) in
      bind Q ((row_at (rows s) z4.1).clauses) _ (λ cs e6 b6 c6.
      let h6 = clauses_of S n F s l H cs (q5) e6 in
      let q6 = Ends-trans (q5) (Ends-clauses h6) in
      bind Q (mark_at mark.RightBrace cs.rest) _ (λ q e7 b7 c7.
      let h7 = mark-sound mark.RightBrace cs.rest q e7 in
      let q7 = Ends-trans (q6) (to_ends (After-mark h7)) in
      from_some Q c7 (g.IsStmt.switch h1 h2 h3 h4 h5 h6 h7)) b6 c6) b5 c5) b4 c4) b3 c3) b2 c2) b1 c1) f c0

  read_select-sound : (t0 : Token) (f : Found Stmt) → read_select s (row_at (rows s)) t0 ≡ Some f → stmt-at S (t0 ∷ s) f
  unfolding read_select
  read_select-sound t0 f c0 =
      let Q = stmt-at S (t0 ∷ s) in
      bind Q (word_at word.Select (t0 ∷ s)) _ (λ p e1 b1 c1.
      let h1 = word-sound word.Select (t0 ∷ s) p e1 in
      let q1 = ends_of (After-word h1) in
      bind Q (mark_at mark.LeftBrace p.1) _ (λ z1 e2 b2 c2.
      let h2 = mark-sound mark.LeftBrace p.1 z1 e2 in
      let q2 = Ends-trans (q1) (to_ends (After-mark h2)) in
      bind Q ((row_at (rows s) z1.1).comm_clauses) _ (λ cs e3 b3 c3.
      let h3 = comm_clauses_of S n F s l H cs (q2) e3 in
      let q3 = Ends-trans (q2) (Ends-comm_clauses h3) in
      bind Q (mark_at mark.RightBrace cs.rest) _ (λ q e4 b4 c4.
      let h4 = mark-sound mark.RightBrace cs.rest q e4 in
      let q4 = Ends-trans (q3) (to_ends (After-mark h4)) in
      from_some Q c4 (g.IsStmt.select h1 h2 h3 h4)) b3 c3) b2 c2) b1 c1) f c0

  read_endless-sound : (t0 : Token) (f : Found Stmt) → read_endless s (row_at (rows s)) t0 ≡ Some f → stmt-at S (t0 ∷ s) f
  unfolding read_endless
  read_endless-sound t0 f c0 =
      let Q = stmt-at S (t0 ∷ s) in
      bind Q (word_at word.For (t0 ∷ s)) _ (λ p e1 b1 c1.
      let h1 = word-sound word.For (t0 ∷ s) p e1 in
      let q1 = ends_of (After-word h1) in
      bind Q (mark_at mark.LeftBrace p.1) _ (λ z1 e2 b2 c2.
      let h2 = mark-sound mark.LeftBrace p.1 z1 e2 in
      bind Q ((row_at (rows s) p.1).block) _ (λ b e3 b3 c3.
      let h3 = block_of S n F s l H b (q1) e3 in
      let q3 = Ends-trans (q1) (to_ends (After-block h3)) in
      from_some Q c3 (g.IsStmt.endless h1 h2 h3)) b2 c2) b1 c1) f c0

  read_range-sound : (t0 : Token) (f : Found Stmt) → read_range s (row_at (rows s)) t0 ≡ Some f → stmt-at S (t0 ∷ s) f
  unfolding read_range
  read_range-sound t0 f c0 =
      let Q = stmt-at S (t0 ∷ s) in
      bind Q (word_at word.For (t0 ∷ s)) _ (λ p e1 b1 c1.
      let h1 = word-sound word.For (t0 ∷ s) p e1 in
      let q1 = ends_of (After-word h1) in
      guard Q (is_none (mark_at mark.LeftBrace p.1)) _ (λ e2 b2 c2.
      let h2 = none-of _ e2 in
      bind Q ((row_at (rows s) p.1).range_left) _ (λ x e3 b3 c3.
      let h3 = range_left_of S n F s l H x (q1) e3 in
      let q3 = Ends-trans (q1) (to_ends (After-range_left h3)) in
      bind Q ((row_at (rows s) x.rest).expr 5 true false) _ (λ t e4 b4 c4.
      let h4 = expr_of S n F s l H 5 true false t (q3) e4 in
      let q4 = Ends-trans (q3) (to_ends (After-expr h4)) in
      bind Q ((row_at (rows s) t.rest).block) _ (λ b e5 b5 c5.
      let h5 = block_of S n F s l H b (q4) e5 in
      let q5 = Ends-trans (q4) (to_ends (After-block h5)) in
      from_some Q c5 (g.IsStmt.range h1 h2 h3 h4 h5)) b4 c4) b3 c3) b2 c2) b1 c1) f c0

  read_loop-sound : (t0 : Token) (f : Found Stmt) → read_loop s (row_at (rows s)) t0 ≡ Some f → stmt-at S (t0 ∷ s) f
  unfolding read_loop
  read_loop-sound t0 f c0 =
      let Q = stmt-at S (t0 ∷ s) in
      bind Q (word_at word.For (t0 ∷ s)) _ (λ p e1 b1 c1.
      let h1 = word-sound word.For (t0 ∷ s) p e1 in
      let q1 = ends_of (After-word h1) in
      guard Q (is_none (mark_at mark.LeftBrace p.1)) _ (λ e2 b2 c2.
      let h2 = none-of _ e2 in
      guard Q (is_none (row_at (rows s) p.1).range_left) _ (λ e3 b3 c3.
      let h3 = range_left_absent S n F s l H (q1) (none-of _ e3) in
      bind Q ((row_at (rows s) p.1).header) _ (λ i e4 b4 c4.
      let h4 = header_of S n F s l H i (q1) e4 in
      let q4 = Ends-trans (q1) (to_ends (After-header h4)) in
      bind Q ((row_at (rows s) i.rest).condition) _ (λ o e5 b5 c5.
      let h5 = condition_of S n F s l H o (q4) e5 in
      let q5 = Ends-trans (q4) (Ends-condition h5) in
      bind Q (front_at is_semi o.rest) _ (λ y e6 b6 c6.
      let h6 = front-sound is_semi o.rest y e6 in
      let q6 = Ends-trans (q5) (to_ends (After-front h6)) in
      bind Q ((row_at (rows s) y.1).post) _ (λ j e7 b7 c7.
      let h7 = post_of S n F s l H j (q6) e7 in
      let q7 = Ends-trans (q6) (Ends-post h7) in
      bind Q ((row_at (rows s) j.rest).block) _ (λ b e8 b8 c8.
      let h8 = block_of S n F s l H b (q7) e8 in
      let q8 = Ends-trans (q7) (to_ends (After-block h8)) in
      from_some Q c8 (g.IsStmt.loop h1 h2 h3 h4 h5 h6 h7 h8)) b7 c7) b6 c6) b5 c5) b4 c4) b3 c3) b2 c2) b1 c1) f c0

  read_while-sound : (t0 : Token) (f : Found Stmt) → read_while s (row_at (rows s)) t0 ≡ Some f → stmt-at S (t0 ∷ s) f
  unfolding read_while
  read_while-sound t0 f c0 =
      let Q = stmt-at S (t0 ∷ s) in
      bind Q (word_at word.For (t0 ∷ s)) _ (λ p e1 b1 c1.
      let h1 = word-sound word.For (t0 ∷ s) p e1 in
      let q1 = ends_of (After-word h1) in
      guard Q (is_none (mark_at mark.LeftBrace p.1)) _ (λ e2 b2 c2.
      let h2 = none-of _ e2 in
      guard Q (is_none (row_at (rows s) p.1).range_left) _ (λ e3 b3 c3.
      let h3 = range_left_absent S n F s l H (q1) (none-of _ e3) in
      guard Q (is_none (row_at (rows s) p.1).header) _ (λ e4 b4 c4.
      let h4 = header_absent S n F s l H (q1) (none-of _ e4) in
      bind Q ((row_at (rows s) p.1).expr 5 true false) _ (λ t e5 b5 c5.
      let h5 = expr_of S n F s l H 5 true false t (q1) e5 in
      let q5 = Ends-trans (q1) (to_ends (After-expr h5)) in
      bind Q ((row_at (rows s) t.rest).block) _ (λ b e6 b6 c6.
      let h6 = block_of S n F s l H b (q5) e6 in
      let q6 = Ends-trans (q5) (to_ends (After-block h6)) in
      from_some Q c6 (g.IsStmt.while h1 h2 h3 h4 h5 h6)) b5 c5) b4 c4) b3 c3) b2 c2) b1 c1) f c0

  pub stmt-sound : (x : Token) (f : Found Stmt) → stmt_step s (row_at (rows s)) x ≡ Some f → stmt-at S (x ∷ s) f
  unfolding stmt_step
  stmt-sound x f c = let Q = stmt-at S (x ∷ s) in either Q _ _ (read_simple_stmt-sound x) (λ b c1. either Q _ _ (read_declaration_stmt-sound x) (λ b c1. either Q _ _ (read_bare_label-sound x) (λ b c1. either Q _ _ (read_labeled-sound x) (λ b c1. either Q _ _ (read_go-sound x) (λ b c1. either Q _ _ (read_defer-sound x) (λ b c1. either Q _ _ (read_return-sound x) (λ b c1. either Q _ _ (read_break-sound x) (λ b c1. either Q _ _ (read_continue-sound x) (λ b c1. either Q _ _ (read_goto-sound x) (λ b c1. either Q _ _ (read_fallthrough-sound x) (λ b c1. either Q _ _ (read_block_stmt-sound x) (λ b c1. either Q _ _ (read_if_stmt-sound x) (λ b c1. either Q _ _ (read_header_type_switch-sound x) (λ b c1. either Q _ _ (read_type_switch-sound x) (λ b c1. either Q _ _ (read_header_switch-sound x) (λ b c1. either Q _ _ (read_switch-sound x) (λ b c1. either Q _ _ (read_select-sound x) (λ b c1. either Q _ _ (read_endless-sound x) (λ b c1. either Q _ _ (read_range-sound x) (λ b c1. either Q _ _ (read_loop-sound x) (read_while-sound x) b c1) b c1) b c1) b c1) b c1) b c1) b c1) b c1) b c1) b c1) b c1) b c1) b c1) b c1) b c1) b c1) b c1) b c1) b c1) b c1) f c

  read_last_stmt-sound : (t0 : Token) (f : Found (List Stmt)) → read_last_stmt s (row_at (rows s)) t0 ≡ Some f → stmts-at S (t0 ∷ s) f
  unfolding read_last_stmt
  read_last_stmt-sound t0 f c0 =
      let Q = stmts-at S (t0 ∷ s) in
      bind Q (stmt_step s (row_at (rows s)) t0) _ (λ t e1 b1 c1.
      let h1 = stmt-sound t0 t e1 in
      let q1 = ends_of (After-stmt h1) in
      bind Q (mark_at mark.RightBrace t.rest) _ (λ z1 e2 b2 c2.
      let h2 = mark-sound mark.RightBrace t.rest z1 e2 in
      from_some Q c2 (g.AreStmts.last_stmt h1 h2)) b1 c1) f c0

  read_more_stmts-sound : (t0 : Token) (f : Found (List Stmt)) → read_more_stmts s (row_at (rows s)) t0 ≡ Some f → stmts-at S (t0 ∷ s) f
  unfolding read_more_stmts
  read_more_stmts-sound t0 f c0 =
      let Q = stmts-at S (t0 ∷ s) in
      bind Q (stmt_step s (row_at (rows s)) t0) _ (λ t e1 b1 c1.
      let h1 = stmt-sound t0 t e1 in
      let q1 = ends_of (After-stmt h1) in
      bind Q (front_at is_semi t.rest) _ (λ x e2 b2 c2.
      let h2 = front-sound is_semi t.rest x e2 in
      let q2 = Ends-trans (q1) (to_ends (After-front h2)) in
      bind Q ((row_at (rows s) x.1).stmts) _ (λ ts e3 b3 c3.
      let h3 = stmts_of S n F s l H ts (q2) e3 in
      let q3 = Ends-trans (q2) (Ends-stmts h3) in
      from_some Q c3 (g.AreStmts.more_stmts h1 h2 h3)) b2 c2) b1 c1) f c0

  read_empty_stmt-sound : (t0 : Token) (f : Found (List Stmt)) → read_empty_stmt s (row_at (rows s)) t0 ≡ Some f → stmts-at S (t0 ∷ s) f
  unfolding read_empty_stmt
  read_empty_stmt-sound t0 f c0 =
      let Q = stmts-at S (t0 ∷ s) in
      bind Q (front_at is_semi (t0 ∷ s)) _ (λ x e1 b1 c1.
      let h1 = front-sound is_semi (t0 ∷ s) x e1 in
      let q1 = ends_of (After-front h1) in
      bind Q ((row_at (rows s) x.1).stmts) _ (λ ts e2 b2 c2.
      let h2 = stmts_of S n F s l H ts (q1) e2 in
      let q2 = Ends-trans (q1) (Ends-stmts h2) in
      from_some Q c2 (g.AreStmts.empty_stmt h1 h2)) b1 c1) f c0

  read_no_stmts-sound : (t0 : Token) (f : Found (List Stmt)) → read_no_stmts s (row_at (rows s)) t0 ≡ Some f → stmts-at S (t0 ∷ s) f
  unfolding read_no_stmts
  read_no_stmts-sound t0 f c0 =
      let Q = stmts-at S (t0 ∷ s) in
      bind Q (front_at is_list_end (t0 ∷ s)) _ (λ z0 e1 b1 c1.
      let h1 = front-sound is_list_end (t0 ∷ s) z0 e1 in
      from_some Q c1 (g.AreStmts.no_stmts h1)) f c0

  pub stmts-sound : (x : Token) (f : Found (List Stmt)) → stmts_step s (row_at (rows s)) x ≡ Some f → stmts-at S (x ∷ s) f
  unfolding stmts_step
  stmts-sound x f c = let Q = stmts-at S (x ∷ s) in either Q _ _ (read_last_stmt-sound x) (λ b c1. either Q _ _ (read_more_stmts-sound x) (λ b c1. either Q _ _ (read_empty_stmt-sound x) (read_no_stmts-sound x) b c1) b c1) f c

  read_plain_import-sound : (t0 : Token) (f : Found ImportSpec) → read_plain_import s (row_at (rows s)) t0 ≡ Some f → import_spec-at S (t0 ∷ s) f
  unfolding read_plain_import
  read_plain_import-sound t0 f c0 =
      let Q = import_spec-at S (t0 ∷ s) in
      bind Q (text_at (t0 ∷ s)) _ (λ x e1 b1 c1.
      let h1 = text-sound (t0 ∷ s) x e1 in
      let q1 = ends_of (After-text h1) in
      from_some Q c1 (g.IsImportSpec.plain_import h1)) f c0

  read_dot_import-sound : (t0 : Token) (f : Found ImportSpec) → read_dot_import s (row_at (rows s)) t0 ≡ Some f → import_spec-at S (t0 ∷ s) f
  unfolding read_dot_import
  read_dot_import-sound t0 f c0 =
      let Q = import_spec-at S (t0 ∷ s) in
      bind Q (mark_at mark.Dot (t0 ∷ s)) _ (λ p e1 b1 c1.
      let h1 = mark-sound mark.Dot (t0 ∷ s) p e1 in
      let q1 = ends_of (After-mark h1) in
      bind Q (text_at p.1) _ (λ x e2 b2 c2.
      let h2 = text-sound p.1 x e2 in
      let q2 = Ends-trans (q1) (to_ends (After-text h2)) in
      from_some Q c2 (g.IsImportSpec.dot_import h1 h2)) b1 c1) f c0

  read_named_import-sound : (t0 : Token) (f : Found ImportSpec) → read_named_import s (row_at (rows s)) t0 ≡ Some f → import_spec-at S (t0 ∷ s) f
  unfolding read_named_import
  read_named_import-sound t0 f c0 =
      let Q = import_spec-at S (t0 ∷ s) in
      bind Q (name_at (t0 ∷ s)) _ (λ x e1 b1 c1.
      let h1 = name-sound (t0 ∷ s) x e1 in
      let q1 = ends_of (After-name h1) in
      bind Q (text_at x.1) _ (λ y e2 b2 c2.
      let h2 = text-sound x.1 y e2 in
      let q2 = Ends-trans (q1) (to_ends (After-text h2)) in
      from_some Q c2 (g.IsImportSpec.named_import h1 h2)) b1 c1) f c0

  pub import_spec-sound : (x : Token) (f : Found ImportSpec) → import_spec_step s (row_at (rows s)) x ≡ Some f → import_spec-at S (x ∷ s) f
  unfolding import_spec_step
  import_spec-sound x f c = let Q = import_spec-at S (x ∷ s) in either Q _ _ (read_plain_import-sound x) (λ b c1. either Q _ _ (read_dot_import-sound x) (read_named_import-sound x) b c1) f c

  read_last_import-sound : (t0 : Token) (f : Found (List ImportSpec)) → read_last_import s (row_at (rows s)) t0 ≡ Some f → import_specs-at S (t0 ∷ s) f
  unfolding read_last_import
  read_last_import-sound t0 f c0 =
      let Q = import_specs-at S (t0 ∷ s) in
      bind Q (import_spec_step s (row_at (rows s)) t0) _ (λ c e1 b1 c1.
      let h1 = import_spec-sound t0 c e1 in
      let q1 = ends_of (After-import_spec h1) in
      bind Q (mark_at mark.RightParen c.rest) _ (λ z1 e2 b2 c2.
      let h2 = mark-sound mark.RightParen c.rest z1 e2 in
      from_some Q c2 (g.AreImportSpecs.last_import h1 h2)) b1 c1) f c0

  read_more_imports-sound : (t0 : Token) (f : Found (List ImportSpec)) → read_more_imports s (row_at (rows s)) t0 ≡ Some f → import_specs-at S (t0 ∷ s) f
  unfolding read_more_imports
  read_more_imports-sound t0 f c0 =
      let Q = import_specs-at S (t0 ∷ s) in
      bind Q (import_spec_step s (row_at (rows s)) t0) _ (λ c e1 b1 c1.
      let h1 = import_spec-sound t0 c e1 in
      let q1 = ends_of (After-import_spec h1) in
      bind Q (front_at is_semi c.rest) _ (λ x e2 b2 c2.
      let h2 = front-sound is_semi c.rest x e2 in
      let q2 = Ends-trans (q1) (to_ends (After-front h2)) in
      bind Q ((row_at (rows s) x.1).import_specs) _ (λ cs e3 b3 c3.
      let h3 = import_specs_of S n F s l H cs (q2) e3 in
      let q3 = Ends-trans (q2) (Ends-import_specs h3) in
      from_some Q c3 (g.AreImportSpecs.more_imports h1 h2 h3)) b2 c2) b1 c1) f c0

  read_no_imports-sound : (t0 : Token) (f : Found (List ImportSpec)) → read_no_imports s (row_at (rows s)) t0 ≡ Some f → import_specs-at S (t0 ∷ s) f
  unfolding read_no_imports
  read_no_imports-sound t0 f c0 =
      let Q = import_specs-at S (t0 ∷ s) in
      bind Q (mark_at mark.RightParen (t0 ∷ s)) _ (λ z0 e1 b1 c1.
      let h1 = mark-sound mark.RightParen (t0 ∷ s) z0 e1 in
      from_some Q c1 (g.AreImportSpecs.no_imports h1)) f c0

  pub import_specs-sound : (x : Token) (f : Found (List ImportSpec)) → import_specs_step s (row_at (rows s)) x ≡ Some f → import_specs-at S (x ∷ s) f
  unfolding import_specs_step
  import_specs-sound x f c = let Q = import_specs-at S (x ∷ s) in either Q _ _ (read_last_import-sound x) (λ b c1. either Q _ _ (read_more_imports-sound x) (read_no_imports-sound x) b c1) f c

  read_a_body-sound : (t0 : Token) (f : Found (Option Block)) → read_a_body s (row_at (rows s)) t0 ≡ Some f → body-at S (t0 ∷ s) f
  unfolding read_a_body
  read_a_body-sound t0 f c0 =
      let Q = body-at S (t0 ∷ s) in
      bind Q (block_step s (row_at (rows s)) t0) _ (λ b e1 b1 c1.
      let h1 = block-sound S n F s l H t0 b e1 in
      let q1 = ends_of (After-block h1) in
      from_some Q c1 (g.IsBody.a_body h1)) f c0

  read_no_body-sound : (t0 : Token) (f : Found (Option Block)) → read_no_body s (row_at (rows s)) t0 ≡ Some f → body-at S (t0 ∷ s) f
  unfolding read_no_body
  read_no_body-sound t0 f c0 =
      let Q = body-at S (t0 ∷ s) in
      bind Q (front_at is_semi (t0 ∷ s)) _ (λ z0 e1 b1 c1.
      let h1 = front-sound is_semi (t0 ∷ s) z0 e1 in
      from_some Q c1 (g.IsBody.no_body h1)) f c0

  pub body-sound : (x : Token) (f : Found (Option Block)) → body_step s (row_at (rows s)) x ≡ Some f → body-at S (x ∷ s) f
  unfolding body_step
  body-sound x f c = let Q = body-at S (x ∷ s) in either Q _ _ (read_a_body-sound x) (read_no_body-sound x) f c

  read_declaration-sound : (t0 : Token) (f : Found Top) → read_declaration s (row_at (rows s)) t0 ≡ Some f → top-at S (t0 ∷ s) f
  unfolding read_declaration
  read_declaration-sound t0 f c0 =
      let Q = top-at S (t0 ∷ s) in
      bind Q (front_at is_decl_start (t0 ∷ s)) _ (λ z0 e1 b1 c1.
      let h1 = front-sound is_decl_start (t0 ∷ s) z0 e1 in
      bind Q (decl_step s (row_at (rows s)) t0) _ (λ x e2 b2 c2.
      let h2 = decl-sound S n F s l H t0 x e2 in
      let q2 = ends_of (After-decl h2) in
      from_some Q c2 (g.IsTop.declaration h1 h2)) b1 c1) f c0

  read_function-sound : (t0 : Token) (f : Found Top) → read_function s (row_at (rows s)) t0 ≡ Some f → top-at S (t0 ∷ s) f
  unfolding read_function
  read_function-sound t0 f c0 =
      let Q = top-at S (t0 ∷ s) in
      bind Q (word_at word.Func (t0 ∷ s)) _ (λ p e1 b1 c1.
      let h1 = word-sound word.Func (t0 ∷ s) p e1 in
      let q1 = ends_of (After-word h1) in
      bind Q (name_at p.1) _ (λ x e2 b2 c2.
      let h2 = name-sound p.1 x e2 in
      let q2 = Ends-trans (q1) (to_ends (After-name h2)) in
      bind Q ((row_at (rows s) x.1).signature) _ (λ z e3 b3 c3.
      let h3 = signature_of S n F s l H z (q2) e3 in
      let q3 = Ends-trans (q2) (to_ends (After-signature h3)) in
      bind Q ((row_at (rows s) z.rest).body) _ (λ o e4 b4 c4.
      let h4 = body_of S n F s l H o (q3) e4 in
      let q4 = Ends-trans (q3) (Ends-body h4) in
      from_some Q c4 (g.IsTop.function h1 h2 h3 h4)) b3 c3) b2 c2) b1 c1) f c0

  read_method_decl-sound : (t0 : Token) (f : Found Top) → read_method_decl s (row_at (rows s)) t0 ≡ Some f → top-at S (t0 ∷ s) f
  unfolding read_method_decl
  read_method_decl-sound t0 f c0 =
      let Q = top-at S (t0 ∷ s) in
      bind Q (word_at word.Func (t0 ∷ s)) _ (λ p e1 b1 c1.
      let h1 = word-sound word.Func (t0 ∷ s) p e1 in
      let q1 = ends_of (After-word h1) in
      bind Q (mark_at mark.LeftParen p.1) _ (λ z1 e2 b2 c2.
      let h2 = mark-sound mark.LeftParen p.1 z1 e2 in
      bind Q ((row_at (rows s) p.1).params false) _ (λ ps e3 b3 c3.
      let h3 = params_of S n F s l H false ps (q1) e3 in
      let q3 = Ends-trans (q1) (to_ends (After-params h3)) in
      guard Q (is_receiver ps.tree) _ (λ e4 b4 c4.
      let h4 = e4 in
      bind Q (name_at ps.rest) _ (λ x e5 b5 c5.
      let h5 = name-sound ps.rest x e5 in
      let q5 = Ends-trans (q3) (to_ends (After-name h5)) in
      bind Q ((row_at (rows s) x.1).signature) _ (λ z e6 b6 c6.
      let h6 = signature_of S n F s l H z (q5) e6 in
      let q6 = Ends-trans (q5) (to_ends (After-signature h6)) in
      bind Q ((row_at (rows s) z.rest).body) _ (λ o e7 b7 c7.
      let h7 = body_of S n F s l H o (q6) e7 in
      let q7 = Ends-trans (q6) (Ends-body h7) in
      from_some Q c7 (g.IsTop.method_decl h1 h2 h3 h4 h5 h6 h7)) b6 c6) b5 c5) b4 c4) b3 c3) b2 c2) b1 c1) f c0

  pub top-sound : (x : Token) (f : Found Top) → top_step s (row_at (rows s)) x ≡ Some f → top-at S (x ∷ s) f
  unfolding top_step
  top-sound x f c = let Q = top-at S (x ∷ s) in either Q _ _ (read_declaration-sound x) (λ b c1. either Q _ _ (read_function-sound x) (read_method_decl-sound x) b c1) f c

  read_top_chunk-sound : (t0 : Token) (f : Found Chunk) → read_top_chunk s (row_at (rows s)) t0 ≡ Some f → chunk-at S (t0 ∷ s) f
  unfolding read_top_chunk
  read_top_chunk-sound t0 f c0 =
      let Q = chunk-at S (t0 ∷ s) in
      bind Q (top_step s (row_at (rows s)) t0) _ (λ t e1 b1 c1.
      let h1 = top-sound t0 t e1 in
      let q1 = ends_of (After-top h1) in
      bind Q (front_at is_semi t.rest) _ (λ y e2 b2 c2.
      let h2 = front-sound is_semi t.rest y e2 in
      let q2 = Ends-trans (q1) (to_ends (After-front h2)) in
      from_some Q c2 (g.IsChunk.top_chunk h1 h2)) b1 c1) f c0

  read_package_clause-sound : (t0 : Token) (f : Found Chunk) → read_package_clause s (row_at (rows s)) t0 ≡ Some f → chunk-at S (t0 ∷ s) f
  unfolding read_package_clause
  read_package_clause-sound t0 f c0 =
      let Q = chunk-at S (t0 ∷ s) in
      bind Q (word_at word.Package (t0 ∷ s)) _ (λ p e1 b1 c1.
      let h1 = word-sound word.Package (t0 ∷ s) p e1 in
      let q1 = ends_of (After-word h1) in
      bind Q (name_at p.1) _ (λ x e2 b2 c2.
      let h2 = name-sound p.1 x e2 in
      let q2 = Ends-trans (q1) (to_ends (After-name h2)) in
      bind Q (front_at is_semi x.1) _ (λ y e3 b3 c3.
      let h3 = front-sound is_semi x.1 y e3 in
      let q3 = Ends-trans (q2) (to_ends (After-front h3)) in
      from_some Q c3 (g.IsChunk.package_clause h1 h2 h3)) b2 c2) b1 c1) f c0

  read_import_decl-sound : (t0 : Token) (f : Found Chunk) → read_import_decl s (row_at (rows s)) t0 ≡ Some f → chunk-at S (t0 ∷ s) f
  unfolding read_import_decl
  read_import_decl-sound t0 f c0 =
      let Q = chunk-at S (t0 ∷ s) in
      bind Q (word_at word.Import (t0 ∷ s)) _ (λ p e1 b1 c1.
      let h1 = word-sound word.Import (t0 ∷ s) p e1 in
      let q1 = ends_of (After-word h1) in
      guard Q (is_none (mark_at mark.LeftParen p.1)) _ (λ e2 b2 c2.
      let h2 = none-of _ e2 in
      bind Q ((row_at (rows s) p.1).import_spec) _ (λ i e3 b3 c3.
      let h3 = import_spec_of S n F s l H i (q1) e3 in
      let q3 = Ends-trans (q1) (to_ends (After-import_spec h3)) in
      bind Q (front_at is_semi i.rest) _ (λ y e4 b4 c4.
      let h4 = front-sound is_semi i.rest y e4 in
      let q4 = Ends-trans (q3) (to_ends (After-front h4)) in
      from_some Q c4 (g.IsChunk.import_decl h1 h2 h3 h4)) b3 c3) b2 c2) b1 c1) f c0

  read_import_group-sound : (t0 : Token) (f : Found Chunk) → read_import_group s (row_at (rows s)) t0 ≡ Some f → chunk-at S (t0 ∷ s) f
  unfolding read_import_group
  read_import_group-sound t0 f c0 =
      let Q = chunk-at S (t0 ∷ s) in
      bind Q (word_at word.Import (t0 ∷ s)) _ (λ p e1 b1 c1.
      let h1 = word-sound word.Import (t0 ∷ s) p e1 in
      let q1 = ends_of (After-word h1) in
      bind Q (mark_at mark.LeftParen p.1) _ (λ z1 e2 b2 c2.
      let h2 = mark-sound mark.LeftParen p.1 z1 e2 in
      let q2 = Ends-trans (q1) (to_ends (After-mark h2)) in
      bind Q ((row_at (rows s) z1.1).import_specs) _ (λ cs e3 b3 c3.
      let h3 = import_specs_of S n F s l H cs (q2) e3 in
      let q3 = Ends-trans (q2) (Ends-import_specs h3) in
      bind Q (mark_at mark.RightParen cs.rest) _ (λ z3 e4 b4 c4.
      let h4 = mark-sound mark.RightParen cs.rest z3 e4 in
      let q4 = Ends-trans (q3) (to_ends (After-mark h4)) in
      bind Q (front_at is_semi z3.1) _ (λ y e5 b5 c5.
      let h5 = front-sound is_semi z3.1 y e5 in
      let q5 = Ends-trans (q4) (to_ends (After-front h5)) in
      from_some Q c5 (g.IsChunk.import_group h1 h2 h3 h4 h5)) b4 c4) b3 c3) b2 c2) b1 c1) f c0

  pub chunk-sound : (x : Token) (f : Found Chunk) → chunk_step s (row_at (rows s)) x ≡ Some f → chunk-at S (x ∷ s) f
  unfolding chunk_step
  chunk-sound x f c = let Q = chunk-at S (x ∷ s) in either Q _ _ (read_top_chunk-sound x) (λ b c1. either Q _ _ (read_package_clause-sound x) (λ b c1. either Q _ _ (read_import_decl-sound x) (read_import_group-sound x) b c1) b c1) f c
