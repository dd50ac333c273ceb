-- What the grammar gives, the rows have.
use Rattle.std.proofs.Common.{◌≡◌, ℕ, suc, ◌≤◌, true, false, List, ◌∷◌, length, refl, Option, Some}
use Rattle.gs_syntax.specs.declared.token.Token.{Token}
use Rattle.gs_syntax.specs.declared.token.Operator.TheVariants as mark
use Rattle.gs_grammar.specs.declared.trees.Chunk.{Chunk}
use Rattle.gs_grammar.specs.declared.trees.ImportSpec.{ImportSpec}
use Rattle.gs_grammar.specs.declared.trees.Top.{Top}
use Rattle.gs_grammar.specs.declared.trees.Expr.{Expr}
use Rattle.gs_grammar.specs.declared.trees.Block.{Block}
use Rattle.gs_grammar.specs.declared.trees.Stmt.{Stmt}
use Rattle.gs_grammar.specs.declared.trees.Simple.{Simple}
use Rattle.gs_grammar.specs.declared.trees.RangeLeft.{RangeLeft}
use Rattle.gs_grammar.specs.Grammar as g
use Rattle.gs_grammar.specs.Front.{IsMark, IsWord, IsName, IsText, IsFront, mark_at, word_at, name_at, text_at, front_at, label_at, is_decl_start, is_list_end, is_semi}
use Rattle.gs_grammar.specs.Parts.{found}
use Rattle.gs_grammar.specs.Reference.{row_at, rows, condition_step, post_step, range_left_step, stmt_step, stmts_step, import_spec_step, import_specs_step, body_step, top_step, chunk_step, read_a_condition, read_no_condition, read_a_post, read_no_post, read_range_assign, read_range_define, read_no_range_left, read_simple_stmt, read_declaration_stmt, read_bare_label, read_labeled, read_go, read_defer, read_return, read_break, read_continue, read_goto, read_fallthrough, read_block_stmt, read_if_stmt, read_header_type_switch, read_type_switch, read_header_switch, read_switch, read_select, read_endless, read_range, read_loop, read_while, read_last_stmt, read_more_stmts, read_empty_stmt, read_no_stmts, read_plain_import, read_dot_import, read_named_import, read_last_import, read_more_imports, read_no_imports, read_a_body, read_no_body, read_declaration, read_function, read_method_decl, read_top_chunk, read_package_clause, read_import_decl, read_import_group}
use Rattle.gs_grammar.proofs.Common.{here, Ends-trans, to_ends, ends_of, mark-exact, word-exact, name-exact, text-exact, front-exact, mark-other, mark-no-name, front-no-mark, front-no-name, front-no-front, front-of, After-mark, After-name, After-front}
use Rattle.gs_grammar.proofs.Afters.{After-params, After-signature, After-expr, Ends-tag_value, After-guard, After-header, Ends-condition, Ends-post, After-range_left, After-stmt, After-import_spec}
use Rattle.gs_grammar.proofs.Fits.{Fits, AllSound, AllExact}
use Rattle.gs_grammar.proofs.LaterExact.{params_at, signature_at, block_at, expr_at, values_at, target_at, arms_at, tag_value_at, guard_at, clauses_at, type_clauses_at, comm_clauses_at, header_at, condition_at, post_at, range_left_at, stmt_at, stmts_at, import_spec_at, import_specs_at, body_at, guard_lacking, header_lacking, range_left_lacking}
use Rattle.gs_grammar.proofs.Nones.{decl_start-not-name, list_end-not-semi, none-block-semi, none-expr-5-true-false-semi, none-exprs-true-word_Range, none-import_spec-mark_RightParen, none-simple-false-decl_start, none-simple-false-mark_LeftBrace, none-simple-false-word_Break, none-simple-false-word_Continue, none-simple-false-word_Defer, none-simple-false-word_Fallthrough, none-simple-false-word_For, none-simple-false-word_Go, none-simple-false-word_Goto, none-simple-false-word_If, none-simple-false-word_Return, none-simple-false-word_Select, none-simple-false-word_Switch, none-simple-true-mark_LeftBrace, none-stmt-list_end, none-stmt-semi, none-top-word_Import, none-top-word_Package}
use Rattle.gs_grammar.proofs.ExactTwo.{block-exact, expr-exact}
use Rattle.gs_grammar.proofs.ExactThree.{exprs-exact}
use Rattle.gs_grammar.proofs.ExactFour.{simple-exact, decl-exact}

module _ (S : g.Part → List Token → List Token → Type 0) (n : ℕ) (F : Fits S n) (s : List Token) (l : suc (length s) ≤ n) (H : AllSound S n s) (X : AllExact S n s) where
  pub condition-exact : {t0 : Token} {t : Option Expr} {r : List Token} {d : ℕ} → g.IsCondition S t (t0 ∷ s) r d → condition_step s (row_at (rows s)) t0 ≡ Some (found t r d)
  unfolding condition_step read_a_condition read_no_condition mark_at word_at name_at text_at front_at
  condition-exact (g.IsCondition.a_condition h1) = simp (expr-exact S n F s l H X h1)
  condition-exact (g.IsCondition.no_condition (IsFront.a_front {k = k_} {p = p_} e_)) = simp (e_, none-expr-5-true-false-semi s (row_at (rows s)) 5 true false k_ p_ e_)

  pub post-exact : {t0 : Token} {t : Simple} {r : List Token} {d : ℕ} → g.IsPost S t (t0 ∷ s) r d → post_step s (row_at (rows s)) t0 ≡ Some (found t r d)
  unfolding post_step read_a_post read_no_post mark_at word_at name_at text_at front_at
  post-exact (g.IsPost.a_post h1 h2) = simp (simple-exact S n F s l H X h1, h2)
  post-exact (g.IsPost.no_post (IsMark.a_mark {p = p_})) = simp (none-simple-true-mark_LeftBrace s (row_at (rows s)) true p_)

  pub range_left-exact : {t0 : Token} {t : RangeLeft} {r : List Token} {d : ℕ} → g.IsRangeLeft S t (t0 ∷ s) r d → range_left_step s (row_at (rows s)) t0 ≡ Some (found t r d)
  unfolding range_left_step read_range_assign read_range_define read_no_range_left mark_at word_at name_at text_at front_at
  range_left-exact (g.IsRangeLeft.range_assign h1 h2 h3) = simp (exprs-exact S n F s l H X h1, mark-exact h2, word-exact h3)
  range_left-exact (g.IsRangeLeft.range_define h1 h2 h3) = simp (exprs-exact S n F s l H X h1, mark-exact h2, mark-other mark.Assign refl h2, word-exact h3)
  range_left-exact (g.IsRangeLeft.no_range_left (IsWord.a_word {p = p_})) = simp (none-exprs-true-word_Range s (row_at (rows s)) true p_)

  pub stmt-exact : {t0 : Token} {t : Stmt} {r : List Token} {d : ℕ} → g.IsStmt S t (t0 ∷ s) r d → stmt_step s (row_at (rows s)) t0 ≡ Some (found t r d)
  unfolding stmt_step read_simple_stmt read_declaration_stmt read_bare_label read_labeled read_go read_defer read_return read_break read_continue read_goto read_fallthrough read_block_stmt read_if_stmt read_header_type_switch read_type_switch read_header_switch read_switch read_select read_endless read_range read_loop read_while mark_at word_at name_at text_at front_at label_at
  stmt-exact (g.IsStmt.simple_stmt h1 h2) = simp (h1, simple-exact S n F s l H X h2)
  stmt-exact (g.IsStmt.declaration_stmt (IsFront.a_front {k = k_} {p = p_} e_) h2) = simp (e_, front-no-name decl_start-not-name (front-of is_decl_start {k = k_} {p = p_} {r = s} e_), front-no-mark mark.Colon refl (front-of is_decl_start {k = k_} {p = p_} {r = s} e_), decl-exact S n F s l H X h2, none-simple-false-decl_start s (row_at (rows s)) false k_ p_ e_)
  stmt-exact (g.IsStmt.bare_label (IsName.a_name {a = a_} {p = p_}) h2 h3) = simp (mark-exact h2, front-exact h3)
  stmt-exact (g.IsStmt.labeled (IsName.a_name {a = a_} {p = p_}) h2 h3 h4) = simp (mark-exact h2, h3, stmt_at S n F s l H X (Ends-trans (here) (to_ends (After-mark h2))) h4)
  stmt-exact (g.IsStmt.go (IsWord.a_word {p = p_}) h2) = simp (expr_at S n F s l H X (here) h2, none-simple-false-word_Go s (row_at (rows s)) false p_)
  stmt-exact (g.IsStmt.defer (IsWord.a_word {p = p_}) h2) = simp (expr_at S n F s l H X (here) h2, none-simple-false-word_Defer s (row_at (rows s)) false p_)
  stmt-exact (g.IsStmt.return (IsWord.a_word {p = p_}) h2) = simp (values_at S n F s l H X (here) h2, none-simple-false-word_Return s (row_at (rows s)) false p_)
  stmt-exact (g.IsStmt.break (IsWord.a_word {p = p_}) h2) = simp (target_at S n F s l H X (here) h2, none-simple-false-word_Break s (row_at (rows s)) false p_)
  stmt-exact (g.IsStmt.continue (IsWord.a_word {p = p_}) h2) = simp (target_at S n F s l H X (here) h2, none-simple-false-word_Continue s (row_at (rows s)) false p_)
  stmt-exact (g.IsStmt.goto (IsWord.a_word {p = p_}) h2) = simp (name-exact h2, none-simple-false-word_Goto s (row_at (rows s)) false p_)
  stmt-exact (g.IsStmt.fallthrough (IsWord.a_word {p = p_})) = simp (none-simple-false-word_Fallthrough s (row_at (rows s)) false p_)
  stmt-exact (g.IsStmt.block_stmt (IsMark.a_mark {p = p_}) h2 h3) = simp (stmts_at S n F s l H X (here) h2, mark-exact h3, none-simple-false-mark_LeftBrace s (row_at (rows s)) false p_)
  stmt-exact (g.IsStmt.if_stmt (IsWord.a_word {p = p_}) h2) = simp (arms_at S n F s l H X (here) h2, none-simple-false-word_If s (row_at (rows s)) false p_)
  stmt-exact (g.IsStmt.header_type_switch (IsWord.a_word {p = p_}) h2 h3 h4 h5 h6) = simp (header_at S n F s l H X (here) h2, guard_at S n F s l H X (Ends-trans (here) (to_ends (After-header h2))) h3, mark-exact h4, type_clauses_at S n F s l H X (Ends-trans (Ends-trans (Ends-trans (here) (to_ends (After-header h2))) (to_ends (After-guard h3))) (to_ends (After-mark h4))) h5, mark-exact h6, none-simple-false-word_Switch s (row_at (rows s)) false p_)
  stmt-exact (g.IsStmt.type_switch (IsWord.a_word {p = p_}) h2 h3 h4 h5 h6) = simp (header_lacking S n F s l H X (here) h2, guard_at S n F s l H X (here) h3, mark-exact h4, type_clauses_at S n F s l H X (Ends-trans (Ends-trans (here) (to_ends (After-guard h3))) (to_ends (After-mark h4))) h5, mark-exact h6, none-simple-false-word_Switch s (row_at (rows s)) false p_)
  stmt-exact (g.IsStmt.header_switch (IsWord.a_word {p = p_}) h2 h3 h4 h5 h6 h7) = simp (header_at S n F s l H X (here) h2, guard_lacking S n F s l H X (Ends-trans (here) (to_ends (After-header h2))) h3, tag_value_at S n F s l H X (Ends-trans (here) (to_ends (After-header h2))) h4, mark-exact h5, clauses_at S n F s l H X (Ends-trans (Ends-trans (Ends-trans (here) (to_ends (After-header h2))) (Ends-tag_value h4)) (to_ends (After-mark h5))) h6, mark-exact h7, none-simple-false-word_Switch s (row_at (rows s)) false p_)
  stmt-exact (g.IsStmt.switch (IsWord.a_word {p = p_}) h2 h3 h4 h5 h6 h7) = simp (header_lacking S n F s l H X (here) h2, guard_lacking S n F s l H X (here) h3, tag_value_at S n F s l H X (here) h4, mark-exact h5, clauses_at S n F s l H X (Ends-trans (Ends-trans (here) (Ends-tag_value h4)) (to_ends (After-mark h5))) h6, mark-exact h7, none-simple-false-word_Switch s (row_at (rows s)) false p_)
  stmt-exact (g.IsStmt.select (IsWord.a_word {p = p_}) h2 h3 h4) = simp (mark-exact h2, comm_clauses_at S n F s l H X (Ends-trans (here) (to_ends (After-mark h2))) h3, mark-exact h4, none-simple-false-word_Select s (row_at (rows s)) false p_)
  stmt-exact (g.IsStmt.endless (IsWord.a_word {p = p_}) h2 h3) = simp (mark-exact h2, block_at S n F s l H X (here) h3, none-simple-false-word_For s (row_at (rows s)) false p_)
  stmt-exact (g.IsStmt.range (IsWord.a_word {p = p_}) h2 h3 h4 h5) = simp (h2, range_left_at S n F s l H X (here) h3, expr_at S n F s l H X (Ends-trans (here) (to_ends (After-range_left h3))) h4, block_at S n F s l H X (Ends-trans (Ends-trans (here) (to_ends (After-range_left h3))) (to_ends (After-expr h4))) h5, none-simple-false-word_For s (row_at (rows s)) false p_)
  stmt-exact (g.IsStmt.loop (IsWord.a_word {p = p_}) h2 h3 h4 h5 h6 h7 h8) = simp (h2, range_left_lacking S n F s l H X (here) h3, header_at S n F s l H X (here) h4, condition_at S n F s l H X (Ends-trans (here) (to_ends (After-header h4))) h5, front-exact h6, post_at S n F s l H X (Ends-trans (Ends-trans (Ends-trans (here) (to_ends (After-header h4))) (Ends-condition h5)) (to_ends (After-front h6))) h7, block_at S n F s l H X (Ends-trans (Ends-trans (Ends-trans (Ends-trans (here) (to_ends (After-header h4))) (Ends-condition h5)) (to_ends (After-front h6))) (Ends-post h7)) h8, none-simple-false-word_For s (row_at (rows s)) false p_)
  stmt-exact (g.IsStmt.while (IsWord.a_word {p = p_}) h2 h3 h4 h5 h6) = simp (h2, range_left_lacking S n F s l H X (here) h3, header_lacking S n F s l H X (here) h4, expr_at S n F s l H X (here) h5, block_at S n F s l H X (Ends-trans (here) (to_ends (After-expr h5))) h6, none-simple-false-word_For s (row_at (rows s)) false p_)

  pub stmts-exact : {t0 : Token} {t : List Stmt} {r : List Token} {d : ℕ} → g.AreStmts S t (t0 ∷ s) r d → stmts_step s (row_at (rows s)) t0 ≡ Some (found t r d)
  unfolding stmts_step read_last_stmt read_more_stmts read_empty_stmt read_no_stmts mark_at word_at name_at text_at front_at
  stmts-exact (g.AreStmts.last_stmt h1 h2) = simp (stmt-exact h1, mark-exact h2)
  stmts-exact (g.AreStmts.more_stmts h1 h2 h3) = simp (stmt-exact h1, front-exact h2, front-no-mark mark.RightBrace refl h2, stmts_at S n F s l H X (Ends-trans (ends_of (After-stmt h1)) (to_ends (After-front h2))) h3)
  stmts-exact (g.AreStmts.empty_stmt (IsFront.a_front {k = k_} {p = p_} e_) h2) = simp (e_, front-no-mark mark.RightBrace refl (front-of is_semi {k = k_} {p = p_} {r = s} e_), stmts_at S n F s l H X (here) h2, none-stmt-semi s (row_at (rows s)) k_ p_ e_)
  stmts-exact (g.AreStmts.no_stmts (IsFront.a_front {k = k_} {p = p_} e_)) = simp (e_, front-no-front is_semi list_end-not-semi (front-of is_list_end {k = k_} {p = p_} {r = s} e_), none-stmt-list_end s (row_at (rows s)) k_ p_ e_)

  pub import_spec-exact : {t0 : Token} {t : ImportSpec} {r : List Token} {d : ℕ} → g.IsImportSpec S t (t0 ∷ s) r d → import_spec_step s (row_at (rows s)) t0 ≡ Some (found t r d)
  unfolding import_spec_step read_plain_import read_dot_import read_named_import mark_at word_at name_at text_at front_at
  import_spec-exact (g.IsImportSpec.plain_import (IsText.a_text {v = a_} {p = p_})) = refl
  import_spec-exact (g.IsImportSpec.dot_import (IsMark.a_mark {p = p_}) h2) = simp (text-exact h2)
  import_spec-exact (g.IsImportSpec.named_import (IsName.a_name {a = a_} {p = p_}) h2) = simp (text-exact h2)

  pub import_specs-exact : {t0 : Token} {t : List ImportSpec} {r : List Token} {d : ℕ} → g.AreImportSpecs S t (t0 ∷ s) r d → import_specs_step s (row_at (rows s)) t0 ≡ Some (found t r d)
  unfolding import_specs_step read_last_import read_more_imports read_no_imports mark_at word_at name_at text_at front_at
  import_specs-exact (g.AreImportSpecs.last_import h1 h2) = simp (import_spec-exact h1, mark-exact h2)
  import_specs-exact (g.AreImportSpecs.more_imports h1 h2 h3) = simp (import_spec-exact h1, front-exact h2, front-no-mark mark.RightParen refl h2, import_specs_at S n F s l H X (Ends-trans (ends_of (After-import_spec h1)) (to_ends (After-front h2))) h3)
  import_specs-exact (g.AreImportSpecs.no_imports (IsMark.a_mark {p = p_})) = simp (none-import_spec-mark_RightParen s (row_at (rows s)) p_)

  pub body-exact : {t0 : Token} {t : Option Block} {r : List Token} {d : ℕ} → g.IsBody S t (t0 ∷ s) r d → body_step s (row_at (rows s)) t0 ≡ Some (found t r d)
  unfolding body_step read_a_body read_no_body mark_at word_at name_at text_at front_at
  body-exact (g.IsBody.a_body h1) = simp (block-exact S n F s l H X h1)
  body-exact (g.IsBody.no_body (IsFront.a_front {k = k_} {p = p_} e_)) = simp (e_, none-block-semi s (row_at (rows s)) k_ p_ e_)

  pub top-exact : {t0 : Token} {t : Top} {r : List Token} {d : ℕ} → g.IsTop S t (t0 ∷ s) r d → top_step s (row_at (rows s)) t0 ≡ Some (found t r d)
  unfolding top_step read_declaration read_function read_method_decl mark_at word_at name_at text_at front_at
  top-exact (g.IsTop.declaration (IsFront.a_front {k = k_} {p = p_} e_) h2) = simp (e_, decl-exact S n F s l H X h2)
  top-exact (g.IsTop.function (IsWord.a_word {p = p_}) h2 h3 h4) = simp (name-exact h2, signature_at S n F s l H X (Ends-trans (here) (to_ends (After-name h2))) h3, body_at S n F s l H X (Ends-trans (Ends-trans (here) (to_ends (After-name h2))) (to_ends (After-signature h3))) h4)
  top-exact (g.IsTop.method_decl (IsWord.a_word {p = p_}) h2 h3 h4 h5 h6 h7) = simp (mark-exact h2, mark-no-name h2, params_at S n F s l H X (here) h3, h4, name-exact h5, signature_at S n F s l H X (Ends-trans (Ends-trans (here) (to_ends (After-params h3))) (to_ends (After-name h5))) h6, body_at S n F s l H X (Ends-trans (Ends-trans (Ends-trans (here) (to_ends (After-params h3))) (to_ends (After-name h5))) (to_ends (After-signature h6))) h7)

  pub chunk-exact : {t0 : Token} {t : Chunk} {r : List Token} {d : ℕ} → g.IsChunk S t (t0 ∷ s) r d → chunk_step s (row_at (rows s)) t0 ≡ Some (found t r d)
  unfolding chunk_step read_top_chunk read_package_clause read_import_decl read_import_group mark_at word_at name_at text_at front_at
  chunk-exact (g.IsChunk.top_chunk h1 h2) = simp (top-exact h1, front-exact h2)
  chunk-exact (g.IsChunk.package_clause (IsWord.a_word {p = p_}) h2 h3) = simp (name-exact h2, front-exact h3, none-top-word_Package s (row_at (rows s)) p_)
  chunk-exact (g.IsChunk.import_decl (IsWord.a_word {p = p_}) h2 h3 h4) = simp (h2, import_spec_at S n F s l H X (here) h3, front-exact h4, none-top-word_Import s (row_at (rows s)) p_)
  chunk-exact (g.IsChunk.import_group (IsWord.a_word {p = p_}) h2 h3 h4 h5) = simp (mark-exact h2, import_specs_at S n F s l H X (Ends-trans (here) (to_ends (After-mark h2))) h3, mark-exact h4, front-exact h5, none-top-word_Import s (row_at (rows s)) p_)
