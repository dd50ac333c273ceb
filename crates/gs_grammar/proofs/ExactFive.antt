-- What the grammar gives, the rows have.
use Rattle.std.proofs.Common.{◌≡◌, ℕ, suc, ◌≤◌, true, false, List, ◌∷◌, length, refl, Option, Some}
use Rattle.gs_syntax.specs.declared.token.Span.{Span}
use Rattle.gs_syntax.specs.declared.token.Token.{Token}
use Rattle.gs_syntax.specs.declared.token.Operator.TheVariants as mark
use Rattle.gs_grammar.specs.declared.trees.TypeExpr.{TypeExpr}
use Rattle.gs_grammar.specs.declared.trees.Expr.{Expr}
use Rattle.gs_grammar.specs.declared.trees.Block.{Block}
use Rattle.gs_grammar.specs.declared.trees.Simple.{Simple}
use Rattle.gs_grammar.specs.declared.trees.Arm.{Arm}
use Rattle.gs_grammar.specs.declared.trees.Clause.{Clause}
use Rattle.gs_grammar.specs.declared.trees.TypeClause.{TypeClause}
use Rattle.gs_grammar.specs.declared.trees.CommClause.{CommClause}
use Rattle.gs_grammar.specs.declared.trees.Comm.{Comm}
use Rattle.gs_grammar.specs.Grammar as g
use Rattle.gs_grammar.specs.Front.{IsMark, IsWord, IsName, IsFront, mark_at, word_at, name_at, text_at, front_at, defined_at, is_goes_on, is_semi}
use Rattle.gs_grammar.specs.Parts.{found}
use Rattle.gs_grammar.specs.Reference.{row_at, rows, arms_step, arm_step, tag_value_step, guard_step, clauses_step, types_step, type_clauses_step, comm_step, comm_clauses_step, header_step, read_last_arm, read_more_arms, read_last_block, read_header_arm, read_bare_arm, read_empty_arm, read_a_tag_value, read_no_tag_value, read_plain_guard, read_named_guard, read_a_case, read_a_default, read_no_clauses, read_one_type, read_more_cases, read_a_type_case, read_a_type_default, read_no_type_clauses, read_comm_assign, read_comm_define, read_comm_send, read_comm_receive, read_a_comm, read_a_comm_default, read_no_comms, read_init_header, read_no_header}
use Rattle.gs_grammar.proofs.Common.{here, Ends-trans, to_ends, ends_of, mark-exact, word-exact, front-exact, mark-other, mark-no-front, front-no-mark, front-of, After-mark, After-word, After-front}
use Rattle.gs_grammar.proofs.Afters.{After-type, After-expr, After-exprs, After-simple, After-arm, After-types, After-comm, Ends-stmts}
use Rattle.gs_grammar.proofs.Fits.{Fits, AllSound, AllExact}
use Rattle.gs_grammar.proofs.LaterExact.{block_at, primary_at, expr_at, exprs_at, arms_at, clauses_at, types_at, type_clauses_at, comm_at, comm_clauses_at, stmts_at}
use Rattle.gs_grammar.proofs.Nones.{none-expr-5-true-false-mark_LeftBrace, none-expr-5-true-false-semi, none-simple-true-semi}
use Rattle.gs_grammar.proofs.ExactOne.{type-exact}
use Rattle.gs_grammar.proofs.ExactTwo.{primary-exact, expr-exact}
use Rattle.gs_grammar.proofs.ExactThree.{exprs-exact}
use Rattle.gs_grammar.proofs.ExactFour.{simple-exact}

module _ (S : g.Part → List Token → List Token → Type 0) (n : ℕ) (F : Fits S n) (s : List Token) (l : suc (length s) ≤ n) (H : AllSound S n s) (X : AllExact S n s) where
  pub arm-exact : {t0 : Token} {t : Arm} {r : List Token} {d : ℕ} → g.IsArm S t (t0 ∷ s) r d → arm_step s (row_at (rows s)) t0 ≡ Some (found t r d)
  unfolding arm_step read_header_arm read_bare_arm read_empty_arm mark_at word_at name_at text_at front_at
  arm-exact (g.IsArm.header_arm h1 h2 h3 h4) = simp (simple-exact S n F s l H X h1, front-exact h2, expr_at S n F s l H X (Ends-trans (ends_of (After-simple h1)) (to_ends (After-front h2))) h3, block_at S n F s l H X (Ends-trans (Ends-trans (ends_of (After-simple h1)) (to_ends (After-front h2))) (to_ends (After-expr h3))) h4)
  arm-exact (g.IsArm.bare_arm h1 h2 h3) = simp (expr-exact S n F s l H X h1, mark-exact h2, mark-no-front is_semi refl h2, block_at S n F s l H X (ends_of (After-expr h1)) h3, simple-exact S n F s l H X (g.IsSimple.expression h1 (mark-no-front is_goes_on refl h2)))
  arm-exact (g.IsArm.empty_arm (IsFront.a_front {k = k_} {p = p_} e_) h2 h3) = simp (e_, front-no-mark mark.LeftBrace refl (front-of is_semi {k = k_} {p = p_} {r = s} e_), expr_at S n F s l H X (here) h2, block_at S n F s l H X (Ends-trans (here) (to_ends (After-expr h2))) h3, none-simple-true-semi s (row_at (rows s)) true k_ p_ e_, none-expr-5-true-false-semi s (row_at (rows s)) 5 true false k_ p_ e_)

  pub arms-exact : {t0 : Token} {t : List Arm × Option Block} {r : List Token} {d : ℕ} → g.AreArms S t (t0 ∷ s) r d → arms_step s (row_at (rows s)) t0 ≡ Some (found t r d)
  unfolding arms_step read_last_arm read_more_arms read_last_block mark_at word_at name_at text_at front_at
  arms-exact (g.AreArms.last_arm h1 h2) = simp (arm-exact h1, h2)
  arms-exact (g.AreArms.more_arms h1 h2 h3 h4) = simp (arm-exact h1, word-exact h2, word-exact h3, arms_at S n F s l H X (Ends-trans (Ends-trans (ends_of (After-arm h1)) (to_ends (After-word h2))) (to_ends (After-word h3))) h4)
  arms-exact (g.AreArms.last_block h1 h2 h3 h4) = simp (arm-exact h1, word-exact h2, h3, block_at S n F s l H X (Ends-trans (ends_of (After-arm h1)) (to_ends (After-word h2))) h4)

  pub tag_value-exact : {t0 : Token} {t : Option Expr} {r : List Token} {d : ℕ} → g.IsTagValue S t (t0 ∷ s) r d → tag_value_step s (row_at (rows s)) t0 ≡ Some (found t r d)
  unfolding tag_value_step read_a_tag_value read_no_tag_value mark_at word_at name_at text_at front_at
  tag_value-exact (g.IsTagValue.a_tag_value h1) = simp (expr-exact S n F s l H X h1)
  tag_value-exact (g.IsTagValue.no_tag_value (IsMark.a_mark {p = p_})) = simp (none-expr-5-true-false-mark_LeftBrace s (row_at (rows s)) 5 true false p_)

  pub guard-exact : {t0 : Token} {t : Option (Token × Span) × Expr × Span} {r : List Token} {d : ℕ} → g.IsGuard S t (t0 ∷ s) r d → guard_step s (row_at (rows s)) t0 ≡ Some (found t r d)
  unfolding guard_step read_plain_guard read_named_guard mark_at word_at name_at text_at front_at defined_at
  guard-exact (g.IsGuard.plain_guard h1 h2 h3 h4 h5 h6) = simp (h1, primary-exact S n F s l H X h2, mark-exact h3, mark-exact h4, word-exact h5, mark-exact h6)
  guard-exact (g.IsGuard.named_guard (IsName.a_name {a = a_} {p = p_}) h2 h3 h4 h5 h6 h7) = simp (mark-exact h2, primary_at S n F s l H X (Ends-trans (here) (to_ends (After-mark h2))) h3, mark-exact h4, mark-exact h5, word-exact h6, mark-exact h7)

  pub clauses-exact : {t0 : Token} {t : List Clause} {r : List Token} {d : ℕ} → g.AreClauses S t (t0 ∷ s) r d → clauses_step s (row_at (rows s)) t0 ≡ Some (found t r d)
  unfolding clauses_step read_a_case read_a_default read_no_clauses mark_at word_at name_at text_at front_at
  clauses-exact (g.AreClauses.a_case (IsWord.a_word {p = p_}) h2 h3 h4 h5) = simp (exprs_at S n F s l H X (here) h2, mark-exact h3, stmts_at S n F s l H X (Ends-trans (Ends-trans (here) (to_ends (After-exprs h2))) (to_ends (After-mark h3))) h4, clauses_at S n F s l H X (Ends-trans (Ends-trans (Ends-trans (here) (to_ends (After-exprs h2))) (to_ends (After-mark h3))) (Ends-stmts h4)) h5)
  clauses-exact (g.AreClauses.a_default (IsWord.a_word {p = p_}) h2 h3 h4) = simp (mark-exact h2, stmts_at S n F s l H X (Ends-trans (here) (to_ends (After-mark h2))) h3, clauses_at S n F s l H X (Ends-trans (Ends-trans (here) (to_ends (After-mark h2))) (Ends-stmts h3)) h4)
  clauses-exact (g.AreClauses.no_clauses (IsMark.a_mark {p = p_})) = refl

  pub types-exact : {t0 : Token} {t : List TypeExpr} {r : List Token} {d : ℕ} → g.AreTypes S t (t0 ∷ s) r d → types_step s (row_at (rows s)) t0 ≡ Some (found t r d)
  unfolding types_step read_one_type read_more_cases mark_at word_at name_at text_at front_at
  types-exact (g.AreTypes.one_type h1 h2) = simp (type-exact S n F s l H X h1, h2)
  types-exact (g.AreTypes.more_cases h1 h2 h3) = simp (type-exact S n F s l H X h1, mark-exact h2, types_at S n F s l H X (Ends-trans (ends_of (After-type h1)) (to_ends (After-mark h2))) h3)

  pub type_clauses-exact : {t0 : Token} {t : List TypeClause} {r : List Token} {d : ℕ} → g.AreTypeClauses S t (t0 ∷ s) r d → type_clauses_step s (row_at (rows s)) t0 ≡ Some (found t r d)
  unfolding type_clauses_step read_a_type_case read_a_type_default read_no_type_clauses mark_at word_at name_at text_at front_at
  type_clauses-exact (g.AreTypeClauses.a_type_case (IsWord.a_word {p = p_}) h2 h3 h4 h5) = simp (types_at S n F s l H X (here) h2, mark-exact h3, stmts_at S n F s l H X (Ends-trans (Ends-trans (here) (to_ends (After-types h2))) (to_ends (After-mark h3))) h4, type_clauses_at S n F s l H X (Ends-trans (Ends-trans (Ends-trans (here) (to_ends (After-types h2))) (to_ends (After-mark h3))) (Ends-stmts h4)) h5)
  type_clauses-exact (g.AreTypeClauses.a_type_default (IsWord.a_word {p = p_}) h2 h3 h4) = simp (mark-exact h2, stmts_at S n F s l H X (Ends-trans (here) (to_ends (After-mark h2))) h3, type_clauses_at S n F s l H X (Ends-trans (Ends-trans (here) (to_ends (After-mark h2))) (Ends-stmts h3)) h4)
  type_clauses-exact (g.AreTypeClauses.no_type_clauses (IsMark.a_mark {p = p_})) = refl

  pub comm-exact : {t0 : Token} {t : Comm} {r : List Token} {d : ℕ} → g.IsComm S t (t0 ∷ s) r d → comm_step s (row_at (rows s)) t0 ≡ Some (found t r d)
  unfolding comm_step read_comm_assign read_comm_define read_comm_send read_comm_receive mark_at word_at name_at text_at front_at
  comm-exact (g.IsComm.comm_assign h1 h2 h3) = simp (exprs-exact S n F s l H X h1, mark-exact h2, expr_at S n F s l H X (Ends-trans (ends_of (After-exprs h1)) (to_ends (After-mark h2))) h3)
  comm-exact (g.IsComm.comm_define h1 h2 h3) = simp (exprs-exact S n F s l H X h1, mark-exact h2, mark-other mark.Assign refl h2, expr_at S n F s l H X (Ends-trans (ends_of (After-exprs h1)) (to_ends (After-mark h2))) h3)
  comm-exact (g.IsComm.comm_send h1 h2 h3) = simp (expr-exact S n F s l H X h1, mark-exact h2, mark-other mark.Assign refl h2, mark-other mark.Define refl h2, expr_at S n F s l H X (Ends-trans (ends_of (After-expr h1)) (to_ends (After-mark h2))) h3, exprs-exact S n F s l H X (g.AreExprs.one_expr h1 (mark-other mark.Comma refl h2)))
  comm-exact (g.IsComm.comm_receive h1 h2) = simp (expr-exact S n F s l H X h1, mark-exact h2, mark-other mark.Assign refl h2, mark-other mark.Define refl h2, mark-other mark.Arrow refl h2, exprs-exact S n F s l H X (g.AreExprs.one_expr h1 (mark-other mark.Comma refl h2)))

  pub comm_clauses-exact : {t0 : Token} {t : List CommClause} {r : List Token} {d : ℕ} → g.AreCommClauses S t (t0 ∷ s) r d → comm_clauses_step s (row_at (rows s)) t0 ≡ Some (found t r d)
  unfolding comm_clauses_step read_a_comm read_a_comm_default read_no_comms mark_at word_at name_at text_at front_at
  comm_clauses-exact (g.AreCommClauses.a_comm (IsWord.a_word {p = p_}) h2 h3 h4 h5) = simp (comm_at S n F s l H X (here) h2, mark-exact h3, stmts_at S n F s l H X (Ends-trans (Ends-trans (here) (to_ends (After-comm h2))) (to_ends (After-mark h3))) h4, comm_clauses_at S n F s l H X (Ends-trans (Ends-trans (Ends-trans (here) (to_ends (After-comm h2))) (to_ends (After-mark h3))) (Ends-stmts h4)) h5)
  comm_clauses-exact (g.AreCommClauses.a_comm_default (IsWord.a_word {p = p_}) h2 h3 h4) = simp (mark-exact h2, stmts_at S n F s l H X (Ends-trans (here) (to_ends (After-mark h2))) h3, comm_clauses_at S n F s l H X (Ends-trans (Ends-trans (here) (to_ends (After-mark h2))) (Ends-stmts h3)) h4)
  comm_clauses-exact (g.AreCommClauses.no_comms (IsMark.a_mark {p = p_})) = refl

  pub header-exact : {t0 : Token} {t : Simple} {r : List Token} {d : ℕ} → g.IsHeader S t (t0 ∷ s) r d → header_step s (row_at (rows s)) t0 ≡ Some (found t r d)
  unfolding header_step read_init_header read_no_header mark_at word_at name_at text_at front_at
  header-exact (g.IsHeader.init_header h1 h2) = simp (simple-exact S n F s l H X h1, front-exact h2)
  header-exact (g.IsHeader.no_header (IsFront.a_front {k = k_} {p = p_} e_)) = simp (e_, none-simple-true-semi s (row_at (rows s)) true k_ p_ e_)
