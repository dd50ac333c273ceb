-- What the rows have, the grammar gives.
use Rattle.std.proofs.Common.{◌≡◌, ℕ, suc, ◌≤◌, true, false, List, ◌∷◌, length, Option, Some, is_none}
use Rattle.gs_syntax.specs.declared.token.Span.{Span}
use Rattle.gs_syntax.specs.declared.token.Token.{Token}
use Rattle.gs_syntax.specs.declared.token.Operator.TheVariants as mark
use Rattle.gs_syntax.specs.declared.token.Keyword.TheVariants as word
use Rattle.gs_grammar.specs.declared.trees.TypeExpr.{TypeExpr}
use Rattle.gs_grammar.specs.declared.trees.Expr.{Expr}
use Rattle.gs_grammar.specs.declared.trees.Block.{Block}
use Rattle.gs_grammar.specs.declared.trees.Simple.{Simple}
use Rattle.gs_grammar.specs.declared.trees.Arm.{Arm}
use Rattle.gs_grammar.specs.declared.trees.Clause.{Clause}
use Rattle.gs_grammar.specs.declared.trees.TypeClause.{TypeClause}
use Rattle.gs_grammar.specs.declared.trees.CommClause.{CommClause}
use Rattle.gs_grammar.specs.declared.trees.Comm.{Comm}
use Rattle.gs_grammar.specs.Grammar as g
use Rattle.gs_grammar.specs.Front.{mark_at, word_at, name_at, front_at, defined_at, is_semi}
use Rattle.gs_grammar.specs.Parts.{Found}
use Rattle.gs_grammar.specs.Reference.{row_at, rows, type_step, primary_step, expr_step, exprs_step, simple_step, arms_step, arm_step, tag_value_step, guard_step, clauses_step, types_step, type_clauses_step, comm_step, comm_clauses_step, header_step, read_last_arm, read_more_arms, read_last_block, read_header_arm, read_bare_arm, read_empty_arm, read_a_tag_value, read_no_tag_value, read_plain_guard, read_named_guard, read_a_case, read_a_default, read_no_clauses, read_one_type, read_more_cases, read_a_type_case, read_a_type_default, read_no_type_clauses, read_comm_assign, read_comm_define, read_comm_send, read_comm_receive, read_a_comm, read_a_comm_default, read_no_comms, read_init_header, read_no_header}
use Rattle.gs_grammar.proofs.Common.{Ends-trans, to_ends, ends_of, from_some, bind, either, guard, none-of, mark-sound, word-sound, name-sound, front-sound, After-mark, After-word, After-name, After-front}
use Rattle.gs_grammar.proofs.Afters.{After-type, After-block, After-primary, After-expr, After-exprs, After-simple, After-arms, After-arm, Ends-clauses, After-types, Ends-type_clauses, After-comm, Ends-comm_clauses, Ends-stmts}
use Rattle.gs_grammar.proofs.Fits.{Fits, AllSound, arms-at, arm-at, tag_value-at, guard-at, clauses-at, types-at, type_clauses-at, comm-at, comm_clauses-at, header-at}
use Rattle.gs_grammar.proofs.Later.{block_of, primary_of, expr_of, exprs_of, arms_of, clauses_of, types_of, type_clauses_of, comm_of, comm_clauses_of, stmts_of}
use Rattle.gs_grammar.proofs.SoundOne.{type-sound}
use Rattle.gs_grammar.proofs.SoundTwo.{primary-sound, expr-sound}
use Rattle.gs_grammar.proofs.SoundThree.{exprs-sound}
use Rattle.gs_grammar.proofs.SoundFour.{simple-sound}

module _ (S : g.Part → List Token → List Token → Type 0) (n : ℕ) (F : Fits S n) (s : List Token) (l : suc (length s) ≤ n) (H : AllSound S n s) where
  read_header_arm-sound : (t0 : Token) (f : Found Arm) → read_header_arm s (row_at (rows s)) t0 ≡ Some f → arm-at S (t0 ∷ s) f
  unfolding read_header_arm
  read_header_arm-sound t0 f c0 =
      let Q = arm-at S (t0 ∷ s) in
      bind Q (simple_step s (row_at (rows s)) true t0) _ (λ i e1 b1 c1.
      let h1 = simple-sound S n F s l H true t0 i e1 in
      let q1 = ends_of (After-simple h1) in
      bind Q (front_at is_semi i.rest) _ (λ x e2 b2 c2.
      let h2 = front-sound is_semi i.rest x e2 in
      let q2 = Ends-trans (q1) (to_ends (After-front h2)) in
      bind Q ((row_at (rows s) x.1).expr 5 true false) _ (λ c e3 b3 c3.
      let h3 = expr_of S n F s l H 5 true false c (q2) e3 in
      let q3 = Ends-trans (q2) (to_ends (After-expr h3)) in
      bind Q ((row_at (rows s) c.rest).block) _ (λ b e4 b4 c4.
      let h4 = block_of S n F s l H b (q3) e4 in
      let q4 = Ends-trans (q3) (to_ends (After-block h4)) in
      from_some Q c4 (g.IsArm.header_arm h1 h2 h3 h4)) b3 c3) b2 c2) b1 c1) f c0

  read_bare_arm-sound : (t0 : Token) (f : Found Arm) → read_bare_arm s (row_at (rows s)) t0 ≡ Some f → arm-at S (t0 ∷ s) f
  unfolding read_bare_arm
  read_bare_arm-sound t0 f c0 =
      let Q = arm-at S (t0 ∷ s) in
      bind Q (expr_step s (row_at (rows s)) 5 true false t0) _ (λ c e1 b1 c1.
      let h1 = expr-sound S n F s l H 5 true false t0 c e1 in
      let q1 = ends_of (After-expr h1) in
      bind Q (mark_at mark.LeftBrace c.rest) _ (λ z1 e2 b2 c2.
      let h2 = mark-sound mark.LeftBrace c.rest z1 e2 in
      bind Q ((row_at (rows s) c.rest).block) _ (λ b e3 b3 c3.
      let h3 = block_of S n F s l H b (q1) e3 in
      let q3 = Ends-trans (q1) (to_ends (After-block h3)) in
      from_some Q c3 (g.IsArm.bare_arm h1 h2 h3)) b2 c2) b1 c1) f c0

  read_empty_arm-sound : (t0 : Token) (f : Found Arm) → read_empty_arm s (row_at (rows s)) t0 ≡ Some f → arm-at S (t0 ∷ s) f
  unfolding read_empty_arm
  read_empty_arm-sound t0 f c0 =
      let Q = arm-at S (t0 ∷ s) in
      bind Q (front_at is_semi (t0 ∷ s)) _ (λ x e1 b1 c1.
      let h1 = front-sound is_semi (t0 ∷ s) x e1 in
      let q1 = ends_of (After-front h1) in
      bind Q ((row_at (rows s) x.1).expr 5 true false) _ (λ c e2 b2 c2.
      let h2 = expr_of S n F s l H 5 true false c (q1) e2 in
      let q2 = Ends-trans (q1) (to_ends (After-expr h2)) in
      bind Q ((row_at (rows s) c.rest).block) _ (λ b e3 b3 c3.
      let h3 = block_of S n F s l H b (q2) e3 in
      let q3 = Ends-trans (q2) (to_ends (After-block h3)) in
      from_some Q c3 (g.IsArm.empty_arm h1 h2 h3)) b2 c2) b1 c1) f c0

  pub arm-sound : (x : Token) (f : Found Arm) → arm_step s (row_at (rows s)) x ≡ Some f → arm-at S (x ∷ s) f
  unfolding arm_step
  arm-sound x f c = let Q = arm-at S (x ∷ s) in either Q _ _ (read_header_arm-sound x) (λ b c1. either Q _ _ (read_bare_arm-sound x) (read_empty_arm-sound x) b c1) f c

  read_last_arm-sound : (t0 : Token) (f : Found (List Arm × Option Block)) → read_last_arm s (row_at (rows s)) t0 ≡ Some f → arms-at S (t0 ∷ s) f
  unfolding read_last_arm
  read_last_arm-sound t0 f c0 =
      let Q = arms-at S (t0 ∷ s) in
      bind Q (arm_step s (row_at (rows s)) t0) _ (λ a e1 b1 c1.
      let h1 = arm-sound t0 a e1 in
      let q1 = ends_of (After-arm h1) in
      guard Q (is_none (word_at word.Else a.rest)) _ (λ e2 b2 c2.
      let h2 = none-of _ e2 in
      from_some Q c2 (g.AreArms.last_arm h1 h2)) b1 c1) f c0

  read_more_arms-sound : (t0 : Token) (f : Found (List Arm × Option Block)) → read_more_arms s (row_at (rows s)) t0 ≡ Some f → arms-at S (t0 ∷ s) f
  unfolding read_more_arms
  read_more_arms-sound t0 f c0 =
      let Q = arms-at S (t0 ∷ s) in
      bind Q (arm_step s (row_at (rows s)) t0) _ (λ a e1 b1 c1.
      let h1 = arm-sound t0 a e1 in
      let q1 = ends_of (After-arm h1) in
      bind Q (word_at word.Else a.rest) _ (λ z1 e2 b2 c2.
      let h2 = word-sound word.Else a.rest z1 e2 in
      let q2 = Ends-trans (q1) (to_ends (After-word h2)) in
      bind Q (word_at word.If z1.1) _ (λ z2 e3 b3 c3.
      let h3 = word-sound word.If z1.1 z2 e3 in
      let q3 = Ends-trans (q2) (to_ends (After-word h3)) in
      bind Q ((row_at (rows s) z2.1).arms) _ (λ m e4 b4 c4.
      let h4 = arms_of S n F s l H m (q3) e4 in
      let q4 = Ends-trans (q3) (to_ends (After-arms h4)) in
      from_some Q c4 (g.AreArms.more_arms h1 h2 h3 h4)) b3 c3) b2 c2) b1 c1) f c0

  read_last_block-sound : (t0 : Token) (f : Found (List Arm × Option Block)) → read_last_block s (row_at (rows s)) t0 ≡ Some f → arms-at S (t0 ∷ s) f
  unfolding read_last_block
  read_last_block-sound t0 f c0 =
      let Q = arms-at S (t0 ∷ s) in
      bind Q (arm_step s (row_at (rows s)) t0) _ (λ a e1 b1 c1.
      let h1 = arm-sound t0 a e1 in
      let q1 = ends_of (After-arm h1) in
      bind Q (word_at word.Else a.rest) _ (λ z1 e2 b2 c2.
      let h2 = word-sound word.Else a.rest z1 e2 in
      let q2 = Ends-trans (q1) (to_ends (After-word h2)) in
      guard Q (is_none (word_at word.If z1.1)) _ (λ e3 b3 c3.
      let h3 = none-of _ e3 in
      bind Q ((row_at (rows s) z1.1).block) _ (λ b e4 b4 c4.
      let h4 = block_of S n F s l H b (q2) e4 in
      let q4 = Ends-trans (q2) (to_ends (After-block h4)) in
      from_some Q c4 (g.AreArms.last_block h1 h2 h3 h4)) b3 c3) b2 c2) b1 c1) f c0

  pub arms-sound : (x : Token) (f : Found (List Arm × Option Block)) → arms_step s (row_at (rows s)) x ≡ Some f → arms-at S (x ∷ s) f
  unfolding arms_step
  arms-sound x f c = let Q = arms-at S (x ∷ s) in either Q _ _ (read_last_arm-sound x) (λ b c1. either Q _ _ (read_more_arms-sound x) (read_last_block-sound x) b c1) f c

  read_a_tag_value-sound : (t0 : Token) (f : Found (Option Expr)) → read_a_tag_value s (row_at (rows s)) t0 ≡ Some f → tag_value-at S (t0 ∷ s) f
  unfolding read_a_tag_value
  read_a_tag_value-sound t0 f c0 =
      let Q = tag_value-at S (t0 ∷ s) in
      bind Q (expr_step s (row_at (rows s)) 5 true false t0) _ (λ t e1 b1 c1.
      let h1 = expr-sound S n F s l H 5 true false t0 t e1 in
      let q1 = ends_of (After-expr h1) in
      from_some Q c1 (g.IsTagValue.a_tag_value h1)) f c0

  read_no_tag_value-sound : (t0 : Token) (f : Found (Option Expr)) → read_no_tag_value s (row_at (rows s)) t0 ≡ Some f → tag_value-at S (t0 ∷ s) f
  unfolding read_no_tag_value
  read_no_tag_value-sound t0 f c0 =
      let Q = tag_value-at S (t0 ∷ s) in
      bind Q (mark_at mark.LeftBrace (t0 ∷ s)) _ (λ z0 e1 b1 c1.
      let h1 = mark-sound mark.LeftBrace (t0 ∷ s) z0 e1 in
      from_some Q c1 (g.IsTagValue.no_tag_value h1)) f c0

  pub tag_value-sound : (x : Token) (f : Found (Option Expr)) → tag_value_step s (row_at (rows s)) x ≡ Some f → tag_value-at S (x ∷ s) f
  unfolding tag_value_step
  tag_value-sound x f c = let Q = tag_value-at S (x ∷ s) in either Q _ _ (read_a_tag_value-sound x) (read_no_tag_value-sound x) f c

  read_plain_guard-sound : (t0 : Token) (f : Found (Option (Token × Span) × Expr × Span)) → read_plain_guard s (row_at (rows s)) t0 ≡ Some f → guard-at S (t0 ∷ s) f
  unfolding read_plain_guard
  read_plain_guard-sound t0 f c0 =
      let Q = guard-at S (t0 ∷ s) in
      guard Q (is_none (defined_at (t0 ∷ s))) _ (λ e1 b1 c1.
      let h1 = none-of _ e1 in
      bind Q (primary_step s (row_at (rows s)) true t0) _ (λ t e2 b2 c2.
      let h2 = primary-sound S n F s l H true t0 t e2 in
      let q2 = ends_of (After-primary h2) in
      bind Q (mark_at mark.Dot t.rest) _ (λ z2 e3 b3 c3.
      let h3 = mark-sound mark.Dot t.rest z2 e3 in
      let q3 = Ends-trans (q2) (to_ends (After-mark h3)) in
      bind Q (mark_at mark.LeftParen z2.1) _ (λ z3 e4 b4 c4.
      let h4 = mark-sound mark.LeftParen z2.1 z3 e4 in
      let q4 = Ends-trans (q3) (to_ends (After-mark h4)) in
      bind Q (word_at word.«Type» z3.1) _ (λ p e5 b5 c5.
      let h5 = word-sound word.«Type» z3.1 p e5 in
      let q5 = Ends-trans (q4) (to_ends (After-word h5)) in
      bind Q (mark_at mark.RightParen p.1) _ (λ z5 e6 b6 c6.
      let h6 = mark-sound mark.RightParen p.1 z5 e6 in
      let q6 = Ends-trans (q5) (to_ends (After-mark h6)) in
      from_some Q c6 (g.IsGuard.plain_guard h1 h2 h3 h4 h5 h6)) b5 c5) b4 c4) b3 c3) b2 c2) b1 c1) f c0

  read_named_guard-sound : (t0 : Token) (f : Found (Option (Token × Span) × Expr × Span)) → read_named_guard s (row_at (rows s)) t0 ≡ Some f → guard-at S (t0 ∷ s) f
  unfolding read_named_guard
  read_named_guard-sound t0 f c0 =
      let Q = guard-at S (t0 ∷ s) in
      bind Q (name_at (t0 ∷ s)) _ (λ x e1 b1 c1.
      let h1 = name-sound (t0 ∷ s) x e1 in
      let q1 = ends_of (After-name h1) in
      bind Q (mark_at mark.Define x.1) _ (λ z1 e2 b2 c2.
      let h2 = mark-sound mark.Define x.1 z1 e2 in
      let q2 = Ends-trans (q1) (to_ends (After-mark h2)) in
      bind Q ((row_at (rows s) z1.1).primary true) _ (λ t e3 b3 c3.
      let h3 = primary_of S n F s l H true t (q2) e3 in
      let q3 = Ends-trans (q2) (to_ends (After-primary h3)) in
      bind Q (mark_at mark.Dot t.rest) _ (λ z3 e4 b4 c4.
      let h4 = mark-sound mark.Dot t.rest z3 e4 in
      let q4 = Ends-trans (q3) (to_ends (After-mark h4)) in
      bind Q (mark_at mark.LeftParen z3.1) _ (λ z4 e5 b5 c5.
      let h5 = mark-sound mark.LeftParen z3.1 z4 e5 in
      let q5 = Ends-trans (q4) (to_ends (After-mark h5)) in
      bind Q (word_at word.«Type» z4.1) _ (λ p e6 b6 c6.
      let h6 = word-sound word.«Type» z4.1 p e6 in
      let q6 = Ends-trans (q5) (to_ends (After-word h6)) in
      bind Q (mark_at mark.RightParen p.1) _ (λ z6 e7 b7 c7.
      let h7 = mark-sound mark.RightParen p.1 z6 e7 in
      let q7 = Ends-trans (q6) (to_ends (After-mark h7)) in
      from_some Q c7 (g.IsGuard.named_guard h1 h2 h3 h4 h5 h6 h7)) b6 c6) b5 c5) b4 c4) b3 c3) b2 c2) b1 c1) f c0

  pub guard-sound : (x : Token) (f : Found (Option (Token × Span) × Expr × Span)) → guard_step s (row_at (rows s)) x ≡ Some f → guard-at S (x ∷ s) f
  unfolding guard_step
  guard-sound x f c = let Q = guard-at S (x ∷ s) in either Q _ _ (read_plain_guard-sound x) (read_named_guard-sound x) f c

  read_a_case-sound : (t0 : Token) (f : Found (List Clause)) → read_a_case s (row_at (rows s)) t0 ≡ Some f → clauses-at S (t0 ∷ s) f
  unfolding read_a_case
  read_a_case-sound t0 f c0 =
      let Q = clauses-at S (t0 ∷ s) in
      bind Q (word_at word.Case (t0 ∷ s)) _ (λ p e1 b1 c1.
      let h1 = word-sound word.Case (t0 ∷ s) p e1 in
      let q1 = ends_of (After-word h1) in
      bind Q ((row_at (rows s) p.1).exprs false) _ (λ es e2 b2 c2.
      let h2 = exprs_of S n F s l H false es (q1) e2 in
      let q2 = Ends-trans (q1) (to_ends (After-exprs h2)) in
      bind Q (mark_at mark.Colon es.rest) _ (λ z2 e3 b3 c3.
      let h3 = mark-sound mark.Colon es.rest z2 e3 in
      let q3 = Ends-trans (q2) (to_ends (After-mark h3)) in
      bind Q ((row_at (rows s) z2.1).stmts) _ (λ ts e4 b4 c4.
      let h4 = stmts_of S n F s l H ts (q3) e4 in
      let q4 = Ends-trans (q3) (Ends-stmts h4) in
      bind Q ((row_at (rows s) ts.rest).clauses) _ (λ cs e5 b5 c5.
      let h5 = clauses_of S n F s l H cs (q4) e5 in
      let q5 = Ends-trans (q4) (Ends-clauses h5) in
      from_some Q c5 (g.AreClauses.a_case h1 h2 h3 h4 h5)) b4 c4) b3 c3) b2 c2) b1 c1) f c0

  read_a_default-sound : (t0 : Token) (f : Found (List Clause)) → read_a_default s (row_at (rows s)) t0 ≡ Some f → clauses-at S (t0 ∷ s) f
  unfolding read_a_default
  read_a_default-sound t0 f c0 =
      let Q = clauses-at S (t0 ∷ s) in
      bind Q (word_at word.Default (t0 ∷ s)) _ (λ p e1 b1 c1.
      let h1 = word-sound word.Default (t0 ∷ s) p e1 in
      let q1 = ends_of (After-word h1) in
      bind Q (mark_at mark.Colon p.1) _ (λ z1 e2 b2 c2.
      let h2 = mark-sound mark.Colon p.1 z1 e2 in
      let q2 = Ends-trans (q1) (to_ends (After-mark h2)) in
      bind Q ((row_at (rows s) z1.1).stmts) _ (λ ts e3 b3 c3.
      let h3 = stmts_of S n F s l H ts (q2) e3 in
      let q3 = Ends-trans (q2) (Ends-stmts h3) in
      bind Q ((row_at (rows s) ts.rest).clauses) _ (λ cs e4 b4 c4.
      let h4 = clauses_of S n F s l H cs (q3) e4 in
      let q4 = Ends-trans (q3) (Ends-clauses h4) in
      from_some Q c4 (g.AreClauses.a_default h1 h2 h3 h4)) b3 c3) b2 c2) b1 c1) f c0

  read_no_clauses-sound : (t0 : Token) (f : Found (List Clause)) → read_no_clauses s (row_at (rows s)) t0 ≡ Some f → clauses-at S (t0 ∷ s) f
  unfolding read_no_clauses
  read_no_clauses-sound t0 f c0 =
      let Q = clauses-at S (t0 ∷ s) in
      bind Q (mark_at mark.RightBrace (t0 ∷ s)) _ (λ z0 e1 b1 c1.
      let h1 = mark-sound mark.RightBrace (t0 ∷ s) z0 e1 in
      from_some Q c1 (g.AreClauses.no_clauses h1)) f c0

  pub clauses-sound : (x : Token) (f : Found (List Clause)) → clauses_step s (row_at (rows s)) x ≡ Some f → clauses-at S (x ∷ s) f
  unfolding clauses_step
  clauses-sound x f c = let Q = clauses-at S (x ∷ s) in either Q _ _ (read_a_case-sound x) (λ b c1. either Q _ _ (read_a_default-sound x) (read_no_clauses-sound x) b c1) f c

  read_one_type-sound : (t0 : Token) (f : Found (List TypeExpr)) → read_one_type s (row_at (rows s)) t0 ≡ Some f → types-at S (t0 ∷ s) f
  unfolding read_one_type
  read_one_type-sound t0 f c0 =
      let Q = types-at S (t0 ∷ s) in
      bind Q (type_step s (row_at (rows s)) t0) _ (λ t e1 b1 c1.
      let h1 = type-sound S n F s l H t0 t e1 in
      let q1 = ends_of (After-type h1) in
      guard Q (is_none (mark_at mark.Comma t.rest)) _ (λ e2 b2 c2.
      let h2 = none-of _ e2 in
      from_some Q c2 (g.AreTypes.one_type h1 h2)) b1 c1) f c0

  read_more_cases-sound : (t0 : Token) (f : Found (List TypeExpr)) → read_more_cases s (row_at (rows s)) t0 ≡ Some f → types-at S (t0 ∷ s) f
  unfolding read_more_cases
  read_more_cases-sound t0 f c0 =
      let Q = types-at S (t0 ∷ s) in
      bind Q (type_step s (row_at (rows s)) t0) _ (λ t e1 b1 c1.
      let h1 = type-sound S n F s l H t0 t e1 in
      let q1 = ends_of (After-type h1) in
      bind Q (mark_at mark.Comma t.rest) _ (λ z1 e2 b2 c2.
      let h2 = mark-sound mark.Comma t.rest z1 e2 in
      let q2 = Ends-trans (q1) (to_ends (After-mark h2)) in
      bind Q ((row_at (rows s) z1.1).types) _ (λ ts e3 b3 c3.
      let h3 = types_of S n F s l H ts (q2) e3 in
      let q3 = Ends-trans (q2) (to_ends (After-types h3)) in
      from_some Q c3 (g.AreTypes.more_cases h1 h2 h3)) b2 c2) b1 c1) f c0

  pub types-sound : (x : Token) (f : Found (List TypeExpr)) → types_step s (row_at (rows s)) x ≡ Some f → types-at S (x ∷ s) f
  unfolding types_step
  types-sound x f c = let Q = types-at S (x ∷ s) in either Q _ _ (read_one_type-sound x) (read_more_cases-sound x) f c

  read_a_type_case-sound : (t0 : Token) (f : Found (List TypeClause)) → read_a_type_case s (row_at (rows s)) t0 ≡ Some f → type_clauses-at S (t0 ∷ s) f
  unfolding read_a_type_case
  read_a_type_case-sound t0 f c0 =
      let Q = type_clauses-at S (t0 ∷ s) in
      bind Q (word_at word.Case (t0 ∷ s)) _ (λ p e1 b1 c1.
      let h1 = word-sound word.Case (t0 ∷ s) p e1 in
      let q1 = ends_of (After-word h1) in
      bind Q ((row_at (rows s) p.1).types) _ (λ us e2 b2 c2.
      let h2 = types_of S n F s l H us (q1) e2 in
      let q2 = Ends-trans (q1) (to_ends (After-types h2)) in
      bind Q (mark_at mark.Colon us.rest) _ (λ z2 e3 b3 c3.
      let h3 = mark-sound mark.Colon us.rest z2 e3 in
      let q3 = Ends-trans (q2) (to_ends (After-mark h3)) in
      bind Q ((row_at (rows s) z2.1).stmts) _ (λ ts e4 b4 c4.
      let h4 = stmts_of S n F s l H ts (q3) e4 in
      let q4 = Ends-trans (q3) (Ends-stmts h4) in
      bind Q ((row_at (rows s) ts.rest).type_clauses) _ (λ cs e5 b5 c5.
      let h5 = type_clauses_of S n F s l H cs (q4) e5 in
      let q5 = Ends-trans (q4) (Ends-type_clauses h5) in
      from_some Q c5 (g.AreTypeClauses.a_type_case h1 h2 h3 h4 h5)) b4 c4) b3 c3) b2 c2) b1 c1) f c0

  read_a_type_default-sound : (t0 : Token) (f : Found (List TypeClause)) → read_a_type_default s (row_at (rows s)) t0 ≡ Some f → type_clauses-at S (t0 ∷ s) f
  unfolding read_a_type_default
  read_a_type_default-sound t0 f c0 =
      let Q = type_clauses-at S (t0 ∷ s) in
      bind Q (word_at word.Default (t0 ∷ s)) _ (λ p e1 b1 c1.
      let h1 = word-sound word.Default (t0 ∷ s) p e1 in
      let q1 = ends_of (After-word h1) in
      bind Q (mark_at mark.Colon p.1) _ (λ z1 e2 b2 c2.
      let h2 = mark-sound mark.Colon p.1 z1 e2 in
      let q2 = Ends-trans (q1) (to_ends (After-mark h2)) in
      bind Q ((row_at (rows s) z1.1).stmts) _ (λ ts e3 b3 c3.
      let h3 = stmts_of S n F s l H ts (q2) e3 in
      let q3 = Ends-trans (q2) (Ends-stmts h3) in
      bind Q ((row_at (rows s) ts.rest).type_clauses) _ (λ cs e4 b4 c4.
      let h4 = type_clauses_of S n F s l H cs (q3) e4 in
      let q4 = Ends-trans (q3) (Ends-type_clauses h4) in
      from_some Q c4 (g.AreTypeClauses.a_type_default h1 h2 h3 h4)) b3 c3) b2 c2) b1 c1) f c0

  read_no_type_clauses-sound : (t0 : Token) (f : Found (List TypeClause)) → read_no_type_clauses s (row_at (rows s)) t0 ≡ Some f → type_clauses-at S (t0 ∷ s) f
  unfolding read_no_type_clauses
  read_no_type_clauses-sound t0 f c0 =
      let Q = type_clauses-at S (t0 ∷ s) in
      bind Q (mark_at mark.RightBrace (t0 ∷ s)) _ (λ z0 e1 b1 c1.
      let h1 = mark-sound mark.RightBrace (t0 ∷ s) z0 e1 in
      from_some Q c1 (g.AreTypeClauses.no_type_clauses h1)) f c0

  pub type_clauses-sound : (x : Token) (f : Found (List TypeClause)) → type_clauses_step s (row_at (rows s)) x ≡ Some f → type_clauses-at S (x ∷ s) f
  unfolding type_clauses_step
  type_clauses-sound x f c = let Q = type_clauses-at S (x ∷ s) in either Q _ _ (read_a_type_case-sound x) (λ b c1. either Q _ _ (read_a_type_default-sound x) (read_no_type_clauses-sound x) b c1) f c

  read_comm_assign-sound : (t0 : Token) (f : Found Comm) → read_comm_assign s (row_at (rows s)) t0 ≡ Some f → comm-at S (t0 ∷ s) f
  unfolding read_comm_assign
  read_comm_assign-sound t0 f c0 =
      let Q = comm-at S (t0 ∷ s) in
      bind Q (exprs_step s (row_at (rows s)) false t0) _ (λ ts e1 b1 c1.
      let h1 = exprs-sound S n F s l H false t0 ts e1 in
      let q1 = ends_of (After-exprs h1) in
      bind Q (mark_at mark.Assign ts.rest) _ (λ p e2 b2 c2.
      let h2 = mark-sound mark.Assign ts.rest p e2 in
      let q2 = Ends-trans (q1) (to_ends (After-mark h2)) in
      bind Q ((row_at (rows s) p.1).expr 5 false false) _ (λ u e3 b3 c3.
      let h3 = expr_of S n F s l H 5 false false u (q2) e3 in
      let q3 = Ends-trans (q2) (to_ends (After-expr h3)) in
      from_some Q c3 (g.IsComm.comm_assign h1 h2 h3)) b2 c2) b1 c1) f c0

  read_comm_define-sound : (t0 : Token) (f : Found Comm) → read_comm_define s (row_at (rows s)) t0 ≡ Some f → comm-at S (t0 ∷ s) f
  unfolding read_comm_define
  read_comm_define-sound t0 f c0 =
      let Q = comm-at S (t0 ∷ s) in
      bind Q (exprs_step s (row_at (rows s)) false t0) _ (λ ts e1 b1 c1.
      let h1 = exprs-sound S n F s l H false t0 ts e1 in
      let q1 = ends_of (After-exprs h1) in
      bind Q (mark_at mark.Define ts.rest) _ (λ p e2 b2 c2.
      let h2 = mark-sound mark.Define ts.rest p e2 in
      let q2 = Ends-trans (q1) (to_ends (After-mark h2)) in
      bind Q ((row_at (rows s) p.1).expr 5 false false) _ (λ u e3 b3 c3.
      let h3 = expr_of S n F s l H 5 false false u (q2) e3 in
      let q3 = Ends-trans (q2) (to_ends (After-expr h3)) in
      from_some Q c3 (g.IsComm.comm_define h1 h2 h3)) b2 c2) b1 c1) f c0

  read_comm_send-sound : (t0 : Token) (f : Found Comm) → read_comm_send s (row_at (rows s)) t0 ≡ Some f → comm-at S (t0 ∷ s) f
  unfolding read_comm_send
  read_comm_send-sound t0 f c0 =
      let Q = comm-at S (t0 ∷ s) in
      bind Q (expr_step s (row_at (rows s)) 5 false false t0) _ (λ t e1 b1 c1.
      let h1 = expr-sound S n F s l H 5 false false t0 t e1 in
      let q1 = ends_of (After-expr h1) in
      bind Q (mark_at mark.Arrow t.rest) _ (λ p e2 b2 c2.
      let h2 = mark-sound mark.Arrow t.rest p e2 in
      let q2 = Ends-trans (q1) (to_ends (After-mark h2)) in
      bind Q ((row_at (rows s) p.1).expr 5 false false) _ (λ u e3 b3 c3.
      let h3 = expr_of S n F s l H 5 false false u (q2) e3 in
      let q3 = Ends-trans (q2) (to_ends (After-expr h3)) in
      from_some Q c3 (g.IsComm.comm_send h1 h2 h3)) b2 c2) b1 c1) f c0

  read_comm_receive-sound : (t0 : Token) (f : Found Comm) → read_comm_receive s (row_at (rows s)) t0 ≡ Some f → comm-at S (t0 ∷ s) f
  unfolding read_comm_receive
  read_comm_receive-sound t0 f c0 =
      let Q = comm-at S (t0 ∷ s) in
      bind Q (expr_step s (row_at (rows s)) 5 false false t0) _ (λ t e1 b1 c1.
      let h1 = expr-sound S n F s l H 5 false false t0 t e1 in
      let q1 = ends_of (After-expr h1) in
      bind Q (mark_at mark.Colon t.rest) _ (λ z1 e2 b2 c2.
      let h2 = mark-sound mark.Colon t.rest z1 e2 in
      from_some Q c2 (g.IsComm.comm_receive h1 h2)) b1 c1) f c0

  pub comm-sound : (x : Token) (f : Found Comm) → comm_step s (row_at (rows s)) x ≡ Some f → comm-at S (x ∷ s) f
  unfolding comm_step
  comm-sound x f c = let Q = comm-at S (x ∷ s) in either Q _ _ (read_comm_assign-sound x) (λ b c1. either Q _ _ (read_comm_define-sound x) (λ b c1. either Q _ _ (read_comm_send-sound x) (read_comm_receive-sound x) b c1) b c1) f c

  read_a_comm-sound : (t0 : Token) (f : Found (List CommClause)) → read_a_comm s (row_at (rows s)) t0 ≡ Some f → comm_clauses-at S (t0 ∷ s) f
  unfolding read_a_comm
  read_a_comm-sound t0 f c0 =
      let Q = comm_clauses-at S (t0 ∷ s) in
      bind Q (word_at word.Case (t0 ∷ s)) _ (λ p e1 b1 c1.
      let h1 = word-sound word.Case (t0 ∷ s) p e1 in
      let q1 = ends_of (After-word h1) in
      bind Q ((row_at (rows s) p.1).comm) _ (λ c e2 b2 c2.
      let h2 = comm_of S n F s l H c (q1) e2 in
      let q2 = Ends-trans (q1) (to_ends (After-comm h2)) in
      bind Q (mark_at mark.Colon c.rest) _ (λ z2 e3 b3 c3.
      let h3 = mark-sound mark.Colon c.rest z2 e3 in
      let q3 = Ends-trans (q2) (to_ends (After-mark h3)) in
      bind Q ((row_at (rows s) z2.1).stmts) _ (λ ts e4 b4 c4.
      let h4 = stmts_of S n F s l H ts (q3) e4 in
      let q4 = Ends-trans (q3) (Ends-stmts h4) in
      bind Q ((row_at (rows s) ts.rest).comm_clauses) _ (λ cs e5 b5 c5.
      let h5 = comm_clauses_of S n F s l H cs (q4) e5 in
      let q5 = Ends-trans (q4) (Ends-comm_clauses h5) in
      from_some Q c5 (g.AreCommClauses.a_comm h1 h2 h3 h4 h5)) b4 c4) b3 c3) b2 c2) b1 c1) f c0

  read_a_comm_default-sound : (t0 : Token) (f : Found (List CommClause)) → read_a_comm_default s (row_at (rows s)) t0 ≡ Some f → comm_clauses-at S (t0 ∷ s) f
  unfolding read_a_comm_default
  read_a_comm_default-sound t0 f c0 =
      let Q = comm_clauses-at S (t0 ∷ s) in
      bind Q (word_at word.Default (t0 ∷ s)) _ (λ p e1 b1 c1.
      let h1 = word-sound word.Default (t0 ∷ s) p e1 in
      let q1 = ends_of (After-word h1) in
      bind Q (mark_at mark.Colon p.1) _ (λ z1 e2 b2 c2.
      let h2 = mark-sound mark.Colon p.1 z1 e2 in
      let q2 = Ends-trans (q1) (to_ends (After-mark h2)) in
      bind Q ((row_at (rows s) z1.1).stmts) _ (λ ts e3 b3 c3.
      let h3 = stmts_of S n F s l H ts (q2) e3 in
      let q3 = Ends-trans (q2) (Ends-stmts h3) in
      bind Q ((row_at (rows s) ts.rest).comm_clauses) _ (λ cs e4 b4 c4.
      let h4 = comm_clauses_of S n F s l H cs (q3) e4 in
      let q4 = Ends-trans (q3) (Ends-comm_clauses h4) in
      from_some Q c4 (g.AreCommClauses.a_comm_default h1 h2 h3 h4)) b3 c3) b2 c2) b1 c1) f c0

  read_no_comms-sound : (t0 : Token) (f : Found (List CommClause)) → read_no_comms s (row_at (rows s)) t0 ≡ Some f → comm_clauses-at S (t0 ∷ s) f
  unfolding read_no_comms
  read_no_comms-sound t0 f c0 =
      let Q = comm_clauses-at S (t0 ∷ s) in
      bind Q (mark_at mark.RightBrace (t0 ∷ s)) _ (λ z0 e1 b1 c1.
      let h1 = mark-sound mark.RightBrace (t0 ∷ s) z0 e1 in
      from_some Q c1 (g.AreCommClauses.no_comms h1)) f c0

  pub comm_clauses-sound : (x : Token) (f : Found (List CommClause)) → comm_clauses_step s (row_at (rows s)) x ≡ Some f → comm_clauses-at S (x ∷ s) f
  unfolding comm_clauses_step
  comm_clauses-sound x f c = let Q = comm_clauses-at S (x ∷ s) in either Q _ _ (read_a_comm-sound x) (λ b c1. either Q _ _ (read_a_comm_default-sound x) (read_no_comms-sound x) b c1) f c

  read_init_header-sound : (t0 : Token) (f : Found Simple) → read_init_header s (row_at (rows s)) t0 ≡ Some f → header-at S (t0 ∷ s) f
  unfolding read_init_header
  read_init_header-sound t0 f c0 =
      let Q = header-at S (t0 ∷ s) in
      bind Q (simple_step s (row_at (rows s)) true t0) _ (λ i e1 b1 c1.
      let h1 = simple-sound S n F s l H true t0 i e1 in
      let q1 = ends_of (After-simple h1) in
      bind Q (front_at is_semi i.rest) _ (λ x e2 b2 c2.
      let h2 = front-sound is_semi i.rest x e2 in
      let q2 = Ends-trans (q1) (to_ends (After-front h2)) in
      from_some Q c2 (g.IsHeader.init_header h1 h2)) b1 c1) f c0

  read_no_header-sound : (t0 : Token) (f : Found Simple) → read_no_header s (row_at (rows s)) t0 ≡ Some f → header-at S (t0 ∷ s) f
  unfolding read_no_header
  read_no_header-sound t0 f c0 =
      let Q = header-at S (t0 ∷ s) in
      bind Q (front_at is_semi (t0 ∷ s)) _ (λ x e1 b1 c1.
      let h1 = front-sound is_semi (t0 ∷ s) x e1 in
      let q1 = ends_of (After-front h1) in
      from_some Q c1 (g.IsHeader.no_header h1)) f c0

  pub header-sound : (x : Token) (f : Found Simple) → header_step s (row_at (rows s)) x ≡ Some f → header-at S (x ∷ s) f
  unfolding header_step
  header-sound x f c = let Q = header-at S (x ∷ s) in either Q _ _ (read_init_header-sound x) (read_no_header-sound x) f c
