-- What the rows have, the grammar gives.
use Rattle.std.proofs.Common.{◌≡◌, ℕ, zero, suc, ◌≤◌, Bool, true, false, not, List, ◌∷◌, length, Some, is_none}
use Rattle.gs_syntax.specs.declared.token.Token.{Token}
use Rattle.gs_syntax.specs.declared.token.Operator.TheVariants as mark
use Rattle.gs_syntax.specs.declared.token.Keyword.TheVariants as word
use Rattle.gs_grammar.specs.declared.trees.TypeExpr.{TypeExpr}
use Rattle.gs_grammar.specs.declared.trees.Member.{Member}
use Rattle.gs_grammar.specs.declared.trees.Expr.{Expr}
use Rattle.gs_grammar.specs.declared.trees.LiteralValue.{LiteralValue}
use Rattle.gs_grammar.specs.declared.trees.Block.{Block}
use Rattle.gs_grammar.specs.Grammar as g
use Rattle.gs_grammar.specs.Front.{mark_at, word_at, name_at, front_at, selector_at, is_basic, is_composite_start, is_other_start, is_semi, is_sign, is_stop}
use Rattle.gs_grammar.specs.Parts.{Found}
use Rattle.gs_grammar.specs.Reference.{row_at, rows, type_step, member_step, members_step, literal_step, selected_step, block_step, received_step, head_step, primary_step, unary_step, expr_step, read_method, read_embedded_interface, read_qualified_interface, read_last_member, read_more_members, read_no_members, read_values_in_braces, read_selected_literal, read_braces, read_received, read_basic_literal, read_header_name, read_literal_of_selected, read_name, read_literal_of_name, read_paren, read_literal_of_type, read_composite_type, read_counted_literal, read_other_type, read_function_literal, read_lone_function_type, read_primary, read_bare_primary, read_signed, read_starred, read_receiver, read_receive_first, read_receive}
use Rattle.gs_grammar.proofs.Common.{Ends-trans, to_ends, ends_of, from_some, bind, either, guard, none-of, not-true, mark-sound, word-sound, name-sound, front-sound, After-mark, After-word, After-name, After-front}
use Rattle.gs_grammar.proofs.Afters.{After-type, After-signature, After-member, Ends-members, After-literal, After-selected, After-block, After-received, After-head, Ends-suffixes, After-primary, After-unary, After-expr, Ends-elements, Ends-stmts}
use Rattle.gs_grammar.proofs.Fits.{Fits, AllSound, member-at, members-at, literal-at, selected-at, block-at, received-at, head-at, primary-at, unary-at, expr-at}
use Rattle.gs_grammar.proofs.Later.{type_of, signature_of, members_of, literal_of, selected_of, block_of, received_of, suffixes_of, unary_of, expr_of, operands_of, elements_of, stmts_of, literal_absent, selected_absent, block_absent, received_absent}
use Rattle.gs_grammar.proofs.SoundOne.{type-sound}

module _ (S : g.Part → List Token → List Token → Type 0) (n : ℕ) (F : Fits S n) (s : List Token) (l : suc (length s) ≤ n) (H : AllSound S n s) where
  read_method-sound : (t0 : Token) (f : Found Member) → read_method s (row_at (rows s)) t0 ≡ Some f → member-at S (t0 ∷ s) f
  unfolding read_method
  read_method-sound t0 f c0 =
      let Q = member-at S (t0 ∷ s) in
      bind Q (name_at (t0 ∷ s)) _ (λ x e1 b1 c1.
      let h1 = name-sound (t0 ∷ s) x e1 in
      let q1 = ends_of (After-name h1) in
      bind Q (mark_at mark.LeftParen x.1) _ (λ z1 e2 b2 c2.
      let h2 = mark-sound mark.LeftParen x.1 z1 e2 in
      bind Q ((row_at (rows s) x.1).signature) _ (λ z e3 b3 c3.
      let h3 = signature_of S n F s l H z (q1) e3 in
      let q3 = Ends-trans (q1) (to_ends (After-signature h3)) in
      from_some Q c3 (g.IsMember.method h1 h2 h3)) b2 c2) b1 c1) f c0

  read_embedded_interface-sound : (t0 : Token) (f : Found Member) → read_embedded_interface s (row_at (rows s)) t0 ≡ Some f → member-at S (t0 ∷ s) f
  unfolding read_embedded_interface
  read_embedded_interface-sound t0 f c0 =
      let Q = member-at S (t0 ∷ s) in
      bind Q (name_at (t0 ∷ s)) _ (λ x e1 b1 c1.
      let h1 = name-sound (t0 ∷ s) x e1 in
      let q1 = ends_of (After-name h1) in
      guard Q (is_none (mark_at mark.LeftParen x.1)) _ (λ e2 b2 c2.
      let h2 = none-of _ e2 in
      guard Q (is_none (selector_at x.1)) _ (λ e3 b3 c3.
      let h3 = none-of _ e3 in
      from_some Q c3 (g.IsMember.embedded_interface h1 h2 h3)) b2 c2) b1 c1) f c0

  read_qualified_interface-sound : (t0 : Token) (f : Found Member) → read_qualified_interface s (row_at (rows s)) t0 ≡ Some f → member-at S (t0 ∷ s) f
  unfolding read_qualified_interface
  read_qualified_interface-sound t0 f c0 =
      let Q = member-at S (t0 ∷ s) in
      bind Q (name_at (t0 ∷ s)) _ (λ x e1 b1 c1.
      let h1 = name-sound (t0 ∷ s) x e1 in
      let q1 = ends_of (After-name h1) in
      bind Q (mark_at mark.Dot x.1) _ (λ z1 e2 b2 c2.
      let h2 = mark-sound mark.Dot x.1 z1 e2 in
      let q2 = Ends-trans (q1) (to_ends (After-mark h2)) in
      bind Q (name_at z1.1) _ (λ y e3 b3 c3.
      let h3 = name-sound z1.1 y e3 in
      let q3 = Ends-trans (q2) (to_ends (After-name h3)) in
      from_some Q c3 (g.IsMember.qualified_interface h1 h2 h3)) b2 c2) b1 c1) f c0

  pub member-sound : (x : Token) (f : Found Member) → member_step s (row_at (rows s)) x ≡ Some f → member-at S (x ∷ s) f
  unfolding member_step
  member-sound x f c = let Q = member-at S (x ∷ s) in either Q _ _ (read_method-sound x) (λ b c1. either Q _ _ (read_embedded_interface-sound x) (read_qualified_interface-sound x) b c1) f c

  read_last_member-sound : (t0 : Token) (f : Found (List Member)) → read_last_member s (row_at (rows s)) t0 ≡ Some f → members-at S (t0 ∷ s) f
  unfolding read_last_member
  read_last_member-sound t0 f c0 =
      let Q = members-at S (t0 ∷ s) in
      bind Q (member_step s (row_at (rows s)) t0) _ (λ m e1 b1 c1.
      let h1 = member-sound t0 m e1 in
      let q1 = ends_of (After-member h1) in
      bind Q (mark_at mark.RightBrace m.rest) _ (λ z1 e2 b2 c2.
      let h2 = mark-sound mark.RightBrace m.rest z1 e2 in
      from_some Q c2 (g.AreMembers.last_member h1 h2)) b1 c1) f c0

  read_more_members-sound : (t0 : Token) (f : Found (List Member)) → read_more_members s (row_at (rows s)) t0 ≡ Some f → members-at S (t0 ∷ s) f
  unfolding read_more_members
  read_more_members-sound t0 f c0 =
      let Q = members-at S (t0 ∷ s) in
      bind Q (member_step s (row_at (rows s)) t0) _ (λ m e1 b1 c1.
      let h1 = member-sound t0 m e1 in
      let q1 = ends_of (After-member h1) in
      bind Q (front_at is_semi m.rest) _ (λ x e2 b2 c2.
      let h2 = front-sound is_semi m.rest x e2 in
      let q2 = Ends-trans (q1) (to_ends (After-front h2)) in
      bind Q ((row_at (rows s) x.1).members) _ (λ ms e3 b3 c3.
      let h3 = members_of S n F s l H ms (q2) e3 in
      let q3 = Ends-trans (q2) (Ends-members h3) in
      from_some Q c3 (g.AreMembers.more_members h1 h2 h3)) b2 c2) b1 c1) f c0

  read_no_members-sound : (t0 : Token) (f : Found (List Member)) → read_no_members s (row_at (rows s)) t0 ≡ Some f → members-at S (t0 ∷ s) f
  unfolding read_no_members
  read_no_members-sound t0 f c0 =
      let Q = members-at S (t0 ∷ s) in
      bind Q (mark_at mark.RightBrace (t0 ∷ s)) _ (λ z0 e1 b1 c1.
      let h1 = mark-sound mark.RightBrace (t0 ∷ s) z0 e1 in
      from_some Q c1 (g.AreMembers.no_members h1)) f c0

  pub members-sound : (x : Token) (f : Found (List Member)) → members_step s (row_at (rows s)) x ≡ Some f → members-at S (x ∷ s) f
  unfolding members_step
  members-sound x f c = let Q = members-at S (x ∷ s) in either Q _ _ (read_last_member-sound x) (λ b c1. either Q _ _ (read_more_members-sound x) (read_no_members-sound x) b c1) f c

  read_values_in_braces-sound : (t0 : Token) (f : Found LiteralValue) → read_values_in_braces s (row_at (rows s)) t0 ≡ Some f → literal-at S (t0 ∷ s) f
  unfolding read_values_in_braces
  read_values_in_braces-sound t0 f c0 =
      let Q = literal-at S (t0 ∷ s) in
      bind Q (mark_at mark.LeftBrace (t0 ∷ s)) _ (λ p e1 b1 c1.
      let h1 = mark-sound mark.LeftBrace (t0 ∷ s) p e1 in
      let q1 = ends_of (After-mark h1) in
      bind Q ((row_at (rows s) p.1).elements) _ (λ xs e2 b2 c2.
      let h2 = elements_of S n F s l H xs (q1) e2 in
      let q2 = Ends-trans (q1) (Ends-elements h2) in
      bind Q (mark_at mark.RightBrace xs.rest) _ (λ q e3 b3 c3.
      let h3 = mark-sound mark.RightBrace xs.rest q e3 in
      let q3 = Ends-trans (q2) (to_ends (After-mark h3)) in
      from_some Q c3 (g.IsLiteral.values_in_braces h1 h2 h3)) b2 c2) b1 c1) f c0

  pub literal-sound : (x : Token) (f : Found LiteralValue) → literal_step s (row_at (rows s)) x ≡ Some f → literal-at S (x ∷ s) f
  unfolding literal_step
  literal-sound x f c = read_values_in_braces-sound x f c

  read_selected_literal-sound : (t0 : Token) (f : Found (Token × LiteralValue)) → read_selected_literal s (row_at (rows s)) t0 ≡ Some f → selected-at S (t0 ∷ s) f
  unfolding read_selected_literal
  read_selected_literal-sound t0 f c0 =
      let Q = selected-at S (t0 ∷ s) in
      bind Q (mark_at mark.Dot (t0 ∷ s)) _ (λ z0 e1 b1 c1.
      let h1 = mark-sound mark.Dot (t0 ∷ s) z0 e1 in
      let q1 = ends_of (After-mark h1) in
      bind Q (name_at z0.1) _ (λ y e2 b2 c2.
      let h2 = name-sound z0.1 y e2 in
      let q2 = Ends-trans (q1) (to_ends (After-name h2)) in
      bind Q ((row_at (rows s) y.1).literal) _ (λ v e3 b3 c3.
      let h3 = literal_of S n F s l H v (q2) e3 in
      let q3 = Ends-trans (q2) (to_ends (After-literal h3)) in
      from_some Q c3 (g.IsSelected.selected_literal h1 h2 h3)) b2 c2) b1 c1) f c0

  pub selected-sound : (x : Token) (f : Found (Token × LiteralValue)) → selected_step s (row_at (rows s)) x ≡ Some f → selected-at S (x ∷ s) f
  unfolding selected_step
  selected-sound x f c = read_selected_literal-sound x f c

  read_braces-sound : (t0 : Token) (f : Found Block) → read_braces s (row_at (rows s)) t0 ≡ Some f → block-at S (t0 ∷ s) f
  unfolding read_braces
  read_braces-sound t0 f c0 =
      let Q = block-at S (t0 ∷ s) in
      bind Q (mark_at mark.LeftBrace (t0 ∷ s)) _ (λ p e1 b1 c1.
      let h1 = mark-sound mark.LeftBrace (t0 ∷ s) p e1 in
      let q1 = ends_of (After-mark h1) in
      bind Q ((row_at (rows s) p.1).stmts) _ (λ ts e2 b2 c2.
      let h2 = stmts_of S n F s l H ts (q1) e2 in
      let q2 = Ends-trans (q1) (Ends-stmts h2) in
      bind Q (mark_at mark.RightBrace ts.rest) _ (λ q e3 b3 c3.
      let h3 = mark-sound mark.RightBrace ts.rest q e3 in
      let q3 = Ends-trans (q2) (to_ends (After-mark h3)) in
      from_some Q c3 (g.IsBlock.braces h1 h2 h3)) b2 c2) b1 c1) f c0

  pub block-sound : (x : Token) (f : Found Block) → block_step s (row_at (rows s)) x ≡ Some f → block-at S (x ∷ s) f
  unfolding block_step
  block-sound x f c = read_braces-sound x f c

  read_received-sound : (t0 : Token) (f : Found TypeExpr) → read_received s (row_at (rows s)) t0 ≡ Some f → received-at S (t0 ∷ s) f
  unfolding read_received
  read_received-sound t0 f c0 =
      let Q = received-at S (t0 ∷ s) in
      bind Q (word_at word.Chan (t0 ∷ s)) _ (λ z0 e1 b1 c1.
      let h1 = word-sound word.Chan (t0 ∷ s) z0 e1 in
      let q1 = ends_of (After-word h1) in
      bind Q ((row_at (rows s) z0.1).type) _ (λ t e2 b2 c2.
      let h2 = type_of S n F s l H t (q1) e2 in
      let q2 = Ends-trans (q1) (to_ends (After-type h2)) in
      bind Q (front_at is_stop t.rest) _ (λ z2 e3 b3 c3.
      let h3 = front-sound is_stop t.rest z2 e3 in
      from_some Q c3 (g.IsReceived.received h1 h2 h3)) b2 c2) b1 c1) f c0

  pub received-sound : (x : Token) (f : Found TypeExpr) → received_step s (row_at (rows s)) x ≡ Some f → received-at S (x ∷ s) f
  unfolding received_step
  received-sound x f c = read_received-sound x f c

  read_basic_literal-sound : (h : Bool) (t0 : Token) (f : Found Expr) → read_basic_literal s (row_at (rows s)) h t0 ≡ Some f → head-at S h (t0 ∷ s) f
  unfolding read_basic_literal
  read_basic_literal-sound h t0 f c0 =
      let Q = head-at S h (t0 ∷ s) in
      bind Q (front_at is_basic (t0 ∷ s)) _ (λ x e1 b1 c1.
      let h1 = front-sound is_basic (t0 ∷ s) x e1 in
      let q1 = ends_of (After-front h1) in
      from_some Q c1 (g.IsHead.basic_literal h1)) f c0

  read_header_name-sound : (h : Bool) (t0 : Token) (f : Found Expr) → read_header_name s (row_at (rows s)) h t0 ≡ Some f → head-at S h (t0 ∷ s) f
  unfolding read_header_name
  read_header_name-sound h t0 f c0 =
      let Q = head-at S h (t0 ∷ s) in
      bind Q (name_at (t0 ∷ s)) _ (λ x e1 b1 c1.
      let h1 = name-sound (t0 ∷ s) x e1 in
      let q1 = ends_of (After-name h1) in
      guard Q (h) _ (λ e2 b2 c2.
      let h2 = e2 in
      from_some Q c2 (g.IsHead.header_name h1 h2)) b1 c1) f c0

  read_literal_of_selected-sound : (h : Bool) (t0 : Token) (f : Found Expr) → read_literal_of_selected s (row_at (rows s)) h t0 ≡ Some f → head-at S h (t0 ∷ s) f
  unfolding read_literal_of_selected
  read_literal_of_selected-sound h t0 f c0 =
      let Q = head-at S h (t0 ∷ s) in
      bind Q (name_at (t0 ∷ s)) _ (λ x e1 b1 c1.
      let h1 = name-sound (t0 ∷ s) x e1 in
      let q1 = ends_of (After-name h1) in
      guard Q (not h) _ (λ e2 b2 c2.
      let h2 = not-true _ e2 in
      bind Q ((row_at (rows s) x.1).selected) _ (λ y e3 b3 c3.
      let h3 = selected_of S n F s l H y (q1) e3 in
      let q3 = Ends-trans (q1) (to_ends (After-selected h3)) in
      from_some Q c3 (g.IsHead.literal_of_selected h1 h2 h3)) b2 c2) b1 c1) f c0

  read_name-sound : (h : Bool) (t0 : Token) (f : Found Expr) → read_name s (row_at (rows s)) h t0 ≡ Some f → head-at S h (t0 ∷ s) f
  unfolding read_name
  read_name-sound h t0 f c0 =
      let Q = head-at S h (t0 ∷ s) in
      bind Q (name_at (t0 ∷ s)) _ (λ x e1 b1 c1.
      let h1 = name-sound (t0 ∷ s) x e1 in
      let q1 = ends_of (After-name h1) in
      guard Q (not h) _ (λ e2 b2 c2.
      let h2 = not-true _ e2 in
      guard Q (is_none (row_at (rows s) x.1).selected) _ (λ e3 b3 c3.
      let h3 = selected_absent S n F s l H (q1) (none-of _ e3) in
      guard Q (is_none (row_at (rows s) x.1).literal) _ (λ e4 b4 c4.
      let h4 = literal_absent S n F s l H (q1) (none-of _ e4) in
      from_some Q c4 (g.IsHead.name h1 h2 h3 h4)) b3 c3) b2 c2) b1 c1) f c0

  read_literal_of_name-sound : (h : Bool) (t0 : Token) (f : Found Expr) → read_literal_of_name s (row_at (rows s)) h t0 ≡ Some f → head-at S h (t0 ∷ s) f
  unfolding read_literal_of_name
  read_literal_of_name-sound h t0 f c0 =
      let Q = head-at S h (t0 ∷ s) in
      bind Q (name_at (t0 ∷ s)) _ (λ x e1 b1 c1.
      let h1 = name-sound (t0 ∷ s) x e1 in
      let q1 = ends_of (After-name h1) in
      guard Q (not h) _ (λ e2 b2 c2.
      let h2 = not-true _ e2 in
      guard Q (is_none (selector_at x.1)) _ (λ e3 b3 c3.
      let h3 = none-of _ e3 in
      bind Q ((row_at (rows s) x.1).literal) _ (λ v e4 b4 c4.
      let h4 = literal_of S n F s l H v (q1) e4 in
      let q4 = Ends-trans (q1) (to_ends (After-literal h4)) in
      from_some Q c4 (g.IsHead.literal_of_name h1 h2 h3 h4)) b3 c3) b2 c2) b1 c1) f c0

  read_paren-sound : (h : Bool) (t0 : Token) (f : Found Expr) → read_paren s (row_at (rows s)) h t0 ≡ Some f → head-at S h (t0 ∷ s) f
  unfolding read_paren
  read_paren-sound h t0 f c0 =
      let Q = head-at S h (t0 ∷ s) in
      bind Q (mark_at mark.LeftParen (t0 ∷ s)) _ (λ p e1 b1 c1.
      let h1 = mark-sound mark.LeftParen (t0 ∷ s) p e1 in
      let q1 = ends_of (After-mark h1) in
      bind Q ((row_at (rows s) p.1).expr 5 false true) _ (λ t e2 b2 c2.
      let h2 = expr_of S n F s l H 5 false true t (q1) e2 in
      let q2 = Ends-trans (q1) (to_ends (After-expr h2)) in
      bind Q (mark_at mark.RightParen t.rest) _ (λ q e3 b3 c3.
      let h3 = mark-sound mark.RightParen t.rest q e3 in
      let q3 = Ends-trans (q2) (to_ends (After-mark h3)) in
      from_some Q c3 (g.IsHead.paren h1 h2 h3)) b2 c2) b1 c1) f c0

  read_literal_of_type-sound : (h : Bool) (t0 : Token) (f : Found Expr) → read_literal_of_type s (row_at (rows s)) h t0 ≡ Some f → head-at S h (t0 ∷ s) f
  unfolding read_literal_of_type
  read_literal_of_type-sound h t0 f c0 =
      let Q = head-at S h (t0 ∷ s) in
      bind Q (front_at is_composite_start (t0 ∷ s)) _ (λ z0 e1 b1 c1.
      let h1 = front-sound is_composite_start (t0 ∷ s) z0 e1 in
      bind Q (type_step s (row_at (rows s)) t0) _ (λ t e2 b2 c2.
      let h2 = type-sound S n F s l H t0 t e2 in
      let q2 = ends_of (After-type h2) in
      bind Q ((row_at (rows s) t.rest).literal) _ (λ v e3 b3 c3.
      let h3 = literal_of S n F s l H v (q2) e3 in
      let q3 = Ends-trans (q2) (to_ends (After-literal h3)) in
      from_some Q c3 (g.IsHead.literal_of_type h1 h2 h3)) b2 c2) b1 c1) f c0

  read_composite_type-sound : (h : Bool) (t0 : Token) (f : Found Expr) → read_composite_type s (row_at (rows s)) h t0 ≡ Some f → head-at S h (t0 ∷ s) f
  unfolding read_composite_type
  read_composite_type-sound h t0 f c0 =
      let Q = head-at S h (t0 ∷ s) in
      bind Q (front_at is_composite_start (t0 ∷ s)) _ (λ z0 e1 b1 c1.
      let h1 = front-sound is_composite_start (t0 ∷ s) z0 e1 in
      bind Q (type_step s (row_at (rows s)) t0) _ (λ t e2 b2 c2.
      let h2 = type-sound S n F s l H t0 t e2 in
      let q2 = ends_of (After-type h2) in
      guard Q (is_none (row_at (rows s) t.rest).literal) _ (λ e3 b3 c3.
      let h3 = literal_absent S n F s l H (q2) (none-of _ e3) in
      from_some Q c3 (g.IsHead.composite_type h1 h2 h3)) b2 c2) b1 c1) f c0

  read_counted_literal-sound : (h : Bool) (t0 : Token) (f : Found Expr) → read_counted_literal s (row_at (rows s)) h t0 ≡ Some f → head-at S h (t0 ∷ s) f
  unfolding read_counted_literal
  read_counted_literal-sound h t0 f c0 =
      let Q = head-at S h (t0 ∷ s) in
      bind Q (mark_at mark.LeftBracket (t0 ∷ s)) _ (λ p e1 b1 c1.
      let h1 = mark-sound mark.LeftBracket (t0 ∷ s) p e1 in
      let q1 = ends_of (After-mark h1) in
      bind Q (mark_at mark.Ellipsis p.1) _ (λ z1 e2 b2 c2.
      let h2 = mark-sound mark.Ellipsis p.1 z1 e2 in
      let q2 = Ends-trans (q1) (to_ends (After-mark h2)) in
      bind Q (mark_at mark.RightBracket z1.1) _ (λ z2 e3 b3 c3.
      let h3 = mark-sound mark.RightBracket z1.1 z2 e3 in
      let q3 = Ends-trans (q2) (to_ends (After-mark h3)) in
      bind Q ((row_at (rows s) z2.1).type) _ (λ t e4 b4 c4.
      let h4 = type_of S n F s l H t (q3) e4 in
      let q4 = Ends-trans (q3) (to_ends (After-type h4)) in
      bind Q ((row_at (rows s) t.rest).literal) _ (λ v e5 b5 c5.
      let h5 = literal_of S n F s l H v (q4) e5 in
      let q5 = Ends-trans (q4) (to_ends (After-literal h5)) in
      from_some Q c5 (g.IsHead.counted_literal h1 h2 h3 h4 h5)) b4 c4) b3 c3) b2 c2) b1 c1) f c0

  read_other_type-sound : (h : Bool) (t0 : Token) (f : Found Expr) → read_other_type s (row_at (rows s)) h t0 ≡ Some f → head-at S h (t0 ∷ s) f
  unfolding read_other_type
  read_other_type-sound h t0 f c0 =
      let Q = head-at S h (t0 ∷ s) in
      bind Q (front_at is_other_start (t0 ∷ s)) _ (λ z0 e1 b1 c1.
      let h1 = front-sound is_other_start (t0 ∷ s) z0 e1 in
      bind Q (type_step s (row_at (rows s)) t0) _ (λ t e2 b2 c2.
      let h2 = type-sound S n F s l H t0 t e2 in
      let q2 = ends_of (After-type h2) in
      from_some Q c2 (g.IsHead.other_type h1 h2)) b1 c1) f c0

  read_function_literal-sound : (h : Bool) (t0 : Token) (f : Found Expr) → read_function_literal s (row_at (rows s)) h t0 ≡ Some f → head-at S h (t0 ∷ s) f
  unfolding read_function_literal
  read_function_literal-sound h t0 f c0 =
      let Q = head-at S h (t0 ∷ s) in
      bind Q (word_at word.Func (t0 ∷ s)) _ (λ p e1 b1 c1.
      let h1 = word-sound word.Func (t0 ∷ s) p e1 in
      let q1 = ends_of (After-word h1) in
      bind Q ((row_at (rows s) p.1).signature) _ (λ z e2 b2 c2.
      let h2 = signature_of S n F s l H z (q1) e2 in
      let q2 = Ends-trans (q1) (to_ends (After-signature h2)) in
      bind Q ((row_at (rows s) z.rest).block) _ (λ b e3 b3 c3.
      let h3 = block_of S n F s l H b (q2) e3 in
      let q3 = Ends-trans (q2) (to_ends (After-block h3)) in
      from_some Q c3 (g.IsHead.function_literal h1 h2 h3)) b2 c2) b1 c1) f c0

  read_lone_function_type-sound : (h : Bool) (t0 : Token) (f : Found Expr) → read_lone_function_type s (row_at (rows s)) h t0 ≡ Some f → head-at S h (t0 ∷ s) f
  unfolding read_lone_function_type
  read_lone_function_type-sound h t0 f c0 =
      let Q = head-at S h (t0 ∷ s) in
      bind Q (word_at word.Func (t0 ∷ s)) _ (λ p e1 b1 c1.
      let h1 = word-sound word.Func (t0 ∷ s) p e1 in
      let q1 = ends_of (After-word h1) in
      bind Q ((row_at (rows s) p.1).signature) _ (λ z e2 b2 c2.
      let h2 = signature_of S n F s l H z (q1) e2 in
      let q2 = Ends-trans (q1) (to_ends (After-signature h2)) in
      guard Q (is_none (row_at (rows s) z.rest).block) _ (λ e3 b3 c3.
      let h3 = block_absent S n F s l H (q2) (none-of _ e3) in
      from_some Q c3 (g.IsHead.lone_function_type h1 h2 h3)) b2 c2) b1 c1) f c0

  pub head-sound : (h : Bool) (x : Token) (f : Found Expr) → head_step s (row_at (rows s)) h x ≡ Some f → head-at S h (x ∷ s) f
  unfolding head_step
  head-sound h x f c = let Q = head-at S h (x ∷ s) in either Q _ _ (read_basic_literal-sound h x) (λ b c1. either Q _ _ (read_header_name-sound h x) (λ b c1. either Q _ _ (read_literal_of_selected-sound h x) (λ b c1. either Q _ _ (read_name-sound h x) (λ b c1. either Q _ _ (read_literal_of_name-sound h x) (λ b c1. either Q _ _ (read_paren-sound h x) (λ b c1. either Q _ _ (read_literal_of_type-sound h x) (λ b c1. either Q _ _ (read_composite_type-sound h x) (λ b c1. either Q _ _ (read_counted_literal-sound h x) (λ b c1. either Q _ _ (read_other_type-sound h x) (λ b c1. either Q _ _ (read_function_literal-sound h x) (read_lone_function_type-sound h x) b c1) b c1) b c1) b c1) b c1) b c1) b c1) b c1) b c1) b c1) f c

  read_primary-sound : (h : Bool) (t0 : Token) (f : Found Expr) → read_primary s (row_at (rows s)) h t0 ≡ Some f → primary-at S h (t0 ∷ s) f
  unfolding read_primary
  read_primary-sound h t0 f c0 =
      let Q = primary-at S h (t0 ∷ s) in
      bind Q (head_step s (row_at (rows s)) h t0) _ (λ t e1 b1 c1.
      let h1 = head-sound h t0 t e1 in
      let q1 = ends_of (After-head h1) in
      bind Q ((row_at (rows s) t.rest).suffixes) _ (λ xs e2 b2 c2.
      let h2 = suffixes_of S n F s l H xs (q1) e2 in
      let q2 = Ends-trans (q1) (Ends-suffixes h2) in
      from_some Q c2 (g.IsPrimary.primary h1 h2)) b1 c1) f c0

  pub primary-sound : (h : Bool) (x : Token) (f : Found Expr) → primary_step s (row_at (rows s)) h x ≡ Some f → primary-at S h (x ∷ s) f
  unfolding primary_step
  primary-sound h x f c = read_primary-sound h x f c

  read_bare_primary-sound : (h : Bool) (w : Bool) (t0 : Token) (f : Found Expr) → read_bare_primary s (row_at (rows s)) h w t0 ≡ Some f → unary-at S h w (t0 ∷ s) f
  unfolding read_bare_primary
  read_bare_primary-sound h w t0 f c0 =
      let Q = unary-at S h w (t0 ∷ s) in
      bind Q (primary_step s (row_at (rows s)) h t0) _ (λ t e1 b1 c1.
      let h1 = primary-sound h t0 t e1 in
      let q1 = ends_of (After-primary h1) in
      from_some Q c1 (g.IsUnary.bare_primary h1)) f c0

  read_signed-sound : (h : Bool) (w : Bool) (t0 : Token) (f : Found Expr) → read_signed s (row_at (rows s)) h w t0 ≡ Some f → unary-at S h w (t0 ∷ s) f
  unfolding read_signed
  read_signed-sound h w t0 f c0 =
      let Q = unary-at S h w (t0 ∷ s) in
      bind Q (front_at is_sign (t0 ∷ s)) _ (λ x e1 b1 c1.
      let h1 = front-sound is_sign (t0 ∷ s) x e1 in
      let q1 = ends_of (After-front h1) in
      bind Q ((row_at (rows s) x.1).unary h false) _ (λ t e2 b2 c2.
      let h2 = unary_of S n F s l H h false t (q1) e2 in
      let q2 = Ends-trans (q1) (to_ends (After-unary h2)) in
      from_some Q c2 (g.IsUnary.signed h1 h2)) b1 c1) f c0

  read_starred-sound : (h : Bool) (w : Bool) (t0 : Token) (f : Found Expr) → read_starred s (row_at (rows s)) h w t0 ≡ Some f → unary-at S h w (t0 ∷ s) f
  unfolding read_starred
  read_starred-sound h w t0 f c0 =
      let Q = unary-at S h w (t0 ∷ s) in
      bind Q (mark_at mark.Star (t0 ∷ s)) _ (λ p e1 b1 c1.
      let h1 = mark-sound mark.Star (t0 ∷ s) p e1 in
      let q1 = ends_of (After-mark h1) in
      bind Q ((row_at (rows s) p.1).unary h w) _ (λ t e2 b2 c2.
      let h2 = unary_of S n F s l H h w t (q1) e2 in
      let q2 = Ends-trans (q1) (to_ends (After-unary h2)) in
      from_some Q c2 (g.IsUnary.starred h1 h2)) b1 c1) f c0

  read_receiver-sound : (h : Bool) (w : Bool) (t0 : Token) (f : Found Expr) → read_receiver s (row_at (rows s)) h w t0 ≡ Some f → unary-at S h w (t0 ∷ s) f
  unfolding read_receiver
  read_receiver-sound h w t0 f c0 =
      let Q = unary-at S h w (t0 ∷ s) in
      bind Q (mark_at mark.Arrow (t0 ∷ s)) _ (λ p e1 b1 c1.
      let h1 = mark-sound mark.Arrow (t0 ∷ s) p e1 in
      let q1 = ends_of (After-mark h1) in
      guard Q (w) _ (λ e2 b2 c2.
      let h2 = e2 in
      bind Q ((row_at (rows s) p.1).received) _ (λ t e3 b3 c3.
      let h3 = received_of S n F s l H t (q1) e3 in
      let q3 = Ends-trans (q1) (to_ends (After-received h3)) in
      from_some Q c3 (g.IsUnary.receiver h1 h2 h3)) b2 c2) b1 c1) f c0

  read_receive_first-sound : (h : Bool) (w : Bool) (t0 : Token) (f : Found Expr) → read_receive_first s (row_at (rows s)) h w t0 ≡ Some f → unary-at S h w (t0 ∷ s) f
  unfolding read_receive_first
  read_receive_first-sound h w t0 f c0 =
      let Q = unary-at S h w (t0 ∷ s) in
      bind Q (mark_at mark.Arrow (t0 ∷ s)) _ (λ p e1 b1 c1.
      let h1 = mark-sound mark.Arrow (t0 ∷ s) p e1 in
      let q1 = ends_of (After-mark h1) in
      guard Q (w) _ (λ e2 b2 c2.
      let h2 = e2 in
      guard Q (is_none (row_at (rows s) p.1).received) _ (λ e3 b3 c3.
      let h3 = received_absent S n F s l H (q1) (none-of _ e3) in
      bind Q ((row_at (rows s) p.1).unary h false) _ (λ t e4 b4 c4.
      let h4 = unary_of S n F s l H h false t (q1) e4 in
      let q4 = Ends-trans (q1) (to_ends (After-unary h4)) in
      from_some Q c4 (g.IsUnary.receive_first h1 h2 h3 h4)) b3 c3) b2 c2) b1 c1) f c0

  read_receive-sound : (h : Bool) (w : Bool) (t0 : Token) (f : Found Expr) → read_receive s (row_at (rows s)) h w t0 ≡ Some f → unary-at S h w (t0 ∷ s) f
  unfolding read_receive
  read_receive-sound h w t0 f c0 =
      let Q = unary-at S h w (t0 ∷ s) in
      bind Q (mark_at mark.Arrow (t0 ∷ s)) _ (λ p e1 b1 c1.
      let h1 = mark-sound mark.Arrow (t0 ∷ s) p e1 in
      let q1 = ends_of (After-mark h1) in
      guard Q (not w) _ (λ e2 b2 c2.
      let h2 = not-true _ e2 in
      bind Q ((row_at (rows s) p.1).unary h false) _ (λ t e3 b3 c3.
      let h3 = unary_of S n F s l H h false t (q1) e3 in
      let q3 = Ends-trans (q1) (to_ends (After-unary h3)) in
      from_some Q c3 (g.IsUnary.receive h1 h2 h3)) b2 c2) b1 c1) f c0

  pub unary-sound : (h : Bool) (w : Bool) (x : Token) (f : Found Expr) → unary_step s (row_at (rows s)) h w x ≡ Some f → unary-at S h w (x ∷ s) f
  unfolding unary_step
  unary-sound h w x f c = let Q = unary-at S h w (x ∷ s) in either Q _ _ (read_bare_primary-sound h w x) (λ b c1. either Q _ _ (read_signed-sound h w x) (λ b c1. either Q _ _ (read_starred-sound h w x) (λ b c1. either Q _ _ (read_receiver-sound h w x) (λ b c1. either Q _ _ (read_receive_first-sound h w x) (read_receive-sound h w x) b c1) b c1) b c1) b c1) f c

  pub expr-sound : (m : ℕ) (h w : Bool) (x : Token) (f : Found Expr) → expr_step s (row_at (rows s)) m h w x ≡ Some f → expr-at S m h w (x ∷ s) f
  unfolding expr_step
  expr-sound zero h w x f c = g.IsExpr.lone (unary-sound h w x f c)
  expr-sound (suc m) h w x f c =
      let Q = expr-at S (suc m) h w (x ∷ s) in
      bind Q (expr_step s (row_at (rows s)) m h w x) _ (λ t e1 b1 c1.
      let h1 = expr-sound m h w x t e1 in
      bind Q ((row_at (rows s) t.rest).operands m h) _ (λ os e2 b2 c2.
      from_some Q c2 (g.IsExpr.level h1 (operands_of S n F s l H m h os (ends_of (After-expr h1)) e2))) b1 c1) f c
