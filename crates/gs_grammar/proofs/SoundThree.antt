-- What the rows have, the grammar gives.
use Rattle.std.proofs.Common.{◌≡◌, ℕ, suc, ◌<◌, ◌≤◌, Bool, true, false, List, ◌∷◌, length, ◌∙◌, Option, Some, is_none}
use Rattle.gs_syntax.specs.declared.token.Span.{Span}
use Rattle.gs_syntax.specs.declared.token.Token.{Token}
use Rattle.gs_syntax.specs.declared.token.Operator.TheVariants as mark
use Rattle.gs_grammar.specs.declared.trees.Expr.{Expr}
use Rattle.gs_grammar.specs.declared.trees.Suffix.{Suffix}
use Rattle.gs_grammar.specs.declared.trees.Element.{Element}
use Rattle.gs_grammar.specs.declared.trees.ElementValue.{ElementValue}
use Rattle.gs_grammar.specs.Grammar as g
use Rattle.gs_grammar.specs.Front.{mark_at, name_at, front_at, trail_at, is_binary, is_bound_end}
use Rattle.gs_grammar.specs.Parts.{Found}
use Rattle.gs_grammar.specs.Reference.{row_at, rows, bound_step, args_step, suffix_step, suffixes_step, expr_step, operand_step, operands_step, value_step, element_step, elements_step, exprs_step, read_a_bound, read_no_bound, read_spread, read_last_arg, read_more_args, read_no_args, read_selector, read_assertion, read_open_slice, read_open_full_slice, read_index, read_slice_expr, read_full_slice, read_call, read_more_suffixes, read_no_suffixes, read_operand, read_more_operands, read_no_operands, read_value_expr, read_value_literal, read_plain_element, read_keyed_element, read_last_element, read_more_elements, read_no_elements, read_one_expr, read_more_exprs}
use Rattle.gs_grammar.proofs.Common.{Ends-trans, to_ends, ends_of, from_some, bind, either, guard, none-of, mark-sound, name-sound, front-sound, trail-sound, After-mark, After-name, After-front, Ends-trail}
use Rattle.gs_grammar.proofs.Rows.{suffix-cons, operand-cons}
use Rattle.gs_grammar.proofs.Afters.{After-type, Ends-bound, Ends-args, After-suffix, Ends-suffixes, After-expr, After-operand, Ends-operands, After-value, After-element, Ends-elements, After-exprs}
use Rattle.gs_grammar.proofs.Fits.{Fits, AllSound, bound-at, args-at, suffix-at, suffixes-at, operand-at, operands-at, value-at, element-at, elements-at, exprs-at, absent-suffix, absent-operand}
use Rattle.gs_grammar.proofs.Later.{type_of, bound_of, args_of, suffixes_of, expr_of, operands_of, value_of, elements_of, exprs_of}
use Rattle.gs_grammar.proofs.SoundTwo.{expr-sound}

module _ (S : g.Part → List Token → List Token → Type 0) (n : ℕ) (F : Fits S n) (s : List Token) (l : suc (length s) ≤ n) (H : AllSound S n s) where
  read_a_bound-sound : (t0 : Token) (f : Found (Option Expr)) → read_a_bound s (row_at (rows s)) t0 ≡ Some f → bound-at S (t0 ∷ s) f
  unfolding read_a_bound
  read_a_bound-sound t0 f c0 =
      let Q = bound-at S (t0 ∷ s) in
      bind Q (expr_step s (row_at (rows s)) 5 false false t0) _ (λ t e1 b1 c1.
      let h1 = expr-sound S n F s l H 5 false false t0 t e1 in
      let q1 = ends_of (After-expr h1) in
      from_some Q c1 (g.IsBound.a_bound h1)) f c0

  read_no_bound-sound : (t0 : Token) (f : Found (Option Expr)) → read_no_bound s (row_at (rows s)) t0 ≡ Some f → bound-at S (t0 ∷ s) f
  unfolding read_no_bound
  read_no_bound-sound t0 f c0 =
      let Q = bound-at S (t0 ∷ s) in
      bind Q (front_at is_bound_end (t0 ∷ s)) _ (λ z0 e1 b1 c1.
      let h1 = front-sound is_bound_end (t0 ∷ s) z0 e1 in
      from_some Q c1 (g.IsBound.no_bound h1)) f c0

  pub bound-sound : (x : Token) (f : Found (Option Expr)) → bound_step s (row_at (rows s)) x ≡ Some f → bound-at S (x ∷ s) f
  unfolding bound_step
  bound-sound x f c = let Q = bound-at S (x ∷ s) in either Q _ _ (read_a_bound-sound x) (read_no_bound-sound x) f c

  read_spread-sound : (t0 : Token) (f : Found (List Expr × Option Span)) → read_spread s (row_at (rows s)) t0 ≡ Some f → args-at S (t0 ∷ s) f
  unfolding read_spread
  read_spread-sound t0 f c0 =
      let Q = args-at S (t0 ∷ s) in
      bind Q (expr_step s (row_at (rows s)) 5 false true t0) _ (λ t e1 b1 c1.
      let h1 = expr-sound S n F s l H 5 false true t0 t e1 in
      let q1 = ends_of (After-expr h1) in
      bind Q (mark_at mark.Ellipsis t.rest) _ (λ p e2 b2 c2.
      let h2 = mark-sound mark.Ellipsis t.rest p e2 in
      let q2 = Ends-trans (q1) (to_ends (After-mark h2)) in
      bind Q (trail_at mark.RightParen p.1) _ (λ z2 e3 b3 c3.
      let h3 = trail-sound mark.RightParen p.1 z2 e3 in
      let q3 = Ends-trans (q2) (Ends-trail h3) in
      from_some Q c3 (g.AreArgs.spread h1 h2 h3)) b2 c2) b1 c1) f c0

  read_last_arg-sound : (t0 : Token) (f : Found (List Expr × Option Span)) → read_last_arg s (row_at (rows s)) t0 ≡ Some f → args-at S (t0 ∷ s) f
  unfolding read_last_arg
  read_last_arg-sound t0 f c0 =
      let Q = args-at S (t0 ∷ s) in
      bind Q (expr_step s (row_at (rows s)) 5 false true t0) _ (λ t e1 b1 c1.
      let h1 = expr-sound S n F s l H 5 false true t0 t e1 in
      let q1 = ends_of (After-expr h1) in
      guard Q (is_none (mark_at mark.Ellipsis t.rest)) _ (λ e2 b2 c2.
      let h2 = none-of _ e2 in
      bind Q (trail_at mark.RightParen t.rest) _ (λ z2 e3 b3 c3.
      let h3 = trail-sound mark.RightParen t.rest z2 e3 in
      let q3 = Ends-trans (q1) (Ends-trail h3) in
      from_some Q c3 (g.AreArgs.last_arg h1 h2 h3)) b2 c2) b1 c1) f c0

  read_more_args-sound : (t0 : Token) (f : Found (List Expr × Option Span)) → read_more_args s (row_at (rows s)) t0 ≡ Some f → args-at S (t0 ∷ s) f
  unfolding read_more_args
  read_more_args-sound t0 f c0 =
      let Q = args-at S (t0 ∷ s) in
      bind Q (expr_step s (row_at (rows s)) 5 false true t0) _ (λ t e1 b1 c1.
      let h1 = expr-sound S n F s l H 5 false true t0 t e1 in
      let q1 = ends_of (After-expr h1) in
      bind Q (mark_at mark.Comma t.rest) _ (λ z1 e2 b2 c2.
      let h2 = mark-sound mark.Comma t.rest z1 e2 in
      let q2 = Ends-trans (q1) (to_ends (After-mark h2)) in
      guard Q (is_none (mark_at mark.RightParen z1.1)) _ (λ e3 b3 c3.
      let h3 = none-of _ e3 in
      bind Q ((row_at (rows s) z1.1).args) _ (λ ts e4 b4 c4.
      let h4 = args_of S n F s l H ts (q2) e4 in
      let q4 = Ends-trans (q2) (Ends-args h4) in
      from_some Q c4 (g.AreArgs.more_args h1 h2 h3 h4)) b3 c3) b2 c2) b1 c1) f c0

  read_no_args-sound : (t0 : Token) (f : Found (List Expr × Option Span)) → read_no_args s (row_at (rows s)) t0 ≡ Some f → args-at S (t0 ∷ s) f
  unfolding read_no_args
  read_no_args-sound t0 f c0 =
      let Q = args-at S (t0 ∷ s) in
      bind Q (mark_at mark.RightParen (t0 ∷ s)) _ (λ z0 e1 b1 c1.
      let h1 = mark-sound mark.RightParen (t0 ∷ s) z0 e1 in
      from_some Q c1 (g.AreArgs.no_args h1)) f c0

  pub args-sound : (x : Token) (f : Found (List Expr × Option Span)) → args_step s (row_at (rows s)) x ≡ Some f → args-at S (x ∷ s) f
  unfolding args_step
  args-sound x f c = let Q = args-at S (x ∷ s) in either Q _ _ (read_spread-sound x) (λ b c1. either Q _ _ (read_last_arg-sound x) (λ b c1. either Q _ _ (read_more_args-sound x) (read_no_args-sound x) b c1) b c1) f c

  read_selector-sound : (t0 : Token) (f : Found Suffix) → read_selector s (row_at (rows s)) t0 ≡ Some f → suffix-at S (t0 ∷ s) f
  unfolding read_selector
  read_selector-sound t0 f c0 =
      let Q = suffix-at S (t0 ∷ s) in
      bind Q (mark_at mark.Dot (t0 ∷ s)) _ (λ z0 e1 b1 c1.
      let h1 = mark-sound mark.Dot (t0 ∷ s) z0 e1 in
      let q1 = ends_of (After-mark h1) in
      bind Q (name_at z0.1) _ (λ x e2 b2 c2.
      let h2 = name-sound z0.1 x e2 in
      let q2 = Ends-trans (q1) (to_ends (After-name h2)) in
      from_some Q c2 (g.IsSuffix.selector h1 h2)) b1 c1) f c0

  read_assertion-sound : (t0 : Token) (f : Found Suffix) → read_assertion s (row_at (rows s)) t0 ≡ Some f → suffix-at S (t0 ∷ s) f
  unfolding read_assertion
  read_assertion-sound t0 f c0 =
      let Q = suffix-at S (t0 ∷ s) in
      bind Q (mark_at mark.Dot (t0 ∷ s)) _ (λ z0 e1 b1 c1.
      let h1 = mark-sound mark.Dot (t0 ∷ s) z0 e1 in
      let q1 = ends_of (After-mark h1) in
      bind Q (mark_at mark.LeftParen z0.1) _ (λ z1 e2 b2 c2.
      let h2 = mark-sound mark.LeftParen z0.1 z1 e2 in
      let q2 = Ends-trans (q1) (to_ends (After-mark h2)) in
      bind Q ((row_at (rows s) z1.1).type) _ (λ t e3 b3 c3.
      let h3 = type_of S n F s l H t (q2) e3 in
      let q3 = Ends-trans (q2) (to_ends (After-type h3)) in
      bind Q (mark_at mark.RightParen t.rest) _ (λ q e4 b4 c4.
      let h4 = mark-sound mark.RightParen t.rest q e4 in
      let q4 = Ends-trans (q3) (to_ends (After-mark h4)) in
      from_some Q c4 (g.IsSuffix.assertion h1 h2 h3 h4)) b3 c3) b2 c2) b1 c1) f c0

  read_open_slice-sound : (t0 : Token) (f : Found Suffix) → read_open_slice s (row_at (rows s)) t0 ≡ Some f → suffix-at S (t0 ∷ s) f
  unfolding read_open_slice
  read_open_slice-sound t0 f c0 =
      let Q = suffix-at S (t0 ∷ s) in
      bind Q (mark_at mark.LeftBracket (t0 ∷ s)) _ (λ z0 e1 b1 c1.
      let h1 = mark-sound mark.LeftBracket (t0 ∷ s) z0 e1 in
      let q1 = ends_of (After-mark h1) in
      bind Q (mark_at mark.Colon z0.1) _ (λ z1 e2 b2 c2.
      let h2 = mark-sound mark.Colon z0.1 z1 e2 in
      let q2 = Ends-trans (q1) (to_ends (After-mark h2)) in
      bind Q ((row_at (rows s) z1.1).bound) _ (λ b e3 b3 c3.
      let h3 = bound_of S n F s l H b (q2) e3 in
      let q3 = Ends-trans (q2) (Ends-bound h3) in
      bind Q (mark_at mark.RightBracket b.rest) _ (λ q e4 b4 c4.
      let h4 = mark-sound mark.RightBracket b.rest q e4 in
      let q4 = Ends-trans (q3) (to_ends (After-mark h4)) in
      from_some Q c4 (g.IsSuffix.open_slice h1 h2 h3 h4)) b3 c3) b2 c2) b1 c1) f c0

  read_open_full_slice-sound : (t0 : Token) (f : Found Suffix) → read_open_full_slice s (row_at (rows s)) t0 ≡ Some f → suffix-at S (t0 ∷ s) f
  unfolding read_open_full_slice
  read_open_full_slice-sound t0 f c0 =
      let Q = suffix-at S (t0 ∷ s) in
      bind Q (mark_at mark.LeftBracket (t0 ∷ s)) _ (λ z0 e1 b1 c1.
      let h1 = mark-sound mark.LeftBracket (t0 ∷ s) z0 e1 in
      let q1 = ends_of (After-mark h1) in
      bind Q (mark_at mark.Colon z0.1) _ (λ z1 e2 b2 c2.
      let h2 = mark-sound mark.Colon z0.1 z1 e2 in
      let q2 = Ends-trans (q1) (to_ends (After-mark h2)) in
      bind Q ((row_at (rows s) z1.1).expr 5 false false) _ (λ b e3 b3 c3.
      let h3 = expr_of S n F s l H 5 false false b (q2) e3 in
      let q3 = Ends-trans (q2) (to_ends (After-expr h3)) in
      bind Q (mark_at mark.Colon b.rest) _ (λ z3 e4 b4 c4.
      let h4 = mark-sound mark.Colon b.rest z3 e4 in
      let q4 = Ends-trans (q3) (to_ends (After-mark h4)) in
      bind Q ((row_at (rows s) z3.1).expr 5 false false) _ (λ c e5 b5 c5.
      let h5 = expr_of S n F s l H 5 false false c (q4) e5 in
      let q5 = Ends-trans (q4) (to_ends (After-expr h5)) in
      bind Q (mark_at mark.RightBracket c.rest) _ (λ q e6 b6 c6.
      let h6 = mark-sound mark.RightBracket c.rest q e6 in
      let q6 = Ends-trans (q5) (to_ends (After-mark h6)) in
      from_some Q c6 (g.IsSuffix.open_full_slice h1 h2 h3 h4 h5 h6)) b5 c5) b4 c4) b3 c3) b2 c2) b1 c1) f c0

  read_index-sound : (t0 : Token) (f : Found Suffix) → read_index s (row_at (rows s)) t0 ≡ Some f → suffix-at S (t0 ∷ s) f
  unfolding read_index
  read_index-sound t0 f c0 =
      let Q = suffix-at S (t0 ∷ s) in
      bind Q (mark_at mark.LeftBracket (t0 ∷ s)) _ (λ z0 e1 b1 c1.
      let h1 = mark-sound mark.LeftBracket (t0 ∷ s) z0 e1 in
      let q1 = ends_of (After-mark h1) in
      guard Q (is_none (mark_at mark.Colon z0.1)) _ (λ e2 b2 c2.
      let h2 = none-of _ e2 in
      bind Q ((row_at (rows s) z0.1).expr 5 false false) _ (λ t e3 b3 c3.
      let h3 = expr_of S n F s l H 5 false false t (q1) e3 in
      let q3 = Ends-trans (q1) (to_ends (After-expr h3)) in
      bind Q (mark_at mark.RightBracket t.rest) _ (λ q e4 b4 c4.
      let h4 = mark-sound mark.RightBracket t.rest q e4 in
      let q4 = Ends-trans (q3) (to_ends (After-mark h4)) in
      from_some Q c4 (g.IsSuffix.index h1 h2 h3 h4)) b3 c3) b2 c2) b1 c1) f c0

  read_slice_expr-sound : (t0 : Token) (f : Found Suffix) → read_slice_expr s (row_at (rows s)) t0 ≡ Some f → suffix-at S (t0 ∷ s) f
  unfolding read_slice_expr
  read_slice_expr-sound t0 f c0 =
      let Q = suffix-at S (t0 ∷ s) in
      bind Q (mark_at mark.LeftBracket (t0 ∷ s)) _ (λ z0 e1 b1 c1.
      let h1 = mark-sound mark.LeftBracket (t0 ∷ s) z0 e1 in
      let q1 = ends_of (After-mark h1) in
      guard Q (is_none (mark_at mark.Colon z0.1)) _ (λ e2 b2 c2.
      let h2 = none-of _ e2 in
      bind Q ((row_at (rows s) z0.1).expr 5 false false) _ (λ a e3 b3 c3.
      let h3 = expr_of S n F s l H 5 false false a (q1) e3 in
      let q3 = Ends-trans (q1) (to_ends (After-expr h3)) in
      bind Q (mark_at mark.Colon a.rest) _ (λ z3 e4 b4 c4.
      let h4 = mark-sound mark.Colon a.rest z3 e4 in
      let q4 = Ends-trans (q3) (to_ends (After-mark h4)) in
      bind Q ((row_at (rows s) z3.1).bound) _ (λ b e5 b5 c5.
      let h5 = bound_of S n F s l H b (q4) e5 in
      let q5 = Ends-trans (q4) (Ends-bound h5) in
      bind Q (mark_at mark.RightBracket b.rest) _ (λ q e6 b6 c6.
      let h6 = mark-sound mark.RightBracket b.rest q e6 in
      let q6 = Ends-trans (q5) (to_ends (After-mark h6)) in
      from_some Q c6 (g.IsSuffix.slice_expr h1 h2 h3 h4 h5 h6)) b5 c5) b4 c4) b3 c3) b2 c2) b1 c1) f c0

  read_full_slice-sound : (t0 : Token) (f : Found Suffix) → read_full_slice s (row_at (rows s)) t0 ≡ Some f → suffix-at S (t0 ∷ s) f
  unfolding read_full_slice
  read_full_slice-sound t0 f c0 =
      let Q = suffix-at S (t0 ∷ s) in
      bind Q (mark_at mark.LeftBracket (t0 ∷ s)) _ (λ z0 e1 b1 c1.
      let h1 = mark-sound mark.LeftBracket (t0 ∷ s) z0 e1 in
      let q1 = ends_of (After-mark h1) in
      guard Q (is_none (mark_at mark.Colon z0.1)) _ (λ e2 b2 c2.
      let h2 = none-of _ e2 in
      bind Q ((row_at (rows s) z0.1).expr 5 false false) _ (λ a e3 b3 c3.
      let h3 = expr_of S n F s l H 5 false false a (q1) e3 in
      let q3 = Ends-trans (q1) (to_ends (After-expr h3)) in
      bind Q (mark_at mark.Colon a.rest) _ (λ z3 e4 b4 c4.
      let h4 = mark-sound mark.Colon a.rest z3 e4 in
      let q4 = Ends-trans (q3) (to_ends (After-mark h4)) in
      bind Q ((row_at (rows s) z3.1).expr 5 false false) _ (λ b e5 b5 c5.
      let h5 = expr_of S n F s l H 5 false false b (q4) e5 in
      let q5 = Ends-trans (q4) (to_ends (After-expr h5)) in
      bind Q (mark_at mark.Colon b.rest) _ (λ z5 e6 b6 c6.
      let h6 = mark-sound mark.Colon b.rest z5 e6 in
      let q6 = Ends-trans (q5) (to_ends (After-mark h6)) in
      bind Q ((row_at (rows s) z5.1).expr 5 false false) _ (λ c e7 b7 c7.
      let h7 = expr_of S n F s l H 5 false false c (q6) e7 in
      let q7 = Ends-trans (q6) (to_ends (After-expr h7)) in
      bind Q (mark_at mark.RightBracket c.rest) _ (λ q e8 b8 c8.
      let h8 = mark-sound mark.RightBracket c.rest q e8 in
      let q8 = Ends-trans (q7) (to_ends (After-mark h8)) in
      from_some Q c8 (g.IsSuffix.full_slice h1 h2 h3 h4 h5 h6 h7 h8)) b7 c7) b6 c6) b5 c5) b4 c4) b3 c3) b2 c2) b1 c1) f c0

  read_call-sound : (t0 : Token) (f : Found Suffix) → read_call s (row_at (rows s)) t0 ≡ Some f → suffix-at S (t0 ∷ s) f
  unfolding read_call
  read_call-sound t0 f c0 =
      let Q = suffix-at S (t0 ∷ s) in
      bind Q (mark_at mark.LeftParen (t0 ∷ s)) _ (λ z0 e1 b1 c1.
      let h1 = mark-sound mark.LeftParen (t0 ∷ s) z0 e1 in
      let q1 = ends_of (After-mark h1) in
      bind Q ((row_at (rows s) z0.1).args) _ (λ ts e2 b2 c2.
      let h2 = args_of S n F s l H ts (q1) e2 in
      let q2 = Ends-trans (q1) (Ends-args h2) in
      bind Q (mark_at mark.RightParen ts.rest) _ (λ q e3 b3 c3.
      let h3 = mark-sound mark.RightParen ts.rest q e3 in
      let q3 = Ends-trans (q2) (to_ends (After-mark h3)) in
      from_some Q c3 (g.IsSuffix.call h1 h2 h3)) b2 c2) b1 c1) f c0

  pub suffix-sound : (x : Token) (f : Found Suffix) → suffix_step s (row_at (rows s)) x ≡ Some f → suffix-at S (x ∷ s) f
  unfolding suffix_step
  suffix-sound x f c = let Q = suffix-at S (x ∷ s) in either Q _ _ (read_selector-sound x) (λ b c1. either Q _ _ (read_assertion-sound x) (λ b c1. either Q _ _ (read_open_slice-sound x) (λ b c1. either Q _ _ (read_open_full_slice-sound x) (λ b c1. either Q _ _ (read_index-sound x) (λ b c1. either Q _ _ (read_slice_expr-sound x) (λ b c1. either Q _ _ (read_full_slice-sound x) (read_call-sound x) b c1) b c1) b c1) b c1) b c1) b c1) f c

  read_more_suffixes-sound : (t0 : Token) (f : Found (List Suffix)) → read_more_suffixes s (row_at (rows s)) t0 ≡ Some f → suffixes-at S (t0 ∷ s) f
  unfolding read_more_suffixes
  read_more_suffixes-sound t0 f c0 =
      let Q = suffixes-at S (t0 ∷ s) in
      bind Q (suffix_step s (row_at (rows s)) t0) _ (λ x e1 b1 c1.
      let h1 = suffix-sound t0 x e1 in
      let q1 = ends_of (After-suffix h1) in
      bind Q ((row_at (rows s) x.rest).suffixes) _ (λ xs e2 b2 c2.
      let h2 = suffixes_of S n F s l H xs (q1) e2 in
      let q2 = Ends-trans (q1) (Ends-suffixes h2) in
      from_some Q c2 (g.AreSuffixes.more_suffixes h1 h2)) b1 c1) f c0

  pub suffixes-sound : (x : Token) (below : length (x ∷ s) < n) (f : Found (List Suffix)) → suffixes_step s (row_at (rows s)) x ≡ Some f → suffixes-at S (x ∷ s) f
  unfolding suffixes_step read_no_suffixes
  suffixes-sound x below f c =
      let Q = suffixes-at S (x ∷ s) in
      either Q _ _ (read_more_suffixes-sound x) (λ b c1. guard Q _ _ (λ e1 b1 c2. from_some Q c2 (g.AreSuffixes.no_suffixes (absent-suffix S n F (x ∷ s) below (suffix-cons x s ∙ none-of _ e1)))) b c1) f c

  read_operand-sound : (m : ℕ) (h : Bool) (t0 : Token) (f : Found (Token × Expr)) → read_operand s (row_at (rows s)) m h t0 ≡ Some f → operand-at S m h (t0 ∷ s) f
  unfolding read_operand
  read_operand-sound m h t0 f c0 =
      let Q = operand-at S m h (t0 ∷ s) in
      bind Q (front_at (is_binary m) (t0 ∷ s)) _ (λ x e1 b1 c1.
      let h1 = front-sound (is_binary m) (t0 ∷ s) x e1 in
      let q1 = ends_of (After-front h1) in
      bind Q ((row_at (rows s) x.1).expr m h false) _ (λ t e2 b2 c2.
      let h2 = expr_of S n F s l H m h false t (q1) e2 in
      let q2 = Ends-trans (q1) (to_ends (After-expr h2)) in
      from_some Q c2 (g.IsOperand.operand h1 h2)) b1 c1) f c0

  pub operand-sound : (m : ℕ) (h : Bool) (x : Token) (f : Found (Token × Expr)) → operand_step s (row_at (rows s)) m h x ≡ Some f → operand-at S m h (x ∷ s) f
  unfolding operand_step
  operand-sound m h x f c = read_operand-sound m h x f c

  read_more_operands-sound : (m : ℕ) (h : Bool) (t0 : Token) (f : Found (List (Token × Expr))) → read_more_operands s (row_at (rows s)) m h t0 ≡ Some f → operands-at S m h (t0 ∷ s) f
  unfolding read_more_operands
  read_more_operands-sound m h t0 f c0 =
      let Q = operands-at S m h (t0 ∷ s) in
      bind Q (operand_step s (row_at (rows s)) m h t0) _ (λ x e1 b1 c1.
      let h1 = operand-sound m h t0 x e1 in
      let q1 = ends_of (After-operand h1) in
      bind Q ((row_at (rows s) x.rest).operands m h) _ (λ xs e2 b2 c2.
      let h2 = operands_of S n F s l H m h xs (q1) e2 in
      let q2 = Ends-trans (q1) (Ends-operands h2) in
      from_some Q c2 (g.AreOperands.more_operands h1 h2)) b1 c1) f c0

  pub operands-sound : (m : ℕ) (h : Bool) (x : Token) (below : length (x ∷ s) < n) (f : Found (List (Token × Expr))) → operands_step s (row_at (rows s)) m h x ≡ Some f → operands-at S m h (x ∷ s) f
  unfolding operands_step read_no_operands
  operands-sound m h x below f c =
      let Q = operands-at S m h (x ∷ s) in
      either Q _ _ (read_more_operands-sound m h x) (λ b c1. guard Q _ _ (λ e1 b1 c2. from_some Q c2 (g.AreOperands.no_operands (absent-operand S n F m h (x ∷ s) below (operand-cons m h x s ∙ none-of _ e1)))) b c1) f c

  read_value_expr-sound : (t0 : Token) (f : Found ElementValue) → read_value_expr s (row_at (rows s)) t0 ≡ Some f → value-at S (t0 ∷ s) f
  unfolding read_value_expr
  read_value_expr-sound t0 f c0 =
      let Q = value-at S (t0 ∷ s) in
      bind Q (expr_step s (row_at (rows s)) 5 false false t0) _ (λ t e1 b1 c1.
      let h1 = expr-sound S n F s l H 5 false false t0 t e1 in
      let q1 = ends_of (After-expr h1) in
      from_some Q c1 (g.IsValue.value_expr h1)) f c0

  read_value_literal-sound : (t0 : Token) (f : Found ElementValue) → read_value_literal s (row_at (rows s)) t0 ≡ Some f → value-at S (t0 ∷ s) f
  unfolding read_value_literal
  read_value_literal-sound t0 f c0 =
      let Q = value-at S (t0 ∷ s) in
      bind Q (mark_at mark.LeftBrace (t0 ∷ s)) _ (λ p e1 b1 c1.
      let h1 = mark-sound mark.LeftBrace (t0 ∷ s) p e1 in
      let q1 = ends_of (After-mark h1) in
      bind Q ((row_at (rows s) p.1).elements) _ (λ xs e2 b2 c2.
      let h2 = elements_of S n F s l H xs (q1) e2 in
      let q2 = Ends-trans (q1) (Ends-elements h2) in
      bind Q (mark_at mark.RightBrace xs.rest) _ (λ q e3 b3 c3.
      let h3 = mark-sound mark.RightBrace xs.rest q e3 in
      let q3 = Ends-trans (q2) (to_ends (After-mark h3)) in
      from_some Q c3 (g.IsValue.value_literal h1 h2 h3)) b2 c2) b1 c1) f c0

  pub value-sound : (x : Token) (f : Found ElementValue) → value_step s (row_at (rows s)) x ≡ Some f → value-at S (x ∷ s) f
  unfolding value_step
  value-sound x f c = let Q = value-at S (x ∷ s) in either Q _ _ (read_value_expr-sound x) (read_value_literal-sound x) f c

  read_plain_element-sound : (t0 : Token) (f : Found Element) → read_plain_element s (row_at (rows s)) t0 ≡ Some f → element-at S (t0 ∷ s) f
  unfolding read_plain_element
  read_plain_element-sound t0 f c0 =
      let Q = element-at S (t0 ∷ s) in
      bind Q (value_step s (row_at (rows s)) t0) _ (λ a e1 b1 c1.
      let h1 = value-sound t0 a e1 in
      let q1 = ends_of (After-value h1) in
      guard Q (is_none (mark_at mark.Colon a.rest)) _ (λ e2 b2 c2.
      let h2 = none-of _ e2 in
      from_some Q c2 (g.IsElement.plain_element h1 h2)) b1 c1) f c0

  read_keyed_element-sound : (t0 : Token) (f : Found Element) → read_keyed_element s (row_at (rows s)) t0 ≡ Some f → element-at S (t0 ∷ s) f
  unfolding read_keyed_element
  read_keyed_element-sound t0 f c0 =
      let Q = element-at S (t0 ∷ s) in
      bind Q (value_step s (row_at (rows s)) t0) _ (λ a e1 b1 c1.
      let h1 = value-sound t0 a e1 in
      let q1 = ends_of (After-value h1) in
      bind Q (mark_at mark.Colon a.rest) _ (λ z1 e2 b2 c2.
      let h2 = mark-sound mark.Colon a.rest z1 e2 in
      let q2 = Ends-trans (q1) (to_ends (After-mark h2)) in
      bind Q ((row_at (rows s) z1.1).value) _ (λ b e3 b3 c3.
      let h3 = value_of S n F s l H b (q2) e3 in
      let q3 = Ends-trans (q2) (to_ends (After-value h3)) in
      from_some Q c3 (g.IsElement.keyed_element h1 h2 h3)) b2 c2) b1 c1) f c0

  pub element-sound : (x : Token) (f : Found Element) → element_step s (row_at (rows s)) x ≡ Some f → element-at S (x ∷ s) f
  unfolding element_step
  element-sound x f c = let Q = element-at S (x ∷ s) in either Q _ _ (read_plain_element-sound x) (read_keyed_element-sound x) f c

  read_last_element-sound : (t0 : Token) (f : Found (List Element)) → read_last_element s (row_at (rows s)) t0 ≡ Some f → elements-at S (t0 ∷ s) f
  unfolding read_last_element
  read_last_element-sound t0 f c0 =
      let Q = elements-at S (t0 ∷ s) in
      bind Q (element_step s (row_at (rows s)) t0) _ (λ x e1 b1 c1.
      let h1 = element-sound t0 x e1 in
      let q1 = ends_of (After-element h1) in
      bind Q (trail_at mark.RightBrace x.rest) _ (λ z1 e2 b2 c2.
      let h2 = trail-sound mark.RightBrace x.rest z1 e2 in
      let q2 = Ends-trans (q1) (Ends-trail h2) in
      from_some Q c2 (g.AreElements.last_element h1 h2)) b1 c1) f c0

  read_more_elements-sound : (t0 : Token) (f : Found (List Element)) → read_more_elements s (row_at (rows s)) t0 ≡ Some f → elements-at S (t0 ∷ s) f
  unfolding read_more_elements
  read_more_elements-sound t0 f c0 =
      let Q = elements-at S (t0 ∷ s) in
      bind Q (element_step s (row_at (rows s)) t0) _ (λ x e1 b1 c1.
      let h1 = element-sound t0 x e1 in
      let q1 = ends_of (After-element h1) in
      bind Q (mark_at mark.Comma x.rest) _ (λ z1 e2 b2 c2.
      let h2 = mark-sound mark.Comma x.rest z1 e2 in
      let q2 = Ends-trans (q1) (to_ends (After-mark h2)) in
      guard Q (is_none (mark_at mark.RightBrace z1.1)) _ (λ e3 b3 c3.
      let h3 = none-of _ e3 in
      bind Q ((row_at (rows s) z1.1).elements) _ (λ xs e4 b4 c4.
      let h4 = elements_of S n F s l H xs (q2) e4 in
      let q4 = Ends-trans (q2) (Ends-elements h4) in
      from_some Q c4 (g.AreElements.more_elements h1 h2 h3 h4)) b3 c3) b2 c2) b1 c1) f c0

  read_no_elements-sound : (t0 : Token) (f : Found (List Element)) → read_no_elements s (row_at (rows s)) t0 ≡ Some f → elements-at S (t0 ∷ s) f
  unfolding read_no_elements
  read_no_elements-sound t0 f c0 =
      let Q = elements-at S (t0 ∷ s) in
      bind Q (mark_at mark.RightBrace (t0 ∷ s)) _ (λ z0 e1 b1 c1.
      let h1 = mark-sound mark.RightBrace (t0 ∷ s) z0 e1 in
      from_some Q c1 (g.AreElements.no_elements h1)) f c0

  pub elements-sound : (x : Token) (f : Found (List Element)) → elements_step s (row_at (rows s)) x ≡ Some f → elements-at S (x ∷ s) f
  unfolding elements_step
  elements-sound x f c = let Q = elements-at S (x ∷ s) in either Q _ _ (read_last_element-sound x) (λ b c1. either Q _ _ (read_more_elements-sound x) (read_no_elements-sound x) b c1) f c

  read_one_expr-sound : (h : Bool) (t0 : Token) (f : Found (List Expr)) → read_one_expr s (row_at (rows s)) h t0 ≡ Some f → exprs-at S h (t0 ∷ s) f
  unfolding read_one_expr
  read_one_expr-sound h t0 f c0 =
      let Q = exprs-at S h (t0 ∷ s) in
      bind Q (expr_step s (row_at (rows s)) 5 h false t0) _ (λ t e1 b1 c1.
      let h1 = expr-sound S n F s l H 5 h false t0 t e1 in
      let q1 = ends_of (After-expr h1) in
      guard Q (is_none (mark_at mark.Comma t.rest)) _ (λ e2 b2 c2.
      let h2 = none-of _ e2 in
      from_some Q c2 (g.AreExprs.one_expr h1 h2)) b1 c1) f c0

  read_more_exprs-sound : (h : Bool) (t0 : Token) (f : Found (List Expr)) → read_more_exprs s (row_at (rows s)) h t0 ≡ Some f → exprs-at S h (t0 ∷ s) f
  unfolding read_more_exprs
  read_more_exprs-sound h t0 f c0 =
      let Q = exprs-at S h (t0 ∷ s) in
      bind Q (expr_step s (row_at (rows s)) 5 h false t0) _ (λ t e1 b1 c1.
      let h1 = expr-sound S n F s l H 5 h false t0 t e1 in
      let q1 = ends_of (After-expr h1) in
      bind Q (mark_at mark.Comma t.rest) _ (λ z1 e2 b2 c2.
      let h2 = mark-sound mark.Comma t.rest z1 e2 in
      let q2 = Ends-trans (q1) (to_ends (After-mark h2)) in
      bind Q ((row_at (rows s) z1.1).exprs h) _ (λ ts e3 b3 c3.
      let h3 = exprs_of S n F s l H h ts (q2) e3 in
      let q3 = Ends-trans (q2) (to_ends (After-exprs h3)) in
      from_some Q c3 (g.AreExprs.more_exprs h1 h2 h3)) b2 c2) b1 c1) f c0

  pub exprs-sound : (h : Bool) (x : Token) (f : Found (List Expr)) → exprs_step s (row_at (rows s)) h x ≡ Some f → exprs-at S h (x ∷ s) f
  unfolding exprs_step
  exprs-sound h x f c = let Q = exprs-at S h (x ∷ s) in either Q _ _ (read_one_expr-sound h x) (read_more_exprs-sound h x) f c
