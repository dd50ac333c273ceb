-- What the grammar gives, the rows have.
use Rattle.std.proofs.Common.{◌≡◌, ℕ, suc, ◌<◌, ◌≤◌, Bool, true, false, List, ◌∷◌, length, refl, sym, ◌∙◌, Option, Some}
use Rattle.gs_syntax.specs.declared.token.Span.{Span}
use Rattle.gs_syntax.specs.declared.token.Token.{Token}
use Rattle.gs_syntax.specs.declared.token.Operator.TheVariants as mark
use Rattle.gs_grammar.specs.declared.trees.Expr.{Expr}
use Rattle.gs_grammar.specs.declared.trees.Suffix.{Suffix}
use Rattle.gs_grammar.specs.declared.trees.Element.{Element}
use Rattle.gs_grammar.specs.declared.trees.ElementValue.{ElementValue}
use Rattle.gs_grammar.specs.Grammar as g
use Rattle.gs_grammar.specs.Front.{IsMark, IsFront, mark_at, word_at, name_at, text_at, front_at}
use Rattle.gs_grammar.specs.Parts.{found}
use Rattle.gs_grammar.specs.Reference.{row_at, rows, bound_step, args_step, suffix_step, suffixes_step, operand_step, operands_step, value_step, element_step, elements_step, exprs_step, read_a_bound, read_no_bound, read_spread, read_last_arg, read_more_args, read_no_args, read_selector, read_assertion, read_open_slice, read_open_full_slice, read_index, read_slice_expr, read_full_slice, read_call, read_more_suffixes, read_no_suffixes, read_operand, read_more_operands, read_no_operands, read_value_expr, read_value_literal, read_plain_element, read_keyed_element, read_last_element, read_more_elements, read_no_elements, read_one_expr, read_more_exprs}
use Rattle.gs_grammar.proofs.Common.{here, Ends-trans, to_ends, ends_of, mark-exact, name-exact, mark-other, mark-no-name, trail-exact, no-trail, After-mark}
use Rattle.gs_grammar.proofs.Rows.{suffix-cons, operand-cons}
use Rattle.gs_grammar.proofs.Afters.{After-suffix, After-expr, After-operand, After-value, After-element}
use Rattle.gs_grammar.proofs.Fits.{Fits, AllSound, AllExact, lacking-suffix, lacking-operand}
use Rattle.gs_grammar.proofs.LaterExact.{type_at, bound_at, args_at, suffixes_at, expr_at, operands_at, value_at, elements_at, exprs_at}
use Rattle.gs_grammar.proofs.Nones.{none-element-mark_RightBrace, none-expr-5-false-false-bound_end, none-expr-5-false-false-mark_LeftBrace, none-expr-5-false-true-mark_RightParen}
use Rattle.gs_grammar.proofs.ExactTwo.{expr-exact}

module _ (S : g.Part → List Token → List Token → Type 0) (n : ℕ) (F : Fits S n) (s : List Token) (l : suc (length s) ≤ n) (H : AllSound S n s) (X : AllExact S n s) where
  pub bound-exact : {t0 : Token} {t : Option Expr} {r : List Token} {d : ℕ} → g.IsBound S t (t0 ∷ s) r d → bound_step s (row_at (rows s)) t0 ≡ Some (found t r d)
  unfolding bound_step read_a_bound read_no_bound mark_at word_at name_at text_at front_at
  bound-exact (g.IsBound.a_bound h1) = simp (expr-exact S n F s l H X h1)
  bound-exact (g.IsBound.no_bound (IsFront.a_front {k = k_} {p = p_} e_)) = simp (e_, none-expr-5-false-false-bound_end s (row_at (rows s)) 5 false false k_ p_ e_)

  pub args-exact : {t0 : Token} {t : List Expr × Option Span} {r : List Token} {d : ℕ} → g.AreArgs S t (t0 ∷ s) r d → args_step s (row_at (rows s)) t0 ≡ Some (found t r d)
  unfolding args_step read_spread read_last_arg read_more_args read_no_args mark_at word_at name_at text_at front_at
  args-exact (g.AreArgs.spread h1 h2 h3) = simp (expr-exact S n F s l H X h1, mark-exact h2, trail-exact refl h3)
  args-exact (g.AreArgs.last_arg h1 h2 h3) = simp (expr-exact S n F s l H X h1, h2, trail-exact refl h3)
  args-exact (g.AreArgs.more_args h1 h2 h3 h4) = simp (expr-exact S n F s l H X h1, mark-exact h2, mark-other mark.Ellipsis refl h2, h3, args_at S n F s l H X (Ends-trans (ends_of (After-expr h1)) (to_ends (After-mark h2))) h4, no-trail mark.RightParen refl h2 h3)
  args-exact (g.AreArgs.no_args (IsMark.a_mark {p = p_})) = simp (none-expr-5-false-true-mark_RightParen s (row_at (rows s)) 5 false true p_)

  pub suffix-exact : {t0 : Token} {t : Suffix} {r : List Token} {d : ℕ} → g.IsSuffix S t (t0 ∷ s) r d → suffix_step s (row_at (rows s)) t0 ≡ Some (found t r d)
  unfolding suffix_step read_selector read_assertion read_open_slice read_open_full_slice read_index read_slice_expr read_full_slice read_call mark_at word_at name_at text_at front_at
  suffix-exact (g.IsSuffix.selector (IsMark.a_mark {p = p_}) h2) = simp (name-exact h2)
  suffix-exact (g.IsSuffix.assertion (IsMark.a_mark {p = p_}) h2 h3 h4) = simp (mark-exact h2, mark-no-name h2, type_at S n F s l H X (Ends-trans (here) (to_ends (After-mark h2))) h3, mark-exact h4)
  suffix-exact (g.IsSuffix.open_slice (IsMark.a_mark {p = p_}) h2 h3 h4) = simp (mark-exact h2, bound_at S n F s l H X (Ends-trans (here) (to_ends (After-mark h2))) h3, mark-exact h4)
  suffix-exact (g.IsSuffix.open_full_slice (IsMark.a_mark {p = p_}) h2 h3 h4 h5 h6) = simp (mark-exact h2, expr_at S n F s l H X (Ends-trans (here) (to_ends (After-mark h2))) h3, mark-exact h4, mark-other mark.RightBracket refl h4, expr_at S n F s l H X (Ends-trans (Ends-trans (Ends-trans (here) (to_ends (After-mark h2))) (to_ends (After-expr h3))) (to_ends (After-mark h4))) h5, mark-exact h6, bound_at S n F s l H X (Ends-trans (here) (to_ends (After-mark h2))) (g.IsBound.a_bound h3))
  suffix-exact (g.IsSuffix.index (IsMark.a_mark {p = p_}) h2 h3 h4) = simp (h2, expr_at S n F s l H X (here) h3, mark-exact h4, mark-other mark.Colon refl h4)
  suffix-exact (g.IsSuffix.slice_expr (IsMark.a_mark {p = p_}) h2 h3 h4 h5 h6) = simp (h2, expr_at S n F s l H X (here) h3, mark-exact h4, mark-other mark.RightBracket refl h4, bound_at S n F s l H X (Ends-trans (Ends-trans (here) (to_ends (After-expr h3))) (to_ends (After-mark h4))) h5, mark-exact h6)
  suffix-exact (g.IsSuffix.full_slice (IsMark.a_mark {p = p_}) h2 h3 h4 h5 h6 h7 h8) = simp (h2, expr_at S n F s l H X (here) h3, mark-exact h4, mark-other mark.RightBracket refl h4, expr_at S n F s l H X (Ends-trans (Ends-trans (here) (to_ends (After-expr h3))) (to_ends (After-mark h4))) h5, mark-exact h6, mark-other mark.RightBracket refl h6, expr_at S n F s l H X (Ends-trans (Ends-trans (Ends-trans (Ends-trans (here) (to_ends (After-expr h3))) (to_ends (After-mark h4))) (to_ends (After-expr h5))) (to_ends (After-mark h6))) h7, mark-exact h8, bound_at S n F s l H X (Ends-trans (Ends-trans (here) (to_ends (After-expr h3))) (to_ends (After-mark h4))) (g.IsBound.a_bound h5))
  suffix-exact (g.IsSuffix.call (IsMark.a_mark {p = p_}) h2 h3) = simp (args_at S n F s l H X (here) h2, mark-exact h3)

  pub suffixes-exact : {t0 : Token} {t : List Suffix} {r : List Token} {d : ℕ} → length (t0 ∷ s) < n → g.AreSuffixes S t (t0 ∷ s) r d → suffixes_step s (row_at (rows s)) t0 ≡ Some (found t r d)
  unfolding suffixes_step read_more_suffixes read_no_suffixes mark_at word_at name_at text_at front_at
  suffixes-exact below (g.AreSuffixes.more_suffixes h1 h2) = simp (suffix-exact h1, suffixes_at S n F s l H X (ends_of (After-suffix h1)) h2)
  suffixes-exact {t0 = t0} below (g.AreSuffixes.no_suffixes h1) = simp (sym (suffix-cons t0 s) ∙ lacking-suffix S n F (t0 ∷ s) below h1)

  pub operand-exact : {m : ℕ} {h : Bool} {t0 : Token} {t : Token × Expr} {r : List Token} {d : ℕ} → g.IsOperand S m h t (t0 ∷ s) r d → operand_step s (row_at (rows s)) m h t0 ≡ Some (found t r d)
  unfolding operand_step read_operand mark_at word_at name_at text_at front_at
  operand-exact {m = m} {h = h} (g.IsOperand.operand (IsFront.a_front {k = k_} {p = p_} e_) h2) = simp (e_, expr_at S n F s l H X (here) h2)

  pub operands-exact : {m : ℕ} {h : Bool} {t0 : Token} {t : List (Token × Expr)} {r : List Token} {d : ℕ} → length (t0 ∷ s) < n → g.AreOperands S m h t (t0 ∷ s) r d → operands_step s (row_at (rows s)) m h t0 ≡ Some (found t r d)
  unfolding operands_step read_more_operands read_no_operands mark_at word_at name_at text_at front_at
  operands-exact {m = m} {h = h} below (g.AreOperands.more_operands h1 h2) = simp (operand-exact h1, operands_at S n F s l H X (ends_of (After-operand h1)) h2)
  operands-exact {m = m} {h = h} {t0 = t0} below (g.AreOperands.no_operands h1) = simp (sym (operand-cons m h t0 s) ∙ lacking-operand S n F m h (t0 ∷ s) below h1)

  pub value-exact : {t0 : Token} {t : ElementValue} {r : List Token} {d : ℕ} → g.IsValue S t (t0 ∷ s) r d → value_step s (row_at (rows s)) t0 ≡ Some (found t r d)
  unfolding value_step read_value_expr read_value_literal mark_at word_at name_at text_at front_at
  value-exact (g.IsValue.value_expr h1) = simp (expr-exact S n F s l H X h1)
  value-exact (g.IsValue.value_literal (IsMark.a_mark {p = p_}) h2 h3) = simp (elements_at S n F s l H X (here) h2, mark-exact h3, none-expr-5-false-false-mark_LeftBrace s (row_at (rows s)) 5 false false p_)

  pub element-exact : {t0 : Token} {t : Element} {r : List Token} {d : ℕ} → g.IsElement S t (t0 ∷ s) r d → element_step s (row_at (rows s)) t0 ≡ Some (found t r d)
  unfolding element_step read_plain_element read_keyed_element mark_at word_at name_at text_at front_at
  element-exact (g.IsElement.plain_element h1 h2) = simp (value-exact h1, h2)
  element-exact (g.IsElement.keyed_element h1 h2 h3) = simp (value-exact h1, mark-exact h2, value_at S n F s l H X (Ends-trans (ends_of (After-value h1)) (to_ends (After-mark h2))) h3)

  pub elements-exact : {t0 : Token} {t : List Element} {r : List Token} {d : ℕ} → g.AreElements S t (t0 ∷ s) r d → elements_step s (row_at (rows s)) t0 ≡ Some (found t r d)
  unfolding elements_step read_last_element read_more_elements read_no_elements mark_at word_at name_at text_at front_at
  elements-exact (g.AreElements.last_element h1 h2) = simp (element-exact h1, trail-exact refl h2)
  elements-exact (g.AreElements.more_elements h1 h2 h3 h4) = simp (element-exact h1, mark-exact h2, h3, elements_at S n F s l H X (Ends-trans (ends_of (After-element h1)) (to_ends (After-mark h2))) h4, no-trail mark.RightBrace refl h2 h3)
  elements-exact (g.AreElements.no_elements (IsMark.a_mark {p = p_})) = simp (none-element-mark_RightBrace s (row_at (rows s)) p_)

  pub exprs-exact : {h : Bool} {t0 : Token} {t : List Expr} {r : List Token} {d : ℕ} → g.AreExprs S h t (t0 ∷ s) r d → exprs_step s (row_at (rows s)) h t0 ≡ Some (found t r d)
  unfolding exprs_step read_one_expr read_more_exprs mark_at word_at name_at text_at front_at
  exprs-exact {h = h} (g.AreExprs.one_expr h1 h2) = simp (expr-exact S n F s l H X h1, h2)
  exprs-exact {h = h} (g.AreExprs.more_exprs h1 h2 h3) = simp (expr-exact S n F s l H X h1, mark-exact h2, exprs_at S n F s l H X (Ends-trans (ends_of (After-expr h1)) (to_ends (After-mark h2))) h3)
