-- What the grammar gives, the rows have.
use Rattle.std.proofs.Common.{◌≡◌, ℕ, suc, ◌≤◌, Bool, false, List, ◌∷◌, length, refl, Option, Some}
use Rattle.gs_syntax.specs.declared.token.Token.{Token}
use Rattle.gs_syntax.specs.declared.token.Operator.TheVariants as mark
use Rattle.gs_grammar.specs.declared.trees.Decl.{Decl}
use Rattle.gs_grammar.specs.declared.trees.ConstSpec.{ConstSpec}
use Rattle.gs_grammar.specs.declared.trees.TypeSpec.{TypeSpec}
use Rattle.gs_grammar.specs.declared.trees.VarSpec.{VarSpec}
use Rattle.gs_grammar.specs.declared.trees.Expr.{Expr}
use Rattle.gs_grammar.specs.declared.trees.Simple.{Simple}
use Rattle.gs_grammar.specs.Grammar as g
use Rattle.gs_grammar.specs.Front.{IsMark, IsWord, IsName, IsFront, mark_at, word_at, name_at, text_at, front_at, is_goes_on, is_spec_end, is_step, is_stmt_end}
use Rattle.gs_grammar.specs.Parts.{found}
use Rattle.gs_grammar.specs.Reference.{row_at, rows, simple_step, const_spec_step, const_specs_step, type_spec_step, type_specs_step, var_spec_step, var_specs_step, decl_step, values_step, target_step, read_assign, read_define, read_expression, read_send, read_step, read_update, read_implicit, read_untyped, read_typed_const, read_last_const, read_more_consts, read_no_consts, read_definition, read_alias, read_last_type_spec, read_more_type_specs, read_no_type_specs, read_var_values, read_typed_var, read_typed_values, read_last_var, read_more_vars, read_no_vars, read_const_decl, read_const_group, read_type_decl, read_type_group, read_var_decl, read_var_group, read_some_values, read_no_values, read_a_target, read_no_target}
use Rattle.gs_grammar.proofs.Common.{here, Ends-trans, to_ends, ends_of, mark-exact, front-exact, mark-other, mark-no-front, mark-front, front-no-mark, front-no-name, front-no-front, front-front, front-of, no-front-mark, After-mark, After-front}
use Rattle.gs_grammar.proofs.Afters.{After-idents, After-type, After-expr, After-exprs, After-const_spec, After-type_spec, After-var_spec}
use Rattle.gs_grammar.proofs.Fits.{Fits, AllSound, AllExact}
use Rattle.gs_grammar.proofs.LaterExact.{type_at, expr_at, exprs_at, const_spec_at, const_specs_at, type_spec_at, type_specs_at, var_spec_at, var_specs_at}
use Rattle.gs_grammar.proofs.Nones.{step-is-goes_on, stmt_end-not-name, update-is-goes_on, update-not-step, none-const_spec-i-mark_RightParen, none-exprs-false-stmt_end, none-type_spec-mark_RightParen, none-var_spec-mark_RightParen}
use Rattle.gs_grammar.proofs.ExactOne.{idents-exact}
use Rattle.gs_grammar.proofs.ExactTwo.{expr-exact}
use Rattle.gs_grammar.proofs.ExactThree.{exprs-exact}

module _ (S : g.Part → List Token → List Token → Type 0) (n : ℕ) (F : Fits S n) (s : List Token) (l : suc (length s) ≤ n) (H : AllSound S n s) (X : AllExact S n s) where
  pub simple-exact : {h : Bool} {t0 : Token} {t : Simple} {r : List Token} {d : ℕ} → g.IsSimple S h t (t0 ∷ s) r d → simple_step s (row_at (rows s)) h t0 ≡ Some (found t r d)
  unfolding simple_step read_assign read_define read_expression read_send read_step read_update mark_at word_at name_at text_at front_at
  simple-exact {h = h} (g.IsSimple.assign h1 h2 h3) = simp (exprs-exact S n F s l H X h1, mark-exact h2, exprs_at S n F s l H X (Ends-trans (ends_of (After-exprs h1)) (to_ends (After-mark h2))) h3)
  simple-exact {h = h} (g.IsSimple.define h1 h2 h3) = simp (exprs-exact S n F s l H X h1, mark-exact h2, mark-other mark.Assign refl h2, exprs_at S n F s l H X (Ends-trans (ends_of (After-exprs h1)) (to_ends (After-mark h2))) h3)
  simple-exact {h = h} (g.IsSimple.expression h1 h2) = simp (expr-exact S n F s l H X h1, h2, no-front-mark is_goes_on mark.Assign _ refl h2, no-front-mark is_goes_on mark.Define _ refl h2, exprs-exact S n F s l H X (g.AreExprs.one_expr h1 (no-front-mark is_goes_on mark.Comma _ refl h2)))
  simple-exact {h = h} (g.IsSimple.send h1 h2 h3) = simp (expr-exact S n F s l H X h1, mark-exact h2, mark-other mark.Assign refl h2, mark-other mark.Define refl h2, mark-front is_goes_on refl h2, expr_at S n F s l H X (Ends-trans (ends_of (After-expr h1)) (to_ends (After-mark h2))) h3, exprs-exact S n F s l H X (g.AreExprs.one_expr h1 (mark-other mark.Comma refl h2)))
  simple-exact {h = h} (g.IsSimple.step h1 h2) = simp (expr-exact S n F s l H X h1, front-exact h2, front-no-mark mark.Assign refl h2, front-no-mark mark.Define refl h2, front-front is_goes_on step-is-goes_on h2, front-no-mark mark.Arrow refl h2, exprs-exact S n F s l H X (g.AreExprs.one_expr h1 (front-no-mark mark.Comma refl h2)))
  simple-exact {h = h} (g.IsSimple.update h1 h2 h3) = simp (expr-exact S n F s l H X h1, front-exact h2, front-no-mark mark.Assign refl h2, front-no-mark mark.Define refl h2, front-front is_goes_on update-is-goes_on h2, front-no-mark mark.Arrow refl h2, front-no-front is_step update-not-step h2, expr_at S n F s l H X (Ends-trans (ends_of (After-expr h1)) (to_ends (After-front h2))) h3, exprs-exact S n F s l H X (g.AreExprs.one_expr h1 (front-no-mark mark.Comma refl h2)))

  pub const_spec-exact : {i : Bool} {t0 : Token} {t : ConstSpec} {r : List Token} {d : ℕ} → g.IsConstSpec S i t (t0 ∷ s) r d → const_spec_step s (row_at (rows s)) i t0 ≡ Some (found t r d)
  unfolding const_spec_step read_implicit read_untyped read_typed_const mark_at word_at name_at text_at front_at
  const_spec-exact {i = i} (g.IsConstSpec.implicit h1 h2 h3) = simp (idents-exact S n F s l H X h1, front-exact h2, h3)
  const_spec-exact {i = i} (g.IsConstSpec.untyped h1 h2 h3) = simp (idents-exact S n F s l H X h1, mark-exact h2, mark-no-front is_spec_end refl h2, exprs_at S n F s l H X (Ends-trans (ends_of (After-idents h1)) (to_ends (After-mark h2))) h3)
  const_spec-exact {i = i} (g.IsConstSpec.typed_const h1 h2 h3 h4 h5 h6) = simp (idents-exact S n F s l H X h1, h2, h3, type_at S n F s l H X (ends_of (After-idents h1)) h4, mark-exact h5, exprs_at S n F s l H X (Ends-trans (Ends-trans (ends_of (After-idents h1)) (to_ends (After-type h4))) (to_ends (After-mark h5))) h6)

  pub const_specs-exact : {i : Bool} {t0 : Token} {t : List ConstSpec} {r : List Token} {d : ℕ} → g.AreConstSpecs S i t (t0 ∷ s) r d → const_specs_step s (row_at (rows s)) i t0 ≡ Some (found t r d)
  unfolding const_specs_step read_last_const read_more_consts read_no_consts mark_at word_at name_at text_at front_at
  const_specs-exact {i = i} (g.AreConstSpecs.last_const h1 h2) = simp (const_spec-exact h1, mark-exact h2)
  const_specs-exact {i = i} (g.AreConstSpecs.more_consts h1 h2 h3) = simp (const_spec-exact h1, front-exact h2, front-no-mark mark.RightParen refl h2, const_specs_at S n F s l H X (Ends-trans (ends_of (After-const_spec h1)) (to_ends (After-front h2))) h3)
  const_specs-exact {i = i} (g.AreConstSpecs.no_consts (IsMark.a_mark {p = p_})) = simp (none-const_spec-i-mark_RightParen s (row_at (rows s)) i p_)

  pub type_spec-exact : {t0 : Token} {t : TypeSpec} {r : List Token} {d : ℕ} → g.IsTypeSpec S t (t0 ∷ s) r d → type_spec_step s (row_at (rows s)) t0 ≡ Some (found t r d)
  unfolding type_spec_step read_definition read_alias mark_at word_at name_at text_at front_at
  type_spec-exact (g.IsTypeSpec.definition (IsName.a_name {a = a_} {p = p_}) h2 h3) = simp (h2, type_at S n F s l H X (here) h3)
  type_spec-exact (g.IsTypeSpec.alias (IsName.a_name {a = a_} {p = p_}) h2 h3) = simp (mark-exact h2, type_at S n F s l H X (Ends-trans (here) (to_ends (After-mark h2))) h3)

  pub type_specs-exact : {t0 : Token} {t : List TypeSpec} {r : List Token} {d : ℕ} → g.AreTypeSpecs S t (t0 ∷ s) r d → type_specs_step s (row_at (rows s)) t0 ≡ Some (found t r d)
  unfolding type_specs_step read_last_type_spec read_more_type_specs read_no_type_specs mark_at word_at name_at text_at front_at
  type_specs-exact (g.AreTypeSpecs.last_type_spec h1 h2) = simp (type_spec-exact h1, mark-exact h2)
  type_specs-exact (g.AreTypeSpecs.more_type_specs h1 h2 h3) = simp (type_spec-exact h1, front-exact h2, front-no-mark mark.RightParen refl h2, type_specs_at S n F s l H X (Ends-trans (ends_of (After-type_spec h1)) (to_ends (After-front h2))) h3)
  type_specs-exact (g.AreTypeSpecs.no_type_specs (IsMark.a_mark {p = p_})) = simp (none-type_spec-mark_RightParen s (row_at (rows s)) p_)

  pub var_spec-exact : {t0 : Token} {t : VarSpec} {r : List Token} {d : ℕ} → g.IsVarSpec S t (t0 ∷ s) r d → var_spec_step s (row_at (rows s)) t0 ≡ Some (found t r d)
  unfolding var_spec_step read_var_values read_typed_var read_typed_values mark_at word_at name_at text_at front_at
  var_spec-exact (g.IsVarSpec.var_values h1 h2 h3) = simp (idents-exact S n F s l H X h1, mark-exact h2, exprs_at S n F s l H X (Ends-trans (ends_of (After-idents h1)) (to_ends (After-mark h2))) h3)
  var_spec-exact (g.IsVarSpec.typed_var h1 h2 h3 h4) = simp (idents-exact S n F s l H X h1, h2, type_at S n F s l H X (ends_of (After-idents h1)) h3, h4)
  var_spec-exact (g.IsVarSpec.typed_values h1 h2 h3 h4 h5) = simp (idents-exact S n F s l H X h1, h2, type_at S n F s l H X (ends_of (After-idents h1)) h3, mark-exact h4, exprs_at S n F s l H X (Ends-trans (Ends-trans (ends_of (After-idents h1)) (to_ends (After-type h3))) (to_ends (After-mark h4))) h5)

  pub var_specs-exact : {t0 : Token} {t : List VarSpec} {r : List Token} {d : ℕ} → g.AreVarSpecs S t (t0 ∷ s) r d → var_specs_step s (row_at (rows s)) t0 ≡ Some (found t r d)
  unfolding var_specs_step read_last_var read_more_vars read_no_vars mark_at word_at name_at text_at front_at
  var_specs-exact (g.AreVarSpecs.last_var h1 h2) = simp (var_spec-exact h1, mark-exact h2)
  var_specs-exact (g.AreVarSpecs.more_vars h1 h2 h3) = simp (var_spec-exact h1, front-exact h2, front-no-mark mark.RightParen refl h2, var_specs_at S n F s l H X (Ends-trans (ends_of (After-var_spec h1)) (to_ends (After-front h2))) h3)
  var_specs-exact (g.AreVarSpecs.no_vars (IsMark.a_mark {p = p_})) = simp (none-var_spec-mark_RightParen s (row_at (rows s)) p_)

  pub decl-exact : {t0 : Token} {t : Decl} {r : List Token} {d : ℕ} → g.IsDecl S t (t0 ∷ s) r d → decl_step s (row_at (rows s)) t0 ≡ Some (found t r d)
  unfolding decl_step read_const_decl read_const_group read_type_decl read_type_group read_var_decl read_var_group mark_at word_at name_at text_at front_at
  decl-exact (g.IsDecl.const_decl (IsWord.a_word {p = p_}) h2 h3) = simp (h2, const_spec_at S n F s l H X (here) h3)
  decl-exact (g.IsDecl.const_group (IsWord.a_word {p = p_}) h2 h3 h4) = simp (mark-exact h2, const_specs_at S n F s l H X (Ends-trans (here) (to_ends (After-mark h2))) h3, mark-exact h4)
  decl-exact (g.IsDecl.type_decl (IsWord.a_word {p = p_}) h2 h3) = simp (h2, type_spec_at S n F s l H X (here) h3)
  decl-exact (g.IsDecl.type_group (IsWord.a_word {p = p_}) h2 h3 h4) = simp (mark-exact h2, type_specs_at S n F s l H X (Ends-trans (here) (to_ends (After-mark h2))) h3, mark-exact h4)
  decl-exact (g.IsDecl.var_decl (IsWord.a_word {p = p_}) h2 h3) = simp (h2, var_spec_at S n F s l H X (here) h3)
  decl-exact (g.IsDecl.var_group (IsWord.a_word {p = p_}) h2 h3 h4) = simp (mark-exact h2, var_specs_at S n F s l H X (Ends-trans (here) (to_ends (After-mark h2))) h3, mark-exact h4)

  pub values-exact : {t0 : Token} {t : List Expr} {r : List Token} {d : ℕ} → g.AreValues S t (t0 ∷ s) r d → values_step s (row_at (rows s)) t0 ≡ Some (found t r d)
  unfolding values_step read_some_values read_no_values mark_at word_at name_at text_at front_at
  values-exact (g.AreValues.some_values h1) = simp (exprs-exact S n F s l H X h1)
  values-exact (g.AreValues.no_values (IsFront.a_front {k = k_} {p = p_} e_)) = simp (e_, none-exprs-false-stmt_end s (row_at (rows s)) false k_ p_ e_)

  pub target-exact : {t0 : Token} {t : Option Token} {r : List Token} {d : ℕ} → g.IsTarget S t (t0 ∷ s) r d → target_step s (row_at (rows s)) t0 ≡ Some (found t r d)
  unfolding target_step read_a_target read_no_target mark_at word_at name_at text_at front_at
  target-exact (g.IsTarget.a_target (IsName.a_name {a = a_} {p = p_})) = refl
  target-exact (g.IsTarget.no_target (IsFront.a_front {k = k_} {p = p_} e_)) = simp (e_, front-no-name stmt_end-not-name (front-of is_stmt_end {k = k_} {p = p_} {r = s} e_))
