-- What the rows have, the grammar gives.
use Rattle.std.proofs.Common.{◌≡◌, ℕ, suc, ◌≤◌, Bool, true, false, not, List, ◌∷◌, length, Option, Some, is_none}
use Rattle.gs_syntax.specs.declared.token.Token.{Token}
use Rattle.gs_syntax.specs.declared.token.Operator.TheVariants as mark
use Rattle.gs_syntax.specs.declared.token.Keyword.TheVariants as word
use Rattle.gs_grammar.specs.declared.trees.Decl.{Decl}
use Rattle.gs_grammar.specs.declared.trees.ConstSpec.{ConstSpec}
use Rattle.gs_grammar.specs.declared.trees.TypeSpec.{TypeSpec}
use Rattle.gs_grammar.specs.declared.trees.VarSpec.{VarSpec}
use Rattle.gs_grammar.specs.declared.trees.Expr.{Expr}
use Rattle.gs_grammar.specs.declared.trees.Simple.{Simple}
use Rattle.gs_grammar.specs.Grammar as g
use Rattle.gs_grammar.specs.Front.{mark_at, word_at, name_at, front_at, is_goes_on, is_semi, is_spec_end, is_step, is_stmt_end, is_update}
use Rattle.gs_grammar.specs.Parts.{Found}
use Rattle.gs_grammar.specs.Reference.{row_at, rows, idents_step, expr_step, exprs_step, simple_step, const_spec_step, const_specs_step, type_spec_step, type_specs_step, var_spec_step, var_specs_step, decl_step, values_step, target_step, read_assign, read_define, read_expression, read_send, read_step, read_update, read_implicit, read_untyped, read_typed_const, read_last_const, read_more_consts, read_no_consts, read_definition, read_alias, read_last_type_spec, read_more_type_specs, read_no_type_specs, read_var_values, read_typed_var, read_typed_values, read_last_var, read_more_vars, read_no_vars, read_const_decl, read_const_group, read_type_decl, read_type_group, read_var_decl, read_var_group, read_some_values, read_no_values, read_a_target, read_no_target}
use Rattle.gs_grammar.proofs.Common.{Ends-trans, to_ends, ends_of, from_some, bind, either, guard, none-of, not-true, mark-sound, word-sound, name-sound, front-sound, After-mark, After-word, After-name, After-front}
use Rattle.gs_grammar.proofs.Afters.{After-idents, After-type, After-expr, After-exprs, After-const_spec, Ends-const_specs, After-type_spec, Ends-type_specs, After-var_spec, Ends-var_specs}
use Rattle.gs_grammar.proofs.Fits.{Fits, AllSound, simple-at, const_spec-at, const_specs-at, type_spec-at, type_specs-at, var_spec-at, var_specs-at, decl-at, values-at, target-at}
use Rattle.gs_grammar.proofs.Later.{type_of, expr_of, exprs_of, const_spec_of, const_specs_of, type_spec_of, type_specs_of, var_spec_of, var_specs_of}
use Rattle.gs_grammar.proofs.SoundOne.{idents-sound}
use Rattle.gs_grammar.proofs.SoundTwo.{expr-sound}
use Rattle.gs_grammar.proofs.SoundThree.{exprs-sound}

module _ (S : g.Part → List Token → List Token → Type 0) (n : ℕ) (F : Fits S n) (s : List Token) (l : suc (length s) ≤ n) (H : AllSound S n s) where
  read_assign-sound : (h : Bool) (t0 : Token) (f : Found Simple) → read_assign s (row_at (rows s)) h t0 ≡ Some f → simple-at S h (t0 ∷ s) f
  unfolding read_assign
  read_assign-sound h t0 f c0 =
      let Q = simple-at S h (t0 ∷ s) in
      bind Q (exprs_step s (row_at (rows s)) h t0) _ (λ ts e1 b1 c1.
      let h1 = exprs-sound S n F s l H h t0 ts e1 in
      let q1 = ends_of (After-exprs h1) in
      bind Q (mark_at mark.Assign ts.rest) _ (λ p e2 b2 c2.
      let h2 = mark-sound mark.Assign ts.rest p e2 in
      let q2 = Ends-trans (q1) (to_ends (After-mark h2)) in
      bind Q ((row_at (rows s) p.1).exprs h) _ (λ us e3 b3 c3.
      let h3 = exprs_of S n F s l H h us (q2) e3 in
      let q3 = Ends-trans (q2) (to_ends (After-exprs h3)) in
      from_some Q c3 (g.IsSimple.assign h1 h2 h3)) b2 c2) b1 c1) f c0

  read_define-sound : (h : Bool) (t0 : Token) (f : Found Simple) → read_define s (row_at (rows s)) h t0 ≡ Some f → simple-at S h (t0 ∷ s) f
  unfolding read_define
  read_define-sound h t0 f c0 =
      let Q = simple-at S h (t0 ∷ s) in
      bind Q (exprs_step s (row_at (rows s)) h t0) _ (λ ts e1 b1 c1.
      let h1 = exprs-sound S n F s l H h t0 ts e1 in
      let q1 = ends_of (After-exprs h1) in
      bind Q (mark_at mark.Define ts.rest) _ (λ p e2 b2 c2.
      let h2 = mark-sound mark.Define ts.rest p e2 in
      let q2 = Ends-trans (q1) (to_ends (After-mark h2)) in
      bind Q ((row_at (rows s) p.1).exprs h) _ (λ us e3 b3 c3.
      let h3 = exprs_of S n F s l H h us (q2) e3 in
      let q3 = Ends-trans (q2) (to_ends (After-exprs h3)) in
      from_some Q c3 (g.IsSimple.define h1 h2 h3)) b2 c2) b1 c1) f c0

  read_expression-sound : (h : Bool) (t0 : Token) (f : Found Simple) → read_expression s (row_at (rows s)) h t0 ≡ Some f → simple-at S h (t0 ∷ s) f
  unfolding read_expression
  read_expression-sound h t0 f c0 =
      let Q = simple-at S h (t0 ∷ s) in
      bind Q (expr_step s (row_at (rows s)) 5 h false t0) _ (λ t e1 b1 c1.
      let h1 = expr-sound S n F s l H 5 h false t0 t e1 in
      let q1 = ends_of (After-expr h1) in
      guard Q (is_none (front_at is_goes_on t.rest)) _ (λ e2 b2 c2.
      let h2 = none-of _ e2 in
      from_some Q c2 (g.IsSimple.expression h1 h2)) b1 c1) f c0

  read_send-sound : (h : Bool) (t0 : Token) (f : Found Simple) → read_send s (row_at (rows s)) h t0 ≡ Some f → simple-at S h (t0 ∷ s) f
  unfolding read_send
  read_send-sound h t0 f c0 =
      let Q = simple-at S h (t0 ∷ s) in
      bind Q (expr_step s (row_at (rows s)) 5 h false t0) _ (λ t e1 b1 c1.
      let h1 = expr-sound S n F s l H 5 h false t0 t e1 in
      let q1 = ends_of (After-expr h1) in
      bind Q (mark_at mark.Arrow t.rest) _ (λ p e2 b2 c2.
      let h2 = mark-sound mark.Arrow t.rest p e2 in
      let q2 = Ends-trans (q1) (to_ends (After-mark h2)) in
      bind Q ((row_at (rows s) p.1).expr 5 h false) _ (λ u e3 b3 c3.
      let h3 = expr_of S n F s l H 5 h false u (q2) e3 in
      let q3 = Ends-trans (q2) (to_ends (After-expr h3)) in
      from_some Q c3 (g.IsSimple.send h1 h2 h3)) b2 c2) b1 c1) f c0

  read_step-sound : (h : Bool) (t0 : Token) (f : Found Simple) → read_step s (row_at (rows s)) h t0 ≡ Some f → simple-at S h (t0 ∷ s) f
  unfolding read_step
  read_step-sound h t0 f c0 =
      let Q = simple-at S h (t0 ∷ s) in
      bind Q (expr_step s (row_at (rows s)) 5 h false t0) _ (λ t e1 b1 c1.
      let h1 = expr-sound S n F s l H 5 h false t0 t e1 in
      let q1 = ends_of (After-expr h1) in
      bind Q (front_at is_step t.rest) _ (λ x e2 b2 c2.
      let h2 = front-sound is_step t.rest x e2 in
      let q2 = Ends-trans (q1) (to_ends (After-front h2)) in
      from_some Q c2 (g.IsSimple.step h1 h2)) b1 c1) f c0

  read_update-sound : (h : Bool) (t0 : Token) (f : Found Simple) → read_update s (row_at (rows s)) h t0 ≡ Some f → simple-at S h (t0 ∷ s) f
  unfolding read_update
  read_update-sound h t0 f c0 =
      let Q = simple-at S h (t0 ∷ s) in
      bind Q (expr_step s (row_at (rows s)) 5 h false t0) _ (λ t e1 b1 c1.
      let h1 = expr-sound S n F s l H 5 h false t0 t e1 in
      let q1 = ends_of (After-expr h1) in
      bind Q (front_at is_update t.rest) _ (λ x e2 b2 c2.
      let h2 = front-sound is_update t.rest x e2 in
      let q2 = Ends-trans (q1) (to_ends (After-front h2)) in
      bind Q ((row_at (rows s) x.1).expr 5 h false) _ (λ u e3 b3 c3.
      let h3 = expr_of S n F s l H 5 h false u (q2) e3 in
      let q3 = Ends-trans (q2) (to_ends (After-expr h3)) in
      from_some Q c3 (g.IsSimple.update h1 h2 h3)) b2 c2) b1 c1) f c0

  pub simple-sound : (h : Bool) (x : Token) (f : Found Simple) → simple_step s (row_at (rows s)) h x ≡ Some f → simple-at S h (x ∷ s) f
  unfolding simple_step
  simple-sound h x f c = let Q = simple-at S h (x ∷ s) in either Q _ _ (read_assign-sound h x) (λ b c1. either Q _ _ (read_define-sound h x) (λ b c1. either Q _ _ (read_expression-sound h x) (λ b c1. either Q _ _ (read_send-sound h x) (λ b c1. either Q _ _ (read_step-sound h x) (read_update-sound h x) b c1) b c1) b c1) b c1) f c

  read_implicit-sound : (i : Bool) (t0 : Token) (f : Found ConstSpec) → read_implicit s (row_at (rows s)) i t0 ≡ Some f → const_spec-at S i (t0 ∷ s) f
  unfolding read_implicit
  read_implicit-sound i t0 f c0 =
      let Q = const_spec-at S i (t0 ∷ s) in
      bind Q (idents_step s (row_at (rows s)) t0) _ (λ xs e1 b1 c1.
      let h1 = idents-sound S n F s l H t0 xs e1 in
      let q1 = ends_of (After-idents h1) in
      bind Q (front_at is_spec_end xs.rest) _ (λ z1 e2 b2 c2.
      let h2 = front-sound is_spec_end xs.rest z1 e2 in
      guard Q (not i) _ (λ e3 b3 c3.
      let h3 = not-true _ e3 in
      from_some Q c3 (g.IsConstSpec.implicit h1 h2 h3)) b2 c2) b1 c1) f c0

  read_untyped-sound : (i : Bool) (t0 : Token) (f : Found ConstSpec) → read_untyped s (row_at (rows s)) i t0 ≡ Some f → const_spec-at S i (t0 ∷ s) f
  unfolding read_untyped
  read_untyped-sound i t0 f c0 =
      let Q = const_spec-at S i (t0 ∷ s) in
      bind Q (idents_step s (row_at (rows s)) t0) _ (λ xs e1 b1 c1.
      let h1 = idents-sound S n F s l H t0 xs e1 in
      let q1 = ends_of (After-idents h1) in
      bind Q (mark_at mark.Assign xs.rest) _ (λ z1 e2 b2 c2.
      let h2 = mark-sound mark.Assign xs.rest z1 e2 in
      let q2 = Ends-trans (q1) (to_ends (After-mark h2)) in
      bind Q ((row_at (rows s) z1.1).exprs false) _ (λ ts e3 b3 c3.
      let h3 = exprs_of S n F s l H false ts (q2) e3 in
      let q3 = Ends-trans (q2) (to_ends (After-exprs h3)) in
      from_some Q c3 (g.IsConstSpec.untyped h1 h2 h3)) b2 c2) b1 c1) f c0

  read_typed_const-sound : (i : Bool) (t0 : Token) (f : Found ConstSpec) → read_typed_const s (row_at (rows s)) i t0 ≡ Some f → const_spec-at S i (t0 ∷ s) f
  unfolding read_typed_const
  read_typed_const-sound i t0 f c0 =
      let Q = const_spec-at S i (t0 ∷ s) in
      bind Q (idents_step s (row_at (rows s)) t0) _ (λ xs e1 b1 c1.
      let h1 = idents-sound S n F s l H t0 xs e1 in
      let q1 = ends_of (After-idents h1) in
      guard Q (is_none (front_at is_spec_end xs.rest)) _ (λ e2 b2 c2.
      let h2 = none-of _ e2 in
      guard Q (is_none (mark_at mark.Assign xs.rest)) _ (λ e3 b3 c3.
      let h3 = none-of _ e3 in
      bind Q ((row_at (rows s) xs.rest).type) _ (λ t e4 b4 c4.
      let h4 = type_of S n F s l H t (q1) e4 in
      let q4 = Ends-trans (q1) (to_ends (After-type h4)) in
      bind Q (mark_at mark.Assign t.rest) _ (λ z4 e5 b5 c5.
      let h5 = mark-sound mark.Assign t.rest z4 e5 in
      let q5 = Ends-trans (q4) (to_ends (After-mark h5)) in
      bind Q ((row_at (rows s) z4.1).exprs false) _ (λ ts e6 b6 c6.
      let h6 = exprs_of S n F s l H false ts (q5) e6 in
      let q6 = Ends-trans (q5) (to_ends (After-exprs h6)) in
      from_some Q c6 (g.IsConstSpec.typed_const h1 h2 h3 h4 h5 h6)) b5 c5) b4 c4) b3 c3) b2 c2) b1 c1) f c0

  pub const_spec-sound : (i : Bool) (x : Token) (f : Found ConstSpec) → const_spec_step s (row_at (rows s)) i x ≡ Some f → const_spec-at S i (x ∷ s) f
  unfolding const_spec_step
  const_spec-sound i x f c = let Q = const_spec-at S i (x ∷ s) in either Q _ _ (read_implicit-sound i x) (λ b c1. either Q _ _ (read_untyped-sound i x) (read_typed_const-sound i x) b c1) f c

  read_last_const-sound : (i : Bool) (t0 : Token) (f : Found (List ConstSpec)) → read_last_const s (row_at (rows s)) i t0 ≡ Some f → const_specs-at S i (t0 ∷ s) f
  unfolding read_last_const
  read_last_const-sound i t0 f c0 =
      let Q = const_specs-at S i (t0 ∷ s) in
      bind Q (const_spec_step s (row_at (rows s)) i t0) _ (λ c e1 b1 c1.
      let h1 = const_spec-sound i t0 c e1 in
      let q1 = ends_of (After-const_spec h1) in
      bind Q (mark_at mark.RightParen c.rest) _ (λ z1 e2 b2 c2.
      let h2 = mark-sound mark.RightParen c.rest z1 e2 in
      from_some Q c2 (g.AreConstSpecs.last_const h1 h2)) b1 c1) f c0

  read_more_consts-sound : (i : Bool) (t0 : Token) (f : Found (List ConstSpec)) → read_more_consts s (row_at (rows s)) i t0 ≡ Some f → const_specs-at S i (t0 ∷ s) f
  unfolding read_more_consts
  read_more_consts-sound i t0 f c0 =
      let Q = const_specs-at S i (t0 ∷ s) in
      bind Q (const_spec_step s (row_at (rows s)) i t0) _ (λ c e1 b1 c1.
      let h1 = const_spec-sound i t0 c e1 in
      let q1 = ends_of (After-const_spec h1) in
      bind Q (front_at is_semi c.rest) _ (λ x e2 b2 c2.
      let h2 = front-sound is_semi c.rest x e2 in
      let q2 = Ends-trans (q1) (to_ends (After-front h2)) in
      bind Q ((row_at (rows s) x.1).const_specs false) _ (λ cs e3 b3 c3.
      let h3 = const_specs_of S n F s l H false cs (q2) e3 in
      let q3 = Ends-trans (q2) (Ends-const_specs h3) in
      from_some Q c3 (g.AreConstSpecs.more_consts h1 h2 h3)) b2 c2) b1 c1) f c0

  read_no_consts-sound : (i : Bool) (t0 : Token) (f : Found (List ConstSpec)) → read_no_consts s (row_at (rows s)) i t0 ≡ Some f → const_specs-at S i (t0 ∷ s) f
  unfolding read_no_consts
  read_no_consts-sound i t0 f c0 =
      let Q = const_specs-at S i (t0 ∷ s) in
      bind Q (mark_at mark.RightParen (t0 ∷ s)) _ (λ z0 e1 b1 c1.
      let h1 = mark-sound mark.RightParen (t0 ∷ s) z0 e1 in
      from_some Q c1 (g.AreConstSpecs.no_consts h1)) f c0

  pub const_specs-sound : (i : Bool) (x : Token) (f : Found (List ConstSpec)) → const_specs_step s (row_at (rows s)) i x ≡ Some f → const_specs-at S i (x ∷ s) f
  unfolding const_specs_step
  const_specs-sound i x f c = let Q = const_specs-at S i (x ∷ s) in either Q _ _ (read_last_const-sound i x) (λ b c1. either Q _ _ (read_more_consts-sound i x) (read_no_consts-sound i x) b c1) f c

  read_definition-sound : (t0 : Token) (f : Found TypeSpec) → read_definition s (row_at (rows s)) t0 ≡ Some f → type_spec-at S (t0 ∷ s) f
  unfolding read_definition
  read_definition-sound t0 f c0 =
      let Q = type_spec-at S (t0 ∷ s) in
      bind Q (name_at (t0 ∷ s)) _ (λ x e1 b1 c1.
      let h1 = name-sound (t0 ∷ s) x e1 in
      let q1 = ends_of (After-name h1) in
      guard Q (is_none (mark_at mark.Assign x.1)) _ (λ e2 b2 c2.
      let h2 = none-of _ e2 in
      bind Q ((row_at (rows s) x.1).type) _ (λ t e3 b3 c3.
      let h3 = type_of S n F s l H t (q1) e3 in
      let q3 = Ends-trans (q1) (to_ends (After-type h3)) in
      from_some Q c3 (g.IsTypeSpec.definition h1 h2 h3)) b2 c2) b1 c1) f c0

  read_alias-sound : (t0 : Token) (f : Found TypeSpec) → read_alias s (row_at (rows s)) t0 ≡ Some f → type_spec-at S (t0 ∷ s) f
  unfolding read_alias
  read_alias-sound t0 f c0 =
      let Q = type_spec-at S (t0 ∷ s) in
      bind Q (name_at (t0 ∷ s)) _ (λ x e1 b1 c1.
      let h1 = name-sound (t0 ∷ s) x e1 in
      let q1 = ends_of (After-name h1) in
      bind Q (mark_at mark.Assign x.1) _ (λ z1 e2 b2 c2.
      let h2 = mark-sound mark.Assign x.1 z1 e2 in
      let q2 = Ends-trans (q1) (to_ends (After-mark h2)) in
      bind Q ((row_at (rows s) z1.1).type) _ (λ t e3 b3 c3.
      let h3 = type_of S n F s l H t (q2) e3 in
      let q3 = Ends-trans (q2) (to_ends (After-type h3)) in
      from_some Q c3 (g.IsTypeSpec.alias h1 h2 h3)) b2 c2) b1 c1) f c0

  pub type_spec-sound : (x : Token) (f : Found TypeSpec) → type_spec_step s (row_at (rows s)) x ≡ Some f → type_spec-at S (x ∷ s) f
  unfolding type_spec_step
  type_spec-sound x f c = let Q = type_spec-at S (x ∷ s) in either Q _ _ (read_definition-sound x) (read_alias-sound x) f c

  read_last_type_spec-sound : (t0 : Token) (f : Found (List TypeSpec)) → read_last_type_spec s (row_at (rows s)) t0 ≡ Some f → type_specs-at S (t0 ∷ s) f
  unfolding read_last_type_spec
  read_last_type_spec-sound t0 f c0 =
      let Q = type_specs-at S (t0 ∷ s) in
      bind Q (type_spec_step s (row_at (rows s)) t0) _ (λ c e1 b1 c1.
      let h1 = type_spec-sound t0 c e1 in
      let q1 = ends_of (After-type_spec h1) in
      bind Q (mark_at mark.RightParen c.rest) _ (λ z1 e2 b2 c2.
      let h2 = mark-sound mark.RightParen c.rest z1 e2 in
      from_some Q c2 (g.AreTypeSpecs.last_type_spec h1 h2)) b1 c1) f c0

  read_more_type_specs-sound : (t0 : Token) (f : Found (List TypeSpec)) → read_more_type_specs s (row_at (rows s)) t0 ≡ Some f → type_specs-at S (t0 ∷ s) f
  unfolding read_more_type_specs
  read_more_type_specs-sound t0 f c0 =
      let Q = type_specs-at S (t0 ∷ s) in
      bind Q (type_spec_step s (row_at (rows s)) t0) _ (λ c e1 b1 c1.
      let h1 = type_spec-sound t0 c e1 in
      let q1 = ends_of (After-type_spec h1) in
      bind Q (front_at is_semi c.rest) _ (λ x e2 b2 c2.
      let h2 = front-sound is_semi c.rest x e2 in
      let q2 = Ends-trans (q1) (to_ends (After-front h2)) in
      bind Q ((row_at (rows s) x.1).type_specs) _ (λ cs e3 b3 c3.
      let h3 = type_specs_of S n F s l H cs (q2) e3 in
      let q3 = Ends-trans (q2) (Ends-type_specs h3) in
      from_some Q c3 (g.AreTypeSpecs.more_type_specs h1 h2 h3)) b2 c2) b1 c1) f c0

  read_no_type_specs-sound : (t0 : Token) (f : Found (List TypeSpec)) → read_no_type_specs s (row_at (rows s)) t0 ≡ Some f → type_specs-at S (t0 ∷ s) f
  unfolding read_no_type_specs
  read_no_type_specs-sound t0 f c0 =
      let Q = type_specs-at S (t0 ∷ s) in
      bind Q (mark_at mark.RightParen (t0 ∷ s)) _ (λ z0 e1 b1 c1.
      let h1 = mark-sound mark.RightParen (t0 ∷ s) z0 e1 in
      from_some Q c1 (g.AreTypeSpecs.no_type_specs h1)) f c0

  pub type_specs-sound : (x : Token) (f : Found (List TypeSpec)) → type_specs_step s (row_at (rows s)) x ≡ Some f → type_specs-at S (x ∷ s) f
  unfolding type_specs_step
  type_specs-sound x f c = let Q = type_specs-at S (x ∷ s) in either Q _ _ (read_last_type_spec-sound x) (λ b c1. either Q _ _ (read_more_type_specs-sound x) (read_no_type_specs-sound x) b c1) f c

  read_var_values-sound : (t0 : Token) (f : Found VarSpec) → read_var_values s (row_at (rows s)) t0 ≡ Some f → var_spec-at S (t0 ∷ s) f
  unfolding read_var_values
  read_var_values-sound t0 f c0 =
      let Q = var_spec-at S (t0 ∷ s) in
      bind Q (idents_step s (row_at (rows s)) t0) _ (λ xs e1 b1 c1.
      let h1 = idents-sound S n F s l H t0 xs e1 in
      let q1 = ends_of (After-idents h1) in
      bind Q (mark_at mark.Assign xs.rest) _ (λ z1 e2 b2 c2.
      let h2 = mark-sound mark.Assign xs.rest z1 e2 in
      let q2 = Ends-trans (q1) (to_ends (After-mark h2)) in
      bind Q ((row_at (rows s) z1.1).exprs false) _ (λ ts e3 b3 c3.
      let h3 = exprs_of S n F s l H false ts (q2) e3 in
      let q3 = Ends-trans (q2) (to_ends (After-exprs h3)) in
      from_some Q c3 (g.IsVarSpec.var_values h1 h2 h3)) b2 c2) b1 c1) f c0

  read_typed_var-sound : (t0 : Token) (f : Found VarSpec) → read_typed_var s (row_at (rows s)) t0 ≡ Some f → var_spec-at S (t0 ∷ s) f
  unfolding read_typed_var
  read_typed_var-sound t0 f c0 =
      let Q = var_spec-at S (t0 ∷ s) in
      bind Q (idents_step s (row_at (rows s)) t0) _ (λ xs e1 b1 c1.
      let h1 = idents-sound S n F s l H t0 xs e1 in
      let q1 = ends_of (After-idents h1) in
      guard Q (is_none (mark_at mark.Assign xs.rest)) _ (λ e2 b2 c2.
      let h2 = none-of _ e2 in
      bind Q ((row_at (rows s) xs.rest).type) _ (λ t e3 b3 c3.
      let h3 = type_of S n F s l H t (q1) e3 in
      let q3 = Ends-trans (q1) (to_ends (After-type h3)) in
      guard Q (is_none (mark_at mark.Assign t.rest)) _ (λ e4 b4 c4.
      let h4 = none-of _ e4 in
      from_some Q c4 (g.IsVarSpec.typed_var h1 h2 h3 h4)) b3 c3) b2 c2) b1 c1) f c0

  read_typed_values-sound : (t0 : Token) (f : Found VarSpec) → read_typed_values s (row_at (rows s)) t0 ≡ Some f → var_spec-at S (t0 ∷ s) f
  unfolding read_typed_values
  read_typed_values-sound t0 f c0 =
      let Q = var_spec-at S (t0 ∷ s) in
      bind Q (idents_step s (row_at (rows s)) t0) _ (λ xs e1 b1 c1.
      let h1 = idents-sound S n F s l H t0 xs e1 in
      let q1 = ends_of (After-idents h1) in
      guard Q (is_none (mark_at mark.Assign xs.rest)) _ (λ e2 b2 c2.
      let h2 = none-of _ e2 in
      bind Q ((row_at (rows s) xs.rest).type) _ (λ t e3 b3 c3.
      let h3 = type_of S n F s l H t (q1) e3 in
      let q3 = Ends-trans (q1) (to_ends (After-type h3)) in
      bind Q (mark_at mark.Assign t.rest) _ (λ z3 e4 b4 c4.
      let h4 = mark-sound mark.Assign t.rest z3 e4 in
      let q4 = Ends-trans (q3) (to_ends (After-mark h4)) in
      bind Q ((row_at (rows s) z3.1).exprs false) _ (λ ts e5 b5 c5.
      let h5 = exprs_of S n F s l H false ts (q4) e5 in
      let q5 = Ends-trans (q4) (to_ends (After-exprs h5)) in
      from_some Q c5 (g.IsVarSpec.typed_values h1 h2 h3 h4 h5)) b4 c4) b3 c3) b2 c2) b1 c1) f c0

  pub var_spec-sound : (x : Token) (f : Found VarSpec) → var_spec_step s (row_at (rows s)) x ≡ Some f → var_spec-at S (x ∷ s) f
  unfolding var_spec_step
  var_spec-sound x f c = let Q = var_spec-at S (x ∷ s) in either Q _ _ (read_var_values-sound x) (λ b c1. either Q _ _ (read_typed_var-sound x) (read_typed_values-sound x) b c1) f c

  read_last_var-sound : (t0 : Token) (f : Found (List VarSpec)) → read_last_var s (row_at (rows s)) t0 ≡ Some f → var_specs-at S (t0 ∷ s) f
  unfolding read_last_var
  read_last_var-sound t0 f c0 =
      let Q = var_specs-at S (t0 ∷ s) in
      bind Q (var_spec_step s (row_at (rows s)) t0) _ (λ c e1 b1 c1.
      let h1 = var_spec-sound t0 c e1 in
      let q1 = ends_of (After-var_spec h1) in
      bind Q (mark_at mark.RightParen c.rest) _ (λ z1 e2 b2 c2.
      let h2 = mark-sound mark.RightParen c.rest z1 e2 in
      from_some Q c2 (g.AreVarSpecs.last_var h1 h2)) b1 c1) f c0

  read_more_vars-sound : (t0 : Token) (f : Found (List VarSpec)) → read_more_vars s (row_at (rows s)) t0 ≡ Some f → var_specs-at S (t0 ∷ s) f
  unfolding read_more_vars
  read_more_vars-sound t0 f c0 =
      let Q = var_specs-at S (t0 ∷ s) in
      bind Q (var_spec_step s (row_at (rows s)) t0) _ (λ c e1 b1 c1.
      let h1 = var_spec-sound t0 c e1 in
      let q1 = ends_of (After-var_spec h1) in
      bind Q (front_at is_semi c.rest) _ (λ x e2 b2 c2.
      let h2 = front-sound is_semi c.rest x e2 in
      let q2 = Ends-trans (q1) (to_ends (After-front h2)) in
      bind Q ((row_at (rows s) x.1).var_specs) _ (λ cs e3 b3 c3.
      let h3 = var_specs_of S n F s l H cs (q2) e3 in
      let q3 = Ends-trans (q2) (Ends-var_specs h3) in
      from_some Q c3 (g.AreVarSpecs.more_vars h1 h2 h3)) b2 c2) b1 c1) f c0

  read_no_vars-sound : (t0 : Token) (f : Found (List VarSpec)) → read_no_vars s (row_at (rows s)) t0 ≡ Some f → var_specs-at S (t0 ∷ s) f
  unfolding read_no_vars
  read_no_vars-sound t0 f c0 =
      let Q = var_specs-at S (t0 ∷ s) in
      bind Q (mark_at mark.RightParen (t0 ∷ s)) _ (λ z0 e1 b1 c1.
      let h1 = mark-sound mark.RightParen (t0 ∷ s) z0 e1 in
      from_some Q c1 (g.AreVarSpecs.no_vars h1)) f c0

  pub var_specs-sound : (x : Token) (f : Found (List VarSpec)) → var_specs_step s (row_at (rows s)) x ≡ Some f → var_specs-at S (x ∷ s) f
  unfolding var_specs_step
  var_specs-sound x f c = let Q = var_specs-at S (x ∷ s) in either Q _ _ (read_last_var-sound x) (λ b c1. either Q _ _ (read_more_vars-sound x) (read_no_vars-sound x) b c1) f c

  read_const_decl-sound : (t0 : Token) (f : Found Decl) → read_const_decl s (row_at (rows s)) t0 ≡ Some f → decl-at S (t0 ∷ s) f
  unfolding read_const_decl
  read_const_decl-sound t0 f c0 =
      let Q = decl-at S (t0 ∷ s) in
      bind Q (word_at word.Const (t0 ∷ s)) _ (λ p e1 b1 c1.
      let h1 = word-sound word.Const (t0 ∷ s) p e1 in
      let q1 = ends_of (After-word h1) in
      guard Q (is_none (mark_at mark.LeftParen p.1)) _ (λ e2 b2 c2.
      let h2 = none-of _ e2 in
      bind Q ((row_at (rows s) p.1).const_spec true) _ (λ c e3 b3 c3.
      let h3 = const_spec_of S n F s l H true c (q1) e3 in
      let q3 = Ends-trans (q1) (to_ends (After-const_spec h3)) in
      from_some Q c3 (g.IsDecl.const_decl h1 h2 h3)) b2 c2) b1 c1) f c0

  read_const_group-sound : (t0 : Token) (f : Found Decl) → read_const_group s (row_at (rows s)) t0 ≡ Some f → decl-at S (t0 ∷ s) f
  unfolding read_const_group
  read_const_group-sound t0 f c0 =
      let Q = decl-at S (t0 ∷ s) in
      bind Q (word_at word.Const (t0 ∷ s)) _ (λ p e1 b1 c1.
      let h1 = word-sound word.Const (t0 ∷ s) p e1 in
      let q1 = ends_of (After-word h1) in
      bind Q (mark_at mark.LeftParen p.1) _ (λ z1 e2 b2 c2.
      let h2 = mark-sound mark.LeftParen p.1 z1 e2 in
      let q2 = Ends-trans (q1) (to_ends (After-mark h2)) in
      bind Q ((row_at (rows s) z1.1).const_specs true) _ (λ cs e3 b3 c3.
      let h3 = const_specs_of S n F s l H true cs (q2) e3 in
      let q3 = Ends-trans (q2) (Ends-const_specs h3) in
      bind Q (mark_at mark.RightParen cs.rest) _ (λ z3 e4 b4 c4.
      let h4 = mark-sound mark.RightParen cs.rest z3 e4 in
      let q4 = Ends-trans (q3) (to_ends (After-mark h4)) in
      from_some Q c4 (g.IsDecl.const_group h1 h2 h3 h4)) b3 c3) b2 c2) b1 c1) f c0

  read_type_decl-sound : (t0 : Token) (f : Found Decl) → read_type_decl s (row_at (rows s)) t0 ≡ Some f → decl-at S (t0 ∷ s) f
  unfolding read_type_decl
  read_type_decl-sound t0 f c0 =
      let Q = decl-at S (t0 ∷ s) in
      bind Q (word_at word.«Type» (t0 ∷ s)) _ (λ p e1 b1 c1.
      let h1 = word-sound word.«Type» (t0 ∷ s) p e1 in
      let q1 = ends_of (After-word h1) in
      guard Q (is_none (mark_at mark.LeftParen p.1)) _ (λ e2 b2 c2.
      let h2 = none-of _ e2 in
      bind Q ((row_at (rows s) p.1).type_spec) _ (λ c e3 b3 c3.
      let h3 = type_spec_of S n F s l H c (q1) e3 in
      let q3 = Ends-trans (q1) (to_ends (After-type_spec h3)) in
      from_some Q c3 (g.IsDecl.type_decl h1 h2 h3)) b2 c2) b1 c1) f c0

  read_type_group-sound : (t0 : Token) (f : Found Decl) → read_type_group s (row_at (rows s)) t0 ≡ Some f → decl-at S (t0 ∷ s) f
  unfolding read_type_group
  read_type_group-sound t0 f c0 =
      let Q = decl-at S (t0 ∷ s) in
      bind Q (word_at word.«Type» (t0 ∷ s)) _ (λ p e1 b1 c1.
      let h1 = word-sound word.«Type» (t0 ∷ s) p e1 in
      let q1 = ends_of (After-word h1) in
      bind Q (mark_at mark.LeftParen p.1) _ (λ z1 e2 b2 c2.
      let h2 = mark-sound mark.LeftParen p.1 z1 e2 in
      let q2 = Ends-trans (q1) (to_ends (After-mark h2)) in
      bind Q ((row_at (rows s) z1.1).type_specs) _ (λ cs e3 b3 c3.
      let h3 = type_specs_of S n F s l H cs (q2) e3 in
      let q3 = Ends-trans (q2) (Ends-type_specs h3) in
      bind Q (mark_at mark.RightParen cs.rest) _ (λ z3 e4 b4 c4.
      let h4 = mark-sound mark.RightParen cs.rest z3 e4 in
      let q4 = Ends-trans (q3) (to_ends (After-mark h4)) in
      from_some Q c4 (g.IsDecl.type_group h1 h2 h3 h4)) b3 c3) b2 c2) b1 c1) f c0

  read_var_decl-sound : (t0 : Token) (f : Found Decl) → read_var_decl s (row_at (rows s)) t0 ≡ Some f → decl-at S (t0 ∷ s) f
  unfolding read_var_decl
  read_var_decl-sound t0 f c0 =
      let Q = decl-at S (t0 ∷ s) in
      bind Q (word_at word.Var (t0 ∷ s)) _ (λ p e1 b1 c1.
      let h1 = word-sound word.Var (t0 ∷ s) p e1 in
      let q1 = ends_of (After-word h1) in
      guard Q (is_none (mark_at mark.LeftParen p.1)) _ (λ e2 b2 c2.
      let h2 = none-of _ e2 in
      bind Q ((row_at (rows s) p.1).var_spec) _ (λ c e3 b3 c3.
      let h3 = var_spec_of S n F s l H c (q1) e3 in
      let q3 = Ends-trans (q1) (to_ends (After-var_spec h3)) in
      from_some Q c3 (g.IsDecl.var_decl h1 h2 h3)) b2 c2) b1 c1) f c0

  read_var_group-sound : (t0 : Token) (f : Found Decl) → read_var_group s (row_at (rows s)) t0 ≡ Some f → decl-at S (t0 ∷ s) f
  unfolding read_var_group
  read_var_group-sound t0 f c0 =
      let Q = decl-at S (t0 ∷ s) in
      bind Q (word_at word.Var (t0 ∷ s)) _ (λ p e1 b1 c1.
      let h1 = word-sound word.Var (t0 ∷ s) p e1 in
      let q1 = ends_of (After-word h1) in
      bind Q (mark_at mark.LeftParen p.1) _ (λ z1 e2 b2 c2.
      let h2 = mark-sound mark.LeftParen p.1 z1 e2 in
      let q2 = Ends-trans (q1) (to_ends (After-mark h2)) in
      bind Q ((row_at (rows s) z1.1).var_specs) _ (λ cs e3 b3 c3.
      let h3 = var_specs_of S n F s l H cs (q2) e3 in
      let q3 = Ends-trans (q2) (Ends-var_specs h3) in
      bind Q (mark_at mark.RightParen cs.rest) _ (λ z3 e4 b4 c4.
      let h4 = mark-sound mark.RightParen cs.rest z3 e4 in
      let q4 = Ends-trans (q3) (to_ends (After-mark h4)) in
      from_some Q c4 (g.IsDecl.var_group h1 h2 h3 h4)) b3 c3) b2 c2) b1 c1) f c0

  pub decl-sound : (x : Token) (f : Found Decl) → decl_step s (row_at (rows s)) x ≡ Some f → decl-at S (x ∷ s) f
  unfolding decl_step
  decl-sound x f c = let Q = decl-at S (x ∷ s) in either Q _ _ (read_const_decl-sound x) (λ b c1. either Q _ _ (read_const_group-sound x) (λ b c1. either Q _ _ (read_type_decl-sound x) (λ b c1. either Q _ _ (read_type_group-sound x) (λ b c1. either Q _ _ (read_var_decl-sound x) (read_var_group-sound x) b c1) b c1) b c1) b c1) f c

  read_some_values-sound : (t0 : Token) (f : Found (List Expr)) → read_some_values s (row_at (rows s)) t0 ≡ Some f → values-at S (t0 ∷ s) f
  unfolding read_some_values
  read_some_values-sound t0 f c0 =
      let Q = values-at S (t0 ∷ s) in
      bind Q (exprs_step s (row_at (rows s)) false t0) _ (λ ts e1 b1 c1.
      let h1 = exprs-sound S n F s l H false t0 ts e1 in
      let q1 = ends_of (After-exprs h1) in
      from_some Q c1 (g.AreValues.some_values h1)) f c0

  read_no_values-sound : (t0 : Token) (f : Found (List Expr)) → read_no_values s (row_at (rows s)) t0 ≡ Some f → values-at S (t0 ∷ s) f
  unfolding read_no_values
  read_no_values-sound t0 f c0 =
      let Q = values-at S (t0 ∷ s) in
      bind Q (front_at is_stmt_end (t0 ∷ s)) _ (λ z0 e1 b1 c1.
      let h1 = front-sound is_stmt_end (t0 ∷ s) z0 e1 in
      from_some Q c1 (g.AreValues.no_values h1)) f c0

  pub values-sound : (x : Token) (f : Found (List Expr)) → values_step s (row_at (rows s)) x ≡ Some f → values-at S (x ∷ s) f
  unfolding values_step
  values-sound x f c = let Q = values-at S (x ∷ s) in either Q _ _ (read_some_values-sound x) (read_no_values-sound x) f c

  read_a_target-sound : (t0 : Token) (f : Found (Option Token)) → read_a_target s (row_at (rows s)) t0 ≡ Some f → target-at S (t0 ∷ s) f
  unfolding read_a_target
  read_a_target-sound t0 f c0 =
      let Q = target-at S (t0 ∷ s) in
      bind Q (name_at (t0 ∷ s)) _ (λ x e1 b1 c1.
      let h1 = name-sound (t0 ∷ s) x e1 in
      let q1 = ends_of (After-name h1) in
      from_some Q c1 (g.IsTarget.a_target h1)) f c0

  read_no_target-sound : (t0 : Token) (f : Found (Option Token)) → read_no_target s (row_at (rows s)) t0 ≡ Some f → target-at S (t0 ∷ s) f
  unfolding read_no_target
  read_no_target-sound t0 f c0 =
      let Q = target-at S (t0 ∷ s) in
      bind Q (front_at is_stmt_end (t0 ∷ s)) _ (λ z0 e1 b1 c1.
      let h1 = front-sound is_stmt_end (t0 ∷ s) z0 e1 in
      from_some Q c1 (g.IsTarget.no_target h1)) f c0

  pub target-sound : (x : Token) (f : Found (Option Token)) → target_step s (row_at (rows s)) x ≡ Some f → target-at S (x ∷ s) f
  unfolding target_step
  target-sound x f c = let Q = target-at S (x ∷ s) in either Q _ _ (read_a_target-sound x) (read_no_target-sound x) f c
