-- What the rows have, the grammar gives.
use Rattle.std.proofs.Common.{◌≡◌, ℕ, suc, ◌≤◌, Bool, true, false, List, ◌∷◌, length, Option, Some, is_none}
use Rattle.gs_syntax.specs.declared.token.Token.{Token}
use Rattle.gs_syntax.specs.declared.token.Operator.TheVariants as mark
use Rattle.gs_syntax.specs.declared.token.Keyword.TheVariants as word
use Rattle.gs_grammar.specs.declared.trees.TypeExpr.{TypeExpr}
use Rattle.gs_grammar.specs.declared.trees.Signature.{Signature}
use Rattle.gs_grammar.specs.declared.trees.Parameters.{Parameters}
use Rattle.gs_grammar.specs.declared.trees.Parameter.{Parameter}
use Rattle.gs_grammar.specs.declared.trees.Field.{Field}
use Rattle.gs_grammar.specs.Grammar as g
use Rattle.gs_grammar.specs.Front.{mark_at, word_at, name_at, text_at, front_at, trail_at, selector_at, is_embed_end, is_field_end, is_semi}
use Rattle.gs_grammar.specs.Parts.{Found, is_single}
use Rattle.gs_grammar.specs.Reference.{row_at, rows, idents_step, type_name_step, type_step, unnamed_step, named_params_step, params_step, signature_step, tag_step, field_step, fields_step, read_one_name, read_more_names, read_bare, read_qualified, read_named, read_paren_type, read_pointer, read_slice, read_array, read_map_type, read_channel, read_send_channel, read_receive_channel, read_function_type, read_struct_type, read_interface_type, read_last_type, read_more_types, read_last_dots, read_last_named_dots, read_last_named, read_more_named, read_no_params, read_named_list, read_unnamed_list, read_results, read_result, read_plain, read_a_tag, read_no_tag, read_named_field, read_embedded_field, read_qualified_field, read_pointer_field, read_last_field, read_more_fields, read_no_fields}
use Rattle.gs_grammar.proofs.Common.{Ends-trans, to_ends, ends_of, from_some, bind, either, guard, none-of, mark-sound, word-sound, name-sound, text-sound, front-sound, trail-sound, After-mark, After-word, After-name, After-text, After-front, Ends-trail}
use Rattle.gs_grammar.proofs.Afters.{After-idents, After-type_name, After-type, After-unnamed, After-named_params, After-params, After-signature, Ends-tag, After-field, Ends-fields, Ends-members, After-expr}
use Rattle.gs_grammar.proofs.Fits.{Fits, AllSound, idents-at, type_name-at, type-at, unnamed-at, named_params-at, params-at, signature-at, tag-at, field-at, fields-at}
use Rattle.gs_grammar.proofs.Later.{idents_of, type_name_of, type_of, unnamed_of, named_params_of, params_of, signature_of, tag_of, fields_of, members_of, expr_of, type_absent, named_params_absent}

module _ (S : g.Part → List Token → List Token → Type 0) (n : ℕ) (F : Fits S n) (s : List Token) (l : suc (length s) ≤ n) (H : AllSound S n s) where
  read_one_name-sound : (t0 : Token) (f : Found (List Token)) → read_one_name s (row_at (rows s)) t0 ≡ Some f → idents-at S (t0 ∷ s) f
  unfolding read_one_name
  read_one_name-sound t0 f c0 =
      let Q = idents-at S (t0 ∷ s) in
      bind Q (name_at (t0 ∷ s)) _ (λ x e1 b1 c1.
      let h1 = name-sound (t0 ∷ s) x e1 in
      let q1 = ends_of (After-name h1) in
      guard Q (is_none (mark_at mark.Comma x.1)) _ (λ e2 b2 c2.
      let h2 = none-of _ e2 in
      from_some Q c2 (g.AreNames.one_name h1 h2)) b1 c1) f c0

  read_more_names-sound : (t0 : Token) (f : Found (List Token)) → read_more_names s (row_at (rows s)) t0 ≡ Some f → idents-at S (t0 ∷ s) f
  unfolding read_more_names
  read_more_names-sound t0 f c0 =
      let Q = idents-at S (t0 ∷ s) in
      bind Q (name_at (t0 ∷ s)) _ (λ x e1 b1 c1.
      let h1 = name-sound (t0 ∷ s) x e1 in
      let q1 = ends_of (After-name h1) in
      bind Q (mark_at mark.Comma x.1) _ (λ z1 e2 b2 c2.
      let h2 = mark-sound mark.Comma x.1 z1 e2 in
      let q2 = Ends-trans (q1) (to_ends (After-mark h2)) in
      bind Q ((row_at (rows s) z1.1).idents) _ (λ xs e3 b3 c3.
      let h3 = idents_of S n F s l H xs (q2) e3 in
      let q3 = Ends-trans (q2) (to_ends (After-idents h3)) in
      from_some Q c3 (g.AreNames.more_names h1 h2 h3)) b2 c2) b1 c1) f c0

  pub idents-sound : (x : Token) (f : Found (List Token)) → idents_step s (row_at (rows s)) x ≡ Some f → idents-at S (x ∷ s) f
  unfolding idents_step
  idents-sound x f c = let Q = idents-at S (x ∷ s) in either Q _ _ (read_one_name-sound x) (read_more_names-sound x) f c

  read_bare-sound : (t0 : Token) (f : Found TypeExpr) → read_bare s (row_at (rows s)) t0 ≡ Some f → type_name-at S (t0 ∷ s) f
  unfolding read_bare
  read_bare-sound t0 f c0 =
      let Q = type_name-at S (t0 ∷ s) in
      bind Q (name_at (t0 ∷ s)) _ (λ x e1 b1 c1.
      let h1 = name-sound (t0 ∷ s) x e1 in
      let q1 = ends_of (After-name h1) in
      guard Q (is_none (selector_at x.1)) _ (λ e2 b2 c2.
      let h2 = none-of _ e2 in
      from_some Q c2 (g.IsTypeName.bare h1 h2)) b1 c1) f c0

  read_qualified-sound : (t0 : Token) (f : Found TypeExpr) → read_qualified s (row_at (rows s)) t0 ≡ Some f → type_name-at S (t0 ∷ s) f
  unfolding read_qualified
  read_qualified-sound t0 f c0 =
      let Q = type_name-at S (t0 ∷ s) in
      bind Q (name_at (t0 ∷ s)) _ (λ x e1 b1 c1.
      let h1 = name-sound (t0 ∷ s) x e1 in
      let q1 = ends_of (After-name h1) in
      bind Q (mark_at mark.Dot x.1) _ (λ z1 e2 b2 c2.
      let h2 = mark-sound mark.Dot x.1 z1 e2 in
      let q2 = Ends-trans (q1) (to_ends (After-mark h2)) in
      bind Q (name_at z1.1) _ (λ y e3 b3 c3.
      let h3 = name-sound z1.1 y e3 in
      let q3 = Ends-trans (q2) (to_ends (After-name h3)) in
      from_some Q c3 (g.IsTypeName.qualified h1 h2 h3)) b2 c2) b1 c1) f c0

  pub type_name-sound : (x : Token) (f : Found TypeExpr) → type_name_step s (row_at (rows s)) x ≡ Some f → type_name-at S (x ∷ s) f
  unfolding type_name_step
  type_name-sound x f c = let Q = type_name-at S (x ∷ s) in either Q _ _ (read_bare-sound x) (read_qualified-sound x) f c

  read_named-sound : (t0 : Token) (f : Found TypeExpr) → read_named s (row_at (rows s)) t0 ≡ Some f → type-at S (t0 ∷ s) f
  unfolding read_named
  read_named-sound t0 f c0 =
      let Q = type-at S (t0 ∷ s) in
      bind Q (type_name_step s (row_at (rows s)) t0) _ (λ t e1 b1 c1.
      let h1 = type_name-sound t0 t e1 in
      let q1 = ends_of (After-type_name h1) in
      from_some Q c1 (g.IsType.named h1)) f c0

  read_paren_type-sound : (t0 : Token) (f : Found TypeExpr) → read_paren_type s (row_at (rows s)) t0 ≡ Some f → type-at S (t0 ∷ s) f
  unfolding read_paren_type
  read_paren_type-sound t0 f c0 =
      let Q = type-at S (t0 ∷ s) in
      bind Q (mark_at mark.LeftParen (t0 ∷ s)) _ (λ p e1 b1 c1.
      let h1 = mark-sound mark.LeftParen (t0 ∷ s) p e1 in
      let q1 = ends_of (After-mark h1) in
      bind Q ((row_at (rows s) p.1).type) _ (λ t e2 b2 c2.
      let h2 = type_of S n F s l H t (q1) e2 in
      let q2 = Ends-trans (q1) (to_ends (After-type h2)) in
      bind Q (mark_at mark.RightParen t.rest) _ (λ q e3 b3 c3.
      let h3 = mark-sound mark.RightParen t.rest q e3 in
      let q3 = Ends-trans (q2) (to_ends (After-mark h3)) in
      from_some Q c3 (g.IsType.paren_type h1 h2 h3)) b2 c2) b1 c1) f c0

  read_pointer-sound : (t0 : Token) (f : Found TypeExpr) → read_pointer s (row_at (rows s)) t0 ≡ Some f → type-at S (t0 ∷ s) f
  unfolding read_pointer
  read_pointer-sound t0 f c0 =
      let Q = type-at S (t0 ∷ s) in
      bind Q (mark_at mark.Star (t0 ∷ s)) _ (λ p e1 b1 c1.
      let h1 = mark-sound mark.Star (t0 ∷ s) p e1 in
      let q1 = ends_of (After-mark h1) in
      bind Q ((row_at (rows s) p.1).type) _ (λ t e2 b2 c2.
      let h2 = type_of S n F s l H t (q1) e2 in
      let q2 = Ends-trans (q1) (to_ends (After-type h2)) in
      from_some Q c2 (g.IsType.pointer h1 h2)) b1 c1) f c0

  read_slice-sound : (t0 : Token) (f : Found TypeExpr) → read_slice s (row_at (rows s)) t0 ≡ Some f → type-at S (t0 ∷ s) f
  unfolding read_slice
  read_slice-sound t0 f c0 =
      let Q = type-at S (t0 ∷ s) in
      bind Q (mark_at mark.LeftBracket (t0 ∷ s)) _ (λ p e1 b1 c1.
      let h1 = mark-sound mark.LeftBracket (t0 ∷ s) p e1 in
      let q1 = ends_of (After-mark h1) in
      bind Q (mark_at mark.RightBracket p.1) _ (λ z1 e2 b2 c2.
      let h2 = mark-sound mark.RightBracket p.1 z1 e2 in
      let q2 = Ends-trans (q1) (to_ends (After-mark h2)) in
      bind Q ((row_at (rows s) z1.1).type) _ (λ t e3 b3 c3.
      let h3 = type_of S n F s l H t (q2) e3 in
      let q3 = Ends-trans (q2) (to_ends (After-type h3)) in
      from_some Q c3 (g.IsType.slice h1 h2 h3)) b2 c2) b1 c1) f c0

  read_array-sound : (t0 : Token) (f : Found TypeExpr) → read_array s (row_at (rows s)) t0 ≡ Some f → type-at S (t0 ∷ s) f
  unfolding read_array
  read_array-sound t0 f c0 =
      let Q = type-at S (t0 ∷ s) in
      bind Q (mark_at mark.LeftBracket (t0 ∷ s)) _ (λ p e1 b1 c1.
      let h1 = mark-sound mark.LeftBracket (t0 ∷ s) p e1 in
      let q1 = ends_of (After-mark h1) in
      guard Q (is_none (mark_at mark.RightBracket p.1)) _ (λ e2 b2 c2.
      let h2 = none-of _ e2 in
      guard Q (is_none (mark_at mark.Ellipsis p.1)) _ (λ e3 b3 c3.
      let h3 = none-of _ e3 in
      bind Q ((row_at (rows s) p.1).expr 5 false false) _ (λ y e4 b4 c4.
      let h4 = expr_of S n F s l H 5 false false y (q1) e4 in
      let q4 = Ends-trans (q1) (to_ends (After-expr h4)) in
      bind Q (mark_at mark.RightBracket y.rest) _ (λ z4 e5 b5 c5.
      let h5 = mark-sound mark.RightBracket y.rest z4 e5 in
      let q5 = Ends-trans (q4) (to_ends (After-mark h5)) in
      bind Q ((row_at (rows s) z4.1).type) _ (λ t e6 b6 c6.
      let h6 = type_of S n F s l H t (q5) e6 in
      let q6 = Ends-trans (q5) (to_ends (After-type h6)) in
      from_some Q c6 (g.IsType.array h1 h2 h3 h4 h5 h6)) b5 c5) b4 c4) b3 c3) b2 c2) b1 c1) f c0

  read_map_type-sound : (t0 : Token) (f : Found TypeExpr) → read_map_type s (row_at (rows s)) t0 ≡ Some f → type-at S (t0 ∷ s) f
  unfolding read_map_type
  read_map_type-sound t0 f c0 =
      let Q = type-at S (t0 ∷ s) in
      bind Q (word_at word.Map (t0 ∷ s)) _ (λ p e1 b1 c1.
      let h1 = word-sound word.Map (t0 ∷ s) p e1 in
      let q1 = ends_of (After-word h1) in
      bind Q (mark_at mark.LeftBracket p.1) _ (λ z1 e2 b2 c2.
      let h2 = mark-sound mark.LeftBracket p.1 z1 e2 in
      let q2 = Ends-trans (q1) (to_ends (After-mark h2)) in
      bind Q ((row_at (rows s) z1.1).type) _ (λ t e3 b3 c3.
      let h3 = type_of S n F s l H t (q2) e3 in
      let q3 = Ends-trans (q2) (to_ends (After-type h3)) in
      bind Q (mark_at mark.RightBracket t.rest) _ (λ z3 e4 b4 c4.
      let h4 = mark-sound mark.RightBracket t.rest z3 e4 in
      let q4 = Ends-trans (q3) (to_ends (After-mark h4)) in
      bind Q ((row_at (rows s) z3.1).type) _ (λ u e5 b5 c5.
      let h5 = type_of S n F s l H u (q4) e5 in
      let q5 = Ends-trans (q4) (to_ends (After-type h5)) in
      from_some Q c5 (g.IsType.map_type h1 h2 h3 h4 h5)) b4 c4) b3 c3) b2 c2) b1 c1) f c0

  read_channel-sound : (t0 : Token) (f : Found TypeExpr) → read_channel s (row_at (rows s)) t0 ≡ Some f → type-at S (t0 ∷ s) f
  unfolding read_channel
  read_channel-sound t0 f c0 =
      let Q = type-at S (t0 ∷ s) in
      bind Q (word_at word.Chan (t0 ∷ s)) _ (λ p e1 b1 c1.
      let h1 = word-sound word.Chan (t0 ∷ s) p e1 in
      let q1 = ends_of (After-word h1) in
      guard Q (is_none (mark_at mark.Arrow p.1)) _ (λ e2 b2 c2.
      let h2 = none-of _ e2 in
      bind Q ((row_at (rows s) p.1).type) _ (λ t e3 b3 c3.
      let h3 = type_of S n F s l H t (q1) e3 in
      let q3 = Ends-trans (q1) (to_ends (After-type h3)) in
      from_some Q c3 (g.IsType.channel h1 h2 h3)) b2 c2) b1 c1) f c0

  read_send_channel-sound : (t0 : Token) (f : Found TypeExpr) → read_send_channel s (row_at (rows s)) t0 ≡ Some f → type-at S (t0 ∷ s) f
  unfolding read_send_channel
  read_send_channel-sound t0 f c0 =
      let Q = type-at S (t0 ∷ s) in
      bind Q (word_at word.Chan (t0 ∷ s)) _ (λ p e1 b1 c1.
      let h1 = word-sound word.Chan (t0 ∷ s) p e1 in
      let q1 = ends_of (After-word h1) in
      bind Q (mark_at mark.Arrow p.1) _ (λ z1 e2 b2 c2.
      let h2 = mark-sound mark.Arrow p.1 z1 e2 in
      let q2 = Ends-trans (q1) (to_ends (After-mark h2)) in
      bind Q ((row_at (rows s) z1.1).type) _ (λ t e3 b3 c3.
      let h3 = type_of S n F s l H t (q2) e3 in
      let q3 = Ends-trans (q2) (to_ends (After-type h3)) in
      from_some Q c3 (g.IsType.send_channel h1 h2 h3)) b2 c2) b1 c1) f c0

  read_receive_channel-sound : (t0 : Token) (f : Found TypeExpr) → read_receive_channel s (row_at (rows s)) t0 ≡ Some f → type-at S (t0 ∷ s) f
  unfolding read_receive_channel
  read_receive_channel-sound t0 f c0 =
      let Q = type-at S (t0 ∷ s) in
      bind Q (mark_at mark.Arrow (t0 ∷ s)) _ (λ p e1 b1 c1.
      let h1 = mark-sound mark.Arrow (t0 ∷ s) p e1 in
      let q1 = ends_of (After-mark h1) in
      bind Q (word_at word.Chan p.1) _ (λ z1 e2 b2 c2.
      let h2 = word-sound word.Chan p.1 z1 e2 in
      let q2 = Ends-trans (q1) (to_ends (After-word h2)) in
      bind Q ((row_at (rows s) z1.1).type) _ (λ t e3 b3 c3.
      let h3 = type_of S n F s l H t (q2) e3 in
      let q3 = Ends-trans (q2) (to_ends (After-type h3)) in
      from_some Q c3 (g.IsType.receive_channel h1 h2 h3)) b2 c2) b1 c1) f c0

  read_function_type-sound : (t0 : Token) (f : Found TypeExpr) → read_function_type s (row_at (rows s)) t0 ≡ Some f → type-at S (t0 ∷ s) f
  unfolding read_function_type
  read_function_type-sound t0 f c0 =
      let Q = type-at S (t0 ∷ s) in
      bind Q (word_at word.Func (t0 ∷ s)) _ (λ p e1 b1 c1.
      let h1 = word-sound word.Func (t0 ∷ s) p e1 in
      let q1 = ends_of (After-word h1) in
      bind Q ((row_at (rows s) p.1).signature) _ (λ z e2 b2 c2.
      let h2 = signature_of S n F s l H z (q1) e2 in
      let q2 = Ends-trans (q1) (to_ends (After-signature h2)) in
      from_some Q c2 (g.IsType.function_type h1 h2)) b1 c1) f c0

  read_struct_type-sound : (t0 : Token) (f : Found TypeExpr) → read_struct_type s (row_at (rows s)) t0 ≡ Some f → type-at S (t0 ∷ s) f
  unfolding read_struct_type
  read_struct_type-sound t0 f c0 =
      let Q = type-at S (t0 ∷ s) in
      bind Q (word_at word.Struct (t0 ∷ s)) _ (λ p e1 b1 c1.
      let h1 = word-sound word.Struct (t0 ∷ s) p e1 in
      let q1 = ends_of (After-word h1) in
      bind Q (mark_at mark.LeftBrace p.1) _ (λ z1 e2 b2 c2.
      let h2 = mark-sound mark.LeftBrace p.1 z1 e2 in
      let q2 = Ends-trans (q1) (to_ends (After-mark h2)) in
      bind Q ((row_at (rows s) z1.1).fields) _ (λ fs e3 b3 c3.
      let h3 = fields_of S n F s l H fs (q2) e3 in
      let q3 = Ends-trans (q2) (Ends-fields h3) in
      bind Q (mark_at mark.RightBrace fs.rest) _ (λ q e4 b4 c4.
      let h4 = mark-sound mark.RightBrace fs.rest q e4 in
      let q4 = Ends-trans (q3) (to_ends (After-mark h4)) in
      from_some Q c4 (g.IsType.struct_type h1 h2 h3 h4)) b3 c3) b2 c2) b1 c1) f c0

  read_interface_type-sound : (t0 : Token) (f : Found TypeExpr) → read_interface_type s (row_at (rows s)) t0 ≡ Some f → type-at S (t0 ∷ s) f
  unfolding read_interface_type
  read_interface_type-sound t0 f c0 =
      let Q = type-at S (t0 ∷ s) in
      bind Q (word_at word.Interface (t0 ∷ s)) _ (λ p e1 b1 c1.
      let h1 = word-sound word.Interface (t0 ∷ s) p e1 in
      let q1 = ends_of (After-word h1) in
      bind Q (mark_at mark.LeftBrace p.1) _ (λ z1 e2 b2 c2.
      let h2 = mark-sound mark.LeftBrace p.1 z1 e2 in
      let q2 = Ends-trans (q1) (to_ends (After-mark h2)) in
      bind Q ((row_at (rows s) z1.1).members) _ (λ ms e3 b3 c3.
      let h3 = members_of S n F s l H ms (q2) e3 in
      let q3 = Ends-trans (q2) (Ends-members h3) in
      bind Q (mark_at mark.RightBrace ms.rest) _ (λ q e4 b4 c4.
      let h4 = mark-sound mark.RightBrace ms.rest q e4 in
      let q4 = Ends-trans (q3) (to_ends (After-mark h4)) in
      from_some Q c4 (g.IsType.interface_type h1 h2 h3 h4)) b3 c3) b2 c2) b1 c1) f c0

  pub type-sound : (x : Token) (f : Found TypeExpr) → type_step s (row_at (rows s)) x ≡ Some f → type-at S (x ∷ s) f
  unfolding type_step
  type-sound x f c = let Q = type-at S (x ∷ s) in either Q _ _ (read_named-sound x) (λ b c1. either Q _ _ (read_paren_type-sound x) (λ b c1. either Q _ _ (read_pointer-sound x) (λ b c1. either Q _ _ (read_slice-sound x) (λ b c1. either Q _ _ (read_array-sound x) (λ b c1. either Q _ _ (read_map_type-sound x) (λ b c1. either Q _ _ (read_channel-sound x) (λ b c1. either Q _ _ (read_send_channel-sound x) (λ b c1. either Q _ _ (read_receive_channel-sound x) (λ b c1. either Q _ _ (read_function_type-sound x) (λ b c1. either Q _ _ (read_struct_type-sound x) (read_interface_type-sound x) b c1) b c1) b c1) b c1) b c1) b c1) b c1) b c1) b c1) b c1) f c

  read_last_type-sound : (v : Bool) (t0 : Token) (f : Found (List Parameter)) → read_last_type s (row_at (rows s)) v t0 ≡ Some f → unnamed-at S v (t0 ∷ s) f
  unfolding read_last_type
  read_last_type-sound v t0 f c0 =
      let Q = unnamed-at S v (t0 ∷ s) in
      bind Q (type_step s (row_at (rows s)) t0) _ (λ t e1 b1 c1.
      let h1 = type-sound t0 t e1 in
      let q1 = ends_of (After-type h1) in
      bind Q (trail_at mark.RightParen t.rest) _ (λ z1 e2 b2 c2.
      let h2 = trail-sound mark.RightParen t.rest z1 e2 in
      let q2 = Ends-trans (q1) (Ends-trail h2) in
      from_some Q c2 (g.AreUnnamed.last_type h1 h2)) b1 c1) f c0

  read_more_types-sound : (v : Bool) (t0 : Token) (f : Found (List Parameter)) → read_more_types s (row_at (rows s)) v t0 ≡ Some f → unnamed-at S v (t0 ∷ s) f
  unfolding read_more_types
  read_more_types-sound v t0 f c0 =
      let Q = unnamed-at S v (t0 ∷ s) in
      bind Q (type_step s (row_at (rows s)) t0) _ (λ t e1 b1 c1.
      let h1 = type-sound t0 t e1 in
      let q1 = ends_of (After-type h1) in
      bind Q (mark_at mark.Comma t.rest) _ (λ z1 e2 b2 c2.
      let h2 = mark-sound mark.Comma t.rest z1 e2 in
      let q2 = Ends-trans (q1) (to_ends (After-mark h2)) in
      guard Q (is_none (mark_at mark.RightParen z1.1)) _ (λ e3 b3 c3.
      let h3 = none-of _ e3 in
      bind Q ((row_at (rows s) z1.1).unnamed v) _ (λ ps e4 b4 c4.
      let h4 = unnamed_of S n F s l H v ps (q2) e4 in
      let q4 = Ends-trans (q2) (to_ends (After-unnamed h4)) in
      from_some Q c4 (g.AreUnnamed.more_types h1 h2 h3 h4)) b3 c3) b2 c2) b1 c1) f c0

  read_last_dots-sound : (v : Bool) (t0 : Token) (f : Found (List Parameter)) → read_last_dots s (row_at (rows s)) v t0 ≡ Some f → unnamed-at S v (t0 ∷ s) f
  unfolding read_last_dots
  read_last_dots-sound v t0 f c0 =
      let Q = unnamed-at S v (t0 ∷ s) in
      bind Q (mark_at mark.Ellipsis (t0 ∷ s)) _ (λ p e1 b1 c1.
      let h1 = mark-sound mark.Ellipsis (t0 ∷ s) p e1 in
      let q1 = ends_of (After-mark h1) in
      guard Q (v) _ (λ e2 b2 c2.
      let h2 = e2 in
      bind Q ((row_at (rows s) p.1).type) _ (λ t e3 b3 c3.
      let h3 = type_of S n F s l H t (q1) e3 in
      let q3 = Ends-trans (q1) (to_ends (After-type h3)) in
      bind Q (trail_at mark.RightParen t.rest) _ (λ z3 e4 b4 c4.
      let h4 = trail-sound mark.RightParen t.rest z3 e4 in
      let q4 = Ends-trans (q3) (Ends-trail h4) in
      from_some Q c4 (g.AreUnnamed.last_dots h1 h2 h3 h4)) b3 c3) b2 c2) b1 c1) f c0

  pub unnamed-sound : (v : Bool) (x : Token) (f : Found (List Parameter)) → unnamed_step s (row_at (rows s)) v x ≡ Some f → unnamed-at S v (x ∷ s) f
  unfolding unnamed_step
  unnamed-sound v x f c = let Q = unnamed-at S v (x ∷ s) in either Q _ _ (read_last_type-sound v x) (λ b c1. either Q _ _ (read_more_types-sound v x) (read_last_dots-sound v x) b c1) f c

  read_last_named_dots-sound : (v : Bool) (t0 : Token) (f : Found (List Parameter)) → read_last_named_dots s (row_at (rows s)) v t0 ≡ Some f → named_params-at S v (t0 ∷ s) f
  unfolding read_last_named_dots
  read_last_named_dots-sound v t0 f c0 =
      let Q = named_params-at S v (t0 ∷ s) in
      bind Q (idents_step s (row_at (rows s)) t0) _ (λ xs e1 b1 c1.
      let h1 = idents-sound t0 xs e1 in
      let q1 = ends_of (After-idents h1) in
      bind Q (mark_at mark.Ellipsis xs.rest) _ (λ p e2 b2 c2.
      let h2 = mark-sound mark.Ellipsis xs.rest p e2 in
      let q2 = Ends-trans (q1) (to_ends (After-mark h2)) in
      guard Q (is_single xs.tree) _ (λ e3 b3 c3.
      let h3 = e3 in
      guard Q (v) _ (λ e4 b4 c4.
      let h4 = e4 in
      bind Q ((row_at (rows s) p.1).type) _ (λ t e5 b5 c5.
      let h5 = type_of S n F s l H t (q2) e5 in
      let q5 = Ends-trans (q2) (to_ends (After-type h5)) in
      bind Q (trail_at mark.RightParen t.rest) _ (λ z5 e6 b6 c6.
      let h6 = trail-sound mark.RightParen t.rest z5 e6 in
      let q6 = Ends-trans (q5) (Ends-trail h6) in
      from_some Q c6 (g.AreNamed.last_named_dots h1 h2 h3 h4 h5 h6)) b5 c5) b4 c4) b3 c3) b2 c2) b1 c1) f c0

  read_last_named-sound : (v : Bool) (t0 : Token) (f : Found (List Parameter)) → read_last_named s (row_at (rows s)) v t0 ≡ Some f → named_params-at S v (t0 ∷ s) f
  unfolding read_last_named
  read_last_named-sound v t0 f c0 =
      let Q = named_params-at S v (t0 ∷ s) in
      bind Q (idents_step s (row_at (rows s)) t0) _ (λ xs e1 b1 c1.
      let h1 = idents-sound t0 xs e1 in
      let q1 = ends_of (After-idents h1) in
      guard Q (is_none (mark_at mark.Ellipsis xs.rest)) _ (λ e2 b2 c2.
      let h2 = none-of _ e2 in
      bind Q ((row_at (rows s) xs.rest).type) _ (λ t e3 b3 c3.
      let h3 = type_of S n F s l H t (q1) e3 in
      let q3 = Ends-trans (q1) (to_ends (After-type h3)) in
      bind Q (trail_at mark.RightParen t.rest) _ (λ z3 e4 b4 c4.
      let h4 = trail-sound mark.RightParen t.rest z3 e4 in
      let q4 = Ends-trans (q3) (Ends-trail h4) in
      from_some Q c4 (g.AreNamed.last_named h1 h2 h3 h4)) b3 c3) b2 c2) b1 c1) f c0

  read_more_named-sound : (v : Bool) (t0 : Token) (f : Found (List Parameter)) → read_more_named s (row_at (rows s)) v t0 ≡ Some f → named_params-at S v (t0 ∷ s) f
  unfolding read_more_named
  read_more_named-sound v t0 f c0 =
      let Q = named_params-at S v (t0 ∷ s) in
      bind Q (idents_step s (row_at (rows s)) t0) _ (λ xs e1 b1 c1.
      let h1 = idents-sound t0 xs e1 in
      let q1 = ends_of (After-idents h1) in
      guard Q (is_none (mark_at mark.Ellipsis xs.rest)) _ (λ e2 b2 c2.
      let h2 = none-of _ e2 in
      bind Q ((row_at (rows s) xs.rest).type) _ (λ t e3 b3 c3.
      let h3 = type_of S n F s l H t (q1) e3 in
      let q3 = Ends-trans (q1) (to_ends (After-type h3)) in
      bind Q (mark_at mark.Comma t.rest) _ (λ z3 e4 b4 c4.
      let h4 = mark-sound mark.Comma t.rest z3 e4 in
      let q4 = Ends-trans (q3) (to_ends (After-mark h4)) in
      guard Q (is_none (mark_at mark.RightParen z3.1)) _ (λ e5 b5 c5.
      let h5 = none-of _ e5 in
      bind Q ((row_at (rows s) z3.1).named_params v) _ (λ ps e6 b6 c6.
      let h6 = named_params_of S n F s l H v ps (q4) e6 in
      let q6 = Ends-trans (q4) (to_ends (After-named_params h6)) in
      from_some Q c6 (g.AreNamed.more_named h1 h2 h3 h4 h5 h6)) b5 c5) b4 c4) b3 c3) b2 c2) b1 c1) f c0

  pub named_params-sound : (v : Bool) (x : Token) (f : Found (List Parameter)) → named_params_step s (row_at (rows s)) v x ≡ Some f → named_params-at S v (x ∷ s) f
  unfolding named_params_step
  named_params-sound v x f c = let Q = named_params-at S v (x ∷ s) in either Q _ _ (read_last_named_dots-sound v x) (λ b c1. either Q _ _ (read_last_named-sound v x) (read_more_named-sound v x) b c1) f c

  read_no_params-sound : (v : Bool) (t0 : Token) (f : Found Parameters) → read_no_params s (row_at (rows s)) v t0 ≡ Some f → params-at S v (t0 ∷ s) f
  unfolding read_no_params
  read_no_params-sound v t0 f c0 =
      let Q = params-at S v (t0 ∷ s) in
      bind Q (mark_at mark.LeftParen (t0 ∷ s)) _ (λ p e1 b1 c1.
      let h1 = mark-sound mark.LeftParen (t0 ∷ s) p e1 in
      let q1 = ends_of (After-mark h1) in
      bind Q (mark_at mark.RightParen p.1) _ (λ q e2 b2 c2.
      let h2 = mark-sound mark.RightParen p.1 q e2 in
      let q2 = Ends-trans (q1) (to_ends (After-mark h2)) in
      from_some Q c2 (g.AreParams.no_params h1 h2)) b1 c1) f c0

  read_named_list-sound : (v : Bool) (t0 : Token) (f : Found Parameters) → read_named_list s (row_at (rows s)) v t0 ≡ Some f → params-at S v (t0 ∷ s) f
  unfolding read_named_list
  read_named_list-sound v t0 f c0 =
      let Q = params-at S v (t0 ∷ s) in
      bind Q (mark_at mark.LeftParen (t0 ∷ s)) _ (λ p e1 b1 c1.
      let h1 = mark-sound mark.LeftParen (t0 ∷ s) p e1 in
      let q1 = ends_of (After-mark h1) in
      guard Q (is_none (mark_at mark.RightParen p.1)) _ (λ e2 b2 c2.
      let h2 = none-of _ e2 in
      bind Q ((row_at (rows s) p.1).named_params v) _ (λ ps e3 b3 c3.
      let h3 = named_params_of S n F s l H v ps (q1) e3 in
      let q3 = Ends-trans (q1) (to_ends (After-named_params h3)) in
      bind Q (mark_at mark.RightParen ps.rest) _ (λ q e4 b4 c4.
      let h4 = mark-sound mark.RightParen ps.rest q e4 in
      let q4 = Ends-trans (q3) (to_ends (After-mark h4)) in
      from_some Q c4 (g.AreParams.named_list h1 h2 h3 h4)) b3 c3) b2 c2) b1 c1) f c0

  read_unnamed_list-sound : (v : Bool) (t0 : Token) (f : Found Parameters) → read_unnamed_list s (row_at (rows s)) v t0 ≡ Some f → params-at S v (t0 ∷ s) f
  unfolding read_unnamed_list
  read_unnamed_list-sound v t0 f c0 =
      let Q = params-at S v (t0 ∷ s) in
      bind Q (mark_at mark.LeftParen (t0 ∷ s)) _ (λ p e1 b1 c1.
      let h1 = mark-sound mark.LeftParen (t0 ∷ s) p e1 in
      let q1 = ends_of (After-mark h1) in
      guard Q (is_none (mark_at mark.RightParen p.1)) _ (λ e2 b2 c2.
      let h2 = none-of _ e2 in
      guard Q (is_none ((row_at (rows s) p.1).named_params v)) _ (λ e3 b3 c3.
      let h3 = named_params_absent S n F s l H v (q1) (none-of _ e3) in
      bind Q ((row_at (rows s) p.1).unnamed v) _ (λ ps e4 b4 c4.
      let h4 = unnamed_of S n F s l H v ps (q1) e4 in
      let q4 = Ends-trans (q1) (to_ends (After-unnamed h4)) in
      bind Q (mark_at mark.RightParen ps.rest) _ (λ q e5 b5 c5.
      let h5 = mark-sound mark.RightParen ps.rest q e5 in
      let q5 = Ends-trans (q4) (to_ends (After-mark h5)) in
      from_some Q c5 (g.AreParams.unnamed_list h1 h2 h3 h4 h5)) b4 c4) b3 c3) b2 c2) b1 c1) f c0

  pub params-sound : (v : Bool) (x : Token) (f : Found Parameters) → params_step s (row_at (rows s)) v x ≡ Some f → params-at S v (x ∷ s) f
  unfolding params_step
  params-sound v x f c = let Q = params-at S v (x ∷ s) in either Q _ _ (read_no_params-sound v x) (λ b c1. either Q _ _ (read_named_list-sound v x) (read_unnamed_list-sound v x) b c1) f c

  read_results-sound : (t0 : Token) (f : Found Signature) → read_results s (row_at (rows s)) t0 ≡ Some f → signature-at S (t0 ∷ s) f
  unfolding read_results
  read_results-sound t0 f c0 =
      let Q = signature-at S (t0 ∷ s) in
      bind Q (params_step s (row_at (rows s)) true t0) _ (λ ps e1 b1 c1.
      let h1 = params-sound true t0 ps e1 in
      let q1 = ends_of (After-params h1) in
      bind Q (mark_at mark.LeftParen ps.rest) _ (λ z1 e2 b2 c2.
      let h2 = mark-sound mark.LeftParen ps.rest z1 e2 in
      bind Q ((row_at (rows s) ps.rest).params false) _ (λ qs e3 b3 c3.
      let h3 = params_of S n F s l H false qs (q1) e3 in
      let q3 = Ends-trans (q1) (to_ends (After-params h3)) in
      from_some Q c3 (g.IsSignature.results h1 h2 h3)) b2 c2) b1 c1) f c0

  read_result-sound : (t0 : Token) (f : Found Signature) → read_result s (row_at (rows s)) t0 ≡ Some f → signature-at S (t0 ∷ s) f
  unfolding read_result
  read_result-sound t0 f c0 =
      let Q = signature-at S (t0 ∷ s) in
      bind Q (params_step s (row_at (rows s)) true t0) _ (λ ps e1 b1 c1.
      let h1 = params-sound true t0 ps e1 in
      let q1 = ends_of (After-params h1) in
      guard Q (is_none (mark_at mark.LeftParen ps.rest)) _ (λ e2 b2 c2.
      let h2 = none-of _ e2 in
      bind Q ((row_at (rows s) ps.rest).type) _ (λ t e3 b3 c3.
      let h3 = type_of S n F s l H t (q1) e3 in
      let q3 = Ends-trans (q1) (to_ends (After-type h3)) in
      from_some Q c3 (g.IsSignature.result h1 h2 h3)) b2 c2) b1 c1) f c0

  read_plain-sound : (t0 : Token) (f : Found Signature) → read_plain s (row_at (rows s)) t0 ≡ Some f → signature-at S (t0 ∷ s) f
  unfolding read_plain
  read_plain-sound t0 f c0 =
      let Q = signature-at S (t0 ∷ s) in
      bind Q (params_step s (row_at (rows s)) true t0) _ (λ ps e1 b1 c1.
      let h1 = params-sound true t0 ps e1 in
      let q1 = ends_of (After-params h1) in
      guard Q (is_none (mark_at mark.LeftParen ps.rest)) _ (λ e2 b2 c2.
      let h2 = none-of _ e2 in
      guard Q (is_none (row_at (rows s) ps.rest).type) _ (λ e3 b3 c3.
      let h3 = type_absent S n F s l H (q1) (none-of _ e3) in
      from_some Q c3 (g.IsSignature.plain h1 h2 h3)) b2 c2) b1 c1) f c0

  pub signature-sound : (x : Token) (f : Found Signature) → signature_step s (row_at (rows s)) x ≡ Some f → signature-at S (x ∷ s) f
  unfolding signature_step
  signature-sound x f c = let Q = signature-at S (x ∷ s) in either Q _ _ (read_results-sound x) (λ b c1. either Q _ _ (read_result-sound x) (read_plain-sound x) b c1) f c

  read_a_tag-sound : (t0 : Token) (f : Found (Option Token)) → read_a_tag s (row_at (rows s)) t0 ≡ Some f → tag-at S (t0 ∷ s) f
  unfolding read_a_tag
  read_a_tag-sound t0 f c0 =
      let Q = tag-at S (t0 ∷ s) in
      bind Q (text_at (t0 ∷ s)) _ (λ x e1 b1 c1.
      let h1 = text-sound (t0 ∷ s) x e1 in
      let q1 = ends_of (After-text h1) in
      from_some Q c1 (g.IsTag.a_tag h1)) f c0

  read_no_tag-sound : (t0 : Token) (f : Found (Option Token)) → read_no_tag s (row_at (rows s)) t0 ≡ Some f → tag-at S (t0 ∷ s) f
  unfolding read_no_tag
  read_no_tag-sound t0 f c0 =
      let Q = tag-at S (t0 ∷ s) in
      bind Q (front_at is_field_end (t0 ∷ s)) _ (λ z0 e1 b1 c1.
      let h1 = front-sound is_field_end (t0 ∷ s) z0 e1 in
      from_some Q c1 (g.IsTag.no_tag h1)) f c0

  pub tag-sound : (x : Token) (f : Found (Option Token)) → tag_step s (row_at (rows s)) x ≡ Some f → tag-at S (x ∷ s) f
  unfolding tag_step
  tag-sound x f c = let Q = tag-at S (x ∷ s) in either Q _ _ (read_a_tag-sound x) (read_no_tag-sound x) f c

  read_named_field-sound : (t0 : Token) (f : Found Field) → read_named_field s (row_at (rows s)) t0 ≡ Some f → field-at S (t0 ∷ s) f
  unfolding read_named_field
  read_named_field-sound t0 f c0 =
      let Q = field-at S (t0 ∷ s) in
      bind Q (idents_step s (row_at (rows s)) t0) _ (λ xs e1 b1 c1.
      let h1 = idents-sound t0 xs e1 in
      let q1 = ends_of (After-idents h1) in
      guard Q (is_none (front_at is_embed_end xs.rest)) _ (λ e2 b2 c2.
      let h2 = none-of _ e2 in
      guard Q (is_none (mark_at mark.Dot xs.rest)) _ (λ e3 b3 c3.
      let h3 = none-of _ e3 in
      bind Q ((row_at (rows s) xs.rest).type) _ (λ t e4 b4 c4.
      let h4 = type_of S n F s l H t (q1) e4 in
      let q4 = Ends-trans (q1) (to_ends (After-type h4)) in
      bind Q ((row_at (rows s) t.rest).tag) _ (λ z e5 b5 c5.
      let h5 = tag_of S n F s l H z (q4) e5 in
      let q5 = Ends-trans (q4) (Ends-tag h5) in
      from_some Q c5 (g.IsField.named_field h1 h2 h3 h4 h5)) b4 c4) b3 c3) b2 c2) b1 c1) f c0

  read_embedded_field-sound : (t0 : Token) (f : Found Field) → read_embedded_field s (row_at (rows s)) t0 ≡ Some f → field-at S (t0 ∷ s) f
  unfolding read_embedded_field
  read_embedded_field-sound t0 f c0 =
      let Q = field-at S (t0 ∷ s) in
      bind Q (name_at (t0 ∷ s)) _ (λ x e1 b1 c1.
      let h1 = name-sound (t0 ∷ s) x e1 in
      let q1 = ends_of (After-name h1) in
      bind Q (front_at is_embed_end x.1) _ (λ z1 e2 b2 c2.
      let h2 = front-sound is_embed_end x.1 z1 e2 in
      bind Q ((row_at (rows s) x.1).tag) _ (λ z e3 b3 c3.
      let h3 = tag_of S n F s l H z (q1) e3 in
      let q3 = Ends-trans (q1) (Ends-tag h3) in
      from_some Q c3 (g.IsField.embedded_field h1 h2 h3)) b2 c2) b1 c1) f c0

  read_qualified_field-sound : (t0 : Token) (f : Found Field) → read_qualified_field s (row_at (rows s)) t0 ≡ Some f → field-at S (t0 ∷ s) f
  unfolding read_qualified_field
  read_qualified_field-sound t0 f c0 =
      let Q = field-at S (t0 ∷ s) in
      bind Q (name_at (t0 ∷ s)) _ (λ x e1 b1 c1.
      let h1 = name-sound (t0 ∷ s) x e1 in
      let q1 = ends_of (After-name h1) in
      bind Q (mark_at mark.Dot x.1) _ (λ z1 e2 b2 c2.
      let h2 = mark-sound mark.Dot x.1 z1 e2 in
      let q2 = Ends-trans (q1) (to_ends (After-mark h2)) in
      bind Q (name_at z1.1) _ (λ y e3 b3 c3.
      let h3 = name-sound z1.1 y e3 in
      let q3 = Ends-trans (q2) (to_ends (After-name h3)) in
      bind Q ((row_at (rows s) y.1).tag) _ (λ z e4 b4 c4.
      let h4 = tag_of S n F s l H z (q3) e4 in
      let q4 = Ends-trans (q3) (Ends-tag h4) in
      from_some Q c4 (g.IsField.qualified_field h1 h2 h3 h4)) b3 c3) b2 c2) b1 c1) f c0

  read_pointer_field-sound : (t0 : Token) (f : Found Field) → read_pointer_field s (row_at (rows s)) t0 ≡ Some f → field-at S (t0 ∷ s) f
  unfolding read_pointer_field
  read_pointer_field-sound t0 f c0 =
      let Q = field-at S (t0 ∷ s) in
      bind Q (mark_at mark.Star (t0 ∷ s)) _ (λ p e1 b1 c1.
      let h1 = mark-sound mark.Star (t0 ∷ s) p e1 in
      let q1 = ends_of (After-mark h1) in
      bind Q ((row_at (rows s) p.1).type_name) _ (λ t e2 b2 c2.
      let h2 = type_name_of S n F s l H t (q1) e2 in
      let q2 = Ends-trans (q1) (to_ends (After-type_name h2)) in
      bind Q ((row_at (rows s) t.rest).tag) _ (λ z e3 b3 c3.
      let h3 = tag_of S n F s l H z (q2) e3 in
      let q3 = Ends-trans (q2) (Ends-tag h3) in
      from_some Q c3 (g.IsField.pointer_field h1 h2 h3)) b2 c2) b1 c1) f c0

  pub field-sound : (x : Token) (f : Found Field) → field_step s (row_at (rows s)) x ≡ Some f → field-at S (x ∷ s) f
  unfolding field_step
  field-sound x f c = let Q = field-at S (x ∷ s) in either Q _ _ (read_named_field-sound x) (λ b c1. either Q _ _ (read_embedded_field-sound x) (λ b c1. either Q _ _ (read_qualified_field-sound x) (read_pointer_field-sound x) b c1) b c1) f c

  read_last_field-sound : (t0 : Token) (f : Found (List Field)) → read_last_field s (row_at (rows s)) t0 ≡ Some f → fields-at S (t0 ∷ s) f
  unfolding read_last_field
  read_last_field-sound t0 f c0 =
      let Q = fields-at S (t0 ∷ s) in
      bind Q (field_step s (row_at (rows s)) t0) _ (λ y e1 b1 c1.
      let h1 = field-sound t0 y e1 in
      let q1 = ends_of (After-field h1) in
      bind Q (mark_at mark.RightBrace y.rest) _ (λ z1 e2 b2 c2.
      let h2 = mark-sound mark.RightBrace y.rest z1 e2 in
      from_some Q c2 (g.AreFields.last_field h1 h2)) b1 c1) f c0

  read_more_fields-sound : (t0 : Token) (f : Found (List Field)) → read_more_fields s (row_at (rows s)) t0 ≡ Some f → fields-at S (t0 ∷ s) f
  unfolding read_more_fields
  read_more_fields-sound t0 f c0 =
      let Q = fields-at S (t0 ∷ s) in
      bind Q (field_step s (row_at (rows s)) t0) _ (λ y e1 b1 c1.
      let h1 = field-sound t0 y e1 in
      let q1 = ends_of (After-field h1) in
      bind Q (front_at is_semi y.rest) _ (λ x e2 b2 c2.
      let h2 = front-sound is_semi y.rest x e2 in
      let q2 = Ends-trans (q1) (to_ends (After-front h2)) in
      bind Q ((row_at (rows s) x.1).fields) _ (λ fs e3 b3 c3.
      let h3 = fields_of S n F s l H fs (q2) e3 in
      let q3 = Ends-trans (q2) (Ends-fields h3) in
      from_some Q c3 (g.AreFields.more_fields h1 h2 h3)) b2 c2) b1 c1) f c0

  read_no_fields-sound : (t0 : Token) (f : Found (List Field)) → read_no_fields s (row_at (rows s)) t0 ≡ Some f → fields-at S (t0 ∷ s) f
  unfolding read_no_fields
  read_no_fields-sound t0 f c0 =
      let Q = fields-at S (t0 ∷ s) in
      bind Q (mark_at mark.RightBrace (t0 ∷ s)) _ (λ z0 e1 b1 c1.
      let h1 = mark-sound mark.RightBrace (t0 ∷ s) z0 e1 in
      from_some Q c1 (g.AreFields.no_fields h1)) f c0

  pub fields-sound : (x : Token) (f : Found (List Field)) → fields_step s (row_at (rows s)) x ≡ Some f → fields-at S (x ∷ s) f
  unfolding fields_step
  fields-sound x f c = let Q = fields-at S (x ∷ s) in either Q _ _ (read_last_field-sound x) (λ b c1. either Q _ _ (read_more_fields-sound x) (read_no_fields-sound x) b c1) f c
