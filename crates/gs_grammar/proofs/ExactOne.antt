-- What the grammar gives, the rows have.
use Rattle.std.proofs.Common.{◌≡◌, ℕ, suc, ◌≤◌, Bool, List, [], ◌∷◌, length, refl, Option, Some, None}
use Rattle.gs_syntax.specs.declared.token.Span.{Span}
use Rattle.gs_syntax.specs.declared.token.Token.{Token}
use Rattle.gs_syntax.specs.declared.token.Operator.TheVariants as mark
use Rattle.gs_grammar.specs.declared.trees.TypeExpr.{TypeExpr}
use Rattle.gs_grammar.specs.declared.trees.Signature.{Signature}
use Rattle.gs_grammar.specs.declared.trees.Parameters.{Parameters}
use Rattle.gs_grammar.specs.declared.trees.Parameter.{Parameter}
use Rattle.gs_grammar.specs.declared.trees.Field.{Field}
use Rattle.gs_grammar.specs.Grammar as g
use Rattle.gs_grammar.specs.Front.{identifier, IsMark, IsWord, IsName, IsText, IsFront, mark_at, word_at, name_at, text_at, front_at, selector_at, is_embed_end, is_field_end}
use Rattle.gs_grammar.specs.Parts.{found}
use Rattle.gs_grammar.specs.Reference.{row_at, rows, idents_step, type_name_step, type_step, unnamed_step, named_params_step, params_step, signature_step, tag_step, field_step, fields_step, read_one_name, read_more_names, read_bare, read_qualified, read_named, read_paren_type, read_pointer, read_slice, read_array, read_map_type, read_channel, read_send_channel, read_receive_channel, read_function_type, read_struct_type, read_interface_type, read_last_type, read_more_types, read_last_dots, read_last_named_dots, read_last_named, read_more_named, read_no_params, read_named_list, read_unnamed_list, read_results, read_result, read_plain, read_a_tag, read_no_tag, read_named_field, read_embedded_field, read_qualified_field, read_pointer_field, read_last_field, read_more_fields, read_no_fields}
use Rattle.gs_grammar.proofs.Common.{here, Ends-trans, to_ends, ends_of, mark-exact, word-exact, name-exact, front-exact, mark-other, mark-no-front, front-no-mark, front-no-text, front-of, trail-exact, no-trail, After-mark, After-word, After-name, After-front}
use Rattle.gs_grammar.proofs.Afters.{After-idents, After-type_name, After-type, After-params, After-field, After-expr}
use Rattle.gs_grammar.proofs.Fits.{Fits, AllSound, AllExact}
use Rattle.gs_grammar.proofs.LaterExact.{idents_at, type_name_at, type_at, unnamed_at, named_params_at, params_at, signature_at, tag_at, fields_at, members_at, expr_at, type_lacking, named_params_lacking}
use Rattle.gs_grammar.proofs.Nones.{field_end-not-text, none-field-mark_RightBrace, none-idents-mark_Star, none-type-mark_Ellipsis, none-type_name-mark_Arrow, none-type_name-mark_LeftBracket, none-type_name-mark_LeftParen, none-type_name-mark_Star, none-type_name-word_Chan, none-type_name-word_Func, none-type_name-word_Interface, none-type_name-word_Map, none-type_name-word_Struct}

module _ (S : g.Part → List Token → List Token → Type 0) (n : ℕ) (F : Fits S n) (s : List Token) (l : suc (length s) ≤ n) (H : AllSound S n s) (X : AllExact S n s) where
  pub idents-exact : {t0 : Token} {t : List Token} {r : List Token} {d : ℕ} → g.AreNames S t (t0 ∷ s) r d → idents_step s (row_at (rows s)) t0 ≡ Some (found t r d)
  unfolding idents_step read_one_name read_more_names mark_at word_at name_at text_at front_at
  idents-exact (g.AreNames.one_name (IsName.a_name {a = a_} {p = p_}) h2) = simp (h2)
  idents-exact (g.AreNames.more_names (IsName.a_name {a = a_} {p = p_}) h2 h3) = simp (mark-exact h2, idents_at S n F s l H X (Ends-trans (here) (to_ends (After-mark h2))) h3)

  pub type_name-exact : {t0 : Token} {t : TypeExpr} {r : List Token} {d : ℕ} → g.IsTypeName S t (t0 ∷ s) r d → type_name_step s (row_at (rows s)) t0 ≡ Some (found t r d)
  unfolding type_name_step read_bare read_qualified mark_at word_at name_at text_at front_at selector_at
  type_name-exact (g.IsTypeName.bare (IsName.a_name {a = a_} {p = p_}) h2) = simp (h2)
  type_name-exact (g.IsTypeName.qualified (IsName.a_name {a = a_} {p = p_}) h2 h3) = simp (mark-exact h2, name-exact h3)

  pub type-exact : {t0 : Token} {t : TypeExpr} {r : List Token} {d : ℕ} → g.IsType S t (t0 ∷ s) r d → type_step s (row_at (rows s)) t0 ≡ Some (found t r d)
  unfolding type_step read_named read_paren_type read_pointer read_slice read_array read_map_type read_channel read_send_channel read_receive_channel read_function_type read_struct_type read_interface_type mark_at word_at name_at text_at front_at
  type-exact (g.IsType.named h1) = simp (type_name-exact h1)
  type-exact (g.IsType.paren_type (IsMark.a_mark {p = p_}) h2 h3) = simp (type_at S n F s l H X (here) h2, mark-exact h3, none-type_name-mark_LeftParen s (row_at (rows s)) p_)
  type-exact (g.IsType.pointer (IsMark.a_mark {p = p_}) h2) = simp (type_at S n F s l H X (here) h2, none-type_name-mark_Star s (row_at (rows s)) p_)
  type-exact (g.IsType.slice (IsMark.a_mark {p = p_}) h2 h3) = simp (mark-exact h2, type_at S n F s l H X (Ends-trans (here) (to_ends (After-mark h2))) h3, none-type_name-mark_LeftBracket s (row_at (rows s)) p_)
  type-exact (g.IsType.array (IsMark.a_mark {p = p_}) h2 h3 h4 h5 h6) = simp (h2, h3, expr_at S n F s l H X (here) h4, mark-exact h5, type_at S n F s l H X (Ends-trans (Ends-trans (here) (to_ends (After-expr h4))) (to_ends (After-mark h5))) h6, none-type_name-mark_LeftBracket s (row_at (rows s)) p_)
  type-exact (g.IsType.map_type (IsWord.a_word {p = p_}) h2 h3 h4 h5) = simp (mark-exact h2, type_at S n F s l H X (Ends-trans (here) (to_ends (After-mark h2))) h3, mark-exact h4, type_at S n F s l H X (Ends-trans (Ends-trans (Ends-trans (here) (to_ends (After-mark h2))) (to_ends (After-type h3))) (to_ends (After-mark h4))) h5, none-type_name-word_Map s (row_at (rows s)) p_)
  type-exact (g.IsType.channel (IsWord.a_word {p = p_}) h2 h3) = simp (h2, type_at S n F s l H X (here) h3, none-type_name-word_Chan s (row_at (rows s)) p_)
  type-exact (g.IsType.send_channel (IsWord.a_word {p = p_}) h2 h3) = simp (mark-exact h2, type_at S n F s l H X (Ends-trans (here) (to_ends (After-mark h2))) h3, none-type_name-word_Chan s (row_at (rows s)) p_)
  type-exact (g.IsType.receive_channel (IsMark.a_mark {p = p_}) h2 h3) = simp (word-exact h2, type_at S n F s l H X (Ends-trans (here) (to_ends (After-word h2))) h3, none-type_name-mark_Arrow s (row_at (rows s)) p_)
  type-exact (g.IsType.function_type (IsWord.a_word {p = p_}) h2) = simp (signature_at S n F s l H X (here) h2, none-type_name-word_Func s (row_at (rows s)) p_)
  type-exact (g.IsType.struct_type (IsWord.a_word {p = p_}) h2 h3 h4) = simp (mark-exact h2, fields_at S n F s l H X (Ends-trans (here) (to_ends (After-mark h2))) h3, mark-exact h4, none-type_name-word_Struct s (row_at (rows s)) p_)
  type-exact (g.IsType.interface_type (IsWord.a_word {p = p_}) h2 h3 h4) = simp (mark-exact h2, members_at S n F s l H X (Ends-trans (here) (to_ends (After-mark h2))) h3, mark-exact h4, none-type_name-word_Interface s (row_at (rows s)) p_)

  pub unnamed-exact : {v : Bool} {t0 : Token} {t : List Parameter} {r : List Token} {d : ℕ} → g.AreUnnamed S v t (t0 ∷ s) r d → unnamed_step s (row_at (rows s)) v t0 ≡ Some (found t r d)
  unfolding unnamed_step read_last_type read_more_types read_last_dots mark_at word_at name_at text_at front_at
  unnamed-exact {v = v} (g.AreUnnamed.last_type h1 h2) = simp (type-exact h1, trail-exact refl h2)
  unnamed-exact {v = v} (g.AreUnnamed.more_types h1 h2 h3 h4) = simp (type-exact h1, mark-exact h2, h3, unnamed_at S n F s l H X (Ends-trans (ends_of (After-type h1)) (to_ends (After-mark h2))) h4, no-trail mark.RightParen refl h2 h3)
  unnamed-exact {v = v} (g.AreUnnamed.last_dots (IsMark.a_mark {p = p_}) h2 h3 h4) = simp (h2, type_at S n F s l H X (here) h3, trail-exact refl h4, none-type-mark_Ellipsis s (row_at (rows s)) p_)

  pub named_params-exact : {v : Bool} {t0 : Token} {t : List Parameter} {r : List Token} {d : ℕ} → g.AreNamed S v t (t0 ∷ s) r d → named_params_step s (row_at (rows s)) v t0 ≡ Some (found t r d)
  unfolding named_params_step read_last_named_dots read_last_named read_more_named mark_at word_at name_at text_at front_at
  named_params-exact {v = v} (g.AreNamed.last_named_dots h1 h2 h3 h4 h5 h6) = simp (idents-exact h1, mark-exact h2, h3, h4, type_at S n F s l H X (Ends-trans (ends_of (After-idents h1)) (to_ends (After-mark h2))) h5, trail-exact refl h6)
  named_params-exact {v = v} (g.AreNamed.last_named h1 h2 h3 h4) = simp (idents-exact h1, h2, type_at S n F s l H X (ends_of (After-idents h1)) h3, trail-exact refl h4)
  named_params-exact {v = v} (g.AreNamed.more_named h1 h2 h3 h4 h5 h6) = simp (idents-exact h1, h2, type_at S n F s l H X (ends_of (After-idents h1)) h3, mark-exact h4, h5, named_params_at S n F s l H X (Ends-trans (Ends-trans (ends_of (After-idents h1)) (to_ends (After-type h3))) (to_ends (After-mark h4))) h6, no-trail mark.RightParen refl h4 h5)

  pub params-exact : {v : Bool} {t0 : Token} {t : Parameters} {r : List Token} {d : ℕ} → g.AreParams S v t (t0 ∷ s) r d → params_step s (row_at (rows s)) v t0 ≡ Some (found t r d)
  unfolding params_step read_no_params read_named_list read_unnamed_list mark_at word_at name_at text_at front_at
  params-exact {v = v} (g.AreParams.no_params (IsMark.a_mark {p = p_}) h2) = simp (mark-exact h2)
  params-exact {v = v} (g.AreParams.named_list (IsMark.a_mark {p = p_}) h2 h3 h4) = simp (h2, named_params_at S n F s l H X (here) h3, mark-exact h4)
  params-exact {v = v} (g.AreParams.unnamed_list (IsMark.a_mark {p = p_}) h2 h3 h4 h5) = simp (h2, named_params_lacking S n F s l H X v (here) h3, unnamed_at S n F s l H X (here) h4, mark-exact h5)

  pub signature-exact : {t0 : Token} {t : Signature} {r : List Token} {d : ℕ} → g.IsSignature S t (t0 ∷ s) r d → signature_step s (row_at (rows s)) t0 ≡ Some (found t r d)
  unfolding signature_step read_results read_result read_plain mark_at word_at name_at text_at front_at
  signature-exact (g.IsSignature.results h1 h2 h3) = simp (params-exact h1, mark-exact h2, params_at S n F s l H X (ends_of (After-params h1)) h3)
  signature-exact (g.IsSignature.result h1 h2 h3) = simp (params-exact h1, h2, type_at S n F s l H X (ends_of (After-params h1)) h3)
  signature-exact (g.IsSignature.plain h1 h2 h3) = simp (params-exact h1, h2, type_lacking S n F s l H X (ends_of (After-params h1)) h3)

  pub tag-exact : {t0 : Token} {t : Option Token} {r : List Token} {d : ℕ} → g.IsTag S t (t0 ∷ s) r d → tag_step s (row_at (rows s)) t0 ≡ Some (found t r d)
  unfolding tag_step read_a_tag read_no_tag mark_at word_at name_at text_at front_at
  tag-exact (g.IsTag.a_tag (IsText.a_text {v = a_} {p = p_})) = refl
  tag-exact (g.IsTag.no_tag (IsFront.a_front {k = k_} {p = p_} e_)) = simp (e_, front-no-text field_end-not-text (front-of is_field_end {k = k_} {p = p_} {r = s} e_))

  -- a name that no comma follows
  idents-alone : (a : List ℕ) (p : Span) → mark_at mark.Comma s ≡ None → idents_step s (row_at (rows s)) (identifier a p) ≡ Some (found (identifier a p ∷ []) s 0)
  unfolding idents_step read_one_name read_more_names name_at
  idents-alone a p e = simp e

  pub field-exact : {t0 : Token} {t : Field} {r : List Token} {d : ℕ} → g.IsField S t (t0 ∷ s) r d → field_step s (row_at (rows s)) t0 ≡ Some (found t r d)
  unfolding field_step read_named_field read_embedded_field read_qualified_field read_pointer_field mark_at word_at name_at text_at front_at
  field-exact (g.IsField.named_field h1 h2 h3 h4 h5) = simp (idents-exact h1, h2, h3, type_at S n F s l H X (ends_of (After-idents h1)) h4, tag_at S n F s l H X (Ends-trans (ends_of (After-idents h1)) (to_ends (After-type h4))) h5)
  field-exact (g.IsField.embedded_field (IsName.a_name {a = a_} {p = p_}) h2 h3) = simp (front-exact h2, front-no-mark mark.Dot refl h2, tag_at S n F s l H X (here) h3, idents-alone a_ p_ (front-no-mark mark.Comma refl h2))
  field-exact (g.IsField.qualified_field (IsName.a_name {a = a_} {p = p_}) h2 h3 h4) = simp (mark-exact h2, mark-no-front is_embed_end refl h2, name-exact h3, tag_at S n F s l H X (Ends-trans (Ends-trans (here) (to_ends (After-mark h2))) (to_ends (After-name h3))) h4, idents-alone a_ p_ (mark-other mark.Comma refl h2))
  field-exact (g.IsField.pointer_field (IsMark.a_mark {p = p_}) h2 h3) = simp (type_name_at S n F s l H X (here) h2, tag_at S n F s l H X (Ends-trans (here) (to_ends (After-type_name h2))) h3, none-idents-mark_Star s (row_at (rows s)) p_)

  pub fields-exact : {t0 : Token} {t : List Field} {r : List Token} {d : ℕ} → g.AreFields S t (t0 ∷ s) r d → fields_step s (row_at (rows s)) t0 ≡ Some (found t r d)
  unfolding fields_step read_last_field read_more_fields read_no_fields mark_at word_at name_at text_at front_at
  fields-exact (g.AreFields.last_field h1 h2) = simp (field-exact h1, mark-exact h2)
  fields-exact (g.AreFields.more_fields h1 h2 h3) = simp (field-exact h1, front-exact h2, front-no-mark mark.RightBrace refl h2, fields_at S n F s l H X (Ends-trans (ends_of (After-field h1)) (to_ends (After-front h2))) h3)
  fields-exact (g.AreFields.no_fields (IsMark.a_mark {p = p_})) = simp (none-field-mark_RightBrace s (row_at (rows s)) p_)
