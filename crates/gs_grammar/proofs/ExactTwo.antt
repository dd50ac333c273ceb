-- What the grammar gives, the rows have.
use Rattle.std.proofs.Common.{◌≡◌, ℕ, suc, ◌≤◌, Bool, List, ◌∷◌, length, refl, sym, ◌∙◌, Option, Some, None}
use Rattle.gs_syntax.specs.declared.token.Span.{Span}
use Rattle.gs_syntax.specs.declared.token.Token.{Token}
use Rattle.gs_syntax.specs.declared.token.Operator.TheVariants as mark
use Rattle.gs_grammar.specs.declared.trees.TypeExpr.{TypeExpr}
use Rattle.gs_grammar.specs.declared.trees.Member.{Member}
use Rattle.gs_grammar.specs.declared.trees.Expr.{Expr}
use Rattle.gs_grammar.specs.declared.trees.LiteralValue.{LiteralValue}
use Rattle.gs_grammar.specs.declared.trees.Block.{Block}
use Rattle.gs_grammar.specs.Grammar as g
use Rattle.gs_grammar.specs.Front.{operator, IsMark, IsWord, IsName, IsFront, mark_at, word_at, name_at, text_at, front_at, selector_at, is_basic, is_composite_start, is_other_start}
use Rattle.gs_grammar.specs.Parts.{Found, found}
use Rattle.gs_grammar.specs.Reference.{row_at, rows, type_name_step, type_step, member_step, members_step, literal_step, selected_step, block_step, received_step, head_step, primary_step, unary_step, expr_step, read_bare, read_qualified, read_named, read_paren_type, read_pointer, read_slice, read_array, read_map_type, read_channel, read_send_channel, read_receive_channel, read_function_type, read_struct_type, read_interface_type, read_method, read_embedded_interface, read_qualified_interface, read_last_member, read_more_members, read_no_members, read_values_in_braces, read_selected_literal, read_braces, read_received, read_basic_literal, read_header_name, read_literal_of_selected, read_name, read_literal_of_name, read_paren, read_literal_of_type, read_composite_type, read_counted_literal, read_other_type, read_function_literal, read_lone_function_type, read_primary, read_bare_primary, read_signed, read_starred, read_receiver, read_receive_first, read_receive}
use Rattle.gs_grammar.proofs.Common.{Ends, here, Ends-trans, to_ends, ends_of, some_is_none, mark-exact, name-exact, front-exact, mark-other, front-no-mark, front-no-name, front-no-front, front-of, selector-exact, After-mark, After-name, After-front}
use Rattle.gs_grammar.proofs.Afters.{After-type, After-signature, After-member, After-head, After-expr}
use Rattle.gs_grammar.proofs.Fits.{Fits, AllSound, AllExact}
use Rattle.gs_grammar.proofs.LaterExact.{type_at, signature_at, members_at, literal_at, selected_at, block_at, received_at, suffixes_at, unary_at, expr_at, operands_at, elements_at, stmts_at, literal_lacking, selected_lacking, block_lacking, received_lacking}
use Rattle.gs_grammar.proofs.Nones.{composite_start-not-basic, composite_start-not-name, other_start-not-basic, other_start-not-composite_start, other_start-not-name, none-member-mark_RightBrace, none-primary-h-mark_Arrow, none-primary-h-mark_Star, none-primary-h-sign}
use Rattle.gs_grammar.proofs.Later.{selected_of}
use Rattle.gs_grammar.proofs.ExactOne.{type-exact}

module _ (S : g.Part → List Token → List Token → Type 0) (n : ℕ) (F : Fits S n) (s : List Token) (l : suc (length s) ≤ n) (H : AllSound S n s) (X : AllExact S n s) where
  pub member-exact : {t0 : Token} {t : Member} {r : List Token} {d : ℕ} → g.IsMember S t (t0 ∷ s) r d → member_step s (row_at (rows s)) t0 ≡ Some (found t r d)
  unfolding member_step read_method read_embedded_interface read_qualified_interface mark_at word_at name_at text_at front_at selector_at
  member-exact (g.IsMember.method (IsName.a_name {a = a_} {p = p_}) h2 h3) = simp (mark-exact h2, signature_at S n F s l H X (here) h3)
  member-exact (g.IsMember.embedded_interface (IsName.a_name {a = a_} {p = p_}) h2 h3) = simp (h2, h3)
  member-exact (g.IsMember.qualified_interface (IsName.a_name {a = a_} {p = p_}) h2 h3) = simp (mark-exact h2, mark-other mark.LeftParen refl h2, name-exact h3)

  pub members-exact : {t0 : Token} {t : List Member} {r : List Token} {d : ℕ} → g.AreMembers S t (t0 ∷ s) r d → members_step s (row_at (rows s)) t0 ≡ Some (found t r d)
  unfolding members_step read_last_member read_more_members read_no_members mark_at word_at name_at text_at front_at
  members-exact (g.AreMembers.last_member h1 h2) = simp (member-exact h1, mark-exact h2)
  members-exact (g.AreMembers.more_members h1 h2 h3) = simp (member-exact h1, front-exact h2, front-no-mark mark.RightBrace refl h2, members_at S n F s l H X (Ends-trans (ends_of (After-member h1)) (to_ends (After-front h2))) h3)
  members-exact (g.AreMembers.no_members (IsMark.a_mark {p = p_})) = simp (none-member-mark_RightBrace s (row_at (rows s)) p_)

  pub literal-exact : {t0 : Token} {t : LiteralValue} {r : List Token} {d : ℕ} → g.IsLiteral S t (t0 ∷ s) r d → literal_step s (row_at (rows s)) t0 ≡ Some (found t r d)
  unfolding literal_step read_values_in_braces mark_at word_at name_at text_at front_at
  literal-exact (g.IsLiteral.values_in_braces (IsMark.a_mark {p = p_}) h2 h3) = simp (elements_at S n F s l H X (here) h2, mark-exact h3)

  pub selected-exact : {t0 : Token} {t : Token × LiteralValue} {r : List Token} {d : ℕ} → g.IsSelected S t (t0 ∷ s) r d → selected_step s (row_at (rows s)) t0 ≡ Some (found t r d)
  unfolding selected_step read_selected_literal mark_at word_at name_at text_at front_at
  selected-exact (g.IsSelected.selected_literal (IsMark.a_mark {p = p_}) h2 h3) = simp (name-exact h2, literal_at S n F s l H X (Ends-trans (here) (to_ends (After-name h2))) h3)

  pub block-exact : {t0 : Token} {t : Block} {r : List Token} {d : ℕ} → g.IsBlock S t (t0 ∷ s) r d → block_step s (row_at (rows s)) t0 ≡ Some (found t r d)
  unfolding block_step read_braces mark_at word_at name_at text_at front_at
  block-exact (g.IsBlock.braces (IsMark.a_mark {p = p_}) h2 h3) = simp (stmts_at S n F s l H X (here) h2, mark-exact h3)

  pub received-exact : {t0 : Token} {t : TypeExpr} {r : List Token} {d : ℕ} → g.IsReceived S t (t0 ∷ s) r d → received_step s (row_at (rows s)) t0 ≡ Some (found t r d)
  unfolding received_step read_received mark_at word_at name_at text_at front_at
  received-exact (g.IsReceived.received (IsWord.a_word {p = p_}) h2 h3) = simp (type_at S n F s l H X (here) h2, front-exact h3)

  not-selected : {y : Token × LiteralValue} {u r : List Token} {d : ℕ} → selector_at u ≡ None → g.IsSelected S y u r d → ⊥
  not-selected e (g.IsSelected.selected_literal h1 h2 h3) = some_is_none (sym e ∙ selector-exact h1 h2)

  no-selected : {u : List Token} → Ends s u → selector_at u ≡ None → (row_at (rows s) u).selected ≡ None
  no-selected {u} q e = by (row_at (rows s) u).selected refl
    where
      by : (o : Option (Found (Token × LiteralValue))) → (row_at (rows s) u).selected ≡ o → (row_at (rows s) u).selected ≡ None
      by None c = c
      by (Some f) c = absurd (not-selected e (selected_of S n F s l H f q c))

  no-type-counted : (p : Span) {q : Span} {u : List Token} → IsMark mark.Ellipsis q s u → type_step s (row_at (rows s)) (operator mark.LeftBracket p) ≡ None
  unfolding type_step type_name_step read_bare read_qualified read_named read_paren_type read_pointer read_slice read_array read_map_type read_channel read_send_channel read_receive_channel read_function_type read_struct_type read_interface_type mark_at name_at word_at
  no-type-counted p h1 = simp (mark-other mark.RightBracket refl h1, mark-exact h1)

  pub head-exact : {h : Bool} {t0 : Token} {t : Expr} {r : List Token} {d : ℕ} → g.IsHead S h t (t0 ∷ s) r d → head_step s (row_at (rows s)) h t0 ≡ Some (found t r d)
  unfolding head_step read_basic_literal read_header_name read_literal_of_selected read_name read_literal_of_name read_paren read_literal_of_type read_composite_type read_counted_literal read_other_type read_function_literal read_lone_function_type mark_at word_at name_at text_at front_at selector_at
  head-exact {h = h} (g.IsHead.basic_literal (IsFront.a_front {k = k_} {p = p_} e_)) = simp (e_)
  head-exact {h = h} (g.IsHead.header_name (IsName.a_name {a = a_} {p = p_}) h2) = simp (h2)
  head-exact {h = h} (g.IsHead.literal_of_selected (IsName.a_name {a = a_} {p = p_}) h2 h3) = simp (h2, selected_at S n F s l H X (here) h3)
  head-exact {h = h} (g.IsHead.name (IsName.a_name {a = a_} {p = p_}) h2 h3 h4) = simp (h2, selected_lacking S n F s l H X (here) h3, literal_lacking S n F s l H X (here) h4)
  head-exact {h = h} (g.IsHead.literal_of_name (IsName.a_name {a = a_} {p = p_}) h2 h3 h4) = simp (h2, h3, literal_at S n F s l H X (here) h4, no-selected here h3)
  head-exact {h = h} (g.IsHead.paren (IsMark.a_mark {p = p_}) h2 h3) = simp (expr_at S n F s l H X (here) h2, mark-exact h3)
  head-exact {h = h} (g.IsHead.literal_of_type (IsFront.a_front {k = k_} {p = p_} e_) h2 h3) = simp (e_, front-no-front is_basic composite_start-not-basic (front-of is_composite_start {k = k_} {p = p_} {r = s} e_), front-no-name composite_start-not-name (front-of is_composite_start {k = k_} {p = p_} {r = s} e_), front-no-mark mark.Dot refl (front-of is_composite_start {k = k_} {p = p_} {r = s} e_), front-no-mark mark.LeftParen refl (front-of is_composite_start {k = k_} {p = p_} {r = s} e_), front-no-mark mark.RightParen refl (front-of is_composite_start {k = k_} {p = p_} {r = s} e_), type-exact S n F s l H X h2, literal_at S n F s l H X (ends_of (After-type h2)) h3)
  head-exact {h = h} (g.IsHead.composite_type (IsFront.a_front {k = k_} {p = p_} e_) h2 h3) = simp (e_, front-no-front is_basic composite_start-not-basic (front-of is_composite_start {k = k_} {p = p_} {r = s} e_), front-no-name composite_start-not-name (front-of is_composite_start {k = k_} {p = p_} {r = s} e_), front-no-mark mark.Dot refl (front-of is_composite_start {k = k_} {p = p_} {r = s} e_), front-no-mark mark.LeftParen refl (front-of is_composite_start {k = k_} {p = p_} {r = s} e_), front-no-mark mark.RightParen refl (front-of is_composite_start {k = k_} {p = p_} {r = s} e_), type-exact S n F s l H X h2, literal_lacking S n F s l H X (ends_of (After-type h2)) h3)
  head-exact {h = h} (g.IsHead.counted_literal (IsMark.a_mark {p = p_}) h2 h3 h4 h5) = simp (mark-exact h2, mark-exact h3, type_at S n F s l H X (Ends-trans (Ends-trans (here) (to_ends (After-mark h2))) (to_ends (After-mark h3))) h4, literal_at S n F s l H X (Ends-trans (Ends-trans (Ends-trans (here) (to_ends (After-mark h2))) (to_ends (After-mark h3))) (to_ends (After-type h4))) h5, no-type-counted p_ h2)
  head-exact {h = h} (g.IsHead.other_type (IsFront.a_front {k = k_} {p = p_} e_) h2) = simp (e_, front-no-front is_basic other_start-not-basic (front-of is_other_start {k = k_} {p = p_} {r = s} e_), front-no-name other_start-not-name (front-of is_other_start {k = k_} {p = p_} {r = s} e_), front-no-mark mark.Dot refl (front-of is_other_start {k = k_} {p = p_} {r = s} e_), front-no-mark mark.LeftParen refl (front-of is_other_start {k = k_} {p = p_} {r = s} e_), front-no-mark mark.RightParen refl (front-of is_other_start {k = k_} {p = p_} {r = s} e_), front-no-front is_composite_start other_start-not-composite_start (front-of is_other_start {k = k_} {p = p_} {r = s} e_), front-no-mark mark.LeftBracket refl (front-of is_other_start {k = k_} {p = p_} {r = s} e_), front-no-mark mark.Ellipsis refl (front-of is_other_start {k = k_} {p = p_} {r = s} e_), front-no-mark mark.RightBracket refl (front-of is_other_start {k = k_} {p = p_} {r = s} e_), type-exact S n F s l H X h2)
  head-exact {h = h} (g.IsHead.function_literal (IsWord.a_word {p = p_}) h2 h3) = simp (signature_at S n F s l H X (here) h2, block_at S n F s l H X (Ends-trans (here) (to_ends (After-signature h2))) h3)
  head-exact {h = h} (g.IsHead.lone_function_type (IsWord.a_word {p = p_}) h2 h3) = simp (signature_at S n F s l H X (here) h2, block_lacking S n F s l H X (Ends-trans (here) (to_ends (After-signature h2))) h3)

  pub primary-exact : {h : Bool} {t0 : Token} {t : Expr} {r : List Token} {d : ℕ} → g.IsPrimary S h t (t0 ∷ s) r d → primary_step s (row_at (rows s)) h t0 ≡ Some (found t r d)
  unfolding primary_step read_primary mark_at word_at name_at text_at front_at
  primary-exact {h = h} (g.IsPrimary.primary h1 h2) = simp (head-exact h1, suffixes_at S n F s l H X (ends_of (After-head h1)) h2)

  pub unary-exact : {h : Bool} {w : Bool} {t0 : Token} {t : Expr} {r : List Token} {d : ℕ} → g.IsUnary S h w t (t0 ∷ s) r d → unary_step s (row_at (rows s)) h w t0 ≡ Some (found t r d)
  unfolding unary_step read_bare_primary read_signed read_starred read_receiver read_receive_first read_receive mark_at word_at name_at text_at front_at
  unary-exact {h = h} {w = w} (g.IsUnary.bare_primary h1) = simp (primary-exact h1)
  unary-exact {h = h} {w = w} (g.IsUnary.signed (IsFront.a_front {k = k_} {p = p_} e_) h2) = simp (e_, unary_at S n F s l H X (here) h2, none-primary-h-sign s (row_at (rows s)) h k_ p_ e_)
  unary-exact {h = h} {w = w} (g.IsUnary.starred (IsMark.a_mark {p = p_}) h2) = simp (unary_at S n F s l H X (here) h2, none-primary-h-mark_Star s (row_at (rows s)) h p_)
  unary-exact {h = h} {w = w} (g.IsUnary.receiver (IsMark.a_mark {p = p_}) h2 h3) = simp (h2, received_at S n F s l H X (here) h3, none-primary-h-mark_Arrow s (row_at (rows s)) h p_)
  unary-exact {h = h} {w = w} (g.IsUnary.receive_first (IsMark.a_mark {p = p_}) h2 h3 h4) = simp (h2, received_lacking S n F s l H X (here) h3, unary_at S n F s l H X (here) h4, none-primary-h-mark_Arrow s (row_at (rows s)) h p_)
  unary-exact {h = h} {w = w} (g.IsUnary.receive (IsMark.a_mark {p = p_}) h2 h3) = simp (h2, unary_at S n F s l H X (here) h3, none-primary-h-mark_Arrow s (row_at (rows s)) h p_)

  pub expr-exact : {m : ℕ} {h : Bool} {w : Bool} {t0 : Token} {t : Expr} {r : List Token} {d : ℕ} → g.IsExpr S m h w t (t0 ∷ s) r d → expr_step s (row_at (rows s)) m h w t0 ≡ Some (found t r d)
  unfolding expr_step
  expr-exact (g.IsExpr.lone h1) = unary-exact h1
  expr-exact (g.IsExpr.level h1 h2) = simp (expr-exact h1, operands_at S n F s l H X (ends_of (After-expr h1)) h2)
