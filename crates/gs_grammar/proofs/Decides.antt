-- The conditions by which a rule decides for itself follow from its parts and from what stands behind it.
use Rattle.std.proofs.Common.{◌≡◌, ℕ, suc, ◌<◌, ◌≤◌, max, Bool, true, false, List, [], ◌∷◌, length, refl, sym, ap, ◌∙◌, subst, arith, Option, Some, None}
use Rattle.gs_syntax.specs.declared.token.TokenKind.{TokenKind}
use Rattle.gs_syntax.specs.declared.token.TokenKind.TheVariants as kind
use Rattle.gs_syntax.specs.declared.token.Operator.{Operator}
use Rattle.gs_syntax.specs.declared.token.Keyword.{Keyword}
use Rattle.gs_syntax.specs.declared.token.Span.{Span}
use Rattle.gs_syntax.specs.declared.token.Token.{Token}
use Rattle.gs_syntax.specs.declared.token.Operator.TheVariants as mark
use Rattle.gs_syntax.specs.declared.token.Keyword.TheVariants as word
use Rattle.gs_grammar.specs.declared.trees.Chunk.TheVariants as ch
use Rattle.gs_grammar.specs.declared.trees.ImportSpec.{ImportSpec}
use Rattle.gs_grammar.specs.declared.trees.Top.TheVariants as tp
use Rattle.gs_grammar.specs.declared.trees.Decl.{Decl}
use Rattle.gs_grammar.specs.declared.trees.Decl.TheVariants as de
use Rattle.gs_grammar.specs.declared.trees.ConstSpec.{ConstSpec}
use Rattle.gs_grammar.specs.declared.trees.ConstSpec.TheVariants as cns
use Rattle.gs_grammar.specs.declared.trees.TypeSpec.{TypeSpec}
use Rattle.gs_grammar.specs.declared.trees.TypeSpec.TheVariants as tys
use Rattle.gs_grammar.specs.declared.trees.VarSpec.{VarSpec}
use Rattle.gs_grammar.specs.declared.trees.VarSpec.TheVariants as vs
use Rattle.gs_grammar.specs.declared.trees.TypeExpr.{TypeExpr}
use Rattle.gs_grammar.specs.declared.trees.TypeExpr.TheVariants as ty
use Rattle.gs_grammar.specs.declared.trees.Signature.{Signature}
use Rattle.gs_grammar.specs.declared.trees.Signature.TheVariants as sg
use Rattle.gs_grammar.specs.declared.trees.Parameters.{Parameters}
use Rattle.gs_grammar.specs.declared.trees.Parameter.{Parameter}
use Rattle.gs_grammar.specs.declared.trees.Parameter.TheVariants as pa
use Rattle.gs_grammar.specs.declared.trees.Field.{Field}
use Rattle.gs_grammar.specs.declared.trees.Field.TheVariants as fi
use Rattle.gs_grammar.specs.declared.trees.Member.{Member}
use Rattle.gs_grammar.specs.declared.trees.Member.TheVariants as me
use Rattle.gs_grammar.specs.declared.trees.Expr.{Expr}
use Rattle.gs_grammar.specs.declared.trees.Expr.TheVariants as ex
use Rattle.gs_grammar.specs.declared.trees.Suffix.{Suffix}
use Rattle.gs_grammar.specs.declared.trees.Suffix.TheVariants as sf
use Rattle.gs_grammar.specs.declared.trees.LiteralValue.{LiteralValue}
use Rattle.gs_grammar.specs.declared.trees.Element.{Element}
use Rattle.gs_grammar.specs.declared.trees.Element.TheVariants as el
use Rattle.gs_grammar.specs.declared.trees.ElementValue.{ElementValue}
use Rattle.gs_grammar.specs.declared.trees.Block.{Block}
use Rattle.gs_grammar.specs.declared.trees.Stmt.{Stmt}
use Rattle.gs_grammar.specs.declared.trees.Stmt.TheVariants as st
use Rattle.gs_grammar.specs.declared.trees.Simple.{Simple}
use Rattle.gs_grammar.specs.declared.trees.Simple.TheVariants as si
use Rattle.gs_grammar.specs.declared.trees.Arm.{Arm}
use Rattle.gs_grammar.specs.declared.trees.Clause.{Clause}
use Rattle.gs_grammar.specs.declared.trees.TypeClause.{TypeClause}
use Rattle.gs_grammar.specs.declared.trees.Comm.TheVariants as cm
use Rattle.gs_grammar.specs.declared.trees.RangeLeft.{RangeLeft}
use Rattle.gs_grammar.specs.Front.{IsMark, IsWord, IsName, IsText, IsFront, IsTrail, is_mark, mark_at, word_at, name_at, selector_at, defined_at, label_at, binary_level, is_decl_start, is_goes_on, is_semi, is_stmt_end, is_spec_end, is_list_end, is_bound_end, is_field_end, is_embed_end, is_name}
use Rattle.gs_grammar.specs.Parts.{found, make_parameters, make_arm, is_receiver}
use Rattle.gs_grammar.specs.Grammar as g
use Rattle.gs_grammar.proofs.Common.{length-After, some_is, mark-sound, name-sound, mark-other, mark-no-word, name-no-mark, no-selector, trail-no-mark, After-mark, After-word, After-name}
use Rattle.gs_grammar.proofs.Afters.{After-header}
use Rattle.gs_grammar.proofs.Fits.{Fits}
use Rattle.gs_grammar.proofs.Sound.{sound}
use Rattle.gs_grammar.proofs.Exact.{exact}
use Rattle.gs_grammar.proofs.Begins.{Begins, Marked, at-mark, at-word, at-name, at-text, at-front, widen, lacks-mark, lacks-word, lacks-front, not-mark, not-word, not-name, apart, marks-apart, name-apart, mark-one, name-one, is_expr_start, is_typed, type-in-typed, type-not-embed, field-in-embed, is_exprs_end, is_simple_end, is_group_end, const_end, is_line, is_lone, is_listed, is_range, sign-not-heads, semi-not-exprs, range-not-exprs, semi-not-range, simple-not-goes, step-goes, update-goes, goes-line, end-line, semi-in-stmt, end-not-no, semi-in-single, step-in-single, update-in-single, listed-not-single, head-exprs, is_suffix_start, is_below, or-left, Goes, binary-not, idents-begins, type-begins, primary-begins, expr-begins, exprs-begins, const_spec-begins, type_spec-begins, var_spec-begins, stmt-begins, decl-begins, type-not-spec, literal-opens, block-opens, params-open, signature-opens, named_params-begins}

abbrev is_head_name : TokenKind → Bool
is_head_name (kind.Identifier a) = true
is_head_name _ = false

-- `.(type`, as behind what a type switch looks at
pub data TypeWord : List Token → Type 0 where
  type_word : {p q z : Span} {s s1 s2 s3 : List Token} → IsMark mark.Dot p s s1 → IsMark mark.LeftParen q s1 s2 → IsWord word.«Type» z s2 s3 → TypeWord s

dot-first : {s : List Token} → TypeWord s → Marked mark.Dot s
dot-first (TypeWord.type_word h1 h2 h3) = Marked.marked h1

marked-not : {f : TokenKind → Bool} {o : Operator} {s : List Token} → f (kind.Operator o) ≡ false → Marked o s → Begins f s → ⊥
marked-not e (Marked.marked h) b = not-mark e h b

marked-apart : {o m : Operator} {q : Span} {s v : List Token} → is_mark m (kind.Operator o) ≡ false → Marked o s → IsMark m q s v → ⊥
marked-apart e (Marked.marked h) k = marks-apart e h k

module _ (S : g.Part → List Token → List Token → Type 0) where
  -- ---- where suffixes and operands stop

  pub data HasSuffix : List Token → Type 0 where
    has_suffix : {x : Suffix} {s r : List Token} {d : ℕ} → g.IsSuffix S x s r d → HasSuffix s

  pub suffix-goes : {x : Suffix} {u v : List Token} {d : ℕ} → g.IsSuffix S x u v d → Begins is_suffix_start u
  suffix-goes (g.IsSuffix.selector h1 h2) = at-mark refl h1
  suffix-goes (g.IsSuffix.assertion h1 h2 h3 h4) = at-mark refl h1
  suffix-goes (g.IsSuffix.open_slice h1 h2 h3 h4) = at-mark refl h1
  suffix-goes (g.IsSuffix.open_full_slice h1 h2 h3 h4 h5 h6) = at-mark refl h1
  suffix-goes (g.IsSuffix.index h1 h2 h3 h4) = at-mark refl h1
  suffix-goes (g.IsSuffix.slice_expr h1 h2 h3 h4 h5 h6) = at-mark refl h1
  suffix-goes (g.IsSuffix.full_slice h1 h2 h3 h4 h5 h6 h7 h8) = at-mark refl h1
  suffix-goes (g.IsSuffix.call h1 h2 h3) = at-mark refl h1

  suffix-up : {r : List Token} → Begins is_suffix_start r → Goes 0 r
  suffix-up (Begins.begins (IsFront.a_front {k} e)) = Goes.goes_on (IsFront.a_front (or-left (is_suffix_start k) (is_below 0 (binary_level k)) e))

  pub suffix-then-goes : {r : List Token} → HasSuffix r → Goes 0 r
  suffix-then-goes (HasSuffix.has_suffix h) = suffix-up (suffix-goes h)

  suffixes-stop : {xs : List Suffix} {u r : List Token} {d : ℕ} → (HasSuffix u → ⊥) → g.AreSuffixes S xs u r d → r ≡ u
  suffixes-stop f (g.AreSuffixes.more_suffixes h1 h2) = absurd (f (HasSuffix.has_suffix h1))
  suffixes-stop f (g.AreSuffixes.no_suffixes h1) = refl

  mark-no-suffix : {o : Operator} {q : Span} {u v : List Token} → is_suffix_start (kind.Operator o) ≡ false → IsMark o q u v → HasSuffix u → ⊥
  mark-no-suffix e m (HasSuffix.has_suffix h) = not-mark e m (suffix-goes h)

  word-no-selector : {p q z : Span} {x : Token} {s s1 r v w : List Token} → IsMark mark.Dot p s s1 → IsName x s1 r → IsMark mark.Dot q s v → IsMark mark.LeftParen z v w → ⊥
  word-no-selector {x = x} {r = r} h1 h2 m1 m2 = name-apart (subst (λ u. IsName x u r) (mark-one h1 m1) h2) m2

  word-no-assertion : {p p1 q q1 z : Span} {t : TypeExpr} {s s1 s2 s3 v w y : List Token} {d : ℕ} → IsMark mark.Dot p s s1 → IsMark mark.LeftParen p1 s1 s2 → g.IsType S t s2 s3 d → IsMark mark.Dot q s v → IsMark mark.LeftParen q1 v w → IsWord word.«Type» z w y → ⊥
  word-no-assertion {p1 = p1} {z = z} {s2 = s2} {y = y} h1 h2 h3 m1 m2 m3 =
      let h2' = subst (λ u. IsMark mark.LeftParen p1 u s2) (mark-one h1 m1) h2 in
      not-word refl (subst (λ u. IsWord word.«Type» z u y) (mark-one m2 h2') m3) (type-begins S h3)

  suffix-at-word : {x : Suffix} {u v : List Token} {d : ℕ} → g.IsSuffix S x u v d → TypeWord u → ⊥
  suffix-at-word (g.IsSuffix.selector h1 h2) (TypeWord.type_word m1 m2 m3) = word-no-selector h1 h2 m1 m2
  suffix-at-word (g.IsSuffix.assertion h1 h2 h3 h4) (TypeWord.type_word m1 m2 m3) = word-no-assertion h1 h2 h3 m1 m2 m3
  suffix-at-word (g.IsSuffix.open_slice h1 h2 h3 h4) w = marked-apart refl (dot-first w) h1
  suffix-at-word (g.IsSuffix.open_full_slice h1 h2 h3 h4 h5 h6) w = marked-apart refl (dot-first w) h1
  suffix-at-word (g.IsSuffix.index h1 h2 h3 h4) w = marked-apart refl (dot-first w) h1
  suffix-at-word (g.IsSuffix.slice_expr h1 h2 h3 h4 h5 h6) w = marked-apart refl (dot-first w) h1
  suffix-at-word (g.IsSuffix.full_slice h1 h2 h3 h4 h5 h6 h7 h8) w = marked-apart refl (dot-first w) h1
  suffix-at-word (g.IsSuffix.call h1 h2 h3) w = marked-apart refl (dot-first w) h1

  pub word-no-suffix : {u : List Token} → TypeWord u → HasSuffix u → ⊥
  word-no-suffix w (HasSuffix.has_suffix h) = suffix-at-word h w

  operands-stop : {o : Operator} {m : ℕ} {h : Bool} {xs : List (Token × Expr)} {u r : List Token} {d : ℕ} → binary_level (kind.Operator o) ≡ None → Marked o u → g.AreOperands S m h xs u r d → r ≡ u
  operands-stop {m = m} e (Marked.marked k) (g.AreOperands.more_operands (g.IsOperand.operand h1 h2) h3) = absurd (binary-not m e k h1)
  operands-stop e k (g.AreOperands.no_operands h1) = refl

  -- ---- a name with a mark behind it that goes on with nothing is a whole expression

  head-name : {o : Operator} {q : Span} {h : Bool} {t : Expr} {x : Token} {s r u v : List Token} {d : ℕ} → is_suffix_start (kind.Operator o) ≡ false → is_mark mark.LeftBrace (kind.Operator o) ≡ false → g.IsHead S h t s r d → IsName x s u → IsMark o q u v → r ≡ u
  head-name e1 e3 (g.IsHead.basic_literal h1) n m = absurd (not-name (λ a. refl) n (Begins.begins h1))
  head-name e1 e3 (g.IsHead.header_name h1 h2) n m = name-one h1 n
  head-name {o} {q} {v = v} e1 e3 (g.IsHead.literal_of_selected h1 h2 (g.IsSelected.selected_literal h3 h4 h5)) n m = absurd (not-mark {f = is_suffix_start} e1 (subst (λ z. IsMark o q z v) (sym (name-one h1 n)) m) (at-mark refl h3))
  head-name e1 e3 (g.IsHead.name h1 h2 h3 h4) n m = name-one h1 n
  head-name {o} {q} {v = v} e1 e3 (g.IsHead.literal_of_name h1 h2 h3 (g.IsLiteral.values_in_braces h4 h5 h6)) n m = absurd (marks-apart e3 (subst (λ z. IsMark o q z v) (sym (name-one h1 n)) m) h4)
  head-name e1 e3 (g.IsHead.paren h1 h2 h3) n m = absurd (name-apart n h1)
  head-name e1 e3 (g.IsHead.literal_of_type h1 h2 h3) n m = absurd (not-name (λ a. refl) n (Begins.begins h1))
  head-name e1 e3 (g.IsHead.composite_type h1 h2 h3) n m = absurd (not-name (λ a. refl) n (Begins.begins h1))
  head-name e1 e3 (g.IsHead.counted_literal h1 h2 h3 h4 h5) n m = absurd (name-apart n h1)
  head-name e1 e3 (g.IsHead.other_type h1 h2) n m = absurd (not-name (λ a. refl) n (Begins.begins h1))
  head-name e1 e3 (g.IsHead.function_literal h1 h2 h3) n m = absurd (not-word refl h1 (at-name {f = is_head_name} (λ a. refl) n))
  head-name e1 e3 (g.IsHead.lone_function_type h1 h2 h3) n m = absurd (not-word refl h1 (at-name {f = is_head_name} (λ a. refl) n))

  primary-name : {o : Operator} {q : Span} {h : Bool} {t : Expr} {x : Token} {s r u v : List Token} {d : ℕ} → is_suffix_start (kind.Operator o) ≡ false → is_mark mark.LeftBrace (kind.Operator o) ≡ false → g.IsPrimary S h t s r d → IsName x s u → IsMark o q u v → r ≡ u
  primary-name {o} {q} {v = v} e1 e3 (g.IsPrimary.primary h1 h2) n m =
      let e = head-name e1 e3 h1 n m in
      suffixes-stop (mark-no-suffix e1 (subst (λ z. IsMark o q z v) (sym e) m)) h2 ∙ e

  unary-name : {o : Operator} {q : Span} {h w : Bool} {t : Expr} {x : Token} {s r u v : List Token} {d : ℕ} → is_suffix_start (kind.Operator o) ≡ false → is_mark mark.LeftBrace (kind.Operator o) ≡ false → g.IsUnary S h w t s r d → IsName x s u → IsMark o q u v → r ≡ u
  unary-name e1 e3 (g.IsUnary.bare_primary h1) n m = primary-name e1 e3 h1 n m
  unary-name e1 e3 (g.IsUnary.signed h1 h2) n m = absurd (not-name (λ a. refl) n (Begins.begins h1))
  unary-name e1 e3 (g.IsUnary.starred h1 h2) n m = absurd (name-apart n h1)
  unary-name e1 e3 (g.IsUnary.receiver h1 h2 h3) n m = absurd (name-apart n h1)
  unary-name e1 e3 (g.IsUnary.receive_first h1 h2 h3 h4) n m = absurd (name-apart n h1)
  unary-name e1 e3 (g.IsUnary.receive h1 h2 h3) n m = absurd (name-apart n h1)

  expr-name : {o : Operator} {q : Span} {l : ℕ} {h w : Bool} {t : Expr} {x : Token} {s r u v : List Token} {d : ℕ} → is_suffix_start (kind.Operator o) ≡ false → binary_level (kind.Operator o) ≡ None → is_mark mark.LeftBrace (kind.Operator o) ≡ false → g.IsExpr S l h w t s r d → IsName x s u → IsMark o q u v → r ≡ u
  expr-name e1 e2 e3 (g.IsExpr.lone h1) n m = unary-name e1 e3 h1 n m
  expr-name {o} {q} {v = v} e1 e2 e3 (g.IsExpr.level h1 h2) n m =
      let e = expr-name e1 e2 e3 h1 n m in
      operands-stop e2 (Marked.marked (subst (λ z. IsMark o q z v) (sym e) m)) h2 ∙ e

  -- ---- the first expression of a simple statement, and what stands behind it
  pub data Leads (h : Bool) (f : TokenKind → Bool) : List Token → Type 0 where
    leads : {t : Expr} {s v : List Token} {d : ℕ} → g.IsExpr S 5 h false t s v d → Begins f v → Leads h f s

  exprs-lead : {h : Bool} {f : TokenKind → Bool} {ts : List Expr} {s r : List Token} {d : ℕ} → f (kind.Operator mark.Comma) ≡ true → g.AreExprs S h ts s r d → Begins f r → Leads h f s
  exprs-lead e (g.AreExprs.one_expr h1 h2) b = Leads.leads h1 b
  exprs-lead e (g.AreExprs.more_exprs h1 h2 h3) b = Leads.leads h1 (at-mark e h2)

  simple-lead : {h : Bool} {i : Simple} {s r : List Token} {d : ℕ} → g.IsSimple S h i s r d → Begins is_line r → Leads h is_line s
  simple-lead (g.IsSimple.assign h1 h2 h3) b = exprs-lead refl h1 (at-mark refl h2)
  simple-lead (g.IsSimple.define h1 h2 h3) b = exprs-lead refl h1 (at-mark refl h2)
  simple-lead (g.IsSimple.expression h1 h2) b = Leads.leads h1 b
  simple-lead (g.IsSimple.send h1 h2 h3) b = Leads.leads h1 (at-mark refl h2)
  simple-lead (g.IsSimple.step h1 h2) b = Leads.leads h1 (widen goes-line (at-front step-goes h2))
  simple-lead (g.IsSimple.update h1 h2 h3) b = Leads.leads h1 (widen goes-line (at-front update-goes h2))

  header-lead : {Q : Type 0} {i : Simple} {s r : List Token} {d : ℕ} → g.IsHeader S i s r d → (Begins is_semi s → Q) → (Leads true is_line s → Q) → Q
  header-lead (g.IsHeader.init_header h1 h2) f k = k (simple-lead h1 (widen end-line (at-front semi-in-stmt h2)))
  header-lead (g.IsHeader.no_header h1) f k = f (Begins.begins h1)

  range-lead : {Q : Type 0} {x : RangeLeft} {s r : List Token} {d : ℕ} → g.IsRangeLeft S x s r d → (Begins is_range s → Q) → (Leads true is_line s → Q) → Q
  range-lead (g.IsRangeLeft.range_assign h1 h2 h3) f k = k (exprs-lead refl h1 (at-mark refl h2))
  range-lead (g.IsRangeLeft.range_define h1 h2 h3) f k = k (exprs-lead refl h1 (at-mark refl h2))
  range-lead (g.IsRangeLeft.no_range_left h1) f k = f (at-word refl h1)

  lead-begins : {h : Bool} {f : TokenKind → Bool} {s : List Token} → Leads h f s → Begins is_expr_start s
  lead-begins (Leads.leads h1 b) = expr-begins S h1

  -- ---- what does not begin with a brace
  brace-no-header : {q : Span} {i : Simple} {s r w : List Token} {d : ℕ} → IsMark mark.LeftBrace q s w → g.IsHeader S i s r d → ⊥
  brace-no-header m h = header-lead h (λ b. not-mark refl m b) (λ b. not-mark refl m (lead-begins b))

  brace-no-range : {q : Span} {x : RangeLeft} {s r w : List Token} {d : ℕ} → IsMark mark.LeftBrace q s w → g.IsRangeLeft S x s r d → ⊥
  brace-no-range m h = range-lead h (λ b. not-mark refl m b) (λ b. not-mark refl m (lead-begins b))

  brace-no-guard : {q : Span} {y : Option (Token × Span) × Expr × Span} {s r w : List Token} {d : ℕ} → IsMark mark.LeftBrace q s w → g.IsGuard S y s r d → ⊥
  brace-no-guard m (g.IsGuard.plain_guard h1 h2 h3 h4 h5 h6) = not-mark refl m (primary-begins S h2)
  brace-no-guard m (g.IsGuard.named_guard h1 h2 h3 h4 h5 h6 h7) = name-apart h1 m

  -- ---- a colon or a `:=` behind a name

  label-by : {x : Token} {q : Span} {s u v : List Token} → Leads false is_line s → IsName x s u → IsMark mark.Colon q u v → ⊥
  label-by {q = q} {v = v} (Leads.leads h1 b) n m = not-mark refl (subst (λ z. IsMark mark.Colon q z v) (sym (expr-name refl refl refl h1 n m)) m) b

  no-label : {i : Simple} {s r : List Token} {d : ℕ} → g.IsSimple S false i s r d → Begins is_stmt_end r → label_at s ≡ None
  unfolding label_at
  no-label {s = s} h b = by (name_at s) refl
    where
      colon : (y : Token × List Token) → name_at s ≡ Some y → (o : Option (Span × List Token)) → mark_at mark.Colon y.1 ≡ o → mark_at mark.Colon y.1 ≡ None
      colon y e None c = c
      colon y e (Some z) c = absurd (label-by (simple-lead h (widen end-line b)) (name-sound s y e) (mark-sound mark.Colon y.1 z c))

      by : (o : Option (Token × List Token)) → name_at s ≡ o → label_at s ≡ None
      by None e = rw e refl
      by (Some y) e = rw e (colon y e (mark_at mark.Colon y.1) refl)

  no-define : {t : Expr} {p : Span} {s s1 s2 : List Token} {d : ℕ} → g.IsPrimary S true t s s1 d → IsMark mark.Dot p s1 s2 → defined_at s ≡ None
  unfolding defined_at
  no-define {p = p} {s} {s1} {s2} h k = by (name_at s) refl
    where
      define : (y : Token × List Token) → name_at s ≡ Some y → (o : Option (Span × List Token)) → mark_at mark.Define y.1 ≡ o → mark_at mark.Define y.1 ≡ None
      define y e None c = c
      define y e (Some z) c =
          let m = mark-sound mark.Define y.1 z c in
          absurd (marks-apart refl m (subst (λ u. IsMark mark.Dot p u s2) (primary-name refl refl h (name-sound s y e) m) k))

      by : (o : Option (Token × List Token)) → name_at s ≡ o → defined_at s ≡ None
      by None e = rw e refl
      by (Some y) e = rw e (define y e (mark_at mark.Define y.1) refl)

  -- ---- parameters with names are none without

  -- a type that begins with a name is that name, or goes on with a dot
  type-at-name : {Q : Type 0} {t : TypeExpr} {x : Token} {s r u : List Token} {d : ℕ} → g.IsType S t s r d → IsName x s u → (r ≡ u → Q) → (Marked mark.Dot u → Q) → Q
  type-at-name (g.IsType.named (g.IsTypeName.bare h1 h2)) a f k = f (name-one h1 a)
  type-at-name (g.IsType.named (g.IsTypeName.qualified h1 h2 h3)) a f k = k (subst (λ z. Marked mark.Dot z) (name-one h1 a) (Marked.marked h2))
  type-at-name (g.IsType.paren_type h1 h2 h3) a f k = absurd (name-apart a h1)
  type-at-name (g.IsType.pointer h1 h2) a f k = absurd (name-apart a h1)
  type-at-name (g.IsType.slice h1 h2 h3) a f k = absurd (name-apart a h1)
  type-at-name (g.IsType.array h1 h2 h3 h4 h5 h6) a f k = absurd (name-apart a h1)
  type-at-name (g.IsType.map_type h1 h2 h3 h4 h5) a f k = absurd (not-word refl h1 (at-name {f = is_head_name} (λ c. refl) a))
  type-at-name (g.IsType.channel h1 h2 h3) a f k = absurd (not-word refl h1 (at-name {f = is_head_name} (λ c. refl) a))
  type-at-name (g.IsType.send_channel h1 h2 h3) a f k = absurd (not-word refl h1 (at-name {f = is_head_name} (λ c. refl) a))
  type-at-name (g.IsType.receive_channel h1 h2 h3) a f k = absurd (name-apart a h1)
  type-at-name (g.IsType.function_type h1 h2) a f k = absurd (not-word refl h1 (at-name {f = is_head_name} (λ c. refl) a))
  type-at-name (g.IsType.struct_type h1 h2 h3 h4) a f k = absurd (not-word refl h1 (at-name {f = is_head_name} (λ c. refl) a))
  type-at-name (g.IsType.interface_type h1 h2 h3 h4) a f k = absurd (not-word refl h1 (at-name {f = is_head_name} (λ c. refl) a))

  trail-first : {Q : Type 0} {s r : List Token} → IsTrail mark.RightParen s r → (Marked mark.RightParen s → Q) → (Marked mark.Comma s → Q) → Q
  trail-first (IsTrail.no_comma h1) f k = f (Marked.marked h1)
  trail-first (IsTrail.a_comma h1 h2) f k = k (Marked.marked h1)

  last-name : {t : TypeExpr} {x : Token} {s u v : List Token} {d : ℕ} → IsName x s u → Begins is_typed u → g.IsType S t s v d → (Marked mark.RightParen v → ⊥) × (Marked mark.Comma v → ⊥)
  last-name a b h = (
    λ m. type-at-name h a (λ e. marked-not refl (subst (λ z. Marked mark.RightParen z) e m) b) (λ y. marked-not refl y b),
    λ m. type-at-name h a (λ e. marked-not refl (subst (λ z. Marked mark.Comma z) e m) b) (λ y. marked-not refl y b),
  )

  one-not-unnamed : {v : Bool} {x : Token} {ps : List Parameter} {s u r : List Token} {d : ℕ} → IsName x s u → Begins is_typed u → g.AreUnnamed S v ps s r d → ⊥
  one-not-unnamed a b (g.AreUnnamed.last_type h1 h2) = trail-first h2 (last-name a b h1).0 (last-name a b h1).1
  one-not-unnamed a b (g.AreUnnamed.more_types h1 h2 h3 h4) = (last-name a b h1).1 (Marked.marked h2)
  one-not-unnamed a b (g.AreUnnamed.last_dots h1 h2 h3 h4) = name-apart a h1

  comma-then : {p : Span} {t : TypeExpr} {x : Token} {s u v w : List Token} {d : ℕ} → IsName x s u → IsMark mark.Comma p u w → g.IsType S t s v d → v ≡ u
  comma-then a m h = type-at-name h a (λ e. e) (λ y. absurd (marked-apart refl y m))

  names-not-unnamed : {v : Bool} {xs : List Token} {ps : List Parameter} {s u r : List Token} {c d : ℕ} → g.AreNames S xs s u c → Begins is_typed u → g.AreUnnamed S v ps s r d → ⊥
  names-not-unnamed (g.AreNames.one_name a h) b q = one-not-unnamed a b q
  names-not-unnamed (g.AreNames.more_names {p1 = p1} {s2 = s2} a m h) b (g.AreUnnamed.last_type h1 (IsTrail.no_comma h2)) = marks-apart refl (subst (λ z. IsMark mark.Comma p1 z s2) (sym (comma-then a m h1)) m) h2
  names-not-unnamed (g.AreNames.more_names {p1 = p1} {s2 = s2} a m h) b (g.AreUnnamed.last_type h1 (IsTrail.a_comma h2 h3)) =
      let same = mark-one (subst (λ z. IsMark mark.Comma p1 z s2) (sym (comma-then a m h1)) m) h2 in
      not-mark refl h3 (subst (λ z. Begins is_name z) same (idents-begins S h))
  names-not-unnamed (g.AreNames.more_names {p1 = p1} {s2 = s2} a m h) b (g.AreUnnamed.more_types {v = v} {ps = ps} {r = r} {d2 = d2} h1 h2 h3 h4) =
      let same = mark-one h2 (subst (λ z. IsMark mark.Comma p1 z s2) (sym (comma-then a m h1)) m) in
      names-not-unnamed h b (subst (λ z. g.AreUnnamed S v ps z r d2) same h4)
  names-not-unnamed (g.AreNames.more_names a m h) b (g.AreUnnamed.last_dots h1 h2 h3 h4) = name-apart a h1

  named-not-unnamed : {v w : Bool} {qs ps : List Parameter} {s u r : List Token} {c d : ℕ} → g.AreNamed S w qs s u c → g.AreUnnamed S v ps s r d → ⊥
  named-not-unnamed (g.AreNamed.last_named_dots h1 h2 h3 h4 h5 h6) q = names-not-unnamed h1 (at-mark refl h2) q
  named-not-unnamed (g.AreNamed.last_named h1 h2 h3 h4) q = names-not-unnamed h1 (widen type-in-typed (type-begins S h3)) q
  named-not-unnamed (g.AreNamed.more_named h1 h2 h3 h4 h5 h6) q = names-not-unnamed h1 (widen type-in-typed (type-begins S h3)) q

module _ (S : g.Part → List Token → List Token → Type 0) (n : ℕ) (F : Fits S n) where
  -- ---- at a place one primary, one expression, one list

  primary-one : {h : Bool} {t u : Expr} {s r v : List Token} {c d : ℕ} → length s ≤ n → g.IsPrimary S h t s r c → g.IsPrimary S h u s v d → r ≡ v
  primary-one {h} {t} {u} {s} {r} {v} {c} {d} k p q = ap (λ f. f.rest) (some_is (sym ((exact S n F s k).primary h t r c p) ∙ (exact S n F s k).primary h u v d q))

  expr-one : {h w : Bool} {t u : Expr} {s r v : List Token} {c d : ℕ} → length s ≤ n → g.IsExpr S 5 h w t s r c → g.IsExpr S 5 h w u s v d → r ≡ v
  expr-one {h} {w} {t} {u} {s} {r} {v} {c} {d} k p q = ap (λ f. f.rest) (some_is (sym ((exact S n F s k).expr 5 h w t r c p) ∙ (exact S n F s k).expr 5 h w u v d q))

  exprs-one : {h : Bool} {t u : List Expr} {s r v : List Token} {c d : ℕ} → length s ≤ n → g.AreExprs S h t s r c → g.AreExprs S h u s v d → r ≡ v
  exprs-one {h} {t} {u} {s} {r} {v} {c} {d} k p q = ap (λ f. f.rest) (some_is (sym ((exact S n F s k).exprs h t r c p) ∙ (exact S n F s k).exprs h u v d q))

  -- ---- headers, guards, range clauses and conditions shut each other out

  unary-at-word : {w : Bool} {t u : Expr} {s r v : List Token} {c d : ℕ} → length s ≤ n → g.IsPrimary S true t s r c → g.IsUnary S true w u s v d → v ≡ r
  unary-at-word k p (g.IsUnary.bare_primary h1) = primary-one k h1 p
  unary-at-word k p (g.IsUnary.signed h1 h2) = absurd (apart sign-not-heads (Begins.begins h1) (primary-begins S p))
  unary-at-word k p (g.IsUnary.starred h1 h2) = absurd (not-mark refl h1 (primary-begins S p))
  unary-at-word k p (g.IsUnary.receiver h1 h2 h3) = absurd (not-mark refl h1 (primary-begins S p))
  unary-at-word k p (g.IsUnary.receive_first h1 h2 h3 h4) = absurd (not-mark refl h1 (primary-begins S p))
  unary-at-word k p (g.IsUnary.receive h1 h2 h3) = absurd (not-mark refl h1 (primary-begins S p))

  expr-at-word : {l : ℕ} {w : Bool} {t u : Expr} {s r v : List Token} {c d : ℕ} → length s ≤ n → g.IsPrimary S true t s r c → TypeWord r → g.IsExpr S l true w u s v d → v ≡ r
  expr-at-word k p y (g.IsExpr.lone h1) = unary-at-word k p h1
  expr-at-word k p y (g.IsExpr.level h1 h2) =
      let e = expr-at-word k p y h1 in
      operands-stop S refl (subst (λ z. Marked mark.Dot z) (sym e) (dot-first y)) h2 ∙ e

  lead-at-word : {f : TokenKind → Bool} {t : Expr} {s r : List Token} {c : ℕ} → f (kind.Operator mark.Dot) ≡ false → length s ≤ n → g.IsPrimary S true t s r c → TypeWord r → Leads S true f s → ⊥
  lead-at-word e k p y (Leads.leads h1 b) = marked-not e (subst (λ z. Marked mark.Dot z) (sym (expr-at-word k p y h1)) (dot-first y)) b

  lead-at-brace : {f : TokenKind → Bool} {q : Span} {t : Expr} {s r w : List Token} {c : ℕ} → f (kind.Operator mark.LeftBrace) ≡ false → length s ≤ n → g.IsExpr S 5 true false t s r c → IsMark mark.LeftBrace q r w → Leads S true f s → ⊥
  lead-at-brace {q = q} {w = w} e k p m (Leads.leads h1 b) = not-mark e (subst (λ z. IsMark mark.LeftBrace q z w) (expr-one k p h1) m) b

  expr-no-header : {q : Span} {t : Expr} {i : Simple} {s r v w : List Token} {c d : ℕ} → length s ≤ n → g.IsExpr S 5 true false t s r c → IsMark mark.LeftBrace q r w → g.IsHeader S i s v d → ⊥
  expr-no-header k p m h = header-lead S h (λ b. apart semi-not-exprs b (expr-begins S p)) (lead-at-brace refl k p m)

  expr-no-range : {q : Span} {t : Expr} {x : RangeLeft} {s r v w : List Token} {c d : ℕ} → length s ≤ n → g.IsExpr S 5 true false t s r c → IsMark mark.LeftBrace q r w → g.IsRangeLeft S x s v d → ⊥
  expr-no-range k p m h = range-lead S h (λ b. apart range-not-exprs b (expr-begins S p)) (lead-at-brace refl k p m)

  expr-no-guard : {q : Span} {t : Expr} {y : Option (Token × Span) × Expr × Span} {s r v w : List Token} {c d : ℕ} → length s ≤ n → g.IsExpr S 5 true false t s r c → IsMark mark.LeftBrace q r w → g.IsGuard S y s v d → ⊥
  expr-no-guard {q} {w = w} k p m (g.IsGuard.plain_guard h1 h2 h3 h4 h5 h6) = marks-apart refl (subst (λ z. IsMark mark.LeftBrace q z w) (expr-at-word k h2 (TypeWord.type_word h3 h4 h5) p) m) h3
  expr-no-guard {q} {w = w} k p m (g.IsGuard.named_guard h1 h2 h3 h4 h5 h6 h7) = marks-apart refl (subst (λ z. IsMark mark.LeftBrace q z w) (expr-name S refl refl refl p h1 h2) m) h2

  -- a header whose first expression is the name of a guard
  exprs-at-define : {q : Span} {h : Bool} {ts : List Expr} {x : Token} {s r u v : List Token} {d : ℕ} → g.AreExprs S h ts s r d → IsName x s u → IsMark mark.Define q u v → r ≡ u
  exprs-at-define (g.AreExprs.one_expr h1 h2) a m = expr-name S refl refl refl h1 a m
  exprs-at-define {q} {v = v} (g.AreExprs.more_exprs h1 h2 h3) a m = absurd (marks-apart refl (subst (λ z. IsMark mark.Define q z v) (sym (expr-name S refl refl refl h1 a m)) m) h2)

  define-no-header : {q : Span} {t : Expr} {i : Simple} {x : Token} {s u v r e : List Token} {c d : ℕ} → length v ≤ n → IsName x s u → IsMark mark.Define q u v → g.IsPrimary S true t v r c → TypeWord r → g.IsSimple S true i s e d → Begins is_semi e → ⊥
  define-no-header {q} {v = v} k a m p y (g.IsSimple.assign h1 h2 h3) b = marks-apart refl (subst (λ z. IsMark mark.Define q z v) (sym (exprs-at-define h1 a m)) m) h2
  define-no-header {q} {v = v} {e = e} k a m p y (g.IsSimple.define {us = us} {s2 = s2} {d2 = d2} h1 h2 h3) b =
      let same : s2 ≡ v = mark-one h2 (subst (λ z. IsMark mark.Define q z v) (sym (exprs-at-define h1 a m)) m) in
      lead-at-word refl k p y (exprs-lead S refl (subst (λ z. g.AreExprs S true us z e d2) same h3) (widen end-line (widen semi-in-stmt b)))
  define-no-header {q} {v = v} k a m p y (g.IsSimple.expression h1 h2) b = not-mark refl (subst (λ z. IsMark mark.Define q z v) (sym (expr-name S refl refl refl h1 a m)) m) b
  define-no-header {q} {v = v} k a m p y (g.IsSimple.send h1 h2 h3) b = marks-apart refl (subst (λ z. IsMark mark.Define q z v) (sym (expr-name S refl refl refl h1 a m)) m) h2
  define-no-header {q} {v = v} k a m p y (g.IsSimple.step h1 h2) b = not-mark refl (subst (λ z. IsMark mark.Define q z v) (sym (expr-name S refl refl refl h1 a m)) m) (Begins.begins h2)
  define-no-header {q} {v = v} k a m p y (g.IsSimple.update h1 h2 h3) b = not-mark refl (subst (λ z. IsMark mark.Define q z v) (sym (expr-name S refl refl refl h1 a m)) m) (Begins.begins h2)

  guard-no-header : {y : Option (Token × Span) × Expr × Span} {i : Simple} {s r v : List Token} {c d : ℕ} → length s ≤ n → g.IsGuard S y s r c → g.IsHeader S i s v d → ⊥
  guard-no-header k (g.IsGuard.plain_guard h1 h2 h3 h4 h5 h6) h = header-lead S h (λ b. apart semi-not-exprs b (widen head-exprs (primary-begins S h2))) (lead-at-word refl k h2 (TypeWord.type_word h3 h4 h5))
  guard-no-header k (g.IsGuard.named_guard h1 h2 h3 h4 h5 h6 h7) (g.IsHeader.init_header q1 q2) = define-no-header (omega (arith, k, length-After (After-name h1), length-After (After-mark h2))) h1 h2 h3 (TypeWord.type_word h4 h5 h6) q1 (Begins.begins q2)
  guard-no-header k (g.IsGuard.named_guard h1 h2 h3 h4 h5 h6 h7) (g.IsHeader.no_header q1) = not-name (λ a. refl) h1 (Begins.begins q1)

  -- a header and a range clause
  single-not-listed : {s : List Token} → length s ≤ n → Leads S true is_lone s → Leads S true is_listed s → ⊥
  single-not-listed k (Leads.leads h1 b) (Leads.leads q1 c) = apart listed-not-single c (subst (λ z. Begins is_lone z) (expr-one k h1 q1) b)

  both-assign : {o : Operator} {p q z : Span} {ts us vs : List Expr} {s r r1 v v1 w e : List Token} {c d i : ℕ} → length s ≤ n → g.AreExprs S true ts s r c → IsMark o p r r1 → g.AreExprs S true us r1 e i → g.AreExprs S true vs s v d → IsMark o q v v1 → IsWord word.Range z v1 w → ⊥
  both-assign {o} {p} {z = z} {r1 = r1} {w = w} k h1 h2 h3 q1 q2 q3 =
      let same = mark-one (subst (λ z. IsMark o p z r1) (exprs-one k h1 q1) h2) q2 in
      not-word refl (subst (λ u. IsWord word.Range z u w) (sym same) q3) (exprs-begins S h3)

  not-both : {o m : Operator} {p q : Span} {ts vs : List Expr} {s r r1 v v1 : List Token} {c d : ℕ} → is_mark m (kind.Operator o) ≡ false → length s ≤ n → g.AreExprs S true ts s r c → IsMark o p r r1 → g.AreExprs S true vs s v d → IsMark m q v v1 → ⊥
  not-both {o} {p = p} {r1 = r1} e k h1 h2 q1 q2 = marks-apart e (subst (λ z. IsMark o p z r1) (exprs-one k h1 q1) h2) q2

  single-simple : {x : RangeLeft} {s v : List Token} {d : ℕ} → length s ≤ n → Leads S true is_lone s → g.IsRangeLeft S x s v d → ⊥
  single-simple k b (g.IsRangeLeft.range_assign q1 q2 q3) = single-not-listed k b (exprs-lead S refl q1 (at-mark refl q2))
  single-simple k b (g.IsRangeLeft.range_define q1 q2 q3) = single-not-listed k b (exprs-lead S refl q1 (at-mark refl q2))
  single-simple k b (g.IsRangeLeft.no_range_left q1) = not-word refl q1 (lead-begins S b)

  simple-no-range : {i : Simple} {x : RangeLeft} {s e v : List Token} {c d : ℕ} → length s ≤ n → g.IsSimple S true i s e c → Begins is_semi e → g.IsRangeLeft S x s v d → ⊥
  simple-no-range k (g.IsSimple.assign h1 h2 h3) b (g.IsRangeLeft.range_assign q1 q2 q3) = both-assign k h1 h2 h3 q1 q2 q3
  simple-no-range k (g.IsSimple.assign h1 h2 h3) b (g.IsRangeLeft.range_define q1 q2 q3) = not-both refl k h1 h2 q1 q2
  simple-no-range k (g.IsSimple.assign h1 h2 h3) b (g.IsRangeLeft.no_range_left q1) = not-word refl q1 (exprs-begins S h1)
  simple-no-range k (g.IsSimple.define h1 h2 h3) b (g.IsRangeLeft.range_assign q1 q2 q3) = not-both refl k h1 h2 q1 q2
  simple-no-range k (g.IsSimple.define h1 h2 h3) b (g.IsRangeLeft.range_define q1 q2 q3) = both-assign k h1 h2 h3 q1 q2 q3
  simple-no-range k (g.IsSimple.define h1 h2 h3) b (g.IsRangeLeft.no_range_left q1) = not-word refl q1 (exprs-begins S h1)
  simple-no-range k (g.IsSimple.expression h1 h2) b q = single-simple k (Leads.leads h1 (widen semi-in-single b)) q
  simple-no-range k (g.IsSimple.send h1 h2 h3) b q = single-simple k (Leads.leads h1 (at-mark refl h2)) q
  simple-no-range k (g.IsSimple.step h1 h2) b q = single-simple k (Leads.leads h1 (at-front step-in-single h2)) q
  simple-no-range k (g.IsSimple.update h1 h2 h3) b q = single-simple k (Leads.leads h1 (at-front update-in-single h2)) q

  header-no-range : {i : Simple} {x : RangeLeft} {s r v : List Token} {c d : ℕ} → length s ≤ n → g.IsHeader S i s r c → g.IsRangeLeft S x s v d → ⊥
  header-no-range k (g.IsHeader.init_header h1 h2) q = simple-no-range k h1 (Begins.begins h2) q
  header-no-range k (g.IsHeader.no_header h1) q = range-lead S q (λ b. apart semi-not-range (Begins.begins h1) b) (λ b. apart semi-not-exprs (Begins.begins h1) (lead-begins S b))

  -- ---- what the grammar asks of later places

  header-stands : {Q : Type 0} (s u : List Token) → length s < n → S g.Part.a_header s u → ((i : Simple) (d : ℕ) → g.IsHeader S i s u d → Q) → Q
  header-stands s u l y f = let h = F.shows_header s u l y in f h.tree h.depth ((sound S n F s (omega (arith, l))).header (found h.tree u h.depth) h.is)

  guard-stands : {Q : Type 0} (s u : List Token) → length s < n → S g.Part.a_guard s u → ((i : Option (Token × Span) × Expr × Span) (d : ℕ) → g.IsGuard S i s u d → Q) → Q
  guard-stands s u l y f = let h = F.shows_guard s u l y in f h.tree h.depth ((sound S n F s (omega (arith, l))).guard (found h.tree u h.depth) h.is)

  range-stands : {Q : Type 0} (s u : List Token) → length s < n → S g.Part.a_range s u → ((i : RangeLeft) (d : ℕ) → g.IsRangeLeft S i s u d → Q) → Q
  range-stands s u l y f = let h = F.shows_range_left s u l y in f h.tree h.depth ((sound S n F s (omega (arith, l))).range_left (found h.tree u h.depth) h.is)

  named-stands : {Q : Type 0} {v : Bool} (s u : List Token) → length s < n → S (g.Part.a_named v) s u → ((i : List Parameter) (d : ℕ) → g.AreNamed S v i s u d → Q) → Q
  named-stands {v = v} s u l y f = let h = F.shows_named_params v s u l y in f h.tree h.depth ((sound S n F s (omega (arith, l))).named_params v (found h.tree u h.depth) h.is)

  unnamed-lacks-named : {v : Bool} {ps : List Parameter} {s r : List Token} {c : ℕ} → length s < n → g.AreUnnamed S v ps s r c → g.Lacks S (g.Part.a_named v) s
  unnamed-lacks-named {s = s} l q u z = named-stands s u l z (λ i d h. named-not-unnamed S h q)

  guard-lacks-header : {y : Option (Token × Span) × Expr × Span} {s r : List Token} {c : ℕ} → length s < n → g.IsGuard S y s r c → g.Lacks S g.Part.a_header s
  guard-lacks-header {s = s} l q u z = header-stands s u l z (λ i d h. guard-no-header (omega (arith, l)) q h)

  header-lacks-range : {i : Simple} {s r : List Token} {c : ℕ} → length s < n → g.IsHeader S i s r c → g.Lacks S g.Part.a_range s
  header-lacks-range {s = s} l q u z = range-stands s u l z (λ i d h. header-no-range (omega (arith, l)) q h)

  expr-lacks-header : {q : Span} {t : Expr} {s r w : List Token} {c : ℕ} → length s < n → g.IsExpr S 5 true false t s r c → IsMark mark.LeftBrace q r w → g.Lacks S g.Part.a_header s
  expr-lacks-header {s = s} l p m u z = header-stands s u l z (λ i d h. expr-no-header (omega (arith, l)) p m h)

  expr-lacks-range : {q : Span} {t : Expr} {s r w : List Token} {c : ℕ} → length s < n → g.IsExpr S 5 true false t s r c → IsMark mark.LeftBrace q r w → g.Lacks S g.Part.a_range s
  expr-lacks-range {s = s} l p m u z = range-stands s u l z (λ i d h. expr-no-range (omega (arith, l)) p m h)

  tag-lacks-header : {q : Span} {o : Option Expr} {s r w : List Token} {c : ℕ} → length s < n → g.IsTagValue S o s r c → IsMark mark.LeftBrace q r w → g.Lacks S g.Part.a_header s
  tag-lacks-header l (g.IsTagValue.a_tag_value h1) m u z = expr-lacks-header l h1 m u z
  tag-lacks-header {s = s} l (g.IsTagValue.no_tag_value h1) m u z = header-stands s u l z (λ i d h. brace-no-header S h1 h)

  tag-lacks-guard : {q : Span} {o : Option Expr} {s r w : List Token} {c : ℕ} → length s < n → g.IsTagValue S o s r c → IsMark mark.LeftBrace q r w → g.Lacks S g.Part.a_guard s
  tag-lacks-guard {s = s} l (g.IsTagValue.a_tag_value h1) m u z = guard-stands s u l z (λ i d h. expr-no-guard (omega (arith, l)) h1 m h)
  tag-lacks-guard {s = s} l (g.IsTagValue.no_tag_value h1) m u z = guard-stands s u l z (λ i d h. brace-no-guard S h1 h)

  -- ---- the forms, with what decides left out

  max-zero : (d : ℕ) → d ≡ max d 0
  max-zero d = omega arith

  unnamed-no-paren : {v : Bool} {ps : List Parameter} {s r : List Token} {d : ℕ} → g.AreUnnamed S v ps s r d → mark_at mark.RightParen s ≡ None
  unnamed-no-paren (g.AreUnnamed.last_type h1 h2) = lacks-mark mark.RightParen refl (type-begins S h1)
  unnamed-no-paren (g.AreUnnamed.more_types h1 h2 h3 h4) = lacks-mark mark.RightParen refl (type-begins S h1)
  unnamed-no-paren (g.AreUnnamed.last_dots h1 h2 h3 h4) = mark-other mark.RightParen refl h1

  results-by : {ps qs : Parameters} {s s1 r : List Token} {d1 d2 : ℕ} → g.AreParams S true ps s s1 d1 → g.AreParams S false qs s1 r d2 → Marked mark.LeftParen s1 → g.IsSignature S (sg.Results ps qs) s r (max d1 d2)
  results-by h1 h2 (Marked.marked q) = g.IsSignature.results h1 q h2

  tag-begins : {z : Option Token} {s r : List Token} {d : ℕ} → g.IsTag S z s r d → Begins is_embed_end s
  tag-begins (g.IsTag.a_tag h1) = at-text (λ v. refl) h1
  tag-begins (g.IsTag.no_tag h1) = at-front field-in-embed h1

  embedded_field-by : {x : Token} {z : Option Token} {s s1 r : List Token} {d : ℕ} → IsName x s s1 → g.IsTag S z s1 r d → Begins is_embed_end s1 → g.IsField S (fi.Embedded (ty.Name x) z) s r d
  embedded_field-by h1 h2 (Begins.begins q) = g.IsField.embedded_field h1 q h2

  method-by : {x : Token} {z : Signature} {s s1 r : List Token} {d : ℕ} → IsName x s s1 → g.IsSignature S z s1 r d → Marked mark.LeftParen s1 → g.IsMember S (me.Method x z) s r d
  method-by h1 h2 (Marked.marked q) = g.IsMember.method h1 q h2

  brace-no-selector : {s : List Token} → Marked mark.LeftBrace s → selector_at s ≡ None
  brace-no-selector {s} (Marked.marked h) = no-selector s (mark-other mark.Dot refl h)

  brace-no-word : (w : Keyword) {s : List Token} → Marked mark.LeftBrace s → word_at w s ≡ None
  brace-no-word w (Marked.marked h) = mark-no-word w h

  element-no-brace : {x : Element} {s r : List Token} {d : ℕ} → g.IsElement S x s r d → mark_at mark.RightBrace s ≡ None
  element-no-brace (g.IsElement.plain_element (g.IsValue.value_expr h1) h2) = lacks-mark mark.RightBrace refl (expr-begins S h1)
  element-no-brace (g.IsElement.plain_element (g.IsValue.value_literal h1 h2 h3) h4) = mark-other mark.RightBrace refl h1
  element-no-brace (g.IsElement.keyed_element (g.IsValue.value_expr h1) h2 h3) = lacks-mark mark.RightBrace refl (expr-begins S h1)
  element-no-brace (g.IsElement.keyed_element (g.IsValue.value_literal h1 h2 h3) h4 h5) = mark-other mark.RightBrace refl h1

  implicit-by : {i : Bool} {xs : List Token} {s r : List Token} {d : ℕ} → g.AreNames S xs s r d → i ≡ false → Begins is_spec_end r → g.IsConstSpec S i (cns.Implicit xs) s r d
  implicit-by h1 h2 (Begins.begins q) = g.IsConstSpec.implicit h1 q h2

  bare_arm-by : {c : Expr} {b : Block} {s s1 r : List Token} {d1 d2 : ℕ} → g.IsExpr S 5 true false c s s1 d1 → g.IsBlock S b s1 r d2 → Marked mark.LeftBrace s1 → g.IsArm S (make_arm si.Empty c b) s r (max d1 d2)
  bare_arm-by h1 h2 (Marked.marked q) = g.IsArm.bare_arm h1 q h2

  declaration_stmt-by : {x : Decl} {s r : List Token} {d : ℕ} → g.IsDecl S x s r d → Begins is_decl_start s → g.IsStmt S (st.Declaration x) s r d
  declaration_stmt-by h1 (Begins.begins q) = g.IsStmt.declaration_stmt q h1

  declaration-by : {x : Decl} {s r : List Token} {d : ℕ} → g.IsDecl S x s r d → Begins is_decl_start s → g.IsTop S (tp.Declaration x) s r d
  declaration-by h1 (Begins.begins q) = g.IsTop.declaration q h1

  endless-by : {p : Span} {b : Block} {s s1 r : List Token} {d : ℕ} → IsWord word.For p s s1 → g.IsBlock S b s1 r d → Marked mark.LeftBrace s1 → g.IsStmt S (st.While p None b) s r d
  endless-by h1 h2 (Marked.marked q) = g.IsStmt.endless h1 q h2

  range-no-brace : {x : RangeLeft} {s r : List Token} {d : ℕ} → g.IsRangeLeft S x s r d → mark_at mark.LeftBrace s ≡ None
  range-no-brace {s = s} h = by (mark_at mark.LeftBrace s) refl
    where
      by : (o : Option (Span × List Token)) → mark_at mark.LeftBrace s ≡ o → mark_at mark.LeftBrace s ≡ None
      by None c = c
      by (Some z) c = absurd (brace-no-range S (mark-sound mark.LeftBrace s z c) h)

  header-no-brace : {i : Simple} {s r : List Token} {d : ℕ} → g.IsHeader S i s r d → mark_at mark.LeftBrace s ≡ None
  header-no-brace {s = s} h = by (mark_at mark.LeftBrace s) refl
    where
      by : (o : Option (Span × List Token)) → mark_at mark.LeftBrace s ≡ o → mark_at mark.LeftBrace s ≡ None
      by None c = c
      by (Some z) c = absurd (brace-no-header S (mark-sound mark.LeftBrace s z c) h)

  while-by : {p : Span} {t : Expr} {b : Block} {s s1 s2 r : List Token} {d1 d2 : ℕ} → IsWord word.For p s s1 → g.IsExpr S 5 true false t s1 s2 d1 → g.IsBlock S b s2 r d2 → Marked mark.LeftBrace s2 → length s1 < n → g.IsStmt S (st.While p (Some t) b) s r (max d1 d2)
  while-by h1 h2 h3 (Marked.marked q) l = g.IsStmt.while h1 (lacks-mark mark.LeftBrace refl (expr-begins S h2)) (expr-lacks-range l h2 q) (expr-lacks-header l h2 q) h2 h3

  method_decl-by : {p : Span} {x : Token} {ps : Parameters} {z : Signature} {o : Option Block} {s s1 s2 s3 s4 r : List Token} {d1 d2 d3 : ℕ} → IsWord word.Func p s s1 → g.AreParams S false ps s1 s2 d1 → is_receiver ps ≡ true → IsName x s2 s3 → g.IsSignature S z s3 s4 d2 → g.IsBody S o s4 r d3 → Marked mark.LeftParen s1 → g.IsTop S (tp.Method p ps x z o) s r (max d1 (max d2 d3))
  method_decl-by h1 h2 h3 h4 h5 h6 (Marked.marked q) = g.IsTop.method_decl h1 q h2 h3 h4 h5 h6

  text-no-paren : {x : Token} {s r : List Token} → IsText x s r → mark_at mark.LeftParen s ≡ None
  unfolding mark_at
  text-no-paren IsText.a_text = refl

  import_spec-no-paren : {i : ImportSpec} {s r : List Token} {d : ℕ} → g.IsImportSpec S i s r d → mark_at mark.LeftParen s ≡ None
  import_spec-no-paren (g.IsImportSpec.plain_import h1) = text-no-paren h1
  import_spec-no-paren (g.IsImportSpec.dot_import h1 h2) = mark-other mark.LeftParen refl h1
  import_spec-no-paren (g.IsImportSpec.named_import h1 h2) = name-no-mark mark.LeftParen h1

  pub make-one_name : {x : Token} {s r : List Token} → IsName x s r → mark_at mark.Comma r ≡ None → g.AreNames S (x ∷ []) s r 0
  make-one_name h1 e = g.AreNames.one_name h1 e

  pub make-array : {p p4 : Span} {y : Expr} {t : TypeExpr} {s s1 s2 s3 r : List Token} {d1 d2 : ℕ} → IsMark mark.LeftBracket p s s1 → g.IsExpr S 5 false false y s1 s2 d1 → IsMark mark.RightBracket p4 s2 s3 → g.IsType S t s3 r d2 → g.IsType S (ty.Array p y t) s r (suc (max d1 d2))
  make-array h1 h4 h5 h6 = g.IsType.array h1 (lacks-mark mark.RightBracket refl (expr-begins S h4)) (lacks-mark mark.Ellipsis refl (expr-begins S h4)) h4 h5 h6

  pub make-more_types : {v : Bool} {p1 : Span} {t : TypeExpr} {ps : List Parameter} {s s1 s2 r : List Token} {d1 d2 : ℕ} → g.IsType S t s s1 d1 → IsMark mark.Comma p1 s1 s2 → g.AreUnnamed S v ps s2 r d2 → g.AreUnnamed S v (pa.Plain t ∷ ps) s r (max d1 d2)
  make-more_types h1 h2 h4 = g.AreUnnamed.more_types h1 h2 (unnamed-no-paren h4) h4

  pub make-last_named : {v : Bool} {xs : List Token} {t : TypeExpr} {s s1 s2 r : List Token} {d1 d2 : ℕ} → g.AreNames S xs s s1 d1 → g.IsType S t s1 s2 d2 → IsTrail mark.RightParen s2 r → g.AreNamed S v (pa.Named xs t ∷ []) s r (max d1 d2)
  make-last_named h1 h3 h4 = g.AreNamed.last_named h1 (lacks-mark mark.Ellipsis refl (type-begins S h3)) h3 h4

  pub make-more_named : {v : Bool} {p3 : Span} {xs : List Token} {t : TypeExpr} {ps : List Parameter} {s s1 s2 s3 r : List Token} {d1 d2 d3 : ℕ} → g.AreNames S xs s s1 d1 → g.IsType S t s1 s2 d2 → IsMark mark.Comma p3 s2 s3 → g.AreNamed S v ps s3 r d3 → g.AreNamed S v (pa.Named xs t ∷ ps) s r (max d1 (max d2 d3))
  make-more_named h1 h3 h4 h6 = g.AreNamed.more_named h1 (lacks-mark mark.Ellipsis refl (type-begins S h3)) h3 h4 (lacks-mark mark.RightParen refl (named_params-begins S h6)) h6

  pub make-named_list : {v : Bool} {p q : Span} {ps : List Parameter} {s s1 s2 r : List Token} {d : ℕ} → IsMark mark.LeftParen p s s1 → g.AreNamed S v ps s1 s2 d → IsMark mark.RightParen q s2 r → g.AreParams S v (make_parameters p ps q) s r (suc d)
  make-named_list h1 h3 h4 = g.AreParams.named_list h1 (lacks-mark mark.RightParen refl (named_params-begins S h3)) h3 h4

  pub make-unnamed_list : {v : Bool} {p q : Span} {ps : List Parameter} {s s1 s2 r : List Token} {d : ℕ} → IsMark mark.LeftParen p s s1 → g.AreUnnamed S v ps s1 s2 d → IsMark mark.RightParen q s2 r → length s ≤ n → g.AreParams S v (make_parameters p ps q) s r (suc d)
  make-unnamed_list h1 h4 h5 k = g.AreParams.unnamed_list h1 (unnamed-no-paren h4) (unnamed-lacks-named (omega (arith, k, length-After (After-mark h1))) h4) h4 h5

  pub make-results : {ps : Parameters} {qs : Parameters} {s s1 r : List Token} {d1 d2 : ℕ} → g.AreParams S true ps s s1 d1 → g.AreParams S false qs s1 r d2 → g.IsSignature S (sg.Results ps qs) s r (max d1 d2)
  make-results h1 h3 = results-by h1 h3 (params-open S h3)

  pub make-no_tag : {r : List Token} → Begins is_field_end r → g.IsTag S None r r 0
  make-no_tag (Begins.begins q) = g.IsTag.no_tag q

  pub make-named_field : {xs : List Token} {t : TypeExpr} {z : Option Token} {s s1 s2 r : List Token} {d1 d2 d3 : ℕ} → g.AreNames S xs s s1 d1 → g.IsType S t s1 s2 d2 → g.IsTag S z s2 r d3 → g.IsField S (fi.Named xs t z) s r (max d1 (max d2 d3))
  make-named_field h1 h4 h5 = g.IsField.named_field h1 (lacks-front is_embed_end type-not-embed (type-begins S h4)) (lacks-mark mark.Dot refl (type-begins S h4)) h4 h5

  pub make-embedded_field : {x : Token} {z : Option Token} {s s1 r : List Token} {d : ℕ} → IsName x s s1 → g.IsTag S z s1 r d → g.IsField S (fi.Embedded (ty.Name x) z) s r d
  make-embedded_field h1 h3 = embedded_field-by h1 h3 (tag-begins h3)

  pub make-last_field : {y : Field} {s r : List Token} {d : ℕ} → g.IsField S y s r d → Marked mark.RightBrace r → g.AreFields S (y ∷ []) s r d
  make-last_field h1 (Marked.marked q) = g.AreFields.last_field h1 q

  pub make-no_fields : {r : List Token} → Marked mark.RightBrace r → g.AreFields S [] r r 0
  make-no_fields (Marked.marked q) = g.AreFields.no_fields q

  pub make-method : {x : Token} {z : Signature} {s s1 r : List Token} {d : ℕ} → IsName x s s1 → g.IsSignature S z s1 r d → g.IsMember S (me.Method x z) s r d
  make-method h1 h3 = method-by h1 h3 (signature-opens S h3)

  pub make-embedded_interface : {x : Token} {s r : List Token} → IsName x s r → Begins is_field_end r → g.IsMember S (me.Embedded (ty.Name x)) s r 0
  make-embedded_interface {r = r} h1 e = g.IsMember.embedded_interface h1 (lacks-mark mark.LeftParen refl e) (no-selector r (lacks-mark mark.Dot refl e))

  pub make-last_member : {m : Member} {s r : List Token} {d : ℕ} → g.IsMember S m s r d → Marked mark.RightBrace r → g.AreMembers S (m ∷ []) s r d
  make-last_member h1 (Marked.marked q) = g.AreMembers.last_member h1 q

  pub make-no_members : {r : List Token} → Marked mark.RightBrace r → g.AreMembers S [] r r 0
  make-no_members (Marked.marked q) = g.AreMembers.no_members q

  pub make-literal_of_name : {h : Bool} {x : Token} {v : LiteralValue} {s s1 r : List Token} {d : ℕ} → IsName x s s1 → h ≡ false → g.IsLiteral S v s1 r d → g.IsHead S h (ex.Composite (ty.Name x) v) s r d
  make-literal_of_name h1 h2 h4 = g.IsHead.literal_of_name h1 h2 (brace-no-selector (literal-opens S h4)) h4

  pub make-no_bound : {r : List Token} → Begins is_bound_end r → g.IsBound S None r r 0
  make-no_bound (Begins.begins q) = g.IsBound.no_bound q

  pub make-last_arg : {t : Expr} {s s1 r : List Token} {d : ℕ} → g.IsExpr S 5 false true t s s1 d → IsTrail mark.RightParen s1 r → g.AreArgs S ((t ∷ [], None)) s r d
  make-last_arg h1 h3 = g.AreArgs.last_arg h1 (trail-no-mark mark.Ellipsis refl refl h3) h3

  pub make-more_args : {p1 : Span} {t : Expr} {ts : List Expr × Option Span} {s s1 s2 r : List Token} {d1 d2 : ℕ} → g.IsExpr S 5 false true t s s1 d1 → IsMark mark.Comma p1 s1 s2 → g.AreArgs S ts s2 r d2 → g.AreArgs S ((t ∷ ts.0, ts.1)) s r (max d1 d2)
  make-more_args {t = t} {s = s} {r = r} {d1 = d1} h1 h2 (g.AreArgs.no_args q) = subst (λ z. g.AreArgs S (t ∷ [], None) s r z) (max-zero d1) (g.AreArgs.last_arg h1 (mark-other mark.Ellipsis refl h2) (IsTrail.a_comma h2 q))
  make-more_args h1 h2 (g.AreArgs.spread q1 q2 q3) = g.AreArgs.more_args h1 h2 (lacks-mark mark.RightParen refl (expr-begins S q1)) (g.AreArgs.spread q1 q2 q3)
  make-more_args h1 h2 (g.AreArgs.last_arg q1 q2 q3) = g.AreArgs.more_args h1 h2 (lacks-mark mark.RightParen refl (expr-begins S q1)) (g.AreArgs.last_arg q1 q2 q3)
  make-more_args h1 h2 (g.AreArgs.more_args q1 q2 q3 q4) = g.AreArgs.more_args h1 h2 (lacks-mark mark.RightParen refl (expr-begins S q1)) (g.AreArgs.more_args q1 q2 q3 q4)

  pub make-no_args : {r : List Token} → Marked mark.RightParen r → g.AreArgs S (([], None)) r r 0
  make-no_args (Marked.marked q) = g.AreArgs.no_args q

  pub make-index : {p0 q : Span} {t : Expr} {s s1 s2 r : List Token} {d : ℕ} → IsMark mark.LeftBracket p0 s s1 → g.IsExpr S 5 false false t s1 s2 d → IsMark mark.RightBracket q s2 r → g.IsSuffix S (sf.Index t q) s r (suc d)
  make-index h1 h3 h4 = g.IsSuffix.index h1 (lacks-mark mark.Colon refl (expr-begins S h3)) h3 h4

  pub make-slice_expr : {p0 p3 q : Span} {a : Expr} {b : Option Expr} {s s1 s2 s3 s4 r : List Token} {d1 d2 : ℕ} → IsMark mark.LeftBracket p0 s s1 → g.IsExpr S 5 false false a s1 s2 d1 → IsMark mark.Colon p3 s2 s3 → g.IsBound S b s3 s4 d2 → IsMark mark.RightBracket q s4 r → g.IsSuffix S (sf.Slice (Some a) b q) s r (suc (max d1 d2))
  make-slice_expr h1 h3 h4 h5 h6 = g.IsSuffix.slice_expr h1 (lacks-mark mark.Colon refl (expr-begins S h3)) h3 h4 h5 h6

  pub make-full_slice : {p0 p3 p5 q : Span} {a : Expr} {b : Expr} {c : Expr} {s s1 s2 s3 s4 s5 s6 r : List Token} {d1 d2 d3 : ℕ} → IsMark mark.LeftBracket p0 s s1 → g.IsExpr S 5 false false a s1 s2 d1 → IsMark mark.Colon p3 s2 s3 → g.IsExpr S 5 false false b s3 s4 d2 → IsMark mark.Colon p5 s4 s5 → g.IsExpr S 5 false false c s5 s6 d3 → IsMark mark.RightBracket q s6 r → g.IsSuffix S (sf.FullSlice (Some a) b c q) s r (suc (max d1 (max d2 d3)))
  make-full_slice h1 h3 h4 h5 h6 h7 h8 = g.IsSuffix.full_slice h1 (lacks-mark mark.Colon refl (expr-begins S h3)) h3 h4 h5 h6 h7 h8

  pub make-plain_element : {a : ElementValue} {s r : List Token} {d : ℕ} → g.IsValue S a s r d → mark_at mark.Colon r ≡ None → g.IsElement S (el.Plain a) s r d
  make-plain_element h1 e = g.IsElement.plain_element h1 e

  pub make-more_elements : {p1 : Span} {x : Element} {xs : List Element} {s s1 s2 r : List Token} {d1 d2 : ℕ} → g.IsElement S x s s1 d1 → IsMark mark.Comma p1 s1 s2 → g.AreElements S xs s2 r d2 → g.AreElements S (x ∷ xs) s r (max d1 d2)
  make-more_elements {x = x} {s = s} {r = r} {d1 = d1} h1 h2 (g.AreElements.no_elements q) = subst (λ z. g.AreElements S (x ∷ []) s r z) (max-zero d1) (g.AreElements.last_element h1 (IsTrail.a_comma h2 q))
  make-more_elements h1 h2 (g.AreElements.last_element q1 q2) = g.AreElements.more_elements h1 h2 (element-no-brace q1) (g.AreElements.last_element q1 q2)
  make-more_elements h1 h2 (g.AreElements.more_elements q1 q2 q3 q4) = g.AreElements.more_elements h1 h2 (element-no-brace q1) (g.AreElements.more_elements q1 q2 q3 q4)

  pub make-no_elements : {r : List Token} → Marked mark.RightBrace r → g.AreElements S [] r r 0
  make-no_elements (Marked.marked q) = g.AreElements.no_elements q

  pub make-one_expr : {h : Bool} {t : Expr} {s r : List Token} {d : ℕ} → g.IsExpr S 5 h false t s r d → Begins is_exprs_end r → g.AreExprs S h (t ∷ []) s r d
  make-one_expr h1 e = g.AreExprs.one_expr h1 (lacks-mark mark.Comma refl e)

  pub make-expression : {h : Bool} {t : Expr} {s r : List Token} {d : ℕ} → g.IsExpr S 5 h false t s r d → Begins is_simple_end r → g.IsSimple S h (si.Expr t) s r d
  make-expression h1 e = g.IsSimple.expression h1 (lacks-front is_goes_on simple-not-goes e)

  pub make-implicit : {i : Bool} {xs : List Token} {s r : List Token} {d : ℕ} → g.AreNames S xs s r d → i ≡ false → Begins (const_end i) r → g.IsConstSpec S i (cns.Implicit xs) s r d
  make-implicit {i = i} {r = r} h1 h3 e = implicit-by h1 h3 (subst (λ b. Begins (const_end b) r) h3 e)

  pub make-typed_const : {i : Bool} {p4 : Span} {xs : List Token} {t : TypeExpr} {ts : List Expr} {s s1 s2 s3 r : List Token} {d1 d2 d3 : ℕ} → g.AreNames S xs s s1 d1 → g.IsType S t s1 s2 d2 → IsMark mark.Assign p4 s2 s3 → g.AreExprs S false ts s3 r d3 → g.IsConstSpec S i (cns.Typed xs t ts) s r (max d1 (max d2 d3))
  make-typed_const h1 h4 h5 h6 = g.IsConstSpec.typed_const h1 (lacks-front is_spec_end type-not-spec (type-begins S h4)) (lacks-mark mark.Assign refl (type-begins S h4)) h4 h5 h6

  pub make-last_const : {i : Bool} {c : ConstSpec} {s r : List Token} {d : ℕ} → g.IsConstSpec S i c s r d → Marked mark.RightParen r → g.AreConstSpecs S i (c ∷ []) s r d
  make-last_const h1 (Marked.marked q) = g.AreConstSpecs.last_const h1 q

  pub make-no_consts : {i : Bool} {r : List Token} → Marked mark.RightParen r → g.AreConstSpecs S i [] r r 0
  make-no_consts (Marked.marked q) = g.AreConstSpecs.no_consts q

  pub make-definition : {x : Token} {t : TypeExpr} {s s1 r : List Token} {d : ℕ} → IsName x s s1 → g.IsType S t s1 r d → g.IsTypeSpec S (tys.Definition x t) s r d
  make-definition h1 h3 = g.IsTypeSpec.definition h1 (lacks-mark mark.Assign refl (type-begins S h3)) h3

  pub make-last_type_spec : {c : TypeSpec} {s r : List Token} {d : ℕ} → g.IsTypeSpec S c s r d → Marked mark.RightParen r → g.AreTypeSpecs S (c ∷ []) s r d
  make-last_type_spec h1 (Marked.marked q) = g.AreTypeSpecs.last_type_spec h1 q

  pub make-no_type_specs : {r : List Token} → Marked mark.RightParen r → g.AreTypeSpecs S [] r r 0
  make-no_type_specs (Marked.marked q) = g.AreTypeSpecs.no_type_specs q

  pub make-typed_var : {xs : List Token} {t : TypeExpr} {s s1 r : List Token} {d1 d2 : ℕ} → g.AreNames S xs s s1 d1 → g.IsType S t s1 r d2 → Begins is_group_end r → g.IsVarSpec S (vs.Typed xs t) s r (max d1 d2)
  make-typed_var h1 h3 e = g.IsVarSpec.typed_var h1 (lacks-mark mark.Assign refl (type-begins S h3)) h3 (lacks-mark mark.Assign refl e)

  pub make-typed_values : {p3 : Span} {xs : List Token} {t : TypeExpr} {ts : List Expr} {s s1 s2 s3 r : List Token} {d1 d2 d3 : ℕ} → g.AreNames S xs s s1 d1 → g.IsType S t s1 s2 d2 → IsMark mark.Assign p3 s2 s3 → g.AreExprs S false ts s3 r d3 → g.IsVarSpec S (vs.TypedValues xs t ts) s r (max d1 (max d2 d3))
  make-typed_values h1 h3 h4 h5 = g.IsVarSpec.typed_values h1 (lacks-mark mark.Assign refl (type-begins S h3)) h3 h4 h5

  pub make-last_var : {c : VarSpec} {s r : List Token} {d : ℕ} → g.IsVarSpec S c s r d → Marked mark.RightParen r → g.AreVarSpecs S (c ∷ []) s r d
  make-last_var h1 (Marked.marked q) = g.AreVarSpecs.last_var h1 q

  pub make-no_vars : {r : List Token} → Marked mark.RightParen r → g.AreVarSpecs S [] r r 0
  make-no_vars (Marked.marked q) = g.AreVarSpecs.no_vars q

  pub make-const_decl : {p : Span} {c : ConstSpec} {s s1 r : List Token} {d : ℕ} → IsWord word.Const p s s1 → g.IsConstSpec S true c s1 r d → g.IsDecl S (de.Const p c) s r d
  make-const_decl h1 h3 = g.IsDecl.const_decl h1 (lacks-mark mark.LeftParen refl (const_spec-begins S h3)) h3

  pub make-type_decl : {p : Span} {c : TypeSpec} {s s1 r : List Token} {d : ℕ} → IsWord word.«Type» p s s1 → g.IsTypeSpec S c s1 r d → g.IsDecl S (de.«Type» p c) s r d
  make-type_decl h1 h3 = g.IsDecl.type_decl h1 (lacks-mark mark.LeftParen refl (type_spec-begins S h3)) h3

  pub make-var_decl : {p : Span} {c : VarSpec} {s s1 r : List Token} {d : ℕ} → IsWord word.Var p s s1 → g.IsVarSpec S c s1 r d → g.IsDecl S (de.Var p c) s r d
  make-var_decl h1 h3 = g.IsDecl.var_decl h1 (lacks-mark mark.LeftParen refl (var_spec-begins S h3)) h3

  pub make-no_values : {r : List Token} → Begins is_stmt_end r → g.AreValues S [] r r 0
  make-no_values (Begins.begins q) = g.AreValues.no_values q

  pub make-no_target : {r : List Token} → Begins is_stmt_end r → g.IsTarget S None r r 0
  make-no_target (Begins.begins q) = g.IsTarget.no_target q

  pub make-last_arm : {a : Arm} {s r : List Token} {d : ℕ} → g.IsArm S a s r d → Begins is_stmt_end r → g.AreArms S ((a ∷ [], None)) s r d
  make-last_arm h1 e = g.AreArms.last_arm h1 (lacks-word word.Else refl e)

  pub make-last_block : {p1 : Span} {a : Arm} {b : Block} {s s1 s2 r : List Token} {d1 d2 : ℕ} → g.IsArm S a s s1 d1 → IsWord word.Else p1 s1 s2 → g.IsBlock S b s2 r d2 → g.AreArms S ((a ∷ [], Some b)) s r (max d1 d2)
  make-last_block h1 h2 h4 = g.AreArms.last_block h1 h2 (brace-no-word word.If (block-opens S h4)) h4

  pub make-bare_arm : {c : Expr} {b : Block} {s s1 r : List Token} {d1 d2 : ℕ} → g.IsExpr S 5 true false c s s1 d1 → g.IsBlock S b s1 r d2 → g.IsArm S (make_arm si.Empty c b) s r (max d1 d2)
  make-bare_arm h1 h3 = bare_arm-by h1 h3 (block-opens S h3)

  pub make-no_tag_value : {r : List Token} → Marked mark.LeftBrace r → g.IsTagValue S None r r 0
  make-no_tag_value (Marked.marked q) = g.IsTagValue.no_tag_value q

  pub make-plain_guard : {p2 p3 p p5 : Span} {t : Expr} {s s1 s2 s3 s4 r : List Token} {d : ℕ} → g.IsPrimary S true t s s1 d → IsMark mark.Dot p2 s1 s2 → IsMark mark.LeftParen p3 s2 s3 → IsWord word.«Type» p s3 s4 → IsMark mark.RightParen p5 s4 r → g.IsGuard S ((None, t, p)) s r (max d 1)
  make-plain_guard h2 h3 h4 h5 h6 = g.IsGuard.plain_guard (no-define S h2 h3) h2 h3 h4 h5 h6

  pub make-no_clauses : {r : List Token} → Marked mark.RightBrace r → g.AreClauses S [] r r 0
  make-no_clauses (Marked.marked q) = g.AreClauses.no_clauses q

  pub make-one_type : {t : TypeExpr} {s r : List Token} {d : ℕ} → g.IsType S t s r d → mark_at mark.Comma r ≡ None → g.AreTypes S (t ∷ []) s r d
  make-one_type h1 e = g.AreTypes.one_type h1 e

  pub make-no_type_clauses : {r : List Token} → Marked mark.RightBrace r → g.AreTypeClauses S [] r r 0
  make-no_type_clauses (Marked.marked q) = g.AreTypeClauses.no_type_clauses q

  pub make-comm_receive : {t : Expr} {s r : List Token} {d : ℕ} → g.IsExpr S 5 false false t s r d → Marked mark.Colon r → g.IsComm S (cm.Receive t) s r d
  make-comm_receive h1 (Marked.marked q) = g.IsComm.comm_receive h1 q

  pub make-no_comms : {r : List Token} → Marked mark.RightBrace r → g.AreCommClauses S [] r r 0
  make-no_comms (Marked.marked q) = g.AreCommClauses.no_comms q

  pub make-no_condition : {r : List Token} → Begins is_semi r → g.IsCondition S None r r 0
  make-no_condition (Begins.begins q) = g.IsCondition.no_condition q

  pub make-no_post : {r : List Token} → Marked mark.LeftBrace r → g.IsPost S si.Empty r r 0
  make-no_post (Marked.marked q) = g.IsPost.no_post q

  pub make-simple_stmt : {t : Simple} {s r : List Token} {d : ℕ} → g.IsSimple S false t s r d → Begins is_stmt_end r → g.IsStmt S (st.Simple t) s r d
  make-simple_stmt h2 e = g.IsStmt.simple_stmt (no-label S h2 e) h2

  pub make-declaration_stmt : {x : Decl} {s r : List Token} {d : ℕ} → g.IsDecl S x s r d → g.IsStmt S (st.Declaration x) s r d
  make-declaration_stmt h2 = declaration_stmt-by h2 (decl-begins S h2)

  pub make-bare_label : {p1 : Span} {x : Token} {s s1 r : List Token} → IsName x s s1 → IsMark mark.Colon p1 s1 r → Begins is_stmt_end r → g.IsStmt S (st.Labeled x (st.Simple si.Empty)) s r 1
  make-bare_label h1 h2 (Begins.begins q) = g.IsStmt.bare_label h1 h2 q

  pub make-labeled : {p1 : Span} {x : Token} {t : Stmt} {s s1 s2 r : List Token} {d : ℕ} → IsName x s s1 → IsMark mark.Colon p1 s1 s2 → g.IsStmt S t s2 r d → g.IsStmt S (st.Labeled x t) s r (suc d)
  make-labeled h1 h2 h4 = g.IsStmt.labeled h1 h2 (lacks-front is_stmt_end end-not-no (stmt-begins S h4)) h4

  pub make-type_switch : {p p3 q : Span} {y : Option (Token × Span) × Expr × Span} {cs : List TypeClause} {s s1 s2 s3 s4 r : List Token} {d1 d2 : ℕ} → IsWord word.Switch p s s1 → g.IsGuard S y s1 s2 d1 → IsMark mark.LeftBrace p3 s2 s3 → g.AreTypeClauses S cs s3 s4 d2 → IsMark mark.RightBrace q s4 r → length s ≤ n → g.IsStmt S (st.TypeSwitch p si.Empty y.0 y.1 y.2 cs q) s r (max d1 (suc d2))
  make-type_switch h1 h3 h4 h5 h6 k = g.IsStmt.type_switch h1 (guard-lacks-header (omega (arith, k, length-After (After-word h1))) h3) h3 h4 h5 h6

  pub make-header_switch : {p p4 q : Span} {i : Simple} {o : Option Expr} {cs : List Clause} {s s1 s2 s3 s4 s5 r : List Token} {d1 d2 d3 : ℕ} → IsWord word.Switch p s s1 → g.IsHeader S i s1 s2 d1 → g.IsTagValue S o s2 s3 d2 → IsMark mark.LeftBrace p4 s3 s4 → g.AreClauses S cs s4 s5 d3 → IsMark mark.RightBrace q s5 r → length s ≤ n → g.IsStmt S (st.Switch p i o cs q) s r (max d1 (max d2 (suc d3)))
  make-header_switch h1 h2 h4 h5 h6 h7 k = g.IsStmt.header_switch h1 h2 (tag-lacks-guard (omega (arith, k, length-After (After-word h1), length-After (After-header h2))) h4 h5) h4 h5 h6 h7

  pub make-switch : {p p4 q : Span} {o : Option Expr} {cs : List Clause} {s s1 s2 s3 s4 r : List Token} {d1 d2 : ℕ} → IsWord word.Switch p s s1 → g.IsTagValue S o s1 s2 d1 → IsMark mark.LeftBrace p4 s2 s3 → g.AreClauses S cs s3 s4 d2 → IsMark mark.RightBrace q s4 r → length s ≤ n → g.IsStmt S (st.Switch p si.Empty o cs q) s r (max d1 (suc d2))
  make-switch h1 h4 h5 h6 h7 k = g.IsStmt.switch h1 (tag-lacks-header (omega (arith, k, length-After (After-word h1))) h4 h5) (tag-lacks-guard (omega (arith, k, length-After (After-word h1))) h4 h5) h4 h5 h6 h7

  pub make-endless : {p : Span} {b : Block} {s s1 r : List Token} {d : ℕ} → IsWord word.For p s s1 → g.IsBlock S b s1 r d → g.IsStmt S (st.While p None b) s r d
  make-endless h1 h3 = endless-by h1 h3 (block-opens S h3)

  pub make-range : {p : Span} {x : RangeLeft} {t : Expr} {b : Block} {s s1 s2 s3 r : List Token} {d1 d2 d3 : ℕ} → IsWord word.For p s s1 → g.IsRangeLeft S x s1 s2 d1 → g.IsExpr S 5 true false t s2 s3 d2 → g.IsBlock S b s3 r d3 → g.IsStmt S (st.Range p x t b) s r (max d1 (max d2 d3))
  make-range h1 h3 h4 h5 = g.IsStmt.range h1 (range-no-brace h3) h3 h4 h5

  pub make-loop : {p : Span} {y : Token} {i : Simple} {o : Option Expr} {j : Simple} {b : Block} {s s1 s2 s3 s4 s5 r : List Token} {d1 d2 d3 d4 : ℕ} → IsWord word.For p s s1 → g.IsHeader S i s1 s2 d1 → g.IsCondition S o s2 s3 d2 → IsFront is_semi y s3 s4 → g.IsPost S j s4 s5 d3 → g.IsBlock S b s5 r d4 → length s ≤ n → g.IsStmt S (st.Loop p i o j b) s r (max d1 (max d2 (max d3 d4)))
  make-loop h1 h4 h5 h6 h7 h8 k = g.IsStmt.loop h1 (header-no-brace h4) (header-lacks-range (omega (arith, k, length-After (After-word h1))) h4) h4 h5 h6 h7 h8

  pub make-while : {p : Span} {t : Expr} {b : Block} {s s1 s2 r : List Token} {d1 d2 : ℕ} → IsWord word.For p s s1 → g.IsExpr S 5 true false t s1 s2 d1 → g.IsBlock S b s2 r d2 → length s ≤ n → g.IsStmt S (st.While p (Some t) b) s r (max d1 d2)
  make-while h1 h5 h6 k = while-by h1 h5 h6 (block-opens S h6) (omega (arith, k, length-After (After-word h1)))

  pub make-no_stmts : {r : List Token} → Begins is_list_end r → g.AreStmts S [] r r 0
  make-no_stmts (Begins.begins q) = g.AreStmts.no_stmts q

  pub make-last_import : {c : ImportSpec} {s r : List Token} {d : ℕ} → g.IsImportSpec S c s r d → Marked mark.RightParen r → g.AreImportSpecs S (c ∷ []) s r d
  make-last_import h1 (Marked.marked q) = g.AreImportSpecs.last_import h1 q

  pub make-no_imports : {r : List Token} → Marked mark.RightParen r → g.AreImportSpecs S [] r r 0
  make-no_imports (Marked.marked q) = g.AreImportSpecs.no_imports q

  pub make-no_body : {r : List Token} → Begins is_semi r → g.IsBody S None r r 0
  make-no_body (Begins.begins q) = g.IsBody.no_body q

  pub make-declaration : {x : Decl} {s r : List Token} {d : ℕ} → g.IsDecl S x s r d → g.IsTop S (tp.Declaration x) s r d
  make-declaration h2 = declaration-by h2 (decl-begins S h2)

  pub make-method_decl : {p : Span} {x : Token} {ps : Parameters} {z : Signature} {o : Option Block} {s s1 s2 s3 s4 r : List Token} {d1 d2 d3 : ℕ} → IsWord word.Func p s s1 → g.AreParams S false ps s1 s2 d1 → is_receiver ps ≡ true → IsName x s2 s3 → g.IsSignature S z s3 s4 d2 → g.IsBody S o s4 r d3 → g.IsTop S (tp.Method p ps x z o) s r (max d1 (max d2 d3))
  make-method_decl h1 h3 h4 h5 h6 h7 = method_decl-by h1 h3 h4 h5 h6 h7 (params-open S h3)

  pub make-import_decl : {p : Span} {y : Token} {i : ImportSpec} {s s1 s2 r : List Token} {d : ℕ} → IsWord word.Import p s s1 → g.IsImportSpec S i s1 s2 d → IsFront is_semi y s2 r → g.IsChunk S (ch.Import (i ∷ [])) s r d
  make-import_decl h1 h3 h4 = g.IsChunk.import_decl h1 (import_spec-no-paren h3) h3 h4
