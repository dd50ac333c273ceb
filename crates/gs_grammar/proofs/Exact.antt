-- What the grammar gives, the rows have, at each place.
use Rattle.std.proofs.Common.{◌≡◌, ℕ, suc, ◌≤◌, Bool, List, [], ◌∷◌, length, refl, ◌∙◌, arith, Some}
use Rattle.gs_syntax.specs.declared.token.Token.{Token}
use Rattle.gs_grammar.specs.declared.trees.Expr.{Expr}
use Rattle.gs_grammar.specs.declared.trees.Suffix.{Suffix}
use Rattle.gs_grammar.specs.Grammar as g
use Rattle.gs_grammar.specs.Parts.{found}
use Rattle.gs_grammar.specs.Reference.{rows, row}
use Rattle.gs_grammar.proofs.Common.{here, later, full-After, full-nil}
use Rattle.gs_grammar.proofs.Rows.{idents-cons, type_name-cons, type-cons, unnamed-cons, named_params-cons, params-cons, signature-cons, tag-cons, field-cons, fields-cons, member-cons, members-cons, literal-cons, selected-cons, block-cons, received-cons, head-cons, bound-cons, args-cons, suffix-cons, suffixes-cons, primary-cons, unary-cons, expr-cons, operand-cons, operands-cons, value-cons, element-cons, elements-cons, exprs-cons, simple-cons, const_spec-cons, const_specs-cons, type_spec-cons, type_specs-cons, var_spec-cons, var_specs-cons, decl-cons, values-cons, target-cons, arms-cons, arm-cons, tag_value-cons, guard-cons, clauses-cons, types-cons, type_clauses-cons, comm-cons, comm_clauses-cons, header-cons, condition-cons, post-cons, range_left-cons, stmt-cons, stmts-cons, import_spec-cons, import_specs-cons, body-cons, top-cons, chunk-cons}
use Rattle.gs_grammar.proofs.Afters.{After-suffix, After-operand, full-idents, full-type_name, full-type, full-unnamed, full-named_params, full-params, full-signature, full-tag, full-field, full-fields, full-member, full-members, full-literal, full-selected, full-block, full-received, full-head, full-bound, full-args, full-suffix, full-primary, full-unary, full-expr, full-operand, full-value, full-element, full-elements, full-exprs, full-simple, full-const_spec, full-const_specs, full-type_spec, full-type_specs, full-var_spec, full-var_specs, full-decl, full-values, full-target, full-arms, full-arm, full-tag_value, full-guard, full-clauses, full-types, full-type_clauses, full-comm, full-comm_clauses, full-header, full-condition, full-post, full-range_left, full-stmt, full-stmts, full-import_spec, full-import_specs, full-body, full-top, full-chunk}
use Rattle.gs_grammar.proofs.Fits.{Fits, AllSound, Exact, AllExact}
use Rattle.gs_grammar.proofs.Sound.{all_sound}
use Rattle.gs_grammar.proofs.ExactOne.{idents-exact, type_name-exact, type-exact, unnamed-exact, named_params-exact, params-exact, signature-exact, tag-exact, field-exact, fields-exact}
use Rattle.gs_grammar.proofs.ExactTwo.{member-exact, members-exact, literal-exact, selected-exact, block-exact, received-exact, head-exact, primary-exact, unary-exact, expr-exact}
use Rattle.gs_grammar.proofs.ExactThree.{bound-exact, args-exact, suffix-exact, suffixes-exact, operand-exact, operands-exact, value-exact, element-exact, elements-exact, exprs-exact}
use Rattle.gs_grammar.proofs.ExactFour.{simple-exact, const_spec-exact, const_specs-exact, type_spec-exact, type_specs-exact, var_spec-exact, var_specs-exact, decl-exact, values-exact, target-exact}
use Rattle.gs_grammar.proofs.ExactFive.{arm-exact, arms-exact, tag_value-exact, guard-exact, clauses-exact, types-exact, type_clauses-exact, comm-exact, comm_clauses-exact, header-exact}
use Rattle.gs_grammar.proofs.ExactSix.{condition-exact, post-exact, range_left-exact, stmt-exact, stmts-exact, import_spec-exact, import_specs-exact, body-exact, top-exact, chunk-exact}

suffixes-nil : {S : g.Part → List Token → List Token → Type 0} {t : List Suffix} {r : List Token} {d : ℕ} → g.AreSuffixes S t [] r d → (row []).suffixes ≡ Some (found t r d)
unfolding rows
suffixes-nil (g.AreSuffixes.more_suffixes h1 h2) = absurd (full-nil (full-After (After-suffix h1)))
suffixes-nil (g.AreSuffixes.no_suffixes h1) = refl

operands-nil : {S : g.Part → List Token → List Token → Type 0} {m : ℕ} {h : Bool} {t : List (Token × Expr)} {r : List Token} {d : ℕ} → g.AreOperands S m h t [] r d → (row []).operands m h ≡ Some (found t r d)
unfolding rows
operands-nil (g.AreOperands.more_operands h1 h2) = absurd (full-nil (full-After (After-operand h1)))
operands-nil (g.AreOperands.no_operands h1) = refl

module _ (S : g.Part → List Token → List Token → Type 0) (n : ℕ) (F : Fits S n) (s : List Token) (l : suc (length s) ≤ n) (H : AllSound S n s) (X : AllExact S n s) where
  exact-cons : (x : Token) → Exact S n (x ∷ s)
  exact-cons x = record {
    idents = λ t r d p. idents-cons x s ∙ idents-exact S n F s l H X p;
    type_name = λ t r d p. type_name-cons x s ∙ type_name-exact S n F s l H X p;
    type = λ t r d p. type-cons x s ∙ type-exact S n F s l H X p;
    unnamed = λ v t r d p. unnamed-cons v x s ∙ unnamed-exact S n F s l H X p;
    named_params = λ v t r d p. named_params-cons v x s ∙ named_params-exact S n F s l H X p;
    params = λ v t r d p. params-cons v x s ∙ params-exact S n F s l H X p;
    signature = λ t r d p. signature-cons x s ∙ signature-exact S n F s l H X p;
    tag = λ t r d p. tag-cons x s ∙ tag-exact S n F s l H X p;
    field = λ t r d p. field-cons x s ∙ field-exact S n F s l H X p;
    fields = λ t r d p. fields-cons x s ∙ fields-exact S n F s l H X p;
    member = λ t r d p. member-cons x s ∙ member-exact S n F s l H X p;
    members = λ t r d p. members-cons x s ∙ members-exact S n F s l H X p;
    literal = λ t r d p. literal-cons x s ∙ literal-exact S n F s l H X p;
    selected = λ t r d p. selected-cons x s ∙ selected-exact S n F s l H X p;
    block = λ t r d p. block-cons x s ∙ block-exact S n F s l H X p;
    received = λ t r d p. received-cons x s ∙ received-exact S n F s l H X p;
    head = λ h t r d p. head-cons h x s ∙ head-exact S n F s l H X p;
    bound = λ t r d p. bound-cons x s ∙ bound-exact S n F s l H X p;
    args = λ t r d p. args-cons x s ∙ args-exact S n F s l H X p;
    suffix = λ t r d p. suffix-cons x s ∙ suffix-exact S n F s l H X p;
    suffixes = λ below t r d p. suffixes-cons x s ∙ suffixes-exact S n F s l H X below p;
    primary = λ h t r d p. primary-cons h x s ∙ primary-exact S n F s l H X p;
    unary = λ h w t r d p. unary-cons h w x s ∙ unary-exact S n F s l H X p;
    expr = λ m h w t r d p. expr-cons m h w x s ∙ expr-exact S n F s l H X p;
    operand = λ m h t r d p. operand-cons m h x s ∙ operand-exact S n F s l H X p;
    operands = λ m h below t r d p. operands-cons m h x s ∙ operands-exact S n F s l H X below p;
    value = λ t r d p. value-cons x s ∙ value-exact S n F s l H X p;
    element = λ t r d p. element-cons x s ∙ element-exact S n F s l H X p;
    elements = λ t r d p. elements-cons x s ∙ elements-exact S n F s l H X p;
    exprs = λ h t r d p. exprs-cons h x s ∙ exprs-exact S n F s l H X p;
    simple = λ h t r d p. simple-cons h x s ∙ simple-exact S n F s l H X p;
    const_spec = λ i t r d p. const_spec-cons i x s ∙ const_spec-exact S n F s l H X p;
    const_specs = λ i t r d p. const_specs-cons i x s ∙ const_specs-exact S n F s l H X p;
    type_spec = λ t r d p. type_spec-cons x s ∙ type_spec-exact S n F s l H X p;
    type_specs = λ t r d p. type_specs-cons x s ∙ type_specs-exact S n F s l H X p;
    var_spec = λ t r d p. var_spec-cons x s ∙ var_spec-exact S n F s l H X p;
    var_specs = λ t r d p. var_specs-cons x s ∙ var_specs-exact S n F s l H X p;
    decl = λ t r d p. decl-cons x s ∙ decl-exact S n F s l H X p;
    values = λ t r d p. values-cons x s ∙ values-exact S n F s l H X p;
    target = λ t r d p. target-cons x s ∙ target-exact S n F s l H X p;
    arms = λ t r d p. arms-cons x s ∙ arms-exact S n F s l H X p;
    arm = λ t r d p. arm-cons x s ∙ arm-exact S n F s l H X p;
    tag_value = λ t r d p. tag_value-cons x s ∙ tag_value-exact S n F s l H X p;
    guard = λ t r d p. guard-cons x s ∙ guard-exact S n F s l H X p;
    clauses = λ t r d p. clauses-cons x s ∙ clauses-exact S n F s l H X p;
    types = λ t r d p. types-cons x s ∙ types-exact S n F s l H X p;
    type_clauses = λ t r d p. type_clauses-cons x s ∙ type_clauses-exact S n F s l H X p;
    comm = λ t r d p. comm-cons x s ∙ comm-exact S n F s l H X p;
    comm_clauses = λ t r d p. comm_clauses-cons x s ∙ comm_clauses-exact S n F s l H X p;
    header = λ t r d p. header-cons x s ∙ header-exact S n F s l H X p;
    condition = λ t r d p. condition-cons x s ∙ condition-exact S n F s l H X p;
    post = λ t r d p. post-cons x s ∙ post-exact S n F s l H X p;
    range_left = λ t r d p. range_left-cons x s ∙ range_left-exact S n F s l H X p;
    stmt = λ t r d p. stmt-cons x s ∙ stmt-exact S n F s l H X p;
    stmts = λ t r d p. stmts-cons x s ∙ stmts-exact S n F s l H X p;
    import_spec = λ t r d p. import_spec-cons x s ∙ import_spec-exact S n F s l H X p;
    import_specs = λ t r d p. import_specs-cons x s ∙ import_specs-exact S n F s l H X p;
    body = λ t r d p. body-cons x s ∙ body-exact S n F s l H X p;
    top = λ t r d p. top-cons x s ∙ top-exact S n F s l H X p;
    chunk = λ t r d p. chunk-cons x s ∙ chunk-exact S n F s l H X p;
  }

exact-nil : (S : g.Part → List Token → List Token → Type 0) (n : ℕ) → Exact S n []
exact-nil S n = record {
  idents = λ t r d p. absurd (full-nil (full-idents p));
  type_name = λ t r d p. absurd (full-nil (full-type_name p));
  type = λ t r d p. absurd (full-nil (full-type p));
  unnamed = λ v t r d p. absurd (full-nil (full-unnamed p));
  named_params = λ v t r d p. absurd (full-nil (full-named_params p));
  params = λ v t r d p. absurd (full-nil (full-params p));
  signature = λ t r d p. absurd (full-nil (full-signature p));
  tag = λ t r d p. absurd (full-nil (full-tag p));
  field = λ t r d p. absurd (full-nil (full-field p));
  fields = λ t r d p. absurd (full-nil (full-fields p));
  member = λ t r d p. absurd (full-nil (full-member p));
  members = λ t r d p. absurd (full-nil (full-members p));
  literal = λ t r d p. absurd (full-nil (full-literal p));
  selected = λ t r d p. absurd (full-nil (full-selected p));
  block = λ t r d p. absurd (full-nil (full-block p));
  received = λ t r d p. absurd (full-nil (full-received p));
  head = λ h t r d p. absurd (full-nil (full-head p));
  bound = λ t r d p. absurd (full-nil (full-bound p));
  args = λ t r d p. absurd (full-nil (full-args p));
  suffix = λ t r d p. absurd (full-nil (full-suffix p));
  suffixes = λ below t r d p. suffixes-nil p;
  primary = λ h t r d p. absurd (full-nil (full-primary p));
  unary = λ h w t r d p. absurd (full-nil (full-unary p));
  expr = λ m h w t r d p. absurd (full-nil (full-expr p));
  operand = λ m h t r d p. absurd (full-nil (full-operand p));
  operands = λ m h below t r d p. operands-nil p;
  value = λ t r d p. absurd (full-nil (full-value p));
  element = λ t r d p. absurd (full-nil (full-element p));
  elements = λ t r d p. absurd (full-nil (full-elements p));
  exprs = λ h t r d p. absurd (full-nil (full-exprs p));
  simple = λ h t r d p. absurd (full-nil (full-simple p));
  const_spec = λ i t r d p. absurd (full-nil (full-const_spec p));
  const_specs = λ i t r d p. absurd (full-nil (full-const_specs p));
  type_spec = λ t r d p. absurd (full-nil (full-type_spec p));
  type_specs = λ t r d p. absurd (full-nil (full-type_specs p));
  var_spec = λ t r d p. absurd (full-nil (full-var_spec p));
  var_specs = λ t r d p. absurd (full-nil (full-var_specs p));
  decl = λ t r d p. absurd (full-nil (full-decl p));
  values = λ t r d p. absurd (full-nil (full-values p));
  target = λ t r d p. absurd (full-nil (full-target p));
  arms = λ t r d p. absurd (full-nil (full-arms p));
  arm = λ t r d p. absurd (full-nil (full-arm p));
  tag_value = λ t r d p. absurd (full-nil (full-tag_value p));
  guard = λ t r d p. absurd (full-nil (full-guard p));
  clauses = λ t r d p. absurd (full-nil (full-clauses p));
  types = λ t r d p. absurd (full-nil (full-types p));
  type_clauses = λ t r d p. absurd (full-nil (full-type_clauses p));
  comm = λ t r d p. absurd (full-nil (full-comm p));
  comm_clauses = λ t r d p. absurd (full-nil (full-comm_clauses p));
  header = λ t r d p. absurd (full-nil (full-header p));
  condition = λ t r d p. absurd (full-nil (full-condition p));
  post = λ t r d p. absurd (full-nil (full-post p));
  range_left = λ t r d p. absurd (full-nil (full-range_left p));
  stmt = λ t r d p. absurd (full-nil (full-stmt p));
  stmts = λ t r d p. absurd (full-nil (full-stmts p));
  import_spec = λ t r d p. absurd (full-nil (full-import_spec p));
  import_specs = λ t r d p. absurd (full-nil (full-import_specs p));
  body = λ t r d p. absurd (full-nil (full-body p));
  top = λ t r d p. absurd (full-nil (full-top p));
  chunk = λ t r d p. absurd (full-nil (full-chunk p));
}

pub all_exact : (S : g.Part → List Token → List Token → Type 0) (n : ℕ) → Fits S n → (s : List Token) → length s ≤ n → AllExact S n s
all_exact S n F [] l r here = exact-nil S n
all_exact S n F (x ∷ s) l r here = exact-cons S n F s l (all_sound S n F s (omega (arith, l))) (all_exact S n F s (omega (arith, l))) x
all_exact S n F (x ∷ s) l r (later q) = all_exact S n F s (omega (arith, l)) r q

pub exact : (S : g.Part → List Token → List Token → Type 0) (n : ℕ) → Fits S n → (s : List Token) → length s ≤ n → Exact S n s
exact S n F s l = all_exact S n F s l s here
