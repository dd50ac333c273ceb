-- What the rows have, the grammar gives, at each place.
use Rattle.std.proofs.Common.{ℕ, suc, ◌≤◌, List, [], ◌∷◌, length, refl, sym, ◌∙◌, arith}
use Rattle.gs_syntax.specs.declared.token.Token.{Token}
use Rattle.gs_grammar.specs.Grammar as g
use Rattle.gs_grammar.specs.Reference.{rows}
use Rattle.gs_grammar.proofs.Common.{here, later, some_is_none, from_some}
use Rattle.gs_grammar.proofs.Rows.{idents-cons, type_name-cons, type-cons, unnamed-cons, named_params-cons, params-cons, signature-cons, tag-cons, field-cons, fields-cons, member-cons, members-cons, literal-cons, selected-cons, block-cons, received-cons, head-cons, bound-cons, args-cons, suffix-cons, suffixes-cons, primary-cons, unary-cons, expr-cons, operand-cons, operands-cons, value-cons, element-cons, elements-cons, exprs-cons, simple-cons, const_spec-cons, const_specs-cons, type_spec-cons, type_specs-cons, var_spec-cons, var_specs-cons, decl-cons, values-cons, target-cons, arms-cons, arm-cons, tag_value-cons, guard-cons, clauses-cons, types-cons, type_clauses-cons, comm-cons, comm_clauses-cons, header-cons, condition-cons, post-cons, range_left-cons, stmt-cons, stmts-cons, import_spec-cons, import_specs-cons, body-cons, top-cons, chunk-cons}
use Rattle.gs_grammar.proofs.Fits.{Fits, Sound, AllSound, suffixes-at, operands-at, absent-suffix, absent-operand}
use Rattle.gs_grammar.proofs.SoundOne.{idents-sound, type_name-sound, type-sound, unnamed-sound, named_params-sound, params-sound, signature-sound, tag-sound, field-sound, fields-sound}
use Rattle.gs_grammar.proofs.SoundTwo.{member-sound, members-sound, literal-sound, selected-sound, block-sound, received-sound, head-sound, primary-sound, unary-sound, expr-sound}
use Rattle.gs_grammar.proofs.SoundThree.{bound-sound, args-sound, suffix-sound, suffixes-sound, operand-sound, operands-sound, value-sound, element-sound, elements-sound, exprs-sound}
use Rattle.gs_grammar.proofs.SoundFour.{simple-sound, const_spec-sound, const_specs-sound, type_spec-sound, type_specs-sound, var_spec-sound, var_specs-sound, decl-sound, values-sound, target-sound}
use Rattle.gs_grammar.proofs.SoundFive.{arm-sound, arms-sound, tag_value-sound, guard-sound, clauses-sound, types-sound, type_clauses-sound, comm-sound, comm_clauses-sound, header-sound}
use Rattle.gs_grammar.proofs.SoundSix.{condition-sound, post-sound, range_left-sound, stmt-sound, stmts-sound, import_spec-sound, import_specs-sound, body-sound, top-sound, chunk-sound}

module _ (S : g.Part → List Token → List Token → Type 0) (n : ℕ) (F : Fits S n) (s : List Token) (l : suc (length s) ≤ n) (H : AllSound S n s) where
  sound-cons : (x : Token) → Sound S n (x ∷ s)
  sound-cons x = record {
    idents = λ f c. idents-sound S n F s l H x f (sym (idents-cons x s) ∙ c);
    type_name = λ f c. type_name-sound S n F s l H x f (sym (type_name-cons x s) ∙ c);
    type = λ f c. type-sound S n F s l H x f (sym (type-cons x s) ∙ c);
    unnamed = λ v f c. unnamed-sound S n F s l H v x f (sym (unnamed-cons v x s) ∙ c);
    named_params = λ v f c. named_params-sound S n F s l H v x f (sym (named_params-cons v x s) ∙ c);
    params = λ v f c. params-sound S n F s l H v x f (sym (params-cons v x s) ∙ c);
    signature = λ f c. signature-sound S n F s l H x f (sym (signature-cons x s) ∙ c);
    tag = λ f c. tag-sound S n F s l H x f (sym (tag-cons x s) ∙ c);
    field = λ f c. field-sound S n F s l H x f (sym (field-cons x s) ∙ c);
    fields = λ f c. fields-sound S n F s l H x f (sym (fields-cons x s) ∙ c);
    member = λ f c. member-sound S n F s l H x f (sym (member-cons x s) ∙ c);
    members = λ f c. members-sound S n F s l H x f (sym (members-cons x s) ∙ c);
    literal = λ f c. literal-sound S n F s l H x f (sym (literal-cons x s) ∙ c);
    selected = λ f c. selected-sound S n F s l H x f (sym (selected-cons x s) ∙ c);
    block = λ f c. block-sound S n F s l H x f (sym (block-cons x s) ∙ c);
    received = λ f c. received-sound S n F s l H x f (sym (received-cons x s) ∙ c);
    head = λ h f c. head-sound S n F s l H h x f (sym (head-cons h x s) ∙ c);
    bound = λ f c. bound-sound S n F s l H x f (sym (bound-cons x s) ∙ c);
    args = λ f c. args-sound S n F s l H x f (sym (args-cons x s) ∙ c);
    suffix = λ f c. suffix-sound S n F s l H x f (sym (suffix-cons x s) ∙ c);
    suffixes = λ below f c. suffixes-sound S n F s l H x below f (sym (suffixes-cons x s) ∙ c);
    primary = λ h f c. primary-sound S n F s l H h x f (sym (primary-cons h x s) ∙ c);
    unary = λ h w f c. unary-sound S n F s l H h w x f (sym (unary-cons h w x s) ∙ c);
    expr = λ m h w f c. expr-sound S n F s l H m h w x f (sym (expr-cons m h w x s) ∙ c);
    operand = λ m h f c. operand-sound S n F s l H m h x f (sym (operand-cons m h x s) ∙ c);
    operands = λ m h below f c. operands-sound S n F s l H m h x below f (sym (operands-cons m h x s) ∙ c);
    value = λ f c. value-sound S n F s l H x f (sym (value-cons x s) ∙ c);
    element = λ f c. element-sound S n F s l H x f (sym (element-cons x s) ∙ c);
    elements = λ f c. elements-sound S n F s l H x f (sym (elements-cons x s) ∙ c);
    exprs = λ h f c. exprs-sound S n F s l H h x f (sym (exprs-cons h x s) ∙ c);
    simple = λ h f c. simple-sound S n F s l H h x f (sym (simple-cons h x s) ∙ c);
    const_spec = λ i f c. const_spec-sound S n F s l H i x f (sym (const_spec-cons i x s) ∙ c);
    const_specs = λ i f c. const_specs-sound S n F s l H i x f (sym (const_specs-cons i x s) ∙ c);
    type_spec = λ f c. type_spec-sound S n F s l H x f (sym (type_spec-cons x s) ∙ c);
    type_specs = λ f c. type_specs-sound S n F s l H x f (sym (type_specs-cons x s) ∙ c);
    var_spec = λ f c. var_spec-sound S n F s l H x f (sym (var_spec-cons x s) ∙ c);
    var_specs = λ f c. var_specs-sound S n F s l H x f (sym (var_specs-cons x s) ∙ c);
    decl = λ f c. decl-sound S n F s l H x f (sym (decl-cons x s) ∙ c);
    values = λ f c. values-sound S n F s l H x f (sym (values-cons x s) ∙ c);
    target = λ f c. target-sound S n F s l H x f (sym (target-cons x s) ∙ c);
    arms = λ f c. arms-sound S n F s l H x f (sym (arms-cons x s) ∙ c);
    arm = λ f c. arm-sound S n F s l H x f (sym (arm-cons x s) ∙ c);
    tag_value = λ f c. tag_value-sound S n F s l H x f (sym (tag_value-cons x s) ∙ c);
    guard = λ f c. guard-sound S n F s l H x f (sym (guard-cons x s) ∙ c);
    clauses = λ f c. clauses-sound S n F s l H x f (sym (clauses-cons x s) ∙ c);
    types = λ f c. types-sound S n F s l H x f (sym (types-cons x s) ∙ c);
    type_clauses = λ f c. type_clauses-sound S n F s l H x f (sym (type_clauses-cons x s) ∙ c);
    comm = λ f c. comm-sound S n F s l H x f (sym (comm-cons x s) ∙ c);
    comm_clauses = λ f c. comm_clauses-sound S n F s l H x f (sym (comm_clauses-cons x s) ∙ c);
    header = λ f c. header-sound S n F s l H x f (sym (header-cons x s) ∙ c);
    condition = λ f c. condition-sound S n F s l H x f (sym (condition-cons x s) ∙ c);
    post = λ f c. post-sound S n F s l H x f (sym (post-cons x s) ∙ c);
    range_left = λ f c. range_left-sound S n F s l H x f (sym (range_left-cons x s) ∙ c);
    stmt = λ f c. stmt-sound S n F s l H x f (sym (stmt-cons x s) ∙ c);
    stmts = λ f c. stmts-sound S n F s l H x f (sym (stmts-cons x s) ∙ c);
    import_spec = λ f c. import_spec-sound S n F s l H x f (sym (import_spec-cons x s) ∙ c);
    import_specs = λ f c. import_specs-sound S n F s l H x f (sym (import_specs-cons x s) ∙ c);
    body = λ f c. body-sound S n F s l H x f (sym (body-cons x s) ∙ c);
    top = λ f c. top-sound S n F s l H x f (sym (top-cons x s) ∙ c);
    chunk = λ f c. chunk-sound S n F s l H x f (sym (chunk-cons x s) ∙ c);
  }

sound-nil : (S : g.Part → List Token → List Token → Type 0) (n : ℕ) → Fits S n → Sound S n []
unfolding rows
sound-nil S n F = record {
  idents = λ f c. absurd (some_is_none c);
  type_name = λ f c. absurd (some_is_none c);
  type = λ f c. absurd (some_is_none c);
  unnamed = λ v f c. absurd (some_is_none c);
  named_params = λ v f c. absurd (some_is_none c);
  params = λ v f c. absurd (some_is_none c);
  signature = λ f c. absurd (some_is_none c);
  tag = λ f c. absurd (some_is_none c);
  field = λ f c. absurd (some_is_none c);
  fields = λ f c. absurd (some_is_none c);
  member = λ f c. absurd (some_is_none c);
  members = λ f c. absurd (some_is_none c);
  literal = λ f c. absurd (some_is_none c);
  selected = λ f c. absurd (some_is_none c);
  block = λ f c. absurd (some_is_none c);
  received = λ f c. absurd (some_is_none c);
  head = λ h f c. absurd (some_is_none c);
  bound = λ f c. absurd (some_is_none c);
  args = λ f c. absurd (some_is_none c);
  suffix = λ f c. absurd (some_is_none c);
  suffixes = λ below f c. from_some (suffixes-at S []) c (g.AreSuffixes.no_suffixes (absent-suffix S n F [] below refl));
  primary = λ h f c. absurd (some_is_none c);
  unary = λ h w f c. absurd (some_is_none c);
  expr = λ m h w f c. absurd (some_is_none c);
  operand = λ m h f c. absurd (some_is_none c);
  operands = λ m h below f c. from_some (operands-at S m h []) c (g.AreOperands.no_operands (absent-operand S n F m h [] below refl));
  value = λ f c. absurd (some_is_none c);
  element = λ f c. absurd (some_is_none c);
  elements = λ f c. absurd (some_is_none c);
  exprs = λ h f c. absurd (some_is_none c);
  simple = λ h f c. absurd (some_is_none c);
  const_spec = λ i f c. absurd (some_is_none c);
  const_specs = λ i f c. absurd (some_is_none c);
  type_spec = λ f c. absurd (some_is_none c);
  type_specs = λ f c. absurd (some_is_none c);
  var_spec = λ f c. absurd (some_is_none c);
  var_specs = λ f c. absurd (some_is_none c);
  decl = λ f c. absurd (some_is_none c);
  values = λ f c. absurd (some_is_none c);
  target = λ f c. absurd (some_is_none c);
  arms = λ f c. absurd (some_is_none c);
  arm = λ f c. absurd (some_is_none c);
  tag_value = λ f c. absurd (some_is_none c);
  guard = λ f c. absurd (some_is_none c);
  clauses = λ f c. absurd (some_is_none c);
  types = λ f c. absurd (some_is_none c);
  type_clauses = λ f c. absurd (some_is_none c);
  comm = λ f c. absurd (some_is_none c);
  comm_clauses = λ f c. absurd (some_is_none c);
  header = λ f c. absurd (some_is_none c);
  condition = λ f c. absurd (some_is_none c);
  post = λ f c. absurd (some_is_none c);
  range_left = λ f c. absurd (some_is_none c);
  stmt = λ f c. absurd (some_is_none c);
  stmts = λ f c. absurd (some_is_none c);
  import_spec = λ f c. absurd (some_is_none c);
  import_specs = λ f c. absurd (some_is_none c);
  body = λ f c. absurd (some_is_none c);
  top = λ f c. absurd (some_is_none c);
  chunk = λ f c. absurd (some_is_none c);
}

pub all_sound : (S : g.Part → List Token → List Token → Type 0) (n : ℕ) → Fits S n → (s : List Token) → length s ≤ n → AllSound S n s
all_sound S n F [] l r here = sound-nil S n F
all_sound S n F (x ∷ s) l r here = sound-cons S n F s l (all_sound S n F s (omega (arith, l))) x
all_sound S n F (x ∷ s) l r (later q) = all_sound S n F s (omega (arith, l)) r q

pub sound : (S : g.Part → List Token → List Token → Type 0) (n : ℕ) → Fits S n → (s : List Token) → length s ≤ n → Sound S n s
sound S n F s l = all_sound S n F s l s here
