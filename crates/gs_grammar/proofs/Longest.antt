-- The plain grammar has no other types, blocks and chunks than those that stand; an expression that stands is the longest of
-- the plain grammar, and a list of statements of it is a front of the one that stands.
use Rattle.std.proofs.Common.{◌≡◌, ℕ, ◌<◌, ◌≤◌, Bool, true, false, List, [], ◌∷◌, ◌++◌, length, refl, sym, ap, ◌∙◌, subst, arith, Option, None}
use Rattle.gs_syntax.specs.declared.token.TokenKind.{TokenKind}
use Rattle.gs_syntax.specs.declared.token.TokenKind.TheVariants as kind
use Rattle.gs_syntax.specs.declared.token.Operator.{Operator}
use Rattle.gs_syntax.specs.declared.token.Span.{Span}
use Rattle.gs_syntax.specs.declared.token.Token.{Token}
use Rattle.gs_syntax.specs.declared.token.Operator.TheVariants as mark
use Rattle.gs_grammar.specs.declared.trees.Chunk.{Chunk}
use Rattle.gs_grammar.specs.declared.trees.ImportSpec.{ImportSpec}
use Rattle.gs_grammar.specs.declared.trees.Top.{Top}
use Rattle.gs_grammar.specs.declared.trees.Decl.{Decl}
use Rattle.gs_grammar.specs.declared.trees.ConstSpec.{ConstSpec}
use Rattle.gs_grammar.specs.declared.trees.TypeSpec.{TypeSpec}
use Rattle.gs_grammar.specs.declared.trees.VarSpec.{VarSpec}
use Rattle.gs_grammar.specs.declared.trees.TypeExpr.{TypeExpr}
use Rattle.gs_grammar.specs.declared.trees.Signature.{Signature}
use Rattle.gs_grammar.specs.declared.trees.Parameters.{Parameters}
use Rattle.gs_grammar.specs.declared.trees.Parameter.{Parameter}
use Rattle.gs_grammar.specs.declared.trees.Field.{Field}
use Rattle.gs_grammar.specs.declared.trees.Member.{Member}
use Rattle.gs_grammar.specs.declared.trees.Expr.{Expr}
use Rattle.gs_grammar.specs.declared.trees.Suffix.{Suffix}
use Rattle.gs_grammar.specs.declared.trees.LiteralValue.{LiteralValue}
use Rattle.gs_grammar.specs.declared.trees.Element.{Element}
use Rattle.gs_grammar.specs.declared.trees.ElementValue.{ElementValue}
use Rattle.gs_grammar.specs.declared.trees.Block.{Block}
use Rattle.gs_grammar.specs.declared.trees.Stmt.{Stmt}
use Rattle.gs_grammar.specs.declared.trees.Stmt.TheVariants as st
use Rattle.gs_grammar.specs.declared.trees.Simple.{Simple}
use Rattle.gs_grammar.specs.declared.trees.Simple.TheVariants as si
use Rattle.gs_grammar.specs.declared.trees.Arm.{Arm}
use Rattle.gs_grammar.specs.declared.trees.Clause.{Clause}
use Rattle.gs_grammar.specs.declared.trees.TypeClause.{TypeClause}
use Rattle.gs_grammar.specs.declared.trees.CommClause.{CommClause}
use Rattle.gs_grammar.specs.declared.trees.Comm.{Comm}
use Rattle.gs_grammar.specs.declared.trees.RangeLeft.{RangeLeft}
use Rattle.gs_grammar.specs.Front.{IsMark, IsFront, IsTrail, mark_at, is_bound_end, is_semi, is_stmt_end, is_list_end, is_field_end}
use Rattle.gs_grammar.specs.Grammar as g
use Rattle.gs_grammar.specs.Plain as p
use Rattle.gs_grammar.proofs.Common.{some_is, length-Ends, length-After, mark-other, trail-no-mark, After-mark, After-word, After-name, After-front}
use Rattle.gs_grammar.proofs.Afters.{After-idents, After-type_name, After-type, After-params, After-signature, After-field, After-member, After-head, After-suffix, After-expr, After-value, After-element, After-exprs, After-simple, After-const_spec, After-type_spec, After-var_spec, After-arm, Ends-tag_value, After-guard, After-types, After-comm, After-header, Ends-condition, Ends-post, After-range_left, After-stmt, Ends-stmts, After-import_spec}
use Rattle.gs_grammar.proofs.Fits.{Fits}
use Rattle.gs_grammar.proofs.Exact.{exact}
use Rattle.gs_grammar.proofs.Plainly.{ahead}
use Rattle.gs_grammar.proofs.Begins.{Begins, Marked, at-mark, at-word, at-name, at-front, widen, lacks-mark, const_end, is_exprs_end, is_simple_end, is_group_end, semi-in-spec, spec-in-group, group-in-exprs, semi-in-field, semi-in-group, semi-in-simple, semi-in-stmt, simple-in-exprs, stmt-in-exprs, stmt-in-group, stmt-in-simple, bound-end-stops, exprs-end-stops, semi-stops, simple-end-stops, step-stops, stmt-end-stops, update-stops, Goes, goes, goes-mark, goes-front, stops, goes-trail, goes-brace-trail, is_type_start, semi-not-list, semi-in-stmt, list-end-not-no, end-not-no, apart, not-mark, front-one, stmt-begins}
use Rattle.gs_grammar.proofs.Better.{Better, settle, shorter, within, Suffixes-better, Primary-better, Unary-better, Expr-better, Operand-better, Operands-better, some-suffixes, some-operands, stop-by, stop-operands-by, suffixes-join, primary-join, bare-join, signed-join, starred-join, first-join, receive-join, lone-join, level-join, operand-join, operands-join}
use Rattle.gs_grammar.proofs.Decides.{TypeWord, word-no-suffix, make-array, make-more_types, make-last_named, make-more_named, make-named_list, make-unnamed_list, make-results, make-no_tag, make-named_field, make-embedded_field, make-last_field, make-no_fields, make-method, make-embedded_interface, make-last_member, make-no_members, make-one_name, make-literal_of_name, make-no_bound, make-last_arg, make-more_args, make-no_args, make-index, make-slice_expr, make-full_slice, make-plain_element, make-more_elements, make-no_elements, make-one_expr, make-expression, make-implicit, make-typed_const, make-last_const, make-no_consts, make-definition, make-last_type_spec, make-no_type_specs, make-typed_var, make-typed_values, make-last_var, make-no_vars, make-const_decl, make-type_decl, make-var_decl, make-no_values, make-no_target, make-last_arm, make-last_block, make-bare_arm, make-no_tag_value, make-plain_guard, make-no_clauses, make-one_type, make-no_type_clauses, make-comm_receive, make-no_comms, make-no_condition, make-no_post, make-simple_stmt, make-declaration_stmt, make-bare_label, make-labeled, make-type_switch, make-header_switch, make-switch, make-endless, make-range, make-loop, make-while, make-no_stmts, make-last_import, make-no_imports, make-no_body, make-declaration, make-method_decl, make-import_decl}

-- us is a front of ts, and ends at v where ts ends at r
pub record IsStart (us ts : List Stmt) (r v : List Token) : Type 0 where
  pub rest : List Stmt
  pub same : ts ≡ us ++ rest
  pub longer : length r ≤ length v

trail-of : {o : Operator} {s r : List Token} → p.IsPerhapsComma s r → Marked o r → IsTrail o s r
trail-of p.IsPerhapsComma.without_comma (Marked.marked m) = IsTrail.no_comma m
trail-of (p.IsPerhapsComma.with_comma h) (Marked.marked m) = IsTrail.a_comma h m

at-marked : {f : TokenKind → Bool} {o : Operator} {s : List Token} → f (kind.Operator o) ≡ true → Marked o s → Begins f s
at-marked e (Marked.marked h) = at-mark e h

stop-marked : {o : Operator} {s : List Token} → goes 5 (kind.Operator o) ≡ false → Marked o s → Goes 5 s → ⊥
stop-marked e (Marked.marked h) c = goes-mark 5 e h c

const-no-comma : (i : Bool) → const_end i (kind.Operator mark.Comma) ≡ false
const-no-comma true = refl
const-no-comma false = refl

const-close : (i : Bool) → const_end i (kind.Operator mark.RightParen) ≡ true
const-close true = refl
const-close false = refl

const-semi : (i : Bool) (k : TokenKind) → is_semi k ≡ true → const_end i k ≡ true
const-semi true k e = semi-in-group k e
const-semi false k e = semi-in-spec k e

const-to-exprs : (i : Bool) {r : List Token} → Begins (const_end i) r → Begins is_exprs_end r
const-to-exprs true b = widen group-in-exprs b
const-to-exprs false b = widen (λ k e. group-in-exprs k (spec-in-group k e)) b

module _ (S : g.Part → List Token → List Token → Type 0) (n : ℕ) (F : Fits S n) where
  plain-block-opens : {t : Block} {s r : List Token} {d : ℕ} → p.IsPlainBlock (ahead S) t s r d → Marked mark.LeftBrace s
  plain-block-opens (p.IsPlainBlock.plain_braces h1 h2 h3) = Marked.marked h1

  plain-type-begins : {t : TypeExpr} {s r : List Token} {d : ℕ} → p.IsPlainType (ahead S) t s r d → Begins is_type_start s
  plain-type-begins (p.IsPlainType.plain_named (p.IsPlainTypeName.plain_bare h1 h2)) = at-name (λ a. refl) h1
  plain-type-begins (p.IsPlainType.plain_named (p.IsPlainTypeName.plain_qualified h1 h2 h3)) = at-name (λ a. refl) h1
  plain-type-begins (p.IsPlainType.plain_paren_type h1 h2 h3) = at-mark refl h1
  plain-type-begins (p.IsPlainType.plain_pointer h1 h2) = at-mark refl h1
  plain-type-begins (p.IsPlainType.plain_slice h1 h2 h3) = at-mark refl h1
  plain-type-begins (p.IsPlainType.plain_array h1 h2 h3 h4) = at-mark refl h1
  plain-type-begins (p.IsPlainType.plain_map_type h1 h2 h3 h4 h5) = at-word refl h1
  plain-type-begins (p.IsPlainType.plain_channel h1 h2 h3) = at-word refl h1
  plain-type-begins (p.IsPlainType.plain_send_channel h1 h2 h3) = at-word refl h1
  plain-type-begins (p.IsPlainType.plain_receive_channel h1 h2 h3) = at-mark refl h1
  plain-type-begins (p.IsPlainType.plain_function_type h1 h2) = at-word refl h1
  plain-type-begins (p.IsPlainType.plain_struct_type h1 h2 h3 h4) = at-word refl h1
  plain-type-begins (p.IsPlainType.plain_interface_type h1 h2 h3 h4) = at-word refl h1

  plain-clauses-open : {t : List Clause} {s r : List Token} {d : ℕ} → p.ArePlainClauses (ahead S) t s r d → Marked mark.RightBrace r → Begins is_list_end s
  plain-clauses-open (p.ArePlainClauses.plain_a_case h1 h2 h3 h4 h5) e = at-word refl h1
  plain-clauses-open (p.ArePlainClauses.plain_a_default h1 h2 h3 h4) e = at-word refl h1
  plain-clauses-open p.ArePlainClauses.plain_no_clauses e = at-marked refl e

  plain-type_clauses-open : {t : List TypeClause} {s r : List Token} {d : ℕ} → p.ArePlainTypeClauses (ahead S) t s r d → Marked mark.RightBrace r → Begins is_list_end s
  plain-type_clauses-open (p.ArePlainTypeClauses.plain_a_type_case h1 h2 h3 h4 h5) e = at-word refl h1
  plain-type_clauses-open (p.ArePlainTypeClauses.plain_a_type_default h1 h2 h3 h4) e = at-word refl h1
  plain-type_clauses-open p.ArePlainTypeClauses.plain_no_type_clauses e = at-marked refl e

  plain-comm_clauses-open : {t : List CommClause} {s r : List Token} {d : ℕ} → p.ArePlainCommClauses (ahead S) t s r d → Marked mark.RightBrace r → Begins is_list_end s
  plain-comm_clauses-open (p.ArePlainCommClauses.plain_a_comm h1 h2 h3 h4 h5) e = at-word refl h1
  plain-comm_clauses-open (p.ArePlainCommClauses.plain_a_comm_default h1 h2 h3 h4) e = at-word refl h1
  plain-comm_clauses-open p.ArePlainCommClauses.plain_no_comms e = at-marked refl e

  mutual
    pub idents-same : {t : List Token} {s r : List Token} {d : ℕ} → p.ArePlainNames (ahead S) t s r d → length s ≤ n → mark_at mark.Comma r ≡ None → g.AreNames S t s r d
    idents-same (p.ArePlainNames.plain_one_name h1) k e = make-one_name S n F h1 e
    idents-same (p.ArePlainNames.plain_more_names h1 h2 h3) k e =
        let k1 = shorter k (After-name h1) in let k2 = shorter k1 (After-mark h2) in let q3 = idents-same h3 k2 e in g.AreNames.more_names h1 h2 q3

    pub type_name-same : {t : TypeExpr} {s r : List Token} {d : ℕ} → p.IsPlainTypeName (ahead S) t s r d → length s ≤ n → g.IsTypeName S t s r d
    type_name-same (p.IsPlainTypeName.plain_bare h1 h2) k = g.IsTypeName.bare h1 h2
    type_name-same (p.IsPlainTypeName.plain_qualified h1 h2 h3) k = g.IsTypeName.qualified h1 h2 h3

    pub type-same : {t : TypeExpr} {s r : List Token} {d : ℕ} → p.IsPlainType (ahead S) t s r d → length s ≤ n → g.IsType S t s r d
    type-same (p.IsPlainType.plain_named h1) k = let q1 = type_name-same h1 k in g.IsType.named q1
    type-same (p.IsPlainType.plain_paren_type h1 h2 h3) k = let k1 = shorter k (After-mark h1) in let q2 = type-same h2 k1 in g.IsType.paren_type h1 q2 h3
    type-same (p.IsPlainType.plain_pointer h1 h2) k = let k1 = shorter k (After-mark h1) in let q2 = type-same h2 k1 in g.IsType.pointer h1 q2
    type-same (p.IsPlainType.plain_slice h1 h2 h3) k = let k1 = shorter k (After-mark h1) in let k2 = shorter k1 (After-mark h2) in let q3 = type-same h3 k2 in g.IsType.slice h1 h2 q3
    type-same (p.IsPlainType.plain_array h1 h4 h5 h6) k =
        let k1 = shorter k (After-mark h1) in let q4 = settle (expr-better h4 k1) (goes-mark 5 refl h5) in let k2 = shorter k1 (After-expr q4) in
        let k3 = shorter k2 (After-mark h5) in let q6 = type-same h6 k3 in make-array S n F h1 q4 h5 q6
    type-same (p.IsPlainType.plain_map_type h1 h2 h3 h4 h5) k =
        let k1 = shorter k (After-word h1) in let k2 = shorter k1 (After-mark h2) in let q3 = type-same h3 k2 in let k3 = shorter k2 (After-type q3) in
        let k4 = shorter k3 (After-mark h4) in let q5 = type-same h5 k4 in g.IsType.map_type h1 h2 q3 h4 q5
    type-same (p.IsPlainType.plain_channel h1 h2 h3) k = let k1 = shorter k (After-word h1) in let q3 = type-same h3 k1 in g.IsType.channel h1 h2 q3
    type-same (p.IsPlainType.plain_send_channel h1 h2 h3) k =
        let k1 = shorter k (After-word h1) in let k2 = shorter k1 (After-mark h2) in let q3 = type-same h3 k2 in g.IsType.send_channel h1 h2 q3
    type-same (p.IsPlainType.plain_receive_channel h1 h2 h3) k =
        let k1 = shorter k (After-mark h1) in let k2 = shorter k1 (After-word h2) in let q3 = type-same h3 k2 in g.IsType.receive_channel h1 h2 q3
    type-same (p.IsPlainType.plain_function_type h1 h2) k = let k1 = shorter k (After-word h1) in let q2 = signature-same h2 k1 in g.IsType.function_type h1 q2
    type-same (p.IsPlainType.plain_struct_type h1 h2 h3 h4) k =
        let k1 = shorter k (After-word h1) in let k2 = shorter k1 (After-mark h2) in let q3 = fields-same h3 k2 (Marked.marked h4) in g.IsType.struct_type h1 h2 q3 h4
    type-same (p.IsPlainType.plain_interface_type h1 h2 h3 h4) k =
        let k1 = shorter k (After-word h1) in let k2 = shorter k1 (After-mark h2) in let q3 = members-same h3 k2 (Marked.marked h4) in g.IsType.interface_type h1 h2 q3 h4

    pub unnamed-same : {v : Bool} {t : List Parameter} {s r : List Token} {d : ℕ} → p.ArePlainUnnamed (ahead S) v t s r d → length s ≤ n → Marked mark.RightParen r → g.AreUnnamed S v t s r d
    unnamed-same (p.ArePlainUnnamed.plain_last_type h1 h2) k e = let t2 = trail-of h2 e in let q1 = type-same h1 k in g.AreUnnamed.last_type q1 t2
    unnamed-same (p.ArePlainUnnamed.plain_more_types h1 h2 h4) k e =
        let q1 = type-same h1 k in let k1 = shorter k (After-type q1) in let k2 = shorter k1 (After-mark h2) in let q4 = unnamed-same h4 k2 e in make-more_types S n F q1 h2 q4
    unnamed-same (p.ArePlainUnnamed.plain_last_dots h1 h2 h3 h4) k e =
        let t4 = trail-of h4 e in let k1 = shorter k (After-mark h1) in let q3 = type-same h3 k1 in g.AreUnnamed.last_dots h1 h2 q3 t4

    pub named_params-same : {v : Bool} {t : List Parameter} {s r : List Token} {d : ℕ} → p.ArePlainNamed (ahead S) v t s r d → length s ≤ n → Marked mark.RightParen r → g.AreNamed S v t s r d
    named_params-same (p.ArePlainNamed.plain_last_named_dots h1 h2 h3 h4 h5 h6) k e =
        let t6 = trail-of h6 e in let q1 = idents-same h1 k (mark-other mark.Comma refl h2) in let k1 = shorter k (After-idents q1) in let k2 = shorter k1 (After-mark h2) in
        let q5 = type-same h5 k2 in g.AreNamed.last_named_dots q1 h2 h3 h4 q5 t6
    named_params-same (p.ArePlainNamed.plain_last_named h1 h3 h4) k e =
        let t4 = trail-of h4 e in let q1 = idents-same h1 k (lacks-mark mark.Comma refl (plain-type-begins h3)) in let k1 = shorter k (After-idents q1) in
        let q3 = type-same h3 k1 in make-last_named S n F q1 q3 t4
    named_params-same (p.ArePlainNamed.plain_more_named h1 h3 h4 h6) k e =
        let q1 = idents-same h1 k (lacks-mark mark.Comma refl (plain-type-begins h3)) in let k1 = shorter k (After-idents q1) in let q3 = type-same h3 k1 in
        let k2 = shorter k1 (After-type q3) in let k3 = shorter k2 (After-mark h4) in let q6 = named_params-same h6 k3 e in make-more_named S n F q1 q3 h4 q6

    pub params-same : {v : Bool} {t : Parameters} {s r : List Token} {d : ℕ} → p.ArePlainParams (ahead S) v t s r d → length s ≤ n → g.AreParams S v t s r d
    params-same (p.ArePlainParams.plain_no_params h1 h2) k = g.AreParams.no_params h1 h2
    params-same (p.ArePlainParams.plain_named_list h1 h3 h4) k = let k1 = shorter k (After-mark h1) in let q3 = named_params-same h3 k1 (Marked.marked h4) in make-named_list S n F h1 q3 h4
    params-same (p.ArePlainParams.plain_unnamed_list h1 h4 h5) k = let k1 = shorter k (After-mark h1) in let q4 = unnamed-same h4 k1 (Marked.marked h5) in make-unnamed_list S n F h1 q4 h5 k

    pub signature-same : {t : Signature} {s r : List Token} {d : ℕ} → p.IsPlainSignature (ahead S) t s r d → length s ≤ n → g.IsSignature S t s r d
    signature-same (p.IsPlainSignature.plain_results h1 h3) k = let q1 = params-same h1 k in let k1 = shorter k (After-params q1) in let q3 = params-same h3 k1 in make-results S n F q1 q3
    signature-same (p.IsPlainSignature.plain_result h1 h2 h3) k =
        let q1 = params-same h1 k in let k1 = shorter k (After-params q1) in let q3 = type-same h3 k1 in g.IsSignature.result q1 h2 q3
    signature-same (p.IsPlainSignature.plain_signature h1 h2 h3) k = let q1 = params-same h1 k in g.IsSignature.plain q1 h2 h3

    pub tag-same : {t : Option Token} {s r : List Token} {d : ℕ} → p.IsPlainTag (ahead S) t s r d → length s ≤ n → Begins is_field_end r → g.IsTag S t s r d
    tag-same (p.IsPlainTag.plain_a_tag h1) k e = g.IsTag.a_tag h1
    tag-same (p.IsPlainTag.plain_no_tag) k e = make-no_tag S n F e

    pub field-same : {t : Field} {s r : List Token} {d : ℕ} → p.IsPlainField (ahead S) t s r d → length s ≤ n → Begins is_field_end r → g.IsField S t s r d
    field-same (p.IsPlainField.plain_named_field h1 h4 h5) k e =
        let q1 = idents-same h1 k (lacks-mark mark.Comma refl (plain-type-begins h4)) in let k1 = shorter k (After-idents q1) in let q4 = type-same h4 k1 in
        let k2 = shorter k1 (After-type q4) in let q5 = tag-same h5 k2 e in make-named_field S n F q1 q4 q5
    field-same (p.IsPlainField.plain_embedded_field h1 h3) k e = let k1 = shorter k (After-name h1) in let q3 = tag-same h3 k1 e in make-embedded_field S n F h1 q3
    field-same (p.IsPlainField.plain_qualified_field h1 h2 h3 h4) k e =
        let k1 = shorter k (After-name h1) in let k2 = shorter k1 (After-mark h2) in let k3 = shorter k2 (After-name h3) in let q4 = tag-same h4 k3 e in
        g.IsField.qualified_field h1 h2 h3 q4
    field-same (p.IsPlainField.plain_pointer_field h1 h2 h3) k e =
        let k1 = shorter k (After-mark h1) in let q2 = type_name-same h2 k1 in let k2 = shorter k1 (After-type_name q2) in let q3 = tag-same h3 k2 e in
        g.IsField.pointer_field h1 q2 q3

    pub fields-same : {t : List Field} {s r : List Token} {d : ℕ} → p.ArePlainFields (ahead S) t s r d → length s ≤ n → Marked mark.RightBrace r → g.AreFields S t s r d
    fields-same (p.ArePlainFields.plain_last_field h1) k e = let q1 = field-same h1 k (at-marked refl e) in make-last_field S n F q1 e
    fields-same (p.ArePlainFields.plain_more_fields h1 h2 h3) k e =
        let q1 = field-same h1 k (at-front semi-in-field h2) in let k1 = shorter k (After-field q1) in let k2 = shorter k1 (After-front h2) in let q3 = fields-same h3 k2 e in
        g.AreFields.more_fields q1 h2 q3
    fields-same (p.ArePlainFields.plain_no_fields) k e = make-no_fields S n F e

    pub member-same : {t : Member} {s r : List Token} {d : ℕ} → p.IsPlainMember (ahead S) t s r d → length s ≤ n → Begins is_field_end r → g.IsMember S t s r d
    member-same (p.IsPlainMember.plain_method h1 h3) k e = let k1 = shorter k (After-name h1) in let q3 = signature-same h3 k1 in make-method S n F h1 q3
    member-same (p.IsPlainMember.plain_embedded_interface h1) k e = make-embedded_interface S n F h1 e
    member-same (p.IsPlainMember.plain_qualified_interface h1 h2 h3) k e = g.IsMember.qualified_interface h1 h2 h3

    pub members-same : {t : List Member} {s r : List Token} {d : ℕ} → p.ArePlainMembers (ahead S) t s r d → length s ≤ n → Marked mark.RightBrace r → g.AreMembers S t s r d
    members-same (p.ArePlainMembers.plain_last_member h1) k e = let q1 = member-same h1 k (at-marked refl e) in make-last_member S n F q1 e
    members-same (p.ArePlainMembers.plain_more_members h1 h2 h3) k e =
        let q1 = member-same h1 k (at-front semi-in-field h2) in let k1 = shorter k (After-member q1) in let k2 = shorter k1 (After-front h2) in let q3 = members-same h3 k2 e in
        g.AreMembers.more_members q1 h2 q3
    members-same (p.ArePlainMembers.plain_no_members) k e = make-no_members S n F e

    pub literal-same : {t : LiteralValue} {s r : List Token} {d : ℕ} → p.IsPlainLiteral (ahead S) t s r d → length s ≤ n → g.IsLiteral S t s r d
    literal-same (p.IsPlainLiteral.plain_values_in_braces h1 h2 h3) k =
        let k1 = shorter k (After-mark h1) in let q2 = elements-same h2 k1 (Marked.marked h3) in g.IsLiteral.values_in_braces h1 q2 h3

    pub selected-same : {t : Token × LiteralValue} {s r : List Token} {d : ℕ} → p.IsPlainSelected (ahead S) t s r d → length s ≤ n → g.IsSelected S t s r d
    selected-same (p.IsPlainSelected.plain_selected_literal h1 h2 h3) k =
        let k1 = shorter k (After-mark h1) in let k2 = shorter k1 (After-name h2) in let q3 = literal-same h3 k2 in g.IsSelected.selected_literal h1 h2 q3

    pub block-same : {t : Block} {s r : List Token} {d : ℕ} → p.IsPlainBlock (ahead S) t s r d → length s ≤ n → g.IsBlock S t s r d
    block-same (p.IsPlainBlock.plain_braces h1 h2 h3) k = let k1 = shorter k (After-mark h1) in let q2 = stmts-same h2 k1 (at-mark refl h3) in g.IsBlock.braces h1 q2 h3

    pub received-same : {t : TypeExpr} {s r : List Token} {d : ℕ} → p.IsPlainReceived (ahead S) t s r d → length s ≤ n → g.IsReceived S t s r d
    received-same (p.IsPlainReceived.plain_received h1 h2 h3) k = let k1 = shorter k (After-word h1) in let q2 = type-same h2 k1 in g.IsReceived.received h1 q2 h3

    pub head-same : {h : Bool} {t : Expr} {s r : List Token} {d : ℕ} → p.IsPlainHead (ahead S) h t s r d → length s ≤ n → g.IsHead S h t s r d
    head-same (p.IsPlainHead.plain_basic_literal h1) k = g.IsHead.basic_literal h1
    head-same (p.IsPlainHead.plain_header_name h1 h2) k = g.IsHead.header_name h1 h2
    head-same (p.IsPlainHead.plain_literal_of_selected h1 h2 h3) k = let k1 = shorter k (After-name h1) in let q3 = selected-same h3 k1 in g.IsHead.literal_of_selected h1 h2 q3
    head-same (p.IsPlainHead.plain_name h1 h2 h3 h4) k = g.IsHead.name h1 h2 h3 h4
    head-same (p.IsPlainHead.plain_literal_of_name h1 h2 h4) k = let k1 = shorter k (After-name h1) in let q4 = literal-same h4 k1 in make-literal_of_name S n F h1 h2 q4
    head-same (p.IsPlainHead.plain_paren h1 h2 h3) k = let k1 = shorter k (After-mark h1) in let q2 = settle (expr-better h2 k1) (goes-mark 5 refl h3) in g.IsHead.paren h1 q2 h3
    head-same (p.IsPlainHead.plain_literal_of_type h1 h2 h3) k =
        let q2 = type-same h2 k in let k1 = shorter k (After-type q2) in let q3 = literal-same h3 k1 in g.IsHead.literal_of_type h1 q2 q3
    head-same (p.IsPlainHead.plain_composite_type h1 h2 h3) k = let q2 = type-same h2 k in g.IsHead.composite_type h1 q2 h3
    head-same (p.IsPlainHead.plain_counted_literal h1 h2 h3 h4 h5) k =
        let k1 = shorter k (After-mark h1) in let k2 = shorter k1 (After-mark h2) in let k3 = shorter k2 (After-mark h3) in let q4 = type-same h4 k3 in
        let k4 = shorter k3 (After-type q4) in let q5 = literal-same h5 k4 in g.IsHead.counted_literal h1 h2 h3 q4 q5
    head-same (p.IsPlainHead.plain_other_type h1 h2) k = let q2 = type-same h2 k in g.IsHead.other_type h1 q2
    head-same (p.IsPlainHead.plain_function_literal h1 h2 h3) k =
        let k1 = shorter k (After-word h1) in let q2 = signature-same h2 k1 in let k2 = shorter k1 (After-signature q2) in let q3 = block-same h3 k2 in
        g.IsHead.function_literal h1 q2 q3
    head-same (p.IsPlainHead.plain_lone_function_type h1 h2 h3) k = let k1 = shorter k (After-word h1) in let q2 = signature-same h2 k1 in g.IsHead.lone_function_type h1 q2 h3

    pub bound-same : {t : Option Expr} {s r : List Token} {d : ℕ} → p.IsPlainBound (ahead S) t s r d → length s ≤ n → Begins is_bound_end r → g.IsBound S t s r d
    bound-same (p.IsPlainBound.plain_a_bound h1) k e = let q1 = settle (expr-better h1 k) (stops bound-end-stops e) in g.IsBound.a_bound q1
    bound-same (p.IsPlainBound.plain_no_bound) k e = make-no_bound S n F e

    pub args-same : {t : List Expr × Option Span} {s r : List Token} {d : ℕ} → p.ArePlainArgs (ahead S) t s r d → length s ≤ n → Marked mark.RightParen r → g.AreArgs S t s r d
    args-same (p.ArePlainArgs.plain_spread h1 h2 h3) k e = let t3 = trail-of h3 e in let q1 = settle (expr-better h1 k) (goes-mark 5 refl h2) in g.AreArgs.spread q1 h2 t3
    args-same (p.ArePlainArgs.plain_last_arg h1 h3) k e = let t3 = trail-of h3 e in let q1 = settle (expr-better h1 k) (goes-trail t3) in make-last_arg S n F q1 t3
    args-same (p.ArePlainArgs.plain_more_args h1 h2 h4) k e =
        let q1 = settle (expr-better h1 k) (goes-mark 5 refl h2) in let k1 = shorter k (After-expr q1) in let k2 = shorter k1 (After-mark h2) in let q4 = args-same h4 k2 e in
        make-more_args S n F q1 h2 q4
    args-same (p.ArePlainArgs.plain_no_args) k e = make-no_args S n F e

    pub suffix-same : {t : Suffix} {s r : List Token} {d : ℕ} → p.IsPlainSuffix (ahead S) t s r d → length s ≤ n → g.IsSuffix S t s r d
    suffix-same (p.IsPlainSuffix.plain_selector h1 h2) k = g.IsSuffix.selector h1 h2
    suffix-same (p.IsPlainSuffix.plain_assertion h1 h2 h3 h4) k =
        let k1 = shorter k (After-mark h1) in let k2 = shorter k1 (After-mark h2) in let q3 = type-same h3 k2 in g.IsSuffix.assertion h1 h2 q3 h4
    suffix-same (p.IsPlainSuffix.plain_open_slice h1 h2 h3 h4) k =
        let k1 = shorter k (After-mark h1) in let k2 = shorter k1 (After-mark h2) in let q3 = bound-same h3 k2 (at-mark refl h4) in g.IsSuffix.open_slice h1 h2 q3 h4
    suffix-same (p.IsPlainSuffix.plain_open_full_slice h1 h2 h3 h4 h5 h6) k =
        let k1 = shorter k (After-mark h1) in let k2 = shorter k1 (After-mark h2) in let q3 = settle (expr-better h3 k2) (goes-mark 5 refl h4) in
        let k3 = shorter k2 (After-expr q3) in let k4 = shorter k3 (After-mark h4) in let q5 = settle (expr-better h5 k4) (goes-mark 5 refl h6) in
        g.IsSuffix.open_full_slice h1 h2 q3 h4 q5 h6
    suffix-same (p.IsPlainSuffix.plain_index h1 h3 h4) k = let k1 = shorter k (After-mark h1) in let q3 = settle (expr-better h3 k1) (goes-mark 5 refl h4) in make-index S n F h1 q3 h4
    suffix-same (p.IsPlainSuffix.plain_slice_expr h1 h3 h4 h5 h6) k =
        let k1 = shorter k (After-mark h1) in let q3 = settle (expr-better h3 k1) (goes-mark 5 refl h4) in let k2 = shorter k1 (After-expr q3) in
        let k3 = shorter k2 (After-mark h4) in let q5 = bound-same h5 k3 (at-mark refl h6) in make-slice_expr S n F h1 q3 h4 q5 h6
    suffix-same (p.IsPlainSuffix.plain_full_slice h1 h3 h4 h5 h6 h7 h8) k =
        let k1 = shorter k (After-mark h1) in let q3 = settle (expr-better h3 k1) (goes-mark 5 refl h4) in let k2 = shorter k1 (After-expr q3) in
        let k3 = shorter k2 (After-mark h4) in let q5 = settle (expr-better h5 k3) (goes-mark 5 refl h6) in let k4 = shorter k3 (After-expr q5) in
        let k5 = shorter k4 (After-mark h6) in let q7 = settle (expr-better h7 k5) (goes-mark 5 refl h8) in make-full_slice S n F h1 q3 h4 q5 h6 q7 h8
    suffix-same (p.IsPlainSuffix.plain_call h1 h2 h3) k = let k1 = shorter k (After-mark h1) in let q2 = args-same h2 k1 (Marked.marked h3) in g.IsSuffix.call h1 q2 h3

    pub value-same : {t : ElementValue} {s r : List Token} {d : ℕ} → p.IsPlainValue (ahead S) t s r d → length s ≤ n → (Goes 5 r → ⊥) → g.IsValue S t s r d
    value-same (p.IsPlainValue.plain_value_expr h1) k e = let q1 = settle (expr-better h1 k) e in g.IsValue.value_expr q1
    value-same (p.IsPlainValue.plain_value_literal h1 h2 h3) k e = let k1 = shorter k (After-mark h1) in let q2 = elements-same h2 k1 (Marked.marked h3) in g.IsValue.value_literal h1 q2 h3

    pub element-same : {t : Element} {s r : List Token} {d : ℕ} → p.IsPlainElement (ahead S) t s r d → length s ≤ n → (Goes 5 r → ⊥) → mark_at mark.Colon r ≡ None → g.IsElement S t s r d
    element-same (p.IsPlainElement.plain_lone_element h1) k g0 e = let q1 = value-same h1 k g0 in make-plain_element S n F q1 e
    element-same (p.IsPlainElement.plain_keyed_element h1 h2 h3) k g0 e =
        let q1 = value-same h1 k (goes-mark 5 refl h2) in let k1 = shorter k (After-value q1) in let k2 = shorter k1 (After-mark h2) in let q3 = value-same h3 k2 g0 in
        g.IsElement.keyed_element q1 h2 q3

    pub elements-same : {t : List Element} {s r : List Token} {d : ℕ} → p.ArePlainElements (ahead S) t s r d → length s ≤ n → Marked mark.RightBrace r → g.AreElements S t s r d
    elements-same (p.ArePlainElements.plain_last_element h1 h2) k e =
        let t2 = trail-of h2 e in let q1 = element-same h1 k (goes-brace-trail t2) (trail-no-mark mark.Colon refl refl t2) in g.AreElements.last_element q1 t2
    elements-same (p.ArePlainElements.plain_more_elements h1 h2 h4) k e =
        let q1 = element-same h1 k (goes-mark 5 refl h2) (mark-other mark.Colon refl h2) in let k1 = shorter k (After-element q1) in let k2 = shorter k1 (After-mark h2) in
        let q4 = elements-same h4 k2 e in make-more_elements S n F q1 h2 q4
    elements-same (p.ArePlainElements.plain_no_elements) k e = make-no_elements S n F e

    pub exprs-same : {h : Bool} {t : List Expr} {s r : List Token} {d : ℕ} → p.ArePlainExprs (ahead S) h t s r d → length s ≤ n → Begins is_exprs_end r → g.AreExprs S h t s r d
    exprs-same (p.ArePlainExprs.plain_one_expr h1) k e = let q1 = settle (expr-better h1 k) (stops exprs-end-stops e) in make-one_expr S n F q1 e
    exprs-same (p.ArePlainExprs.plain_more_exprs h1 h2 h3) k e =
        let q1 = settle (expr-better h1 k) (goes-mark 5 refl h2) in let k1 = shorter k (After-expr q1) in let k2 = shorter k1 (After-mark h2) in let q3 = exprs-same h3 k2 e in
        g.AreExprs.more_exprs q1 h2 q3

    pub simple-same : {h : Bool} {t : Simple} {s r : List Token} {d : ℕ} → p.IsPlainSimple (ahead S) h t s r d → length s ≤ n → Begins is_simple_end r → g.IsSimple S h t s r d
    simple-same (p.IsPlainSimple.plain_assign h1 h2 h3) k e =
        let q1 = exprs-same h1 k (at-mark refl h2) in let k1 = shorter k (After-exprs q1) in let k2 = shorter k1 (After-mark h2) in
        let q3 = exprs-same h3 k2 (widen simple-in-exprs e) in g.IsSimple.assign q1 h2 q3
    simple-same (p.IsPlainSimple.plain_define h1 h2 h3) k e =
        let q1 = exprs-same h1 k (at-mark refl h2) in let k1 = shorter k (After-exprs q1) in let k2 = shorter k1 (After-mark h2) in
        let q3 = exprs-same h3 k2 (widen simple-in-exprs e) in g.IsSimple.define q1 h2 q3
    simple-same (p.IsPlainSimple.plain_expression h1) k e = let q1 = settle (expr-better h1 k) (stops simple-end-stops e) in make-expression S n F q1 e
    simple-same (p.IsPlainSimple.plain_send h1 h2 h3) k e =
        let q1 = settle (expr-better h1 k) (goes-mark 5 refl h2) in let k1 = shorter k (After-expr q1) in let k2 = shorter k1 (After-mark h2) in
        let q3 = settle (expr-better h3 k2) (stops simple-end-stops e) in g.IsSimple.send q1 h2 q3
    simple-same (p.IsPlainSimple.plain_step h1 h2) k e = let q1 = settle (expr-better h1 k) (goes-front 5 step-stops h2) in g.IsSimple.step q1 h2
    simple-same (p.IsPlainSimple.plain_update h1 h2 h3) k e =
        let q1 = settle (expr-better h1 k) (goes-front 5 update-stops h2) in let k1 = shorter k (After-expr q1) in let k2 = shorter k1 (After-front h2) in
        let q3 = settle (expr-better h3 k2) (stops simple-end-stops e) in g.IsSimple.update q1 h2 q3

    pub const_spec-same : {i : Bool} {t : ConstSpec} {s r : List Token} {d : ℕ} → p.IsPlainConstSpec (ahead S) i t s r d → length s ≤ n → Begins (const_end i) r → g.IsConstSpec S i t s r d
    const_spec-same {i = i} (p.IsPlainConstSpec.plain_implicit h1 h3) k e = let q1 = idents-same h1 k (lacks-mark mark.Comma (const-no-comma i) e) in make-implicit S n F q1 h3 e
    const_spec-same {i = i} (p.IsPlainConstSpec.plain_untyped h1 h2 h3) k e =
        let q1 = idents-same h1 k (mark-other mark.Comma refl h2) in let k1 = shorter k (After-idents q1) in let k2 = shorter k1 (After-mark h2) in
        let q3 = exprs-same h3 k2 (const-to-exprs i e) in g.IsConstSpec.untyped q1 h2 q3
    const_spec-same {i = i} (p.IsPlainConstSpec.plain_typed_const h1 h4 h5 h6) k e =
        let q1 = idents-same h1 k (lacks-mark mark.Comma refl (plain-type-begins h4)) in let k1 = shorter k (After-idents q1) in let q4 = type-same h4 k1 in
        let k2 = shorter k1 (After-type q4) in let k3 = shorter k2 (After-mark h5) in let q6 = exprs-same h6 k3 (const-to-exprs i e) in make-typed_const S n F q1 q4 h5 q6

    pub const_specs-same : {i : Bool} {t : List ConstSpec} {s r : List Token} {d : ℕ} → p.ArePlainConstSpecs (ahead S) i t s r d → length s ≤ n → Marked mark.RightParen r → g.AreConstSpecs S i t s r d
    const_specs-same {i = i} (p.ArePlainConstSpecs.plain_last_const h1) k e = let q1 = const_spec-same h1 k (at-marked (const-close i) e) in make-last_const S n F q1 e
    const_specs-same {i = i} (p.ArePlainConstSpecs.plain_more_consts h1 h2 h3) k e =
        let q1 = const_spec-same h1 k (at-front (const-semi i) h2) in let k1 = shorter k (After-const_spec q1) in let k2 = shorter k1 (After-front h2) in
        let q3 = const_specs-same h3 k2 e in g.AreConstSpecs.more_consts q1 h2 q3
    const_specs-same {i = i} (p.ArePlainConstSpecs.plain_no_consts) k e = make-no_consts S n F e

    pub type_spec-same : {t : TypeSpec} {s r : List Token} {d : ℕ} → p.IsPlainTypeSpec (ahead S) t s r d → length s ≤ n → g.IsTypeSpec S t s r d
    type_spec-same (p.IsPlainTypeSpec.plain_definition h1 h3) k = let k1 = shorter k (After-name h1) in let q3 = type-same h3 k1 in make-definition S n F h1 q3
    type_spec-same (p.IsPlainTypeSpec.plain_alias h1 h2 h3) k =
        let k1 = shorter k (After-name h1) in let k2 = shorter k1 (After-mark h2) in let q3 = type-same h3 k2 in g.IsTypeSpec.alias h1 h2 q3

    pub type_specs-same : {t : List TypeSpec} {s r : List Token} {d : ℕ} → p.ArePlainTypeSpecs (ahead S) t s r d → length s ≤ n → Marked mark.RightParen r → g.AreTypeSpecs S t s r d
    type_specs-same (p.ArePlainTypeSpecs.plain_last_type_spec h1) k e = let q1 = type_spec-same h1 k in make-last_type_spec S n F q1 e
    type_specs-same (p.ArePlainTypeSpecs.plain_more_type_specs h1 h2 h3) k e =
        let q1 = type_spec-same h1 k in let k1 = shorter k (After-type_spec q1) in let k2 = shorter k1 (After-front h2) in let q3 = type_specs-same h3 k2 e in
        g.AreTypeSpecs.more_type_specs q1 h2 q3
    type_specs-same (p.ArePlainTypeSpecs.plain_no_type_specs) k e = make-no_type_specs S n F e

    pub var_spec-same : {t : VarSpec} {s r : List Token} {d : ℕ} → p.IsPlainVarSpec (ahead S) t s r d → length s ≤ n → Begins is_group_end r → g.IsVarSpec S t s r d
    var_spec-same (p.IsPlainVarSpec.plain_var_values h1 h2 h3) k e =
        let q1 = idents-same h1 k (mark-other mark.Comma refl h2) in let k1 = shorter k (After-idents q1) in let k2 = shorter k1 (After-mark h2) in
        let q3 = exprs-same h3 k2 (widen group-in-exprs e) in g.IsVarSpec.var_values q1 h2 q3
    var_spec-same (p.IsPlainVarSpec.plain_typed_var h1 h3) k e =
        let q1 = idents-same h1 k (lacks-mark mark.Comma refl (plain-type-begins h3)) in let k1 = shorter k (After-idents q1) in let q3 = type-same h3 k1 in
        make-typed_var S n F q1 q3 e
    var_spec-same (p.IsPlainVarSpec.plain_typed_values h1 h3 h4 h5) k e =
        let q1 = idents-same h1 k (lacks-mark mark.Comma refl (plain-type-begins h3)) in let k1 = shorter k (After-idents q1) in let q3 = type-same h3 k1 in
        let k2 = shorter k1 (After-type q3) in let k3 = shorter k2 (After-mark h4) in let q5 = exprs-same h5 k3 (widen group-in-exprs e) in make-typed_values S n F q1 q3 h4 q5

    pub var_specs-same : {t : List VarSpec} {s r : List Token} {d : ℕ} → p.ArePlainVarSpecs (ahead S) t s r d → length s ≤ n → Marked mark.RightParen r → g.AreVarSpecs S t s r d
    var_specs-same (p.ArePlainVarSpecs.plain_last_var h1) k e = let q1 = var_spec-same h1 k (at-marked refl e) in make-last_var S n F q1 e
    var_specs-same (p.ArePlainVarSpecs.plain_more_vars h1 h2 h3) k e =
        let q1 = var_spec-same h1 k (at-front semi-in-group h2) in let k1 = shorter k (After-var_spec q1) in let k2 = shorter k1 (After-front h2) in
        let q3 = var_specs-same h3 k2 e in g.AreVarSpecs.more_vars q1 h2 q3
    var_specs-same (p.ArePlainVarSpecs.plain_no_vars) k e = make-no_vars S n F e

    pub decl-same : {t : Decl} {s r : List Token} {d : ℕ} → p.IsPlainDecl (ahead S) t s r d → length s ≤ n → Begins is_stmt_end r → g.IsDecl S t s r d
    decl-same (p.IsPlainDecl.plain_const_decl h1 h3) k e = let k1 = shorter k (After-word h1) in let q3 = const_spec-same h3 k1 (widen stmt-in-group e) in make-const_decl S n F h1 q3
    decl-same (p.IsPlainDecl.plain_const_group h1 h2 h3 h4) k e =
        let k1 = shorter k (After-word h1) in let k2 = shorter k1 (After-mark h2) in let q3 = const_specs-same h3 k2 (Marked.marked h4) in g.IsDecl.const_group h1 h2 q3 h4
    decl-same (p.IsPlainDecl.plain_type_decl h1 h3) k e = let k1 = shorter k (After-word h1) in let q3 = type_spec-same h3 k1 in make-type_decl S n F h1 q3
    decl-same (p.IsPlainDecl.plain_type_group h1 h2 h3 h4) k e =
        let k1 = shorter k (After-word h1) in let k2 = shorter k1 (After-mark h2) in let q3 = type_specs-same h3 k2 (Marked.marked h4) in g.IsDecl.type_group h1 h2 q3 h4
    decl-same (p.IsPlainDecl.plain_var_decl h1 h3) k e = let k1 = shorter k (After-word h1) in let q3 = var_spec-same h3 k1 (widen stmt-in-group e) in make-var_decl S n F h1 q3
    decl-same (p.IsPlainDecl.plain_var_group h1 h2 h3 h4) k e =
        let k1 = shorter k (After-word h1) in let k2 = shorter k1 (After-mark h2) in let q3 = var_specs-same h3 k2 (Marked.marked h4) in g.IsDecl.var_group h1 h2 q3 h4

    pub values-same : {t : List Expr} {s r : List Token} {d : ℕ} → p.ArePlainValues (ahead S) t s r d → length s ≤ n → Begins is_stmt_end r → g.AreValues S t s r d
    values-same (p.ArePlainValues.plain_some_values h1) k e = let q1 = exprs-same h1 k (widen stmt-in-exprs e) in g.AreValues.some_values q1
    values-same (p.ArePlainValues.plain_no_values) k e = make-no_values S n F e

    pub target-same : {t : Option Token} {s r : List Token} {d : ℕ} → p.IsPlainTarget (ahead S) t s r d → length s ≤ n → Begins is_stmt_end r → g.IsTarget S t s r d
    target-same (p.IsPlainTarget.plain_a_target h1) k e = g.IsTarget.a_target h1
    target-same (p.IsPlainTarget.plain_no_target) k e = make-no_target S n F e

    pub arms-same : {t : List Arm × Option Block} {s r : List Token} {d : ℕ} → p.ArePlainArms (ahead S) t s r d → length s ≤ n → Begins is_stmt_end r → g.AreArms S t s r d
    arms-same (p.ArePlainArms.plain_last_arm h1) k e = let q1 = arm-same h1 k in make-last_arm S n F q1 e
    arms-same (p.ArePlainArms.plain_more_arms h1 h2 h3 h4) k e =
        let q1 = arm-same h1 k in let k1 = shorter k (After-arm q1) in let k2 = shorter k1 (After-word h2) in let k3 = shorter k2 (After-word h3) in let q4 = arms-same h4 k3 e in
        g.AreArms.more_arms q1 h2 h3 q4
    arms-same (p.ArePlainArms.plain_last_block h1 h2 h4) k e =
        let q1 = arm-same h1 k in let k1 = shorter k (After-arm q1) in let k2 = shorter k1 (After-word h2) in let q4 = block-same h4 k2 in make-last_block S n F q1 h2 q4

    pub arm-same : {t : Arm} {s r : List Token} {d : ℕ} → p.IsPlainArm (ahead S) t s r d → length s ≤ n → g.IsArm S t s r d
    arm-same (p.IsPlainArm.plain_header_arm h1 h2 h3 h4) k =
        let q1 = simple-same h1 k (at-front semi-in-simple h2) in let k1 = shorter k (After-simple q1) in let k2 = shorter k1 (After-front h2) in
        let q3 = settle (expr-better h3 k2) (stop-marked refl (plain-block-opens h4)) in let k3 = shorter k2 (After-expr q3) in let q4 = block-same h4 k3 in
        g.IsArm.header_arm q1 h2 q3 q4
    arm-same (p.IsPlainArm.plain_bare_arm h1 h3) k =
        let q1 = settle (expr-better h1 k) (stop-marked refl (plain-block-opens h3)) in let k1 = shorter k (After-expr q1) in let q3 = block-same h3 k1 in
        make-bare_arm S n F q1 q3
    arm-same (p.IsPlainArm.plain_empty_arm h1 h2 h3) k =
        let k1 = shorter k (After-front h1) in let q2 = settle (expr-better h2 k1) (stop-marked refl (plain-block-opens h3)) in let k2 = shorter k1 (After-expr q2) in
        let q3 = block-same h3 k2 in g.IsArm.empty_arm h1 q2 q3

    pub tag_value-same : {t : Option Expr} {s r : List Token} {d : ℕ} → p.IsPlainTagValue (ahead S) t s r d → length s ≤ n → Marked mark.LeftBrace r → g.IsTagValue S t s r d
    tag_value-same (p.IsPlainTagValue.plain_a_tag_value h1) k e = let q1 = settle (expr-better h1 k) (stop-marked refl e) in g.IsTagValue.a_tag_value q1
    tag_value-same (p.IsPlainTagValue.plain_no_tag_value) k e = make-no_tag_value S n F e

    pub guard-same : {t : Option (Token × Span) × Expr × Span} {s r : List Token} {d : ℕ} → p.IsPlainGuard (ahead S) t s r d → length s ≤ n → g.IsGuard S t s r d
    guard-same (p.IsPlainGuard.plain_bare_guard h2 h3 h4 h5 h6) k =
        let q2 = settle (primary-better h2 k) (word-no-suffix S (TypeWord.type_word h3 h4 h5)) in make-plain_guard S n F q2 h3 h4 h5 h6
    guard-same (p.IsPlainGuard.plain_named_guard h1 h2 h3 h4 h5 h6 h7) k =
        let k1 = shorter k (After-name h1) in let k2 = shorter k1 (After-mark h2) in let q3 = settle (primary-better h3 k2) (word-no-suffix S (TypeWord.type_word h4 h5 h6)) in
        g.IsGuard.named_guard h1 h2 q3 h4 h5 h6 h7

    pub clauses-same : {t : List Clause} {s r : List Token} {d : ℕ} → p.ArePlainClauses (ahead S) t s r d → length s ≤ n → Marked mark.RightBrace r → g.AreClauses S t s r d
    clauses-same (p.ArePlainClauses.plain_a_case h1 h2 h3 h4 h5) k e =
        let k1 = shorter k (After-word h1) in let q2 = exprs-same h2 k1 (at-mark refl h3) in let k2 = shorter k1 (After-exprs q2) in let k3 = shorter k2 (After-mark h3) in
        let q4 = stmts-same h4 k3 (plain-clauses-open h5 e) in let k4 = within k3 (Ends-stmts q4) in let q5 = clauses-same h5 k4 e in g.AreClauses.a_case h1 q2 h3 q4 q5
    clauses-same (p.ArePlainClauses.plain_a_default h1 h2 h3 h4) k e =
        let k1 = shorter k (After-word h1) in let k2 = shorter k1 (After-mark h2) in let q3 = stmts-same h3 k2 (plain-clauses-open h4 e) in let k3 = within k2 (Ends-stmts q3) in
        let q4 = clauses-same h4 k3 e in g.AreClauses.a_default h1 h2 q3 q4
    clauses-same (p.ArePlainClauses.plain_no_clauses) k e = make-no_clauses S n F e

    pub types-same : {t : List TypeExpr} {s r : List Token} {d : ℕ} → p.ArePlainTypes (ahead S) t s r d → length s ≤ n → mark_at mark.Comma r ≡ None → g.AreTypes S t s r d
    types-same (p.ArePlainTypes.plain_one_type h1) k e = let q1 = type-same h1 k in make-one_type S n F q1 e
    types-same (p.ArePlainTypes.plain_more_cases h1 h2 h3) k e =
        let q1 = type-same h1 k in let k1 = shorter k (After-type q1) in let k2 = shorter k1 (After-mark h2) in let q3 = types-same h3 k2 e in g.AreTypes.more_cases q1 h2 q3

    pub type_clauses-same : {t : List TypeClause} {s r : List Token} {d : ℕ} → p.ArePlainTypeClauses (ahead S) t s r d → length s ≤ n → Marked mark.RightBrace r → g.AreTypeClauses S t s r d
    type_clauses-same (p.ArePlainTypeClauses.plain_a_type_case h1 h2 h3 h4 h5) k e =
        let k1 = shorter k (After-word h1) in let q2 = types-same h2 k1 (mark-other mark.Comma refl h3) in let k2 = shorter k1 (After-types q2) in
        let k3 = shorter k2 (After-mark h3) in let q4 = stmts-same h4 k3 (plain-type_clauses-open h5 e) in let k4 = within k3 (Ends-stmts q4) in
        let q5 = type_clauses-same h5 k4 e in g.AreTypeClauses.a_type_case h1 q2 h3 q4 q5
    type_clauses-same (p.ArePlainTypeClauses.plain_a_type_default h1 h2 h3 h4) k e =
        let k1 = shorter k (After-word h1) in let k2 = shorter k1 (After-mark h2) in let q3 = stmts-same h3 k2 (plain-type_clauses-open h4 e) in
        let k3 = within k2 (Ends-stmts q3) in let q4 = type_clauses-same h4 k3 e in g.AreTypeClauses.a_type_default h1 h2 q3 q4
    type_clauses-same (p.ArePlainTypeClauses.plain_no_type_clauses) k e = make-no_type_clauses S n F e

    pub comm-same : {t : Comm} {s r : List Token} {d : ℕ} → p.IsPlainComm (ahead S) t s r d → length s ≤ n → Marked mark.Colon r → g.IsComm S t s r d
    comm-same (p.IsPlainComm.plain_comm_assign h1 h2 h3) k e =
        let q1 = exprs-same h1 k (at-mark refl h2) in let k1 = shorter k (After-exprs q1) in let k2 = shorter k1 (After-mark h2) in
        let q3 = settle (expr-better h3 k2) (stop-marked refl e) in g.IsComm.comm_assign q1 h2 q3
    comm-same (p.IsPlainComm.plain_comm_define h1 h2 h3) k e =
        let q1 = exprs-same h1 k (at-mark refl h2) in let k1 = shorter k (After-exprs q1) in let k2 = shorter k1 (After-mark h2) in
        let q3 = settle (expr-better h3 k2) (stop-marked refl e) in g.IsComm.comm_define q1 h2 q3
    comm-same (p.IsPlainComm.plain_comm_send h1 h2 h3) k e =
        let q1 = settle (expr-better h1 k) (goes-mark 5 refl h2) in let k1 = shorter k (After-expr q1) in let k2 = shorter k1 (After-mark h2) in
        let q3 = settle (expr-better h3 k2) (stop-marked refl e) in g.IsComm.comm_send q1 h2 q3
    comm-same (p.IsPlainComm.plain_comm_receive h1) k e = let q1 = settle (expr-better h1 k) (stop-marked refl e) in make-comm_receive S n F q1 e

    pub comm_clauses-same : {t : List CommClause} {s r : List Token} {d : ℕ} → p.ArePlainCommClauses (ahead S) t s r d → length s ≤ n → Marked mark.RightBrace r → g.AreCommClauses S t s r d
    comm_clauses-same (p.ArePlainCommClauses.plain_a_comm h1 h2 h3 h4 h5) k e =
        let k1 = shorter k (After-word h1) in let q2 = comm-same h2 k1 (Marked.marked h3) in let k2 = shorter k1 (After-comm q2) in let k3 = shorter k2 (After-mark h3) in
        let q4 = stmts-same h4 k3 (plain-comm_clauses-open h5 e) in let k4 = within k3 (Ends-stmts q4) in let q5 = comm_clauses-same h5 k4 e in
        g.AreCommClauses.a_comm h1 q2 h3 q4 q5
    comm_clauses-same (p.ArePlainCommClauses.plain_a_comm_default h1 h2 h3 h4) k e =
        let k1 = shorter k (After-word h1) in let k2 = shorter k1 (After-mark h2) in let q3 = stmts-same h3 k2 (plain-comm_clauses-open h4 e) in
        let k3 = within k2 (Ends-stmts q3) in let q4 = comm_clauses-same h4 k3 e in g.AreCommClauses.a_comm_default h1 h2 q3 q4
    comm_clauses-same (p.ArePlainCommClauses.plain_no_comms) k e = make-no_comms S n F e

    pub header-same : {t : Simple} {s r : List Token} {d : ℕ} → p.IsPlainHeader (ahead S) t s r d → length s ≤ n → g.IsHeader S t s r d
    header-same (p.IsPlainHeader.plain_init_header h1 h2) k = let q1 = simple-same h1 k (at-front semi-in-simple h2) in g.IsHeader.init_header q1 h2
    header-same (p.IsPlainHeader.plain_no_header h1) k = g.IsHeader.no_header h1

    pub condition-same : {t : Option Expr} {s r : List Token} {d : ℕ} → p.IsPlainCondition (ahead S) t s r d → length s ≤ n → Begins is_semi r → g.IsCondition S t s r d
    condition-same (p.IsPlainCondition.plain_a_condition h1) k e = let q1 = settle (expr-better h1 k) (stops semi-stops e) in g.IsCondition.a_condition q1
    condition-same (p.IsPlainCondition.plain_no_condition) k e = make-no_condition S n F e

    pub post-same : {t : Simple} {s r : List Token} {d : ℕ} → p.IsPlainPost (ahead S) t s r d → length s ≤ n → Marked mark.LeftBrace r → g.IsPost S t s r d
    post-same (p.IsPlainPost.plain_a_post h1 h2) k e = let q1 = simple-same h1 k (at-marked refl e) in g.IsPost.a_post q1 h2
    post-same (p.IsPlainPost.plain_no_post) k e = make-no_post S n F e

    pub range_left-same : {t : RangeLeft} {s r : List Token} {d : ℕ} → p.IsPlainRangeLeft (ahead S) t s r d → length s ≤ n → g.IsRangeLeft S t s r d
    range_left-same (p.IsPlainRangeLeft.plain_range_assign h1 h2 h3) k = let q1 = exprs-same h1 k (at-mark refl h2) in g.IsRangeLeft.range_assign q1 h2 h3
    range_left-same (p.IsPlainRangeLeft.plain_range_define h1 h2 h3) k = let q1 = exprs-same h1 k (at-mark refl h2) in g.IsRangeLeft.range_define q1 h2 h3
    range_left-same (p.IsPlainRangeLeft.plain_no_range_left h1) k = g.IsRangeLeft.no_range_left h1

    pub stmt-same : {t : Stmt} {s r : List Token} {d : ℕ} → p.IsPlainStmt (ahead S) t s r d → length s ≤ n → Begins is_stmt_end r → g.IsStmt S t s r d
    stmt-same (p.IsPlainStmt.plain_simple_stmt h2) k e = let q2 = simple-same h2 k (widen stmt-in-simple e) in make-simple_stmt S n F q2 e
    stmt-same (p.IsPlainStmt.plain_declaration_stmt h2) k e = let q2 = decl-same h2 k e in make-declaration_stmt S n F q2
    stmt-same (p.IsPlainStmt.plain_bare_label h1 h2) k e = make-bare_label S n F h1 h2 e
    stmt-same (p.IsPlainStmt.plain_labeled h1 h2 h4) k e =
        let k1 = shorter k (After-name h1) in let k2 = shorter k1 (After-mark h2) in let q4 = stmt-same h4 k2 e in make-labeled S n F h1 h2 q4
    stmt-same (p.IsPlainStmt.plain_go h1 h2) k e = let k1 = shorter k (After-word h1) in let q2 = settle (expr-better h2 k1) (stops stmt-end-stops e) in g.IsStmt.go h1 q2
    stmt-same (p.IsPlainStmt.plain_defer h1 h2) k e = let k1 = shorter k (After-word h1) in let q2 = settle (expr-better h2 k1) (stops stmt-end-stops e) in g.IsStmt.defer h1 q2
    stmt-same (p.IsPlainStmt.plain_return h1 h2) k e = let k1 = shorter k (After-word h1) in let q2 = values-same h2 k1 e in g.IsStmt.return h1 q2
    stmt-same (p.IsPlainStmt.plain_break h1 h2) k e = let k1 = shorter k (After-word h1) in let q2 = target-same h2 k1 e in g.IsStmt.break h1 q2
    stmt-same (p.IsPlainStmt.plain_continue h1 h2) k e = let k1 = shorter k (After-word h1) in let q2 = target-same h2 k1 e in g.IsStmt.continue h1 q2
    stmt-same (p.IsPlainStmt.plain_goto h1 h2) k e = g.IsStmt.goto h1 h2
    stmt-same (p.IsPlainStmt.plain_fallthrough h1) k e = g.IsStmt.fallthrough h1
    stmt-same (p.IsPlainStmt.plain_block_stmt h1 h2 h3) k e = let k1 = shorter k (After-mark h1) in let q2 = stmts-same h2 k1 (at-mark refl h3) in g.IsStmt.block_stmt h1 q2 h3
    stmt-same (p.IsPlainStmt.plain_if_stmt h1 h2) k e = let k1 = shorter k (After-word h1) in let q2 = arms-same h2 k1 e in g.IsStmt.if_stmt h1 q2
    stmt-same (p.IsPlainStmt.plain_header_type_switch h1 h2 h3 h4 h5 h6) k e =
        let k1 = shorter k (After-word h1) in let q2 = header-same h2 k1 in let k2 = shorter k1 (After-header q2) in let q3 = guard-same h3 k2 in
        let k3 = shorter k2 (After-guard q3) in let k4 = shorter k3 (After-mark h4) in let q5 = type_clauses-same h5 k4 (Marked.marked h6) in
        g.IsStmt.header_type_switch h1 q2 q3 h4 q5 h6
    stmt-same (p.IsPlainStmt.plain_type_switch h1 h3 h4 h5 h6) k e =
        let k1 = shorter k (After-word h1) in let q3 = guard-same h3 k1 in let k2 = shorter k1 (After-guard q3) in let k3 = shorter k2 (After-mark h4) in
        let q5 = type_clauses-same h5 k3 (Marked.marked h6) in make-type_switch S n F h1 q3 h4 q5 h6 k
    stmt-same (p.IsPlainStmt.plain_header_switch h1 h2 h4 h5 h6 h7) k e =
        let k1 = shorter k (After-word h1) in let q2 = header-same h2 k1 in let k2 = shorter k1 (After-header q2) in let q4 = tag_value-same h4 k2 (Marked.marked h5) in
        let k3 = within k2 (Ends-tag_value q4) in let k4 = shorter k3 (After-mark h5) in let q6 = clauses-same h6 k4 (Marked.marked h7) in
        make-header_switch S n F h1 q2 q4 h5 q6 h7 k
    stmt-same (p.IsPlainStmt.plain_switch h1 h4 h5 h6 h7) k e =
        let k1 = shorter k (After-word h1) in let q4 = tag_value-same h4 k1 (Marked.marked h5) in let k2 = within k1 (Ends-tag_value q4) in let k3 = shorter k2 (After-mark h5) in
        let q6 = clauses-same h6 k3 (Marked.marked h7) in make-switch S n F h1 q4 h5 q6 h7 k
    stmt-same (p.IsPlainStmt.plain_select h1 h2 h3 h4) k e =
        let k1 = shorter k (After-word h1) in let k2 = shorter k1 (After-mark h2) in let q3 = comm_clauses-same h3 k2 (Marked.marked h4) in g.IsStmt.select h1 h2 q3 h4
    stmt-same (p.IsPlainStmt.plain_endless h1 h3) k e = let k1 = shorter k (After-word h1) in let q3 = block-same h3 k1 in make-endless S n F h1 q3
    stmt-same (p.IsPlainStmt.plain_range h1 h3 h4 h5) k e =
        let k1 = shorter k (After-word h1) in let q3 = range_left-same h3 k1 in let k2 = shorter k1 (After-range_left q3) in
        let q4 = settle (expr-better h4 k2) (stop-marked refl (plain-block-opens h5)) in let k3 = shorter k2 (After-expr q4) in let q5 = block-same h5 k3 in
        make-range S n F h1 q3 q4 q5
    stmt-same (p.IsPlainStmt.plain_loop h1 h4 h5 h6 h7 h8) k e =
        let k1 = shorter k (After-word h1) in let q4 = header-same h4 k1 in let k2 = shorter k1 (After-header q4) in let q5 = condition-same h5 k2 (Begins.begins h6) in
        let k3 = within k2 (Ends-condition q5) in let k4 = shorter k3 (After-front h6) in let q7 = post-same h7 k4 (plain-block-opens h8) in let k5 = within k4 (Ends-post q7) in
        let q8 = block-same h8 k5 in make-loop S n F h1 q4 q5 h6 q7 q8 k
    stmt-same (p.IsPlainStmt.plain_while h1 h5 h6) k e =
        let k1 = shorter k (After-word h1) in let q5 = settle (expr-better h5 k1) (stop-marked refl (plain-block-opens h6)) in let k2 = shorter k1 (After-expr q5) in
        let q6 = block-same h6 k2 in make-while S n F h1 q5 q6 k

    pub stmts-same : {t : List Stmt} {s r : List Token} {d : ℕ} → p.ArePlainStmts (ahead S) t s r d → length s ≤ n → Begins is_list_end r → g.AreStmts S t s r d
    stmts-same (p.ArePlainStmts.plain_last_stmt h1 h2) k e = let q1 = stmt-same h1 k (at-mark refl h2) in g.AreStmts.last_stmt q1 h2
    stmts-same (p.ArePlainStmts.plain_more_stmts h1 h2 h3) k e =
        let q1 = stmt-same h1 k (at-front semi-in-stmt h2) in let k1 = shorter k (After-stmt q1) in let k2 = shorter k1 (After-front h2) in let q3 = stmts-same h3 k2 e in
        g.AreStmts.more_stmts q1 h2 q3
    stmts-same (p.ArePlainStmts.plain_empty_stmt h1 h2) k e = let k1 = shorter k (After-front h1) in let q2 = stmts-same h2 k1 e in g.AreStmts.empty_stmt h1 q2
    stmts-same (p.ArePlainStmts.plain_no_stmts) k e = make-no_stmts S n F e

    pub import_spec-same : {t : ImportSpec} {s r : List Token} {d : ℕ} → p.IsPlainImportSpec (ahead S) t s r d → length s ≤ n → g.IsImportSpec S t s r d
    import_spec-same (p.IsPlainImportSpec.plain_path_import h1) k = g.IsImportSpec.plain_import h1
    import_spec-same (p.IsPlainImportSpec.plain_dot_import h1 h2) k = g.IsImportSpec.dot_import h1 h2
    import_spec-same (p.IsPlainImportSpec.plain_named_import h1 h2) k = g.IsImportSpec.named_import h1 h2

    pub import_specs-same : {t : List ImportSpec} {s r : List Token} {d : ℕ} → p.ArePlainImportSpecs (ahead S) t s r d → length s ≤ n → Marked mark.RightParen r → g.AreImportSpecs S t s r d
    import_specs-same (p.ArePlainImportSpecs.plain_last_import h1) k e = let q1 = import_spec-same h1 k in make-last_import S n F q1 e
    import_specs-same (p.ArePlainImportSpecs.plain_more_imports h1 h2 h3) k e =
        let q1 = import_spec-same h1 k in let k1 = shorter k (After-import_spec q1) in let k2 = shorter k1 (After-front h2) in let q3 = import_specs-same h3 k2 e in
        g.AreImportSpecs.more_imports q1 h2 q3
    import_specs-same (p.ArePlainImportSpecs.plain_no_imports) k e = make-no_imports S n F e

    pub body-same : {t : Option Block} {s r : List Token} {d : ℕ} → p.IsPlainBody (ahead S) t s r d → length s ≤ n → Begins is_semi r → g.IsBody S t s r d
    body-same (p.IsPlainBody.plain_a_body h1) k e = let q1 = block-same h1 k in g.IsBody.a_body q1
    body-same (p.IsPlainBody.plain_no_body) k e = make-no_body S n F e

    pub top-same : {t : Top} {s r : List Token} {d : ℕ} → p.IsPlainTop (ahead S) t s r d → length s ≤ n → Begins is_semi r → g.IsTop S t s r d
    top-same (p.IsPlainTop.plain_declaration h2) k e = let q2 = decl-same h2 k (widen semi-in-stmt e) in make-declaration S n F q2
    top-same (p.IsPlainTop.plain_function h1 h2 h3 h4) k e =
        let k1 = shorter k (After-word h1) in let k2 = shorter k1 (After-name h2) in let q3 = signature-same h3 k2 in let k3 = shorter k2 (After-signature q3) in
        let q4 = body-same h4 k3 e in g.IsTop.function h1 h2 q3 q4
    top-same (p.IsPlainTop.plain_method_decl h1 h3 h4 h5 h6 h7) k e =
        let k1 = shorter k (After-word h1) in let q3 = params-same h3 k1 in let k2 = shorter k1 (After-params q3) in let k3 = shorter k2 (After-name h5) in
        let q6 = signature-same h6 k3 in let k4 = shorter k3 (After-signature q6) in let q7 = body-same h7 k4 e in make-method_decl S n F h1 q3 h4 h5 q6 q7

    pub chunk-same : {t : Chunk} {s r : List Token} {d : ℕ} → p.IsPlainChunk (ahead S) t s r d → length s ≤ n → g.IsChunk S t s r d
    chunk-same (p.IsPlainChunk.plain_top_chunk h1 h2) k = let q1 = top-same h1 k (Begins.begins h2) in g.IsChunk.top_chunk q1 h2
    chunk-same (p.IsPlainChunk.plain_package_clause h1 h2 h3) k = g.IsChunk.package_clause h1 h2 h3
    chunk-same (p.IsPlainChunk.plain_import_decl h1 h3 h4) k = let k1 = shorter k (After-word h1) in let q3 = import_spec-same h3 k1 in make-import_decl S n F h1 q3 h4
    chunk-same (p.IsPlainChunk.plain_import_group h1 h2 h3 h4 h5) k =
        let k1 = shorter k (After-word h1) in let k2 = shorter k1 (After-mark h2) in let q3 = import_specs-same h3 k2 (Marked.marked h4) in g.IsChunk.import_group h1 h2 q3 h4 h5

    pub suffixes-better : {xs : List Suffix} {s r : List Token} {d : ℕ} → p.ArePlainSuffixes (ahead S) xs s r d → length s < n → Suffixes-better S n F s xs r d
    suffixes-better (p.ArePlainSuffixes.plain_no_suffixes {r}) k = stop-by S n F (some-suffixes S n F n r (omega (arith, k)) k).3
    suffixes-better (p.ArePlainSuffixes.plain_more_suffixes h1 h2) k =
        let q = suffix-same h1 (omega (arith, k)) in
        suffixes-join S n F q (suffixes-better h2 (omega (arith, k, length-After (After-suffix q))))

    pub primary-better : {h : Bool} {t : Expr} {s r : List Token} {d : ℕ} → p.IsPlainPrimary (ahead S) h t s r d → length s ≤ n → Primary-better S n F h s t r d
    primary-better (p.IsPlainPrimary.plain_primary h1 h2) k =
        let q = head-same h1 k in
        primary-join S n F q (suffixes-better h2 (omega (arith, k, length-After (After-head q))))

    pub unary-better : {h w : Bool} {t : Expr} {s r : List Token} {d : ℕ} → p.IsPlainUnary (ahead S) h w t s r d → length s ≤ n → Unary-better S n F h w s t r d
    unary-better (p.IsPlainUnary.plain_bare_primary h1) k = bare-join S n F (primary-better h1 k)
    unary-better (p.IsPlainUnary.plain_signed h1 h2) k = signed-join S n F h1 (unary-better h2 (shorter k (After-front h1)))
    unary-better (p.IsPlainUnary.plain_starred h1 h2) k = starred-join S n F h1 (unary-better h2 (shorter k (After-mark h1)))
    unary-better (p.IsPlainUnary.plain_receiver h1 h2 h3) k = Better.same (g.IsUnary.receiver h1 h2 (received-same h3 (shorter k (After-mark h1))))
    unary-better (p.IsPlainUnary.plain_receive_first h1 h2 h3 h4) k = first-join S n F h1 h2 h3 (unary-better h4 (shorter k (After-mark h1)))
    unary-better (p.IsPlainUnary.plain_receive h1 h2 h3) k = receive-join S n F h1 h2 (unary-better h3 (shorter k (After-mark h1)))

    pub expr-better : {m : ℕ} {h w : Bool} {t : Expr} {s r : List Token} {d : ℕ} → p.IsPlainExpr (ahead S) m h w t s r d → length s ≤ n → Expr-better S n F m h w s t r d
    expr-better (p.IsPlainExpr.plain_lone h1) k = lone-join S n F (unary-better h1 k)
    expr-better (p.IsPlainExpr.plain_level h1 h2) k = level-join S n F k (expr-better h1 k) h2 (λ l. operands-better h2 l)

    pub operand-better : {m : ℕ} {h : Bool} {x : Token × Expr} {s r : List Token} {d : ℕ} → p.IsPlainOperand (ahead S) m h x s r d → length s ≤ n → Operand-better S n F m h s x r d
    operand-better (p.IsPlainOperand.plain_operand h1 h2) k = operand-join S n F h1 (expr-better h2 (shorter k (After-front h1)))

    pub operands-better : {m : ℕ} {h : Bool} {xs : List (Token × Expr)} {s r : List Token} {d : ℕ} → p.ArePlainOperands (ahead S) m h xs s r d → length s < n → Operands-better S n F m h s xs r d
    operands-better (p.ArePlainOperands.plain_no_operands {m} {h} {r}) k = stop-operands-by S n F (some-operands S n F n m h r (omega (arith, k)) k).3
    operands-better (p.ArePlainOperands.plain_more_operands h1 h2) k = operands-join S n F (omega (arith, k)) (operand-better h1 (omega (arith, k))) h2 (λ l. operands-better h2 l)

  -- ---- lists of statements: any that the plain grammar has is a front of the one that stands

  stmt-one : {t u : Stmt} {s r v : List Token} {c d : ℕ} → length s ≤ n → g.IsStmt S t s r c → g.IsStmt S u s v d → (t ≡ u) × (r ≡ v)
  stmt-one {t} {u} {s} {r} {v} {c} {d} k x y =
      let both = some_is (sym ((exact S n F s k).stmt t r c x) ∙ (exact S n F s k).stmt u v d y) in
      (ap (λ f. f.tree) both, ap (λ f. f.rest) both)

  start-more : {t u : Stmt} {us ts : List Stmt} {r v : List Token} → t ≡ u → IsStart us ts r v → IsStart (t ∷ us) (u ∷ ts) r v
  start-more e h = record { rest = h.rest; same = rw (e, h.same) refl; longer = h.longer }

  start-same : (v : List Token) {t u : Stmt} {r : List Token} → t ≡ u → v ≡ r → IsStart (t ∷ []) (u ∷ []) r v
  start-same v e h = record { rest = []; same = rw e refl; longer = rw h (omega arith) }

  -- behind a statement and a semicolon any other list goes on at the same place
  more-starts : (v : List Token) {x : Token} {t : Stmt} {us ts : List Stmt} {s r s1 s2 : List Token} {c d : ℕ} → length s ≤ n → g.IsStmt S t s s1 c → IsFront is_semi x s1 s2 → ((ws : List Stmt) (b : ℕ) → g.AreStmts S ws s2 r b → IsStart us ws r v) → g.AreStmts S ts s r d → IsStart (t ∷ us) ts r v
  more-starts v k q h f (g.AreStmts.last_stmt x1 x2) = absurd (not-mark refl x2 (subst (λ z. Begins is_semi z) (stmt-one k q x1).1 (Begins.begins h)))
  more-starts v {x = x} {r = r} {s2 = s2} k q h f (g.AreStmts.more_stmts {ts = ts} {d2 = d2} x1 x2 x3) =
      start-more (stmt-one k q x1).0 (f ts d2 (subst (λ z. g.AreStmts S ts z r d2) (front-one x2 (subst (λ z. IsFront is_semi x z s2) (stmt-one k q x1).1 h)) x3))
  more-starts v k q h f (g.AreStmts.empty_stmt x1 x2) = absurd (apart end-not-no (stmt-begins S q) (at-front semi-in-stmt x1))
  more-starts v k q h f (g.AreStmts.no_stmts x1) = absurd (apart list-end-not-no (stmt-begins S q) (Begins.begins x1))

  empty-starts : (v : List Token) {x : Token} {us ts : List Stmt} {s r s1 : List Token} {d : ℕ} → IsFront is_semi x s s1 → ((ws : List Stmt) (b : ℕ) → g.AreStmts S ws s1 r b → IsStart us ws r v) → g.AreStmts S ts s r d → IsStart (st.Simple si.Empty ∷ us) ts r v
  empty-starts v h f (g.AreStmts.last_stmt x1 x2) = absurd (apart end-not-no (stmt-begins S x1) (at-front semi-in-stmt h))
  empty-starts v h f (g.AreStmts.more_stmts x1 x2 x3) = absurd (apart end-not-no (stmt-begins S x1) (at-front semi-in-stmt h))
  empty-starts v {r = r} h f (g.AreStmts.empty_stmt {ts = ts} {d = d} x1 x2) = start-more refl (f ts d (subst (λ z. g.AreStmts S ts z r d) (front-one x1 h) x2))
  empty-starts v h f (g.AreStmts.no_stmts x1) = absurd (apart semi-not-list (Begins.begins h) (Begins.begins x1))

  last-starts : {p : Span} {t : Stmt} {ts : List Stmt} {s r v w : List Token} {c d : ℕ} → length s ≤ n → g.IsStmt S t s v c → IsMark mark.RightBrace p v w → g.AreStmts S ts s r d → IsStart (t ∷ []) ts r v
  last-starts {v = v} k q h (g.AreStmts.last_stmt x1 x2) = start-same v (stmt-one k q x1).0 (stmt-one k q x1).1
  last-starts {p = p} {w = w} k q h (g.AreStmts.more_stmts x1 x2 x3) = absurd (not-mark refl (subst (λ z. IsMark mark.RightBrace p z w) (stmt-one k q x1).1 h) (Begins.begins x2))
  last-starts k q h (g.AreStmts.empty_stmt x1 x2) = absurd (apart end-not-no (stmt-begins S q) (at-front semi-in-stmt x1))
  last-starts k q h (g.AreStmts.no_stmts x1) = absurd (apart list-end-not-no (stmt-begins S q) (Begins.begins x1))

  pub stmts-start : {us : List Stmt} {s v : List Token} {d : ℕ} → p.ArePlainStmts (ahead S) us s v d → length s ≤ n → (ts : List Stmt) (r : List Token) (c : ℕ) → g.AreStmts S ts s r c → IsStart us ts r v
  stmts-start (p.ArePlainStmts.plain_last_stmt h1 h2) k ts r c x = last-starts k (stmt-same h1 k (at-mark refl h2)) h2 x
  stmts-start {v = v} (p.ArePlainStmts.plain_more_stmts h1 h2 h3) k ts r c x =
      let q = stmt-same h1 k (at-front semi-in-stmt h2) in
      more-starts v k q h2 (λ ws b y. stmts-start h3 (shorter (shorter k (After-stmt q)) (After-front h2)) ws r b y) x
  stmts-start {v = v} (p.ArePlainStmts.plain_empty_stmt h1 h2) k ts r c x = empty-starts v h1 (λ ws b y. stmts-start h2 (shorter k (After-front h1)) ws r b y) x
  stmts-start p.ArePlainStmts.plain_no_stmts k ts r c x = record { rest = ts; same = refl; longer = length-Ends (Ends-stmts x) }
