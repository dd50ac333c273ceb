-- What stands at a place, from what stands at later ones.
use Rattle.std.proofs.Common.{◌≡◌, ℕ, Bool, List, [], ◌∷◌, ap, ◌∙◌, Some, None}
use Rattle.gs_syntax.specs.declared.token.Token.{Token}
use Rattle.gs_grammar.specs.Parts.{found}
use Rattle.gs_grammar.specs.Steps.{idents_step, type_name_step, type_step, unnamed_step, named_params_step, params_step, signature_step, tag_step, field_step, fields_step, member_step, members_step, literal_step, selected_step, block_step, received_step, head_step, primary_step, unary_step, expr_step, bound_step, args_step, suffix_step, suffixes_step, operand_step, operands_step, value_step, element_step, elements_step, exprs_step}
use Rattle.gs_grammar.specs.Reference.{simple_step, const_spec_step, const_specs_step, type_spec_step, type_specs_step, var_spec_step, var_specs_step, decl_step, values_step, target_step, arm_step, arms_step, tag_value_step, guard_step, clauses_step, types_step, type_clauses_step, comm_step, comm_clauses_step, header_step, condition_step, post_step, range_left_step, stmt_step, stmts_step, import_spec_step, import_specs_step, body_step, top_step, chunk_step}
use Rattle.gs_grammar.proofs.Rows.{row-nil, idents-cons, type_name-cons, type-cons, unnamed-cons, named_params-cons, params-cons, signature-cons, tag-cons, field-cons, fields-cons, member-cons, members-cons, literal-cons, selected-cons, block-cons, received-cons, head-cons, primary-cons, unary-cons, expr-cons, bound-cons, args-cons, suffix-cons, suffixes-cons, operand-cons, operands-cons, value-cons, element-cons, elements-cons, exprs-cons, simple-cons, const_spec-cons, const_specs-cons, type_spec-cons, type_specs-cons, var_spec-cons, var_specs-cons, decl-cons, values-cons, target-cons, arm-cons, arms-cons, tag_value-cons, guard-cons, clauses-cons, types-cons, type_clauses-cons, comm-cons, comm_clauses-cons, header-cons, condition-cons, post-cons, range_left-cons, stmt-cons, stmts-cons, import_spec-cons, import_specs-cons, body-cons, top-cons, chunk-cons}
use Rattle.gs_places.specs.Places.{stands}
use Rattle.gs_places.proofs.SameOne.{same-idents_step, same-type_name_step, same-type_step, same-unnamed_step, same-named_params_step, same-params_step, same-signature_step, same-tag_step, same-field_step, same-fields_step, same-member_step, same-members_step, same-literal_step, same-selected_step, same-block_step, same-received_step}
use Rattle.gs_places.proofs.SameTwo.{same-head_step, same-primary_step, same-unary_step, same-expr_step, same-bound_step, same-args_step, same-suffix_step, same-suffixes_step, same-operand_step, same-operands_step, same-value_step, same-element_step, same-elements_step, same-exprs_step}
use Rattle.gs_places.proofs.SameThree.{same-simple_step, same-const_spec_step, same-const_specs_step, same-type_spec_step, same-type_specs_step, same-var_spec_step, same-var_specs_step, same-decl_step, same-values_step, same-target_step, same-arm_step, same-arms_step, same-tag_value_step, same-guard_step, same-clauses_step, same-types_step}
use Rattle.gs_places.proofs.SameFour.{same-type_clauses_step, same-comm_step, same-comm_clauses_step, same-header_step, same-condition_step, same-post_step, same-range_left_step, same-stmt_step, same-stmts_step, same-import_spec_step, same-import_specs_step, same-body_step, same-top_step, same-chunk_step}

pub at_idents : (x : Token) (s : List Token) → (stands (x ∷ s)).idents ≡ idents_step s stands x
unfolding stands
at_idents x s = idents-cons x s ∙ same-idents_step x s

pub end_idents : (stands []).idents ≡ None
unfolding stands
end_idents = ap (λ z. z.idents) row-nil

pub at_type_name : (x : Token) (s : List Token) → (stands (x ∷ s)).type_name ≡ type_name_step s stands x
unfolding stands
at_type_name x s = type_name-cons x s ∙ same-type_name_step x s

pub end_type_name : (stands []).type_name ≡ None
unfolding stands
end_type_name = ap (λ z. z.type_name) row-nil

pub at_type : (x : Token) (s : List Token) → (stands (x ∷ s)).type ≡ type_step s stands x
unfolding stands
at_type x s = type-cons x s ∙ same-type_step x s

pub end_type : (stands []).type ≡ None
unfolding stands
end_type = ap (λ z. z.type) row-nil

pub at_unnamed : (v : Bool) (x : Token) (s : List Token) → (stands (x ∷ s)).unnamed v ≡ unnamed_step s stands v x
unfolding stands
at_unnamed v x s = unnamed-cons v x s ∙ same-unnamed_step v x s

pub end_unnamed : (v : Bool) → (stands []).unnamed v ≡ None
unfolding stands
end_unnamed v = ap (λ z. z.unnamed v) row-nil

pub at_named_params : (v : Bool) (x : Token) (s : List Token) → (stands (x ∷ s)).named_params v ≡ named_params_step s stands v x
unfolding stands
at_named_params v x s = named_params-cons v x s ∙ same-named_params_step v x s

pub end_named_params : (v : Bool) → (stands []).named_params v ≡ None
unfolding stands
end_named_params v = ap (λ z. z.named_params v) row-nil

pub at_params : (v : Bool) (x : Token) (s : List Token) → (stands (x ∷ s)).params v ≡ params_step s stands v x
unfolding stands
at_params v x s = params-cons v x s ∙ same-params_step v x s

pub end_params : (v : Bool) → (stands []).params v ≡ None
unfolding stands
end_params v = ap (λ z. z.params v) row-nil

pub at_signature : (x : Token) (s : List Token) → (stands (x ∷ s)).signature ≡ signature_step s stands x
unfolding stands
at_signature x s = signature-cons x s ∙ same-signature_step x s

pub end_signature : (stands []).signature ≡ None
unfolding stands
end_signature = ap (λ z. z.signature) row-nil

pub at_tag : (x : Token) (s : List Token) → (stands (x ∷ s)).tag ≡ tag_step s stands x
unfolding stands
at_tag x s = tag-cons x s ∙ same-tag_step x s

pub end_tag : (stands []).tag ≡ None
unfolding stands
end_tag = ap (λ z. z.tag) row-nil

pub at_field : (x : Token) (s : List Token) → (stands (x ∷ s)).field ≡ field_step s stands x
unfolding stands
at_field x s = field-cons x s ∙ same-field_step x s

pub end_field : (stands []).field ≡ None
unfolding stands
end_field = ap (λ z. z.field) row-nil

pub at_fields : (x : Token) (s : List Token) → (stands (x ∷ s)).fields ≡ fields_step s stands x
unfolding stands
at_fields x s = fields-cons x s ∙ same-fields_step x s

pub end_fields : (stands []).fields ≡ None
unfolding stands
end_fields = ap (λ z. z.fields) row-nil

pub at_member : (x : Token) (s : List Token) → (stands (x ∷ s)).member ≡ member_step s stands x
unfolding stands
at_member x s = member-cons x s ∙ same-member_step x s

pub end_member : (stands []).member ≡ None
unfolding stands
end_member = ap (λ z. z.member) row-nil

pub at_members : (x : Token) (s : List Token) → (stands (x ∷ s)).members ≡ members_step s stands x
unfolding stands
at_members x s = members-cons x s ∙ same-members_step x s

pub end_members : (stands []).members ≡ None
unfolding stands
end_members = ap (λ z. z.members) row-nil

pub at_literal : (x : Token) (s : List Token) → (stands (x ∷ s)).literal ≡ literal_step s stands x
unfolding stands
at_literal x s = literal-cons x s ∙ same-literal_step x s

pub end_literal : (stands []).literal ≡ None
unfolding stands
end_literal = ap (λ z. z.literal) row-nil

pub at_selected : (x : Token) (s : List Token) → (stands (x ∷ s)).selected ≡ selected_step s stands x
unfolding stands
at_selected x s = selected-cons x s ∙ same-selected_step x s

pub end_selected : (stands []).selected ≡ None
unfolding stands
end_selected = ap (λ z. z.selected) row-nil

pub at_block : (x : Token) (s : List Token) → (stands (x ∷ s)).block ≡ block_step s stands x
unfolding stands
at_block x s = block-cons x s ∙ same-block_step x s

pub end_block : (stands []).block ≡ None
unfolding stands
end_block = ap (λ z. z.block) row-nil

pub at_received : (x : Token) (s : List Token) → (stands (x ∷ s)).received ≡ received_step s stands x
unfolding stands
at_received x s = received-cons x s ∙ same-received_step x s

pub end_received : (stands []).received ≡ None
unfolding stands
end_received = ap (λ z. z.received) row-nil

pub at_head : (h : Bool) (x : Token) (s : List Token) → (stands (x ∷ s)).head h ≡ head_step s stands h x
unfolding stands
at_head h x s = head-cons h x s ∙ same-head_step h x s

pub end_head : (h : Bool) → (stands []).head h ≡ None
unfolding stands
end_head h = ap (λ z. z.head h) row-nil

pub at_primary : (h : Bool) (x : Token) (s : List Token) → (stands (x ∷ s)).primary h ≡ primary_step s stands h x
unfolding stands
at_primary h x s = primary-cons h x s ∙ same-primary_step h x s

pub end_primary : (h : Bool) → (stands []).primary h ≡ None
unfolding stands
end_primary h = ap (λ z. z.primary h) row-nil

pub at_unary : (h : Bool) (w : Bool) (x : Token) (s : List Token) → (stands (x ∷ s)).unary h w ≡ unary_step s stands h w x
unfolding stands
at_unary h w x s = unary-cons h w x s ∙ same-unary_step h w x s

pub end_unary : (h : Bool) (w : Bool) → (stands []).unary h w ≡ None
unfolding stands
end_unary h w = ap (λ z. z.unary h w) row-nil

pub at_expr : (m : ℕ) (h : Bool) (w : Bool) (x : Token) (s : List Token) → (stands (x ∷ s)).expr m h w ≡ expr_step s stands m h w x
unfolding stands
at_expr m h w x s = expr-cons m h w x s ∙ same-expr_step m h w x s

pub end_expr : (m : ℕ) (h : Bool) (w : Bool) → (stands []).expr m h w ≡ None
unfolding stands
end_expr m h w = ap (λ z. z.expr m h w) row-nil

pub at_bound : (x : Token) (s : List Token) → (stands (x ∷ s)).bound ≡ bound_step s stands x
unfolding stands
at_bound x s = bound-cons x s ∙ same-bound_step x s

pub end_bound : (stands []).bound ≡ None
unfolding stands
end_bound = ap (λ z. z.bound) row-nil

pub at_args : (x : Token) (s : List Token) → (stands (x ∷ s)).args ≡ args_step s stands x
unfolding stands
at_args x s = args-cons x s ∙ same-args_step x s

pub end_args : (stands []).args ≡ None
unfolding stands
end_args = ap (λ z. z.args) row-nil

pub at_suffix : (x : Token) (s : List Token) → (stands (x ∷ s)).suffix ≡ suffix_step s stands x
unfolding stands
at_suffix x s = suffix-cons x s ∙ same-suffix_step x s

pub end_suffix : (stands []).suffix ≡ None
unfolding stands
end_suffix = ap (λ z. z.suffix) row-nil

pub at_suffixes : (x : Token) (s : List Token) → (stands (x ∷ s)).suffixes ≡ suffixes_step s stands x
unfolding stands
at_suffixes x s = suffixes-cons x s ∙ same-suffixes_step x s

pub end_suffixes : (stands []).suffixes ≡ Some (found [] [] 0)
unfolding stands
end_suffixes = ap (λ z. z.suffixes) row-nil

pub at_operand : (m : ℕ) (h : Bool) (x : Token) (s : List Token) → (stands (x ∷ s)).operand m h ≡ operand_step s stands m h x
unfolding stands
at_operand m h x s = operand-cons m h x s ∙ same-operand_step m h x s

pub end_operand : (m : ℕ) (h : Bool) → (stands []).operand m h ≡ None
unfolding stands
end_operand m h = ap (λ z. z.operand m h) row-nil

pub at_operands : (m : ℕ) (h : Bool) (x : Token) (s : List Token) → (stands (x ∷ s)).operands m h ≡ operands_step s stands m h x
unfolding stands
at_operands m h x s = operands-cons m h x s ∙ same-operands_step m h x s

pub end_operands : (m : ℕ) (h : Bool) → (stands []).operands m h ≡ Some (found [] [] 0)
unfolding stands
end_operands m h = ap (λ z. z.operands m h) row-nil

pub at_value : (x : Token) (s : List Token) → (stands (x ∷ s)).value ≡ value_step s stands x
unfolding stands
at_value x s = value-cons x s ∙ same-value_step x s

pub end_value : (stands []).value ≡ None
unfolding stands
end_value = ap (λ z. z.value) row-nil

pub at_element : (x : Token) (s : List Token) → (stands (x ∷ s)).element ≡ element_step s stands x
unfolding stands
at_element x s = element-cons x s ∙ same-element_step x s

pub end_element : (stands []).element ≡ None
unfolding stands
end_element = ap (λ z. z.element) row-nil

pub at_elements : (x : Token) (s : List Token) → (stands (x ∷ s)).elements ≡ elements_step s stands x
unfolding stands
at_elements x s = elements-cons x s ∙ same-elements_step x s

pub end_elements : (stands []).elements ≡ None
unfolding stands
end_elements = ap (λ z. z.elements) row-nil

pub at_exprs : (h : Bool) (x : Token) (s : List Token) → (stands (x ∷ s)).exprs h ≡ exprs_step s stands h x
unfolding stands
at_exprs h x s = exprs-cons h x s ∙ same-exprs_step h x s

pub end_exprs : (h : Bool) → (stands []).exprs h ≡ None
unfolding stands
end_exprs h = ap (λ z. z.exprs h) row-nil

pub at_simple : (h : Bool) (x : Token) (s : List Token) → (stands (x ∷ s)).simple h ≡ simple_step s stands h x
unfolding stands
at_simple h x s = simple-cons h x s ∙ same-simple_step h x s

pub end_simple : (h : Bool) → (stands []).simple h ≡ None
unfolding stands
end_simple h = ap (λ z. z.simple h) row-nil

pub at_const_spec : (i : Bool) (x : Token) (s : List Token) → (stands (x ∷ s)).const_spec i ≡ const_spec_step s stands i x
unfolding stands
at_const_spec i x s = const_spec-cons i x s ∙ same-const_spec_step i x s

pub end_const_spec : (i : Bool) → (stands []).const_spec i ≡ None
unfolding stands
end_const_spec i = ap (λ z. z.const_spec i) row-nil

pub at_const_specs : (i : Bool) (x : Token) (s : List Token) → (stands (x ∷ s)).const_specs i ≡ const_specs_step s stands i x
unfolding stands
at_const_specs i x s = const_specs-cons i x s ∙ same-const_specs_step i x s

pub end_const_specs : (i : Bool) → (stands []).const_specs i ≡ None
unfolding stands
end_const_specs i = ap (λ z. z.const_specs i) row-nil

pub at_type_spec : (x : Token) (s : List Token) → (stands (x ∷ s)).type_spec ≡ type_spec_step s stands x
unfolding stands
at_type_spec x s = type_spec-cons x s ∙ same-type_spec_step x s

pub end_type_spec : (stands []).type_spec ≡ None
unfolding stands
end_type_spec = ap (λ z. z.type_spec) row-nil

pub at_type_specs : (x : Token) (s : List Token) → (stands (x ∷ s)).type_specs ≡ type_specs_step s stands x
unfolding stands
at_type_specs x s = type_specs-cons x s ∙ same-type_specs_step x s

pub end_type_specs : (stands []).type_specs ≡ None
unfolding stands
end_type_specs = ap (λ z. z.type_specs) row-nil

pub at_var_spec : (x : Token) (s : List Token) → (stands (x ∷ s)).var_spec ≡ var_spec_step s stands x
unfolding stands
at_var_spec x s = var_spec-cons x s ∙ same-var_spec_step x s

pub end_var_spec : (stands []).var_spec ≡ None
unfolding stands
end_var_spec = ap (λ z. z.var_spec) row-nil

pub at_var_specs : (x : Token) (s : List Token) → (stands (x ∷ s)).var_specs ≡ var_specs_step s stands x
unfolding stands
at_var_specs x s = var_specs-cons x s ∙ same-var_specs_step x s

pub end_var_specs : (stands []).var_specs ≡ None
unfolding stands
end_var_specs = ap (λ z. z.var_specs) row-nil

pub at_decl : (x : Token) (s : List Token) → (stands (x ∷ s)).decl ≡ decl_step s stands x
unfolding stands
at_decl x s = decl-cons x s ∙ same-decl_step x s

pub end_decl : (stands []).decl ≡ None
unfolding stands
end_decl = ap (λ z. z.decl) row-nil

pub at_values : (x : Token) (s : List Token) → (stands (x ∷ s)).values ≡ values_step s stands x
unfolding stands
at_values x s = values-cons x s ∙ same-values_step x s

pub end_values : (stands []).values ≡ None
unfolding stands
end_values = ap (λ z. z.values) row-nil

pub at_target : (x : Token) (s : List Token) → (stands (x ∷ s)).target ≡ target_step s stands x
unfolding stands
at_target x s = target-cons x s ∙ same-target_step x s

pub end_target : (stands []).target ≡ None
unfolding stands
end_target = ap (λ z. z.target) row-nil

pub at_arm : (x : Token) (s : List Token) → (stands (x ∷ s)).arm ≡ arm_step s stands x
unfolding stands
at_arm x s = arm-cons x s ∙ same-arm_step x s

pub end_arm : (stands []).arm ≡ None
unfolding stands
end_arm = ap (λ z. z.arm) row-nil

pub at_arms : (x : Token) (s : List Token) → (stands (x ∷ s)).arms ≡ arms_step s stands x
unfolding stands
at_arms x s = arms-cons x s ∙ same-arms_step x s

pub end_arms : (stands []).arms ≡ None
unfolding stands
end_arms = ap (λ z. z.arms) row-nil

pub at_tag_value : (x : Token) (s : List Token) → (stands (x ∷ s)).tag_value ≡ tag_value_step s stands x
unfolding stands
at_tag_value x s = tag_value-cons x s ∙ same-tag_value_step x s

pub end_tag_value : (stands []).tag_value ≡ None
unfolding stands
end_tag_value = ap (λ z. z.tag_value) row-nil

pub at_guard : (x : Token) (s : List Token) → (stands (x ∷ s)).guard ≡ guard_step s stands x
unfolding stands
at_guard x s = guard-cons x s ∙ same-guard_step x s

pub end_guard : (stands []).guard ≡ None
unfolding stands
end_guard = ap (λ z. z.guard) row-nil

pub at_clauses : (x : Token) (s : List Token) → (stands (x ∷ s)).clauses ≡ clauses_step s stands x
unfolding stands
at_clauses x s = clauses-cons x s ∙ same-clauses_step x s

pub end_clauses : (stands []).clauses ≡ None
unfolding stands
end_clauses = ap (λ z. z.clauses) row-nil

pub at_types : (x : Token) (s : List Token) → (stands (x ∷ s)).types ≡ types_step s stands x
unfolding stands
at_types x s = types-cons x s ∙ same-types_step x s

pub end_types : (stands []).types ≡ None
unfolding stands
end_types = ap (λ z. z.types) row-nil

pub at_type_clauses : (x : Token) (s : List Token) → (stands (x ∷ s)).type_clauses ≡ type_clauses_step s stands x
unfolding stands
at_type_clauses x s = type_clauses-cons x s ∙ same-type_clauses_step x s

pub end_type_clauses : (stands []).type_clauses ≡ None
unfolding stands
end_type_clauses = ap (λ z. z.type_clauses) row-nil

pub at_comm : (x : Token) (s : List Token) → (stands (x ∷ s)).comm ≡ comm_step s stands x
unfolding stands
at_comm x s = comm-cons x s ∙ same-comm_step x s

pub end_comm : (stands []).comm ≡ None
unfolding stands
end_comm = ap (λ z. z.comm) row-nil

pub at_comm_clauses : (x : Token) (s : List Token) → (stands (x ∷ s)).comm_clauses ≡ comm_clauses_step s stands x
unfolding stands
at_comm_clauses x s = comm_clauses-cons x s ∙ same-comm_clauses_step x s

pub end_comm_clauses : (stands []).comm_clauses ≡ None
unfolding stands
end_comm_clauses = ap (λ z. z.comm_clauses) row-nil

pub at_header : (x : Token) (s : List Token) → (stands (x ∷ s)).header ≡ header_step s stands x
unfolding stands
at_header x s = header-cons x s ∙ same-header_step x s

pub end_header : (stands []).header ≡ None
unfolding stands
end_header = ap (λ z. z.header) row-nil

pub at_condition : (x : Token) (s : List Token) → (stands (x ∷ s)).condition ≡ condition_step s stands x
unfolding stands
at_condition x s = condition-cons x s ∙ same-condition_step x s

pub end_condition : (stands []).condition ≡ None
unfolding stands
end_condition = ap (λ z. z.condition) row-nil

pub at_post : (x : Token) (s : List Token) → (stands (x ∷ s)).post ≡ post_step s stands x
unfolding stands
at_post x s = post-cons x s ∙ same-post_step x s

pub end_post : (stands []).post ≡ None
unfolding stands
end_post = ap (λ z. z.post) row-nil

pub at_range_left : (x : Token) (s : List Token) → (stands (x ∷ s)).range_left ≡ range_left_step s stands x
unfolding stands
at_range_left x s = range_left-cons x s ∙ same-range_left_step x s

pub end_range_left : (stands []).range_left ≡ None
unfolding stands
end_range_left = ap (λ z. z.range_left) row-nil

pub at_stmt : (x : Token) (s : List Token) → (stands (x ∷ s)).stmt ≡ stmt_step s stands x
unfolding stands
at_stmt x s = stmt-cons x s ∙ same-stmt_step x s

pub end_stmt : (stands []).stmt ≡ None
unfolding stands
end_stmt = ap (λ z. z.stmt) row-nil

pub at_stmts : (x : Token) (s : List Token) → (stands (x ∷ s)).stmts ≡ stmts_step s stands x
unfolding stands
at_stmts x s = stmts-cons x s ∙ same-stmts_step x s

pub end_stmts : (stands []).stmts ≡ None
unfolding stands
end_stmts = ap (λ z. z.stmts) row-nil

pub at_import_spec : (x : Token) (s : List Token) → (stands (x ∷ s)).import_spec ≡ import_spec_step s stands x
unfolding stands
at_import_spec x s = import_spec-cons x s ∙ same-import_spec_step x s

pub end_import_spec : (stands []).import_spec ≡ None
unfolding stands
end_import_spec = ap (λ z. z.import_spec) row-nil

pub at_import_specs : (x : Token) (s : List Token) → (stands (x ∷ s)).import_specs ≡ import_specs_step s stands x
unfolding stands
at_import_specs x s = import_specs-cons x s ∙ same-import_specs_step x s

pub end_import_specs : (stands []).import_specs ≡ None
unfolding stands
end_import_specs = ap (λ z. z.import_specs) row-nil

pub at_body : (x : Token) (s : List Token) → (stands (x ∷ s)).body ≡ body_step s stands x
unfolding stands
at_body x s = body-cons x s ∙ same-body_step x s

pub end_body : (stands []).body ≡ None
unfolding stands
end_body = ap (λ z. z.body) row-nil

pub at_top : (x : Token) (s : List Token) → (stands (x ∷ s)).top ≡ top_step s stands x
unfolding stands
at_top x s = top-cons x s ∙ same-top_step x s

pub end_top : (stands []).top ≡ None
unfolding stands
end_top = ap (λ z. z.top) row-nil

pub at_chunk : (x : Token) (s : List Token) → (stands (x ∷ s)).chunk ≡ chunk_step s stands x
unfolding stands
at_chunk x s = chunk-cons x s ∙ same-chunk_step x s

pub end_chunk : (stands []).chunk ≡ None
unfolding stands
end_chunk = ap (λ z. z.chunk) row-nil
