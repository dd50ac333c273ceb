-- What the rows have ends within the tokens.
use Rattle.std.proofs.Common.{◌≡◌, ℕ, suc, ◌-◌, Bool, false, List, [], ◌∷◌, length, refl, sym, ◌∙◌, arith, Option, Some, None}
use Rattle.gs_syntax.specs.declared.token.Span.{Span}
use Rattle.gs_syntax.specs.declared.token.Token.{Token}
use Rattle.gs_grammar.specs.declared.trees.Chunk.{Chunk}
use Rattle.gs_grammar.specs.declared.trees.ImportSpec.{ImportSpec}
use Rattle.gs_grammar.specs.declared.trees.Top.{Top}
use Rattle.gs_grammar.specs.declared.trees.Decl.{Decl}
use Rattle.gs_grammar.specs.declared.trees.ConstSpec.{ConstSpec}
use Rattle.gs_grammar.specs.declared.trees.TypeSpec.{TypeSpec}
use Rattle.gs_grammar.specs.declared.trees.VarSpec.{VarSpec}
use Rattle.gs_grammar.specs.declared.trees.TypeExpr.{TypeExpr}
use Rattle.gs_grammar.specs.declared.trees.Signature.{Signature}
use Rattle.gs_grammar.specs.declared.trees.Parameters.{Parameters}
use Rattle.gs_grammar.specs.declared.trees.Parameter.{Parameter}
use Rattle.gs_grammar.specs.declared.trees.Field.{Field}
use Rattle.gs_grammar.specs.declared.trees.Member.{Member}
use Rattle.gs_grammar.specs.declared.trees.Expr.{Expr}
use Rattle.gs_grammar.specs.declared.trees.Suffix.{Suffix}
use Rattle.gs_grammar.specs.declared.trees.LiteralValue.{LiteralValue}
use Rattle.gs_grammar.specs.declared.trees.Element.{Element}
use Rattle.gs_grammar.specs.declared.trees.ElementValue.{ElementValue}
use Rattle.gs_grammar.specs.declared.trees.Block.{Block}
use Rattle.gs_grammar.specs.declared.trees.Stmt.{Stmt}
use Rattle.gs_grammar.specs.declared.trees.Simple.{Simple}
use Rattle.gs_grammar.specs.declared.trees.Arm.{Arm}
use Rattle.gs_grammar.specs.declared.trees.Clause.{Clause}
use Rattle.gs_grammar.specs.declared.trees.TypeClause.{TypeClause}
use Rattle.gs_grammar.specs.declared.trees.CommClause.{CommClause}
use Rattle.gs_grammar.specs.declared.trees.Comm.{Comm}
use Rattle.gs_grammar.specs.declared.trees.RangeLeft.{RangeLeft}
use Rattle.gs_grammar.specs.Grammar.{StandsBelow}
use Rattle.gs_grammar.specs.Parts.{Found}
use Rattle.gs_grammar.specs.Reference.{row, rows}
use Rattle.gs_grammar.proofs.Common.{Ends, here, later, After, to_ends, length-Ends}
use Rattle.gs_grammar.proofs.Afters.{After-idents, After-type_name, After-type, After-unnamed, After-named_params, After-params, After-signature, Ends-tag, After-field, Ends-fields, After-member, Ends-members, After-literal, After-selected, After-block, After-received, After-head, After-primary, After-unary, After-expr, Ends-bound, Ends-args, After-suffix, Ends-suffixes, After-operand, Ends-operands, After-value, After-element, Ends-elements, After-exprs, After-simple, After-const_spec, Ends-const_specs, After-type_spec, Ends-type_specs, After-var_spec, Ends-var_specs, After-decl, Ends-values, Ends-target, After-arm, After-arms, Ends-tag_value, After-guard, Ends-clauses, After-types, Ends-type_clauses, After-comm, Ends-comm_clauses, After-header, Ends-condition, Ends-post, After-range_left, After-stmt, Ends-stmts, After-import_spec, Ends-import_specs, Ends-body, After-top, After-chunk}
use Rattle.gs_grammar.specs.Steps.{expr_step}
use Rattle.gs_grammar.proofs.Rows.{expr-cons, unary-cons}
use Rattle.gs_grammar.proofs.Sound.{sound}
use Rattle.gs_grammar.proofs.Fits.{Sound}
use Rattle.gs_grammar.proofs.Whole.{fits}
use Rattle.gs_places.specs.Places.{stands, spot, last, IsWithin}

pub last-Ends : {s r : List Token} → Ends s r → last (length r) s ≡ r
last-Ends {s} here = let none : length s - length s ≡ 0 = omega arith in rw none refl
last-Ends {r = r} (later {x} {s} e) = let more : suc (length s) - length r ≡ suc (length s - length r) = omega (arith, length-Ends e) in rw more (last-Ends e)

pub is_within : {A : Type 0} (s : List Token) (o : Option (Found A)) → ((f : Found A) → o ≡ Some f → Ends s f.rest) → IsWithin s (spot o)
is_within s None h = tt
is_within s (Some f) h = let e = h f refl in (length-Ends e, last-Ends e)

below : (s : List Token) → Sound (StandsBelow (suc (length s))) (suc (length s)) s
below s = sound (StandsBelow (suc (length s))) (suc (length s)) (fits (suc (length s))) s (omega arith)

pub after_idents : (s : List Token) (f : Found (List Token)) → (row s).idents ≡ Some f → After s f.rest
after_idents s f e = After-idents ((below s).idents f e)

pub ends_idents : (s : List Token) (f : Found (List Token)) → (row s).idents ≡ Some f → Ends s f.rest
ends_idents s f e = to_ends (after_idents s f e)

pub within_idents : (s : List Token) → IsWithin s (spot ((stands s).idents))
unfolding stands
within_idents s = is_within s _ (ends_idents s)

pub after_type_name : (s : List Token) (f : Found TypeExpr) → (row s).type_name ≡ Some f → After s f.rest
after_type_name s f e = After-type_name ((below s).type_name f e)

pub ends_type_name : (s : List Token) (f : Found TypeExpr) → (row s).type_name ≡ Some f → Ends s f.rest
ends_type_name s f e = to_ends (after_type_name s f e)

pub within_type_name : (s : List Token) → IsWithin s (spot ((stands s).type_name))
unfolding stands
within_type_name s = is_within s _ (ends_type_name s)

pub after_type : (s : List Token) (f : Found TypeExpr) → (row s).type ≡ Some f → After s f.rest
after_type s f e = After-type ((below s).type f e)

pub ends_type : (s : List Token) (f : Found TypeExpr) → (row s).type ≡ Some f → Ends s f.rest
ends_type s f e = to_ends (after_type s f e)

pub within_type : (s : List Token) → IsWithin s (spot ((stands s).type))
unfolding stands
within_type s = is_within s _ (ends_type s)

pub after_unnamed : (v : Bool) (s : List Token) (f : Found (List Parameter)) → (row s).unnamed v ≡ Some f → After s f.rest
after_unnamed v s f e = After-unnamed ((below s).unnamed v f e)

pub ends_unnamed : (v : Bool) (s : List Token) (f : Found (List Parameter)) → (row s).unnamed v ≡ Some f → Ends s f.rest
ends_unnamed v s f e = to_ends (after_unnamed v s f e)

pub within_unnamed : (v : Bool) (s : List Token) → IsWithin s (spot ((stands s).unnamed v))
unfolding stands
within_unnamed v s = is_within s _ (ends_unnamed v s)

pub after_named_params : (v : Bool) (s : List Token) (f : Found (List Parameter)) → (row s).named_params v ≡ Some f → After s f.rest
after_named_params v s f e = After-named_params ((below s).named_params v f e)

pub ends_named_params : (v : Bool) (s : List Token) (f : Found (List Parameter)) → (row s).named_params v ≡ Some f → Ends s f.rest
ends_named_params v s f e = to_ends (after_named_params v s f e)

pub within_named_params : (v : Bool) (s : List Token) → IsWithin s (spot ((stands s).named_params v))
unfolding stands
within_named_params v s = is_within s _ (ends_named_params v s)

pub after_params : (v : Bool) (s : List Token) (f : Found Parameters) → (row s).params v ≡ Some f → After s f.rest
after_params v s f e = After-params ((below s).params v f e)

pub ends_params : (v : Bool) (s : List Token) (f : Found Parameters) → (row s).params v ≡ Some f → Ends s f.rest
ends_params v s f e = to_ends (after_params v s f e)

pub within_params : (v : Bool) (s : List Token) → IsWithin s (spot ((stands s).params v))
unfolding stands
within_params v s = is_within s _ (ends_params v s)

pub after_signature : (s : List Token) (f : Found Signature) → (row s).signature ≡ Some f → After s f.rest
after_signature s f e = After-signature ((below s).signature f e)

pub ends_signature : (s : List Token) (f : Found Signature) → (row s).signature ≡ Some f → Ends s f.rest
ends_signature s f e = to_ends (after_signature s f e)

pub within_signature : (s : List Token) → IsWithin s (spot ((stands s).signature))
unfolding stands
within_signature s = is_within s _ (ends_signature s)

pub ends_tag : (s : List Token) (f : Found (Option Token)) → (row s).tag ≡ Some f → Ends s f.rest
ends_tag s f e = Ends-tag ((below s).tag f e)

pub within_tag : (s : List Token) → IsWithin s (spot ((stands s).tag))
unfolding stands
within_tag s = is_within s _ (ends_tag s)

pub after_field : (s : List Token) (f : Found Field) → (row s).field ≡ Some f → After s f.rest
after_field s f e = After-field ((below s).field f e)

pub ends_field : (s : List Token) (f : Found Field) → (row s).field ≡ Some f → Ends s f.rest
ends_field s f e = to_ends (after_field s f e)

pub within_field : (s : List Token) → IsWithin s (spot ((stands s).field))
unfolding stands
within_field s = is_within s _ (ends_field s)

pub ends_fields : (s : List Token) (f : Found (List Field)) → (row s).fields ≡ Some f → Ends s f.rest
ends_fields s f e = Ends-fields ((below s).fields f e)

pub within_fields : (s : List Token) → IsWithin s (spot ((stands s).fields))
unfolding stands
within_fields s = is_within s _ (ends_fields s)

pub after_member : (s : List Token) (f : Found Member) → (row s).member ≡ Some f → After s f.rest
after_member s f e = After-member ((below s).member f e)

pub ends_member : (s : List Token) (f : Found Member) → (row s).member ≡ Some f → Ends s f.rest
ends_member s f e = to_ends (after_member s f e)

pub within_member : (s : List Token) → IsWithin s (spot ((stands s).member))
unfolding stands
within_member s = is_within s _ (ends_member s)

pub ends_members : (s : List Token) (f : Found (List Member)) → (row s).members ≡ Some f → Ends s f.rest
ends_members s f e = Ends-members ((below s).members f e)

pub within_members : (s : List Token) → IsWithin s (spot ((stands s).members))
unfolding stands
within_members s = is_within s _ (ends_members s)

pub after_literal : (s : List Token) (f : Found LiteralValue) → (row s).literal ≡ Some f → After s f.rest
after_literal s f e = After-literal ((below s).literal f e)

pub ends_literal : (s : List Token) (f : Found LiteralValue) → (row s).literal ≡ Some f → Ends s f.rest
ends_literal s f e = to_ends (after_literal s f e)

pub within_literal : (s : List Token) → IsWithin s (spot ((stands s).literal))
unfolding stands
within_literal s = is_within s _ (ends_literal s)

pub after_selected : (s : List Token) (f : Found (Token × LiteralValue)) → (row s).selected ≡ Some f → After s f.rest
after_selected s f e = After-selected ((below s).selected f e)

pub ends_selected : (s : List Token) (f : Found (Token × LiteralValue)) → (row s).selected ≡ Some f → Ends s f.rest
ends_selected s f e = to_ends (after_selected s f e)

pub within_selected : (s : List Token) → IsWithin s (spot ((stands s).selected))
unfolding stands
within_selected s = is_within s _ (ends_selected s)

pub after_block : (s : List Token) (f : Found Block) → (row s).block ≡ Some f → After s f.rest
after_block s f e = After-block ((below s).block f e)

pub ends_block : (s : List Token) (f : Found Block) → (row s).block ≡ Some f → Ends s f.rest
ends_block s f e = to_ends (after_block s f e)

pub within_block : (s : List Token) → IsWithin s (spot ((stands s).block))
unfolding stands
within_block s = is_within s _ (ends_block s)

pub after_received : (s : List Token) (f : Found TypeExpr) → (row s).received ≡ Some f → After s f.rest
after_received s f e = After-received ((below s).received f e)

pub ends_received : (s : List Token) (f : Found TypeExpr) → (row s).received ≡ Some f → Ends s f.rest
ends_received s f e = to_ends (after_received s f e)

pub within_received : (s : List Token) → IsWithin s (spot ((stands s).received))
unfolding stands
within_received s = is_within s _ (ends_received s)

pub after_head : (h : Bool) (s : List Token) (f : Found Expr) → (row s).head h ≡ Some f → After s f.rest
after_head h s f e = After-head ((below s).head h f e)

pub ends_head : (h : Bool) (s : List Token) (f : Found Expr) → (row s).head h ≡ Some f → Ends s f.rest
ends_head h s f e = to_ends (after_head h s f e)

pub within_head : (h : Bool) (s : List Token) → IsWithin s (spot ((stands s).head h))
unfolding stands
within_head h s = is_within s _ (ends_head h s)

pub after_primary : (h : Bool) (s : List Token) (f : Found Expr) → (row s).primary h ≡ Some f → After s f.rest
after_primary h s f e = After-primary ((below s).primary h f e)

pub ends_primary : (h : Bool) (s : List Token) (f : Found Expr) → (row s).primary h ≡ Some f → Ends s f.rest
ends_primary h s f e = to_ends (after_primary h s f e)

pub within_primary : (h : Bool) (s : List Token) → IsWithin s (spot ((stands s).primary h))
unfolding stands
within_primary h s = is_within s _ (ends_primary h s)

pub after_unary : (h : Bool) (w : Bool) (s : List Token) (f : Found Expr) → (row s).unary h w ≡ Some f → After s f.rest
after_unary h w s f e = After-unary ((below s).unary h w f e)

pub ends_unary : (h : Bool) (w : Bool) (s : List Token) (f : Found Expr) → (row s).unary h w ≡ Some f → Ends s f.rest
ends_unary h w s f e = to_ends (after_unary h w s f e)

pub within_unary : (h : Bool) (w : Bool) (s : List Token) → IsWithin s (spot ((stands s).unary h w))
unfolding stands
within_unary h w s = is_within s _ (ends_unary h w s)

pub after_expr : (m : ℕ) (h : Bool) (w : Bool) (s : List Token) (f : Found Expr) → (row s).expr m h w ≡ Some f → After s f.rest
after_expr m h w s f e = After-expr ((below s).expr m h w f e)

pub ends_expr : (m : ℕ) (h : Bool) (w : Bool) (s : List Token) (f : Found Expr) → (row s).expr m h w ≡ Some f → Ends s f.rest
ends_expr m h w s f e = to_ends (after_expr m h w s f e)

pub within_expr : (m : ℕ) (h : Bool) (w : Bool) (s : List Token) → IsWithin s (spot ((stands s).expr m h w))
unfolding stands
within_expr m h w s = is_within s _ (ends_expr m h w s)

pub ends_bound : (s : List Token) (f : Found (Option Expr)) → (row s).bound ≡ Some f → Ends s f.rest
ends_bound s f e = Ends-bound ((below s).bound f e)

pub within_bound : (s : List Token) → IsWithin s (spot ((stands s).bound))
unfolding stands
within_bound s = is_within s _ (ends_bound s)

pub ends_args : (s : List Token) (f : Found (List Expr × Option Span)) → (row s).args ≡ Some f → Ends s f.rest
ends_args s f e = Ends-args ((below s).args f e)

pub within_args : (s : List Token) → IsWithin s (spot ((stands s).args))
unfolding stands
within_args s = is_within s _ (ends_args s)

pub after_suffix : (s : List Token) (f : Found Suffix) → (row s).suffix ≡ Some f → After s f.rest
after_suffix s f e = After-suffix ((below s).suffix f e)

pub ends_suffix : (s : List Token) (f : Found Suffix) → (row s).suffix ≡ Some f → Ends s f.rest
ends_suffix s f e = to_ends (after_suffix s f e)

pub within_suffix : (s : List Token) → IsWithin s (spot ((stands s).suffix))
unfolding stands
within_suffix s = is_within s _ (ends_suffix s)

pub ends_suffixes : (s : List Token) (f : Found (List Suffix)) → (row s).suffixes ≡ Some f → Ends s f.rest
ends_suffixes s f e = Ends-suffixes ((below s).suffixes (omega arith) f e)

pub within_suffixes : (s : List Token) → IsWithin s (spot ((stands s).suffixes))
unfolding stands
within_suffixes s = is_within s _ (ends_suffixes s)

pub after_operand : (m : ℕ) (h : Bool) (s : List Token) (f : Found (Token × Expr)) → (row s).operand m h ≡ Some f → After s f.rest
after_operand m h s f e = After-operand ((below s).operand m h f e)

pub ends_operand : (m : ℕ) (h : Bool) (s : List Token) (f : Found (Token × Expr)) → (row s).operand m h ≡ Some f → Ends s f.rest
ends_operand m h s f e = to_ends (after_operand m h s f e)

pub within_operand : (m : ℕ) (h : Bool) (s : List Token) → IsWithin s (spot ((stands s).operand m h))
unfolding stands
within_operand m h s = is_within s _ (ends_operand m h s)

pub ends_operands : (m : ℕ) (h : Bool) (s : List Token) (f : Found (List (Token × Expr))) → (row s).operands m h ≡ Some f → Ends s f.rest
ends_operands m h s f e = Ends-operands ((below s).operands m h (omega arith) f e)

pub within_operands : (m : ℕ) (h : Bool) (s : List Token) → IsWithin s (spot ((stands s).operands m h))
unfolding stands
within_operands m h s = is_within s _ (ends_operands m h s)

pub after_value : (s : List Token) (f : Found ElementValue) → (row s).value ≡ Some f → After s f.rest
after_value s f e = After-value ((below s).value f e)

pub ends_value : (s : List Token) (f : Found ElementValue) → (row s).value ≡ Some f → Ends s f.rest
ends_value s f e = to_ends (after_value s f e)

pub within_value : (s : List Token) → IsWithin s (spot ((stands s).value))
unfolding stands
within_value s = is_within s _ (ends_value s)

pub after_element : (s : List Token) (f : Found Element) → (row s).element ≡ Some f → After s f.rest
after_element s f e = After-element ((below s).element f e)

pub ends_element : (s : List Token) (f : Found Element) → (row s).element ≡ Some f → Ends s f.rest
ends_element s f e = to_ends (after_element s f e)

pub within_element : (s : List Token) → IsWithin s (spot ((stands s).element))
unfolding stands
within_element s = is_within s _ (ends_element s)

pub ends_elements : (s : List Token) (f : Found (List Element)) → (row s).elements ≡ Some f → Ends s f.rest
ends_elements s f e = Ends-elements ((below s).elements f e)

pub within_elements : (s : List Token) → IsWithin s (spot ((stands s).elements))
unfolding stands
within_elements s = is_within s _ (ends_elements s)

pub after_exprs : (h : Bool) (s : List Token) (f : Found (List Expr)) → (row s).exprs h ≡ Some f → After s f.rest
after_exprs h s f e = After-exprs ((below s).exprs h f e)

pub ends_exprs : (h : Bool) (s : List Token) (f : Found (List Expr)) → (row s).exprs h ≡ Some f → Ends s f.rest
ends_exprs h s f e = to_ends (after_exprs h s f e)

pub within_exprs : (h : Bool) (s : List Token) → IsWithin s (spot ((stands s).exprs h))
unfolding stands
within_exprs h s = is_within s _ (ends_exprs h s)

pub after_simple : (h : Bool) (s : List Token) (f : Found Simple) → (row s).simple h ≡ Some f → After s f.rest
after_simple h s f e = After-simple ((below s).simple h f e)

pub ends_simple : (h : Bool) (s : List Token) (f : Found Simple) → (row s).simple h ≡ Some f → Ends s f.rest
ends_simple h s f e = to_ends (after_simple h s f e)

pub within_simple : (h : Bool) (s : List Token) → IsWithin s (spot ((stands s).simple h))
unfolding stands
within_simple h s = is_within s _ (ends_simple h s)

pub after_const_spec : (i : Bool) (s : List Token) (f : Found ConstSpec) → (row s).const_spec i ≡ Some f → After s f.rest
after_const_spec i s f e = After-const_spec ((below s).const_spec i f e)

pub ends_const_spec : (i : Bool) (s : List Token) (f : Found ConstSpec) → (row s).const_spec i ≡ Some f → Ends s f.rest
ends_const_spec i s f e = to_ends (after_const_spec i s f e)

pub within_const_spec : (i : Bool) (s : List Token) → IsWithin s (spot ((stands s).const_spec i))
unfolding stands
within_const_spec i s = is_within s _ (ends_const_spec i s)

pub ends_const_specs : (i : Bool) (s : List Token) (f : Found (List ConstSpec)) → (row s).const_specs i ≡ Some f → Ends s f.rest
ends_const_specs i s f e = Ends-const_specs ((below s).const_specs i f e)

pub within_const_specs : (i : Bool) (s : List Token) → IsWithin s (spot ((stands s).const_specs i))
unfolding stands
within_const_specs i s = is_within s _ (ends_const_specs i s)

pub after_type_spec : (s : List Token) (f : Found TypeSpec) → (row s).type_spec ≡ Some f → After s f.rest
after_type_spec s f e = After-type_spec ((below s).type_spec f e)

pub ends_type_spec : (s : List Token) (f : Found TypeSpec) → (row s).type_spec ≡ Some f → Ends s f.rest
ends_type_spec s f e = to_ends (after_type_spec s f e)

pub within_type_spec : (s : List Token) → IsWithin s (spot ((stands s).type_spec))
unfolding stands
within_type_spec s = is_within s _ (ends_type_spec s)

pub ends_type_specs : (s : List Token) (f : Found (List TypeSpec)) → (row s).type_specs ≡ Some f → Ends s f.rest
ends_type_specs s f e = Ends-type_specs ((below s).type_specs f e)

pub within_type_specs : (s : List Token) → IsWithin s (spot ((stands s).type_specs))
unfolding stands
within_type_specs s = is_within s _ (ends_type_specs s)

pub after_var_spec : (s : List Token) (f : Found VarSpec) → (row s).var_spec ≡ Some f → After s f.rest
after_var_spec s f e = After-var_spec ((below s).var_spec f e)

pub ends_var_spec : (s : List Token) (f : Found VarSpec) → (row s).var_spec ≡ Some f → Ends s f.rest
ends_var_spec s f e = to_ends (after_var_spec s f e)

pub within_var_spec : (s : List Token) → IsWithin s (spot ((stands s).var_spec))
unfolding stands
within_var_spec s = is_within s _ (ends_var_spec s)

pub ends_var_specs : (s : List Token) (f : Found (List VarSpec)) → (row s).var_specs ≡ Some f → Ends s f.rest
ends_var_specs s f e = Ends-var_specs ((below s).var_specs f e)

pub within_var_specs : (s : List Token) → IsWithin s (spot ((stands s).var_specs))
unfolding stands
within_var_specs s = is_within s _ (ends_var_specs s)

pub after_decl : (s : List Token) (f : Found Decl) → (row s).decl ≡ Some f → After s f.rest
after_decl s f e = After-decl ((below s).decl f e)

pub ends_decl : (s : List Token) (f : Found Decl) → (row s).decl ≡ Some f → Ends s f.rest
ends_decl s f e = to_ends (after_decl s f e)

pub within_decl : (s : List Token) → IsWithin s (spot ((stands s).decl))
unfolding stands
within_decl s = is_within s _ (ends_decl s)

pub ends_values : (s : List Token) (f : Found (List Expr)) → (row s).values ≡ Some f → Ends s f.rest
ends_values s f e = Ends-values ((below s).values f e)

pub within_values : (s : List Token) → IsWithin s (spot ((stands s).values))
unfolding stands
within_values s = is_within s _ (ends_values s)

pub ends_target : (s : List Token) (f : Found (Option Token)) → (row s).target ≡ Some f → Ends s f.rest
ends_target s f e = Ends-target ((below s).target f e)

pub within_target : (s : List Token) → IsWithin s (spot ((stands s).target))
unfolding stands
within_target s = is_within s _ (ends_target s)

pub after_arm : (s : List Token) (f : Found Arm) → (row s).arm ≡ Some f → After s f.rest
after_arm s f e = After-arm ((below s).arm f e)

pub ends_arm : (s : List Token) (f : Found Arm) → (row s).arm ≡ Some f → Ends s f.rest
ends_arm s f e = to_ends (after_arm s f e)

pub within_arm : (s : List Token) → IsWithin s (spot ((stands s).arm))
unfolding stands
within_arm s = is_within s _ (ends_arm s)

pub after_arms : (s : List Token) (f : Found (List Arm × Option Block)) → (row s).arms ≡ Some f → After s f.rest
after_arms s f e = After-arms ((below s).arms f e)

pub ends_arms : (s : List Token) (f : Found (List Arm × Option Block)) → (row s).arms ≡ Some f → Ends s f.rest
ends_arms s f e = to_ends (after_arms s f e)

pub within_arms : (s : List Token) → IsWithin s (spot ((stands s).arms))
unfolding stands
within_arms s = is_within s _ (ends_arms s)

pub ends_tag_value : (s : List Token) (f : Found (Option Expr)) → (row s).tag_value ≡ Some f → Ends s f.rest
ends_tag_value s f e = Ends-tag_value ((below s).tag_value f e)

pub within_tag_value : (s : List Token) → IsWithin s (spot ((stands s).tag_value))
unfolding stands
within_tag_value s = is_within s _ (ends_tag_value s)

pub after_guard : (s : List Token) (f : Found (Option (Token × Span) × Expr × Span)) → (row s).guard ≡ Some f → After s f.rest
after_guard s f e = After-guard ((below s).guard f e)

pub ends_guard : (s : List Token) (f : Found (Option (Token × Span) × Expr × Span)) → (row s).guard ≡ Some f → Ends s f.rest
ends_guard s f e = to_ends (after_guard s f e)

pub within_guard : (s : List Token) → IsWithin s (spot ((stands s).guard))
unfolding stands
within_guard s = is_within s _ (ends_guard s)

pub ends_clauses : (s : List Token) (f : Found (List Clause)) → (row s).clauses ≡ Some f → Ends s f.rest
ends_clauses s f e = Ends-clauses ((below s).clauses f e)

pub within_clauses : (s : List Token) → IsWithin s (spot ((stands s).clauses))
unfolding stands
within_clauses s = is_within s _ (ends_clauses s)

pub after_types : (s : List Token) (f : Found (List TypeExpr)) → (row s).types ≡ Some f → After s f.rest
after_types s f e = After-types ((below s).types f e)

pub ends_types : (s : List Token) (f : Found (List TypeExpr)) → (row s).types ≡ Some f → Ends s f.rest
ends_types s f e = to_ends (after_types s f e)

pub within_types : (s : List Token) → IsWithin s (spot ((stands s).types))
unfolding stands
within_types s = is_within s _ (ends_types s)

pub ends_type_clauses : (s : List Token) (f : Found (List TypeClause)) → (row s).type_clauses ≡ Some f → Ends s f.rest
ends_type_clauses s f e = Ends-type_clauses ((below s).type_clauses f e)

pub within_type_clauses : (s : List Token) → IsWithin s (spot ((stands s).type_clauses))
unfolding stands
within_type_clauses s = is_within s _ (ends_type_clauses s)

pub after_comm : (s : List Token) (f : Found Comm) → (row s).comm ≡ Some f → After s f.rest
after_comm s f e = After-comm ((below s).comm f e)

pub ends_comm : (s : List Token) (f : Found Comm) → (row s).comm ≡ Some f → Ends s f.rest
ends_comm s f e = to_ends (after_comm s f e)

pub within_comm : (s : List Token) → IsWithin s (spot ((stands s).comm))
unfolding stands
within_comm s = is_within s _ (ends_comm s)

pub ends_comm_clauses : (s : List Token) (f : Found (List CommClause)) → (row s).comm_clauses ≡ Some f → Ends s f.rest
ends_comm_clauses s f e = Ends-comm_clauses ((below s).comm_clauses f e)

pub within_comm_clauses : (s : List Token) → IsWithin s (spot ((stands s).comm_clauses))
unfolding stands
within_comm_clauses s = is_within s _ (ends_comm_clauses s)

pub after_header : (s : List Token) (f : Found Simple) → (row s).header ≡ Some f → After s f.rest
after_header s f e = After-header ((below s).header f e)

pub ends_header : (s : List Token) (f : Found Simple) → (row s).header ≡ Some f → Ends s f.rest
ends_header s f e = to_ends (after_header s f e)

pub within_header : (s : List Token) → IsWithin s (spot ((stands s).header))
unfolding stands
within_header s = is_within s _ (ends_header s)

pub ends_condition : (s : List Token) (f : Found (Option Expr)) → (row s).condition ≡ Some f → Ends s f.rest
ends_condition s f e = Ends-condition ((below s).condition f e)

pub within_condition : (s : List Token) → IsWithin s (spot ((stands s).condition))
unfolding stands
within_condition s = is_within s _ (ends_condition s)

pub ends_post : (s : List Token) (f : Found Simple) → (row s).post ≡ Some f → Ends s f.rest
ends_post s f e = Ends-post ((below s).post f e)

pub within_post : (s : List Token) → IsWithin s (spot ((stands s).post))
unfolding stands
within_post s = is_within s _ (ends_post s)

pub after_range_left : (s : List Token) (f : Found RangeLeft) → (row s).range_left ≡ Some f → After s f.rest
after_range_left s f e = After-range_left ((below s).range_left f e)

pub ends_range_left : (s : List Token) (f : Found RangeLeft) → (row s).range_left ≡ Some f → Ends s f.rest
ends_range_left s f e = to_ends (after_range_left s f e)

pub within_range_left : (s : List Token) → IsWithin s (spot ((stands s).range_left))
unfolding stands
within_range_left s = is_within s _ (ends_range_left s)

pub after_stmt : (s : List Token) (f : Found Stmt) → (row s).stmt ≡ Some f → After s f.rest
after_stmt s f e = After-stmt ((below s).stmt f e)

pub ends_stmt : (s : List Token) (f : Found Stmt) → (row s).stmt ≡ Some f → Ends s f.rest
ends_stmt s f e = to_ends (after_stmt s f e)

pub within_stmt : (s : List Token) → IsWithin s (spot ((stands s).stmt))
unfolding stands
within_stmt s = is_within s _ (ends_stmt s)

pub ends_stmts : (s : List Token) (f : Found (List Stmt)) → (row s).stmts ≡ Some f → Ends s f.rest
ends_stmts s f e = Ends-stmts ((below s).stmts f e)

pub within_stmts : (s : List Token) → IsWithin s (spot ((stands s).stmts))
unfolding stands
within_stmts s = is_within s _ (ends_stmts s)

pub after_import_spec : (s : List Token) (f : Found ImportSpec) → (row s).import_spec ≡ Some f → After s f.rest
after_import_spec s f e = After-import_spec ((below s).import_spec f e)

pub ends_import_spec : (s : List Token) (f : Found ImportSpec) → (row s).import_spec ≡ Some f → Ends s f.rest
ends_import_spec s f e = to_ends (after_import_spec s f e)

pub within_import_spec : (s : List Token) → IsWithin s (spot ((stands s).import_spec))
unfolding stands
within_import_spec s = is_within s _ (ends_import_spec s)

pub ends_import_specs : (s : List Token) (f : Found (List ImportSpec)) → (row s).import_specs ≡ Some f → Ends s f.rest
ends_import_specs s f e = Ends-import_specs ((below s).import_specs f e)

pub within_import_specs : (s : List Token) → IsWithin s (spot ((stands s).import_specs))
unfolding stands
within_import_specs s = is_within s _ (ends_import_specs s)

pub ends_body : (s : List Token) (f : Found (Option Block)) → (row s).body ≡ Some f → Ends s f.rest
ends_body s f e = Ends-body ((below s).body f e)

pub within_body : (s : List Token) → IsWithin s (spot ((stands s).body))
unfolding stands
within_body s = is_within s _ (ends_body s)

pub after_top : (s : List Token) (f : Found Top) → (row s).top ≡ Some f → After s f.rest
after_top s f e = After-top ((below s).top f e)

pub ends_top : (s : List Token) (f : Found Top) → (row s).top ≡ Some f → Ends s f.rest
ends_top s f e = to_ends (after_top s f e)

pub within_top : (s : List Token) → IsWithin s (spot ((stands s).top))
unfolding stands
within_top s = is_within s _ (ends_top s)

pub after_chunk : (s : List Token) (f : Found Chunk) → (row s).chunk ≡ Some f → After s f.rest
after_chunk s f e = After-chunk ((below s).chunk f e)

pub ends_chunk : (s : List Token) (f : Found Chunk) → (row s).chunk ≡ Some f → Ends s f.rest
ends_chunk s f e = to_ends (after_chunk s f e)

pub within_chunk : (s : List Token) → IsWithin s (spot ((stands s).chunk))
unfolding stands
within_chunk s = is_within s _ (ends_chunk s)

-- an expression without operators outside brackets
pub expr_zero : (h : Bool) (s : List Token) → (stands s).expr 0 h false ≡ (stands s).unary h false
unfolding stands expr_step rows
expr_zero h [] = refl
expr_zero h (x ∷ s) = expr-cons 0 h false x s ∙ sym (unary-cons h false x s)
