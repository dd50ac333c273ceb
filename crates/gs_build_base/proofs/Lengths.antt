-- A list has at most as many items as there are tokens.
use Rattle.std.proofs.Common.{◌≡◌, ℕ, suc, ◌<◌, ◌≤◌, Bool, List, length, length-append, refl, sym, ap, arith, Option, Some, None}
use Rattle.gs_syntax.specs.declared.token.Span.{Span}
use Rattle.gs_syntax.specs.declared.token.Token.{Token}
use Rattle.gs_grammar.specs.declared.trees.Parameter.{Parameter}
use Rattle.gs_grammar.specs.declared.trees.Field.{Field}
use Rattle.gs_grammar.specs.declared.trees.Member.{Member}
use Rattle.gs_grammar.specs.declared.trees.Expr.{Expr}
use Rattle.gs_grammar.specs.declared.trees.Suffix.{Suffix}
use Rattle.gs_grammar.specs.declared.trees.Element.{Element}
use Rattle.gs_grammar.specs.declared.trees.ConstSpec.{ConstSpec}
use Rattle.gs_grammar.specs.declared.trees.TypeSpec.{TypeSpec}
use Rattle.gs_grammar.specs.declared.trees.VarSpec.{VarSpec}
use Rattle.gs_grammar.specs.declared.trees.Arm.{Arm}
use Rattle.gs_grammar.specs.declared.trees.Block.{Block}
use Rattle.gs_grammar.specs.declared.trees.Clause.{Clause}
use Rattle.gs_grammar.specs.declared.trees.TypeExpr.{TypeExpr}
use Rattle.gs_grammar.specs.declared.trees.TypeClause.{TypeClause}
use Rattle.gs_grammar.specs.declared.trees.CommClause.{CommClause}
use Rattle.gs_grammar.specs.declared.trees.Stmt.{Stmt}
use Rattle.gs_grammar.specs.declared.trees.ImportSpec.{ImportSpec}
use Rattle.gs_grammar.specs.Grammar as g
use Rattle.gs_grammar.specs.Parts.{Found}
use Rattle.gs_grammar.proofs.Common.{length-After, length-Ends, After-mark, After-word, After-name, After-front, some_is, some_is_none}
use Rattle.gs_grammar.proofs.Afters.{After-arm, After-comm, After-const_spec, After-element, After-expr, After-exprs, After-field, After-idents, After-import_spec, After-member, After-operand, After-stmt, After-suffix, After-type, After-type_spec, After-types, After-var_spec, Ends-stmts}
use Rattle.gs_grammar.proofs.Fits.{Sound}
use Rattle.gs_grammar.proofs.Sound.{sound}
use Rattle.gs_grammar.proofs.Whole.{fits}
use Rattle.gs_places.specs.Places.{stands}
use Rattle.gs_build_base.specs.Pieces.{whole, joined, joined_to}

below : (s : List Token) → Sound (g.StandsBelow (suc (length s))) (suc (length s)) s
below s = sound (g.StandsBelow (suc (length s))) (suc (length s)) (fits (suc (length s))) s (omega arith)

-- a list of more items than it can have is none
pub too_many : {A : Type 0} (n : ℕ) (o : Option (Found (List A))) (xs : List A) (p : Option (List A × List Token)) → ((f : Found (List A)) → o ≡ Some f → length f.tree ≤ n) → n < length xs → whole o ≡ joined xs p → whole o ≡ None
unfolding joined
too_many n None xs p few l e = refl
too_many n (Some f) xs None few l e = absurd (some_is_none (sym e))
too_many n (Some f) xs (Some q) few l e = let same = ap (λ z. length z.0) (some_is e) in absurd (omega (arith, few f refl, same, length-append xs q.0))

pub too_many_to : {A E : Type 0} (n : ℕ) (o : Option (Found (List A × E))) (xs : List A) (p : Option ((List A × E) × List Token)) → ((f : Found (List A × E)) → o ≡ Some f → length f.tree.0 ≤ n) → n < length xs → whole o ≡ joined_to xs p → whole o ≡ None
unfolding joined_to
too_many_to n None xs p few l e = refl
too_many_to n (Some f) xs None few l e = absurd (some_is_none (sym e))
too_many_to n (Some f) xs (Some q) few l e = let same = ap (λ z. length z.0.0) (some_is e) in absurd (omega (arith, few f refl, same, length-append xs q.0.0))

idents-few : {S : g.Part → List Token → List Token → Type 0} {t : List Token} {s r : List Token} {d : ℕ} → g.AreNames S t s r d → length t ≤ length s
idents-few (g.AreNames.one_name h1 h2) = omega (arith, length-After (After-name h1))
idents-few (g.AreNames.more_names h1 h2 h3) = omega (arith, length-After (After-name h1), length-After (After-mark h2), idents-few h3)

pub few_idents : (s : List Token) (f : Found (List Token)) → (stands s).idents ≡ Some f → length f.tree ≤ length s
unfolding stands
few_idents s f e = idents-few ((below s).idents f e)

unnamed-few : {S : g.Part → List Token → List Token → Type 0} {v : Bool} {t : List Parameter} {s r : List Token} {d : ℕ} → g.AreUnnamed S v t s r d → length t ≤ length s
unnamed-few (g.AreUnnamed.last_type h1 h2) = omega (arith, length-After (After-type h1))
unnamed-few (g.AreUnnamed.more_types h1 h2 h3 h4) = omega (arith, length-After (After-type h1), length-After (After-mark h2), unnamed-few h4)
unnamed-few (g.AreUnnamed.last_dots h1 h2 h3 h4) = omega (arith, length-After (After-mark h1))

pub few_unnamed : (v : Bool) (s : List Token) (f : Found (List Parameter)) → (stands s).unnamed v ≡ Some f → length f.tree ≤ length s
unfolding stands
few_unnamed v s f e = unnamed-few ((below s).unnamed v f e)

named_params-few : {S : g.Part → List Token → List Token → Type 0} {v : Bool} {t : List Parameter} {s r : List Token} {d : ℕ} → g.AreNamed S v t s r d → length t ≤ length s
named_params-few (g.AreNamed.last_named_dots h1 h2 h3 h4 h5 h6) = omega (arith, length-After (After-idents h1))
named_params-few (g.AreNamed.last_named h1 h2 h3 h4) = omega (arith, length-After (After-idents h1))
named_params-few (g.AreNamed.more_named h1 h2 h3 h4 h5 h6) = omega (arith, length-After (After-idents h1), length-After (After-type h3), length-After (After-mark h4), named_params-few h6)

pub few_named_params : (v : Bool) (s : List Token) (f : Found (List Parameter)) → (stands s).named_params v ≡ Some f → length f.tree ≤ length s
unfolding stands
few_named_params v s f e = named_params-few ((below s).named_params v f e)

fields-few : {S : g.Part → List Token → List Token → Type 0} {t : List Field} {s r : List Token} {d : ℕ} → g.AreFields S t s r d → length t ≤ length s
fields-few (g.AreFields.last_field h1 h2) = omega (arith, length-After (After-field h1))
fields-few (g.AreFields.more_fields h1 h2 h3) = omega (arith, length-After (After-field h1), length-After (After-front h2), fields-few h3)
fields-few (g.AreFields.no_fields h1) = omega arith

pub few_fields : (s : List Token) (f : Found (List Field)) → (stands s).fields ≡ Some f → length f.tree ≤ length s
unfolding stands
few_fields s f e = fields-few ((below s).fields f e)

members-few : {S : g.Part → List Token → List Token → Type 0} {t : List Member} {s r : List Token} {d : ℕ} → g.AreMembers S t s r d → length t ≤ length s
members-few (g.AreMembers.last_member h1 h2) = omega (arith, length-After (After-member h1))
members-few (g.AreMembers.more_members h1 h2 h3) = omega (arith, length-After (After-member h1), length-After (After-front h2), members-few h3)
members-few (g.AreMembers.no_members h1) = omega arith

pub few_members : (s : List Token) (f : Found (List Member)) → (stands s).members ≡ Some f → length f.tree ≤ length s
unfolding stands
few_members s f e = members-few ((below s).members f e)

args-few : {S : g.Part → List Token → List Token → Type 0} {t : List Expr × Option Span} {s r : List Token} {d : ℕ} → g.AreArgs S t s r d → length t.0 ≤ length s
args-few (g.AreArgs.spread h1 h2 h3) = omega (arith, length-After (After-expr h1))
args-few (g.AreArgs.last_arg h1 h2 h3) = omega (arith, length-After (After-expr h1))
args-few (g.AreArgs.more_args h1 h2 h3 h4) = omega (arith, length-After (After-expr h1), length-After (After-mark h2), args-few h4)
args-few (g.AreArgs.no_args h1) = omega arith

pub few_args : (s : List Token) (f : Found (List Expr × Option Span)) → (stands s).args ≡ Some f → length f.tree.0 ≤ length s
unfolding stands
few_args s f e = args-few ((below s).args f e)

suffixes-few : {S : g.Part → List Token → List Token → Type 0} {t : List Suffix} {s r : List Token} {d : ℕ} → g.AreSuffixes S t s r d → length t ≤ length s
suffixes-few (g.AreSuffixes.more_suffixes h1 h2) = omega (arith, length-After (After-suffix h1), suffixes-few h2)
suffixes-few (g.AreSuffixes.no_suffixes h1) = omega arith

pub few_suffixes : (s : List Token) (f : Found (List Suffix)) → (stands s).suffixes ≡ Some f → length f.tree ≤ length s
unfolding stands
few_suffixes s f e = suffixes-few ((below s).suffixes (omega arith) f e)

operands-few : {S : g.Part → List Token → List Token → Type 0} {m : ℕ} {h : Bool} {t : List (Token × Expr)} {s r : List Token} {d : ℕ} → g.AreOperands S m h t s r d → length t ≤ length s
operands-few (g.AreOperands.more_operands h1 h2) = omega (arith, length-After (After-operand h1), operands-few h2)
operands-few (g.AreOperands.no_operands h1) = omega arith

pub few_operands : (m : ℕ) (h : Bool) (s : List Token) (f : Found (List (Token × Expr))) → (stands s).operands m h ≡ Some f → length f.tree ≤ length s
unfolding stands
few_operands m h s f e = operands-few ((below s).operands m h (omega arith) f e)

elements-few : {S : g.Part → List Token → List Token → Type 0} {t : List Element} {s r : List Token} {d : ℕ} → g.AreElements S t s r d → length t ≤ length s
elements-few (g.AreElements.last_element h1 h2) = omega (arith, length-After (After-element h1))
elements-few (g.AreElements.more_elements h1 h2 h3 h4) = omega (arith, length-After (After-element h1), length-After (After-mark h2), elements-few h4)
elements-few (g.AreElements.no_elements h1) = omega arith

pub few_elements : (s : List Token) (f : Found (List Element)) → (stands s).elements ≡ Some f → length f.tree ≤ length s
unfolding stands
few_elements s f e = elements-few ((below s).elements f e)

exprs-few : {S : g.Part → List Token → List Token → Type 0} {h : Bool} {t : List Expr} {s r : List Token} {d : ℕ} → g.AreExprs S h t s r d → length t ≤ length s
exprs-few (g.AreExprs.one_expr h1 h2) = omega (arith, length-After (After-expr h1))
exprs-few (g.AreExprs.more_exprs h1 h2 h3) = omega (arith, length-After (After-expr h1), length-After (After-mark h2), exprs-few h3)

pub few_exprs : (h : Bool) (s : List Token) (f : Found (List Expr)) → (stands s).exprs h ≡ Some f → length f.tree ≤ length s
unfolding stands
few_exprs h s f e = exprs-few ((below s).exprs h f e)

const_specs-few : {S : g.Part → List Token → List Token → Type 0} {i : Bool} {t : List ConstSpec} {s r : List Token} {d : ℕ} → g.AreConstSpecs S i t s r d → length t ≤ length s
const_specs-few (g.AreConstSpecs.last_const h1 h2) = omega (arith, length-After (After-const_spec h1))
const_specs-few (g.AreConstSpecs.more_consts h1 h2 h3) = omega (arith, length-After (After-const_spec h1), length-After (After-front h2), const_specs-few h3)
const_specs-few (g.AreConstSpecs.no_consts h1) = omega arith

pub few_const_specs : (i : Bool) (s : List Token) (f : Found (List ConstSpec)) → (stands s).const_specs i ≡ Some f → length f.tree ≤ length s
unfolding stands
few_const_specs i s f e = const_specs-few ((below s).const_specs i f e)

type_specs-few : {S : g.Part → List Token → List Token → Type 0} {t : List TypeSpec} {s r : List Token} {d : ℕ} → g.AreTypeSpecs S t s r d → length t ≤ length s
type_specs-few (g.AreTypeSpecs.last_type_spec h1 h2) = omega (arith, length-After (After-type_spec h1))
type_specs-few (g.AreTypeSpecs.more_type_specs h1 h2 h3) = omega (arith, length-After (After-type_spec h1), length-After (After-front h2), type_specs-few h3)
type_specs-few (g.AreTypeSpecs.no_type_specs h1) = omega arith

pub few_type_specs : (s : List Token) (f : Found (List TypeSpec)) → (stands s).type_specs ≡ Some f → length f.tree ≤ length s
unfolding stands
few_type_specs s f e = type_specs-few ((below s).type_specs f e)

var_specs-few : {S : g.Part → List Token → List Token → Type 0} {t : List VarSpec} {s r : List Token} {d : ℕ} → g.AreVarSpecs S t s r d → length t ≤ length s
var_specs-few (g.AreVarSpecs.last_var h1 h2) = omega (arith, length-After (After-var_spec h1))
var_specs-few (g.AreVarSpecs.more_vars h1 h2 h3) = omega (arith, length-After (After-var_spec h1), length-After (After-front h2), var_specs-few h3)
var_specs-few (g.AreVarSpecs.no_vars h1) = omega arith

pub few_var_specs : (s : List Token) (f : Found (List VarSpec)) → (stands s).var_specs ≡ Some f → length f.tree ≤ length s
unfolding stands
few_var_specs s f e = var_specs-few ((below s).var_specs f e)

arms-few : {S : g.Part → List Token → List Token → Type 0} {t : List Arm × Option Block} {s r : List Token} {d : ℕ} → g.AreArms S t s r d → length t.0 ≤ length s
arms-few (g.AreArms.last_arm h1 h2) = omega (arith, length-After (After-arm h1))
arms-few (g.AreArms.more_arms h1 h2 h3 h4) = omega (arith, length-After (After-arm h1), length-After (After-word h2), length-After (After-word h3), arms-few h4)
arms-few (g.AreArms.last_block h1 h2 h3 h4) = omega (arith, length-After (After-arm h1))

pub few_arms : (s : List Token) (f : Found (List Arm × Option Block)) → (stands s).arms ≡ Some f → length f.tree.0 ≤ length s
unfolding stands
few_arms s f e = arms-few ((below s).arms f e)

clauses-few : {S : g.Part → List Token → List Token → Type 0} {t : List Clause} {s r : List Token} {d : ℕ} → g.AreClauses S t s r d → length t ≤ length s
clauses-few (g.AreClauses.a_case h1 h2 h3 h4 h5) = omega (arith, length-After (After-word h1), length-After (After-exprs h2), length-After (After-mark h3), length-Ends (Ends-stmts h4), clauses-few h5)
clauses-few (g.AreClauses.a_default h1 h2 h3 h4) = omega (arith, length-After (After-word h1), length-After (After-mark h2), length-Ends (Ends-stmts h3), clauses-few h4)
clauses-few (g.AreClauses.no_clauses h1) = omega arith

pub few_clauses : (s : List Token) (f : Found (List Clause)) → (stands s).clauses ≡ Some f → length f.tree ≤ length s
unfolding stands
few_clauses s f e = clauses-few ((below s).clauses f e)

types-few : {S : g.Part → List Token → List Token → Type 0} {t : List TypeExpr} {s r : List Token} {d : ℕ} → g.AreTypes S t s r d → length t ≤ length s
types-few (g.AreTypes.one_type h1 h2) = omega (arith, length-After (After-type h1))
types-few (g.AreTypes.more_cases h1 h2 h3) = omega (arith, length-After (After-type h1), length-After (After-mark h2), types-few h3)

pub few_types : (s : List Token) (f : Found (List TypeExpr)) → (stands s).types ≡ Some f → length f.tree ≤ length s
unfolding stands
few_types s f e = types-few ((below s).types f e)

type_clauses-few : {S : g.Part → List Token → List Token → Type 0} {t : List TypeClause} {s r : List Token} {d : ℕ} → g.AreTypeClauses S t s r d → length t ≤ length s
type_clauses-few (g.AreTypeClauses.a_type_case h1 h2 h3 h4 h5) = omega (arith, length-After (After-word h1), length-After (After-types h2), length-After (After-mark h3), length-Ends (Ends-stmts h4), type_clauses-few h5)
type_clauses-few (g.AreTypeClauses.a_type_default h1 h2 h3 h4) = omega (arith, length-After (After-word h1), length-After (After-mark h2), length-Ends (Ends-stmts h3), type_clauses-few h4)
type_clauses-few (g.AreTypeClauses.no_type_clauses h1) = omega arith

pub few_type_clauses : (s : List Token) (f : Found (List TypeClause)) → (stands s).type_clauses ≡ Some f → length f.tree ≤ length s
unfolding stands
few_type_clauses s f e = type_clauses-few ((below s).type_clauses f e)

comm_clauses-few : {S : g.Part → List Token → List Token → Type 0} {t : List CommClause} {s r : List Token} {d : ℕ} → g.AreCommClauses S t s r d → length t ≤ length s
comm_clauses-few (g.AreCommClauses.a_comm h1 h2 h3 h4 h5) = omega (arith, length-After (After-word h1), length-After (After-comm h2), length-After (After-mark h3), length-Ends (Ends-stmts h4), comm_clauses-few h5)
comm_clauses-few (g.AreCommClauses.a_comm_default h1 h2 h3 h4) = omega (arith, length-After (After-word h1), length-After (After-mark h2), length-Ends (Ends-stmts h3), comm_clauses-few h4)
comm_clauses-few (g.AreCommClauses.no_comms h1) = omega arith

pub few_comm_clauses : (s : List Token) (f : Found (List CommClause)) → (stands s).comm_clauses ≡ Some f → length f.tree ≤ length s
unfolding stands
few_comm_clauses s f e = comm_clauses-few ((below s).comm_clauses f e)

stmts-few : {S : g.Part → List Token → List Token → Type 0} {t : List Stmt} {s r : List Token} {d : ℕ} → g.AreStmts S t s r d → length t ≤ length s
stmts-few (g.AreStmts.last_stmt h1 h2) = omega (arith, length-After (After-stmt h1))
stmts-few (g.AreStmts.more_stmts h1 h2 h3) = omega (arith, length-After (After-stmt h1), length-After (After-front h2), stmts-few h3)
stmts-few (g.AreStmts.empty_stmt h1 h2) = omega (arith, length-After (After-front h1), stmts-few h2)
stmts-few (g.AreStmts.no_stmts h1) = omega arith

pub few_stmts : (s : List Token) (f : Found (List Stmt)) → (stands s).stmts ≡ Some f → length f.tree ≤ length s
unfolding stands
few_stmts s f e = stmts-few ((below s).stmts f e)

import_specs-few : {S : g.Part → List Token → List Token → Type 0} {t : List ImportSpec} {s r : List Token} {d : ℕ} → g.AreImportSpecs S t s r d → length t ≤ length s
import_specs-few (g.AreImportSpecs.last_import h1 h2) = omega (arith, length-After (After-import_spec h1))
import_specs-few (g.AreImportSpecs.more_imports h1 h2 h3) = omega (arith, length-After (After-import_spec h1), length-After (After-front h2), import_specs-few h3)
import_specs-few (g.AreImportSpecs.no_imports h1) = omega arith

pub few_import_specs : (s : List Token) (f : Found (List ImportSpec)) → (stands s).import_specs ≡ Some f → length f.tree ≤ length s
unfolding stands
few_import_specs s f e = import_specs-few ((below s).import_specs f e)
